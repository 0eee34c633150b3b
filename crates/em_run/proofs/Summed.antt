-- A run on made texts ends as the run of its task on them did, with its summary in place of the answers.
use Rattle.std.proofs.Common.{◌≡◌, ℕ, ◌+◌, ◌≤◌, List, Option, Some, None, IfSome, ap, sym, subst, ◌∙◌, refl, arith, true, IsTrue, ◌<◌}
use Rattle.em_record.specs.Shape.{ShapeNumbers}
use Rattle.em_io.specs.Shelf.{SlotState, Stand}
use Rattle.em_io.specs.Sink.{IsRule, SentPart}
use Rattle.em_io.specs.declared.shelf.Slot.{Slot}
use Rattle.em_io.proofs.Sent.{part-of, sent-all, sent-nothing}
use Rattle.em_gen.specs.Tally.{tallied, three}
use Rattle.em_ends.specs.Asked.{Asked}
use Rattle.em_run.specs.Made.{read_whole, summary_if, summary_of, summary_text, summed_up, whole}
use Rattle.em_ends.specs.Ended.{Ended, Outside}
use Rattle.em_ends.specs.Status.{OnUsage}
use Rattle.em_words.specs.declared.job.Task.{Task}
use Rattle.em_ends.specs.declared.status.Malform.{Malform}
use Rattle.em_ends.specs.declared.status.Status.{Status}
use Rattle.em_ends.specs.declared.status.Status.TheVariants.{Done, Malformed, ReadFault, WriteFault, DeviceFault, Full, NoMemory, Damaged}
use Rattle.em_ends.specs.declared.status.Status.TheVariants as status
use Rattle.em_ends.proofs.EndLaws.{ended_device, ended_no_memory, ended_read}

-- Moves that were within a number by how far each slot was read are within that for whole texts.
moves_whole : (moves : Option (ShapeNumbers → (Slot → SlotState) → ℕ)) (shape : ShapeNumbers)
    (slots other : Slot → SlotState) (before after : ℕ)
    → IfSome moves (λ f. f shape slots ≤ f shape (λ slot. read_whole))
    → IfSome moves (λ f. after ≤ before + f shape slots)
    → IfSome (whole moves) (λ f. after ≤ before + f shape other)
moves_whole None shape slots other before after r h = tt
moves_whole (Some f) shape slots other before after r h = omega (arith, r, h)

-- So are blocks that were fewer than are enough.
room_whole : (room : Option (ShapeNumbers → (Slot → SlotState) → ℕ)) (shape : ShapeNumbers)
    (slots other : Slot → SlotState) (used : ℕ)
    → IfSome room (λ f. f shape slots ≤ f shape (λ slot. read_whole))
    → IfSome room (λ f. used < f shape slots) → IfSome (whole room) (λ f. used < f shape other)
room_whole None shape slots other used r h = tt
room_whole (Some f) shape slots other used r h = omega (arith, r, h)

-- So are the most that were in use.
pub most_whole : (room : Option (ShapeNumbers → (Slot → SlotState) → ℕ)) (shape : ShapeNumbers)
    (slots other : Slot → SlotState) (most : ℕ)
    → IfSome room (λ f. f shape slots ≤ f shape (λ slot. read_whole))
    → IfSome room (λ f. most ≤ f shape slots) → IfSome (whole room) (λ f. most ≤ f shape other)
most_whole None shape slots other most r h = tt
most_whole (Some f) shape slots other most r h = omega (arith, r, h)

-- The task's run left the tally `last`, and `b` on the made shelf.
module _ {IsState : List ℕ → Type 0} {took : List ℕ → List ℕ → List ℕ} (rule : IsRule IsState took)
    (task : Task) (count : ℕ) (asked : Asked) (shape : ShapeNumbers) (blocks : ℕ)
    (old new : Outside) (a b : Stand) (last : List ℕ) (ok : IsState old.output) where
  -- the outside of the task's run
  abbrev first : Outside
  first = record {
    device = old.device;
    output = three 0 0 0;
    stand = a;
    read_faults = 0;
    write_faults = 0;
  }

  abbrev after : Outside
  after = record {
    device = new.device;
    output = last;
    stand = b;
    read_faults = 0;
    write_faults = 0;
  }

  abbrev Inner : Status → Type 0
  Inner s = Ended true tallied asked shape blocks first after s

  abbrev Outer : Status → Type 0
  Outer s = Ended true took (summed_up task count asked) shape blocks old new s

  abbrev summary : List ℕ
  summary = summary_of task count asked.output

  -- no summary is due at a fault
  none_due : (kind : Malform) (place : ℕ) → Malformed kind place ≡ asked.status
      → new.output ≡ old.output → new.output ≡ took old.output (summary_if asked.status summary)
  none_due kind place e same =
      same ∙ sym (rule.nothing old.output ok)
      ∙ ap (λ (s : Status). took old.output (summary_if s summary)) e

  part_none : new.output ≡ old.output
      → SentPart took old.output (summary_if asked.status summary) new.output
  part_none same = part-of (sent-nothing rule ok (summary_if asked.status summary) same)

  -- the blocks that are enough for whole texts are no fewer
  abbrev Rises : Type 0
  Rises = IfSome asked.room (λ f. f shape b.slot ≤ f shape (λ slot. read_whole))

  -- so are the moves that it may make
  abbrev MovesRise : Type 0
  MovesRise = IfSome asked.moves (λ f. f shape b.slot ≤ f shape (λ slot. read_whole))

  kept : MovesRise → (IsTrue old.device.told
      → IfSome asked.moves (λ f. new.device.moves ≤ old.device.moves + f shape b.slot))
      → IsTrue true → IsTrue old.device.told
      → IfSome (whole asked.moves) (λ f. new.device.moves ≤ old.device.moves + f shape new.stand.slot)
  kept m h t d =
      moves_whole asked.moves shape b.slot new.stand.slot old.device.moves new.device.moves m (h d)

  -- It isn't done, and nothing was printed. A tally doesn't fail.
  pub ends_unsummed : (s : Status) → (s ≡ Done → ⊥) → (s ≡ WriteFault → ⊥) → OnUsage s ⊥ → Rises
      → MovesRise → new.output ≡ old.output → Inner s → Outer s
  ends_unsummed Done n w u r m same e = absurd (n refl)
  ends_unsummed WriteFault n w u r m same e = absurd (w refl)
  ends_unsummed (status.Usage kind word) n w u r m same e = absurd u
  ends_unsummed ReadFault n w u r m same e =
      ended_read rule true (summed_up task count asked) shape blocks old new ok same
      (kept m (e.moves refl))
  ends_unsummed DeviceFault n w u r m same e =
      ended_device rule true (summed_up task count asked) shape blocks old new ok same
      (kept m (e.moves refl))
  ends_unsummed NoMemory n w u r m same e =
      ended_no_memory rule true (summed_up task count asked) shape blocks old new ok same
      (kept m (e.moves refl))
  ends_unsummed (Malformed kind place) n w u r m same e = record {
    answers = λ t d. ((e.answers refl d).0, none_due kind place (e.answers refl d).0 same);
    due = λ t d. e.due refl d;
    prefix = λ t d. part_none same;
    full = tt;
    paid = tt;
    room = λ t d. tt;
    moves = kept m (e.moves refl);
    damaged = tt;
  }
  ends_unsummed (Full used) n w u r m same e = record {
    answers = λ t d. tt;
    due = λ t d. tt;
    prefix = λ t d. part_none same;
    full = e.full;
    paid = e.paid;
    room = λ t d. room_whole asked.room shape b.slot new.stand.slot used r (e.room refl d);
    moves = kept m (e.moves refl);
    damaged = tt;
  }
  ends_unsummed (Damaged block) n w u r m same e = record {
    answers = λ t d. tt;
    due = λ t d. tt;
    prefix = λ t d. part_none same;
    full = tt;
    paid = tt;
    room = λ t d. tt;
    moves = kept m (e.moves refl);
    damaged = e.damaged;
  }

  -- It is done, and the tally has the numbers of what is due.
  summary_due : Inner Done → IsTrue old.device.told
      → summary_text task count last ≡ summary_if asked.status summary
  summary_due e d =
      let x = e.answers refl d in
      ap (summary_text task count) x.1 ∙ ap (λ (s : Status). summary_if s summary) x.0

  -- The summary was printed.
  pub ends_summed : MovesRise → Inner Done → new.output ≡ took old.output (summary_text task count last)
      → Outer Done
  ends_summed m e all = record {
    answers = λ t d. ((e.answers refl d).0, all ∙ ap (took old.output) (summary_due e d));
    due = λ t d. e.due refl d;
    prefix = λ t d. part-of (sent-all (all ∙ ap (took old.output) (summary_due e d)));
    full = tt;
    paid = tt;
    room = λ t d. tt;
    moves = kept m (e.moves refl);
    damaged = tt;
  }

  -- A front of it went out.
  pub ends_cut : MovesRise → Inner Done → SentPart took old.output (summary_text task count last) new.output
      → Outer WriteFault
  ends_cut m e part = record {
    answers = λ t d. tt;
    due = λ t d. tt;
    prefix = λ t d. subst (λ (bytes : List ℕ). SentPart took old.output bytes new.output)
        (summary_due e d) part;
    full = tt;
    paid = tt;
    room = λ t d. tt;
    moves = kept m (e.moves refl);
    damaged = tt;
  }
