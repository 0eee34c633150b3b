-- The file that the run of a command file opens.
use Rattle.std.proofs.Common.{◌≡◌, ℕ, ◌+◌, ◌<◌, ◌≤◌, Bool, true, List, Option, Some, IfSome, ap, sym, subst, ◌∙◌, IsTrue, IsFalse, ◌||◌, [], refl, IsNone, IsSome, is_none, unwrap_or}
use Rattle.em_record.specs.Cost.{room}
use Rattle.em_record.specs.Shape.{ShapeNumbers}
use Rattle.em_io.specs.declared.shelf.Slot.{Slot}
use Rattle.em_io.specs.declared.shelf.Slot.TheVariants.{First, Second}
use Rattle.em_io.specs.Sink.{SentPart}
use Rattle.em_frames.specs.Device.{DeviceState}
use Rattle.em_space.specs.Rig.{RigState, Touches}
use Rattle.em_answers.specs.Limits.{asked_of_file, by_cost}
use Rattle.em_answers.specs.Reading.{KeepsRoom as KeepsTextRoom}
use Rattle.em_answers.specs.FileDue.{due_status, output_text}
use Rattle.em_model.specs.Map.{Combiner}
use Rattle.em_settle.specs.declared.combine.Combine.{Combine}
use Rattle.em_ends.specs.Ended.{Ended, KeepsRoom, Outside}
use Rattle.em_ends.specs.Status.{IfEndsDamaged, IfEndsFull, OnEnd, OnDone}
use Rattle.em_ends.specs.declared.status.Status.{Status}
use Rattle.em_ends.specs.declared.status.Status.TheVariants.{ReadFault}
use Rattle.em_lines.specs.RunSize.{run_size}
use Rattle.em_lines.specs.declared.text.FileKind.{FileKind}
use Rattle.em_io.specs.Shelf.{IsFresh, Leaves, SlotState, Stand}
use Rattle.em_run.specs.Tasks.{names_of, OpensNamed}
use Rattle.em_ends.specs.Opens.{text_in, IsAllRead, ReadsNamed, ReadsFirst}
use Rattle.em_words.specs.declared.job.Task.TheVariants.{Answer}
use Rattle.em_ends.proofs.Opening.{on_end, on_done}

-- The same end, as seen from before the file was opened.
pub ended_as : {took : List ℕ → List ℕ → List ℕ} (apply : Combiner) (early tells : Bool) (kind : FileKind) (x y : List ℕ)
    (shape : ShapeNumbers) (blocks : ℕ) (old mid new : Outside) (status : Status)
    → mid.device ≡ old.device → mid.output ≡ old.output → (IsTrue tells → x ≡ y)
    → Ended tells took (asked_of_file apply early kind x) shape blocks mid new status
    → Ended tells took (asked_of_file apply early kind y) shape blocks old new status
ended_as {took} apply early tells kind x y shape blocks old mid new status device output e r =
    let back : IsTrue old.device.told → IsTrue mid.device.told =
    λ d. subst (λ (v : DeviceState). IsTrue v.told) (sym device) d in
    record {
      answers = λ t d. subst (λ (z : List ℕ). OnEnd status
          ((status ≡ due_status kind z) × (new.output ≡ took old.output (output_text apply kind z)))) (e t)
          (subst (λ (o : List ℕ). OnEnd status
          ((status ≡ due_status kind x) × (new.output ≡ took o (output_text apply kind x)))) output
          (r.answers t (back d)));
      due = λ t d.
          subst (λ (z : List ℕ). OnEnd status (status ≡ due_status kind z)) (e t) (r.due t tt);
      prefix = λ t d.
          subst (λ (z : List ℕ). SentPart took old.output (output_text apply kind z) new.output) (e t)
          (subst (λ (o : List ℕ). SentPart took o (output_text apply kind x) new.output) output
          (r.prefix t (back d)));
      full = r.full;
      paid = r.paid;
      room = λ t d. subst (λ (z : List ℕ). IfEndsFull status (λ used. IfSome (asked_of_file apply early kind z).room
          (λ f. used < f shape new.stand.slot))) (e t) (r.room t (back d));
      moves = λ t d. subst (λ (z : List ℕ). IfSome (asked_of_file apply early kind z).moves
          (λ f. new.device.moves ≤ old.device.moves + f shape new.stand.slot)) (e t)
          (subst (λ (v : DeviceState). IfSome (asked_of_file apply early kind x).moves
          (λ f. new.device.moves ≤ v.moves + f shape new.stand.slot)) device (r.moves t (back d)));
      damaged = subst (λ (v : DeviceState). IfEndsDamaged status
          (λ at. IsFalse v.told × (at < blocks))) device r.damaged;
    }

-- So are the most blocks that it had in use.
pub most_as : (apply : Combiner) (early tells : Bool) (kind : FileKind) (x y : List ℕ) (s t : RigState) (slots : Slot → SlotState)
    → Touches [] s t → (IsTrue tells → x ≡ y)
    → KeepsTextRoom (by_cost kind).room tells kind x (slots First).left t
    → KeepsRoom (asked_of_file apply early kind y) tells s t slots
most_as apply early tells kind x y s t slots touches e most = λ z d.
    let few : t.most ≤ room t.pool.shape (run_size kind x (slots First).left) = most z (touches.told ∙ d) in
    subst (λ (v : List ℕ). t.most ≤ room s.pool.shape (run_size kind v (slots First).left)) (e z)
    (subst (λ (p : ShapeNumbers). t.most ≤ room p (run_size kind x (slots First).left)) touches.shape few)

-- A command file was opened.
module _ (tells told : Bool) (kind : FileKind) (combine : Combine) (early : Bool) (name : List ℕ) (a b : Stand) (fresh : IsFresh a)
    (leaves : Leaves First a b)
    (lost : IsTrue tells → (b.slot First).lost ≡ ((a.slot First).lost || is_none (a.text First name)))
  where
    abbrev names : Slot → Option (List ℕ)
    names = names_of (Answer kind combine early) name []

    -- it is lost only if it isn't there
    lost_first : IsTrue tells → (b.slot First).lost ≡ true → is_none (a.text First name) ≡ true
    lost_first t l =
        sym (ap (λ (x : Bool). x || is_none (a.text First name)) fresh.first.lost) ∙ sym (lost t) ∙ l

    -- It isn't there, or the shelf failed.
    pub opens_missing : OpensNamed (Answer kind combine early) tells told names a b ReadFault
    opens_missing = record {
      texts = leaves.text;
      others = others;
      lost = lost_of;
      there = there;
      first = λ t. tt;
      second = λ t d o. tt;
    }
      where
        others : (slot : Slot) → IsNone (names slot) → b.slot slot ≡ a.slot slot
        others First n = cc
        others Second n = leaves.others Second (λ e. cc)

        lost_of : (slot : Slot) → IsTrue tells → (b.slot slot).lost ≡ true
            → IfSome (names slot) (λ n. is_none (a.text slot n) ≡ true)
        lost_of First t l = lost_first t l
        lost_of Second t l = tt

        there : (slot : Slot) → IsTrue tells
            → IfSome (names slot) (λ n. OnDone ReadFault (IsSome (a.text slot n)))
        there First t = tt
        there Second t = tt

    pub reads_missing : ReadsNamed tells names b ReadFault
    reads_missing First = tt
    reads_missing Second = tt

    -- It was opened, and read on.
    module _ (c : Stand) (whole : IsTrue tells → a.text First name ≡ Some (b.slot First).left)
        (reads : ReadsFirst tells b c) where
      some_text : IsTrue tells → IsSome (a.text First name)
      some_text t = rw (whole t) refl

      pub opens_file : (s : Status) → OpensNamed (Answer kind combine early) tells told names a c s
      opens_file s = record {
        texts = reads.leaves.text ∙ leaves.text;
        others = others;
        lost = lost_of;
        there = there;
        first = λ t. on_end s (IsSome (a.text First name)) (some_text t);
        second = λ t d o. tt;
      }
        where
          others : (slot : Slot) → IsNone (names slot) → c.slot slot ≡ a.slot slot
          others First n = cc
          others Second n =
              reads.leaves.others Second (λ e. cc) ∙ leaves.others Second (λ e. cc)

          lost_of : (slot : Slot) → IsTrue tells → (c.slot slot).lost ≡ true
              → IfSome (names slot) (λ n. is_none (a.text slot n) ≡ true)
          lost_of First t l = lost_first t (sym (reads.lost t) ∙ l)
          lost_of Second t l = tt

          there : (slot : Slot) → IsTrue tells
              → IfSome (names slot) (λ n. OnDone s (IsSome (a.text slot n)))
          there First t = on_done s (IsSome (a.text First name)) (some_text t)
          there Second t = tt

      pub reads_file : (s : Status) → OnDone s (IsAllRead tells (c.slot First))
          → ReadsNamed tells names c s
      reads_file s all First = all
      reads_file s all Second = tt

      -- its text is what was left when it was opened
      pub text_opened : IsTrue tells → (b.slot First).left ≡ text_in a First (Some name)
      text_opened t = sym (ap (λ (x : Option (List ℕ)). unwrap_or x []) (whole t))
