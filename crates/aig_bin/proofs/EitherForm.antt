-- A circuit's text in either form: its magic, and what is read after it.
use Rattle.std.proofs.Common.{◌≡◌, ℕ, ◌≤◌, min, Bool, List, [], length, ap, sym, subst, ◌∙◌, arith, IsTrue, Result, Ok, Err, OnOk}
use Rattle.std.specs.Prelude.{IfOk}
use Rattle.em_record.specs.Count.{Rose}
use Rattle.em_space.specs.Rig.{RigState}
use Rattle.aig_defs.specs.declared.form.Form.{Form}
use Rattle.aig_defs.specs.Begun.{counts_after, size_read, text_size}
use Rattle.aig_defs.specs.Items.{Reading, Reads, and_then}
use Rattle.aig_defs.specs.Order.{after_magic, ascii_magic, is_ascii, magic, uninit_of}
use Rattle.aig_defs.specs.TextFault.{either_text}
use Rattle.aig_defs.proofs.Laws.{magic_of}
use Rattle.aig_defs.proofs.Ranges.{spelled_is}
use Rattle.aig_defs.proofs.EitherText.{either_spells}
use Rattle.aig_text.specs.Ascii.{GivesCircuit, GivesParts, TakesAtMost, size_given}
use Rattle.aig_text.specs.Reads.{OnShelfFault, ReadsItem, StopsAs}
use Rattle.aig_text.specs.Source.{Source, left}
use Rattle.aig_text.specs.declared.parts.Parts.{Parts}
use Rattle.aig_text.specs.declared.stop.AigStop.{AigStop}
use Rattle.aig_text.specs.declared.stop.AigStop.TheVariants as stop
use Rattle.aig_text.proofs.Circuits.{ReadsCircuit}
use Rattle.aig_text.proofs.Steadies.{advances_then}
use Rattle.aig_text.proofs.Texts.{size_whole}
use Rattle.aig_bin.specs.EitherForm.{GivesEither, ReadsEither}

-- a fault of the shelf after other calls
rose_before : {A : Type 0} (first then last : ℕ) (result : Result A AigStop) → first ≤ then
    → OnShelfFault result (Rose then last) → OnShelfFault result (Rose first last)
rose_before first then last (Ok value) later h = tt
rose_before first then last (Err (stop.Fault kind place)) later h = tt
rose_before first then last (Err stop.Read) later h = omega (arith, later, h)
rose_before first then last (Err (stop.Em fault)) later h = tt

-- The magic of this form was read, and then the text after it.
module _ (form : Form) {tells : Bool} {a b : Source} (none : a.feed.place ≡ 0) (ascii : Bool)
    (is : ascii ≡ is_ascii form) (names : ReadsItem {A = Bool} tells ascii_magic a b (Ok ascii))
  where
    -- the magic stands at the text's first byte,
    magic_first : IsTrue tells → magic (uninit_of form) 0 (left a) ≡ Reads form b.feed.place (left b)
    magic_first z = magic_of form (left a) b.feed.place (left b)
        (ap (λ (k : ℕ). ascii_magic k (left a)) (sym none) ∙ names.gives z
        ∙ ap (λ (k : Bool). Reads k b.feed.place (left b)) is)

    -- what the text spells after it,
    text_after : IsTrue tells → either_text (uninit_of form) 0 (left a) ≡ after_magic form b.feed.place (left b)
    text_after z = ap (λ (r : Reading Form). and_then r after_magic) (magic_first z)

    -- and the size of what was read too
    size_after : IsTrue tells → (given : ℕ)
        → text_size (uninit_of form) given (left a) ≡ size_given form b (min given (length (left a)))
    size_after z given = ap (λ (r : Reading Form).
        counts_after r (λ f. size_read f (min given (length (left a))))) (magic_first z)

    module _ {d : Source} {s t : RigState} (result : Result Parts AigStop)
        (h : ReadsCircuit form tells b d s t result) where
      -- no more bytes were taken than there are
      inside : IsTrue tells → (given : ℕ) → d.feed.place ≤ given
          → d.feed.place ≤ min given (length (left a))
      inside z given far =
          let whole = names.advances.steady.whole z in
          let more = h.feed.steady.whole z in
          omega (arith, none, whole, more, far)

      -- the answer is that of the whole text
      gives_either : IsTrue tells → (r : Result Parts AigStop) → IfOk r (GivesParts s t)
          → GivesCircuit form b d t r → OnOk r (left d ≡ []) → GivesEither (uninit_of form) (left a) d t r
      gives_either z (Ok p) parts g end =
          let reads : either_text (uninit_of form) 0 (left a) ≡ Reads g.circuit d.feed.place [] =
          text_after z ∙ g.reads ∙ ap (λ (x : List ℕ). Reads g.circuit d.feed.place x) end in
          let in_form = either_spells (uninit_of form) (left a) g.circuit d.feed.place [] reads in
          record {
            circuit = g.circuit;
            reads = reads;
            end = end;
            header = g.header;
            are = λ told. record {
              header = g.header;
              is = spelled_is (uninit_of form) in_form.form (left a) g.circuit in_form.spelled;
              defs = g.defs told;
              gates = g.gates told;
              uses = g.uses told;
              resets = g.resets told;
            };
            size = λ given far. size_after z given
                ∙ size_whole form b d s t p parts g (min given (length (left a)))
                (inside z given far);
          }
      gives_either z (Err e) parts g end = subst (StopsAs e) (sym (text_after z)) g

      -- A circuit was read from its first byte.
      pub either_read : ReadsEither tells (uninit_of form) a d s t result
      either_read = record {
        goes = h.goes;
        parts = h.parts;
        gives = λ z. gives_either z result h.parts (h.gives z) (h.end z);
        feed = advances_then names.advances h.feed;
        read = rose_before a.faults b.faults d.faults result names.advances.later h.read;
        cause = h.cause;
        takes = λ z given far. subst (λ (n : ℕ). TakesAtMost n s t) (sym (size_after z given))
            (h.takes z (min given (length (left a))) (inside z given far));
        owes = h.owes;
      }
