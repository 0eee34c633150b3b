-- A whole text, by what is read of it after its magic.
use Rattle.std.proofs.Common.{◌≡◌, ◌≤◌, Bool, true, false, cond, drop, arith, List, [], ℕ, Option, length, sym, ap, ◌∙◌, Result, Ok, Err}
use Rattle.em_space.specs.Rig.{RigState}
use Rattle.aig_defs.specs.Begun.{circuit_size}
use Rattle.aig_defs.specs.declared.fault.AigKind.{AigKind}
use Rattle.aig_defs.specs.declared.fault.AigKind.TheVariants.{BadMagic}
use Rattle.aig_defs.specs.declared.form.Form.{Form}
use Rattle.aig_defs.specs.declared.form.Form.TheVariants.{Ascii, Binary}
use Rattle.aig_defs.specs.Circuit.{Circuit}
use Rattle.aig_defs.specs.Items.{Reading, Reads, Fails, and_then}
use Rattle.aig_defs.specs.Order.{Breaks, Spells, after_magic, ascii_magic, circuit_text, is_ascii, magic, uninit_of}
use Rattle.aig_defs.proofs.Laws.{Decided, breaks_by, decided, magic_of, spelled, broken}
use Rattle.aig_text.specs.Ascii.{GivesCircuit, GivesParts, StandsFor, size_given}
use Rattle.aig_text.specs.Source.{Source, left}
use Rattle.aig_text.specs.declared.parts.Parts.{Parts}
use Rattle.aig_text.specs.declared.stop.AigStop.{AigStop}
use Rattle.aig_text.specs.declared.stop.AigStop.TheVariants as stop

-- What was read of a whole text spells it.
spells_by : (form : Form) (x : List ℕ) (c : Circuit) (q : ℕ) (y : List ℕ)
    → circuit_text (uninit_of form) 0 x ≡ Reads (form, c) q y
    → Decided (uninit_of form) x → Spells (uninit_of form) form x c
spells_by form x c q y e (spelled other d s) =
    let same : ◌≡◌ {A = Reading (Form × Circuit)} (Reads (form, c) q y)
    (Reads (other, d) (length x) []) = sym e ∙ s.reads in
    let place : q ≡ length x = cc in
    let none : y ≡ [] = cc in
    record {
      reads = e ∙ ap (λ k. Reads (form, c) k y) place
          ∙ ap (λ k. Reads (form, c) (length x) k) none;
    }
spells_by form x c q y e (broken kind place b) = let f = b.fails in cc

-- The circuit that a whole text spells, with the header of the parts.
pub record SpellsParts (form : Form) (x : List ℕ) (p : Parts) : Type 0 where
  pub circuit : Circuit
  pub spells : Spells (uninit_of form) form x circuit
  pub header : circuit.header ≡ p.header

-- The answer of a whole text: its circuit, or the fault with which it breaks.
abbrev pub AnswersText : Form → List ℕ → Result Parts AigStop → Type 0
AnswersText form x (Ok p) = SpellsParts form x p
AnswersText form x (Err (stop.Fault kind place)) = Breaks (uninit_of form) x kind place
AnswersText form x (Err stop.Read) = Unit {0}
AnswersText form x (Err (stop.Em fault)) = Unit {0}

-- What is read after the magic of a whole text is the answer of the whole text.
pub whole_text : (form : Form) (x : List ℕ) (old new : Source) (s : RigState)
    (result : Result Parts AigStop)
    → old.feed.place ≡ 3 → magic (uninit_of form) 0 x ≡ Reads form 3 (left old)
    → GivesCircuit form old new s result
    → AnswersText form x result
whole_text form x old new s (Ok p) at m g =
    let read = ap (λ k. after_magic form k (left old)) (sym at) ∙ g.reads in
    record {
      circuit = g.circuit;
      spells = spells_by form x g.circuit new.feed.place (left new)
          (ap (λ r. and_then r (λ form p y. and_then (after_magic form p y) (λ c. Reads (form, c))))
          m
          ∙ ap (λ r. and_then r (λ c. Reads (form, c))) read) (decided (uninit_of form) x);
      header = g.header;
    }
whole_text form x old new s (Err (stop.Fault kind place)) at m g = record {
  fails = ap (λ r. and_then r (λ form p y. and_then (after_magic form p y) (λ c. Reads (form, c))))
      m
      ∙ ap (λ r. and_then r (λ c. Reads (form, c))) (ap (λ k. after_magic form k (left old))
      (sym at) ∙ g);
}
whole_text form x old new s (Err stop.Read) at m g = tt
whole_text form x old new s (Err (stop.Em fault)) at m g = tt

-- What is left after the magic.
left_by : (u : Option ℕ) (a b : Bool) (form : Form) (x y : List ℕ)
    → cond a (Reads (Ascii u) 3 (drop 3 x)) (cond b (Reads (Binary u) 3 (drop 3 x)) (Fails BadMagic 0))
    ≡ Reads form 3 y
    → y ≡ drop 3 x
left_by u true b form x y e = cc
left_by u false true form x y e = cc
left_by u false false form x y e = cc

pub magic_left : (form : Form) (x y : List ℕ) → ascii_magic 0 x ≡ Reads (is_ascii form) 3 y
    → y ≡ drop 3 x
magic_left form x y e = left_by (uninit_of form) _ _ form x y (magic_of form x 3 y e)

-- A circuit that was read after that magic is what the text spells,
pub spells_after : (form : Form) (x y : List ℕ) (c : Circuit) (q : ℕ)
    → ascii_magic 0 x ≡ Reads (is_ascii form) 3 y
    → after_magic form 3 y ≡ Reads c q [] → Spells (uninit_of form) form x c
spells_after form x y c q m e = spells_by form x c q []
    (ap (λ r. and_then r (λ form p z. and_then (after_magic form p z) (λ k. Reads (form, k))))
    (magic_of form x 3 y m)
    ∙ ap (λ r. and_then r (λ k. Reads (form, k))) e) (decided (uninit_of form) x)

-- and a fault after it is the text's.
pub breaks_after : (form : Form) (x y : List ℕ) (kind : AigKind) (place : ℕ)
    → ascii_magic 0 x ≡ Reads (is_ascii form) 3 y
    → after_magic form 3 y ≡ Fails kind place → Breaks (uninit_of form) x kind place
breaks_after form x y kind place m e =
    breaks_by (uninit_of form) x form 3 y kind place (magic_of form x 3 y m) e

-- The size of what was read of a circuit's text is the circuit's.
pub size_whole : (form : Form) (old new : Source) (s t : RigState) (p : Parts) → GivesParts s t p
    → StandsFor form old new t p → (given : ℕ) → new.feed.place ≤ given
    → size_given form old given ≡ circuit_size p.header
size_whole form old new s t p g h given far = omega (
  arith,
  h.counted given far,
  g.defs.count_is,
  g.gates.count_is,
  g.uses.count_is,
)
