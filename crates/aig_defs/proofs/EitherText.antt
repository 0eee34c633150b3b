-- The first fault of a text that is read in either form.
use Rattle.std.proofs.Common.{◌≡◌, List, ℕ, sym, ap, ◌∙◌, refl, Option, Some, None}
use Rattle.aig_defs.specs.declared.fault.AigKind.{AigKind}
use Rattle.aig_defs.specs.declared.form.Form.{Form}
use Rattle.aig_defs.specs.Circuit.{Circuit}
use Rattle.aig_defs.specs.Faults.{IsFaultOf, IsFaultless}
use Rattle.aig_defs.specs.Items.{Reading, Reads, Fails, and_then}
use Rattle.aig_defs.specs.Order.{magic, after_magic, Spells, Breaks}
use Rattle.aig_defs.specs.TextFault.{broken, spelled, either_text, text_fault}
use Rattle.aig_defs.proofs.Items.{through}
use Rattle.aig_defs.proofs.Laws.{spells_by, breaks_by, breaks_magic}
use Rattle.aig_defs.proofs.TextFault.{finds_text_fault, finds_faultless_text}

-- The form in which a text spells a circuit.
pub record SpelledIn (u : Option ℕ) (x : List ℕ) (c : Circuit) : Type 0 where
  pub form : Form
  pub spelled : Spells u form x c

-- A text that was read spells the circuit.
pub either_spells : (u : Option ℕ) (x : List ℕ) (c : Circuit) (q : ℕ) (y : List ℕ) → either_text u 0 x ≡ Reads c q y
    → SpelledIn u x c
either_spells u x c q y e =
    let t = through (magic u 0 x) after_magic c q y e in
    record {
      form = t.value;
      spelled = spells_by u x t.value c q y
          (record { place = t.place; left = t.left; magic = t.first; circuit = t.after });
    }

breaks_after : (u : Option ℕ) (x : List ℕ) (r : Reading Form) (kind : AigKind) (place : ℕ) → magic u 0 x ≡ r
    → either_text u 0 x ≡ Fails kind place → Breaks u x kind place
breaks_after u x (Reads form p y) kind place m e =
    breaks_by u x form p y kind place m (ap (λ r. and_then r after_magic) (sym m) ∙ e)
breaks_after u x (Fails kind2 place2) kind place m e =
    let same : ◌≡◌ {A = Reading Circuit} (Fails kind2 place2) (Fails kind place) =
    ap (λ r. and_then r after_magic) (sym m) ∙ e in
    let kinds : kind2 ≡ kind = cc in
    let places : place2 ≡ place = cc in
    breaks_magic u x kind place
    (m ∙ (ap (λ k. Fails k place2) kinds ∙ ap (λ p. Fails kind p) places))

-- One that wasn't breaks.
pub either_breaks : (u : Option ℕ) (x : List ℕ) (kind : AigKind) (place : ℕ) → either_text u 0 x ≡ Fails kind place
    → Breaks u x kind place
either_breaks u x kind place e = breaks_after u x (magic u 0 x) kind place refl e

-- A text that breaks has this fault,
pub text_breaks : (u : Option ℕ) (x : List ℕ) (kind : AigKind) (place : ℕ) → either_text u 0 x ≡ Fails kind place
    → text_fault u x ≡ Some (kind, place)
text_breaks u x kind place e = finds_text_fault u x kind place (broken (either_breaks u x kind place e))

-- one of a circuit has its first fault,
pub text_faulty : (u : Option ℕ) (x : List ℕ) (c : Circuit) (q : ℕ) (y : List ℕ) (kind : AigKind) (v : ℕ)
    → either_text u 0 x ≡ Reads c q y → IsFaultOf c kind v → text_fault u x ≡ Some (kind, v)
text_faulty u x c q y kind v e h =
    let s = either_spells u x c q y e in finds_text_fault u x kind v (spelled s.form c s.spelled h)

-- and one of a circuit with no fault has none.
pub text_none : (u : Option ℕ) (x : List ℕ) (c : Circuit) (q : ℕ) (y : List ℕ) → either_text u 0 x ≡ Reads c q y
    → IsFaultless c → text_fault u x ≡ None
text_none u x c q y e h =
    let s = either_spells u x c q y e in
    finds_faultless_text u x
    (record { form = s.form; circuit = c; spelled = s.spelled; faultless = h })
