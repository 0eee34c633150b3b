-- The first fault of a text that is computed is the one that the words say.
use Rattle.std.proofs.Common.{◌≡◌, List, ℕ, ap, ◌∙◌, refl, Option, Some, None}
use Rattle.aig_defs.specs.declared.fault.AigKind.{AigKind}
use Rattle.aig_defs.specs.declared.form.Form.{Form}
use Rattle.aig_defs.specs.Circuit.{Circuit}
use Rattle.aig_defs.specs.Items.{Reading, Reads, Fails}
use Rattle.aig_defs.specs.Order.{circuit_text}
use Rattle.aig_defs.specs.TextFault.{IsFaultOfText, broken, spelled, IsFaultlessText, reading_fault, text_fault}
use Rattle.aig_defs.proofs.Order.{text_reads}
use Rattle.aig_defs.proofs.Laws.{spells_by}
use Rattle.aig_defs.proofs.Faults.{fault_found, finds_fault, faultless_found, finds_faultless}

same_fault : (kind kind2 : AigKind) (place place2 : ℕ)
    → ◌≡◌ {A = Option (AigKind × ℕ)} (Some (kind, place)) (Some (kind2, place2))
    → (kind ≡ kind2) × (place ≡ place2)
same_fault kind kind2 place place2 e =
    let same : ◌≡◌ {A = AigKind × ℕ} (kind, place) (kind2, place2) = cc in
    (ap (λ (z : AigKind × ℕ). z.0) same, ap (λ (z : AigKind × ℕ). z.1) same)

found_by : (u : Option ℕ) (x : List ℕ) (r : Reading (Form × Circuit)) (kind : AigKind) (place : ℕ)
    → circuit_text u 0 x ≡ r → reading_fault r ≡ Some (kind, place) → IsFaultOfText u x kind place
found_by u x (Reads (form, c) q y) kind place e f =
    spelled form c (spells_by u x form c q y (text_reads u x form c q y e)) (fault_found c kind place f)
found_by u x (Fails kind2 place2) kind place e f =
    let same = same_fault kind2 kind place2 place f in
    broken (record {
      fails = e ∙ ap (λ k. Fails k place2) same.0 ∙ ap (λ p. Fails kind p) same.1;
    })

-- What it finds is the text's first fault.
pub text_fault_found : (u : Option ℕ) (x : List ℕ) (kind : AigKind) (place : ℕ)
    → text_fault u x ≡ Some (kind, place) → IsFaultOfText u x kind place
text_fault_found u x kind place f = found_by u x (circuit_text u 0 x) kind place refl f

-- It finds the text's first fault.
pub finds_text_fault : (u : Option ℕ) (x : List ℕ) (kind : AigKind) (place : ℕ) → IsFaultOfText u x kind place
    → text_fault u x ≡ Some (kind, place)
finds_text_fault u x kind place (broken b) = ap reading_fault b.fails
finds_text_fault u x kind place (spelled form c s f) =
    ap reading_fault s.reads ∙ finds_fault c kind place f

faultless_by : (u : Option ℕ) (x : List ℕ) (r : Reading (Form × Circuit)) → circuit_text u 0 x ≡ r
    → reading_fault r ≡ None → IsFaultlessText u x
faultless_by u x (Reads (form, c) q y) e f = record {
  form = form;
  circuit = c;
  spelled = spells_by u x form c q y (text_reads u x form c q y e);
  faultless = faultless_found c f;
}
faultless_by u x (Fails kind place) e f = cc

-- If it finds none, the text has none.
pub faultless_text_found : (u : Option ℕ) (x : List ℕ) → text_fault u x ≡ None → IsFaultlessText u x
faultless_text_found u x f = faultless_by u x (circuit_text u 0 x) refl f

-- It finds none in a text that has none.
pub finds_faultless_text : (u : Option ℕ) (x : List ℕ) → IsFaultlessText u x → text_fault u x ≡ None
finds_faultless_text u x t =
    ap reading_fault t.spelled.reads ∙ finds_faultless t.circuit t.faultless
