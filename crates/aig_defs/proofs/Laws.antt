-- Each text spells one circuit in one form, or breaks with one fault.
use Rattle.std.proofs.Common.{◌≡◌, ◌^◌, ◌≤◌, Bool, true, false, cond, sym, drop, Option, None, List, [], ◌++◌, ℕ, ap, ◌∙◌, refl, arith, length}
use Rattle.std.proofs.lemmas.List.{append-nil}
use Rattle.aig_defs.specs.declared.fault.AigKind.{AigKind}
use Rattle.aig_defs.specs.declared.fault.AigKind.TheVariants.{BadMagic}
use Rattle.aig_defs.specs.declared.form.Form.{Form}
use Rattle.aig_defs.specs.declared.form.Form.TheVariants.{Ascii, Binary}
use Rattle.aig_defs.specs.Circuit.{Circuit}
use Rattle.aig_defs.specs.Items.{Reading, Reads, Fails, Item, and_then, ◌>>=◌}
use Rattle.aig_defs.specs.Order.{magic, ascii_magic, is_ascii, uninit_of, after_magic, circuit_text, Spells, Breaks}
use Rattle.aig_defs.proofs.Order.{ReadsText, text_reads, text_piece, text_ends}

pub never_both : (u : Option ℕ) (form : Form) (x : List ℕ) (c : Circuit) (kind : AigKind) (place : ℕ)
    → Spells u form x c → Breaks u x kind place → ⊥
never_both u form x c kind place s b = let e = s.reads in let g = b.fails in cc

pub one_kind : (u : Option ℕ) (x : List ℕ) (kind kind2 : AigKind) (place place2 : ℕ)
    → Breaks u x kind place → Breaks u x kind2 place2 → kind ≡ kind2
one_kind u x kind kind2 place place2 b d = let e = b.fails in let g = d.fails in cc

pub one_place : (u : Option ℕ) (x : List ℕ) (kind kind2 : AigKind) (place place2 : ℕ)
    → Breaks u x kind place → Breaks u x kind2 place2 → place ≡ place2
one_place u x kind kind2 place place2 b d = let e = b.fails in let g = d.fails in cc

pub one_circuit : (u : Option ℕ) (form form2 : Form) (x : List ℕ) (c c2 : Circuit)
    → Spells u form x c → Spells u form2 x c2 → c ≡ c2
one_circuit u form form2 x c c2 s t =
    let e = s.reads in
    let g = t.reads in
    let same : ◌≡◌ {A = Form × Circuit} (form, c) (form2, c2) = cc in
    ap (λ (z : Form × Circuit). z.1) same

pub one_form : (u : Option ℕ) (form form2 : Form) (x : List ℕ) (c c2 : Circuit)
    → Spells u form x c → Spells u form2 x c2 → form ≡ form2
one_form u form form2 x c c2 s t =
    let e = s.reads in
    let g = t.reads in
    let same : ◌≡◌ {A = Form × Circuit} (form, c) (form2, c2) = cc in
    ap (λ (z : Form × Circuit). z.0) same

-- the whole text by its magic and what stands after it
abbrev with_form : Form → Circuit → Item (Form × Circuit)
with_form form c = Reads (form, c)

abbrev whole : Form → Item (Form × Circuit)
whole form = after_magic form >>= with_form form

reads_by : (u : Option ℕ) (x : List ℕ) (form : Form) (p : ℕ) (y : List ℕ) {c : Circuit} {q : ℕ} {z : List ℕ}
    → magic u 0 x ≡ Reads form p y → after_magic form p y ≡ Reads c q z
    → circuit_text u 0 x ≡ Reads (form, c) q z
reads_by u x form p y m e = ap (λ r. and_then r whole) m ∙ ap (λ r. and_then r (with_form form)) e

-- what was read after the magic to any place and rest was read to the text's end
pub spells_by : (u : Option ℕ) (x : List ℕ) (form : Form) (c : Circuit) (q : ℕ) (y : List ℕ)
    → ReadsText u x form c q y → Spells u form x c
spells_by u x form c q y t =
    let m = text_piece u x form c q y t in
    let none : y ≡ [] = text_ends u x form c q y t in
    let whole : x ≡ m.bytes = m.text ∙ ap (λ z. m.bytes ++ z) none ∙ append-nil m.bytes in
    let place : q ≡ length x = omega (arith, m.place, ap length whole) in
    let end = ap (λ p. Reads c p y) place ∙ ap (λ z. Reads c (length x) z) none in
    record { reads = reads_by u x form t.place t.left t.magic (t.circuit ∙ end) }

-- a fault after the magic is one of the text, and so is one of the magic
pub breaks_by : (u : Option ℕ) (x : List ℕ) (form : Form) (p : ℕ) (y : List ℕ) (kind : AigKind) (place : ℕ)
    → magic u 0 x ≡ Reads form p y → after_magic form p y ≡ Fails kind place → Breaks u x kind place
breaks_by u x form p y kind place m e = record {
  fails = ap (λ r. and_then r whole) m ∙ ap (λ r. and_then r (with_form form)) e;
}

pub breaks_magic : (u : Option ℕ) (x : List ℕ) (kind : AigKind) (place : ℕ)
    → magic u 0 x ≡ Fails kind place → Breaks u x kind place
breaks_magic u x kind place m = record { fails = ap (λ r. and_then r whole) m }

-- the magic, by whether the texts begin with those of the forms
magic_by : (u : Option ℕ) (ascii binary : Bool) (form : Form) (rest : List ℕ) (p : ℕ) (y : List ℕ)
    → uninit_of form ≡ u
    → and_then (cond ascii (Reads (Ascii None) 3 rest)
    (cond binary (Reads (Binary None) 3 rest) (Fails BadMagic 0))) (λ f. Reads (is_ascii f))
    ≡ Reads (is_ascii form) p y
    → cond ascii (Reads (Ascii u) 3 rest) (cond binary (Reads (Binary u) 3 rest) (Fails BadMagic 0))
    ≡ Reads form p y
magic_by u true binary (Ascii v) rest p y same e =
    let place : 3 ≡ p = cc in
    let left : rest ≡ y = cc in
    ap (λ u. Reads (Ascii u) 3 rest) (sym same)
    ∙ (ap (λ k. Reads (Ascii v) k rest) place ∙ ap (λ z. Reads (Ascii v) p z) left)
magic_by u true binary (Binary v) rest p y same e = cc
magic_by u false true (Ascii v) rest p y same e = cc
magic_by u false true (Binary v) rest p y same e =
    let place : 3 ≡ p = cc in
    let left : rest ≡ y = cc in
    ap (λ u. Reads (Binary u) 3 rest) (sym same)
    ∙ (ap (λ k. Reads (Binary v) k rest) place ∙ ap (λ z. Reads (Binary v) p z) left)
magic_by u false false form rest p y same e = cc

-- the magic of a form was read if it is known which form it is
pub magic_of : (form : Form) (x : List ℕ) (p : ℕ) (y : List ℕ)
    → ascii_magic 0 x ≡ Reads (is_ascii form) p y → magic (uninit_of form) 0 x ≡ Reads form p y
magic_of form x p y e = magic_by (uninit_of form) _ _ form (drop 3 x) p y refl e

-- whether a text spells a circuit or breaks
pub data Decided (u : Option ℕ) (x : List ℕ) : Type 0 where
  spelled : (form : Form) (c : Circuit) → Spells u form x c → Decided u x
  broken : (kind : AigKind) (place : ℕ) → Breaks u x kind place → Decided u x

decided_by : (u : Option ℕ) (x : List ℕ) (r : Reading (Form × Circuit))
    → circuit_text u 0 x ≡ r → Decided u x
decided_by u x (Reads (form, c) q y) e =
    spelled form c (spells_by u x form c q y (text_reads u x form c q y e))
decided_by u x (Fails kind place) e = broken kind place (record { fails = e })

pub decided : (u : Option ℕ) (x : List ℕ) → Decided u x
decided u x = decided_by u x (circuit_text u 0 x) refl

-- no item looks at a byte at 2^50, so a text that spells a circuit has no such byte
pub spelled_short : (u : Option ℕ) (form : Form) (x : List ℕ) (c : Circuit) → Spells u form x c
    → length x ≤ 2 ^ 50
spelled_short u form x c s =
    let m = text_piece u x form c (length x) [] (text_reads u x form c (length x) [] s.reads) in
    m.within (omega arith)
