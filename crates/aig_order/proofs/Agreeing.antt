-- What the notes of a gate say together, by the edges that they are for.
use Rattle.std.proofs.Common.{◌≡◌, ◌+◌, ◌/◌, Bool, true, false, cond, eqb, ◌==◌, ◌&&◌, not, if◌then◌else◌, List, [], ◌∷◌, ◌++◌, ℕ, sym, ap, ap₂, ◌∙◌, refl, arith, length}
use Rattle.std.proofs.lemmas.List.{length-append}
use Rattle.std.proofs.lemmas.List.Elements.{filter-append}
use Rattle.em_record.specs.declared.record.Record.{Record}
use Rattle.em_record.specs.Order.{is_below, with_record, with_records, in_order}
use Rattle.em_record.proofs.Order.{length_order}
use Rattle.aig_order.specs.declared.standing.Sweep.{Sweep}
use Rattle.aig_order.specs.declared.standing.Sweep.TheVariants.{Recall, Find}
use Rattle.aig_order.specs.Sweeps.{is_edge, is_told, leads_to_gate, rises}
use Rattle.aig_order.proofs.Awaited.{due}
use Rattle.aig_order.proofs.Both.{both_swap, both_three, both_true}
use Rattle.aig_order.proofs.Finding.{found_at, note_of, notes_by, IsTold}

-- all of some notes say that an operand was found
abbrev pub all_found : List Record → Bool
all_found [] = true
all_found (m ∷ ms) = m.c == 1 && all_found ms

-- those of some edges that lead to a gate: what each says, together, and how many they are
abbrev pub agreed_if : (Record → Bool) → (Record → Bool) → ℕ → List Record → Bool
agreed_if which tell v [] = true
agreed_if which tell v (e ∷ es) =
    (if which e && v == e.b / 4 then tell e else true) && agreed_if which tell v es

abbrev pub places_if : (Record → Bool) → ℕ → List Record → ℕ
places_if which v [] = 0
places_if which v (e ∷ es) =
    (if which e && v == e.b / 4 then 1 else 0) + places_if which v es

-- the edges of a sweep, and all that lead to gates
abbrev pub told_in : Sweep → Record → Bool
told_in sweep e = is_edge e && is_told sweep e

abbrev pub to_gates : Record → Bool
to_gates e = is_edge e && leads_to_gate e

-- a note says whether its source was found
said : (b : Bool) → eqb (cond b 1 0) 1 ≡ b
said true = refl
said false = refl

-- what is due at a gate of the notes of one sweep
pub record Due (notes : List Record) (all : Bool) (count : ℕ) : Type 0 where
  pub all_is : all_found notes ≡ all
  pub count_is : length notes ≡ count

due_recall_by : (rank : ℕ → ℕ) (v n : ℕ) (e : Record) (rest : List Record) (is : Bool) (m : ℕ)
    (told own : Bool) → eqb v (e.b / 4) ≡ own → Due (due v rest) is m
    → Due (due v (cond told (note_of Recall rank n e ∷ rest) rest))
    (cond (told && own) (found_at rank e.a) true && is) (cond (told && own) 1 0 + m)
due_recall_by rank v n e rest is m false own o d =
    record { all_is = d.all_is; count_is = (let c = d.count_is in omega (arith, c)) }
due_recall_by rank v n e rest is m true true o d =
    let here = ap (λ b. cond b (note_of Recall rank n e ∷ due v rest) (due v rest)) o in record {
      all_is = ap all_found here ∙ ap₂ (λ x y. x && y) (said (found_at rank e.a)) d.all_is;
      count_is = ap length here ∙ (let c = d.count_is in omega (arith, c));
    }
due_recall_by rank v n e rest is m true false o d =
    let here = ap (λ b. cond b (note_of Recall rank n e ∷ due v rest) (due v rest)) o in record {
      all_is = ap all_found here ∙ d.all_is;
      count_is = ap length here ∙ (let c = d.count_is in omega (arith, c));
    }

pub due_recall : (rank : ℕ → ℕ) (v n : ℕ) (es : List Record)
    → Due (due v (notes_by Recall rank n es))
    (agreed_if (told_in Recall) (λ e. found_at rank e.a) v es) (places_if (told_in Recall) v es)
due_recall rank v n [] = record { all_is = refl; count_is = refl }
due_recall rank v n (e ∷ es) =
    due_recall_by rank v n e (notes_by Recall rank (n + 1) es) _ _ (told_in Recall e)
    (eqb v (e.b / 4)) refl (due_recall rank v (n + 1) es)

due_find_by : (rank : ℕ → ℕ) (v n : ℕ) (e : Record) (rest : List Record) (is : Bool) (m : ℕ)
    (told own : Bool) → eqb v (e.b / 4) ≡ own → Due (due v rest) is m
    → Due (due v (cond told (note_of Find rank n e ∷ rest) rest))
    (cond (told && own) (found_at rank e.a) true && is) (cond (told && own) 1 0 + m)
due_find_by rank v n e rest is m false own o d =
    record { all_is = d.all_is; count_is = (let c = d.count_is in omega (arith, c)) }
due_find_by rank v n e rest is m true true o d =
    let here = ap (λ b. cond b (note_of Find rank n e ∷ due v rest) (due v rest)) o in record {
      all_is = ap all_found here ∙ ap₂ (λ x y. x && y) (said (found_at rank e.a)) d.all_is;
      count_is = ap length here ∙ (let c = d.count_is in omega (arith, c));
    }
due_find_by rank v n e rest is m true false o d =
    let here = ap (λ b. cond b (note_of Find rank n e ∷ due v rest) (due v rest)) o in record {
      all_is = ap all_found here ∙ d.all_is;
      count_is = ap length here ∙ (let c = d.count_is in omega (arith, c));
    }

pub due_find : (rank : ℕ → ℕ) (v n : ℕ) (es : List Record)
    → Due (due v (notes_by Find rank n es))
    (agreed_if (told_in Find) (λ e. found_at rank e.a) v es) (places_if (told_in Find) v es)
due_find rank v n [] = record { all_is = refl; count_is = refl }
due_find rank v n (e ∷ es) =
    due_find_by rank v n e (notes_by Find rank (n + 1) es) _ _ (told_in Find e)
    (eqb v (e.b / 4)) refl (due_find rank v (n + 1) es)

-- an edge to a gate has a note in one of the two sweeps: what it says there
abbrev pub said_by : (Record → Bool) → (Record → Bool) → Record → Bool
said_by before now e = if rises e then now e else before e

kinds_by : (edge gate up own b n p q r : Bool) → p ≡ (q && r)
    → (cond ((edge && gate) && own) (cond up n b) true && p)
    ≡ ((cond ((edge && (gate && not up)) && own) b true && q)
    && (cond ((edge && (gate && up)) && own) n true && r))
kinds_by false gate up own b n p q r e = e
kinds_by true false up own b n p q r e = e
kinds_by true true true false b n p q r e = e
kinds_by true true false false b n p q r e = e
kinds_by true true true true b n p q r e = ap (λ z. n && z) e ∙ both_swap n q r
kinds_by true true false true b n p q r e = ap (λ z. b && z) e ∙ sym (both_three b q r)

counts_by : (edge gate up own : Bool) (p q r : ℕ) → p ≡ q + r
    → cond ((edge && gate) && own) 1 0 + p
    ≡ (cond ((edge && (gate && not up)) && own) 1 0 + q)
    + (cond ((edge && (gate && up)) && own) 1 0 + r)
counts_by false gate up own p q r e = omega (arith, e)
counts_by true false up own p q r e = omega (arith, e)
counts_by true true true false p q r e = omega (arith, e)
counts_by true true false false p q r e = omega (arith, e)
counts_by true true true true p q r e = omega (arith, e)
counts_by true true false true p q r e = omega (arith, e)

kinds : (before now : Record → Bool) (v : ℕ) (es : List Record)
    → agreed_if to_gates (said_by before now) v es
    ≡ (agreed_if (told_in Recall) before v es && agreed_if (told_in Find) now v es)
kinds before now v [] = refl
kinds before now v (e ∷ es) =
    kinds_by (is_edge e) (leads_to_gate e) (rises e) (eqb v (e.b / 4)) (before e) (now e) _ _ _
    (kinds before now v es)

counts : (v : ℕ) (es : List Record)
    → places_if to_gates v es ≡ places_if (told_in Recall) v es + places_if (told_in Find) v es
counts v [] = refl
counts v (e ∷ es) =
    counts_by (is_edge e) (leads_to_gate e) (rises e) (eqb v (e.b / 4)) _ _ _ (counts v es)

-- Together they say what the edges do, in any order.
found_append : (xs ys : List Record) → all_found (xs ++ ys) ≡ (all_found xs && all_found ys)
found_append [] ys = refl
found_append (x ∷ xs) ys =
    ap (λ b. eqb x.c 1 && b) (found_append xs ys)
    ∙ sym (both_three (eqb x.c 1) (all_found xs) (all_found ys))

found_with_by : (b : Bool) (x y : Record) (ys more : List Record)
    → all_found more ≡ all_found (x ∷ ys)
    → all_found (cond b (y ∷ more) (x ∷ y ∷ ys)) ≡ all_found (x ∷ y ∷ ys)
found_with_by true x y ys more e =
    ap (λ b. eqb y.c 1 && b) e ∙ both_swap (eqb y.c 1) (eqb x.c 1) (all_found ys)
found_with_by false x y ys more e = refl

found_with : (x : Record) (ys : List Record) → all_found (with_record x ys) ≡ all_found (x ∷ ys)
found_with x [] = refl
found_with x (y ∷ ys) =
    found_with_by (is_below y x) x y ys (with_record x ys) (found_with x ys)

found_records : (ys xs : List Record)
    → all_found (with_records ys xs) ≡ (all_found xs && all_found ys)
found_records ys [] = refl
found_records ys (x ∷ xs) =
    found_records (with_record x ys) xs ∙ ap (λ b. all_found xs && b) (found_with x ys)
    ∙ both_swap (all_found xs) (eqb x.c 1) (all_found ys)
    ∙ sym (both_three (eqb x.c 1) (all_found xs) (all_found ys))

pub found_order : (xs : List Record) → all_found (in_order xs) ≡ all_found xs
found_order xs = found_records [] xs ∙ both_true (all_found xs)

-- two notes, from a list of two
told_pair : (rank : ℕ → ℕ) (notes ds : List Record) (v : ℕ) → in_order (due v notes) ≡ ds
    → length ds ≡ 2 → all_found ds ≡ not (eqb (rank v) 0) → IsTold rank notes v
told_pair rank notes [] v e n a = absurd (omega (arith, n))
told_pair rank notes (x ∷ []) v e n a = absurd (omega (arith, n))
told_pair rank notes (x ∷ y ∷ []) v e n a = record {
  first = x;
  second = y;
  are = e;
  both = ap (λ b. eqb x.c 1 && b) (sym (both_true (eqb y.c 1))) ∙ a;
}
told_pair rank notes (x ∷ y ∷ z ∷ ds) v e n a = absurd (omega (arith, n))

-- A gate has its two notes after both sweeps, if two edges lead to it, and they say together whether it
-- is found.
pub gate_told : (old new : ℕ → ℕ) (v j k : ℕ) (es fs : List Record)
    → agreed_if (told_in Find) (λ e. found_at new e.a) v fs
    ≡ agreed_if (told_in Find) (λ e. found_at new e.a) v es
    → places_if (told_in Find) v fs ≡ places_if (told_in Find) v es
    → places_if to_gates v es ≡ 2
    → agreed_if to_gates (said_by (λ e. found_at old e.a) (λ e. found_at new e.a)) v es
    ≡ not (eqb (new v) 0)
    → IsTold new (notes_by Recall old j es ++ notes_by Find new k fs) v
gate_told old new v j k es fs same many two all =
    let before = notes_by Recall old j es in
    let after = notes_by Find new k fs in
    let a = due_recall old v j es in
    let b = due_find new v k fs in
    let parts = filter-append (λ (m : Record). eqb v m.a) before after in
    told_pair new (before ++ after) (in_order (due v (before ++ after))) v refl
    (omega (
      arith,
      length_order (due v (before ++ after)),
      ap length parts,
      length-append (due v before) (due v after),
      a.count_is,
      b.count_is,
      counts v es,
      two,
      many,
    ))
    (found_order (due v (before ++ after)) ∙ ap all_found parts
    ∙ found_append (due v before) (due v after) ∙ ap₂ (λ x y. x && y) a.all_is (b.all_is ∙ same)
    ∙ sym (kinds (λ e. found_at old e.a) (λ e. found_at new e.a) v es) ∙ all)

-- what edges say is the same in any order, and beside definitions
agreed_with_by : (which tell : Record → Bool) (v : ℕ) (b : Bool) (x y : Record)
    (ys more : List Record)
    → agreed_if which tell v more ≡ agreed_if which tell v (x ∷ ys)
    → agreed_if which tell v (cond b (y ∷ more) (x ∷ y ∷ ys))
    ≡ agreed_if which tell v (x ∷ y ∷ ys)
agreed_with_by which tell v true x y ys more e =
    let own = λ (k : Record). cond (which k && eqb v (k.b / 4)) (tell k) true in
    ap (λ b. own y && b) e ∙ both_swap (own y) (own x) (agreed_if which tell v ys)
agreed_with_by which tell v false x y ys more e = refl

agreed_with : (which tell : Record → Bool) (v : ℕ) (x : Record) (ys : List Record)
    → agreed_if which tell v (with_record x ys) ≡ agreed_if which tell v (x ∷ ys)
agreed_with which tell v x [] = refl
agreed_with which tell v x (y ∷ ys) =
    agreed_with_by which tell v (is_below y x) x y ys (with_record x ys)
    (agreed_with which tell v x ys)

agreed_records : (which tell : Record → Bool) (v : ℕ) (ys xs : List Record)
    → agreed_if which tell v (with_records ys xs)
    ≡ (agreed_if which tell v xs && agreed_if which tell v ys)
agreed_records which tell v ys [] = refl
agreed_records which tell v ys (x ∷ xs) =
    let own = cond (which x && eqb v (x.b / 4)) (tell x) true in
    agreed_records which tell v (with_record x ys) xs
    ∙ ap (λ b. agreed_if which tell v xs && b) (agreed_with which tell v x ys)
    ∙ both_swap (agreed_if which tell v xs) own (agreed_if which tell v ys)
    ∙ sym (both_three own (agreed_if which tell v xs) (agreed_if which tell v ys))

pub agreed_order : (which tell : Record → Bool) (v : ℕ) (xs : List Record)
    → agreed_if which tell v (in_order xs) ≡ agreed_if which tell v xs
agreed_order which tell v xs =
    agreed_records which tell v [] xs ∙ both_true (agreed_if which tell v xs)

places_with_by : (which : Record → Bool) (v : ℕ) (b : Bool) (x y : Record) (ys more : List Record)
    → places_if which v more ≡ places_if which v (x ∷ ys)
    → places_if which v (cond b (y ∷ more) (x ∷ y ∷ ys)) ≡ places_if which v (x ∷ y ∷ ys)
places_with_by which v true x y ys more e = omega (arith, e)
places_with_by which v false x y ys more e = refl

places_with : (which : Record → Bool) (v : ℕ) (x : Record) (ys : List Record)
    → places_if which v (with_record x ys) ≡ places_if which v (x ∷ ys)
places_with which v x [] = refl
places_with which v x (y ∷ ys) =
    places_with_by which v (is_below y x) x y ys (with_record x ys) (places_with which v x ys)

places_records : (which : Record → Bool) (v : ℕ) (ys xs : List Record)
    → places_if which v (with_records ys xs) ≡ places_if which v xs + places_if which v ys
places_records which v ys [] = omega arith
places_records which v ys (x ∷ xs) =
    omega (arith, places_records which v (with_record x ys) xs, places_with which v x ys)

pub places_order : (which : Record → Bool) (v : ℕ) (xs : List Record)
    → places_if which v (in_order xs) ≡ places_if which v xs
places_order which v xs = omega (arith, places_records which v [] xs)
