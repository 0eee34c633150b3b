-- The fault that is computed is the one that the words say.
use Rattle.std.proofs.Common.{inl, inr, ◌≡◌, ◌≤◌, ◌↔◌, Bool, true, false, cond, eqb, leb, ◌||◌, not, List, [], ◌∷◌, ℕ, min, ap, ◌∙◌, refl, subst, arith, length, filter, fold, Option, Some, None}
use Rattle.std.specs.List.{reduce}
use Rattle.std.specs.Option.{option_or, option_map}
use Rattle.std.proofs.lemmas.Bool.{eqb-true, eqb-false, leb-true, le-leb, ne_eqb, or_parts, or_from, not-true, not_from_false, cases_lt, cases_order, false_from_ne_true}
use Rattle.aig_defs.specs.declared.fault.AigKind.{AigKind}
use Rattle.aig_defs.specs.declared.fault.AigKind.TheVariants.{Twice, Undefined, Cyclic}
use Rattle.aig_defs.specs.Circuit.{Circuit}
use Rattle.aig_defs.specs.Founded.{has, gate_variables, passed}
use Rattle.aig_defs.specs.Faults.{definitions, uses, definition_count, IsTwice, IsUndefined, IsCyclic, Nowhere, IsLeast, IsFaultOf, IsFaultless, twice, undefined, unfounded, circuit_fault}
use Rattle.aig_defs.proofs.Members.{has_cases, has_first, has_rest, filter_from, filter_into}
use Rattle.aig_defs.proofs.Passes.{founded_iff}

-- the least of some numbers is one of them, and none of them is less
pub record LeastOf (xs : List ℕ) (v : ℕ) : Type 0 where
  pub is : has xs v ≡ true
  pub below : (u : ℕ) → has xs u ≡ true → v ≤ u

fold_member : (x y m : ℕ) (xs : List ℕ) → has (min x y ∷ xs) m ≡ true → has (x ∷ y ∷ xs) m ≡ true
fold_member x y m xs h = elim (has_cases (min x y) m xs h) [
  | inl a ↦ elim (cases_lt x y) [
    | inl less ↦ has_first x m (y ∷ xs) (omega (arith, a, less))
    | inr most ↦ has_rest x m (y ∷ xs) (has_first y m xs (omega (arith, a, most)))
  ]
  | inr b ↦ has_rest x m (y ∷ xs) (has_rest y m xs b)
]

fold_least : (x : ℕ) (xs : List ℕ) → LeastOf (x ∷ xs) (fold min x xs)
fold_least x [] = record {
  is = has_first x x [] refl;
  below = λ u h. elim (has_cases x u [] h) [ inl a ↦ omega (arith, a) | inr b ↦ cc (b) ];
}
fold_least x (y ∷ xs) =
    let p = fold_least (min x y) xs in
    let low = p.below (min x y) (has_first (min x y) (min x y) xs refl) in
    record {
      is = fold_member x y _ xs p.is;
      below = λ u h. elim (has_cases x u (y ∷ xs) h) [
        | inl a ↦ omega (arith, a, low)
        | inr b ↦ elim (has_cases y u xs b) [
          | inl d ↦ omega (arith, d, low)
          | inr e ↦ p.below u (has_rest (min x y) u xs e)
        ]
      ];
    }

least_of : (xs : List ℕ) (v : ℕ) → reduce min xs ≡ Some v → LeastOf xs v
least_of [] v e = cc
least_of (x ∷ xs) v e =
    let same : fold min x xs ≡ v = cc in
    subst (LeastOf (x ∷ xs)) same (fold_least x xs)

least_none : (xs : List ℕ) → reduce min xs ≡ None → (u : ℕ) → has xs u ≡ true → ⊥
least_none [] e u h = cc
least_none (x ∷ xs) e u h = cc (e)

-- some numbers are those with a property
abbrev pub Lists : (ℕ → Type 0) → List ℕ → Type 0
Lists P xs = (u : ℕ) → (has xs u ≡ true) ↔ P u

pub is_least : (P : ℕ → Type 0) (xs : List ℕ) (v : ℕ) → Lists P xs → reduce min xs ≡ Some v
    → IsLeast P v
is_least P xs v l e =
    let p = least_of xs v e in
    record { is = (l v).0 p.is; below = λ u less h. omega (arith, p.below u ((l u).1 h), less) }

pub is_nowhere : (P : ℕ → Type 0) (xs : List ℕ) → Lists P xs → reduce min xs ≡ None → Nowhere P
is_nowhere P xs l e v h = least_none xs e v ((l v).1 h)

pub least_unique : (P : ℕ → Type 0) (u v : ℕ) → IsLeast P u → IsLeast P v → u ≡ v
least_unique P u v p q = elim (cases_order u v) [
  | inl same ↦ same
  | inr apart ↦ elim apart [
    | inl less ↦ absurd (q.below u less p.is)
    | inr more ↦ absurd (p.below v more q.is)
  ]
]

pub least_some : (P : ℕ → Type 0) (xs : List ℕ) (v : ℕ) → Lists P xs → IsLeast P v → (o : Option ℕ)
    → reduce min xs ≡ o → reduce min xs ≡ Some v
least_some P xs v l p None e = absurd (is_nowhere P xs l e v p.is)
least_some P xs v l p (Some u) e = e ∙ ap Some (least_unique P u v (is_least P xs u l e) p)

pub nowhere_none : (P : ℕ → Type 0) (xs : List ℕ) → Lists P xs → Nowhere P → (o : Option ℕ)
    → reduce min xs ≡ o → reduce min xs ≡ None
nowhere_none P xs l n None e = e
nowhere_none P xs l n (Some v) e = absurd (n v (is_least P xs v l e).is)

-- the variables with two definitions or more
count_by : (b : Bool) (u v : ℕ) (us : List ℕ) → eqb u v ≡ b
    → (1 ≤ length (filter (λ u. eqb u v) us) → has us v ≡ true)
    → 1 ≤ length (cond b (u ∷ filter (λ u. eqb u v) us) (filter (λ u. eqb u v) us))
    → has (u ∷ us) v ≡ true
count_by true u v us e f h = has_first u v us (eqb-true u v e)
count_by false u v us e f h = has_rest u v us (f h)

pub counted_has : (us : List ℕ) (v : ℕ) → 1 ≤ length (filter (λ u. eqb u v) us) → has us v ≡ true
counted_has [] v h = absurd (omega (arith, h))
counted_has (u ∷ us) v h = count_by (eqb u v) u v us refl (counted_has us v) h

pub twice_lists : (c : Circuit) → Lists (IsTwice c) (twice c)
twice_lists c v = (
  λ h. leb-true _ _ (filter_from (λ v. leb 2 (definition_count c v)) (definitions c) v h).1,
  λ t. filter_into (λ v. leb 2 (definition_count c v)) (definitions c) v (le-leb _ _ t)
      (counted_has (definitions c) v (omega (arith, t))),
)

-- the variables that are used and not defined
abbrev no_definition : Circuit → ℕ → Bool
no_definition c v = not (eqb v 0 || has (definitions c) v)

undefined_parts : (c : Circuit) (v : ℕ) → has (uses c) v ≡ true → no_definition c v ≡ true
    → IsUndefined c v
undefined_parts c v u t =
    let parts : (eqb v 0 ≡ false) × (has (definitions c) v ≡ false) = or_parts _ _ (not-true _ t) in
    record { used = u; nonzero = eqb-false v 0 parts.0; undefined = λ d. let e = parts.1 in cc }

pub undefined_lists : (c : Circuit) → Lists (IsUndefined c) (undefined c)
undefined_lists c v = (
  λ h.
      let both = filter_from (no_definition c) (uses c) v h in
      undefined_parts c v both.0 both.1,
  λ u.
      let lacks = or_from _ _ (ne_eqb v 0 u.nonzero) (false_from_ne_true _ u.undefined) in
      filter_into (no_definition c) (uses c) v (not_from_false _ lacks) u.used,
)

-- the variables of gates that aren't founded
abbrev unfound : Circuit → ℕ → Bool
unfound c v = not (has (passed c (length c.gates)) v)

cyclic_lists : (c : Circuit) → Lists (IsCyclic c) (unfounded c)
cyclic_lists c v = (
  λ h.
      let both = filter_from (unfound c) (gate_variables c) v h in
      let lacks : has (passed c (length c.gates)) v ≡ false = not-true _ both.1 in
      record { gate = both.0; unfounded = λ f. let e = (founded_iff c v).1 f in cc },
  λ u.
      let lacks = false_from_ne_true _ (λ e. u.unfounded ((founded_iff c v).0 e)) in
      filter_into (unfound c) (gate_variables c) v (not_from_false _ lacks) u.gate,
)

-- the first of three faults, by the least variable of each
abbrev first_of_three : Option ℕ → Option ℕ → Option ℕ → Option (AigKind × ℕ)
first_of_three a b d =
    option_or (option_map (λ v. (Twice, v)) a)
    (option_or (option_map (λ v. (Undefined, v)) b) (option_map (λ v. (Cyclic, v)) d))

pub kind_of : (kind kind2 : AigKind) (v v2 : ℕ)
    → ◌≡◌ {A = Option (AigKind × ℕ)} (Some (kind, v)) (Some (kind2, v2))
    → (kind ≡ kind2) × (v ≡ v2)
kind_of kind kind2 v v2 e =
    let same : ◌≡◌ {A = AigKind × ℕ} (kind, v) (kind2, v2) = cc in
    (ap (λ (z : AigKind × ℕ). z.0) same, ap (λ (z : AigKind × ℕ). z.1) same)

fault_as : (c : Circuit) (kind kind2 : AigKind) (v v2 : ℕ)
    → ◌≡◌ {A = Option (AigKind × ℕ)} (Some (kind, v)) (Some (kind2, v2))
    → IsFaultOf c kind v → IsFaultOf c kind2 v2
fault_as c kind kind2 v v2 e h =
    let same = kind_of kind kind2 v v2 e in
    subst (λ k. IsFaultOf c k v2) same.0 (subst (λ u. IsFaultOf c kind u) same.1 h)

fault_by : (c : Circuit) (a b d : Option ℕ) → reduce min (twice c) ≡ a
    → reduce min (undefined c) ≡ b → reduce min (unfounded c) ≡ d
    → (kind : AigKind) (v : ℕ) → first_of_three a b d ≡ Some (kind, v) → IsFaultOf c kind v
fault_by c (Some u) b d ea eb ed kind v e =
    fault_as c Twice kind u v e (is_least (IsTwice c) (twice c) u (twice_lists c) ea)
fault_by c None (Some u) d ea eb ed kind v e =
    fault_as c Undefined kind u v e (
      is_nowhere (IsTwice c) (twice c) (twice_lists c) ea,
      is_least (IsUndefined c) (undefined c) u (undefined_lists c) eb,
    )
fault_by c None None (Some u) ea eb ed kind v e =
    fault_as c Cyclic kind u v e (
      is_nowhere (IsTwice c) (twice c) (twice_lists c) ea,
      is_nowhere (IsUndefined c) (undefined c) (undefined_lists c) eb,
      is_least (IsCyclic c) (unfounded c) u (cyclic_lists c) ed,
    )
fault_by c None None None ea eb ed kind v e = cc

-- What `circuit_fault` finds is the first fault.
pub fault_found : (c : Circuit) (kind : AigKind) (v : ℕ) → circuit_fault c ≡ Some (kind, v)
    → IsFaultOf c kind v
fault_found c kind v e = fault_by c _ _ _ refl refl refl kind v e

-- the first of the three by what is found of one of them
with_twice : (c : Circuit) {a : Option ℕ} → reduce min (twice c) ≡ a
    → circuit_fault c ≡ first_of_three a (reduce min (undefined c)) (reduce min (unfounded c))
with_twice c e = ap (λ a. first_of_three a (reduce min (undefined c)) (reduce min (unfounded c))) e

with_undefined : (c : Circuit) {b : Option ℕ} → reduce min (undefined c) ≡ b
    → first_of_three None (reduce min (undefined c)) (reduce min (unfounded c))
    ≡ first_of_three None b (reduce min (unfounded c))
with_undefined c e = ap (λ b. first_of_three None b (reduce min (unfounded c))) e

-- It finds each first fault.
pub finds_fault : (c : Circuit) (kind : AigKind) (v : ℕ) → IsFaultOf c kind v
    → circuit_fault c ≡ Some (kind, v)
finds_fault c Twice v h =
    with_twice c (least_some (IsTwice c) (twice c) v (twice_lists c) h _ refl)
finds_fault c Undefined v h =
    with_twice c (nowhere_none (IsTwice c) (twice c) (twice_lists c) h.0 _ refl)
    ∙ with_undefined c (least_some (IsUndefined c) (undefined c) v (undefined_lists c) h.1 _ refl)
finds_fault c Cyclic v h =
    with_twice c (nowhere_none (IsTwice c) (twice c) (twice_lists c) h.0 _ refl)
    ∙ with_undefined c (nowhere_none (IsUndefined c) (undefined c) (undefined_lists c) h.1 _ refl)
    ∙ ap (first_of_three None None)
    (least_some (IsCyclic c) (unfounded c) v (cyclic_lists c) h.2 _ refl)
finds_fault c kind v h = absurd h

faultless_by : (c : Circuit) (a b d : Option ℕ) → reduce min (twice c) ≡ a
    → reduce min (undefined c) ≡ b → reduce min (unfounded c) ≡ d
    → first_of_three a b d ≡ None → IsFaultless c
faultless_by c (Some u) b d ea eb ed e = cc
faultless_by c None (Some u) d ea eb ed e = cc
faultless_by c None None (Some u) ea eb ed e = cc
faultless_by c None None None ea eb ed e = record {
  twice = is_nowhere (IsTwice c) (twice c) (twice_lists c) ea;
  undefined = is_nowhere (IsUndefined c) (undefined c) (undefined_lists c) eb;
  cyclic = is_nowhere (IsCyclic c) (unfounded c) (cyclic_lists c) ed;
}

-- If it finds none, the circuit has none.
pub faultless_found : (c : Circuit) → circuit_fault c ≡ None → IsFaultless c
faultless_found c e = faultless_by c _ _ _ refl refl refl e

-- It finds none of a circuit with no fault.
pub finds_faultless : (c : Circuit) → IsFaultless c → circuit_fault c ≡ None
finds_faultless c h =
    with_twice c (nowhere_none (IsTwice c) (twice c) (twice_lists c) h.twice _ refl)
    ∙ with_undefined c
    (nowhere_none (IsUndefined c) (undefined c) (undefined_lists c) h.undefined _ refl)
    ∙ ap (first_of_three None None)
    (nowhere_none (IsCyclic c) (unfounded c) (cyclic_lists c) h.cyclic _ refl)
