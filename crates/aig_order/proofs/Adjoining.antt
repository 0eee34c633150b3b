-- Definitions and edges as one list are an adjacency list, whatever ranks the definitions get.
use Rattle.std.proofs.Common.{◌⊎◌, inl, inr, ◌≡◌, ◌+◌, ◌≤◌, ◌/◌, Bool, true, false, cond, ◌&&◌, not, eqb, List, [], ◌∷◌, ℕ, sym, ap, ◌∙◌, refl, subst, arith, map, Contains}
use Rattle.em_record.specs.declared.record.Record.{Record}
use Rattle.em_weave.specs.Woven.{side_record, lefts, rights, NoneBefore, AscendsByA, LeftsFirst}
use Rattle.em_weave.specs.declared.side.Side.{Side}
use Rattle.em_weave.specs.declared.side.Side.TheVariants.{Left, Right}
use Rattle.em_weave.proofs.Laws.{none_before_rights}
use Rattle.aig_defs.specs.Founded.{has}
use Rattle.aig_defs.specs.Sorted.{AllAbove, Climbs}
use Rattle.aig_defs.proofs.Members.{has_cases, contains_first, contains_rest}
use Rattle.aig_defs.proofs.Unlike.{words}
use Rattle.aig_order.specs.PassLists.{renew}
use Rattle.aig_order.specs.Sweeps.{is_edge, is_gate, leads_to_gate, with_rank}
use Rattle.aig_order.proofs.Agreeing.{to_gates, agreed_if, places_if}
use Rattle.aig_order.proofs.Awaited.{gates_in}
use Rattle.aig_order.proofs.Telling.{IsAdjacency, end, edge, definition}

-- the left list has definitions, and the right one edges
abbrev pub NoEdges : List Record → Type 0
NoEdges [] = Unit {0}
NoEdges (r ∷ rs) = (is_edge r ≡ false) × NoEdges rs

abbrev pub AllEdges : List Record → Type 0
AllEdges [] = Unit {0}
AllEdges (e ∷ es) = (is_edge e ≡ true) × AllEdges es

-- an edge comes from a variable up to this one, or from one that is still to come
abbrev pub AllSourced : ℕ → List Record → List Record → Type 0
AllSourced u definitions edges = (e : Record) → Contains edges e
    → (e.a ≤ u) ⊎ (has (words definitions) e.a ≡ true)

-- a record with its rank
pub renew_edge : (rank : ℕ → ℕ) (r : Record) → is_edge r ≡ true → renew rank r ≡ r
renew_edge rank r e = ap (λ b. cond b r (with_rank r (rank r.a))) e

pub renew_definition : (rank : ℕ → ℕ) (r : Record) → is_edge r ≡ false
    → renew rank r ≡ with_rank r (rank r.a)
renew_definition rank r e = ap (λ b. cond b r (with_rank r (rank r.a))) e

none_has : (n v : ℕ) (xs : List Record) → NoneBefore n xs → has (words xs) v ≡ true → n ≤ v
none_has n v [] f h = cc
none_has n v (x ∷ xs) f h = elim (has_cases x.a v (words xs) h) [
  | inl same ↦ (let low = f.0 in omega (arith, same, low))
  | inr rest ↦ none_has n v xs f.1 rest
]

-- If definitions climb, and each edge comes from the constant or a defined variable, the woven list is
-- an adjacency list.
pub sides_adjoin : (rank : ℕ → ℕ) (u : ℕ) (ds : List Side) → NoEdges (lefts ds)
    → AllEdges (rights ds) → AllAbove u (lefts ds) → Climbs (lefts ds) → NoneBefore u (rights ds)
    → AscendsByA (map side_record ds) → LeftsFirst ds → AllSourced u (lefts ds) (rights ds)
    → IsAdjacency rank u (map (renew rank) (map side_record ds))
sides_adjoin rank u [] d e a c n s f o = end u
sides_adjoin rank u (Left l ∷ ds) d e a c n s f o =
    let rest = map (renew rank) (map side_record ds) in
    let more = sides_adjoin rank l.a ds d.1 e c.0 c.1 (none_before_rights l.a ds s.0) s.1 f (λ k i.
    elim (o k i) [
      | inl low ↦ inl (let over = a.0 in omega (arith, low, over))
      | inr there ↦ elim (has_cases l.a k.a (words (lefts ds)) there) [
        | inl same ↦ inl (omega (arith, same))
        | inr later ↦ inr later
      ]
    ]) in
    subst (λ r. IsAdjacency rank u (r ∷ rest)) (sym (renew_definition rank l d.0))
    (definition u (with_rank l (rank l.a)) rest d.0 a.0 refl more)
sides_adjoin rank u (Right r ∷ ds) d e a c n s f o =
    let rest = map (renew rank) (map side_record ds) in
    let own : r.a ≤ u = elim (o r (contains_first r r (rights ds) refl)) [
      | inl low ↦ low
      | inr there ↦
          (let later = none_has (r.a + 1) r.a (lefts ds) f.0 there in
          absurd (omega (arith, later)))
    ] in
    let low = n.0 in
    let more = sides_adjoin rank u ds d e.1 a c n.1 s.1 f.1
    (λ k i. o k (contains_rest r k (rights ds) i)) in
    subst (λ q. IsAdjacency rank u (q ∷ rest)) (sym (renew_edge rank r e.0))
    (edge u r rest e.0 (omega (arith, own, low)) more)

-- the gates among the records stay, whatever ranks they have,
renew_gates_by : (rank : ℕ → ℕ) (r : Record) (rs : List Record) (b : Bool) → is_edge r ≡ b
    → gates_in (map (renew rank) rs) ≡ gates_in rs
    → gates_in (renew rank r ∷ map (renew rank) rs) ≡ gates_in (r ∷ rs)
renew_gates_by rank r rs true e f =
    ap (λ x. gates_in (x ∷ map (renew rank) rs)) (renew_edge rank r e)
    ∙ ap (λ vs. cond (is_gate r) (r.a ∷ vs) vs) f
renew_gates_by rank r rs false e f =
    ap (λ x. gates_in (x ∷ map (renew rank) rs)) (renew_definition rank r e)
    ∙ ap (λ vs. cond (is_gate r) (r.a ∷ vs) vs) f

pub renew_gates : (rank : ℕ → ℕ) (rs : List Record) → gates_in (map (renew rank) rs) ≡ gates_in rs
renew_gates rank [] = refl
renew_gates rank (r ∷ rs) = renew_gates_by rank r rs (is_edge r) refl (renew_gates rank rs)

-- and so does what the edges say.
renew_agreed_by : (rank : ℕ → ℕ) (tell : Record → Bool) (v : ℕ) (r : Record) (rs : List Record)
    (b : Bool) → is_edge r ≡ b
    → agreed_if to_gates tell v (map (renew rank) rs) ≡ agreed_if to_gates tell v rs
    → agreed_if to_gates tell v (renew rank r ∷ map (renew rank) rs)
    ≡ agreed_if to_gates tell v (r ∷ rs)
renew_agreed_by rank tell v r rs true e f =
    ap (λ x. agreed_if to_gates tell v (x ∷ map (renew rank) rs)) (renew_edge rank r e)
    ∙ ap (λ z. cond (to_gates r && eqb v (r.b / 4)) (tell r) true && z) f
renew_agreed_by rank tell v r rs false e f =
    no_say (renew rank r) (map (renew rank) rs) (ap is_edge (renew_definition rank r e) ∙ e)
    ∙ f ∙ sym (no_say r rs e)
  where
    no_say : (x : Record) (xs : List Record) → is_edge x ≡ false
        → agreed_if to_gates tell v (x ∷ xs) ≡ agreed_if to_gates tell v xs
    no_say x xs e = ap (λ b. cond ((b && leads_to_gate x) && eqb v (x.b / 4)) (tell x) true
        && agreed_if to_gates tell v xs) e

pub renew_agreed : (rank : ℕ → ℕ) (tell : Record → Bool) (v : ℕ) (rs : List Record)
    → agreed_if to_gates tell v (map (renew rank) rs) ≡ agreed_if to_gates tell v rs
renew_agreed rank tell v [] = refl
renew_agreed rank tell v (r ∷ rs) =
    renew_agreed_by rank tell v r rs (is_edge r) refl (renew_agreed rank tell v rs)

renew_places_by : (rank : ℕ → ℕ) (v : ℕ) (r : Record) (rs : List Record) (b : Bool)
    → is_edge r ≡ b → places_if to_gates v (map (renew rank) rs) ≡ places_if to_gates v rs
    → places_if to_gates v (renew rank r ∷ map (renew rank) rs) ≡ places_if to_gates v (r ∷ rs)
renew_places_by rank v r rs true e f =
    ap (λ x. places_if to_gates v (x ∷ map (renew rank) rs)) (renew_edge rank r e)
    ∙ ap (λ z. cond (to_gates r && eqb v (r.b / 4)) 1 0 + z) f
renew_places_by rank v r rs false e f =
    no_place (renew rank r) (map (renew rank) rs) (ap is_edge (renew_definition rank r e) ∙ e)
    ∙ f ∙ sym (no_place r rs e)
  where
    no_place : (x : Record) (xs : List Record) → is_edge x ≡ false
        → places_if to_gates v (x ∷ xs) ≡ places_if to_gates v xs
    no_place x xs e =
        let none : 0 + places_if to_gates v xs ≡ places_if to_gates v xs = omega arith in
        ap (λ b. cond ((b && leads_to_gate x) && eqb v (x.b / 4)) 1 0 + places_if to_gates v xs) e
        ∙ none

pub renew_places : (rank : ℕ → ℕ) (v : ℕ) (rs : List Record)
    → places_if to_gates v (map (renew rank) rs) ≡ places_if to_gates v rs
renew_places rank v [] = refl
renew_places rank v (r ∷ rs) =
    renew_places_by rank v r rs (is_edge r) refl (renew_places rank v rs)

-- Of two lists as one the gates are those of the left, and what edges say is said by the right.
pub sides_gates : (ds : List Side) → AllEdges (rights ds)
    → gates_in (map side_record ds) ≡ gates_in (lefts ds)
sides_gates [] e = refl
sides_gates (Left l ∷ ds) e = ap (λ vs. cond (is_gate l) (l.a ∷ vs) vs) (sides_gates ds e)
sides_gates (Right r ∷ ds) e =
    ap (λ b. cond (not b && not (eqb r.d 1)) (r.a ∷ gates_in (map side_record ds))
    (gates_in (map side_record ds))) e.0
    ∙ sides_gates ds e.1

pub sides_agreed : (tell : Record → Bool) (v : ℕ) (ds : List Side) → NoEdges (lefts ds)
    → agreed_if to_gates tell v (map side_record ds) ≡ agreed_if to_gates tell v (rights ds)
sides_agreed tell v [] d = refl
sides_agreed tell v (Left l ∷ ds) d =
    ap (λ b. cond ((b && leads_to_gate l) && eqb v (l.b / 4)) (tell l) true
    && agreed_if to_gates tell v (map side_record ds)) d.0
    ∙ sides_agreed tell v ds d.1
sides_agreed tell v (Right r ∷ ds) d =
    ap (λ z. cond (to_gates r && eqb v (r.b / 4)) (tell r) true && z) (sides_agreed tell v ds d)

pub sides_places : (v : ℕ) (ds : List Side) → NoEdges (lefts ds)
    → places_if to_gates v (map side_record ds) ≡ places_if to_gates v (rights ds)
sides_places v [] d = refl
sides_places v (Left l ∷ ds) d =
    let rest = places_if to_gates v (map side_record ds) in
    let none : 0 + rest ≡ rest = omega arith in
    ap (λ b. cond ((b && leads_to_gate l) && eqb v (l.b / 4)) 1 0 + rest) d.0
    ∙ none ∙ sides_places v ds d.1
sides_places v (Right r ∷ ds) d =
    ap (λ z. cond (to_gates r && eqb v (r.b / 4)) 1 0 + z) (sides_places v ds d)

-- a rank that is given twice is the last one
renew_again_by : (old new : ℕ → ℕ) (r : Record) (b : Bool) → is_edge r ≡ b
    → renew new (renew old r) ≡ renew new r
renew_again_by old new r true e = ap (renew new) (renew_edge old r e)
renew_again_by old new r false e =
    ap (renew new) (renew_definition old r e)
    ∙ renew_definition new (with_rank r (old r.a)) e ∙ sym (renew_definition new r e)

pub renew_again : (old new : ℕ → ℕ) (rs : List Record)
    → map (renew new) (map (renew old) rs) ≡ map (renew new) rs
renew_again old new [] = refl
renew_again old new (r ∷ rs) =
    ap (λ x. x ∷ map (renew new) (map (renew old) rs)) (renew_again_by old new r (is_edge r) refl)
    ∙ ap (λ xs. renew new r ∷ xs) (renew_again old new rs)
