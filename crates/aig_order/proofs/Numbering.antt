-- A pass over the adjacency list of a circuit: the gates that it adds get the next ranks, one after
-- another.
use Rattle.std.proofs.Common.{◌⊎◌, inl, inr, ◌≡◌, ◌≢◌, ◌+◌, ◌-◌, ◌^◌, ◌<◌, ◌/◌, Bool, true, false, cond, eqb, ◌&&◌, ◌||◌, not, List, [], ◌∷◌, ◌++◌, ℕ, suc, sym, ap, ◌∙◌, refl, subst, arith, length, Contains, append_assoc}
use Rattle.std.proofs.lemmas.Bool.{cases_Bool, eqb-true, ne_eqb, not_from_true}
use Rattle.std.proofs.lemmas.List.{append-nil, length-append, map-append}
use Rattle.em_record.specs.declared.record.Record.{Record}
use Rattle.aig_defs.specs.declared.circuit.Gate.{Gate}
use Rattle.aig_defs.specs.Circuit.{Circuit, variables, left_sides, IsCircuit}
use Rattle.aig_defs.specs.Faults.{IsTwice, Nowhere}
use Rattle.aig_defs.specs.Founded.{has, first_set, is_added, pass, passed}
use Rattle.aig_defs.specs.Ranks.{first_gate_rank}
use Rattle.aig_defs.specs.VariableRanks.{variable_rank}
use Rattle.aig_defs.proofs.Founding.{first_kept, passed_more}
use Rattle.aig_defs.proofs.Members.{has_cases, has_first, has_right, contains_first, contains_rest}
use Rattle.aig_defs.proofs.Unlike.{Unlike}
use Rattle.aig_defs.proofs.Upwards.{Mount}
use Rattle.aig_order.specs.ByPass.{added, found}
use Rattle.aig_order.specs.PassLists.{known}
use Rattle.aig_order.specs.Sweeps.{is_edge, is_gate}
use Rattle.aig_order.proofs.Awaited.{gates_in}
use Rattle.aig_order.proofs.ByPass.{found_unlike}
use Rattle.aig_order.proofs.Finding.{Finding, end, edge, source, kept, gained, left, other_gates, own_gates}
use Rattle.aig_order.proofs.Known.{known_if, known_stays, place_in, rank_some}
use Rattle.aig_order.proofs.PassBits.{low_kept, over_in}
use Rattle.aig_order.proofs.Telling.{IsAdjacency}
use Rattle.aig_order.proofs.Telling as telling

-- a definition is that of an input or a latch, which is found from the start, or that of a gate
abbrev pub AllKinds : Circuit → List Record → Type 0
AllKinds c rs = (r : Record) → Contains rs r → is_edge r ≡ false
    → ((r.d ≡ 1) × (has (first_set c) r.a ≡ true)) ⊎ (r.d ≡ 2)

-- Where a pass stands: these gates are left, and it has added others.
pub record Passing (c : Circuit) (n : ℕ) (gs new : List Gate) (set : List ℕ) : Type 0 where
  pub is : (g : Gate) → Contains gs g → Contains c.gates g
  pub mount : Mount gs
  pub order : found c (suc n) ≡ found c n ++ (new ++ added gs set)
  pub now : passed c (suc n) ≡ pass gs set
  pub same : (g : Gate) → Contains gs g
      → has set (g.lhs / 2) ≡ has (passed c n) (g.lhs / 2)

-- the next rank then
abbrev pub next_rank : Circuit → ℕ → List Gate → ℕ
next_rank c n new = first_gate_rank c + length (found c n ++ new)

-- a gate that isn't added,
pass_by : (c : Circuit) (n : ℕ) (g : Gate) (gs new : List Gate) (set : List ℕ)
    → is_added set g ≡ false → Passing c n (g ∷ gs) new set → Passing c n gs new set
pass_by c n g gs new set off p = record {
  is = λ h i. p.is h (contains_rest g h gs i);
  mount = p.mount.1;
  order = p.order ∙ ap (λ b. found c n ++ (new
      ++ cond b (g ∷ added gs (g.lhs / 2 ∷ set)) (added gs set))) off;
  now = p.now ∙ ap (λ b. pass gs (cond b (g.lhs / 2 ∷ set) set)) off;
  same = λ h i. p.same h (contains_rest g h gs i);
}

-- and one that is
pass_on : (c : Circuit) (n : ℕ) (g : Gate) (gs new : List Gate) (set : List ℕ)
    → is_added set g ≡ true → Passing c n (g ∷ gs) new set
    → Passing c n gs (new ++ g ∷ []) (g.lhs / 2 ∷ set)
pass_on c n g gs new set on p = record {
  is = λ h i. p.is h (contains_rest g h gs i);
  mount = p.mount.1;
  order = p.order
      ∙ ap (λ b. found c n ++ (new
      ++ cond b (g ∷ added gs (g.lhs / 2 ∷ set)) (added gs set))) on
      ∙ ap (λ z. found c n ++ z) (sym (append_assoc new (g ∷ []) (added gs (g.lhs / 2 ∷ set))));
  now = p.now ∙ ap (λ b. pass gs (cond b (g.lhs / 2 ∷ set) set)) on;
  same = λ h i.
      let over = over_in (g.lhs / 2) gs h p.mount.0 i in
      ap (λ b. b || has set (h.lhs / 2)) (ne_eqb (g.lhs / 2) (h.lhs / 2) (omega (arith, over)))
      ∙ p.same h (contains_rest g h gs i);
}

next_on : (c : Circuit) (n : ℕ) (g : Gate) (new : List Gate)
    → next_rank c n (new ++ g ∷ []) ≡ next_rank c n new + 1
next_on c n g new =
    omega (
      arith,
      length-append (found c n) (new ++ g ∷ []),
      length-append new (g ∷ []),
      length-append (found c n) new,
    )

-- a number among unlike ones isn't one of those before it
unlike_before : (xs ys : List ℕ) (v : ℕ) → Unlike (xs ++ v ∷ ys) → has xs v ≡ true → ⊥
unlike_before [] ys v u h = cc
unlike_before (x ∷ xs) ys v u h = elim (has_cases x v xs h) [
  | inl same ↦ u.0 (has_right xs (v ∷ ys) x (has_first v x ys (sym same)))
  | inr rest ↦ unlike_before xs ys v u.1 rest
]

-- the order around a gate that is added
around : (c : Circuit) (n : ℕ) (g : Gate) (gs new : List Gate) (set : List ℕ)
    → is_added set g ≡ true → Passing c n (g ∷ gs) new set
    → found c (suc n) ≡ (found c n ++ new) ++ g ∷ added gs (g.lhs / 2 ∷ set)
around c n g gs new set on p =
    p.order
    ∙ ap (λ b. found c n ++ (new ++ cond b (g ∷ added gs (g.lhs / 2 ∷ set)) (added gs set))) on
    ∙ sym (append_assoc (found c n) new (g ∷ added gs (g.lhs / 2 ∷ set)))

gained_rank : (c : Circuit) (n : ℕ) (g : Gate) (gs new : List Gate) (set : List ℕ) → IsCircuit c
    → Nowhere (IsTwice c) → is_added set g ≡ true → Passing c n (g ∷ gs) new set
    → known c (suc n) (g.lhs / 2) ≡ next_rank c n new
gained_rank c n g gs new set is w on p =
    let v = g.lhs / 2 in
    let old = found c n ++ new in
    let after = added gs (v ∷ set) in
    let parts = around c n g gs new set on p in
    let own = (pass_on c n g gs new set on p).now in
    let there : has (passed c (suc n)) v ≡ true =
    ap (λ z. has z v) own ∙ passed_more gs (v ∷ set) v (has_first v v set refl) in
    let unlike = subst (λ z. Unlike (variables (left_sides z))) parts (found_unlike c (suc n)) in
    let split = ap variables (map-append (λ (k : Gate). k.lhs) old (g ∷ after))
    ∙ map-append (λ (l : ℕ). l / 2) (left_sides old) (g.lhs ∷ left_sides after) in
    known_if c (suc n) v true there
    ∙ ap (λ z. index_in z) parts
    ∙ place_in c g old after is w (p.is g (contains_first g g gs refl))
    (unlike_before (variables (left_sides old)) (variables (left_sides after)) v
    (subst Unlike split unlike))
  where
    index_in : List Gate → ℕ
    index_in order = variable_rank c order (g.lhs / 2)

-- the next rank is below the last one if a gate is added
next_low : (c : Circuit) (n : ℕ) (g : Gate) (gs new : List Gate) (set : List ℕ)
    → is_added set g ≡ true → Passing c n (g ∷ gs) new set
    → next_rank c n new < first_gate_rank c + length (found c (suc n))
next_low c n g gs new set on p =
    let after = added gs (g.lhs / 2 ∷ set) in
    omega (
      arith,
      ap length (around c n g gs new set on p),
      length-append (found c n ++ new) (g ∷ after),
    )

-- a gate that isn't added and wasn't found has no rank after the pass
left_rank : (c : Circuit) (n : ℕ) (g : Gate) (gs new : List Gate) (set : List ℕ)
    → is_added set g ≡ false → Passing c n (g ∷ gs) new set
    → has (passed c n) (g.lhs / 2) ≡ false → known c (suc n) (g.lhs / 2) ≡ 0
left_rank c n g gs new set off p f =
    let v = g.lhs / 2 in
    let now = (pass_by c n g gs new set off p).now in
    known_if c (suc n) v false (ap (λ z. has z v) now
    ∙ low_kept gs set v v (omega arith) p.mount.0
    ∙ p.same g (contains_first g g gs refl) ∙ f)

-- a gate that was found isn't added
old_off : (set : List ℕ) (g : Gate) → has set (g.lhs / 2) ≡ true → is_added set g ≡ false
old_off set g t =
    and_left_false (not (has set (g.lhs / 2))) (has set (g.rhs0 / 2) && has set (g.rhs1 / 2))
    (not_from_true _ t)
  where
    and_left_false : (a b : Bool) → a ≡ false → (a && b) ≡ false
    and_left_false false b e = refl
    and_left_false true b e = cc

-- a gate's definition, by what the pass does
gate_finding : (c : Circuit) (n u : ℕ) (r : Record) (rs : List Record) (g : Gate)
    (gs new : List Gate) (set : List ℕ) → IsCircuit c → Nowhere (IsTwice c)
    → first_gate_rank c + length (found c (suc n)) < 2 ^ 64 - 1 → r.d ≡ 2 → u < r.a
    → r.c ≡ known c n r.a → r.a ≡ g.lhs / 2 → Passing c n (g ∷ gs) new set
    → ((more : List Gate) (s : List ℕ) → Passing c n gs more s
    → Finding (known c n) (known c (suc n)) r.a (next_rank c n more)
    (first_gate_rank c + length (found c (suc n))) rs)
    → Finding (known c n) (known c (suc n)) u (next_rank c n new)
    (first_gate_rank c + length (found c (suc n))) (r ∷ rs)
gate_finding c n u r rs g gs new set is w few d l cr at p f =
    let v = g.lhs / 2 in
    let next = next_rank c n new in
    let last = first_gate_rank c + length (found c (suc n)) in
    elim (cases_Bool (has (passed c n) v)) [
      | inl t ↦
          let off = old_off set g (p.same g (contains_first g g gs refl) ∙ t) in
          let there = ap (has (passed c n)) at ∙ t in
          let some : r.a ≢ 0 = omega (arith, l) in
          let nonzero : r.c ≢ 0 = λ e. rank_some c (found c n) r.a some
          (sym (known_if c n r.a true there) ∙ sym cr ∙ e) in
          kept u next last r rs d l (cr ∙ sym (known_stays c n r.a there)) nonzero
          (f new set (pass_by c n g gs new set off p))
      | inr none ↦
          let zero : r.c ≡ 0 =
          cr ∙ known_if c n r.a false (ap (has (passed c n)) at ∙ none) in
          elim (cases_Bool (is_added set g)) [
            | inl on ↦
                let low = next_low c n g gs new set on p in
                gained u next last r rs d l zero
                (ap (known c (suc n)) at ∙ gained_rank c n g gs new set is w on p)
                (omega arith) (omega (arith, low, few))
                (subst (λ z. Finding (known c n) (known c (suc n)) r.a z last rs) (next_on c n g new)
                (f (new ++ g ∷ []) (v ∷ set) (pass_on c n g gs new set on p)))
            | inr off ↦
                left u next last r rs d l zero
                (ap (known c (suc n)) at ∙ left_rank c n g gs new set off p none)
                (f new set (pass_by c n g gs new set off p))
          ]
    ]

-- one number at the front of two equal lists
first_same : (a b : ℕ) (xs ys : List ℕ) → a ∷ xs ≡ b ∷ ys → (a ≡ b) × (xs ≡ ys)
first_same a b xs ys e = (cc, cc)

source_plain : (r : Record) → r.d ≡ 1 → is_gate r ≡ false
source_plain r d = ap (λ (x : ℕ). not (eqb x 0) && not (eqb x 1)) d

gate_plain : (r : Record) → r.d ≡ 2 → is_gate r ≡ true
gate_plain r d = ap (λ (x : ℕ). not (eqb x 0) && not (eqb x 1)) d

-- a gate's definition has a gate of those that are left
by_gates : (c : Circuit) (n u : ℕ) (r : Record) (rs : List Record) → IsCircuit c
    → Nowhere (IsTwice c) → first_gate_rank c + length (found c (suc n)) < 2 ^ 64 - 1 → u < r.a
    → r.c ≡ known c n r.a → (gs new : List Gate) (set : List ℕ) → Passing c n gs new set
    → r.a ∷ gates_in rs ≡ variables (left_sides gs) → r.d ≡ 2
    → ((hs more : List Gate) (s : List ℕ) → Passing c n hs more s
    → gates_in rs ≡ variables (left_sides hs)
    → Finding (known c n) (known c (suc n)) r.a (next_rank c n more)
    (first_gate_rank c + length (found c (suc n))) rs)
    → Finding (known c n) (known c (suc n)) u (next_rank c n new)
    (first_gate_rank c + length (found c (suc n))) (r ∷ rs)
by_gates c n u r rs is w few l cr [] new set p e d f = absurd (cc (e))
by_gates c n u r rs is w few l cr (g ∷ gs) new set p e d f =
    let both = first_same r.a (g.lhs / 2) (gates_in rs) (variables (left_sides gs)) e in
    gate_finding c n u r rs g gs new set is w few d l cr both.0 p (λ more s q. f gs more s q both.1)

-- The list before a pass, with the ranks after it, if the pass stands there.
pub pass_finding : (c : Circuit) (n : ℕ) → IsCircuit c → Nowhere (IsTwice c)
    → first_gate_rank c + length (found c (suc n)) < 2 ^ 64 - 1 → (u : ℕ) (rs : List Record)
    → IsAdjacency (known c n) u rs → (gs new : List Gate) (set : List ℕ) → Passing c n gs new set
    → gates_in rs ≡ variables (left_sides gs) → AllKinds c rs
    → Finding (known c n) (known c (suc n)) u (next_rank c n new)
    (first_gate_rank c + length (found c (suc n))) rs
pass_finding c n is w few u rs (telling.end v) [] new set p e k =
    let all = p.order ∙ ap (λ z. found c n ++ z) (append-nil new) in
    subst (λ z. Finding (known c n) (known c (suc n)) u (next_rank c n new) z [])
    (ap (λ (z : List Gate). first_gate_rank c + length z) (sym all)) (end u (next_rank c n new))
pass_finding c n is w few u rs (telling.end v) (g ∷ gs) new set p e k = absurd (cc (e))
pass_finding c n is w few u rs (telling.edge v r es t a f) gs new set p e k =
    let plain : is_gate r ≡ false = ap (λ b. not b && not (eqb r.d 1)) t in
    edge u _ _ r es (eqb-true r.d 0 t) a (pass_finding c n is w few u es f gs new set p
    (sym (other_gates r es plain) ∙ e) (λ q i. k q (contains_rest r q es i)))
pass_finding c n is w few u rs (telling.definition v r es t l cr f) gs new set p e k =
    elim (k r (contains_first r r es refl) t) [
      | inl one ↦
          let plain : is_gate r ≡ false = source_plain r one.0 in
          source u _ _ r es one.0 l
          (cr ∙ sym (known_stays c n r.a (first_kept c n r.a one.1)))
          (pass_finding c n is w few r.a es f gs new set p (sym (other_gates r es plain) ∙ e)
          (λ q i. k q (contains_rest r q es i)))
      | inr two ↦
          by_gates c n u r es is w few l cr gs new set p
          (sym (own_gates r es (gate_plain r two)) ∙ e) two
          (λ hs more s q a.
          pass_finding c n is w few r.a es f hs more s q a (λ x i. k x (contains_rest r x es i)))
    ]
