-- The ranks of the variables that passes found, by the order in which they were found.
use Rattle.std.proofs.Common.{inl, inr, ◌≡◌, ◌≢◌, ◌+◌, ◌/◌, Bool, true, false, cond, eqb, ◌||◌, not, List, ◌∷◌, ◌++◌, ℕ, suc, sym, ap, ◌∙◌, refl, arith, length, Contains, append_assoc}
use Rattle.std.proofs.lemmas.Bool.{cases_Bool, eqb-true, eqb-false, eq-eqb, ne_eqb}
use Rattle.std.proofs.lemmas.List.{length-map, map-append}
use Rattle.aig_defs.specs.declared.circuit.Gate.{Gate}
use Rattle.aig_defs.specs.Circuit.{Circuit, variables, currents, left_sides, IsCircuit}
use Rattle.aig_defs.specs.Faults.{IsTwice, Nowhere}
use Rattle.aig_defs.specs.Founded.{has, sources, upwards, passed}
use Rattle.aig_defs.specs.Ranks.{given_literals, ranked, first_gate_rank, index}
use Rattle.aig_defs.specs.VariableRanks.{variable_rank}
use Rattle.aig_defs.proofs.Founding.{first_kept, passed_more}
use Rattle.aig_defs.proofs.Members.{has_first}
use Rattle.aig_defs.proofs.VariableRanks.{gate_not_given, given_is}
use Rattle.aig_defs.proofs.Single.{has_variable}
use Rattle.aig_defs.proofs.Upwards.{index_after, index_before}
use Rattle.aig_order.specs.ByPass.{added, found}
use Rattle.aig_order.specs.PassLists.{known}
use Rattle.aig_order.proofs.ByPass.{found_covers}
use Rattle.aig_order.proofs.Finding.{found_at}

pub known_if : (c : Circuit) (n v : ℕ) (b : Bool) → has (passed c n) v ≡ b
    → known c n v ≡ cond b (variable_rank c (found c n) v) 0
known_if c n v b e = ap (λ t. cond t (variable_rank c (found c n) v) 0) e

-- only the constant has rank 0
pub rank_some : (c : Circuit) (order : List Gate) (v : ℕ) → v ≢ 0 → variable_rank c order v ≢ 0
rank_some c order v some e =
    let rest = (c.inputs ++ currents c.latches) ++ left_sides order in
    let past = ap (λ b. cond b 0 (index v rest + 1)) (ne_eqb 0 v (λ s. some (sym s))) in
    omega (arith, sym e ∙ past)

-- It tells which variables were found.
pub found_known : (c : Circuit) (n v : ℕ) → found_at (known c n) v ≡ has (passed c n) v
found_known c n v = elim (cases_Bool (eqb v 0)) [
  | inl constant ↦
      ap (λ b. b || not (eqb (known c n v) 0)) constant
      ∙ sym (first_kept c n v (has_first 0 v (sources c) (sym (eqb-true v 0 constant))))
  | inr some ↦ elim (cases_Bool (has (passed c n) v)) [
    | inl t ↦
        ap (λ b. b || not (eqb (known c n v) 0)) some
        ∙ ap (λ m. not (eqb m 0)) (known_if c n v true t)
        ∙ ap not (ne_eqb (variable_rank c (found c n) v) 0
        (rank_some c (found c n) v (eqb-false v 0 some)))
        ∙ sym t
    | inr f ↦
        ap (λ b. b || not (eqb (known c n v) 0)) some
        ∙ ap (λ m. not (eqb m 0)) (known_if c n v false f)
        ∙ sym f
  ]
]

-- What was found before a pass keeps its rank.
pub known_stays : (c : Circuit) (n v : ℕ) → has (passed c n) v ≡ true
    → known c (suc n) v ≡ known c n v
known_stays c n v t =
    let new = added (upwards c.gates) (passed c n) in
    let more = left_sides new in
    let parts : ranked c (found c (suc n)) ≡ ranked c (found c n) ++ more =
    ap (λ z. given_literals c ++ z) (map-append (λ (g : Gate). g.lhs) (found c n) new)
    ∙ sym (append_assoc (given_literals c) (left_sides (found c n)) more) in
    known_if c (suc n) v true (passed_more (upwards c.gates) (passed c n) v t)
    ∙ ap (index v) parts
    ∙ index_before v (ranked c (found c n)) more (found_covers c n v t)
    ∙ sym (known_if c n v true t)

-- The rank of a gate in an order, by how many come before it.
pub place_in : (c : Circuit) (g : Gate) (before after : List Gate) → IsCircuit c → Nowhere (IsTwice c)
    → Contains c.gates g → (has (variables (left_sides before)) (g.lhs / 2) ≡ true → ⊥)
    → variable_rank c (before ++ g ∷ after) (g.lhs / 2) ≡ first_gate_rank c + length before
place_in c g before after is w i f =
    let v = g.lhs / 2 in
    let ls = left_sides before in
    let rest = g.lhs ∷ left_sides after in
    let split : left_sides (before ++ g ∷ after) ≡ ls ++ rest =
    map-append (λ (k : Gate). k.lhs) before (g ∷ after) in
    let own : index v rest ≡ 0 =
    ap (λ b. cond b 0 (index v (left_sides after) + 1)) (eq-eqb (g.lhs / 2) v refl) in
    let inner : index v (ls ++ rest) ≡ length ls + index v rest = index_after v ls rest f in
    ap (λ z. index v (given_literals c ++ z)) split
    ∙ index_after v (given_literals c) (ls ++ rest) (λ given.
    gate_not_given c is w v (has_variable c.gates g i)
    (sym (ap (λ z. has z v) (given_is c)) ∙ given))
    ∙ ap (λ m. first_gate_rank c + m) (inner
    ∙ (let count = length-map before (λ (k : Gate). k.lhs) in omega (arith, own, count)))
