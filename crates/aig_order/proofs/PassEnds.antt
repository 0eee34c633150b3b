-- Where the passes end: after one that adds nothing, or after as many as there are gates. Then the gates
-- are found in the order by (pass, variable).
use Rattle.std.proofs.Common.{◌⊎◌, inl, inr, ◌≡◌, ◌+◌, ◌<◌, ◌≤◌, if◌then◌else◌, List, [], ◌∷◌, ◌++◌, ℕ, suc, sym, ap, ap₂, ◌∙◌, refl, subst, arith, length, map}
use Rattle.std.proofs.lemmas.Bool.{cases_lt}
use Rattle.std.proofs.lemmas.List.{append-nil, length-append}
use Rattle.aig_defs.specs.declared.circuit.Gate.{Gate}
use Rattle.aig_defs.specs.Circuit.{Circuit}
use Rattle.aig_defs.specs.Founded.{has, upwards, passed, passes_of}
use Rattle.aig_defs.specs.VariableRanks.{variable_rank}
use Rattle.aig_defs.proofs.Passes.{passes_is, passes_most}
use Rattle.aig_order.specs.ByPass.{added, found, by_pass}
use Rattle.aig_order.specs.PassLists.{renew, first_list, list_after}
use Rattle.aig_order.proofs.Orders.{AllAdd, passes_by, passes_fewer}
use Rattle.aig_order.proofs.PassLists.{next_after, gives_none}

-- Passes that each add a gate are all that the circuit has, if another one adds nothing, or if they are
-- as many as the gates.
pub passes_end : (c : Circuit) (n : ℕ) → AllAdd c n
    → (passed c (suc n) ≡ passed c n) ⊎ (length c.gates ≤ n) → n ≡ passes_of c
passes_end c n add (inl still) = passes_by c n still add
passes_end c n add (inr all) = omega (arith, all, passes_fewer c n add, passes_most c)

-- Then they find the gates by (pass, variable), and another one adds nothing.
pub ends_by_pass : (c : Circuit) (n : ℕ) → n ≡ passes_of c → found c n ≡ by_pass c
ends_by_pass c n e = ap (found c) e

pub ends_still : (c : Circuit) (n : ℕ) → n ≡ passes_of c → passed c (suc n) ≡ passed c n
ends_still c n e = subst (λ r. passed c (suc r) ≡ passed c r) (sym e) (passes_is c).still

-- one pass more that adds a gate
pub adds_more : (c : Circuit) (n : ℕ) → AllAdd c n
    → 0 < length (added (upwards c.gates) (passed c n)) → AllAdd c (n + 1)
adds_more c n add some j low = elim (cases_lt j n) [
  | inl less ↦ add j less
  | inr most ↦
      let same : n ≡ j = omega (arith, low, most) in
      subst (λ i. 0 < length (added (upwards c.gates) (passed c i))) same some
]

-- a list with no record
no_records : (gs : List Gate) → length gs ≡ 0 → gs ≡ []
no_records [] e = refl
no_records (g ∷ gs) e = absurd (omega (arith, e))

-- A pass that gives no rank finds nothing, and leaves the list as it was.
pub found_still : (c : Circuit) (n : ℕ) → next_after c (suc n) ≡ next_after c n
    → found c (suc n) ≡ found c n
found_still c n e =
    let new = added (upwards c.gates) (passed c n) in
    let none : length new ≡ 0 = omega (arith, e, length-append (found c n) new) in
    ap (λ z. found c n ++ z) (no_records new none) ∙ append-nil (found c n)

pub list_still : (c : Circuit) (n : ℕ) → next_after c (suc n) ≡ next_after c n
    → list_after c (suc n) ≡ list_after c n
list_still c n e =
    ap₂ (λ (set : List ℕ) (order : List Gate).
    map (renew (λ v. if has set v then variable_rank c order v else 0)) (first_list c))
    (gives_none c n e) (found_still c n e)
