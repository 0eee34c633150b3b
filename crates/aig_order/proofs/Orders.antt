-- If passes find all gates, the order in which they find them is one for ranks. If they don't, the
-- least gate that is left is the least that isn't founded.
use Rattle.std.proofs.Common.{◌⊎◌, inl, inr, ◌≡◌, ◌+◌, ◌<◌, ◌≤◌, ◌/◌, Bool, true, false, cond, List, [], ◌∷◌, ◌++◌, ℕ, suc, sym, ap, ◌∙◌, refl, subst, arith, length, Contains}
use Rattle.std.proofs.lemmas.Bool.{cases_Bool, cases_lt}
use Rattle.std.proofs.lemmas.List.{length-append}
use Rattle.std.proofs.lemmas.List.Elements.{All-weaker, All-contains_itself}
use Rattle.aig_defs.specs.declared.circuit.Gate.{Gate}
use Rattle.aig_defs.specs.Circuit.{Circuit, variables, left_sides, IsCircuit}
use Rattle.aig_defs.specs.Faults.{definitions, IsTwice, IsUndefined, IsCyclic, Nowhere, IsLeast, IsFaultless}
use Rattle.aig_defs.specs.Founded.{has, sources, gate_variables, upwards, is_added, pass, passed, passes_of}
use Rattle.aig_defs.specs.Ranks.{ranked, ends, IsDefinedBy, IsOrder}
use Rattle.aig_defs.proofs.Founding.{passed_founded, passed_complete, first_kept}
use Rattle.aig_defs.proofs.Members.{has_first, has_rest, has_either, contains_first, contains_rest, contains_cases, contains_none, gate_with}
use Rattle.aig_defs.proofs.Passes.{passes_is, passes_one}
use Rattle.aig_defs.proofs.Uses.{used_defined, end_used}
use Rattle.aig_defs.proofs.Single.{has_variable}
use Rattle.aig_defs.proofs.Unlike.{Unlike}
use Rattle.aig_defs.proofs.Upwards.{gates_unlike}
use Rattle.aig_order.specs.ByPass.{added, found, by_pass}
use Rattle.aig_order.proofs.ByPass.{found_covers, found_follow, found_in, found_unlike, found_gate}

-- a gate among others, between those before it and those after it
pub record HasMiddle (gs : List Gate) (g : Gate) : Type 0 where
  pub before : List Gate
  pub after : List Gate
  pub is : gs ≡ before ++ g ∷ after

pub middle_of : (gs : List Gate) (g : Gate) → Contains gs g → HasMiddle gs g
middle_of [] g i = absurd (contains_none g i)
middle_of (h ∷ gs) g i = elim (contains_cases h g gs i) [
  | inl same ↦ record { before = []; after = gs; is = ap (λ (z : Gate). z ∷ gs) same }
  | inr rest ↦
      let m = middle_of gs g rest in
      record { before = h ∷ m.before; after = m.after; is = ap (λ z. h ∷ z) m.is }
]

-- another gate is still there without it
pub without_middle : (xs ys : List Gate) (g h : Gate) → Contains (xs ++ g ∷ ys) h
    → (g ≡ h → ⊥) → Contains (xs ++ ys) h
without_middle [] ys g h i f = elim (contains_cases g h ys i) [
  | inl same ↦ absurd (f same)
  | inr rest ↦ rest
]
without_middle (x ∷ xs) ys g h i f = elim (contains_cases x h (xs ++ g ∷ ys) i) [
  | inl same ↦ contains_first x h (xs ++ ys) same
  | inr rest ↦ contains_rest x h (xs ++ ys) (without_middle xs ys g h rest f)
]

pub length_middle : (xs ys : List Gate) (g : Gate)
    → length (xs ++ g ∷ ys) ≡ length (xs ++ ys) + 1
length_middle xs ys g =
    omega (arith, length-append xs (g ∷ ys), length-append xs ys)

-- of gates with unlike variables there are no more than of gates that have all of them
pub no_more : (gs hs : List Gate) → Unlike (variables (left_sides gs))
    → ((g : Gate) → Contains gs g → Contains hs g) → length gs ≤ length hs
no_more [] hs u f = omega arith
no_more (g ∷ gs) hs u f =
    let m = middle_of hs g (f g (contains_first g g gs refl)) in
    let rest = no_more gs (m.before ++ m.after) u.1 (λ h i.
    without_middle m.before m.after g h (subst (λ z. Contains z h) m.is (f h (contains_rest g h gs i)))
    (λ same. u.0 (ap (λ (z : Gate). has (variables (left_sides gs)) (z.lhs / 2)) same
    ∙ has_variable gs h i))) in
    omega (arith, rest, length_middle m.before m.after g, ap length m.is)

-- all gates were found
abbrev pub AllFound : Circuit → ℕ → Type 0
AllFound c n = (g : Gate) → Contains c.gates g → has (passed c n) (g.lhs / 2) ≡ true

-- what is defined, or the constant's variable, is found then
pub defined_found : (c : Circuit) (n v : ℕ) → AllFound c n
    → (v ≡ 0) ⊎ (has (definitions c) v ≡ true) → has (passed c n) v ≡ true
defined_found c n v f (inl constant) =
    first_kept c n v (has_first 0 v (sources c) (sym constant))
defined_found c n v f (inr there) = elim (has_either (sources c) (gate_variables c) v there) [
  | inl a ↦ first_kept c n v (has_rest 0 v (sources c) a)
  | inr b ↦
      let g = gate_with c.gates v b in
      ap (has (passed c n)) (sym g.variable) ∙ f g.gate g.is
]

-- A circuit has no fault if nothing is defined twice or used and not defined, and passes find all
-- gates;
pub found_faultless : (c : Circuit) (n : ℕ) → Nowhere (IsTwice c) → Nowhere (IsUndefined c)
    → AllFound c n → IsFaultless c
found_faultless c n w u f = record {
  twice = w;
  undefined = u;
  cyclic = λ v k.
      let g = gate_with c.gates v k.gate in
      k.unfounded (passed_founded c n v (ap (has (passed c n)) (sym g.variable) ∙ f g.gate g.is));
}

-- and as many gates were found as there are.
pub found_count : (c : Circuit) (n : ℕ) → IsCircuit c → Nowhere (IsTwice c) → AllFound c n
    → length (found c n) ≡ length c.gates
found_count c n is w f =
    let least = no_more c.gates (found c n) (gates_unlike c w) (λ g i.
    found_gate c n is w g i (f g i)) in
    let most = no_more (found c n) c.gates (found_unlike c n) (λ g i. (found_in c n g i).is) in
    omega (arith, least, most)

-- Then the order in which they were found is one for ranks.
pub found_order : (c : Circuit) (n : ℕ) → IsCircuit c → Nowhere (IsTwice c)
    → Nowhere (IsUndefined c) → AllFound c n → IsOrder c (found c n)
found_order c n is w u f = record {
  is = is;
  faultless = found_faultless c n w u f;
  count = found_count c n is w f;
  gates = λ g i. (found_in c n g i).is;
  all = λ g i. found_gate c n is w g i (f g i);
  follow = found_follow c n;
  ends = All-weaker (Contains (ends c)) (IsDefinedBy (ranked c (found c n)))
      (λ l i. found_covers c n (l / 2) (defined_found c n (l / 2) f
      (used_defined c (l / 2) u (end_used c l i))))
      (ends c) (All-contains_itself (ends c));
}

-- In a circuit with no fault the passes find all gates.
pub faultless_found : (c : Circuit) → IsFaultless c → AllFound c (passes_of c)
faultless_found c h g i = elim (cases_Bool (has (passed c (passes_of c)) (g.lhs / 2))) [
  | inl t ↦ t
  | inr f ↦
      absurd (h.cyclic (g.lhs / 2) (record {
        gate = has_variable c.gates g i;
        unfounded = λ k.
            let t = passed_complete c (passes_of c) (passes_is c).still (g.lhs / 2) k in cc;
      }))
]

-- So the gates by (pass, variable) are in an order for ranks.
pub by_pass_order : (c : Circuit) → IsCircuit c → IsFaultless c → IsOrder c (by_pass c)
by_pass_order c is h =
    found_order c (passes_of c) is h.twice h.undefined (faultless_found c h)

-- If another pass adds nothing, the least gate that is left is the least that isn't founded.
pub left_cyclic : (c : Circuit) (n : ℕ) → passed c (suc n) ≡ passed c n → (g : Gate)
    → Contains c.gates g → has (passed c n) (g.lhs / 2) ≡ false
    → ((h : Gate) → Contains c.gates h → has (passed c n) (h.lhs / 2) ≡ false
    → g.lhs / 2 ≤ h.lhs / 2)
    → IsLeast (IsCyclic c) (g.lhs / 2)
left_cyclic c n still g i left least = record {
  is = record {
    gate = has_variable c.gates g i;
    unfounded = λ k. let t = passed_complete c n still (g.lhs / 2) k in cc;
  };
  below = λ v low k.
      let h = gate_with c.gates v k.gate in
      elim (cases_Bool (has (passed c n) (h.gate.lhs / 2))) [
        | inl t ↦ k.unfounded (passed_founded c n v (ap (has (passed c n)) (sym h.variable) ∙ t))
        | inr f ↦
            let most = least h.gate h.is f in
            absurd (omega (arith, most, low, h.variable))
      ];
}

-- A pass adds as many variables as gates.
count_by : (b : Bool) (g : Gate) (gs : List Gate) (set : List ℕ)
    → ((s : List ℕ) → length (pass gs s) ≡ length s + length (added gs s))
    → length (pass gs (cond b (g.lhs / 2 ∷ set) set))
    ≡ length set + length (cond b (g ∷ added gs (g.lhs / 2 ∷ set)) (added gs set))
count_by false g gs set f = f set
count_by true g gs set f = omega (arith, f (g.lhs / 2 ∷ set))

pub added_count : (gs : List Gate) (set : List ℕ)
    → length (pass gs set) ≡ length set + length (added gs set)
added_count [] set = omega arith
added_count (g ∷ gs) set = count_by (is_added set g) g gs set (added_count gs)

-- the first n passes each add a gate
abbrev pub AllAdd : Circuit → ℕ → Type 0
AllAdd c n = (j : ℕ) → j < n → 0 < length (added (upwards c.gates) (passed c j))

-- Passes that each add a gate, up to one that adds nothing, are as many as the circuit has.
pub passes_by : (c : Circuit) (n : ℕ) → passed c (suc n) ≡ passed c n → AllAdd c n
    → n ≡ passes_of c
passes_by c n still add = passes_one c n (passes_of c) (record {
  still = still;
  least = λ j low same.
      let some = add j low in
      let count = added_count (upwards c.gates) (passed c j) in
      absurd (omega (arith, some, count, ap length same));
}) (passes_is c)

-- They are no more than it has,
pub passes_fewer : (c : Circuit) (n : ℕ) → AllAdd c n → n ≤ passes_of c
passes_fewer c n add = elim (cases_lt (passes_of c) n) [
  | inl less ↦
      let some = add (passes_of c) less in
      let count = added_count (upwards c.gates) (passed c (passes_of c)) in
      absurd (omega (arith, some, count, ap length (passes_is c).still))
  | inr most ↦ most
]
