-- What a pass finds: a gate is found after it exactly if both operands were found by then, those of
-- lesser variables in this pass and the others in the last one.
use Rattle.std.proofs.Common.{inl, inr, ◌≡◌, ◌≢◌, ◌<◌, ◌≤◌, ◌/◌, Bool, true, false, cond, eqb, ltb, nat_lt, ◌&&◌, ◌||◌, not, if◌then◌else◌, List, [], ◌∷◌, ℕ, zero, suc, sym, ap, ◌∙◌, refl, subst, arith, Contains}
use Rattle.std.proofs.lemmas.Bool.{ltb-true, ltb-false, ne_eqb, eq-eqb}
use Rattle.aig_defs.specs.declared.circuit.Gate.{Gate}
use Rattle.aig_defs.specs.Circuit.{Circuit, variables, left_sides, IsCircuit}
use Rattle.aig_defs.specs.Faults.{IsTwice, Nowhere}
use Rattle.aig_defs.specs.Founded.{has, upwards, is_added, after_gate, pass, passed}
use Rattle.aig_defs.proofs.Founding.{added_parts, from_upwards, to_upwards, passed_more}
use Rattle.aig_defs.proofs.Members.{has_cases, has_rest, contains_first, contains_rest, contains_cases, contains_none}
use Rattle.aig_defs.proofs.VariableRanks.{gate_not_given}
use Rattle.aig_defs.proofs.Single.{has_variable}
use Rattle.aig_defs.proofs.Unlike.{Unlike}
use Rattle.aig_defs.proofs.Upwards.{AllOver, Mount, gates_unlike, upwards_mount}
use Rattle.aig_order.proofs.ByPass.{one_gate}

-- what a gate hears of a variable: this pass if it's less, and else the last one
abbrev pub heard_of : List ℕ → List ℕ → ℕ → ℕ → Bool
heard_of before now v u = if nat_lt u v then has now u else has before u

other_by : (b : Bool) (set : List ℕ) (v u : ℕ) → v ≢ u → has (cond b (v ∷ set) set) u ≡ has set u
other_by true set v u d = ap (λ b. b || has set u) (ne_eqb v u d)
other_by false set v u d = refl

pub after_other : (set : List ℕ) (g : Gate) (u : ℕ) → g.lhs / 2 ≢ u
    → has (after_gate set g) u ≡ has set u
after_other set g u d = other_by (is_added set g) set (g.lhs / 2) u d

own_by : (a b c s : Bool) → s ≡ true → cond (not a && (b && c)) s a ≡ (a || (b && c))
own_by true b c s e = refl
own_by false true true s e = e
own_by false true false s e = refl
own_by false false c s e = refl

pull_by : (b : Bool) (v : ℕ) (set : List ℕ)
    → has (cond b (v ∷ set) set) v ≡ cond b (eqb v v || has set v) (has set v)
pull_by true v set = refl
pull_by false v set = refl

after_own : (set : List ℕ) (g : Gate)
    → has (after_gate set g) (g.lhs / 2)
    ≡ (has set (g.lhs / 2) || (has set (g.rhs0 / 2) && has set (g.rhs1 / 2)))
after_own set g =
    let v = g.lhs / 2 in
    pull_by (is_added set g) v set
    ∙ own_by (has set v) (has set (g.rhs0 / 2)) (has set (g.rhs1 / 2)) (eqb v v || has set v)
    (ap (λ b. b || has set v) (eq-eqb v v refl))

-- variables up to those of all gates stay as they were
pub low_kept : (gs : List Gate) (set : List ℕ) (u v : ℕ) → u ≤ v → AllOver v gs
    → has (pass gs set) u ≡ has set u
low_kept [] set u v l a = refl
low_kept (g ∷ gs) set u v l a =
    let over = a.0 in
    low_kept gs (after_gate set g) u v l a.1 ∙ after_other set g u (omega (arith, over, l))

heard_by : (b : Bool) (x y z : Bool) → (b ≡ true → x ≡ z) → (b ≡ false → y ≡ z)
    → cond b x y ≡ z
heard_by true x y z f g = f refl
heard_by false x y z f g = g refl

-- the first gate hears what was in the set,
heard_first : (h : Gate) (gs : List Gate) (set : List ℕ) (u : ℕ) → AllOver (h.lhs / 2) gs
    → heard_of set (pass (h ∷ gs) set) (h.lhs / 2) u ≡ has set u
heard_first h gs set u a =
    heard_by (ltb u (h.lhs / 2)) (has (pass (h ∷ gs) set) u) (has set u) (has set u)
    (λ e.
    let low = ltb-true u (h.lhs / 2) e in
    low_kept gs (after_gate set h) u (h.lhs / 2) (omega (arith, low)) a
    ∙ after_other set h u (omega (arith, low)))
    (λ e. refl)

-- and a lesser gate changes nothing for later ones
heard_later : (h : Gate) (now set : List ℕ) (v u : ℕ) → h.lhs / 2 < v
    → heard_of (after_gate set h) now v u ≡ heard_of set now v u
heard_later h now set v u low =
    heard_by (ltb u v) (has now u) (has (after_gate set h) u) (heard_of set now v u)
    (λ e. sym (ap (λ b. cond b (has now u) (has set u)) e))
    (λ e.
    let most = ltb-false u v e in
    after_other set h u (omega (arith, most, low))
    ∙ sym (ap (λ b. cond b (has now u) (has set u)) e))

pub over_in : (v : ℕ) (gs : List Gate) (g : Gate) → AllOver v gs → Contains gs g → v < g.lhs / 2
over_in v [] g a i = absurd (contains_none g i)
over_in v (h ∷ gs) g a i = elim (contains_cases h g gs i) [
  | inl same ↦
      (let over = a.0 in let at = ap (λ (z : Gate). z.lhs / 2) same in omega (arith, over, at))
  | inr j ↦ over_in v gs g a.1 j
]

abbrev Hears : List ℕ → List ℕ → Gate → Type 0
Hears set now g = has now (g.lhs / 2)
    ≡ (has set (g.lhs / 2)
    || (heard_of set now (g.lhs / 2) (g.rhs0 / 2) && heard_of set now (g.lhs / 2) (g.rhs1 / 2)))

pass_hears : (gs : List Gate) (set : List ℕ) → Mount gs → (g : Gate) → Contains gs g
    → Hears set (pass gs set) g
pass_hears [] set m g i = absurd (contains_none g i)
pass_hears (h ∷ gs) set m g i = elim (contains_cases h g gs i) [
  | inl same ↦
      let v = h.lhs / 2 in
      let here : Hears set (pass (h ∷ gs) set) h =
      low_kept gs (after_gate set h) v v (omega arith) m.0 ∙ after_own set h
      ∙ ap (λ b. has set v || (b && has set (h.rhs1 / 2)))
      (sym (heard_first h gs set (h.rhs0 / 2) m.0))
      ∙ ap (λ b. has set v || (heard_of set (pass (h ∷ gs) set) v (h.rhs0 / 2) && b))
      (sym (heard_first h gs set (h.rhs1 / 2) m.0)) in
      subst (Hears set (pass (h ∷ gs) set)) same here
  | inr j ↦
      let now = pass (h ∷ gs) set in
      let v = g.lhs / 2 in
      let low = over_in (h.lhs / 2) gs g m.0 j in
      let later = heard_of (after_gate set h) now v (g.rhs1 / 2) in
      pass_hears gs (after_gate set h) m.1 g j
      ∙ ap (λ b. b || (heard_of (after_gate set h) now v (g.rhs0 / 2) && later))
      (after_other set h v (omega (arith, low)))
      ∙ ap (λ b. has set v || (b && later)) (heard_later h now set v (g.rhs0 / 2) low)
      ∙ ap (λ b. has set v || (heard_of set now v (g.rhs0 / 2) && b))
      (heard_later h now set v (g.rhs1 / 2) low)
]

-- a set with the operands of each of its gates
abbrev IsClosed : Circuit → List ℕ → Type 0
IsClosed c set = (g : Gate) → Contains c.gates g → has set (g.lhs / 2) ≡ true
    → (has set (g.rhs0 / 2) ≡ true) × (has set (g.rhs1 / 2) ≡ true)

closed_by : (c : Circuit) (set : List ℕ) (h : Gate) (b : Bool)
    → Unlike (variables (left_sides c.gates)) → Contains c.gates h → is_added set h ≡ b
    → IsClosed c set → IsClosed c (cond b (h.lhs / 2 ∷ set) set)
closed_by c set h false u j e k = k
closed_by c set h true u j e k = λ g i t. elim (has_cases (h.lhs / 2) (g.lhs / 2) set t) [
  | inl same ↦
      let one = one_gate c.gates u h g j i same in
      let parts = added_parts set h e in (
        has_rest (h.lhs / 2) (g.rhs0 / 2) set
            (ap (λ (z : Gate). has set (z.rhs0 / 2)) (sym one) ∙ parts.first),
        has_rest (h.lhs / 2) (g.rhs1 / 2) set
            (ap (λ (z : Gate). has set (z.rhs1 / 2)) (sym one) ∙ parts.second),
      )
  | inr old ↦
      let both = k g i old in (
        has_rest (h.lhs / 2) (g.rhs0 / 2) set both.0,
        has_rest (h.lhs / 2) (g.rhs1 / 2) set both.1,
      )
]

closed_pass : (c : Circuit) (gs : List Gate) (set : List ℕ)
    → Unlike (variables (left_sides c.gates)) → ((g : Gate) → Contains gs g → Contains c.gates g)
    → IsClosed c set → IsClosed c (pass gs set)
closed_pass c [] set u sub k = k
closed_pass c (h ∷ gs) set u sub k =
    closed_pass c gs (after_gate set h) u (λ g i. sub g (contains_rest h g gs i))
    (closed_by c set h (is_added set h) u (sub h (contains_first h h gs refl)) refl k)

closed_passed : (c : Circuit) (n : ℕ) → IsCircuit c → Nowhere (IsTwice c) → IsClosed c (passed c n)
closed_passed c zero is w = λ g i t.
    absurd (gate_not_given c is w (g.lhs / 2) (has_variable c.gates g i) t)
closed_passed c (suc n) is w =
    closed_pass c (upwards c.gates) (passed c n) (gates_unlike c w)
    (λ g i. from_upwards g c.gates i) (closed_passed c n is w)

or_drop : (a b : Bool) → (a ≡ true → b ≡ true) → (a || b) ≡ b
or_drop true b f = sym (f refl)
or_drop false b f = refl

and_true : (a b : Bool) → a ≡ true → b ≡ true → (a && b) ≡ true
and_true true b e f = f
and_true false b e f = cc

-- A gate is found after a pass exactly if it hears that both operands were.
pub pass_heard : (c : Circuit) (n : ℕ) → IsCircuit c → Nowhere (IsTwice c) → (g : Gate)
    → Contains c.gates g
    → has (passed c (suc n)) (g.lhs / 2)
    ≡ (heard_of (passed c n) (passed c (suc n)) (g.lhs / 2) (g.rhs0 / 2)
    && heard_of (passed c n) (passed c (suc n)) (g.lhs / 2) (g.rhs1 / 2))
pass_heard c n is w g i =
    let before = passed c n in
    let now = passed c (suc n) in
    let v = g.lhs / 2 in
    let hears = λ (u : ℕ) (t : has before u ≡ true).
    heard_by (ltb u v) (has now u) (has before u) true
    (λ _. passed_more (upwards c.gates) before u t) (λ _. t) in
    pass_hears (upwards c.gates) before (upwards_mount c.gates (gates_unlike c w)) g
    (to_upwards g c.gates i)
    ∙ or_drop (has before v) _ (λ t.
    let both = closed_passed c n is w g i t in
    and_true _ _ (hears (g.rhs0 / 2) both.0) (hears (g.rhs1 / 2) both.1))
