-- The gates that passes find: their operands come before them, and each stands once.
use Rattle.std.proofs.Common.{inl, inr, ◌≡◌, ◌/◌, Bool, true, false, cond, List, [], ◌∷◌, ◌++◌, ℕ, zero, suc, sym, ap, ◌∙◌, refl, subst, Contains, append_assoc}
use Rattle.std.proofs.lemmas.Bool.{not-true, false_from_ne_true}
use Rattle.std.proofs.lemmas.List.{append-nil, map-append}
use Rattle.aig_defs.specs.declared.circuit.Gate.{Gate}
use Rattle.aig_defs.specs.Circuit.{Circuit, variables, left_sides, IsCircuit}
use Rattle.aig_defs.specs.Faults.{IsTwice, Nowhere}
use Rattle.aig_defs.specs.Founded.{has, first_set, upwards, is_added, pass, passed}
use Rattle.aig_defs.specs.Ranks.{given_literals, ranked, AllFollow}
use Rattle.aig_defs.proofs.Founding.{added_parts, from_upwards, passed_more}
use Rattle.aig_defs.proofs.Members.{has_cases, has_first, has_rest, has_left, has_right, has_either, contains_first, contains_rest, contains_cases, contains_none, contains_either, gate_with}
use Rattle.aig_defs.proofs.VariableRanks.{given_has, gate_not_given, given_is}
use Rattle.aig_defs.proofs.Single.{has_variable}
use Rattle.aig_defs.proofs.Unlike.{Unlike}
use Rattle.aig_defs.proofs.Upwards.{gates_unlike}
use Rattle.aig_order.specs.ByPass.{added, found}

-- these literals have all variables of a set
abbrev pub Covers : List ℕ → List ℕ → Type 0
Covers set from = (u : ℕ) → has set u ≡ true → has (variables from) u ≡ true

covers_more : (set from : List ℕ) (l : ℕ) → Covers set from → Covers (l / 2 ∷ set) (from ++ l ∷ [])
covers_more set from l k u h =
    let parts = map-append (λ (l : ℕ). l / 2) from (l ∷ []) in
    ap (λ z. has z u) parts ∙ elim (has_cases (l / 2) u set h) [
      | inl same ↦ has_right (variables from) (l / 2 ∷ []) u (has_first (l / 2) u [] same)
      | inr old ↦ has_left (variables from) (l / 2 ∷ []) u (k u old)
    ]

-- the gates that a pass adds come after their operands,
follow_by : (b : Bool) (g : Gate) (gs : List Gate) (set from : List ℕ) → is_added set g ≡ b
    → Covers set from
    → ((s f : List ℕ) → Covers s f → AllFollow f (added gs s))
    → AllFollow from (cond b (g ∷ added gs (g.lhs / 2 ∷ set)) (added gs set))
follow_by false g gs set from e k f = f set from k
follow_by true g gs set from e k f =
    let parts = added_parts set g e in (
      (k (g.rhs0 / 2) parts.first, k (g.rhs1 / 2) parts.second),
      f (g.lhs / 2 ∷ set) (from ++ g.lhs ∷ []) (covers_more set from g.lhs k),
    )

follow_added : (gs : List Gate) (set from : List ℕ) → Covers set from → AllFollow from (added gs set)
follow_added [] set from k = tt
follow_added (g ∷ gs) set from k =
    follow_by (is_added set g) g gs set from refl k (follow_added gs)

-- and with them all of its set has a rank
covers_by : (b : Bool) (g : Gate) (gs : List Gate) (set from : List ℕ) → Covers set from
    → ((s f : List ℕ) → Covers s f → Covers (pass gs s) (f ++ left_sides (added gs s)))
    → Covers (pass gs (cond b (g.lhs / 2 ∷ set) set))
    (from ++ left_sides (cond b (g ∷ added gs (g.lhs / 2 ∷ set)) (added gs set)))
covers_by false g gs set from k f = f set from k
covers_by true g gs set from k f =
    subst (Covers (pass gs (g.lhs / 2 ∷ set)))
    (append_assoc from (g.lhs ∷ []) (left_sides (added gs (g.lhs / 2 ∷ set))))
    (f (g.lhs / 2 ∷ set) (from ++ g.lhs ∷ []) (covers_more set from g.lhs k))

covers_added : (gs : List Gate) (set from : List ℕ) → Covers set from
    → Covers (pass gs set) (from ++ left_sides (added gs set))
covers_added [] set from k = subst (Covers set) (sym (append-nil from)) k
covers_added (g ∷ gs) set from k = covers_by (is_added set g) g gs set from k (covers_added gs)

left_append : (gs hs : List Gate) → left_sides (gs ++ hs) ≡ left_sides gs ++ left_sides hs
left_append gs hs = map-append (λ (g : Gate). g.lhs) gs hs

-- What n passes find has a rank if the gates are in this order.
pub found_covers : (c : Circuit) (n : ℕ) → Covers (passed c n) (ranked c (found c n))
found_covers c zero =
    subst (Covers (first_set c)) (sym (append-nil (given_literals c))) (given_has c)
found_covers c (suc n) =
    let new = added (upwards c.gates) (passed c n) in
    subst (Covers (passed c (suc n)))
    (append_assoc (given_literals c) (left_sides (found c n)) (left_sides new)
    ∙ ap (λ z. given_literals c ++ z) (sym (left_append (found c n) new)))
    (covers_added (upwards c.gates) (passed c n) (ranked c (found c n)) (found_covers c n))

follow_append : (from : List ℕ) (gs hs : List Gate) → AllFollow from gs
    → AllFollow (from ++ left_sides gs) hs → AllFollow from (gs ++ hs)
follow_append from [] hs a b = subst (λ z. AllFollow z hs) (append-nil from) b
follow_append from (g ∷ gs) hs a b = (
  a.0,
  follow_append (from ++ g.lhs ∷ []) gs hs a.1
      (subst (λ z. AllFollow z hs) (sym (append_assoc from (g.lhs ∷ []) (left_sides gs))) b),
)

-- Gates come after their operands.
pub found_follow : (c : Circuit) (n : ℕ) → AllFollow (given_literals c) (found c n)
found_follow c zero = tt
found_follow c (suc n) =
    follow_append (given_literals c) (found c n) (added (upwards c.gates) (passed c n))
    (found_follow c n) (follow_added (upwards c.gates) (passed c n) (ranked c (found c n))
    (found_covers c n))

-- a gate that a pass adds is one of its gates, wasn't in the set, and is in it after the pass
pub record IsNew (gs : List Gate) (set : List ℕ) (g : Gate) : Type 0 where
  pub is : Contains gs g
  pub new : has set (g.lhs / 2) ≡ false
  pub now : has (pass gs set) (g.lhs / 2) ≡ true

new_by : (b : Bool) (h g : Gate) (gs : List Gate) (set : List ℕ) → is_added set h ≡ b
    → ((s : List ℕ) → Contains (added gs s) g → IsNew gs s g)
    → Contains (cond b (h ∷ added gs (h.lhs / 2 ∷ set)) (added gs set)) g → IsNew (h ∷ gs) set g
new_by false h g gs set e f i =
    let n = f set i in record {
      is = contains_rest h g gs n.is;
      new = n.new;
      now = ap (λ b. has (pass gs (cond b (h.lhs / 2 ∷ set) set)) (g.lhs / 2)) e ∙ n.now;
    }
new_by true h g gs set e f i = elim (contains_cases h g (added gs (h.lhs / 2 ∷ set)) i) [
  | inl same ↦ record {
    is = contains_first h g gs same;
    new = ap (λ (z : Gate). has set (z.lhs / 2)) (sym same) ∙ not-true _ (added_parts set h e).new;
    now = ap (λ b. has (pass gs (cond b (h.lhs / 2 ∷ set) set)) (g.lhs / 2)) e
        ∙ passed_more gs (h.lhs / 2 ∷ set) (g.lhs / 2) (has_first (h.lhs / 2) (g.lhs / 2) set
        (ap (λ (z : Gate). z.lhs / 2) same));
  }
  | inr j ↦
      let n = f (h.lhs / 2 ∷ set) j in record {
        is = contains_rest h g gs n.is;
        new = false_from_ne_true _ (λ t. let r = has_rest (h.lhs / 2) (g.lhs / 2) set t in
            let m = n.new in cc);
        now = ap (λ b. has (pass gs (cond b (h.lhs / 2 ∷ set) set)) (g.lhs / 2)) e ∙ n.now;
      }
]

pub new_in : (gs : List Gate) (set : List ℕ) (g : Gate) → Contains (added gs set) g → IsNew gs set g
new_in [] set g i = absurd (contains_none g i)
new_in (h ∷ gs) set g i = new_by (is_added set h) h g gs set refl (λ s. new_in gs s g) i

-- a gate that passes find is one of the circuit's, and they find its variable
pub record IsFoundGate (c : Circuit) (n : ℕ) (g : Gate) : Type 0 where
  pub is : Contains c.gates g
  pub now : has (passed c n) (g.lhs / 2) ≡ true

pub found_in : (c : Circuit) (n : ℕ) (g : Gate) → Contains (found c n) g → IsFoundGate c n g
found_in c zero g i = absurd (contains_none g i)
found_in c (suc n) g i =
    let all = upwards c.gates in
    elim (contains_either (found c n) (added all (passed c n)) g i) [
      | inl old ↦
          let f = found_in c n g old in
          record { is = f.is; now = passed_more all (passed c n) (g.lhs / 2) f.now }
      | inr new ↦
          let f = new_in all (passed c n) g new in
          record { is = from_upwards g c.gates f.is; now = f.now }
    ]

-- a variable of the gates that passes find is one that they find
pub found_has : (c : Circuit) (n v : ℕ) → has (variables (left_sides (found c n))) v ≡ true
    → has (passed c n) v ≡ true
found_has c n v h =
    let g = gate_with (found c n) v h in
    ap (has (passed c n)) (sym g.variable) ∙ (found_in c n g.gate g.is).now

unlike_by : (b : Bool) (g : Gate) (gs : List Gate) (set : List ℕ)
    → ((s : List ℕ) → Unlike (variables (left_sides (added gs s))))
    → Unlike (variables (left_sides (cond b (g ∷ added gs (g.lhs / 2 ∷ set)) (added gs set))))
unlike_by false g gs set f = f set
unlike_by true g gs set f = (
  λ there.
      let h = gate_with (added gs (g.lhs / 2 ∷ set)) (g.lhs / 2) there in
      let new = (new_in gs (g.lhs / 2 ∷ set) h.gate h.is).new in
      let own = has_first (g.lhs / 2) (h.gate.lhs / 2) set (sym h.variable) in
      cc,
  f (g.lhs / 2 ∷ set),
)

added_unlike : (gs : List Gate) (set : List ℕ) → Unlike (variables (left_sides (added gs set)))
added_unlike [] set = tt
added_unlike (g ∷ gs) set = unlike_by (is_added set g) g gs set (added_unlike gs)

unlike_append : (xs ys : List ℕ) → Unlike xs → Unlike ys
    → ((v : ℕ) → has xs v ≡ true → has ys v ≡ true → ⊥) → Unlike (xs ++ ys)
unlike_append [] ys a b f = b
unlike_append (x ∷ xs) ys a b f = (
  λ there. elim (has_either xs ys x there) [
    | inl first ↦ a.0 first
    | inr second ↦ f x (has_first x x xs refl) second
  ],
  unlike_append xs ys a.1 b (λ v p q. f v (has_rest x v xs p) q),
)

-- No two of the gates that passes find have the same variable.
pub found_unlike : (c : Circuit) (n : ℕ) → Unlike (variables (left_sides (found c n)))
found_unlike c zero = tt
found_unlike c (suc n) =
    let old = found c n in
    let new = added (upwards c.gates) (passed c n) in
    subst (λ ls. Unlike (variables ls)) (sym (left_append old new))
    (subst Unlike (sym (map-append (λ (l : ℕ). l / 2) (left_sides old) (left_sides new)))
    (unlike_append (variables (left_sides old)) (variables (left_sides new)) (found_unlike c n)
    (added_unlike (upwards c.gates) (passed c n)) (λ v p q.
    let g = gate_with new v q in
    let n0 = (new_in (upwards c.gates) (passed c n) g.gate g.is).new in
    let there = ap (has (passed c n)) g.variable ∙ found_has c n v p in
    cc)))

-- of gates with unlike variables one has each variable
pub one_gate : (gs : List Gate) → Unlike (variables (left_sides gs)) → (g h : Gate) → Contains gs g
    → Contains gs h → g.lhs / 2 ≡ h.lhs / 2 → g ≡ h
one_gate [] u g h i j e = absurd (contains_none g i)
one_gate (x ∷ gs) u g h i j e = elim (contains_cases x g gs i) [
  | inl first ↦ elim (contains_cases x h gs j) [
    | inl second ↦ sym first ∙ second
    | inr rest ↦
        let same = ap (λ (z : Gate). z.lhs / 2) first ∙ e in
        absurd (u.0 (ap (has (variables (left_sides gs))) same ∙ has_variable gs h rest))
  ]
  | inr rest ↦ elim (contains_cases x h gs j) [
    | inl second ↦
        let same = ap (λ (z : Gate). z.lhs / 2) second ∙ sym e in
        absurd (u.0 (ap (has (variables (left_sides gs))) same ∙ has_variable gs g rest))
    | inr other ↦ one_gate gs u.1 g h rest other e
  ]
]

-- A gate whose variable passes find is one of the gates that they find.
pub found_gate : (c : Circuit) (n : ℕ) → IsCircuit c → Nowhere (IsTwice c) → (g : Gate)
    → Contains c.gates g → has (passed c n) (g.lhs / 2) ≡ true → Contains (found c n) g
found_gate c n is w g i h =
    let own = left_sides (found c n) in
    let v = g.lhs / 2 in
    let parts = map-append (λ (l : ℕ). l / 2) (given_literals c) own in
    let there = ap (λ z. has z v) (sym parts) ∙ found_covers c n v h in
    elim (has_either (variables (given_literals c)) (variables own) v there) [
      | inl given ↦
          absurd (gate_not_given c is w v (has_variable c.gates g i)
          (ap (λ z. has z v) (sym (given_is c)) ∙ given))
      | inr later ↦
          let k = gate_with (found c n) v later in
          let same = one_gate c.gates (gates_unlike c w) k.gate g (found_in c n k.gate k.is).is i
          k.variable in
          subst (Contains (found c n)) same k.is
    ]
