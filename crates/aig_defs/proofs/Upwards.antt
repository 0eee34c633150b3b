-- Gates by their variables, if no two have the same: as records, as edges, and by their places.
use Rattle.std.proofs.Common.{inl, inr, ◌≡◌, ◌≢◌, ◌+◌, ◌<◌, ◌≤◌, ◌/◌, true, cond, eqb, ltb, List, [], ◌∷◌, ◌++◌, ℕ, sym, ap, ◌∙◌, refl, subst, arith, length, map, flat_map, filter}
use Rattle.std.proofs.lemmas.Bool.{eqb-true, eqb-false, cases_Bool, ltb-true, ltb-false, lt-ltb, false_from_ne_true}
use Rattle.em_record.specs.declared.record.Record.{Record}
use Rattle.em_record.specs.Order.{with_record, in_order}
use Rattle.em_record.proofs.Commutes.{order_cons, with_commutes}
use Rattle.aig_defs.specs.declared.circuit.Gate.{Gate}
use Rattle.aig_defs.specs.Chains.{numbered, gate_record}
use Rattle.aig_defs.specs.Circuit.{Circuit, variables, left_sides}
use Rattle.aig_defs.specs.Faults.{IsTwice, Nowhere}
use Rattle.aig_defs.specs.Founded.{has, gate_variables, with_gate, upwards}
use Rattle.aig_defs.specs.Graph.{graph_edge, operand_edges, graph_gates}
use Rattle.aig_defs.specs.Ranks.{index}
use Rattle.aig_defs.proofs.Founding.{from_upwards, to_upwards}
use Rattle.aig_defs.proofs.Graphs.{lesser_below, greater_not_below}
use Rattle.aig_defs.proofs.Members.{has_cases, has_first, has_rest, gate_with}
use Rattle.aig_defs.proofs.Single.{few_definitions, has_variable}
use Rattle.aig_defs.proofs.Unlike.{Unlike, few_unlike}

-- The gates of a circuit have unlike variables if nothing is defined twice.
pub gates_unlike : (c : Circuit) → Nowhere (IsTwice c) → Unlike (gate_variables c)
gates_unlike c n = few_unlike (gate_variables c) (λ v. omega (arith, few_definitions c v n))

-- each gate has a greater variable
abbrev pub AllOver : ℕ → List Gate → Type 0
AllOver v [] = Unit {0}
AllOver v (g ∷ gs) = (v < g.lhs / 2) × AllOver v gs

-- each gate has a greater variable than those before it
abbrev pub Mount : List Gate → Type 0
Mount [] = Unit {0}
Mount (g ∷ gs) = AllOver (g.lhs / 2) gs × Mount gs

over_lower : (v w : ℕ) (gs : List Gate) → v ≤ w → AllOver w gs → AllOver v gs
over_lower v w [] l h = tt
over_lower v w (g ∷ gs) l h =
    let low = h.0 in (omega (arith, low, l), over_lower v w gs l h.1)

over_with : (v : ℕ) (g : Gate) (gs : List Gate) → v < g.lhs / 2 → AllOver v gs
    → AllOver v (with_gate g gs)
over_with v g [] l h = (l, tt)
over_with v g (k ∷ gs) l h = elim (cases_Bool (ltb (k.lhs / 2) (g.lhs / 2))) [
  | inl t ↦ subst (λ b. AllOver v (cond b (k ∷ with_gate g gs) (g ∷ k ∷ gs))) (sym t)
      (h.0, over_with v g gs l h.1)
  | inr f ↦ subst (λ b. AllOver v (cond b (k ∷ with_gate g gs) (g ∷ k ∷ gs))) (sym f) (l, h)
]

mount_with : (g : Gate) (gs : List Gate) → (has (variables (left_sides gs)) (g.lhs / 2) ≡ true → ⊥)
    → Mount gs → Mount (with_gate g gs)
mount_with g [] f h = (tt, tt)
mount_with g (k ∷ gs) f h = elim (cases_Bool (ltb (k.lhs / 2) (g.lhs / 2))) [
  | inl t ↦
      let less = λ (there : has (variables (left_sides gs)) (g.lhs / 2) ≡ true).
      f (has_rest (k.lhs / 2) (g.lhs / 2) (variables (left_sides gs)) there) in
      subst (λ b. Mount (cond b (k ∷ with_gate g gs) (g ∷ k ∷ gs))) (sym t)
      (over_with (k.lhs / 2) g gs (ltb-true _ _ t) h.0, mount_with g gs less h.1)
  | inr n ↦
      let most = ltb-false _ _ n in
      let other : k.lhs / 2 ≢ g.lhs / 2 = λ e.
      f (has_first (k.lhs / 2) (g.lhs / 2) (variables (left_sides gs)) e) in
      let low : g.lhs / 2 < k.lhs / 2 = omega (arith, most, other) in
      subst (λ b. Mount (cond b (k ∷ with_gate g gs) (g ∷ k ∷ gs))) (sym n)
      ((low, over_lower (g.lhs / 2) (k.lhs / 2) gs (omega (arith, low)) h.0), h)
]

-- the variable of a gate upwards is that of a gate
pub from_upward : (gs : List Gate) (v : ℕ) → has (variables (left_sides (upwards gs))) v ≡ true
    → has (variables (left_sides gs)) v ≡ true
from_upward gs v h =
    let own = gate_with (upwards gs) v h in
    ap (has (variables (left_sides gs))) (sym own.variable)
    ∙ has_variable gs own.gate (from_upwards own.gate gs own.is)

-- a gate's variable is that of a gate upwards
pub gate_upwards : (c : Circuit) (u : ℕ) → has (gate_variables c) u ≡ true
    → has (variables (left_sides (upwards c.gates))) u ≡ true
gate_upwards c u h =
    let own = gate_with c.gates u h in
    ap (has (variables (left_sides (upwards c.gates)))) (sym own.variable)
    ∙ has_variable (upwards c.gates) own.gate (to_upwards own.gate c.gates own.is)

-- Gates with unlike variables mount if they are upwards.
pub upwards_mount : (gs : List Gate) → Unlike (variables (left_sides gs)) → Mount (upwards gs)
upwards_mount [] u = tt
upwards_mount (g ∷ gs) u = mount_with g (upwards gs)
    (λ there. u.0 (from_upward gs (g.lhs / 2) there)) (upwards_mount gs u.1)

-- their records in order
record_with_gate : (g : Gate) (gs : List Gate)
    → (has (variables (left_sides gs)) (g.lhs / 2) ≡ true → ⊥)
    → with_record (gate_record 0 g) (map (gate_record 0) gs)
    ≡ map (gate_record 0) (with_gate g gs)
record_with_gate g [] f = refl
record_with_gate g (k ∷ gs) f =
    let own = gate_record 0 in
    let later = with_record (own g) (map own gs) in
    let first = own g ∷ own k ∷ map own gs in
    elim (cases_Bool (ltb (k.lhs / 2) (g.lhs / 2))) [
      | inl t ↦
          let below = lesser_below (own k) (own g) (ltb-true _ _ t) in
          let less = λ (there : has (variables (left_sides gs)) (g.lhs / 2) ≡ true).
          f (has_rest (k.lhs / 2) (g.lhs / 2) (variables (left_sides gs)) there) in
          ap (λ b. cond b (own k ∷ later) first) below
          ∙ ap (λ rs. own k ∷ rs) (record_with_gate g gs less)
          ∙ ap (λ b. map own (cond b (k ∷ with_gate g gs) (g ∷ k ∷ gs))) (sym t)
      | inr n ↦
          let most = ltb-false _ _ n in
          let other : k.lhs / 2 ≢ g.lhs / 2 = λ e.
          f (has_first (k.lhs / 2) (g.lhs / 2) (variables (left_sides gs)) e) in
          let past = greater_not_below (own k) (own g) (omega (arith, most, other)) in
          ap (λ b. cond b (own k ∷ later) first) past
          ∙ ap (λ b. map own (cond b (k ∷ with_gate g gs) (g ∷ k ∷ gs))) (sym n)
    ]

records_order : (j : ℕ) (gs : List Gate) → Unlike (variables (left_sides gs))
    → in_order (numbered gate_record j gs) ≡ map (gate_record 0) (upwards gs)
records_order j [] u = refl
records_order j (g ∷ gs) u =
    order_cons (gate_record j g) (numbered gate_record (j + 1) gs)
    ∙ ap (with_record (gate_record 0 g)) (records_order (j + 1) gs u.1)
    ∙ record_with_gate g (upwards gs) (λ there. u.0 (from_upward gs (g.lhs / 2) there))

-- The gates of a graph are those of the circuit upwards.
pub graph_upwards : (c : Circuit) → Nowhere (IsTwice c)
    → graph_gates c ≡ map (gate_record 0) (upwards c.gates)
graph_upwards c n = records_order 0 c.gates (gates_unlike c n)

-- Records of the edges of some gates, and others after them, in order: gates in another order give the
-- same.
module _ (f : Record → Record) (zs : List Record) where
  abbrev first_of : Gate → Record
  first_of g = f (graph_edge g.rhs0 (g.lhs / 2) 0)

  abbrev second_of : Gate → Record
  second_of g = f (graph_edge g.rhs1 (g.lhs / 2) 1)

  abbrev edges_then : List Gate → List Record
  edges_then gs = map f (flat_map operand_edges gs) ++ zs

  -- ordered records with those of a gate
  abbrev with_edges : Gate → List Record → List Record
  with_edges g rs = with_record (first_of g) (with_record (second_of g) rs)

  order_gate : (g : Gate) (gs : List Gate)
      → in_order (edges_then (g ∷ gs)) ≡ with_edges g (in_order (edges_then gs))
  order_gate g gs =
      order_cons (first_of g) (second_of g ∷ edges_then gs)
      ∙ ap (with_record (first_of g)) (order_cons (second_of g) (edges_then gs))

  with_past : (x : Record) (g : Gate) (rs : List Record)
      → with_record x (with_edges g rs) ≡ with_edges g (with_record x rs)
  with_past x g rs =
      with_commutes x (first_of g) (with_record (second_of g) rs)
      ∙ ap (with_record (first_of g)) (with_commutes x (second_of g) rs)

  with_swap : (g k : Gate) (rs : List Record)
      → with_edges g (with_edges k rs) ≡ with_edges k (with_edges g rs)
  with_swap g k rs =
      ap (with_record (first_of g)) (with_past (second_of g) k rs)
      ∙ with_past (first_of g) k (with_record (second_of g) rs)

  order_with : (g : Gate) (gs : List Gate)
      → in_order (edges_then (with_gate g gs)) ≡ with_edges g (in_order (edges_then gs))
  order_with g [] = order_gate g []
  order_with g (k ∷ gs) = elim (cases_Bool (ltb (k.lhs / 2) (g.lhs / 2))) [
    | inl t ↦
        ap (λ b. in_order (edges_then (cond b (k ∷ with_gate g gs) (g ∷ k ∷ gs)))) t
        ∙ order_gate k (with_gate g gs)
        ∙ ap (with_edges k) (order_with g gs)
        ∙ with_swap k g (in_order (edges_then gs))
        ∙ ap (with_edges g) (sym (order_gate k gs))
    | inr n ↦
        ap (λ b. in_order (edges_then (cond b (k ∷ with_gate g gs) (g ∷ k ∷ gs)))) n
        ∙ order_gate g (k ∷ gs)
  ]

  pub order_upwards : (gs : List Gate)
      → in_order (map f (flat_map operand_edges (upwards gs)) ++ zs)
      ≡ in_order (map f (flat_map operand_edges gs) ++ zs)
  order_upwards [] = refl
  order_upwards (g ∷ gs) =
      order_with g (upwards gs)
      ∙ ap (with_edges g) (order_upwards gs)
      ∙ sym (order_gate g gs)

-- the place of a variable after literals of others, and among literals that have it
pub index_after : (v : ℕ) (ls more : List ℕ) → (has (variables ls) v ≡ true → ⊥)
    → index v (ls ++ more) ≡ length ls + index v more
index_after v [] more f = omega arith
index_after v (l ∷ ls) more f =
    let other = false_from_ne_true (eqb (l / 2) v)
    (λ e. f (has_first (l / 2) v (variables ls) (eqb-true _ _ e))) in
    let rest = index_after v ls more (λ h. f (has_rest (l / 2) v (variables ls) h)) in
    ap (λ b. cond b 0 (index v (ls ++ more) + 1)) other ∙ omega (arith, rest)

pub index_before : (v : ℕ) (ls more : List ℕ) → has (variables ls) v ≡ true
    → index v (ls ++ more) ≡ index v ls
index_before v [] more h = cc
index_before v (l ∷ ls) more h = elim (cases_Bool (eqb (l / 2) v)) [
  | inl same ↦
      ap (λ b. cond b 0 (index v (ls ++ more) + 1)) same
      ∙ sym (ap (λ b. cond b 0 (index v ls + 1)) same)
  | inr other ↦
      let rest : has (variables ls) v ≡ true = elim (has_cases (l / 2) v (variables ls) h) [
        | inl e ↦ absurd (eqb-false (l / 2) v other e)
        | inr there ↦ there
      ] in
      ap (λ b. cond b 0 (index v (ls ++ more) + 1)) other
      ∙ ap (λ n. n + 1) (index_before v ls more rest)
      ∙ sym (ap (λ b. cond b 0 (index v ls + 1)) other)
]

-- of gates that mount as many have lesser variables as stand before
none_less : (v : ℕ) (gs : List Gate) → AllOver v gs
    → length (filter (λ (r : Record). ltb r.a v) (map (gate_record 0) gs)) ≡ 0
none_less v [] h = refl
none_less v (g ∷ gs) h =
    let over = h.0 in
    let past = false_from_ne_true (ltb (g.lhs / 2) v)
    (λ t. let low = ltb-true _ _ t in omega (arith, low, over)) in
    let more = filter (λ (r : Record). ltb r.a v) (map (gate_record 0) gs) in
    ap (λ b. length (cond b (gate_record 0 g ∷ more) more)) past ∙ none_less v gs h.1

pub over_has : (v u : ℕ) (gs : List Gate) → AllOver v gs
    → has (variables (left_sides gs)) u ≡ true → v < u
over_has v u [] h there = cc
over_has v u (g ∷ gs) h there =
    elim (has_cases (g.lhs / 2) u (variables (left_sides gs)) there) [
      | inl same ↦ let over = h.0 in omega (arith, over, same)
      | inr rest ↦ over_has v u gs h.1 rest
    ]

pub lesser_gates : (v : ℕ) (gs : List Gate) → Mount gs
    → has (variables (left_sides gs)) v ≡ true
    → length (filter (λ (r : Record). ltb r.a v) (map (gate_record 0) gs))
    ≡ index v (left_sides gs)
lesser_gates v [] m h = cc
lesser_gates v (g ∷ gs) m h =
    let more = filter (λ (r : Record). ltb r.a v) (map (gate_record 0) gs) in
    elim (cases_Bool (eqb (g.lhs / 2) v)) [
      | inl t ↦
          let same = eqb-true (g.lhs / 2) v t in
          let past = false_from_ne_true (ltb (g.lhs / 2) v)
          (λ l. let low = ltb-true _ _ l in omega (arith, low, same)) in
          ap (λ b. length (cond b (gate_record 0 g ∷ more) more)) past
          ∙ none_less v gs (subst (λ u. AllOver u gs) same m.0)
          ∙ sym (ap (λ b. cond b 0 (index v (left_sides gs) + 1)) t)
      | inr f ↦
          let rest : has (variables (left_sides gs)) v ≡ true =
          elim (has_cases (g.lhs / 2) v (variables (left_sides gs)) h) [
            | inl e ↦ absurd (eqb-false (g.lhs / 2) v f e)
            | inr there ↦ there
          ] in
          let less = lt-ltb (g.lhs / 2) v (over_has (g.lhs / 2) v gs m.0 rest) in
          let count = lesser_gates v gs m.1 rest in
          ap (λ b. length (cond b (gate_record 0 g ∷ more) more)) less
          ∙ omega (arith, count)
          ∙ sym (ap (λ b. cond b 0 (index v (left_sides gs) + 1)) f)
    ]
