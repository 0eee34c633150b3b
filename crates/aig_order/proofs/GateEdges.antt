-- The edges of a circuit that lead to one gate: its two operands', if no other gate has its variable.
use Rattle.std.proofs.Common.{◌≡◌, ◌≢◌, ◌+◌, ◌^◌, ◌*◌, ◌<◌, ◌≤◌, ◌/◌, ◌%◌, Bool, true, false, cond, eqb, ltb, ◌&&◌, inl, inr, List, [], ◌∷◌, ◌++◌, ℕ, sym, ap, ap₂, ◌∙◌, refl, subst, arith, flat_map, Contains}
use Rattle.std.proofs.lemmas.Bool.{lt-ltb, false_from_ne_true, ne_eqb, eq-eqb, ltb-true}
use Rattle.em_record.specs.declared.record.Record.{Record}
use Rattle.aig_defs.specs.declared.circuit.Gate.{Gate}
use Rattle.aig_defs.specs.declared.circuit.Latch.{Latch}
use Rattle.aig_defs.specs.Chains.{numbered}
use Rattle.aig_defs.specs.Circuit.{Circuit, variables, left_sides}
use Rattle.aig_defs.specs.Founded.{has}
use Rattle.aig_defs.specs.Graph.{graph_edge, operand_edges, next_edge, output_edge, edges_in_text, graph_edges}
use Rattle.aig_defs.proofs.Members.{has_first, has_rest, contains_cases, contains_none}
use Rattle.aig_defs.proofs.Single.{has_variable}
use Rattle.aig_defs.proofs.Unlike.{Unlike}
use Rattle.aig_order.proofs.Agreeing.{to_gates, agreed_if, places_if, agreed_order, places_order}
use Rattle.aig_order.proofs.Both.{both_three, both_true}

-- what the edges that lead to a gate say together, and how many they are
pub record Agrees (tell : Record → Bool) (v : ℕ) (es : List Record) (all : Bool) (count : ℕ)
    : Type 0 where
  pub all_is : agreed_if to_gates tell v es ≡ all
  pub count_is : places_if to_gates v es ≡ count

module _ (tell : Record → Bool) (v : ℕ) where
  agreed_append : (xs ys : List Record)
      → agreed_if to_gates tell v (xs ++ ys)
      ≡ (agreed_if to_gates tell v xs && agreed_if to_gates tell v ys)
  agreed_append [] ys = refl
  agreed_append (x ∷ xs) ys =
      let own = cond (to_gates x && eqb v (x.b / 4)) (tell x) true in
      ap (λ b. own && b) (agreed_append xs ys)
      ∙ sym (both_three own (agreed_if to_gates tell v xs) (agreed_if to_gates tell v ys))

  places_append : (xs ys : List Record)
      → places_if to_gates v (xs ++ ys) ≡ places_if to_gates v xs + places_if to_gates v ys
  places_append [] ys = omega arith
  places_append (x ∷ xs) ys = omega (arith, places_append xs ys)

  both_agree : {a b : Bool} {m n : ℕ} (xs ys : List Record) → Agrees tell v xs a m
      → Agrees tell v ys b n → Agrees tell v (xs ++ ys) (a && b) (m + n)
  both_agree xs ys p q = record {
    all_is = agreed_append xs ys ∙ ap₂ (λ x y. x && y) p.all_is q.all_is;
    count_is = places_append xs ys ∙ ap₂ (λ x y. x + y) p.count_is q.count_is;
  }

  no_edge : Agrees tell v [] true 0
  no_edge = record { all_is = refl; count_is = refl }

  off_edge : {a : Bool} {n : ℕ} (e : Record) (es : List Record)
      → (to_gates e && eqb v (e.b / 4)) ≡ false → Agrees tell v es a n
      → Agrees tell v (e ∷ es) a n
  off_edge e es f p =
      let none : 0 + places_if to_gates v es ≡ places_if to_gates v es = omega arith in record {
        all_is = ap (λ b. cond b (tell e) true && agreed_if to_gates tell v es) f ∙ p.all_is;
        count_is = ap (λ b. cond b 1 0 + places_if to_gates v es) f ∙ none ∙ p.count_is;
      }

  own_edge : {a : Bool} {n : ℕ} (e : Record) (es : List Record)
      → (to_gates e && eqb v (e.b / 4)) ≡ true → Agrees tell v es a n
      → Agrees tell v (e ∷ es) (tell e && a) (1 + n)
  own_edge e es t p = record {
    all_is = ap (λ b. cond b (tell e) true && agreed_if to_gates tell v es) t
        ∙ ap (λ b. tell e && b) p.all_is;
    count_is = ap (λ b. cond b 1 0 + places_if to_gates v es) t ∙ ap (λ n. 1 + n) p.count_is;
  }

  -- the edge of an operand, of this gate and of another one, and an edge of an end
  operand_here : (literal class : ℕ) → class < 2
      → (to_gates (graph_edge literal v class) && eqb v ((4 * v + class) / 4)) ≡ true
  operand_here literal class low =
      let kind : ltb ((4 * v + class) % 4) 2 ≡ true = lt-ltb _ _ (omega (arith, low)) in
      let place : eqb v ((4 * v + class) / 4) ≡ true = eq-eqb _ _ (omega (arith, low)) in
      ap₂ (λ x y. x && y) kind place

  operand_off : (literal t class : ℕ) → class < 2 → t ≢ v
      → (to_gates (graph_edge literal t class) && eqb v ((4 * t + class) / 4)) ≡ false
  operand_off literal t class low other =
      let kind : ltb ((4 * t + class) % 4) 2 ≡ true = lt-ltb _ _ (omega (arith, low)) in
      let place : eqb v ((4 * t + class) / 4) ≡ false = ne_eqb _ _ (omega (arith, low, other)) in
      ap₂ (λ x y. x && y) kind place

  end_off : (literal t class : ℕ) → 2 ≤ class → class < 4
      → (to_gates (graph_edge literal t class) && eqb v ((4 * t + class) / 4)) ≡ false
  end_off literal t class least low =
      let kind : ltb ((4 * t + class) % 4) 2 ≡ false = false_from_ne_true _ (λ y.
      let under = ltb-true ((4 * t + class) % 4) 2 y in omega (arith, least, low, under)) in
      ap (λ b. b && eqb v ((4 * t + class) / 4)) kind

  latches_off : (j : ℕ) (ls : List Latch) → Agrees tell v (numbered next_edge j ls) true 0
  latches_off j [] = no_edge
  latches_off j (l ∷ ls) =
      off_edge (next_edge j l) (numbered next_edge (j + 1) ls)
      (end_off l.next (2 ^ 41 + j) 2 (omega arith) (omega arith)) (latches_off (j + 1) ls)

  outputs_off : (j : ℕ) (os : List ℕ) → Agrees tell v (numbered output_edge j os) true 0
  outputs_off j [] = no_edge
  outputs_off j (o ∷ os) =
      off_edge (output_edge j o) (numbered output_edge (j + 1) os)
      (end_off o (2 ^ 42 + j) 3 (omega arith) (omega arith)) (outputs_off (j + 1) os)

  gates_off : (gs : List Gate) → (has (variables (left_sides gs)) v ≡ true → ⊥)
      → Agrees tell v (flat_map operand_edges gs) true 0
  gates_off [] f = no_edge
  gates_off (g ∷ gs) f =
      let other : g.lhs / 2 ≢ v = λ e. f (has_first (g.lhs / 2) v (variables (left_sides gs)) e) in
      off_edge (graph_edge g.rhs0 (g.lhs / 2) 0)
      (graph_edge g.rhs1 (g.lhs / 2) 1 ∷ flat_map operand_edges gs)
      (operand_off g.rhs0 (g.lhs / 2) 0 (omega arith) other)
      (off_edge (graph_edge g.rhs1 (g.lhs / 2) 1) (flat_map operand_edges gs)
      (operand_off g.rhs1 (g.lhs / 2) 1 (omega arith) other)
      (gates_off gs (λ h. f (has_rest (g.lhs / 2) v (variables (left_sides gs)) h))))

  gate_here : (gs : List Gate) → Unlike (variables (left_sides gs)) → (g : Gate) → Contains gs g
      → g.lhs / 2 ≡ v
      → Agrees tell v (flat_map operand_edges gs)
      (tell (graph_edge g.rhs0 v 0) && (tell (graph_edge g.rhs1 v 1) && true)) 2
  gate_here [] u g i e = absurd (contains_none g i)
  gate_here (h ∷ gs) u g i e = elim (contains_cases h g gs i) [
    | inl same ↦
        subst (λ (z : Gate). Agrees tell v (operand_edges h ++ flat_map operand_edges gs)
        (tell (graph_edge z.rhs0 v 0) && (tell (graph_edge z.rhs1 v 1) && true)) 2) same
        (subst (λ (t : ℕ). Agrees tell v
        (graph_edge h.rhs0 t 0 ∷ graph_edge h.rhs1 t 1 ∷ flat_map operand_edges gs)
        (tell (graph_edge h.rhs0 v 0) && (tell (graph_edge h.rhs1 v 1) && true)) 2)
        (sym (ap (λ (z : Gate). z.lhs / 2) same ∙ e))
        (own_edge (graph_edge h.rhs0 v 0) (graph_edge h.rhs1 v 1 ∷ flat_map operand_edges gs)
        (operand_here h.rhs0 0 (omega arith))
        (own_edge (graph_edge h.rhs1 v 1) (flat_map operand_edges gs)
        (operand_here h.rhs1 1 (omega arith))
        (gates_off gs (λ there. u.0 (ap (has (variables (left_sides gs)))
        (ap (λ (z : Gate). z.lhs / 2) same ∙ e) ∙ there))))))
    | inr j ↦
        let there = has_variable gs g j in
        let other : h.lhs / 2 ≢ v = λ s.
        u.0 (ap (has (variables (left_sides gs))) (s ∙ sym e) ∙ there) in
        off_edge (graph_edge h.rhs0 (h.lhs / 2) 0)
        (graph_edge h.rhs1 (h.lhs / 2) 1 ∷ flat_map operand_edges gs)
        (operand_off h.rhs0 (h.lhs / 2) 0 (omega arith) other)
        (off_edge (graph_edge h.rhs1 (h.lhs / 2) 1) (flat_map operand_edges gs)
        (operand_off h.rhs1 (h.lhs / 2) 1 (omega arith) other) (gate_here gs u.1 g j e))
  ]

-- The edges of a graph that lead to a gate are those of its operands.
pub gate_agrees : (tell : Record → Bool) (c : Circuit) → Unlike (variables (left_sides c.gates))
    → (g : Gate) → Contains c.gates g
    → Agrees tell (g.lhs / 2) (graph_edges c)
    (tell (graph_edge g.rhs0 (g.lhs / 2) 0) && tell (graph_edge g.rhs1 (g.lhs / 2) 1)) 2
gate_agrees tell c u g i =
    let v = g.lhs / 2 in
    let gates = flat_map operand_edges c.gates in
    let ends = numbered next_edge 0 c.latches ++ numbered output_edge 0 c.columns in
    let own = gate_here tell v c.gates u g i refl in
    let none = both_agree tell v (numbered next_edge 0 c.latches) (numbered output_edge 0 c.columns)
    (latches_off tell v 0 c.latches) (outputs_off tell v 0 c.columns) in
    let all = both_agree tell v gates ends own none in
    let first = tell (graph_edge g.rhs0 v 0) in
    let second = tell (graph_edge g.rhs1 v 1) in record {
      all_is = agreed_order to_gates tell v (edges_in_text c) ∙ all.all_is
          ∙ both_true (first && (second && true)) ∙ ap (λ b. first && b) (both_true second);
      count_is = places_order to_gates v (edges_in_text c) ∙ all.count_is;
    }

-- An edge leads to no variable but that of a gate.
pub none_lead : (c : Circuit) (v : ℕ) → (has (variables (left_sides c.gates)) v ≡ true → ⊥)
    → places_if to_gates v (graph_edges c) ≡ 0
none_lead c v f =
    let tell = λ (e : Record). true in
    let none = both_agree tell v (numbered next_edge 0 c.latches) (numbered output_edge 0 c.columns)
    (latches_off tell v 0 c.latches) (outputs_off tell v 0 c.columns) in
    places_order to_gates v (edges_in_text c)
    ∙ (both_agree tell v (flat_map operand_edges c.gates)
    (numbered next_edge 0 c.latches ++ numbered output_edge 0 c.columns)
    (gates_off tell v c.gates f) none).count_is
