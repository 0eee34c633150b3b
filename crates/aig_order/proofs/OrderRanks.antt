-- The edges between ranks of a circuit whose gates are in an order: they are those of its graph, each
-- with the ranks in place of the variables.
use Rattle.std.proofs.Common.{◌⊎◌, inl, inr, ◌≡◌, ◌+◌, ◌-◌, ◌^◌, ◌*◌, ◌<◌, ◌/◌, ◌%◌, ◌==◌, if◌then◌else◌, true, cond, List, [], ◌∷◌, ◌++◌, ℕ, sym, ap, ap₂, ◌∙◌, refl, subst, arith, length, map, flat_map, Contains, map-id}
use Rattle.std.proofs.lemmas.Bool.{eq-eqb, ne_eqb}
use Rattle.std.proofs.lemmas.List.{length-map, map-append}
use Rattle.em_record.specs.declared.record.Record.{Record}
use Rattle.em_record.specs.Order.{with_record, in_order}
use Rattle.em_record.proofs.Commutes.{order_cons, with_commutes}
use Rattle.aig_defs.specs.declared.circuit.Header.{Header}
use Rattle.aig_defs.specs.declared.circuit.Latch.{Latch}
use Rattle.aig_defs.specs.declared.circuit.Gate.{Gate}
use Rattle.aig_defs.specs.Chains.{numbered}
use Rattle.aig_defs.specs.Circuit.{Circuit, variables, nexts, left_sides}
use Rattle.aig_defs.specs.Faults.{definitions}
use Rattle.aig_defs.specs.Founded.{has, gate_variables}
use Rattle.aig_defs.specs.Graph.{graph_edge, operand_edges, next_edge, output_edge, edges_in_text, graph_edges, AllLack}
use Rattle.aig_defs.specs.Ranks.{given_literals, ranked, ends, first_gate_rank, first_end_rank, index, rank_edge, gate_rank_edges, end_rank_edges, edges_by_rank, ordered_edges, IsOrder}
use Rattle.aig_defs.specs.VariableRanks.{variable_rank, target_rank, ranked_edge}
use Rattle.aig_defs.proofs.Graphs.{AllApart, apart_lack, apart_order, order_apart}
use Rattle.aig_defs.proofs.Mapped.{map_order}
use Rattle.aig_defs.proofs.Members.{has_first, has_rest, has_right, contains_first, contains_rest, contains_cases, contains_none, contains_left, contains_right, gate_with}
use Rattle.aig_defs.proofs.RankEdges.{rank_numbers}
use Rattle.aig_defs.proofs.RankWords.{end_edges_append, by_rank_apart}
use Rattle.aig_defs.proofs.Uses.{used_defined, operands_used, end_used}
use Rattle.aig_defs.proofs.VariableRanks.{AreAt, gate_not_given, given_is}
use Rattle.aig_defs.proofs.Single.{has_variable}
use Rattle.aig_defs.proofs.Unlike.{Unlike}
use Rattle.aig_defs.proofs.Upwards.{gates_unlike, index_after}
use Rattle.aig_order.proofs.Orders.{middle_of, without_middle, length_middle}

-- `rank` gives the rank of each variable that is defined, and of the constant's, in an order.
abbrev pub RanksIn : Circuit → List Gate → (ℕ → ℕ) → Type 0
RanksIn c order rank = (v : ℕ) → (v ≡ 0) ⊎ (has (definitions c) v ≡ true)
    → rank v ≡ variable_rank c order v

at_same : (r q : ℕ → ℕ) (t : ℕ) (gs : List Gate)
    → ((v : ℕ) → has (variables (left_sides gs)) v ≡ true → r v ≡ q v) → AreAt r t gs → AreAt q t gs
at_same r q t [] f h = tt
at_same r q t (g ∷ gs) f h =
    let vs = variables (left_sides gs) in (
      sym (f (g.lhs / 2) (has_first (g.lhs / 2) (g.lhs / 2) vs refl)) ∙ h.0,
      at_same r q (t + 1) gs (λ v there. f v (has_rest (g.lhs / 2) v vs there)) h.1,
    )

-- a variable of a gate of the order is that of a gate
order_has : (c : Circuit) (order : List Gate) → IsOrder c order → (v : ℕ)
    → has (variables (left_sides order)) v ≡ true → has (gate_variables c) v ≡ true
order_has c order o v there =
    let g = gate_with order v there in
    ap (has (gate_variables c)) (sym g.variable) ∙ has_variable c.gates g.gate (o.gates g.gate g.is)

-- gates with unlike variables have their places
unlike_at : (n : ℕ) (gs : List Gate) → Unlike (variables (left_sides gs))
    → AreAt (λ v. n + index v (left_sides gs)) n gs
unlike_at n [] u = tt
unlike_at n (g ∷ gs) u =
    let more = λ (v : ℕ). index v (left_sides gs) + 1 in
    let first : n + 0 ≡ n = omega arith in (
      ap (λ b. n + cond b 0 (more (g.lhs / 2))) (eq-eqb (g.lhs / 2) (g.lhs / 2) refl) ∙ first,
      at_same (λ v. n + 1 + index v (left_sides gs)) (λ v. n + index v (left_sides (g ∷ gs))) (n + 1)
          gs (λ v there.
          let other = ne_eqb (g.lhs / 2) v (λ e.
          u.0 (ap (has (variables (left_sides gs))) e ∙ there)) in
          let place : n + 1 + index v (left_sides gs) ≡ n + (index v (left_sides gs) + 1) =
          omega arith in
          place ∙ sym (ap (λ b. n + cond b 0 (more v)) other)) (unlike_at (n + 1) gs u.1),
    )

-- Gates have their places in the order as ranks.
pub order_at : (c : Circuit) (order : List Gate) → IsOrder c order
    → Unlike (variables (left_sides order))
    → AreAt (variable_rank c order) (first_gate_rank c) order
order_at c order o u =
    at_same (λ v. first_gate_rank c + index v (left_sides order)) (variable_rank c order)
    (first_gate_rank c) order
    (λ v there. sym (index_after v (given_literals c) (left_sides order) (λ given.
    gate_not_given c o.is o.faultless.twice v (order_has c order o v there)
    (sym (ap (λ z. has z v) (given_is c)) ∙ given))))
    (unlike_at (first_gate_rank c) order u)

-- the edges between ranks of edges, if `rank` gives the ranks of their variables
module _ (rank : ℕ → ℕ) (h : Header) (from : List ℕ) where
  -- the edge between ranks of an edge from a literal, by its class
  abbrev by_class : ℕ → ℕ → ℕ → Record
  by_class literal t class = record {
    a = rank (literal / 2);
    b = 2 * target_rank rank h class t + (if class == 1 then 1 else 0);
    c = literal % 2;
    d = 0;
  }

  ranked_by : (literal t class : ℕ) → class < 4
      → ranked_edge rank h (graph_edge literal t class) ≡ by_class literal t class
  ranked_by literal t class low =
      let kind : (4 * t + class) % 4 ≡ class = omega (arith, low) in
      let place : (4 * t + class) / 4 ≡ t = omega (arith, low) in
      ap₂ (λ k p. by_class literal p k) kind place

  edge_at : (literal b : ℕ) → rank (literal / 2) ≡ index (literal / 2) from
      → record { a = rank (literal / 2); b = b; c = literal % 2; d = 0 }
      ≡ rank_edge from literal b
  edge_at literal b same =
      ap (λ (a : ℕ). record { a = a; b = b; c = literal % 2; d = 0 }) same

  gates_ranked : (t : ℕ) (gs : List Gate) → AreAt rank t gs
      → ((g : Gate) → Contains gs g → (rank (g.rhs0 / 2) ≡ index (g.rhs0 / 2) from)
      × (rank (g.rhs1 / 2) ≡ index (g.rhs1 / 2) from))
      → map (ranked_edge rank h) (flat_map operand_edges gs) ≡ gate_rank_edges from t gs
  gates_ranked t [] a f = refl
  gates_ranked t (g ∷ gs) a f =
      let both = f g (contains_first g g gs refl) in
      let same = a.0 in
      let even : 2 * rank (g.lhs / 2) + 0 ≡ 2 * t = omega (arith, same) in
      let odd : 2 * rank (g.lhs / 2) + 1 ≡ 2 * t + 1 = omega (arith, same) in
      let first = ranked_by g.rhs0 (g.lhs / 2) 0 (omega arith)
      ∙ ap (λ (b : ℕ). record { a = rank (g.rhs0 / 2); b = b; c = g.rhs0 % 2; d = 0 }) even
      ∙ edge_at g.rhs0 (2 * t) both.0 in
      let second = ranked_by g.rhs1 (g.lhs / 2) 1 (omega arith)
      ∙ ap (λ (b : ℕ). record { a = rank (g.rhs1 / 2); b = b; c = g.rhs1 % 2; d = 0 }) odd
      ∙ edge_at g.rhs1 (2 * t + 1) both.1 in
      let rest = gates_ranked (t + 1) gs a.1 (λ k i. f k (contains_rest g k gs i)) in
      let others = map (ranked_edge rank h) (flat_map operand_edges gs) in
      ap (λ e. e ∷ ranked_edge rank h (graph_edge g.rhs1 (g.lhs / 2) 1) ∷ others) first
      ∙ ap (λ e. rank_edge from g.rhs0 (2 * t) ∷ e ∷ others) second
      ∙ ap (λ es. rank_edge from g.rhs0 (2 * t) ∷ rank_edge from g.rhs1 (2 * t + 1) ∷ es) rest

  -- the edges of latches and of outputs, whose places begin at n and whose ranks at t
  section_ranked : {A : Type 0} (literal : A → ℕ) (n class j t : ℕ) (section : List A) → class < 4
      → ((k : ℕ) (a : A) → by_class (literal a) (n + (j + k)) class
      ≡ record { a = rank (literal a / 2); b = 2 * (t + k); c = literal a % 2; d = 0 })
      → ((a : A) → Contains section a → rank (literal a / 2) ≡ index (literal a / 2) from)
      → map (ranked_edge rank h)
      (numbered (λ k (a : A). graph_edge (literal a) (n + k) class) j section)
      ≡ end_rank_edges from t (map literal section)
  section_ranked literal n class j t [] low f g = refl
  section_ranked {A} literal n class j t (a ∷ section) low f g =
      let start : j ≡ j + 0 = omega arith in
      let place : 2 * (t + 0) ≡ 2 * t = omega arith in
      let first = ranked_by (literal a) (n + j) class low
      ∙ ap (λ k. by_class (literal a) (n + k) class) start ∙ f 0 a
      ∙ ap (λ (b : ℕ). record { a = rank (literal a / 2); b = b; c = literal a % 2; d = 0 }) place
      ∙ edge_at (literal a) (2 * t) (g a (contains_first a a section refl)) in
      let next = λ (k : ℕ) (b : A).
      let later : j + 1 + k ≡ j + (k + 1) = omega arith in
      let late : 2 * (t + (k + 1)) ≡ 2 * (t + 1 + k) = omega arith in
      ap (λ p. by_class (literal b) (n + p) class) later ∙ f (k + 1) b
      ∙ ap (λ (w : ℕ). record { a = rank (literal b / 2); b = w; c = literal b % 2; d = 0 }) late in
      let rest = section_ranked literal n class (j + 1) (t + 1) section low next
      (λ b i. g b (contains_rest a b section i)) in
      let others = map (ranked_edge rank h)
      (numbered (λ k (a : A). graph_edge (literal a) (n + k) class) (j + 1) section) in
      ap (λ e. e ∷ others) first ∙ ap (λ es. rank_edge from (literal a) (2 * t) ∷ es) rest

next_of : (ls : List Latch) (l : Latch) → Contains ls l → Contains (nexts ls) l.next
next_of [] l i = absurd (contains_none l i)
next_of (k ∷ ls) l i = elim (contains_cases k l ls i) [
  | inl same ↦ contains_first k.next l.next (nexts ls) (ap (λ (z : Latch). z.next) same)
  | inr j ↦ contains_rest k.next l.next (nexts ls) (next_of ls l j)
]

-- the edges of gates in their order, and of ends, by such ranks
edges_ranked : (c : Circuit) (order : List Gate) (rank : ℕ → ℕ) → IsOrder c order
    → Unlike (variables (left_sides order)) → RanksIn c order rank
    → edges_by_rank c order ≡ map (ranked_edge rank c.header) (flat_map operand_edges order)
    ++ map (ranked_edge rank c.header)
    (numbered next_edge 0 c.latches ++ numbered output_edge 0 c.columns)
edges_ranked c order rank o u r =
    let h = c.header in
    let n = o.faultless.undefined in
    let from = ranked c order in
    let f = ranked_edge rank h in
    let next = λ (l : Latch). l.next in
    let own = λ (l : ℕ). l in
    let numbers = rank_numbers c order o.is.lengths o.count in
    let t = first_end_rank c order in
    let ns = numbered next_edge 0 c.latches in
    let os = numbered output_edge 0 c.columns in
    let places = at_same (variable_rank c order) rank (first_gate_rank c) order
    (λ v there. sym (r v (inr (has_right _ (gate_variables c) v (order_has c order o v there)))))
    (order_at c order o u) in
    let gates = gates_ranked rank h from (first_gate_rank c) order places (λ g i.
    let used = operands_used c g (o.gates g i) in (
      r (g.rhs0 / 2) (used_defined c (g.rhs0 / 2) n used.0),
      r (g.rhs1 / 2) (used_defined c (g.rhs1 / 2) n used.1),
    )) in
    let end_rank = λ (l : ℕ) (i : Contains (ends c) l).
    r (l / 2) (used_defined c (l / 2) n (end_used c l i)) in
    let latches : map f ns ≡ end_rank_edges from t (nexts c.latches) =
    section_ranked rank h from next (2 ^ 41) 2 0 t c.latches (omega arith) (λ k l.
    let place : 2 * (1 + h.inputs + h.latches + h.gates + (2 ^ 41 + (0 + k) - 2 ^ 41)) + 0
    ≡ 2 * (t + k) =
    omega (arith, numbers.first_end) in
    ap (λ (b : ℕ). record { a = rank (l.next / 2); b = b; c = l.next % 2; d = 0 }) place)
    (λ l i. end_rank l.next
    (contains_left (nexts c.latches) c.columns l.next (next_of c.latches l i))) in
    let late = t + length (nexts c.latches) in
    let count = length-map c.latches next ∙ o.is.lengths.latches in
    let outputs : map f os ≡ end_rank_edges from late (map own c.columns) =
    section_ranked rank h from own (2 ^ 42) 3 0 late c.columns (omega arith) (λ k l.
    let place : 2 * (1 + h.inputs + 2 * h.latches + h.gates + (2 ^ 42 + (0 + k) - 2 ^ 42)) + 0
    ≡ 2 * (late + k) =
    omega (arith, numbers.first_end, count) in
    ap (λ (b : ℕ). record { a = rank (l / 2); b = b; c = l % 2; d = 0 }) place)
    (λ l i. end_rank l (contains_right (nexts c.latches) c.columns l i)) in
    let same : map own c.columns ≡ c.columns = map-id c.columns in
    let ends_same = map-append f ns os
    ∙ ap (λ es. es ++ map f os) latches
    ∙ ap (λ es. end_rank_edges from t (nexts c.latches) ++ es) outputs
    ∙ ap (λ ls. end_rank_edges from t (nexts c.latches) ++ end_rank_edges from late ls) same
    ∙ sym (end_edges_append from t (nexts c.latches) c.columns) in
    sym (ap (λ es. es ++ map f (ns ++ os)) gates
    ∙ ap (λ es. gate_rank_edges from (first_gate_rank c) order ++ es) ends_same)

-- a gate among others gives its two edges
module _ (f : Record → Record) (zs : List Record) where
  abbrev both_edges : Gate → List Record → List Record
  both_edges g ys = with_record (f (graph_edge g.rhs0 (g.lhs / 2) 0))
      (with_record (f (graph_edge g.rhs1 (g.lhs / 2) 1)) ys)

  abbrev edges_then : List Gate → List Record
  edges_then gs = map f (flat_map operand_edges gs) ++ zs

  edges_first : (g : Gate) (gs : List Gate)
      → in_order (edges_then (g ∷ gs)) ≡ both_edges g (in_order (edges_then gs))
  edges_first g gs =
      let e = f (graph_edge g.rhs0 (g.lhs / 2) 0) in
      let k = f (graph_edge g.rhs1 (g.lhs / 2) 1) in
      order_cons e (k ∷ edges_then gs) ∙ ap (with_record e) (order_cons k (edges_then gs))

  both_swap : (g h : Gate) (ys : List Record)
      → both_edges g (both_edges h ys) ≡ both_edges h (both_edges g ys)
  both_swap g h ys =
      let g0 = f (graph_edge g.rhs0 (g.lhs / 2) 0) in
      let g1 = f (graph_edge g.rhs1 (g.lhs / 2) 1) in
      let h0 = f (graph_edge h.rhs0 (h.lhs / 2) 0) in
      let h1 = f (graph_edge h.rhs1 (h.lhs / 2) 1) in
      ap (with_record g0) (with_commutes g1 h0 (with_record h1 ys)
      ∙ ap (with_record h0) (with_commutes g1 h1 ys))
      ∙ with_commutes g0 h0 (with_record h1 (with_record g1 ys))
      ∙ ap (with_record h0) (with_commutes g0 h1 (with_record g1 ys))

  edges_middle : (xs ys : List Gate) (g : Gate)
      → in_order (edges_then (xs ++ g ∷ ys)) ≡ both_edges g (in_order (edges_then (xs ++ ys)))
  edges_middle [] ys g = edges_first g ys
  edges_middle (x ∷ xs) ys g =
      edges_first x (xs ++ g ∷ ys) ∙ ap (both_edges x) (edges_middle xs ys g)
      ∙ both_swap x g (in_order (edges_then (xs ++ ys)))
      ∙ ap (both_edges g) (sym (edges_first x (xs ++ ys)))

  -- In order the edges of as many gates, with all of these, are the same.
  pub same_edges : (gs hs : List Gate) → Unlike (variables (left_sides gs))
      → length hs ≡ length gs → ((g : Gate) → Contains gs g → Contains hs g)
      → in_order (edges_then hs) ≡ in_order (edges_then gs)
  same_edges [] [] u n f = refl
  same_edges [] (h ∷ hs) u n f = absurd (omega (arith, n))
  same_edges (g ∷ gs) hs u n f =
      let m = middle_of hs g (f g (contains_first g g gs refl)) in
      let rest = same_edges gs (m.before ++ m.after) u.1
      (omega (arith, n, length_middle m.before m.after g, ap length m.is)) (λ h i.
      without_middle m.before m.after g h
      (subst (λ z. Contains z h) m.is (f h (contains_rest g h gs i)))
      (λ same. u.0 (ap (λ (z : Gate). has (variables (left_sides gs)) (z.lhs / 2)) same
      ∙ has_variable gs h i))) in
      ap (λ z. in_order (edges_then z)) m.is ∙ edges_middle m.before m.after g
      ∙ ap (both_edges g) rest ∙ sym (edges_first g gs)

-- In order the edges between ranks are those of all edges in the text's order,
pub ranks_text_order : (c : Circuit) (order : List Gate) (rank : ℕ → ℕ) → IsOrder c order
    → Unlike (variables (left_sides order)) → RanksIn c order rank
    → ordered_edges c order ≡ in_order (map (ranked_edge rank c.header) (edges_in_text c))
ranks_text_order c order rank o u r =
    let f = ranked_edge rank c.header in
    let zs = numbered next_edge 0 c.latches ++ numbered output_edge 0 c.columns in
    ap in_order (edges_ranked c order rank o u r)
    ∙ same_edges f (map f zs) c.gates order (gates_unlike c o.faultless.twice) o.count o.all
    ∙ ap in_order (sym (map-append f (flat_map operand_edges c.gates) zs))

-- and so those of the graph.
pub ranks_ordered : (c : Circuit) (order : List Gate) (rank : ℕ → ℕ) → IsOrder c order
    → Unlike (variables (left_sides order)) → RanksIn c order rank
    → ordered_edges c order ≡ in_order (map (ranked_edge rank c.header) (graph_edges c))
ranks_ordered c order rank o u r =
    ranks_text_order c order rank o u r
    ∙ sym (map_order (ranked_edge rank c.header) (edges_in_text c))

-- Records that are the edges between ranks in another order can be pushed one after another.
pub ranks_lack : (c : Circuit) (order : List Gate) (xs : List Record)
    → in_order xs ≡ ordered_edges c order → AllLack [] xs
ranks_lack c order xs e =
    apart_lack xs (order_apart xs (subst AllApart (sym e)
    (apart_order (edges_by_rank c order) (by_rank_apart c order))))
