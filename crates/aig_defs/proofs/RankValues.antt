-- The values of ranks: bits that are given, conjunctions of what the edges to a gate bring, next
-- values and outputs. So going through the ranks upwards gives a step of the circuit.
use Rattle.std.proofs.Common.{inl, inr, ◌≡◌, ◌+◌, ◌-◌, ◌*◌, ◌<◌, ◌/◌, ◌%◌, Bool, true, false, cond, eqb, ◌&&◌, not, List, ◌∷◌, ◌++◌, ℕ, zero, suc, sym, ap, ◌∙◌, refl, arith, length, map, get_or, Contains, append_assoc}
use Rattle.std.proofs.lemmas.Bool.{cases_lt}
use Rattle.std.proofs.lemmas.List.{length-append, length-map, map-append, get_or-map, get_or_append_left, get_or-append-add, get_or_default}
use Rattle.aig_defs.specs.declared.circuit.Latch.{Latch}
use Rattle.aig_defs.specs.declared.circuit.Gate.{Gate}
use Rattle.aig_defs.specs.Circuit.{Circuit, currents, nexts, left_sides, columns}
use Rattle.aig_defs.specs.Edges.{heard}
use Rattle.aig_defs.specs.Ranks.{given_literals, ranked, ends, first_gate_rank, first_end_rank, rank_edge, ordered_edges, rank_value, IsDefinedBy, IsOrder}
use Rattle.aig_defs.specs.Value.{variable_by, gate_to, literal_value, step_of}
use Rattle.aig_defs.proofs.Edges.{Brings, and_none}
use Rattle.aig_defs.proofs.Equations.{even_value, zero_value, input_value, latch_value, gate_value}
use Rattle.aig_defs.proofs.RankEdges.{length_ranked, index_is, ranked_even, order_below, below_at, gate_heard, end_heard}

-- a place in the second of two lists
get_at : {A : Type 0} (xs ys : List A) (n j : ℕ) (d : A) → length xs ≡ n
    → get_or (xs ++ ys) (n + j) d ≡ get_or ys j d
get_at xs ys n j d count =
    ap (λ k. get_or (xs ++ ys) (k + j) d) (sym count) ∙ get_or-append-add xs ys j d

sign_is : (r : ℕ) (x : Bool) → r < 2 → cond (eqb r 0) x (not x) ≡ cond (eqb r 1) (not x) x
sign_is zero x low = refl
sign_is (suc zero) x low = refl
sign_is (suc (suc r)) x low = absurd (omega arith)

module _ (c : Circuit) (order : List Gate) (o : IsOrder c order) (s i : List Bool) where
  -- An edge brings the value of its literal.
  pub heard_is : (l b : ℕ) → IsDefinedBy (ranked c order) l
      → heard (rank_value c order s i) (rank_edge (ranked c order) l b) ≡ literal_value c s i l
  heard_is l b among =
      let v = l / 2 in
      let f = gate_to (length c.gates) c s i in
      let place = index_is v (ranked c order) (ends c) among (ranked_even c order o) in
      let half : 2 * v / 2 ≡ v = omega arith in
      let is = ap (literal_value c s i) place ∙ even_value c s i f (2 * v) (omega arith)
      ∙ ap (variable_by f c s i) half in
      ap (λ z. cond (eqb (l % 2) 0) z (not z)) is
      ∙ sign_is (l % 2) (variable_by f c s i v) (omega arith)

  -- The ranks below the gates have the bits that are given.
  source_value : (t : ℕ) → length s ≡ length c.latches → length i ≡ length c.inputs
      → t < length c.inputs + length (currents c.latches)
      → literal_value c s i (get_or (c.inputs ++ currents c.latches) t 0) ≡ get_or (i ++ s) t false
  source_value t ls li low = elim (cases_lt t (length c.inputs)) [
    | inl less ↦
        ap (literal_value c s i) (get_or_append_left c.inputs (currents c.latches) 0 t less)
        ∙ input_value c o.is o.faultless s i t less li
        ∙ sym (get_or_append_left i s false t (omega (arith, less, li)))
    | inr more ↦
        let j = t - length c.inputs in
        let count = length-map c.latches (λ (l : Latch). l.current) in
        let below : j < length c.latches = omega (arith, low, more, count) in
        let none : Latch = record { current = 0; next = 0; reset = false } in
        let place : length c.inputs + j ≡ t = omega (arith, more) in
        let bit : length i + j ≡ t = omega (arith, more, li) in
        let here = get_or-map (λ (l : Latch). l.current) c.latches j none 0 below in
        ap (λ k. literal_value c s i (get_or (c.inputs ++ currents c.latches) k 0)) (sym place)
        ∙ ap (literal_value c s i) (get_or-append-add c.inputs (currents c.latches) j 0 ∙ here)
        ∙ latch_value c o.is o.faultless s i j none below ls
        ∙ sym (get_or-append-add i s j false)
        ∙ ap (λ k. get_or (i ++ s) k false) bit
  ]

  pub given_rank : (t : ℕ) → length s ≡ length c.latches → length i ≡ length c.inputs
      → t < first_gate_rank c
      → rank_value c order s i t ≡ get_or (false ∷ (i ++ s)) t false
  given_rank zero ls li low = zero_value c o.is s i
  given_rank (suc t) ls li low =
      let given = c.inputs ++ currents c.latches in
      let count = length-append c.inputs (currents c.latches) in
      let below : t < length given = omega arith in
      let within : t < length (given ++ left_sides order) =
      omega (arith, below, length-append given (left_sides order)) in
      ap (literal_value c s i) (get_or_append_left (given ++ left_sides order) (ends c) 0 t within
      ∙ get_or_append_left given (left_sides order) 0 t below)
      ∙ source_value t ls li (omega (arith, below, count))

  -- The rank of a gate has the value of the gate,
  pub gate_rank_literal : (j : ℕ) (d : Gate) → j < length order
      → rank_value c order s i (first_gate_rank c + j)
      ≡ literal_value c s i (get_or order j d).lhs
  gate_rank_literal j d low =
      let given = given_literals c in
      let count = length-map order (λ (g : Gate). g.lhs) in
      let below : j < length (left_sides order) = omega (arith, low, count) in
      ap (literal_value c s i)
      (ap (λ ls. get_or ls (length given + j) 0) (append_assoc given (left_sides order) (ends c))
      ∙ get_or-append-add given (left_sides order ++ ends c) j 0
      ∙ get_or_append_left (left_sides order) (ends c) 0 j below
      ∙ get_or-map (λ (g : Gate). g.lhs) order j d 0 low)

  -- which is the conjunction of what its two edges bring.
  pub gate_rank : (j : ℕ) → j < length order
      → Brings (rank_value c order s i) (first_gate_rank c + j) (ordered_edges c order)
      (rank_value c order s i (first_gate_rank c + j)) 2
  gate_rank j low =
      let none : Gate = record { lhs = 0; rhs0 = 0; rhs1 = 0 } in
      let g = get_or order j none in
      let value = rank_value c order s i in
      let from = ranked c order in
      let two = gate_heard value c order j none low in
      let below = below_at from (first_gate_rank c) order j none (order_below c order o) low in
      let h0 = heard value (rank_edge from g.rhs0 0) in
      let h1 = heard value (rank_edge from g.rhs1 0) in
      let e0 = heard_is g.rhs0 0 below.among0 in
      let e1 = heard_is g.rhs1 0 below.among1 in
      let there : Contains c.gates g = o.gates g (j, low, get_or_default order j g none low) in
      record {
        brings = two.brings
            ∙ and_none (h0 && (h1 && true))
            ∙ ap (λ b. h0 && b) (and_none h1)
            ∙ ap (λ b. b && h1) e0
            ∙ ap (λ b. literal_value c s i g.rhs0 && b) e1
            ∙ sym (gate_value c o.is o.faultless s i g there)
            ∙ sym (gate_rank_literal j none low);
        many = two.many;
      }

  -- The rank of an end has the value of its literal,
  pub end_rank_literal : (j : ℕ)
      → rank_value c order s i (first_end_rank c order + j)
      ≡ literal_value c s i (get_or (ends c) j 0)
  end_rank_literal j = ap (literal_value c s i)
      (get_at (ranked c order) (ends c) (first_end_rank c order) j 0 (length_ranked c order))

  -- which its one edge brings.
  pub end_rank : (j : ℕ) → j < length (ends c)
      → Brings (rank_value c order s i) (first_end_rank c order + j) (ordered_edges c order)
      (rank_value c order s i (first_end_rank c order + j)) 1
  end_rank j low =
      let value = rank_value c order s i in
      let l = get_or (ends c) j 0 in
      let one = end_heard value c order j low in
      let among = o.ends j 0 low in
      record {
        brings = one.brings ∙ and_none (heard value (rank_edge (ranked c order) l 0))
            ∙ heard_is l 0 among ∙ sym (end_rank_literal j);
        many = one.many;
      }

  -- The values of the ends are the next state, and then the outputs.
  pub ends_values : map (literal_value c s i) (ends c) ≡ (step_of c s i).1 ++ (step_of c s i).0
  ends_values = map-append (literal_value c s i) (nexts c.latches) c.columns

  pub next_rank : (j : ℕ) → j < c.header.latches
      → rank_value c order s i (first_end_rank c order + j) ≡ get_or (step_of c s i).1 j false
  next_rank j low =
      let count = length-map c.latches (λ (l : Latch). l.next) in
      let below : j < length (nexts c.latches) =
      omega (arith, low, count, o.is.lengths.latches) in
      end_rank_literal j
      ∙ ap (literal_value c s i) (get_or_append_left (nexts c.latches) c.columns 0 j below)
      ∙ sym (get_or-map (literal_value c s i) (nexts c.latches) j 0 false below)

  pub output_rank : (j : ℕ) → j < columns c.header
      → rank_value c order s i (first_end_rank c order + (c.header.latches + j))
      ≡ get_or (step_of c s i).0 j false
  output_rank j low =
      let count = length-map c.latches (λ (l : Latch). l.next) ∙ o.is.lengths.latches in
      let below : j < length c.columns = omega (arith, low, o.is.lengths.columns) in
      end_rank_literal (c.header.latches + j)
      ∙ ap (literal_value c s i) (get_at (nexts c.latches) c.columns c.header.latches j 0 count)
      ∙ sym (get_or-map (literal_value c s i) c.columns j 0 false below)
