-- How often sweeps over the adjacency list of a circuit call the queue: each edge to a gate has one note
-- in both sweeps of a pass, and each gate takes two.
use Rattle.std.proofs.Common.{sym, ◌≡◌, ◌+◌, ◌^◌, ◌*◌, ◌<◌, ◌≤◌, ◌/◌, ◌%◌, Bool, true, false, cond, eqb, ◌&&◌, not, if◌then◌else◌, List, [], ◌∷◌, ◌++◌, ℕ, ap, ap₂, ◌∙◌, refl, arith, length, flat_map}
use Rattle.std.proofs.lemmas.Bool.{lt-ltb, ltb-true, false_from_ne_true}
use Rattle.std.proofs.lemmas.List.{length-map}
use Rattle.em_record.specs.declared.record.Record.{Record}
use Rattle.em_record.specs.Order.{is_below, with_record, with_records, in_order}
use Rattle.aig_defs.specs.declared.circuit.Gate.{Gate}
use Rattle.aig_defs.specs.declared.circuit.Latch.{Latch}
use Rattle.aig_defs.specs.Chains.{numbered}
use Rattle.aig_defs.specs.Circuit.{Circuit, left_sides, IsCircuit}
use Rattle.aig_defs.specs.Faults.{IsTwice, Nowhere}
use Rattle.aig_defs.specs.Founded.{upwards}
use Rattle.aig_defs.specs.Graph.{graph_edge, operand_edges, next_edge, output_edge, edges_in_text, graph_edges}
use Rattle.aig_defs.proofs.Graphs.{graph_edges_count}
use Rattle.aig_defs.proofs.Passes.{length_upwards}
use Rattle.aig_edges.specs.Graph.{edge_count}
use Rattle.aig_order.specs.declared.standing.Sweep.{Sweep}
use Rattle.aig_order.specs.declared.standing.Sweep.TheVariants.{Recall, Find, Send, Rank}
use Rattle.aig_order.specs.PassLists.{list_after}
use Rattle.aig_order.specs.SweepCalls.{written_at, sweep_calls, sweep_written}
use Rattle.aig_order.specs.Sweeps.{is_edge, is_gate, is_told, leads_to_gate, rises, takes_notes}
use Rattle.aig_order.proofs.Agreeing.{to_gates}
use Rattle.aig_order.proofs.Awaited.{gates_in}
use Rattle.aig_order.proofs.CircuitLists.{list_gates}
use Rattle.aig_order.proofs.RankLists.{edges_among, list_edges}

-- how many edges lead to gates
abbrev pub gate_edges : List Record → ℕ
gate_edges [] = 0
gate_edges (e ∷ es) = (if to_gates e then 1 else 0) + gate_edges es

-- the calls of both sweeps of a pass at a record
pass_by : (edge gate lead up : Bool) (v : ℕ) (vs : List ℕ) (a b edges : ℕ) → (edge ≡ true → gate ≡ false)
    → a + b ≡ edges + 2 * length vs
    → (cond edge (cond (lead && not up) 1 0) (cond (false && gate) 2 0) + a)
    + (cond edge (cond (lead && up) 1 0) (cond (true && gate) 2 0) + b)
    ≡ (cond (edge && lead) 1 0 + edges) + 2 * length (cond gate (v ∷ vs) vs)
pass_by true true lead up v vs a b edges f e = cc (f refl)
pass_by true false true true v vs a b edges f e = omega (arith, e)
pass_by true false true false v vs a b edges f e = omega (arith, e)
pass_by true false false up v vs a b edges f e = omega (arith, e)
pass_by false true lead up v vs a b edges f e = omega (arith, e)
pass_by false false lead up v vs a b edges f e = omega (arith, e)

no_gate : (r : Record) → is_edge r ≡ true → is_gate r ≡ false
no_gate r t = ap (λ b. not b && not (eqb r.d 1)) t

pass_calls_by : (rs : List Record)
    → sweep_calls Recall rs + sweep_calls Find rs ≡ gate_edges rs + 2 * length (gates_in rs)
pass_calls_by [] = refl
pass_calls_by (r ∷ rs) =
    pass_by (is_edge r) (is_gate r) (leads_to_gate r) (rises r) r.a (gates_in rs)
    (sweep_calls Recall rs) (sweep_calls Find rs) (gate_edges rs) (no_gate r) (pass_calls_by rs)

-- and of both sweeps that make the edges between ranks
rank_by : (edge gate lead : Bool) (v : ℕ) (vs : List ℕ) (a b edges : ℕ) → (edge ≡ true → gate ≡ false)
    → a + b ≡ edges + 2 * length vs
    → (cond edge (cond lead 1 0) (cond (false && gate) 2 0) + a)
    + (cond edge (cond false 1 0) (cond (true && gate) 2 0) + b)
    ≡ (cond (edge && lead) 1 0 + edges) + 2 * length (cond gate (v ∷ vs) vs)
rank_by true true lead v vs a b edges f e = cc (f refl)
rank_by true false true v vs a b edges f e = omega (arith, e)
rank_by true false false v vs a b edges f e = omega (arith, e)
rank_by false true lead v vs a b edges f e = omega (arith, e)
rank_by false false lead v vs a b edges f e = omega (arith, e)

rank_calls_by : (rs : List Record)
    → sweep_calls Send rs + sweep_calls Rank rs ≡ gate_edges rs + 2 * length (gates_in rs)
rank_calls_by [] = refl
rank_calls_by (r ∷ rs) =
    rank_by (is_edge r) (is_gate r) (leads_to_gate r) r.a (gates_in rs)
    (sweep_calls Send rs) (sweep_calls Rank rs) (gate_edges rs) (no_gate r) (rank_calls_by rs)

-- Edges to gates are counted in any order, and beside definitions.
with_by : (b : Bool) (x y : Record) (ys more : List Record) → gate_edges more ≡ gate_edges (x ∷ ys)
    → gate_edges (cond b (y ∷ more) (x ∷ y ∷ ys)) ≡ gate_edges (x ∷ y ∷ ys)
with_by true x y ys more e = omega (arith, e)
with_by false x y ys more e = refl

edges_with : (x : Record) (ys : List Record) → gate_edges (with_record x ys) ≡ gate_edges (x ∷ ys)
edges_with x [] = refl
edges_with x (y ∷ ys) = with_by (is_below y x) x y ys (with_record x ys) (edges_with x ys)

edges_records : (ys xs : List Record)
    → gate_edges (with_records ys xs) ≡ gate_edges xs + gate_edges ys
edges_records ys [] = omega arith
edges_records ys (x ∷ xs) = omega (arith, edges_records (with_record x ys) xs, edges_with x ys)

edges_order : (xs : List Record) → gate_edges (in_order xs) ≡ gate_edges xs
edges_order xs = omega (arith, edges_records [] xs)

among_by : (b lead : Bool) (r : Record) (es : List Record) (all : ℕ) → is_edge r ≡ b
    → leads_to_gate r ≡ lead → all ≡ gate_edges es
    → cond (b && lead) 1 0 + all ≡ gate_edges (cond b (r ∷ es) es)
among_by false lead r es all t l e = omega (arith, e)
among_by true lead r es all t l e =
    let here : cond {A = ℕ} (is_edge r && leads_to_gate r) 1 0 ≡ cond {A = ℕ} lead 1 0 =
    ap₂ (λ x y. cond {A = ℕ} (x && y) 1 0) t l in
    omega (arith, e, here)

edges_beside : (rs : List Record) → gate_edges rs ≡ gate_edges (edges_among rs)
edges_beside [] = refl
edges_beside (r ∷ rs) =
    among_by (is_edge r) (leads_to_gate r) r (edges_among rs) (gate_edges rs) refl refl
    (edges_beside rs)

edges_append : (xs ys : List Record) → gate_edges (xs ++ ys) ≡ gate_edges xs + gate_edges ys
edges_append [] ys = omega arith
edges_append (x ∷ xs) ys = omega (arith, edges_append xs ys)

-- a gate has two, and ends have none
to_gate : (literal t class : ℕ) → class < 2 → to_gates (graph_edge literal t class) ≡ true
to_gate literal t class low = lt-ltb ((4 * t + class) % 4) 2 (omega (arith, low))

to_end : (literal t class : ℕ) → 2 ≤ class → class < 4
    → to_gates (graph_edge literal t class) ≡ false
to_end literal t class least low = false_from_ne_true _ (λ y.
    let under = ltb-true ((4 * t + class) % 4) 2 y in omega (arith, least, low, under))

operands_two : (gs : List Gate) → gate_edges (flat_map operand_edges gs) ≡ 2 * length gs
operands_two [] = refl
operands_two (g ∷ gs) =
    let first = ap (λ b. cond {A = ℕ} b 1 0) (to_gate g.rhs0 (g.lhs / 2) 0 (omega arith)) in
    let second = ap (λ b. cond {A = ℕ} b 1 0) (to_gate g.rhs1 (g.lhs / 2) 1 (omega arith)) in
    omega (arith, first, second, operands_two gs)

nexts_none : (j : ℕ) (ls : List Latch) → gate_edges (numbered next_edge j ls) ≡ 0
nexts_none j [] = refl
nexts_none j (l ∷ ls) =
    let here = ap (λ b. cond {A = ℕ} b 1 0) (to_end l.next (2 ^ 41 + j) 2 (omega arith) (omega arith)) in
    omega (arith, here, nexts_none (j + 1) ls)

outputs_none : (j : ℕ) (os : List ℕ) → gate_edges (numbered output_edge j os) ≡ 0
outputs_none j [] = refl
outputs_none j (o ∷ os) =
    let here = ap (λ b. cond {A = ℕ} b 1 0) (to_end o (2 ^ 42 + j) 3 (omega arith) (omega arith)) in
    omega (arith, here, outputs_none (j + 1) os)

graph_edges_two : (c : Circuit) → gate_edges (graph_edges c) ≡ 2 * length c.gates
graph_edges_two c =
    let gs = flat_map operand_edges c.gates in
    let ns = numbered next_edge 0 c.latches in
    let os = numbered output_edge 0 c.columns in
    omega (
      arith,
      edges_order (edges_in_text c),
      edges_append gs (ns ++ os),
      edges_append ns os,
      operands_two c.gates,
      nexts_none 0 c.latches,
      outputs_none 0 c.columns,
    )

-- The list of a circuit has two edges to each gate, and each gate's definition.
list_two : (c : Circuit) (n : ℕ) → IsCircuit c → gate_edges (list_after c n) ≡ 2 * c.header.gates
list_two c n is =
    let gates = is.lengths.gates in
    edges_beside (list_after c n) ∙ ap gate_edges (list_edges c n) ∙ graph_edges_two c
    ∙ ap (λ m. 2 * m) gates

list_definitions : (c : Circuit) (n : ℕ) → IsCircuit c → Nowhere (IsTwice c)
    → length (gates_in (list_after c n)) ≡ c.header.gates
list_definitions c n is w =
    let gates = upwards c.gates in
    ap length (list_gates c n w) ∙ length-map (left_sides gates) (λ (l : ℕ). l / 2)
    ∙ length-map gates (λ (g : Gate). g.lhs) ∙ length_upwards c.gates ∙ is.lengths.gates

-- Both sweeps of a pass call the queue 4 A times,
pub pass_calls : (c : Circuit) (n : ℕ) → IsCircuit c → Nowhere (IsTwice c)
    → sweep_calls Recall (list_after c n) + sweep_calls Find (list_after c n) ≡ 4 * c.header.gates
pass_calls c n is w =
    omega (arith, pass_calls_by (list_after c n), list_two c n is, list_definitions c n is w)

-- and so do both that make the edges between ranks.
pub rank_calls : (c : Circuit) (n : ℕ) → IsCircuit c → Nowhere (IsTwice c)
    → sweep_calls Send (list_after c n) + sweep_calls Rank (list_after c n) ≡ 4 * c.header.gates
rank_calls c n is w =
    omega (arith, rank_calls_by (list_after c n), list_two c n is, list_definitions c n is w)

-- A sweep calls the queue at most twice at a record, and writes at most two records for it.
calls_by : (edge told takes : Bool) → cond edge (cond told 1 0) (cond takes 2 0) ≤ 2
calls_by true true takes = omega arith
calls_by true false takes = omega arith
calls_by false told true = omega arith
calls_by false told false = omega arith

pub calls_few : (sweep : Sweep) (rs : List Record) → sweep_calls sweep rs ≤ 2 * length rs
calls_few sweep [] = omega arith
calls_few sweep (r ∷ rs) =
    omega (arith, calls_by (is_edge r) (is_told sweep r) (takes_notes sweep r), calls_few sweep rs)

written_two : (sweep : Sweep) (r : Record) → written_at sweep r ≤ 2
written_two Recall r = omega arith
written_two Find r = omega arith
written_two Send r = send_by (is_edge r) (leads_to_gate r)
  where
    send_by : (edge lead : Bool) → cond edge (cond lead 0 1) 0 ≤ 2
    send_by true true = omega arith
    send_by true false = omega arith
    send_by false lead = omega arith
written_two Rank r = rank_two (is_edge r) (is_gate r)
  where
    rank_two : (edge gate : Bool) → cond edge 0 (cond gate 2 0) ≤ 2
    rank_two true gate = omega arith
    rank_two false true = omega arith
    rank_two false false = omega arith

pub written_few : (sweep : Sweep) (rs : List Record) → sweep_written sweep rs ≤ 2 * length rs
written_few sweep [] = omega arith
written_few sweep (r ∷ rs) = omega (arith, written_two sweep r, written_few sweep rs)

-- A pass writes as many records as it reads,
pub recall_written : (rs : List Record) → sweep_written Recall rs ≡ 0
recall_written [] = refl
recall_written (r ∷ rs) = omega (arith, recall_written rs)

pub find_written : (rs : List Record) → sweep_written Find rs ≡ length rs
find_written [] = refl
find_written (r ∷ rs) = omega (arith, find_written rs)

-- and the edges between ranks are as many as the edges of the list.
among_written_by : (edge gate lead : Bool) (v : ℕ) (vs : List ℕ) (a b edges all : ℕ)
    → (edge ≡ true → gate ≡ false)
    → a + b + edges ≡ all + 2 * length vs
    → (cond edge (cond lead 0 1) 0 + a) + (cond edge 0 (cond gate 2 0) + b)
    + (cond (edge && lead) 1 0 + edges)
    ≡ (cond edge 1 0 + all) + 2 * length (cond gate (v ∷ vs) vs)
among_written_by true true lead v vs a b edges all f e = cc (f refl)
among_written_by true false true v vs a b edges all f e = omega (arith, e)
among_written_by true false false v vs a b edges all f e = omega (arith, e)
among_written_by false true lead v vs a b edges all f e = omega (arith, e)
among_written_by false false lead v vs a b edges all f e = omega (arith, e)

among_one : (b : Bool) (r : Record) (es : List Record)
    → length (cond b (r ∷ es) es) ≡ cond b 1 0 + length es
among_one true r es = omega arith
among_one false r es = omega arith

rank_written_by : (rs : List Record)
    → sweep_written Send rs + sweep_written Rank rs + gate_edges rs
    ≡ length (edges_among rs) + 2 * length (gates_in rs)
rank_written_by [] = refl
rank_written_by (r ∷ rs) =
    among_written_by (is_edge r) (is_gate r) (leads_to_gate r) r.a (gates_in rs)
    (sweep_written Send rs) (sweep_written Rank rs) (gate_edges rs) (length (edges_among rs))
    (no_gate r) (rank_written_by rs)
    ∙ ap (λ m. m + 2 * length (gates_in (r ∷ rs))) (sym (among_one (is_edge r) r (edges_among rs)))

pub rank_written : (c : Circuit) (n : ℕ) → IsCircuit c → Nowhere (IsTwice c)
    → sweep_written Send (list_after c n) + sweep_written Rank (list_after c n)
    ≡ edge_count c.header
rank_written c n is w =
    omega (
      arith,
      rank_written_by (list_after c n),
      list_two c n is,
      list_definitions c n is w,
      ap length (list_edges c n),
      graph_edges_count c is.lengths,
    )
