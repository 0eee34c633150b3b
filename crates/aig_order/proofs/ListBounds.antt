-- The words of an adjacency list are low: a word c of an edge is 0 or 1, and ranks are at most M.
use Rattle.std.proofs.Common.{inl, inr, ◌≡◌, ◌+◌, ◌^◌, ◌<◌, ◌≤◌, ◌/◌, ◌%◌, Bool, true, false, cond, eqb, List, [], ◌∷◌, ◌++◌, ℕ, sym, ap, ◌∙◌, subst, arith, length, flat_map, Contains}
use Rattle.std.proofs.lemmas.List.{length-append, length-map}
use Rattle.em_record.specs.declared.record.Record.{Record}
use Rattle.aig_defs.specs.declared.circuit.Gate.{Gate}
use Rattle.aig_defs.specs.declared.circuit.Latch.{Latch}
use Rattle.aig_defs.specs.Chains.{numbered}
use Rattle.aig_defs.specs.Circuit.{Circuit, currents, left_sides, IsCircuit}
use Rattle.aig_defs.specs.Founded.{has, passed}
use Rattle.aig_defs.specs.Graph.{graph_edge, operand_edges, next_edge, output_edge, edges_in_text, graph_edges}
use Rattle.aig_defs.specs.Ranks.{given_literals, ranked, index}
use Rattle.aig_defs.proofs.Members.{contains_first, contains_rest, contains_cases, contains_none, contains_either}
use Rattle.aig_defs.proofs.Unlike.{from_order}
use Rattle.aig_order.specs.ByPass.{found}
use Rattle.aig_order.specs.PassLists.{known, list_after}
use Rattle.aig_order.specs.Sweeps.{is_edge}
use Rattle.aig_order.proofs.ByPass.{found_in, found_unlike}
use Rattle.aig_order.proofs.Orders.{no_more}
use Rattle.aig_order.proofs.PassLists.{next_after}
use Rattle.aig_order.proofs.RankLists.{edges_among, list_edges, AllBits, AllLow}

-- an edge of a list is one of its edges
rest_among : (b : Bool) (x e : Record) (es : List Record) → Contains es e
    → Contains (cond b (x ∷ es) es) e
rest_among true x e es i = contains_rest x e es i
rest_among false x e es i = i

among : (rs : List Record) (e : Record) → Contains rs e → is_edge e ≡ true
    → Contains (edges_among rs) e
among [] e i t = absurd (contains_none e i)
among (x ∷ rs) e i t = elim (contains_cases x e rs i) [
  | inl same ↦
      subst (λ b. Contains (cond b (x ∷ edges_among rs) (edges_among rs)) e)
      (sym (ap is_edge same ∙ t)) (contains_first x e (edges_among rs) same)
  | inr j ↦ rest_among (is_edge x) x e (edges_among rs) (among rs e j t)
]

-- a word c of an edge of the graph is the last bit of a literal
bit_of : (l : ℕ) (e : Record) → l % 2 ≡ e.c → e.c < 2
bit_of l e s = omega (arith, s)

operand_bits : (gs : List Gate) (e : Record) → Contains (flat_map operand_edges gs) e → e.c < 2
operand_bits [] e i = absurd (contains_none e i)
operand_bits (g ∷ gs) e i =
    let second = graph_edge g.rhs1 (g.lhs / 2) 1 in
    elim (contains_cases (graph_edge g.rhs0 (g.lhs / 2) 0) e (second ∷ flat_map operand_edges gs) i) [
      | inl same ↦ bit_of g.rhs0 e (ap (λ (x : Record). x.c) same)
      | inr j ↦ elim (contains_cases second e (flat_map operand_edges gs) j) [
        | inl same ↦ bit_of g.rhs1 e (ap (λ (x : Record). x.c) same)
        | inr k ↦ operand_bits gs e k
      ]
    ]

next_bits : (j : ℕ) (ls : List Latch) (e : Record) → Contains (numbered next_edge j ls) e → e.c < 2
next_bits j [] e i = absurd (contains_none e i)
next_bits j (l ∷ ls) e i =
    elim (contains_cases (next_edge j l) e (numbered next_edge (j + 1) ls) i) [
      | inl same ↦ bit_of l.next e (ap (λ (x : Record). x.c) same)
      | inr k ↦ next_bits (j + 1) ls e k
    ]

output_bits : (j : ℕ) (ls : List ℕ) (e : Record) → Contains (numbered output_edge j ls) e → e.c < 2
output_bits j [] e i = absurd (contains_none e i)
output_bits j (l ∷ ls) e i =
    elim (contains_cases (output_edge j l) e (numbered output_edge (j + 1) ls) i) [
      | inl same ↦ bit_of l e (ap (λ (x : Record). x.c) same)
      | inr k ↦ output_bits (j + 1) ls e k
    ]

graph_bits : (c : Circuit) (e : Record) → Contains (graph_edges c) e → e.c < 2
graph_bits c e i =
    let gs = flat_map operand_edges c.gates in
    let ns = numbered next_edge 0 c.latches in
    let os = numbered output_edge 0 c.columns in
    elim (contains_either gs (ns ++ os) e (from_order e (edges_in_text c) i)) [
      | inl a ↦ operand_bits c.gates e a
      | inr b ↦ elim (contains_either ns os e b) [
        | inl x ↦ next_bits 0 c.latches e x
        | inr y ↦ output_bits 0 c.columns e y
      ]
    ]

pub list_bits : (c : Circuit) (n : ℕ) → AllBits (list_after c n)
list_bits c n e i t =
    graph_bits c e (subst (λ es. Contains es e) (list_edges c n) (among (list_after c n) e i t))

-- a place among literals is at most how many they are
place_with : (b : Bool) (m n : ℕ) → m ≤ n → cond b 0 (m + 1) ≤ 1 + n
place_with true m n l = omega arith
place_with false m n l = omega (arith, l)

place_low : (v : ℕ) (ls : List ℕ) → index v ls ≤ length ls
place_low v [] = omega arith
place_low v (l ∷ ls) =
    let here = place_with (eqb (l / 2) v) (index v ls) (length ls) (place_low v ls) in
    omega (arith, here)

-- After n passes the next rank is at most M + 1,
pub next_low : (c : Circuit) (n : ℕ) → IsCircuit c → next_after c n ≤ c.header.max + 1
next_low c n is =
    let few = no_more (found c n) c.gates (found_unlike c n) (λ g i. (found_in c n g i).is) in
    let latches = length-map c.latches (λ (d : Latch). d.current) in
    let given = length-append c.inputs (currents c.latches) in
    let enough = is.header.enough in
    let first = is.lengths.inputs in
    let second = is.lengths.latches in
    let third = is.lengths.gates in
    omega (arith, few, latches, given, enough, first, second, third)

-- so that it is low,
pub next_few : (c : Circuit) (n : ℕ) → IsCircuit c → next_after c n < 2 ^ 62
next_few c n is =
    let low = next_low c n is in
    let most = is.header.max in
    omega (arith, low, most)

-- and so are all ranks.
known_by : (b : Bool) (m n : ℕ) → m ≤ n → cond b m 0 ≤ n
known_by true m n l = l
known_by false m n l = omega arith

pub list_low : (c : Circuit) (n : ℕ) → IsCircuit c → AllLow (known c n)
list_low c n is v =
    let all = ranked c (found c n) in
    let place = known_by (has (passed c n) v) (index v all) (length all) (place_low v all) in
    let own = length-append (given_literals c) (left_sides (found c n)) in
    let gates = length-map (found c n) (λ (g : Gate). g.lhs) in
    let few = next_few c n is in
    omega (arith, place, own, gates, few)
