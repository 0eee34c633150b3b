-- The graph of a circuit whose definitions count up and whose gates rise.
use Rattle.std.proofs.Common.{◌≡◌, ℕ, ◌+◌, ◌/◌, ◌<◌, ◌≤◌, List, [], ◌∷◌, ◌++◌, length, map, append_assoc, refl, sym, ap, subst, ◌∙◌, arith}
use Rattle.em_record.specs.declared.record.Record.{Record}
use Rattle.em_record.specs.Order.{in_order}
use Rattle.em_record.proofs.Commutes.{order_ascending}
use Rattle.em_space.specs.Rig.{RigState}
use Rattle.em_chain.specs.Chain.{chain_items}
use Rattle.aig_defs.specs.declared.circuit.Gate.{Gate}
use Rattle.aig_defs.specs.declared.circuit.Header.{Header}
use Rattle.aig_defs.specs.declared.circuit.Latch.{Latch}
use Rattle.aig_defs.specs.Chains.{defs_of, gate_def, gate_record, gates_of, input_def, latch_def, numbered}
use Rattle.aig_defs.specs.Circuit.{Circuit, IsCircuit}
use Rattle.aig_defs.specs.Graph.{graph_gates, graph_sources}
use Rattle.aig_defs.specs.Sorted.{AllAbove, Climbs}
use Rattle.aig_defs.specs.Straight.{AllAtRank, AllRise, AreStraight, CountsUp, IsStraightGraph}
use Rattle.aig_defs.proofs.Chains.{length_numbered}
use Rattle.aig_edges.specs.Graph.{IsGraphOf}
use Rattle.aig_edges.specs.declared.graph.Graph.{Graph}
use Rattle.aig_edges.proofs.Known.{climbs_ascend}

abbrev words : List Record → List ℕ
words rs = map (λ (r : Record). r.a) rs

-- parts of records that count up
counts_left : (n : ℕ) (xs ys : List Record) → CountsUp n (words (xs ++ ys)) → CountsUp n (words xs)
counts_left n [] ys h = tt
counts_left n (x ∷ xs) ys h = (h.0, counts_left (n + 1) xs ys h.1)

counts_right : (n : ℕ) (xs ys : List Record) → CountsUp n (words (xs ++ ys))
    → CountsUp (n + length xs) (words ys)
counts_right n [] ys h =
    let e : n ≡ n + 0 = omega arith in subst (λ (m : ℕ). CountsUp m (words ys)) e h
counts_right n (x ∷ xs) ys h =
    let e : n + 1 + length xs ≡ n + length (x ∷ xs) = omega arith in
    subst (λ (m : ℕ). CountsUp m (words ys)) e (counts_right (n + 1) xs ys h.1)

-- They climb.
counts_above : (n m : ℕ) (rs : List Record) → n ≤ m → CountsUp m (words rs) → AllAbove n rs
counts_above n m [] l h = tt
counts_above n m (r ∷ rs) l h =
    let here = h.0 in (omega (arith, l, here), counts_above n (m + 1) rs (omega (arith, l)) h.1)

counts_climb : (n : ℕ) (rs : List Record) → CountsUp n (words rs) → Climbs rs
counts_climb n [] h = tt
counts_climb n (r ∷ rs) h =
    let here = h.0 in
    (counts_above r.a (n + 1) rs (omega (arith, here)) h.1, counts_climb (n + 1) rs h.1)

in_place : (n : ℕ) (rs : List Record) → CountsUp n (words rs) → in_order rs ≡ rs
in_place n rs h = order_ascending rs (climbs_ascend rs (counts_climb n rs h))

-- Inputs and latches have their variables as ranks,
inputs_at : (h : Header) (j : ℕ) (ls : List ℕ) → CountsUp j (words (numbered input_def j ls))
    → AllAtRank h (numbered input_def j ls)
inputs_at h j [] k = tt
inputs_at h j (l ∷ ls) k =
    let own : l / 2 ≡ j + 1 = k.0 in
    let e : 1 + j ≡ l / 2 = omega (arith, own) in (e, inputs_at h (j + 1) ls k.1)

latches_at : (h : Header) (j : ℕ) (ls : List Latch)
    → CountsUp (h.inputs + j) (words (numbered latch_def j ls))
    → AllAtRank h (numbered latch_def j ls)
latches_at h j [] k = tt
latches_at h j (l ∷ ls) k =
    let own : l.current / 2 ≡ h.inputs + j + 1 = k.0 in
    let e : 1 + h.inputs + j ≡ l.current / 2 = omega (arith, own) in
    let next : h.inputs + j + 1 ≡ h.inputs + (j + 1) = omega arith in (
      e,
      latches_at h (j + 1) ls
          (subst (λ (m : ℕ). CountsUp m (words (numbered latch_def (j + 1) ls))) next k.1),
    )

at_both : (h : Header) (xs ys : List Record) → AllAtRank h xs → AllAtRank h ys
    → AllAtRank h (xs ++ ys)
at_both h [] ys a b = b
at_both h (x ∷ xs) ys a b = (a.0, at_both h xs ys a.1 b)

-- and gates follow.
gates_words : (j : ℕ) (gs : List Gate)
    → words (numbered gate_def j gs) ≡ words (numbered gate_record j gs)
gates_words j [] = refl
gates_words j (g ∷ gs) = ap (λ (vs : List ℕ). g.lhs / 2 ∷ vs) (gates_words (j + 1) gs)

pub straight_graph : (c : Circuit) → IsCircuit c → AreStraight (defs_of c) (gates_of c)
    → IsStraightGraph c.header (graph_sources c) (graph_gates c)
straight_graph c is s =
    let h = c.header in
    let ins = numbered input_def 0 c.inputs in
    let las = numbered latch_def 0 c.latches in
    let gas = numbered gate_def 0 c.gates in
    let a = length_numbered input_def 0 c.inputs in
    let b = length_numbered latch_def 0 c.latches in
    let inputs = is.lengths.inputs in
    let latches = is.lengths.latches in
    let rest = counts_right 0 ins (las ++ gas) s.counts in
    let first : 0 + length ins ≡ h.inputs + 0 = omega (arith, a, inputs) in
    let second : 0 + length ins + length las ≡ h.inputs + h.latches =
    omega (arith, a, inputs, b, latches) in
    let sources_at = at_both h ins las (inputs_at h 0 c.inputs (counts_left 0 ins (las ++ gas) s.counts))
    (latches_at h 0 c.latches (subst (λ (m : ℕ). CountsUp m (words las)) first
    (counts_left (0 + length ins) las gas rest))) in
    let gates_up : CountsUp (h.inputs + h.latches) (words (gates_of c)) =
    subst (λ (vs : List ℕ). CountsUp (h.inputs + h.latches) vs) (gates_words 0 c.gates)
    (subst (λ (m : ℕ). CountsUp m (words gas)) second
    (counts_right (0 + length ins) las gas rest)) in
    let sources_up = counts_left 0 (ins ++ las) gas
    (subst (λ (rs : List Record). CountsUp 0 (words rs)) (sym (append_assoc ins las gas)) s.counts) in
    let gates_same : graph_gates c ≡ gates_of c =
    in_place (h.inputs + h.latches) (gates_of c) gates_up in
    record {
      ranks = subst (AllAtRank h) (sym (in_place 0 (ins ++ las) sources_up)) sources_at;
      counts = subst (λ (rs : List Record). CountsUp (h.inputs + h.latches) (words rs))
          (sym gates_same) gates_up;
      rises = subst AllRise (sym gates_same) s.rises;
    }

-- The same of the chains of a graph.
pub graph_is_straight : {s : RigState} {g : Graph} {c : Circuit} → IsGraphOf s g c
    → IsStraightGraph c.header (graph_sources c) (graph_gates c)
    → IsStraightGraph g.header (chain_items s g.sources) (chain_items s g.gates)
graph_is_straight {s} {g} {c} i k =
    subst (λ (h : Header). IsStraightGraph h (chain_items s g.sources) (chain_items s g.gates)) i.header
    (subst (λ (rs : List Record). IsStraightGraph c.header rs (chain_items s g.gates)) (sym i.sources)
    (subst (λ (rs : List Record). IsStraightGraph c.header (graph_sources c) rs) (sym i.gates) k))
