-- The lists of a circuit, from its graph to the edges between ranks.
use Rattle.std.proofs.Common.{inl, inr, ◌≡◌, ◌+◌, ◌*◌, ◌≤◌, ◌/◌, nat_lt, Bool, true, false, [], ◌∷◌, ◌++◌, ℕ, Some, None, sym, ap, ap₂, ◌∙◌, refl, subst, arith, length, map, Contains}
use Rattle.std.proofs.lemmas.Bool.{cases_Bool, ltb-true, ltb-false}
use Rattle.std.proofs.lemmas.List.{length-append, length-map}
use Rattle.em_record.specs.Order.{in_order}
use Rattle.em_space.specs.Rig.{RigState}
use Rattle.em_chain.specs.Chain.{chain_items}
use Rattle.aig_defs.specs.declared.circuit.Latch.{Latch}
use Rattle.aig_defs.specs.declared.fault.AigKind.TheVariants.{Cyclic}
use Rattle.aig_defs.specs.Circuit.{Circuit, currents, IsCircuit}
use Rattle.aig_defs.specs.Faults.{IsFaultOf, IsDefined}
use Rattle.aig_defs.specs.Founded.{has, passed, passes_of}
use Rattle.aig_defs.specs.Graph.{AllLack}
use Rattle.aig_defs.specs.Ranks.{first_gate_rank, ordered_edges}
use Rattle.aig_defs.proofs.Members.{contains_cases}
use Rattle.aig_defs.proofs.Passes.{passes_is}
use Rattle.aig_edges.specs.Graph.{IsGraphOf, edge_count}
use Rattle.aig_edges.specs.declared.graph.Graph.{Graph}
use Rattle.aig_order.specs.declared.standing.Sweep.TheVariants.{Send, Rank}
use Rattle.aig_order.specs.Adjacent.{adjacency_of}
use Rattle.aig_order.specs.ByPass.{found}
use Rattle.aig_order.specs.LeftGates.{left_if}
use Rattle.aig_order.specs.PassLists.{first_list, known, list_after}
use Rattle.aig_order.specs.Passes.{after_both, both_calls, both_written, ranks_of, restarted}
use Rattle.aig_order.specs.Sweeps.{at_constant, meet_all}
use Rattle.aig_order.proofs.ByPass.{found_has, found_in, found_unlike}
use Rattle.aig_order.proofs.Finding.{notes_by}
use Rattle.aig_order.proofs.Leftover.{none_left, some_left}
use Rattle.aig_order.proofs.ListBounds.{list_bits, list_low}
use Rattle.aig_order.proofs.OrderRanks.{ranks_lack}
use Rattle.aig_order.proofs.Orders.{AllFound, found_count, no_more}
use Rattle.aig_order.proofs.RankLists.{ranks_written}
use Rattle.aig_order.proofs.RankSweeps.{ranks_sent, ranks_taken}
use Rattle.aig_order.proofs.SweepCalls.{rank_calls, rank_written}
use Rattle.aig_order.proofs.Taking.{Wrote, ranked_note}
use Rattle.aig_order.proofs.Telling.{written_by}

-- The list of a circuit's graph is that of the circuit before its passes.
pub graph_list : {s : RigState} {g : Graph} (c : Circuit) → IsGraphOf s g c
    → adjacency_of g.header (chain_items s g.sources) (chain_items s g.gates) (chain_items s g.edges)
    ≡ first_list c
graph_list {s} {g} c i =
    ap (λ h. adjacency_of h (chain_items s g.sources) (chain_items s g.gates) (chain_items s g.edges))
    (sym i.header)
    ∙ ap (λ xs. adjacency_of c.header xs (chain_items s g.gates) (chain_items s g.edges)) i.sources
    ∙ ap₂ (adjacency_of c.header _) i.gates i.edges

-- what both sweeps leave and write for the edges between ranks
pub ranks_both : (c : Circuit) (n : ℕ) → IsCircuit c → IsDefined c
    → Wrote (after_both c.header Send Rank 0 (list_after c n)) []
    (written_by c.header Send (known c n) (list_after c n)
    ++ map (ranked_note (known c n)) (in_order (notes_by Send (known c n) 0 (list_after c n))))
ranks_both c n is d =
    let rs = list_after c n in
    let ws = written_by c.header Send (known c n) rs in
    let notes = in_order (notes_by Send (known c n) 0 rs) in
    subst (λ m. Wrote (meet_all c.header Rank (length rs) rs (restarted 0 m)) []
    (ws ++ map (ranked_note (known c n)) notes))
    (sym (ranks_sent c n 0 is d.twice d.undefined))
    (ranks_taken c n (length rs) (at_constant 0) ws is d.twice d.undefined)

-- All gates were found if as many were as there are,
pub count_found : (c : Circuit) (n : ℕ) → length c.gates ≤ length (found c n) → AllFound c n
count_found c n l g i = elim (cases_Bool (has (passed c n) (g.lhs / 2))) [
  | inl t ↦ t
  | inr f ↦
      (let most = no_more (g ∷ found c n) c.gates
      (λ there. (let h = found_has c n (g.lhs / 2) there in cc), found_unlike c n)
      (λ h j. elim (contains_cases g h (found c n) j) [
        | inl same ↦ subst (Contains c.gates) same i
        | inr k ↦ (found_in c n h k).is
      ]) in
      absurd (omega (arith, most, l)))
]

-- as the next rank tells.
abbrev pub rank_end : Circuit → ℕ
rank_end c = 1 + c.header.inputs + c.header.latches + c.header.gates

first_rank : (c : Circuit) → IsCircuit c
    → first_gate_rank c ≡ 1 + c.header.inputs + c.header.latches
first_rank c is =
    let latches = length-map c.latches (λ (d : Latch). d.current) in
    let given = length-append c.inputs (currents c.latches) in
    let first = is.lengths.inputs in
    let second = is.lengths.latches in
    omega (arith, latches, given, first, second)

pub all_by_next : (c : Circuit) (n next : ℕ) → IsCircuit c
    → next ≡ first_gate_rank c + length (found c n) → nat_lt next (rank_end c) ≡ false
    → AllFound c n
all_by_next c n next is e f =
    let most = ltb-false next (rank_end c) f in
    let gates = is.lengths.gates in
    count_found c n (omega (arith, e, most, first_rank c is, gates))

pub next_by_all : (c : Circuit) (n next : ℕ) → IsCircuit c → IsDefined c
    → next ≡ first_gate_rank c + length (found c n) → AllFound c n
    → nat_lt next (rank_end c) ≡ true → ⊥
next_by_all c n next is d e f t =
    let low = ltb-true next (rank_end c) t in
    let gates = is.lengths.gates in
    omega (arith, e, low, first_rank c is, found_count c n is d.twice f, gates)

-- If no gate is left after all passes, all were found, and the list wasn't looked at.
pub none_missing : (c : Circuit) (n next : ℕ) (b : Bool) → IsCircuit c → IsDefined c
    → next ≡ first_gate_rank c + length (found c n) → nat_lt next (rank_end c) ≡ b
    → left_if b (list_after c n) ≡ None → AllFound c n × (b ≡ false)
none_missing c n next false is d e f none = (all_by_next c n next is e f, refl)
none_missing c n next true is d e f none =
    absurd (next_by_all c n next is d e (none_left c n is d.twice d.undefined none) f)

-- If one is, the circuit has a cycle.
pub one_missing : (c : Circuit) (b : Bool) (v : ℕ) → IsCircuit c → IsDefined c
    → left_if b (list_after c (passes_of c)) ≡ Some v → IsFaultOf c Cyclic v
one_missing c false v is d e = cc
one_missing c true v is d e = (
  d.twice,
  d.undefined,
  some_left c (passes_of c) is d.twice d.undefined (passes_is c).still v e,
)

-- Then both sweeps write the edges between ranks,
pub ranks_are : (c : Circuit) (n : ℕ) → IsCircuit c → IsDefined c → AllFound c n
    → in_order (ranks_of c.header (list_after c n)) ≡ ordered_edges c (found c n)
ranks_are c n is d f =
    ap in_order (ranks_both c n is d).written
    ∙ ranks_written c n is d.twice d.undefined f (list_bits c n) (list_low c n is)

pub ranks_all_lack : (c : Circuit) (n : ℕ) → IsCircuit c → IsDefined c → AllFound c n
    → AllLack [] (ranks_of c.header (list_after c n))
ranks_all_lack c n is d f =
    ranks_lack c (found c n) (ranks_of c.header (list_after c n)) (ranks_are c n is d f)

-- as many as there are edges.
pub ranks_count : (c : Circuit) (n : ℕ) → IsCircuit c → IsDefined c
    → both_written Send Rank (list_after c n) ≡ edge_count c.header
ranks_count c n is d = rank_written c n is d.twice

pub ranks_calls : (c : Circuit) (n : ℕ) → IsCircuit c → IsDefined c
    → both_calls Send Rank (list_after c n) ≡ 4 * c.header.gates
ranks_calls c n is d = rank_calls c n is d.twice
