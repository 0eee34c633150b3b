-- The adjacency list of a circuit before its passes, and after each of them.
use Rattle.std.specs.Prelude.{ℕ, List, map, if◌then◌else◌}
use Rattle.em_record.specs.declared.record.Record.{Record}
use Rattle.aig_defs.specs.Circuit.{Circuit}
use Rattle.aig_defs.specs.Founded.{has, passed}
use Rattle.aig_defs.specs.Graph.{graph_edges, graph_gates, graph_sources}
use Rattle.aig_defs.specs.VariableRanks.{variable_rank}
use Rattle.aig_order.specs.Adjacent.{adjacency_of}
use Rattle.aig_order.specs.ByPass.{found}
use Rattle.aig_order.specs.Sweeps.{is_edge, with_rank}

-- the rank of a variable after n passes, or 0 if they didn't find it
abbrev pub known : Circuit → ℕ → ℕ → ℕ
known c n v = if has (passed c n) v then variable_rank c (found c n) v else 0

-- a record with the rank that its variable has now
abbrev pub renew : (ℕ → ℕ) → Record → Record
renew rank r = if is_edge r then r else with_rank r (rank r.a)

-- the list of a circuit before all passes, and after n of them
abbrev pub first_list : Circuit → List Record
first_list c = adjacency_of c.header (graph_sources c) (graph_gates c) (graph_edges c)

abbrev pub list_after : Circuit → ℕ → List Record
list_after c n = map (renew (known c n)) (first_list c)
