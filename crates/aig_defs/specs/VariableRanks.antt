-- The ranks of variables if the gates have an order, and the edges between ranks by the graph's.
use Rattle.std.specs.Prelude.{ℕ, ◌+◌, ◌-◌, ◌*◌, ◌^◌, ◌/◌, ◌%◌, ◌==◌, nat_lt, List, length, filter, find, min, unwrap_or, option_map, if◌then◌else◌}
use Rattle.em_record.specs.declared.record.Record.{Record}
use Rattle.aig_defs.specs.declared.circuit.Header.{Header}
use Rattle.aig_defs.specs.declared.circuit.Gate.{Gate}
use Rattle.aig_defs.specs.Circuit.{Circuit}
use Rattle.aig_defs.specs.Ranks.{ranked, index}

-- the rank of a variable that is defined, if the gates have this order
abbrev pub variable_rank : Circuit → List Gate → ℕ → ℕ
variable_rank c order v = index v (ranked c order)

-- the rank of what an edge of a graph leads to, by its class and the number it leads to; `rank` gives
-- that of each variable
abbrev pub target_rank : (ℕ → ℕ) → Header → ℕ → ℕ → ℕ
target_rank rank h class t =
    if class == 2 then 1 + h.inputs + h.latches + h.gates + (t - 2 ^ 41)
    else if class == 3 then 1 + h.inputs + 2 * h.latches + h.gates + (t - 2 ^ 42)
    else rank t

-- the edge between ranks of an edge of a graph
abbrev pub ranked_edge : (ℕ → ℕ) → Header → Record → Record
ranked_edge rank h e = record {
  a = rank e.a;
  b = 2 * target_rank rank h (e.b % 4) (e.b / 4) + (if e.b % 4 == 1 then 1 else 0);
  c = e.c;
  d = 0;
}

-- the rank of an input or a latch, by its record in the graph
abbrev pub source_rank : Header → Record → ℕ
source_rank h r = if r.b == 0 then 1 + r.c else 1 + h.inputs + r.c

-- the same in words: a position above M counts as M, so that ranks fit over any device
abbrev pub word_source_rank : Header → Record → ℕ
word_source_rank h r =
    if r.b == 0 then 1 + min r.c h.max else 1 + h.inputs + min r.c h.max

-- the rank of a variable by the sources and the gates of a graph: a gate has as many gates before it
-- as have lesser variables
abbrev pub listed_rank : Header → List Record → List Record → ℕ → ℕ
listed_rank h sources gates v =
    if v == 0 then 0
    else unwrap_or (option_map (source_rank h) (find (λ r. r.a == v) sources))
    (1 + h.inputs + h.latches + length (filter (λ r. nat_lt r.a v) gates))
