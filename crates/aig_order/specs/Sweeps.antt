-- What a sweep over an adjacency list does at each record, with the items of the queue beside it and
-- with the list that it writes.
use Rattle.std.specs.Prelude.{ℕ, ◌+◌, ◌*◌, ◌-◌, ◌/◌, ◌%◌, ◌^◌, ◌==◌, nat_lt, min, Bool, true, false, ◌&&◌, not, List, [], ◌∷◌, ◌++◌, drop, get_or, Option, Some, None, option_to_list, if◌then◌else◌}
use Rattle.em_record.specs.declared.record.Record.{Record}
use Rattle.em_record.specs.Order.{with_record}
use Rattle.em_frames.specs.Device.{zero_record}
use Rattle.aig_defs.specs.declared.circuit.Header.{Header}
use Rattle.aig_order.specs.declared.standing.Standing.{Standing}
use Rattle.aig_order.specs.declared.standing.Sweep.{Sweep}
use Rattle.aig_order.specs.declared.standing.Sweep.TheVariants.{Recall, Find, Send, Rank}

-- a record is an edge, or a gate's definition
abbrev pub is_edge : Record → Bool
is_edge r = r.d == 0

abbrev pub is_gate : Record → Bool
is_gate r = not (r.d == 0) && not (r.d == 1)

-- an edge leads to a gate, and to a greater variable
abbrev pub leads_to_gate : Record → Bool
leads_to_gate e = nat_lt (e.b % 4) 2

abbrev pub rises : Record → Bool
rises e = nat_lt e.a (e.b / 4)

-- an edge has a note in a sweep
abbrev pub is_told : Sweep → Record → Bool
is_told Recall e = leads_to_gate e && not (rises e)
is_told Find e = leads_to_gate e && rises e
is_told Send e = leads_to_gate e
is_told Rank e = false

-- The note of an edge, which has this number, for the gate that it leads to: whether its source was
-- found; or its source's rank, its port and whether it is negated.
abbrev pub note : Sweep → Bool → ℕ → Record → ℕ → Record
note Recall found rank e n =
    record { a = e.b / 4; b = n; c = if found then 1 else 0; d = 0 }
note Find found rank e n = record { a = e.b / 4; b = n; c = if found then 1 else 0; d = 0 }
note Send found rank e n =
    record { a = e.b / 4; b = n; c = rank; d = 2 * (e.b % 4) + e.c % 2 }
note Rank found rank e n =
    record { a = e.b / 4; b = n; c = rank; d = 2 * (e.b % 4) + e.c % 2 }

-- before all definitions, at the constant, which is found
abbrev pub at_constant : ℕ → Standing
at_constant next = record { found = true; rank = 0; next = next }

-- at a definition with this rank
abbrev pub at_rank : ℕ → ℕ → Standing
at_rank rank next = record { found = not (rank == 0); rank = rank; next = next }

-- the rank of a gate after its two notes: its own, or the next one if both say that an operand was found
abbrev pub found_rank : ℕ → Record → Record → Record → ℕ
found_rank next gate first second =
    if gate.c == 0 then (if first.c == 1 && second.c == 1 then next else 0) else gate.c

-- after a gate that has this rank now
abbrev pub past_gate : Standing → Record → ℕ → Standing
past_gate p gate rank = at_rank rank
    (if gate.c == 0 && not (rank == 0) then min (p.next + 1) (2 ^ 64 - 1) else p.next)

-- a definition with a rank
abbrev pub with_rank : Record → ℕ → Record
with_rank r rank = record { a = r.a; b = r.b; c = rank; d = r.d }

-- The edge between ranks of a note that a gate of this rank took. Over a device that doesn't tell the
-- words may be any.
abbrev pub operand_edge : Record → ℕ → Record
operand_edge m rank =
    record { a = m.c; b = min (2 * rank + m.d / 2) (2 ^ 64 - 1); c = m.d % 2; d = 0 }

-- the rank of a latch's next value or of a column that an edge leads to, by its place
abbrev pub end_rank : Header → Record → ℕ
end_rank h e =
    if e.b % 4 == 2 then 1 + h.inputs + h.latches + h.gates + (e.b / 4 - 2 ^ 41)
    else 1 + h.inputs + 2 * h.latches + h.gates + (e.b / 4 - 2 ^ 42)

-- the edge between ranks of such an edge, from this rank
abbrev pub end_edge : Header → ℕ → Record → Record
end_edge h rank e = record { a = rank; b = 2 * end_rank h e; c = e.c; d = 0 }

-- what a sweep writes for an edge
abbrev pub written_edge : Header → Sweep → ℕ → Record → Option Record
written_edge h Recall rank e = None
written_edge h Find rank e = Some e
written_edge h Send rank e = if leads_to_gate e then None else Some (end_edge h rank e)
written_edge h Rank rank e = None

-- gates take their notes in a sweep
abbrev pub receives : Sweep → Bool
receives Recall = false
receives Find = true
receives Send = false
receives Rank = true

-- a gate's definition takes its notes in a sweep
abbrev pub takes_notes : Sweep → Record → Bool
takes_notes sweep r = receives sweep && is_gate r

-- The items of the queue, the definition that came last, and what was written.
pub record Moment : Type 0 where
  pub items : List Record
  pub standing : Standing
  pub written : List Record

-- at an edge, which has this number
abbrev pub meet_edge : Header → Sweep → ℕ → Record → Moment → Moment
meet_edge h sweep n e m = record {
  items = if is_told sweep e
      then with_record (note sweep m.standing.found m.standing.rank e n) m.items else m.items;
  standing = m.standing;
  written = m.written ++ option_to_list (written_edge h sweep m.standing.rank e);
}

-- at a gate that takes its notes; a record of zeros stands for one that is missing
abbrev pub meet_gate : Sweep → Record → Record → Record → Moment → Moment
meet_gate Find gate first second m = record {
  items = drop 2 m.items;
  standing = past_gate m.standing gate (found_rank m.standing.next gate first second);
  written = m.written ++ with_rank gate (found_rank m.standing.next gate first second) ∷ [];
}
meet_gate sweep gate first second m = record {
  items = drop 2 m.items;
  standing = at_rank gate.c m.standing.next;
  written = m.written ++ operand_edge first gate.c ∷ operand_edge second gate.c ∷ [];
}

-- what is written for another definition
abbrev pub written_definition : Sweep → Record → List Record
written_definition Find r = r ∷ []
written_definition sweep r = []

-- at another definition
abbrev pub meet_definition : Sweep → Record → Moment → Moment
meet_definition sweep r m = record {
  items = m.items;
  standing = at_rank r.c m.standing.next;
  written = m.written ++ written_definition sweep r;
}

-- at a record, which has this number
abbrev pub meet : Header → Sweep → ℕ → Record → Moment → Moment
meet h sweep n r m =
    if is_edge r then meet_edge h sweep n r m
    else if takes_notes sweep r
    then meet_gate sweep r (get_or m.items 0 zero_record) (get_or m.items 1 zero_record) m
    else meet_definition sweep r m

-- at some records, of which the first has this number
abbrev pub meet_all : Header → Sweep → ℕ → List Record → Moment → Moment
meet_all h sweep n [] m = m
meet_all h sweep n (r ∷ rs) m = meet_all h sweep (n + 1) rs (meet h sweep n r m)
