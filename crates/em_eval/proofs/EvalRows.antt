-- Worked evaluations: what is due of them, and their size.
use Rattle.std.specs.Prelude.{◌≡◌, ℕ, List, [], ◌∷◌, ◌++◌, Bool, true, false, codes, map, refl, Option, None, Some}
use Rattle.em_io.specs.Shelf.{SlotState}
use Rattle.aig_defs.specs.declared.fault.AigKind.TheVariants.{BadDelta, BadReset, BadSymbol, Cyclic, Extension, Fairness, Justice, Latched, LiteralRange, Short, StimLength, Twice, Undefined, Uninit}
use Rattle.em_eval.specs.EvalDue.{eval_output, eval_status}
use Rattle.em_eval.specs.EvalSize.{circuit_read, eval_cost, passes_read, rounds_of, steps_read}
use Rattle.em_ends.specs.declared.status.Malform.TheVariants.{Aig}
use Rattle.em_ends.specs.declared.status.Status.{Status}
use Rattle.em_ends.specs.declared.status.Status.TheVariants.{Done, Malformed}

-- the conjunction of two inputs
abbrev conjunction : List ℕ
conjunction = codes "aag 3 2 0 1 1\n2\n4\n6\n6 2 4\n"

-- a latch of which the next bit is its negation
abbrev toggle : List ℕ
toggle = codes "aag 1 0 1 2 0\n2 3\n2\n3\n"

-- the same as the conjunction by two gates, of which the greater one comes first
abbrev late_line : List ℕ
late_line = codes "aag 4 2 0 1 2\n2\n4\n8\n8 6 2\n6 2 4\n"

-- the same input, by a gate that uses a gate of a greater variable
abbrev greater : List ℕ
greater = codes "aag 3 1 0 1 2\n2\n4\n4 2 6\n6 2 2\n"

-- the half adder of the format's report, whose first gate uses the two others, which have greater
-- variables
abbrev report_adder : List ℕ
report_adder = codes "aag 7 2 0 2 3\n2\n4\n6\n12\n6 13 15\n12 2 4\n14 3 5\n"
    ++ codes "i0 x\ni1 y\no0 s\no1 c\nc\nhalf adder\n"

-- a cycle of two gates, and a gate that uses one of them
abbrev cycle : List ℕ
cycle = codes "aag 4 1 0 1 3\n2\n4\n4 2 6\n6 2 8\n8 2 6\n"

-- a cycle of two gates, and a gate that doesn't depend on it
abbrev cycle_beside : List ℕ
cycle_beside = codes "aag 4 1 0 1 3\n2\n4\n4 2 2\n6 2 8\n8 2 6\n"

-- a latch beside a gate that uses what isn't defined, beside a variable of two gates, and beside a cycle
abbrev latched_undefined : List ℕ
latched_undefined = codes "aag 5 0 1 1 1\n2 3\n6\n6 2 10\n"

abbrev latched_twice : List ℕ
latched_twice = codes "aag 5 0 1 1 2\n2 3\n6\n6 2 2\n6 2 3\n"

abbrev latched_cycle : List ℕ
latched_cycle = codes "aag 3 0 1 1 2\n2 3\n4\n4 2 6\n6 2 4\n"

-- a latch with a greater variable than the gate that reads it, which is 1 after the first 1 of the
-- input
abbrev above : List ℕ
above = codes "aag 3 1 1 1 1\n2\n6 5\n6\n4 3 7\n"

-- the conjunction in the binary form: inputs without a line, and a gate as two deltas of 2
abbrev binary_conjunction : List ℕ
binary_conjunction = codes "aig 3 2 0 1 1\n6\n" ++ 2 ∷ 2 ∷ []

-- the half adder of the format's report, in the binary form, with symbols and a comment
abbrev half_adder : List ℕ
half_adder = codes "aig 5 2 0 2 3\n10\n6\n" ++ 2 ∷ 2 ∷ 3 ∷ 2 ∷ 1 ∷ 2 ∷ []
    ++ codes "i0 x\ni1 y\no0 s\no1 c\nc\nhalf adder\n"

-- circuit and stimulus, and the status and the output that are due
abbrev Row : Type 0
Row = (List ℕ × List ℕ) × (Status × List ℕ)

-- one step after another or many at once, with this value for uninitialised latches, if one is given
abbrev HoldFor : Bool → Option ℕ → List Row → Type 0
HoldFor wide start rows = map
    (λ (row : Row). (eval_status wide start row.0.0 row.0.1, eval_output wide start row.0.0 row.0.1)) rows
    ≡ map (λ (row : Row). row.1) rows

-- circuits without latches, or with another fault
abbrev without_latches : List Row
without_latches =
    ((conjunction, codes "00\n01\n10\n11\n"), (Done, codes "0\n0\n0\n1\n"))
    ∷ ((conjunction, codes "11\n0\n"), (Malformed (Aig StimLength) 4, codes "1\n"))
    ∷ ((conjunction, []), (Done, []))
    ∷ ((codes "aag 3 2 0 1 1 0\n", codes "00\n"), (Malformed (Aig Short) 16, []))
    ∷ ((codes "aag 1 0 1 1 0\n2 3 2\n2\n", codes "\n\n\n"), (Malformed (Aig Uninit) 18, []))
    ∷ ((codes "aag 1 1 0 1 0 1 1\n2\n2\n3\n2\n", codes "0\n1\n"), (Done, codes "010\n101\n"))
    ∷ ((codes "aag 1 0 1 1 0\n2 3 5\n2\n", codes "\n"), (Malformed (Aig BadReset) 18, []))
    ∷ ((codes "aag 0 0 0 0 0 0 0 1\n", codes "\n"), (Malformed (Aig Justice) 18, []))
    ∷ ((codes "aag 0 0 0 0 0 0 0 0 1\n", codes "\n"), (Malformed (Aig Fairness) 20, []))
    ∷ ((codes "aag 3 2 0 1 1 0 0 0 0 0\n", codes "00\n"), (Malformed (Aig Extension) 21, []))
    ∷ ((codes "aag 3 2 0 1 1\n2\n4\n9\n6 2 4\n", []), (Malformed (Aig LiteralRange) 18, []))
    ∷ ((late_line, codes "00\n01\n10\n11\n"), (Done, codes "0\n0\n0\n1\n"))
    ∷ ((greater, codes "1\n0\n"), (Done, codes "1\n0\n"))
    ∷ ((report_adder, codes "00\n01\n10\n11\n"), (Done, codes "00\n10\n10\n01\n"))
    ∷ ((binary_conjunction, codes "00\n01\n10\n11\n"), (Done, codes "0\n0\n0\n1\n"))
    ∷ ((half_adder, codes "00\n01\n10\n11\n"), (Done, codes "00\n10\n10\n01\n"))
    ∷ ((conjunction ++ codes "i2 x\n", []), (Malformed (Aig BadSymbol) 27, []))
    ∷ (
      (codes "aig 3 2 0 1 1\n6\n" ++ 0 ∷ 2 ∷ [], codes "00\n"),
      (Malformed (Aig BadDelta) 16, []),
    )
    ∷ (
      (codes "aig 3 2 0 1 1\n6\n" ++ 130 ∷ 0 ∷ 2 ∷ [], codes "11\n"),
      (Done, codes "1\n"),
    )
    ∷ ((codes "aag 5 1 0 1 1\n2\n6\n6 2 10\n", codes "0\n"), (Malformed (Aig Undefined) 5, []))
    ∷ ((codes "aag 5 1 0 1 2\n2\n6\n6 2 10\n6 2 2\n", []), (Malformed (Aig Twice) 3, []))
    ∷ ((cycle, codes "0\n"), (Malformed (Aig Cyclic) 2, []))
    ∷ ((cycle_beside, codes "0\n"), (Malformed (Aig Cyclic) 3, []))
    ∷ ((latched_undefined, []), (Malformed (Aig Undefined) 5, []))
    ∷ ((latched_twice, []), (Malformed (Aig Twice) 3, []))
    ∷ ((latched_cycle, []), (Malformed (Aig Cyclic) 2, []))
    ∷ []

evaluations : HoldFor false None without_latches
evaluations = refl

-- Many steps at once give the same.
wide_evaluations : HoldFor true None without_latches
wide_evaluations = refl

evaluations_with_latches : HoldFor false None (
    ((toggle, codes "\n\n\n"), (Done, codes "01\n10\n01\n"))
    ∷ ((codes "aag 1 0 1 1 0\n2 3 1\n2\n", codes "\n\n\n"), (Done, codes "1\n0\n1\n"))
    ∷ ((above, codes "0\n1\n0\n0\n"), (Done, codes "0\n0\n1\n1\n"))
    ∷ [])
evaluations_with_latches = refl

-- With latches many steps at once are refused, whatever the stimulus is.
latched_evaluations : HoldFor true None (
    ((toggle, codes "\n\n\n"), (Malformed (Aig Latched) 0, []))
    ∷ ((toggle, []), (Malformed (Aig Latched) 0, []))
    ∷ ((toggle, codes "x"), (Malformed (Aig Latched) 0, []))
    ∷ ((above, codes "0\n"), (Malformed (Aig Latched) 0, []))
    ∷ ((codes "aig 1 0 1 1 0\n3\n2\n", codes "\n"), (Malformed (Aig Latched) 0, []))
    ∷ [])
latched_evaluations = refl

-- a latch whose reset is its own literal
evaluations_from_0 : HoldFor false (Some 0)
    (((codes "aag 1 0 1 1 0\n2 3 2\n2\n", codes "\n\n\n"), (Done, codes "0\n1\n0\n")) ∷ [])
evaluations_from_0 = refl

evaluations_from_1 : HoldFor false (Some 1)
    (((codes "aag 1 0 1 1 0\n2 3 2\n2\n", codes "\n\n\n"), (Done, codes "1\n0\n1\n")) ∷ [])
evaluations_from_1 = refl

-- many steps at once: its start is known, and it has latches
latched_evaluations_from_0 : HoldFor true (Some 0)
    (((codes "aag 1 0 1 1 0\n2 3 2\n2\n", codes "\n\n\n"), (Malformed (Aig Latched) 0, [])) ∷ [])
latched_evaluations_from_0 = refl

-- a slot that was opened, with so much left
abbrev slot_with : List ℕ → SlotState
slot_with left = record { opened = true; ready = true; lost = false; left = left }

-- two inputs, an output and a gate; one pass
size_of_conjunction : circuit_read None (slot_with []) conjunction ≡ 5
size_of_conjunction = refl

passes_of_conjunction : passes_read None conjunction ≡ 1
passes_of_conjunction = refl

-- Two passes find the gates if one uses a gate of a greater variable. If there is a cycle, those count
-- that found a gate, and if a variable is used and not defined, none.
passes_of_rows : map (passes_read None) (greater ∷ report_adder ∷ late_line ∷ cycle ∷ cycle_beside
    ∷ codes "aag 5 1 0 1 1\n2\n6\n6 2 10\n" ∷ []) ≡ 2 ∷ 2 ∷ 1 ∷ 0 ∷ 1 ∷ 0 ∷ []
passes_of_rows = refl

-- The report's half adder has two inputs, two outputs and three gates. At the default shape four steps
-- and two passes cost 8 times 4096 moves at most.
size_of_report_adder : circuit_read None (slot_with []) report_adder ≡ 10
size_of_report_adder = refl

cost_of_report_adder : eval_cost (record { block = 1024; frames = 256 }) 10 4 2 ≡ 32768
cost_of_report_adder = refl

-- At 128 records and 64 frames a circuit of size 100 has 200 calls between two moments at which a queue is
-- empty: they fill two blocks, on one level, and cost 3 times 4096 moves, here 8 times.
cost_of_two_blocks : eval_cost (record { block = 128; frames = 64 }) 100 4 2 ≡ 98304
cost_of_two_blocks = refl

-- Each group of up to 64 steps has two rounds.
rounds_of_many : map (rounds_of true) (0 ∷ 1 ∷ 64 ∷ 65 ∷ 128 ∷ 130 ∷ []) ≡ 0 ∷ 2 ∷ 2 ∷ 4 ∷ 4 ∷ 6 ∷ []
rounds_of_many = refl

-- So 130 steps of the conjunction, with its pass, cost 9 times 4096 moves if many are taken at once, and else 133 times.
costs_of_130_steps : map (λ wide. eval_cost (record { block = 1024; frames = 256 }) 5 (rounds_of wide 130) 1)
    (true ∷ false ∷ []) ≡ 36864 ∷ 544768 ∷ []
costs_of_130_steps = refl

-- the header's line and the first byte of the next one were given: one input
size_of_a_front : circuit_read None (slot_with (codes "\n4\n6\n6 2 4\n")) conjunction ≡ 1
size_of_a_front = refl

-- In the binary form inputs count once the header was read, also if the text ends there or breaks
-- after it; a gate is begun once the first byte of its deltas was given.
sizes_of_binary_fronts : map (λ (text : List ℕ). circuit_read None (slot_with []) text)
    (codes "aig 3 2 0 1" ∷ codes "aig 3 2 0 1 2\n6" ∷ codes "aig 3 2 0 1 1" ∷ codes "aig 3 2 0 1 1\n"
    ∷ codes "aig 3 2 0 1 1\nx" ∷ codes "aig 3 2 0 1 1\n6\n"
    ∷ (codes "aig 3 2 0 1 1\n6\n" ++ 0 ∷ []) ∷ binary_conjunction ∷ [])
    ≡ 0 ∷ 0 ∷ 2 ∷ 2 ∷ 3 ∷ 3 ∷ 5 ∷ 5 ∷ []
sizes_of_binary_fronts = refl

-- the header's line without its end was given, then its end too
size_of_a_binary_front : map (λ left. circuit_read None (slot_with left) binary_conjunction)
    ((codes "\n6\n" ++ 2 ∷ 2 ∷ []) ∷ (codes "6\n" ++ 2 ∷ 2 ∷ []) ∷ []) ≡ 0 ∷ 2 ∷ []
size_of_a_binary_front = refl

-- a line is begun once its first byte was given, and the faulty one counts
steps_of_a_front : map (λ left. steps_read None conjunction (slot_with left) (codes "11\n0\n"))
    (codes "11\n0\n" ∷ codes "1\n0\n" ∷ codes "0\n" ∷ codes "\n" ∷ [] ∷ []) ≡ 0 ∷ 1 ∷ 1 ∷ 2 ∷ 2 ∷ []
steps_of_a_front = refl
