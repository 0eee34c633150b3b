-- Worked rows: the records of circuits, and the sizes of what was read of their texts.
use Rattle.std.proofs.Common.{◌≡◌, [], ◌∷◌, refl, map, None}
use Rattle.std.specs.Prelude.{codes}
use Rattle.aig_defs.specs.Chains.{defs_of, gates_of, uses_of}
use Rattle.aig_defs.specs.Begun.{text_size, circuit_size}
use Rattle.aig_defs.proofs.TextRows.{and_gate, and_gate_text, binary_adder, binary_adder_text, half_adder, half_adder_text, shift}

-- an input, an input, a gate
and_gate_defs : defs_of and_gate
    ≡ record { a = 1; b = 0; c = 0; d = 0 } ∷ record { a = 2; b = 0; c = 1; d = 0 }
    ∷ record { a = 3; b = 2; c = 0; d = 0 } ∷ []
and_gate_defs = refl

and_gate_gates : gates_of and_gate ≡ record { a = 3; b = 2; c = 4; d = 0 } ∷ []
and_gate_gates = refl

and_gate_uses : uses_of and_gate ≡ record { a = 6; b = 1; c = 0; d = 0 } ∷ []
and_gate_uses = refl

-- an input, two latches, and no gate
shift_defs : defs_of shift
    ≡ record { a = 1; b = 0; c = 0; d = 0 } ∷ record { a = 2; b = 1; c = 0; d = 0 }
    ∷ record { a = 3; b = 1; c = 1; d = 0 } ∷ []
shift_defs = refl

shift_gates : gates_of shift ≡ []
shift_gates = refl

shift_uses : uses_of shift
    ≡ record { a = 2; b = 0; c = 0; d = 0 } ∷ record { a = 4; b = 0; c = 1; d = 0 }
    ∷ record { a = 6; b = 1; c = 0; d = 0 } ∷ []
shift_uses = refl

-- the lines begin at bytes 14, 16, 18 and 20: an input, an input, an output, a gate
and_gate_sizes : map (λ given. text_size None given and_gate_text)
    (0 ∷ 14 ∷ 15 ∷ 16 ∷ 17 ∷ 19 ∷ 20 ∷ 21 ∷ 26 ∷ [])
    ≡ 0 ∷ 0 ∷ 1 ∷ 1 ∷ 2 ∷ 3 ∷ 3 ∷ 5 ∷ 5 ∷ []
and_gate_sizes = refl

and_gate_size : circuit_size and_gate.header ≡ 5
and_gate_size = refl

-- the header ends at byte 14, outputs begin at 14 and 17, gates at 19, 21 and 23
binary_adder_sizes : map (λ given. text_size None given binary_adder_text)
    (13 ∷ 14 ∷ 15 ∷ 18 ∷ 19 ∷ 20 ∷ 22 ∷ 24 ∷ [])
    ≡ 0 ∷ 2 ∷ 3 ∷ 4 ∷ 4 ∷ 6 ∷ 8 ∷ 10 ∷ []
binary_adder_sizes = refl

binary_adder_size : circuit_size binary_adder.header ≡ 10
binary_adder_size = refl

half_adder_size : circuit_size half_adder.header ≡ 10
half_adder_size = refl

half_adder_text_size : text_size None 45 half_adder_text ≡ 10
half_adder_text_size = refl

-- nothing counts after a fault: the second input is faulty, and the output isn't read
faulty_size : text_size None 100 (codes "aag 3 2 0 1 1\n2\n7\n6\n6 2 4\n") ≡ 2
faulty_size = refl

-- a line that would begin at the text's end isn't begun, however many bytes are said to be given
missing_input_size : text_size None 100 (codes "aag 1 1 0 0 0\n") ≡ 0
missing_input_size = refl

missing_gate_size : text_size None 100 (codes "aag 1 0 0 0 1\n") ≡ 0
missing_gate_size = refl

missing_deltas_size : text_size None 100 (codes "aig 1 0 0 0 1\n") ≡ 0
missing_deltas_size = refl
