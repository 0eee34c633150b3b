-- Worked rows: texts, and the circuits that they spell or the faults with which they break. All
-- were worked out by hand.
use Rattle.std.proofs.Common.{◌≡◌, ◌^◌, ◌-◌, false, None, [], ◌∷◌, ◌++◌, ℕ, List, refl, map, take}
use Rattle.std.specs.Prelude.{codes, replicate}
use Rattle.std.specs.List.{range_with_len}
use Rattle.aig_defs.specs.declared.fault.AigKind.TheVariants.{BadMagic, BadNumber, TooLarge, BadSeparator, BadCounts, LiteralRange, OddDefinition, BadDelta, Short, BadSymbol, Extra, TooLong}
use Rattle.aig_defs.specs.declared.form.Form.TheVariants.{Ascii, Binary}
use Rattle.aig_defs.specs.declared.form.Limit.TheVariants.{Count, Used}
use Rattle.aig_defs.specs.Circuit.{Circuit}
use Rattle.aig_defs.specs.Items.{Reads, Fails, space, line_end, number, delta}
use Rattle.aig_defs.specs.Order.{literal_line, circuit_text, Spells, Breaks}
use Rattle.aig_defs.specs.Tail.{name, comment, tail}

-- an and-gate of two inputs
abbrev pub and_gate : Circuit
and_gate = record {
  header = record { max = 3; inputs = 2; latches = 0; outputs = 1; gates = 1; bads = 0; constraints = 0 };
  inputs = 2 ∷ 4 ∷ [];
  latches = [];
  columns = 6 ∷ [];
  gates = record { lhs = 6; rhs0 = 2; rhs1 = 4 } ∷ [];
}

abbrev pub and_gate_text : List ℕ
and_gate_text = codes "aag 3 2 0 1 1\n2\n4\n6\n6 2 4\n"

and_gate_spelled : Spells None (Ascii None) and_gate_text and_gate
and_gate_spelled = record { reads = refl }

-- the last line may lack its newline
last_newline : Spells None (Ascii None) (take 25 and_gate_text) and_gate
last_newline = record { reads = refl }

-- each shorter piece at the front is Short, but for less than a magic
fronts_short : map (λ k. circuit_text None 0 (take k and_gate_text)) (range_with_len 3 22)
    ≡ map (λ k. Fails Short k) (range_with_len 3 22)
fronts_short = refl

fronts_magic : map (λ k. circuit_text None 0 (take k and_gate_text)) (range_with_len 0 3)
    ≡ Fails BadMagic 0 ∷ Fails BadMagic 0 ∷ Fails BadMagic 0 ∷ []
fronts_magic = refl

-- a latch that changes in each step, and its negation
abbrev pub toggle : Circuit
toggle = record {
  header = record { max = 1; inputs = 0; latches = 1; outputs = 2; gates = 0; bads = 0; constraints = 0 };
  inputs = [];
  latches = record { current = 2; next = 3; reset = false } ∷ [];
  columns = 2 ∷ 3 ∷ [];
  gates = [];
}

toggle_spelled : Spells None (Ascii None) (codes "aag 1 0 1 2 0\n2 3\n2\n3\n") toggle
toggle_spelled = record { reads = refl }

-- the half adder of the AIGER report: its first gate has operands of greater variables
abbrev pub half_adder : Circuit
half_adder = record {
  header = record { max = 7; inputs = 2; latches = 0; outputs = 2; gates = 3; bads = 0; constraints = 0 };
  inputs = 2 ∷ 4 ∷ [];
  latches = [];
  columns = 6 ∷ 12 ∷ [];
  gates = record { lhs = 6; rhs0 = 13; rhs1 = 15 } ∷ record { lhs = 12; rhs0 = 2; rhs1 = 4 }
      ∷ record { lhs = 14; rhs0 = 3; rhs1 = 5 } ∷ [];
}

abbrev pub half_adder_text : List ℕ
half_adder_text = codes "aag 7 2 0 2 3\n2\n4\n6\n12\n6 13 15\n12 2 4\n14 3 5\n"

half_adder_spelled : Spells None (Ascii None) half_adder_text half_adder
half_adder_spelled = record { reads = refl }

-- with names of its inputs and outputs, and a comment
half_adder_symbols : Spells None (Ascii None)
    (half_adder_text ++ codes "i0 x\ni1 y\no0 s\no1 c\nc\nhalf adder\n") half_adder
half_adder_symbols = record { reads = refl }

-- the same in the binary form
abbrev pub binary_adder : Circuit
binary_adder = record {
  header = record { max = 5; inputs = 2; latches = 0; outputs = 2; gates = 3; bads = 0; constraints = 0 };
  inputs = 2 ∷ 4 ∷ [];
  latches = [];
  columns = 10 ∷ 6 ∷ [];
  gates = record { lhs = 6; rhs0 = 4; rhs1 = 2 } ∷ record { lhs = 8; rhs0 = 5; rhs1 = 3 }
      ∷ record { lhs = 10; rhs0 = 9; rhs1 = 7 } ∷ [];
}

abbrev pub binary_adder_text : List ℕ
binary_adder_text = codes "aig 5 2 0 2 3\n10\n6\n" ++ 2 ∷ 2 ∷ 3 ∷ 2 ∷ 1 ∷ 2 ∷ []

binary_adder_spelled : Spells None (Binary None) binary_adder_text binary_adder
binary_adder_spelled = record { reads = refl }

-- the tail begins right after the last delta
binary_adder_newline : Breaks None (binary_adder_text ++ codes "\n") Extra 25
binary_adder_newline = record { fails = refl }

binary_adder_symbols : Spells None (Binary None) (binary_adder_text ++ codes "i0 x\no1 c\ncommented") binary_adder
binary_adder_symbols = record { reads = refl }

-- a position that the outputs haven't
binary_adder_position : Breaks None (binary_adder_text ++ codes "o2 x\n") BadSymbol 26
binary_adder_position = record { fails = refl }

-- two latches in a row after an input, in both forms
abbrev pub shift : Circuit
shift = record {
  header = record { max = 3; inputs = 1; latches = 2; outputs = 1; gates = 0; bads = 0; constraints = 0 };
  inputs = 2 ∷ [];
  latches = record { current = 4; next = 2; reset = false } ∷ record { current = 6; next = 4; reset = false } ∷ [];
  columns = 6 ∷ [];
  gates = [];
}

shift_spelled : Spells None (Ascii None) (codes "aag 3 1 2 1 0\n2\n4 2\n6 4\n6\n") shift
shift_spelled = record { reads = refl }

shift_binary : Spells None (Binary None) (codes "aig 3 1 2 1 0\n2\n4\n6\n") shift
shift_binary = record { reads = refl }

-- the constant true as an output, and a circuit of nothing
abbrev pub constant : Circuit
constant = record {
  header = record { max = 0; inputs = 0; latches = 0; outputs = 1; gates = 0; bads = 0; constraints = 0 };
  inputs = [];
  latches = [];
  columns = 1 ∷ [];
  gates = [];
}

constant_spelled : Spells None (Ascii None) (codes "aag 0 0 0 1 0\n1\n") constant
constant_spelled = record { reads = refl }

abbrev pub empty : Circuit
empty = record {
  header = record { max = 0; inputs = 0; latches = 0; outputs = 0; gates = 0; bads = 0; constraints = 0 };
  inputs = [];
  latches = [];
  columns = [];
  gates = [];
}

empty_spelled : Spells None (Ascii None) (codes "aag 0 0 0 0 0\n") empty
empty_spelled = record { reads = refl }

empty_binary : Spells None (Binary None) (codes "aig 0 0 0 0 0") empty
empty_binary = record { reads = refl }

-- leading zeros
zeros_spelled : Spells None (Ascii None) (codes "aag 00000000000000000000 0 0 1 00\n01\n") constant
zeros_spelled = record { reads = refl }

-- BadMagic
other_magic : Breaks None (codes "agg 0 0 0 0 0\n") BadMagic 0
other_magic = record { fails = refl }

-- BadNumber: no digit where a number must begin, or a 21st digit
no_digit : Breaks None (codes "aag x 0 0 0 0\n") BadNumber 4
no_digit = record { fails = refl }

no_literal : Breaks None (codes "aag 1 1 0 0 0\n\n") BadNumber 14
no_literal = record { fails = refl }

second_space : Breaks None (codes "aag 0  0 0 0 0\n") BadNumber 6
second_space = record { fails = refl }

many_digits : Breaks None (codes "aag 000000000000000000001 0 0 0 0\n") BadNumber 4
many_digits = record { fails = refl }

-- TooLarge: a number of the header above 2^40, also above 2^64
large_count : Breaks None (codes "aag 1099511627777 0 0 0 0\n") TooLarge 4
large_count = record { fails = refl }

largest_count : Breaks None (codes "aag 99999999999999999999 0 0 0 0\n") TooLarge 4
largest_count = record { fails = refl }

-- a header of 2^40 inputs is read, and then the first of them is missing
many_inputs : Breaks None (codes "aag 1099511627776 1099511627776 0 0 0\n") Short 38
many_inputs = record { fails = refl }

-- BadSeparator: another byte in the place of a space or a line's end
no_space : Breaks None (codes "aag,0 0 0 0 0\n") BadSeparator 3
no_space = record { fails = refl }

after_header : Breaks None (codes "aag 0 0 0 0 0x\n") BadSeparator 13
after_header = record { fails = refl }

carriage_return : Breaks None (codes "aag 1 1 0 0 0\n2\r\n") BadSeparator 15
carriage_return = record { fails = refl }

space_after_gate : Breaks None (codes "aag 1 0 0 0 1\n2 0 0 \n") BadSeparator 19
space_after_gate = record { fails = refl }

-- BadCounts: M is too small, or in the binary form too large
small_max : Breaks None (codes "aag 3 2 0 1 2\n") BadCounts 4
small_max = record { fails = refl }

binary_max : Breaks None (codes "aig 4 2 0 1 1\n") BadCounts 4
binary_max = record { fails = refl }

-- LiteralRange: 2M + 2 and more, also above 2^64
large_output : Breaks None (codes "aag 3 2 0 1 1\n2\n4\n9\n6 2 4\n") LiteralRange 18
large_output = record { fails = refl }

large_input : Breaks None (codes "aag 3 1 0 0 0\n8\n") LiteralRange 14
large_input = record { fails = refl }

large_odd : Breaks None (codes "aag 3 1 0 0 0\n9\n") LiteralRange 14
large_odd = record { fails = refl }

largest_literal : Breaks None (codes "aag 3 0 0 1 0\n18446744073709551618\n") LiteralRange 14
largest_literal = record { fails = refl }

-- OddDefinition: an odd literal up to 2M + 1, or 0, that must define a variable
odd_input : Breaks None (codes "aag 3 2 0 1 1\n2\n7\n") OddDefinition 16
odd_input = record { fails = refl }

zero_gate : Breaks None (codes "aag 1 0 0 0 1\n0 0 0\n") OddDefinition 14
zero_gate = record { fails = refl }

-- a sixth number begins what AIGER 1.9 adds, and then the first input is missing
sixth_number : Breaks None (codes "aag 3 2 0 1 1 0\n") Short 16
sixth_number = record { fails = refl }

-- Extra: a byte after the last line
extra_line : Breaks None (and_gate_text ++ codes "\n") Extra 26
extra_line = record { fails = refl }

extra_letter : Breaks None (and_gate_text ++ codes "a0 x\n") Extra 26
extra_letter = record { fails = refl }

extra_after_symbol : Breaks None (and_gate_text ++ codes "i0 x\n\n") Extra 31
extra_after_symbol = record { fails = refl }

-- without the newline of its last line a circuit has no tail
no_tail_line : Breaks None (take 25 and_gate_text ++ codes "i0 x\n") BadSeparator 25
no_tail_line = record { fails = refl }

-- a name may be empty, or have any bytes; the last line may lack its newline
empty_name : Spells None (Ascii None) (and_gate_text ++ codes "i1 \no0  x y") and_gate
empty_name = record { reads = refl }

-- the same position may be named twice, in any order of lines
same_position : Spells None (Ascii None) (and_gate_text ++ codes "o0 x\ni01 y\ni1 z\n") and_gate
same_position = record { reads = refl }

-- a comment begins with `c` at a line's start, whatever follows it
comment_alone : Spells None (Ascii None) (and_gate_text ++ codes "c") and_gate
comment_alone = record { reads = refl }

comment_lines : Spells None (Ascii None) (and_gate_text ++ codes "i0 x\ncx\ni9\n\n") and_gate
comment_lines = record { reads = refl }

-- BadSymbol: a position that isn't in its section, also above 2^64
third_input : Breaks None (and_gate_text ++ codes "i2 x\n") BadSymbol 27
third_input = record { fails = refl }

first_latch : Breaks None (and_gate_text ++ codes "l0 x\n") BadSymbol 27
first_latch = record { fails = refl }

second_output : Breaks None (and_gate_text ++ codes "i1 x\no1 y\n") BadSymbol 32
second_output = record { fails = refl }

largest_position : Breaks None (and_gate_text ++ codes "i18446744073709551616 x\n") BadSymbol 27
largest_position = record { fails = refl }

-- the space after a position, and the position itself
no_name : Breaks None (and_gate_text ++ codes "i0x\n") BadSeparator 28
no_name = record { fails = refl }

newline_for_name : Breaks None (and_gate_text ++ codes "i0\n") BadSeparator 28
newline_for_name = record { fails = refl }

no_position : Breaks None (and_gate_text ++ codes "i x\n") BadNumber 27
no_position = record { fails = refl }

many_position_digits : Breaks None (and_gate_text ++ codes "i000000000000000000000 x\n") BadNumber 27
many_position_digits = record { fails = refl }

-- a symbol's line that ends too early
short_symbols : map (λ k. circuit_text None 0 (and_gate_text ++ take k (codes "i0 x\n")))
    (range_with_len 1 2) ≡ Fails Short 27 ∷ Fails Short 28 ∷ []
short_symbols = refl

-- BadDelta, and Short within a delta
abbrev binary_gate : List ℕ → List ℕ
binary_gate deltas = codes "aig 3 2 0 1 1\n6\n" ++ deltas

zero_delta : Breaks None (binary_gate (0 ∷ 2 ∷ [])) BadDelta 16
zero_delta = record { fails = refl }

large_delta : Breaks None (binary_gate (7 ∷ 0 ∷ [])) BadDelta 16
large_delta = record { fails = refl }

large_second : Breaks None (binary_gate (2 ∷ 5 ∷ [])) BadDelta 17
large_second = record { fails = refl }

six_bytes : Breaks None (binary_gate (130 ∷ 128 ∷ 128 ∷ 128 ∷ 128 ∷ 128 ∷ [])) BadDelta 16
six_bytes = record { fails = refl }

five_bytes : Breaks None (binary_gate (130 ∷ 128 ∷ 128 ∷ 128 ∷ 128 ∷ [])) Short 21
five_bytes = record { fails = refl }

short_delta : Breaks None (binary_gate (130 ∷ [])) Short 17
short_delta = record { fails = refl }

-- 82 00 is a longer spelling of 2
abbrev pub binary_and : Circuit
binary_and = record {
  header = record { max = 3; inputs = 2; latches = 0; outputs = 1; gates = 1; bads = 0; constraints = 0 };
  inputs = 2 ∷ 4 ∷ [];
  latches = [];
  columns = 6 ∷ [];
  gates = record { lhs = 6; rhs0 = 4; rhs1 = 2 } ∷ [];
}

long_delta : Spells None (Binary None) (binary_gate (130 ∷ 0 ∷ 2 ∷ [])) binary_and
long_delta = record { reads = refl }

-- the least bits come first: c8 01 is 200
delta_order : delta 1 400 0 (200 ∷ 1 ∷ []) ≡ Reads 200 2 []
delta_order = refl

-- TooLong: an item that looks at a byte at 2^50
byte_too_far : space (2 ^ 50) (codes " ") ≡ Fails TooLong (2 ^ 50)
byte_too_far = refl

end_not_far : line_end (2 ^ 50) [] ≡ Reads tt (2 ^ 50) []
end_not_far = refl

end_too_far : line_end (2 ^ 50) (codes "\n") ≡ Fails TooLong (2 ^ 50)
end_too_far = refl

tail_too_far : tail and_gate.header (2 ^ 50) (codes "c") ≡ Fails TooLong (2 ^ 50)
tail_too_far = refl

tail_not_far : tail and_gate.header (2 ^ 50) [] ≡ Reads tt (2 ^ 50) []
tail_not_far = refl

name_too_far : name (2 ^ 50 - 1) (codes "x\n") ≡ Fails TooLong (2 ^ 50)
name_too_far = refl

name_before_limit : name (2 ^ 50 - 2) (codes "x\ni") ≡ Reads tt (2 ^ 50) (codes "i")
name_before_limit = refl

comment_too_far : comment (2 ^ 50 - 2) (codes "xyz") ≡ Fails TooLong (2 ^ 50)
comment_too_far = refl

comment_before_limit : comment (2 ^ 50 - 2) (codes "xy") ≡ Reads tt (2 ^ 50) []
comment_before_limit = refl

-- a line whose newline is the last byte below 2^50, and one whose newline stands at it
line_before_limit : literal_line (Used 5) (2 ^ 50 - 3) (codes "10\n") ≡ Reads 10 (2 ^ 50) []
line_before_limit = refl

line_at_limit : literal_line (Used 5) (2 ^ 50 - 2) (codes "10\n") ≡ Fails TooLong (2 ^ 50)
line_at_limit = refl

number_too_far : number Count (2 ^ 50) (codes "x") ≡ Fails TooLong (2 ^ 50)
number_too_far = refl

-- a number looks at the byte after it,
byte_after_number : number Count (2 ^ 50 - 1) (codes "7 ") ≡ Fails TooLong (2 ^ 50)
byte_after_number = refl

end_after_number : number Count (2 ^ 50 - 1) (codes "7") ≡ Reads 7 (2 ^ 50) []
end_after_number = refl

-- and at no byte past its 21st
digit_before_limit : number Count (2 ^ 50 - 21) (replicate 30 48) ≡ Fails BadNumber (2 ^ 50 - 21)
digit_before_limit = refl

digit_at_limit : number Count (2 ^ 50 - 20) (replicate 30 48) ≡ Fails TooLong (2 ^ 50)
digit_at_limit = refl

delta_too_far : delta 1 6 (2 ^ 50 - 1) (130 ∷ 0 ∷ []) ≡ Fails TooLong (2 ^ 50)
delta_too_far = refl
