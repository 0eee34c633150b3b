-- Worked rows: what the definitions of texts of numbers say of them.
use Rattle.std.specs.Prelude.{◌≡◌, [], ◌∷◌, codes, refl, Some, None, Ok, Err}
use Rattle.std.specs.Fmt.{digits}
use Rattle.em_model.specs.declared.command.Command.TheVariants as command
use Rattle.em_lines.specs.declared.text.TextKind.TheVariants.{BadNumber, BadSeparator, LowAboveHigh, TooLarge, TooLong}
use Rattle.em_rows.specs.Lists.{numbered_pairs}
use Rattle.em_rows.specs.Rows.{numbered_row, row_fault, row_of, rows_in, rows_text}
use Rattle.em_rows.specs.declared.kinds.Columns.TheVariants as columns
use Rattle.em_rows.specs.declared.kinds.RowKind.TheVariants.{Pair, Counted, Asked, Window, Moment}

-- Lines.

a_pair : row_of Pair (codes "10 2") ≡ Ok (command.Push 10 2)
a_pair = refl

a_pair_with_leading_zeros : row_of Pair (codes "007 00") ≡ Ok (command.Push 7 0)
a_pair_with_leading_zeros = refl

no_second_number : row_of Pair (codes "10") ≡ Err BadSeparator
no_second_number = refl

an_empty_second_number : row_of Pair (codes "10 ") ≡ Err BadSeparator
an_empty_second_number = refl

an_empty_first_number : row_of Pair (codes " 2") ≡ Err BadSeparator
an_empty_first_number = refl

two_spaces : row_of Pair (codes "10  2") ≡ Err BadNumber
two_spaces = refl

three_numbers : row_of Pair (codes "10 2 3") ≡ Err BadNumber
three_numbers = refl

the_first_of_two_faults : row_of Pair (codes "18446744073709551616 x") ≡ Err TooLarge
the_first_of_two_faults = refl

a_counted_key : row_of Counted (codes "7") ≡ Ok (command.Add 7 1)
a_counted_key = refl

twenty_one_digits : row_of Counted (codes "000000000000000000001") ≡ Err BadNumber
twenty_one_digits = refl

twenty_digits : row_of Asked (codes "18446744073709551615") ≡ Ok (command.Get 18446744073709551615)
twenty_digits = refl

a_number_above_64_bits : row_of Asked (codes "18446744073709551616") ≡ Err TooLarge
a_number_above_64_bits = refl

a_space_after_one_number : row_of Asked (codes "7 ") ≡ Err BadNumber
a_space_after_one_number = refl

a_moment : row_of Moment (codes "0") ≡ Ok (command.Stab 0)
a_moment = refl

an_empty_line : row_of Moment [] ≡ Err BadSeparator
an_empty_line = refl

a_window_of_one_moment : row_of Window (codes "7 7") ≡ Ok (command.Interval 7 7)
a_window_of_one_moment = refl

a_window_out_of_order : row_of Window (codes "7 3") ≡ Err LowAboveHigh
a_window_out_of_order = refl

a_window_of_a_faulty_number : row_of Window (codes "7 x") ≡ Err BadNumber
a_window_of_a_faulty_number = refl

the_last_line : numbered_row Moment 549755813888 (codes "5") ≡ Ok (command.Stab 5)
the_last_line = refl

one_line_too_many : numbered_row Moment 549755813889 (codes "5") ≡ Err TooLong
one_line_too_many = refl

-- Whole texts.

rows_before_a_fault : rows_in Pair (codes "30 1\n10 2\n20\n10 1\n")
    ≡ command.Push 30 1 ∷ command.Push 10 2 ∷ []
rows_before_a_fault = refl

the_line_of_a_fault : row_fault Pair (codes "30 1\n10 2\n20\n10 1\n") ≡ Some (BadSeparator, 3)
the_line_of_a_fault = refl

a_last_line_without_newline : rows_in Counted (codes "7\n3") ≡ command.Add 7 1 ∷ command.Add 3 1 ∷ []
a_last_line_without_newline = refl

an_empty_line_between : row_fault Counted (codes "7\n\n3\n") ≡ Some (BadSeparator, 2)
an_empty_line_between = refl

no_fault_of_the_empty_text : row_fault Window [] ≡ None
no_fault_of_the_empty_text = refl

-- Lists.

pairs_with_their_numbers : numbered_pairs 0 (rows_in Pair (codes "30 1\n10 2\n"))
    ≡ record { a = 30; b = 0; c = 1; d = 0 } ∷ record { a = 10; b = 1; c = 2; d = 0 } ∷ []
pairs_with_their_numbers = refl

lines_of_pairs : rows_text columns.Pair
    (record { a = 10; b = 1; c = 2; d = 0 } ∷ record { a = 30; b = 0; c = 1; d = 0 } ∷ [])
    ≡ codes "10 2\n30 1\n"
unfolding digits
lines_of_pairs = refl

lines_of_values : rows_text columns.Value (record { a = 7; b = 1; c = 3; d = 0 } ∷ [])
    ≡ codes "3\n"
unfolding digits
lines_of_values = refl

lines_of_numbers : rows_text columns.Numbers (record { a = 1; b = 20; c = 3; d = 0 } ∷ [])
    ≡ codes "1 20\n"
unfolding digits
lines_of_numbers = refl

no_line_of_the_empty_list : rows_text columns.Pair [] ≡ []
no_line_of_the_empty_list = refl
