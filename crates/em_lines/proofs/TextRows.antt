-- Worked texts: what the definitions of command files say of them.
use Rattle.std.specs.Prelude.{◌≡◌, [], ◌∷◌, codes, drop, map, refl, Some, None, Ok, Err}
use Rattle.em_model.specs.declared.command.Command.TheVariants as command
use Rattle.em_lines.specs.declared.text.FileKind.TheVariants.{Map, Queue, Stab, Dump}
use Rattle.em_lines.specs.declared.text.TextKind.TheVariants.{BadNumber, TooLarge, BadSeparator, Unknown, EmptyLine, LowAboveHigh, TooLong, OutOfOrder}
use Rattle.em_lines.specs.BaseLine.{base_fault, base_pairs, numbered_pair, pair_of}
use Rattle.em_lines.specs.Lines.{lines_of, parts_of}
use Rattle.em_lines.specs.CommandLine.{command_of, numbered, first_fault, good_commands}
use Rattle.em_lines.specs.RunSize.{lines_given, pairs_taken, syncs_taken}

-- How a text is cut.

no_lines : lines_of [] ≡ []
no_lines = refl

a_lone_newline : lines_of (codes "\n") ≡ [] ∷ []
a_lone_newline = refl

a_last_line_without_newline : lines_of (codes "pop\npop") ≡ codes "pop" ∷ codes "pop" ∷ []
a_last_line_without_newline = refl

an_empty_part : parts_of (codes "get  1") ≡ codes "get" ∷ [] ∷ codes "1" ∷ []
an_empty_part = refl

-- Whole texts.

a_number_above_64_bits :
    first_fault Map (codes "put 1 2\nget 1\nput 1 18446744073709551616\n") ≡ Some (TooLarge, 3)
a_number_above_64_bits = refl

the_first_of_two_faults :
    first_fault Map (codes "put 1 2\nget  1\nbogus\n") ≡ Some (BadSeparator, 2)
the_first_of_two_faults = refl

an_interval_out_of_order : first_fault Stab (codes "iv 7 3\n") ≡ Some (LowAboveHigh, 1)
an_interval_out_of_order = refl

a_word_for_a_number : first_fault Queue (codes "push 1 2\npop\npush x 1\n") ≡ Some (BadNumber, 3)
a_word_for_a_number = refl

the_commands_before_a_fault :
    good_commands Queue (codes "push 1 2\npop\npush x 1\n")
    ≡ command.Push 1 2 ∷ command.Pop ∷ []
the_commands_before_a_fault = refl

the_commands_of_a_map_text :
    good_commands Map (codes "put 5 10\nget 5\nput 5 11\nget 5\ndel 5\nget 5\n")
    ≡ command.Put 5 10 ∷ command.Get 5 ∷ command.Put 5 11 ∷ command.Get 5 ∷ command.Del 5
    ∷ command.Get 5 ∷ []
the_commands_of_a_map_text = refl

no_fault_of_a_map_text :
    first_fault Map (codes "put 5 10\nget 5\nput 5 11\nget 5\ndel 5\nget 5\n") ≡ None
no_fault_of_a_map_text = refl

the_commands_of_a_text_with_a_sync :
    good_commands Map (codes "put 1 5\nget 1\nsync\ndel 1\nget 1\n")
    ≡ command.Put 1 5 ∷ command.Get 1 ∷ command.Sync ∷ command.Del 1 ∷ command.Get 1 ∷ []
the_commands_of_a_text_with_a_sync = refl

the_commands_before_a_fault_after_a_sync :
    good_commands Map (codes "put 1 5\nget 1\nsync\nget 1\nget x\n")
    ≡ command.Put 1 5 ∷ command.Get 1 ∷ command.Sync ∷ command.Get 1 ∷ []
the_commands_before_a_fault_after_a_sync = refl

a_fault_after_a_sync :
    first_fault Map (codes "put 1 5\nget 1\nsync\nget 1\nget x\n") ≡ Some (BadNumber, 5)
a_fault_after_a_sync = refl

a_sync_with_an_operand : first_fault Map (codes "sync 1\n") ≡ Some (BadSeparator, 1)
a_sync_with_an_operand = refl

a_sync_without_newline : good_commands Map (codes "sync") ≡ command.Sync ∷ []
a_sync_without_newline = refl

the_commands_of_a_text_with_adds :
    good_commands Map (codes "add 5 10\nget 5\nput 5 11\nadd 5 1\n")
    ≡ command.Add 5 10 ∷ command.Get 5 ∷ command.Put 5 11 ∷ command.Add 5 1 ∷ []
the_commands_of_a_text_with_adds = refl

a_fault_after_an_add : first_fault Map (codes "add 5 10\nadd 5\n") ≡ Some (BadSeparator, 2)
a_fault_after_an_add = refl

an_add_without_newline : good_commands Map (codes "add 1 2") ≡ command.Add 1 2 ∷ []
an_add_without_newline = refl

the_commands_of_a_stab_text :
    good_commands Stab (codes "stab 5\niv 5 5\niv 7 18446744073709551615\n")
    ≡ command.Stab 5 ∷ command.Interval 5 5 ∷ command.Interval 7 18446744073709551615 ∷ []
the_commands_of_a_stab_text = refl

the_commands_of_a_dump :
    good_commands Dump (codes "put 3 1\nadd 1 2\nsync\nget 3\ndel 3\npush 1 2\n")
    ≡ command.Put 3 1 ∷ command.Add 1 2 ∷ command.Sync ∷ command.Get 3 ∷ command.Del 3 ∷ []
the_commands_of_a_dump = refl

a_word_of_a_queue_in_a_dump : first_fault Dump (codes "put 3 1\npush 1 2\n") ≡ Some (Unknown, 2)
a_word_of_a_queue_in_a_dump = refl

no_command_of_the_empty_text : good_commands Map [] ≡ []
no_command_of_the_empty_text = refl

no_fault_of_the_empty_text : first_fault Map [] ≡ None
no_fault_of_the_empty_text = refl

a_further_newline : first_fault Queue (codes "pop\n\n") ≡ Some (EmptyLine, 2)
a_further_newline = refl

no_further_newline : first_fault Queue (codes "pop\n") ≡ None
no_further_newline = refl

the_command_of_a_last_line :
    good_commands Map (codes "get 1\nget 2") ≡ command.Get 1 ∷ command.Get 2 ∷ []
the_command_of_a_last_line = refl

-- Lines of a text whose front was given.

two_lines : map (λ n. lines_given n (codes "get 1\nget 2")) (5 ∷ 6 ∷ 10 ∷ 11 ∷ [])
    ≡ 0 ∷ 1 ∷ 1 ∷ 2 ∷ []
two_lines = refl

a_line_and_an_empty_line : map (λ n. lines_given n (codes "get 1\n\n")) (5 ∷ 6 ∷ 7 ∷ [])
    ≡ 0 ∷ 1 ∷ 2 ∷ []
a_line_and_an_empty_line = refl

none_of_the_empty_text : lines_given 0 [] ≡ 0
none_of_the_empty_text = refl

-- Syncs of a text whose front was taken.

syncs_of_a_front : map (λ k. syncs_taken Map (codes "sync\nget 1\nsync\n") (drop k (codes "sync\nget 1\nsync\n")))
    (0 ∷ 4 ∷ 5 ∷ 11 ∷ 15 ∷ 16 ∷ []) ≡ 0 ∷ 0 ∷ 1 ∷ 1 ∷ 1 ∷ 2 ∷ []
syncs_of_a_front = refl

-- Lines.

digits_21 : command_of Map (codes "get 000000000000000000001") ≡ Err BadNumber
digits_21 = refl

digits_20_too_large : command_of Map (codes "get 18446744073709551616") ≡ Err TooLarge
digits_20_too_large = refl

digits_20_greatest : command_of Map (codes "get 18446744073709551615")
    ≡ Ok (command.Get 18446744073709551615)
digits_20_greatest = refl

leading_zeros : command_of Map (codes "put 007 00000000000000000012") ≡ Ok (command.Put 7 12)
leading_zeros = refl

a_leading_space : command_of Map (codes " get 1") ≡ Err Unknown
a_leading_space = refl

a_return_in_an_operand : command_of Map (codes "get 1\r") ≡ Err BadNumber
a_return_in_an_operand = refl

a_return_in_a_word : command_of Queue (codes "pop\r") ≡ Err Unknown
a_return_in_a_word = refl

a_space_behind_the_last_operand : command_of Queue (codes "pop ") ≡ Err BadSeparator
a_space_behind_the_last_operand = refl

a_space_behind_a_sync : command_of Map (codes "sync ") ≡ Err BadSeparator
a_space_behind_a_sync = refl

a_return_in_a_sync : command_of Map (codes "sync\r") ≡ Err Unknown
a_return_in_a_sync = refl

a_word_longer_than_sync : command_of Map (codes "syncs") ≡ Err Unknown
a_word_longer_than_sync = refl

a_sync_of_a_queue : command_of Queue (codes "sync") ≡ Err Unknown
a_sync_of_a_queue = refl

a_sync_of_intervals : command_of Stab (codes "sync") ≡ Err Unknown
a_sync_of_intervals = refl

an_add_with_leading_zeros : command_of Map (codes "add 007 00000000000000000012") ≡ Ok (command.Add 7 12)
an_add_with_leading_zeros = refl

an_add_of_the_greatest : command_of Map (codes "add 18446744073709551615 18446744073709551615")
    ≡ Ok (command.Add 18446744073709551615 18446744073709551615)
an_add_of_the_greatest = refl

an_add_above_64_bits : command_of Map (codes "add 1 18446744073709551616") ≡ Err TooLarge
an_add_above_64_bits = refl

an_add_of_no_operand : command_of Map (codes "add") ≡ Err BadSeparator
an_add_of_no_operand = refl

an_add_of_one_operand : command_of Map (codes "add 1") ≡ Err BadSeparator
an_add_of_one_operand = refl

an_add_of_three_operands : command_of Map (codes "add 1 2 3") ≡ Err BadSeparator
an_add_of_three_operands = refl

a_sign_in_an_add : command_of Map (codes "add 1 -2") ≡ Err BadNumber
a_sign_in_an_add = refl

a_word_longer_than_add : command_of Map (codes "adds 1 2") ≡ Err Unknown
a_word_longer_than_add = refl

an_add_of_a_queue : command_of Queue (codes "add 1 2") ≡ Err Unknown
an_add_of_a_queue = refl

an_add_of_intervals : command_of Stab (codes "add 1 2") ≡ Err Unknown
an_add_of_intervals = refl

a_third_operand : command_of Map (codes "put 1 2 3") ≡ Err BadSeparator
a_third_operand = refl

a_missing_operand : command_of Map (codes "put 1") ≡ Err BadSeparator
a_missing_operand = refl

an_operand_before_a_separator : command_of Map (codes "put x") ≡ Err BadNumber
an_operand_before_a_separator = refl

a_separator_before_the_order : command_of Stab (codes "iv 7 3 1") ≡ Err BadSeparator
a_separator_before_the_order = refl

a_word_of_another_table : command_of Queue (codes "get 1") ≡ Err Unknown
a_word_of_another_table = refl

a_capital : command_of Map (codes "Get 1") ≡ Err Unknown
a_capital = refl

a_sign : command_of Map (codes "get +1") ≡ Err BadNumber
a_sign = refl

the_last_line : numbered Queue 1099511627776 (codes "pop") ≡ Ok command.Pop
the_last_line = refl

a_line_too_many : numbered Queue 1099511627777 [] ≡ Err TooLong
a_line_too_many = refl

-- Bases.

the_pairs_of_a_base : base_pairs (codes "1 2\n3 1\n") ≡ (1, 2) ∷ (3, 1) ∷ []
the_pairs_of_a_base = refl

no_fault_of_a_base : base_fault (codes "1 2\n3 1\n") ≡ None
no_fault_of_a_base = refl

a_base_without_newline : base_pairs (codes "1 2\n3 1") ≡ (1, 2) ∷ (3, 1) ∷ []
a_base_without_newline = refl

no_fault_without_newline : base_fault (codes "1 2\n3 1") ≡ None
no_fault_without_newline = refl

no_pair_of_the_empty_text : base_pairs [] ≡ []
no_pair_of_the_empty_text = refl

no_fault_of_an_empty_base : base_fault [] ≡ None
no_fault_of_an_empty_base = refl

an_equal_key : base_fault (codes "1 2\n1 3\n") ≡ Some (OutOfOrder, 2)
an_equal_key = refl

a_lesser_key : base_fault (codes "5 1\n6 1\n4 1\n") ≡ Some (OutOfOrder, 3)
a_lesser_key = refl

the_pairs_before_a_lesser_key : base_pairs (codes "5 1\n6 1\n4 1\n7 1\n") ≡ (5, 1) ∷ (6, 1) ∷ []
the_pairs_before_a_lesser_key = refl

a_key_of_zero : base_pairs (codes "0 7\n1 0\n") ≡ (0, 7) ∷ (1, 0) ∷ []
a_key_of_zero = refl

an_empty_line_of_a_base : base_fault (codes "1 2\n\n") ≡ Some (EmptyLine, 2)
an_empty_line_of_a_base = refl

a_space_before_a_key : base_fault (codes " 1 2") ≡ Some (BadSeparator, 1)
a_space_before_a_key = refl

two_spaces_before_a_value : base_fault (codes "1  2") ≡ Some (BadSeparator, 1)
two_spaces_before_a_value = refl

a_space_after_a_value : base_fault (codes "1 2 ") ≡ Some (BadSeparator, 1)
a_space_after_a_value = refl

a_key_alone : base_fault (codes "1") ≡ Some (BadSeparator, 1)
a_key_alone = refl

a_third_number : pair_of (codes "1 2 3") ≡ Err BadSeparator
a_third_number = refl

a_word_for_a_value : base_fault (codes "1 x") ≡ Some (BadNumber, 1)
a_word_for_a_value = refl

a_command_in_a_base : base_fault (codes "put 1 2\n") ≡ Some (BadNumber, 1)
a_command_in_a_base = refl

a_key_above_64_bits : base_fault (codes "18446744073709551616 1") ≡ Some (TooLarge, 1)
a_key_above_64_bits = refl

the_greatest_pair : pair_of (codes "18446744073709551615 18446744073709551615")
    ≡ Ok (18446744073709551615, 18446744073709551615)
the_greatest_pair = refl

a_pair_with_leading_zeros : pair_of (codes "007 00000000000000000012") ≡ Ok (7, 12)
a_pair_with_leading_zeros = refl

-- the order is judged last
a_word_before_the_order : base_fault (codes "5 1\n4 x") ≡ Some (BadNumber, 2)
a_word_before_the_order = refl

a_separator_before_the_order_of_keys : base_fault (codes "5 1\n4 1 \n") ≡ Some (BadSeparator, 2)
a_separator_before_the_order_of_keys = refl

the_last_line_of_a_base : numbered_pair 1099511627776 (Some 4) (codes "5 1") ≡ Ok (5, 1)
the_last_line_of_a_base = refl

a_line_too_many_of_a_base : numbered_pair 1099511627777 (Some 4) (codes "5 1") ≡ Err TooLong
a_line_too_many_of_a_base = refl

-- the pairs of a base of which the last line is faulty, with this much of it left
pairs_of_a_front : map (λ k. pairs_taken (codes "1 2\n3 1\n3 2\n") (drop k (codes "1 2\n3 1\n3 2\n")))
    (0 ∷ 3 ∷ 4 ∷ 8 ∷ 12 ∷ []) ≡ 0 ∷ 0 ∷ 1 ∷ 2 ∷ 2 ∷ []
pairs_of_a_front = refl
