-- Operations of a bag that were worked out by hand, from the table in README.md.
use Rattle.std.specs.Prelude.{◌≡◌, ℕ, List, [], ◌∷◌, Some, None}
use Rattle.std.proofs.Common.{refl}
use Rattle.em_record.specs.declared.record.Record.{Record}
use Rattle.em_settle.specs.Bag.{bag_key_of, bag_step_of}
use Rattle.em_settle.specs.Keys.{has_key, of_key}
use Rattle.em_settle.specs.Lists.{list_with_ops}
use Rattle.em_settle.specs.States.{Stored, answers_to, with_ops}
use Rattle.em_settle.specs.declared.step.Step.{Step}

-- a record of these words
abbrev rec : ℕ → ℕ → ℕ → ℕ → Record
rec a b c d = record { a = a; b = b; c = c; d = d }

-- the step that stores a record and answers nothing
abbrev stores : Record → Step
stores r = record { stored = Some r; answer = None }

-- nothing is stored
abbrev nothing : Stored
nothing q = None

-- the number is a part of the key, the other words aren't
key_of_op : bag_key_of (rec 4 2 9 8) ≡ rec 4 2 0 0
key_of_op = refl

first : bag_step_of None (rec 4 1 7 6) ≡ stores (rec 4 1 7 6)
first = refl

over : bag_step_of (Some (rec 4 1 7 6)) (rec 4 1 7 9) ≡ stores (rec 4 1 7 9)
over = refl

-- three operations, of which two have the same word a
abbrev ops : List Record
ops = rec 4 1 7 0 ∷ rec 3 2 7 0 ∷ rec 4 3 5 1 ∷ []

no_answers : answers_to bag_key_of bag_step_of nothing ops ≡ []
no_answers = refl

own_record : with_ops bag_key_of bag_step_of nothing ops (rec 4 3 0 0) ≡ Some (rec 4 3 5 1)
unfolding has_key
own_record = refl

no_such_key : with_ops bag_key_of bag_step_of nothing ops (rec 4 0 0 0) ≡ None
unfolding has_key
no_such_key = refl

of_number_1 : of_key bag_key_of (rec 4 1 0 0) ops ≡ rec 4 1 7 0 ∷ []
unfolding has_key
of_number_1 = refl

-- equal words a stand in the order of their numbers
listed : list_with_ops bag_key_of bag_step_of (rec 4 2 9 9 ∷ []) ops
    ≡ rec 3 2 7 0 ∷ rec 4 1 7 0 ∷ rec 4 2 9 9 ∷ rec 4 3 5 1 ∷ []
unfolding has_key
listed = refl
