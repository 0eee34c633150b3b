-- Operations of a map that were worked out by hand, from the table in README.md.
use Rattle.std.specs.Prelude.{◌≡◌, ℕ, ◌<◌, List, [], ◌∷◌, Option, Some, None}
use Rattle.std.proofs.Common.{refl, arith}
use Rattle.em_record.specs.declared.record.Record.{Record}
use Rattle.em_settle.specs.Keys.{has_key, of_key, record_at}
use Rattle.em_settle.specs.Lists.{list_with_ops}
use Rattle.em_settle.specs.Map.{map_key_of, map_step_of, IsMapKept, IsMapOp}
use Rattle.em_settle.specs.States.{Stored, answers_to, stored_after, with_ops}
use Rattle.em_settle.specs.declared.step.Step.{Step}

-- a record of these words
abbrev rec : ℕ → ℕ → ℕ → ℕ → Record
rec a b c d = record { a = a; b = b; c = c; d = d }

-- the operations by key, number and value
abbrev put : ℕ → ℕ → ℕ → Record
put k n v = rec k n 0 v

abbrev del : ℕ → ℕ → Record
del k n = rec k n 1 0

abbrev get : ℕ → ℕ → Record
get k n = rec k n 2 0

-- what an operation leaves and answers
abbrev does : Option Record → Option Record → Step
does stored answer = record { stored = stored; answer = answer }

-- nothing is stored
abbrev nothing : Stored
nothing q = None

-- the number is no part of the key
key_of_op : map_key_of (rec 5 2 0 9) ≡ rec 5 0 0 0
key_of_op = refl

key_of_stored : map_key_of (rec 5 0 0 9) ≡ rec 5 0 0 0
key_of_stored = refl

put_first : map_step_of None (put 5 1 10) ≡ does (Some (rec 5 0 0 10)) None
put_first = refl

put_over : map_step_of (Some (rec 5 0 0 10)) (put 5 3 11) ≡ does (Some (rec 5 0 0 11)) None
put_over = refl

del_there : map_step_of (Some (rec 5 0 0 10)) (del 5 4) ≡ does None None
del_there = refl

del_missing : map_step_of None (del 5 4) ≡ does None None
del_missing = refl

get_there : map_step_of (Some (rec 5 0 0 10)) (get 5 2)
    ≡ does (Some (rec 5 0 0 10)) (Some (rec 2 1 10 0))
get_there = refl

get_missing : map_step_of None (get 5 2) ≡ does None (Some (rec 2 0 0 0))
get_missing = refl

-- the value 0 is a value
get_zero : map_step_of (Some (rec 0 0 0 0)) (get 0 1) ≡ does (Some (rec 0 0 0 0)) (Some (rec 1 1 0 0))
get_zero = refl

-- a get leaves even a record of another key, so the law `keeps_key` asks that the key was the same
get_elsewhere : (map_step_of (Some (rec 1 0 0 5)) (get 2 7)).stored ≡ Some (rec 1 0 0 5)
get_elsewhere = refl

-- no operation: number 0, a fourth kind; no stored record: one with a number
no_number : IsMapOp (put 5 0 1) → ⊥
no_number h = let e : 0 < 0 = h.0 in omega arith

no_kind : IsMapOp (rec 5 1 3 0) → ⊥
no_kind h = let e : 3 < 3 = h.1 in omega arith

not_kept : IsMapKept (rec 5 1 0 7) → ⊥
not_kept h = let e : ◌≡◌ {A = ℕ} 1 0 = h.0 in omega arith

-- operations of one key
abbrev one_key : List Record
one_key = put 5 1 10 ∷ get 5 2 ∷ put 5 3 11 ∷ get 5 4 ∷ del 5 5 ∷ get 5 6 ∷ []

one_key_left : stored_after map_step_of None one_key ≡ None
one_key_left = refl

one_key_answers : answers_to map_key_of map_step_of nothing one_key
    ≡ rec 2 1 10 0 ∷ rec 4 1 11 0 ∷ rec 6 0 0 0 ∷ []
unfolding has_key
one_key_answers = refl

-- operations of three keys
abbrev keys : List Record
keys = get 0 1 ∷ put 0 2 7 ∷ put 9 3 8 ∷ del 4 4 ∷ get 9 5 ∷ get 0 6 ∷ []

keys_answers : answers_to map_key_of map_step_of nothing keys
    ≡ rec 1 0 0 0 ∷ rec 5 1 8 0 ∷ rec 6 1 7 0 ∷ []
unfolding has_key
keys_answers = refl

keys_left : with_ops map_key_of map_step_of nothing keys (rec 9 0 0 0) ≡ Some (rec 9 0 0 8)
unfolding has_key
keys_left = refl

keys_deleted : with_ops map_key_of map_step_of nothing keys (rec 4 0 0 0) ≡ None
unfolding has_key
keys_deleted = refl

keys_of_0 : of_key map_key_of (rec 0 0 0 0) keys ≡ get 0 1 ∷ put 0 2 7 ∷ get 0 6 ∷ []
unfolding has_key
keys_of_0 = refl

-- the same operations, sorted: other answers come first
sorted_answers : answers_to map_key_of map_step_of nothing
    (get 0 1 ∷ put 0 2 7 ∷ get 0 6 ∷ del 4 4 ∷ put 9 3 8 ∷ get 9 5 ∷ [])
    ≡ rec 1 0 0 0 ∷ rec 6 1 7 0 ∷ rec 5 1 8 0 ∷ []
unfolding has_key
sorted_answers = refl

-- stored records
abbrev three : List Record
three = rec 1 0 0 10 ∷ rec 3 0 0 30 ∷ rec 5 0 0 50 ∷ []

three_at : record_at map_key_of three (rec 3 0 0 0) ≡ Some (rec 3 0 0 30)
unfolding has_key
three_at = refl

three_missing : record_at map_key_of three (rec 4 0 0 0) ≡ None
unfolding has_key
three_missing = refl

-- a record before, between and after the others, one replaced, one removed
three_changed : list_with_ops map_key_of map_step_of three
    (put 2 1 20 ∷ del 3 2 ∷ put 5 3 55 ∷ get 1 4 ∷ put 9 5 90 ∷ del 4 6 ∷ put 0 7 1 ∷ [])
    ≡ rec 0 0 0 1 ∷ rec 1 0 0 10 ∷ rec 2 0 0 20 ∷ rec 5 0 0 55 ∷ rec 9 0 0 90 ∷ []
unfolding has_key
three_changed = refl
