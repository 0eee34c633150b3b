-- Runs of adds, and lists in which each run is one add. The key of an operation is `map_key_of`.
use Rattle.std.specs.Prelude.{ℕ, ◌≡◌, ◌+◌, ◌<◌, ◌==◌, Bool, false, cond, not, ◌&&◌, List, [], ◌∷◌, ◌++◌, length, Option, option_to_list}
use Rattle.em_record.specs.declared.record.Record.{Record}
use Rattle.em_record.specs.Order.{in_order}
use Rattle.em_settle.specs.Keys.{of_key}
use Rattle.em_settle.specs.Map.{map_key_of}
use Rattle.em_settle.specs.States.{stored_after}
use Rattle.em_settle.specs.declared.step.Step.{Step}
use Rattle.em_settle.specs.Add.{add_step_of}

-- an add: (K, number, 3, V)
abbrev pub is_add : Record → Bool
is_add r = r.c == 3

-- the first of a list is an add
abbrev pub begins_with_add : List Record → Bool
begins_with_add [] = false
begins_with_add (y ∷ ys) = is_add y

-- the operation is an add that ends its run: of the later ones, the next of its key isn't an add, or there
-- is none
abbrev pub ends_run : Record → List Record → Bool
ends_run x later = is_add x && not (begins_with_add (of_key map_key_of (map_key_of x) later))

-- the number of runs of a load: a run is a longest list of adds of one key with no other operation of that
-- key between two of them
abbrev pub runs : List Record → ℕ
runs [] = 0
runs (x ∷ xs) = cond (ends_run x xs) 1 0 + runs xs

-- the number of operations that aren't adds
abbrev pub others : List Record → ℕ
others [] = 0
others (x ∷ xs) = cond (is_add x) 0 1 + others xs

-- both are adds of one key
abbrev pub may_join : Record → Record → Bool
may_join x y = (x.a == y.a) && (is_add x && is_add y)

-- one add for two: it has the number of the second
abbrev pub join_two : (ℕ → ℕ → ℕ) → Record → Record → Record
join_two apply x y = record { a = y.a; b = y.b; c = 3; d = apply x.d y.d }

-- an operation and a list, in which adds of one key that stand next to each other become one
abbrev pub joined_from : (ℕ → ℕ → ℕ) → Record → List Record → List Record
joined_from apply x [] = x ∷ []
joined_from apply x (y ∷ ys) =
    cond (may_join x y) (joined_from apply (join_two apply x y) ys) (x ∷ joined_from apply y ys)

-- a list in which adds of one key that stand next to each other become one
abbrev pub joined : (ℕ → ℕ → ℕ) → List Record → List Record
joined apply [] = []
joined apply (x ∷ xs) = joined_from apply x xs

-- what operations of one key answer
abbrev pub answers_of_key : (Option Record → Record → Step) → Option Record → List Record → List Record
answers_of_key step old [] = []
answers_of_key step old (op ∷ ops) =
    option_to_list (step old op).answer ++ answers_of_key step (step old op).stored ops

-- Operations of one key leave and answer the same, whatever is stored.
pub record SameOutcome (step : Option Record → Record → Step) (xs ys : List Record) : Type 0 where
  pub stored : (old : Option Record) → stored_after step old xs ≡ stored_after step old ys
  pub answers : (old : Option Record) → answers_of_key step old xs ≡ answers_of_key step old ys

-- the number is below those of a list
abbrev pub IsBefore : ℕ → List Record → Type 0
IsBefore n [] = Unit {0}
IsBefore n (x ∷ xs) = (n < x.b) × IsBefore n xs

-- the numbers of a list are below the number
abbrev pub IsAfter : List Record → ℕ → Type 0
IsAfter [] n = Unit {0}
IsAfter (x ∷ xs) n = (x.b < n) × IsAfter xs n

-- each number is below all that follow it
abbrev pub NumbersRise : List Record → Type 0
NumbersRise [] = Unit {0}
NumbersRise (x ∷ xs) = IsBefore x.b xs × NumbersRise xs

-- the operations of each key came in the order of their numbers
abbrev pub CameInTurn : List Record → Type 0
CameInTurn xs = (q : Record) → NumbersRise (of_key map_key_of q xs)

-- What a join makes of a load: adds of one key that stand next to each other in the load's order by key and
-- number are one. Of each key it leaves and answers what the load does, and it has as many operations as the
-- load has runs and others.
pub record JoinsLoad (apply : ℕ → ℕ → ℕ) (old new : List Record) : Type 0 where
  pub is : new ≡ joined apply (in_order old)
  pub same : (q : Record) → SameOutcome (add_step_of apply) (of_key map_key_of q new) (of_key map_key_of q old)
  pub count : length new ≡ runs old + others old
  pub turn : CameInTurn new
