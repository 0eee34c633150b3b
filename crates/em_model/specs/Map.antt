-- What the map answers: docs/ARCHITECTURE.md, "What the commands answer".
use Rattle.std.specs.Prelude.{ℕ, ◌≡◌, ◌<◌, ◌^◌, List, [], ◌∷◌, ◌++◌, ◌==◌, if◌then◌else◌, Option, Some, None}
use Rattle.em_model.specs.declared.command.Command.{Command}
use Rattle.em_model.specs.declared.command.Command.TheVariants.{Put, Del, Get, Add}

-- how an add joins its value to that of its key
abbrev pub Combiner : Type 0
Combiner = ℕ → ℕ → ℕ

-- what answers like this joins two values of 64 bits as the combiner does
abbrev pub Joins : (ℕ → ℕ → ℕ → Type 0) → Combiner → Type 0
Joins answers apply = (x y r : ℕ) → x < 2 ^ 64 → y < 2 ^ 64 → answers x y r → r ≡ apply x y

-- each key's value, or none
abbrev pub Map : Type 0
Map = ℕ → Option ℕ

-- the map in which no key has a value
abbrev pub no_keys : Map
no_keys = λ key. None

-- the map changed at one key, to a value or to none
abbrev pub with_key : Map → ℕ → Option ℕ → Map
with_key m key value = λ other. if other == key then value else m other

-- a value joined to the one that a key has; alone if it has none
abbrev pub joined_to : Combiner → Option ℕ → ℕ → ℕ
joined_to apply None value = value
joined_to apply (Some old) value = apply old value

-- the map after one command: a put sets its key, a del clears it, an add joins its value to that of its key, any other
-- command changes nothing
abbrev pub map_step : Combiner → Map → Command → Map
map_step apply m (Put key value) = with_key m key (Some value)
map_step apply m (Del key) = with_key m key None
map_step apply m (Add key value) = with_key m key (Some (joined_to apply (m key) value))
map_step apply m c = m

-- the map after some commands, one after another
abbrev pub state_after : Combiner → Map → List Command → Map
state_after apply m [] = m
state_after apply m (c ∷ cs) = state_after apply (map_step apply m c) cs

-- the answers to one command: a get answers the key's value or none, any other command answers
-- nothing
abbrev pub answer_of : Map → Command → List (Option ℕ)
answer_of m (Get key) = m key ∷ []
answer_of m c = []

-- the answers to some commands, each from the map as the earlier ones left it
abbrev pub map_answers_from : Combiner → Map → List Command → List (Option ℕ)
map_answers_from apply m [] = []
map_answers_from apply m (c ∷ cs) = answer_of m c ++ map_answers_from apply (map_step apply m c) cs

-- the answers to some commands, from the map in which no key has a value
abbrev pub map_answers : Combiner → List Command → List (Option ℕ)
map_answers apply commands = map_answers_from apply no_keys commands

-- the value of a key after some commands, where it had this value, or none, before them
abbrev pub value_from : Combiner → ℕ → Option ℕ → List Command → Option ℕ
value_from apply key before [] = before
value_from apply key before (Put k v ∷ cs) = value_from apply key (if key == k then Some v else before) cs
value_from apply key before (Del k ∷ cs) = value_from apply key (if key == k then None else before) cs
value_from apply key before (Add k v ∷ cs) =
    value_from apply key (if key == k then Some (joined_to apply before v) else before) cs
value_from apply key before (c ∷ cs) = value_from apply key before cs
