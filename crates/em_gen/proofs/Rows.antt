-- Worked rows: the draws from 1, and what they say of a file of eight commands.
use Rattle.std.specs.Prelude.{◌≡◌, ℕ, zero, suc, List, [], ◌∷◌, ◌%◌}
use Rattle.std.proofs.Common.{refl}
use Rattle.em_io.specs.declared.shelf.Slot.TheVariants.{Second}
use Rattle.em_gen.specs.declared.kind.GenKind.TheVariants.{Map}
use Rattle.em_gen.specs.Draws.{after_draws, drawn, next_state, wide_drawn}
use Rattle.em_gen.specs.Texts.{made_text}

-- the numbers of n draws
abbrev draws_of : ℕ → ℕ → List ℕ
draws_of zero x = []
draws_of (suc n) x = drawn x ∷ draws_of n (next_state x)

draws_from_one : draws_of 18 1 ≡ 16838 ∷ 5758 ∷ 10113 ∷ 17515 ∷ 31051 ∷ 5627 ∷ 23010 ∷ 7419 ∷ 16212
    ∷ 4086 ∷ 2749 ∷ 12767 ∷ 9084 ∷ 12060 ∷ 32225 ∷ 17543 ∷ 25089 ∷ 21183 ∷ []
draws_from_one = refl

-- after the first draw, a wide draw below 8
wide_from_one : wide_drawn 8 (next_state 1) ≡ 1
wide_from_one = refl

-- of n commands below 8, the number that says which it is, and the key
abbrev commands_of : ℕ → ℕ → List ℕ
commands_of zero x = []
commands_of (suc n) x =
    drawn x % 4 ∷ wide_drawn 8 (next_state x) ∷ commands_of n (after_draws 3 x)

-- put 1, get 3, put 4, put 7, del 1, get 7, put 6, put 7
commands_from_one : commands_of 8 1
    ≡ 2 ∷ 1 ∷ 3 ∷ 3 ∷ 2 ∷ 4 ∷ 2 ∷ 7 ∷ 0 ∷ 1 ∷ 3 ∷ 7 ∷ 1 ∷ 6 ∷ 2 ∷ 7 ∷ []
commands_from_one = refl

-- a command file has no second text
map_second : made_text Map Second 1 8 ≡ []
map_second = refl
