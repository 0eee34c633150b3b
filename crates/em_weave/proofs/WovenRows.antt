-- Woven lists that were worked out by hand. Each record has its word a, and a number in b.
use Rattle.std.proofs.Common.{◌≡◌, ℕ, [], ◌∷◌, refl}
use Rattle.em_record.specs.declared.record.Record.{Record}
use Rattle.em_weave.specs.Woven.{woven}
use Rattle.em_weave.specs.declared.side.Side.TheVariants.{Left, Right}

abbrev rec : ℕ → ℕ → Record
rec a b = record { a = a; b = b; c = 0; d = 0 }

-- nothing, and one side alone
none : woven [] [] ≡ []
none = refl

left_alone : woven (rec 4 1 ∷ rec 5 2 ∷ []) [] ≡ Left (rec 4 1) ∷ Left (rec 5 2) ∷ []
left_alone = refl

right_alone : woven [] (rec 4 1 ∷ rec 5 2 ∷ []) ≡ Right (rec 4 1) ∷ Right (rec 5 2) ∷ []
right_alone = refl

-- all left records of a word a come before the right ones of it, in their own order
equal_words : woven (rec 4 1 ∷ rec 4 2 ∷ []) (rec 4 3 ∷ rec 4 4 ∷ [])
    ≡ Left (rec 4 1) ∷ Left (rec 4 2) ∷ Right (rec 4 3) ∷ Right (rec 4 4) ∷ []
equal_words = refl

-- the words b don't matter
other_words : woven (rec 4 9 ∷ []) (rec 4 1 ∷ []) ≡ Left (rec 4 9) ∷ Right (rec 4 1) ∷ []
other_words = refl

in_turn : woven (rec 1 1 ∷ rec 4 2 ∷ rec 4 3 ∷ rec 9 4 ∷ []) (rec 2 5 ∷ rec 4 6 ∷ rec 7 7 ∷ [])
    ≡ Left (rec 1 1) ∷ Right (rec 2 5) ∷ Left (rec 4 2) ∷ Left (rec 4 3) ∷ Right (rec 4 6)
    ∷ Right (rec 7 7) ∷ Left (rec 9 4) ∷ []
in_turn = refl

-- a list that doesn't ascend keeps its own order
falling : woven (rec 3 1 ∷ rec 1 2 ∷ []) (rec 2 3 ∷ [])
    ≡ Right (rec 2 3) ∷ Left (rec 3 1) ∷ Left (rec 1 2) ∷ []
falling = refl

-- a right record of a lesser word a comes first
lesser_right : woven (rec 1 1 ∷ []) (rec 0 2 ∷ rec 1 3 ∷ [])
    ≡ Right (rec 0 2) ∷ Left (rec 1 1) ∷ Right (rec 1 3) ∷ []
lesser_right = refl
