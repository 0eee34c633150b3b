-- The records of answers, one command after another.
use Rattle.std.proofs.Common.{◌≡◌, ◌≤◌, ℕ, List, [], ◌∷◌, ◌++◌, length, take, refl}
use Rattle.em_record.specs.declared.record.Record.{Record}
use Rattle.em_plain.specs.Asks.{Asks, answer_for, answer_to, records_in}
use Rattle.em_plain.specs.Command.{command_in}
use Rattle.em_plain.specs.StabPairs.{stabs_in}
use Rattle.em_plain.specs.Asks.Asks.{gets, stabs}
use Rattle.em_plain.proofs.AnswerLists.{answers_longer, answers_more, answers_none}
use Rattle.em_plain.proofs.StabLists.{pairs_longer, pairs_more}

-- one command more
pub records_more : (asks : Asks) (items : List Record) (x : Record)
    → records_in asks (items ++ x ∷ []) ≡ records_in asks items
    ++ answer_to asks (length items) (stabs_in items) items (command_in x)
records_more (gets apply answered) items x = answers_more apply answered items x
records_more stabs items x = pairs_more items x

-- the first commands have no more answers than all
pub records_longer : (asks : Asks) (xs ys : List Record)
    → length (records_in asks xs) ≤ length (records_in asks (xs ++ ys))
records_longer (gets apply answered) xs ys = answers_longer apply answered xs ys
records_longer stabs xs ys = pairs_longer xs ys

pub records_next : (asks : Asks) (number stab : ℕ) (items all : List Record) (x : Record)
    → length items ≡ number → stab ≡ stabs_in items → take number all ≡ items
    → records_in asks (items ++ x ∷ []) ≡ records_in asks items ++ answer_for asks number stab all x
records_next asks number stab items all x n s t =
    rw (t, s, ← n) (records_more asks items x)

pub records_none : (asks : Asks) → records_in asks [] ≡ []
records_none (gets apply answered) = answers_none apply answered
records_none stabs = refl
