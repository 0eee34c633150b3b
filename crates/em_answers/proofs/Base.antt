-- Commands that a service took before those of a file: puts.
use Rattle.std.specs.Prelude.{◌≡◌, ℕ, ◌+◌, ◌≤◌, List, [], ◌∷◌, ◌++◌, length}
use Rattle.std.proofs.Common.{refl, ap, ◌∙◌, arith, length-append}
use Rattle.em_model.specs.Base.{puts_of}
use Rattle.em_model.specs.Map.{Combiner}
use Rattle.em_model.specs.Stab.{NumberedInterval, stab_answers, stab_answers_from}
use Rattle.em_model.specs.StabAnswers.{pairs_from, stab_pairs}
use Rattle.em_model.specs.Sync.{syncs_of}
use Rattle.em_model.specs.declared.command.Command.{Command}
use Rattle.em_model.specs.declared.command.Command.TheVariants.{Put, Add, Del, Get, Sync, Push, Pop, Interval, Stab}
use Rattle.em_model.proofs.SyncLaws.{up_to_none}
use Rattle.em_lines.specs.CommandLine.{good_commands}
use Rattle.em_lines.specs.RunSize.{commands_taken, run_size}
use Rattle.em_lines.specs.declared.text.FileKind.{FileKind}
use Rattle.em_lines.specs.declared.text.FileKind.TheVariants as kind
use Rattle.em_services.specs.Service.{size_of, syncs_for}
use Rattle.em_answers.specs.Answer.{map_text, synced_text}
use Rattle.em_answers.specs.Reading.{ArePuts}
use Rattle.em_answers.proofs.Listing.{size_within}
use Rattle.em_model.specs.Map.{map_answers}

-- those of pairs are
pub puts_are : (ps : List (ℕ × ℕ)) → ArePuts (puts_of ps)
puts_are [] = tt
puts_are (p ∷ ps) = puts_are ps

-- No put is a sync,
pub puts_syncs : (cs more : List Command) → ArePuts cs → syncs_of (cs ++ more) ≡ syncs_of more
puts_syncs [] more p = refl
puts_syncs (Put k v ∷ cs) more p = puts_syncs cs more p
puts_syncs (Add k v ∷ cs) more p = absurd p
puts_syncs (Del k ∷ cs) more p = absurd p
puts_syncs (Get k ∷ cs) more p = absurd p
puts_syncs (Sync ∷ cs) more p = absurd p
puts_syncs (Push k v ∷ cs) more p = absurd p
puts_syncs (Pop ∷ cs) more p = absurd p
puts_syncs (Interval low high ∷ cs) more p = absurd p
puts_syncs (Stab point ∷ cs) more p = absurd p

pub base_syncs : (k : FileKind) (cs more : List Command) → ArePuts cs → syncs_for k (cs ++ more) ≡ syncs_for k more
base_syncs kind.Map cs more p = puts_syncs cs more p
base_syncs kind.Queue cs more p = refl
base_syncs kind.Stab cs more p = refl
base_syncs kind.Dump cs more p = puts_syncs cs more p

-- so they print nothing,
none_up : (cs : List Command) → ArePuts cs → syncs_of cs ≡ 0
none_up [] p = refl
none_up (Put k v ∷ cs) p = none_up cs p
none_up (Add k v ∷ cs) p = absurd p
none_up (Del k ∷ cs) p = absurd p
none_up (Get k ∷ cs) p = absurd p
none_up (Sync ∷ cs) p = absurd p
none_up (Push k v ∷ cs) p = absurd p
none_up (Pop ∷ cs) p = absurd p
none_up (Interval low high ∷ cs) p = absurd p
none_up (Stab point ∷ cs) p = absurd p

pub puts_unsynced : (cs : List Command) → ArePuts cs → syncs_of cs ≡ 0
puts_unsynced cs p = none_up cs p

pub base_text : (apply : Combiner) (k : FileKind) (cs : List Command) → ArePuts cs → synced_text apply k cs ≡ []
base_text apply kind.Map cs p = ap (λ (xs : List Command). map_text (map_answers apply xs)) (up_to_none cs (none_up cs p))
base_text apply kind.Queue cs p = refl
base_text apply kind.Stab cs p = refl
base_text apply kind.Dump cs p = refl

-- and no intervals.
puts_stabs : (cs more : List Command) (intervals : List NumberedInterval) → ArePuts cs
    → stab_answers_from intervals (cs ++ more) ≡ stab_answers_from intervals more
puts_stabs [] more intervals p = refl
puts_stabs (Put k v ∷ cs) more intervals p = puts_stabs cs more intervals p
puts_stabs (Add k v ∷ cs) more intervals p = absurd p
puts_stabs (Del k ∷ cs) more intervals p = absurd p
puts_stabs (Get k ∷ cs) more intervals p = absurd p
puts_stabs (Sync ∷ cs) more intervals p = absurd p
puts_stabs (Push k v ∷ cs) more intervals p = absurd p
puts_stabs (Pop ∷ cs) more intervals p = absurd p
puts_stabs (Interval low high ∷ cs) more intervals p = absurd p
puts_stabs (Stab point ∷ cs) more intervals p = absurd p

-- The size of the commands of a whole file, and of these before it, is within that of the run and their number.
pub size_over : (k : FileKind) (text left : List ℕ) (base : List Command) → ArePuts base
    → length (good_commands k text) ≤ commands_taken k text left
    → size_of k (base ++ good_commands k text) ≤ run_size k text left + length base
size_over kind.Map text left base p taken = omega (arith, taken, length-append base (good_commands kind.Map text))
size_over kind.Queue text left base p taken = omega (arith, taken, length-append base (good_commands kind.Queue text))
size_over kind.Dump text left base p taken = omega (arith, taken, length-append base (good_commands kind.Dump text))
size_over kind.Stab text left base p taken =
    let good = good_commands kind.Stab text in
    let all = size_within kind.Stab text left taken in
    let same : length (stab_pairs (base ++ good)) ≡ length (stab_pairs good) =
    ap (λ (answers : List (List ℕ)). length (pairs_from 0 answers)) (puts_stabs base good [] p) in
    omega (arith, all, same, length-append base good)
