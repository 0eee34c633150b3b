-- The laws of a service that holds no area, and whose moves are counted by the size of its kind of file.
use Rattle.std.specs.Prelude.{ℕ, ◌+◌, ◌≤◌, ◌++◌, ◌∷◌, [], List, length, map}
use Rattle.std.proofs.Common.{ap, arith, length-append}
use Rattle.em_model.specs.Map.{Combiner, no_keys, state_after}
use Rattle.em_model.specs.MapAnswers.{answers_after}
use Rattle.em_model.specs.Stab.{intervals_after, stab_answers, stab_answers_from}
use Rattle.em_model.specs.StabAnswers.{pair_record, pairs_from, stab_pairs}
use Rattle.em_model.specs.declared.command.Command.{Command}
use Rattle.em_model.proofs.AnswerLaws.{answers_few}
use Rattle.em_model.proofs.StabLaws.{stab_answers_from-append}
use Rattle.em_lines.specs.declared.text.FileKind.{FileKind}
use Rattle.em_lines.specs.declared.text.FileKind.TheVariants.{Map, Queue, Stab, Dump}
use Rattle.em_services.specs.Service.{size_of}

pub no_area : 0 ≤ 1
no_area = omega arith

pub size_most : (kind : FileKind) (cs : List Command) → size_of kind cs ≤ size_of kind cs
size_most kind cs = omega arith

-- more answers have no fewer pairs
pairs_rise : (n : ℕ) (xs ys : List (List ℕ)) → length (pairs_from n xs) ≤ length (pairs_from n (xs ++ ys))
pairs_rise n [] ys = omega arith
pairs_rise n (x ∷ xs) ys =
    let rest = pairs_rise (n + 1) xs ys in
    let few = length-append (map (pair_record n) x) (pairs_from (n + 1) xs) in
    let many = length-append (map (pair_record n) x) (pairs_from (n + 1) (xs ++ ys)) in
    omega (arith, rest, few, many)

pub size_rises : (kind : FileKind) (cs more : List Command) → size_of kind cs ≤ size_of kind (cs ++ more)
size_rises Map cs more = omega (arith, length-append cs more)
size_rises Queue cs more = omega (arith, length-append cs more)
size_rises Dump cs more = omega (arith, length-append cs more)
size_rises Stab cs more =
    let later = stab_answers_from (intervals_after [] cs) more in
    let all = ap (λ (xs : List (List ℕ)). length (pairs_from 0 xs)) (stab_answers_from-append [] cs more) in
    let rest = pairs_rise 0 (stab_answers cs) later in
    omega (arith, length-append cs more, all, rest)

pub map_answers_few : (apply : Combiner) (before cs : List Command)
    → length (answers_after apply before cs) ≤ length (before ++ cs)
map_answers_few apply before cs =
    let few = answers_few apply (1 + length before) (state_after apply no_keys before) cs in
    omega (arith, few, length-append before cs)

pub stab_answers_few : (cs : List Command) → length (stab_pairs cs) ≤ length cs + length (stab_pairs cs)
stab_answers_few cs = omega arith

-- at a sync nothing is due
pub none_few : {n : ℕ} → 0 ≤ n
none_few = omega arith
