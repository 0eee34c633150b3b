-- The gets among some commands.
use Rattle.std.specs.Prelude.{◌≡◌, ℕ, ◌+◌, ◌≤◌, List, [], ◌∷◌, ◌++◌, length, Option}
use Rattle.std.proofs.Common.{arith}
use Rattle.em_record.specs.declared.record.Record.{Record}
use Rattle.em_model.specs.Map.{Combiner, Map, map_answers_from, map_step, no_keys, state_after}
use Rattle.em_model.specs.MapAnswers.{answers_after, answers_of, get_numbers, with_numbers}
use Rattle.em_model.specs.declared.command.Command.{Command}
use Rattle.em_model.specs.declared.command.Command.TheVariants.{Put, Add, Del, Get, Sync, Push, Pop, Interval, Stab}
use Rattle.em_map.specs.Commands.{gets_of}

pub gets-append : (cs ds : List Command) → gets_of (cs ++ ds) ≡ gets_of cs + gets_of ds
gets-append [] ds = omega arith
gets-append (Get key ∷ cs) ds = omega (arith, gets-append cs ds)
gets-append (Put key value ∷ cs) ds = gets-append cs ds
gets-append (Add key value ∷ cs) ds = gets-append cs ds
gets-append (Del key ∷ cs) ds = gets-append cs ds
gets-append (Sync ∷ cs) ds = gets-append cs ds
gets-append (Push key value ∷ cs) ds = gets-append cs ds
gets-append (Pop ∷ cs) ds = gets-append cs ds
gets-append (Interval low high ∷ cs) ds = gets-append cs ds
gets-append (Stab point ∷ cs) ds = gets-append cs ds

-- a command is one at most
pub one_get : (c : Command) → gets_of (c ∷ []) ≤ 1
one_get (Get key) = omega arith
one_get (Put key value) = omega arith
one_get (Add key value) = omega arith
one_get (Del key) = omega arith
one_get Sync = omega arith
one_get (Push key value) = omega arith
one_get Pop = omega arith
one_get (Interval low high) = omega arith
one_get (Stab point) = omega arith

numbered_gets : (n : ℕ) (cs : List Command) → length (get_numbers n cs) ≡ gets_of cs
numbered_gets n [] = omega arith
numbered_gets n (Get key ∷ cs) = omega (arith, numbered_gets (n + 1) cs)
numbered_gets n (Put key value ∷ cs) = numbered_gets (n + 1) cs
numbered_gets n (Add key value ∷ cs) = numbered_gets (n + 1) cs
numbered_gets n (Del key ∷ cs) = numbered_gets (n + 1) cs
numbered_gets n (Sync ∷ cs) = numbered_gets (n + 1) cs
numbered_gets n (Push key value ∷ cs) = numbered_gets (n + 1) cs
numbered_gets n (Pop ∷ cs) = numbered_gets (n + 1) cs
numbered_gets n (Interval low high ∷ cs) = numbered_gets (n + 1) cs
numbered_gets n (Stab point ∷ cs) = numbered_gets (n + 1) cs

with_few : (ns : List ℕ) (answers : List (Option ℕ)) → length (with_numbers ns answers) ≤ length ns
with_few [] answers = omega arith
with_few (n ∷ ns) [] = omega arith
with_few (n ∷ ns) (answer ∷ answers) = omega (arith, with_few ns answers)

-- Each answer is that of a get.
pub gets_answered : (apply : Combiner) (before cs : List Command) → length (answers_after apply before cs) ≤ gets_of cs
gets_answered apply before cs =
    let m = state_after apply no_keys before in
    let few = with_few (get_numbers (1 + length before) cs) (map_answers_from apply m cs) in
    let same = numbered_gets (1 + length before) cs in
    omega (arith, few, same)
