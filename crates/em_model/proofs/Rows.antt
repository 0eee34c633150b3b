-- Worked rows: lists of commands and their answers, which the definitions compute.
use Rattle.std.proofs.Common.{◌≡◌, ◌+◌, [], ◌∷◌, ◌++◌, refl, Some, None}
use Rattle.em_model.specs.declared.command.Command.TheVariants.{Put, Del, Get, Add, Sync, Push, Pop, Interval, Stab}
use Rattle.em_model.specs.Base.{map_of, puts_of}
use Rattle.em_model.specs.Live.{live_keys}
use Rattle.em_model.specs.Map.{Combiner, map_answers, map_answers_from}
use Rattle.em_model.specs.Queue.{queue_answers}
use Rattle.em_model.specs.Stab.{stab_answers}
use Rattle.em_model.specs.MapAnswers.{answer_record, answers_after}
use Rattle.em_model.specs.Pairs.{pairs_after}
use Rattle.em_model.specs.StabAnswers.{pair_record, stab_pairs}
use Rattle.em_model.specs.Sync.{since_sync, synced_answers, syncs_of, up_to_sync}

-- no command here is an add: any combiner
no_adds : Combiner
no_adds = λ x y. x

-- a get answers the last put before it, and none after a del
map_of_one_key :
    map_answers no_adds (Put 5 10 ∷ Get 5 ∷ Put 5 11 ∷ Get 5 ∷ Del 5 ∷ Get 5 ∷ [])
    ≡ Some 10 ∷ Some 11 ∷ None ∷ []
map_of_one_key = refl

-- keys are told apart, from the least to the greatest
map_of_the_ends :
    map_answers no_adds (Get 0 ∷ Put 0 7 ∷ Put 18446744073709551615 8 ∷ Del 9 ∷ Get 18446744073709551615
    ∷ Get 0 ∷ [])
    ≡ None ∷ Some 8 ∷ Some 7 ∷ []
map_of_the_ends = refl

-- a sync changes no answer
map_with_sync : map_answers no_adds (Put 1 5 ∷ Get 1 ∷ Sync ∷ Del 1 ∷ Get 1 ∷ []) ≡ Some 5 ∷ None ∷ []
map_with_sync = refl

-- an add joins its value to that of its key, the old one first; alone where the key has none
map_of_adds : (apply : Combiner)
    → map_answers apply (Put 1 9 ∷ Add 1 2 ∷ Get 1 ∷ Del 1 ∷ Add 1 2 ∷ Add 1 3 ∷ Get 1 ∷ Add 2 4 ∷ Get 2 ∷ [])
    ≡ Some (apply 9 2) ∷ Some (apply 2 3) ∷ Some 4 ∷ []
map_of_adds apply = refl

-- an add between two gets is seen by the second alone
map_between_gets : (apply : Combiner) → map_answers apply (Add 1 2 ∷ Get 1 ∷ Add 1 5 ∷ Get 1 ∷ [])
    ≡ Some 2 ∷ Some (apply 2 5) ∷ []
map_between_gets apply = refl

-- the last sync cuts the commands
cut_at_last : up_to_sync (Get 1 ∷ Sync ∷ Get 2 ∷ Sync ∷ Get 3 ∷ []) ≡ Get 1 ∷ Sync ∷ Get 2 ∷ Sync ∷ []
cut_at_last = refl

since_last : since_sync (Get 1 ∷ Sync ∷ Get 2 ∷ Sync ∷ Get 3 ∷ []) ≡ Get 3 ∷ []
since_last = refl

two_syncs : syncs_of (Get 1 ∷ Sync ∷ Get 2 ∷ Sync ∷ Get 3 ∷ []) ≡ 2
two_syncs = refl

-- without a sync nothing is printed before the end
cut_nowhere : up_to_sync (Put 1 5 ∷ Get 1 ∷ []) ≡ []
cut_nowhere = refl

-- of these commands a faulty line after them prints the answers before the sync alone
printed_at_fault : synced_answers no_adds (Put 1 5 ∷ Get 1 ∷ Sync ∷ Get 1 ∷ []) ≡ Some 5 ∷ []
printed_at_fault = refl

-- a sync has a number, as each command has
numbered_on : answers_after no_adds (Put 1 5 ∷ Get 1 ∷ Sync ∷ []) (Get 1 ∷ []) ≡ answer_record 4 (Some 5) ∷ []
numbered_on = refl

-- a key that is cleared, or set again, has no pair or one
live_after_five : live_keys (Put 1 5 ∷ Put 2 6 ∷ Del 1 ∷ Put 2 7 ∷ Put 3 8 ∷ []) ≡ 2 ∷ 3 ∷ []
live_after_five = refl

-- so has one to which a value is added, even after a del
live_after_adds : live_keys (Add 1 5 ∷ Del 2 ∷ Add 2 6 ∷ Add 1 7 ∷ Add 3 8 ∷ Del 3 ∷ []) ≡ 2 ∷ 1 ∷ []
live_after_adds = refl

-- keys ascend whatever the order of the puts; the last put of a key counts, and a del takes its key away
pairs_of_three : pairs_after no_adds (Put 3 1 ∷ Put 1 2 ∷ Put 2 9 ∷ Del 2 ∷ []) ≡ (1, 2) ∷ (3, 1) ∷ []
pairs_of_three = refl

-- a key that is cleared and put again has its later value, and stands once
pairs_put_again :
    pairs_after no_adds (Put 7 1 ∷ Del 7 ∷ Put 5 2 ∷ Put 7 3 ∷ Put 7 4 ∷ Get 7 ∷ Sync ∷ []) ≡ (5, 2) ∷ (7, 4) ∷ []
pairs_put_again = refl

-- an add joins its value to that of its key, the old one first; alone where the key has none
pairs_of_adds : (apply : Combiner)
    → pairs_after apply (Add 9 1 ∷ Put 4 9 ∷ Add 4 2 ∷ Del 9 ∷ Add 9 5 ∷ Add 4 3 ∷ [])
    ≡ (4, apply (apply 9 2) 3) ∷ (9, 5) ∷ []
pairs_of_adds apply = refl

-- the ends of the range are keys, and zero is a value
pairs_of_the_ends : pairs_after no_adds (Put 18446744073709551615 8 ∷ Put 0 0 ∷ []) ≡ (0, 0) ∷ (18446744073709551615, 8) ∷ []
pairs_of_the_ends = refl

-- a map that was emptied has no pair, and one of no put neither
no_pairs_left : pairs_after no_adds (Put 1 5 ∷ Sync ∷ Del 1 ∷ Get 1 ∷ []) ≡ []
no_pairs_left = refl

no_pairs_of_others : pairs_after no_adds (Push 5 1 ∷ Interval 5 5 ∷ Get 5 ∷ Pop ∷ Stab 5 ∷ Del 5 ∷ []) ≡ []
no_pairs_of_others = refl

-- values are added
abbrev sum : Combiner
sum = λ x y. x + y

-- a map that begins at pairs has their values, and an add joins its value to one of them
base_of_two :
    map_answers_from sum (map_of ((1, 2) ∷ (3, 1) ∷ [])) (Get 3 ∷ Add 3 4 ∷ Get 3 ∷ Get 2 ∷ [])
    ≡ Some 1 ∷ Some 5 ∷ None ∷ []
base_of_two = refl

-- and answers as one that gets a put for each pair first
puts_of_two :
    map_answers sum (puts_of ((1, 2) ∷ (3, 1) ∷ []) ++ Get 3 ∷ Add 3 4 ∷ Get 3 ∷ Get 2 ∷ [])
    ≡ Some 1 ∷ Some 5 ∷ None ∷ []
puts_of_two = refl

-- a map that begins at no pair is empty
base_of_none : map_answers_from sum (map_of []) (Get 3 ∷ Add 3 4 ∷ Get 3 ∷ []) ≡ None ∷ Some 4 ∷ []
base_of_none = refl

-- elements of one key leave in the order of their pushes, whatever their values
queue_of_one_key :
    queue_answers (Push 4 1 ∷ Push 4 2 ∷ Pop ∷ Push 4 0 ∷ Pop ∷ Pop ∷ Pop ∷ [])
    ≡ Some (4, 1) ∷ Some (4, 2) ∷ Some (4, 0) ∷ None ∷ []
queue_of_one_key = refl

-- the least key leaves first
queue_of_two_keys :
    queue_answers (Push 9 1 ∷ Push 0 2 ∷ Pop ∷ Pop ∷ Pop ∷ [])
    ≡ Some (0, 2) ∷ Some (9, 1) ∷ None ∷ []
queue_of_two_keys = refl

-- both ends belong to an interval
stab_of_three :
    stab_answers (Stab 5 ∷ Interval 5 5 ∷ Interval 7 18446744073709551615 ∷ Stab 5 ∷ Stab 6
    ∷ Stab 18446744073709551615 ∷ Interval 0 5 ∷ Stab 5 ∷ [])
    ≡ [] ∷ (0 ∷ []) ∷ [] ∷ (1 ∷ []) ∷ (0 ∷ 2 ∷ []) ∷ []
stab_of_three = refl

-- a stab sees the earlier intervals alone
stab_before_interval : stab_answers (Stab 5 ∷ Interval 0 9 ∷ []) ≡ [] ∷ []
stab_before_interval = refl

-- a pair for each stab and each interval of its answer, stab by stab
pairs_of_two :
    stab_pairs (Interval 5 9 ∷ Stab 9 ∷ Interval 7 7 ∷ Stab 10 ∷ Stab 7 ∷ [])
    ≡ pair_record 0 0 ∷ pair_record 2 0 ∷ pair_record 2 1 ∷ []
pairs_of_two = refl

-- the commands of the other two files change nothing and answer nothing
map_of_others : map_answers no_adds (Push 5 1 ∷ Interval 5 5 ∷ Get 5 ∷ Pop ∷ Stab 5 ∷ []) ≡ None ∷ []
map_of_others = refl

queue_of_others :
    queue_answers (Put 5 1 ∷ Interval 5 5 ∷ Get 5 ∷ Sync ∷ Pop ∷ Del 5 ∷ Stab 5 ∷ []) ≡ None ∷ []
queue_of_others = refl

stab_of_others :
    stab_answers (Put 5 1 ∷ Push 5 1 ∷ Get 5 ∷ Pop ∷ Sync ∷ Del 5 ∷ Stab 5 ∷ []) ≡ [] ∷ []
stab_of_others = refl
