-- The records of answers give the text of the answers.
use Rattle.std.proofs.Common.{◌≡◌, ◌≢◌, ℕ, ◌+◌, ◌≤◌, List, [], ◌∷◌, ◌++◌, length, map, refl, ap, sym, ◌∙◌, arith, Option, Some, None}
use Rattle.std.specs.List.{sum_by}
use Rattle.std.proofs.lemmas.Bool.{cond-true, cond-false, eq-eqb, ne_eqb}
use Rattle.std.proofs.lemmas.List.{length-append, length-map}
use Rattle.std.proofs.lemmas.List.Sums.{sum_by-cons}
use Rattle.std.proofs.lemmas.Grind.{flat_map-append}
use Rattle.em_model.specs.Map.{Combiner, Map, no_keys, map_answers_from, map_step, state_after}
use Rattle.em_model.specs.Sync.{since_sync, synced_answers, up_to_sync}
use Rattle.em_model.proofs.SyncLaws.{map_answers-parts, sync_parts}
use Rattle.em_lines.specs.Kind.{IsOfKind}
use Rattle.em_model.specs.Pairs.{pairs_after}
use Rattle.em_model.specs.Stab.{stab_answers}
use Rattle.em_model.specs.declared.command.Command.{Command}
use Rattle.em_model.specs.declared.command.Command.TheVariants.{Put, Add, Del, Get, Sync, Push, Pop, Interval, Stab}
use Rattle.em_model.specs.MapAnswers.{answer_record, answers_after, get_numbers, with_numbers}
use Rattle.em_model.specs.StabAnswers.{pair_record, pairs_from, stab_pairs}
use Rattle.em_lines.specs.BaseLine.{pairs_text}
use Rattle.em_answers.specs.Answer.{answer_line, map_text, stab_text, synced_text, text_at, text_for}
use Rattle.em_answers.specs.Print.{answer_in, answers_in, groups_from, intervals_at, pairs_behind, pairs_in, records_text}
use Rattle.em_lines.specs.RunSize.{pairs_reported}
use Rattle.em_map.specs.Over.{records_of_pairs}
use Rattle.em_services.specs.Service.{records_at_sync, records_for}
use Rattle.em_lines.specs.declared.text.FileKind.{FileKind}
use Rattle.em_lines.specs.declared.text.FileKind.TheVariants as kind

-- the answer of a record is the one that it was made of
answer_back : (n : ℕ) (answer : Option ℕ) → answer_in (answer_record n answer) ≡ answer
answer_back n None = refl
answer_back n (Some value) = refl

answers_back : (apply : Combiner) (n : ℕ) (m : Map) (cs : List Command)
    → answers_in (with_numbers (get_numbers n cs) (map_answers_from apply m cs)) ≡ map_answers_from apply m cs
answers_back apply n m [] = refl
answers_back apply n m (Put key value ∷ cs) = answers_back apply (n + 1) (map_step apply m (Put key value)) cs
answers_back apply n m (Add key value ∷ cs) = answers_back apply (n + 1) (map_step apply m (Add key value)) cs
answers_back apply n m (Del key ∷ cs) = answers_back apply (n + 1) (map_step apply m (Del key)) cs
answers_back apply n m (Get key ∷ cs) =
    ap (λ a. a ∷ answers_in (with_numbers (get_numbers (n + 1) cs) (map_answers_from apply m cs)))
    (answer_back n (m key))
    ∙ ap (λ t. m key ∷ t) (answers_back apply (n + 1) m cs)
answers_back apply n m (Sync ∷ cs) = answers_back apply (n + 1) m cs
answers_back apply n m (Push key value ∷ cs) = answers_back apply (n + 1) m cs
answers_back apply n m (Pop ∷ cs) = answers_back apply (n + 1) m cs
answers_back apply n m (Interval low high ∷ cs) = answers_back apply (n + 1) m cs
answers_back apply n m (Stab point ∷ cs) = answers_back apply (n + 1) m cs

-- the pairs of later stabs aren't of an earlier one
none_at : (stab n : ℕ) (answers : List (List ℕ)) → stab + 1 ≤ n
    → intervals_at stab (pairs_from n answers) ≡ []
none_at stab n [] h = refl
none_at stab n ([] ∷ answers) h = none_at stab (n + 1) answers (omega arith)
none_at stab n ((x ∷ xs) ∷ answers) h = cond-false _ _ _ (ne_eqb n stab (λ e. omega (arith, e, h)))

none_behind : (stab n : ℕ) (answers : List (List ℕ)) → stab + 1 ≤ n
    → pairs_behind stab (pairs_from n answers) ≡ pairs_from n answers
none_behind stab n [] h = refl
none_behind stab n ([] ∷ answers) h = none_behind stab (n + 1) answers (omega arith)
none_behind stab n ((x ∷ xs) ∷ answers) h =
    cond-false _ _ _ (ne_eqb n stab (λ e. omega (arith, e, h)))

-- the pairs of a stab, and those after them
own_at : (stab : ℕ) (numbers : List ℕ) (answers : List (List ℕ))
    → intervals_at stab (map (pair_record stab) numbers ++ pairs_from (stab + 1) answers)
    ≡ numbers
own_at stab [] answers = none_at stab (stab + 1) answers (omega arith)
own_at stab (x ∷ xs) answers =
    cond-true _ _ _ (eq-eqb stab stab refl) ∙ ap (λ t. x ∷ t) (own_at stab xs answers)

own_behind : (stab : ℕ) (numbers : List ℕ) (answers : List (List ℕ))
    → pairs_behind stab (map (pair_record stab) numbers ++ pairs_from (stab + 1) answers)
    ≡ pairs_from (stab + 1) answers
own_behind stab [] answers = none_behind stab (stab + 1) answers (omega arith)
own_behind stab (x ∷ xs) answers =
    cond-true _ _ _ (eq-eqb stab stab refl) ∙ own_behind stab xs answers

groups_back : (stab : ℕ) (answers : List (List ℕ))
    → groups_from stab (length answers) (pairs_from stab answers) ≡ answers
groups_back stab [] = refl
groups_back stab (numbers ∷ answers) =
    ap (λ a. a ∷ groups_from (stab + 1) (length answers)
    (pairs_behind stab (map (pair_record stab) numbers ++ pairs_from (stab + 1) answers)))
    (own_at stab numbers answers)
    ∙ ap (λ t. numbers ∷ groups_from (stab + 1) (length answers) t)
    (own_behind stab numbers answers)
    ∙ ap (λ t. numbers ∷ t) (groups_back (stab + 1) answers)

-- the pairs of the records that were made of some pairs
pairs_back : (pairs : List (ℕ × ℕ)) → pairs_in (records_of_pairs pairs) ≡ pairs
pairs_back [] = refl
pairs_back (p ∷ ps) = ap (λ qs. p ∷ qs) (pairs_back ps)

-- The text of the records of a map's answers is that of the answers.
pub sync_text : (apply : Combiner) (before cs : List Command) → map_text (answers_in (answers_after apply before cs))
    ≡ map_text (map_answers_from apply (state_after apply no_keys before) cs)
sync_text apply before cs = ap map_text (answers_back apply (1 + length before) (state_after apply no_keys before) cs)

-- At a sync it is what the sync prints,
pub text_at_sync : (apply : Combiner) (k : FileKind) (given : List Command) → k ≢ kind.Queue → IsOfKind k Sync
    → records_text k 0 (records_at_sync apply k (up_to_sync given) (since_sync given)) ≡ text_at apply k given Sync
text_at_sync apply kind.Map given n is = sync_text apply (up_to_sync given) (since_sync given)
text_at_sync apply kind.Queue given n is = absurd (n refl)
text_at_sync apply kind.Stab given n is = absurd is
text_at_sync apply kind.Dump given n is = refl

-- and with what was printed before it is the text of all answers at the end.
pub text_whole : (apply : Combiner) (k : FileKind) (cs : List Command) → k ≢ kind.Queue
    → synced_text apply k cs ++ records_text k (length (stab_answers cs)) (records_for apply k (up_to_sync cs) (since_sync cs))
    ≡ text_for apply k cs
text_whole apply kind.Map cs n =
    ap (λ t. map_text (synced_answers apply cs) ++ t) (sync_text apply (up_to_sync cs) (since_sync cs))
    ∙ sym (flat_map-append answer_line (synced_answers apply cs)
    (map_answers_from apply (state_after apply no_keys (up_to_sync cs)) (since_sync cs)))
    ∙ ap map_text (sym (map_answers-parts apply cs))
text_whole apply kind.Queue cs n = absurd (n refl)
text_whole apply kind.Stab cs n =
    ap (λ xs. stab_text (groups_from 0 (length (stab_answers cs)) (stab_pairs xs))) (sync_parts cs)
    ∙ ap stab_text (groups_back 0 (stab_answers cs))
text_whole apply kind.Dump cs n =
    ap (λ xs. pairs_text (pairs_in (records_of_pairs (pairs_after apply xs)))) (sync_parts cs)
    ∙ ap pairs_text (pairs_back (pairs_after apply cs))

pairs_length : (n : ℕ) (answers : List (List ℕ))
    → length (pairs_from n answers) ≡ sum_by length answers
pairs_length n [] = refl
pairs_length n (numbers ∷ answers) =
    let e = length-append (map (pair_record n) numbers) (pairs_from (n + 1) answers) in
    let m = length-map numbers (pair_record n) in
    let r = pairs_length (n + 1) answers in
    let s = sum_by-cons length numbers answers in
    omega (arith, e, m, r, s)

-- as many pairs are reported as there are
pub pairs_counted : (cs : List Command) → length (stab_pairs cs) ≡ pairs_reported cs
pairs_counted cs = pairs_length 0 (stab_answers cs)
