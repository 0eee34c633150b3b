-- What a map answers that adds 1 for each word is how often the words stand.
use Rattle.std.proofs.Common.{◌≡◌, ℕ, ◌+◌, ◌<◌, ◌≤◌, ◌^◌, Bool, true, false, cond, List, [], ◌∷◌, ◌++◌, length, refl, sym, ap, ◌∙◌, arith, Option, Some, None, unwrap_or}
use Rattle.std.specs.Prelude.{◌==◌, filter, decimal}
use Rattle.em_record.specs.declared.record.Record.{Record}
use Rattle.em_settle.specs.Add.{apply_of}
use Rattle.em_settle.specs.declared.combine.Combine.{Combine}
use Rattle.em_settle.specs.declared.combine.Combine.TheVariants.{Sum}
use Rattle.em_model.specs.Map.{Combiner, Map, joined_to, map_step, no_keys, state_after, value_from}
use Rattle.em_model.specs.MapAnswers.{answer_record, answers_of}
use Rattle.em_model.specs.declared.command.Command.{Command}
use Rattle.em_model.specs.declared.command.Command.TheVariants.{Put, Add, Del, Get, Sync, Push, Pop, Interval, Stab}
use Rattle.em_model.proofs.AnswerLaws.{answers_of-append}
use Rattle.em_model.proofs.MapLaws.{state_after-value}
use Rattle.em_lines.specs.declared.text.FileKind.TheVariants as files
use Rattle.em_rows.specs.Answered.{answered_text}
use Rattle.em_rows.specs.Rows.{rows_in, rows_text}
use Rattle.em_rows.specs.Taken.{AreRows}
use Rattle.em_rows.specs.declared.kinds.Columns.TheVariants as columns
use Rattle.em_rows.specs.declared.kinds.RowKind.TheVariants as kind
use Rattle.em_rows.proofs.RowLaws.{rows_are, rows_most}
use Rattle.count_words.specs.Counts.{count_line, count_lines, count_plan, counts_text, keys_of, times_of}

-- the sum modulo 2 ^ 64
abbrev sum : Combiner
sum = apply_of Sum

-- a count, or 0 if there is none
abbrev count_in : Option ℕ → ℕ
count_in count = unwrap_or count 0

-- Words answer nothing.
none_answered : (n : ℕ) (m : Map) (words : List Command) → AreRows kind.Counted words
    → answers_of sum n m words ≡ []
none_answered n m [] are = refl
none_answered n m (Add key value ∷ words) are =
    none_answered (n + 1) (map_step sum m (Add key value)) words are.1
none_answered n m (Put key value ∷ words) are = absurd are.0
none_answered n m (Del key ∷ words) are = absurd are.0
none_answered n m (Get key ∷ words) are = absurd are.0
none_answered n m (Sync ∷ words) are = absurd are.0
none_answered n m (Push key value ∷ words) are = absurd are.0
none_answered n m (Pop ∷ words) are = absurd are.0
none_answered n m (Interval low high ∷ words) are = absurd are.0
none_answered n m (Stab point ∷ words) are = absurd are.0

-- one more, of less than 2 ^ 64
one_more : (before : Option ℕ) (value : ℕ) → value ≡ 1 → count_in before + 1 < 2 ^ 64
    → joined_to sum before value ≡ count_in before + 1
one_more None value one few = omega (arith, one)
one_more (Some old) value one few = omega (arith, one, few)

-- the count after a word, whether it is the word that is counted
counted_next : (here : Bool) (word key value : ℕ) (before : Option ℕ) (words : List Command) (others : List ℕ)
    → value ≡ 1 → count_in before + (length words + 1) < 2 ^ 64
    → ((next : Option ℕ) → count_in next + length words < 2 ^ 64
    → count_in (value_from sum word next words) ≡ count_in next + length others)
    → count_in (value_from sum word (cond here (Some (joined_to sum before value)) before) words)
    ≡ count_in before + length (cond here (key ∷ others) others)
counted_next true word key value before words others one few after =
    let next = one_more before value one (omega (arith, few)) in
    let all = after (Some (joined_to sum before value)) (omega (arith, next, few)) in
    omega (arith, next, all)
counted_next false word key value before words others one few after = after before (omega (arith, few))

-- The count of a word rises by as often as it stands.
counted : (word : ℕ) (before : Option ℕ) (words : List Command) → AreRows kind.Counted words
    → count_in before + length words < 2 ^ 64
    → count_in (value_from sum word before words) ≡ count_in before + times_of word (keys_of words)
counted word before [] are few = omega arith
counted word before (Add key value ∷ words) are few =
    counted_next (word == key) word key value before words (filter (λ other. word == other) (keys_of words)) are.0
    (omega (arith, few)) (λ next less. counted word next words are.1 less)
counted word before (Put key value ∷ words) are few = absurd are.0
counted word before (Del key ∷ words) are few = absurd are.0
counted word before (Get key ∷ words) are few = absurd are.0
counted word before (Sync ∷ words) are few = absurd are.0
counted word before (Push key value ∷ words) are few = absurd are.0
counted word before (Pop ∷ words) are few = absurd are.0
counted word before (Interval low high ∷ words) are few = absurd are.0
counted word before (Stab point ∷ words) are few = absurd are.0

none_before : (n : ℕ) → 0 + n ≡ n
none_before n = omega arith

count_printed : (n : ℕ) (count : Option ℕ) → (answer_record n count).c ≡ count_in count
count_printed n None = refl
count_printed n (Some count) = refl

-- The line of each word that is asked has its count.
lines_are : (n : ℕ) (m : Map) (words : List ℕ) (asked : List Command) → AreRows kind.Asked asked
    → ((word : ℕ) → count_in (m word) ≡ times_of word words)
    → rows_text columns.Value (answers_of sum n m asked) ≡ count_lines words (keys_of asked)
lines_are n m words [] are counts = refl
lines_are n m words (Get key ∷ asked) are counts =
    ap (λ (count : ℕ). (decimal count ++ 10 ∷ []) ++ rows_text columns.Value (answers_of sum (n + 1) m asked))
    (count_printed n (m key) ∙ counts key)
    ∙ ap (λ (text : List ℕ). count_line words key ++ text) (lines_are (n + 1) m words asked are.1 counts)
lines_are n m words (Put key value ∷ asked) are counts = absurd are.0
lines_are n m words (Add key value ∷ asked) are counts = absurd are.0
lines_are n m words (Del key ∷ asked) are counts = absurd are.0
lines_are n m words (Sync ∷ asked) are counts = absurd are.0
lines_are n m words (Push key value ∷ asked) are counts = absurd are.0
lines_are n m words (Pop ∷ asked) are counts = absurd are.0
lines_are n m words (Interval low high ∷ asked) are counts = absurd are.0
lines_are n m words (Stab point ∷ asked) are counts = absurd are.0

-- What a map prints that counts words by their sum is how often they stand: no file has enough lines for a count of 2 ^ 64.
pub counts_are : (words asked : List ℕ)
    → answered_text sum files.Map count_plan words asked ≡ counts_text words asked
counts_are words asked =
    let ws = rows_in kind.Counted words in
    let gs = rows_in kind.Asked asked in
    let are = rows_are kind.Counted words in
    let after = state_after sum no_keys ws in
    let most = rows_most kind.Counted words in
    let counts : (word : ℕ) → count_in (after word) ≡ times_of word (keys_of ws) = λ word.
    ap (λ (count : Option ℕ). count_in count) (state_after-value sum no_keys ws word)
    ∙ counted word None ws are (omega (arith, most)) ∙ none_before (times_of word (keys_of ws)) in
    ap (rows_text columns.Value) (answers_of-append sum 1 no_keys ws gs
    ∙ ap (λ (answers : List Record). answers ++ answers_of sum (1 + length ws) after gs)
    (none_answered 1 no_keys ws are))
    ∙ lines_are (1 + length ws) after (keys_of ws) gs (rows_are kind.Asked asked) counts

-- So does one whose closure is said to sum.
pub counts_by : (combine : Combine) → combine ≡ Sum → (words asked : List ℕ)
    → answered_text (apply_of combine) files.Map count_plan words asked ≡ counts_text words asked
counts_by combine e words asked =
    ap (λ (c : Combine). answered_text (apply_of c) files.Map count_plan words asked) e ∙ counts_are words asked
