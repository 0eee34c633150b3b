-- What an interval list answers is which windows hold each moment.
use Rattle.std.proofs.Common.{◌≡◌, ℕ, ◌+◌, Bool, true, false, cond, List, [], ◌∷◌, ◌++◌, length, map, refl, sym, ap, ◌∙◌, arith, append_assoc, length-append}
use Rattle.std.proofs.lemmas.Grind.{flat_map-append}
use Rattle.std.proofs.lemmas.List.{append-nil}
use Rattle.std.specs.Prelude.{◌&&◌, filter, nat_le}
use Rattle.em_model.specs.Map.{Combiner}
use Rattle.em_model.specs.Stab.{NumberedInterval, holders_of, holds_point, intervals_after, stab_answers_from, stab_step}
use Rattle.em_model.specs.StabAnswers.{pair_record, pairs_from}
use Rattle.em_model.specs.declared.command.Command.{Command}
use Rattle.em_model.specs.declared.command.Command.TheVariants.{Put, Add, Del, Get, Sync, Push, Pop, Interval, Stab}
use Rattle.em_model.proofs.StabLaws.{stab_answers_from-append}
use Rattle.em_lines.specs.declared.text.FileKind.TheVariants as files
use Rattle.em_rows.specs.Answered.{answered_text}
use Rattle.em_rows.specs.Rows.{row_line, rows_in, rows_text}
use Rattle.em_rows.specs.Taken.{AreRows}
use Rattle.em_rows.specs.declared.kinds.Columns.TheVariants as columns
use Rattle.em_rows.specs.declared.kinds.RowKind.TheVariants as kind
use Rattle.em_rows.proofs.RowLaws.{rows_are}
use Rattle.windows.specs.Holding.{holding_from, holding_line, holding_lines, holding_plan, holding_text}

-- Windows answer nothing.
none_answered : (before : List NumberedInterval) (windows : List Command) → AreRows kind.Window windows
    → stab_answers_from before windows ≡ []
none_answered before [] are = refl
none_answered before (Interval low high ∷ windows) are =
    none_answered (stab_step before (Interval low high)) windows are.1
none_answered before (Put key value ∷ windows) are = absurd are.0
none_answered before (Add key value ∷ windows) are = absurd are.0
none_answered before (Del key ∷ windows) are = absurd are.0
none_answered before (Get key ∷ windows) are = absurd are.0
none_answered before (Sync ∷ windows) are = absurd are.0
none_answered before (Push key value ∷ windows) are = absurd are.0
none_answered before (Pop ∷ windows) are = absurd are.0
none_answered before (Stab point ∷ windows) are = absurd are.0

-- the windows of some rows, of which the first has this number
abbrev numbered : ℕ → List Command → List NumberedInterval
numbered number [] = []
numbered number (Interval low high ∷ windows) =
    record { number = number; low = low; high = high } ∷ numbered (number + 1) windows
numbered number (other ∷ windows) = numbered number windows

-- Windows that come after others are numbered on.
intervals_are : (before : List NumberedInterval) (windows : List Command) → AreRows kind.Window windows
    → intervals_after before windows ≡ before ++ numbered (length before) windows
intervals_are before [] are = sym (append-nil before)
intervals_are before (Interval low high ∷ windows) are =
    let x : NumberedInterval = record { number = length before; low = low; high = high } in
    intervals_are (before ++ x ∷ []) windows are.1
    ∙ ap (λ (n : ℕ). (before ++ x ∷ []) ++ numbered n windows) (length-append before (x ∷ []))
    ∙ append_assoc before (x ∷ []) (numbered (length before + 1) windows)
intervals_are before (Put key value ∷ windows) are = absurd are.0
intervals_are before (Add key value ∷ windows) are = absurd are.0
intervals_are before (Del key ∷ windows) are = absurd are.0
intervals_are before (Get key ∷ windows) are = absurd are.0
intervals_are before (Sync ∷ windows) are = absurd are.0
intervals_are before (Push key value ∷ windows) are = absurd are.0
intervals_are before (Pop ∷ windows) are = absurd are.0
intervals_are before (Stab point ∷ windows) are = absurd are.0

-- the lines of a moment and of these windows, by their numbers
abbrev lines_in : ℕ → List ℕ → List ℕ
lines_in moment windows = rows_text columns.Numbers (map (pair_record moment) windows)

-- those of the windows that hold it, with one window more before the others
lines_next : (holds : Bool) (moment : ℕ) (x : NumberedInterval) (others : List NumberedInterval) (text : List ℕ)
    → lines_in moment (map (λ i. i.number) others) ≡ text
    → lines_in moment (map (λ i. i.number) (cond holds (x ∷ others) others))
    ≡ cond holds (holding_line moment x.number ++ text) text
lines_next true moment x others text e = ap (λ (t : List ℕ). holding_line moment x.number ++ t) e
lines_next false moment x others text e = e

lines_are : (moment point window : ℕ) (windows : List Command) → AreRows kind.Window windows
    → lines_in moment (holders_of point (numbered window windows)) ≡ holding_lines moment point window windows
lines_are moment point window [] are = refl
lines_are moment point window (Interval low high ∷ windows) are =
    lines_next (nat_le low point && nat_le point high) moment (record { number = window; low = low; high = high })
    (filter (holds_point point) (numbered (window + 1) windows)) (holding_lines moment point (window + 1) windows)
    (lines_are moment point (window + 1) windows are.1)
lines_are moment point window (Put key value ∷ windows) are = absurd are.0
lines_are moment point window (Add key value ∷ windows) are = absurd are.0
lines_are moment point window (Del key ∷ windows) are = absurd are.0
lines_are moment point window (Get key ∷ windows) are = absurd are.0
lines_are moment point window (Sync ∷ windows) are = absurd are.0
lines_are moment point window (Push key value ∷ windows) are = absurd are.0
lines_are moment point window (Pop ∷ windows) are = absurd are.0
lines_are moment point window (Stab other ∷ windows) are = absurd are.0

-- The lines of all moments, after these windows.
moments_are : (moment : ℕ) (windows moments : List Command) → AreRows kind.Window windows
    → AreRows kind.Moment moments
    → rows_text columns.Numbers (pairs_from moment (stab_answers_from (numbered 0 windows) moments))
    ≡ holding_from moment windows moments
moments_are moment windows [] held are = refl
moments_are moment windows (Stab point ∷ moments) held are =
    let later = pairs_from (moment + 1) (stab_answers_from (numbered 0 windows) moments) in
    flat_map-append (row_line columns.Numbers) (map (pair_record moment) (holders_of point (numbered 0 windows))) later
    ∙ ap (λ (text : List ℕ). text ++ rows_text columns.Numbers later) (lines_are moment point 0 windows held)
    ∙ ap (λ (text : List ℕ). holding_lines moment point 0 windows ++ text)
    (moments_are (moment + 1) windows moments held are.1)
moments_are moment windows (Put key value ∷ moments) held are = absurd are.0
moments_are moment windows (Add key value ∷ moments) held are = absurd are.0
moments_are moment windows (Del key ∷ moments) held are = absurd are.0
moments_are moment windows (Get key ∷ moments) held are = absurd are.0
moments_are moment windows (Sync ∷ moments) held are = absurd are.0
moments_are moment windows (Push key value ∷ moments) held are = absurd are.0
moments_are moment windows (Pop ∷ moments) held are = absurd are.0
moments_are moment windows (Interval low high ∷ moments) held are = absurd are.0

-- an interval list has no adds: any combiner
abbrev no_adds : Combiner
no_adds = λ x y. x

-- What an interval list prints that is asked after it was given all windows is which of them hold each moment.
pub holding_are : (windows moments : List ℕ)
    → answered_text no_adds files.Stab holding_plan windows moments ≡ holding_text windows moments
holding_are windows moments =
    let ws = rows_in kind.Window windows in
    let ms = rows_in kind.Moment moments in
    let are = rows_are kind.Window windows in
    ap (λ (answers : List (List ℕ)). rows_text columns.Numbers (pairs_from 0 answers))
    (stab_answers_from-append [] ws ms
    ∙ ap (λ (answers : List (List ℕ)). answers ++ stab_answers_from (intervals_after [] ws) ms) (none_answered [] ws are)
    ∙ ap (λ (intervals : List NumberedInterval). stab_answers_from intervals ms) (intervals_are [] ws are))
    ∙ moments_are 0 ws ms are (rows_are kind.Moment moments)
