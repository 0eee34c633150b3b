-- Reading a text of numbers row by row: what the rows so far are of it, and how it ends.
use Rattle.std.proofs.Common.{◌≡◌, ℕ, ◌+◌, ◌<◌, ◌≤◌, ◌^◌, Bool, true, false, cond, List, [], ◌∷◌, ◌++◌, length, Result, Ok, Err, refl, sym, subst, ap, ◌∙◌, arith, inl, inr, ⊎_elim}
use Rattle.std.specs.Prelude.{Some, None, IfOk, nat_lt}
use Rattle.std.proofs.lemmas.List.{append-nil, length-append}
use Rattle.std.proofs.lemmas.Bool.{cond-true, le-ltb, lt-ltb, cases_lt}
use Rattle.em_model.specs.declared.command.Command.{Command}
use Rattle.em_model.specs.declared.command.Command.TheVariants as command
use Rattle.em_lines.specs.CommandLine.{◌>>=◌, Parsed, before_parsed, in_order, number_of}
use Rattle.em_lines.specs.Kind.{IsOfKind}
use Rattle.em_lines.specs.Lines.{lines_of}
use Rattle.em_lines.specs.Stream.{after_line, after_word, line_at, word_at}
use Rattle.em_lines.specs.declared.text.FileKind.{FileKind}
use Rattle.em_lines.specs.declared.text.FileKind.TheVariants as files
use Rattle.em_lines.specs.declared.text.TextKind.{TextKind}
use Rattle.em_lines.specs.declared.text.TextKind.TheVariants.{LowAboveHigh, TooLong}
use Rattle.em_lines.proofs.ReadLaws.{good_more, line_cut}
use Rattle.em_rows.specs.Answered.{Fits}
use Rattle.em_rows.specs.Rows.{numbered_row, row_fault, row_of, rows_from, rows_in, second_of}
use Rattle.em_rows.specs.Taken.{AreRows, IsRow, RowTaken}
use Rattle.em_rows.specs.declared.kinds.RowKind.{RowKind}
use Rattle.em_rows.specs.declared.kinds.RowKind.TheVariants as kinds

-- These rows were read of a text, of which this is left, and the next line has this number.
pub record RowsGiven (kind : RowKind) (number : ℕ) (text left : List ℕ) (rows : List Command)
    : Type 0 where
  pub good : rows_in kind text ≡ rows ++ (rows_from kind number (lines_of left)).good
  pub fault : row_fault kind text ≡ (rows_from kind number (lines_of left)).fault
  pub count : number ≡ length rows + 1

-- Before any row was read,
pub rows_begin : (kind : RowKind) (text : List ℕ) → RowsGiven kind 1 text text []
rows_begin kind text = record { good = refl; fault = refl; count = omega arith }

module _ {kind : RowKind} {number : ℕ} {text left : List ℕ} {rows : List Command}
    (given : RowsGiven kind number text left rows) where
  -- and with one row more.
  pub rows_more : {after : List ℕ} {row : Command} → RowTaken kind number left after row
      → RowsGiven kind (number + 1) text after (rows ++ row ∷ [])
  rows_more {after} {row} taken = record {
    good = good_more (rows_in kind text) rows (rows ++ row ∷ []) row number
        (rows_from kind number (lines_of left)) (rows_from kind (number + 1) (lines_of after))
        given.good taken.from refl;
    fault = given.fault ∙ ap (λ (p : Parsed). p.fault) taken.from;
    count = omega (arith, given.count, length-append rows (row ∷ []));
  }

  -- The rows so far are among those of the text,
  pub rows_few : length rows ≤ length (rows_in kind text)
  rows_few = omega (
    arith,
    ap length given.good,
    length-append rows (rows_from kind number (lines_of left)).good,
  )

  -- and so is one that comes next.
  pub rows_fewer : {after : List ℕ} {row : Command} → RowTaken kind number left after row
      → length rows + 1 ≤ length (rows_in kind text)
  rows_fewer {after} {row} taken =
      let rest = rows_from kind (number + 1) (lines_of after) in
      omega (
        arith,
        ap length (given.good ∙ ap (λ (p : Parsed). rows ++ p.good) taken.from),
        length-append rows (row ∷ rest.good),
      )

  -- At the text's end it has no fault,
  pub rows_whole : left ≡ [] → row_fault kind text ≡ None
  rows_whole e =
      given.fault ∙ ap (λ (s : List ℕ). (rows_from kind number (lines_of s)).fault) e

  -- and these are all its rows.
  pub rows_end : left ≡ [] → rows_in kind text ≡ rows
  rows_end e =
      given.good ∙ ap (λ (s : List ℕ). rows ++ (rows_from kind number (lines_of s)).good) e
      ∙ append-nil rows

  -- At a faulty line its fault is the text's.
  pub rows_stopped : {fault : TextKind}
      → rows_from kind number (lines_of left) ≡ record { good = []; fault = Some (fault, number) }
      → row_fault kind text ≡ Some (fault, number)
  rows_stopped e = given.fault ∙ ap (λ (p : Parsed). p.fault) e

after_shorter : (s after : List ℕ) → 0 < length s → after ≡ after_line s
    → length after < length s
after_shorter s after some e = ⊎_elim
    (λ (h : length s ≡ length (line_at s) + 1 + length (after_line s)).
    omega (arith, h, ap length e))
    (λ (h : (length s ≡ length (line_at s)) × (after_line s ≡ [])).
    omega (arith, some, ap length e, ap length h.1))
    (line_cut s)

-- A row shortens what is left.
pub row_shorter : {kind : RowKind} {number : ℕ} {before after : List ℕ} {row : Command}
    → RowTaken kind number before after row → length after < length before
row_shorter {before = before} {after = after} taken =
    after_shorter before after taken.some taken.after_is

-- No text has more than 2 ^ 39 rows.

most_step : (number : ℕ) (r : Result Command TextKind) (rest : Parsed) → number ≤ 2 ^ 39
    → length rest.good + (number + 1) ≤ 2 ^ 39 + 1
    → length (before_parsed number r rest).good + number ≤ 2 ^ 39 + 1
most_step number (Ok row) rest early h = omega (arith, h)
most_step number (Err fault) rest early h = omega (arith, early)

most_late : (number : ℕ) (r : Result Command TextKind) (rest : Parsed) → r ≡ Err TooLong
    → number ≤ 2 ^ 39 + 1 → length (before_parsed number r rest).good + number ≤ 2 ^ 39 + 1
most_late number r rest e few =
    omega (arith, few, ap (λ (x : _). length (before_parsed number x rest).good) e)

most_from : (kind : RowKind) (number : ℕ) (lines : List (List ℕ)) → number ≤ 2 ^ 39 + 1
    → length (rows_from kind number lines).good + number ≤ 2 ^ 39 + 1
most_from kind number [] few = omega (arith, few)
most_from kind number (line ∷ lines) few = elim (cases_lt (2 ^ 39) number) [
  | inl late ↦
      most_late number (numbered_row kind number line) (rows_from kind (number + 1) lines)
      (cond-true _ _ _ (lt-ltb (2 ^ 39) number late)) few
  | inr early ↦
      most_step number (numbered_row kind number line) (rows_from kind (number + 1) lines) early
      (most_from kind (number + 1) lines (omega (arith, early)))
]

pub rows_most : (kind : RowKind) (text : List ℕ) → length (rows_in kind text) ≤ 2 ^ 39
rows_most kind text =
    let most = most_from kind 1 (lines_of text) (omega arith) in omega (arith, most)

-- What a line spells is of the kind.

one_is : (make : ℕ → Command) (P : Command → Type 0) (r : Result ℕ TextKind)
    → ((x : ℕ) → P (make x)) → IfOk (r >>= λ x. Ok (make x)) P
one_is make P (Ok x) h = h x
one_is make P (Err fault) h = tt

two_are : (make : ℕ → ℕ → Command) (P : Command → Type 0) (r s : Result ℕ TextKind)
    → ((x y : ℕ) → P (make x y)) → IfOk (r >>= λ x. s >>= λ y. Ok (make x y)) P
two_are make P (Ok x) (Ok y) h = h x y
two_are make P (Ok x) (Err fault) h = tt
two_are make P (Err fault) s h = tt

in_order_is : (x y : ℕ) → IfOk (in_order (command.Interval x y)) (IsRow kinds.Window)
in_order_is x y = elim (cases_lt y x) [
  | inl above ↦
      subst (λ (b : Bool). IfOk (cond b (Err LowAboveHigh) (Ok (command.Interval x y)))
      (IsRow kinds.Window)) (sym (lt-ltb y x above)) tt
  | inr least ↦
      subst (λ (b : Bool). IfOk (cond b (Err LowAboveHigh) (Ok (command.Interval x y)))
      (IsRow kinds.Window)) (sym (le-ltb y x least)) least
]

window_is : (r s : Result ℕ TextKind)
    → IfOk ((r >>= λ x. s >>= λ y. Ok (command.Interval x y)) >>= in_order) (IsRow kinds.Window)
window_is (Ok x) (Ok y) = in_order_is x y
window_is (Ok x) (Err fault) = tt
window_is (Err fault) s = tt

pub row_is : (kind : RowKind) (line : List ℕ) → IfOk (row_of kind line) (IsRow kind)
row_is kinds.Pair line =
    two_are command.Push (IsRow kinds.Pair) (number_of (word_at line)) (second_of (after_word line))
    (λ x y. tt)
row_is kinds.Counted line =
    one_is (λ x. command.Add x 1) (IsRow kinds.Counted) (number_of line) (λ x. refl)
row_is kinds.Asked line = one_is command.Get (IsRow kinds.Asked) (number_of line) (λ x. tt)
row_is kinds.Window line = window_is (number_of (word_at line)) (second_of (after_word line))
row_is kinds.Moment line = one_is command.Stab (IsRow kinds.Moment) (number_of line) (λ x. tt)

numbered_is : (late : Bool) (r : Result Command TextKind) (P : Command → Type 0) → IfOk r P
    → IfOk (cond late (Err TooLong) r) P
numbered_is true r P h = tt
numbered_is false r P h = h

are_step : (kind : RowKind) (number : ℕ) (r : Result Command TextKind) (rest : Parsed)
    → IfOk r (IsRow kind) → AreRows kind rest.good
    → AreRows kind (before_parsed number r rest).good
are_step kind number (Ok row) rest is are = (is, are)
are_step kind number (Err fault) rest is are = tt

are_from : (kind : RowKind) (number : ℕ) (lines : List (List ℕ))
    → AreRows kind (rows_from kind number lines).good
are_from kind number [] = tt
are_from kind number (line ∷ lines) =
    are_step kind number (numbered_row kind number line) (rows_from kind (number + 1) lines)
    (numbered_is (nat_lt (2 ^ 39) number) (row_of kind line) (IsRow kind) (row_is kind line))
    (are_from kind (number + 1) lines)

-- All rows of a text are of its kind.
pub rows_are : (kind : RowKind) (text : List ℕ) → AreRows kind (rows_in kind text)
rows_are kind text = are_from kind 1 (lines_of text)

-- With one row more they are still.
pub are_more : (kind : RowKind) (rows : List Command) (row : Command) → AreRows kind rows
    → IsRow kind row → AreRows kind (rows ++ row ∷ [])
are_more kind [] row are is = (is, tt)
are_more kind (first ∷ rows) row are is = (are.0, are_more kind rows row are.1 is)

-- A service takes a row that fits its file.

counted_fits : (c : Command) → IsRow kinds.Counted c → IsOfKind files.Map c
counted_fits (command.Put key value) is = absurd is
counted_fits (command.Add key value) is = tt
counted_fits (command.Del key) is = absurd is
counted_fits (command.Get key) is = absurd is
counted_fits command.Sync is = absurd is
counted_fits (command.Push key value) is = absurd is
counted_fits command.Pop is = absurd is
counted_fits (command.Interval low high) is = absurd is
counted_fits (command.Stab point) is = absurd is

asked_fits : (c : Command) → IsRow kinds.Asked c → IsOfKind files.Map c
asked_fits (command.Put key value) is = absurd is
asked_fits (command.Add key value) is = absurd is
asked_fits (command.Del key) is = absurd is
asked_fits (command.Get key) is = tt
asked_fits command.Sync is = absurd is
asked_fits (command.Push key value) is = absurd is
asked_fits command.Pop is = absurd is
asked_fits (command.Interval low high) is = absurd is
asked_fits (command.Stab point) is = absurd is

window_fits : (c : Command) → IsRow kinds.Window c → IsOfKind files.Stab c
window_fits (command.Put key value) is = absurd is
window_fits (command.Add key value) is = absurd is
window_fits (command.Del key) is = absurd is
window_fits (command.Get key) is = absurd is
window_fits command.Sync is = absurd is
window_fits (command.Push key value) is = absurd is
window_fits command.Pop is = absurd is
window_fits (command.Interval low high) is = is
window_fits (command.Stab point) is = absurd is

moment_fits : (c : Command) → IsRow kinds.Moment c → IsOfKind files.Stab c
moment_fits (command.Put key value) is = absurd is
moment_fits (command.Add key value) is = absurd is
moment_fits (command.Del key) is = absurd is
moment_fits (command.Get key) is = absurd is
moment_fits command.Sync is = absurd is
moment_fits (command.Push key value) is = absurd is
moment_fits command.Pop is = absurd is
moment_fits (command.Interval low high) is = absurd is
moment_fits (command.Stab point) is = tt

pub row_fits : (kind : RowKind) (file : FileKind) (c : Command) → Fits kind file → IsRow kind c
    → IsOfKind file c
row_fits kinds.Pair file c fits is = absurd fits
row_fits kinds.Counted files.Map c fits is = counted_fits c is
row_fits kinds.Counted files.Queue c fits is = absurd fits
row_fits kinds.Counted files.Stab c fits is = absurd fits
row_fits kinds.Counted files.Dump c fits is = absurd fits
row_fits kinds.Asked files.Map c fits is = asked_fits c is
row_fits kinds.Asked files.Queue c fits is = absurd fits
row_fits kinds.Asked files.Stab c fits is = absurd fits
row_fits kinds.Asked files.Dump c fits is = absurd fits
row_fits kinds.Window files.Map c fits is = absurd fits
row_fits kinds.Window files.Queue c fits is = absurd fits
row_fits kinds.Window files.Stab c fits is = window_fits c is
row_fits kinds.Window files.Dump c fits is = absurd fits
row_fits kinds.Moment files.Map c fits is = absurd fits
row_fits kinds.Moment files.Queue c fits is = absurd fits
row_fits kinds.Moment files.Stab c fits is = moment_fits c is
row_fits kinds.Moment files.Dump c fits is = absurd fits
