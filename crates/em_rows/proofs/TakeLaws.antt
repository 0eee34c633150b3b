-- The first line of what is left of a text, as a row.
use Rattle.std.proofs.Common.{◌≡◌, ℕ, ◌+◌, ◌<◌, ◌≤◌, ◌^◌, List, [], ◌∷◌, length, Ok, sym, subst, ap, ◌∙◌, arith, Result}
use Rattle.std.specs.Prelude.{IfOk, Some}
use Rattle.std.proofs.lemmas.Bool.{cond-false, cond-true, le-ltb, lt-ltb}
use Rattle.em_model.specs.declared.command.Command.{Command}
use Rattle.em_lines.specs.CommandLine.{before_parsed}
use Rattle.em_lines.specs.Lines.{lines_of}
use Rattle.em_lines.specs.Stops.{IfFault, StopsBy}
use Rattle.em_lines.specs.Stream.{after_line, line_at}
use Rattle.em_lines.specs.declared.text.LineStop.{LineStop}
use Rattle.em_lines.specs.declared.text.LineStop.TheVariants as stop
use Rattle.em_lines.specs.declared.text.TextKind.{TextKind}
use Rattle.em_lines.specs.declared.text.TextKind.TheVariants.{TooLong}
use Rattle.em_lines.proofs.LineLemmas.{lines_of-line_at}
use Rattle.em_rows.specs.Rows.{numbered_row, row_of, rows_from}
use Rattle.em_rows.specs.Taken.{IsRow, RowTaken}
use Rattle.em_rows.specs.declared.kinds.RowKind.{RowKind}
use Rattle.em_rows.proofs.RowLaws.{row_is}

-- what is spelled from a text on that has a byte is its first line and what is spelled after that
rows_next : (k : RowKind) (n b : ℕ) (s bs : List ℕ) → s ≡ b ∷ bs
    → rows_from k n (lines_of s)
    ≡ before_parsed n (numbered_row k n (line_at s)) (rows_from k (n + 1) (lines_of (after_line s)))
rows_next k n b s bs e =
    ap (λ (t : List ℕ). rows_from k n (lines_of t)) e
    ∙ ap (rows_from k n) (lines_of-line_at b bs)
    ∙ ap (λ (t : List ℕ). before_parsed n (numbered_row k n (line_at t))
    (rows_from k (n + 1) (lines_of (after_line t)))) (sym e)

-- a line that spells a row
pub row_taken : (k : RowKind) (n b : ℕ) (s bs t : List ℕ) (row : Command) → s ≡ b ∷ bs
    → n ≤ 2 ^ 39 → row_of k (line_at s) ≡ Ok row → t ≡ after_line s → RowTaken k n s t row
row_taken k n b s bs t row e few spells after = record {
  from = rows_next k n b s bs e
      ∙ ap (λ (r : Result Command TextKind). before_parsed n r
      (rows_from k (n + 1) (lines_of (after_line s))))
      (cond-false _ _ _ (le-ltb (2 ^ 39) n few) ∙ spells)
      ∙ ap (λ (u : List ℕ). before_parsed n (Ok row) (rows_from k (n + 1) (lines_of u))) (sym after);
  some = omega (arith, ap length e);
  after_is = after;
}

-- a line with a fault
pub row_faulty : (k : RowKind) (n b : ℕ) (s bs : List ℕ) (e : LineStop) → s ≡ b ∷ bs
    → n ≤ 2 ^ 39 → StopsBy e (row_of k (line_at s))
    → IfFault e (λ f. rows_from k n (lines_of s) ≡ record { good = []; fault = Some (f, n) })
row_faulty k n b s bs (stop.Fault f) e few spells =
    rows_next k n b s bs e
    ∙ ap (λ (r : Result Command TextKind). before_parsed n r
    (rows_from k (n + 1) (lines_of (after_line s))))
    (cond-false _ _ _ (le-ltb (2 ^ 39) n few) ∙ spells)
row_faulty k n b s bs stop.Read e few spells = tt

-- a line past the last one that a text may have
pub row_late : (k : RowKind) (n b : ℕ) (s bs : List ℕ) → s ≡ b ∷ bs → 2 ^ 39 < n
    → rows_from k n (lines_of s) ≡ record { good = []; fault = Some (TooLong, n) }
row_late k n b s bs e many =
    rows_next k n b s bs e
    ∙ ap (λ (r : Result Command TextKind). before_parsed n r
    (rows_from k (n + 1) (lines_of (after_line s))))
    (cond-true _ _ _ (lt-ltb (2 ^ 39) n many))

-- A line that spells a row spells one of the kind.
pub kind_of_row : (k : RowKind) (line : List ℕ) (row : Command) → row_of k line ≡ Ok row
    → IsRow k row
kind_of_row k line row e =
    subst (λ (r : Result Command TextKind). IfOk r (IsRow k)) e (row_is k line)
