-- The row of a line, from its numbers.
use Rattle.std.proofs.Common.{◌≡◌, ℕ, true, false, List, Result, Ok, Err, refl, sym, ap, ◌∙◌}
use Rattle.em_model.specs.declared.command.Command.{Command}
use Rattle.em_model.specs.declared.command.Command.TheVariants as command
use Rattle.em_lines.specs.CommandLine.{◌>>=◌, in_order, number_of}
use Rattle.em_lines.specs.Stream.{after_word, word_at}
use Rattle.em_lines.specs.declared.text.TextKind.{TextKind}
use Rattle.em_rows.specs.Ahead.{has_two, row_with}
use Rattle.em_rows.specs.Rows.{row_of, second_of}
use Rattle.em_rows.specs.declared.kinds.RowKind.{RowKind}
use Rattle.em_rows.specs.declared.kinds.RowKind.TheVariants as kinds

-- the row of one number, if it has no fault
abbrev pub from_one : RowKind → Result ℕ TextKind → Result Command TextKind
from_one kind r = r >>= λ x. row_with kind x 0

-- the row of two numbers, of which each may have a fault
abbrev pub from_two : RowKind → Result ℕ TextKind → Result ℕ TextKind → Result Command TextKind
from_two kind r s = r >>= λ x. s >>= λ y. row_with kind x y

windows_same : (r s : Result ℕ TextKind)
    → ((r >>= λ x. s >>= λ y. Ok (command.Interval x y)) >>= in_order)
    ≡ (r >>= λ x. s >>= λ y. in_order (command.Interval x y))
windows_same (Ok x) (Ok y) = refl
windows_same (Ok x) (Err fault) = refl
windows_same (Err fault) s = refl

-- a line of one number is that number
pub row_of_one : (kind : RowKind) (line : List ℕ) → has_two kind ≡ false
    → row_of kind line ≡ from_one kind (number_of line)
row_of_one kinds.Pair line e = cc
row_of_one kinds.Counted line e = refl
row_of_one kinds.Asked line e = refl
row_of_one kinds.Window line e = cc
row_of_one kinds.Moment line e = refl

-- one of two numbers is the word before its first space, and all after that space
pub row_of_two : (kind : RowKind) (line : List ℕ) → has_two kind ≡ true
    → row_of kind line ≡ from_two kind (number_of (word_at line)) (second_of (after_word line))
row_of_two kinds.Pair line e = refl
row_of_two kinds.Counted line e = cc
row_of_two kinds.Asked line e = cc
row_of_two kinds.Window line e =
    windows_same (number_of (word_at line)) (second_of (after_word line))
row_of_two kinds.Moment line e = cc

pub one_ok : (kind : RowKind) (line : List ℕ) (x : ℕ) (r : Result Command TextKind)
    → has_two kind ≡ false → Ok x ≡ number_of line → r ≡ row_with kind x 0
    → r ≡ row_of kind line
one_ok kind line x r one e is = is ∙ ap (from_one kind) e ∙ sym (row_of_one kind line one)

pub one_err : (kind : RowKind) (line : List ℕ) (fault : TextKind) → has_two kind ≡ false
    → Err fault ≡ number_of line → Err fault ≡ row_of kind line
one_err kind line fault one e = ap (from_one kind) e ∙ sym (row_of_one kind line one)

pub two_ok : (kind : RowKind) (line : List ℕ) (x y : ℕ) (r : Result Command TextKind)
    → has_two kind ≡ true → Ok x ≡ number_of (word_at line) → Ok y ≡ second_of (after_word line)
    → r ≡ row_with kind x y → r ≡ row_of kind line
two_ok kind line x y r two e f is =
    is ∙ ap (from_two kind (Ok x)) f
    ∙ ap (λ (s : _). from_two kind s (second_of (after_word line))) e
    ∙ sym (row_of_two kind line two)

pub two_err : (kind : RowKind) (line : List ℕ) (x : ℕ) (fault : TextKind) → has_two kind ≡ true
    → Ok x ≡ number_of (word_at line) → Err fault ≡ second_of (after_word line)
    → Err fault ≡ row_of kind line
two_err kind line x fault two e f =
    ap (from_two kind (Ok x)) f
    ∙ ap (λ (s : _). from_two kind s (second_of (after_word line))) e
    ∙ sym (row_of_two kind line two)

pub two_first_err : (kind : RowKind) (line : List ℕ) (fault : TextKind) → has_two kind ≡ true
    → Err fault ≡ number_of (word_at line) → Err fault ≡ row_of kind line
two_first_err kind line fault two e =
    ap (λ (s : _). from_two kind s (second_of (after_word line))) e
    ∙ sym (row_of_two kind line two)
