-- The size of the commands that a service was given so far, and of those of a whole text.
use Rattle.std.proofs.Common.{◌≡◌, ℕ, ◌≤◌, List, ◌++◌, ap, sym, ◌∙◌, arith, append_assoc}
use Rattle.em_record.specs.Shape.{ShapeNumbers}
use Rattle.em_model.specs.declared.command.Command.{Command}
use Rattle.em_lines.specs.declared.text.FileKind.{FileKind}
use Rattle.em_services.specs.Service.{size_of}
use Rattle.em_services.specs.SizeLaws.{size_rises}

-- Rows that come after others: all are one list.
pub rows_joined : (before cs a b : List Command) → before ++ (cs ++ a) ++ b ≡ before ++ (cs ++ (a ++ b))
rows_joined before cs a b =
    append_assoc before (cs ++ a) b ∙ ap (λ (xs : List Command). before ++ xs) (append_assoc cs a b)

pub rows_apart : (before cs a : List Command) → before ++ (cs ++ a) ≡ before ++ cs ++ a
rows_apart before cs a = sym (append_assoc before cs a)

pub rows_both : (before cs a b : List Command) → before ++ (cs ++ a) ++ b ≡ before ++ cs ++ (a ++ b)
rows_both before cs a b = rows_joined before cs a b ∙ rows_apart before cs (a ++ b)

-- The rows so far have at most the size of all of a text.
pub rows_sized : (kind : FileKind) (before cs given rest rows : List Command) → rows ≡ given ++ rest
    → size_of kind (before ++ (cs ++ given)) ≤ size_of kind (before ++ cs ++ rows)
rows_sized kind before cs given rest rows e =
    let front = size_rises kind (before ++ (cs ++ given)) rest in
    let same : before ++ (cs ++ given) ++ rest ≡ before ++ cs ++ rows =
    rows_both before cs given rest ∙ ap (λ (xs : List Command). before ++ cs ++ xs) (sym e) in
    let size = ap (λ (xs : List Command). size_of kind xs) same in
    omega (arith, front, size)

-- A service counts by the same size as before, by an equal shape.
pub size_kept : (a b : ShapeNumbers → List Command → ℕ) (p q : ShapeNumbers) (xs ys : List Command) → b ≡ a → q ≡ p
    → xs ≡ ys → a p xs ≡ b q ys
size_kept a b p q xs ys e shape same =
    ap (λ (zs : List Command). a p zs) same ∙ ap (λ (r : ShapeNumbers). a r ys) (sym shape)
    ∙ ap (λ (f : ShapeNumbers → List Command → ℕ). f q ys) (sym e)
