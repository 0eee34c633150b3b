-- Texts of a shelf in memory, by their places.
use Rattle.std.proofs.Common.{◌≡◌, ◌<◌, ◌≤◌, ◌+◌, ◌-◌, ℕ, zero, suc, true, List, [], ◌∷◌, ◌++◌, length, take, drop, get_or, sym, ap, ◌∙◌, refl, arith, Some}
use Rattle.std.specs.Prelude.{bytes_eq}
use Rattle.std.proofs.lemmas.List.{drop_more, take_at, drop-drop, take-append-drop, length-take-le, length-drop}
use Rattle.em_io.specs.MemShelf.{NamedText, text_under}
use Rattle.em_io.specs.MemTexts.{bytes_at}

-- the text with this index
pub bytes_at-read : (texts : List NamedText) (i : ℕ) (text : NamedText)
    → i < length texts → text ≡ get_or texts i text → bytes_at texts i ≡ text.bytes
bytes_at-read [] i text h e = absurd (omega arith)
bytes_at-read (x ∷ texts) zero text h e = ap (λ t. t.bytes) (sym e)
bytes_at-read (x ∷ texts) (suc i) text h e = bytes_at-read texts i text (omega arith) e

-- no text has this index
pub bytes_at-past : (texts : List NamedText) (i : ℕ) → length texts ≤ i → bytes_at texts i ≡ []
bytes_at-past [] i h = refl
bytes_at-past (x ∷ texts) zero h = absurd (omega arith)
bytes_at-past (x ∷ texts) (suc i) h = bytes_at-past texts i (omega arith)

-- a read of n bytes at a place
pub read-splits : (s copied into : List ℕ) (at n k : ℕ)
    → k ≡ n → copied ≡ take k (drop at s) → n ≤ length s - at
    → drop at s ≡ take n (copied ++ drop n into) ++ drop (at + n) s
read-splits s copied into at n k same e le =
    let short = length-take-le k (drop at s) (omega (arith, length-drop at s)) in
    let len : length copied ≡ n = ap length e ∙ short ∙ same in
    let front : take n (copied ++ drop n into) ≡ copied = take_at copied (drop n into) n len in
    rw (front, e, same, ← drop-drop n at s) (sym (take-append-drop n (drop at s)))

-- the first text of this name
pub text_under-hit : (texts : List NamedText) (name : List ℕ) (i : ℕ) (text : NamedText)
    → i < length texts → text ≡ get_or texts i text → bytes_eq text.name name ≡ true
    → text_under (drop i texts) name ≡ Some (bytes_at texts i)
text_under-hit texts name i text h e b =
    rw (drop_more texts i text h, ← e, b, bytes_at-read texts i text h e) refl
