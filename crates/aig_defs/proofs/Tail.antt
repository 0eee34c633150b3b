-- What the items of the tail take, and that the tail leaves nothing.
use Rattle.std.proofs.Common.{◌≡◌, ◌+◌, ◌^◌, ◌<◌, Bool, true, false, cond, leb, eqb, List, [], ◌∷◌, ℕ, zero, suc, sym, ◌∙◌, refl, length, Option, Some, None}
use Rattle.std.proofs.lemmas.Bool.{leb-false}
use Rattle.aig_defs.specs.declared.fault.AigKind.TheVariants.{TooLong}
use Rattle.aig_defs.specs.declared.circuit.Header.{Header}
use Rattle.aig_defs.specs.declared.form.Limit.TheVariants.{Position}
use Rattle.aig_defs.specs.Items.{Reading, Reads, Fails, Item, ◌>>◌, take_byte}
use Rattle.aig_defs.specs.Tail.{name, comment, symbol, positions, symbol_line, tail_line_at, tail_line, go_on, tail_lines, tail}
use Rattle.aig_defs.proofs.Items.{through, Piece, TakesPieces, pieces_of, piece_byte, piece_then, value_takes, takes_then, look_cases, space_takes, number_takes}

-- a byte that is passed over, by whether it is the last one, and then the bytes after it
pass_by : (far last : Bool) (more : Reading (Unit {0})) (p byte : ℕ) (x : List ℕ) (a : Unit {0})
    (q : ℕ) (y : List ℕ)
    → leb (2 ^ 50) p ≡ far → (more ≡ Reads a q y → Piece (p + 1) x q y)
    → cond far (Fails TooLong (2 ^ 50)) (cond last (Reads tt (p + 1) x) more) ≡ Reads a q y
    → Piece p (byte ∷ x) q y
pass_by true last more p byte x a q y t f e = cc
pass_by false true more p byte x a q y t f e =
    let place : p + 1 ≡ q = cc in
    let left : x ≡ y = cc in
    rw (sym place, sym left) (piece_byte p byte x (leb-false _ _ t))
pass_by false false more p byte x a q y t f e =
    piece_then (piece_byte p byte x (leb-false _ _ t)) (f e)

pub name_takes : TakesPieces name
name_takes p [] a q y e = value_takes tt p [] a q y e
name_takes p (byte ∷ x) a q y e =
    pass_by _ (eqb byte 10) (name (p + 1) x) p byte x a q y refl (name_takes (p + 1) x a q y) e

pub comment_takes : TakesPieces comment
comment_takes p [] a q y e = value_takes tt p [] a q y e
comment_takes p (byte ∷ x) a q y e =
    pass_by _ false (comment (p + 1) x) p byte x a q y refl (comment_takes (p + 1) x a q y) e

pub symbol_takes : (n : ℕ) → TakesPieces (symbol n)
symbol_takes n =
    takes_then (takes_then (pieces_of (number_takes (Position n))) (λ _. space_takes))
    (λ _. name_takes)

-- a line of the tail
line_by : (is_comment : Bool) (section : Option ℕ) (p byte : ℕ) (x : List ℕ) (a : Bool) (q : ℕ)
    (y : List ℕ) → p < 2 ^ 50
    → cond is_comment ((take_byte >> comment >> Reads false) p (byte ∷ x))
    (symbol_line section p (byte ∷ x)) ≡ Reads a q y
    → Piece p (byte ∷ x) q y
line_by true section p byte x a q y low e =
    piece_then (piece_byte p byte x low)
    (takes_then comment_takes (λ _. value_takes false) (p + 1) x a q y e)
line_by false None p byte x a q y low e = cc
line_by false (Some n) p byte x a q y low e =
    piece_then (piece_byte p byte x low)
    (takes_then (symbol_takes n) (λ _. value_takes true) (p + 1) x a q y e)

pub tail_line_takes : (h : Header) → TakesPieces (tail_line h)
tail_line_takes h p x a q y e =
    look_cases (λ x. Piece p x q y) (tail_line_at h) p x a q y e
    (λ e. value_takes false p [] a q y e)
    (λ byte t low e. line_by (eqb byte 99) (positions h byte) p byte t a q y low e)

go_takes : {more : Item (Unit {0})} → TakesPieces more → (b : Bool) → TakesPieces (go_on more b)
go_takes f true p x a q y e = f p x a q y e
go_takes f false p x a q y e = value_takes tt p x a q y e

pub tail_lines_take : (h : Header) (n : ℕ) → TakesPieces (tail_lines h n)
tail_lines_take h zero p x a q y e = cc
tail_lines_take h (suc n) p x a q y e =
    takes_then (tail_line_takes h) (go_takes (tail_lines_take h n)) p x a q y e

pub tail_takes : (h : Header) → TakesPieces (tail h)
tail_takes h p x a q y e = tail_lines_take h (length x + 1) p x a q y e

-- the comment leaves nothing
end_by : (far : Bool) (more : Reading (Unit {0})) (a : Unit {0}) (q : ℕ) (y : List ℕ)
    → (more ≡ Reads a q y → y ≡ []) → cond far (Fails TooLong (2 ^ 50)) more ≡ Reads a q y
    → y ≡ []
end_by true more a q y f e = cc
end_by false more a q y f e = f e

comment_ends : (p : ℕ) (x : List ℕ) (a : Unit {0}) (q : ℕ) (y : List ℕ) → comment p x ≡ Reads a q y
    → y ≡ []
comment_ends p [] a q y e = cc
comment_ends p (byte ∷ x) a q y e =
    end_by (leb (2 ^ 50) p) (comment (p + 1) x) a q y (comment_ends (p + 1) x a q y) e

-- nor does a line after which none may follow
last_by : (is_comment : Bool) (section : Option ℕ) (p byte : ℕ) (x : List ℕ) (q : ℕ) (y : List ℕ)
    → cond is_comment ((take_byte >> comment >> Reads false) p (byte ∷ x))
    (symbol_line section p (byte ∷ x)) ≡ Reads false q y
    → y ≡ []
last_by true section p byte x q y e =
    let t = through (comment (p + 1) x) (λ _. Reads false) false q y e in
    let same : t.left ≡ y = cc (t.after) in
    sym same ∙ comment_ends (p + 1) x t.value t.place t.left t.first
last_by false None p byte x q y e = cc
last_by false (Some n) p byte x q y e =
    let t = through (symbol n (p + 1) x) (λ _. Reads true) false q y e in cc (t.after)

last_ends : (h : Header) (p : ℕ) (x : List ℕ) (q : ℕ) (y : List ℕ) → tail_line h p x ≡ Reads false q y
    → y ≡ []
last_ends h p x q y e =
    look_cases (λ _. y ≡ []) (tail_line_at h) p x false q y e (λ e. cc)
    (λ byte t low e. last_by (eqb byte 99) (positions h byte) p byte t q y e)

go_ends : (h : Header) (n : ℕ) (b : Bool) (p : ℕ) (x : List ℕ) (p2 : ℕ) (x2 : List ℕ) (a : Unit {0})
    (q : ℕ) (y : List ℕ) → tail_line h p x ≡ Reads b p2 x2
    → (tail_lines h n p2 x2 ≡ Reads a q y → y ≡ []) → go_on (tail_lines h n) b p2 x2 ≡ Reads a q y
    → y ≡ []
go_ends h n true p x p2 x2 a q y l f e = f e
go_ends h n false p x p2 x2 a q y l f e =
    let same : x2 ≡ y = cc in sym same ∙ last_ends h p x p2 x2 l

lines_end : (h : Header) (n p : ℕ) (x : List ℕ) (a : Unit {0}) (q : ℕ) (y : List ℕ)
    → tail_lines h n p x ≡ Reads a q y → y ≡ []
lines_end h zero p x a q y e = cc
lines_end h (suc n) p x a q y e =
    let t = through (tail_line h p x) (go_on (tail_lines h n)) a q y e in
    go_ends h n t.value p x t.place t.left a q y t.first (lines_end h n t.place t.left a q y)
    t.after

-- the tail leaves nothing
pub tail_ends : (h : Header) (p : ℕ) (x : List ℕ) (a : Unit {0}) (q : ℕ) (y : List ℕ)
    → tail h p x ≡ Reads a q y → y ≡ []
tail_ends h p x a q y e = lines_end h (length x + 1) p x a q y e
