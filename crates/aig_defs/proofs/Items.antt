-- What an item that was read took: a piece of the text, from its place on, and no byte at 2^50.
use Rattle.std.proofs.Common.{◌*◌, inl, inr, ◌≡◌, ◌+◌, ◌-◌, ◌^◌, ◌<◌, ◌≤◌, Bool, true, false, cond, leb, ltb, eqb, ◌&&◌, List, [], ◌∷◌, ◌++◌, ℕ, zero, suc, min, sym, ap, ◌∙◌, refl, arith, length, take, drop, Option, Some, None, append_assoc}
use Rattle.std.proofs.lemmas.Bool.{leb-true, leb-false, ltb-false, eqb-false, and_cases, and_parts}
use Rattle.std.proofs.lemmas.List.{length-append}
use Rattle.std.specs.List.{prefix_len}
use Rattle.std.specs.Char.{is_ascii_digit}
use Rattle.std.specs.Str.Parse.{digits_value}
use Rattle.std.proofs.lemmas.List.Sums.{prefix_len-le-length}
use Rattle.std.proofs.lemmas.List.Folds.{length-prefix_len}
use Rattle.aig_defs.specs.declared.fault.AigKind.{AigKind}
use Rattle.aig_defs.specs.declared.fault.AigKind.TheVariants.{BadNumber, BadDelta, TooLong}
use Rattle.aig_defs.specs.declared.form.Limit.{Limit}
use Rattle.aig_defs.specs.Items.{Reading, Reads, Fails, Item, fails, and_then, ◌>>=◌, ◌>>◌, times, look, take_byte, space_at, space, end_at, digits, looks_too_far, no_number, number_fault, number_by, number, delta_at, delta_bytes, delta}

-- what was read after a reading
pub record Through {A B : Type 0} (r : Reading A) (next : A → Item B) (result : Reading B) : Type
    0 where
  pub value : A
  pub place : ℕ
  pub left : List ℕ
  pub first : r ≡ Reads value place left
  pub after : next value place left ≡ result

pub through : {A B : Type 0} (r : Reading A) (next : A → Item B) (b : B) (q : ℕ) (y : List ℕ)
    → and_then r next ≡ Reads b q y → Through r next (Reads b q y)
through (Reads a p x) next b q y e =
    record { value = a; place = p; left = x; first = refl; after = e }
through (Fails kind place) next b q y e = cc

-- A piece was taken at the place p of a text, of which x was left; y is left at the place q after
-- it.
pub record Piece (p : ℕ) (x : List ℕ) (q : ℕ) (y : List ℕ) : Type 0 where
  pub bytes : List ℕ
  pub text : x ≡ bytes ++ y
  pub place : q ≡ p + length bytes
  pub within : p ≤ 2 ^ 50 → q ≤ 2 ^ 50

-- whatever the item reads is such a piece
abbrev pub TakesPieces : {A : Type 0} → Item A → Type 0
TakesPieces {A} item = (p : ℕ) (x : List ℕ) (a : A) (q : ℕ) (y : List ℕ) → item p x ≡ Reads a q y
    → Piece p x q y

pub piece_none : (p : ℕ) (x : List ℕ) → Piece p x p x
piece_none p x = record { bytes = []; text = refl; place = omega arith; within = λ h. h }

pub piece_then : {p : ℕ} {x : List ℕ} {q : ℕ} {y : List ℕ} {r : ℕ} {z : List ℕ}
    → Piece p x q y → Piece q y r z → Piece p x r z
piece_then m n = record {
  bytes = m.bytes ++ n.bytes;
  text = m.text ∙ ap (λ t. m.bytes ++ t) n.text ∙ sym (append_assoc m.bytes n.bytes _);
  place = omega (arith, m.place, n.place, length-append m.bytes n.bytes);
  within = λ h. n.within (m.within h);
}

pub piece_as : {p : ℕ} {x : List ℕ} {q : ℕ} {y : List ℕ} {r : ℕ} {z : List ℕ}
    → Piece p x q y → q ≡ r → y ≡ z → Piece p x r z
piece_as m place left = rw (sym place, sym left) m

-- one byte
pub piece_byte : (p byte : ℕ) (x : List ℕ) → p < 2 ^ 50 → Piece p (byte ∷ x) (p + 1) x
piece_byte p byte x low =
    record { bytes = byte ∷ []; text = refl; place = refl; within = λ h. omega arith }

-- a value alone
pub value_takes : {A : Type 0} (v : A) → TakesPieces (Reads v)
value_takes v p x a q y e =
    let same : p ≡ q = cc in
    let left : x ≡ y = cc in
    rw (sym same, sym left) (piece_none p x)

-- an item and the next one
pub takes_then : {A B : Type 0} {item : Item A} {next : A → Item B} → TakesPieces item
    → ((a : A) → TakesPieces (next a)) → TakesPieces (item >>= next)
takes_then {A} {B} {item} {next} f g p x b q y e =
    let t = through (item p x) next b q y e in
    piece_then (f p x t.value t.place t.left t.first) (g t.value t.place t.left b q y t.after)

-- such a piece with a byte or more
abbrev pub TakesBytes : {A : Type 0} → Item A → Type 0
TakesBytes {A} item =
    (p : ℕ) (x : List ℕ) (a : A) (q : ℕ) (y : List ℕ) → item p x ≡ Reads a q y
    → Piece p x q y × (p < q)

pub pieces_of : {A : Type 0} {item : Item A} → TakesBytes item → TakesPieces item
pieces_of f p x a q y e = (f p x a q y e).0

-- an item with a byte or more, and the next one
pub bytes_then : {A B : Type 0} {item : Item A} {next : A → Item B} → TakesBytes item
    → ((a : A) → TakesPieces (next a)) → TakesBytes (item >>= next)
bytes_then {A} {B} {item} {next} f g p x b q y e =
    let t = through (item p x) next b q y e in
    let first = f p x t.value t.place t.left t.first in
    let rest = g t.value t.place t.left b q y t.after in
    (piece_then first.0 rest, omega (arith, first.1, rest.place))

-- an item that looks at a byte: there is none, or it is below 2^50
look_by : {A : Type 0} (P : Type 0) (far : Bool) (next : Option ℕ → Item A) (p byte : ℕ)
    (x : List ℕ)
    (a : A) (q : ℕ) (y : List ℕ) → leb (2 ^ 50) p ≡ far
    → (p < 2 ^ 50 → next (Some byte) p (byte ∷ x) ≡ Reads a q y → P)
    → and_then (cond far (Fails TooLong (2 ^ 50)) (Reads (Some byte) p (byte ∷ x))) next
    ≡ Reads a q y
    → P
look_by P true next p byte x a q y t f e = cc
look_by P false next p byte x a q y t f e = f (leb-false _ _ t) e

pub look_cases : {A : Type 0} (P : List ℕ → Type 0) (next : Option ℕ → Item A) (p : ℕ) (x : List ℕ)
    (a : A) (q : ℕ) (y : List ℕ) → and_then (look p x) next ≡ Reads a q y
    → (next None p [] ≡ Reads a q y → P [])
    → ((byte : ℕ) (t : List ℕ) → p < 2 ^ 50 → next (Some byte) p (byte ∷ t) ≡ Reads a q y
    → P (byte ∷ t))
    → P x
look_cases P next p [] a q y e f g = f e
look_cases P next p (byte ∷ x) a q y e f g =
    look_by (P (byte ∷ x)) (leb (2 ^ 50) p) next p byte x a q y refl (g byte x) e

-- a byte that is taken if it is the one, and else fails
byte_by : (one : Bool) (kind : AigKind) (p byte : ℕ) (x : List ℕ) (a : Unit {0}) (q : ℕ)
    (y : List ℕ)
    → p < 2 ^ 50 → cond one (take_byte p (byte ∷ x)) (Fails kind p) ≡ Reads a q y
    → Piece p (byte ∷ x) q y
byte_by true kind p byte x a q y low e =
    let place : p + 1 ≡ q = cc in
    let left : x ≡ y = cc in
    rw (sym place, sym left) (piece_byte p byte x low)
byte_by false kind p byte x a q y low e = cc

pub space_takes : TakesPieces space
space_takes p x a q y e = look_cases (λ x. Piece p x q y) space_at p x a q y e (λ e. cc)
    (λ byte t low e. byte_by (eqb byte 32) _ p byte t a q y low e)

pub end_takes : (fault : ℕ → AigKind) → TakesPieces (look >>= end_at fault)
end_takes fault p x a q y e = look_cases (λ x. Piece p x q y) (end_at fault) p x a q y e
    (λ e. value_takes tt p [] a q y e)
    (λ byte t low e. byte_by (eqb byte 10) _ p byte t a q y low e)

-- a run of digits
run_text : (n : ℕ) (x : List ℕ) → take n x ++ drop (length (take n x)) x ≡ x
run_text zero x = refl
run_text (suc n) [] = refl
run_text (suc n) (byte ∷ x) = ap (λ t. byte ∷ t) (run_text n x)

-- numbers alone: a run of k digits that looks at no byte at the limit ends there at most
run_within : (limit p k n : ℕ) → (leb limit (p + min k 20) && ltb (limit - p) n) ≡ false
    → k ≤ 20 → k ≤ n → p ≤ limit → p + k ≤ limit
run_within limit p k n e few part low = elim (and_cases _ _ e) [
  | inl a ↦ let near : p + min k 20 < limit = leb-false _ _ a in omega arith
  | inr b ↦ let near : n ≤ limit - p = ltb-false _ _ b in omega arith
]

-- what is known of a number that was read
pub record ReadsNumber (limit : Limit) (p : ℕ) (x : List ℕ) (v q : ℕ) (y : List ℕ) : Type 0 where
  pub near : looks_too_far (digits x) p x ≡ false
  pub some : 1 ≤ length (digits x)
  pub few : length (digits x) ≤ 20
  pub value : v ≡ digits_value 10 (digits x)
  pub sound : number_fault limit v ≡ None
  pub place : q ≡ p + length (digits x)
  pub left : y ≡ drop (length (digits x)) x

no_number_fails : (p : ℕ) (x : List ℕ) (v q : ℕ) (y : List ℕ) → no_number p x ≡ Reads v q y → ⊥
no_number_fails p [] v q y e = cc
no_number_fails p (byte ∷ x) v q y e = cc

number_by_reads : (limit : Limit) (fault : Option AigKind) (p : ℕ) (x : List ℕ) (v q : ℕ)
    (y : List ℕ)
    → looks_too_far (digits x) p x ≡ false → 1 ≤ length (digits x) → length (digits x) ≤ 20
    → number_fault limit (digits_value 10 (digits x)) ≡ fault
    → number_by fault (digits x) p x ≡ Reads v q y → ReadsNumber limit p x v q y
number_by_reads limit (Some kind) p x v q y near some few f e = cc
number_by_reads limit None p x v q y near some few f e =
    let value : digits_value 10 (digits x) ≡ v = cc in
    record {
      near = near;
      some = some;
      few = few;
      value = sym value;
      sound = ap (number_fault limit) (sym value) ∙ f;
      place = cc;
      left = cc;
    }

number_reads_by : (limit : Limit) (far none many : Bool) (p : ℕ) (x : List ℕ) (v q : ℕ) (y : List ℕ)
    → looks_too_far (digits x) p x ≡ far → eqb (length (digits x)) 0 ≡ none
    → ltb 20 (length (digits x)) ≡ many
    → cond far (Fails TooLong (2 ^ 50)) (cond none (no_number p x) (cond many (Fails BadNumber p)
    (number_by (number_fault limit (digits_value 10 (digits x))) (digits x) p x))) ≡ Reads v q y
    → ReadsNumber limit p x v q y
number_reads_by limit true none many p x v q y f n m e = cc
number_reads_by limit false true many p x v q y f n m e = absurd (no_number_fails p x v q y e)
number_reads_by limit false false true p x v q y f n m e = cc
number_reads_by limit false false false p x v q y f n m e =
    let some = eqb-false (length (digits x)) 0 n in
    number_by_reads limit _ p x v q y f (omega (arith, some)) (ltb-false _ _ m) refl e

pub number_reads : (limit : Limit) (p : ℕ) (x : List ℕ) (v q : ℕ) (y : List ℕ)
    → number limit p x ≡ Reads v q y → ReadsNumber limit p x v q y
number_reads limit p x v q y e = number_reads_by limit _ _ _ p x v q y refl refl refl e

pub number_takes : (limit : Limit) → TakesBytes (number limit)
number_takes limit p x v q y e =
    let n = number_reads limit p x v q y e in
    let count = prefix_len is_ascii_digit x in
    let part : length (digits x) ≤ length x =
    omega (arith, length-prefix_len is_ascii_digit x, prefix_len-le-length is_ascii_digit x) in (
      record {
        bytes = digits x;
        text = sym (ap (λ t. digits x ++ t) n.left ∙ run_text count x);
        place = n.place;
        within = λ low.
            rw (n.place)
            (run_within (2 ^ 50) p (length (digits x)) (length x) n.near n.few part low);
      },
      omega (arith, n.place, n.some),
    )

-- a delta
delta_by : (last : Bool) (more : Item ℕ) (p byte : ℕ) (x : List ℕ) (v q : ℕ) (y : List ℕ)
    → p < 2 ^ 50 → TakesPieces more
    → cond last ((take_byte >> Reads byte) p (byte ∷ x))
    ((take_byte >> more >>= λ rest. Reads (byte - 128 + 128 * rest)) p (byte ∷ x)) ≡ Reads v q y
    → Piece p (byte ∷ x) q y × (p < q)
delta_by true more p byte x v q y low takes e =
    let place : p + 1 ≡ q = cc in
    let left : x ≡ y = cc in
    (rw (sym place, sym left) (piece_byte p byte x low), omega arith)
delta_by false more p byte x v q y low takes e =
    let rest = takes_then takes (λ rest. value_takes (byte - 128 + 128 * rest)) (p + 1) x v q y e in
    (piece_then (piece_byte p byte x low) rest, omega (arith, rest.place))

bytes_take : (first n p : ℕ) (x : List ℕ) (v q : ℕ) (y : List ℕ)
    → delta_bytes first n p x ≡ Reads v q y
    → Piece p x q y × (p < q)
bytes_take first zero p x v q y e = cc
bytes_take first (suc n) p x v q y e =
    look_cases (λ x. Piece p x q y × (p < q)) (delta_at (delta_bytes first n)) p x v q y e
    (λ e. cc)
    (λ byte t low e. delta_by (ltb byte 128) (delta_bytes first n) p byte t v q y low
    (λ p x v q y e. (bytes_take first n p x v q y e).0) e)

-- what is known of a delta that was read
pub record ReadsDelta (low high p : ℕ) (x : List ℕ) (v q : ℕ) (y : List ℕ) : Type 0 where
  pub piece : Piece p x q y
  pub some : p < q
  pub least : low ≤ v
  pub most : v ≤ high

delta_within : (low high : ℕ) (within : Bool) (p value place : ℕ) (left : List ℕ) (v q : ℕ)
    (y : List ℕ)
    → (leb low value && leb value high) ≡ within
    → (cond within (Reads value) (fails BadDelta p)) place left ≡ Reads v q y
    → (low ≤ value) × (value ≤ high) × (value ≡ v) × (place ≡ q) × (left ≡ y)
delta_within low high true p value place left v q y t e =
    let both : (leb low value ≡ true) × (leb value high ≡ true) = and_parts _ _ t in
    (leb-true _ _ both.0, leb-true _ _ both.1, cc, cc, cc)
delta_within low high false p value place left v q y t e = cc

pub delta_reads : (low high p : ℕ) (x : List ℕ) (v q : ℕ) (y : List ℕ)
    → delta low high p x ≡ Reads v q y
    → ReadsDelta low high p x v q y
delta_reads low high p x v q y e =
    let t = through (delta_bytes p 6 p x)
    (λ value. cond (leb low value && leb value high) (Reads value) (fails BadDelta p)) v q y
    e in
    let took = bytes_take p 6 p x t.value t.place t.left t.first in
    let w = delta_within low high _ p t.value t.place t.left v q y refl t.after in
    record {
      piece = piece_as took.0 w.3 w.4;
      some = omega (arith, took.1, w.3);
      least = omega (arith, w.0, w.2);
      most = omega (arith, w.1, w.2);
    }

-- items side by side
pub times_take : {A : Type 0} (n i : ℕ) (item : ℕ → Item A) → ((i : ℕ) → TakesPieces (item i))
    → TakesPieces (times n i item)
times_take zero i item f = value_takes []
times_take (suc n) i item f =
    takes_then (f i) (λ first. takes_then (times_take n (i + 1) item f) (λ rest.
    value_takes (first ∷ rest)))
