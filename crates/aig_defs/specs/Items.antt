-- The items that a circuit's text is made of. An item is read at a place of the text, with the
-- bytes that are left there: it has its form and gives a value, or it fails with a kind and a
-- place. The bytes are numbers below 256; what is given of greater ones has no meaning.
use Rattle.std.specs.Prelude.{ℕ, zero, suc, ◌+◌, ◌-◌, ◌*◌, ◌^◌, ◌%◌, min, nat_le, nat_lt, ◌==◌, Bool, true, false, ◌&&◌, ◌||◌, if◌then◌else◌, List, [], ◌∷◌, length, drop, take_while, Option, Some, None}
use Rattle.std.specs.Char.{is_ascii_digit}
use Rattle.std.specs.Str.Parse.{digits_value}
use Rattle.aig_defs.specs.declared.fault.AigKind.{AigKind}
use Rattle.aig_defs.specs.declared.fault.AigKind.TheVariants.{BadNumber, TooLarge, BadSeparator, LiteralRange, OddDefinition, BadDelta, Short, BadSymbol, Extension, TooLong, Uninit, Justice, Fairness, BadReset}
use Rattle.aig_defs.specs.declared.form.Limit.{Limit}
use Rattle.aig_defs.specs.declared.form.Limit.TheVariants.{Count, Defining, Used, Position, NoJustice, NoFairness, Reset}

-- what reading gives: a value, the place after it and the bytes that are left there; or a fault
pub data Reading (A : Type 0) : Type 0 where
  Reads : A → ℕ → List ℕ → Reading A
  Fails : AigKind → ℕ → Reading A

-- an item with values in A, read at a place with the bytes that are left there
abbrev pub Item : Type 0 → Type 0
Item A = ℕ → List ℕ → Reading A

-- the item that always fails in this way
abbrev pub fails : {A : Type 0} → AigKind → ℕ → Item A
fails kind place p x = Fails kind place

-- after a reading the next item, by the value, at the place after it; after a fault none
abbrev pub and_then : {A B : Type 0} → Reading A → (A → Item B) → Reading B
and_then (Reads a p x) next = next a p x
and_then (Fails kind place) next = Fails kind place

-- an item, and then the next one by its value: what stands between two lines of a `do` block
infixl 10 ◌>>=◌
abbrev pub ◌>>=◌ : {A B : Type 0} → Item A → (A → Item B) → Item B
◌>>=◌ item next p x = and_then (item p x) next

-- an item, and then the next one whatever its value is
infixl 10 ◌>>◌
abbrev pub ◌>>◌ : {A B : Type 0} → Item A → Item B → Item B
◌>>◌ item next p x = and_then (item p x) (λ _. next)

-- n items one after another, numbered from i, and the list of their values
abbrev pub times : {A : Type 0} → ℕ → ℕ → (ℕ → Item A) → Item (List A)
times zero i item = Reads []
times (suc n) i item = do
  first ← item i
  rest ← times n (i + 1) item
  Reads (first ∷ rest)

-- the byte that stands here, or none at the text's end; looking at a byte at 2^50 is TooLong
abbrev pub look : Item (Option ℕ)
look p [] = Reads None p []
look p (byte ∷ x) =
    if nat_le (2 ^ 50) p then Fails TooLong (2 ^ 50) else Reads (Some byte) p (byte ∷ x)

-- the byte that stands here is taken
abbrev pub take_byte : Item (Unit {0})
take_byte p x = Reads tt (p + 1) (drop 1 x)

-- one space
abbrev pub space_at : Option ℕ → Item (Unit {0})
space_at None p x = Fails Short p
space_at (Some byte) p x = if byte == 32 then take_byte p x else Fails BadSeparator p

abbrev pub space : Item (Unit {0})
space = look >>= space_at

-- one newline, or the text's end; another byte has this fault
abbrev pub end_at : (ℕ → AigKind) → Option ℕ → Item (Unit {0})
end_at fault None p x = Reads tt p x
end_at fault (Some byte) p x = if byte == 10 then take_byte p x else Fails (fault byte) p

-- the end of a line
abbrev pub line_end : Item (Unit {0})
line_end = look >>= end_at (λ byte. BadSeparator)

-- a line's end, where a space is Extension
abbrev pub last_end : Item (Unit {0})
last_end = look >>= end_at (λ byte. if byte == 32 then Extension else BadSeparator)

-- whether a line goes on: a space, or its end
abbrev pub goes_on_at : Option ℕ → Item Bool
goes_on_at None p x = Reads false p x
goes_on_at (Some byte) p x =
    if byte == 10 then (take_byte >> Reads false) p x
    else if byte == 32 then (take_byte >> Reads true) p x
    else Fails BadSeparator p

abbrev pub goes_on : Item Bool
goes_on = look >>= goes_on_at

-- the rest of a line that goes on, and this value at the end of one that doesn't
abbrev pub if_more : {A : Type 0} → A → Item A → Bool → Item A
if_more end rest true p x = rest p x
if_more end rest false p x = Reads end p x

-- the longest run of digits
abbrev pub digits : List ℕ → List ℕ
digits x = take_while is_ascii_digit x

-- A number looks at its digits and the byte after them, but at no byte past the 21st. This says
-- that one of these stands at 2^50.
abbrev pub looks_too_far : List ℕ → ℕ → List ℕ → Bool
looks_too_far run p x =
    nat_le (2 ^ 50) (p + min (length run) 20) && nat_lt (2 ^ 50 - p) (length x)

-- what is wrong if no digit stands here
abbrev pub no_number : Item ℕ
no_number p [] = Fails Short p
no_number p (byte ∷ x) = Fails BadNumber p

-- what is wrong with a number of this value
abbrev pub number_fault : Limit → ℕ → Option AigKind
number_fault Count value = if nat_lt (2 ^ 40) value then Some TooLarge else None
number_fault (Defining max) value =
    if nat_lt (2 * max + 1) value then Some LiteralRange
    else if value == 0 || (value % 2 == 1) then Some OddDefinition
    else None
number_fault (Used max) value = if nat_lt (2 * max + 1) value then Some LiteralRange else None
number_fault (Position count) value = if nat_lt value count then None else Some BadSymbol
number_fault NoJustice value =
    if nat_lt (2 ^ 40) value then Some TooLarge else if value == 0 then None else Some Justice
number_fault NoFairness value =
    if nat_lt (2 ^ 40) value then Some TooLarge else if value == 0 then None else Some Fairness
number_fault (Reset own given) value =
    if nat_lt value 2 then None
    else if value == own then (if given then None else Some Uninit)
    else Some BadReset

-- the run is taken if nothing is wrong with its value
abbrev pub number_by : Option AigKind → List ℕ → Item ℕ
number_by None run p x = Reads (digits_value 10 run) (p + length run) (drop (length run) x)
number_by (Some kind) run p x = Fails kind p

-- a number by its run of digits, of which there are 1 to 20
abbrev pub number_of : Limit → List ℕ → Item ℕ
number_of limit run p x =
    if looks_too_far run p x then Fails TooLong (2 ^ 50)
    else if length run == 0 then no_number p x
    else if nat_lt 20 (length run) then Fails BadNumber p
    else number_by (number_fault limit (digits_value 10 run)) run p x

-- a number; all its faults but Short and TooLong have the place of its first byte
abbrev pub number : Limit → Item ℕ
number limit p x = number_of limit (digits x) p x

-- A byte of a delta has seven bits of it, the least first. Its top bit says that more bytes follow.
abbrev pub delta_at : Item ℕ → Option ℕ → Item ℕ
delta_at more None p x = Fails Short p
delta_at more (Some byte) p x =
    if nat_lt byte 128 then (take_byte >> Reads byte) p x
    else (take_byte >> more >>= λ rest. Reads (byte - 128 + 128 * rest)) p x

-- a delta that began at `first` and has at most n more bytes
abbrev pub delta_bytes : ℕ → ℕ → Item ℕ
delta_bytes first zero = fails BadDelta first
delta_bytes first (suc n) = look >>= delta_at (delta_bytes first n)

-- a delta of at most 6 bytes, whose value is from `low` to `high`
abbrev pub delta : ℕ → ℕ → Item ℕ
delta low high p x = and_then (delta_bytes p 6 p x) λ value.
    if nat_le low value && nat_le value high then Reads value else fails BadDelta p
