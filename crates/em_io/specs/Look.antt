-- What the next byte is to a number.
use Rattle.std.specs.Prelude.{◌≡◌, ◌≤◌, ◌<◌, ◌^◌, ℕ, List, [], ◌∷◌, drop, nat_le, if◌then◌else◌}
use Rattle.std.specs.Char.{IsAsciiDigit, is_ascii_digit}
use Rattle.em_io.specs.declared.digits.Look.{Look}
use Rattle.em_io.specs.declared.digits.Look.TheVariants.{TooFar, Digit, Other}
use Rattle.em_io.specs.Feed.{Fed}

-- the digit is ahead, to be taken below 2^50
pub record IsNext (feed : Fed) (byte : ℕ) : Type 0 where
  pub ahead : feed.ahead ≡ byte ∷ drop 1 feed.ahead
  pub digit : IsAsciiDigit byte
  pub below : feed.place < 2 ^ 50

-- what a look says of the feed
abbrev pub IsLook : Fed → Look → Type 0
IsLook feed TooFar = 2 ^ 50 ≤ feed.place
IsLook feed (Digit byte) = IsNext feed byte
IsLook feed Other = Unit {0}

-- what stands at this place of a text, of which these bytes are left
abbrev pub look_at : ℕ → List ℕ → Look
look_at place [] = Other
look_at place (byte ∷ bytes) =
    if nat_le (2 ^ 50) place then TooFar
    else if is_ascii_digit byte then Digit byte
    else Other
