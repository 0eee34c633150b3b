-- The sizes that bounds on moves are about.
use Rattle.std.specs.Prelude.{◌≡◌, ℕ, ◌+◌, ◌*◌, ◌<◌, ◌≤◌}

-- An area has w frames, a block B records, of which P are payload. The fan-out is 2 * w.
pub record IsSize (w B P : ℕ) : Type 0 where
  pub wide : 8 ≤ w
  pub narrow : 16 * w ≤ B
  pub payload : P + 1 ≡ B

-- c is the least number of blocks of P records that holds x.
pub record IsCeil (c P x : ℕ) : Type 0 where
  pub holds : x ≤ c * P
  pub tight : c * P < x + P

-- L levels are enough for a tree of up to 2 ^ 103 operations.
pub record IsLevels (L : ℕ) : Type 0 where
  pub some : 1 ≤ L
  pub most : L ≤ 24
