-- A stream of draws: the linear congruential generator of the C standard's `rand`.
use Rattle.std.specs.Prelude.{ℕ, zero, suc, ◌+◌, ◌*◌, ◌/◌, ◌%◌, ◌^◌}

-- the state after a draw
abbrev pub next_state : ℕ → ℕ
next_state x = (1103515245 * x + 12345) % 2 ^ 31

-- the number that a draw gives, from 0 to 32767
abbrev pub drawn : ℕ → ℕ
drawn x = next_state x / 2 ^ 16

-- the state after two draws
abbrev pub after_wide : ℕ → ℕ
after_wide x = next_state (next_state x)

-- a wide draw below n: two draws, of which the first has the upper digits
abbrev pub wide_drawn : ℕ → ℕ → ℕ
wide_drawn n x = (32768 * drawn x + drawn (next_state x)) % n

-- the state after n draws
abbrev pub after_draws : ℕ → ℕ → ℕ
after_draws zero x = x
after_draws (suc n) x = after_draws n (next_state x)
