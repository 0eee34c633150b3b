-- What a printer holds back.
use Rattle.std.specs.Prelude.{ℕ, ◌+◌, ◌≤◌, List, length}

-- the bytes of the line buffer
abbrev pub buffer_size : ℕ
buffer_size = 4096

-- these bytes fit into the line buffer after what is pending
abbrev pub Fits : List ℕ → List ℕ → Type 0
Fits pending bytes = length pending + length bytes ≤ buffer_size
