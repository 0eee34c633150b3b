-- Records as bytes. A word is eight bytes, least significant first.
use Rattle.std.specs.Prelude.{ℕ, ◌*◌, ◌<◌, ◌^◌, ◌++◌, List}
use Rattle.std.specs.List.{flat_map}
use Rattle.byteorder.specs.Endian.{little_bytes}
use Rattle.em_record.specs.declared.record.Record.{Record}

-- the 32 bytes of a record: those of its words a, b, c and d
abbrev pub record_bytes : Record → List ℕ
record_bytes x =
    little_bytes 8 x.a ++ little_bytes 8 x.b ++ little_bytes 8 x.c ++ little_bytes 8 x.d

-- the bytes of records, one after another
abbrev pub bytes_of : List Record → List ℕ
bytes_of xs = flat_map record_bytes xs

-- the byte at which block `at` begins, with `block` records to a block
abbrev pub offset_of : ℕ → ℕ → ℕ
offset_of block at = 32 * block * at

-- the words of a record fit 64 bits, as all that a program holds do: then its bytes determine it
-- (`same_records` in proofs/Laws)
pub record IsStorable (x : Record) : Type 0 where
  pub a : x.a < 2 ^ 64
  pub b : x.b < 2 ^ 64
  pub c : x.c < 2 ^ 64
  pub d : x.d < 2 ^ 64
