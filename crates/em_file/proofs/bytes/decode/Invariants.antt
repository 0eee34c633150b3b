use Rattle.std.proofs.Common.{◌≡◌, ◌*◌, take}
use Rattle.em_file.specs.Bytes.{bytes_of}
use Rattle.em_file.proofs.bytes.decode.Given as goal

abbrev pub invariant-loop-at : goal.invariant-loop-at
invariant-loop-at l = bytes_of (take l.at l.into) ≡ take (32 * l.at) l.from
