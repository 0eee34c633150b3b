use Rattle.std.proofs.Common.{◌≡◌, ◌*◌, take}
use Rattle.em_file.specs.Bytes.{bytes_of}
use Rattle.em_file.proofs.bytes.encode.Given as goal

abbrev pub invariant-loop-at : goal.invariant-loop-at
invariant-loop-at l = take (32 * l.at) l.into ≡ bytes_of (take l.at l.from)
