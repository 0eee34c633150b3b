use Rattle.std.proofs.Common.{◌≡◌, ◌≤◌, ◌++◌, length, drop, take}
use Rattle.em_lines.specs.Stream.{word_at}
use Rattle.em_lines.proofs.ahead.word_ahead.Given as goal

abbrev pub invariant-loop-byte : goal.invariant-loop-byte
invariant-loop-byte l = record {
  word : word_at l.bytes ≡ take l.n l.into ++ word_at (drop l.byte-index l.bytes);
  same : length l.into ≡ length l.fn.into;
  room : l.n ≤ length l.into;
  index : l.n ≡ l.byte-index;
}
