use Rattle.std.proofs.Common.{◌≡◌, ◌+◌, length, drop}
use Rattle.em_lines.specs.Stream.{word_at}
use Rattle.em_rows.proofs.spelling.word_size.Given as goal

abbrev pub invariant-loop-byte : goal.invariant-loop-byte
invariant-loop-byte l = record {
  size : length (word_at l.line) ≡ l.size + length (word_at (drop l.byte-index l.line));
  index : l.size ≡ l.byte-index;
}
