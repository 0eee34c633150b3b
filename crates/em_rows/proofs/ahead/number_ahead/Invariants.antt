use Rattle.std.proofs.Common.{◌≡◌, ◌+◌, length, drop}
use Rattle.std.specs.Str.{all_ascii_digits}
use Rattle.em_lines.specs.CommandLine.{digits_after}
use Rattle.em_lines.specs.Stream.{word_at}
use Rattle.em_rows.proofs.ahead.number_ahead.Given as goal

abbrev pub invariant-loop-byte : goal.invariant-loop-byte
invariant-loop-byte l = record {
  spells : digits_after 0 (word_at l.bytes)
      ≡ digits_after l.value (word_at (drop l.byte-index l.bytes));
  digits : all_ascii_digits (word_at l.bytes)
      ≡ all_ascii_digits (word_at (drop l.byte-index l.bytes));
  size : length (word_at l.bytes) ≡ l.digits + length (word_at (drop l.byte-index l.bytes));
  index : l.digits ≡ l.byte-index;
}
