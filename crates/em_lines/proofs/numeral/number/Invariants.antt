use Rattle.std.proofs.Common.{◌≡◌, ◌<◌, ◌^◌, drop}
use Rattle.std.specs.Str.{all_ascii_digits}
use Rattle.em_lines.specs.CommandLine.{digits_after}
use Rattle.em_lines.proofs.numeral.number.Given as goal

abbrev pub invariant-loop-byte : goal.invariant-loop-byte
invariant-loop-byte l = record {
  value : digits_after 0 l.word ≡ digits_after l.value (drop l.byte-index l.word);
  digits : all_ascii_digits l.word ≡ all_ascii_digits (drop l.byte-index l.word);
  small : l.value < 10 ^ l.byte-index;
}
