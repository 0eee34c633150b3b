use Rattle.std.proofs.Common.{◌≡◌, ◌-◌, length, drop, take}
use Rattle.em_node.specs.Node.{Is, entries_of, level_of}
use Rattle.em_node.proofs.node.split.Given as goal

abbrev pub invariant-loop-at : goal.invariant-loop-at
invariant-loop-at l = record {
  len : length l.upper ≡ length l.initial.upper;
  is : Is l.upper (level_of l.frame) (take (l.at - l.half) (drop l.half (entries_of l.frame)));
}
