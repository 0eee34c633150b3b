use Rattle.std.proofs.Common.{◌≡◌, length, take, ◌++◌}
use Rattle.em_node.specs.Node.{Is, entries_of, level_of}
use Rattle.em_node.proofs.node.fuse.Given as goal

abbrev pub invariant-loop-at : goal.invariant-loop-at
invariant-loop-at l = record {
  len : length l.frame ≡ length l.initial.frame;
  is : Is l.frame (level_of l.initial.frame) (entries_of l.initial.frame ++ take l.at (entries_of l.upper));
}
