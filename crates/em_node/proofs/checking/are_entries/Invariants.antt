use Rattle.std.proofs.Common.{◌+◌, ◌-◌, ◌*◌, drop}
use Rattle.em_node.specs.Records.{LaidOut}
use Rattle.em_node.proofs.checking.are_entries.Given as goal

abbrev pub invariant-loop-at : goal.invariant-loop-at
invariant-loop-at l = record {
  to : LaidOut l.blocks l.count (drop 2 l.frame) → LaidOut l.blocks (l.count - l.at) (drop (2 + 3 * l.at) l.frame);
  back : LaidOut l.blocks (l.count - l.at) (drop (2 + 3 * l.at) l.frame) → LaidOut l.blocks l.count (drop 2 l.frame);
}
