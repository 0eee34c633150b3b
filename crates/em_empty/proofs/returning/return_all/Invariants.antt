use Rattle.std.proofs.Common.{◌≡◌, ◌+◌, ◌≤◌, length}
use Rattle.em_space.specs.Seen.{seen}
use Rattle.em_node.specs.Node.{entries_of}
use Rattle.em_empty.specs.Returned.{MovesFrames, Returned}
use Rattle.em_empty.proofs.returning.return_all.Given as goal

abbrev pub invariant-loop : goal.invariant-loop
invariant-loop g l =
    let first = seen g.D.Device.state l.fn.rig in
    let now = seen g.D.Device.state l.rig in
    record {
      returned : Returned first now l.fn.group l.group l.fn.frame l.frame;
      frames : MovesFrames (length l.fn.group.words.items) (length l.group.words.items) first.pool
          now.pool;
      len : length l.fn.group.words.items ≡ length l.group.words.items + l.counter;
      count : l.counter ≤ length (entries_of l.fn.frame);
    }
