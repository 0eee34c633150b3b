use Rattle.std.proofs.Common.{◌≡◌, ◌-◌, length}
use Rattle.em_space.specs.Seen.{seen}
use Rattle.em_tree_walk.specs.Descents.{OnTheWay, from_root}
use Rattle.em_tree_walk.proofs.descending.descend_in.Given as goal

abbrev pub invariant-loop-at_level : goal.invariant-loop-at_level
invariant-loop-at_level g l = record {
  way : OnTheWay l.key (seen g.D.Device.state l.fn.rig) (seen g.D.Device.state l.rig) l.top l.to
      l.at_level (from_root l.root) l.descent;
  len : length l.frame ≡ length l.fn.frame;
}

abbrev pub decreases-loop-at_level : goal.decreases-loop-at_level
decreases-loop-at_level g l = l.at_level - l.to
