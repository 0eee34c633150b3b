use Rattle.std.proofs.Common.{arith}
use Rattle.em_node.specs.Node.{entries_of}
use Rattle.em_empty.proofs.Dealt.{place_within}
use Rattle.em_tree_walk.proofs.splitting.turn_of.Goals as goal

pub child_in-requires-clause-at : goal.child_in-requires-clause-at
child_in-requires-clause-at c = omega (
  arith,
  c.find-at.ensures,
  place_within c.args.key (entries_of c.args.frame.now) c.requires.some,
)
