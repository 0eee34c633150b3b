use Rattle.std.proofs.Common.{arith}
use Rattle.em_node.specs.Node.{entries_of}
use Rattle.em_empty.proofs.Dealt.{place_within}
use Rattle.em_tree_walk.proofs.descending.child_on_path.Goals as goal

pub child_in-requires-clause-at : goal.child_in-requires-clause-at
child_in-requires-clause-at c = omega (
  arith,
  c.find-at.ensures,
  place_within c.args.key (entries_of c.args.frame.now) c.requires.some,
)

pub end_of-requires-clause-at : goal.end_of-requires-clause-at
end_of-requires-clause-at c = omega (
  arith,
  c.find-at.ensures,
  place_within c.args.key (entries_of c.args.frame.now) c.requires.some,
)
