use Rattle.std.proofs.Common.{refl, arith}
use Rattle.em_tree_part_tests.proofs.Builders.{gets_one, next_above}
use Rattle.em_tree_part_tests.proofs.built.push_next.Goals as goal

pub push-requires-clause-rises : goal.push-requires-clause-rises
push-requires-clause-rises g c = next_above c.args.number c.requires.has

pub push-requires-clause-room : goal.push-requires-clause-room
push-requires-clause-room g c = let n = c.requires.has.count in omega (arith, n, c.requires.few)

pub returns : goal.returns
returns g c =
    gets_one c.args.number _ _ c.push.result c.requires.has refl c.push.ensures.frames c.push.ensures.pushes
