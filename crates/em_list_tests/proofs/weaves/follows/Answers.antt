use Rattle.std.proofs.Common.{[], ◌++◌}
use Rattle.std.specs.Prelude.{option_to_list}
use Rattle.em_space.proofs.Runs.{runs_goes}
use Rattle.em_weave.proofs.Weavings.{weaves_none, weaves_then}
use Rattle.em_list_tests.proofs.weaves.follows.Goals as goal

pub loop-side-init : goal.loop-side-init
loop-side-init g c = ([], weaves_none c.requires.sound c.requires.is)

pub loop-side-preserved : goal.loop-side-preserved
loop-side-preserved g c =
    let i = c.loop-side.invariant in
    let n = c.in_ok-next.ensures in
    (i.0 ++ option_to_list c.in_ok-next.next, weaves_then i.0 _ i.1 n.weaves)

pub returns-then-ne-clause-goes : goal.returns-then-ne-clause-goes
returns-then-ne-clause-goes g c =
    let i = c.loop-side.invariant in
    runs_goes (weaves_then i.0 _ i.1 c.in_ok-next.ensures.weaves).runs
