use Rattle.std.proofs.Common.{◌∙◌, refl}
use Rattle.em_tree_walk.proofs.Downwards.{descends_of, way_begins, way_ends, way_on, way_stops}
use Rattle.em_tree_walk.proofs.descending.descend_in.Goals as goal

pub loop-at_level-init : goal.loop-at_level-init
loop-at_level-init g c = record {
  way = way_begins c.args.key c.args.top c.args.to c.args.root c.requires.sound c.requires.down
      c.requires.leads;
  len = refl;
}

pub returns-in_err-child-clause-descends : goal.returns-in_err-child-clause-descends
returns-in_err-child-clause-descends g c =
    descends_of _ _ _ _ _ _ c.from_residual.result c.in_err-child.field-0.0
    c.from_residual.ensures.1
    (way_stops c.loop-at_level-test.true c.loop-at_level.invariant.way
    c.in_err-child.ensures.descends)

pub loop-at_level-preserved : goal.loop-at_level-preserved
loop-at_level-preserved g c = record {
  way = way_on c.loop-at_level-test.true c.loop-at_level.invariant.way
      c.in_ok-child.ensures.descends;
  len = c.in_ok-child.ensures.len ∙ c.loop-at_level.invariant.len;
}

pub returns-clause-descends : goal.returns-clause-descends
returns-clause-descends g c =
    way_ends c.loop-at_level-test.false c.loop-at_level.invariant.way
