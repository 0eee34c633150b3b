use Rattle.em_tree_raise.proofs.Opened.{opened_left}
use Rattle.em_tree_raise.proofs.RaisedLevels.{raises_level}
use Rattle.em_tree_raise.proofs.raising.raise_level.Goals as goal

pub write_level-upper-requires-clause-left : goal.write_level-upper-requires-clause-left
write_level-upper-requires-clause-left g c =
    let o = c.taking-reader.ensures in
    opened_left o.lends o.unmoved o.opens c.args.count c.requires.can c.requires.all

pub returns : goal.returns
returns g c =
    let o = c.taking-reader.ensures in
    let e = c.abandon.ensures in
    raises_level c.args.level c.write_level-upper.new.list c.write_level-upper.result c.requires.sound c.requires.can
    c.requires.all o.lends o.unmoved o.opens c.write_level-upper.ensures.writes e.gives e.unmoved
    c.requires.many
