use Rattle.em_trunk.proofs.Fresh.{fresh_counted}
use Rattle.em_trunk.proofs.trunk.Trunk.new.Goals as goal

pub returns : goal.returns
returns g c =
    let buffer = c.new-buffer.ensures in
    let answers = c.new-answers.ensures in
    fresh_counted c.in_ok-root.ensures buffer.lends buffer.unmoved buffer.begins answers.lends
    answers.unmoved answers.begins _ _ c.moves.ensures c.moves-before.ensures
