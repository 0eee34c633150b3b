use Rattle.std.proofs.Common.{arith}
use Rattle.em_tree_trim.proofs.Looks.{look_lent, look_of, root_framed}
use Rattle.em_tree_trim.proofs.looking.is_trim.Goals as goal

pub is_root_trim-trim-requires-clause-can : goal.is_root_trim-trim-requires-clause-can
is_root_trim-trim-requires-clause-can g c = look_lent c.lend-frame.ensures.lent (look_of c.requires.can)

pub returns : goal.returns
returns g c =
    root_framed c.args.root _ c.is_root_trim-trim.result c.requires.sound (omega (arith, c.requires.free))
    (look_of c.requires.can) c.lend-frame.ensures.lent c.is_root_trim-trim.ensures.looks c.give.ensures.given
