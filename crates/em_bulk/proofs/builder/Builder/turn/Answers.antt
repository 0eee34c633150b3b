use Rattle.std.proofs.Common.{ap, arith}
use Rattle.em_bulk.specs.Pairs.{key_record}
use Rattle.em_bulk.proofs.Lots.{list_few}
use Rattle.em_bulk.proofs.Turned.{turn_can, turns, unturned}
use Rattle.em_bulk.proofs.builder.Builder.turn.Goals as goal

pub returns-in_err-full-clause-turns : goal.returns-in_err-full-clause-turns
returns-in_err-full-clause-turns g c =
    unturned _ c.args.key c.requires.sound c.requires.is c.from_residual.result _ c.from_residual.ensures.1
    c.in_err-full.ensures

pub keep-requires-clause-can : goal.keep-requires-clause-can
keep-requires-clause-can g c =
    turn_can c.args.key c.requires.sound c.requires.is c.requires.size c.requires.above c.in_ok-full.ensures

pub keep-requires-clause-count : goal.keep-requires-clause-count
keep-requires-clause-count g c = let n = list_few c.requires.sound c.requires.is in omega (arith, n)

pub returns-clause-turns : goal.returns-clause-turns
returns-clause-turns g c =
    turns c.args.key c.requires.sound c.requires.is c.requires.size c.requires.above c.in_ok-full.ensures _ _ _ _
    c.keep.result c.replace-low.ensures.after (ap key_record c.replace-low.ensures.value) c.keep.ensures.keeps
