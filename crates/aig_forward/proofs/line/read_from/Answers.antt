use Rattle.std.proofs.Common.{arith}
use Rattle.aig_forward.proofs.BitLists.{bits_further, front_done, front_none, front_unended}
use Rattle.aig_forward.proofs.line.read_from.Goals as goal

pub returns-then-inputs-gt0-clause-further : goal.returns-then-inputs-gt0-clause-further
returns-then-inputs-gt0-clause-further g c = bits_further _ (omega arith) c.read_bits.ensures

pub returns-in-Ok-clause-reads : goal.returns-in-Ok-clause-reads
returns-in-Ok-clause-reads g c = front_done c.args.inputs 0 c.requires.can
    (front_none c.args.inputs c.requires.can) _ (omega arith)
    (c.in-Ok.ensures.reads g.H.Shelf.tells (g.H.Shelf.stand c.args.shelf.now)
    (g.H.Shelf.faults c.args.shelf.now))

pub returns-in-Err-clause-reads : goal.returns-in-Err-clause-reads
returns-in-Err-clause-reads g c = front_unended c.args.inputs 0 c.requires.can
    (front_none c.args.inputs c.requires.can) _ _ c.step_stop.ensures (omega arith)
    (c.in-Err.ensures.reads g.H.Shelf.tells (g.H.Shelf.stand c.args.shelf.now)
    (g.H.Shelf.faults c.args.shelf.now))
