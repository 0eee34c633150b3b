use Rattle.aig_order.proofs.Marked.{note_joined}
use Rattle.aig_order.proofs.marking.join_note.Goals as goal

pub returns-clause-joins : goal.returns-clause-joins
returns-clause-joins c =
    note_joined c.args.last c.args.sweep c.args.standing c.args.item c.requires.within
    (rw (c.joined_bit.ensures.is, c.min-gate.ensures) at c.and_in.ensures.ands)
