use Rattle.aig_order.proofs.Meeting.{note_lacks}
use Rattle.aig_order.proofs.sweeping.pass_notes.Goals as goal

pub push-requires-clause-lacks : goal.push-requires-clause-lacks
push-requires-clause-lacks g c = λ z.
    rw (c.note.ensures) (note_lacks c.args.sweep c.args.standing c.args.item c.args.number _
    (c.requires.below z))
