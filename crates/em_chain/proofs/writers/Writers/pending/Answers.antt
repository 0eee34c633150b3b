use Rattle.em_chain.specs.Writers.{no_words}
use Rattle.em_chain.proofs.WritersMembers.{filled_get}
use Rattle.em_chain.proofs.WritersOpening.{Reads}
use Rattle.em_chain.proofs.WritersStored.{pending_at, pending_fits}
use Rattle.em_chain.proofs.writers.Writers.pending.Goals as goal

pub records-requires : goal.records-requires
records-requires c =
    let k = filled_get _ _ _ c.args.at c.requires.group.is.has.filled_by c.requires.within in
    (k.frame, k.is)

pub pending-requires : goal.pending-requires
pending-requires c =
    let r : Reads c.args.self.now c.args.at no_words c.deref.result.now c.records.result.now =
    record { within = c.requires.within; same = c.deref.ensures.0; frame = c.records.ensures } in
    record { fits = pending_fits r c.requires.group }

pub returns : goal.returns
returns c =
    let r : Reads c.args.self.now c.args.at no_words c.deref.result.now c.records.result.now =
    record { within = c.requires.within; same = c.deref.ensures.0; frame = c.records.ensures } in
    record { pending = pending_at c.pending.result.now r c.pending.ensures }
