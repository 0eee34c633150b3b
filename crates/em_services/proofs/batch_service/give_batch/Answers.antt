use Rattle.em_services.proofs.Batching.{no_other}
use Rattle.em_services.proofs.batch_service.give_batch.Goals as goal

pub returns-in_default : goal.returns-in_default
returns-in_default g c =
    let d = c.in_default in
    absurd (no_other c.args.command c.requires.kind c.requires.other d.not-Put d.not-Del d.not-Add d.not-Get)
