use Rattle.std.proofs.Common.{Ok, Some, refl, zero-le}
use Rattle.em_record.specs.Cost.{room}
use Rattle.em_space.specs.Seen.{seen}
use Rattle.em_map.specs.Batch.{batch_blocks}
use Rattle.em_services.specs.BatchService.{batch_counts}
use Rattle.em_services.proofs.Batching.{made, made_given}
use Rattle.em_services.proofs.Loads.{load_made}
use Rattle.em_services.proofs.load_service.LoadService.new.Goals as goal

pub returns-in-Ok-clause-makes : goal.returns-in-Ok-clause-makes
returns-in-Ok-clause-makes g c =
    let s = seen g.D.Device.state c.args.rig.now in
    let t = seen g.D.Device.state c.with.new.rig in
    let b = c.in-Ok.batch in
    load_made (Some room) 0 (batch_blocks t b) (batch_blocks t b) (batch_counts b) (batch_counts b) s t 2 refl
    (made s t (Ok b) c.in-Ok.ensures.makes)

pub returns-in-Ok-clause-is : goal.returns-in-Ok-clause-is
returns-in-Ok-clause-is g c = (
  made_given (seen g.D.Device.state c.args.rig.now) (seen g.D.Device.state c.with.new.rig) (Ok c.in-Ok.batch)
      c.in-Ok.ensures.makes,
  rw (c.in-Ok.ensures.rule) c.requires.rule,
  record { plain = c.in-Ok.ensures.plain; built = zero-le },
)
