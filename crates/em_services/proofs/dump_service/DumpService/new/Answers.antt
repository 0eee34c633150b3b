use Rattle.std.proofs.Common.{Ok, ap}
use Rattle.em_tree_cost.specs.Books.{TreeCounts}
use Rattle.em_space.specs.Seen.{seen}
use Rattle.em_services.proofs.Batching.{made, made_given}
use Rattle.em_services.proofs.dump_service.DumpService.new.Goals as goal

pub returns-in-Ok-clause-makes : goal.returns-in-Ok-clause-makes
returns-in-Ok-clause-makes g c =
    made (seen g.D.Device.state c.args.rig.now) (seen g.D.Device.state c.with.new.rig) (Ok c.in-Ok.batch) c.in-Ok.ensures.makes

pub returns-in-Ok-clause-is : goal.returns-in-Ok-clause-is
returns-in-Ok-clause-is g c = (
  made_given (seen g.D.Device.state c.args.rig.now) (seen g.D.Device.state c.with.new.rig) (Ok c.in-Ok.batch)
      c.in-Ok.ensures.makes,
  rw (c.in-Ok.ensures.rule) c.requires.rule,
  record {
    plain = c.in-Ok.ensures.plain;
    own = ap (λ (n : TreeCounts). n.adopted) c.in-Ok.ensures.makes.tree.counts;
  },
)
