use Rattle.em_services.proofs.Loads.{begins_given, begins_load, begins_loaded}
use Rattle.em_services.proofs.load_service.Load.over.Goals as goal

pub returns-clause-is : goal.returns-clause-is
returns-clause-is g c = λ s list h ready few.
    let e = c.over.ensures in (
      begins_given s c.args.tree c.args.pairs c.args.built list h c.over.result e.is (e.begins s list h),
      rw (e.is) ready,
      begins_loaded s c.args.tree c.args.pairs c.args.built list h c.over.result e.is (e.begins s list h) few,
    )

pub returns-clause-begins : goal.returns-clause-begins
returns-clause-begins g c = λ s list h.
    let e = c.over.ensures in
    begins_load s c.args.tree c.args.pairs c.args.built list h c.over.result e.is (e.begins s list h) c.requires.count
