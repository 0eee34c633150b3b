use Rattle.std.proofs.Common.{◌∙◌, ap, arith}
use Rattle.em_space.specs.Seen.{seen}
use Rattle.em_combine.specs.Gather.{GatherState}
use Rattle.em_map.specs.Batch.{areas_in}
use Rattle.em_map.proofs.Gathers.{takes_none, takes_some}
use Rattle.em_map.proofs.batch.Batch.take_load.Goals as goal

pub returns-in-Some : goal.returns-in-Some
returns-in-Some g c = record {
  takes = takes_some (seen g.D.Device.state c.args.rig.now) c.args.self.now c.replace.new.dest c.in-Some.load
      c.requires.sound c.requires.is c.in-Some.ensures.value c.in-Some.ensures.after;
}

pub returns-in-None : goal.returns-in-None
returns-in-None g c =
    let none = ap areas_in c.in-None.ensures.value in
    let two = c.requires.area c.requires.early in
    record {
      takes = takes_none (seen g.D.Device.state c.args.rig.now) (seen g.D.Device.state c.lend_area.new.self)
          c.args.self.now c.replace.new.dest c.new.result c.requires.sound c.in-None.ensures.value
          c.in-None.ensures.after c.lend_area.ensures.sound c.lend_area.ensures.touches (omega (arith, none, two))
          c.lend_area.ensures.most c.lend_area.ensures.lent (ap (λ (x : GatherState). x.items) c.new.ensures)
          (ap (λ (x : GatherState). x.capacity) c.new.ensures ∙ c.lend_area.ensures.len);
    }
