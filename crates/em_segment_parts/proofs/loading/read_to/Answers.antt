use Rattle.std.proofs.Common.{subst}
use Rattle.std.specs.Prelude.{Option, IfSome}
use Rattle.em_record.specs.declared.record.Record.{Record}
use Rattle.em_space.specs.Seen.{seen}
use Rattle.em_chain.specs.Reads.{Reads}
use Rattle.em_segment_parts.proofs.Gets.{gets_one}
use Rattle.em_segment_parts.proofs.loading.read_to.Goals as goal

pub returns-clause-puts : goal.returns-clause-puts
returns-clause-puts g c =
    let o = c.in_ok-point.ensures in
    let s = seen g.D.Device.state c.args.rig.now in
    let t = seen g.D.Device.state c.next.new.rig in
    let P : Option Record → Type 0 =
    λ y. IfSome y (λ x. Reads s t c.args.reader.now c.next.new.self x) in
    record {
      point = c.in-Some.point;
      reads = gets_one c.in_ok-point.field-0 o.goes (subst P c.in-Some.is o.reads) o.costs;
      put = c.put_point.ensures;
    }
