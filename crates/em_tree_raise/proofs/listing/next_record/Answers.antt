use Rattle.std.proofs.Common.{subst}
use Rattle.std.specs.Prelude.{Option, IfSome}
use Rattle.em_record.specs.declared.record.Record.{Record}
use Rattle.em_space.specs.Seen.{seen}
use Rattle.em_chain.specs.Reads.{Reads}
use Rattle.em_tree_load.proofs.AreaReads.{read_one}
use Rattle.em_tree_raise.proofs.listing.next_record.Goals as goal

pub returns-in-Some-clause-reads : goal.returns-in-Some-clause-reads
returns-in-Some-clause-reads g c =
    let o = c.in_ok-item.ensures in
    let s = seen g.D.Device.state c.args.rig.now in
    let t = seen g.D.Device.state c.next.new.rig in
    let P : Option Record → Type 0 =
    λ y. IfSome y (λ x. Reads s t c.args.list.now c.next.new.self x) in
    read_one c.in-Some.item c.in_ok-item.field-0 c.requires.taking o.goes (subst P c.in-Some.is o.reads)
    o.costs o.spends
