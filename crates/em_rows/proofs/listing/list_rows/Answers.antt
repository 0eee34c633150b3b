use Rattle.em_space.specs.Seen.{seen}
use Rattle.em_chain.specs.Writer.{writer_blocks}
use Rattle.em_rows.proofs.WriteLaws.{list_goes, list_made}
use Rattle.em_rows.proofs.listing.list_rows.Goals as goal

pub returns-in-Ok-clause-goes : goal.returns-in-Ok-clause-goes
returns-in-Ok-clause-goes g c =
    let w = c.in_default.ensures in
    list_goes (writer_blocks (seen g.D.Device.state c.write_rows.new.rig) c.write_rows.new.writer)
    c.new-writer.ensures.lends w.goes w.writes.wrote.within c.finish.ensures.gives

pub returns-in-Ok-clause-lists : goal.returns-in-Ok-clause-lists
returns-in-Ok-clause-lists g c =
    let w = c.in_default.ensures in
    list_made c.new-writer.ensures.lends c.new-writer.ensures.unmoved w.goes w.writes
    c.in-Ok.ensures.gives c.in-Ok.ensures.finishes c.in-Ok.ensures.costs.only

pub returns-in-Err-finish-clause-goes : goal.returns-in-Err-finish-clause-goes
returns-in-Err-finish-clause-goes g c =
    let w = c.in_default.ensures in
    list_goes (writer_blocks (seen g.D.Device.state c.write_rows.new.rig) c.write_rows.new.writer)
    c.new-writer.ensures.lends w.goes w.writes.wrote.within c.finish.ensures.gives
