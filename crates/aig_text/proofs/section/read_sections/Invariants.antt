use Rattle.std.proofs.Common.{take, drop}
use Rattle.em_space.specs.Seen.{seen}
use Rattle.aig_text.specs.Moment.{FillsSome, moment}
use Rattle.aig_text.specs.Sections.{HasSections, listed, listed_size, order}
use Rattle.aig_text.proofs.section.read_sections.Given as goal

abbrev pub invariant-loop-section : goal.invariant-loop-section
invariant-loop-section g l =
    FillsSome g.H.Shelf.tells (listed (g.R.Rows.form l.rows) order l.header) (listed_size (g.R.Rows.form l.rows) order l.header)
    (listed (g.R.Rows.form l.rows) (drop l.section-index order) l.header)
    (listed_size (g.R.Rows.form l.rows) (drop l.section-index order) l.header)
    (HasSections (take l.section-index order) l.header)
    (moment g.H.Shelf l.fn.feed l.fn.shelf (seen g.D.Device.state l.fn.rig) l.fn.draft)
    (moment g.H.Shelf l.feed l.shelf (seen g.D.Device.state l.rig) l.draft)
