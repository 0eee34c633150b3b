use Rattle.std.proofs.Common.{◌-◌}
use Rattle.em_space.specs.Seen.{seen}
use Rattle.aig_text.specs.Moment.{FillsSome, moment}
use Rattle.aig_text.specs.Sections.{HasLines, section_lines, lines_size, lines_in}
use Rattle.aig_text.proofs.section.read_rows.Given as goal

abbrev pub invariant-loop-before : goal.invariant-loop-before
invariant-loop-before g l =
    FillsSome g.H.Shelf.tells
    (section_lines (g.R.Rows.form l.rows) l.section l.header (lines_in l.section l.header) 0)
    (lines_size (g.R.Rows.form l.rows) l.section l.header (lines_in l.section l.header) 0)
    (section_lines (g.R.Rows.form l.rows) l.section l.header (lines_in l.section l.header - l.before) l.before)
    (lines_size (g.R.Rows.form l.rows) l.section l.header (lines_in l.section l.header - l.before) l.before)
    (HasLines l.section l.header 0 l.before)
    (moment g.H.Shelf l.fn.feed l.fn.shelf (seen g.D.Device.state l.fn.rig) l.fn.draft)
    (moment g.H.Shelf l.feed l.shelf (seen g.D.Device.state l.rig) l.draft)
