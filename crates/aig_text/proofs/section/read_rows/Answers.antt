use Rattle.std.proofs.Common.{arith}
use Rattle.aig_text.specs.Sections.{lines_in}
use Rattle.aig_text.proofs.SectionLines.{lines_begin, lines_can, lines_next, lines_stop, lines_done}
use Rattle.aig_text.proofs.section.read_rows.Goals as goal

pub loop-before-init : goal.loop-before-init
loop-before-init g c = lines_begin (g.R.Rows.form c.args.rows.now) c.args.section c.args.header.now
    (lines_in c.args.section c.args.header.now) c.requires.fill

pub read_row-requires-clause-fill : goal.read_row-requires-clause-fill
read_row-requires-clause-fill g c = lines_can (g.R.Rows.form c.args.rows.now) c.args.section c.args.header.now
    (lines_in c.args.section c.args.header.now) c.loop-before.before c.loop-before.invariant
    (omega arith) c.requires.fill

pub loop-before-preserved : goal.loop-before-preserved
loop-before-preserved g c = lines_next (g.R.Rows.form c.args.rows.now) c.args.section c.args.header.now
    (lines_in c.args.section c.args.header.now) c.loop-before.before c.loop-before.invariant
    (omega arith) c.in-Ok.ensures

pub returns-in-Err : goal.returns-in-Err
returns-in-Err g c = lines_stop (g.R.Rows.form c.args.rows.now) c.args.section c.args.header.now
    (lines_in c.args.section c.args.header.now) c.loop-before.before c.loop-before.invariant
    (omega arith) c.requires.fill c.in-Err.ensures

pub returns : goal.returns
returns g c = lines_done (g.R.Rows.form c.args.rows.now) c.args.section c.args.header.now
    (lines_in c.args.section c.args.header.now) c.loop-before.before c.loop-before.invariant
    (omega arith) (omega arith) c.requires.fill
