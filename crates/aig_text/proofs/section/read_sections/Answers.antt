use Rattle.std.proofs.Common.{arith}
use Rattle.aig_text.proofs.AllSections.{sections_begin, sections_can, sections_next, sections_stop, sections_end}
use Rattle.aig_text.proofs.section.read_sections.Goals as goal

pub loop-section-init : goal.loop-section-init
loop-section-init g c = sections_begin (g.R.Rows.form c.args.rows.now) c.args.header.now c.requires.fill

pub read_rows-requires-clause-fill : goal.read_rows-requires-clause-fill
read_rows-requires-clause-fill g c = sections_can (g.R.Rows.form c.args.rows.now) c.args.header.now c.loop-section.section-index
    c.loop-section.invariant
    c.loop-section-test.true c.requires.header c.requires.fill

pub loop-section-preserved : goal.loop-section-preserved
loop-section-preserved g c = sections_next (g.R.Rows.form c.args.rows.now) c.args.header.now c.loop-section.section-index
    c.loop-section.invariant
    c.loop-section-test.true c.in-Ok.ensures

pub returns-in-Err : goal.returns-in-Err
returns-in-Err g c = sections_stop (g.R.Rows.form c.args.rows.now) c.args.header.now c.loop-section.section-index
    c.loop-section.invariant
    c.loop-section-test.true c.requires.fill c.in-Err.ensures

pub returns : goal.returns
returns g c = sections_end (g.R.Rows.form c.args.rows.now) c.args.header.now c.loop-section.section-index c.loop-section.invariant
    c.tail.result
    (omega arith) (omega arith) c.requires.fill c.tail.ensures.reads
