use Rattle.std.proofs.Common.{arith, refl}
use Rattle.aig_defs.specs.Order.{is_ascii}
use Rattle.aig_text.specs.Sections.{of_input, HasLines}
use Rattle.aig_text.specs.declared.section.Section.TheVariants.{Inputs}
use Rattle.aig_text.proofs.Lines.{line_unread, line_refused, line_done}
use Rattle.aig_text.proofs.SectionRows.{one_row}
use Rattle.aig_text.proofs.section.read_input.Goals as goal

pub returns-in_err-literal : goal.returns-in_err-literal
returns-in_err-literal g c = line_unread (is_ascii (g.R.Rows.form c.args.rows.now)) 1 (of_input c.args.before)
    (HasLines Inputs c.args.header.now c.args.before 1)
    c.requires.fill _ _
    c.from_residual.ensures.1 c.in_err-literal.ensures.reads

pub returns-in_err-add_def : goal.returns-in_err-add_def
returns-in_err-add_def g c = line_refused (is_ascii (g.R.Rows.form c.args.rows.now)) 1 (of_input c.args.before)
    (HasLines Inputs c.args.header.now c.args.before 1)
    c.requires.fill _
    c.in_ok-literal.ensures.reads c.in_ok-literal.ensures.forward c.add_def.ensures.frames 1 _ _
    c.from_residual-in_err-add_def.ensures.1 (omega arith) c.in_err-add_def.ensures.drafts

pub returns : goal.returns
returns g c = line_done (is_ascii (g.R.Rows.form c.args.rows.now)) 1 (of_input c.args.before)
    (HasLines Inputs c.args.header.now c.args.before 1) c.requires.fill _
    c.in_ok-literal.ensures.reads c.in_ok-literal.ensures.forward c.add_def.ensures.frames
    c.in_ok-add_def.ensures.drafts
    (one_row Inputs c.args.header.now c.args.before _
    c.in_ok-literal.ensures.is) refl
