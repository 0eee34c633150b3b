use Rattle.std.proofs.Common.{true, arith, refl}
use Rattle.aig_text.specs.Sections.{of_output, HasLines}
use Rattle.aig_text.specs.declared.section.Section.TheVariants.{Columns}
use Rattle.aig_text.proofs.Drafts.{draft_can_grow}
use Rattle.aig_text.proofs.Lines.{line_unread, line_refused, line_done}
use Rattle.aig_text.proofs.SectionRows.{one_row, used_within}
use Rattle.aig_text.proofs.section.read_column.Goals as goal

pub returns-in_err-literal : goal.returns-in_err-literal
returns-in_err-literal g c = line_unread true 1 (of_output c.args.before)
    (HasLines Columns c.args.header.now c.args.before 1)
    c.requires.fill _ _
    c.from_residual.ensures.1 c.in_err-literal.ensures.reads

pub returns-in_err-add_use : goal.returns-in_err-add_use
returns-in_err-add_use g c = line_refused true 1 (of_output c.args.before)
    (HasLines Columns c.args.header.now c.args.before 1)
    c.requires.fill _
    c.in_ok-literal.ensures.reads (λ b. c.in_ok-literal.ensures.forward) c.add_use.ensures.frames 1 _ _
    c.from_residual-in_err-add_use.ensures.1 (omega arith) c.in_err-add_use.ensures.drafts

pub returns : goal.returns
returns g c = line_done true 1 (of_output c.args.before)
    (HasLines Columns c.args.header.now c.args.before 1) c.requires.fill _
    c.in_ok-literal.ensures.reads (λ b. c.in_ok-literal.ensures.forward) c.add_use.ensures.frames
    c.in_ok-add_use.ensures.drafts
    (one_row Columns c.args.header.now c.args.before _
    (used_within c.args.header.now _ c.in_ok-literal.ensures.allowed)) refl

pub add_use-requires-clause-room : goal.add_use-requires-clause-room
add_use-requires-clause-room g c = (draft_can_grow c.requires.fill.sound c.requires.fill.draft
    (omega (arith, c.requires.fill.room))).2
