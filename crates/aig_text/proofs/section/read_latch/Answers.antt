use Rattle.std.proofs.Common.{true, arith, refl, [], ◌∷◌}
use Rattle.aig_defs.specs.Chains.{latch_def, latch_use, reset_record}
use Rattle.aig_text.specs.Sections.{of_latch, HasLines}
use Rattle.aig_text.specs.declared.section.Section.TheVariants.{Latches}
use Rattle.aig_text.proofs.Drafts.{drafted_is, drafted_stops, drafted_then}
use Rattle.aig_text.proofs.Fillings.{can_add}
use Rattle.aig_text.proofs.Lines.{line_unread, line_refused, line_done}
use Rattle.aig_text.proofs.SectionRows.{bit_number, one_row, reset_drafted}
use Rattle.aig_text.proofs.section.read_latch.Goals as goal

pub returns-in_err-latch : goal.returns-in_err-latch
returns-in_err-latch g c = line_unread true 3 (of_latch c.args.before)
    (HasLines Latches c.args.header.now c.args.before 1)
    c.requires.fill _ _
    c.from_residual.ensures.1 c.in_err-latch.ensures.reads

pub returns-in_err-add_def : goal.returns-in_err-add_def
returns-in_err-add_def g c = line_refused true 3 (of_latch c.args.before)
    (HasLines Latches c.args.header.now c.args.before 1)
    c.requires.fill _
    c.in_ok-latch.ensures.reads (λ b. c.in_ok-latch.ensures.forward) c.add_def.ensures.frames 1 _ _
    c.from_residual-in_err-add_def.ensures.1 (omega arith) c.in_err-add_def.ensures.drafts

pub returns-in_err-add_use : goal.returns-in_err-add_use
returns-in_err-add_use g c = line_refused true 3 (of_latch c.args.before)
    (HasLines Latches c.args.header.now c.args.before 1)
    c.requires.fill _
    c.in_ok-latch.ensures.reads (λ b. c.in_ok-latch.ensures.forward) c.add_use.ensures.frames 2 _ _
    c.from_residual-in_err-add_use.ensures.1 (omega arith)
    (drafted_stops 1 c.requires.fill.draft c.in_ok-add_def.ensures.drafts
    c.in_err-add_use.ensures.drafts)

pub returns-in_err-add_reset : goal.returns-in_err-add_reset
returns-in_err-add_reset g c = line_refused true 3 (of_latch c.args.before)
    (HasLines Latches c.args.header.now c.args.before 1)
    c.requires.fill _
    c.in_ok-latch.ensures.reads (λ b. c.in_ok-latch.ensures.forward) c.add_reset.ensures.frames 3 _
    _ c.from_residual-in_err-add_reset.ensures.1 (omega arith)
    (drafted_stops 1 c.requires.fill.draft
    (drafted_then (latch_def c.args.before c.in_ok-latch.latch ∷ []) [] [] [] [] []
    (latch_use c.args.before c.in_ok-latch.latch ∷ []) []
    c.in_ok-add_def.ensures.drafts c.in_ok-add_use.ensures.drafts)
    c.in_err-add_reset.ensures.drafts)

pub returns : goal.returns
returns g c = line_done true 3 (of_latch c.args.before)
    (HasLines Latches c.args.header.now c.args.before 1) c.requires.fill _
    c.in_ok-latch.ensures.reads (λ b. c.in_ok-latch.ensures.forward) c.add_reset.ensures.frames
    (drafted_then (latch_def c.args.before c.in_ok-latch.latch ∷ []) []
    (latch_use c.args.before c.in_ok-latch.latch ∷ []) [] [] [] []
    (reset_record c.args.before c.in_ok-latch.latch ∷ [])
    (drafted_then (latch_def c.args.before c.in_ok-latch.latch ∷ []) [] [] [] [] []
    (latch_use c.args.before c.in_ok-latch.latch ∷ []) []
    c.in_ok-add_def.ensures.drafts c.in_ok-add_use.ensures.drafts)
    (reset_drafted c.args.before c.in_ok-latch.latch _ (bit_number c.in_ok-latch.latch.reset)
    c.in_ok-add_reset.ensures.drafts))
    (one_row Latches c.args.header.now c.args.before _ c.in_ok-latch.ensures.is) refl

pub add_use-requires-clause-is : goal.add_use-requires-clause-is
add_use-requires-clause-is g c = drafted_is c.requires.fill.draft c.in_ok-add_def.ensures.drafts

pub add_use-requires-clause-room : goal.add_use-requires-clause-room
add_use-requires-clause-room g c = (can_add c.requires.fill c.in_ok-add_def.ensures.drafts
    (omega arith)).2

pub add_reset-requires-clause-is : goal.add_reset-requires-clause-is
add_reset-requires-clause-is g c = drafted_is
    (drafted_is c.requires.fill.draft c.in_ok-add_def.ensures.drafts)
    c.in_ok-add_use.ensures.drafts

pub add_reset-requires-clause-room : goal.add_reset-requires-clause-room
add_reset-requires-clause-room g c = (can_add c.requires.fill
    (drafted_then (latch_def c.args.before c.in_ok-latch.latch ∷ []) [] [] [] [] []
    (latch_use c.args.before c.in_ok-latch.latch ∷ []) []
    c.in_ok-add_def.ensures.drafts c.in_ok-add_use.ensures.drafts) (omega arith)).3
