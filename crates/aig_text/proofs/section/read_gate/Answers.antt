use Rattle.std.proofs.Common.{true, arith, refl, [], ◌∷◌}
use Rattle.aig_defs.specs.Chains.{gate_def, gate_record}
use Rattle.aig_text.specs.Sections.{of_gate, HasLines}
use Rattle.aig_text.specs.declared.section.Section.TheVariants.{Gates}
use Rattle.aig_text.proofs.Drafts.{drafted_is, drafted_stops, drafted_then}
use Rattle.aig_text.proofs.Fillings.{can_add}
use Rattle.aig_text.proofs.Lines.{line_unread, line_refused, line_done}
use Rattle.aig_text.proofs.SectionRows.{one_row}
use Rattle.aig_text.proofs.section.read_gate.Goals as goal

pub returns-in_err-gate : goal.returns-in_err-gate
returns-in_err-gate g c = line_unread true 2 (of_gate c.args.before)
    (HasLines Gates c.args.header.now c.args.before 1) c.requires.fill _
    _
    c.from_residual.ensures.1 c.in_err-gate.ensures.reads

pub returns-in_err-add_def : goal.returns-in_err-add_def
returns-in_err-add_def g c = line_refused true 2 (of_gate c.args.before)
    (HasLines Gates c.args.header.now c.args.before 1)
    c.requires.fill _
    c.in_ok-gate.ensures.reads (λ b. c.in_ok-gate.ensures.forward) c.add_def.ensures.frames 1 _ _
    c.from_residual-in_err-add_def.ensures.1 (omega arith) c.in_err-add_def.ensures.drafts

pub returns-in_err-add_gate : goal.returns-in_err-add_gate
returns-in_err-add_gate g c = line_refused true 2 (of_gate c.args.before)
    (HasLines Gates c.args.header.now c.args.before 1)
    c.requires.fill _
    c.in_ok-gate.ensures.reads (λ b. c.in_ok-gate.ensures.forward) c.add_gate.ensures.frames 2 _ _
    c.from_residual-in_err-add_gate.ensures.1 (omega arith)
    (drafted_stops 1 c.requires.fill.draft c.in_ok-add_def.ensures.drafts
    c.in_err-add_gate.ensures.drafts)

pub returns : goal.returns
returns g c = line_done true 2 (of_gate c.args.before)
    (HasLines Gates c.args.header.now c.args.before 1) c.requires.fill _
    c.in_ok-gate.ensures.reads (λ b. c.in_ok-gate.ensures.forward) c.add_gate.ensures.frames
    (drafted_then (gate_def c.args.before c.in_ok-gate.gate ∷ []) [] [] [] []
    (gate_record c.args.before c.in_ok-gate.gate ∷ []) [] []
    c.in_ok-add_def.ensures.drafts c.in_ok-add_gate.ensures.drafts)
    (one_row Gates c.args.header.now c.args.before _ c.in_ok-gate.ensures.is) refl

pub add_gate-requires-clause-is : goal.add_gate-requires-clause-is
add_gate-requires-clause-is g c = drafted_is c.requires.fill.draft c.in_ok-add_def.ensures.drafts

pub add_gate-requires-clause-room : goal.add_gate-requires-clause-room
add_gate-requires-clause-room g c = (can_add c.requires.fill c.in_ok-add_def.ensures.drafts
    (omega arith)).1
