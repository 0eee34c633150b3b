use Rattle.aig_text.proofs.Drafts.{drafted_is}
use Rattle.aig_text.proofs.Endings.{filling_sound, draft_climbs, draft_straight, sections_written, sections_refused, sections_stopped}
use Rattle.aig_text.proofs.circuit.read_lists.Goals as goal

pub finish-requires-clause-is : goal.finish-requires-clause-is
finish-requires-clause-is g c = drafted_is c.new-draft.ensures.begins.is
    c.in-Ok.ensures.fills.adds.drafted

pub returns-in_err-finish-in-Ok-clause-lists : goal.returns-in_err-finish-in-Ok-clause-lists
returns-in_err-finish-in-Ok-clause-lists g c = sections_refused c.new-draft.ensures.lends
    c.new-draft.ensures.unmoved c.new-draft.ensures.begins
    _ _ _ c.from_residual.ensures.1 c.in-Ok.ensures c.finish.ensures.gives c.finish.ensures.only
    c.in_err-finish-in-Ok.ensures.cause

pub returns-in_ok-finish-in-Ok-clause-lists : goal.returns-in_ok-finish-in-Ok-clause-lists
returns-in_ok-finish-in-Ok-clause-lists g c = sections_written c.new-draft.ensures.lends
    c.new-draft.ensures.unmoved c.new-draft.ensures.begins
    _ _ c.in-Ok.ensures c.finish.ensures.gives c.in_ok-finish-in-Ok.ensures.finishes
    c.finish.ensures.only

pub returns-in_ok-finish-in-Ok-clause-climbs : goal.returns-in_ok-finish-in-Ok-clause-climbs
returns-in_ok-finish-in-Ok-clause-climbs g c = draft_climbs c.climbs.result c.new-draft.ensures.lends
    c.new-draft.ensures.unmoved c.new-draft.ensures.begins c.in-Ok.ensures.fills.adds.drafted
    c.finish.ensures.gives c.in_ok-finish-in-Ok.ensures.finishes c.finish.ensures.only
    c.climbs.ensures

pub returns-in_ok-finish-in-Ok-clause-straight : goal.returns-in_ok-finish-in-Ok-clause-straight
returns-in_ok-finish-in-Ok-clause-straight g c = draft_straight c.is_straight.result c.new-draft.ensures.lends
    c.new-draft.ensures.unmoved c.new-draft.ensures.begins c.in-Ok.ensures.fills.adds.drafted
    c.finish.ensures.gives c.in_ok-finish-in-Ok.ensures.finishes c.finish.ensures.only
    c.is_straight.ensures

pub returns-in-Err-clause-lists : goal.returns-in-Err-clause-lists
returns-in-Err-clause-lists g c = sections_stopped c.new-draft.ensures.lends c.new-draft.ensures.unmoved
    c.new-draft.ensures.begins
    _ c.requires.sound c.in-Err.ensures c.abandon.ensures.gives c.abandon.ensures.unmoved

pub abandon-requires-clause-sound : goal.abandon-requires-clause-sound
abandon-requires-clause-sound g c =
    filling_sound _ _ _ c.in-Err.stop c.in-Err.ensures.fills.stops
