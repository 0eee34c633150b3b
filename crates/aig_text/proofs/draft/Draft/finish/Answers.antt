use Rattle.aig_text.proofs.Finishes.{defs_stay, finish_gives, finishes_draft, second_stays, third_stays}
use Rattle.aig_text.proofs.draft.Draft.finish.Goals as goal

pub finish-defs-requires-clause-is : goal.finish-defs-requires-clause-is
finish-defs-requires-clause-is g c = (defs_stay c.requires.is c.finish-resets.ensures.gives).is

pub finish-gates-requires-clause-is : goal.finish-gates-requires-clause-is
finish-gates-requires-clause-is g c =
    (second_stays c.requires.is c.finish-resets.ensures.gives c.finish-defs.ensures.gives).is

pub finish-uses-requires-clause-is : goal.finish-uses-requires-clause-is
finish-uses-requires-clause-is g c =
    (third_stays c.requires.is c.finish-resets.ensures.gives c.finish-defs.ensures.gives
    c.finish-gates.ensures.gives).is

pub returns-in_err-defs-clause-gives : goal.returns-in_err-defs-clause-gives
returns-in_err-defs-clause-gives g c = finish_gives c.requires.is c.finish-resets.ensures.gives
    c.finish-defs.ensures.gives c.finish-gates.ensures.gives c.finish-uses.ensures.gives

pub returns-in_err-gates-clause-gives : goal.returns-in_err-gates-clause-gives
returns-in_err-gates-clause-gives g c = finish_gives c.requires.is c.finish-resets.ensures.gives
    c.finish-defs.ensures.gives c.finish-gates.ensures.gives c.finish-uses.ensures.gives

pub returns-in_err-uses-clause-gives : goal.returns-in_err-uses-clause-gives
returns-in_err-uses-clause-gives g c = finish_gives c.requires.is c.finish-resets.ensures.gives
    c.finish-defs.ensures.gives c.finish-gates.ensures.gives c.finish-uses.ensures.gives

pub returns-in_err-resets-clause-gives : goal.returns-in_err-resets-clause-gives
returns-in_err-resets-clause-gives g c = finish_gives c.requires.is c.finish-resets.ensures.gives
    c.finish-defs.ensures.gives c.finish-gates.ensures.gives c.finish-uses.ensures.gives

pub returns-clause-gives : goal.returns-clause-gives
returns-clause-gives g c = finish_gives c.requires.is c.finish-resets.ensures.gives
    c.finish-defs.ensures.gives c.finish-gates.ensures.gives c.finish-uses.ensures.gives

pub returns-clause-finishes : goal.returns-clause-finishes
returns-clause-finishes g c = finishes_draft c.requires.sound c.requires.is
    c.finish-resets.ensures.gives c.finish-defs.ensures.gives c.finish-gates.ensures.gives
    c.finish-uses.ensures.gives c.in_ok-resets.ensures.finishes c.in_ok-defs.ensures.finishes
    c.in_ok-gates.ensures.finishes c.in_ok-uses.ensures.finishes c.in_ok-resets.ensures.costs
    c.in_ok-defs.ensures.costs c.in_ok-gates.ensures.costs c.in_ok-uses.ensures.costs
