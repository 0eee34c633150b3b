use Rattle.em_chain.proofs.WritersTaking.{last_held, lifts_frame, lifts_is, lifts_len, lifts_rack, taken_costs, taken_gives, taken_takes}
use Rattle.em_chain.proofs.writers.Writers.take_last.Goals as goal

pub lift_last-frame-requires-clause-held : goal.lift_last-frame-requires-clause-held
lift_last-frame-requires-clause-held g c = last_held c.requires.is.has c.requires.some

pub end-requires-clause-is : goal.end-requires-clause-is
end-requires-clause-is g c = lifts_is c.requires.is c.lift_last-frame.ensures.lifts

pub end-requires-clause-frame : goal.end-requires-clause-frame
end-requires-clause-frame g c = lifts_frame c.requires.is.has c.lift_last-frame.ensures.lifts

pub returns-clause-gives : goal.returns-clause-gives
returns-clause-gives g c = taken_gives (record {
  sound = c.requires.sound;
  is = c.requires.is;
  lifts = c.lift_last-frame.ensures.lifts;
  gives = c.end.ensures.gives;
})

pub returns-clause-len : goal.returns-clause-len
returns-clause-len g c = lifts_len c.lift_last-frame.ensures.lifts

pub returns-clause-rack : goal.returns-clause-rack
returns-clause-rack g c =
    lifts_rack c.requires.is.has c.lift_last-frame.ensures.lifts c.end.ensures.gives.frames

pub returns-clause-takes : goal.returns-clause-takes
returns-clause-takes g c = taken_takes c.end.result (record {
  sound = c.requires.sound;
  is = c.requires.is;
  lifts = c.lift_last-frame.ensures.lifts;
  gives = c.end.ensures.gives;
}) c.end.ensures.ends

pub returns-clause-spends : goal.returns-clause-spends
returns-clause-spends g c = taken_costs c.end.result (record {
  sound = c.requires.sound;
  is = c.requires.is;
  lifts = c.lift_last-frame.ensures.lifts;
  gives = c.end.ensures.gives;
}) c.end.ensures.ends
