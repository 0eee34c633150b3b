use Rattle.em_chain.proofs.WritersMaking.{gives_last}
use Rattle.em_chain.proofs.WritersTaking.{last_held, lifts_frame}
use Rattle.em_chain.proofs.writers.Writers.give_last.Goals as goal

pub lift_last-frame-requires-clause-held : goal.lift_last-frame-requires-clause-held
lift_last-frame-requires-clause-held g c = last_held c.requires.rack c.requires.some

pub give-requires-clause-len : goal.give-requires-clause-len
give-requires-clause-len g c = (lifts_frame c.requires.rack c.lift_last-frame.ensures.lifts).len_is

pub returns : goal.returns
returns g c = record {
  gives =
      gives_last c.requires.rack c.give.ensures.given c.give.ensures.sound c.lift_last-frame.ensures.lifts;
}
