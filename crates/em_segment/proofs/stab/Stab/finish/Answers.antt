use Rattle.std.proofs.Common.{◌∙◌}
use Rattle.em_space.specs.Seen.{seen}
use Rattle.em_segment.proofs.StabFinish.{answers_few, end_costs, end_serves, end_small, end_stops, finished, left_costs, left_stops, stops_small}
use Rattle.em_segment.proofs.StabNothing.{end_asked, stops_asked}
use Rattle.em_segment.proofs.stab.Stab.finish.Goals as goal

pub end-requires-clause-free : goal.end-requires-clause-free
end-requires-clause-free g c = end_serves c.requires.can.free c.in-Ok.ensures.answers.frames

pub returns-in-Ok-end : goal.returns-in-Ok-end
returns-in-Ok-end g c =
    let laws = g.met.Q.Queue in
    let x = c.args.queue in
    let y = c.answer_stabs.new.queue in
    let s = seen g.D.Device.state c.args.rig.now in
    let t = seen g.D.Device.state c.answer_stabs.new.rig in
    let e = c.in-Ok.ensures in
    let d = c.end.ensures.ends in
    let calls = laws.k_most x s (laws.frames_of x s c.requires.queue) in record {
      finishes = finished g.Q.Queue x y e.answers d c.in-Ok-end.ensures.ended;
      costs = λ z cs has. end_costs g.Q.Queue x y cs (λ none. (e.nothing none).queue) (e.costs z cs has) c.requires.sound e.frames
          (laws.fits y t e.frames (e.answers.session.touches.told ∙ z)) laws.rising_room calls e.answers
          (answers_few g.Q.Queue x y cs c.requires.sound c.requires.is e.answers z has) d
          (e.answers.session.touches.told ∙ z);
      full = λ z cs has. tt;
      asked = tt;
    }

pub returns-in-Err-end : goal.returns-in-Err-end
returns-in-Err-end g c =
    let laws = g.met.Q.Queue in
    let x = c.args.queue in
    let y = c.answer_stabs.new.queue in
    let s = seen g.D.Device.state c.args.rig.now in
    let t = seen g.D.Device.state c.answer_stabs.new.rig in
    let e = c.in-Ok.ensures in
    let f = c.in-Err-end.ensures in
    let calls = laws.k_most x s (laws.frames_of x s c.requires.queue) in record {
      finishes = end_stops g.Q.Queue x y e.answers f.ends f.owes f.cause;
      costs = λ z cs has. end_costs g.Q.Queue x y cs (λ none. (e.nothing none).queue) (e.costs z cs has) c.requires.sound e.frames
          (laws.fits y t e.frames (e.answers.session.touches.told ∙ z)) laws.rising_room calls e.answers
          (answers_few g.Q.Queue x y cs c.requires.sound c.requires.is e.answers z has) f.ends
          (e.answers.session.touches.told ∙ z);
      full = λ z cs has. end_small g.Q.Queue x y cs c.in-Err-end.fault (e.costs z cs has) e.answers
          (answers_few g.Q.Queue x y cs c.requires.sound c.requires.is e.answers z has) calls
          laws.rising_room f.full z;
      asked = end_asked g.Q.Queue x y c.in-Err-end.fault e.answers e.nothing f.full;
    }

pub returns-in-Err : goal.returns-in-Err
returns-in-Err g c =
    let laws = g.met.Q.Queue in
    let x = c.args.queue in
    let y = c.answer_stabs.new.queue in
    let s = seen g.D.Device.state c.args.rig.now in
    let t = seen g.D.Device.state c.answer_stabs.new.rig in
    let e = c.in-Err.ensures in
    let leaves = c.abandon.ensures.leaves in
    let calls = laws.k_most x s (laws.frames_of x s c.requires.queue) in record {
      finishes = left_stops g.Q.Queue x y e.answers leaves;
      costs = λ z cs has. left_costs g.Q.Queue x y cs (λ none. (e.nothing none).queue) (e.costs z cs has) c.requires.sound e.frames
          (laws.fits y t e.frames (e.answers.touches.told ∙ z)) laws.rising_room calls e.answers leaves
          (laws.spends y t e.frames (e.answers.touches.told ∙ z));
      full = λ z cs has. stops_small g.Q.Queue x y cs c.in-Err.fault (e.costs z cs has) calls
          laws.rising_room (e.full z cs has) z;
      asked = stops_asked g.Q.Queue x y s c.args.self c.in-Err.fault e.nothing;
    }
