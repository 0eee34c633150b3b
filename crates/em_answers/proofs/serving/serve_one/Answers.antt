use Rattle.std.proofs.Common.{ap, refl}
use Rattle.em_io.proofs.Sent.{sent-nothing}
use Rattle.em_model.specs.Queue.{queue_answer_of}
use Rattle.em_space.specs.Seen.{seen}
use Rattle.em_space.proofs.Numbered.{lacks_next, numbered_push}
use Rattle.em_answers.specs.Answer.{queue_text}
use Rattle.em_answers.proofs.Pieces.{into_all, into_failed, into_nothing, into_stopped}
use Rattle.em_answers.proofs.QueueModel.{counted_pop, follows_push, pop_text}
use Rattle.em_answers.proofs.serving.serve_one.Goals as goal

pub push-requires-clause-lacks : goal.push-requires-clause-lacks
push-requires-clause-lacks g c = λ told.
    lacks_next c.args.pushes c.in-Push.key c.in-Push.value
    (g.Q.Queue.items c.args.queue.now (seen g.D.Device.state c.args.rig.now))
    (c.requires.numbers told)

pub returns-in_err-push-in-Push-clause-prints : goal.returns-in_err-push-in-Push-clause-prints
returns-in_err-push-in-Push-clause-prints g c = λ told q f.
    into_stopped _ _ _ c.from_residual.ensures.0
    (sent-nothing g.met.W.Sink.rule (g.met.W.Sink.is_state c.args.out.now) _ refl)

pub returns-in_err-item-in-Pop-clause-prints : goal.returns-in_err-item-in-Pop-clause-prints
returns-in_err-item-in-Pop-clause-prints g c = λ told q f.
    into_stopped _ _ _ c.from_residual-in_err-item-in-Pop.ensures.0
    (sent-nothing g.met.W.Sink.rule (g.met.W.Sink.is_state c.args.out.now) _ refl)

pub returns-in_err-add_popped-in-Pop-clause-prints : goal.returns-in_err-add_popped-in-Pop-clause-prints
returns-in_err-add_popped-in-Pop-clause-prints g c = λ told q f.
    let pop = c.in_ok-item-in-Pop.ensures in
    let popped = counted_pop f (pop.items told) pop.none
    (g.met.Q.Queue.len_is c.args.queue.now _ c.requires.queue told) in
    rw (c.in-Pop.is, pop_text _ _ q _ popped)
    (into_failed c.add_popped.new.printer _ c.from_residual-in_err-add_popped-in-Pop.ensures.1
    c.in_err-add_popped-in-Pop.ensures.part)

pub returns-in_ok-push-in-Push-clause-numbers : goal.returns-in_ok-push-in-Push-clause-numbers
returns-in_ok-push-in-Push-clause-numbers g c = λ told.
    rw (c.in_ok-push-in-Push.ensures.items told)
    (numbered_push c.args.pushes c.in-Push.key c.in-Push.value
    (g.Q.Queue.items c.args.queue.now (seen g.D.Device.state c.args.rig.now))
    (c.requires.numbers told))

pub returns-in_ok-push-in-Push-clause-follows : goal.returns-in_ok-push-in-Push-clause-follows
returns-in_ok-push-in-Push-clause-follows g c = λ told q f.
    rw (c.in_ok-push-in-Push.ensures.items told, c.in-Push.is)
    (follows_push (g.Q.Queue.items c.args.queue.now (seen g.D.Device.state c.args.rig.now))
    c.args.pushes c.in-Push.key c.in-Push.value q f)

pub returns-in_ok-add_popped-in-Pop-clause-follows : goal.returns-in_ok-add_popped-in-Pop-clause-follows
returns-in_ok-add_popped-in-Pop-clause-follows g c = λ told q f.
    let pop = c.in_ok-item-in-Pop.ensures in
    let popped = counted_pop f (pop.items told) pop.none
    (g.met.Q.Queue.len_is c.args.queue.now _ c.requires.queue told) in
    rw (c.in-Pop.is) popped.follows

pub returns-in_ok-add_popped-in-Pop-clause-prints : goal.returns-in_ok-add_popped-in-Pop-clause-prints
returns-in_ok-add_popped-in-Pop-clause-prints g c = λ told q f.
    let pop = c.in_ok-item-in-Pop.ensures in
    let popped = counted_pop f (pop.items told) pop.none
    (g.met.Q.Queue.len_is c.args.queue.now _ c.requires.queue told) in
    rw (c.in-Pop.is, pop_text _ _ q _ popped) (into_all _ c.in_ok-add_popped-in-Pop.ensures.sent)

pub returns-in_ok-push-in-Push-clause-prints : goal.returns-in_ok-push-in-Push-clause-prints
returns-in_ok-push-in-Push-clause-prints g c = λ told q f.
    into_nothing g.met.W.Sink.rule (g.met.W.Sink.is_state c.args.out.now) c.args.printer.now _ _
    (ap (λ x. queue_text (queue_answer_of q x)) c.in-Push.is)
