use Rattle.std.proofs.Common.{◌<◌, sym, ◌∙◌, ⊎_elim}
use Rattle.std.proofs.lemmas.Bool.{false≢true}
use Rattle.em_space.specs.Seen.{seen}
use Rattle.em_pqueue.specs.ExtQueue.{GoesDown}
use Rattle.em_pqueue.proofs.Puts.{lacks_down, put_down, put_heap}
use Rattle.em_pqueue.proofs.Working.{on_err}
use Rattle.em_pqueue.proofs.queue.ExtQueue.put_beside.Goals as goal

pub push_down-requires-clause-lacks : goal.push_down-requires-clause-lacks
push_down-requires-clause-lacks g c = λ told.
    lacks_down (seen g.D.Device.state c.args.rig.now) c.args.self.now c.args.item c.requires.stands
    (c.requires.lacks told)

pub returns-then-goes_down-clause-puts : goal.returns-then-goes_down-clause-puts
returns-then-goes_down-clause-puts g c =
    put_down (seen g.D.Device.state c.args.rig.now) c.args.self.now c.args.item c.requires.stands
    (seen g.D.Device.state c.push_down.new.rig) c.push_down.new.self
    (c.goes_down.ensures.0 c.if-goes_down.true) c.requires.lacks c.push_down.result
    c.push_down.ensures

pub returns-clause-puts : goal.returns-clause-puts
returns-clause-puts g c =
    let up : GoesDown c.args.self.now c.args.item → ⊥ = λ d. false≢true (sym c.if-goes_down.false ∙ c.goes_down.ensures.1 d) in
    put_heap (seen g.D.Device.state c.args.rig.now) c.args.self.now c.args.item c.requires.stands
    c.push.new.self c.requires.sound (⊎_elim
    (λ (d : GoesDown c.args.self.now c.args.item). absurd (up d))
    (λ (r : c.args.self.now.heap.len < c.args.self.now.heap.capacity). r) c.requires.room) up
    c.requires.lacks c.push.ensures

pub returns-then-goes_down-clause-needs : goal.returns-then-goes_down-clause-needs
returns-then-goes_down-clause-needs g c =
    on_err (GoesDown c.args.self.now c.args.item) c.push_down.result
    (c.goes_down.ensures.0 c.if-goes_down.true)

pub returns-then-goes_down-clause-still : goal.returns-then-goes_down-clause-still
returns-then-goes_down-clause-still g c = λ up. absurd (up (c.goes_down.ensures.0 c.if-goes_down.true))
