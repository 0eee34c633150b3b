use Rattle.std.proofs.Common.{sym, take, arith}
use Rattle.em_settle.specs.Add.{apply_of}
use Rattle.em_space.specs.Seen.{seen}
use Rattle.em_chain.specs.Chain.{chain_items}
use Rattle.em_plain.specs.Asks.{get_answer}
use Rattle.em_plain.proofs.Adds.{adds_append, adds_as, adds_err, adds_looked, adds_none, adds_to_as, looked_adds, stops_by_look}
use Rattle.em_plain.proofs.AnswerLists.{get_answer-get, get_answer-other}
use Rattle.em_plain.proofs.map_answers.answer_get.Goals as goal

pub returns-in_err-value-in-Get-clause-done : goal.returns-in_err-value-in-Get-clause-done
returns-in_err-value-in-Get-clause-done g c =
    let e = c.in_err-value-in-Get.ensures in
    adds_err _ _ _ _ _ _ c.from_residual.result _ c.from_residual.ensures.1
    (stops_by_look 1 _ c.requires.ready.sound c.requires.ready.beside.writer.writer e.looks e.cause)

pub append-requires-clause-is : goal.append-requires-clause-is
append-requires-clause-is g c =
    let a = adds_looked c.requires.ready.beside.writer.writer c.in_ok-value-in-Get.ensures.looks in
    a.writes.wrote.is

pub returns-in_ok-value-in-Get-clause-done : goal.returns-in_ok-value-in-Get-clause-done
returns-in_ok-value-in-Get-clause-done g c =
    let earlier = take c.args.number
    (chain_items (seen g.D.Device.state c.args.rig.now) c.args.chain.now) in
    let v = c.in_ok-value-in-Get.ensures in
    let e = c.append.ensures in
    adds_to_as _ 1 _ _ _ _ _ (get_answer (apply_of c.args.settle.now.kind) c.args.number earlier c.args.command) c.append.result (omega arith)
    (λ z. sym (get_answer-get (apply_of c.args.settle.now.kind) c.args.number earlier c.args.command c.in-Get.key _ c.in-Get.is
    (v.value z)))
    (looked_adds _ _ _ _ _ _ _ c.append.result c.requires.ready.beside.writer.writer v.looks
    (adds_append _ c.append.result e.goes (rw c.to_answer.ensures at e.appends) e.costs e.spends
    e.cause))

pub returns-in_default : goal.returns-in_default
returns-in_default g c =
    let earlier = take c.args.number
    (chain_items (seen g.D.Device.state c.args.rig.now) c.args.chain.now) in
    let w = c.requires.ready.beside.writer.writer in
    record {
      done = adds_as 1 _ (omega arith)
          (λ z. sym (get_answer-other (apply_of c.args.settle.now.kind) c.args.number earlier c.args.command
          (λ key e. c.in_default.not-Get key e))) (adds_none c.requires.ready.sound w);
      frame = w.frame;
    }
