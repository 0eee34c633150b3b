use Rattle.std.proofs.Common.{sym, arith}
use Rattle.std.proofs.lemmas.Bool.{cond-true, lt-ltb}
use Rattle.em_plain.proofs.Adds.{adds_as, adds_none}
use Rattle.em_plain.proofs.map_answers.GetsQuestion.answer.Goals as goal

pub returns-then-number-self-clause-done : goal.returns-then-number-self-clause-done
returns-then-number-self-clause-done g c =
    adds_as 1 _ (omega arith)
    (λ z. sym (cond-true _ _ _ (lt-ltb c.args.number c.args.self.now.answered c.if-number-self.true)))
    (adds_none c.requires.ready.sound c.requires.ready.beside.writer.writer)
