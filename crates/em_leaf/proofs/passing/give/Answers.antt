use Rattle.std.proofs.Common.{◌<◌, length, sym, subst, arith}
use Rattle.std.specs.Prelude.{Option, option_to_list}
use Rattle.em_record.specs.declared.record.Record.{Record}
use Rattle.em_space.specs.Seen.{seen}
use Rattle.em_leaf.specs.Passing.{GivesAnswer}
use Rattle.em_leaf.proofs.Needs.{always}
use Rattle.em_leaf.proofs.passing.give.Goals as goal

pub returns-in-Some-clause-gives : goal.returns-in-Some-clause-gives
returns-in-Some-clause-gives g c =
    let P : Option Record → Type 0 = λ o. GivesAnswer (seen g.D.Device.state c.args.rig.now)
    (seen g.D.Device.state c.give_one.new.rig) c.args.answers.now c.give_one.new.answers o
    c.give_one.result in
    subst P (sym c.in-Some.is) c.give_one.ensures.gives

pub returns-in-Some-clause-some : goal.returns-in-Some-clause-some
returns-in-Some-clause-some g c =
    let some : 0 < length (option_to_list c.args.answer) = rw c.in-Some.is (omega arith) in
    always (0 < length (option_to_list c.args.answer)) c.give_one.result some
