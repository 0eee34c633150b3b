use Rattle.std.proofs.Common.{arith}
use Rattle.em_plain.specs.CommandList.{list_len}
use Rattle.em_plain.proofs.Answered.{list_completes, list_full, list_most, records_most, records_room}
use Rattle.em_plain.proofs.scan_map.ScanMap.finish.Goals as goal

pub returns-clause-most : goal.returns-clause-most
returns-clause-most g c =
    let a = c.answer.ensures.done in
    list_most (list_len c.args.self.list) a c.requires.sound c.requires.is.list (omega (arith, a.few))
    (omega arith)

pub returns-clause-full : goal.returns-clause-full
returns-clause-full g c =
    let a = c.answer.ensures.done in
    list_full _ c.answer.result a
    (records_room a.records (list_len c.args.self.list) c.requires.sound (omega (arith, a.few)))

pub returns-clause-full_if_few : goal.returns-clause-full_if_few
returns-clause-full_if_few g c = λ z.
    let a = c.answer.ensures.done in
    list_full _ c.answer.result a (records_most a.records _ c.requires.sound (a.told z))

pub returns-clause-complete_if_enough : goal.returns-clause-complete_if_enough
returns-clause-complete_if_enough g c = λ few.
    let a = c.answer.ensures.done in
    list_completes _ c.answer.result a
    (λ z. records_most a.records _ c.requires.sound (a.told z)) few

pub returns-clause-complete : goal.returns-clause-complete
returns-clause-complete g c = λ few.
    let a = c.answer.ensures.done in
    list_completes _ c.answer.result a
    (λ z. records_room a.records (list_len c.args.self.list) c.requires.sound (omega (arith, a.few)))
    few
