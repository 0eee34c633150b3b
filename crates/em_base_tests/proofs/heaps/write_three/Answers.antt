use Rattle.std.proofs.Common.{refl, arith}
use Rattle.em_base_tests.proofs.Fronts.{three_ascend}
use Rattle.em_base_tests.proofs.heaps.write_three.Goals as goal

pub returns-clause-ascends : goal.returns-clause-ascends
returns-clause-ascends c =
    let n = c.requires in
    rw (c.records_mut-records.ensures.value, c.words.ensures, c.words-2.ensures, c.words-3.ensures)
    (three_ascend c.args.area.now _ _ _ (omega arith) refl refl refl)
