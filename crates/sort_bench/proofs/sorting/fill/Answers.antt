use Rattle.std.proofs.Common.{arith, ap, set, ◌+◌, ◌∙◌}
use Rattle.std.specs.Prelude.{List}
use Rattle.em_record.specs.declared.record.Record.{Record}
use Rattle.sort_bench.specs.Lots.{numbered}
use Rattle.sort_bench.proofs.Lots.{filled_next, length_filled}
use Rattle.sort_bench.proofs.sorting.fill.Goals as goal

pub put-requires-clause-room : goal.put-requires-clause-room
put-requires-clause-room c =
    let i = c.loop-place.invariant in
    let t = c.loop-place-test.true in
    let l = length_filled c.args.area.now c.args.first c.loop-place.place (omega (arith, t, c.requires.room)) in
    rw i (omega (arith, l, t, c.requires.room))

pub loop-place-preserved : goal.loop-place-preserved
loop-place-preserved c =
    let i = c.loop-place.invariant in
    let t = c.loop-place-test.true in
    c.put.ensures
    ∙ ap (λ (xs : List Record). set xs c.loop-place.place (numbered (c.args.first + c.loop-place.place))) i
    ∙ filled_next c.args.area.now c.args.first c.loop-place.place (omega (arith, t, c.requires.room))
