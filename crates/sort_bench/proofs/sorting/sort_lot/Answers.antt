use Rattle.std.proofs.Common.{arith, ap, drop, length, take, ◌++◌, ◌∙◌}
use Rattle.std.specs.Prelude.{List}
use Rattle.em_record.specs.Order.{in_order}
use Rattle.em_record.specs.declared.record.Record.{Record}
use Rattle.sort_bench.specs.Lots.{place_sum}
use Rattle.sort_bench.proofs.Lots.{front_sorted, length_filled, length_sorted, sorted_is}
use Rattle.sort_bench.proofs.sorting.sort_lot.Goals as goal

pub sort-requires : goal.sort-requires
sort-requires c =
    let l = length_filled c.args.area.now c.args.first c.args.count c.requires.room in
    record { room = rw c.fill.ensures (omega (arith, l, c.requires.room)) }

pub weigh-requires : goal.weigh-requires
weigh-requires c =
    let n = c.args.count in
    let area = c.sort.ensures.sorted
    ∙ ap (λ (xs : List Record). in_order (take n xs) ++ drop n xs) c.fill.ensures
    ∙ sorted_is c.args.area.now c.args.first n in
    let l = length_sorted c.args.area.now c.args.first n c.requires.room in
    record { room = rw area (omega (arith, l, c.requires.room)) }

pub returns-clause-len : goal.returns-clause-len
returns-clause-len c =
    let n = c.args.count in
    let area = c.sort.ensures.sorted
    ∙ ap (λ (xs : List Record). in_order (take n xs) ++ drop n xs) c.fill.ensures
    ∙ sorted_is c.args.area.now c.args.first n in
    ap (λ (xs : List Record). length xs) area
    ∙ length_sorted c.args.area.now c.args.first n c.requires.room

pub returns-clause-sum : goal.returns-clause-sum
returns-clause-sum c = λ z.
    let n = c.args.count in
    let area = c.sort.ensures.sorted
    ∙ ap (λ (xs : List Record). in_order (take n xs) ++ drop n xs) c.fill.ensures
    ∙ sorted_is c.args.area.now c.args.first n in
    let sum = ap (λ (xs : List Record). place_sum 1 (take n xs)) area
    ∙ ap (λ (xs : List Record). place_sum 1 xs) (front_sorted c.args.area.now c.args.first n) in
    c.weigh.ensures (rw sum z) ∙ sum
