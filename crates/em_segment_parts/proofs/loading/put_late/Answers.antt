use Rattle.std.proofs.Common.{◌≤◌, List, ap, length, subst, sym, ◌∙◌, arith}
use Rattle.em_record.specs.Order.{in_order}
use Rattle.em_record.specs.declared.record.Record.{Record}
use Rattle.em_segment_parts.proofs.Turning.{ordered_front, ordered_long, put_back, turned_front, turned_long}
use Rattle.em_segment_parts.proofs.loading.put_late.Goals as goal

pub sort-requires : goal.sort-requires
sort-requires c =
    let turned = rw c.records_mut.ensures.value at c.turn_late.ensures.turned in
    let long = turned_long _ _ c.args.number c.requires.room turned in
    let back = put_back _ _ long in
    record {
      room = subst (λ (xs : List Record). c.args.number ≤ length xs) (sym back)
          (omega (arith, long, c.requires.room));
    }

pub returns-clause-load : goal.returns-clause-load
returns-clause-load c =
    let turned = rw c.records_mut.ensures.value at c.turn_late.ensures.turned in
    let long = turned_long _ _ c.args.number c.requires.room turned in
    let back = put_back _ _ long in
    let sorted = rw back at c.sort.ensures.sorted in
    ordered_front _ _ c.args.number (omega (arith, long, c.requires.room)) sorted
    ∙ ap in_order (turned_front _ _ c.args.number c.requires.room turned)

pub returns-clause-len : goal.returns-clause-len
returns-clause-len c =
    let turned = rw c.records_mut.ensures.value at c.turn_late.ensures.turned in
    let long = turned_long _ _ c.args.number c.requires.room turned in
    let back = put_back _ _ long in
    let sorted = rw back at c.sort.ensures.sorted in
    ordered_long _ _ c.args.number (omega (arith, long, c.requires.room)) sorted ∙ long
