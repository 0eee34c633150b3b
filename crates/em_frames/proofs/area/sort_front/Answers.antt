use Rattle.std.proofs.Common.{◌≡◌, ℕ, List, ◌++◌, get_or, sym, subst, ap, false, length, take, drop, ◌∙◌, arith, length-take-le}
use Rattle.em_record.specs.declared.record.Record.{Record}
use Rattle.em_record.specs.Order.{is_below}
use Rattle.em_record.proofs.OrderLaws.{ascends_by_next, order_of}
use Rattle.em_frames.specs.Device.{zero_record}
use Rattle.em_frames.proofs.area.sort_front.Goals as goal

pub returns-clause-sorted : goal.returns-clause-sorted
returns-clause-sorted c =
    let front = take c.args.count c.args.records.now in
    let zs = c.sort_unstable.new.self in
    let long : length zs ≡ c.args.count =
    c.sort_unstable.ensures.len ∙ length-take-le c.args.count c.args.records.now c.requires.room in
    ap (λ (l : List Record). l ++ drop c.args.count c.args.records.now)
    (order_of front zs c.sort_unstable.ensures.permutation
    (ascends_by_next zs zero_record
    (λ k j e f. subst (λ (i : ℕ). is_below (get_or zs i zero_record) (get_or zs k zero_record) ≡ false)
    (sym e) (c.sort_unstable.ensures.sorted k zero_record (omega arith) (omega arith)))))
