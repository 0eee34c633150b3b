use Rattle.std.proofs.Common.{◌≡◌, ℕ, ◌+◌, false, get_or, sym, subst, length, ◌∙◌, arith, length-take-le}
use Rattle.em_record.specs.Order.{is_below}
use Rattle.em_frames.specs.Device.{zero_record}
use Rattle.em_record.proofs.OrderLaws.{ascends_by_next}
use Rattle.em_heap.proofs.Stocks.{gathered_long, stock_halves}
use Rattle.em_heap.proofs.stock.halve.Goals as goal

pub returns : goal.returns
returns c =
    let xs = c.args.records.now in
    let ws = c.gather.new.records in
    let zs = c.sort_unstable.new.self in
    let n = c.args.top + c.args.run in
    let wide = gathered_long xs ws c.args.top c.args.run c.requires.stock c.gather.ensures in
    let room = c.requires.stock.room in
    let long : length zs ≡ n =
    c.sort_unstable.ensures.len ∙ length-take-le n ws (omega (arith, wide, room)) in
    stock_halves xs ws zs c.args.top c.args.run c.requires.stock c.gather.ensures
    c.sort_unstable.ensures.permutation long
    (ascends_by_next zs zero_record
    (λ k j e f. subst (λ (i : ℕ). is_below (get_or zs i zero_record) (get_or zs k zero_record) ≡ false)
    (sym e) (c.sort_unstable.ensures.sorted k zero_record (omega arith) (omega arith))))
