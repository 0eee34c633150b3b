use Rattle.std.proofs.Common.{◌≡◌, ℕ, take, sym, ap, subst, ◌∙◌}
use Rattle.em_record.specs.Order.{IsAscending, in_order}
use Rattle.em_record.proofs.Order.{order_ascends}
use Rattle.em_segment.proofs.LeafAnswers.{answers_err, load_by, load_ready, points_refused}
use Rattle.em_segment.proofs.leaf.leaf_by.Goals as goal

pub returns-in_err-take_load-clause-answers : goal.returns-in_err-take_load-clause-answers
returns-in_err-take_load-clause-answers g c =
    answers_err _ _ _ _ _ _ c.from_residual.result _ c.from_residual.ensures.1
    (points_refused c.requires.call c.in_err-take_load.ensures.takes)

pub report_pieces-requires-clause-can : goal.report_pieces-requires-clause-can
report_pieces-requires-clause-can g c = load_ready c.requires.call c.in_ok-take_load.ensures.takes

pub report_pieces-requires-clause-ascends : goal.report_pieces-requires-clause-ascends
report_pieces-requires-clause-ascends g c =
    let n = c.len-number.result in
    let is : take n c.records.result.now ≡ in_order (take n c.take_load.new.area) =
    ap (take n) c.records.ensures ∙ c.put_in_order.ensures.load in
    subst IsAscending (sym is) (order_ascends (take n c.take_load.new.area))

pub returns-clause-answers : goal.returns-clause-answers
returns-clause-answers g c =
    let n = c.len-number.result in
    let is : take n c.records.result.now ≡ in_order (take c.args.points.count c.take_load.new.area) =
    ap (take n) c.records.ensures ∙ (c.put_in_order.ensures.load
    ∙ ap (λ (m : ℕ). in_order (take m c.take_load.new.area)) c.len-number.ensures) in
    load_by c.requires.call c.in_ok-take_load.ensures.takes _ (take n c.records.result.now) _
    c.report_pieces.result is c.report_pieces.ensures.reports
