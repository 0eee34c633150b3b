use Rattle.std.proofs.Common.{◌≡◌, ◌==◌, arith, ap, sym, length, ◌∙◌}
use Rattle.std.proofs.lemmas.Bool.{eq-eqb, eqb-true}
use Rattle.em_pqueue.proofs.Overs.{same_test, sorted_ascends, sorted_long, taken_over}
use Rattle.em_pqueue.proofs.queue.ExtQueue.take_over.Goals as goal

pub bounds-records-count : goal.bounds-records-count
bounds-records-count c =
    let xs = c.empty_area-area.result.now in
    let l = sorted_long xs c.sort.new.self c.args.count
    (omega (arith, c.requires.within, c.empty_area-area.ensures.len)) c.sort.ensures.sorted in
    let r = ap length c.records.ensures in
    omega (arith, l, r, c.requires.within, c.empty_area-area.ensures.len, c.if-taken-eq0.false)

pub refill-requires-clause-within : goal.refill-requires-clause-within
refill-requires-clause-within c =
    let xs = c.empty_area-area.result.now in
    let l = sorted_long xs c.sort.new.self c.args.count
    (omega (arith, c.requires.within, c.empty_area-area.ensures.len)) c.sort.ensures.sorted in
    omega (arith, l, c.requires.within, c.empty_area-area.ensures.len)

pub refill-requires-clause-ascending : goal.refill-requires-clause-ascending
refill-requires-clause-ascending c =
    sorted_ascends c.empty_area-area.result.now c.sort.new.self c.args.count
    (omega (arith, c.requires.within, c.empty_area-area.ensures.len)) c.sort.ensures.sorted

pub returns : goal.returns
returns c =
    let same : (c.args.count == c.args.self.now.in_tree) ≡ c.is_fresh.result =
    same_test _ _ c.if-taken-self-2.false in
    taken_over c.args.self.now c.refill.new.self c.empty_area-area.result.now c.sort.new.self
    c.records.result.now c.args.count _ c.empty_area-area.ensures.value c.empty_area-area.ensures.len
    c.requires.within c.sort.ensures.sorted c.records.ensures c.refill.ensures
    (omega (arith, c.if-taken-eq0.false)) (omega (arith, c.if-taken-self.false))
    (λ e. c.is_fresh.ensures.0 (sym same ∙ eq-eqb _ _ e))
    (λ e. eqb-true _ _ (same ∙ c.is_fresh.ensures.1 e))
