use Rattle.std.proofs.Common.{◌≤◌, ◌^◌, ap, ◌∙◌, sym, arith, subst, List, ℕ}
use Rattle.em_lines.specs.BaseLine.{next_pair}
use Rattle.em_lines.specs.Stops.{StopsBy}
use Rattle.em_lines.specs.Stream.{after_line, line_at}
use Rattle.em_lines.proofs.LineLemmas.{next_some}
use Rattle.em_lines.proofs.PairLemmas.{pair_faulty, pair_taken}
use Rattle.em_lines.proofs.base.take_pair.Goals as goal

pub returns-in-Ok-clause-taken : goal.returns-in-Ok-clause-taken
returns-in-Ok-clause-taken g c = λ told.
    let few : c.args.number ≤ 2 ^ 40 = omega arith in
    let same = c.in_ok-next_byte.ensures.same told in
    let is = next_some _ _ _ (c.in_ok-next_byte.ensures.next told) c.in-Some.is in
    pair_taken c.args.number c.args.last _ _ _ _ c.in-Ok.pair is few
    (ap (λ (s : List ℕ). next_pair c.args.last (line_at s)) (sym same) ∙ c.in-Ok.ensures.value told)
    (c.in-Ok.ensures.line told ∙ ap after_line same)

pub returns-in-Err-clause-fault : goal.returns-in-Err-clause-fault
returns-in-Err-clause-fault g c = λ told.
    let few : c.args.number ≤ 2 ^ 40 = omega arith in
    let same = c.in_ok-next_byte.ensures.same told in
    let is = next_some _ _ _ (c.in_ok-next_byte.ensures.next told) c.in-Some.is in
    pair_faulty c.args.number c.args.last _ _ _ c.in-Err.stop is few
    (subst (λ (s : List ℕ). StopsBy c.in-Err.stop (next_pair c.args.last (line_at s))) same
    (c.in-Err.ensures.value told))
