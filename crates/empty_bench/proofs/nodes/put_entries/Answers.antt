use Rattle.std.proofs.Common.{◌≡◌, ℕ, ◌-◌, subst, arith}
use Rattle.em_node.specs.Node.{Is}
use Rattle.empty_bench.specs.Places.{bare_entries}
use Rattle.empty_bench.proofs.nodes.put_entries.Goals as goal

pub returns-clause-is : goal.returns-clause-is
returns-clause-is c =
    let end = c.loop-done.auto.done-end in
    let test = c.loop-done-test.false in
    let all : c.loop-done.done ≡ 64 = omega (arith, end, test) in
    let P : ℕ → Type 0 = λ n. Is c.loop-done.frame 1 (bare_entries c.args.child (64 - n) n) in
    subst P all c.loop-done.invariant.is
