use Rattle.std.proofs.Common.{◌≡◌, ◌∙◌, ℕ, Result, arith, refl, subst}
use Rattle.em_space.specs.Seen.{seen}
use Rattle.em_space.specs.declared.fault.EmFault.{EmFault}
use Rattle.aig_edges.proofs.Looks.{of_fault}
use Rattle.aig_order.specs.Rewrites.{RewritesNext, RewritesOn}
use Rattle.aig_order.proofs.Rewritten.{rewrites_none, rewrites_then, still_rewritten, stops_rewriting}
use Rattle.aig_order.proofs.rewriting.rewrite_all.Goals as goal

pub loop-init : goal.loop-init
loop-init g c = record {
  most = omega arith;
  long = refl;
  rewrites = rewrites_none c.args.last c.args.standing.now c.args.row.now c.requires.are;
}

pub rewrite_next-requires-clause-are : goal.rewrite_next-requires-clause-are
rewrite_next-requires-clause-are g c = still_rewritten c.requires.are c.loop.invariant.rewrites

pub rewrite_next-requires-clause-some : goal.rewrite_next-requires-clause-some
rewrite_next-requires-clause-some g c =
    let i = c.loop.invariant.rewrites in
    let left = i.pairs.took.left_is in
    let read = i.count_is in
    let all = c.requires.count in
    let more = c.loop-test.true in
    omega (arith, left, read, all, more)

pub rewrite_next-requires-clause-within : goal.rewrite_next-requires-clause-within
rewrite_next-requires-clause-within g c =
    let fits = c.requires.within in
    let long = c.loop.invariant.long in
    omega (arith, fits, long)

pub returns-in_err-rewrite_next-clause-rewrites : goal.returns-in_err-rewrite_next-clause-rewrites
returns-in_err-rewrite_next-clause-rewrites g c =
    of_fault (λ (r : Result (Unit {0}) EmFault). RewritesNext c.args.last c.args.count
    (seen g.D.Device.state c.args.rig.now) (seen g.D.Device.state c.rewrite_next.new.rig)
    c.args.reader.now c.rewrite_next.new.reader c.args.writer.now c.rewrite_next.new.writer
    c.args.standing.now c.rewrite_next.new.standing c.args.row.now c.rewrite_next.new.row r) _ _
    c.from_residual.ensures.1
    (stops_rewriting c.requires.are c.loop.invariant.rewrites c.in_err-rewrite_next.ensures.rewrites)

pub loop-preserved : goal.loop-preserved
loop-preserved g c =
    let i = c.loop.invariant in
    let e = c.in_ok-rewrite_next.ensures in
    record {
      most = omega (arith, c.loop-test.true);
      long = e.long ∙ i.long;
      rewrites = rewrites_then i.rewrites e.rewrites;
    }

pub returns-clause-rewrites : goal.returns-clause-rewrites
returns-clause-rewrites g c =
    let i = c.loop.invariant in
    let n : c.loop.counter ≡ c.args.count = omega (arith, c.loop-test.false, i.most) in
    subst (λ (m : ℕ). RewritesOn c.args.last m (seen g.D.Device.state c.args.rig.now)
    (seen g.D.Device.state c.loop.rig) c.args.reader.now c.loop.reader c.args.writer.now
    c.loop.writer c.args.standing.now c.loop.standing c.args.row.now c.loop.row) n i.rewrites
