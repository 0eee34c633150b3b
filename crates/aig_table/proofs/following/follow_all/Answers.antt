use Rattle.std.proofs.Common.{◌≡◌, ◌∙◌, arith, refl, sym, []}
use Rattle.em_space.specs.Seen.{seen}
use Rattle.em_chain.specs.Reader.{owed, reader_items}
use Rattle.aig_edges.specs.Looks.{LooksAll}
use Rattle.aig_edges.proofs.Looks.{of_fault, past_end, past_looks, past_more, past_none, past_stops}
use Rattle.aig_table.specs.Follows.{FollowsTo}
use Rattle.aig_table.proofs.Followed.{follow_begins, follow_ends, follow_more}
use Rattle.aig_table.proofs.following.follow_all.Goals as goal

pub loop-init : goal.loop-init
loop-init g c = record {
  past = past_none c.requires.sound c.requires.is c.requires.over;
  follows = λ z. follow_begins _ c.args.last c.args.table.now;
  long = refl;
  most = omega arith;
}

pub loop-preserved : goal.loop-preserved
loop-preserved g c =
    let i = c.loop.invariant in
    let e = c.in_ok-edge.ensures in
    let a = c.follow.ensures.follows in
    record {
      past = past_more i.past e.done;
      follows = λ z. follow_more c.loop.counter c.args.last c.in_ok-edge.edge i.long
          (e.done.reads.items (i.past.goes.touches.told ∙ z)) (i.follows z) a;
      long = a.long ∙ i.long;
      most = omega (arith, c.loop-test.true);
    }

pub returns-in_err-edge-clause-follows : goal.returns-in_err-edge-clause-follows
returns-in_err-edge-clause-follows g c =
    let s = seen g.D.Device.state c.args.rig.now in
    of_fault (λ r. LooksAll (owed c.args.reader.now) s (seen g.D.Device.state c.next_record.new.rig)
    (λ done. FollowsTo (reader_items s c.args.reader.now) [] c.args.count c.args.last c.args.table.now
    c.loop.table) r) _ _ c.from_residual.ensures.1 (past_stops c.loop.invariant.past c.in_err-edge.ensures.done)

pub returns-clause-follows : goal.returns-clause-follows
returns-clause-follows g c =
    let i = c.loop.invariant in
    let n : c.loop.counter ≡ c.args.count = omega (arith, c.loop-test.false, i.most) in
    (past_looks i.past, λ z. follow_ends (past_end i.past (c.requires.count ∙ sym n) z) n (i.follows z))
