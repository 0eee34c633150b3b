use Rattle.std.proofs.Common.{arith}
use Rattle.em_space.specs.Seen.{seen}
use Rattle.em_pqueue.specs.ExtQueue.{counts_of, queue_blocks}
use Rattle.aig_tests.proofs.Making.{ordered_beside, ordered_stay, tree_builds}
use Rattle.aig_tests.proofs.evaluation.evaluate_by_tree.Goals as goal

pub new-requires-clause-free : goal.new-requires-clause-free
new-requires-clause-free g c = record {
  singles = omega (arith, c.requires.has.two);
  areas = omega (arith, c.requires.has.areas);
  rack = c.requires.has.build.rack;
}

pub evaluate-requires : goal.evaluate-requires
evaluate-requires g c =
    let s = seen g.D.Device.state c.args.rig.now in
    let t = seen g.D.Device.state c.new.new.rig in
    let q = c.in_ok-queue.queue in
    let made = c.in_ok-queue.ensures.makes in
    let has = c.requires.has in
    record {
      sound = made.session.sound;
      ordered = ordered_stay s t c.args.ordered c.requires.ordered made.session.touches;
      is = made.is;
      empty = made.new.len;
      none = made.new.n;
      ready = c.requires.ready;
      free = tree_builds s t (counts_of q) has made.frames (omega arith) (omega arith);
      holds = ordered_beside s t c.args.ordered (queue_blocks t q) has.sound c.requires.ordered
          made.session;
    }
