use Rattle.std.proofs.Common.{ap}
use Rattle.em_space.specs.Queue.{QueueCounts}
use Rattle.em_space.specs.Seen.{seen}
use Rattle.aig_tests.proofs.Making.{can_lend}
use Rattle.aig_tests.proofs.Making.{ordered_held, ordered_stay}
use Rattle.aig_tests.proofs.evaluation.evaluate_by_list.Goals as goal

pub evaluate-requires : goal.evaluate-requires
evaluate-requires g c =
    let s = seen g.D.Device.state c.args.rig.now in
    let t = seen g.D.Device.state c.new.new.rig in
    let made = c.in_ok-queue.ensures in
    let stays = ordered_stay s t c.args.ordered c.requires.ordered made.lends.touches in
    record {
      sound = made.lends.sound;
      ordered = stays;
      is = made.is;
      empty = ap (λ (n : QueueCounts). n.len) made.counts;
      none = ap (λ (n : QueueCounts). n.n) made.counts;
      ready = c.requires.ready;
      free = can_lend s t c.requires.has made.lends;
      holds = ordered_held t c.args.ordered _ made.blocks stays;
    }
