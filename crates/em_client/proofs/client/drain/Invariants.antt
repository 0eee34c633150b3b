use Rattle.std.proofs.Common.{◌≡◌, ◌+◌, ◌-◌, ◌≤◌, ◌++◌, length, take, IsTrue}
use Rattle.em_space.specs.Held.{Within}
use Rattle.em_space.specs.Queue.{CanServe, Shares}
use Rattle.em_space.specs.Rig.{Sound, Touches}
use Rattle.em_space.specs.Seen.{seen}
use Rattle.em_client.proofs.client.drain.Given as goal

abbrev pub invariant-loop-count : goal.invariant-loop-count
invariant-loop-count g l =
    let first = seen g.D.Device.state l.fn.rig in
    let now = seen g.D.Device.state l.rig in
    let old = g.Q.Queue.counts l.fn.queue in
    let counts = g.Q.Queue.counts l.queue in
    let held = g.Q.Queue.blocks l.fn.queue first in
    record {
      sound : Sound now;
      touches : Touches held first now;
      within : Within first held (g.Q.Queue.blocks l.queue now);
      queue : g.Q.Queue.IsQueue l.queue now;
      shares : Shares old counts first.pool now.pool;
      free : CanServe now.pool;
      count : l.count ≤ length l.out;
      n : counts.n ≡ old.n + l.count;
      len : l.count + counts.len ≡ old.len;
      spent : now.moves + old.spent ≡ first.moves + counts.spent;
      items : IsTrue first.device.told
          → take l.count l.out ++ g.Q.Queue.items l.queue now ≡ g.Q.Queue.items l.fn.queue first;
    }

abbrev pub decreases-loop-count : goal.decreases-loop-count
decreases-loop-count g l = length l.out - l.count
