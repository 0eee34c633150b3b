use Rattle.std.proofs.Common.{◌≡◌, ◌+◌, ◌-◌, ◌*◌, ◌≤◌, ◌++◌, take, drop, IsTrue}
use Rattle.em_space.specs.Held.{Apart, Within}
use Rattle.em_space.specs.Queue.{CanServe, Shares}
use Rattle.em_space.specs.Rig.{Sound, Touches}
use Rattle.em_space.specs.Seen.{seen}
use Rattle.em_chain.specs.Writer.{IsWriter, filled, writer_blocks, writer_items}
use Rattle.em_client.proofs.client.beside.Given as goal

abbrev pub invariant-loop-count : goal.invariant-loop-count
invariant-loop-count g l =
    let first = seen g.D.Device.state l.fn.rig in
    let now = seen g.D.Device.state l.rig in
    let old = g.Q.Queue.counts l.fn.queue in
    let counts = g.Q.Queue.counts l.queue in
    let held = g.Q.Queue.blocks l.fn.queue first ++ writer_blocks first l.fn.writer in
    let items = g.Q.Queue.items l.fn.queue first in
    record {
      sound : Sound now;
      touches : Touches held first now;
      within : Within first held (g.Q.Queue.blocks l.queue now);
      within_list : Within first held (writer_blocks now l.writer);
      queue : g.Q.Queue.IsQueue l.queue now;
      writer : IsWriter now l.writer;
      shares : Shares old counts first.pool now.pool;
      frames : counts.frames ≡ old.frames;
      free : CanServe now.pool;
      apart : IsTrue now.device.told
          → Apart (g.Q.Queue.blocks l.queue now) (writer_blocks now l.writer);
      count : l.count ≤ l.limit;
      n : counts.n ≡ old.n + l.count;
      remaining : l.count + counts.len ≡ old.len;
      len : l.writer.count ≡ l.fn.writer.count + l.count;
      blocks : l.writer.blocks ≤ l.fn.writer.blocks + l.count;
      filled_is : filled now l.writer ≡ filled first l.fn.writer + l.count;
      spent : now.moves + old.spent + 2 * l.fn.writer.blocks
          ≤ first.moves + counts.spent + 2 * l.writer.blocks;
      left : IsTrue first.device.told → g.Q.Queue.items l.queue now ≡ drop l.count items;
      written : IsTrue first.device.told → writer_items now l.writer
          ≡ writer_items first l.fn.writer ++ take l.count items;
    }

abbrev pub decreases-loop-count : goal.decreases-loop-count
decreases-loop-count g l = l.limit - l.count
