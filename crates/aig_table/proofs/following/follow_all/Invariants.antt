use Rattle.std.proofs.Common.{◌≡◌, ◌≤◌, IsTrue, length}
use Rattle.em_space.specs.Seen.{seen}
use Rattle.em_chain.specs.Reader.{reader_items}
use Rattle.aig_edges.specs.Looks.{LooksPast}
use Rattle.aig_table.specs.Follows.{FollowsTo}
use Rattle.aig_table.proofs.following.follow_all.Given as goal

abbrev pub invariant-loop : goal.invariant-loop
invariant-loop g l =
    let first = seen g.D.Device.state l.fn.rig in
    let now = seen g.D.Device.state l.rig in
    record {
      past : LooksPast first now l.fn.reader l.reader l.counter;
      follows : IsTrue first.device.told → FollowsTo (reader_items first l.fn.reader)
          (reader_items now l.reader) l.counter l.last l.fn.table l.table;
      long : length l.table ≡ length l.fn.table;
      most : l.counter ≤ l.count;
    }
