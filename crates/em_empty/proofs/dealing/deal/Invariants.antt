use Rattle.std.proofs.Common.{◌+◌, ◌≤◌, min, length}
use Rattle.em_space.specs.Seen.{seen}
use Rattle.em_chain.specs.Writers.{group_account}
use Rattle.em_node.specs.Node.{entries_of}
use Rattle.em_empty.specs.Dealt.{Dealt}
use Rattle.em_empty.proofs.dealing.deal.Given as goal

abbrev pub invariant-loop : goal.invariant-loop
invariant-loop g l =
    let es = entries_of l.fn.frame in
    record {
      dealt : Dealt (l.fn.reader.blocks + (group_account l.fn.group).blocks + min l.counter
          (length es))
          l.counter (g.S.Settle.key_of l.fn.settle) es (seen g.D.Device.state l.fn.rig)
          (seen g.D.Device.state l.rig) l.fn.reader l.reader l.fn.group l.group;
      count : l.counter ≤ l.records;
    }
