use Rattle.std.proofs.Common.{◌≡◌, length, ◌++◌}
use Rattle.em_node.specs.Node.{entries_of, level_of}
use Rattle.em_balance.specs.Fusing.{DealsEntries}
use Rattle.em_balance.proofs.dealing.deal_down.Given as goal

abbrev pub invariant-loop : goal.invariant-loop
invariant-loop l = record {
  low_len : length l.low ≡ length l.initial.low;
  high_len : length l.high ≡ length l.initial.high;
  deals : DealsEntries (level_of l.initial.low) (level_of l.initial.high)
      (entries_of l.initial.low ++ entries_of l.initial.high) l.counter l.low l.high;
}
