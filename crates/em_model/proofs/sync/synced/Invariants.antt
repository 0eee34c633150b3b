use Rattle.std.proofs.Common.{◌≡◌, length, take}
use Rattle.em_model.specs.Sync.{up_to_sync}
use Rattle.em_model.proofs.sync.synced.Given as goal

abbrev pub invariant-loop-i : goal.invariant-loop-i
invariant-loop-i l = l.count ≡ length (up_to_sync (take l.i l.commands))
