use Rattle.std.proofs.Common.{false, None, refl}
use Rattle.em_map.proofs.Batches.{is_new}
use Rattle.em_map.proofs.batch.Batch.with.Goals as goal

pub returns-clause-makes : goal.returns-clause-makes
returns-clause-makes g c =
    is_new (record { tree = c.in_ok-tree.tree; calls = 0; syncs = 0; early = false; load = None }) refl refl refl
    c.in_ok-tree.ensures.makes
