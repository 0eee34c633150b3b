use Rattle.std.proofs.Common.{true, None, refl}
use Rattle.em_map.proofs.Batches.{is_new}
use Rattle.em_map.proofs.batch.Batch.early.Goals as goal

pub returns-clause-makes : goal.returns-clause-makes
returns-clause-makes g c =
    is_new (record { tree = c.in_ok-tree.tree; calls = 0; syncs = 0; early = true; load = None }) refl refl refl
    c.in_ok-tree.ensures.makes
