-- A new tree is what `new` promises.
use Rattle.std.proofs.Common.{ap}
use Rattle.em_record.specs.declared.record.Record.{Record}
use Rattle.em_space.specs.Rig.{RigState}
use Rattle.em_tree_model.specs.Tree.{stored_in, waiting_in}
use Rattle.em_tree.specs.Calls.{IsNewTrunk}
use Rattle.em_trunk.specs.Planting.{IsFreshTrunk}
use Rattle.em_trunk.specs.declared.trunk.Trunk.{Trunk}
use Rattle.em_trunk.proofs.NewTrunk.{fresh_is_trunk, fresh_whole}

module _ (key : Record → Record) (IsOp IsKept : Record → Type 0) {s t : RigState} {v : Trunk}
    (f : IsFreshTrunk s t v) where
  -- This holds for every settling rule.
  pub fresh_is_new : IsNewTrunk key IsOp IsKept s t v
  fresh_is_new = record {
    is = fresh_is_trunk key IsOp IsKept f;
    session = f.session;
    frames = f.frames;
    pays = f.pays;
    level = f.level;
    used = f.used;
    most = f.most;
    loses = f.loses;
    counts = f.counts;
    spent = f.spent;
    moves = f.moves;
    stored = λ z. ap stored_in (fresh_whole key IsOp IsKept f z);
    waiting = λ z. ap waiting_in (fresh_whole key IsOp IsKept f z);
    given = λ z. (f.told z).given;
  }
