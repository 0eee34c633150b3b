-- A batch that begins over a tree of pairs.
use Rattle.std.specs.Prelude.{◌≡◌, ◌≤◌, ◌^◌, ℕ, false, List, [], length, map, IsTrue, None}
use Rattle.em_record.specs.declared.record.Record.{Record}
use Rattle.em_model.specs.Base.{KeysRise, puts_of}
use Rattle.em_settle.specs.Add.{IsAddOp}
use Rattle.em_settle.specs.Map.{IsMapKept, map_key_of, map_record}
use Rattle.em_settle.specs.declared.add.AddSettle.{AddSettle}
use Rattle.em_space.specs.Rig.{RigState}
use Rattle.em_tree_cost.specs.Books.{adopted_counts}
use Rattle.em_tree_model.specs.Tree.{stored_in, waiting_in}
use Rattle.em_tree.specs.declared.tree.Tree.{Tree}
use Rattle.em_trunk.specs.Trunk.{IsTrunk, counts_of, given_by, model_of}
use Rattle.em_trunk.specs.declared.trunk.Trunk.{Trunk}
use Rattle.em_map.specs.Batch.{HasCommands, IsBatch}
use Rattle.em_map.specs.declared.batch.Batch.{Batch}

-- the records of pairs of a key and its value: (K, 0, 0, V)
abbrev pub records_of_pairs : List (ℕ × ℕ) → List Record
records_of_pairs pairs = map (λ (p : ℕ × ℕ). map_record p.0 p.1) pairs

-- A tree of these pairs, as a builder leaves it: nothing waits in it, it gave no answer, and it counts its pairs as adopted,
-- and no operation and no move.
pub record IsTreeOf (s : RigState) (v : Trunk) (pairs : List (ℕ × ℕ)) : Type 0 where
  pub is : IsTrunk map_key_of IsAddOp IsMapKept s v
  pub counts : counts_of v ≡ adopted_counts (length pairs)
  pub few : length pairs ≤ 2 ^ 56
  pub rise : KeysRise pairs
  pub waiting : IsTrue s.device.told → waiting_in (model_of s v) ≡ []
  pub given : IsTrue s.device.told → given_by s v ≡ []
  pub stored : IsTrue s.device.told → stored_in (model_of s v) ≡ records_of_pairs pairs

-- a batch over a tree of n pairs, before the next call
abbrev pub over_batch : {F : Type 0} → Tree (AddSettle F) → ℕ → Batch F
over_batch tree n = record { tree = tree; calls = n; syncs = 0; early = false; load = None }

-- A batch over such a tree: its pairs count as calls, one put each, and no sync came.
pub record BeginsOver {F : Type 0} (s : RigState) (b : Batch F) (pairs : List (ℕ × ℕ)) : Type 0 where
  pub is : IsBatch s b
  pub has : HasCommands s b [] (puts_of pairs)
