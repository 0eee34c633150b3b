-- The steps inside the calls of a batch: its load is taken out, enters the tree, and gives its area back; its tree is settled.
use Rattle.std.specs.Prelude.{◌≡◌, ℕ, ◌+◌, ◌-◌, ◌^◌, ◌<◌, ◌≤◌, List, [], ◌∷◌, ◌++◌, length, IsTrue, Option, None, Result, Ok, Err}
use Rattle.std.specs.List.{All}
use Rattle.std.specs.List.Sorted.{IsPermutation}
use Rattle.em_record.specs.Cost.{room}
use Rattle.em_record.specs.Order.{in_order}
use Rattle.em_record.specs.declared.record.Record.{Record}
use Rattle.em_model.specs.Live.{live_pairs}
use Rattle.em_model.specs.MapAnswers.{answers_after}
use Rattle.em_model.specs.declared.command.Command.{Command}
use Rattle.em_model.specs.declared.command.Command.TheVariants.{Sync}
use Rattle.em_settle.specs.Add.{IsAddOp}
use Rattle.em_settle.specs.Map.{IsMapKept, map_key_of}
use Rattle.em_frames.specs.Pool.{SameFrames, load_of}
use Rattle.em_space.specs.Ledger.{Session}
use Rattle.em_space.specs.Queue.{Pays}
use Rattle.em_space.specs.Rig.{RigState, Sound, Touches}
use Rattle.em_space.specs.declared.fault.EmFault.{EmFault}
use Rattle.em_chain.specs.Chain.{IsChain, IsPacked, chain_blocks, chain_items}
use Rattle.em_chain.specs.declared.chain.Chain.{Chain}
use Rattle.em_tree_cost.specs.Books.{count_settle}
use Rattle.em_tree_cost.specs.Fusing.{synced_share}
use Rattle.em_tree.specs.Calls.{StopsTrunk}
use Rattle.em_trunk.specs.Trunk.{IsTrunk, counts_of, model_of}
use Rattle.em_combine.specs.Gather.{GatherState}
use Rattle.em_map.specs.Areas.{SharesAreas}
use Rattle.em_map.specs.Batch.{FollowFrom, HasArea, HasCommands, IsBatch, StopsBatch, TreeHas, areas_in, areas_of, batch_blocks, batch_spent, batch_unstored, calls_share, entries_of, gathered_in, rule_of, trunk_of}
use Rattle.em_map.specs.Contents.{WaitsUpTo}
use Rattle.em_map.specs.Early.{joined_size, left_of}
use Rattle.em_map.specs.Loading.{EntersTree, answers_in}
use Rattle.em_map.specs.declared.batch.Batch.{Batch}

-- The area of a load came back, if there was one.
pub record GivesBack (s t : RigState) (load : Option GatherState) : Type 0 where
  pub sound : Sound t
  pub touches : Touches [] s t
  pub frames : SharesAreas (areas_in load) 0 s.pool t.pool
  pub same : t ≡ record s { pool = t.pool }
  pub none : load ≡ None → t ≡ s

-- The load of a batch was taken out of it; a new one has an area of the pool.
pub record TakesLoad {F : Type 0} (s t : RigState) (b d : Batch F) (load : GatherState) : Type 0 where
  pub is : d ≡ record b { load = None }
  pub sound : Sound t
  pub touches : Touches [] s t
  pub frames : SharesAreas (areas_of b) 1 s.pool t.pool
  pub same : t ≡ record s { pool = t.pool }
  pub area : HasArea t load
  pub items : load.items ≡ gathered_in b
  pub few : length load.items < load.capacity

-- The operations of a load, which are those of the batch's last calls, can enter its tree.
pub record CanEnter {F : Type 0} (s : RigState) (b : Batch F) (ops : List Record) : Type 0 where
  pub is : IsTrunk map_key_of IsAddOp IsMapKept s (trunk_of b)
  pub are : All IsAddOp ops
  pub few : length ops ≤ b.calls
  pub follow : FollowFrom (b.calls - length ops) ops
  pub pushed : (trunk_of b).pushed + length ops ≤ 2 ^ 40
  pub longest : (trunk_of b).longest ≤ entries_of b
  pub waits : IsTrue s.device.told → WaitsUpTo (b.calls - length ops) (model_of s (trunk_of b))

-- They entered it: the tree counts what joining left of them.
pub record EnteredBatch {F : Type 0} (ops : List Record) (s t : RigState) (b d : Batch F) : Type 0 where
  pub enters : EntersTree (rule_of b) b.calls ops s t (trunk_of b) (trunk_of d)
  pub pushed : (trunk_of d).pushed ≡ (trunk_of b).pushed + left_of ops
  pub idle : ops ≡ [] → (t ≡ s) × (trunk_of d ≡ trunk_of b)

-- what entering did, by its result
abbrev pub EntersBatch : {F : Type 0} {T : Type 0} → List Record → RigState → RigState → Batch F → Batch F
    → Result T EmFault → Type 0
EntersBatch ops s t b d (Ok x) = EnteredBatch ops s t b d
EntersBatch ops s t b d (Err fault) = StopsTrunk s t (trunk_of b) (trunk_of d) fault

-- A batch holds no load: all its operations are in its tree.
pub record ClosedBatch {F : Type 0} (s t : RigState) (b d : Batch F) : Type 0 where
  pub is : IsBatch t d
  pub none : d.load ≡ None
  pub session : Session (batch_blocks s b) s t (batch_blocks t d)
  pub frames : SharesAreas (areas_of b) 0 s.pool t.pool
  pub pays : Pays (batch_unstored b) (batch_unstored d) s t
  pub loses : IsTrue s.device.told → t.used + length (batch_blocks s b) ≡ s.used + length (batch_blocks t d)
  pub entries : entries_of d ≡ entries_of b + left_of (gathered_in b)
  pub tree : (before cs : List Command) → HasCommands s b before cs
      → TreeHas (rule_of b) t (trunk_of d) before cs
  pub answers : IsTrue s.device.told → answers_in (rule_of b) t (trunk_of d)
      ≤ answers_in (rule_of b) s (trunk_of b) + length (gathered_in b)
  pub idle : gathered_in b ≡ [] → (t ≡ record s { pool = t.pool }) × (trunk_of d ≡ trunk_of b)

-- what closing its load did, by the result: it holds no area then
abbrev pub ClosesBatch : {F : Type 0} {T : Type 0} → RigState → RigState → Batch F → Batch F → Result T EmFault → Type 0
ClosesBatch s t b d (Ok x) = ClosedBatch s t b d
ClosesBatch s t b d (Err fault) = (d.load ≡ None) × StopsBatch s t b d fault

-- The numbers after it, at each exit.
pub record CountsClose {F : Type 0} (s t : RigState) (b d : Batch F) : Type 0 where
  pub calls : d.calls ≡ b.calls
  pub syncs : d.syncs ≡ b.syncs
  pub early : d.early ≡ b.early
  pub adopted : (trunk_of d).adopted ≡ (trunk_of b).adopted
  pub moves : batch_spent d + s.moves ≡ batch_spent b + t.moves
  pub share : IsTrue s.device.told → batch_spent d ≤ calls_share s.pool.shape d
  pub joined : IsTrue s.device.told → (before cs : List Command) → HasCommands s b before cs
      → batch_spent d ≤ synced_share s.pool.shape
      (joined_size b.early (load_of s.pool.shape) (before ++ cs)) d.syncs

-- The tree of a batch that holds no load was settled, and its answers were handed out.
pub record SyncedTree {F : Type 0} (s t : RigState) (b d : Batch F) (c : Chain) : Type 0 where
  pub is : IsBatch t d
  pub none : d.load ≡ None
  pub chain : IsChain t c
  pub packed : IsTrue s.device.told → IsPacked t c
  pub session : Session (batch_blocks s b) s t (chain_blocks t c ++ batch_blocks t d)
  pub frames : SameFrames s.pool t.pool
  pub pays : Pays (batch_unstored b) (batch_unstored d) s t
  pub loses : IsTrue s.device.told → t.used + length (batch_blocks s b)
      ≡ s.used + length (chain_blocks t c ++ batch_blocks t d)
  pub entries : entries_of d ≡ entries_of b
  pub tree : (before cs : List Command) → TreeHas (rule_of b) s (trunk_of b) before cs
      → TreeHas (rule_of b) t (trunk_of d) (before ++ cs ++ Sync ∷ []) []
  pub answers : IsTrue s.device.told → (before cs : List Command) → TreeHas (rule_of b) s (trunk_of b) before cs
      → IsPermutation (answers_after (rule_of b) before cs) (chain_items t c)
  pub ordered : IsTrue s.device.told → (before cs : List Command) → TreeHas (rule_of b) s (trunk_of b) before cs
      → in_order (chain_items t c) ≡ answers_after (rule_of b) before cs
  pub held : IsTrue s.device.told → (before cs : List Command) → TreeHas (rule_of b) s (trunk_of b) before cs
      → length (batch_blocks t d) ≤ room t.pool.shape (live_pairs (before ++ cs))

-- what that did, by the result
abbrev pub SyncsTree : {F : Type 0} → RigState → RigState → Batch F → Batch F → Result Chain EmFault → Type 0
SyncsTree s t b d (Ok c) = SyncedTree s t b d c
SyncsTree s t b d (Err fault) = StopsTrunk s t (trunk_of b) (trunk_of d) fault

-- The numbers after it, at each exit, also by a size n that the batch has at most then.
pub record CountsTree {F : Type 0} (s t : RigState) (b d : Batch F) : Type 0 where
  pub calls : d.calls ≡ b.calls + 1
  pub syncs : d.syncs ≡ b.syncs + 1
  pub early : d.early ≡ b.early
  pub adopted : (trunk_of d).adopted ≡ (trunk_of b).adopted
  pub none : d.load ≡ None
  pub counts : counts_of (trunk_of d) ≡ count_settle 0 (record (counts_of (trunk_of b)) { spent = (trunk_of d).spent })
  pub moves : t.moves + batch_spent b ≤ s.moves + batch_spent d
  pub share : IsTrue s.device.told → batch_spent d ≤ calls_share s.pool.shape d
  pub joined : IsTrue s.device.told → (n : ℕ) → entries_of b + b.syncs + 1 ≤ n
      → batch_spent d ≤ synced_share s.pool.shape n d.syncs
