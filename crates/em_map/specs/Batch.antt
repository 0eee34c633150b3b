-- A batch over its tree, and what its calls leave.
use Rattle.std.specs.Prelude.{◌≡◌, ℕ, ◌+◌, ◌-◌, ◌<◌, ◌≤◌, ◌^◌, max, Bool, true, false, List, [], ◌∷◌, ◌++◌, length, IsTrue, Option, Some, None, IfSome, Result, Ok, Err}
use Rattle.std.specs.List.{All}
use Rattle.std.specs.List.Sorted.{IsPermutation}
use Rattle.em_record.specs.Cost.{room}
use Rattle.em_record.specs.Order.{in_order}
use Rattle.em_record.specs.Shape.{ShapeNumbers, payload_of}
use Rattle.em_record.specs.declared.record.Record.{Record}
use Rattle.em_model.specs.Live.{live_pairs}
use Rattle.em_model.specs.Map.{Combiner}
use Rattle.em_model.specs.MapAnswers.{answers_after}
use Rattle.em_model.specs.Sync.{syncs_of}
use Rattle.em_model.specs.declared.command.Command.{Command}
use Rattle.em_model.specs.declared.command.Command.TheVariants.{Sync}
use Rattle.em_settle.specs.Add.{IsAddOp, add_step_of, apply_of}
use Rattle.em_settle.specs.Map.{IsMapKept, map_key_of}
use Rattle.em_settle.specs.States.{Stored, answers_to, with_ops}
use Rattle.em_frames.specs.Pool.{load_of}
use Rattle.em_space.specs.Ledger.{Session}
use Rattle.em_space.specs.Queue.{Pays}
use Rattle.em_space.specs.Rig.{Cause, IfFull, RigState, Sound, Touches}
use Rattle.em_space.specs.declared.fault.EmFault.{EmFault}
use Rattle.em_chain.specs.Chain.{IsChain, IsPacked, chain_blocks, chain_items}
use Rattle.em_chain.specs.Counts.{ceiling}
use Rattle.em_chain.specs.declared.chain.Chain.{Chain}
use Rattle.em_tree_model.specs.Meaning.{nothing, tree_answers, tree_contents}
use Rattle.em_adopt_cost.specs.Shares.{over_share}
use Rattle.em_tree_cost.specs.Books.{count_push, count_settle}
use Rattle.em_tree_cost.specs.Fusing.{synced_share}
use Rattle.em_tree_cost.specs.Shares.{tree_room}
use Rattle.em_tree.specs.Calls.{ChangesTrunk, CountsCall, FullIfUntrim, IsNewTrunk}
use Rattle.em_tree.specs.Pushing.{NeedsMore}
use Rattle.em_trunk.specs.Trunk.{IsTrunk, TrunkHasFrames, counts_of, given_by, model_of, trunk_blocks, trunk_unstored}
use Rattle.em_trunk.specs.declared.trunk.Trunk.{Trunk}
use Rattle.em_combine.specs.Gather.{GatherState}
use Rattle.em_map.specs.Areas.{GivenWithAreas, KeepsAreas, SharesAreas}
use Rattle.em_map.specs.Commands.{gets_of, map_op, map_ops, ops_after}
use Rattle.em_map.specs.Contents.{WaitsUpTo}
use Rattle.em_map.specs.Early.{gathered_after, joined_size, left_of}
use Rattle.em_map.specs.Loading.{answers_in}
use Rattle.em_map.specs.declared.batch.Batch.{Batch}

-- the tree of a batch, the blocks that it holds, and how many of them weren't stored since they came
-- into use
abbrev pub trunk_of : {F : Type 0} → Batch F → Trunk
trunk_of b = b.tree.trunk

abbrev pub batch_blocks : {F : Type 0} → RigState → Batch F → List ℕ
batch_blocks s b = trunk_blocks s (trunk_of b)

abbrev pub batch_unstored : {F : Type 0} → Batch F → ℕ
batch_unstored b = trunk_unstored (trunk_of b)

-- the operations that its tree counts, and the records that it was adopted with
abbrev pub entries_of : {F : Type 0} → Batch F → ℕ
entries_of b = (trunk_of b).pushed + (trunk_of b).adopted

-- at least as many moves as its calls made: those of its tree, and one of each sync for the chain that it handed out
abbrev pub batch_spent : {F : Type 0} → Batch F → ℕ
batch_spent b = (trunk_of b).spent + b.syncs

-- the most moves of its calls so far; its adopted records count as calls, but it moved none of them
abbrev pub calls_share : {F : Type 0} → ShapeNumbers → Batch F → ℕ
calls_share shape b = over_share shape (trunk_of b).adopted (b.calls - (trunk_of b).adopted) b.syncs

-- how it joins the value of an add to that of its key
abbrev pub rule_of : {F : Type 0} → Batch F → Combiner
rule_of b = apply_of b.tree.settle.kind

-- the operations of a load that may be there, and the areas that it has
abbrev pub ops_in : Option GatherState → List Record
ops_in None = []
ops_in (Some load) = load.items

abbrev pub areas_in : Option GatherState → ℕ
areas_in None = 0
areas_in (Some load) = 1

-- the operations that a batch has gathered: they wait in memory, and enter the tree with their load
abbrev pub gathered_in : {F : Type 0} → Batch F → List Record
gathered_in b = ops_in b.load

-- the areas that it holds
abbrev pub areas_of : {F : Type 0} → Batch F → ℕ
areas_of b = areas_in b.load

-- The area of a load is out: what is left to ask after a fault.
pub record HasArea (s : RigState) (load : GatherState) : Type 0 where
  pub capacity : load.capacity ≡ load_of s.pool.shape
  pub out : s.pool.free_areas < 2

-- Its two frames are the pool's, and its area if it holds one.
pub record BatchHasFrames {F : Type 0} (s : RigState) (b : Batch F) : Type 0 where
  pub tree : TrunkHasFrames s (trunk_of b)
  pub area : IfSome b.load (HasArea s)

-- the numbers of operations follow one another, from n + 1 on
abbrev pub FollowFrom : ℕ → List Record → Type 0
FollowFrom n [] = Unit {0}
FollowFrom n (x ∷ xs) = (x.b ≡ n + 1) × FollowFrom (n + 1) xs

-- A load that isn't full, of the operations of the calls after the first n.
pub record IsLoad (s : RigState) (n : ℕ) (load : GatherState) : Type 0 where
  pub few : length load.items < load.capacity
  pub ops : All IsAddOp load.items
  pub follow : FollowFrom n load.items

-- the calls before those whose operations are gathered
abbrev pub entered_of : {F : Type 0} → Batch F → ℕ
entered_of b = b.calls - length (gathered_in b)

-- What ties a batch to its rig: only one that joins adds early gathers operations. Its tree counts no operation or adopted record
-- but one for each call, was settled by each sync, and nothing was ever taken out of it; what waits there has the numbers of calls
-- before those that are gathered, and it gave or owes an answer to each of these at most that is no adopted record.
pub record IsBatch {F : Type 0} (s : RigState) (b : Batch F) : Type 0 where
  pub is : IsTrunk map_key_of IsAddOp IsMapKept s (trunk_of b)
  pub plain : b.early ≡ false → b.load ≡ None
  pub alone : b.early ≡ false → entries_of b + b.syncs ≡ b.calls
  pub area : IfSome b.load (HasArea s)
  pub load : IfSome b.load (IsLoad s (entered_of b))
  pub entries : entries_of b + length (gathered_in b) + b.syncs ≤ b.calls
  pub longest : (trunk_of b).longest ≤ entries_of b
  pub few : b.calls ≤ 2 ^ 40 + (trunk_of b).adopted
  pub few_adopted : (trunk_of b).adopted ≤ 2 ^ 56
  pub settled : (trunk_of b).settled ≡ b.syncs
  pub unreset : (trunk_of b).resets ≡ 0
  pub uncounted : (trunk_of b).counted ≡ 0
  pub waits : IsTrue s.device.told → WaitsUpTo (entered_of b) (model_of s (trunk_of b))
  pub answers : IsTrue s.device.told → answers_in (rule_of b) s (trunk_of b) + (trunk_of b).adopted ≤ entered_of b

-- the contents that some commands leave
abbrev pub contents_after : Combiner → List Command → Stored
contents_after apply cs = with_ops map_key_of (add_step_of apply) nothing (map_ops cs)

-- A tree has the contents that commands leave, and has given or owes the answers of those after the last sync.
pub record TreeHas (apply : Combiner) (s : RigState) (v : Trunk) (before cs : List Command) : Type 0 where
  pub contents : IsTrue s.device.told → (q : Record)
      → tree_contents map_key_of (add_step_of apply) (model_of s v) q ≡ contents_after apply (before ++ cs) q
  pub answers : IsTrue s.device.told
      → IsPermutation (answers_to map_key_of (add_step_of apply) (contents_after apply before) (ops_after before cs))
      (tree_answers map_key_of (add_step_of apply) (given_by s v) (model_of s v))

-- The calls of a batch were these commands, of which the first are those up to and with the last sync. Those of the loads
-- that are closed are in its tree, and the operations of the others are gathered. Of the former the tree counts as many
-- operations as joining left of them. An adopted record counts as one of them, a put that came first.
pub record HasCommands {F : Type 0} (s : RigState) (b : Batch F) (before cs : List Command) : Type 0 where
  pub calls : b.calls ≡ length before + length cs
  pub syncs : b.syncs ≡ syncs_of before + syncs_of cs
  pub base : (trunk_of b).adopted + gets_of cs ≤ b.calls
  pub closed : List Command
  pub unclosed : List Command
  pub parts : cs ≡ closed ++ unclosed
  pub gathered : gathered_in b ≡ ops_after (before ++ closed) unclosed
  pub tree : TreeHas (rule_of b) s (trunk_of b) before closed
  pub loads : gathered_in b ≡ gathered_after b.early (load_of s.pool.shape) (before ++ cs)
  pub size : entries_of b + b.syncs + left_of (gathered_in b)
      ≡ joined_size b.early (load_of s.pool.shape) (before ++ cs)

-- A batch with no command.
pub record IsNewBatch {F : Type 0} (s t : RigState) (b : Batch F) : Type 0 where
  pub is : IsBatch t b
  pub tree : IsNewTrunk map_key_of IsAddOp IsMapKept s t (trunk_of b)
  pub none : HasCommands t b [] []
  pub areas : areas_of b ≡ 0

-- a batch that joins adds early holds an area, or two are free
abbrev pub CanGather : {F : Type 0} → RigState → Batch F → Type 0
CanGather s b = b.early ≡ true → 2 ≤ s.pool.free_areas + areas_of b

-- It took one command more. Of a batch that joins adds early an area is out then; of another, the operation was pushed into
-- its tree.
pub record TakesCommand {F : Type 0} (c : Command) (s t : RigState) (b d : Batch F) : Type 0 where
  pub is : IsBatch t d
  pub session : Session (batch_blocks s b) s t (batch_blocks t d)
  pub frames : SharesAreas (areas_of b) (areas_of d) s.pool t.pool
  pub areas : b.early ≡ true → areas_of d ≡ 1
  pub tree : b.early ≡ false → ChangesTrunk map_key_of (add_step_of (rule_of b)) IsAddOp IsMapKept (map_op (b.calls + 1) c)
      s t (trunk_of b) (trunk_of d)
  pub pays : Pays (batch_unstored b) (batch_unstored d) s t
  pub loses : IsTrue s.device.told → t.used + length (batch_blocks s b) ≡ s.used + length (batch_blocks t d)
  pub commands : (before cs : List Command) → HasCommands s b before cs
      → HasCommands t d before (cs ++ c ∷ [])

-- It gave up: only `abandon` may be called, which wants the two frames and the area.
pub record StopsBatch {F : Type 0} (s t : RigState) (b d : Batch F) (fault : EmFault) : Type 0 where
  pub goes : KeepsAreas (areas_of b) (areas_of d) (batch_blocks s b) s t
  pub frames : BatchHasFrames t d
  pub pays : Pays (batch_unstored b) s.pool.shape.frames s t
  pub cause : Cause s t fault

-- what a call that gives a command did, by its result
abbrev pub TakesTo : {F : Type 0} {T : Type 0} → Command → RigState → RigState → Batch F → Batch F → Result T EmFault
    → Type 0
TakesTo c s t b d (Ok x) = TakesCommand c s t b d
TakesTo c s t b d (Err fault) = StopsBatch s t b d fault

-- The numbers after such a call, at each exit: it was counted, and all moves so far are within the batch's share of the
-- calls, and of what joining leaves of the commands.
pub record CountsCommand {F : Type 0} (c : Command) (s t : RigState) (b d : Batch F) : Type 0 where
  pub calls : d.calls ≡ b.calls + 1
  pub syncs : d.syncs ≡ b.syncs
  pub early : d.early ≡ b.early
  pub adopted : (trunk_of d).adopted ≡ (trunk_of b).adopted
  pub tree : b.early ≡ false → CountsCall (count_push 0) s t (trunk_of b) (trunk_of d)
  pub moves : batch_spent d + s.moves ≡ batch_spent b + t.moves
  pub share : IsTrue s.device.told → batch_spent d ≤ calls_share s.pool.shape d
  pub joined : IsTrue s.device.told → (before cs : List Command) → HasCommands s b before cs
      → batch_spent d ≤ synced_share s.pool.shape
      (joined_size b.early (load_of s.pool.shape) (before ++ cs ++ c ∷ [])) d.syncs

-- A call that gives a command is full only if the root's buffer needs a block or is full with it; of a batch that joins
-- adds early only if the load is full with it.
abbrev pub CommandNeedsMore : Bool → RigState → Trunk → ℕ → Type 0
CommandNeedsMore false s v gathered = NeedsMore s v
CommandNeedsMore true s v gathered = gathered + 1 ≡ load_of s.pool.shape

-- the first number, or if adds are joined early, the second
abbrev pub if_early : (early : Bool) → ℕ → ℕ → ℕ
if_early false given most = given
if_early true given most = most

-- The blocks of answers that a call counts beside the room of its tree, up to n calls: those that the tree had given before
-- it; of a batch that joins adds early, those of the answers that its tree gave or owes, and of one for each call since.
abbrev pub answers_room : {F : Type 0} → RigState → Batch F → ℕ → ℕ
answers_room s b n = if_early b.early (trunk_of b).answers.blocks
    (ceiling (answers_in (rule_of b) s (trunk_of b) + (n - entered_of b)) (payload_of s.pool.shape))

-- At no moment of a call did a batch of n calls hold more blocks than the room of its tree, and those of answers.
pub record BatchWithin {F : Type 0} (n : ℕ) (s t : RigState) (b : Batch F) : Type 0 where
  pub most : t.most + length (batch_blocks s b) ≤ max (s.most + length (batch_blocks s b))
      (s.used + (tree_room s.pool.shape n + answers_room s b n))

-- A call was full only if these and those of others are more than all.
pub record BatchOver {F : Type 0} (n : ℕ) (s : RigState) (b : Batch F) (fault : EmFault) : Type 0 where
  pub full : IfFull fault (λ _. s.blocks + length (batch_blocks s b)
      < s.used + (tree_room s.pool.shape n + answers_room s b n))

-- All gets since the last sync were answered, each once, and the batch goes on from there with no area. It holds no more
-- blocks than the room of the pairs that it has, beside the chain that it handed out.
pub record SyncedBatch {F : Type 0} (s t : RigState) (b d : Batch F) (c : Chain) : Type 0 where
  pub is : IsBatch t d
  pub chain : IsChain t c
  pub packed : IsTrue s.device.told → IsPacked t c
  pub session : Session (batch_blocks s b) s t (chain_blocks t c ++ batch_blocks t d)
  pub frames : SharesAreas (areas_of b) 0 s.pool t.pool
  pub areas : areas_of d ≡ 0
  pub pays : Pays (batch_unstored b) (batch_unstored d) s t
  pub loses : IsTrue s.device.told → t.used + length (batch_blocks s b)
      ≡ s.used + length (chain_blocks t c ++ batch_blocks t d)
  pub commands : (before cs : List Command) → HasCommands s b before cs
      → HasCommands t d (before ++ cs ++ Sync ∷ []) []
  pub answers : IsTrue s.device.told → (before cs : List Command) → HasCommands s b before cs
      → IsPermutation (answers_after (rule_of b) before cs) (chain_items t c)
  pub ordered : IsTrue s.device.told → (before cs : List Command) → HasCommands s b before cs
      → in_order (chain_items t c) ≡ answers_after (rule_of b) before cs
  pub held : IsTrue s.device.told → (before cs : List Command) → HasCommands s b before cs
      → length (batch_blocks t d) ≤ room t.pool.shape (live_pairs (before ++ cs))

-- what a sync did, by its result
abbrev pub SyncsBatch : {F : Type 0} → RigState → RigState → Batch F → Batch F → Result Chain EmFault → Type 0
SyncsBatch s t b d (Ok c) = SyncedBatch s t b d c
SyncsBatch s t b d (Err fault) = StopsBatch s t b d fault

-- The numbers after a sync, at each exit: it was counted, and all moves so far are within the batch's share.
pub record CountsSync {F : Type 0} (s t : RigState) (b d : Batch F) : Type 0 where
  pub calls : d.calls ≡ b.calls + 1
  pub syncs : d.syncs ≡ b.syncs + 1
  pub early : d.early ≡ b.early
  pub adopted : (trunk_of d).adopted ≡ (trunk_of b).adopted
  pub counts : b.early ≡ false → counts_of (trunk_of d)
      ≡ count_settle 0 (record (counts_of (trunk_of b)) { spent = (trunk_of d).spent })
  pub moves : t.moves + batch_spent b ≤ s.moves + batch_spent d
  pub share : IsTrue s.device.told → batch_spent d ≤ calls_share s.pool.shape d
  pub joined : IsTrue s.device.told → (before cs : List Command) → HasCommands s b before cs
      → batch_spent d ≤ synced_share s.pool.shape
      (joined_size b.early (load_of s.pool.shape) (before ++ cs ++ Sync ∷ [])) d.syncs

-- A sync is full only if an operation was gathered or waited, or the tree wasn't trim, over a device that tells.
abbrev pub SyncNeedsMore : {F : Type 0} → RigState → Batch F → EmFault → Type 0
SyncNeedsMore s b fault = gathered_in b ≡ [] → FullIfUntrim s (trunk_of b) fault

-- All gets since the last sync were answered, each once. Its other blocks are released, and its frames and its area are back.
pub record FinishedBatch {F : Type 0} (s t : RigState) (b : Batch F) (c : Chain) : Type 0 where
  pub chain : IsChain t c
  pub packed : IsTrue s.device.told → IsPacked t c
  pub session : Session (batch_blocks s b) s t (chain_blocks t c)
  pub frames : GivenWithAreas 2 (areas_of b) s.pool t.pool
  pub pays : Pays (batch_unstored b) 0 s t
  pub loses : IsTrue s.device.told → t.used + length (batch_blocks s b) ≡ s.used + length (chain_blocks t c)
  pub answers : IsTrue s.device.told → (before cs : List Command) → HasCommands s b before cs
      → IsPermutation (answers_after (rule_of b) before cs) (chain_items t c)
  pub ordered : IsTrue s.device.told → (before cs : List Command) → HasCommands s b before cs
      → in_order (chain_items t c) ≡ answers_after (rule_of b) before cs

-- It wasn't finished, or its tree wasn't handed out: its frames and its area are back. Blocks of it may be left in use.
pub record UnfinishedBatch {F : Type 0} (s t : RigState) (b : Batch F) (fault : EmFault) : Type 0 where
  pub sound : Sound t
  pub touches : Touches (batch_blocks s b) s t
  pub frames : GivenWithAreas 2 (areas_of b) s.pool t.pool
  pub pays : Pays (batch_unstored b) s.pool.shape.frames s t
  pub cause : Cause s t fault

-- what `finish` did, by its result
abbrev pub FinishesBatch : {F : Type 0} → RigState → RigState → Batch F → Result Chain EmFault → Type 0
FinishesBatch s t b (Ok c) = FinishedBatch s t b c
FinishesBatch s t b (Err fault) = UnfinishedBatch s t b fault

-- All calls of a batch that was finished, or whose tree was handed out, are within its share, at each exit.
pub record BatchCosts {F : Type 0} (s t : RigState) (b : Batch F) : Type 0 where
  pub later : s.moves ≤ t.moves
  pub share : IsTrue s.device.told
      → batch_spent b + (t.moves - s.moves) ≤ calls_share s.pool.shape b
  pub joined : IsTrue s.device.told → (before cs : List Command) → HasCommands s b before cs
      → batch_spent b + (t.moves - s.moves)
      ≤ synced_share s.pool.shape (joined_size b.early (load_of s.pool.shape) (before ++ cs)) b.syncs

-- Its frames and its area came back, and nothing was moved: the blocks stay in use.
pub record LeavesBatch {F : Type 0} (s t : RigState) (b : Batch F) : Type 0 where
  pub sound : Sound t
  pub touches : Touches [] s t
  pub frames : GivenWithAreas 2 (areas_of b) s.pool t.pool
  pub same : t ≡ record s { pool = t.pool }
