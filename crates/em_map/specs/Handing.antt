-- The tree of a batch, handed out with the pairs that the commands leave: it was settled, and its answers were discarded.
use Rattle.std.specs.Prelude.{◌≡◌, ◌+◌, ◌-◌, ◌*◌, ◌≤◌, ℕ, List, [], ◌++◌, length, IsTrue, Result, Ok, Err}
use Rattle.em_record.specs.Cost.{blocks_of, room}
use Rattle.em_record.specs.Shape.{payload_of}
use Rattle.em_record.specs.declared.record.Record.{Record}
use Rattle.em_model.specs.Live.{live_pairs}
use Rattle.em_model.specs.Map.{Combiner, no_keys, state_after}
use Rattle.em_model.specs.declared.command.Command.{Command}
use Rattle.em_settle.specs.Add.{IsAddOp, add_step_of}
use Rattle.em_settle.specs.Map.{IsMapKept, map_key_of}
use Rattle.em_settle.specs.declared.add.AddSettle.{AddSettle}
use Rattle.em_frames.specs.Pool.{SameFrames}
use Rattle.em_space.specs.Ledger.{Session}
use Rattle.em_space.specs.Queue.{Pays}
use Rattle.em_space.specs.Rig.{IfFull, RigState}
use Rattle.em_space.specs.declared.fault.EmFault.{EmFault}
use Rattle.em_chain.specs.Counts.{ceiling}
use Rattle.em_tree_model.specs.Meaning.{tree_contents}
use Rattle.em_tree_model.specs.Tree.{stored_in, waiting_in}
use Rattle.em_tree_cost.specs.Books.{count_settle}
use Rattle.em_tree_cost.specs.Shares.{floors_of}
use Rattle.em_tree_outline.specs.Outline.{outline_of}
use Rattle.em_tree_trim.specs.Trim.{IsTrim}
use Rattle.em_tree.specs.Calls.{KeepsShare, StopsTrunk}
use Rattle.em_tree.specs.declared.tree.Tree.{Tree}
use Rattle.em_trunk.specs.Trunk.{IsTrunk, counts_of, given_by, model_of, root_of, trunk_blocks, trunk_unstored}
use Rattle.em_trunk.specs.declared.trunk.Trunk.{Trunk}
use Rattle.em_map.specs.Batch.{HasCommands, UnfinishedBatch, batch_blocks, batch_spent, batch_unstored, contents_after, rule_of, trunk_of}
use Rattle.em_map.specs.Contents.{key_record, value_record}
use Rattle.em_map.specs.Loading.{answers_in}
use Rattle.em_map.specs.declared.batch.Batch.{Batch}

-- The answers that a tree gave so far were discarded: their blocks were released. Else it is as it was.
pub record DiscardedAnswers (s t : RigState) (v w : Trunk) : Type 0 where
  pub only : w ≡ record v { answers = w.answers }
  pub is : IsTrunk map_key_of IsAddOp IsMapKept t w
  pub session : Session (trunk_blocks s v) s t (trunk_blocks t w)
  pub frames : SameFrames s.pool t.pool
  pub pays : Pays (trunk_unstored v) (trunk_unstored w) s t
  pub loses : IsTrue s.device.told → t.used + length (trunk_blocks s v) ≡ s.used + length (trunk_blocks t w)
  pub released : t.used + v.answers.blocks ≡ s.used
  pub most : t.most ≡ s.most
  pub model : IsTrue s.device.told → model_of t w ≡ model_of s v
  pub given : IsTrue s.device.told → given_by t w ≡ []
  pub no_block : w.answers.blocks ≡ 0
  pub counts : counts_of w ≡ counts_of v
  pub moves : t.moves ≤ s.moves + 1 + 2 * v.answers.blocks

-- It gave up: only `abandon` may be called. No block was needed, so it was never full.
pub record StopsDiscarding (s t : RigState) (v w : Trunk) (fault : EmFault) : Type 0 where
  pub stops : StopsTrunk s t v w fault
  pub full : IfFull fault (λ _. ⊥)
  pub most : t.most ≡ s.most
  pub counts : counts_of w ≡ counts_of v
  pub moves : t.moves ≤ s.moves + 1 + 2 * v.answers.blocks

-- what discarding did, by its result
abbrev pub DiscardsAnswers : {T : Type 0} → RigState → RigState → Trunk → Trunk → Result T EmFault → Type 0
DiscardsAnswers s t v w (Ok x) = DiscardedAnswers s t v w
DiscardsAnswers s t v w (Err fault) = StopsDiscarding s t v w fault

-- A tree was settled, and its answers were discarded: only its pairs are left, the same as before, and it is as small as
-- they allow.
pub record KeptPairs (apply : Combiner) (s t : RigState) (v w : Trunk) : Type 0 where
  pub is : IsTrunk map_key_of IsAddOp IsMapKept t w
  pub session : Session (trunk_blocks s v) s t (trunk_blocks t w)
  pub frames : SameFrames s.pool t.pool
  pub pays : Pays (trunk_unstored v) (trunk_unstored w) s t
  pub loses : IsTrue s.device.told → t.used + length (trunk_blocks s v) ≡ s.used + length (trunk_blocks t w)
  pub contents : IsTrue s.device.told → (q : Record) → tree_contents map_key_of (add_step_of apply) (model_of t w) q
      ≡ tree_contents map_key_of (add_step_of apply) (model_of s v) q
  pub waiting : IsTrue s.device.told → waiting_in (model_of t w) ≡ []
  pub given : IsTrue s.device.told → given_by t w ≡ []
  pub no_block : w.answers.blocks ≡ 0
  pub trim : IsTrue s.device.told → IsTrim t.pool.shape w.level (outline_of (root_of t w))
  pub held : IsTrue s.device.told
      → length (trunk_blocks t w) ≤ room t.pool.shape (length (stored_in (model_of t w)))

-- what that did, by its result
abbrev pub KeepsPairs : {T : Type 0} → Combiner → RigState → RigState → Trunk → Trunk → Result T EmFault → Type 0
KeepsPairs apply s t v w (Ok x) = KeptPairs apply s t v w
KeepsPairs apply s t v w (Err fault) = StopsTrunk s t v w fault

-- The numbers after it, at each exit: a settling was counted. Beside the moves that the tree counts one was made at most to
-- hand its answers out, and two for each of their blocks.
pub record CountsKeeping (apply : Combiner) (s t : RigState) (v w : Trunk) : Type 0 where
  pub counts : counts_of w ≡ count_settle 0 (record (counts_of v) { spent = w.spent })
  pub later : s.moves ≤ t.moves
  pub share : IsTrue s.device.told → KeepsShare s.pool.shape (counts_of w)
  pub moves : IsTrue s.device.told → t.moves + v.spent
      ≤ s.moves + w.spent + 1 + 2 * ceiling (answers_in apply s v) (payload_of s.pool.shape)

-- The tree of a batch was handed out: no operation waits in it, no answer is left, and it is as small as its pairs allow.
-- Under each key it has the value that the commands leave there. Its numbers are those that it had, with one settling more.
-- The moves of all calls of the batch are those that the tree counts, and a few beside.
pub record HandedTree {F : Type 0} (s t : RigState) (b : Batch F) (v : Trunk) : Type 0 where
  pub is : IsTrunk map_key_of IsAddOp IsMapKept t v
  pub session : Session (batch_blocks s b) s t (trunk_blocks t v)
  pub frames : SameFrames s.pool t.pool
  pub pays : Pays (batch_unstored b) (trunk_unstored v) s t
  pub loses : IsTrue s.device.told → t.used + length (batch_blocks s b) ≡ s.used + length (trunk_blocks t v)
  pub pushed : v.pushed ≡ (trunk_of b).pushed
  pub longest : v.longest ≡ (trunk_of b).longest
  pub since : v.since ≡ (trunk_of b).since
  pub settled : v.settled ≡ b.syncs + 1
  pub resets : v.resets ≡ 0
  pub adopted : v.adopted ≡ (trunk_of b).adopted
  pub counted : v.counted ≡ 0
  pub waiting : IsTrue s.device.told → waiting_in (model_of t v) ≡ []
  pub given : IsTrue s.device.told → given_by t v ≡ []
  pub no_block : v.answers.blocks ≡ 0
  pub trim : IsTrue s.device.told → IsTrim t.pool.shape v.level (outline_of (root_of t v))
  pub contents : IsTrue s.device.told → (before cs : List Command) → HasCommands s b before cs → (q : Record)
      → tree_contents map_key_of (add_step_of (rule_of b)) (model_of t v) q ≡ contents_after (rule_of b) (before ++ cs) q
  pub pairs : IsTrue s.device.told → (before cs : List Command) → HasCommands s b before cs → (k : ℕ)
      → tree_contents map_key_of (add_step_of (rule_of b)) (model_of t v) (key_record k)
      ≡ value_record k (state_after (rule_of b) no_keys (before ++ cs) k)
  pub held : IsTrue s.device.told → (before cs : List Command) → HasCommands s b before cs
      → length (trunk_blocks t v) ≤ room t.pool.shape (live_pairs (before ++ cs))
  pub beside : IsTrue s.device.told → batch_spent b + (t.moves - s.moves)
      ≤ v.spent + 24 * (b.syncs + 1) * (blocks_of s.pool.shape b.calls + 1) * floors_of s.pool.shape b.calls

-- what `into_tree` did, by its result
abbrev pub HandsTree : {F : Type 0} → RigState → RigState → Batch F → Result (Tree (AddSettle F)) EmFault → Type 0
HandsTree s t b (Ok tree) = HandedTree s t b tree.trunk
HandsTree s t b (Err fault) = UnfinishedBatch s t b fault
