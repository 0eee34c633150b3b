-- A load that enters a tree: its operations one after another, each run of adds joined.
use Rattle.std.specs.Prelude.{◌≡◌, ℕ, ◌+◌, ◌<◌, ◌≤◌, max, List, ◌++◌, length, take, drop, IsTrue, option_to_list, Result, Ok, Err}
use Rattle.std.specs.List.Sorted.{IsPermutation}
use Rattle.em_record.specs.Shape.{payload_of}
use Rattle.em_record.specs.declared.record.Record.{Record}
use Rattle.em_model.specs.Map.{Combiner}
use Rattle.em_settle.specs.Add.{IsAddOp, add_step_of}
use Rattle.em_settle.specs.Keys.{of_key}
use Rattle.em_settle.specs.Map.{IsMapKept, map_key_of}
use Rattle.em_settle.specs.States.{answers_to, with_ops}
use Rattle.em_frames.specs.Pool.{SameFrames}
use Rattle.em_space.specs.Ledger.{Session}
use Rattle.em_space.specs.Queue.{Pays}
use Rattle.em_space.specs.Rig.{IfFull, RigState}
use Rattle.em_space.specs.declared.fault.EmFault.{EmFault}
use Rattle.em_chain.specs.Counts.{ceiling}
use Rattle.em_tree_cost.specs.Shares.{tree_room}
use Rattle.em_tree_model.specs.Meaning.{tree_answers, tree_contents}
use Rattle.em_tree_model.specs.Tree.{Tree, stored_at, waiting_at}
use Rattle.em_tree.specs.Calls.{ChangesTrunk, KeepsShare, StopsTrunk}
use Rattle.em_trunk.specs.Trunk.{IsTrunk, counts_of, given_by, model_of, trunk_blocks, trunk_unstored}
use Rattle.em_trunk.specs.declared.trunk.Trunk.{Trunk}
use Rattle.em_combine.specs.Joining.{IsBefore, NumbersRise}
use Rattle.em_map.specs.Contents.{UpTo, WaitsUpTo, key_record}

-- Of a key, what waits in a tree and what is stored has numbers up to a bound, and the operations that come have rising
-- numbers above it.
pub record ComesLater (t : Tree) (ops : List Record) (k : ℕ) : Type 0 where
  pub bound : ℕ
  pub waiting : UpTo k bound (waiting_at map_key_of t (key_record k))
  pub stored : UpTo k bound (option_to_list (stored_at map_key_of t (key_record k)))
  pub above : IsBefore bound (of_key map_key_of (key_record k) ops)
  pub rises : NumbersRise (of_key map_key_of (key_record k) ops)

-- the same of each key
abbrev pub ComeLater : Tree → List Record → Type 0
ComeLater t ops = (k : ℕ) → ComesLater t ops k

-- how many answers a tree gave or owes
abbrev pub answers_in : Combiner → RigState → Trunk → ℕ
answers_in apply s v = length (tree_answers map_key_of (add_step_of apply) (given_by s v) (model_of s v))

-- At no moment were more blocks in use than the room of a tree of this k, and those of g answers, beside those of others.
pub record LoadWithin (k g : ℕ) (s t : RigState) (v : Trunk) : Type 0 where
  pub most : t.most + length (trunk_blocks s v) ≤ max (s.most + length (trunk_blocks s v))
      (s.used + (tree_room s.pool.shape k + ceiling g (payload_of s.pool.shape)))

-- A call was full only if these and those of others are more than all.
pub record LoadOver (k g : ℕ) (s : RigState) (v : Trunk) (fault : EmFault) : Type 0 where
  pub full : IfFull fault (λ _. s.blocks + length (trunk_blocks s v)
      < s.used + (tree_room s.pool.shape k + ceiling g (payload_of s.pool.shape)))

-- The numbers of a tree after at most n pushes, at each exit.
pub record CountsPushes (n : ℕ) (s t : RigState) (v w : Trunk) : Type 0 where
  pub pushed : w.pushed ≤ v.pushed + n
  pub longest : w.longest ≤ max v.longest (v.since + n)
  pub resets : w.resets ≡ v.resets
  pub settled : w.settled ≡ v.settled
  pub adopted : w.adopted ≡ v.adopted
  pub counted : w.counted ≡ v.counted
  pub spent : w.spent + s.moves ≡ v.spent + t.moves
  pub share : IsTrue s.device.told → KeepsShare s.pool.shape (counts_of w)

-- The first operations of a list were pushed, and the others come later than what waits.
pub record PushedSome (apply : Combiner) (ops : List Record) (n : ℕ) (s t : RigState) (v w : Trunk) : Type 0 where
  pub within : n ≤ length ops
  pub changes : ChangesTrunk map_key_of (add_step_of apply) IsAddOp IsMapKept (take n ops) s t v w
  pub pushed : w.pushed ≡ v.pushed + n
  pub since : w.since ≡ v.since + n
  pub counts : CountsPushes n s t v w
  pub later : IsTrue s.device.told → ComeLater (model_of t w) (drop n ops)
  pub room : IsTrue s.device.told
      → LoadWithin (max v.longest (v.since + n)) (answers_in apply s v + n) s t v
  pub idle : n ≡ 0 → (t ≡ s) × (w ≡ v)

-- All were pushed.
pub record PushedAll (apply : Combiner) (ops : List Record) (s t : RigState) (v w : Trunk) : Type 0 where
  pub changes : ChangesTrunk map_key_of (add_step_of apply) IsAddOp IsMapKept ops s t v w
  pub pushed : w.pushed ≡ v.pushed + length ops
  pub idle : length ops ≡ 0 → (t ≡ s) × (w ≡ v)

-- what pushing them did, by its result
abbrev pub PushesAll : {T : Type 0} → Combiner → List Record → RigState → RigState → Trunk → Trunk → Result T EmFault
    → Type 0
PushesAll apply ops s t v w (Ok x) = PushedAll apply ops s t v w
PushesAll apply ops s t v w (Err fault) = StopsTrunk s t v w fault

-- Operations with numbers up to n entered a tree, in whichever order: each is one step on its contents and answers.
pub record EntersTree (apply : Combiner) (n : ℕ) (ops : List Record) (s t : RigState) (v w : Trunk) : Type 0 where
  pub is : IsTrunk map_key_of IsAddOp IsMapKept t w
  pub session : Session (trunk_blocks s v) s t (trunk_blocks t w)
  pub frames : SameFrames s.pool t.pool
  pub pays : Pays (trunk_unstored v) (trunk_unstored w) s t
  pub loses : IsTrue s.device.told → t.used + length (trunk_blocks s v) ≡ s.used + length (trunk_blocks t w)
  pub contents : IsTrue s.device.told → (q : Record)
      → tree_contents map_key_of (add_step_of apply) (model_of t w) q
      ≡ with_ops map_key_of (add_step_of apply) (tree_contents map_key_of (add_step_of apply) (model_of s v)) ops q
  pub answers : IsTrue s.device.told → IsPermutation
      (tree_answers map_key_of (add_step_of apply) (given_by s v) (model_of s v)
      ++ answers_to map_key_of (add_step_of apply) (tree_contents map_key_of (add_step_of apply) (model_of s v)) ops)
      (tree_answers map_key_of (add_step_of apply) (given_by t w) (model_of t w))
  pub waits : IsTrue s.device.told → WaitsUpTo n (model_of t w)
