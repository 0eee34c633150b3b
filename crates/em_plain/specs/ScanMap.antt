-- A map that is a list of its commands.
use Rattle.std.specs.Prelude.{◌≡◌, ℕ, ◌+◌, ◌<◌, ◌≤◌, List, [], ◌∷◌, ◌++◌, take, drop, length, IsTrue, Result, OnErr, IfOk, IfErr}
use Rattle.em_record.specs.declared.record.Record.{Record}
use Rattle.em_model.specs.MapAnswers.{answers_after}
use Rattle.em_model.specs.declared.command.Command.{Command}
use Rattle.em_model.specs.declared.command.Command.TheVariants.{Sync}
use Rattle.em_settle.specs.Add.{apply_of}
use Rattle.em_space.specs.Ledger.{Session}
use Rattle.em_space.specs.Queue.{Pays}
use Rattle.em_space.specs.Rig.{RigState, Goes, Cause}
use Rattle.em_space.specs.declared.fault.EmFault.{EmFault}
use Rattle.em_chain.specs.Chain.{IsChain, IsPacked, chain_blocks, chain_items, payload_in}
use Rattle.em_chain.specs.Counts.{ceiling}
use Rattle.em_chain.specs.Effects.{Completes, OnFull}
use Rattle.em_chain.specs.declared.chain.Chain.{Chain}
use Rattle.em_plain.specs.CommandList.{IsCommandList, HasListFrame, held, list_blocks, list_commands, list_len, unstored}
use Rattle.em_plain.specs.Room.{StaysWithin, plain_room}
use Rattle.em_plain.specs.declared.scan_map.ScanMap.{ScanMap}

-- how many of its commands were answered: those up to and with the last sync
abbrev pub answered_of : {F : Type 0} → ScanMap F → ℕ
answered_of m = m.answered

-- What ties the map to its blocks.
pub record IsScanMap {F : Type 0} (s : RigState) (m : ScanMap F) : Type 0 where
  pub list : IsCommandList s m.list
  pub answered : m.answered ≤ list_len m.list

-- its frame is the pool's: what is left to ask after a fault
abbrev pub MapHasFrame : {F : Type 0} → RigState → ScanMap F → Type 0
MapHasFrame s m = HasListFrame s m.list

-- the commands that it was given, in order
abbrev pub commands_of : {F : Type 0} → RigState → ScanMap F → List Command
commands_of s m = list_commands s m.list

-- those of them up to and with the last sync, and those since
abbrev pub before_of : {F : Type 0} → RigState → ScanMap F → List Command
before_of s m = take m.answered (commands_of s m)

abbrev pub since_of : {F : Type 0} → RigState → ScanMap F → List Command
since_of s m = drop m.answered (commands_of s m)

-- the records of the answers to the gets since the last sync
abbrev pub due_of : {F : Type 0} → RigState → ScanMap F → List Record
due_of s m = answers_after (apply_of m.settle.kind) (before_of s m) (since_of s m)

-- the blocks that it holds
abbrev pub blocks_of : {F : Type 0} → RigState → ScanMap F → List ℕ
blocks_of s m = list_blocks s m.list

-- The gets since the last sync were answered by a chain, and a sync was noted after them.
pub record AnswersSync {F : Type 0} (s t : RigState) (m n : ScanMap F) (c : Chain) : Type 0 where
  pub is : IsScanMap t n
  pub commands : IsTrue s.device.told → commands_of t n ≡ commands_of s m ++ Sync ∷ []
  pub len : list_len n.list ≡ list_len m.list + 1
  pub all : n.answered ≡ list_len n.list
  pub chain : IsChain t c
  pub items_are : IsTrue s.device.told → chain_items t c ≡ due_of s m
  pub packed : IsTrue s.device.told → IsPacked t c
  pub session : Session (blocks_of s m) s t (blocks_of t n ++ chain_blocks t c)
  pub used : t.used + held m.list ≡ s.used + (held n.list + c.blocks)
  pub pays : Pays (unstored m.list) (unstored n.list) s t

-- What a sync does: only the map's blocks may have changed; the gets were answered, or there is a cause; it
-- is full only if fewer than two blocks beside those of the answers were free.
pub record Syncs {F : Type 0} (s t : RigState) (m n : ScanMap F) (result : Result Chain EmFault) : Type 0 where
  pub goes : Goes (blocks_of s m) s t
  pub frame : MapHasFrame t n
  pub answers : IfOk result (AnswersSync s t m n)
  pub most : StaysWithin (held m.list) (plain_room s.pool.shape (list_len m.list + 1)) s t
  pub owes : OnErr result (Pays (unstored m.list) s.pool.shape.frames s t)
  pub full : IfErr result
      (λ fault. OnFull fault (s.blocks < s.used + plain_room s.pool.shape (list_len m.list + 1)))
  pub full_if_few : IsTrue s.device.told → IfErr result (λ fault. OnFull fault
      (s.blocks < s.used + (ceiling (length (due_of s m)) (payload_in s) + 2)))
  pub complete : s.used + plain_room s.pool.shape (list_len m.list + 1) ≤ s.blocks
      → Completes s t result
  pub complete_if_enough : s.used + (ceiling (length (due_of s m)) (payload_in s) + 2) ≤ s.blocks
      → Completes s t result
  pub cause : IfErr result (Cause s t)
