-- A list of commands is answered by a chain.
use Rattle.std.specs.Prelude.{◌≡◌, ℕ, ◌+◌, ◌<◌, ◌≤◌, ◌++◌, List, length, IsTrue, Result, OnErr, IfOk, IfErr}
use Rattle.em_record.specs.declared.record.Record.{Record}
use Rattle.em_space.specs.Ledger.{Session}
use Rattle.em_space.specs.Queue.{Pays}
use Rattle.em_space.specs.Rig.{RigState, Goes, Cause}
use Rattle.em_space.specs.declared.fault.EmFault.{EmFault}
use Rattle.em_chain.specs.Chain.{IsChain, IsPacked, chain_blocks, chain_items, payload_in}
use Rattle.em_chain.specs.Counts.{ceiling}
use Rattle.em_chain.specs.Effects.{GivesFrame, OnFull}
use Rattle.em_chain.specs.declared.chain.Chain.{Chain}
use Rattle.em_plain.specs.Asks.{Asks, most_in, records_for}
use Rattle.em_plain.specs.CommandList.{AnsweredBy, HasListFrame, IsCommandList, held, list_blocks, list_commands, list_len, unstored}
use Rattle.em_plain.specs.Room.{StaysWithin}
use Rattle.em_plain.specs.declared.command_list.CommandList.{CommandList}

-- A list was answered, or the call gave up. It wrote this number of records, or was to write that
-- many: over a device that tells, no more than the answers. All its blocks are the list's, and those
-- that these records need.
pub record AnswersList (asks : Asks) (s t : RigState) (l : CommandList)
    (result : Result Chain EmFault) : Type 0 where
  pub gives : GivesFrame (list_blocks s l) s t
  pub answers : IfOk result (AnsweredBy s t l (records_for asks (list_commands s l)))
  pub records : ℕ
  pub told : IsTrue s.device.told → records ≤ length (records_for asks (list_commands s l))
  pub few : records ≤ most_in asks (list_len l)
  pub most : StaysWithin (held l) (held l + ceiling records (payload_in s)) s t
  pub owes : OnErr result (Pays (unstored l) s.pool.shape.frames s t)
  pub full : IfErr result
      (λ fault. OnFull fault (s.blocks < s.used + ceiling records (payload_in s)))
  pub cause : IfErr result (Cause s t)

-- The first list was answered by a chain of these records, and its commands are kept in the second.
pub record KeptBy (s t : RigState) (l m : CommandList) (items : List Record) (c : Chain) : Type 0 where
  pub is : IsCommandList t m
  pub commands : IsTrue s.device.told → list_commands t m ≡ list_commands s l
  pub len : list_len m ≡ list_len l
  pub chain : IsChain t c
  pub items_are : IsTrue s.device.told → chain_items t c ≡ items
  pub packed : IsTrue s.device.told → IsPacked t c
  pub session : Session (list_blocks s l) s t (list_blocks t m ++ chain_blocks t c)
  pub used : t.used + held l ≡ s.used + (held m + c.blocks)
  pub pays : Pays (unstored l) (unstored m) s t

-- A list was answered and kept, or the call gave up. It wrote this number of records, or was to write that
-- many: over a device that tells, no more than the answers. One block more than the list and these records
-- need was in use at most.
pub record KeepsList (asks : Asks) (s t : RigState) (l m : CommandList) (result : Result Chain EmFault)
    : Type 0 where
  pub goes : Goes (list_blocks s l) s t
  pub frame : HasListFrame t m
  pub kept : IfOk result (KeptBy s t l m (records_for asks (list_commands s l)))
  pub records : ℕ
  pub told : IsTrue s.device.told → records ≤ length (records_for asks (list_commands s l))
  pub few : records ≤ most_in asks (list_len l)
  pub most : StaysWithin (held l) (held l + ceiling records (payload_in s) + 1) s t
  pub owes : OnErr result (Pays (unstored l) s.pool.shape.frames s t)
  pub full : IfErr result
      (λ fault. OnFull fault (s.blocks < s.used + (ceiling records (payload_in s) + 1)))
  pub cause : IfErr result (Cause s t)
