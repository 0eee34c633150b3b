-- A list of commands that is kept on the device, and what calls that give a command change.
use Rattle.std.specs.Prelude.{◌≡◌, ◌↔◌, ℕ, ◌+◌, ◌<◌, ◌≤◌, ◌^◌, min, List, [], ◌∷◌, ◌++◌, IsTrue, Result, Err, OnOk, OnErr, IfErr}
use Rattle.em_record.specs.declared.record.Record.{Record}
use Rattle.em_model.specs.declared.command.Command.{Command}
use Rattle.em_space.specs.Held.{Within}
use Rattle.em_space.specs.Queue.{Pays}
use Rattle.em_space.specs.Rig.{RigState, Goes, Cause}
use Rattle.em_space.specs.declared.fault.EmFault.{EmFault}
use Rattle.em_space.specs.declared.fault.EmFault.TheVariants.{Full}
use Rattle.em_chain.specs.Chain.{IsChain, IsPacked, chain_blocks, chain_items}
use Rattle.em_chain.specs.Effects.{Completes, OnFull}
use Rattle.em_chain.specs.Writer.{IsWriter, IsPackedSoFar, NeedsBlock, WriterHasFrame, filled, writer_blocks, writer_items}
use Rattle.em_chain.specs.declared.chain.Chain.{Chain}
use Rattle.em_plain.specs.Command.{commands_in}
use Rattle.em_plain.specs.Room.{plain_room, StaysWithin}
use Rattle.em_plain.specs.declared.command_list.CommandList.{CommandList}

-- the commands that were given, in order
abbrev pub list_commands : RigState → CommandList → List Command
list_commands s l = commands_in (writer_items s l.writer)

-- the blocks that it holds
abbrev pub list_blocks : RigState → CommandList → List ℕ
list_blocks s l = writer_blocks s l.writer

-- how many commands were given
abbrev pub list_len : CommandList → ℕ
list_len l = l.writer.count

-- how many blocks it holds, and how many of them weren't stored since they came into use
abbrev pub held : CommandList → ℕ
held l = l.writer.blocks

abbrev pub unstored : CommandList → ℕ
unstored l = min l.writer.blocks 1

-- What ties the list to its blocks: every block but the last is full.
pub record IsCommandList (s : RigState) (l : CommandList) : Type 0 where
  pub writer : IsWriter s l.writer
  pub packed : IsTrue s.device.told → IsPackedSoFar s l.writer
  pub filled_is : filled s l.writer ≡ l.writer.count
  pub few : l.writer.count ≤ 2 ^ 40

-- its frame is the pool's: what is left to ask after a fault
abbrev pub HasListFrame : RigState → CommandList → Type 0
HasListFrame s l = WriterHasFrame s l.writer

-- A list with no command and no block.
pub record BeginsList (s : RigState) (l : CommandList) : Type 0 where
  pub is : IsCommandList s l
  pub commands : list_commands s l ≡ []
  pub blocks : list_blocks s l ≡ []
  pub len : list_len l ≡ 0
  pub held_is : held l ≡ 0

-- One command more was given.
pub record Notes (s t : RigState) (l m : CommandList) (c : Command) : Type 0 where
  pub is : IsCommandList t m
  pub commands : IsTrue s.device.told → list_commands t m ≡ list_commands s l ++ c ∷ []
  pub within : Within s (list_blocks s l) (list_blocks t m)
  pub len : list_len m ≡ list_len l + 1
  pub used : t.used + held l ≡ s.used + held m
  pub more : held m ≤ held l + 1
  pub pays : Pays (unstored l) (unstored m) s t

-- What a call that gives a command costs, whether it gave up or not. It says that the device is full
-- only if it took no block.
pub record NoteCosts {T : Type 0} (s t : RigState) (l : CommandList) (result : Result T EmFault)
    : Type 0 where
  pub most : StaysWithin (held l) (plain_room s.pool.shape (list_len l + 1)) s t
  pub pays : OnErr result (Pays (unstored l) s.pool.shape.frames s t)
  pub full : IfErr result (λ fault. OnFull fault (t.used ≡ s.used))

-- What a call that gives a command does: only the list's blocks may have changed; one command more
-- was given, or there is a cause; and it is full exactly if a block is needed and all are in use.
pub record Noted {T : Type 0} (s t : RigState) (l m : CommandList) (c : Command)
    (result : Result T EmFault) : Type 0 where
  pub goes : Goes (list_blocks s l) s t
  pub frame : HasListFrame t m
  pub notes : OnOk result (Notes s t l m c)
  pub costs : NoteCosts s t l result
  pub full : (result ≡ Err (Full s.used)) ↔ (NeedsBlock s l.writer × (s.used ≡ s.blocks))
  pub complete : s.used < s.blocks → Completes s t result
  pub cause : IfErr result (Cause s t)

-- The list was answered by a chain of these records.
pub record AnsweredBy (s t : RigState) (l : CommandList) (items : List Record) (c : Chain)
    : Type 0 where
  pub is : IsChain t c
  pub items_are : IsTrue s.device.told → chain_items t c ≡ items
  pub packed : IsTrue s.device.told → IsPacked t c
  pub within : Within s (list_blocks s l) (chain_blocks t c)
  pub used : t.used + held l ≡ s.used + c.blocks
  pub pays : Pays (unstored l) 0 s t
