-- A node in a frame, over whose entries the records of a chain are shared out.
use Rattle.std.specs.Prelude.{◌≡◌, ℕ, ◌+◌, ◌*◌, ◌<◌, min, List, ◌++◌, length, IsTrue, Result, Ok, Err}
use Rattle.em_record.specs.declared.record.Record.{Record}
use Rattle.em_space.specs.Held.{Holds}
use Rattle.em_space.specs.Ledger.{Account, Halts, Runs, Session, Spends, Stops}
use Rattle.em_space.specs.Rig.{RigState, Sound, Touches, Cause}
use Rattle.em_space.specs.declared.fault.EmFault.{EmFault}
use Rattle.em_chain.specs.Chain.{IsChain, chain_blocks, chain_items, payload_in}
use Rattle.em_chain.specs.Counts.{ceiling}
use Rattle.em_chain.specs.declared.chain.Chain.{Chain}
use Rattle.em_node.specs.declared.entry.Entry.{Entry}
use Rattle.em_node.specs.Node.{IsNode, entries_of, level_of}
use Rattle.em_tree_model.specs.Pouring.{given_out}
use Rattle.em_tree_blocks.specs.Reading.{buffer_items}
use Rattle.em_empty.specs.Node.{AreBuffers, HavePlaces, KeepForms, SameLinks, buffer_blocks, buffer_count}
use Rattle.em_empty.specs.Dealt.{op_place}

-- The buffers of a node in a frame, and a chain, have no block in common and places for all
-- records.
pub record CanShare (s : RigState) (c : Chain) (block : List Record) : Type 0 where
  pub node : IsNode block
  pub chain : IsChain s c
  pub buffers : AreBuffers s (entries_of block)
  pub holds : IsTrue s.device.told → Holds s (chain_blocks s c ++ buffer_blocks s
      (entries_of block))
  pub places : HavePlaces c.count (entries_of block)
  pub some : 0 < length (entries_of block)
  pub whole : c.count ≡ 0 → c.blocks ≡ 0

-- A node became another one: the same level, low keys and children, and in each buffer its own
-- records and then those of the chain that belong there, in their order.
pub record FillsBuffers (key : Record → Record) (s t : RigState) (c : Chain)
    (b d : List Record) : Type 0 where
  pub node : IsNode d
  pub level : level_of d ≡ level_of b
  pub links : SameLinks (entries_of b) (entries_of d)
  pub buffers : AreBuffers t (entries_of d)
  pub items : IsTrue s.device.told → buffer_items t (entries_of d)
      ≡ given_out (op_place key (entries_of b)) (buffer_items s (entries_of b)) (chain_items s c)
  pub forms : KeepForms s t (entries_of b) (entries_of d)

-- the moves that sharing out may make at most: to read and release the chain, to write its records,
-- and to load and store the last block of each buffer that gets one
abbrev pub sharing_moves : RigState → Chain → ℕ → ℕ
sharing_moves s c e = 2 * c.blocks + 2 * ceiling c.count (payload_in s) + 4 * min c.count e

-- the account of a chain and of the buffers of these entries before that
abbrev pub sharing_account : RigState → Chain → List Entry → Account
sharing_account s c es = record {
  blocks = c.blocks + buffer_count es;
  unstored = 0;
  paid = 0;
  owed = sharing_moves s c (length es);
}

-- the account of the buffers afterwards
abbrev pub shared_account : List Entry → Account
shared_account es = record { blocks = buffer_count es; unstored = 0; paid = 0; owed = 0 }

-- how many blocks may be held at a moment, but for the one for which a call may ask in vain
abbrev pub sharing_peak : Chain → List Entry → ℕ
sharing_peak c es = c.blocks + buffer_count es + min c.count (length es)

-- the blocks of a chain and of the buffers of a node in a frame
abbrev pub sharing_blocks : RigState → Chain → List Record → List ℕ
sharing_blocks s c b = chain_blocks s c ++ buffer_blocks s (entries_of b)

-- All went well, beside frames that went back.
pub record SharedTo (key : Record → Record) (s t : RigState) (c : Chain) (b d : List Record)
    : Type 0 where
  pub fills : FillsBuffers key s t c b d
  pub session : Session (sharing_blocks s c b) s t (buffer_blocks t (entries_of d))
  pub spends : Spends (sharing_peak c (entries_of b)) (sharing_account s c (entries_of b))
      (shared_account (entries_of d)) s t

-- A call gave up, beside frames that went back.
pub record StopsSharing (s t : RigState) (c : Chain) (b : List Record)
    (fault : EmFault) : Type 0 where
  pub sound : Sound t
  pub touches : Touches (sharing_blocks s c b) s t
  pub halts : Halts (sharing_peak c (entries_of b) + 1) 1 (min c.count (length (entries_of b)) + 1)
      (sharing_account s c (entries_of b)) s t fault
  pub cause : Cause s t fault

-- what a group of the buffers left, by the result
abbrev pub SharesTo : {T : Type 0} → (Record → Record) → RigState → RigState → Chain → List Record
    → List Record → Result T EmFault → Type 0
SharesTo key s t c b d (Ok x) = SharedTo key s t c b d
SharesTo key s t c b d (Err fault) = StopsSharing s t c b fault

-- All went well, and as many frames are free as before.
pub record SharedOut (key : Record → Record) (s t : RigState) (c : Chain) (b d : List Record)
    : Type 0 where
  pub fills : FillsBuffers key s t c b d
  pub runs : Runs (sharing_peak c (entries_of b)) (sharing_blocks s c b)
      (buffer_blocks t (entries_of d)) (sharing_account s c (entries_of b))
      (shared_account (entries_of d)) s t

-- the same by the result
abbrev pub SharesOut : {T : Type 0} → (Record → Record) → RigState → RigState → Chain → List Record
    → List Record → Result T EmFault → Type 0
SharesOut key s t c b d (Ok x) = SharedOut key s t c b d
SharesOut key s t c b d (Err fault) =
    Stops (sharing_peak c (entries_of b) + 1) 1 (min c.count (length (entries_of b)) + 1)
    (sharing_blocks s c b) (sharing_account s c (entries_of b)) s t fault
