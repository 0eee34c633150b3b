-- The first records of a buffer, read into an area.
use Rattle.std.specs.Prelude.{◌≡◌, true, ℕ, ◌+◌, ◌*◌, ◌<◌, ◌≤◌, List, [], ◌∷◌, ◌++◌, drop, length, set, take, IsTrue, Result, Ok, Err}
use Rattle.em_record.specs.declared.record.Record.{Record}
use Rattle.em_space.specs.Ledger.{Runs, Stops}
use Rattle.em_space.specs.Rig.{BlockCause, RigState}
use Rattle.em_space.specs.declared.fault.EmFault.{EmFault}
use Rattle.em_chain.specs.Chain.{IsChain, IsTight, chain_blocks, chain_items, payload_in}
use Rattle.em_chain.specs.Counts.{ceiling}
use Rattle.em_chain.specs.Reader.{rest_of}
use Rattle.em_chain.specs.Session.{Took, taking_account}
use Rattle.em_chain.specs.declared.chain.Chain.{Chain}
use Rattle.em_chain.specs.declared.reader.Reader.{Reader}
use Rattle.em_tree_walk.specs.Paid.{RunsPaid, StopsPaid}

-- These records were read by a reader that takes its chain.
pub record TakesRead (s t : RigState) (r q : Reader) (xs : List Record) : Type 0 where
  pub took : Took s t r q xs
  pub runs : Runs r.blocks (chain_blocks s (rest_of r)) (chain_blocks t (rest_of q))
      (taking_account r) (taking_account q) s t

-- A record was read, and put into an area at a place.
pub record PutRead (s t : RigState) (r q : Reader) (old new : List Record) (at_place : ℕ) : Type 0 where
  pub item : Record
  pub read : TakesRead s t r q (item ∷ [])
  pub put : new ≡ set old at_place item

-- Such a read gave up.
abbrev pub StopsTaken : RigState → RigState → Reader → EmFault → Type 0
StopsTaken s t r fault =
    Stops r.blocks 0 0 (chain_blocks s (rest_of r)) (taking_account r) s t fault

-- what such a read did, by its result
abbrev pub PutsRead : {T : Type 0} → RigState → RigState → Reader → Reader → List Record
    → List Record → ℕ → Result T EmFault → Type 0
PutsRead s t r q old new at_place (Ok x) = PutRead s t r q old new at_place
PutsRead s t r q old new at_place (Err fault) = StopsTaken s t r fault

-- The first n places of an area have the records that were read.
pub record ReadFirst (s t : RigState) (r q : Reader) (old new : List Record) (n : ℕ) : Type 0 where
  pub read : TakesRead s t r q (take n new)
  pub len : length new ≡ length old
  pub left : q.count + n ≡ r.count
  pub taking : q.taking ≡ true

-- the same by the result
abbrev pub ReadsIntoArea : {T : Type 0} → RigState → RigState → Reader → Reader → List Record
    → List Record → ℕ → Result T EmFault → Type 0
ReadsIntoArea s t r q old new n (Ok x) = ReadFirst s t r q old new n
ReadsIntoArea s t r q old new n (Err fault) = StopsTaken s t r fault

-- The first n records of a chain are in an area, and the rest is a chain. Of a chain whose blocks are
-- full this cost no more than to read and release the blocks that the records need, and one more.
pub record FilledArea (s t : RigState) (buffer : Chain) (area : List Record) (n : ℕ) (rest : Chain)
    : Type 0 where
  pub runs : RunsPaid (chain_blocks s buffer) (chain_blocks t rest) 0 0 s t
  pub chain : IsChain t rest
  pub count : rest.count + n ≡ buffer.count
  pub items : IsTrue s.device.told → chain_items s buffer ≡ take n area ++ chain_items t rest
  pub tight : IsTrue s.device.told → IsTight s buffer → IsTight t rest
  pub moves : IsTrue s.device.told → IsTight s buffer
      → t.moves ≤ s.moves + 2 * ceiling n (payload_in s) + 2

-- They couldn't be read.
pub record StopsAreaFill (s t : RigState) (buffer : Chain) (fault : EmFault) : Type 0 where
  pub stops : StopsPaid (chain_blocks s buffer) 0 0 s t fault
  pub moves : t.moves ≤ s.moves + 2 * buffer.blocks

-- what that did, by its result
abbrev pub FillsArea : RigState → RigState → Chain → List Record → ℕ → Result Chain EmFault → Type 0
FillsArea s t buffer area n (Ok rest) = FilledArea s t buffer area n rest
FillsArea s t buffer area n (Err fault) = StopsAreaFill s t buffer fault

-- The same in an area from a place on: what stood before it stays. Each block that was left over was
-- released, by two moves at most for each that the chain had.
pub record FilledFrom (s t : RigState) (buffer : Chain) (old new : List Record) (from n : ℕ)
    (rest : Chain) : Type 0 where
  pub filled : FilledArea s t buffer (drop from new) n rest
  pub kept : take from new ≡ take from old
  pub used : t.used + buffer.blocks ≡ s.used + rest.blocks
  pub place : IsTrue s.device.told → IsTight s buffer → 0 < rest.count
      → rest.skip + payload_in s * buffer.blocks ≡ buffer.skip + n + payload_in s * rest.blocks
  pub most : t.moves ≤ s.moves + 2 * buffer.blocks

-- They couldn't be read. No block was needed.
pub record StopsFillFrom (s t : RigState) (buffer : Chain) (fault : EmFault) : Type 0 where
  pub fill : StopsAreaFill s t buffer fault
  pub cause : BlockCause s t fault

-- what that did, by its result
abbrev pub FillsFrom : RigState → RigState → Chain → List Record → List Record → ℕ → ℕ
    → Result Chain EmFault → Type 0
FillsFrom s t buffer old new from n (Ok rest) = FilledFrom s t buffer old new from n rest
FillsFrom s t buffer old new from n (Err fault) = StopsFillFrom s t buffer fault
