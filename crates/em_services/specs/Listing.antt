-- The pairs of a map's tree as a list: a drain gives them, and they are written one after another.
use Rattle.std.specs.Prelude.{◌≡◌, ℕ, ◌+◌, ◌*◌, ◌<◌, ◌≤◌, max, min, List, [], ◌++◌, length, IsTrue, Result, Ok, Err}
use Rattle.em_record.specs.Shape.{ShapeNumbers, payload_of}
use Rattle.em_record.specs.declared.record.Record.{Record}
use Rattle.em_model.specs.Map.{Combiner}
use Rattle.em_settle.specs.Add.{IsAddOp, add_step_of}
use Rattle.em_settle.specs.Keys.{record_at}
use Rattle.em_settle.specs.Map.{IsMapKept, map_key_of}
use Rattle.em_settle.specs.Rising.{RisesByKey}
use Rattle.em_settle.specs.declared.add.AddSettle.{AddSettle}
use Rattle.em_frames.specs.Pool.{GivenFrames, PoolCounts}
use Rattle.em_space.specs.Ledger.{Session}
use Rattle.em_space.specs.Queue.{Pays}
use Rattle.em_space.specs.Rig.{Cause, Goes, IfFull, RigState, Sound, Touches}
use Rattle.em_space.specs.declared.fault.EmFault.{EmFault}
use Rattle.em_chain.specs.Chain.{IsChain, IsPacked, chain_blocks, chain_items}
use Rattle.em_chain.specs.Counts.{ceiling}
use Rattle.em_chain.specs.Writer.{IsPackedSoFar, IsWriter, filled, writer_blocks, writer_items}
use Rattle.em_chain.specs.declared.chain.Chain.{Chain}
use Rattle.em_chain.specs.declared.writer.Writer.{Writer}
use Rattle.em_plain.specs.Room.{StaysWithin}
use Rattle.em_sorting.specs.Pushes.{CanServeBeside}
use Rattle.em_tree_model.specs.Meaning.{tree_contents}
use Rattle.em_tree_cost.specs.Shares.{tree_room}
use Rattle.em_tree_walk.specs.Paid.{LosesNone, RunsPaid}
use Rattle.em_trunk.specs.Trunk.{model_of, trunk_blocks, trunk_unstored}
use Rattle.em_trunk.specs.declared.trunk.Trunk.{Trunk}
use Rattle.em_bulk.specs.Draining.{DrainHasFrames, DrainsTo, Gives, IsDrain, drain_blocks, drain_share, drain_unstored, trunk_of}
use Rattle.em_bulk.specs.declared.drain.Drain.{Drain}
use Rattle.em_map.specs.Loading.{answers_in}

-- the drain of a map's tree
abbrev pub PairDrain : Type 0 → Type 0
PairDrain F = Drain (AddSettle F)

-- It is tied to its rig.
abbrev pub IsPairDrain : {F : Type 0} → Combiner → RigState → PairDrain F → Type 0
IsPairDrain apply s d = IsDrain map_key_of (add_step_of apply) IsAddOp IsMapKept s d

-- It has these records still to give.
abbrev pub GivesPairs : {F : Type 0} → Combiner → RigState → PairDrain F → List Record → Type 0
GivesPairs apply s d xs = Gives map_key_of (add_step_of apply) s d xs

-- the most blocks of a tree that is drained, with those of its answers, and of a list of n records beside it
abbrev pub listing_room : ShapeNumbers → Trunk → (answers n : ℕ) → ℕ
listing_room shape v answers n =
    tree_room shape v.longest + ceiling answers (payload_of shape) + ceiling n (payload_of shape)

-- the most moves of all calls of a tree, up to the end of its drain, and of writing a list of n records
abbrev pub listing_moves : ShapeNumbers → Trunk → (answers n : ℕ) → ℕ
listing_moves shape v answers n = drain_share shape v answers + (2 * ceiling n (payload_of shape) + 1)

-- A tree has these records, in the order of their keys.
pub record HasRecords (apply : Combiner) (s : RigState) (v : Trunk) (xs : List Record) : Type 0 where
  pub rises : RisesByKey map_key_of xs
  pub are : (q : Record) → record_at map_key_of xs q ≡ tree_contents map_key_of (add_step_of apply) (model_of s v) q

-- It has some records, at most as many as this.
pub record HasFew (apply : Combiner) (most : ℕ) (s : RigState) (v : Trunk) : Type 0 where
  pub list : List Record
  pub has : HasRecords apply s v list
  pub few : length list ≤ most

-- The same of what a drain has to give.
pub record GivesFew {F : Type 0} (apply : Combiner) (most : ℕ) (s : RigState) (d : PairDrain F) : Type 0 where
  pub list : List Record
  pub gives : GivesPairs apply s d list
  pub few : length list ≤ most

-- Of the records that a drain had to give, these were given, and it has the others.
pub record HasGiven {F : Type 0} (apply : Combiner) (t : RigState) (e : PairDrain F) (given xs : List Record)
    : Type 0 where
  pub rest : List Record
  pub is : xs ≡ given ++ rest
  pub gives : GivesPairs apply t e rest

-- Over a device that tells: what a drain gave since this moment was written to a list that was new then, but for the last ones.
pub record TellsListing {F : Type 0} (apply : Combiner) (s t : RigState) (d e : PairDrain F) (w : Writer)
    (hand : List Record) : Type 0 where
  pub packed : IsPackedSoFar t w
  pub answers : answers_in apply t (trunk_of e) ≡ answers_in apply s (trunk_of d)
  pub gives : (xs : List Record) → GivesPairs apply s d xs → HasGiven apply t e (writer_items t w ++ hand) xs
  pub most : t.most + length (drain_blocks s d) ≤ max (s.most + length (drain_blocks s d))
      (s.used + listing_room s.pool.shape (trunk_of d) (answers_in apply s (trunk_of d)) w.count)
  pub moves : t.moves + (trunk_of d).spent ≤ s.moves + ((trunk_of e).spent + 2 * w.blocks)

-- Calls of a drain, and appends of what it gave to such a list. None was refused.
pub record Lists {F : Type 0} (apply : Combiner) (s t : RigState) (d e : PairDrain F) (w : Writer)
    (hand : List Record) : Type 0 where
  pub is : IsPairDrain apply t e
  pub list : IsWriter t w
  pub filled_is : filled t w ≡ w.count
  pub runs : RunsPaid (drain_blocks s d) (drain_blocks t e ++ writer_blocks t w) (drain_unstored d)
      (drain_unstored e + min w.blocks 1) s t
  pub numbers : DrainsTo (trunk_of d) (trunk_of e)
  pub told : IsTrue s.device.told → TellsListing apply s t d e w hand

-- Over a device that tells: at no moment did a tree, up to the end of its drain, and the list of its n pairs hold more blocks than
-- their room, or make more moves than they may. The tree held these blocks at first.
pub record ListsWithin (apply : Combiner) (held : List ℕ) (s t : RigState) (v : Trunk) (n : ℕ) : Type 0 where
  pub room : StaysWithin (length held) (listing_room s.pool.shape v (answers_in apply s v) n) s t
  pub moves : t.moves + v.spent ≤ s.moves + listing_moves s.pool.shape v (answers_in apply s v) n

-- Calls were full only if that room and the blocks of others are more than all.
abbrev pub FullOverList : Combiner → List ℕ → RigState → Trunk → ℕ → EmFault → Type 0
FullOverList apply held s v n fault = IfFull fault (λ used. used + length held
    < s.used + listing_room s.pool.shape v (answers_in apply s v) n)

-- The last of such calls gave up. What is left of the drain may only be abandoned.
pub record StopsListing {F : Type 0} (apply : Combiner) (s t : RigState) (d e : PairDrain F) (fault : EmFault)
    : Type 0 where
  pub goes : Goes (drain_blocks s d) s t
  pub drain : DrainHasFrames t e
  pub pays : Pays (drain_unstored d) (s.pool.shape.frames + 1) s t
  pub cause : Cause s t fault
  pub within : IsTrue s.device.told → (xs : List Record) → GivesPairs apply s d xs
      → ListsWithin apply (drain_blocks s d) s t (trunk_of d) (length xs)
  pub full : IsTrue s.device.told → (xs : List Record) → GivesPairs apply s d xs
      → FullOverList apply (drain_blocks s d) s (trunk_of d) (length xs) fault

-- A drain has nothing to give any more: all that it had was written.
pub record AppendedAll {F : Type 0} (apply : Combiner) (s t : RigState) (d e : PairDrain F) (w : Writer) : Type 0
  where
    pub lists : Lists apply s t d e w []
    pub all : IsTrue s.device.told → (xs : List Record) → GivesPairs apply s d xs → writer_items t w ≡ xs

-- what appending all that a drain gives did, by its result
abbrev pub AppendsAll : {F : Type 0} → Combiner → RigState → RigState → PairDrain F → PairDrain F → Writer
    → Result (Unit {0}) EmFault → Type 0
AppendsAll apply s t d e w (Ok x) = AppendedAll apply s t d e w
AppendsAll apply s t d e w (Err fault) = StopsListing apply s t d e fault

-- Over a device that tells: a list has all records that a drain had to give.
pub record TellsListed {F : Type 0} (apply : Combiner) (s t : RigState) (d e : PairDrain F) (c : Chain) : Type 0
  where
    pub packed : IsPacked t c
    pub answers : answers_in apply t (trunk_of e) ≡ answers_in apply s (trunk_of d)
    pub items : (xs : List Record) → GivesPairs apply s d xs → chain_items t c ≡ xs
    pub most : t.most + length (drain_blocks s d) ≤ max (s.most + length (drain_blocks s d))
        (s.used + listing_room s.pool.shape (trunk_of d) (answers_in apply s (trunk_of d)) c.count)
    pub moves : t.moves + (trunk_of d).spent ≤ s.moves + ((trunk_of e).spent + (2 * c.blocks + 1))

-- Such a list stands beside the drain.
pub record Listed {F : Type 0} (apply : Combiner) (s t : RigState) (d e : PairDrain F) (c : Chain) : Type 0 where
  pub is : IsPairDrain apply t e
  pub chain : IsChain t c
  pub runs : RunsPaid (drain_blocks s d) (drain_blocks t e ++ chain_blocks t c) (drain_unstored d)
      (drain_unstored e) s t
  pub numbers : DrainsTo (trunk_of d) (trunk_of e)
  pub told : IsTrue s.device.told → TellsListed apply s t d e c

-- what listing all that a drain gives did, by its result
abbrev pub ListsTo : {F : Type 0} → Combiner → RigState → RigState → PairDrain F → PairDrain F
    → Result Chain EmFault → Type 0
ListsTo apply s t d e (Ok c) = Listed apply s t d e c
ListsTo apply s t d e (Err fault) = StopsListing apply s t d e fault

-- The frames that listing a tree's pairs needs are free: 2f + 5 single ones, two areas and the rack.
pub record CanList (p : PoolCounts) : Type 0 where
  pub free : CanServeBeside 1 p
  pub areas : 2 ≤ p.free_areas

-- A list has a tree's pairs, in the order of their keys. The tree's blocks are released, and its two frames are back.
pub record ListedPairs (apply : Combiner) (s t : RigState) (v : Trunk) (c : Chain) : Type 0 where
  pub chain : IsChain t c
  pub packed : IsTrue s.device.told → IsPacked t c
  pub session : Session (trunk_blocks s v) s t (chain_blocks t c)
  pub frames : GivenFrames 2 s.pool t.pool
  pub pays : Pays (trunk_unstored v) 0 s t
  pub loses : LosesNone (trunk_blocks s v) (chain_blocks t c) s t
  pub items : IsTrue s.device.told → (xs : List Record) → HasRecords apply s v xs → chain_items t c ≡ xs

-- It hasn't: the two frames are back, and blocks may be left in use.
pub record StopsPairs (apply : Combiner) (s t : RigState) (v : Trunk) (fault : EmFault) : Type 0 where
  pub sound : Sound t
  pub touches : Touches (trunk_blocks s v) s t
  pub frames : GivenFrames 2 s.pool t.pool
  pub pays : Pays (trunk_unstored v) (s.pool.shape.frames + 1) s t
  pub cause : Cause s t fault
  pub full : IsTrue s.device.told → (xs : List Record) → HasRecords apply s v xs
      → FullOverList apply (trunk_blocks s v) s v (length xs) fault

-- what listing a tree's pairs did, by its result
abbrev pub ListsPairs : Combiner → RigState → RigState → Trunk → Result Chain EmFault → Type 0
ListsPairs apply s t v (Ok c) = ListedPairs apply s t v c
ListsPairs apply s t v (Err fault) = StopsPairs apply s t v fault
