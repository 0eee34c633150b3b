-- The four lists of a circuit that is being read, and what calls on them do.
use Rattle.std.specs.Prelude.{◌≡◌, ◌↔◌, ℕ, ◌+◌, ◌*◌, ◌<◌, ◌≤◌, max, true, List, [], ◌++◌, length, IsTrue, Result, Ok, Err}
use Rattle.em_record.specs.declared.record.Record.{Record}
use Rattle.em_frames.specs.Pool.{LentFrames, GivenFrames, HasFrames}
use Rattle.em_space.specs.Held.{Holds}
use Rattle.em_space.specs.Ledger.{Account, both, Runs, Session, Stops}
use Rattle.em_space.specs.Queue.{Pays}
use Rattle.em_space.specs.Rig.{RigState, Sound, Touches, Goes, Cause, IfFull, Owes}
use Rattle.em_space.specs.declared.fault.EmFault.{EmFault}
use Rattle.em_space.specs.declared.fault.EmFault.TheVariants.{Full}
use Rattle.em_chain.specs.Chain.{IsChain, IsPacked, chain_blocks, chain_items, payload_in}
use Rattle.em_chain.specs.Counts.{ceiling}
use Rattle.em_chain.specs.Session.{Wrote, writer_account}
use Rattle.em_chain.specs.Writer.{IsWriter, IsPackedSoFar, NeedsBlock, filled, writer_blocks}
use Rattle.em_chain.specs.Writes.{Begins, Finishes}
use Rattle.em_chain.specs.declared.chain.Chain.{Chain}
use Rattle.em_chain.specs.declared.writer.Writer.{Writer}
use Rattle.aig_text.specs.Climbing.{at_foot, after_records, all_above_operands}
use Rattle.aig_text.specs.declared.draft.Draft.{Draft}

-- This many frames were lent, and no block was changed.
pub record LendsFrames (n : ℕ) (old new : RigState) : Type 0 where
  pub sound : Sound new
  pub touches : Touches [] old new
  pub frames : LentFrames n old.pool new.pool

-- This many frames came back, and only these blocks may have changed.
pub record GivesFrames (n : ℕ) (held : List ℕ) (old new : RigState) : Type 0 where
  pub sound : Sound new
  pub touches : Touches held old new
  pub frames : GivenFrames n old.pool new.pool

-- A writer of a packed list: it passes over nothing, and fills every block but the last.
pub record IsPackedWriter (s : RigState) (w : Writer) : Type 0 where
  pub is : IsWriter s w
  pub packed : IsTrue s.device.told → IsPackedSoFar s w
  pub skip_is : w.skip ≡ 0
  pub filled_is : filled s w ≡ w.count

-- A packed chain of these records.
pub record IsPackedChain (s : RigState) (c : Chain) (xs : List Record) : Type 0 where
  pub is : IsChain s c
  pub items : IsTrue s.device.told → chain_items s c ≡ xs
  pub packed : IsTrue s.device.told → IsPacked s c
  pub count_is : c.count ≡ length xs
  pub blocks_is : c.blocks ≡ ceiling (length xs) (payload_in s)

-- the blocks of the lists, one after another
abbrev pub draft_blocks : RigState → Draft → List ℕ
draft_blocks s d = writer_blocks s d.resets
    ++ (writer_blocks s d.defs ++ (writer_blocks s d.gates ++ writer_blocks s d.uses))

-- the accounts of the writers together
abbrev pub draft_account : Draft → Account
draft_account d = both (writer_account d.resets) (both (writer_account d.defs)
    (both (writer_account d.gates) (writer_account d.uses)))

-- the records of the lists
abbrev pub draft_len : Draft → ℕ
draft_len d = d.defs.count + d.gates.count + d.uses.count + d.resets.count

-- the most blocks that n records take in four packed lists
abbrev pub draft_room : RigState → ℕ → ℕ
draft_room s n = ceiling n (payload_in s) + 3

-- The four frames are the pool's: what is left to ask after a fault.
pub record HasDraftFrames (s : RigState) (d : Draft) : Type 0 where
  pub defs : HasFrames 4 (length d.defs.frame) s.pool
  pub gates : HasFrames 4 (length d.gates.frame) s.pool
  pub uses : HasFrames 4 (length d.uses.frame) s.pool
  pub resets : HasFrames 4 (length d.resets.frame) s.pool

-- Four writers of packed lists, with four frames and with blocks apart from each other.
pub record IsDraft (s : RigState) (d : Draft) : Type 0 where
  pub defs : IsPackedWriter s d.defs
  pub gates : IsPackedWriter s d.gates
  pub uses : IsPackedWriter s d.uses
  pub resets : IsPackedWriter s d.resets
  pub frames : HasDraftFrames s d
  pub holds : IsTrue s.device.told → Holds s (draft_blocks s d)

-- Four lists with no record and no block.
pub record BeginsDraft (s : RigState) (d : Draft) : Type 0 where
  pub is : IsDraft s d
  pub defs : Begins s d.defs
  pub gates : Begins s d.gates
  pub uses : Begins s d.uses
  pub resets : Begins s d.resets
  pub climb_is : d.climb ≡ at_foot
  pub rises_is : d.rises ≡ true

-- These records were written to the four lists, by calls one after another.
pub record Drafted (s t : RigState) (d e : Draft) (xs ys zs ws : List Record) : Type 0 where
  pub runs : Runs (draft_account e).blocks (draft_blocks s d) (draft_blocks t e)
      (draft_account d) (draft_account e) s t
  pub defs : Wrote s t d.defs e.defs xs
  pub gates : Wrote s t d.gates e.gates ys
  pub uses : Wrote s t d.uses e.uses zs
  pub resets : Wrote s t d.resets e.resets ws
  pub climb_is : e.climb ≡ after_records d.climb xs
  pub rises_is : e.rises ≡ all_above_operands d.rises ys
  pub grows : (draft_account d).blocks ≤ (draft_account e).blocks

-- Calls gave up that were to write at most n records. No more blocks came into use than all records
-- may take, with two moves at most for each block, and four of them at most aren't stored.
pub record StopsDraft (s t : RigState) (d : Draft) (n : ℕ) (fault : EmFault) : Type 0 where
  pub stops : Stops (draft_room s (draft_len d + n)) (2 * draft_room s (draft_len d + n)) 4
      (draft_blocks s d) (draft_account d) s t fault

-- what a call did that was to write these records, by its result
abbrev pub DraftsTo : {T : Type 0} → RigState → RigState → Draft → Draft → List Record
    → List Record → List Record → List Record → Result T EmFault → Type 0
DraftsTo s t d e xs ys zs ws (Ok x) = Drafted s t d e xs ys zs ws
DraftsTo s t d e xs ys zs ws (Err fault) =
    StopsDraft s t d (length xs + length ys + length zs + length ws) fault

-- It is refused as full exactly if the list needs a block and all are in use.
abbrev pub FullExactly : {T : Type 0} → RigState → Writer → Result T EmFault → Type 0
FullExactly s w result = (result ≡ Err (Full s.used)) ↔ (NeedsBlock s w × (s.used ≡ s.blocks))

-- the blocks of three chains, one after another
abbrev pub chains_blocks : RigState → Chain → Chain → Chain → List ℕ
chains_blocks s f g h = chain_blocks s f ++ (chain_blocks s g ++ chain_blocks s h)

-- the blocks of a circuit's four chains: those of the resets, and then those of the others
abbrev pub four_blocks : RigState → Chain → Chain → Chain → Chain → List ℕ
four_blocks s f g h k = chain_blocks s k ++ chains_blocks s f g h

-- The list of a packed writer is a packed chain.
pub record FinishesPacked (s t : RigState) (w : Writer) (c : Chain) : Type 0 where
  pub finishes : Finishes s t w c
  pub packed : IsTrue s.device.told → IsPacked t c
  pub blocks_are : c.blocks ≡ ceiling c.count (payload_in t)

-- The lists are chains, in the blocks that the writers had, all of which are stored.
pub record FinishesDraft (s t : RigState) (d : Draft) (f g h k : Chain) : Type 0 where
  pub defs : FinishesPacked s t d.defs f
  pub gates : FinishesPacked s t d.gates g
  pub uses : FinishesPacked s t d.uses h
  pub resets : FinishesPacked s t d.resets k
  pub session : Session (draft_blocks s d) s t (four_blocks t f g h k)
  pub pays : Pays (draft_account d).unstored 0 s t

-- A draft was made, these records were written, and it was finished: four packed chains, in blocks
-- that weren't in use, all of which are stored.
pub record WritesFour (s t : RigState) (f g h k : Chain) (xs ys zs ws : List Record) : Type 0 where
  pub goes : Goes [] s t
  pub session : Session [] s t (four_blocks t f g h k)
  pub defs : IsPackedChain t f xs
  pub gates : IsPackedChain t g ys
  pub uses : IsPackedChain t h zs
  pub resets : IsPackedChain t k ws
  pub used : t.used ≡ s.used + (f.blocks + g.blocks + h.blocks + k.blocks)
  pub most : t.most ≡ max s.most t.used
  pub moves : t.moves ≤ s.moves + 2 * (f.blocks + g.blocks + h.blocks + k.blocks) + 4
  pub owes : Owes 0 s t

-- A draft was made, at most n records were to be written, and its frames are back. Its blocks may
-- still be in use, and four of them at most aren't stored.
pub record LeavesDraft (s t : RigState) (n : ℕ) : Type 0 where
  pub goes : Goes [] s t
  pub used : t.used ≤ s.used + draft_room s n
  pub most : t.most ≤ max s.most (s.used + draft_room s n)
  pub moves : t.moves ≤ s.moves + 2 * draft_room s n + 4
  pub owes : Owes 4 s t

-- The same after a fault. Full comes only if fewer blocks were free at first than n records may
-- take.
pub record GivesUpDraft (s t : RigState) (n : ℕ) (fault : EmFault) : Type 0 where
  pub leaves : LeavesDraft s t n
  pub full : IfFull fault (λ _. s.blocks < s.used + draft_room s n)
  pub cause : Cause s t fault
