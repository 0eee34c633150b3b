-- Records that are read from a chain and appended to the buffers of a node's entries.
use Rattle.std.specs.Prelude.{◌≡◌, ℕ, ◌+◌, ◌*◌, ◌<◌, ◌≤◌, min, max, true, List, [], ◌∷◌, ◌++◌, length, map, IsTrue, Result, Ok, Err}
use Rattle.std.proofs.Common.{inl}
use Rattle.em_record.specs.declared.record.Record.{Record}
use Rattle.em_space.specs.Held.{Apart}
use Rattle.em_space.specs.Ledger.{Account, both, Runs, Stops}
use Rattle.em_space.specs.Rig.{RigState, Sound, Touches}
use Rattle.em_space.specs.declared.fault.EmFault.{EmFault}
use Rattle.em_chain.specs.Chain.{payload_in, chain_blocks, chain_items}
use Rattle.em_chain.specs.Counts.{ceiling}
use Rattle.em_chain.specs.Effects.{Unmoved}
use Rattle.em_chain.specs.Reader.{IsReader, rest_of}
use Rattle.em_chain.specs.Session.{Took, taking_account}
use Rattle.em_chain.specs.Writers.{IsGroup, IsPackedMember, IsTightMember, Member, MemberCanGrow, filled_of, group_account, group_blocks, member_account, member_at, member_count, member_items, members_in, touched_of}
use Rattle.em_chain.specs.declared.chain.Chain.{Chain}
use Rattle.em_chain.specs.declared.reader.Reader.{Reader}
use Rattle.em_chain.specs.declared.writers.Writers.{Writers}
use Rattle.em_node.specs.declared.entry.Entry.{Entry}
use Rattle.em_node.specs.Node.{place_of}
use Rattle.em_tree_model.specs.Pouring.{given_out}
use Rattle.em_tree_blocks.specs.Node.{buffer_of}
use Rattle.em_empty.specs.Node.{HavePlaces}

-- the buffers of these entries, as members of a group to which nothing was appended
abbrev pub chain_members : List Entry → List Member
chain_members [] = []
chain_members (e ∷ es) = inl (buffer_of e) ∷ chain_members es

-- The buffers of these entries are the members of a group, each with a frame. Nothing was moved.
pub record Gathers (s t : RigState) (g : Writers) (es : List Entry) : Type 0 where
  pub sound : Sound t
  pub touches : Touches [] s t
  pub unmoved : Unmoved s t
  pub free : t.pool.free + length es ≡ s.pool.free
  pub free_areas : t.pool.free_areas ≡ s.pool.free_areas
  pub peak : s.pool.peak ≤ t.pool.peak
  pub is : IsGroup t g
  pub members : members_in g ≡ chain_members es

-- the lists of a group's members
abbrev pub member_lists : RigState → Writers → List (List Record)
member_lists s g = map (member_items s) (members_in g)

-- A reader that takes its chain, and a group, with no block in common.
pub record AreBoth (s : RigState) (r : Reader) (g : Writers) : Type 0 where
  pub reader : IsReader s r
  pub taking : r.taking ≡ true
  pub group : IsGroup s g
  pub apart : IsTrue s.device.told → Apart (chain_blocks s (rest_of r)) (group_blocks s g)

-- the blocks of both
abbrev pub both_blocks : RigState → Reader → Writers → List ℕ
both_blocks s r g = chain_blocks s (rest_of r) ++ group_blocks s g

-- their accounts together
abbrev pub both_account : Reader → Writers → Account
both_account r g = both (taking_account r) (group_account g)

-- Some of this many records were appended to a member.
pub record Grew (n : ℕ) (s t : RigState) (x y : Member) : Type 0 where
  pub packed : IsTrue s.device.told → IsPackedMember s x → IsPackedMember t y
  pub tight : IsTrue s.device.told → IsTightMember s x → IsTightMember t y
  pub count_most : member_count y ≤ member_count x + n
  pub blocks_most : (member_account y).blocks ≤ (member_account x).blocks + n

-- the place of an operation among these entries
abbrev pub op_place : (Record → Record) → List Entry → Record → ℕ
op_place key es op = place_of (key op) es

-- This many records were read, and each was appended to the buffer of its place.
pub record Dealt (peak n : ℕ) (key : Record → Record) (es : List Entry) (s t : RigState)
    (r q : Reader) (g h : Writers) : Type 0 where
  pub ops : List Record
  pub ops_len : length ops ≡ n
  pub runs : Runs peak (both_blocks s r g) (both_blocks t q h) (both_account r g)
      (both_account q h) s t
  pub took : Took s t r q ops
  pub is : IsGroup t h
  pub len : length h.words.items ≡ length g.words.items
  pub items : IsTrue s.device.told
      → member_lists t h ≡ given_out (op_place key es) (member_lists s g) ops
  pub grew : (j : ℕ) → j < length g.words.items → Grew n s t (member_at g j) (member_at h j)
  pub filled_most : filled_of t (members_in h) ≤ filled_of s (members_in g) + n
  pub touched_most : touched_of (members_in h) ≤ touched_of (members_in g) + n

-- What one step did, by its result. At no moment of it did both have more blocks than before or
-- after.
abbrev pub DealsOne : {T : Type 0} → (Record → Record) → List Entry → RigState → RigState → Reader
    → Reader → Writers → Writers → Result T EmFault → Type 0
DealsOne key es s t r q g h (Ok x) = Dealt
    (max (r.blocks + (group_account g).blocks) (q.blocks +
    (group_account h).blocks)) 1 key es s t r q g h
DealsOne key es s t r q g h (Err fault) = Stops (r.blocks + (group_account g).blocks + 1)
    ((group_account g).paid + 3) ((group_account g).unstored + 1) (both_blocks s r g)
    (both_account r g) s t fault

-- the moves that n records may need at most, beyond what is paid and owed: e entries may get one
abbrev pub dealing_moves : RigState → ℕ → ℕ → ℕ
dealing_moves s n e = 2 * ceiling n (payload_in s) + 4 * min n e + 1

-- What n steps did to a group to which nothing had been appended, by their result.
abbrev pub DealsTo : {T : Type 0} → ℕ → (Record → Record) → List Entry → RigState → RigState
    → Reader
    → Reader → Writers → Writers → Result T EmFault → Type 0
DealsTo n key es s t r q g h (Ok x) =
    Dealt (r.blocks + (group_account g).blocks + min n (length es)) n key es s t r q g h
DealsTo n key es s t r q g h (Err fault) =
    Stops (r.blocks + (group_account g).blocks + min n (length es) + 1)
    ((group_account g).paid + dealing_moves s n (length es)) (min n (length es) + 1)
    (both_blocks s r g) (both_account r g) s t fault

-- a chain that will be read and released
abbrev pub taken_account : Chain → Account
taken_account c = record { blocks = c.blocks; unstored = 0; paid = 0; owed = 2 * c.blocks }

-- the blocks of a chain and of a group
abbrev pub source_blocks : RigState → Chain → Writers → List ℕ
source_blocks s c g = chain_blocks s c ++ group_blocks s g

abbrev pub source_account : Chain → Writers → Account
source_account c g = both (taken_account c) (group_account g)

-- All records of a chain were appended, each to the buffer of its place, and the chain's blocks
-- were released.
pub record DealtAll (key : Record → Record) (es : List Entry) (s t : RigState) (c : Chain)
    (g h : Writers) : Type 0 where
  pub runs : Runs (c.blocks + (group_account g).blocks + min c.count (length es))
      (source_blocks s c g)
      (group_blocks t h) (source_account c g) (group_account h) s t
  pub is : IsGroup t h
  pub len : length h.words.items ≡ length g.words.items
  pub items : IsTrue s.device.told
      → member_lists t h ≡ given_out (op_place key es) (member_lists s g) (chain_items s c)
  pub grew : (j : ℕ) → j < length g.words.items → Grew c.count s t (member_at g j) (member_at h j)
  pub filled_most : filled_of t (members_in h) ≤ filled_of s (members_in g) + c.count
  pub touched_most : touched_of (members_in h) ≤ touched_of (members_in g) + c.count

-- the same by the result
abbrev pub DealsAll : {T : Type 0} → (Record → Record) → List Entry → RigState → RigState → Chain
    → Writers → Writers → Result T EmFault → Type 0
DealsAll key es s t c g h (Ok x) = DealtAll key es s t c g h
DealsAll key es s t c g h (Err fault) =
    Stops (c.blocks + (group_account g).blocks + min c.count (length es) + 1)
    ((group_account g).paid + dealing_moves s c.count (length es)) (min c.count (length es) + 1)
    (source_blocks s c g) (source_account c g) s t fault

-- Nothing was appended to the members of a group yet, and each has places for n records. They are
-- the buffers of a node's entries.
pub record AwaitsRecords (n : ℕ) (g : Writers) (es : List Entry) : Type 0 where
  pub members : members_in g ≡ chain_members es
  pub places : HavePlaces n es
  pub some : 0 < length es

-- A group has a member for each of these entries, of which there is one, and each can grow.
pub record CanTake (g : Writers) (es : List Entry) : Type 0 where
  pub len : length g.words.items ≡ length es
  pub some : 0 < length es
  pub grow : (j : ℕ) → j < length es → MemberCanGrow (member_at g j)
