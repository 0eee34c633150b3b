-- A group of lists that are written at once: the words of the members, and a rack in which a frame
-- for each of them stands.
use Rattle.std.specs.Prelude.{◌≡◌, ◌↔◌, ◌≢◌, ℕ, ◌+◌, ◌*◌, ◌<◌, ◌≤◌, ◌^◌, ◌⊎◌, min, Bool, true, false, List, [], ◌∷◌, ◌++◌, Option, Some, None, length, get_or, set, slice_get, map, IsTrue, Result, Ok, Err}
use Rattle.std.proofs.Common.{inl, inr}
use Rattle.em_record.specs.declared.record.Record.{Record}
use Rattle.em_frames.specs.Pool.{PoolCounts, singles_of, places_in}
use Rattle.em_space.specs.Held.{Holds}
use Rattle.em_space.specs.Ledger.{Account, both, moved, Spends, Halts, Session, Runs, Stops}
use Rattle.em_space.specs.Rig.{RigState, Sound, Touches}
use Rattle.em_space.proofs.Lists.{flat}
use Rattle.em_space.specs.declared.fault.EmFault.{EmFault}
use Rattle.em_space.specs.declared.fault.EmFault.TheVariants.{Full}
use Rattle.em_record.specs.Count.{Rose}
use Rattle.em_chain.specs.Chain.{IsChain, IsPacked, IsTight, chain_items, chain_blocks, empty_chain, payload_in}
use Rattle.em_chain.specs.Effects.{GivesFrame, Unmoved}
use Rattle.em_chain.specs.Session.{writer_account, chain_account}
use Rattle.em_chain.specs.Within.{Grows}
use Rattle.em_chain.specs.Writer.{IsWriter, IsPackedSoFar, IsTightSoFar, NeedsBlock, writer_items, writer_blocks, filled}
use Rattle.em_chain.specs.declared.chain.Chain.{Chain}
use Rattle.em_chain.specs.declared.writer.Writer.{Writer}
use Rattle.em_chain.specs.declared.member.MemberWords.{MemberWords}
use Rattle.em_chain.specs.declared.writers.Writers.{Writers}

-- the chain that the words of an untouched member are
abbrev pub chain_in : MemberWords → Chain
chain_in m = record {
  head = m.head;
  skip = m.skip;
  tail = m.tail;
  count = m.count;
  blocks = m.blocks;
}

-- the writer that the words of a touched member are, with its frame
abbrev pub writer_in : MemberWords → List Record → Writer
writer_in m b = record {
  head = m.head;
  skip = m.skip;
  tail = m.tail;
  count = m.count;
  blocks = m.blocks;
  fill = m.fill;
  frame = b;
}

-- the words of a writer, whose frame goes into the rack
abbrev pub words_in : Writer → MemberWords
words_in w = record {
  head = w.head;
  skip = w.skip;
  tail = w.tail;
  count = w.count;
  blocks = w.blocks;
  fill = w.fill;
  touched = true;
}

-- What a member is: the chain that was added, or a writer that goes on with it.
abbrev pub Member : Type 0
Member = Chain ⊎ Writer

-- a member by whether it was touched, its words and its frame
abbrev pub member_by : Bool → MemberWords → List Record → Member
member_by true m b = inr (writer_in m b)
member_by false m b = inl (chain_in m)

-- the frame in a place of the rack, if there is one
abbrev pub frame_in : Option (List Record) → List Record
frame_in None = []
frame_in (Some b) = b

-- the members by their words and the places of the rack
abbrev pub members_of : List MemberWords → List (Option (List Record)) → List Member
members_of [] ps = []
members_of (m ∷ ms) [] = member_by m.touched m [] ∷ members_of ms []
members_of (m ∷ ms) (p ∷ ps) = member_by m.touched m (frame_in p) ∷ members_of ms ps

-- the members of a group
abbrev pub members_in : Writers → List Member
members_in g = members_of g.words.items g.rack

-- what stands for a member past the last one
abbrev pub no_member : Member
no_member = inl empty_chain

-- the member of this number
abbrev pub member_at : Writers → ℕ → Member
member_at g at = get_or (members_in g) at no_member

-- the list that a member is
abbrev pub member_items : RigState → Member → List Record
member_items s (inl c) = chain_items s c
member_items s (inr w) = writer_items s w

-- the blocks that it holds
abbrev pub member_blocks : RigState → Member → List ℕ
member_blocks s (inl c) = chain_blocks s c
member_blocks s (inr w) = writer_blocks s w

-- its records, by its words
abbrev pub member_count : Member → ℕ
member_count (inl c) = c.count
member_count (inr w) = w.count

-- the records of its first block that are passed over
abbrev pub member_skip : Member → ℕ
member_skip (inl c) = c.skip
member_skip (inr w) = w.skip

-- places of its blocks that were gone through, at most
abbrev pub member_filled : RigState → Member → ℕ
member_filled s (inl c) = payload_in s * c.blocks
member_filled s (inr w) = filled s w

-- the same of all members
abbrev pub filled_of : RigState → List Member → ℕ
filled_of s [] = 0
filled_of s (x ∷ xs) = member_filled s x + filled_of s xs

-- how many members are touched
abbrev pub touched_one : Member → ℕ
touched_one (inl c) = 0
touched_one (inr w) = 1

abbrev pub touched_of : List Member → ℕ
touched_of [] = 0
touched_of (x ∷ xs) = touched_one x + touched_of xs

-- It is a chain, or a writer.
abbrev pub IsMember : RigState → Member → Type 0
IsMember s (inl c) = IsChain s c
IsMember s (inr w) = IsWriter s w

-- packed, as a chain or as a writer
abbrev pub IsPackedMember : RigState → Member → Type 0
IsPackedMember s (inl c) = IsPacked s c
IsPackedMember s (inr w) = IsPackedSoFar s w

-- every block but the last is full
abbrev pub IsTightMember : RigState → Member → Type 0
IsTightMember s (inl c) = IsTight s c
IsTightMember s (inr w) = IsTightSoFar s w

-- a record and a block more are within the limits of a chain
abbrev pub MemberCanGrow : Member → Type 0
MemberCanGrow (inl c) = (c.count < 2 ^ 56) × (c.blocks < 2 ^ 56)
MemberCanGrow (inr w) = (w.count < 2 ^ 56) × (w.blocks < 2 ^ 56)

-- Each block is paid with two moves. The last block of a writer was loaded or will be stored: it isn't
-- stored, and one move more is paid.
abbrev pub open_account : Writer → Account
open_account w = moved (min w.blocks 1) (writer_account w)

-- the account of a member
abbrev pub member_account : Member → Account
member_account (inl c) = chain_account 0 c
member_account (inr w) = open_account w

-- the account of a group with no member
abbrev pub no_account : Account
no_account = record { blocks = 0; unstored = 0; paid = 0; owed = 0 }

-- the accounts of all members together
abbrev pub account_of : List Member → Account
account_of [] = no_account
account_of (x ∷ xs) = both (member_account x) (account_of xs)

-- the account of a group
abbrev pub group_account : Writers → Account
group_account g = account_of (members_in g)

-- the blocks of each member, one list after another
abbrev pub blocks_of : RigState → List Member → List (List ℕ)
blocks_of s xs = map (member_blocks s) xs

-- the blocks that a group holds
abbrev pub group_blocks : RigState → Writers → List ℕ
group_blocks s g = flat (blocks_of s (members_in g))

-- In the first places stand frames of b records, one for each member, and in no other.
abbrev pub AreFilled : ℕ → List MemberWords → List (Option (List Record)) → Type 0
AreFilled b [] [] = Unit {0}
AreFilled b [] (None ∷ ps) = AreFilled b [] ps
AreFilled b [] (Some f ∷ ps) = ⊥
AreFilled b (m ∷ ms) [] = ⊥
AreFilled b (m ∷ ms) (None ∷ ps) = ⊥
AreFilled b (m ∷ ms) (Some f ∷ ps) = (length f ≡ b) × AreFilled b ms ps

-- The rack is the pool's, and so are the frames in it: what is left to ask after a fault.
pub record HasRack (s : RigState) (g : Writers) : Type 0 where
  pub places : length g.rack ≡ places_in s.pool.shape
  pub filled_by : AreFilled s.pool.shape.block g.words.items g.rack
  pub out : s.pool.free + length g.words.items ≤ singles_of s.pool.shape
  pub rack_out : s.pool.rack_out ≡ true

-- Each member is a list, and if the device tells, no block is held twice.
pub record AreMembers (s : RigState) (xs : List Member) : Type 0 where
  pub each : (j : ℕ) → j < length xs → IsMember s (get_or xs j no_member)
  pub holds : IsTrue s.device.told → Holds s (flat (blocks_of s xs))

-- A group, its rack and the blocks of its members.
pub record IsGroup (s : RigState) (g : Writers) : Type 0 where
  pub has : HasRack s g
  pub members_are : AreMembers s (members_in g)

-- A call left the blocks of a member alone.
pub record MemberStays (s t : RigState) (x : Member) : Type 0 where
  pub is : IsMember t x
  pub items : IsTrue s.device.told → member_items t x ≡ member_items s x
  pub blocks : IsTrue s.device.told → member_blocks t x ≡ member_blocks s x
  pub packed : IsTrue s.device.told → IsPackedMember s x → IsPackedMember t x
  pub tight : IsTrue s.device.told → IsTightMember s x → IsTightMember t x

-- A member needs a block for its next record: its blocks have no place left, or there is none.
abbrev pub MemberNeeds : RigState → Member → Type 0
MemberNeeds s (inl c) = c.skip + c.count ≡ payload_in s * c.blocks
MemberNeeds s (inr w) = NeedsBlock s w

-- that is known of a chain only if it is tight
abbrev pub KnowsNeed : RigState → Member → Type 0
KnowsNeed s (inl c) = IsTrue s.device.told × IsTight s c
KnowsNeed s (inr w) = Unit {0}

-- An append is `Full` exactly if the member needs a block and all are in use, and no device call
-- failed before.
pub record FullIfNeeded {T : Type 0} (s t : RigState) (x : Member) (result : Result T EmFault)
    : Type 0 where
  pub only : KnowsNeed s x → result ≡ Err (Full s.used) → MemberNeeds s x × (s.used ≡ s.blocks)
  pub comes : IsTrue s.device.told → KnowsNeed s x → MemberNeeds s x → s.used ≡ s.blocks
      → (Rose s.device.faults t.device.faults → ⊥) → result ≡ Err (Full s.used)

-- A member became a writer, whose last block is in its frame.
pub record Opens (s t : RigState) (x : Member) (w : Writer) : Type 0 where
  pub is : IsWriter t w
  pub items : IsTrue s.device.told → writer_items t w ≡ member_items s x
  pub blocks : IsTrue s.device.told → writer_blocks t w ≡ member_blocks s x
  pub packed : IsTrue s.device.told → IsPackedMember s x → IsPackedSoFar t w
  pub tight : IsTrue s.device.told → IsTightMember s x → IsTightSoFar t w
  pub skip_is : IsTrue s.device.told → w.skip ≡ member_skip x
  pub count_is : IsTrue s.device.told → w.count ≡ member_count x
  pub count_most : w.count ≤ member_count x
  pub blocks_is : w.blocks ≡ (member_account x).blocks
  pub filled_most : filled t w ≤ member_filled s x
  pub needs : KnowsNeed s x → NeedsBlock t w ↔ MemberNeeds s x
  pub spends : Spends w.blocks (member_account x) (open_account w) s t

-- A call left the blocks of a group alone.
pub record GroupStays (s t : RigState) (g : Writers) : Type 0 where
  pub is : IsGroup t g
  pub members : (j : ℕ) → j < length g.words.items → MemberStays s t (member_at g j)
  pub blocks : IsTrue s.device.told → group_blocks t g ≡ group_blocks s g

-- These records were appended to a member.
pub record MemberWrote (s t : RigState) (x y : Member) (xs : List Record) : Type 0 where
  pub items : IsTrue s.device.told → member_items t y ≡ member_items s x ++ xs
  pub packed : IsTrue s.device.told → IsPackedMember s x → IsPackedMember t y
  pub tight : IsTrue s.device.told → IsTightMember s x → IsTightMember t y
  pub skip_is : IsTrue s.device.told → member_skip y ≡ member_skip x
  pub count_is : IsTrue s.device.told → member_count y ≡ member_count x + length xs
  pub count_most : member_count y ≤ member_count x + length xs
  pub blocks_most : (member_account y).blocks ≤ (member_account x).blocks + length xs
  pub filled_most : member_filled t y ≤ member_filled s x + length xs

-- One record more at the end of a member; the others are as they were.
pub record MemberAppends (s t : RigState) (g h : Writers) (at : ℕ) (x : Record) : Type 0 where
  pub runs : Runs (group_account h).blocks (group_blocks s g) (group_blocks t h) (group_account g)
      (group_account h) s t
  pub is : IsGroup t h
  pub len : length h.words.items ≡ length g.words.items
  pub wrote : MemberWrote s t (member_at g at) (member_at h at) (x ∷ [])
  pub grown : IsTrue s.device.told
      → Grows s (member_blocks s (member_at g at)) (member_blocks t (member_at h at))
  pub grows : (group_account g).blocks ≤ (group_account h).blocks
  pub filled_most : filled_of t (members_in h) ≤ filled_of s (members_in g) + 1
  pub touched_most : touched_of (members_in h) ≤ touched_of (members_in g) + 1
  pub others : (j : ℕ) → j ≢ at → member_at h j ≡ member_at g j
  pub others_stay : (j : ℕ) → j ≢ at → j < length g.words.items → MemberStays s t (member_at g j)

-- An append gave up. It took one block at most, and made three moves at most: one to load the member's
-- last block, one to take a block that was freed, and one to store the last block.
abbrev pub StopsAppending : RigState → RigState → Writers → EmFault → Type 0
StopsAppending s t g fault =
    Stops ((group_account g).blocks + 1) ((group_account g).paid + 3)
    ((group_account g).unstored + 1) (group_blocks s g) (group_account g) s t fault

-- the words of no list
abbrev pub no_words : MemberWords
no_words = record {
  head = 0;
  skip = 0;
  tail = 0;
  count = 0;
  blocks = 0;
  fill = 0;
  touched = false;
}

-- A member became a chain: its last block was stored, if it was loaded or taken.
pub record MemberEnds (s t : RigState) (x : Member) (c : Chain) : Type 0 where
  pub is : IsChain t c
  pub items : IsTrue s.device.told → chain_items t c ≡ member_items s x
  pub blocks : IsTrue s.device.told → chain_blocks t c ≡ member_blocks s x
  pub packed : IsTrue s.device.told → IsPackedMember s x → IsPacked t c
  pub tight : IsTrue s.device.told → IsTightMember s x → IsTight t c
  pub skip_is : c.skip ≡ member_skip x
  pub count_is : c.count ≡ member_count x
  pub blocks_is : c.blocks ≡ (member_account x).blocks
  pub spends : Spends c.blocks (member_account x) (chain_account (2 *
      (member_account x).unstored) c) s t

-- what a member's end leaves, by its result
abbrev pub EndsMember : RigState → RigState → Member → Result Chain EmFault → Type 0
EndsMember s t x (Ok c) = MemberEnds s t x c
EndsMember s t x (Err fault) =
    Halts (member_account x).blocks ((member_account x).paid + 1) (member_account x).unstored
    (member_account x) s t fault

-- The last member was lifted out: its words and its frame.
pub record Lifts (g h : Writers) (m : MemberWords) (f : List Record) : Type 0 where
  pub words : g.words.items ≡ h.words.items ++ m ∷ []
  pub frame : slice_get g.rack (length h.words.items) ≡ Some (Some f)
  pub rack : h.rack ≡ set g.rack (length h.words.items) None

-- the last member of a group, from which it was taken
abbrev pub last_of : Writers → Writers → Member
last_of g h = member_at g (length h.words.items)

-- The last member was taken out, and is a chain; the others are as they were.
pub record TakesLast (s t : RigState) (g h : Writers) (c : Chain) : Type 0 where
  pub is : IsGroup t h
  pub ends : MemberEnds s t (last_of g h) c
  pub session : Session (group_blocks s g) s t (group_blocks t h ++ chain_blocks t c)
  pub others : (j : ℕ) → j < length h.words.items → member_at h j ≡ member_at g j
  pub others_stay : (j : ℕ) → j < length h.words.items → MemberStays s t (member_at g j)

-- The blocks of the member are paid with two moves each, and two more if it was appended to.
abbrev pub TakeSpends : RigState → RigState → Writers → Writers → Result Chain EmFault → Type 0
TakeSpends s t g h (Ok c) =
    Spends (group_account g).blocks (group_account g)
    (both (group_account h) (chain_account (2 * (member_account (last_of g h)).unstored) c)) s t
TakeSpends s t g h (Err fault) =
    Halts (group_account g).blocks ((group_account g).paid + 1) (group_account g).unstored
    (group_account g) s t fault

-- A chain became the last member.
pub record Adds (s t : RigState) (g h : Writers) (c : Chain) : Type 0 where
  pub is : IsGroup t h
  pub len : length h.words.items ≡ length g.words.items + 1
  pub last : member_at h (length g.words.items) ≡ inl c
  pub others : (j : ℕ) → j < length g.words.items → member_at h j ≡ member_at g j
  pub stay : (j : ℕ) → j < length h.words.items → MemberStays s t (member_at h j)
  pub blocks : IsTrue s.device.told → group_blocks t h ≡ group_blocks s g ++ chain_blocks s c
  pub spends : Spends (group_account h).blocks (both (group_account g) (chain_account 0 c))
      (group_account h) s t

-- The rack came back with n frames.
pub record GivenRack (n : ℕ) (old new : PoolCounts) : Type 0 where
  pub shape : new.shape ≡ old.shape
  pub free : new.free ≡ old.free + n
  pub rack : new.rack_out ≡ false
  pub free_areas : new.free_areas ≡ old.free_areas
  pub peak : old.peak ≤ new.peak

-- A group with no member.
pub record BeginsGroup (s t : RigState) (g : Writers) : Type 0 where
  pub is : IsGroup t g
  pub none : g.words.items ≡ []

-- The frame of the last member came back, and its words are gone.
pub record GivesLast (s t : RigState) (g h : Writers) : Type 0 where
  pub gives : GivesFrame [] s t
  pub unmoved : Unmoved s t
  pub has : HasRack t h
  pub len : length g.words.items ≡ length h.words.items + 1

-- Frames of the last members came back, one after another.
pub record Emptying (s t : RigState) (g h : Writers) : Type 0 where
  pub sound : Sound t
  pub touches : Touches [] s t
  pub unmoved : Unmoved s t
  pub has : HasRack t h
  pub shape : t.pool.shape ≡ s.pool.shape
  pub free : t.pool.free + length h.words.items ≡ s.pool.free + length g.words.items
  pub free_areas : t.pool.free_areas ≡ s.pool.free_areas
  pub peak : s.pool.peak ≤ t.pool.peak
