-- Pieces that are dealt to the lists of a node.
use Rattle.std.specs.Prelude.{◌≡◌, true, ℕ, zero, suc, ◌+◌, ◌*◌, ◌<◌, ◌≤◌, ◌^◌, List, [], ◌∷◌, ◌++◌, length, map, IsTrue, Result, Ok, Err}
use Rattle.std.proofs.Common.{inl}
use Rattle.std.specs.List.{flat_map}
use Rattle.arrayvec.specs.ArrayVec.{ArrayVec}
use Rattle.em_record.specs.declared.record.Record.{Record}
use Rattle.em_frames.specs.Pool.{PoolCounts}
use Rattle.em_space.specs.Held.{Apart}
use Rattle.em_space.specs.Ledger.{Account, Halts, Runs, Session, Spends, Stops, both, moved}
use Rattle.em_space.specs.Rig.{Cause, RigState, Sound, Touches}
use Rattle.em_space.specs.declared.fault.EmFault.{EmFault}
use Rattle.em_chain.specs.Chain.{chain_blocks, chain_items, empty_chain, payload_in}
use Rattle.em_chain.specs.Counts.{ceiling}
use Rattle.em_chain.specs.Effects.{Unmoved}
use Rattle.em_chain.specs.Reader.{IsReader, rest_of}
use Rattle.em_chain.specs.Session.{Took, taking_account}
use Rattle.em_chain.specs.Writers.{IsGroup, IsPackedMember, Member, MemberStays, MemberWrote, StopsAppending, account_of, filled_of, group_account, group_blocks, member_account, member_at, member_count, member_items, members_in, touched_of}
use Rattle.em_chain.specs.WritersSession.{GroupWrote, Sent, sent_to}
use Rattle.em_chain.specs.declared.chain.Chain.{Chain}
use Rattle.em_chain.specs.declared.reader.Reader.{Reader}
use Rattle.em_chain.specs.declared.writers.Writers.{Writers}
use Rattle.em_segment_model.specs.Places.{places_of}
use Rattle.em_segment_model.specs.Reports.{slab_lists}
use Rattle.em_segment_model.specs.Slabs.{slabs_from}
use Rattle.em_segment_model.specs.Spans.{down_lists}
use Rattle.em_segment_model.specs.declared.strip.Span.{Span}
use Rattle.em_segment_parts.specs.Accounts.{stored}
use Rattle.em_segment_parts.specs.Chains.{AreChains, chains_blocks, chains_held, chains_in, chains_lists}
use Rattle.em_segment_parts.specs.Reports.{Shifts, StopsShifting, others_unstored}
use Rattle.em_segment_parts.specs.declared.dealing.Lists.{Lists}
use Rattle.em_segment_parts.specs.declared.list.Listed.{Listed}

-- how many lists a node of n strips has: one for each strip, and one for each multislab
abbrev pub lists_of : ℕ → ℕ
lists_of n = n + length (slabs_from 0 n)

-- a record, sent to members of these numbers
abbrev pub sent_places : Record → List ℕ → List Sent
sent_places r places = map (λ (place : ℕ). record { to = place; item = r }) places

-- where all of some pieces are sent
abbrev pub sent_all : List Span → List Record → List Sent
sent_all zs pieces = flat_map (λ (r : Record). sent_places r (places_of zs r)) pieces

-- some members to which nothing was appended, all of them empty
abbrev pub empty_members : ℕ → List Member
empty_members zero = []
empty_members (suc n) = inl empty_chain ∷ empty_members n

-- A group of that many empty lists, each with a frame. Nothing was moved.
pub record OpensGroup (n : ℕ) (s t : RigState) (g : Writers) : Type 0 where
  pub sound : Sound t
  pub touches : Touches [] s t
  pub unmoved : Unmoved s t
  pub free : t.pool.free + n ≡ s.pool.free
  pub free_areas : t.pool.free_areas ≡ s.pool.free_areas
  pub peak : s.pool.peak ≤ t.pool.peak
  pub is : IsGroup t g
  pub members : members_in g ≡ empty_members n
  pub len : length g.words.items ≡ n

-- A group of empty lists, one for each list of a node with these strips.
pub record CanDeal (s : RigState) (zs : List Span) (g : Writers) : Type 0 where
  pub group : IsGroup s g
  pub strips : length zs ≤ 16
  pub members : members_in g ≡ empty_members (lists_of (length zs))

-- it has places for n records more
abbrev pub HasPlaces : ℕ → Member → Type 0
HasPlaces n x = (member_count x + n ≤ 2 ^ 56) × ((member_account x).blocks + n ≤ 2 ^ 56)

-- A group has a member for each list of a node of n strips, and each has places for so many records.
pub record HasMembers (n room : ℕ) (g : Writers) : Type 0 where
  pub strips : n ≤ 16
  pub len : length g.words.items ≡ lists_of n
  pub places : (j : ℕ) → j < length g.words.items → HasPlaces room (member_at g j)

-- the members are packed, and have few records
abbrev pub ArePacked : RigState → List Member → Type 0
ArePacked s [] = Unit {0}
ArePacked s (x ∷ xs) =
    ((IsTrue s.device.told → IsPackedMember s x) × (member_count x ≤ 2 ^ 40)) × ArePacked s xs

-- What n frames hold at first and m afterwards is out of the pool: the others are free as before.
pub record MovesFrames (n m : ℕ) (p q : PoolCounts) : Type 0 where
  pub shape : q.shape ≡ p.shape
  pub free : q.free + m ≡ p.free + n
  pub rack : q.rack_out ≡ p.rack_out
  pub free_areas : q.free_areas ≡ p.free_areas
  pub peak : p.peak ≤ q.peak

-- Appends of a piece to members gave up: some went well, and the next one was refused.
pub record StopsDealt (piece : Record) (places : List ℕ) (s t : RigState) (g : Writers)
    (fault : EmFault) : Type 0 where
  pub done : List ℕ
  pub rest : List ℕ
  pub split : places ≡ done ++ rest
  pub some : 0 < length rest
  pub mid : RigState
  pub group : Writers
  pub wrote : GroupWrote s mid g group (sent_places piece done)
  pub stops : StopsAppending mid t group fault

-- what appending a piece to members did, by the result
abbrev pub DealsTo : {T : Type 0} → Record → List ℕ → RigState → RigState → Writers → Writers
    → Result T EmFault → Type 0
DealsTo piece places s t g h (Ok x) = GroupWrote s t g h (sent_places piece places)
DealsTo piece places s t g h (Err fault) = StopsDealt piece places s t g fault

-- A reader that takes pieces, and a group with other blocks.
pub record DealsBeside (s : RigState) (r : Reader) (g : Writers) : Type 0 where
  pub reader : IsReader s r
  pub taking : r.taking ≡ true
  pub group : IsGroup s g
  pub apart : IsTrue s.device.told → Apart (chain_blocks s (rest_of r)) (group_blocks s g)

-- the blocks and the accounts of both
abbrev pub dealing_blocks : RigState → Reader → Writers → List ℕ
dealing_blocks s r g = chain_blocks s (rest_of r) ++ group_blocks s g

abbrev pub dealing_account : Reader → Writers → Account
dealing_account r g = both (taking_account r) (group_account g)

-- Pieces were read, and records sent to members.
pub record DealsSome (pieces : List Record) (sent : List Sent) (s t : RigState) (r q : Reader)
    (g h : Writers) : Type 0 where
  pub took : Took s t r q pieces
  pub is : IsGroup t h
  pub len : length h.words.items ≡ length g.words.items
  pub runs : Runs (r.blocks + (group_account h).blocks) (dealing_blocks s r g) (dealing_blocks t q h)
      (dealing_account r g) (dealing_account q h) s t
  pub members : (j : ℕ) → j < length g.words.items
      → MemberWrote s t (member_at g j) (member_at h j) (sent_to j sent)
  pub grows : (group_account g).blocks ≤ (group_account h).blocks
  pub filled_most : filled_of t (members_in h) ≤ filled_of s (members_in g) + length sent
  pub touched_most : touched_of (members_in h) ≤ touched_of (members_in g) + length sent

-- n pieces were read, and each was appended to its members.
pub record DealsPast (n : ℕ) (zs : List Span) (s t : RigState) (r q : Reader) (g h : Writers) : Type 0
  where
    pub pieces : List Record
    pub pieces_len : length pieces ≡ n
    pub deals : DealsSome pieces (sent_all zs pieces) s t r q g h

-- Such calls gave up: some went well, and the next read or append was refused. No more was sent than is
-- due of these pieces, if the device tells, and at most one record more for each of n pieces than there are
-- strips.
pub record StopsDealing (n : ℕ) (zs : List Span) (s t : RigState) (r : Reader) (g : Writers)
    (due : List Record) (fault : EmFault) : Type 0 where
  pub pieces : List Record
  pub sent : List Sent
  pub mid : RigState
  pub reader : Reader
  pub group : Writers
  pub deals : DealsSome pieces sent s mid r reader g group
  pub few : IsTrue s.device.told → length sent ≤ length (sent_all zs due)
  pub most : length sent ≤ n * (length zs + 1)
  pub stops : Stops (reader.blocks + (group_account group).blocks + 1)
      ((group_account group).paid + 3) ((group_account group).unstored + 1)
      (dealing_blocks mid reader group) (dealing_account reader group) mid t fault

-- what dealing n pieces did, by the result, of a reader with these left
abbrev pub DealsEachTo : {T : Type 0} → ℕ → List Span → RigState → RigState → Reader → Reader
    → Writers → Writers → List Record → Result T EmFault → Type 0
DealsEachTo n zs s t r q g h due (Ok x) = DealsPast n zs s t r q g h
DealsEachTo n zs s t r q g h due (Err fault) = StopsDealing n zs s t r g due fault

-- a chain of pieces that will be read and released, and a group
abbrev pub source_blocks : RigState → Chain → Writers → List ℕ
source_blocks s c g = chain_blocks s c ++ group_blocks s g

abbrev pub source_account : Chain → Writers → Account
source_account c g = both
    (record { blocks = c.blocks; unstored = 0; paid = 0; owed = 2 * c.blocks }) (group_account g)

-- All pieces of a chain were appended, each to its members, and the chain's blocks were released.
pub record DealsChain (zs : List Span) (s t : RigState) (c : Chain) (g h : Writers) : Type 0 where
  pub pieces : List Record
  pub pieces_len : length pieces ≡ c.count
  pub pieces_is : IsTrue s.device.told → pieces ≡ chain_items s c
  pub is : IsGroup t h
  pub len : length h.words.items ≡ length g.words.items
  pub runs : Runs (c.blocks + (group_account h).blocks) (source_blocks s c g) (group_blocks t h)
      (source_account c g) (group_account h) s t
  pub members : (j : ℕ) → j < length g.words.items
      → MemberWrote s t (member_at g j) (member_at h j) (sent_to j (sent_all zs pieces))
  pub filled_most : filled_of t (members_in h)
      ≤ filled_of s (members_in g) + length (sent_all zs pieces)

-- It gave up: the group had at most as many blocks as these records fill, and one for each member.
pub record StopsChain (zs : List Span) (s t : RigState) (c : Chain) (g : Writers) (fault : EmFault)
    : Type 0 where
  pub sent : ℕ
  pub few : IsTrue s.device.told → sent ≤ length (sent_all zs (chain_items s c))
  pub stops : Stops (c.blocks + ceiling sent (payload_in s) + lists_of (length zs) + 1)
      (2 * ceiling sent (payload_in s) + 3 * lists_of (length zs) + 3) (lists_of (length zs) + 1)
      (source_blocks s c g) (source_account c g) s t fault

abbrev pub DealsChainTo : {T : Type 0} → List Span → RigState → RigState → Chain → Writers → Writers
    → Result T EmFault → Type 0
DealsChainTo zs s t c g h (Ok x) = DealsChain zs s t c g h
DealsChainTo zs s t c g h (Err fault) = StopsChain zs s t c g fault

-- The last members of a group became these chains.
pub record TakesLists (n : ℕ) (s t : RigState) (g h : Writers) (lists : List Chain) : Type 0 where
  pub gone : List Member
  pub split : members_in g ≡ members_in h ++ gone
  pub len : length lists ≡ n
  pub left : length h.words.items + n ≡ length g.words.items
  pub is : IsGroup t h
  pub are : AreChains t lists
  pub items : IsTrue s.device.told → chains_lists t lists ≡ map (member_items s) gone
  pub blocks : chains_held lists ≡ (account_of gone).blocks
  pub stay : (j : ℕ) → j < length h.words.items → MemberStays s t (member_at h j)
  pub session : Session (group_blocks s g) s t (group_blocks t h ++ chains_blocks t lists)
  pub spends : Spends (group_account g).blocks (group_account g)
      (both (group_account h) (record {
        blocks = chains_held lists;
        unstored = 0;
        paid = 2 * chains_held lists + 2 * (account_of gone).unstored;
        owed = 0;
      })) s t

-- It gave up.
pub record StopsTaking (s t : RigState) (g : Writers) (fault : EmFault) : Type 0 where
  pub sound : Sound t
  pub touches : Touches (group_blocks s g) s t
  pub halts : Halts (group_account g).blocks
      ((group_account g).paid + (group_account g).unstored + 1) (group_account g).unstored
      (group_account g) s t fault
  pub cause : Cause s t fault

abbrev pub TakesListsTo : ℕ → RigState → RigState → Writers → Writers
    → Result (ArrayVec Listed) EmFault → Type 0
TakesListsTo n s t g h (Ok lists) = TakesLists n s t g h (chains_in lists.items)
TakesListsTo n s t g h (Err fault) = StopsTaking s t g fault

-- the chains of a node's lists
abbrev pub down_in : Lists → List Chain
down_in l = chains_in l.down.items

abbrev pub slabs_in : Lists → List Chain
slabs_in l = chains_in l.slabs.items

-- their blocks, and how many they are
abbrev pub lists_blocks : RigState → Lists → List ℕ
lists_blocks s l = chains_blocks s (down_in l) ++ chains_blocks s (slabs_in l)

abbrev pub lists_held : Lists → ℕ
lists_held l = chains_held (down_in l) + chains_held (slabs_in l)

-- Each list of a node with these strips has the pieces that belong there, in their order.
pub record HasLists (zs : List Span) (s t : RigState) (pieces : Chain) (lists : Lists) : Type 0 where
  pub down_are : AreChains t (down_in lists)
  pub slabs_are : AreChains t (slabs_in lists)
  pub down_len : length lists.down.items ≡ length zs
  pub slabs_len : length lists.slabs.items ≡ length (slabs_from 0 (length zs))
  pub down_is : IsTrue s.device.told
      → chains_lists t (down_in lists) ≡ down_lists zs (chain_items s pieces)
  pub slabs_is : IsTrue s.device.told
      → chains_lists t (slabs_in lists) ≡ slab_lists zs (chain_items s pieces)

-- the moves of dealing: pieces are read and released, their lists written, and for each list a block more
-- is stored
abbrev pub dealing_moves : List Span → Chain → Lists → ℕ
dealing_moves zs pieces lists = 2 * pieces.blocks + 2 * lists_held lists + 2 * lists_of (length zs)

-- Pieces were dealt to a group, whose members became the lists.
pub record GroupDeals (zs : List Span) (s t : RigState) (pieces : Chain) (lists : Lists) : Type 0 where
  pub has : HasLists zs s t pieces lists
  pub session : Session (chain_blocks s pieces) s t (lists_blocks t lists)
  pub spends : Spends (pieces.blocks + lists_held lists) (stored pieces.blocks)
      (moved (dealing_moves zs pieces lists) (stored (lists_held lists))) s t

-- as many blocks as the lists may have: one for each, and as many as their records fill
pub record ListsRoom (zs : List Span) (s : RigState) (pieces : Chain) (room : ℕ) : Type 0 where
  pub few : IsTrue s.device.told
      → room ≤ ceiling (length (sent_all zs (chain_items s pieces))) (payload_in s)
      + lists_of (length zs)

-- It gave up.
pub record StopsGroup (zs : List Span) (s t : RigState) (pieces : Chain) (fault : EmFault) : Type 0
  where
    pub room : ℕ
    pub few : ListsRoom zs s pieces room
    pub sound : Sound t
    pub touches : Touches (chain_blocks s pieces) s t
    pub halts : Halts (pieces.blocks + room + 1)
        (2 * pieces.blocks + 2 * room + 2 * lists_of (length zs) + 4) (others_unstored s)
        (stored pieces.blocks) s t fault
    pub cause : Cause s t fault

abbrev pub GroupDealsTo : List Span → RigState → RigState → Chain → Result Lists EmFault → Type 0
GroupDealsTo zs s t pieces (Ok lists) = GroupDeals zs s t pieces lists
GroupDealsTo zs s t pieces (Err fault) = StopsGroup zs s t pieces fault

-- Pieces were dealt to the lists of a node with these strips, and their blocks were released.
pub record Deals (zs : List Span) (s t : RigState) (pieces : Chain) (lists : Lists) : Type 0 where
  pub has : HasLists zs s t pieces lists
  pub shifts : Shifts (pieces.blocks + lists_held lists) (dealing_moves zs pieces lists)
      (chain_blocks s pieces) (lists_blocks t lists) pieces.blocks (lists_held lists) s t

-- It gave up.
pub record StopsDeals (zs : List Span) (s t : RigState) (pieces : Chain) (fault : EmFault) : Type 0
  where
    pub room : ℕ
    pub few : ListsRoom zs s pieces room
    pub stops : StopsShifting (pieces.blocks + room + 1)
        (2 * pieces.blocks + 2 * room + 2 * lists_of (length zs) + 4) (chain_blocks s pieces)
        pieces.blocks s t fault

abbrev pub DealsAllTo : List Span → RigState → RigState → Chain → Result Lists EmFault → Type 0
DealsAllTo zs s t pieces (Ok lists) = Deals zs s t pieces lists
DealsAllTo zs s t pieces (Err fault) = StopsDeals zs s t pieces fault
