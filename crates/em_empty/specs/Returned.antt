-- The members of a group that go back into the buffers of a node's entries, from the last one on.
use Rattle.std.specs.Prelude.{◌≡◌, ℕ, ◌+◌, ◌*◌, ◌<◌, ◌≤◌, List, [], ◌∷◌, ◌++◌, length, get_or, set, take, drop, IsTrue, Result, Ok, Err}
use Rattle.em_record.specs.declared.record.Record.{Record}
use Rattle.em_frames.specs.Pool.{PoolCounts}
use Rattle.em_space.specs.Ledger.{Account, both, Spends, Halts, Session}
use Rattle.em_space.specs.Rig.{RigState, Sound, Touches, Cause}
use Rattle.em_space.specs.declared.fault.EmFault.{EmFault}
use Rattle.em_chain.specs.Chain.{IsChain, IsPacked, IsTight, chain_items}
use Rattle.em_chain.specs.Writers.{IsGroup, IsPackedMember, IsTightMember, Member, MemberStays, TakeSpends, TakesLast, account_of, group_account, group_blocks, member_account, member_at, member_items, members_in}
use Rattle.em_chain.specs.declared.chain.Chain.{Chain}
use Rattle.em_chain.specs.declared.writers.Writers.{Writers}
use Rattle.em_node.specs.declared.entry.Entry.{Entry}
use Rattle.em_node.specs.Node.{Is, entries_of, level_of, no_entry}
use Rattle.em_tree_blocks.specs.Node.{buffer_of}
use Rattle.em_empty.specs.Node.{SameLinks, buffer_blocks, with_buffer}

-- What n frames hold at first and m afterwards is out of the pool: the others are free as before.
pub record MovesFrames (n m : ℕ) (p q : PoolCounts) : Type 0 where
  pub shape : q.shape ≡ p.shape
  pub free : q.free + m ≡ p.free + n
  pub rack : q.rack_out ≡ p.rack_out
  pub free_areas : q.free_areas ≡ p.free_areas
  pub peak : p.peak ≤ q.peak

-- A member became a chain with the same records, packed or tight if it was.
pub record TurnsInto (s t : RigState) (x : Member) (c : Chain) : Type 0 where
  pub is : IsChain t c
  pub blocks : c.blocks ≡ (member_account x).blocks
  pub items : IsTrue s.device.told → chain_items t c ≡ member_items s x
  pub packed : IsTrue s.device.told → IsPackedMember s x → IsPacked t c
  pub tight : IsTrue s.device.told → IsTightMember s x → IsTight t c

-- these members became the buffers of these entries
abbrev pub TurnInto : RigState → RigState → List Member → List Entry → Type 0
TurnInto s t [] [] = Unit {0}
TurnInto s t [] (f ∷ fs) = ⊥
TurnInto s t (x ∷ xs) [] = ⊥
TurnInto s t (x ∷ xs) (f ∷ fs) = TurnsInto s t x (buffer_of f) × TurnInto s t xs fs

-- chains that members became, by the account of the members: what wasn't stored is
abbrev pub ended_account : Account → Account
ended_account a =
    record { blocks = a.blocks; unstored = 0; paid = 2 * a.blocks + 2 * a.unstored; owed = 0 }

-- The last members of a group became the buffers of the last entries of a node.
pub record Returned (s t : RigState) (g h : Writers) (b c : List Record) : Type 0 where
  pub done : List Entry
  pub gone : List Member
  pub split : members_in g ≡ members_in h ++ gone
  pub is : IsGroup t h
  pub node : Is c (level_of b) (take (length h.words.items) (entries_of b) ++ done)
  pub len : length c ≡ length b
  pub links : SameLinks (drop (length h.words.items) (entries_of b)) done
  pub ends : TurnInto s t gone done
  pub stay : (j : ℕ) → j < length h.words.items → MemberStays s t (member_at h j)
  pub session : Session (group_blocks s g) s t (group_blocks t h ++ buffer_blocks t done)
  pub spends : Spends (group_account g).blocks (group_account g)
      (both (group_account h) (ended_account (account_of gone))) s t

-- Calls gave up while members of a group went back.
pub record StopsReturning (s t : RigState) (g : Writers) (fault : EmFault) : Type 0 where
  pub sound : Sound t
  pub touches : Touches (group_blocks s g) s t
  pub halts : Halts (group_account g).blocks
      ((group_account g).paid + (group_account g).unstored + 1) (group_account g).unstored
      (group_account g) s t fault
  pub cause : Cause s t fault

-- what returning this many members did, by its result
abbrev pub ReturnsTo : {T : Type 0} → ℕ → RigState → RigState → Writers → Writers → List Record
    → List Record → Result T EmFault → Type 0
ReturnsTo n s t g h b c (Ok x) =
    Returned s t g h b c × (length g.words.items ≡ length h.words.items + n)
ReturnsTo n s t g h b c (Err fault) = StopsReturning s t g fault

-- The last member became the buffer of its entry.
pub record ReturnsLast (s t : RigState) (g h : Writers) (b c : List Record) : Type 0 where
  pub chain : Chain
  pub len : length g.words.items ≡ length h.words.items + 1
  pub takes : TakesLast s t g h chain
  pub spends : TakeSpends s t g h (Ok chain)
  pub node : Is c (level_of b) (set (entries_of b) (length h.words.items)
      (with_buffer (get_or (entries_of b) (length h.words.items) no_entry) chain))

-- the same by the result
abbrev pub ReturnsOne : {T : Type 0} → RigState → RigState → Writers → Writers → List Record
    → List Record → Result T EmFault → Type 0
ReturnsOne s t g h b c (Ok x) = ReturnsLast s t g h b c
ReturnsOne s t g h b c (Err fault) = StopsReturning s t g fault
