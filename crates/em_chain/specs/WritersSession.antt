-- What appends to members of a group did, one after another.
use Rattle.std.specs.Prelude.{◌≡◌, ℕ, ◌+◌, ◌<◌, ◌≤◌, Bool, true, false, List, [], ◌∷◌, length}
use Rattle.std.proofs.Math.Dec.{eqb}
use Rattle.em_record.specs.declared.record.Record.{Record}
use Rattle.em_space.specs.Ledger.{Runs}
use Rattle.em_space.specs.Rig.{RigState}
use Rattle.em_chain.specs.Writers.{IsGroup, MemberWrote, group_account, group_blocks, filled_of, member_at, members_in, touched_of}
use Rattle.em_chain.specs.declared.writers.Writers.{Writers}

-- a record for the member of this number
pub record Sent : Type 0 where
  pub to : ℕ
  pub item : Record

abbrev pub sent_if : Bool → Record → List Record → List Record
sent_if true x xs = x ∷ xs
sent_if false x xs = xs

-- the records for one member, in their order
abbrev pub sent_to : ℕ → List Sent → List Record
sent_to j [] = []
sent_to j (y ∷ ys) = sent_if (eqb j y.to) y.item (sent_to j ys)

-- These records were appended, each to its member.
pub record GroupWrote (s t : RigState) (g h : Writers) (xs : List Sent) : Type 0 where
  pub runs : Runs (group_account h).blocks (group_blocks s g) (group_blocks t h) (group_account g)
      (group_account h) s t
  pub is : IsGroup t h
  pub len : length h.words.items ≡ length g.words.items
  pub members : (j : ℕ) → j < length g.words.items
      → MemberWrote s t (member_at g j) (member_at h j) (sent_to j xs)
  pub grows : (group_account g).blocks ≤ (group_account h).blocks
  pub filled_most : filled_of t (members_in h) ≤ filled_of s (members_in g) + length xs
  pub touched_most : touched_of (members_in h) ≤ touched_of (members_in g) + length xs
