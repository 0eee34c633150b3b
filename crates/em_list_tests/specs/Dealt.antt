-- Records that are dealt to the members of a group.
use Rattle.std.specs.Prelude.{◌≡◌, ℕ, ◌+◌, ◌%◌, ◌^◌, ◌<◌, ◌≤◌, List, [], map, length, true}
use Rattle.em_record.specs.declared.record.Record.{Record}
use Rattle.em_frames.specs.Pool.{PoolCounts}
use Rattle.em_space.specs.Rig.{RigState, Sound, Touches}
use Rattle.em_chain.specs.Writers.{IsGroup, member_account, member_at, member_count}
use Rattle.em_chain.specs.WritersSession.{Sent}
use Rattle.em_chain.specs.declared.writers.Writers.{Writers}

-- a record goes to a member by its word a
abbrev pub dealt_one : ℕ → Record → Sent
dealt_one n x = record { to = x.a % n; item = x }

abbrev pub dealt : ℕ → List Record → List Sent
dealt n xs = map (dealt_one n) xs

-- each member has at most this many records, and at most this many blocks
pub record HasFew (most : ℕ) (g : Writers) : Type 0 where
  pub count : (j : ℕ) → j < length g.words.items → member_count (member_at g j) ≤ most
  pub blocks : (j : ℕ) → j < length g.words.items → (member_account (member_at g j)).blocks ≤ most

-- This many more frames are free as members were taken out.
pub record FreesFrames (p q : PoolCounts) (g h : Writers) : Type 0 where
  pub shape : q.shape ≡ p.shape
  pub free : q.free + length h.words.items ≡ p.free + length g.words.items
  pub rack : q.rack_out ≡ p.rack_out
  pub free_areas : q.free_areas ≡ p.free_areas
  pub peak : p.peak ≤ q.peak

-- A new group of three lists, which has three frames and the rack.
pub record HoldsThree (s t : RigState) (g : Writers) : Type 0 where
  pub sound : Sound t
  pub touches : Touches [] s t
  pub is : IsGroup t g
  pub few : HasFew (2 ^ 20) g
  pub len : length g.words.items ≡ 3
  pub free : t.pool.free + 3 ≡ s.pool.free
  pub rack : t.pool.rack_out ≡ true
  pub free_areas : t.pool.free_areas ≡ s.pool.free_areas
  pub peak : s.pool.peak ≤ t.pool.peak
