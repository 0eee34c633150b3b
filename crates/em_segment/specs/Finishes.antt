-- The end of an interval list.
use Rattle.std.specs.Prelude.{◌≡◌, false, ℕ, ◌+◌, ◌*◌, ◌<◌, ◌≤◌, ◌^◌, ◌⊎◌, max, List, ◌++◌, length, map, IfErr, IfOk, IfSome, IsTrue, Result, Ok, Err}
use Rattle.em_record.specs.Cost.{blocks_of}
use Rattle.em_record.specs.Order.{IsAscending}
use Rattle.em_record.specs.Shape.{ShapeNumbers, fan_of}
use Rattle.em_frames.specs.Pool.{GivenFrames, PoolCounts, singles_of}
use Rattle.em_model.specs.Ascending.{Ascend}
use Rattle.em_model.specs.Stab.{NumberedInterval}
use Rattle.em_model.specs.StabAnswers.{stab_pairs}
use Rattle.em_model.specs.declared.command.Command.{Command}
use Rattle.em_space.specs.Held.{Holds}
use Rattle.em_space.specs.Ledger.{Halts, Runs, Session, Spends, Stops, both, moved}
use Rattle.em_space.specs.Queue.{CanServe, Ends, Leaves, Pays, QueueCounts, ending_most}
use Rattle.em_space.specs.Rig.{Cause, IfFull, RigState, Sound, Touches}
use Rattle.em_space.specs.declared.fault.EmFault.{EmFault}
use Rattle.em_space.specs.declared.queue.Queue.{Ghosts as QueueGhosts}
use Rattle.em_chain.specs.Chain.{IsChain, IsPacked, chain_blocks, chain_items, empty_chain, payload_in}
use Rattle.em_chain.specs.Counts.{ceiling}
use Rattle.em_chain.specs.Session.{chain_account}
use Rattle.em_chain.specs.Writer.{writer_items}
use Rattle.em_chain.specs.declared.chain.Chain.{Chain}
use Rattle.em_tree_cost.specs.Shares.{floors_of, queue_share, stab_room, stab_share}
use Rattle.em_segment_model.specs.Alike.{Alike}
use Rattle.em_segment_model.specs.Points.{interval_in}
use Rattle.em_segment_parts.specs.Accounts.{stored}
use Rattle.em_segment.specs.Answers.{WithinCall, call_blocks, due}
use Rattle.em_segment_parts.specs.Chains.{IsPackedChain}
use Rattle.em_segment_parts.specs.Reports.{unstored_most}
use Rattle.em_segment.specs.Stabs.{HasCommands, stab_account, stab_blocks, stab_size}
use Rattle.em_segment.specs.declared.stab.Stab.{Stab}

-- What the end wants: a queue with no item, of which few calls came, and the frames of one of its calls. The
-- queue's frames and the two of the list are out.
pub record CanFinish {Q : Type 0} (q : QueueGhosts Q) (x : Q) (s : RigState) (v : Stab) : Type 0 where
  pub empty : (q.counts x).len ≡ 0
  pub few : (q.counts x).n ≤ 2 ^ 99
  pub free : CanServe s.pool
  pub out : s.pool.free + (q.counts x).frames + 2 ≤ singles_of s.pool.shape
  pub holds : IsTrue s.device.told → Holds s (q.blocks x s ++ stab_blocks s v)

-- The frames of a queue and two more came back.
pub record GivesAll (c : QueueCounts) (p q : PoolCounts) : Type 0 where
  pub shape : q.shape ≡ p.shape
  pub free : q.free ≡ p.free + c.frames + 2
  pub areas : q.free_areas ≡ p.free_areas + c.areas
  pub rack : q.rack_out ≡ p.rack_out
  pub peak : p.peak ≤ q.peak

-- What the pool has free and what a queue holds are n more together than before.
pub record SharesMore (n : ℕ) (c d : QueueCounts) (p q : PoolCounts) : Type 0 where
  pub shape : q.shape ≡ p.shape
  pub free : q.free + d.frames ≡ p.free + c.frames + n
  pub areas : q.free_areas + d.areas ≡ p.free_areas + c.areas
  pub rack : q.rack_out ≡ p.rack_out
  pub peak : p.peak ≤ q.peak

-- All stabs were answered by a chain of pairs.
pub record FinishedStab {Q : Type 0} (q : QueueGhosts Q) (x : Q) (s t : RigState) (v : Stab)
    (c : Chain) : Type 0 where
  pub chain : IsChain t c
  pub packed : IsTrue s.device.told → IsPacked t c
  pub answers : IsTrue s.device.told → (cs : List Command) → HasCommands s v cs
      → chain_items t c ≡ stab_pairs cs
  pub session : Session (q.blocks x s ++ stab_blocks s v) s t (chain_blocks t c)
  pub frames : GivesAll (q.counts x) s.pool t.pool
  pub used : t.used + ((q.counts x).blocks + (stab_account v).blocks) ≡ s.used + c.blocks
  pub pays : Pays ((q.counts x).unstored + (stab_account v).unstored) 0 s t

-- It gave up. All frames are back.
pub record StopsFinish {Q : Type 0} (q : QueueGhosts Q) (x : Q) (s t : RigState) (v : Stab)
    (fault : EmFault) : Type 0 where
  pub sound : Sound t
  pub touches : Touches (q.blocks x s ++ stab_blocks s v) s t
  pub frames : GivesAll (q.counts x) s.pool t.pool
  pub pays : Pays ((q.counts x).unstored + (stab_account v).unstored) (s.pool.shape.frames + 1) s t
  pub cause : Cause s t fault

abbrev pub FinishesTo : {Q : Type 0} → QueueGhosts Q → Q → RigState → RigState → Stab
    → Result Chain EmFault → Type 0
FinishesTo q x s t v (Ok c) = FinishedStab q x s t v c
FinishesTo q x s t v (Err fault) = StopsFinish q x s t v fault

-- the moves of a segment tree of n calls and pairs beside those of its queue
abbrev pub own_share : ShapeNumbers → ℕ → ℕ
own_share shape n = 480 * (blocks_of shape n + 1) * floors_of shape n

-- The numbers of a queue that was ended or given up, from its last moment on.
pub record QueueWas {Q : Type 0} (q : QueueGhosts Q) (last : Q) (then_is t : RigState) : Type 0 where
  pub frames : q.HasItsFrames last then_is
  pub gone : Ends q.allowance q.room (q.blocks last then_is) (q.counts last) then_is t
      ⊎ Leaves (q.counts last) then_is t

-- Nothing is asked: no stab came, or no interval.
abbrev pub AsksNothing : Stab → Type 0
AsksNothing v = (v.stabs.count ≡ 0) ⊎ (v.intervals.count ≡ 0)

-- What it cost, over a device that tells, at every exit: n commands and pairs.
pub record StabCosts {Q : Type 0} (q : QueueGhosts Q) (x : Q) (s t : RigState) (v : Stab)
    (cs : List Command) : Type 0 where
  pub last : Q
  pub then_is : RigState
  pub was : QueueWas q last then_is t
  -- where nothing is asked, the queue was only ended
  pub uncalled : AsksNothing v → last ≡ x
  -- two calls for each stab, and two for each pair
  pub calls : (q.counts last).n
      ≤ (q.counts x).n + 2 * (v.stabs.count + length (stab_pairs cs))
  pub most_calls : (q.counts last).k
      ≤ max (q.counts x).k (2 * max v.stabs.count (length (stab_pairs cs)))
  -- beside the moves of the queue
  pub own : then_is.moves + (q.counts x).spent + (stab_account v).paid
      ≤ s.moves + (q.counts last).spent + own_share s.pool.shape (stab_size v cs)
  -- with those of a queue that is new and moves no more than a queue's share
  pub share : IfSome q.allowance (λ f.
      ((shape : ShapeNumbers) (n k : ℕ) → f shape n k ≤ queue_share shape n k)
      → (q.counts x).n ≡ 0
      → t.moves + (q.counts x).spent + (stab_account v).paid
      ≤ s.moves + stab_share s.pool.shape (stab_size v cs))
  pub most : t.most + ((q.counts x).blocks + (stab_account v).blocks)
      ≤ max (s.most + ((q.counts x).blocks + (stab_account v).blocks))
      (s.used + (ending_most q.room s.pool.shape (q.counts last)
      + stab_room s.pool.shape (stab_size v cs)))
  -- with the blocks of a queue that is new and states its room
  pub room : IfSome q.room (λ f. (q.counts x).n ≡ 0
      → t.most + ((q.counts x).blocks + (stab_account v).blocks)
      ≤ max (s.most + ((q.counts x).blocks + (stab_account v).blocks))
      (s.used + (f s.pool.shape (4 * stab_size v cs) + stab_room s.pool.shape (stab_size v cs))))

-- It says that the device is full only if the room that is stated for it and its queue is more than all
-- blocks.
abbrev pub FullIfSmall : {Q : Type 0} → QueueGhosts Q → Q → RigState → Stab → List Command
    → Result Chain EmFault → Type 0
FullIfSmall q x s v cs result = IfErr result (λ fault. IfFull fault (λ used.
    IfSome q.room (λ f. (q.counts x).n ≡ 0
    → used + ((q.counts x).blocks + (stab_account v).blocks)
    < s.used + (f s.pool.shape (4 * stab_size v cs) + stab_room s.pool.shape (stab_size v cs)))))

-- Where nothing is asked, the queue isn't called before its end, no block is needed, and no pair is found.
pub record FindsNothing {Q : Type 0} (x y : Q) (result : Result Chain EmFault) : Type 0 where
  pub queue : y ≡ x
  pub empty : IfOk result (λ c. c ≡ empty_chain)
  pub never : IfErr result (λ fault. IfFull fault (λ used. ⊥))

-- Where nothing is asked, only the queue's end can be full: with the list's blocks released, fewer are free
-- than the queue asks.
abbrev pub FullIfAsked : {Q : Type 0} → QueueGhosts Q → Q → RigState → Stab → Result Chain EmFault
    → Type 0
FullIfAsked q x s v result = IfErr result (λ fault. IfFull fault (λ used. AsksNothing v
    → used + (stab_account v).blocks < s.used + q.enough s.pool.shape (q.counts x)))

-- Both lists of an interval list became chains.
pub record ClosesBoth (s t : RigState) (v : Stab) (pieces points : Chain) : Type 0 where
  pub pieces_are : IsPackedChain t pieces
  pub points_are : IsPackedChain t points
  pub pieces_items : IsTrue s.device.told → chain_items t pieces ≡ writer_items s v.intervals
  pub points_items : IsTrue s.device.told → chain_items t points ≡ writer_items s v.stabs
  pub pieces_count : pieces.count ≡ v.intervals.count
  pub points_count : points.count ≡ v.stabs.count
  pub pieces_blocks : pieces.blocks ≡ v.intervals.blocks
  pub points_blocks : points.blocks ≡ v.stabs.blocks
  pub session : Session (stab_blocks s v) s t (call_blocks t points pieces)
  pub frames : GivenFrames 2 s.pool t.pool
  pub spends : Spends (stab_account v).blocks (stab_account v)
      (both (chain_account 1 pieces) (chain_account 1 points)) s t

-- It gave up. The two frames are back.
pub record StopsClosing (s t : RigState) (v : Stab) (fault : EmFault) : Type 0 where
  pub sound : Sound t
  pub touches : Touches (stab_blocks s v) s t
  pub frames : GivenFrames 2 s.pool t.pool
  pub halts : Halts (stab_account v).blocks ((stab_account v).paid + 2) 2 (stab_account v) s t fault
  pub cause : Cause s t fault

abbrev pub ClosesTo : RigState → RigState → Stab → Result (Chain × Chain) EmFault → Type 0
ClosesTo s t v (Ok c) = ClosesBoth s t v c.0 c.1
ClosesTo s t v (Err fault) = StopsClosing s t v fault

-- What finding all pairs of points and pieces wants: one frame more than a call of the recursion.
pub record CanReportAll (s : RigState) (points pieces : Chain) : Type 0 where
  pub sound : Sound s
  pub points_are : IsPackedChain s points
  pub pieces_are : IsPackedChain s pieces
  pub singles : 2 * fan_of s.pool.shape + 5 ≤ s.pool.free
  pub areas : 1 ≤ s.pool.free_areas
  pub rack : s.pool.rack_out ≡ false
  pub blocks : IsTrue s.device.told → Holds s (call_blocks s points pieces)
  pub ordered : IsTrue s.device.told → IsAscending (chain_items s points)
  pub numbered : IsTrue s.device.told
      → Ascend (λ (i : NumberedInterval). i.number) 0 (map interval_in (chain_items s pieces)) (2 ^ 40)

-- All pairs, in any order, in a chain.
pub record ReportsAll (s t : RigState) (points pieces c : Chain) : Type 0 where
  pub is : IsChain t c
  pub packed : IsTrue s.device.told → IsPacked t c
  pub few : c.count < 2 ^ 56
  pub alike : IsTrue s.device.told → Alike (chain_items t c) (due s points pieces)
  pub peak : ℕ
  pub extra : ℕ
  pub runs : Runs (peak + c.blocks) (call_blocks s points pieces) (chain_blocks t c)
      (stored (points.blocks + pieces.blocks)) (moved extra (chain_account 1 c)) s t
  pub within : IsTrue s.device.told → WithinCall s points pieces peak extra

-- It gave up. If the device tells, no more pairs were tried than are due.
pub record StopsReportingAll (s t : RigState) (points pieces : Chain) (fault : EmFault) : Type 0 where
  pub peak : ℕ
  pub extra : ℕ
  pub tried : ℕ
  pub few : IsTrue s.device.told → tried ≤ length (due s points pieces)
  pub stops : Stops (peak + ceiling tried (payload_in s))
      (2 * ceiling tried (payload_in s) + extra + 1) (unstored_most s) (call_blocks s points pieces)
      (stored (points.blocks + pieces.blocks)) s t fault
  pub within : IsTrue s.device.told → WithinCall s points pieces peak extra

abbrev pub ReportsAllTo : RigState → RigState → Chain → Chain → Result Chain EmFault → Type 0
ReportsAllTo s t points pieces (Ok c) = ReportsAll s t points pieces c
ReportsAllTo s t points pieces (Err fault) = StopsReportingAll s t points pieces fault

-- All stabs were answered, by a queue that has no item then.
pub record AnswersStabs {Q : Type 0} (q : QueueGhosts Q) (x y : Q) (s t : RigState) (v : Stab)
    (c : Chain) : Type 0 where
  pub chain : IsChain t c
  pub packed : IsTrue s.device.told → IsPacked t c
  pub answers : IsTrue s.device.told → (cs : List Command) → HasCommands s v cs
      → chain_items t c ≡ stab_pairs cs
  pub empty : (q.counts y).len ≡ 0
  pub session : Session (q.blocks x s ++ stab_blocks s v) s t (q.blocks y t ++ chain_blocks t c)
  pub frames : GivenFrames 2 s.pool t.pool
  pub frames_are : (q.counts y).frames ≡ (q.counts x).frames
  pub areas_are : (q.counts y).areas ≡ (q.counts x).areas
  pub used : t.used + ((q.counts x).blocks + (stab_account v).blocks)
      ≡ s.used + ((q.counts y).blocks + c.blocks)
  pub pays : Pays ((q.counts x).unstored + (stab_account v).unstored) (q.counts y).unstored s t

-- It gave up: all frames are back but the queue's.
pub record StopsStabs {Q : Type 0} (q : QueueGhosts Q) (x y : Q) (s t : RigState) (v : Stab)
    (fault : EmFault) : Type 0 where
  pub sound : Sound t
  pub touches : Touches (q.blocks x s ++ stab_blocks s v) s t
  pub frames : SharesMore 2 (q.counts x) (q.counts y) s.pool t.pool
  pub pays : Pays ((q.counts x).unstored + (stab_account v).unstored) (s.pool.shape.frames + 1) s t
  pub cause : Cause s t fault

abbrev pub AnswersStabsTo : {Q : Type 0} → QueueGhosts Q → Q → Q → RigState → RigState → Stab
    → Result Chain EmFault → Type 0
AnswersStabsTo q x y s t v (Ok c) = AnswersStabs q x y s t v c
AnswersStabsTo q x y s t v (Err fault) = StopsStabs q x y s t v fault

-- What that cost at every exit, over a device that tells: n commands and pairs.
pub record StabsCost {Q : Type 0} (q : QueueGhosts Q) (x y : Q) (s t : RigState) (v : Stab)
    (cs : List Command) : Type 0 where
  pub calls : (q.counts y).n ≤ (q.counts x).n + 2 * (v.stabs.count + length (stab_pairs cs))
  pub most_calls : (q.counts y).k
      ≤ max (q.counts x).k (2 * max v.stabs.count (length (stab_pairs cs)))
  pub own : t.moves + (q.counts x).spent + (stab_account v).paid
      ≤ s.moves + (q.counts y).spent + own_share s.pool.shape (stab_size v cs)
  pub most : t.most + ((q.counts x).blocks + (stab_account v).blocks)
      ≤ max (s.most + ((q.counts x).blocks + (stab_account v).blocks))
      (s.used + ((q.counts y).most + stab_room s.pool.shape (stab_size v cs)))
