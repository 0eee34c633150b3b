-- A drain is ended: its area goes back, its tree is finished, and the answers are discarded.
use Rattle.std.specs.Prelude.{◌≡◌, ℕ, ◌+◌, ◌-◌, ◌<◌, ◌≤◌, List, [], length, IsTrue, Option, IfErr, IsErrAnd, Result, Ok, Err}
use Rattle.std.proofs.Common.{sym, ap, subst, ◌∙◌, arith}
use Rattle.std.proofs.lemmas.List.Sorted.{length_permutation}
use Rattle.em_record.specs.Shape.{ShapeNumbers, payload_of}
use Rattle.em_record.specs.declared.record.Record.{Record}
use Rattle.em_frames.specs.Pool.{GivenFrames, PoolCounts, given_area, singles_of}
use Rattle.em_settle.specs.declared.step.Step.{Step}
use Rattle.em_space.specs.Ledger.{Session}
use Rattle.em_space.specs.Queue.{Pays}
use Rattle.em_space.specs.Rig.{BlockCause, Goes, IfFull, RigState, Sound, Touches}
use Rattle.em_space.specs.declared.fault.EmFault.{EmFault}
use Rattle.em_space.proofs.Held.{apart_none}
use Rattle.em_space.proofs.Ledgers.{full_by, full_never}
use Rattle.em_space.proofs.Paying.{pays_kept, pays_more, pays_then}
use Rattle.em_space.proofs.Sessions.{session_as, session_still, session_trans}
use Rattle.em_space.proofs.Steps.{block_cause, cause_after, touches_trans}
use Rattle.em_chain.specs.Chain.{chain_blocks, chain_items}
use Rattle.em_chain.specs.Counts.{ceiling}
use Rattle.em_chain.specs.Row.{Frees}
use Rattle.em_chain.specs.declared.chain.Chain.{Chain}
use Rattle.em_chain.proofs.Counts.{packed_blocks}
use Rattle.em_chain.proofs.Readers.{length_items}
use Rattle.em_tree_cost.specs.Shares.{tree_room, tree_share}
use Rattle.em_tree_model.specs.Meaning.{tree_answers}
use Rattle.em_tree_model.specs.Tree.{Tree}
use Rattle.em_tree_raise.proofs.Listings.{of_error}
use Rattle.em_trunk.specs.Room.{FullOverRoom, WithinRoom}
use Rattle.em_trunk.specs.Trunk.{TrunkHasFrames, given_by, model_of, trunk_blocks, trunk_unstored}
use Rattle.em_trunk.specs.declared.trunk.Trunk.{Trunk}
use Rattle.em_trunk.proofs.Stays.{TrunkStays, trunk_stays}
use Rattle.em_tree.specs.Calls.{FinishCosts, FinishedTrunk, StopsFinishing}
use Rattle.em_tree.specs.Finishing.{FullIfUsed}
use Rattle.em_bulk.specs.Draining.{DrainsTo, EndCosts, EndsDrain, GivenDrain, IsDrain, answers_due, drain_blocks, drain_unstored, trunk_of}
use Rattle.em_bulk.specs.declared.drain.Drain.{Drain}
use Rattle.em_bulk.proofs.DrainNumbers.{resets_most, tree_share_rises}

-- The area went back.
pub record GaveArea (s a : RigState) : Type 0 where
  pub sound : Sound a
  pub touches : Touches [] s a
  pub given : a ≡ record s { pool = given_area s.pool }

-- All clauses of `end`.
pub record EndSays {S : Type 0} (key : Record → Record) (step : Option Record → Record → Step) (s u : RigState)
    (d : Drain S) (r : Result (Unit {0}) EmFault) : Type 0 where
  pub ends : EndsDrain s u d r
  pub full : FullIfUsed (trunk_of d) r
  pub costs : EndCosts key step s u d
  pub room : IsTrue s.device.told → WithinRoom (trunk_of d).longest s u (trunk_of d)
  pub over : IfErr r (λ fault. IsTrue s.device.told → FullOverRoom (trunk_of d).longest s (trunk_of d) fault)

module _ {S : Type 0} (key : Record → Record) (step : Option Record → Record → Step) (IsOp IsKept : Record → Type 0)
    (s a : RigState) (d : Drain S) (i : IsDrain key step IsOp IsKept s d) (g : GaveArea s a) where
  abbrev v : Trunk
  v = trunk_of d

  pool_is : a.pool ≡ given_area s.pool
  pool_is = ap (λ (x : RigState). x.pool) g.given

  frames_out : TrunkHasFrames a v
  frames_out =
      let f = i.is.running.frames in
      let p = ap (λ (x : PoolCounts). x.free) pool_is in
      let P : ShapeNumbers → Type 0 = λ x. s.pool.free + 2 ≤ singles_of x in
      let o : s.pool.free + 2 ≤ singles_of a.pool.shape = subst P (sym g.touches.shape) f.out in
      record {
        buffer = f.buffer ∙ ap (λ (x : ShapeNumbers). x.block) (sym g.touches.shape);
        answers = f.answers ∙ ap (λ (x : ShapeNumbers). x.block) (sym g.touches.shape);
        out = omega (arith, o, p);
      }

  -- The tree stays.
  pub tree_left : TrunkStays key IsOp IsKept s a v
  tree_left = trunk_stays key IsOp IsKept [] s a v g.touches frames_out i.is (λ told. apart_none (trunk_blocks s v))

  told_a : IsTrue s.device.told → IsTrue a.device.told
  told_a told = g.touches.told ∙ told

  used_is : a.used ≡ s.used
  used_is = ap (λ (x : RigState). x.used) g.given

  moves_is : a.moves ≡ s.moves
  moves_is = ap (λ (x : RigState). x.moves) g.given

  most_is : a.most ≡ s.most
  most_is = ap (λ (x : RigState). x.most) g.given

  -- as many blocks, of which none changed
  blocks_same : IsTrue s.device.told → length (trunk_blocks a v) ≡ length (drain_blocks s d)
  blocks_same told = ap length (tree_left.reads told).blocks

  still : Session (drain_blocks s d) s a (trunk_blocks a v)
  still =
      let x = session_still (drain_blocks s d) g.sound g.touches (λ told. (i.is.running.stands told).holds) in
      session_as (trunk_blocks a v) x (λ told. (tree_left.reads told).blocks)

  pays_given : Pays (drain_unstored d) (trunk_unstored v) s a
  pays_given = pays_kept (drain_unstored d) (omega (arith, used_is)) (omega (arith, moves_is))

  frames_given : (t : RigState) → GivenFrames 2 a.pool t.pool → GivenDrain s.pool t.pool
  frames_given t f =
      let free = ap (λ (x : PoolCounts). x.free) pool_is in
      let areas = ap (λ (x : PoolCounts). x.free_areas) pool_is in
      let peak = ap (λ (x : PoolCounts). x.peak) pool_is in
      record {
        shape = f.shape ∙ g.touches.shape;
        free = omega (arith, f.free, free);
        rack = f.rack ∙ ap (λ (x : PoolCounts). x.rack_out) pool_is;
        free_areas = omega (arith, f.free_areas, areas);
        peak = omega (arith, f.peak, peak);
      }

  room_given : {t : RigState} → IsTrue s.device.told → (IsTrue a.device.told → WithinRoom v.longest a t v)
      → WithinRoom v.longest s t v
  room_given {t} told h =
      let m = (h (told_a told)).most in
      let e = blocks_same told in
      let p = ap (λ (x : ShapeNumbers). tree_room x v.longest) g.touches.shape in
      record { most = omega (arith, m, e, p, used_is, most_is) }

  over_given : {f : EmFault} → IsTrue s.device.told → (IsTrue a.device.told → FullOverRoom v.longest a v f)
      → FullOverRoom v.longest s v f
  over_given {f} told h =
      let e = blocks_same told in
      let p = ap (λ (x : ShapeNumbers). tree_room x v.longest) g.touches.shape in
      record {
        full = full_by f
            (a.blocks + length (trunk_blocks a v) < a.used + (tree_room a.pool.shape v.longest + v.answers.blocks))
            (s.blocks + length (trunk_blocks s v) < s.used + (tree_room s.pool.shape v.longest + v.answers.blocks))
            (λ z. omega (arith, z, e, p, used_is, g.touches.blocks)) (h (told_a told)).full;
      }

  -- the moves of the tree, by its numbers when the drain began
  share_given : (t : RigState) → FinishCosts a t v → IsTrue s.device.told → (w : Trunk) → DrainsTo w v
      → v.spent + (t.moves - s.moves)
      ≤ tree_share s.pool.shape (w.pushed + w.adopted) w.longest (w.resets + 1) (w.settled + 1)
  share_given t c told w n =
      let here = (c.share (told_a told)).within in
      let P : ShapeNumbers → Type 0 = λ x. v.spent + (t.moves - a.moves)
      ≤ tree_share x (v.pushed + v.counted) v.longest v.resets (v.settled + 1) in
      let same = subst P g.touches.shape here in
      let old : v.spent + (t.moves - a.moves)
      ≤ tree_share s.pool.shape (w.pushed + v.counted) w.longest v.resets (w.settled + 1) =
      rw (n.pushed, n.longest, n.settled) at same in
      let counted = i.is.running.numbers.counted_most in
      let more = tree_share_rises s.pool.shape (w.pushed + v.counted) (w.pushed + w.adopted) w.longest v.resets (w.resets + 1)
      (w.settled + 1) (w.settled + 1) (omega (arith, counted, n.adopted)) (resets_most n) (omega arith) in
      omega (arith, old, more, moves_is)

  -- The tree wasn't finished.
  module _ (t : RigState) (costs : FinishCosts a t v) (within : IsTrue a.device.told → WithinRoom v.longest a t v) where
    unfinished : (f : EmFault) → StopsFinishing a t v f → IfFull f (λ _. v.longest ≡ 0 → ⊥)
        → (IsTrue a.device.told → FullOverRoom v.longest a v f) → EndSays key step s t d (Err f)
    unfinished f h used over = record {
      ends = record {
        sound = h.sound;
        touches = touches_trans (drain_blocks s d) (trunk_blocks a v) s a t still.touches h.touches
            (λ z k x o. still.within.off z k x o);
        frames = frames_given t h.frames;
        pays = pays_then pays_given (subst (λ (x : ShapeNumbers). Pays (trunk_unstored v) x.frames a t) g.touches.shape h.pays)
            costs.later;
        cause = cause_after [] s a t f g.touches h.cause;
      };
      full = used;
      costs = record {
        later = omega (arith, costs.later, moves_is);
        share = λ told w n. (let x = share_given t costs told w n in omega (arith, x));
      };
      room = λ told. room_given told within;
      over = λ told. over_given told over;
    }

    pub end_unfinished : (f : EmFault) → StopsFinishing a t v f → IfFull f (λ _. v.longest ≡ 0 → ⊥)
        → (IsTrue a.device.told → FullOverRoom v.longest a v f) → (r : Result (Unit {0}) EmFault)
        → IsErrAnd r (λ e. e ≡ f) → EndSays key step s t d r
    end_unfinished f h used over r x = of_error (EndSays key step s t d) r f x (unfinished f h used over)

    -- It was, and the chain of its answers was to be discarded.
    module _ (c : Chain) (h : FinishedTrunk key step a t v c) (u : RigState) (gone : Goes (chain_blocks t c) t u) where
      told_t : IsTrue s.device.told → IsTrue t.device.told
      told_t told = h.session.touches.told ∙ told_a told

      -- each of its answers is in the chain, which is packed
      answers_blocks : IsTrue s.device.told → c.blocks ≡ ceiling (answers_due key step s d) (payload_of s.pool.shape)
      answers_blocks told =
          let shape = gone.sound.shape in
          let same = gone.touches.shape in
          let B : ShapeNumbers → Type 0 = λ x. 128 ≤ x.block in
          let low : 128 ≤ t.pool.shape.block = subst B same (let b = shape.block_low in omega (arith, b)) in
          let packed = packed_blocks t c low h.chain (told_t told) (h.packed (told_a told)) in
          let reads = tree_left.reads told in
          let due = sym (length_permutation (tree_answers key step (given_by a v) (model_of a v)) (chain_items t c)
          (h.answers (told_a told))) in
          let count = length_items t c h.chain (told_t told) in
          let A : List Record → Type 0 = λ xs. length (tree_answers key step xs (model_of a v)) ≡ length (chain_items t c) in
          let B2 : Tree → Type 0 = λ x. length (tree_answers key step (given_by s v) x) ≡ length (chain_items t c) in
          let all : answers_due key step s d ≡ length (chain_items t c) =
          subst B2 reads.model (subst A reads.given due) in
          let C : ShapeNumbers → Type 0 = λ x. c.blocks ≡ ceiling c.count (payload_of x) in
          let here = subst C g.touches.shape (subst C h.frames.shape packed) in
          here ∙ ap (λ (n : ℕ). ceiling n (payload_of s.pool.shape)) (sym count ∙ sym all)

      ended_frames : GivenDrain s.pool u.pool
      ended_frames = frames_given u (record {
        shape = gone.frames.shape ∙ h.frames.shape;
        free = omega (arith, gone.frames.free, h.frames.free);
        rack = gone.frames.rack ∙ h.frames.rack;
        free_areas = gone.frames.free_areas ∙ h.frames.free_areas;
        peak = omega (arith, gone.frames.peak, h.frames.peak);
      })

      all_session : Session (drain_blocks s d) s u []
      all_session = session_trans (session_trans still h.session) (record {
        sound = gone.sound;
        touches = gone.touches;
        within = record { off = λ z k x o. tt };
        holds = λ z. record { in_use = tt; distinct = λ y. tt };
      })

      module _ {r : Result (Unit {0}) EmFault} (frees : Frees c.blocks t u r) where
        ended_pays : Pays (drain_unstored d) 0 s u
        ended_pays = pays_then pays_given (pays_then h.pays (pays_kept 0 frees.used_most gone.touches.moves)
            gone.touches.moves) (omega (arith, costs.later, gone.touches.moves))

        ended_costs : EndCosts key step s u d
        ended_costs = record {
          later = omega (arith, costs.later, gone.touches.moves, moves_is);
          share = λ told w n.
              let x = share_given t costs told w n in
              let b = answers_blocks told in
              let m = frees.moves in
              omega (arith, x, b, m, costs.later, moves_is);
        }

        ended_room : IsTrue s.device.told → WithinRoom v.longest s u v
        ended_room told = (let m = (room_given told within).most in let e = frees.most in record { most = omega (arith, m, e) })

      end_ok : Frees {T = Unit {0}} c.blocks t u (Ok tt) → EndSays key step s u d (Ok tt)
      end_ok frees = record {
        ends = record {
          session = all_session;
          frames = ended_frames;
          pays = ended_pays frees;
          loses = λ told.
              let l = h.loses (told_a told) in
              let e = blocks_same told in
              let n = (h.chain.told (told_t told)).list.blocks_is in
              let f = frees.used in
              omega (arith, l, e, n, f, used_is);
        };
        full = tt;
        costs = ended_costs frees;
        room = ended_room frees;
        over = tt;
      }

      end_err : (f : EmFault) → Frees {T = Unit {0}} c.blocks t u (Err f) → BlockCause t u f → EndSays key step s u d (Err f)
      end_err f frees cause = record {
        ends = record {
          sound = gone.sound;
          touches = all_session.touches;
          frames = ended_frames;
          pays = pays_more (ended_pays frees) (omega arith);
          cause = cause_after (drain_blocks s d) s t u f (session_trans still h.session).touches (block_cause t u f cause);
        };
        full = full_never t u f (v.longest ≡ 0 → ⊥) cause;
        costs = ended_costs frees;
        room = ended_room frees;
        over = λ told. record { full = full_never t u f _ cause };
      }

      pub end_discarded : (r : Result (Unit {0}) EmFault) → Frees c.blocks t u r → IfErr r (BlockCause t u)
          → EndSays key step s u d r
      end_discarded (Ok x) frees cause = end_ok frees
      end_discarded (Err f) frees cause = end_err f frees cause
