-- A pass by bits: a list is read, and then read again and written anew, while an area is lent.
use Rattle.std.proofs.Common.{◌≡◌, ℕ, ◌+◌, ◌<◌, List, [], ◌++◌, length, IsTrue, Result, Ok, Err, refl, ap, sym, ◌∙◌, subst, arith}
use Rattle.em_record.specs.declared.record.Record.{Record}
use Rattle.em_frames.specs.Pool.{PoolCounts, SameFrames, given_area, lent_area}
use Rattle.em_space.specs.Held.{Holds}
use Rattle.em_space.specs.Ledger.{Account, Runs, Stops}
use Rattle.em_space.specs.Rig.{RigState, Sound, Touches}
use Rattle.em_space.specs.declared.fault.EmFault.{EmFault}
use Rattle.em_space.proofs.Held.{apart_none}
use Rattle.em_space.proofs.Ledgers.{full_never}
use Rattle.em_space.proofs.Paying.{pays_kept, pays_more, pays_then}
use Rattle.em_space.proofs.Runs.{runs_then, stops_after}
use Rattle.em_space.proofs.Sessions.{session_as, session_still, session_trans}
use Rattle.em_space.proofs.Steps.{block_cause, cause_after, touches_then, touches_trans}
use Rattle.em_space.proofs.Within.{goes_wider, within_none}
use Rattle.em_chain.specs.Chain.{ChainStays, chain_blocks, chain_items, payload_in}
use Rattle.em_chain.specs.Counts.{ceiling}
use Rattle.em_chain.specs.Effects.{Unmoved}
use Rattle.em_chain.specs.declared.chain.Chain.{Chain}
use Rattle.em_chain.proofs.Keeps.{payload_kept, touches_none}
use Rattle.em_chain.proofs.Laws.{chain_stays}
use Rattle.em_chain.proofs.Writings.{cause_still, halts_between}
use Rattle.aig_edges.specs.Accounts.{stored_account}
use Rattle.aig_edges.specs.Copies.{CanWriteAnew}
use Rattle.aig_edges.specs.Looks.{Looks, StopsLooking}
use Rattle.aig_edges.specs.Sorts.{sorting_moves}
use Rattle.aig_edges.proofs.Besides.{stops_by}
use Rattle.aig_order.specs.declared.passing.Swept.{Swept}
use Rattle.aig_order.specs.declared.standing.Standing.{Standing}
use Rattle.aig_order.specs.declared.standing.Sweep.TheVariants.{Recall}
use Rattle.aig_order.specs.Marks.{HasNotes, IsMarked, Recalls, after_marks, mark_all}
use Rattle.aig_order.specs.Passes.{at_start, restarted, sweeping_moves}
use Rattle.aig_order.specs.Rewrites.{Becomes, MarksList, MarksTo, RewritesList, StopsRewriting}
use Rattle.aig_order.specs.Sweeps.{at_constant}
use Rattle.aig_order.proofs.Marked.{recall_unwritten}

-- The list stays while it is read,
pub list_looked : {s t : RigState} {c : Chain} → CanWriteAnew s c → Looks c.blocks s t
    → ChainStays s t c
list_looked {s} {t} {c} can l =
    chain_stays [] s t c l.goes.touches (λ z. apart_none (chain_blocks s c)) can.chain

-- and may be written anew after it.
pub looked_can : {s t : RigState} {c : Chain} → CanWriteAnew s c → Looks c.blocks s t
    → CanWriteAnew t c
looked_can can l =
    let st = list_looked can l in
    let free = l.goes.frames.free in
    let many = can.free in
    record {
      sound = l.goes.sound;
      free = omega (arith, free, many);
      chain = st.is;
      few = can.few;
      holds = λ z. (st.is.told z).holds;
    }

-- Its account is that with so many moves less.
looked_runs : {s t : RigState} {c : Chain} (n : ℕ) → CanWriteAnew s c → Looks c.blocks s t
    → Runs c.blocks (chain_blocks s c) (chain_blocks t c) (stored_account c.blocks (c.blocks + n))
    (stored_account c.blocks n) s t
looked_runs {s} {t} {c} n can l =
    let st = list_looked can l in
    let used = l.used in
    let most = l.most_is in
    let moves = l.moves in
    let later = l.goes.touches.moves in
    record {
      session = session_as (chain_blocks t c)
          (session_still (chain_blocks s c) l.goes.sound l.goes.touches can.holds) st.blocks;
      frames = l.goes.frames;
      spends = record {
        held = omega arith;
        used = omega (arith, used);
        most = omega (arith, most);
        moves = omega (arith, moves);
        later = later;
        pays = pays_kept 0 (omega (arith, used)) later;
      };
    }

room_kept : {s t : RigState} (c : Chain) → Looks c.blocks s t
    → ceiling c.count (payload_in t) ≡ ceiling c.count (payload_in s)
room_kept {s} {t} c l = ap (λ (p : ℕ). ceiling c.count p) (payload_kept [] s t l.goes.touches)

-- It wasn't read,
pub marks_unread : (last next : ℕ) {s t : RigState} (c : Chain) {e : EmFault}
    → StopsLooking c.blocks s t e → MarksTo last next s t c (Err e)
marks_unread last next {s} {t} c {e} g =
    let l = g.looks in
    let used = l.used in
    let most = l.most_is in
    let moves = l.moves in
    let later = l.goes.touches.moves in
    record {
      goes = goes_wider (chain_blocks s c) [] s t (within_none s (chain_blocks s c) [] (λ z. refl)) l.goes;
      halts = record {
        used = omega (arith, used);
        full = full_never s t e _ g.cause;
        most = omega (arith, most);
        moves = omega (arith, moves);
        later = later;
        pays = pays_more (pays_kept 0 (omega (arith, used)) later) (omega arith);
      };
      cause = block_cause s t e g.cause;
    }

-- or not written anew,
pub marks_unwritten : (last next : ℕ) {s t u : RigState} (c : Chain) {e : EmFault} → CanWriteAnew s c
    → Looks c.blocks s t
    → StopsRewriting t u c e → MarksTo last next s u c (Err e)
marks_unwritten last next {s} {t} {u} c can l x =
    let room = room_kept c l in
    stops_by (stored_account c.blocks (sweeping_moves c.blocks (ceiling c.count (payload_in s))))
    (omega (arith, room)) refl refl (omega (arith, room))
    (stops_after (looked_runs (sorting_moves t c) can l) x)

-- or both sweeps were made.
both_marked : (last next : ℕ) (rs ws : List Record) (j : Standing) (old mid : List Record)
    → Recalls last next rs old mid → HasNotes last [] old → Becomes last rs ws (at_constant next) j mid
    → (ws ≡ (after_marks last next rs).written) × (j ≡ (after_marks last next rs).standing)
both_marked last next rs ws j old mid r none b =
    let first = restarted next (mark_all last Recall 0 rs (at_start next)) in
    let marked : IsMarked last first (at_constant next) mid =
    record { standing = refl; notes = r none } in
    let a = b (length rs) first marked in (
      sym (a.1 ∙ ap (λ (is : List Record). is ++ ws) (recall_unwritten last 0 rs (at_start next))),
      sym a.0,
    )

pub marks_made : (last next : ℕ) {s t u : RigState} (c d : Chain) {j : Standing}
    (old : List Record) {mid : List Record} → CanWriteAnew s c → Looks c.blocks s t
    → (IsTrue s.device.told → Recalls last next (chain_items s c) old mid) → HasNotes last [] old
    → RewritesList last t u c d (at_constant next) j mid
    → MarksList last next s u c (record { list = d; next = j.next })
marks_made last next {s} {t} {u} c d {j} old {mid} can l r none w =
    let st = list_looked can l in
    let room = room_kept c l in
    let size = w.blocks_is in
    let all = runs_then (looked_runs (sorting_moves t c) can l) w.runs in
    let k = all.spends in
    let both = λ (z : IsTrue s.device.told). both_marked last next (chain_items s c) (chain_items u d) j
    old mid (r z) none
    (subst (λ (rs : List Record). Becomes last rs (chain_items u d) (at_constant next) j mid)
    (st.items z) (w.items (l.goes.touches.told ∙ z))) in
    record {
      is = w.is;
      count_is = w.count_is;
      blocks_is = size ∙ room;
      items = λ z. (both z).0;
      next_is = λ z. ap (λ (p : Standing). p.next) (both z).1;
      runs = record {
        session = all.session;
        frames = all.frames;
        spends = record {
          held = omega arith;
          used = omega (arith, k.used);
          most = omega (arith, k.most, size);
          moves = omega (arith, k.moves, size);
          later = k.later;
          pays = k.pays;
        };
      };
    }

-- Nothing but frames went out or came back.
pub record IsStill (s t : RigState) : Type 0 where
  pub sound : Sound t
  pub touches : Touches [] s t
  pub unmoved : Unmoved s t

pub pool_still : {s a : RigState} (p : PoolCounts) → Sound a → Touches [] s a
    → a ≡ record s { pool = p } → IsStill s a
pool_still {s} {a} p h g e = record {
  sound = h;
  touches = g;
  unmoved = record {
    device = ap (λ (x : RigState). x.device) e;
    same = record {
      head = ap (λ (x : RigState). x.head) e;
      used = ap (λ (x : RigState). x.used) e;
      most = ap (λ (x : RigState). x.most) e;
    };
    moves = ap (λ (x : RigState). x.moves) e;
    spare = ap (λ (x : RigState). x.spare) e;
  };
}

-- An area was lent and came back.
pub area_frames : {s a b t : RigState} → 0 < s.pool.free_areas → a ≡ record s { pool = lent_area s.pool }
    → SameFrames a.pool b.pool → t ≡ record b { pool = given_area b.pool } → SameFrames s.pool t.pool
area_frames some e f d =
    let areas = ap (λ (x : RigState). x.pool.free_areas) e in
    let given = ap (λ (x : RigState). x.pool.free_areas) d in
    let peak = ap (λ (x : RigState). x.pool.peak) e in
    let top = ap (λ (x : RigState). x.pool.peak) d in
    let same = f.free_areas in
    let more = f.peak in
    record {
      shape = ap (λ (x : RigState). x.pool.shape) d ∙ f.shape ∙ ap (λ (x : RigState). x.pool.shape) e;
      free = ap (λ (x : RigState). x.pool.free) d ∙ f.free ∙ ap (λ (x : RigState). x.pool.free) e;
      rack = ap (λ (x : RigState). x.pool.rack_out) d ∙ f.rack
          ∙ ap (λ (x : RigState). x.pool.rack_out) e;
      free_areas = omega (arith, areas, given, same, some);
      peak = omega (arith, peak, top, more);
    }

-- The calls between had a ledger,
runs_around : {p : ℕ} {ks js : List ℕ} {x y : Account} {s a b t : RigState} (held us : List ℕ)
    → (IsTrue s.device.told → Holds s held) → IsStill s a → (IsTrue s.device.told → ks ≡ held)
    → Runs p ks js x y a b → IsStill b t → (IsTrue b.device.told → us ≡ js) → SameFrames s.pool t.pool
    → Runs p held us x y s t
runs_around {p} {ks} {js} {x} {y} {s} {a} {b} {t} held us n l e h g d f =
    let first = session_as ks (session_still held l.sound l.touches n) e in
    let whole = session_trans first h.session in
    let last = session_as us (session_still js g.sound g.touches
    (λ z. whole.holds (sym whole.touches.told ∙ z))) d in
    let c = h.spends in
    let used_l = l.unmoved.same.used in
    let used_g = g.unmoved.same.used in
    let most_l = l.unmoved.same.most in
    let most_g = g.unmoved.same.most in
    let moves_l = l.unmoved.moves in
    let moves_g = g.unmoved.moves in
    record {
      session = session_trans whole last;
      frames = f;
      spends = record {
        held = c.held;
        used = omega (arith, c.used, used_l, used_g);
        most = omega (arith, c.most, used_l, most_l, most_g);
        moves = omega (arith, c.moves, moves_l, moves_g);
        later = omega (arith, c.later, moves_l, moves_g);
        pays = pays_then (pays_kept x.unstored (omega (arith, used_l)) (omega (arith, moves_l)))
            (pays_then c.pays (pays_kept y.unstored (omega (arith, used_g)) (omega (arith, moves_g)))
            (omega (arith, moves_g))) (omega (arith, c.later, moves_g));
      };
    }

-- or the last one gave up.
stops_around : {p m f : ℕ} {ks : List ℕ} {x : Account} {s a b t : RigState} {e : EmFault}
    (held : List ℕ) → IsStill s a → (IsTrue s.device.told → ks ≡ held) → Stops p m f ks x a b e
    → IsStill b t → SameFrames s.pool t.pool → Stops p m f held x s t e
stops_around {p} {m} {f} {ks} {x} {s} {a} {b} {t} {e} held l d h g q = record {
  goes = record {
    sound = g.sound;
    touches = touches_then held s b t (touches_trans held ks s a b (touches_none held s a l.touches)
        h.goes.touches (λ z k i o. rw (d z) o)) g.touches;
    frames = q;
  };
  halts = halts_between l.unmoved h.halts g.unmoved;
  cause = cause_still s b t e g.unmoved g.touches (cause_after [] s a b e l.touches h.cause);
}

-- All frames are back after the sweeps,
pub marks_frames : (last next : ℕ) (c : Chain) (a b : RigState) (result : Result Swept EmFault)
    → MarksTo last next a b c result → SameFrames a.pool b.pool
marks_frames last next c a b (Ok d) w = w.runs.frames
marks_frames last next c a b (Err e) w = w.goes.frames

-- which may be made once the area is lent,
pub still_can : {s a : RigState} {c : Chain} → CanWriteAnew s c → IsStill s a
    → a.pool.free ≡ s.pool.free → CanWriteAnew a c
still_can {s} {a} {c} can l free =
    let st = chain_stays [] s a c l.touches (λ z. apart_none (chain_blocks s c)) can.chain in
    let many = can.free in
    record {
      sound = l.sound;
      free = omega (arith, free, many);
      chain = st.is;
      few = can.few;
      holds = λ z. (st.is.told z).holds;
    }

-- and what they did is what the whole did.
pub marks_around : (last next : ℕ) {s a : RigState} (b t : RigState) {c : Chain}
    (result : Result Swept EmFault) → CanWriteAnew s c → IsStill s a
    → MarksTo last next a b c result → IsStill b t → SameFrames s.pool t.pool
    → MarksTo last next s t c result
marks_around last next {s} {a} b t {c} (Ok d) can l w g f =
    let st = chain_stays [] s a c l.touches (λ z. apart_none (chain_blocks s c)) can.chain in
    let k = chain_stays [] b t d.list g.touches (λ z. apart_none (chain_blocks b d.list)) w.is in
    let on : IsTrue s.device.told → IsTrue b.device.told =
    λ z. w.runs.session.touches.told ∙ l.touches.told ∙ z in
    record {
      is = k.is;
      count_is = w.count_is;
      blocks_is = w.blocks_is ∙ ap (λ (p : ℕ). ceiling c.count p) (payload_kept [] s a l.touches);
      items = λ z. k.items (on z) ∙ w.items (l.touches.told ∙ z)
          ∙ ap (λ (rs : List Record). (after_marks last next rs).written) (st.items z);
      next_is = λ z. w.next_is (l.touches.told ∙ z)
          ∙ ap (λ (rs : List Record). (after_marks last next rs).standing.next) (st.items z);
      runs = runs_around (chain_blocks s c) (chain_blocks t d.list) can.holds l st.blocks w.runs g k.blocks f;
    }
marks_around last next {s} {a} b t {c} (Err e) can l w g f =
    let st = chain_stays [] s a c l.touches (λ z. apart_none (chain_blocks s c)) can.chain in
    let pay : payload_in a ≡ payload_in s = payload_kept [] s a l.touches in
    subst (λ (p : ℕ). Stops (c.blocks + ceiling c.count p) 0 1 (chain_blocks s c)
    (stored_account c.blocks (sweeping_moves c.blocks (ceiling c.count p))) s t e) pay
    (stops_around (chain_blocks s c) l st.blocks w g f)
