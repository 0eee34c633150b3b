-- Both lists of an interval list become chains.
use Rattle.std.proofs.Common.{◌≡◌, ℕ, ◌≤◌, ◌^◌, min, List, [], ◌++◌, length, IsTrue, Result, Ok, Err, IsErrAnd, ap, subst, sym, ◌∙◌, arith}
use Rattle.em_record.specs.Shape.{ShapeNumbers}
use Rattle.em_frames.specs.Pool.{GivenFrames, HasFrames, PoolCounts, singles_of}
use Rattle.em_space.specs.Held.{Apart}
use Rattle.em_space.specs.Ledger.{Session}
use Rattle.em_space.specs.Queue.{Pays}
use Rattle.em_space.specs.Rig.{DeviceCause, RigState}
use Rattle.em_space.specs.declared.fault.EmFault.{EmFault}
use Rattle.em_space.proofs.Apart.{off_left, off_right}
use Rattle.em_space.proofs.Ledgers.{full_never}
use Rattle.em_space.proofs.Lists.{apart_sym, distinct_apart}
use Rattle.em_space.proofs.Paying.{pays_kept, pays_more, pays_then}
use Rattle.em_space.proofs.Sessions.{session_as, session_beside, session_last}
use Rattle.em_space.proofs.Steps.{cause_after, device_block_cause, device_cause, touches_then, touches_wider}
use Rattle.em_space.proofs.Within.{touches_within, within_kept, within_same}
use Rattle.em_chain.specs.Chain.{ChainStays, chain_blocks}
use Rattle.em_chain.specs.Effects.{GivesFrame, Unmoved}
use Rattle.em_chain.specs.Session.{FinishSpends}
use Rattle.em_chain.specs.Writer.{WriterStays, writer_blocks}
use Rattle.em_chain.specs.Writes.{Finishes}
use Rattle.em_chain.specs.declared.chain.Chain.{Chain}
use Rattle.em_chain.specs.declared.writer.Writer.{Writer}
use Rattle.em_chain.proofs.Laws.{chain_stays, writer_stays}
use Rattle.em_chain.proofs.Writings.{cause_still}
use Rattle.em_segment_parts.specs.Chains.{IsPackedChain}
use Rattle.em_segment.specs.Finishes.{ClosesBoth, ClosesTo, StopsClosing}
use Rattle.em_segment_parts.specs.Pairs.{IsPairs}
use Rattle.em_segment.specs.Stabs.{IsStab, StabHasFrames, stab_blocks}
use Rattle.em_segment.specs.declared.stab.Stab.{Stab}
use Rattle.em_segment_parts.proofs.Regrouping.{session_same, tally_swap}

-- A list that was finished.
pub closed_list : {s t : RigState} {w : Writer} {c : Chain} → t.device.told ≡ s.device.told
    → IsPairs s w → w.count ≤ 2 ^ 40 → Finishes s t w c → IsPackedChain t c
closed_list told i few f = record {
  is = f.is;
  packed = λ z. f.packed (sym told ∙ z) (i.packed (sym told ∙ z));
  few = omega (arith, f.count_is, few);
}

pub closed_session : {s t : RigState} {w : Writer} {c : Chain} → GivesFrame (writer_blocks s w) s t
    → Finishes s t w c → Session (writer_blocks s w) s t (chain_blocks t c)
closed_session {s} {t} {w} {c} g f = record {
  sound = g.sound;
  touches = g.touches;
  within = within_kept s (writer_blocks s w) (writer_blocks s w) (chain_blocks t c)
      (within_same s (writer_blocks s w)) f.blocks;
  holds = λ z. (f.is.told (g.touches.told ∙ z)).holds;
}

-- A packed chain of few records stays.
pub packed_stays : {s t : RigState} {c : Chain} → t.device.told ≡ s.device.told → IsPackedChain s c
    → ChainStays s t c → IsPackedChain t c
packed_stays told i st = record {
  is = st.is;
  packed = λ z. st.packed (sym told ∙ z) (i.packed (sym told ∙ z));
  few = i.few;
}

-- The frame of the second list is still out when the first one's is back.
pub second_frame : {s : RigState} (m : RigState) {v : Stab} → StabHasFrames s v → GivenFrames 1 s.pool m.pool
    → HasFrames 1 (length v.stabs.frame) m.pool
second_frame m f g = record {
  len_is = f.stabs ∙ ap (λ (z : ShapeNumbers). z.block) (sym g.shape);
  out = let e = ap singles_of g.shape in omega (arith, f.out, g.free, e);
}

lists_apart : {s : RigState} {v : Stab} → IsStab s v → IsTrue s.device.told
    → Apart (writer_blocks s v.intervals) (writer_blocks s v.stabs)
lists_apart {s} {v} is z =
    distinct_apart (writer_blocks s v.intervals) (writer_blocks s v.stabs) ((is.holds z).distinct z)

-- The first list was finished, and the second one stayed.
pub second_stays : {s m : RigState} {v : Stab} → IsStab s v
    → GivesFrame (writer_blocks s v.intervals) s m → WriterStays s m v.stabs
second_stays {s} {m} {v} is g = writer_stays (writer_blocks s v.intervals) s m v.stabs g.touches
    (λ z. apart_sym (writer_blocks s v.intervals) (writer_blocks s v.stabs) (lists_apart is z))
    (second_frame m is.frames g.frames) is.stabs.writer

both_given : {p q r : PoolCounts} → GivenFrames 1 p q → GivenFrames 1 q r → GivenFrames 2 p r
both_given g h = record {
  shape = h.shape ∙ g.shape;
  free = omega (arith, g.free, h.free);
  rack = h.rack ∙ g.rack;
  free_areas = h.free_areas ∙ g.free_areas;
  peak = omega (arith, g.peak, h.peak);
}

-- The first list became a chain: what both hold then.
first_session : {s m : RigState} {v : Stab} {pieces : Chain} → IsStab s v
    → GivesFrame (writer_blocks s v.intervals) s m → Finishes s m v.intervals pieces
    → Session (stab_blocks s v) s m (chain_blocks m pieces ++ writer_blocks m v.stabs)
first_session {s} {m} {v} {pieces} is g f =
    let st = second_stays is g in
    session_as (chain_blocks m pieces ++ writer_blocks m v.stabs)
    (session_beside [] (writer_blocks s v.intervals) (chain_blocks m pieces)
    (writer_blocks s v.stabs) is.holds (closed_session g f))
    (λ z. ap (λ (ks : List ℕ). chain_blocks m pieces ++ ks) (st.blocks z))

-- Both became chains,
pub closes_both : {s m t : RigState} {v : Stab} {pieces points : Chain} → IsStab s v
    → GivesFrame (writer_blocks s v.intervals) s m → Finishes s m v.intervals pieces
    → FinishSpends s m v.intervals (Ok pieces) → GivesFrame (writer_blocks m v.stabs) m t
    → Finishes m t v.stabs points → FinishSpends m t v.stabs (Ok points)
    → ClosesBoth s t v pieces points
closes_both {s} {m} {t} {v} {pieces} {points} is g f x h k y =
    let st = second_stays is g in
    let told = g.touches.told in
    let few = is.few in
    let first = first_session is g f in
    let apart = λ (z : IsTrue m.device.told). distinct_apart (chain_blocks m pieces)
    (writer_blocks m v.stabs) ((first.holds (sym told ∙ z)).distinct z) in
    let kept = chain_stays (writer_blocks m v.stabs) m t pieces h.touches apart f.is in
    let points_pairs : IsPairs m v.stabs = record {
      writer = st.is;
      filled_is = st.filled_is ∙ is.stabs.filled_is;
      few = is.stabs.few;
      packed = λ z. st.packed (sym told ∙ z) (is.stabs.packed (sym told ∙ z));
    } in
    let both = session_last (chain_blocks m pieces) (writer_blocks m v.stabs) (chain_blocks t points)
    first (closed_session h k) in
    let now = session_as (chain_blocks t pieces ++ chain_blocks t points) both
    (λ z. ap (λ (ks : List ℕ). ks ++ chain_blocks t points) (kept.blocks (told ∙ z))) in
    record {
      pieces_are = packed_stays h.touches.told
          (closed_list told is.intervals (omega (arith, few)) f) kept;
      points_are = closed_list h.touches.told points_pairs (omega (arith, few)) k;
      pieces_items = λ z. kept.items (told ∙ z) ∙ f.items z;
      points_items = λ z. k.items (told ∙ z) ∙ st.items z;
      pieces_count = f.count_is;
      points_count = k.count_is;
      pieces_blocks = f.blocks_is;
      points_blocks = k.blocks_is;
      session = session_same (chain_blocks t points ++ chain_blocks t pieces) now
          (λ z. tally_swap (chain_blocks t pieces) (chain_blocks t points));
      frames = both_given g.frames h.frames;
      spends = record {
        held = omega (arith, f.blocks_is, k.blocks_is);
        used = omega (arith, x.used, y.used);
        most = omega (arith, x.used, x.most, y.most, f.blocks_is);
        moves = omega (arith, x.moves, y.moves);
        later = omega (arith, x.later, y.later);
        pays = pays_then (pays_more x.pays (omega arith)) y.pays y.later;
      };
    }

-- the first one wasn't finished,
pub closes_first : {s m t : RigState} {v : Stab} {fault : EmFault} → IsStab s v
    → GivesFrame (writer_blocks s v.intervals) s m → FinishSpends s m v.intervals (Err fault)
    → DeviceCause s m fault → GivesFrame [] m t → Unmoved m t → StopsClosing s t v fault
closes_first {s} {m} {t} {v} {fault} is g x c h u = record {
  sound = h.sound;
  touches = touches_then (stab_blocks s v) s m t (touches_wider (stab_blocks s v)
      (writer_blocks s v.intervals) s m g.touches
      (λ z k i o. off_left k (writer_blocks s v.intervals) (writer_blocks s v.stabs) o)) h.touches;
  frames = both_given g.frames h.frames;
  halts = record {
    used = omega (arith, x.used, u.same.used);
    full = full_never s m fault _ (device_block_cause s m fault c);
    most = omega (arith, x.most, u.same.most);
    moves = omega (arith, x.moves, u.moves);
    later = omega (arith, x.later, u.moves);
    pays = pays_then (pays_more x.pays (omega arith))
        (pays_kept 2 (omega (arith, u.same.used)) (omega (arith, u.moves))) (omega (arith, u.moves));
  };
  cause = cause_still s m t fault u h.touches (device_cause s m fault c);
}

-- or the second one.
pub closes_second : {s m t : RigState} {v : Stab} {pieces : Chain} {fault : EmFault} → IsStab s v
    → GivesFrame (writer_blocks s v.intervals) s m → Finishes s m v.intervals pieces
    → FinishSpends s m v.intervals (Ok pieces) → GivesFrame (writer_blocks m v.stabs) m t
    → FinishSpends m t v.stabs (Err fault) → DeviceCause m t fault
    → StopsClosing s t v fault
closes_second {s} {m} {t} {v} {pieces} {fault} is g f x h y c =
    let first = first_session is g f in
    let js = chain_blocks m pieces ++ writer_blocks m v.stabs in
    let last : Pays (min v.stabs.blocks 1) 2 m t = pays_more y.pays (omega arith) in
    record {
      sound = h.sound;
      touches = touches_within s m t (stab_blocks s v) js first.touches first.within
          (touches_wider js (writer_blocks m v.stabs) m t h.touches
          (λ z k i o. off_right k (chain_blocks m pieces) (writer_blocks m v.stabs) o));
      frames = both_given g.frames h.frames;
      halts = record {
        used = omega (arith, x.used, y.used, f.blocks_is);
        full = full_never m t fault _ (device_block_cause m t fault c);
        most = omega (arith, x.used, x.most, y.most, f.blocks_is);
        moves = omega (arith, x.moves, y.moves, f.blocks_is);
        later = omega (arith, x.later, y.later);
        pays = pays_then (pays_more x.pays (omega arith)) last y.later;
      };
      cause = cause_after (stab_blocks s v) s m t fault first.touches (device_cause m t fault c);
    }

-- what a fault of the second list says of the result
pub closes_err : {s t : RigState} {v : Stab} (result : Result (Chain × Chain) EmFault) (e : EmFault)
    → IsErrAnd result (λ f. f ≡ e) → StopsClosing s t v e → ClosesTo s t v result
closes_err (Ok x) e h k = absurd h
closes_err {s} {t} {v} (Err f) e h k = subst (λ (n : EmFault). StopsClosing s t v n) (sym h) k
