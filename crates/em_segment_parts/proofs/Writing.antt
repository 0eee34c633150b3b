-- Pairs that are written, one call after another.
use Rattle.std.proofs.Common.{◌≡◌, ℕ, ◌+◌, ◌*◌, ◌^◌, ◌<◌, ◌≤◌, min, List, [], ◌∷◌, ◌++◌, length, sym, subst, ◌∙◌, arith, IsTrue, Result, Ok, Err, OnOk, IfErr, IsErrAnd}
use Rattle.std.proofs.Math.Nat.{mul-le-mul}
use Rattle.em_record.specs.declared.record.Record.{Record}
use Rattle.em_space.specs.Ledger.{Costs}
use Rattle.em_space.specs.Rig.{Cause, Goes, RigState, Sound}
use Rattle.em_space.specs.declared.fault.EmFault.{EmFault}
use Rattle.em_space.specs.declared.fault.EmFault.TheVariants.{Damaged}
use Rattle.em_space.proofs.Ledgers.{spends_moved, spends_then}
use Rattle.em_space.proofs.Most.{held_most}
use Rattle.em_space.proofs.Paying.{pays_kept, pays_more}
use Rattle.em_space.proofs.Runs.{runs_goes, runs_of, stops_after, stops_wider}
use Rattle.em_space.proofs.Sessions.{session_none, session_trans}
use Rattle.em_space.proofs.Steps.{goes_nothing, same_frames_then, untold_by}
use Rattle.em_space.proofs.Within.{goes_wider}
use Rattle.em_chain.specs.Chain.{payload_in}
use Rattle.em_chain.specs.Counts.{ceiling}
use Rattle.em_chain.specs.Session.{one_more, writer_account}
use Rattle.em_chain.specs.Writer.{CanGrow, IsWriter, filled, writer_blocks}
use Rattle.em_chain.specs.Writes.{AppendCosts, Appends}
use Rattle.em_chain.specs.declared.writer.Writer.{Writer}
use Rattle.em_chain.proofs.Counts.{filled_most, writer_blocks_are}
use Rattle.em_chain.proofs.Keeps.{payload_kept}
use Rattle.em_chain.proofs.Pairs.{blocks_least}
use Rattle.em_chain.proofs.Sessions.{ceiling_rises, wrote_none, wrote_one, wrote_then}
use Rattle.em_chain.proofs.Writings.{halts_moved}
use Rattle.em_chain.proofs.Withins.{within_grows}
use Rattle.em_queued.specs.Popped.{grown_blocks}
use Rattle.em_segment_parts.specs.Pairs.{IsPairs, StopsPairs, WritesPairs, WritesTo}

-- No call yet,
pub pairs_none : {s : RigState} {w : Writer} → Sound s → IsPairs s w → WritesPairs 0 s s w w []
pairs_none {s} {w} h i = record {
  runs = record {
    session = session_none s (writer_blocks s w) h (λ z. (i.writer.told z).holds);
    frames = (goes_nothing s h).frames;
    spends = record {
      held = omega arith;
      used = omega arith;
      most = omega arith;
      moves = omega arith;
      later = omega arith;
      pays = pays_kept (min w.blocks 1) (omega arith) (omega arith);
    };
  };
  wrote = wrote_none i.writer;
  grows = omega arith;
  few = i.few;
}

-- one call after another,
pub pairs_then : {a b : ℕ} {s t u : RigState} {w v k : Writer} (xs ys : List Record)
    → WritesPairs a s t w v xs → WritesPairs b t u v k ys → WritesPairs (a + b) s u w k (xs ++ ys)
pairs_then {a} {b} {s} {t} {u} {w} {v} {k} xs ys h g =
    let e = spends_then h.runs.spends (spends_moved a g.runs.spends) in
    let m = h.grows in
    let n = g.grows in
    record {
      runs = record {
        session = session_trans h.runs.session g.runs.session;
        frames = same_frames_then s.pool t.pool u.pool h.runs.frames g.runs.frames;
        spends = record {
          held = omega arith;
          used = e.used;
          most = omega (arith, e.most);
          moves = omega (arith, e.moves);
          later = e.later;
          pays = e.pays;
        };
      };
      wrote = wrote_then xs ys h.wrote g.wrote;
      grows = omega arith;
      few = g.few;
    }

-- with moves that aren't more than said.
pub pairs_wider : {a b : ℕ} {s t : RigState} {w v : Writer} {xs : List Record} → a ≤ b
    → WritesPairs a s t w v xs → WritesPairs b s t w v xs
pairs_wider {a} {b} {s} {t} {w} {v} l h =
    let e = h.runs.spends in
    record {
      runs = record {
        session = h.runs.session;
        frames = h.runs.frames;
        spends = record {
          held = e.held;
          used = e.used;
          most = e.most;
          moves = omega (arith, l, e.moves);
          later = e.later;
          pays = e.pays;
        };
      };
      wrote = h.wrote;
      grows = h.grows;
      few = h.few;
    }

pub pairs_goes : {a : ℕ} {s t : RigState} {w v : Writer} {xs : List Record}
    → WritesPairs a s t w v xs → Goes (writer_blocks s w) s t
pairs_goes h = runs_goes h.runs

pub pairs_is : {a : ℕ} {s t : RigState} {w v : Writer} {xs : List Record} → IsPairs s w
    → WritesPairs a s t w v xs → IsPairs t v
pairs_is {s = s} {t = t} i h =
    let n = h.wrote.filled_is in
    let c = h.wrote.count_is in
    let e = i.filled_is in
    record {
      writer = h.wrote.is;
      filled_is = omega arith;
      few = h.few;
      packed = λ z.
          let y : IsTrue s.device.told = sym h.wrote.told ∙ z in h.wrote.packed y (i.packed y);
    }

-- Places for one pair more: a list of full blocks has no more blocks than records.
pub pairs_grow : {s : RigState} {w : Writer} → Sound s → IsPairs s w → w.count + 1 < 2 ^ 56
    → CanGrow w
pairs_grow {s} {w} h i l =
    let d = h.shape.block_low in
    let last = i.writer.last in
    let e = i.filled_is in
    let x = blocks_least (payload_in s) w.blocks w.fill (omega arith)
    (λ p. last.fill_low (last.some p)) in
    record { count = omega arith; blocks = omega arith }

-- A device that tells holds fewer pairs than there may be.
pub pairs_few : {s : RigState} {w : Writer} → Sound s → IsPairs s w → IsTrue s.device.told
    → w.count + 1 < 2 ^ 56
pairs_few {s} {w} h i z =
    let k = i.writer.told z in
    let m = held_most s (writer_blocks s w) h z k.holds in
    let b = k.list.blocks_is in
    let n = h.numbers in
    let most : w.blocks ≤ 2 ^ 40 = omega (arith, m, b, n.used_most, n.most_high, n.blocks_high) in
    let wide : payload_in s ≤ 65535 = let w = h.shape.block_high in omega arith in
    let f = filled_most s w i.writer in
    let p : payload_in s * w.blocks ≤ 65535 * 2 ^ 40 = mul-le-mul wide most in
    omega (arith, f, p, i.filled_is)

-- More pairs take no fewer blocks.
pub grown_rises : (s : RigState) (w : Writer) (m n : ℕ) → Sound s → m ≤ n
    → grown_blocks m s w ≤ grown_blocks n s w
grown_rises s w m n h l =
    let d = h.shape.block_low in
    ceiling_rises (filled s w + m) (filled s w + n) (payload_in s) (omega arith) (omega arith)

pub grown_least : (s : RigState) (w : Writer) (n : ℕ) → Sound s → IsWriter s w
    → w.blocks ≤ grown_blocks n s w
grown_least s w n h i =
    let b = writer_blocks_are s w h.shape.block_low i in
    let d = h.shape.block_low in
    let r = ceiling_rises (filled s w) (filled s w + n) (payload_in s) (omega arith) (omega arith) in
    omega (arith, b, r)

-- The next call gave up.
pub stops_then : {a b n : ℕ} {s t u : RigState} {w v : Writer} {e : EmFault} (xs : List Record)
    → WritesPairs a s t w v xs → StopsPairs b n t u v e → StopsPairs (a + b) (length xs + n) s u w e
stops_then {a} {b} {n} {s} {t} {u} {w} {v} {e} xs h k =
    let pt : payload_in t ≡ payload_in s =
    payload_kept (writer_blocks s w) s t h.runs.session.touches in
    let f : filled t v + n ≡ filled s w + (length xs + n) = omega (arith, h.wrote.filled_is) in
    let d : v.blocks ≤ ceiling (filled t v + n) (payload_in t) =
    grown_least t v n h.runs.session.sound h.wrote.is in
    let m = rw (f, pt) at d in
    let g = rw (f, pt) at k.stops in
    record {
      stops = stops_wider (omega (arith, m)) (omega arith) (omega arith)
          (stops_after h.runs
          (record { goes = g.goes; halts = halts_moved a g.halts; cause = g.cause }));
    }

-- It was to write no more than said, with no more moves.
pub stops_more : {a b m n : ℕ} {s t : RigState} {w : Writer} {e : EmFault} → Sound s → a ≤ b → m ≤ n
    → StopsPairs a m s t w e → StopsPairs b n s t w e
stops_more {a} {b} {m} {n} {s} {t} {w} {e} h x y k =
    let r = grown_rises s w m n h y in
    record { stops = stops_wider (omega (arith, r)) (omega (arith, r, x)) (omega arith) k.stops }

-- An append, by its result.
pub pairs_append : {T : Type 0} {s t : RigState} {w v : Writer} (x : Record) (result : Result T EmFault)
    → w.count + 1 < 2 ^ 56 → Goes (writer_blocks s w) s t → OnOk result (Appends s t w v x)
    → AppendCosts s t w v result
    → Costs (one_more s w) (2 * one_more s w) (min w.blocks 1) (writer_account w) (writer_account v) s t
    result → IfErr result (Cause s t) → WritesTo 0 (x ∷ []) s t w v result
pairs_append {s = s} {t = t} {w = w} {v = v} x (Ok y) l g a k h c =
    let n = a.count_is in
    record {
      runs = runs_of (writer_blocks s w) (writer_blocks t v) g
          (within_grows s (writer_blocks s w) (writer_blocks t v) a.grown) (λ z. (a.is.told z).holds)
          (record {
            held = omega arith;
            used = h.used;
            most = omega (arith, k.most, k.used);
            moves = omega (arith, h.moves);
            later = h.later;
            pays = h.pays;
          });
      wrote = wrote_one g.touches.told a;
      grows = omega (arith, k.used, k.used_low);
      few = omega arith;
    }
pairs_append x (Err e) l g a k h c =
    record {
      stops = stops_wider (omega arith) (omega arith) (omega arith)
          (record { goes = g; halts = h; cause = c });
    }

-- With too many pairs it gave up before: that is over a device that doesn't tell.
pub pairs_full : {s : RigState} {w : Writer} → Sound s → IsPairs s w → 2 ^ 56 ≤ w.count + 1
    → StopsPairs 0 1 s s w (Damaged 0)
pairs_full {s} {w} h i l =
    let m = grown_least s w 1 h i.writer in
    let n = h.numbers.blocks_low in
    record {
      stops = record {
        goes = goes_wider (writer_blocks s w) [] s s (record { off = λ z j u o. tt }) (goes_nothing s h);
        halts = record {
          used = omega (arith, m);
          full = tt;
          most = omega (arith, m);
          moves = omega arith;
          later = omega arith;
          pays = pays_more (pays_kept (min w.blocks 1) (omega arith) (omega arith)) (omega arith);
        };
        cause = (
          untold_by s.device.told (λ z. let k = pairs_few h i z in omega (arith, k, l)),
          n,
        );
      };
    }

-- what the fault of a callee says of the result
pub writes_err : {T : Type 0} (a : ℕ) (xs : List Record) (s t : RigState) (w v : Writer)
    (result : Result T EmFault) (e : EmFault) → IsErrAnd result (λ f. f ≡ e)
    → StopsPairs a (length xs) s t w e → WritesTo a xs s t w v result
writes_err a xs s t w v (Ok x) e h k = absurd h
writes_err a xs s t w v (Err f) e h k =
    subst (λ (n : EmFault). StopsPairs a (length xs) s t w n) (sym h) k
