-- The lists of a circuit that is being read, over calls one after another.
use Rattle.std.proofs.Common.{◌≡◌, ℕ, ◌+◌, ◌*◌, ◌^◌, ◌≤◌, min, Bool, List, [], ◌∷◌, ◌++◌, length, refl, sym, ap, ◌∙◌, arith, IsTrue, Ok, Err, Result, OnOk, IfErr}
use Rattle.em_record.specs.Shape.{ShapeNumbers}
use Rattle.em_record.specs.declared.record.Record.{Record}
use Rattle.em_frames.specs.Pool.{HasFrames, SameFrames}
use Rattle.em_space.specs.Free.{AreDistinct}
use Rattle.em_space.specs.Held.{Apart, Holds}
use Rattle.em_space.specs.Ledger.{both, Costs, Runs, Spends, Stops}
use Rattle.em_space.specs.Rig.{RigState, Sound, Goes, Cause}
use Rattle.em_space.specs.declared.fault.EmFault.{EmFault}
use Rattle.em_space.proofs.Lists.{apart_left, apart_right, apart_sym, distinct_apart, distinct_right, in_use_right}
use Rattle.em_space.proofs.Runs.{runs_as, runs_first, runs_goes, runs_none, runs_of, runs_second, runs_then, runs_wider, stops_after, stops_first, stops_second, stops_wider}
use Rattle.em_chain.specs.Chain.{payload_in}
use Rattle.em_chain.specs.Counts.{ceiling}
use Rattle.em_chain.specs.Session.{Wrote, one_more, writer_account}
use Rattle.em_chain.specs.Writer.{CanGrow, IsWriter, WriterStays, filled, writer_blocks}
use Rattle.em_chain.specs.Writes.{Appends}
use Rattle.em_chain.specs.declared.writer.Writer.{Writer}
use Rattle.em_chain.proofs.Counts.{writer_blocks_are}
use Rattle.em_chain.proofs.Keeps.{has_kept, payload_kept}
use Rattle.em_chain.proofs.Laws.{writer_stays}
use Rattle.em_chain.proofs.Pairs.{blocks_least}
use Rattle.em_chain.proofs.Sessions.{more_low, wrote_none, wrote_one, wrote_stays, wrote_then}
use Rattle.em_chain.proofs.Withins.{within_grows}
use Rattle.aig_text.specs.Climbing.{after_record, after_records, above_operands, all_above_operands}
use Rattle.aig_text.specs.Draft.{Drafted, DraftsTo, HasDraftFrames, IsDraft, IsPackedWriter, StopsDraft, draft_account, draft_blocks, draft_len, draft_room}
use Rattle.aig_text.specs.declared.climb.Climb.{Climb}
use Rattle.aig_text.specs.declared.draft.Draft.{Draft}
use Rattle.aig_text.proofs.Ceilings.{room_by}
use Rattle.aig_text.proofs.Climbed.{past_append, rises_append}

-- The blocks of a packed list follow from its records.
pub packed_blocks_are : {s : RigState} {w : Writer} → 128 ≤ s.pool.shape.block
    → IsPackedWriter s w → w.blocks ≡ ceiling w.count (payload_in s)
packed_blocks_are {s} {w} low i =
    writer_blocks_are s w low i.is ∙ ap (λ (n : ℕ). ceiling n (payload_in s)) i.filled_is

-- The lists take no more blocks than n records more may take.
pub draft_within : {s : RigState} {d : Draft} (n : ℕ) → 128 ≤ s.pool.shape.block → IsDraft s d
    → (draft_account d).blocks ≤ draft_room s (draft_len d + n)
draft_within {s} {d} n low i = room_by d.defs.count d.gates.count d.uses.count d.resets.count
    (draft_len d + n) (payload_in s) (omega arith) (packed_blocks_are low i.defs)
    (packed_blocks_are low i.gates) (packed_blocks_are low i.uses) (packed_blocks_are low i.resets)
    (omega arith)

-- A list of at most 2^44 records can take one more.
can_grow : {s : RigState} {w : Writer} → 128 ≤ s.pool.shape.block → IsPackedWriter s w
    → w.count ≤ 2 ^ 44 → CanGrow w
can_grow {s} {w} low i few =
    let l = i.is.last in
    let b = blocks_least (payload_in s) w.blocks w.fill (omega arith)
    (λ e. l.fill_low (l.some e)) in
    record { count = omega arith; blocks = omega (arith, b, i.filled_is) }

-- So can each list of a draft of at most 2^44 records.
pub draft_can_grow : {s : RigState} {d : Draft} → Sound s → IsDraft s d → draft_len d ≤ 2 ^ 44
    → CanGrow d.defs × CanGrow d.gates × CanGrow d.uses × CanGrow d.resets
draft_can_grow h i few =
    let low = h.shape.block_low in (
      can_grow low i.defs (omega arith),
      can_grow low i.gates (omega arith),
      can_grow low i.uses (omega arith),
      can_grow low i.resets (omega arith),
    )

-- the blocks of all lists but the first
holds_rest : {s : RigState} (xs ys : List ℕ) → Holds s (xs ++ ys) → Holds s ys
holds_rest {s} xs ys h = record {
  in_use = in_use_right s xs ys h.in_use;
  distinct = λ y. distinct_right xs ys (h.distinct y);
}

-- the lists are apart from each other
pub record AreApart (xs ys zs : List ℕ) : Type 0 where
  pub xy : Apart xs ys
  pub xz : Apart xs zs
  pub yx : Apart ys xs
  pub yz : Apart ys zs
  pub zx : Apart zs xs
  pub zy : Apart zs ys

are_apart : (xs ys zs : List ℕ) → AreDistinct (xs ++ (ys ++ zs)) → AreApart xs ys zs
are_apart xs ys zs d =
    let a = apart_sym xs (ys ++ zs) (distinct_apart xs (ys ++ zs) d) in
    let b = distinct_apart ys zs (distinct_right xs (ys ++ zs) d) in
    record {
      xy = apart_sym ys xs (apart_left ys zs xs a);
      xz = apart_sym zs xs (apart_right ys zs xs a);
      yx = apart_left ys zs xs a;
      yz = b;
      zx = apart_right ys zs xs a;
      zy = apart_sym ys zs b;
    }

-- and from one more
pub record FourApart (ws xs ys zs : List ℕ) : Type 0 where
  pub three : AreApart xs ys zs
  pub xw : Apart xs ws
  pub yw : Apart ys ws
  pub zw : Apart zs ws
  pub wx : Apart ws xs
  pub wy : Apart ws ys
  pub wz : Apart ws zs

four_apart : (ws xs ys zs : List ℕ) → AreDistinct (ws ++ (xs ++ (ys ++ zs))) → FourApart ws xs ys zs
four_apart ws xs ys zs d =
    let all = apart_sym ws (xs ++ (ys ++ zs)) (distinct_apart ws (xs ++ (ys ++ zs)) d) in
    let rest = apart_right xs (ys ++ zs) ws all in
    let xw = apart_left xs (ys ++ zs) ws all in
    let yw = apart_left ys zs ws rest in
    let zw = apart_right ys zs ws rest in
    record {
      three = are_apart xs ys zs (distinct_right ws (xs ++ (ys ++ zs)) d);
      xw = xw;
      yw = yw;
      zw = zw;
      wx = apart_sym xs ws xw;
      wy = apart_sym ys ws yw;
      wz = apart_sym zs ws zw;
    }

pub draft_apart : {s : RigState} {d : Draft} → IsDraft s d → IsTrue s.device.told
    → FourApart (writer_blocks s d.resets) (writer_blocks s d.defs) (writer_blocks s d.gates)
    (writer_blocks s d.uses)
draft_apart {s} {d} i z = four_apart (writer_blocks s d.resets) (writer_blocks s d.defs)
    (writer_blocks s d.gates) (writer_blocks s d.uses) ((i.holds z).distinct z)

-- the blocks of all lists but that of resets
pub holds_lists : {s : RigState} {d : Draft} → IsDraft s d → IsTrue s.device.told
    → Holds s (writer_blocks s d.defs ++ (writer_blocks s d.gates ++ writer_blocks s d.uses))
holds_lists {s} {d} i z = holds_rest (writer_blocks s d.resets) _ (i.holds z)

-- A list on which no call was made stays.
beside : {s t : RigState} {w : Writer} (held : List ℕ) → Goes held s t
    → (IsTrue s.device.told → Apart (writer_blocks s w) held) → IsPackedWriter s w
    → WriterStays s t w
beside {s} {t} {w} held g a i = writer_stays held s t w g.touches a
    (has_kept 1 (length w.frame) s.pool t.pool g.frames i.is.frame) i.is

-- One record more was written to a list.
record Extends (s t : RigState) (w v : Writer) (x : Record) : Type 0 where
  pub runs : Runs v.blocks (writer_blocks s w) (writer_blocks t v) (writer_account w)
      (writer_account v) s t
  pub wrote : Wrote s t w v (x ∷ [])
  pub grows : w.blocks ≤ v.blocks

extends : {s t : RigState} {w v : Writer} {x : Record} → Sound s → IsWriter s w
    → Goes (writer_blocks s w) s t → Appends s t w v x
    → Spends (one_more s w) (writer_account w) (writer_account v) s t → Extends s t w v x
extends {s} {t} {w} {v} h i g a k =
    let m : v.blocks ≡ one_more s w = writer_blocks_are t v g.sound.shape.block_low a.is
    ∙ ap (λ (n : ℕ). ceiling n (payload_in t)) a.filled_is
    ∙ ap (λ (p : ℕ). ceiling (filled s w + 1) p) (payload_kept (writer_blocks s w) s t g.touches) in
    let low = more_low s w h.shape.block_low i in
    record {
      runs = runs_wider (omega (arith, m)) (runs_of (writer_blocks s w) (writer_blocks t v) g
          (within_grows s (writer_blocks s w) (writer_blocks t v) a.grown)
          (λ z. (a.is.told z).holds) k);
      wrote = wrote_one g.touches.told a;
      grows = omega (arith, m, low);
    }

-- One record more in the first list,
drafted_def : {s t : RigState} {d : Draft} {v : Writer} {k : Climb} {x : Record} → IsDraft s d
    → k ≡ after_record d.climb x → Extends s t d.defs v x
    → Drafted s t d (record d { defs = v; climb = k }) (x ∷ []) [] [] []
drafted_def {s} {t} {d} {v} {k} i up h =
    let g = runs_goes h.runs in
    let y = beside (writer_blocks s d.defs) g (λ k. (draft_apart i k).three.yx) i.gates in
    let z = beside (writer_blocks s d.defs) g (λ k. (draft_apart i k).three.zx) i.uses in
    let w = beside (writer_blocks s d.defs) g (λ k. (draft_apart i k).wx) i.resets in
    record {
      runs = runs_as (draft_blocks t (record d { defs = v; climb = k }))
          (runs_second (writer_blocks s d.resets) (writer_account d.resets) i.holds
          (runs_first (writer_blocks s d.gates ++ writer_blocks s d.uses)
          (both (writer_account d.gates) (writer_account d.uses)) (holds_lists i) h.runs))
          (λ k. rw (y.blocks k, z.blocks k, w.blocks k) refl);
      defs = h.wrote;
      gates = wrote_stays g.touches.told y;
      uses = wrote_stays g.touches.told z;
      resets = wrote_stays g.touches.told w;
      climb_is = up;
      rises_is = refl;
      grows = omega (arith, h.grows);
    }

-- in the second,
drafted_gate : {s t : RigState} {d : Draft} {v : Writer} {b : Bool} {x : Record} → IsDraft s d
    → b ≡ above_operands d.rises x → Extends s t d.gates v x
    → Drafted s t d (record d { gates = v; rises = b }) [] (x ∷ []) [] []
drafted_gate {s} {t} {d} {v} {b} i up h =
    let g = runs_goes h.runs in
    let xs = writer_blocks s d.defs in
    let zs = writer_blocks s d.uses in
    let y = beside (writer_blocks s d.gates) g (λ k. (draft_apart i k).three.xy) i.defs in
    let z = beside (writer_blocks s d.gates) g (λ k. (draft_apart i k).three.zy) i.uses in
    let w = beside (writer_blocks s d.gates) g (λ k. (draft_apart i k).wy) i.resets in
    record {
      runs = runs_as (draft_blocks t (record d { gates = v; rises = b }))
          (runs_second (writer_blocks s d.resets) (writer_account d.resets) i.holds
          (runs_second xs (writer_account d.defs) (holds_lists i)
          (runs_first zs (writer_account d.uses)
          (λ k. holds_rest xs (writer_blocks s d.gates ++ zs) (holds_lists i k)) h.runs)))
          (λ k. rw (y.blocks k, z.blocks k, w.blocks k) refl);
      defs = wrote_stays g.touches.told y;
      gates = h.wrote;
      uses = wrote_stays g.touches.told z;
      resets = wrote_stays g.touches.told w;
      climb_is = refl;
      rises_is = up;
      grows = omega (arith, h.grows);
    }

-- in the third,
drafted_use : {s t : RigState} {d : Draft} {v : Writer} {x : Record} → IsDraft s d
    → Extends s t d.uses v x → Drafted s t d (record d { uses = v }) [] [] (x ∷ []) []
drafted_use {s} {t} {d} {v} i h =
    let g = runs_goes h.runs in
    let xs = writer_blocks s d.defs in
    let ys = writer_blocks s d.gates in
    let y = beside (writer_blocks s d.uses) g (λ k. (draft_apart i k).three.xz) i.defs in
    let z = beside (writer_blocks s d.uses) g (λ k. (draft_apart i k).three.yz) i.gates in
    let w = beside (writer_blocks s d.uses) g (λ k. (draft_apart i k).wz) i.resets in
    record {
      runs = runs_as (draft_blocks t (record d { uses = v }))
          (runs_second (writer_blocks s d.resets) (writer_account d.resets) i.holds
          (runs_second xs (writer_account d.defs) (holds_lists i)
          (runs_second ys (writer_account d.gates)
          (λ k. holds_rest xs (ys ++ writer_blocks s d.uses) (holds_lists i k)) h.runs)))
          (λ k. rw (y.blocks k, z.blocks k, w.blocks k) refl);
      defs = wrote_stays g.touches.told y;
      gates = wrote_stays g.touches.told z;
      uses = h.wrote;
      resets = wrote_stays g.touches.told w;
      climb_is = refl;
      rises_is = refl;
      grows = omega (arith, h.grows);
    }

-- and in the fourth.
drafted_reset : {s t : RigState} {d : Draft} {v : Writer} {x : Record} → IsDraft s d
    → Extends s t d.resets v x → Drafted s t d (record d { resets = v }) [] [] [] (x ∷ [])
drafted_reset {s} {t} {d} {v} i h =
    let g = runs_goes h.runs in
    let y = beside (writer_blocks s d.resets) g (λ k. (draft_apart i k).xw) i.defs in
    let z = beside (writer_blocks s d.resets) g (λ k. (draft_apart i k).yw) i.gates in
    let w = beside (writer_blocks s d.resets) g (λ k. (draft_apart i k).zw) i.uses in
    record {
      runs = runs_as (draft_blocks t (record d { resets = v }))
          (runs_first (writer_blocks s d.defs ++ (writer_blocks s d.gates ++ writer_blocks s d.uses))
          (both (writer_account d.defs) (both (writer_account d.gates) (writer_account d.uses)))
          i.holds h.runs)
          (λ k. rw (y.blocks k, z.blocks k, w.blocks k) refl);
      defs = wrote_stays g.touches.told y;
      gates = wrote_stays g.touches.told z;
      uses = wrote_stays g.touches.told w;
      resets = h.wrote;
      climb_is = refl;
      rises_is = refl;
      grows = omega (arith, h.grows);
    }

-- the blocks of a packed list that has one record more
more_is : {s : RigState} {w : Writer} → IsPackedWriter s w
    → one_more s w ≡ ceiling (w.count + 1) (payload_in s)
more_is {s} {w} i = ap (λ (n : ℕ). ceiling (n + 1) (payload_in s)) i.filled_is

-- An append gave up: to the first list,
stops_def : {s t : RigState} {d : Draft} {e : EmFault} → Sound s → IsDraft s d
    → Stops (one_more s d.defs) (2 * one_more s d.defs) (min d.defs.blocks 1)
    (writer_blocks s d.defs) (writer_account d.defs) s t e → StopsDraft s t d 1 e
stops_def {s} {t} {d} h i k =
    let low = h.shape.block_low in
    let m = room_by (d.defs.count + 1) d.gates.count d.uses.count d.resets.count (draft_len d + 1)
    (payload_in s) (omega arith) (more_is i.defs) (packed_blocks_are low i.gates)
    (packed_blocks_are low i.uses) (packed_blocks_are low i.resets) (omega arith) in
    record {
      stops = stops_wider m (omega (arith, m)) (omega arith)
          (stops_second (writer_blocks s d.resets) (writer_account d.resets)
          (stops_first (writer_blocks s d.gates ++ writer_blocks s d.uses)
          (both (writer_account d.gates) (writer_account d.uses)) k));
    }

-- to the second,
stops_gate : {s t : RigState} {d : Draft} {e : EmFault} → Sound s → IsDraft s d
    → Stops (one_more s d.gates) (2 * one_more s d.gates) (min d.gates.blocks 1)
    (writer_blocks s d.gates) (writer_account d.gates) s t e → StopsDraft s t d 1 e
stops_gate {s} {t} {d} h i k =
    let low = h.shape.block_low in
    let m = room_by d.defs.count (d.gates.count + 1) d.uses.count d.resets.count (draft_len d + 1)
    (payload_in s) (omega arith) (packed_blocks_are low i.defs) (more_is i.gates)
    (packed_blocks_are low i.uses) (packed_blocks_are low i.resets) (omega arith) in
    record {
      stops = stops_wider m (omega (arith, m)) (omega arith)
          (stops_second (writer_blocks s d.resets) (writer_account d.resets)
          (stops_second (writer_blocks s d.defs) (writer_account d.defs)
          (stops_first (writer_blocks s d.uses) (writer_account d.uses) k)));
    }

-- to the third,
stops_use : {s t : RigState} {d : Draft} {e : EmFault} → Sound s → IsDraft s d
    → Stops (one_more s d.uses) (2 * one_more s d.uses) (min d.uses.blocks 1)
    (writer_blocks s d.uses) (writer_account d.uses) s t e → StopsDraft s t d 1 e
stops_use {s} {t} {d} h i k =
    let low = h.shape.block_low in
    let m = room_by d.defs.count d.gates.count (d.uses.count + 1) d.resets.count (draft_len d + 1)
    (payload_in s) (omega arith) (packed_blocks_are low i.defs) (packed_blocks_are low i.gates)
    (more_is i.uses) (packed_blocks_are low i.resets) (omega arith) in
    record {
      stops = stops_wider m (omega (arith, m)) (omega arith)
          (stops_second (writer_blocks s d.resets) (writer_account d.resets)
          (stops_second (writer_blocks s d.defs) (writer_account d.defs)
          (stops_second (writer_blocks s d.gates) (writer_account d.gates) k)));
    }

-- to the fourth.
stops_reset : {s t : RigState} {d : Draft} {e : EmFault} → Sound s → IsDraft s d
    → Stops (one_more s d.resets) (2 * one_more s d.resets) (min d.resets.blocks 1)
    (writer_blocks s d.resets) (writer_account d.resets) s t e → StopsDraft s t d 1 e
stops_reset {s} {t} {d} h i k =
    let low = h.shape.block_low in
    let m = room_by d.defs.count d.gates.count d.uses.count (d.resets.count + 1) (draft_len d + 1)
    (payload_in s) (omega arith) (packed_blocks_are low i.defs) (packed_blocks_are low i.gates)
    (packed_blocks_are low i.uses) (more_is i.resets) (omega arith) in
    record {
      stops = stops_wider m (omega (arith, m)) (omega arith)
          (stops_first (writer_blocks s d.defs ++ (writer_blocks s d.gates ++ writer_blocks s d.uses))
          (both (writer_account d.defs) (both (writer_account d.gates) (writer_account d.uses))) k);
    }

-- What an append to one list does to all: to the first,
pub adds_def : {T : Type 0} (s t : RigState) (d : Draft) (v : Writer) (k : Climb) (x : Record)
    (result : Result T EmFault) → k ≡ after_record d.climb x → Sound s → IsDraft s d → Goes (writer_blocks s d.defs) s t
    → OnOk result (Appends s t d.defs v x)
    → Costs (one_more s d.defs) (2 * one_more s d.defs) (min d.defs.blocks 1)
    (writer_account d.defs) (writer_account v) s t result → IfErr result (Cause s t)
    → DraftsTo s t d (record d { defs = v; climb = k }) (x ∷ []) [] [] [] result
adds_def s t d v k x (Ok y) up h i g a m c = drafted_def i up (extends h i.defs.is g a m)
adds_def s t d v k x (Err e) up h i g a m c =
    stops_def h i (record { goes = g; halts = m; cause = c })

-- to the second,
pub adds_gate : {T : Type 0} (s t : RigState) (d : Draft) (v : Writer) (b : Bool) (x : Record)
    (result : Result T EmFault) → b ≡ above_operands d.rises x → Sound s → IsDraft s d → Goes (writer_blocks s d.gates) s t
    → OnOk result (Appends s t d.gates v x)
    → Costs (one_more s d.gates) (2 * one_more s d.gates) (min d.gates.blocks 1)
    (writer_account d.gates) (writer_account v) s t result → IfErr result (Cause s t)
    → DraftsTo s t d (record d { gates = v; rises = b }) [] (x ∷ []) [] [] result
adds_gate s t d v b x (Ok y) up h i g a k c = drafted_gate i up (extends h i.gates.is g a k)
adds_gate s t d v b x (Err e) up h i g a k c =
    stops_gate h i (record { goes = g; halts = k; cause = c })

-- to the third,
pub adds_use : {T : Type 0} (s t : RigState) (d : Draft) (v : Writer) (x : Record)
    (result : Result T EmFault) → Sound s → IsDraft s d → Goes (writer_blocks s d.uses) s t
    → OnOk result (Appends s t d.uses v x)
    → Costs (one_more s d.uses) (2 * one_more s d.uses) (min d.uses.blocks 1)
    (writer_account d.uses) (writer_account v) s t result → IfErr result (Cause s t)
    → DraftsTo s t d (record d { uses = v }) [] [] (x ∷ []) [] result
adds_use s t d v x (Ok y) h i g a k c = drafted_use i (extends h i.uses.is g a k)
adds_use s t d v x (Err e) h i g a k c =
    stops_use h i (record { goes = g; halts = k; cause = c })

-- to the fourth.
pub adds_reset : {T : Type 0} (s t : RigState) (d : Draft) (v : Writer) (x : Record)
    (result : Result T EmFault) → Sound s → IsDraft s d → Goes (writer_blocks s d.resets) s t
    → OnOk result (Appends s t d.resets v x)
    → Costs (one_more s d.resets) (2 * one_more s d.resets) (min d.resets.blocks 1)
    (writer_account d.resets) (writer_account v) s t result → IfErr result (Cause s t)
    → DraftsTo s t d (record d { resets = v }) [] [] [] (x ∷ []) result
adds_reset s t d v x (Ok y) h i g a k c = drafted_reset i (extends h i.resets.is g a k)
adds_reset s t d v x (Err e) h i g a k c =
    stops_reset h i (record { goes = g; halts = k; cause = c })

-- The four frames are out, whatever the call did.
pub frames_kept : (s t : RigState) (d e : Draft) → HasDraftFrames s d → SameFrames s.pool t.pool
    → length e.defs.frame ≡ length d.defs.frame → length e.gates.frame ≡ length d.gates.frame
    → length e.uses.frame ≡ length d.uses.frame → length e.resets.frame ≡ length d.resets.frame
    → HasDraftFrames t e
frames_kept s t d e h f x y z w = record {
  defs = rw x (has_kept 4 (length d.defs.frame) s.pool t.pool f h.defs);
  gates = rw y (has_kept 4 (length d.gates.frame) s.pool t.pool f h.gates);
  uses = rw z (has_kept 4 (length d.uses.frame) s.pool t.pool f h.uses);
  resets = rw w (has_kept 4 (length d.resets.frame) s.pool t.pool f h.resets);
}

-- the frame of a writer that is called has the same length
pub frame_same : (s t : RigState) (len : ℕ) (v : Writer) → HasFrames 4 len s.pool
    → SameFrames s.pool t.pool → HasFrames 1 (length v.frame) t.pool → length v.frame ≡ len
frame_same s t len v h f g =
    g.len_is ∙ ap (λ (n : ShapeNumbers). n.block) f.shape ∙ sym h.len_is

-- Nothing was written.
pub drafted_none : {s : RigState} {d : Draft} → Sound s → IsDraft s d → Drafted s s d d [] [] [] []
drafted_none {s} {d} h i = record {
  runs = runs_none s (draft_blocks s d) (draft_account d) h i.holds;
  defs = wrote_none i.defs.is;
  gates = wrote_none i.gates.is;
  uses = wrote_none i.uses.is;
  resets = wrote_none i.resets.is;
  climb_is = refl;
  rises_is = refl;
  grows = omega arith;
}

-- Records were written, and then more of them.
pub drafted_then : {s t u : RigState} {d e k : Draft} (xs ys zs ws xs2 ys2 zs2 ws2 : List Record)
    → Drafted s t d e xs ys zs ws → Drafted t u e k xs2 ys2 zs2 ws2
    → Drafted s u d k (xs ++ xs2) (ys ++ ys2) (zs ++ zs2) (ws ++ ws2)
drafted_then {s} {t} {u} {d} {e} {k} xs ys zs ws xs2 ys2 zs2 ws2 h g =
    let m = g.grows in
    let n = h.grows in
    record {
      runs = runs_wider (omega arith) (runs_then h.runs g.runs);
      defs = wrote_then xs xs2 h.defs g.defs;
      gates = wrote_then ys ys2 h.gates g.gates;
      uses = wrote_then zs zs2 h.uses g.uses;
      resets = wrote_then ws ws2 h.resets g.resets;
      climb_is = g.climb_is ∙ ap (λ (c : Climb). after_records c xs2) h.climb_is
          ∙ sym (past_append d.climb xs xs2);
      rises_is = g.rises_is ∙ ap (λ (b : Bool). all_above_operands b ys2) h.rises_is
          ∙ sym (rises_append d.rises ys ys2);
      grows = omega arith;
    }

-- A packed list to which records were written is packed.
packed_wrote : {s t : RigState} {w v : Writer} {xs : List Record} → IsPackedWriter s w
    → Wrote s t w v xs → IsPackedWriter t v
packed_wrote {s} {t} {w} {v} i h = record {
  is = h.is;
  packed = λ z. let y : IsTrue s.device.told = sym h.told ∙ z in h.packed y (i.packed y);
  skip_is = h.skip_is ∙ i.skip_is;
  filled_is = omega (arith, h.filled_is, h.count_is, i.filled_is);
}

-- A draft to which records were written is one.
pub drafted_is : {s t : RigState} {d e : Draft} {xs ys zs ws : List Record} → IsDraft s d
    → Drafted s t d e xs ys zs ws → IsDraft t e
drafted_is {s} {t} {d} {e} i h =
    let f = h.runs.frames in
    record {
      defs = packed_wrote i.defs h.defs;
      gates = packed_wrote i.gates h.gates;
      uses = packed_wrote i.uses h.uses;
      resets = packed_wrote i.resets h.resets;
      frames = frames_kept s t d e i.frames f
          (frame_same s t (length d.defs.frame) e.defs i.frames.defs f h.defs.is.frame)
          (frame_same s t (length d.gates.frame) e.gates i.frames.gates f h.gates.is.frame)
          (frame_same s t (length d.uses.frame) e.uses i.frames.uses f h.uses.is.frame)
          (frame_same s t (length d.resets.frame) e.resets i.frames.resets f h.resets.is.frame);
      holds = λ z. h.runs.session.holds (sym h.defs.told ∙ z);
    }

-- A draft has the records that it had, and those that were written.
pub drafted_len : {s t : RigState} {d e : Draft} {xs ys zs ws : List Record}
    → Drafted s t d e xs ys zs ws
    → draft_len e ≡ draft_len d + (length xs + length ys + length zs + length ws)
drafted_len h =
    omega (arith, h.defs.count_is, h.gates.count_is, h.uses.count_is, h.resets.count_is)

-- A call gave up that was to write n records at most, after others had written some.
pub drafted_stops : {s t u : RigState} {d e : Draft} {xs ys zs ws : List Record} {fault : EmFault}
    (n : ℕ) → IsDraft s d → Drafted s t d e xs ys zs ws → StopsDraft t u e n fault
    → StopsDraft s u d (length xs + length ys + length zs + length ws + n) fault
drafted_stops {s} {t} {u} {d} {e} {xs} {ys} {zs} {ws} n i h k =
    let m = length xs + length ys + length zs + length ws in
    let len : draft_len e + n ≡ draft_len d + (m + n) = omega (arith, drafted_len h) in
    let room : draft_room t (draft_len e + n) ≡ draft_room s (draft_len d + (m + n)) =
    ap (λ (j : ℕ). draft_room t j) len
    ∙ ap (λ (p : ℕ). ceiling (draft_len d + (m + n)) p + 3)
    (payload_kept (draft_blocks s d) s t h.runs.session.touches) in
    let low = draft_within n h.runs.session.sound.shape.block_low (drafted_is i h) in
    record {
      stops = stops_wider (omega (arith, low, room)) (omega (arith, room)) (omega arith)
          (stops_after h.runs k.stops);
    }
