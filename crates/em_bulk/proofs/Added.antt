-- A pair is added to the leaf that is being written.
use Rattle.std.proofs.Common.{◌≡◌, ℕ, ◌+◌, ◌*◌, ◌^◌, ◌<◌, min, List, [], ◌∷◌, ◌++◌, length, refl, sym, ap, ◌∙◌, subst, arith, append_assoc, inr, IsTrue, Result, Ok, Err, IfErr, OnOk}
use Rattle.em_record.specs.Shape.{ShapeNumbers}
use Rattle.em_record.specs.declared.record.Record.{Record}
use Rattle.em_frames.specs.Pool.{HasFrames, singles_of}
use Rattle.em_settle.specs.Map.{map_key_of, map_record}
use Rattle.em_space.specs.Held.{Apart, Holds}
use Rattle.em_space.specs.Ledger.{Costs}
use Rattle.em_space.specs.Rig.{Cause, Goes, IfFull, RigState, Sound}
use Rattle.em_space.specs.declared.fault.EmFault.TheVariants.{DeviceFault, Full, Damaged}
use Rattle.em_chain.specs.Effects.{OnFull}
use Rattle.em_space.specs.declared.fault.EmFault.{EmFault}
use Rattle.em_space.proofs.Lists.{distinct_apart}
use Rattle.em_chain.specs.Session.{one_more, writer_account}
use Rattle.em_chain.specs.Writer.{WriterHasFrame, writer_blocks, writer_items}
use Rattle.em_chain.specs.Writes.{AppendCosts, Appends}
use Rattle.em_chain.specs.declared.writer.Writer.{Writer}
use Rattle.em_chain.proofs.Writings.{writes_one}
use Rattle.em_tree_load.proofs.Payments.{paid_same, stops_paid_more}
use Rattle.em_tree_model.specs.Ranges.{least_record}
use Rattle.em_tree_trim.specs.Rows.{LeadUpTo, first_low, records_in, rows_in}
use Rattle.em_tree_trim.proofs.Runs.{paid_count}
use Rattle.em_tree_walk.specs.Paid.{RunsPaid, StopsPaid}
use Rattle.em_tree_walk.proofs.Losses.{loses_runs, writer_length}
use Rattle.em_tree_walk.proofs.Regions.{tally, tally_append}
use Rattle.em_bulk.specs.Building.{AddedPair, AddsPair, BuilderHasFrames, HoldsPairs, IsOpen, StopsAdding, builder_blocks}
use Rattle.em_bulk.specs.Full.{full_blocks, full_count, full_parts}
use Rattle.em_bulk.specs.Pairs.{IsRun, key_record, lot_of}
use Rattle.em_bulk.specs.declared.builder.Builder.{Builder}
use Rattle.em_bulk.proofs.Calls.{runs_in, stops_in, swapped}
use Rattle.em_bulk.proofs.Keys.{run_more}
use Rattle.em_bulk.proofs.Kept.{LeavesKept, leaves_kept}

-- the frames of both lists, one of which was used
pub list_frame : {s : RigState} {b : Builder} → BuilderHasFrames s b → HasFrames 1 (length b.full.list.frame) s.pool
list_frame f = let out = f.out in record { len_is = f.list; out = omega (arith, out) }

-- Full only if no block is free
full_of : (s t : RigState) (e : EmFault) → Cause s t e → IfErr {T = Unit} (Err e) (λ f. OnFull f (t.used ≡ s.used))
    → t.blocks ≡ s.blocks → IfFull e (λ _. s.blocks < s.used + 1)
full_of s t DeviceFault c f b = tt
full_of s t (Full n) c f b = let u = c.1 in omega (arith, u, f, b)
full_of s t (Damaged k) c f b = tt

module _ {s t : RigState} {b : Builder} (v : Writer) (key value : ℕ) (sound : Sound s) (i : IsOpen s b key)
    (size : b.leaf.count < lot_of s.pool.shape) (few : b.count < 2 ^ 56) (g : Goes (writer_blocks s b.leaf) s t)
    (frame : WriterHasFrame t v) where
  abbrev pub F : List ℕ
  F = full_blocks s b.full

  abbrev pub d : Builder
  d = record b { leaf = v; last = key; count = b.count + 1 }

  leaf_apart : IsTrue s.device.told → Apart F (writer_blocks s b.leaf)
  leaf_apart z = distinct_apart F (writer_blocks s b.leaf) (((i.told z).holds).distinct z)

  frames_after : BuilderHasFrames t d
  frames_after =
      let free = g.frames.free in
      let out = i.frames.out in
      let singles = ap singles_of g.frames.shape in
      record {
        leaf = frame.len_is;
        list = i.frames.list ∙ ap (λ (p : ShapeNumbers). p.block) (sym g.frames.shape);
        out = omega (arith, free, out, singles);
      }

  full_after : LeavesKept s t b.full
  full_after = leaves_kept g.touches leaf_apart (list_frame frames_after) i.full

  same_after : (k : ℕ) → tally k (F ++ writer_blocks s b.leaf) ≡ tally k (writer_blocks s b.leaf ++ F)
  same_after k = swapped F (writer_blocks s b.leaf) k

  counted : (l m n : ℕ) → l ≡ m → v.count ≡ b.leaf.count + 1 → b.count ≡ b.leaf.count + m * n
      → b.count + 1 ≡ v.count + l * n
  counted l m n e c o = let p : l * n ≡ m * n = ap (λ (k : ℕ). k * n) e in omega (arith, c, o, p)

  pairs_after : IsTrue s.device.told → Appends s t b.leaf v (map_record key value) → Holds t (builder_blocks t d)
      → HoldsPairs t d (key + 1)
  pairs_after z a holds =
      let p = i.told z in
      let L : List (Record × List Record) → Type 0 = LeadUpTo map_key_of (key_record b.low) in
      let O : List (Record × List Record) → Type 0 = λ ps. first_low (key_record b.low) ps ≡ least_record in
      let R : List Record → Type 0 = λ xs. IsRun b.low (key + 1) xs in
      record {
        holds = holds;
        packed = a.packed z p.packed;
        lead = subst L (sym (full_after.parts z)) p.lead;
        first = subst O (sym (full_after.parts z)) p.first;
        run = subst R (sym (a.items z)) (run_more value i.low p.run);
      }

  -- It was added,
  added : {T : Type 0} (y : T) → Appends s t b.leaf v (map_record key value) → AppendCosts s t b.leaf v (Ok y)
      → Costs (one_more s b.leaf) (2 * one_more s b.leaf) (min b.leaf.blocks 1) (writer_account b.leaf)
      (writer_account v) s t (Ok y) → AddedPair s t b d key value
  added y a k h =
      let w = writes_one y g a k h in
      let L = writer_blocks s b.leaf in
      let V = writer_blocks t v in
      let m = min b.leaf.blocks 1 in
      let n = min v.blocks 1 in
      let x = min b.full.list.blocks 1 in
      let leaf_paid : RunsPaid L V m n s t = record {
        session = w.runs.session;
        frames = w.runs.frames;
        pays = w.runs.spends.pays;
        loses = loses_runs w.runs (λ z. writer_length i.leaf z) (λ z. writer_length a.is (g.touches.told ∙ z));
      } in
      let r = runs_in F x sound (λ z. (i.told z).holds) (λ z. same_after) leaf_paid in
      let e1 : m + x ≡ x + m = omega arith in
      let e2 : n + x ≡ x + n = omega arith in
      let moves = k.moves in
      let used = k.used in
      let most = k.most in
      let more = k.more in
      let cnt = a.count_is in
      let fil = a.filled_is in
      let fs = i.filled_is in
      let old = i.count in
      let low = i.low in
      let shape = ap lot_of g.touches.shape in
      let runs = paid_same (builder_blocks t d) (paid_count (m + x) (n + x) (x + m) (x + n) e1 e2 r)
      (λ z j.
      let p = tally_append j V F in
      let q = tally_append j (full_blocks t b.full) V in
      let o = ap (tally j) (full_after.blocks z) in
      omega (arith, p, q, o)) in
      record {
        runs = runs;
        is = record {
          below = record {
            full = full_after.is;
            leaf = a.is;
            frames = frames_after;
            filled_is = omega (arith, fil, cnt, fs);
            size = omega (arith, cnt, size, shape);
            count = counted (lot_of t.pool.shape) (lot_of s.pool.shape) (full_count b.full) shape cnt old;
            most = omega (arith, few);
            low = omega (arith, low);
            told = λ u. let z : IsTrue s.device.told = sym g.touches.told ∙ u in pairs_after z a (runs.session.holds z);
          };
          some = inr (omega (arith, cnt), low);
          none = λ e z. absurd (omega (arith, e));
        };
        last = refl;
        count = refl;
        pairs = λ z. ap (λ (ps : List (Record × List Record)). records_in (rows_in ps) ++ writer_items t v) (full_after.parts z)
            ∙ (ap (λ (xs : List Record). records_in (rows_in (full_parts s b.full)) ++ xs) (a.items z)
            ∙ sym (append_assoc (records_in (rows_in (full_parts s b.full))) (writer_items s b.leaf)
            (map_record key value ∷ [])));
        moves = omega (arith, moves);
        peaks = record { used = omega (arith, used, more); most = omega (arith, used, more, most) };
      }

  -- or it couldn't be.
  unadded : {e : EmFault} → AppendCosts {T = Unit} s t b.leaf v (Err e)
      → Costs {T = Unit} (one_more s b.leaf) (2 * one_more s b.leaf) (min b.leaf.blocks 1) (writer_account b.leaf)
      (writer_account v) s t (Err e) → Cause s t e → StopsAdding s t b e
  unadded {e} k h c =
      let m = min b.leaf.blocks 1 in
      let x = min b.full.list.blocks 1 in
      let e1 : m + x ≡ x + m = omega arith in
      let P : ℕ → Type 0 = λ n. StopsPaid (builder_blocks s b) n 2 s t e in
      let leaf_stops : StopsPaid (writer_blocks s b.leaf) m m s t e = record { goes = g; pays = h.pays; cause = c } in
      let r = stops_in F x sound (λ z. (i.told z).holds) (λ z. same_after) leaf_stops in
      let used = k.used_err in
      let most = k.most in
      let moves = k.moves_err in
      record {
        stops = subst P e1 (stops_paid_more (builder_blocks s b) 2 (omega arith) r (λ z j. refl));
        full = full_of s t e c k.full g.touches.blocks;
        moves = moves;
        peaks = record { used = used; most = omega (arith, used, most) };
      }

  pub adds : (result : Result Unit EmFault) → OnOk result (Appends s t b.leaf v (map_record key value))
      → AppendCosts s t b.leaf v result
      → Costs (one_more s b.leaf) (2 * one_more s b.leaf) (min b.leaf.blocks 1) (writer_account b.leaf)
      (writer_account v) s t result → IfErr result (Cause s t) → AddsPair s t b d key value result
  adds (Ok x) a k h c = added x a k h
  adds (Err e) a k h c = unadded k h c

  pub adds_frames : BuilderHasFrames t d
  adds_frames = frames_after
