-- The leaf that was written is taken as a chain.
use Rattle.std.proofs.Common.{◌≡◌, ℕ, ◌+◌, min, List, ◌++◌, refl, sym, ap, ◌∙◌, subst, arith, IsTrue}
use Rattle.em_record.specs.Shape.{ShapeNumbers}
use Rattle.em_frames.specs.Pool.{SameFrames, load_of, singles_of}
use Rattle.em_space.specs.Held.{Apart}
use Rattle.em_space.specs.Rig.{RigState, Sound}
use Rattle.em_space.specs.declared.fault.EmFault.{EmFault}
use Rattle.em_space.proofs.Lists.{distinct_apart}
use Rattle.em_chain.specs.Chain.{chain_blocks, payload_in}
use Rattle.em_chain.specs.Counts.{ceiling}
use Rattle.em_chain.specs.Writer.{WriterHasFrame, filled, writer_blocks}
use Rattle.em_chain.specs.declared.chain.Chain.{Chain}
use Rattle.em_chain.specs.declared.writer.Writer.{Writer}
use Rattle.em_chain.proofs.Counts.{writer_blocks_are}
use Rattle.em_chain.proofs.Keeps.{payload_kept}
use Rattle.em_tree_load.proofs.Payments.{paid_same, stops_paid_more}
use Rattle.em_tree_walk.specs.Paid.{RunsPaid, StopsPaid}
use Rattle.em_tree_walk.proofs.Regions.{tally, tally_append}
use Rattle.em_tree_trim.proofs.Runs.{paid_count}
use Rattle.em_bulk.specs.Building.{BuilderHasFrames, IsOpen, builder_blocks, builder_unstored}
use Rattle.em_bulk.specs.Full.{IsExactLeaf, full_blocks}
use Rattle.em_bulk.specs.Taken.{StopsTakingList, TookList}
use Rattle.em_bulk.specs.declared.builder.Builder.{Builder}
use Rattle.em_bulk.proofs.Added.{list_frame}
use Rattle.em_bulk.proofs.Calls.{runs_in, stops_in, swapped}
use Rattle.em_bulk.proofs.Kept.{LeavesKept, leaves_kept}

-- the frames of a builder over a call that leaves as many free, with another list for the leaf
pub frames_over : (s t : RigState) (b : Builder) (v : Writer) → SameFrames s.pool t.pool → WriterHasFrame t v
    → BuilderHasFrames s b → BuilderHasFrames t (record b { leaf = v })
frames_over s t b v e f i =
    let free = e.free in
    let out = i.out in
    let singles = ap singles_of e.shape in
    record {
      leaf = f.len_is;
      list = i.list ∙ ap (λ (p : ShapeNumbers). p.block) (sym e.shape);
      out = omega (arith, free, out, singles);
    }

module _ {s : RigState} {b : Builder} {top : ℕ} (sound : Sound s) (i : IsOpen s b top) where
  abbrev F : List ℕ
  F = full_blocks s b.full

  abbrev L : List ℕ
  L = writer_blocks s b.leaf

  -- It was,
  module _ {a : RigState} {v : Writer} {c : Chain} (x : TookList s a b.leaf v c) where
    pub taken_frames : BuilderHasFrames a (record b { leaf = v })
    taken_frames = frames_over s a b v x.runs.frames x.fresh.is.frame i.frames

    leaf_apart : IsTrue s.device.told → Apart F L
    leaf_apart z = distinct_apart F L ((i.told z).holds.distinct z)

    pub taken_full : LeavesKept s a b.full
    taken_full = leaves_kept x.runs.session.touches leaf_apart (list_frame taken_frames) i.full

    pub taken_exact : IsExactLeaf a c
    taken_exact =
        let low = sound.shape.block_low in
        let n = x.finishes.count_is in
        let b1 = x.finishes.blocks_is in
        let size = i.size in
        let same = ap load_of x.runs.session.touches.shape in
        let e : filled s b.leaf ≡ c.count = i.filled_is ∙ sym n in
        let w = writer_blocks_are s b.leaf low i.leaf in
        let p = payload_kept L s a x.runs.session.touches in
        record {
          leaf = record {
            chain = x.finishes.is;
            packed = λ y.
                let z : IsTrue s.device.told = sym x.runs.session.touches.told ∙ y in
                x.finishes.packed z (i.told z).packed;
            most = omega (arith, n, size, same);
          };
          exact = b1 ∙ (w ∙ (ap (λ (k : ℕ). ceiling k (payload_in s)) e ∙ ap (λ (q : ℕ). ceiling c.count q) (sym p)));
        }

    pub taken_runs : RunsPaid (builder_blocks s b) (full_blocks a b.full ++ chain_blocks a c) (builder_unstored b)
        (min b.full.list.blocks 1) s a
    taken_runs =
        let m = min b.leaf.blocks 1 in
        let k = min b.full.list.blocks 1 in
        let e1 : m + k ≡ builder_unstored b = omega arith in
        let e2 : 0 + k ≡ k = omega arith in
        let r = runs_in F k sound (λ z. (i.told z).holds) (λ z. swapped F L) x.runs in
        paid_same (full_blocks a b.full ++ chain_blocks a c) (paid_count (m + k) (0 + k) (builder_unstored b) k e1 e2 r)
        (λ z j.
        let p = tally_append j (chain_blocks a c) F in
        let q = tally_append j (full_blocks a b.full) (chain_blocks a c) in
        let o = ap (tally j) (taken_full.blocks z) in
        omega (arith, p, q, o))

  -- or it couldn't be.
  pub taken_stops : {a : RigState} {v : Writer} {e : EmFault} → StopsTakingList s a b.leaf v e
      → StopsPaid (builder_blocks s b) (builder_unstored b) 2 s a e
  taken_stops {a} {v} {e} x =
      let m = min b.leaf.blocks 1 in
      let k = min b.full.list.blocks 1 in
      let e1 : m + k ≡ builder_unstored b = omega arith in
      let P : ℕ → Type 0 = λ n. StopsPaid (builder_blocks s b) n 2 s a e in
      subst P e1 (stops_paid_more (builder_blocks s b) 2 (omega arith)
      (stops_in F k sound (λ z. (i.told z).holds) (λ z. swapped F L) x.stops) (λ z j. refl))
