-- Lists are opened to be compared, and let go.
use Rattle.std.proofs.Common.{◌≡◌, ℕ, ◌+◌, ◌≤◌, [], refl, ap, sym, ◌∙◌, arith}
use Rattle.em_record.specs.Shape.{ShapeNumbers}
use Rattle.em_frames.specs.Pool.{HasFrames, PoolCounts, singles_of}
use Rattle.em_space.specs.Rig.{RigState}
use Rattle.em_space.proofs.Held.{apart_none}
use Rattle.em_space.proofs.Steps.{touches_then}
use Rattle.em_chain.specs.Effects.{LendsFrame, GivesFrame, Unmoved}
use Rattle.em_chain.specs.Writer.{writer_blocks}
use Rattle.em_chain.specs.Writes.{Begins}
use Rattle.em_chain.specs.declared.chain.Chain.{Chain}
use Rattle.em_chain.specs.declared.writer.Writer.{Writer}
use Rattle.em_chain.proofs.Laws.{writer_stays}
use Rattle.em_weave.specs.Effects.{GivesTwo, LendsTwo}
use Rattle.em_weave.specs.State.{weave_blocks}
use Rattle.em_weave.specs.Weaves.{OpensBoth}
use Rattle.em_weave.specs.declared.weave.Weave.{Weave}
use Rattle.em_weave.proofs.Weavings.{weave_stays}
use Rattle.aig_defs.specs.Sorted.{constant_def}
use Rattle.aig_edges.specs.Comparison.{GivesFour, IsBegun, OpensLists}

-- frames that are out are out after others came or went, if as many are out
pub has_out : {m n len : ℕ} {p q : PoolCounts} → HasFrames m len p → q.shape ≡ p.shape
    → q.free + n ≤ singles_of q.shape → HasFrames n len q
has_out h e out = record {
  len_is = h.len_is ∙ ap (λ (x : ShapeNumbers). x.block) (sym e);
  out = out;
}

pub unmoved_then : {s t u : RigState} → Unmoved s t → Unmoved t u → Unmoved s u
unmoved_then h g = record {
  device = g.device ∙ h.device;
  spare = g.spare ∙ h.spare;
  same = record {
    head = g.same.head ∙ h.same.head;
    used = g.same.used ∙ h.same.used;
    most = g.same.most ∙ h.same.most;
  };
  moves = g.moves ∙ h.moves;
}

-- A list that was begun, after another frame was lent.
begun_lent : {s t : RigState} {w : Writer} → Begins s w → LendsFrame s t → IsBegun t w
begun_lent {s} {t} {w} b l =
    let shape = ap singles_of l.frames.shape in
    let free = l.frames.free in
    let out = b.is.frame.out in
    let st = writer_stays [] s t w l.touches (λ z. apart_none (writer_blocks s w))
    (has_out b.is.frame l.frames.shape (omega (arith, shape, free, out))) b.is in
    record {
      is = st.is;
      items = λ y. st.items (sym l.touches.told ∙ y) ∙ b.items;
      held = λ y. st.blocks (sym l.touches.told ∙ y) ∙ b.held;
      packed = λ y. st.packed (sym l.touches.told ∙ y) b.packed;
      count = b.count;
      blocks = b.blocks;
      filled_is = st.filled_is ∙ b.filled_is;
    }

begun_now : {s : RigState} {w : Writer} → Begins s w → IsBegun s w
begun_now b = record {
  is = b.is;
  items = λ y. b.items;
  held = λ y. b.held;
  packed = λ y. b.packed;
  count = b.count;
  blocks = b.blocks;
  filled_is = b.filled_is;
}

-- Two lists were opened, and two begun.
pub opens_lists : {s a b t : RigState} {defs edges : Chain} {w : Weave} {x y : Writer}
    → LendsTwo s a → Unmoved s a → OpensBoth s a defs edges w → LendsFrame a b → Unmoved a b
    → Begins b x → LendsFrame b t → Unmoved b t → Begins t y
    → OpensLists s t defs edges (record {
      weave = w;
      sources = x;
      edges = y;
      last = constant_def;
    })
opens_lists {s} {a} {b} {t} {defs} {edges} {w} {x} {y} l u o m v c n k d =
    let two = touches_then [] a b t m.touches n.touches in
    let shape = n.frames.shape ∙ m.frames.shape in
    let singles = ap singles_of (shape ∙ l.frames.shape) in
    let all = l.within in
    let f = l.frames.free in
    let g = m.frames.free in
    let h = n.frames.free in
    let st = weave_stays [] a t w two (λ z. apart_none (weave_blocks a w)) (record {
      left = has_out o.is.frames.left shape (omega (arith, singles, all, f, g, h));
      right = has_out o.is.frames.right shape (omega (arith, singles, all, f, g, h));
    }) o.is in
    let told = l.touches.told in
    record {
      sound = n.sound;
      touches = touches_then [] s a t l.touches two;
      frames = record {
        shape = shape ∙ l.frames.shape;
        free = omega (arith, f, g, h);
        rack = n.frames.rack ∙ m.frames.rack ∙ l.frames.rack;
        free_areas = n.frames.free_areas ∙ m.frames.free_areas ∙ l.frames.free_areas;
        peak =
            let p = l.frames.peak in let q = m.frames.peak in let r = n.frames.peak in
            omega (arith, p, q, r);
      };
      within = all;
      unmoved = unmoved_then u (unmoved_then v k);
      weave = st.is;
      sources_begun = begun_lent c n;
      edges_begun = begun_now d;
      defs_are = λ z. st.left (told ∙ z) ∙ o.left_items z;
      edges_are = λ z. st.right (told ∙ z) ∙ o.right_items z;
      blocks = λ z. st.blocks (told ∙ z) ∙ o.blocks z;
      left_count = o.left_count;
      right_count = o.right_count;
      held_is = o.held_is;
      owed_is = o.owed_is;
      last_is = refl;
    }

-- All four frames came back.
pub gives_four : {s a b t : RigState} → GivesTwo [] s a → Unmoved s a → GivesFrame [] a b
    → Unmoved a b → GivesFrame [] b t → Unmoved b t → GivesFour [] s t × Unmoved s t
gives_four {s} {a} {b} {t} g u h v i w = (
  record {
    sound = i.sound;
    touches = touches_then [] s a t g.touches (touches_then [] a b t h.touches i.touches);
    frames = record {
      shape = i.frames.shape ∙ h.frames.shape ∙ g.frames.shape;
      free =
          let x = g.frames.free in let y = h.frames.free in let z = i.frames.free in
          omega (arith, x, y, z);
      rack = i.frames.rack ∙ h.frames.rack ∙ g.frames.rack;
      free_areas = i.frames.free_areas ∙ h.frames.free_areas ∙ g.frames.free_areas;
      peak =
          let x = g.frames.peak in let y = h.frames.peak in let z = i.frames.peak in
          omega (arith, x, y, z);
    };
  },
  unmoved_then u (unmoved_then v w),
)
