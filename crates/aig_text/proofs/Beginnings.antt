-- A draft is made of four writers.
use Rattle.std.proofs.Common.{◌≡◌, true, length, refl, sym, ◌∙◌, arith}
use Rattle.em_frames.specs.Pool.{HasFrames}
use Rattle.em_space.specs.Rig.{RigState}
use Rattle.em_chain.specs.Effects.{LendsFrame}
use Rattle.em_chain.specs.Writes.{Begins}
use Rattle.em_chain.specs.declared.writer.Writer.{Writer}
use Rattle.em_chain.proofs.Writings.{writer_lent}
use Rattle.aig_text.specs.Climbing.{at_foot}
use Rattle.aig_text.specs.Draft.{BeginsDraft, IsPackedWriter}
use Rattle.aig_text.specs.declared.draft.Draft.{Draft}

-- A writer with no record has none as a frame is lent beside it.
begins_lent : {s t : RigState} {w : Writer} → Begins s w → LendsFrame s t → Begins t w
begins_lent b l =
    let st = writer_lent b.is l in
    let blocks = b.blocks in
    let tail = b.is.last.none blocks in
    let skip = b.skip_is in
    record {
      is = st.is;
      items = rw (blocks, tail, skip) refl;
      held = rw (blocks, tail) refl;
      packed = record { is = record { skip_is = skip; full = rw (blocks, tail) tt } };
      tight = record { full = rw (blocks, tail) tt };
      skip_is = skip;
      count = b.count;
      blocks = blocks;
      filled_is = st.filled_is ∙ b.filled_is;
    }

begins_packed : {s : RigState} {w : Writer} → Begins s w → IsPackedWriter s w
begins_packed b = record {
  is = b.is;
  packed = λ z. b.packed;
  skip_is = b.skip_is;
  filled_is = b.filled_is ∙ sym b.count;
}

four_out : {s a b m t : RigState} (w : Writer) → LendsFrame s a → LendsFrame a b → LendsFrame b m
    → LendsFrame m t → Begins t w → HasFrames 4 (length w.frame) t.pool
four_out {s} {t = t} w x y z l k =
    let shape : t.pool.shape ≡ s.pool.shape =
    l.frames.shape ∙ z.frames.shape ∙ y.frames.shape ∙ x.frames.shape in
    record {
      len_is = k.is.frame.len_is;
      out = rw shape
          (omega (arith, x.frames.free, y.frames.free, z.frames.free, l.frames.free, x.within));
    }

pub begins_four : {s a b m t : RigState} (d : Draft) → LendsFrame s a → LendsFrame a b
    → LendsFrame b m → LendsFrame m t → Begins a d.defs → Begins b d.gates → Begins m d.uses
    → Begins t d.resets → d.climb ≡ at_foot → d.rises ≡ true → BeginsDraft t d
begins_four d x y z l i j k n foot up =
    let f = begins_lent (begins_lent (begins_lent i y) z) l in
    let g = begins_lent (begins_lent j z) l in
    let u = begins_lent k l in
    record {
      is = record {
        defs = begins_packed f;
        gates = begins_packed g;
        uses = begins_packed u;
        resets = begins_packed n;
        frames = record {
          defs = four_out d.defs x y z l f;
          gates = four_out d.gates x y z l g;
          uses = four_out d.uses x y z l u;
          resets = four_out d.resets x y z l n;
        };
        holds = λ w. rw (f.held, g.held, u.held, n.held)
            (record { in_use = tt; distinct = λ v. tt });
      };
      defs = f;
      gates = g;
      uses = u;
      resets = n;
      climb_is = foot;
      rises_is = up;
    }
