-- An interval list stays over a call that leaves its blocks alone.
use Rattle.std.proofs.Common.{◌≡◌, ℕ, ◌+◌, ◌≤◌, List, length, IsTrue, ap, refl, sym, ◌∙◌, arith}
use Rattle.em_record.specs.Shape.{ShapeNumbers}
use Rattle.em_frames.specs.Pool.{singles_of}
use Rattle.em_model.specs.declared.command.Command.{Command}
use Rattle.em_space.specs.Held.{Apart}
use Rattle.em_space.specs.Rig.{RigState, Touches}
use Rattle.em_space.proofs.Held.{holds_kept}
use Rattle.em_space.proofs.Lists.{apart_left, apart_right}
use Rattle.em_chain.specs.Writer.{WriterStays, writer_blocks}
use Rattle.em_chain.specs.declared.writer.Writer.{Writer}
use Rattle.em_chain.proofs.Laws.{writer_stays}
use Rattle.em_segment_parts.specs.Pairs.{IsPairs}
use Rattle.em_segment.specs.Stabs.{HasCommands, IsStab, StabHasFrames, stab_blocks}
use Rattle.em_segment.specs.declared.stab.Stab.{Stab}
use Rattle.em_segment.proofs.StabCalls.{pairs_stay}

-- A call left the blocks of an interval list alone.
pub record StabStays (s t : RigState) (v : Stab) : Type 0 where
  pub is : IsStab t v
  pub blocks : IsTrue s.device.told → stab_blocks t v ≡ stab_blocks s v
  pub commands : (cs : List Command) → HasCommands s v cs → HasCommands t v cs

-- Its frames are still out,
pub stab_frames_stay : {s t : RigState} {v : Stab} (held : List ℕ) → Touches held s t
    → t.pool.free + 2 ≤ singles_of t.pool.shape → StabHasFrames s v → StabHasFrames t v
stab_frames_stay held h out f = record {
  intervals = f.intervals ∙ ap (λ (z : ShapeNumbers). z.block) (sym h.shape);
  stabs = f.stabs ∙ ap (λ (z : ShapeNumbers). z.block) (sym h.shape);
  out = out;
}

list_stays : {s t : RigState} {w : Writer} (held : List ℕ) → Touches held s t
    → (IsTrue s.device.told → Apart (writer_blocks s w) held) → length w.frame ≡ t.pool.shape.block
    → t.pool.free + 2 ≤ singles_of t.pool.shape → IsPairs s w → WriterStays s t w
list_stays {s} {t} {w} held h apart frame out i =
    writer_stays held s t w h apart (record { len_is = frame; out = omega (arith, out) }) i.writer

-- and it was given the same commands.
pub stab_beside : {s t : RigState} {v : Stab} (held : List ℕ) → IsStab s v → Touches held s t
    → (IsTrue s.device.told → Apart (stab_blocks s v) held) → t.pool.free + 2 ≤ singles_of t.pool.shape
    → StabStays s t v
stab_beside {s} {t} {v} held is h apart out =
    let frames = stab_frames_stay held h out is.frames in
    let i = list_stays held h
    (λ z. apart_left (writer_blocks s v.intervals) (writer_blocks s v.stabs) held (apart z))
    frames.intervals out is.intervals in
    let j = list_stays held h
    (λ z. apart_right (writer_blocks s v.intervals) (writer_blocks s v.stabs) held (apart z))
    frames.stabs out is.stabs in
    let same : IsTrue s.device.told → stab_blocks t v ≡ stab_blocks s v =
    λ z. rw (i.blocks z, j.blocks z) refl in
    let given : (cs : List Command) → HasCommands s v cs → HasCommands t v cs = λ cs has. record {
      len = has.len;
      intervals = λ z. i.items (sym h.told ∙ z) ∙ has.intervals (sym h.told ∙ z);
      stabs = λ z. j.items (sym h.told ∙ z) ∙ has.stabs (sym h.told ∙ z);
    } in
    record {
      is = record {
        frames = frames;
        intervals = pairs_stay h.told is.intervals i;
        stabs = pairs_stay h.told is.stabs j;
        few = is.few;
        holds = λ z.
            let old = sym h.told ∙ z in
            rw (same old) (holds_kept held s t (stab_blocks s v) h apart (is.holds old));
        given = is.given;
        has = given is.given is.has;
      };
      blocks = same;
      commands = given;
    }
