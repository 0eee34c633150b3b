-- A weave beside a queue.
use Rattle.std.proofs.Common.{◌≡◌, ℕ, ◌+◌, ◌≤◌, List, length, IsTrue}
use Rattle.em_frames.specs.Pool.{singles_of}
use Rattle.em_space.specs.Held.{Apart}
use Rattle.em_space.specs.Queue.{QueueCounts, Serves, Shares}
use Rattle.em_space.specs.Rig.{RigState}
use Rattle.em_space.proofs.Lists.{apart_sym}
use Rattle.em_chain.proofs.Queues.{frame_beside, frame_left}
use Rattle.em_weave.specs.State.{IsWeave, WeaveHasFrames, WeaveStays, weave_blocks}
use Rattle.em_weave.specs.declared.weave.Weave.{Weave}
use Rattle.em_weave.proofs.Weavings.{weave_stays}

-- Its frames are out after a call of a queue that holds as many frames as before it,
pub frames_beside : (s t : RigState) (w : Weave) (ks : List ℕ) (x y : QueueCounts)
    → WeaveHasFrames s w → Serves ks x y s t → y.frames ≡ x.frames → WeaveHasFrames t w
frames_beside s t w ks x y h v same = record {
  left = frame_beside 2 (length w.left.reader.frame) x y s.pool t.pool h.left v.frames same;
  right = frame_beside 2 (length w.right.reader.frame) x y s.pool t.pool h.right v.frames same;
}

-- and it stays as it is.
pub weave_beside : (s t : RigState) (w : Weave) (ks : List ℕ) (x y : QueueCounts) → IsWeave s w
    → Serves ks x y s t → y.frames ≡ x.frames
    → (IsTrue s.device.told → Apart ks (weave_blocks s w)) → WeaveStays s t w
weave_beside s t w ks x y i v same a =
    weave_stays ks s t w v.touches (λ z. apart_sym ks (weave_blocks s w) (a z))
    (frames_beside s t w ks x y i.frames v same) i

-- Its frames are out after any call of a queue whose frames were out beside them.
pub frames_left : (s t : RigState) (w : Weave) (c d : QueueCounts) → WeaveHasFrames s w
    → Shares c d s.pool t.pool → s.pool.free + c.frames + 2 ≤ singles_of s.pool.shape
    → WeaveHasFrames t w
frames_left s t w c d h x out = record {
  left = frame_left 2 (length w.left.reader.frame) c d s.pool t.pool h.left x out;
  right = frame_left 2 (length w.right.reader.frame) c d s.pool t.pool h.right x out;
}
