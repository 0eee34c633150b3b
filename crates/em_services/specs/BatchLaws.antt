-- The laws of a service that keeps its commands in a batch.
use Rattle.std.specs.Prelude.{◌≡◌, ℕ, ◌+◌, ◌*◌, ◌<◌, ◌≤◌, ◌++◌, List, length, IsTrue, Option, Some, None, IfSome}
use Rattle.std.proofs.Common.{arith, length-append}
use Rattle.em_record.specs.Shape.{ShapeNumbers, payload_of}
use Rattle.em_frames.specs.Pool.{load_of}
use Rattle.em_model.specs.MapAnswers.{answers_after}
use Rattle.em_model.specs.declared.command.Command.{Command}
use Rattle.em_model.proofs.SyncLaws.{syncs-append}
use Rattle.em_space.specs.Held.{Apart, Holds}
use Rattle.em_space.specs.Rig.{RigState, Touches}
use Rattle.em_combine.specs.Gather.{GatherState}
use Rattle.em_map.specs.Batch.{BatchHasFrames, HasArea, HasCommands, areas_in, areas_of, batch_blocks, batch_unstored, rule_of}
use Rattle.em_map.specs.declared.batch.Batch.{Batch}
use Rattle.em_map.proofs.Early.{joined_answers, joined_most, joined_rises}
use Rattle.em_map.proofs.Stays.{batch_beside, batch_frames_stay}
use Rattle.em_tree_cost.proofs.Rising.{batch_share_rises, div_ceil_rises, queue_share_rises}
use Rattle.em_services.specs.BatchService.{IsGivenBatch, answers_share, map_share, map_size}
use Rattle.em_services.specs.Service.{FramesOut, RisesBySize, size_of, syncs_for}
use Rattle.em_lines.specs.declared.text.FileKind.TheVariants.{Map, Queue}
use Rattle.em_record.specs.Cost.{room}
use Rattle.em_ready.proofs.RoomLaws.{room_rises}

pub no_queue : Map ≡ Queue → ⊥
no_queue e = cc

pub two_frames : 2 ≤ 4
two_frames = omega arith

-- one area at most
one_area : (load : Option GatherState) → areas_in load ≤ 1
one_area None = omega arith
one_area (Some x) = omega arith

pub few_areas : {F : Type 0} (b : Batch F) → areas_of b ≤ 1
few_areas b = one_area b.load

pub frames_of : {F : Type 0} (b : Batch F) (s : RigState) → IsGivenBatch s b → BatchHasFrames s b
frames_of b s h = record { tree = h.is.is.running.frames; area = h.is.area }

pub holds : {F : Type 0} (b : Batch F) (s : RigState) → IsGivenBatch s b → IsTrue s.device.told
    → Holds s (batch_blocks s b)
holds b s h told = (h.is.is.running.stands told).holds

pub frames_stay : {F : Type 0} (b : Batch F) (held : List ℕ) (s t : RigState) → BatchHasFrames s b
    → Touches held s t → FramesOut 2 (areas_of b) t.pool → BatchHasFrames t b
frames_stay b held s t f h o = batch_frames_stay held s t b h o.is o.areas f

pub stays : {F : Type 0} (b : Batch F) (held : List ℕ) (s t : RigState) → IsGivenBatch s b
    → Touches held s t → (IsTrue s.device.told → Apart (batch_blocks s b) held)
    → FramesOut 2 (areas_of b) t.pool
    → IsGivenBatch t b × (IsTrue s.device.told → batch_blocks t b ≡ batch_blocks s b)
    × ((before cs : List Command) → HasCommands s b before cs → HasCommands t b before cs)
stays b held s t i h a o =
    let st = batch_beside held s t b h o.is o.areas i.is a in (
      record { is = st.is; before = i.before; since = i.since; has = st.commands i.before i.since i.has },
      st.blocks,
      st.commands,
    )

-- of what a load holds
load_out : (s : RigState) (load : Option GatherState) → IfSome load (HasArea s) → 0 < areas_in load
    → s.pool.free_areas + areas_in load ≤ 2
load_out s None has some = absurd (omega (arith, some))
load_out s (Some x) has some = let out = has.out in omega (arith, out)

pub out : {F : Type 0} (b : Batch F) (s : RigState) → BatchHasFrames s b → FramesOut 2 (areas_of b) s.pool
out b s f = record { is = f.tree.out; areas = load_out s b.load f.area }

pub size_most : {F : Type 0} (b : Batch F) (shape : ShapeNumbers) (cs : List Command)
    → map_size b.early shape cs ≤ size_of Map cs
size_most b shape cs = joined_most b.early (load_of shape) cs

pub size_rises : {F : Type 0} (b : Batch F) (shape : ShapeNumbers) (cs more : List Command)
    → map_size b.early shape cs ≤ map_size b.early shape (cs ++ more)
size_rises b shape cs more = joined_rises b.early (load_of shape) cs more

pub answers_few : {F : Type 0} (b : Batch F) (s : RigState) (before cs : List Command) → HasCommands s b before cs
    → length (answers_after (rule_of b) before cs) ≤ map_size b.early s.pool.shape (before ++ cs)
answers_few b s before cs h = joined_answers b.early (load_of s.pool.shape) (rule_of b) before cs

pub n_is : {F : Type 0} (b : Batch F) (s : RigState) (before cs : List Command) → HasCommands s b before cs
    → b.calls ≡ length (before ++ cs)
n_is b s before cs h = omega (arith, h.calls, length-append before cs)

pub syncs_few : {F : Type 0} (b : Batch F) (s : RigState) (before cs : List Command) → HasCommands s b before cs
    → b.syncs ≤ syncs_for Map (before ++ cs)
syncs_few b s before cs h = omega (arith, h.syncs, syncs-append before cs)

-- more answers are allowed no fewer moves
pub answers_rise : RisesBySize answers_share
answers_rise shape m n is h =
    let queue = queue_share_rises shape (2 * m) (2 * n) (2 * m) (2 * n) (omega (arith, h))
    (omega (arith, h)) in
    let blocks = div_ceil_rises (payload_of shape) m n h in
    omega (arith, queue, blocks)

-- nor are more commands
pub rising : RisesBySize map_share
rising shape m n is h =
    let batch = batch_share_rises shape m n h in
    let answers = answers_rise shape m n is h in
    omega (arith, batch, answers)

pub unstored_most : {F : Type 0} (b : Batch F) → batch_unstored b ≤ 2
unstored_most b = omega arith

-- nor less room
pub rising_room : RisesBySize room
rising_room shape m n is h = room_rises shape m n h
