-- The laws of a service that keeps its commands in an interval list.
use Rattle.std.specs.Prelude.{◌≡◌, ℕ, ◌≤◌, ◌++◌, List, length, IsTrue}
use Rattle.std.proofs.Common.{arith}
use Rattle.em_model.specs.declared.command.Command.{Command}
use Rattle.em_space.specs.Held.{Apart, Holds}
use Rattle.em_space.specs.Rig.{RigState, Touches}
use Rattle.em_tree_cost.specs.Shares.{stab_share}
use Rattle.em_segment_model.proofs.Room.{stab_share_rises}
use Rattle.em_segment.specs.Stabs.{HasCommands, IsStab, StabHasFrames, stab_account, stab_blocks, stab_len}
use Rattle.em_segment.specs.declared.stab.Stab.{Stab}
use Rattle.em_segment.proofs.StabLaws.{stab_beside, stab_frames_stay}
use Rattle.em_services.specs.Service.{FramesOut, RisesBySize, syncs_for}
use Rattle.em_lines.specs.declared.text.FileKind.TheVariants as kind
use Rattle.em_record.specs.Cost.{room}
use Rattle.em_ready.proofs.RoomLaws.{room_rises}

pub no_queue : kind.Stab ≡ kind.Queue → ⊥
no_queue e = cc

pub two_frames : 2 ≤ 4
two_frames = omega arith

pub n_is : (v : Stab) (s : RigState) (before cs : List Command) → HasCommands s v (before ++ cs)
    → stab_len v ≡ length (before ++ cs)
n_is v s before cs h = h.len

pub syncs_few : (v : Stab) (s : RigState) (before cs : List Command) → HasCommands s v (before ++ cs)
    → 0 ≤ syncs_for kind.Stab (before ++ cs)
syncs_few v s before cs h = omega arith

pub frames_of : (v : Stab) (s : RigState) → IsStab s v → StabHasFrames s v
frames_of v s h = h.frames

pub holds : (v : Stab) (s : RigState) → IsStab s v → IsTrue s.device.told
    → Holds s (stab_blocks s v)
holds v s h told = h.holds told

pub frames_stay : (v : Stab) (held : List ℕ) (s t : RigState) → StabHasFrames s v
    → Touches held s t → FramesOut 2 0 t.pool → StabHasFrames t v
frames_stay v held s t f h o = stab_frames_stay held h o.is f

pub stays : (v : Stab) (held : List ℕ) (s t : RigState) → IsStab s v → Touches held s t
    → (IsTrue s.device.told → Apart (stab_blocks s v) held) → FramesOut 2 0 t.pool
    → IsStab t v × (IsTrue s.device.told → stab_blocks t v ≡ stab_blocks s v)
    × ((before cs : List Command) → HasCommands s v (before ++ cs) → HasCommands t v (before ++ cs))
stays v held s t i h a o =
    let st = stab_beside held i h a o.is in (st.is, st.blocks, λ before cs k. st.commands (before ++ cs) k)

pub out : (v : Stab) (s : RigState) → StabHasFrames s v → FramesOut 2 0 s.pool
out v s f = record { is = f.out; areas = λ some. absurd (omega (arith, some)) }

pub unstored_most : (v : Stab) → (stab_account v).unstored ≤ 2
unstored_most v = omega arith

-- a greater size is allowed no fewer moves
pub rising : RisesBySize stab_share
rising shape m n is h = stab_share_rises shape m n h

-- nor has it less room
pub rising_room : RisesBySize room
rising_room shape m n is h = room_rises shape m n h
