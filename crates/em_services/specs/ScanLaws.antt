-- The laws of a service that keeps its commands in a list.
use Rattle.std.specs.Prelude.{◌≡◌, ℕ, ◌≤◌, ◌++◌, List, length, IsTrue}
use Rattle.std.proofs.Common.{arith, sym, ◌∙◌, ap}
use Rattle.em_record.specs.Shape.{ShapeNumbers, payload_of}
use Rattle.em_model.specs.declared.command.Command.{Command}
use Rattle.em_space.specs.Held.{Apart, Holds}
use Rattle.em_space.specs.Rig.{RigState, Touches}
use Rattle.em_chain.proofs.Laws.{writer_stays}
use Rattle.em_chain.proofs.Sessions.{ceiling_rises}
use Rattle.em_plain.specs.Command.{commands_in}
use Rattle.em_plain.specs.CommandList.{HasListFrame, IsCommandList, list_blocks, list_len, unstored}
use Rattle.em_plain.specs.Room.{plain_room}
use Rattle.em_plain.specs.ScanMap.{IsScanMap}
use Rattle.em_plain.specs.declared.command_list.CommandList.{CommandList}
use Rattle.em_plain.specs.declared.scan_map.ScanMap.{ScanMap}
use Rattle.em_services.specs.ScanService.{HoldsCommands, HoldsParts}
use Rattle.em_services.specs.Service.{FramesOut, RisesBySize, syncs_for}
use Rattle.em_lines.specs.declared.text.FileKind.TheVariants.{Map, Queue, Stab}

pub map_no_queue : Map ≡ Queue → ⊥
map_no_queue e = cc

pub stab_no_queue : Stab ≡ Queue → ⊥
stab_no_queue e = cc

pub one_frame : 1 ≤ 4
one_frame = omega arith

pub n_is : (l : CommandList) (s : RigState) (cs : List Command) → HoldsCommands s l cs
    → list_len l ≡ length cs
n_is l s cs h = h.n

pub map_n_is : {F : Type 0} (m : ScanMap F) (s : RigState) (before cs : List Command) → HoldsParts s m before cs
    → list_len m.list ≡ length (before ++ cs)
map_n_is m s before cs h = h.all.n

-- syncs aren't counted
pub no_syncs : {n : ℕ} → 0 ≤ n
no_syncs = omega arith

pub map_syncs_few : {F : Type 0} (m : ScanMap F) (s : RigState) (before cs : List Command) → HoldsParts s m before cs
    → 0 ≤ syncs_for Map (before ++ cs)
map_syncs_few m s before cs h = omega arith

pub holds : (l : CommandList) (s : RigState) → IsCommandList s l → IsTrue s.device.told
    → Holds s (list_blocks s l)
holds l s h told = (h.writer.told told).holds

pub frames_stay : (l : CommandList) (held : List ℕ) (s t : RigState) → HasListFrame s l
    → Touches held s t → FramesOut 1 0 t.pool → HasListFrame t l
frames_stay l held s t f h o = record {
  len_is = f.len_is ∙ ap (λ (x : ShapeNumbers). x.block) (sym h.shape);
  out = o.is;
}

pub stays : (l : CommandList) (held : List ℕ) (s t : RigState) → IsCommandList s l
    → Touches held s t → (IsTrue s.device.told → Apart (list_blocks s l) held)
    → FramesOut 1 0 t.pool
    → IsCommandList t l × (IsTrue s.device.told → list_blocks t l ≡ list_blocks s l)
    × ((cs : List Command) → HoldsCommands s l cs → HoldsCommands t l cs)
stays l held s t i h a o =
    let has = frames_stay l held s t i.writer.frame h o in
    let st = writer_stays held s t l.writer h a has i.writer in (
      record {
        writer = st.is;
        packed = λ told. let z : IsTrue s.device.told = sym h.told ∙ told in
            st.packed z (i.packed z);
        filled_is = st.filled_is ∙ i.filled_is;
        few = i.few;
      },
      st.blocks,
      λ cs k. record {
        n = k.n;
        commands = λ told. let z : IsTrue s.device.told = sym h.told ∙ told in
            ap commands_in (st.items z) ∙ k.commands z;
      },
    )

pub stab_stays : (l : CommandList) (held : List ℕ) (s t : RigState) → IsCommandList s l
    → Touches held s t → (IsTrue s.device.told → Apart (list_blocks s l) held)
    → FramesOut 1 0 t.pool
    → IsCommandList t l × (IsTrue s.device.told → list_blocks t l ≡ list_blocks s l)
    × ((before cs : List Command) → HoldsCommands s l (before ++ cs) → HoldsCommands t l (before ++ cs))
stab_stays l held s t i h a o =
    let st = stays l held s t i h a o in (st.0, st.1, λ before cs k. st.2 (before ++ cs) k)

pub map_stays : {F : Type 0} (m : ScanMap F) (held : List ℕ) (s t : RigState) → IsScanMap s m
    → Touches held s t → (IsTrue s.device.told → Apart (list_blocks s m.list) held)
    → FramesOut 1 0 t.pool
    → IsScanMap t m × (IsTrue s.device.told → list_blocks t m.list ≡ list_blocks s m.list)
    × ((before cs : List Command) → HoldsParts s m before cs → HoldsParts t m before cs)
map_stays m held s t i h a o =
    let st = stays m.list held s t i.list h a o in (
      record { list = st.0; answered = i.answered },
      st.1,
      λ before cs k. record { all = st.2 (before ++ cs) k.all; answered = k.answered },
    )

pub out : (l : CommandList) (s : RigState) → HasListFrame s l → FramesOut 1 0 s.pool
out l s f = record { is = f.out; areas = λ some. absurd (omega (arith, some)) }

pub unstored_most : (l : CommandList) (s : RigState) → IsCommandList s l → unstored l ≤ 1
unstored_most l s h = omega arith

-- more commands take no less room
pub rising_room : RisesBySize plain_room
rising_room shape m n is h =
    let low = is.block_low in
    let c = ceiling_rises m n (payload_of shape) (omega (arith, low)) h in omega (arith, c)
