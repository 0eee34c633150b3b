-- A cell over calls that leave its block alone.
use Rattle.std.proofs.Common.{◌≡◌, ℕ, List, [], get_or, IsTrue, sym, ◌∙◌, ap, subst, arith}
use Rattle.em_record.specs.Shape.{ShapeNumbers}
use Rattle.em_record.specs.declared.record.Record.{Record}
use Rattle.em_frames.specs.Device.{block_at}
use Rattle.em_frames.specs.Pool.{singles_of}
use Rattle.em_space.specs.Free.{header}
use Rattle.em_space.specs.Rig.{RigState, Touches, Goes}
use Rattle.em_space.specs.Held.{Apart, NoneInUse}
use Rattle.em_space.proofs.Held.{holds_kept, contents_kept, apart_none}
use Rattle.em_cell.specs.Cell.{IsCell, IsPending, Keeps, blocks_of, pending_blocks, value}
use Rattle.em_space.proofs.Apart.{apart_new}
use Rattle.em_cell.specs.declared.cell.Cell.{Cell}
use Rattle.em_cell.specs.declared.pending.Pending.{Pending}

-- the block of a cell holds what it held
block_kept : (held : List ℕ) (s t : RigState) (cell : Cell) → Touches held s t
    → IsTrue s.device.told → Apart (blocks_of cell) held → IsCell s cell
    → block_at t.device cell.block ≡ block_at s.device cell.block
block_kept held s t cell h y a c =
    ap (λ (bs : List (List Record)). get_or bs 0 [])
    (contents_kept held s t (blocks_of cell) h y a c.holds.in_use)

-- What was a cell is one,
pub cell_stays : (held : List ℕ) (s t : RigState) (cell : Cell) → Touches held s t
    → (IsTrue s.device.told → Apart (blocks_of cell) held) → IsCell s cell → IsCell t cell
cell_stays held s t cell h a c = record {
  holds = holds_kept held s t (blocks_of cell) h a c.holds;
  mark = λ y.
      let z : IsTrue s.device.told = sym h.told ∙ y in
      subst (λ (b : List Record). (header b).c ≡ 4)
      (sym (block_kept held s t cell h z (a z) c)) (c.mark z);
}

-- with the same number,
pub value_kept : (held : List ℕ) (s t : RigState) (cell : Cell) → Touches held s t
    → IsTrue s.device.told → Apart (blocks_of cell) held → IsCell s cell
    → value t cell ≡ value s cell
value_kept held s t cell h y a c =
    ap (λ (b : List Record). (header b).a) (block_kept held s t cell h y a c)

-- and so it keeps the number that it had.
pub number_stays : (held : List ℕ) (s t : RigState) (n : ℕ) (cell : Cell) → Touches held s t
    → (IsTrue s.device.told → Apart (blocks_of cell) held) → Keeps s n cell → Keeps t n cell
number_stays held s t n cell h a k = record {
  is = cell_stays held s t cell h a k.is;
  value_is = λ y.
      let z : IsTrue s.device.told = sym h.told ∙ y in
      value_kept held s t cell h z (a z) k.is ∙ k.value_is z;
}

-- It stays beside a value that was made after it, and then changed.
pub stays_beside : (ks : List ℕ) (s t u : RigState) (n : ℕ) (cell : Cell) → Touches [] s t
    → (IsTrue s.device.told → NoneInUse s ks) → Touches ks t u → Keeps s n cell → Keeps u n cell
stays_beside ks s t u n cell x fresh y k =
    number_stays ks t u n cell y
    (λ z. apart_new s (blocks_of cell) ks k.is.holds.in_use (fresh (sym x.told ∙ z)))
    (number_stays [] s t n cell x (λ z. apart_none (blocks_of cell)) k)

-- A number goes on waiting while calls come between that give back the frames they took.
pub pending_stays : (held : List ℕ) (s t : RigState) (p : Pending) → Goes held s t
    → (IsTrue s.device.told → Apart (pending_blocks p) held) → IsPending s p → IsPending t p
pending_stays held s t p h a w = record {
  holds = holds_kept held s t (pending_blocks p) h.touches a w.holds;
  frame_out = record {
    len_is = w.frame_out.len_is ∙ ap (λ (x : ShapeNumbers). x.block) (sym h.frames.shape);
    out =
        omega (
          arith,
          w.frame_out.out,
          h.frames.free,
          ap (λ (x : ShapeNumbers). singles_of x) h.frames.shape,
        );
  };
  mark = w.mark;
}
