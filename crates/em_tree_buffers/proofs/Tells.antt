-- A node whose first full buffer is known: whether all of its buffers are thin.
use Rattle.std.specs.Prelude.{◌≡◌, true, false, ℕ, zero, suc, ◌<◌, List, [], ◌∷◌, length, IsTrue, Option, Some, None}
use Rattle.std.specs.Option.{is_some}
use Rattle.std.proofs.Common.{arith}
use Rattle.em_space.specs.Rig.{RigState}
use Rattle.em_chain.proofs.Readers.{length_items}
use Rattle.em_node.specs.declared.entry.Entry.{Entry}
use Rattle.em_tree_model.specs.Tree.{Tree}
use Rattle.em_tree_blocks.specs.Node.{buffer_of}
use Rattle.em_tree_blocks.specs.Reading.{row_of}
use Rattle.em_empty.specs.FirstFull.{AreThin, IsFirstFull, buffer_len}
use Rattle.em_empty.specs.Node.{AreBuffers}
use Rattle.em_tree_buffers.specs.Emptying.{RowThin}

module _ (child : ℕ → Tree) (t : RigState) (told : IsTrue t.device.told) (limit : ℕ) where
  -- thin buffers, as they are read
  thin_read : (es : List Entry) → AreBuffers t es → AreThin limit es (length es)
      → RowThin limit (row_of child t es)
  thin_read [] b thin = tt
  thin_read (e ∷ es) b thin =
      let n = length_items t (buffer_of e) b.0 told in
      let few = thin zero (omega arith) in (
        omega (arith, n, few),
        thin_read es b.1 (λ j h. thin (suc j) (omega (arith, h))),
      )

  -- a buffer of a thin row
  read_thin : (es : List Entry) → AreBuffers t es → RowThin limit (row_of child t es) → (j : ℕ)
      → j < length es → buffer_len es j < limit
  read_thin [] b row j h = absurd (omega (arith, h))
  read_thin (e ∷ es) b row zero h =
      let n = length_items t (buffer_of e) b.0 told in
      let few = row.0 in
      omega (arith, n, few)
  read_thin (e ∷ es) b row (suc j) h = read_thin es b.1 row.1 j (omega (arith, h))

  -- If there is no full buffer, all are thin,
  pub none_full : (es : List Entry) (least : Option ℕ) → AreBuffers t es → IsFirstFull limit es least
      → is_some least ≡ false → RowThin limit (row_of child t es)
  none_full es None b first e = thin_read es b first
  none_full es (Some at) b first e = absurd cc

  -- and else they aren't.
  pub some_full : (es : List Entry) (least : Option ℕ) → AreBuffers t es → IsFirstFull limit es least
      → is_some least ≡ true → RowThin limit (row_of child t es) → ⊥
  some_full es None b first e row = absurd cc
  some_full es (Some at) b first e row =
      let few = read_thin es b row at first.0 in
      let many = first.1 in
      omega (arith, few, many)
