-- A list that is being written is taken out as a chain, and a fresh list is made for its place.
use Rattle.std.proofs.Common.{ℕ, ◌+◌, ◌≤◌, min, List, length, ap, ◌∙◌, sym, subst, arith, IsTrue, Result, Ok}
use Rattle.em_frames.specs.Pool.{HasFrames, singles_of}
use Rattle.em_space.specs.Held.{Apart}
use Rattle.em_space.specs.Free.{Off}
use Rattle.em_space.specs.Queue.{Pays}
use Rattle.em_space.specs.Rig.{Goes, RigState, SameBlocks}
use Rattle.em_space.specs.declared.fault.EmFault.{EmFault}
use Rattle.em_space.proofs.Paying.{pays_then}
use Rattle.em_space.proofs.Steps.{touches_after, touches_wider}
use Rattle.em_chain.specs.Effects.{GivesFrame, LendsFrame, Unmoved}
use Rattle.em_chain.specs.Writer.{IsWriter, WriterStays, writer_blocks}
use Rattle.em_chain.specs.Writes.{Begins, FinishCosts, Finishes}
use Rattle.em_chain.specs.declared.chain.Chain.{Chain}
use Rattle.em_chain.specs.declared.writer.Writer.{Writer}
use Rattle.em_chain.proofs.Laws.{writer_stays}
use Rattle.em_chain.proofs.Paying.{finish_pays, pays_unmoved}
use Rattle.em_chain.proofs.Writings.{writer_lent}
use Rattle.em_trunk.specs.Lists.{IsFresh}

module _ (s m a : RigState) (list fresh : Writer) (is : IsWriter s list) (lends : LendsFrame s m)
    (unmoved : Unmoved s m) (begins : Begins m fresh) (gives : GivesFrame (writer_blocks m list) m a) where
  lent_list : WriterStays s m list
  lent_list = writer_lent is lends

  -- Only blocks of the list may have changed, and as many frames are free.
  pub list_goes : Goes (writer_blocks s list) s a
  list_goes =
      let b = writer_blocks s list in
      let e = lent_list.blocks in
      record {
        sound = gives.sound;
        touches = touches_after b s m a lends.touches (touches_wider b (writer_blocks m list) m a
            gives.touches (λ z k u o. (let P : List ℕ → Type 0 = Off k in
            subst P (sym (e (sym lends.touches.told ∙ z))) o)));
        frames = record {
          shape = gives.frames.shape ∙ lends.frames.shape;
          free = omega (arith, lends.frames.free, gives.frames.free);
          rack = gives.frames.rack ∙ lends.frames.rack;
          free_areas = gives.frames.free_areas ∙ lends.frames.free_areas;
          peak = omega (arith, lends.frames.peak, gives.frames.peak);
        };
      }

  pub fresh_frame : HasFrames 1 (length fresh.frame) a.pool
  fresh_frame =
      let shape = gives.frames.shape in
      let singles = ap singles_of list_goes.frames.shape in
      let free = list_goes.frames.free in
      let out = is.frame.out in
      record { len_is = rw (shape) begins.is.frame.len_is; out = omega (arith, singles, free, out) }

  fresh_stays : WriterStays m a fresh
  fresh_stays =
      let b = writer_blocks m list in
      let P : List ℕ → Type 0 = λ ks. Apart ks b in
      writer_stays b m a fresh gives.touches (λ z. subst P (sym begins.held) tt) fresh_frame begins.is

  pub is_fresh : IsFresh a fresh
  is_fresh =
      let back = λ (z : IsTrue a.device.told). (let y : IsTrue m.device.told = sym gives.touches.told ∙ z in y) in
      record {
        is = fresh_stays.is;
        count = begins.count;
        blocks = begins.blocks;
        items = λ z. fresh_stays.items (back z) ∙ begins.items;
        held = λ z. fresh_stays.blocks (back z) ∙ begins.held;
        packed = λ z. fresh_stays.packed (back z) begins.packed;
      }

  -- No block was taken, and one move at most was made, by the result.
  pub list_same : {T : Type 0} (r : Result T EmFault) → FinishCosts m a list r → SameBlocks s a
  list_same r costs =
      let x = costs.only.same in
      let y = unmoved.same in
      record { head = x.head ∙ y.head; used = x.used ∙ y.used; most = x.most ∙ y.most }

  pub list_moves : {T : Type 0} (r : Result T EmFault) → FinishCosts m a list r
      → a.moves ≤ s.moves + min list.blocks 1
  list_moves r costs = omega (arith, costs.only.moves, unmoved.moves)

  pub list_pays : (c : Chain) → FinishCosts m a list (Ok c) → Pays (min list.blocks 1) 0 s a
  list_pays c costs = pays_then (pays_unmoved (min list.blocks 1) unmoved)
      (finish_pays m a list c costs gives.touches.moves) gives.touches.moves

  pub list_finished : (c : Chain) → Finishes m a list c → Finishes s a list c
  list_finished c f =
      let go = λ (z : IsTrue s.device.told).
      (let y : IsTrue m.device.told = lends.touches.told ∙ z in y) in
      record {
        is = f.is;
        items = λ z. f.items (go z) ∙ lent_list.items z;
        blocks = λ z. f.blocks (go z) ∙ lent_list.blocks z;
        packed = λ z p. f.packed (go z) (lent_list.packed z p);
        tight = λ z p. f.tight (go z) (lent_list.tight z p);
        skip_is = f.skip_is;
        count_is = f.count_is;
        blocks_is = f.blocks_is;
      }
