-- A drain over a call that changes no block of it.
use Rattle.std.specs.Prelude.{◌≡◌, ℕ, ◌≤◌, List, IsTrue, Option, Some}
use Rattle.std.proofs.Common.{sym, ap, subst, ◌∙◌, arith}
use Rattle.std.proofs.lemmas.List.{length-append, length-drop}
use Rattle.std.proofs.lemmas.List.Sorted.{length_permutation}
use Rattle.em_record.specs.Shape.{payload_of}
use Rattle.em_record.specs.declared.record.Record.{Record}
use Rattle.em_settle.specs.Keys.{record_at}
use Rattle.em_settle.specs.declared.step.Step.{Step}
use Rattle.em_settle.proofs.Lists.{rising_same}
use Rattle.em_space.specs.Held.{Apart}
use Rattle.em_space.specs.Rig.{RigState, Sound, Touches}
use Rattle.em_chain.specs.Counts.{ceiling}
use Rattle.em_chain.specs.List.{items_in}
use Rattle.em_chain.specs.Writer.{writer_contents}
use Rattle.em_chain.proofs.Counts.{ceiling_more}
use Rattle.em_tree_model.specs.Meaning.{tree_contents}
use Rattle.em_tree_model.specs.Owed.{owed}
use Rattle.em_tree_model.specs.Ranges.{AllIn, least_record}
use Rattle.em_tree_model.specs.Tree.{Tree}
use Rattle.em_trunk.specs.Trunk.{given_by, model_of}
use Rattle.em_trunk.proofs.Rooms.{answers_blocks}
use Rattle.em_trunk.proofs.Stays.{TrunkReads, trunk_stays}
use Rattle.em_bulk.specs.Draining.{DrainHasFrames, Gives, IsDrain, TellsNext, answers_due, area_rest, drain_blocks, or_else, trunk_of}
use Rattle.em_bulk.specs.declared.drain.Drain.{Drain}

-- It stays a drain, with what is read of its tree, and has the same records to give.
pub record DrainStays {S : Type 0} (key : Record → Record) (step : Option Record → Record → Step)
    (IsOp IsKept : Record → Type 0) (s t : RigState) (d : Drain S) : Type 0 where
  pub is : IsDrain key step IsOp IsKept t d
  pub reads : IsTrue s.device.told → TrunkReads s t (trunk_of d)
  pub gives : IsTrue s.device.told → (xs : List Record) → Gives key step s d xs → Gives key step t d xs

module _ {S : Type 0} {key : Record → Record} {step : Option Record → Record → Step} {s : RigState} {d : Drain S} where
  -- the frames and the area of a drain are out
  pub drain_frames : {IsOp IsKept : Record → Type 0} → IsDrain key step IsOp IsKept s d → DrainHasFrames s d
  drain_frames i = record {
    tree = i.is.running.frames;
    area = i.area;
    out = i.out;
  }

  -- the blocks of the answers that its tree gave are no more than those of all that it gave or owes
  pub answers_most : {IsOp IsKept : Record → Type 0} → Sound s → IsDrain key step IsOp IsKept s d → IsTrue s.device.told
      → (trunk_of d).answers.blocks ≤ ceiling (answers_due key step s d) (payload_of s.pool.shape)
  answers_most sound i told =
      let v = trunk_of d in
      let w = v.answers in
      let shape = sound.shape in
      let low = shape.block_low in
      let count = (i.is.running.answers.told told).list.count_is in
      let n = length-drop w.skip (items_in (writer_contents s w)) in
      let all = length-append (given_by s v) (owed key step (model_of s v)) in
      let blocks = answers_blocks i.is.running shape told in
      let rises = ceiling_more w.count (answers_due key step s d) (payload_of s.pool.shape) (omega (arith, low))
      (omega (arith, count, n, all)) in
      omega (arith, blocks, rises)

  -- `next` leaves as many answers
  pub answers_same : {t : RigState} {e : Drain S} {item : Option Record} → TellsNext key step s t d e item
      → answers_due key step t e ≡ answers_due key step s d
  answers_same n = length_permutation _ _ n.answers

  -- at most one list is what a drain gives
  pub gives_same : {xs ys : List Record} → Gives key step s d xs → Gives key step s d ys → xs ≡ ys
  gives_same {xs} {ys} g h = rising_same key xs ys g.rises h.rises (λ q. g.left q ∙ sym (h.left q))

-- Its frames and its area are out still, and the blocks that may have changed are none of its own.
pub drain_stays : {S : Type 0} (key : Record → Record) (step : Option Record → Record → Step)
    (IsOp IsKept : Record → Type 0) (held : List ℕ) (s t : RigState) (d : Drain S) → Touches held s t
    → DrainHasFrames t d → IsDrain key step IsOp IsKept s d
    → (IsTrue s.device.told → Apart (drain_blocks s d) held) → DrainStays key step IsOp IsKept s t d
drain_stays key step IsOp IsKept held s t d h f i apart =
    let v = trunk_of d in
    let stays = trunk_stays key IsOp IsKept held s t v h f.tree i.is apart in
    record {
      is = record {
        is = stays.is;
        area = f.area;
        out = f.out;
        rest = i.rest;
        within = i.within;
        resets = i.resets;
        settled = i.settled;
        told = λ z.
            let told : IsTrue s.device.told = sym h.told ∙ z in
            let old = i.told told in
            let B : Tree → Type 0 = λ x. (q y : Record) → tree_contents key step x q ≡ Some y
            → AllIn key least_record (Some q) (area_rest d) in
            record {
              rises = old.rises;
              below = subst B (sym (stays.reads told).model) old.below;
            };
      };
      reads = stays.reads;
      gives = λ told xs g. record {
        rises = g.rises;
        left = λ q. g.left q ∙ ap (λ (x : Tree). or_else (record_at key (area_rest d) q) (tree_contents key step x q))
            (sym (stays.reads told).model);
      };
    }
