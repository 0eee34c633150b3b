-- The answers of a tree as a chain.
use Rattle.std.proofs.Common.{◌≡◌, ℕ, ◌+◌, ◌-◌, ◌≤◌, min, List, [], sym, ap, ◌∙◌, subst, arith, IsTrue, Result, Ok, Err, IfOk, IfErr}
use Rattle.std.proofs.Math.Nat.{min-le_right}
use Rattle.em_record.specs.Shape.{ShapeNumbers}
use Rattle.em_frames.specs.Pool.{GivenFrames, PoolCounts, singles_of}
use Rattle.em_space.specs.Free.{Off}
use Rattle.em_space.specs.Rig.{Cause, DeviceCause, RigState, Touches}
use Rattle.em_space.specs.declared.fault.EmFault.{EmFault}
use Rattle.em_space.proofs.Held.{apart_none}
use Rattle.em_space.proofs.Ledgers.{full_never}
use Rattle.em_space.proofs.Paying.{pays_kept, pays_more, pays_then}
use Rattle.em_space.proofs.Steps.{cause_after, device_block_cause, touches_trans, touches_wider}
use Rattle.em_space.proofs.Within.{within_kept, within_same}
use Rattle.em_chain.specs.Effects.{GivesFrame, Unmoved}
use Rattle.em_chain.specs.Chain.{chain_blocks}
use Rattle.em_chain.specs.Session.{FinishSpends}
use Rattle.em_chain.specs.Writer.{IsWriter, WriterStays, writer_blocks}
use Rattle.em_chain.specs.Writes.{FinishCosts, Finishes}
use Rattle.em_chain.specs.declared.chain.Chain.{Chain}
use Rattle.em_chain.proofs.Laws.{writer_stays}
use Rattle.em_trunk.specs.Trunk.{TrunkHasFrames}
use Rattle.em_trunk.specs.declared.trunk.Trunk.{Trunk}
use Rattle.em_trunk.specs.Lists.{GivenAnswers, GivesAnswers}

-- two frames given back, one after the other
both_back : (a b c : PoolCounts) → GivenFrames 1 a b → GivenFrames 1 b c → GivenFrames 2 a c
both_back a b c f g = record {
  shape = g.shape ∙ f.shape;
  free = omega (arith, f.free, g.free);
  rack = g.rack ∙ f.rack;
  free_areas = g.free_areas ∙ f.free_areas;
  peak = omega (arith, f.peak, g.peak);
}

device_cause : (s t : RigState) (fault : EmFault) → DeviceCause s t fault → Cause s t fault
device_cause s t fault c =
    let P : EmFault → Type 0 = Cause s t in
    subst P (sym c.is) c.rose

-- the writer of the answers, once the root's buffer gave its frame
pub answers_after : {s m : RigState} {v : Trunk} → TrunkHasFrames s v → IsWriter s v.answers
    → GivesFrame [] s m → WriterStays s m v.answers
answers_after {s = s} {m = m} {v = v} f i g =
    let S : ShapeNumbers → Type 0 = λ x. m.pool.free + 1 ≤ singles_of x in
    writer_stays [] s m v.answers g.touches (λ z. apart_none (writer_blocks s v.answers))
    (record {
      len_is = f.answers ∙ ap (λ p. p.block) (sym g.frames.shape);
      out = subst S (sym g.frames.shape) (omega (arith, f.out, g.frames.free));
    }) i

module _ {s m t : RigState} {v : Trunk} (frames : TrunkHasFrames s v) (answers : IsWriter s v.answers)
    (first : GivesFrame [] s m) (still : Unmoved s m)
    (last : GivesFrame (writer_blocks m v.answers) m t) where
  -- it has the same blocks
  same_blocks : IsTrue s.device.told → writer_blocks m v.answers ≡ writer_blocks s v.answers
  same_blocks told = (answers_after frames answers first).blocks told

  answers_touch : Touches (writer_blocks s v.answers) s t
  answers_touch = touches_trans (writer_blocks s v.answers) (writer_blocks m v.answers) s m t
      (touches_wider (writer_blocks s v.answers) [] s m first.touches (λ z k u o. tt)) last.touches
      (λ z k u o. (let P : List ℕ → Type 0 = Off k in subst P (sym (same_blocks z)) o))

  -- The answers are a chain.
  pub answers_given : {c : Chain} → Finishes m t v.answers c → FinishCosts m t v.answers (Ok c)
      → FinishSpends m t v.answers (Ok c) → GivenAnswers s t v c
  answers_given {c = c} f costs spends =
      let kept = answers_after frames answers first in
      let first_told = first.touches.told in
      let over = λ (z : IsTrue s.device.told). (let y : IsTrue m.device.told = first_told ∙ z in y) in
      let few = min-le_right v.answers.blocks 1 in
      let blocks = λ (z : IsTrue s.device.told). f.blocks (over z) ∙ same_blocks z in
      record {
        session = record {
          sound = last.sound;
          touches = answers_touch;
          within = within_kept s (writer_blocks s v.answers) (writer_blocks s v.answers)
              (chain_blocks t c) (within_same s (writer_blocks s v.answers)) blocks;
          holds = λ z. (f.is.told (last.touches.told ∙ over z)).holds;
        };
        chain = record {
          is = f.is;
          items = λ z. f.items (over z) ∙ kept.items z;
          blocks = blocks;
          packed = λ z p. f.packed (over z) (kept.packed z p);
          tight = λ z p. f.tight (over z) (kept.tight z p);
          skip_is = f.skip_is;
          count_is = f.count_is;
          blocks_is = f.blocks_is;
        };
        frames = both_back s.pool m.pool t.pool first.frames last.frames;
        pays = pays_then
            (pays_kept (min v.answers.blocks 1) (omega (arith, still.same.used))
            (omega (arith, still.moves)))
            spends.pays (omega (arith, spends.later));
        used = costs.only.same.used ∙ still.same.used;
        most = costs.only.same.most ∙ still.same.most;
        moves = omega (arith, costs.only.moves, still.moves);
      }

  -- They weren't stored.
  pub answers_kept : {fault : EmFault} → DeviceCause m t fault
      → FinishCosts {T = Chain} m t v.answers (Err fault) → GivesAnswers s t v (Err fault)
  answers_kept {fault = fault} cause costs =
      let few = min-le_right v.answers.blocks 1 in
      record {
        sound = last.sound;
        touches = answers_touch;
        frames = both_back s.pool m.pool t.pool first.frames last.frames;
        pays = pays_more (pays_kept 1 (omega (arith, costs.only.same.used, still.same.used))
            (answers_touch.moves)) (omega (arith, few));
        used = costs.only.same.used ∙ still.same.used;
        most = costs.only.same.most ∙ still.same.most;
        moves = omega (arith, costs.only.moves, still.moves);
        cause = cause_after [] s m t fault first.touches (device_cause m t fault cause);
        full = full_never m t fault ⊥ (device_block_cause m t fault cause);
      }

-- by the result
pub gives_answers : {s m t : RigState} {v : Trunk} (result : Result Chain EmFault)
    → TrunkHasFrames s v → IsWriter s v.answers → GivesFrame [] s m → Unmoved s m
    → GivesFrame (writer_blocks m v.answers) m t
    → IfOk result (λ c. Finishes m t v.answers c) → FinishCosts m t v.answers result
    → FinishSpends m t v.answers result → IfErr result (DeviceCause m t) → GivesAnswers s t v result
gives_answers (Ok c) frames answers first still last f costs spends cause =
    answers_given frames answers first still last f costs spends
gives_answers (Err fault) frames answers first still last f costs spends cause =
    answers_kept frames answers first still last cause costs
