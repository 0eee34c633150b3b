-- A drain begins: an area is lent, and the tree stays.
use Rattle.std.specs.Prelude.{◌≡◌, ◌+◌, ◌^◌, ◌<◌, ◌≤◌, List, [], length, Option, Some}
use Rattle.std.proofs.Common.{sym, ap, subst, ◌∙◌, refl, arith}
use Rattle.em_record.specs.Shape.{ShapeNumbers}
use Rattle.em_record.specs.declared.record.Record.{Record}
use Rattle.em_frames.specs.Pool.{PoolCounts, lent_area, load_of, singles_of}
use Rattle.em_settle.specs.Keys.{record_at}
use Rattle.em_settle.specs.Rising.{RisesByKey}
use Rattle.em_settle.specs.declared.step.Step.{Step}
use Rattle.em_space.specs.Rig.{RigState, Sound, Touches}
use Rattle.em_space.proofs.Held.{apart_none}
use Rattle.em_space.proofs.Sessions.{session_as, session_still}
use Rattle.em_tree_model.specs.Meaning.{tree_contents}
use Rattle.em_tree_model.specs.Ranges.{AllIn, least_record}
use Rattle.em_tree_model.specs.Tree.{Tree}
use Rattle.em_trunk.specs.Trunk.{IsTrunk, TrunkHasFrames, model_of, trunk_blocks}
use Rattle.em_trunk.proofs.Stays.{TrunkStays, trunk_stays}
use Rattle.em_bulk.specs.Draining.{BeginsDrain, area_rest, drain_blocks, or_else, trunk_of}
use Rattle.em_bulk.specs.declared.drain.Drain.{Drain}
use Rattle.em_bulk.proofs.DrainRests.{rest_none}

-- An area was lent.
pub record LendsArea (s t : RigState) (area : List Record) : Type 0 where
  pub sound : Sound t
  pub touches : Touches [] s t
  pub len : length area ≡ load_of s.pool.shape
  pub most : s.pool.free_areas ≤ 2
  pub lent : t ≡ record s { pool = lent_area s.pool }

module _ {S : Type 0} (key : Record → Record) (step : Option Record → Record → Step) (IsOp IsKept : Record → Type 0)
    (s t : RigState) (d : Drain S) (is : IsTrunk key IsOp IsKept s (trunk_of d)) (free : 0 < s.pool.free_areas)
    (resets : (trunk_of d).resets < 2 ^ 100) (settled : (trunk_of d).settled < 2 ^ 100) (lends : LendsArea s t d.area)
    (none : (d.at ≡ 0) × (d.end ≡ 0)) where
  pool_is : t.pool ≡ lent_area s.pool
  pool_is = ap (λ (x : RigState). x.pool) lends.lent

  frames_out : TrunkHasFrames t (trunk_of d)
  frames_out =
      let f = is.running.frames in
      let p = ap (λ (x : PoolCounts). x.free) pool_is in
      let P : ShapeNumbers → Type 0 = λ x. s.pool.free + 2 ≤ singles_of x in
      let o : s.pool.free + 2 ≤ singles_of t.pool.shape = subst P (sym lends.touches.shape) f.out in
      record {
        buffer = f.buffer ∙ ap (λ (x : ShapeNumbers). x.block) (sym lends.touches.shape);
        answers = f.answers ∙ ap (λ (x : ShapeNumbers). x.block) (sym lends.touches.shape);
        out = omega (arith, o, p);
      }

  stays : TrunkStays key IsOp IsKept s t (trunk_of d)
  stays = trunk_stays key IsOp IsKept [] s t (trunk_of d) lends.touches frames_out is
      (λ told. apart_none (trunk_blocks s (trunk_of d)))

  none_in : area_rest d ≡ []
  none_in = rest_none d.area d.at d.end (none.0 ∙ sym none.1)

  pub begins : BeginsDrain key step IsOp IsKept s t (trunk_of d) d
  begins =
      let areas = ap (λ (x : PoolCounts). x.free_areas) pool_is in
      record {
        sound = lends.sound;
        touches = lends.touches;
        lent = lends.lent;
        is = record {
          is = stays.is;
          area = lends.len ∙ ap load_of (sym lends.touches.shape);
          out = omega (arith, areas, free, lends.most);
          rest = omega (arith, none);
          within = omega (arith, none);
          resets = λ x. resets;
          settled = settled;
          told = λ told.
              let R : List Record → Type 0 = RisesByKey key in
              record {
                rises = subst R (sym none_in) tt;
                below = λ q y e. (let B : List Record → Type 0 = AllIn key least_record (Some q) in subst B (sym none_in) tt);
              };
        };
        trunk = refl;
        blocks = λ told. (stays.reads told).blocks;
        session = session_as (drain_blocks t d) (session_still (trunk_blocks s (trunk_of d)) lends.sound lends.touches
            (λ told. (is.running.stands told).holds)) (λ told. (stays.reads told).blocks);
        given = λ told. (stays.reads told).given;
        model = λ told. (stays.reads told).model;
        gives = λ told xs rises left. record {
          rises = rises;
          left = λ q. left q
              ∙ (ap (λ (x : Tree). tree_contents key step x q) (sym (stays.reads told).model)
              ∙ ap (λ (ys : List Record). or_else (record_at key ys q) (tree_contents key step (model_of t (trunk_of d)) q))
              (sym none_in));
        };
      }
