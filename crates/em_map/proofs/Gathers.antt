-- A load that is taken out of a batch, gets an operation, and is put back.
use Rattle.std.specs.Prelude.{◌≡◌, ℕ, ◌+◌, ◌-◌, ◌*◌, ◌<◌, ◌≤◌, List, [], ◌∷◌, ◌++◌, length, Option, None, Some, IfSome}
use Rattle.std.specs.List.{All}
use Rattle.std.proofs.Common.{sym, ap, subst, refl, ◌∙◌, arith}
use Rattle.std.proofs.Math.Nat.{mul-le-mul_right}
use Rattle.std.proofs.lemmas.List.Elements.{All-append, All-cons, All-nil}
use Rattle.em_record.specs.Shape.{IsShape, ShapeNumbers, wide_of}
use Rattle.em_record.specs.declared.record.Record.{Record}
use Rattle.em_settle.specs.Add.{IsAddOp}
use Rattle.em_frames.specs.Pool.{lent_area, load_of}
use Rattle.em_space.specs.Rig.{RigState, Sound, Touches}
use Rattle.em_space.proofs.Steps.{goes_nothing}
use Rattle.em_combine.specs.Gather.{GatherState}
use Rattle.em_map.specs.Batch.{FollowFrom, HasArea, IsBatch, IsLoad, areas_in, areas_of, entered_of, ops_in}
use Rattle.em_map.specs.Gathering.{CanEnter, TakesLoad}
use Rattle.em_map.specs.declared.batch.Batch.{Batch}
use Rattle.em_map.proofs.Lent.{MovesPool}
use Rattle.em_map.proofs.Stands.{Stands}

-- a load has room for an operation at least
pub load_some : (shape : ShapeNumbers) → IsShape shape → 0 < load_of shape
load_some shape is =
    let frames = is.frames_low in
    let wide : 1 ≤ wide_of shape = omega (arith, frames) in
    let a : 1 * shape.block ≤ wide_of shape * shape.block = mul-le-mul_right shape.block wide in
    let low = is.block_low in
    omega (arith, a, low)

-- The load that was there,
pub takes_some : {F : Type 0} (s : RigState) (b : Batch F) (dest : Option GatherState) (load : GatherState) → Sound s
    → IsBatch s b → Some load ≡ b.load → dest ≡ None → TakesLoad s s b (record b { load = dest }) load
takes_some s b dest load sound i e none =
    let n : areas_of b ≡ 1 = ap areas_in (sym e) in
    let area = subst (λ (l : Option GatherState). IfSome l (HasArea s)) (sym e) i.area in
    let is = subst (λ (l : Option GatherState). IfSome l (IsLoad s (entered_of b))) (sym e) i.load in
    record {
      is = ap (λ (l : Option GatherState). record b { load = l }) none;
      sound = sound;
      touches = (goes_nothing s sound).touches;
      frames = record { shape = refl; free = refl; areas = omega (arith, n); rack = refl; peak = omega arith };
      same = refl;
      area = area;
      items = ap ops_in e;
      few = is.few;
    }

-- or a new one, in an area of the pool.
pub takes_none : {F : Type 0} (s t : RigState) (b : Batch F) (dest : Option GatherState) (load : GatherState) → Sound s
    → None ≡ b.load → dest ≡ None → Sound t → Touches [] s t → 0 < s.pool.free_areas → s.pool.free_areas ≤ 2
    → t ≡ record s { pool = lent_area s.pool } → load.items ≡ [] → load.capacity ≡ load_of s.pool.shape
    → TakesLoad s t b (record b { load = dest }) load
takes_none s t b dest load sound e none sound_t touches some most lent items capacity =
    let n : areas_of b ≡ 0 = ap areas_in (sym e) in
    let pool = ap (λ (x : RigState). x.pool) lent in
    let areas : t.pool.free_areas ≡ s.pool.free_areas - 1 = ap (λ (p : _). p.free_areas) pool in
    let no_items : length load.items ≡ 0 = ap (λ (xs : List Record). length xs) items in
    let room = load_some s.pool.shape sound.shape in
    record {
      is = ap (λ (l : Option GatherState). record b { load = l }) none;
      sound = sound_t;
      touches = touches;
      frames = record {
        shape = ap (λ (p : _). p.shape) pool;
        free = ap (λ (p : _). p.free) pool;
        areas = omega (arith, areas, some, n);
        rack = ap (λ (p : _). p.rack_out) pool;
        peak = let peak = ap (λ (p : _). p.peak) pool in omega (arith, peak);
      };
      same = lent ∙ ap (λ (p : _). record s { pool = p }) (sym pool);
      area = record {
        capacity = capacity ∙ sym (ap load_of touches.shape);
        out = omega (arith, areas, some, most);
      };
      items = items ∙ ap ops_in e;
      few = omega (arith, no_items, capacity, room);
    }

-- numbers that follow, and the next one
pub follow_next : (n : ℕ) (xs : List Record) (op : Record) → FollowFrom n xs → op.b ≡ n + length xs + 1
    → FollowFrom n (xs ++ op ∷ [])
follow_next n [] op f e = (omega (arith, e), tt)
follow_next n (x ∷ xs) op f e = (f.0, follow_next (n + 1) xs op f.1 (omega (arith, e)))

-- What is known of the operations of a load that may be there.
pub record AreOps (n : ℕ) (ops : List Record) : Type 0 where
  pub are : All IsAddOp ops
  pub follow : FollowFrom n ops

pub load_ops : (s : RigState) (n : ℕ) (load : Option GatherState) → IfSome load (IsLoad s n) → AreOps n (ops_in load)
load_ops s n None h = record { are = All-nil IsAddOp; follow = tt }
load_ops s n (Some load) h = record { are = h.ops; follow = h.follow }

pub ops_next : (n : ℕ) (ops : List Record) (op : Record) → AreOps n ops → IsAddOp op → op.b ≡ n + length ops + 1
    → AreOps n (ops ++ op ∷ [])
ops_next n ops op h is e = record {
  are = All-append IsAddOp ops (op ∷ []) h.are (All-cons IsAddOp op [] is (All-nil IsAddOp));
  follow = follow_next n ops op h.follow e;
}

-- Operations of the last calls can enter the tree.
pub can_enter : {F : Type 0} (s : RigState) (b : Batch F) (ops : List Record) → Stands s b ops
    → AreOps (b.calls - length ops) ops → CanEnter s b ops
can_enter s b ops i h = record {
  is = i.is;
  are = h.are;
  few = omega (arith, i.entries);
  follow = h.follow;
  pushed = omega (arith, i.entries, i.few);
  longest = i.longest;
  waits = i.waits;
}

-- Nothing but the pool changed.
pub pool_moved : {F : Type 0} {s t : RigState} {b d : Batch F} {load : GatherState} → TakesLoad s t b d load → MovesPool s t
pool_moved t = record { sound = t.sound; touches = t.touches; free = t.frames.free; same = t.same }
