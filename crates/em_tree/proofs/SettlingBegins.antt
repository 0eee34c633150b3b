-- A call that settles a tree begins: it is counted, and has its steps.
use Rattle.std.proofs.Common.{◌≡◌, ◌^◌, ◌<◌, sym, subst, arith}
use Rattle.em_record.specs.Shape.{ShapeNumbers}
use Rattle.em_record.specs.declared.record.Record.{Record}
use Rattle.em_space.specs.Queue.{CanServe}
use Rattle.em_space.specs.Rig.{RigState, Sound}
use Rattle.em_trunk.specs.Counting.{counted_settling}
use Rattle.em_trunk.specs.Works.{CanWork}
use Rattle.em_tree.specs.Finishing.{CanFinish}
use Rattle.em_tree.specs.Settling.{CanSettleTree}
use Rattle.em_trunk.specs.Trunk.{IsRunning, IsTrunk}
use Rattle.em_trunk.specs.declared.trunk.Trunk.{Trunk}
use Rattle.em_trunk.proofs.Debts.{may_begin}
use Rattle.em_trunk.proofs.Unbuffered.{drained_unused, none_unused}

module _ {key : Record → Record} {IsOp IsKept : Record → Type 0} {s : RigState} {v : Trunk} where
  -- it stands as it did
  pub running_counted : v.settled < 2 ^ 100 → IsRunning key IsOp IsKept s v
      → IsRunning key IsOp IsKept s (counted_settling s.pool.shape v)
  running_counted few r =
      let n = r.numbers in
      record {
        frames = record { buffer = r.frames.buffer; answers = r.frames.answers; out = r.frames.out };
        numbers = record {
          level_some = n.level_some;
          level_most = n.level_most;
          since_most = n.since_most;
          longest_most = n.longest_most;
          pushed_most = n.pushed_most;
          settled_most = omega (arith, few);
          resets_most = n.resets_most;
          adopted_most = n.adopted_most;
          counted_most = n.counted_most;
          spent_most = n.spent_most;
          root_below = n.root_below;
        };
        buffer = r.buffer;
        answers = r.answers;
        stands = λ told. (let st = r.stands told in record {
          holds = st.holds;
          stored = st.stored;
          formed = st.formed;
          is = st.is;
          turn = st.turn;
          lows = st.lows;
          sized = st.sized;
          bounded = st.bounded;
          packed = st.packed;
          answers_packed = st.answers_packed;
        });
      }

  -- its buffers can be emptied,
  pub settling_works : Sound s → CanServe s.pool → v.settled < 2 ^ 100 → IsTrunk key IsOp IsKept s v
      → CanWork key IsOp IsKept s (counted_settling s.pool.shape v)
  settling_works sound free few i = record {
    sound = sound;
    running = running_counted few i.running;
    free = omega (arith, free.singles);
    areas = free.areas;
    rack = free.rack;
  }

  pub settling_settles : Sound s → IsTrunk key IsOp IsKept s v
      → CanSettleTree s (counted_settling s.pool.shape v)
  settling_settles sound i = record {
    drain = record { most = omega (arith, i.few); blocks = i.blocks; thin = i.thin };
    may = λ told. (may_begin sound i told).0;
  }

  -- and it can be finished.
  pub settling_finishes : Sound s → IsTrunk key IsOp IsKept s v
      → CanFinish s (counted_settling s.pool.shape v)
  settling_finishes sound i = record {
    settle = settling_settles sound i;
    unused = λ e. (let d = drained_unused i e in record { empty = d.empty; unwritten = d.unwritten });
    none = λ told e. none_unused i e told;
  }

-- A trunk that was counted, by an equation.
pub begins_works : {key : Record → Record} {IsOp IsKept : Record → Type 0} {s : RigState} {v x : Trunk}
    (shape : ShapeNumbers) → shape ≡ s.pool.shape → x ≡ counted_settling shape v → Sound s
    → CanServe s.pool → v.settled < 2 ^ 100 → IsTrunk key IsOp IsKept s v → CanWork key IsOp IsKept s x
begins_works {key = key} {IsOp = IsOp} {IsKept = IsKept} {s = s} {v = v} shape same is sound free few i =
    let P : Trunk → Type 0 = CanWork key IsOp IsKept s in
    let S : ShapeNumbers → Type 0 = λ g. CanWork key IsOp IsKept s (counted_settling g v) in
    subst P (sym is) (subst S (sym same) (settling_works sound free few i))

pub begins_settles : {key : Record → Record} {IsOp IsKept : Record → Type 0} {s : RigState} {v x : Trunk}
    (shape : ShapeNumbers) → shape ≡ s.pool.shape → x ≡ counted_settling shape v → Sound s
    → IsTrunk key IsOp IsKept s v → CanSettleTree s x
begins_settles {s = s} {v = v} shape same is sound i =
    let P : Trunk → Type 0 = CanSettleTree s in
    let S : ShapeNumbers → Type 0 = λ g. CanSettleTree s (counted_settling g v) in
    subst P (sym is) (subst S (sym same) (settling_settles sound i))

pub begins_finishes : {key : Record → Record} {IsOp IsKept : Record → Type 0} {s : RigState} {v x : Trunk}
    (shape : ShapeNumbers) → shape ≡ s.pool.shape → x ≡ counted_settling shape v → Sound s
    → IsTrunk key IsOp IsKept s v → CanFinish s x
begins_finishes {s = s} {v = v} shape same is sound i =
    let P : Trunk → Type 0 = CanFinish s in
    let S : ShapeNumbers → Type 0 = λ g. CanFinish s (counted_settling g v) in
    subst P (sym is) (subst S (sym same) (settling_finishes sound i))
