-- A full entry that was found, emptied with what is full below it: by the level of its node.
use Rattle.std.proofs.Common.{◌≡◌, ℕ, zero, suc, ◌+◌, ◌-◌, ◌*◌, ◌<◌, ◌≤◌, refl, sym, subst, arith, IsTrue}
use Rattle.std.specs.Prelude.{Option, Some, Result, Ok, Err, IsErrAnd}
use Rattle.em_record.specs.declared.record.Record.{Record}
use Rattle.em_space.specs.Rig.{RigState}
use Rattle.em_space.specs.declared.fault.EmFault.{EmFault}
use Rattle.em_settle.specs.declared.step.Step.{Step}
use Rattle.em_tree_walk.specs.declared.searching.Range.{Range}
use Rattle.em_trunk.specs.Buffers.{ClearOver, Due}
use Rattle.em_tree_buffers.specs.Emptying.{CanEmptyEntry, EmptiesEntry}
use Rattle.em_tree_buffers.specs.Findings.{FoundSpot}
use Rattle.em_tree_buffers.specs.Loops.{CanClearEntry, CanClearFull, ClearsEntry, ClearsNext, ClearsTo, ClearsUpTo, due_of, nodes_inside}
use Rattle.em_trunk.specs.Trunk.{full_limit}
use Rattle.em_trunk.specs.Works.{StopsWorking, CanWork, deepest, unstored_most}
use Rattle.em_trunk.specs.declared.trunk.Trunk.{Trunk}
use Rattle.em_tree_buffers.proofs.Found.{due_over_at, found_clear, found_from, found_thin, keys_of, level_last}
use Rattle.em_tree_buffers.proofs.FoundLoaded.{loaded_clears}
use Rattle.em_tree_buffers.proofs.FoundWorks.{below_can, below_stops, leaf_cleared, limit_some, node_cleared}
use Rattle.em_tree_buffers.proofs.LoopSteps.{can_after}
use Rattle.em_trunk.specs.Spots.{EachRead, HasSpot, spot_high, spot_low}

abbrev pub ok_of : {T : Type 0} → T → Result T EmFault
ok_of x = Ok x

abbrev pub err_of : (T : Type 0) → EmFault → Result T EmFault
err_of T fault = Err fault

down_one : (l : ℕ) → suc l - 1 ≡ l
down_one l = omega arith

-- a result that a fault is handed on as
pub clears_entry_of : {T : Type 0} (key : Record → Record) (step : Option Record → Record → Step)
    (IsOp IsKept : Record → Type 0) (d : Due) (inner : Range) (s t : RigState) (v w : Trunk)
    (r : Result T EmFault) (fault : EmFault) → IsErrAnd r (λ f. f ≡ fault)
    → ClearsEntry key step IsOp IsKept d inner s t v w (err_of T fault)
    → ClearsEntry key step IsOp IsKept d inner s t v w r
clears_entry_of key step IsOp IsKept d inner s t v w (Ok x) fault e h = absurd e
clears_entry_of {T = T} key step IsOp IsKept d inner s t v w (Err f) fault e h =
    let P : EmFault → Type 0 = λ g. ClearsEntry key step IsOp IsKept d inner s t v w (err_of T g) in
    subst P (sym e) h

pub clears_next_of : (key : Record → Record) (step : Option Record → Record → Step)
    (IsOp IsKept : Record → Type 0) (d : Due) (s t : RigState) (v w : Trunk)
    (r : Result (Option Record) EmFault) (fault : EmFault) → IsErrAnd r (λ f. f ≡ fault)
    → ClearsNext key step IsOp IsKept d s t v w (err_of (Option Record) fault)
    → ClearsNext key step IsOp IsKept d s t v w r
clears_next_of key step IsOp IsKept d s t v w (Ok x) fault e h = absurd e
clears_next_of key step IsOp IsKept d s t v w (Err f) fault e h =
    let P : EmFault → Type 0 =
    λ g. ClearsNext key step IsOp IsKept d s t v w (err_of (Option Record) g) in
    subst P (sym e) h

pub clears_of : {T : Type 0} (key : Record → Record) (step : Option Record → Record → Step)
    (IsOp IsKept : Record → Type 0) (d : Due) (s t : RigState) (v w : Trunk)
    (r : Result T EmFault) (fault : EmFault) → IsErrAnd r (λ f. f ≡ fault)
    → ClearsTo key step IsOp IsKept d s t v w (err_of T fault)
    → ClearsTo key step IsOp IsKept d s t v w r
clears_of key step IsOp IsKept d s t v w (Ok x) fault e h = absurd e
clears_of {T = T} key step IsOp IsKept d s t v w (Err f) fault e h =
    let P : EmFault → Type 0 = λ g. ClearsTo key step IsOp IsKept d s t v w (err_of T g) in
    subst P (sym e) h

module _ (key : Record → Record) (step : Option Record → Record → Step)
    (IsOp IsKept : Record → Type 0) (node at : ℕ) (left inner : Range) (s : RigState) (v : Trunk)
    (can : CanWork key IsOp IsKept s v) where
  -- what was found of an entry's spot
  abbrev pub IsFound : (n : ℕ) → CanEmptyEntry n node at s v → Type 0
  IsFound n spot = IsTrue s.device.told
      → FoundSpot (full_limit s.pool.shape) n at (keys_of left.from left.until) inner s v spot.spot.path

  -- The entry can be emptied.
  pub entry_spot : (level : ℕ) → CanClearEntry (due_of level left) node at inner s v
      → (spot : CanEmptyEntry (level - 1) node at s v) × IsFound (level - 1) spot
  entry_spot zero c = let h = c.above in absurd (omega (arith, h))
  entry_spot (suc l) c =
      let Q : ℕ → Type 0 = λ n. (spot : HasSpot n node at s v) × (IsTrue s.device.told
      → FoundSpot (full_limit s.pool.shape) n at (keys_of left.from left.until) inner s v spot.path) in
      let P : ℕ → Type 0 = λ n. (spot : CanEmptyEntry n node at s v) × IsFound n spot in
      let q : Q l = subst Q (down_one l) (c.spot, c.found) in
      let p : P l = (
        record {
          spot = q.0;
          thin = λ told. found_thin key IsOp IsKept (full_limit s.pool.shape) l node at left.from left.until
              inner s v q.0.path (can.running.stands told) q.0 told (q.1 told) (c.clear told);
          clear = λ told zero_is.
              let C : ℕ → Type 0 = λ n. EachRead (ClearOver (suc n) (spot_low at s v q.0.path)
              (spot_high at s v q.0.path)) s v in
              subst C zero_is (found_clear key IsOp IsKept (full_limit s.pool.shape) l node at left.from
              left.until inner s v q.0.path (can.running.stands told) q.0 told (q.1 told) (c.clear told));
          empty = λ zero_is. c.drained.empty;
          unwritten = λ zero_is. c.drained.unwritten;
          last = λ told zero_is. level_last can.sound.shape (c.steps told).few
              (c.steps told).books.books;
        },
        q.1,
      ) in
      subst P (sym (down_one l)) p

  -- It wasn't.
  pub entry_gave_up : {t : RigState} {w : Trunk} (T U : Type 0) (fault : EmFault) (level : ℕ)
      → CanClearEntry (due_of level left) node at inner s v → (spot : CanEmptyEntry (level - 1) node at s v)
      → IsFound (level - 1) spot
      → EmptiesEntry key step IsOp IsKept (level - 1) at s t v w spot.spot.path (err_of T fault)
      → ClearsEntry key step IsOp IsKept (due_of level left) inner s t v w (err_of U fault)
  entry_gave_up T U fault zero c = let h = c.above in absurd (omega (arith, h))
  entry_gave_up {t = t} {w = w} T U fault (suc zero) c =
      let R : ℕ → Type 0 = λ n. (spot : CanEmptyEntry n node at s v) → IsFound n spot
      → EmptiesEntry key step IsOp IsKept n at s t v w spot.spot.path (err_of T fault) → (p : ℕ)
      → StopsWorking (p + deepest s v * nodes_inside (due_of (suc zero) left) left.from s v) 0
      (unstored_most s) s t v w fault in
      subst R (sym (down_one zero)) (λ spot found h p. h.stops
      (p + deepest s v * nodes_inside (due_of (suc zero) left) left.from s v) (λ told. (found told).full))
  entry_gave_up {t = t} {w = w} T U fault (suc (suc m)) c =
      let R : ℕ → Type 0 = λ n. (spot : CanEmptyEntry n node at s v) → IsFound n spot
      → EmptiesEntry key step IsOp IsKept n at s t v w spot.spot.path (err_of T fault) → (p : ℕ)
      → StopsWorking (p + deepest s v * nodes_inside (due_of (suc (suc m)) left) left.from s v) 0
      (unstored_most s) s t v w fault in
      subst R (sym (down_one (suc m))) (λ spot found h p. h.stops
      (p + deepest s v * nodes_inside (due_of (suc (suc m)) left) left.from s v)
      (λ told. (found told).full))

  -- The next call can begin.
  pub entry_after : {t : RigState} {w : Trunk} {T : Type 0} (x : T) (level : ℕ) → 0 < level
      → (spot : CanEmptyEntry (level - 1) node at s v) → IsFound (level - 1) spot
      → EmptiesEntry key step IsOp IsKept (level - 1) at s t v w spot.spot.path (ok_of x)
      → CanWork key IsOp IsKept t w
  entry_after x zero above = absurd (omega (arith, above))
  entry_after {t = t} {w = w} x (suc zero) above =
      let R : ℕ → Type 0 = λ n. (spot : CanEmptyEntry n node at s v) → IsFound n spot
      → EmptiesEntry key step IsOp IsKept n at s t v w spot.spot.path (ok_of x)
      → CanWork key IsOp IsKept t w in
      subst R (sym (down_one zero)) (λ spot found h. can_after can (h.owes 0))
  entry_after {t = t} {w = w} x (suc (suc m)) above =
      let R : ℕ → Type 0 = λ n. (spot : CanEmptyEntry n node at s v) → IsFound n spot
      → EmptiesEntry key step IsOp IsKept n at s t v w spot.spot.path (ok_of x)
      → CanWork key IsOp IsKept t w in
      subst R (sym (down_one (suc m))) (λ spot found h. can_after can (h.owes 0))

  -- Over a leaf it was all.
  pub entry_loaded : {t : RigState} {w : Trunk} {T U : Type 0} (x : T) (y : U) (level : ℕ) → level ≤ 1
      → CanClearEntry (due_of level left) node at inner s v → (spot : CanEmptyEntry (level - 1) node at s v)
      → IsFound (level - 1) spot
      → EmptiesEntry key step IsOp IsKept (level - 1) at s t v w spot.spot.path (ok_of x)
      → ClearsEntry key step IsOp IsKept (due_of level left) inner s t v w (ok_of y)
  entry_loaded x y zero low c = let h = c.above in absurd (omega (arith, h))
  entry_loaded x y (suc (suc m)) low c = absurd (omega (arith, low))
  entry_loaded {t = t} {w = w} x y (suc zero) low c =
      let R : ℕ → Type 0 = λ n. (spot : CanEmptyEntry n node at s v) → IsFound n spot
      → EmptiesEntry key step IsOp IsKept n at s t v w spot.spot.path (ok_of x)
      → ClearsEntry key step IsOp IsKept (due_of (suc zero) left) inner s t v w (ok_of y) in
      subst R (sym (down_one zero)) (λ spot found h. (
        0,
        leaf_cleared key step IsOp IsKept zero node at
            left.from left.until inner s v can c.down c.drained c.clear spot.spot found refl h
            (λ told. (let C : Record → Type 0 = λ k. ClearsUpTo (full_limit s.pool.shape)
            (due_over_at zero left.from left.until) (Some k) s t v w in
            subst C (sym (found_from key IsOp IsKept (full_limit s.pool.shape) zero node at left.from left.until
            inner s v spot.spot.path (can.running.stands told) spot.spot told (found told) (c.clear told)))
            (loaded_clears key IsOp IsKept (full_limit s.pool.shape) node at left.from left.until inner s t v w
            (limit_some s.pool.shape can.sound.shape) (can.running.stands told) spot.spot told (found told)
            (c.clear told) (h.loads told)))),
      ))

  -- Over a node the full buffers below can be emptied,
  pub entry_below : {t : RigState} {w : Trunk} {T : Type 0} (x : T) (level : ℕ) → 1 < level
      → CanClearEntry (due_of level left) node at inner s v → (spot : CanEmptyEntry (level - 1) node at s v)
      → IsFound (level - 1) spot
      → EmptiesEntry key step IsOp IsKept (level - 1) at s t v w spot.spot.path (ok_of x)
      → CanClearFull (due_of (level - 1) inner) t w
  entry_below x zero high c = absurd (omega (arith, high))
  entry_below x (suc zero) high c = absurd (omega (arith, high))
  entry_below {t = t} {w = w} x (suc (suc m)) high c =
      let R : ℕ → Type 0 = λ n. (spot : CanEmptyEntry n node at s v) → IsFound n spot
      → EmptiesEntry key step IsOp IsKept n at s t v w spot.spot.path (ok_of x)
      → CanClearFull (due_of n inner) t w in
      subst R (sym (down_one (suc m))) (λ spot found h. below_can key step IsOp IsKept m node at left.from
      left.until inner s t v w can c.down c.drained c.clear spot.spot found h c.paid c.steps)

  -- which is all then,
  pub entry_lowered : {t u : RigState} {w z : Trunk} {T U V : Type 0} (x : T) (y : U) (o : V) (level : ℕ)
      → 1 < level → CanClearEntry (due_of level left) node at inner s v
      → (spot : CanEmptyEntry (level - 1) node at s v) → IsFound (level - 1) spot
      → EmptiesEntry key step IsOp IsKept (level - 1) at s t v w spot.spot.path (ok_of x)
      → ClearsTo key step IsOp IsKept (due_of (level - 1) inner) t u w z (ok_of y)
      → ClearsEntry key step IsOp IsKept (due_of level left) inner s u v z (ok_of o)
  entry_lowered x y o zero high c = absurd (omega (arith, high))
  entry_lowered x y o (suc zero) high c = absurd (omega (arith, high))
  entry_lowered {t = t} {u = u} {w = w} {z = z} x y o (suc (suc m)) high c =
      let R : ℕ → Type 0 = λ n. (spot : CanEmptyEntry n node at s v) → IsFound n spot
      → EmptiesEntry key step IsOp IsKept n at s t v w spot.spot.path (ok_of x)
      → ClearsTo key step IsOp IsKept (due_of n inner) t u w z (ok_of y)
      → ClearsEntry key step IsOp IsKept (due_of (suc (suc m)) left) inner s u v z (ok_of o) in
      subst R (sym (down_one (suc m))) (λ spot found h b. (
        0 + b.0,
        node_cleared key step IsOp IsKept m node at
            left.from left.until inner s t v w can c.down c.drained c.clear spot.spot found h b.1,
      ))

  -- or gives up.
  pub entry_below_stops : {t u : RigState} {w z : Trunk} {T : Type 0} (U V : Type 0) (x : T) (fault : EmFault)
      (level : ℕ) → 1 < level → CanClearEntry (due_of level left) node at inner s v
      → (spot : CanEmptyEntry (level - 1) node at s v) → IsFound (level - 1) spot
      → EmptiesEntry key step IsOp IsKept (level - 1) at s t v w spot.spot.path (ok_of x)
      → ClearsTo key step IsOp IsKept (due_of (level - 1) inner) t u w z (err_of U fault)
      → ClearsEntry key step IsOp IsKept (due_of level left) inner s u v z (err_of V fault)
  entry_below_stops U V x fault zero high c = absurd (omega (arith, high))
  entry_below_stops U V x fault (suc zero) high c = absurd (omega (arith, high))
  entry_below_stops {t = t} {u = u} {w = w} {z = z} U V x fault (suc (suc m)) high c =
      let R : ℕ → Type 0 = λ n. (spot : CanEmptyEntry n node at s v) → IsFound n spot
      → EmptiesEntry key step IsOp IsKept n at s t v w spot.spot.path (ok_of x)
      → ClearsTo key step IsOp IsKept (due_of n inner) t u w z (err_of U fault)
      → ClearsEntry key step IsOp IsKept (due_of (suc (suc m)) left) inner s u v z (err_of V fault) in
      subst R (sym (down_one (suc m))) (λ spot found h b. below_stops key step IsOp IsKept m node at
      left.from left.until inner s t v w can c.down c.drained c.clear spot.spot found h b)
