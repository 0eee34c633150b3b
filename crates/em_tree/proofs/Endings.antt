-- The end of a tree: it is settled, if anything was pushed, and its blocks are released.
use Rattle.std.proofs.Common.{◌≡◌, ℕ, ◌+◌, ◌*◌, ◌<◌, ◌≤◌, length, refl, sym, ◌∙◌, subst, arith, inl, inr, IsTrue, IsErrAnd, IfErr, Result, Ok, Err}
use Rattle.std.specs.Prelude.{Option}
use Rattle.em_record.specs.Shape.{wide_of}
use Rattle.em_record.specs.declared.record.Record.{Record}
use Rattle.em_settle.specs.declared.step.Step.{Step}
use Rattle.em_space.specs.Rig.{RigState}
use Rattle.em_space.specs.declared.fault.EmFault.{EmFault}
use Rattle.em_space.proofs.Ledgers.{full_never}
use Rattle.em_tree_blocks.specs.Reading.{tree_blocks}
use Rattle.em_tree_load.specs.Releases.{CanRelease, ReleasesTree}
use Rattle.em_tree.specs.Finishing.{CanFinish, FinishesBlocks, FullIfUsed, ReleasesUnused}
use Rattle.em_trunk.specs.Debts.{owing_all}
use Rattle.em_tree.specs.Settling.{SettledAll, StopsSettling}
use Rattle.em_trunk.specs.Works.{Works, CanWork}
use Rattle.em_trunk.specs.declared.trunk.Trunk.{Trunk}
use Rattle.em_tree.proofs.DownLevels.{owing_none}
use Rattle.em_tree.proofs.Finished.{trunk_left, trunk_released}
use Rattle.em_tree.proofs.PushStops.{if_full}
use Rattle.em_trunk.proofs.Regrown.{fan_twice}
use Rattle.em_trunk.proofs.Unbuffered.{can_release}
use Rattle.em_trunk.proofs.Works.{works_none}

-- what holds at every fault of a call
pub if_err : {T : Type 0} (r : Result T EmFault) (P : Type 0) → P → IfErr r (λ _. P)
if_err (Ok x) P p = tt
if_err (Err fault) P p = p

-- Settling gave up, of a tree that was used,
pub settling_full : {T : Type 0} (v : Trunk) (r : Result T EmFault) (fault : EmFault)
    → IsErrAnd r (λ f. f ≡ fault) → (v.longest ≡ 0 → ⊥) → FullIfUsed v r
settling_full v (Ok x) fault e h = tt
settling_full v (Err f) fault e h = if_full f (v.longest ≡ 0 → ⊥) h

-- or the release did, which needs no block.
pub release_full : {T : Type 0} (s t : RigState) (level root : ℕ) (v : Trunk) (r : Result T EmFault)
    → ReleasesTree s t level root r → FullIfUsed v r
release_full s t level root v (Ok x) h = tt
release_full s t level root v (Err fault) h = full_never s t fault (v.longest ≡ 0 → ⊥) h.cause

-- the moves of a release, at each exit
release_moves : {T : Type 0} (m t : RigState) (level root : ℕ) (r : Result T EmFault)
    → ReleasesTree m t level root r → IsTrue m.device.told
    → t.moves ≤ m.moves + 2 * length (tree_blocks level m root)
release_moves m t level root (Ok x) h = h.frees.moves
release_moves m t level root (Err fault) h = h.frees.moves

-- A tree to which nothing was pushed was only released.
pub release_unused : {T : Type 0} (s m t : RigState) (v w : Trunk) (r : Result T EmFault) → m ≡ s → w ≡ v
    → ReleasesTree m t w.level w.root r → ReleasesUnused s t v w
release_unused s m t v w r at_first same h =
    let M : RigState → Type 0 = λ z. IsTrue z.device.told
    → t.moves ≤ z.moves + 2 * length (tree_blocks w.level z w.root) in
    let W : Trunk → Type 0 = λ z. IsTrue s.device.told
    → t.moves ≤ s.moves + 2 * length (tree_blocks z.level s z.root) in
    record { same = same; moves = subst W same (subst M at_first (release_moves m t w.level w.root r h)) }

module _ (key : Record → Record) (step : Option Record → Record → Step) (IsOp IsKept : Record → Type 0)
  where
    -- Before the first push there is nothing to empty.
    pub unused_settled : {s : RigState} {v : Trunk} → CanWork key IsOp IsKept s v → CanFinish s v
        → v.longest ≡ 0 → SettledAll key step IsOp IsKept (owing_all s v) s s v v
    unused_settled {s = s} {v = v} can h e =
        let W : ℕ → Type 0 = λ d. Works key step IsOp IsKept 0 0 d 0 s s v v in
        let none : 0 ≡ s.pool.shape.block * 0 = omega arith in
        record {
          taken = 0;
          debt = 0;
          works = subst W none (works_none key step IsOp IsKept 0 s v can.sound can.running);
          owes = λ told. owing_none (owing_all s v) s v;
          none_waits = λ told. h.none told e;
          drained = h.unused e;
          quiet = λ told none. record { root = refl; level = refl };
        }

    module _ {s m : RigState} {v w : Trunk} (x : SettledAll key step IsOp IsKept (owing_all s v) s m v w) where
      -- the nodes and leaves can be released then,
      pub settled_release : CanRelease m w.level w.root
      settled_release =
          let back = λ (z : IsTrue m.device.told).
          (let y : IsTrue s.device.told = sym x.works.session.touches.told ∙ z in y) in
          can_release key IsOp IsKept x.works.running (λ z. x.none_waits (back z))

      -- for which there are frames,
      pub settled_free : CanWork key IsOp IsKept s v → w.level < m.pool.free
      settled_free can =
          let is = can.sound.shape in
          let twice = fan_twice is in
          let wide : 8 ≤ wide_of s.pool.shape = omega (arith, is.frames_low, is.frames_multiple) in
          omega (arith, can.free, x.works.frames.free, x.works.running.numbers.level_most, twice, wide)

      -- and were, or not.
      pub settled_then : {T : Type 0} (t : RigState) (result : Result T EmFault)
          → ReleasesTree m t w.level w.root result
          → FinishesBlocks key step IsOp IsKept s t v w result
      settled_then t (Ok y) r = record {
        mid = m;
        settled = x;
        released = trunk_released key IsOp IsKept x.works.running x.drained r;
      }
      settled_then t (Err fault) r = inr (record {
        mid = m;
        settled = x;
        stops = trunk_left key IsOp IsKept x.works.running x.drained r;
      })

    -- The buffers weren't emptied.
    pub finish_stopped : {T : Type 0} {s t : RigState} {v w : Trunk} (r : Result T EmFault)
        (fault : EmFault) → IsErrAnd r (λ f. f ≡ fault)
        → StopsSettling (owing_all s v) s t v w fault
        → FinishesBlocks key step IsOp IsKept s t v w r
    finish_stopped (Ok x) fault e h = absurd e
    finish_stopped {s = s} {t = t} {v = v} {w = w} (Err f) fault e h =
        let P : EmFault → Type 0 = StopsSettling (owing_all s v) s t v w in
        inl (subst P (sym e) h)
