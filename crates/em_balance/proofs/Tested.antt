-- Nodes that were loaded and tested: one that doesn't pass is of a device that doesn't tell.
use Rattle.std.proofs.Common.{◌≡◌, ℕ, true, ◌<◌, List, [], ◌∷◌, get_or, length, refl, sym, ◌∙◌, subst, arith, IsTrue}
use Rattle.em_record.specs.Order.{is_below}
use Rattle.em_record.specs.declared.record.Record.{Record}
use Rattle.em_frames.specs.Device.{block_at}
use Rattle.em_space.specs.Rig.{RigState, Sound, Goes, InUse, Transfers}
use Rattle.em_space.specs.declared.fault.EmFault.TheVariants.{Damaged}
use Rattle.em_space.proofs.Held.{in_use_below}
use Rattle.em_space.proofs.Steps.{untold_by}
use Rattle.em_node.specs.declared.entry.Entry.{Entry}
use Rattle.em_node.specs.Node.{entries_of, no_entry}
use Rattle.em_balance.specs.Node.{CanGrowUp, LowsBelow}
use Rattle.em_balance.specs.Loaded.{FailsTest, IsRootBelow, ReadsBlock}

-- what `load` says
pub reads_by : {s t : RigState} → Goes [] s t → Transfers s t → ReadsBlock s t
reads_by {s} {t} g x = let moves = x.moves in record {
  goes = g;
  same = x.blocks;
  moves = omega arith;
}

pub fails_test : {s t : RigState} {k : ℕ} {b : List Record} (Test : List Record → Type 0)
    → Sound s → InUse s k → ReadsBlock s t → (IsTrue s.device.told → b ≡ block_at s.device k)
    → (IsTrue s.device.told → Test (block_at s.device k)) → (Test b → ⊥)
    → FailsTest s t k (Damaged k)
fails_test {s} {t} {k} {b} Test h u r loaded told fails =
    let below = in_use_below s k h u in
    let blocks = r.goes.touches.blocks in
    record {
      reads = r;
      cause = (
        untold_by t.device.told (λ y.
            let z : IsTrue s.device.told = sym r.goes.touches.told ∙ y in
            fails (subst Test (sym (loaded z)) (told z))),
        omega arith,
      );
      damaged = refl;
    }

-- a key that is above all low keys is above the first
first_below : (es : List Entry) (key : Record) → 0 < length es → LowsBelow es key
    → is_below (get_or es 0 no_entry).low key ≡ true
first_below [] key some h = absurd (omega arith)
first_below (e ∷ es) key some h = h.0

-- A root that was split passes the test.
pub root_passes : {s : RigState} {root : ℕ} {upper : Entry} → CanGrowUp s root upper
    → IsTrue s.device.told
    → IsRootBelow s.pool.shape s.blocks upper.low (block_at s.device root)
root_passes {s} {root} {upper} i z =
    let o = i.told z in
    record {
      node = o.node.block;
      some = o.some;
      not_last = o.not_last;
      below = first_below (entries_of (block_at s.device root)) upper.low o.some o.below;
    }
