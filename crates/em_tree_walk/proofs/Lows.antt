-- A first low key is never above the start of its range, so that a new entry may come after any one.
use Rattle.std.proofs.Common.{◌≡◌, true, false, ℕ, zero, suc, ◌<◌, List, [], ◌∷◌, get_or, length, arith, Option, None}
use Rattle.em_record.specs.Order.{is_below}
use Rattle.em_record.specs.declared.record.Record.{Record}
use Rattle.em_space.specs.Rig.{RigState}
use Rattle.em_node.specs.declared.entry.Entry.{Entry}
use Rattle.em_node.specs.Node.{no_entry}
use Rattle.em_tree_model.specs.Ranges.{InRange, Under}
use Rattle.em_tree_model.specs.Tree.{Tree}
use Rattle.em_tree_model.proofs.Ranges.{low_less, to_below}
use Rattle.em_tree_blocks.specs.Reading.{row_of}
use Rattle.em_tree_walk.specs.Descents.{end_at}
use Rattle.em_tree_walk.specs.Inserted.{CanFollow}
use Rattle.em_tree_walk.specs.Lows.{LowsKeep}
use Rattle.em_tree_walk.specs.Ways.{entry_start}

-- The low key of each entry is at most the start of the entry's range.
pub lows_start : (child : ℕ → Tree) (s : RigState) (es : List Entry) (i : ℕ) (lo : Record)
    → i < length es → LowsKeep lo (row_of child s es)
    → is_below (entry_start lo es i) (get_or es i no_entry).low ≡ false
lows_start child s [] i lo h k = absurd (omega arith)
lows_start child s (e ∷ es) zero lo h k = k.0
lows_start child s (e ∷ []) (suc i) lo h k = absurd (omega arith)
lows_start child s (e ∷ f ∷ fs) (suc i) lo h k =
    lows_start child s (f ∷ fs) i f.low (omega arith) k.2

-- what is below the end of an entry's range is below the next low key
under_next : (es : List Entry) (i : ℕ) (hi : Option Record) (k : Record) → Under (end_at es i hi) k
    → Under (end_at es i None) k
under_next [] i hi k u = tt
under_next (e ∷ []) zero hi k u = tt
under_next (e ∷ f ∷ fs) zero hi k u = u
under_next (e ∷ []) (suc i) hi k u = tt
under_next (e ∷ f ∷ fs) (suc i) hi k u = under_next (f ∷ fs) i hi k u

-- A key of an entry's range may come after the entry, if it is above another key of the range.
pub follows : (child : ℕ → Tree) (s : RigState) (es : List Entry) (i : ℕ) (lo : Record)
    (hi : Option Record) (y z : Record) → i < length es → LowsKeep lo (row_of child s es)
    → InRange (entry_start lo es i) (end_at es i hi) y → is_below y z ≡ true
    → Under (end_at es i hi) z → CanFollow i z es
follows child s es i lo hi y z h k r b u =
    let e = get_or es i no_entry in
    let start = entry_start lo es i in
    record {
      over = to_below e.low y z (low_less y start e.low (lows_start child s es i lo h k) r.low) b;
      before = under_next es i hi z u;
    }
