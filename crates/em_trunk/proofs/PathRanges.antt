-- Where the keys of the node at the end of a path begin, and its level.
use Rattle.std.proofs.Common.{◌≡◌, ℕ, zero, suc, ◌-◌, ◌<◌, List, [], ◌∷◌, length, refl, sym, ap, ◌∙◌, arith}
use Rattle.em_record.specs.declared.record.Record.{Record}
use Rattle.em_space.specs.Rig.{RigState}
use Rattle.em_node.specs.declared.entry.Entry.{Entry}
use Rattle.em_tree_model.specs.Places.{Place}
use Rattle.em_tree_model.specs.Tree.{Tree}
use Rattle.em_tree_blocks.specs.Paths.{IsPath, child_at, level_on, place_on, row_place}
use Rattle.em_tree_blocks.specs.Reading.{entries_at, tree_at}
use Rattle.em_tree_walk.specs.Ways.{entry_start, range_start}
use Rattle.em_trunk.specs.Entries.{place_level}
use Rattle.em_trunk.proofs.Spots.{start_at}

-- a place in a child of a row
start_row : (child : ℕ → Tree) (s : RigState) (es : List Entry) (i : ℕ) (p : Place) (lo : Record)
    (t : Tree) → i < length es
    → start_at lo (row_place child s es i p) t ≡ start_at (entry_start lo es i) p t
start_row child s [] i p lo t h = absurd (omega (arith, h))
start_row child s (e ∷ es) zero p lo t h = refl
start_row child s (e ∷ []) (suc i) p lo t h = absurd (omega (arith, h))
start_row child s (e ∷ f ∷ fs) (suc zero) p lo t h = start_row child s (f ∷ fs) zero p f.low t (omega (arith, h))
start_row child s (e ∷ f ∷ fs) (suc (suc i)) p lo t h =
    start_row child s (f ∷ fs) (suc i) p f.low t (omega (arith, h))

way_row : (child : ℕ → Tree) (s : RigState) (es : List Entry) (i : ℕ) (p : Place) (lo : Record)
    → i < length es → range_start lo (row_place child s es i p) ≡ range_start (entry_start lo es i) p
way_row child s [] i p lo h = absurd (omega (arith, h))
way_row child s (e ∷ es) zero p lo h = refl
way_row child s (e ∷ []) (suc i) p lo h = absurd (omega (arith, h))
way_row child s (e ∷ f ∷ fs) (suc zero) p lo h = way_row child s (f ∷ fs) zero p f.low (omega (arith, h))
way_row child s (e ∷ f ∷ fs) (suc (suc i)) p lo h =
    way_row child s (f ∷ fs) (suc i) p f.low (omega (arith, h))

-- the node at the end of a path
pub start_path : (is : List ℕ) (l : ℕ) (s : RigState) (k : ℕ) (lo : Record) (t : Tree) → IsPath is l s k
    → start_at lo (place_on is l s k) t ≡ range_start lo (place_on is l s k)
start_path [] l s k lo t n = refl
start_path (i ∷ is) zero s k lo t n = absurd n
start_path (i ∷ is) (suc l) s k lo t n =
    let c = child_at i (entries_at s k) in
    let es = entries_at s k in
    let p = place_on is l s c in
    start_row (tree_at l s) s es i p lo t n.0
    ∙ (start_path is l s c (entry_start lo es i) t n.1 ∙ sym (way_row (tree_at l s) s es i p lo n.0))

level_row : (child : ℕ → Tree) (s : RigState) (es : List Entry) (i : ℕ) (p : Place) (n : ℕ)
    → i < length es → place_level (row_place child s es i p) n ≡ place_level p (n - 1)
level_row child s [] i p n h = absurd (omega (arith, h))
level_row child s (e ∷ es) zero p n h = refl
level_row child s (e ∷ es) (suc i) p n h = level_row child s es i p n (omega (arith, h))

pub level_path : (path : List ℕ) (top : ℕ) (s : RigState) (root : ℕ) → IsPath path top s root
    → place_level (place_on path top s root) top ≡ level_on path top
level_path [] top s root h = refl
level_path (i ∷ is) zero s root h = absurd h
level_path (i ∷ is) (suc l) s root h =
    let k = child_at i (entries_at s root) in
    let p = place_on is l s k in
    let down : suc l - 1 ≡ l = omega arith in
    level_row (tree_at l s) s (entries_at s root) i p (suc l) h.0
    ∙ (ap (place_level p) down ∙ level_path is l s k h.1)
