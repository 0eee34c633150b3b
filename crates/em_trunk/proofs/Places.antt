-- The level at a place of a tree on the device, for the accounting.
use Rattle.std.proofs.Common.{◌≡◌, ℕ, zero, suc, ◌<◌, List, [], ◌∷◌, length, take, refl, ap, ◌∙◌, arith}
use Rattle.em_space.specs.Rig.{RigState}
use Rattle.em_node.specs.declared.entry.Entry.{Entry}
use Rattle.em_tree_model.specs.Places.{Place, place_in}
use Rattle.em_tree_model.specs.Places.Place.{here, past, under}
use Rattle.em_tree_model.specs.Tree.{Tree}
use Rattle.em_tree_blocks.specs.Effects.{IsEntryAt, entry_at_place, entry_place}
use Rattle.em_tree_blocks.specs.Paths.{IsPath, child_at, level_on, node_on, place_on, row_place}
use Rattle.em_tree_blocks.specs.Reading.{entries_at, past_entries, tree_at}
use Rattle.em_tree_cost.specs.Spots.{level_at_spot}
use Rattle.em_tree_outline.specs.Outline.{spot_of}

-- a place in what stands at another place
pub level_in : (o q : Place) (n : ℕ) → level_at_spot (spot_of (place_in o q)) n
    ≡ level_at_spot (spot_of q) (level_at_spot (spot_of o) n)
level_in here q n = refl
level_in (under low b r p) q zero = level_in p q zero
level_in (under low b r p) q (suc n) = level_in p q n
level_in (past low b c p) q n = level_in p q n

-- a place in a row
pub level_past : (child : ℕ → Tree) (s : RigState) (es : List Entry) (n : ℕ)
    → level_at_spot (spot_of (past_entries child s es here)) n ≡ n
level_past child s [] n = refl
level_past child s (e ∷ es) n = level_past child s es n

-- a place in a child of a row
level_row : (child : ℕ → Tree) (s : RigState) (es : List Entry) (i : ℕ) (p : Place) (n : ℕ)
    → i < length es
    → level_at_spot (spot_of (row_place child s es i p)) (suc n) ≡ level_at_spot (spot_of p) n
level_row child s [] i p n h = absurd (omega (arith, h))
level_row child s (e ∷ es) zero p n h = refl
level_row child s (e ∷ es) (suc i) p n h = level_row child s es i p n (omega (arith, h))

-- the end of a path
pub level_path : (path : List ℕ) (top : ℕ) (s : RigState) (root : ℕ) → IsPath path top s root
    → level_at_spot (spot_of (place_on path top s root)) top ≡ level_on path top
level_path [] top s root h = refl
level_path (i ∷ is) zero s root h = absurd h
level_path (i ∷ is) (suc l) s root h =
    let k = child_at i (entries_at s root) in
    level_row (tree_at l s) s (entries_at s root) i (place_on is l s k) l h.0 ∙ level_path is l s k h.1

-- an entry of the node at the end of a path
pub level_entry : (top : ℕ) (s : RigState) (root : ℕ) (path : List ℕ) (l i : ℕ)
    → IsEntryAt top s root path l i
    → level_at_spot (spot_of (entry_at_place top s root path l i)) top ≡ suc l
level_entry top s root path l i a =
    let j = node_on path top s root in
    let o = place_on path top s root in
    let q = entry_place l s j i in
    level_in o q top
    ∙ (ap (level_at_spot (spot_of q)) (level_path path top s root a.on_path)
    ∙ (level_past (tree_at l s) s (take i (entries_at s j)) (level_on path top) ∙ a.level))
