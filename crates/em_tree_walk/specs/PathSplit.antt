-- Nodes on a key's path that are split, from a leaf's node upwards.
use Rattle.std.specs.Prelude.{◌≡◌, ℕ, zero, suc, ◌*◌, ◌<◌, List, [], length}
use Rattle.em_record.specs.declared.record.Record.{Record}
use Rattle.em_tree_model.specs.Places.{IsRowPlace, Place, put_at}
use Rattle.em_tree_model.specs.Places.Place.{here, under, past}
use Rattle.em_tree_model.specs.Pouring.{buffers, place_in_row}
use Rattle.em_tree_model.specs.Tree.{HasEntry, HasLevel, IsRow, Tree, join_rows}
use Rattle.em_tree_model.specs.Tree.Tree.{entry}

-- the entries of a row
abbrev pub row_length : Tree → ℕ
row_length t = length (buffers t)

-- the entries of a row before a place in it
abbrev pub passed : Place → ℕ
passed here = zero
passed (under low b r p) = zero
passed (past low b c p) = suc (passed p)

-- In the tree u some nodes on the path of the key q are split that the tree t has. Each part has
-- `half` entries.
pub data PathSplit (half : ℕ) (q : Record) : Tree → Tree → Type 0 where
  -- a node over leaves isn't
  none : {t u : Tree} → HasLevel t 1 → u ≡ t → PathSplit half q t u
  -- some may be below the entry that the path takes; its own node has room now
  below : {t u : Tree} (p : Place) (low : Record) (b : List Record) (c d r : Tree) → IsRowPlace p
      → place_in_row t q ≡ passed p → t ≡ put_at p (entry low b c r)
      → u ≡ put_at p (entry low b d r) → row_length d < 2 * half → PathSplit half q c d
      → PathSplit half q t u
  -- and the entry's node is: nothing waits in its buffer, and one entry more leads to the upper part
  split : {t u : Tree} (p : Place) (low : Record) (c r lower : Tree) (k : Record) (b : List Record)
      (d rest : Tree) → IsRowPlace p → place_in_row t q ≡ passed p → IsRow lower → HasEntry lower
      → row_length lower ≡ half → row_length (entry k b d rest) ≡ half
      → t ≡ put_at p (entry low [] c r)
      → u ≡ put_at p (entry low [] lower (entry k [] (entry k b d rest) r))
      → PathSplit half q c (join_rows lower (entry k b d rest)) → PathSplit half q t u
