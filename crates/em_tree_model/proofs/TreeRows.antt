-- Worked rows: trees and what they mean. All were worked out by hand.
use Rattle.std.specs.Prelude.{◌≡◌, ℕ, List, [], ◌∷◌, ◌++◌, Some, None}
use Rattle.std.proofs.Common.{refl}
use Rattle.em_record.specs.declared.record.Record.{Record}
use Rattle.em_settle.specs.Keys.{has_key}
use Rattle.em_settle.specs.Lists.{list_with_ops}
use Rattle.em_settle.specs.Map.{map_key_of, map_step_of}
use Rattle.em_settle.specs.Bag.{bag_key_of, bag_step_of}
use Rattle.em_tree_model.specs.Tree.{Tree, stored_in, waiting_in, stored_at, waiting_at, HasLevel, join_rows, first_leaf, over_first, with_first_leaf}
use Rattle.em_tree_model.specs.Tree.Tree.{leaf, end, entry}
use Rattle.em_tree_model.specs.Ranges.{IsTree, first_end, least_record}
use Rattle.em_tree_model.specs.Places.{put_at, place_in}
use Rattle.em_tree_model.specs.Places.Place.{here, under, past}
use Rattle.em_tree_model.specs.Pouring.{pour, buffers, place_in_row, given_out}
use Rattle.em_tree_model.specs.Owed.{path_owes, paths_owe, OnlyKeys, owed}
use Rattle.em_tree_model.specs.Meaning.{tree_contents, settled_contents, tree_answers, without, Advances}
use Rattle.em_tree_model.proofs.RowPlaces.{all_records}

abbrev rec : ℕ → ℕ → ℕ → ℕ → Record
rec a b c d = record { a = a; b = b; c = c; d = d }

-- a key of a map, and what a map stores under it
abbrev k : ℕ → Record
k n = rec n 0 0 0

abbrev kept : ℕ → ℕ → Record
kept n v = rec n 0 0 v

-- the operations of a map, each with its number
abbrev put : ℕ → ℕ → ℕ → Record
put number n v = rec n number 0 v

abbrev del : ℕ → ℕ → Record
del number n = rec n number 1 0

abbrev get : ℕ → ℕ → Record
get number n = rec n number 2 0

-- the answers of a get: the value, or none
abbrev found : ℕ → ℕ → Record
found number v = rec number 1 v 0

abbrev absent : ℕ → Record
absent number = rec number 0 0 0

-- Two leaves under a root: 1 and 3, then 5 and 7. Five operations of 7 wait, two nearer the leaf and
-- three in the root's buffer. The low key of the first entry, 9, isn't read.
abbrev over_left : List Record
over_left = put 3 2 20 ∷ []

abbrev over_right : List Record
over_right = get 1 7 ∷ get 2 5 ∷ del 4 7 ∷ []

abbrev over_root : List Record
over_root = get 5 7 ∷ put 6 3 31 ∷ get 7 4 ∷ put 8 7 71 ∷ get 9 7 ∷ []

abbrev left : Tree
left = leaf (kept 1 10 ∷ kept 3 30 ∷ [])

abbrev right : Tree
right = leaf (kept 5 50 ∷ kept 7 70 ∷ [])

abbrev node : Tree
node = entry (k 9) over_left left (entry (k 5) over_right right end)

abbrev two : Tree
two = entry (k 0) over_root node end

two_is_a_tree : IsTree map_key_of two least_record None
two_is_a_tree = (
  tt,
  all_records map_key_of over_root,
  (
    tt,
    (record { low = refl; high = refl }, tt),
    ((record { low = refl; high = refl }, (record { low = refl; high = refl }, tt)), ((refl, tt), (tt, tt))),
    (refl, tt),
    (
      tt,
      (record { low = refl; high = tt }, (record { low = refl; high = tt }, (record { low = refl; high = tt }, tt))),
      ((record { low = refl; high = tt }, (record { low = refl; high = tt }, tt)), ((refl, tt), (tt, tt))),
      tt,
      tt,
    ),
  ),
  tt,
  tt,
)

two_has_levels : HasLevel two 2
two_has_levels = ((tt, (tt, tt)), tt)

-- the path of 7: its five operations, nearer the leaf first, and its record
path_of_seven : waiting_at map_key_of two (k 7)
    ≡ get 1 7 ∷ del 4 7 ∷ get 5 7 ∷ put 8 7 71 ∷ get 9 7 ∷ []
unfolding has_key
path_of_seven = refl

leaf_of_seven : stored_at map_key_of two (k 7) ≡ Some (kept 7 70)
unfolding has_key
leaf_of_seven = refl

-- 7 is asked for, deleted, asked for, put, and asked for
seven_owes : path_owes map_key_of map_step_of two (k 7) ≡ found 1 70 ∷ absent 5 ∷ found 9 71 ∷ []
unfolding has_key
seven_owes = refl

seven_has : tree_contents map_key_of map_step_of two (k 7) ≡ Some (kept 7 71)
unfolding has_key
seven_has = refl

-- a put over the left leaf, one in the root's buffer, a key that isn't there, two that are stored
two_has : tree_contents map_key_of map_step_of two (k 2) ≡ Some (kept 2 20)
unfolding has_key
two_has = refl

three_has : tree_contents map_key_of map_step_of two (k 3) ≡ Some (kept 3 31)
unfolding has_key
three_has = refl

four_has : tree_contents map_key_of map_step_of two (k 4) ≡ None
unfolding has_key
four_has = refl

one_has : tree_contents map_key_of map_step_of two (k 1) ≡ Some (kept 1 10)
unfolding has_key
one_has = refl

-- the low key of an entry is in its range
five_has : tree_contents map_key_of map_step_of two (k 5) ≡ Some (kept 5 50)
unfolding has_key
five_has = refl

-- all that is stored and all that waits, from left to right
two_stored : stored_in two ≡ kept 1 10 ∷ kept 3 30 ∷ kept 5 50 ∷ kept 7 70 ∷ []
two_stored = refl

two_waiting : waiting_in two ≡ put 3 2 20 ∷ get 1 7 ∷ get 2 5 ∷ del 4 7
    ∷ get 5 7 ∷ put 6 3 31 ∷ get 7 4 ∷ put 8 7 71 ∷ get 9 7 ∷ []
two_waiting = refl

-- key by key, the paths owe the same answers
paths_owed : paths_owe map_key_of map_step_of two (k 2 ∷ k 3 ∷ k 4 ∷ k 5 ∷ k 7 ∷ [])
    ≡ absent 7 ∷ found 2 50 ∷ found 1 70 ∷ absent 5 ∷ found 9 71 ∷ []
unfolding has_key
paths_owed = refl

no_other_keys : OnlyKeys map_key_of (k 2 ∷ k 3 ∷ k 4 ∷ k 5 ∷ k 7 ∷ []) (waiting_in two)
unfolding has_key
no_other_keys = refl

-- the answers of the whole tree; one was given before
two_owes : owed map_key_of map_step_of two ≡ found 1 70 ∷ found 2 50 ∷ absent 5 ∷ absent 7 ∷ found 9 71 ∷ []
unfolding has_key
two_owes = refl

two_answers : tree_answers map_key_of map_step_of (absent 0 ∷ []) two
    ≡ absent 0 ∷ found 1 70 ∷ found 2 50 ∷ absent 5 ∷ absent 7 ∷ found 9 71 ∷ []
unfolding has_key
two_answers = refl

-- by the two lists as by the path
seven_settled : settled_contents map_key_of map_step_of two (k 7) ≡ Some (kept 7 71)
unfolding has_key
seven_settled = refl

-- the root's buffer is emptied: each entry gets its operations after its own, in their order
root_emptied : pour map_key_of node over_root
    ≡ entry (k 9) (put 3 2 20 ∷ put 6 3 31 ∷ get 7 4 ∷ []) left
    (entry (k 5) (get 1 7 ∷ get 2 5 ∷ del 4 7 ∷ get 5 7 ∷ put 8 7 71 ∷ get 9 7 ∷ []) right end)
root_emptied = refl

-- 7 has what it had, in the same order
emptied_advances : Advances map_key_of map_step_of two
    (entry (k 0) [] (pour map_key_of node over_root) end) [] (k 7)
unfolding has_key
emptied_advances = record { first = []; parts = refl; left = refl }

-- The operations over the right leaf are loaded, ordered by key and number: 7 is asked for and
-- deleted, and its other operations wait.
abbrev loaded : Tree
loaded = entry (k 0) over_root (entry (k 9) over_left left
    (entry (k 5) [] (leaf (list_with_ops map_key_of map_step_of (kept 5 50 ∷ kept 7 70 ∷ [])
    (get 2 5 ∷ get 1 7 ∷ del 4 7 ∷ []))) end)) end

loaded_advances : Advances map_key_of map_step_of two loaded [] (k 7)
unfolding has_key
loaded_advances = record { first = get 1 7 ∷ del 4 7 ∷ []; parts = refl; left = refl }

loaded_owes : owed map_key_of map_step_of loaded ≡ absent 5 ∷ absent 7 ∷ found 9 71 ∷ []
unfolding has_key
loaded_owes = refl

-- one more operation of 7 waits after all others
pushed_advances : Advances map_key_of map_step_of two (entry (k 0) (over_root ++ del 10 7 ∷ []) node end)
    (del 10 7 ∷ []) (k 7)
unfolding has_key
pushed_advances = record { first = []; parts = refl; left = refl }

places : place_in_row node (k 0) ∷ place_in_row node (k 4) ∷ place_in_row node (k 5) ∷ place_in_row node (k 7) ∷ []
    ≡ 0 ∷ 0 ∷ 1 ∷ 1 ∷ []
places = refl

lists_given_out : given_out (λ op. place_in_row node (map_key_of op)) (buffers node) over_root
    ≡ (put 3 2 20 ∷ put 6 3 31 ∷ get 7 4 ∷ [])
    ∷ (get 1 7 ∷ get 2 5 ∷ del 4 7 ∷ get 5 7 ∷ put 8 7 71 ∷ get 9 7 ∷ []) ∷ []
lists_given_out = refl

-- the two places of the node's entries, and one entry put there
second_place : put_at (place_in (under (k 0) over_root end here) (past (k 9) over_left left here))
    (entry (k 5) over_right right end)
    ≡ two
second_place = refl

rows_joined : join_rows (entry (k 9) over_left left end) (entry (k 5) over_right right end) ≡ node
rows_joined = refl

-- Three levels, with one operation of 7 at each: the path has the one nearest the leaf first.
abbrev three : Tree
three = entry (k 0) (get 3 7 ∷ []) (entry (k 0) (put 2 7 72 ∷ [])
    (entry (k 0) (get 1 7 ∷ []) (leaf (kept 7 70 ∷ [])) end) end) end

three_path : waiting_at map_key_of three (k 7) ≡ get 1 7 ∷ put 2 7 72 ∷ get 3 7 ∷ []
unfolding has_key
three_path = refl

three_owes : owed map_key_of map_step_of three ≡ found 1 70 ∷ found 3 72 ∷ []
unfolding has_key
three_owes = refl

-- A bag keeps each operation under a key of its own, and answers nothing.
abbrev bag : Tree
bag = entry (k 0) (rec 6 4 8 0 ∷ []) (entry (k 0) [] (leaf (rec 2 1 9 9 ∷ rec 2 3 7 7 ∷ rec 4 2 5 5 ∷ []))
    (entry (rec 6 1 0 0) [] (leaf (rec 6 1 1 1 ∷ [])) end)) end

bag_has : tree_contents bag_key_of bag_step_of bag (rec 2 3 0 0) ∷ tree_contents bag_key_of bag_step_of bag (rec 2 2 0 0)
    ∷ tree_contents bag_key_of bag_step_of bag (rec 6 4 0 0) ∷ []
    ≡ Some (rec 2 3 7 7) ∷ None ∷ Some (rec 6 4 8 0) ∷ []
unfolding has_key
bag_has = refl

bag_owes : owed bag_key_of bag_step_of bag ≡ []
unfolding has_key
bag_owes = refl

-- the leftmost leaf ends where the second begins; the operation over both has a later key
bag_first : first_leaf bag ≡ rec 2 1 9 9 ∷ rec 2 3 7 7 ∷ rec 4 2 5 5 ∷ []
bag_first = refl

bag_over_first : over_first bag ≡ rec 6 4 8 0 ∷ []
bag_over_first = refl

bag_first_end : first_end None bag ≡ Some (rec 6 1 0 0)
bag_first_end = refl

-- two records are taken out: their keys have nothing left, and the others what they had
bag_taken : tree_contents bag_key_of bag_step_of (with_first_leaf bag (rec 4 2 5 5 ∷ [])) (rec 2 3 0 0)
    ∷ tree_contents bag_key_of bag_step_of (with_first_leaf bag (rec 4 2 5 5 ∷ [])) (rec 4 2 0 0) ∷ []
    ≡ None ∷ Some (rec 4 2 5 5) ∷ []
unfolding has_key
bag_taken = refl

bag_without : without bag_key_of (rec 2 1 9 9 ∷ rec 2 3 7 7 ∷ []) (tree_contents bag_key_of bag_step_of bag) (rec 2 3 0 0)
    ∷ without bag_key_of (rec 2 1 9 9 ∷ rec 2 3 7 7 ∷ []) (tree_contents bag_key_of bag_step_of bag) (rec 4 2 0 0) ∷ []
    ≡ None ∷ Some (rec 4 2 5 5) ∷ []
unfolding has_key
bag_without = refl
