-- What an outline tells of its tree.
use Rattle.std.proofs.Common.{◌≡◌, ℕ, zero, suc, refl, arith, Option}
use Rattle.std.proofs.lemmas.List.{length-append}
use Rattle.std.specs.Prelude.{length, ◌++◌}
use Rattle.em_record.specs.declared.record.Record.{Record}
use Rattle.em_tree_cost.specs.Outline.{IsFilled, IsLevel, join_outlines, stored_of, waiting_of}
use Rattle.em_tree_cost.specs.Spots.{put_at_spot}
use Rattle.em_tree_model.specs.Places.{Place, put_at}
use Rattle.em_tree_model.specs.Places.Place.{here, under, past}
use Rattle.em_tree_model.specs.Ranges.{IsTree}
use Rattle.em_tree_model.specs.Tree.{Tree, HasLevel, IsChild, join_rows, stored_in, waiting_in}
use Rattle.em_tree_model.specs.Tree.Tree.{leaf, end, entry}
use Rattle.em_tree_outline.specs.Outline.{outline_of, spot_of}

-- at a place
pub outline_put : (p : Place) (t : Tree)
    → outline_of (put_at p t) ≡ put_at_spot (spot_of p) (outline_of t)
outline_put here t = refl
outline_put (under low b r p) t = rw (outline_put p t) refl
outline_put (past low b c p) t = rw (outline_put p t) refl

-- two rows joined
pub outline_join : (t u : Tree)
    → outline_of (join_rows t u) ≡ join_outlines (outline_of t) (outline_of u)
outline_join (leaf xs) u = refl
outline_join end u = refl
outline_join (entry low b c r) u = rw (outline_join r u) refl

-- the operations that wait
pub outline_waiting : (t : Tree) → waiting_of (outline_of t) ≡ length (waiting_in t)
outline_waiting (leaf xs) = refl
outline_waiting end = refl
outline_waiting (entry low b c r) =
    let h = outline_waiting c in let i = outline_waiting r in
    let e = length-append (waiting_in c ++ b) (waiting_in r) in
    let f = length-append (waiting_in c) b in
    omega (arith, e, f, h, i)

-- the stored records
pub outline_stored : (t : Tree) → stored_of (outline_of t) ≡ length (stored_in t)
outline_stored (leaf xs) = refl
outline_stored end = refl
outline_stored (entry low b c r) =
    let h = outline_stored c in let i = outline_stored r in
    let e = length-append (stored_in c) (stored_in r) in
    omega (arith, e, h, i)

-- what an entry leads to
pub outline_child : (t : Tree) → IsChild t → IsFilled (outline_of t)
outline_child (leaf xs) is = tt
outline_child end is = absurd is
outline_child (entry low b c r) is = tt

-- even levels
pub outline_level : (key : Record → Record) (t : Tree) (n : ℕ) (lo : Record) (hi : Option Record)
    → IsTree key t lo hi → HasLevel t n → IsLevel (outline_of t) n
outline_level key (leaf xs) zero lo hi is h = tt
outline_level key (leaf xs) (suc n) lo hi is h = absurd h
outline_level key end zero lo hi is h = absurd h
outline_level key end (suc n) lo hi is h = tt
outline_level key (entry low b c r) zero lo hi is h = absurd h
outline_level key (entry low b c r) (suc n) lo hi is h = (
  outline_child c is.0,
  outline_level key c n _ _ is.2 h.0,
  outline_level key r (suc n) _ _ is.4 h.1,
)
