-- The sizes of leaves and nodes, over the events of a call.
use Rattle.std.proofs.Common.{◌≡◌, ℕ, zero, suc, ◌≤◌, arith}
use Rattle.em_tree_cost.specs.Fat.{Fatter, LeftFat}
use Rattle.em_tree_cost.specs.Outline.{IsLevel, Outline, Pours, count_of, join_outlines}
use Rattle.em_tree_cost.specs.Outline.Outline.{end, entry, leaf}
use Rattle.em_tree_cost.specs.Outline.Pours.{none, some}
use Rattle.em_tree_cost.specs.Spots.{Spot, level_at_spot, put_at_spot}
use Rattle.em_tree_cost.specs.Spots.Spot.{here, past, under}
use Rattle.em_tree_cost.proofs.Fatness.{fatter_at, fatter_poured}
use Rattle.em_trunk.specs.Sized.{LeavesUpTo, NodesUnder}

-- leaves at a place
pub leaves_put : (n : ℕ) (p : Spot) (t u : Outline) → (LeavesUpTo n t → LeavesUpTo n u)
    → LeavesUpTo n (put_at_spot p t) → LeavesUpTo n (put_at_spot p u)
leaves_put n here t u f h = f h
leaves_put n (under b r p) t u f h = (leaves_put n p t u f h.0, h.1)
leaves_put n (past b c p) t u f h = (h.0, leaves_put n p t u f h.1)

-- buffers don't count
pub leaves_pour : (n x : ℕ) (t u : Outline) → Pours x t u → LeavesUpTo n t → LeavesUpTo n u
leaves_pour n x t u none h = h
leaves_pour n x t u (some {r = r} {s = s} y e g p) h = (h.0, leaves_pour n _ r s p h.1)

-- two rows that were one
pub leaves_join : (n : ℕ) (t u : Outline) (level : ℕ) → IsLevel t (suc level)
    → LeavesUpTo n (join_outlines t u) → LeavesUpTo n t × LeavesUpTo n u
leaves_join n (leaf x) u level e h = absurd e
leaves_join n end u level e h = (tt, h)
leaves_join n (entry b c r) u level e h =
    let i = leaves_join n r u level e.2 h.1 in ((h.0, i.0), i.1)

-- the entries of a row that has another row at a place
count_put : (p : Spot) (t u : Outline) → count_of u ≤ count_of t
    → count_of (put_at_spot p u) ≤ count_of (put_at_spot p t)
count_put here t u h = h
count_put (under b r p) t u h = omega arith
count_put (past b c p) t u h = let i = count_put p t u h in omega (arith, i)

-- nodes at a place, where no row became longer
pub nodes_put : (n : ℕ) (p : Spot) (t u : Outline) → count_of u ≤ count_of t
    → (NodesUnder n t → NodesUnder n u) → NodesUnder n (put_at_spot p t)
    → NodesUnder n (put_at_spot p u)
nodes_put n here t u le f h = f h
nodes_put n (under b r p) t u le f h =
    let i = count_put p t u le in
    (omega (arith, h.0, i), nodes_put n p t u le f h.1, h.2)
nodes_put n (past b c p) t u le f h = (h.0, h.1, nodes_put n p t u le f h.2)

pub nodes_pour : (n x : ℕ) (t u : Outline) → Pours x t u → NodesUnder n t → NodesUnder n u
nodes_pour n x t u none h = h
nodes_pour n x t u (some {r = r} {s = s} y e g p) h = (h.0, h.1, nodes_pour n _ r s p h.2)

pub count_pour : (x : ℕ) (t u : Outline) → Pours x t u → count_of u ≡ count_of t
count_pour x t u none = omega arith
count_pour x t u (some {r = r} {s = s} y e g p) = let i = count_pour _ r s p in omega (arith, i)

-- The buffer of an entry is emptied into its child: no node loses an entry.
pub fatter_emptied : (f b x : ℕ) (c e r : Outline) → Pours x c e
    → Fatter f (entry b c r) (entry 0 e r)
fatter_emptied f b x c e r p =
    let i = fatter_at f (under b r here) c e (fatter_poured f x c e p) in
    record { count = i.count; fat = i.fat; all = i.all; left = i.left }

pub fat_emptied : (f b x : ℕ) (p : Spot) (c e r : Outline) → Pours x c e
    → LeftFat f (put_at_spot p (entry b c r)) → LeftFat f (put_at_spot p (entry 0 e r))
fat_emptied f b x p c e r pours h =
    (fatter_at f p (entry b c r) (entry 0 e r) (fatter_emptied f b x c e r pours)).left h

-- Even levels at a place.
pub even_put : (p : Spot) (t : Outline) (level : ℕ) → IsLevel (put_at_spot p t) level
    → IsLevel t (level_at_spot p level)
even_put here t level h = h
even_put (under b r p) t zero h = absurd h
even_put (under b r p) t (suc level) h = even_put p t level h.1
even_put (past b c p) t zero h = absurd h
even_put (past b c p) t (suc level) h = even_put p t (suc level) h.2
