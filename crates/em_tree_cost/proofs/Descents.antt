-- How often the emptying of full buffers goes down from the root.
use Rattle.std.proofs.Common.{ℕ, ◌+◌, ◌*◌, ◌≤◌, arith}
use Rattle.em_tree_cost.specs.Descents.{Emptyings}
use Rattle.em_tree_cost.specs.Descents.Emptyings.{deep, load, next, pass, stop}

-- At most two descents for each buffer, one for each load and for each split of a node, and one.
pub descents : (level i d s v : ℕ) → Emptyings level i d s v → v ≤ 2 * i + d + s + 1
descents level i d s v stop = omega arith
descents level i d s v (next e f p) = let h = descents _ _ _ _ _ p in omega (arith, e, f, h)
descents level i d s v (load e f p) = let h = descents _ _ _ _ _ p in omega (arith, e, f, h)
descents level i d s v (pass e f p) = let h = descents _ _ _ _ _ p in omega (arith, e, f, h)
descents level i d s v (deep i1 d1 s1 v1 i2 d2 s2 v2 a b c e p q) =
    let g = descents _ _ _ _ _ p in let h = descents _ _ _ _ _ q in omega (arith, a, b, c, e, g, h)
