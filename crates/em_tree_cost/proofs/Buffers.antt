-- The sizes of buffers inside a call.
use Rattle.std.proofs.Common.{◌≡◌, ℕ, ◌+◌, ◌*◌, ◌≤◌, arith}
use Rattle.std.proofs.Math.Nat.{mul-le-mul_left}
use Rattle.em_tree_cost.specs.Fat.{RowUnder}
use Rattle.em_tree_cost.specs.Outline.{Outline, Pours}
use Rattle.em_tree_cost.specs.Outline.Outline.{end, entry, leaf}
use Rattle.em_tree_cost.specs.Outline.Pours.{none, some}

-- a greater bound
row_more : (x y : ℕ) (t : Outline) → x ≤ y → RowUnder x t → RowUnder y t
row_more x y (leaf n) le h = tt
row_more x y end le h = tt
row_more x y (entry b c r) le h = (omega (arith, h.0, le), row_more x y r le h.1)

-- A row's buffers become larger by no more than what is poured over it. So if buffers have fewer
-- than 2 * w * B operations each, and one of the level above is poured over each row once, a buffer
-- of a node of level i has fewer than (the root's level + 2 - i) * 2 * w * B.
pub poured_under : (f x : ℕ) (t u : Outline) → Pours x t u → RowUnder f t → RowUnder (f + x) u
poured_under f x t u none h = tt
poured_under f x t u (some {z = z} {r = r} {s = s} y e g p) h =
    let i = poured_under f z r s p h.1 in
    (omega (arith, h.0, e, g), row_more (f + z) (f + x) s (omega (arith, e)) i)

-- what a load of w * B leaves of a leaf's buffer, in a tree of root level R: see `split_moves`
pub rest_most : (w B R L x rest : ℕ) → R ≤ L → x ≤ (R + 1) * (2 * w * B) → rest + w * B ≡ x
    → rest ≤ (2 * L + 1) * w * B
rest_most w B R L x rest h a e =
    let m : w * B * R ≤ w * B * L = mul-le-mul_left (w * B) h in
    omega (arith, m, a, e)
