-- Laws of outlines: sums at a place, rows poured over and joined, nodes and leaves.
use Rattle.std.proofs.Common.{◌≡◌, ℕ, zero, suc, ◌+◌, ◌*◌, ◌^◌, ◌≤◌, refl, arith}
use Rattle.std.proofs.Math.Nat.{mul-le-mul_right, pow-suc, pow-zero}
use Rattle.em_tree_cost.specs.Fat.{AllFat}
use Rattle.em_tree_cost.specs.Outline.{IsFilled, IsLevel, Outline, Pours, count_of, excess_of, inner_of, join_outlines, leaves_of, stored_of, waiting_of, weight_of}
use Rattle.em_tree_cost.specs.Outline.Outline.{end, entry, leaf}
use Rattle.em_tree_cost.specs.Outline.Pours.{none, some}
use Rattle.em_tree_cost.specs.Spots.{Spot, level_at_spot, put_at_spot}
use Rattle.em_tree_cost.specs.Spots.Spot.{here, past, under}

-- What a sum gains at a place, the whole gains.
pub spot_waiting : (p : Spot) (t u : Outline)
    → waiting_of (put_at_spot p u) + waiting_of t ≡ waiting_of (put_at_spot p t) + waiting_of u
spot_waiting here t u = omega arith
spot_waiting (under b r p) t u = let e = spot_waiting p t u in omega arith
spot_waiting (past b c p) t u = let e = spot_waiting p t u in omega arith

pub spot_stored : (p : Spot) (t u : Outline)
    → stored_of (put_at_spot p u) + stored_of t ≡ stored_of (put_at_spot p t) + stored_of u
spot_stored here t u = omega arith
spot_stored (under b r p) t u = let e = spot_stored p t u in omega arith
spot_stored (past b c p) t u = let e = spot_stored p t u in omega arith

pub spot_leaves : (p : Spot) (t u : Outline)
    → leaves_of (put_at_spot p u) + leaves_of t ≡ leaves_of (put_at_spot p t) + leaves_of u
spot_leaves here t u = omega arith
spot_leaves (under b r p) t u = let e = spot_leaves p t u in omega arith
spot_leaves (past b c p) t u = let e = spot_leaves p t u in omega arith

pub spot_excess : (half : ℕ) (p : Spot) (t u : Outline)
    → excess_of half (put_at_spot p u) + excess_of half t
    ≡ excess_of half (put_at_spot p t) + excess_of half u
spot_excess half here t u = omega arith
spot_excess half (under b r p) t u = let e = spot_excess half p t u in omega arith
spot_excess half (past b c p) t u = let e = spot_excess half p t u in omega arith

pub spot_weight : (level : ℕ) (p : Spot) (t u : Outline)
    → weight_of level (put_at_spot p u) + weight_of (level_at_spot p level) t
    ≡ weight_of level (put_at_spot p t) + weight_of (level_at_spot p level) u
spot_weight level here t u = omega arith
spot_weight zero (under b r p) t u = let e = spot_weight zero p t u in omega arith
spot_weight (suc level) (under b r p) t u = let e = spot_weight level p t u in omega arith
spot_weight zero (past b c p) t u = let e = spot_weight zero p t u in omega arith
spot_weight (suc level) (past b c p) t u = let e = spot_weight (suc level) p t u in omega arith

-- Operations that are poured over a row wait in its buffers, and change nothing else.
pub poured_waiting : (x : ℕ) (t u : Outline) → Pours x t u → waiting_of u ≡ waiting_of t + x
poured_waiting x t u none = omega arith
poured_waiting x t u (some y e f p) = let ih = poured_waiting _ _ _ p in omega arith

pub poured_stored : (x : ℕ) (t u : Outline) → Pours x t u → stored_of u ≡ stored_of t
poured_stored x t u none = refl
poured_stored x t u (some y e f p) = let ih = poured_stored _ _ _ p in omega arith

pub poured_leaves : (x : ℕ) (t u : Outline) → Pours x t u → leaves_of u ≡ leaves_of t
poured_leaves x t u none = refl
poured_leaves x t u (some y e f p) = let ih = poured_leaves _ _ _ p in omega arith

pub poured_excess : (half x : ℕ) (t u : Outline) → Pours x t u → excess_of half u ≡ excess_of half t
poured_excess half x t u none = refl
poured_excess half x t u (some y e f p) = let ih = poured_excess half _ _ _ p in omega arith

pub poured_weight : (level x : ℕ) (t u : Outline) → Pours x t u
    → weight_of (suc level) u ≡ weight_of (suc level) t + level * x
poured_weight level x t u none = omega arith
poured_weight level x t u (some y e f p) =
    let ih = poured_weight level _ _ _ p in rw (e, f) (omega arith)

-- the entries of two rows, joined
pub join_count : (t u : Outline) (level : ℕ) → IsLevel t (suc level)
    → count_of (join_outlines t u) ≡ count_of t + count_of u
join_count (leaf n) u level h = absurd h
join_count end u level h = omega arith
join_count (entry b c r) u level h = let ih = join_count r u level h.2 in omega arith

pub join_waiting : (t u : Outline) (level : ℕ) → IsLevel t (suc level)
    → waiting_of (join_outlines t u) ≡ waiting_of t + waiting_of u
join_waiting (leaf n) u level h = absurd h
join_waiting end u level h = omega arith
join_waiting (entry b c r) u level h = let ih = join_waiting r u level h.2 in omega arith

pub join_stored : (t u : Outline) (level : ℕ) → IsLevel t (suc level)
    → stored_of (join_outlines t u) ≡ stored_of t + stored_of u
join_stored (leaf n) u level h = absurd h
join_stored end u level h = omega arith
join_stored (entry b c r) u level h = let ih = join_stored r u level h.2 in omega arith

pub join_leaves : (t u : Outline) (level : ℕ) → IsLevel t (suc level)
    → leaves_of (join_outlines t u) ≡ leaves_of t + leaves_of u
join_leaves (leaf n) u level h = absurd h
join_leaves end u level h = omega arith
join_leaves (entry b c r) u level h = let ih = join_leaves r u level h.2 in omega arith

pub join_excess : (half : ℕ) (t u : Outline) (level : ℕ) → IsLevel t (suc level)
    → excess_of half (join_outlines t u) ≡ excess_of half t + excess_of half u
join_excess half (leaf n) u level h = absurd h
join_excess half end u level h = omega arith
join_excess half (entry b c r) u level h = let ih = join_excess half r u level h.2 in omega arith

pub join_weight : (t u : Outline) (level : ℕ) → IsLevel t (suc level)
    → weight_of (suc level) (join_outlines t u) ≡ weight_of (suc level) t + weight_of (suc level) u
join_weight (leaf n) u level h = absurd h
join_weight end u level h = omega arith
join_weight (entry b c r) u level h = let ih = join_weight r u level h.2 in omega arith

-- A leaf is there.
pub some_leaf : (t : Outline) (level : ℕ) → IsLevel t level → IsFilled t → 1 ≤ leaves_of t
some_leaf (leaf n) level h s = omega arith
some_leaf end level h s = absurd s
some_leaf (entry b c r) zero h s = absurd h
some_leaf (entry b c r) (suc level) h s = let ih = some_leaf c level h.1 h.0 in omega arith

-- the nodes below a row of this level
pub inner_most : (t : Outline) (level : ℕ) → IsLevel t (suc level)
    → inner_of t ≤ level * leaves_of t
inner_most (leaf n) level h = absurd h
inner_most end level h = omega arith
inner_most (entry b (leaf n) r) zero h = let ih = inner_most r zero h.2 in omega arith
inner_most (entry b end r) zero h = absurd h.0
inner_most (entry b (entry d e g) r) zero h = absurd h.1
inner_most (entry b (leaf n) r) (suc level) h = absurd h.1
inner_most (entry b end r) (suc level) h = absurd h.0
inner_most (entry b (entry d e g) r) (suc level) h =
    let one = some_leaf (entry d e g) (suc level) h.1 tt in
    let i = inner_most (entry d e g) level h.1 in
    let j = inner_most r (suc level) h.2 in
    omega arith

pub nodes_most : (t : Outline) (level : ℕ) → IsLevel t (suc level) → IsFilled t
    → 1 + inner_of t ≤ suc level * leaves_of t
nodes_most t level h s =
    let i = inner_most t level h in let o = some_leaf t (suc level) h s in omega arith

-- A row whose nodes below have at least f entries each has at least f ^ level leaves under each
-- entry.
pub fat_row : (f : ℕ) (t : Outline) (level : ℕ) → IsLevel t (suc level) → AllFat f t
    → count_of t * f ^ level ≤ leaves_of t
fat_row f (leaf n) level h a = absurd h
fat_row f end level h a = omega arith
fat_row f (entry b (leaf n) r) zero h a =
    let ih = fat_row f r zero h.2 a.2 in let z = pow-zero f in
    let e : count_of r * f ^ 0 ≡ count_of r = rw z (omega arith) in
    rw z (omega arith)
fat_row f (entry b end r) zero h a = absurd h.0
fat_row f (entry b (entry d e g) r) zero h a = absurd h.1
fat_row f (entry b (leaf n) r) (suc level) h a = absurd h.1
fat_row f (entry b end r) (suc level) h a = absurd h.0
fat_row f (entry b (entry d e g) r) (suc level) h a =
    let i = fat_row f (entry d e g) level h.1 a.1 in
    let j = fat_row f r (suc level) h.2 a.2 in
    let z = pow-suc f level in
    let fat : f ≤ 1 + count_of g = a.0 in
    let m : f * f ^ level ≤ (1 + count_of g) * f ^ level = mul-le-mul_right (f ^ level) fat in
    omega arith

-- A new root over two rows, the right one of at least f entries: f ^ level leaves there, and one on
-- the left.
pub cut_leaves : (f : ℕ) (t u : Outline) (level : ℕ) → IsLevel t (suc level) → IsFilled t
    → IsLevel u (suc level) → AllFat f u → f ≤ count_of u
    → f ^ suc level + 1 ≤ leaves_of (entry 0 t (entry 0 u end))
cut_leaves f t u level h s k a c =
    let o = some_leaf t (suc level) h s in
    let r = fat_row f u level k a in
    let z = pow-suc f level in
    let m : f * f ^ level ≤ count_of u * f ^ level = mul-le-mul_right (f ^ level) c in
    omega arith

-- The same of the root before it was cut, as `paid_grow` asks.
pub root_leaves : (f : ℕ) (t u : Outline) (level : ℕ) → IsLevel t (suc level) → IsFilled t
    → IsLevel u (suc level) → AllFat f u → f ≤ count_of u
    → f ^ suc level + 1 ≤ leaves_of (join_outlines t u)
root_leaves f t u level h s k a c =
    let l = cut_leaves f t u level h s k a c in
    let j = join_leaves t u level h in
    omega (arith, l, j)
