-- Off the leftmost path each node keeps at least f entries, whatever events come.
use Rattle.std.proofs.Common.{ℕ, suc, ◌+◌, ◌≤◌, arith}
use Rattle.em_tree_cost.specs.Fat.{AllFat, Fatter, IsFat, LeftFat}
use Rattle.em_tree_cost.specs.Outline.{IsFilled, IsLevel, Outline, Pours, count_of, join_outlines}
use Rattle.em_tree_cost.specs.Outline.Outline.{end, entry, leaf}
use Rattle.em_tree_cost.specs.Outline.Pours.{none, some}
use Rattle.em_tree_cost.specs.Spots.{IsLeftmost, Spot, put_at_spot}
use Rattle.em_tree_cost.specs.Spots.Spot.{here, past, under}

-- at a place, and so in the whole
pub fatter_at : (f : ℕ) (p : Spot) (t u : Outline) → Fatter f t u
    → Fatter f (put_at_spot p t) (put_at_spot p u)
fatter_at f here t u h = h
fatter_at f (under b r p) t u h =
    let i = fatter_at f p t u h in
    record {
      count = omega arith;
      fat = λ (a : f ≤ 1 + count_of r). a;
      all = λ (a : IsFat f (put_at_spot p t) × AllFat f (put_at_spot p t) × AllFat f r).
          (i.fat a.0, i.all a.1, a.2);
      left = λ (a : LeftFat f (put_at_spot p t) × AllFat f r). (i.left a.0, a.1);
    }
fatter_at f (past b c p) t u h =
    let i = fatter_at f p t u h in
    record {
      count = omega (arith, i.count);
      fat = λ (a : f ≤ 1 + count_of (put_at_spot p t)).
          (let g : f ≤ 1 + count_of (put_at_spot p u) = omega (arith, a, i.count) in g);
      all = λ (a : IsFat f c × AllFat f c × AllFat f (put_at_spot p t)). (a.0, a.1, i.all a.2);
      left = λ (a : LeftFat f c × AllFat f (put_at_spot p t)). (a.0, i.all a.1);
    }

-- If all nodes are fat, so are those off the leftmost path.
pub all_fat_left : (f : ℕ) (t : Outline) → AllFat f t → LeftFat f t
all_fat_left f (leaf n) a = tt
all_fat_left f end a = tt
all_fat_left f (entry b c r) a = (all_fat_left f c a.1, a.2)

-- operations were poured over a row
pub fatter_poured : (f x : ℕ) (t u : Outline) → Pours x t u → Fatter f t u
fatter_poured f x t u none =
    record { count = omega arith; fat = λ a. a; all = λ a. a; left = λ a. a }
fatter_poured f x t u (some {a = m} {b = n} {c = c} {r = r} {s = s} y e g p) =
    let i = fatter_poured f _ r s p in
    record {
      count = omega (arith, i.count);
      fat = λ (a : f ≤ 1 + count_of r).
          (let k : f ≤ 1 + count_of s = omega (arith, a, i.count) in k);
      all = λ (a : IsFat f c × AllFat f c × AllFat f r). (a.0, a.1, i.all a.2);
      left = λ (a : LeftFat f c × AllFat f r). (a.0, i.all a.1);
    }

-- other records in an entry's buffer, and in its leaf
pub fatter_load : (f a b n o : ℕ) (r : Outline) → Fatter f (entry a (leaf n) r) (entry b (leaf o) r)
fatter_load f a b n o r = record { count = omega arith; fat = λ h. h; all = λ h. h; left = λ h. h }

-- a leaf was cut into two
pub fatter_split : (f a b d n i j : ℕ) (r : Outline)
    → Fatter f (entry a (leaf n) r) (entry b (leaf i) (entry d (leaf j) r))
fatter_split f a b d n i j r = record {
  count = omega arith;
  fat = λ (h : f ≤ 1 + count_of r). (let k : f ≤ 1 + (1 + count_of r) = omega arith in k);
  all = λ (h : Unit {0} × Unit {0} × AllFat f r). (tt, tt, (tt, tt, h.2));
  left = λ (h : Unit {0} × AllFat f r). (tt, (tt, tt, h.1));
}

-- the two parts of a row whose nodes below are fat
pub all_fat_join : (f : ℕ) (t u : Outline) (level : ℕ) → IsLevel t (suc level)
    → AllFat f (join_outlines t u)
    → AllFat f t × AllFat f u
all_fat_join f (leaf n) u level h a = absurd h
all_fat_join f end u level h a = (tt, a)
all_fat_join f (entry b c r) u level h a =
    let i = all_fat_join f r u level h.2 a.2 in ((a.0, a.1, i.0), i.1)

-- the same of a row on the leftmost path
pub left_fat_join : (f : ℕ) (t u : Outline) (level : ℕ) → IsLevel t (suc level) → IsFilled t
    → LeftFat f (join_outlines t u) → LeftFat f t × AllFat f u
left_fat_join f (leaf n) u level h s a = absurd h
left_fat_join f end u level h s a = absurd s
left_fat_join f (entry b c r) u level h s a =
    let i = all_fat_join f r u level h.2 a.1 in ((a.0, i.0), i.1)

-- a node was cut into two, of at least f entries each
pub fatter_node_split : (f a b d : ℕ) (t u r : Outline) (level : ℕ) → IsLevel t (suc level)
    → IsFilled t
    → IsFat f t → IsFat f u
    → Fatter f (entry a (join_outlines t u) r) (entry b t (entry d u r))
fatter_node_split f a b d t u r level h s ft fu = record {
  count = omega arith;
  fat = λ (k : f ≤ 1 + count_of r). (let g : f ≤ 1 + (1 + count_of r) = omega arith in g);
  all = λ (k : IsFat f (join_outlines t u) × AllFat f (join_outlines t u) × AllFat f r).
      (let i = all_fat_join f t u level h k.1 in (ft, i.0, (fu, i.1, k.2)));
  left = λ (k : LeftFat f (join_outlines t u) × AllFat f r).
      (let i = left_fat_join f t u level h s k.0 in (i.0, (fu, i.1, k.1)));
}

-- a new root over the halves of the old one
pub left_fat_growing : (f a b : ℕ) (t u : Outline) (level : ℕ) → IsLevel t (suc level) → IsFilled t
    → IsFat f u
    → LeftFat f (join_outlines t u) → LeftFat f (entry a t (entry b u end))
left_fat_growing f a b t u level h s fu l =
    let i = left_fat_join f t u level h s l in (i.0, (fu, i.1, tt))

-- at a place on the leftmost path, and so in the whole
pub left_fat_at : (f : ℕ) (p : Spot) (t u : Outline) → IsLeftmost p → (LeftFat f t → LeftFat f u)
    → LeftFat f (put_at_spot p t) → LeftFat f (put_at_spot p u)
left_fat_at f here t u h g l = g l
left_fat_at f (under b r p) t u h g l = (left_fat_at f p t u h g l.0, l.1)
left_fat_at f (past b c p) t u h g l = absurd h

-- the first entry of a row on the leftmost path was removed
pub left_fat_removing : (f b : ℕ) (c r : Outline) → LeftFat f (entry b c r) → LeftFat f r
left_fat_removing f b c r l = all_fat_left f r l.1
