-- Buffers that are bounded, over a load with a split and a root that may be higher.
use Rattle.std.proofs.Common.{◌≡◌, true, ℕ, zero, suc, ◌+◌, ◌-◌, ◌*◌, ◌<◌, ◌≤◌, min, List, refl, subst, arith, ⊎_elim}
use Rattle.std.specs.Prelude.{None, Option, Some}
use Rattle.std.proofs.Math.Nat.{min-eq_left, min-eq_right, mul-le-mul_right}
use Rattle.std.proofs.lemmas.Bool.{cases_lt}
use Rattle.em_record.specs.Order.{is_below}
use Rattle.em_record.specs.Shape.{IsShape, ShapeNumbers, fan_of}
use Rattle.em_record.specs.declared.record.Record.{Record}
use Rattle.em_tree_cost.specs.Spots.{level_at_spot}
use Rattle.em_tree_model.specs.Places.{Place, put_at}
use Rattle.em_tree_model.specs.Places.Place.{here, past, under}
use Rattle.em_tree_model.specs.Ranges.{Under}
use Rattle.em_tree_model.specs.Tree.{Tree}
use Rattle.em_tree_model.specs.Tree.Tree.{entry}
use Rattle.em_tree_model.proofs.Ranges.{below_not, from_above}
use Rattle.em_tree_outline.specs.Outline.{spot_of}
use Rattle.em_trunk.specs.Buffers.{IsBounded}
use Rattle.em_trunk.specs.Entries.{EachEntry, place_level}
use Rattle.em_trunk.specs.Trunk.{full_limit}
use Rattle.em_trunk.proofs.Regrown.{fan_some}

-- what holds of the buffer of an entry at a place, by the level of its node
pub each_here : (R : ℕ → List Record → Type 0) (p : Place) (low : Record) (b : List Record) (c r : Tree)
    (level : ℕ) (lo : Record) (hi : Option Record)
    → EachEntry (λ l k top x. R l x) level lo hi (put_at p (entry low b c r))
    → R (place_level p level) b
each_here R here low b c r level lo hi h = h.0
each_here R (under low2 b2 r2 p) low b c r level lo hi h = each_here R p low b c r (level - 1) _ _ h.1
each_here R (past low2 b2 c2 p) low b c r level lo hi h = each_here R p low b c r level _ _ h.2

-- both ways to count the level at a place
pub place_spot : (p : Place) (level : ℕ) → place_level p level ≡ level_at_spot (spot_of p) level
place_spot here level = refl
place_spot (under low b r p) zero = place_spot p 0
place_spot (under low b r p) (suc n) =
    let P : ℕ → Type 0 = λ x. place_level p x ≡ level_at_spot (spot_of p) n in
    let e : n ≡ suc n - 1 = omega arith in
    subst P e (place_spot p n)
place_spot (past low b c p) level = place_spot p level

-- a key below another one that is below an end
pub under_before : (hi : Option Record) (a k : Record) → is_below a k ≡ true → Under hi k → Under hi a
under_before None a k h u = tt
under_before (Some top) a k h u = from_above a k top h (below_not k top u)

-- what a load leaves of a buffer that is bounded
pub rest_few : (load rest F level L : ℕ) → load ≡ min (load + rest) F → load + rest < (level + 1) * (2 * F)
    → level ≤ L → rest ≤ (2 * L + 1) * F
rest_few load rest F level L taken few low = ⊎_elim
    (λ (small : load + rest < F).
    let e : min (load + rest) F ≡ load + rest = min-eq_left (omega (arith, small)) in
    omega (arith, taken, e))
    (λ (big : F ≤ load + rest).
    let e : min (load + rest) F ≡ F = min-eq_right big in
    let m : (level + 1) * (2 * F) ≤ (L + 1) * (2 * F) = mul-le-mul_right (2 * F) (omega (arith, low)) in
    let n : (L + 1) * (2 * F) ≡ (2 * L + 1) * F + F = omega arith in
    omega (arith, taken, e, few, m, n))
    (cases_lt (load + rest) F)

-- a bound under a root that may be higher
pub bound_more : (top more limit l x : ℕ) → top ≤ more → x < (top + 2 - l) * limit
    → x < (more + 2 - l) * limit
bound_more top more limit l x up few =
    let m : (top + 2 - l) * limit ≤ (more + 2 - l) * limit = mul-le-mul_right limit (omega (arith, up)) in
    omega (arith, few, m)

pub bound_some : (top limit l : ℕ) → 0 < limit → l ≤ top → 0 < (top + 2 - l) * limit
bound_some top limit l some le =
    let m : 1 * limit ≤ (top + 2 - l) * limit = mul-le-mul_right limit (omega (arith, le)) in
    omega (arith, some, m)

-- a buffer of a node up to the root's level is bounded
abbrev pub BoundedUpTo : ℕ → ℕ → ℕ → Record → Option Record → List Record → Type 0
BoundedUpTo top limit l k hi b = l ≤ top → IsBounded top limit l k hi b

-- a full buffer has some
pub limit_some : {shape : ShapeNumbers} → IsShape shape → 0 < full_limit shape
limit_some {shape = shape} is =
    let f = fan_some is in
    let m : 4 * shape.block ≤ fan_of shape * shape.block = mul-le-mul_right shape.block f in
    omega (arith, m, is.block_low)
