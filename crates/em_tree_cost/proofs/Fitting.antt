-- Each event keeps what ties counters and sums.
use Rattle.std.proofs.Common.{◌≡◌, ℕ, ◌+◌, ◌-◌, ◌*◌, ◌^◌, ◌≤◌, refl, arith, ◌⊎◌, inl, inr, add-one}
use Rattle.std.proofs.Math.Nat.{mul-le-mul_left, one-le-pow, pow-suc}
use Rattle.em_tree_cost.specs.Counters.{Counters, CountersFit, FitsRoot, Sums, Untaken, fresh_sums, no_counters, parts_of, parts_since}
use Rattle.em_tree_cost.specs.Effects.{OnlySplits, StillTaken, SumsFall, SumsGrow, SumsLoad, SumsLower, SumsPush, SumsRemove, SumsSplit, SumsTake, after_draining, after_loading, after_lowering, after_owning, after_pushing, after_removing, after_settling, after_splitting, after_taking}
use Rattle.em_tree_cost.specs.Fusing.{SumsShare, with_level}

-- level 1
pub root_flat : (w B k since level : ℕ) → level ≡ 1 → FitsRoot w B k since level
root_flat w B k since level e = record { level_some = omega arith; level_most = inl e; level_parts = inl e }

-- a new tree
pub fits_new : (w B L : ℕ) → CountersFit w B L no_counters fresh_sums
fits_new w B L = record {
  sums = omega arith;
  needs = record { parts_need = inl refl; left_need = inl refl };
  root = root_flat w B 0 0 1 refl;
}

-- more levels
pub fits_levels : {w B L : ℕ} {cs : Counters} {t : Sums} (M : ℕ) → L ≤ M → CountersFit w B L cs t
    → CountersFit w B M cs t
fits_levels {L = L} {cs = cs} M h a =
    let m : cs.n * L ≤ cs.n * M = mul-le-mul_left cs.n h in
    record { sums = omega (arith, a.sums, m); needs = a.needs; root = a.root }

module _ {w B L : ℕ} {cs : Counters} {t : Sums} (u : Sums) (a : CountersFit w B L cs t) where
  -- no sum rose
  pub fits_fall : SumsFall t u → CountersFit w B L cs u
  fits_fall m = record { sums = omega (arith, a.sums, m); needs = a.needs; root = rw (m.level) a.root }

  -- An operation was pushed. The root's level is within L: see `root_levels`.
  pub fits_pushing : t.level ≤ L → SumsPush t u → CountersFit w B L (after_pushing cs) u
  fits_pushing h m =
      record { sums = omega (arith, a.sums, m, h); needs = grind arith; root = rw (m.level) (grind arith) }

  -- operations went a level down
  pub fits_lowering : (x : ℕ) → SumsLower x t u → CountersFit w B L (after_lowering x cs) u
  fits_lowering x m = record { sums = omega (arith, a.sums, m); needs = a.needs; root = rw (m.level) a.root }

  -- operations were loaded into a leaf
  pub fits_loading : (c : ℕ) → SumsLoad c t u → CountersFit w B L (after_loading c cs) u
  fits_loading c m = record { sums = omega (arith, a.sums, m); needs = a.needs; root = rw (m.level) a.root }

  -- a leaf was cut into two
  pub fits_splitting : SumsSplit w B t u → CountersFit w B L (after_splitting cs) u
  fits_splitting m =
      record { sums = omega (arith, a.sums, m); needs = grind arith; root = rw (m.level) (grind arith) }

  -- g records were handed out. h are none, or all those of a call that leaves some.
  pub fits_taking : (g h : ℕ) → cs.left + h ≤ cs.taken + g
      → (h ≡ 0) ⊎ (w * B ≤ 2 * h) × (h ≤ cs.taken_since + g) → SumsTake g t u
      → CountersFit w B L (after_taking g h cs) u
  fits_taking g h le half m =
      record { sums = omega (arith, a.sums, m, le); needs = grind arith; root = rw (m.level) a.root }

  -- a leaf was taken away
  pub fits_removing : SumsRemove t u → CountersFit w B L (after_removing cs) u
  fits_removing m = record { sums = omega (arith, a.sums, m); needs = a.needs; root = rw (m.level) a.root }

  -- leaves shared their records, or nodes were fused or shared their entries
  pub fits_sharing : SumsShare t u → CountersFit w B L cs u
  fits_sharing m = record {
    sums = omega (arith, a.sums, m);
    needs = a.needs;
    root = root_flat w B cs.k (parts_since cs) u.level m.flat;
  }

  -- A new root stands over the two halves of the old one. That many leaves and one are there, since the right half has as many
  -- and the left half one (`root_leaves`): each but one is a part of w * B records, or one of two.
  pub fits_growing : 1 ≤ w → (2 * w) ^ t.level + 1 ≤ t.leaves → SumsGrow t u → CountersFit w B L cs u
  fits_growing wide some m =
      let X = (2 * w) ^ t.level in
      let one : 1 ≤ X = one-le-pow t.level (2 * w) (omega (arith, wide)) in
      let few : X + 1 ≤ parts_since cs = omega (arith, some, a.sums.leaves_are, one) in
      let n : w * B * X ≤ w * B * parts_since cs = mul-le-mul_left (w * B) (omega (arith, few)) in
      let e = pow-suc (2 * w) t.level in
      let low : B * (2 * w) ^ (t.level + 1) ≤ 2 * cs.k =
      rw add-one (rw e (omega (arith, n, a.sums.parts_since_most, a.sums.since_most))) in
      record {
        sums = omega (arith, a.sums, m);
        needs = a.needs;
        root = record {
          level_some = omega (arith, m.level);
          level_most = inr (rw (m.level) low);
          level_parts = inr (omega (arith, few, one));
        };
      }

module _ {w B L : ℕ} {cs : Counters} {t : Sums} (a : CountersFit w B L cs t) where
  -- a call more of `settle_all` or `finish`
  pub fits_settling : CountersFit w B L (after_settling cs) t
  fits_settling = record { sums = omega (arith, a.sums); needs = a.needs; root = a.root }

  -- the splits since the reset were those of a settling: a part is a part
  pub fits_owning : CountersFit w B L (after_owning cs) t
  fits_owning =
      let ds = after_owning cs in
      let all : parts_of ds ≡ parts_of cs = omega (arith, a.sums.splits_most) in
      let since : parts_since ds ≡ parts_since cs = omega arith in
      let x : w * B * parts_of ds ≡ w * B * parts_of cs = rw all refl in
      let y : w * B * parts_since ds ≡ w * B * parts_since cs = rw since refl in
      record {
        sums = omega (arith, a.sums, x, y, all, since);
        needs = rw all a.needs;
        root = rw since a.root;
      }

  -- a reset: the tree is as new
  pub fits_draining : CountersFit w B L (after_draining cs) fresh_sums
  fits_draining = record { sums = omega (arith, a.sums); needs = a.needs; root = root_flat w B cs.k 0 1 refl }

  -- At the end of fusing the level is looked at again: it is 1, or it is low enough and two leaves are there.
  pub fits_level : (level : ℕ) → (level ≡ 1) ⊎ (1 ≤ level) × (B * (2 * w) ^ level ≤ cs.k) × (2 ≤ t.leaves)
      → CountersFit w B L cs (with_level level t)
  fits_level level h = record { sums = omega (arith, a.sums); needs = a.needs; root = grind arith }

  -- Each leaf but one is a part since the reset.
  pub leaves_parts : t.leaves ≤ 1 + parts_since cs
  leaves_parts = omega (arith, a.sums.leaves_are)

-- nothing of it happened
pub still_taken : (cs : Counters) → StillTaken cs cs
still_taken cs = omega arith

pub still_then : {cs ds es : Counters} → StillTaken cs ds → StillTaken ds es → StillTaken cs es
still_then a b = omega (arith, a, b)

pub splits_none : (cs : Counters) → OnlySplits cs cs
splits_none cs = record { still = still_taken cs; brought = refl; settled_since = refl }

-- Operations that go down or are loaded split nothing.
pub lowering_only : (x : ℕ) (cs : Counters) → OnlySplits cs (after_lowering x cs)
lowering_only x cs = record { still = omega arith; brought = refl; settled_since = refl }

pub loading_only : (x : ℕ) (cs : Counters) → OnlySplits cs (after_loading x cs)
loading_only x cs = record { still = omega arith; brought = refl; settled_since = refl }

pub splitting_only : (cs : Counters) → OnlySplits cs (after_splitting cs)
splitting_only cs = record { still = omega arith; brought = refl; settled_since = refl }

pub splits_then : {cs ds es : Counters} → OnlySplits cs ds → OnlySplits ds es → OnlySplits cs es
splits_then a b = record {
  still = still_then a.still b.still;
  brought = omega (arith, a.brought, b.brought);
  settled_since = omega (arith, a.settled_since, b.settled_since);
}

-- Before the first call of `take_first` it stays so, if w * B operations less wait for each leaf that came.
pub untaken_then : {w B L M : ℕ} {cs ds : Counters} {t u : Sums} → CountersFit w B L cs t → CountersFit w B M ds u
    → ds.n ≡ cs.n → OnlySplits cs ds → w * B * u.leaves + u.waiting ≤ w * B * t.leaves + t.waiting
    → Untaken w B cs t → Untaken w B ds u
untaken_then {w} {B} {L} {M} {cs} {ds} {t} {u} a b n o paired still =
    let e : ds.splits + t.leaves ≡ cs.splits + u.leaves = omega (arith, a.sums.leaves_are, b.sums.leaves_are, o) in
    let same : w * B * (ds.splits + t.leaves) ≡ w * B * (cs.splits + u.leaves) = rw e refl in
    record {
      paid = omega (arith, same, paired, still.paid, n);
      whole = omega (arith, o.still, still.whole);
      taken = omega (arith, o.still, still.taken);
      left = omega (arith, o.still, still.left);
      visits = omega (arith, o.still, still.visits);
    }

-- a push
pub untaken_pushing : {w B : ℕ} {cs : Counters} {t u : Sums} → SumsPush t u → Untaken w B cs t
    → Untaken w B (after_pushing cs) u
untaken_pushing m still = omega (arith, m, still)

-- a push that was refused
pub untaken_counted : {w B : ℕ} {cs : Counters} {t : Sums} → Untaken w B cs t → Untaken w B (after_pushing cs) t
untaken_counted still = omega (arith, still)

-- After a settling no split is one of operations.
pub untaken_owning : {w B L : ℕ} {cs ds : Counters} {t u : Sums}
    → CountersFit w B L (after_settling (after_owning ds)) u → StillTaken cs ds → Untaken w B cs t → Untaken w B (after_settling (after_owning ds)) u
untaken_owning {w} {B} {L} {cs} {ds} {t} {u} b s still =
    let none : ds.splits - ds.splits_since ≡ 0 = omega (arith, s, still.whole) in
    record {
      paid = rw none (omega (arith, b.sums.loaded_most));
      whole = none;
      taken = omega (arith, s, still.taken);
      left = omega (arith, s, still.left);
      visits = omega (arith, s, still.visits);
    }
