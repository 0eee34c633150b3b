-- What a search among the nodes of a level found, as what holds of the tree's entries.
use Rattle.std.specs.Prelude.{◌≡◌, ◌⊎◌, true, false, Bool, ℕ, suc, ◌+◌, ◌<◌, ◌≤◌, List, length, IsTrue, Option, Some}
use Rattle.em_record.specs.Order.{is_below}
use Rattle.em_record.specs.declared.record.Record.{Record}
use Rattle.em_space.specs.Rig.{RigState}
use Rattle.em_tree_model.specs.Ranges.{InRange, Under, least_record}
use Rattle.em_tree_walk.specs.declared.searching.Finding.{Finding}
use Rattle.em_tree_walk.specs.declared.searching.Finding.TheVariants.{Found, Next, Nothing}
use Rattle.em_tree_walk.specs.declared.searching.Range.{Range}
use Rattle.em_trunk.specs.Starts.{starts_of}
use Rattle.em_trunk.specs.Trunk.{root_of}
use Rattle.em_trunk.specs.declared.trunk.Trunk.{Trunk}
use Rattle.em_trunk.specs.Spots.{EachRead, HasSpot, spot_high, spot_low, spot_ops}

-- An entry of a level that ends above one key and begins below another has a buffer with fewer
-- operations than a limit.
abbrev pub ThinBetween : ℕ → ℕ → Record → Option Record → ℕ → Record → Option Record → List Record
    → Type 0
ThinBetween limit at from until level lo hi b =
    level ≡ at → Under hi from → Under until lo → length b < limit

-- An entry was found. Its own first key is the search's, or where it begins; entries before it have
-- fewer operations.
pub record FoundSpot (limit l at : ℕ) (keys inner : Range) (s : RigState) (v : Trunk) (path : List ℕ)
    : Type 0 where
  pub full : limit ≤ length (spot_ops at s v path)
  pub until_is : inner.until ≡ spot_high at s v path
  pub from_in : InRange (spot_low at s v path) (spot_high at s v path) inner.from
  pub from_after : is_below inner.from keys.from ≡ false
  pub from_is : (inner.from ≡ keys.from) ⊎ (inner.from ≡ spot_low at s v path)
  pub among : Under keys.until keys.from → Under keys.until inner.from
  pub thin : EachRead (ThinBetween limit (suc l) keys.from (Some (spot_low at s v path))) s v

-- No entry of the node was found, and the next one begins at a key among the search's.
pub record FoundNext (limit l : ℕ) (keys : Range) (low : Record) (s : RigState) (v : Trunk)
    : Type 0 where
  pub above : is_below keys.from low ≡ true
  pub among : Under keys.until low
  pub begins : (p q : Record → Bool) → ((k : Record) → p k ≡ true → q k ≡ true) → p low ≡ false
      → q low ≡ true → starts_of p (suc (suc l)) v.level least_record (root_of s v) + 1
      ≤ starts_of q (suc (suc l)) v.level least_record (root_of s v)
  pub thin : EachRead (ThinBetween limit (suc l) keys.from (Some low)) s v

-- What a search for an entry of level l + 1 found.
abbrev pub FindsSpot : ℕ → ℕ → Range → Finding → RigState → Trunk → Type 0
FindsSpot limit l keys (Found node at inner) s v = (spot : HasSpot l node at s v)
    × (IsTrue s.device.told → FoundSpot limit l at keys inner s v spot.path)
FindsSpot limit l keys (Next low) s v = IsTrue s.device.told → FoundNext limit l keys low s v
FindsSpot limit l keys Nothing s v =
    IsTrue s.device.told → EachRead (ThinBetween limit (suc l) keys.from keys.until) s v
