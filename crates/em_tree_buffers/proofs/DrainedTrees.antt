-- The buffers of a tree after the root's was emptied: which may be full, and what can be emptied next.
use Rattle.std.specs.Prelude.{◌≡◌, ℕ, zero, suc, ◌+◌, ◌-◌, ◌<◌, ◌≤◌, List, [], ◌∷◌, length, Option, None}
use Rattle.std.proofs.Common.{refl, subst, arith, inr}
use Rattle.em_record.specs.declared.record.Record.{Record}
use Rattle.em_tree_model.specs.Pouring.{pour}
use Rattle.em_tree_model.specs.Ranges.{InRange, least_record, low_of, next_low}
use Rattle.em_tree_model.specs.Tree.{HasLevel, Tree}
use Rattle.em_tree_model.specs.Tree.Tree.{end, entry, leaf}
use Rattle.em_trunk.specs.Buffers.{ClearOver, Due, IsDue, IsThin, NoneFrom, OnlyFull}
use Rattle.em_trunk.specs.Entries.{EachEntry}
use Rattle.em_trunk.proofs.Beginnings.{least_below}
use Rattle.em_trunk.proofs.Entries.{each_both, each_level, each_map, each_pour}

-- all keys of a level
abbrev pub all_of : ℕ → Due
all_of level = record { level = level; from = least_record; until = None }

in_all : (k : Record) → InRange least_record None k
in_all k = record { low = least_below k; high = tt }

-- Of a root over thin buffers, only the root's entries may be full.
pub drained_full : (key : Record → Record) (limit : ℕ) (c : Tree) (ops : List Record) (level : ℕ)
    (lo : Record) (hi : Option Record) → EachEntry (IsThin limit) level lo hi c
    → EachEntry (OnlyFull limit (IsDue (all_of level ∷ []))) level lo hi (pour key c ops)
drained_full key limit c ops level lo hi h =
    let P : ℕ → Record → Option Record → List Record → Type 0 = OnlyFull limit (IsDue (all_of level ∷ [])) in
    each_pour P level (λ k top b op x full. inr (refl, in_all k)) key c ops lo hi
    (each_map (IsThin limit) P (λ l k top b thin full. absurd (omega (arith, thin, full))) level lo hi c h)

-- Nothing is over the root.
pub drained_clear : (level : ℕ) (from : Record) (until : Option Record) (lo : Record)
    (hi : Option Record) (t : Tree) → EachEntry (ClearOver level from until) level lo hi t
drained_clear level from until lo hi t = each_map (λ l k top b. l ≤ level) (ClearOver level from until)
    (λ l k top b most over q x y. absurd (omega (arith, most, over))) level lo hi t
    (each_level level lo hi t)

pub drained_above : (level : ℕ) (lo : Record) (hi : Option Record) (t : Tree)
    → EachEntry (NoneFrom (level + 1)) level lo hi t
drained_above level lo hi t = each_map (λ l k top b. l ≤ level) (NoneFrom (level + 1))
    (λ l k top b most over. absurd (omega (arith, most, over))) level lo hi t (each_level level lo hi t)

-- Below its entries all buffers are thin.
pub drained_below : (key : Record → Record) (limit : ℕ) (c : Tree) (ops : List Record) (level : ℕ)
    (lo : Record) (hi : Option Record) → EachEntry (IsThin limit) level lo hi c
    → EachEntry (λ l k top b. l < level → length b < limit) level lo hi (pour key c ops)
drained_below key limit c ops level lo hi h =
    let P : ℕ → Record → Option Record → List Record → Type 0 = λ l k top b. l < level → length b < limit in
    each_pour P level (λ k top b op x less. absurd (omega (arith, less))) key c ops lo hi
    (each_map (IsThin limit) P (λ l k top b thin less. thin) level lo hi c h)

-- Each entry is of a node.
pub each_node : (level : ℕ) (lo : Record) (hi : Option Record) (t : Tree) → HasLevel t level
    → EachEntry (λ l k top b. 1 ≤ l) level lo hi t
each_node level lo hi (leaf xs) h = tt
each_node level lo hi end h = tt
each_node zero lo hi (entry low b c r) h = absurd h
each_node (suc n) lo hi (entry low b c r) h =
    let same : n ≡ suc n - 1 = omega arith in
    let P : ℕ → Type 0 = λ m. EachEntry (λ l k top x. 1 ≤ l) m lo (next_low hi r) c in (
      omega arith,
      subst P same (each_node n lo (next_low hi r) c h.0),
      each_node (suc n) (low_of lo r) hi r h.1,
    )

-- If nothing waits in nodes, nothing waits.
pub none_anywhere : (level : ℕ) (lo : Record) (hi : Option Record) (t : Tree) → HasLevel t level
    → EachEntry (NoneFrom 1) level lo hi t → EachEntry (NoneFrom 0) level lo hi t
none_anywhere level lo hi t h none = each_map (λ l k top b. NoneFrom 1 l k top b × (1 ≤ l)) (NoneFrom 0)
    (λ l k top b x low. x.0 x.1) level lo hi t
    (each_both (NoneFrom 1) (λ l k top b. 1 ≤ l) level lo hi t none (each_node level lo hi t h))

-- one level after another
pub settled_above : (at level : ℕ) (lo : Record) (hi : Option Record) (t : Tree)
    → EachEntry (NoneFrom (suc at)) level lo hi t → EachEntry (NoneFrom (at + 1)) level lo hi t
settled_above at level lo hi t h = each_map (NoneFrom (suc at)) (NoneFrom (at + 1))
    (λ l k top b x low. x (omega (arith, low))) level lo hi t h

pub settled_below : (limit at level : ℕ) (lo : Record) (hi : Option Record) (t : Tree)
    → EachEntry (λ l k top b. l + 1 < suc at → length b < limit) level lo hi t
    → EachEntry (λ l k top b. l < at → length b < limit) level lo hi t
settled_below limit at level lo hi t h = each_map (λ l k top b. l + 1 < suc at → length b < limit)
    (λ l k top b. l < at → length b < limit) (λ l k top b x less. x (omega (arith, less))) level lo hi t h
