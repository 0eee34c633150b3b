-- A rule that takes a tree's records as pairs: by its keys the tree is one too.
use Rattle.std.proofs.Common.{◌≡◌, true, false, Bool, List, [], ◌∷◌, ◌++◌, refl, sym, subst, cond, Option, Some}
use Rattle.std.specs.Prelude.{IfSome}
use Rattle.em_record.specs.Order.{is_below}
use Rattle.em_record.specs.declared.record.Record.{Record}
use Rattle.em_settle.specs.Keys.{has_key, record_at}
use Rattle.em_settle.specs.Map.{map_key_of}
use Rattle.em_settle.specs.Rising.{KeysAbove, RisesByKey}
use Rattle.em_tree_model.specs.Ranges.{AllIn, InRange, IsTree, low_of, next_low}
use Rattle.em_tree_model.specs.Tree.{Tree, stored_in, waiting_in}
use Rattle.em_tree_model.specs.Tree.Tree.{end, entry, leaf}
use Rattle.em_bulk.specs.Made.{TakesPairs}

-- parts of an empty list
none_left : (xs ys : List Record) → xs ++ ys ≡ [] → xs ≡ []
none_left [] ys e = refl
none_left (x ∷ xs) ys e = absurd (cc)

none_right : (xs ys : List Record) → xs ++ ys ≡ [] → ys ≡ []
none_right [] ys e = e
none_right (x ∷ xs) ys e = absurd (cc)

module _ (key : Record → Record) (IsKept : Record → Type 0) where
  -- It takes one more,
  pub takes_more : (x : Record) (xs : List Record) → key x ≡ map_key_of x → IsKept x → TakesPairs key IsKept xs
      → TakesPairs key IsKept (xs ++ x ∷ [])
  takes_more x [] e k t = (e, k, tt)
  takes_more x (y ∷ ys) e k t = (t.0, t.1, takes_more x ys e k t.2)

  -- and parts of what it takes.
  takes_left : (xs ys : List Record) → TakesPairs key IsKept (xs ++ ys) → TakesPairs key IsKept xs
  takes_left [] ys t = tt
  takes_left (x ∷ xs) ys t = (t.0, t.1, takes_left xs ys t.2)

  takes_right : (xs ys : List Record) → TakesPairs key IsKept (xs ++ ys) → TakesPairs key IsKept ys
  takes_right [] ys t = t
  takes_right (x ∷ xs) ys t = takes_right xs ys t.2

  -- Its keys rise too, and are in the same ranges.
  above_too : (k : Record) (xs : List Record) → TakesPairs key IsKept xs → KeysAbove map_key_of k xs → KeysAbove key k xs
  above_too k [] t a = tt
  above_too k (x ∷ xs) t a =
      let B : Record → Type 0 = λ q. is_below k q ≡ true in
      (subst B (sym t.0) a.0, above_too k xs t.2 a.1)

  rises_too : (xs : List Record) → TakesPairs key IsKept xs → RisesByKey map_key_of xs → RisesByKey key xs
  rises_too [] t r = tt
  rises_too (x ∷ xs) t r =
      let A : Record → Type 0 = λ k. KeysAbove key k xs in
      (subst A (sym t.0) (above_too (map_key_of x) xs t.2 r.0), rises_too xs t.2 r.1)

  range_too : (lo : Record) (hi : Option Record) (xs : List Record) → TakesPairs key IsKept xs → AllIn map_key_of lo hi xs
      → AllIn key lo hi xs
  range_too lo hi [] t a = tt
  range_too lo hi (x ∷ xs) t a = (subst (InRange lo hi) (sym t.0) a.0, range_too lo hi xs t.2 a.1)

  -- So a tree of such records in which nothing waits is a tree by its keys.
  pub tree_too : (t : Tree) (lo : Record) (hi : Option Record) → waiting_in t ≡ [] → TakesPairs key IsKept (stored_in t)
      → IsTree map_key_of t lo hi → IsTree key t lo hi
  tree_too (leaf xs) lo hi n p i = (range_too lo hi xs p i.0, rises_too xs p i.1)
  tree_too end lo hi n p i = tt
  tree_too (entry low b c r) lo hi n p i =
      let w = none_left (waiting_in c ++ b) (waiting_in r) n in
      let A : List Record → Type 0 = AllIn key lo (next_low hi r) in (
        i.0,
        subst A (sym (none_right (waiting_in c) b w)) tt,
        tree_too c lo (next_low hi r) (none_left (waiting_in c) b w) (takes_left (stored_in c) (stored_in r) p) i.2,
        i.3,
        tree_too r (low_of lo r) hi (none_right (waiting_in c ++ b) (waiting_in r) n)
            (takes_right (stored_in c) (stored_in r) p) i.4,
      )

  -- The record of a key is one of them.
  either_kept : (b : Bool) (x : Record) (o : Option Record) → IsKept x → IfSome o IsKept → IfSome (cond b (Some x) o) IsKept
  either_kept true x o k h = k
  either_kept false x o k h = h

  pub kept_at : (xs : List Record) (q : Record) → TakesPairs key IsKept xs → IfSome (record_at key xs q) IsKept
  kept_at [] q t = tt
  kept_at (x ∷ xs) q t = either_kept (has_key key q x) x (record_at key xs q) t.1 (kept_at xs q t.2)
