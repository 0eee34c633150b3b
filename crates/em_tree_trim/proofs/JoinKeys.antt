-- Keys of leaves that are joined from left to right.
use Rattle.std.proofs.Common.{◌≡◌, true, List, [], ◌∷◌, ◌++◌, refl, Option, Some, None}
use Rattle.em_record.specs.Order.{is_below}
use Rattle.em_record.specs.declared.record.Record.{Record}
use Rattle.em_settle.specs.Rising.{KeysAbove, RisesByKey}
use Rattle.em_settle.proofs.Keys.{below_itself}
use Rattle.em_tree_model.specs.Ranges.{AllIn}
use Rattle.em_tree_model.proofs.Ranges.{below_not, to_below}
use Rattle.em_tree_trim.specs.Rows.{AreInRanges, LeadUpTo, first_low}

-- Where the keys of the first leaf begin, if another one is listed.
pub first_next : (low top : Record) (ps : List (Record × List Record)) (xs : List Record)
    → first_low top (ps ++ (low, xs) ∷ []) ≡ first_low low ps
first_next low top [] xs = refl
first_next low top (p ∷ ps) xs = refl

module _ (key : Record → Record) where
  above_at : (k z : Record) (ys zs : List Record) → KeysAbove key k (ys ++ z ∷ zs) → is_below k (key z) ≡ true
  above_at k z [] zs a = a.0
  above_at k z (y ∷ ys) zs a = above_at k z ys zs a.1

  -- The records before one of a list that rises are below its key,
  pub under_next : (lo : Record) (hi : Option Record) (xs : List Record) (z : Record) (zs : List Record)
      → AllIn key lo hi (xs ++ z ∷ zs) → RisesByKey key (xs ++ z ∷ zs) → AllIn key lo (Some (key z)) xs
  under_next lo hi [] z zs a r = tt
  under_next lo hi (x ∷ xs) z zs a r =
      (record { low = a.0.low; high = above_at (key x) z xs zs r.0 }, under_next lo hi xs z zs a.1 r.1)

  above_all : (k lo : Record) (hi : Option Record) (zs : List Record) → AllIn key lo hi zs → KeysAbove key k zs
      → AllIn key k hi zs
  above_all k lo hi [] a r = tt
  above_all k lo hi (z ∷ zs) a r =
      (record { low = below_not k (key z) r.0; high = a.0.high }, above_all k lo hi zs a.1 r.1)

  -- and those from it on aren't.
  pub from_here : (lo : Record) (hi : Option Record) (z : Record) (zs : List Record) → AllIn key lo hi (z ∷ zs)
      → RisesByKey key (z ∷ zs) → AllIn key (key z) hi (z ∷ zs)
  from_here lo hi z zs a r = (
    record { low = below_itself (key z); high = a.0.high },
    above_all (key z) lo hi zs a.1 r.0,
  )

  -- A range that has a record before this one begins below its key.
  pub low_under : (lo : Record) (hi : Option Record) (x : Record) (xs : List Record) (z : Record) (zs : List Record)
      → AllIn key lo hi (x ∷ xs ++ z ∷ zs) → RisesByKey key (x ∷ xs ++ z ∷ zs) → is_below lo (key z) ≡ true
  low_under lo hi x xs z zs a r = to_below lo (key x) (key z) a.0.low (above_at (key x) z xs zs r.0)

  -- Another leaf was listed,
  pub lead_next : (low top : Record) (ps : List (Record × List Record)) (xs : List Record) → LeadUpTo key low ps
      → is_below low top ≡ true → AllIn key low (Some top) xs → RisesByKey key xs
      → LeadUpTo key top (ps ++ (low, xs) ∷ [])
  lead_next low top [] xs l b a r = (b, a, r, tt)
  lead_next low top (p ∷ []) xs l b a r = (l.0, l.1, l.2, (b, a, r, tt))
  lead_next low top (p ∷ q ∷ ps) xs l b a r = (l.0, l.1, l.2, lead_next low top (q ∷ ps) xs l.3 b a r)

  -- and the last one.
  pub lead_end : (low : Record) (ps : List (Record × List Record)) (xs : List Record) → LeadUpTo key low ps
      → AllIn key low None xs → RisesByKey key xs → AreInRanges key (ps ++ (low, xs) ∷ [])
  lead_end low [] xs l a r = (a, r)
  lead_end low (p ∷ []) xs l a r = (l.0, l.1, l.2, (a, r))
  lead_end low (p ∷ q ∷ ps) xs l a r = (l.0, l.1, l.2, lead_end low (q ∷ ps) xs l.3 a r)
