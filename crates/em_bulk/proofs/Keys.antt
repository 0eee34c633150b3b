-- Keys of pairs, and of leaves that are cut from pairs.
use Rattle.std.proofs.Common.{◌≡◌, true, false, ℕ, ◌+◌, ◌<◌, ◌≤◌, List, [], ◌∷◌, ◌++◌, length, refl, sym, ap, ◌∙◌, subst, arith, inl, inr, append_assoc, Some, None}
use Rattle.std.specs.Ordering.{MatchOrdering, is_lt, nat_cmp, ordering_then}
use Rattle.std.specs.declared.cmp.Ordering.{Ordering}
use Rattle.std.specs.declared.cmp.Ordering.TheVariants.{Less, Equal, Greater}
use Rattle.std.proofs.lemmas.Cmp.{ranked}
use Rattle.std.proofs.lemmas.List.{append-nil, length-append}
use Rattle.em_record.specs.Order.{is_below}
use Rattle.em_record.specs.declared.record.Record.{Record}
use Rattle.em_settle.specs.Map.{map_key_of, map_record}
use Rattle.em_settle.specs.Rising.{KeysAbove, RisesByKey}
use Rattle.em_tree_model.specs.Ranges.{AllIn, least_record}
use Rattle.em_tree_model.proofs.Ranges.{below_not, from_above, low_less}
use Rattle.em_tree_trim.specs.Rows.{EachFrom, LeadUpTo, first_low, records_in, rows_in}
use Rattle.em_tree_trim.proofs.JoinKeys.{lead_end}
use Rattle.em_tree_trim.proofs.RowLists.{from_append, from_first, from_last, records_append, rows_append}
use Rattle.em_bulk.specs.Pairs.{AreLeaves, EndsParts, IsRun, KeysWithin, key_record}
use Rattle.em_bulk.specs.Pairs.EndsParts.{alone, apart, joined}

key_by : (m n : ℕ) (r : Ordering) → MatchOrdering r (m < n) (m ≡ n) (n < m) → m < n
    → is_lt (ordering_then r (ordering_then (nat_cmp 0 0) (ordering_then (nat_cmp 0 0) (nat_cmp 0 0)))) ≡ true
key_by m n Less h l = refl
key_by m n Equal h l = absurd (omega (arith, h, l))
key_by m n Greater h l = absurd (omega (arith, h, l))

-- Records of keys are ordered by the keys.
pub key_below : (m n : ℕ) → m < n → is_below (key_record m) (key_record n) ≡ true
key_below m n h = key_by m n (nat_cmp m n) (ranked m n (nat_cmp m n) refl) h

not_by : (m n : ℕ) (r : Ordering) → MatchOrdering r (m < n) (m ≡ n) (n < m) → n ≤ m
    → is_lt (ordering_then r (ordering_then (nat_cmp 0 0) (ordering_then (nat_cmp 0 0) (nat_cmp 0 0)))) ≡ false
not_by m n Less h l = absurd (omega (arith, h, l))
not_by m n Equal h l = refl
not_by m n Greater h l = refl

pub key_not : (m n : ℕ) → n ≤ m → is_below (key_record m) (key_record n) ≡ false
key_not m n h = not_by m n (nat_cmp m n) (ranked m n (nat_cmp m n) refl) h

-- Keys within bounds are in the range of these,
pub within_from : (low top : ℕ) (xs : List Record) → KeysWithin low top xs → AllIn map_key_of (key_record low) None xs
within_from low top [] w = tt
within_from low top (x ∷ xs) w =
    (record { low = key_not x.a low w.0; high = tt }, within_from low top xs w.2)

pub within_upto : (low top : ℕ) (xs : List Record) → KeysWithin low top xs
    → AllIn map_key_of (key_record low) (Some (key_record top)) xs
within_upto low top [] w = tt
within_upto low top (x ∷ xs) w =
    (record { low = key_not x.a low w.0; high = key_below x.a top w.1 }, within_upto low top xs w.2)

-- and within wider ones.
within_wider : (low top more : ℕ) (xs : List Record) → top ≤ more → KeysWithin low top xs → KeysWithin low more xs
within_wider low top more [] h w = tt
within_wider low top more (x ∷ xs) h w = (w.0, omega (arith, h, w.1), within_wider low top more xs h w.2)

pub run_wider : {low top : ℕ} {xs : List Record} (more : ℕ) → top ≤ more → IsRun low top xs → IsRun low more xs
run_wider {low} {top} {xs} more h r = record { rises = r.rises; within = within_wider low top more xs h r.within }

-- A run with no pair
pub run_none : (low top : ℕ) → IsRun low top []
run_none low top = record { rises = tt; within = tt }

-- and with one more.
above_more : (k n : ℕ) (v : ℕ) (xs : List Record) → k < n → KeysAbove map_key_of (key_record k) xs
    → KeysAbove map_key_of (key_record k) (xs ++ map_record n v ∷ [])
above_more k n v [] h a = (key_below k n h, tt)
above_more k n v (x ∷ xs) h a = (a.0, above_more k n v xs h a.1)

rises_more : (low n v : ℕ) (xs : List Record) → KeysWithin low n xs → RisesByKey map_key_of xs
    → RisesByKey map_key_of (xs ++ map_record n v ∷ [])
rises_more low n v [] w r = (tt, tt)
rises_more low n v (x ∷ xs) w r = (above_more x.a n v xs w.1 r.0, rises_more low n v xs w.2 r.1)

within_more : (low n v : ℕ) (xs : List Record) → low ≤ n → KeysWithin low n xs
    → KeysWithin low (n + 1) (xs ++ map_record n v ∷ [])
within_more low n v [] h w = (h, omega arith, tt)
within_more low n v (x ∷ xs) h w = (w.0, omega (arith, w.1), within_more low n v xs h w.2)

pub run_more : {low n : ℕ} {xs : List Record} (v : ℕ) → low ≤ n → IsRun low n xs
    → IsRun low (n + 1) (xs ++ map_record n v ∷ [])
run_more {low} {n} {xs} v h r =
    record { rises = rises_more low n v xs r.within r.rises; within = within_more low n v xs h r.within }

module _ (key : Record → Record) where
  above_from : (k lo : Record) (xs : List Record) → is_below k lo ≡ true → AllIn key lo None xs → KeysAbove key k xs
  above_from k lo [] h a = tt
  above_from k lo (x ∷ xs) h a = (from_above k lo (key x) h a.0.low, above_from k lo xs h a.1)

  above_both : (k : Record) (ys xs : List Record) → KeysAbove key k ys → KeysAbove key k xs → KeysAbove key k (ys ++ xs)
  above_both k [] xs a b = b
  above_both k (y ∷ ys) xs a b = (a.0, above_both k ys xs a.1 b)

  -- Records below a key and records from it on are in order,
  pub rises_both : (k lo : Record) (ys xs : List Record) → AllIn key k (Some lo) ys → RisesByKey key ys
      → AllIn key lo None xs → RisesByKey key xs → RisesByKey key (ys ++ xs)
  rises_both k lo [] xs a r b q = q
  rises_both k lo (y ∷ ys) xs a r b q = (
    above_both (key y) ys xs r.0 (above_from (key y) lo xs a.0.high b),
    rises_both k lo ys xs a.1 r.1 b q,
  )

  -- and in one range.
  in_less : (k lo : Record) (xs : List Record) → is_below k lo ≡ true → AllIn key lo None xs → AllIn key k None xs
  in_less k lo [] h a = tt
  in_less k lo (x ∷ xs) h a =
      (record { low = low_less (key x) lo k (below_not k lo h) a.0.low; high = tt }, in_less k lo xs h a.1)

  in_both : (k lo : Record) (ys xs : List Record) → AllIn key k (Some lo) ys → is_below k lo ≡ true
      → AllIn key lo None xs → AllIn key k None (ys ++ xs)
  in_both k lo [] xs a h b = in_less k lo xs h b
  in_both k lo (y ∷ ys) xs a h b = (record { low = a.0.low; high = tt }, in_both k lo ys xs a.1 h b)

  -- The last of leaves that lead up to a key.
  pub record LastLeads (top : Record) (os : List (Record × List Record)) (k : Record) (ys : List Record) : Type 0 where
    pub lead : LeadUpTo key k os
    pub below : is_below k top ≡ true
    pub range : AllIn key k (Some top) ys
    pub rises : RisesByKey key ys

  pub lead_last : (top : Record) (os : List (Record × List Record)) (k : Record) (ys : List Record)
      → LeadUpTo key top (os ++ (k, ys) ∷ []) → LastLeads top os k ys
  lead_last top [] k ys l = record { lead = tt; below = l.0; range = l.1; rises = l.2 }
  lead_last top (p ∷ []) k ys l =
      let h = lead_last top [] k ys l.3 in
      record { lead = (l.0, l.1, l.2, tt); below = h.below; range = h.range; rises = h.rises }
  lead_last top (p ∷ q ∷ os) k ys l =
      let h = lead_last top (q ∷ os) k ys l.3 in
      record { lead = (l.0, l.1, l.2, h.lead); below = h.below; range = h.range; rises = h.rises }

first_same : (low top k : Record) (os : List (Record × List Record)) (xs ys : List Record)
    → first_low low (os ++ (k, xs) ∷ []) ≡ first_low top (os ++ (k, ys) ∷ [])
first_same low top k [] xs ys = refl
first_same low top k (o ∷ os) xs ys = refl

first_end : (low top : Record) (ps : List (Record × List Record)) (xs : List Record)
    → first_low low ps ≡ first_low top (ps ++ (low, xs) ∷ [])
first_end low top [] xs = refl
first_end low top (p ∷ ps) xs = refl

-- the records of some leaves and one more
pub records_more : (ps : List (Record × List Record)) (k : Record) (xs : List Record)
    → records_in (rows_in (ps ++ (k, xs) ∷ [])) ≡ records_in (rows_in ps) ++ xs
records_more ps k xs = ap records_in (rows_append ps ((k, xs) ∷ []))
    ∙ (records_append (rows_in ps) (xs ∷ [])
    ∙ ap (λ (ys : List Record). records_in (rows_in ps) ++ ys) (append-nil xs))

each_less : (m n : ℕ) (rs : List (List Record)) → m ≤ n → EachFrom n rs → EachFrom m rs
each_less m n [] h e = tt
each_less m n (r ∷ rs) h e = (omega (arith, h, e.0), each_less m n rs h e.1)

-- The leaves that the full ones and the last one become are leaves of all pairs.
module _ (n lot : ℕ) (ps : List (Record × List Record)) (low : Record) (xs : List Record) (few : n ≤ lot)
    (lead : LeadUpTo map_key_of low ps) (first : first_low low ps ≡ least_record) (each : EachFrom lot (rows_in ps))
    (range : AllIn map_key_of low None xs) (rises : RisesByKey map_key_of xs) where
  ends_alone : ps ≡ [] → AreLeaves n ((low, xs) ∷ []) (records_in (rows_in ps) ++ xs)
  ends_alone e =
      let F : List (Record × List Record) → Type 0 = λ qs. first_low low qs ≡ least_record in
      let none : records_in (rows_in ps) ≡ [] = ap (λ (qs : List (Record × List Record)). records_in (rows_in qs)) e in
      record {
        some = omega arith;
        records = append-nil xs ∙ sym (ap (λ (ys : List Record). ys ++ xs) none);
        ranges = (range, rises);
        first = subst F e first;
        least = inl refl;
      }

  ends_apart : n ≤ length xs → AreLeaves n (ps ++ (low, xs) ∷ []) (records_in (rows_in ps) ++ xs)
  ends_apart h =
      let E : List (List Record) → Type 0 = EachFrom n in
      let m = length-append ps ((low, xs) ∷ []) in
      record {
        some = omega (arith, m);
        records = records_more ps low xs;
        ranges = lead_end map_key_of low ps xs lead range rises;
        first = sym (first_end low least_record ps xs) ∙ first;
        least = inr (subst E (sym (rows_append ps ((low, xs) ∷ [])))
            (from_append n (rows_in ps) (xs ∷ []) (each_less n lot (rows_in ps) few each) (h, tt)));
      }

  ends_joined : (os : List (Record × List Record)) (k : Record) (ys : List Record) → ps ≡ os ++ (k, ys) ∷ []
      → AreLeaves n (os ++ (k, ys ++ xs) ∷ []) (records_in (rows_in ps) ++ xs)
  ends_joined os k ys e =
      let E : List (List Record) → Type 0 = EachFrom n in
      let L : List (Record × List Record) → Type 0 = LeadUpTo map_key_of low in
      let D : List (Record × List Record) → Type 0 = λ qs. EachFrom lot (rows_in qs) in
      let F : List (Record × List Record) → Type 0 = λ qs. first_low low qs ≡ least_record in
      let G : List (List Record) → Type 0 = EachFrom lot in
      let l = lead_last map_key_of low os k ys (subst L e lead) in
      let m = length-append os ((k, ys ++ xs) ∷ []) in
      let all = subst G (rows_append os ((k, ys) ∷ [])) (subst D e each) in
      let fore = from_first lot (rows_in os) (ys ∷ []) all in
      let own = (from_last lot (rows_in os) (ys ∷ []) all).0 in
      let a = length-append ys xs in
      let R : List Record → List Record = λ zs. zs ++ xs in
      record {
        some = omega (arith, m);
        records = records_more os k (ys ++ xs)
            ∙ (sym (append_assoc (records_in (rows_in os)) ys xs)
            ∙ (ap R (sym (records_more os k ys))
            ∙ ap (λ (qs : List (Record × List Record)). records_in (rows_in qs) ++ xs) (sym e)));
        ranges = lead_end map_key_of k os (ys ++ xs) l.lead (in_both map_key_of k low ys xs l.range l.below range)
            (rises_both map_key_of k low ys xs l.range l.rises range rises);
        first = first_same least_record low k os (ys ++ xs) ys ∙ subst F e first;
        least = inr (subst E (sym (rows_append os ((k, ys ++ xs) ∷ [])))
            (from_append n (rows_in os) ((ys ++ xs) ∷ []) (each_less n lot (rows_in os) few fore)
            (omega (arith, few, own, a), tt)));
      }

  pub are_leaves : (qs : List (Record × List Record)) → EndsParts n ps low xs qs
      → AreLeaves n qs (records_in (rows_in ps) ++ xs)
  are_leaves qs (alone e f) =
      let A : List (Record × List Record) → Type 0 = λ rs. AreLeaves n rs (records_in (rows_in ps) ++ xs) in
      subst A (sym f) (ends_alone e)
  are_leaves qs (apart h f) =
      let A : List (Record × List Record) → Type 0 = λ rs. AreLeaves n rs (records_in (rows_in ps) ++ xs) in
      subst A (sym f) (ends_apart h)
  are_leaves qs (joined os k ys e f) =
      let A : List (Record × List Record) → Type 0 = λ rs. AreLeaves n rs (records_in (rows_in ps) ++ xs) in
      subst A (sym f) (ends_joined os k ys e)
