-- Pairs that are alike, in parts.
use Rattle.std.proofs.Common.{◌≡◌, ℕ, ◌+◌, ◌^◌, Bool, true, false, List, [], ◌∷◌, ◌++◌, length, map, refl, sym, ap, ◌∙◌, subst, arith}
use Rattle.std.proofs.lemmas.List.Concat.{flat_map-append}
use Rattle.std.proofs.lemmas.List.Sums.{sum_by-append, sum_by-cons}
use Rattle.std.specs.Prelude.{if◌then◌else◌, filter, nat_lt}
use Rattle.std.specs.List.{sum_by}
use Rattle.em_record.specs.Order.{IsAscending, in_order}
use Rattle.em_record.specs.declared.record.Record.{Record}
use Rattle.em_model.specs.Stab.{NumberedInterval}
use Rattle.em_segment_model.specs.Alike.{Alike}
use Rattle.em_segment_model.specs.Loads.{AllFit, late_record}
use Rattle.em_segment_model.specs.Pieces.{Asked, pair_of}
use Rattle.em_segment_model.specs.Points.{asked_in, interval_in}
use Rattle.em_segment_model.specs.Reports.{later_pairs, slab_pairs}
use Rattle.em_segment_model.specs.Slabs.{Slab, has_strip}
use Rattle.em_segment_model.proofs.Loads.{front_reported}
use Rattle.em_segment_parts.specs.Lists.{front_pairs}
use Rattle.em_segment_parts.specs.Strips.{AreNumbered, load_front, slab_front}

pub alike_same : (xs : List Record) → Alike xs xs
alike_same xs = record { weighs = λ f. refl }

pub alike_then : {xs ys zs : List Record} → Alike xs ys → Alike ys zs → Alike xs zs
alike_then a b = record { weighs = λ f. a.weighs f ∙ b.weighs f }

pub alike_append : (xs ys zs ws : List Record) → Alike xs ys → Alike zs ws → Alike (xs ++ zs) (ys ++ ws)
alike_append xs ys zs ws a b = record {
  weighs = λ f.
      let p = sum_by-append f xs zs in
      let q = sum_by-append f ys ws in
      let u = a.weighs f in
      let v = b.weighs f in
      omega (arith, p, q, u, v);
}

-- as many
ones : (xs : List Record) → sum_by (λ (x : Record). 1) xs ≡ length xs
ones [] = refl
ones (x ∷ xs) = let c = sum_by-cons (λ (y : Record). 1) x xs in let h = ones xs in omega (arith, c, h)

pub alike_length : {xs ys : List Record} → Alike xs ys → length xs ≡ length ys
alike_length {xs} {ys} a = sym (ones xs) ∙ (a.weighs (λ (x : Record). 1) ∙ ones ys)

-- A load stands for its points: against the lists of the multislabs over a strip it makes what is due.
module _ (points load : List Record) (fit : AllFit points) (is : in_order (map late_record points) ≡ load)
    (ascends : IsAscending load) where
  list_alike : (pieces : List Record) (rest : List Record) (x : Record) → load ≡ x ∷ rest
      → AreNumbered (map interval_in pieces ∷ [])
      → Alike (front_pairs load pieces) (later_pairs (map asked_in points) (map interval_in pieces))
  list_alike pieces rest x e numbered =
      let a : IsAscending (x ∷ rest) = subst IsAscending e ascends in
      subst (λ (xs : List Record). Alike (front_pairs xs pieces)
      (later_pairs (map asked_in points) (map interval_in pieces))) (sym e)
      (front_reported points pieces x rest 0 (2 ^ 40) fit (is ∙ e) a numbered.0)

  pub load_alike : (slabs : List Slab) (k : ℕ) (lists : List (List Record)) (rest : List Record)
      (x : Record) → load ≡ x ∷ rest → AreNumbered (map (map interval_in) lists)
      → Alike (load_front slabs k load lists)
      (slab_pairs slabs (map (map interval_in) lists) k (map asked_in points))
  load_alike [] k lists rest x e numbered = alike_same []
  load_alike (t ∷ slabs) k [] rest x e numbered = alike_same []
  load_alike (t ∷ slabs) k (pieces ∷ lists) rest x e numbered =
      alike_append (slab_front t k load pieces)
      (if has_strip t k then later_pairs (map asked_in points) (map interval_in pieces) else [])
      (load_front slabs k load lists)
      (slab_pairs slabs (map (map interval_in) lists) k (map asked_in points))
      (by_test (has_strip t k) (list_alike pieces rest x e (numbered.0, tt)))
      (load_alike slabs k lists rest x e numbered.1)
    where
      by_test : (b : Bool) {xs ys : List Record} → Alike xs ys
          → Alike (if b then xs else []) (if b then ys else [])
      by_test true h = h
      by_test false h = alike_same []

-- What is due of some points and of others is due of all.
pub due_append : (slabs : List Slab) (iss : List (List NumberedInterval)) (k : ℕ) (ps qs : List Asked)
    → Alike (slab_pairs slabs iss k ps ++ slab_pairs slabs iss k qs)
    (slab_pairs slabs iss k (ps ++ qs))
due_append [] iss k ps qs = alike_same []
due_append (t ∷ ts) [] k ps qs = alike_same []
due_append (t ∷ ts) (is ∷ iss) k ps qs = record {
  weighs = λ f.
      let h = (due_append ts iss k ps qs).weighs f in
      let a = if has_strip t k then later_pairs ps is else [] in
      let b = if has_strip t k then later_pairs qs is else [] in
      let c = if has_strip t k then later_pairs (ps ++ qs) is else [] in
      let x = slab_pairs ts iss k ps in
      let y = slab_pairs ts iss k qs in
      let z = slab_pairs ts iss k (ps ++ qs) in
      let one : sum_by f c ≡ sum_by f a + sum_by f b = by_test f (has_strip t k) in
      let p = sum_by-append f (a ++ x) (b ++ y) in
      let q = sum_by-append f a x in
      let r = sum_by-append f b y in
      let u = sum_by-append f c z in
      let v = sum_by-append f x y in
      omega (arith, h, one, p, q, r, u, v);
}
  where
    by_test : (f : Record → ℕ) (b : Bool)
        → sum_by f (if b then later_pairs (ps ++ qs) is else [])
        ≡ sum_by f (if b then later_pairs ps is else []) + sum_by f (if b then later_pairs qs is else [])
    by_test f true =
        ap (sum_by f) (flat_map-append (λ (a : Asked). map (pair_of a)
        (filter (λ (i : NumberedInterval). nat_lt i.number a.before) is)) ps qs)
        ∙ sum_by-append f (later_pairs ps is) (later_pairs qs is)
    by_test f false = refl
