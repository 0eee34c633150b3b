-- Leaves joined one after another.
use Rattle.std.proofs.Common.{◌≡◌, ◌⊎◌, ℕ, ◌+◌, ◌-◌, ◌*◌, ◌<◌, ◌≤◌, List, [], ◌∷◌, ◌++◌, length, refl, sym, ap, ◌∙◌, subst, arith, append_assoc, inl, inr, ⊎_elim, None}
use Rattle.std.proofs.lemmas.List.{append-nil, length-append}
use Rattle.em_record.specs.declared.record.Record.{Record}
use Rattle.em_settle.specs.Rising.{RisesByKey}
use Rattle.em_chain.specs.Counts.{ceiling}
use Rattle.em_leaf.proofs.Entries.{some_first}
use Rattle.em_leaf.proofs.Numbers.{ceiling_add}
use Rattle.em_tree_model.specs.Ranges.{AllIn, least_record}
use Rattle.em_tree_model.proofs.Ranges.{all_last}
use Rattle.em_tree_model.proofs.RowPlaces.{all_records}
use Rattle.em_tree_model.proofs.Splits.{rises_first, rises_last}
use Rattle.em_tree_trim.specs.Joins.{Joined, Joining, TwoRows, WholeRow}
use Rattle.em_tree_trim.specs.Listed.{JoinsInto}
use Rattle.em_tree_trim.specs.Rows.{EachFrom, EachUpTo, LeadUpTo, chains_of, excess_in, records_in, rows_in}
use Rattle.em_tree_trim.proofs.JoinKeys.{first_next, from_here, lead_end, lead_next, low_under, under_next}
use Rattle.em_tree_trim.proofs.RowLists.{chains_append, excess_append, from_append, records_append, rows_append, upto_append}

-- the records of leaves of which one more was listed
listed_records : (ps : List (Record × List Record)) (low : Record) (ls zs : List Record)
    → records_in (rows_in (ps ++ (low, ls) ∷ [])) ++ zs ≡ records_in (rows_in ps) ++ (ls ++ zs)
listed_records ps low ls zs =
    let q : List (Record × List Record) = (low, ls) ∷ [] in
    ap (λ (rs : List (List Record)). records_in rs ++ zs) (rows_append ps q)
    ∙ (ap (λ (ws : List Record). ws ++ zs) (records_append (rows_in ps) (ls ∷ []))
    ∙ (ap (λ (ws : List Record). (records_in (rows_in ps) ++ ws) ++ zs) (append-nil ls)
    ∙ append_assoc (records_in (rows_in ps)) ls zs))

module _ (key : Record → Record) (n p : ℕ) (rows : List (List Record)) where
  -- The first leaf was taken out.
  pub join_first : (x : List Record) (left : List (List Record)) → rows ≡ x ∷ left
      → Joining key n p rows 1 [] least_record x left
  join_first x left e =
      let m = ap length e in
      let a = ap (excess_in (2 * n)) e in
      let b = ap (chains_of p) e in
      let none : n * (1 - (0 + 1)) ≡ 0 = omega arith in
      record {
        records = sym (ap records_in e);
        ranges = tt;
        first = refl;
        above = all_records key (x ++ records_in left);
        least = tt;
        held_least = λ h. absurd (omega (arith, h));
        most = tt;
        taken = omega (arith, m);
        fewer = omega arith;
        excess = omega (arith, a, none);
        blocks = omega (arith, b);
      }

  -- The next one was joined to the one that is held,
  pub join_whole : (i : ℕ) (ps : List (Record × List Record)) (low : Record) (xs ys all : List Record)
      (left : List (List Record)) → 0 < p → Joining key n p rows i ps low xs (ys ∷ left)
      → WholeRow n xs ys all → Joining key n p rows (i + 1) ps low all left
  join_whole i ps low xs ys all left pos j w =
      let d = i - (length ps + 1) in
      let few = j.fewer in
      let e : i + 1 - (length ps + 1) ≡ d + 1 = omega (arith, few) in
      let f : n * (i + 1 - (length ps + 1)) ≡ n * (d + 1) = ap (λ (m : ℕ). n * m) e in
      let g : n * (d + 1) ≡ n * d + n = grind arith in
      let len : length all ≡ length xs + length ys = ap length w.all_are ∙ length-append xs ys in
      let c = ceiling_add (length xs) (length ys) p pos in
      let k : ceiling (length all) p ≡ ceiling (length xs + length ys) p = ap (λ (m : ℕ). ceiling m p) len in
      let same : all ++ records_in left ≡ xs ++ records_in (ys ∷ left) =
      ap (λ (ws : List Record). ws ++ records_in left) w.all_are ∙ append_assoc xs ys (records_in left) in
      let A : List Record → Type 0 = AllIn key low None in
      let t = j.taken in
      let x = j.excess in
      let b = j.blocks in
      record {
        records = ap (λ (ws : List Record). records_in (rows_in ps) ++ ws) same ∙ j.records;
        ranges = j.ranges;
        first = j.first;
        above = subst A (sym same) j.above;
        least = j.least;
        held_least = λ h. let l = j.held_least h in omega (arith, len, l);
        most = j.most;
        taken = omega (arith, t);
        fewer = omega (arith, few);
        excess = ⊎_elim (λ (h : length xs < n). omega (arith, h, f, g, len, x))
            (λ (h : length ys < n). omega (arith, h, f, g, len, x)) w.short;
        blocks = omega (arith, c, k, b);
      }

  -- or two are left of both, of which the first one was listed.
  pub join_two : (i : ℕ) (ps : List (Record × List Record)) (low : Record) (xs ys ls : List Record) (k : Record)
      (hs : List Record) (left : List (List Record)) → 1 ≤ n → RisesByKey key (records_in rows)
      → length ls ≤ 4 * n → Joining key n p rows i ps low xs (ys ∷ left) → TwoRows key n p xs ys ls k hs
      → Joining key n p rows (i + 1) (ps ++ (low, ls) ∷ []) k hs left
  join_two i ps low xs ys ls k hs left some up most j w =
      let q : List (Record × List Record) = (low, ls) ∷ [] in
      let low_some = w.low_least in
      let ll = some_first ls (omega (arith, some, low_some)) in
      let rest = records_in left in
      let tail = w.others ++ rest in
      let same : ls ++ (hs ++ rest) ≡ xs ++ records_in (ys ∷ left) =
      sym (append_assoc ls hs rest) ∙ (ap (λ (ws : List Record). ws ++ rest) w.all_are ∙ append_assoc xs ys rest) in
      let whole : records_in (rows_in ps) ++ (ls ++ (hs ++ rest)) ≡ records_in rows =
      ap (λ (ws : List Record). records_in (rows_in ps) ++ ws) same ∙ j.records in
      let R : List Record → Type 0 = RisesByKey key in
      let A : List Record → Type 0 = AllIn key low None in
      let lows : RisesByKey key (ls ++ (hs ++ rest)) =
      rises_last key (records_in (rows_in ps)) (ls ++ (hs ++ rest)) (subst R (sym whole) up) in
      let all : AllIn key low None (ls ++ (hs ++ rest)) = subst A (sym same) j.above in
      let h = ap (λ (ws : List Record). ls ++ (ws ++ rest)) w.high_is in
      let lows2 : RisesByKey key (ls ++ w.first ∷ tail) = subst R h lows in
      let all2 : AllIn key low None (ls ++ w.first ∷ tail) = subst A h all in
      let f = ap (λ (ws : List Record). ws ++ w.first ∷ tail) ll.2 in
      let under = low_under key low None ll.0 ll.1 w.first tail (subst A f all2) (subst R f lows2) in
      let ups = rises_last key ls (w.first ∷ tail) lows2 in
      let alls = all_last key low None ls (w.first ∷ tail) all2 in
      let here = from_here key low None w.first tail alls ups in
      let B : Record → Type 0 = λ z. LeadUpTo key z (ps ++ q) in
      let C : Record → Type 0 = λ z. AllIn key z None (hs ++ rest) in
      let D : List Record → Type 0 = λ ws. AllIn key (key w.first) None (ws ++ rest) in
      let E : List (List Record) → Type 0 = EachFrom n in
      let F : List (List Record) → Type 0 = EachUpTo (4 * n) in
      let back = rows_append ps q in
      let m = length-append ps q in
      let few = j.fewer in
      let e : i + 1 - (length (ps ++ q) + 1) ≡ i - (length ps + 1) = omega (arith, m, few) in
      let g : n * (i + 1 - (length (ps ++ q) + 1)) ≡ n * (i - (length ps + 1)) = ap (λ (a : ℕ). n * a) e in
      let x1 = ap (excess_in (2 * n)) back in
      let x2 = excess_append (2 * n) (rows_in ps) (ls ∷ []) in
      let b1 = ap (chains_of p) back in
      let b2 = chains_append p (rows_in ps) (ls ∷ []) in
      let t = j.taken in
      let x = j.excess in
      let b = j.blocks in
      let wx = w.excess in
      let wb = w.blocks in
      let high_some = w.high_least in
      record {
        records = listed_records ps low ls (hs ++ rest) ∙ whole;
        ranges = subst B (sym w.key_is) (lead_next key low (key w.first) ps ls j.ranges under
            (under_next key low None ls w.first tail all2 lows2) (rises_first key ls (w.first ∷ tail) lows2));
        first = first_next low k ps ls ∙ j.first;
        above = subst C (sym w.key_is) (subst D (sym w.high_is) here);
        least = subst E (sym back) (from_append n (rows_in ps) (ls ∷ []) j.least (low_some, tt));
        held_least = λ a. high_some;
        most = subst F (sym back) (upto_append (4 * n) (rows_in ps) (ls ∷ []) j.most (most, tt));
        taken = omega (arith, t);
        fewer = omega (arith, m, few);
        excess = omega (arith, g, x1, x2, x, wx);
        blocks = omega (arith, b1, b2, b, wb);
      }

  -- the same by what was listed
  pub join_into : (i : ℕ) (ps : List (Record × List Record)) (low : Record) (xs ys : List Record)
      (qs : List (Record × List Record)) (k : Record) (zs : List Record) (left : List (List Record)) → 0 < p → 1 ≤ n
      → RisesByKey key (records_in rows) → Joining key n p rows i ps low xs (ys ∷ left)
      → JoinsInto key n p low xs ys qs k zs → Joining key n p rows (i + 1) (ps ++ qs) k zs left
  join_into i ps low xs ys [] k zs left pos some up j w =
      let P : List (Record × List Record) → Type 0 = λ os. Joining key n p rows (i + 1) os k zs left in
      let Q : Record → Type 0 = λ r. Joining key n p rows (i + 1) ps r zs left in
      subst P (sym (append-nil ps)) (subst Q (sym w.0) (join_whole i ps low xs ys zs left pos j w.1))
  join_into i ps low xs ys (q ∷ []) k zs left pos some up j w =
      let P : Record → Type 0 = λ r. Joining key n p rows (i + 1) (ps ++ (r, q.1) ∷ []) k zs left in
      subst P (sym w.0) (join_two i ps low xs ys q.1 k zs left some up w.2 j w.1)
  join_into i ps low xs ys (q ∷ r ∷ qs) k zs left pos some up j w = absurd w

  -- The last one was listed.
  pub join_end : (i : ℕ) (ps : List (Record × List Record)) (low : Record) (xs : List Record)
      → RisesByKey key (records_in rows) → length xs ≤ 4 * n → Joining key n p rows i ps low xs []
      → Joined key n p rows (ps ++ (low, xs) ∷ [])
  join_end i ps low xs up most j =
      let q : List (Record × List Record) = (low, xs) ∷ [] in
      let R : List Record → Type 0 = RisesByKey key in
      let A : List Record → Type 0 = AllIn key low None in
      let own : xs ++ [] ≡ xs = append-nil xs in
      let lows : RisesByKey key xs =
      subst R own (rises_last key (records_in (rows_in ps)) (xs ++ []) (subst R (sym j.records) up)) in
      let E : List (List Record) → Type 0 = EachFrom n in
      let F : List (List Record) → Type 0 = EachUpTo (4 * n) in
      let back = rows_append ps q in
      let m = length-append ps q in
      let t = j.taken in
      let few = j.fewer in
      let e : length rows - length (ps ++ q) ≡ i - (length ps + 1) = omega (arith, m, t) in
      let g : n * (length rows - length (ps ++ q)) ≡ n * (i - (length ps + 1)) = ap (λ (a : ℕ). n * a) e in
      let x1 = ap (excess_in (2 * n)) back in
      let x2 = excess_append (2 * n) (rows_in ps) (xs ∷ []) in
      let b1 = ap (chains_of p) back in
      let b2 = chains_append p (rows_in ps) (xs ∷ []) in
      let x = j.excess in
      let b = j.blocks in
      record {
        some = omega (arith, m);
        records = sym (append-nil (records_in (rows_in (ps ++ q)))) ∙ (listed_records ps low xs [] ∙ j.records);
        ranges = lead_end key low ps xs j.ranges (subst A own j.above) lows;
        first = first_next low least_record ps xs ∙ j.first;
        least = least_by ps j.least j.held_least;
        most = subst F (sym back) (upto_append (4 * n) (rows_in ps) (xs ∷ []) j.most (most, tt));
        fewer = omega (arith, m, t, few);
        excess = omega (arith, g, x1, x2, x);
        blocks = omega (arith, b1, b2, b, t);
      }
    where
      least_by : (os : List (Record × List Record)) → EachFrom n (rows_in os) → (0 < length os → n ≤ length xs)
          → (length (os ++ (low, xs) ∷ []) ≡ 1) ⊎ EachFrom n (rows_in (os ++ (low, xs) ∷ []))
      least_by [] a h = inl refl
      least_by (o ∷ os) a h =
          let E : List (List Record) → Type 0 = EachFrom n in
          let s : List (Record × List Record) = (low, xs) ∷ [] in
          inr (subst E (sym (rows_append (o ∷ os) s))
          (from_append n (rows_in (o ∷ os)) (xs ∷ []) a (h (omega arith), tt)))
