-- What the calls of a heap give, in terms of its records in order.
use Rattle.std.proofs.Common.{◌≡◌, ℕ, zero, suc, ◌+◌, ◌-◌, ◌/◌, ◌<◌, ◌≤◌, List, [], ◌∷◌, ◌++◌, length, get_or, set, take, drop, false, refl, sym, ap, subst, ◌∙◌, arith, ⊎_elim, get_or-set_same, get_or-set_other, get_or-take, length-set, length-take-le, length-append, length-drop, take-append-drop, take-suc}
use Rattle.std.proofs.lemmas.List.{take-append-le, drop-append-le, get_or_append_left}
use Rattle.std.proofs.lemmas.Grind.{take-set_at}
use Rattle.std.proofs.Math.Seq.{take-append_seam, take-set-lt}
use Rattle.std.specs.List.Sorted.{IsPermutation}
use Rattle.em_record.specs.declared.record.Record.{Record}
use Rattle.em_record.specs.Order.{is_below, AtLeast, IsAscending, in_order, with_record}
use Rattle.em_record.proofs.Order.{with_least, order_push}
use Rattle.em_record.proofs.Commutes.{order_cons, order_ascending, at_least_order}
use Rattle.em_record.proofs.OrderLaws.{which, order_set, order_permutation, ascends_apart}
use Rattle.em_heap.specs.Heap.{IsHeap, IsHeapWithin, heap_items, SiftsUp, SiftsDown, HeapPushes, HeapPops, HeapHalves}
use Rattle.em_heap.proofs.Sifting.{at_least_each, top}

-- two lists with the same records from low up to m are heaps alike
pub agrees : (xs ys : List Record) (low n m : ℕ) → m ≤ n
    → ((k : ℕ) (d : Record) → low ≤ k → k < m → get_or ys k d ≡ get_or xs k d)
    → IsHeapWithin xs low n → IsHeapWithin ys low m
agrees xs ys low n m le e h = λ p k d lo a b f.
    (λ i. is_below (e k d (omega arith) f i) (e p d lo (omega arith) i))
    ∙ h p k d lo a b (omega arith)

-- the front of two lists, one after the other
pub seam : (n : ℕ) (zs ws : List Record) → length zs ≡ n → take n (zs ++ ws) ≡ zs
seam n zs ws e =
    ap (λ (k : ℕ). take k (zs ++ ws)) (sym e) ∙ take-append_seam zs ws

-- a front that was changed keeps the length of the whole list
part_long : (n : ℕ) (xs zs : List Record) → length zs ≡ n → n ≤ length xs
    → length (zs ++ drop n xs) ≡ length xs
part_long n xs zs e le =
    let a = length-append zs (drop n xs) in let b = length-drop n xs in omega arith

-- a heap stays one with other records after it
part_heap : (n : ℕ) (xs zs : List Record) → length zs ≡ n → n ≤ length xs
    → IsHeapWithin zs 0 n → IsHeap (zs ++ drop n xs) n
part_heap n xs zs e le h = record {
  order = agrees zs (zs ++ drop n xs) 0 n n (omega arith)
      (λ k d lo f. get_or_append_left zs (drop n xs) d k (omega arith)) h;
  within = let a = part_long n xs zs e le in omega arith;
}

-- A record was put after the heap and sifted up.
pub pushes : (xs zs : List Record) (n : ℕ) (item : Record) → n < length xs → IsHeap xs n
    → SiftsUp (take (n + 1) (set xs n item)) zs
    → HeapPushes item xs (zs ++ drop (n + 1) (set xs n item)) n
pushes xs zs n item room heap s =
    let ws = set xs n item in
    let vs = take (n + 1) ws in
    let wide : length ws ≡ length xs = length-set xs n item in
    let cut : length vs ≡ n + 1 = length-take-le (n + 1) ws (omega arith) in
    let long : length zs ≡ n + 1 = s.long ∙ cut in
    let less : length vs - 1 ≡ n = omega arith in
    let before : IsHeapWithin vs 0 n = agrees xs vs 0 n n (omega arith)
    (λ k d lo f. get_or-take (n + 1) ws k d (omega arith)
    ∙ get_or-set_other xs n k item d (omega arith)) heap.order in
    let after : IsHeapWithin zs 0 (n + 1) = subst (IsHeapWithin zs 0) cut
    (s.heap (subst (IsHeapWithin vs 0) (sym less) before)) in
    record {
      heap = part_heap (n + 1) ws zs long (omega arith) after;
      items =
          ap in_order (seam (n + 1) zs (drop (n + 1) ws) long)
          ∙ order_permutation vs zs s.same
          ∙ ap in_order (take-set_at xs n (n + 1) item refl room)
          ∙ order_push (take n xs) item;
      long = part_long (n + 1) ws zs long (omega arith) ∙ wide;
    }

-- no record of the heap is below the first
pub above_first : (xs : List Record) (n : ℕ) (d : Record) → IsHeap xs n
    → AtLeast (get_or xs 0 d) (take n xs)
above_first xs n d heap =
    let within = heap.within in
    let long = length-take-le n xs within in
    at_least_each (get_or xs 0 d) (take n xs) d
    (λ k f. (λ i. is_below (get_or-take n xs k d (omega arith) i) (get_or xs 0 d))
    ∙ top xs n k d heap.order (omega arith))

-- the last record of a heap in place of the first is no loss: the first comes back to the others
last_moves : (xs : List Record) (m : ℕ) (d : Record) → m < length xs
    → with_record (get_or xs 0 d) (in_order (take m (set xs 0 (get_or xs m d))))
    ≡ with_record (get_or xs m d) (in_order (take m xs))
last_moves xs m d within =
    let x = get_or xs 0 d in
    let last = get_or xs m d in
    let ws = set xs 0 last in
    ⊎_elim
    (λ (e : m ≡ 0).
    let same : x ≡ last = ap (λ (k : ℕ). get_or xs k d) (sym e) in
    (λ i. with_record (same i) (in_order (take (e i) ws)))
    ∙ ap (λ (k : ℕ). with_record last (in_order (take k xs))) (sym e))
    (λ (u : m ≡ 0 → ⊥).
    ap (λ (l : List Record). with_record x (in_order l)) (take-set-lt m xs 0 last (omega arith))
    ∙ ap (λ (z : Record). with_record z (in_order (set (take m xs) 0 last)))
    (sym (get_or-take m xs 0 d (omega arith)))
    ∙ order_set (take m xs) 0 last d
    (let l = length-take-le m xs (omega arith) in omega arith))
    (which m 0)

-- no record that is left, the last one moved to the front, is below the first
above_others : (xs : List Record) (n m : ℕ) (d : Record) → m + 1 ≡ n → IsHeap xs n
    → AtLeast (get_or xs 0 d) (take m (set xs 0 (get_or xs m d)))
above_others xs n m d e heap =
    let x = get_or xs 0 d in
    let last = get_or xs m d in
    let ws = set xs 0 last in
    let within = heap.within in
    let wide : length ws ≡ length xs = length-set xs 0 last in
    let cut : length (take m ws) ≡ m = length-take-le m ws (omega arith) in
    at_least_each x (take m ws) d (λ k f. ⊎_elim
    (λ (z : k ≡ 0).
    (λ i. is_below ((get_or-take m ws k d (omega arith)
    ∙ ap (λ (j : ℕ). get_or ws j d) z
    ∙ get_or-set_same xs 0 last d (omega arith)) i) x)
    ∙ top xs n m d heap.order (omega arith))
    (λ (u : k ≡ 0 → ⊥).
    (λ i. is_below ((get_or-take m ws k d (omega arith)
    ∙ get_or-set_other xs 0 k last d u) i) x)
    ∙ top xs n k d heap.order (omega arith))
    (which k 0))

-- The last record was put in place of the first and sifted down.
pub pops : (xs zs : List Record) (n : ℕ) (d : Record) → 0 < n → IsHeap xs n
    → SiftsDown (take (n - 1) (set xs 0 (get_or xs (n - 1) d))) zs
    → HeapPops (get_or xs 0 d) xs (zs ++ drop (n - 1) (set xs 0 (get_or xs (n - 1) d))) n
pops xs zs n d some heap s =
    let m = n - 1 in
    let x = get_or xs 0 d in
    let last = get_or xs m d in
    let ws = set xs 0 last in
    let vs = take m ws in
    let within = heap.within in
    let wide : length ws ≡ length xs = length-set xs 0 last in
    let cut : length vs ≡ m = length-take-le m ws (omega arith) in
    let long : length zs ≡ m = s.long ∙ cut in
    let before : IsHeapWithin vs 1 (length vs) = agrees xs vs 1 n (length vs) (omega arith)
    (λ k e lo f. get_or-take m ws k e (omega arith)
    ∙ get_or-set_other xs 0 k last e (omega arith))
    (λ p k e lo. heap.order p k e (omega arith)) in
    let after : IsHeapWithin zs 0 m = subst (IsHeapWithin zs 0) cut (s.heap before) in
    let next : suc m ≡ n = omega arith in
    let whole : in_order (take n xs) ≡ with_record last (in_order (take m xs)) =
    ap (λ (k : ℕ). in_order (take k xs)) (sym next)
    ∙ ap in_order (take-suc xs m d (omega arith)) ∙ order_push (take m xs) last in
    record {
      heap = part_heap m ws zs long (omega arith) after;
      items =
          whole ∙ sym (last_moves xs m d (omega arith))
          ∙ with_least x (in_order vs)
          (at_least_order x vs (above_others xs n m d (omega arith) heap))
          ∙ ap (λ (l : List Record). x ∷ l) (sym (order_permutation vs zs s.same)
          ∙ ap in_order (sym (seam m zs (drop m ws) long)));
      long = part_long m ws zs long (omega arith) ∙ wide;
    }

-- The first record of a heap is the first in order.
pub peeks : (xs : List Record) (n : ℕ) (d : Record) → 0 < n → IsHeap xs n
    → heap_items xs n ≡ get_or xs 0 d ∷ drop 1 (heap_items xs n)
peeks [] n d some heap = let within = heap.within in absurd (omega arith)
peeks (x ∷ xs) zero d some heap = absurd (omega arith)
peeks (x ∷ xs) (suc n) d some heap =
    let above = above_first (x ∷ xs) (suc n) d heap in
    let is = order_cons x (take n xs)
    ∙ with_least x (in_order (take n xs)) (at_least_order x (take n xs) above.1) in
    is ∙ ap (λ (l : List Record). x ∷ drop 1 l) (sym is)

-- a bound of a list, place by place
below_far : (low : Record) (xs : List Record) (k : ℕ) (d : Record) → AtLeast low xs
    → k < length xs → is_below (get_or xs k d) low ≡ false
below_far low [] k d h f = absurd (omega arith)
below_far low (x ∷ xs) zero d h f = h.0
below_far low (x ∷ xs) (suc k) d h f = below_far low xs k d h.1 (omega arith)

-- an ascending list, place by place
ascends_far : (xs : List Record) (p k : ℕ) (d : Record) → IsAscending xs → p < k → k < length xs
    → is_below (get_or xs k d) (get_or xs p d) ≡ false
ascends_far [] p k d h a f = absurd (omega arith)
ascends_far (x ∷ xs) zero zero d h a f = absurd (omega arith)
ascends_far (x ∷ xs) zero (suc k) d h a f = below_far x xs k d h.0 (omega arith)
ascends_far (x ∷ xs) (suc p) zero d h a f = absurd (omega arith)
ascends_far (x ∷ xs) (suc p) (suc k) d h a f =
    ascends_far xs p k d h.1 (omega arith) (omega arith)

-- An ascending list is a heap.
pub ascending_heap : (xs : List Record) (n : ℕ) → n ≤ length xs → IsAscending (take n xs)
    → IsHeap xs n
ascending_heap xs n le h =
    let long = length-take-le n xs le in
    record {
      order = λ p k d lo a b f.
          (λ i. is_below (sym (get_or-take n xs k d f) i) (sym (get_or-take n xs p d (omega arith)) i))
          ∙ ascends_far (take n xs) p k d h (omega arith) (omega arith);
      within = le;
    }

-- The first records were put in order, and their least half is kept.
pub halves : (xs zs : List Record) (n : ℕ) → n ≤ length xs → IsPermutation (take n xs) zs
    → length zs ≡ n → IsAscending zs → HeapHalves (n - n / 2) xs (zs ++ drop n xs) n
halves xs zs n within same long rises =
    let keep = n - n / 2 in
    let ys = zs ++ drop n xs in
    let low = take keep zs in
    let front : take keep ys ≡ low = take-append-le keep zs (drop n xs) (omega arith) in
    let back : take (n / 2) (drop keep ys) ≡ drop keep zs =
    ap (take (n / 2)) (drop-append-le keep zs (drop n xs) (omega arith))
    ∙ seam (n / 2) (drop keep zs) (drop n xs) (let l = length-drop keep zs in omega arith) in
    let cut = take-append-drop keep zs in
    let parts = ascends_apart low (drop keep zs) (subst IsAscending (sym cut) rises) in
    let whole = part_long n xs zs long within in
    record {
      keep_is = refl;
      heap = record {
        order = λ p k d lo a b f.
            (λ i. is_below (get_or_append_left zs (drop n xs) d k (omega arith) i)
            (get_or_append_left zs (drop n xs) d p (omega arith) i))
            ∙ ascends_far zs p k d rises (omega arith) (omega arith);
        within = omega arith;
      };
      items =
          sym (order_permutation (take n xs) zs same) ∙ order_ascending zs rises ∙ sym cut
          ∙ (λ i. (sym (order_ascending low parts.0) ∙ ap in_order (sym front)) i ++ sym back i);
      long = whole;
    }
