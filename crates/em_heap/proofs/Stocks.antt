-- What the calls of a heap beside a run give, in terms of all records in order.
use Rattle.std.proofs.Common.{◌≡◌, ℕ, zero, suc, ◌+◌, ◌-◌, ◌/◌, ◌<◌, ◌≤◌, Bool, IsTrue, IsFalse, List, [], ◌∷◌, ◌++◌, length, get_or, take, drop, false, true, true≢false, refl, sym, ap, subst, ◌∙◌, arith, get_or-take, length-take-le, length-append, length-drop, append_assoc}
use Rattle.std.proofs.lemmas.List.{take-append-le, take-take, get_or_append_left}
use Rattle.std.proofs.Math.Seq.{drop-append_seam, drop-cons, drop-length, take-append_seam, take-length}
use Rattle.std.specs.Prelude.{not}
use Rattle.std.specs.List.Sorted.{IsPermutation}
use Rattle.em_record.specs.declared.record.Record.{Record}
use Rattle.em_record.specs.Order.{is_below, AtLeast, IsAscending, in_order, with_record, with_records}
use Rattle.em_record.proofs.Order.{below_ranks, order_ascends, with_least, at_least_with, at_least_trans, records_append}
use Rattle.em_record.proofs.Commutes.{records_with, order_ascending, at_least_order}
use Rattle.em_frames.specs.Device.{zero_record}
use Rattle.em_heap.specs.Heap.{IsHeap, heap_items, HeapPushes, HeapPops}
use Rattle.em_heap.specs.State.{HeapState}
use Rattle.em_heap.specs.Stock.{IsStock, LeadsRun, LeadsTop, RunPops, StockHalves, StockPops, StockPushes, between, run_of, stock_items}
use Rattle.em_heap.proofs.Heaps.{above_first, agrees, ascending_heap, halves, peeks, seam}

-- the records of a run
pub run_long : (xs : List Record) (n : ℕ) → n ≤ length xs → length (run_of xs n) ≡ n
run_long xs n le = let a = length-drop (length xs - n) xs in omega (arith, a)

-- a front that was changed keeps the length, and the run after it
pub run_stays : (xs zs : List Record) (n : ℕ) → n ≤ length xs → length zs ≡ length xs - n
    → (length (zs ++ run_of xs n) ≡ length xs) × (run_of (zs ++ run_of xs n) n ≡ run_of xs n)
run_stays xs zs n le e =
    let a = length-append zs (run_of xs n) in
    let b = run_long xs n le in
    let long : length (zs ++ run_of xs n) ≡ length xs = omega arith in
    let cut : length (zs ++ run_of xs n) - n ≡ length zs = omega arith in
    (long, ap (λ (k : ℕ). drop k (zs ++ run_of xs n)) cut ∙ drop-append_seam zs (run_of xs n))

-- the heap is one of the records before the run too
pub front_heap : (xs : List Record) (top run : ℕ) → IsStock xs top run
    → IsHeap (take (length xs - run) xs) top
front_heap xs top run s =
    let room = s.room in
    let cut = length-take-le (length xs - run) xs (omega arith) in
    record {
      order = agrees xs (take (length xs - run) xs) 0 top top (omega arith)
          (λ k d lo f. get_or-take (length xs - run) xs k d (omega arith)) s.heap.order;
      within = omega (arith, cut, room);
    }

-- the heap after it was changed at the front
after_front : (xs zs : List Record) (top run new : ℕ) → IsStock xs top run
    → IsHeap zs new → length zs ≡ length xs - run
    → IsStock (zs ++ run_of xs run) new run
after_front xs zs top run new s h e =
    let room = s.room in
    let stays = run_stays xs zs run (omega (arith, room)) e in
    let within = h.within in
    record {
      heap = record {
        order = agrees zs (zs ++ run_of xs run) 0 new new (omega arith)
            (λ k d lo f. get_or_append_left zs (run_of xs run) d k (omega (arith, within, f))) h.order;
        within = omega (arith, within, stays.0, e);
      };
      rises = subst IsAscending (sym stays.1) s.rises;
      room = omega (arith, within, stays.0, e, room);
    }

-- the same records in order
front_items : (xs zs : List Record) (run new : ℕ) → run ≤ length xs → new ≤ length zs
    → length zs ≡ length xs - run
    → stock_items (zs ++ run_of xs run) new run ≡ with_records (heap_items zs new) (run_of xs run)
front_items xs zs run new le in' e =
    let stays = run_stays xs zs run le e in
    let front = take-append-le new zs (run_of xs run) in' in
    λ i. with_records (in_order (front i)) (stays.1 i)

-- A record was put into the heap.
pub stock_pushes : (xs zs : List Record) (top run : ℕ) (item : Record) → IsStock xs top run
    → HeapPushes item (take (length xs - run) xs) zs top
    → StockPushes item xs (zs ++ run_of xs run) top run
stock_pushes xs zs top run item s h =
    let room = s.room in
    let n = length xs - run in
    let cut : length (take n xs) ≡ n = length-take-le n xs (omega arith) in
    let long : length zs ≡ n = h.long ∙ cut in
    let within = h.heap.within in
    record {
      stock = after_front xs zs top run (top + 1) s h.heap long;
      items =
          front_items xs zs run (top + 1) (omega (arith, room)) within long
          ∙ ap (λ (l : List Record). with_records l (run_of xs run))
          (h.items ∙ ap (λ (l : List Record). with_record item (in_order l))
          (take-take top n xs (omega (arith, room))))
          ∙ records_with item (heap_items xs top) (run_of xs run);
      long = (run_stays xs zs run (omega (arith, room)) long).0;
    }

-- a bound of two lists bounds both, put in order
at_least_records : (low : Record) (ys xs : List Record) → AtLeast low ys → AtLeast low xs
    → AtLeast low (with_records ys xs)
at_least_records low ys [] a b = a
at_least_records low ys (x ∷ xs) a b =
    at_least_records low (with_record x ys) xs (at_least_with low x ys b.0 a) b.1

-- a record that bounds all stays the first
least_first : (x : Record) (ys xs : List Record) → AtLeast x ys → AtLeast x xs
    → with_records (x ∷ ys) xs ≡ x ∷ with_records ys xs
least_first x ys xs a b =
    ap (λ (l : List Record). with_records l xs) (sym (with_least x ys a))
    ∙ records_with x ys xs
    ∙ with_least x (with_records ys xs) (at_least_records x ys xs a b)

-- the first of two equal lists
first_same : (x y : Record) (xs ys : List Record) → x ∷ xs ≡ y ∷ ys → x ≡ y
first_same x y xs ys e = ap (λ (l : List Record). get_or l 0 x) e

-- The least record was taken from the heap.
pub stock_pops : (xs zs : List Record) (top run : ℕ) (least : Record) → IsStock xs top run
    → LeadsTop xs top run → HeapPops least (take (length xs - run) xs) zs top
    → StockPops least xs (zs ++ run_of xs run) top run
stock_pops xs zs top run least s t h =
    let room = s.room in
    let some = t.some in
    let n = length xs - run in
    let cut : length (take n xs) ≡ n = length-take-le n xs (omega arith) in
    let long : length zs ≡ n = h.long ∙ cut in
    let within = h.heap.within in
    let old : take top (take n xs) ≡ take top xs = take-take top n xs (omega (arith, room)) in
    let is : heap_items xs top ≡ least ∷ heap_items zs (top - 1) =
    ap in_order (sym old) ∙ h.items in
    let first : least ≡ get_or xs 0 zero_record =
    first_same least (get_or xs 0 zero_record) _ _
    (sym is ∙ peeks xs top zero_record some s.heap) in
    let rises : IsAscending (least ∷ heap_items zs (top - 1)) =
    subst IsAscending is (order_ascends (take top xs)) in
    record {
      stock = after_front xs zs top run (top - 1) s h.heap long;
      items =
          ap (λ (l : List Record). with_records l (run_of xs run)) is
          ∙ least_first least (heap_items zs (top - 1)) (run_of xs run) rises.0
          (subst (λ (r : Record). AtLeast r (run_of xs run)) (sym first) t.least)
          ∙ ap (λ (l : List Record). least ∷ l)
          (sym (front_items xs zs run (top - 1) (omega (arith, room)) within long));
      long = (run_stays xs zs run (omega (arith, room)) long).0;
    }

-- a run with a record is that record and a shorter run
pub run_cons : (xs : List Record) (run : ℕ) → 0 < run → run ≤ length xs
    → run_of xs run ≡ get_or xs (length xs - run) zero_record ∷ run_of xs (run - 1)
run_cons xs run some le =
    let next : suc (length xs - run) ≡ length xs - (run - 1) = omega arith in
    drop-cons xs (length xs - run) zero_record (omega arith)
    ∙ ap (λ (k : ℕ). get_or xs (length xs - run) zero_record ∷ drop k xs) next

-- The first record of the run is taken.
pub run_pops : (xs : List Record) (top run : ℕ) → IsStock xs top run → LeadsRun xs top run
    → RunPops (get_or xs (length xs - run) zero_record) xs top run
run_pops xs top run s l =
    let room = s.room in
    let some = l.some in
    let r = get_or xs (length xs - run) zero_record in
    let is = run_cons xs run some (omega (arith, room)) in
    let rises : IsAscending (r ∷ run_of xs (run - 1)) = subst IsAscending is s.rises in
    record {
      stock = record {
        heap = s.heap;
        rises = rises.1;
        room = omega (arith, room);
      };
      items =
          ap (λ (ws : List Record). with_records (heap_items xs top) ws) is
          ∙ records_with r (heap_items xs top) (run_of xs (run - 1))
          ∙ with_least r (with_records (heap_items xs top) (run_of xs (run - 1)))
          (at_least_records r (heap_items xs top) (run_of xs (run - 1))
          (at_least_order r (take top xs) l.least) rises.0);
    }

-- The run's first record is taken next: the heap has one that isn't below it, or none.
pub leads_run : (xs : List Record) (top run : ℕ) (b : Bool) → IsStock xs top run → 0 < run
    → is_below (get_or xs 0 zero_record) (get_or xs (length xs - run) zero_record) ≡ b
    → IsTrue (not b) → LeadsRun xs top run
leads_run xs top run true s some is t = absurd (true≢false (sym t))
leads_run xs top run false s some is t = record {
  some = some;
  least = at_least_trans (get_or xs (length xs - run) zero_record) (get_or xs 0 zero_record)
      (take top xs) is (above_first xs top zero_record s.heap);
}

-- The heap's first record is taken next: the run has one above it.
pub leads_top : (xs : List Record) (top run : ℕ) (b : Bool) → IsStock xs top run → 0 < run → 0 < top
    → is_below (get_or xs 0 zero_record) (get_or xs (length xs - run) zero_record) ≡ b
    → IsFalse (not b) → LeadsTop xs top run
leads_top xs top run false s some more is t = absurd (true≢false t)
leads_top xs top run true s some more is t =
    let room = s.room in
    let r = get_or xs (length xs - run) zero_record in
    let x = get_or xs 0 zero_record in
    let cons = run_cons xs run some (omega (arith, room)) in
    let rises : IsAscending (r ∷ run_of xs (run - 1)) = subst IsAscending cons s.rises in
    let over = below_ranks.one_way x r is in
    record {
      some = more;
      least = subst (AtLeast x) (sym cons) (over, at_least_trans x r (run_of xs (run - 1)) over rises.0);
    }

-- The first record of the heap is the first of all in order.
pub stock_peeks : (xs : List Record) (top run : ℕ) (least : Record) → IsStock xs top run
    → LeadsTop xs top run → heap_items xs top ≡ least ∷ drop 1 (heap_items xs top)
    → stock_items xs top run ≡ least ∷ drop 1 (stock_items xs top run)
stock_peeks xs top run least s t is =
    let first : least ≡ get_or xs 0 zero_record =
    first_same least (get_or xs 0 zero_record) _ _
    (sym is ∙ peeks xs top zero_record t.some s.heap) in
    let rises : IsAscending (least ∷ drop 1 (heap_items xs top)) =
    subst IsAscending is (order_ascends (take top xs)) in
    let all : stock_items xs top run
    ≡ least ∷ with_records (drop 1 (heap_items xs top)) (run_of xs run) =
    ap (λ (l : List Record). with_records l (run_of xs run)) is
    ∙ least_first least (drop 1 (heap_items xs top)) (run_of xs run) rises.0
    (subst (λ (r : Record). AtLeast r (run_of xs run)) (sym first) t.least) in
    all ∙ ap (λ (l : List Record). least ∷ drop 1 l) (sym all)

-- the run was moved up to the heap: the list is as long
pub gathered_long : (xs ws : List Record) (top run : ℕ) → IsStock xs top run
    → ws ≡ take top xs ++ (run_of xs run ++ between xs top run) → length ws ≡ length xs
gathered_long xs ws top run s is =
    let room = s.room in
    let tl : length (take top xs) ≡ top = length-take-le top xs (omega (arith, room)) in
    let rl : length (run_of xs run) ≡ run = run_long xs run (omega (arith, room)) in
    let gap : length (drop top xs) ≡ length xs - top = length-drop top xs in
    let gl : length (between xs top run) ≡ length xs - run - top =
    length-take-le (length xs - run - top) (drop top xs) (omega (arith, gap, room)) in
    let a = length-append (take top xs) (run_of xs run ++ between xs top run) in
    let b = length-append (run_of xs run) (between xs top run) in
    ap length is ∙ omega (arith, a, b, tl, rl, gl, room)

-- The run stands behind the heap, and both were put in order.
pub stock_halves : (xs ws zs : List Record) (top run : ℕ) → IsStock xs top run
    → ws ≡ take top xs ++ (run_of xs run ++ between xs top run)
    → IsPermutation (take (top + run) ws) zs → length zs ≡ top + run → IsAscending zs
    → StockHalves ((top + run) - (top + run) / 2) xs (zs ++ drop (top + run) ws) top run
stock_halves xs ws zs top run s is same long rises =
    let room = s.room in
    let n = top + run in
    let keep = n - n / 2 in
    let ys = zs ++ drop n ws in
    let T = take top xs in
    let R = run_of xs run in
    let G = between xs top run in
    let tl : length T ≡ top = length-take-le top xs (omega (arith, room)) in
    let rl : length R ≡ run = run_long xs run (omega (arith, room)) in
    let both = length-append T R in
    let nl : length (T ++ R) ≡ n = omega (arith, tl, rl, both) in
    let parts : ws ≡ (T ++ R) ++ G = is ∙ sym (append_assoc T R G) in
    let wl = gathered_long xs ws top run s is in
    let front : take n ws ≡ T ++ R =
    ap (take n) parts ∙ seam n (T ++ R) G nl in
    let h = halves ws zs n (omega (arith, wl, room)) same long rises in
    let yl = h.long ∙ wl in
    let zero_off : length ys - 0 ≡ length ys = omega arith in
    let none : run_of ys 0 ≡ [] = ap (λ (k : ℕ). drop k ys) zero_off ∙ drop-length ys in
    let back : take (n / 2) (between ys keep 0) ≡ take (n / 2) (drop keep ys) =
    take-take (n / 2) (length ys - 0 - keep) (drop keep ys) (omega (arith, yl, room)) in
    record {
      keep_is = refl;
      stock = record {
        heap = h.heap;
        rises = subst IsAscending (sym none) tt;
        room = omega (arith, yl, room);
      };
      items =
          sym (records_append [] T R) ∙ ap in_order (sym front) ∙ h.items
          ∙ (λ i. with_records (heap_items ys keep) (sym none i) ++ sym back i);
      long = yl;
    }

-- what is seen of a heap beside a run
abbrev pub seen_as : List Record → ℕ → ℕ → HeapState
seen_as xs top run = record {
  items = stock_items xs top run;
  len = top + run;
  capacity = length xs;
  behind = between xs top run;
}

-- the first m records, in order, were moved to the end, and are the run of no heap
refills_none : (xs : List Record) (m : ℕ) → m ≤ length xs → IsAscending (take m xs)
    → IsStock (drop m xs ++ take m xs) 0 m
    × (seen_as (drop m xs ++ take m xs) 0 m ≡ record {
      items = take m xs;
      len = m;
      capacity = length xs;
      behind = drop m xs;
    })
refills_none xs m le rises =
    let ws = drop m xs ++ take m xs in
    let a = length-append (drop m xs) (take m xs) in
    let b : length (drop m xs) ≡ length xs - m = length-drop m xs in
    let c : length (take m xs) ≡ m = length-take-le m xs le in
    let wide : length ws ≡ length xs = omega (arith, a, b, c) in
    let cut : length ws - m ≡ length (drop m xs) = omega (arith, wide, b) in
    let run : run_of ws m ≡ take m xs =
    ap (λ (k : ℕ). drop k ws) cut ∙ drop-append_seam (drop m xs) (take m xs) in
    let gap : length ws - m - 0 ≡ length (drop m xs) = omega (arith, cut) in
    let behind : between ws 0 m ≡ drop m xs =
    ap (λ (k : ℕ). take k ws) gap ∙ take-append_seam (drop m xs) (take m xs) in
    let items : stock_items ws 0 m ≡ take m xs =
    ap in_order run ∙ order_ascending (take m xs) rises in
    let sum : 0 + m ≡ m = omega arith in (
      record {
        heap = ascending_heap ws 0 (omega arith) tt;
        rises = subst IsAscending (sym run) rises;
        room = omega (arith, wide, le);
      },
      λ i. record {
        items = items i;
        len = sum i;
        capacity = wide i;
        behind = behind i;
      },
    )

-- Of a heap with no record the first m records of its area, in order, were moved to its end.
pub stock_refills : (xs ws : List Record) (top run m : ℕ) (h : HeapState) → seen_as xs top run ≡ h
    → h.len ≡ 0 → m ≤ h.capacity → IsAscending (take m h.behind)
    → ws ≡ drop m xs ++ take m xs
    → IsStock ws top m × (seen_as ws top m ≡ record h {
      items = take m h.behind;
      len = m;
      behind = drop m h.behind;
    })
stock_refills xs ws zero zero m h e none within ascends is =
    let P : HeapState → Type 0 = λ k. m ≤ k.capacity → IsAscending (take m k.behind)
    → IsStock ws 0 m × (seen_as ws 0 m ≡ record k {
      items = take m k.behind;
      len = m;
      behind = drop m k.behind;
    }) in
    let all : length xs - 0 - 0 ≡ length xs = omega arith in
    let whole : between xs 0 0 ≡ xs = ap (λ (k : ℕ). take k xs) all ∙ take-length xs in
    subst P e (λ w a.
    let r = refills_none xs m w (subst (λ (l : List Record). IsAscending (take m l)) whole a) in (
      subst (λ (l : List Record). IsStock l 0 m) (sym is) r.0,
      ap (λ (l : List Record). seen_as l 0 m) is ∙ r.1
          ∙ (λ i. record {
            items = take m (sym whole i);
            len = m;
            capacity = length xs;
            behind = drop m (sym whole i);
          }),
    )) within ascends
stock_refills xs ws zero (suc run) m h e none within ascends is =
    absurd (let l = ap (λ (k : HeapState). k.len) e in omega (arith, l, none))
stock_refills xs ws (suc top) run m h e none within ascends is =
    absurd (let l = ap (λ (k : HeapState). k.len) e in omega (arith, l, none))

-- a whole list that was written anew
pub written : (xs zs : List Record) → length zs ≡ length xs
    → take (length xs) (zs ++ drop (length zs) xs) ≡ zs
written xs zs e = seam (length xs) zs (drop (length zs) xs) e
