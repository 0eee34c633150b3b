-- The heap takes records of its area.
use Rattle.std.specs.Prelude.{◌≡◌, Bool, true, false, not, ℕ, ◌-◌, ◌*◌, ◌^◌, ◌<◌, ◌≤◌, List, ◌++◌, length, get_or, take, drop}
use Rattle.std.proofs.Common.{arith, sym, ap, subst, ◌∙◌, refl, get_or-take, length-append, length-drop, length-take-le}
use Rattle.std.proofs.lemmas.List.{get_or_default}
use Rattle.std.proofs.Math.Bool.{beq}
use Rattle.std.proofs.Math.Nat.{mul-le-mul}
use Rattle.std.proofs.Math.Seq.{take-append_seam}
use Rattle.em_record.specs.Order.{IsAscending, in_order}
use Rattle.em_record.specs.Shape.{IsShape, ShapeNumbers, wide_of}
use Rattle.em_record.specs.declared.record.Record.{Record}
use Rattle.em_record.proofs.Order.{length_order, order_ascends}
use Rattle.em_frames.specs.Pool.{load_of}
use Rattle.em_heap.specs.State.{HeapState}
use Rattle.em_pqueue.specs.Steps.{TakenOver}
use Rattle.em_pqueue.specs.declared.queue.ExtQueue.{ExtQueue}

-- an area's records are few
pub load_few : (shape : ShapeNumbers) → IsShape shape → load_of shape ≤ 2 ^ 40
load_few shape is =
    let m : wide_of shape * shape.block ≤ 1024 * 65536 =
    mul-le-mul {n₁ = wide_of shape} {m₁ = shape.block} {n₂ = 1024} {m₂ = 65536}
    (omega (arith, is.frames_high)) is.block_high in
    omega (arith, m)

-- two tests that don't differ
pub same_test : (a b : Bool) → not (beq a b) ≡ false → a ≡ b
same_test true true h = refl
same_test true false h = h
same_test false true h = sym h
same_test false false h = refl

-- The first n records of an area were put in order.
module _ (xs ys : List Record) (n : ℕ) (within : n ≤ length xs)
    (sorted : ys ≡ in_order (take n xs) ++ drop n xs) where
  front_long : length (in_order (take n xs)) ≡ n
  front_long = length_order (take n xs) ∙ length-take-le n xs within

  pub sorted_long : length ys ≡ length xs
  sorted_long =
      let e = ap length sorted in
      let a = length-append (in_order (take n xs)) (drop n xs) in
      let d = length-drop n xs in
      omega (arith, e, a, d, front_long, within)

  pub sorted_front : take n ys ≡ in_order (take n xs)
  sorted_front =
      ap (take n) sorted
      ∙ (ap (λ k. take k (in_order (take n xs) ++ drop n xs)) (sym front_long)
      ∙ take-append_seam (in_order (take n xs)) (drop n xs))

  pub sorted_ascends : IsAscending (take n ys)
  sorted_ascends =
      let P : List Record → Type 0 = IsAscending in
      subst P (sym sorted_front) (order_ascends (take n xs))

  -- the last of them
  pub sorted_last : (d e : Record) → 0 < n
      → get_or (in_order (take n xs)) (n - 1) d ≡ get_or ys (n - 1) e
  sorted_last d e some =
      get_or_default (in_order (take n xs)) (n - 1) d e (omega (arith, front_long, some))
      ∙ (ap (λ l. get_or l (n - 1) e) (sym sorted_front)
      ∙ get_or-take n ys (n - 1) e (omega (arith, some)))

-- The heap took them, and the last of them is the bound.
pub taken_over : (q : ExtQueue) (h : HeapState) (xs ys zs : List Record) (n : ℕ) (e : Record)
    → xs ≡ q.heap.behind → length xs ≡ q.heap.capacity → n ≤ q.heap.capacity
    → ys ≡ in_order (take n xs) ++ drop n xs → zs ≡ ys
    → h ≡ record { items = take n ys; len = n; capacity = length ys; behind = drop n ys }
    → 0 < n → n ≤ q.in_tree → (n ≡ q.in_tree → q.tree.trunk.since ≡ 0)
    → (q.tree.trunk.since ≡ 0 → n ≡ q.in_tree)
    → TakenOver n q (record q {
      heap = h;
      bound = get_or zs (n - 1) e;
      in_tree = q.in_tree - n;
    })
taken_over q h xs ys zs n e old long within sorted same heap some few all fresh =
    let w : n ≤ length xs = omega (arith, long, within) in
    let front : take n ys ≡ in_order (take n q.heap.behind) =
    sorted_front xs ys n w sorted ∙ ap (λ l. in_order (take n l)) old in
    let cap : length ys ≡ q.heap.capacity = sorted_long xs ys n w sorted ∙ long in
    let b = ap (λ (k : HeapState). k.behind) heap in
    record {
      some = some;
      within = few;
      all = all;
      fresh = fresh;
      bound = λ d. ap (λ l. get_or (in_order (take n l)) (n - 1) d) (sym old)
          ∙ (sorted_last xs ys n w sorted d e some ∙ ap (λ l. get_or l (n - 1) e) (sym same));
      rest = ap (λ (k : HeapState). record q {
        heap = k;
        bound = get_or zs (n - 1) e;
        in_tree = q.in_tree - n;
      }) (heap ∙ (ap (λ l. record { items = l; len = n; capacity = length ys; behind = drop n ys }) front
          ∙ (ap (λ c. record {
            items = in_order (take n q.heap.behind);
            len = n;
            capacity = c;
            behind = drop n ys;
          }) cap ∙ ap (λ l. record {
            items = in_order (take n q.heap.behind);
            len = n;
            capacity = q.heap.capacity;
            behind = l;
          }) (sym b))));
    }
