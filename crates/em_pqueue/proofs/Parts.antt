-- The items of a queue over each of its steps, as those of its heap and of its tree.
use Rattle.std.specs.Prelude.{◌≡◌, ℕ, suc, ◌+◌, ◌<◌, true, false, List, [], ◌∷◌, ◌++◌, length, get_or, take, drop}
use Rattle.std.proofs.Common.{sym, ap, subst, ◌∙◌, refl, ⊎_elim, arith, append_assoc, take-suc}
use Rattle.std.proofs.lemmas.Bool.{cases_Bool}
use Rattle.std.proofs.lemmas.List.{append-nil}
use Rattle.std.proofs.Math.Seq.{split_at}
use Rattle.em_record.specs.declared.record.Record.{Record}
use Rattle.em_record.specs.Order.{is_below, AtLeast, Lacks, with_record, with_records}
use Rattle.em_record.proofs.Commutes.{record_ties, with_append}
use Rattle.em_record.proofs.Lacking.{lacks_right}
use Rattle.em_record.proofs.Order.{at_least_trans, at_least_with, below_ranks, with_later, with_least}
use Rattle.em_settle.specs.Bag.{bag_key_of}
use Rattle.em_settle.specs.Rising.{RisesByKey}
use Rattle.em_settle.proofs.Keys.{below_itself}
use Rattle.em_pqueue.specs.Ascending.{below_of_keys, least_of_keys}
use Rattle.em_pqueue.specs.Parts.{AreParts, AtMost}
use Rattle.em_pqueue.proofs.Rising.{EachBelow, above_last, below_last, lacks_between, lacks_both, rises_between, rises_both, rises_first, rises_last, rises_with}

-- one record more below a bound
at_most_with : (high x : Record) (ys : List Record) → is_below high x ≡ false → AtMost high ys
    → AtMost high (with_record x ys)
at_most_with high x [] e h = (e, tt)
at_most_with high x (y ∷ ys) e h = ⊎_elim
    (λ (t : is_below y x ≡ true). rw t (h.0, at_most_with high x ys e h.1))
    (λ (f : is_below y x ≡ false). rw f (e, h))
    (cases_Bool (is_below y x))

-- records whose keys are below that of a bound are at most the bound
most_of_keys : (high : Record) (xs ys : List Record) → EachBelow bag_key_of xs (high ∷ ys)
    → AtMost high xs
most_of_keys high [] ys h = tt
most_of_keys high (x ∷ xs) ys h =
    (below_ranks.one_way x high (below_of_keys x high h.0.0), most_of_keys high xs ys h.1)

most_both : (high : Record) (xs ys : List Record) → AtMost high xs → AtMost high ys
    → AtMost high (xs ++ ys)
most_both high [] ys g h = h
most_both high (x ∷ xs) ys g h = (g.0, most_both high xs ys g.1 h)

-- a record at or above the bound, which the first part doesn't have, goes into the second part
past_most : (bound x : Record) (xs ys : List Record) → AtMost bound xs → is_below x bound ≡ false
    → Lacks x xs → with_record x (xs ++ ys) ≡ xs ++ with_record x ys
past_most bound x [] ys m b l = refl
past_most bound x (z ∷ xs) ys m b l =
    let up : is_below x z ≡ false = below_ranks.chain x bound z b m.0 in
    let less : is_below z x ≡ true = ⊎_elim
    (λ (t : is_below z x ≡ true). t)
    (λ (f : is_below z x ≡ false).
    let e : z ≡ x = record_ties z x f up in
    absurd (l.0 (ap (λ (r : Record). r.a) e) (ap (λ (r : Record). r.b) e)))
    (cases_Bool (is_below z x)) in
    with_later x z (xs ++ ys) less ∙ ap (λ zs. z ∷ zs) (past_most bound x xs ys m.1 b l.1)

lacks_first : (x : Record) (xs ys : List Record) → Lacks x (xs ++ ys) → Lacks x xs
lacks_first x [] ys h = tt
lacks_first x (z ∷ xs) ys h = (h.0, lacks_first x xs ys h.1)

-- What a push leaves of the parts, and of the items.
pub record PartsWith (x bound : Record) (heap tree more_heap more_tree : List Record) : Type 0 where
  pub are : AreParts bound more_heap more_tree
  pub items : more_heap ++ more_tree ≡ with_record x (heap ++ tree)

module _ (x bound : Record) (heap tree : List Record) (h : AreParts bound heap tree)
    (lacks : Lacks x (heap ++ tree)) where
  rises_more : RisesByKey bag_key_of (with_record x (heap ++ tree))
  rises_more = rises_with x (heap ++ tree) lacks h.rises

  least_tree : (0 < length tree → is_below x bound ≡ true) → (ys : List Record)
      → AtLeast bound ys → (0 < length ys → is_below x bound ≡ true) → AtLeast x ys
  least_tree b [] l c = tt
  least_tree b (y ∷ ys) l c =
      at_least_trans x bound (y ∷ ys) (below_ranks.one_way x bound (c (omega arith))) l

  -- A record below the bound goes into the heap; so does any, while the tree has none.
  pub heap_push : (0 < length tree → is_below x bound ≡ true)
      → PartsWith x bound heap tree (with_record x heap) tree
  heap_push b =
      let e : with_record x (heap ++ tree) ≡ with_record x heap ++ tree =
      with_append x heap tree (least_tree b tree h.tree_least b) in
      let P : List Record → Type 0 = RisesByKey bag_key_of in
      record {
        are = record {
          rises = subst P e rises_more;
          heap_most = λ n. at_most_with bound x heap (below_ranks.one_way x bound (b n)) (h.heap_most n);
          tree_least = h.tree_least;
        };
        items = sym e;
      }

  -- Another one goes into the tree.
  pub tree_push : 0 < length tree → is_below x bound ≡ false
      → PartsWith x bound heap tree heap (with_record x tree)
  tree_push some b =
      let e : with_record x (heap ++ tree) ≡ heap ++ with_record x tree =
      past_most bound x heap tree (h.heap_most some) b (lacks_first x heap tree lacks) in
      let P : List Record → Type 0 = RisesByKey bag_key_of in
      record {
        are = record {
          rises = subst P e rises_more;
          heap_most = λ n. h.heap_most some;
          tree_least = at_least_with bound x tree b h.tree_least;
        };
        items = sym e;
      }

-- records below x stand before it
past_under : (x : Record) (xs ys zs : List Record) → EachBelow bag_key_of xs (x ∷ zs)
    → with_record x (xs ++ ys) ≡ xs ++ with_record x ys
past_under x [] ys zs b = refl
past_under x (w ∷ xs) ys zs b =
    with_later x w (xs ++ ys) (below_of_keys w x b.0.0)
    ∙ ap (λ l. w ∷ l) (past_under x xs ys zs b.1)

-- The upper half of a heap goes into the tree, one record after another: the next one has words a and b that
-- none there has, and comes after those that went before it and ahead of all that the tree had.
module _ (before : List Record) (x : Record) (after tree : List Record)
    (rises : RisesByKey bag_key_of ((before ++ x ∷ after) ++ tree)) where
  rises_on : RisesByKey bag_key_of (before ++ x ∷ (after ++ tree))
  rises_on =
      let P : List Record → Type 0 = RisesByKey bag_key_of in
      subst P (append_assoc before (x ∷ after) tree) rises

  pub next_lacks : Lacks x (before ++ tree)
  next_lacks =
      let l = lacks_between x before (after ++ tree) rises_on in
      lacks_both x before tree (lacks_first x before (after ++ tree) l)
      (lacks_right x after tree (lacks_right x before (after ++ tree) l))

  pub next_pushed : with_record x (before ++ tree) ≡ (before ++ x ∷ []) ++ tree
  next_pushed =
      let up = (rises_last bag_key_of before (x ∷ (after ++ tree)) rises_on).0 in
      let least = least_of_keys x tree (above_last bag_key_of (bag_key_of x) after tree up) in
      past_under x before tree (after ++ tree) (rises_between bag_key_of before (x ∷ (after ++ tree)) rises_on)
      ∙ (ap (λ l. before ++ l) (with_least x tree least) ∙ sym (append_assoc before (x ∷ []) tree))

-- some of the records that go over, and the tree
rises_part : (xs ys tree : List Record) → RisesByKey bag_key_of ((xs ++ ys) ++ tree)
    → RisesByKey bag_key_of (xs ++ tree)
rises_part xs ys tree r =
    let P : List Record → Type 0 = RisesByKey bag_key_of in
    let q : RisesByKey bag_key_of (xs ++ (ys ++ tree)) = subst P (append_assoc xs ys tree) r in
    rises_both bag_key_of xs tree (rises_first bag_key_of xs (ys ++ tree) q)
    (rises_last bag_key_of ys tree (rises_last bag_key_of xs (ys ++ tree) q))
    (below_last bag_key_of xs ys tree (rises_between bag_key_of xs (ys ++ tree) q))

-- All of them, after those that went before.
pub pushed_in_order : (done xs tree : List Record) → RisesByKey bag_key_of ((done ++ xs) ++ tree)
    → with_records (done ++ tree) xs ≡ (done ++ xs) ++ tree
pushed_in_order done [] tree r = ap (λ l. l ++ tree) (sym (append-nil done))
pushed_in_order done (x ∷ xs) tree r =
    let P : List Record → Type 0 = λ l. RisesByKey bag_key_of (l ++ tree) in
    ap (λ l. with_records l xs) (next_pushed done x xs tree r)
    ∙ (pushed_in_order (done ++ x ∷ []) xs tree (subst P (sym (append_assoc done (x ∷ []) xs)) r)
    ∙ ap (λ l. l ++ tree) (append_assoc done (x ∷ []) xs))

-- Afterwards the bound is the least record that went over, and the items are the same.
pub spilled : (bound : Record) (low : List Record) (u : Record) (us tree : List Record)
    → AreParts bound (low ++ u ∷ us) tree → AreParts u low ((u ∷ us) ++ tree)
spilled bound low u us tree h =
    let P : List Record → Type 0 = RisesByKey bag_key_of in
    let rises : RisesByKey bag_key_of (low ++ u ∷ (us ++ tree)) =
    subst P (append_assoc low (u ∷ us) tree) h.rises in
    record {
      rises = rises;
      heap_most = λ n. most_of_keys u low (us ++ tree)
          (rises_between bag_key_of low (u ∷ (us ++ tree)) rises);
      tree_least = (
        below_itself u,
        least_of_keys u (us ++ tree) (rises_last bag_key_of low (u ∷ (us ++ tree)) rises).0,
      );
    }

-- The heap was empty, and the first records of the tree went into it: the last of them is the bound.
pub refilled : (bound : Record) (front : List Record) (last : Record) (rest : List Record)
    → AreParts bound [] ((front ++ last ∷ []) ++ rest) → AreParts last (front ++ last ∷ []) rest
refilled bound front last rest h =
    let P : List Record → Type 0 = RisesByKey bag_key_of in
    let rises : RisesByKey bag_key_of (front ++ last ∷ rest) =
    subst P (append_assoc front (last ∷ []) rest) h.rises in
    record {
      rises = h.rises;
      heap_most = λ n. most_both last front (last ∷ [])
          (most_of_keys last front rest (rises_between bag_key_of front (last ∷ rest) rises))
          (below_itself last, tt);
      tree_least = least_of_keys last rest (rises_last bag_key_of front (last ∷ rest) rises).0;
    }

-- The heap gave its least record, which is the first item.
pub popped : (bound x : Record) (heap tree : List Record) → AreParts bound (x ∷ heap) tree
    → AreParts bound heap tree
popped bound x heap tree h = record {
  rises = h.rises.1;
  heap_most = λ n. (h.heap_most n).1;
  tree_least = h.tree_least;
}

-- The next of some records that go over is lacking there, after those that went before it.
pub lacks_next : (xs tree : List Record) (i : ℕ) (x : Record) → i < length xs
    → ((d : Record) → get_or xs i d ≡ x) → RisesByKey bag_key_of (xs ++ tree)
    → Lacks x (with_records tree (take i xs))
lacks_next xs tree i x within is rises =
    let done = take i xs in
    let after = drop (suc i) xs in
    let all : xs ≡ done ++ x ∷ after =
    split_at xs i x within ∙ ap (λ y. done ++ y ∷ after) (is x) in
    let P : List Record → Type 0 = λ l. RisesByKey bag_key_of (l ++ tree) in
    let Q : List Record → Type 0 = RisesByKey bag_key_of in
    let R : List Record → Type 0 = Lacks x in
    let whole : RisesByKey bag_key_of ((done ++ x ∷ after) ++ tree) = subst P all rises in
    let first : RisesByKey bag_key_of (([] ++ done) ++ tree) =
    rises_part done (x ∷ after) tree whole in
    subst R (sym (pushed_in_order [] done tree first)) (next_lacks done x after tree whole)

-- and then it is among them
pub take_next : (xs : List Record) (i : ℕ) (x : Record) → i < length xs
    → ((d : Record) → get_or xs i d ≡ x) → take (i + 1) xs ≡ take i xs ++ x ∷ []
take_next xs i x within is =
    let e : i + 1 ≡ suc i = omega arith in
    ap (λ n. take n xs) e ∙ (take-suc xs i x within ∙ ap (λ y. take i xs ++ y ∷ []) (is x))

-- some records, from the first on
pub cons_of : (xs : List Record) (d : Record) → 0 < length xs → xs ≡ get_or xs 0 d ∷ drop 1 xs
cons_of [] d h = absurd (omega (arith, h))
cons_of (x ∷ xs) d h = refl
