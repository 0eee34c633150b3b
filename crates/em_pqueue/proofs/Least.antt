-- The heap gives its least item.
use Rattle.std.specs.Prelude.{◌≡◌, ◌==◌, ℕ, ◌+◌, ◌-◌, max, true, false, List, ◌++◌, length, Option, None, Some, IfNone, option_to_list}
use Rattle.std.proofs.Common.{arith, sym, ap, subst, ◌∙◌, refl, ⊎_elim, append_assoc}
use Rattle.std.proofs.lemmas.Bool.{cases_Bool, cond-true, cond-false, eqb-true, eqb-false}
use Rattle.em_record.specs.declared.record.Record.{Record}
use Rattle.em_frames.specs.Pool.{load_of}
use Rattle.em_space.specs.Rig.{RigState}
use Rattle.em_tree_cost.specs.ExtQueue.{ExtQueueCounts, ExtQueueFits, after_call, after_heap_pop, after_last_item}
use Rattle.em_tree_cost.proofs.ExtQueue.{queue_heap_pop, queue_last_item}
use Rattle.em_trunk.specs.Trunk.{given_by, model_of}
use Rattle.em_trunk.specs.Trunk as trunks
use Rattle.em_trunk.specs.declared.trunk.Trunk.{Trunk}
use Rattle.em_pqueue.specs.ExtQueue.{IsBagTree, Shows, Stands, half_of, items_in_tree, trunk_of}
use Rattle.em_pqueue.specs.Items.{tree_items}
use Rattle.em_pqueue.specs.Parts.{AreParts}
use Rattle.em_pqueue.specs.Steps.{TakesItem, TakesLeast}
use Rattle.em_pqueue.specs.declared.queue.ExtQueue.{ExtQueue}
use Rattle.em_pqueue.proofs.Parts.{popped}

-- the parts after a pop
parts_after : (bound : Record) (heap more tree : List Record) (item : Option Record)
    → heap ≡ option_to_list item ++ more → AreParts bound heap tree → AreParts bound more tree
parts_after bound heap more tree None e a =
    let P : List Record → Type 0 = λ l. AreParts bound l tree in subst P e a
parts_after bound heap more tree (Some x) e a =
    let P : List Record → Type 0 = λ l. AreParts bound l tree in
    popped bound x more tree (subst P e a)

-- and the numbers of the heap
lens_after : (n m : ℕ) (heap more : List Record) (item : Option Record)
    → heap ≡ option_to_list item ++ more → n ≡ length heap → IfNone item (n ≡ 0) → m ≡ n - 1
    → (m ≡ length more) × (m + length (option_to_list item) ≡ n)
lens_after n m heap more None e l none d =
    let z = ap length e in (omega (arith, z, l, none, d), omega (arith, none, d))
lens_after n m heap more (Some x) e l none d =
    let z = ap length e in (omega (arith, z, l, d), omega (arith, z, l, d))

module _ (s : RigState) (q w : ExtQueue) (item : Option Record) (st : Stands after_call s q)
    (h : TakesItem q w item) where
  lens : (w.heap.len ≡ length w.heap.items) × (w.heap.len + length (option_to_list item) ≡ q.heap.len)
  lens = lens_after q.heap.len w.heap.len q.heap.items w.heap.items item h.items st.heap_len h.none h.len

  tree_is : trunk_of w ≡ trunk_of q
  tree_is = ap trunk_of h.rest

  in_tree_is : w.in_tree ≡ q.in_tree
  in_tree_is = ap (λ (x : ExtQueue). x.in_tree) h.rest

  shows : (m : ExtQueueCounts) → m.n ≡ st.numbers.n + 1 → m.k ≡ max st.numbers.k (st.numbers.since + 1)
      → m.since ≡ w.since → m.heap ≡ st.numbers.heap - 1 → m.tree_len ≡ st.numbers.tree_len
      → m.tree_n ≡ st.numbers.tree_n → m.tree_k ≡ st.numbers.tree_k
      → m.tree_since ≡ st.numbers.tree_since → m.z ≡ st.numbers.z → Shows m w
  shows m a b c d e f g i j =
      let n = st.shown in
      let still : (x : Trunk → ℕ) → x (trunk_of w) ≡ x (trunk_of q) = λ x. ap x tree_is in
      record {
        calls = a ∙ (n.calls ∙ sym (ap (λ (x : ExtQueue). x.calls) h.rest));
        longest = b ∙ (n.longest ∙ sym (ap (λ (x : ExtQueue). x.longest) h.rest));
        since = c;
        heap = omega (arith, d, n.heap, h.len);
        in_tree = e ∙ (n.in_tree ∙ sym in_tree_is);
        pushed = f ∙ (n.pushed ∙ sym (still (λ v. (trunks.counts_of v).n)));
        tree_longest = g ∙ (n.tree_longest ∙ sym (still (λ v. (trunks.counts_of v).k)));
        tree_since = i ∙ (n.tree_since ∙ sym (still (λ v. (trunks.counts_of v).since)));
        resets = j ∙ (n.resets ∙ sym (still (λ v. (trunks.counts_of v).z)));
        unsettled = still (λ v. (trunks.counts_of v).y) ∙ n.unsettled;
        none_adopted = still (λ v. (trunks.counts_of v).adopted) ∙ n.none_adopted;
      }

  -- the numbers afterwards
  record Numbers : Type 0 where
    pub are : ExtQueueCounts
    pub shown : Shows are w
    pub fits : ExtQueueFits (load_of s.pool.shape) (half_of s.pool.shape) are
    pub since_none : w.len ≡ 0 → w.since ≡ 0

  popped_fits : ExtQueueFits (load_of s.pool.shape) (half_of s.pool.shape) (after_heap_pop st.numbers)
  popped_fits = queue_heap_pop (load_of s.pool.shape) (half_of s.pool.shape) st.numbers st.fits

  numbers : Numbers
  numbers = ⊎_elim
      (λ (b : (w.len == 0) ≡ true).
      let e : w.len ≡ 0 = eqb-true w.len 0 b in
      let z : w.since ≡ 0 = h.since ∙ cond-true _ _ _ b in
      let n = st.shown in
      record {
        are = after_last_item (after_heap_pop st.numbers);
        shown = shows (after_last_item (after_heap_pop st.numbers)) refl refl (sym z) refl refl refl
            refl refl refl;
        fits = queue_last_item (load_of s.pool.shape) (half_of s.pool.shape)
            (after_heap_pop st.numbers) popped_fits (omega (arith, e, h.total, n.heap, h.len))
            (omega (arith, e, h.total, n.in_tree));
        since_none = λ x. z;
      })
      (λ (b : (w.len == 0) ≡ false).
      let z : w.since ≡ q.since = h.since ∙ cond-false _ _ _ b in
      let n = st.shown in
      record {
        are = after_heap_pop st.numbers;
        shown = shows (after_heap_pop st.numbers) refl refl (n.since ∙ sym z) refl refl refl refl refl refl;
        fits = popped_fits;
        since_none = λ x. absurd (eqb-false w.len 0 b x);
      })
      (cases_Bool (w.len == 0))

  pub least_taken : TakesLeast item s q w
  least_taken =
      let B : Trunk → Type 0 = IsBagTree s in
      let cap = h.capacity in
      let sn = ap (λ (v : Trunk). v.since) tree_is in
      record {
        stands = record {
          shape = st.shape;
          tree = subst B (sym tree_is) st.tree;
          area = cap ∙ st.area;
          out = st.out;
          heap_len = lens.0;
          numbers = numbers.are;
          shown = numbers.shown;
          fits = numbers.fits;
          some = λ x. (let a = st.some (omega (arith, x, in_tree_is)) in omega (arith, a, sn));
          parts = λ told.
              let old = st.parts told in
              let A : Trunk → Type 0 = λ v. AreParts q.bound w.heap.items (tree_items (model_of s v)) in
              let bound = ap (λ (x : ExtQueue). x.bound) h.rest in
              let C : Record → Type 0 = λ b. AreParts b w.heap.items (items_in_tree s w) in
              record {
                are = subst C (sym bound) (subst A (sym tree_is) (parts_after q.bound q.heap.items
                    w.heap.items (items_in_tree s q) item h.items old.are));
                in_tree = in_tree_is ∙ (old.in_tree
                    ∙ ap (λ v. length (tree_items (model_of s v))) (sym tree_is));
                given = ap (given_by s) tree_is ∙ old.given;
              };
        };
        items = λ told.
            ap (λ l. l ++ items_in_tree s q) h.items
            ∙ (append_assoc (option_to_list item) w.heap.items (items_in_tree s q)
            ∙ ap (λ v. option_to_list item ++ (w.heap.items ++ tree_items (model_of s v))) (sym tree_is));
        len = (let l = lens.1 in omega (arith, l, h.total));
        total = omega (arith, h.total, in_tree_is);
        since_none = numbers.since_none;
        since_is = h.since;
        rest = h.rest;
      }
