-- Neighbours that are fused, and a root that gives way to its only child: the ways back from the splits.
use Rattle.std.specs.Prelude.{◌≡◌, true, List, [], ◌∷◌, ◌++◌, Option, Some, None}
use Rattle.std.proofs.Common.{sym, ap, subst, ◌∙◌, refl, append_assoc}
use Rattle.std.proofs.lemmas.List.{append-nil}
use Rattle.em_record.specs.declared.record.Record.{Record}
use Rattle.em_record.specs.Order.{is_below}
use Rattle.em_settle.specs.Orders.{below_trans}
use Rattle.em_settle.specs.Keys.{of_key}
use Rattle.em_settle.specs.Rising.{KeysAbove, RisesByKey}
use Rattle.em_settle.proofs.Keys.{below_itself}
use Rattle.em_tree_model.specs.Tree.{Tree, stored_in, waiting_in, IsChild, HasEntry, join_rows, IsRow}
use Rattle.em_tree_model.specs.Tree.Tree.{leaf, end, entry}
use Rattle.em_tree_model.specs.Ranges.{Under, AllIn, next_low, Follow, IsTree}
use Rattle.em_tree_model.specs.Places.{SameStart}
use Rattle.em_tree_model.proofs.Ranges.{Upto, all_append, all_wider, below_not, from_above, upto_itself}
use Rattle.em_tree_model.proofs.Events.{Keeps}
use Rattle.em_tree_model.proofs.Splits.{follow_lower, leaf_split, node_split, rest_from, stored_join, waiting_join}

start_trans : (t u v : Tree) → SameStart t u → SameStart u v → SameStart t v
start_trans (leaf xs) (leaf ys) (leaf zs) a b = tt
start_trans (leaf xs) (leaf ys) end a b = absurd b
start_trans (leaf xs) (leaf ys) (entry l d c r) a b = absurd b
start_trans (leaf xs) end v a b = absurd a
start_trans (leaf xs) (entry l d c r) v a b = absurd a
start_trans end (leaf ys) v a b = absurd a
start_trans end end v a b = b
start_trans end (entry l d c r) v a b = absurd a
start_trans (entry l d c r) (leaf ys) v a b = absurd a
start_trans (entry l d c r) end v a b = absurd a
start_trans (entry l d c r) (entry l2 d2 c2 r2) (leaf ys) a b = absurd b
start_trans (entry l d c r) (entry l2 d2 c2 r2) end a b = absurd b
start_trans (entry l d c r) (entry l2 d2 c2 r2) (entry l3 d3 c3 r3) a b = a ∙ b

-- a key below the upper end of a node's range is below where an entry's range ends that it precedes
under_next : (k : Record) (hi : Option Record) (r : Tree) → Follow k hi r → Under hi k
    → Under (next_low hi r) k
under_next k hi (leaf xs) f u = absurd f
under_next k hi end f u = u
under_next k hi (entry low b c r) f u = f.0

upto_under : (k : Record) (hi : Option Record) → Under hi k → Upto (Some k) hi
upto_under k None u = tt
upto_under k (Some h) u = below_not k h u

under_lower : (low k : Record) (hi : Option Record) → is_below low k ≡ true → Under hi k → Under hi low
under_lower low k None l u = tt
under_lower low k (Some h) l u = below_trans low k h l u

child_join : (t u : Tree) → HasEntry t → IsChild (join_rows t u)
child_join (leaf xs) u e = absurd e
child_join end u e = absurd e
child_join (entry low b c r) u e = tt

module _ (key : Record → Record) where
  pub keeps_then : (t u v : Tree) → Keeps key t u → Keeps key u v → Keeps key t v
  keeps_then t u v a b = record {
    start = start_trans t u v a.start b.start;
    is = λ lo hi i. b.is lo hi (a.is lo hi i);
    means = λ lo hi i.
        let m = a.means lo hi i in
        let n = b.means lo hi (a.is lo hi i) in
        record { stored = n.stored ∙ m.stored; waiting = λ q. m.waiting q ∙ n.waiting q };
  }

  -- records in order from a key on are above a record below that key
  above_from : (x k : Record) (hi : Option Record) (ys : List Record) → is_below (key x) k ≡ true
      → AllIn key k hi ys → KeysAbove key (key x) ys
  above_from x k hi [] l a = tt
  above_from x k hi (y ∷ ys) l a = (from_above (key x) k (key y) l a.0.low, above_from x k hi ys l a.1)

  above_join : (k : Record) (xs ys : List Record) → KeysAbove key k xs → KeysAbove key k ys
      → KeysAbove key k (xs ++ ys)
  above_join k [] ys a b = b
  above_join k (x ∷ xs) ys a b = (a.0, above_join k xs ys a.1 b)

  -- Records below a key, and then records from that key on: their keys rise together.
  pub rises_join : (lo k : Record) (hi : Option Record) (xs ys : List Record) → AllIn key lo (Some k) xs
      → RisesByKey key xs → AllIn key k hi ys → RisesByKey key ys → RisesByKey key (xs ++ ys)
  rises_join lo k hi [] ys a r b s = s
  rises_join lo k hi (x ∷ xs) ys a r b s = (
    above_join (key x) xs ys r.0 (above_from x k hi ys a.0.high b),
    rises_join lo k hi xs ys a.1 r.1 b s,
  )

  -- Two leaves become one, with nothing in their entries' buffers.
  pub leaf_fused : (low k : Record) (xs ys : List Record) (r : Tree)
      → Keeps key (entry low [] (leaf xs) (entry k [] (leaf ys) r)) (entry low [] (leaf (xs ++ ys)) r)
  leaf_fused low k xs ys r = record {
    start = refl;
    is = λ lo hi i.
        let top = next_low hi r in
        let up = upto_under k top (under_next k hi r i.4.3 i.3.1) in
        let under = below_not lo k i.3.0 in (
          tt,
          tt,
          (
            all_append key lo top xs ys (all_wider key lo lo (Some k) top xs (below_itself lo) up i.2.0)
                (all_wider key k lo top top ys under (upto_itself top) i.4.2.0),
            rises_join lo k top xs ys i.2.0 i.2.1 i.4.2.0 i.4.2.1,
          ),
          follow_lower k lo hi r under i.4.3,
          rest_from key k lo hi r i.4.3 i.4.4,
        );
    means = λ lo hi i. record {
      stored = append_assoc xs ys (stored_in r);
      waiting = λ q. refl;
    };
  }

  -- Two leaves share their records anew.
  pub leaf_shared : (low k y z : Record) (xs us ys zs : List Record) (r : Tree)
      → xs ++ us ≡ y ∷ ys ++ z ∷ zs
      → Keeps key (entry low [] (leaf xs) (entry k [] (leaf us) r))
      (entry low [] (leaf (y ∷ ys)) (entry (key z) [] (leaf (z ∷ zs)) r))
  leaf_shared low k y z xs us ys zs r e =
      let t = entry low [] (leaf xs) (entry k [] (leaf us) r) in
      let two = entry low [] (leaf (y ∷ ys)) (entry (key z) [] (leaf (z ∷ zs)) r) in
      let P : List Record → Type 0 = λ ws. Keeps key t (entry low [] (leaf ws) r) in
      keeps_then t (entry low [] (leaf (y ∷ ys ++ z ∷ zs)) r) two (subst P e (leaf_fused low k xs us r))
      (leaf_split key low y z ys zs r)

  -- a row below a key, and then entries from that key on, are a row
  join_tree : (t : Tree) (k : Record) (bk : List Record) (ck rk : Tree) (lo : Record) (hi : Option Record)
      → IsRow t → HasEntry t → IsTree key t lo (Some k) → is_below lo k ≡ true → Under hi k
      → IsTree key (entry k bk ck rk) k hi → IsTree key (join_rows t (entry k bk ck rk)) lo hi
  join_tree (leaf xs) k bk ck rk lo hi n e i l u j = absurd n
  join_tree end k bk ck rk lo hi n e i l u j = absurd e
  join_tree (entry low b c (leaf xs)) k bk ck rk lo hi n e i l u j = absurd n
  join_tree (entry low b c end) k bk ck rk lo hi n e i l u j = (i.0, i.1, i.2, (l, u), j)
  join_tree (entry low b c (entry low2 b2 c2 r2)) k bk ck rk lo hi n e i l u j = (
    i.0,
    i.1,
    i.2,
    (i.3.0, under_lower low2 k hi i.3.1 u),
    join_tree (entry low2 b2 c2 r2) k bk ck rk low2 hi n tt i.4 i.3.1 u j,
  )

  -- Two nodes become one, with nothing in their entries' buffers. The first low key of the second node is
  -- that of its entry.
  pub node_fused : (low : Record) (t : Tree) (k : Record) (bk : List Record) (ck rk r : Tree) → IsRow t
      → HasEntry t → Keeps key (entry low [] t (entry k [] (entry k bk ck rk) r))
      (entry low [] (join_rows t (entry k bk ck rk)) r)
  node_fused low t k bk ck rk r n e = let u = entry k bk ck rk in record {
    start = refl;
    is = λ lo hi i.
        let under = below_not lo k i.3.0 in (
          child_join t u e,
          tt,
          join_tree t k bk ck rk lo (next_low hi r) n e i.2 i.3.0 (under_next k hi r i.4.3 i.3.1) i.4.2,
          follow_lower k lo hi r under i.4.3,
          rest_from key k lo hi r i.4.3 i.4.4,
        );
    means = λ lo hi i. record {
      stored = ap (λ zs. zs ++ stored_in r) (stored_join t u n)
          ∙ append_assoc (stored_in t) (stored_in u) (stored_in r);
      waiting = λ q. sym (ap (of_key key q) (ap (λ zs. zs ++ waiting_in r) (append-nil (waiting_in (join_rows t u)))
          ∙ (ap (λ zs. zs ++ waiting_in r) (waiting_join t u n)
          ∙ (append_assoc (waiting_in t) (waiting_in u) (waiting_in r)
          ∙ (ap (λ zs. zs ++ (waiting_in u ++ waiting_in r)) (sym (append-nil (waiting_in t)))
          ∙ ap (λ zs. (waiting_in t ++ []) ++ (zs ++ waiting_in r)) (sym (append-nil (waiting_in u))))))));
    };
  }

  -- The first low key of the second node isn't read: it may be any before.
  pub node_fused_from : (low : Record) (t : Tree) (k first : Record) (bk : List Record) (ck rk r : Tree) → IsRow t
      → HasEntry t → Keeps key (entry low [] t (entry k [] (entry first bk ck rk) r))
      (entry low [] (join_rows t (entry k bk ck rk)) r)
  node_fused_from low t k first bk ck rk r n e =
      let h = node_fused low t k bk ck rk r n e in
      record {
        start = refl;
        is = h.is;
        means = λ lo hi i.
            let m = h.means lo hi i in record { stored = m.stored; waiting = m.waiting };
      }

  -- Two nodes share their entries anew.
  pub node_shared : (low : Record) (t : Tree) (k : Record) (bk : List Record) (ck rk : Tree) (u : Tree)
      (l : Record) (bl : List Record) (cl rl r : Tree) → IsRow t → HasEntry t → IsRow u → HasEntry u
      → join_rows t (entry k bk ck rk) ≡ join_rows u (entry l bl cl rl)
      → Keeps key (entry low [] t (entry k [] (entry k bk ck rk) r))
      (entry low [] u (entry l [] (entry l bl cl rl) r))
  node_shared low t k bk ck rk u l bl cl rl r n e m f same =
      let old = entry low [] t (entry k [] (entry k bk ck rk) r) in
      let new = entry low [] u (entry l [] (entry l bl cl rl) r) in
      let P : Tree → Type 0 = λ x. Keeps key old (entry low [] x r) in
      keeps_then old (entry low [] (join_rows u (entry l bl cl rl)) r) new
      (subst P same (node_fused low t k bk ck rk r n e)) (node_split key low u l bl cl rl r m f)

  -- A node with one entry, with nothing in its buffer, gives way to its child.
  pub given_way : (low : Record) (b : List Record) (first : Record) (c r : Tree)
      → Keeps key (entry low b (entry first [] c end) r) (entry low b c r)
  given_way low b first c r = record {
    start = refl;
    is = λ lo hi i. (i.2.0, i.1, i.2.2, i.3, i.4);
    means = λ lo hi i. record {
      stored = ap (λ zs. zs ++ stored_in r) (sym (append-nil (stored_in c)));
      waiting = λ q. ap (of_key key q) (ap (λ zs. (zs ++ b) ++ waiting_in r)
          (append-nil ((waiting_in c ++ [])) ∙ append-nil (waiting_in c)));
    };
  }
