-- The least records are taken out, and trees in which nothing waits.
use Rattle.std.specs.Prelude.{◌≡◌, true, false, List, [], ◌∷◌, ◌++◌, Option, Some, None, IfSome}
use Rattle.std.proofs.Common.{sym, ap, subst, ◌∙◌, refl, append_assoc, ⊎_elim}
use Rattle.std.proofs.lemmas.Bool.{cases_Bool, cond-true, cond-false}
use Rattle.std.proofs.lemmas.List.{append-nil}
use Rattle.em_record.specs.declared.record.Record.{Record}
use Rattle.em_record.specs.Order.{is_below}
use Rattle.em_record.proofs.Order.{below_ranks}
use Rattle.em_settle.specs.declared.step.Step.{Step}
use Rattle.em_settle.specs.States.{stored_after}
use Rattle.em_settle.specs.Keys.{has_key, of_key, record_at}
use Rattle.em_settle.specs.States.{answers_to}
use Rattle.em_settle.specs.Rising.{KeysAbove, RisesByKey}
use Rattle.em_settle.proofs.Keys.{key_is, of_key_append, below_itself}
use Rattle.em_settle.proofs.States.{left_at}
use Rattle.em_settle.proofs.Lists.{list_after, none_above}
use Rattle.em_tree_model.specs.Tree.{Tree, stored_in, waiting_in, IsChild, first_leaf, over_first, with_first_leaf}
use Rattle.em_tree_model.specs.Tree.Tree.{leaf, end, entry}
use Rattle.em_tree_model.specs.Ranges.{Under, InRange, AllIn, next_low, low_of, Follow, IsTree, first_end}
use Rattle.em_tree_model.specs.Owed.{owed}
use Rattle.em_tree_model.specs.Meaning.{settled_contents, Settles}
use Rattle.em_tree_model.proofs.Ranges.{Upto, under_wider, upto_next, upto_itself, all_wider, all_first, all_last, none_over, record_append, stored_range, waiting_range}
use Rattle.em_tree_model.proofs.Loads.{Loaded, above_from}
use Rattle.em_tree_model.proofs.Splits.{rises_first, rises_last}

none_found : (y : Record) → None ≡ Some y → ⊥
none_found y e = cc

upto_chain : (f g h : Record) → is_below g f ≡ false → is_below h g ≡ false → is_below h f ≡ false
upto_chain f g h a b = below_ranks.chain h g f b a

module _ (key : Record → Record) where
  above_append : (k : Record) (xs ys : List Record) → KeysAbove key k xs → KeysAbove key k ys
      → KeysAbove key k (xs ++ ys)
  above_append k [] ys a b = b
  above_append k (x ∷ xs) ys a b = (a.0, above_append k xs ys a.1 b)

  rises_append : (lo m : Record) (hi : Option Record) (xs ys : List Record) → AllIn key lo (Some m) xs
      → AllIn key m hi ys → RisesByKey key xs → RisesByKey key ys → RisesByKey key (xs ++ ys)
  rises_append lo m hi [] ys a b r s = s
  rises_append lo m hi (x ∷ xs) ys a b r s = (
    above_append (key x) xs ys r.0 (above_from key m (key x) hi ys a.0.high b),
    rises_append lo m hi xs ys a.1 b r.1 s,
  )

  rises_row : (lo : Record) (hi : Option Record) (xs : List Record) (r : Tree) → Follow lo hi r
      → AllIn key lo (next_low hi r) xs → IsTree key r (low_of lo r) hi → RisesByKey key xs
      → RisesByKey key (stored_in r) → RisesByKey key (xs ++ stored_in r)
  rises_row lo hi xs (leaf ys) f a i r s = absurd f
  rises_row lo hi xs end f a i r s =
      let P : List Record → Type 0 = RisesByKey key in subst P (sym (append-nil xs)) r
  rises_row lo hi xs (entry low b c r2) f a i r s = rises_append lo low hi xs
      (stored_in (entry low b c r2)) a (stored_range key (entry low b c r2) low hi i) r s

  -- The leaves, one after another, have one record per key, in order.
  pub stored_rises : (t : Tree) (lo : Record) (hi : Option Record) → IsTree key t lo hi
      → RisesByKey key (stored_in t)
  stored_rises (leaf xs) lo hi i = i.1
  stored_rises end lo hi i = tt
  stored_rises (entry low b c r) lo hi i = rises_row lo hi (stored_in c) r i.3
      (stored_range key c lo (next_low hi r) i.2) i.4 (stored_rises c lo (next_low hi r) i.2)
      (stored_rises r (low_of lo r) hi i.4)

  module _ (step : Option Record → Record → Step) where
    -- If no operation waits, the contents are the leaves, and no answer is owed.
    pub settled : (t : Tree) (q : Record) → waiting_in t ≡ []
        → settled_contents key step t q ≡ record_at key (stored_in t) q
    settled t q e = left_at key step (record_at key (stored_in t)) (waiting_in t) q
        ∙ ap (λ ops. stored_after step (record_at key (stored_in t) q) (of_key key q ops)) e

    pub nothing_owed : (t : Tree) → waiting_in t ≡ [] → owed key step t ≡ []
    nothing_owed t e = ap (answers_to key step (record_at key (stored_in t))) e

    -- A key for which none waits has its stored record.
    pub settled_at : (t : Tree) (q : Record) → of_key key q (waiting_in t) ≡ []
        → settled_contents key step t q ≡ record_at key (stored_in t) q
    settled_at t q e = left_at key step (record_at key (stored_in t)) (waiting_in t) q
        ∙ ap (stored_after step (record_at key (stored_in t) q)) e

    -- What was loaded was settled.
    pub load_settles : (keeps_key : (old : Option Record) (op new : Record)
        → IfSome old (λ r. key r ≡ key op) → (step old op).stored ≡ Some new → key new ≡ key op)
        → (t u : Tree) (ops : List Record) (lo : Record) (hi : Option Record) → IsTree key t lo hi
        → Loaded key step keeps_key t u ops lo hi → Settles key step t u ops
    load_settles keeps_key t u ops lo hi i m = record {
      stored = λ q. ap (λ zs. record_at key zs q) m.stored
          ∙ list_after key step keeps_key (stored_in t) ops q (stored_rises t lo hi i);
      waiting = m.waiting;
    }

  -- The first records of the leftmost leaf were taken out.
  pub record Taken (t u : Tree) (ys : List Record) (lo : Record) (hi : Option Record) : Type 0 where
    pub is : IsTree key u lo hi
    pub some : IsChild u
    pub stored : stored_in t ≡ ys ++ stored_in u
    pub waiting : waiting_in u ≡ waiting_in t

  pub taken : (t : Tree) (ys zs : List Record) (lo : Record) (hi : Option Record) → IsChild t
      → IsTree key t lo hi → first_leaf t ≡ ys ++ zs → Taken t (with_first_leaf t zs) ys lo hi
  taken (leaf xs) ys zs lo hi n i e =
      let P : List Record → Type 0 = λ ws. AllIn key lo hi ws × RisesByKey key ws in
      let j = subst P e i in
      record { is = (all_last key lo hi ys zs j.0, rises_last key ys zs j.1); some = tt; stored = e; waiting = refl }
  taken end ys zs lo hi n i e = absurd n
  taken (entry low b c r) ys zs lo hi n i e =
      let m = taken c ys zs lo (next_low hi r) i.0 i.2 e in
      record {
        is = (m.some, i.1, m.is, i.3, i.4);
        some = tt;
        stored = ap (λ ws. ws ++ stored_in r) m.stored
            ∙ append_assoc ys (stored_in (with_first_leaf c zs)) (stored_in r);
        waiting = ap (λ ws. (ws ++ b) ++ waiting_in r) m.waiting;
      }

  upto_trans : (f g h : Option Record) → Upto f g → Upto g h → Upto f h
  upto_trans f g None a b = tt
  upto_trans f None (Some h) a b = absurd b
  upto_trans None (Some g) (Some h) a b = absurd a
  upto_trans (Some f) (Some g) (Some h) a b = upto_chain f g h a b

  end_upto : (t : Tree) (lo : Record) (hi : Option Record) → IsTree key t lo hi
      → Upto (first_end hi t) hi
  end_upto (leaf xs) lo hi i = upto_itself hi
  end_upto end lo hi i = upto_itself hi
  end_upto (entry low b c r) lo hi i = upto_trans (first_end (next_low hi r) c) (next_low hi r) hi
      (end_upto c lo (next_low hi r) i.2) (upto_next lo hi r i.3)

  pub first_range : (t : Tree) (lo : Record) (hi : Option Record) → IsTree key t lo hi
      → AllIn key lo (first_end hi t) (first_leaf t)
  first_range (leaf xs) lo hi i = i.0
  first_range end lo hi i = tt
  first_range (entry low b c r) lo hi i = first_range c lo (next_low hi r) i.2

  none_past : (q lo : Record) (hi : Option Record) (r : Tree) → Follow lo hi r
      → IsTree key r (low_of lo r) hi → Under (next_low hi r) q → of_key key q (waiting_in r) ≡ []
  none_past q lo hi (leaf xs) f i u = absurd f
  none_past q lo hi end f i u = refl
  none_past q lo hi (entry low b c r) f i u = none_over key low hi q
      (waiting_in (entry low b c r)) (waiting_range key (entry low b c r) low hi i) u

  -- What waits for a key of the leftmost leaf is over that leaf.
  pub first_waiting : (t : Tree) (q lo : Record) (hi : Option Record) → IsTree key t lo hi
      → InRange lo (first_end hi t) q → of_key key q (waiting_in t) ≡ of_key key q (over_first t)
  first_waiting (leaf xs) q lo hi i h = refl
  first_waiting end q lo hi i h = refl
  first_waiting (entry low b c r) q lo hi i h =
      let top = next_low hi r in
      of_key_append key q (waiting_in c ++ b) (waiting_in r)
      ∙ (ap (λ zs. of_key key q (waiting_in c ++ b) ++ zs)
      (none_past q lo hi r i.3 i.4 (under_wider (first_end top c) top q (end_upto c lo top i.2) h.high))
      ∙ (append-nil (of_key key q (waiting_in c ++ b))
      ∙ (of_key_append key q (waiting_in c) b
      ∙ (ap (λ zs. zs ++ of_key key q b) (first_waiting c q lo top i.2 h)
      ∙ sym (of_key_append key q (over_first c) b)))))

  -- the key of a record that is found is in the range
  found_in : (lo : Record) (hi : Option Record) (q y : Record) (xs : List Record) → AllIn key lo hi xs
      → record_at key xs q ≡ Some y → InRange lo hi q
  found_in lo hi q y [] a e = absurd (none_found y e)
  found_in lo hi q y (x ∷ xs) a e = ⊎_elim
      (λ (t : has_key key q x ≡ true).
      let P : Record → Type 0 = InRange lo hi in subst P (key_is key q x t) a.0)
      (λ (f : has_key key q x ≡ false). found_in lo hi q y xs a.1 (sym (cond-false _ _ _ f) ∙ e))
      (cases_Bool (has_key key q x))

  -- and is above the records before
  found_above : (k q y : Record) (xs : List Record) → KeysAbove key k xs → record_at key xs q ≡ Some y
      → is_below k q ≡ true
  found_above k q y [] a e = absurd (none_found y e)
  found_above k q y (x ∷ xs) a e = ⊎_elim
      (λ (t : has_key key q x ≡ true).
      let P : Record → Type 0 = λ j. is_below k j ≡ true in subst P (key_is key q x t) a.0)
      (λ (f : has_key key q x ≡ false). found_above k q y xs a.1 (sym (cond-false _ _ _ f) ∙ e))
      (cases_Bool (has_key key q x))

  above_past : (k : Record) (xs ys : List Record) → KeysAbove key k (xs ++ ys) → KeysAbove key k ys
  above_past k [] ys a = a
  above_past k (x ∷ xs) ys a = above_past k xs ys a.1

  -- a record of the first part isn't in the second
  found_once : (q y : Record) (xs ys : List Record) → RisesByKey key (xs ++ ys)
      → record_at key xs q ≡ Some y → record_at key ys q ≡ None
  found_once q y [] ys r e = absurd (none_found y e)
  found_once q y (x ∷ xs) ys r e = ⊎_elim
      (λ (t : has_key key q x ≡ true).
      let P : Record → Type 0 = λ k. record_at key ys k ≡ None in
      subst P (key_is key q x t) (none_above key (key x) ys (above_past (key x) xs ys r.0)))
      (λ (f : has_key key q x ≡ false). found_once q y xs ys r.1 (sym (cond-false _ _ _ f) ∙ e))
      (cases_Bool (has_key key q x))

  found_first : (q y : Record) (xs ys : List Record) → record_at key xs q ≡ Some y
      → record_at key (xs ++ ys) q ≡ Some y
  found_first q y [] ys e = absurd (none_found y e)
  found_first q y (x ∷ xs) ys e = ⊎_elim
      (λ (t : has_key key q x ≡ true). cond-true _ _ _ t ∙ (sym (cond-true _ _ _ t) ∙ e))
      (λ (f : has_key key q x ≡ false).
      cond-false _ _ _ f ∙ found_first q y xs ys (sym (cond-false _ _ _ f) ∙ e))
      (cases_Bool (has_key key q x))

  all_found : (lo : Record) (hi : Option Record) (q y : Record) (xs ys : List Record)
      → AllIn key lo hi xs → RisesByKey key (xs ++ ys) → record_at key ys q ≡ Some y
      → AllIn key lo (Some q) xs
  all_found lo hi q y [] ys a r e = tt
  all_found lo hi q y (x ∷ xs) ys a r e = (
    record { low = a.0.low; high = found_above (key x) q y ys (above_past (key x) xs ys r.0) e },
    all_found lo hi q y xs ys a.1 r.1 e,
  )

  least_by : (q : Record) (f : Option Record) (lo : Record) (ys : List Record) → AllIn key lo f ys
      → is_below q lo ≡ false → (InRange lo f q → AllIn key lo (Some q) ys) → AllIn key lo (Some q) ys
  least_by q None lo ys a l h = h (record { low = l; high = tt })
  least_by q (Some g) lo ys a l h = ⊎_elim
      (λ (t : is_below q g ≡ true). h (record { low = l; high = t }))
      (λ (k : is_below q g ≡ false). all_wider key lo lo (Some g) (Some q) ys (below_itself lo) k a)
      (cases_Bool (is_below q g))

  -- What is taken out, if nothing waits over the leftmost leaf.
  pub record Takes (step : Option Record → Record → Step) (t u : Tree) (ys : List Record) (lo : Record)
      (hi : Option Record) : Type 0 where
    -- the records that were taken were contents, and no operation of their keys waits
    pub given : (q y : Record) → record_at key ys q ≡ Some y → (settled_contents key step t q ≡ Some y)
        × (settled_contents key step u q ≡ None) × (of_key key q (waiting_in u) ≡ [])
    -- other keys have what they had
    pub others : (q : Record) → record_at key ys q ≡ None → settled_contents key step u q ≡ settled_contents key step t q
    -- and are above all that were taken
    pub least : (q y : Record) → InRange lo hi q → settled_contents key step u q ≡ Some y
        → AllIn key lo (Some q) ys
    pub rises : RisesByKey key ys

  pub takes : (step : Option Record → Record → Step) (t : Tree) (ys zs : List Record) (lo : Record)
      (hi : Option Record) → IsChild t → IsTree key t lo hi → first_leaf t ≡ ys ++ zs → over_first t ≡ []
      → Takes step t (with_first_leaf t zs) ys lo hi
  takes step t ys zs lo hi n i e o =
      let u = with_first_leaf t zs in
      let m = taken t ys zs lo hi n i e in
      let P : List Record → Type 0 = AllIn key lo (first_end hi t) in
      let all : AllIn key lo (first_end hi t) ys = all_first key lo (first_end hi t) ys zs
      (subst P e (first_range t lo hi i)) in
      let R : List Record → Type 0 = RisesByKey key in
      let up : RisesByKey key (ys ++ stored_in u) = subst R m.stored (stored_rises t lo hi i) in
      let none : (q : Record) → InRange lo (first_end hi t) q → of_key key q (waiting_in t) ≡ [] =
      λ q h. first_waiting t q lo hi i h ∙ ap (of_key key q) o in
      let none_left : (q : Record) → InRange lo (first_end hi t) q → of_key key q (waiting_in u) ≡ [] =
      λ q h. ap (of_key key q) m.waiting ∙ none q h in
      record {
        given = λ q y f.
            let h = found_in lo (first_end hi t) q y ys all f in (
              settled_at step t q (none q h) ∙ (ap (λ ws. record_at key ws q) m.stored
                  ∙ found_first q y ys (stored_in u) f),
              settled_at step u q (none_left q h) ∙ found_once q y ys (stored_in u) up f,
              none_left q h,
            );
        others = λ q f.
            left_at key step (record_at key (stored_in u)) (waiting_in u) q
            ∙ (ap (λ s. stored_after step s (of_key key q (waiting_in u)))
            (sym (record_append key ys (stored_in u) q f) ∙ ap (λ ws. record_at key ws q) (sym m.stored))
            ∙ (ap (λ ws. stored_after step (record_at key (stored_in t) q) (of_key key q ws)) m.waiting
            ∙ sym (left_at key step (record_at key (stored_in t)) (waiting_in t) q)));
        least = λ q y h f. least_by q (first_end hi t) lo ys all h.low
            (λ k. all_found lo (first_end hi t) q y ys (stored_in u) all up
            (sym (settled_at step u q (none_left q k)) ∙ f));
        rises = rises_first key ys (stored_in u) up;
      }
