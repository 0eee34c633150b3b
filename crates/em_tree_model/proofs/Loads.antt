-- A load of operations is folded over the stored records of a leaf.
use Rattle.std.specs.Prelude.{◌≡◌, true, false, List, [], ◌∷◌, ◌++◌, Option, Some, None, IfSome, option_to_list}
use Rattle.std.proofs.Common.{sym, ap, subst, ◌∙◌, refl, append_assoc, ⊎_elim}
use Rattle.std.proofs.lemmas.Bool.{cases_Bool, false≢true, cond-true, cond-false}
use Rattle.std.proofs.lemmas.List.{append-nil}
use Rattle.em_record.specs.declared.record.Record.{Record}
use Rattle.em_record.specs.Order.{is_below}
use Rattle.em_settle.specs.declared.step.Step.{Step}
use Rattle.em_settle.specs.Keys.{has_key, of_key, SameByKey}
use Rattle.em_settle.specs.Rising.{KeysAbove}
use Rattle.em_settle.specs.Lists.{list_with_op, list_with_ops}
use Rattle.em_settle.proofs.Keys.{key_is, other_key, own_key, of_key_append, first_of_key, below_itself}
use Rattle.em_settle.proofs.States.{begins, same_rest}
use Rattle.em_settle.proofs.Lists.{list_rises_after, left_key}
use Rattle.em_tree_model.specs.Tree.{Tree, stored_in, waiting_in, HasEntry}
use Rattle.em_tree_model.specs.Tree.Tree.{leaf, end, entry}
use Rattle.em_tree_model.specs.Ranges.{InRange, AllIn, next_low, low_of, Follow, IsTree}
use Rattle.em_tree_model.specs.Places.{Place, put_at, SameStart}
use Rattle.em_tree_model.specs.Places.Place.{here, under, past}
use Rattle.em_tree_model.proofs.Places.{has_put, next_same, low_same, follow_same, some_same, start_put}
use Rattle.em_tree_model.proofs.Ranges.{from_above, below_not, upto_next, low_next, upto_itself, all_wider, all_append, all_first, all_last, none_under, none_over, stored_range, waiting_range}
use Rattle.em_tree_model.proofs.Pouring.{same_append}

module _ (key : Record → Record) where
  -- records of the same keys are in the same range
  pub all_same : (lo : Record) (hi : Option Record) (xs ys : List Record) → SameByKey key xs ys
      → AllIn key lo hi xs → AllIn key lo hi ys
  all_same lo hi xs [] h a = tt
  all_same lo hi xs (y ∷ ys) h a =
      let b = begins key y (of_key key (key y) ys) xs
      (sym (first_of_key key (key y) y ys (own_key key y)) ∙ sym (h (key y))) in
      let P : List Record → Type 0 = AllIn key lo hi in
      let all : AllIn key lo hi (b.front ++ y ∷ b.back) = subst P b.is a in
      let tail = all_last key lo hi b.front (y ∷ b.back) all in
      let back : SameByKey key (y ∷ ys) (b.front ++ y ∷ b.back) =
      λ q. sym (h q) ∙ ap (of_key key q) b.is in (
        tail.0,
        all_same lo hi (b.front ++ b.back) ys
            (λ q. sym (same_rest key y ys b.front b.back back b.none q))
            (all_append key lo hi b.front b.back (all_first key lo hi b.front (y ∷ b.back) all) tail.1),
      )

  pub above_from : (m k : Record) (hi : Option Record) (zs : List Record)
      → is_below k m ≡ true → AllIn key m hi zs → KeysAbove key k zs
  above_from m k hi [] h a = tt
  above_from m k hi (z ∷ zs) h a = (from_above k m (key z) h a.0.low, above_from m k hi zs h a.1)

  -- operations of different ranges change places
  pub ranges_past : (lo m : Record) (hi : Option Record) (xs ys : List Record)
      → AllIn key lo (Some m) xs → AllIn key m hi ys → SameByKey key (xs ++ ys) (ys ++ xs)
  ranges_past lo m hi xs ys a b q = of_key_append key q xs ys ∙ (⊎_elim
      (λ (t : is_below q m ≡ true).
      let none = none_over key m hi q ys b t in
      ap (λ zs. of_key key q xs ++ zs) none ∙ (append-nil (of_key key q xs)
      ∙ ap (λ zs. zs ++ of_key key q xs) (sym none)))
      (λ (f : is_below q m ≡ false).
      let none = none_under key lo m q xs a f in
      ap (λ zs. zs ++ of_key key q ys) none ∙ (sym (append-nil (of_key key q ys))
      ∙ ap (λ zs. of_key key q ys ++ zs) (sym none)))
      (cases_Bool (is_below q m)) ∙ sym (of_key_append key q ys xs))

  module _ (step : Option Record → Record → Step)
      (keeps_key : (old : Option Record) (op new : Record) → IfSome old (λ r. key r ≡ key op)
      → (step old op).stored ≡ Some new → key new ≡ key op) where
    some_in : (lo : Record) (hi : Option Record) (k : Record) (s : Option Record)
        → IfSome s (λ r. key r ≡ k) → InRange lo hi k → AllIn key lo hi (option_to_list s)
    some_in lo hi k None e h = tt
    some_in lo hi k (Some r) e h = let P : Record → Type 0 = InRange lo hi in (subst P (sym e) h, tt)

    -- what an operation of the range leaves is in the range
    list_in : (lo : Record) (hi : Option Record) (xs : List Record) (op : Record) → AllIn key lo hi xs
        → InRange lo hi (key op) → AllIn key lo hi (list_with_op key step xs op)
    list_in lo hi [] op a h = some_in lo hi (key op) (step None op).stored
        (left_key key step keeps_key None op tt (step None op).stored refl) h
    list_in lo hi (x ∷ xs) op a h =
        let P : List Record → Type 0 = AllIn key lo hi in ⊎_elim
        (λ (t : is_below (key x) (key op) ≡ true).
        subst P (sym (cond-true _ _ _ t)) (a.0, list_in lo hi xs op a.1 h))
        (λ (f : is_below (key x) (key op) ≡ false). subst P (sym (cond-false _ _ _ f)) (⊎_elim
        (λ (t : has_key key (key op) x ≡ true). subst P (sym (cond-true _ _ _ t))
        (all_append key lo hi (option_to_list (step (Some x) op).stored) xs
        (some_in lo hi (key op) (step (Some x) op).stored
        (left_key key step keeps_key (Some x) op (key_is key (key op) x t) (step (Some x) op).stored refl) h) a.1))
        (λ (g : has_key key (key op) x ≡ false). subst P (sym (cond-false _ _ _ g))
        (all_append key lo hi (option_to_list (step None op).stored) (x ∷ xs)
        (some_in lo hi (key op) (step None op).stored
        (left_key key step keeps_key None op tt (step None op).stored refl) h) a))
        (cases_Bool (has_key key (key op) x))))
        (cases_Bool (is_below (key x) (key op)))

    pub list_in_after : (lo : Record) (hi : Option Record) (xs ops : List Record) → AllIn key lo hi xs
        → AllIn key lo hi ops → AllIn key lo hi (list_with_ops key step xs ops)
    list_in_after lo hi xs [] a h = a
    list_in_after lo hi xs (op ∷ ops) a h =
        list_in_after lo hi (list_with_op key step xs op) ops (list_in lo hi xs op a h.0) h.1

    -- if all records are above an operation, what it leaves comes first
    op_least : (op : Record) (zs : List Record) → KeysAbove key (key op) zs
        → list_with_op key step zs op ≡ option_to_list (step None op).stored ++ zs
    op_least op [] a = sym (append-nil (option_to_list (step None op).stored))
    op_least op (z ∷ zs) a =
        cond-false _ _ _ (below_not (key op) (key z) a.0)
        ∙ cond-false _ _ _ (other_key key (key op) z (λ e.
        false≢true (sym (below_itself (key op)) ∙ (ap (is_below (key op)) (sym e) ∙ a.0))))

    op_before : (xs zs : List Record) (op : Record) → KeysAbove key (key op) zs
        → list_with_op key step (xs ++ zs) op ≡ list_with_op key step xs op ++ zs
    op_before [] zs op a = op_least op zs a
    op_before (x ∷ xs) zs op a = ⊎_elim
        (λ (t : is_below (key x) (key op) ≡ true).
        cond-true _ _ _ t ∙ (ap (λ ys. x ∷ ys) (op_before xs zs op a)
        ∙ ap (λ ys. ys ++ zs) (sym (cond-true _ _ _ t))))
        (λ (f : is_below (key x) (key op) ≡ false).
        cond-false _ _ _ f ∙ (⊎_elim
        (λ (t : has_key key (key op) x ≡ true).
        cond-true _ _ _ t ∙ (sym (append_assoc (option_to_list (step (Some x) op).stored) xs zs)
        ∙ ap (λ ys. ys ++ zs) (sym (cond-true _ _ _ t))))
        (λ (g : has_key key (key op) x ≡ false).
        cond-false _ _ _ g ∙ (sym (append_assoc (option_to_list (step None op).stored) (x ∷ xs) zs)
        ∙ ap (λ ys. ys ++ zs) (sym (cond-false _ _ _ g))))
        (cases_Bool (has_key key (key op) x))
        ∙ ap (λ ys. ys ++ zs) (sym (cond-false _ _ _ f))))
        (cases_Bool (is_below (key x) (key op)))

    op_past : (lo m : Record) (hi : Option Record) (xs zs : List Record) (op : Record)
        → AllIn key lo (Some m) xs → InRange m hi (key op)
        → list_with_op key step (xs ++ zs) op ≡ xs ++ list_with_op key step zs op
    op_past lo m hi [] zs op a h = refl
    op_past lo m hi (x ∷ xs) zs op a h =
        cond-true _ _ _ (from_above (key x) m (key op) a.0.high h.low)
        ∙ ap (λ ys. x ∷ ys) (op_past lo m hi xs zs op a.1 h)

    -- Operations of a range change the records of that range alone.
    pub ops_before : (lo m : Record) (hi : Option Record) (xs zs ops : List Record)
        → AllIn key lo (Some m) ops → AllIn key m hi zs
        → list_with_ops key step (xs ++ zs) ops ≡ list_with_ops key step xs ops ++ zs
    ops_before lo m hi xs zs [] a b = refl
    ops_before lo m hi xs zs (op ∷ ops) a b =
        ap (λ ys. list_with_ops key step ys ops)
        (op_before xs zs op (above_from m (key op) hi zs a.0.high b))
        ∙ ops_before lo m hi (list_with_op key step xs op) zs ops a.1 b

    pub ops_past : (lo m : Record) (hi : Option Record) (xs zs ops : List Record)
        → AllIn key lo (Some m) xs → AllIn key m hi ops
        → list_with_ops key step (xs ++ zs) ops ≡ xs ++ list_with_ops key step zs ops
    ops_past lo m hi xs zs [] a b = refl
    ops_past lo m hi xs zs (op ∷ ops) a b =
        ap (λ ys. list_with_ops key step ys ops) (op_past lo m hi xs zs op a b.0)
        ∙ ops_past lo m hi xs (list_with_op key step zs op) ops a b.1

    -- the records of the entries after them stay
    row_past : (lo : Record) (hi : Option Record) (xs ops : List Record) (r : Tree) → Follow lo hi r
        → AllIn key lo (next_low hi r) ops → IsTree key r (low_of lo r) hi
        → list_with_ops key step (xs ++ stored_in r) ops
        ≡ list_with_ops key step xs ops ++ stored_in r
    row_past lo hi xs ops (leaf zs) f a i = absurd f
    row_past lo hi xs ops end f a i =
        ap (λ ys. list_with_ops key step ys ops) (append-nil xs)
        ∙ sym (append-nil (list_with_ops key step xs ops))
    row_past lo hi xs ops (entry low b c r) f a i =
        ops_before lo low hi xs (stored_in (entry low b c r)) ops a
        (stored_range key (entry low b c r) low hi i)

    -- and those of the entries before
    before_row : (lo : Record) (hi : Option Record) (c r : Tree) (ops : List Record) → HasEntry r
        → IsTree key c lo (next_low hi r) → AllIn key (low_of lo r) hi ops
        → list_with_ops key step (stored_in c ++ stored_in r) ops
        ≡ stored_in c ++ list_with_ops key step (stored_in r) ops
    before_row lo hi c (leaf xs) ops n i a = absurd n
    before_row lo hi c end ops n i a = absurd n
    before_row lo hi c (entry low b2 c2 r2) ops n i a =
        ops_past lo low hi (stored_in c) (stored_in (entry low b2 c2 r2)) ops
        (stored_range key c lo (Some low) i) a

    past_row : (lo : Record) (hi : Option Record) (xs : List Record) (r : Tree) (ops : List Record)
        → HasEntry r → AllIn key lo (next_low hi r) xs → AllIn key (low_of lo r) hi ops
        → SameByKey key (xs ++ ops) (ops ++ xs)
    past_row lo hi xs (leaf ys) ops n i a = absurd n
    past_row lo hi xs end ops n i a = absurd n
    past_row lo hi xs (entry low b2 c2 r2) ops n i a = ranges_past lo low hi xs ops i a

    -- Operations were taken out of the buffers of a tree and folded over its stored records.
    pub record Loaded (t u : Tree) (ops : List Record) (lo : Record) (hi : Option Record) : Type 0 where
      pub within : AllIn key lo hi ops
      pub is : IsTree key u lo hi
      pub stored : stored_in u ≡ list_with_ops key step (stored_in t) ops
      pub waiting : SameByKey key (waiting_in t) (ops ++ waiting_in u)

    -- The first operations of a leaf's buffer, in whatever order keeps those of each key.
    pub loaded : (low : Record) (load rest sorted xs : List Record) (r : Tree) (lo : Record)
        (hi : Option Record) → SameByKey key load sorted
        → IsTree key (entry low (load ++ rest) (leaf xs) r) lo hi
        → Loaded (entry low (load ++ rest) (leaf xs) r)
        (entry low rest (leaf (list_with_ops key step xs sorted)) r) sorted lo hi
    loaded low load rest sorted xs r lo hi same i =
        let top = next_low hi r in
        let ops : AllIn key lo top sorted = all_same lo top load sorted same
        (all_first key lo top load rest i.1) in
        record {
          within = all_wider key lo lo top hi sorted (below_itself lo) (upto_next lo hi r i.3) ops;
          is = (
            tt,
            all_last key lo top load rest i.1,
            (
              list_in_after lo top xs sorted i.2.0 ops,
              list_rises_after key step keeps_key xs sorted i.2.1,
            ),
            i.3,
            i.4,
          );
          stored = sym (row_past lo hi xs sorted r i.3 ops i.4);
          waiting = λ q. ap (of_key key q) (append_assoc load rest (waiting_in r))
              ∙ same_append key load sorted (rest ++ waiting_in r) (rest ++ waiting_in r) same
              (λ p. refl) q;
        }

    -- What was loaded at a place was loaded in the whole tree.
    pub loaded_put : (p : Place) (t u : Tree) (ops : List Record) → HasEntry t → SameStart t u
        → ((lo : Record) (hi : Option Record) → IsTree key t lo hi → Loaded t u ops lo hi)
        → (lo : Record) (hi : Option Record) → IsTree key (put_at p t) lo hi
        → Loaded (put_at p t) (put_at p u) ops lo hi
    loaded_put here t u ops n s h lo hi i = h lo hi i
    loaded_put (under low b r p) t u ops n s h lo hi i =
        let x = put_at p t in
        let y = put_at p u in
        let top = next_low hi r in
        let m = loaded_put p t u ops n s h lo top i.2 in
        record {
          within = all_wider key lo lo top hi ops (below_itself lo) (upto_next lo hi r i.3) m.within;
          is = (some_same x y (start_put p t u s) i.0, i.1, m.is, i.3, i.4);
          stored = ap (λ zs. zs ++ stored_in r) m.stored
              ∙ sym (row_past lo hi (stored_in x) ops r i.3 m.within i.4);
          waiting = λ q. same_append key (waiting_in x ++ b) (ops ++ (waiting_in y ++ b))
              (waiting_in r) (waiting_in r)
              (λ k. same_append key (waiting_in x) (ops ++ waiting_in y) b b m.waiting (λ j. refl) k
              ∙ ap (of_key key k) (append_assoc ops (waiting_in y) b))
              (λ k. refl) q
              ∙ ap (of_key key q) (append_assoc ops (waiting_in y ++ b) (waiting_in r));
        }
    loaded_put (past low b c p) t u ops n s h lo hi i =
        let x = put_at p t in
        let y = put_at p u in
        let z = start_put p t u s in
        let m = loaded_put p t u ops n s h (low_of lo x) hi i.4 in
        let e = next_same hi x y z in
        let P : Option Record → Type 0 = λ top. AllIn key lo top b in
        let Q : Option Record → Type 0 = λ top. IsTree key c lo top in
        let R : Record → Type 0 = λ l. IsTree key y l hi in
        let w = waiting_in c ++ b in
        let all : AllIn key lo (next_low hi x) w =
        all_append key lo (next_low hi x) (waiting_in c) b (waiting_range key c lo (next_low hi x) i.2) i.1 in
        record {
          within = all_wider key (low_of lo x) lo hi hi ops (low_next lo hi x i.3) (upto_itself hi) m.within;
          is = (
            i.0,
            subst P e i.1,
            subst Q e i.2,
            follow_same lo hi x y z i.3,
            subst R (low_same lo x y z) m.is,
          );
          stored = ap (λ zs. stored_in c ++ zs) m.stored
              ∙ sym (before_row lo hi c x ops (has_put p t n) i.2 m.within);
          waiting = λ q. same_append key w w (waiting_in x) (ops ++ waiting_in y) (λ k. refl) m.waiting q
              ∙ (ap (of_key key q) (sym (append_assoc w ops (waiting_in y)))
              ∙ (same_append key (w ++ ops) (ops ++ w) (waiting_in y) (waiting_in y)
              (past_row lo hi w x ops (has_put p t n) all m.within) (λ k. refl) q
              ∙ ap (of_key key q) (append_assoc ops w (waiting_in y))));
        }
