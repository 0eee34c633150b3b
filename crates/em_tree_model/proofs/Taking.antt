-- Records are taken out of a tree, more than once: the tree that is left, and what was taken.
use Rattle.std.specs.Prelude.{◌≡◌, true, false, List, [], ◌∷◌, ◌++◌, Option, Some, None}
use Rattle.std.proofs.Common.{sym, ap, subst, ◌∙◌, refl, ⊎_elim}
use Rattle.std.proofs.lemmas.Bool.{cases_Bool, false≢true, cond-true, cond-false}
use Rattle.std.proofs.lemmas.List.{append-nil}
use Rattle.std.proofs.lemmas.List.Sorted.{IsPermutation-refl}
use Rattle.em_record.specs.declared.record.Record.{Record}
use Rattle.em_record.specs.Order.{AtLeast, IsAscending, is_below}
use Rattle.em_record.proofs.Order.{below_ranks}
use Rattle.em_settle.specs.declared.step.Step.{Step}
use Rattle.em_settle.specs.Keys.{has_key, of_key, record_at}
use Rattle.em_settle.specs.Rising.{KeysAbove, RisesByKey}
use Rattle.em_settle.specs.States.{Stored}
use Rattle.em_settle.proofs.Keys.{below_itself, own_key}
use Rattle.em_settle.proofs.States.{cons_not_nil}
use Rattle.em_tree_model.specs.Meaning.{Advances, InTurn, Represents, TakesOut, tree_answers, tree_contents, unless_taken, without}
use Rattle.em_tree_model.specs.Ranges.{AllIn, IsTree, least_record}
use Rattle.em_tree_model.specs.Taking.{HasContents, LeavesTaken, TakesFirst}
use Rattle.em_tree_model.specs.Tree.{Tree, IsChild, first_leaf, over_first, waiting_at, waiting_in, with_first_leaf}
use Rattle.em_tree_model.proofs.Advances.{advances_first, advances_then}
use Rattle.em_tree_model.proofs.Least.{holds_take, takes_out}
use Rattle.em_tree_model.proofs.Loads.{above_from}
use Rattle.em_tree_model.proofs.Paths.{on_path}
use Rattle.em_tree_model.proofs.Ranges.{all_append, below_not, record_append}
use Rattle.em_tree_model.proofs.RowPlaces.{all_keys}

some_not_none : (x : Record) → Some x ≡ None → ⊥
some_not_none x e = cc

-- nothing was taken of an empty option
unless_none : (o : Option Record) → unless_taken o None ≡ None
unless_none None = refl
unless_none (Some y) = refl

-- what is there without what was taken was there
kept_by : (o old : Option Record) (y : Record) → unless_taken o old ≡ Some y → old ≡ Some y
kept_by None old y e = e
kept_by (Some z) old y e = absurd (some_not_none y (sym e))

-- the last part of an empty list is empty
last_nil : (xs ys : List Record) → xs ++ ys ≡ [] → ys ≡ []
last_nil [] ys e = e
last_nil (x ∷ xs) ys e = absurd (cons_not_nil x (xs ++ ys) e)

module _ (key : Record → Record) where
  -- the first record of a key is the first of more records
  found_before : (q x : Record) (xs ys : List Record) → record_at key xs q ≡ Some x
      → record_at key (xs ++ ys) q ≡ Some x
  found_before q x [] ys e = absurd (some_not_none x (sym e))
  found_before q x (z ∷ xs) ys e = ⊎_elim
      (λ (t : has_key key q z ≡ true). cond-true _ _ _ t ∙ (sym (cond-true _ _ _ t) ∙ e))
      (λ (f : has_key key q z ≡ false).
      cond-false _ _ _ f ∙ found_before q x xs ys (sym (cond-false _ _ _ f) ∙ e))
      (cases_Bool (has_key key q z))

  -- a key that no record of two lists has
  first_none_by : (q : Record) (xs ys : List Record) → record_at key (xs ++ ys) q ≡ None
      → (o : Option Record) → record_at key xs q ≡ o → record_at key xs q ≡ None
  first_none_by q xs ys e None h = h
  first_none_by q xs ys e (Some x) h = absurd (some_not_none x (sym (found_before q x xs ys h) ∙ e))

  first_none : (q : Record) (xs ys : List Record) → record_at key (xs ++ ys) q ≡ None
      → record_at key xs q ≡ None
  first_none q xs ys e = first_none_by q xs ys e (record_at key xs q) refl

  last_none : (q : Record) (xs ys : List Record) → record_at key (xs ++ ys) q ≡ None
      → record_at key ys q ≡ None
  last_none q xs ys e = sym (record_append key xs ys q (first_none q xs ys e)) ∙ e

  without_by : (xs ys : List Record) (contents : Stored) (q : Record) (o : Option Record)
      → record_at key xs q ≡ o
      → without key (xs ++ ys) contents q ≡ unless_taken (record_at key ys q) (unless_taken o (contents q))
  without_by xs ys contents q None e =
      ap (λ z. unless_taken z (contents q)) (record_append key xs ys q e)
  without_by xs ys contents q (Some x) e =
      ap (λ z. unless_taken z (contents q)) (found_before q x xs ys e)
      ∙ sym (unless_none (record_at key ys q))

  -- Contents without two lists of records are those without the first, and then without the second.
  pub without_then : (xs ys : List Record) (contents : Stored) (q : Record)
      → without key (xs ++ ys) contents q ≡ without key ys (without key xs contents) q
  without_then xs ys contents q = without_by xs ys contents q (record_at key xs q) refl

  above_both : (k : Record) (xs ys : List Record) → KeysAbove key k xs → KeysAbove key k ys
      → KeysAbove key k (xs ++ ys)
  above_both k [] ys a b = b
  above_both k (x ∷ xs) ys a b = (a.0, above_both k xs ys a.1 b)

  rises_under : (m : Record) (xs ys : List Record) → AllIn key least_record (Some m) xs
      → AllIn key m None ys → RisesByKey key xs → RisesByKey key ys → RisesByKey key (xs ++ ys)
  rises_under m [] ys a b r s = s
  rises_under m (x ∷ xs) ys a b r s = (
    above_both (key x) xs ys r.0 (above_from key m (key x) None ys a.0.high b),
    rises_under m xs ys a.1 b r.1 s,
  )

  starts_at : (k : Record) (ys : List Record) → KeysAbove key k ys → AllIn key k None ys
  starts_at k [] a = tt
  starts_at k (y ∷ ys) a = (record { low = below_not k (key y) a.0; high = tt }, starts_at k ys a.1)

  -- keys that rise, and greater ones that rise, rise together
  pub rises_both : (xs ys : List Record) → RisesByKey key xs → RisesByKey key ys
      → ((q y : Record) → record_at key ys q ≡ Some y → AllIn key least_record (Some q) xs)
      → RisesByKey key (xs ++ ys)
  rises_both xs [] r s h =
      let P : List Record → Type 0 = RisesByKey key in subst P (sym (append-nil xs)) r
  rises_both xs (y ∷ ys) r s h = rises_under (key y) xs (y ∷ ys)
      (h (key y) y (cond-true _ _ _ (own_key key y)))
      (record { low = below_itself (key y); high = tt }, starts_at (key y) ys s.0) r s

  were_by : (contents : Stored) (xs ys : List Record) (u v : Tree) → TakesOut key contents xs u
      → TakesOut key (without key xs contents) ys v → (q y : Record)
      → record_at key (xs ++ ys) q ≡ Some y → (o : Option Record) → record_at key xs q ≡ o
      → contents q ≡ Some y
  were_by contents xs ys u v a b q y e None h =
      sym (ap (λ z. unless_taken z (contents q)) h)
      ∙ b.were q y (sym (record_append key xs ys q h) ∙ e)
  were_by contents xs ys u v a b q y e (Some x) h =
      a.were q y (h ∙ (sym (found_before q x xs ys h) ∙ e))

  clear_by : (xs ys : List Record) (v : Tree) (q y : Record) → record_at key (xs ++ ys) q ≡ Some y
      → ((x : Record) → record_at key xs q ≡ Some x → record_at key ys q ≡ None
      → of_key key q (waiting_in v) ≡ [])
      → ((z : Record) → record_at key ys q ≡ Some z → of_key key q (waiting_in v) ≡ [])
      → (o p : Option Record) → record_at key xs q ≡ o → record_at key ys q ≡ p
      → of_key key q (waiting_in v) ≡ []
  clear_by xs ys v q y e f g o (Some z) h k = g z k
  clear_by xs ys v q y e f g (Some x) None h k = f x h k
  clear_by xs ys v q y e f g None None h k =
      absurd (some_not_none y (sym e ∙ (record_append key xs ys q h ∙ k)))

  -- What was taken out in two lots was taken out at once.
  pub out_then : (contents : Stored) (xs ys : List Record) (u v : Tree) → TakesOut key contents xs u
      → TakesOut key (without key xs contents) ys v
      → ((q x : Record) → record_at key xs q ≡ Some x → record_at key ys q ≡ None
      → of_key key q (waiting_in v) ≡ [])
      → TakesOut key contents (xs ++ ys) v
  out_then contents xs ys u v a b h = record {
    were = λ q y e. were_by contents xs ys u v a b q y e (record_at key xs q) refl;
    least = λ q y e.
        let left : without key ys (without key xs contents) q ≡ Some y =
        sym (without_then xs ys contents q) ∙ e in
        all_append key least_record (Some q) xs ys
        (a.least q y (kept_by (record_at key ys q) (without key xs contents q) y left)) (b.least q y left);
    rises = rises_both xs ys a.rises b.rises (λ q y e. a.least q y (b.were q y e));
    clear = λ q y e. clear_by xs ys v q y e (λ x f n. h q x f n) (λ z k. b.clear q z k)
        (record_at key xs q) (record_at key ys q) refl refl;
  }

  ascends_by : (x : Record) (xs : List Record) (in_order : (x y : Record) → is_below y x ≡ false
      → is_below (key y) (key x) ≡ false) → KeysAbove key (key x) xs → AtLeast x xs
  ascends_by x [] in_order a = tt
  ascends_by x (y ∷ xs) in_order a = (
    ⊎_elim
        (λ (t : is_below y x ≡ true). absurd (false≢true
        (sym (in_order y x (below_ranks.one_way y x t)) ∙ a.0)))
        (λ (f : is_below y x ≡ false). f)
        (cases_Bool (is_below y x)),
    ascends_by x xs in_order a.1,
  )

  -- Records whose keys rise are in order.
  pub rising_ascends : (xs : List Record)
      → ((x y : Record) → is_below y x ≡ false → is_below (key y) (key x) ≡ false)
      → RisesByKey key xs → IsAscending xs
  rising_ascends [] in_order r = tt
  rising_ascends (x ∷ xs) in_order r =
      (ascends_by x xs in_order r.0, rising_ascends xs in_order r.1)

  module _ (step : Option Record → Record → Step) where
    -- A key for which nothing waited has nothing waiting.
    pub clear_still : (t u : Tree) (q : Record) → IsTree key t least_record None
        → IsTree key u least_record None → of_key key q (waiting_in t) ≡ [] → Advances key step t u [] q
        → of_key key q (waiting_in u) ≡ []
    clear_still t u q i j e a =
        let none : waiting_at key t q ≡ [] =
        sym (on_path key t least_record None q i (all_keys q)) ∙ e in
        on_path key u least_record None q j (all_keys q)
        ∙ last_nil a.first (waiting_at key u q)
        (sym a.parts ∙ ap (λ zs. zs ++ []) none)

    module _ (IsOp IsKept : Record → Type 0) where
      -- the same contents, key by key
      pub represents_as : (contents other : Stored) (answers given : List Record) (t : Tree)
          → ((q : Record) → contents q ≡ other q)
          → Represents key step IsOp IsKept contents answers given t
          → Represents key step IsOp IsKept other answers given t
      represents_as contents other answers given t e r = record {
        is = r.is;
        turn = r.turn;
        means = record {
          contents_is = λ q. r.means.contents_is q ∙ e q;
          answers_are = r.means.answers_are;
        };
      }

      -- A change that keeps the meaning takes nothing.
      pub takes_none : (given : List Record) (t : Tree) (told : List Record) (u : Tree)
          → ((contents : Stored) (answers : List Record)
          → Represents key step IsOp IsKept contents answers given t
          → Represents key step IsOp IsKept contents answers told u)
          → ((contents : Stored) (answers : List Record)
          → Represents key step IsOp IsKept contents answers given t
          → (q : Record) → Advances key step t u [] q)
          → TakesFirst key step IsOp IsKept given t [] told u
      takes_none given t told u stays advances = record {
        represents = λ contents answers r. represents_as contents (without key [] contents) answers told u
            (λ q. refl) (stays contents answers r);
        out = λ contents answers r. record {
          were = λ q y e. absurd (some_not_none y (sym e));
          least = λ q y e. tt;
          rises = tt;
          clear = λ q y e. absurd (some_not_none y (sym e));
        };
        advances = λ contents answers r q e. advances contents answers r q;
      }

      -- Records taken in two lots were taken at once.
      pub takes_then : (given : List Record) (t : Tree) (xs mid : List Record) (u : Tree)
          (ys told : List Record) (v : Tree) → TakesFirst key step IsOp IsKept given t xs mid u
          → TakesFirst key step IsOp IsKept mid u ys told v
          → TakesFirst key step IsOp IsKept given t (xs ++ ys) told v
      takes_then given t xs mid u ys told v a b = record {
        represents = λ contents answers r. represents_as (without key ys (without key xs contents))
            (without key (xs ++ ys) contents) answers told v (λ q. sym (without_then xs ys contents q))
            (b.represents (without key xs contents) answers (a.represents contents answers r));
        out = λ contents answers r.
            let m = a.represents contents answers r in
            let w = b.represents (without key xs contents) answers m in
            let first = a.out contents answers r in
            out_then contents xs ys u v first (b.out (without key xs contents) answers m)
            (λ q x e n. clear_still u v q m.is w.is (first.clear q x e)
            (b.advances (without key xs contents) answers m q n));
        advances = λ contents answers r q e.
            let m = a.represents contents answers r in
            advances_then key step t u v [] [] q (a.advances contents answers r q (first_none q xs ys e))
            (b.advances (without key xs contents) answers m q (last_none q xs ys e));
      }

      -- The meaning stayed, and then records were taken.
      pub takes_after : (given : List Record) (t : Tree) (mid : List Record) (u : Tree)
          (ys told : List Record) (v : Tree)
          → ((contents : Stored) (answers : List Record)
          → Represents key step IsOp IsKept contents answers given t
          → Represents key step IsOp IsKept contents answers mid u)
          → ((contents : Stored) (answers : List Record)
          → Represents key step IsOp IsKept contents answers given t
          → (q : Record) → Advances key step t u [] q)
          → TakesFirst key step IsOp IsKept mid u ys told v
          → TakesFirst key step IsOp IsKept given t ys told v
      takes_after given t mid u ys told v stays advances b =
          takes_then given t [] mid u ys told v (takes_none given t mid u stays advances) b

      -- Records were taken, and then the meaning of the rest stayed.
      pub takes_before : (given : List Record) (t : Tree) (ys mid : List Record) (u : Tree)
          (told : List Record) (v : Tree) → TakesFirst key step IsOp IsKept given t ys mid u
          → ((contents : Stored) (answers : List Record)
          → Represents key step IsOp IsKept contents answers mid u
          → Represents key step IsOp IsKept contents answers told v)
          → ((contents : Stored) (answers : List Record)
          → Represents key step IsOp IsKept contents answers mid u
          → (q : Record) → Advances key step u v [] q)
          → TakesFirst key step IsOp IsKept given t ys told v
      takes_before given t ys mid u told v a stays advances =
          let P : List Record → Type 0 = λ zs. TakesFirst key step IsOp IsKept given t zs told v in
          subst P (append-nil ys)
          (takes_then given t ys mid u [] told v a (takes_none mid u told v stays advances))

      -- The first records of the leftmost leaf are taken, if nothing waits over that leaf.
      pub takes_leaf : (given : List Record) (t : Tree) (ys zs : List Record) → IsChild t
          → first_leaf t ≡ ys ++ zs → over_first t ≡ []
          → TakesFirst key step IsOp IsKept given t ys given (with_first_leaf t zs)
      takes_leaf given t ys zs n e o = record {
        represents = λ contents answers r.
            holds_take key step IsOp IsKept contents answers given t ys zs n e o r;
        out = λ contents answers r. takes_out key step IsOp IsKept contents answers given t ys zs n e o r;
        advances = λ contents answers r q f. advances_first key step t ys zs q n e r.is f;
      }

      -- What the call leaves of the meaning of its tree.
      pub leaves_taken : (given : List Record) (t : Tree) (ys told : List Record) (u : Tree)
          → IsTree key t least_record None → InTurn key IsOp IsKept t
          → TakesFirst key step IsOp IsKept given t ys told u → LeavesTaken key step ys given t told u
      leaves_taken given t ys told u is turn a =
          let contents = tree_contents key step t in
          let answers = tree_answers key step given t in
          let own : Represents key step IsOp IsKept contents answers given t = record {
            is = is;
            turn = turn;
            means = record { contents_is = λ q. refl; answers_are = IsPermutation-refl answers };
          } in
          let left = a.represents contents answers own in
          record {
            out = a.out contents answers own;
            contents = left.means.contents_is;
            answers = left.means.answers_are;
            advances = λ q e. a.advances contents answers own q e;
          }

      -- If a record is stored in the leftmost leaf, and nothing waits over that leaf, it is contents.
      pub contents_some : (contents : Stored) (answers given : List Record) (t : Tree) (x : Record)
          (xs : List Record) → IsChild t → first_leaf t ≡ x ∷ xs → over_first t ≡ []
          → Represents key step IsOp IsKept contents answers given t → contents (key x) ≡ Some x
      contents_some contents answers given t x xs n e o r =
          (takes_out key step IsOp IsKept contents answers given t (x ∷ []) xs n e o r).were (key x) x
          (cond-true _ _ _ (own_key key x))

      -- so the tree has contents
      pub tree_has : (t : Tree) (x : Record) (xs : List Record) → IsChild t → first_leaf t ≡ x ∷ xs
          → over_first t ≡ [] → IsTree key t least_record None → InTurn key IsOp IsKept t
          → HasContents (tree_contents key step t)
      tree_has t x xs n e o is turn =
          let contents = tree_contents key step t in
          let answers = tree_answers key step [] t in
          record {
            key = key x;
            record_of = x;
            is = contents_some contents answers [] t x xs n e o (record {
              is = is;
              turn = turn;
              means = record { contents_is = λ q. refl; answers_are = IsPermutation-refl answers };
            });
          }

      -- If there were no contents, nothing was taken.
      pub taken_none : (ys given : List Record) (t : Tree) (told : List Record) (u : Tree)
          → LeavesTaken key step ys given t told u
          → ((q : Record) → tree_contents key step t q ≡ None) → ys ≡ []
      taken_none [] given t told u a none = refl
      taken_none (y ∷ ys) given t told u a none = absurd (some_not_none y
          (sym (a.out.were (key y) y (cond-true _ _ _ (own_key key y))) ∙ none (key y)))

      -- If nothing was taken, and there are no contents, there were none.
      pub none_taken : (given : List Record) (t : Tree) (told : List Record) (u : Tree)
          → LeavesTaken key step [] given t told u
          → ((q : Record) → tree_contents key step u q ≡ None) → (q : Record)
          → tree_contents key step t q ≡ None
      none_taken given t told u a none q = sym (a.contents q) ∙ none q
