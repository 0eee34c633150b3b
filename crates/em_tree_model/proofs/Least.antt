-- The least records are taken out of a whole tree: it keeps its turns, its answers, and its other
-- contents.
use Rattle.std.specs.Prelude.{◌≡◌, List, [], ◌∷◌, ◌++◌, Option, Some, None, IfSome, option_to_list}
use Rattle.std.proofs.Common.{sym, ap, subst, ◌∙◌, refl}
use Rattle.std.proofs.lemmas.List.{append-nil}
use Rattle.std.specs.List.Sorted.{IsPermutation}
use Rattle.em_record.specs.declared.record.Record.{Record}
use Rattle.em_settle.specs.declared.step.Step.{Step}
use Rattle.em_settle.specs.Keys.{of_key, record_at, AllOf}
use Rattle.em_settle.specs.States.{Stored, answers_to}
use Rattle.em_settle.specs.Rising.{Rises}
use Rattle.em_settle.proofs.States.{cons_not_nil}
use Rattle.em_tree_model.specs.Tree.{Tree, stored_in, waiting_in, IsChild, first_leaf, over_first, with_first_leaf}
use Rattle.em_tree_model.specs.Ranges.{least_record}
use Rattle.em_tree_model.specs.Owed.{owed}
use Rattle.em_tree_model.specs.Meaning.{settled_contents, InTurn, Represents, unless_taken, without, TakesOut}
use Rattle.em_tree_model.proofs.Ranges.{record_append}
use Rattle.em_tree_model.proofs.RowPlaces.{all_keys}
use Rattle.em_tree_model.proofs.Promised.{means_of, stands_of}
use Rattle.em_tree_model.proofs.Answers.{answers_where}
use Rattle.em_tree_model.proofs.Takes.{settled, nothing_owed, settled_at, Taken, taken, Takes, takes}

module _ (key : Record → Record) where
  -- Records that are taken out of the leftmost leaf leave the turns of the others.
  module _ (step : Option Record → Record → Step) (IsOp IsKept : Record → Type 0) where
    stored_left : (t u : Tree) (ys : List Record) (lo : Record) (hi : Option Record)
        → Taken key t u ys lo hi → (q : Record) → record_at key ys q ≡ None
        → record_at key (stored_in u) q ≡ record_at key (stored_in t) q
    stored_left t u ys lo hi m q e =
        sym (record_append key ys (stored_in u) q e) ∙ ap (λ zs. record_at key zs q) (sym m.stored)

    stored_gone : (t u : Tree) (ys : List Record) (lo : Record) (hi : Option Record)
        → Takes key step t u ys lo hi → (q y : Record) → record_at key ys q ≡ Some y
        → record_at key (stored_in u) q ≡ None
    stored_gone t u ys lo hi k q y e = sym (settled_at key step u q (k.given q y e).2) ∙ (k.given q y e).1

    kept_by : (t u : Tree) (ys : List Record) (lo : Record) (hi : Option Record)
        → Taken key t u ys lo hi → Takes key step t u ys lo hi → InTurn key IsOp IsKept t → (q : Record)
        → (o : Option Record) → record_at key ys q ≡ o → IfSome (record_at key (stored_in u) q) IsKept
    kept_by t u ys lo hi m k h q None e =
        let P : Option Record → Type 0 = λ o. IfSome o IsKept in
        subst P (sym (stored_left t u ys lo hi m q e)) (h.kept q)
    kept_by t u ys lo hi m k h q (Some y) e =
        let P : Option Record → Type 0 = λ o. IfSome o IsKept in
        subst P (sym (stored_gone t u ys lo hi k q y e)) tt

    rises_by : (t u : Tree) (ys : List Record) (lo : Record) (hi : Option Record)
        → Taken key t u ys lo hi → Takes key step t u ys lo hi → InTurn key IsOp IsKept t → (q : Record)
        → (o : Option Record) → record_at key ys q ≡ o
        → Rises (option_to_list (record_at key (stored_in u) q) ++ of_key key q (waiting_in u))
    rises_by t u ys lo hi m k h q None e =
        let P : Option Record → Type 0 = λ o. Rises (option_to_list o ++ of_key key q (waiting_in u)) in
        let Q : List Record → Type 0 = λ w. Rises (option_to_list (record_at key (stored_in t) q) ++ of_key key q w) in
        subst P (sym (stored_left t u ys lo hi m q e)) (subst Q (sym m.waiting) (h.rises q))
    rises_by t u ys lo hi m k h q (Some y) e =
        let P : Option Record → Type 0 = λ o. Rises (option_to_list o ++ of_key key q (waiting_in u)) in
        let Q : List Record → Type 0 = λ w. Rises w in
        subst P (sym (stored_gone t u ys lo hi k q y e)) (subst Q (sym (k.given q y e).2) tt)

    pub turns_take : (t u : Tree) (ys : List Record) (lo : Record) (hi : Option Record)
        → Taken key t u ys lo hi → Takes key step t u ys lo hi → InTurn key IsOp IsKept t
        → InTurn key IsOp IsKept u
    turns_take t u ys lo hi m k h = record {
      ops = λ q. let P : List Record → Type 0 = λ w. AllOf key IsOp q (of_key key q w) in
          subst P (sym m.waiting) (h.ops q);
      kept = λ q. kept_by t u ys lo hi m k h q (record_at key ys q) refl;
      rises = λ q. rises_by t u ys lo hi m k h q (record_at key ys q) refl;
    }

    asked_by : (t u : Tree) (ys : List Record) (lo : Record) (hi : Option Record)
        → Taken key t u ys lo hi → Takes key step t u ys lo hi → (q x : Record) (xs : List Record)
        → of_key key q (waiting_in t) ≡ x ∷ xs → (o : Option Record) → record_at key ys q ≡ o
        → record_at key (stored_in t) q ≡ record_at key (stored_in u) q
    asked_by t u ys lo hi m k q x xs e None n = sym (stored_left t u ys lo hi m q n)
    asked_by t u ys lo hi m k q x xs e (Some y) f = absurd (cons_not_nil x xs
        (sym e ∙ (ap (of_key key q) (sym m.waiting) ∙ (k.given q y f).2)))

    -- The answers that are owed stay.
    pub owed_take : (t u : Tree) (ys : List Record) (lo : Record) (hi : Option Record)
        → Taken key t u ys lo hi → Takes key step t u ys lo hi → owed key step t ≡ owed key step u
    owed_take t u ys lo hi m k =
        answers_where key step (record_at key (stored_in t)) (record_at key (stored_in u)) (waiting_in t)
        (λ q x xs e. asked_by t u ys lo hi m k q x xs e (record_at key ys q) refl)
        ∙ ap (answers_to key step (record_at key (stored_in u))) (sym m.waiting)

    contents_left : (t u : Tree) (ys : List Record) (lo : Record) (hi : Option Record)
        → Takes key step t u ys lo hi → (q : Record) → (o : Option Record) → record_at key ys q ≡ o
        → settled_contents key step u q ≡ unless_taken o (settled_contents key step t q)
    contents_left t u ys lo hi k q None e = k.others q e
    contents_left t u ys lo hi k q (Some y) e = (k.given q y e).1

    -- The records of the leftmost leaf up to a place are taken out, if nothing waits over that leaf.
    pub holds_take : (contents : Stored) (answers given : List Record) (t : Tree) (ys zs : List Record)
        → IsChild t → first_leaf t ≡ ys ++ zs → over_first t ≡ []
        → Represents key step IsOp IsKept contents answers given t
        → Represents key step IsOp IsKept (without key ys contents) answers given (with_first_leaf t zs)
    holds_take contents answers given t ys zs n e o h =
        let u = with_first_leaf t zs in
        let m = taken key t ys zs least_record None n h.is e in
        let k = takes key step t ys zs least_record None n h.is e o in
        let old = stands_of key step contents answers given t h.is h.means in
        let P : List Record → Type 0 = λ xs. IsPermutation answers (given ++ xs) in
        record {
          is = m.is;
          turn = turns_take t u ys least_record None m k h.turn;
          means = means_of key step (without key ys contents) answers given u m.is (record {
            contents_is = λ q. contents_left t u ys least_record None k q (record_at key ys q) refl
                ∙ ap (unless_taken (record_at key ys q)) (old.contents_is q);
            answers_are = subst P (owed_take t u ys least_record None m k) old.answers_are;
          });
        }

    -- They were the least of the contents, in order, and no operation of their keys waits.
    pub takes_out : (contents : Stored) (answers given : List Record) (t : Tree) (ys zs : List Record)
        → IsChild t → first_leaf t ≡ ys ++ zs → over_first t ≡ []
        → Represents key step IsOp IsKept contents answers given t
        → TakesOut key contents ys (with_first_leaf t zs)
    takes_out contents answers given t ys zs n e o h =
        let u = with_first_leaf t zs in
        let k = takes key step t ys zs least_record None n h.is e o in
        let old = stands_of key step contents answers given t h.is h.means in
        record {
          were = λ q y f. sym (old.contents_is q) ∙ (k.given q y f).0;
          least = λ q y f. k.least q y (all_keys q)
              (contents_left t u ys least_record None k q (record_at key ys q) refl
              ∙ (ap (unless_taken (record_at key ys q)) (old.contents_is q) ∙ f));
          rises = k.rises;
          clear = λ q y f. (k.given q y f).2;
        }

    -- If nothing waits, the contents are what is stored.
    pub contents_stored : (contents : Stored) (answers given : List Record) (t : Tree)
        → waiting_in t ≡ [] → Represents key step IsOp IsKept contents answers given t → (q : Record)
        → contents q ≡ record_at key (stored_in t) q
    contents_stored contents answers given t e h q =
        sym ((stands_of key step contents answers given t h.is h.means).contents_is q)
        ∙ settled key step t q e

    -- If nothing is stored either, nothing has contents.
    pub contents_none : (contents : Stored) (answers given : List Record) (t : Tree)
        → waiting_in t ≡ [] → stored_in t ≡ []
        → Represents key step IsOp IsKept contents answers given t → (q : Record) → contents q ≡ None
    contents_none contents answers given t w e h q =
        contents_stored contents answers given t w h q ∙ ap (λ xs. record_at key xs q) e

    -- If nothing waits, all answers were given.
    pub all_given : (contents : Stored) (answers given : List Record) (t : Tree)
        → waiting_in t ≡ [] → Represents key step IsOp IsKept contents answers given t
        → IsPermutation answers given
    all_given contents answers given t e h =
        let P : List Record → Type 0 = λ xs. IsPermutation answers xs in
        subst P (ap (λ xs. given ++ xs) (nothing_owed key step t e) ∙ append-nil given) h.means.answers_are
