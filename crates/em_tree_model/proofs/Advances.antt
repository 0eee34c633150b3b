-- What waits for a key and what is stored under it, over each change of a whole tree.
use Rattle.std.specs.Prelude.{◌≡◌, List, [], ◌∷◌, ◌++◌, Option, None}
use Rattle.std.proofs.Common.{sym, ap, subst, ◌∙◌, refl, append_assoc}
use Rattle.std.proofs.lemmas.List.{append-nil}
use Rattle.std.specs.List.Sorted.{IsPermutation}
use Rattle.em_record.specs.declared.record.Record.{Record}
use Rattle.em_record.specs.Order.{IsAscending}
use Rattle.em_settle.specs.declared.step.Step.{Step}
use Rattle.em_settle.specs.Keys.{of_key, record_at}
use Rattle.em_settle.specs.States.{stored_after}
use Rattle.em_settle.specs.Lists.{list_with_ops}
use Rattle.em_settle.specs.Laws.{IsSettle}
use Rattle.em_settle.proofs.Keys.{of_key_append}
use Rattle.em_settle.proofs.States.{left_at}
use Rattle.em_tree_model.specs.Tree.{Tree, stored_in, waiting_in, stored_at, waiting_at, IsChild, first_leaf, with_first_leaf}
use Rattle.em_tree_model.specs.Tree.Tree.{leaf, end, entry}
use Rattle.em_tree_model.specs.Ranges.{IsTree, least_record}
use Rattle.em_tree_model.specs.Places.{Place, put_at, place_in, IsRowPlace}
use Rattle.em_tree_model.specs.Pouring.{pour}
use Rattle.em_tree_model.specs.Meaning.{SameMeaning, Settles, InTurn, Advances}
use Rattle.em_tree_model.proofs.Ranges.{record_append}
use Rattle.em_tree_model.proofs.RowPlaces.{all_keys, put_in}
use Rattle.em_tree_model.proofs.Paths.{on_path, in_leaf}
use Rattle.em_tree_model.proofs.Meaning.{one_more}
use Rattle.em_tree_model.proofs.Events.{Keeps, placed, keeps_put}
use Rattle.em_tree_model.proofs.Splits.{leaf_split_pour}
use Rattle.em_tree_model.proofs.Takes.{load_settles, Taken, taken}
use Rattle.em_tree_model.proofs.Whole.{load_at, rest_from_start}

-- a fold in two parts
pub after_append : (step : Option Record → Record → Step) (s : Option Record) (xs ys : List Record)
    → stored_after step s (xs ++ ys) ≡ stored_after step (stored_after step s xs) ys
after_append step s [] ys = refl
after_append step s (x ∷ xs) ys = after_append step (step s x).stored xs ys

module _ (key : Record → Record) (step : Option Record → Record → Step) where
  -- Two changes, one after the other.
  pub advances_then : (t u v : Tree) (xs ys : List Record) (q : Record) → Advances key step t u xs q
      → Advances key step u v ys q → Advances key step t v (xs ++ ys) q
  advances_then t u v xs ys q a b = record {
    first = a.first ++ b.first;
    parts = ap (λ zs. waiting_at key t q ++ zs) (of_key_append key q xs ys)
        ∙ (sym (append_assoc (waiting_at key t q) (of_key key q xs) (of_key key q ys))
        ∙ (ap (λ zs. zs ++ of_key key q ys) a.parts
        ∙ (append_assoc a.first (waiting_at key u q) (of_key key q ys)
        ∙ (ap (λ zs. a.first ++ zs) b.parts
        ∙ sym (append_assoc a.first b.first (waiting_at key v q))))));
    left = b.left ∙ (ap (λ s. stored_after step s b.first) a.left
        ∙ sym (after_append step (stored_at key t q) a.first b.first));
  }

  module _ (t u : Tree) (i : IsTree key t least_record None) (j : IsTree key u least_record None)
      (q : Record) where
    -- by the two lists
    by_lists : (pushed first : List Record)
        → of_key key q (waiting_in t) ++ of_key key q pushed ≡ first ++ of_key key q (waiting_in u)
        → record_at key (stored_in u) q ≡ stored_after step (record_at key (stored_in t) q) first
        → Advances key step t u pushed q
    by_lists pushed first e f = record {
      first = first;
      parts = ap (λ zs. zs ++ of_key key q pushed) (sym (on_path key t least_record None q i (all_keys q)))
          ∙ (e ∙ ap (λ zs. first ++ zs) (on_path key u least_record None q j (all_keys q)));
      left = sym (in_leaf key u least_record None q j (all_keys q))
          ∙ (f ∙ ap (λ s. stored_after step s first) (in_leaf key t least_record None q i (all_keys q)));
    }

    -- If the meaning stays, no operation is folded.
    pub advances_stay : SameMeaning key t u → Advances key step t u [] q
    advances_stay m = by_lists [] [] (append-nil (of_key key q (waiting_in t)) ∙ m.waiting q)
        (ap (λ zs. record_at key zs q) m.stored)

    -- What was settled is the first part.
    pub advances_settle : (ops : List Record) → Settles key step t u ops → Advances key step t u [] q
    advances_settle ops m = by_lists [] (of_key key q ops)
        (append-nil (of_key key q (waiting_in t)) ∙ (m.waiting q ∙ of_key_append key q ops (waiting_in u)))
        (m.stored q ∙ left_at key step (record_at key (stored_in t)) ops q)

    -- Keys that weren't taken out have what they had.
    pub advances_take : (ys : List Record) → Taken key t u ys least_record None
        → record_at key ys q ≡ None → Advances key step t u [] q
    advances_take ys m e = by_lists [] []
        (append-nil (of_key key q (waiting_in t)) ∙ ap (of_key key q) (sym m.waiting))
        (sym (record_append key ys (stored_in u) q e) ∙ ap (λ zs. record_at key zs q) (sym m.stored))

  -- An operation that is pushed waits last.
  pub advances_push : (low : Record) (b : List Record) (root : Tree) (op q : Record)
      → IsTree key (entry low b root end) least_record None
      → IsTree key (entry low (b ++ op ∷ []) root end) least_record None
      → Advances key step (entry low b root end) (entry low (b ++ op ∷ []) root end) (op ∷ []) q
  advances_push low b root op q i j = by_lists (entry low b root end) (entry low (b ++ op ∷ []) root end) i j q
      (op ∷ []) []
      (sym (of_key_append key q (waiting_in (entry low b root end)) (op ∷ []))
      ∙ ap (of_key key q) (sym (one_more (waiting_in root) b op)))
      refl

  -- A change that keeps meaning, at any place.
  pub advances_keep : (p : Place) (t u : Tree) (q : Record) → Keeps key t u
      → IsTree key (put_at p t) least_record None → Advances key step (put_at p t) (put_at p u) [] q
  advances_keep p t u q k i =
      let m = keeps_put key p t u least_record None k i in
      advances_stay (put_at p t) (put_at p u) i m.is q m.means

  -- The first records of the leftmost leaf are taken out.
  pub advances_first : (t : Tree) (ys zs : List Record) (q : Record) → IsChild t
      → first_leaf t ≡ ys ++ zs → IsTree key t least_record None → record_at key ys q ≡ None
      → Advances key step t (with_first_leaf t zs) [] q
  advances_first t ys zs q n e i none =
      let m = taken key t ys zs least_record None n i e in
      advances_take t (with_first_leaf t zs) i m.is q ys m none

  -- A load into a leaf.
  pub advances_load : (IsOp IsKept : Record → Type 0) (laws : IsSettle key step IsOp IsKept) (p : Place)
      (low : Record) (load rest sorted xs : List Record) (r : Tree) (q : Record)
      → IsPermutation load sorted → IsAscending sorted
      → InTurn key IsOp IsKept (put_at p (entry low (load ++ rest) (leaf xs) r))
      → IsTree key (put_at p (entry low (load ++ rest) (leaf xs) r)) least_record None
      → Advances key step (put_at p (entry low (load ++ rest) (leaf xs) r))
      (put_at p (entry low rest (leaf (list_with_ops key step xs sorted)) r)) [] q
  advances_load IsOp IsKept laws p low load rest sorted xs r q perm asc turn i =
      let t = put_at p (entry low (load ++ rest) (leaf xs) r) in
      let u = put_at p (entry low rest (leaf (list_with_ops key step xs sorted)) r) in
      let m = load_at key step IsOp IsKept laws p low load rest sorted xs r perm asc turn i in
      advances_settle t u i m.is q sorted
      (load_settles key step laws.keeps_key t u sorted least_record None i m)

  -- A load whose leaf is split: the rest of the buffer is poured into the node, from its start.
  pub advances_load_split : (IsOp IsKept : Record → Type 0) (laws : IsSettle key step IsOp IsKept)
      (p q : Place) (low : Record) (load rest sorted xs : List Record) (r : Tree) (y z : Record)
      (ys zs : List Record) (k : Record) → IsRowPlace q → IsPermutation load sorted → IsAscending sorted
      → list_with_ops key step xs sorted ≡ y ∷ ys ++ z ∷ zs
      → InTurn key IsOp IsKept (put_at p (put_at q (entry low (load ++ rest) (leaf xs) r)))
      → IsTree key (put_at p (put_at q (entry low (load ++ rest) (leaf xs) r))) least_record None
      → Advances key step (put_at p (put_at q (entry low (load ++ rest) (leaf xs) r)))
      (put_at p (pour key (put_at q
      (entry low [] (leaf (y ∷ ys)) (entry (key z) [] (leaf (z ∷ zs)) r))) rest)) [] k
  advances_load_split IsOp IsKept laws p q low load rest sorted xs r y z ys zs k row perm asc parts turn i =
      let t = entry low (load ++ rest) (leaf xs) r in
      let u = entry low rest (leaf (y ∷ ys ++ z ∷ zs)) r in
      let two = entry low [] (leaf (y ∷ ys)) (entry (key z) [] (leaf (z ∷ zs)) r) in
      let v = pour key two rest in
      let at = place_in p q in
      let T : Tree → Type 0 = λ x. IsTree key x least_record None in
      let I : Tree → Type 0 = InTurn key IsOp IsKept in
      let old = subst T (sym (put_in p q t)) i in
      let old_turn = subst I (sym (put_in p q t)) turn in
      let L : List Record → Type 0 = λ ws. Advances key step (put_at at t) (put_at at (entry low rest (leaf ws) r)) [] k in
      let M : List Record → Type 0 = λ ws. T (put_at at (entry low rest (leaf ws) r)) in
      let one : Advances key step (put_at at t) (put_at at u) [] k = subst L parts
      (advances_load IsOp IsKept laws at low load rest sorted xs r k perm asc old_turn old) in
      let mid : T (put_at at u) = subst M parts
      (load_at key step IsOp IsKept laws at low load rest sorted xs r perm asc old_turn old).is in
      let last : Advances key step (put_at at u) (put_at at v) [] k =
      advances_keep at u v k (leaf_split_pour key low y z ys zs rest r) mid in
      let node = placed key p (put_at q u) least_record None (subst T (put_in p q u) mid) in
      let from_start : pour key (put_at q two) rest ≡ put_at q v = rest_from_start key step IsOp IsKept laws
      q low rest r y z ys zs node.low node.high row node.is in
      let P : Tree → Type 0 = λ x. Advances key step x (put_at at v) [] k in
      let Q : Tree → Type 0 = λ x. Advances key step (put_at p (put_at q t)) x [] k in
      subst Q (put_in p q v ∙ ap (put_at p) (sym from_start))
      (subst P (put_in p q t) (advances_then (put_at at t) (put_at at u) (put_at at v) [] [] k one last))
