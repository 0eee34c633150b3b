-- Contents and answers before and after a call.
use Rattle.std.specs.Prelude.{◌≡◌, List, [], ◌∷◌, ◌++◌, Option, option_to_list}
use Rattle.std.proofs.Common.{sym, ap, subst, ◌∙◌, refl, append_assoc}
use Rattle.std.proofs.lemmas.List.{append-nil}
use Rattle.std.specs.List.Sorted.{IsPermutation}
use Rattle.std.proofs.lemmas.List.Sorted.{IsPermutation-refl, IsPermutation-trans, IsPermutation-append_left, IsPermutation-append_right}
use Rattle.em_record.specs.declared.record.Record.{Record}
use Rattle.em_settle.specs.declared.step.Step.{Step}
use Rattle.em_settle.specs.Keys.{record_at}
use Rattle.em_settle.specs.States.{Stored, with_op, with_ops, answers_to}
use Rattle.em_settle.proofs.States.{same_left, same_answers, answers_append, answers_same, left_append, same_after, with_same}
use Rattle.em_tree_model.specs.Tree.{Tree, stored_in, waiting_in}
use Rattle.em_tree_model.specs.Tree.Tree.{end, entry}
use Rattle.em_tree_model.specs.Owed.{owed}
use Rattle.em_tree_model.specs.Meaning.{settled_contents, tree_answers, SameMeaning, Settles, nothing}

pub one_more : (w b : List Record) (op : Record)
    → (w ++ (b ++ op ∷ [])) ++ [] ≡ ((w ++ b) ++ []) ++ op ∷ []
one_more w b op = append-nil (w ++ (b ++ op ∷ [])) ∙ (sym (append_assoc w b (op ∷ []))
    ∙ ap (λ zs. zs ++ op ∷ []) (sym (append-nil (w ++ b))))

module _ (key : Record → Record) where
  pub means_itself : (t : Tree) → SameMeaning key t t
  means_itself t = record { stored = refl; waiting = λ q. refl }

  pub means_trans : (t u v : Tree) → SameMeaning key t u → SameMeaning key u v → SameMeaning key t v
  means_trans t u v h k = record {
    stored = k.stored ∙ h.stored;
    waiting = λ q. h.waiting q ∙ k.waiting q;
  }

  module _ (step : Option Record → Record → Step) where
    -- The contents stay,
    pub contents_stay : (t u : Tree) → SameMeaning key t u → (q : Record)
        → settled_contents key step u q ≡ settled_contents key step t q
    contents_stay t u h q =
        ap (λ s. with_ops key step (record_at key s) (waiting_in u) q) h.stored
        ∙ sym (same_left key step (record_at key (stored_in t)) (waiting_in t) (waiting_in u) h.waiting q)

    -- and the answers that are owed stay up to order.
    pub owed_stays : (t u : Tree) → SameMeaning key t u
        → IsPermutation (owed key step t) (owed key step u)
    owed_stays t u h =
        let P : List Record → Type 0 = λ s. IsPermutation (owed key step t)
        (answers_to key step (record_at key s) (waiting_in u)) in
        subst P (sym h.stored)
        (same_answers key step (record_at key (stored_in t)) (waiting_in t) (waiting_in u) h.waiting)

    -- What was settled leaves the contents,
    pub contents_settle : (t u : Tree) (ops : List Record) → Settles key step t u ops → (q : Record)
        → settled_contents key step u q ≡ settled_contents key step t q
    contents_settle t u ops h q =
        let m = record_at key (stored_in t) in
        same_after key step (record_at key (stored_in u)) (with_ops key step m ops) (waiting_in u) h.stored q
        ∙ (ap (λ (f : Record → Option Record). f q) (sym (left_append key step m ops (waiting_in u)))
        ∙ sym (same_left key step m (waiting_in t) (ops ++ waiting_in u) h.waiting q))

    -- and its answers go from those that are owed to those that are given.
    pub owed_settles : (t u : Tree) (ops : List Record) → Settles key step t u ops
        → IsPermutation (owed key step t)
        (answers_to key step (record_at key (stored_in t)) ops ++ owed key step u)
    owed_settles t u ops h =
        let m = record_at key (stored_in t) in
        let e : answers_to key step m (ops ++ waiting_in u)
        ≡ answers_to key step m ops ++ owed key step u =
        answers_append key step m ops (waiting_in u)
        ∙ ap (λ zs. answers_to key step m ops ++ zs)
        (sym (answers_same key step (record_at key (stored_in u)) (with_ops key step m ops) (waiting_in u) h.stored)) in
        let P : List Record → Type 0 = λ zs. IsPermutation (owed key step t) zs in
        subst P e (same_answers key step m (waiting_in t) (ops ++ waiting_in u) h.waiting)

    -- One operation pushed into the root's buffer is one step on the contents,
    pub contents_push : (low : Record) (b : List Record) (root : Tree) (op q : Record)
        → settled_contents key step (entry low (b ++ op ∷ []) root end) q
        ≡ with_op key step (settled_contents key step (entry low b root end)) op q
    contents_push low b root op q =
        let m = record_at key (stored_in root ++ []) in
        ap (λ zs. with_ops key step m zs q) (one_more (waiting_in root) b op)
        ∙ ap (λ (f : Record → Option Record). f q)
        (left_append key step m ((waiting_in root ++ b) ++ []) (op ∷ []))

    -- and on the answers that are owed.
    pub owed_push : (low : Record) (b : List Record) (root : Tree) (op : Record)
        → owed key step (entry low (b ++ op ∷ []) root end)
        ≡ owed key step (entry low b root end)
        ++ option_to_list (step (settled_contents key step (entry low b root end) (key op)) op).answer
    owed_push low b root op =
        let m = record_at key (stored_in root ++ []) in
        let old = (waiting_in root ++ b) ++ [] in
        ap (answers_to key step m) (one_more (waiting_in root) b op)
        ∙ (answers_append key step m old (op ∷ [])
        ∙ ap (λ zs. answers_to key step m old ++ zs)
        (append-nil (option_to_list (step (with_ops key step m old (key op)) op).answer)))

    -- What `Means` says, by the two lists.
    pub record Stands (contents : Stored) (answers given : List Record) (t : Tree) : Type 0 where
      pub contents_is : (q : Record) → settled_contents key step t q ≡ contents q
      pub answers_are : IsPermutation answers (tree_answers key step given t)

    -- A tree with nothing stored and nothing waiting has no contents and no answers.
    pub stands_new : (low : Record) (root : Tree) → stored_in root ≡ [] → waiting_in root ≡ []
        → Stands nothing [] [] (entry low [] root end)
    stands_new low root s w =
        let e : stored_in root ++ [] ≡ [] = ap (λ zs. zs ++ []) s in
        let f : (waiting_in root ++ []) ++ [] ≡ [] = ap (λ zs. (zs ++ []) ++ []) w in
        record {
          contents_is = λ q. ap (λ zs. with_ops key step (record_at key zs) ((waiting_in root ++ []) ++ []) q) e
              ∙ ap (λ zs. with_ops key step (record_at key []) zs q) f;
          answers_are =
              let P : List Record → Type 0 = IsPermutation [] in
              subst P (sym (ap (λ zs. answers_to key step (record_at key zs) ((waiting_in root ++ []) ++ [])) e
              ∙ ap (answers_to key step (record_at key [])) f)) (IsPermutation-refl []);
        }

    -- An operation that is pushed is one step on the contents and the answers.
    pub stands_push : (contents : Stored) (answers given : List Record) (low : Record) (b : List Record)
        (root : Tree) (op : Record) → Stands contents answers given (entry low b root end)
        → Stands (with_op key step contents op)
        (answers ++ option_to_list (step (contents (key op)) op).answer) given
        (entry low (b ++ op ∷ []) root end)
    stands_push contents answers given low b root op h =
        let t = entry low b root end in
        let one = option_to_list (step (contents (key op)) op).answer in
        let asked : option_to_list (step (settled_contents key step t (key op)) op).answer ≡ one =
        ap (λ s. option_to_list (step s op).answer) (h.contents_is (key op)) in
        let Q : List Record → Type 0 = λ zs. IsPermutation (answers ++ one) zs in
        record {
          contents_is = λ q. contents_push low b root op q
              ∙ with_same key step (settled_contents key step t) contents op h.contents_is q;
          answers_are = subst Q (append_assoc given (owed key step t) one
              ∙ ap (λ zs. given ++ zs) (ap (λ zs. owed key step t ++ zs) (sym asked) ∙ sym (owed_push low b root op)))
              (IsPermutation-append_left one answers (given ++ owed key step t) h.answers_are);
        }

    -- If the meaning stays, the contents and the answers stay.
    pub stands_stay : (contents : Stored) (answers given : List Record) (t u : Tree)
        → SameMeaning key t u → Stands contents answers given t → Stands contents answers given u
    stands_stay contents answers given t u m h = record {
      contents_is = λ q. contents_stay t u m q ∙ h.contents_is q;
      answers_are = IsPermutation-trans _ _ _ h.answers_are
          (IsPermutation-append_right given (owed key step t) (owed key step u) (owed_stays t u m));
    }

    -- The answers of what was settled go from those that are owed to those that were given.
    pub stands_settle : (contents : Stored) (answers given : List Record) (t u : Tree)
        (ops : List Record) → Settles key step t u ops → Stands contents answers given t
        → Stands contents answers
        (given ++ answers_to key step (record_at key (stored_in t)) ops) u
    stands_settle contents answers given t u ops m h =
        let new = answers_to key step (record_at key (stored_in t)) ops in
        let P : List Record → Type 0 = λ zs. IsPermutation answers zs in
        record {
          contents_is = λ q. contents_settle t u ops m q ∙ h.contents_is q;
          answers_are = subst P (sym (append_assoc given new (owed key step u)))
              (IsPermutation-trans _ _ _ h.answers_are
              (IsPermutation-append_right given (owed key step t) (new ++ owed key step u) (owed_settles t u ops m)));
        }
