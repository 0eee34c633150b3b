-- Operations wait in the order of their arrival, after each event.
use Rattle.std.specs.Prelude.{◌≡◌, true, false, List, [], ◌∷◌, ◌++◌, Option, IfSome, option_to_list}
use Rattle.std.proofs.Common.{sym, ap, subst, ◌∙◌, ⊎_elim, append_assoc}
use Rattle.std.proofs.lemmas.List.{append-nil}
use Rattle.std.proofs.lemmas.Bool.{cases_Bool}
use Rattle.em_record.specs.declared.record.Record.{Record}
use Rattle.em_settle.specs.declared.step.Step.{Step}
use Rattle.em_settle.specs.States.{stored_after}
use Rattle.em_settle.specs.Keys.{has_key, of_key, record_at, AllOf}
use Rattle.em_settle.specs.Rising.{AllUnder, Rises}
use Rattle.em_settle.specs.Laws.{IsSettle}
use Rattle.em_settle.proofs.Keys.{key_is, of_key_append, first_of_key, none_of_key}
use Rattle.em_settle.proofs.States.{left_at}
use Rattle.em_settle.proofs.Turns.{rises_push, of_first, of_last, of_append, turns_after, kept_after}
use Rattle.em_tree_model.specs.Tree.{Tree, stored_in, waiting_in}
use Rattle.em_tree_model.specs.Tree.Tree.{end, entry}
use Rattle.em_tree_model.specs.Meaning.{SameMeaning, Settles, InTurn}
use Rattle.em_tree_model.proofs.Meaning.{one_more}

module _ (key : Record → Record) (IsOp IsKept : Record → Type 0) where
  -- If the meaning stays, turns stay.
  pub turns_stay : (t u : Tree) → SameMeaning key t u → InTurn key IsOp IsKept t
      → InTurn key IsOp IsKept u
  turns_stay t u m h = record {
    ops = λ q. let P : List Record → Type 0 = AllOf key IsOp q in subst P (m.waiting q) (h.ops q);
    kept = λ q. let P : List Record → Type 0 = λ s. IfSome (record_at key s q) IsKept in
        subst P (sym m.stored) (h.kept q);
    rises = λ q.
        let P : List Record → Type 0 = λ s. Rises (option_to_list (record_at key s q)
        ++ of_key key q (waiting_in u)) in
        let Q : List Record → Type 0 = λ w. Rises (option_to_list (record_at key (stored_in t) q) ++ w) in
        subst P (sym m.stored) (subst Q (m.waiting q) (h.rises q));
  }

  of_key_all : (q : Record) (xs : List Record) (op : Record) → AllOf key IsOp q (of_key key q xs)
      → IsOp op → AllOf key IsOp q (of_key key q (xs ++ op ∷ []))
  of_key_all q xs op a i =
      let P : List Record → Type 0 = AllOf key IsOp q in
      subst P (sym (of_key_append key q xs (op ∷ []))) (of_append key IsOp q (of_key key q xs)
      (of_key key q (op ∷ [])) a (⊎_elim
      (λ (t : has_key key q op ≡ true). subst P (sym (first_of_key key q op [] t)) (key_is key q op t, i, tt))
      (λ (f : has_key key q op ≡ false). subst P (sym (none_of_key key q op [] f)) tt)
      (cases_Bool (has_key key q op))))

  -- The condition of a push: the operation is above what waits for its key and what is stored there.
  pub turns_push : (low : Record) (b : List Record) (root : Tree) (op : Record) → IsOp op
      → AllUnder (option_to_list (record_at key (stored_in (entry low b root end)) (key op))
      ++ of_key key (key op) (waiting_in (entry low b root end))) op
      → InTurn key IsOp IsKept (entry low b root end)
      → InTurn key IsOp IsKept (entry low (b ++ op ∷ []) root end)
  turns_push low b root op i u h =
      let old = waiting_in (entry low b root end) in
      let e : waiting_in (entry low (b ++ op ∷ []) root end) ≡ old ++ op ∷ [] = one_more (waiting_in root) b op in
      record {
        ops = λ q. let P : List Record → Type 0 = λ w. AllOf key IsOp q (of_key key q w) in
            subst P (sym e) (of_key_all q old op (h.ops q) i);
        kept = h.kept;
        rises = λ q.
            let s = option_to_list (record_at key (stored_in (entry low b root end)) q) in
            let P : List Record → Type 0 = λ w. Rises (s ++ of_key key q w) in
            let Q : List Record → Type 0 = λ w. Rises (s ++ w) in
            subst P (sym e) (subst Q (sym (of_key_append key q old (op ∷ []))) (⊎_elim
            (λ (t : has_key key q op ≡ true).
            let R : Record → Type 0 = λ k. AllUnder (option_to_list (record_at key
            (stored_in (entry low b root end)) k) ++ of_key key k old) op in
            let under = subst R (key_is key q op t) u in
            let S : List Record → Type 0 = Rises in
            subst Q (ap (λ w. of_key key q old ++ w) (sym (first_of_key key q op [] t)))
            (subst S (append_assoc s (of_key key q old) (op ∷ []))
            (rises_push (s ++ of_key key q old) op (h.rises q) under)))
            (λ (f : has_key key q op ≡ false).
            subst Q (ap (λ w. of_key key q old ++ w) (sym (none_of_key key q op [] f)))
            (subst Q (sym (append-nil (of_key key q old))) (h.rises q)))
            (cases_Bool (has_key key q op))));
      }

  module _ (step : Option Record → Record → Step) (laws : IsSettle key step IsOp IsKept) where
    parts_at : (t u : Tree) (ops : List Record) → Settles key step t u ops → (q : Record)
        → of_key key q (waiting_in t) ≡ of_key key q ops ++ of_key key q (waiting_in u)
    parts_at t u ops m q = m.waiting q ∙ of_key_append key q ops (waiting_in u)

    left_by : (t u : Tree) (ops : List Record) → Settles key step t u ops → (q : Record)
        → record_at key (stored_in u) q
        ≡ stored_after step (record_at key (stored_in t) q) (of_key key q ops)
    left_by t u ops m q = m.stored q ∙ left_at key step (record_at key (stored_in t)) ops q

    -- What was settled leaves turns.
    pub turns_settle : (t u : Tree) (ops : List Record) → Settles key step t u ops
        → InTurn key IsOp IsKept t → InTurn key IsOp IsKept u
    turns_settle t u ops m h = record {
      ops = λ q. let P : List Record → Type 0 = AllOf key IsOp q in
          of_last key IsOp q (of_key key q ops) (of_key key q (waiting_in u)) (subst P (parts_at t u ops m q) (h.ops q));
      kept = λ q.
          let P : List Record → Type 0 = AllOf key IsOp q in
          let Q : Option Record → Type 0 = λ s. IfSome s IsKept in
          subst Q (sym (left_by t u ops m q)) (kept_after key step IsOp IsKept laws
          (record_at key (stored_in t) q) q (of_key key q ops)
          (of_first key IsOp q (of_key key q ops) (of_key key q (waiting_in u))
          (subst P (parts_at t u ops m q) (h.ops q))) (h.kept q));
      rises = λ q.
          let P : List Record → Type 0 = AllOf key IsOp q in
          let Q : List Record → Type 0 = λ w. Rises (option_to_list (record_at key (stored_in t) q) ++ w) in
          let R : Option Record → Type 0 = λ s. Rises (option_to_list s ++ of_key key q (waiting_in u)) in
          subst R (sym (left_by t u ops m q)) (turns_after key step IsOp IsKept laws
          (record_at key (stored_in t) q) q (of_key key q ops) (of_key key q (waiting_in u))
          (subst P (parts_at t u ops m q) (h.ops q)) (subst Q (parts_at t u ops m q) (h.rises q)));
    }
