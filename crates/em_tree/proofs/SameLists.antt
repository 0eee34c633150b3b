-- A tree with the same records and the same operations, in the same order, means the same.
use Rattle.std.proofs.Common.{◌≡◌, List, [], ◌++◌, sym, ap, ◌∙◌, subst}
use Rattle.std.proofs.lemmas.List.{append-nil}
use Rattle.std.specs.List.Sorted.{IsPermutation}
use Rattle.std.specs.Prelude.{IfSome, None, Option, option_to_list}
use Rattle.em_record.specs.declared.record.Record.{Record}
use Rattle.em_settle.specs.Keys.{AllOf, of_key, record_at}
use Rattle.em_settle.specs.Rising.{Rises}
use Rattle.em_settle.specs.States.{Stored, answers_to, with_ops}
use Rattle.em_settle.specs.declared.step.Step.{Step}
use Rattle.em_tree_model.specs.Meaning.{Advances, InTurn, Represents, tree_contents}
use Rattle.em_tree_model.specs.Owed.{owed}
use Rattle.em_tree_model.specs.Ranges.{IsTree, least_record}
use Rattle.em_tree_model.specs.Tree.{Tree, stored_in, waiting_at, waiting_in}
use Rattle.em_tree_model.proofs.Paths.{contents_by_path, in_leaf, on_path}
use Rattle.em_tree_model.proofs.RowPlaces.{all_keys}
use Rattle.em_trunk.specs.Events.{Continues}

module _ (key : Record → Record) (step : Option Record → Record → Step) (IsOp IsKept : Record → Type 0)
    (t u : Tree) (is : IsTree key u least_record None) (stored : stored_in u ≡ stored_in t)
    (waiting : waiting_in u ≡ waiting_in t) where
  -- The operations wait in turn.
  pub turn_same : InTurn key IsOp IsKept t → InTurn key IsOp IsKept u
  turn_same h =
      let S : List Record → Record → Type 0 = λ xs q. IfSome (record_at key xs q) IsKept in
      let R : List Record → List Record → Record → Type 0 =
      λ xs ws q. Rises (option_to_list (record_at key xs q) ++ of_key key q ws) in
      record {
        ops = λ q. subst (λ (ws : List Record). AllOf key IsOp q (of_key key q ws)) (sym waiting) (h.ops q);
        kept = λ q. subst (λ (xs : List Record). S xs q) (sym stored) (h.kept q);
        rises = λ q. subst (λ (xs : List Record). R xs (waiting_in u) q) (sym stored)
            (subst (λ (ws : List Record). R (stored_in t) ws q) (sym waiting) (h.rises q));
      }

  -- The contents and the answers are the same,
  contents_same : IsTree key t least_record None → (q : Record)
      → tree_contents key step u q ≡ tree_contents key step t q
  contents_same old q =
      sym (contents_by_path key step u least_record None q is (all_keys q))
      ∙ (ap (λ (xs : List Record). with_ops key step (record_at key xs) (waiting_in u) q) stored
      ∙ (ap (λ (ws : List Record). with_ops key step (record_at key (stored_in t)) ws q) waiting
      ∙ contents_by_path key step t least_record None q old (all_keys q)))

  owed_same : owed key step u ≡ owed key step t
  owed_same = ap (λ (xs : List Record). answers_to key step (record_at key xs) (waiting_in u)) stored
      ∙ ap (answers_to key step (record_at key (stored_in t))) waiting

  represents_same : (contents : Stored) (answers given : List Record)
      → Represents key step IsOp IsKept contents answers given t
      → Represents key step IsOp IsKept contents answers given u
  represents_same contents answers given r =
      let P : List Record → Type 0 = λ xs. IsPermutation answers (given ++ xs) in
      record {
        is = is;
        turn = turn_same r.turn;
        means = record {
          contents_is = λ q. contents_same r.is q ∙ r.means.contents_is q;
          answers_are = subst P (sym owed_same) r.means.answers_are;
        };
      }

  -- and no operation was settled.
  advances_same : IsTree key t least_record None → (q : Record) → Advances key step t u [] q
  advances_same old q = record {
    first = [];
    parts = append-nil (waiting_at key t q)
        ∙ (sym (on_path key t least_record None q old (all_keys q))
        ∙ (ap (of_key key q) (sym waiting) ∙ on_path key u least_record None q is (all_keys q)));
    left = sym (in_leaf key u least_record None q is (all_keys q))
        ∙ (ap (λ (xs : List Record). record_at key xs q) stored
        ∙ in_leaf key t least_record None q old (all_keys q));
  }

  pub continues_lists : (given : List Record) → Continues key step IsOp IsKept given t given u
  continues_lists given = record {
    represents = λ contents answers r. represents_same contents answers given r;
    advances = λ contents answers r q. advances_same r.is q;
  }
