-- Each event of a call keeps what a tree means, and so do several one after another.
use Rattle.std.specs.Prelude.{◌≡◌, List, [], ◌∷◌, ◌++◌, Option}
use Rattle.std.specs.List.Sorted.{IsPermutation}
use Rattle.std.proofs.Common.{refl}
use Rattle.std.proofs.lemmas.List.{append-nil}
use Rattle.em_record.specs.declared.record.Record.{Record}
use Rattle.em_record.specs.Order.{IsAscending}
use Rattle.em_settle.specs.Keys.{record_at}
use Rattle.em_settle.specs.Laws.{IsSettle}
use Rattle.em_settle.specs.Lists.{list_with_ops}
use Rattle.em_settle.specs.States.{answers_to}
use Rattle.em_settle.specs.declared.step.Step.{Step}
use Rattle.em_tree_model.specs.Places.{IsRowPlace, Place, put_at}
use Rattle.em_tree_model.specs.Places.Place.{here, under}
use Rattle.em_tree_model.specs.Pouring.{pour}
use Rattle.em_tree_model.specs.Tree.{HasEntry, IsRow, Tree, join_rows, waiting_at}
use Rattle.em_tree_model.specs.Tree.Tree.{end, entry, leaf}
use Rattle.em_tree_model.proofs.Advances.{advances_keep, advances_load, advances_load_split, advances_then}
use Rattle.em_tree_model.proofs.Events.{Keeps, emptied}
use Rattle.em_tree_model.proofs.Splits.{grown, node_split}
use Rattle.em_tree_model.proofs.Whole.{holds_keep, holds_load, holds_load_split}
use Rattle.em_trunk.specs.Events.{Continues}

module _ (key : Record → Record) (step : Option Record → Record → Step)
    (IsOp IsKept : Record → Type 0) where
  -- nothing happened
  pub continues_same : (given : List Record) (t : Tree) → Continues key step IsOp IsKept given t given t
  continues_same given t = record {
    represents = λ contents answers r. r;
    advances = λ contents answers r q. record {
      first = [];
      parts = append-nil (waiting_at key t q);
      left = refl;
    };
  }

  -- one thing after another
  pub continues_then : (given mid last : List Record) (t u v : Tree)
      → Continues key step IsOp IsKept given t mid u → Continues key step IsOp IsKept mid u last v
      → Continues key step IsOp IsKept given t last v
  continues_then given mid last t u v a b = record {
    represents = λ contents answers r. b.represents contents answers (a.represents contents answers r);
    advances = λ contents answers r q. advances_then key step t u v [] [] q
        (a.advances contents answers r q)
        (b.advances contents answers (a.represents contents answers r) q);
  }

  module _ (laws : IsSettle key step IsOp IsKept) where
    -- a change that keeps meaning, at any place
    pub continues_keep : (given : List Record) (p : Place) (t u : Tree) → Keeps key t u
        → Continues key step IsOp IsKept given (put_at p t) given (put_at p u)
    continues_keep given p t u k = record {
      represents = λ contents answers r.
          holds_keep key step IsOp IsKept laws contents answers given p t u k r;
      advances = λ contents answers r q. advances_keep key step p t u q k r.is;
    }

    -- the buffer of an entry is emptied into the buffers of its child
    pub continues_emptied : (given : List Record) (p : Place) (low : Record) (b : List Record) (c r : Tree)
        → HasEntry c → Continues key step IsOp IsKept given (put_at p (entry low b c r)) given
        (put_at p (entry low [] (pour key c b) r))
    continues_emptied given p low b c r n =
        continues_keep given p (entry low b c r) (entry low [] (pour key c b) r) (emptied key low b c r n)

    -- The first operations of a leaf's buffer, sorted, are folded over its records.
    pub continues_loaded : (given : List Record) (p : Place) (low : Record)
        (load rest sorted xs : List Record) (r : Tree) → IsPermutation load sorted → IsAscending sorted
        → Continues key step IsOp IsKept given (put_at p (entry low (load ++ rest) (leaf xs) r))
        (given ++ answers_to key step (record_at key xs) sorted)
        (put_at p (entry low rest (leaf (list_with_ops key step xs sorted)) r))
    continues_loaded given p low load rest sorted xs r perm asc = record {
      represents = λ contents answers h.
          holds_load key step IsOp IsKept laws contents answers given p low load rest sorted xs r perm asc h;
      advances = λ contents answers h q.
          advances_load key step IsOp IsKept laws p low load rest sorted xs r q perm asc h.turn h.is;
    }

    -- The same with a split of the leaf, after which the rest of the buffer is poured into the
    -- node.
    pub continues_loaded_split : (given : List Record) (p at : Place) (low : Record)
        (load rest sorted xs : List Record) (r : Tree) (y z : Record) (ys zs : List Record)
        → IsRowPlace at → IsPermutation load sorted → IsAscending sorted
        → list_with_ops key step xs sorted ≡ y ∷ ys ++ z ∷ zs
        → Continues key step IsOp IsKept given
        (put_at p (put_at at (entry low (load ++ rest) (leaf xs) r)))
        (given ++ answers_to key step (record_at key xs) sorted)
        (put_at p (pour key (put_at at
        (entry low [] (leaf (y ∷ ys)) (entry (key z) [] (leaf (z ∷ zs)) r))) rest))
    continues_loaded_split given p at low load rest sorted xs r y z ys zs row perm asc parts = record {
      represents = λ contents answers h. holds_load_split key step IsOp IsKept laws contents answers given
          p at low load rest sorted xs r y z ys zs row perm asc parts h;
      advances = λ contents answers h q. advances_load_split key step IsOp IsKept laws
          p at low load rest sorted xs r y z ys zs q row perm asc parts h.turn h.is;
    }

    -- A node is split, over which nothing waits.
    pub continues_split : (given : List Record) (p : Place) (low : Record) (t : Tree) (k : Record)
        (bk : List Record) (ck rk r : Tree) → IsRow t → HasEntry t
        → Continues key step IsOp IsKept given
        (put_at p (entry low [] (join_rows t (entry k bk ck rk)) r)) given
        (put_at p (entry low [] t (entry k [] (entry k bk ck rk) r)))
    continues_split given p low t k bk ck rk r n m = continues_keep given p
        (entry low [] (join_rows t (entry k bk ck rk)) r)
        (entry low [] t (entry k [] (entry k bk ck rk) r)) (node_split key low t k bk ck rk r n m)

    -- The root is split, under a new root.
    pub continues_grown : (given : List Record) (low first : Record) (b : List Record) (t : Tree)
        (k : Record) (bk : List Record) (ck rk : Tree) → IsRow t → HasEntry t
        → Continues key step IsOp IsKept given (entry low b (join_rows t (entry k bk ck rk)) end) given
        (entry low b (entry first [] t (entry k [] (entry k bk ck rk) end)) end)
    continues_grown given low first b t k bk ck rk n m =
        let u = entry k bk ck rk in
        let old = entry low b (join_rows t u) end in
        let over = entry low b (entry first [] (join_rows t u) end) end in
        let new = entry low b (entry first [] t (entry k [] u end)) end in
        continues_then given given given old over new
        (continues_keep given here old over (grown key low b (join_rows t u) end first))
        (continues_keep given (under low b end here) (entry first [] (join_rows t u) end)
        (entry first [] t (entry k [] u end)) (node_split key first t k bk ck rk end n m))
