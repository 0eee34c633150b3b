-- What holds of a whole tree, over each event.
use Rattle.std.specs.Prelude.{◌≡◌, cond, List, [], ◌∷◌, ◌++◌, Option, Some, None, option_to_list}
use Rattle.std.proofs.Common.{sym, ap, subst, ◌∙◌, refl, append_assoc}
use Rattle.std.proofs.lemmas.List.{append-nil}
use Rattle.std.specs.List.Sorted.{IsPermutation}
use Rattle.em_record.specs.declared.record.Record.{Record}
use Rattle.em_record.specs.Order.{IsAscending}
use Rattle.em_settle.specs.declared.step.Step.{Step}
use Rattle.em_settle.specs.Keys.{has_key, of_key, record_at}
use Rattle.em_settle.specs.States.{Stored, with_op, answers_to}
use Rattle.em_settle.specs.Rising.{AllUnder, Rises}
use Rattle.em_settle.specs.Lists.{list_with_ops}
use Rattle.em_settle.specs.Laws.{IsSettle}
use Rattle.em_settle.proofs.Keys.{below_itself, of_key_append}
use Rattle.em_settle.proofs.Sorts.{sorted_same}
use Rattle.em_settle.proofs.Turns.{rises_first, rises_last}
use Rattle.em_tree_model.specs.Tree.{Tree, stored_in, waiting_in, HasEntry, join_rows, IsRow}
use Rattle.em_tree_model.specs.Tree.Tree.{leaf, end, entry}
use Rattle.em_tree_model.specs.Ranges.{InRange, AllIn, next_low, low_of, Follow, IsTree, least_record}
use Rattle.em_tree_model.specs.Places.{Place, put_at, place_in, IsRowPlace}
use Rattle.em_tree_model.specs.Places.Place.{here, under, past}
use Rattle.em_tree_model.specs.Pouring.{pour}
use Rattle.em_tree_model.specs.Meaning.{InTurn, Means, Represents, nothing}
use Rattle.em_tree_model.proofs.Ranges.{low_less, under_wider, upto_next, low_next, no_record_under, no_record_over, record_append, record_first, stored_range, all_first, all_last, all_wider, waiting_range}
use Rattle.em_tree_model.proofs.Places.{has_put, waiting_before, waiting_past, waiting_put, tree_put}
use Rattle.em_tree_model.proofs.Splits.{leaf_split, leaf_split_pour, node_split, grown}
use Rattle.em_tree_model.proofs.Events.{Keeps, placed, keeps_put}
use Rattle.em_tree_model.proofs.Meaning.{stands_new, stands_push, stands_stay, stands_settle}
use Rattle.em_tree_model.proofs.Promised.{means_of, stands_of}
use Rattle.em_tree_model.proofs.Turns.{turns_stay, turns_push, turns_settle}
use Rattle.em_tree_model.proofs.Takes.{load_settles}
use Rattle.em_tree_model.proofs.Loads.{Loaded, loaded, loaded_put, all_same}
use Rattle.em_tree_model.proofs.RowPlaces.{all_records, put_in, placed_high, pours_row, same_low}

module _ (key : Record → Record) where
  -- answers depend on what is stored in the range of the operations alone
  pub answers_in : (step : Option Record → Record → Step) (lo : Record) (hi : Option Record) (m n : Stored)
      (ops : List Record) → AllIn key lo hi ops → ((q : Record) → InRange lo hi q → m q ≡ n q)
      → answers_to key step m ops ≡ answers_to key step n ops
  answers_in step lo hi m n [] a h = refl
  answers_in step lo hi m n (op ∷ ops) a h =
      ap (λ s. option_to_list (step s op).answer ++ answers_to key step (with_op key step m op) ops)
      (h (key op) a.0)
      ∙ ap (λ r. option_to_list (step (n (key op)) op).answer ++ r)
      (answers_in step lo hi (with_op key step m op) (with_op key step n op) ops a.1
      (λ q l. ap (λ s. cond (has_key key q op) (step s op).stored (m q)) (h (key op) a.0)
      ∙ ap (λ s. cond (has_key key q op) (step (n (key op)) op).stored s) (h q l)))

  -- a record in the range of a place is the record there
  pub record AtPlace (t u : Tree) (lo : Record) (hi : Option Record) (q : Record) : Type 0 where
    pub within : InRange lo hi q
    pub same : record_at key (stored_in t) q ≡ record_at key (stored_in u) q

  first_part : (c r : Tree) (lo : Record) (hi : Option Record) (q : Record) → Follow lo hi r
      → IsTree key r (low_of lo r) hi → InRange lo (next_low hi r) q
      → record_at key (stored_in c ++ stored_in r) q ≡ record_at key (stored_in c) q
  first_part c (leaf xs) lo hi q f i h = absurd f
  first_part c end lo hi q f i h = ap (λ zs. record_at key zs q) (append-nil (stored_in c))
  first_part c (entry low b c2 r2) lo hi q f i h = let r = entry low b c2 r2 in
      record_first key (stored_in c) (stored_in r) q
      (no_record_over key low hi q (stored_in r) (stored_range key r low hi i) h.high)

  last_part : (c r : Tree) (lo : Record) (hi : Option Record) (q : Record) → HasEntry r
      → IsTree key c lo (next_low hi r) → InRange (low_of lo r) hi q
      → record_at key (stored_in c ++ stored_in r) q ≡ record_at key (stored_in r) q
  last_part c (leaf xs) lo hi q n i h = absurd n
  last_part c end lo hi q n i h = absurd n
  last_part c (entry low b c2 r2) lo hi q n i h =
      record_append key (stored_in c) (stored_in (entry low b c2 r2)) q
      (no_record_under key lo low q (stored_in c) (stored_range key c lo (Some low) i) h.low)

  pub record_place : (p : Place) (t : Tree) (lo : Record) (hi : Option Record) (q : Record) → HasEntry t
      → (i : IsTree key (put_at p t) lo hi)
      → InRange (placed key p t lo hi i).low (placed key p t lo hi i).high q
      → AtPlace (put_at p t) t lo hi q
  record_place here t lo hi q n i h = record { within = h; same = refl }
  record_place (under low b r p) t lo hi q n i h =
      let x = put_at p t in
      let m = record_place p t lo (next_low hi r) q n i.2 h in
      record {
        within = record { low = m.within.low; high = under_wider (next_low hi r) hi q (upto_next lo hi r i.3) m.within.high };
        same = first_part x r lo hi q i.3 i.4 m.within ∙ m.same;
      }
  record_place (past low b c p) t lo hi q n i h =
      let x = put_at p t in
      let m = record_place p t (low_of lo x) hi q n i.4 h in
      record {
        within = record { low = low_less q (low_of lo x) lo (low_next lo hi x i.3) m.within.low; high = m.within.high };
        same = last_part c x lo hi q (has_put p t n) i.2 m.within ∙ m.same;
      }

  module _ (step : Option Record → Record → Step) (IsOp IsKept : Record → Type 0)
      (laws : IsSettle key step IsOp IsKept) where
    -- A new tree: a root over one leaf, with nothing stored and nothing waiting.
    pub holds_new : (low first : Record)
        → Represents key step IsOp IsKept nothing [] [] (entry low [] (entry first [] (leaf []) end) end)
    holds_new low first = record {
      is = (tt, tt, (tt, tt, (tt, tt), tt, tt), tt, tt);
      turn = record { ops = λ q. tt; kept = λ q. tt; rises = λ q. tt };
      means = means_of key step nothing [] [] (entry low [] (entry first [] (leaf []) end) end)
          (tt, tt, (tt, tt, (tt, tt), tt, tt), tt, tt)
          (stands_new key step low (entry first [] (leaf []) end) refl refl);
    }

    -- An operation is pushed into the root's buffer.
    pub holds_push : (contents : Stored) (answers given : List Record) (low : Record) (b : List Record) (root : Tree) (op : Record)
        → IsOp op
        → AllUnder (option_to_list (record_at key (stored_in (entry low b root end)) (key op))
        ++ of_key key (key op) (waiting_in (entry low b root end))) op
        → Represents key step IsOp IsKept contents answers given (entry low b root end)
        → Represents key step IsOp IsKept (with_op key step contents op)
        (answers ++ option_to_list (step (contents (key op)) op).answer) given
        (entry low (b ++ op ∷ []) root end)
    holds_push contents answers given low b root op i u h =
        let is : IsTree key (entry low (b ++ op ∷ []) root end) least_record None =
        (h.is.0, all_records key (b ++ op ∷ []), h.is.2, h.is.3, h.is.4) in
        record {
          is = is;
          turn = turns_push key IsOp IsKept low b root op i u h.turn;
          means = means_of key step (with_op key step contents op)
              (answers ++ option_to_list (step (contents (key op)) op).answer) given
              (entry low (b ++ op ∷ []) root end) is
              (stands_push key step contents answers given low b root op
              (stands_of key step contents answers given (entry low b root end) h.is h.means));
        }

    -- A change that keeps meaning, at any place: a buffer is emptied, a leaf or a node is split, the
    -- tree grows, an entry with nothing in it is taken away.
    pub holds_keep : (contents : Stored) (answers given : List Record) (p : Place) (t u : Tree) → Keeps key t u
        → Represents key step IsOp IsKept contents answers given (put_at p t)
        → Represents key step IsOp IsKept contents answers given (put_at p u)
    holds_keep contents answers given p t u k h =
        let m = keeps_put key p t u least_record None k h.is in
        record {
          is = m.is;
          turn = turns_stay key IsOp IsKept (put_at p t) (put_at p u) m.means h.turn;
          means = means_of key step contents answers given (put_at p u) m.is
              (stands_stay key step contents answers given (put_at p t) (put_at p u) m.means
              (stands_of key step contents answers given (put_at p t) h.is h.means));
        }

    -- The root is split, under a new root.
    pub holds_root : (contents : Stored) (answers given : List Record) (low first : Record) (b : List Record) (t : Tree) (k : Record)
        (bk : List Record) (ck rk : Tree) → IsRow t → HasEntry t
        → Represents key step IsOp IsKept contents answers given (entry low b (join_rows t (entry k bk ck rk)) end)
        → Represents key step IsOp IsKept contents answers given
        (entry low b (entry first [] t (entry k [] (entry k bk ck rk) end)) end)
    holds_root contents answers given low first b t k bk ck rk n m h =
        let u = entry k bk ck rk in
        holds_keep contents answers given (under low b end here) (entry first [] (join_rows t u) end)
        (entry first [] t (entry k [] u end)) (node_split key first t k bk ck rk end n m)
        (holds_keep contents answers given here (entry low b (join_rows t u) end)
        (entry low b (entry first [] (join_rows t u) end) end) (grown key low b (join_rows t u) end first) h)

    -- the operations of a load rise, key by key
    load_rises : (p : Place) (low : Record) (load rest xs : List Record) (r : Tree)
        → InTurn key IsOp IsKept (put_at p (entry low (load ++ rest) (leaf xs) r)) → (q : Record)
        → Rises (of_key key q load)
    load_rises p low load rest xs r h q =
        let t = entry low (load ++ rest) (leaf xs) r in
        let P : List Record → Type 0 = Rises in
        let all : Rises (of_key key q (waiting_in (put_at p t))) = rises_last
        (option_to_list (record_at key (stored_in (put_at p t)) q)) (of_key key q (waiting_in (put_at p t))) (h.rises q) in
        let parts : of_key key q (waiting_in (put_at p t)) ≡ of_key key q (waiting_before p)
        ++ (of_key key q load ++ of_key key q (rest ++ (waiting_in r ++ waiting_past p))) =
        ap (of_key key q) (waiting_put p t ∙ ap (λ zs. waiting_before p ++ zs)
        (append_assoc (load ++ rest) (waiting_in r) (waiting_past p) ∙ append_assoc load rest (waiting_in r ++ waiting_past p)))
        ∙ (of_key_append key q (waiting_before p) (load ++ (rest ++ (waiting_in r ++ waiting_past p)))
        ∙ ap (λ zs. of_key key q (waiting_before p) ++ zs) (of_key_append key q load (rest ++ (waiting_in r ++ waiting_past p)))) in
        rises_first (of_key key q load) (of_key key q (rest ++ (waiting_in r ++ waiting_past p)))
        (rises_last (of_key key q (waiting_before p)) (of_key key q load ++ of_key key q (rest ++ (waiting_in r ++ waiting_past p)))
        (subst P parts all))

    -- A load at a place of a whole tree.
    pub load_at : (p : Place) (low : Record) (load rest sorted xs : List Record) (r : Tree)
        → IsPermutation load sorted → IsAscending sorted
        → InTurn key IsOp IsKept (put_at p (entry low (load ++ rest) (leaf xs) r))
        → IsTree key (put_at p (entry low (load ++ rest) (leaf xs) r)) least_record None
        → Loaded key step laws.keeps_key (put_at p (entry low (load ++ rest) (leaf xs) r))
        (put_at p (entry low rest (leaf (list_with_ops key step xs sorted)) r)) sorted least_record None
    load_at p low load rest sorted xs r perm asc turn i =
        let t = entry low (load ++ rest) (leaf xs) r in
        let u = entry low rest (leaf (list_with_ops key step xs sorted)) r in
        let same = sorted_same key load sorted perm asc (load_rises p low load rest xs r turn) in
        let local = λ (lo : Record) (hi : Option Record) (j : IsTree key t lo hi).
        loaded key step laws.keeps_key low load rest sorted xs r lo hi same j in
        loaded_put key step laws.keeps_key p t u sorted tt refl local least_record None i

    -- The first operations of a leaf's buffer, sorted, are folded over its stored records, and their
    -- answers are given.
    pub holds_load : (contents : Stored) (answers given : List Record) (p : Place) (low : Record)
        (load rest sorted xs : List Record) (r : Tree) → IsPermutation load sorted → IsAscending sorted
        → Represents key step IsOp IsKept contents answers given (put_at p (entry low (load ++ rest) (leaf xs) r))
        → Represents key step IsOp IsKept contents answers (given ++ answers_to key step (record_at key xs) sorted)
        (put_at p (entry low rest (leaf (list_with_ops key step xs sorted)) r))
    holds_load contents answers given p low load rest sorted xs r perm asc h =
        let t = entry low (load ++ rest) (leaf xs) r in
        let u = entry low rest (leaf (list_with_ops key step xs sorted)) r in
        let same = sorted_same key load sorted perm asc (load_rises p low load rest xs r h.turn) in
        let m = load_at p low load rest sorted xs r perm asc h.turn h.is in
        let s = load_settles key step laws.keeps_key (put_at p t) (put_at p u) sorted least_record None h.is m in
        let at = placed key p t least_record None h.is in
        let top = next_low at.high r in
        let in_leaf : AllIn key at.low top sorted = all_same key at.low top load sorted same
        (all_first key at.low top load rest at.is.1) in
        let same_told : answers_to key step (record_at key (stored_in (put_at p t))) sorted
        ≡ answers_to key step (record_at key xs) sorted = answers_in step at.low top
        (record_at key (stored_in (put_at p t))) (record_at key xs) sorted in_leaf
        (λ q l. (record_place p t least_record None q tt h.is (record {
          low = l.low;
          high = under_wider top at.high q (upto_next at.low at.high r at.is.3) l.high;
        })).same ∙ first_part (leaf xs) r at.low at.high q at.is.3 at.is.4 l) in
        let P : List Record → Type 0 = λ zs. Means key step contents answers (given ++ zs) (put_at p u) in
        record {
          is = m.is;
          turn = turns_settle key IsOp IsKept step laws (put_at p t) (put_at p u) sorted s h.turn;
          means = subst P same_told (means_of key step contents answers
              (given ++ answers_to key step (record_at key (stored_in (put_at p t))) sorted) (put_at p u) m.is
              (stands_settle key step contents answers given (put_at p t) (put_at p u) sorted s
              (stands_of key step contents answers given (put_at p t) h.is h.means)));
        }

    -- What is left in the buffer of a leaf that is split goes to the two entries, also if it is poured
    -- into the node from its start.
    pub rest_from_start : (q : Place) (low : Record) (rest : List Record) (r : Tree) (y z : Record)
        (ys zs : List Record) (lo : Record) (hi : Option Record) → IsRowPlace q
        → IsTree key (put_at q (entry low rest (leaf (y ∷ ys ++ z ∷ zs)) r)) lo hi
        → pour key (put_at q (entry low [] (leaf (y ∷ ys)) (entry (key z) [] (leaf (z ∷ zs)) r))) rest
        ≡ put_at q (pour key (entry low [] (leaf (y ∷ ys)) (entry (key z) [] (leaf (z ∷ zs)) r)) rest)
    rest_from_start q low rest r y z ys zs lo hi row i =
        let u = entry low rest (leaf (y ∷ ys ++ z ∷ zs)) r in
        let two = entry low [] (leaf (y ∷ ys)) (entry (key z) [] (leaf (z ∷ zs)) r) in
        let split : IsTree key (put_at q two) lo hi = tree_put key q u two refl
        (λ a b j. (leaf_split key low y z ys zs r).is a b (j.0, tt, j.2, j.3, j.4)) lo hi i in
        let W : List Record → Type 0 = AllIn key lo hi in
        let in_node : AllIn key lo hi rest =
        all_first key lo hi rest (waiting_in r)
        (all_first key lo hi (rest ++ waiting_in r) (waiting_past q)
        (all_last key lo hi (waiting_before q) ((rest ++ waiting_in r) ++ waiting_past q)
        (subst W (waiting_put q u) (waiting_range key (put_at q u) lo hi i)))) in
        let m = placed key q u lo hi i in
        let L : Record → Type 0 = λ j. AllIn key j hi rest in
        let U : Option Record → Type 0 = λ top. AllIn key m.low top rest in
        let in_entry : AllIn key m.low hi rest = subst U (placed_high key q u lo hi row i)
        (all_wider key m.low m.low (next_low m.high r) m.high rest (below_itself m.low)
        (upto_next m.low m.high r m.is.3) m.is.1) in
        pours_row key q low [] (leaf (y ∷ ys)) (entry (key z) [] (leaf (z ∷ zs)) r) rest lo hi row
        split in_node (subst L (same_low key q low rest [] (leaf (y ∷ ys ++ z ∷ zs)) (leaf (y ∷ ys)) r
        (entry (key z) [] (leaf (z ∷ zs)) r) lo hi row i split) in_entry)

    -- A load whose leaf is split: the rest of the buffer is poured into the node, from its start.
    pub holds_load_split : (contents : Stored) (answers given : List Record) (p q : Place) (low : Record)
        (load rest sorted xs : List Record) (r : Tree) (y z : Record) (ys zs : List Record)
        → IsRowPlace q → IsPermutation load sorted → IsAscending sorted
        → list_with_ops key step xs sorted ≡ y ∷ ys ++ z ∷ zs
        → Represents key step IsOp IsKept contents answers given
        (put_at p (put_at q (entry low (load ++ rest) (leaf xs) r)))
        → Represents key step IsOp IsKept contents answers
        (given ++ answers_to key step (record_at key xs) sorted) (put_at p (pour key (put_at q
        (entry low [] (leaf (y ∷ ys)) (entry (key z) [] (leaf (z ∷ zs)) r))) rest))
    holds_load_split contents answers given p q low load rest sorted xs r y z ys zs row perm asc parts h =
        let told = given ++ answers_to key step (record_at key xs) sorted in
        let t = entry low (load ++ rest) (leaf xs) r in
        let u = entry low rest (leaf (y ∷ ys ++ z ∷ zs)) r in
        let two = entry low [] (leaf (y ∷ ys)) (entry (key z) [] (leaf (z ∷ zs)) r) in
        let at = place_in p q in
        let P : Tree → Type 0 = λ x. Represents key step IsOp IsKept contents answers given x in
        let Q : Tree → Type 0 = λ x. Represents key step IsOp IsKept contents answers told x in
        let R : List Record → Type 0 = λ ws. Q (put_at at (entry low rest (leaf ws) r)) in
        let one : Q (put_at at u) = subst R parts (holds_load contents answers given at low load rest sorted xs r
        perm asc (subst P (sym (put_in p q t)) h)) in
        let done : Q (put_at at (pour key two rest)) =
        holds_keep contents answers told at u (pour key two rest) (leaf_split_pour key low y z ys zs rest r) one in
        let T : Tree → Type 0 = λ x. IsTree key x least_record None in
        let node = placed key p (put_at q u) least_record None (subst T (put_in p q u) one.is) in
        let from_start : pour key (put_at q two) rest ≡ put_at q (pour key two rest) =
        rest_from_start q low rest r y z ys zs node.low node.high row node.is in
        subst Q (put_in p q (pour key two rest) ∙ ap (put_at p) (sym from_start)) done
