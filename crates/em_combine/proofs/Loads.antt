-- A joined load leaves and answers what the load does, all keys together.
use Rattle.std.specs.Prelude.{ℕ, ◌≡◌, true, false, List, [], ◌∷◌, ◌++◌, Option, None, option_to_list}
use Rattle.std.proofs.Common.{sym, ap, subst, ◌∙◌, refl, ⊎_elim}
use Rattle.std.specs.List.Sorted.{IsPermutation}
use Rattle.std.proofs.lemmas.Bool.{cases_Bool, cond-true, cond-false}
use Rattle.em_record.specs.declared.record.Record.{Record}
use Rattle.em_record.specs.Order.{in_order}
use Rattle.em_record.proofs.Order.{order_ascends}
use Rattle.em_settle.specs.Keys.{has_key, of_key}
use Rattle.em_settle.specs.Map.{map_key_of}
use Rattle.em_settle.specs.States.{Stored, with_op, with_ops, answers_to}
use Rattle.em_settle.specs.declared.step.Step.{Step}
use Rattle.em_settle.proofs.Keys.{key_at}
use Rattle.em_settle.proofs.States.{left_at, answers_same, same_answers}
use Rattle.em_settle.specs.Add.{add_step_of, IsAssociative}
use Rattle.em_combine.specs.Joining.{is_add, may_join, join_two, joined_from, joined, SameOutcome, CameInTurn, JoinsLoad}
use Rattle.em_combine.proofs.Counts.{joined_length}
use Rattle.em_combine.proofs.Outcomes.{is_joined, one_key, step_of_add, joined_same, one_step}
use Rattle.em_combine.proofs.Turns.{order_by_key, turn_same, turn_joined}

module _ (apply : ℕ → ℕ → ℕ) (assoc : IsAssociative apply) where
  -- The joined list of a load in order.
  pub joins_load : (xs : List Record) → CameInTurn xs → JoinsLoad apply xs (joined apply (in_order xs))
  joins_load xs h =
      let step = add_step_of apply in
      let same = order_by_key xs h in
      record {
        is = refl;
        same = λ q. let P : List Record → Type 0 = λ ls.
            SameOutcome step (of_key map_key_of q (joined apply (in_order xs))) ls in
            subst P (sym (same q)) (joined_same apply assoc q (in_order xs));
        count = joined_length apply xs (in_order xs) same (order_ascends xs);
        turn = turn_joined apply (in_order xs) (turn_same xs (in_order xs) same h);
      }

  -- what is stored under each key after one add for two
  stored_two : (m : Stored) (x y : Record) → may_join x y ≡ true → (q : Record)
      → with_op map_key_of (add_step_of apply) m (join_two apply x y) q
      ≡ with_op map_key_of (add_step_of apply) (with_op map_key_of (add_step_of apply) m x) y q
  stored_two m x y t q =
      let step = add_step_of apply in
      let p = is_joined x y t in
      let j = join_two apply x y in
      let keys : map_key_of x ≡ map_key_of y = ap (λ (n : ℕ). record { a = n; b = 0; c = 0; d = 0 }) p.key in
      let own : with_op map_key_of step m x (map_key_of y) ≡ (step (m (map_key_of y)) x).stored =
      cond-true _ _ _ (key_at map_key_of (map_key_of y) x keys)
      ∙ ap (λ (k : Record). (step (m k) x).stored) keys in
      let at_j : has_key map_key_of q j ≡ has_key map_key_of q y = one_key q j y refl in
      ⊎_elim
      (λ (u : has_key map_key_of q y ≡ true).
      cond-true _ _ _ (at_j ∙ u)
      ∙ (ap (λ (s : Step). s.stored) (one_step apply assoc x y t (m (map_key_of y)))
      ∙ (ap (λ (o : Option Record). (step o y).stored) (sym own) ∙ sym (cond-true _ _ _ u))))
      (λ (u : has_key map_key_of q y ≡ false).
      cond-false _ _ _ (at_j ∙ u) ∙ (sym (cond-false _ _ _ (one_key q x y p.key ∙ u))
      ∙ sym (cond-false _ _ _ u)))
      (cases_Bool (has_key map_key_of q y))

  -- what one add for two and those after it answer
  answers_two : (m : Stored) (x y : Record) (zs : List Record) → may_join x y ≡ true
      → answers_to map_key_of (add_step_of apply) m (join_two apply x y ∷ zs)
      ≡ answers_to map_key_of (add_step_of apply) m (x ∷ y ∷ zs)
  answers_two m x y zs t =
      let step = add_step_of apply in
      let p = is_joined x y t in
      let j = join_two apply x y in
      let n = with_op map_key_of step m x in
      let silent : (old : Option Record) (op : Record) → is_add op ≡ true → (step old op).answer ≡ None =
      λ old op u. ap (λ (s : Step). s.answer) (step_of_add apply old op u) in
      let rest = answers_to map_key_of step (with_op map_key_of step n y) zs in
      ap (λ (a : Option Record). option_to_list a ++ answers_to map_key_of step (with_op map_key_of step m j) zs)
      (silent (m (map_key_of j)) j refl)
      ∙ (answers_same map_key_of step _ _ zs (stored_two m x y t)
      ∙ (ap (λ (a : Option Record). option_to_list a ++ rest) (sym (silent (n (map_key_of y)) y p.second))
      ∙ ap (λ (a : Option Record). option_to_list a ++ (option_to_list (step (n (map_key_of y)) y).answer ++ rest))
      (sym (silent (m (map_key_of x)) x p.first))))

  -- A list answers the same when its adds are joined.
  answers_from : (m : Stored) (x : Record) (ys : List Record)
      → answers_to map_key_of (add_step_of apply) m (joined_from apply x ys)
      ≡ answers_to map_key_of (add_step_of apply) m (x ∷ ys)
  answers_from m x [] = refl
  answers_from m x (y ∷ ys) =
      let step = add_step_of apply in ⊎_elim
      (λ (t : may_join x y ≡ true).
      ap (answers_to map_key_of step m) (cond-true _ _ _ t)
      ∙ (answers_from m (join_two apply x y) ys ∙ answers_two m x y ys t))
      (λ (f : may_join x y ≡ false).
      ap (answers_to map_key_of step m) (cond-false _ _ _ f)
      ∙ ap (λ (rs : List Record). option_to_list (step (m (map_key_of x)) x).answer ++ rs)
      (answers_from (with_op map_key_of step m x) y ys))
      (cases_Bool (may_join x y))

  answers_joined : (m : Stored) (ys : List Record)
      → answers_to map_key_of (add_step_of apply) m (joined apply ys)
      ≡ answers_to map_key_of (add_step_of apply) m ys
  answers_joined m [] = refl
  answers_joined m (y ∷ ys) = answers_from m y ys

  -- What is stored under each key after a load is stored after its joined list.
  pub load_left : (xs ys : List Record) → JoinsLoad apply xs ys → (m : Stored) (q : Record)
      → with_ops map_key_of (add_step_of apply) m ys q ≡ with_ops map_key_of (add_step_of apply) m xs q
  load_left xs ys h m q =
      let step = add_step_of apply in
      left_at map_key_of step m ys q ∙ ((h.same q).stored (m q) ∙ sym (left_at map_key_of step m xs q))

  -- The joined list of a load gives the load's answers, in the order of keys.
  pub load_answers : (xs ys : List Record) → CameInTurn xs → JoinsLoad apply xs ys → (m : Stored)
      → IsPermutation (answers_to map_key_of (add_step_of apply) m xs)
      (answers_to map_key_of (add_step_of apply) m ys)
  load_answers xs ys c h m =
      let step = add_step_of apply in
      let P : List Record → Type 0 = IsPermutation (answers_to map_key_of step m xs) in
      subst P (sym (ap (answers_to map_key_of step m) h.is ∙ answers_joined m (in_order xs)))
      (same_answers map_key_of step m xs (in_order xs) (order_by_key xs c))
