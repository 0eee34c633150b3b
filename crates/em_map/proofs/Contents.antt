-- The contents and answers of a map's operations are those of the plain map.
use Rattle.std.specs.Prelude.{true, false, ℕ, ◌≡◌, ◌+◌, ◌==◌, if◌then◌else◌, List, [], ◌∷◌, length, Option, Some, None}
use Rattle.std.proofs.Common.{sym, ap, subst, ◌∙◌, refl, ⊎_elim}
use Rattle.std.proofs.lemmas.Bool.{cases_Bool, cond-true, cond-false, eqb-true, eqb-false, true≢false}
use Rattle.em_record.specs.declared.record.Record.{Record}
use Rattle.em_model.specs.Map.{Combiner, Map, joined_to, no_keys, with_key, state_after}
use Rattle.em_model.specs.declared.command.Command.{Command}
use Rattle.em_model.specs.declared.command.Command.TheVariants.{Put, Add, Del, Get, Sync, Push, Pop, Interval, Stab}
use Rattle.em_settle.specs.Add.{add_step_of, added}
use Rattle.em_settle.specs.Keys.{has_key, record_at}
use Rattle.em_settle.specs.Map.{map_answer, map_key_of, map_record}
use Rattle.em_settle.specs.States.{Stored, with_op, with_ops, answers_to}
use Rattle.em_settle.proofs.Keys.{key_at, key_is, other_key}
use Rattle.em_map.specs.Commands.{map_ops, map_ops_from, ops_after}
use Rattle.em_model.specs.MapAnswers.{answer_record, answers_after, answers_of}
use Rattle.em_tree_model.specs.Meaning.{nothing}
use Rattle.em_map.specs.Batch.{contents_after}
use Rattle.em_map.specs.Contents.{KeepsMap, key_record, value_record}

-- an operation changes the stored record of its own key alone
at_key : (apply : Combiner) (stored : Stored) (op : Record) (j : ℕ)
    → with_op map_key_of (add_step_of apply) stored op (key_record j)
    ≡ (if j == op.a then (add_step_of apply (stored (key_record op.a)) op).stored
    else stored (key_record j))
at_key apply stored op j = ⊎_elim
    (λ (t : (j == op.a) ≡ true).
    let same : map_key_of op ≡ key_record j = ap key_record (sym (eqb-true j op.a t)) in
    cond-true _ _ _ (key_at map_key_of (key_record j) op same) ∙ sym (cond-true _ _ _ t))
    (λ (f : (j == op.a) ≡ false).
    let other : map_key_of op ≡ key_record j → ⊥ = λ e.
    eqb-false j op.a f (sym (ap (λ (r : Record). r.a) e)) in
    cond-false _ _ _ (other_key map_key_of (key_record j) op other) ∙ sym (cond-false _ _ _ f))
    (cases_Bool (j == op.a))

-- a put
after_put : (apply : Combiner) (n k v : ℕ) (stored : Stored) (m : Map) → KeepsMap stored m
    → KeepsMap (with_op map_key_of (add_step_of apply) stored (record { a = k; b = n; c = 0; d = v }))
    (with_key m k (Some v))
after_put apply n k v stored m h j = at_key apply stored (record { a = k; b = n; c = 0; d = v }) j ∙ ⊎_elim
    (λ (t : (j == k) ≡ true). cond-true _ _ _ t ∙ (ap (λ i. Some (map_record i v)) (sym (eqb-true j k t))
    ∙ sym (ap (value_record j) (cond-true (j == k) (Some v) (m j) t))))
    (λ (f : (j == k) ≡ false). cond-false _ _ _ f ∙ (h j
    ∙ sym (ap (value_record j) (cond-false (j == k) (Some v) (m j) f))))
    (cases_Bool (j == k))

-- what is stored under a key, joined to a value, is the map's value joined to it
added_is : (apply : Combiner) (k v : ℕ) (value : Option ℕ)
    → added apply (value_record k value) v ≡ joined_to apply value v
added_is apply k v None = refl
added_is apply k v (Some old) = refl

-- an add
after_add : (apply : Combiner) (n k v : ℕ) (stored : Stored) (m : Map) → KeepsMap stored m
    → KeepsMap (with_op map_key_of (add_step_of apply) stored (record { a = k; b = n; c = 3; d = v }))
    (with_key m k (Some (joined_to apply (m k) v)))
after_add apply n k v stored m h j = at_key apply stored (record { a = k; b = n; c = 3; d = v }) j ∙ ⊎_elim
    (λ (t : (j == k) ≡ true). cond-true _ _ _ t
    ∙ (ap (λ i. Some (map_record i (added apply (stored (key_record k)) v))) (sym (eqb-true j k t))
    ∙ (ap (λ d. Some (map_record j d)) (ap (λ r. added apply r v) (h k) ∙ added_is apply k v (m k))
    ∙ sym (ap (value_record j) (cond-true (j == k) (Some (joined_to apply (m k) v)) (m j) t)))))
    (λ (f : (j == k) ≡ false). cond-false _ _ _ f ∙ (h j
    ∙ sym (ap (value_record j) (cond-false (j == k) (Some (joined_to apply (m k) v)) (m j) f))))
    (cases_Bool (j == k))

-- a del
after_del : (apply : Combiner) (n k : ℕ) (stored : Stored) (m : Map) → KeepsMap stored m
    → KeepsMap (with_op map_key_of (add_step_of apply) stored (record { a = k; b = n; c = 1; d = 0 }))
    (with_key m k None)
after_del apply n k stored m h j = at_key apply stored (record { a = k; b = n; c = 1; d = 0 }) j ∙ ⊎_elim
    (λ (t : (j == k) ≡ true). cond-true _ _ _ t
    ∙ sym (ap (value_record j) (cond-true (j == k) None (m j) t)))
    (λ (f : (j == k) ≡ false). cond-false _ _ _ f ∙ (h j
    ∙ sym (ap (value_record j) (cond-false (j == k) None (m j) f))))
    (cases_Bool (j == k))

-- a get leaves all
after_get : (apply : Combiner) (n k : ℕ) (stored : Stored) (m : Map) → KeepsMap stored m
    → KeepsMap (with_op map_key_of (add_step_of apply) stored (record { a = k; b = n; c = 2; d = 0 })) m
after_get apply n k stored m h j = at_key apply stored (record { a = k; b = n; c = 2; d = 0 }) j ∙ ⊎_elim
    (λ (t : (j == k) ≡ true). cond-true _ _ _ t
    ∙ (ap (λ i. stored (key_record i)) (sym (eqb-true j k t)) ∙ h j))
    (λ (f : (j == k) ≡ false). cond-false _ _ _ f ∙ h j)
    (cases_Bool (j == k))

-- the contents after some commands are the map after them
pub keeps_map : (apply : Combiner) (n : ℕ) (cs : List Command) (stored : Stored) (m : Map) → KeepsMap stored m
    → KeepsMap (with_ops map_key_of (add_step_of apply) stored (map_ops_from n cs)) (state_after apply m cs)
keeps_map apply n [] stored m h = h
keeps_map apply n (Put k v ∷ cs) stored m h =
    keeps_map apply (n + 1) cs _ (with_key m k (Some v)) (after_put apply n k v stored m h)
keeps_map apply n (Add k v ∷ cs) stored m h =
    keeps_map apply (n + 1) cs _ (with_key m k (Some (joined_to apply (m k) v))) (after_add apply n k v stored m h)
keeps_map apply n (Del k ∷ cs) stored m h =
    keeps_map apply (n + 1) cs _ (with_key m k None) (after_del apply n k stored m h)
keeps_map apply n (Get k ∷ cs) stored m h = keeps_map apply (n + 1) cs _ m (after_get apply n k stored m h)
keeps_map apply n (Sync ∷ cs) stored m h = keeps_map apply (n + 1) cs stored m h
keeps_map apply n (Push k v ∷ cs) stored m h = keeps_map apply (n + 1) cs stored m h
keeps_map apply n (Pop ∷ cs) stored m h = keeps_map apply (n + 1) cs stored m h
keeps_map apply n (Interval low high ∷ cs) stored m h = keeps_map apply (n + 1) cs stored m h
keeps_map apply n (Stab point ∷ cs) stored m h = keeps_map apply (n + 1) cs stored m h

-- the answer of a get is that of its value
answer_is : (n k : ℕ) (value : Option ℕ) → map_answer (value_record k value) n ≡ answer_record n value
answer_is n k None = refl
answer_is n k (Some v) = refl

-- The operations' answers are the gets' answers, each with its number.
pub answers_are : (apply : Combiner) (n : ℕ) (cs : List Command) (stored : Stored) (m : Map) → KeepsMap stored m
    → answers_to map_key_of (add_step_of apply) stored (map_ops_from n cs) ≡ answers_of apply n m cs
answers_are apply n [] stored m h = refl
answers_are apply n (Put k v ∷ cs) stored m h =
    answers_are apply (n + 1) cs _ (with_key m k (Some v)) (after_put apply n k v stored m h)
answers_are apply n (Add k v ∷ cs) stored m h =
    answers_are apply (n + 1) cs _ (with_key m k (Some (joined_to apply (m k) v))) (after_add apply n k v stored m h)
answers_are apply n (Del k ∷ cs) stored m h =
    answers_are apply (n + 1) cs _ (with_key m k None) (after_del apply n k stored m h)
answers_are apply n (Get k ∷ cs) stored m h =
    ap (λ s. map_answer s n ∷ answers_to map_key_of (add_step_of apply)
    (with_op map_key_of (add_step_of apply) stored (record { a = k; b = n; c = 2; d = 0 })) (map_ops_from (n + 1) cs))
    (h k)
    ∙ (ap (λ r. r ∷ answers_to map_key_of (add_step_of apply)
    (with_op map_key_of (add_step_of apply) stored (record { a = k; b = n; c = 2; d = 0 })) (map_ops_from (n + 1) cs))
    (answer_is n k (m k))
    ∙ ap (λ rs. answer_record n (m k) ∷ rs)
    (answers_are apply (n + 1) cs _ m (after_get apply n k stored m h)))
answers_are apply n (Sync ∷ cs) stored m h = answers_are apply (n + 1) cs stored m h
answers_are apply n (Push k v ∷ cs) stored m h = answers_are apply (n + 1) cs stored m h
answers_are apply n (Pop ∷ cs) stored m h = answers_are apply (n + 1) cs stored m h
answers_are apply n (Interval low high ∷ cs) stored m h = answers_are apply (n + 1) cs stored m h
answers_are apply n (Stab point ∷ cs) stored m h = answers_are apply (n + 1) cs stored m h

-- The contents that commands leave are the map after them,
pub keeps_after : (apply : Combiner) (cs : List Command) → KeepsMap (contents_after apply cs) (state_after apply no_keys cs)
keeps_after apply cs = keeps_map apply 1 cs nothing no_keys (λ k. refl)

-- and the answers to commands after others are those of the gets among them, numbered on.
pub answers_follow : (apply : Combiner) (before cs : List Command)
    → answers_to map_key_of (add_step_of apply) (contents_after apply before) (ops_after before cs) ≡ answers_after apply before cs
answers_follow apply before cs =
    answers_are apply (1 + length before) cs (contents_after apply before) (state_after apply no_keys before) (keeps_after apply before)

-- A record that isn't a key is that of no record,
no_key : (q : Record) → has_key map_key_of q q ≡ false → (x : Record) → has_key map_key_of q x ≡ false
no_key q f x = other_key map_key_of q x (λ (e : map_key_of x ≡ q).
    true≢false (sym (key_at map_key_of q q (ap map_key_of (sym e) ∙ e)) ∙ f))

-- so that a list has none under it,
none_under : (q : Record) → has_key map_key_of q q ≡ false → (xs : List Record) → record_at map_key_of xs q ≡ None
none_under q f [] = refl
none_under q f (x ∷ xs) = cond-false _ _ _ (no_key q f x) ∙ none_under q f xs

-- and operations leave none there.
nothing_under : (apply : Combiner) (q : Record) → has_key map_key_of q q ≡ false → (ops : List Record) (stored : Stored)
    → stored q ≡ None → with_ops map_key_of (add_step_of apply) stored ops q ≡ None
nothing_under apply q f [] stored none = none
nothing_under apply q f (op ∷ ops) stored none = nothing_under apply q f ops
    (with_op map_key_of (add_step_of apply) stored op) (cond-false _ _ _ (no_key q f op) ∙ none)

-- A list with the map's value under each key has what the commands leave under each record.
pub contents_found : (apply : Combiner) (cs : List Command) (xs : List Record)
    → ((k : ℕ) → record_at map_key_of xs (key_record k) ≡ value_record k (state_after apply no_keys cs k))
    → (q : Record) → record_at map_key_of xs q ≡ contents_after apply cs q
contents_found apply cs xs h q = ⊎_elim
    (λ (t : has_key map_key_of q q ≡ true).
    subst (λ (r : Record). record_at map_key_of xs r ≡ contents_after apply cs r) (key_is map_key_of q q t)
    (h q.a ∙ sym (keeps_after apply cs q.a)))
    (λ (f : has_key map_key_of q q ≡ false).
    none_under q f xs ∙ sym (nothing_under apply q f (map_ops cs) nothing refl))
    (cases_Bool (has_key map_key_of q q))
