-- A batch over a tree of pairs has their puts as its commands.
use Rattle.std.specs.Prelude.{◌≡◌, ◌==◌, true, false, ℕ, ◌+◌, ◌-◌, List, [], ◌∷◌, ◌++◌, length, IsTrue, Option, Some, None, option_to_list}
use Rattle.std.proofs.Common.{sym, ap, subst, refl, ◌∙◌, arith, ⊎_elim}
use Rattle.std.specs.List.Sorted.{IsPermutation}
use Rattle.std.proofs.lemmas.Bool.{cases_Bool, cond-false, cond-true, eqb-false, eqb-true}
use Rattle.std.proofs.lemmas.List.{append-nil}
use Rattle.std.proofs.lemmas.List.Sorted.{IsPermutation-refl}
use Rattle.em_record.specs.declared.record.Record.{Record}
use Rattle.em_model.specs.Base.{map_of, puts_of}
use Rattle.em_model.specs.Map.{Combiner, no_keys, state_after}
use Rattle.em_model.specs.declared.command.Command.{Command}
use Rattle.em_model.specs.Sync.{syncs_of}
use Rattle.em_model.proofs.BaseLaws.{puts_count, puts_state}
use Rattle.em_settle.specs.Add.{add_step_of, apply_of}
use Rattle.em_settle.specs.declared.add.AddSettle.{AddSettle}
use Rattle.em_settle.specs.Keys.{of_key, record_at}
use Rattle.em_settle.specs.Map.{map_key_of, map_record}
use Rattle.em_settle.specs.States.{Stored, answers_to, stored_after}
use Rattle.em_settle.proofs.Keys.{key_at, other_key}
use Rattle.em_space.specs.Rig.{RigState}
use Rattle.em_tree_cost.specs.Books.{TreeCounts}
use Rattle.em_tree_model.specs.Meaning.{nothing, tree_answers, tree_contents}
use Rattle.em_tree_model.specs.Owed.{owed}
use Rattle.em_tree_model.specs.Ranges.{IsTree, least_record}
use Rattle.em_tree_model.specs.Tree.{Tree, stored_at, stored_in, waiting_at, waiting_in}
use Rattle.em_tree_model.proofs.Paths.{in_leaf, on_path}
use Rattle.em_tree_model.proofs.RowPlaces.{all_keys}
use Rattle.em_tree_model.proofs.Takes.{nothing_owed}
use Rattle.em_tree.specs.declared.tree.Tree.{Tree as MapTree}
use Rattle.em_trunk.specs.Trunk.{given_by, model_of}
use Rattle.em_map.specs.Batch.{contents_after}
use Rattle.em_map.specs.Commands.{gets_of, map_ops_from}
use Rattle.em_map.specs.Contents.{UpTo, WaitsUpTo, key_record, value_record}
use Rattle.em_map.specs.Over.{BeginsOver, IsTreeOf, over_batch, records_of_pairs}
use Rattle.em_map.proofs.Contents.{contents_found}

-- Under each key the records of pairs have the value of the first pair with it.
found_pair : (ps : List (ℕ × ℕ)) (k : ℕ) → record_at map_key_of (records_of_pairs ps) (key_record k) ≡ value_record k (map_of ps k)
found_pair [] k = refl
found_pair (p ∷ ps) k = ⊎_elim
    (λ (t : (p.0 == k) ≡ true).
    let same : p.0 ≡ k = eqb-true p.0 k t in
    cond-true _ _ _ (key_at map_key_of (key_record k) (map_record p.0 p.1) (ap key_record same))
    ∙ ap (λ (i : ℕ). Some (map_record i p.1)) same
    ∙ sym (ap (value_record k) (cond-true (p.0 == k) (Some p.1) (map_of ps k) t)))
    (λ (f : (p.0 == k) ≡ false).
    cond-false _ _ _ (other_key map_key_of (key_record k) (map_record p.0 p.1)
    (λ e. eqb-false p.0 k f (ap (λ (r : Record). r.a) e)))
    ∙ found_pair ps k
    ∙ sym (ap (value_record k) (cond-false (p.0 == k) (Some p.1) (map_of ps k) f)))
    (cases_Bool (p.0 == k))

-- the record of a key with a value, or none, has no number
kept_number : (k n : ℕ) (value : Option ℕ) → UpTo k n (option_to_list (value_record k value))
kept_number k n None = tt
kept_number k n (Some v) = ((refl, omega arith), tt)

-- A tree that stores these pairs, in which nothing waits.
module _ (t : Tree) (is : IsTree map_key_of t least_record None) (waiting : waiting_in t ≡ []) (ps : List (ℕ × ℕ))
    (stored : stored_in t ≡ records_of_pairs ps) where
  none_waits : (q : Record) → waiting_at map_key_of t q ≡ []
  none_waits q = sym (on_path map_key_of t least_record None q is (all_keys q)) ∙ ap (of_key map_key_of q) waiting

  stored_is : (q : Record) → stored_at map_key_of t q ≡ record_at map_key_of (records_of_pairs ps) q
  stored_is q = sym (in_leaf map_key_of t least_record None q is (all_keys q))
      ∙ ap (λ (xs : List Record). record_at map_key_of xs q) stored

  pub pairs_numbers : (n : ℕ) → WaitsUpTo n t
  pairs_numbers n = record {
    waiting = λ k. subst (UpTo k n) (sym (none_waits (key_record k))) tt;
    stored = λ k. subst (λ (r : Option Record). UpTo k n (option_to_list r))
        (sym (stored_is (key_record k) ∙ found_pair ps k)) (kept_number k n (map_of ps k));
  }

  -- It has what commands leave that leave the map of these pairs.
  pub pairs_contents : (apply : Combiner) (cs : List Command)
      → ((k : ℕ) → state_after apply no_keys cs k ≡ map_of ps k)
      → (q : Record) → tree_contents map_key_of (add_step_of apply) t q ≡ contents_after apply cs q
  pairs_contents apply cs leave q =
      ap (stored_after (add_step_of apply) (stored_at map_key_of t q)) (none_waits q) ∙ stored_is q
      ∙ contents_found apply cs (records_of_pairs ps)
      (λ k. found_pair ps k ∙ ap (value_record k) (sym (leave k))) q

-- puts are no syncs
puts_syncs : (ps : List (ℕ × ℕ)) → syncs_of (puts_of ps) ≡ 0
puts_syncs [] = refl
puts_syncs (p ∷ ps) = puts_syncs ps

-- nor gets,
puts_gets : (ps : List (ℕ × ℕ)) → gets_of (puts_of ps) ≡ 0
puts_gets [] = refl
puts_gets (p ∷ ps) = puts_gets ps

-- so they answer nothing
puts_silent : (apply : Combiner) (n : ℕ) (ps : List (ℕ × ℕ)) (stored : Stored)
    → answers_to map_key_of (add_step_of apply) stored (map_ops_from n (puts_of ps)) ≡ []
puts_silent apply n [] stored = refl
puts_silent apply n (p ∷ ps) stored = puts_silent apply (n + 1) ps _

-- So a batch begins over it.
pub begins_over : {F : Type 0} (s : RigState) (tree : MapTree (AddSettle F)) (n : ℕ) (ps : List (ℕ × ℕ))
    → IsTreeOf s tree.trunk ps → n ≡ tree.trunk.adopted → BeginsOver s (over_batch tree n) ps
begins_over s tree n ps h count =
    let v = tree.trunk in
    let apply = apply_of tree.settle.kind in
    let model = model_of s v in
    let is : IsTrue s.device.told → IsTree map_key_of model least_record None = λ told. (h.is.running.stands told).is in
    let pushed : v.pushed ≡ 0 = ap (λ (c : TreeCounts). c.n) h.counts in
    let longest : v.longest ≡ length ps = ap (λ (c : TreeCounts). c.k) h.counts in
    let adopted : v.adopted ≡ length ps = ap (λ (c : TreeCounts). c.adopted) h.counts in
    let puts = puts_count ps in
    let due : IsTrue s.device.told → tree_answers map_key_of (add_step_of apply) (given_by s v) model ≡ [] = λ told.
    ap (λ (zs : List Record). zs ++ owed map_key_of (add_step_of apply) model) (h.given told)
    ∙ nothing_owed map_key_of (add_step_of apply) model (h.waiting told) in
    record {
      is = record {
        is = h.is;
        plain = λ e. refl;
        alone = λ e. omega (arith, pushed, count);
        area = tt;
        load = tt;
        entries = omega (arith, pushed, count);
        longest = omega (arith, longest, adopted);
        few = omega (arith, count);
        few_adopted = omega (arith, adopted, h.few);
        settled = ap (λ (c : TreeCounts). c.y) h.counts;
        unreset = ap (λ (c : TreeCounts). c.z) h.counts;
        uncounted = ap (λ (c : TreeCounts). c.counted) h.counts;
        waits = λ told. pairs_numbers model (is told) (h.waiting told) ps (h.stored told) (n - 0);
        answers = λ told. let none = ap (λ (rs : List Record). length rs) (due told) in omega (arith, none, count);
      };
      has = record {
        calls = omega (arith, count, adopted, puts);
        syncs = omega (arith, puts_syncs ps);
        base = omega (arith, count, puts_gets ps);
        closed = puts_of ps;
        unclosed = [];
        parts = sym (append-nil (puts_of ps));
        gathered = refl;
        tree = record {
          contents = λ told. pairs_contents model (is told) (h.waiting told) ps (h.stored told) apply (puts_of ps)
              (puts_state apply ps h.rise);
          answers = λ told. subst (λ (zs : List Record). IsPermutation zs (tree_answers map_key_of (add_step_of apply) (given_by s v) model))
              (sym (puts_silent apply 1 ps nothing))
              (subst (λ (zs : List Record). IsPermutation [] zs) (sym (due told)) (IsPermutation-refl []));
        };
        loads = refl;
        size = omega (arith, pushed, adopted, puts);
      };
    }
