-- The records of a map's pairs are the contents that its commands leave.
use Rattle.std.proofs.Common.{◌≡◌, true, false, ℕ, ◌+◌, ◌<◌, List, [], ◌∷◌, refl, sym, ap, ◌∙◌, ⊎_elim, arith, Some}
use Rattle.std.specs.Prelude.{◌==◌}
use Rattle.std.specs.Map.{keys_of, lookup}
use Rattle.std.proofs.lemmas.Bool.{cases_Bool, cond-false, cond-true, eqb-false, eqb-true}
use Rattle.em_record.specs.declared.record.Record.{Record}
use Rattle.em_model.specs.Ascending.{RisesFrom}
use Rattle.em_model.specs.Map.{Combiner, no_keys, state_after}
use Rattle.em_model.specs.Pairs.{pairs_after}
use Rattle.em_model.specs.declared.command.Command.{Command}
use Rattle.em_model.proofs.PairLaws.{keys_rise, pair_at}
use Rattle.em_settle.specs.Add.{add_step_of}
use Rattle.em_settle.specs.Keys.{record_at}
use Rattle.em_settle.specs.Map.{map_key_of, map_record}
use Rattle.em_settle.specs.Rising.{KeysAbove, RisesByKey}
use Rattle.em_settle.proofs.Keys.{key_at, other_key}
use Rattle.em_space.specs.Rig.{RigState}
use Rattle.em_tree_model.specs.Meaning.{tree_contents}
use Rattle.em_trunk.specs.Trunk.{model_of}
use Rattle.em_trunk.specs.declared.trunk.Trunk.{Trunk}
use Rattle.em_bulk.proofs.Keys.{key_below}
use Rattle.em_map.specs.Batch.{contents_after}
use Rattle.em_map.specs.Contents.{key_record, value_record}
use Rattle.em_map.proofs.Contents.{contents_found}
use Rattle.em_services.specs.Listing.{HasRecords}
use Rattle.em_map.specs.Over.{records_of_pairs}

-- Their keys rise.
above : (k low : ℕ) (ps : List (ℕ × ℕ)) → k < low → RisesFrom low (keys_of ps)
    → KeysAbove map_key_of (key_record k) (records_of_pairs ps)
above k low [] less r = tt
above k low (p ∷ ps) less r = (key_below k p.0 (omega (arith, less, r.0)), above k (p.0 + 1) ps (omega (arith, less, r.0)) r.1)

rises : (low : ℕ) (ps : List (ℕ × ℕ)) → RisesFrom low (keys_of ps) → RisesByKey map_key_of (records_of_pairs ps)
rises low [] r = tt
rises low (p ∷ ps) r = (above p.0 (p.0 + 1) ps (omega arith) r.1, rises (p.0 + 1) ps r.1)

-- Under a key stands the value of its pair.
found : (k : ℕ) (ps : List (ℕ × ℕ))
    → record_at map_key_of (records_of_pairs ps) (key_record k) ≡ value_record k (lookup (λ other. other == k) ps)
found k [] = refl
found k (p ∷ ps) = ⊎_elim
    (λ (t : (p.0 == k) ≡ true).
    let same : p.0 ≡ k = eqb-true p.0 k t in
    cond-true _ _ _ (key_at map_key_of (key_record k) (map_record p.0 p.1) (ap key_record same))
    ∙ ap (λ (j : ℕ). Some (map_record j p.1)) same
    ∙ sym (ap (value_record k) (cond-true (p.0 == k) (Some p.1) (lookup (λ other. other == k) ps) t)))
    (λ (f : (p.0 == k) ≡ false).
    cond-false _ _ _ (other_key map_key_of (key_record k) (map_record p.0 p.1)
    (λ e. eqb-false p.0 k f (ap (λ (r : Record). r.a) e)))
    ∙ found k ps
    ∙ sym (ap (value_record k) (cond-false (p.0 == k) (Some p.1) (lookup (λ other. other == k) ps) f)))
    (cases_Bool (p.0 == k))

-- A tree that has the contents that commands leave has the records of their pairs.
pub has_pairs : (apply : Combiner) (cs : List Command) (s : RigState) (v : Trunk)
    → ((q : Record) → tree_contents map_key_of (add_step_of apply) (model_of s v) q ≡ contents_after apply cs q)
    → HasRecords apply s v (records_of_pairs (pairs_after apply cs))
has_pairs apply cs s v contents =
    let ps = pairs_after apply cs in
    let at : (k : ℕ) → record_at map_key_of (records_of_pairs ps) (key_record k)
    ≡ value_record k (state_after apply no_keys cs k) = λ k. found k ps ∙ ap (value_record k) (pair_at apply cs k) in
    record {
      rises = rises 0 ps (keys_rise apply cs);
      are = λ q. contents_found apply cs (records_of_pairs ps) at q ∙ sym (contents q);
    }
