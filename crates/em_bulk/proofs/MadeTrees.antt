-- What a tree that a builder made means, over a device that tells.
use Rattle.std.proofs.Common.{◌≡◌, List, [], ◌++◌, sym, ap, ◌∙◌, subst, IsTrue, Option, None}
use Rattle.std.specs.List.Sorted.{IsPermutation}
use Rattle.std.proofs.lemmas.List.Sorted.{IsPermutation-refl}
use Rattle.em_record.specs.declared.record.Record.{Record}
use Rattle.em_settle.specs.Keys.{record_at}
use Rattle.em_settle.specs.Rising.{RisesByKey}
use Rattle.em_settle.specs.declared.step.Step.{Step}
use Rattle.em_space.specs.Rig.{RigState}
use Rattle.em_tree_model.specs.Meaning.{Represents, tree_answers, tree_contents}
use Rattle.em_tree_model.specs.Owed.{owed}
use Rattle.em_tree_model.specs.Ranges.{least_record}
use Rattle.em_tree_model.proofs.Paths.{contents_by_path}
use Rattle.em_tree_model.proofs.RowPlaces.{all_keys}
use Rattle.em_tree_model.proofs.Takes.{nothing_owed, settled, stored_rises}
use Rattle.em_trunk.specs.Trunk.{IsStanding, given_by, model_of}
use Rattle.em_trunk.specs.declared.trunk.Trunk.{Trunk}
use Rattle.em_bulk.specs.Building.{pairs_in}
use Rattle.em_bulk.specs.Made.{MadeTree}
use Rattle.em_bulk.specs.declared.builder.Builder.{Builder}

module _ (key : Record → Record) (step : Option Record → Record → Step) (IsOp IsKept : Record → Type 0) {s t : RigState}
    {b : Builder} {v : Trunk} (m : MadeTree key IsOp IsKept s t b v) (told : IsTrue s.device.told) where
  stands : IsStanding key IsOp IsKept t v
  stands = m.is.running.stands (m.session.touches.told ∙ told)

  contents_are : (q : Record) → tree_contents key step (model_of t v) q ≡ record_at key (pairs_in s b) q
  contents_are q =
      sym (contents_by_path key step (model_of t v) least_record None q stands.is (all_keys q))
      ∙ (settled key step (model_of t v) q (m.waiting told)
      ∙ ap (λ (xs : List Record). record_at key xs q) (m.stored told))

  no_answers : tree_answers key step (given_by t v) (model_of t v) ≡ []
  no_answers =
      ap (λ (xs : List Record). xs ++ owed key step (model_of t v)) (m.given told)
      ∙ nothing_owed key step (model_of t v) (m.waiting told)

  -- Its contents are the pairs, and it gave no answer and owes none.
  pub made_represents : Represents key step IsOp IsKept (record_at key (pairs_in s b)) [] (given_by t v) (model_of t v)
  made_represents =
      let P : List Record → Type 0 = IsPermutation [] in
      record {
        is = stands.is;
        turn = stands.turn;
        means = record { contents_is = contents_are; answers_are = subst P (sym no_answers) (IsPermutation-refl []) };
      }

  -- The keys of the pairs rise.
  pub made_rises : RisesByKey key (pairs_in s b)
  made_rises =
      let R : List Record → Type 0 = RisesByKey key in
      subst R (m.stored told) (stored_rises key (model_of t v) least_record None stands.is)
