-- What `Means` says by paths, and what `Stands` says by two lists, is the same in a whole tree.
use Rattle.std.specs.Prelude.{List, Option, None}
use Rattle.std.proofs.Common.{sym, ◌∙◌}
use Rattle.em_record.specs.declared.record.Record.{Record}
use Rattle.em_settle.specs.declared.step.Step.{Step}
use Rattle.em_settle.specs.States.{Stored}
use Rattle.em_tree_model.specs.Tree.{Tree}
use Rattle.em_tree_model.specs.Ranges.{IsTree, least_record}
use Rattle.em_tree_model.specs.Meaning.{Means}
use Rattle.em_tree_model.proofs.Meaning.{Stands}
use Rattle.em_tree_model.proofs.Paths.{contents_by_path}
use Rattle.em_tree_model.proofs.RowPlaces.{all_keys}

module _ (key : Record → Record) (step : Option Record → Record → Step) (contents : Stored)
    (answers given : List Record) (t : Tree) where
  pub means_of : IsTree key t least_record None → Stands key step contents answers given t
      → Means key step contents answers given t
  means_of i h = record {
    contents_is = λ q. sym (contents_by_path key step t least_record None q i (all_keys q)) ∙ h.contents_is q;
    answers_are = h.answers_are;
  }

  pub stands_of : IsTree key t least_record None → Means key step contents answers given t
      → Stands key step contents answers given t
  stands_of i h = record {
    contents_is = λ q. contents_by_path key step t least_record None q i (all_keys q) ∙ h.contents_is q;
    answers_are = h.answers_are;
  }
