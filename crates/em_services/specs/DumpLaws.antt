-- The laws of a service that gives the pairs of a batch.
use Rattle.std.specs.Prelude.{◌≡◌, ◌≤◌, false, List, length}
use Rattle.std.proofs.Common.{arith}
use Rattle.std.proofs.lemmas.List.{length-map}
use Rattle.em_model.specs.Map.{Combiner}
use Rattle.em_model.specs.Pairs.{pairs_after}
use Rattle.em_model.specs.declared.command.Command.{Command}
use Rattle.em_model.proofs.PairLaws.{pairs_few}
use Rattle.em_settle.specs.Map.{map_record}
use Rattle.em_lines.specs.declared.text.FileKind.TheVariants.{Dump, Queue}
use Rattle.em_map.specs.Batch.{trunk_of}
use Rattle.em_map.specs.Over.{records_of_pairs}
use Rattle.em_map.specs.declared.batch.Batch.{Batch}

-- A batch that joins no adds early, over a tree of its own.
pub record IsOwnBatch {F : Type 0} (b : Batch F) : Type 0 where
  pub plain : b.early ≡ false
  pub own : (trunk_of b).adopted ≡ 0

pub no_queue : Dump ≡ Queue → ⊥
no_queue e = cc

-- the pairs are no more than the commands
pub pairs_records_few : (apply : Combiner) (cs : List Command) → length (records_of_pairs (pairs_after apply cs)) ≤ length cs
pairs_records_few apply cs =
    let same = length-map (pairs_after apply cs) (λ p. map_record p.0 p.1) in
    let few = pairs_few apply cs in
    omega (arith, same, few)
