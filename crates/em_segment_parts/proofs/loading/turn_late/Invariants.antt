use Rattle.std.proofs.Common.{◌≡◌, take}
use Rattle.em_segment_model.specs.Loads.{AllFit}
use Rattle.em_segment_parts.proofs.Turning.{turned}
use Rattle.em_segment_parts.proofs.loading.turn_late.Given as goal

abbrev pub invariant-loop-place : goal.invariant-loop-place
invariant-loop-place l =
    (l.records ≡ turned l.place l.fn.records) × AllFit (take l.place l.fn.records)
