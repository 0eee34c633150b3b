use Rattle.std.proofs.Common.{◌≡◌, drop}
use Rattle.std.specs.Prelude.{Some}
use Rattle.em_model.specs.Queue.{least, least_of}
use Rattle.em_model.proofs.queue.first_of.Given as goal

abbrev pub invariant-loop-item : goal.invariant-loop-item
invariant-loop-item l = least_of l.items ≡ Some (least l.least (drop l.item-index l.rest))
