use Rattle.std.proofs.Common.{length}
use Rattle.em_space.specs.Seen.{seen}
use Rattle.em_plain.specs.Adds.{Scans}
use Rattle.em_plain.specs.StabPairs.{holder_pairs, intervals_in}
use Rattle.em_plain.proofs.stab_answers.holders_by.Given as goal

abbrev pub invariant-loop : goal.invariant-loop
invariant-loop g l =
    Scans 1 l.counter l.interval (λ items. length (intervals_in items))
    (holder_pairs l.stab l.point) (seen g.D.Device.state l.fn.rig) (seen g.D.Device.state l.rig)
    l.fn.reader l.reader l.fn.writer l.writer
