use Rattle.em_space.specs.Seen.{seen}
use Rattle.em_plain.specs.Adds.{Scans}
use Rattle.em_plain.specs.Asks.{most_for, records_in}
use Rattle.em_plain.specs.StabPairs.{stabs_in}
use Rattle.em_plain.proofs.answers.answer_by.Given as goal

abbrev pub invariant-loop-number : goal.invariant-loop-number
invariant-loop-number g l =
    Scans (most_for (g.Q.Question.asks l.question) l.chain.count) l.number l.stab stabs_in (records_in (g.Q.Question.asks l.question))
    (seen g.D.Device.state l.fn.rig) (seen g.D.Device.state l.rig) l.fn.reader l.reader
    l.fn.writer l.writer
