use Rattle.std.proofs.Common.{arith}
use Rattle.em_frames.specs.Device.{zero_record}
use Rattle.em_settle.specs.Add.{apply_of}
use Rattle.em_combine.proofs.Fronts.{some_all}
use Rattle.em_combine.proofs.joining.join_all.Goals as goal

pub returns-clause-joined : goal.returns-clause-joined
returns-clause-joined g c =
    let l = c.loop-at in
    let long = l.invariant.long in
    some_all (apply_of c.args.settle.now.kind) c.args.records.now l.records l.kept l.at l.invariant
    (omega arith) zero_record
