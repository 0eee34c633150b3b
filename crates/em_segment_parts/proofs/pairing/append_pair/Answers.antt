use Rattle.std.proofs.Common.{arith}
use Rattle.em_model.specs.StabAnswers.{pair_record}
use Rattle.em_segment_parts.proofs.Writing.{pairs_append, pairs_full, pairs_grow}
use Rattle.em_segment_parts.proofs.pairing.append_pair.Goals as goal

pub returns-then-len-ge-PAIRS_END-clause-writes : goal.returns-then-len-ge-PAIRS_END-clause-writes
returns-then-len-ge-PAIRS_END-clause-writes g c =
    pairs_full c.requires.sound c.requires.is
    (omega (arith, c.len.ensures, c.if-len-ge-PAIRS_END.true))

pub append-requires-clause-room : goal.append-requires-clause-room
append-requires-clause-room g c =
    pairs_grow c.requires.sound c.requires.is
    (omega (arith, c.len.ensures, c.if-len-ge-PAIRS_END.false))

pub returns-clause-writes : goal.returns-clause-writes
returns-clause-writes g c =
    let e = c.append.ensures in
    pairs_append (pair_record c.args.stab c.args.interval) c.append.result
    (omega (arith, c.len.ensures, c.if-len-ge-PAIRS_END.false)) e.goes e.appends e.costs e.spends e.cause
