use Rattle.std.proofs.Common.{◌*◌, arith}
use Rattle.std.proofs.lemmas.List.{take_all, take_rest}
use Rattle.em_file.specs.Bytes.{record_bytes}
use Rattle.em_file.proofs.Steps.{read_more}
use Rattle.em_file.proofs.bytes.decode.Goals as goal

pub loop-at-preserved : goal.loop-at-preserved
loop-at-preserved c =
    let from = c.args.from.now in
    let k = c.loop-at.at in
    read_more record_bytes 32 from c.loop-at.into k _ (omega arith) c.loop-at.invariant
    (rw (take_rest from (32 * k)) at c.decode_record.ensures)

pub returns-clause-bytes : goal.returns-clause-bytes
returns-clause-bytes c =
    let k = c.loop-at.at in
    rw (take_all k c.loop-at.into (omega arith), take_all (32 * k) c.args.from.now (omega arith))
    at c.loop-at.invariant
