use Rattle.std.proofs.Common.{◌<◌, length, arith}
use Rattle.std.proofs.lemmas.Bool.Decides.{nat_tests}
use Rattle.em_lines.proofs.AheadLemmas.{begins_space, operand_found}
use Rattle.em_lines.proofs.ahead.operand_ahead.Goals as goal

pub returns : goal.returns
returns c =
    let some : 0 < length c.args.bytes.now =
    grind (arith, nat_tests, c.if-is_empty.false, c.if-is_empty.ensures, c.is_empty.ensures) in
    operand_found c.args.bytes.now c.min.result c.number_ahead.result
    (begins_space c.args.bytes.now _ some c.if-bytes-ne32.false)
    (omega (arith, some, c.min.ensures)) (omega (arith, c.min.ensures)) c.number_ahead.ensures
