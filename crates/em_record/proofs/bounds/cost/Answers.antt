use Rattle.std.proofs.Common.{◌+◌, ◌*◌, arith}
use Rattle.em_record.proofs.Levels.{product-small}
use Rattle.em_record.proofs.bounds.cost.Goals as goal

pub overflow_mul-result-2 : goal.overflow_mul-result-2
overflow_mul-result-2 c =
    let small =
    product-small (2048 * (c.blocks_of-blocks.result + 1)) (1 + c.lev.result)
    (omega arith) (omega arith) in
    omega (arith, small)
