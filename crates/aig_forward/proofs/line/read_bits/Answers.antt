use Rattle.std.proofs.Common.{arith}
use Rattle.aig_forward.proofs.BitLists.{front_none, front_can, front_next, front_stops, front_done, front_unended}
use Rattle.aig_forward.proofs.line.read_bits.Goals as goal

pub loop-init : goal.loop-init
loop-init g c = front_none c.args.inputs c.requires

pub add_bit-requires : goal.add_bit-requires
add_bit-requires g c = front_can c.args.inputs c.loop.counter c.requires c.loop.invariant
    (omega arith)

pub returns-in-Err : goal.returns-in-Err
returns-in-Err g c = front_stops c.args.inputs c.loop.counter c.requires c.loop.invariant _
    (omega arith) c.in-Err.ensures

pub loop-preserved : goal.loop-preserved
loop-preserved g c = front_next c.args.inputs c.loop.counter c.requires c.loop.invariant
    (omega arith) c.in-Ok.ensures

pub returns-in-Ok-read_end : goal.returns-in-Ok-read_end
returns-in-Ok-read_end g c = front_done c.args.inputs c.loop.counter c.requires c.loop.invariant _
    (omega arith) c.in-Ok-read_end.ensures.reads

pub returns-in-Err-read_end : goal.returns-in-Err-read_end
returns-in-Err-read_end g c = front_unended c.args.inputs c.loop.counter c.requires c.loop.invariant
    _ _ c.step_stop.ensures (omega arith) c.in-Err-read_end.ensures.reads
