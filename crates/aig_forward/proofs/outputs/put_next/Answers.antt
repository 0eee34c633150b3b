use Rattle.std.proofs.Common.{Bool, sym, subst}
use Rattle.em_space.specs.Seen.{seen}
use Rattle.aig_forward.specs.Outputs.{PopsOne, printing}
use Rattle.aig_forward.proofs.PutLines.{pops_one}
use Rattle.aig_forward.proofs.outputs.put_next.Goals as goal

pub returns-in-Ok-put_bit-clause-puts : goal.returns-in-Ok-put_bit-clause-puts
returns-in-Ok-put_bit-clause-puts g c =
    let laws = g.met.Q.Queue in
    let s = seen g.D.Device.state c.args.rig.now in
    let t = seen g.D.Device.state c.pop.new.rig in
    let old = printing g.Q.Queue g.W.Sink c.args.queue.now c.args.sink.now c.args.printer.now s in
    let new = printing g.Q.Queue g.W.Sink c.pop.new.self c.put_bit.new.sink c.put_bit.new.printer t in
    let e = c.in-Ok.ensures in
    let pops = pops_one old new c.in-Ok.message e.serves e.served e.within
    (laws.blocks_most c.pop.new.self t e.is) (laws.unstored_most c.pop.new.self t e.is) (laws.holds c.pop.new.self t e.is) e.items e.none e.len
    (laws.len_is c.args.queue.now s c.requires.is) in
    record {
      bit = c.message_bit-bit.result;
      pops = subst (λ (b : Bool). PopsOne old new b) (sym c.message_bit-bit.ensures) pops;
      sent = c.in-Ok-put_bit.ensures.sent;
      later = c.put_bit.ensures.cause.later;
    }

pub returns-in-Err-put_bit-clause-puts : goal.returns-in-Err-put_bit-clause-puts
returns-in-Err-put_bit-clause-puts g c =
    let laws = g.met.Q.Queue in
    let s = seen g.D.Device.state c.args.rig.now in
    let t = seen g.D.Device.state c.pop.new.rig in
    let old = printing g.Q.Queue g.W.Sink c.args.queue.now c.args.sink.now c.args.printer.now s in
    let new = printing g.Q.Queue g.W.Sink c.pop.new.self c.put_bit.new.sink c.put_bit.new.printer t in
    let e = c.in-Ok.ensures in
    let pops = pops_one old new c.in-Ok.message e.serves e.served e.within
    (laws.blocks_most c.pop.new.self t e.is) (laws.unstored_most c.pop.new.self t e.is) (laws.holds c.pop.new.self t e.is) e.items e.none e.len
    (laws.len_is c.args.queue.now s c.requires.is) in
    record {
      bit = c.message_bit-bit.result;
      pops = subst (λ (b : Bool). PopsOne old new b) (sym c.message_bit-bit.ensures) pops;
      part = c.put_bit.ensures.part;
      later = c.put_bit.ensures.cause.later;
      rose = c.in-Err-put_bit.ensures.cause.failed;
    }
