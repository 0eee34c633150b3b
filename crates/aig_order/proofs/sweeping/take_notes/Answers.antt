use Rattle.std.proofs.Common.{Result, arith}
use Rattle.em_record.specs.declared.record.Record.{Record}
use Rattle.em_space.specs.Seen.{seen}
use Rattle.em_space.specs.declared.fault.EmFault.{EmFault}
use Rattle.em_queued.proofs.Popped.{length_none}
use Rattle.aig_edges.proofs.Looks.{of_fault}
use Rattle.aig_order.specs.SweepCalls.{TakesTo}
use Rattle.aig_order.proofs.Notes.{Pops, refused, served, take_refused, take_two}
use Rattle.aig_order.proofs.sweeping.take_notes.Goals as goal

pub returns-in_err-pop-2-clause-takes : goal.returns-in_err-pop-2-clause-takes
returns-in_err-pop-2-clause-takes g c =
    let laws = g.met.Q.Queue in
    let x = c.args.queue.now in
    let y = c.pop.new.self in
    let s = seen g.D.Device.state c.args.rig.now in
    let t = seen g.D.Device.state c.pop.new.rig in
    let e = c.in_ok-pop.ensures in
    let o = c.in_ok-pop.field-0 in
    let one : Pops g.Q.Queue x y o s t = record {
      runs = served e.serves e.served e.within (laws.blocks_most y t e.is) (laws.holds y t e.is);
      items = e.items;
      none = λ z. length_none o (laws.len_is x s c.requires.is z) e.none;
      len = omega (arith, e.len);
    } in
    let k = c.in_err-pop-2.ensures in
    of_fault (λ (r : Result (Record × Record) EmFault). TakesTo g.Q.Queue x c.pop-2.new.self s
    (seen g.D.Device.state c.pop-2.new.rig) r) _ _ c.from_residual-in_err-pop-2.ensures.1
    (take_refused g.Q.Queue x y c.pop-2.new.self one (refused _ k.serves k.owes k.cause k.full))

pub returns-clause-takes : goal.returns-clause-takes
returns-clause-takes g c =
    let laws = g.met.Q.Queue in
    let x = c.args.queue.now in
    let y = c.pop.new.self in
    let z = c.pop-2.new.self in
    let s = seen g.D.Device.state c.args.rig.now in
    let t = seen g.D.Device.state c.pop.new.rig in
    let u = seen g.D.Device.state c.pop-2.new.rig in
    let e = c.in_ok-pop.ensures in
    let k = c.in_ok-pop-2.ensures in
    let o = c.in_ok-pop.field-0 in
    let p = c.in_ok-pop-2.field-0 in
    let one : Pops g.Q.Queue x y o s t = record {
      runs = served e.serves e.served e.within (laws.blocks_most y t e.is) (laws.holds y t e.is);
      items = e.items;
      none = λ m. length_none o (laws.len_is x s c.requires.is m) e.none;
      len = omega (arith, e.len);
    } in
    let two : Pops g.Q.Queue y z p t u = record {
      runs = served k.serves k.served k.within (laws.blocks_most z u k.is) (laws.holds z u k.is);
      items = k.items;
      none = λ m. length_none p (laws.len_is y t e.is m) k.none;
      len = omega (arith, k.len);
    } in
    take_two g.Q.Queue x y z o p c.unwrap_or-first.result c.unwrap_or-second.result
    c.unwrap_or-first.ensures c.unwrap_or-second.ensures one two
