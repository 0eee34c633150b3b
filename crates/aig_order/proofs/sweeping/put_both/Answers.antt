use Rattle.std.proofs.Common.{Result, ◌++◌, option_to_list}
use Rattle.em_space.specs.Seen.{seen}
use Rattle.em_space.specs.declared.fault.EmFault.{EmFault}
use Rattle.aig_edges.proofs.Looks.{of_fault}
use Rattle.aig_order.specs.SweepCalls.{PutsTo}
use Rattle.aig_order.proofs.Puts.{put_both, put_first}
use Rattle.aig_order.proofs.sweeping.put_both.Goals as goal

pub returns-in_err-put-clause-puts : goal.returns-in_err-put-clause-puts
returns-in_err-put-clause-puts g c =
    let s = seen g.D.Device.state c.args.rig.now in
    let t = seen g.D.Device.state c.put.new.rig in
    let xs = option_to_list c.args.first in
    let ys = option_to_list c.args.second in
    of_fault (λ (r : Result (Unit {0}) EmFault). PutsTo (xs ++ ys) c.args.writer.now c.put.new.writer s t r)
    _ _ c.from_residual.ensures.1
    (put_first xs ys c.args.writer.now c.requires.sound c.in_err-put.ensures.puts)

pub returns-clause-puts : goal.returns-clause-puts
returns-clause-puts g c =
    put_both (option_to_list c.args.second) _ c.args.writer.now c.put.new.writer c.put-2.new.writer
    c.put-2.result c.requires.sound c.requires.is
    c.in_ok-put.ensures.puts c.put-2.ensures.puts
