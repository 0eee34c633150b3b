use Rattle.std.proofs.Common.{◌∙◌, arith, refl}
use Rattle.em_space.specs.Seen.{seen}
use Rattle.aig_edges.proofs.Looks.{of_fault}
use Rattle.aig_table.specs.Loads.{LoadsTo}
use Rattle.aig_table.proofs.Loaded.{loads_as, loads_none, loads_stop, loads_then}
use Rattle.aig_table.proofs.loading.load_all.Goals as goal

pub loop-number-init : goal.loop-number-init
loop-number-init g c = record {
  loads = loads_none c.args.table.now c.requires.sound c.requires.is c.requires.taking;
  long = refl;
}

pub loop-number-preserved : goal.loop-number-preserved
loop-number-preserved g c =
    let i = c.loop-number.invariant in
    let e = c.in_ok-load_next.ensures in
    record {
      loads = loads_then c.loop-number.number i.long i.loads e.loads;
      long = e.long ∙ i.long;
    }

pub returns-in_err-load_next-clause-loads : goal.returns-in_err-load_next-clause-loads
returns-in_err-load_next-clause-loads g c =
    of_fault (λ r. LoadsTo 0 c.args.count (seen g.D.Device.state c.args.rig.now)
    (seen g.D.Device.state c.load_next.new.rig) c.args.reader.now c.load_next.new.reader c.args.table.now
    c.load_next.new.table r) _ _ c.from_residual.ensures.1
    (loads_stop c.loop-number.number c.loop-number.invariant.loads c.in_err-load_next.ensures.loads)

pub returns-clause-loads : goal.returns-clause-loads
returns-clause-loads g c =
    loads_as (omega (arith, c.loop-number-test.false, c.loop-number.auto.number-end))
    c.loop-number.invariant.loads
