use Rattle.std.proofs.Common.{◌∙◌, arith, sym}
use Rattle.em_space.specs.Seen.{seen}
use Rattle.aig_edges.proofs.Looks.{nil_of, of_fault}
use Rattle.aig_table.specs.Columns.{PushesColumnsTo}
use Rattle.aig_table.specs.Tables.{bits_at}
use Rattle.aig_table.proofs.Pushed.{columns_as, columns_can, columns_lack, columns_next, columns_none, columns_stop}
use Rattle.aig_table.proofs.Tables.{bits_last, length_bits_at}
use Rattle.aig_table.proofs.pushing.push_columns.Goals as goal

pub loop-number-init : goal.loop-number-init
loop-number-init g c =
    let laws = g.met.Q.Queue in
    let x = c.args.queue.now in
    let s = seen g.D.Device.state c.args.rig.now in
    record {
      queue = c.requires.is;
      pushes = columns_none g.Q.Queue x c.requires.can.sound (laws.blocks_most x s c.requires.is)
          (laws.holds x s c.requires.is) c.requires.empty
          (λ z. nil_of _ (sym (laws.len_is x s c.requires.is z) ∙ c.requires.empty));
    }

pub push_column-requires-clause-can : goal.push_column-requires-clause-can
push_column-requires-clause-can g c =
    let n = length_bits_at c.args.row.now 0 c.loop-number.number in
    columns_can g.Q.Queue c.args.count c.requires.can c.requires.empty (omega (arith, n, c.loop-number-test.true))
    c.loop-number.invariant.pushes

pub push_column-requires-clause-lacks : goal.push_column-requires-clause-lacks
push_column-requires-clause-lacks g c =
    columns_lack g.Q.Queue c.get-bit.result c.loop-number.number
    (length_bits_at c.args.row.now 0 c.loop-number.number) c.loop-number.invariant.pushes

pub loop-number-preserved : goal.loop-number-preserved
loop-number-preserved g c =
    let e = c.in_ok-push_column.ensures in
    record {
      queue = e.queue;
      pushes = columns_next g.Q.Queue c.args.row.now c.get-bit.result c.loop-number.number
          (rw (c.get-bit.ensures.is) (bits_last c.args.row.now c.loop-number.number))
          c.loop-number.invariant.pushes e.pushes;
    }

pub returns-in_err-push_column-clause-pushes : goal.returns-in_err-push_column-clause-pushes
returns-in_err-push_column-clause-pushes g c =
    let n = length_bits_at c.args.row.now 0 c.loop-number.number in
    of_fault (λ r. PushesColumnsTo g.Q.Queue c.args.count (bits_at c.args.row.now 0 c.args.count)
    c.args.queue.now c.push_column.new.queue (seen g.D.Device.state c.args.rig.now)
    (seen g.D.Device.state c.push_column.new.rig) r) _ _ c.from_residual.ensures.1
    (columns_stop g.Q.Queue c.args.count (omega (arith, n, c.loop-number-test.true))
    c.loop-number.invariant.pushes c.in_err-push_column.ensures.pushes)

pub returns-clause-pushes : goal.returns-clause-pushes
returns-clause-pushes g c =
    columns_as g.Q.Queue c.args.row.now
    (omega (arith, c.loop-number-test.false, c.loop-number.auto.number-end)) c.loop-number.invariant.pushes
