use Rattle.std.proofs.Common.{arith}
use Rattle.aig_table.proofs.Kept.{begun_can, keeps_finished, keeps_refused}
use Rattle.aig_table.proofs.Tables.{length_bits_at}
use Rattle.aig_table.proofs.keeping.keep.Goals as goal

pub keep_all-requires-clause-can : goal.keep_all-requires-clause-can
keep_all-requires-clause-can g c =
    let o = c.new-list.ensures in
    let few = c.requires.few in
    begun_can c.args.count (omega (arith, few)) o.lends c.requires.free o.begins

pub returns-in-Ok : goal.returns-in-Ok
returns-in-Ok g c =
    let o = c.new-list.ensures in
    let f = c.finish.ensures in
    record {
      keeps = keeps_finished c.requires.sound o.lends o.unmoved o.begins c.in-Ok.ensures.keeps c.finish.result
          f.gives f.finishes f.spends f.cause;
    }

pub returns-in-Err : goal.returns-in-Err
returns-in-Err g c =
    let o = c.new-list.ensures in
    let a = c.abandon.ensures in
    let n = length_bits_at c.args.table.now c.args.first c.args.count in
    record {
      keeps = rw n (keeps_refused c.args.count c.requires.sound o.lends o.unmoved o.begins c.in-Err.ensures.keeps
          a.gives a.unmoved);
    }
