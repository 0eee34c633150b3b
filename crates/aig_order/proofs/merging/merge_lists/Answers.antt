use Rattle.em_space.specs.Seen.{seen}
use Rattle.em_space.proofs.Lists.{distinct_apart}
use Rattle.aig_order.proofs.MergedLists.{ends_merge, merge_ends, merge_stops, merge_unended, merges_whole, opens_merge}
use Rattle.aig_order.proofs.merging.merge_lists.Goals as goal

pub new-weave-requires-clause-apart : goal.new-weave-requires-clause-apart
new-weave-requires-clause-apart g c = λ z.
    distinct_apart _ _ ((c.requires.can.holds z).distinct z)

pub merge_all-requires-clause-are : goal.merge_all-requires-clause-are
merge_all-requires-clause-are g c =
    let w = c.new-weave.ensures in
    let v = c.new-writer.ensures in
    (opens_merge c.requires.can w.lends w.unmoved w.opens v.lends v.unmoved v.begins).are

pub returns-in-Err : goal.returns-in-Err
returns-in-Err g c =
    let w = c.new-weave.ensures in
    let v = c.new-writer.ensures in
    let a = c.abandon.ensures in
    let b = c.abandon-in-Err.ensures in
    record {
      merges = merge_stops c.args.header.now c.args.merge
          (opens_merge c.requires.can w.lends w.unmoved w.opens v.lends v.unmoved v.begins)
          c.in-Err.ensures.merges a.gives a.unmoved b.gives b.unmoved;
    }

pub finish-requires-clause-is : goal.finish-requires-clause-is
finish-requires-clause-is g c =
    let w = c.new-weave.ensures in
    let v = c.new-writer.ensures in
    let o = merges_whole
    (opens_merge c.requires.can w.lends w.unmoved w.opens v.lends v.unmoved v.begins)
    c.in-Ok.ensures.merges in
    (ends_merge o.are o.out c.end.ensures.gives c.in-Ok-end.ensures.costs).writer.is

pub returns-in-Ok-end : goal.returns-in-Ok-end
returns-in-Ok-end g c =
    let w = c.new-weave.ensures in
    let v = c.new-writer.ensures in
    let f = c.finish.ensures in
    let o = merges_whole
    (opens_merge c.requires.can w.lends w.unmoved w.opens v.lends v.unmoved v.begins)
    c.in-Ok.ensures.merges in
    record {
      merges = merge_ends (seen g.D.Device.state c.finish.new.rig) c.finish.result o
          (ends_merge o.are o.out c.end.ensures.gives c.in-Ok-end.ensures.costs) f.gives
          f.finishes f.spends f.cause;
    }

pub returns-in-Err-end : goal.returns-in-Err-end
returns-in-Err-end g c =
    let w = c.new-weave.ensures in
    let v = c.new-writer.ensures in
    let b = c.abandon-in-Err-end.ensures in
    let e = c.in-Err-end.ensures in
    record {
      merges = merge_unended (merges_whole
          (opens_merge c.requires.can w.lends w.unmoved w.opens v.lends v.unmoved v.begins)
          c.in-Ok.ensures.merges) c.end.ensures.gives e.costs e.cause b.gives b.unmoved;
    }
