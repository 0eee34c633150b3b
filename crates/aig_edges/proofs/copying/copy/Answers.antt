use Rattle.std.proofs.Common.{◌∙◌, sym, subst}
use Rattle.em_space.specs.Seen.{seen}
use Rattle.em_chain.specs.Chain.{IsChain}
use Rattle.em_chain.specs.declared.chain.Chain.{Chain}
use Rattle.aig_edges.proofs.CopiedLists.{copies_whole, copy_ends, copy_stands, copy_stops, copy_unended, ends_copy, opens_copy}
use Rattle.aig_edges.proofs.copying.copy.Goals as goal

pub copy_all-requires-clause-are : goal.copy_all-requires-clause-are
copy_all-requires-clause-are g c =
    let r = c.taking-reader.ensures in
    let w = c.new-writer.ensures in
    (opens_copy c.requires.can r.lends r.unmoved r.opens w.lends w.unmoved w.begins).are

pub copy_all-requires-clause-count : goal.copy_all-requires-clause-count
copy_all-requires-clause-count g c =
    let r = c.taking-reader.ensures in
    let w = c.new-writer.ensures in
    (opens_copy c.requires.can r.lends r.unmoved r.opens w.lends w.unmoved w.begins).count_is
    ∙ sym c.len-count.ensures

pub returns-in-Err : goal.returns-in-Err
returns-in-Err g c =
    let r = c.taking-reader.ensures in
    let w = c.new-writer.ensures in
    let a = c.abandon.ensures in
    let b = c.abandon-in-Err.ensures in
    record {
      copies = copy_stops c.args.kind
          (opens_copy c.requires.can r.lends r.unmoved r.opens w.lends w.unmoved w.begins)
          c.in-Err.ensures.copies a.gives a.unmoved b.gives b.unmoved;
    }

pub end-rest-requires-clause-is : goal.end-rest-requires-clause-is
end-rest-requires-clause-is g c =
    let r = c.taking-reader.ensures in
    let w = c.new-writer.ensures in
    let o = copies_whole
    (opens_copy c.requires.can r.lends r.unmoved r.opens w.lends w.unmoved w.begins)
    (rw c.len-count.ensures at c.in-Ok.ensures.copies) in
    o.are.pair.reader

pub discard-requires-clause-is : goal.discard-requires-clause-is
discard-requires-clause-is g c =
    let r = c.taking-reader.ensures in
    let w = c.new-writer.ensures in
    let o = copies_whole
    (opens_copy c.requires.can r.lends r.unmoved r.opens w.lends w.unmoved w.begins)
    (rw c.len-count.ensures at c.in-Ok.ensures.copies) in
    let b = c.end-rest.ensures in
    let e = ends_copy o.are o.none o.out b.gives b.unmoved b.stays in
    subst (λ (z : Chain). IsChain (seen g.D.Device.state c.end-rest.new.rig) z) (sym b.words) e.chain

pub finish-requires-clause-is : goal.finish-requires-clause-is
finish-requires-clause-is g c =
    let r = c.taking-reader.ensures in
    let w = c.new-writer.ensures in
    let o = copies_whole
    (opens_copy c.requires.can r.lends r.unmoved r.opens w.lends w.unmoved w.begins)
    (rw c.len-count.ensures at c.in-Ok.ensures.copies) in
    let b = c.end-rest.ensures in
    let e = ends_copy o.are o.none o.out b.gives b.unmoved b.stays in
    let d = c.in-Ok-discard.ensures in
    (copy_stands _ _ o b.gives e b.words d.goes d.frees).is

pub returns-in-Ok-discard : goal.returns-in-Ok-discard
returns-in-Ok-discard g c =
    let r = c.taking-reader.ensures in
    let w = c.new-writer.ensures in
    let o = copies_whole
    (opens_copy c.requires.can r.lends r.unmoved r.opens w.lends w.unmoved w.begins)
    (rw c.len-count.ensures at c.in-Ok.ensures.copies) in
    let b = c.end-rest.ensures in
    let e = ends_copy o.are o.none o.out b.gives b.unmoved b.stays in
    let d = c.in-Ok-discard.ensures in
    let f = c.finish.ensures in
    record {
      copies = copy_ends (seen g.D.Device.state c.finish.new.rig) c.finish.result
          (copy_stands _ _ o b.gives e b.words d.goes d.frees) f.gives f.finishes f.spends
          f.cause;
    }

pub returns-in-Err-discard : goal.returns-in-Err-discard
returns-in-Err-discard g c =
    let r = c.taking-reader.ensures in
    let w = c.new-writer.ensures in
    let o = copies_whole
    (opens_copy c.requires.can r.lends r.unmoved r.opens w.lends w.unmoved w.begins)
    (rw c.len-count.ensures at c.in-Ok.ensures.copies) in
    let b = c.end-rest.ensures in
    let e = ends_copy o.are o.none o.out b.gives b.unmoved b.stays in
    let d = c.in-Err-discard.ensures in
    let x = c.abandon-in-Err-discard.ensures in
    record {
      copies = copy_unended _ o b.gives e b.words d.goes d.frees d.cause x.gives x.unmoved;
    }
