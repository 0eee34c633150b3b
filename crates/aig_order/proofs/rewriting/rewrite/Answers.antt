use Rattle.std.proofs.Common.{◌∙◌, sym, subst}
use Rattle.em_space.specs.Seen.{seen}
use Rattle.em_chain.specs.Chain.{IsChain}
use Rattle.em_chain.specs.declared.chain.Chain.{Chain}
use Rattle.aig_edges.proofs.CopiedLists.{ends_copy, opens_copy}
use Rattle.aig_order.proofs.RewrittenLists.{is_rewritten, leads_become, rewrite_ends, rewrite_stands, rewrite_stops, rewrite_unended}
use Rattle.aig_order.proofs.rewriting.rewrite.Goals as goal

pub rewrite_all-requires-clause-are : goal.rewrite_all-requires-clause-are
rewrite_all-requires-clause-are g c =
    let r = c.taking-reader.ensures in
    let w = c.new-writer.ensures in
    (opens_copy c.requires.can r.lends r.unmoved r.opens w.lends w.unmoved w.begins).are

pub rewrite_all-requires-clause-count : goal.rewrite_all-requires-clause-count
rewrite_all-requires-clause-count g c =
    let r = c.taking-reader.ensures in
    let w = c.new-writer.ensures in
    (opens_copy c.requires.can r.lends r.unmoved r.opens w.lends w.unmoved w.begins).count_is
    ∙ sym c.len-count.ensures

pub returns-in-Err-clause-rewrites : goal.returns-in-Err-clause-rewrites
returns-in-Err-clause-rewrites g c =
    let r = c.taking-reader.ensures in
    let w = c.new-writer.ensures in
    let a = c.abandon.ensures in
    let b = c.abandon-in-Err.ensures in
    rewrite_stops
    (opens_copy c.requires.can r.lends r.unmoved r.opens w.lends w.unmoved w.begins)
    c.in-Err.ensures.rewrites a.gives a.unmoved b.gives b.unmoved

pub end-rest-requires-clause-is : goal.end-rest-requires-clause-is
end-rest-requires-clause-is g c =
    let r = c.taking-reader.ensures in
    let w = c.new-writer.ensures in
    let o = is_rewritten
    (opens_copy c.requires.can r.lends r.unmoved r.opens w.lends w.unmoved w.begins)
    c.in-Ok.ensures.rewrites c.len-count.ensures in
    o.are.pair.reader

pub discard-requires-clause-is : goal.discard-requires-clause-is
discard-requires-clause-is g c =
    let r = c.taking-reader.ensures in
    let w = c.new-writer.ensures in
    let o = is_rewritten
    (opens_copy c.requires.can r.lends r.unmoved r.opens w.lends w.unmoved w.begins)
    c.in-Ok.ensures.rewrites c.len-count.ensures in
    let b = c.end-rest.ensures in
    let e = ends_copy o.are o.none o.out b.gives b.unmoved b.stays in
    subst (λ (z : Chain). IsChain (seen g.D.Device.state c.end-rest.new.rig) z) (sym b.words) e.chain

pub finish-requires-clause-is : goal.finish-requires-clause-is
finish-requires-clause-is g c =
    let r = c.taking-reader.ensures in
    let w = c.new-writer.ensures in
    let o = is_rewritten
    (opens_copy c.requires.can r.lends r.unmoved r.opens w.lends w.unmoved w.begins)
    c.in-Ok.ensures.rewrites c.len-count.ensures in
    let b = c.end-rest.ensures in
    let e = ends_copy o.are o.none o.out b.gives b.unmoved b.stays in
    let d = c.in-Ok-discard.ensures in
    (rewrite_stands _ _ o b.gives e b.words d.goes d.frees).is

pub returns-in-Ok-discard-clause-rewrites : goal.returns-in-Ok-discard-clause-rewrites
returns-in-Ok-discard-clause-rewrites g c =
    let r = c.taking-reader.ensures in
    let w = c.new-writer.ensures in
    let m = c.in-Ok.ensures.rewrites in
    let o = is_rewritten
    (opens_copy c.requires.can r.lends r.unmoved r.opens w.lends w.unmoved w.begins) m
    c.len-count.ensures in
    let b = c.end-rest.ensures in
    let e = ends_copy o.are o.none o.out b.gives b.unmoved b.stays in
    let d = c.in-Ok-discard.ensures in
    let f = c.finish.ensures in
    rewrite_ends c.args.last (seen g.D.Device.state c.finish.new.rig) c.finish.result
    (rewrite_stands _ _ o b.gives e b.words d.goes d.frees) (leads_become m.leads) f.gives f.finishes
    f.spends f.cause

pub returns-in-Err-discard-clause-rewrites : goal.returns-in-Err-discard-clause-rewrites
returns-in-Err-discard-clause-rewrites g c =
    let r = c.taking-reader.ensures in
    let w = c.new-writer.ensures in
    let o = is_rewritten
    (opens_copy c.requires.can r.lends r.unmoved r.opens w.lends w.unmoved w.begins)
    c.in-Ok.ensures.rewrites c.len-count.ensures in
    let b = c.end-rest.ensures in
    let e = ends_copy o.are o.none o.out b.gives b.unmoved b.stays in
    let d = c.in-Err-discard.ensures in
    let x = c.abandon-in-Err-discard.ensures in
    rewrite_unended _ o b.gives e b.words d.goes d.frees d.cause x.gives x.unmoved
