use Rattle.std.proofs.Common.{List, subst}
use Rattle.em_record.specs.declared.record.Record.{Record}
use Rattle.em_space.specs.Seen.{seen}
use Rattle.em_chain.specs.Chain.{chain_items}
use Rattle.em_chain.specs.Reader.{reader_items}
use Rattle.em_chain.proofs.Views.{view_of}
use Rattle.aig_edges.proofs.Looks.{all_lent}
use Rattle.aig_order.specs.Marks.{Recalls}
use Rattle.aig_order.proofs.recalling.recall.Goals as goal

pub over-reader-requires-clause-is : goal.over-reader-requires-clause-is
over-reader-requires-clause-is g c = view_of _ _ c.requires.is

pub returns-clause-recalls : goal.returns-clause-recalls
returns-clause-recalls g c =
    let o = c.over-reader.ensures in
    let list = c.args.list.now in
    let new = c.recall_all-done.new.row in
    all_lent (λ done. Recalls c.args.last c.args.next
    (reader_items (seen g.D.Device.state c.over-reader.new.rig) c.over-reader.result) c.args.row.now new)
    (λ done. Recalls c.args.last c.args.next (chain_items (seen g.D.Device.state c.args.rig.now) list)
    c.args.row.now new) c.recall_all-done.result o.lends o.unmoved o.opens
    c.recall_all-done.ensures.recalls c.abandon.ensures.gives c.abandon.ensures.unmoved
    (λ z x p. subst (λ (rs : List Record). Recalls c.args.last c.args.next rs c.args.row.now new)
    (o.opens.items z) p)
