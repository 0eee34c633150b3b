use Rattle.em_node.specs.Node.{entries_of}
use Rattle.em_empty.proofs.AllDealt.{both_opened, deals_all, deals_frames, rack_given}
use Rattle.em_empty.proofs.dealing.deal_all.Goals as goal

pub deal-dealt-requires-clause-both : goal.deal-dealt-requires-clause-both
deal-dealt-requires-clause-both g c =
    let e = c.taking-reader.ensures in both_opened e.lends e.opens c.requires.is c.requires.apart

pub returns-clause-deals : goal.returns-clause-deals
returns-clause-deals g c =
    let e = c.taking-reader.ensures in
    let d = c.deal-dealt.ensures in
    let v = c.abandon.ensures in
    let frames = deals_frames _ _ _ _ _ _ _ _ _ c.deal-dealt.result d.deals in
    deals_all _ _ (entries_of c.args.frame.now) c.deal-dealt.result c.len-records.ensures e.lends e.unmoved e.opens c.requires.chain
    c.requires.is c.requires.apart c.requires.whole d.deals v.gives v.unmoved
    (rack_given c.requires.is.has e.lends frames v.gives d.len d.rack)
