use Rattle.std.proofs.Common.{[], sym}
use Rattle.em_space.specs.Seen.{seen}
use Rattle.em_chain.specs.Chain.{chain_items}
use Rattle.em_chain.specs.Reader.{reader_items}
use Rattle.em_chain.proofs.Views.{view_of}
use Rattle.aig_edges.proofs.Looks.{all_lent}
use Rattle.aig_table.specs.Follows.{FollowsTo}
use Rattle.aig_table.proofs.Followed.{follow_as}
use Rattle.aig_table.proofs.following.follow_list.Goals as goal

pub over-reader-requires-clause-is : goal.over-reader-requires-clause-is
over-reader-requires-clause-is g c = view_of _ _ c.requires.is

pub returns-clause-follows : goal.returns-clause-follows
returns-clause-follows g c =
    let o = c.over-reader.ensures in
    let edges = c.args.edges.now in
    let new = c.follow_all-done.new.table in
    all_lent (λ done. FollowsTo (reader_items (seen g.D.Device.state c.over-reader.new.rig)
    c.over-reader.result) [] edges.count c.args.last c.args.table.now new)
    (λ done. FollowsTo (chain_items (seen g.D.Device.state c.args.rig.now) edges) [] edges.count c.args.last
    c.args.table.now new) c.follow_all-done.result o.lends o.unmoved o.opens
    (rw c.len.ensures at c.follow_all-done.ensures.follows) c.abandon.ensures.gives
    c.abandon.ensures.unmoved (λ z x p. follow_as edges.count c.args.last (sym (o.opens.items z)) p)
