use Rattle.em_tree_walk.proofs.Takings.{unread_stops}
use Rattle.em_tree_load.proofs.GoneNodes.{released_node, releases_node_of, unreleased_node}
use Rattle.em_tree_load.proofs.removing.release_node.Goals as goal

pub returns-in_err-child : goal.returns-in_err-child
returns-in_err-child g c =
    releases_node_of _ _ c.args.node c.from_residual.result c.in_err-child.field-0.0
    c.from_residual.ensures.1 (unread_stops c.args.node c.in_err-child.ensures)

pub returns-in_err-release : goal.returns-in_err-release
returns-in_err-release g c =
    let e = c.in_err-release.ensures in
    releases_node_of _ _ c.args.node c.from_residual-in_err-release.result
    c.in_err-release.field-0.0 c.from_residual-in_err-release.ensures.1
    (unreleased_node c.in_ok-child.ensures e.goes e.same e.moves e.cause)

pub returns : goal.returns
returns g c =
    let e = c.in_ok-release.ensures in
    released_node c.in_ok-child.ensures e.goes e.released e.most e.moves
