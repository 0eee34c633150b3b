use Rattle.em_tree_load.proofs.Releasings.{leaf_ends, leaf_left, leaf_stays, releases_of}
use Rattle.em_tree_load.proofs.releasing.release_leaf.Goals as goal

pub returns-in_err-release : goal.returns-in_err-release
returns-in_err-release g c =
    let e = c.in_err-release.ensures in
    releases_of _ _ 0 c.args.leaf c.from_residual-in_err-release.result
    c.in_err-release.field-0.0 c.from_residual-in_err-release.ensures.1
    (leaf_stays c.args.leaf c.in_ok-stored.stored c.in_ok-stored.ensures e.goes e.same e.most
    e.moves e.cause)

pub discard-requires-clause-is : goal.discard-requires-clause-is
discard-requires-clause-is g c =
    let e = c.in_ok-release.ensures in
    (leaf_left c.args.leaf c.in_ok-stored.stored c.requires.can c.in_ok-stored.ensures e.goes
    e.released e.most e.moves).chain

pub returns : goal.returns
returns g c =
    let e = c.in_ok-release.ensures in
    let d = c.discard.ensures in
    let w = leaf_left c.args.leaf c.in_ok-stored.stored c.requires.can c.in_ok-stored.ensures e.goes
    e.released e.most e.moves in
    leaf_ends c.args.leaf c.in_ok-stored.stored c.discard.result w d.goes d.frees d.cause
