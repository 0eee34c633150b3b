use Rattle.em_segment.proofs.LeafTakes.{pair_keeps, piece_read, takes_by, takes_err, takes_refused}
use Rattle.em_segment.proofs.leaf.add_taken.Goals as goal

pub returns-in_err-piece-clause-takes : goal.returns-in_err-piece-clause-takes
returns-in_err-piece-clause-takes g c =
    let e = c.in_err-piece.ensures in
    let b = c.requires.beside in
    takes_err c.args.load.now 1 _ _ _ _ _ _ _ c.from_residual.result _ c.from_residual.ensures.1
    (takes_refused c.args.load.now _ c.requires.sound b e.goes (e.spends b.taking) e.cause)

pub add_piece-requires-clause-is : goal.add_piece-requires-clause-is
add_piece-requires-clause-is g c =
    let e = c.in_ok-piece.ensures in
    let reads = rw c.in-Some.is at e.reads in
    let b = c.requires.beside in
    pair_keeps b.pairs (piece_read b e.goes reads (e.spends b.taking)) b.pairs.few

pub returns-clause-takes : goal.returns-clause-takes
returns-clause-takes g c =
    let e = c.in_ok-piece.ensures in
    let reads = rw c.in-Some.is at e.reads in
    let b = c.requires.beside in
    takes_by _ c.args.load.now _ c.add_piece.result b (piece_read b e.goes reads (e.spends b.taking))
    c.add_piece.ensures.writes
