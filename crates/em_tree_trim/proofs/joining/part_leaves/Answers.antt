use Rattle.std.proofs.Common.{◌≤◌, arith, subst}
use Rattle.em_record.specs.Shape.{ShapeNumbers}
use Rattle.em_frames.specs.Pool.{load_of}
use Rattle.em_tree_trim.proofs.Parted.{can_fuse_by, fused_by, parts_damaged, parts_long, parts_of}
use Rattle.em_tree_trim.proofs.joining.part_leaves.Goals as goal

pub returns-then-blocks-len : goal.returns-then-blocks-len
returns-then-blocks-len g c =
    let more = c.if-blocks-len.true in
    let e1 = c.blocks-2.ensures in
    let e2 = c.blocks-3.ensures in
    let e3 = c.len.ensures in
    let e4 = c.len-2.ensures in
    parts_damaged c.requires.sound c.requires.can (omega (arith, more, e1, e2, e3, e4))

pub returns-in_err-key : goal.returns-in_err-key
returns-in_err-key g c =
    parts_of c.requires.sound c.requires.can c.from_residual.result c.in_err-key.field-0.0
    c.from_residual.ensures.1 c.in_err-key.ensures

pub returns-then-are_long : goal.returns-then-are_long
returns-then-are_long g c =
    let P : ShapeNumbers → Type 0 = λ sh. (load_of sh ≤ c.args.low.count) × (load_of sh ≤ c.args.high.count) in
    let long = subst P c.shape.ensures (c.are_long.ensures.0 c.if-are_long.true) in
    parts_long c.requires.sound c.requires.can long.0 long.1 c.in_ok-key.ensures

pub fuse_leaves-requires-clause-can : goal.fuse_leaves-requires-clause-can
fuse_leaves-requires-clause-can g c =
    let few = c.if-blocks-len.false in
    let e1 = c.blocks-2.ensures in
    let e2 = c.blocks-3.ensures in
    let e3 = c.len.ensures in
    let e4 = c.len-2.ensures in
    can_fuse_by c.requires.sound c.requires.can c.are_long.result c.shape.result
    (omega (arith, few, e1, e2, e3, e4)) c.shape.ensures c.are_long.ensures c.if-are_long.false

pub returns : goal.returns
returns g c =
    let few = c.if-blocks-len.false in
    let e1 = c.blocks-2.ensures in
    let e2 = c.blocks-3.ensures in
    let e3 = c.len.ensures in
    let e4 = c.len-2.ensures in
    let can = can_fuse_by c.requires.sound c.requires.can c.are_long.result c.shape.result
    (omega (arith, few, e1, e2, e3, e4)) c.shape.ensures c.are_long.ensures c.if-are_long.false in
    let f = c.fuse_leaves.ensures in
    fused_by c.requires.sound c.requires.can _ c.fuse_leaves.result can f.fuses f.leaves f.runs f.moves
