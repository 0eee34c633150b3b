use Rattle.std.proofs.Common.{◌≡◌, true, arith}
use Rattle.aig_defs.specs.Sorted as sorted
use Rattle.aig_edges.proofs.Stepped.{keeps_by, keeps_damaged, keeps_gate}
use Rattle.aig_edges.proofs.comparing.keep_def.Goals as goal

pub returns-then-not-is_source-clause-keeps : goal.returns-then-not-is_source-clause-keeps
returns-then-not-is_source-clause-keeps g c =
    let t = c.if-not-is_source.true in
    let e = c.is_source.ensures in
    keeps_gate c.args.count c.args.def c.requires.are c.requires.most cc

pub returns-then-len-count-clause-keeps : goal.returns-then-len-count-clause-keeps
returns-then-len-count-clause-keeps g c =
    let t = c.if-not-is_source.false in
    let e = c.is_source.ensures in
    let l = c.len.ensures in
    let n = c.if-len-count.true in
    keeps_damaged c.args.count c.requires.are c.requires.most (λ z.
    let m = c.requires.left z cc in
    absurd (omega arith))

pub returns-clause-keeps : goal.returns-clause-keeps
returns-clause-keeps g c =
    let t = c.if-not-is_source.false in
    let e = c.is_source.ensures in
    let l = c.len.ensures in
    let n = c.if-len-count.false in
    let m = c.requires.most in
    let o = c.append.ensures in
    let b : sorted.is_source c.args.def ≡ true = cc in
    keeps_by c.args.count c.args.def c.plain_def.result c.append.result c.requires.are (omega arith) b
    c.plain_def.ensures o.goes o.appends o.costs o.spends o.cause
