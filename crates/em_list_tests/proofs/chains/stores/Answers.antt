use Rattle.std.proofs.Common.{arith}
use Rattle.em_space.specs.Seen.{seen}
use Rattle.em_chain.proofs.Tight.{stored_view}
use Rattle.em_list_tests.proofs.chains.stores.Goals as goal

pub scans-same-requires-clause-is : goal.scans-same-requires-clause-is
scans-same-requires-clause-is g c =
    let t = seen g.D.Device.state c.resume.new.rig in
    let b = c.blocks-2.ensures in
    let n = c.if-blocks-lt2.false in
    rw c.stored.ensures (stored_view t c.in_ok-writer.writer c.in_ok-writer.ensures.resumes.is
    (omega arith))
