use Rattle.std.proofs.Common.{rules, true}
use Rattle.em_space.specs.Seen.{seen}
use Rattle.em_chain.proofs.Views.{view_of}
use Rattle.em_chain.proofs.Readers.{opens}
use Rattle.em_chain.proofs.reader.Reader.taking.Goals as goal

pub returns-clause-opens : goal.returns-clause-opens
returns-clause-opens g c =
    let s = seen g.D.Device.state c.args.rig.now in
    let t = seen g.D.Device.state c.lend-frame.new.self in
    opens s t c.args.chain true c.lend-frame.result c.lend-frame.ensures.touches
    (view_of s c.args.chain c.requires.is) (λ _. c.requires.is) (search rules)
