use Rattle.std.proofs.Common.{rules, false}
use Rattle.em_space.specs.Seen.{seen}
use Rattle.std.proofs.lemmas.Bool.{false≢true}
use Rattle.em_chain.proofs.Readers.{opens}
use Rattle.em_chain.proofs.reader.Reader.over.Goals as goal

pub returns-clause-opens : goal.returns-clause-opens
returns-clause-opens g c =
    let s = seen g.D.Device.state c.args.rig.now in
    let t = seen g.D.Device.state c.lend-frame.new.self in
    opens s t c.args.chain.now false c.lend-frame.result c.lend-frame.ensures.touches c.requires.is
    (λ y. absurd (false≢true y)) (search rules)
