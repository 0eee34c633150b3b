use Rattle.std.proofs.Common.{[]}
use Rattle.em_space.specs.Seen.{seen}
use Rattle.em_space.proofs.Held.{apart_none}
use Rattle.em_chain.specs.Chain.{chain_blocks}
use Rattle.em_chain.specs.Reader.{rest_of}
use Rattle.em_chain.proofs.Laws.{chain_stays}
use Rattle.em_chain.proofs.Views.{view_stays}
use Rattle.em_chain.proofs.reader.Reader.end.Goals as goal

pub returns-clause-view : goal.returns-clause-view
returns-clause-view g c =
    let s = seen g.D.Device.state c.args.rig.now in
    view_stays [] s _ (rest_of c.args.self) c.give.ensures.touches
    (λ _. apart_none (chain_blocks s (rest_of c.args.self))) c.requires.is.chain

pub returns-clause-stays : goal.returns-clause-stays
returns-clause-stays g c =
    let s = seen g.D.Device.state c.args.rig.now in
    chain_stays [] s _ (rest_of c.args.self) c.give.ensures.touches
    (λ _. apart_none (chain_blocks s (rest_of c.args.self)))
