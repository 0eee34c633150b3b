use Rattle.std.proofs.Common.{[], sym, subst, ◌∙◌}
use Rattle.em_space.specs.Seen.{seen}
use Rattle.em_space.proofs.Held.{apart_none}
use Rattle.em_chain.specs.Chain.{IsChain, chain_blocks}
use Rattle.em_chain.specs.View.{IsView}
use Rattle.em_chain.specs.declared.chain.Chain.{Chain}
use Rattle.em_chain.proofs.Laws.{same_words}
use Rattle.em_chain.proofs.Views.{view_of, view_stays}
use Rattle.em_list_tests.proofs.chains.scanned_twice.Goals as goal

pub scans-requires-clause-is : goal.scans-requires-clause-is
scans-requires-clause-is g c =
    let t = seen g.D.Device.state c.write.new.rig in
    let d = c.from_words-chain.result in
    let e = same_words c.in_ok-written.written d
    (sym c.words.ensures ∙ c.from_words-chain.ensures) in
    view_of t d (subst (λ (x : Chain). IsChain t x) e c.in_ok-written.ensures.is)

pub scans-requires-2-clause-is : goal.scans-requires-2-clause-is
scans-requires-2-clause-is g c =
    let t = seen g.D.Device.state c.write.new.rig in
    let u = seen g.D.Device.state c.scans.new.rig in
    let d = c.from_words-chain.result in
    let e = same_words c.in_ok-written.written d
    (sym c.words.ensures ∙ c.from_words-chain.ensures) in
    let i : IsView t d = view_of t d
    (subst (λ (x : Chain). IsChain t x) e c.in_ok-written.ensures.is) in
    (view_stays [] t u d c.scans.ensures.goes.touches (λ _. apart_none (chain_blocks t d)) i).is
