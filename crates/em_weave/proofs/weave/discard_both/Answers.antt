use Rattle.std.proofs.Common.{◌++◌}
use Rattle.em_space.specs.Seen.{seen}
use Rattle.em_space.proofs.Lists.{apart_sym}
use Rattle.em_space.proofs.Within.{goes_wider, goes_within, within_kept, within_left, within_right}
use Rattle.em_chain.specs.Chain.{chain_blocks}
use Rattle.em_chain.proofs.Laws.{chain_stays}
use Rattle.em_weave.proofs.weave.discard_both.Goals as goal

pub returns-in_err-discard-clause-goes : goal.returns-in_err-discard-clause-goes
returns-in_err-discard-clause-goes g c =
    let s = seen g.D.Device.state c.args.rig.now in
    let t = seen g.D.Device.state c.discard.new.rig in
    let ks = chain_blocks s c.args.left in
    let js = chain_blocks s c.args.right in
    goes_wider (ks ++ js) ks s t (within_left s ks js) c.discard.ensures.goes

pub discard-requires-2-clause-is : goal.discard-requires-2-clause-is
discard-requires-2-clause-is g c =
    let s = seen g.D.Device.state c.args.rig.now in
    let t = seen g.D.Device.state c.discard.new.rig in
    let ks = chain_blocks s c.args.left in
    let js = chain_blocks s c.args.right in
    (chain_stays ks s t c.args.right c.discard.ensures.goes.touches
    (λ z. apart_sym ks js (c.requires.apart z)) c.requires.right).is

pub returns-clause-goes : goal.returns-clause-goes
returns-clause-goes g c =
    let s = seen g.D.Device.state c.args.rig.now in
    let t = seen g.D.Device.state c.discard.new.rig in
    let u = seen g.D.Device.state c.discard-2.new.rig in
    let ks = chain_blocks s c.args.left in
    let js = chain_blocks s c.args.right in
    let st = chain_stays ks s t c.args.right c.discard.ensures.goes.touches
    (λ z. apart_sym ks js (c.requires.apart z)) c.requires.right in
    goes_within (ks ++ js) (chain_blocks t c.args.right) s t u
    (goes_wider (ks ++ js) ks s t (within_left s ks js) c.discard.ensures.goes)
    (within_kept s (ks ++ js) js (chain_blocks t c.args.right) (within_right s ks js) st.blocks)
    c.discard-2.ensures.goes
