use Rattle.std.proofs.Common.{sym, arith, ap, take}
use Rattle.em_space.specs.Seen.{seen}
use Rattle.em_chain.specs.Chain.{chain_items}
use Rattle.em_plain.specs.StabPairs.{pairs_of}
use Rattle.em_plain.proofs.Adds.{adds_as, adds_none, adds_to_as}
use Rattle.em_plain.proofs.StabLists.{pairs_other}
use Rattle.em_plain.proofs.stab_answers.StabsQuestion.answer.Goals as goal

pub returns-in-Stab-clause-done : goal.returns-in-Stab-clause-done
returns-in-Stab-clause-done g c =
    let earlier = take c.args.number
    (chain_items (seen g.D.Device.state c.args.rig.now) c.args.chain.now) in
    adds_to_as _ _ _ _ _ _ _ _ c.holders_before.result (omega (arith, c.requires.ready.few))
    (λ z. sym (ap (pairs_of c.args.stab earlier) c.in-Stab.is)) c.holders_before.ensures.done

pub returns-in_default : goal.returns-in_default
returns-in_default g c =
    let earlier = take c.args.number
    (chain_items (seen g.D.Device.state c.args.rig.now) c.args.chain.now) in
    record {
      done = adds_as _ _ (omega arith) (λ z. sym (pairs_other c.args.stab earlier c.args.command
          (λ point e. c.in_default.not-Stab point e)))
          (adds_none c.requires.ready.sound c.requires.ready.beside.writer.writer);
      frame = c.requires.ready.beside.writer.writer.frame;
    }
