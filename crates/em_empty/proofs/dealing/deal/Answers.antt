use Rattle.std.proofs.Common.{arith}
use Rattle.em_node.specs.Node.{entries_of}
use Rattle.em_empty.proofs.Rounds.{awaits_len, awaits_none, can_take, dealt_begins, dealt_both, dealt_next, deals_failed}
use Rattle.em_empty.proofs.dealing.deal.Goals as goal

pub loop-init : goal.loop-init
loop-init g c = record {
  dealt = dealt_begins _ (entries_of c.args.frame.now) c.requires.sound c.requires.both;
  count = omega arith;
}

pub deal_next-requires-clause-both : goal.deal_next-requires-clause-both
deal_next-requires-clause-both g c = dealt_both c.requires.both.taking c.loop.invariant.dealt

pub deal_next-requires-clause-can : goal.deal_next-requires-clause-can
deal_next-requires-clause-can g c =
    can_take c.requires.awaits c.loop-test.true c.loop.invariant.dealt

pub returns-in_err-deal_next-clause-deals : goal.returns-in_err-deal_next-clause-deals
returns-in_err-deal_next-clause-deals g c =
    deals_failed _ _ _ _ _ _ _ _ c.from_residual.result c.from_residual.ensures.1 c.requires.sound
    (awaits_none c.requires.awaits) (awaits_len c.requires.awaits) c.loop-test.true
    c.loop.invariant.dealt c.in_err-deal_next.ensures.deals

pub loop-preserved : goal.loop-preserved
loop-preserved g c = record {
  dealt = dealt_next c.requires.sound (awaits_none c.requires.awaits) (awaits_len c.requires.awaits)
      c.loop.invariant.dealt c.in_ok-deal_next.ensures.deals;
  count = omega (arith, c.loop-test.true);
}
