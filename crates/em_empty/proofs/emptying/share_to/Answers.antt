use Rattle.std.proofs.Common.{◌∙◌, length, refl}
use Rattle.em_node.specs.Node.{entries_of}
use Rattle.em_empty.proofs.Rounds.{awaits_len}
use Rattle.em_empty.proofs.Shared.{shares_by, shares_none, shares_stopped}
use Rattle.em_empty.proofs.emptying.share_to.Goals as goal

pub returns-in_err-deal_all-clause-shares : goal.returns-in_err-deal_all-clause-shares
returns-in_err-deal_all-clause-shares g c =
    shares_stopped _ c.args.buffer c.args.frame.now _ _ c.from_residual.result c.from_residual.ensures.1
    c.requires.awaits c.in_err-deal_all.ensures.deals

pub return_all-requires-clause-len : goal.return_all-requires-clause-len
return_all-requires-clause-len g c = c.deal_all.ensures.len ∙ awaits_len c.requires.awaits

pub returns-clause-shares : goal.returns-clause-shares
returns-clause-shares g c =
    shares_by c.args.frame.now (length (entries_of c.args.frame.now)) _ _ _ c.return_all.result
    c.requires.sound c.requires.awaits c.in_ok-deal_all.ensures.deals refl c.return_all.ensures.returns

pub returns-clause-none : goal.returns-clause-none
returns-clause-none g c =
    shares_none _ _ _ _ _ _ (length (entries_of c.args.frame.now)) c.return_all.result
    (c.deal_all.ensures.len ∙ awaits_len c.requires.awaits) c.return_all.ensures.returns
