use Rattle.em_chain.proofs.WritersTaking.{given_ends}
use Rattle.em_chain.proofs.member.MemberWords.end.Goals as goal

pub returns-clause-ends : goal.returns-clause-ends
returns-clause-ends g c =
    given_ends c.args.self.now c.args.frame c.if-self.false c.chain.ensures c.give.ensures.given
    c.requires.is
