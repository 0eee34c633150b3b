use Rattle.em_empty.proofs.Returned.{returns_refused}
use Rattle.em_empty.proofs.returning.return_last.Goals as goal

pub returns-in_err-chain-clause-returns : goal.returns-in_err-chain-clause-returns
returns-in_err-chain-clause-returns g c =
    let e = c.in_err-chain.ensures in
    returns_refused _ _ _ _ _ _ c.from_residual.result c.in_err-chain.field-0.0
    c.from_residual.ensures.1 e.len e.gives e.spends e.cause
