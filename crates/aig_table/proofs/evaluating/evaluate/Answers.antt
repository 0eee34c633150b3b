use Rattle.std.proofs.Common.{arith, subst, sym, IsTrue}
use Rattle.aig_table.specs.Steps.{Fits}
use Rattle.aig_table.proofs.Framed.{if_ok}
use Rattle.aig_table.proofs.evaluating.evaluate.Goals as goal

pub returns-clause-values : goal.returns-clause-values
returns-clause-values g c = if_ok _ _ c.evaluate.result c.evaluate.ensures.values (λ next f z. f z 0 (omega arith))

pub returns-clause-few : goal.returns-clause-few
returns-clause-few g c = λ f.
    let yes : IsTrue c.fits.result =
    c.fits.ensures.is.1 (subst (Fits c.args.limit c.args.header.now) (sym c.shape.ensures) f) in
    absurd (let no = c.if-fits.false in cc)
