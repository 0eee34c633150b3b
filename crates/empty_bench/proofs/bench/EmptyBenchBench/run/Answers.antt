use Rattle.std.proofs.Common.{◌∙◌}
use Rattle.empty_bench.proofs.Weights.{answer_is}
use Rattle.empty_bench.proofs.bench.EmptyBenchBench.run.Goals as goal

pub returns-clause-answers : goal.returns-clause-answers
returns-clause-answers g c = λ z.
    let goes = c.empty_chain.ensures.goes in
    let has = c.in_ok-node.ensures.has z in
    answer_is c.weigh.result _ c.args.count c.requires.starts.few has.weight
    (c.weigh.ensures.weight (goes.touches.told ∙ z))
