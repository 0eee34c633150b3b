use Rattle.bench_runs.proofs.Laws.{finished_within}
use Rattle.bench_runs.proofs.records.write.Goals as goal

pub returns-clause-fresh : goal.returns-clause-fresh
returns-clause-fresh g c =
    let w = c.in_default.ensures in
    finished_within _ _ _ _ _ c.finish.result c.new-writer.ensures.lends.touches w.goes.touches
    w.writes.within c.finish.ensures.finishes
