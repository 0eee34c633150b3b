use Rattle.em_heap.proofs.Stocks.{run_pops}
use Rattle.em_heap.proofs.stock.first_of_run.Goals as goal

pub returns : goal.returns
returns c = run_pops c.args.records.now c.args.top c.args.run c.requires.stock c.requires.leads
