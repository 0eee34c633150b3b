use Rattle.em_heap.proofs.Stocks.{stock_pops}
use Rattle.em_heap.proofs.stock.pop.Goals as goal

pub returns : goal.returns
returns c =
    stock_pops c.args.records.now c.pop.new.records c.args.top c.args.run c.pop.result
    c.requires.stock c.requires.leads c.pop.ensures
