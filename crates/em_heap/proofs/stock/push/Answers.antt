use Rattle.em_heap.proofs.Stocks.{stock_pushes}
use Rattle.em_heap.proofs.stock.push.Goals as goal

pub returns : goal.returns
returns c =
    stock_pushes c.args.records.now c.push.new.records c.args.top c.args.run c.args.item
    c.requires.stock c.push.ensures
