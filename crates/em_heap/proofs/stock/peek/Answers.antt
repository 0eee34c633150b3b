use Rattle.std.proofs.Common.{refl}
use Rattle.em_heap.proofs.Stocks.{stock_peeks}
use Rattle.em_heap.proofs.stock.peek.Goals as goal

pub returns : goal.returns
returns c =
    stock_peeks c.args.records.now c.args.top c.args.run c.peek.result c.requires.stock
    (c.if-run_leads.ensures.no refl) c.peek.ensures
