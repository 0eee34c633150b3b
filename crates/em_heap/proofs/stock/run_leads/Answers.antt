use Rattle.std.proofs.Common.{arith}
use Rattle.em_frames.specs.Device.{zero_record}
use Rattle.em_heap.proofs.Stocks.{leads_run, leads_top}
use Rattle.em_heap.proofs.stock.run_leads.Goals as goal

pub returns-else-top-eq0-clause-yes : goal.returns-else-top-eq0-clause-yes
returns-else-top-eq0-clause-yes c =
    leads_run c.args.records.now c.args.top c.args.run c.below_at.result c.requires.stock
    (omega arith) (c.below_at.ensures zero_record)

pub returns-else-top-eq0-clause-no : goal.returns-else-top-eq0-clause-no
returns-else-top-eq0-clause-no c =
    leads_top c.args.records.now c.args.top c.args.run c.below_at.result c.requires.stock
    (omega arith) (omega arith) (c.below_at.ensures zero_record)
