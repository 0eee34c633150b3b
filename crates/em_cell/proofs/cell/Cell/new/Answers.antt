use Rattle.std.proofs.Common.{rules}
use Rattle.em_cell.proofs.cell.Cell.new.Goals as goal

pub returns-in_err-store_number-clause-makes : goal.returns-in_err-store_number-clause-makes
returns-in_err-store_number-clause-makes g c = record {
  goes = search rules;
  made = search rules;
  none = search rules;
  paid = search rules;
}

pub returns-clause-makes : goal.returns-clause-makes
returns-clause-makes g c = record {
  goes = search rules;
  made = search rules;
  none = search rules;
  paid = search rules;
}
