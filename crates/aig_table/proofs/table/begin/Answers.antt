use Rattle.aig_table.proofs.Tables.{table_fresh}
use Rattle.aig_table.proofs.table.begin.Goals as goal

pub returns : goal.returns
returns c = record {
  begins = table_fresh c.args.last c.requires.within c.fill_to.ensures.fills c.and_in.ensures.ands;
}
