use Rattle.std.proofs.Common.{[]}
use Rattle.em_chain.specs.Writers.{no_words}
use Rattle.em_chain.proofs.WritersStored.{stored_at}
use Rattle.em_chain.proofs.writers.Writers.stored.Goals as goal

pub returns : goal.returns
returns c = record {
  stored = stored_at c.args.self.now c.args.at no_words [] c.stored.result c.requires.within
      c.deref.ensures.0 c.stored.ensures;
}
