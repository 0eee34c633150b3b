use Rattle.em_bits.proofs.Words.{clears_same, clears_other}
use Rattle.em_bits.proofs.word.without.Goals as goal

pub returns-clause-same : goal.returns-clause-same
returns-clause-same c =
    clears_same c.args.item c.with_word.result c.args.at c.word.result c.with_word.ensures.is

pub returns-clause-other : goal.returns-clause-other
returns-clause-other c =
    clears_other c.args.item c.with_word.result c.args.at c.word.result c.requires.place c.word.ensures.is
    c.with_word.ensures.is
