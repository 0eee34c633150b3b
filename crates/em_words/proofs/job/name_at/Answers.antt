use Rattle.std.proofs.Common.{◌∙◌, sym, arith}
use Rattle.em_words.proofs.RefusalLaws.{name_past, text_at}
use Rattle.em_words.proofs.job.name_at.Goals as goal

pub returns-then-number-words : goal.returns-then-number-words
returns-then-number-words c =
    record { is = name_past c.args.words.now c.args.number (omega arith) }

pub returns : goal.returns
returns c = record {
  is = sym (text_at c.args.words.now c.args.number c.index-words-number.result (omega arith)
      c.index-words-number.is ∙ sym c.as_str.ensures.value);
}
