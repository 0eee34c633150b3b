use Rattle.std.proofs.Common.{ap, ◌∙◌}
use Rattle.em_lines.specs.CommandLine.{number_of}
use Rattle.em_rows.specs.Rows.{second_of}
use Rattle.em_rows.proofs.LineLaws.{rest_taken, word_taken}
use Rattle.em_rows.proofs.SpellLaws.{two_err, two_first_err, two_ok}
use Rattle.em_rows.proofs.spelling.two_of.Goals as goal

pub returns-in-Ok-second_of : goal.returns-in-Ok-second_of
returns-in-Ok-second_of c = record {
  is =
      let line = c.args.line.now in
      let size = c.word_size-size.ensures.is in
      two_ok c.args.kind line c.in-Ok.first c.in-Ok-second_of.second c.row_with.result c.requires.two
      (c.in-Ok.ensures.is ∙ ap number_of (word_taken line _ size))
      (c.in-Ok-second_of.ensures.is ∙ ap second_of (rest_taken line _ size)) c.row_with.ensures.is;
}

pub returns-in-Err-second_of : goal.returns-in-Err-second_of
returns-in-Err-second_of c = record {
  is =
      let line = c.args.line.now in
      let size = c.word_size-size.ensures.is in
      two_err c.args.kind line c.in-Ok.first c.in-Err-second_of.fault c.requires.two
      (c.in-Ok.ensures.is ∙ ap number_of (word_taken line _ size))
      (c.in-Err-second_of.ensures.is ∙ ap second_of (rest_taken line _ size));
}

pub returns-in-Err : goal.returns-in-Err
returns-in-Err c = record {
  is =
      let line = c.args.line.now in
      two_first_err c.args.kind line c.in-Err.fault c.requires.two
      (c.in-Err.ensures.is ∙ ap number_of (word_taken line _ c.word_size-size.ensures.is));
}
