use Rattle.std.proofs.Common.{◌∙◌}
use Rattle.em_chain.proofs.Views.{view_of}
use Rattle.em_answers.proofs.Pieces.{prints_rest, stops_rest}
use Rattle.em_rows.proofs.printing.print_rows.Goals as goal

pub over-reader-requires-clause-is : goal.over-reader-requires-clause-is
over-reader-requires-clause-is g c = view_of _ _ c.requires.is

pub returns-clause-prints : goal.returns-clause-prints
returns-clause-prints g c = λ told.
    let printed = c.print_lines-done.ensures.prints (c.over-reader.ensures.lends.touches.told ∙ told) in
    prints_rest g.W.Sink g.met.W.Sink.rule (g.met.W.Sink.is_state c.args.out.now) _ _
    (rw (c.new-printer.ensures, c.over-reader.ensures.opens.items told) at printed)
    c.send_rest.ensures.sends

pub returns-clause-stops : goal.returns-clause-stops
returns-clause-stops g c =
    stops_rest _ _ c.over-reader.ensures.unmoved c.print_lines-done.ensures.stops
    c.abandon.ensures.unmoved c.abandon.ensures.gives.touches c.send_rest.ensures.sends
