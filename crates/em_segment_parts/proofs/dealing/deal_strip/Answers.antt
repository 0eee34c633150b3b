use Rattle.std.proofs.Common.{◌≡◌, true, false, sym, ◌∙◌}
use Rattle.em_space.specs.Seen.{seen}
use Rattle.em_segment_model.specs.Spans.{takes_piece}
use Rattle.em_segment_parts.proofs.Sending.{send_strip, skip_strip}
use Rattle.em_segment_parts.proofs.dealing.deal_strip.Goals as goal

pub returns-then-takes-clause-deals : goal.returns-then-takes-clause-deals
returns-then-takes-clause-deals g c =
    let e : takes_piece c.args.span c.args.piece ≡ true = sym c.takes.ensures ∙ c.if-takes.true in
    send_strip (seen g.D.Device.state c.append.new.rig) c.append.new.self c.args.piece c.args.k c.args.span c.append.result e c.requires.sound c.requires.is
    c.append.ensures.appends c.append.ensures.stops

pub returns-else-takes-clause-deals : goal.returns-else-takes-clause-deals
returns-else-takes-clause-deals g c =
    let e : takes_piece c.args.span c.args.piece ≡ false = sym c.takes.ensures ∙ c.if-takes.false in
    skip_strip c.args.piece c.args.k c.args.span e c.requires.sound c.requires.is
