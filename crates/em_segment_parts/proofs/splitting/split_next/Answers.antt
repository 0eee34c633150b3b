use Rattle.em_segment_parts.proofs.StripMade.{copied, made_can, made_strip, split_err, strip_uncopied, strip_unfinished}
use Rattle.em_segment_parts.proofs.splitting.split_next.Goals as goal

pub copy_strip-requires-clause-can : goal.copy_strip-requires-clause-can
copy_strip-requires-clause-can g c =
    let o = c.new-writer.ensures in
    made_can c.requires.can.reader c.requires.can.taking o.lends o.begins

pub returns-in_err-chain-in-Ok-clause-splits : goal.returns-in_err-chain-in-Ok-clause-splits
returns-in_err-chain-in-Ok-clause-splits g c =
    let o = c.new-writer.ensures in
    let e = c.in_err-chain-in-Ok.ensures in
    split_err _ _ _ _ _ _ _ c.from_residual.result _ c.from_residual.ensures.1
    (strip_unfinished (copied c.requires.can.reader o.lends o.unmoved o.begins c.in-Ok.ensures.copies)
    e.gives e.spends e.cause)

pub returns-in_ok-chain-in-Ok-clause-splits : goal.returns-in_ok-chain-in-Ok-clause-splits
returns-in_ok-chain-in-Ok-clause-splits g c =
    let o = c.new-writer.ensures in
    let e = c.in_ok-chain-in-Ok.ensures in
    let h = c.in-Ok.ensures.copies in
    made_strip c.requires.can.reader h.len c.requires.some c.requires.few
    (copied c.requires.can.reader o.lends o.unmoved o.begins h) e.gives e.finishes e.spends
    (rw h.span_is at c.push.ensures.items) c.push-in-Ok.ensures.items

pub returns-in-Err-clause-splits : goal.returns-in-Err-clause-splits
returns-in-Err-clause-splits g c =
    let o = c.new-writer.ensures in
    let e = c.abandon.ensures in
    strip_uncopied c.requires.can.reader o.lends o.unmoved o.begins c.in-Err.ensures.copies e.gives
    e.unmoved
