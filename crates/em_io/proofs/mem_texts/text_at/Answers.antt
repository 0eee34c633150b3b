use Rattle.std.proofs.Common.{◌≤◌, length, ap, sym, ◌∙◌, arith}
use Rattle.std.proofs.lemmas.Bool.Decides.{nat_tests}
use Rattle.em_io.proofs.Texts.{bytes_at-past, bytes_at-read}
use Rattle.em_io.proofs.mem_texts.text_at.Goals as goal

pub returns-in-Some : goal.returns-in-Some
returns-in-Some c =
    let found = c.in-Some.ensures.lookup in
    let text = ap (λ t. t.bytes) c.text.view_is in
    c.as_slice.ensures.value ∙ text
    ∙ sym (bytes_at-read c.args.texts.now c.args.index c.in-Some.text.now found.3.0 found.1)

pub returns-in-None : goal.returns-in-None
returns-in-None c =
    let past : length c.args.texts.now ≤ c.args.index = grind (arith, nat_tests) in
    sym (bytes_at-past c.args.texts.now c.args.index past)
