use Rattle.std.proofs.Common.{◌∙◌, sym}
use Rattle.em_words.proofs.RefusalLaws.{all_passed, word_passed, word_refused}
use Rattle.em_words.proofs.option.test_options.Goals as goal

pub returns-in-Some : goal.returns-in-Some
returns-in-Some c = sym (c.loop-place.invariant
    ∙ word_refused c.args.verb c.args.options.now c.loop-place.place c.index-options-place.result _
    c.loop-place-test.true c.index-options-place.is c.bytes_of.ensures _
    (sym c.option_fault.ensures ∙ c.in-Some.is))

pub loop-place-preserved : goal.loop-place-preserved
loop-place-preserved c = c.loop-place.invariant
    ∙ word_passed c.args.verb c.args.options.now c.loop-place.place c.index-options-place.result _
    c.loop-place-test.true c.index-options-place.is c.bytes_of.ensures
    (sym c.option_fault.ensures ∙ c.in_default.is)

pub returns : goal.returns
returns c = sym (c.loop-place.invariant
    ∙ all_passed c.args.verb c.args.options.now c.loop-place.place c.loop-place-test.false)
