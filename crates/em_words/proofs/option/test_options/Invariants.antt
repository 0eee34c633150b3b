use Rattle.std.proofs.Common.{◌≡◌, [], drop, take}
use Rattle.em_words.specs.Job.{texts_of}
use Rattle.em_words.specs.Options.{options_refusal}
use Rattle.em_words.proofs.option.test_options.Given as goal

abbrev pub invariant-loop-place : goal.invariant-loop-place
invariant-loop-place l = options_refusal l.verb [] (texts_of l.options)
    ≡ options_refusal l.verb (take l.place (texts_of l.options)) (drop l.place (texts_of l.options))
