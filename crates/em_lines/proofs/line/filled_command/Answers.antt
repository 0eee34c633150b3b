use Rattle.std.proofs.Common.{ap, ◌∙◌, ◌≡◌, ◌<◌, take, length}
use Rattle.em_io.specs.Feed.{rest}
use Rattle.em_lines.specs.Stream.{word_at, after_word, after_line}
use Rattle.em_lines.proofs.LineLemmas.{command_of-long, command_of-read, after_line-after_word, OnOk_map, Gives_map}
use Rattle.em_lines.proofs.line.filled_command.Goals as goal

pub returns-in-None-clause-value : goal.returns-in-None-clause-value
returns-in-None-clause-value g c = λ told.
    let s = rest c.args.feed.now (g.H.Shelf.stand c.args.shelf.now) in
    let long : 5 < length (word_at s) =
    rw c.in-None.is at (c.in_ok-read_word.ensures.longer told) in
    command_of-long c.args.kind s (c.requires.filled told) long

pub returns-in-Some-clause-value : goal.returns-in-Some-clause-value
returns-in-Some-clause-value g c = λ told.
    let s = rest c.args.feed.now (g.H.Shelf.stand c.args.shelf.now) in
    let t = rest c.read_word.new.feed (g.H.Shelf.stand c.read_word.new.shelf) in
    let word : take c.in-Some.n c.read_word.new.into ≡ word_at s =
    rw c.in-Some.is at (c.in_ok-read_word.ensures.word told) in
    let taken : t ≡ after_word s = rw c.in-Some.is at (c.in_ok-read_word.ensures.taken told) in
    Gives_map c.table_command.result _ _
    (command_of-read c.args.kind s _ t (c.requires.filled told) word taken)
    (c.table_command.ensures.reads.value told)

pub returns-in-Some-clause-line : goal.returns-in-Some-clause-line
returns-in-Some-clause-line g c = λ told.
    let s = rest c.args.feed.now (g.H.Shelf.stand c.args.shelf.now) in
    let t = rest c.read_word.new.feed (g.H.Shelf.stand c.read_word.new.shelf) in
    let taken : t ≡ after_word s = rw c.in-Some.is at (c.in_ok-read_word.ensures.taken told) in
    OnOk_map c.table_command.result _ _
    (λ h. h ∙ ap after_line taken ∙ after_line-after_word s)
    (c.table_command.ensures.reads.line told)
