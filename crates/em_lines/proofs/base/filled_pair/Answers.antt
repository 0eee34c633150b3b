use Rattle.em_io.specs.Feed.{rest}
use Rattle.em_lines.specs.Stream.{line_at}
use Rattle.em_lines.proofs.LineLemmas.{Gives_map}
use Rattle.em_lines.proofs.PairLemmas.{pair_of-some}
use Rattle.em_lines.proofs.base.filled_pair.Goals as goal

pub returns-clause-value : goal.returns-clause-value
returns-clause-value g c = λ told.
    let s = rest c.args.feed.now (g.H.Shelf.stand c.args.shelf.now) in
    Gives_map c.spelled_pair.result _ _ (pair_of-some (line_at s) (c.requires.filled told))
    (c.spelled_pair.ensures.value told)
