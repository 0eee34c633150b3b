use Rattle.std.proofs.Common.{◌≡◌, ◌∙◌, ℕ, List, Option, None, ap}
use Rattle.em_record.specs.declared.record.Record.{Record}
use Rattle.em_space.specs.Seen.{seen}
use Rattle.em_chain.specs.Reader.{reader_items}
use Rattle.em_chain.proofs.Views.{view_of}
use Rattle.aig_edges.specs.Repeats.{TellsTwice, first_repeat}
use Rattle.aig_edges.proofs.Looks.{all_lent}
use Rattle.aig_edges.proofs.Repeated.{tells_twice}
use Rattle.aig_edges.proofs.looking.twice.Goals as goal

pub over-reader-requires-clause-is : goal.over-reader-requires-clause-is
over-reader-requires-clause-is g c = view_of _ _ c.requires.is

pub returns : goal.returns
returns g c =
    let first = seen g.D.Device.state c.args.rig.now in
    let o = c.over-reader.ensures in
    record {
      done = all_lent (λ (v : Option ℕ). v ≡ first_repeat None
          (reader_items (seen g.D.Device.state c.over-reader.new.rig) c.over-reader.result))
          (TellsTwice first c.args.defs.now)
          c.rest_repeats-found.result o.lends o.unmoved o.opens c.rest_repeats-found.ensures.done
          c.abandon.ensures.gives c.abandon.ensures.unmoved
          (λ z v p. tells_twice first c.args.defs.now v (p ∙ ap (λ (l : List Record). first_repeat None l)
          (o.opens.items z)));
    }
