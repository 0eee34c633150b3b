use Rattle.std.proofs.Common.{◌≡◌, ◌∙◌, ℕ, Option, ap}
use Rattle.em_space.specs.Seen.{seen}
use Rattle.em_chain.specs.Chain.{chain_items}
use Rattle.em_chain.specs.Reader.{reader_items}
use Rattle.em_chain.proofs.Views.{view_of}
use Rattle.aig_edges.proofs.Looks.{all_lent}
use Rattle.aig_order.specs.LeftGates.{left_gate}
use Rattle.aig_order.proofs.ranking.first_left.Goals as goal

pub over-reader-requires-clause-is : goal.over-reader-requires-clause-is
over-reader-requires-clause-is g c = view_of _ _ c.requires.is

pub returns : goal.returns
returns g c =
    let first = seen g.D.Device.state c.args.rig.now in
    let lent = seen g.D.Device.state c.over-reader.new.rig in
    let o = c.over-reader.ensures in
    record {
      done = all_lent
          (λ (v : Option ℕ). v ≡ left_gate (reader_items lent c.over-reader.result))
          (λ (v : Option ℕ). v ≡ left_gate (chain_items first c.args.list.now))
          c.rest_left-found.result o.lends o.unmoved o.opens c.rest_left-found.ensures.done
          c.abandon.ensures.gives c.abandon.ensures.unmoved
          (λ z v p. p ∙ ap left_gate (o.opens.items z));
    }
