use Rattle.std.proofs.Common.{ap, ◌∙◌}
use Rattle.std.specs.Prelude.{slice_set}
use Rattle.std.specs.Option.{option_map}
use Rattle.std.proofs.lemmas.List.{map-set}
use Rattle.em_frames.specs.Rack.{items_of, places_of}
use Rattle.em_frames.proofs.rack.Rack.take.Goals as goal

pub returns-clause-places : goal.returns-clause-places
returns-clause-places c =
    rw (← c.self.view_is)
    (map-set (option_map items_of) c.self.inside.places.items c.args.at c.take.new.self
    ∙ ap (λ o. slice_set (places_of c.self.inside.places) c.args.at (option_map items_of o))
    c.take.ensures.after)
