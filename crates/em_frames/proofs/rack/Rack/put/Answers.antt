use Rattle.std.proofs.Common.{Some}
use Rattle.std.specs.Option.{option_map}
use Rattle.std.proofs.lemmas.List.{map-set}
use Rattle.em_frames.specs.Rack.{items_of}
use Rattle.em_frames.proofs.rack.Rack.put.Goals as goal

pub returns : goal.returns
returns c =
    rw (← c.self.view_is, ← c.frame.view_is)
    (map-set (option_map items_of) c.self.inside.places.items c.args.at
    (Some c.frame.inside.records))
