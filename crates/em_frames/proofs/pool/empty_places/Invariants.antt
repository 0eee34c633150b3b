use Rattle.std.proofs.Common.{◌≡◌, ◌≤◌, vec_len, vec_capacity}
use Rattle.em_frames.specs.Rack.{places_of, empty_rack}
use Rattle.em_frames.proofs.pool.empty_places.Given as goal

abbrev pub invariant-loop : goal.invariant-loop
invariant-loop l =
    (vec_len l.places ≡ l.counter) × (l.count ≤ vec_capacity l.places)
    × (places_of l.places ≡ empty_rack l.counter)
