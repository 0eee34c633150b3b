use Rattle.std.proofs.Common.{◌≡◌, ◌≤◌, vec_len, vec_capacity}
use Rattle.std.specs.List.{All}
use Rattle.em_frames.proofs.pool.frames_of.Given as goal

abbrev pub invariant-loop : goal.invariant-loop
invariant-loop l =
    (vec_len l.all ≡ l.counter) × (l.count ≤ vec_capacity l.all)
    × (All (λ v. vec_len v ≡ l.len) l.all.items)
