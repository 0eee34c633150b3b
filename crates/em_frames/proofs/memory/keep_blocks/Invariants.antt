use Rattle.std.proofs.Common.{◌≡◌, ◌≤◌, ◌-◌, max, vec_len, ℕ}
use Rattle.std.specs.List.{All}
use Rattle.em_frames.specs.Memory.{all_blocks}
use Rattle.em_frames.proofs.memory.keep_blocks.Given as goal

abbrev pub invariant-loop-alloc : goal.invariant-loop-alloc
invariant-loop-alloc l =
    (All (λ v. vec_len v ≡ l.block) l.kept.items)
    × (vec_len l.kept ≤ max l.count (vec_len l.initial.kept))
    × (vec_len l.initial.kept ≤ vec_len l.kept)
    × ((size : ℕ) → l.count ≤ size → vec_len l.initial.kept ≤ size
    → all_blocks l.block size l.kept.items
    ≡ all_blocks l.block size l.initial.kept.items)

abbrev pub decreases-loop-alloc : goal.decreases-loop-alloc
decreases-loop-alloc l = l.count - vec_len l.kept
