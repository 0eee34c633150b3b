-- What pops give, worked by hand.
use Rattle.std.proofs.Common.{◌≡◌, ℕ, [], ◌∷◌, refl}
use Rattle.em_record.specs.declared.record.Record.{Record}
use Rattle.em_frames.specs.Device.{zero_record}
use Rattle.em_queued.specs.Popped.{popped}

item : ℕ → Record
item n = record { a = n; b = 1; c = 0; d = 0 }

none_popped : popped 0 (item 3 ∷ []) ≡ []
none_popped = refl

two_popped : popped 2 (item 3 ∷ item 5 ∷ item 8 ∷ []) ≡ item 3 ∷ item 5 ∷ []
two_popped = refl

-- two pops more than there are items
two_missing : popped 3 (item 3 ∷ []) ≡ item 3 ∷ zero_record ∷ zero_record ∷ []
two_missing = refl
