-- A failure before the run: nothing went out.
use Rattle.std.proofs.Common.{◌≡◌, List, ℕ}
use Rattle.em_io.specs.Sink.{IsRule, SentPart}
use Rattle.em_io.proofs.Sent.{part-of, sent-nothing}

-- of a sink that stayed, nothing is a front of any text
pub part_none : {IsState : List ℕ → Type 0} {took : List ℕ → List ℕ → List ℕ} → IsRule IsState took
    → {old new : List ℕ} → IsState old → (text : List ℕ) → new ≡ old → SentPart took old text new
part_none rule ok text same = part-of (sent-nothing rule ok text same)
