use Rattle.std.proofs.Common.{refl, rules}
use Rattle.em_frames.proofs.frame.Frame.records_mut.Goals as goal

pub returns : goal.returns
returns c = (
  (refl, λ w. rw (c.self.inside.records.ok.0, ← c.self.view_is) refl),
  record { writes_back = tt; value = search rules },
)
