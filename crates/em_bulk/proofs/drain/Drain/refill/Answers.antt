use Rattle.std.proofs.Common.{◌⊎◌, ◌<◌, ◌≡◌, arith, inl, inr, refl}
use Rattle.em_bulk.specs.Draining.{trunk_of}
use Rattle.em_bulk.proofs.DrainRefills.{asked, counts_none, counts_stopped, counts_taken, refill_none, refilled}
use Rattle.em_bulk.proofs.drain.Drain.refill.Goals as goal
use Rattle.em_bulk.proofs.drain.Drain.refill.Goals.{then-self-via-then-self, then-self-via-else-self+then-is_fresh}

pub returns-then-self-clause-refills : goal.returns-then-self-clause-refills
returns-then-self-clause-refills g c =
    let d = c.args.self.now in
    let why : (d.at < d.end) ⊎ ((trunk_of d).since ≡ 0) = elim c.then-self.branch [
      | then-self-via-then-self w ↦ inl (omega (arith, w.if-self.true))
      | then-self-via-else-self+then-is_fresh w ↦ inr (w.is_fresh.ensures.0 w.if-is_fresh.true)
    ] in
    refill_none _ _ _ _ _ _ c.requires.sound c.requires.is why

pub returns-then-self-clause-counts : goal.returns-then-self-clause-counts
returns-then-self-clause-counts g c = counts_none _ _ _ _ _ _ c.requires.sound c.requires.is

pub returns-in_err-count-clause-counts : goal.returns-in_err-count-clause-counts
returns-in_err-count-clause-counts g c =
    counts_stopped _ _ _ _ _ _ c.requires.sound c.requires.is _ _
    (asked _ c.is_fresh.ensures.1 c.if-is_fresh.false) c.in_err-count.ensures.counts

pub returns-clause-refills : goal.returns-clause-refills
returns-clause-refills g c =
    refilled _ _ _ _ _ _ c.requires.sound c.requires.is _ _ (asked _ c.is_fresh.ensures.1 c.if-is_fresh.false)
    (omega (arith, c.if-self.false)) refl c.take_first.ensures.len c.in_ok-count.ensures.takes
    c.in_ok-count.ensures.counts

pub returns-clause-counts : goal.returns-clause-counts
returns-clause-counts g c =
    counts_taken _ _ _ _ _ _ c.requires.sound c.requires.is _ _ (asked _ c.is_fresh.ensures.1 c.if-is_fresh.false)
    c.in_ok-count.ensures.counts
