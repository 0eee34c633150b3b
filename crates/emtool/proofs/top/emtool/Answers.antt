use Rattle.std.proofs.Common.{rules}
use Rattle.em_run.specs.Due.{job_names}
use Rattle.em_words.specs.Job.{texts_of}
use Rattle.emtool.proofs.TopLaws.{answers_end, complete_end, due_end, full_end, moves_end}
use Rattle.emtool.proofs.top.emtool.Goals as goal
use Rattle.emtool.proofs.top.emtool.Goals.{in-Ok, in-Err}

pub returns-clause-answers : goal.returns-clause-answers
returns-clause-answers g c = elim c.match-read_job.branch [
  | in-Ok w ↦
      let e = w.run_granted-outcome.ensures in
      let job = w.in-Ok.job in
      rw (
        w.device-is,
        w.shelf-is,
        w.out-is,
        w.outcome-is,
        ← w.in-Ok.ensures.job,
      )
      (answers_end _ _ _ _ (g.H.Shelf.stand c.args.shelf.now) job
      (job_names (texts_of c.args.words.now) job)
      w.run_granted-outcome.result.status e.runs.ended)
  | in-Err w ↦ search rules
]

pub returns-clause-due : goal.returns-clause-due
returns-clause-due g c = elim c.match-read_job.branch [
  | in-Ok w ↦
      let e = w.run_granted-outcome.ensures in
      let job = w.in-Ok.job in
      rw (
        w.device-is,
        w.shelf-is,
        w.out-is,
        w.outcome-is,
        ← w.in-Ok.ensures.job,
      )
      (due_end _ _ _ _ (g.H.Shelf.stand c.args.shelf.now) job
      (job_names (texts_of c.args.words.now) job)
      w.run_granted-outcome.result.status e.runs.ended)
  | in-Err w ↦ search rules
]

pub returns-clause-full : goal.returns-clause-full
returns-clause-full g c = elim c.match-read_job.branch [
  | in-Ok w ↦
      let e = w.run_granted-outcome.ensures in
      let job = w.in-Ok.job in
      rw (
        w.device-is,
        w.shelf-is,
        w.out-is,
        w.outcome-is,
        ← w.in-Ok.ensures.job,
      )
      (full_end _ _ _ _ (g.H.Shelf.stand c.args.shelf.now) job
      (job_names (texts_of c.args.words.now) job)
      w.run_granted-outcome.result.status w.in-Ok.ensures.is.blocks_high e.runs.ended e.none_moved)
  | in-Err w ↦ search rules
]

pub returns-clause-complete : goal.returns-clause-complete
returns-clause-complete g c = elim c.match-read_job.branch [
  | in-Ok w ↦
      let e = w.run_granted-outcome.ensures in
      let job = w.in-Ok.job in
      rw (
        w.device-is,
        w.shelf-is,
        w.out-is,
        w.outcome-is,
        ← w.in-Ok.ensures.job,
      )
      (complete_end _ _ _ _ (g.H.Shelf.stand c.args.shelf.now) job
      (job_names (texts_of c.args.words.now) job)
      w.run_granted-outcome.result.status w.in-Ok.ensures.is.blocks_high e.runs.no_usage e.runs.ended
      e.runs.caused e.none_moved)
  | in-Err w ↦ search rules
]

pub returns-clause-transfers : goal.returns-clause-transfers
returns-clause-transfers g c = elim c.match-read_job.branch [
  | in-Ok w ↦
      let e = w.run_granted-outcome.ensures in
      let job = w.in-Ok.job in
      rw (
        w.device-is,
        w.shelf-is,
        w.out-is,
        ← w.in-Ok.ensures.job,
      )
      (moves_end _ _ _ _ (g.H.Shelf.stand c.args.shelf.now) job
      (job_names (texts_of c.args.words.now) job)
      w.run_granted-outcome.result.status e.runs.ended)
  | in-Err w ↦ search rules
]
