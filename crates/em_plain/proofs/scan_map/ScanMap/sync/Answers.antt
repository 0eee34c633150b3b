use Rattle.em_plain.proofs.Synced.{answered_all, syncs_err, unanswered, unnoted}
use Rattle.em_plain.proofs.scan_map.ScanMap.sync.Goals as goal

pub returns-in_err-note-clause-syncs : goal.returns-in_err-note-clause-syncs
returns-in_err-note-clause-syncs g c =
    syncs_err c.from_residual.result _ c.from_residual.ensures.1
    (unnoted c.args.self.now.answered c.in_err-note.ensures.noted)

pub returns-in_err-answers-clause-syncs : goal.returns-in_err-answers-clause-syncs
returns-in_err-answers-clause-syncs g c =
    syncs_err c.from_residual-in_err-answers.result _ c.from_residual-in_err-answers.ensures.1
    (unanswered c.requires.sound c.requires.is c.in_ok-note.ensures.noted c.args.self.now.answered
    c.in_err-answers.ensures.done)

pub returns-clause-syncs : goal.returns-clause-syncs
returns-clause-syncs g c =
    answered_all c.requires.sound c.requires.is c.in_ok-note.ensures.noted c.len-self.result
    c.len-self.ensures c.in_ok-answers.ensures.done
