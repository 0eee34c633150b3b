use Rattle.std.proofs.Common.{◌≡◌, ◌++◌, ◌≤◌, drop}
use Rattle.em_model.specs.Queue.{queue_answers_from, queue_answers}
use Rattle.em_model.proofs.queue.queue_answers_of.Given as goal

abbrev pub invariant-loop-command : goal.invariant-loop-command
invariant-loop-command l = record {
  numbered : l.pushes ≤ l.command-index;
  answered : queue_answers l.commands
      ≡ l.answers.items
      ++ queue_answers_from (record { pushes = l.pushes; waiting = l.waiting.items })
      (drop l.command-index l.commands);
}
