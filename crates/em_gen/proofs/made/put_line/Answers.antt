use Rattle.em_gen.proofs.made.put_line.Goals as goal

pub returns-in-Eval-Second-clause-is : goal.returns-in-Eval-Second-clause-is
returns-in-Eval-Second-clause-is c =
    rw (c.in-Eval-Second.is-0, c.in-Eval-Second.is-1) c.put_stimulus_line.ensures.is

pub returns-in-Eval-Second-clause-state : goal.returns-in-Eval-Second-clause-state
returns-in-Eval-Second-clause-state c =
    rw (c.in-Eval-Second.is-0, c.in-Eval-Second.is-1) c.put_stimulus_line.ensures.state
