use Rattle.std.proofs.Common.{[], rules}
use Rattle.std.proofs.lemmas.Result.{IfOk-weaker}
use Rattle.em_space.proofs.Apart.{off_new}
use Rattle.em_space.proofs.Steps.{touches_trans}
use Rattle.em_space.specs.Seen.{seen}
use Rattle.em_cell.specs.Cell.{pending_blocks}
use Rattle.em_cell.proofs.Waits.{makes_in_steps}
use Rattle.em_cell.proofs.caller.make_in_steps.Goals as goal

pub returns-clause-makes : goal.returns-clause-makes
returns-clause-makes g c =
    let s = seen g.D.Device.state c.args.rig.now in
    let m = seen g.D.Device.state c.new.new.rig in
    let t = seen g.D.Device.state c.finish.new.rig in
    let ks = pending_blocks c.in_ok-pending.pending in
    record {
      goes = record {
        sound = c.finish.ensures.sound;
        touches = touches_trans [] ks s m t c.new.ensures.touches c.finish.ensures.touches
            (λ z k u o. off_new s k ks u (c.in_ok-pending.ensures.awaits.fresh z));
        frames = search rules;
      };
      made =
          IfOk-weaker c.finish.result _ _
          (λ cell f. makes_in_steps _ _ _ _ _ cell c.in_ok-pending.ensures.awaits
          c.new.ensures.moves c.finish.ensures.moved f)
          c.finish.ensures.finished;
      none = search rules;
      paid = search rules;
    }
