use Rattle.em_segment.proofs.Closing.{closes_both, closes_err, closes_first, closes_second, second_stays}
use Rattle.em_segment.proofs.finishing.close_both.Goals as goal

pub finish-requires-in-Ok-clause-is : goal.finish-requires-in-Ok-clause-is
finish-requires-in-Ok-clause-is g c = (second_stays c.requires.is c.finish.ensures.gives).is

pub returns-in_ok-points-in-Ok : goal.returns-in_ok-points-in-Ok
returns-in_ok-points-in-Ok g c =
    let e = c.in_ok-points-in-Ok.ensures in record {
      closes = closes_both c.requires.is c.finish.ensures.gives c.in-Ok.ensures.finishes
          c.in-Ok.ensures.spends c.finish-in-Ok.ensures.gives e.finishes e.spends;
    }

pub returns-in_err-points-in-Ok : goal.returns-in_err-points-in-Ok
returns-in_err-points-in-Ok g c =
    let e = c.in_err-points-in-Ok.ensures in record {
      closes = closes_err c.from_residual.result c.in_err-points-in-Ok.field-0.0 c.from_residual.ensures.1
          (closes_second c.requires.is c.finish.ensures.gives c.in-Ok.ensures.finishes
          c.in-Ok.ensures.spends c.finish-in-Ok.ensures.gives e.spends e.cause);
    }

pub returns-in-Err : goal.returns-in-Err
returns-in-Err g c =
    let b = c.abandon.ensures in record {
      closes = closes_first c.requires.is c.finish.ensures.gives c.in-Err.ensures.spends
          c.in-Err.ensures.cause b.gives b.unmoved;
    }
