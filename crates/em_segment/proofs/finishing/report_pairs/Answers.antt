use Rattle.em_segment.proofs.AllReported.{all_refused, all_to, can_answer}
use Rattle.em_segment.proofs.finishing.report_pairs.Goals as goal

pub answer-requires : goal.answer-requires
answer-requires g c =
    let e = c.new-pairs.ensures in record {
      can = can_answer c.requires.can
          (record { lends = e.lends; unmoved = e.unmoved; begins = e.begins });
    }

pub returns-in-Ok : goal.returns-in-Ok
returns-in-Ok g c =
    let e = c.new-pairs.ensures in
    let back = c.finish.ensures in record {
      reports = all_to c.finish.result c.requires.can
          (record { lends = e.lends; unmoved = e.unmoved; begins = e.begins }) c.in-Ok.ensures.answers
          back.gives back.finishes back.spends back.cause;
    }

pub returns-in-Err : goal.returns-in-Err
returns-in-Err g c =
    let e = c.new-pairs.ensures in
    let back = c.abandon.ensures in record {
      reports = all_refused c.requires.can
          (record { lends = e.lends; unmoved = e.unmoved; begins = e.begins }) c.in-Err.ensures.answers
          back.gives back.unmoved;
    }
