use Rattle.aig_forward.proofs.WholeLines.{looks_on, line_abandoned, line_done, line_refused}
use Rattle.aig_forward.proofs.line.read_line.Goals as goal

pub returns-in-Ok-finish : goal.returns-in-Ok-finish
returns-in-Ok-finish g c =
    let looks = looks_on _ c.in-Ok-Some.field-0-is c.requires.ready c.peek.ensures.takes
    c.peek.ensures.cause.later c.in-Ok-Some.ensures.first in
    let r = line_done c.args.inputs c.requires.sound c.new-bits.ensures.lends
    c.new-bits.ensures.unmoved c.new-bits.ensures.begins looks _ c.in-Ok-finish.chain
    c.in-Ok.ensures.further c.in-Ok.ensures.reads c.finish.ensures.gives c.in-Ok-finish.ensures.finishes
    c.in-Ok-finish.ensures.spends in
    record {
      goes = r.goes;
      feed = r.feed;
      line = r.line;
      costs = r.costs;
      takes = r.takes;
      idle = r.idle;
      cause = r.cause;
    }

pub returns-in-Err-finish : goal.returns-in-Err-finish
returns-in-Err-finish g c =
    let looks = looks_on _ c.in-Ok-Some.field-0-is c.requires.ready c.peek.ensures.takes
    c.peek.ensures.cause.later c.in-Ok-Some.ensures.first in
    let r = line_refused c.args.inputs c.requires.sound c.new-bits.ensures.lends
    c.new-bits.ensures.unmoved c.new-bits.ensures.begins looks _ c.in-Err-finish.fault
    c.in-Ok.ensures.further c.in-Ok.ensures.reads c.finish.ensures.gives c.in-Err-finish.ensures.spends
    c.in-Err-finish.ensures.cause in
    record {
      goes = r.goes;
      feed = r.feed;
      line = r.line;
      costs = r.costs;
      takes = r.takes;
      idle = r.idle;
      cause = r.cause;
    }

pub returns-in-Err-read_from : goal.returns-in-Err-read_from
returns-in-Err-read_from g c =
    let looks = looks_on _ c.in-Ok-Some.field-0-is c.requires.ready c.peek.ensures.takes
    c.peek.ensures.cause.later c.in-Ok-Some.ensures.first in
    let r = line_abandoned c.args.inputs c.requires.sound c.new-bits.ensures.lends
    c.new-bits.ensures.unmoved c.new-bits.ensures.begins looks c.in-Err-read_from.stop
    c.in-Err-read_from.ensures.reads c.abandon.ensures.gives c.abandon.ensures.unmoved in
    record {
      goes = r.goes;
      feed = r.feed;
      line = r.line;
      costs = r.costs;
      takes = r.takes;
      idle = r.idle;
      cause = r.cause;
    }
