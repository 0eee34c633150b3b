use Rattle.aig_text.proofs.Circuits.{as_form, circuit_read, header_unread, sections_unread}
use Rattle.aig_text.proofs.circuit.read_circuit.Goals as goal

pub returns-in_err-header : goal.returns-in_err-header
returns-in_err-header g c =
    let r = header_unread (g.R.Rows.form c.args.rows.now) _ _ c.from_residual.ensures.1 c.requires.sound
    (as_form c.which.ensures c.in_err-header.ensures.reads) in
    record {
      goes = r.goes;
      parts = r.parts;
      gives = r.gives;
      end = r.end;
      feed = r.feed;
      read = r.read;
      cause = r.cause;
      takes = r.takes;
      full = r.full;
      complete = r.complete;
      owes = r.owes;
    }

pub returns-in_err-defs : goal.returns-in_err-defs
returns-in_err-defs g c =
    let r = sections_unread (g.R.Rows.form c.args.rows.now)
    (as_form c.which.ensures c.in_ok-header.ensures.reads) _ _ c.from_residual-in_err-defs.ensures.1
    c.in_err-defs.ensures.lists in
    record {
      goes = r.goes;
      parts = r.parts;
      gives = r.gives;
      end = r.end;
      feed = r.feed;
      read = r.read;
      cause = r.cause;
      takes = r.takes;
      full = r.full;
      complete = r.complete;
      owes = r.owes;
    }

pub returns : goal.returns
returns g c =
    let r = circuit_read (g.R.Rows.form c.args.rows.now)
    (as_form c.which.ensures c.in_ok-header.ensures.reads) c.in_ok-header.ensures.is _ _ _ _
    c.read_lists.new.climbs c.read_lists.new.straight c.in_ok-defs.ensures.lists.advances c.in_ok-defs.ensures.lists.by
    c.in_ok-defs.ensures.climbs c.in_ok-defs.ensures.straight in
    record {
      goes = r.goes;
      parts = r.parts;
      gives = r.gives;
      end = r.end;
      feed = r.feed;
      read = r.read;
      cause = r.cause;
      takes = r.takes;
      full = r.full;
      complete = r.complete;
      owes = r.owes;
    }
