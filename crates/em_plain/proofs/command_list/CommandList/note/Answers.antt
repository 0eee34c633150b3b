use Rattle.em_space.specs.Seen.{seen}
use Rattle.em_plain.proofs.Notes.{list_can_grow, notes_of, note_costs}
use Rattle.em_plain.proofs.command_list.CommandList.note.Goals as goal

pub append-requires-clause-room : goal.append-requires-clause-room
append-requires-clause-room g c =
    list_can_grow (seen g.D.Device.state c.args.rig.now) c.args.self.now c.requires.sound
    c.requires.is c.requires.few

pub returns : goal.returns
returns g c =
    let s = seen g.D.Device.state c.args.rig.now in
    let t = seen g.D.Device.state c.append.new.rig in
    let e = c.append.ensures in
    record {
      noted = record {
        goes = e.goes;
        frame = e.frame;
        notes = notes_of s t c.args.self.now (record { writer = c.append.new.self }) c.args.command
            c.append.result c.requires.is c.requires.few e.goes (rw c.to_record.ensures at e.appends)
            e.costs;
        costs = note_costs s t c.args.self.now (record { writer = c.append.new.self })
            c.append.result c.requires.sound c.requires.is e.costs;
        full = e.full;
        complete = e.complete;
        cause = e.cause;
      };
    }
