use Rattle.em_bulk.proofs.Added.{adds, adds_frames}
use Rattle.em_bulk.proofs.builder.Builder.add.Goals as goal

pub returns-clause-frames : goal.returns-clause-frames
returns-clause-frames g c =
    adds_frames c.append.new.self c.args.key c.args.value c.requires.sound c.requires.is c.requires.size c.requires.room
    c.append.ensures.goes c.append.ensures.frame

pub returns-clause-adds : goal.returns-clause-adds
returns-clause-adds g c =
    let a = c.append.ensures in
    adds c.append.new.self c.args.key c.args.value c.requires.sound c.requires.is c.requires.size c.requires.room a.goes a.frame
    c.append.result a.appends a.costs a.spends a.cause
