use Rattle.em_space.specs.Seen.{seen}
use Rattle.em_services.proofs.Stabbing.{take_moves, take_full, take_room}
use Rattle.em_services.proofs.stab_service.StabService.take.Goals as goal

pub returns-clause-moves : goal.returns-clause-moves
returns-clause-moves g c =
    take_moves c.args.command (seen g.D.Device.state c.args.rig.now) (seen g.D.Device.state c.give_list.new.rig)
    c.args.self.now c.requires.sound c.give_list.ensures.costs

pub returns-clause-room : goal.returns-clause-room
returns-clause-room g c =
    take_room (seen g.D.Device.state c.args.rig.now) (seen g.D.Device.state c.give_list.new.rig)
    c.args.self.now c.requires.sound c.requires.is c.give_list.ensures.costs

pub returns-clause-full : goal.returns-clause-full
returns-clause-full g c =
    take_full (seen g.D.Device.state c.args.rig.now) c.args.self.now c.give_list.result c.requires.sound
    c.requires.is c.give_list.ensures.small
