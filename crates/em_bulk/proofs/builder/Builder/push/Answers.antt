use Rattle.em_space.specs.Seen.{seen}
use Rattle.em_bulk.proofs.Limits.{push_over, push_room, push_share}
use Rattle.em_bulk.proofs.Lots.{none_full}
use Rattle.em_bulk.proofs.Pushed.{open_at, pushes_one, pushes_two, unpushed}
use Rattle.em_bulk.proofs.builder.Builder.push.Goals as goal

pub add-requires-clause-is : goal.add-requires-clause-is
add-requires-clause-is g c = open_at c.args.key c.requires.is c.requires.rises

pub returns-then-len-lot-clause-pushes : goal.returns-then-len-lot-clause-pushes
returns-then-len-lot-clause-pushes g c = pushes_one c.args.key c.args.value _ _ _ _ c.add.result c.add.ensures.adds

pub turn-requires-clause-is : goal.turn-requires-clause-is
turn-requires-clause-is g c = open_at c.args.key c.requires.is c.requires.rises

pub returns-in_err-turn-clause-pushes : goal.returns-in_err-turn-clause-pushes
returns-in_err-turn-clause-pushes g c =
    unpushed _ c.args.key c.args.value c.from_residual.result _ c.from_residual.ensures.1 c.in_err-turn.ensures.turns

pub add-requires-2-clause-is : goal.add-requires-2-clause-is
add-requires-2-clause-is g c = c.in_ok-turn.ensures.turns.is

pub add-requires-2-clause-size : goal.add-requires-2-clause-size
add-requires-2-clause-size g c = none_full c.in_ok-turn.ensures.turns

pub returns-clause-pushes : goal.returns-clause-pushes
returns-clause-pushes g c =
    pushes_two c.args.key c.args.value _ _ c.add-2.result c.in_ok-turn.ensures.turns c.add-2.ensures.adds

pub returns-then-len-lot-clause-share : goal.returns-then-len-lot-clause-share
returns-then-len-lot-clause-share g c =
    push_share c.requires.sound c.requires.is c.args.key c.args.value (seen g.D.Device.state c.add.new.rig) c.add.new.self
    c.add.result (pushes_one c.args.key c.args.value _ _ _ _ c.add.result
    c.add.ensures.adds)

pub returns-in_err-turn-clause-share : goal.returns-in_err-turn-clause-share
returns-in_err-turn-clause-share g c =
    push_share c.requires.sound c.requires.is c.args.key c.args.value (seen g.D.Device.state c.turn.new.rig) c.turn.new.self
    c.from_residual.result (unpushed c.turn.new.self c.args.key c.args.value c.from_residual.result _
    c.from_residual.ensures.1 c.in_err-turn.ensures.turns)

pub returns-clause-share : goal.returns-clause-share
returns-clause-share g c =
    push_share c.requires.sound c.requires.is c.args.key c.args.value (seen g.D.Device.state c.add-2.new.rig) c.add-2.new.self
    c.add-2.result (pushes_two c.args.key c.args.value _ _ c.add-2.result
    c.in_ok-turn.ensures.turns c.add-2.ensures.adds)

pub returns-then-len-lot-clause-room : goal.returns-then-len-lot-clause-room
returns-then-len-lot-clause-room g c =
    push_room c.requires.sound c.requires.is c.args.key c.args.value (seen g.D.Device.state c.add.new.rig) c.add.new.self
    c.add.result (pushes_one c.args.key c.args.value _ _ _ _ c.add.result
    c.add.ensures.adds)

pub returns-in_err-turn-clause-room : goal.returns-in_err-turn-clause-room
returns-in_err-turn-clause-room g c =
    push_room c.requires.sound c.requires.is c.args.key c.args.value (seen g.D.Device.state c.turn.new.rig) c.turn.new.self
    c.from_residual.result (unpushed c.turn.new.self c.args.key c.args.value c.from_residual.result _
    c.from_residual.ensures.1 c.in_err-turn.ensures.turns)

pub returns-clause-room : goal.returns-clause-room
returns-clause-room g c =
    push_room c.requires.sound c.requires.is c.args.key c.args.value (seen g.D.Device.state c.add-2.new.rig) c.add-2.new.self
    c.add-2.result (pushes_two c.args.key c.args.value _ _ c.add-2.result
    c.in_ok-turn.ensures.turns c.add-2.ensures.adds)

pub returns-then-len-lot-clause-over : goal.returns-then-len-lot-clause-over
returns-then-len-lot-clause-over g c =
    push_over c.requires.sound c.requires.is c.args.key c.args.value (seen g.D.Device.state c.add.new.rig) c.add.new.self
    c.add.result (pushes_one c.args.key c.args.value _ _ _ _ c.add.result
    c.add.ensures.adds)

pub returns-in_err-turn-clause-over : goal.returns-in_err-turn-clause-over
returns-in_err-turn-clause-over g c =
    push_over c.requires.sound c.requires.is c.args.key c.args.value (seen g.D.Device.state c.turn.new.rig) c.turn.new.self
    c.from_residual.result (unpushed c.turn.new.self c.args.key c.args.value c.from_residual.result _
    c.from_residual.ensures.1 c.in_err-turn.ensures.turns)

pub returns-clause-over : goal.returns-clause-over
returns-clause-over g c =
    push_over c.requires.sound c.requires.is c.args.key c.args.value (seen g.D.Device.state c.add-2.new.rig) c.add-2.new.self
    c.add-2.result (pushes_two c.args.key c.args.value _ _ c.add-2.result
    c.in_ok-turn.ensures.turns c.add-2.ensures.adds)
