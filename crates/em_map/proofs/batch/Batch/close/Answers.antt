use Rattle.std.proofs.Common.{◌∙◌, length, refl, arith}
use Rattle.em_space.specs.Seen.{seen}
use Rattle.em_map.specs.Batch.{trunk_of}
use Rattle.em_map.proofs.Closes.{closed_none, counts_close}
use Rattle.em_map.proofs.Closing.{area_len, area_out, can_close, closes_to, counts_to, entered_goes, over_closed, room_closed, some_to}
use Rattle.em_map.proofs.Pushing.{counts_none}
use Rattle.em_map.proofs.batch.Batch.close.Goals as goal

pub enter-entered-requires-clause-can : goal.enter-entered-requires-clause-can
enter-entered-requires-clause-can g c =
    can_close (seen g.D.Device.state c.args.rig.now) c.args.self.now c.in-Some.taken c.requires.sound c.requires.is
    c.in-Some.ensures.value c.replace.new.dest

pub give_area-requires-clause-sound : goal.give_area-requires-clause-sound
give_area-requires-clause-sound g c =
    let b = c.args.self.now in
    (entered_goes c.in-Some.taken.items (seen g.D.Device.state c.args.rig.now)
    (seen g.D.Device.state c.enter-entered.new.rig) (record b { load = c.replace.new.dest }) c.enter-entered.new.self
    c.enter-entered.result c.enter-entered.ensures.enters).sound

pub give_area-requires-clause-len : goal.give_area-requires-clause-len
give_area-requires-clause-len g c =
    let b = c.args.self.now in
    let s = seen g.D.Device.state c.args.rig.now in
    let m = seen g.D.Device.state c.enter-entered.new.rig in
    area_len s b c.in-Some.taken c.requires.sound c.requires.is c.in-Some.ensures.value m (length c.into_area.result)
    (entered_goes c.in-Some.taken.items s m (record b { load = c.replace.new.dest }) c.enter-entered.new.self
    c.enter-entered.result c.enter-entered.ensures.enters) (c.into_area.ensures ∙ c.enter-entered.ensures.capacity)

pub give_area-requires-clause-out : goal.give_area-requires-clause-out
give_area-requires-clause-out g c =
    let b = c.args.self.now in
    let s = seen g.D.Device.state c.args.rig.now in
    let m = seen g.D.Device.state c.enter-entered.new.rig in
    area_out s b c.in-Some.taken c.requires.sound c.requires.is c.in-Some.ensures.value m
    (entered_goes c.in-Some.taken.items s m (record b { load = c.replace.new.dest }) c.enter-entered.new.self
    c.enter-entered.result c.enter-entered.ensures.enters)

pub returns-in-None-clause-closes : goal.returns-in-None-clause-closes
returns-in-None-clause-closes g c =
    closed_none (seen g.D.Device.state c.args.rig.now) c.args.self.now c.replace.new.dest c.requires.sound c.requires.is
    c.in-None.ensures.value c.in-None.ensures.after

pub returns-in-None-clause-counts : goal.returns-in-None-clause-counts
returns-in-None-clause-counts g c =
    let b = c.args.self.now in
    let s = seen g.D.Device.state c.args.rig.now in
    counts_close 0 s s s b (record b { load = c.replace.new.dest }) c.requires.is
    (counts_none s (trunk_of b) c.requires.sound c.requires.is.is) refl (omega arith) (omega arith) refl refl refl

pub returns-in-Some-clause-closes : goal.returns-in-Some-clause-closes
returns-in-Some-clause-closes g c =
    let b = c.args.self.now in
    closes_to (seen g.D.Device.state c.args.rig.now) b c.in-Some.taken c.requires.sound c.requires.is
    c.in-Some.ensures.value (seen g.D.Device.state c.enter-entered.new.rig) (seen g.D.Device.state c.give_area.new.self)
    c.enter-entered.new.self c.replace.new.dest c.enter-entered.result c.enter-entered.ensures.enters
    c.give_area.ensures.sound c.give_area.ensures.touches c.give_area.ensures.given c.enter-entered.ensures.rest
    c.in-Some.ensures.after c.enter-entered.ensures.rule c.enter-entered.ensures.counts

pub returns-in-Some-clause-some : goal.returns-in-Some-clause-some
returns-in-Some-clause-some g c =
    some_to (seen g.D.Device.state c.args.rig.now) c.args.self.now c.in-Some.taken c.requires.sound c.requires.is
    c.in-Some.ensures.value (seen g.D.Device.state c.enter-entered.new.rig) (seen g.D.Device.state c.give_area.new.self)
    c.enter-entered.new.self c.replace.new.dest c.enter-entered.result c.enter-entered.ensures.enters
    c.give_area.ensures.sound c.give_area.ensures.touches c.give_area.ensures.given c.enter-entered.ensures.some

pub returns-in-Some-clause-counts : goal.returns-in-Some-clause-counts
returns-in-Some-clause-counts g c =
    counts_to (seen g.D.Device.state c.args.rig.now) c.args.self.now c.in-Some.taken c.requires.sound c.requires.is
    c.in-Some.ensures.value (seen g.D.Device.state c.enter-entered.new.rig) (seen g.D.Device.state c.give_area.new.self)
    c.enter-entered.new.self c.replace.new.dest c.enter-entered.result c.enter-entered.ensures.enters
    c.give_area.ensures.sound c.give_area.ensures.touches c.give_area.ensures.given c.enter-entered.ensures.rest
    c.in-Some.ensures.after c.enter-entered.ensures.rule c.enter-entered.ensures.counts

pub returns-in-Some-clause-room : goal.returns-in-Some-clause-room
returns-in-Some-clause-room g c =
    room_closed (seen g.D.Device.state c.args.rig.now) c.args.self.now c.in-Some.taken c.requires.sound c.requires.is
    c.in-Some.ensures.value (seen g.D.Device.state c.enter-entered.new.rig) (seen g.D.Device.state c.give_area.new.self)
    c.enter-entered.new.self c.replace.new.dest c.enter-entered.result c.enter-entered.ensures.enters
    c.give_area.ensures.sound c.give_area.ensures.touches c.give_area.ensures.given c.enter-entered.ensures.room

pub returns-in-Some-clause-over : goal.returns-in-Some-clause-over
returns-in-Some-clause-over g c =
    over_closed (seen g.D.Device.state c.args.rig.now) c.args.self.now c.in-Some.taken c.requires.sound c.requires.is
    c.in-Some.ensures.value (seen g.D.Device.state c.enter-entered.new.rig) (seen g.D.Device.state c.give_area.new.self)
    c.enter-entered.new.self c.replace.new.dest c.enter-entered.result c.enter-entered.ensures.enters
    c.give_area.ensures.sound c.give_area.ensures.touches c.give_area.ensures.given c.enter-entered.ensures.over
