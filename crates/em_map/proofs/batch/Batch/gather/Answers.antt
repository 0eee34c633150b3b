use Rattle.std.proofs.Common.{◌+◌, ◌<◌, ◌≤◌, ap, refl, arith, length}
use Rattle.em_space.specs.Seen.{seen}
use Rattle.em_map.proofs.Closing.{entered_goes}
use Rattle.em_map.proofs.GatherCall.{as_pushed, can_gather, full_counts, full_needs, full_over, full_room, full_takes, later, mid_counts, mid_takes}
use Rattle.em_map.proofs.batch.Batch.gather.Goals as goal

pub push-requires-clause-later : goal.push-requires-clause-later
push-requires-clause-later g c =
    later (seen g.D.Device.state c.args.rig.now) (seen g.D.Device.state c.take_load-load.new.rig) c.args.self.now
    c.take_load-load.new.self c.take_load-load.result c.requires.sound c.requires.is c.take_load-load.ensures.takes

pub returns-then-len-capacity-clause-takes : goal.returns-then-len-capacity-clause-takes
returns-then-len-capacity-clause-takes g c = λ given ops.
    let b = c.args.self.now in
    let x = c.take_load-load.new.self in
    let pushed = as_pushed c.take_load-load.result c.push.new.self c.args.key c.args.what c.args.value x.calls b.calls
    (ap (λ (z : _). z.calls) c.take_load-load.ensures.takes.is) c.push.ensures in
    let less : length c.push.new.self.items < c.push.new.self.capacity = let n = c.len.ensures.value in let m = c.capacity.ensures in let k = c.if-len-capacity.true in
    omega (arith, n, m, k) in
    mid_takes (seen g.D.Device.state c.args.rig.now) (seen g.D.Device.state c.take_load-load.new.rig) b x
    c.take_load-load.result c.requires.sound c.requires.is c.take_load-load.ensures.takes
    (record { a = c.args.key; b = b.calls + 1; c = c.args.what; d = c.args.value }) c.requires.early c.requires.few
    (omega arith, c.requires.what) refl c.push.new.self pushed
    (seen g.D.Device.state c.put_load.new.rig) c.put_load.new.self c.put_load.ensures.puts c.put_load.ensures.same less given ops

pub returns-then-len-capacity-clause-counts : goal.returns-then-len-capacity-clause-counts
returns-then-len-capacity-clause-counts g c = λ given ops.
    let b = c.args.self.now in
    let x = c.take_load-load.new.self in
    let pushed = as_pushed c.take_load-load.result c.push.new.self c.args.key c.args.what c.args.value x.calls b.calls
    (ap (λ (z : _). z.calls) c.take_load-load.ensures.takes.is) c.push.ensures in
    let less : length c.push.new.self.items < c.push.new.self.capacity = let n = c.len.ensures.value in let m = c.capacity.ensures in let k = c.if-len-capacity.true in
    omega (arith, n, m, k) in
    mid_counts (seen g.D.Device.state c.args.rig.now) (seen g.D.Device.state c.take_load-load.new.rig) b x
    c.take_load-load.result c.requires.sound c.requires.is c.take_load-load.ensures.takes
    (record { a = c.args.key; b = b.calls + 1; c = c.args.what; d = c.args.value }) c.requires.early c.requires.few
    (omega arith, c.requires.what) refl c.push.new.self pushed
    (seen g.D.Device.state c.put_load.new.rig) c.put_load.new.self c.put_load.ensures.puts c.put_load.ensures.same less given ops

pub enter-entered-requires-clause-can : goal.enter-entered-requires-clause-can
enter-entered-requires-clause-can g c =
    let b = c.args.self.now in
    let x = c.take_load-load.new.self in
    let pushed = as_pushed c.take_load-load.result c.push.new.self c.args.key c.args.what c.args.value x.calls b.calls
    (ap (λ (z : _). z.calls) c.take_load-load.ensures.takes.is) c.push.ensures in
    can_gather (seen g.D.Device.state c.args.rig.now) (seen g.D.Device.state c.take_load-load.new.rig) b x
    c.take_load-load.result c.requires.sound c.requires.is c.take_load-load.ensures.takes
    (record { a = c.args.key; b = b.calls + 1; c = c.args.what; d = c.args.value }) c.requires.early c.requires.few
    (omega arith, c.requires.what) refl c.push.new.self pushed

pub put_load-requires-2-clause-sound : goal.put_load-requires-2-clause-sound
put_load-requires-2-clause-sound g c =
    let x = c.take_load-load.new.self in
    (entered_goes c.push.new.self.items (seen g.D.Device.state c.take_load-load.new.rig)
    (seen g.D.Device.state c.enter-entered.new.rig) (record x { calls = x.calls + 1 }) c.enter-entered.new.self
    c.enter-entered.result c.enter-entered.ensures.enters).sound

pub returns-clause-takes : goal.returns-clause-takes
returns-clause-takes g c = λ given ops.
    let b = c.args.self.now in
    let x = c.take_load-load.new.self in
    let pushed = as_pushed c.take_load-load.result c.push.new.self c.args.key c.args.what c.args.value x.calls b.calls
    (ap (λ (z : _). z.calls) c.take_load-load.ensures.takes.is) c.push.ensures in
    let full : c.push.new.self.capacity ≤ length c.push.new.self.items =
    let n = c.len.ensures.value in let m = c.capacity.ensures in let k = c.if-len-capacity.false in
    omega (arith, n, m, k) in
    full_takes (seen g.D.Device.state c.args.rig.now) (seen g.D.Device.state c.take_load-load.new.rig) b x
    c.take_load-load.result c.requires.sound c.requires.is c.take_load-load.ensures.takes
    (record { a = c.args.key; b = b.calls + 1; c = c.args.what; d = c.args.value }) c.requires.early c.requires.few
    (omega arith, c.requires.what) refl c.push.new.self pushed
    (seen g.D.Device.state c.enter-entered.new.rig) (seen g.D.Device.state c.put_load-2.new.rig) c.enter-entered.new.self
    c.put_load-2.new.self c.enter-entered.new.load c.enter-entered.result c.enter-entered.ensures.enters
    c.enter-entered.ensures.rest c.enter-entered.ensures.rule c.enter-entered.ensures.capacity
    c.enter-entered.ensures.counts c.put_load-2.ensures.puts c.put_load-2.ensures.same full c.enter-entered.ensures.empty given ops

pub returns-clause-counts : goal.returns-clause-counts
returns-clause-counts g c = λ given ops.
    let b = c.args.self.now in
    let x = c.take_load-load.new.self in
    let pushed = as_pushed c.take_load-load.result c.push.new.self c.args.key c.args.what c.args.value x.calls b.calls
    (ap (λ (z : _). z.calls) c.take_load-load.ensures.takes.is) c.push.ensures in
    let full : c.push.new.self.capacity ≤ length c.push.new.self.items =
    let n = c.len.ensures.value in let m = c.capacity.ensures in let k = c.if-len-capacity.false in
    omega (arith, n, m, k) in
    full_counts (seen g.D.Device.state c.args.rig.now) (seen g.D.Device.state c.take_load-load.new.rig) b x
    c.take_load-load.result c.requires.sound c.requires.is c.take_load-load.ensures.takes
    (record { a = c.args.key; b = b.calls + 1; c = c.args.what; d = c.args.value }) c.requires.early c.requires.few
    (omega arith, c.requires.what) refl c.push.new.self pushed
    (seen g.D.Device.state c.enter-entered.new.rig) (seen g.D.Device.state c.put_load-2.new.rig) c.enter-entered.new.self
    c.put_load-2.new.self c.enter-entered.new.load c.enter-entered.result c.enter-entered.ensures.enters
    c.enter-entered.ensures.rest c.enter-entered.ensures.rule c.enter-entered.ensures.capacity
    c.enter-entered.ensures.counts c.put_load-2.ensures.puts c.put_load-2.ensures.same full given ops

pub returns-clause-needs : goal.returns-clause-needs
returns-clause-needs g c =
    let b = c.args.self.now in
    let x = c.take_load-load.new.self in
    let pushed = as_pushed c.take_load-load.result c.push.new.self c.args.key c.args.what c.args.value x.calls b.calls
    (ap (λ (z : _). z.calls) c.take_load-load.ensures.takes.is) c.push.ensures in
    let full : c.push.new.self.capacity ≤ length c.push.new.self.items =
    let n = c.len.ensures.value in let m = c.capacity.ensures in let k = c.if-len-capacity.false in
    omega (arith, n, m, k) in
    full_needs (seen g.D.Device.state c.args.rig.now) (seen g.D.Device.state c.take_load-load.new.rig) b x
    c.take_load-load.result c.requires.sound c.requires.is c.take_load-load.ensures.takes
    (record { a = c.args.key; b = b.calls + 1; c = c.args.what; d = c.args.value }) c.requires.early c.requires.few
    (omega arith, c.requires.what) refl c.push.new.self pushed
    (seen g.D.Device.state c.enter-entered.new.rig) (seen g.D.Device.state c.put_load-2.new.rig) c.enter-entered.new.self
    c.put_load-2.new.self c.enter-entered.new.load c.enter-entered.result c.enter-entered.ensures.enters
    c.enter-entered.ensures.rest c.enter-entered.ensures.rule c.enter-entered.ensures.capacity
    c.enter-entered.ensures.counts c.put_load-2.ensures.puts c.put_load-2.ensures.same full

pub returns-clause-room : goal.returns-clause-room
returns-clause-room g c =
    let b = c.args.self.now in
    let x = c.take_load-load.new.self in
    let pushed = as_pushed c.take_load-load.result c.push.new.self c.args.key c.args.what c.args.value x.calls b.calls
    (ap (λ (z : _). z.calls) c.take_load-load.ensures.takes.is) c.push.ensures in
    let full : c.push.new.self.capacity ≤ length c.push.new.self.items =
    let n = c.len.ensures.value in let m = c.capacity.ensures in let k = c.if-len-capacity.false in
    omega (arith, n, m, k) in
    full_room (seen g.D.Device.state c.args.rig.now) (seen g.D.Device.state c.take_load-load.new.rig) b x
    c.take_load-load.result c.requires.sound c.requires.is c.take_load-load.ensures.takes
    (record { a = c.args.key; b = b.calls + 1; c = c.args.what; d = c.args.value }) c.requires.early c.requires.few
    (omega arith, c.requires.what) refl c.push.new.self pushed
    (seen g.D.Device.state c.enter-entered.new.rig) (seen g.D.Device.state c.put_load-2.new.rig) c.enter-entered.new.self
    c.put_load-2.new.self c.enter-entered.new.load c.enter-entered.result c.enter-entered.ensures.enters
    c.enter-entered.ensures.rest c.enter-entered.ensures.rule c.enter-entered.ensures.capacity
    c.enter-entered.ensures.counts c.put_load-2.ensures.puts c.put_load-2.ensures.same full c.enter-entered.ensures.room

pub returns-clause-over : goal.returns-clause-over
returns-clause-over g c =
    let b = c.args.self.now in
    let x = c.take_load-load.new.self in
    let pushed = as_pushed c.take_load-load.result c.push.new.self c.args.key c.args.what c.args.value x.calls b.calls
    (ap (λ (z : _). z.calls) c.take_load-load.ensures.takes.is) c.push.ensures in
    let full : c.push.new.self.capacity ≤ length c.push.new.self.items =
    let n = c.len.ensures.value in let m = c.capacity.ensures in let k = c.if-len-capacity.false in
    omega (arith, n, m, k) in
    full_over (seen g.D.Device.state c.args.rig.now) (seen g.D.Device.state c.take_load-load.new.rig) b x
    c.take_load-load.result c.requires.sound c.requires.is c.take_load-load.ensures.takes
    (record { a = c.args.key; b = b.calls + 1; c = c.args.what; d = c.args.value }) c.requires.early c.requires.few
    (omega arith, c.requires.what) refl c.push.new.self pushed
    (seen g.D.Device.state c.enter-entered.new.rig) (seen g.D.Device.state c.put_load-2.new.rig) c.enter-entered.new.self
    c.put_load-2.new.self c.enter-entered.new.load c.enter-entered.result c.enter-entered.ensures.enters
    c.enter-entered.ensures.rest c.enter-entered.ensures.rule c.enter-entered.ensures.capacity
    c.enter-entered.ensures.counts c.put_load-2.ensures.puts c.put_load-2.ensures.same full c.enter-entered.ensures.over
