use Rattle.std.proofs.Common.{◌+◌, ◌<◌}
use Rattle.em_space.specs.Seen.{seen}
use Rattle.em_space.proofs.Ledgers.{full_never}
use Rattle.em_tree_load.proofs.AreaFroms.{filled_from, stops_fill}
use Rattle.em_tree_load.proofs.LoadRooms.{filled_takes}
use Rattle.em_tree_load.proofs.Peaks.{taking_halts, taking_peaks}
use Rattle.em_tree_load.proofs.filling.fill_from.Goals as goal

pub returns-in-Ok-clause-fills : goal.returns-in-Ok-clause-fills
returns-in-Ok-clause-fills g c =
    let o = c.taking-reader.ensures in
    let e = c.end.ensures in
    let r = c.in-Ok.ensures in
    filled_from c.args.from c.args.count c.end.result c.requires.sound c.requires.chain o.lends
    o.unmoved o.opens r.reads r.kept e.gives e.unmoved e.words e.stays

pub returns-in-Err-clause-fills : goal.returns-in-Err-clause-fills
returns-in-Err-clause-fills g c =
    let o = c.taking-reader.ensures in
    let e = c.abandon.ensures in
    stops_fill c.requires.chain o.lends o.unmoved o.opens c.in-Err.ensures.reads e.gives e.unmoved

pub returns-in-Ok-clause-takes : goal.returns-in-Ok-clause-takes
returns-in-Ok-clause-takes g c =
    filled_takes c.taking-reader.ensures.unmoved c.in-Ok.ensures.reads c.end.ensures.unmoved

pub returns-in-Err-clause-takes : goal.returns-in-Err-clause-takes
returns-in-Err-clause-takes g c =
    let o = c.taking-reader.ensures in
    let e = c.abandon.ensures in
    let s = seen g.D.Device.state c.args.rig.now in
    full_never s (seen g.D.Device.state c.abandon.new.rig) c.in-Err.fault
    (s.blocks + 0 < s.used + 0) (stops_fill c.requires.chain o.lends o.unmoved o.opens
    c.in-Err.ensures.reads e.gives e.unmoved).cause

pub returns-in-Ok-clause-peaks : goal.returns-in-Ok-clause-peaks
returns-in-Ok-clause-peaks g c =
    taking_peaks c.taking-reader.result c.read_into.new.reader c.taking-reader.ensures.unmoved c.in-Ok.ensures.reads.read.runs.spends
    c.end.ensures.unmoved

pub returns-in-Err-clause-peaks : goal.returns-in-Err-clause-peaks
returns-in-Err-clause-peaks g c =
    taking_halts c.taking-reader.result c.taking-reader.ensures.unmoved c.in-Err.ensures.reads.halts
    c.abandon.ensures.unmoved
