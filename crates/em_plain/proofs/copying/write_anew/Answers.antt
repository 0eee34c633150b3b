use Rattle.em_space.specs.Seen.{seen}
use Rattle.em_plain.proofs.Anew.{Opening, anew_begins, writes_anew}
use Rattle.em_plain.proofs.copying.write_anew.Goals as goal

pub copy_all-copied-requires-clause-begins : goal.copy_all-copied-requires-clause-begins
copy_all-copied-requires-clause-begins g c =
    let o = c.taking-reader.ensures in
    let h : Opening (seen g.D.Device.state c.args.rig.now) (seen g.D.Device.state c.taking-reader.new.rig)
    c.args.chain c.taking-reader.result c.args.writer.now = record {
      begins = c.requires.begins;
      none_left = c.requires.none_left;
      lends = o.lends;
      unmoved = o.unmoved;
      opens = o.opens;
    } in
    rw (c.len-count.ensures) (anew_begins h)

pub returns : goal.returns
returns g c =
    let o = c.taking-reader.ensures in
    let k = c.copy_all-copied.ensures in
    let e = c.abandon.ensures in
    let h : Opening (seen g.D.Device.state c.args.rig.now) (seen g.D.Device.state c.taking-reader.new.rig)
    c.args.chain c.taking-reader.result c.args.writer.now = record {
      begins = c.requires.begins;
      none_left = c.requires.none_left;
      lends = o.lends;
      unmoved = o.unmoved;
      opens = o.opens;
    } in
    record {
      done = writes_anew c.copy_all-copied.new.writer h k.goes k.writer k.costs e.gives e.unmoved
          c.copy_all-copied.new.reader c.copy_all-copied.result k.copied k.full k.cause;
    }
