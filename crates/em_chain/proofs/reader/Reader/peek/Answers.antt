use Rattle.std.proofs.Common.{◌∙◌}
use Rattle.em_space.specs.Seen.{seen}
use Rattle.em_chain.proofs.Readers.{peeked}
use Rattle.em_chain.proofs.reader.Reader.peek.Goals as goal

pub returns-clause-peeks : goal.returns-clause-peeks
returns-clause-peeks g c =
    let s = seen g.D.Device.state c.args.rig.now in
    let t = seen g.D.Device.state c.ready.new.rig in
    let f = c.in_ok-ready.ensures.fetches in
    let q = c.ready.new.self in
    record {
      fetches = f;
      next = λ z.
          let y = c.ready.ensures.goes.touches.told ∙ z in
          rw c.records.ensures (peeked t q f.ready (f.ready.loaded f.loaded) y);
    }
