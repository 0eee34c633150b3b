use Rattle.std.proofs.Common.{List, arith, ap}
use Rattle.em_record.specs.declared.record.Record.{Record}
use Rattle.em_space.specs.Free.{header}
use Rattle.em_space.specs.Seen.{seen}
use Rattle.em_chain.proofs.Readers.{more_is}
use Rattle.em_chain.proofs.reader.Reader.step.Goals as goal

pub returns-then-self-first-clause-reads : goal.returns-then-self-first-clause-reads
returns-then-self-first-clause-reads g c =
    let s = seen g.D.Device.state c.args.rig.now in
    let r = c.requires.ready in
    let n = c.if-self-eq1.false in
    let p = r.loaded.count in
    let h = ap (λ (xs : List Record). (header xs).b) c.records.ensures in
    rw c.records-2.ensures (more_is s c.args.self.now r.is r.loaded (omega arith) (omega arith))
