use Rattle.std.proofs.Common.{◌-◌, List, length, [], ap, sym, ◌∙◌, arith}
use Rattle.em_record.specs.declared.record.Record.{Record}
use Rattle.em_space.specs.Free.{link_at}
use Rattle.em_space.specs.Seen.{seen}
use Rattle.em_space.proofs.Steps.{goes_then}
use Rattle.em_space.proofs.Rigs.{HasFirst, goes_read, goes_first, allocates_read, untold_first, with_first}
use Rattle.em_space.proofs.rig.Rig+D.alloc_freed.Goals as goal

pub returns-then-not-is_free-clause-cause : goal.returns-then-not-is_free-clause-cause
returns-then-not-is_free-clause-cause g c =
    let s = seen g.D.Device.state c.args.self.now in
    let k = c.args.self.now.head - 1 in
    let some = c.requires.some in
    let high = c.requires.sound.numbers.head_high in
    let e = c.in_ok-first.ensures in
    let same = e.reads.blocks in (
      e.reads.told ∙ untold_first s k c.in_ok-first.first c.requires.sound (omega arith) e.header
          c.requires.spare (λ h.
          let yes = c.is_free.ensures.1 (rw (same, e.reads.same.most, e.reads.same.used) h) in
          let no = c.if-not-is_free.true in
          cc),
      omega arith,
    )

first : (g : _) (c : goal.After-self-2-1 g)
    → HasFirst (seen g.D.Device.state c.header_of.new.self) (c.args.self.now.head - 1)
    c.in_ok-first.first.a
first g c =
    let e = c.in_ok-first.ensures in
    let some = c.requires.some in
    let same = e.reads.same.head in
    let k = c.args.self.now.head - 1 in
    let test = c.is_free.ensures.0 c.if-not-is_free.false in
    record {
      sound = e.sound;
      none = ap length e.reads.spare ∙ c.requires.spare;
      head = omega arith;
      link_is = λ y. ap (λ (r : Record). r.a) (e.header (sym e.reads.told ∙ y))
          ∙ sym (ap (λ (bs : List (List Record)). link_at bs k) e.reads.contents);
      within = test.within;
      last = test.last;
    }

pub returns-clause-goes : goal.returns-clause-goes
returns-clause-goes g c =
    let s = seen g.D.Device.state c.args.self.now in
    let t = seen g.D.Device.state c.header_of.new.self in
    let e = c.in_ok-first.ensures in
    goes_then [] s t (with_first t c.in_ok-first.first.a) (goes_read s t e.sound e.reads e.frames)
    (goes_first t _ _ (first g c))

pub returns-clause-given : goal.returns-clause-given
returns-clause-given g c =
    let s = seen g.D.Device.state c.args.self.now in
    let t = seen g.D.Device.state c.header_of.new.self in
    let e = c.in_ok-first.ensures in
    allocates_read s t _ _ e.sound e.reads e.frames (first g c)
