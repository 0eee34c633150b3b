use Rattle.std.proofs.Common.{List, rules, arith, ap, sym, ◌∙◌, get_or, length, refl}
use Rattle.std.proofs.lemmas.Bool.{false≢true}
use Rattle.em_record.specs.declared.record.Record.{Record}
use Rattle.em_frames.specs.Device.{zero_record}
use Rattle.em_space.specs.Free.{header}
use Rattle.em_space.specs.Seen.{seen}
use Rattle.em_chain.specs.Reader.{rest_of}
use Rattle.em_space.proofs.Steps.{untold_by}
use Rattle.em_chain.proofs.Appending.{pos_of}
use Rattle.em_chain.proofs.Readers.{fetched, first_passes, head_is}
use Rattle.em_chain.proofs.reader.Reader.fetch.Goals as goal

pub returns-clause-fetches : goal.returns-clause-fetches
returns-clause-fetches g c =
    let s = seen g.D.Device.state c.args.rig.now in
    let t = seen g.D.Device.state c.load.new.self in
    let b = c.blocks-else-self-eq0.ensures in
    let k = c.if-not-is_link.ensures.0 refl in
    let k0 = k.0 in
    let k1 = k.1 in
    let l2 = ap (λ (xs : List Record). length xs) c.records-2.ensures in
    let l1 = c.load.ensures.len in
    let l0 = c.requires.is.frame.len_is in
    let h = c.if-not-has_more.ensures.0 refl in
    let hm = h.1.most_is in
    let n = c.requires.needs.count in
    fetched s t c.args.self.now c.load.new.frame (get_or c.records.result.now 0 zero_record)
    c.requires.is c.load.ensures.goes.touches
    (pos_of c.args.self.now.blocks c.if-self-eq0.false) n k0
    (record {
      told = λ y. (head_is s (rest_of c.args.self.now) c.requires.is.chain y n).in_use.told y;
      untold = λ y. omega arith;
    })
    (search rules) c.in_ok-load.ensures.loaded
    (ap (λ (xs : List Record). header xs) c.records.ensures) h.1.is h.0 (omega arith)

pub returns-then-not-has_more-clause-cause : goal.returns-then-not-has_more-clause-cause
returns-then-not-has_more-clause-cause g c =
    let s = seen g.D.Device.state c.args.rig.now in
    let v = c.load.ensures.goes.touches in
    let vb = v.blocks in
    let b = c.blocks-else-self-eq0.ensures in
    let k = c.if-not-is_link.ensures.0 refl in
    let k0 = k.0 in
    let k1 = k.1 in
    let l2 = ap (λ (xs : List Record). length xs) c.records-2.ensures in
    let l1 = c.load.ensures.len in
    let l0 = c.requires.is.frame.len_is in (
      untold_by _ (λ y.
          let z = sym v.told ∙ y in
          false≢true (c.if-not-has_more.ensures.1 (first_passes s (rest_of c.args.self.now)
          (get_or c.records.result.now 0 zero_record) _ _ c.requires.sound c.requires.is.chain z
          c.requires.needs.count
          (ap (λ (xs : List Record). header xs) (c.records.ensures ∙ c.in_ok-load.ensures.loaded z))
          (omega arith) c.link_limit-limit.ensures.last
          (λ n. c.link_limit-limit.ensures.more n ∙ c.blocks-2.ensures ∙ vb)))),
      omega arith,
    )
