use Rattle.std.proofs.Common.{Some, None, refl, ap, ◌∙◌, get_or, set}
use Rattle.em_record.specs.Shape.{ShapeNumbers}
use Rattle.em_space.specs.Rig.{RigState}
use Rattle.em_space.specs.Seen.{seen}
use Rattle.em_chain.specs.declared.member.MemberWords.{MemberWords}
use Rattle.em_chain.specs.Writers.{writer_in, chain_in, no_words}
use Rattle.em_chain.proofs.WritersOpening.{Reads, member_touched, member_added, opens_touched, added_chain, opens_loaded, halts_loaded, frame_len, place_within, has_rack_back, frames_back}
use Rattle.em_chain.proofs.WritersMembers.{filled_get, get_set_here}
use Rattle.em_chain.proofs.writers.Writers.open.Goals as goal

pub take-frame-requires : goal.take-frame-requires
take-frame-requires g c =
    let k = filled_get _ _ _ c.args.at c.requires.is.has.filled_by c.requires.within in
    (k.frame, k.is)

pub returns-then-member-clause-opens : goal.returns-then-member-clause-opens
returns-then-member-clause-opens g c =
    let m : MemberWords = get_or c.deref.result.now c.args.at no_words in
    let r : Reads c.args.self.now c.args.at no_words c.deref.result.now c.take-frame.result =
    record {
      within =
          c.requires.within;
      same = c.deref.ensures.0;
      frame = c.take-frame.ensures.frame;
    } in
    opens_touched (writer_in m c.take-frame.result) (member_touched r c.if-member.true)
    c.writer.ensures c.requires.within c.requires.is

pub give-requires-clause-len : goal.give-requires-clause-len
give-requires-clause-len g c =
    frame_len (seen g.D.Device.state c.args.rig.now) c.args.self.now c.args.at c.take-frame.result
    c.requires.is.has c.requires.within c.take-frame.ensures.frame

pub resume-requires-clause-is : goal.resume-requires-clause-is
resume-requires-clause-is g c =
    let m : MemberWords = get_or c.deref.result.now c.args.at no_words in
    let r : Reads c.args.self.now c.args.at no_words c.deref.result.now c.take-frame.result =
    record {
      within =
          c.requires.within;
      same = c.deref.ensures.0;
      frame = c.take-frame.ensures.frame;
    } in
    added_chain (chain_in m) c.chain.result (member_added r c.if-member.false) c.chain.ensures
    c.requires.within c.requires.is c.give.ensures.given

pub put-requires : goal.put-requires
put-requires g c =
    rw (c.take-frame.ensures.places)
    (get_set_here c.args.self.now.rack c.args.at None
    (place_within (seen g.D.Device.state c.args.rig.now) c.args.self.now c.args.at
    c.requires.is.has c.requires.within))

pub returns-in-Ok-clause-opens : goal.returns-in-Ok-clause-opens
returns-in-Ok-clause-opens g c =
    let m : MemberWords = get_or c.deref.result.now c.args.at no_words in
    let r : Reads c.args.self.now c.args.at no_words c.deref.result.now c.take-frame.result =
    record {
      within =
          c.requires.within;
      same = c.deref.ensures.0;
      frame = c.take-frame.ensures.frame;
    } in
    opens_loaded _ (chain_in m) c.chain.result (member_added r c.if-member.false) c.chain.ensures
    (c.in-Ok.ensures.lends.touches.shape ∙ c.give.ensures.touches.shape)
    (c.in-Ok.ensures.lends.touches.told ∙ c.give.ensures.touches.told)
    c.give.ensures.given c.in-Ok.ensures.resumes c.in-Ok.ensures.spends

pub returns-in-Err-clause-has : goal.returns-in-Err-clause-has
returns-in-Err-clause-has g c =
    let s = seen g.D.Device.state c.args.rig.now in
    let u = seen g.D.Device.state c.lend-frame.new.self in
    let r = c.in-Err.ensures.refused in
    has_rack_back s u c.args.self.now _ c.args.at c.lend-frame.result c.requires.is.has
    (frames_back s _ _ u c.give.ensures.given r.frames c.lend-frame.ensures.lent)
    c.requires.within
    (c.lend-frame.ensures.len ∙ ap (λ (x : ShapeNumbers). x.block)
    (r.touches.shape ∙ c.give.ensures.touches.shape))
    refl (c.put.ensures ∙ ap (λ ps. set ps c.args.at
    (Some c.lend-frame.result)) c.take-frame.ensures.places)

pub returns-in-Err-clause-halts : goal.returns-in-Err-clause-halts
returns-in-Err-clause-halts g c =
    let m : MemberWords = get_or c.deref.result.now c.args.at no_words in
    let r : Reads c.args.self.now c.args.at no_words c.deref.result.now c.take-frame.result =
    record {
      within =
          c.requires.within;
      same = c.deref.ensures.0;
      frame = c.take-frame.ensures.frame;
    } in
    let e = c.lend-frame.ensures.lent in
    halts_loaded _ (chain_in m) c.chain.result (member_added r c.if-member.false) c.chain.ensures
    c.give.ensures.given (ap (λ (x : RigState). x.used) e) (ap (λ (x : RigState). x.most) e)
    (ap (λ (x : RigState). x.moves) e) c.in-Err.ensures.spends
