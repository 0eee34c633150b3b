use Rattle.std.proofs.Common.{ap, refl, sym, ◌∙◌, ◌++◌, ◌∷◌, [], arith, length, List, Option, option_to_list, take, append_assoc, IsTrue}
use Rattle.std.proofs.lemmas.List.{append-nil}
use Rattle.em_record.specs.declared.record.Record.{Record}
use Rattle.em_space.specs.Held.{Apart}
use Rattle.em_space.specs.Rig.{Cause}
use Rattle.em_space.specs.Seen.{seen}
use Rattle.em_space.proofs.Steps.{cause_after, goes_nothing}
use Rattle.em_space.proofs.Queues.{out_same, shares_none, shares_same, shares_then, still_serves}
use Rattle.em_space.proofs.Within.{touches_within, within_kept, within_left, within_right, within_then}
use Rattle.em_chain.specs.Writer.{WriterStays, writer_blocks, writer_items}
use Rattle.em_chain.proofs.Keeps.{touches_none}
use Rattle.em_chain.proofs.Withins.{within_grows}
use Rattle.em_chain.proofs.Parts.{err_of}
use Rattle.em_chain.proofs.Queues.{apart_beside, apart_grown, writer_beside}
use Rattle.em_client.proofs.Clients.{left_next, list_more, list_most, take_next}
use Rattle.em_client.proofs.client.beside.Goals as goal

pub returns-in_default-clause-writer : goal.returns-in_default-clause-writer
returns-in_default-clause-writer g c =
    let inv = c.loop-count.invariant in
    let e = c.in_ok-item.ensures in
    let s = seen g.D.Device.state c.loop-count.rig in
    let t = seen g.D.Device.state c.pop.new.rig in
    (writer_beside s t c.loop-count.writer _ _ _ inv.writer e.serves e.served.frames
    inv.apart).is

pub returns-in_default-clause-apart : goal.returns-in_default-clause-apart
returns-in_default-clause-apart g c = λ told.
    let inv = c.loop-count.invariant in
    let e = c.in_ok-item.ensures in
    let s = seen g.D.Device.state c.loop-count.rig in
    let t = seen g.D.Device.state c.pop.new.rig in
    let w = c.loop-count.writer in
    let z = inv.touches.told ∙ told in
    let st = writer_beside s t w _ _ _ inv.writer e.serves e.served.frames
    inv.apart in
    rw (st.blocks z) (apart_beside s _ _ (writer_blocks s w) z e.within
    (inv.writer.told z).holds.in_use (inv.apart z))

pub returns-in_default-clause-written : goal.returns-in_default-clause-written
returns-in_default-clause-written g c = λ told.
    let inv = c.loop-count.invariant in
    let e = c.in_ok-item.ensures in
    let s = seen g.D.Device.state c.loop-count.rig in
    let t = seen g.D.Device.state c.pop.new.rig in
    let st = writer_beside s t c.loop-count.writer _ _ _ inv.writer e.serves e.served.frames
    inv.apart in
    st.items (inv.touches.told ∙ told) ∙ inv.written told

pub append-requires-clause-is : goal.append-requires-clause-is
append-requires-clause-is g c =
    let inv = c.loop-count.invariant in
    let e = c.in_ok-item.ensures in
    let s = seen g.D.Device.state c.loop-count.rig in
    let t = seen g.D.Device.state c.pop.new.rig in
    (writer_beside s t c.loop-count.writer _ _ _ inv.writer e.serves e.served.frames
    inv.apart).is

pub returns-in_err-append-clause-frames : goal.returns-in_err-append-clause-frames
returns-in_err-append-clause-frames g c =
    let laws = g.met.Q.Queue in
    let t = seen g.D.Device.state c.pop.new.rig in
    let u = seen g.D.Device.state c.append.new.rig in
    let a = c.append.ensures.goes in
    laws.frames_stay c.pop.new.self (writer_blocks t c.loop-count.writer) t u c.pop.ensures.frames
    a.touches (out_same _ _ _ (laws.out c.pop.new.self t c.pop.ensures.frames) a.frames)

pub loop-count-init : goal.loop-count-init
loop-count-init g c =
    let s = seen g.D.Device.state c.args.rig.now in
    let ks = g.Q.Queue.blocks c.args.queue.now s in
    let js = writer_blocks s c.args.writer.now in
    record {
      sound = c.requires.sound;
      touches = touches_none (ks ++ js) s s (goes_nothing s c.requires.sound).touches;
      within = within_left s ks js;
      within_list = within_right s ks js;
      queue = c.requires.is;
      writer = c.requires.writer;
      shares = shares_none _ _;
      frames = refl;
      free = c.requires.free;
      apart = c.requires.apart;
      count = omega arith;
      n = omega arith;
      remaining = omega arith;
      len = omega arith;
      blocks = omega arith;
      filled_is = omega arith;
      spent = omega arith;
      left = λ z. refl;
      written = λ z. sym (append-nil (writer_items s c.args.writer.now));
    }

pub returns-in_err-item-clause-touches : goal.returns-in_err-item-clause-touches
returns-in_err-item-clause-touches g c =
    let inv = c.loop-count.invariant in
    touches_within _ _ _ _ _ inv.touches inv.within c.pop.ensures.serves.touches

pub returns-in_default-clause-touches : goal.returns-in_default-clause-touches
returns-in_default-clause-touches g c =
    let inv = c.loop-count.invariant in
    touches_within _ _ _ _ _ inv.touches inv.within c.pop.ensures.serves.touches

pub returns-in_err-append-clause-touches : goal.returns-in_err-append-clause-touches
returns-in_err-append-clause-touches g c =
    let inv = c.loop-count.invariant in
    let e = c.in_ok-item.ensures in
    let s = seen g.D.Device.state c.loop-count.rig in
    let t = seen g.D.Device.state c.pop.new.rig in
    let u = seen g.D.Device.state c.append.new.rig in
    let w = c.loop-count.writer in
    let st : WriterStays s t w = writer_beside s t w _ _ _ inv.writer e.serves e.served.frames
    inv.apart in
    touches_within _ t u _ (writer_blocks t w)
    (touches_within _ s t _ _ inv.touches inv.within e.serves.touches)
    (within_kept _ _ _ (writer_blocks t w) inv.within_list
    (λ z. st.blocks (inv.touches.told ∙ z))) c.append.ensures.goes.touches

pub returns-in_err-append-clause-cause : goal.returns-in_err-append-clause-cause
returns-in_err-append-clause-cause g c =
    let inv = c.loop-count.invariant in
    let first = seen g.D.Device.state c.args.rig.now in
    let s = seen g.D.Device.state c.loop-count.rig in
    let t = seen g.D.Device.state c.pop.new.rig in
    let u = seen g.D.Device.state c.append.new.rig in
    err_of _ c.in_err-append.field-0.0 (Cause first u) c.from_residual-in_err-append.ensures.1
    (cause_after _ first t u _
    (touches_within _ s t _ _ inv.touches inv.within c.in_ok-item.ensures.serves.touches)
    c.in_err-append.ensures.cause)

pub loop-count-preserved : goal.loop-count-preserved
loop-count-preserved g c =
    let laws = g.met.Q.Queue in
    let inv = c.loop-count.invariant in
    let e = c.in_ok-item.ensures in
    let a = c.in_ok-append.ensures in
    let q = c.pop.new.self in
    let w = c.loop-count.writer in
    let v = c.append.new.self in
    let x = c.in-Some.item in
    let s = seen g.D.Device.state c.loop-count.rig in
    let t = seen g.D.Device.state c.pop.new.rig in
    let u = seen g.D.Device.state c.append.new.rig in
    let all = g.Q.Queue.items c.args.queue.now (seen g.D.Device.state c.args.rig.now) in
    let st : WriterStays s t w = writer_beside s t w _ _ _ inv.writer e.serves e.served.frames
    inv.apart in
    let apart = λ (z : IsTrue s.device.told). apart_beside s _ _ (writer_blocks s w) z e.within
    (inv.writer.told z).holds.in_use (inv.apart z) in
    let out = out_same _ _ _ (laws.out q t e.frames) a.goes.frames in
    let off : IsTrue t.device.told → Apart (g.Q.Queue.blocks q t) (writer_blocks t w) =
    λ z. let zs = sym e.serves.touches.told ∙ z in rw (st.blocks zs) (apart zs) in
    let kept = laws.stays q (writer_blocks t w) t u e.is a.goes.touches off out in
    let touches = touches_within _ s t _ _ inv.touches inv.within e.serves.touches in
    let list = within_kept _ _ _ (writer_blocks t w) inv.within_list
    (λ z. st.blocks (inv.touches.told ∙ z)) in
    let same = shares_same (g.Q.Queue.counts q) t.pool u.pool a.goes.frames in
    let one = shares_then _ _ _ _ _ _ e.serves.frames same in
    record {
      sound = a.goes.sound;
      touches = touches_within _ t u _ _ touches list a.goes.touches;
      within = within_kept _ _ _ _ (within_then _ s _ _ _ inv.touches inv.within e.within)
          (λ z. kept.2 (touches.told ∙ z));
      within_list = within_then _ t _ _ _ touches list
          (within_grows t (writer_blocks t w) (writer_blocks u v) a.appends.grown);
      queue = kept.0;
      writer = a.appends.is;
      shares = shares_then _ _ _ _ _ _ inv.shares one;
      frames = e.served.frames ∙ inv.frames;
      free = still_serves _ _ _ _ inv.free one e.served.frames e.served.areas;
      apart = λ z.
          let z1 = sym a.goes.touches.told ∙ z in
          rw (kept.2 z1) (apart_grown t _ (writer_blocks t w) _ z1 (laws.holds q t e.is z1).in_use
          (off z1) (a.appends.grown z1));
      count = omega arith;
      n = let m = e.serves.n in omega (arith, m, inv.n);
      remaining =
          let m = e.len in
          let one = ap (λ (o : Option Record). length (option_to_list o)) c.in-Some.is in
          omega (arith, m, one, inv.remaining);
      len = let m = a.appends.count_is in omega (arith, m, inv.len);
      blocks = let m = a.costs.more in omega (arith, m, inv.blocks);
      filled_is = omega (arith, a.appends.filled_is, st.filled_is, inv.filled_is);
      spent = omega (arith, a.costs.moves, e.serves.spent, inv.spent);
      left = λ z.
          let zs = inv.touches.told ∙ z in
          kept.1 (e.serves.touches.told ∙ zs)
          ∙ left_next all _ _ x c.loop-count.count (inv.left z)
          (e.items zs ∙ ap (λ o. option_to_list o ++ g.Q.Queue.items q t) c.in-Some.is);
      written = λ z.
          let zs = inv.touches.told ∙ z in
          let first = writer_items (seen g.D.Device.state c.args.rig.now) c.args.writer.now in
          let next = e.items zs
          ∙ ap (λ o. option_to_list o ++ g.Q.Queue.items q t) c.in-Some.is in
          a.appends.items (e.serves.touches.told ∙ zs)
          ∙ ap (λ (l : List Record). l ++ x ∷ []) (st.items zs ∙ inv.written z)
          ∙ append_assoc first (take c.loop-count.count all) (x ∷ [])
          ∙ ap (λ (l : List Record). first ++ l)
          (sym (take_next all _ x c.loop-count.count (sym next ∙ inv.left z)));
    }

pub returns-in_err-item-clause-spent : goal.returns-in_err-item-clause-spent
returns-in_err-item-clause-spent g c =
    let inv = c.loop-count.invariant in
    let m = list_most c.args.writer.now c.loop-count.count c.args.limit inv.sound inv.touches inv.writer inv.filled_is
    (omega (arith, inv.count)) in
    omega (arith, m, c.pop.ensures.serves.spent, inv.spent)

pub returns-in_default-clause-spent : goal.returns-in_default-clause-spent
returns-in_default-clause-spent g c =
    let inv = c.loop-count.invariant in
    let m = list_most c.args.writer.now c.loop-count.count c.args.limit inv.sound inv.touches inv.writer inv.filled_is
    (omega (arith, inv.count)) in
    omega (arith, m, c.pop.ensures.serves.spent, inv.spent)

pub returns-clause-spent : goal.returns-clause-spent
returns-clause-spent g c =
    let inv = c.loop-count.invariant in
    let m = list_most c.args.writer.now c.loop-count.count c.args.limit inv.sound inv.touches inv.writer inv.filled_is
    (omega (arith, inv.count)) in
    omega (arith, m, inv.spent)

pub returns-in_err-append-clause-spent : goal.returns-in_err-append-clause-spent
returns-in_err-append-clause-spent g c =
    let inv = c.loop-count.invariant in
    let e = c.in_ok-item.ensures in
    let s = seen g.D.Device.state c.loop-count.rig in
    let t = seen g.D.Device.state c.pop.new.rig in
    let w = c.loop-count.writer in
    let st : WriterStays s t w = writer_beside s t w _ _ _ inv.writer e.serves e.served.frames
    inv.apart in
    let touches = touches_within _ s t _ _ inv.touches inv.within e.serves.touches in
    let m = list_more c.args.writer.now w c.loop-count.count c.args.limit e.serves.sound touches
    (omega (arith, st.filled_is, inv.filled_is)) (omega (arith, c.loop-count-test.true)) in
    omega (arith, m, c.in_err-append.ensures.spends.moves, e.serves.spent, inv.spent)
