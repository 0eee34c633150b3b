use Rattle.std.proofs.Common.{rules, arith, sym, ◌∙◌}
use Rattle.em_space.specs.Seen.{seen}
use Rattle.em_chain.specs.Chain.{chain_blocks}
use Rattle.em_chain.proofs.Laws.{chain_stays}
use Rattle.em_chain.proofs.Joins.{joins_touch, touches_right, joins_ok}
use Rattle.em_chain.proofs.Appending.{pos_of}
use Rattle.em_chain.proofs.joining.join.Goals as goal

pub returns-in_err-second-clause-goes : goal.returns-in_err-second-clause-goes
returns-in_err-second-clause-goes g c =
    let s = seen g.D.Device.state c.args.rig.now in
    let t = seen g.D.Device.state c.unskip.new.rig in
    let k = c.unskip.ensures.goes in
    record {
      sound = k.sound;
      touches = touches_right s t (chain_blocks s c.args.first) (chain_blocks s c.args.second)
          k.touches;
      frames = k.frames;
    }

pub join_plain-requires-clause-linkable : goal.join_plain-requires-clause-linkable
join_plain-requires-clause-linkable g c =
    let s = seen g.D.Device.state c.args.rig.now in
    let t = seen g.D.Device.state c.unskip.new.rig in
    let k = c.unskip.ensures.goes.touches in
    let u = c.in_ok-second.ensures.unskips in
    let st = chain_stays (chain_blocks s c.args.second) s t c.args.first k c.requires.apart
    c.requires.first in
    let cn = u.count_is in
    let bn = u.blocks_is in
    let rc = c.requires.room.count in
    let rb = c.requires.room.blocks in
    let sp = pos_of c.args.second.blocks c.if-second-eq0.false in
    record {
      first = st.is;
      second = u.is;
      apart = λ z. let y = sym k.told ∙ z in rw (st.blocks y, u.blocks y) (c.requires.apart y);
      room = record { count = omega arith; blocks = omega arith };
      first_some = pos_of c.args.first.blocks c.if-first-eq0.false;
      second_some = omega arith;
      skip = u.skip_is;
    }

pub returns-clause-goes : goal.returns-clause-goes
returns-clause-goes g c =
    let s = seen g.D.Device.state c.args.rig.now in
    let t = seen g.D.Device.state c.unskip.new.rig in
    let u = seen g.D.Device.state c.join_plain.new.rig in
    record {
      sound = c.join_plain.ensures.goes.sound;
      touches = joins_touch s t u c.args.first c.args.second c.requires.first c.requires.apart
          c.unskip.ensures.goes.touches c.join_plain.ensures.goes.touches;
      frames = search rules;
    }

pub returns-clause-joins : goal.returns-clause-joins
returns-clause-joins g c =
    let s = seen g.D.Device.state c.args.rig.now in
    let t = seen g.D.Device.state c.unskip.new.rig in
    let u = seen g.D.Device.state c.join_plain.new.rig in
    joins_ok s t u c.args.first c.args.second c.in_ok-second.second c.join_plain.result
    c.requires.first c.requires.apart c.unskip.ensures.goes.touches
    c.in_ok-second.ensures.unskips c.join_plain.ensures.joins
