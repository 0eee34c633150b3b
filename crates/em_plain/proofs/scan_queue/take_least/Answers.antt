use Rattle.std.proofs.lemmas.Result.{IfOk-weaker}
use Rattle.em_space.specs.Seen.{seen}
use Rattle.em_plain.specs.Least.{Passed, TakesLeast}
use Rattle.em_chain.proofs.Writings.{writer_lent}
use Rattle.em_plain.proofs.Restarts.{Restarts, begins_anew, finish_goes, take_goes, takes_least}
use Rattle.em_plain.proofs.scan_queue.take_least.Goals as goal

pub finish-requires-clause-is : goal.finish-requires-clause-is
finish-requires-clause-is g c =
    rw c.replace-whole.ensures.value
    (writer_lent c.requires.is.is c.new-fresh.ensures.lends).is

pub returns-in_err-chain-clause-goes : goal.returns-in_err-chain-clause-goes
returns-in_err-chain-clause-goes g c =
    let s = seen g.D.Device.state c.args.rig.now in
    let a = seen g.D.Device.state c.new-fresh.new.rig in
    let b = seen g.D.Device.state c.finish.new.rig in
    let gives = rw c.replace-whole.ensures.value at c.finish.ensures.gives in
    finish_goes s a b c.args.list.now c.requires.is.is c.new-fresh.ensures.lends gives

pub pass_all_but_least-taken-requires-clause-begins
    : goal.pass_all_but_least-taken-requires-clause-begins
pass_all_but_least-taken-requires-clause-begins g c =
    let s = seen g.D.Device.state c.args.rig.now in
    let a = seen g.D.Device.state c.new-fresh.new.rig in
    let b = seen g.D.Device.state c.finish.new.rig in
    let d = seen g.D.Device.state c.taking-reader.new.rig in
    let w = c.args.list.now in
    let f = c.new-fresh.result in
    let r = c.taking-reader.result in
    let k = c.in_ok-chain.chain in
    let was = c.replace-whole.ensures.value in
    let e = c.in_ok-chain.ensures in
    let h : Restarts s a b d w f k r = record {
      full = c.requires.is;
      lends = c.new-fresh.ensures.lends;
      unmoved = c.new-fresh.ensures.unmoved;
      begins = c.new-fresh.ensures.begins;
      gives = rw was at c.finish.ensures.gives;
      finishes = rw was at e.finishes;
      costs = rw was at e.costs;
      lends_again = c.taking-reader.ensures.lends;
      unmoved_again = c.taking-reader.ensures.unmoved;
      opens = c.taking-reader.ensures.opens;
    } in
    rw (c.replace-whole.ensures.after, c.len-count.ensures) (begins_anew s a b d w f k r h)

pub returns-clause-goes : goal.returns-clause-goes
returns-clause-goes g c =
    let s = seen g.D.Device.state c.args.rig.now in
    let a = seen g.D.Device.state c.new-fresh.new.rig in
    let b = seen g.D.Device.state c.finish.new.rig in
    let d = seen g.D.Device.state c.taking-reader.new.rig in
    let m = seen g.D.Device.state c.pass_all_but_least-taken.new.rig in
    let n = seen g.D.Device.state c.abandon.new.rig in
    let w = c.args.list.now in
    let f = c.new-fresh.result in
    let r = c.taking-reader.result in
    let k = c.in_ok-chain.chain in
    let was = c.replace-whole.ensures.value in
    let e = c.in_ok-chain.ensures in
    let h : Restarts s a b d w f k r = record {
      full = c.requires.is;
      lends = c.new-fresh.ensures.lends;
      unmoved = c.new-fresh.ensures.unmoved;
      begins = c.new-fresh.ensures.begins;
      gives = rw was at c.finish.ensures.gives;
      finishes = rw was at e.finishes;
      costs = rw was at e.costs;
      lends_again = c.taking-reader.ensures.lends;
      unmoved_again = c.taking-reader.ensures.unmoved;
      opens = c.taking-reader.ensures.opens;
    } in
    take_goes s a b d m n w f k r h c.pass_all_but_least-taken.ensures.goes c.abandon.ensures.gives

pub returns-clause-takes : goal.returns-clause-takes
returns-clause-takes g c =
    let s = seen g.D.Device.state c.args.rig.now in
    let a = seen g.D.Device.state c.new-fresh.new.rig in
    let b = seen g.D.Device.state c.finish.new.rig in
    let d = seen g.D.Device.state c.taking-reader.new.rig in
    let m = seen g.D.Device.state c.pass_all_but_least-taken.new.rig in
    let n = seen g.D.Device.state c.abandon.new.rig in
    let w = c.args.list.now in
    let f = c.new-fresh.result in
    let r = c.taking-reader.result in
    let k = c.in_ok-chain.chain in
    let was = c.replace-whole.ensures.value in
    let e = c.in_ok-chain.ensures in
    let h : Restarts s a b d w f k r = record {
      full = c.requires.is;
      lends = c.new-fresh.ensures.lends;
      unmoved = c.new-fresh.ensures.unmoved;
      begins = c.new-fresh.ensures.begins;
      gives = rw was at c.finish.ensures.gives;
      finishes = rw was at e.finishes;
      costs = rw was at e.costs;
      lends_again = c.taking-reader.ensures.lends;
      unmoved_again = c.taking-reader.ensures.unmoved;
      opens = c.taking-reader.ensures.opens;
    } in
    let p = c.pass_all_but_least-taken in
    IfOk-weaker p.result (Passed d m r p.new.reader f p.new.writer) (TakesLeast s n w p.new.writer)
    (λ item t. takes_least s a b d m n w f p.new.writer k r p.new.reader item h p.ensures.goes
    c.abandon.ensures.gives c.abandon.ensures.unmoved t)
    (simp c.replace-whole.ensures.after at p.ensures.passed)
