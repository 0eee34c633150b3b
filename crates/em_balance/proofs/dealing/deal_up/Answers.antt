use Rattle.std.proofs.Common.{◌≡◌, ◌+◌, ◌-◌, length, length-append, refl, sym, ◌∙◌, arith, subst, List, ℕ, ◌++◌}
use Rattle.em_node.specs.declared.entry.Entry.{Entry}
use Rattle.em_node.specs.Node.{LowsRise, entries_of, level_of}
use Rattle.em_balance.specs.Fusing.{DealsEntries}
use Rattle.em_balance.proofs.Dealt.{dealt_all, dealt_count, dealt_high, dealt_low, dealt_more, dealt_none, dealt_step}
use Rattle.em_balance.proofs.dealing.deal_up.Goals as goal

pub loop-init : goal.loop-init
loop-init c = record {
  low_len = refl;
  high_len = refl;
  deals = (let xs = entries_of c.args.low.now in
      let e : length xs - 0 ≡ length xs = omega arith in
      rw e (dealt_none c.args.low.now c.args.high.now c.requires.low_node c.requires.high_node));
}

pub move_up-requires-clause-low_node : goal.move_up-requires-clause-low_node
move_up-requires-clause-low_node c = dealt_low c.loop.invariant.deals

pub move_up-requires-clause-high_node : goal.move_up-requires-clause-high_node
move_up-requires-clause-high_node c = dealt_high c.loop.invariant.deals

pub move_up-requires-clause-order : goal.move_up-requires-clause-order
move_up-requires-clause-order c =
    let P : List Entry → Type 0 = LowsRise in subst P (sym (dealt_all c.loop.invariant.deals)) c.requires.order

pub move_up-requires-clause-some : goal.move_up-requires-clause-some
move_up-requires-clause-some c =
    let xs = entries_of c.args.low.now in
    let ys = entries_of c.args.high.now in
    let la = length-append xs ys in
    let h = c.count-have.ensures in
    let t = c.loop-test.true in
    let e = c.loop.auto.counter-end in
    let r = c.requires.room in
    let q = c.requires.fewer in
    let i = c.loop.invariant in
    let n = dealt_count i.deals (omega arith) in omega arith

pub move_up-requires-clause-room : goal.move_up-requires-clause-room
move_up-requires-clause-room c =
    let xs = entries_of c.args.low.now in
    let ys = entries_of c.args.high.now in
    let la = length-append xs ys in
    let h = c.count-have.ensures in
    let t = c.loop-test.true in
    let e = c.loop.auto.counter-end in
    let r = c.requires.room in
    let q = c.requires.fewer in
    let i = c.loop.invariant in
    let n = dealt_more i.deals in
    let l = i.high_len in omega arith

pub loop-preserved : goal.loop-preserved
loop-preserved c =
    let xs = entries_of c.args.low.now in
    let ys = entries_of c.args.high.now in
    let la = length-append xs ys in
    let h = c.count-have.ensures in
    let t = c.loop-test.true in
    let e = c.loop.auto.counter-end in
    let r = c.requires.room in
    let q = c.requires.fewer in
    let i = c.loop.invariant in
    let n = dealt_count i.deals (omega arith) in
    let x = c.move_up.ensures in
    let k : length (entries_of c.loop.low) - 1 ≡ length xs - (c.loop.counter + 1) = omega arith in
    let P : ℕ → Type 0 = λ z. DealsEntries (level_of c.loop.low) (level_of c.loop.high)
    (entries_of c.loop.low ++ entries_of c.loop.high) z c.move_up.new.low c.move_up.new.high in
    record {
      low_len = x.low_len ∙ i.low_len;
      high_len = x.high_len ∙ i.high_len;
      deals = dealt_step (length xs - (c.loop.counter + 1)) i.deals (subst P k x.deals);
    }

pub returns-clause-deals : goal.returns-clause-deals
returns-clause-deals c =
    let h = c.count-have.ensures in
    let t = c.loop-test.false in
    let e = c.loop.auto.counter-end in
    let m = c.requires.fewer in
    let k : length (entries_of c.args.low.now) - c.loop.counter ≡ c.args.keep = omega arith in
    rw (sym k) c.loop.invariant.deals
