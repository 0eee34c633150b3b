use Rattle.std.proofs.Common.{◌≡◌, ◌+◌, ◌-◌, ◌<◌, length, ap, sym, ◌∙◌, arith, get_or, drop, true, false}
use Rattle.em_record.specs.Order.{is_below}
use Rattle.em_node.specs.Node.{entries_of, place_of, no_entry}
use Rattle.em_node.proofs.Nodes.{place_stops, place_goes, place_last}
use Rattle.em_node.proofs.node.find.Goals as goal

pub returns-then-comes_before : goal.returns-then-comes_before
returns-then-comes_before c =
    let es = entries_of c.args.frame.now in
    let key = c.args.key in
    let at = c.loop-at.at in
    let n = c.count-count.ensures in
    let t = c.loop-at-test.true in
    let o = c.loop-at.auto.at in
    let less : at < length es = omega arith in
    let below : is_below key (get_or es at no_entry).low ≡ true =
    sym (sym c.if-comes_before.true ∙ (c.comes_before.ensures ∙ ap (λ e. is_below key e.low) c.entry_at-entry.ensures)) in
    let z = place_stops key es at o less below in
    let i = c.loop-at.invariant in omega arith

pub loop-at-preserved : goal.loop-at-preserved
loop-at-preserved c =
    let es = entries_of c.args.frame.now in
    let key = c.args.key in
    let at = c.loop-at.at in
    let n = c.count-count.ensures in
    let t = c.loop-at-test.true in
    let o = c.loop-at.auto.at in
    let less : at < length es = omega arith in
    let below : is_below key (get_or es at no_entry).low ≡ false =
    sym (sym c.if-comes_before.false ∙ (c.comes_before.ensures ∙ ap (λ e. is_below key e.low) c.entry_at-entry.ensures)) in
    let z = place_goes key es at o less below in
    let i = c.loop-at.invariant in
    let e : at + 1 - 1 ≡ at = omega arith in
    let f : place_of key (drop (at + 1 - 1) es) ≡ place_of key (drop at es) = ap (λ k. place_of key (drop k es)) e in
    omega arith

pub returns : goal.returns
returns c =
    let es = entries_of c.args.frame.now in
    let key = c.args.key in
    let at = c.loop-at.at in
    let n = c.count-count.ensures in
    let t = c.loop-at-test.false in
    let s = c.requires.some in
    let o = c.loop-at.auto.at-end (omega arith) in
    let i = c.loop-at.invariant in
    let e : at - 1 ≡ length es - 1 = omega arith in
    let z : place_of key (drop (at - 1) es) ≡ 0 = ap (λ k. place_of key (drop k es)) e ∙ place_last key es s in
    omega arith
