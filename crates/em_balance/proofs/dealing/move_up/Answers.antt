use Rattle.std.proofs.Common.{◌≡◌, ◌-◌, length, sym, arith, subst, List, take, drop, ◌++◌}
use Rattle.em_node.specs.declared.entry.Entry.{Entry}
use Rattle.em_node.specs.Node.{Is, IsLimited, LowsRise, entries_of, level_of}
use Rattle.em_node.proofs.Nodes.{limited_one}
use Rattle.em_node.proofs.Orders.{rises_drop}
use Rattle.em_balance.proofs.Dealt.{up_high, up_low}
use Rattle.em_balance.proofs.dealing.move_up.Goals as goal

pub insert-requires-clause-limited : goal.insert-requires-clause-limited
insert-requires-clause-limited c =
    let n = c.count-last.ensures in
    let s = c.requires.some in
    let P : Entry → Type 0 = IsLimited in
    subst P (sym c.remove-entry.ensures.entry)
    (limited_one c.args.low.now (c.count-last.result - 1) c.requires.low_node (omega arith))

pub insert-requires-clause-order : goal.insert-requires-clause-order
insert-requires-clause-order c =
    let xs = entries_of c.args.low.now in
    let ys = entries_of c.args.high.now in
    let n = c.count-last.ensures in
    let P : List Entry → Type 0 = LowsRise in
    subst P (sym (up_high xs ys c.remove-entry.result (c.count-last.result - 1) c.requires.some (omega arith)
    c.remove-entry.ensures.entry)) (rises_drop (c.count-last.result - 1) (xs ++ ys) c.requires.order)

pub returns-clause-deals : goal.returns-clause-deals
returns-clause-deals c =
    let xs = entries_of c.args.low.now in
    let ys = entries_of c.args.high.now in
    let n = c.count-last.ensures in
    let P : List Entry → Type 0 = λ zs. Is c.remove-entry.new.frame (level_of c.args.low.now) zs in
    let Q : List Entry → Type 0 = λ zs. Is c.insert.new.frame (level_of c.args.high.now) zs in
    let k : c.count-last.result - 1 ≡ length xs - 1 = omega arith in
    let low : Is c.remove-entry.new.frame (level_of c.args.low.now) (take (c.count-last.result - 1) (xs ++ ys)) =
    subst P (up_low xs ys (c.count-last.result - 1) c.requires.some k) c.remove-entry.ensures.is in
    let high : Is c.insert.new.frame (level_of c.args.high.now) (drop (c.count-last.result - 1) (xs ++ ys)) =
    subst Q (up_high xs ys c.remove-entry.result (c.count-last.result - 1) c.requires.some k
    c.remove-entry.ensures.entry) c.insert.ensures.is in
    record { low_is = rw k at low; high_is = rw k at high }
