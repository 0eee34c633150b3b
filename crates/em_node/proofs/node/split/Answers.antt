use Rattle.std.proofs.Common.{◌≡◌, ◌+◌, ◌-◌, ◌/◌, length, ap, sym, ◌∙◌, arith, subst, List, ℕ, drop, take}
use Rattle.std.specs.Prelude.{insert, set}
use Rattle.em_record.specs.declared.record.Record.{Record}
use Rattle.em_node.specs.declared.entry.Entry.{Entry}
use Rattle.em_node.specs.Node.{Is, entries_of, level_of, node_header, IsLimited, LowsRise}
use Rattle.em_node.proofs.Seams.{node_is, entries_is, level_is}
use Rattle.em_node.proofs.Nodes.{room_in, take_one, length_some, limited_one, cut_is}
use Rattle.em_node.proofs.Orders.{rises_take, rises_drop}
use Rattle.em_node.proofs.node.split.Goals as goal

pub insert-requires-clause-node : goal.insert-requires-clause-node
insert-requires-clause-node c = node_is c.loop-at.upper _ _ c.loop-at.invariant.is

pub insert-requires-clause-at : goal.insert-requires-clause-at
insert-requires-clause-at c =
    let es = entries_of c.args.frame.now in
    let half = c.count-count.result / 2 in
    let at = c.loop-at.at in
    let n = c.count-count.ensures in
    let t = c.loop-at-test.true in
    let o = c.loop-at.auto.at in
    let e = ap length (entries_is c.loop-at.upper _ _ c.loop-at.invariant.is) in
    let l = length_some es half at o (omega arith) in omega arith

pub insert-requires-clause-room : goal.insert-requires-clause-room
insert-requires-clause-room c =
    let es = entries_of c.args.frame.now in
    let half = c.count-count.result / 2 in
    let at = c.loop-at.at in
    let n = c.count-count.ensures in
    let t = c.loop-at-test.true in
    let o = c.loop-at.auto.at in
    let e = ap length (entries_is c.loop-at.upper _ _ c.loop-at.invariant.is) in
    let l = length_some es half at o (omega arith) in
    let r = room_in c.args.frame.now c.requires.node in
    let same = c.requires.same in
    let len = c.loop-at.invariant.len in omega arith

pub insert-requires-clause-limited : goal.insert-requires-clause-limited
insert-requires-clause-limited c =
    let es = entries_of c.args.frame.now in
    let n = c.count-count.ensures in
    let t = c.loop-at-test.true in
    let P : Entry → Type 0 = IsLimited in
    subst P (sym c.entry_at-entry.ensures)
    (limited_one c.args.frame.now c.loop-at.at c.requires.node (omega arith))

pub insert-requires-clause-order : goal.insert-requires-clause-order
insert-requires-clause-order c =
    let es = entries_of c.args.frame.now in
    let half = c.count-count.result / 2 in
    let at = c.loop-at.at in
    let n = c.count-count.ensures in
    let t = c.loop-at-test.true in
    let o = c.loop-at.auto.at in
    let P : List Entry → Type 0 = LowsRise in
    let all : insert (entries_of c.loop-at.upper) (at - half) c.entry_at-entry.result ≡ take (at + 1 - half) (drop half es) =
    ap (λ fs. insert fs (at - half) c.entry_at-entry.result) (entries_is c.loop-at.upper _ _ c.loop-at.invariant.is)
    ∙ (ap (λ e. insert (take (at - half) (drop half es)) (at - half) e) c.entry_at-entry.ensures
    ∙ take_one es half at o (omega arith)) in
    subst P (sym all) (rises_take (at + 1 - half) (drop half es) (rises_drop half es c.requires.node.is.rises))

pub loop-at-preserved : goal.loop-at-preserved
loop-at-preserved c =
    let es = entries_of c.args.frame.now in
    let half = c.count-count.result / 2 in
    let at = c.loop-at.at in
    let n = c.count-count.ensures in
    let t = c.loop-at-test.true in
    let o = c.loop-at.auto.at in
    let all : insert (entries_of c.loop-at.upper) (at - half) c.entry_at-entry.result ≡ take (at + 1 - half) (drop half es) =
    ap (λ fs. insert fs (at - half) c.entry_at-entry.result) (entries_is c.loop-at.upper _ _ c.loop-at.invariant.is)
    ∙ (ap (λ e. insert (take (at - half) (drop half es)) (at - half) e) c.entry_at-entry.ensures
    ∙ take_one es half at o (omega arith)) in
    let P : List Entry → Type 0 = λ fs. Is c.insert.new.frame (level_of c.loop-at.upper) fs in
    let Q : ℕ → Type 0 = λ l. Is c.insert.new.frame l (take (at + 1 - half) (drop half es)) in
    record {
      len = c.insert.ensures.len ∙ c.loop-at.invariant.len;
      is = subst Q (level_is c.loop-at.upper _ _ c.loop-at.invariant.is) (subst P all c.insert.ensures.is);
    }

pub returns-clause-is : goal.returns-clause-is
returns-clause-is c =
    let b = c.args.frame.now in
    let half = c.count-count.result / 2 in
    let n = c.count-count.ensures in
    let P : List Record → Type 0 = λ rs. Is rs (level_of b) (take (length (entries_of b) / 2) (entries_of b)) in
    let Q : ℕ → Type 0 = λ l. Is (set b 0 (node_header l half)) (level_of b) (take (length (entries_of b) / 2) (entries_of b)) in
    let R : ℕ → Type 0 = λ k. Is (set b 0 (node_header (level_of b) half)) (level_of b) (take (k / 2) (entries_of b)) in
    subst P (sym c.put_header.ensures) (subst Q (sym c.level-level.ensures)
    (subst R n (cut_is b (level_of b) (entries_of b) half c.requires.node.is (omega arith))))
