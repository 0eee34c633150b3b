use Rattle.std.proofs.Common.{◌+◌, length, ap, sym, ◌∙◌, subst, List, ◌++◌}
use Rattle.std.specs.Prelude.{insert}
use Rattle.em_node.specs.declared.entry.Entry.{Entry}
use Rattle.em_node.specs.Node.{Is, IsLimited, LowsRise, entries_of, level_of}
use Rattle.em_node.proofs.Nodes.{limited_one}
use Rattle.em_node.proofs.Orders.{rises_take}
use Rattle.em_balance.proofs.Dealt.{down_high, down_low}
use Rattle.em_balance.proofs.dealing.move_down.Goals as goal

pub insert-requires-clause-limited : goal.insert-requires-clause-limited
insert-requires-clause-limited c =
    let P : Entry → Type 0 = IsLimited in
    subst P (sym c.remove-entry.ensures.entry) (limited_one c.args.high.now 0 c.requires.high_node c.requires.some)

pub insert-requires-clause-order : goal.insert-requires-clause-order
insert-requires-clause-order c =
    let xs = entries_of c.args.low.now in
    let ys = entries_of c.args.high.now in
    let P : List Entry → Type 0 = LowsRise in
    subst P (sym (ap (λ n. insert xs n c.remove-entry.result) c.count-end.ensures
    ∙ down_low xs ys c.remove-entry.result c.requires.some c.remove-entry.ensures.entry))
    (rises_take (length xs + 1) (xs ++ ys) c.requires.order)

pub returns-clause-deals : goal.returns-clause-deals
returns-clause-deals c =
    let xs = entries_of c.args.low.now in
    let ys = entries_of c.args.high.now in
    let P : List Entry → Type 0 = λ zs. Is c.insert.new.frame (level_of c.args.low.now) zs in
    let Q : List Entry → Type 0 = λ zs. Is c.remove-entry.new.frame (level_of c.args.high.now) zs in
    record {
      low_is = subst P (ap (λ n. insert xs n c.remove-entry.result) c.count-end.ensures
          ∙ down_low xs ys c.remove-entry.result c.requires.some c.remove-entry.ensures.entry) c.insert.ensures.is;
      high_is = subst Q (down_high xs ys) c.remove-entry.ensures.is;
    }
