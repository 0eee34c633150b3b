use Rattle.std.proofs.Common.{◌+◌, ◌*◌, ◌≤◌, length, ap, sym, ◌∙◌, arith, subst, List, ℕ, rules}
use Rattle.std.specs.Prelude.{set, insert}
use Rattle.std.specs.List.{copy_within}
use Rattle.em_record.specs.declared.record.Record.{Record}
use Rattle.em_node.specs.Node.{Is, entries_of, level_of, node_header}
use Rattle.em_node.specs.Records.{with_entry}
use Rattle.em_node.proofs.Nodes.{insert_is}
use Rattle.em_node.proofs.node.insert.Goals as goal

pub overflow_add-count : goal.overflow_add-count
overflow_add-count c = search (rules, c.shift_up.ensures.few)

pub returns-clause-is : goal.returns-clause-is
returns-clause-is c =
    let b = c.args.frame.now in
    let at = c.args.at in
    let n = c.count-count.result in
    let e = c.args.entry in
    let P : List Record → Type 0 = λ rs. Is rs (level_of b) (insert (entries_of b) at e) in
    let Q : ℕ → Type 0 = λ l. Is (set (with_entry (copy_within b (2 + 3 * at) (2 + 3 * n) (5 + 3 * at)) at e) 0
    (node_header l (n + 1))) (level_of b) (insert (entries_of b) at e) in
    let few = c.count-count.ensures in
    let le = c.requires.at in
    let room = c.requires.room in
    let at_most : at ≤ n = omega arith in
    let fits : 2 + 3 * (n + 1) ≤ length b = omega arith in
    subst P (sym (c.put_header.ensures ∙ ap (λ rs. set rs 0 (node_header c.level-level.result (n + 1)))
    (c.put_entry.ensures ∙ ap (λ rs. with_entry rs at e) c.shift_up.ensures.is)))
    (subst Q (sym c.level-level.ensures) (insert_is b (level_of b) (entries_of b) at e n c.requires.node.is
    c.count-count.ensures at_most fits c.requires.limited c.requires.order))
