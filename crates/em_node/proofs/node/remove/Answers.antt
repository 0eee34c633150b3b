use Rattle.std.proofs.Common.{◌+◌, ◌-◌, ◌*◌, ◌<◌, ap, sym, ◌∙◌, arith, subst, List, ℕ}
use Rattle.std.specs.Prelude.{set, remove}
use Rattle.std.specs.List.{copy_within}
use Rattle.em_record.specs.declared.record.Record.{Record}
use Rattle.em_node.specs.Node.{Is, entries_of, level_of, node_header}
use Rattle.em_node.proofs.Nodes.{room_in, remove_is}
use Rattle.em_node.proofs.node.remove.Goals as goal

pub shift_down-requires-clause-room : goal.shift_down-requires-clause-room
shift_down-requires-clause-room c =
    let r = room_in c.args.frame.now c.requires.node in let h = c.count-count.ensures in omega arith

pub returns-clause-is : goal.returns-clause-is
returns-clause-is c =
    let b = c.args.frame.now in
    let at = c.args.at in
    let n = c.count-count.result in
    let P : List Record → Type 0 = λ rs. Is rs (level_of b) (remove (entries_of b) at) in
    let Q : ℕ → Type 0 = λ l. Is (set (copy_within b (5 + 3 * at) (2 + 3 * n) (2 + 3 * at)) 0
    (node_header l (n - 1))) (level_of b) (remove (entries_of b) at) in
    let e = c.count-count.ensures in
    let h = c.requires.at in
    let below : at < n = omega arith in
    subst P (sym (c.put_header.ensures ∙ ap (λ rs. set rs 0 (node_header c.level-level.result (n - 1))) c.shift_down.ensures.is))
    (subst Q (sym c.level-level.ensures) (remove_is b (level_of b) (entries_of b) at n c.requires.node.is e below))
