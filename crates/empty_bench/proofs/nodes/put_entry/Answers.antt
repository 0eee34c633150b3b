use Rattle.std.proofs.Common.{ℕ, ◌+◌, ◌-◌, List, length, ap, sym, subst, arith}
use Rattle.std.specs.Prelude.{insert}
use Rattle.em_node.specs.declared.entry.Entry.{Entry}
use Rattle.em_node.specs.Node.{Is, IsLimited, LowsRise, entries_of}
use Rattle.em_node.proofs.Seams.{entries_is, level_is, node_is}
use Rattle.empty_bench.proofs.Entries.{bare_length, bare_limited, bare_put}
use Rattle.empty_bench.proofs.Ranges.{lows_rise}
use Rattle.empty_bench.proofs.nodes.put_entry.Goals as goal

pub insert-requires-clause-node : goal.insert-requires-clause-node
insert-requires-clause-node c = node_is c.args.frame.now _ _ c.requires.is

pub insert-requires-clause-room : goal.insert-requires-clause-room
insert-requires-clause-room c =
    let e = ap length (entries_is c.args.frame.now _ _ c.requires.is) in
    let n = bare_length c.args.child (64 - c.args.done) c.args.done in
    let less = c.requires.done in
    let room = c.requires.room in omega arith

pub insert-requires-clause-limited : goal.insert-requires-clause-limited
insert-requires-clause-limited c =
    subst (λ (e : Entry). IsLimited e) (sym c.bare_entry.ensures)
    (bare_limited c.args.child (63 - c.args.done))

pub insert-requires-clause-order : goal.insert-requires-clause-order
insert-requires-clause-order c =
    subst (λ (es : List Entry). LowsRise es)
    (sym (bare_put c.args.frame.now c.args.child c.args.done _ c.requires.done c.requires.is
    c.bare_entry.ensures))
    (lows_rise c.args.child (64 - (c.args.done + 1)) (c.args.done + 1))

pub returns-clause-is : goal.returns-clause-is
returns-clause-is c =
    let P : List Entry → Type 0 = λ es. Is c.insert.new.frame 1 es in
    let more = insert (entries_of c.args.frame.now) 0 c.bare_entry.result in
    let Q : ℕ → Type 0 = λ l. Is c.insert.new.frame l more in
    subst P
    (bare_put c.args.frame.now c.args.child c.args.done _ c.requires.done c.requires.is
    c.bare_entry.ensures)
    (subst Q (level_is c.args.frame.now _ _ c.requires.is) c.insert.ensures.is)
