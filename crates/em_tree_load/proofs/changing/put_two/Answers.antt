use Rattle.std.proofs.Common.{arith, sym, subst, ◌≤◌, ◌^◌}
use Rattle.em_chain.specs.declared.chain.Chain.{Chain}
use Rattle.em_node.proofs.Seams.{node_is}
use Rattle.em_tree_load.proofs.Alterations.{count_block, divided_is, follow_block, limited_by}
use Rattle.em_tree_load.proofs.changing.put_two.Goals as goal

pub put_buffer-requires-clause-count : goal.put_buffer-requires-clause-count
put_buffer-requires-clause-count c =
    let P : Chain → Type 0 = λ d. d.count ≤ 2 ^ 56 in subst P (sym c.empty-none.ensures) (omega arith)

pub put_buffer-requires-clause-blocks : goal.put_buffer-requires-clause-blocks
put_buffer-requires-clause-blocks c =
    let P : Chain → Type 0 = λ d. d.blocks ≤ 2 ^ 56 in subst P (sym c.empty-none.ensures) (omega arith)

pub insert_after-requires-clause-node : goal.insert_after-requires-clause-node
insert_after-requires-clause-node c = node_is _ _ _ c.put_buffer.ensures.is

pub insert_after-requires-clause-at : goal.insert_after-requires-clause-at
insert_after-requires-clause-at c =
    let e = count_block c.args.frame.now c.args.at c.empty-none.result c.put_buffer.ensures.is in
    omega (arith, e, c.requires.at)

pub insert_after-requires-clause-room : goal.insert_after-requires-clause-room
insert_after-requires-clause-room c =
    let e = count_block c.args.frame.now c.args.at c.empty-none.result c.put_buffer.ensures.is in
    omega (arith, e, c.requires.room, c.put_buffer.ensures.len)

pub insert_after-requires-clause-limited : goal.insert_after-requires-clause-limited
insert_after-requires-clause-limited c =
    limited_by c.args.low _ c.empty-none.result c.words-words.result c.empty-none.ensures
    c.words-words.ensures

pub insert_after-requires-clause-follow : goal.insert_after-requires-clause-follow
insert_after-requires-clause-follow c =
    follow_block c.args.frame.now c.args.at c.args.low c.empty-none.result c.put_buffer.ensures.is
    c.requires.follow

pub returns-clause-is : goal.returns-clause-is
returns-clause-is c =
    divided_is c.args.frame.now c.args.at c.args.low c.args.block c.empty-none.result
    c.words-words.result c.empty-none.ensures c.words-words.ensures c.put_buffer.ensures.is
    c.insert_after.ensures.is
