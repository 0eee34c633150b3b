use Rattle.em_balance.proofs.Halves.{some_upper, split_at, split_refused, split_unstored, split_unwritten, upper_runs}
use Rattle.em_node.proofs.Seams.{node_is}
use Rattle.em_balance.proofs.splitting.split_into.Goals as goal

pub returns-in_err-block-clause-splits : goal.returns-in_err-block-clause-splits
returns-in_err-block-clause-splits g c =
    split_refused c.from_residual-in_err-block.result c.in_err-block.field-0.0
    c.from_residual-in_err-block.ensures.1
    (split_unstored c.requires.can c.in_ok-load_full.ensures.loads c.in_err-block.ensures)

pub returns-in_err-store-clause-splits : goal.returns-in_err-store-clause-splits
returns-in_err-store-clause-splits g c =
    let e = c.in_err-store.ensures in
    split_refused c.from_residual-in_err-store.result c.in_err-store.field-0.0
    c.from_residual-in_err-store.ensures.1
    (split_unwritten
    (upper_runs c.requires.can c.in_ok-load_full.ensures.loads c.in_ok-block.ensures)
    e.goes e.moved e.cause)

pub entry_for-requires-clause-node : goal.entry_for-requires-clause-node
entry_for-requires-clause-node g c = node_is _ _ _ c.split.ensures.upper_is

pub entry_for-requires-clause-some : goal.entry_for-requires-clause-some
entry_for-requires-clause-some g c =
    some_upper c.requires.sound c.in_ok-load_full.ensures.loads c.split.ensures.upper_is

pub returns-clause-splits : goal.returns-clause-splits
returns-clause-splits g c =
    let d = c.split.ensures in
    let e = c.in_ok-store.ensures in
    split_at c.entry_for.result c.requires.sound c.requires.can c.in_ok-load_full.ensures.loads
    d.is d.upper_is c.in_ok-block.ensures e.goes e.moved e.in_use e.stored c.entry_for.ensures
