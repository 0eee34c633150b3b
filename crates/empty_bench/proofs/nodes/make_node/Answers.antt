use Rattle.std.proofs.Common.{[], ◌∷◌}
use Rattle.em_space.proofs.Apart.{goes_made}
use Rattle.empty_bench.proofs.nodes.make_node.Goals as goal

pub returns-in_err-store_node-clause-goes : goal.returns-in_err-store_node-clause-goes
returns-in_err-store_node-clause-goes g c =
    goes_made (c.in_ok-node.node ∷ []) _ _ _ (λ z. (c.in_ok-node.ensures.given.fresh z, tt))
    c.alloc.ensures.goes c.store_node.ensures.goes

pub returns-clause-goes : goal.returns-clause-goes
returns-clause-goes g c =
    goes_made (c.in_ok-node.node ∷ []) _ _ _ (λ z. (c.in_ok-node.ensures.given.fresh z, tt))
    c.alloc.ensures.goes c.store_node.ensures.goes
