use Rattle.std.proofs.Common.{◌∷◌, []}
use Rattle.em_space.proofs.Apart.{goes_made}
use Rattle.em_tree_part_tests.proofs.blocks.store_frame.Goals as goal

pub returns-in_err-store-clause-goes : goal.returns-in_err-store-clause-goes
returns-in_err-store-clause-goes g c =
    goes_made (c.in_ok-block.block ∷ []) _ _ _ (λ z. (c.in_ok-block.ensures.given.fresh z, tt))
    c.in_ok-block.ensures.goes c.in_err-store.ensures.goes
