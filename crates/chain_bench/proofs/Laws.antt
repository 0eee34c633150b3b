-- Taking a chain, step by step.
use Rattle.std.proofs.Common.{◌≡◌, ℕ, List, [], ap, subst, Bool, true, if◌then◌else◌}
use Rattle.em_space.specs.Rig.{RigState, Goes}
use Rattle.em_space.specs.Held.{Within}
use Rattle.em_chain.specs.Chain.{chain_blocks}
use Rattle.em_chain.specs.Reader.{reader_blocks, rest_of}
use Rattle.em_chain.specs.declared.reader.Reader.{Reader}
use Rattle.em_space.proofs.Within.{goes_within}

-- a call of a reader that takes its blocks
pub goes_taking : (held : List ℕ) (a b c : RigState) (r : Reader) → r.taking ≡ true
    → Goes held a b → Within a held (chain_blocks b (rest_of r)) → Goes (reader_blocks b r) b c
    → Goes held a c
goes_taking held a b c r taking x w y =
    let same : reader_blocks b r ≡ chain_blocks b (rest_of r) =
    ap (λ (t : Bool). if t then chain_blocks b (rest_of r) else []) taking in
    goes_within held _ a b c x w (subst (λ (ks : List ℕ). Goes ks b c) same y)
