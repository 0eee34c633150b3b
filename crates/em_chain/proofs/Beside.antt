-- Chains beside calls that change no block that was in use.
use Rattle.std.proofs.Common.{◌≡◌, ℕ, List, [], ap, subst, Bool, false, if◌then◌else◌}
use Rattle.em_space.specs.Rig.{RigState, Goes}
use Rattle.em_space.proofs.Held.{apart_none}
use Rattle.em_space.proofs.Steps.{goes_then}
use Rattle.em_chain.specs.Chain.{IsChain, ChainStays, chain_blocks}
use Rattle.em_chain.specs.Reader.{reader_blocks, rest_of}
use Rattle.em_chain.specs.declared.chain.Chain.{Chain}
use Rattle.em_chain.specs.declared.reader.Reader.{Reader}
use Rattle.em_chain.proofs.Laws.{chain_stays}

-- a reader that leaves its blocks to a chain changes none
pub goes_over : (a b c : RigState) (r : Reader) → r.taking ≡ false → Goes [] a b
    → Goes (reader_blocks b r) b c → Goes [] a c
goes_over a b c r over x y =
    let none : reader_blocks b r ≡ [] =
    ap (λ (taking : Bool). if taking then chain_blocks b (rest_of r) else []) over in
    goes_then [] a b c x (subst (λ (ks : List ℕ). Goes ks b c) none y)

pub chain_kept : (s t : RigState) (c : Chain) → Goes [] s t → IsChain s c → ChainStays s t c
chain_kept s t c g is = chain_stays [] s t c g.touches (λ y. apart_none (chain_blocks s c)) is
