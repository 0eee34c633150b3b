-- Lists that are written, and readers of them, record by record.
use Rattle.std.proofs.Common.{◌≡◌, ℕ, ◌+◌, ◌<◌, ◌++◌, List, [], ◌∷◌, length, get_or, drop, sym, ◌∙◌, append_assoc, true, false, Bool, if◌then◌else◌, IsTrue}
use Rattle.std.proofs.lemmas.List.{drop_more}
use Rattle.em_record.specs.declared.record.Record.{Record}
use Rattle.em_space.specs.Held.{Within}
use Rattle.em_space.specs.Rig.{RigState}
use Rattle.em_space.proofs.Within.{within_same}
use Rattle.em_chain.specs.Chain.{chain_blocks}
use Rattle.em_chain.specs.Reader.{reader_blocks, rest_of}
use Rattle.em_chain.specs.Within.{Ends}
use Rattle.em_chain.specs.declared.reader.Reader.{Reader}
use Rattle.em_chain.proofs.Withins.{within_ends}

-- One record more of a list was written.
pub written_more : (first items after xs : List Record) (i : ℕ) (d : Record) → i < length xs
    → first ++ xs ≡ items ++ drop i xs → after ≡ items ++ get_or xs i d ∷ []
    → first ++ xs ≡ after ++ drop (i + 1) xs
written_more first items after xs i d lt e a =
    e ∙ rw (drop_more xs i d lt, a) (sym (append_assoc items (get_or xs i d ∷ []) (drop (i + 1) xs)))

-- the blocks of a reader, by whether it takes its chain
held_by : (s : RigState) (ks js : List ℕ) (taking : Bool) → Within s ks js
    → Within s (if taking then ks else []) (if taking then js else [])
held_by s ks js true w = w
held_by s ks js false w = within_same s []

-- A reader that goes on holds the last of its blocks, or none where it leaves them to a chain.
pub reader_within : (s t : RigState) (r q : Reader) → q.taking ≡ r.taking
    → (IsTrue s.device.told → Ends (chain_blocks s (rest_of r)) (chain_blocks t (rest_of q)))
    → Within s (reader_blocks s r) (reader_blocks t q)
reader_within s t r q e h =
    rw e (held_by s (chain_blocks s (rest_of r)) (chain_blocks t (rest_of q)) r.taking
    (within_ends s _ _ h))
