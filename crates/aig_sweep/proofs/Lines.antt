-- Bits of a line of the stimulus that were read after others.
use Rattle.std.proofs.Common.{◌≡◌, Bool, List, [], ◌++◌, refl, sym, ap, append_assoc}
use Rattle.aig_defs.specs.Items.{Reading, Reads, Fails, and_then}
use Rattle.aig_sweep.specs.Line.{after_bits}

-- bits after bits
pub after_after : (xs ys : List Bool) (r : Reading (List Bool))
    → and_then (and_then r (after_bits ys)) (after_bits xs) ≡ and_then r (after_bits (xs ++ ys))
after_after xs ys (Reads zs p x) = ap (λ l. Reads l p x) (sym (append_assoc xs ys zs))
after_after xs ys (Fails kind place) = refl

pub after_none : (r : Reading (List Bool)) → r ≡ and_then r (after_bits [])
after_none (Reads bits p x) = refl
after_none (Fails kind place) = refl
