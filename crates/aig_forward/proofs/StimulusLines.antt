-- A line of the stimulus is a bit, and then the rest of the line.
use Rattle.std.proofs.Common.{◌≡◌, ℕ, zero, suc, ◌+◌, Bool, true, false, List, [], ◌∷◌, map, refl, ap, ◌∙◌}
use Rattle.aig_defs.specs.Items.{Reading, Reads, Fails, Item, and_then, times, ◌>>=◌, ◌>>◌}
use Rattle.aig_defs.specs.Stimulus.{stimulus_bit, stimulus_end, stimulus_line}
use Rattle.aig_sweep.specs.Bits.{bits_of}
use Rattle.aig_words.specs.Words.{lane}
use Rattle.aig_sweep.specs.Line.{after_bits}
use Rattle.aig_forward.specs.BitList.{one_bit}
use Rattle.aig_forward.specs.Line.{bit_record}

-- the bits that n inputs have, one after another
abbrev bits_from : ℕ → ℕ → Item (List Bool)
bits_from n i = times n i (λ j. stimulus_bit)

-- what a line ends with
abbrev ended : List Bool → Item (List Bool)
ended bits = stimulus_end >> Reads bits

-- It doesn't matter from which number on they are counted.
counted_next : (n i j : ℕ) → ((p : ℕ) (x : List ℕ) → bits_from n i p x ≡ bits_from n j p x)
    → (r : Reading Bool) → and_then r (λ first. bits_from n i >>= λ rest. Reads (first ∷ rest))
    ≡ and_then r (λ first. bits_from n j >>= λ rest. Reads (first ∷ rest))
counted_next n i j same (Reads bit p x) =
    ap (λ r. and_then r (λ rest. Reads (bit ∷ rest))) (same p x)
counted_next n i j same (Fails kind place) = refl

counted : (n i j p : ℕ) (x : List ℕ) → bits_from n i p x ≡ bits_from n j p x
counted zero i j p x = refl
counted (suc n) i j p x =
    counted_next n (i + 1) (j + 1) (counted n (i + 1) (j + 1)) (stimulus_bit p x)

end_splits : (bit : Bool) (bits : List Bool) (r : Reading (Unit {0}))
    → and_then r (λ _. Reads (bit ∷ bits))
    ≡ and_then (and_then r (λ _. Reads bits)) (after_bits (bit ∷ []))
end_splits bit bits (Reads u p x) = refl
end_splits bit bits (Fails kind place) = refl

rest_splits : (bit : Bool) (r : Reading (List Bool))
    → and_then (and_then r (λ rest. Reads (bit ∷ rest))) ended
    ≡ and_then (and_then r ended) (after_bits (bit ∷ []))
rest_splits bit (Reads bits p x) = end_splits bit bits (stimulus_end p x)
rest_splits bit (Fails kind place) = refl

first_splits : (n : ℕ) (r : Reading Bool)
    → and_then (and_then r (λ first. bits_from n 1 >>= λ rest. Reads (first ∷ rest))) ended
    ≡ and_then (and_then r (λ bit. Reads (bit ∷ [])))
    (λ bits q y. and_then (stimulus_line n q y) (after_bits bits))
first_splits n (Reads bit p x) =
    ap (λ r. and_then (and_then r (λ rest. Reads (bit ∷ rest))) ended) (counted n 1 0 p x)
    ∙ rest_splits bit (bits_from n 0 p x)
first_splits n (Fails kind place) = refl

-- A line of n + 1 bits is a bit, and then a line of n.
pub line_splits : (n p : ℕ) (x : List ℕ) → stimulus_line (suc n) p x
    ≡ and_then (one_bit p x) (λ bits q y. and_then (stimulus_line n q y) (after_bits bits))
line_splits n p x = first_splits n (stimulus_bit p x)

-- the bits of the records of some bits
pub bits_of_records : (bits : List Bool) → bits_of (lane 0 (map bit_record bits)) ≡ bits
bits_of_records [] = refl
bits_of_records (true ∷ bits) = ap (λ rest. true ∷ rest) (bits_of_records bits)
bits_of_records (false ∷ bits) = ap (λ rest. false ∷ rest) (bits_of_records bits)
