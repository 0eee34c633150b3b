-- Worked rows: records and their bytes, which the definitions compute.
use Rattle.std.proofs.Common.{◌≡◌, [], ◌∷◌, ◌++◌, replicate, refl}
use Rattle.em_file.specs.Bytes.{record_bytes, bytes_of}

-- the least byte of a word comes first: 258 is 2 and 1
bytes_of_one :
    record_bytes (record { a = 1; b = 2; c = 3; d = 258 })
    ≡ 1 ∷ 0 ∷ 0 ∷ 0 ∷ 0 ∷ 0 ∷ 0 ∷ 0 ∷ 2 ∷ 0 ∷ 0 ∷ 0 ∷ 0 ∷ 0 ∷ 0 ∷ 0
    ∷ 3 ∷ 0 ∷ 0 ∷ 0 ∷ 0 ∷ 0 ∷ 0 ∷ 0 ∷ 2 ∷ 1 ∷ 0 ∷ 0 ∷ 0 ∷ 0 ∷ 0 ∷ 0 ∷ []
bytes_of_one = refl

-- the greatest word is eight bytes 255, and records follow each other with nothing between
bytes_of_two :
    bytes_of (record { a = 18446744073709551615; b = 0; c = 0; d = 0 }
    ∷ record { a = 0; b = 0; c = 0; d = 7 } ∷ [])
    ≡ replicate 8 255 ++ replicate 48 0 ++ 7 ∷ replicate 7 0
bytes_of_two = refl
