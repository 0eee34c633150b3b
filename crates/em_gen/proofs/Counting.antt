-- A tally that counts byte by byte.
use Rattle.std.proofs.Common.{◌≡◌, ℕ, ◌+◌, ◌<◌, List, [], ◌∷◌, ◌++◌, length, get_or, take, sym, ap, ◌∙◌}
use Rattle.std.proofs.lemmas.List.{take_more}
use Rattle.em_gen.specs.Tally.{tallied}
use Rattle.em_gen.specs.TallyLaws.{tally_twice}

-- one byte more was counted,
pub counts_more : (s t : List ℕ) {u : List ℕ} (xs : List ℕ) (b : ℕ) → tallied t [] ≡ tallied s xs
    → u ≡ tallied t (b ∷ []) → tallied u [] ≡ tallied s (xs ++ b ∷ [])
counts_more s t {u} xs b h e =
    let one : List ℕ = b ∷ [] in
    ap (λ (v : List ℕ). tallied v []) e
    ∙ (tally_twice t one []
    ∙ (sym (tally_twice t [] one)
    ∙ (ap (λ (v : List ℕ). tallied v one) h ∙ tally_twice s xs one)))

-- that of the next place,
pub counts_next : (s t : List ℕ) {u : List ℕ} (xs : List ℕ) (place d b : ℕ) → place < length xs
    → tallied t [] ≡ tallied s (take place xs) → b ≡ get_or xs place d → u ≡ tallied t (b ∷ [])
    → tallied u [] ≡ tallied s (take (place + 1) xs)
counts_next s t {u} xs place d b lt h e f =
    counts_more s t (take place xs) b h f
    ∙ ap (λ (v : List ℕ). tallied s v)
    (ap (λ (c : ℕ). take place xs ++ c ∷ []) e ∙ sym (take_more xs place d lt))

-- and all were, after which the state is that of the bytes.
pub counts_all : (s t xs : List ℕ) → tallied t [] ≡ tallied s xs
    → tallied t [] ≡ tallied (tallied s []) xs
counts_all s t xs h = h ∙ sym (tally_twice s [] xs)
