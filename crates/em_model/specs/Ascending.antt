-- Lists whose elements have strictly ascending numbers.
use Rattle.std.specs.Prelude.{ℕ, ◌+◌, ◌≤◌, List, [], ◌∷◌}

-- The numbers of the elements ascend strictly, from low on and below high.
abbrev pub Ascend : {A : Type 0} → (A → ℕ) → ℕ → List A → ℕ → Type 0
Ascend f low [] high = low ≤ high
Ascend f low (x ∷ xs) high = (low ≤ f x) × Ascend f (f x + 1) xs high

-- The numbers ascend strictly, from low on.
abbrev pub RisesFrom : ℕ → List ℕ → Type 0
RisesFrom low [] = Unit {0}
RisesFrom low (n ∷ ns) = (low ≤ n) × RisesFrom (n + 1) ns
