-- Lane t of a wide value is the value on input t.
use Rattle.std.proofs.Common.{◌≡◌, ℕ, zero, suc, ◌<◌, Bool, false, List, [], ◌∷◌, length, map, get_or, refl, ap, ◌∙◌, arith}
use Rattle.aig_defs.specs.Circuit.{Circuit}
use Rattle.aig_defs.specs.Value.{literal_value, step_of}
use Rattle.aig_words.specs.Words.{says}
use Rattle.aig_words.proofs.Words.{says_word}
use Rattle.aig_wide.specs.Wide.{wide_columns, wide_value}

mapped_at : {A : Type 0} (f : A → Bool) (xs : List A) (x : A) (t : ℕ) → t < length xs
    → get_or (map f xs) t false ≡ f (get_or xs t x)
mapped_at f [] x t l = absurd (omega (arith, l))
mapped_at f (y ∷ xs) x zero l = refl
mapped_at f (y ∷ xs) x (suc t) l = mapped_at f xs x t (omega (arith, l))

pub wide_lane : (c : Circuit) (inputs : List (List Bool)) (literal t : ℕ) → t < length inputs
    → says t (wide_value c inputs literal) ≡ literal_value c [] (get_or inputs t []) literal
wide_lane c inputs literal t l =
    says_word t (map (λ (input : List Bool). literal_value c [] input literal) inputs)
    ∙ mapped_at (λ (input : List Bool). literal_value c [] input literal) inputs [] t l

columns_by : (c : Circuit) (inputs : List (List Bool)) (t : ℕ) → t < length inputs → (columns : List ℕ)
    → map (says t) (map (wide_value c inputs) columns) ≡ map (literal_value c [] (get_or inputs t [])) columns
columns_by c inputs t l [] = refl
columns_by c inputs t l (o ∷ columns) =
    ap (λ (b : Bool). b ∷ map (says t) (map (wide_value c inputs) columns)) (wide_lane c inputs o t l)
    ∙ ap (λ (bs : List Bool). literal_value c [] (get_or inputs t []) o ∷ bs) (columns_by c inputs t l columns)

-- The columns' words say in lane t what the step of input t gives.
pub wide_step : (c : Circuit) (inputs : List (List Bool)) (t : ℕ) → t < length inputs
    → map (says t) (wide_columns c inputs) ≡ (step_of c [] (get_or inputs t [])).0
wide_step c inputs t l = columns_by c inputs t l c.columns
