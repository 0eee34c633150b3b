-- The magic, letter by letter.
use Rattle.std.proofs.Common.{◌≡◌, ◌+◌, false, cond, eqb, List, [], ◌∷◌, ℕ, Some, None, slice_get, refl, sym, ap, ◌∙◌}
use Rattle.aig_defs.specs.declared.fault.AigKind.TheVariants.{BadMagic}
use Rattle.aig_defs.specs.Items.{Reads, Fails}
use Rattle.aig_text.specs.Magic.{letter}

-- what a look at the byte says of the letter
pub letter_none : (wanted p : ℕ) (x : List ℕ) → None ≡ slice_get x 0
    → letter wanted p x ≡ Fails BadMagic 0
letter_none wanted p [] e = refl
letter_none wanted p (byte ∷ x) e = cc

pub letter_other : (wanted p byte : ℕ) (x : List ℕ) → Some byte ≡ slice_get x 0
    → eqb wanted byte ≡ false
    → letter wanted p x ≡ Fails BadMagic 0
letter_other wanted p byte [] e f = cc
letter_other wanted p byte (b ∷ x) e f =
    let same : byte ≡ b = cc in
    ap (λ t. cond t (Reads tt (p + 1) x) (Fails BadMagic 0)) (ap (eqb wanted) (sym same) ∙ f)

pub ruleset letters = (letter_none, letter_other)
