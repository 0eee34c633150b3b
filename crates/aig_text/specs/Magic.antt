-- The bytes of the magic, one after another.
use Rattle.std.specs.Prelude.{ℕ, Bool, true, false, ◌+◌, ◌==◌, [], ◌∷◌, if◌then◌else◌}
use Rattle.aig_defs.specs.declared.fault.AigKind.TheVariants.{BadMagic}
use Rattle.aig_defs.specs.Items.{Reads, Fails, Item}

-- one byte of the magic
abbrev pub letter : ℕ → Item (Unit {0})
letter wanted p [] = Fails BadMagic 0
letter wanted p (byte ∷ x) = if wanted == byte then Reads tt (p + 1) x else Fails BadMagic 0

-- the byte of the magic that names the form, by whether it is that of the ASCII form
abbrev pub form_letter : Item Bool
form_letter p [] = Fails BadMagic 0
form_letter p (byte ∷ x) =
    if byte == 97 then Reads true (p + 1) x
    else if byte == 105 then Reads false (p + 1) x
    else Fails BadMagic 0
