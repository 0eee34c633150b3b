-- What may follow a circuit's gates: lines that name inputs, latches, outputs and bad literals, and a comment.
-- They are passed over.
use Rattle.std.specs.Prelude.{ℕ, zero, suc, ◌+◌, ◌^◌, nat_le, ◌==◌, Bool, true, false, if◌then◌else◌, [], ◌∷◌, length, Option, Some, None}
use Rattle.aig_defs.specs.declared.fault.AigKind.TheVariants.{Extra, TooLong}
use Rattle.aig_defs.specs.declared.circuit.Header.{Header}
use Rattle.aig_defs.specs.declared.form.Limit.TheVariants.{Position}
use Rattle.aig_defs.specs.Items.{Reads, Fails, Item, ◌>>=◌, ◌>>◌, look, take_byte, space, number}

-- any bytes up to a newline, which is taken too, or up to the text's end
abbrev pub name : Item (Unit {0})
name p [] = Reads tt p []
name p (byte ∷ x) =
    if nat_le (2 ^ 50) p then Fails TooLong (2 ^ 50)
    else if byte == 10 then Reads tt (p + 1) x
    else name (p + 1) x

-- any bytes up to the text's end
abbrev pub comment : Item (Unit {0})
comment p [] = Reads tt p []
comment p (byte ∷ x) =
    if nat_le (2 ^ 50) p then Fails TooLong (2 ^ 50) else comment (p + 1) x

-- after a symbol's letter: a position in a section of n lines, a space, and a name
abbrev pub symbol : ℕ → Item (Unit {0})
symbol n = number (Position n) >> space >> name

-- how many lines the section has that a symbol's letter names: `i`, `l`, `o` or `b`
abbrev pub positions : Header → ℕ → Option ℕ
positions h byte =
    if byte == 105 then Some h.inputs
    else if byte == 108 then Some h.latches
    else if byte == 111 then Some h.outputs
    else if byte == 98 then Some h.bads
    else None

-- a symbol's line, if its section has n lines; no other line is one
abbrev pub symbol_line : Option ℕ → Item Bool
symbol_line None p x = Fails Extra p
symbol_line (Some n) p x = (take_byte >> symbol n >> Reads true) p x

-- after the byte that a line begins with; `c` begins the comment
abbrev pub tail_line_at : Header → Option ℕ → Item Bool
tail_line_at h None p x = Reads false p x
tail_line_at h (Some byte) p x =
    if byte == 99 then (take_byte >> comment >> Reads false) p x
    else symbol_line (positions h byte) p x

-- one line of the tail, and whether another one may follow
abbrev pub tail_line : Header → Item Bool
tail_line h = look >>= tail_line_at h

-- more, if more may follow
abbrev pub go_on : Item (Unit {0}) → Bool → Item (Unit {0})
go_on more true p x = more p x
go_on more false p x = Reads tt p x

-- at most n lines, and the text's end
abbrev pub tail_lines : Header → ℕ → Item (Unit {0})
tail_lines h zero p x = Fails Extra p
tail_lines h (suc n) p x = (tail_line h >>= go_on (tail_lines h n)) p x

-- all that follows the gates; each line has a byte, so there are no more lines than bytes
abbrev pub tail : Header → Item (Unit {0})
tail h p x = tail_lines h (length x + 1) p x
