-- Worked messages: what the definition of a message says of them.
use Rattle.std.specs.Prelude.{◌≡◌, [], ◌∷◌, codes, map, refl}
use Rattle.std.specs.Fmt.{digits}
use Rattle.aig_defs.specs.declared.fault.AigKind.TheVariants as aig
use Rattle.em_lines.specs.declared.text.TextKind.TheVariants.{BadSeparator, LowAboveHigh, OutOfOrder}
use Rattle.em_ends.specs.declared.status.Malform.TheVariants.{Text, Base, Aig}
use Rattle.em_ends.specs.declared.status.Status.TheVariants.{Malformed}
use Rattle.em_ends.specs.Report.{message_of}
use Rattle.em_ends.specs.Status.{code_of}

-- the same fault of a line of a command file and of a base, the order of a base's keys, and a fault of a circuit
faulty_inputs : map message_of (
    Malformed (Text BadSeparator) 5
    ∷ Malformed (Base BadSeparator) 5
    ∷ Malformed (Base OutOfOrder) 1099511627776
    ∷ Malformed (Aig aig.Latched) 0
    ∷ [])
    ≡ codes "emtool: malformed: BadSeparator at 5\n"
    ∷ codes "emtool: malformed: base BadSeparator at 5\n"
    ∷ codes "emtool: malformed: base OutOfOrder at 1099511627776\n"
    ∷ codes "emtool: malformed: Latched at 0\n"
    ∷ []
unfolding digits
faulty_inputs = refl

a_faulty_base : code_of (Malformed (Base LowAboveHigh) 1) ≡ 2
a_faulty_base = refl
