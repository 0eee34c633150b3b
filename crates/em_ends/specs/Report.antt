-- The message of each status, one line on the error stream: docs/FORMATS.md, "Exit codes and
-- messages".
use Rattle.std.specs.Prelude.{ℕ, List, [], ◌∷◌, ◌++◌, codes, decimal, Option, Some, None}
use Rattle.aig_defs.specs.declared.fault.AigKind.{AigKind}
use Rattle.aig_defs.specs.declared.fault.AigKind.TheVariants as aig
use Rattle.em_lines.specs.declared.text.TextKind.{TextKind}
use Rattle.em_lines.specs.declared.text.TextKind.TheVariants.{BadNumber, TooLarge, BadSeparator, Unknown, EmptyLine, LowAboveHigh, TooLong, OutOfOrder}
use Rattle.em_ends.specs.declared.status.Malform.{Malform}
use Rattle.em_ends.specs.declared.status.Malform.TheVariants.{Text, Base, Aig}
use Rattle.em_ends.specs.declared.status.UsageKind.{UsageKind}
use Rattle.em_ends.specs.declared.status.UsageKind.TheVariants.{NoCommand, UnknownCommand, UnknownOption, RepeatedOption, BadValue, MissingOperand, ExtraOperand, BlockRange, FramesRange, FramesMultiple, BlocksRange, UnknownKind, CountRange}
use Rattle.em_ends.specs.declared.status.Status.{Status}
use Rattle.em_ends.specs.declared.status.Status.TheVariants.{Done, Usage, Malformed, ReadFault, WriteFault, DeviceFault, Full, NoMemory, Damaged}

-- the name of a fault of a line
abbrev pub text_kind_name : TextKind → List ℕ
text_kind_name BadNumber = codes "BadNumber"
text_kind_name TooLarge = codes "TooLarge"
text_kind_name BadSeparator = codes "BadSeparator"
text_kind_name Unknown = codes "Unknown"
text_kind_name EmptyLine = codes "EmptyLine"
text_kind_name LowAboveHigh = codes "LowAboveHigh"
text_kind_name TooLong = codes "TooLong"
text_kind_name OutOfOrder = codes "OutOfOrder"

-- the name of a fault of a circuit or of a stimulus
abbrev pub aig_kind_name : AigKind → List ℕ
aig_kind_name aig.BadMagic = codes "BadMagic"
aig_kind_name aig.BadNumber = codes "BadNumber"
aig_kind_name aig.TooLarge = codes "TooLarge"
aig_kind_name aig.BadSeparator = codes "BadSeparator"
aig_kind_name aig.BadCounts = codes "BadCounts"
aig_kind_name aig.LiteralRange = codes "LiteralRange"
aig_kind_name aig.OddDefinition = codes "OddDefinition"
aig_kind_name aig.BadDelta = codes "BadDelta"
aig_kind_name aig.Short = codes "Short"
aig_kind_name aig.BadSymbol = codes "BadSymbol"
aig_kind_name aig.Extra = codes "Extra"
aig_kind_name aig.Extension = codes "Extension"
aig_kind_name aig.Twice = codes "Twice"
aig_kind_name aig.Undefined = codes "Undefined"
aig_kind_name aig.Cyclic = codes "Cyclic"
aig_kind_name aig.StimLength = codes "StimLength"
aig_kind_name aig.StimChar = codes "StimChar"
aig_kind_name aig.TooLong = codes "TooLong"
aig_kind_name aig.Uninit = codes "Uninit"
aig_kind_name aig.Justice = codes "Justice"
aig_kind_name aig.Fairness = codes "Fairness"
aig_kind_name aig.BadReset = codes "BadReset"
aig_kind_name aig.Latched = codes "Latched"

-- the name of a fault of a line of the base
abbrev pub base_kind_name : TextKind → List ℕ
base_kind_name kind = codes "base " ++ text_kind_name kind

-- the name of what is wrong with an input
abbrev pub malform_name : Malform → List ℕ
malform_name (Text kind) = text_kind_name kind
malform_name (Base kind) = base_kind_name kind
malform_name (Aig kind) = aig_kind_name kind

-- the name of a usage fault
abbrev pub usage_kind_name : UsageKind → List ℕ
usage_kind_name NoCommand = codes "NoCommand"
usage_kind_name UnknownCommand = codes "UnknownCommand"
usage_kind_name UnknownOption = codes "UnknownOption"
usage_kind_name RepeatedOption = codes "RepeatedOption"
usage_kind_name BadValue = codes "BadValue"
usage_kind_name MissingOperand = codes "MissingOperand"
usage_kind_name ExtraOperand = codes "ExtraOperand"
usage_kind_name BlockRange = codes "BlockRange"
usage_kind_name FramesRange = codes "FramesRange"
usage_kind_name FramesMultiple = codes "FramesMultiple"
usage_kind_name BlocksRange = codes "BlocksRange"
usage_kind_name UnknownKind = codes "UnknownKind"
usage_kind_name CountRange = codes "CountRange"

-- a number in decimal, or nothing
abbrev pub digits_of : Option ℕ → List ℕ
digits_of None = []
digits_of (Some n) = decimal n

-- a line: some words, a name, more words, a number, and a last word
abbrev pub line_of : List ℕ → List ℕ → List ℕ → Option ℕ → List ℕ → List ℕ
line_of start name link number last =
    ((((start ++ name) ++ link) ++ digits_of number) ++ last) ++ 10 ∷ []

-- the message of a status
abbrev pub message_of : Status → List ℕ
message_of Done = []
message_of (Usage kind word) =
    line_of (codes "emtool: usage: ") (usage_kind_name kind) (codes " at word ") (Some word) []
message_of (Malformed kind place) =
    line_of (codes "emtool: malformed: ") (malform_name kind) (codes " at ") (Some place) []
message_of ReadFault = line_of (codes "emtool: an input could not be read") [] [] None []
message_of WriteFault = line_of (codes "emtool: the output could not be written") [] [] None []
message_of DeviceFault = line_of (codes "emtool: the scratch device failed") [] [] None []
message_of (Full used) =
    line_of (codes "emtool: the scratch device is full at ") [] [] (Some used) (codes " blocks")
message_of NoMemory = line_of (codes "emtool: no memory for the frames") [] [] None []
message_of (Damaged block) =
    line_of (codes "emtool: scratch block ") [] [] (Some block) (codes " is damaged")
