-- What a program says of a failure, after its name and a colon.
use Rattle.std.specs.Prelude.{ℕ, List, ◌++◌, codes, decimal}
use Rattle.em_record.specs.declared.fault.ShapeFault.{ShapeFault}
use Rattle.em_record.specs.declared.fault.ShapeFault.TheVariants.{BlockRange, FramesRange, FramesMultiple}
use Rattle.em_lines.specs.declared.text.TextKind.{TextKind}
use Rattle.em_lines.specs.declared.text.TextKind.TheVariants.{BadNumber, TooLarge, BadSeparator, Unknown, EmptyLine, LowAboveHigh, TooLong, OutOfOrder}
use Rattle.em_frames.specs.declared.device.BeginFault.TheVariants.{Failed}
use Rattle.em_frames.specs.declared.device.BeginFault.TheVariants as begin
use Rattle.em_space.specs.declared.fault.EmFault.{EmFault}
use Rattle.em_space.specs.declared.fault.EmFault.TheVariants.{DeviceFault, Full, Damaged}
use Rattle.em_ends.specs.declared.status.Malform.{Malform}
use Rattle.em_ends.specs.declared.status.Malform.TheVariants.{Text, Base, Aig}
use Rattle.em_ends.specs.declared.stop.Stop.{Stop}
use Rattle.em_ends.specs.declared.stop.Stop.TheVariants.{Fault, Read, Write, Em}
use Rattle.em_tool.specs.declared.failure.Failure.{Failure}
use Rattle.em_tool.specs.declared.failure.Failure.TheVariants.{Usage, Shape, NoMemory, Begin, Run}

-- which of the two numbers is refused, and its range
abbrev pub shape_words : ShapeFault → List ℕ
shape_words BlockRange = codes "B must be from 128 to 65536"
shape_words FramesRange = codes "M must be from 64 to 1024, and at most half of B"
shape_words FramesMultiple = codes "M must be a multiple of 8"

-- what is wrong with a line
abbrev pub text_words : TextKind → List ℕ
text_words BadNumber = codes "not a number"
text_words TooLarge = codes "a number above 2^64 - 1"
text_words BadSeparator = codes "a number is missing"
text_words Unknown = codes "an unknown word"
text_words EmptyLine = codes "an empty line"
text_words LowAboveHigh = codes "the low end is above the high end"
text_words TooLong = codes "too many lines"
text_words OutOfOrder = codes "the key isn't above the one before"

-- the fault of an input and its place
abbrev pub malform_text : Malform → ℕ → List ℕ
malform_text (Text kind) line = codes "line " ++ (decimal line ++ (codes ": " ++ text_words kind))
malform_text (Base kind) line = codes "base line " ++ (decimal line ++ (codes ": " ++ text_words kind))
malform_text (Aig kind) place = codes "the circuit is faulty at " ++ decimal place

-- why the rig gave up
abbrev pub fault_text : EmFault → List ℕ
fault_text DeviceFault = codes "the scratch device failed"
fault_text (Full used) = codes "the scratch device is full at " ++ (decimal used ++ codes " blocks")
fault_text (Damaged block) = codes "scratch block " ++ (decimal block ++ codes " is damaged")

-- why a run stopped
abbrev pub stop_text : Stop → List ℕ
stop_text (Fault kind place) = malform_text kind place
stop_text Read = codes "a file could not be read"
stop_text Write = codes "the output could not be written"
stop_text (Em fault) = fault_text fault

-- why a program failed
abbrev pub failure_text : Failure → List ℕ
failure_text Usage = codes "usage"
failure_text (Shape fault) = shape_words fault
failure_text NoMemory = codes "no memory for the frames"
failure_text (Begin Failed) = codes "the scratch device failed"
failure_text (Begin begin.NoMemory) = codes "no memory for the scratch device"
failure_text (Run stop) = stop_text stop
