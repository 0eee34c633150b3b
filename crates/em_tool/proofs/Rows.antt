-- Worked words and messages: what the definitions say of them.
use Rattle.std.specs.Prelude.{◌≡◌, [], ◌∷◌, codes, refl, Ok, Err, map}
use Rattle.std.specs.Fmt.{digits}
use Rattle.em_record.specs.declared.fault.ShapeFault.TheVariants.{BlockRange, FramesRange, FramesMultiple}
use Rattle.em_lines.specs.declared.text.TextKind.TheVariants.{BadNumber, BadSeparator, LowAboveHigh}
use Rattle.em_frames.specs.declared.device.BeginFault.TheVariants.{Failed}
use Rattle.em_space.specs.declared.fault.EmFault.TheVariants.{DeviceFault, Full, Damaged}
use Rattle.em_ends.specs.declared.status.Malform.TheVariants.{Text}
use Rattle.em_ends.specs.declared.stop.Stop.TheVariants.{Fault, Read, Write, Em}
use Rattle.em_tool.specs.Failure.{exit_code}
use Rattle.em_tool.specs.Messages.{failure_text}
use Rattle.em_tool.specs.Names.{name_at}
use Rattle.em_tool.specs.Words.{shape_for}
use Rattle.em_tool.specs.declared.failure.Failure.TheVariants.{Usage, Shape, NoMemory, Begin, Run}

-- Words of a program over one file, and over two.

one_file : shape_for 1 (codes "128" ∷ codes "64" ∷ codes "a" ∷ [])
    ≡ Ok (record { block = 128; frames = 64 })
one_file = refl

two_files : shape_for 2 (codes "4096" ∷ codes "256" ∷ codes "a" ∷ codes "b" ∷ [])
    ≡ Ok (record { block = 4096; frames = 256 })
two_files = refl

no_word : shape_for 1 [] ≡ Err Usage
no_word = refl

no_file : shape_for 1 (codes "128" ∷ codes "64" ∷ []) ≡ Err Usage
no_file = refl

one_too_many : shape_for 1 (codes "128" ∷ codes "64" ∷ codes "a" ∷ codes "b" ∷ []) ≡ Err Usage
one_too_many = refl

no_number : shape_for 1 (codes "128" ∷ codes "6x" ∷ codes "a" ∷ []) ≡ Err Usage
no_number = refl

small_block : shape_for 1 (codes "127" ∷ codes "64" ∷ codes "a" ∷ []) ≡ Err (Shape BlockRange)
small_block = refl

many_frames : shape_for 1 (codes "128" ∷ codes "72" ∷ codes "a" ∷ []) ≡ Err (Shape FramesRange)
many_frames = refl

odd_frames : shape_for 1 (codes "1024" ∷ codes "65" ∷ codes "a" ∷ []) ≡ Err (Shape FramesMultiple)
odd_frames = refl

-- Names of files.

second_name : name_at (codes "a" ∷ codes "b" ∷ []) 1 ≡ codes "b"
second_name = refl

past_the_last_name : name_at (codes "a" ∷ codes "b" ∷ []) 2 ≡ []
past_the_last_name = refl

-- Messages.

the_block_is_refused : failure_text (Shape BlockRange) ≡ codes "B must be from 128 to 65536"
the_block_is_refused = refl

a_line_with_no_number : failure_text (Run (Fault (Text BadSeparator) 3))
    ≡ codes "line 3: a number is missing"
unfolding digits
a_line_with_no_number = refl

a_line_of_letters : failure_text (Run (Fault (Text BadNumber) 12)) ≡ codes "line 12: not a number"
unfolding digits
a_line_of_letters = refl

a_missing_file : failure_text (Run Read) ≡ codes "a file could not be read"
a_missing_file = refl

a_full_device : failure_text (Run (Em (Full 40))) ≡ codes "the scratch device is full at 40 blocks"
unfolding digits
a_full_device = refl

a_damaged_block : failure_text (Run (Em (Damaged 7))) ≡ codes "scratch block 7 is damaged"
unfolding digits
a_damaged_block = refl

-- Exit codes, those of `emtool` for the like.

all_codes : map exit_code (Usage ∷ Shape FramesRange ∷ Run (Fault (Text LowAboveHigh) 1) ∷ Run Read
    ∷ Run Write ∷ Begin Failed ∷ Run (Em DeviceFault) ∷ Run (Em (Full 1)) ∷ NoMemory
    ∷ Run (Em (Damaged 1)) ∷ []) ≡ 1 ∷ 1 ∷ 2 ∷ 3 ∷ 4 ∷ 5 ∷ 5 ∷ 6 ∷ 7 ∷ 8 ∷ []
all_codes = refl
