-- The job that the words name, or their first refusal: docs/FORMATS.md, "Words". A word is the list
-- of its bytes.
use Rattle.std.specs.Prelude.{◌≡◌, ℕ, ◌+◌, ◌*◌, ◌/◌, ◌<◌, ◌≤◌, ◌^◌, ◌==◌, Bool, true, false, List, [], ◌∷◌, if◌then◌else◌, codes, bytes_eq, get_or, length, map, min, nat_lt, Option, Some, None, String, string_bytes, Result, Ok, Err}
use Rattle.std.specs.Global.{Global}
use Rattle.std.specs.Option.{option_map}
use Rattle.em_record.specs.declared.fault.ShapeFault.{ShapeFault}
use Rattle.em_record.specs.declared.fault.ShapeFault.TheVariants as shape
use Rattle.em_record.specs.Shape.{IsShape, ShapeNumbers, is_within, shape_of}
use Rattle.em_words.specs.declared.job.Job.{Job}
use Rattle.em_words.specs.declared.job.Origin.{Origin}
use Rattle.em_words.specs.declared.job.Origin.TheVariants.{Files, Made}
use Rattle.em_words.specs.declared.job.Task.{Task}
use Rattle.em_words.specs.declared.job.Task.TheVariants.{Answer, Eval}
use Rattle.em_words.specs.declared.job.Verb.{Verb}
use Rattle.em_words.specs.declared.job.Verb.TheVariants.{Over, Generate}
use Rattle.em_lines.specs.declared.text.FileKind.TheVariants.{Map, Queue, Stab, Dump}
use Rattle.em_settle.specs.declared.combine.Combine.TheVariants.{Sum}
use Rattle.em_ends.specs.declared.status.Usage.{Usage}
use Rattle.em_ends.specs.declared.status.UsageKind.{UsageKind}
use Rattle.em_ends.specs.declared.status.UsageKind.TheVariants.{NoCommand, UnknownCommand, BadValue, MissingOperand, ExtraOperand, BlockRange, FramesRange, FramesMultiple, BlocksRange, UnknownKind, CountRange}
use Rattle.em_words.specs.Options.{combine_with, has_option, number_of_word, number_or, option_words, options_refusal, word_of}

-- the words as the program gets them
abbrev pub texts_of : List (String Global) → List (List ℕ)
texts_of words = map string_bytes words

-- the words are refused at the word of this number
abbrev pub refused : {A : Type 0} → UsageKind → ℕ → Result A Usage
refused kind word = Err (record { kind = kind; word = word })

-- what comes next, where nothing was refused
infixl 10 ◌>>=◌
abbrev pub ◌>>=◌ : {A B : Type 0} → Result A Usage → (A → Result B Usage) → Result B Usage
(Ok x) >>= next = next x
(Err usage) >>= next = Err usage

-- what comes next, after options of which one may be refused
abbrev pub unless : {A : Type 0} → Option Usage → Result A Usage → Result A Usage
unless None next = next
unless (Some usage) next = Err usage

-- how many operands a task has: a name for each of its files
abbrev pub operand_count : Task → ℕ
operand_count (Answer kind combine early) = 1
operand_count (Eval uninit wide) = 2

-- how many operands a command has: `gen` has a kind, a start and a count
abbrev pub operands_wanted : Verb → ℕ
operands_wanted (Over task) = operand_count task
operands_wanted Generate = 3

-- the same of a task by where its texts come from
abbrev pub operands_by : Origin → Task → ℕ
operands_by Files task = operand_count task
operands_by (Made start count) task = 3

-- the number of the first operand's word, of `count` words: it is the word of number `first`, and
-- the last of the `wanted` operands is the last word
abbrev pub operands_of : ℕ → ℕ → ℕ → Result ℕ Usage
operands_of wanted first count =
    if nat_lt count (first + wanted) then refused MissingOperand count
    else (if nat_lt (first + wanted) count then refused ExtraOperand (first + wanted)
    else Ok first)

-- the frames where no option says their number, by the records of a block
abbrev pub default_frames : ℕ → ℕ
default_frames block = min 256 (8 * (block / 16))

-- a shape, or the refusal of the option that breaks its rule
abbrev pub shape_or : List (List ℕ) → Result ShapeNumbers ShapeFault → Result ShapeNumbers Usage
shape_or options (Ok numbers) = Ok numbers
shape_or options (Err shape.BlockRange) = refused BlockRange (word_of (codes "--block") options)
shape_or options (Err shape.FramesRange) = refused FramesRange (word_of (codes "--frames") options)
shape_or options (Err shape.FramesMultiple) =
    refused FramesMultiple (word_of (codes "--frames") options)

-- the shape with this number of records to a block, and the frames that the options say
abbrev pub shape_over : List (List ℕ) → ℕ → Result ShapeNumbers Usage
shape_over options block = shape_or options
    (shape_of block (number_or (codes "--frames") options (default_frames block)))

-- the shape that the options say
abbrev pub shape_with : List (List ℕ) → Result ShapeNumbers Usage
shape_with options = shape_over options (number_or (codes "--block") options 1024)

-- the blocks of the device, where their number is in its range
abbrev pub blocks_within : List (List ℕ) → ℕ → Result ℕ Usage
blocks_within options blocks =
    if is_within 1 (2 ^ 40) blocks then Ok blocks
    else refused BlocksRange (word_of (codes "--blocks") options)

-- the blocks of the device that the options say
abbrev pub blocks_with : List (List ℕ) → Result ℕ Usage
blocks_with options = blocks_within options (number_or (codes "--blocks") options (2 ^ 20))

-- the word of a task
abbrev pub task_name : Task → List ℕ
task_name (Answer Map combine early) = codes "map"
task_name (Answer Queue combine early) = codes "queue"
task_name (Answer Stab combine early) = codes "stab"
task_name (Answer Dump combine early) = codes "dump"
task_name (Eval uninit wide) = codes "eval"

-- the word names this task
abbrev pub is_named : Task → List ℕ → Bool
is_named task word = bytes_eq word (task_name task)

-- the task of a word of those for which `gen` makes texts, by no option of its own
abbrev pub made_task_of : List ℕ → Option Task
made_task_of word =
    if is_named (Answer Map Sum false) word then Some (Answer Map Sum false)
    else (if is_named (Answer Queue Sum false) word then Some (Answer Queue Sum false)
    else (if is_named (Answer Stab Sum false) word then Some (Answer Stab Sum false)
    else (if is_named (Eval None false) word then Some (Eval None false) else None)))

-- the task of a command over files, from the command's word, before its options are read: one of these or a dump
abbrev pub task_of : List ℕ → Option Task
task_of word =
    if is_named (Answer Dump Sum false) word then Some (Answer Dump Sum false) else made_task_of word

-- a bit that a number says
abbrev pub bit_said : ℕ → Option Bool
bit_said value =
    if value == 0 then Some false else (if value == 1 then Some true else None)

-- the bit with which an uninitialised latch begins, if an option says it
abbrev pub uninit_with : List (List ℕ) → Option Bool
uninit_with options = bit_said (number_or (codes "--uninit") options 2)

-- the task as the options say
abbrev pub task_with : Task → List (List ℕ) → Task
task_with (Answer kind combine early) options =
    Answer kind (combine_with options) (has_option (codes "--early") options)
task_with (Eval uninit wide) options = Eval (uninit_with options) (has_option (codes "--wide") options)

-- what the word of a command asks for
abbrev pub verb_of : List ℕ → Option Verb
verb_of word =
    if bytes_eq word (codes "gen") then Some Generate else option_map Over (task_of word)

-- the word of this number, or no bytes if there is none
abbrev pub name_at : List (List ℕ) → ℕ → List ℕ
name_at words number = get_or words number []

-- the job of a task on texts of this origin, over what the options say. Its operands are the words from
-- number `file` on.
abbrev pub job_with : Task → Origin → List (List ℕ) → ℕ → Result Job Usage
job_with task origin options file =
    shape_with options >>= λ numbers. blocks_with options >>= λ blocks. Ok (record {
      task = task;
      origin = origin;
      shape = numbers;
      blocks = blocks;
      stats = has_option (codes "--stats") options;
      file = file;
    })

-- what an operand says, or this refusal at its word
abbrev pub said_or : {A : Type 0} → UsageKind → ℕ → Option A → Result A Usage
said_or kind word (Some x) = Ok x
said_or kind word None = refused kind word

-- a count of lines or gates, where it is in its range
abbrev pub count_within : ℕ → ℕ → Result ℕ Usage
count_within word count =
    if is_within 1 (2 ^ 30) count then Ok count else refused CountRange word

-- the task that the operand of this number names, of those for which texts are made
abbrev pub task_at : List (List ℕ) → ℕ → Result Task Usage
task_at words word = said_or UnknownKind word (made_task_of (name_at words word))

-- the number that the operand of this number spells
abbrev pub number_at : List (List ℕ) → ℕ → Result ℕ Usage
number_at words word = said_or BadValue word (number_of_word (name_at words word))

-- the count that the operand of this number spells
abbrev pub count_at : List (List ℕ) → ℕ → Result ℕ Usage
count_at words word = number_at words word >>= λ count. count_within word count

-- the job of `gen`, by its operands, of which the first is the word of number `file`
abbrev pub made_job : List (List ℕ) → List (List ℕ) → ℕ → Result Job Usage
made_job words options file =
    task_at words file >>= λ task. number_at words (file + 1) >>= λ start.
    count_at words (file + 2) >>= λ count. job_with task (Made start count) options file

-- the job of a command, by all words and by those that are options
abbrev pub job_by : Verb → List (List ℕ) → List (List ℕ) → ℕ → Result Job Usage
job_by (Over task) words options file = job_with (task_with task options) Files options file
job_by Generate words options file = made_job words options file

-- the job of these words, of which these are the options that stand after the command
abbrev pub job_behind : Verb → List (List ℕ) → List (List ℕ) → Result Job Usage
job_behind verb words options = unless (options_refusal verb [] options)
    (operands_of (operands_wanted verb) (length options + 1) (length words)
    >>= λ file. job_by verb words options file)

-- the job of a command that asks for this, and of the words after the command
abbrev pub job_for : Option Verb → List ℕ → List (List ℕ) → Result Job Usage
job_for None command words = refused UnknownCommand 0
job_for (Some verb) command words = job_behind verb (command ∷ words) (option_words words)

-- the job of the words, or their first refusal
abbrev pub job_of : List (List ℕ) → Result Job Usage
job_of [] = refused NoCommand 0
job_of (command ∷ words) = job_for (verb_of command) command words

-- A made text has at least one line or gate, and at most 2^30.
pub record IsCount (count : ℕ) : Type 0 where
  pub some : 0 < count
  pub most : count ≤ 2 ^ 30

-- the limits of made texts
abbrev pub IsOrigin : Origin → Type 0
IsOrigin Files = Unit {0}
IsOrigin (Made start count) = IsCount count

-- the limits of a job over this many words, of which the last ones are its operands
pub record IsJob (words : ℕ) (job : Job) : Type 0 where
  pub shape : IsShape job.shape
  pub blocks_low : 0 < job.blocks
  pub blocks_high : job.blocks ≤ 2 ^ 40
  pub origin : IsOrigin job.origin
  pub files : job.file + operands_by job.origin job.task ≡ words

-- A job has some blocks, and at most 2 ^ 40.
pub record HasBlocks (job : Job) : Type 0 where
  pub low : 0 < job.blocks
  pub high : job.blocks ≤ 2 ^ 40
