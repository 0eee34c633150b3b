-- How a run ends: docs/FORMATS.md, "Exit codes and messages".
use Rattle.std.specs.Prelude.{ℕ, Option, Some, None}
use Rattle.em_ends.specs.declared.status.Usage.{Usage}
use Rattle.em_ends.specs.declared.status.Status.{Status}
use Rattle.em_ends.specs.declared.status.Status.TheVariants.{Done, Malformed, ReadFault, WriteFault, DeviceFault, Full, NoMemory, Damaged}
use Rattle.em_ends.specs.declared.status.Status.TheVariants as status

-- the exit code
abbrev pub code_of : Status → ℕ
code_of Done = 0
code_of (status.Usage kind word) = 1
code_of (Malformed kind place) = 2
code_of ReadFault = 3
code_of WriteFault = 4
code_of DeviceFault = 5
code_of (Full used) = 6
code_of NoMemory = 7
code_of (Damaged block) = 8

-- the refusal of the words, where the status is one
abbrev pub refusal_of : Status → Option Usage
refusal_of (status.Usage kind word) = Some (record { kind = kind; word = word })
refusal_of other = None

-- P, where the words were refused
abbrev pub OnUsage : Status → Type 0 → Type 0
OnUsage (status.Usage kind word) P = P
OnUsage other P = Unit {0}

-- P, where all was answered
abbrev pub OnDone : Status → Type 0 → Type 0
OnDone Done P = P
OnDone other P = Unit {0}

-- P, if the status is Done or Malformed
abbrev pub OnEnd : Status → Type 0 → Type 0
OnEnd Done P = P
OnEnd (Malformed kind place) P = P
OnEnd other P = Unit {0}

-- P, if there was no memory
abbrev pub OnNoMemory : Status → Type 0 → Type 0
OnNoMemory NoMemory P = P
OnNoMemory other P = Unit {0}

-- P of the number of blocks, where the device was full
abbrev pub IfEndsFull : Status → (ℕ → Type 0) → Type 0
IfEndsFull (Full used) P = P used
IfEndsFull other P = Unit {0}

-- P of the block, where one that was read isn't laid out as it was left
abbrev pub IfEndsDamaged : Status → (ℕ → Type 0) → Type 0
IfEndsDamaged (Damaged block) P = P block
IfEndsDamaged other P = Unit {0}

-- P, where the run came to have a device that didn't fail
abbrev pub OnBegun : Status → Type 0 → Type 0
OnBegun (status.Usage kind word) P = Unit {0}
OnBegun NoMemory P = Unit {0}
OnBegun DeviceFault P = Unit {0}
OnBegun other P = P
