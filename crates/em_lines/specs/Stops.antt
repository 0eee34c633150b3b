-- What a reader of a line answers beside what its text spells: the shelf may fail first.
use Rattle.std.specs.Prelude.{◌≡◌, Result, Ok, Err}
use Rattle.em_lines.specs.declared.text.TextKind.{TextKind}
use Rattle.em_lines.specs.declared.text.LineStop.{LineStop}
use Rattle.em_lines.specs.declared.text.LineStop.TheVariants as stop

-- a reader stopped at the fault of what is spelled, or the shelf failed
abbrev pub StopsBy : {A : Type 0} → LineStop → Result A TextKind → Type 0
StopsBy (stop.Fault kind) spelled = spelled ≡ Err kind
StopsBy stop.Read spelled = Unit {0}

-- the answer is what is spelled, value or fault, or the shelf failed
abbrev pub Gives : {A : Type 0} → Result A LineStop → Result A TextKind → Type 0
Gives (Ok x) spelled = spelled ≡ Ok x
Gives (Err e) spelled = StopsBy e spelled

-- P of the fault, if a reader stopped at one
abbrev pub IfFault : LineStop → (TextKind → Type 0) → Type 0
IfFault (stop.Fault kind) P = P kind
IfFault stop.Read P = Unit {0}

-- P, if a reader stopped since the shelf failed
abbrev pub OnReadStop : LineStop → Type 0 → Type 0
OnReadStop (stop.Fault kind) P = Unit {0}
OnReadStop stop.Read P = P

-- P, if the answer is that the shelf failed
abbrev pub OnRead : {A : Type 0} → Result A LineStop → Type 0 → Type 0
OnRead (Ok x) P = Unit {0}
OnRead (Err e) P = OnReadStop e P
