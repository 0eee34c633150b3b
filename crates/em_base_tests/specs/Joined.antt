-- Operations (K, number, 0, V) that keep the greatest value of each key, in a record (K, 0, 0, V).
use Rattle.std.specs.Prelude.{ℕ, ◌≡◌, ◌<◌, true, max, Option, Some, None, IfSome}
use Rattle.std.proofs.Common.{ap, subst, refl}
use Rattle.em_record.specs.declared.record.Record.{Record}
use Rattle.em_record.specs.Order.{is_below}
use Rattle.em_settle.specs.Map.{map_key_of, map_record, IsMapKept}
use Rattle.em_settle.specs.MapLaws.{put_below}
use Rattle.em_settle.specs.declared.step.Step.{Step}

-- the value after an operation
abbrev pub joined_value : Option Record → Record → ℕ
joined_value None op = op.d
joined_value (Some r) op = max r.d op.d

-- an operation stores the greater value, and answers nothing
abbrev pub joined_step : Option Record → Record → Step
joined_step old op = record { stored = Some (map_record op.a (joined_value old op)); answer = None }

-- an operation has a number from 1 on
abbrev pub IsJoinedOp : Record → Type 0
IsJoinedOp r = 0 < r.b

-- what an operation leaves may be stored
pub keeps : (old : Option Record) (op new : Record) → IfSome old IsMapKept → IsJoinedOp op
    → (joined_step old op).stored ≡ Some new → IsMapKept new
keeps old op new kept is_op e =
    let P : Option Record → Type 0 = λ o. IfSome o IsMapKept in subst P e (refl, refl)

-- it has the operation's key
pub keeps_key : (old : Option Record) (op new : Record)
    → IfSome old (λ r. map_key_of r ≡ map_key_of op) → (joined_step old op).stored ≡ Some new
    → map_key_of new ≡ map_key_of op
keeps_key old op new same e =
    let P : Option Record → Type 0 = λ o. IfSome o (λ r. map_key_of r ≡ map_key_of op) in
    subst P e refl

-- it is below every later operation of its key
pub stays_below : (old : Option Record) (op new later : Record)
    → IfSome old (λ r. is_below r op ≡ true) → IsJoinedOp op → IsJoinedOp later
    → map_key_of later ≡ map_key_of op → is_below op later ≡ true
    → (joined_step old op).stored ≡ Some new → is_below new later ≡ true
stays_below old op new later below is_op is_later same after e =
    let P : Option Record → Type 0 = λ o. IfSome o (λ r. is_below r later ≡ true) in
    subst P e (put_below op (joined_value old op) later is_later (ap (λ (r : Record). r.a) same))
