-- A service stays one over a call whose closure still answers its kind, and what holds of each new one.
use Rattle.std.specs.Prelude.{◌≡◌, refl, ℕ, List, Result, Ok, Err, IfOk, OnOk}
use Rattle.em_record.specs.Shape.{ShapeNumbers}
use Rattle.em_model.specs.declared.command.Command.{Command}

-- What holds if a call answered Ok, beside what holds in any case.
pub both_still : {T E : Type 0} (Is Ready : Type 0) (result : Result T E) → OnOk result Is → Ready
    → OnOk result (Is × Ready)
both_still Is Ready (Ok x) is ready = (is, ready)
both_still Is Ready (Err fault) is ready = tt

pub all_still : {T E : Type 0} (Is Ready Plain : Type 0) (result : Result T E) → OnOk result Is → Ready → Plain
    → OnOk result (Is × Ready × Plain)
all_still Is Ready Plain (Ok x) is ready plain = (is, ready, plain)
all_still Is Ready Plain (Err fault) is ready plain = tt

-- What holds anyway, also if a call answered Ok.
pub ok_still : {T E : Type 0} (Is : Type 0) (result : Result T E) → Is → OnOk result Is
ok_still Is (Ok x) is = is
ok_still Is (Err fault) is = tt

-- No area, and always the same size.
pub no_area_held : {T E : Type 0} (own : ℕ) (result : Result T E) → IfOk result (λ x. own ≡ own)
no_area_held own (Ok x) = refl
no_area_held own (Err fault) = tt

pub same_size : {T E : Type 0} (size : ShapeNumbers → List Command → ℕ) (result : Result T E)
    → IfOk result (λ x. size ≡ size)
same_size size (Ok x) = refl
same_size size (Err fault) = tt
