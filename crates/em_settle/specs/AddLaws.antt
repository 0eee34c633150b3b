-- The laws of a map's operations with adds.
use Rattle.std.specs.Prelude.{Bool, true, false, cond, ℕ, ◌≡◌, ◌<◌, ◌+◌, ◌%◌, ◌^◌, ◌==◌, Option, Some, IfSome}
use Rattle.std.proofs.Common.{sym, ap, subst, ◌∙◌, refl, ⊎_elim, arith, rules, add_assoc}
use Rattle.std.proofs.lemmas.Bool.{cases_Bool, true≢false, eqb-true}
use Rattle.std.proofs.Math.Nat.{mod-add-mod, add-mod-mod}
use Rattle.std.specs.Int.Bits.{xor_assoc}
use Rattle.em_record.specs.declared.record.Record.{Record}
use Rattle.em_record.specs.Order.{is_below}
use Rattle.em_settle.specs.Map.{map_key_of, map_step_of, IsMapKept}
use Rattle.em_settle.specs.MapLaws.{choose, put_below}
use Rattle.em_settle.specs.Orders.{below_trans}
use Rattle.em_settle.specs.declared.step.Step.{Step}
use Rattle.em_settle.specs.declared.combine.Combine.{Combine}
use Rattle.em_settle.specs.declared.combine.Combine.TheVariants.{Sum, Max, Min, Xor}
use Rattle.em_settle.specs.Add.{apply_of, IsAssociative, add_step_of, IsAddOp}

-- what holds of each of four steps holds of the one that is chosen
choose_four : (P : Step → Type 0) (p q r : Bool) (a b c d : Step) → P a → P b → P c → P d
    → P (cond p a (cond q b (cond r c d)))
choose_four P p q true a b c d w x y z = choose P p q a b c w x y
choose_four P p q false a b c d w x y z = choose P p q a b d w x z

-- what an operation leaves may be stored
pub keeps : (apply : ℕ → ℕ → ℕ) (old : Option Record) (op new : Record) → IfSome old IsMapKept
    → IsAddOp op → (add_step_of apply old op).stored ≡ Some new → IsMapKept new
keeps apply old op new kept is_op =
    choose_four (λ s. s.stored ≡ Some new → IsMapKept new) (op.c == 0) (op.c == 1) (op.c == 3) _ _ _ _
    (λ e. search (rules, e))
    (λ e. cc)
    (λ e. search (rules, e))
    (λ e. rw e at kept)

-- it has the operation's key
pub keeps_key : (apply : ℕ → ℕ → ℕ) (old : Option Record) (op new : Record)
    → IfSome old (λ r. map_key_of r ≡ map_key_of op) → (add_step_of apply old op).stored ≡ Some new
    → map_key_of new ≡ map_key_of op
keeps_key apply old op new kept =
    choose_four (λ s. s.stored ≡ Some new → map_key_of new ≡ map_key_of op) (op.c == 0) (op.c == 1)
    (op.c == 3) _ _ _ _
    (λ e. cc)
    (λ e. cc)
    (λ e. cc)
    (λ e. rw e at kept)

-- it is below every later operation of its key
pub stays_below : (apply : ℕ → ℕ → ℕ) (old : Option Record) (op new later : Record)
    → IfSome old (λ r. is_below r op ≡ true) → IsAddOp op → IsAddOp later
    → map_key_of later ≡ map_key_of op → is_below op later ≡ true
    → (add_step_of apply old op).stored ≡ Some new → is_below new later ≡ true
stays_below apply old op new later below is_op is_later same after =
    let P : Option Record → Type 0 = λ o. IfSome o (λ r. is_below r later ≡ true) in
    let at : later.a ≡ op.a = ap (λ (r : Record). r.a) same in
    choose_four (λ s. s.stored ≡ Some new → is_below new later ≡ true) (op.c == 0) (op.c == 1)
    (op.c == 3) _ _ _ _
    (λ e. subst P e (put_below op op.d later is_later.0 at))
    (λ e. cc)
    (λ e. subst P e (put_below op _ later is_later.0 at))
    (λ e. below_trans new op later (rw e at below) after)

-- Each kind joins numbers in any grouping.
pub apply_joins : (kind : Combine) → IsAssociative (apply_of kind)
apply_joins Sum x y z = mod-add-mod (x + y) (2 ^ 64) z
    ∙ (ap (λ n. n % 2 ^ 64) (add_assoc x y z) ∙ sym (add-mod-mod x (y + z) (2 ^ 64)))
apply_joins Max x y z = omega arith
apply_joins Min x y z = omega arith
apply_joins Xor x y z = xor_assoc x y z

-- An operation that isn't an add does what it does in a map without adds.
same_choice : (p q r : Bool) (a b c d : Step) → r ≡ false
    → cond p a (cond q b (cond r c d)) ≡ cond p a (cond q b d)
same_choice p q true a b c d e = absurd (true≢false e)
same_choice p q false a b c d e = refl

-- a number below 3 isn't 3
no_three : (n : ℕ) → n < 3 → (n == 3) ≡ false
no_three n h = ⊎_elim
    (λ (t : (n == 3) ≡ true). let e : n ≡ 3 = eqb-true n 3 t in absurd (omega (arith, e, h)))
    (λ (f : (n == 3) ≡ false). f)
    (cases_Bool (n == 3))

pub step_of_others : (apply : ℕ → ℕ → ℕ) (old : Option Record) (op : Record) → op.c < 3
    → add_step_of apply old op ≡ map_step_of old op
step_of_others apply old op h =
    same_choice (op.c == 0) (op.c == 1) (op.c == 3) _ _ _ _ (no_three op.c h)
