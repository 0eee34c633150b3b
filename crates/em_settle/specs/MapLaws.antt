-- The laws of a map's operations.
use Rattle.std.specs.Prelude.{Bool, true, false, cond, ℕ, ◌≡◌, ◌<◌, ◌==◌, Option, Some, IfSome}
use Rattle.std.proofs.Common.{ap, subst, refl, rules}
use Rattle.std.specs.Ordering.{nat_cmp, ordering_then}
use Rattle.std.specs.declared.cmp.Ordering.TheVariants.{Less}
use Rattle.std.proofs.lemmas.Cmp.{nat_cmp_total, tied_itself}
use Rattle.em_record.specs.declared.record.Record.{Record}
use Rattle.em_record.specs.Order.{is_below}
use Rattle.em_settle.specs.Orders.{first_alone, below_trans}
use Rattle.em_settle.specs.declared.step.Step.{Step}
use Rattle.em_settle.specs.Map.{map_key_of, map_record, map_step_of, IsMapOp, IsMapKept}

-- records in order have keys in order
pub in_order : (x y : Record) → is_below y x ≡ false
    → is_below (map_key_of y) (map_key_of x) ≡ false
in_order x y e = first_alone (nat_cmp y.a x.a)
    (ordering_then (nat_cmp y.b x.b) (ordering_then (nat_cmp y.c x.c) (nat_cmp y.d x.d))) e

-- what holds of each of three steps holds of the one that is chosen
pub choose : (P : Step → Type 0) (p q : Bool) (a b c : Step) → P a → P b → P c
    → P (cond p a (cond q b c))
choose P true q a b c x y z = x
choose P false true a b c x y z = y
choose P false false a b c x y z = z

-- what an operation leaves may be stored
pub keeps : (old : Option Record) (op new : Record) → IfSome old IsMapKept → IsMapOp op
    → (map_step_of old op).stored ≡ Some new → IsMapKept new
keeps old op new kept is_op =
    choose (λ s. s.stored ≡ Some new → IsMapKept new) (op.c == 0) (op.c == 1) _ _ _
    (λ e. search (rules, e))
    (λ e. cc)
    (λ e. rw e at kept)

-- it has the operation's key
pub keeps_key : (old : Option Record) (op new : Record)
    → IfSome old (λ r. map_key_of r ≡ map_key_of op) → (map_step_of old op).stored ≡ Some new
    → map_key_of new ≡ map_key_of op
keeps_key old op new kept =
    choose (λ s. s.stored ≡ Some new → map_key_of new ≡ map_key_of op) (op.c == 0) (op.c == 1) _ _ _
    (λ e. cc)
    (λ e. cc)
    (λ e. rw e at kept)

-- zero is below every number from 1 on
less : (n : ℕ) → 0 < n → nat_cmp 0 n ≡ Less
less n h = search rules

-- the record of a put is below every operation of its key
pub put_below : (op : Record) (v : ℕ) (later : Record) → 0 < later.b → later.a ≡ op.a
    → is_below (map_record op.a v) later ≡ true
put_below op v later h e = rw (e, tied_itself nat_cmp_total op.a, less later.b h) refl

-- it is below every later operation of its key
pub stays_below : (old : Option Record) (op new later : Record)
    → IfSome old (λ r. is_below r op ≡ true) → IsMapOp op → IsMapOp later
    → map_key_of later ≡ map_key_of op → is_below op later ≡ true
    → (map_step_of old op).stored ≡ Some new → is_below new later ≡ true
stays_below old op new later below is_op is_later same after =
    choose (λ s. s.stored ≡ Some new → is_below new later ≡ true) (op.c == 0) (op.c == 1) _ _ _
    (λ e. let P : Option Record → Type 0 = λ o. IfSome o (λ r. is_below r later ≡ true) in
    subst P e (put_below op op.d later is_later.0 (ap (λ (r : Record). r.a) same)))
    (λ e. cc)
    (λ e. below_trans new op later (rw e at below) after)
