-- The laws of a bag's operations.
use Rattle.std.specs.Prelude.{◌≡◌, true, false, Option, Some, IfSome, ⊤}
use Rattle.std.proofs.Common.{subst, refl}
use Rattle.std.specs.Ordering.{nat_cmp, ordering_then}
use Rattle.em_record.specs.declared.record.Record.{Record}
use Rattle.em_record.specs.Order.{is_below}
use Rattle.em_settle.specs.Orders.{first_two}
use Rattle.em_settle.specs.Bag.{bag_key_of, bag_step_of}

-- records in order have keys in order
pub in_order : (x y : Record) → is_below y x ≡ false
    → is_below (bag_key_of y) (bag_key_of x) ≡ false
in_order x y e = first_two (nat_cmp y.a x.a) (nat_cmp y.b x.b)
    (ordering_then (nat_cmp y.c x.c) (nat_cmp y.d x.d)) e

-- what is said of the operation is said of what it leaves
itself : (P : Record → Type 0) (op new : Record) → Some op ≡ Some new → P op → P new
itself P op new e p = let Q : Option Record → Type 0 = λ o. IfSome o P in subst Q e p

-- what an operation leaves may be stored
pub keeps : (old : Option Record) (op new : Record) → IfSome old (λ _. ⊤) → ⊤
    → (bag_step_of old op).stored ≡ Some new → ⊤
keeps old op new kept is_op e = tt

-- it has the operation's key
pub keeps_key : (old : Option Record) (op new : Record)
    → IfSome old (λ r. bag_key_of r ≡ bag_key_of op) → (bag_step_of old op).stored ≡ Some new
    → bag_key_of new ≡ bag_key_of op
keeps_key old op new same e = itself (λ r. bag_key_of r ≡ bag_key_of op) op new e refl

-- it is below every later operation of its key
pub stays_below : (old : Option Record) (op new later : Record)
    → IfSome old (λ r. is_below r op ≡ true) → ⊤ → ⊤
    → bag_key_of later ≡ bag_key_of op → is_below op later ≡ true
    → (bag_step_of old op).stored ≡ Some new → is_below new later ≡ true
stays_below old op new later below is_op is_later same after e =
    itself (λ r. is_below r later ≡ true) op new e after
