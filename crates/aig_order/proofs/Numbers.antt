-- The numbers of notes: those in the queue are below the number of the next record, so that its note can
-- be pushed.
use Rattle.std.proofs.Common.{◌<◌, ◌≤◌, Bool, true, false, cond, List, [], ◌∷◌, ℕ, zero, suc, arith, drop}
use Rattle.em_record.specs.declared.record.Record.{Record}
use Rattle.em_record.specs.Order.{is_below, with_record, Lacks}
use Rattle.aig_order.specs.SweepCalls.{AllBelow}

pub below_more : (k j : ℕ) (ms : List Record) → k ≤ j → AllBelow k ms → AllBelow j ms
below_more k j [] l a = tt
below_more k j (m ∷ ms) l a =
    (let low = a.0 in omega (arith, low, l), below_more k j ms l a.1)

below_with_by : (k : ℕ) (b : Bool) (x m : Record) (ms more : List Record) → x.b < k
    → AllBelow k (m ∷ ms) → AllBelow k more → AllBelow k (cond b (m ∷ more) (x ∷ m ∷ ms))
below_with_by k true x m ms more l a h = (a.0, h)
below_with_by k false x m ms more l a h = (l, a)

pub below_with : (k : ℕ) (x : Record) (ms : List Record) → x.b < k → AllBelow k ms
    → AllBelow k (with_record x ms)
below_with k x [] l a = (l, tt)
below_with k x (m ∷ ms) l a =
    below_with_by k (is_below m x) x m ms (with_record x ms) l a (below_with k x ms l a.1)

pub below_drop : (k n : ℕ) (ms : List Record) → AllBelow k ms → AllBelow k (drop n ms)
below_drop k zero ms a = a
below_drop k (suc n) [] a = tt
below_drop k (suc n) (m ∷ ms) a = below_drop k n ms a.1

-- A record with this number can be pushed.
pub below_lacks : (x : Record) (ms : List Record) → AllBelow x.b ms → Lacks x ms
below_lacks x [] a = tt
below_lacks x (m ∷ ms) a =
    (λ p q. (let low = a.0 in omega (arith, low, q)), below_lacks x ms a.1)
