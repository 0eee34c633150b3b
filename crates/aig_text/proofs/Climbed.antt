-- Records whose variables rise, as they are written.
use Rattle.std.proofs.Common.{◌≡◌, ◌≤◌, ◌<◌, ℕ, ◌+◌, ◌-◌, ◌/◌, ◌==◌, Bool, true, false, ◌&&◌, nat_lt, map, List, [], ◌∷◌, ◌++◌, refl, subst, arith}
use Rattle.std.proofs.lemmas.Bool.{eqb-true, ltb-true}
use Rattle.em_record.specs.declared.record.Record.{Record}
use Rattle.aig_defs.specs.Sorted.{AllAbove, Climbs}
use Rattle.aig_defs.specs.Straight.{AllRise, AreStraight, CountsUp}
use Rattle.aig_text.specs.Climbing.{at_foot, after_record, after_records, above_operands, all_above_operands}
use Rattle.aig_text.specs.declared.climb.Climb.{Climb}

-- Records were written, and then more of them.
pub past_append : (k : Climb) (xs ys : List Record)
    → after_records k (xs ++ ys) ≡ after_records (after_records k xs) ys
past_append k [] ys = refl
past_append k (x ∷ xs) ys = past_append (after_record k x) xs ys

pub rises_append : (b : Bool) (xs ys : List Record)
    → all_above_operands b (xs ++ ys) ≡ all_above_operands (all_above_operands b xs) ys
rises_append b [] ys = refl
rises_append b (x ∷ xs) ys = rises_append (above_operands b x) xs ys

first_of : (a b : Bool) → (a && b) ≡ true → a ≡ true
first_of true b e = refl
first_of false b e = cc

second_of : (a b : Bool) → (a && b) ≡ true → b ≡ true
second_of true b e = e
second_of false b e = cc

above_lower : (n m : ℕ) (xs : List Record) → n ≤ m → AllAbove m xs → AllAbove n xs
above_lower n m [] l h = tt
above_lower n m (x ∷ xs) l h =
    let f = h.0 in (omega (arith, l, f), above_lower n m xs l h.1)

-- All variables rose until some record, and those after it are above that one and rise.
pub record HasClimbed (k : Climb) (rs : List Record) : Type 0 where
  pub before : k.climbs ≡ true
  pub above : AllAbove k.last rs
  pub all : Climbs rs

pub has_climbed : (k : Climb) (rs : List Record) → (after_records k rs).climbs ≡ true → HasClimbed k rs
has_climbed k [] e = record { before = e; above = tt; all = tt }
has_climbed k (r ∷ rs) e =
    let h = has_climbed (after_record k r) rs e in
    let b = h.before in
    let low : k.last < r.a = ltb-true k.last r.a (second_of k.climbs (nat_lt k.last r.a) b) in
    record {
      before = first_of k.climbs (nat_lt k.last r.a) b;
      above = (low, above_lower k.last r.a rs (omega (arith, low)) h.above);
      all = (h.above, h.all);
    }

-- All variables were those that follow each other until some record, and so are those after it.
record HasCounted (k : Climb) (rs : List Record) : Type 0 where
  before : k.counts ≡ true
  after : CountsUp k.last (map (λ (r : Record). r.a) rs)

has_counted : (k : Climb) (rs : List Record) → (after_records k rs).counts ≡ true → HasCounted k rs
has_counted k [] e = record { before = e; after = tt }
has_counted k (r ∷ rs) e =
    let h = has_counted (after_record k r) rs e in
    let step = second_of k.counts (nat_lt k.last r.a && (r.a - k.last == 1)) h.before in
    let low = ltb-true k.last r.a (first_of (nat_lt k.last r.a) (r.a - k.last == 1) step) in
    let one = eqb-true (r.a - k.last) 1 (second_of (nat_lt k.last r.a) (r.a - k.last == 1) step) in
    let next : r.a ≡ k.last + 1 = omega (arith, low, one) in
    record {
      before = first_of k.counts (nat_lt k.last r.a && (r.a - k.last == 1)) h.before;
      after = (
        next,
        subst (λ (n : ℕ). CountsUp n (map (λ (z : Record). z.a) rs)) next h.after,
      );
    }

record HasRisen (b : Bool) (gs : List Record) : Type 0 where
  before : b ≡ true
  after : AllRise gs

has_risen : (b : Bool) (gs : List Record) → all_above_operands b gs ≡ true → HasRisen b gs
has_risen b [] e = record { before = e; after = tt }
has_risen b (g ∷ gs) e =
    let h = has_risen (above_operands b g) gs e in
    let first = nat_lt (g.b / 2) g.a in
    let second = nat_lt (g.c / 2) g.a in
    let step = second_of b (first && second) h.before in
    record {
      before = first_of b (first && second) h.before;
      after = (
        (
          ltb-true (g.b / 2) g.a (first_of first second step),
          ltb-true (g.c / 2) g.a (second_of first second step),
        ),
        h.after,
      );
    }

-- Definitions that count up, and gates that rise.
pub are_straight : (defs gates : List Record)
    → ((after_records at_foot defs).counts && all_above_operands true gates) ≡ true → AreStraight defs gates
are_straight defs gates e = record {
  counts = (has_counted at_foot defs
      (first_of (after_records at_foot defs).counts (all_above_operands true gates) e)).after;
  rises = (has_risen true gates
      (second_of (after_records at_foot defs).counts (all_above_operands true gates) e)).after;
}
