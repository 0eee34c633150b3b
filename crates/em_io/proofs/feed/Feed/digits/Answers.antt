use Rattle.std.proofs.Common.{◌≡◌, ◌<◌, ◌∷◌, ◌∙◌, ap, subst, sym, arith}
use Rattle.em_io.specs.Look.{IsLook, IsNext}
use Rattle.em_io.proofs.Numbers.{number_begins, number_ends, number_looked, number_push, number_too_far, number_too_many}
use Rattle.em_io.proofs.feed.Feed.digits.Goals as goal

pub loop-byte-init : goal.loop-byte-init
loop-byte-init g c = record {
  number = number_begins g.H.Shelf.tells c.args.self.now (g.H.Shelf.stand c.args.shelf.now);
  place = c.requires.place;
  later = omega arith;
}

pub returns-in-TooFar-clause-is : goal.returns-in-TooFar-clause-is
returns-in-TooFar-clause-is g c told =
    number_too_far c.loop-byte.invariant.number told
    (sym c.in-TooFar.is ∙ c.in_ok-look.ensures.first told)

pub returns-in-Other-clause-is : goal.returns-in-Other-clause-is
returns-in-Other-clause-is g c told =
    number_ends c.loop-byte.invariant.number told (omega arith) c.loop-byte.invariant.place
    (sym c.in-Other.is ∙ c.in_ok-look.ensures.first told)

pub returns-in-Other-clause-taken : goal.returns-in-Other-clause-taken
returns-in-Other-clause-taken g c =
    (omega arith, number_looked c.loop-byte.invariant.number c.in_ok-look.ensures.takes)

pub returns-then-count-eq-MOST_DIGITS-clause-is : goal.returns-then-count-eq-MOST_DIGITS-clause-is
returns-then-count-eq-MOST_DIGITS-clause-is g c told =
    number_too_many c.loop-byte.invariant.number told c.if-count-eq-MOST_DIGITS.true
    (sym c.in-Digit.is ∙ c.in_ok-look.ensures.first told)

pub loop-byte-preserved : goal.loop-byte-preserved
loop-byte-preserved g c =
    let byte = c.in-Digit.byte in
    let next : IsNext c.look.new.self byte =
    subst (IsLook c.look.new.self) c.in-Digit.is c.in_ok-look.ensures.look in
    let looked = number_looked c.loop-byte.invariant.number c.in_ok-look.ensures.takes in
    let few : c.loop-byte.count < 20 = omega (arith, looked.most) in
    let ahead : c.look.new.self.ahead ≡ byte ∷ c.take.new.self.ahead =
    next.ahead ∙ ap (λ xs. byte ∷ xs) (sym c.take.ensures.ahead) in
    let took = c.take.ensures in
    record {
      number = number_push byte looked next.digit few ahead took.slot took.place;
      place = omega (arith, took.place, next.below);
      later = omega (arith, c.loop-byte.invariant.later, c.look.ensures.cause.later);
    }
