-- Readers of one text, one after another.
use Rattle.std.proofs.Common.{◌≡◌, ◌+◌, ◌<◌, Bool, List, [], ◌∷◌, ◌++◌, ℕ, sym, ap, ◌∙◌, refl, subst, arith, length, drop, get_or}
use Rattle.std.proofs.lemmas.List.{length-append}
use Rattle.em_io.specs.Shelf.{Stand, Leaves}
use Rattle.em_io.specs.Feed.{Fed, Takes}
use Rattle.em_io.proofs.Takes.{leaves-nothing, leaves-then, takes-one}
use Rattle.aig_text.specs.Reads.{Advances}
use Rattle.aig_text.specs.Source.{Source, Steady, left}

-- nothing was read yet
pub steady_none : (tells : Bool) (s : Source) → Steady tells s s
steady_none tells s = record {
  slot = refl;
  leaves = leaves-nothing s.feed.slot s.stand;
  opened = refl;
  ready = refl;
  lost = λ t. refl;
  forward = omega arith;
  whole = λ t. refl;
}

-- these bytes were taken
pub steady_takes : {tells : Bool} {xs : List ℕ} {s t : Source}
    → Takes tells xs s.feed s.stand t.feed t.stand → Steady tells s t
steady_takes {tells} {xs} {s} {t} p = record {
  slot = p.slot;
  leaves = p.leaves;
  opened = p.opened;
  ready = p.ready;
  lost = p.lost;
  forward = omega (arith, p.place);
  whole = λ z. omega (arith, p.place, ap length (p.left z), length-append xs (left t));
}

-- one reader after another
pub steady_then : {tells : Bool} {r s t : Source} → Steady tells r s → Steady tells s t
    → Steady tells r t
steady_then {tells} {r} {s} {t} p q =
    let a = r.feed.slot in
    let leaves : Leaves a s.stand t.stand = subst (λ k. Leaves k s.stand t.stand) p.slot q.leaves in
    record {
      slot = q.slot ∙ p.slot;
      leaves = leaves-then p.leaves leaves;
      opened = subst (λ k. (t.stand.slot k).opened ≡ (s.stand.slot k).opened) p.slot q.opened
          ∙ p.opened;
      ready = subst (λ k. (t.stand.slot k).ready ≡ (s.stand.slot k).ready) p.slot q.ready ∙ p.ready;
      lost = λ z. subst (λ k. (t.stand.slot k).lost ≡ (s.stand.slot k).lost) p.slot (q.lost z)
          ∙ p.lost z;
      forward = omega (arith, p.forward, q.forward);
      whole = λ z. p.whole z ∙ q.whole z;
    }

first_of : (xs : List ℕ) → 0 < length xs → xs ≡ get_or xs 0 0 ∷ drop 1 xs
first_of [] h = absurd (omega arith)
first_of (x ∷ xs) h = refl

-- the byte ahead was taken
pub steady_byte : (tells : Bool) (f g : Fed) (stand : Stand) (faults : ℕ) → g.slot ≡ f.slot
    → g.ahead ≡ drop 1 f.ahead → 0 < length f.ahead → g.place ≡ f.place + 1
    → Steady tells (record { feed = f; stand = stand; faults = faults })
    (record { feed = g; stand = stand; faults = faults })
steady_byte tells f g stand faults slot ahead some place =
    steady_takes (takes-one tells stand _
    (first_of f.ahead some ∙ ap (λ z. get_or f.ahead 0 0 ∷ z) (sym ahead)) slot place)

-- what is left after that byte
pub drop_append_one : (xs ys : List ℕ) → 0 < length xs → drop 1 (xs ++ ys) ≡ drop 1 xs ++ ys
drop_append_one [] ys h = absurd (omega arith)
drop_append_one (x ∷ xs) ys h = refl

-- The text was read on, and then again.
pub advances_then : {tells : Bool} {r s t : Source} → Advances tells r s → Advances tells s t
    → Advances tells r t
advances_then a b = record {
  steady = steady_then a.steady b.steady;
  place = b.place;
  later = omega (arith, a.later, b.later);
}

pub ruleset steadies = (steady_none, steady_takes, steady_byte, steady_then, drop_append_one)
