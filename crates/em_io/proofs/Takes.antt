-- Bytes taken from a feed, in steps.
use Rattle.std.proofs.Common.{◌≡◌, ◌+◌, Bool, List, [], ◌∷◌, ◌++◌, ℕ, sym, ap, ◌∙◌, refl, subst, arith, append_assoc, Some, slice_get, drop}
use Rattle.std.proofs.lemmas.List.{length-append}
use Rattle.em_io.specs.declared.shelf.Slot.{Slot}
use Rattle.em_io.specs.Shelf.{Stand, Leaves}
use Rattle.em_io.specs.Feed.{Fed, rest, Takes}

pub leaves-nothing : (slot : Slot) (stand : Stand) → Leaves slot stand stand
leaves-nothing slot stand = record { text = refl; others = λ s ne. refl }

pub leaves-then : {slot : Slot} {a b c : Stand}
    → Leaves slot a b → Leaves slot b c → Leaves slot a c
leaves-then p q = record { text = q.text ∙ p.text; others = λ s ne. q.others s ne ∙ p.others s ne }

-- one take after another
pub takes-then : {tells : Bool} {xs ys : List ℕ} {f g h : Fed} {a b c : Stand}
    → Takes tells xs f a g b → Takes tells ys g b h c → Takes tells (xs ++ ys) f a h c
takes-then {tells} {xs} {ys} {f} {g} {h} {a} {b} {c} p q =
    let leaves : Leaves f.slot b c = subst (λ s. Leaves s b c) p.slot q.leaves in
    let opened : (c.slot f.slot).opened ≡ (b.slot f.slot).opened =
    subst (λ s. (c.slot s).opened ≡ (b.slot s).opened) p.slot q.opened in
    let ready : (c.slot f.slot).ready ≡ (b.slot f.slot).ready =
    subst (λ s. (c.slot s).ready ≡ (b.slot s).ready) p.slot q.ready in
    record {
      slot = q.slot ∙ p.slot;
      place = omega (arith, p.place, q.place, length-append xs ys);
      leaves = leaves-then p.leaves leaves;
      opened = opened ∙ p.opened;
      ready = ready ∙ p.ready;
      lost = λ t. subst (λ s. (c.slot s).lost ≡ (b.slot s).lost) p.slot (q.lost t) ∙ p.lost t;
      left = λ t. p.left t ∙ ap (λ z. xs ++ z) (q.left t) ∙ sym (append_assoc xs ys (rest h c));
    }

-- nothing was taken
pub takes-nothing : (tells : Bool) (feed : Fed) (stand : Stand)
    → Takes tells [] feed stand feed stand
takes-nothing tells feed stand = record {
  slot = refl;
  place = omega arith;
  leaves = leaves-nothing feed.slot stand;
  opened = refl;
  ready = refl;
  lost = λ t. refl;
  left = λ t. refl;
}

-- a byte that was ahead
pub takes-one : (tells : Bool) (stand : Stand) {f g : Fed} (byte : ℕ)
    → f.ahead ≡ byte ∷ g.ahead → g.slot ≡ f.slot → g.place ≡ f.place + 1
    → Takes tells (byte ∷ []) f stand g stand
takes-one tells stand {f} {g} byte ahead slot place = record {
  slot = slot;
  place = place;
  leaves = leaves-nothing f.slot stand;
  opened = refl;
  ready = refl;
  lost = λ t. refl;
  left = λ t. ap (λ z. z ++ (stand.slot f.slot).left) ahead
      ∙ ap (λ s. byte ∷ (g.ahead ++ (stand.slot s).left)) (sym slot);
}

-- the byte that a peek gave is ahead
pub byte-ahead : (xs : List ℕ) (byte : ℕ) → Some byte ≡ slice_get xs 0 → xs ≡ byte ∷ drop 1 xs
byte-ahead [] byte e = cc
byte-ahead (x ∷ xs) byte e = cc
