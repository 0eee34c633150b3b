-- Readers of one slot, one after another.
use Rattle.std.proofs.Common.{◌≡◌, ◌∙◌, ap, ℕ, Bool, refl, subst, length, drop, arith}
use Rattle.em_io.specs.Shelf.{Stand, Leaves}
use Rattle.em_io.specs.Feed.{Fed, rest}
use Rattle.std.proofs.lemmas.List.{length-drop}
use Rattle.em_io.proofs.Takes.{leaves-nothing, leaves-then}
use Rattle.em_lines.specs.Reads.{Reads}

-- two readers in turn are a reader
pub reads_then : (t : Bool) (f g h : Fed) (a b c : Stand) → Reads t f a g b → Reads t g b h c
    → Reads t f a h c
reads_then t f g h a b c p q =
    let leaves : Leaves f.slot b c = subst (λ s. Leaves s b c) p.slot q.leaves in
    record {
      slot = q.slot ∙ p.slot;
      leaves = leaves-then p.leaves leaves;
      opened = subst (λ s. (c.slot s).opened ≡ (b.slot s).opened) p.slot q.opened ∙ p.opened;
      ready = subst (λ s. (c.slot s).ready ≡ (b.slot s).ready) p.slot q.ready ∙ p.ready;
      shorter = λ told. omega (arith, p.shorter told, q.shorter told);
      lost = λ told.
          subst (λ s. (c.slot s).lost ≡ (b.slot s).lost) p.slot (q.lost told) ∙ p.lost told;
    }

-- a reader that takes one byte more is a reader
pub reads_take : (t : Bool) (f g h : Fed) (a b : Stand) → Reads t f a g b → h.slot ≡ g.slot
    → ((s : Stand) → rest h s ≡ drop 1 (rest g s)) → Reads t f a h b
reads_take t f g h a b p e r = record {
  slot = e ∙ p.slot;
  leaves = p.leaves;
  opened = p.opened;
  ready = p.ready;
  shorter = λ told. omega (arith, p.shorter told, ap length (r b), length-drop 1 (rest g b));
  lost = p.lost;
}

-- a reader that takes some of the bytes that are left
pub reads_skip : (t : Bool) (f g : Fed) (a : Stand) (n : ℕ) → g.slot ≡ f.slot
    → ((s : Stand) → rest g s ≡ drop n (rest f s)) → Reads t f a g a
reads_skip t f g a n e r = record {
  slot = e;
  leaves = leaves-nothing f.slot a;
  opened = refl;
  ready = refl;
  shorter = λ told. omega (arith, ap length (r a), length-drop n (rest f a));
  lost = λ told. refl;
}
