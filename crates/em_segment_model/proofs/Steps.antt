-- One step of the loop that finds a multislab.
use Rattle.std.proofs.Common.{◌≡◌, ℕ, ◌+◌, ◌<◌, ◌≤◌, true, false, List, [], ◌∷◌, ◌++◌, length, map, take, get_or, refl, sym, ap, ◌∙◌, arith, ⊎_elim}
use Rattle.std.proofs.lemmas.Bool.{cases_lt}
use Rattle.std.proofs.lemmas.List.{take_more, map-append}
use Rattle.em_model.specs.Stab.{NumberedInterval}
use Rattle.em_segment_model.specs.Spans.{strip_at}
use Rattle.em_segment_model.specs.Pieces.{spans}
use Rattle.em_segment_model.specs.Slabs.{slab_first, slab_width}
use Rattle.em_segment_model.specs.declared.strip.Span.{Span}
use Rattle.em_segment_model.proofs.Slabs.{width-push, first-push, first-stays}

-- what the loop carries
pub record SlabSoFar (strips : List Span) (k : ℕ) (i : NumberedInterval) (first width : ℕ) : Type 0 where
  pub first_is : first ≡ slab_first (map strip_at (take k strips)) i
  pub width_is : width ≡ slab_width (map strip_at (take k strips)) i
  pub first_most : first ≤ k
  pub width_most : width ≤ k

taken : (strips : List Span) (k : ℕ) (d : Span) → k < length strips
    → map strip_at (take (k + 1) strips) ≡ map strip_at (take k strips) ++ strip_at (get_or strips k d) ∷ []
taken strips k d h =
    ap (map strip_at) (take_more strips k d h) ∙ map-append strip_at (take k strips) (get_or strips k d ∷ [])

pub slab_held : (strips : List Span) (k : ℕ) (d : Span) (i : NumberedInterval) (first width : ℕ) → k < length strips
    → SlabSoFar strips k i first width → spans (strip_at (get_or strips k d)) i ≡ true
    → SlabSoFar strips (k + 1) i first (width + 1)
slab_held strips k d i first width h s t =
    let zs = map strip_at (take k strips) in
    let e = taken strips k d h in
    let w = width-push (map strip_at (take k strips)) (strip_at (get_or strips k d)) i in
    let wt : slab_width (map strip_at (take k strips) ++ strip_at (get_or strips k d) ∷ []) i
    ≡ slab_width (map strip_at (take k strips)) i + 1 = w ∙ rw t refl in
    let f : slab_first (map strip_at (take k strips) ++ strip_at (get_or strips k d) ∷ []) i
    ≡ slab_first (map strip_at (take k strips)) i = ⊎_elim
    (λ (some : 0 < slab_width (map strip_at (take k strips)) i).
    first-stays (map strip_at (take k strips)) (strip_at (get_or strips k d)) i some)
    (λ (none : slab_width (map strip_at (take k strips)) i ≤ 0).
    let p = first-push (map strip_at (take k strips)) (strip_at (get_or strips k d)) i (omega (arith, none)) in
    p ∙ rw t (omega arith))
    (cases_lt 0 (slab_width (map strip_at (take k strips)) i)) in
    record {
      first_is = s.first_is ∙ sym f ∙ ap (λ ys. slab_first ys i) (sym e);
      width_is = ap (λ n. n + 1) s.width_is ∙ sym wt ∙ ap (λ ys. slab_width ys i) (sym e);
      first_most = omega (arith, s.first_most);
      width_most = omega (arith, s.width_most);
    }

pub slab_before : (strips : List Span) (k : ℕ) (d : Span) (i : NumberedInterval) (first width : ℕ) → k < length strips
    → SlabSoFar strips k i first width → spans (strip_at (get_or strips k d)) i ≡ false → width ≡ 0
    → SlabSoFar strips (k + 1) i (first + 1) width
slab_before strips k d i first width h s t z =
    let e = taken strips k d h in
    let w = width-push (map strip_at (take k strips)) (strip_at (get_or strips k d)) i in
    let wt : slab_width (map strip_at (take k strips) ++ strip_at (get_or strips k d) ∷ []) i
    ≡ slab_width (map strip_at (take k strips)) i = w ∙ rw t (omega arith) in
    let p = first-push (map strip_at (take k strips)) (strip_at (get_or strips k d)) i (sym s.width_is ∙ z) in
    let f : slab_first (map strip_at (take k strips) ++ strip_at (get_or strips k d) ∷ []) i
    ≡ slab_first (map strip_at (take k strips)) i + 1 = p ∙ rw t refl in
    record {
      first_is = ap (λ n. n + 1) s.first_is ∙ sym f ∙ ap (λ ys. slab_first ys i) (sym e);
      width_is = s.width_is ∙ sym wt ∙ ap (λ ys. slab_width ys i) (sym e);
      first_most = omega (arith, s.first_most);
      width_most = omega (arith, s.width_most);
    }

pub slab_after : (strips : List Span) (k : ℕ) (d : Span) (i : NumberedInterval) (first width : ℕ) → k < length strips
    → SlabSoFar strips k i first width → spans (strip_at (get_or strips k d)) i ≡ false → 0 < width
    → SlabSoFar strips (k + 1) i first width
slab_after strips k d i first width h s t z =
    let e = taken strips k d h in
    let w = width-push (map strip_at (take k strips)) (strip_at (get_or strips k d)) i in
    let wt : slab_width (map strip_at (take k strips) ++ strip_at (get_or strips k d) ∷ []) i
    ≡ slab_width (map strip_at (take k strips)) i = w ∙ rw t (omega arith) in
    let f = first-stays (map strip_at (take k strips)) (strip_at (get_or strips k d)) i (omega (arith, z, s.width_is)) in
    record {
      first_is = s.first_is ∙ sym f ∙ ap (λ ys. slab_first ys i) (sym e);
      width_is = s.width_is ∙ sym wt ∙ ap (λ ys. slab_width ys i) (sym e);
      first_most = omega (arith, s.first_most);
      width_most = omega (arith, s.width_most);
    }
