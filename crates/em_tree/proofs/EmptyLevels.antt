-- The buffers of a level are empty up to a key: at the start, and after a search.
use Rattle.std.proofs.Common.{◌≡◌, ◌⊎◌, true, false, ℕ, suc, ◌+◌, ◌<◌, ◌≤◌, List, [], ◌∷◌, length, refl, sym, ◌∙◌, subst, arith, inl, inr, ⊎_elim, IsTrue}
use Rattle.std.specs.Prelude.{Option, Some, None}
use Rattle.std.proofs.lemmas.Bool.{cases_Bool, cases_lt, false≢true}
use Rattle.em_record.specs.Order.{is_below}
use Rattle.em_record.specs.declared.record.Record.{Record}
use Rattle.em_space.specs.Rig.{RigState}
use Rattle.em_tree_model.specs.Ranges.{InRange, Under, least_record}
use Rattle.em_tree_model.specs.Tree.{Tree}
use Rattle.em_tree_model.proofs.Ranges.{to_below}
use Rattle.em_tree_walk.specs.declared.searching.Range.{Range}
use Rattle.em_trunk.specs.Buffers.{ClearOver, NoneFrom, OnlyFull}
use Rattle.em_tree_buffers.specs.Emptying.{AreThinUnder, CanSettleLevel, SettlesLevel}
use Rattle.em_trunk.specs.Entries.{EachEntry}
use Rattle.em_tree_buffers.specs.Findings.{FoundNext, FoundSpot, ThinBetween}
use Rattle.em_tree.specs.Levels.{EmptyUpTo, FullBefore, WaitsFrom}
use Rattle.em_trunk.specs.Trunk.{IsStanding, root_of}
use Rattle.em_trunk.specs.declared.trunk.Trunk.{Trunk}
use Rattle.em_trunk.proofs.Beginnings.{least_below}
use Rattle.em_trunk.proofs.Buffers.{is_empty}
use Rattle.em_trunk.proofs.Entries.{each_both, each_map}
use Rattle.em_trunk.proofs.Faces.{under_less}
use Rattle.em_tree_buffers.proofs.Sits.{sits_each, spot_sits}
use Rattle.em_trunk.proofs.StartCounts.{each_own}
use Rattle.em_trunk.specs.Spots.{EachRead, HasSpot, spot_high, spot_low}

-- a buffer with an operation isn't empty
pub some_waits : (b : List Record) → 1 ≤ length b → b ≡ [] → ⊥
some_waits [] h e = absurd (omega (arith, h))
some_waits (x ∷ xs) h e = cc

-- a key that isn't below another one
pub not_below : (q k : Record) → (is_below q k ≡ true → ⊥) → is_below q k ≡ false
not_below q k h = ⊎_elim (λ (t : is_below q k ≡ true). absurd (h t))
    (λ (f : is_below q k ≡ false). f)
    (cases_Bool (is_below q k))

-- a key no later than one under the end of a range
pub under_from : (hi : Option Record) (k from : Record) → Under hi k → is_below k from ≡ false → Under hi from
under_from None k from u h = tt
under_from (Some top) k from u h = to_below from k top h u

-- a key is under the end of a range, or it isn't
under_or : (hi : Option Record) (k : Record) → Under hi k ⊎ (Under hi k → ⊥)
under_or None k = inl tt
under_or (Some top) k = ⊎_elim (λ (t : is_below k top ≡ true). inl t)
    (λ (f : is_below k top ≡ false). inr (λ (u : is_below k top ≡ true). false≢true (sym f ∙ u)))
    (cases_Bool (is_below k top))

-- what waits isn't over a level
low_waits : (at l : ℕ) (b : List Record) → (at + 1 ≤ l → b ≡ []) → 1 ≤ length b → l ≤ at
low_waits at l b none some = ⊎_elim
    (λ (over : at < l). absurd (some_waits b some (none (omega (arith, over)))))
    (λ (low : l ≤ at). low)
    (cases_lt at l)

-- Nothing was emptied yet.
pub empty_none : (limit at : ℕ) (s : RigState) (v : Trunk) → CanSettleLevel limit at s v
    → EmptyUpTo limit at (Some least_record) least_record s v
empty_none limit at s v can = record {
  waits = each_map (NoneFrom (at + 1)) (OnlyFull 1 (WaitsFrom at (Some least_record)))
      (λ l k top b none some. (
        low_waits at l b none some,
        λ e u. false≢true (sym (least_below k) ∙ u),
      )) v.level least_record None (root_of s v) can.above;
  full = each_map (λ l k top b. l < at → length b < limit)
      (OnlyFull limit (FullBefore at (Some least_record)))
      (λ l k top b thin full low. absurd (let t = thin low in omega (arith, t, full))) v.level least_record
      None (root_of s v) can.below;
  later = λ q h. least_below q;
}

-- The tree that is read stays.
pub empty_still : (limit at : ℕ) (upto : Option Record) (from : Record) (s t : RigState) (v : Trunk)
    (k : ℕ) → root_of t v ≡ root_of s v → EmptyUpTo limit at upto from s v
    → EmptyUpTo limit at upto from t (record v { steps = k })
empty_still limit at upto from s t v k same e =
    let R : (P : ℕ → Record → Option Record → List Record → Type 0)
    → EachRead P s v → EachEntry P v.level least_record None (root_of t v) = λ P h.
    (let E : Tree → Type 0 = EachEntry P v.level least_record None in subst E (sym same) h) in
    record {
      waits = R (OnlyFull 1 (WaitsFrom at upto)) e.waits;
      full = R (OnlyFull limit (FullBefore at upto)) e.full;
      later = e.later;
    }

module _ (key : Record → Record) (IsOp IsKept : Record → Type 0) (limit l : ℕ)
    (upto : Option Record) (from : Record) (s : RigState) (v : Trunk)
    (st : IsStanding key IsOp IsKept s v) (so_far : EmptyUpTo limit (suc l) upto from s v) where
  -- If a search found none up to a key, what waits begins there or later.
  pub waits_later : (mid : Option Record) → EachRead (ThinBetween 1 (suc l) from mid) s v
      → EachRead (OnlyFull 1 (WaitsFrom (suc l) mid)) s v
  waits_later mid thin =
      let Own : ℕ → Record → Option Record → List Record → Type 0 = λ n k top b. InRange k top k in
      let Thin : ℕ → Record → Option Record → List Record → Type 0 = ThinBetween 1 (suc l) from mid in
      let Waits : ℕ → Record → Option Record → List Record → Type 0 =
      OnlyFull 1 (WaitsFrom (suc l) upto) in
      each_map (λ n k top b. (Own n k top b × Thin n k top b) × Waits n k top b)
      (OnlyFull 1 (WaitsFrom (suc l) mid))
      (λ n k top b g some.
      (let w = g.1 some in (
        w.0,
        λ e u.
            let late = so_far.later k (w.1 e) in
            let few = g.0.1 e (under_from top k from g.0.0.high late) u in
            absurd (omega (arith, few, some)),
      )))
      v.level least_record None (root_of s v)
      (each_both (λ n k top b. Own n k top b × Thin n k top b) Waits v.level least_record None (root_of s v)
      (each_both Own Thin v.level least_record None (root_of s v)
      (each_own key v.level least_record None (root_of s v) st.is.2 tt) thin) so_far.waits)

  -- The search found nothing: the level is empty.
  pub empty_all : EachRead (ThinBetween 1 (suc l) from None) s v → SettlesLevel limit (suc l) s v
  empty_all thin = record {
    above = each_map (OnlyFull 1 (WaitsFrom (suc l) None)) (NoneFrom (suc l))
        (λ n k top b h high. is_empty b (⊎_elim
        (λ (few : length b < 1). few)
        (λ (some : 1 ≤ length b). (let w = h some in
        absurd (w.1 (let low = w.0 in omega (arith, low, high)) tt)))
        (cases_lt (length b) 1)))
        v.level least_record None (root_of s v) (waits_later None thin);
    below = each_map (OnlyFull limit (FullBefore (suc l) upto)) (λ n k top b. n + 1 < suc l → length b < limit)
        (λ n k top b h low. ⊎_elim
        (λ (few : length b < limit). few)
        (λ (full : limit ≤ length b).
        (let w = h full (omega (arith, low)) in let e = w.0 in absurd (omega (arith, e, low))))
        (cases_lt (length b) limit))
        v.level least_record None (root_of s v) so_far.full;
  }

  -- It goes on at the next node.
  pub empty_on : (until : Option Record) (low : Record)
      → FoundNext 1 l (record { from = from; until = until }) low s v
      → (after : Option Record) × EmptyUpTo limit (suc l) after low s v
  empty_on until low found = ⊎_elim
      (λ (u : Under upto low). (
        upto,
        record {
          waits = so_far.waits;
          full = so_far.full;
          later = λ q h. not_below q low (λ t. h (under_less upto low q u t));
        },
      ))
      (λ (late : Under upto low → ⊥). (
        Some low,
        record {
          waits = waits_later (Some low) found.thin;
          full = each_map (OnlyFull limit (FullBefore (suc l) upto))
              (OnlyFull limit (FullBefore (suc l) (Some low)))
              (λ n k top b h full less. (let w = h full less in (
                w.0,
                ⊎_elim
                    (λ (t : is_below k low ≡ true). t)
                    (λ (f : is_below k low ≡ false). absurd (late (under_from upto k low w.1 f)))
                    (cases_Bool (is_below k low)),
              )))
              v.level least_record None (root_of s v) so_far.full;
          later = λ q h. not_below q low h;
        },
      ))
      (under_or upto low)

  module _ (node at : ℕ) (until : Option Record) (inner : Range) (spot : HasSpot l node at s v)
      (told : IsTrue s.device.told)
      (found : FoundSpot 1 l at (record { from = from; until = until }) inner s v spot.path) where
    -- The entry that was found begins at the key or later,
    pub spot_late : Under upto (spot_low at s v spot.path) → ⊥
    spot_late = (sits_each key (spot_sits spot.path (spot.told told)) st.is.2
        (OnlyFull 1 (WaitsFrom (suc l) upto)) so_far.waits found.full).1 refl

    -- and all that waits in the level begins no earlier.
    pub spot_waits : EachRead (OnlyFull 1 (WaitsFrom (suc l) (Some (spot_low at s v spot.path)))) s v
    spot_waits = waits_later (Some (spot_low at s v spot.path)) found.thin

    pub spot_later : (q : Record) → (Under (Some (spot_low at s v spot.path)) q → ⊥)
        → is_below q inner.from ≡ false
    spot_later q h =
        let low = spot_low at s v spot.path in
        let late = not_below q low h in
        let F : Record → Type 0 = λ k. is_below q k ≡ false in ⊎_elim
        (λ (same : inner.from ≡ from). subst F (sym same)
        (so_far.later q (λ u. spot_late (under_from upto q low u late))))
        (λ (own : inner.from ≡ low). subst F (sym own) late)
        found.from_is

    -- Below it no buffer is full,
    pub spot_thin : AreThinUnder limit (suc l) (spot_low at s v spot.path) (spot_high at s v spot.path) s v
    spot_thin = each_map (OnlyFull limit (FullBefore (suc l) upto))
        (λ n k top b. n < suc l → InRange (spot_low at s v spot.path) (spot_high at s v spot.path) k
        → length b < limit)
        (λ n k top b h less x. ⊎_elim
        (λ (few : length b < limit). few)
        (λ (full : limit ≤ length b). (let w = h full less in
        absurd (spot_late (under_from upto k (spot_low at s v spot.path) w.1 x.low))))
        (cases_lt (length b) limit))
        v.level least_record None (root_of s v) so_far.full

    -- and nothing waits over it.
    pub spot_clear : EachRead (ClearOver (suc l) (spot_low at s v spot.path) (spot_high at s v spot.path)) s v
    spot_clear = each_map (OnlyFull 1 (WaitsFrom (suc l) upto))
        (ClearOver (suc l) (spot_low at s v spot.path) (spot_high at s v spot.path))
        (λ n k top b h over q x y. is_empty b (⊎_elim
        (λ (few : length b < 1). few)
        (λ (some : 1 ≤ length b). (let w = h some in let low = w.0 in absurd (omega (arith, low, over))))
        (cases_lt (length b) 1)))
        v.level least_record None (root_of s v) so_far.waits
