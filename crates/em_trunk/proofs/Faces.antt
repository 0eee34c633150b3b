-- Where the entries of a tree stand, seen from one of them: their ranges are nested or apart.
use Rattle.std.specs.Prelude.{◌≡◌, true, false, ℕ, ◌-◌, ◌<◌, ◌≤◌, List, Option, Some, None}
use Rattle.std.proofs.Common.{refl, arith, ⊎_elim}
use Rattle.std.proofs.lemmas.Bool.{cases_Bool}
use Rattle.em_record.specs.declared.record.Record.{Record}
use Rattle.em_record.specs.Order.{is_below}
use Rattle.em_settle.proofs.Keys.{below_itself}
use Rattle.em_tree_model.specs.Places.{Place, put_at}
use Rattle.em_tree_model.specs.Places.Place.{here, past, under}
use Rattle.em_tree_model.specs.Ranges.{InRange, IsTree, Under, low_of, next_low}
use Rattle.em_tree_model.specs.Tree.{Tree}
use Rattle.em_tree_model.specs.Tree.Tree.{entry}
use Rattle.em_tree_model.proofs.Events.{placed}
use Rattle.em_tree_model.proofs.Places.{has_put}
use Rattle.em_tree_model.proofs.Ranges.{below_not, from_above, low_less, under_wider, upto_next}
use Rattle.em_trunk.specs.Entries.{EachEntry, place_level}
use Rattle.em_trunk.proofs.Clear.{each_within, in_first, in_last, no_both, place_level_most, rest_apart, within_placed}
use Rattle.em_trunk.proofs.Entries.{each_both, each_level, each_map, under_first, under_low, under_placed}

-- An entry, seen from one of level n with these keys: its keys come before those, or none is below
-- their end, or they are around those, or among them.
pub data Faces (n : ℕ) (low : Record) (high : Option Record) : ℕ → Record → Option Record → Type 0
  where
    ahead : {l : ℕ} {k : Record} {top : Option Record}
        → ((q : Record) → InRange k top q → is_below q low ≡ true) → Faces n low high l k top
    beyond : {l : ℕ} {k : Record} {top : Option Record}
        → ((q : Record) → InRange k top q → Under high q → ⊥) → Faces n low high l k top
    around : {l : ℕ} {k : Record} {top : Option Record} → n < l
        → ((q : Record) → InRange low high q → InRange k top q) → Faces n low high l k top
    among : {l : ℕ} {k : Record} {top : Option Record} → l ≤ n → (l ≡ n → k ≡ low)
        → ((q : Record) → InRange k top q → InRange low high q) → Faces n low high l k top

-- a key below one that is under the end of a range is so, too
pub under_less : (hi : Option Record) (a q : Record) → Under hi a → is_below q a ≡ true → Under hi q
under_less None a q u h = tt
under_less (Some top) a q u h = from_above q a top h (below_not a top u)

-- a place's first key is in the range of the place
pub own_start : (key : Record → Record) (p : Place) (low : Record) (b : List Record) (c r : Tree)
    (lo : Record) (hi : Option Record) → (i : IsTree key (put_at p (entry low b c r)) lo hi)
    → Under hi lo
    → (let at = placed key p (entry low b c r) lo hi i in
    InRange at.low (next_low at.high r) at.low)
own_start key p low b c r lo hi i u =
    let t = entry low b c r in
    let at = placed key p t lo hi i in
    record {
      low = below_itself at.low;
      high = under_first at.low at.high r (under_placed key p t lo hi i u) at.is.3;
    }

-- How each entry of a tree stands to the one at a place.
pub faces_at : (key : Record → Record) (p : Place) (low : Record) (b : List Record) (c r : Tree)
    (level : ℕ) (lo : Record) (hi : Option Record) → 1 ≤ place_level p level
    → (i : IsTree key (put_at p (entry low b c r)) lo hi) → Under hi lo
    → (let at = placed key p (entry low b c r) lo hi i in
    EachEntry (λ l k top x. Faces (place_level p level) at.low (next_low at.high r) l k top) level
    lo hi (put_at p (entry low b c r)))
faces_at key here low b c r level lo hi some i u =
    let top = next_low hi r in
    let F : ℕ → Record → Option Record → List Record → Type 0 = λ l k z x. Faces level lo top l k z in
    let In : ℕ → Record → Option Record → List Record → Type 0 =
    λ l k z x. (q : Record) → InRange k z q → InRange lo top q in
    let Low : ℕ → Record → Option Record → List Record → Type 0 = λ l k z x. l ≤ level - 1 in
    let Off : ℕ → Record → Option Record → List Record → Type 0 =
    λ l k z x. (q : Record) → InRange lo top q → InRange k z q → ⊥ in
    let Later : ℕ → Record → Option Record → List Record → Type 0 =
    λ l k z x. (q : Record) → InRange k z q → InRange (low_of lo r) hi q in (
      among (omega arith) (λ e. refl) (λ q x. x),
      each_map (λ l k z x. Low l k z x × In l k z x) F
          (λ l k z x h. among (omega (arith, h.0)) (λ e. absurd (omega (arith, e, h.0, some))) h.1)
          (level - 1) lo top c (each_both Low In (level - 1) lo top c
          (each_level (level - 1) lo top c) (each_within key (level - 1) lo top c i.2)),
      each_map (λ l k z x. Off l k z x × Later l k z x) F
          (λ l k z x h. beyond (λ q y w. h.0 q (record {
            low = (in_last lo hi r q i.3 (h.1 q y)).low;
            high = w;
          }) y)) level (low_of lo r) hi r (each_both Off Later level (low_of lo r) hi r
          (rest_apart key level lo hi r i.4) (each_within key level (low_of lo r) hi r i.4)),
    )
faces_at key (under first b2 rest p) low b c r level lo hi some i u =
    let t = entry low b c r in
    let mid = next_low hi rest in
    let at = placed key p t lo mid i.2 in
    let top = next_low at.high r in
    let n = place_level p (level - 1) in
    let most = place_level_most p (level - 1) in
    let um = under_first lo hi rest u i.3 in
    let own = own_start key p low b c r lo mid i.2 um in
    let wider = λ (q : Record) (y : InRange at.low top q). within_placed key p t lo mid i.2 q
    (in_first at.low at.high r q at.is.3 y) in
    let start = wider at.low own in
    let F : ℕ → Record → Option Record → List Record → Type 0 = λ l k z x. Faces n at.low top l k z in
    let Off : ℕ → Record → Option Record → List Record → Type 0 =
    λ l k z x. (q : Record) → InRange lo mid q → InRange k z q → ⊥ in
    let Later : ℕ → Record → Option Record → List Record → Type 0 =
    λ l k z x. (q : Record) → InRange k z q → InRange (low_of lo rest) hi q in (
      around (omega (arith, most, some)) wider,
      faces_at key p low b c r (level - 1) lo mid some i.2 um,
      each_map (λ l k z x. Off l k z x × Later l k z x) F
          (λ l k z x h. beyond (λ q y w. ⊎_elim
          (λ (early : is_below q at.low ≡ true). h.0 q (record {
            low = (in_last lo hi rest q i.3 (h.1 q y)).low;
            high = under_less mid at.low q start.high early;
          }) y)
          (λ (late : is_below q at.low ≡ false). h.0 q (wider q (record { low = late; high = w })) y)
          (cases_Bool (is_below q at.low)))) level (low_of lo rest) hi rest
          (each_both Off Later level (low_of lo rest) hi rest (rest_apart key level lo hi rest i.4)
          (each_within key level (low_of lo rest) hi rest i.4)),
    )
faces_at key (past first b2 first_child p) low b c r level lo hi some i u =
    let t = entry low b c r in
    let x = put_at p t in
    let has = has_put p t tt in
    let mid = next_low hi x in
    let at = placed key p t (low_of lo x) hi i.4 in
    let top = next_low at.high r in
    let n = place_level p level in
    let ul = under_low lo hi x u i.3 in
    let own = own_start key p low b c r (low_of lo x) hi i.4 ul in
    let start = within_placed key p t (low_of lo x) hi i.4 at.low (in_first at.low at.high r at.low at.is.3 own) in
    let F : ℕ → Record → Option Record → List Record → Type 0 = λ l k z w. Faces n at.low top l k z in
    let In : ℕ → Record → Option Record → List Record → Type 0 =
    λ l k z w. (q : Record) → InRange k z q → InRange lo mid q in
    let early : (q : Record) → InRange lo mid q → is_below q at.low ≡ true = λ q y. ⊎_elim
    (λ (h : is_below q at.low ≡ true). h)
    (λ (h : is_below q at.low ≡ false). absurd (no_both lo hi x q has y (record {
      low = low_less q at.low (low_of lo x) start.low h;
      high = under_wider mid hi q (upto_next lo hi x i.3) y.high;
    })))
    (cases_Bool (is_below q at.low)) in (
      ahead early,
      each_map In F (λ l k z w h. ahead (λ q y. early q (h q y))) (level - 1) lo mid first_child
          (each_within key (level - 1) lo mid first_child i.2),
      faces_at key p low b c r level (low_of lo x) hi some i.4 ul,
    )
