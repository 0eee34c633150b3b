-- What is empty over a level, over the emptying of one of its buffers.
use Rattle.std.specs.Prelude.{◌≡◌, ℕ, ◌-◌, ◌≤◌, List, [], Option, Some}
use Rattle.std.proofs.Common.{refl, sym, ◌∙◌, arith}
use Rattle.std.proofs.lemmas.Bool.{false≢true}
use Rattle.em_record.specs.declared.record.Record.{Record}
use Rattle.em_tree_model.specs.Places.{Place, put_at}
use Rattle.em_tree_model.specs.Places.Place.{here, past, under}
use Rattle.em_tree_model.specs.Pouring.{pour}
use Rattle.em_tree_model.specs.Ranges.{Follow, InRange, IsTree, low_of, next_low}
use Rattle.em_tree_model.specs.Tree.{HasEntry, Tree}
use Rattle.em_tree_model.specs.Tree.Tree.{end, entry, leaf}
use Rattle.em_tree_model.proofs.Events.{placed}
use Rattle.em_tree_model.proofs.Places.{has_put}
use Rattle.em_tree_model.proofs.Ranges.{low_less, low_next, under_wider, upto_next}
use Rattle.em_trunk.specs.Buffers.{ClearOver}
use Rattle.em_trunk.specs.Entries.{EachEntry, place_level}
use Rattle.em_trunk.proofs.Entries.{each_at, each_level, each_map}

-- a key of an entry's range is in the node's
pub in_first : (lo : Record) (hi : Option Record) (r : Tree) (q : Record) → Follow lo hi r
    → InRange lo (next_low hi r) q → InRange lo hi q
in_first lo hi r q f x = record {
  low = x.low;
  high = under_wider (next_low hi r) hi q (upto_next lo hi r f) x.high;
}

-- and so is one of the entries after it
pub in_last : (lo : Record) (hi : Option Record) (r : Tree) (q : Record) → Follow lo hi r
    → InRange (low_of lo r) hi q → InRange lo hi q
in_last lo hi r q f x = record {
  low = low_less q (low_of lo r) lo (low_next lo hi r f) x.low;
  high = x.high;
}

-- No key is in an entry's range and in that of the entries after it.
pub no_both : (lo : Record) (hi : Option Record) (r : Tree) (q : Record) → HasEntry r
    → InRange lo (next_low hi r) q → InRange (low_of lo r) hi q → ⊥
no_both lo hi (leaf xs) q n x y = absurd n
no_both lo hi end q n x y = absurd n
no_both lo hi (entry low b c r) q n x y = false≢true (sym y.low ∙ x.high)

-- the ranges of a tree's entries are within its own
pub each_within : (key : Record → Record) (level : ℕ) (lo : Record) (hi : Option Record) (t : Tree)
    → IsTree key t lo hi
    → EachEntry (λ l k top b. (q : Record) → InRange k top q → InRange lo hi q) level lo hi t
each_within key level lo hi (leaf xs) i = tt
each_within key level lo hi end i = tt
each_within key level lo hi (entry low b c r) i =
    let top = next_low hi r in (
      λ q x. in_first lo hi r q i.3 x,
      each_map (λ l k z x. (q : Record) → InRange k z q → InRange lo top q)
          (λ l k z x. (q : Record) → InRange k z q → InRange lo hi q)
          (λ l k z x h q y. in_first lo hi r q i.3 (h q y)) (level - 1) lo top c
          (each_within key (level - 1) lo top c i.2),
      each_map (λ l k z x. (q : Record) → InRange k z q → InRange (low_of lo r) hi q)
          (λ l k z x. (q : Record) → InRange k z q → InRange lo hi q)
          (λ l k z x h q y. in_last lo hi r q i.3 (h q y)) level (low_of lo r) hi r
          (each_within key level (low_of lo r) hi r i.4),
    )

-- the range of a place is within the whole
pub within_placed : (key : Record → Record) (p : Place) (t : Tree) (lo : Record) (hi : Option Record)
    → (i : IsTree key (put_at p t) lo hi) → (q : Record)
    → InRange (placed key p t lo hi i).low (placed key p t lo hi i).high q → InRange lo hi q
within_placed key here t lo hi i q x = x
within_placed key (under low b r p) t lo hi i q x =
    in_first lo hi r q i.3 (within_placed key p t lo (next_low hi r) i.2 q x)
within_placed key (past low b c p) t lo hi i q x =
    in_last lo hi (put_at p t) q i.3 (within_placed key p t (low_of lo (put_at p t)) hi i.4 q x)

-- a place is no level above the row's
pub place_level_most : (p : Place) (level : ℕ) → place_level p level ≤ level
place_level_most here level = omega arith
place_level_most (under low b r p) level =
    let h = place_level_most p (level - 1) in omega (arith, h)
place_level_most (past low b c p) level = place_level_most p level

-- entries after one have none of its keys
pub rest_apart : (key : Record → Record) (level : ℕ) (lo : Record) (hi : Option Record) (r : Tree)
    → IsTree key r (low_of lo r) hi
    → EachEntry (λ l k top b. (q : Record) → InRange lo (next_low hi r) q → InRange k top q → ⊥)
    level (low_of lo r) hi r
rest_apart key level lo hi (leaf xs) i = tt
rest_apart key level lo hi end i = tt
rest_apart key level lo hi (entry low b c r) i =
    let t = entry low b c r in
    each_map (λ l k top x. (q : Record) → InRange k top q → InRange low hi q)
    (λ l k top x. (q : Record) → InRange lo (Some low) q → InRange k top q → ⊥)
    (λ l k top x h q y z. no_both lo hi t q tt y (h q z)) level low hi t
    (each_within key level low hi t i)

-- an entry and those below it have none of the keys of the entries after it
first_apart : (key : Record → Record) (level : ℕ) (lo : Record) (hi : Option Record) (c r : Tree)
    → HasEntry r → IsTree key c lo (next_low hi r)
    → EachEntry (λ l k top b. (q : Record) → InRange (low_of lo r) hi q → InRange k top q → ⊥)
    level lo (next_low hi r) c
first_apart key level lo hi c r n i =
    each_map (λ l k top x. (q : Record) → InRange k top q → InRange lo (next_low hi r) q)
    (λ l k top x. (q : Record) → InRange (low_of lo r) hi q → InRange k top q → ⊥)
    (λ l k top x h q y z. no_both lo hi r q n (h q z) y) level lo (next_low hi r) c
    (each_within key level lo (next_low hi r) c i)

-- the buffers of a level that a key of a range meets have R
abbrev pub OwnAt : (List Record → Type 0) → ℕ → Record → Option Record → ℕ → Record → Option Record
    → List Record → Type 0
OwnAt R at from until l k top b =
    l ≡ at → (q : Record) → InRange from until q → InRange k top q → R b

-- they are empty
abbrev pub ClearAt : ℕ → Record → Option Record → ℕ → Record → Option Record → List Record → Type 0
ClearAt at from until l k top b = OwnAt (λ x. x ≡ []) at from until l k top b

-- An entry is the only one of its level that its keys meet: what its buffer has, each such one has.
pub own_at : (key : Record → Record) (R : List Record → Type 0) (p : Place) (low : Record)
    (own : List Record) (c r : Tree) (level : ℕ) (lo : Record) (hi : Option Record) → R own
    → 1 ≤ place_level p level → (i : IsTree key (put_at p (entry low own c r)) lo hi)
    → (let at = placed key p (entry low own c r) lo hi i in
    EachEntry (OwnAt R (place_level p level) at.low (next_low at.high r)) level lo hi
    (put_at p (entry low own c r)))
own_at key R here low own c r level lo hi mine some i =
    let top = next_low hi r in
    let A : ℕ → Record → Option Record → List Record → Type 0 = OwnAt R level lo top in (
      λ e q x y. mine,
      each_map (λ l k z b. l ≤ level - 1) A (λ l k z b h e q x y. absurd (omega (arith, h, e, some)))
          (level - 1) lo top c (each_level (level - 1) lo top c),
      each_map (λ l k z b. (q : Record) → InRange lo top q → InRange k z q → ⊥) A
          (λ l k z b h e q x y. absurd (h q x y)) level (low_of lo r) hi r
          (rest_apart key level lo hi r i.4),
    )
own_at key R (under first b rest p) low own c r level lo hi mine some i =
    let t = entry low own c r in
    let down = place_level p (level - 1) in
    let at = placed key p t lo (next_low hi rest) i.2 in
    let A : ℕ → Record → Option Record → List Record → Type 0 =
    OwnAt R down at.low (next_low at.high r) in
    let most = place_level_most p (level - 1) in (
      λ e q x y. absurd (omega (arith, e, most, some)),
      own_at key R p low own c r (level - 1) lo (next_low hi rest) mine some i.2,
      each_map (λ l k z x. (q : Record) → InRange lo (next_low hi rest) q → InRange k z q → ⊥) A
          (λ l k z x h e q y w. absurd (h q (within_placed key p t lo (next_low hi rest) i.2 q
          (in_first at.low at.high r q at.is.3 y)) w))
          level (low_of lo rest) hi rest (rest_apart key level lo hi rest i.4),
    )
own_at key R (past first b before p) low own c r level lo hi mine some i =
    let t = entry low own c r in
    let x = put_at p t in
    let has = has_put p t tt in
    let at = placed key p t (low_of lo x) hi i.4 in
    let A : ℕ → Record → Option Record → List Record → Type 0 =
    OwnAt R (place_level p level) at.low (next_low at.high r) in
    let inside = λ (q : Record) (y : InRange at.low (next_low at.high r) q).
    within_placed key p t (low_of lo x) hi i.4 q (in_first at.low at.high r q at.is.3 y) in (
      λ e q y w. absurd (no_both lo hi x q has w (inside q y)),
      each_map (λ l k z u. (q : Record) → InRange (low_of lo x) hi q → InRange k z q → ⊥) A
          (λ l k z u h e q y w. absurd (h q (inside q y) w)) (level - 1) lo (next_low hi x) before
          (first_apart key (level - 1) lo hi before x has i.2),
      own_at key R p low own c r level (low_of lo x) hi mine some i.4,
    )

-- An entry whose buffer is empty is the only one of its level that its keys meet.
pub clear_own : (key : Record → Record) (p : Place) (low : Record) (c r : Tree) (level : ℕ)
    (lo : Record) (hi : Option Record) → 1 ≤ place_level p level
    → (i : IsTree key (put_at p (entry low [] c r)) lo hi)
    → (let at = placed key p (entry low [] c r) lo hi i in
    EachEntry (ClearAt (place_level p level) at.low (next_low at.high r)) level lo hi
    (put_at p (entry low [] c r)))
clear_own key p low c r level lo hi some i =
    own_at key (λ x. x ≡ []) p low [] c r level lo hi refl some i

-- What is empty over a level stays so over the emptying of a buffer of that level or below it.
pub clear_emptied : (key : Record → Record) (at : ℕ) (from : Record) (until : Option Record)
    (p : Place) (low : Record) (b : List Record) (c r : Tree) (level : ℕ) (lo : Record)
    (hi : Option Record) → place_level p level ≤ at
    → (i : IsTree key (put_at p (entry low b c r)) lo hi)
    → EachEntry (ClearOver at from until) level lo hi (put_at p (entry low b c r))
    → EachEntry (ClearOver at from until) level lo hi (put_at p (entry low [] (pour key c b) r))
clear_emptied key at from until p low b c r level lo hi most i h =
    let t = entry low b c r in
    let u = entry low [] (pour key c b) r in
    let C : ℕ → Record → Option Record → List Record → Type 0 = ClearOver at from until in
    let n = place_level p level in
    let x = placed key p t lo hi i in
    let top = next_low x.high r in
    each_at key C C (λ l k z w a. a) p t u refl level lo hi i
    (λ g. (
      λ over q y w. refl,
      each_map (λ l k z w. l ≤ n - 1) C (λ l k z w le over q y v. absurd (omega (arith, le, over, most)))
          (n - 1) x.low top (pour key c b) (each_level (n - 1) x.low top (pour key c b)),
      g.2,
    )) h
