-- Buffers of a row that are thin, and those of an entry's child after the entry's buffer went there.
use Rattle.std.specs.Prelude.{ℕ, ◌-◌, ◌<◌, ◌≤◌, List, [], length, Option, None}
use Rattle.std.proofs.Common.{refl, sym, subst, arith}
use Rattle.em_record.specs.declared.record.Record.{Record}
use Rattle.em_tree_model.specs.Places.{Place, put_at}
use Rattle.em_tree_model.specs.Places.Place.{here, past, under}
use Rattle.em_tree_model.specs.Pouring.{pour}
use Rattle.em_tree_model.specs.Ranges.{IsTree, least_record, low_of, next_low}
use Rattle.em_tree_model.specs.Tree.{Tree}
use Rattle.em_tree_model.specs.Tree.Tree.{end, entry, leaf}
use Rattle.em_tree_model.proofs.Events.{placed}
use Rattle.em_trunk.specs.Buffers.{IsThin}
use Rattle.em_tree_buffers.specs.Emptying.{RowThin}
use Rattle.em_trunk.specs.Entries.{EachEntry, place_level}
use Rattle.em_trunk.proofs.Entries.{each_at, each_both, each_level, each_map, each_pour}
use Rattle.em_tree_buffers.proofs.FoundLowered.{Lowers, old_tree}

-- Each buffer of a tree is thin: so those of its row are.
pub each_row : (limit : ℕ) (t : Tree) (level : ℕ) (lo : Record) (hi : Option Record)
    → EachEntry (IsThin limit) level lo hi t → RowThin limit t
each_row limit (leaf xs) level lo hi h = tt
each_row limit end level lo hi h = tt
each_row limit (entry low b c r) level lo hi h = (h.0, each_row limit r level (low_of lo r) hi h.2)

-- a buffer is thin if its node is below a level
abbrev pub ThinUnder : ℕ → ℕ → ℕ → Record → Option Record → List Record → Type 0
ThinUnder limit at l k top b = l < at → length b < limit

-- If the buffers of a row are thin, and those below it, all are.
pub row_each : (limit : ℕ) (t : Tree) (level : ℕ) (lo : Record) (hi : Option Record) → 1 ≤ level
    → RowThin limit t → EachEntry (ThinUnder limit level) level lo hi t
    → EachEntry (IsThin limit) level lo hi t
row_each limit (leaf xs) level lo hi some row h = tt
row_each limit end level lo hi some row h = tt
row_each limit (entry low b c r) level lo hi some row h =
    let top = next_low hi r in
    let U : ℕ → Record → Option Record → List Record → Type 0 = ThinUnder limit level in (
      row.0,
      each_map (λ l k z x. U l k z x × (l ≤ level - 1)) (IsThin limit)
          (λ l k z x m. m.0 (let e = m.1 in omega (arith, e, some))) (level - 1) lo top c
          (each_both U (λ l k z x. l ≤ level - 1) (level - 1) lo top c h.1 (each_level (level - 1) lo top c)),
      row_each limit r level (low_of lo r) hi some row.1 h.2,
    )

-- An entry's buffer went into its child, whose row is thin then: no buffer is full.
pub thin_emptied : (key : Record → Record) (limit : ℕ) (p : Place) (low : Record) (b : List Record)
    (c r : Tree) (level : ℕ) (lo : Record) (hi : Option Record) → 2 ≤ place_level p level → 0 < limit
    → (i : IsTree key (put_at p (entry low b c r)) lo hi) → RowThin limit (pour key c b)
    → EachEntry (IsThin limit) level lo hi (put_at p (entry low b c r))
    → EachEntry (IsThin limit) level lo hi (put_at p (entry low [] (pour key c b) r))
thin_emptied key limit p low b c r level lo hi two some i row h =
    let n = place_level p level in
    let at = placed key p (entry low b c r) lo hi i in
    let top = next_low at.high r in
    let U : ℕ → Record → Option Record → List Record → Type 0 = ThinUnder limit (n - 1) in
    each_at key (IsThin limit) (IsThin limit) (λ l k z x a. a) p (entry low b c r)
    (entry low [] (pour key c b) r) refl level lo hi i
    (λ g. (
      some,
      row_each limit (pour key c b) (n - 1) at.low top (omega (arith, two)) row
          (each_pour U (n - 1) (λ k z x op a e. absurd (omega (arith, e))) key c b at.low top
          (each_map (IsThin limit) U (λ l k z x a e. a) (n - 1) at.low top c g.1)),
      g.2,
    )) h

-- what holds of each entry of a tree holds of those of a child
pub each_child : (key : Record → Record) (P : ℕ → Record → Option Record → List Record → Type 0)
    (p : Place) (low : Record) (b : List Record) (c r : Tree) (level : ℕ) (lo : Record)
    (hi : Option Record) → (i : IsTree key (put_at p (entry low b c r)) lo hi)
    → EachEntry P level lo hi (put_at p (entry low b c r))
    → (let at = placed key p (entry low b c r) lo hi i in
    EachEntry P (place_level p level - 1) at.low (next_low at.high r) c)
each_child key P here low b c r level lo hi i h = h.1
each_child key P (under first b2 rest p) low b c r level lo hi i h =
    each_child key P p low b c r (level - 1) lo (next_low hi rest) i.2 h.1
each_child key P (past first b2 child p) low b c r level lo hi i h =
    each_child key P p low b c r level (low_of lo (put_at p (entry low b c r))) hi i.4 h.2

module _ (key : Record → Record) {n : ℕ} {low : Record} {high : Option Record} {level : ℕ}
    {t u : Tree} (h : Lowers key n low high level t u) where
  -- The same of an entry that was lowered,
  pub thin_lowered : (limit : ℕ) → 2 ≤ n → 0 < limit → IsTree key t least_record None
      → RowThin limit (pour key h.child h.ops) → EachEntry (IsThin limit) level least_record None t
      → EachEntry (IsThin limit) level least_record None u
  thin_lowered limit two some i row thin =
      let E : Tree → Type 0 = EachEntry (IsThin limit) level least_record None in
      let e = h.level_is in
      subst E (sym h.new) (thin_emptied key limit h.place h.first h.ops h.child h.rest level least_record None
      (omega (arith, e, two)) some (old_tree key h i) row (subst E h.old thin))

  -- and back: if no buffer is full then, none of the child's is.
  pub row_lowered : (limit : ℕ) → IsTree key u least_record None
      → EachEntry (IsThin limit) level least_record None u → RowThin limit (pour key h.child h.ops)
  row_lowered limit j thin =
      let E : Tree → Type 0 = EachEntry (IsThin limit) level least_record None in
      let T : Tree → Type 0 = λ x. IsTree key x least_record None in
      let p = pour key h.child h.ops in
      let i = subst T h.new j in
      let at = placed key h.place (entry h.first [] p h.rest) least_record None i in
      each_row limit p (place_level h.place level - 1) at.low (next_low at.high h.rest)
      (each_child key (IsThin limit) h.place h.first [] p h.rest level least_record None i (subst E h.new thin))
