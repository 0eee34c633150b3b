-- Buffers that are thin between two keys, around a place in a tree.
use Rattle.std.specs.Prelude.{◌≡◌, false, ℕ, ◌-◌, ◌<◌, ◌≤◌, Option, Some, None}
use Rattle.std.proofs.Common.{sym, ◌∙◌, arith}
use Rattle.std.proofs.lemmas.Bool.{false≢true}
use Rattle.em_record.specs.Order.{is_below}
use Rattle.em_record.specs.declared.record.Record.{Record}
use Rattle.em_record.proofs.OrderLaws.{below_itself}
use Rattle.em_tree_model.specs.Places.{Place, put_at}
use Rattle.em_tree_model.specs.Places.Place.{here, past, under}
use Rattle.em_tree_model.specs.Ranges.{IsTree, Under, low_of, next_low}
use Rattle.em_tree_model.specs.Tree.{HasEntry, Tree}
use Rattle.em_tree_model.specs.Tree.Tree.{end, entry, leaf}
use Rattle.em_tree_model.proofs.Events.{placed}
use Rattle.em_tree_model.proofs.Places.{has_put}
use Rattle.em_tree_model.proofs.Ranges.{low_less, low_next, to_below, under_wider, upto_next}
use Rattle.em_trunk.specs.Entries.{EachEntry, place_level}
use Rattle.em_tree_buffers.specs.Findings.{ThinBetween}
use Rattle.em_trunk.proofs.Clear.{place_level_most}
use Rattle.em_trunk.proofs.Entries.{each_level, each_map}

-- a key at least another that isn't under an end isn't under it either
pub under_less : (until : Option Record) (k lo : Record) → is_below k lo ≡ false → Under until k
    → Under until lo
under_less None k lo h u = tt
under_less (Some x) k lo h u = to_below lo k x h u

-- the entries of a tree begin and end within its keys
pub each_bounds : (key : Record → Record) (level : ℕ) (lo : Record) (hi : Option Record) (t : Tree)
    → IsTree key t lo hi
    → EachEntry (λ l k top b. (is_below k lo ≡ false) × ((q : Record) → Under top q → Under hi q)) level lo
    hi t
each_bounds key level lo hi (leaf xs) i = tt
each_bounds key level lo hi end i = tt
each_bounds key level lo hi (entry low b c r) i =
    let top = next_low hi r in
    let after = low_of lo r in (
      (below_itself lo, λ q u. under_wider top hi q (upto_next lo hi r i.3) u),
      each_map (λ l k z x. (is_below k lo ≡ false) × ((q : Record) → Under z q → Under top q))
          (λ l k z x. (is_below k lo ≡ false) × ((q : Record) → Under z q → Under hi q))
          (λ l k z x h. (h.0, λ q u. under_wider top hi q (upto_next lo hi r i.3) (h.1 q u)))
          (level - 1) lo top c (each_bounds key (level - 1) lo top c i.2),
      each_map (λ l k z x. (is_below k after ≡ false) × ((q : Record) → Under z q → Under hi q))
          (λ l k z x. (is_below k lo ≡ false) × ((q : Record) → Under z q → Under hi q))
          (λ l k z x h. (low_less k after lo (low_next lo hi r i.3) h.0, h.1))
          level after hi r (each_bounds key level after hi r i.4),
    )

-- the range of a place ends within the whole's, and begins within it
pub placed_under : (key : Record → Record) (p : Place) (t : Tree) (lo : Record) (hi : Option Record)
    → (i : IsTree key (put_at p t) lo hi) → (q : Record) → Under (placed key p t lo hi i).high q
    → Under hi q
placed_under key here t lo hi i q u = u
placed_under key (under low b r p) t lo hi i q u =
    under_wider (next_low hi r) hi q (upto_next lo hi r i.3)
    (placed_under key p t lo (next_low hi r) i.2 q u)
placed_under key (past low b c p) t lo hi i q u =
    placed_under key p t (low_of lo (put_at p t)) hi i.4 q u

pub placed_after : (key : Record → Record) (p : Place) (t : Tree) (lo : Record) (hi : Option Record)
    → (i : IsTree key (put_at p t) lo hi) → (q : Record)
    → is_below q (placed key p t lo hi i).low ≡ false → is_below q lo ≡ false
placed_after key here t lo hi i q h = h
placed_after key (under low b r p) t lo hi i q h = placed_after key p t lo (next_low hi r) i.2 q h
placed_after key (past low b c p) t lo hi i q h =
    let x = put_at p t in
    low_less q (low_of lo x) lo (low_next lo hi x i.3) (placed_after key p t (low_of lo x) hi i.4 q h)

-- entries that end at or below a key have none from it on
pub ends_before : (lo : Record) (hi : Option Record) (r : Tree) (from : Record) → HasEntry r
    → is_below from (low_of lo r) ≡ false → Under (next_low hi r) from → ⊥
ends_before lo hi (leaf xs) from n h u = absurd n
ends_before lo hi end from n h u = absurd n
ends_before lo hi (entry low b c r) from n h u = false≢true (sym h ∙ u)

module _ (key : Record → Record) (limit at : ℕ) (from : Record) (until : Option Record) (some : 1 ≤ at) where
  -- below a level nothing is said
  pub thin_below : (level : ℕ) (lo : Record) (hi : Option Record) (t : Tree) → level < at
      → EachEntry (ThinBetween limit at from until) level lo hi t
  thin_below level lo hi t less = each_map (λ l k z x. l ≤ level) (ThinBetween limit at from until)
      (λ l k z x h e u w. absurd (omega (arith, h, e, less))) level lo hi t (each_level level lo hi t)

  -- entries that begin at the end or after it
  pub thin_late : (level : ℕ) (lo : Record) (hi : Option Record) (t : Tree) → IsTree key t lo hi
      → (Under until lo → ⊥) → EachEntry (ThinBetween limit at from until) level lo hi t
  thin_late level lo hi t i late = each_map
      (λ l k z x. (is_below k lo ≡ false) × ((q : Record) → Under z q → Under hi q))
      (ThinBetween limit at from until)
      (λ l k z x h e u w. absurd (late (under_less until k lo h.0 w))) level lo hi t
      (each_bounds key level lo hi t i)

  -- those after an entry whose keys contain the end
  thin_rest : (level : ℕ) (lo : Record) (hi : Option Record) (r : Tree) → IsTree key r (low_of lo r) hi
      → ((q : Record) → Under until q → Under (next_low hi r) q)
      → EachEntry (ThinBetween limit at from until) level (low_of lo r) hi r
  thin_rest level lo hi (leaf xs) i wide = tt
  thin_rest level lo hi end i wide = tt
  thin_rest level lo hi (entry low b c r) i wide = thin_late level low hi (entry low b c r) i
      (λ u. false≢true (sym (below_itself low) ∙ wide low u))

  -- Around a place that has the first key, and the end.
  pub thin_around : (p : Place) (t : Tree) (level : ℕ) (lo : Record) (hi : Option Record)
      → (i : IsTree key (put_at p t) lo hi) → at ≤ place_level p level → HasEntry t
      → is_below from (placed key p t lo hi i).low ≡ false
      → ((q : Record) → Under until q → Under (placed key p t lo hi i).high q)
      → EachEntry (ThinBetween limit at from until) (place_level p level) (placed key p t lo hi i).low
      (placed key p t lo hi i).high t
      → EachEntry (ThinBetween limit at from until) level lo hi (put_at p t)
  thin_around here t level lo hi i deep n begins wide h = h
  thin_around (under low b r p) t level lo hi i deep n begins wide h =
      let most = place_level_most p (level - 1) in (
        λ e u w. absurd (omega (arith, e, most, deep, some)),
        thin_around p t (level - 1) lo (next_low hi r) i.2 deep n begins wide h,
        thin_rest level lo hi r i.4
            (λ q u. placed_under key p t lo (next_low hi r) i.2 q (wide q u)),
      )
  thin_around (past low b c p) t level lo hi i deep n begins wide h =
      let x = put_at p t in
      let top = next_low hi x in
      let before = ends_before lo hi x from (has_put p t n)
      (placed_after key p t (low_of lo x) hi i.4 from begins) in (
        λ e u w. absurd (before u),
        each_map (λ l k z y. (is_below k lo ≡ false) × ((q : Record) → Under z q → Under top q))
            (ThinBetween limit at from until) (λ l k z y g e u w. absurd (before (g.1 from u)))
            (level - 1) lo top c (each_bounds key (level - 1) lo top c i.2),
        thin_around p t level (low_of lo x) hi i.4 deep n begins wide h,
      )
