-- How many nodes of a level begin among some keys: none inside an entry of the level below them.
use Rattle.std.specs.Prelude.{◌≡◌, true, false, Bool, cond, ℕ, ◌-◌, ◌<◌, ◌≤◌, ◌==◌, ◌&&◌, List, Option, Some, None}
use Rattle.std.proofs.Common.{refl, sym, ◌∙◌, arith, subst}
use Rattle.std.proofs.lemmas.Bool.{eqb-true, false≢true}
use Rattle.em_record.specs.declared.record.Record.{Record}
use Rattle.em_record.specs.Order.{is_below}
use Rattle.em_settle.proofs.Keys.{below_itself}
use Rattle.em_tree_model.specs.Places.{Place, put_at}
use Rattle.em_tree_model.specs.Ranges.{InRange, IsTree, Under, least_record, low_of, next_low}
use Rattle.em_tree_model.specs.Tree.{Tree}
use Rattle.em_tree_model.specs.Tree.Tree.{end, entry, leaf}
use Rattle.em_tree_model.proofs.Events.{placed}
use Rattle.em_tree_model.proofs.Ranges.{below_not, to_below}
use Rattle.em_trunk.specs.Entries.{EachEntry, place_level}
use Rattle.em_trunk.specs.Starts.{is_before, is_inside, starts_of}
use Rattle.em_trunk.proofs.Entries.{each_both, each_level, each_map, under_first, under_low}
use Rattle.em_trunk.proofs.Faces.{Faces, faces_at}
use Rattle.em_trunk.proofs.Faces.Faces.{ahead, among, around, beyond}

-- what one entry counts: of the level, and at a key that passes
abbrev counted : Bool → Bool → ℕ
counted z a = cond z (cond a 1 0) 0

none_counted : (z a : Bool) → (z ≡ true → a ≡ false) → counted z a ≡ 0
none_counted false a f = refl
none_counted true false f = refl
none_counted true true f = absurd (false≢true (sym (f refl)))

more_counted : (z a b : Bool) → (a ≡ true → b ≡ true) → counted z a ≤ counted z b
more_counted false a b f = omega arith
more_counted true false b f = omega arith
more_counted true true true f = omega arith
more_counted true true false f = absurd (false≢true (f refl))

-- If no node of the level begins at a key that passes, none is counted.
pub starts_none : (test : Record → Bool) (level top : ℕ) (lo : Record) (hi : Option Record) (t : Tree)
    → EachEntry (λ l k z b. l ≡ level → test k ≡ false) top lo hi t
    → starts_of test level top lo t ≡ 0
starts_none test level top lo hi (leaf xs) h = refl
starts_none test level top lo hi end h = refl
starts_none test level top lo hi (entry low b c r) h =
    let z = none_counted (top == level) (test lo) (λ e. h.0 (eqb-true top level e)) in
    let x = starts_none test level (top - 1) lo (next_low hi r) c h.1 in
    let y = starts_none test level top (low_of lo r) hi r h.2 in
    omega (arith, z, x, y)

-- There are none over the root.
pub starts_above : (test : Record → Bool) (level top : ℕ) (lo : Record) (t : Tree) → top < level
    → starts_of test level top lo t ≡ 0
starts_above test level top lo t over =
    starts_none test level top lo None t (each_map (λ l k z b. l ≤ top)
    (λ l k z b. l ≡ level → test k ≡ false) (λ l k z b h e. absurd (omega (arith, h, e, over))) top lo
    None t (each_level top lo None t))

-- More keys count no fewer.
pub starts_more : (p q : Record → Bool) (level : ℕ) → ((k : Record) → p k ≡ true → q k ≡ true)
    → (top : ℕ) (lo : Record) (t : Tree) → starts_of p level top lo t ≤ starts_of q level top lo t
starts_more p q level f top lo (leaf xs) = omega arith
starts_more p q level f top lo end = omega arith
starts_more p q level f top lo (entry low b c r) =
    let z = more_counted (top == level) (p lo) (q lo) (f lo) in
    let x = starts_more p q level f (top - 1) lo c in
    let y = starts_more p q level f top (low_of lo r) r in
    omega (arith, z, x, y)

-- both of two tests
both_left : (a b : Bool) → a && b ≡ true → a ≡ true
both_left true b h = refl
both_left false b h = absurd (false≢true h)

both_right : (a b : Bool) → a && b ≡ true → b ≡ true
both_right true b h = h
both_right false b h = absurd (false≢true h)

both_of : (a b : Bool) → a ≡ true → b ≡ true → a && b ≡ true
both_of true b h k = k
both_of false b h k = absurd (false≢true h)

not_both : (a b : Bool) → (a ≡ true → b ≡ true → ⊥) → a && b ≡ false
not_both false b f = refl
not_both true false f = refl
not_both true true f = absurd (f refl refl)

before_under : (hi : Option Record) (k : Record) → is_before hi k ≡ true → Under hi k
before_under None k h = tt
before_under (Some top) k h = h

under_before : (hi : Option Record) (k : Record) → Under hi k → is_before hi k ≡ true
under_before None k h = refl
under_before (Some top) k h = h

-- Fewer keys are inside a range that begins later.
pub inside_later : (from mid : Record) (until : Option Record) → is_below mid from ≡ false
    → (k : Record) → is_inside mid until k ≡ true → is_inside from until k ≡ true
inside_later from mid until h k x = both_of (is_below from k) (is_before until k)
    (to_below from mid k h (both_left (is_below mid k) (is_before until k) x))
    (both_right (is_below mid k) (is_before until k) x)

-- a range's first key isn't inside it
pub inside_first : (low : Record) (until : Option Record) → is_inside low until low ≡ false
inside_first low until = not_both (is_below low low) (is_before until low)
    (λ x y. false≢true (sym (below_itself low) ∙ x))

-- a key above the first one, and in the range, is
pub inside_at : (from low : Record) (until : Option Record) → is_below from low ≡ true → Under until low
    → is_inside from until low ≡ true
inside_at from low until h u =
    both_of (is_below from low) (is_before until low) h (under_before until low u)

-- the least key is inside no range
pub inside_least : (from : Record) (until : Option Record) → is_below from least_record ≡ false
    → is_inside from until least_record ≡ false
inside_least from until h = not_both (is_below from least_record) (is_before until least_record)
    (λ x y. false≢true (sym h ∙ x))

-- Each entry has its first key.
pub each_own : (key : Record → Record) (level : ℕ) (lo : Record) (hi : Option Record) (t : Tree)
    → IsTree key t lo hi → Under hi lo
    → EachEntry (λ l k top b. InRange k top k) level lo hi t
each_own key level lo hi (leaf xs) i u = tt
each_own key level lo hi end i u = tt
each_own key level lo hi (entry low b c r) i u =
    let mid = under_first lo hi r u i.3 in (
      record { low = below_itself lo; high = mid },
      each_own key (level - 1) lo (next_low hi r) c i.2 mid,
      each_own key level (low_of lo r) hi r i.4 (under_low lo hi r u i.3),
    )

-- No node below an entry's own begins inside the entry's keys at the entry's level.
outside : (n : ℕ) (low : Record) (high : Option Record) (l : ℕ) (k : Record) (top : Option Record)
    → Faces n low high l k top → InRange k top k → l ≡ n → is_inside low high k ≡ true → ⊥
outside n low high l k top (ahead f) own e x = false≢true
    (sym (below_not k low (f k own)) ∙ both_left (is_below low k) (is_before high k) x)
outside n low high l k top (beyond f) own e x =
    f k own (before_under high k (both_right (is_below low k) (is_before high k) x))
outside n low high l k top (around over f) own e x = omega (arith, over, e)
outside n low high l k top (among under same f) own e x =
    let S : Record → Type 0 = λ z. is_below low z ≡ true in
    false≢true (sym (below_itself low)
    ∙ subst S (same e) (both_left (is_below low k) (is_before high k) x))

-- No entry of an entry's level begins inside its keys.
pub starts_own : (key : Record → Record) (p : Place) (low : Record) (b : List Record) (c r : Tree)
    (level : ℕ) (lo : Record) (hi : Option Record) → 1 ≤ place_level p level
    → (i : IsTree key (put_at p (entry low b c r)) lo hi) → Under hi lo
    → (let at = placed key p (entry low b c r) lo hi i in
    starts_of (is_inside at.low (next_low at.high r)) (place_level p level) level lo
    (put_at p (entry low b c r)) ≡ 0)
starts_own key p low b c r level lo hi some i u =
    let t = put_at p (entry low b c r) in
    let at = placed key p (entry low b c r) lo hi i in
    let top = next_low at.high r in
    let n = place_level p level in
    let F : ℕ → Record → Option Record → List Record → Type 0 = λ l k z x. Faces n at.low top l k z in
    let Own : ℕ → Record → Option Record → List Record → Type 0 = λ l k z x. InRange k z k in
    starts_none (is_inside at.low top) n level lo hi t
    (each_map (λ l k z x. F l k z x × Own l k z x) (λ l k z x. l ≡ n → is_inside at.low top k ≡ false)
    (λ l k z x h e. not_both (is_below at.low k) (is_before top k)
    (λ x y. outside n at.low top l k z h.0 h.1 e (both_of (is_below at.low k) (is_before top k) x y)))
    level lo hi t (each_both F Own level lo hi t (faces_at key p low b c r level lo hi some i u)
    (each_own key level lo hi t i u)))
