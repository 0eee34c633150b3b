-- Where the node after one begins, an entry of the level above begins.
use Rattle.std.specs.Prelude.{◌≡◌, ◌⊎◌, Bool, true, false, cond, ℕ, zero, suc, ◌+◌, ◌-◌, ◌==◌, ◌<◌, ◌≤◌, List, Option, Some, None}
use Rattle.std.proofs.Common.{refl, sym, ap, subst, ◌∙◌, arith, inl, inr, ⊎_elim, Ordering, Greater}
use Rattle.std.proofs.lemmas.Bool.{false≢true, eq-eqb}
use Rattle.std.specs.Cmp.{nat_cmp_is}
use Rattle.std.specs.Ordering.{nat_cmp, ordering_then, is_lt}
use Rattle.em_record.specs.Order.{is_below}
use Rattle.em_record.specs.declared.record.Record.{Record}
use Rattle.em_space.specs.Rig.{RigState}
use Rattle.em_tree_model.specs.Places.{Place, put_at}
use Rattle.em_tree_model.specs.Places.Place.{here, past, under}
use Rattle.em_tree_model.specs.Ranges.{Follow, IsTree, least_record, low_of, next_low}
use Rattle.em_tree_model.specs.Tree.{HasEntry, HasLevel, IsChild, Tree}
use Rattle.em_tree_model.specs.Tree.Tree.{end, entry, leaf}
use Rattle.em_tree_blocks.specs.Paths.{IsPath, level_on, node_on, place_on}
use Rattle.em_tree_blocks.specs.Reading.{tree_at}
use Rattle.em_tree_blocks.proofs.Entries.{tree_level}
use Rattle.em_tree_blocks.proofs.Paths.{tree_on}
use Rattle.em_tree_walk.specs.Ways.{range_end}
use Rattle.em_trunk.specs.Entries.{place_level}
use Rattle.em_trunk.specs.Starts.{starts_of}
use Rattle.em_trunk.proofs.Clear.{place_level_most}
use Rattle.em_trunk.proofs.PathRanges.{level_path}

-- no key is below the least one
at_zero : (m : ℕ) (o : Ordering) → is_lt o ≡ false → is_lt (ordering_then (nat_cmp m 0) o) ≡ false
at_zero zero o h = h
at_zero (suc m) o h =
    ap (λ r. is_lt (ordering_then r o)) (sym (nat_cmp_is (suc m) 0 Greater (omega arith)))

last_zero : (m : ℕ) → is_lt (nat_cmp m 0) ≡ false
last_zero zero = refl
last_zero (suc m) = ap is_lt (sym (nat_cmp_is (suc m) 0 Greater (omega arith)))

pub least_below : (x : Record) → is_below x least_record ≡ false
least_below x =
    let last = nat_cmp x.d 0 in
    let third = ordering_then (nat_cmp x.c 0) last in
    at_zero x.a (ordering_then (nat_cmp x.b 0) third)
    (at_zero x.b third (at_zero x.c last (last_zero x.d)))

-- equal, or above
pub apart_or : (m n : ℕ) → m ≤ n → (n ≡ m) ⊎ (m < n)
apart_or zero zero h = inl refl
apart_or zero (suc n) h = inr (omega arith)
apart_or (suc m) zero h = absurd (omega (arith, h))
apart_or (suc m) (suc n) h = ⊎_elim
    (λ (e : n ≡ m). inl (ap suc e))
    (λ (d : m < n). inr (omega (arith, d)))
    (apart_or m n (omega (arith, h)))

down_one : (n : ℕ) → suc n - 1 ≡ n
down_one n = omega arith

child_some : (c : Tree) (n : ℕ) → HasLevel c (suc n) → IsChild c → HasEntry c
child_some (leaf xs) n h i = absurd h
child_some end n h i = absurd i
child_some (entry low b c r) n h i = tt

own_more : (z x y : Bool) → (x ≡ true → y ≡ true) → cond z (cond x 1 0) 0 ≤ cond z (cond y 1 0) 0
own_more false x y f = omega arith
own_more true false y f = omega arith
own_more true true true f = omega arith
own_more true true false f = absurd (false≢true (f refl))

own_less : (z x y : Bool) → z ≡ true → x ≡ false → y ≡ true
    → cond z (cond x 1 0) 0 + 1 ≤ cond z (cond y 1 0) 0
own_less true false true e f g = omega arith
own_less true false false e f g = absurd (false≢true g)
own_less true true y e f g = absurd (false≢true (sym f))
own_less false x y e f g = absurd (false≢true e)

none_some : (x : Record) → None ≡ Some x → ⊥
none_some x e = cc

abbrev value_of : Record → Option Record → Record
value_of x None = x
value_of x (Some y) = y

first_less : (a b c x y z : ℕ) → a + 1 ≤ x → b ≤ y → c ≤ z → a + b + c + 1 ≤ x + y + z
first_less a b c x y z f g h = omega (arith, f, g, h)

child_less : (a b c x y z : ℕ) → a ≤ x → b + 1 ≤ y → c ≤ z → a + b + c + 1 ≤ x + y + z
child_less a b c x y z f g h = omega (arith, f, g, h)

rest_less : (a b c x y z : ℕ) → a ≤ x → b ≤ y → c + 1 ≤ z → a + b + c + 1 ≤ x + y + z
rest_less a b c x y z f g h = omega (arith, f, g, h)

none_less_sum : (a b c x y z : ℕ) → a ≤ x → b ≤ y → c ≤ z → a + b + c ≤ x + y + z
none_less_sum a b c x y z f g h = omega (arith, f, g, h)

module _ (key : Record → Record) (m : ℕ) (p q : Record → Bool)
    (more : (k : Record) → p k ≡ true → q k ≡ true) where
  abbrev own_of : (Record → Bool) → ℕ → Record → ℕ
  own_of test top lo = cond (top == suc m) (cond (test lo) 1 0) 0

  -- a wider test passes no fewer
  starts_more : (t : Tree) (top : ℕ) (lo : Record)
      → starts_of p (suc m) top lo t ≤ starts_of q (suc m) top lo t
  starts_more (leaf xs) top lo = omega arith
  starts_more end top lo = omega arith
  starts_more (entry low b c r) top lo = none_less_sum (own_of p top lo)
      (starts_of p (suc m) (top - 1) lo c) (starts_of p (suc m) top (low_of lo r) r) (own_of q top lo)
      (starts_of q (suc m) (top - 1) lo c) (starts_of q (suc m) top (low_of lo r) r)
      (own_more (top == suc m) (p lo) (q lo) (more lo)) (starts_more c (top - 1) lo)
      (starts_more r top (low_of lo r))

  -- A row begins where its first entry of each level below does.
  starts_first : (n : ℕ) (t : Tree) (lo : Record) (hi : Option Record) → HasLevel t (suc n)
      → HasEntry t → IsTree key t lo hi → m ≤ n → p lo ≡ false → q lo ≡ true
      → starts_of p (suc m) (suc n) lo t + 1 ≤ starts_of q (suc m) (suc n) lo t
  starts_first n (leaf xs) lo hi lev some i less off on_it = absurd some
  starts_first n end lo hi lev some i less off on_it = absurd some
  starts_first zero (entry low b c r) lo hi lev some i less off on_it =
      let same : suc zero ≡ suc m = omega (arith, less) in
      first_less (own_of p (suc zero) lo) (starts_of p (suc m) (suc zero - 1) lo c)
      (starts_of p (suc m) (suc zero) (low_of lo r) r) (own_of q (suc zero) lo)
      (starts_of q (suc m) (suc zero - 1) lo c) (starts_of q (suc m) (suc zero) (low_of lo r) r)
      (own_less (suc zero == suc m) (p lo) (q lo) (eq-eqb (suc zero) (suc m) same) off on_it)
      (starts_more c (suc zero - 1) lo) (starts_more r (suc zero) (low_of lo r))
  starts_first (suc n) (entry low b c r) lo hi lev some i less off on_it = ⊎_elim
      (λ (e : suc n ≡ m).
      (let same : suc (suc n) ≡ suc m = ap suc e in
      first_less (own_of p (suc (suc n)) lo) (starts_of p (suc m) (suc (suc n) - 1) lo c)
      (starts_of p (suc m) (suc (suc n)) (low_of lo r) r) (own_of q (suc (suc n)) lo)
      (starts_of q (suc m) (suc (suc n) - 1) lo c) (starts_of q (suc m) (suc (suc n)) (low_of lo r) r)
      (own_less (suc (suc n) == suc m) (p lo) (q lo) (eq-eqb (suc (suc n)) (suc m) same) off on_it)
      (starts_more c (suc (suc n) - 1) lo) (starts_more r (suc (suc n)) (low_of lo r))))
      (λ (d : m < suc n).
      (let child = starts_first n c lo (next_low hi r) lev.0 (child_some c n lev.0 i.0) i.2
      (omega (arith, d)) off on_it in
      let C : ℕ → Type 0 = λ x. starts_of p (suc m) x lo c + 1 ≤ starts_of q (suc m) x lo c in
      child_less (own_of p (suc (suc n)) lo) (starts_of p (suc m) (suc (suc n) - 1) lo c)
      (starts_of p (suc m) (suc (suc n)) (low_of lo r) r) (own_of q (suc (suc n)) lo)
      (starts_of q (suc m) (suc (suc n) - 1) lo c) (starts_of q (suc m) (suc (suc n)) (low_of lo r) r)
      (own_more (suc (suc n) == suc m) (p lo) (q lo) (more lo))
      (subst C (sym (down_one (suc n))) child) (starts_more r (suc (suc n)) (low_of lo r))))
      (apart_or m (suc n) less)

  module _ (low : Record) (off : p low ≡ false) (on_it : q low ≡ true) where
    -- the entries after one begin there, or there are none
    rest_begins : (n : ℕ) (lo : Record) (hi : Option Record) (first : Record) (b : List Record) (c r : Tree)
        → HasLevel r (suc n) → m ≤ n → Follow lo hi r → IsTree key r (low_of lo r) hi
        → next_low hi r ≡ Some low
        → (hi ≡ Some low) ⊎ (starts_of p (suc m) (suc n) lo (entry first b c r) + 1
        ≤ starts_of q (suc m) (suc n) lo (entry first b c r))
    rest_begins n lo hi first b c (leaf xs) lev less f i e = absurd f
    rest_begins n lo hi first b c end lev less f i e = inl e
    rest_begins n lo hi first b c (entry low2 b2 c2 r2) lev less f i e =
        let r = entry low2 b2 c2 r2 in
        let same : low2 ≡ low = ap (value_of low2) e in
        let P : Record → Type 0 = λ k. p k ≡ false in
        let Q : Record → Type 0 = λ k. q k ≡ true in
        inr (rest_less (own_of p (suc n) lo) (starts_of p (suc m) (suc n - 1) lo c)
        (starts_of p (suc m) (suc n) low2 r) (own_of q (suc n) lo) (starts_of q (suc m) (suc n - 1) lo c)
        (starts_of q (suc m) (suc n) low2 r) (own_more (suc n == suc m) (p lo) (q lo) (more lo))
        (starts_more c (suc n - 1) lo)
        (starts_first n r low2 hi lev tt i less (subst P (sym same) off) (subst Q (sym same) on_it)))

    -- A place ends where the whole does, or where an entry of the level above begins.
    next_begins : (o : Place) (t : Tree) (top : ℕ) (lo : Record) (hi : Option Record)
        → HasLevel (put_at o t) top → m ≤ place_level o top → IsTree key (put_at o t) lo hi
        → range_end hi o ≡ Some low
        → (hi ≡ Some low) ⊎ (starts_of p (suc m) top lo (put_at o t) + 1
        ≤ starts_of q (suc m) top lo (put_at o t))
    next_begins here t top lo hi lev deep i e = inl e
    next_begins (under first b r o) t zero lo hi lev deep i e = absurd lev
    next_begins (under first b r o) t (suc n) lo hi lev deep i e =
        let x = put_at o t in
        let D : ℕ → Type 0 = λ k. m ≤ place_level o k in
        let down = subst D (down_one n) deep in
        let most = place_level_most o n in
        let C : ℕ → Type 0 = λ k. starts_of p (suc m) k lo x + 1 ≤ starts_of q (suc m) k lo x in
        ⊎_elim
        (λ (d : next_low hi r ≡ Some low).
        rest_begins n lo hi first b x r lev.1 (omega (arith, down, most)) i.3 i.4 d)
        (λ (d : starts_of p (suc m) n lo x + 1 ≤ starts_of q (suc m) n lo x).
        inr (child_less (own_of p (suc n) lo) (starts_of p (suc m) (suc n - 1) lo x)
        (starts_of p (suc m) (suc n) (low_of lo r) r) (own_of q (suc n) lo)
        (starts_of q (suc m) (suc n - 1) lo x) (starts_of q (suc m) (suc n) (low_of lo r) r)
        (own_more (suc n == suc m) (p lo) (q lo) (more lo)) (subst C (sym (down_one n)) d)
        (starts_more r (suc n) (low_of lo r))))
        (next_begins o t n lo (next_low hi r) lev.0 down i.2 e)
    next_begins (past first b c o) t zero lo hi lev deep i e = absurd lev
    next_begins (past first b c o) t (suc n) lo hi lev deep i e =
        let x = put_at o t in
        let k = low_of lo x in
        ⊎_elim
        (λ (d : hi ≡ Some low). inl d)
        (λ (d : starts_of p (suc m) (suc n) k x + 1 ≤ starts_of q (suc m) (suc n) k x).
        inr (rest_less (own_of p (suc n) lo) (starts_of p (suc m) (suc n - 1) lo c)
        (starts_of p (suc m) (suc n) k x) (own_of q (suc n) lo) (starts_of q (suc m) (suc n - 1) lo c)
        (starts_of q (suc m) (suc n) k x) (own_more (suc n == suc m) (p lo) (q lo) (more lo))
        (starts_more c (suc n - 1) lo) d))
        (next_begins o t (suc n) k hi lev.1 deep i.4 e)

-- The node at the end of a path ends where an entry of the level above begins.
pub begins_next : (key : Record → Record) (l : ℕ) (low : Record) (p q : Record → Bool)
    → ((k : Record) → p k ≡ true → q k ≡ true) → p low ≡ false → q low ≡ true → (top : ℕ)
    (s : RigState) (root : ℕ) (path : List ℕ) → IsPath path top s root → level_on path top ≡ suc l
    → IsTree key (tree_at top s root) least_record None
    → range_end None (place_on path top s root) ≡ Some low
    → starts_of p (suc (suc l)) top least_record (tree_at top s root) + 1
    ≤ starts_of q (suc (suc l)) top least_record (tree_at top s root)
begins_next key l low p q more off on_it top s root path on level is e =
    let o = place_on path top s root in
    let t = tree_at (level_on path top) s (node_on path top s root) in
    let reads = tree_on path top s root on in
    let L : Tree → Type 0 = λ x. HasLevel x top in
    let I : Tree → Type 0 = λ x. IsTree key x least_record None in
    let R : Tree → Type 0 = λ x. starts_of p (suc (suc l)) top least_record x + 1
    ≤ starts_of q (suc (suc l)) top least_record x in
    let deep : place_level o top ≡ suc l = level_path path top s root on ∙ level in
    ⊎_elim
    (λ (d : None ≡ Some low). absurd (none_some low d))
    (λ (d : R (put_at o t)). subst R (sym reads) d)
    (next_begins key (suc l) p q more low off on_it o t top least_record None
    (subst L reads (tree_level top s root)) (omega (arith, deep)) (subst I reads is) e)
