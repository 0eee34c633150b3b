-- What holds of each entry of a tree, over the changes of a call.
use Rattle.std.specs.Prelude.{◌≡◌, Bool, true, false, cond, ℕ, suc, ◌+◌, ◌-◌, ◌≤◌, List, [], ◌∷◌, ◌++◌, length, Option, Some}
use Rattle.std.proofs.Common.{refl, sym, subst, arith}
use Rattle.em_record.specs.declared.record.Record.{Record}
use Rattle.em_record.specs.Order.{is_below}
use Rattle.em_tree_model.specs.Places.{Place, SameStart, put_at}
use Rattle.em_tree_model.specs.Places.Place.{here, past, under}
use Rattle.em_tree_model.specs.Pouring.{pour, pour_one}
use Rattle.em_tree_model.specs.Ranges.{Follow, InRange, IsTree, Under, low_of, next_low}
use Rattle.em_tree_model.specs.Tree.{HasEntry, IsRow, Tree, is_later, join_rows, waiting_in}
use Rattle.em_tree_model.specs.Tree.Tree.{end, entry, leaf}
use Rattle.em_tree_model.proofs.Events.{placed}
use Rattle.em_tree_model.proofs.Places.{low_same, next_same, start_put}
use Rattle.em_tree_model.proofs.Pouring.{pour_start}
use Rattle.em_tree_model.proofs.Ranges.{below_not, low_less}
use Rattle.em_trunk.specs.Entries.{EachEntry, place_level}

-- what follows for one entry, for each
pub each_map : (P Q : ℕ → Record → Option Record → List Record → Type 0)
    → ((l : ℕ) (k : Record) (top : Option Record) (b : List Record) → P l k top b → Q l k top b)
    → (level : ℕ) (lo : Record) (hi : Option Record) (t : Tree) → EachEntry P level lo hi t
    → EachEntry Q level lo hi t
each_map P Q f level lo hi (leaf xs) h = tt
each_map P Q f level lo hi end h = tt
each_map P Q f level lo hi (entry low b c r) h = (
  f level lo (next_low hi r) b h.0,
  each_map P Q f (level - 1) lo (next_low hi r) c h.1,
  each_map P Q f level (low_of lo r) hi r h.2,
)

-- two things of each entry
pub each_both : (P Q : ℕ → Record → Option Record → List Record → Type 0) (level : ℕ) (lo : Record)
    (hi : Option Record) (t : Tree) → EachEntry P level lo hi t → EachEntry Q level lo hi t
    → EachEntry (λ l k top b. P l k top b × Q l k top b) level lo hi t
each_both P Q level lo hi (leaf xs) g h = tt
each_both P Q level lo hi end g h = tt
each_both P Q level lo hi (entry low b c r) g h = (
  (g.0, h.0),
  each_both P Q (level - 1) lo (next_low hi r) c g.1 h.1,
  each_both P Q level (low_of lo r) hi r g.2 h.2,
)

-- no node is above the row's level
pub each_level : (level : ℕ) (lo : Record) (hi : Option Record) (t : Tree)
    → EachEntry (λ l k top b. l ≤ level) level lo hi t
each_level level lo hi (leaf xs) = tt
each_level level lo hi end = tt
each_level level lo hi (entry low b c r) = (
  omega arith,
  each_map (λ l k top b. l ≤ level - 1) (λ l k top b. l ≤ level) (λ l k top b h. omega (arith, h))
      (level - 1) lo (next_low hi r) c (each_level (level - 1) lo (next_low hi r) c),
  each_level level (low_of lo r) hi r,
)

-- a range of keys is not empty
pub under_first : (lo : Record) (hi : Option Record) (r : Tree) → Under hi lo → Follow lo hi r
    → Under (next_low hi r) lo
under_first lo hi (leaf xs) u f = absurd f
under_first lo hi end u f = u
under_first lo hi (entry low b c r) u f = f.0

pub under_low : (lo : Record) (hi : Option Record) (r : Tree) → Under hi lo → Follow lo hi r
    → Under hi (low_of lo r)
under_low lo hi (leaf xs) u f = absurd f
under_low lo hi end u f = u
under_low lo hi (entry low b c r) u f = f.1

-- The entries of a row begin among its keys.
pub row_starts : (key : Record → Record) (level : ℕ) (base : Record) (hi : Option Record)
    (lo : Record) (c : Tree) → 1 ≤ level → is_below lo base ≡ false → Under hi lo
    → IsTree key c lo hi
    → EachEntry (λ l k top b. l ≡ level → InRange base hi k) level lo hi c
row_starts key level base hi lo (leaf xs) some f u is = tt
row_starts key level base hi lo end some f u is = tt
row_starts key level base hi lo (entry low b c (leaf xs)) some f u is = absurd is.3
row_starts key level base hi lo (entry low b c end) some f u is = (
  λ e. record { low = f; high = u },
  each_map (λ l k top x. l ≤ level - 1) (λ l k top x. l ≡ level → InRange base hi k)
      (λ l k top x h e. absurd (omega (arith, h, e, some)))
      (level - 1) lo hi c (each_level (level - 1) lo hi c),
  tt,
)
row_starts key level base hi lo (entry low b c (entry low2 b2 c2 r2)) some f u is = (
  λ e. record { low = f; high = u },
  each_map (λ l k top x. l ≤ level - 1) (λ l k top x. l ≡ level → InRange base hi k)
      (λ l k top x h e. absurd (omega (arith, h, e, some)))
      (level - 1) lo (Some low2) c (each_level (level - 1) lo (Some low2) c),
  row_starts key level base hi low2 (entry low2 b2 c2 r2) some
      (low_less low2 lo base f (below_not lo low2 is.3.0)) is.3.1 is.4,
)

-- at a place
pub each_at : (key : Record → Record) (P Q : ℕ → Record → Option Record → List Record → Type 0)
    → ((l : ℕ) (k : Record) (top : Option Record) (b : List Record) → P l k top b → Q l k top b)
    → (p : Place) (t u : Tree) → SameStart t u → (level : ℕ) (lo : Record) (hi : Option Record)
    → (i : IsTree key (put_at p t) lo hi)
    → (EachEntry P (place_level p level) (placed key p t lo hi i).low (placed key p t lo hi i).high t
    → EachEntry Q (place_level p level) (placed key p t lo hi i).low (placed key p t lo hi i).high u)
    → EachEntry P level lo hi (put_at p t) → EachEntry Q level lo hi (put_at p u)
each_at key P Q keep here t u s level lo hi i f h = f h
each_at key P Q keep (under low b r p) t u s level lo hi i f h = (
  keep level lo (next_low hi r) b h.0,
  each_at key P Q keep p t u s (level - 1) lo (next_low hi r) i.2 f h.1,
  each_map P Q keep level (low_of lo r) hi r h.2,
)
each_at key P Q keep (past low b c p) t u s level lo hi i f h =
    let x = put_at p t in
    let y = put_at p u in
    let e = next_same hi x y (start_put p t u s) in
    let l = low_same lo x y (start_put p t u s) in
    let A : Option Record → Type 0 = λ top. Q level lo top b in
    let B : Option Record → Type 0 = λ top. EachEntry Q (level - 1) lo top c in
    let C : Record → Type 0 = λ k. EachEntry Q level k hi y in (
      subst A e (keep level lo (next_low hi x) b h.0),
      subst B e (each_map P Q keep (level - 1) lo (next_low hi x) c h.1),
      subst C l (each_at key P Q keep p t u s level (low_of lo x) hi i.4 f h.2),
    )

-- the range of a place is not empty
pub under_placed : (key : Record → Record) (p : Place) (t : Tree) (lo : Record) (hi : Option Record)
    → (i : IsTree key (put_at p t) lo hi) → Under hi lo
    → Under (placed key p t lo hi i).high (placed key p t lo hi i).low
under_placed key here t lo hi i u = u
under_placed key (under low b r p) t lo hi i u =
    under_placed key p t lo (next_low hi r) i.2 (under_first lo hi r u i.3)
under_placed key (past low b c p) t lo hi i u =
    under_placed key p t (low_of lo (put_at p t)) hi i.4 (under_low lo hi (put_at p t) u i.3)

module _ (P Q : ℕ → Record → Option Record → List Record → Type 0)
    (keep : (l : ℕ) (k : Record) (top : Option Record) (b : List Record) → P l k top b → Q l k top b)
    (level : ℕ)
    (grow : (k : Record) (top : Option Record) (b : List Record) (op : Record) → P level k top b
    → Q level k top (b ++ op ∷ [])) where
  pour_at : (z : Bool) (low : Record) (b : List Record) (c r s : Tree) (op lo : Record)
      (hi : Option Record) → SameStart r s → EachEntry P level lo hi (entry low b c r)
      → EachEntry Q level (low_of lo r) hi s
      → EachEntry Q level lo hi (cond z (entry low b c s) (entry low (b ++ op ∷ []) c r))
  pour_at true low b c r s op lo hi st h later =
      let e = next_same hi r s st in
      let A : Option Record → Type 0 = λ top. Q level lo top b in
      let B : Option Record → Type 0 = λ top. EachEntry Q (level - 1) lo top c in
      let C : Record → Type 0 = λ k. EachEntry Q level k hi s in (
        subst A e (keep level lo (next_low hi r) b h.0),
        subst B e (each_map P Q keep (level - 1) lo (next_low hi r) c h.1),
        subst C (low_same lo r s st) later,
      )
  pour_at false low b c r s op lo hi st h later = (
    grow lo (next_low hi r) b op h.0,
    each_map P Q keep (level - 1) lo (next_low hi r) c h.1,
    each_map P Q keep level (low_of lo r) hi r h.2,
  )

  -- one operation more in a buffer of a row
  pub each_pour_one : (key : Record → Record) (c : Tree) (op lo : Record) (hi : Option Record)
      → EachEntry P level lo hi c → EachEntry Q level lo hi (pour_one key c op)
  each_pour_one key (leaf xs) op lo hi h = tt
  each_pour_one key end op lo hi h = tt
  each_pour_one key (entry low b c r) op lo hi h = pour_at (is_later (key op) r) low b c r
      (pour_one key r op) op lo hi (pour_start key r op) h
      (each_pour_one key r op (low_of lo r) hi h.2)

-- Operations that are poured over a row leave what holds of buffers of any length.
pub each_pour : (P : ℕ → Record → Option Record → List Record → Type 0) (level : ℕ)
    → ((k : Record) (top : Option Record) (b : List Record) (op : Record) → P level k top b
    → P level k top (b ++ op ∷ []))
    → (key : Record → Record) (c : Tree) (ops : List Record) (lo : Record) (hi : Option Record)
    → EachEntry P level lo hi c → EachEntry P level lo hi (pour key c ops)
each_pour P level grow key c [] lo hi h = h
each_pour P level grow key c (op ∷ ops) lo hi h =
    each_pour P level grow key (pour_one key c op) ops lo hi
    (each_pour_one P P (λ l k top b a. a) level grow key c op lo hi h)

-- Each buffer of the row gets no more than all of them.
pub each_pour_count : (P : ℕ → ℕ → Record → Option Record → List Record → Type 0) (level : ℕ)
    → ((x l : ℕ) (k : Record) (top : Option Record) (b : List Record) → P x l k top b
    → P (x + 1) l k top b)
    → ((x : ℕ) (k : Record) (top : Option Record) (b : List Record) (op : Record)
    → P x level k top b → P (x + 1) level k top (b ++ op ∷ []))
    → (key : Record → Record) (x z : ℕ) (c : Tree) (ops : List Record) (lo : Record)
    (hi : Option Record) → x + length ops ≡ z → EachEntry (P x) level lo hi c
    → EachEntry (P z) level lo hi (pour key c ops)
each_pour_count P level keep grow key x z c [] lo hi e h =
    let A : ℕ → Type 0 = λ n. EachEntry (P n) level lo hi c in
    let same : x ≡ z = omega (arith, e) in
    subst A same h
each_pour_count P level keep grow key x z c (op ∷ ops) lo hi e h =
    each_pour_count P level keep grow key (x + 1) z (pour_one key c op) ops lo hi
    (omega (arith, e))
    (each_pour_one (P x) (P (x + 1)) (keep x) level (grow x) key c op lo hi h)

-- where the last entries begin isn't read from the range if there are none
pub each_low : (P : ℕ → Record → Option Record → List Record → Type 0) (level : ℕ) (lo other : Record)
    (hi : Option Record) (r : Tree) → EachEntry P level (low_of lo r) hi r
    → EachEntry P level (low_of other r) hi r
each_low P level lo other hi (leaf xs) h = tt
each_low P level lo other hi end h = tt
each_low P level lo other hi (entry low b c r) h = h

-- two rows that were one
pub each_join : (P : ℕ → Record → Option Record → List Record → Type 0) (level : ℕ) (lo : Record)
    (hi : Option Record) (t : Tree) (k : Record) (bk : List Record) (ck rk : Tree) → IsRow t
    → HasEntry t → EachEntry P level lo hi (join_rows t (entry k bk ck rk))
    → EachEntry P level lo (Some k) t × EachEntry P level k hi (entry k bk ck rk)
each_join P level lo hi (leaf xs) k bk ck rk n m h = absurd m
each_join P level lo hi end k bk ck rk n m h = absurd m
each_join P level lo hi (entry low b c (leaf xs)) k bk ck rk n m h = absurd n
each_join P level lo hi (entry low b c end) k bk ck rk n m h = ((h.0, h.1, tt), h.2)
each_join P level lo hi (entry low b c (entry low2 b2 c2 r2)) k bk ck rk n m h =
    let i = each_join P level low2 hi (entry low2 b2 c2 r2) k bk ck rk n tt h.2 in
    ((h.0, h.1, i.0), i.1)

-- A node is split, over which nothing waits.
pub each_split : (P : ℕ → Record → Option Record → List Record → Type 0)
    → ((l : ℕ) (q : Record) (top : Option Record) → P l q top [])
    → (level : ℕ) (lo : Record) (hi : Option Record) (low : Record) (t : Tree) (k : Record)
    (bk : List Record) (ck rk r : Tree) → IsRow t → HasEntry t
    → EachEntry P level lo hi (entry low [] (join_rows t (entry k bk ck rk)) r)
    → EachEntry P level lo hi (entry low [] t (entry k [] (entry k bk ck rk) r))
each_split P none level lo hi low t k bk ck rk r n m h =
    let i = each_join P (level - 1) lo (next_low hi r) t k bk ck rk n m h.1 in (
      none level lo (Some k),
      i.0,
      (none level k (next_low hi r), i.1, each_low P level lo k hi r h.2),
    )

-- A root comes over another one.
pub each_grown : (P : ℕ → Record → Option Record → List Record → Type 0)
    → ((l : ℕ) (q : Record) (top : Option Record) → P l q top [])
    → (level : ℕ) (lo : Record) (hi : Option Record) (first : Record) (root : Tree)
    → EachEntry P level lo hi root → EachEntry P (suc level) lo hi (entry first [] root end)
each_grown P none level lo hi first root h =
    let A : ℕ → Type 0 = λ n. EachEntry P n lo hi root in
    let e : level ≡ suc level - 1 = omega arith in
    (none (suc level) lo hi, subst A e h, tt)

-- If each buffer is empty, nothing waits.
pub none_waits : (level : ℕ) (lo : Record) (hi : Option Record) (t : Tree)
    → EachEntry (λ l k top b. b ≡ []) level lo hi t → waiting_in t ≡ []
none_waits level lo hi (leaf xs) h = refl
none_waits level lo hi end h = refl
none_waits level lo hi (entry low b c r) h =
    let W : List Record → Type 0 = λ ws. (ws ++ b) ++ waiting_in r ≡ [] in
    let B : List Record → Type 0 = λ ws. ([] ++ ws) ++ waiting_in r ≡ [] in
    subst W (sym (none_waits (level - 1) lo (next_low hi r) c h.1))
    (subst B (sym h.0) (none_waits level (low_of lo r) hi r h.2))
