-- Which buffers may be full inside a call, and how long one is at most, over the events of a call.
use Rattle.std.specs.Prelude.{◌≡◌, ◌⊎◌, true, false, ℕ, ◌+◌, ◌-◌, ◌*◌, ◌<◌, ◌≤◌, List, [], ◌∷◌, ◌++◌, length, Option, Some}
use Rattle.std.proofs.Common.{refl, arith, inl, inr, ⊎_elim}
use Rattle.std.proofs.lemmas.Bool.{cases_Bool, cases_lt}
use Rattle.std.proofs.Math.Nat.{mul-le-mul_right}
use Rattle.std.proofs.lemmas.List.{length-append}
use Rattle.em_record.specs.declared.record.Record.{Record}
use Rattle.em_record.specs.Order.{is_below}
use Rattle.em_settle.proofs.Keys.{below_itself}
use Rattle.em_tree_model.specs.Places.{Place, put_at}
use Rattle.em_tree_model.specs.Pouring.{pour}
use Rattle.em_tree_model.specs.Ranges.{InRange, IsTree, Under, low_of, next_low}
use Rattle.em_tree_model.specs.Tree.{Tree}
use Rattle.em_tree_model.specs.Tree.Tree.{entry}
use Rattle.em_trunk.specs.Buffers.{AllOver, Due, IsBounded, IsDue, IsThin, NoneFrom, OnlyFull, OrDue}
use Rattle.em_tree_model.proofs.Events.{placed}
use Rattle.em_trunk.specs.Entries.{EachEntry, place_level}
use Rattle.em_trunk.proofs.Entries.{each_at, each_both, each_level, each_map, each_pour, each_pour_count, row_starts, under_first, under_placed}

-- a buffer with fewer than one operation
pub is_empty : (b : List Record) → length b < 1 → b ≡ []
is_empty [] h = refl
is_empty (x ∷ xs) h = absurd (omega (arith, h))

module _ (limit : ℕ) (Q : ℕ → Record → Type 0) (at : ℕ) (from : Record) (until : Option Record)
  where
    -- a buffer that may be full may be full if others may too
    pub full_more : (l : ℕ) (k : Record) (top : Option Record) (b : List Record)
        → OnlyFull limit Q l k top b → OnlyFull limit (OrDue Q at from until) l k top b
    full_more l k top b a f = inl (a f)

    -- If none of those that are due is full, only the others may be.
    pub full_done : (l : ℕ) (k : Record) (top : Option Record) (b : List Record)
        → OnlyFull limit (OrDue Q at from until) l k top b
        → (l ≡ at → InRange from until k → length b < limit) → OnlyFull limit Q l k top b
    full_done l k top b a thin f = ⊎_elim
        (λ (q : Q l k). q)
        (λ (d : (l ≡ at) × InRange from until k).
        let t = thin d.0 d.1 in absurd (omega (arith, t, f)))
        (a f)

    -- If none is full among the first keys, those that are due begin after these.
    pub full_narrows : (mid : Record) (l : ℕ) (k : Record) (top : Option Record) (b : List Record)
        → OnlyFull limit (OrDue Q at from until) l k top b
        → (l ≡ at → InRange from (Some mid) k → length b < limit)
        → OnlyFull limit (OrDue Q at mid until) l k top b
    full_narrows mid l k top b a thin f = ⊎_elim
        (λ (q : Q l k). inl q)
        (λ (d : (l ≡ at) × InRange from until k). ⊎_elim
        (λ (low : is_below k mid ≡ true).
        let t = thin d.0 (record { low = d.1.low; high = low }) in absurd (omega (arith, t, f)))
        (λ (high : is_below k mid ≡ false). inr (d.0, record { low = high; high = d.1.high }))
        (cases_Bool (is_below k mid)))
        (a f)

-- If nothing but levels below one may have an operation, nothing waits from it on.
pub none_from : (at l : ℕ) (k : Record) (top : Option Record) (b : List Record)
    → OnlyFull 1 (λ level lo. level < at) l k top b → NoneFrom at l k top b
none_from at l k top b a above = is_empty b (⊎_elim
    (λ (few : length b < 1). few)
    (λ (some : 1 ≤ length b). let q = a some in absurd (omega (arith, q, above)))
    (cases_lt (length b) 1))

-- The buffer of an entry is emptied into its child: the child's buffers may be full then.
pub full_emptied : (key : Record → Record) (limit : ℕ) (Q : ℕ → Record → Type 0) (low : Record)
    (b : List Record) (c r : Tree) (level : ℕ) (lo : Record) (hi : Option Record) → 2 ≤ level
    → 0 < limit → IsTree key (entry low b c r) lo hi → Under hi lo
    → EachEntry (OnlyFull limit Q) level lo hi (entry low b c r)
    → EachEntry (OnlyFull limit (OrDue Q (level - 1) lo (next_low hi r))) level lo hi
    (entry low [] (pour key c b) r)
full_emptied key limit Q low b c r level lo hi two some is u h =
    let top = next_low hi r in
    let down = level - 1 in
    let Due : ℕ → Record → Type 0 = OrDue Q down lo top in
    let A : ℕ → Record → Option Record → List Record → Type 0 =
    λ l k t x. l ≡ down → InRange lo top k in
    let B : ℕ → Record → Option Record → List Record → Type 0 =
    λ l k t x. (l ≡ down → InRange lo top k) × (limit ≤ length x → Due l k) in
    let starts : EachEntry A down lo top c = row_starts key down lo top lo c (omega (arith, two))
    (below_itself lo) (under_first lo hi r u is.3) is.2 in
    let old : EachEntry B down lo top c =
    each_map (λ l k t x. A l k t x × OnlyFull limit Q l k t x) B
    (λ l k t x m. (m.0, λ (f : limit ≤ length x). inl (m.1 f))) down lo top c
    (each_both A (OnlyFull limit Q) down lo top c starts h.1) in
    let new : EachEntry B down lo top (pour key c b) =
    each_pour B down (λ k t x op m. (m.0, λ (f : limit ≤ length (x ++ op ∷ [])). inr (refl, m.0 refl)))
    key c b lo top old in (
      λ (f : limit ≤ 0). absurd (omega (arith, f, some)),
      each_map B (OnlyFull limit Due) (λ l k t x m. m.1) down lo top (pour key c b) new,
      each_map (OnlyFull limit Q) (OnlyFull limit Due) (full_more limit Q down lo top) level
          (low_of lo r) hi r h.2,
    )

-- the bound of a row's buffers, and of those below
bounded_as : (top limit level l n x : ℕ) → level + 1 ≤ top → n < (top + 1 - level) * limit
    → (l ≡ level → x < limit + n) → (x < limit) ⊎ (l ≡ level) → l ≤ level
    → x < (top + 2 - l) * limit
bounded_as top limit level l n x low few row other le = ⊎_elim
    (λ (thin : x < limit).
    let m : 1 * limit ≤ (top + 2 - l) * limit = mul-le-mul_right limit (omega (arith, low, le)) in
    omega (arith, m, thin))
    (λ (e : l ≡ level).
    let a = row e in
    let d : top + 2 - l ≡ 1 + (top + 1 - level) = omega (arith, e, low) in
    rw d (omega (arith, a, few)))
    other

-- A buffer of fewer than x operations is poured over a row of thin buffers: each has fewer than
-- x more.
pub bounded_poured : (key : Record → Record) (top limit : ℕ) (c : Tree) (ops : List Record)
    (level : ℕ) (lo : Record) (hi : Option Record) → 1 ≤ level → level + 1 ≤ top
    → length ops < (top + 1 - level) * limit
    → EachEntry (IsThin limit) level lo hi c
    → EachEntry (IsBounded top limit) level lo hi (pour key c ops)
bounded_poured key top limit c ops level lo hi some low few h =
    let C : ℕ → ℕ → Record → Option Record → List Record → Type 0 = λ x l k t b.
    (l ≡ level → length b < x) × (length b < limit ⊎ (l ≡ level)) × (l ≤ level) in
    let old : EachEntry (C limit) level lo hi c =
    each_map (λ l k t b. IsThin limit l k t b × (l ≤ level)) (C limit)
    (λ l k t b m. (λ (e : l ≡ level). m.0, inl m.0, m.1)) level lo hi c
    (each_both (IsThin limit) (λ l k t b. l ≤ level) level lo hi c h (each_level level lo hi c)) in
    let new : EachEntry (C (limit + length ops)) level lo hi (pour key c ops) =
    each_pour_count C level
    (λ x l k t b m. (λ (e : l ≡ level). (let a = m.0 e in omega (arith, a)), m.1, m.2))
    (λ x k t b op m. (
      λ (e : level ≡ level). (let a = m.0 refl in let n = length-append b (op ∷ []) in omega (arith, a, n)),
      inr refl,
      m.2,
    )) key limit (limit + length ops) c ops lo hi refl old in
    each_map (C (limit + length ops)) (IsBounded top limit)
    (λ l k t b m. bounded_as top limit level l (length ops) (length b) low few m.0 m.1 m.2)
    level lo hi (pour key c ops) new

-- those that are due over a level are of levels above it
pub due_over : (at : ℕ) (ds : List Due) (level : ℕ) (lo : Record) → AllOver at ds
    → IsDue ds level lo → at < level
due_over at [] level lo o h = absurd h
due_over at (d ∷ ds) level lo o h = ⊎_elim
    (λ (later : IsDue ds level lo). due_over at ds level lo o.1 later)
    (λ (own : (level ≡ d.level) × InRange d.from d.until lo). omega (arith, o.0, own.0))
    h

-- Below the level whose buffers are emptied none is full.
pub thin_below : (limit : ℕ) (d : Due) (others : List Due) → AllOver d.level others
    → (l : ℕ) (k : Record) (top : Option Record) (b : List Record)
    → OnlyFull limit (IsDue (d ∷ others)) l k top b → l < d.level → length b < limit
thin_below limit d others o l k top b a low = ⊎_elim
    (λ (thin : length b < limit). thin)
    (λ (full : limit ≤ length b). absurd (⊎_elim
    (λ (other : IsDue others l k).
    let h = due_over d.level others l k o other in omega (arith, h, low))
    (λ (own : (l ≡ d.level) × InRange d.from d.until k). omega (arith, own.0, low))
    (a full)))
    (cases_lt (length b) limit)

-- If none is due, no buffer is full.
pub none_due : (limit l : ℕ) (k : Record) (top : Option Record) (b : List Record)
    → OnlyFull limit (IsDue []) l k top b → IsThin limit l k top b
none_due limit l k top b a = ⊎_elim
    (λ (thin : length b < limit). thin)
    (λ (full : limit ≤ length b). absurd (a full))
    (cases_lt (length b) limit)

-- The same of an entry at a place of a whole tree.
pub full_emptied_at : (key : Record → Record) (limit : ℕ) (Q : ℕ → Record → Type 0) (p : Place)
    (low : Record) (b : List Record) (c r : Tree) (level : ℕ) (lo : Record) (hi : Option Record)
    → 2 ≤ place_level p level → 0 < limit
    → (i : IsTree key (put_at p (entry low b c r)) lo hi) → Under hi lo
    → EachEntry (OnlyFull limit Q) level lo hi (put_at p (entry low b c r))
    → (let at = placed key p (entry low b c r) lo hi i in
    EachEntry (OnlyFull limit (OrDue Q (place_level p level - 1) at.low (next_low at.high r))) level
    lo hi (put_at p (entry low [] (pour key c b) r)))
full_emptied_at key limit Q p low b c r level lo hi two some i u h =
    let t = entry low b c r in
    let at = placed key p t lo hi i in
    let top = next_low at.high r in
    let down = place_level p level - 1 in
    each_at key (OnlyFull limit Q) (OnlyFull limit (OrDue Q down at.low top))
    (full_more limit Q down at.low top) p t (entry low [] (pour key c b) r) refl level lo hi i
    (λ g. full_emptied key limit Q low b c r (place_level p level) at.low at.high two some at.is
    (under_placed key p t lo hi i u) g)
    h

-- A load leaves a buffer that is full only if it was.
pub full_loaded : (limit : ℕ) (Q : ℕ → Record → Type 0) (load rest : List Record) (l : ℕ)
    (k : Record) (top : Option Record) → OnlyFull limit Q l k top (load ++ rest)
    → OnlyFull limit Q l k top rest
full_loaded limit Q load rest l k top a f =
    let n = length-append load rest in a (omega (arith, n, f))
