-- Low keys that rise, and how they stay so.
use Rattle.std.specs.Prelude.{◌≡◌, true, ℕ, zero, suc, ◌+◌, ◌-◌, ◌<◌, ◌≤◌, List, [], ◌∷◌, ◌++◌, length, get_or, set, drop, take, insert}
use Rattle.std.proofs.Common.{ap, sym, ◌∙◌, refl, arith, subst}
use Rattle.std.specs.Ordering.{is_lt}
use Rattle.std.specs.declared.cmp.Ordering.{Ordering}
use Rattle.std.specs.declared.cmp.Ordering.TheVariants.{Less, Equal, Greater}
use Rattle.std.proofs.lemmas.Bool.{false≢true}
use Rattle.em_record.specs.declared.record.Record.{Record}
use Rattle.em_record.specs.Order.{record_cmp, is_below}
use Rattle.em_record.proofs.Order.{record_total}
use Rattle.em_node.specs.declared.entry.Entry.{Entry}
use Rattle.em_node.specs.Node.{LowsAbove, LowsRise, no_entry}

-- less, as an order
is_less : (o : Ordering) → is_lt o ≡ true → o ≡ Less
is_less Less e = refl
is_less Equal e = absurd (false≢true e)
is_less Greater e = absurd (false≢true e)

-- of three records
pub below_trans : (x y z : Record) → is_below x y ≡ true → is_below y z ≡ true → is_below x z ≡ true
below_trans x y z h k = ap is_lt (record_total.trans x y z
    (is_less (record_cmp x y) h) (is_less (record_cmp y z) k))

-- low keys above a key are above a lesser one
pub lows_trans : (x u : Record) (es : List Entry) → is_below x u ≡ true → LowsAbove u es → LowsAbove x es
lows_trans x u [] h a = tt
lows_trans x u (e ∷ es) h a = (below_trans x u e.low h a.0, lows_trans x u es h a.1)

-- a place before which one entry stands at least, as that entry's and one more
one_before : (at : ℕ) → suc at - 1 ≡ at
one_before at = omega arith

-- the low key of one place is above
above_at : (low : Record) (es : List Entry) (at : ℕ) → at < length es → LowsAbove low es
    → is_below low (get_or es at no_entry).low ≡ true
above_at low [] at h a = absurd (omega arith)
above_at low (e ∷ es) zero h a = a.0
above_at low (e ∷ es) (suc at) h a = above_at low es at (omega arith) a.1

-- the first low key is below one that is above the entry before its place
first_below : (f : Entry) (fs : List Entry) (at : ℕ) (low : Record) → at ≤ length fs → LowsAbove f.low fs
    → is_below (get_or (f ∷ fs) at no_entry).low low ≡ true → is_below f.low low ≡ true
first_below f fs zero low h a b = b
first_below f fs (suc k) low h a b =
    below_trans f.low (get_or fs k no_entry).low low (above_at f.low fs k (omega arith) a) b

-- low keys above a key stay so, if an entry is put in,
above_insert : (low : Record) (es : List Entry) (at : ℕ) (e : Entry) → at ≤ length es → LowsAbove low es
    → is_below low e.low ≡ true → LowsAbove low (take at es ++ e ∷ drop at es)
above_insert low es zero e h a b = (b, a)
above_insert low [] (suc at) e h a b = absurd (omega arith)
above_insert low (f ∷ fs) (suc at) e h a b = (a.0, above_insert low fs at e (omega arith) a.1 b)

-- if one is replaced,
above_set : (low : Record) (es : List Entry) (at : ℕ) (e : Entry) → LowsAbove low es
    → is_below low e.low ≡ true → LowsAbove low (set es at e)
above_set low [] at e a b = a
above_set low (f ∷ fs) zero e a b = (b, a.1)
above_set low (f ∷ fs) (suc at) e a b = (a.0, above_set low fs at e a.1 b)

-- a low key below the next one
above_first : (e : Entry) (es : List Entry)
    → (0 < length es → is_below e.low (get_or es 0 no_entry).low ≡ true) → LowsRise es → LowsAbove e.low es
above_first e [] n r = tt
above_first e (f ∷ fs) n r = (n (omega arith), lows_trans e.low f.low fs (n (omega arith)) r.0)

-- the entry before a place, without the first
earlier : (f : Entry) (fs : List Entry) (at : ℕ) (low : Record) → 0 < at
    → is_below (get_or (f ∷ fs) at no_entry).low low ≡ true
    → is_below (get_or fs (at - 1) no_entry).low low ≡ true
earlier f fs zero low o b = absurd (omega arith)
earlier f fs (suc k) low o b =
    ap (λ j. is_below (get_or fs j no_entry).low low) (one_before k) ∙ b

-- An entry between its neighbours keeps the order of the low keys, if it is put in
pub rises_insert : (es : List Entry) (at : ℕ) (e : Entry) → at ≤ length es → LowsRise es
    → (0 < at → is_below (get_or es (at - 1) no_entry).low e.low ≡ true)
    → (at < length es → is_below e.low (get_or es at no_entry).low ≡ true)
    → LowsRise (insert es at e)
rises_insert es zero e h r before after = (above_first e es after r, r)
rises_insert [] (suc at) e h r before after = absurd (omega arith)
rises_insert (f ∷ fs) (suc at) e h r before after =
    let es : List Entry = f ∷ fs in
    let b : is_below (get_or es at no_entry).low e.low ≡ true =
    ap (λ k. is_below (get_or es k no_entry).low e.low) (sym (one_before at)) ∙ before (omega arith) in (
      above_insert f.low fs at e (omega arith) r.0 (first_below f fs at e.low (omega arith) r.0 b),
      rises_insert fs at e (omega arith) r.1 (λ o. earlier f fs at e.low o b) (λ l. after (omega arith)),
    )

-- or replaces another,
pub rises_set : (es : List Entry) (at : ℕ) (e : Entry) → at < length es → LowsRise es
    → (0 < at → is_below (get_or es (at - 1) no_entry).low e.low ≡ true)
    → (at + 1 < length es → is_below e.low (get_or es (at + 1) no_entry).low ≡ true)
    → LowsRise (set es at e)
rises_set [] at e h r before after = absurd (omega arith)
rises_set (f ∷ fs) zero e h r before after = (above_first e fs (λ o. after (omega arith)) r.1, r.1)
rises_set (f ∷ fs) (suc at) e h r before after =
    let es : List Entry = f ∷ fs in
    let b : is_below (get_or es at no_entry).low e.low ≡ true =
    ap (λ k. is_below (get_or es k no_entry).low e.low) (sym (one_before at)) ∙ before (omega arith) in
    let two : suc (at + 1) ≡ suc at + 1 = omega arith in (
      above_set f.low fs at e r.0 (first_below f fs at e.low (omega arith) r.0 b),
      rises_set fs at e (omega arith) r.1 (λ o. earlier f fs at e.low o b)
          (λ l. ap (λ k. is_below e.low (get_or es k no_entry).low) two ∙ after (omega arith)),
    )

-- also by one with the same low key,
above_same : (low : Record) (es : List Entry) (at : ℕ) (e : Entry) → at < length es
    → e.low ≡ (get_or es at no_entry).low → LowsAbove low es → LowsAbove low (set es at e)
above_same low es at e h s a = above_set low es at e a (ap (λ k. is_below low k) s ∙ above_at low es at h a)

-- also if its low key is that of the other.
pub rises_same : (es : List Entry) (at : ℕ) (e : Entry) → at < length es
    → e.low ≡ (get_or es at no_entry).low → LowsRise es → LowsRise (set es at e)
rises_same [] at e h s r = absurd (omega arith)
rises_same (f ∷ fs) zero e h s r =
    let P : Record → Type 0 = λ k. LowsAbove k fs in (subst P (sym s) r.0, r.1)
rises_same (f ∷ fs) (suc at) e h s r =
    (above_same f.low fs at e (omega arith) s r.0, rises_same fs at e (omega arith) s r.1)

-- and if others come after them
above_append : (low : Record) (es us : List Entry) → LowsAbove low es → LowsAbove low us
    → LowsAbove low (es ++ us)
above_append low [] us a b = b
above_append low (e ∷ es) us a b = (a.0, above_append low es us a.1 b)

-- Entries after others keep the order, if the first is above the last of the others.
pub rises_append : (es : List Entry) (g : Entry) (gs : List Entry) → LowsRise es → LowsRise (g ∷ gs)
    → (0 < length es → is_below (get_or es (length es - 1) no_entry).low g.low ≡ true)
    → LowsRise (es ++ g ∷ gs)
rises_append [] g gs r s last = s
rises_append (f ∷ fs) g gs r s last =
    let es : List Entry = f ∷ fs in
    let n = length fs in
    let b : is_below (get_or es n no_entry).low g.low ≡ true =
    ap (λ k. is_below (get_or es k no_entry).low g.low) (sym (one_before n)) ∙ last (omega arith) in
    let low : is_below f.low g.low ≡ true = first_below f fs n g.low (omega arith) r.0 b in (
      above_append f.low fs (g ∷ gs) r.0 (low, lows_trans f.low g.low gs low s.0),
      rises_append fs g gs r.1 s (λ o. earlier f fs n g.low o b),
    )

-- low keys above a key stay so, if one is taken out
above_remove : (low : Record) (es : List Entry) (at : ℕ) → LowsAbove low es
    → LowsAbove low (take at es ++ drop (suc at) es)
above_remove low [] zero a = tt
above_remove low [] (suc at) a = tt
above_remove low (e ∷ es) zero a = a.1
above_remove low (e ∷ es) (suc at) a = (a.0, above_remove low es at a.1)

-- The order is kept, if an entry is taken out,
pub rises_remove : (es : List Entry) (at : ℕ) → LowsRise es → LowsRise (take at es ++ drop (suc at) es)
rises_remove [] zero r = tt
rises_remove [] (suc at) r = tt
rises_remove (e ∷ es) zero r = r.1
rises_remove (e ∷ es) (suc at) r = (above_remove e.low es at r.0, rises_remove es at r.1)

-- low keys above a key, of the first entries
above_take : (low : Record) (at : ℕ) (es : List Entry) → LowsAbove low es → LowsAbove low (take at es)
above_take low zero es a = tt
above_take low (suc at) [] a = tt
above_take low (suc at) (e ∷ es) a = (a.0, above_take low at es a.1)

-- and so is that of the first entries
pub rises_take : (at : ℕ) (es : List Entry) → LowsRise es → LowsRise (take at es)
rises_take zero es r = tt
rises_take (suc at) [] r = tt
rises_take (suc at) (e ∷ es) r = (above_take e.low at es r.0, rises_take at es r.1)

-- and of the others.
pub rises_drop : (at : ℕ) (es : List Entry) → LowsRise es → LowsRise (drop at es)
rises_drop zero es r = r
rises_drop (suc at) [] r = tt
rises_drop (suc at) (e ∷ es) r = rises_drop at es r.1
