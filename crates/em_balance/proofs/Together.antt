-- The low keys of two neighbouring nodes and of the node over them.
use Rattle.std.proofs.Common.{◌≡◌, Bool, ℕ, zero, suc, true, false, Option, Some, None, ◌+◌, ◌-◌, ◌*◌, ◌/◌, ◌<◌, ◌≤◌, List, [], ◌∷◌, ◌++◌, get_or, set, length, length-append, take, drop, refl, sym, ap, ◌∙◌, subst, arith}
use Rattle.em_record.specs.Order.{is_below}
use Rattle.em_record.specs.declared.record.Record.{Record}
use Rattle.em_node.specs.declared.entry.Entry.{Entry}
use Rattle.em_node.specs.Node.{Is, LowsAbove, LowsRise, entries_of, level_of, no_entry}
use Rattle.em_node.proofs.Orders.{below_trans, lows_trans, rises_append, rises_set}
use Rattle.em_balance.specs.Fusing.{AreTogether, DealsFrames, ShareFrames, both_entries, from_low, joined_entries, parted_entry}
use Rattle.em_balance.specs.Node.{LowsBelow}

-- one of these low keys
pub below_at : (es : List Entry) (key : Record) (n : ℕ) → n < length es → LowsBelow es key
    → is_below (get_or es n no_entry).low key ≡ true
below_at [] key n l h = absurd (omega arith)
below_at (e ∷ es) key zero l h = h.0
below_at (e ∷ es) key (suc n) l h = below_at es key n (omega arith) h.1

pub above_at : (es : List Entry) (key : Record) (n : ℕ) → n < length es → LowsAbove key es
    → is_below key (get_or es n no_entry).low ≡ true
above_at [] key n l h = absurd (omega arith)
above_at (e ∷ es) key zero l h = h.0
above_at (e ∷ es) key (suc n) l h = above_at es key n (omega arith) h.1

-- a key below the second low key is below all but the first
pub above_second : (es : List Entry) (key : Record) → LowsRise es → 1 < length es
    → is_below key (get_or es 1 no_entry).low ≡ true → LowsAbove key (drop 1 es)
above_second [] key r l h = tt
above_second (e ∷ []) key r l h = tt
above_second (e ∷ f ∷ es) key r l h = (h, lows_trans key f.low es h r.1.0)

pub above_few : (es : List Entry) (key : Record) → length es < 2 → LowsAbove key (drop 1 es)
above_few [] key l = tt
above_few (e ∷ []) key l = tt
above_few (e ∷ f ∷ es) key l = absurd (omega arith)

pub second_at : (es : List Entry) (key : Record) → 1 < length es → LowsAbove key (drop 1 es)
    → is_below key (get_or es 1 no_entry).low ≡ true
second_at [] key l h = absurd (omega arith)
second_at (e ∷ []) key l h = absurd (omega arith)
second_at (e ∷ f ∷ es) key l h = h.0

-- Low keys still rise, if the first is lower than the others.
pub from_rises : (ys : List Entry) (key : Record) → LowsAbove key (drop 1 ys) → LowsRise ys
    → LowsRise (from_low key ys)
from_rises [] key a r = tt
from_rises (y ∷ ys) key a r = (a, r.1)

pub from_length : (ys : List Entry) (key : Record) → length (from_low key ys) ≡ length ys
from_length [] key = refl
from_length (y ∷ ys) key = refl

pub from_set : (ys : List Entry) (key : Record) (e : Entry) → 0 < length ys
    → e ≡ (record (get_or ys 0 no_entry) { low = key }) → set ys 0 e ≡ from_low key ys
from_set [] key e l h = absurd (omega arith)
from_set (y ∷ ys) key e l h = ap (λ x. x ∷ ys) h

pub from_none : (ys : List Entry) (key : Record) → length ys ≡ 0 → from_low key ys ≡ ys
from_none [] key h = refl
from_none (y ∷ ys) key h = absurd (omega arith)

-- They rise through both nodes.
pub both_rise : (xs ys : List Entry) (key : Record) → LowsRise xs → LowsRise ys
    → (0 < length xs → is_below (get_or xs (length xs - 1) no_entry).low key ≡ true)
    → LowsAbove key (drop 1 ys) → LowsRise (both_entries key xs ys)
both_rise xs [] key r s last a =
    let P : List Entry → Type 0 = LowsRise in subst P (sym (append_none xs)) r
  where
    append_none : (zs : List Entry) → zs ++ [] ≡ zs
    append_none [] = refl
    append_none (z ∷ zs) = ap (λ ws. z ∷ ws) (append_none zs)
both_rise xs (y ∷ ys) key r s last a =
    rises_append xs (record y { low = key }) ys r (a, s.1) last

-- A low key between those of two entries.
pub between_set : (ps : List Entry) (at : ℕ) (key : Record) (e : Entry) → at + 1 < length ps → LowsRise ps
    → is_below (get_or ps at no_entry).low key ≡ true
    → (at + 2 < length ps → is_below key (get_or ps (at + 2) no_entry).low ≡ true) → e.low ≡ key
    → LowsRise (set ps (at + 1) e)
between_set ps at key e l r before after h =
    let one : at + 1 - 1 ≡ at = omega arith in
    let two : at + 1 + 1 ≡ at + 2 = omega arith in
    rises_set ps (at + 1) e l r
    (λ o. let P : ℕ → Type 0 = λ n. is_below (get_or ps n no_entry).low e.low ≡ true in
    subst P (sym one) (rw h before))
    (λ o. let P : ℕ → Type 0 = λ n. is_below e.low (get_or ps n no_entry).low ≡ true in
    subst P (sym two) (rw h (after (omega arith))))

-- one low key is below the next one
pub rises_at : (ps : List Entry) (n : ℕ) → n + 1 < length ps → LowsRise ps
    → is_below (get_or ps n no_entry).low (get_or ps (n + 1) no_entry).low ≡ true
rises_at [] n l r = absurd (omega arith)
rises_at (p ∷ ps) zero l r = above_at ps p.low 0 (omega arith) r.0
rises_at (p ∷ ps) (suc n) l r =
    let e : suc (n + 1) ≡ suc n + 1 = omega arith in
    let P : ℕ → Type 0 = λ m. is_below (get_or ps n no_entry).low (get_or (p ∷ ps) m no_entry).low ≡ true in
    subst P e (rises_at ps n (omega arith) r.1)

above_both : (lo : Record) (xs ys : List Entry) → LowsAbove lo xs → LowsAbove lo ys → LowsAbove lo (xs ++ ys)
above_both lo [] ys a b = b
above_both lo (x ∷ xs) ys a b = (a.0, above_both lo xs ys a.1 b)

below_both : (hi : Record) (xs ys : List Entry) → LowsBelow xs hi → LowsBelow ys hi → LowsBelow (xs ++ ys) hi
below_both hi [] ys a b = b
below_both hi (x ∷ xs) ys a b = (a.0, below_both hi xs ys a.1 b)

above_from : (lo key : Record) (ys : List Entry) → is_below lo key ≡ true → LowsAbove key (drop 1 ys)
    → LowsAbove lo (from_low key ys)
above_from lo key [] l a = tt
above_from lo key (y ∷ ys) l a = (l, lows_trans lo key ys l a)

below_from : (hi key : Record) (ys : List Entry) → is_below key hi ≡ true → LowsBelow (drop 1 ys) hi
    → LowsBelow (from_low key ys) hi
below_from hi key [] l b = tt
below_from hi key (y ∷ ys) l b = (l, b)

below_more : (xs : List Entry) (key hi : Record) → LowsBelow xs key → is_below key hi ≡ true → LowsBelow xs hi
below_more [] key hi b l = tt
below_more (x ∷ xs) key hi b l = (below_trans x.low key hi b.0 l, below_more xs key hi b.1 l)

-- Of both nodes' entries each but the first has a low key above one that is below those of the first node's
-- other entries,
middle_above : (lo key : Record) (xs ys : List Entry) (n : ℕ) → 1 ≤ n → n < length xs + length ys
    → LowsAbove lo (drop 1 xs) → is_below lo key ≡ true → LowsAbove key (drop 1 ys)
    → is_below lo (get_or (both_entries key xs ys) n no_entry).low ≡ true
middle_above lo key xs ys zero o l a b c = absurd (omega arith)
middle_above lo key [] [] (suc n) o l a b c = absurd (omega arith)
middle_above lo key [] (y ∷ ys) (suc n) o l a b c =
    below_trans lo key (get_or ys n no_entry).low b (above_at ys key n (omega arith) c)
middle_above lo key (x ∷ xs) ys (suc n) o l a b c =
    let m = length-append xs (from_low key ys) in
    let k = from_length ys key in
    above_at (both_entries key xs ys) lo n (omega arith) (above_both lo xs (from_low key ys) a
    (above_from lo key ys b c))

-- and each one below one that is above those of the second.
middle_below : (key hi : Record) (xs ys : List Entry) (n : ℕ) → n < length xs + length ys
    → LowsBelow xs key → is_below key hi ≡ true → LowsBelow (drop 1 ys) hi
    → is_below (get_or (both_entries key xs ys) n no_entry).low hi ≡ true
middle_below key hi xs ys n l a b c =
    let m = length-append xs (from_low key ys) in
    let k = from_length ys key in
    below_at (both_entries key xs ys) hi n (omega arith) (below_both hi xs (from_low key ys)
    (below_more xs key hi a b) (below_from hi key ys b c))

-- So the low key from which on the second node has them may stand over it.
pub middle_lower : {fan : ℕ} {ps : List Entry} {at : ℕ} {xs ys : List Entry} (n : ℕ)
    → AreTogether fan ps at xs ys → at + 1 < length ps → LowsRise ps → 1 ≤ n → n < length xs + length ys
    → is_below (get_or ps at no_entry).low (get_or (joined_entries ps at xs ys) n no_entry).low ≡ true
middle_lower {fan} {ps} {at} {xs} {ys} n t two r o l =
    middle_above (get_or ps at no_entry).low (get_or ps (at + 1) no_entry).low xs ys n o l t.low_above
    (rises_at ps at two r) t.high_above

pub middle_upper : {fan : ℕ} {ps : List Entry} {at : ℕ} {xs ys : List Entry} (n : ℕ)
    → AreTogether fan ps at xs ys → LowsRise ps → n < length xs + length ys → at + 2 < length ps
    → is_below (get_or (joined_entries ps at xs ys) n no_entry).low (get_or ps (at + 2) no_entry).low ≡ true
middle_upper {fan} {ps} {at} {xs} {ys} n t r l o =
    let two : at + 1 + 1 ≡ at + 2 = omega arith in
    let P : ℕ → Type 0 = λ m. is_below (get_or ps (at + 1) no_entry).low (get_or ps m no_entry).low ≡ true in
    middle_below (get_or ps (at + 1) no_entry).low (get_or ps (at + 2) no_entry).low xs ys n l t.low_below
    (subst P two (rises_at ps (at + 1) (omega arith) r)) (t.high_below o)

-- What the frames have after a sharing, by its result.
pub shared_frames : (fan at : ℕ) (p l h parent low high b : List Record) (r : Option Bool)
    → entries_of b ≡ from_low (get_or (entries_of p) (at + 1) no_entry).low (entries_of h)
    → level_of b ≡ level_of h
    → 2 * fan ≤ length (entries_of l) + length (entries_of h)
    → length (entries_of l) + length (entries_of h) < 3 * fan
    → (keep : ℕ) → keep ≡ (length (entries_of l) + length (entries_of h)) / 2
    → ShareFrames at keep p l b parent low high r → DealsFrames fan at p l h parent low high r
shared_frames fan at p l h parent low high b None e v many most keep k s = tt
shared_frames fan at p l h parent low high b (Some true) e v many most keep k s = absurd s
shared_frames fan at p l h parent low high b (Some false) e v many most keep k s =
    let ps = entries_of p in
    let xs = entries_of l in
    let ys = entries_of h in
    let key = (get_or ps (at + 1) no_entry).low in
    let all = joined_entries ps at xs ys in
    let same : xs ++ entries_of b ≡ all = ap (λ zs. xs ++ zs) e in
    let n = length-append xs (from_low key ys) in
    let m = from_length ys key in
    let half : keep ≡ length all / 2 = k ∙ ap (λ z. z / 2) (let q : length xs + length ys ≡ length all = omega arith in q) in
    let P : List Entry → ℕ → Type 0 = λ zs z. Is parent (level_of p) (set ps (at + 1) (parted_entry ps at zs z)) in
    let Q : List Entry → ℕ → Type 0 = λ zs z. Is low (level_of l) (take z zs) in
    let R : List Entry → ℕ → Type 0 = λ zs z. Is high (level_of h) (drop z zs) in
    let S : ℕ → Type 0 = λ z. Is high z (drop keep (xs ++ entries_of b)) in
    record {
      many = omega (arith, many, n, m);
      most = omega (arith, most, n, m);
      parent_is = subst (P all) half (subst (λ zs. P zs keep) same s.0);
      low_is = subst (Q all) half (subst (λ zs. Q zs keep) same s.1.low_is);
      high_is = subst (R all) half (subst (λ zs. R zs keep) same (subst S v s.1.high_is));
    }
