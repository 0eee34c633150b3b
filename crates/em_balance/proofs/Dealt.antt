-- Entries that go from the front of one list to the end of another, and back.
use Rattle.std.proofs.Common.{◌≡◌, ℕ, zero, suc, ◌+◌, ◌-◌, ◌<◌, ◌≤◌, List, [], ◌∷◌, ◌++◌, get_or, length, take, drop, refl, sym, ap, ◌∙◌, subst, arith}
use Rattle.std.specs.Prelude.{insert, remove}
use Rattle.std.proofs.Math.Seq.{drop-cons, take-append-add, take-append_seam, take-length}
use Rattle.std.proofs.lemmas.List.{append-nil, length-drop, take-append-drop, take-append-le}
use Rattle.em_record.specs.declared.record.Record.{Record}
use Rattle.em_node.specs.declared.entry.Entry.{Entry}
use Rattle.em_node.specs.Node.{Is, IsNode, entries_of, level_of, no_entry}
use Rattle.em_node.proofs.Seams.{entries_is, level_is, node_is}
use Rattle.em_balance.specs.Fusing.{DealsEntries}

pub drop_past : (xs ys : List Entry) (n : ℕ) → drop (length xs + n) (xs ++ ys) ≡ drop n ys
drop_past [] ys n = ap (λ k. drop k ys) (omega arith)
drop_past (x ∷ xs) ys n =
    ap (λ k. drop k (x ∷ xs ++ ys)) (let e : suc (length xs) + n ≡ suc (length xs + n) = omega arith in e)
    ∙ drop_past xs ys n

drop_all : (xs : List Entry) (n : ℕ) → length xs ≤ n → drop n xs ≡ []
drop_all [] zero h = refl
drop_all [] (suc n) h = refl
drop_all (x ∷ xs) zero h = absurd (omega arith)
drop_all (x ∷ xs) (suc n) h = drop_all xs n (omega arith)

pub drop_first : (xs ys : List Entry) (n : ℕ) → n ≤ length xs → drop n (xs ++ ys) ≡ drop n xs ++ ys
drop_first xs ys zero h = refl
drop_first [] ys (suc n) h = absurd (omega arith)
drop_first (x ∷ xs) ys (suc n) h = drop_first xs ys n (omega arith)

-- The first entry of the second list goes to the end of the first one.
pub down_low : (xs ys : List Entry) (e : Entry) → 0 < length ys → e ≡ get_or ys 0 no_entry
    → insert xs (length xs) e ≡ take (length xs + 1) (xs ++ ys)
down_low xs [] e h g = absurd (omega arith)
down_low xs (y ∷ ys) e h g =
    ap (λ zs. zs ++ e ∷ drop (length xs) xs) (take-length xs)
    ∙ (ap (λ zs. xs ++ e ∷ zs) (drop_all xs (length xs) (omega arith))
    ∙ (ap (λ z. xs ++ z ∷ []) g ∙ sym (take-append-add xs (y ∷ ys) 1)))

pub down_high : (xs ys : List Entry) → remove ys 0 ≡ drop (length xs + 1) (xs ++ ys)
down_high xs ys = sym (drop_past xs ys 1)

-- The last entry of the first list goes to the front of the second one.
pub up_low : (xs ys : List Entry) (n : ℕ) → 0 < length xs → n ≡ length xs - 1
    → remove xs n ≡ take n (xs ++ ys)
up_low xs ys n h e =
    ap (λ zs. take n xs ++ zs) (drop_all xs (suc n) (omega arith))
    ∙ (append-nil (take n xs) ∙ sym (take-append-le n xs ys (omega arith)))

pub up_high : (xs ys : List Entry) (e : Entry) (n : ℕ) → 0 < length xs → n ≡ length xs - 1
    → e ≡ get_or xs n no_entry → insert ys 0 e ≡ drop n (xs ++ ys)
up_high xs ys e n h k g =
    sym (drop_first xs ys n (omega arith)
    ∙ ap (λ zs. zs ++ ys) (drop-cons xs n no_entry (omega arith)
    ∙ (ap (λ zs. get_or xs n no_entry ∷ zs) (drop_all xs (suc n) (omega arith))
    ∙ ap (λ z. z ∷ []) (sym g))))

-- What was dealt out can be dealt on.
pub dealt_low : {l m : ℕ} {all : List Entry} {n : ℕ} {b d : List Record} → DealsEntries l m all n b d → IsNode b
dealt_low {l} {m} {all} {n} {b} {d} h = node_is b l (take n all) h.low_is

pub dealt_high : {l m : ℕ} {all : List Entry} {n : ℕ} {b d : List Record} → DealsEntries l m all n b d → IsNode d
dealt_high {l} {m} {all} {n} {b} {d} h = node_is d m (drop n all) h.high_is

pub dealt_all : {l m : ℕ} {all : List Entry} {n : ℕ} {b d : List Record} → DealsEntries l m all n b d
    → entries_of b ++ entries_of d ≡ all
dealt_all {l} {m} {all} {n} {b} {d} h =
    let x = entries_is b l (take n all) h.low_is in
    let y = entries_is d m (drop n all) h.high_is in
    rw (x, y) (take-append-drop n all)

pub dealt_count : {l m : ℕ} {all : List Entry} {n : ℕ} {b d : List Record} → DealsEntries l m all n b d
    → n ≤ length all → length (entries_of b) ≡ n
dealt_count {l} {m} {all} {n} {b} {d} h few =
    ap length (entries_is b l (take n all) h.low_is) ∙ length_take n all few
  where
    length_take : (k : ℕ) (xs : List Entry) → k ≤ length xs → length (take k xs) ≡ k
    length_take zero xs h = refl
    length_take (suc k) [] h = absurd (omega arith)
    length_take (suc k) (x ∷ xs) h = let e = length_take k xs (omega arith) in omega arith

pub dealt_more : {l m : ℕ} {all : List Entry} {n : ℕ} {b d : List Record} → DealsEntries l m all n b d
    → length (entries_of d) ≡ length all - n
dealt_more {l} {m} {all} {n} {b} {d} h =
    ap length (entries_is d m (drop n all) h.high_is) ∙ length-drop n all

-- A step from what was dealt out.
pub dealt_step : {l m : ℕ} {all : List Entry} {n : ℕ} {b d c e : List Record} (k : ℕ) → DealsEntries l m all n b d
    → DealsEntries (level_of b) (level_of d) (entries_of b ++ entries_of d) k c e → DealsEntries l m all k c e
dealt_step {l} {m} {all} {n} {b} {d} {c} {e} k h x =
    let a = dealt_all h in
    let p = level_is b l (take n all) h.low_is in
    let q = level_is d m (drop n all) h.high_is in
    rw (p, q, a) at x

-- no step yet
pub dealt_none : (b d : List Record) → IsNode b → IsNode d
    → DealsEntries (level_of b) (level_of d) (entries_of b ++ entries_of d) (length (entries_of b)) b d
dealt_none b d i j =
    let xs = entries_of b in
    let ys = entries_of d in
    let P : List Entry → Type 0 = λ zs. Is b (level_of b) zs in
    let Q : List Entry → Type 0 = λ zs. Is d (level_of d) zs in
    record {
      low_is = subst P (sym (take-append_seam xs ys)) i.is;
      high_is = subst Q (sym (ap (λ k. drop k (xs ++ ys)) (let e : length xs ≡ length xs + 0 = omega arith in e)
          ∙ drop_past xs ys 0)) j.is;
    }
