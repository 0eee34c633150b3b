-- Two lists of records as one: what it has of each, and in which order.
use Rattle.std.proofs.Common.{◌≡◌, ℕ, ◌+◌, ◌<◌, ◌≤◌, List, [], ◌∷◌, ◌++◌, length, map, true, false, refl, ap, ◌∙◌, arith, ⊎_elim}
use Rattle.std.specs.Prelude.{nat_le}
use Rattle.std.proofs.lemmas.Bool.{cases_Bool, cases_lt, leb-true, leb-false, lt-ltb}
use Rattle.em_record.specs.Order.{is_below, AtLeast, IsAscending}
use Rattle.em_record.specs.declared.record.Record.{Record}
use Rattle.em_weave.specs.Woven.{placed, woven, side_record, lefts, rights, NoneBefore, AscendsByA, LeftsFirst}
use Rattle.em_weave.specs.declared.side.Side.{Side}
use Rattle.em_weave.specs.declared.side.Side.TheVariants.{Left, Right}

lefts_none : (rs : List Record) → lefts (map (λ r. Right r) rs) ≡ []
lefts_none [] = refl
lefts_none (r ∷ rs) = lefts_none rs

rights_all : (rs : List Record) → rights (map (λ r. Right r) rs) ≡ rs
rights_all [] = refl
rights_all (r ∷ rs) = ap (λ (xs : List Record). r ∷ xs) (rights_all rs)

lefts_placed : (l : Record) (rest : List Record → List Side) (ls rs : List Record)
    → ((ts : List Record) → lefts (rest ts) ≡ ls) → lefts (placed l rest rs) ≡ l ∷ ls
lefts_placed l rest ls [] h = ap (λ (xs : List Record). l ∷ xs) (h [])
lefts_placed l rest ls (r ∷ rs) h = ⊎_elim
    (λ (t : nat_le l.a r.a ≡ true). rw t (ap (λ (xs : List Record). l ∷ xs) (h (r ∷ rs))))
    (λ (f : nat_le l.a r.a ≡ false). rw f (lefts_placed l rest ls rs h))
    (cases_Bool (nat_le l.a r.a))

rights_placed : (l : Record) (rest : List Record → List Side) (rs : List Record)
    → ((ts : List Record) → rights (rest ts) ≡ ts) → rights (placed l rest rs) ≡ rs
rights_placed l rest [] h = h []
rights_placed l rest (r ∷ rs) h = ⊎_elim
    (λ (t : nat_le l.a r.a ≡ true). rw t (h (r ∷ rs)))
    (λ (f : nat_le l.a r.a ≡ false).
    rw f (ap (λ (xs : List Record). r ∷ xs) (rights_placed l rest rs h)))
    (cases_Bool (nat_le l.a r.a))

-- The records of the left are the left list,
pub lefts_woven : (ls rs : List Record) → lefts (woven ls rs) ≡ ls
lefts_woven [] rs = lefts_none rs
lefts_woven (l ∷ ls) rs =
    lefts_placed l (λ (ts : List Record). woven ls ts) ls rs (λ ts. lefts_woven ls ts)

-- and those of the right the right one.
pub rights_woven : (ls rs : List Record) → rights (woven ls rs) ≡ rs
rights_woven [] rs = rights_all rs
rights_woven (l ∷ ls) rs =
    rights_placed l (λ (ts : List Record). woven ls ts) rs (λ ts. rights_woven ls ts)

-- each side of some records and then others
pub lefts_append : (ds es : List Side) → lefts (ds ++ es) ≡ lefts ds ++ lefts es
lefts_append [] es = refl
lefts_append (Left l ∷ ds) es = ap (λ (xs : List Record). l ∷ xs) (lefts_append ds es)
lefts_append (Right r ∷ ds) es = lefts_append ds es

pub rights_append : (ds es : List Side) → rights (ds ++ es) ≡ rights ds ++ rights es
rights_append [] es = refl
rights_append (Left l ∷ ds) es = rights_append ds es
rights_append (Right r ∷ ds) es = ap (λ (xs : List Record). r ∷ xs) (rights_append ds es)

pub sides_length : (ds : List Side) → length ds ≡ length (lefts ds) + length (rights ds)
sides_length [] = refl
sides_length (Left l ∷ ds) = let h = sides_length ds in omega arith
sides_length (Right r ∷ ds) = let h = sides_length ds in omega arith

-- There are as many as both lists have.
pub woven_length : (ls rs : List Record) → length (woven ls rs) ≡ length ls + length rs
woven_length ls rs = sides_length (woven ls rs)
    ∙ ap (λ (n : ℕ). n + length (rights (woven ls rs)))
    (ap (λ (xs : List Record). length xs) (lefts_woven ls rs))
    ∙ ap (λ (n : ℕ). length ls + n)
    (ap (λ (xs : List Record). length xs) (rights_woven ls rs))

-- at least a number, and so at least a lesser one
pub none_before_less : (m n : ℕ) (xs : List Record) → m ≤ n → NoneBefore n xs → NoneBefore m xs
none_before_less m n [] l h = tt
none_before_less m n (x ∷ xs) l h =
    (omega (arith, l, h.0), none_before_less m n xs l h.1)

none_before_right : (n : ℕ) (rs : List Record) → NoneBefore n rs
    → NoneBefore n (map side_record (map (λ r. Right r) rs))
none_before_right n [] h = tt
none_before_right n (r ∷ rs) h = (h.0, none_before_right n rs h.1)

none_before_placed : (n : ℕ) (l : Record) (rest : List Record → List Side) (rs : List Record)
    → n ≤ l.a → NoneBefore n rs
    → ((ts : List Record) → NoneBefore n ts → NoneBefore n (map side_record (rest ts)))
    → NoneBefore n (map side_record (placed l rest rs))
none_before_placed n l rest [] a b h = (a, h [] tt)
none_before_placed n l rest (r ∷ rs) a b h = ⊎_elim
    (λ (t : nat_le l.a r.a ≡ true). rw t (a, h (r ∷ rs) b))
    (λ (f : nat_le l.a r.a ≡ false). rw f (b.0, none_before_placed n l rest rs a b.1 h))
    (cases_Bool (nat_le l.a r.a))

pub none_before_woven : (n : ℕ) (ls rs : List Record) → NoneBefore n ls → NoneBefore n rs
    → NoneBefore n (map side_record (woven ls rs))
none_before_woven n [] rs a b = none_before_right n rs b
none_before_woven n (l ∷ ls) rs a b = none_before_placed n l (λ (ts : List Record). woven ls ts) rs
    a.0 b (λ ts h. none_before_woven n ls ts a.1 h)

ascends_right : (rs : List Record) → AscendsByA rs
    → AscendsByA (map side_record (map (λ r. Right r) rs))
ascends_right [] h = tt
ascends_right (r ∷ rs) h = (none_before_right r.a rs h.0, ascends_right rs h.1)

ascends_placed : (l : Record) (ls rs : List Record) → NoneBefore l.a ls
    → ((ts : List Record) → AscendsByA ts → AscendsByA (map side_record (woven ls ts)))
    → AscendsByA rs → AscendsByA (map side_record (woven (l ∷ ls) rs))
ascends_placed l ls [] a h b = (none_before_woven l.a ls [] a tt, h [] tt)
ascends_placed l ls (r ∷ rs) a h b = ⊎_elim
    (λ (t : nat_le l.a r.a ≡ true).
    let le = leb-true l.a r.a t in
    rw t (none_before_woven l.a ls (r ∷ rs) a (le, none_before_less l.a r.a rs le b.0), h (r ∷ rs) b))
    (λ (f : nat_le l.a r.a ≡ false).
    let lt = leb-false l.a r.a f in
    let le : r.a ≤ l.a = omega (arith, lt) in
    rw f (
      none_before_woven r.a (l ∷ ls) rs (le, none_before_less r.a l.a ls le a) b.0,
      ascends_placed l ls rs a h b.1,
    ))
    (cases_Bool (nat_le l.a r.a))

-- Of two lists that ascend by the word a all records ascend by it.
pub woven_ascends : (ls rs : List Record) → AscendsByA ls → AscendsByA rs
    → AscendsByA (map side_record (woven ls rs))
woven_ascends [] rs a b = ascends_right rs b
woven_ascends (l ∷ ls) rs a b =
    ascends_placed l ls rs a.0 (λ ts h. woven_ascends ls ts a.1 h) b

-- each record of the right is one of all
pub none_before_rights : (n : ℕ) (ds : List Side) → NoneBefore n (map side_record ds)
    → NoneBefore n (rights ds)
none_before_rights n [] h = tt
none_before_rights n (Left l ∷ ds) h = none_before_rights n ds h.1
none_before_rights n (Right r ∷ ds) h = (h.0, none_before_rights n ds h.1)

lefts_first_right : (rs : List Record) → LeftsFirst (map (λ r. Right r) rs)
lefts_first_right [] = tt
lefts_first_right (r ∷ rs) = (rw (lefts_none rs) tt, lefts_first_right rs)

lefts_first_placed : (l : Record) (ls rs : List Record) → NoneBefore l.a ls
    → ((ts : List Record) → LeftsFirst (woven ls ts)) → LeftsFirst (woven (l ∷ ls) rs)
lefts_first_placed l ls [] a h = h []
lefts_first_placed l ls (r ∷ rs) a h = ⊎_elim
    (λ (t : nat_le l.a r.a ≡ true). rw t (h (r ∷ rs)))
    (λ (f : nat_le l.a r.a ≡ false).
    let lt = leb-false l.a r.a f in
    let le : r.a + 1 ≤ l.a = omega (arith, lt) in
    rw f (
      rw (lefts_woven (l ∷ ls) rs) (le, none_before_less (r.a + 1) l.a ls le a),
      lefts_first_placed l ls rs a h,
    ))
    (cases_Bool (nat_le l.a r.a))

-- Of a left list that ascends by the word a no record stands after a right one with the same word a or
-- a greater one.
pub woven_lefts_first : (ls rs : List Record) → AscendsByA ls → LeftsFirst (woven ls rs)
woven_lefts_first [] rs a = lefts_first_right rs
woven_lefts_first (l ∷ ls) rs a =
    lefts_first_placed l ls rs a.0 (λ ts. woven_lefts_first ls ts a.1)

-- What this says of the rest of such a list, and of the records after a right one.
pub lefts_first_rest : (ds es : List Side) → LeftsFirst (ds ++ es) → LeftsFirst es
lefts_first_rest [] es h = h
lefts_first_rest (Left l ∷ ds) es h = lefts_first_rest ds es h
lefts_first_rest (Right r ∷ ds) es h = lefts_first_rest ds es h.1

pub lefts_first_at : (ds es : List Side) (r : Record) → LeftsFirst (ds ++ (Right r ∷ es))
    → NoneBefore (r.a + 1) (lefts es)
lefts_first_at ds es r h = (lefts_first_rest ds (Right r ∷ es) h).0

-- what is left of a list that ascends by the word a
pub ascends_rest : (xs ys : List Record) → AscendsByA (xs ++ ys) → AscendsByA ys
ascends_rest [] ys h = h
ascends_rest (x ∷ xs) ys h = ascends_rest xs ys h.1

-- a record that isn't below another has no lesser word a
a_at_least : (x y : Record) → is_below x y ≡ false → y.a ≤ x.a
a_at_least x y e = ⊎_elim
    (λ (lt : x.a < y.a). absurd (let t = lt-ltb x.a y.a lt in let d = rw t at e in cc))
    (λ (le : y.a ≤ x.a). le)
    (cases_lt x.a y.a)

none_before_least : (low : Record) (xs : List Record) → AtLeast low xs → NoneBefore low.a xs
none_before_least low [] h = tt
none_before_least low (x ∷ xs) h = (a_at_least x low h.0, none_before_least low xs h.1)

-- An ascending list of records ascends by the word a.
pub ascends_by_a : (xs : List Record) → IsAscending xs → AscendsByA xs
ascends_by_a [] h = tt
ascends_by_a (x ∷ xs) h = (none_before_least x xs h.0, ascends_by_a xs h.1)
