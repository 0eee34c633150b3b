-- No pair comes twice, and no point: what a queue asks of each push.
use Rattle.std.proofs.Common.{◌≡◌, ℕ, ◌+◌, ◌<◌, ◌≤◌, Bool, true, false, List, [], ◌∷◌, ◌++◌, cond, length, map, refl, ap, ◌∙◌, arith, ⊎_elim, append_assoc}
use Rattle.std.proofs.lemmas.Bool.{cases_Bool}
use Rattle.std.proofs.lemmas.Bool.Decides.{nat_tests}
use Rattle.std.proofs.lemmas.List.Sums.{sum_by-cons, sum_by-append}
use Rattle.std.specs.Prelude.{◌&&◌, ◌==◌}
use Rattle.std.specs.List.{sum_by}
use Rattle.em_record.specs.declared.record.Record.{Record}
use Rattle.em_model.specs.Ascending.{Ascend}
use Rattle.em_model.specs.Stab.{NumberedInterval, holders_of, stab_answers_from, stab_step}
use Rattle.em_model.specs.declared.command.Command.{Command}
use Rattle.em_model.specs.declared.command.Command.TheVariants.{Put, Add, Del, Get, Sync, Push, Pop, Interval, Stab}
use Rattle.em_model.proofs.StabLaws.{AreNumbered, holders_ascend, numbered_step}
use Rattle.em_model.specs.StabAnswers.{pair_record, pairs_from, stab_pairs}
use Rattle.em_record.specs.Order.{Lacks, is_below, with_record}
use Rattle.em_segment_model.specs.Alike.{Alike}
use Rattle.em_segment_model.specs.Commands.{asked_from}
use Rattle.em_segment_model.specs.Lacking.{AllLack}
use Rattle.em_segment_model.specs.Points.{asked_record}
use Rattle.em_segment_model.proofs.Order.{sum-with}
use Rattle.em_segment_model.proofs.Sums.{if_so}

-- 1 if a record has these two words first
abbrev pub keyed : ℕ → ℕ → Record → ℕ
keyed a b x = if_so (x.a == a && x.b == b) 1

no_key : (a b : ℕ) (x : Record) → (x.a ≡ a → x.b ≡ b → ⊥) → keyed a b x ≡ 0
no_key a b x n = ⊎_elim
    (λ (t : (x.a == a && x.b == b) ≡ true).
    let h = halves (x.a == a) (x.b == b) t in
    absurd (n (is_same x.a a h.0) (is_same x.b b h.1)))
    (λ (f : (x.a == a && x.b == b) ≡ false). rw f refl)
    (cases_Bool (x.a == a && x.b == b))
  where
    is_same : (m n : ℕ) → (m == n) ≡ true → m ≡ n
    is_same m n e = grind (arith, nat_tests)

    halves : (p q : Bool) → (p && q) ≡ true → (p ≡ true) × (q ≡ true)
    halves true q e = (refl, e)
    halves false q e = absurd (no e)
      where
        no : false ≡ true → ⊥
        no e = cc

some_key : (a b : ℕ) (x : Record) → x.a ≡ a → x.b ≡ b → keyed a b x ≡ 1
some_key a b x e f = let p = same x.a a e in let q = same x.b b f in rw (p, q) refl
  where
    same : (m n : ℕ) → m ≡ n → (m == n) ≡ true
    same m n e = grind (arith, nat_tests)

key_most : (a b : ℕ) (x : Record) → keyed a b x ≤ 1
key_most a b x = most (x.a == a && x.b == b)
  where
    most : (t : Bool) → if_so t 1 ≤ 1
    most true = omega arith
    most false = omega arith

-- the pairs of other stabs
other_stab : (a b n : ℕ) (numbers : List ℕ) → (n ≡ a → ⊥) → sum_by (keyed a b) (map (pair_record n) numbers) ≡ 0
other_stab a b n [] h = refl
other_stab a b n (i ∷ is) h =
    let c = sum_by-cons (keyed a b) (pair_record n i) (map (pair_record n) is) in
    let r = other_stab a b n is h in
    let z = no_key a b (pair_record n i) (λ e f. h e) in omega arith

later_number : (a b n low : ℕ) (numbers : List ℕ) (high : ℕ) → b < low → Ascend (λ (k : ℕ). k) low numbers high
    → sum_by (keyed a b) (map (pair_record n) numbers) ≡ 0
later_number a b n low [] high h asc = refl
later_number a b n low (i ∷ is) high h (first, rest) =
    let c = sum_by-cons (keyed a b) (pair_record n i) (map (pair_record n) is) in
    let r = later_number a b n (i + 1) is high (omega arith) rest in
    let z = no_key a b (pair_record n i) (λ e f. omega (arith, f, first, h)) in omega arith

one_stab : (a b n low : ℕ) (numbers : List ℕ) (high : ℕ) → Ascend (λ (k : ℕ). k) low numbers high
    → sum_by (keyed a b) (map (pair_record n) numbers) ≤ 1
one_stab a b n low [] high asc = omega arith
one_stab a b n low (i ∷ is) high (first, rest) =
    let c = sum_by-cons (keyed a b) (pair_record n i) (map (pair_record n) is) in ⊎_elim
    (λ (t : (i == b) ≡ true).
    let e = is_same i b t in
    let r = later_number a b n (i + 1) is high (omega arith) rest in
    let m = key_most a b (pair_record n i) in omega arith)
    (λ (f : (i == b) ≡ false).
    let r = one_stab a b n (i + 1) is high rest in
    let z = no_key a b (pair_record n i) (λ e g. differ i b f g) in omega arith)
    (cases_Bool (i == b))
  where
    is_same : (m n : ℕ) → (m == n) ≡ true → m ≡ n
    is_same m n e = grind (arith, nat_tests)

    differ : (m n : ℕ) → (m == n) ≡ false → m ≡ n → ⊥
    differ m n e f = grind (arith, nat_tests)

earlier_none : (a b s : ℕ) (answers : List (List ℕ)) → a < s → sum_by (keyed a b) (pairs_from s answers) ≡ 0
earlier_none a b s [] h = refl
earlier_none a b s (numbers ∷ answers) h =
    let c = sum_by-append (keyed a b) (map (pair_record s) numbers) (pairs_from (s + 1) answers) in
    let o = other_stab a b s numbers (λ e. omega (arith, e, h)) in
    let r = earlier_none a b (s + 1) answers (omega arith) in omega arith

-- no two pairs have both words the same
pairs_single : (a b s : ℕ) (is : List NumberedInterval) (cs : List Command) → AreNumbered is
    → sum_by (keyed a b) (pairs_from s (stab_answers_from is cs)) ≤ 1
pairs_single a b s is [] n = omega arith
pairs_single a b s is (Put key value ∷ cs) n = pairs_single a b s is cs n
pairs_single a b s is (Add key value ∷ cs) n = pairs_single a b s is cs n
pairs_single a b s is (Del key ∷ cs) n = pairs_single a b s is cs n
pairs_single a b s is (Get key ∷ cs) n = pairs_single a b s is cs n
pairs_single a b s is (Sync ∷ cs) n = pairs_single a b s is cs n
pairs_single a b s is (Push key value ∷ cs) n = pairs_single a b s is cs n
pairs_single a b s is (Pop ∷ cs) n = pairs_single a b s is cs n
pairs_single a b s is (Interval low high ∷ cs) n =
    pairs_single a b s (stab_step is (Interval low high)) cs (numbered_step is (Interval low high) n)
pairs_single a b s is (Stab point ∷ cs) n =
    let c = sum_by-append (keyed a b) (map (pair_record s) (holders_of point is)) (pairs_from (s + 1) (stab_answers_from is cs)) in
    ⊎_elim
    (λ (t : (s == a) ≡ true).
    let e = is_same s a t in
    let o = one_stab a b s 0 (holders_of point is) (length is) (holders_ascend is point n) in
    let r = earlier_none a b (s + 1) (stab_answers_from is cs) (omega arith) in omega arith)
    (λ (f : (s == a) ≡ false).
    let o = other_stab a b s (holders_of point is) (differ s a f) in
    let r = pairs_single a b (s + 1) is cs n in omega arith)
    (cases_Bool (s == a))
  where
    is_same : (m n : ℕ) → (m == n) ≡ true → m ≡ n
    is_same m n e = grind (arith, nat_tests)

    differ : (m n : ℕ) → (m == n) ≡ false → m ≡ n → ⊥
    differ m n e f = grind (arith, nat_tests)

lacks_where_none : (x : Record) (ys : List Record) → sum_by (keyed x.a x.b) ys ≡ 0 → Lacks x ys
lacks_where_none x [] h = tt
lacks_where_none x (y ∷ ys) h =
    let c = sum_by-cons (keyed x.a x.b) y ys in
    (λ e f. let s = some_key x.a x.b y e f in omega (arith, s, c, h), lacks_where_none x ys (omega arith))

-- What `push` asks: the pairs went in as far as `front`, and the queue's items hold the same.
pub pair_lacks : (cs : List Command) (front : List Record) (x : Record) (rest items : List Record)
    → Alike (front ++ x ∷ rest) (stab_pairs cs) → Alike items front → Lacks x items
pair_lacks cs front x rest items h i =
    let none : AreNumbered [] = omega arith in
    let one = pairs_single x.a x.b 0 [] cs none in
    let w = h.weighs (keyed x.a x.b) in
    let v = i.weighs (keyed x.a x.b) in
    let c = sum_by-append (keyed x.a x.b) front (x ∷ rest) in
    let d = sum_by-cons (keyed x.a x.b) x rest in
    let k = some_key x.a x.b x refl refl in
    lacks_where_none x items (omega arith)

-- What sorting the pairs asks: they may be pushed one after another, in whatever order they were reported.
pub pairs_lack : (cs : List Command) (xs : List Record) → Alike xs (stab_pairs cs) → AllLack [] xs
pairs_lack cs xs h = all_lack [] xs [] h (record { weighs = λ f. refl })
  where
    all_lack : (front xs items : List Record) → Alike (front ++ xs) (stab_pairs cs) → Alike items front
        → AllLack items xs
    all_lack front [] items h i = tt
    all_lack front (x ∷ xs) items h i = (
      pair_lacks cs front x xs items h i,
      all_lack (front ++ x ∷ []) xs (with_record x items)
          (record { weighs = λ f. ap (sum_by f) (append_assoc front (x ∷ []) xs) ∙ h.weighs f })
          (record {
            weighs = λ f.
                let a = sum-with f x items in let b = i.weighs f in
                let c = sum_by-append f front (x ∷ []) in let d = sum_by-cons f x [] in
                omega (arith, a, b, c, d);
          }),
    )

-- the stabs of these points have lesser numbers
abbrev StabsBelow : ℕ → List Record → Type 0
StabsBelow s [] = Unit {0}
StabsBelow s (y ∷ ys) = (y.b < s) × StabsBelow s ys

later_stab : (s : ℕ) (x : Record) (ys : List Record) → x.b ≡ s → StabsBelow s ys → Lacks x ys
later_stab s x [] e h = tt
later_stab s x (y ∷ ys) e (one, rest) = (λ a b. omega (arith, b, e, one), later_stab s x ys e rest)

stabs_more : (s t : ℕ) (ys : List Record) → s ≤ t → StabsBelow s ys → StabsBelow t ys
stabs_more s t [] h b = tt
stabs_more s t (y ∷ ys) h (one, rest) = (omega (arith, h, one), stabs_more s t ys h rest)

stabs_with : (s : ℕ) (x : Record) (ys : List Record) → x.b < s → StabsBelow s ys
    → StabsBelow s (with_record x ys)
stabs_with s x [] l h = (l, tt)
stabs_with s x (y ∷ ys) l (one, rest) = by_test (is_below y x) (stabs_with s x ys l rest)
  where
    by_test : (b : Bool) → StabsBelow s (with_record x ys)
        → StabsBelow s (cond b (y ∷ with_record x ys) (x ∷ y ∷ ys))
    by_test true more = (one, more)
    by_test false more = (l, (one, rest))

points_lack : (s n : ℕ) (cs : List Command) (ys : List Record) → StabsBelow s ys
    → AllLack ys (map asked_record (asked_from s n cs))
points_lack s n [] ys h = tt
points_lack s n (Put key value ∷ cs) ys h = points_lack s n cs ys h
points_lack s n (Add key value ∷ cs) ys h = points_lack s n cs ys h
points_lack s n (Del key ∷ cs) ys h = points_lack s n cs ys h
points_lack s n (Get key ∷ cs) ys h = points_lack s n cs ys h
points_lack s n (Sync ∷ cs) ys h = points_lack s n cs ys h
points_lack s n (Push key value ∷ cs) ys h = points_lack s n cs ys h
points_lack s n (Pop ∷ cs) ys h = points_lack s n cs ys h
points_lack s n (Interval low high ∷ cs) ys h = points_lack s (n + 1) cs ys h
points_lack s n (Stab point ∷ cs) ys h =
    let x : Record = record { a = point; b = s; c = n; d = 0 } in (
      later_stab s x ys refl h,
      points_lack (s + 1) n cs (with_record x ys)
          (stabs_with (s + 1) x ys (omega arith) (stabs_more s (s + 1) ys (omega arith) h)),
    )

-- What sorting the points asks.
pub asked_lack : (cs : List Command) → AllLack [] (map asked_record (asked_from 0 0 cs))
asked_lack cs = points_lack 0 0 cs [] tt
