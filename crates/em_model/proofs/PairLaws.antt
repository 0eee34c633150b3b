-- The pairs of a map after some commands: their keys rise, each key has its value, and they are as many as the live keys.
use Rattle.std.proofs.Common.{◌≡◌, ℕ, ◌+◌, ◌<◌, ◌≤◌, Bool, true, false, List, [], ◌∷◌, ◌++◌, length, refl, sym, ap, ◌∙◌, arith, Option, Some, None, suc, ◌⊎◌, inl, inr, ⊎_elim}
use Rattle.std.specs.Prelude.{◌==◌, ◌↔◌, All, Contains, if◌then◌else◌, option_map}
use Rattle.std.specs.BTreeSet.{insert_key}
use Rattle.std.specs.List.{cons_option}
use Rattle.std.specs.Map.{keys_of, lookup}
use Rattle.std.specs.Ordering.{MatchOrdering, match_ordering, nat_cmp}
use Rattle.std.specs.declared.cmp.Ordering.{Ordering}
use Rattle.std.specs.declared.cmp.Ordering.TheVariants.{Less, Equal, Greater}
use Rattle.std.proofs.lemmas.Bool.{cases_Bool, cond-false, cond-true, eqb-false, eqb-true}
use Rattle.std.proofs.lemmas.Cmp.{ranked}
use Rattle.std.proofs.lemmas.List.Elements.{All-cons, All-contains, All-nil, Contains-append_right}
use Rattle.em_model.specs.Ascending.{RisesFrom}
use Rattle.em_model.specs.Live.{changes_key, live_keys, live_pairs}
use Rattle.em_model.specs.Map.{Combiner, Map, no_keys, state_after}
use Rattle.em_model.specs.Pairs.{ascending, pairs_after, pairs_of}
use Rattle.em_model.specs.declared.command.Command.{Command}
use Rattle.em_model.specs.declared.command.Command.TheVariants.{Put, Add, Del, Get, Sync, Push, Pop, Interval, Stab}
use Rattle.em_model.proofs.LiveLaws.{AllSet, IsOnce, IsOneOf, live_once, live_set, rises_less, set_live}

-- A number inserted in its place among rising ones.

insert_rises : (low n : ℕ) (ns : List ℕ) → low ≤ n → RisesFrom low ns → RisesFrom low (insert_key nat_cmp ns n)
insert_rises low n [] h r = (h, tt)
insert_rises low n (x ∷ xs) h (first, rest) =
    placed (nat_cmp n x) (ranked n x (nat_cmp n x) refl) (insert_rises (x + 1) n xs)
  where
    placed : (o : Ordering) → MatchOrdering o (n < x) (n ≡ x) (x < n)
        → (x + 1 ≤ n → RisesFrom (x + 1) xs → RisesFrom (x + 1) (insert_key nat_cmp xs n))
        → RisesFrom low (match_ordering o (n ∷ x ∷ xs) (x ∷ xs) (x ∷ insert_key nat_cmp xs n))
    placed Less e more = (h, (omega (arith, e), rest))
    placed Equal e more = (first, rest)
    placed Greater e more = (first, more (omega (arith, e)) rest)

ascending_rises : (ns : List ℕ) → RisesFrom 0 (ascending ns)
ascending_rises [] = tt
ascending_rises (n ∷ ns) = insert_rises 0 n (ascending ns) (omega arith) (ascending_rises ns)

-- It is one of them then, and the others stay.
one_inserted : (q n : ℕ) (ns : List ℕ) → (q ≡ n) ⊎ IsOneOf q ns → IsOneOf q (insert_key nat_cmp ns n)
one_inserted q n [] h = h
one_inserted q n (x ∷ xs) h = placed (nat_cmp n x) (ranked n x (nat_cmp n x) refl) (one_inserted q n xs) h
  where
    placed : (o : Ordering) → MatchOrdering o (n < x) (n ≡ x) (x < n)
        → ((q ≡ n) ⊎ IsOneOf q xs → IsOneOf q (insert_key nat_cmp xs n)) → (q ≡ n) ⊎ IsOneOf q (x ∷ xs)
        → IsOneOf q (match_ordering o (n ∷ x ∷ xs) (x ∷ xs) (x ∷ insert_key nat_cmp xs n))
    placed Less e more h = h
    placed Equal e more (inl same) = inl (same ∙ e)
    placed Equal e more (inr h) = h
    placed Greater e more (inl same) = inr (more (inl same))
    placed Greater e more (inr (inl here)) = inl here
    placed Greater e more (inr (inr h)) = inr (more (inr h))

one_ascending : (q : ℕ) (ns : List ℕ) → IsOneOf q ns → IsOneOf q (ascending ns)
one_ascending q [] h = h
one_ascending q (n ∷ ns) (inl e) = one_inserted q n (ascending ns) (inl e)
one_ascending q (n ∷ ns) (inr h) = one_inserted q n (ascending ns) (inr (one_ascending q ns h))

-- No others come.
one_before : (q n : ℕ) (ns : List ℕ) → IsOneOf q (insert_key nat_cmp ns n) → (q ≡ n) ⊎ IsOneOf q ns
one_before q n [] h = h
one_before q n (x ∷ xs) h = placed (nat_cmp n x) (one_before q n xs) h
  where
    placed : (o : Ordering) → (IsOneOf q (insert_key nat_cmp xs n) → (q ≡ n) ⊎ IsOneOf q xs)
        → IsOneOf q (match_ordering o (n ∷ x ∷ xs) (x ∷ xs) (x ∷ insert_key nat_cmp xs n))
        → (q ≡ n) ⊎ IsOneOf q (x ∷ xs)
    placed Less more h = h
    placed Equal more h = inr h
    placed Greater more (inl here) = inr (inl here)
    placed Greater more (inr h) = ⊎_elim
        (λ (same : q ≡ n). inl same)
        (λ (rest : IsOneOf q xs). inr (inr rest))
        (more h)

ascending_one : (q : ℕ) (ns : List ℕ) → IsOneOf q (ascending ns) → IsOneOf q ns
ascending_one q [] h = h
ascending_one q (n ∷ ns) h = ⊎_elim
    (λ (same : q ≡ n). inl same)
    (λ (rest : IsOneOf q (ascending ns)). inr (ascending_one q ns rest))
    (one_before q n (ascending ns) h)

-- So different numbers are as many in order.
insert_counts : (n : ℕ) (ns : List ℕ) → (IsOneOf n ns → ⊥) → length (insert_key nat_cmp ns n) ≡ length ns + 1
insert_counts n [] h = refl
insert_counts n (x ∷ xs) h =
    placed (nat_cmp n x) (ranked n x (nat_cmp n x) refl) (insert_counts n xs (λ i. h (inr i)))
  where
    placed : (o : Ordering) → MatchOrdering o (n < x) (n ≡ x) (x < n)
        → length (insert_key nat_cmp xs n) ≡ length xs + 1
        → length (match_ordering o (n ∷ x ∷ xs) (x ∷ xs) (x ∷ insert_key nat_cmp xs n)) ≡ length (x ∷ xs) + 1
    placed Less e more = omega arith
    placed Equal e more = absurd (h (inl e))
    placed Greater e more = omega (arith, more)

ascending_counts : (ns : List ℕ) → IsOnce ns → length (ascending ns) ≡ length ns
ascending_counts [] h = refl
ascending_counts (n ∷ ns) (first, rest) =
    let more = insert_counts n (ascending ns) (λ i. first (ascending_one n ns i)) in
    omega (arith, more, ascending_counts ns rest)

-- The pairs of some keys.

pairs_rise : (m : Map) (low : ℕ) (ks : List ℕ) → RisesFrom low ks → RisesFrom low (keys_of (pairs_of m ks))
pairs_rise m low [] r = tt
pairs_rise m low (k ∷ ks) (first, rest) = by_value (m k) (pairs_rise m (k + 1) ks rest)
  where
    by_value : (o : Option ℕ) → RisesFrom (k + 1) (keys_of (pairs_of m ks))
        → RisesFrom low (keys_of (cons_option (option_map (λ value. (k, value)) o) (pairs_of m ks)))
    by_value None more = rises_less low (k + 1) (keys_of (pairs_of m ks)) (omega (arith, first)) more
    by_value (Some v) more = (first, more)

pairs_count : (m : Map) (ks : List ℕ) → AllSet m ks → length (pairs_of m ks) ≡ length ks
pairs_count m [] h = refl
pairs_count m (k ∷ ks) (first, rest) = by_value (m k) refl (pairs_count m ks rest)
  where
    by_value : (o : Option ℕ) → m k ≡ o → length (pairs_of m ks) ≡ length ks
        → length (cons_option (option_map (λ value. (k, value)) o) (pairs_of m ks)) ≡ length (k ∷ ks)
    by_value None e more = absurd (first e)
    by_value (Some v) e more = omega (arith, more)

-- What is found under a key.

not_found : (m : Map) (q : ℕ) (ks : List ℕ) → m q ≡ None → lookup (λ other. other == q) (pairs_of m ks) ≡ None
not_found m q [] e = refl
not_found m q (k ∷ ks) e = by_value (m k) refl (not_found m q ks e)
  where
    by_value : (o : Option ℕ) → m k ≡ o → lookup (λ other. other == q) (pairs_of m ks) ≡ None
        → lookup (λ other. other == q) (cons_option (option_map (λ value. (k, value)) o) (pairs_of m ks)) ≡ None
    by_value None f more = more
    by_value (Some v) f more = ⊎_elim
        (λ (t : (k == q) ≡ true). let same : m k ≡ m q = ap m (eqb-true k q t) in absurd (cc))
        (λ (t : (k == q) ≡ false). cond-false _ _ _ t ∙ more)
        (cases_Bool (k == q))

found : (m : Map) (q v : ℕ) (ks : List ℕ) → m q ≡ Some v → IsOneOf q ks
    → lookup (λ other. other == q) (pairs_of m ks) ≡ Some v
found m q v [] e h = absurd h
found m q v (k ∷ ks) e h = by_value (m k) refl (found m q v ks e) h
  where
    by_value : (o : Option ℕ) → m k ≡ o
        → (IsOneOf q ks → lookup (λ other. other == q) (pairs_of m ks) ≡ Some v) → (q ≡ k) ⊎ IsOneOf q ks
        → lookup (λ other. other == q) (cons_option (option_map (λ value. (k, value)) o) (pairs_of m ks)) ≡ Some v
    by_value None f more (inl same) = let g : m q ≡ m k = ap m same in absurd (cc)
    by_value None f more (inr rest) = more rest
    by_value (Some w) f more h = ⊎_elim
        (λ (t : (k == q) ≡ true).
        let same : m k ≡ m q = ap m (eqb-true k q t) in
        let value : Some w ≡ Some v = sym f ∙ same ∙ e in
        cond-true _ _ _ t ∙ value)
        (λ (t : (k == q) ≡ false).
        let rest : IsOneOf q ks =
        ⊎_elim (λ (same : q ≡ k). absurd (eqb-false k q t (sym same))) (λ (rest : IsOneOf q ks). rest) h in
        cond-false _ _ _ t ∙ more rest)
        (cases_Bool (k == q))

-- The pairs after some commands.

pub keys_rise : (apply : Combiner) (cs : List Command) → RisesFrom 0 (keys_of (pairs_after apply cs))
keys_rise apply cs =
    pairs_rise (state_after apply no_keys cs) 0 (ascending (live_keys cs)) (ascending_rises (live_keys cs))

some_set : (v : ℕ) (o : Option ℕ) → o ≡ Some v → o ≡ None → ⊥
some_set v o e f = cc

-- under each key stands the value that it has, and nothing if it has none
pub pair_at : (apply : Combiner) (cs : List Command) (key : ℕ)
    → lookup (λ other. other == key) (pairs_after apply cs) ≡ state_after apply no_keys cs key
pair_at apply cs key = by_value (state_after apply no_keys cs key) refl
  where
    by_value : (o : Option ℕ) → state_after apply no_keys cs key ≡ o
        → lookup (λ other. other == key) (pairs_after apply cs) ≡ o
    by_value None e = not_found (state_after apply no_keys cs) key (ascending (live_keys cs)) e
    by_value (Some v) e = found (state_after apply no_keys cs) key v (ascending (live_keys cs)) e
        (one_ascending key (live_keys cs) (set_live apply cs key (some_set v (state_after apply no_keys cs key) e)))

all_kept : (m : Map) (ks : List ℕ) → All (λ (p : ℕ × ℕ). m p.0 ≡ Some p.1) (pairs_of m ks)
all_kept m [] = All-nil (λ (p : ℕ × ℕ). m p.0 ≡ Some p.1)
all_kept m (k ∷ ks) = by_value (m k) refl (all_kept m ks)
  where
    by_value : (o : Option ℕ) → m k ≡ o → All (λ (p : ℕ × ℕ). m p.0 ≡ Some p.1) (pairs_of m ks)
        → All (λ (p : ℕ × ℕ). m p.0 ≡ Some p.1) (cons_option (option_map (λ value. (k, value)) o) (pairs_of m ks))
    by_value None e more = more
    by_value (Some v) e more = All-cons (λ (p : ℕ × ℕ). m p.0 ≡ Some p.1) (k, v) (pairs_of m ks) e more

some_same : (v w : ℕ) → Some v ≡ Some w → v ≡ w
some_same v w e = cc

looked_up : (k v : ℕ) (ps : List (ℕ × ℕ)) → lookup (λ other. other == k) ps ≡ Some v → Contains ps (k, v)
looked_up k v [] e = absurd (cc)
looked_up k v (p ∷ ps) e = ⊎_elim
    (λ (t : (p.0 == k) ≡ true).
    let value : p.1 ≡ v = some_same p.1 v (sym (cond-true _ _ _ t) ∙ e) in
    let same : p.0 ≡ k = eqb-true p.0 k t in
    (0, omega arith, (λ i. (same i, value i))))
    (λ (t : (p.0 == k) ≡ false).
    Contains-append_right (p ∷ []) ps (k, v) (looked_up k v ps (sym (cond-false _ _ _ t) ∙ e)))
    (cases_Bool (p.0 == k))

-- so a pair is among them exactly if its key has its value,
pub pairs_among : (apply : Combiner) (cs : List Command) (key value : ℕ)
    → Contains (pairs_after apply cs) (key, value) ↔ (state_after apply no_keys cs key ≡ Some value)
pairs_among apply cs key value = (
  All-contains (λ (p : ℕ × ℕ). state_after apply no_keys cs p.0 ≡ Some p.1) (pairs_after apply cs) (key, value)
      (all_kept (state_after apply no_keys cs) (ascending (live_keys cs))),
  λ e. looked_up key value (pairs_after apply cs) (pair_at apply cs key ∙ e),
)

set_inserted : (m : Map) (n : ℕ) (ns : List ℕ) → (m n ≡ None → ⊥) → AllSet m ns → AllSet m (insert_key nat_cmp ns n)
set_inserted m n [] h all = (h, tt)
set_inserted m n (x ∷ xs) h (first, rest) = placed (nat_cmp n x) (set_inserted m n xs h rest)
  where
    placed : (o : Ordering) → AllSet m (insert_key nat_cmp xs n)
        → AllSet m (match_ordering o (n ∷ x ∷ xs) (x ∷ xs) (x ∷ insert_key nat_cmp xs n))
    placed Less more = (h, (first, rest))
    placed Equal more = (first, rest)
    placed Greater more = (first, more)

set_ascending : (m : Map) (ns : List ℕ) → AllSet m ns → AllSet m (ascending ns)
set_ascending m [] all = tt
set_ascending m (n ∷ ns) (first, rest) = set_inserted m n (ascending ns) first (set_ascending m ns rest)

-- they are as many as the live keys,
pub pairs_live : (apply : Combiner) (cs : List Command) → length (pairs_after apply cs) ≡ live_pairs cs
pairs_live apply cs =
    pairs_count (state_after apply no_keys cs) (ascending (live_keys cs))
    (set_ascending (state_after apply no_keys cs) (live_keys cs) (live_set apply cs))
    ∙ ascending_counts (live_keys cs) (live_once cs)

live_one : (b : Bool) (k n : ℕ) (ls : List ℕ) → length ls ≤ n
    → length ((if b then [] else k ∷ []) ++ ls) ≤ suc n
live_one true k n ls h = omega (arith, h)
live_one false k n ls h = omega (arith, h)

pub live_few : (cs : List Command) → live_pairs cs ≤ length cs
live_few [] = omega arith
live_few (Put k v ∷ cs) = live_one (changes_key k cs) k (length cs) (live_keys cs) (live_few cs)
live_few (Add k v ∷ cs) = live_one (changes_key k cs) k (length cs) (live_keys cs) (live_few cs)
live_few (Del k ∷ cs) = omega (arith, live_few cs)
live_few (Get k ∷ cs) = omega (arith, live_few cs)
live_few (Sync ∷ cs) = omega (arith, live_few cs)
live_few (Push k v ∷ cs) = omega (arith, live_few cs)
live_few (Pop ∷ cs) = omega (arith, live_few cs)
live_few (Interval low high ∷ cs) = omega (arith, live_few cs)
live_few (Stab point ∷ cs) = omega (arith, live_few cs)

-- and no more than the commands.
pub pairs_few : (apply : Combiner) (cs : List Command) → length (pairs_after apply cs) ≤ length cs
pairs_few apply cs = omega (arith, pairs_live apply cs, live_few cs)
