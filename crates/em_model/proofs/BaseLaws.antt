-- A map that begins at pairs answers as one that gets a put for each of them first.
use Rattle.std.proofs.Common.{◌≡◌, ℕ, ◌+◌, ◌<◌, ◌≤◌, true, false, List, [], ◌∷◌, ◌++◌, length, refl, sym, ap, ◌∙◌, arith, Option, Some, None, inl, inr, ⊎_elim}
use Rattle.std.specs.Prelude.{◌==◌, option_map}
use Rattle.std.specs.BTreeSet.{insert_key}
use Rattle.std.specs.List.{cons_option}
use Rattle.std.specs.Map.{keys_of}
use Rattle.std.specs.Ordering.{MatchOrdering, match_ordering, nat_cmp}
use Rattle.std.specs.declared.cmp.Ordering.{Ordering}
use Rattle.std.specs.declared.cmp.Ordering.TheVariants.{Less, Equal, Greater}
use Rattle.std.proofs.lemmas.Bool.{cases_Bool, cases_lt, cond-false, cond-true, eq-eqb, eqb-false, eqb-true, ne_eqb, or_from}
use Rattle.std.proofs.lemmas.Cmp.{ranked}
use Rattle.std.proofs.lemmas.List.{length-append}
use Rattle.em_model.specs.Ascending.{RisesFrom}
use Rattle.em_model.specs.Base.{KeysRise, map_of, puts_of}
use Rattle.em_model.specs.Live.{changes_key, live_keys, live_pairs}
use Rattle.em_model.specs.Map.{Combiner, Map, map_answers, map_answers_from, map_step, no_keys, state_after, value_from}
use Rattle.em_model.specs.MapAnswers.{answers_after, answers_of}
use Rattle.em_model.specs.Pairs.{ascending, pairs_after, pairs_of}
use Rattle.em_model.specs.Sync.{since_sync, synced_answers, syncs_of, up_to_sync}
use Rattle.em_model.specs.declared.command.Command.{Command}
use Rattle.em_model.specs.declared.command.Command.TheVariants.{Put}
use Rattle.em_model.proofs.MapLaws.{map_answers_from-append, state_after-append, state_after-value}
use Rattle.em_model.proofs.PairLaws.{keys_rise, live_few, pair_at}
use Rattle.em_model.proofs.SyncLaws.{since_later, since_none, syncs-append, up_to_later, up_to_none}

-- Maps that are equal key by key.

-- they are one map,
pub same_map : (m n : Map) → ((key : ℕ) → m key ≡ n key) → m ≡ n
same_map m n same = λ i. λ key. same key i

-- they answer alike,
pub alike_answers : (apply : Combiner) (m n : Map) (cs : List Command) → ((key : ℕ) → m key ≡ n key)
    → map_answers_from apply m cs ≡ map_answers_from apply n cs
alike_answers apply m n cs same = ap (λ (x : Map). map_answers_from apply x cs) (same_map m n same)

-- and stay equal.
pub alike_state : (apply : Combiner) (m n : Map) (cs : List Command) → ((key : ℕ) → m key ≡ n key) → (key : ℕ)
    → state_after apply m cs key ≡ state_after apply n cs key
alike_state apply m n cs same key = ap (λ (x : Map). state_after apply x cs key) (same_map m n same)

-- The puts of pairs whose keys rise.

-- those of greater keys leave a key's value
puts_above : (apply : Combiner) (key low : ℕ) (before : Option ℕ) (ps : List (ℕ × ℕ)) → key < low
    → RisesFrom low (keys_of ps) → value_from apply key before (puts_of ps) ≡ before
puts_above apply key low before [] h r = refl
puts_above apply key low before (p ∷ ps) h (first, rest) =
    let other : (key == p.0) ≡ false = ne_eqb key p.0 (λ e. omega (arith, e, h, first)) in
    ap (λ (b : Option ℕ). value_from apply key b (puts_of ps)) (cond-false (key == p.0) (Some p.1) before other)
    ∙ puts_above apply key (p.0 + 1) before ps (omega (arith, h, first)) rest

puts_value : (apply : Combiner) (key low : ℕ) (ps : List (ℕ × ℕ)) → RisesFrom low (keys_of ps)
    → value_from apply key None (puts_of ps) ≡ map_of ps key
puts_value apply key low [] r = refl
puts_value apply key low (p ∷ ps) (first, rest) = ⊎_elim
    (λ (t : (key == p.0) ≡ true).
    let same : key ≡ p.0 = eqb-true key p.0 t in
    ap (λ (b : Option ℕ). value_from apply key b (puts_of ps)) (cond-true (key == p.0) (Some p.1) None t)
    ∙ puts_above apply key (p.0 + 1) (Some p.1) ps (omega (arith, same)) rest
    ∙ sym (cond-true (p.0 == key) (Some p.1) (map_of ps key) (eq-eqb p.0 key (sym same))))
    (λ (f : (key == p.0) ≡ false).
    ap (λ (b : Option ℕ). value_from apply key b (puts_of ps)) (cond-false (key == p.0) (Some p.1) None f)
    ∙ puts_value apply key (p.0 + 1) ps rest
    ∙ sym (cond-false (p.0 == key) (Some p.1) (map_of ps key) (ne_eqb p.0 key (λ e. eqb-false key p.0 f (sym e)))))
    (cases_Bool (key == p.0))

-- after them each key has its value in the map with these pairs,
pub puts_state : (apply : Combiner) (ps : List (ℕ × ℕ)) → KeysRise ps → (key : ℕ)
    → state_after apply no_keys (puts_of ps) key ≡ map_of ps key
puts_state apply ps rise key = state_after-value apply no_keys (puts_of ps) key ∙ puts_value apply key 0 ps rise

-- so they make that map,
pub puts_make : (apply : Combiner) (ps : List (ℕ × ℕ)) → KeysRise ps → state_after apply no_keys (puts_of ps) ≡ map_of ps
puts_make apply ps rise = same_map (state_after apply no_keys (puts_of ps)) (map_of ps) (puts_state apply ps rise)

-- they are as many as the pairs,
pub puts_count : (ps : List (ℕ × ℕ)) → length (puts_of ps) ≡ length ps
puts_count [] = refl
puts_count (p ∷ ps) = omega (arith, puts_count ps)

-- and answer nothing.
pub puts_unanswered : (apply : Combiner) (m : Map) (ps : List (ℕ × ℕ)) → map_answers_from apply m (puts_of ps) ≡ []
puts_unanswered apply m [] = refl
puts_unanswered apply m (p ∷ ps) = puts_unanswered apply (map_step apply m (Put p.0 p.1)) ps

-- Commands after them.

-- they leave the map that they leave from the pairs on,
pub base_state : (apply : Combiner) (ps : List (ℕ × ℕ)) (cs : List Command) → KeysRise ps
    → state_after apply no_keys (puts_of ps ++ cs) ≡ state_after apply (map_of ps) cs
base_state apply ps cs rise =
    state_after-append apply no_keys (puts_of ps) cs
    ∙ ap (λ (m : Map). state_after apply m cs) (puts_make apply ps rise)

-- so each key has the same value,
pub base_value : (apply : Combiner) (ps : List (ℕ × ℕ)) (cs : List Command) → KeysRise ps → (key : ℕ)
    → state_after apply no_keys (puts_of ps ++ cs) key ≡ state_after apply (map_of ps) cs key
base_value apply ps cs rise key = ap (λ (m : Map). m key) (base_state apply ps cs rise)

-- and all answers are those from the pairs on.
pub base_answers : (apply : Combiner) (ps : List (ℕ × ℕ)) (cs : List Command) → KeysRise ps
    → map_answers apply (puts_of ps ++ cs) ≡ map_answers_from apply (map_of ps) cs
base_answers apply ps cs rise =
    let rest = map_answers_from apply (state_after apply no_keys (puts_of ps)) cs in
    map_answers_from-append apply no_keys (puts_of ps) cs
    ∙ ap (λ (t : List (Option ℕ)). t ++ rest) (puts_unanswered apply no_keys ps)
    ∙ ap (λ (m : Map). map_answers_from apply m cs) (puts_make apply ps rise)

-- Syncs after them.

no_syncs : (ps : List (ℕ × ℕ)) → syncs_of (puts_of ps) ≡ 0
no_syncs [] = refl
no_syncs (p ∷ ps) = no_syncs ps

-- no put is a sync
pub base_syncs : (ps : List (ℕ × ℕ)) (cs : List Command) → syncs_of (puts_of ps ++ cs) ≡ syncs_of cs
base_syncs ps cs = omega (arith, syncs-append (puts_of ps) cs, no_syncs ps)

unsynced : (ps : List (ℕ × ℕ)) (cs : List Command) → syncs_of cs ≡ 0 → syncs_of (puts_of ps ++ cs) ≡ 0
unsynced ps cs none = base_syncs ps cs ∙ none

-- the syncs print the answers from the pairs on to the gets before the last one
pub base_synced : (apply : Combiner) (ps : List (ℕ × ℕ)) (cs : List Command) → KeysRise ps
    → synced_answers apply (puts_of ps ++ cs) ≡ map_answers_from apply (map_of ps) (up_to_sync cs)
base_synced apply ps cs rise =
    elim (cases_lt 0 (syncs_of cs)) [
      | inl some ↦
          ap (map_answers apply) (up_to_later (puts_of ps) cs some) ∙ base_answers apply ps (up_to_sync cs) rise
      | inr none ↦
          let e : syncs_of cs ≡ 0 = omega (arith, none) in
          ap (map_answers apply) (up_to_none (puts_of ps ++ cs) (unsynced ps cs e))
          ∙ sym (ap (map_answers_from apply (map_of ps)) (up_to_none cs e))
    ]

-- after a last sync stand the same commands
pub base_since : (ps : List (ℕ × ℕ)) (cs : List Command) → 0 < syncs_of cs
    → since_sync (puts_of ps ++ cs) ≡ since_sync cs
base_since ps cs some = since_later (puts_of ps) cs some

-- without a sync stand the puts and all commands there
pub base_unsynced : (ps : List (ℕ × ℕ)) (cs : List Command) → syncs_of cs ≡ 0
    → since_sync (puts_of ps ++ cs) ≡ puts_of ps ++ cs
base_unsynced ps cs none = since_none (puts_of ps ++ cs) (unsynced ps cs none)

-- in both cases the answers after the last sync are those from the pairs on
pub base_since_answers : (apply : Combiner) (ps : List (ℕ × ℕ)) (cs : List Command) → KeysRise ps
    → map_answers_from apply (state_after apply no_keys (up_to_sync (puts_of ps ++ cs))) (since_sync (puts_of ps ++ cs))
    ≡ map_answers_from apply (state_after apply (map_of ps) (up_to_sync cs)) (since_sync cs)
base_since_answers apply ps cs rise =
    let all = puts_of ps ++ cs in
    elim (cases_lt 0 (syncs_of cs)) [
      | inl some ↦
          ap (λ (t : List Command). map_answers_from apply (state_after apply no_keys t) (since_sync all))
          (up_to_later (puts_of ps) cs some)
          ∙ ap (λ (t : List Command). map_answers_from apply (state_after apply no_keys (puts_of ps ++ up_to_sync cs)) t)
          (base_since ps cs some)
          ∙ ap (λ (m : Map). map_answers_from apply m (since_sync cs)) (base_state apply ps (up_to_sync cs) rise)
      | inr none ↦
          let e : syncs_of cs ≡ 0 = omega (arith, none) in
          ap (λ (t : List Command). map_answers_from apply (state_after apply no_keys t) (since_sync all))
          (up_to_none all (unsynced ps cs e))
          ∙ ap (map_answers_from apply no_keys) (base_unsynced ps cs e)
          ∙ base_answers apply ps cs rise
          ∙ sym (ap (λ (t : List Command). map_answers_from apply (state_after apply (map_of ps) t) (since_sync cs))
          (up_to_none cs e)
          ∙ ap (map_answers_from apply (map_of ps)) (since_none cs e))
    ]

-- The records of their answers.

-- all records are those from the pairs on, numbered after them
pub base_records : (apply : Combiner) (ps : List (ℕ × ℕ)) (cs : List Command) → KeysRise ps
    → answers_after apply (puts_of ps) cs ≡ answers_of apply (1 + length ps) (map_of ps) cs
base_records apply ps cs rise =
    ap (λ (n : ℕ). answers_of apply (1 + n) (state_after apply no_keys (puts_of ps)) cs) (puts_count ps)
    ∙ ap (λ (m : Map). answers_of apply (1 + length ps) m cs) (puts_make apply ps rise)

-- so are those to commands after others
pub base_records_after : (apply : Combiner) (ps : List (ℕ × ℕ)) (before cs : List Command) → KeysRise ps
    → answers_after apply (puts_of ps ++ before) cs
    ≡ answers_of apply (1 + (length ps + length before)) (state_after apply (map_of ps) before) cs
base_records_after apply ps before cs rise =
    let n : 1 + length (puts_of ps ++ before) ≡ 1 + (length ps + length before) =
    omega (arith, length-append (puts_of ps) before, puts_count ps) in
    ap (λ (k : ℕ). answers_of apply k (state_after apply no_keys (puts_of ps ++ before)) cs) n
    ∙ ap (λ (m : Map). answers_of apply (1 + (length ps + length before)) m cs) (base_state apply ps before rise)

-- The pairs that the map has.

-- they are no more than the pairs and the commands
pub base_live : (ps : List (ℕ × ℕ)) (cs : List Command) → live_pairs (puts_of ps ++ cs) ≤ length ps + length cs
base_live ps cs = omega (arith, live_few (puts_of ps ++ cs), length-append (puts_of ps) cs, puts_count ps)

unchanged_above : (key low : ℕ) (ps : List (ℕ × ℕ)) → key < low → RisesFrom low (keys_of ps)
    → changes_key key (puts_of ps) ≡ false
unchanged_above key low [] h r = refl
unchanged_above key low (p ∷ ps) h (first, rest) =
    or_from (key == p.0) (changes_key key (puts_of ps))
    (ne_eqb key p.0 (λ e. omega (arith, e, h, first)))
    (unchanged_above key (p.0 + 1) ps (omega (arith, h, first)) rest)

live_above : (low : ℕ) (ps : List (ℕ × ℕ)) → RisesFrom low (keys_of ps) → live_keys (puts_of ps) ≡ keys_of ps
live_above low [] r = refl
live_above low (p ∷ ps) (first, rest) =
    ap (λ (ks : List ℕ). ks ++ live_keys (puts_of ps))
    (cond-false (changes_key p.0 (puts_of ps)) [] (p.0 ∷ []) (unchanged_above p.0 (p.0 + 1) ps (omega arith) rest))
    ∙ ap (λ (ks : List ℕ). p.0 ∷ ks) (live_above (p.0 + 1) ps rest)

keys_count : (ps : List (ℕ × ℕ)) → length (keys_of ps) ≡ length ps
keys_count [] = refl
keys_count (p ∷ ps) = omega (arith, keys_count ps)

-- the keys of the pairs have a value,
pub base_keys : (ps : List (ℕ × ℕ)) → KeysRise ps → live_keys (puts_of ps) ≡ keys_of ps
base_keys ps rise = live_above 0 ps rise

-- so it begins with as many as there are pairs
pub base_live_first : (ps : List (ℕ × ℕ)) → KeysRise ps → live_pairs (puts_of ps) ≡ length ps
base_live_first ps rise = ap (λ (ks : List ℕ). length ks) (base_keys ps rise) ∙ keys_count ps

-- A number below rising ones comes first of them.
first_inserted : (n : ℕ) (ns : List ℕ) → RisesFrom (n + 1) ns → insert_key nat_cmp ns n ≡ n ∷ ns
first_inserted n [] r = refl
first_inserted n (x ∷ xs) (first, rest) = placed (nat_cmp n x) (ranked n x (nat_cmp n x) refl)
  where
    placed : (o : Ordering) → MatchOrdering o (n < x) (n ≡ x) (x < n)
        → match_ordering o (n ∷ x ∷ xs) (x ∷ xs) (x ∷ insert_key nat_cmp xs n) ≡ n ∷ x ∷ xs
    placed Less e = refl
    placed Equal e = absurd (omega (arith, e, first))
    placed Greater e = absurd (omega (arith, e, first))

rising_stay : (low : ℕ) (ns : List ℕ) → RisesFrom low ns → ascending ns ≡ ns
rising_stay low [] r = refl
rising_stay low (n ∷ ns) (first, rest) =
    ap (λ (ks : List ℕ). insert_key nat_cmp ks n) (rising_stay (n + 1) ns rest) ∙ first_inserted n ns rest

-- the map has each of these pairs
abbrev HasPairs : Map → List (ℕ × ℕ) → Type 0
HasPairs m [] = Unit {0}
HasPairs m (p ∷ ps) = (m p.0 ≡ Some p.1) × HasPairs m ps

pairs_same : (m : Map) (ps : List (ℕ × ℕ)) → HasPairs m ps → pairs_of m (keys_of ps) ≡ ps
pairs_same m [] h = refl
pairs_same m (p ∷ ps) (first, rest) =
    ap (λ (o : Option ℕ). cons_option (option_map (λ value. (p.0, value)) o) (pairs_of m (keys_of ps))) first
    ∙ ap (λ (rs : List (ℕ × ℕ)). p ∷ rs) (pairs_same m ps rest)

has_pairs : (m : Map) (low : ℕ) (ps : List (ℕ × ℕ)) → RisesFrom low (keys_of ps)
    → ((key : ℕ) → low ≤ key → m key ≡ map_of ps key) → HasPairs m ps
has_pairs m low [] r same = tt
has_pairs m low (p ∷ ps) (first, rest) same = (
  same p.0 first ∙ cond-true (p.0 == p.0) (Some p.1) (map_of ps p.0) (eq-eqb p.0 p.0 refl),
  has_pairs m (p.0 + 1) ps rest (λ key h. same key (omega (arith, h, first))
      ∙ cond-false (p.0 == key) (Some p.1) (map_of ps key) (ne_eqb p.0 key (λ e. omega (arith, e, h)))),
)

-- and these are its pairs
pub base_pairs_after : (apply : Combiner) (ps : List (ℕ × ℕ)) → KeysRise ps → pairs_after apply (puts_of ps) ≡ ps
base_pairs_after apply ps rise =
    ap (λ (m : Map). pairs_of m (ascending (live_keys (puts_of ps)))) (puts_make apply ps rise)
    ∙ ap (λ (ks : List ℕ). pairs_of (map_of ps) (ascending ks)) (base_keys ps rise)
    ∙ ap (pairs_of (map_of ps)) (rising_stay 0 (keys_of ps) rise)
    ∙ pairs_same (map_of ps) ps (has_pairs (map_of ps) 0 ps rise (λ key h. refl))

-- The pairs that a map has after some commands, as those that another begins with.

-- their keys rise,
pub dumped_rise : (apply : Combiner) (cs : List Command) → KeysRise (pairs_after apply cs)
dumped_rise apply cs = keys_rise apply cs

-- under each key stands what the first map has there,
pub dumped_state : (apply : Combiner) (cs : List Command) (key : ℕ)
    → map_of (pairs_after apply cs) key ≡ state_after apply no_keys cs key
dumped_state apply cs key = pair_at apply cs key

-- so both answer alike from there on.
pub dumped_answers : (apply : Combiner) (cs gs : List Command)
    → map_answers_from apply (map_of (pairs_after apply cs)) gs ≡ map_answers_from apply (state_after apply no_keys cs) gs
dumped_answers apply cs gs =
    alike_answers apply (map_of (pairs_after apply cs)) (state_after apply no_keys cs) gs (dumped_state apply cs)
