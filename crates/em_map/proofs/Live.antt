-- A settled tree stores no more records than the map has pairs.
use Rattle.std.proofs.Common.{◌≡◌, ℕ, ◌+◌, ◌*◌, ◌<◌, ◌≤◌, true, false, List, [], ◌∷◌, ◌++◌, length, map, append_assoc, refl, sym, ap, ◌∙◌, arith, Some, None, ⊎_elim}
use Rattle.std.specs.Ordering.{MatchOrdering, is_lt, nat_cmp, ordering_then}
use Rattle.std.specs.declared.cmp.Ordering.{Ordering}
use Rattle.std.specs.declared.cmp.Ordering.TheVariants.{Less, Equal, Greater}
use Rattle.std.proofs.lemmas.Bool.{cases_Bool, cond-false, cond-true}
use Rattle.std.proofs.lemmas.Cmp.{ranked}
use Rattle.std.proofs.Math.Nat.{mul-le-mul_left}
use Rattle.std.proofs.lemmas.List.{length-map}
use Rattle.em_record.specs.Cost.{room}
use Rattle.em_record.specs.Order.{is_below}
use Rattle.em_record.specs.Shape.{ShapeNumbers}
use Rattle.em_record.specs.declared.record.Record.{Record}
use Rattle.em_model.specs.Ascending.{RisesFrom}
use Rattle.em_model.specs.Live.{live_pairs}
use Rattle.em_model.specs.Map.{Combiner, no_keys, state_after}
use Rattle.em_model.specs.declared.command.Command.{Command}
use Rattle.em_model.proofs.LiveLaws.{AllSet, live_most}
use Rattle.em_settle.specs.Add.{add_step_of}
use Rattle.em_settle.specs.Keys.{has_key, of_key, record_at}
use Rattle.em_settle.specs.Map.{map_key_of}
use Rattle.em_settle.specs.Rising.{KeysAbove, RisesByKey}
use Rattle.em_settle.specs.States.{stored_after}
use Rattle.em_settle.proofs.Keys.{own_key}
use Rattle.em_tree_cost.specs.Shares.{floors_of}
use Rattle.em_tree_cost.proofs.Rising.{div_ceil_rises, floors_rise}
use Rattle.em_tree_model.specs.Meaning.{tree_contents}
use Rattle.em_tree_model.specs.Ranges.{IsTree, least_record}
use Rattle.em_tree_model.specs.Tree.{Tree, stored_at, stored_in, waiting_at, waiting_in}
use Rattle.em_tree_model.proofs.Paths.{in_leaf, on_path}
use Rattle.em_tree_model.proofs.RowPlaces.{all_keys}
use Rattle.em_tree_model.proofs.Takes.{stored_rises}
use Rattle.em_map.specs.Batch.{contents_after}
use Rattle.em_map.specs.Contents.{key_record, value_record}
use Rattle.em_map.proofs.Contents.{keeps_after}

-- the first words of records
abbrev words : List Record → List ℕ
words xs = map (λ (r : Record). r.a) xs

-- keys rise by their first words
below_by : (m n : ℕ) (r : Ordering) → MatchOrdering r (m < n) (m ≡ n) (n < m)
    → is_lt (ordering_then r (ordering_then (nat_cmp 0 0) (ordering_then (nat_cmp 0 0) (nat_cmp 0 0)))) ≡ true
    → m < n
below_by m n Less h e = h
below_by m n Equal h e = absurd (cc)
below_by m n Greater h e = absurd (cc)

below_words : (x y : Record) → is_below (map_key_of x) (map_key_of y) ≡ true → x.a < y.a
below_words x y e = below_by x.a y.a (nat_cmp x.a y.a) (ranked x.a y.a (nat_cmp x.a y.a) refl) e

first_low : (x : Record) (xs : List Record) → KeysAbove map_key_of (map_key_of x) xs
    → RisesFrom 0 (words xs) → RisesFrom (x.a + 1) (words xs)
first_low x [] a r = tt
first_low x (y ∷ ys) a (first, rest) = (omega (arith, below_words x y a.0), rest)

words_rise : (xs : List Record) → RisesByKey map_key_of xs → RisesFrom 0 (words xs)
words_rise [] r = tt
words_rise (x ∷ xs) (above, rest) = (omega arith, first_low x xs above (words_rise xs rest))

-- a record is found under its key
none_some : (x : Record) → Some x ≡ None → ⊥
none_some x e = cc

found : (q x : Record) (front back : List Record) → has_key map_key_of q x ≡ true
    → record_at map_key_of (front ++ x ∷ back) q ≡ None → ⊥
found q x [] back h e =
    none_some x (sym (cond-true (has_key map_key_of q x) (Some x) (record_at map_key_of back q) h) ∙ e)
found q x (y ∷ front) back h e = ⊎_elim
    (λ (t : has_key map_key_of q y ≡ true).
    none_some y (sym (cond-true (has_key map_key_of q y) (Some y) (record_at map_key_of (front ++ x ∷ back) q) t) ∙ e))
    (λ (f : has_key map_key_of q y ≡ false).
    found q x front back h
    (sym (cond-false (has_key map_key_of q y) (Some y) (record_at map_key_of (front ++ x ∷ back) q) f) ∙ e))
    (cases_Bool (has_key map_key_of q y))

-- A tree in which nothing waits, with the contents that commands leave.
module _ (apply : Combiner) (t : Tree) (is : IsTree map_key_of t least_record None) (waiting : waiting_in t ≡ []) (cs : List Command)
    (contents : (q : Record) → tree_contents map_key_of (add_step_of apply) t q ≡ contents_after apply cs q) where
  stored_is : (q : Record) → record_at map_key_of (stored_in t) q ≡ contents_after apply cs q
  stored_is q =
      let none : waiting_at map_key_of t q ≡ [] =
      sym (on_path map_key_of t least_record None q is (all_keys q)) ∙ ap (of_key map_key_of q) waiting in
      in_leaf map_key_of t least_record None q is (all_keys q)
      ∙ ap (stored_after (add_step_of apply) (stored_at map_key_of t q)) (sym none) ∙ contents q

  -- each stored record is that of a key with a value
  all_set : (front back : List Record) → stored_in t ≡ front ++ back
      → AllSet (state_after apply no_keys cs) (words back)
  all_set front [] e = tt
  all_set front (x ∷ back) e = (
    λ none.
        let q = key_record x.a in
        found q x front back (own_key map_key_of x)
        (sym (ap (λ xs. record_at map_key_of xs q) e) ∙ stored_is q ∙ keeps_after apply cs x.a
        ∙ ap (value_record x.a) none),
    all_set (front ++ x ∷ []) back (e ∙ sym (append_assoc front (x ∷ []) back)),
  )

  pub stored_live : length (stored_in t) ≤ live_pairs cs
  stored_live =
      let few = live_most apply cs (words (stored_in t))
      (words_rise (stored_in t) (stored_rises map_key_of t least_record None is))
      (all_set [] (stored_in t) refl) in
      omega (arith, few, length-map (stored_in t) (λ (r : Record). r.a))

-- more pairs have no less room
pub room_rises : (shape : ShapeNumbers) (m n : ℕ) → m ≤ n → room shape m ≤ room shape n
room_rises shape m n h =
    let b = div_ceil_rises shape.block m n h in
    let f = floors_rise shape m n h in
    let levels : 2 * shape.frames * (2 + floors_of shape m) ≤ 2 * shape.frames * (2 + floors_of shape n) =
    mul-le-mul_left (2 * shape.frames) (omega (arith, f)) in
    omega (arith, b, levels)
