-- The sorted lists of a circuit: what can be pushed one after another, the sources among the
-- definitions, and a variable that is defined twice.
use Rattle.std.proofs.Common.{◌⊎◌, inl, inr, ◌≡◌, ◌≢◌, ◌+◌, ◌^◌, ◌*◌, ◌<◌, ◌≤◌, ◌/◌, Bool, true, false, cond, List, [], ◌∷◌, ◌++◌, ℕ, sym, ap, ◌∙◌, refl, subst, arith, length, map, flat_map, filter, append_assoc, append-nil}
use Rattle.std.proofs.lemmas.Bool.{cases_Bool, cases_lt}
use Rattle.std.proofs.lemmas.List.{map-append}
use Rattle.std.proofs.lemmas.List.Elements.{filter-append}
use Rattle.em_record.specs.declared.record.Record.{Record}
use Rattle.em_record.specs.Order.{is_below, AtLeast, IsAscending, with_record, in_order, Lacks}
use Rattle.em_record.proofs.Commutes.{order_cons, order_ascending}
use Rattle.em_record.proofs.Order.{order_ascends, at_least_trans, with_least}
use Rattle.aig_defs.specs.declared.circuit.Latch.{Latch}
use Rattle.aig_defs.specs.declared.circuit.Gate.{Gate}
use Rattle.aig_defs.specs.Chains.{numbered, input_def, latch_def, gate_def, defs_of, gates_of}
use Rattle.aig_defs.specs.Circuit.{Circuit, variables, left_sides}
use Rattle.aig_defs.specs.Faults.{definitions, definition_count, IsTwice, Nowhere, IsLeast}
use Rattle.aig_defs.specs.Founded.{has}
use Rattle.aig_defs.specs.Graph.{graph_edge, operand_edges, next_edge, output_edge, edges_in_text, graph_sources, AllLack}
use Rattle.aig_defs.specs.Sorted.{numbered_def, plain_def, numbered_defs, sorted_defs, is_source, AllAbove, Climbs}
use Rattle.aig_defs.proofs.Chains.{defs_variables, gates_variables}
use Rattle.aig_defs.proofs.Graphs.{AllApart, apart_lack, AllClass, all_class_append, all_class_lower, wider_class, later_class, each_other, apart_append, class_of, section_class, section_apart, greater_not_below}
use Rattle.aig_defs.proofs.Mapped.{map_order}
use Rattle.aig_defs.proofs.Members.{has_cases, has_first, has_rest}
use Rattle.aig_defs.proofs.RankWords.{AllFromWord, word_lower, word_lacks}
use Rattle.aig_defs.proofs.Single.{times_in, times_append}
use Rattle.aig_defs.proofs.Unlike.{Unlike, few_unlike, unlike_few, times_none, words, times_order, times_first, a_at_least, climbs_unlike, order_climbs}
use Rattle.aig_defs.proofs.Upwards.{gates_unlike}

-- the numbers of definitions are one after another
numbered_words : (j : ℕ) (rs : List Record) → AllFromWord j (numbered numbered_def j rs)
numbered_words j [] = tt
numbered_words j (r ∷ rs) = (
  omega arith,
  word_lower j (j + 1) (numbered numbered_def (j + 1) rs) (omega arith) (numbered_words (j + 1) rs),
)

numbered_apart : (j : ℕ) (rs : List Record) → AllApart (numbered numbered_def j rs)
numbered_apart j [] = tt
numbered_apart j (r ∷ rs) = (
  word_lacks (numbered_def j r) (j + 1) (numbered numbered_def (j + 1) rs) (omega arith)
      (numbered_words (j + 1) rs),
  numbered_apart (j + 1) rs,
)

-- Definitions with their numbers may be pushed one after another, also if some define one variable.
pub defs_lack : (c : Circuit) → AllLack [] (numbered_defs c)
defs_lack c = apart_lack (numbered_defs c) (numbered_apart 0 (defs_of c))

-- the word a of each is its variable
words_numbered : (j : ℕ) (rs : List Record) → words (numbered numbered_def j rs) ≡ words rs
words_numbered j [] = refl
words_numbered j (r ∷ rs) = ap (λ vs. r.a ∷ vs) (words_numbered (j + 1) rs)

pub def_words : (c : Circuit) → words (numbered_defs c) ≡ definitions c
def_words c = words_numbered 0 (defs_of c) ∙ defs_variables c

sorted_times : (c : Circuit) (v : ℕ)
    → times_in v (words (sorted_defs c)) ≡ definition_count c v
sorted_times c v = times_order v (numbered_defs c) ∙ ap (times_in v) (def_words c)

-- If the sorted definitions climb, no variable is defined twice,
pub twice_none : (c : Circuit) → Climbs (sorted_defs c) → Nowhere (IsTwice c)
twice_none c h v twice =
    let few = unlike_few (words (sorted_defs c)) (climbs_unlike (sorted_defs c) h) v in
    omega (arith, twice, few, sorted_times c v)

-- and they climb if none is.
pub sorted_climbs : (c : Circuit) → Nowhere (IsTwice c) → Climbs (sorted_defs c)
sorted_climbs c n = order_climbs (numbered_defs c) (subst Unlike (sym (def_words c))
    (few_unlike (definitions c) (λ v. few_by v (cases_lt 1 (definition_count c v)))))
  where
    few_by : (v : ℕ) → (1 < definition_count c v) ⊎ (definition_count c v ≤ 1)
        → times_in v (definitions c) ≤ 1
    few_by v (inl twice) = absurd (n v (omega (arith, twice)))
    few_by v (inr few) = few

-- records that stand after one in ascending order have no lesser words
ascending_after : (front : List Record) (x : Record) (ys : List Record)
    → IsAscending (front ++ x ∷ ys) → AtLeast x ys
ascending_after [] x ys h = h.0
ascending_after (z ∷ front) x ys h = ascending_after front x ys h.1

pub at_least_has : (x : Record) (ys : List Record) (u : ℕ) → AtLeast x ys
    → has (words ys) u ≡ true → x.a ≤ u
at_least_has x [] u h there = cc
at_least_has x (y ∷ ys) u h there = elim (has_cases y.a u (words ys) there) [
  | inl same ↦ let low = a_at_least y x h.0 in omega (arith, low, same)
  | inr rest ↦ at_least_has x ys u h.1 rest
]

pub after_has : (xs front : List Record) (x : Record) (ys : List Record) (u : ℕ)
    → in_order xs ≡ front ++ x ∷ ys → has (words (x ∷ ys)) u ≡ true → x.a ≤ u
after_has xs front x ys u e there =
    let least = ascending_after front x ys (subst IsAscending e (order_ascends xs)) in
    elim (has_cases x.a u (words ys) there) [
      | inl same ↦ omega (arith, same)
      | inr rest ↦ at_least_has x ys u least rest
    ]

-- a record more after climbing ones, if it is above the last
above_more : (n : ℕ) (xs : List Record) (y : Record) → AllAbove n xs → n < y.a
    → AllAbove n (xs ++ y ∷ [])
above_more n [] y h l = (l, tt)
above_more n (x ∷ xs) y h l = (h.0, above_more n xs y h.1 l)

above_last : (n : ℕ) (front : List Record) (x : Record) → AllAbove n (front ++ x ∷ []) → n < x.a
above_last n [] x h = h.0
above_last n (z ∷ front) x h = above_last n front x h.1

climbs_over : (front : List Record) (x y : Record) → Climbs (front ++ x ∷ []) → x.a < y.a
    → Climbs ((front ++ x ∷ []) ++ y ∷ [])
climbs_over [] x y h l = ((l, tt), (tt, tt))
climbs_over (z ∷ front) x y h l =
    let low = above_last z.a front x h.0 in
    (above_more z.a (front ++ x ∷ []) y h.0 (omega (arith, low, l)), climbs_over front x y h.1 l)

-- Of sorted definitions that climb up to one, and of which the next has another variable, they climb up
-- to the next.
pub climbs_more : (c : Circuit) (front : List Record) (x y : Record) (rest : List Record)
    → sorted_defs c ≡ front ++ x ∷ y ∷ rest → Climbs (front ++ x ∷ []) → (x.a ≡ y.a → ⊥)
    → Climbs ((front ++ x ∷ []) ++ y ∷ [])
climbs_more c front x y rest e h other =
    let low = after_has (numbered_defs c) front x (y ∷ rest) y.a e
    (has_rest x.a y.a (words (y ∷ rest)) (has_first y.a y.a (words rest) refl)) in
    let differ : x.a ≢ y.a = other in
    climbs_over front x y h (omega (arith, low, differ))

-- Of sorted definitions that climb up to one, and of which the next has its variable, this is the least
-- variable that is defined twice.
pub twice_found : (c : Circuit) (front : List Record) (x y : Record) (rest : List Record)
    → sorted_defs c ≡ front ++ x ∷ y ∷ rest → Climbs (front ++ x ∷ []) → x.a ≡ y.a
    → IsLeast (IsTwice c) x.a
twice_found c front x y rest e h same = record {
  is =
      let v = x.a in
      let whole = sym (sorted_times c v) ∙ ap (λ rs. times_in v (words rs)) e
      ∙ ap (times_in v) (map-append (λ (r : Record). r.a) front (x ∷ y ∷ rest))
      ∙ times_append v (words front) (words (x ∷ y ∷ rest)) in
      let first = times_first v (words (y ∷ rest)) in
      let second = ap (λ u. times_in v (u ∷ words rest)) (sym same)
      ∙ times_first v (words rest) in
      omega (arith, whole, first, second);
  below = λ u less twice.
      let split : front ++ x ∷ y ∷ rest ≡ (front ++ x ∷ []) ++ y ∷ rest =
      sym (append_assoc front (x ∷ []) (y ∷ rest)) in
      let whole = sym (sorted_times c u) ∙ ap (λ rs. times_in u (words rs)) (e ∙ split)
      ∙ ap (times_in u) (map-append (λ (r : Record). r.a) (front ++ x ∷ []) (y ∷ rest))
      ∙ times_append u (words (front ++ x ∷ [])) (words (y ∷ rest)) in
      let few = unlike_few (words (front ++ x ∷ [])) (climbs_unlike (front ++ x ∷ []) h) u in
      let none = times_none u (words (y ∷ rest)) (λ there.
      let low = after_has (numbered_defs c) front x (y ∷ rest) u e
      (has_rest x.a u (words (y ∷ rest)) there) in omega (arith, low, less)) in
      omega (arith, twice, whole, few, none);
}

-- what passes a test of ordered records, in order
at_least_filter : (p : Record → Bool) (low : Record) (xs : List Record) → AtLeast low xs
    → AtLeast low (filter p xs)
at_least_filter p low [] h = tt
at_least_filter p low (x ∷ xs) h = elim (cases_Bool (p x)) [
  | inl t ↦ subst (λ b. AtLeast low (cond b (x ∷ filter p xs) (filter p xs))) (sym t)
      (h.0, at_least_filter p low xs h.1)
  | inr f ↦ subst (λ b. AtLeast low (cond b (x ∷ filter p xs) (filter p xs))) (sym f)
      (at_least_filter p low xs h.1)
]

filter_in : (p : Record → Bool) (x : Record) (ys : List Record) → IsAscending ys → p x ≡ true
    → filter p (with_record x ys) ≡ with_record x (filter p ys)
filter_in p x [] a t = ap (λ b. cond b (x ∷ []) []) t
filter_in p x (y ∷ ys) a t = elim (cases_Bool (is_below y x)) [
  | inl below ↦
      let rest = filter_in p x ys a.1 t in
      ap (λ b. filter p (cond b (y ∷ with_record x ys) (x ∷ y ∷ ys))) below
      ∙ elim (cases_Bool (p y)) [
        | inl holds ↦
            ap (λ b. cond b (y ∷ filter p (with_record x ys)) (filter p (with_record x ys))) holds
            ∙ ap (λ rs. y ∷ rs) rest
            ∙ sym (ap (λ b. cond b (y ∷ with_record x (filter p ys)) (x ∷ y ∷ filter p ys)) below)
            ∙ sym (ap (λ b. with_record x (cond b (y ∷ filter p ys) (filter p ys))) holds)
        | inr lacks ↦
            ap (λ b. cond b (y ∷ filter p (with_record x ys)) (filter p (with_record x ys))) lacks
            ∙ rest
            ∙ sym (ap (λ b. with_record x (cond b (y ∷ filter p ys) (filter p ys))) lacks)
      ]
  | inr past ↦
      let least : AtLeast x (y ∷ ys) = (past, at_least_trans x y ys past a.0) in
      ap (λ b. filter p (cond b (y ∷ with_record x ys) (x ∷ y ∷ ys))) past
      ∙ ap (λ b. cond b (x ∷ filter p (y ∷ ys)) (filter p (y ∷ ys))) t
      ∙ sym (with_least x (filter p (y ∷ ys)) (at_least_filter p x (y ∷ ys) least))
]

filter_out : (p : Record → Bool) (x : Record) (ys : List Record) → p x ≡ false
    → filter p (with_record x ys) ≡ filter p ys
filter_out p x [] f = ap (λ b. cond b (x ∷ []) []) f
filter_out p x (y ∷ ys) f = elim (cases_Bool (is_below y x)) [
  | inl below ↦
      ap (λ b. filter p (cond b (y ∷ with_record x ys) (x ∷ y ∷ ys))) below
      ∙ ap (λ rs. cond (p y) (y ∷ rs) rs) (filter_out p x ys f)
  | inr past ↦
      ap (λ b. filter p (cond b (y ∷ with_record x ys) (x ∷ y ∷ ys))) past
      ∙ ap (λ b. cond b (x ∷ filter p (y ∷ ys)) (filter p (y ∷ ys))) f
]

pub filter_order : (p : Record → Bool) (xs : List Record)
    → filter p (in_order xs) ≡ in_order (filter p xs)
filter_order p [] = refl
filter_order p (x ∷ xs) = elim (cases_Bool (p x)) [
  | inl t ↦
      ap (filter p) (order_cons x xs)
      ∙ filter_in p x (in_order xs) (order_ascends xs) t
      ∙ ap (with_record x) (filter_order p xs)
      ∙ sym (order_cons x (filter p xs))
      ∙ sym (ap (λ b. in_order (cond b (x ∷ filter p xs) (filter p xs))) t)
  | inr f ↦
      ap (filter p) (order_cons x xs)
      ∙ filter_out p x (in_order xs) f
      ∙ filter_order p xs
      ∙ sym (ap (λ b. in_order (cond b (x ∷ filter p xs) (filter p xs))) f)
]

-- climbing records that keep their words a ascend
above_filter : (p : Record → Bool) (n : ℕ) (xs : List Record) → AllAbove n xs
    → AllAbove n (filter p xs)
above_filter p n [] h = tt
above_filter p n (x ∷ xs) h = elim (cases_Bool (p x)) [
  | inl t ↦ subst (λ b. AllAbove n (cond b (x ∷ filter p xs) (filter p xs))) (sym t)
      (h.0, above_filter p n xs h.1)
  | inr f ↦ subst (λ b. AllAbove n (cond b (x ∷ filter p xs) (filter p xs))) (sym f)
      (above_filter p n xs h.1)
]

climbs_filter : (p : Record → Bool) (xs : List Record) → Climbs xs → Climbs (filter p xs)
climbs_filter p [] h = tt
climbs_filter p (x ∷ xs) h = elim (cases_Bool (p x)) [
  | inl t ↦ subst (λ b. Climbs (cond b (x ∷ filter p xs) (filter p xs))) (sym t)
      (above_filter p x.a xs h.0, climbs_filter p xs h.1)
  | inr f ↦ subst (λ b. Climbs (cond b (x ∷ filter p xs) (filter p xs))) (sym f)
      (climbs_filter p xs h.1)
]

above_plain : (x : Record) (xs : List Record) → AllAbove x.a xs
    → AtLeast (plain_def x) (map plain_def xs)
above_plain x [] h = tt
above_plain x (y ∷ ys) h =
    (greater_not_below (plain_def y) (plain_def x) h.0, above_plain x ys h.1)

climbs_plain : (xs : List Record) → Climbs xs → IsAscending (map plain_def xs)
climbs_plain [] h = tt
climbs_plain (x ∷ xs) h = (above_plain x xs h.0, climbs_plain xs h.1)

-- the sources among the definitions, in the order of the text
numbered_append : (j : ℕ) (xs ys : List Record)
    → numbered numbered_def j (xs ++ ys)
    ≡ numbered numbered_def j xs ++ numbered numbered_def (j + length xs) ys
numbered_append j [] ys =
    let start : j ≡ j + 0 = omega arith in
    ap (λ k. numbered numbered_def k ys) start
numbered_append j (x ∷ xs) ys =
    let start : j + 1 + length xs ≡ j + length (x ∷ xs) = omega arith in
    ap (λ rs. numbered_def j x ∷ rs) (numbered_append (j + 1) xs ys
    ∙ ap (λ k. numbered numbered_def (j + 1) xs ++ numbered numbered_def k ys) start)

-- the sources of some definitions, without their numbers
abbrev kept : ℕ → List Record → List Record
kept j rs = map plain_def (filter is_source (numbered numbered_def j rs))

kept_append : (j : ℕ) (xs ys : List Record) → kept j (xs ++ ys) ≡ kept j xs ++ kept (j + length xs) ys
kept_append j xs ys =
    let first = numbered numbered_def j xs in
    let second = numbered numbered_def (j + length xs) ys in
    ap (λ rs. map plain_def (filter is_source rs)) (numbered_append j xs ys)
    ∙ ap (map plain_def) (filter-append is_source first second)
    ∙ map-append plain_def (filter is_source first) (filter is_source second)

kept_inputs : (j k : ℕ) (ls : List ℕ) → kept j (numbered input_def k ls) ≡ numbered input_def k ls
kept_inputs j k [] = refl
kept_inputs j k (l ∷ ls) = ap (λ rs. input_def k l ∷ rs) (kept_inputs (j + 1) (k + 1) ls)

kept_latches : (j k : ℕ) (ls : List Latch)
    → kept j (numbered latch_def k ls) ≡ numbered latch_def k ls
kept_latches j k [] = refl
kept_latches j k (l ∷ ls) = ap (λ rs. latch_def k l ∷ rs) (kept_latches (j + 1) (k + 1) ls)

kept_gates : (j k : ℕ) (gs : List Gate) → kept j (numbered gate_def k gs) ≡ []
kept_gates j k [] = refl
kept_gates j k (g ∷ gs) = kept_gates (j + 1) (k + 1) gs

kept_defs : (c : Circuit)
    → kept 0 (defs_of c) ≡ numbered input_def 0 c.inputs ++ numbered latch_def 0 c.latches
kept_defs c =
    let is = numbered input_def 0 c.inputs in
    let ls = numbered latch_def 0 c.latches in
    let gs = numbered gate_def 0 c.gates in
    kept_append 0 is (ls ++ gs)
    ∙ ap (λ t. t ++ kept (0 + length is) (ls ++ gs)) (kept_inputs 0 0 c.inputs)
    ∙ ap (λ t. is ++ t) (kept_append (0 + length is) ls gs
    ∙ ap (λ t. t ++ kept (0 + length is + length ls) gs) (kept_latches _ 0 c.latches)
    ∙ ap (λ t. ls ++ t) (kept_gates _ 0 c.gates) ∙ append-nil ls)

-- The sources of the graph are those of the sorted definitions, without their numbers.
pub sorted_sources : (c : Circuit) → Nowhere (IsTwice c)
    → map plain_def (filter is_source (sorted_defs c)) ≡ graph_sources c
sorted_sources c n =
    let some = filter is_source (numbered_defs c) in
    let same = filter_order is_source (numbered_defs c) in
    let up = climbs_plain (filter is_source (sorted_defs c))
    (climbs_filter is_source (sorted_defs c) (sorted_climbs c n)) in
    sym (order_ascending (map plain_def (filter is_source (sorted_defs c))) up)
    ∙ ap (λ rs. in_order (map plain_def rs)) same
    ∙ map_order plain_def some
    ∙ ap in_order (kept_defs c)

-- records with unlike words are apart
lacks_word : (x : Record) (ys : List Record) → (has (words ys) x.a ≡ true → ⊥) → Lacks x ys
lacks_word x [] f = tt
lacks_word x (y ∷ ys) f = (
  (λ p q. f (has_first y.a x.a (words ys) p)),
  lacks_word x ys (λ h. f (has_rest y.a x.a (words ys) h)),
)

unlike_apart : (xs : List Record) → Unlike (words xs) → AllApart xs
unlike_apart [] u = tt
unlike_apart (x ∷ xs) u = (lacks_word x xs u.0, unlike_apart xs u.1)

-- If nothing is defined twice, the gates may be pushed one after another,
pub gates_lack : (c : Circuit) → Nowhere (IsTwice c) → AllLack [] (gates_of c)
gates_lack c n = apart_lack (gates_of c)
    (unlike_apart (gates_of c) (subst Unlike (sym (gates_variables c)) (gates_unlike c n)))

-- edges to gates with other variables
lacks_gates : (x : Record) (gs : List Gate)
    → (has (variables (left_sides gs)) (x.b / 4) ≡ true → ⊥) → Lacks x (flat_map operand_edges gs)
lacks_gates x [] f = tt
lacks_gates x (g ∷ gs) f =
    let vs = variables (left_sides gs) in
    let v = g.lhs / 2 in
    let other : v ≡ x.b / 4 → ⊥ = λ e. f (has_first v (x.b / 4) vs e) in
    let first : 4 * v + 0 ≡ x.b → ⊥ = λ e. other (omega (arith, e)) in
    let second : 4 * v + 1 ≡ x.b → ⊥ = λ e. other (omega (arith, e)) in (
      (λ p q. first q),
      ((λ p q. second q), lacks_gates x gs (λ h. f (has_rest v (x.b / 4) vs h))),
    )

unlike_edges : (gs : List Gate) → Unlike (variables (left_sides gs))
    → AllApart (flat_map operand_edges gs)
unlike_edges [] u = tt
unlike_edges (g ∷ gs) u =
    let v = g.lhs / 2 in
    let vs = variables (left_sides gs) in
    let first = graph_edge g.rhs0 v 0 in
    let second = graph_edge g.rhs1 v 1 in
    let at0 : first.b / 4 ≡ v = omega arith in
    let at1 : second.b / 4 ≡ v = omega arith in
    let differ : second.b ≡ first.b → ⊥ = λ e. omega (arith, e) in (
      ((λ p q. differ q), lacks_gates first gs (λ h. u.0 (ap (has vs) (sym at0) ∙ h))),
      (lacks_gates second gs (λ h. u.0 (ap (has vs) (sym at1) ∙ h)), unlike_edges gs u.1),
    )

gates_classes : (gs : List Gate) → AllClass 0 0 2 (flat_map operand_edges gs)
gates_classes [] = tt
gates_classes (g ∷ gs) = (
  class_of 0 0 2 g.rhs0 (g.lhs / 2) 0 (omega arith) (omega arith) (omega arith) (omega arith),
  (
    class_of 0 0 2 g.rhs1 (g.lhs / 2) 1 (omega arith) (omega arith) (omega arith) (omega arith),
    gates_classes gs,
  ),
)

-- and so may the edges.
pub once_edges_apart : (c : Circuit) → Nowhere (IsTwice c) → AllApart (edges_in_text c)
once_edges_apart c n =
    let gs = flat_map operand_edges c.gates in
    let ns = numbered next_edge 0 c.latches in
    let os = numbered output_edge 0 c.columns in
    let next = λ (l : Latch). l.next in
    let own = λ (l : ℕ). l in
    let latches : AllClass 0 2 3 ns = all_class_lower (2 ^ 41 + 0) 0 2 3 ns (omega arith)
    (section_class next (2 ^ 41) 2 0 c.latches (omega arith)) in
    let outputs : AllClass 0 3 4 os = all_class_lower (2 ^ 42 + 0) 0 3 4 os (omega arith)
    (section_class own (2 ^ 42) 3 0 c.columns (omega arith)) in
    let latches_apart : AllApart ns = section_apart next (2 ^ 41) 2 0 c.latches (omega arith) in
    let outputs_apart : AllApart os = section_apart own (2 ^ 42) 3 0 c.columns (omega arith) in
    let ends = apart_append ns os latches_apart outputs_apart
    (each_other 2 3 4 ns os latches outputs) in
    let rest = all_class_append 0 2 4 ns os (wider_class 2 3 4 ns (omega arith) latches)
    (later_class 3 2 4 os (omega arith) outputs) in
    apart_append gs (ns ++ os) (unlike_edges c.gates (gates_unlike c n)) ends
    (each_other 0 2 4 gs (ns ++ os) (gates_classes c.gates) rest)

pub once_edges_lack : (c : Circuit) → Nowhere (IsTwice c) → AllLack [] (edges_in_text c)
once_edges_lack c n = apart_lack (edges_in_text c) (once_edges_apart c n)
