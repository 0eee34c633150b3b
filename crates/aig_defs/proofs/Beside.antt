-- Edges beside the sorted definitions: a variable that is used and not defined.
use Rattle.std.proofs.Common.{◌⊎◌, inl, inr, ◌≡◌, ◌+◌, ◌≤◌, ◌/◌, true, cond, leb, List, [], ◌∷◌, ◌++◌, ℕ, sym, ap, ◌∙◌, refl, subst, arith, flat_map, Contains}
use Rattle.std.proofs.lemmas.Bool.{cases_Bool, cases_lt, leb-true, le-leb, false_from_ne_true}
use Rattle.std.proofs.lemmas.List.{map-append}
use Rattle.em_record.specs.declared.record.Record.{Record}
use Rattle.aig_defs.specs.declared.circuit.Latch.{Latch}
use Rattle.aig_defs.specs.declared.circuit.Gate.{Gate}
use Rattle.aig_defs.specs.Chains.{numbered}
use Rattle.aig_defs.specs.Circuit.{Circuit, variables, right_sides, nexts}
use Rattle.aig_defs.specs.Faults.{definitions, uses, IsUndefined, Nowhere, IsLeast}
use Rattle.aig_defs.specs.Founded.{has}
use Rattle.aig_defs.specs.Graph.{operand_edges, next_edge, output_edge, edges_in_text, graph_edges}
use Rattle.aig_defs.specs.Sorted.{numbered_defs, sorted_defs, AllAbove, Climbs, constant_def, last_to, def_to, AllMet}
use Rattle.aig_defs.proofs.Members.{has_cases, has_first, has_left, has_right, has_either, contains_first, contains_rest}
use Rattle.aig_defs.proofs.Sorted.{def_words, after_has}
use Rattle.aig_defs.proofs.Unlike.{words, word_has, word_order, order_word, above_lacks}

-- the last record up to v is the one before all, or one of them
last_among : (before : Record) (v : ℕ) (xs : List Record)
    → (last_to before v xs ≡ before) ⊎ Contains xs (last_to before v xs)
last_among before v [] = inl refl
last_among before v (x ∷ xs) = elim (cases_Bool (leb x.a v)) [
  | inl t ↦
      let same = ap (λ b. cond b (last_to x v xs) before) t in
      elim (last_among x v xs) [
        | inl e ↦ inr (contains_first x _ xs (sym (same ∙ e)))
        | inr i ↦ inr (contains_rest x _ xs (subst (Contains xs) (sym same) i))
      ]
  | inr f ↦ inl (ap (λ b. cond b (last_to x v xs) before) f)
]

-- if all records are above v, it is the one before them
last_before : (before : Record) (v n : ℕ) (xs : List Record) → v ≤ n → AllAbove n xs
    → last_to before v xs ≡ before
last_before before v n [] l h = refl
last_before before v n (x ∷ xs) l h =
    let over = h.0 in
    ap (λ b. cond b (last_to x v xs) before)
    (false_from_ne_true (leb x.a v) (λ t.
    let low = leb-true x.a v t in omega (arith, low, over, l)))

-- if one of climbing records has the word v, it is that one
record LastHas (before : Record) (v : ℕ) (xs : List Record) : Type 0 where
  word : (last_to before v xs).a ≡ v
  is : Contains xs (last_to before v xs)

low_word : (x : Record) (v : ℕ) (xs : List Record) → AllAbove x.a xs
    → has (words xs) v ≡ true → leb x.a v ≡ true
low_word x v xs a there = elim (cases_lt x.a v) [
  | inl less ↦ le-leb x.a v (omega (arith, less))
  | inr most ↦ absurd (above_lacks x.a v xs a most there)
]

last_has : (before : Record) (v : ℕ) (xs : List Record) → Climbs xs → has (words xs) v ≡ true
    → LastHas before v xs
last_has before v [] c h = cc
last_has before v (x ∷ xs) c h = elim (has_cases x.a v (words xs) h) [
  | inl same ↦
      let low = le-leb x.a v (omega (arith, same)) in
      let is = ap (λ b. cond b (last_to x v xs) before) low
      ∙ last_before x v x.a xs (omega (arith, same)) c.0 in
      record {
        word = ap (λ (r : Record). r.a) is ∙ same;
        is = contains_first x _ xs (sym is);
      }
  | inr there ↦
      let is = ap (λ b. cond b (last_to x v xs) before) (low_word x v xs c.0 there) in
      let p = last_has x v xs c.1 there in
      record {
        word = ap (λ (r : Record). r.a) is ∙ p.word;
        is = contains_rest x _ xs (subst (Contains xs) (sym is) p.is);
      }
]

-- it isn't above v if the one before isn't
last_most : (before : Record) (v : ℕ) (xs : List Record) → before.a ≤ v
    → (last_to before v xs).a ≤ v
last_most before v [] l = l
last_most before v (x ∷ xs) l = elim (cases_Bool (leb x.a v)) [
  | inl t ↦ subst (λ b. (cond b (last_to x v xs) before).a ≤ v) (sym t)
      (last_most x v xs (leb-true x.a v t))
  | inr f ↦ subst (λ b. (cond b (last_to x v xs) before).a ≤ v) (sym f) l
]

-- The definition up to a variable is that of the variable, if it is defined or the constant's,
pub def_met : (defs : List Record) (v : ℕ) → Climbs defs
    → (v ≡ 0) ⊎ (has (words defs) v ≡ true) → (def_to v defs).a ≡ v
def_met defs v c (inr there) = (last_has constant_def v defs c there).word
def_met defs v c (inl constant) =
    let most = last_most constant_def v defs (omega arith) in omega (arith, most, constant)

-- and only then.
pub met_defined : (defs : List Record) (v : ℕ) → (def_to v defs).a ≡ v
    → (v ≡ 0) ⊎ (has (words defs) v ≡ true)
met_defined defs v e = elim (last_among constant_def v defs) [
  | inl none ↦ inl (sym e ∙ ap (λ (r : Record). r.a) none)
  | inr i ↦ inr (ap (has (words defs)) (sym e) ∙ word_has defs (def_to v defs) i)
]

-- the sorted definitions have the variables that are defined
sorted_defined : (c : Circuit) (v : ℕ) → has (words (sorted_defs c)) v ≡ true
    → has (definitions c) v ≡ true
sorted_defined c v h =
    ap (λ vs. has vs v) (sym (def_words c)) ∙ word_order v (numbered_defs c) h

defined_sorted : (c : Circuit) (v : ℕ) → has (definitions c) v ≡ true
    → has (words (sorted_defs c)) v ≡ true
defined_sorted c v h =
    order_word v (numbered_defs c) (ap (λ vs. has vs v) (def_words c) ∙ h)

pub defined_met : (c : Circuit) (v : ℕ) → Climbs (sorted_defs c)
    → (v ≡ 0) ⊎ (has (definitions c) v ≡ true) → (def_to v (sorted_defs c)).a ≡ v
defined_met c v h (inl constant) = def_met (sorted_defs c) v h (inl constant)
defined_met c v h (inr there) = def_met (sorted_defs c) v h (inr (defined_sorted c v there))

pub met_is_defined : (c : Circuit) (v : ℕ) → (def_to v (sorted_defs c)).a ≡ v
    → (v ≡ 0) ⊎ (has (definitions c) v ≡ true)
met_is_defined c v e = elim (met_defined (sorted_defs c) v e) [
  | inl constant ↦ inl constant
  | inr there ↦ inr (sorted_defined c v there)
]

-- the variables that edges come from are those that are used
gate_words : (gs : List Gate) → words (flat_map operand_edges gs) ≡ variables (right_sides gs)
gate_words [] = refl
gate_words (g ∷ gs) = ap (λ vs. g.rhs0 / 2 ∷ g.rhs1 / 2 ∷ vs) (gate_words gs)

next_words : (j : ℕ) (ls : List Latch) → words (numbered next_edge j ls) ≡ variables (nexts ls)
next_words j [] = refl
next_words j (l ∷ ls) = ap (λ vs. l.next / 2 ∷ vs) (next_words (j + 1) ls)

output_words : (j : ℕ) (ls : List ℕ) → words (numbered output_edge j ls) ≡ variables ls
output_words j [] = refl
output_words j (l ∷ ls) = ap (λ vs. l / 2 ∷ vs) (output_words (j + 1) ls)

edge_words : (c : Circuit)
    → words (edges_in_text c)
    ≡ variables (right_sides c.gates) ++ (variables (nexts c.latches) ++ variables c.columns)
edge_words c =
    let gs = flat_map operand_edges c.gates in
    let ns = numbered next_edge 0 c.latches in
    let os = numbered output_edge 0 c.columns in
    let word = λ (r : Record). r.a in
    map-append word gs (ns ++ os)
    ∙ ap (λ t. t ++ words (ns ++ os)) (gate_words c.gates)
    ∙ ap (λ t. variables (right_sides c.gates) ++ t) (map-append word ns os
    ∙ ap (λ t. t ++ words os) (next_words 0 c.latches)
    ∙ ap (λ t. variables (nexts c.latches) ++ t) (output_words 0 c.columns))

pub used_edge : (c : Circuit) (v : ℕ) → has (uses c) v ≡ true
    → has (words (graph_edges c)) v ≡ true
used_edge c v h =
    let ns = variables (nexts c.latches) in
    let os = variables c.columns in
    let rs = variables (right_sides c.gates) in
    let there : has (rs ++ (ns ++ os)) v ≡ true = elim (has_either ns (os ++ rs) v h) [
      | inl a ↦ has_right rs (ns ++ os) v (has_left ns os v a)
      | inr b ↦ elim (has_either os rs v b) [
        | inl a ↦ has_right rs (ns ++ os) v (has_right ns os v a)
        | inr a ↦ has_left rs (ns ++ os) v a
      ]
    ] in
    order_word v (edges_in_text c) (ap (λ vs. has vs v) (edge_words c) ∙ there)

pub edge_used : (c : Circuit) (v : ℕ) → has (words (graph_edges c)) v ≡ true
    → has (uses c) v ≡ true
edge_used c v h =
    let ns = variables (nexts c.latches) in
    let os = variables c.columns in
    let rs = variables (right_sides c.gates) in
    let there = ap (λ vs. has vs v) (sym (edge_words c)) ∙ word_order v (edges_in_text c) h in
    elim (has_either rs (ns ++ os) v there) [
      | inl a ↦ has_right ns (os ++ rs) v (has_right os rs v a)
      | inr b ↦ elim (has_either ns os v b) [
        | inl a ↦ has_left ns (os ++ rs) v a
        | inr a ↦ has_right ns (os ++ rs) v (has_left os rs v a)
      ]
    ]

-- what is met of edges
pub met_has : (defs edges : List Record) (v : ℕ) → AllMet defs edges
    → has (words edges) v ≡ true → (def_to v defs).a ≡ v
met_has defs [] v m h = cc
met_has defs (e ∷ edges) v m h = elim (has_cases e.a v (words edges) h) [
  | inl same ↦ subst (λ u. (def_to u defs).a ≡ u) same m.0
  | inr rest ↦ met_has defs edges v m.1 rest
]

-- an undefined variable isn't met
undefined_unmet : (c : Circuit) (v : ℕ) → IsUndefined c v → (def_to v (sorted_defs c)).a ≡ v → ⊥
undefined_unmet c v u e = elim (met_is_defined c v e) [
  | inl constant ↦ u.nonzero constant
  | inr there ↦ u.undefined there
]

-- If all edges are met, no variable is used and not defined,
pub undefined_none : (c : Circuit) → AllMet (sorted_defs c) (graph_edges c)
    → Nowhere (IsUndefined c)
undefined_none c m v u =
    undefined_unmet c v u (met_has (sorted_defs c) (graph_edges c) v m (used_edge c v u.used))

-- and else the first that isn't comes from the least such variable.
pub undefined_found : (c : Circuit) (front : List Record) (e : Record) (rest : List Record)
    → Climbs (sorted_defs c) → graph_edges c ≡ front ++ e ∷ rest → AllMet (sorted_defs c) front
    → ((def_to e.a (sorted_defs c)).a ≡ e.a → ⊥) → IsLeast (IsUndefined c) e.a
undefined_found c front e rest h is m unmet = record {
  is =
      let there = has_right (words front) (words (e ∷ rest)) e.a
      (has_first e.a e.a (words rest) refl) in
      let whole = ap (λ vs. has vs e.a) (ap words is
      ∙ map-append (λ (r : Record). r.a) front (e ∷ rest)) ∙ there in
      record {
        used = edge_used c e.a whole;
        nonzero = λ constant. unmet (defined_met c e.a h (inl constant));
        undefined = λ defined. unmet (defined_met c e.a h (inr defined));
      };
  below = λ u less wrong.
      let there = used_edge c u wrong.used in
      let parts = ap words is ∙ map-append (λ (r : Record). r.a) front (e ∷ rest) in
      let split = ap (λ vs. has vs u) (sym parts) ∙ there in
      elim (has_either (words front) (words (e ∷ rest)) u split) [
        | inl a ↦ undefined_unmet c u wrong (met_has (sorted_defs c) front u m a)
        | inr b ↦
            let low = after_has (edges_in_text c) front e rest u is b in omega (arith, low, less)
      ];
}
