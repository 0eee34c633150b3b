-- Before all passes the list has the ranks of inputs and latches, and no gate has one.
use Rattle.std.proofs.Common.{inl, inr, ◌≡◌, ◌+◌, ◌<◌, ◌≤◌, ◌==◌, Bool, true, false, if◌then◌else◌, min, List, [], ◌∷◌, ◌++◌, ℕ, sym, ap, ◌∙◌, refl, subst, arith, length, map, Contains}
use Rattle.std.proofs.lemmas.Bool.{false_from_ne_true}
use Rattle.em_record.specs.declared.record.Record.{Record}
use Rattle.em_weave.specs.Woven.{woven, side_record, lefts, rights}
use Rattle.em_weave.specs.declared.side.Side.{Side}
use Rattle.em_weave.specs.declared.side.Side.TheVariants.{Left, Right}
use Rattle.em_weave.proofs.Laws.{lefts_woven, rights_woven}
use Rattle.aig_defs.specs.declared.circuit.Header.{Header}
use Rattle.aig_defs.specs.Chains.{numbered, input_def, latch_def, gates_of}
use Rattle.aig_defs.specs.Circuit.{Circuit, IsCircuit}
use Rattle.aig_defs.specs.Faults.{IsTwice, Nowhere}
use Rattle.aig_defs.specs.Founded.{has, sources, gate_variables, first_set}
use Rattle.aig_defs.specs.Graph.{graph_edges, graph_gates, graph_sources}
use Rattle.aig_defs.specs.VariableRanks.{source_rank, word_source_rank}
use Rattle.aig_defs.proofs.ListedRanks.{source_words}
use Rattle.aig_defs.proofs.Members.{has_rest, contains_first, contains_rest, contains_cases, contains_none, contains_either}
use Rattle.aig_defs.proofs.VariableRanks.{gate_not_given}
use Rattle.aig_defs.proofs.Unlike.{word_has, from_order}
use Rattle.aig_order.specs.Adjacent.{merged_definition, definitions_of}
use Rattle.aig_order.specs.PassLists.{known, renew, first_list, list_after}
use Rattle.aig_order.specs.Sweeps.{is_edge}
use Rattle.aig_order.proofs.Adjoining.{AllEdges, renew_edge, renew_definition}
use Rattle.aig_order.proofs.CircuitLists.{graph_plain}
use Rattle.aig_order.proofs.Definitions.{gate_words, source_place}
use Rattle.aig_order.proofs.Known.{known_if}

-- each definition has its rank
abbrev EachRanked : (ℕ → ℕ) → List Record → Type 0
EachRanked rank [] = Unit {0}
EachRanked rank (r ∷ rs) = (is_edge r ≡ false → r.c ≡ rank r.a) × EachRanked rank rs

same_by : (rank : ℕ → ℕ) (r : Record) (b : Bool) → is_edge r ≡ b
    → (is_edge r ≡ false → r.c ≡ rank r.a) → renew rank r ≡ r
same_by rank r true e f = renew_edge rank r e
same_by rank r false e f =
    renew_definition rank r e
    ∙ ap (λ (x : ℕ). record { a = r.a; b = r.b; c = x; d = r.d }) (sym (f e))

same_list : (rank : ℕ → ℕ) (rs : List Record) → EachRanked rank rs → map (renew rank) rs ≡ rs
same_list rank [] f = refl
same_list rank (r ∷ rs) f =
    ap (λ x. x ∷ map (renew rank) rs) (same_by rank r (is_edge r) refl f.0)
    ∙ ap (λ xs. r ∷ xs) (same_list rank rs f.1)

ranked_sides : (rank : ℕ → ℕ) (ds : List Side) → EachRanked rank (lefts ds)
    → EachRanked rank (rights ds) → EachRanked rank (map side_record ds)
ranked_sides rank [] a b = tt
ranked_sides rank (Left x ∷ ds) a b = (a.0, ranked_sides rank ds a.1 b)
ranked_sides rank (Right x ∷ ds) a b = (b.0, ranked_sides rank ds a b.1)

ranked_edges : (rank : ℕ → ℕ) (es : List Record) → AllEdges es → EachRanked rank es
ranked_edges rank [] a = tt
ranked_edges rank (e ∷ es) a =
    (λ n. absurd (let t = a.0 in cc (t, n)), ranked_edges rank es a.1)

ranked_merged : (rank : ℕ → ℕ) (h : Header) (ds : List Side)
    → ((r : Record) → Contains (lefts ds) r → word_source_rank h r ≡ rank r.a)
    → ((r : Record) → Contains (rights ds) r → 0 ≡ rank r.a)
    → EachRanked rank (map (merged_definition h) ds)
ranked_merged rank h [] f g = tt
ranked_merged rank h (Left x ∷ ds) f g = (
  λ n. f x (contains_first x x (lefts ds) refl),
  ranked_merged rank h ds (λ r i. f r (contains_rest x r (lefts ds) i)) g,
)
ranked_merged rank h (Right x ∷ ds) f g = (
  λ n. g x (contains_first x x (rights ds) refl),
  ranked_merged rank h ds f (λ r i. g r (contains_rest x r (rights ds) i)),
)

-- positions are below the length of their section, and so below M
position_low : {A : Type 0} (record_of : ℕ → A → Record)
    → ((k : ℕ) (a : A) → (record_of k a).c ≡ k) → (j : ℕ) (section : List A) (r : Record)
    → Contains (numbered record_of j section) r → r.c < j + length section
position_low record_of f j [] r i = absurd (contains_none r i)
position_low record_of f j (a ∷ section) r i =
    elim (contains_cases (record_of j a) r (numbered record_of (j + 1) section) i) [
      | inl same ↦
          let e = sym (ap (λ (z : Record). z.c) same) ∙ f j a in
          omega (arith, e)
      | inr rest ↦
          let l = position_low record_of f (j + 1) section r rest in
          omega (arith, l)
    ]

source_low : (c : Circuit) → IsCircuit c → (r : Record) → Contains (graph_sources c) r
    → r.c ≤ c.header.max
source_low c is r i =
    let ns = numbered input_def 0 c.inputs in
    let ls = numbered latch_def 0 c.latches in
    let enough = is.header.enough in
    let first = is.lengths.inputs in
    let second = is.lengths.latches in
    elim (contains_either ns ls r (from_order r (ns ++ ls) i)) [
      | inl a ↦
          let l = position_low input_def (λ k x. refl) 0 c.inputs r a in
          omega (arith, l, enough, first)
      | inr b ↦
          let l = position_low latch_def (λ k x. refl) 0 c.latches r b in
          omega (arith, l, enough, second)
    ]

source_word : (h : Header) (r : Record) → r.c ≤ h.max → word_source_rank h r ≡ source_rank h r
source_word h r l =
    let fits : min r.c h.max ≡ r.c = omega (arith, l) in
    ap (λ (n : ℕ). if r.b == 0 then 1 + n else 1 + h.inputs + n) fits

-- The list before all passes.
pub first_is : (c : Circuit) → IsCircuit c → Nowhere (IsTwice c) → list_after c 0 ≡ first_list c
first_is c is w =
    let ss = graph_sources c in
    let gs = graph_gates c in
    let ds = definitions_of c.header ss gs in
    let es = graph_edges c in
    let text = numbered input_def 0 c.inputs ++ numbered latch_def 0 c.latches in
    let rank = known c 0 in
    let first = λ (r : Record) (i : Contains (lefts (woven ss gs)) r).
    let own = subst (λ xs. Contains xs r) (lefts_woven ss gs) i in
    let there : has (first_set c) r.a ≡ true =
    has_rest 0 r.a (sources c) (ap (λ vs. has vs r.a) (sym (source_words c))
    ∙ word_has text r (from_order r text own)) in
    source_word c.header r (source_low c is r own) ∙ source_place c is w [] r own
    ∙ sym (known_if c 0 r.a true there) in
    let second = λ (r : Record) (i : Contains (rights (woven ss gs)) r).
    let own = subst (λ xs. Contains xs r) (rights_woven ss gs) i in
    let there : has (gate_variables c) r.a ≡ true =
    ap (λ vs. has vs r.a) (sym (gate_words 0 c.gates))
    ∙ word_has (gates_of c) r (from_order r (gates_of c) own) in
    sym (known_if c 0 r.a false (false_from_ne_true _ (gate_not_given c is w r.a there))) in
    same_list rank (first_list c) (ranked_sides rank (woven ds es)
    (subst (EachRanked rank) (sym (lefts_woven ds es))
    (ranked_merged rank c.header (woven ss gs) first second))
    (subst (EachRanked rank) (sym (rights_woven ds es)) (ranked_edges rank es (graph_plain c))))
