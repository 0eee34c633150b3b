-- Edges between ranks by their words: no two have the same a and b, and those of ends append.
use Rattle.std.proofs.Common.{◌≡◌, ◌+◌, ◌*◌, ◌<◌, ◌≤◌, List, [], ◌∷◌, ◌++◌, ℕ, ap, ◌∙◌, subst, arith, length}
use Rattle.em_record.specs.declared.record.Record.{Record}
use Rattle.em_record.specs.Order.{Lacks}
use Rattle.aig_defs.specs.declared.circuit.Gate.{Gate}
use Rattle.aig_defs.specs.Circuit.{Circuit}
use Rattle.aig_defs.specs.Ranks.{ranked, ends, first_gate_rank, first_end_rank, rank_edge, gate_rank_edges, end_rank_edges, edges_by_rank}
use Rattle.aig_defs.proofs.Graphs.{AllApart}

pub end_edges_append : (from : List ℕ) (t : ℕ) (xs ys : List ℕ)
    → end_rank_edges from t (xs ++ ys)
    ≡ end_rank_edges from t xs ++ end_rank_edges from (t + length xs) ys
end_edges_append from t [] ys =
    let start : t ≡ t + 0 = omega arith in
    ap (λ k. end_rank_edges from k ys) start
end_edges_append from t (x ∷ xs) ys =
    let start : t + 1 + length xs ≡ t + length (x ∷ xs) = omega arith in
    ap (λ es. rank_edge from x (2 * t) ∷ es) (end_edges_append from (t + 1) xs ys
    ∙ ap (λ k. end_rank_edges from (t + 1) xs ++ end_rank_edges from k ys) start)

-- edges that go upwards by their word b have no words in common
abbrev pub AllFromWord : ℕ → List Record → Type 0
AllFromWord b [] = Unit {0}
AllFromWord b (e ∷ edges) = (b ≤ e.b) × AllFromWord b edges

pub word_lower : (b more : ℕ) (edges : List Record) → b ≤ more → AllFromWord more edges
    → AllFromWord b edges
word_lower b more [] low h = tt
word_lower b more (e ∷ edges) low h =
    let from = h.0 in (omega (arith, from, low), word_lower b more edges low h.1)

word_append : (b : ℕ) (xs ys : List Record) → AllFromWord b xs → AllFromWord b ys
    → AllFromWord b (xs ++ ys)
word_append b [] ys h k = k
word_append b (x ∷ xs) ys h k = (h.0, word_append b xs ys h.1 k)

pub word_lacks : (x : Record) (b : ℕ) (edges : List Record) → x.b < b → AllFromWord b edges
    → Lacks x edges
word_lacks x b [] low h = tt
word_lacks x b (e ∷ edges) low h =
    let from = h.0 in
    ((λ p q. omega (arith, q, from, low)), word_lacks x b edges low h.1)

ends_words : (from : List ℕ) (t : ℕ) (ls : List ℕ) → AllFromWord (2 * t) (end_rank_edges from t ls)
ends_words from t [] = tt
ends_words from t (l ∷ ls) = (
  omega arith,
  word_lower (2 * t) (2 * (t + 1)) (end_rank_edges from (t + 1) ls) (omega arith)
      (ends_words from (t + 1) ls),
)

gates_words : (from : List ℕ) (t : ℕ) (gs : List Gate)
    → AllFromWord (2 * t) (gate_rank_edges from t gs)
gates_words from t [] = tt
gates_words from t (g ∷ gs) = (
  omega arith,
  (
    omega arith,
    word_lower (2 * t) (2 * (t + 1)) (gate_rank_edges from (t + 1) gs)
        (omega arith) (gates_words from (t + 1) gs),
  ),
)

ends_apart : (from : List ℕ) (t : ℕ) (ls : List ℕ) → AllApart (end_rank_edges from t ls)
ends_apart from t [] = tt
ends_apart from t (l ∷ ls) = (
  word_lacks (rank_edge from l (2 * t)) (2 * (t + 1)) (end_rank_edges from (t + 1) ls)
      (omega arith) (ends_words from (t + 1) ls),
  ends_apart from (t + 1) ls,
)

all_apart : (from : List ℕ) (t : ℕ) (gs : List Gate) (ends : List Record)
    → AllFromWord (2 * (t + length gs)) ends → AllApart ends
    → AllApart (gate_rank_edges from t gs ++ ends)
all_apart from t [] ends h a = a
all_apart from t (g ∷ gs) ends h a =
    let count : 2 * (t + length (g ∷ gs)) ≡ 2 * (t + 1 + length gs) = omega arith in
    let others = gate_rank_edges from (t + 1) gs ++ ends in
    let words = word_append (2 * (t + 1)) (gate_rank_edges from (t + 1) gs) ends
    (gates_words from (t + 1) gs)
    (word_lower (2 * (t + 1)) (2 * (t + length (g ∷ gs))) ends (omega arith) h) in
    let first = rank_edge from g.rhs0 (2 * t) in
    let second = rank_edge from g.rhs1 (2 * t + 1) in
    let differ : second.b ≡ first.b → ⊥ = λ e. omega (arith, e) in (
      ((λ p q. differ q), word_lacks first (2 * (t + 1)) others (omega arith) words),
      (
        word_lacks second (2 * (t + 1)) others (omega arith) words,
        all_apart from (t + 1) gs ends (subst (λ k. AllFromWord k ends) count h) a,
      ),
    )

pub by_rank_apart : (c : Circuit) (order : List Gate) → AllApart (edges_by_rank c order)
by_rank_apart c order =
    let from = ranked c order in
    let t = first_end_rank c order in
    all_apart from (first_gate_rank c) order (end_rank_edges from t (ends c))
    (ends_words from t (ends c)) (ends_apart from t (ends c))
