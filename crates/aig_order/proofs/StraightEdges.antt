-- The edges of a straight circuit's graph, each with ranks in place of variables, are in order as they are.
use Rattle.std.proofs.Common.{◌⊎◌, inl, inr, ◌≡◌, ◌+◌, ◌-◌, ◌*◌, ◌^◌, ◌<◌, ◌≤◌, ◌/◌, ◌%◌, ◌==◌, false, cond, eqb, if◌then◌else◌, List, [], ◌∷◌, ◌++◌, ℕ, zero, suc, sym, ap, ◌∙◌, refl, subst, arith, length, map, flat_map, Contains}
use Rattle.std.specs.Ordering.{nat_cmp, ordering_then, is_lt, MatchOrdering}
use Rattle.std.specs.declared.cmp.Ordering.{Ordering}
use Rattle.std.specs.declared.cmp.Ordering.TheVariants.{Less, Equal, Greater}
use Rattle.std.proofs.lemmas.Bool.{cases_Bool, eq-eqb, eqb-false, eqb-true, ne_eqb}
use Rattle.std.proofs.lemmas.Cmp.{ranked}
use Rattle.em_record.specs.declared.record.Record.{Record}
use Rattle.em_record.specs.Order.{AtLeast, IsAscending, Lacks, in_order, is_below}
use Rattle.em_record.proofs.Commutes.{order_ascending}
use Rattle.em_record.proofs.Order.{order_ascends}
use Rattle.aig_defs.specs.declared.circuit.Gate.{Gate}
use Rattle.aig_defs.specs.declared.circuit.Header.{Header}
use Rattle.aig_defs.specs.declared.circuit.Latch.{Latch}
use Rattle.aig_defs.specs.Chains.{numbered}
use Rattle.aig_defs.specs.Circuit.{Circuit, IsCircuit, IsHeader}
use Rattle.aig_defs.specs.Faults.{IsDefined}
use Rattle.aig_defs.specs.Graph.{edges_in_text, graph_edge, graph_edges, graph_gates, graph_sources, next_edge, operand_edges, output_edge}
use Rattle.aig_defs.specs.Straight.{IsStraightGraph}
use Rattle.aig_defs.specs.VariableRanks.{ranked_edge, target_rank}
use Rattle.aig_defs.proofs.Graphs.{AllApart, apart_order, greater_not_below}
use Rattle.aig_defs.proofs.Members.{contains_cases, contains_either, contains_first, contains_none, contains_rest}
use Rattle.aig_defs.proofs.Sorted.{once_edges_apart}
use Rattle.aig_defs.proofs.Unlike.{from_order}
use Rattle.aig_order.proofs.StraightRanks.{straight_most}

-- the rank of what comes first after the gates
abbrev end_of : Header → ℕ
end_of h = 1 + h.inputs + h.latches + h.gates

-- Where the word b of an edge leads: to a gate, whose variable is its rank, to a latch, or to a column.
pub data IsPlaced (h : Header) (b : ℕ) : Type 0 where
  to_gate : b % 4 < 2 → b / 4 < end_of h → IsPlaced h b
  to_latch : b % 4 ≡ 2 → 2 ^ 41 ≤ b / 4 → b / 4 < 2 ^ 41 + h.latches → IsPlaced h b
  to_column : b % 4 ≡ 3 → 2 ^ 42 ≤ b / 4 → IsPlaced h b

abbrev pub ranked_word : Header → ℕ → ℕ
ranked_word h b = 2 * target_rank (λ v. v) h (b % 4) (b / 4) + (if b % 4 == 1 then 1 else 0)

-- the word b between ranks
gate_word : (h : Header) (b : ℕ) → b % 4 < 2 → ranked_word h b ≡ 2 * (b / 4) + b % 4
gate_word h b low =
    let other2 : eqb (b % 4) 2 ≡ false = ne_eqb (b % 4) 2 (omega (arith, low)) in
    let other3 : eqb (b % 4) 3 ≡ false = ne_eqb (b % 4) 3 (omega (arith, low)) in
    let latch = end_of h + (b / 4 - 2 ^ 41) in
    let column = 1 + h.inputs + 2 * h.latches + h.gates + (b / 4 - 2 ^ 42) in
    let target : target_rank (λ v. v) h (b % 4) (b / 4) ≡ b / 4 =
    ap (λ x. cond x latch (cond (eqb (b % 4) 3) column (b / 4))) other2
    ∙ ap (λ x. cond x column (b / 4)) other3 in
    let port : (if b % 4 == 1 then 1 else 0) ≡ b % 4 = one_by (b % 4) low in
    omega (arith, target, port)
  where
    one_by : (x : ℕ) → x < 2 → (if x == 1 then 1 else 0) ≡ x
    one_by zero l = refl
    one_by (suc zero) l = refl
    one_by (suc (suc x)) l = absurd (omega (arith, l))

end_port : (b : ℕ) → 2 ≤ b % 4 → cond {A = ℕ} (eqb (b % 4) 1) 1 0 ≡ 0
end_port b l = ap (λ x. cond {A = ℕ} x 1 0) (ne_eqb (b % 4) 1 (omega (arith, l)))

latch_word : (h : Header) (b : ℕ) → b % 4 ≡ 2
    → ranked_word h b ≡ 2 * (end_of h + (b / 4 - 2 ^ 41))
latch_word h b e =
    let latch = end_of h + (b / 4 - 2 ^ 41) in
    let column = 1 + h.inputs + 2 * h.latches + h.gates + (b / 4 - 2 ^ 42) in
    let target : target_rank (λ v. v) h (b % 4) (b / 4) ≡ latch =
    ap (λ x. cond x latch (cond (eqb (b % 4) 3) column (b / 4))) (eq-eqb (b % 4) 2 e) in
    let port = end_port b (omega (arith, e)) in
    omega (arith, target, port)

column_word : (h : Header) (b : ℕ) → b % 4 ≡ 3
    → ranked_word h b ≡ 2 * (1 + h.inputs + 2 * h.latches + h.gates + (b / 4 - 2 ^ 42))
column_word h b e =
    let latch = end_of h + (b / 4 - 2 ^ 41) in
    let column = 1 + h.inputs + 2 * h.latches + h.gates + (b / 4 - 2 ^ 42) in
    let target : target_rank (λ v. v) h (b % 4) (b / 4) ≡ column =
    ap (λ x. cond x latch (cond (eqb (b % 4) 3) column (b / 4)))
    (ne_eqb (b % 4) 2 (omega (arith, e)))
    ∙ ap (λ x. cond x column (b / 4)) (eq-eqb (b % 4) 3 e) in
    let port = end_port b (omega (arith, e)) in
    omega (arith, target, port)

-- Greater words become greater ones.
word_rises : (h : Header) (b k : ℕ) → IsHeader h → IsPlaced h b → IsPlaced h k → b < k
    → ranked_word h b < ranked_word h k
word_rises h b k is (to_gate c p) (to_gate d q) l =
    let x = gate_word h b c in let y = gate_word h k d in omega (arith, x, y, c, d, p, q, l)
word_rises h b k is (to_gate c p) (to_latch d q r) l =
    let x = gate_word h b c in let y = latch_word h k d in omega (arith, x, y, c, d, p, q)
word_rises h b k is (to_gate c p) (to_column d q) l =
    let x = gate_word h b c in let y = column_word h k d in omega (arith, x, y, c, d, p, q)
word_rises h b k is (to_latch c p r) (to_gate d q) l =
    let enough = is.enough in let max = is.max in
    absurd (omega (arith, c, d, p, q, l, enough, max))
word_rises h b k is (to_latch c p r) (to_latch d q s) l =
    let x = latch_word h b c in let y = latch_word h k d in omega (arith, x, y, c, d, p, q, l)
word_rises h b k is (to_latch c p r) (to_column d q) l =
    let x = latch_word h b c in let y = column_word h k d in omega (arith, x, y, p, r, q)
word_rises h b k is (to_column c p) (to_gate d q) l =
    let enough = is.enough in let max = is.max in
    absurd (omega (arith, c, d, p, q, l, enough, max))
word_rises h b k is (to_column c p) (to_latch d q s) l =
    let latches = is.latches in absurd (omega (arith, c, d, p, s, l, latches))
word_rises h b k is (to_column c p) (to_column d q) l =
    let x = column_word h b c in let y = column_word h k d in omega (arith, x, y, c, d, p, q, l)

-- A record that isn't below another: by a, or by b.
not_below : (r q o : Ordering) (m n i j : ℕ) → MatchOrdering r (m < n) (m ≡ n) (n < m)
    → MatchOrdering q (i < j) (i ≡ j) (j < i) → is_lt (ordering_then r (ordering_then q o)) ≡ false
    → (n < m) ⊎ ((m ≡ n) × (j ≤ i))
not_below Less q o m n i j h k f = cc
not_below Equal Less o m n i j h k f = cc
not_below Equal Equal o m n i j h k f = inr (h, omega (arith, k))
not_below Equal Greater o m n i j h k f = inr (h, omega (arith, k))
not_below Greater q o m n i j h k f = inl h

below_not : (r q o : Ordering) (m n i j : ℕ) → MatchOrdering r (m < n) (m ≡ n) (n < m)
    → MatchOrdering q (i < j) (i ≡ j) (j < i) → m ≡ n → j < i
    → is_lt (ordering_then r (ordering_then q o)) ≡ false
below_not Less q o m n i j h k e l = absurd (omega (arith, h, e))
below_not Equal Less o m n i j h k e l = absurd (omega (arith, k, l))
below_not Equal Equal o m n i j h k e l = absurd (omega (arith, k, l))
below_not Equal Greater o m n i j h k e l = refl
below_not Greater q o m n i j h k e l = absurd (omega (arith, h, e))

words_of_not : (y x : Record) → is_below y x ≡ false → (x.a < y.a) ⊎ ((y.a ≡ x.a) × (x.b ≤ y.b))
words_of_not y x f = not_below (nat_cmp y.a x.a) (nat_cmp y.b x.b)
    (ordering_then (nat_cmp y.c x.c) (nat_cmp y.d x.d)) y.a x.a y.b x.b (ranked y.a x.a _ refl)
    (ranked y.b x.b _ refl) f

not_of_words : (y x : Record) → y.a ≡ x.a → x.b < y.b → is_below y x ≡ false
not_of_words y x e l = below_not (nat_cmp y.a x.a) (nat_cmp y.b x.b)
    (ordering_then (nat_cmp y.c x.c) (nat_cmp y.d x.d)) y.a x.a y.b x.b (ranked y.a x.a _ refl)
    (ranked y.b x.b _ refl) e l

abbrev AllPlaced : Header → List Record → Type 0
AllPlaced h rs = (e : Record) → Contains rs e → IsPlaced h e.b

abbrev own_edge : Header → Record → Record
own_edge h e = ranked_edge (λ v. v) h e

-- Edges in order stay in order.
least_stays : (h : Header) (x : Record) (ys : List Record) → IsHeader h → IsPlaced h x.b
    → AllPlaced h ys → Lacks x ys → AtLeast x ys → AtLeast (own_edge h x) (map (own_edge h) ys)
least_stays h x [] is p f lacks least = tt
least_stays h x (y ∷ ys) is p f lacks least =
    let q = f y (contains_first y y ys refl) in
    let first : is_below (own_edge h y) (own_edge h x) ≡ false =
    elim (words_of_not y x least.0) [
      | inl less ↦ greater_not_below (own_edge h y) (own_edge h x) less
      | inr both ↦
          let same = both.0 in
          let most = both.1 in
          let other = lacks.0 same in
          let l : x.b < y.b = lt_of x.b y.b most (λ e. other (sym e)) in
          not_of_words (own_edge h y) (own_edge h x) same (word_rises h x.b y.b is p q l)
    ] in (
      first,
      least_stays h x ys is p (λ e i. f e (contains_rest y e ys i)) lacks.1 least.1,
    )
  where
    lt_of : (m n : ℕ) → m ≤ n → (m ≡ n → ⊥) → m < n
    lt_of m n l f = elim (cases_Bool (eqb m n)) [
      | inl t ↦ absurd (f (eqb-true m n t))
      | inr off ↦ (let z = eqb-false m n off in omega (arith, l, z))
    ]

pub order_stays : (h : Header) (xs : List Record) → IsHeader h → AllPlaced h xs → AllApart xs
    → IsAscending xs → IsAscending (map (own_edge h) xs)
order_stays h [] is f apart up = tt
order_stays h (x ∷ xs) is f apart up = (
  least_stays h x xs is (f x (contains_first x x xs refl)) (λ e i. f e (contains_rest x e xs i))
      apart.0 up.0,
  order_stays h xs is (λ e i. f e (contains_rest x e xs i)) apart.1 up.1,
)

-- the places of a circuit's edges
placed_gate : (h : Header) (literal v class : ℕ) → class < 2 → v < end_of h
    → IsPlaced h (graph_edge literal v class).b
placed_gate h literal v class low most =
    let kind : (4 * v + class) % 4 ≡ class = omega (arith, low) in
    let place : (4 * v + class) / 4 ≡ v = omega (arith, low) in
    to_gate (omega (arith, kind, low)) (omega (arith, place, most))

operands_placed : (h : Header) (gs : List Gate)
    → ((g : Gate) → Contains gs g → g.lhs / 2 < end_of h) → AllPlaced h (flat_map operand_edges gs)
operands_placed h [] f e i = absurd (contains_none e i)
operands_placed h (g ∷ gs) f e i =
    let rest = flat_map operand_edges gs in
    let low = f g (contains_first g g gs refl) in
    let first = graph_edge g.rhs0 (g.lhs / 2) 0 in
    let second = graph_edge g.rhs1 (g.lhs / 2) 1 in
    elim (contains_cases first e (second ∷ rest) i) [
      | inl same ↦
          subst (λ (z : Record). IsPlaced h z.b) same
          (placed_gate h g.rhs0 (g.lhs / 2) 0 (omega arith) low)
      | inr j ↦ elim (contains_cases second e rest j) [
        | inl same ↦
            subst (λ (z : Record). IsPlaced h z.b) same
            (placed_gate h g.rhs1 (g.lhs / 2) 1 (omega arith) low)
        | inr k ↦ operands_placed h gs (λ m n. f m (contains_rest g m gs n)) e k
      ]
    ]

latches_placed : (h : Header) (j : ℕ) (ls : List Latch) → j + length ls ≤ h.latches
    → AllPlaced h (numbered next_edge j ls)
latches_placed h j [] l e i = absurd (contains_none e i)
latches_placed h j (x ∷ ls) l e i =
    let rest = numbered next_edge (j + 1) ls in
    elim (contains_cases (next_edge j x) e rest i) [
      | inl same ↦
          let kind : (4 * (2 ^ 41 + j) + 2) % 4 ≡ 2 = omega arith in
          let place : (4 * (2 ^ 41 + j) + 2) / 4 ≡ 2 ^ 41 + j = omega arith in
          subst (λ (z : Record). IsPlaced h z.b) same
          (to_latch kind (omega (arith, place)) (omega (arith, place, l)))
      | inr k ↦ latches_placed h (j + 1) ls (omega (arith, l)) e k
    ]

columns_placed : (h : Header) (j : ℕ) (ls : List ℕ) → AllPlaced h (numbered output_edge j ls)
columns_placed h j [] e i = absurd (contains_none e i)
columns_placed h j (x ∷ ls) e i =
    let rest = numbered output_edge (j + 1) ls in
    elim (contains_cases (output_edge j x) e rest i) [
      | inl same ↦
          let kind : (4 * (2 ^ 42 + j) + 3) % 4 ≡ 3 = omega arith in
          let place : (4 * (2 ^ 42 + j) + 3) / 4 ≡ 2 ^ 42 + j = omega arith in
          subst (λ (z : Record). IsPlaced h z.b) same (to_column kind (omega (arith, place)))
      | inr k ↦ columns_placed h (j + 1) ls e k
    ]

-- So the edges of the graph are in order as they are.
pub straight_edges : (c : Circuit) → IsCircuit c → IsDefined c
    → IsStraightGraph c.header (graph_sources c) (graph_gates c)
    → in_order (map (own_edge c.header) (graph_edges c)) ≡ map (own_edge c.header) (graph_edges c)
straight_edges c is d h =
    let es = edges_in_text c in
    let gs = flat_map operand_edges c.gates in
    let ns = numbered next_edge 0 c.latches in
    let os = numbered output_edge 0 c.columns in
    let len = is.lengths.latches in
    let placed : AllPlaced c.header (graph_edges c) = λ e i.
    elim (contains_either gs (ns ++ os) e (from_order e es i)) [
      | inl a ↦ operands_placed c.header c.gates (λ g j. straight_most c is d h g j) e a
      | inr b ↦ elim (contains_either ns os e b) [
        | inl x ↦ latches_placed c.header 0 c.latches (omega (arith, len)) e x
        | inr y ↦ columns_placed c.header 0 c.columns e y
      ]
    ] in
    order_ascending (map (own_edge c.header) (graph_edges c))
    (order_stays c.header (graph_edges c) is.header placed
    (apart_order es (once_edges_apart c d.twice)) (order_ascends es))
