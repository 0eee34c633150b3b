-- The edges between ranks: where each variable has its rank, that edges go forward, and which edges
-- lead to a rank.
use Rattle.std.proofs.Common.{inl, inr, ◌≡◌, ◌+◌, ◌*◌, ◌<◌, ◌≤◌, ◌/◌, ◌%◌, Bool, true, false, cond, eqb, ◌&&◌, List, [], ◌∷◌, ◌++◌, ℕ, zero, suc, ap, ◌∙◌, refl, subst, arith, length, get_or, Contains, append_assoc, append-nil}
use Rattle.std.proofs.lemmas.Bool.{eqb-true, eqb-false}
use Rattle.std.proofs.lemmas.List.{length-append, length-map, map-append}
use Rattle.std.proofs.lemmas.List.Elements.{All-contains}
use Rattle.em_record.specs.Order.{IsAscending}
use Rattle.em_record.proofs.Order.{order_ascends, length_order}
use Rattle.aig_defs.specs.declared.circuit.Latch.{Latch}
use Rattle.aig_defs.specs.declared.circuit.Gate.{Gate}
use Rattle.aig_defs.specs.Circuit.{Circuit, variables, currents, nexts, left_sides, HasLengths, IsDefining, IsLatch, IsGate, columns}
use Rattle.aig_defs.specs.Edges.{heard, arity, LeadOn}
use Rattle.aig_defs.specs.Founded.{has}
use Rattle.aig_defs.specs.Ranks.{given_literals, ranked, ends, first_gate_rank, first_end_rank, rank_count, index, rank_edge, gate_rank_edges, end_rank_edges, edges_by_rank, ordered_edges, IsDefinedBy, AllFollow, IsOrder}
use Rattle.aig_defs.proofs.Edges.{Brings, brings_none, brings_other, brings_here, brings_append, brings_order, lead_order, lead_append}
use Rattle.aig_defs.proofs.Members.{has_cases, has_left, contains_first, contains_rest}

-- How many ranks there are, by the numbers of the header.
pub record RankNumbers (c : Circuit) (order : List Gate) : Type 0 where
  pub gates : length order ≡ c.header.gates
  pub ends : length (ends c) ≡ c.header.latches + columns c.header
  pub first_gate : first_gate_rank c ≡ 1 + c.header.inputs + c.header.latches
  pub first_end : first_end_rank c order
      ≡ 1 + c.header.inputs + c.header.latches + c.header.gates
  pub count : rank_count c order
      ≡ 1 + c.header.inputs + 2 * c.header.latches + c.header.gates + columns c.header

pub rank_numbers : (c : Circuit) (order : List Gate) → HasLengths c
    → length order ≡ length c.gates → RankNumbers c order
rank_numbers c order l same =
    let latches = length-map c.latches (λ (d : Latch). d.current) in
    let later = length-map c.latches (λ (d : Latch). d.next) in
    let given = length-append c.inputs (currents c.latches) in
    let last = length-append (nexts c.latches) c.columns in
    record {
      gates = omega (arith, same, l.gates);
      ends = omega (arith, last, later, l.latches, l.columns);
      first_gate = omega (arith, given, latches, l.inputs, l.latches);
      first_end = omega (arith, given, latches, l.inputs, l.latches, same, l.gates);
      count = omega (
        arith,
        given,
        latches,
        l.inputs,
        l.latches,
        same,
        l.gates,
        last,
        later,
        l.columns,
      );
    }

pub length_ranked : (c : Circuit) (order : List Gate)
    → length (ranked c order) ≡ first_end_rank c order
length_ranked c order =
    length-append (given_literals c) (left_sides order)
    ∙ ap (λ n. first_gate_rank c + n) (length-map order (λ (g : Gate). g.lhs))

-- how many edges there are
gate_edges_count : (from : List ℕ) (t : ℕ) (gs : List Gate)
    → length (gate_rank_edges from t gs) ≡ 2 * length gs
gate_edges_count from t [] = refl
gate_edges_count from t (g ∷ gs) = omega (arith, gate_edges_count from (t + 1) gs)

end_edges_count : (from : List ℕ) (t : ℕ) (ls : List ℕ)
    → length (end_rank_edges from t ls) ≡ length ls
end_edges_count from t [] = refl
end_edges_count from t (l ∷ ls) = omega (arith, end_edges_count from (t + 1) ls)

pub ordered_count : (c : Circuit) (order : List Gate) → HasLengths c
    → length order ≡ length c.gates
    → length (ordered_edges c order)
    ≡ 2 * c.header.gates + c.header.latches + columns c.header
ordered_count c order l same =
    let from = ranked c order in
    let gs = gate_rank_edges from (first_gate_rank c) order in
    let es = end_rank_edges from (first_end_rank c order) (ends c) in
    let n = rank_numbers c order l same in
    let gates = n.gates in
    let last = n.ends in
    omega (
      arith,
      length_order (gs ++ es),
      length-append gs es,
      gate_edges_count from (first_gate_rank c) order,
      end_edges_count from (first_end_rank c order) (ends c),
      gates,
      last,
    )

-- The edges ascend.
pub ordered_ascend : (c : Circuit) (order : List Gate) → IsAscending (ordered_edges c order)
ordered_ascend c order = order_ascends (edges_by_rank c order)

-- a variable among the first literals has its place there
index_front_by : (b : Bool) (l v : ℕ) (ls more : List ℕ) → eqb (l / 2) v ≡ b
    → has (variables (l ∷ ls)) v ≡ true
    → (has (variables ls) v ≡ true → index v (ls ++ more) < length ls)
    → cond b 0 (index v (ls ++ more) + 1) < suc (length ls)
index_front_by true l v ls more e h f = omega arith
index_front_by false l v ls more e h f = elim (has_cases (l / 2) v (variables ls) h) [
  | inl same ↦ absurd (eqb-false (l / 2) v e same)
  | inr there ↦ let low = f there in omega (arith, low)
]

pub index_front : (v : ℕ) (ls more : List ℕ) → has (variables ls) v ≡ true
    → index v (ls ++ more) < length ls
index_front v [] more h = cc
index_front v (l ∷ ls) more h =
    index_front_by (eqb (l / 2) v) l v ls more refl h (index_front v ls more)

-- each of these literals is even
abbrev pub AllEven : List ℕ → Type 0
AllEven [] = Unit {0}
AllEven (l ∷ ls) = (l % 2 ≡ 0) × AllEven ls

even_append : (xs ys : List ℕ) → AllEven xs → AllEven ys → AllEven (xs ++ ys)
even_append [] ys h k = k
even_append (x ∷ xs) ys h k = (h.0, even_append xs ys h.1 k)

-- the place of a variable has a literal of it
index_by : (b : Bool) (v l : ℕ) (ls more : List ℕ) → eqb (l / 2) v ≡ b → l % 2 ≡ 0
    → has (variables (l ∷ ls)) v ≡ true
    → (has (variables ls) v ≡ true → get_or (ls ++ more) (index v ls) 0 ≡ 2 * v)
    → get_or (l ∷ ls ++ more) (cond b 0 (index v ls + 1)) 0 ≡ 2 * v
index_by true v l ls more e even h f = let same = eqb-true (l / 2) v e in omega (arith, same, even)
index_by false v l ls more e even h f = elim (has_cases (l / 2) v (variables ls) h) [
  | inl same ↦ absurd (eqb-false (l / 2) v e same)
  | inr there ↦
      let next : index v ls + 1 ≡ suc (index v ls) = omega arith in
      ap (λ k. get_or (l ∷ ls ++ more) k 0) next ∙ f there
]

pub index_is : (v : ℕ) (ls more : List ℕ) → has (variables ls) v ≡ true → AllEven ls
    → get_or (ls ++ more) (index v ls) 0 ≡ 2 * v
index_is v [] more h even = cc
index_is v (l ∷ ls) more h even =
    index_by (eqb (l / 2) v) v l ls more refl even.0 h
    (λ there. index_is v ls more there even.1)

-- the literals of a circuit that edges come from are even
even_inputs : (h : _) (ls : List ℕ) → ((l : ℕ) → Contains ls l → IsDefining h l) → AllEven ls
even_inputs h [] f = tt
even_inputs h (l ∷ ls) f = (
  (f l (contains_first l l ls refl)).even,
  even_inputs h ls (λ k i. f k (contains_rest l k ls i)),
)

even_currents : (h : _) (ls : List Latch) → ((l : Latch) → Contains ls l → IsLatch h l)
    → AllEven (currents ls)
even_currents h [] f = tt
even_currents h (l ∷ ls) f = (
  (f l (contains_first l l ls refl)).current.even,
  even_currents h ls (λ k i. f k (contains_rest l k ls i)),
)

even_gates : (h : _) (gs : List Gate) → ((g : Gate) → Contains gs g → IsGate h g)
    → AllEven (left_sides gs)
even_gates h [] f = tt
even_gates h (g ∷ gs) f = (
  (f g (contains_first g g gs refl)).lhs.even,
  even_gates h gs (λ k i. f k (contains_rest g k gs i)),
)

pub ranked_even : (c : Circuit) (order : List Gate) → IsOrder c order → AllEven (ranked c order)
ranked_even c order o =
    let is = o.is in
    let inputs = even_inputs c.header c.inputs
    (λ l i. All-contains (IsDefining c.header) c.inputs l is.inputs i) in
    let latches = even_currents c.header c.latches
    (λ l i. All-contains (IsLatch c.header) c.latches l is.latches i) in
    let gates = even_gates c.header order
    (λ g i. All-contains (IsGate c.header) c.gates g is.gates (o.gates g i)) in (
      refl,
      even_append (c.inputs ++ currents c.latches) (left_sides order)
          (even_append c.inputs (currents c.latches) inputs latches) gates,
    )

-- a literal among the first is among all
pub among_more : (ls more : List ℕ) (l : ℕ) → IsDefinedBy ls l → IsDefinedBy (ls ++ more) l
among_more ls more l h =
    ap (λ t. has t (l / 2)) (map-append (λ (l : ℕ). l / 2) ls more)
    ∙ has_left (variables ls) (variables more) (l / 2) h

-- The operands of a gate are among the literals, and their ranks are below t.
pub record RanksBelow (from : List ℕ) (t : ℕ) (g : Gate) : Type 0 where
  pub among0 : IsDefinedBy from g.rhs0
  pub among1 : IsDefinedBy from g.rhs1
  pub low0 : index (g.rhs0 / 2) from < t
  pub low1 : index (g.rhs1 / 2) from < t

abbrev pub AllRankBelow : List ℕ → ℕ → List Gate → Type 0
AllRankBelow from t [] = Unit {0}
AllRankBelow from t (g ∷ gs) = RanksBelow from t g × AllRankBelow from (t + 1) gs

rank_below : (from more : List ℕ) (g : Gate) → IsDefinedBy from g.rhs0 → IsDefinedBy from g.rhs1
    → RanksBelow (from ++ more) (length from) g
rank_below from more g a b = record {
  among0 = among_more from more g.rhs0 a;
  among1 = among_more from more g.rhs1 b;
  low0 = index_front (g.rhs0 / 2) from more a;
  low1 = index_front (g.rhs1 / 2) from more b;
}

follow_below : (from : List ℕ) (gs : List Gate) → AllFollow from gs
    → AllRankBelow (from ++ left_sides gs) (length from) gs
follow_below from [] f = tt
follow_below from (g ∷ gs) f =
    let more = left_sides gs in
    let whole : (from ++ g.lhs ∷ []) ++ more ≡ from ++ (g.lhs ∷ more) =
    append_assoc from (g.lhs ∷ []) more in
    let count : length (from ++ g.lhs ∷ []) ≡ length from + 1 =
    omega (arith, length-append from (g.lhs ∷ [])) in
    let rest = follow_below (from ++ g.lhs ∷ []) gs f.1 in (
      rank_below from (g.lhs ∷ more) g f.0.0 f.0.1,
      subst (λ k. AllRankBelow (from ++ (g.lhs ∷ more)) k gs) count
          (subst (λ z. AllRankBelow z (length (from ++ g.lhs ∷ [])) gs) whole rest),
    )

pub order_below : (c : Circuit) (order : List Gate) → IsOrder c order
    → AllRankBelow (ranked c order) (first_gate_rank c) order
order_below c order o = follow_below (given_literals c) order o.follow

pub below_at : (from : List ℕ) (t : ℕ) (gs : List Gate) (j : ℕ) (d : Gate)
    → AllRankBelow from t gs → j < length gs → RanksBelow from (t + j) (get_or gs j d)
below_at from t [] j d h low = absurd (omega arith)
below_at from t (g ∷ gs) zero d h low =
    let here : t ≡ t + 0 = omega arith in
    subst (λ k. RanksBelow from k g) here h.0
below_at from t (g ∷ gs) (suc j) d h low =
    let there : t + 1 + j ≡ t + suc j = omega arith in
    subst (λ k. RanksBelow from k (get_or gs j d)) there
    (below_at from (t + 1) gs j d h.1 (omega arith))

-- Each edge leads from a rank that has edges to a later rank.
gates_lead : (m n t : ℕ) (from : List ℕ) (gs : List Gate) → AllRankBelow from t gs
    → t + length gs ≤ m → m ≤ n → LeadOn m n (gate_rank_edges from t gs)
gates_lead m n t from [] h high most = tt
gates_lead m n t from (g ∷ gs) h high most =
    let low0 = h.0.low0 in
    let low1 = h.0.low1 in
    let first = index (g.rhs0 / 2) from in
    let second = index (g.rhs1 / 2) from in
    let even : 2 * t / 2 ≡ t = omega arith in
    let odd : (2 * t + 1) / 2 ≡ t = omega arith in
    let a : first < m = omega (arith, low0, high) in
    let b : second < m = omega (arith, low1, high) in (
      (a, omega (arith, low0, even), omega (arith, high, most, even)),
      (
        (b, omega (arith, low1, odd), omega (arith, high, most, odd)),
        gates_lead m n (t + 1) from gs h.1 (omega (arith, high)) most,
      ),
    )

ends_lead : (n t : ℕ) (from ls : List ℕ)
    → ((l : ℕ) → Contains ls l → IsDefinedBy from l) → t + length ls ≤ n
    → length from ≤ t → LeadOn (length from) n (end_rank_edges from t ls)
ends_lead n t from [] f high low = tt
ends_lead n t from (l ∷ ls) f high low =
    let place = index_least (l / 2) from (f l (contains_first l l ls refl)) in
    let even : 2 * t / 2 ≡ t = omega arith in (
      (place, omega (arith, place, low, even), omega (arith, high, even)),
      ends_lead n (t + 1) from ls (λ k i. f k (contains_rest l k ls i)) (omega (arith, high))
          (omega (arith, low)),
    )
  where
    index_least : (v : ℕ) (ls : List ℕ) → has (variables ls) v ≡ true → index v ls < length ls
    index_least v ls h =
        subst (λ t. index v t < length ls) (append-nil ls)
        (index_front v ls [] h)

pub edges_lead : (c : Circuit) (order : List Gate) → IsOrder c order
    → LeadOn (first_end_rank c order) (rank_count c order) (ordered_edges c order)
edges_lead c order o =
    let from = ranked c order in
    let m = first_end_rank c order in
    let n = rank_count c order in
    let long = length_ranked c order in
    let gates = gates_lead m n (first_gate_rank c) from order (order_below c order o)
    (omega arith) (omega arith) in
    let last = ends_lead n m from (ends c)
    (λ l i. All-contains (IsDefinedBy from) (ends c) l o.ends i) (omega arith)
    (omega (arith, long)) in
    lead_order m n (edges_by_rank c order)
    (lead_append m n (gate_rank_edges from (first_gate_rank c) order)
    (end_rank_edges from m (ends c)) gates
    (subst (λ k. LeadOn k n (end_rank_edges from m (ends c))) long last))

-- The edges of gates by the rank that they lead to: none to a lesser one,
gates_before : (value : ℕ → Bool) (from : List ℕ) (t u : ℕ) (gs : List Gate) → u < t
    → Brings value u (gate_rank_edges from t gs) true 0
gates_before value from t u [] low = brings_none value u
gates_before value from t u (g ∷ gs) low =
    brings_other value u (rank_edge from g.rhs0 (2 * t)) _ true 0 (λ e. omega (arith, e))
    (brings_other value u (rank_edge from g.rhs1 (2 * t + 1)) _ true 0 (λ e. omega (arith, e))
    (gates_before value from (t + 1) u gs (omega arith)))

-- none to one after all gates,
gates_after : (value : ℕ → Bool) (from : List ℕ) (t u : ℕ) (gs : List Gate)
    → t + length gs ≤ u → Brings value u (gate_rank_edges from t gs) true 0
gates_after value from t u [] high = brings_none value u
gates_after value from t u (g ∷ gs) high =
    brings_other value u (rank_edge from g.rhs0 (2 * t)) _ true 0
    (λ e. omega (arith, e, high))
    (brings_other value u (rank_edge from g.rhs1 (2 * t + 1)) _ true 0
    (λ e. omega (arith, e, high))
    (gates_after value from (t + 1) u gs (omega (arith, high))))

-- and two to that of a gate.
abbrev both_heard : (ℕ → Bool) → List ℕ → Gate → Bool
both_heard value from g =
    heard value (rank_edge from g.rhs0 0) && (heard value (rank_edge from g.rhs1 0) && true)

gates_here : (value : ℕ → Bool) (from : List ℕ) (t j : ℕ) (gs : List Gate) (d : Gate)
    → j < length gs
    → Brings value (t + j) (gate_rank_edges from t gs) (both_heard value from (get_or gs j d)) 2
gates_here value from t j [] d low = absurd (omega arith)
gates_here value from t zero (g ∷ gs) d low =
    brings_here value (t + 0) (rank_edge from g.rhs0 (2 * t)) _ _ 1 (omega arith)
    (brings_here value (t + 0) (rank_edge from g.rhs1 (2 * t + 1)) _ true 0 (omega arith)
    (gates_before value from (t + 1) (t + 0) gs (omega arith)))
gates_here value from t (suc j) (g ∷ gs) d low =
    let there : t + 1 + j ≡ t + suc j = omega arith in
    let is = both_heard value from (get_or gs j d) in
    let rest = gates_here value from (t + 1) j gs d (omega arith) in
    brings_other value (t + suc j) (rank_edge from g.rhs0 (2 * t)) _ is 2
    (λ e. omega (arith, e))
    (brings_other value (t + suc j) (rank_edge from g.rhs1 (2 * t + 1)) _ is 2
    (λ e. omega (arith, e))
    (subst (λ u. Brings value u (gate_rank_edges from (t + 1) gs) is 2) there rest))

-- the same of ends, with one edge each
ends_before : (value : ℕ → Bool) (from : List ℕ) (t u : ℕ) (ls : List ℕ) → u < t
    → Brings value u (end_rank_edges from t ls) true 0
ends_before value from t u [] low = brings_none value u
ends_before value from t u (l ∷ ls) low =
    brings_other value u (rank_edge from l (2 * t)) _ true 0 (λ e. omega (arith, e))
    (ends_before value from (t + 1) u ls (omega arith))

ends_here : (value : ℕ → Bool) (from : List ℕ) (t j : ℕ) (ls : List ℕ) → j < length ls
    → Brings value (t + j) (end_rank_edges from t ls)
    (heard value (rank_edge from (get_or ls j 0) 0) && true) 1
ends_here value from t j [] low = absurd (omega arith)
ends_here value from t zero (l ∷ ls) low =
    brings_here value (t + 0) (rank_edge from l (2 * t)) _ true 0 (omega arith)
    (ends_before value from (t + 1) (t + 0) ls (omega arith))
ends_here value from t (suc j) (l ∷ ls) low =
    let there : t + 1 + j ≡ t + suc j = omega arith in
    let is = heard value (rank_edge from (get_or ls j 0) 0) && true in
    brings_other value (t + suc j) (rank_edge from l (2 * t)) _ is 1 (λ e. omega (arith, e))
    (subst (λ u. Brings value u (end_rank_edges from (t + 1) ls) is 1) there
    (ends_here value from (t + 1) j ls (omega arith)))

-- No edge leads to a rank below the gates.
pub given_arity : (c : Circuit) (order : List Gate) (t : ℕ) → t < first_gate_rank c
    → arity t (ordered_edges c order) ≡ 0
given_arity c order t low =
    let value = λ (u : ℕ). false in
    let from = ranked c order in
    let both = brings_append value t (gate_rank_edges from (first_gate_rank c) order)
    (end_rank_edges from (first_end_rank c order) (ends c)) true true 0 0
    (gates_before value from (first_gate_rank c) t order low)
    (ends_before value from (first_end_rank c order) t (ends c) (omega (arith, low))) in
    (brings_order both).many

-- To the rank of a gate lead the edges of both its operands,
pub gate_heard : (value : ℕ → Bool) (c : Circuit) (order : List Gate) (j : ℕ) (d : Gate)
    → j < length order
    → Brings value (first_gate_rank c + j) (ordered_edges c order)
    (both_heard value (ranked c order) (get_or order j d) && true) 2
gate_heard value c order j d low =
    let from = ranked c order in
    let t = first_gate_rank c in
    brings_order (brings_append value (t + j) (gate_rank_edges from t order)
    (end_rank_edges from (first_end_rank c order) (ends c))
    (both_heard value from (get_or order j d)) true 2 0
    (gates_here value from t j order d low)
    (ends_before value from (first_end_rank c order) (t + j) (ends c) (omega (arith, low))))

-- and to that of an end the one of its literal.
pub end_heard : (value : ℕ → Bool) (c : Circuit) (order : List Gate) (j : ℕ)
    → j < length (ends c)
    → Brings value (first_end_rank c order + j) (ordered_edges c order)
    (heard value (rank_edge (ranked c order) (get_or (ends c) j 0) 0) && true) 1
end_heard value c order j low =
    let from = ranked c order in
    let t = first_end_rank c order in
    brings_order (brings_append value (t + j) (gate_rank_edges from (first_gate_rank c) order)
    (end_rank_edges from t (ends c)) true _ 0 1
    (gates_after value from (first_gate_rank c) (t + j) order (omega arith))
    (ends_here value from t j (ends c) low))
