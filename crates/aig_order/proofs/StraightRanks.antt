-- A straight circuit: one pass finds all its gates, and each variable is its own rank.
use Rattle.std.proofs.Common.{◌⊎◌, inl, inr, ◌≡◌, ◌+◌, ◌<◌, ◌≤◌, ◌/◌, ◌==◌, Bool, true, false, cond, eqb, ◌&&◌, not, List, [], ◌∷◌, ◌++◌, ℕ, sym, ap, ◌∙◌, refl, subst, arith, length, map, Contains}
use Rattle.std.proofs.lemmas.Bool.{cases_Bool, eqb-false, eqb-true, ne_eqb}
use Rattle.std.proofs.lemmas.List.{length-append, length-map, map-append}
use Rattle.em_record.specs.declared.record.Record.{Record}
use Rattle.em_record.specs.Order.{in_order}
use Rattle.aig_defs.specs.declared.circuit.Gate.{Gate}
use Rattle.aig_defs.specs.declared.circuit.Header.{Header}
use Rattle.aig_defs.specs.declared.circuit.Latch.{Latch}
use Rattle.aig_defs.specs.Chains.{gate_record, input_def, latch_def, numbered}
use Rattle.aig_defs.specs.Circuit.{Circuit, IsCircuit, currents, left_sides, variables}
use Rattle.aig_defs.specs.Faults.{IsDefined}
use Rattle.aig_defs.specs.Founded.{first_set, gate_variables, has, is_added, passed, passes_of, sources, upwards}
use Rattle.aig_defs.specs.Graph.{graph_edges, graph_gates, graph_sources}
use Rattle.aig_defs.specs.Ranks.{first_gate_rank, index, ordered_edges}
use Rattle.aig_defs.specs.Straight.{AllAtRank, AllRise, CountsUp, IsStraightGraph}
use Rattle.aig_defs.specs.VariableRanks.{ranked_edge, source_rank, variable_rank}
use Rattle.aig_defs.proofs.Members.{contains_cases, contains_first, contains_left, contains_none, contains_rest, contains_right, has_cases, has_either, has_first, has_left, has_rest, has_right}
use Rattle.aig_defs.proofs.Passes.{length_upwards}
use Rattle.aig_defs.proofs.Single.{has_variable}
use Rattle.aig_defs.proofs.Unlike.{to_order}
use Rattle.aig_defs.proofs.Upwards.{gate_upwards, graph_upwards}
use Rattle.aig_order.specs.ByPass.{added, by_pass, found}
use Rattle.aig_order.specs.Straight.{straight_passes}
use Rattle.aig_order.proofs.ByPass.{found_unlike}
use Rattle.aig_order.proofs.Finds.{nothing_left}
use Rattle.aig_order.proofs.OrderLists.{count_found}
use Rattle.aig_order.proofs.OrderRanks.{RanksIn, ranks_ordered}
use Rattle.aig_order.proofs.Orders.{AllAdd, AllFound, found_order}
use Rattle.aig_order.proofs.PassEnds.{ends_by_pass, passes_end}
use Rattle.aig_order.proofs.PassLists.{gives_none}

-- Numbers that count up, one list after another,
counts_join : (n : ℕ) (us vs : List ℕ) → CountsUp n us → CountsUp (n + length us) vs
    → CountsUp n (us ++ vs)
counts_join n [] vs h k =
    let e : n + 0 ≡ n = omega arith in subst (λ (m : ℕ). CountsUp m vs) e k
counts_join n (u ∷ us) vs h k =
    let e : n + length (u ∷ us) ≡ n + 1 + length us = omega arith in
    (h.0, counts_join (n + 1) us vs h.1 (subst (λ (m : ℕ). CountsUp m vs) e k))

-- lie above the first number and up to the last,
record IsCounted (n len v : ℕ) : Type 0 where
  above : n < v
  most : v ≤ n + len

counts_has : (n v : ℕ) (us : List ℕ) → CountsUp n us → has us v ≡ true → IsCounted n (length us) v
counts_has n v [] h there = cc
counts_has n v (u ∷ us) h there =
    let here = h.0 in
    elim (has_cases u v us there) [
      | inl same ↦ record { above = omega (arith, here, same); most = omega (arith, here, same) }
      | inr later ↦
          let r = counts_has (n + 1) v us h.1 later in
          let low = r.above in
          let high = r.most in
          record { above = omega (arith, low); most = omega (arith, high) }
    ]

-- and have their places.
index_counts : (n v : ℕ) (ls : List ℕ) → CountsUp n (variables ls) → has (variables ls) v ≡ true
    → index v ls + (n + 1) ≡ v
index_counts n v [] h there = cc
index_counts n v (l ∷ ls) h there = elim (cases_Bool (eqb (l / 2) v)) [
  | inl same ↦
      let here : index v (l ∷ ls) ≡ 0 = ap (λ b. cond b 0 (index v ls + 1)) same in
      let is = eqb-true (l / 2) v same in
      let place = h.0 in
      omega (arith, here, is, place)
  | inr other ↦
      let later : index v (l ∷ ls) ≡ index v ls + 1 = ap (λ b. cond b 0 (index v ls + 1)) other in
      let rest : index v ls + (n + 1 + 1) ≡ v = elim (has_cases (l / 2) v (variables ls) there) [
        | inl same ↦ absurd (eqb-false (l / 2) v other same)
        | inr k ↦ index_counts (n + 1) v ls h.1 k
      ] in
      omega (arith, later, rest)
]

-- A pass over gates that count up, each above its operands, adds all of them to a set of all numbers below.
record IsUpTo (n : ℕ) (set : List ℕ) : Type 0 where
  full : (v : ℕ) → v ≤ n → has set v ≡ true
  most : (v : ℕ) → has set v ≡ true → v ≤ n

up_to_next : (n v : ℕ) (set : List ℕ) → v ≡ n + 1 → IsUpTo n set → IsUpTo (n + 1) (v ∷ set)
up_to_next n v set e i = record {
  full = λ u low. elim (at_most u n low) [
    | inl less ↦ has_rest v u set (i.full u less)
    | inr same ↦ has_first v u set (e ∙ sym same)
  ];
  most = λ u there. elim (has_cases v u set there) [
    | inl same ↦ omega (arith, same, e)
    | inr later ↦ let m = i.most u later in omega (arith, m)
  ];
}
  where
    at_most : (u n : ℕ) → u ≤ n + 1 → (u ≤ n) ⊎ (u ≡ n + 1)
    at_most u n l = elim (cases_Bool (eqb u (n + 1))) [
      | inl t ↦ inr (eqb-true u (n + 1) t)
      | inr f ↦ inl (let off = eqb-false u (n + 1) f in omega (arith, l, off))
    ]

adds_all : (n : ℕ) (gs : List Gate) (set : List ℕ) → CountsUp n (variables (left_sides gs))
    → AllRise (map (gate_record 0) gs) → IsUpTo n set → added gs set ≡ gs
adds_all n [] set h r i = refl
adds_all n (g ∷ gs) set h r i =
    let own : g.lhs / 2 ≡ n + 1 = h.0 in
    let low0 = r.0.0 in
    let low1 = r.0.1 in
    let first : has set (g.rhs0 / 2) ≡ true = i.full (g.rhs0 / 2) (omega (arith, own, low0)) in
    let second : has set (g.rhs1 / 2) ≡ true = i.full (g.rhs1 / 2) (omega (arith, own, low1)) in
    let new : has set (g.lhs / 2) ≡ false = elim (cases_Bool (has set (g.lhs / 2))) [
      | inl t ↦ absurd (let m = i.most (g.lhs / 2) t in omega (arith, m, own))
      | inr f ↦ f
    ] in
    let is : is_added set g ≡ true =
    ap (λ (b : Bool). not b && (has set (g.rhs0 / 2) && has set (g.rhs1 / 2))) new
    ∙ ap (λ (b : Bool). b && has set (g.rhs1 / 2)) first ∙ second in
    ap (λ (b : Bool). cond b (g ∷ added gs (g.lhs / 2 ∷ set)) (added gs set)) is
    ∙ ap (λ (hs : List Gate). g ∷ hs)
    (adds_all (n + 1) gs (g.lhs / 2 ∷ set) h.1 r.1 (up_to_next n (g.lhs / 2) set own i))

-- a set of zero and of numbers that count up from one
up_to_of : (us : List ℕ) → CountsUp 0 us → IsUpTo (length us) (0 ∷ us)
up_to_of us h = record {
  full = λ v l. elim (cases_Bool (eqb v 0)) [
    | inl t ↦ has_first 0 v us (sym (eqb-true v 0 t))
    | inr f ↦
        let off = eqb-false v 0 f in
        has_rest 0 v us (counted 0 v us h (omega (arith, off)) (omega (arith, l)))
  ];
  most = λ v there. elim (has_cases 0 v us there) [
    | inl same ↦ omega (arith, same)
    | inr later ↦ let m = (counts_has 0 v us h later).most in omega (arith, m)
  ];
}
  where
    counted : (n v : ℕ) (us : List ℕ) → CountsUp n us → n < v → v ≤ n + length us
        → has us v ≡ true
    counted n v [] h low high = absurd (omega (arith, low, high))
    counted n v (u ∷ us) h low high =
        let here = h.0 in
        elim (cases_Bool (eqb u v)) [
          | inl t ↦ has_first u v us (eqb-true u v t)
          | inr f ↦
              let off = eqb-false u v f in
              has_rest u v us (counted (n + 1) v us h.1 (omega (arith, low, off, here))
              (omega (arith, high)))
        ]

-- Sources whose variables are their ranks count up.
at_rank : (h : Header) (rs : List Record) → AllAtRank h rs → (r : Record) → Contains rs r
    → source_rank h r ≡ r.a
at_rank h [] a r i = absurd (contains_none r i)
at_rank h (q ∷ rs) a r i = elim (contains_cases q r rs i) [
  | inl same ↦ subst (λ (z : Record). source_rank h z ≡ z.a) same a.0
  | inr later ↦ at_rank h rs a.1 r later
]

abbrev AtRank : Header → List Record → Type 0
AtRank h rs = (r : Record) → Contains rs r → source_rank h r ≡ r.a

inputs_count : (h : Header) (j : ℕ) (ls : List ℕ) → AtRank h (numbered input_def j ls)
    → CountsUp j (variables ls)
inputs_count h j [] f = tt
inputs_count h j (l ∷ ls) f =
    let rest = numbered input_def (j + 1) ls in
    let own : 1 + j ≡ l / 2 = f (input_def j l) (contains_first (input_def j l) _ rest refl) in (
      omega (arith, own),
      inputs_count h (j + 1) ls (λ r i. f r (contains_rest (input_def j l) r rest i)),
    )

latches_count : (h : Header) (j : ℕ) (ls : List Latch) → AtRank h (numbered latch_def j ls)
    → CountsUp (h.inputs + j) (variables (currents ls))
latches_count h j [] f = tt
latches_count h j (l ∷ ls) f =
    let rest = numbered latch_def (j + 1) ls in
    let own : 1 + h.inputs + j ≡ l.current / 2 =
    f (latch_def j l) (contains_first (latch_def j l) _ rest refl) in
    let next : h.inputs + (j + 1) ≡ h.inputs + j + 1 = omega arith in (
      omega (arith, own),
      subst (λ (m : ℕ). CountsUp m (variables (currents ls))) next
          (latches_count h (j + 1) ls (λ r i. f r (contains_rest (latch_def j l) r rest i))),
    )

-- the gates' variables by their records
gates_count : (n : ℕ) (gs : List Gate)
    → CountsUp n (map (λ (r : Record). r.a) (map (gate_record 0) gs))
    → CountsUp n (variables (left_sides gs))
gates_count n [] h = tt
gates_count n (g ∷ gs) h = (h.0, gates_count (n + 1) gs h.1)

-- the variables of what has a rank
all_variables : (c : Circuit) (hs : List Gate)
    → variables ((c.inputs ++ currents c.latches) ++ left_sides hs)
    ≡ sources c ++ variables (left_sides hs)
all_variables c hs =
    map-append (λ (l : ℕ). l / 2) (c.inputs ++ currents c.latches) (left_sides hs)
    ∙ ap (λ (us : List ℕ). us ++ variables (left_sides hs))
    (map-append (λ (l : ℕ). l / 2) c.inputs (currents c.latches))

module _ (c : Circuit) (is : IsCircuit c) (d : IsDefined c)
    (h : IsStraightGraph c.header (graph_sources c) (graph_gates c)) where
  abbrev gs : List Gate
  gs = upwards c.gates

  abbrev first_sources : List Record
  first_sources = numbered input_def 0 c.inputs ++ numbered latch_def 0 c.latches

  sources_at : AtRank c.header first_sources
  sources_at r i = at_rank c.header (graph_sources c) h.ranks r (to_order r first_sources i)

  sources_len : length (sources c) ≡ c.header.inputs + c.header.latches
  sources_len =
      let a = length-map c.inputs (λ (l : ℕ). l / 2) in
      let b = length-map (currents c.latches) (λ (l : ℕ). l / 2) in
      let e = length-map c.latches (λ (l : Latch). l.current) in
      let both = length-append (variables c.inputs) (variables (currents c.latches)) in
      let inputs = is.lengths.inputs in
      let latches = is.lengths.latches in
      omega (arith, a, b, e, both, inputs, latches)

  sources_count : CountsUp 0 (sources c)
  sources_count =
      let ins = numbered input_def 0 c.inputs in
      let las = numbered latch_def 0 c.latches in
      let len : c.header.inputs + 0 ≡ 0 + length (variables c.inputs) =
      (let a = length-map c.inputs (λ (l : ℕ). l / 2) in
      let b = is.lengths.inputs in omega (arith, a, b)) in
      counts_join 0 (variables c.inputs) (variables (currents c.latches))
      (inputs_count c.header 0 c.inputs (λ r i. sources_at r (contains_left ins las r i)))
      (subst (λ (m : ℕ). CountsUp m (variables (currents c.latches))) len
      (latches_count c.header 0 c.latches (λ r i. sources_at r (contains_right ins las r i))))

  gates_counted : CountsUp (c.header.inputs + c.header.latches) (variables (left_sides gs))
  gates_counted = gates_count (c.header.inputs + c.header.latches) gs
      (subst (λ (rs : List Record).
      CountsUp (c.header.inputs + c.header.latches) (map (λ (r : Record). r.a) rs))
      (graph_upwards c d.twice) h.counts)

  gates_rise : AllRise (map (gate_record 0) gs)
  gates_rise = subst AllRise (graph_upwards c d.twice) h.rises

  all_count : CountsUp 0 (sources c ++ variables (left_sides gs))
  all_count =
      let len = sources_len in
      let e : c.header.inputs + c.header.latches ≡ 0 + length (sources c) = omega (arith, len) in
      counts_join 0 (sources c) (variables (left_sides gs)) sources_count
      (subst (λ (m : ℕ). CountsUp m (variables (left_sides gs))) e gates_counted)

  -- the first pass adds all gates
  first_adds : added gs (first_set c) ≡ gs
  first_adds = adds_all (c.header.inputs + c.header.latches) gs (first_set c) gates_counted gates_rise
      (subst (λ (n : ℕ). IsUpTo n (first_set c)) sources_len (up_to_of (sources c) sources_count))

  gates_len : length gs ≡ c.header.gates
  gates_len = length_upwards c.gates ∙ is.lengths.gates

  -- the variables of gates are at most as many as there are
  pub straight_most : (g : Gate) → Contains c.gates g
      → g.lhs / 2 < 1 + c.header.inputs + c.header.latches + c.header.gates
  straight_most g i =
      let there = gate_upwards c (g.lhs / 2) (has_variable c.gates g i) in
      let vs = variables (left_sides gs) in
      let most = (counts_has (c.header.inputs + c.header.latches) (g.lhs / 2) vs gates_counted
      there).most in
      let len = gates_len in
      let a = length-map (left_sides gs) (λ (l : ℕ). l / 2) in
      let b = length-map gs (λ (k : Gate). k.lhs) in
      omega (arith, most, len, a, b)

  pub straight_found : found c (straight_passes c.header) ≡ gs
  straight_found = elim (cases_Bool (c.header.gates == 0)) [
    | inl none ↦
        let zero_is = eqb-true c.header.gates 0 none in
        let len = gates_len in
        ap (λ b. found c (cond {A = ℕ} b 0 1)) none ∙ sym (no_gates gs (omega (arith, len, zero_is)))
    | inr some ↦ ap (λ b. found c (cond {A = ℕ} b 0 1)) some ∙ first_adds
  ]
    where
      no_gates : (xs : List Gate) → length xs ≡ 0 → xs ≡ []
      no_gates [] e = refl
      no_gates (x ∷ xs) e = absurd (omega arith)

  pub straight_all : AllFound c (straight_passes c.header)
  straight_all = count_found c (straight_passes c.header)
      (let a = ap (λ (xs : List Gate). length xs) straight_found in
      let b = length_upwards c.gates in
      omega (arith, a, b))

  pub straight_passes_are : straight_passes c.header ≡ passes_of c
  straight_passes_are = elim (cases_Bool (c.header.gates == 0)) [
    | inl none ↦
        let zero_is = eqb-true c.header.gates 0 none in
        let len = is.lengths.gates in
        let n : straight_passes c.header ≡ 0 = ap (λ b. cond {A = ℕ} b 0 1) none in
        n ∙ passes_end c 0 (λ j low. absurd (omega (arith, low)))
        (inr (omega (arith, len, zero_is)))
    | inr some ↦
        let off = eqb-false c.header.gates 0 some in
        let n : straight_passes c.header ≡ 1 = ap (λ b. cond {A = ℕ} b 0 1) some in
        let len = gates_len in
        let first = ap (λ (xs : List Gate). length xs) first_adds in
        let adds : AllAdd c 1 = λ j low.
        let j_is : 0 ≡ j = omega (arith, low) in
        subst (λ (i : ℕ). 0 < length (added gs (passed c i))) j_is (omega (arith, first, len, off)) in
        let whole : first_gate_rank c + length (found c 1) ≡ first_gate_rank c + length c.gates =
        (let a = ap (λ (xs : List Gate). length xs) first_adds in
        let b = length_upwards c.gates in omega (arith, a, b)) in
        n ∙ passes_end c 1 adds (inl (gives_none c 1 (nothing_left c 1 is whole)))
  ]

  -- each variable is its own rank
  own_ranks : RanksIn c gs (λ v. v)
  own_ranks v (inl none) =
      subst (λ (u : ℕ). u ≡ variable_rank c gs u) (sym none) refl
  own_ranks v (inr there) =
      let rest = (c.inputs ++ currents c.latches) ++ left_sides gs in
      let vars : variables rest ≡ sources c ++ variables (left_sides gs) =
      all_variables c gs in
      let up : CountsUp 0 (variables rest) = subst (CountsUp 0) (sym vars) all_count in
      let in_all : has (sources c ++ variables (left_sides gs)) v ≡ true =
      elim (has_either (sources c) (gate_variables c) v there) [
        | inl a ↦ has_left (sources c) (variables (left_sides gs)) v a
        | inr b ↦ has_right (sources c) (variables (left_sides gs)) v (gate_upwards c v b)
      ] in
      let there_too : has (variables rest) v ≡ true = ap (λ (us : List ℕ). has us v) vars ∙ in_all in
      let place = index_counts 0 v rest up there_too in
      let low = (counts_has 0 v (variables rest) up there_too).above in
      let off : eqb 0 v ≡ false = ne_eqb 0 v (omega (arith, low)) in
      let past : variable_rank c gs v ≡ index v rest + 1 =
      ap (λ b. cond b 0 (index v rest + 1)) off in
      omega (arith, place, past)

  pub straight_ordered : ordered_edges c (by_pass c)
      ≡ in_order (map (ranked_edge (λ v. v) c.header) (graph_edges c))
  straight_ordered =
      let n = straight_passes c.header in
      let order = found_order c n is d.twice d.undefined straight_all in
      let ranks : RanksIn c (found c n) (λ v. v) =
      subst (λ (hs : List Gate). RanksIn c hs (λ v. v)) (sym straight_found) own_ranks in
      ap (ordered_edges c) (sym (ends_by_pass c n straight_passes_are))
      ∙ ranks_ordered c (found c n) (λ v. v) order (found_unlike c n) ranks
