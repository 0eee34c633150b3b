-- The adjacency list of a circuit before and after each pass.
use Rattle.std.proofs.Common.{inl, inr, ◌≡◌, ◌≢◌, ◌+◌, ◌*◌, ◌<◌, ◌≤◌, ◌/◌, Bool, true, false, cond, eqb, ltb, ◌&&◌, ◌||◌, not, List, [], ◌∷◌, ◌++◌, ℕ, suc, sym, ap, ap₂, ◌∙◌, refl, subst, arith, map, flat_map, Contains}
use Rattle.std.proofs.lemmas.Bool.{cases_Bool, eq-eqb, ne_eqb}
use Rattle.em_record.specs.declared.record.Record.{Record}
use Rattle.em_record.proofs.Order.{order_ascends}
use Rattle.em_weave.specs.Woven.{woven, lefts, rights, NoneBefore}
use Rattle.em_weave.specs.declared.side.Side.{Side}
use Rattle.em_weave.specs.declared.side.Side.TheVariants.{Left, Right}
use Rattle.em_weave.proofs.Laws.{ascends_by_a, lefts_woven, rights_woven, woven_ascends, woven_lefts_first}
use Rattle.aig_defs.specs.declared.circuit.Gate.{Gate}
use Rattle.aig_defs.specs.declared.circuit.Header.{Header}
use Rattle.aig_defs.specs.declared.circuit.Latch.{Latch}
use Rattle.aig_defs.specs.Chains.{numbered, gate_record}
use Rattle.aig_defs.specs.Circuit.{Circuit, variables, left_sides, IsCircuit}
use Rattle.aig_defs.specs.Faults.{definitions, IsTwice, IsUndefined, Nowhere}
use Rattle.aig_defs.specs.Founded.{has, sources, gate_variables, upwards, passed}
use Rattle.aig_defs.specs.Graph.{graph_edge, edges_in_text, graph_edges, graph_gates, graph_sources, next_edge, output_edge, operand_edges}
use Rattle.aig_defs.specs.Sorted.{AllAbove, Climbs}
use Rattle.aig_defs.proofs.Beside.{edge_used}
use Rattle.aig_defs.proofs.Members.{has_first, has_rest, has_right, has_either, contains_first, contains_rest, contains_cases, contains_none, contains_either, gate_with}
use Rattle.aig_defs.proofs.Uses.{used_defined}
use Rattle.aig_defs.proofs.Upwards.{gate_upwards, gates_unlike, graph_upwards, from_upward}
use Rattle.aig_defs.proofs.Single.{times_in, has_times}
use Rattle.aig_defs.proofs.Unlike.{words, word_has, from_order, times_none}
use Rattle.aig_order.specs.declared.standing.Sweep.{Sweep}
use Rattle.aig_order.specs.declared.standing.Sweep.TheVariants.{Recall, Find, Send, Rank}
use Rattle.aig_order.specs.Adjacent.{merged_definition, definitions_of}
use Rattle.aig_order.specs.PassLists.{known, first_list, list_after}
use Rattle.aig_order.specs.Sweeps.{is_edge, is_gate, is_told, leads_to_gate, rises}
use Rattle.aig_order.proofs.Adjoining.{NoEdges, AllEdges, renew_agreed, renew_gates, renew_places, sides_adjoin, sides_agreed, sides_gates, sides_places}
use Rattle.aig_order.proofs.Agreeing.{to_gates, agreed_if, places_if, said_by, gate_told}
use Rattle.aig_order.proofs.Awaited.{gates_in, AllFor}
use Rattle.aig_order.proofs.Both.{first_holds, second_holds}
use Rattle.aig_order.proofs.Definitions.{above_of, definition_has, definition_times, definitions_ascend, definitions_climb, zero_undefined}
use Rattle.aig_order.proofs.Finding.{AllLead, AllTold, IsTold, found_at, note_of, notes_by}
use Rattle.aig_order.proofs.GateEdges.{gate_agrees, none_lead}
use Rattle.aig_order.proofs.Known.{found_known}
use Rattle.aig_order.proofs.PassBits.{heard_of, pass_heard}
use Rattle.aig_order.proofs.Telling.{IsAdjacency}

-- the sides of the list
abbrev pub first_sides : Circuit → List Side
first_sides c = woven (definitions_of c.header (graph_sources c) (graph_gates c)) (graph_edges c)

-- definitions are no edges
merged_no_edges : (h : Header) (ds : List Side) → NoEdges (map (merged_definition h) ds)
merged_no_edges h [] = tt
merged_no_edges h (Left x ∷ ds) = (refl, merged_no_edges h ds)
merged_no_edges h (Right x ∷ ds) = (refl, merged_no_edges h ds)

pub first_no_edges : (c : Circuit) → NoEdges (lefts (first_sides c))
first_no_edges c =
    let ds = definitions_of c.header (graph_sources c) (graph_gates c) in
    subst NoEdges (sym (lefts_woven ds (graph_edges c)))
    (merged_no_edges c.header (woven (graph_sources c) (graph_gates c)))

-- and the graph's edges are
each_edge : (es : List Record) → ((e : Record) → Contains es e → e.d ≡ 0) → AllEdges es
each_edge [] f = tt
each_edge (e ∷ es) f =
    (eq-eqb e.d 0 (f e (contains_first e e es refl)), each_edge es (λ k i. f k (contains_rest e k es i)))

operands_plain : (gs : List Gate) (e : Record) → Contains (flat_map operand_edges gs) e → e.d ≡ 0
operands_plain [] e i = absurd (contains_none e i)
operands_plain (g ∷ gs) e i =
    let second = graph_edge g.rhs1 (g.lhs / 2) 1 in
    elim (contains_cases (graph_edge g.rhs0 (g.lhs / 2) 0) e (second ∷ flat_map operand_edges gs) i) [
      | inl same ↦ sym (ap (λ (x : Record). x.d) same)
      | inr j ↦ elim (contains_cases second e (flat_map operand_edges gs) j) [
        | inl same ↦ sym (ap (λ (x : Record). x.d) same)
        | inr k ↦ operands_plain gs e k
      ]
    ]

nexts_plain : (j : ℕ) (ls : List Latch) (e : Record) → Contains (numbered next_edge j ls) e
    → e.d ≡ 0
nexts_plain j [] e i = absurd (contains_none e i)
nexts_plain j (l ∷ ls) e i =
    elim (contains_cases (next_edge j l) e (numbered next_edge (j + 1) ls) i) [
      | inl same ↦ sym (ap (λ (x : Record). x.d) same)
      | inr k ↦ nexts_plain (j + 1) ls e k
    ]

outputs_plain : (j : ℕ) (ls : List ℕ) (e : Record) → Contains (numbered output_edge j ls) e
    → e.d ≡ 0
outputs_plain j [] e i = absurd (contains_none e i)
outputs_plain j (l ∷ ls) e i =
    elim (contains_cases (output_edge j l) e (numbered output_edge (j + 1) ls) i) [
      | inl same ↦ sym (ap (λ (x : Record). x.d) same)
      | inr k ↦ outputs_plain (j + 1) ls e k
    ]

pub graph_plain : (c : Circuit) → AllEdges (graph_edges c)
graph_plain c = each_edge (graph_edges c) (λ e i.
    let gs = flat_map operand_edges c.gates in
    let ns = numbered next_edge 0 c.latches in
    let os = numbered output_edge 0 c.columns in
    elim (contains_either gs (ns ++ os) e (from_order e (edges_in_text c) i)) [
      | inl a ↦ operands_plain c.gates e a
      | inr b ↦ elim (contains_either ns os e b) [
        | inl x ↦ nexts_plain 0 c.latches e x
        | inr y ↦ outputs_plain 0 c.columns e y
      ]
    ])

pub first_edges : (c : Circuit) → AllEdges (rights (first_sides c))
first_edges c =
    let ds = definitions_of c.header (graph_sources c) (graph_gates c) in
    subst AllEdges (sym (rights_woven ds (graph_edges c))) (graph_plain c)

none_before_zero : (xs : List Record) → NoneBefore 0 xs
none_before_zero [] = tt
none_before_zero (x ∷ xs) = (omega arith, none_before_zero xs)

-- a variable that is defined has a definition in the list
pub defined_has : (c : Circuit) (v : ℕ) → has (definitions c) v ≡ true
    → has (words (definitions_of c.header (graph_sources c) (graph_gates c))) v ≡ true
defined_has c v h =
    let ds = words (definitions_of c.header (graph_sources c) (graph_gates c)) in
    let some = times_some (sources c) (gate_variables c) v h in
    has_of ds v (omega (arith, definition_times c v, some))
  where
    has_of : (vs : List ℕ) (v : ℕ) → 1 ≤ times_in v vs → has vs v ≡ true
    has_of vs v l = elim (cases_Bool (has vs v)) [
      | inl t ↦ t
      | inr f ↦ (let none = times_none v vs (λ t. cc) in absurd (omega (arith, l, none)))
    ]

    times_some : (xs ys : List ℕ) (v : ℕ) → has (xs ++ ys) v ≡ true
        → 1 ≤ times_in v xs + times_in v ys
    times_some xs ys v h = elim (has_either xs ys v h) [
      | inl a ↦ (let n = has_times xs v a in omega (arith, n))
      | inr b ↦ (let n = has_times ys v b in omega (arith, n))
    ]

-- After each pass it is an adjacency list with the ranks of what was found.
pub list_adjoins : (c : Circuit) (n : ℕ) → IsCircuit c → Nowhere (IsTwice c)
    → Nowhere (IsUndefined c) → IsAdjacency (known c n) 0 (list_after c n)
list_adjoins c n is w u =
    let ds = definitions_of c.header (graph_sources c) (graph_gates c) in
    let es = graph_edges c in
    let left = lefts_woven ds es in
    let right = rights_woven ds es in
    let no_zero = λ (h : has (words ds) 0 ≡ true). zero_undefined c is (definition_has c 0 h) in
    sides_adjoin (known c n) 0 (woven ds es) (first_no_edges c) (first_edges c)
    (subst (AllAbove 0) (sym left) (above_of 0 ds (none_before_zero ds) no_zero))
    (subst Climbs (sym left) (definitions_climb c w)) (none_before_zero (rights (woven ds es)))
    (woven_ascends ds es (definitions_ascend c)
    (ascends_by_a es (order_ascends (edges_in_text c))))
    (woven_lefts_first ds es (definitions_ascend c))
    (λ e i.
    let there = word_has es e (subst (λ xs. Contains xs e) right i) in
    elim (used_defined c e.a u (edge_used c e.a there)) [
      | inl constant ↦ inl (omega (arith, constant))
      | inr there ↦ inr (ap (λ xs. has (words xs) e.a) left ∙ defined_has c e.a there)
    ])

-- Its gates are those of the circuit upwards.
merged_gates : (h : Header) (ds : List Side)
    → gates_in (map (merged_definition h) ds) ≡ words (rights ds)
merged_gates h [] = refl
merged_gates h (Left x ∷ ds) = merged_gates h ds
merged_gates h (Right x ∷ ds) = ap (λ vs. x.a ∷ vs) (merged_gates h ds)

record_words : (gs : List Gate) → words (map (gate_record 0) gs) ≡ variables (left_sides gs)
record_words [] = refl
record_words (g ∷ gs) = ap (λ vs. g.lhs / 2 ∷ vs) (record_words gs)

pub list_gates : (c : Circuit) (n : ℕ) → Nowhere (IsTwice c)
    → gates_in (list_after c n) ≡ variables (left_sides (upwards c.gates))
list_gates c n w =
    let ds = definitions_of c.header (graph_sources c) (graph_gates c) in
    renew_gates (known c n) (first_list c)
    ∙ sides_gates (first_sides c) (first_edges c)
    ∙ ap gates_in (lefts_woven ds (graph_edges c))
    ∙ merged_gates c.header (woven (graph_sources c) (graph_gates c))
    ∙ ap words (rights_woven (graph_sources c) (graph_gates c))
    ∙ ap words (graph_upwards c w)
    ∙ record_words (upwards c.gates)

-- What its edges say is what those of the graph do.
list_agreed : (c : Circuit) (n : ℕ) (tell : Record → Bool) (v : ℕ)
    → agreed_if to_gates tell v (list_after c n) ≡ agreed_if to_gates tell v (graph_edges c)
list_agreed c n tell v =
    let ds = definitions_of c.header (graph_sources c) (graph_gates c) in
    renew_agreed (known c n) tell v (first_list c)
    ∙ sides_agreed tell v (first_sides c) (first_no_edges c)
    ∙ ap (agreed_if to_gates tell v) (rights_woven ds (graph_edges c))

pub list_places : (c : Circuit) (n v : ℕ)
    → places_if to_gates v (list_after c n) ≡ places_if to_gates v (graph_edges c)
list_places c n v =
    let ds = definitions_of c.header (graph_sources c) (graph_gates c) in
    renew_places (known c n) v (first_list c)
    ∙ sides_places v (first_sides c) (first_no_edges c)
    ∙ ap (places_if to_gates v) (rights_woven ds (graph_edges c))

-- what an operand's edge says in a pass is what the gate hears of it
operand_said : (c : Circuit) (n v literal class : ℕ) → class < 2
    → said_by (λ e. found_at (known c n) e.a) (λ e. found_at (known c (suc n)) e.a)
    (graph_edge literal v class)
    ≡ heard_of (passed c n) (passed c (suc n)) v (literal / 2)
operand_said c n v literal class low =
    let u = literal / 2 in
    let place : (4 * v + class) / 4 ≡ v = omega (arith, low) in
    ap (λ t. cond (ltb u t) (found_at (known c (suc n)) u) (found_at (known c n) u)) place
    ∙ ap₂ (λ x y. cond (ltb u v) x y) (found_known c (suc n) u) (found_known c n u)

-- a gate of the list is one of the circuit
pub list_gate : (c : Circuit) (n : ℕ) → Nowhere (IsTwice c) → (v : ℕ)
    → has (gates_in (list_after c n)) v ≡ true → has (gate_variables c) v ≡ true
list_gate c n w v h =
    from_upward c.gates v (ap (λ vs. has vs v) (sym (list_gates c n w)) ∙ h)

pub own_has : (rs : List Record) (r : Record) → Contains rs r → is_gate r ≡ true
    → has (gates_in rs) r.a ≡ true
own_has [] r i g = absurd (contains_none r i)
own_has (x ∷ rs) r i g = elim (contains_cases x r rs i) [
  | inl same ↦
      ap (λ b. has (cond b (x.a ∷ gates_in rs) (gates_in rs)) r.a) (ap is_gate same ∙ g)
      ∙ has_first x.a r.a (gates_in rs) (ap (λ (z : Record). z.a) same)
  | inr j ↦ rest_has (is_gate x) (own_has rs r j g)
]
  where
    rest_has : (b : Bool) → has (gates_in rs) r.a ≡ true
        → has (cond b (x.a ∷ gates_in rs) (gates_in rs)) r.a ≡ true
    rest_has true h = has_rest x.a r.a (gates_in rs) h
    rest_has false h = h

-- All notes of a pass.
abbrev pub pass_notes : Circuit → ℕ → ℕ → List Record
pass_notes c n base = notes_by Recall (known c n) 0 (list_after c n)
    ++ notes_by Find (known c (suc n)) base (list_after c n)

-- Each gate has two notes, which say whether the pass finds it.
pub list_told : (c : Circuit) (n base : ℕ) → IsCircuit c → Nowhere (IsTwice c)
    → AllTold (known c (suc n)) (pass_notes c n base) (list_after c n)
list_told c n base is w r i g =
    let v = r.a in
    let own = list_gate c n w v (own_has (list_after c n) r i g) in
    let gate = gate_with c.gates v own in
    let old = λ (e : Record). found_at (known c n) e.a in
    let new = λ (e : Record). found_at (known c (suc n)) e.a in
    let tell = said_by old new in
    let agrees = gate_agrees tell c (gates_unlike c w) gate.gate gate.is in
    let t = gate.gate.lhs / 2 in
    let some : t ≢ 0 = λ e. zero_undefined c is
    (has_right (sources c) (gate_variables c) 0
    (ap (has (gate_variables c)) (sym (sym gate.variable ∙ e)) ∙ own)) in
    let said = ap₂ (λ x y. x && y) (operand_said c n t gate.gate.rhs0 0 (omega arith))
    (operand_said c n t gate.gate.rhs1 1 (omega arith)) in
    let finds = sym (pass_heard c n is w gate.gate gate.is)
    ∙ sym (found_known c (suc n) t)
    ∙ ap (λ b. b || not (eqb (known c (suc n) t) 0)) (ne_eqb t 0 some) in
    subst (λ x. IsTold (known c (suc n)) (pass_notes c n base) x) gate.variable
    (gate_told (known c n) (known c (suc n)) t 0 base (list_after c n) (list_after c n) refl refl
    (list_places c n t ∙ agrees.count_is)
    (list_agreed c n tell t ∙ agrees.all_is ∙ said ∙ finds))

-- an edge to a gate has its place there
place_some : (rs : List Record) (e : Record) → Contains rs e → to_gates e ≡ true
    → 1 ≤ places_if to_gates (e.b / 4) rs
place_some [] e i t = absurd (contains_none e i)
place_some (x ∷ rs) e i t = elim (contains_cases x e rs i) [
  | inl same ↦
      (let here = ap₂ (λ p q. p && q) (ap to_gates same ∙ t)
      (eq-eqb (e.b / 4) (x.b / 4) (sym (ap (λ (z : Record). z.b / 4) same))) in
      let place = ap (λ b. cond b 1 0 + places_if to_gates (e.b / 4) rs) here in
      omega (arith, place))
  | inr j ↦ (let more = place_some rs e j t in omega (arith, more))
]

-- So the gates that notes are for are in the list.
pub edge_leads : (c : Circuit) (n : ℕ) → Nowhere (IsTwice c) → (e : Record)
    → Contains (list_after c n) e → is_edge e ≡ true → leads_to_gate e ≡ true
    → has (gates_in (list_after c n)) (e.b / 4) ≡ true
edge_leads c n w e i t l = elim (cases_Bool (has (gate_variables c) (e.b / 4))) [
  | inl own ↦
      ap (λ vs. has vs (e.b / 4)) (list_gates c n w) ∙ gate_upwards c (e.b / 4) own
  | inr none ↦
      (let some = place_some (list_after c n) e i (ap₂ (λ p q. p && q) t l) in
      let zero = list_places c n (e.b / 4) ∙ none_lead c (e.b / 4) (λ h. cc) in
      absurd (omega (arith, some, zero)))
]

told_leads : (sweep : Sweep) (e : Record) → is_told sweep e ≡ true → leads_to_gate e ≡ true
told_leads Recall e t = first_holds (leads_to_gate e) (not (rises e)) t
told_leads Find e t = first_holds (leads_to_gate e) (rises e) t
told_leads Send e t = t
told_leads Rank e t = cc

pub list_leads : (sweep : Sweep) (c : Circuit) (n : ℕ) → Nowhere (IsTwice c)
    → AllLead sweep (list_after c n)
list_leads sweep c n w e i t told = edge_leads c n w e i t (told_leads sweep e told)

-- the notes of a sweep are for these gates
notes_for_by : (vs : List ℕ) (sweep : Sweep) (rank : ℕ → ℕ) (k : ℕ) (e : Record)
    (rest : List Record) (b : Bool) → (b ≡ true → has vs (e.b / 4) ≡ true) → AllFor vs rest
    → ((note_of sweep rank k e).a ≡ e.b / 4)
    → AllFor vs (cond b (note_of sweep rank k e ∷ rest) rest)
notes_for_by vs sweep rank k e rest true f a s = (ap (has vs) s ∙ f refl, a)
notes_for_by vs sweep rank k e rest false f a s = a

note_for : (sweep : Sweep) (rank : ℕ → ℕ) (k : ℕ) (e : Record)
    → (note_of sweep rank k e).a ≡ e.b / 4
note_for Recall rank k e = refl
note_for Find rank k e = refl
note_for Send rank k e = refl
note_for Rank rank k e = refl

pub notes_all_for : (vs : List ℕ) (sweep : Sweep) (rank : ℕ → ℕ) (k : ℕ) (rs : List Record)
    → ((e : Record) → Contains rs e → is_edge e ≡ true → is_told sweep e ≡ true
    → has vs (e.b / 4) ≡ true)
    → AllFor vs (notes_by sweep rank k rs)
notes_all_for vs sweep rank k [] f = tt
notes_all_for vs sweep rank k (e ∷ rs) f =
    notes_for_by vs sweep rank k e (notes_by sweep rank (k + 1) rs) (is_edge e && is_told sweep e)
    (λ t. f e (contains_first e e rs refl) (first_holds (is_edge e) (is_told sweep e) t)
    (second_holds (is_edge e) (is_told sweep e) t))
    (notes_all_for vs sweep rank (k + 1) rs (λ x i. f x (contains_rest e x rs i)))
    (note_for sweep rank k e)
