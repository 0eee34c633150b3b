-- The rank of a variable by the sources and the gates of a circuit's graph.
use Rattle.std.proofs.Common.{inl, inr, ◌≡◌, ◌≢◌, ◌+◌, ◌/◌, true, cond, eqb, ltb, List, [], ◌∷◌, ◌++◌, ℕ, sym, ap, ◌∙◌, refl, subst, arith, length, map, filter, find, Option, Some, None, Contains, map-id}
use Rattle.std.specs.Option.{option_map, unwrap_or}
use Rattle.std.proofs.lemmas.Bool.{cases_Bool, eqb-true, eqb-false, ne_eqb}
use Rattle.std.proofs.lemmas.List.{map-append}
use Rattle.em_record.specs.declared.record.Record.{Record}
use Rattle.aig_defs.specs.declared.circuit.Latch.{Latch}
use Rattle.aig_defs.specs.Chains.{numbered, input_def, latch_def}
use Rattle.aig_defs.specs.Circuit.{Circuit, variables, currents, left_sides, IsCircuit}
use Rattle.aig_defs.specs.Faults.{IsTwice, Nowhere}
use Rattle.aig_defs.specs.Founded.{has, sources, gate_variables, upwards}
use Rattle.aig_defs.specs.Graph.{graph_gates, graph_sources}
use Rattle.aig_defs.specs.Ranks.{index}
use Rattle.aig_defs.specs.VariableRanks.{variable_rank, source_rank, listed_rank}
use Rattle.aig_defs.proofs.Chains.{defs_words}
use Rattle.aig_defs.proofs.Members.{has_cases, has_rest, has_left, has_right, has_either, contains_first, contains_rest, contains_cases, contains_none, contains_left, contains_right}
use Rattle.aig_defs.proofs.Passes.{length_upwards}
use Rattle.aig_defs.proofs.RankEdges.{rank_numbers}
use Rattle.aig_defs.proofs.Single.{few_definitions, has_times, times_append}
use Rattle.aig_defs.proofs.Unlike.{Unlike, few_unlike, words, word_has, one_record, from_order, to_order}
use Rattle.aig_defs.proofs.Upwards.{gate_upwards, graph_upwards, lesser_gates, upwards_mount, gates_unlike, index_after, index_before}
use Rattle.aig_defs.proofs.VariableRanks.{RanksDefined, gate_not_given, gate_place}

-- the only record with a word is found, and none is found if none has it
pub find_only : (xs : List Record) (v : ℕ) (r : Record) → Contains xs r → r.a ≡ v
    → ((q : Record) → Contains xs q → q.a ≡ v → q ≡ r) → find (λ (q : Record). eqb q.a v) xs ≡ Some r
find_only [] v r i e f = absurd (contains_none r i)
find_only (x ∷ xs) v r i e f = elim (cases_Bool (eqb x.a v)) [
  | inl t ↦
      ap (λ b. cond b (Some x) (find (λ (q : Record). eqb q.a v) xs)) t
      ∙ ap Some (f x (contains_first x x xs refl) (eqb-true x.a v t))
  | inr n ↦ elim (contains_cases x r xs i) [
    | inl same ↦
        absurd (eqb-false x.a v n (ap (λ (z : Record). z.a) same ∙ e))
    | inr j ↦
        ap (λ b. cond b (Some x) (find (λ (q : Record). eqb q.a v) xs)) n
        ∙ find_only xs v r j e (λ q k. f q (contains_rest x q xs k))
  ]
]

pub find_none : (xs : List Record) (v : ℕ) → ((q : Record) → Contains xs q → q.a ≡ v → ⊥)
    → find (λ (q : Record). eqb q.a v) xs ≡ None
find_none [] v f = refl
find_none (x ∷ xs) v f =
    ap (λ b. cond b (Some x) (find (λ (q : Record). eqb q.a v) xs))
    (ne_eqb x.a v (f x (contains_first x x xs refl)))
    ∙ find_none xs v (λ q k. f q (contains_rest x q xs k))

-- the definition of a variable in its section, by the variable's place
section_contains : {A : Type 0} (record_of : ℕ → A → Record) (literal : A → ℕ) (kind j v : ℕ)
    (section : List A)
    → ((k : ℕ) (a : A) → record_of k a ≡ record { a = literal a / 2; b = kind; c = k; d = 0 })
    → has (variables (map literal section)) v ≡ true
    → Contains (numbered record_of j section)
    (record { a = v; b = kind; c = j + index v (map literal section); d = 0 })
section_contains record_of literal kind j v [] f h = cc
section_contains {A} record_of literal kind j v (a ∷ section) f h =
    let more = numbered record_of (j + 1) section in
    let ls = map literal section in
    let found : ℕ → Record = λ n. record { a = v; b = kind; c = n; d = 0 } in
    elim (cases_Bool (eqb (literal a / 2) v)) [
      | inl t ↦
          let here : j ≡ j + 0 = omega arith in
          let place = ap (λ b. j + cond b 0 (index v ls + 1)) t in
          contains_first (record_of j a) _ more (f j a
          ∙ ap (λ (u : ℕ). record { a = u; b = kind; c = j; d = 0 }) (eqb-true (literal a / 2) v t)
          ∙ ap found (here ∙ sym place))
      | inr n ↦
          let rest : has (variables ls) v ≡ true =
          elim (has_cases (literal a / 2) v (variables ls) h) [
            | inl e ↦ absurd (eqb-false (literal a / 2) v n e)
            | inr there ↦ there
          ] in
          let later : j + 1 + index v ls ≡ j + (index v ls + 1) = omega arith in
          let place = ap (λ b. j + cond b 0 (index v ls + 1)) n in
          contains_rest (record_of j a) _ more
          (subst (λ k. Contains more (found k)) (later ∙ sym place)
          (section_contains record_of literal kind (j + 1) v section f rest))
    ]

-- the definitions of inputs and latches, in the order of the text
abbrev source_defs : Circuit → List Record
source_defs c = numbered input_def 0 c.inputs ++ numbered latch_def 0 c.latches

pub source_words : (c : Circuit)
    → words (numbered input_def 0 c.inputs ++ numbered latch_def 0 c.latches) ≡ sources c
source_words c =
    let is = numbered input_def 0 c.inputs in
    let ls = numbered latch_def 0 c.latches in
    let own = defs_words input_def (λ l. l) 0 c.inputs (λ j l. refl) in
    map-append (λ (r : Record). r.a) is ls
    ∙ ap (λ t. t ++ words ls) (own ∙ ap variables (map-id c.inputs))
    ∙ ap (λ t. variables c.inputs ++ t)
    (defs_words latch_def (λ (l : Latch). l.current) 0 c.latches (λ j l. refl))

sources_unlike : (c : Circuit) → Nowhere (IsTwice c) → Unlike (words (source_defs c))
sources_unlike c n =
    subst Unlike (sym (source_words c))
    (few_unlike (sources c) (λ v. omega (arith, few_definitions c v n)))

-- a record among the sources is found by its variable
source_found : (c : Circuit) → Nowhere (IsTwice c) → (r : Record) → Contains (source_defs c) r
    → find (λ (q : Record). eqb q.a r.a) (graph_sources c) ≡ Some r
source_found c n r i =
    find_only (graph_sources c) r.a r (to_order r (source_defs c) i) refl (λ q j e.
    one_record (source_defs c) (sources_unlike c n) q r (from_order q (source_defs c) j) i e)

-- the record of an input, and of a latch
abbrev input_of : Circuit → ℕ → Record
input_of c v = record { a = v; b = 0; c = 0 + index v c.inputs; d = 0 }

abbrev latch_of : Circuit → ℕ → Record
latch_of c v = record { a = v; b = 1; c = 0 + index v (currents c.latches); d = 0 }

input_contained : (c : Circuit) (v : ℕ) → has (variables c.inputs) v ≡ true
    → Contains (source_defs c) (input_of c v)
input_contained c v h =
    let own = map-id c.inputs in
    contains_left (numbered input_def 0 c.inputs) (numbered latch_def 0 c.latches) (input_of c v)
    (subst
    (λ ls. Contains (numbered input_def 0 c.inputs)
    (record { a = v; b = 0; c = 0 + index v ls; d = 0 })) own
    (section_contains input_def (λ l. l) 0 0 v c.inputs (λ k a. refl)
    (ap (λ ls. has (variables ls) v) own ∙ h)))

latch_contained : (c : Circuit) (v : ℕ) → has (variables (currents c.latches)) v ≡ true
    → Contains (source_defs c) (latch_of c v)
latch_contained c v h =
    contains_right (numbered input_def 0 c.inputs) (numbered latch_def 0 c.latches) (latch_of c v)
    (section_contains latch_def (λ (l : Latch). l.current) 1 0 v c.latches (λ k a. refl) h)

-- the rank of a variable that isn't the constant's, and whose record is found
abbrev by_found : Circuit → ℕ → Option Record → ℕ
by_found c v found = unwrap_or (option_map (source_rank c.header) found)
    (1 + c.header.inputs + c.header.latches
    + length (filter (λ (r : Record). ltb r.a v) (graph_gates c)))

listed_by : (c : Circuit) (v : ℕ) (found : Option Record) → v ≢ 0
    → find (λ (q : Record). eqb q.a v) (graph_sources c) ≡ found
    → listed_rank c.header (graph_sources c) (graph_gates c) v ≡ by_found c v found
listed_by c v found some e =
    ap (λ b. cond b 0 (by_found c v (find (λ (q : Record). eqb q.a v) (graph_sources c))))
    (ne_eqb v 0 some)
    ∙ ap (by_found c v) e

-- the place of a variable after the constant's
past_constant : (v : ℕ) (ls : List ℕ) → v ≢ 0 → index v (0 ∷ ls) ≡ index v ls + 1
past_constant v ls some =
    ap (λ b. cond b 0 (index v ls + 1)) (ne_eqb 0 v (λ e. some (sym e)))

given_place : (c : Circuit) (v : ℕ) → v ≢ 0 → has (sources c) v ≡ true
    → variable_rank c (upwards c.gates) v ≡ index v (c.inputs ++ currents c.latches) + 1
given_place c v some h =
    let given = c.inputs ++ currents c.latches in
    let gs = left_sides (upwards c.gates) in
    let there : has (variables given) v ≡ true =
    ap (λ z. has z v) (map-append (λ (l : ℕ). l / 2) c.inputs (currents c.latches)) ∙ h in
    past_constant v (given ++ gs) some ∙ ap (λ n. n + 1) (index_before v given gs there)

input_rank : (c : Circuit) → Nowhere (IsTwice c) → (v : ℕ) → v ≢ 0
    → has (variables c.inputs) v ≡ true
    → listed_rank c.header (graph_sources c) (graph_gates c) v
    ≡ variable_rank c (upwards c.gates) v
input_rank c n v some h =
    let found = source_found c n (input_of c v) (input_contained c v h) in
    let there = has_left (variables c.inputs) (variables (currents c.latches)) v h in
    let count : 1 + (0 + index v c.inputs) ≡ index v c.inputs + 1 = omega arith in
    listed_by c v (Some (input_of c v)) some found
    ∙ count
    ∙ sym (ap (λ k. k + 1) (index_before v c.inputs (currents c.latches) h))
    ∙ sym (given_place c v some there)

latch_rank : (c : Circuit) → IsCircuit c → Nowhere (IsTwice c) → (v : ℕ) → v ≢ 0
    → has (variables (currents c.latches)) v ≡ true
    → listed_rank c.header (graph_sources c) (graph_gates c) v
    ≡ variable_rank c (upwards c.gates) v
latch_rank c is n v some h =
    let found = source_found c n (latch_of c v) (latch_contained c v h) in
    let there = has_right (variables c.inputs) (variables (currents c.latches)) v h in
    let few = few_definitions c v n in
    let parts = times_append v (variables c.inputs) (variables (currents c.latches)) in
    let second = has_times (variables (currents c.latches)) v h in
    let place = index_after v c.inputs (currents c.latches) (λ other.
    let first = has_times (variables c.inputs) v other in
    omega (arith, few, parts, first, second)) in
    let count : 1 + c.header.inputs + (0 + index v (currents c.latches))
    ≡ length c.inputs + index v (currents c.latches) + 1 = omega (arith, is.lengths.inputs) in
    listed_by c v (Some (latch_of c v)) some found
    ∙ count
    ∙ sym (ap (λ k. k + 1) place)
    ∙ sym (given_place c v some there)

gate_rank : (c : Circuit) → IsCircuit c → Nowhere (IsTwice c) → (v : ℕ) → v ≢ 0
    → has (gate_variables c) v ≡ true
    → listed_rank c.header (graph_sources c) (graph_gates c) v
    ≡ variable_rank c (upwards c.gates) v
gate_rank c is n v some h =
    let gs = upwards c.gates in
    let found = find_none (graph_sources c) v (λ q i e.
    let word = word_has (source_defs c) q (from_order q (source_defs c) i) in
    let there = ap (has (sources c)) (sym e) ∙ ap (λ z. has z q.a) (sym (source_words c)) ∙ word in
    gate_not_given c is n v h (has_rest 0 v (sources c) there)) in
    let before = ap (λ rs. length (filter (λ (r : Record). ltb r.a v) rs)) (graph_upwards c n)
    ∙ lesser_gates v gs (upwards_mount c.gates (gates_unlike c n)) (gate_upwards c v h) in
    let numbers = rank_numbers c gs is.lengths (length_upwards c.gates) in
    listed_by c v None some found
    ∙ ap (λ k. 1 + c.header.inputs + c.header.latches + k) before
    ∙ ap (λ k. k + index v (left_sides gs)) (sym numbers.first_gate)
    ∙ sym (gate_place c is n v h)

constant_rank : (c : Circuit) (v : ℕ) → v ≡ 0
    → listed_rank c.header (graph_sources c) (graph_gates c) v
    ≡ variable_rank c (upwards c.gates) v
constant_rank c v e = subst
    (λ u. listed_rank c.header (graph_sources c) (graph_gates c) u
    ≡ variable_rank c (upwards c.gates) u) (sym e) refl

-- The rank that is looked up is that of each variable that is defined.
pub listed_defined : (c : Circuit) → IsCircuit c → Nowhere (IsTwice c)
    → RanksDefined c (listed_rank c.header (graph_sources c) (graph_gates c))
listed_defined c is n v (inl constant) = constant_rank c v constant
listed_defined c is n v (inr there) = elim (cases_Bool (eqb v 0)) [
  | inl t ↦ constant_rank c v (eqb-true v 0 t)
  | inr f ↦
      let some = eqb-false v 0 f in
      elim (has_either (sources c) (gate_variables c) v there) [
        | inl a ↦
            elim (has_either (variables c.inputs) (variables (currents c.latches)) v a) [
              | inl x ↦ input_rank c n v some x
              | inr y ↦ latch_rank c is n v some y
            ]
        | inr b ↦ gate_rank c is n v some b
      ]
]
