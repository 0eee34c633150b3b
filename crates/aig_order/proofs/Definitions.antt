-- The definitions of a circuit in the order of variables, with the ranks of inputs and latches.
use Rattle.std.proofs.Common.{◌⊎◌, inl, inr, ◌≡◌, ◌≢◌, ◌+◌, ◌≤◌, ◌/◌, true, cond, eqb, ltb, filter, List, [], ◌∷◌, ◌++◌, ℕ, sym, ap, ◌∙◌, refl, subst, arith, length, map, find, Option, Some, Contains}
use Rattle.std.specs.Option.{option_map, unwrap_or}
use Rattle.std.proofs.lemmas.Bool.{ne_eqb}
use Rattle.std.proofs.lemmas.List.Elements.{All-contains}
use Rattle.em_record.specs.declared.record.Record.{Record}
use Rattle.em_record.specs.Order.{in_order}
use Rattle.em_record.proofs.Order.{order_ascends}
use Rattle.em_weave.specs.Woven.{woven, side_record, lefts, rights, NoneBefore, AscendsByA}
use Rattle.em_weave.specs.declared.side.Side.{Side}
use Rattle.em_weave.specs.declared.side.Side.TheVariants.{Left, Right}
use Rattle.em_weave.proofs.Laws.{ascends_by_a, lefts_woven, rights_woven, woven_ascends}
use Rattle.aig_defs.specs.declared.circuit.Gate.{Gate}
use Rattle.aig_defs.specs.declared.circuit.Header.{Header}
use Rattle.aig_defs.specs.declared.circuit.Latch.{Latch}
use Rattle.aig_defs.specs.Chains.{numbered, input_def, latch_def, gate_record, gates_of}
use Rattle.aig_defs.specs.Circuit.{Circuit, variables, currents, left_sides, IsCircuit, IsDefining, IsLatch, IsGate}
use Rattle.aig_defs.specs.Faults.{definitions, IsTwice, Nowhere}
use Rattle.aig_defs.specs.Founded.{has, sources, gate_variables, upwards}
use Rattle.aig_defs.specs.Graph.{graph_gates, graph_sources}
use Rattle.aig_defs.specs.Ranks.{given_literals}
use Rattle.aig_defs.specs.VariableRanks.{variable_rank, source_rank, listed_rank}
use Rattle.aig_defs.specs.Sorted.{AllAbove, Climbs}
use Rattle.aig_defs.proofs.ListedRanks.{find_only, listed_defined, source_words}
use Rattle.aig_defs.proofs.Members.{has_cases, has_first, has_rest, has_left, has_right, has_either, contains_first, contains_rest, contains_cases, contains_none, gate_with}
use Rattle.aig_defs.proofs.VariableRanks.{given_is}
use Rattle.aig_defs.proofs.Single.{few_definitions, times_in, times_append}
use Rattle.aig_defs.proofs.Unlike.{Unlike, few_unlike, words, word_has, word_order, one_record, from_order, times_order}
use Rattle.aig_defs.proofs.Upwards.{index_before}
use Rattle.aig_order.specs.Adjacent.{merged_definition, definitions_of}

-- one list of two has each word as often as both
pub times_sides : (v : ℕ) (ds : List Side)
    → times_in v (words (map side_record ds))
    ≡ times_in v (words (lefts ds)) + times_in v (words (rights ds))
times_sides v [] = refl
times_sides v (Left x ∷ ds) =
    omega (
      arith,
      times_append v (x.a ∷ []) (words (map side_record ds)),
      times_append v (x.a ∷ []) (words (lefts ds)),
      times_sides v ds,
    )
times_sides v (Right x ∷ ds) =
    omega (
      arith,
      times_append v (x.a ∷ []) (words (map side_record ds)),
      times_append v (x.a ∷ []) (words (rights ds)),
      times_sides v ds,
    )

-- definitions have the variables of their records
merged_words : (h : Header) (ds : List Side)
    → words (map (merged_definition h) ds) ≡ words (map side_record ds)
merged_words h [] = refl
merged_words h (Left x ∷ ds) = ap (λ vs. x.a ∷ vs) (merged_words h ds)
merged_words h (Right x ∷ ds) = ap (λ vs. x.a ∷ vs) (merged_words h ds)

none_merged : (h : Header) (n : ℕ) (ds : List Side) → NoneBefore n (map side_record ds)
    → NoneBefore n (map (merged_definition h) ds)
none_merged h n [] a = tt
none_merged h n (Left x ∷ ds) a = (a.0, none_merged h n ds a.1)
none_merged h n (Right x ∷ ds) a = (a.0, none_merged h n ds a.1)

merged_ascend : (h : Header) (ds : List Side) → AscendsByA (map side_record ds)
    → AscendsByA (map (merged_definition h) ds)
merged_ascend h [] a = tt
merged_ascend h (Left x ∷ ds) a = (none_merged h x.a ds a.0, merged_ascend h ds a.1)
merged_ascend h (Right x ∷ ds) a = (none_merged h x.a ds a.0, merged_ascend h ds a.1)

pub gate_words : (j : ℕ) (gs : List Gate)
    → words (numbered gate_record j gs) ≡ variables (left_sides gs)
gate_words j [] = refl
gate_words j (g ∷ gs) = ap (λ vs. g.lhs / 2 ∷ vs) (gate_words (j + 1) gs)

-- Each variable that is defined has one definition.
pub definition_times : (c : Circuit) (v : ℕ)
    → times_in v (words (definitions_of c.header (graph_sources c) (graph_gates c)))
    ≡ times_in v (sources c) + times_in v (gate_variables c)
definition_times c v =
    let ss = graph_sources c in
    let gs = graph_gates c in
    let ds = woven ss gs in
    omega (
      arith,
      ap (times_in v) (merged_words c.header ds),
      times_sides v ds,
      ap (λ xs. times_in v (words xs)) (lefts_woven ss gs),
      ap (λ xs. times_in v (words xs)) (rights_woven ss gs),
      times_order v (numbered input_def 0 c.inputs ++ numbered latch_def 0 c.latches),
      ap (times_in v) (source_words c),
      times_order v (gates_of c),
      ap (times_in v) (gate_words 0 c.gates),
    )

-- records that ascend and have unlike words climb
pub above_of : (n : ℕ) (xs : List Record) → NoneBefore n xs → (has (words xs) n ≡ true → ⊥)
    → AllAbove n xs
above_of n [] a f = tt
above_of n (x ∷ xs) a f =
    let low = a.0 in
    let other : n ≢ x.a = λ e. f (has_first x.a n (words xs) (sym e)) in
    (omega (arith, low, other), above_of n xs a.1 (λ h. f (has_rest x.a n (words xs) h)))

climbs_of : (xs : List Record) → AscendsByA xs → Unlike (words xs) → Climbs xs
climbs_of [] a u = tt
climbs_of (x ∷ xs) a u = (above_of x.a xs a.0 u.0, climbs_of xs a.1 u.1)

-- The definitions ascend by their variables,
pub definitions_ascend : (c : Circuit)
    → AscendsByA (definitions_of c.header (graph_sources c) (graph_gates c))
definitions_ascend c =
    let ss = numbered input_def 0 c.inputs ++ numbered latch_def 0 c.latches in
    merged_ascend c.header (woven (graph_sources c) (graph_gates c))
    (woven_ascends (graph_sources c) (graph_gates c) (ascends_by_a (in_order ss) (order_ascends ss))
    (ascends_by_a (in_order (gates_of c)) (order_ascends (gates_of c))))

-- and climb, if none is defined twice.
pub definitions_climb : (c : Circuit) → Nowhere (IsTwice c)
    → Climbs (definitions_of c.header (graph_sources c) (graph_gates c))
definitions_climb c n =
    climbs_of (definitions_of c.header (graph_sources c) (graph_gates c)) (definitions_ascend c)
    (few_unlike (words (definitions_of c.header (graph_sources c) (graph_gates c)))
    (λ v. omega (arith, definition_times c v, few_definitions c v n)))

-- a variable of some literals is that of one of them
pub record HasLiteral (ls : List ℕ) (v : ℕ) : Type 0 where
  pub literal : ℕ
  pub is : Contains ls literal
  pub variable : literal / 2 ≡ v

literal_with : (ls : List ℕ) (v : ℕ) → has (variables ls) v ≡ true → HasLiteral ls v
literal_with [] v h = cc
literal_with (l ∷ ls) v h = elim (has_cases (l / 2) v (variables ls) h) [
  | inl same ↦ record { literal = l; is = contains_first l l ls refl; variable = same }
  | inr rest ↦
      let k = literal_with ls v rest in record {
        literal = k.literal;
        is = contains_rest l k.literal ls k.is;
        variable = k.variable;
      }
]

current_in : (ls : List Latch) (l : ℕ) → Contains (currents ls) l → (h : Header)
    → ((k : Latch) → Contains ls k → IsLatch h k) → 2 ≤ l
current_in [] l i h f = absurd (contains_none l i)
current_in (k ∷ ls) l i h f = elim (contains_cases k.current l (currents ls) i) [
  | inl same ↦ (let low = (f k (contains_first k k ls refl)).current.low in omega (arith, low, same))
  | inr j ↦ current_in ls l j h (λ x y. f x (contains_rest k x ls y))
]

-- The constant's variable isn't defined.
pub zero_undefined : (c : Circuit) → IsCircuit c → has (definitions c) 0 ≡ true → ⊥
zero_undefined c is h = elim (has_either (sources c) (gate_variables c) 0 h) [
  | inl a ↦ elim (has_either (variables c.inputs) (variables (currents c.latches)) 0 a) [
    | inl x ↦
        (let l = literal_with c.inputs 0 x in
        let low = (All-contains (IsDefining c.header) c.inputs l.literal is.inputs l.is).low in
        omega (arith, low, l.variable))
    | inr y ↦
        (let l = literal_with (currents c.latches) 0 y in
        let low = current_in c.latches l.literal l.is c.header
        (λ k i. All-contains (IsLatch c.header) c.latches k is.latches i) in
        omega (arith, low, l.variable))
  ]
  | inr b ↦
      (let g = gate_with c.gates 0 b in
      let low = (All-contains (IsGate c.header) c.gates g.gate is.gates g.is).lhs.low in
      omega (arith, low, g.variable))
]

-- a word of both lists is one of either
parted : (v : ℕ) (ds : List Side) → has (words (map side_record ds)) v ≡ true
    → (has (words (lefts ds)) v ≡ true) ⊎ (has (words (rights ds)) v ≡ true)
parted v [] h = cc
parted v (Left x ∷ ds) h = elim (has_cases x.a v (words (map side_record ds)) h) [
  | inl same ↦ inl (has_first x.a v (words (lefts ds)) same)
  | inr rest ↦ elim (parted v ds rest) [
    | inl a ↦ inl (has_rest x.a v (words (lefts ds)) a)
    | inr b ↦ inr b
  ]
]
parted v (Right x ∷ ds) h = elim (has_cases x.a v (words (map side_record ds)) h) [
  | inl same ↦ inr (has_first x.a v (words (rights ds)) same)
  | inr rest ↦ elim (parted v ds rest) [
    | inl a ↦ inl a
    | inr b ↦ inr (has_rest x.a v (words (rights ds)) b)
  ]
]

-- a variable of a definition is defined
pub definition_has : (c : Circuit) (v : ℕ)
    → has (words (definitions_of c.header (graph_sources c) (graph_gates c))) v ≡ true
    → has (definitions c) v ≡ true
definition_has c v h =
    let ds = woven (graph_sources c) (graph_gates c) in
    elim (parted v ds (ap (λ vs. has vs v) (sym (merged_words c.header ds)) ∙ h)) [
      | inl a ↦
          has_left (sources c) (gate_variables c) v (ap (λ vs. has vs v) (sym (source_words c))
          ∙ word_order v (numbered input_def 0 c.inputs ++ numbered latch_def 0 c.latches)
          (ap (λ xs. has (words xs) v) (sym (lefts_woven (graph_sources c) (graph_gates c))) ∙ a))
      | inr b ↦
          has_right (sources c) (gate_variables c) v
          (ap (λ vs. has vs v) (sym (gate_words 0 c.gates)) ∙ word_order v (gates_of c)
          (ap (λ xs. has (words xs) v) (sym (rights_woven (graph_sources c) (graph_gates c))) ∙ b))
    ]

-- The rank of an input or a latch.
pub source_place : (c : Circuit) → IsCircuit c → Nowhere (IsTwice c) → (order : List Gate)
    → (r : Record) → Contains (graph_sources c) r
    → source_rank c.header r ≡ variable_rank c order r.a
source_place c is n order r i =
    let ss = numbered input_def 0 c.inputs ++ numbered latch_def 0 c.latches in
    let there : has (sources c) r.a ≡ true =
    ap (λ vs. has vs r.a) (sym (source_words c)) ∙ word_has ss r (from_order r ss i) in
    let unlike : Unlike (words ss) = subst Unlike (sym (source_words c))
    (few_unlike (sources c) (λ v. omega (arith, few_definitions c v n))) in
    let own : find (λ (q : Record). eqb q.a r.a) (graph_sources c) ≡ Some r =
    find_only (graph_sources c) r.a r i refl (λ q j e.
    one_record ss unlike q r (from_order q ss j) (from_order r ss i) e) in
    let some : r.a ≢ 0 = λ e. zero_undefined c is
    (has_left (sources c) (gate_variables c) 0 (ap (has (sources c)) (sym e) ∙ there)) in
    let given : has (variables (given_literals c)) r.a ≡ true =
    ap (λ z. has z r.a) (given_is c) ∙ has_rest 0 r.a (sources c) there in
    let more = λ (o : Option Record). unwrap_or (option_map (source_rank c.header) o)
    (1 + c.header.inputs + c.header.latches
    + length (filter (λ (q : Record). ltb q.a r.a) (graph_gates c))) in
    let listed : listed_rank c.header (graph_sources c) (graph_gates c) r.a
    ≡ source_rank c.header r =
    ap (λ b. cond b 0 (more (find (λ (q : Record). eqb q.a r.a) (graph_sources c))))
    (ne_eqb r.a 0 some) ∙ ap more own in
    sym listed
    ∙ listed_defined c is n r.a (inr (has_left (sources c) (gate_variables c) r.a there))
    ∙ index_before r.a (given_literals c) (left_sides (upwards c.gates)) given
    ∙ sym (index_before r.a (given_literals c) (left_sides order) given)
