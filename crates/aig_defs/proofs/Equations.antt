-- The values of a circuit: the constants and the negation of a literal; and in a circuit with no
-- fault the bits that are given of inputs and latches, and the conjunction of a gate's operands.
use Rattle.std.proofs.Common.{inl, inr, ◌≡◌, ◌+◌, ◌*◌, ◌<◌, ◌≤◌, ◌/◌, ◌%◌, Bool, true, false, cond, eqb, ◌&&◌, not, List, [], ◌∷◌, ◌++◌, ℕ, zero, suc, sym, ap, ◌∙◌, refl, arith, length, zip, get_or, find, Option, Some, None, Contains, All}
use Rattle.std.specs.Prelude.{unwrap_or, option_map}
use Rattle.std.specs.Option.{option_or}
use Rattle.std.proofs.lemmas.Bool.{eq-eqb, ne_eqb, false_from_ne_true, true_from_ne_false}
use Rattle.std.proofs.lemmas.List.{map-append, length-map, get_or-map}
use Rattle.std.proofs.lemmas.List.Elements.{All-contains, All-head, All-tail, All-weaker, All-map}
use Rattle.std.proofs.lemmas.List.Folds.{find-append}
use Rattle.aig_defs.specs.declared.circuit.Latch.{Latch}
use Rattle.aig_defs.specs.declared.circuit.Gate.{Gate}
use Rattle.aig_defs.specs.Circuit.{Circuit, variables, currents, IsDefining, IsLatch, IsGate, IsCircuit}
use Rattle.aig_defs.specs.Founded.{has, sources, passed}
use Rattle.aig_defs.specs.Faults.{IsFaultless}
use Rattle.aig_defs.specs.Value.{given_bits, bit_of, gate_of, variable_by, literal_by, gate_to, literal_value}
use Rattle.aig_defs.proofs.Members.{has_cases, has_first, has_rest, has_left, has_right, has_either}
use Rattle.aig_defs.proofs.Passes.{founded_iff}
use Rattle.aig_defs.proofs.Single.{IsSingle, single_is, no_zero_gate, has_variable, times_in, times_with, has_times, times_append, few_definitions}
use Rattle.aig_defs.proofs.Depth.{passed_built, built_few, by_bit, settled, bit_variables, no_bit}

-- the variables of bits that are given are those of inputs and latches
zip_among : (ls : List ℕ) (bits : List Bool) (v : ℕ) → has (bit_variables (zip ls bits)) v ≡ true
    → has (variables ls) v ≡ true
zip_among [] bits v h = cc
zip_among (l ∷ ls) [] v h = cc
zip_among (l ∷ ls) (b ∷ bits) v h =
    elim (has_cases (l / 2) v (bit_variables (zip ls bits)) h) [
      | inl a ↦ has_first (l / 2) v (variables ls) a
      | inr d ↦ has_rest (l / 2) v (variables ls) (zip_among ls bits v d)
    ]

given_among : (c : Circuit) (s i : List Bool) (v : ℕ)
    → has (bit_variables (given_bits c s i)) v ≡ true → has (sources c) v ≡ true
given_among c s i v h =
    let inputs = zip c.inputs i in
    let latches = zip (currents c.latches) s in
    let parts = map-append (λ (e : ℕ × Bool). e.0 / 2) inputs latches in
    let both = ap (λ vs. has vs v) (sym parts) ∙ h in
    elim (has_either (bit_variables inputs) (bit_variables latches) v both) [
      | inl a ↦ has_left (variables c.inputs) (variables (currents c.latches)) v
          (zip_among c.inputs i v a)
      | inr b ↦ has_right (variables c.inputs) (variables (currents c.latches)) v
          (zip_among (currents c.latches) s v b)
    ]

-- no bit is given of a variable that is none of an input or latch
no_given : (c : Circuit) (s i : List Bool) (v : ℕ) → (has (sources c) v ≡ true → ⊥)
    → bit_of v (given_bits c s i) ≡ None
no_given c s i v n =
    no_bit v (given_bits c s i) (false_from_ne_true _ (λ h. n (given_among c s i v h)))

own_apart : (c : Circuit) → IsSingle c → (g : Gate) → Contains c.gates g
    → has (sources c) (g.lhs / 2) ≡ true → ⊥
own_apart c single g j h =
    let some = single.once g j in
    let none = single.none (g.lhs / 2) (has_rest 0 (g.lhs / 2) (sources c) h) in
    cc

-- a gate's variable has the value of the gate
gate_variable : (c : Circuit) → IsSingle c → (s i : List Bool) (f : Gate → Bool) (g : Gate)
    → Contains c.gates g → variable_by f c s i (g.lhs / 2) ≡ f g
gate_variable c single s i f g j =
    ap (λ bit. by_bit bit f (gate_of (g.lhs / 2) c.gates))
    (no_given c s i (g.lhs / 2) (own_apart c single g j))
    ∙ ap (λ o. unwrap_or (option_map f o) false) (single.once g j)

-- a literal that is even has its variable's value
pub even_value : (c : Circuit) (s i : List Bool) (f : Gate → Bool) (l : ℕ) → l % 2 ≡ 0
    → literal_by f c s i l ≡ variable_by f c s i (l / 2)
even_value c s i f l e =
    let value = variable_by f c s i (l / 2) in
    let even = ne_eqb (l % 2) 1 (λ odd. omega (arith, e, odd)) in
    ap (λ t. cond t (not value) value) even

-- in a circuit with no fault each gate is found by as many passes as there are gates
gate_found : (c : Circuit) → IsFaultless c → (g : Gate) → Contains c.gates g
    → has (passed c (length c.gates)) (g.lhs / 2) ≡ true
gate_found c sound g j = true_from_ne_false _ (λ lacks. sound.cyclic (g.lhs / 2) (record {
  gate = has_variable c.gates g j;
  unfounded = λ f. let e = (founded_iff c (g.lhs / 2)).1 f in cc;
}))

-- The literal of a gate has the conjunction of the values of its operands.
pub gate_value : (c : Circuit) → IsCircuit c → IsFaultless c → (s i : List Bool) (g : Gate)
    → Contains c.gates g
    → literal_value c s i g.lhs ≡ (literal_value c s i g.rhs0 && literal_value c s i g.rhs1)
gate_value c is sound s i g j =
    let single = single_is c is sound.twice in
    let even = (All-contains (IsGate c.header) c.gates g is.gates j).lhs.even in
    let n = length c.gates in
    let b = passed_built c n in
    let few : b.count ≤ n = omega (arith, built_few c b.count (passed c n) b.built) in
    let found = gate_found c sound g j in
    even_value c s i (gate_to n c s i) g.lhs even
    ∙ sym (settled c single s i b.count (passed c n) b.built (g.lhs / 2) found n few)
    ∙ gate_variable c single s i (gate_to (suc n) c s i) g j

-- A literal and its negation have different values.
pub negation_value : (c : Circuit) (s i : List Bool) (v : ℕ)
    → literal_value c s i (2 * v + 1) ≡ not (literal_value c s i (2 * v))
negation_value c s i v =
    let f = gate_to (length c.gates) c s i in
    let value = variable_by f c s i ((2 * v + 1) / 2) in
    let odd = eq-eqb ((2 * v + 1) % 2) 1 (omega arith) in
    let same : (2 * v + 1) / 2 ≡ 2 * v / 2 = omega arith in
    ap (λ t. cond t (not value) value) odd
    ∙ ap (λ u. not (variable_by f c s i u)) same
    ∙ ap not (sym (even_value c s i f (2 * v) (omega arith)))

-- variable 0 is no input or latch
low_none : (ls : List ℕ) → All (λ l. 2 ≤ l) ls → has (variables ls) 0 ≡ true → ⊥
low_none [] low h = cc (h)
low_none (l ∷ ls) low h = elim (has_cases (l / 2) 0 (variables ls) h) [
  | inl a ↦ let some = All-head (λ l. 2 ≤ l) l ls low in omega (arith, a, some)
  | inr b ↦ low_none ls (All-tail (λ l. 2 ≤ l) l ls low) b
]

low_inputs : (c : Circuit) → IsCircuit c → All (λ l. 2 ≤ l) c.inputs
low_inputs c is = All-weaker (IsDefining c.header) (λ l. 2 ≤ l) (λ l d. d.low) c.inputs is.inputs

low_currents : (c : Circuit) → IsCircuit c → All (λ l. 2 ≤ l) (currents c.latches)
low_currents c is =
    let current = λ (l : Latch). l.current in
    let low = All-weaker (IsLatch c.header) (λ l. 2 ≤ current l) (λ l d. d.current.low) c.latches
    is.latches in
    All-map (λ l. 2 ≤ l) current c.latches low

zero_none : (c : Circuit) → IsCircuit c → has (sources c) 0 ≡ true → ⊥
zero_none c is h =
    elim (has_either (variables c.inputs) (variables (currents c.latches)) 0 h) [
      | inl a ↦ low_none c.inputs (low_inputs c is) a
      | inr b ↦ low_none (currents c.latches) (low_currents c is) b
    ]

-- The literal 0 is false, in a faulty circuit too.
pub zero_value : (c : Circuit) → IsCircuit c → (s i : List Bool) → literal_value c s i 0 ≡ false
zero_value c is s i =
    let f = gate_to (length c.gates) c s i in
    ap (λ bit. by_bit bit f (gate_of 0 c.gates)) (no_given c s i 0 (zero_none c is))
    ∙ ap (λ o. unwrap_or (option_map f o) false) (no_zero_gate c is)

-- The literal 1 is true.
pub one_value : (c : Circuit) → IsCircuit c → (s i : List Bool) → literal_value c s i 1 ≡ true
one_value c is s i = negation_value c s i 0 ∙ ap not (zero_value c is s i)

-- the bit of a variable that stands once among some literals
has_at : (ls : List ℕ) (j : ℕ) → j < length ls → has (variables ls) (get_or ls j 0 / 2) ≡ true
has_at [] j low = absurd (omega arith)
has_at (l ∷ ls) zero low = has_first (l / 2) (l / 2) (variables ls) refl
has_at (l ∷ ls) (suc j) low =
    has_rest (l / 2) (get_or ls j 0 / 2) (variables ls) (has_at ls j (omega arith))

-- the bit of the first of some literals, if it is v's, or else what is found further on
abbrev bit_with : Bool → ℕ → Bool → Option (ℕ × Bool) → Option Bool
bit_with same l b found = option_map (λ (e : ℕ × Bool). e.1) (cond same (Some (l, b)) found)

bit_rest : (same : Bool) (v l : ℕ) (b d : Bool) (ls : List ℕ) (found : Option (ℕ × Bool))
    → eqb (l / 2) v ≡ same → has (variables ls) v ≡ true
    → times_with same (l / 2) v (variables ls) ≤ 1
    → (times_in v (variables ls) ≤ 1 → option_map (λ (e : ℕ × Bool). e.1) found ≡ Some d)
    → bit_with same l b found ≡ Some d
bit_rest true v l b d ls found t h few f =
    absurd (omega (arith, few, has_times (variables ls) v h))
bit_rest false v l b d ls found t h few f = f few

bit_at : (v : ℕ) (ls : List ℕ) (bits : List Bool) (j : ℕ) → j < length ls
    → length bits ≡ length ls → get_or ls j 0 / 2 ≡ v → times_in v (variables ls) ≤ 1
    → bit_of v (zip ls bits) ≡ Some (get_or bits j false)
bit_at v [] bits j low same is few = absurd (omega arith)
bit_at v (l ∷ ls) [] j low same is few = absurd (omega (arith, same))
bit_at v (l ∷ ls) (b ∷ bits) zero low same is few =
    let found = find (λ (e : ℕ × Bool). eqb (e.0 / 2) v) (zip ls bits) in
    ap (λ t. bit_with t l b found) (eq-eqb (l / 2) v is)
bit_at v (l ∷ ls) (b ∷ bits) (suc j) low same is few =
    let found = find (λ (e : ℕ × Bool). eqb (e.0 / 2) v) (zip ls bits) in
    let there = ap (has (variables ls)) (sym is) ∙ has_at ls j (omega arith) in
    bit_rest (eqb (l / 2) v) v l b (get_or bits j false) ls found refl there few
    (λ few. bit_at v ls bits j (omega arith) (omega (arith, same)) is few)

-- bits of two lists
map_or : (a b : Option (ℕ × Bool)) → option_map (λ (e : ℕ × Bool). e.1) (option_or a b)
    ≡ option_or (option_map (λ (e : ℕ × Bool). e.1) a) (option_map (λ (e : ℕ × Bool). e.1) b)
map_or None b = refl
map_or (Some a) b = refl

bit_append : (v : ℕ) (xs ys : List (ℕ × Bool))
    → bit_of v (xs ++ ys) ≡ option_or (bit_of v xs) (bit_of v ys)
bit_append v xs ys =
    let is_v = λ (e : ℕ × Bool). eqb (e.0 / 2) v in
    ap (option_map (λ (e : ℕ × Bool). e.1)) (find-append is_v xs ys)
    ∙ map_or (find is_v xs) (find is_v ys)

given_value : (c : Circuit) (s i : List Bool) (f : Gate → Bool) (l : ℕ) (b : Bool) → l % 2 ≡ 0
    → bit_of (l / 2) (given_bits c s i) ≡ Some b → literal_by f c s i l ≡ b
given_value c s i f l b even e =
    even_value c s i f l even ∙ ap (λ bit. by_bit bit f (gate_of (l / 2) c.gates)) e

-- a variable stands once at most among the inputs and latches together
few_sources : (c : Circuit) → IsFaultless c → (v : ℕ)
    → times_in v (variables c.inputs) + times_in v (variables (currents c.latches)) ≤ 1
few_sources c sound v =
    let both = times_append v (variables c.inputs) (variables (currents c.latches)) in
    omega (arith, few_definitions c v sound.twice, both)

-- The literal of an input has the bit that is given of it.
pub input_value : (c : Circuit) → IsCircuit c → IsFaultless c → (s i : List Bool) (j : ℕ)
    → j < length c.inputs → length i ≡ length c.inputs
    → literal_value c s i (get_or c.inputs j 0) ≡ get_or i j false
input_value c is sound s i j low same =
    let l = get_or c.inputs j 0 in
    let latches = zip (currents c.latches) s in
    let few : times_in (l / 2) (variables c.inputs) ≤ 1 =
    omega (arith, few_sources c sound (l / 2)) in
    let bit = bit_at (l / 2) c.inputs i j low same refl few in
    let given = bit_append (l / 2) (zip c.inputs i) latches
    ∙ ap (λ bit. option_or bit (bit_of (l / 2) latches)) bit in
    given_value c s i (gate_to (length c.gates) c s i) l (get_or i j false)
    (is.inputs j 0 low).even given

-- what stands once among the latches is no input
latch_no_input : (c : Circuit) → IsFaultless c → (i : List Bool) (v : ℕ)
    → has (variables (currents c.latches)) v ≡ true → bit_of v (zip c.inputs i) ≡ None
latch_no_input c sound i v there = no_bit v (zip c.inputs i) (false_from_ne_true _ (λ h.
    let own = has_times (variables (currents c.latches)) v there in
    let other = has_times (variables c.inputs) v (zip_among c.inputs i v h) in
    absurd (omega (arith, few_sources c sound v, own, other))))

-- The literal of a latch has the bit of the state that is given of it.
pub latch_value : (c : Circuit) → IsCircuit c → IsFaultless c
    → (s i : List Bool) (j : ℕ) (d : Latch)
    → j < length c.latches → length s ≡ length c.latches
    → literal_value c s i (get_or c.latches j d).current ≡ get_or s j false
latch_value c is sound s i j d low same =
    let ls = currents c.latches in
    let l = (get_or c.latches j d).current in
    let here : get_or ls j 0 ≡ l = get_or-map (λ (l : Latch). l.current) c.latches j d 0 low in
    let count : length ls ≡ length c.latches = length-map c.latches (λ (l : Latch). l.current) in
    let there = ap (λ l. has (variables ls) (l / 2)) (sym here)
    ∙ has_at ls j (omega (arith, count)) in
    let few : times_in (l / 2) (variables ls) ≤ 1 = omega (arith, few_sources c sound (l / 2)) in
    let bit = bit_at (l / 2) ls s j (omega (arith, count)) (omega (arith, count, same))
    (ap (λ l. l / 2) here) few in
    let none = latch_no_input c sound i (l / 2) there in
    let given = bit_append (l / 2) (zip c.inputs i) (zip ls s)
    ∙ ap (λ bit. option_or bit (bit_of (l / 2) (zip ls s))) none ∙ bit in
    let even = (is.latches j d low).current.even in
    given_value c s i (gate_to (length c.gates) c s i) l (get_or s j false) even given
