-- In a circuit with no fault no gate is deeper than there are gates, so each gate's literal has the
-- conjunction of its operands' values.
use Rattle.std.proofs.Common.{inl, inr, ◌≡◌, ◌+◌, ◌≤◌, ◌/◌, ◌%◌, Bool, true, false, cond, eqb, ◌&&◌, not, List, [], ◌∷◌, ℕ, zero, suc, sym, ap, ◌∙◌, refl, arith, length, map, find, Option, Some, None, Contains}
use Rattle.std.specs.Prelude.{unwrap_or, option_map}
use Rattle.std.specs.Option.{option_or}
use Rattle.std.proofs.lemmas.Bool.{not-true, or_parts}
use Rattle.aig_defs.specs.declared.circuit.Gate.{Gate}
use Rattle.aig_defs.specs.Circuit.{Circuit}
use Rattle.aig_defs.specs.Founded.{has, first_set, upwards, is_added, after_gate, pass, passed}
use Rattle.aig_defs.specs.Value.{given_bits, bit_of, gate_of, variable_by, literal_by, gate_to}
use Rattle.aig_defs.proofs.Members.{has_cases, contains_first, contains_rest}
use Rattle.aig_defs.proofs.Founding.{added_parts, from_upwards}
use Rattle.aig_defs.proofs.Passes.{missing, missing_falls, missing_most}
use Rattle.aig_defs.proofs.Single.{IsSingle}

-- a set that was made from the first one by adding n gates
pub data Built (c : Circuit) : ℕ → List ℕ → Type 0 where
  base : Built c 0 (first_set c)
  more :
      (n : ℕ) (set : List ℕ) (g : Gate) → Contains c.gates g → is_added set g ≡ true
      → Built c n set → Built c (suc n) (g.lhs / 2 ∷ set)

pub record BuiltBySome (c : Circuit) (set : List ℕ) : Type 0 where
  pub count : ℕ
  pub built : Built c count set

gate_built : (c : Circuit) (n : ℕ) (set : List ℕ) (g : Gate) → Contains c.gates g → Built c n set
    → (b : Bool) → is_added set g ≡ b → BuiltBySome c (cond b (g.lhs / 2 ∷ set) set)
gate_built c n set g i s false e = record { count = n; built = s }
gate_built c n set g i s true e = record { count = suc n; built = more n set g i e s }

pass_built : (c : Circuit) (gs : List Gate) (set : List ℕ)
    → ((g : Gate) → Contains gs g → Contains c.gates g)
    → BuiltBySome c set → BuiltBySome c (pass gs set)
pass_built c [] set sub s = s
pass_built c (g ∷ gs) set sub s =
    pass_built c gs (after_gate set g) (λ h i. sub h (contains_rest g h gs i))
    (gate_built c s.count set g (sub g (contains_first g g gs refl)) s.built (is_added set g) refl)

pub passed_built : (c : Circuit) (k : ℕ) → BuiltBySome c (passed c k)
passed_built c zero = record { count = 0; built = base }
passed_built c (suc k) =
    pass_built c (upwards c.gates) (passed c k) (λ g i. from_upwards g c.gates i) (passed_built c k)

-- no more gates are added than there are
pub built_few : (c : Circuit) (n : ℕ) (set : List ℕ) → Built c n set
    → n + missing c.gates set ≤ length c.gates
built_few c n set base = omega (arith, missing_most c.gates (first_set c))
built_few c n set (more k t g i e s) =
    let falls = missing_falls c.gates g t i (not-true _ (added_parts t g e).new) in
    omega (arith, built_few c k t s, falls)

-- the value of a variable by the bit that is given of it, or else by its gate
abbrev pub by_bit : Option Bool → (Gate → Bool) → Option Gate → Bool
by_bit bit value g = unwrap_or (option_or bit (option_map value g)) false

-- the value of a variable with no gate doesn't depend on the values of gates
no_gate_same : (c : Circuit) (s i : List Bool) (f h : Gate → Bool) (v : ℕ)
    → gate_of v c.gates ≡ None → variable_by f c s i v ≡ variable_by h c s i v
no_gate_same c s i f h v none =
    let bit = bit_of v (given_bits c s i) in
    ap (by_bit bit f) none ∙ ap (by_bit bit h) (sym none)

-- that of another depends on the value of its gate alone
own_gate_same : (c : Circuit) (s i : List Bool) (f h : Gate → Bool) (v : ℕ) (g : Gate)
    → gate_of v c.gates ≡ Some g → f g ≡ h g → variable_by f c s i v ≡ variable_by h c s i v
own_gate_same c s i f h v g own e =
    let bit = bit_of v (given_bits c s i) in
    ap (by_bit bit f) own
    ∙ ap (λ b. unwrap_or (option_or bit (Some b)) false) e
    ∙ ap (by_bit bit h) (sym own)

-- the values of a variable and of a literal, by those of gates to this depth
abbrev variable_to : ℕ → Circuit → List Bool → List Bool → ℕ → Bool
variable_to m c s i v = variable_by (gate_to m c s i) c s i v

abbrev literal_to : ℕ → Circuit → List Bool → List Bool → ℕ → Bool
literal_to m c s i l = literal_by (gate_to m c s i) c s i l

literal_same : (c : Circuit) (s i : List Bool) (m : ℕ) (l : ℕ)
    → variable_to (suc m) c s i (l / 2) ≡ variable_to m c s i (l / 2)
    → literal_to (suc m) c s i l ≡ literal_to m c s i l
literal_same c s i m l e = ap (λ b. cond (eqb (l % 2) 1) (not b) b) e

gate_same : (c : Circuit) (s i : List Bool) (g : Gate) (m : ℕ)
    → variable_to (suc m) c s i (g.rhs0 / 2) ≡ variable_to m c s i (g.rhs0 / 2)
    → variable_to (suc m) c s i (g.rhs1 / 2) ≡ variable_to m c s i (g.rhs1 / 2)
    → gate_to (suc (suc m)) c s i g ≡ gate_to (suc m) c s i g
gate_same c s i g m e f =
    ap (λ b. b && literal_to (suc m) c s i g.rhs1) (literal_same c s i m g.rhs0 e)
    ∙ ap (λ b. literal_to m c s i g.rhs0 && b) (literal_same c s i m g.rhs1 f)

-- The value of a variable stays once the depth is the number of gates that were added up to it.
pub settled : (c : Circuit) → IsSingle c → (s i : List Bool) (n : ℕ) (set : List ℕ)
    → Built c n set → (v : ℕ) → has set v ≡ true → (m : ℕ) → n ≤ m
    → variable_by (gate_to (suc m) c s i) c s i v ≡ variable_by (gate_to m c s i) c s i v
settled c single s i n set base v h m le =
    no_gate_same c s i (gate_to (suc m) c s i) (gate_to m c s i) v (single.none v h)
settled c single s i n set (more k t g j e b) v h zero le = absurd (omega arith)
settled c single s i n set (more k t g j e b) v h (suc m) le =
    let added = added_parts t g e in
    elim (has_cases (g.lhs / 2) v t h) [
      | inl a ↦
          let own = ap (λ u. gate_of u c.gates) (sym a) ∙ single.once g j in
          let first = settled c single s i k t b (g.rhs0 / 2) added.first m (omega arith) in
          let second = settled c single s i k t b (g.rhs1 / 2) added.second m (omega arith) in
          own_gate_same c s i (gate_to (suc (suc m)) c s i) (gate_to (suc m) c s i) v g own
          (gate_same c s i g m first second)
      | inr a ↦ settled c single s i k t b v a (suc m) (omega arith)
    ]

-- the variables of which bits are given
abbrev pub bit_variables : List (ℕ × Bool) → List ℕ
bit_variables bits = map (λ (e : ℕ × Bool). e.0 / 2) bits

-- no bit is given of a variable that is none of these
no_bit_by : (same : Bool) (e : ℕ × Bool) (found : Option (ℕ × Bool)) → same ≡ false
    → option_map (λ (e : ℕ × Bool). e.1) found ≡ None
    → option_map (λ (e : ℕ × Bool). e.1) (cond same (Some e) found) ≡ None
no_bit_by true e found t n = cc
no_bit_by false e found t n = n

pub no_bit : (v : ℕ) (bits : List (ℕ × Bool)) → has (bit_variables bits) v ≡ false
    → bit_of v bits ≡ None
no_bit v [] h = refl
no_bit v (e ∷ bits) h =
    let parts : (eqb (e.0 / 2) v ≡ false) × (has (bit_variables bits) v ≡ false) = or_parts _ _ h in
    let found = find (λ (e : ℕ × Bool). eqb (e.0 / 2) v) bits in
    no_bit_by (eqb (e.0 / 2) v) e found parts.0 (no_bit v bits parts.1)
