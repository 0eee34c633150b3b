-- The number of passes is the least after which another one adds nothing, and there are no more
-- passes than gates.
use Rattle.std.proofs.Common.{inl, inr, ◌≡◌, ◌≢◌, ◌+◌, ◌-◌, ◌<◌, ◌≤◌, ◌/◌, ◌↔◌, Bool, true, false, cond, eqb, ltb, ◌&&◌, not, List, [], ◌∷◌, ℕ, zero, suc, sym, ap, ◌∙◌, refl, subst, arith, length, Contains}
use Rattle.std.proofs.lemmas.Bool.{not-true, and_left, not_from_true, eqb-true, eqb-false, cases_order}
use Rattle.std.proofs.lemmas.List.{length-append}
use Rattle.aig_defs.specs.declared.circuit.Gate.{Gate}
use Rattle.aig_defs.specs.Circuit.{Circuit}
use Rattle.aig_defs.specs.Founded.{has, first_set, IsFounded, with_gate, upwards, is_added, after_gate, pass, passed, IsPasses, passes_within, passes_of}
use Rattle.aig_defs.proofs.Members.{has_first, has_rest, contains_cases, contains_first, contains_rest, contains_none}
use Rattle.aig_defs.proofs.Founding.{added_parts, pass_grows, same_length, passed_founded, passed_complete}

-- how many of these gates' variables a set lacks
abbrev pub lacks_one : Bool → ℕ
lacks_one true = 0
lacks_one false = 1

abbrev pub missing : List Gate → List ℕ → ℕ
missing [] set = 0
missing (g ∷ gs) set = lacks_one (has set (g.lhs / 2)) + missing gs set

lacks_less : (a b : Bool) → (b ≡ true → a ≡ true) → lacks_one a ≤ lacks_one b
lacks_less true b h = omega arith
lacks_less false true h = cc (h refl)
lacks_less false false h = omega arith

missing_less : (all : List Gate) (v : ℕ) (set : List ℕ) → missing all (v ∷ set) ≤ missing all set
missing_less [] v set = omega arith
missing_less (g ∷ all) v set =
    let a = lacks_less (has (v ∷ set) (g.lhs / 2)) (has set (g.lhs / 2))
    (has_rest v (g.lhs / 2) set) in
    omega (arith, missing_less all v set, a)

pub missing_most : (all : List Gate) (set : List ℕ) → missing all set ≤ length all
missing_most [] set = omega arith
missing_most (g ∷ all) set =
    let a = lacks_less (has set (g.lhs / 2)) false (λ e. absurd (cc (e))) in
    omega (arith, missing_most all set, a)

-- a gate that is added isn't missing any more
pub missing_falls : (all : List Gate) (g : Gate) (set : List ℕ) → Contains all g
    → has set (g.lhs / 2) ≡ false
    → missing all (g.lhs / 2 ∷ set) + 1 ≤ missing all set
missing_falls [] g set i e = absurd (contains_none g i)
missing_falls (h ∷ all) g set i e = elim (contains_cases h g all i) [
  | inl same ↦
      let here : has set (h.lhs / 2) ≡ false = ap (λ (z : Gate). has set (z.lhs / 2)) same ∙ e in
      let now : has (g.lhs / 2 ∷ set) (h.lhs / 2) ≡ true =
      has_first (g.lhs / 2) (h.lhs / 2) set (ap (λ (z : Gate). z.lhs / 2) (sym same)) in
      let a : lacks_one (has set (h.lhs / 2)) ≡ 1 = ap lacks_one here in
      let b : lacks_one (has (g.lhs / 2 ∷ set) (h.lhs / 2)) ≡ 0 = ap lacks_one now in
      omega (arith, missing_less all (g.lhs / 2) set, a, b)
  | inr j ↦
      let a = lacks_less (has (g.lhs / 2 ∷ set) (h.lhs / 2)) (has set (h.lhs / 2))
      (has_rest (g.lhs / 2) (h.lhs / 2) set) in
      omega (arith, missing_falls all g set j e, a)
]

gate_missing : (all : List Gate) (g : Gate) (set : List ℕ) → Contains all g → (b : Bool)
    → is_added set g ≡ b
    → missing all (cond b (g.lhs / 2 ∷ set) set) + length (cond b (g.lhs / 2 ∷ set) set)
    ≤ missing all set + length set
gate_missing all g set i false e = omega arith
gate_missing all g set i true e =
    omega (arith, missing_falls all g set i (not-true _ (added_parts set g e).new))

pass_missing : (all gs : List Gate) (set : List ℕ) → ((g : Gate) → Contains gs g → Contains all g)
    → missing all (pass gs set) + length (pass gs set) ≤ missing all set + length set
pass_missing all [] set sub = omega arith
pass_missing all (g ∷ gs) set sub =
    let first = gate_missing all g set (sub g (contains_first g g gs refl)) (is_added set g) refl in
    let rest = pass_missing all gs (after_gate set g) (λ h i. sub h (contains_rest g h gs i)) in
    omega (arith, first, rest)

-- a pass over all gates makes the set longer by no more than was missing
pass_fewer : (c : Circuit) (k : ℕ)
    → missing (upwards c.gates) (passed c (suc k)) + length (passed c (suc k))
    ≤ missing (upwards c.gates) (passed c k) + length (passed c k)
pass_fewer c k = pass_missing (upwards c.gates) (upwards c.gates) (passed c k) (λ g i. i)

pass_longer : (c : Circuit) (k : ℕ) → length (passed c k) ≤ length (passed c (suc k))
pass_longer c k =
    let p = pass_grows (upwards c.gates) (passed c k) in
    omega (arith, ap length p.is, length-append p.front (passed c k))

-- another pass after n of them adds nothing
abbrev IsStill : Circuit → ℕ → Type 0
IsStill c n = passed c (suc n) ≡ passed c n

-- how many passes after the k-th add something, up to n
abbrev more_passes : Circuit → ℕ → ℕ → ℕ
more_passes c n k = passes_within n (upwards c.gates) (passed c k)

-- whether the k-th pass and the next one make sets of one length
abbrev is_same : Circuit → ℕ → Bool
is_same c k = eqb (length (passed c (suc k))) (length (passed c k))

still_at : (c : Circuit) (k n : ℕ) → n ≡ k → IsStill c k → IsStill c n
still_at c k n e h = subst (IsStill c) (sym e) h

still_within_by : (c : Circuit) (n k : ℕ) (b : Bool) → is_same c k ≡ b
    → missing (upwards c.gates) (passed c k) ≤ suc n
    → (missing (upwards c.gates) (passed c (suc k)) ≤ n
    → IsStill c (suc k + more_passes c n (suc k)))
    → IsStill c (k + cond b 0 (more_passes c n (suc k) + 1))
still_within_by c n k true e most f =
    let same = eqb-true _ _ e in
    still_at c k (k + 0) (omega arith) (same_length (upwards c.gates) (passed c k) same)
still_within_by c n k false e most f =
    let differ : length (passed c (suc k)) ≢ length (passed c k) = eqb-false _ _ e in
    let less : missing (upwards c.gates) (passed c (suc k)) ≤ n =
    omega (arith, pass_fewer c k, pass_longer c k, differ) in
    let r = more_passes c n (suc k) in
    still_at c (suc k + r) (k + (r + 1)) (omega arith) (f less)

still_within : (c : Circuit) (n k : ℕ) → missing (upwards c.gates) (passed c k) ≤ n
    → IsStill c (k + more_passes c n k)
still_within c zero k most =
    let same : length (passed c (suc k)) ≡ length (passed c k) =
    omega (arith, pass_fewer c k, pass_longer c k) in
    still_at c k (k + 0) (omega arith) (same_length (upwards c.gates) (passed c k) same)
still_within c (suc n) k most =
    still_within_by c n k (is_same c k) refl most (still_within c n (suc k))

least_within_by : (c : Circuit) (n k : ℕ) (b : Bool) → is_same c k ≡ b
    → ((j : ℕ) → j < more_passes c n (suc k) → IsStill c (suc k + j) → ⊥)
    → (j : ℕ) → j < cond b 0 (more_passes c n (suc k) + 1) → IsStill c (k + j) → ⊥
least_within_by c n k true e f j less still = absurd (omega (arith, less))
least_within_by c n k false e f zero less still =
    let here = still_at c (k + 0) k (omega arith) still in
    eqb-false _ _ e (ap length here)
least_within_by c n k false e f (suc j) less still =
    f j (omega (arith, less)) (still_at c (k + suc j) (suc k + j) (omega arith) still)

least_within : (c : Circuit) (n k j : ℕ) → j < more_passes c n k → IsStill c (k + j) → ⊥
least_within c zero k j less still = absurd (omega (arith, less))
least_within c (suc n) k j less still =
    least_within_by c n k (is_same c k) refl (least_within c n (suc k)) j less still

-- as many gates upwards as in the circuit
with_length : (b : Bool) (g h : Gate) (gs : List Gate) → length (with_gate g gs) ≡ suc (length gs)
    → length (cond b (h ∷ with_gate g gs) (g ∷ h ∷ gs)) ≡ suc (suc (length gs))
with_length true g h gs e = ap suc e
with_length false g h gs e = refl

length_with : (g : Gate) (gs : List Gate) → length (with_gate g gs) ≡ suc (length gs)
length_with g [] = refl
length_with g (h ∷ gs) = with_length (ltb (h.lhs / 2) (g.lhs / 2)) g h gs (length_with g gs)

pub length_upwards : (gs : List Gate) → length (upwards gs) ≡ length gs
length_upwards [] = refl
length_upwards (g ∷ gs) = length_with g (upwards gs) ∙ ap suc (length_upwards gs)

-- `passes_of` is the number of passes.
pub passes_is : (c : Circuit) → IsPasses c (passes_of c)
passes_is c =
    let all = length_upwards c.gates in
    let most : missing (upwards c.gates) (passed c 0) ≤ length c.gates =
    omega (arith, missing_most (upwards c.gates) (passed c 0), all) in
    let still = still_within c (length c.gates) 0 most in
    record {
      still = still_at c (0 + passes_of c) (passes_of c) (omega arith) still;
      least = λ n less same.
          least_within c (length c.gates) 0 n less (still_at c n (0 + n) (omega arith) same);
    }

-- There is one number of passes.
pub passes_one : (c : Circuit) (r t : ℕ) → IsPasses c r → IsPasses c t → r ≡ t
passes_one c r t p q = elim (cases_order r t) [
  | inl same ↦ same
  | inr apart ↦ elim apart
      [ inl less ↦ absurd (q.least r less p.still) | inr more ↦ absurd (p.least t more q.still) ]
]

passes_most_by : (b : Bool) (n k : ℕ) → k ≤ n → cond b 0 (k + 1) ≤ suc n
passes_most_by true n k h = omega arith
passes_most_by false n k h = omega arith

passes_most_within : (n : ℕ) (gates : List Gate) (set : List ℕ) → passes_within n gates set ≤ n
passes_most_within zero gates set = omega arith
passes_most_within (suc n) gates set =
    passes_most_by _ n _ (passes_most_within n gates (pass gates set))

-- There are no more passes than gates.
pub passes_most : (c : Circuit) → passes_of c ≤ length c.gates
passes_most c = passes_most_within (length c.gates) (upwards c.gates) (first_set c)

-- a set that one more pass leaves is left by all further passes
still_on : (c : Circuit) (r k : ℕ) → passed c (suc r) ≡ passed c r → passed c (r + k) ≡ passed c r
still_on c r zero e = ap (passed c) (omega arith)
still_on c r (suc k) e =
    let here : r + suc k ≡ suc (r + k) = omega arith in
    ap (passed c) here ∙ ap (pass (upwards c.gates)) (still_on c r k e) ∙ e

-- as many passes as gates find all founded variables
all_still : (c : Circuit) → passed c (suc (length c.gates)) ≡ passed c (length c.gates)
all_still c =
    let r = passes_of c in
    let still = (passes_is c).still in
    let most = passes_most c in
    let a : r + (length c.gates - r) ≡ length c.gates = omega (arith, most) in
    let same : passed c (length c.gates) ≡ passed c r = ap (passed c) (sym a)
    ∙ still_on c r (length c.gates - r) still in
    ap (pass (upwards c.gates)) same ∙ still ∙ sym same

-- The founded variables are those that as many passes as gates find.
pub founded_iff : (c : Circuit) (v : ℕ) → (has (passed c (length c.gates)) v ≡ true) ↔ IsFounded c v
founded_iff c v =
    (passed_founded c (length c.gates) v, passed_complete c (length c.gates) (all_still c) v)

-- a pass over gates that are all in the set leaves it
leaves_by : (present : Bool) (set : List ℕ) (g : Gate) → has set (g.lhs / 2) ≡ present
    → present ≡ true → after_gate set g ≡ set
leaves_by present set g e t =
    let there = e ∙ t in
    let off = not_from_true _ there in
    ap (λ b. cond b (g.lhs / 2 ∷ set) set)
    (and_left (not (has set (g.lhs / 2))) (has set (g.rhs0 / 2) && has set (g.rhs1 / 2)) off)

pub pass_leaves : (gs : List Gate) (set : List ℕ)
    → ((g : Gate) → Contains gs g → has set (g.lhs / 2) ≡ true) → pass gs set ≡ set
pass_leaves [] set f = refl
pass_leaves (g ∷ gs) set f =
    let here = leaves_by _ set g refl (f g (contains_first g g gs refl)) in
    ap (pass gs) here ∙ pass_leaves gs set (λ h i. f h (contains_rest g h gs i))
