-- The gates that passes didn't find, by the list after them: the first of them, or none.
use Rattle.std.proofs.Common.{inl, inr, ◌≡◌, ◌≢◌, ◌<◌, ◌≤◌, ◌/◌, Bool, true, false, cond, eqb, ◌&&◌, not, List, [], ◌∷◌, ℕ, suc, Some, None, sym, ap, ◌∙◌, refl, subst, arith, Contains}
use Rattle.std.proofs.lemmas.Bool.{cases_Bool, and_from, eqb-true, eq-eqb, false_from_ne_true}
use Rattle.em_record.specs.declared.record.Record.{Record}
use Rattle.aig_defs.specs.declared.circuit.Gate.{Gate}
use Rattle.aig_defs.specs.Circuit.{Circuit, IsCircuit}
use Rattle.aig_defs.specs.Faults.{IsTwice, IsUndefined, IsCyclic, IsLeast, Nowhere}
use Rattle.aig_defs.specs.Founded.{has, upwards, passed}
use Rattle.aig_defs.proofs.Founding.{to_upwards}
use Rattle.aig_defs.proofs.Members.{has_cases, contains_first, contains_rest, contains_cases, contains_none, gate_with}
use Rattle.aig_defs.proofs.Single.{has_variable}
use Rattle.aig_order.specs.ByPass.{found}
use Rattle.aig_order.specs.LeftGates.{is_left, left_gate}
use Rattle.aig_order.specs.PassLists.{known, list_after}
use Rattle.aig_order.specs.Sweeps.{is_edge, is_gate}
use Rattle.aig_order.proofs.Awaited.{gates_in}
use Rattle.aig_order.proofs.Both.{first_holds, second_holds}
use Rattle.aig_order.proofs.CircuitLists.{list_adjoins, list_gate, list_gates, own_has}
use Rattle.aig_order.proofs.Known.{known_if, rank_some}
use Rattle.aig_order.proofs.Orders.{AllFound, left_cyclic}
use Rattle.aig_order.proofs.Telling.{IsAdjacency, end, edge, definition}

-- definitions have their ranks, and are above the variable that is defined before them
pub record IsDefinition (rank : ℕ → ℕ) (u : ℕ) (r : Record) : Type 0 where
  pub over : u < r.a
  pub rank_is : r.c ≡ rank r.a

pub definition_in : (rank : ℕ → ℕ) (u : ℕ) (rs : List Record) → IsAdjacency rank u rs → (r : Record)
    → Contains rs r → is_edge r ≡ false → IsDefinition rank u r
definition_in rank u rs (end v) r i n = absurd (contains_none r i)
definition_in rank u rs (edge v e es t a f) r i n = elim (contains_cases e r es i) [
  | inl same ↦ absurd (let here = ap is_edge (sym same) ∙ t in cc (here, n))
  | inr j ↦ definition_in rank u es f r j n
]
definition_in rank u rs (definition v x es t l c f) r i n = elim (contains_cases x r es i) [
  | inl same ↦ subst (IsDefinition rank u) same (record { over = l; rank_is = c })
  | inr j ↦
      (let d = definition_in rank x.a es f r j n in
      record { over = (let o = d.over in omega (arith, l, o)); rank_is = d.rank_is })
]

gate_no_edge : (r : Record) → is_gate r ≡ true → is_edge r ≡ false
gate_no_edge r g = false_from_ne_true _ (λ t.
    let none = ap (λ b. not b && not (eqb r.d 1)) t in cc)

-- the first that is left is the least
pub record FirstLeft (rs : List Record) (v : ℕ) : Type 0 where
  pub item : Record
  pub is : Contains rs item
  pub variable : item.a ≡ v
  pub left : is_left item ≡ true
  pub least : (q : Record) → Contains rs q → is_left q ≡ true → v ≤ q.a

first_by : (x : Record) (es : List Record) (v : ℕ) (b : Bool) → is_left x ≡ b
    → (is_left x ≡ true → (q : Record) → Contains es q → is_left q ≡ true → x.a ≤ q.a)
    → (left_gate es ≡ Some v → FirstLeft es v)
    → cond b (Some x.a) (left_gate es) ≡ Some v → FirstLeft (x ∷ es) v
first_by x es v true e low f s =
    let same : x.a ≡ v = cc in record {
      item = x;
      is = contains_first x x es refl;
      variable = same;
      left = e;
      least = λ q i l. elim (contains_cases x q es i) [
        | inl own ↦ omega (arith, same, ap (λ (z : Record). z.a) own)
        | inr j ↦ (let most = low e q j l in omega (arith, same, most))
      ];
    }
first_by x es v false e low f s =
    let rest = f s in record {
      item = rest.item;
      is = contains_rest x rest.item es rest.is;
      variable = rest.variable;
      left = rest.left;
      least = λ q i l. elim (contains_cases x q es i) [
        | inl own ↦ absurd (let here = ap is_left (sym own) ∙ e in cc (here, l))
        | inr j ↦ rest.least q j l
      ];
    }

pub left_first : (rank : ℕ → ℕ) (u : ℕ) (rs : List Record) → IsAdjacency rank u rs → (v : ℕ)
    → left_gate rs ≡ Some v → FirstLeft rs v
left_first rank u rs (end w) v e = cc
left_first rank u rs (edge w x es t a f) v e =
    first_by x es v (is_left x) refl
    (λ l. absurd (let none = gate_no_edge x (first_holds (is_gate x) (eqb x.c 0) l) in cc (none, t)))
    (left_first rank u es f v) e
left_first rank u rs (definition w x es t l c f) v e =
    first_by x es v (is_left x) refl
    (λ own q i left.
    let d = definition_in rank x.a es f q i
    (gate_no_edge q (first_holds (is_gate q) (eqb q.c 0) left)) in
    let over = d.over in omega (arith, over))
    (left_first rank x.a es f v) e

-- a gate's variable has its definition
pub record HasGateRecord (rs : List Record) (v : ℕ) : Type 0 where
  pub item : Record
  pub is : Contains rs item
  pub gate : is_gate item ≡ true
  pub variable : item.a ≡ v

later_record : (r : Record) (rs : List Record) (v : ℕ) → HasGateRecord rs v
    → HasGateRecord (r ∷ rs) v
later_record r rs v o = record {
  item = o.item;
  is = contains_rest r o.item rs o.is;
  gate = o.gate;
  variable = o.variable;
}

record_by : (r : Record) (rs : List Record) (v : ℕ) (b : Bool) → is_gate r ≡ b
    → (has (gates_in rs) v ≡ true → HasGateRecord rs v)
    → has (cond b (r.a ∷ gates_in rs) (gates_in rs)) v ≡ true → HasGateRecord (r ∷ rs) v
record_by r rs v false e f h = later_record r rs v (f h)
record_by r rs v true e f h = elim (has_cases r.a v (gates_in rs) h) [
  | inl same ↦ record {
    item = r;
    is = contains_first r r rs refl;
    gate = e;
    variable = same;
  }
  | inr rest ↦ later_record r rs v (f rest)
]

pub gate_record_of : (rs : List Record) (v : ℕ) → has (gates_in rs) v ≡ true → HasGateRecord rs v
gate_record_of [] v h = cc
gate_record_of (r ∷ rs) v h = record_by r rs v (is_gate r) refl (gate_record_of rs v) h

-- the definition of a circuit's gate, after n passes
gate_item : (c : Circuit) (n : ℕ) → Nowhere (IsTwice c) → (g : Gate) → Contains c.gates g
    → HasGateRecord (list_after c n) (g.lhs / 2)
gate_item c n w g i =
    gate_record_of (list_after c n) (g.lhs / 2)
    (ap (λ vs. has vs (g.lhs / 2)) (list_gates c n w)
    ∙ has_variable (upwards c.gates) g (to_upwards g c.gates i))

-- its rank is 0 exactly if passes didn't find it
rank_zero : (c : Circuit) (n v : ℕ) → v ≢ 0 → known c n v ≡ 0 → has (passed c n) v ≡ false
rank_zero c n v some e = false_from_ne_true _ (λ t.
    rank_some c (found c n) v some (sym (known_if c n v true t) ∙ e))

left_in : (c : Circuit) (n : ℕ) → IsCircuit c → Nowhere (IsTwice c) → Nowhere (IsUndefined c)
    → (g : Gate) → has (passed c n) (g.lhs / 2) ≡ false
    → (o : HasGateRecord (list_after c n) (g.lhs / 2)) → is_left o.item ≡ true
left_in c n is w u g f o =
    let d = definition_in (known c n) 0 (list_after c n) (list_adjoins c n is w u) o.item o.is
    (gate_no_edge o.item o.gate) in
    and_from _ _ o.gate (eq-eqb o.item.c 0 (d.rank_is ∙ ap (known c n) o.variable
    ∙ known_if c n (g.lhs / 2) false f))

-- none of some records is left
none_by : (x : Record) (rs : List Record) (b : Bool) → is_left x ≡ b
    → (left_gate rs ≡ None → (r : Record) → Contains rs r → is_left r ≡ true → ⊥)
    → cond b (Some x.a) (left_gate rs) ≡ None → (r : Record) → Contains (x ∷ rs) r
    → is_left r ≡ true → ⊥
none_by x rs true p f e r i l = absurd (cc (e))
none_by x rs false p f e r i l = elim (contains_cases x r rs i) [
  | inl same ↦ absurd (let here = ap is_left (sym same) ∙ p in cc (here, l))
  | inr j ↦ f e r j l
]

none_among : (rs : List Record) → left_gate rs ≡ None → (r : Record) → Contains rs r
    → is_left r ≡ true → ⊥
none_among [] e r i l = contains_none r i
none_among (x ∷ rs) e r i l = none_by x rs (is_left x) refl (none_among rs) e r i l

-- If none is left, all gates were found.
pub none_left : (c : Circuit) (n : ℕ) → IsCircuit c → Nowhere (IsTwice c) → Nowhere (IsUndefined c)
    → left_gate (list_after c n) ≡ None → AllFound c n
none_left c n is w u e g i = elim (cases_Bool (has (passed c n) (g.lhs / 2))) [
  | inl t ↦ t
  | inr f ↦
      (let o = gate_item c n w g i in
      absurd (none_among (list_after c n) e o.item o.is (left_in c n is w u g f o)))
]

-- If one is left after a pass that adds nothing, the first is the least that isn't founded.
pub some_left : (c : Circuit) (n : ℕ) → IsCircuit c → Nowhere (IsTwice c) → Nowhere (IsUndefined c)
    → passed c (suc n) ≡ passed c n → (v : ℕ) → left_gate (list_after c n) ≡ Some v
    → IsLeast (IsCyclic c) v
some_left c n is w u still v e =
    let adjoins = list_adjoins c n is w u in
    let first = left_first (known c n) 0 (list_after c n) adjoins v e in
    let r = first.item in
    let own = first_holds (is_gate r) (eqb r.c 0) first.left in
    let d = definition_in (known c n) 0 (list_after c n) adjoins r first.is (gate_no_edge r own) in
    let some : r.a ≢ 0 = (let over = d.over in omega (arith, over)) in
    let zero = eqb-true r.c 0 (second_holds (is_gate r) (eqb r.c 0) first.left) in
    let lacks = rank_zero c n r.a some (sym d.rank_is ∙ zero) in
    let g = gate_with c.gates r.a
    (list_gate c n w r.a (own_has (list_after c n) r first.is own)) in
    subst (IsLeast (IsCyclic c)) (g.variable ∙ first.variable)
    (left_cyclic c n still g.gate g.is
    (ap (has (passed c n)) g.variable ∙ lacks) (λ h i f.
    let o = gate_item c n w h i in
    let low = first.least o.item o.is (left_in c n is w u h f o) in
    omega (arith, low, o.variable, g.variable, first.variable)))
