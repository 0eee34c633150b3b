-- The notes that wait in a queue: those of the gates that are still to come, in order.
use Rattle.std.proofs.Common.{◌≡◌, ◌<◌, ◌||◌, Bool, true, false, cond, eqb, ◌==◌, if◌then◌else◌, List, [], ◌∷◌, ◌++◌, ℕ, sym, ap, ◌∙◌, refl, arith, filter}
use Rattle.std.proofs.lemmas.Bool.{eqb-true}
use Rattle.std.proofs.lemmas.List.Elements.{filter-append}
use Rattle.em_record.specs.declared.record.Record.{Record}
use Rattle.em_record.specs.Order.{AtLeast, AllAtLeast, with_record, in_order}
use Rattle.em_record.proofs.Commutes.{order_cons, order_between, order_split}
use Rattle.em_record.proofs.Order.{order_push}
use Rattle.aig_defs.specs.Founded.{has}
use Rattle.aig_defs.proofs.Graphs.{greater_not_below}
use Rattle.aig_order.specs.Sweeps.{is_gate}

-- the variables of the gates that some records define
abbrev pub gates_in : List Record → List ℕ
gates_in [] = []
gates_in (r ∷ rs) = if is_gate r then r.a ∷ gates_in rs else gates_in rs

-- the notes for one of these gates, and for one gate
abbrev pub notes_for : List ℕ → List Record → List Record
notes_for vs notes = filter (λ (m : Record). has vs m.a) notes

abbrev pub due : ℕ → List Record → List Record
due v notes = filter (λ (m : Record). v == m.a) notes

-- those that wait if these records are still to come
abbrev pub awaited : List Record → List Record → List Record
awaited rest notes = in_order (notes_for (gates_in rest) notes)

-- the notes for a gate and others are those for the gate, and those for the others
part_by : (m : Record) (v : ℕ) (vs : List ℕ) (notes : List Record) (own other : Bool)
    → eqb v m.a ≡ own → has vs m.a ≡ other → (own ≡ true → other ≡ true → ⊥)
    → in_order (notes_for (v ∷ vs) notes) ≡ in_order (due v notes ++ notes_for vs notes)
    → in_order (cond (own || other) (m ∷ notes_for (v ∷ vs) notes) (notes_for (v ∷ vs) notes))
    ≡ in_order (cond own (m ∷ due v notes) (due v notes)
    ++ cond other (m ∷ notes_for vs notes) (notes_for vs notes))
part_by m v vs notes true true p q f e = absurd (f refl refl)
part_by m v vs notes true false p q f e =
    order_cons m (notes_for (v ∷ vs) notes) ∙ ap (with_record m) e
    ∙ sym (order_cons m (due v notes ++ notes_for vs notes))
part_by m v vs notes false true p q f e =
    order_cons m (notes_for (v ∷ vs) notes) ∙ ap (with_record m) e
    ∙ sym (order_between (due v notes) m (notes_for vs notes))
part_by m v vs notes false false p q f e = e

notes_part : (v : ℕ) (vs : List ℕ) (notes : List Record) → (has vs v ≡ true → ⊥)
    → in_order (notes_for (v ∷ vs) notes) ≡ in_order (due v notes ++ notes_for vs notes)
notes_part v vs [] f = refl
notes_part v vs (m ∷ notes) f =
    part_by m v vs notes (eqb v m.a) (has vs m.a) refl refl
    (λ p q. f (ap (has vs) (eqb-true v m.a p) ∙ q)) (notes_part v vs notes f)

-- and the first come first if the gate is less than the others
abbrev pub IsUnder : ℕ → List ℕ → Type 0
IsUnder v vs = (u : ℕ) → has vs u ≡ true → v < u

at_least_by : (m x : Record) (vs : List ℕ) (notes : List Record) (there : Bool)
    → has vs x.a ≡ there → IsUnder m.a vs → AtLeast m (notes_for vs notes)
    → AtLeast m (cond there (x ∷ notes_for vs notes) (notes_for vs notes))
at_least_by m x vs notes true e f a = (greater_not_below x m (f x.a e), a)
at_least_by m x vs notes false e f a = a

under_least : (m : Record) (vs : List ℕ) (notes : List Record) → IsUnder m.a vs
    → AtLeast m (notes_for vs notes)
under_least m vs [] f = tt
under_least m vs (x ∷ notes) f =
    at_least_by m x vs notes (has vs x.a) refl f (under_least m vs notes f)

all_by : (m : Record) (v : ℕ) (vs : List ℕ) (more notes : List Record) (own : Bool)
    → eqb v m.a ≡ own → IsUnder v vs → AllAtLeast (due v more) (notes_for vs notes)
    → AllAtLeast (cond own (m ∷ due v more) (due v more)) (notes_for vs notes)
all_by m v vs more notes true e f a = (
  under_least m vs notes (λ u h. let low = f u h in let same = eqb-true v m.a e in
      omega (arith, low, same)),
  a,
)
all_by m v vs more notes false e f a = a

all_least : (v : ℕ) (vs : List ℕ) (more notes : List Record) → IsUnder v vs
    → AllAtLeast (due v more) (notes_for vs notes)
all_least v vs [] notes f = tt
all_least v vs (m ∷ more) notes f =
    all_by m v vs more notes (eqb v m.a) refl f (all_least v vs more notes f)

-- A gate's notes come first if it is the least of those to come.
pub gate_first : (v : ℕ) (vs : List ℕ) (notes : List Record) → IsUnder v vs
    → in_order (notes_for (v ∷ vs) notes) ≡ in_order (due v notes) ++ in_order (notes_for vs notes)
gate_first v vs notes f =
    notes_part v vs notes (λ h. let low = f v h in omega (arith, low))
    ∙ order_split (due v notes) (notes_for vs notes) (all_least v vs notes notes f)

-- One note more for a gate that is still to come joins them.
pub note_joins : (m : Record) (rest notes : List Record) → has (gates_in rest) m.a ≡ true
    → with_record m (awaited rest notes) ≡ awaited rest (notes ++ m ∷ [])
note_joins m rest notes h =
    let p = λ (x : Record). has (gates_in rest) x.a in
    sym (ap in_order (filter-append p notes (m ∷ [])
    ∙ ap (λ b. filter p notes ++ cond b (m ∷ []) []) h)
    ∙ order_push (notes_for (gates_in rest) notes) m)

-- None is left after all gates,
none_by : (notes : List Record) → notes_for [] notes ≡ []
none_by [] = refl
none_by (m ∷ notes) = none_by notes

pub none_awaited : (notes : List Record) → awaited [] notes ≡ []
none_awaited notes = ap in_order (none_by notes)

-- each note is for one of these gates
abbrev pub AllFor : List ℕ → List Record → Type 0
AllFor vs [] = Unit {0}
AllFor vs (m ∷ notes) = (has vs m.a ≡ true) × AllFor vs notes

all_for : (vs : List ℕ) (notes : List Record) → AllFor vs notes → notes_for vs notes ≡ notes
all_for vs [] h = refl
all_for vs (m ∷ notes) h =
    ap (λ b. cond b (m ∷ notes_for vs notes) (notes_for vs notes)) h.0
    ∙ ap (λ z. m ∷ z) (all_for vs notes h.1)

-- and before all gates all wait.
pub all_awaited : (rest notes : List Record) → AllFor (gates_in rest) notes
    → awaited rest notes ≡ in_order notes
all_awaited rest notes h = ap in_order (all_for (gates_in rest) notes h)

-- a record that defines no gate changes nothing
pub awaited_other : (r : Record) (rest notes : List Record) → is_gate r ≡ false
    → awaited (r ∷ rest) notes ≡ awaited rest notes
awaited_other r rest notes e =
    ap (λ b. in_order (notes_for (cond b (r.a ∷ gates_in rest) (gates_in rest)) notes)) e

pub awaited_gate : (r : Record) (rest notes : List Record) → is_gate r ≡ true
    → IsUnder r.a (gates_in rest)
    → awaited (r ∷ rest) notes ≡ in_order (due r.a notes) ++ awaited rest notes
awaited_gate r rest notes e f =
    ap (λ b. in_order (notes_for (cond b (r.a ∷ gates_in rest) (gates_in rest)) notes)) e
    ∙ gate_first r.a (gates_in rest) notes f
