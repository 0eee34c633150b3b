-- The two sweeps that make the edges between ranks, over the list of a circuit.
use Rattle.std.proofs.Common.{inl, inr, ◌≡◌, ◌+◌, ◌<◌, ◌/◌, Bool, true, false, cond, eqb, ◌&&◌, not, List, [], ◌∷◌, ◌++◌, ℕ, sym, ap, ◌∙◌, refl, subst, arith, length, map}
use Rattle.std.proofs.lemmas.Bool.{eqb-true}
use Rattle.em_record.specs.declared.record.Record.{Record}
use Rattle.em_record.specs.Order.{is_below, with_record, with_records, in_order}
use Rattle.em_record.proofs.Order.{length_order}
use Rattle.aig_defs.specs.Circuit.{Circuit, IsCircuit}
use Rattle.aig_defs.specs.Faults.{IsTwice, IsUndefined, Nowhere}
use Rattle.aig_defs.specs.Founded.{has}
use Rattle.aig_defs.specs.Graph.{graph_edges}
use Rattle.aig_defs.proofs.Members.{has_cases, gate_with}
use Rattle.aig_defs.proofs.Upwards.{gates_unlike}
use Rattle.aig_order.specs.declared.standing.Standing.{Standing}
use Rattle.aig_order.specs.declared.standing.Sweep.TheVariants.{Send, Rank}
use Rattle.aig_order.specs.PassLists.{known, list_after}
use Rattle.aig_order.specs.Sweeps.{is_edge, is_gate, leads_to_gate, at_constant, meet_all}
use Rattle.aig_order.proofs.Agreeing.{to_gates, places_if}
use Rattle.aig_order.proofs.Awaited.{gates_in, due, awaited, all_awaited, IsUnder}
use Rattle.aig_order.proofs.CircuitLists.{list_adjoins, list_gate, list_leads, list_places, notes_all_for, own_has}
use Rattle.aig_order.proofs.Finding.{note_of, notes_by, stand, moment, last_variable, other_gates}
use Rattle.aig_order.proofs.GateEdges.{gate_agrees}
use Rattle.aig_order.proofs.PassLists.{begins_at}
use Rattle.aig_order.proofs.Taking.{HasRanks, HasPair, AllPaired, Wrote, ranked_note, takes}
use Rattle.aig_order.proofs.Taking as taking
use Rattle.aig_order.proofs.Telling.{IsAdjacency, written_by, tells}
use Rattle.aig_order.proofs.Telling as telling

-- gates of an adjacency list are above the variable before them
under_by : (u : ℕ) (r : Record) (rs : List Record) (b : Bool) → is_gate r ≡ b → u < r.a
    → IsUnder r.a (gates_in rs) → IsUnder u (cond b (r.a ∷ gates_in rs) (gates_in rs))
under_by u r rs false e l f v h = (let low = f v h in omega (arith, l, low))
under_by u r rs true e l f v h = elim (has_cases r.a v (gates_in rs) h) [
  | inl same ↦ omega (arith, l, same)
  | inr rest ↦ (let low = f v rest in omega (arith, l, low))
]

pub adjacent_over : (rank : ℕ → ℕ) (u : ℕ) (rs : List Record) → IsAdjacency rank u rs
    → IsUnder u (gates_in rs)
adjacent_over rank u rs (telling.end v) w h = cc
adjacent_over rank u rs (telling.edge v e es t a f) w h =
    let plain : is_gate e ≡ false = ap (λ b. not b && not (eqb e.d 1)) t in
    adjacent_over rank u es f w (ap (λ vs. has vs w) (sym (other_gates e es plain)) ∙ h)
adjacent_over rank u rs (telling.definition v r es t l c f) w h =
    under_by u r es (is_gate r) refl l (adjacent_over rank r.a es f) w h

ranks_by : (rank : ℕ → ℕ) (u : ℕ) (r : Record) (rs : List Record) (b : Bool) → is_gate r ≡ b
    → is_edge r ≡ false → IsUnder r.a (gates_in rs) → r.c ≡ rank r.a → HasRanks rank rs
    → HasRanks rank (r ∷ rs)
ranks_by rank u r rs true g t under c f = taking.gate r rs t g under c f
ranks_by rank u r rs false g t under c f = taking.other r rs g f

-- and each has its rank.
pub adjacent_ranks : (rank : ℕ → ℕ) (u : ℕ) (rs : List Record) → IsAdjacency rank u rs
    → HasRanks rank rs
adjacent_ranks rank u rs (telling.end v) = taking.end
adjacent_ranks rank u rs (telling.edge v e es t a f) =
    taking.other e es (ap (λ b. not b && not (eqb e.d 1)) t) (adjacent_ranks rank u es f)
adjacent_ranks rank u rs (telling.definition v r es t l c f) =
    ranks_by rank u r es (is_gate r) refl t (adjacent_over rank r.a es f) c
    (adjacent_ranks rank r.a es f)

-- the notes that are due at a gate are for it, and as many as edges lead to it
abbrev AllAt : ℕ → List Record → Type 0
AllAt v [] = Unit {0}
AllAt v (m ∷ ms) = (m.a ≡ v) × AllAt v ms

record DueAt (v : ℕ) (ms : List Record) (count : ℕ) : Type 0 where
  pub at_is : AllAt v ms
  pub count_is : length ms ≡ count

due_send_by : (rank : ℕ → ℕ) (v k : ℕ) (e : Record) (rest : List Record) (n : ℕ) (told own : Bool)
    → eqb v (e.b / 4) ≡ own → DueAt v (due v rest) n
    → DueAt v (due v (cond told (note_of Send rank k e ∷ rest) rest)) (cond (told && own) 1 0 + n)
due_send_by rank v k e rest n false own o d =
    record { at_is = d.at_is; count_is = (let c = d.count_is in omega (arith, c)) }
due_send_by rank v k e rest n true true o d =
    subst (λ ms. DueAt v ms (1 + n))
    (sym (ap (λ b. cond b (note_of Send rank k e ∷ due v rest) (due v rest)) o))
    (record {
      at_is = (sym (eqb-true v (e.b / 4) o), d.at_is);
      count_is = (let c = d.count_is in omega (arith, c));
    })
due_send_by rank v k e rest n true false o d =
    subst (λ ms. DueAt v ms (0 + n))
    (sym (ap (λ b. cond b (note_of Send rank k e ∷ due v rest) (due v rest)) o))
    (record { at_is = d.at_is; count_is = (let c = d.count_is in omega (arith, c)) })

due_send : (rank : ℕ → ℕ) (v k : ℕ) (rs : List Record)
    → DueAt v (due v (notes_by Send rank k rs)) (places_if to_gates v rs)
due_send rank v k [] = record { at_is = tt; count_is = refl }
due_send rank v k (e ∷ rs) =
    due_send_by rank v k e (notes_by Send rank (k + 1) rs) (places_if to_gates v rs)
    (is_edge e && leads_to_gate e) (eqb v (e.b / 4)) refl (due_send rank v (k + 1) rs)

at_with_by : (v : ℕ) (b : Bool) (x y : Record) (ys more : List Record) → x.a ≡ v
    → AllAt v (y ∷ ys) → AllAt v more → AllAt v (cond b (y ∷ more) (x ∷ y ∷ ys))
at_with_by v true x y ys more e a m = (a.0, m)
at_with_by v false x y ys more e a m = (e, a)

at_with : (v : ℕ) (x : Record) (ys : List Record) → x.a ≡ v → AllAt v ys
    → AllAt v (with_record x ys)
at_with v x [] e a = (e, tt)
at_with v x (y ∷ ys) e a =
    at_with_by v (is_below y x) x y ys (with_record x ys) e a (at_with v x ys e a.1)

at_records : (v : ℕ) (ys xs : List Record) → AllAt v ys → AllAt v xs → AllAt v (with_records ys xs)
at_records v ys [] a b = a
at_records v ys (x ∷ xs) a b = at_records v (with_record x ys) xs (at_with v x ys b.0 a) b.1

pair_of : (notes : List Record) (v : ℕ) (ds : List Record) → in_order (due v notes) ≡ ds
    → length ds ≡ 2 → AllAt v ds → HasPair notes v
pair_of notes v [] e n a = absurd (omega (arith, n))
pair_of notes v (x ∷ []) e n a = absurd (omega (arith, n))
pair_of notes v (x ∷ y ∷ []) e n a = record {
  first = x;
  second = y;
  are = e;
  first_for = a.0;
  second_for = a.1.0;
}
pair_of notes v (x ∷ y ∷ z ∷ ds) e n a = absurd (omega (arith, n))

pub list_paired : (c : Circuit) (n : ℕ) → Nowhere (IsTwice c)
    → AllPaired (notes_by Send (known c n) 0 (list_after c n)) (list_after c n)
list_paired c n w r i g =
    let v = r.a in
    let notes = notes_by Send (known c n) 0 (list_after c n) in
    let own = list_gate c n w v (own_has (list_after c n) r i g) in
    let gate = gate_with c.gates v own in
    let two = (gate_agrees (λ e. true) c (gates_unlike c w) gate.gate gate.is).count_is in
    let at = due_send (known c n) v 0 (list_after c n) in
    let places : places_if to_gates v (list_after c n) ≡ 2 =
    list_places c n v
    ∙ subst (λ u. places_if to_gates u (graph_edges c) ≡ 2) gate.variable two in
    pair_of notes v (in_order (due v notes)) refl
    (omega (arith, length_order (due v notes), at.count_is, places))
    (at_records v [] (due v notes) tt at.at_is)

-- The first sweep leaves the notes of all edges to gates, and writes the others.
pub ranks_sent : (c : Circuit) (n next : ℕ) → IsCircuit c → Nowhere (IsTwice c)
    → Nowhere (IsUndefined c)
    → meet_all c.header Send 0 (list_after c n) (moment [] (at_constant next) [])
    ≡ moment (in_order (notes_by Send (known c n) 0 (list_after c n)))
    (stand (known c n) (last_variable 0 (list_after c n)) next)
    (written_by c.header Send (known c n) (list_after c n))
ranks_sent c n next is w u =
    let rs = list_after c n in
    ap (λ p. meet_all c.header Send 0 rs (moment [] p [])) (begins_at c n next)
    ∙ tells c.header Send (known c n) next refl 0 rs (list_adjoins c n is w u) 0 [] []

-- The second takes them, and writes an edge between ranks for each.
pub ranks_taken : (c : Circuit) (n base : ℕ) (p : Standing) (ws : List Record) → IsCircuit c
    → Nowhere (IsTwice c) → Nowhere (IsUndefined c)
    → Wrote (meet_all c.header Rank base (list_after c n)
    (moment (in_order (notes_by Send (known c n) 0 (list_after c n))) p ws)) []
    (ws ++ map (ranked_note (known c n))
    (in_order (notes_by Send (known c n) 0 (list_after c n))))
ranks_taken c n base p ws is w u =
    let rs = list_after c n in
    let rank = known c n in
    let notes = notes_by Send rank 0 rs in
    let waits : awaited rs notes ≡ in_order notes =
    all_awaited rs notes (notes_all_for (gates_in rs) Send rank 0 rs (list_leads Send c n w)) in
    subst (λ i. Wrote (meet_all c.header Rank base rs (moment i p ws)) []
    (ws ++ map (ranked_note rank) i)) waits
    (takes c.header rank notes rs (adjacent_ranks rank 0 rs (list_adjoins c n is w u)) base p ws
    (list_paired c n w))
