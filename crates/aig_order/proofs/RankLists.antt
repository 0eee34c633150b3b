-- The edges between ranks, by both sweeps over the list after all passes: in order they are those of the
-- order by (pass, variable).
use Rattle.std.proofs.Common.{inl, inr, ◌≡◌, ◌+◌, ◌*◌, ◌-◌, ◌^◌, ◌<◌, ◌/◌, ◌%◌, ◌==◌, Bool, true, false, cond, eqb, ◌&&◌, if◌then◌else◌, List, [], ◌∷◌, ◌++◌, ℕ, min, sym, ap, ap₂, ◌∙◌, refl, arith, map, filter, Some, None, option_to_list, Contains}
use Rattle.std.proofs.lemmas.Bool.{cases_Bool, ltb-true, ltb-false, eqb-true, eqb-false, eq-eqb, ne_eqb}
use Rattle.em_record.specs.declared.record.Record.{Record}
use Rattle.em_record.specs.Order.{with_record, with_records, in_order}
use Rattle.em_record.proofs.Commutes.{order_cons, order_between, order_append}
use Rattle.em_record.proofs.Order.{records_append}
use Rattle.em_weave.specs.Woven.{side_record, lefts, rights}
use Rattle.em_weave.specs.declared.side.Side.{Side}
use Rattle.em_weave.specs.declared.side.Side.TheVariants.{Left, Right}
use Rattle.em_weave.proofs.Laws.{rights_woven}
use Rattle.aig_defs.specs.declared.circuit.Header.{Header}
use Rattle.aig_defs.specs.Circuit.{Circuit, IsCircuit}
use Rattle.aig_defs.specs.Faults.{IsTwice, IsUndefined, Nowhere}
use Rattle.aig_defs.specs.Graph.{graph_edges, graph_gates, graph_sources}
use Rattle.aig_defs.specs.Ranks.{ordered_edges}
use Rattle.aig_defs.specs.VariableRanks.{target_rank, ranked_edge}
use Rattle.aig_defs.proofs.Mapped.{map_order}
use Rattle.aig_defs.proofs.Members.{contains_first, contains_rest}
use Rattle.aig_order.specs.declared.standing.Sweep.TheVariants.{Send}
use Rattle.aig_order.specs.Adjacent.{definitions_of}
use Rattle.aig_order.specs.ByPass.{found}
use Rattle.aig_order.specs.PassLists.{known, renew, first_list, list_after}
use Rattle.aig_order.specs.Sweeps.{is_edge, leads_to_gate, end_edge, end_rank, with_rank}
use Rattle.aig_order.proofs.Adjoining.{NoEdges, AllEdges, renew_edge, renew_definition}
use Rattle.aig_order.proofs.ByPass.{found_unlike}
use Rattle.aig_order.proofs.CircuitLists.{first_sides, first_no_edges, first_edges}
use Rattle.aig_order.proofs.Finding.{note_of, notes_by}
use Rattle.aig_order.proofs.Known.{known_if}
use Rattle.aig_order.proofs.OrderRanks.{RanksIn, ranks_ordered}
use Rattle.aig_order.proofs.Orders.{AllFound, defined_found, found_order}
use Rattle.aig_order.proofs.Taking.{ranked_note}
use Rattle.aig_order.proofs.Telling.{written_by}

-- the edges of a list
abbrev pub edges_among : List Record → List Record
edges_among rs = filter is_edge rs

-- those of the list of a circuit are its graph's
renew_edges_by : (rank : ℕ → ℕ) (r : Record) (rs : List Record) (b : Bool) → is_edge r ≡ b
    → edges_among (map (renew rank) rs) ≡ edges_among rs
    → edges_among (renew rank r ∷ map (renew rank) rs) ≡ edges_among (r ∷ rs)
renew_edges_by rank r rs true e f =
    ap (λ x. edges_among (x ∷ map (renew rank) rs)) (renew_edge rank r e)
    ∙ ap (λ xs. cond (is_edge r) (r ∷ xs) xs) f
renew_edges_by rank r rs false e f =
    ap (λ x. edges_among (x ∷ map (renew rank) rs)) (renew_definition rank r e)
    ∙ ap (λ b. cond b (with_rank r (rank r.a) ∷ edges_among (map (renew rank) rs))
    (edges_among (map (renew rank) rs))) e
    ∙ f ∙ sym (ap (λ b. cond b (r ∷ edges_among rs) (edges_among rs)) e)

renew_edges : (rank : ℕ → ℕ) (rs : List Record)
    → edges_among (map (renew rank) rs) ≡ edges_among rs
renew_edges rank [] = refl
renew_edges rank (r ∷ rs) = renew_edges_by rank r rs (is_edge r) refl (renew_edges rank rs)

sides_edges : (ds : List Side) → NoEdges (lefts ds) → AllEdges (rights ds)
    → edges_among (map side_record ds) ≡ rights ds
sides_edges [] d e = refl
sides_edges (Left l ∷ ds) d e =
    ap (λ b. cond b (l ∷ edges_among (map side_record ds)) (edges_among (map side_record ds))) d.0
    ∙ sides_edges ds d.1 e
sides_edges (Right r ∷ ds) d e =
    ap (λ b. cond b (r ∷ edges_among (map side_record ds)) (edges_among (map side_record ds))) e.0
    ∙ ap (λ xs. r ∷ xs) (sides_edges ds d e.1)

pub list_edges : (c : Circuit) (n : ℕ) → edges_among (list_after c n) ≡ graph_edges c
list_edges c n =
    let ds = definitions_of c.header (graph_sources c) (graph_gates c) in
    renew_edges (known c n) (first_list c)
    ∙ sides_edges (first_sides c) (first_no_edges c) (first_edges c)
    ∙ rights_woven ds (graph_edges c)

-- a word c of an edge is 0 or 1, and ranks are low
abbrev pub AllBits : List Record → Type 0
AllBits rs = (e : Record) → Contains rs e → is_edge e ≡ true → e.c < 2

abbrev pub AllLow : (ℕ → ℕ) → Type 0
AllLow rank = (v : ℕ) → rank v < 2 ^ 62

-- what is written for an edge is the edge between ranks
gate_ranked : (h : Header) (rank : ℕ → ℕ) (k : ℕ) (e : Record) → leads_to_gate e ≡ true → e.c < 2
    → AllLow rank → ranked_note rank (note_of Send rank k e) ≡ ranked_edge rank h e
gate_ranked h rank k e t bit low =
    let class = ltb-true (e.b % 4) 2 t in
    let most = low (e.b / 4) in
    let other2 : eqb (e.b % 4) 2 ≡ false = ne_eqb (e.b % 4) 2 (omega (arith, class)) in
    let other3 : eqb (e.b % 4) 3 ≡ false = ne_eqb (e.b % 4) 3 (omega (arith, class)) in
    let port : (2 * (e.b % 4) + e.c % 2) / 2 ≡ e.b % 4 = omega (arith, bit) in
    let bit_is : (2 * (e.b % 4) + e.c % 2) % 2 ≡ e.c = omega (arith, bit) in
    let target : target_rank rank h (e.b % 4) (e.b / 4) ≡ rank (e.b / 4) =
    ap (λ b. cond b (1 + h.inputs + h.latches + h.gates + (e.b / 4 - 2 ^ 41))
    (cond (eqb (e.b % 4) 3) (1 + h.inputs + 2 * h.latches + h.gates + (e.b / 4 - 2 ^ 42))
    (rank (e.b / 4)))) other2
    ∙ ap (λ b. cond b (1 + h.inputs + 2 * h.latches + h.gates + (e.b / 4 - 2 ^ 42)) (rank (e.b / 4)))
    other3 in
    let one : (if e.b % 4 == 1 then 1 else 0) ≡ e.b % 4 = one_by (e.b % 4) class in
    let word : min (2 * rank (e.b / 4) + (2 * (e.b % 4) + e.c % 2) / 2) (2 ^ 64 - 1)
    ≡ 2 * target_rank rank h (e.b % 4) (e.b / 4) + (if e.b % 4 == 1 then 1 else 0) =
    omega (arith, most, class, port, target, one) in
    ap₂ (λ (x y : ℕ). record { a = rank e.a; b = x; c = y; d = 0 }) word bit_is
  where
    one_by : (x : ℕ) → x < 2 → (if x == 1 then 1 else 0) ≡ x
    one_by x l = elim (cases_Bool (eqb x 1)) [
      | inl t ↦ ap (λ b. cond b 1 0) t ∙ sym (eqb-true x 1 t)
      | inr f ↦ ap (λ b. cond b 1 0) f
          ∙ (let other = eqb-false x 1 f in omega (arith, l, other))
    ]

end_ranked : (h : Header) (rank : ℕ → ℕ) (e : Record) → leads_to_gate e ≡ false
    → end_edge h (rank e.a) e ≡ ranked_edge rank h e
end_ranked h rank e f =
    let class = ltb-false (e.b % 4) 2 f in
    let latch = 1 + h.inputs + h.latches + h.gates + (e.b / 4 - 2 ^ 41) in
    let column = 1 + h.inputs + 2 * h.latches + h.gates + (e.b / 4 - 2 ^ 42) in
    let port : cond {A = ℕ} (eqb (e.b % 4) 1) 1 0 ≡ 0 =
    ap (λ b. cond {A = ℕ} b 1 0) (ne_eqb (e.b % 4) 1 (omega (arith, class))) in
    elim (cases_Bool (eqb (e.b % 4) 2)) [
      | inl t ↦
          let target : target_rank rank h (e.b % 4) (e.b / 4) ≡ latch =
          ap (λ b. cond b latch (cond (eqb (e.b % 4) 3) column (rank (e.b / 4)))) t in
          let own : end_rank h e ≡ latch =
          ap (λ b. cond b latch column) t in
          let word : 2 * end_rank h e ≡ 2 * target_rank rank h (e.b % 4) (e.b / 4)
          + (if e.b % 4 == 1 then 1 else 0) = omega (arith, target, own, port) in
          ap (λ (x : ℕ). record { a = rank e.a; b = x; c = e.c; d = 0 }) word
      | inr n ↦
          let last : e.b % 4 ≡ 3 = (let other = eqb-false (e.b % 4) 2 n in
          omega (arith, class, other)) in
          let target : target_rank rank h (e.b % 4) (e.b / 4) ≡ column =
          ap (λ b. cond b latch (cond (eqb (e.b % 4) 3) column (rank (e.b / 4)))) n
          ∙ ap (λ b. cond b column (rank (e.b / 4))) (eq-eqb (e.b % 4) 3 last) in
          let own : end_rank h e ≡ column =
          ap (λ b. cond b latch column) n in
          let word : 2 * end_rank h e ≡ 2 * target_rank rank h (e.b % 4) (e.b / 4)
          + (if e.b % 4 == 1 then 1 else 0) = omega (arith, target, own, port) in
          ap (λ (x : ℕ). record { a = rank e.a; b = x; c = e.c; d = 0 }) word
    ]

-- all that is written, with the notes in any order
abbrev written_all : Header → (ℕ → ℕ) → ℕ → List Record → List Record
written_all h rank k rs =
    written_by h Send rank rs ++ map (ranked_note rank) (notes_by Send rank k rs)

edge_by : (h : Header) (rank : ℕ → ℕ) (k : ℕ) (e : Record) (ws ns es : List Record) (b : Bool)
    → leads_to_gate e ≡ b → e.c < 2 → AllLow rank
    → in_order (ws ++ map (ranked_note rank) ns) ≡ in_order es
    → in_order ((option_to_list (cond b None (Some (end_edge h (rank e.a) e))) ++ ws)
    ++ map (ranked_note rank) (cond b (note_of Send rank k e ∷ ns) ns))
    ≡ in_order (ranked_edge rank h e ∷ es)
edge_by h rank k e ws ns es true t bit low f =
    order_between ws (ranked_note rank (note_of Send rank k e)) (map (ranked_note rank) ns)
    ∙ ap₂ with_record (gate_ranked h rank k e t bit low) f
    ∙ sym (order_cons (ranked_edge rank h e) es)
edge_by h rank k e ws ns es false t bit low f =
    order_cons (end_edge h (rank e.a) e) (ws ++ map (ranked_note rank) ns)
    ∙ ap₂ with_record (end_ranked h rank e t) f
    ∙ sym (order_cons (ranked_edge rank h e) es)

record_by : (h : Header) (rank : ℕ → ℕ) (k : ℕ) (r : Record) (rs : List Record) (b : Bool)
    → is_edge r ≡ b → (is_edge r ≡ true → r.c < 2) → AllLow rank
    → in_order (written_all h rank (k + 1) rs)
    ≡ in_order (map (ranked_edge rank h) (edges_among rs))
    → in_order (written_all h rank k (r ∷ rs))
    ≡ in_order (map (ranked_edge rank h) (edges_among (r ∷ rs)))
record_by h rank k r rs true e bit low f =
    let ws = written_by h Send rank rs in
    let ns = notes_by Send rank (k + 1) rs in
    let es = edges_among rs in
    ap (λ b. in_order ((cond b (option_to_list
    (cond (leads_to_gate r) None (Some (end_edge h (rank r.a) r)))) [] ++ ws)
    ++ map (ranked_note rank) (cond (b && leads_to_gate r) (note_of Send rank k r ∷ ns) ns))) e
    ∙ edge_by h rank k r ws ns (map (ranked_edge rank h) es) (leads_to_gate r) refl (bit e) low f
    ∙ sym (ap (λ b. in_order (map (ranked_edge rank h) (cond b (r ∷ es) es))) e)
record_by h rank k r rs false e bit low f =
    let ws = written_by h Send rank rs in
    let ns = notes_by Send rank (k + 1) rs in
    let es = edges_among rs in
    ap (λ b. in_order ((cond b (option_to_list
    (cond (leads_to_gate r) None (Some (end_edge h (rank r.a) r)))) [] ++ ws)
    ++ map (ranked_note rank) (cond (b && leads_to_gate r) (note_of Send rank k r ∷ ns) ns))) e
    ∙ f
    ∙ sym (ap (λ b. in_order (map (ranked_edge rank h) (cond b (r ∷ es) es))) e)

written_order : (h : Header) (rank : ℕ → ℕ) (k : ℕ) (rs : List Record) → AllBits rs → AllLow rank
    → in_order (written_all h rank k rs)
    ≡ in_order (map (ranked_edge rank h) (edges_among rs))
written_order h rank k [] bits low = refl
written_order h rank k (r ∷ rs) bits low =
    record_by h rank k r rs (is_edge r) refl (bits r (contains_first r r rs refl)) low
    (written_order h rank (k + 1) rs (λ e i. bits e (contains_rest r e rs i)) low)

-- notes in order are written the same
notes_order : (rank : ℕ → ℕ) (ws ns : List Record)
    → in_order (ws ++ map (ranked_note rank) (in_order ns))
    ≡ in_order (ws ++ map (ranked_note rank) ns)
notes_order rank ws ns =
    let f = ranked_note rank in
    order_append ws (map f (in_order ns)) ∙ records_append [] (map f (in_order ns)) ws
    ∙ ap (λ z. with_records z ws) (map_order f ns)
    ∙ sym (records_append [] (map f ns) ws) ∙ order_append (map f ns) ws

-- What both sweeps write in order are the edges between ranks of the order by (pass, variable).
pub ranks_written : (c : Circuit) (n : ℕ) → IsCircuit c → Nowhere (IsTwice c)
    → Nowhere (IsUndefined c) → AllFound c n → AllBits (list_after c n) → AllLow (known c n)
    → in_order (written_by c.header Send (known c n) (list_after c n)
    ++ map (ranked_note (known c n)) (in_order (notes_by Send (known c n) 0 (list_after c n))))
    ≡ ordered_edges c (found c n)
ranks_written c n is w u all bits low =
    let rank = known c n in
    let rs = list_after c n in
    let ranks : RanksIn c (found c n) rank =
    λ v d. known_if c n v true (defined_found c n v all d) in
    notes_order rank (written_by c.header Send rank rs) (notes_by Send rank 0 rs)
    ∙ written_order c.header rank 0 rs bits low
    ∙ ap (λ es. in_order (map (ranked_edge rank c.header) es)) (list_edges c n)
    ∙ sym (ranks_ordered c (found c n) rank (found_order c n is w u all) (found_unlike c n) ranks)
