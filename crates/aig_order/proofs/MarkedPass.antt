-- A pass by bits over the list of a circuit gives the list after one pass more, as one by a queue does.
use Rattle.std.proofs.Common.{◌≡◌, ◌≢◌, ◌+◌, ◌≤◌, min, Bool, true, false, cond, eqb, ◌&&◌, not, List, [], ◌∷◌, ◌++◌, ℕ, suc, refl, sym, ap, ap₂, ◌∙◌, arith, length, map, Contains, append_assoc}
use Rattle.std.proofs.lemmas.Bool.{eq-eqb, ne_eqb}
use Rattle.std.proofs.lemmas.List.{append-nil}
use Rattle.std.proofs.lemmas.List.Elements.{All-contains, filter-append}
use Rattle.em_record.specs.declared.record.Record.{Record}
use Rattle.aig_defs.specs.Circuit.{Circuit, IsCircuit, IsGate}
use Rattle.aig_defs.specs.Faults.{IsDefined}
use Rattle.aig_defs.proofs.Members.{contains_first, contains_rest, gate_with}
use Rattle.aig_order.specs.declared.standing.Sweep.TheVariants.{Recall, Find}
use Rattle.aig_order.specs.Marks.{after_marks, bit_note, all_say, mark, mark_all, taken}
use Rattle.aig_order.specs.PassLists.{first_list, known, list_after, renew}
use Rattle.aig_order.specs.Passes.{restarted}
use Rattle.aig_order.specs.Sweeps.{Moment, at_rank, found_rank, is_edge, is_gate, is_told, note, past_gate, with_rank}
use Rattle.aig_order.proofs.Adjoining.{renew_again}
use Rattle.aig_order.proofs.Agreeing.{all_found, found_order}
use Rattle.aig_order.proofs.Awaited.{due}
use Rattle.aig_order.proofs.Both.{both_true}
use Rattle.aig_order.proofs.CircuitLists.{list_adjoins, list_gate, list_told, own_has, pass_notes}
use Rattle.aig_order.proofs.Finding.{Finding, IsTold, edge_is, edge_notes, edges_from, end, edge, source, kept, gained, left, first_definition, first_edge, found_at, gate_is, last_variable, moment, no_due, no_note, note_of, notes_by, notes_step_by, past_gained, past_kept, past_left, rank_kept, rank_open, source_is, stand, stands_at}
use Rattle.aig_order.proofs.ListBounds.{next_few}
use Rattle.aig_order.proofs.PassLists.{begins_at, list_finding, next_after}
use Rattle.aig_order.proofs.Telling.{IsAdjacency}
use Rattle.aig_order.proofs.Telling as telling

-- what a note and others say
told_by : (told : Bool) (m : Record) (ms items : List Record)
    → cond told (items ++ m ∷ []) items ++ ms ≡ items ++ cond told (m ∷ ms) ms
told_by true m ms items = append_assoc items (m ∷ []) ms
told_by false m ms items = refl

-- The first sweep leaves the notes of all edges that don't rise.
pub marks_recall : (last : ℕ) (rank : ℕ → ℕ) (next u : ℕ) (rs : List Record) → IsAdjacency rank u rs
    → (k : ℕ) (items ws : List Record)
    → mark_all last Recall k rs (moment items (stand rank u next) ws)
    ≡ moment (items ++ notes_by Recall rank k rs) (stand rank (last_variable u rs) next) ws
marks_recall last rank next u rs (telling.end v) k items ws =
    ap (λ i. moment i (stand rank u next) ws) (sym (append-nil items))
marks_recall last rank next u rs (telling.edge v e es t a f) k items ws =
    let told = is_told Recall e in
    let own : note Recall (found_at rank u) (rank u) e k ≡ note_of Recall rank k e =
    ap (λ w. note Recall (found_at rank w) (rank w) e k) (sym a) in
    let rest = notes_by Recall rank (k + 1) es in
    let now = cond told (items ++ note_of Recall rank k e ∷ []) items in
    let here : mark last Recall k e (moment items (stand rank u next) ws)
    ≡ moment now (stand rank u next) ws =
    ap (λ b. moment (cond (b && told) (items ++ note Recall (found_at rank u) (rank u) e k ∷ []) items)
    (cond b (stand rank u next) (at_rank e.c next)) ws) t
    ∙ ap (λ m. moment (cond told (items ++ m ∷ []) items) (stand rank u next) ws) own in
    ap (mark_all last Recall (k + 1) es) here
    ∙ marks_recall last rank next u es f (k + 1) now ws
    ∙ ap (λ i. moment i (stand rank (last_variable u es) next) ws)
    (told_by told (note_of Recall rank k e) rest items)
    ∙ sym (ap (λ b. moment (items ++ cond (b && told) (note_of Recall rank k e ∷ rest) rest)
    (stand rank (cond b (last_variable u es) (last_variable e.a es)) next) ws) t)
marks_recall last rank next u rs (telling.definition v r es t l c f) k items ws =
    let told = is_told Recall r in
    let place : at_rank r.c next ≡ stand rank r.a next =
    ap (λ x. at_rank x next) c ∙ stands_at rank r.a next (omega (arith, l)) in
    let rest = notes_by Recall rank (k + 1) es in
    let here : mark last Recall k r (moment items (stand rank u next) ws)
    ≡ moment items (stand rank r.a next) ws =
    ap (λ b. moment (cond (b && told) (items ++ note Recall (found_at rank u) (rank u) r k ∷ []) items)
    (cond b (stand rank u next) (at_rank r.c next)) ws) t
    ∙ ap (λ p. moment items p ws) place in
    ap (mark_all last Recall (k + 1) es) here
    ∙ marks_recall last rank next r.a es f (k + 1) items ws
    ∙ sym (ap (λ b. moment (items ++ cond (b && told) (note_of Recall rank k r ∷ rest) rest)
    (stand rank (cond b (last_variable u es) (last_variable r.a es)) next) ws) t)

-- all notes for a variable say what those say that are due there
heard_by : (own : Bool) (v : ℕ) (m : Record) (ms : List Record) → eqb v m.a ≡ own
    → all_say v ms ≡ all_found (due v ms)
    → (cond own (eqb m.c 1) true && all_say v ms) ≡ all_found (cond own (m ∷ due v ms) (due v ms))
heard_by true v m ms e h = ap (λ b. eqb m.c 1 && b) h
heard_by false v m ms e h = h

heard_due : (v : ℕ) (ms : List Record) → all_say v ms ≡ all_found (due v ms)
heard_due v [] = refl
heard_due v (m ∷ ms) = heard_by (eqb v m.a) v m ms refl (heard_due v ms)

-- all notes of a pass for a gate say whether it is found
told_heard : (rank : ℕ → ℕ) (notes : List Record) (v : ℕ) → IsTold rank notes v
    → all_say v notes ≡ not (eqb (rank v) 0)
told_heard rank notes v t =
    heard_due v notes ∙ sym (found_order (due v notes)) ∙ ap all_found t.are
    ∙ ap (λ b. eqb t.first.c 1 && b) (both_true (eqb t.second.c 1)) ∙ t.both

-- each gate hears so, and has a bit
abbrev pub AllHear : ℕ → (ℕ → ℕ) → List Record → List Record → Type 0
AllHear last rank notes rs = (r : Record) → Contains rs r → is_gate r ≡ true
    → (r.a ≤ last) × (all_say r.a notes ≡ not (eqb (rank r.a) 0))

hear_rest : (last : ℕ) (rank : ℕ → ℕ) (notes : List Record) (r : Record) (rs : List Record)
    → AllHear last rank notes (r ∷ rs) → AllHear last rank notes rs
hear_rest last rank notes r rs f k i g = f k (contains_rest r k rs i) g

-- what a gate has all_say by then is all that it hears
heard_then : (old new : ℕ → ℕ) (n z k : ℕ) (r : Record) (rs notes all : List Record)
    → Finding old new r.a n z rs → all ≡ notes ++ notes_by Find new k rs
    → all_say r.a notes ≡ all_say r.a all
heard_then old new n z k r rs notes all f is =
    let none = no_due new r.a k rs (edges_from old new r.a n z rs f) in
    let same : due r.a all ≡ due r.a notes = ap (due r.a) is
    ∙ filter-append (λ (m : Record). eqb r.a m.a) notes (notes_by Find new k rs)
    ∙ ap (λ z. due r.a notes ++ z) none ∙ append-nil (due r.a notes) in
    heard_due r.a notes ∙ ap all_found (sym same) ∙ sym (heard_due r.a all)

-- the note that it takes says whether it is found
both_said : (b : Bool) → (eqb (bit_note b).c 1 && eqb (bit_note b).c 1) ≡ b
both_said true = refl
both_said false = refl

takes_said : (old new : ℕ → ℕ) (n z k last : ℕ) (r : Record) (rs notes all : List Record)
    → Finding old new r.a n z rs → all ≡ notes ++ notes_by Find new k rs
    → (r.a ≤ last) × (all_say r.a all ≡ not (eqb (new r.a) 0))
    → (eqb (taken last r notes).c 1 && eqb (taken last r notes).c 1) ≡ not (eqb (new r.a) 0)
takes_said old new n z k last r rs notes all f is h =
    let low = h.0 in
    let at : min r.a last ≡ r.a = omega (arith, low) in
    both_said (all_say (min r.a last) notes) ∙ ap (λ v. all_say v notes) at
    ∙ heard_then old new n z k r rs notes all f is ∙ h.1

-- what the second sweep does at a gate, if its rank and the next place are these,
marks_gate : (last k m : ℕ) (rank : ℕ → ℕ) (u n : ℕ) (r : Record) (notes ws : List Record)
    → is_edge r ≡ false → is_gate r ≡ true
    → found_rank n r (taken last r notes) (taken last r notes) ≡ rank r.a
    → past_gate (stand rank u n) r (rank r.a) ≡ stand rank r.a m
    → mark last Find k r (moment notes (stand rank u n) ws)
    ≡ moment notes (stand rank r.a m) (ws ++ with_rank r (rank r.a) ∷ [])
marks_gate last k m rank u n r notes ws e g is past =
    let p = stand rank u n in
    let own = note Find (found_at rank u) (rank u) r k in
    let t = found_rank n r (taken last r notes) (taken last r notes) in
    ap₂ (λ a b. moment (cond (a && is_told Find r) (notes ++ own ∷ []) notes)
    (cond a p (cond b (past_gate p r t) (at_rank r.c n)))
    (ws ++ cond a r (cond b (with_rank r t) r) ∷ [])) e g
    ∙ ap (λ (x : ℕ). moment notes (past_gate p r x) (ws ++ with_rank r x ∷ [])) is
    ∙ ap (λ q. moment notes q (ws ++ with_rank r (rank r.a) ∷ [])) past

-- at another definition,
marks_source : (last k : ℕ) (rank : ℕ → ℕ) (u n : ℕ) (r : Record) (notes ws : List Record)
    → is_edge r ≡ false → is_gate r ≡ false → at_rank r.c n ≡ stand rank r.a n
    → mark last Find k r (moment notes (stand rank u n) ws)
    ≡ moment notes (stand rank r.a n) (ws ++ r ∷ [])
marks_source last k rank u n r notes ws e g place =
    let p = stand rank u n in
    let own = note Find (found_at rank u) (rank u) r k in
    let t = found_rank n r (taken last r notes) (taken last r notes) in
    ap₂ (λ a b. moment (cond (a && is_told Find r) (notes ++ own ∷ []) notes)
    (cond a p (cond b (past_gate p r t) (at_rank r.c n)))
    (ws ++ cond a r (cond b (with_rank r t) r) ∷ [])) e g
    ∙ ap (λ q. moment notes q (ws ++ r ∷ [])) place

-- and at an edge.
marks_edge : (last k : ℕ) (rank : ℕ → ℕ) (u n : ℕ) (e : Record) (notes ws : List Record)
    → is_edge e ≡ true → e.a ≡ u
    → mark last Find k e (moment notes (stand rank u n) ws)
    ≡ moment (notes ++ cond (is_told Find e) (note_of Find rank k e ∷ []) []) (stand rank u n)
    (ws ++ e ∷ [])
marks_edge last k rank u n e notes ws t a =
    let p = stand rank u n in
    let told = is_told Find e in
    let own : note Find (found_at rank u) (rank u) e k ≡ note_of Find rank k e =
    ap (λ w. note Find (found_at rank w) (rank w) e k) (sym a) in
    let x = found_rank n e (taken last e notes) (taken last e notes) in
    ap (λ b. moment (cond (b && told) (notes ++ note Find (found_at rank u) (rank u) e k ∷ []) notes)
    (cond b p (cond (is_gate e) (past_gate p e x) (at_rank e.c n)))
    (ws ++ cond b e (cond (is_gate e) (with_rank e x) e) ∷ [])) t
    ∙ ap (λ m. moment (cond told (notes ++ m ∷ []) notes) p (ws ++ e ∷ [])) own
    ∙ ap (λ i. moment i p (ws ++ e ∷ [])) (some_by told (note_of Find rank k e))
  where
    some_by : (b : Bool) (m : Record)
        → cond b (notes ++ m ∷ []) notes ≡ notes ++ cond b (m ∷ []) []
    some_by true m = refl
    some_by false m = sym (append-nil notes)

-- the end of the sweep, with these notes
ends_as : {w v : Moment} (all : List Record) → w ≡ v
    → moment all w.standing w.written ≡ moment all v.standing v.written
ends_as all e = ap (λ (m : Moment). moment all m.standing m.written) e

-- The second sweep gives each gate its new rank, and writes the list with these, if `all` are the notes that were
-- told before and those that it tells itself.
pub marks_find : (last : ℕ) (old new : ℕ → ℕ) (all : List Record) (u n z : ℕ) (rs : List Record)
    → Finding old new u n z rs → (k : ℕ) (notes ws : List Record)
    → all ≡ notes ++ notes_by Find new k rs → AllHear last new all rs
    → mark_all last Find k rs (moment notes (stand new u n) ws)
    ≡ moment all (stand new (last_variable u rs) z) (ws ++ map (renew new) rs)
marks_find last old new all u n z rs (end u1 n1) k notes ws is hear =
    ap₂ (λ i w. moment i (stand new u n) w) (sym (is ∙ append-nil notes)) (sym (append-nil ws))
marks_find last old new all u n z rs (edge u1 n1 z1 e es d a f) k notes ws is hear =
    let t = (edge_is e d).0 in
    let more = notes ++ cond (is_told Find e) (note_of Find new k e ∷ []) [] in
    let same : all ≡ more ++ notes_by Find new (k + 1) es =
    is ∙ ap (λ x. notes ++ x) (edge_notes new k e es t)
    ∙ notes_step_by new e es notes k (is_told Find e) in
    ap (mark_all last Find (k + 1) es) (marks_edge last k new u n e notes ws t a)
    ∙ marks_find last old new all u n z es f (k + 1) more (ws ++ e ∷ []) same (hear_rest last new all e es hear)
    ∙ ends_as all (first_edge new u z e es ws t)
marks_find last old new all u n z rs (source u1 n1 z1 r es d l c f) k notes ws is hear =
    let t = (source_is r d).0 in
    let g = (source_is r d).1 in
    let own : r ≡ with_rank r (new r.a) =
    ap (λ (x : ℕ). record { a = r.a; b = r.b; c = x; d = r.d }) c in
    let same : all ≡ notes ++ notes_by Find new (k + 1) es =
    is ∙ ap (λ x. notes ++ x) (no_note new k r es t) in
    let place : at_rank r.c n ≡ stand new r.a n =
    ap (λ x. at_rank x n) c ∙ stands_at new r.a n (omega (arith, l)) in
    ap (mark_all last Find (k + 1) es)
    (marks_source last k new u n r notes ws t g place
    ∙ ap (λ x. moment notes (stand new r.a n) (ws ++ x ∷ [])) own)
    ∙ marks_find last old new all r.a n z es f (k + 1) notes (ws ++ with_rank r (new r.a) ∷ []) same
    (hear_rest last new all r es hear)
    ∙ ends_as all (first_definition new u z r es ws t)
marks_find last old new all u n z rs (kept u1 n1 z1 r es d l c s f) k notes ws is hear =
    let t = (gate_is r d).0 in
    let g = (gate_is r d).1 in
    let same : all ≡ notes ++ notes_by Find new (k + 1) es =
    is ∙ ap (λ x. notes ++ x) (no_note new k r es t) in
    ap (mark_all last Find (k + 1) es)
    (marks_gate last k n new u n r notes ws t g
    (rank_kept n r (taken last r notes) (taken last r notes) s ∙ c)
    (past_kept new u n r (omega (arith, l)) s))
    ∙ marks_find last old new all r.a n z es f (k + 1) notes (ws ++ with_rank r (new r.a) ∷ []) same
    (hear_rest last new all r es hear)
    ∙ ends_as all (first_definition new u z r es ws t)
marks_find last old new all u n z rs (gained u1 n1 z1 r es d l c w s b f) k notes ws is hear =
    let t = (gate_is r d).0 in
    let g = (gate_is r d).1 in
    let same : all ≡ notes ++ notes_by Find new (k + 1) es =
    is ∙ ap (λ x. notes ++ x) (no_note new k r es t) in
    let some : new r.a ≢ 0 = omega (arith, w, s) in
    let says = takes_said old new (n + 1) z (k + 1) last r es notes all f same
    (hear r (contains_first r r es refl) g) ∙ ap not (ne_eqb (new r.a) 0 some) in
    ap (mark_all last Find (k + 1) es)
    (marks_gate last k (n + 1) new u n r notes ws t g
    (rank_open n r (taken last r notes) (taken last r notes) true c says ∙ sym w)
    (past_gained new u n r (omega (arith, l)) c some b))
    ∙ marks_find last old new all r.a (n + 1) z es f (k + 1) notes
    (ws ++ with_rank r (new r.a) ∷ []) same (hear_rest last new all r es hear)
    ∙ ends_as all (first_definition new u z r es ws t)
marks_find last old new all u n z rs (left u1 n1 z1 r es d l c w f) k notes ws is hear =
    let t = (gate_is r d).0 in
    let g = (gate_is r d).1 in
    let same : all ≡ notes ++ notes_by Find new (k + 1) es =
    is ∙ ap (λ x. notes ++ x) (no_note new k r es t) in
    let says = takes_said old new n z (k + 1) last r es notes all f same
    (hear r (contains_first r r es refl) g) ∙ ap not (eq-eqb (new r.a) 0 w) in
    ap (mark_all last Find (k + 1) es)
    (marks_gate last k n new u n r notes ws t g
    (rank_open n r (taken last r notes) (taken last r notes) false c says ∙ sym w)
    (past_left new u n r (omega (arith, l)) c w))
    ∙ marks_find last old new all r.a n z es f (k + 1) notes (ws ++ with_rank r (new r.a) ∷ []) same
    (hear_rest last new all r es hear)
    ∙ ends_as all (first_definition new u z r es ws t)

-- Each gate of a circuit has a bit, and hears whether the pass finds it.
list_hears : (c : Circuit) (n base : ℕ) → IsCircuit c → IsDefined c
    → AllHear c.header.max (known c (suc n)) (pass_notes c n base) (list_after c n)
list_hears c n base is defined r i g =
    let own = list_gate c n defined.twice r.a (own_has (list_after c n) r i g) in
    let gate = gate_with c.gates r.a own in
    let high = (All-contains (IsGate c.header) c.gates gate.gate is.gates gate.is).lhs.high in
    let at = gate.variable in (
      omega (arith, high, at),
      told_heard (known c (suc n)) (pass_notes c n base) r.a (list_told c n base is defined.twice r i g),
    )

-- Both sweeps by bits take the list after n passes to that after one more.
pub marks_is : (c : Circuit) (n : ℕ) → IsCircuit c → IsDefined c
    → after_marks c.header.max (next_after c n) (list_after c n)
    ≡ moment (pass_notes c n (length (list_after c n)))
    (stand (known c (suc n)) (last_variable 0 (list_after c n)) (next_after c (suc n)))
    (list_after c (suc n))
marks_is c n is defined =
    let rs = list_after c n in
    let last = c.header.max in
    let next = next_after c n in
    let old = known c n in
    let new = known c (suc n) in
    let base = length rs in
    let few = next_few c (suc n) is in
    let finding = list_finding c n is defined.twice defined.undefined (omega (arith, few)) in
    ap (λ p. mark_all last Find base rs (restarted next (mark_all last Recall 0 rs (moment [] p []))))
    (begins_at c n next)
    ∙ ap (λ (m : Moment). mark_all last Find base rs (restarted next m))
    (marks_recall last old next 0 rs (list_adjoins c n is defined.twice defined.undefined) 0 [] [])
    ∙ ap (λ p. mark_all last Find base rs (moment (notes_by Recall old 0 rs) p []))
    (begins_at c (suc n) next)
    ∙ marks_find last old new (pass_notes c n base) 0 next (next_after c (suc n)) rs finding base
    (notes_by Recall old 0 rs) [] refl (list_hears c n base is defined)
    ∙ ap (moment (pass_notes c n base) (stand new (last_variable 0 rs) (next_after c (suc n))))
    (renew_again old new (first_list c))
