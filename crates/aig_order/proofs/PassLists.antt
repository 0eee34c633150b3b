-- A pass over the adjacency list of a circuit, by both of its sweeps.
use Rattle.std.proofs.Common.{◌⊎◌, inl, inr, ◌≡◌, ◌≢◌, ◌+◌, ◌-◌, ◌^◌, ◌<◌, Bool, true, false, cond, List, [], ◌∷◌, ◌++◌, ℕ, zero, suc, sym, ap, ap₂, ◌∙◌, refl, subst, arith, length, map, Contains}
use Rattle.std.proofs.lemmas.List.{append-nil, length-append}
use Rattle.em_record.specs.declared.record.Record.{Record}
use Rattle.em_record.specs.Order.{in_order}
use Rattle.em_weave.specs.Woven.{woven, side_record, lefts, rights}
use Rattle.em_weave.specs.declared.side.Side.{Side}
use Rattle.em_weave.specs.declared.side.Side.TheVariants.{Left, Right}
use Rattle.em_weave.proofs.Laws.{lefts_woven, rights_woven}
use Rattle.aig_defs.specs.declared.circuit.Gate.{Gate}
use Rattle.aig_defs.specs.declared.circuit.Header.{Header}
use Rattle.aig_defs.specs.Chains.{numbered, input_def, latch_def}
use Rattle.aig_defs.specs.Circuit.{Circuit, IsCircuit}
use Rattle.aig_defs.specs.Faults.{IsTwice, IsUndefined, Nowhere}
use Rattle.aig_defs.specs.Founded.{has, sources, first_set, upwards, passed}
use Rattle.aig_defs.specs.Graph.{graph_edges, graph_gates, graph_sources}
use Rattle.aig_defs.specs.Ranks.{first_gate_rank}
use Rattle.aig_defs.proofs.Founding.{from_upwards, same_length}
use Rattle.aig_defs.proofs.ListedRanks.{source_words}
use Rattle.aig_defs.proofs.Members.{has_rest, contains_first, contains_rest, contains_cases, contains_none}
use Rattle.aig_defs.proofs.Unlike.{word_has, from_order}
use Rattle.aig_defs.proofs.Upwards.{gates_unlike, upwards_mount}
use Rattle.aig_order.specs.declared.standing.Sweep.TheVariants.{Recall, Find}
use Rattle.aig_order.specs.Adjacent.{merged_definition, definitions_of}
use Rattle.aig_order.specs.ByPass.{added, found}
use Rattle.aig_order.specs.PassLists.{known, renew, first_list, list_after}
use Rattle.aig_order.specs.Sweeps.{is_edge, at_constant, meet_all}
use Rattle.aig_order.proofs.Adjoining.{AllEdges, renew_again, renew_edge, renew_definition}
use Rattle.aig_order.proofs.Awaited.{gates_in, awaited, all_awaited}
use Rattle.aig_order.proofs.CircuitLists.{graph_plain, list_adjoins, list_gates, list_leads, list_told, notes_all_for, pass_notes}
use Rattle.aig_order.proofs.Finding.{Finding, notes_by, stand, moment, last_variable, finds}
use Rattle.aig_order.proofs.Numbering.{AllKinds, Passing, next_rank, pass_finding}
use Rattle.aig_order.proofs.Orders.{added_count}
use Rattle.aig_order.proofs.Telling.{tells, recall_writes}

-- what a definition's word d says, for each record of a list
abbrev Kind : Circuit → Record → Type 0
Kind c r = ((r.d ≡ 1) × (has (first_set c) r.a ≡ true)) ⊎ (r.d ≡ 2)

abbrev EachKind : Circuit → List Record → Type 0
EachKind c [] = Unit {0}
EachKind c (r ∷ rs) = (is_edge r ≡ false → Kind c r) × EachKind c rs

kind_in : (c : Circuit) (rs : List Record) → EachKind c rs → AllKinds c rs
kind_in c [] k r i e = absurd (contains_none r i)
kind_in c (x ∷ rs) k r i e = elim (contains_cases x r rs i) [
  | inl same ↦ subst (Kind c) same (k.0 (ap is_edge same ∙ e))
  | inr j ↦ kind_in c rs k.1 r j e
]

kind_renew_by : (c : Circuit) (rank : ℕ → ℕ) (r : Record) (b : Bool) → is_edge r ≡ b
    → (is_edge r ≡ false → Kind c r) → is_edge (renew rank r) ≡ false → Kind c (renew rank r)
kind_renew_by c rank r true e k f =
    (let here = ap is_edge (renew_edge rank r e) ∙ e in absurd (cc (here, f)))
kind_renew_by c rank r false e k f =
    subst (Kind c) (sym (renew_definition rank r e)) (k e)

kind_renew : (c : Circuit) (rank : ℕ → ℕ) (rs : List Record) → EachKind c rs
    → EachKind c (map (renew rank) rs)
kind_renew c rank [] k = tt
kind_renew c rank (r ∷ rs) k =
    (kind_renew_by c rank r (is_edge r) refl k.0, kind_renew c rank rs k.1)

-- of two lists as one, by both
kind_sides : (c : Circuit) (ds : List Side) → EachKind c (lefts ds) → EachKind c (rights ds)
    → EachKind c (map side_record ds)
kind_sides c [] a b = tt
kind_sides c (Left x ∷ ds) a b = (a.0, kind_sides c ds a.1 b)
kind_sides c (Right x ∷ ds) a b = (b.0, kind_sides c ds a b.1)

-- edges have none
kind_edges : (c : Circuit) (es : List Record) → ((e : Record) → Contains es e → is_edge e ≡ true)
    → EachKind c es
kind_edges c [] f = tt
kind_edges c (e ∷ es) f = (
  λ n. absurd (let t = f e (contains_first e e es refl) in cc (t, n)),
  kind_edges c es (λ k i. f k (contains_rest e k es i)),
)

-- definitions are those of sources and gates
kind_merged : (c : Circuit) (h : Header) (ds : List Side)
    → ((r : Record) → Contains (lefts ds) r → has (first_set c) r.a ≡ true)
    → EachKind c (map (merged_definition h) ds)
kind_merged c h [] f = tt
kind_merged c h (Left x ∷ ds) f = (
  λ n. inl (refl, f x (contains_first x x (lefts ds) refl)),
  kind_merged c h ds (λ r i. f r (contains_rest x r (lefts ds) i)),
)
kind_merged c h (Right x ∷ ds) f = (λ n. inr refl, kind_merged c h ds f)

edges_in : (es : List Record) → AllEdges es → (e : Record) → Contains es e → is_edge e ≡ true
edges_in [] a e i = absurd (contains_none e i)
edges_in (x ∷ es) a e i = elim (contains_cases x e es i) [
  | inl same ↦ ap is_edge (sym same) ∙ a.0
  | inr j ↦ edges_in es a.1 e j
]

pub list_kinds : (c : Circuit) (n : ℕ) → AllKinds c (list_after c n)
list_kinds c n =
    let ss = graph_sources c in
    let gs = graph_gates c in
    let ds = definitions_of c.header ss gs in
    let es = graph_edges c in
    let text = numbered input_def 0 c.inputs ++ numbered latch_def 0 c.latches in
    let own = kind_merged c c.header (woven ss gs) (λ r i.
    has_rest 0 r.a (sources c) (ap (λ vs. has vs r.a) (sym (source_words c))
    ∙ word_has text r (from_order r text (subst (λ xs. Contains xs r) (lefts_woven ss gs) i)))) in
    kind_in c (list_after c n) (kind_renew c (known c n) (first_list c)
    (kind_sides c (woven ds es) (subst (EachKind c) (sym (lefts_woven ds es)) own)
    (subst (EachKind c) (sym (rights_woven ds es)) (kind_edges c es (edges_in es (graph_plain c))))))

-- the constant has rank 0, and is found
zero_by : (b : Bool) → cond {A = ℕ} b 0 0 ≡ 0
zero_by true = refl
zero_by false = refl

known_zero : (c : Circuit) (n : ℕ) → known c n 0 ≡ 0
known_zero c n = zero_by (has (passed c n) 0)

pub begins_at : (c : Circuit) (n next : ℕ) → at_constant next ≡ stand (known c n) 0 next
begins_at c n next =
    ap (λ (t : ℕ). record { found = true; rank = t; next = next }) (sym (known_zero c n))

-- The first sweep leaves the notes of the edges that don't rise.
pub pass_recalls : (c : Circuit) (n next : ℕ) → IsCircuit c → Nowhere (IsTwice c)
    → Nowhere (IsUndefined c)
    → meet_all c.header Recall 0 (list_after c n) (moment [] (at_constant next) [])
    ≡ moment (in_order (notes_by Recall (known c n) 0 (list_after c n)))
    (stand (known c n) (last_variable 0 (list_after c n)) next) []
pass_recalls c n next is w u =
    let rs = list_after c n in
    ap (λ p. meet_all c.header Recall 0 rs (moment [] p [])) (begins_at c n next)
    ∙ tells c.header Recall (known c n) next refl 0 rs (list_adjoins c n is w u) 0 [] []
    ∙ ap (moment (in_order (notes_by Recall (known c n) 0 rs))
    (stand (known c n) (last_variable 0 rs) next)) (recall_writes c.header (known c n) rs)

-- how many ranks were given after n passes
abbrev pub next_after : Circuit → ℕ → ℕ
next_after c n = first_gate_rank c + length (found c n)

-- The list with the ranks before and after a pass, by what the pass does at each gate.
pub list_finding : (c : Circuit) (n : ℕ) → IsCircuit c → Nowhere (IsTwice c) → Nowhere (IsUndefined c)
    → next_after c (suc n) < 2 ^ 64 - 1
    → Finding (known c n) (known c (suc n)) 0 (next_after c n) (next_after c (suc n)) (list_after c n)
list_finding c n is w u few =
    let rs = list_after c n in
    let passing : Passing c n (upwards c.gates) [] (passed c n) = record {
      is = λ g i. from_upwards g c.gates i;
      mount = upwards_mount c.gates (gates_unlike c w);
      order = refl;
      now = refl;
      same = λ g i. refl;
    } in
    let start : next_rank c n [] ≡ next_after c n =
    ap (λ (z : List Gate). first_gate_rank c + length z) (append-nil (found c n)) in
    subst (λ z. Finding (known c n) (known c (suc n)) 0 z (next_after c (suc n)) rs) start
    (pass_finding c n is w few 0 rs (list_adjoins c n is w u) (upwards c.gates) [] (passed c n)
    passing (list_gates c n w) (list_kinds c n))

-- The second sweep takes them and those of the other edges, and writes the list as it is after the
-- pass, whose gates have the next ranks.
pub pass_finds : (c : Circuit) (n base : ℕ) → IsCircuit c → Nowhere (IsTwice c)
    → Nowhere (IsUndefined c) → next_after c (suc n) < 2 ^ 64 - 1
    → meet_all c.header Find base (list_after c n)
    (moment (in_order (notes_by Recall (known c n) 0 (list_after c n)))
    (at_constant (next_after c n)) [])
    ≡ moment [] (stand (known c (suc n)) (last_variable 0 (list_after c n)) (next_after c (suc n)))
    (list_after c (suc n))
pass_finds c n base is w u few =
    let rs = list_after c n in
    let old = known c n in
    let new = known c (suc n) in
    let notes = notes_by Recall old 0 rs in
    let waits : awaited rs notes ≡ in_order notes =
    all_awaited rs notes (notes_all_for (gates_in rs) Recall old 0 rs (list_leads Recall c n w)) in
    ap₂ (λ i p. meet_all c.header Find base rs (moment i p [])) (sym waits)
    (begins_at c (suc n) (next_after c n))
    ∙ finds old new c.header (pass_notes c n base) 0 (next_after c n) (next_after c (suc n)) rs
    (list_finding c n is w u few) base notes [] refl (list_told c n base is w)
    (list_leads Find c n w)
    ∙ ap (moment [] (stand new (last_variable 0 rs) (next_after c (suc n))))
    (renew_again old new (first_list c))

-- A pass adds a gate exactly if it gives a rank.
pub gives_none : (c : Circuit) (n : ℕ) → next_after c (suc n) ≡ next_after c n
    → passed c (suc n) ≡ passed c n
gives_none c n e =
    let new = added (upwards c.gates) (passed c n) in
    same_length (upwards c.gates) (passed c n)
    (omega (arith, e, length-append (found c n) new, added_count (upwards c.gates) (passed c n)))

pub gives_some : (c : Circuit) (n : ℕ) → next_after c (suc n) ≢ next_after c n
    → 0 < length (added (upwards c.gates) (passed c n))
gives_some c n f =
    let new = added (upwards c.gates) (passed c n) in
    elim (cases_zero (length new)) [
      | inl none ↦ absurd (f (omega (arith, none, length-append (found c n) new)))
      | inr some ↦ some
    ]
  where
    cases_zero : (k : ℕ) → (k ≡ 0) ⊎ (0 < k)
    cases_zero zero = inl refl
    cases_zero (suc k) = inr (omega arith)
