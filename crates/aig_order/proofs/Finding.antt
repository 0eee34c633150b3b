-- The second sweep of a pass: gates take notes, by which the list is written with the ranks of the gates
-- that the pass finds.
use Rattle.std.proofs.Common.{inl, inr, ◌≡◌, ◌≢◌, ◌+◌, ◌-◌, ◌^◌, ◌<◌, ◌≤◌, ◌/◌, Bool, true, false, cond, eqb, ◌==◌, ◌&&◌, ◌||◌, not, if◌then◌else◌, List, [], ◌∷◌, ◌++◌, ℕ, min, sym, ap, ap₂, ◌∙◌, refl, arith, map, drop, get_or, Contains, append_assoc}
use Rattle.std.proofs.lemmas.Bool.{eq-eqb, ne_eqb, ltb-true}
use Rattle.std.proofs.lemmas.List.{append-nil}
use Rattle.std.proofs.lemmas.List.Elements.{filter-append}
use Rattle.em_record.specs.declared.record.Record.{Record}
use Rattle.em_record.specs.Order.{with_record, in_order}
use Rattle.em_frames.specs.Device.{zero_record}
use Rattle.aig_defs.specs.declared.circuit.Header.{Header}
use Rattle.aig_defs.specs.Founded.{has}
use Rattle.aig_defs.proofs.Members.{has_cases, contains_first, contains_rest, contains_cases, contains_none}
use Rattle.aig_order.specs.declared.standing.Standing.{Standing}
use Rattle.aig_order.specs.declared.standing.Sweep.{Sweep}
use Rattle.aig_order.specs.declared.standing.Sweep.TheVariants.{Find}
use Rattle.aig_order.specs.PassLists.{renew}
use Rattle.aig_order.specs.Sweeps.{Moment, is_edge, is_gate, is_told, leads_to_gate, rises, note, at_rank, found_rank, past_gate, with_rank, takes_notes, meet, meet_edge, meet_gate, meet_definition, meet_all}
use Rattle.aig_order.proofs.Awaited.{gates_in, due, awaited, awaited_gate, awaited_other, none_awaited, note_joins, IsUnder}
use Rattle.aig_order.proofs.Both.{first_holds, second_holds}

-- whether a variable is found, if `rank` gives the ranks of those that are
abbrev pub found_at : (ℕ → ℕ) → ℕ → Bool
found_at rank v = v == 0 || not (rank v == 0)

-- the notes of the edges in a list, of which the first record has this number
abbrev pub note_of : Sweep → (ℕ → ℕ) → ℕ → Record → Record
note_of sweep rank n e = note sweep (found_at rank e.a) (rank e.a) e n

abbrev pub notes_by : Sweep → (ℕ → ℕ) → ℕ → List Record → List Record
notes_by sweep rank n [] = []
notes_by sweep rank n (r ∷ rs) =
    if is_edge r && is_told sweep r then note_of sweep rank n r ∷ notes_by sweep rank (n + 1) rs
    else notes_by sweep rank (n + 1) rs

-- after the definition of a variable
abbrev pub stand : (ℕ → ℕ) → ℕ → ℕ → Standing
stand rank v next = record { found = found_at rank v; rank = rank v; next = next }

abbrev pub moment : List Record → Standing → List Record → Moment
moment items standing written =
    record { items = items; standing = standing; written = written }

-- the variable that is defined last, if this one was before
abbrev pub last_variable : ℕ → List Record → ℕ
last_variable u [] = u
last_variable u (r ∷ rs) = if is_edge r then last_variable u rs else last_variable r.a rs

-- An adjacency list after the definition of a variable, with the ranks before a pass (`old`) and after it
-- (`new`): a gate that the pass finds has the next rank.
pub data Finding (old new : ℕ → ℕ) : ℕ → ℕ → ℕ → List Record → Type 0 where
  end : (u n : ℕ) → Finding old new u n n []
  edge :
      (u n z : ℕ) (e : Record) (rs : List Record) → e.d ≡ 0 → e.a ≡ u → Finding old new u n z rs
      → Finding old new u n z (e ∷ rs)
  source :
      (u n z : ℕ) (r : Record) (rs : List Record) → r.d ≡ 1 → u < r.a → r.c ≡ new r.a
      → Finding old new r.a n z rs → Finding old new u n z (r ∷ rs)
  kept :
      (u n z : ℕ) (r : Record) (rs : List Record) → r.d ≡ 2 → u < r.a → r.c ≡ new r.a → r.c ≢ 0
      → Finding old new r.a n z rs → Finding old new u n z (r ∷ rs)
  gained :
      (u n z : ℕ) (r : Record) (rs : List Record) → r.d ≡ 2 → u < r.a → r.c ≡ 0 → new r.a ≡ n
      → 0 < n → n < 2 ^ 64 - 1 → Finding old new r.a (n + 1) z rs
      → Finding old new u n z (r ∷ rs)
  left :
      (u n z : ℕ) (r : Record) (rs : List Record) → r.d ≡ 2 → u < r.a → r.c ≡ 0 → new r.a ≡ 0
      → Finding old new r.a n z rs → Finding old new u n z (r ∷ rs)

-- the two notes of a gate, which say whether it is found
pub record IsTold (rank : ℕ → ℕ) (notes : List Record) (v : ℕ) : Type 0 where
  pub first : Record
  pub second : Record
  pub are : in_order (due v notes) ≡ first ∷ second ∷ []
  pub both : (first.c == 1 && second.c == 1) ≡ not (rank v == 0)

abbrev pub AllTold : (ℕ → ℕ) → List Record → List Record → Type 0
AllTold rank notes rs = (r : Record) → Contains rs r → is_gate r ≡ true → IsTold rank notes r.a

-- the gates that notes are for are still to come
abbrev pub AllLead : Sweep → List Record → Type 0
AllLead sweep rs = (e : Record) → Contains rs e → is_edge e ≡ true → is_told sweep e ≡ true
    → has (gates_in rs) (e.b / 4) ≡ true

-- what a record's word d says
pub edge_is : (r : Record) → r.d ≡ 0 → (is_edge r ≡ true) × (is_gate r ≡ false)
edge_is r e = (
  eq-eqb r.d 0 e,
  ap (λ b. not b && not (eqb r.d 1)) (eq-eqb r.d 0 e),
)

pub source_is : (r : Record) → r.d ≡ 1 → (is_edge r ≡ false) × (is_gate r ≡ false)
source_is r e =
    let none : is_edge r ≡ false = ne_eqb r.d 0 (omega (arith, e)) in (
      none,
      ap (λ b. not b && not (eqb r.d 1)) none ∙ ap not (eq-eqb r.d 1 e),
    )

pub gate_is : (r : Record) → r.d ≡ 2 → (is_edge r ≡ false) × (is_gate r ≡ true)
gate_is r e =
    let none : is_edge r ≡ false = ne_eqb r.d 0 (omega (arith, e)) in (
      none,
      ap (λ b. not b && not (eqb r.d 1)) none ∙ ap not (ne_eqb r.d 1 (omega (arith, e))),
    )

-- what a sweep does, by what a record is
pub at_edge : (h : Header) (sweep : Sweep) (n : ℕ) (r : Record) (m : Moment) → is_edge r ≡ true
    → meet h sweep n r m ≡ meet_edge h sweep n r m
at_edge h sweep n r m e =
    ap (λ b. cond b (meet_edge h sweep n r m)
    (cond (takes_notes sweep r)
    (meet_gate sweep r (get_or m.items 0 zero_record) (get_or m.items 1 zero_record) m)
    (meet_definition sweep r m))) e

pub at_gate : (h : Header) (sweep : Sweep) (n : ℕ) (r : Record) (m : Moment) → is_edge r ≡ false
    → takes_notes sweep r ≡ true
    → meet h sweep n r m
    ≡ meet_gate sweep r (get_or m.items 0 zero_record) (get_or m.items 1 zero_record) m
at_gate h sweep n r m e t =
    ap (λ b. cond b (meet_edge h sweep n r m)
    (cond (takes_notes sweep r)
    (meet_gate sweep r (get_or m.items 0 zero_record) (get_or m.items 1 zero_record) m)
    (meet_definition sweep r m))) e
    ∙ ap (λ b. cond b
    (meet_gate sweep r (get_or m.items 0 zero_record) (get_or m.items 1 zero_record) m)
    (meet_definition sweep r m)) t

pub at_definition : (h : Header) (sweep : Sweep) (n : ℕ) (r : Record) (m : Moment)
    → is_edge r ≡ false → takes_notes sweep r ≡ false
    → meet h sweep n r m ≡ meet_definition sweep r m
at_definition h sweep n r m e t =
    ap (λ b. cond b (meet_edge h sweep n r m)
    (cond (takes_notes sweep r)
    (meet_gate sweep r (get_or m.items 0 zero_record) (get_or m.items 1 zero_record) m)
    (meet_definition sweep r m))) e
    ∙ ap (λ b. cond b
    (meet_gate sweep r (get_or m.items 0 zero_record) (get_or m.items 1 zero_record) m)
    (meet_definition sweep r m)) t

-- at a definition the variable is the definition's
pub stands_at : (rank : ℕ → ℕ) (v next : ℕ) → 0 < v → at_rank (rank v) next ≡ stand rank v next
stands_at rank v next some =
    ap (λ (b : Bool). record { found = b || not (eqb (rank v) 0); rank = rank v; next = next })
    (sym (ne_eqb v 0 (omega (arith, some))))

-- sources of edges don't fall, and gates rise
pub edges_from : (old new : ℕ → ℕ) (u n z : ℕ) (rs : List Record) → Finding old new u n z rs
    → (e : Record) → Contains rs e → is_edge e ≡ true → u ≤ e.a
edges_from old new u n z rs (end u1 n1) e i t = absurd (contains_none e i)
edges_from old new u n z rs (edge u1 n1 z1 k ks d a f) e i t = elim (contains_cases k e ks i) [
  | inl same ↦ omega (arith, a, ap (λ (x : Record). x.a) same)
  | inr j ↦ edges_from old new u n z ks f e j t
]
edges_from old new u n z rs (source u1 n1 z1 k ks d l c f) e i t = elim (contains_cases k e ks i) [
  | inl same ↦ (let none = (source_is k d).0 in
      let here = ap is_edge same ∙ t in cc)
  | inr j ↦ omega (arith, l, edges_from old new k.a n z ks f e j t)
]
edges_from old new u n z rs (kept u1 n1 z1 k ks d l c s f) e i t = elim (contains_cases k e ks i) [
  | inl same ↦ (let none = (gate_is k d).0 in
      let here = ap is_edge same ∙ t in cc)
  | inr j ↦ omega (arith, l, edges_from old new k.a n z ks f e j t)
]
edges_from old new u n z rs (gained u1 n1 z1 k ks d l c w s b f) e i t =
    elim (contains_cases k e ks i) [
      | inl same ↦ (let none = (gate_is k d).0 in
          let here = ap is_edge same ∙ t in cc)
      | inr j ↦ omega (arith, l, edges_from old new k.a (n + 1) z ks f e j t)
    ]
edges_from old new u n z rs (left u1 n1 z1 k ks d l c w f) e i t =
    elim (contains_cases k e ks i) [
      | inl same ↦ (let none = (gate_is k d).0 in
          let here = ap is_edge same ∙ t in cc)
      | inr j ↦ omega (arith, l, edges_from old new k.a n z ks f e j t)
    ]

pub other_gates : (r : Record) (rs : List Record) → is_gate r ≡ false → gates_in (r ∷ rs) ≡ gates_in rs
other_gates r rs e = ap (λ b. cond b (r.a ∷ gates_in rs) (gates_in rs)) e

pub own_gates : (r : Record) (rs : List Record) → is_gate r ≡ true
    → gates_in (r ∷ rs) ≡ r.a ∷ gates_in rs
own_gates r rs e = ap (λ b. cond b (r.a ∷ gates_in rs) (gates_in rs)) e

under_rest : (u : ℕ) (r : Record) (rs : List Record) → is_gate r ≡ true → u < r.a
    → IsUnder r.a (gates_in rs) → IsUnder u (gates_in (r ∷ rs))
under_rest u r rs g l f v h =
    elim (has_cases r.a v (gates_in rs) (ap (λ z. has z v) (sym (own_gates r rs g)) ∙ h)) [
      | inl same ↦ omega (arith, l, same)
      | inr rest ↦ (let low = f v rest in omega (arith, l, low))
    ]

pub gates_over : (old new : ℕ → ℕ) (u n z : ℕ) (rs : List Record) → Finding old new u n z rs
    → IsUnder u (gates_in rs)
gates_over old new u n z rs (end u1 n1) v h = cc
gates_over old new u n z rs (edge u1 n1 z1 k ks d a f) v h =
    gates_over old new u n z ks f v
    (ap (λ x. has x v) (sym (other_gates k ks (edge_is k d).1)) ∙ h)
gates_over old new u n z rs (source u1 n1 z1 k ks d l c f) v h =
    let low = gates_over old new k.a n z ks f v
    (ap (λ x. has x v) (sym (other_gates k ks (source_is k d).1)) ∙ h) in
    omega (arith, l, low)
gates_over old new u n z rs (kept u1 n1 z1 k ks d l c s f) v h =
    under_rest u k ks (gate_is k d).1 l (gates_over old new k.a n z ks f) v h
gates_over old new u n z rs (gained u1 n1 z1 k ks d l c w s b f) v h =
    under_rest u k ks (gate_is k d).1 l (gates_over old new k.a (n + 1) z ks f) v h
gates_over old new u n z rs (left u1 n1 z1 k ks d l c w f) v h =
    under_rest u k ks (gate_is k d).1 l (gates_over old new k.a n z ks f) v h

-- an edge that rises from a variable that isn't less has no note for it
no_due_by : (rank : ℕ → ℕ) (v n : ℕ) (e : Record) (rs : List Record) (told : Bool)
    → (is_edge e && is_told Find e) ≡ told → (is_edge e ≡ true → v ≤ e.a)
    → due v (notes_by Find rank (n + 1) rs) ≡ []
    → due v (cond told (note_of Find rank n e ∷ notes_by Find rank (n + 1) rs)
    (notes_by Find rank (n + 1) rs)) ≡ []
no_due_by rank v n e rs false t f h = h
no_due_by rank v n e rs true t f h =
    let low = f (first_holds (is_edge e) (is_told Find e) t) in
    let up = ltb-true e.a (e.b / 4)
    (second_holds (leads_to_gate e) (rises e) (second_holds (is_edge e) (is_told Find e) t)) in
    let other : eqb v (e.b / 4) ≡ false = ne_eqb v (e.b / 4) (omega (arith, low, up)) in
    ap (λ b. cond b (note_of Find rank n e ∷ due v (notes_by Find rank (n + 1) rs))
    (due v (notes_by Find rank (n + 1) rs))) other ∙ h

pub no_due : (rank : ℕ → ℕ) (v n : ℕ) (rs : List Record)
    → ((e : Record) → Contains rs e → is_edge e ≡ true → v ≤ e.a)
    → due v (notes_by Find rank n rs) ≡ []
no_due rank v n [] f = refl
no_due rank v n (e ∷ rs) f =
    no_due_by rank v n e rs (is_edge e && is_told Find e) refl (f e (contains_first e e rs refl))
    (no_due rank v (n + 1) rs (λ k i. f k (contains_rest e k rs i)))

-- one step of the sweep at each kind of record, if `notes` are those that were sent so far
edge_step_by : (rank : ℕ → ℕ) (e : Record) (rs notes : List Record) (n : ℕ) (b : Bool)
    → (b ≡ true → has (gates_in rs) (e.b / 4) ≡ true)
    → cond b (with_record (note_of Find rank n e) (awaited rs notes)) (awaited rs notes)
    ≡ awaited rs (notes ++ cond b (note_of Find rank n e ∷ []) [])
edge_step_by rank e rs notes n true f = note_joins (note_of Find rank n e) rs notes (f refl)
edge_step_by rank e rs notes n false f = ap (awaited rs) (sym (append-nil notes))

pub notes_step_by : (rank : ℕ → ℕ) (e : Record) (rs notes : List Record) (n : ℕ) (b : Bool)
    → notes ++ cond b (note_of Find rank n e ∷ notes_by Find rank (n + 1) rs)
    (notes_by Find rank (n + 1) rs)
    ≡ (notes ++ cond b (note_of Find rank n e ∷ []) []) ++ notes_by Find rank (n + 1) rs
notes_step_by rank e rs notes n true =
    sym (append_assoc notes (note_of Find rank n e ∷ []) (notes_by Find rank (n + 1) rs))
notes_step_by rank e rs notes n false =
    ap (λ z. z ++ notes_by Find rank (n + 1) rs) (sym (append-nil notes))

-- what the sweep has written after a record and those after it
written_step : (x : Record) (xs ws : List Record) → (ws ++ x ∷ []) ++ xs ≡ ws ++ x ∷ xs
written_step x xs ws = append_assoc ws (x ∷ []) xs

-- the gates for which notes come later are still to come after this one
lead_rest : (u n z : ℕ) (old new : ℕ → ℕ) (r : Record) (rs : List Record)
    → Finding old new r.a n z rs → is_gate r ≡ true → AllLead Find (r ∷ rs) → AllLead Find rs
lead_rest u n z old new r rs f g a e i t w =
    let low = edges_from old new r.a n z rs f e i t in
    let up = ltb-true e.a (e.b / 4) (second_holds (leads_to_gate e) (rises e) w) in
    elim (has_cases r.a (e.b / 4) (gates_in rs)
    (ap (λ x. has x (e.b / 4)) (sym (own_gates r rs g)) ∙ a e (contains_rest r e rs i) t w)) [
      | inl same ↦ absurd (omega (arith, low, up, same))
      | inr rest ↦ rest
    ]

lead_other : (r : Record) (rs : List Record) → is_gate r ≡ false → AllLead Find (r ∷ rs)
    → AllLead Find rs
lead_other r rs g a e i t w =
    ap (λ x. has x (e.b / 4)) (sym (other_gates r rs g)) ∙ a e (contains_rest r e rs i) t w

-- the items that a gate takes
pub record Takes (items rest : List Record) (rank : ℕ → ℕ) (v : ℕ) : Type 0 where
  pub both : ((get_or items 0 zero_record).c == 1 && (get_or items 1 zero_record).c == 1)
      ≡ not (rank v == 0)
  pub left : drop 2 items ≡ rest

takes_pair : (items rest : List Record) (rank : ℕ → ℕ) (v : ℕ) (x y : Record)
    → items ≡ (x ∷ y ∷ []) ++ rest → (x.c == 1 && y.c == 1) ≡ not (rank v == 0)
    → Takes items rest rank v
takes_pair items rest rank v x y e b = record {
  both = ap (λ (z : List Record). eqb (get_or z 0 zero_record).c 1
      && eqb (get_or z 1 zero_record).c 1) e ∙ b;
  left = ap (drop 2) e;
}

gate_takes : (u n z k : ℕ) (old new : ℕ → ℕ) (r : Record) (rs notes all : List Record)
    → Finding old new r.a n z rs → is_gate r ≡ true → all ≡ notes ++ notes_by Find new k rs
    → IsTold new all r.a
    → Takes (awaited (r ∷ rs) notes) (awaited rs notes) new r.a
gate_takes u n z k old new r rs notes all f g e told =
    let none = no_due new r.a k rs (edges_from old new r.a n z rs f) in
    let same : due r.a all ≡ due r.a notes = ap (due r.a) e
    ∙ filter-append (λ (m : Record). eqb r.a m.a) notes (notes_by Find new k rs)
    ∙ ap (λ z. due r.a notes ++ z) none ∙ append-nil (due r.a notes) in
    takes_pair (awaited (r ∷ rs) notes) (awaited rs notes) new r.a told.first told.second
    (awaited_gate r rs notes g (gates_over old new r.a n z rs f)
    ∙ ap (λ z. z ++ awaited rs notes) (ap in_order (sym same) ∙ told.are)) told.both

-- the rank of a gate by its notes
pub rank_kept : (n : ℕ) (r x y : Record) → r.c ≢ 0 → found_rank n r x y ≡ r.c
rank_kept n r x y s = ap (λ b. cond b (cond (eqb x.c 1 && eqb y.c 1) n 0) r.c) (ne_eqb r.c 0 s)

pub rank_open : (n : ℕ) (r x y : Record) (b : Bool) → r.c ≡ 0 → (x.c == 1 && y.c == 1) ≡ b
    → found_rank n r x y ≡ cond b n 0
rank_open n r x y b e both =
    ap (λ t. cond t (cond (eqb x.c 1 && eqb y.c 1) n 0) r.c) (eq-eqb r.c 0 e)
    ∙ ap (λ t. cond t n 0) both

-- where the sweep stands after it
pub past_kept : (rank : ℕ → ℕ) (u n : ℕ) (r : Record) → 0 < r.a → r.c ≢ 0
    → past_gate (stand rank u n) r (rank r.a) ≡ stand rank r.a n
past_kept rank u n r some s =
    ap (λ b. at_rank (rank r.a) (cond (b && not (eqb (rank r.a) 0)) (min (n + 1) (2 ^ 64 - 1)) n))
    (ne_eqb r.c 0 s)
    ∙ stands_at rank r.a n some

pub past_left : (rank : ℕ → ℕ) (u n : ℕ) (r : Record) → 0 < r.a → r.c ≡ 0 → rank r.a ≡ 0
    → past_gate (stand rank u n) r (rank r.a) ≡ stand rank r.a n
past_left rank u n r some e w =
    ap (λ b. at_rank (rank r.a) (cond (b && not (eqb (rank r.a) 0)) (min (n + 1) (2 ^ 64 - 1)) n))
    (eq-eqb r.c 0 e)
    ∙ ap (λ b. at_rank (rank r.a) (cond (not b) (min (n + 1) (2 ^ 64 - 1)) n)) (eq-eqb (rank r.a) 0 w)
    ∙ stands_at rank r.a n some

least_next : (n : ℕ) → n < 2 ^ 64 - 1 → min (n + 1) (2 ^ 64 - 1) ≡ n + 1
least_next n b = omega (arith, b)

pub past_gained : (rank : ℕ → ℕ) (u n : ℕ) (r : Record) → 0 < r.a → r.c ≡ 0 → rank r.a ≢ 0
    → n < 2 ^ 64 - 1 → past_gate (stand rank u n) r (rank r.a) ≡ stand rank r.a (n + 1)
past_gained rank u n r some e w b =
    ap (λ t. at_rank (rank r.a) (cond (t && not (eqb (rank r.a) 0)) (min (n + 1) (2 ^ 64 - 1)) n))
    (eq-eqb r.c 0 e)
    ∙ ap (λ t. at_rank (rank r.a) (cond (not t) (min (n + 1) (2 ^ 64 - 1)) n)) (ne_eqb (rank r.a) 0 w)
    ∙ ap (at_rank (rank r.a)) (least_next n b)
    ∙ stands_at rank r.a (n + 1) some

-- what a gate does, if its rank and the next place are these
gate_step : (h : Header) (k m : ℕ) (rank : ℕ → ℕ) (p : Standing) (r : Record)
    (items rest ws : List Record) → is_edge r ≡ false → is_gate r ≡ true
    → Takes items rest rank r.a
    → found_rank p.next r (get_or items 0 zero_record) (get_or items 1 zero_record) ≡ rank r.a
    → past_gate p r (rank r.a) ≡ stand rank r.a m
    → meet h Find k r (moment items p ws)
    ≡ moment rest (stand rank r.a m) (ws ++ with_rank r (rank r.a) ∷ [])
gate_step h k m rank p r items rest ws e g takes is past =
    at_gate h Find k r (moment items p ws) e g
    ∙ ap (λ (t : ℕ). moment (drop 2 items) (past_gate p r t) (ws ++ with_rank r t ∷ [])) is
    ∙ ap₂ (λ i q. moment i q (ws ++ with_rank r (rank r.a) ∷ [])) takes.left past

-- the end of the sweep, after a first record
pub first_edge : (rank : ℕ → ℕ) (u z : ℕ) (e : Record) (rs ws : List Record) → is_edge e ≡ true
    → moment [] (stand rank (last_variable u rs) z) ((ws ++ e ∷ []) ++ map (renew rank) rs)
    ≡ moment [] (stand rank (last_variable u (e ∷ rs)) z) (ws ++ map (renew rank) (e ∷ rs))
first_edge rank u z e rs ws t =
    ap (λ w. moment [] (stand rank (last_variable u rs) z) w)
    (written_step e (map (renew rank) rs) ws)
    ∙ sym (ap (λ b. moment [] (stand rank (cond b (last_variable u rs) (last_variable e.a rs)) z)
    (ws ++ cond b e (with_rank e (rank e.a)) ∷ map (renew rank) rs)) t)

pub first_definition : (rank : ℕ → ℕ) (u z : ℕ) (r : Record) (rs ws : List Record) → is_edge r ≡ false
    → moment [] (stand rank (last_variable r.a rs) z)
    ((ws ++ with_rank r (rank r.a) ∷ []) ++ map (renew rank) rs)
    ≡ moment [] (stand rank (last_variable u (r ∷ rs)) z) (ws ++ map (renew rank) (r ∷ rs))
first_definition rank u z r rs ws t =
    ap (λ w. moment [] (stand rank (last_variable r.a rs) z) w)
    (written_step (with_rank r (rank r.a)) (map (renew rank) rs) ws)
    ∙ sym (ap (λ b. moment [] (stand rank (cond b (last_variable u rs) (last_variable r.a rs)) z)
    (ws ++ cond b r (with_rank r (rank r.a)) ∷ map (renew rank) rs)) t)

-- a definition has no note
pub no_note : (rank : ℕ → ℕ) (k : ℕ) (r : Record) (rs : List Record) → is_edge r ≡ false
    → notes_by Find rank k (r ∷ rs) ≡ notes_by Find rank (k + 1) rs
no_note rank k r rs e =
    ap (λ b. cond (b && is_told Find r) (note_of Find rank k r ∷ notes_by Find rank (k + 1) rs)
    (notes_by Find rank (k + 1) rs)) e

pub edge_notes : (rank : ℕ → ℕ) (k : ℕ) (e : Record) (rs : List Record) → is_edge e ≡ true
    → notes_by Find rank k (e ∷ rs)
    ≡ cond (is_told Find e) (note_of Find rank k e ∷ notes_by Find rank (k + 1) rs)
    (notes_by Find rank (k + 1) rs)
edge_notes rank k e rs t =
    ap (λ b. cond (b && is_told Find e) (note_of Find rank k e ∷ notes_by Find rank (k + 1) rs)
    (notes_by Find rank (k + 1) rs)) t

told_rest : (rank : ℕ → ℕ) (all : List Record) (r : Record) (rs : List Record)
    → AllTold rank all (r ∷ rs) → AllTold rank all rs
told_rest rank all r rs f k i g = f k (contains_rest r k rs i) g

-- The sweep takes all notes, if `all` are those that were sent before and those that it sends itself; it
-- gives each gate its new rank, and writes the list with these.
pub finds : (old new : ℕ → ℕ) (h : Header) (all : List Record) (u n z : ℕ) (rs : List Record)
    → Finding old new u n z rs → (k : ℕ) (notes ws : List Record)
    → all ≡ notes ++ notes_by Find new k rs → AllTold new all rs → AllLead Find rs
    → meet_all h Find k rs (moment (awaited rs notes) (stand new u n) ws)
    ≡ moment [] (stand new (last_variable u rs) z) (ws ++ map (renew new) rs)
finds old new h all u n z rs (end u1 n1) k notes ws is told lead =
    ap₂ (λ i w. moment i (stand new u n) w) (none_awaited notes) (sym (append-nil ws))
finds old new h all u n z rs (edge u1 n1 z1 e es d a f) k notes ws is told lead =
    let t = (edge_is e d).0 in
    let g = (edge_is e d).1 in
    let sent = cond (is_told Find e) (note_of Find new k e ∷ []) [] in
    let own : note Find (found_at new u) (new u) e k ≡ note_of Find new k e =
    ap (λ v. note Find (found_at new v) (new v) e k) (sym a) in
    let same : all ≡ (notes ++ sent) ++ notes_by Find new (k + 1) es =
    is ∙ ap (λ x. notes ++ x) (edge_notes new k e es t)
    ∙ notes_step_by new e es notes k (is_told Find e) in
    let items : cond (is_told Find e)
    (with_record (note Find (found_at new u) (new u) e k) (awaited (e ∷ es) notes))
    (awaited (e ∷ es) notes) ≡ awaited es (notes ++ sent) =
    ap₂ (λ x i. cond (is_told Find e) (with_record x i) i) own (awaited_other e es notes g)
    ∙ edge_step_by new e es notes k (is_told Find e) (λ w.
    ap (λ x. has x (e.b / 4)) (sym (other_gates e es g)) ∙ lead e (contains_first e e es refl) t w) in
    ap (meet_all h Find (k + 1) es)
    (at_edge h Find k e (moment (awaited (e ∷ es) notes) (stand new u n) ws) t
    ∙ ap (λ i. moment i (stand new u n) (ws ++ e ∷ [])) items)
    ∙ finds old new h all u n z es f (k + 1) (notes ++ sent) (ws ++ e ∷ []) same
    (told_rest new all e es told) (lead_other e es g lead)
    ∙ first_edge new u z e es ws t
finds old new h all u n z rs (source u1 n1 z1 r es d l c f) k notes ws is told lead =
    let t = (source_is r d).0 in
    let g = (source_is r d).1 in
    let some : 0 < r.a = omega (arith, l) in
    let own : r ≡ with_rank r (new r.a) =
    ap (λ (x : ℕ). record { a = r.a; b = r.b; c = x; d = r.d }) c in
    let same : all ≡ notes ++ notes_by Find new (k + 1) es =
    is ∙ ap (λ x. notes ++ x) (no_note new k r es t) in
    let place : at_rank r.c n ≡ stand new r.a n =
    ap (λ x. at_rank x n) c ∙ stands_at new r.a n some in
    ap (meet_all h Find (k + 1) es)
    (at_definition h Find k r (moment (awaited (r ∷ es) notes) (stand new u n) ws) t g
    ∙ ap₂ (λ i p. moment i p (ws ++ r ∷ [])) (awaited_other r es notes g) place
    ∙ ap (λ x. moment (awaited es notes) (stand new r.a n) (ws ++ x ∷ [])) own)
    ∙ finds old new h all r.a n z es f (k + 1) notes (ws ++ with_rank r (new r.a) ∷ []) same
    (told_rest new all r es told) (lead_other r es g lead)
    ∙ first_definition new u z r es ws t
finds old new h all u n z rs (kept u1 n1 z1 r es d l c s f) k notes ws is told lead =
    let t = (gate_is r d).0 in
    let g = (gate_is r d).1 in
    let same : all ≡ notes ++ notes_by Find new (k + 1) es =
    is ∙ ap (λ x. notes ++ x) (no_note new k r es t) in
    let takes = gate_takes u n z (k + 1) old new r es notes all f g same
    (told r (contains_first r r es refl) g) in
    ap (meet_all h Find (k + 1) es)
    (gate_step h k n new (stand new u n) r (awaited (r ∷ es) notes) (awaited es notes) ws t g takes
    (rank_kept n r (get_or (awaited (r ∷ es) notes) 0 zero_record)
    (get_or (awaited (r ∷ es) notes) 1 zero_record) s ∙ c) (past_kept new u n r (omega (arith, l)) s))
    ∙ finds old new h all r.a n z es f (k + 1) notes (ws ++ with_rank r (new r.a) ∷ []) same
    (told_rest new all r es told) (lead_rest u n z old new r es f g lead)
    ∙ first_definition new u z r es ws t
finds old new h all u n z rs (gained u1 n1 z1 r es d l c w s b f) k notes ws is told lead =
    let t = (gate_is r d).0 in
    let g = (gate_is r d).1 in
    let same : all ≡ notes ++ notes_by Find new (k + 1) es =
    is ∙ ap (λ x. notes ++ x) (no_note new k r es t) in
    let takes = gate_takes u (n + 1) z (k + 1) old new r es notes all f g same
    (told r (contains_first r r es refl) g) in
    let some : new r.a ≢ 0 = omega (arith, w, s) in
    let rank = rank_open n r (get_or (awaited (r ∷ es) notes) 0 zero_record)
    (get_or (awaited (r ∷ es) notes) 1 zero_record) true c (takes.both ∙ ap not (ne_eqb (new r.a) 0 some)) ∙ sym w in
    ap (meet_all h Find (k + 1) es)
    (gate_step h k (n + 1) new (stand new u n) r (awaited (r ∷ es) notes) (awaited es notes) ws t g
    takes rank (past_gained new u n r (omega (arith, l)) c some b))
    ∙ finds old new h all r.a (n + 1) z es f (k + 1) notes (ws ++ with_rank r (new r.a) ∷ []) same
    (told_rest new all r es told) (lead_rest u (n + 1) z old new r es f g lead)
    ∙ first_definition new u z r es ws t
finds old new h all u n z rs (left u1 n1 z1 r es d l c w f) k notes ws is told lead =
    let t = (gate_is r d).0 in
    let g = (gate_is r d).1 in
    let same : all ≡ notes ++ notes_by Find new (k + 1) es =
    is ∙ ap (λ x. notes ++ x) (no_note new k r es t) in
    let takes = gate_takes u n z (k + 1) old new r es notes all f g same
    (told r (contains_first r r es refl) g) in
    let rank = rank_open n r (get_or (awaited (r ∷ es) notes) 0 zero_record)
    (get_or (awaited (r ∷ es) notes) 1 zero_record) false c (takes.both ∙ ap not (eq-eqb (new r.a) 0 w)) ∙ sym w in
    ap (meet_all h Find (k + 1) es)
    (gate_step h k n new (stand new u n) r (awaited (r ∷ es) notes) (awaited es notes) ws t g takes
    rank (past_left new u n r (omega (arith, l)) c w))
    ∙ finds old new h all r.a n z es f (k + 1) notes (ws ++ with_rank r (new r.a) ∷ []) same
    (told_rest new all r es told) (lead_rest u n z old new r es f g lead)
    ∙ first_definition new u z r es ws t
