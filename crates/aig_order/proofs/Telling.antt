-- The first sweep of a pass, and of the edges between ranks: it tells gates what edges bring them, and
-- no gate takes a note.
use Rattle.std.proofs.Common.{◌≡◌, ◌+◌, ◌<◌, Bool, true, false, cond, ◌&&◌, if◌then◌else◌, List, [], ◌∷◌, ◌++◌, ℕ, sym, ap, ap₂, ◌∙◌, refl, arith, option_to_list, append_assoc}
use Rattle.std.proofs.lemmas.List.{append-nil}
use Rattle.em_record.specs.declared.record.Record.{Record}
use Rattle.em_record.specs.Order.{with_record, with_records}
use Rattle.aig_defs.specs.declared.circuit.Header.{Header}
use Rattle.aig_order.specs.declared.standing.Sweep.{Sweep}
use Rattle.aig_order.specs.declared.standing.Sweep.TheVariants.{Recall}
use Rattle.aig_order.specs.Sweeps.{is_edge, is_gate, is_told, note, at_rank, written_edge, written_definition, receives, takes_notes, meet_all}
use Rattle.aig_order.proofs.Finding.{found_at, note_of, notes_by, stand, moment, last_variable, at_edge, at_definition, stands_at}

-- An adjacency list after the definition of a variable, with these ranks; 0 if a gate isn't found.
pub data IsAdjacency (rank : ℕ → ℕ) : ℕ → List Record → Type 0 where
  end : (u : ℕ) → IsAdjacency rank u []
  edge :
      (u : ℕ) (e : Record) (rs : List Record) → is_edge e ≡ true → e.a ≡ u → IsAdjacency rank u rs
      → IsAdjacency rank u (e ∷ rs)
  definition :
      (u : ℕ) (r : Record) (rs : List Record) → is_edge r ≡ false → u < r.a → r.c ≡ rank r.a
      → IsAdjacency rank r.a rs → IsAdjacency rank u (r ∷ rs)

-- what the sweep writes for a record, and for some
abbrev pub written_of : Header → Sweep → (ℕ → ℕ) → Record → List Record
written_of h sweep rank r =
    if is_edge r then option_to_list (written_edge h sweep (rank r.a) r)
    else written_definition sweep r

abbrev pub written_by : Header → Sweep → (ℕ → ℕ) → List Record → List Record
written_by h sweep rank [] = []
written_by h sweep rank (r ∷ rs) = written_of h sweep rank r ++ written_by h sweep rank rs

pushed_by : (m : Record) (ms items : List Record) (b : Bool)
    → with_records (cond b (with_record m items) items) ms
    ≡ with_records items (cond b (m ∷ ms) ms)
pushed_by m ms items true = refl
pushed_by m ms items false = refl

-- The sweep pushes the notes of all edges that have one.
pub tells : (h : Header) (sweep : Sweep) (rank : ℕ → ℕ) (next : ℕ) → receives sweep ≡ false → (u : ℕ)
    (rs : List Record) → IsAdjacency rank u rs → (k : ℕ) (items ws : List Record)
    → meet_all h sweep k rs (moment items (stand rank u next) ws)
    ≡ moment (with_records items (notes_by sweep rank k rs)) (stand rank (last_variable u rs) next)
    (ws ++ written_by h sweep rank rs)
tells h sweep rank next off u rs (end v) k items ws =
    ap (λ w. moment items (stand rank u next) w) (sym (append-nil ws))
tells h sweep rank next off u rs (edge v e es t a f) k items ws =
    let told = is_told sweep e in
    let own : note sweep (found_at rank u) (rank u) e k ≡ note_of sweep rank k e =
    ap (λ w. note sweep (found_at rank w) (rank w) e k) (sym a) in
    let first = option_to_list (written_edge h sweep (rank e.a) e) in
    let here : option_to_list (written_edge h sweep (rank u) e) ≡ first =
    ap (λ w. option_to_list (written_edge h sweep (rank w) e)) (sym a) in
    let now = cond told (with_record (note_of sweep rank k e) items) items in
    let rest = notes_by sweep rank (k + 1) es in
    let more = written_by h sweep rank es in
    let last = last_variable u es in
    ap (meet_all h sweep (k + 1) es)
    (at_edge h sweep k e (moment items (stand rank u next) ws) t
    ∙ ap₂ (λ m w. moment (cond told (with_record m items) items) (stand rank u next) (ws ++ w))
    own here)
    ∙ tells h sweep rank next off u es f (k + 1) now (ws ++ first)
    ∙ ap₂ (λ i w. moment i (stand rank last next) w)
    (pushed_by (note_of sweep rank k e) rest items told) (append_assoc ws first more)
    ∙ sym (ap (λ b. moment
    (with_records items (cond (b && told) (note_of sweep rank k e ∷ rest) rest))
    (stand rank (cond b last (last_variable e.a es)) next)
    (ws ++ (cond b first (written_definition sweep e) ++ more))) t)
tells h sweep rank next off u rs (definition v r es t l c f) k items ws =
    let takes : takes_notes sweep r ≡ false = ap (λ b. b && is_gate r) off in
    let place : at_rank r.c next ≡ stand rank r.a next =
    ap (λ x. at_rank x next) c ∙ stands_at rank r.a next (omega (arith, l)) in
    let first = written_definition sweep r in
    let rest = notes_by sweep rank (k + 1) es in
    let more = written_by h sweep rank es in
    ap (meet_all h sweep (k + 1) es)
    (at_definition h sweep k r (moment items (stand rank u next) ws) t takes
    ∙ ap (λ p. moment items p (ws ++ first)) place)
    ∙ tells h sweep rank next off r.a es f (k + 1) items (ws ++ first)
    ∙ ap (λ w. moment (with_records items rest) (stand rank (last_variable r.a es) next) w)
    (append_assoc ws first more)
    ∙ sym (ap (λ b. moment
    (with_records items (cond (b && is_told sweep r) (note_of sweep rank k r ∷ rest) rest))
    (stand rank (cond b (last_variable u es) (last_variable r.a es)) next)
    (ws ++ (cond b (option_to_list (written_edge h sweep (rank r.a) r)) first ++ more))) t)

-- What is recalled isn't written,
pub recall_writes : (h : Header) (rank : ℕ → ℕ) (rs : List Record)
    → written_by h Recall rank rs ≡ []
recall_writes h rank [] = refl
recall_writes h rank (r ∷ rs) =
    none_by (is_edge r) ∙ recall_writes h rank rs
  where
    none_by : (b : Bool)
        → cond b (option_to_list (written_edge h Recall (rank r.a) r)) (written_definition Recall r)
        ++ written_by h Recall rank rs
        ≡ written_by h Recall rank rs
    none_by true = refl
    none_by false = refl
