-- The second sweep of the edges between ranks: each gate takes the two notes that its edges have, and
-- they are written as edges between ranks.
use Rattle.std.proofs.Common.{inl, inr, ◌≡◌, ◌+◌, true, false, List, [], ◌∷◌, ◌++◌, ℕ, sym, ap, ap₂, ◌∙◌, refl, map, drop, get_or, Contains, append_assoc}
use Rattle.std.proofs.lemmas.Bool.{cases_Bool}
use Rattle.std.proofs.lemmas.List.{append-nil}
use Rattle.em_record.specs.declared.record.Record.{Record}
use Rattle.em_record.specs.Order.{in_order}
use Rattle.em_frames.specs.Device.{zero_record}
use Rattle.aig_defs.specs.declared.circuit.Header.{Header}
use Rattle.aig_order.specs.declared.standing.Standing.{Standing}
use Rattle.aig_order.specs.declared.standing.Sweep.TheVariants.{Rank}
use Rattle.aig_order.specs.Sweeps.{Moment, is_edge, is_gate, at_rank, operand_edge, meet, meet_all}
use Rattle.aig_defs.proofs.Members.{contains_first, contains_rest}
use Rattle.aig_order.proofs.Awaited.{gates_in, due, awaited, awaited_gate, awaited_other, none_awaited, IsUnder}
use Rattle.aig_order.proofs.Finding.{moment, at_edge, at_gate, at_definition}

-- The definitions of gates in some records, each above those before it, with their ranks.
pub data HasRanks (rank : ℕ → ℕ) : List Record → Type 0 where
  end : HasRanks rank []
  other : (r : Record) (rs : List Record) → is_gate r ≡ false → HasRanks rank rs → HasRanks rank (r ∷ rs)
  gate :
      (r : Record) (rs : List Record) → is_edge r ≡ false → is_gate r ≡ true
      → IsUnder r.a (gates_in rs) → r.c ≡ rank r.a → HasRanks rank rs → HasRanks rank (r ∷ rs)

-- the two notes of a gate
pub record HasPair (notes : List Record) (v : ℕ) : Type 0 where
  pub first : Record
  pub second : Record
  pub are : in_order (due v notes) ≡ first ∷ second ∷ []
  pub first_for : first.a ≡ v
  pub second_for : second.a ≡ v

abbrev pub AllPaired : List Record → List Record → Type 0
AllPaired notes rs = (r : Record) → Contains rs r → is_gate r ≡ true → HasPair notes r.a

-- the edge between ranks of a note
abbrev pub ranked_note : (ℕ → ℕ) → Record → Record
ranked_note rank m = operand_edge m (rank m.a)

-- what matters of a moment
pub record Wrote (m : Moment) (left ws : List Record) : Type 0 where
  pub items : m.items ≡ left
  pub written : m.written ≡ ws

-- a record that defines no gate changes nothing but where the sweep stands
pub record Passed (h : Header) (k : ℕ) (r : Record) (items ws : List Record) (p : Standing) : Type 0
  where
    pub standing : Standing
    pub is : meet h Rank k r (moment items p ws) ≡ moment items standing ws

pass_other : (h : Header) (k : ℕ) (r : Record) (items ws : List Record) (p : Standing)
    → is_gate r ≡ false → Passed h k r items ws p
pass_other h k r items ws p g = elim (cases_Bool (is_edge r)) [
  | inl t ↦ record {
    standing = p;
    is = at_edge h Rank k r (moment items p ws) t ∙ ap (moment items p) (append-nil ws);
  }
  | inr f ↦ record {
    standing = at_rank r.c p.next;
    is = at_definition h Rank k r (moment items p ws) f g
        ∙ ap (moment items (at_rank r.c p.next)) (append-nil ws);
  }
]

-- the items of a gate, and what it writes
pair_step : (h : Header) (k : ℕ) (r x y : Record) (items rest ws : List Record) (p : Standing)
    → is_edge r ≡ false → is_gate r ≡ true → items ≡ x ∷ y ∷ rest
    → meet h Rank k r (moment items p ws)
    ≡ moment rest (at_rank r.c p.next) (ws ++ operand_edge x r.c ∷ operand_edge y r.c ∷ [])
pair_step h k r x y items rest ws p e g is =
    at_gate h Rank k r (moment items p ws) e g
    ∙ ap (λ (z : List Record). moment (drop 2 z) (at_rank r.c p.next)
    (ws ++ operand_edge (get_or z 0 zero_record) r.c ∷ operand_edge (get_or z 1 zero_record) r.c ∷ []))
    is

noted : (rank : ℕ → ℕ) (r m : Record) → r.c ≡ rank r.a → m.a ≡ r.a
    → operand_edge m r.c ≡ ranked_note rank m
noted rank r m c a = ap (operand_edge m) (c ∙ ap rank (sym a))

-- The sweep takes all notes, and writes the edge between ranks of each.
pub takes : (h : Header) (rank : ℕ → ℕ) (notes rs : List Record) → HasRanks rank rs → (k : ℕ)
    (p : Standing) (ws : List Record) → AllPaired notes rs
    → Wrote (meet_all h Rank k rs (moment (awaited rs notes) p ws)) []
    (ws ++ map (ranked_note rank) (awaited rs notes))
takes h rank notes rs end k p ws f = record {
  items = none_awaited notes;
  written = sym (append-nil ws)
      ∙ ap (λ z. ws ++ map (ranked_note rank) z) (sym (none_awaited notes));
}
takes h rank notes rs (other r es g a) k p ws f =
    let same = awaited_other r es notes g in
    let step = pass_other h k r (awaited (r ∷ es) notes) ws p g in
    let here = step.is ∙ ap (λ i. moment i step.standing ws) same in
    let rest = takes h rank notes es a (k + 1) step.standing ws
    (λ e i. f e (contains_rest r e es i)) in record {
      items = ap (λ m. (meet_all h Rank (k + 1) es m).items) here ∙ rest.items;
      written = ap (λ m. (meet_all h Rank (k + 1) es m).written) here ∙ rest.written
          ∙ ap (λ z. ws ++ map (ranked_note rank) z) (sym same);
    }
takes h rank notes rs (gate r es e g low c a) k p ws f =
    let pair = f r (contains_first r r es refl) g in
    let x = pair.first in
    let y = pair.second in
    let rest = awaited es notes in
    let same : awaited (r ∷ es) notes ≡ x ∷ y ∷ rest =
    awaited_gate r es notes g low ∙ ap (λ z. z ++ rest) pair.are in
    let own = ranked_note rank x ∷ ranked_note rank y ∷ [] in
    let step : meet h Rank k r (moment (awaited (r ∷ es) notes) p ws)
    ≡ moment rest (at_rank r.c p.next) (ws ++ own) =
    pair_step h k r x y (awaited (r ∷ es) notes) rest ws p e g same
    ∙ ap₂ (λ v w. moment rest (at_rank r.c p.next) (ws ++ v ∷ w ∷ []))
    (noted rank r x c pair.first_for) (noted rank r y c pair.second_for) in
    let later = takes h rank notes es a (k + 1) (at_rank r.c p.next) (ws ++ own)
    (λ q i. f q (contains_rest r q es i)) in record {
      items = ap (λ m. (meet_all h Rank (k + 1) es m).items) step ∙ later.items;
      written = ap (λ m. (meet_all h Rank (k + 1) es m).written) step ∙ later.written
          ∙ append_assoc ws own (map (ranked_note rank) rest)
          ∙ ap (λ z. ws ++ map (ranked_note rank) z) (sym same);
    }
