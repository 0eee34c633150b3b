-- The bits of ranks, while edges are followed one after another.
use Rattle.std.proofs.Common.{◌≡◌, ℕ, zero, suc, ◌+◌, ◌*◌, ◌/◌, ◌<◌, ◌≤◌, ◌&&◌, eqb, cond, min, Bool, true, false, List, [], ◌∷◌, ◌++◌, length, take, drop, get_or, refl, sym, ap, subst, ◌∙◌, arith, ⊎_elim, inl, inr}
use Rattle.std.proofs.lemmas.List.{append-nil, drop-drop, take-append-drop}
use Rattle.std.proofs.lemmas.Bool.Decides.{nat_tests}
use Rattle.em_record.specs.declared.record.Record.{Record}
use Rattle.em_record.proofs.OrderLaws.{which}
use Rattle.em_bits.specs.Bits.{AndsIn, Fills, FillsUpTo, has_bit}
use Rattle.aig_defs.specs.Edges.{LeadOn, arity, conjunction, heard, target}
use Rattle.aig_sweep.specs.Messages.{ComeFrom, IsClimbing, IsForward}
use Rattle.aig_sweep.proofs.Awaits.{come_less, drop_climbs}
use Rattle.aig_sweep.proofs.Waiting.{arity_append, compare, conjunction_append, none_into, take_one}
use Rattle.aig_table.specs.Follows.{FollowsEdge, heard_bit}
use Rattle.aig_table.specs.Tables.{BeginsTable, Followable, Following, IsTable, bits_at}

and_true : (a b : Bool) → b ≡ true → (a && b) ≡ a
and_true true b e = e
and_true false b e = refl

forward_of : (m n : ℕ) (es : List Record) → LeadOn m n es → IsForward es
forward_of m n [] h = tt
forward_of m n (e ∷ es) h = (h.0.1, forward_of m n es h.1)

leads_drop : (m n k : ℕ) (es : List Record) → LeadOn m n es → LeadOn m n (drop k es)
leads_drop m n zero es h = h
leads_drop m n (suc k) [] h = h
leads_drop m n (suc k) (e ∷ es) h = leads_drop m n k es h.1

arity_some : (e : Record) (es : List Record) → 1 ≤ arity (target e) (e ∷ es)
arity_some e es =
    let f : eqb (e.b / 2) (e.b / 2) ≡ true = grind (arith, nat_tests) in
    rw f (omega arith)

-- The next edge, and the table once it was followed.
module _ {value : ℕ → Bool} {all behind edges table : List Record} {base gates last k : ℕ} {e : Record}
    (f : Followable value all base gates last)
    (h : Following value all behind base last k (e ∷ edges) table) where
  next_leads : (e.a < gates + 1) × (e.a < target e) × (target e < last + 1)
  next_leads = (subst (LeadOn (gates + 1) (last + 1)) h.rest
      (leads_drop (gates + 1) (last + 1) k all f.leads)).0

  -- No edge that is left leads to a rank up to the source of the next one.
  settled : (t : ℕ) → t ≤ e.a → conjunction value t (take k all) ≡ conjunction value t all
  settled t l =
      let climbs : IsClimbing (e ∷ (edges ++ behind)) = subst IsClimbing h.rest (drop_climbs k all f.climbs)
      in
      let come : ComeFrom t (drop k all) = subst (ComeFrom t) (sym h.rest)
      (l, come_less t e.a (edges ++ behind) l climbs.0) in
      let none = none_into value t (drop k all) come
      (forward_of (gates + 1) (last + 1) (drop k all) (leads_drop (gates + 1) (last + 1) k all f.leads)) in
      sym (and_true (conjunction value t (take k all)) (conjunction value t (drop k all)) none.0)
      ∙ sym (conjunction_append value t (take k all) (drop k all))
      ∙ ap (conjunction value t) (take-append-drop k all)

  later_source : base < e.a → has_bit table e.a ≡ value e.a
  later_source l =
      let up = next_leads.0 in
      let high = f.high in
      h.table_is.later e.a l (omega (arith, up, high)) ∙ settled e.a (omega arith)
      ∙ sym (f.solves.is e.a l (omega (arith, up)))

  source_is : has_bit table e.a ≡ value e.a
  source_is = elim (compare e.a base) [
    | inl l ↦ h.table_is.given e.a (omega (arith, l))
    | inr (inl s) ↦ h.table_is.given e.a (omega (arith, s))
    | inr (inr l) ↦ later_source l
  ]

  -- No edge leads to a given rank.
  not_given : target e ≤ base → ⊥
  not_given l =
      let none = f.solves.none (target e) l in
      let whole = ap (arity (target e)) (take-append-drop k all) in
      let sum = arity_append (target e) (take k all) (drop k all) in
      let left = ap (arity (target e)) h.rest in
      let some = arity_some e (edges ++ behind) in
      omega (arith, none, whole, sum, left, some)

  taken : (t : ℕ) → conjunction value t (take (k + 1) all)
      ≡ (conjunction value t (take k all) && cond (eqb (e.b / 2) t) (heard value e) true)
  taken t =
      ap (conjunction value t) (take_one k all e (edges ++ behind) h.rest)
      ∙ conjunction_append value t (take k all) (e ∷ [])
      ∙ ap (λ (b : Bool). conjunction value t (take k all) && b)
      (and_true (cond (eqb (e.b / 2) t) (heard value e) true) true refl)

  taken_other : (t : ℕ) → (t ≡ target e → ⊥)
      → conjunction value t (take (k + 1) all) ≡ conjunction value t (take k all)
  taken_other t o =
      let s : eqb (e.b / 2) t ≡ false = grind (arith, nat_tests) in
      taken t ∙ ap (λ (b : Bool). conjunction value t (take k all) && cond b (heard value e) true) s
      ∙ and_true (conjunction value t (take k all)) true refl

  taken_same : conjunction value (target e) (take (k + 1) all)
      ≡ (conjunction value (target e) (take k all) && heard value e)
  taken_same =
      let s : eqb (e.b / 2) (e.b / 2) ≡ true = grind (arith, nat_tests) in
      taken (target e)
      ∙ ap (λ (b : Bool). conjunction value (target e) (take k all) && cond b (heard value e) true) s

  follow_table : {new : List Record} (bit : Bool) → bit ≡ heard value e → last < 256 * length table
      → AndsIn (target e) bit table new → IsTable value base last (take (k + 1) all) new
  follow_table {new} bit is fits a =
      let low = f.low in
      let high = f.high in
      let top = next_leads.2 in
      record {
        given = λ t l.
            a.other t (omega (arith, l, low, high, fits)) (λ (s : t ≡ target e). not_given (omega (arith, l, s)))
            ∙ h.table_is.given t l;
        later = λ t lo hi. ⊎_elim
            (λ (s : t ≡ target e).
            ap (has_bit new) s ∙ a.same
            ∙ ap (λ (b : Bool). b && bit) (h.table_is.later (target e) (omega (arith, lo, s)) (omega (arith, hi, s)))
            ∙ ap (λ (b : Bool). conjunction value (target e) (take k all) && b) is
            ∙ sym taken_same ∙ ap (λ (u : ℕ). conjunction value u (take (k + 1) all)) (sym s))
            (λ (o : t ≡ target e → ⊥).
            a.other t (omega (arith, hi, fits)) o ∙ h.table_is.later t lo hi ∙ sym (taken_other t o))
            (which t (target e));
      }

  -- One more edge was followed.
  pub follow_next : {new : List Record} → last < 256 * length table → FollowsEdge e last table new
      → Following value all behind base last (k + 1) edges new
  follow_next {new} fits a =
      let up = next_leads.0 in
      let top = next_leads.2 in
      let high = f.high in
      let source : min e.a last ≡ e.a = omega (arith, up, high) in
      let to : min (target e) last ≡ target e = omega (arith, top) in
      let heard_is : heard_bit (has_bit table (min e.a last)) e ≡ heard value e =
      ap (λ (n : ℕ). heard_bit (has_bit table n) e) source
      ∙ ap (λ (b : Bool). heard_bit b e) source_is in
      record {
        table_is = follow_table (heard_bit (has_bit table (min e.a last)) e) heard_is fits
            (subst (λ (n : ℕ). AndsIn n (heard_bit (has_bit table (min e.a last)) e) table new) to a);
        rest = sym (drop-drop 1 k all) ∙ ap (λ (l : List Record). drop 1 l) h.rest;
      }

-- No edge was followed yet,
pub follows_none : {value : ℕ → Bool} {all given gates table : List Record} {base last : ℕ}
    → given ++ gates ≡ all → IsTable value base last [] table
    → Following value all gates base last 0 given table
follows_none whole h = record { table_is = h; rest = sym whole }

-- the first chain was,
pub follows_first : {value : ℕ → Bool} {all gates table : List Record} {base last k : ℕ}
    → Following value all gates base last k [] table → Following value all [] base last k gates table
follows_first {gates = gates} h = record { table_is = h.table_is; rest = h.rest ∙ sym (append-nil gates) }

take_whole : (k : ℕ) (xs : List Record) → drop k xs ≡ [] → take k xs ≡ xs
take_whole k xs e =
    sym (append-nil (take k xs)) ∙ ap (λ (l : List Record). take k xs ++ l) (sym e) ∙ take-append-drop k xs

-- and all were.
pub follows_all : {value : ℕ → Bool} {all table : List Record} {base last k : ℕ}
    → Following value all [] base last k [] table → IsTable value base last all table
follows_all {value} {all} {table} {base} {last} {k} h =
    subst (λ (l : List Record). IsTable value base last l table) (take_whole k all h.rest) h.table_is

-- A row of ones up to the last rank, in which the bit of the constant became 0, is begun.
pub table_fresh : {old mid new : List Record} (last : ℕ) → last < 256 * length old → FillsUpTo last old mid
    → AndsIn 0 false mid new → BeginsTable last old new
table_fresh last fits f a =
    let long = f.long in
    record {
      constant = a.same ∙ ap (λ (b : Bool). b && false) (f.ones 0 (omega arith));
      ones = λ t lo hi. a.other t (omega (arith, hi, fits, long)) (λ e. omega (arith, lo, e)) ∙ f.ones t hi;
      long = a.long ∙ f.long;
    }

-- A table that was begun has the value of the constant,
pub table_begun : {value : ℕ → Bool} {old new : List Record} (last : ℕ) → false ≡ value 0
    → BeginsTable last old new → IsTable value 0 last [] new
table_begun {value} {old} {new} last e b =
    record {
      given = λ t l.
          let z : t ≡ 0 = omega (arith, l) in
          ap (has_bit new) z ∙ b.constant ∙ e ∙ ap value (sym z);
      later = λ t lo hi. b.ones t lo hi;
    }

-- and that of one more rank.
pub table_next : {value : ℕ → Bool} {old new : List Record} (last t : ℕ) (bit : Bool)
    → last < 256 * length old → t + 1 ≤ last → bit ≡ value (t + 1) → IsTable value t last [] old
    → AndsIn (t + 1) bit old new → IsTable value (t + 1) last [] new
table_next {value} {old} {new} last t bit fits l e h a =
    record {
      given = λ u m. ⊎_elim
          (λ (s : u ≡ t + 1).
          ap (has_bit new) s ∙ a.same
          ∙ ap (λ (b : Bool). b && bit) (h.later (t + 1) (omega arith) l) ∙ e ∙ ap value (sym s))
          (λ (o : u ≡ t + 1 → ⊥).
          a.other u (omega (arith, m, l, fits)) o ∙ h.given u (omega (arith, m, o)))
          (which u (t + 1));
      later = λ u lo hi.
          a.other u (omega (arith, hi, fits)) (λ (s : u ≡ t + 1). omega (arith, s, lo))
          ∙ h.later u (omega (arith, lo)) hi;
    }

-- Bits of a row that are these.
pub bits_are : (table : List Record) (first n : ℕ) (bs : List Bool) → length bs ≡ n
    → ((j : ℕ) → j < n → has_bit table (first + j) ≡ get_or bs j false) → bits_at table first n ≡ bs
bits_are table first zero [] e f = refl
bits_are table first zero (b ∷ bs) e f = absurd (omega (arith, e))
bits_are table first (suc n) [] e f = absurd (omega (arith, e))
bits_are table first (suc n) (b ∷ bs) e f =
    let z : first ≡ first + 0 = omega arith in
    let one : has_bit table first ≡ b = ap (has_bit table) z ∙ f 0 (omega arith) in
    let rest = bits_are table (first + 1) n bs (omega (arith, e)) (λ j l.
    let s : first + 1 + j ≡ first + suc j = omega arith in
    ap (has_bit table) s ∙ f (suc j) (omega (arith, l))) in
    ap (λ (x : Bool). x ∷ bits_at table (first + 1) n) one ∙ ap (λ (l : List Bool). b ∷ l) rest

-- Two rows with the same bits, each from its own place on.
pub bits_same : (xs ys : List Record) (f g n : ℕ) → ((j : ℕ) → j < n → has_bit xs (f + j) ≡ has_bit ys (g + j))
    → bits_at xs f n ≡ bits_at ys g n
bits_same xs ys f g zero h = refl
bits_same xs ys f g (suc n) h =
    let y : f ≡ f + 0 = omega arith in
    let z : g + 0 ≡ g = omega arith in
    let one : has_bit xs f ≡ has_bit ys g = ap (has_bit xs) y ∙ h 0 (omega arith) ∙ ap (has_bit ys) z in
    let rest = bits_same xs ys (f + 1) (g + 1) n (λ j l.
    let s : f + 1 + j ≡ f + suc j = omega arith in
    let u : g + suc j ≡ g + 1 + j = omega arith in
    ap (has_bit xs) s ∙ h (suc j) (omega (arith, l)) ∙ ap (has_bit ys) u) in
    ap (λ (x : Bool). x ∷ bits_at xs (f + 1) n) one ∙ ap (λ (l : List Bool). has_bit ys g ∷ l) rest

bits_suc : (table : List Record) (first n : ℕ)
    → bits_at table first (suc n) ≡ bits_at table first n ++ has_bit table (first + n) ∷ []
bits_suc table first zero =
    let z : first ≡ first + 0 = omega arith in ap (λ (k : ℕ). has_bit table k ∷ []) z
bits_suc table first (suc n) =
    let s : first + 1 + n ≡ first + suc n = omega arith in
    ap (λ (l : List Bool). has_bit table first ∷ l) (bits_suc table (first + 1) n
    ∙ ap (λ (k : ℕ). bits_at table (first + 1) n ++ has_bit table k ∷ []) s)

-- One bit more at their end.
pub bits_more : (table : List Record) (first n : ℕ)
    → bits_at table first (n + 1) ≡ bits_at table first n ++ has_bit table (first + n) ∷ []
bits_more table first n =
    let s : n + 1 ≡ suc n = omega arith in
    ap (bits_at table first) s ∙ bits_suc table first n

pub length_bits_at : (table : List Record) (first n : ℕ) → length (bits_at table first n) ≡ n
length_bits_at table first zero = refl
length_bits_at table first (suc n) = ap suc (length_bits_at table (first + 1) n)

-- The first n bits of a row are those of a table from one on, and the others are 1.
pub record Copied (n first : ℕ) (table old new : List Record) : Type 0 where
  pub same : (j : ℕ) → j < n → has_bit new j ≡ has_bit table (first + j)
  pub ones : (j : ℕ) → n ≤ j → j < 256 * length new → has_bit new j ≡ true
  pub long : length new ≡ length old

pub copied_none : {first : ℕ} {table old new : List Record} → Fills old new → Copied 0 first table old new
copied_none f = record {
  same = λ j l. absurd (omega (arith, l));
  ones = λ j l m. f.ones j m;
  long = f.long;
}

pub copied_next : {n first : ℕ} {table old mid new : List Record} (bit : Bool)
    → bit ≡ has_bit table (first + n) → n < 256 * length old → Copied n first table old mid
    → AndsIn n bit mid new → Copied (n + 1) first table old new
copied_next {n} {first} {table} {old} {mid} {new} bit is fits h a =
    let long = h.long in
    let more = a.long in
    record {
      same = λ j l. ⊎_elim
          (λ (s : j ≡ n).
          ap (has_bit new) s ∙ a.same ∙ ap (λ (b : Bool). b && bit) (h.ones n (omega arith) (omega (arith, fits, long)))
          ∙ is ∙ ap (λ (i : ℕ). has_bit table (first + i)) (sym s))
          (λ (o : j ≡ n → ⊥).
          a.other j (omega (arith, l, fits, long)) o ∙ h.same j (omega (arith, l, o)))
          (which j n);
      ones = λ j l m.
          a.other j (omega (arith, m, more)) (λ (s : j ≡ n). omega (arith, s, l))
          ∙ h.ones j (omega (arith, l)) (omega (arith, m, more));
      long = more ∙ long;
    }

pub copied_all : {n m first : ℕ} {table old new : List Record} → Copied n first table old new → n ≡ m
    → bits_at new 0 m ≡ bits_at table first m
copied_all {n} {m} {first} {table} {old} {new} h e =
    bits_same new table 0 first m (λ j l.
    let z : 0 + j ≡ j = omega arith in
    ap (has_bit new) z ∙ h.same j (omega (arith, l, e)))

pub bits_last : (row : List Record) (n : ℕ) → bits_at row 0 (n + 1) ≡ bits_at row 0 n ++ has_bit row n ∷ []
bits_last row n =
    let z : 0 + n ≡ n = omega arith in
    bits_more row 0 n ∙ ap (λ (k : ℕ). bits_at row 0 n ++ has_bit row k ∷ []) z
