-- The bits of a row and the notes that they stand for, record by record.
use Rattle.std.proofs.Common.{◌≡◌, ◌+◌, ◌*◌, ◌/◌, ◌<◌, ◌≤◌, min, Bool, true, false, cond, eqb, ◌&&◌, List, [], ◌∷◌, ◌++◌, ℕ, length, refl, sym, ap, ap₂, ◌∙◌, subst, arith, append_assoc, ⊎_elim}
use Rattle.std.specs.Prelude.{nat_le}
use Rattle.std.proofs.lemmas.Bool.{eq-eqb, ne_eqb, leb-true, leb-false}
use Rattle.std.proofs.lemmas.List.{append-nil}
use Rattle.em_record.specs.declared.record.Record.{Record}
use Rattle.em_record.proofs.OrderLaws.{which}
use Rattle.em_frames.specs.Device.{zero_record}
use Rattle.em_bits.specs.Bits.{AndsIn, FillsUpTo, has_bit}
use Rattle.aig_order.specs.declared.standing.Standing.{Standing}
use Rattle.aig_order.specs.declared.standing.Sweep.{Sweep}
use Rattle.aig_order.specs.declared.standing.Sweep.TheVariants.{Recall, Find}
use Rattle.aig_order.specs.Marks.{HasNotes, IsMarked, Leads, Recalls, all_say, joined_bit, mark_all, noted, renewed, taken}
use Rattle.aig_order.specs.Passes.{at_start}
use Rattle.aig_order.specs.SweepCalls.{standing_after}
use Rattle.aig_order.specs.Sweeps.{Moment, at_constant, is_edge, is_told, note}
use Rattle.aig_order.proofs.Both.{both_three, both_true}

same_ways : (b : Bool) → cond b true true ≡ true
same_ways true = refl
same_ways false = refl

said : (b : Bool) → eqb (cond b 1 0) 1 ≡ b
said true = refl
said false = refl

-- One note more.
heard_more : (v : ℕ) (m : Record) (ms : List Record)
    → all_say v (ms ++ m ∷ []) ≡ (all_say v ms && cond (eqb v m.a) (eqb m.c 1) true)
heard_more v m [] = both_true (cond (eqb v m.a) (eqb m.c 1) true)
heard_more v m (x ∷ ms) =
    let own = cond (eqb v x.a) (eqb x.c 1) true in
    ap (λ b. own && b) (heard_more v m ms)
    ∙ sym (both_three own (all_say v ms) (cond (eqb v m.a) (eqb m.c 1) true))

noted_by : (told : Bool) (v : ℕ) (m : Record) (ms : List Record)
    → all_say v (cond told (ms ++ m ∷ []) ms)
    ≡ (all_say v ms && cond told (cond (eqb v m.a) (eqb m.c 1) true) true)
noted_by true v m ms = heard_more v m ms
noted_by false v m ms = sym (both_true (all_say v ms))

-- what a bit becomes by a note, if it has one within the row
joined_by : (told low found : Bool) (v gate last : ℕ) → nat_le gate last ≡ low → v ≤ last
    → cond (eqb v (min gate last)) (cond (told && low) found true) true
    ≡ cond told (cond (eqb v gate) found true) true
joined_by false low found v gate last e l = same_ways (eqb v (min gate last))
joined_by true true found v gate last e l =
    let few = leb-true gate last e in
    let at : min gate last ≡ gate = omega (arith, few) in
    ap (λ (n : ℕ). cond (eqb v n) found true) at
joined_by true false found v gate last e l =
    let more = leb-false gate last e in
    let other : eqb v gate ≡ false = ne_eqb v gate (omega (arith, more, l)) in
    same_ways (eqb v (min gate last)) ∙ sym (ap (λ b. cond b found true) other)

-- one bit was joined
anded : {at : ℕ} {bit : Bool} {old new : List Record} (v : ℕ) → v < 256 * length old
    → AndsIn at bit old new → has_bit new v ≡ (has_bit old v && cond (eqb v at) bit true)
anded {at} {bit} {old} {new} v l a = ⊎_elim
    (λ (e : v ≡ at).
    ap (has_bit new) e ∙ a.same
    ∙ ap₂ (λ n b. has_bit old n && cond b bit true) (sym e) (sym (eq-eqb v at e)))
    (λ (o : v ≡ at → ⊥).
    a.other v l o ∙ sym (both_true (has_bit old v))
    ∙ ap (λ b. has_bit old v && cond b bit true) (sym (ne_eqb v at o)))
    (which v at)

-- The bits stand for one note more.
pub note_joined : {old new : List Record} (last : ℕ) (sweep : Sweep) (p : Standing) (r : Record)
    → last < 256 * length old → AndsIn (min (r.b / 4) last) (joined_bit last sweep p r) old new
    → (n : ℕ) (notes : List Record) → HasNotes last notes old
    → HasNotes last (noted sweep p n r notes) new
note_joined {old} {new} last sweep p r fits a n notes h v l =
    let told = is_edge r && is_told sweep r in
    let gate = r.b / 4 in
    let own = note Find p.found p.rank r n in
    anded v (omega (arith, fits, l)) a
    ∙ ap₂ (λ x y. x && y) (h v l)
    (joined_by told (nat_le gate last) p.found v gate last refl l
    ∙ ap (λ b. cond told (cond (eqb v gate) b true) true) (sym (said p.found)))
    ∙ sym (noted_by told v own notes)

-- All bits are 1 if there is no note.
pub none_noted : {old new : List Record} (last : ℕ) → FillsUpTo last old new → HasNotes last [] new
none_noted last f v l = f.ones v l

-- Records one after another.
mark_then : (last : ℕ) (sweep : Sweep) (n : ℕ) (rs qs : List Record) (m : Moment)
    → mark_all last sweep n (rs ++ qs) m
    ≡ mark_all last sweep (n + length rs) qs (mark_all last sweep n rs m)
mark_then last sweep n [] qs m =
    ap (λ k. mark_all last sweep k qs m) {x = n} {y = n + 0} (omega arith)
mark_then last sweep n (r ∷ rs) qs m =
    let e : n + 1 + length rs ≡ n + length (r ∷ rs) = omega arith in
    mark_then last sweep (n + 1) rs qs _
    ∙ ap (λ k. mark_all last sweep k qs (mark_all last sweep n (r ∷ rs) m)) e

pub leads_none : (last : ℕ) (sweep : Sweep) (p : Standing) (row : List Record)
    → Leads last sweep [] [] p p row row
leads_none last sweep p row = record {
  on = λ n m i. i;
  writes = λ n m i. sym (append-nil m.written);
}

pub leads_then : {last : ℕ} {sweep : Sweep} {p j k : Standing} {old mid new : List Record}
    (rs ws qs us : List Record) → Leads last sweep rs ws p j old mid
    → Leads last sweep qs us j k mid new → Leads last sweep (rs ++ qs) (ws ++ us) p k old new
leads_then {last} {sweep} {p} {j} {k} {old} {mid} {new} rs ws qs us a b = record {
  on = λ n m i. subst (λ (z : Moment). IsMarked last z k new) (sym (mark_then last sweep n rs qs m))
      (b.on (n + length rs) (mark_all last sweep n rs m) (a.on n m i));
  writes = λ n m i.
      ap (λ (z : Moment). z.written) (mark_then last sweep n rs qs m)
      ∙ b.writes (n + length rs) (mark_all last sweep n rs m) (a.on n m i)
      ∙ ap (λ z. z ++ us) (a.writes n m i) ∙ append_assoc m.written ws us;
}

-- A record of the first sweep,
pub recalls_one : {p j : Standing} {x : Record} {old new : List Record} (last : ℕ)
    → ((n : ℕ) (notes : List Record) → HasNotes last notes old
    → HasNotes last (noted Recall p n x notes) new)
    → j ≡ standing_after Recall p x zero_record zero_record
    → Leads last Recall (x ∷ []) [] p j old new
recalls_one {p} {j} {x} {old} {new} last joins stands = record {
  on = λ n m i. record {
    standing = ap (λ (q : Standing). standing_after Recall q x zero_record zero_record) i.standing
        ∙ sym stands;
    notes = subst (λ (q : Standing). HasNotes last (noted Recall q n x m.items) new) (sym i.standing)
        (joins n m.items i.notes);
  };
  writes = λ n m i. sym (append-nil m.written);
}

-- and one of the second.
pub finds_one : {p j : Standing} {x y a : Record} {old new : List Record} (last : ℕ)
    → ((notes : List Record) → HasNotes last notes old → a ≡ taken last x notes)
    → ((n : ℕ) (notes : List Record) → HasNotes last notes old
    → HasNotes last (noted Find p n x notes) new)
    → y ≡ renewed p x a → j ≡ standing_after Find p x a a
    → Leads last Find (x ∷ []) (y ∷ []) p j old new
finds_one {p} {j} {x} {y} {a} {old} {new} last takes joins writes stands = record {
  on = λ n m i. record {
    standing = ap₂ (λ (q : Standing) (b : Record). standing_after Find q x b b) i.standing
        (sym (takes m.items i.notes))
        ∙ sym stands;
    notes = subst (λ (q : Standing). HasNotes last (noted Find q n x m.items) new) (sym i.standing)
        (joins n m.items i.notes);
  };
  writes = λ n m i.
      ap₂ (λ (q : Standing) (b : Record). m.written ++ renewed q x b ∷ []) i.standing
      (sym (takes m.items i.notes))
      ∙ ap (λ (b : Record). m.written ++ b ∷ []) (sym writes);
}

-- The first sweep writes nothing.
pub recall_unwritten : (last n : ℕ) (rs : List Record) (m : Moment)
    → (mark_all last Recall n rs m).written ≡ m.written
recall_unwritten last n [] m = refl
recall_unwritten last n (r ∷ rs) m = recall_unwritten last (n + 1) rs _

-- What it leaves, from the constant on.
recalled_all : {j : Standing} {old new : List Record} (last next : ℕ) (rs : List Record)
    → Leads last Recall rs [] (at_constant next) j old new → HasNotes last [] old
    → HasNotes last (mark_all last Recall 0 rs (at_start next)).items new
recalled_all last next rs a h = (a.on 0 (at_start next) (record { standing = refl; notes = h })).notes

-- Of a list of records some were read, and the others are left.
pub record Recalled (last : ℕ) (all rest : List Record) (p j : Standing) (old new : List Record)
    : Type 0 where
  pub items : List Record
  pub split : all ≡ items ++ rest
  pub leads : Leads last Recall items [] p j old new

pub recalled_none : (last : ℕ) (all : List Record) (p : Standing) (row : List Record)
    → Recalled last all all p p row row
recalled_none last all p row =
    record { items = []; split = refl; leads = leads_none last Recall p row }

pub recalled_next : {last : ℕ} {all rest later : List Record} {p j k : Standing}
    {old mid new : List Record} (x : Record) → Recalled last all rest p j old mid
    → rest ≡ x ∷ later → Leads last Recall (x ∷ []) [] j k mid new
    → Recalled last all later p k old new
recalled_next {later = later} x h e l = record {
  items = h.items ++ x ∷ [];
  split = h.split ∙ ap (λ (r : List Record). h.items ++ r) e ∙ sym (append_assoc h.items (x ∷ []) later);
  leads = leads_then h.items [] (x ∷ []) [] h.leads l;
}

pub recalled_end : {last next : ℕ} {all rest : List Record} {j : Standing} {old new : List Record}
    → Recalled last all rest (at_constant next) j old new → rest ≡ [] → Recalls last next all old new
recalled_end {last} {next} {all} {new = new} h e none =
    let whole : all ≡ h.items =
    h.split ∙ ap (λ (r : List Record). h.items ++ r) e ∙ append-nil h.items in
    subst (λ (rs : List Record). HasNotes last (mark_all last Recall 0 rs (at_start next)).items new)
    (sym whole) (recalled_all last next h.items h.leads none)
