-- The lists of a node: what the members of its group got, and the chains that they became.
use Rattle.std.proofs.Common.{◌≡◌, ℕ, zero, suc, ◌+◌, ◌-◌, ◌^◌, ◌<◌, ◌≤◌, Bool, true, false, if◌then◌else◌, List, [], ◌∷◌, ◌++◌, length, get_or, inl, inr, refl, sym, ap, subst, ◌∙◌, arith, ⊎_elim, IsTrue}
use Rattle.std.specs.Prelude.{◌==◌, ◌≢◌, filter}
use Rattle.std.specs.List.{flat_map}
use Rattle.std.proofs.Math.Dec.{eqb}
use Rattle.std.proofs.lemmas.Bool.{cases_lt}
use Rattle.std.proofs.lemmas.Bool.Decides.{eqb_tells, nat_tests}
use Rattle.em_record.specs.declared.record.Record.{Record}
use Rattle.em_space.specs.Rig.{RigState}
use Rattle.em_chain.specs.Chain.{empty_chain}
use Rattle.em_chain.specs.Writers.{IsPackedMember, Member, MemberWrote, member_at, member_count, member_items, members_in, no_member}
use Rattle.em_chain.specs.WritersSession.{sent_if, sent_to}
use Rattle.em_chain.specs.declared.chain.Chain.{Chain}
use Rattle.em_chain.specs.declared.writers.Writers.{Writers}
use Rattle.em_chain.proofs.WritersMembers.{members_len}
use Rattle.em_segment_model.specs.Places.{got_at, places_of}
use Rattle.em_segment_model.specs.Reports.{is_listed}
use Rattle.em_segment_model.specs.Slabs.{Slab, slabs_from}
use Rattle.em_segment_model.specs.Spans.{takes_piece}
use Rattle.em_segment_model.specs.declared.strip.Span.{Span}
use Rattle.em_segment_model.proofs.Dealing.{slab_sent, strip_sent}
use Rattle.em_segment_parts.specs.Deals.{ArePacked, CanDeal, DealsChain, empty_members, lists_of, sent_all, sent_places}
use Rattle.em_segment_parts.proofs.PiecesSent.{can_length}
use Rattle.em_segment_parts.proofs.Sending.{sent_append}

-- what a member gets is what was sent to its place
eqb_same : (j k : ℕ) → eqb j k ≡ (j == k)
eqb_same j k = ⊎_elim
    (λ (t : (eqb j k ≡ true) × (j ≡ k)).
    let is = t.1 in
    let same : (j == k) ≡ true = grind (arith, nat_tests, is) in
    t.0 ∙ sym same)
    (λ (t : (eqb j k ≡ false) × (j ≢ k)).
    let differ = t.1 in
    let other : (j == k) ≡ false = grind (arith, nat_tests, differ) in
    t.0 ∙ sym other)
    (eqb_tells j k)

places_got : (j : ℕ) (r : Record) (ks : List ℕ) → sent_to j (sent_places r ks) ≡ got_at j r ks
places_got j r [] = refl
places_got j r (k ∷ ks) =
    ap (λ (l : List Record). sent_if (eqb j k) r l) (places_got j r ks)
    ∙ by_test (eqb j k) (got_at j r ks)
    ∙ ap (λ (b : Bool). if b then r ∷ got_at j r ks else got_at j r ks) (eqb_same j k)
  where
    by_test : (b : Bool) (l : List Record) → sent_if b r l ≡ (if b then r ∷ l else l)
    by_test true l = refl
    by_test false l = refl

sent_got : (j : ℕ) (zs : List Span) (ps : List Record)
    → sent_to j (sent_all zs ps) ≡ flat_map (λ r. got_at j r (places_of zs r)) ps
sent_got j zs [] = refl
sent_got j zs (p ∷ ps) =
    sent_append j (sent_places p (places_of zs p)) (sent_all zs ps)
    ∙ ap (λ (l : List Record). l ++ sent_to j (sent_all zs ps)) (places_got j p (places_of zs p))
    ∙ ap (λ (l : List Record). got_at j p (places_of zs p) ++ l) (sent_got j zs ps)

-- The member of a strip gets the pieces that go down into it, and that of a multislab those that belong to it.
pub strip_got : (zs : List Span) (j : ℕ) (d : Span) (ps : List Record) → j < length zs
    → sent_to j (sent_all zs ps) ≡ filter (takes_piece (get_or zs j d)) ps
strip_got zs j d ps l = sent_got j zs ps ∙ strip_sent zs j d ps l

pub slab_got : (zs : List Span) (p : ℕ) (d : Slab) (ps : List Record) → p < length (slabs_from 0 (length zs))
    → sent_to (length zs + p) (sent_all zs ps)
    ≡ filter (is_listed zs (get_or (slabs_from 0 (length zs)) p d)) ps
slab_got zs p d ps l = sent_got (length zs + p) zs ps ∙ slab_sent zs p d ps l

filter_few : (f : Record → Bool) (xs : List Record) → length (filter f xs) ≤ length xs
filter_few f [] = omega arith
filter_few f (x ∷ xs) = by_test (f x) (filter_few f xs)
  where
    by_test : (b : Bool) → length (filter f xs) ≤ length xs
        → length (if b then x ∷ filter f xs else filter f xs) ≤ suc (length xs)
    by_test true h = omega (arith, h)
    by_test false h = omega (arith, h)

-- No member gets more than all pieces.
got_few : (zs : List Span) (j : ℕ) (ps : List Record) → j < lists_of (length zs)
    → length (sent_to j (sent_all zs ps)) ≤ length ps
got_few zs j ps l = elim (cases_lt j (length zs)) [
  | inl less ↦
      let d : Span = record { first = 0; last = 0 } in
      let e = ap (λ (xs : List Record). length xs) (strip_got zs j d ps less) in
      let f = filter_few (takes_piece (get_or zs j d)) ps in
      omega (arith, e, f)
  | inr more ↦
      let d : Slab = record { first = 0; width = 0 } in
      let p = j - length zs in
      let same : length zs + p ≡ j = omega (arith, more) in
      let e = ap (λ (xs : List Record). length xs) (slab_got zs p d ps (omega (arith, l, more))) in
      let k = ap (λ (i : ℕ). length (sent_to i (sent_all zs ps))) same in
      let f = filter_few (is_listed zs (get_or (slabs_from 0 (length zs)) p d)) ps in
      omega (arith, e, k, f)
]

empty_at : (n j : ℕ) → j < n → get_or (empty_members n) j no_member ≡ inl empty_chain
empty_at zero j l = absurd (omega (arith, l))
empty_at (suc n) zero l = refl
empty_at (suc n) (suc j) l = empty_at n j (omega (arith, l))

-- a member of a group of empty lists
can_at : {s : RigState} {zs : List Span} {g : Writers} (j : ℕ) → j < lists_of (length zs) → CanDeal s zs g
    → member_at g j ≡ inl empty_chain
can_at {zs = zs} j l c =
    ap (λ (xs : List Member). get_or xs j no_member) c.members ∙ empty_at (lists_of (length zs)) j l

empty_packed : (s : RigState) → IsPackedMember s (inl empty_chain)
empty_packed s = record { is = record { skip_is = refl; full = tt } }

-- What each member has once all pieces were dealt.
pub record HasGot (zs : List Span) (s t : RigState) (pieces : List Record) (j : ℕ) (y : Member) : Type 0
  where
    pub items : IsTrue s.device.told → member_items t y ≡ sent_to j (sent_all zs pieces)
    pub packed : IsTrue s.device.told → IsPackedMember t y
    pub few : member_count y ≤ length pieces

pub got_by : {zs : List Span} {s t : RigState} {c : Chain} {g h : Writers} (j : ℕ)
    → j < lists_of (length zs) → CanDeal s zs g → (d : DealsChain zs s t c g h)
    → HasGot zs s t d.pieces j (member_at h j)
got_by {zs} {s} {t} {c} {g} {h} j l can d =
    let len = can_length can in
    let e = can_at j l can in
    let m : MemberWrote s t (inl empty_chain) (member_at h j) (sent_to j (sent_all zs d.pieces)) =
    subst (λ (x : Member). MemberWrote s t x (member_at h j) (sent_to j (sent_all zs d.pieces))) e
    (d.members j (omega (arith, len, l))) in
    let few = got_few zs j d.pieces l in
    let most = m.count_most in
    record {
      items = λ z. m.items z;
      packed = λ z. m.packed z (empty_packed s);
      few = omega (arith, few, most);
    }

are_packed : (s : RigState) (xs : List Member)
    → ((j : ℕ) → j < length xs → (IsTrue s.device.told → IsPackedMember s (get_or xs j no_member))
    × (member_count (get_or xs j no_member) ≤ 2 ^ 40)) → ArePacked s xs
are_packed s [] h = tt
are_packed s (x ∷ xs) h = (h 0 (omega arith), are_packed s xs (λ j l. h (suc j) (omega (arith, l))))

-- All members are packed.
pub dealt_packed : {zs : List Span} {s t : RigState} {c : Chain} {g h : Writers} → c.count ≤ 2 ^ 40
    → CanDeal s zs g → DealsChain zs s t c g h → ArePacked t (members_in h)
dealt_packed {zs} {s} {t} {c} {g} {h} few can d =
    let n = members_len h.words.items h.rack in
    let len = d.len ∙ can_length can in
    let told = d.runs.session.touches.told in
    are_packed t (members_in h) (λ j l.
    let x = got_by j (omega (arith, n, len, l)) can d in
    let p = d.pieces_len in
    let most = x.few in
    ((λ y. x.packed (sym told ∙ y)), omega (arith, most, p, few)))
