-- A piece that is appended to members of a group.
use Rattle.std.proofs.Common.{◌≡◌, ℕ, zero, suc, ◌+◌, ◌*◌, ◌^◌, ◌<◌, ◌≤◌, Bool, true, false, if◌then◌else◌, List, [], ◌∷◌, ◌++◌, length, map, take, drop, get_or, refl, sym, ap, subst, ◌∙◌, arith, append_assoc, OnOk, IfErr, Result, Ok, Err, IsErrAnd, inl, inr, length-append}
use Rattle.std.proofs.Math.Dec.{eqb}
use Rattle.std.proofs.Math.Nat.{mul-le-mul}
use Rattle.std.proofs.lemmas.Bool.{cases_lt}
use Rattle.std.proofs.lemmas.Bool.Decides.{nat_tests}
use Rattle.std.specs.Prelude.{◌==◌}
use Rattle.std.proofs.lemmas.List.{append-nil, length-map, map-append}
use Rattle.em_record.specs.declared.record.Record.{Record}
use Rattle.em_space.specs.Rig.{RigState, Sound}
use Rattle.em_space.specs.declared.fault.EmFault.{EmFault}
use Rattle.em_space.proofs.Runs.{runs_then, runs_wider}
use Rattle.em_chain.specs.Writers.{IsGroup, Member, MemberAppends, MemberCanGrow, MemberWrote, StopsAppending, member_at}
use Rattle.em_chain.specs.WritersSession.{GroupWrote, Sent, sent_if, sent_to}
use Rattle.em_chain.specs.declared.writers.Writers.{Writers}
use Rattle.em_chain.proofs.Appending.{pos_of}
use Rattle.em_chain.proofs.WritersSession.{can_grow, group_none, group_then, sent_few}
use Rattle.em_segment_model.specs.Places.{down_places, place_of, places_of, slab_place}
use Rattle.em_segment_model.specs.Points.{interval_in}
use Rattle.em_segment_model.specs.Pieces.{Strip, spans}
use Rattle.em_segment_model.specs.Slabs.{Slab, slab_first, slab_of, slab_width, slabs_from}
use Rattle.em_segment_model.specs.Spans.{interval_at, strip_at, takes_piece}
use Rattle.em_segment_model.specs.declared.strip.Span.{Span}
use Rattle.em_segment_model.proofs.Places.{slab_there, slabs_from-length}
use Rattle.em_segment_model.proofs.Reports.{slab_within}
use Rattle.em_segment_parts.specs.Deals.{DealsTo, HasMembers, HasPlaces, StopsDealt, lists_of, sent_places}

-- what is sent to a member first, and then
pub sent_append : (j : ℕ) (xs ys : List Sent) → sent_to j (xs ++ ys) ≡ sent_to j xs ++ sent_to j ys
sent_append j [] ys = refl
sent_append j (x ∷ xs) ys =
    ap (λ (l : List Record). sent_if (eqb j x.to) x.item l) (sent_append j xs ys)
    ∙ front (eqb j x.to) x.item (sent_to j xs) (sent_to j ys)
  where
    front : (b : Bool) (z : Record) (l k : List Record) → sent_if b z (l ++ k) ≡ sent_if b z l ++ k
    front true z l k = refl
    front false z l k = refl

pub member_then : {s t u : RigState} {x y v : Member} {xs ys : List Record}
    → t.device.told ≡ s.device.told → MemberWrote s t x y xs → MemberWrote t u y v ys
    → MemberWrote s u x v (xs ++ ys)
member_then {s} {t} {u} {x} {y} {v} {xs} {ys} told a b =
    let n = length-append xs ys in
    record {
      items = λ z. b.items (told ∙ z) ∙ ap (λ (l : List Record). l ++ ys) (a.items z)
          ∙ append_assoc _ xs ys;
      packed = λ z p. b.packed (told ∙ z) (a.packed z p);
      tight = λ z p. b.tight (told ∙ z) (a.tight z p);
      skip_is = λ z. b.skip_is (told ∙ z) ∙ a.skip_is z;
      count_is = λ z. let p = a.count_is z in let q = b.count_is (told ∙ z) in omega (arith, p, q, n);
      count_most = let p = a.count_most in let q = b.count_most in omega (arith, p, q, n);
      blocks_most = let p = a.blocks_most in let q = b.blocks_most in omega (arith, p, q, n);
      filled_most = let p = a.filled_most in let q = b.filled_most in omega (arith, p, q, n);
    }

-- Records were appended, and then others.
pub group_chain : {s t u : RigState} {g h k : Writers} {xs ys : List Sent} → GroupWrote s t g h xs
    → GroupWrote t u h k ys → GroupWrote s u g k (xs ++ ys)
group_chain {s} {t} {u} {g} {h} {k} {xs} {ys} a b =
    let told = a.runs.session.touches.told in
    let n = length-append xs ys in
    let grows = b.grows in
    let first = a.grows in
    record {
      runs = runs_wider (omega (arith, grows)) (runs_then a.runs b.runs);
      is = b.is;
      len = b.len ∙ a.len;
      members = λ j l.
          subst (λ (l : List Record). MemberWrote s u (member_at g j) (member_at k j) l)
          (sym (sent_append j xs ys)) (member_then told (a.members j l) (b.members j (rw a.len l)));
      grows = omega (arith, grows, first);
      filled_most = let p = a.filled_most in let q = b.filled_most in omega (arith, p, q, n);
      touched_most = let p = a.touched_most in let q = b.touched_most in omega (arith, p, q, n);
    }

-- A member can grow that has a place,
pub grows_by : (x : Member) → HasPlaces 1 x → MemberCanGrow x
grows_by x (count, blocks) = can_grow x (omega (arith, count)) (omega (arith, blocks))

pub fewer_places : (m n : ℕ) (x : Member) → m ≤ n → HasPlaces n x → HasPlaces m x
fewer_places m n x l (count, blocks) = (omega (arith, l, count), omega (arith, l, blocks))

-- and all have so many fewer as were appended.
pub members_after : {n room : ℕ} {s t : RigState} {g h : Writers} {xs : List Sent} (more : ℕ)
    → length xs + more ≤ room → HasMembers n room g → GroupWrote s t g h xs → HasMembers n more h
members_after {n} {room} {s} {t} {g} {h} {xs} more l m w = record {
  strips = m.strips;
  len = w.len ∙ m.len;
  places = λ j k.
      let i : j < length g.words.items = rw (sym w.len) k in
      let o = w.members j i in
      let f = sent_few j xs in
      let p = m.places j i in
      (omega (arith, l, f, p.0, o.count_most), omega (arith, l, f, p.1, o.blocks_most));
}

-- A piece was sent to one member, or to none.
pub send_one : {T : Type 0} {s : RigState} {g : Writers} (t : RigState) (h : Writers) (piece : Record)
    (place : ℕ) (result : Result T EmFault) → Sound s → IsGroup s g
    → OnOk result (MemberAppends s t g h place piece) → IfErr result (StopsAppending s t g)
    → DealsTo piece (place ∷ []) s t g h result
send_one t h piece place (Ok x) sound is appends stops = group_then place piece (group_none sound is) appends
send_one {s = s} {g = g} t h piece place (Err e) sound is appends stops = record {
  done = [];
  rest = place ∷ [];
  split = refl;
  some = omega arith;
  mid = s;
  group = g;
  wrote = group_none sound is;
  stops = stops;
}

-- The strips of a node, and others behind them.
pub down_split : (k : ℕ) (ys zs : List Span) (r : Record)
    → down_places k (ys ++ zs) r ≡ down_places k ys r ++ down_places (k + length ys) zs r
down_split k [] zs r = ap (λ (j : ℕ). down_places j zs r) (let e : k ≡ k + 0 = omega arith in e)
down_split k (y ∷ ys) zs r =
    let e : suc k + length ys ≡ k + length (y ∷ ys) = omega arith in
    by_test (takes_piece y r) (down_split (suc k) ys zs r
    ∙ ap (λ (j : ℕ). down_places (suc k) ys r ++ down_places j zs r) e)
  where
    by_test : (b : Bool) → down_places (suc k) (ys ++ zs) r
        ≡ down_places (suc k) ys r ++ down_places (k + length (y ∷ ys)) zs r
        → (if b then k ∷ down_places (suc k) (ys ++ zs) r else down_places (suc k) (ys ++ zs) r)
        ≡ (if b then k ∷ down_places (suc k) ys r else down_places (suc k) ys r)
        ++ down_places (k + length (y ∷ ys)) zs r
    by_test true e = ap (λ (l : List ℕ). k ∷ l) e
    by_test false e = e

pub down_most : (k : ℕ) (zs : List Span) (r : Record) → length (down_places k zs r) ≤ length zs
down_most k [] r = omega arith
down_most k (z ∷ zs) r = by_test (takes_piece z r) (down_most (suc k) zs r)
  where
    by_test : (b : Bool) → length (down_places (suc k) zs r) ≤ length zs
        → length (if b then k ∷ down_places (suc k) zs r else down_places (suc k) zs r) ≤ suc (length zs)
    by_test true h = omega (arith, h)
    by_test false h = omega (arith, h)

pub sent_length : (r : Record) (places : List ℕ) → length (sent_places r places) ≡ length places
sent_length r places = length-map places (λ (place : ℕ). record { to = place; item = r })

pub sent_more : (r : Record) (xs ys : List ℕ)
    → sent_places r (xs ++ ys) ≡ sent_places r xs ++ sent_places r ys
sent_more r xs ys = map-append (λ (place : ℕ). record { to = place; item = r }) xs ys

-- A piece was sent to some members, and then to others,
pub dealt_then : {s t u : RigState} {g h k : Writers} (piece : Record) (xs ys : List ℕ)
    → GroupWrote s t g h (sent_places piece xs) → GroupWrote t u h k (sent_places piece ys)
    → GroupWrote s u g k (sent_places piece (xs ++ ys))
dealt_then {s} {t} {u} {g} {h} {k} piece xs ys a b =
    subst (λ (l : List Sent). GroupWrote s u g k l) (sym (sent_more piece xs ys)) (group_chain a b)

-- or not to all of them.
pub dealt_stops : {s t u : RigState} {g h : Writers} {ys all : List ℕ} {e : EmFault} (piece : Record)
    (xs more : List ℕ) → all ≡ (xs ++ ys) ++ more → GroupWrote s t g h (sent_places piece xs)
    → StopsDealt piece ys t u h e → StopsDealt piece all s u g e
dealt_stops {ys = ys} piece xs more e a b =
    let n = length-append b.rest more in
    let some = b.some in
    record {
      done = xs ++ b.done;
      rest = b.rest ++ more;
      split = e ∙ ap (λ (l : List ℕ). (xs ++ l) ++ more) b.split
          ∙ ap (λ (l : List ℕ). l ++ more) (sym (append_assoc xs b.done b.rest))
          ∙ append_assoc (xs ++ b.done) b.rest more;
      some = omega (arith, n, some);
      mid = b.mid;
      group = b.group;
      wrote = dealt_then piece xs b.done a b.wrote;
      stops = b.stops;
    }

pub deals_then : {T : Type 0} {s t : RigState} {g h : Writers} (u : RigState) (k : Writers)
    (piece : Record) (xs ys : List ℕ) (result : Result T EmFault) → GroupWrote s t g h (sent_places piece xs)
    → DealsTo piece ys t u h k result → DealsTo piece (xs ++ ys) s u g k result
deals_then u k piece xs ys (Ok x) a b = dealt_then piece xs ys a b
deals_then u k piece xs ys (Err e) a b = dealt_stops piece xs [] (sym (append-nil (xs ++ ys))) a b

pub deals_err : {T : Type 0} (piece : Record) (places : List ℕ) (s t : RigState) (g h : Writers)
    (result : Result T EmFault) (e : EmFault) → IsErrAnd result (λ f. f ≡ e)
    → StopsDealt piece places s t g e → DealsTo piece places s t g h result
deals_err piece places s t g h (Ok x) e i k = absurd i
deals_err piece places s t g h (Err f) e i k =
    subst (λ (v : EmFault). StopsDealt piece places s t g v) (sym i) k

-- The member of a multislab is one of the group's.
pub slab_fits : (n first width : ℕ) → 0 < width → first + width ≤ n
    → place_of n first width < length (slabs_from 0 n)
slab_fits n first width some fits = elim (cases_lt (place_of n first width) (length (slabs_from 0 n))) [
  | inl less ↦ less
  | inr past ↦
      let d : Slab = record { first = 0; width = 0 } in
      let here = slab_there 0 n first width d some fits in
      let none = get_past (slabs_from 0 n) (place_of n first width) d past in
      let w : 0 ≡ width = ap (λ (t : Slab). t.width) (sym none ∙ here) in
      absurd (omega (arith, w, some))
]
  where
    get_past : (xs : List Slab) (k : ℕ) (d : Slab) → length xs ≤ k → get_or xs k d ≡ d
    get_past [] k d l = refl
    get_past (x ∷ xs) zero d l = absurd (omega (arith, l))
    get_past (x ∷ xs) (suc k) d l = get_past xs k d (omega (arith, l))

-- One strip: the piece goes down into it, or not.
pub send_strip : {T : Type 0} {s : RigState} {g : Writers} (t : RigState) (h : Writers) (piece : Record)
    (k : ℕ) (z : Span) (result : Result T EmFault) → takes_piece z piece ≡ true → Sound s → IsGroup s g
    → OnOk result (MemberAppends s t g h k piece) → IfErr result (StopsAppending s t g)
    → DealsTo piece (down_places k (z ∷ []) piece) s t g h result
send_strip {s = s} {g = g} t h piece k z result e sound is appends stops =
    subst (λ (b : Bool). DealsTo piece (if b then k ∷ [] else []) s t g h result) (sym e)
    (send_one t h piece k result sound is appends stops)

pub skip_strip : {s : RigState} {g : Writers} (piece : Record) (k : ℕ) (z : Span)
    → takes_piece z piece ≡ false → Sound s → IsGroup s g
    → GroupWrote s s g g (sent_places piece (down_places k (z ∷ []) piece))
skip_strip {s} {g} piece k z e sound is =
    subst (λ (b : Bool). GroupWrote s s g g (sent_places piece (if b then k ∷ [] else []))) (sym e)
    (group_none sound is)

-- The multislab: the piece spans a strip, or none.
pub send_slab : {T : Type 0} {s : RigState} {g : Writers} (t : RigState) (h : Writers) (piece : Record)
    (n place : ℕ) (slab : Slab) (result : Result T EmFault) → (slab.width ≡ 0 → ⊥) → place ≡ place_of n slab.first slab.width → Sound s
    → IsGroup s g → OnOk result (MemberAppends s t g h (n + place) piece)
    → IfErr result (StopsAppending s t g) → DealsTo piece (slab_place n slab) s t g h result
send_slab {s = s} {g = g} t h piece n place slab result some e sound is appends stops =
    let wide : (slab.width == 0) ≡ false = grind (arith, nat_tests, some) in
    subst (λ (b : Bool). DealsTo piece (if b then [] else (n + place_of n slab.first slab.width) ∷ []) s t g h
    result) (sym wide)
    (subst (λ (p : ℕ). DealsTo piece ((n + p) ∷ []) s t g h result) e
    (send_one t h piece (n + place) result sound is appends stops))

pub skip_slab : {s : RigState} {g : Writers} (piece : Record) (n : ℕ) (slab : Slab) → slab.width ≡ 0
    → Sound s → IsGroup s g → GroupWrote s s g g (sent_places piece (slab_place n slab))
skip_slab {s} {g} piece n slab none sound is =
    let narrow : (slab.width == 0) ≡ true = grind (arith, nat_tests, none) in
    subst (λ (b : Bool). GroupWrote s s g g
    (sent_places piece (if b then [] else (n + place_of n slab.first slab.width) ∷ []))) (sym narrow)
    (group_none sound is)

-- A piece was sent to those of the first k strips that it goes down into.
pub record DownSoFar (zs : List Span) (piece : Record) (k : ℕ) (s t : RigState) (g h : Writers) : Type 0
  where
    pub wrote : GroupWrote s t g h (sent_places piece (down_places 0 (take k zs) piece))

span_split : (k : ℕ) (zs : List Span) (d : Span) → k < length zs
    → zs ≡ (take k zs ++ (get_or zs k d ∷ [])) ++ drop (suc k) zs
span_split k [] d l = absurd (omega (arith, l))
span_split zero (z ∷ zs) d l = refl
span_split (suc k) (z ∷ zs) d l =
    ap (λ (l : List Span). z ∷ l) (span_split k zs d (omega (arith, l)))

take_next : (k : ℕ) (zs : List Span) (d : Span) → k < length zs
    → take (suc k) zs ≡ take k zs ++ (get_or zs k d ∷ [])
take_next k [] d l = absurd (omega (arith, l))
take_next zero (z ∷ zs) d l = refl
take_next (suc k) (z ∷ zs) d l = ap (λ (l : List Span). z ∷ l) (take_next k zs d (omega (arith, l)))

take_length : (k : ℕ) (zs : List Span) → k ≤ length zs → length (take k zs) ≡ k
take_length zero zs l = refl
take_length (suc k) [] l = absurd (omega (arith, l))
take_length (suc k) (z ∷ zs) l = ap suc (take_length k zs (omega (arith, l)))

take_whole : (k : ℕ) (zs : List Span) → length zs ≤ k → take k zs ≡ zs
take_whole zero [] l = refl
take_whole (suc k) [] l = refl
take_whole zero (z ∷ zs) l = absurd (omega (arith, l))
take_whole (suc k) (z ∷ zs) l = ap (λ (l : List Span). z ∷ l) (take_whole k zs (omega (arith, l)))

-- what goes down into one strip more
down_here : (k : ℕ) (zs : List Span) (d : Span) (r : Record) → k < length zs
    → down_places 0 (take k zs ++ (get_or zs k d ∷ [])) r
    ≡ down_places 0 (take k zs) r ++ down_places k (get_or zs k d ∷ []) r
down_here k zs d r l =
    down_split 0 (take k zs) (get_or zs k d ∷ []) r
    ∙ ap (λ (j : ℕ). down_places 0 (take k zs) r ++ down_places j (get_or zs k d ∷ []) r)
    (let n = take_length k zs (omega (arith, l)) in
    let e : 0 + length (take k zs) ≡ k = omega (arith, n) in e)

pub down_none : {s : RigState} {g : Writers} (zs : List Span) (piece : Record) → Sound s → IsGroup s g
    → DownSoFar zs piece 0 s s g g
down_none zs piece sound is = record { wrote = group_none sound is }

pub down_next : {s t u : RigState} {g h m : Writers} {zs : List Span} {piece : Record} {k : ℕ} (d : Span)
    → k < length zs → DownSoFar zs piece k s t g h
    → GroupWrote t u h m (sent_places piece (down_places k (get_or zs k d ∷ []) piece))
    → DownSoFar zs piece (k + 1) s u g m
down_next {s} {t} {u} {g} {h} {m} {zs} {piece} {k} d l a b =
    let e : suc k ≡ k + 1 = omega arith in
    record {
      wrote = subst (λ (j : ℕ). GroupWrote s u g m (sent_places piece (down_places 0 (take j zs) piece))) e
          (subst (λ (l : List ℕ). GroupWrote s u g m (sent_places piece l))
          (sym (ap (λ (l : List Span). down_places 0 l piece) (take_next k zs d l)
          ∙ down_here k zs d piece l))
          (dealt_then piece (down_places 0 (take k zs) piece) (down_places k (get_or zs k d ∷ []) piece)
          a.wrote b));
    }

pub down_stop : {s t u : RigState} {g h : Writers} {zs : List Span} {piece : Record} {k : ℕ} {e : EmFault}
    (d : Span) → k < length zs → DownSoFar zs piece k s t g h
    → StopsDealt piece (down_places k (get_or zs k d ∷ []) piece) t u h e
    → StopsDealt piece (down_places 0 zs piece) s u g e
down_stop {zs = zs} {piece = piece} {k = k} d l a b =
    let front = take k zs ++ (get_or zs k d ∷ []) in
    dealt_stops piece (down_places 0 (take k zs) piece)
    (down_places (0 + length front) (drop (suc k) zs) piece)
    (ap (λ (l : List Span). down_places 0 l piece) (span_split k zs d l)
    ∙ down_split 0 front (drop (suc k) zs) piece
    ∙ ap (λ (l : List ℕ). l ++ down_places (0 + length front) (drop (suc k) zs) piece)
    (down_here k zs d piece l)) a.wrote b

pub down_all : {s t : RigState} {g h : Writers} {zs : List Span} {piece : Record} {k : ℕ}
    → length zs ≤ k → DownSoFar zs piece k s t g h
    → GroupWrote s t g h (sent_places piece (down_places 0 zs piece))
down_all {s} {t} {g} {h} {zs} {piece} {k} l a =
    subst (λ (l : List Span). GroupWrote s t g h (sent_places piece (down_places 0 l piece)))
    (take_whole k zs l) a.wrote

-- The member of the next strip can grow.
pub down_grows : {n : ℕ} {s t : RigState} {g h : Writers} {zs : List Span} {piece : Record} {k : ℕ}
    → n ≡ length zs → k < length zs → HasMembers n n g → DownSoFar zs piece k s t g h
    → MemberCanGrow (member_at h k)
down_grows {n} {s} {t} {g} {h} {zs} {piece} {k} e l m a =
    let f = down_most 0 (take k zs) piece in
    let o = take_length k zs (omega (arith, l)) in
    let c = sent_length piece (down_places 0 (take k zs) piece) in
    let after = members_after 1 (omega (arith, f, o, c, l, e)) m a.wrote in
    let len = after.len in
    grows_by (member_at h k) (after.places k (omega (arith, len, l, e)))

-- A piece is sent to its multislab first, and then to the strips that it goes down into.
pub piece_stops : {s t : RigState} {g : Writers} {e : EmFault} (zs : List Span) (piece : Record)
    → Sound s → IsGroup s g
    → StopsDealt piece (slab_place (length zs) (slab_of (map strip_at zs) (interval_in piece))) s t g e
    → StopsDealt piece (places_of zs piece) s t g e
piece_stops zs piece sound is b =
    dealt_stops piece [] (down_places 0 zs piece) refl (group_none sound is) b

slab_once : (n : ℕ) (t : Slab) → length (slab_place n t) ≤ 1
slab_once n t = by_test (t.width == 0)
  where
    by_test : (b : Bool) → length (if b then [] else (n + place_of n t.first t.width) ∷ []) ≤ 1
    by_test true = omega arith
    by_test false = omega arith

pub piece_members : {s t : RigState} {g h : Writers} (zs : List Span) (piece : Record)
    → HasMembers (length zs) (length zs + 1) g
    → GroupWrote s t g h
    (sent_places piece (slab_place (length zs) (slab_of (map strip_at zs) (interval_in piece))))
    → HasMembers (length zs) (length zs) h
piece_members zs piece m w =
    let slab = slab_of (map strip_at zs) (interval_in piece) in
    let once = slab_once (length zs) slab in
    let l = sent_length piece (slab_place (length zs) slab) in
    members_after (length zs) (omega (arith, once, l)) m w

-- The multislab of a piece, whatever its number.
first_at : (zs : List Strip) (r : Record) → slab_first zs (interval_at r.a r.b) ≡ slab_first zs (interval_in r)
first_at [] r = refl
first_at (z ∷ zs) r =
    ap (λ (n : ℕ). if spans z (interval_in r) then 0 else 1 + n) (first_at zs r)

width_at : (zs : List Strip) (r : Record) → slab_width zs (interval_at r.a r.b) ≡ slab_width zs (interval_in r)
width_at [] r = refl
width_at (z ∷ zs) r =
    ap (λ (n : ℕ). (if spans z (interval_in r) then 1 else 0) + n) (width_at zs r)

-- What the code finds of it: its strips are of the node.
pub record SlabFound (zs : List Span) (piece : Record) (slab : Slab) : Type 0 where
  pub is : slab ≡ slab_of (map strip_at zs) (interval_in piece)
  pub within : slab.first + slab.width ≤ length zs

pub slab_found : (zs : List Span) (piece : Record) (slab : Slab)
    → slab.first ≡ slab_first (map strip_at zs) (interval_at piece.a piece.b)
    → slab.width ≡ slab_width (map strip_at zs) (interval_at piece.a piece.b) → SlabFound zs piece slab
slab_found zs piece slab f w =
    let ss = map strip_at zs in
    let a : slab.first ≡ slab_first ss (interval_in piece) = f ∙ first_at ss piece in
    let b : slab.width ≡ slab_width ss (interval_in piece) = w ∙ width_at ss piece in
    let l = slab_within ss (interval_in piece) in
    let n = length-map zs strip_at in
    record {
      is = λ i. record { first = a i; width = b i };
      within = omega (arith, a, b, l, n);
    }

-- The place of its member, and the room of that.
pub record SlabStands (n place : ℕ) (g : Writers) : Type 0 where
  pub within : n + place < length g.words.items
  pub room : MemberCanGrow (member_at g (n + place))
  pub small : n + place < 2 ^ 63

lists_small : (n : ℕ) → n ≤ 16 → lists_of n ≤ 152
lists_small n l =
    let t = slabs_from-length 0 n in
    let m : n * (n + 1) ≤ 16 * 17 =
    mul-le-mul {n₁ = n} {m₁ = n + 1} {n₂ = 16} {m₂ = 17} l (omega (arith, l)) in
    omega (arith, t, m, l)

pub slab_stands : {g : Writers} (zs : List Span) (piece : Record) (slab : Slab) (place : ℕ)
    → HasMembers (length zs) 1 g → SlabFound zs piece slab → (slab.width ≡ 0 → ⊥)
    → place ≡ place_of (length zs) slab.first slab.width → SlabStands (length zs) place g
slab_stands {g} zs piece slab place m f some e =
    let w : 0 < slab.width = pos_of slab.width some in
    let fits = slab_fits (length zs) slab.first slab.width w f.within in
    let len = m.len in
    let few = lists_small (length zs) m.strips in
    let l : length zs + place < length g.words.items = omega (arith, fits, len, e) in
    record {
      within = l;
      room = grows_by (member_at g (length zs + place)) (m.places (length zs + place) l);
      small = omega (arith, l, len, few);
    }
