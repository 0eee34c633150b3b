-- Pieces that are read from a chain and appended to members of a group, one after another.
use Rattle.std.proofs.Common.{◌≡◌, ℕ, zero, suc, ◌+◌, ◌*◌, ◌^◌, ◌<◌, ◌≤◌, Bool, true, List, [], ◌∷◌, ◌++◌, length, take, get_or, refl, sym, ap, subst, ◌∙◌, arith, append_assoc, if◌then◌else◌, IsTrue, Result, Ok, Err, IsErrAnd, length-append}
use Rattle.std.proofs.Math.Nat.{mul-le-mul_right, mul-le-mul}
use Rattle.std.proofs.lemmas.List.{append-nil}
use Rattle.em_record.specs.declared.record.Record.{Record}
use Rattle.em_space.specs.Held.{Holds}
use Rattle.em_space.specs.Ledger.{Halts, Runs, Spends}
use Rattle.em_space.specs.Rig.{BlockCause, Goes, RigState, Sound}
use Rattle.em_space.specs.declared.fault.EmFault.{EmFault}
use Rattle.em_space.proofs.Lists.{apart_sym, distinct_apart, distinct_join, in_use_append}
use Rattle.em_space.proofs.Runs.{runs_as, runs_first, runs_none, runs_of, runs_second, runs_then, runs_wider, stops_first, stops_second, stops_wider}
use Rattle.em_space.proofs.Steps.{block_cause}
use Rattle.em_chain.specs.Chain.{chain_blocks, payload_in}
use Rattle.em_chain.specs.Reader.{reader_blocks, reader_items, rest_of}
use Rattle.em_chain.specs.Reads.{Reads}
use Rattle.em_chain.specs.Session.{Took, taking_account}
use Rattle.em_chain.specs.Writers.{GroupStays, Member, MemberStays, MemberWrote, filled_of, group_account, group_blocks, member_at, members_in, no_member}
use Rattle.em_chain.specs.WritersSession.{GroupWrote, Sent}
use Rattle.em_chain.specs.declared.reader.Reader.{Reader}
use Rattle.em_chain.specs.declared.writers.Writers.{Writers}
use Rattle.em_chain.proofs.Keeps.{has_kept}
use Rattle.em_chain.proofs.Readers.{reader_stays}
use Rattle.em_chain.proofs.Sessions.{took_nothing, took_one, took_stays, took_then}
use Rattle.em_chain.proofs.Withins.{within_ends}
use Rattle.em_chain.proofs.WritersMembers.{filled_same, members_len}
use Rattle.em_chain.proofs.WritersSession.{group_none, group_stays, rack_kept, sent_few}
use Rattle.em_segment_model.specs.Places.{places_of}
use Rattle.em_segment_model.specs.declared.strip.Span.{Span}
use Rattle.em_segment_model.proofs.Dealing.{places_few}
use Rattle.em_segment_parts.specs.Deals.{CanDeal, DealsBeside, DealsEachTo, DealsPast, DealsSome, DealsTo, HasMembers, HasPlaces, StopsDealing, StopsDealt, dealing_account, dealing_blocks, empty_members, lists_of, sent_all, sent_places}
use Rattle.em_segment_parts.proofs.Sending.{member_then, sent_append, sent_length}

-- Both hold their blocks.
pub deals_hold : {s : RigState} {r : Reader} {g : Writers} → DealsBeside s r g → IsTrue s.device.told
    → Holds s (dealing_blocks s r g)
deals_hold {s} {r} {g} i z =
    let a = (i.reader.chain.told z).holds in
    let b = i.group.members_are.holds z in
    record {
      in_use = in_use_append s (chain_blocks s (rest_of r)) (group_blocks s g) a.in_use b.in_use;
      distinct = λ y. distinct_join (chain_blocks s (rest_of r)) (group_blocks s g) (a.distinct y)
          (b.distinct y) (i.apart z);
    }

taking_goes : {s t : RigState} (r : Reader) → r.taking ≡ true → Goes (reader_blocks s r) s t
    → Goes (chain_blocks s (rest_of r)) s t
taking_goes {s} {t} r e g = subst (λ (b : Bool).
    Goes (if b then chain_blocks s (rest_of r) else []) s t) e g

-- The group over a call on the reader,
pub group_beside : {s t : RigState} {r : Reader} {g : Writers} → DealsBeside s r g
    → Goes (reader_blocks s r) s t → GroupStays s t g
group_beside {s} {t} {r} {g} i go =
    let d = taking_goes r i.taking go in
    let e = d.frames.free in
    group_stays (chain_blocks s (rest_of r)) s t g d.touches
    (λ z. apart_sym (chain_blocks s (rest_of r)) (group_blocks s g) (i.apart z))
    (rack_kept i.group.has d.frames.shape d.frames.rack (omega (arith, e))) i.group

-- and both after it.
pub record AfterRead (s t : RigState) (r q : Reader) (g : Writers) (x : Record) : Type 0 where
  pub runs : Runs (r.blocks + (group_account g).blocks) (dealing_blocks s r g) (dealing_blocks t q g)
      (dealing_account r g) (dealing_account q g) s t
  pub took : Took s t r q (x ∷ [])
  pub stays : GroupStays s t g
  pub are : DealsBeside t q g

pub after_read : {s t : RigState} {r q : Reader} {g : Writers} {x : Record} → DealsBeside s r g
    → Goes (reader_blocks s r) s t → Reads s t r q x
    → Spends r.blocks (taking_account r) (taking_account q) s t → AfterRead s t r q g x
after_read {s} {t} {r} {q} {g} {x} i go h k =
    let ks = chain_blocks s (rest_of r) in
    let js = chain_blocks t (rest_of q) in
    let d = taking_goes r i.taking go in
    let o = took_one ks d.touches h in
    let one = runs_of ks js d (within_ends s ks js o.blocks) (λ z. (o.is.chain.told z).holds) k in
    let st = group_beside i go in
    let runs : Runs (r.blocks + (group_account g).blocks) (dealing_blocks s r g) (dealing_blocks t q g)
    (dealing_account r g) (dealing_account q g) s t =
    runs_as (dealing_blocks t q g) (runs_first (group_blocks s g) (group_account g) (deals_hold i) one)
    (λ z. ap (λ (l : List ℕ). js ++ l) (st.blocks z)) in
    record {
      runs = runs;
      took = o;
      stays = st;
      are = record {
        reader = o.is;
        taking = h.taking ∙ i.taking;
        group = st.is;
        apart = λ y. distinct_apart js (group_blocks t g)
            ((runs.session.holds (sym o.told ∙ y)).distinct y);
      };
    }

-- A member that stayed was appended to,
pub member_after : {s t u : RigState} {x y : Member} {xs : List Record} → t.device.told ≡ s.device.told
    → payload_in t ≡ payload_in s → MemberStays s t x → MemberWrote t u x y xs → MemberWrote s u x y xs
member_after {s} {t} {u} {x} {y} {xs} told e a b =
    let f = filled_same s t x e in
    record {
      items = λ z. b.items (told ∙ z) ∙ ap (λ (l : List Record). l ++ xs) (a.items z);
      packed = λ z p. b.packed (told ∙ z) (a.packed z p);
      tight = λ z p. b.tight (told ∙ z) (a.tight z p);
      skip_is = λ z. b.skip_is (told ∙ z);
      count_is = λ z. b.count_is (told ∙ z);
      count_most = b.count_most;
      blocks_most = b.blocks_most;
      filled_most = let m = b.filled_most in omega (arith, m, f);
    }

pub filled_all : (s t : RigState) (xs : List Member) → payload_in t ≡ payload_in s
    → filled_of t xs ≡ filled_of s xs
filled_all s t [] e = refl
filled_all s t (x ∷ xs) e =
    let one = filled_same s t x e in
    let rest = filled_all s t xs e in
    omega (arith, one, rest)

-- None yet,
pub some_none : {s : RigState} {r : Reader} {g : Writers} → Sound s → DealsBeside s r g
    → DealsSome [] [] s s r r g g
some_none {s} {r} {g} h i =
    let w = group_none h i.group in
    record {
      took = took_nothing i.reader;
      is = i.group;
      len = refl;
      runs = runs_none s (dealing_blocks s r g) (dealing_account r g) h (deals_hold i);
      members = w.members;
      grows = omega arith;
      filled_most = omega arith;
      touched_most = omega arith;
    }

-- one that was sent to some members,
some_one : {s t u : RigState} {r q : Reader} {g h : Writers} {x : Record} {sent : List Sent}
    → AfterRead s t r q g x → GroupWrote t u g h sent → DealsSome (x ∷ []) sent s u r q g h
some_one {s} {t} {u} {r} {q} {g} {h} {x} {sent} a w =
    let told = a.took.told in
    let st = reader_stays (group_blocks t g) t u q w.runs.session.touches a.are.apart
    (has_kept 1 (length q.frame) t.pool u.pool w.runs.frames a.are.reader.frame) a.are.reader in
    let js = chain_blocks t (rest_of q) in
    let two : Runs (q.blocks + (group_account h).blocks) (dealing_blocks t q g) (dealing_blocks u q h)
    (dealing_account q g) (dealing_account q h) t u =
    runs_as (dealing_blocks u q h) (runs_second js (taking_account q) (deals_hold a.are) w.runs)
    (λ z. ap (λ (l : List ℕ). l ++ group_blocks u h) (st.blocks z)) in
    let e = a.took.payload_is in
    let f = filled_all s t (members_in g) e in
    let fewer = a.took.fewer in
    let grows = w.grows in
    record {
      took = took_then (x ∷ []) [] a.took (took_stays (group_blocks t g) w.runs.session.touches st);
      is = w.is;
      len = w.len;
      runs = runs_wider (omega (arith, fewer, grows)) (runs_then a.runs two);
      members = λ j l. member_after told e (a.stays.members j l) (w.members j l);
      grows = w.grows;
      filled_most = let m = w.filled_most in omega (arith, m, f);
      touched_most = w.touched_most;
    }

-- and more of them.
pub some_then : {s t u : RigState} {r q p : Reader} {g h k : Writers} {ps rs : List Record}
    {xs ys : List Sent} → DealsSome ps xs s t r q g h → DealsSome rs ys t u q p h k
    → DealsSome (ps ++ rs) (xs ++ ys) s u r p g k
some_then {s} {t} {u} {r} {q} {p} {g} {h} {k} {ps} {rs} {xs} {ys} a b =
    let told = a.took.told in
    let n = length-append xs ys in
    let grows = b.grows in
    let first = a.grows in
    let fewer = a.took.fewer in
    record {
      took = took_then ps rs a.took b.took;
      is = b.is;
      len = b.len ∙ a.len;
      runs = runs_wider (omega (arith, grows, fewer)) (runs_then a.runs b.runs);
      members = λ j l.
          subst (λ (l : List Record). MemberWrote s u (member_at g j) (member_at k j) l)
          (sym (sent_append j xs ys)) (member_then told (a.members j l) (b.members j (rw a.len l)));
      grows = omega (arith, grows, first);
      filled_most = let m = a.filled_most in let o = b.filled_most in omega (arith, m, o, n);
      touched_most = let m = a.touched_most in let o = b.touched_most in omega (arith, m, o, n);
    }

pub sent_all_append : (zs : List Span) (xs ys : List Record)
    → sent_all zs (xs ++ ys) ≡ sent_all zs xs ++ sent_all zs ys
sent_all_append zs [] ys = refl
sent_all_append zs (x ∷ xs) ys =
    ap (λ (l : List Sent). sent_places x (places_of zs x) ++ l) (sent_all_append zs xs ys)
    ∙ sym (append_assoc (sent_places x (places_of zs x)) (sent_all zs xs) (sent_all zs ys))

-- Each piece is sent to fewer members than there are strips, and one more.
pub sent_all_most : (zs : List Span) (xs : List Record)
    → length (sent_all zs xs) ≤ length xs * (length zs + 1)
sent_all_most zs [] = omega arith
sent_all_most zs (x ∷ xs) =
    let h = sent_all_most zs xs in
    let a = length-append (sent_places x (places_of zs x)) (sent_all zs xs) in
    let l = sent_length x (places_of zs x) in
    let f = places_few zs x in
    omega (arith, h, a, l, f)

sent_first : (zs : List Span) (xs : List Record)
    → length (sent_all zs (take 1 xs)) ≤ length (sent_all zs xs)
sent_first zs [] = omega arith
sent_first zs (x ∷ xs) =
    let a = length-append (sent_places x (places_of zs x)) (sent_all zs xs) in
    let n = append-nil (sent_places x (places_of zs x)) in
    let l = ap (λ (l : List Sent). length l) n in
    omega (arith, a, l)

-- A piece was read and sent to its members,
pub past_one : {s t u : RigState} {r q : Reader} {g h : Writers} {x : Record} (zs : List Span)
    → AfterRead s t r q g x → GroupWrote t u g h (sent_places x (places_of zs x))
    → DealsPast 1 zs s u r q g h
past_one {s} {t} {u} {r} {q} {g} {h} {x} zs a w = record {
  pieces = x ∷ [];
  pieces_len = refl;
  deals = subst (λ (l : List Sent). DealsSome (x ∷ []) l s u r q g h)
      (sym (append-nil (sent_places x (places_of zs x)))) (some_one a w);
}

-- or it couldn't be read,
pub past_unread : {s t : RigState} {r : Reader} {g : Writers} {e : EmFault} (zs : List Span)
    (due : List Record) → Sound s → DealsBeside s r g → Goes (reader_blocks s r) s t
    → Halts r.blocks 0 0 (taking_account r) s t e → BlockCause s t e → StopsDealing 1 zs s t r g due e
past_unread {s} {t} {r} {g} {e} zs due h i go k c = record {
  pieces = [];
  sent = [];
  mid = s;
  reader = r;
  group = g;
  deals = some_none h i;
  few = λ z. omega arith;
  most = omega arith;
  stops = stops_wider (omega arith) (omega arith) (omega arith)
      (stops_first (group_blocks s g) (group_account g)
      (record { goes = taking_goes r i.taking go; halts = k; cause = block_cause s t e c }));
}

-- or not be sent to all.
past_unsent : {s t u : RigState} {r q : Reader} {g : Writers} {x : Record} {e : EmFault}
    (zs : List Span) → AfterRead s t r q g x → StopsDealt x (places_of zs x) t u g e
    → StopsDealing 1 zs s u r g (take 1 (reader_items s r)) e
past_unsent {s} {t} {u} {r} {q} {g} {x} {e} zs a k =
    let done = sent_length x k.done in
    let all = ap (λ (l : List ℕ). length l) k.split in
    let n = length-append k.done k.rest in
    let few = places_few zs x in
    record {
      pieces = x ∷ [];
      sent = sent_places x k.done;
      mid = k.mid;
      reader = q;
      group = k.group;
      deals = some_one a k.wrote;
      few = λ z.
          let items = ap (take 1) (a.took.items z) in
          let same = ap (λ (l : List Record). length (sent_all zs l)) items in
          let more = ap (λ (l : List Sent). length l) (append-nil (sent_places x (places_of zs x))) in
          let l = sent_length x (places_of zs x) in
          omega (arith, done, all, n, same, more, l);
      most = omega (arith, done, all, n, few);
      stops = stops_wider (omega arith) (omega arith) (omega arith)
          (stops_second (chain_blocks k.mid (rest_of q)) (taking_account q) k.stops);
    }

pub past_by : {T : Type 0} {s t : RigState} {r q : Reader} {g : Writers} {x : Record} (zs : List Span)
    (u : RigState) (h : Writers) (result : Result T EmFault) → AfterRead s t r q g x
    → DealsTo x (places_of zs x) t u g h result
    → DealsEachTo 1 zs s u r q g h (take 1 (reader_items s r)) result
past_by zs u h (Ok y) a d = past_one zs a d
past_by zs u h (Err e) a d = past_unsent zs a d

pub past_err : {T : Type 0} (n : ℕ) (zs : List Span) (s t : RigState) (r q : Reader) (g h : Writers)
    (due : List Record) (result : Result T EmFault) (e : EmFault) → IsErrAnd result (λ f. f ≡ e)
    → StopsDealing n zs s t r g due e → DealsEachTo n zs s t r q g h due result
past_err n zs s t r q g h due (Ok x) e i k = absurd i
past_err n zs s t r q g h due (Err f) e i k =
    subst (λ (v : EmFault). StopsDealing n zs s t r g due v) (sym i) k

-- No piece yet,
pub past_none : {s : RigState} {r : Reader} {g : Writers} (zs : List Span) → Sound s → DealsBeside s r g
    → DealsPast 0 zs s s r r g g
past_none zs h i = record { pieces = []; pieces_len = refl; deals = some_none h i }

-- one more,
pub past_more : {n : ℕ} {s t u : RigState} {r q p : Reader} {g h k : Writers} {zs : List Span}
    → DealsPast n zs s t r q g h → DealsPast 1 zs t u q p h k → DealsPast (n + 1) zs s u r p g k
past_more {n} {s} {t} {u} {r} {q} {p} {g} {h} {k} {zs} a b =
    let l = length-append a.pieces b.pieces in
    let x = a.pieces_len in
    let y = b.pieces_len in
    record {
      pieces = a.pieces ++ b.pieces;
      pieces_len = omega (arith, l, x, y);
      deals = subst (λ (l : List Sent). DealsSome (a.pieces ++ b.pieces) l s u r p g k)
          (sym (sent_all_append zs a.pieces b.pieces)) (some_then a.deals b.deals);
    }

-- or the next one couldn't be dealt.
pub past_stop : {n i : ℕ} {s t u : RigState} {r q : Reader} {g h : Writers} {zs : List Span} {e : EmFault}
    → i < n → DealsPast i zs s t r q g h → StopsDealing 1 zs t u q h (take 1 (reader_items t q)) e
    → StopsDealing n zs s u r g (reader_items s r) e
past_stop {n} {i} {s} {t} {u} {r} {q} {g} {h} {zs} {e} less a k =
    let l = length-append (sent_all zs a.pieces) k.sent in
    let most = sent_all_most zs a.pieces in
    let len = a.pieces_len in
    let one = k.most in
    let m : suc (length a.pieces) * (length zs + 1) ≤ n * (length zs + 1) =
    mul-le-mul_right (length zs + 1) (omega (arith, less, len)) in
    record {
      pieces = a.pieces ++ k.pieces;
      sent = sent_all zs a.pieces ++ k.sent;
      mid = k.mid;
      reader = k.reader;
      group = k.group;
      deals = some_then a.deals k.deals;
      few = λ z.
          let f = k.few (a.deals.took.told ∙ z) in
          let o = sent_first zs (reader_items t q) in
          let items = ap (λ (xs : List Record). length (sent_all zs xs)) (a.deals.took.items z) in
          let both = ap (λ (l : List Sent). length l) (sent_all_append zs a.pieces (reader_items t q)) in
          let sum = length-append (sent_all zs a.pieces) (sent_all zs (reader_items t q)) in
          omega (arith, l, f, o, items, both, sum);
      most = omega (arith, l, most, one, m);
      stops = k.stops;
    }

-- They are beside each other still,
pub past_beside : {n : ℕ} {s t : RigState} {r q : Reader} {g h : Writers} {zs : List Span}
    → r.taking ≡ true → DealsPast n zs s t r q g h → DealsBeside t q h
past_beside {n} {s} {t} {r} {q} {g} {h} taking d =
    let a = d.deals in
    record {
      reader = a.took.is;
      taking = a.took.taking ∙ taking;
      group = a.is;
      apart = λ y. distinct_apart (chain_blocks t (rest_of q)) (group_blocks t h)
          ((a.runs.session.holds (sym a.took.told ∙ y)).distinct y);
    }

-- and the members have places for one piece more.
empty_get : (n j : ℕ) → j < n → HasPlaces (2 ^ 56) (get_or (empty_members n) j no_member)
empty_get zero j l = absurd (omega (arith, l))
empty_get (suc n) zero l = (omega arith, omega arith)
empty_get (suc n) (suc j) l = empty_get n j (omega (arith, l))

pub empty_length : (n : ℕ) → length (empty_members n) ≡ n
empty_length zero = refl
empty_length (suc n) = ap suc (empty_length n)

pub can_length : {s : RigState} {zs : List Span} {g : Writers} → CanDeal s zs g
    → length g.words.items ≡ lists_of (length zs)
can_length {s} {zs} {g} c =
    sym (members_len g.words.items g.rack)
    ∙ (ap (λ (xs : List Member). length xs) c.members ∙ empty_length (lists_of (length zs)))

pub past_members : {i : ℕ} {s a t : RigState} {r q : Reader} {g h : Writers} {zs : List Span} → i ≤ 2 ^ 40
    → CanDeal a zs g → DealsPast i zs s t r q g h → HasMembers (length zs) (length zs + 1) h
past_members {i} {s} {a} {t} {r} {q} {g} {h} {zs} few c d =
    let n = length zs in
    let len = can_length c in
    let m = sent_all_most zs d.pieces in
    let p = d.pieces_len in
    let strips = c.strips in
    let most : length d.pieces * (n + 1) ≤ 2 ^ 40 * 17 =
    mul-le-mul {n₁ = length d.pieces} {m₁ = n + 1} {n₂ = 2 ^ 40} {m₂ = 17} (omega (arith, p, few)) (omega (arith, strips)) in
    record {
      strips = c.strips;
      len = d.deals.len ∙ len;
      places = λ j l.
          let k : j < length g.words.items = rw (sym d.deals.len) l in
          let w = d.deals.members j k in
          let f = sent_few j (sent_all zs d.pieces) in
          let e : HasPlaces (2 ^ 56) (member_at g j) =
          subst (λ (xs : List Member). HasPlaces (2 ^ 56) (get_or xs j no_member)) (sym c.members)
          (empty_get (lists_of n) j (omega (arith, k, len))) in (
            omega (arith, m, most, f, e.0, w.count_most, strips),
            omega (arith, m, most, f, e.1, w.blocks_most, strips),
          );
    }
