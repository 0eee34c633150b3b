-- All pieces of a chain, dealt to a group of empty lists by a reader that takes the chain.
use Rattle.std.proofs.Common.{◌≡◌, ℕ, zero, suc, ◌+◌, ◌-◌, ◌*◌, ◌/◌, ◌<◌, ◌≤◌, true, List, [], ◌∷◌, ◌++◌, length, inl, inr, refl, sym, ap, subst, ◌∙◌, arith, IsTrue, Result, Ok, Err}
use Rattle.std.proofs.Math.Nat.{mul-add, mul_comm}
use Rattle.std.proofs.lemmas.Bool.{cases_lt}
use Rattle.std.proofs.lemmas.List.{append-nil}
use Rattle.std.proofs.lemmas.Nat.{le-div}
use Rattle.em_record.specs.declared.record.Record.{Record}
use Rattle.em_frames.specs.Pool.{SameFrames}
use Rattle.em_space.specs.Held.{Apart, Holds}
use Rattle.em_space.specs.Ledger.{Session, Stops}
use Rattle.em_space.specs.Rig.{RigState, Sound}
use Rattle.em_space.specs.declared.fault.EmFault.{EmFault}
use Rattle.em_space.proofs.Held.{apart_none}
use Rattle.em_space.proofs.Ledgers.{full_by}
use Rattle.em_space.proofs.Lists.{distinct_join, in_use_append}
use Rattle.em_space.proofs.Paying.{pays_kept, pays_more, pays_then}
use Rattle.em_space.proofs.Runs.{stops_after, stops_wider}
use Rattle.em_space.proofs.Sessions.{session_as, session_still, session_trans}
use Rattle.em_space.proofs.Steps.{cause_after, touches_then, touches_trans, touches_wider}
use Rattle.em_chain.specs.Chain.{IsChain, chain_blocks, payload_in}
use Rattle.em_chain.specs.Counts.{ceiling}
use Rattle.em_chain.specs.Effects.{GivesFrame, LendsFrame, Unmoved}
use Rattle.em_chain.specs.Reader.{reader_items, rest_of}
use Rattle.em_chain.specs.Reads.{Opens}
use Rattle.em_chain.specs.Writers.{GroupStays, HasRack, IsGroup, Member, MemberStays, MemberWrote, account_of, filled_of, group_account, group_blocks, members_in, touched_of}
use Rattle.em_chain.specs.declared.chain.Chain.{Chain}
use Rattle.em_chain.specs.declared.reader.Reader.{Reader}
use Rattle.em_chain.specs.declared.writers.Writers.{Writers}
use Rattle.em_chain.proofs.Keeps.{lent_given, lent_same, payload_kept}
use Rattle.em_chain.proofs.Readers.{length_left}
use Rattle.em_chain.proofs.WritersMembers.{filled_same, members_len}
use Rattle.em_chain.proofs.WritersSession.{group_none, group_room, group_stays, paid_most, rack_kept}
use Rattle.em_chain.proofs.Writings.{cause_still, halts_between}
use Rattle.em_segment_model.specs.declared.strip.Span.{Span}
use Rattle.em_segment_parts.specs.Chains.{IsPackedChain}
use Rattle.em_segment_parts.specs.Deals.{CanDeal, DealsBeside, DealsChain, DealsChainTo, DealsEachTo, DealsPast, StopsChain, StopsDealing, dealing_account, dealing_blocks, empty_members, lists_of, sent_all, source_blocks}
use Rattle.em_segment_parts.proofs.PiecesSent.{can_length, filled_all, member_after}

-- The group after its reader was made,
pub group_lent : {s t : RigState} {g : Writers} → LendsFrame s t → IsGroup s g → GroupStays s t g
group_lent {s} {t} {g} l i =
    let e = l.frames.free in
    group_stays [] s t g l.touches (λ z. apart_none (group_blocks s g))
    (rack_kept i.has l.frames.shape l.frames.rack (omega (arith, e))) i

-- with which it has no block in common,
pub deals_opened : {s t : RigState} {c : Chain} {r : Reader} {g : Writers} → LendsFrame s t
    → Opens s t c true r → IsGroup s g
    → (IsTrue s.device.told → Apart (chain_blocks s c) (group_blocks s g)) → DealsBeside t r g
deals_opened {s} {t} {c} {r} {g} l o i a =
    let st = group_lent l i in
    record {
      reader = o.is;
      taking = o.taking_is;
      group = st.is;
      apart = λ y. let z : IsTrue s.device.told = sym l.touches.told ∙ y in
          rw (o.blocks z, st.blocks z) (a z);
    }

pub can_lent : {s t : RigState} {zs : List Span} {g : Writers} → LendsFrame s t → CanDeal s zs g
    → CanDeal t zs g
can_lent l c = record { group = (group_lent l c.group).is; strips = c.strips; members = c.members }

-- The rack after the frame came back.
pub rack_given : {s a b t : RigState} {g h : Writers} → HasRack s g → LendsFrame s a
    → SameFrames a.pool b.pool → GivesFrame [] b t → length h.words.items ≡ length g.words.items
    → HasRack b h → HasRack t h
rack_given {s} {a} {b} {t} {g} {h} r l e v len k =
    let x = l.frames.free in
    let y = e.free in
    let z = v.frames.free in
    let o = r.out in
    let same = v.frames.shape ∙ (e.shape ∙ l.frames.shape) in
    record {
      places = rw v.frames.shape k.places;
      filled_by = rw v.frames.shape k.filled_by;
      out = rw (same, len) (omega (arith, x, y, z, o));
      rack_out = v.frames.rack ∙ k.rack_out;
    }

-- As many frames are free before the reader's one comes back.
pub deals_frames : {T : Type 0} (n : ℕ) (zs : List Span) (a b : RigState) (r q : Reader) (g h : Writers)
    (due : List Record) (result : Result T EmFault) → DealsEachTo n zs a b r q g h due result
    → SameFrames a.pool b.pool
deals_frames n zs a b r q g h due (Ok x) d = d.deals.runs.frames
deals_frames n zs a b r q g h due (Err e) d =
    let x = d.deals.runs.frames in
    let y = d.stops.goes.frames in
    record {
      shape = y.shape ∙ x.shape;
      free = y.free ∙ x.free;
      rack = y.rack ∙ x.rack;
      free_areas = y.free_areas ∙ x.free_areas;
      peak = omega (arith, x.peak, y.peak);
    }

source_holds : {s : RigState} {c : Chain} {g : Writers} → IsChain s c → IsGroup s g
    → (IsTrue s.device.told → Apart (chain_blocks s c) (group_blocks s g)) → IsTrue s.device.told
    → Holds s (source_blocks s c g)
source_holds {s} {c} {g} i k a z =
    let x = (i.told z).holds in
    let y = k.members_are.holds z in
    record {
      in_use = in_use_append s (chain_blocks s c) (group_blocks s g) x.in_use y.in_use;
      distinct = λ d. distinct_join (chain_blocks s c) (group_blocks s g) (x.distinct d) (y.distinct d)
          (a z);
    }

-- A member that was appended to, and then stayed.
member_before : {s t u : RigState} {x y : Member} {xs : List Record} → t.device.told ≡ s.device.told
    → payload_in u ≡ payload_in t → MemberWrote s t x y xs → MemberStays t u y → MemberWrote s u x y xs
member_before {s} {t} {u} {x} {y} {xs} told e a b =
    let f = filled_same t u y e in
    record {
      items = λ z. b.items (told ∙ z) ∙ a.items z;
      packed = λ z p. b.packed (told ∙ z) (a.packed z p);
      tight = λ z p. b.tight (told ∙ z) (a.tight z p);
      skip_is = a.skip_is;
      count_is = a.count_is;
      count_most = a.count_most;
      blocks_most = a.blocks_most;
      filled_most = let m = a.filled_most in omega (arith, m, f);
    }

none_of : (xs : List Record) → length xs ≡ 0 → xs ≡ []
none_of [] e = refl
none_of (x ∷ xs) e = absurd (omega (arith, e))

-- All went well,
all_dealt : {s a b t : RigState} {c : Chain} {r q : Reader} {g h : Writers} {zs : List Span}
    → IsPackedChain s c → 0 < c.count → IsGroup s g
    → (IsTrue s.device.told → Apart (chain_blocks s c) (group_blocks s g)) → LendsFrame s a → Unmoved s a
    → Opens s a c true r → DealsPast c.count zs a b r q g h → GivesFrame [] b t → Unmoved b t → HasRack t h
    → DealsChain zs s t c g h
all_dealt {s} {a} {b} {t} {c} {r} {q} {g} {h} {zs} is some i off l u o p v w rack =
    let d = p.deals in
    let gs = group_lent l i in
    let gt = group_stays [] b t h v.touches (λ z. apart_none (group_blocks b h)) rack d.is in
    let blocks = ap (λ (x : Chain). x.blocks) o.words in
    let count = ap (λ (x : Chain). x.count) o.words in
    let n = p.pieces_len in
    let left = d.took.left_is in
    let none : q.count ≡ 0 = omega (arith, n, left, count) in
    let gone : q.blocks ≡ 0 =
    d.took.none_left (λ z. absurd (omega (arith, z, some, count))) none in
    let told = d.took.told in
    let first = l.touches.told in
    let rest = chain_blocks b (rest_of q) in
    let empty : rest ≡ [] = rw gone refl in
    let pa = payload_kept [] s a l.touches in
    let pb = payload_kept [] b t v.touches in
    let fa = filled_all s a (members_in g) pa in
    let fb = filled_all b t (members_in h) pb in
    let e = d.runs.spends in
    let lent = u.same in
    let given = w.same in
    let owed_is = o.owed_is in
    let x : Session (source_blocks s c g) s a (dealing_blocks a r g) =
    session_as (dealing_blocks a r g)
    (session_still (source_blocks s c g) l.sound l.touches (source_holds is.is i off))
    (λ z. rw (o.blocks z, gs.blocks z) refl) in
    let m : Session (dealing_blocks b q h) b t (group_blocks t h) =
    session_as (group_blocks t h)
    (session_still (dealing_blocks b q h) v.sound v.touches (λ z. d.runs.session.holds (sym told ∙ z)))
    (λ z. gt.blocks z ∙ ap (λ (ks : List ℕ). ks ++ group_blocks b h) (sym empty)) in
    record {
      pieces = p.pieces;
      pieces_len = n;
      pieces_is = λ z.
          let y : IsTrue a.device.told = first ∙ z in
          let no : reader_items b q ≡ [] = none_of (reader_items b q)
          (length_left b q d.took.is (told ∙ y) ∙ none) in
          sym (append-nil p.pieces) ∙ ap (λ (xs : List Record). p.pieces ++ xs) (sym no)
          ∙ sym (d.took.items y) ∙ o.items z;
      is = gt.is;
      len = d.len;
      runs = record {
        session = session_trans (session_trans x d.runs.session) m;
        frames = lent_given s.pool b.pool t.pool
            (lent_same 1 s.pool a.pool b.pool l.frames d.runs.frames) v.frames;
        spends = record {
          held = omega arith;
          used = omega (arith, e.used, lent.used, given.used, blocks, gone);
          most = omega (arith, e.most, lent.used, lent.most, given.most, blocks);
          moves = omega (arith, e.moves, u.moves, w.moves, owed_is);
          later = omega (arith, e.later, u.moves, w.moves);
          pays = pays_then (pays_kept (0 + (group_account g).unstored) (omega (arith, lent.used)) (omega (arith, u.moves)))
              (pays_then (pays_more e.pays (omega arith))
              (pays_kept (group_account h).unstored (omega (arith, given.used)) (omega (arith, w.moves)))
              (omega (arith, w.moves))) (omega (arith, e.later, w.moves));
        };
      };
      members = λ j k. member_before (told ∙ first) pb
          (member_after first pa (gs.members j k) (d.members j k)) (gt.members j (rw d.len k));
      filled_most = let f = d.filled_most in omega (arith, f, fa, fb);
    }

-- The blocks of a group to which so many records were sent: those that they fill, and one for each member.
room_most : (p b n t : ℕ) → 0 < p → p * b ≤ n + p * t → b ≤ ceiling n p + t
room_most p b n t pos h = elim (cases_lt t b) [
  | inl less ↦
      let d = b - t in
      let e : b ≡ t + d = omega (arith, less) in
      let m = mul-add p t d in
      let f : p * (t + d) ≤ n + p * t = rw e at h in
      let k = mul_comm d p in
      let q : d ≤ (n + p - 1) / p = le-div d (n + p - 1) p pos (omega (arith, m, f, k, pos)) in
      omega (arith, e, q)
  | inr more ↦ omega (arith, more)
]

pub touched_few : (xs : List Member) → touched_of xs ≤ length xs
touched_few [] = omega arith
touched_few (inl c ∷ xs) = let h = touched_few xs in omega (arith, h)
touched_few (inr w ∷ xs) = let h = touched_few xs in omega (arith, h)

pub unstored_few : (xs : List Member) → (account_of xs).unstored ≤ touched_of xs
unstored_few [] = omega arith
unstored_few (inl c ∷ xs) = let h = unstored_few xs in omega (arith, h)
unstored_few (inr w ∷ xs) = let h = unstored_few xs in omega (arith, h)

-- A group of empty lists has no block, and nothing was paid for it.
pub record IsUnused (xs : List Member) : Type 0 where
  pub blocks : (account_of xs).blocks ≡ 0
  pub unstored : (account_of xs).unstored ≡ 0
  pub paid : (account_of xs).paid ≡ 0
  pub owed : (account_of xs).owed ≡ 0

empty_unused : (n : ℕ) → IsUnused (empty_members n)
empty_unused zero = record { blocks = refl; unstored = refl; paid = refl; owed = refl }
empty_unused (suc n) =
    let h = empty_unused n in
    record {
      blocks = omega (arith, h.blocks);
      unstored = omega (arith, h.unstored);
      paid = omega (arith, h.paid);
      owed = omega (arith, h.owed);
    }

pub can_unused : {s : RigState} {zs : List Span} {g : Writers} → CanDeal s zs g → IsUnused (members_in g)
can_unused {zs = zs} c = subst IsUnused (sym c.members) (empty_unused (lists_of (length zs)))

empty_filled : (s : RigState) (n : ℕ) → filled_of s (empty_members n) ≡ 0
empty_filled s zero = refl
empty_filled s (suc n) = let h = empty_filled s n in omega (arith, h)

pub can_filled : {s : RigState} {zs : List Span} {g : Writers} (t : RigState) → CanDeal s zs g
    → filled_of t (members_in g) ≡ 0
can_filled {zs = zs} t c =
    ap (λ (xs : List Member). filled_of t xs) c.members ∙ empty_filled t (lists_of (length zs))

-- What a group has at most to which so many records were sent.
pub record ListsMost (sent lists p : ℕ) (h : Writers) : Type 0 where
  pub blocks : (group_account h).blocks ≤ ceiling sent p + lists
  pub paid : (group_account h).paid ≤ 2 * ceiling sent p + 3 * lists
  pub unstored : (group_account h).unstored ≤ lists

pub lists_most : {t : RigState} {h : Writers} (sent lists p : ℕ) → Sound t → IsGroup t h
    → payload_in t ≡ p → length h.words.items ≡ lists → filled_of t (members_in h) ≤ sent
    → ListsMost sent lists p h
lists_most {t} {h} sent lists p sound is e len most =
    let low = sound.shape.block_low in
    let xs = members_in h in
    let room : p * (group_account h).blocks ≤ filled_of t xs + 0 + p * touched_of xs =
    subst (λ (n : ℕ). n * (group_account h).blocks ≤ filled_of t xs + 0 + n * touched_of xs) e
    (group_room (group_none sound is)) in
    let pos : 0 < p = subst (λ (n : ℕ). 0 < n) e (omega (arith, low)) in
    let b = room_most p (group_account h).blocks sent (touched_of xs) pos (omega (arith, room, most)) in
    let few = touched_few xs in
    let n = members_len h.words.items h.rack in
    let paid = paid_most xs in
    let un = unstored_few xs in
    record {
      blocks = omega (arith, b, few, n, len);
      paid = omega (arith, b, few, n, len, paid);
      unstored = omega (arith, few, n, len, un);
    }

-- or a call gave up.
chain_stopped : {s a b t : RigState} {c : Chain} {r : Reader} {g : Writers} {zs : List Span} {e : EmFault}
    → CanDeal s zs g → LendsFrame s a → Unmoved s a → Opens s a c true r
    → StopsDealing c.count zs a b r g (reader_items a r) e → GivesFrame [] b t → Unmoved b t
    → StopsChain zs s t c g e
chain_stopped {s} {a} {b} {t} {c} {r} {g} {zs} {e} can l u o k v w =
    let n = lists_of (length zs) in
    let p = payload_in s in
    let gs = group_lent l can.group in
    let blocks = ap (λ (x : Chain). x.blocks) o.words in
    let pa = payload_kept [] s a l.touches in
    let d = k.deals in
    let filled = can_filled a can in
    let few = d.filled_most in
    let most = lists_most (length k.sent) n p d.runs.session.sound d.is (d.took.payload_is ∙ pa)
    (d.len ∙ can_length can) (omega (arith, few, filled)) in
    let fewer = d.took.fewer in
    let blocks_most = most.blocks in
    let stops : Stops (c.blocks + ceiling (length k.sent) p + n + 1)
    (2 * ceiling (length k.sent) p + 3 * n + 3) (n + 1) (dealing_blocks a r g) (dealing_account r g) a b e =
    stops_wider (omega (arith, blocks, fewer, blocks_most)) (omega (arith, most.paid))
    (omega (arith, most.unstored)) (stops_after d.runs k.stops) in
    let halts = halts_between u stops.halts w in
    let owed_is = o.owed_is in
    let held = source_blocks s c g in
    record {
      sent = length k.sent;
      few = λ z.
          let f = k.few (l.touches.told ∙ z) in
          let items = ap (λ (xs : List Record). length (sent_all zs xs)) (o.items z) in
          omega (arith, f, items);
      stops = record {
        goes = record {
          sound = v.sound;
          touches = touches_then held s b t (touches_trans held (dealing_blocks a r g) s a b
              (touches_wider held [] s a l.touches (λ z j i f. tt)) stops.goes.touches
              (λ z j i f. rw (o.blocks z, gs.blocks z) f)) v.touches;
          frames = lent_given s.pool b.pool t.pool
              (lent_same 1 s.pool a.pool b.pool l.frames stops.goes.frames) v.frames;
        };
        halts = record {
          used = omega (arith, halts.used, blocks);
          full = full_by e
              (t.used + (r.blocks + (group_account g).blocks)
              < s.used + (c.blocks + ceiling (length k.sent) p + n + 1))
              (t.used + (c.blocks + (group_account g).blocks)
              < s.used + (c.blocks + ceiling (length k.sent) p + n + 1)) (λ q. omega (arith, q, blocks)) halts.full;
          most = omega (arith, halts.most, blocks);
          moves = omega (arith, halts.moves, owed_is);
          later = halts.later;
          pays = halts.pays;
        };
        cause = cause_still s b t e w v.touches (cause_after [] s a b e l.touches stops.cause);
      };
    }

-- by the result
pub chain_dealt : {T : Type 0} {s a b t : RigState} {c : Chain} {r : Reader} {g h : Writers}
    (zs : List Span) (q : Reader) (result : Result T EmFault) → IsPackedChain s c → 0 < c.count
    → CanDeal s zs g → (IsTrue s.device.told → Apart (chain_blocks s c) (group_blocks s g))
    → LendsFrame s a → Unmoved s a → Opens s a c true r
    → DealsEachTo c.count zs a b r q g h (reader_items a r) result → GivesFrame [] b t → Unmoved b t
    → HasRack t h → DealsChainTo zs s t c g h result
chain_dealt zs q (Ok x) is some can off l u o d v w rack =
    all_dealt is some can.group off l u o d v w rack
chain_dealt zs q (Err e) is some can off l u o d v w rack = chain_stopped can l u o d v w
