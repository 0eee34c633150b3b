-- Pieces that were dealt to a group, whose members became the lists of a node.
use Rattle.std.proofs.Common.{◌≡◌, ℕ, zero, suc, ◌+◌, ◌*◌, ◌^◌, ◌<◌, ◌≤◌, max, List, [], ◌∷◌, ◌++◌, length, map, get_or, Option, Some, None, refl, sym, ap, subst, ◌∙◌, arith, IsTrue, Result, Ok, Err, IsErrAnd, length-append}
use Rattle.std.proofs.lemmas.List.{append-nil, length-map}
use Rattle.std.specs.Prelude.{filter}
use Rattle.em_record.specs.Shape.{fan_of}
use Rattle.em_record.specs.declared.record.Record.{Record}
use Rattle.em_space.specs.Ledger.{Session}
use Rattle.em_space.specs.Rig.{RigState, Sound, Touches}
use Rattle.em_space.specs.declared.fault.EmFault.{EmFault}
use Rattle.em_space.proofs.Ledgers.{full_by, halts_after, spends_beside, spends_then}
use Rattle.em_space.proofs.Lists.{flat}
use Rattle.em_space.proofs.Paying.{pays_more}
use Rattle.em_space.proofs.Sessions.{session_as, session_others, session_then, session_trans}
use Rattle.em_space.proofs.Steps.{cause_after}
use Rattle.em_space.proofs.Within.{touches_within}
use Rattle.em_chain.specs.Chain.{chain_blocks, chain_items, payload_in}
use Rattle.em_chain.specs.Counts.{ceiling}
use Rattle.em_chain.specs.Writers.{AreFilled, IsPackedMember, Member, blocks_of, group_account, group_blocks, member_at, member_count, member_items, members_in, no_member}
use Rattle.em_chain.specs.declared.chain.Chain.{Chain}
use Rattle.em_chain.specs.declared.member.MemberWords.{MemberWords}
use Rattle.em_chain.specs.declared.writers.Writers.{Writers}
use Rattle.em_chain.proofs.Keeps.{payload_kept}
use Rattle.em_chain.proofs.Sessions.{ceiling_rises}
use Rattle.em_chain.proofs.WritersMembers.{members_len}
use Rattle.em_segment_model.specs.Reports.{is_listed, slab_lists}
use Rattle.em_segment_model.specs.Slabs.{Slab, slabs_from}
use Rattle.em_segment_model.specs.Spans.{down_lists, takes_piece}
use Rattle.em_segment_model.specs.declared.strip.Span.{Span}
use Rattle.em_segment_model.proofs.Dealing.{images_by_place}
use Rattle.em_segment_model.proofs.Places.{at-back, at-front}
use Rattle.em_segment_parts.specs.Chains.{chains_blocks, chains_held, chains_lists}
use Rattle.em_segment_parts.specs.Deals.{ArePacked, CanDeal, DealsChain, GroupDeals, GroupDealsTo, StopsChain, StopsGroup, StopsTaking, TakesLists, down_in, empty_members, lists_of, sent_all, slabs_in, source_blocks}
use Rattle.em_segment_parts.specs.declared.dealing.Lists.{Lists}
use Rattle.em_segment_parts.proofs.Chains.{chains_length, chains_stay}
use Rattle.em_segment_parts.proofs.ListsDealt.{dealt_packed, got_by, slab_got, strip_got}
use Rattle.em_segment_parts.proofs.ListsTaken.{packed_at, taken_account, taken_of}
use Rattle.em_segment_parts.proofs.PiecesDealt.{IsUnused, can_filled, can_unused, lists_most, touched_few, unstored_few}
use Rattle.em_segment_parts.proofs.PiecesSent.{can_length}

-- a group has no more members than its rack has places
filled_fits : (b : ℕ) (ms : List MemberWords) (ps : List (Option (List Record))) → AreFilled b ms ps
    → length ms ≤ length ps
filled_fits b [] ps h = omega arith
filled_fits b (m ∷ ms) [] h = absurd h
filled_fits b (m ∷ ms) (None ∷ ps) h = absurd h
filled_fits b (m ∷ ms) (Some f ∷ ps) h = let l = filled_fits b ms ps h.1 in omega (arith, l)

lists_fit : {s : RigState} {zs : List Span} {g : Writers} → CanDeal s zs g
    → lists_of (length zs) ≤ 2 * fan_of s.pool.shape
lists_fit {s} {zs} {g} c =
    let has = c.group.has in
    let l = filled_fits s.pool.shape.block g.words.items g.rack has.filled_by in
    let p = has.places in
    let n = can_length c in
    omega (arith, l, p, n)

-- a group of empty lists has no block
empty_blocks : (s : RigState) (n : ℕ) → flat (blocks_of s (empty_members n)) ≡ []
empty_blocks s zero = refl
empty_blocks s (suc n) = empty_blocks s n

pub group_empty : {s : RigState} {zs : List Span} {g : Writers} → CanDeal s zs g → group_blocks s g ≡ []
group_empty {s} {zs} {g} can =
    ap (λ (xs : List Member). flat (blocks_of s xs)) can.members
    ∙ empty_blocks s (lists_of (length zs))

source_is : {s : RigState} {zs : List Span} {g : Writers} (c : Chain) → CanDeal s zs g
    → source_blocks s c g ≡ chain_blocks s c
source_is {s} {zs} {g} c can =
    ap (λ (ks : List ℕ). chain_blocks s c ++ ks) (group_empty can) ∙ append-nil (chain_blocks s c)

-- The group before the multislabs are taken: its members are packed,
pub slabs_packed : {zs : List Span} {s a : RigState} {c : Chain} {g h : Writers} → c.count ≤ 2 ^ 40
    → CanDeal s zs g → DealsChain zs s a c g h → ArePacked a (members_in h)
slabs_packed few can d = dealt_packed few can d

are_kept : (b : RigState) (xs : List Member) → ((j : ℕ) → j < length xs
    → (IsTrue b.device.told → IsPackedMember b (get_or xs j no_member))
    × (member_count (get_or xs j no_member) ≤ 2 ^ 40)) → ArePacked b xs
are_kept b [] h = tt
are_kept b (x ∷ xs) h = (h 0 (omega arith), are_kept b xs (λ j l. h (suc j) (omega (arith, l))))

-- and after it as well.
pub down_packed : {n : ℕ} {a b : RigState} {h k : Writers} {lists : List Chain} → ArePacked a (members_in h)
    → TakesLists n a b h k lists → ArePacked b (members_in k)
down_packed {n} {a} {b} {h} {k} p x =
    let kl = members_len k.words.items k.rack in
    let hl = members_len h.words.items h.rack in
    let left = x.left in
    let told = x.session.touches.told in
    are_kept b (members_in k) (λ j l.
    let e : member_at h j ≡ member_at k j =
    ap (λ (xs : List Member). get_or xs j no_member) x.split
    ∙ at-front (members_in k) x.gone j no_member l in
    let q = rw e at (packed_at a (members_in h) j (omega (arith, l, kl, hl, left)) p) in (
      (λ y. let z : IsTrue a.device.told = sym told ∙ y in
          (x.stay j (omega (arith, l, kl))).packed z (q.0 z)),
      q.1,
    ))

-- The numbers of the members that are left, one call after another.
record Lengths (n slabs : ℕ) (h k m : Writers) : Type 0 where
  all : length h.words.items ≡ n + slabs
  down : length k.words.items ≡ n
  none : members_in m ≡ []

no_members : (xs : List Member) → length xs ≡ 0 → xs ≡ []
no_members [] e = refl
no_members (x ∷ xs) e = absurd (omega (arith, e))

lengths : {zs : List Span} {s a b t : RigState} {c : Chain} {g h k m : Writers} {slabs down : List Chain}
    → CanDeal s zs g → DealsChain zs s a c g h
    → TakesLists (length (slabs_from 0 (length zs))) a b h k slabs
    → TakesLists (length k.words.items) b t k m down
    → Lengths (length zs) (length (slabs_from 0 (length zs))) h k m
lengths {zs} {s} {a} {b} {t} {c} {g} {h} {k} {m} can d x y =
    let len = d.len ∙ can_length can in
    let first = x.left in
    let last = y.left in
    let ml = members_len m.words.items m.rack in
    record {
      all = len;
      down = omega (arith, len, first);
      none = no_members (members_in m) (omega (arith, ml, last));
    }

map_at : (f : Member → List Record) (xs : List Member) (p : ℕ) → p < length xs
    → get_or (map f xs) p [] ≡ f (get_or xs p no_member)
map_at f [] p l = absurd (omega (arith, l))
map_at f (x ∷ xs) zero l = refl
map_at f (x ∷ xs) (suc p) l = map_at f xs p (omega (arith, l))

-- The lists of strips,
down_lists_are : {zs : List Span} {s a b t : RigState} {c : Chain} {g h k m : Writers}
    {slabs down : List Chain} → CanDeal s zs g → DealsChain zs s a c g h
    → TakesLists (length (slabs_from 0 (length zs))) a b h k slabs
    → TakesLists (length k.words.items) b t k m down → IsTrue s.device.told
    → chains_lists t down ≡ down_lists zs (chain_items s c)
down_lists_are {zs} {s} {a} {b} {t} {c} {g} {h} {k} {m} {slabs} {down} can d x y z =
    let n = lengths can d x y in
    let to_a = d.runs.session.touches.told in
    let to_b = x.session.touches.told in
    let za : IsTrue a.device.told = to_a ∙ z in
    let zb : IsTrue b.device.told = to_b ∙ za in
    let kl = members_len k.words.items k.rack in
    let gone : members_in k ≡ y.gone = y.split ∙ ap (λ (xs : List Member). xs ++ y.gone) n.none in
    let d0 : Span = record { first = 0; last = 0 } in
    let ml = length-map (members_in k) (member_items b) in
    let down_n = n.down in
    let at = λ (p : ℕ) (l : p < length zs).
    let here : get_or (map (member_items b) (members_in k)) p []
    ≡ filter (takes_piece (get_or zs p d0)) (chain_items s c) =
    map_at (member_items b) (members_in k) p (omega (arith, l, kl, down_n))
    ∙ (x.stay p (omega (arith, l, down_n))).items za
    ∙ ap (member_items a) (sym (ap (λ (xs : List Member). get_or xs p no_member) x.split
    ∙ at-front (members_in k) x.gone p no_member (omega (arith, l, kl, down_n))))
    ∙ (got_by p (omega (arith, l)) can d).items z
    ∙ strip_got zs p d0 d.pieces l
    ∙ ap (filter (takes_piece (get_or zs p d0))) (d.pieces_is z) in here in
    y.items zb ∙ ap (map (member_items b)) (sym gone)
    ∙ images_by_place (λ (v : Span). filter (takes_piece v) (chain_items s c)) zs
    (map (member_items b) (members_in k)) d0 [] (omega (arith, ml, kl, down_n)) at

-- and those of multislabs.
slab_lists_are : {zs : List Span} {s a b t : RigState} {c : Chain} {g h k m : Writers}
    {slabs down : List Chain} → CanDeal s zs g → DealsChain zs s a c g h
    → TakesLists (length (slabs_from 0 (length zs))) a b h k slabs
    → TakesLists (length k.words.items) b t k m down → IsTrue s.device.told
    → chains_lists b slabs ≡ slab_lists zs (chain_items s c)
slab_lists_are {zs} {s} {a} {b} {t} {c} {g} {h} {k} {m} {slabs} {down} can d x y z =
    let n = lengths can d x y in
    let ts = slabs_from 0 (length zs) in
    let za : IsTrue a.device.told = d.runs.session.touches.told ∙ z in
    let kl = members_len k.words.items k.rack in
    let hl = members_len h.words.items h.rack in
    let down_n = n.down in
    let all = n.all in
    let gl : length (members_in k) + length x.gone ≡ length (members_in h) =
    sym (ap (λ (xs : List Member). length xs) x.split ∙ length-append (members_in k) x.gone) in
    let d0 : Slab = record { first = 0; width = 0 } in
    let ml = length-map x.gone (member_items a) in
    let at = λ (p : ℕ) (l : p < length ts).
    let place : length (members_in k) + p ≡ length zs + p = omega (arith, kl, down_n) in
    let here : get_or (map (member_items a) x.gone) p []
    ≡ filter (is_listed zs (get_or ts p d0)) (chain_items s c) =
    map_at (member_items a) x.gone p (omega (arith, l, gl, kl, hl, down_n, all))
    ∙ ap (member_items a) (sym (ap (λ (xs : List Member). get_or xs (length (members_in k) + p) no_member) x.split
    ∙ at-back (members_in k) x.gone p no_member))
    ∙ ap (λ (j : ℕ). member_items a (member_at h j)) place
    ∙ (got_by (length zs + p) (omega (arith, l)) can d).items z
    ∙ slab_got zs p d0 d.pieces l
    ∙ ap (filter (is_listed zs (get_or ts p d0))) (d.pieces_is z) in here in
    x.items za
    ∙ images_by_place (λ (v : Slab). filter (is_listed zs v) (chain_items s c)) ts
    (map (member_items a) x.gone) d0 [] (omega (arith, ml, gl, kl, hl, down_n, all)) at

-- All lists were dealt.
pub group_dealt : {zs : List Span} {s a b t : RigState} {c : Chain} {g h k m : Writers} {lists : Lists}
    → CanDeal s zs g → DealsChain zs s a c g h
    → TakesLists (length (slabs_from 0 (length zs))) a b h k (slabs_in lists)
    → TakesLists (length k.words.items) b t k m (down_in lists) → GroupDeals zs s t c lists
group_dealt {zs} {s} {a} {b} {t} {c} {g} {h} {k} {m} {lists} can d x y =
    let n = lengths can d x y in
    let slabs = slabs_in lists in
    let down = down_in lists in
    let to_a = d.runs.session.touches.told in
    let to_b = x.session.touches.told in
    let held = group_blocks b k in
    let st = chains_stay held b t slabs y.session.touches
    (λ z. session_others held (chains_blocks b slabs) x.session (sym to_b ∙ z)) x.are in
    let no_blocks : group_blocks t m ≡ [] =
    ap (λ (xs : List Member). flat (blocks_of t xs)) n.none in
    let session : Session (source_blocks s c g) s t (chains_blocks t down ++ chains_blocks t slabs) =
    session_as (chains_blocks t down ++ chains_blocks t slabs)
    (session_then held (group_blocks t m ++ chains_blocks t down) (chains_blocks b slabs)
    (session_trans d.runs.session x.session) y.session)
    (λ z. ap (λ (ks : List ℕ). chains_blocks t down ++ ks) (st.blocks (to_b ∙ to_a ∙ z))
    ∙ ap (λ (ks : List ℕ). (ks ++ chains_blocks t down) ++ chains_blocks b slabs) (sym no_blocks)) in
    let none : IsUnused (members_in m) = rw n.none (record { blocks = refl; unstored = refl; paid = refl; owed = refl }) in
    let unused = can_unused can in
    let first = taken_account x in
    let last = taken_account y in
    let xb = x.blocks in
    let yb = y.blocks in
    let few = unstored_few (members_in h) in
    let touched = touched_few (members_in h) in
    let hl = members_len h.words.items h.rack in
    let all = n.all in
    let e = spends_then d.runs.spends (spends_then x.spends
    (spends_beside (taken_of (chains_held slabs) x.gone) y.spends)) in
    record {
      has = record {
        down_are = y.are;
        slabs_are = st.are;
        down_len = let l = y.len in let o = n.down in let q = chains_length lists.down.items in
            omega (arith, l, o, q);
        slabs_len = let l = x.len in let q = chains_length lists.slabs.items in omega (arith, l, q);
        down_is = λ z. down_lists_are can d x y z;
        slabs_is = λ z. st.lists (to_b ∙ to_a ∙ z) ∙ slab_lists_are can d x y z;
      };
      session = subst (λ (ks : List ℕ). Session ks s t (chains_blocks t down ++ chains_blocks t slabs))
          (source_is c can) session;
      spends = record {
        held = omega arith;
        used = omega (arith, e.used, unused.blocks, none.blocks);
        most = omega (arith, e.most, unused.blocks, none.blocks, first.blocks, last.blocks, xb, yb);
        moves = omega (
          arith,
          e.moves,
          unused.paid,
          unused.owed,
          none.paid,
          none.owed,
          first.unstored,
          last.unstored,
          few,
          touched,
          hl,
          all,
        );
        later = e.later;
        pays = pays_more e.pays (omega (arith, unused.unstored, none.unstored));
      };
    }

-- The pieces couldn't be appended,
pub group_unsent : {zs : List Span} {s t : RigState} {c : Chain} {g : Writers} {e : EmFault} → Sound s
    → CanDeal s zs g → StopsChain zs s t c g e → StopsGroup zs s t c e
group_unsent {zs} {s} {t} {c} {g} {e} sound can k =
    let n = lists_of (length zs) in
    let p = payload_in s in
    let h = k.stops.halts in
    let unused = can_unused can in
    let fit = lists_fit can in
    let low = sound.shape.block_low in
    record {
      room = ceiling k.sent p + n;
      few = record {
        few = λ z.
            let f = k.few z in
            let r = ceiling_rises k.sent (length (sent_all zs (chain_items s c))) p (omega (arith, low)) f in
            omega (arith, r);
      };
      sound = k.stops.goes.sound;
      touches = subst (λ (ks : List ℕ). Touches ks s t) (source_is c can) k.stops.goes.touches;
      halts = record {
        used = omega (arith, h.used, unused.blocks);
        full = full_by e
            (t.used + (c.blocks + (group_account g).blocks) < s.used + (c.blocks + ceiling k.sent p + n + 1))
            (t.used + c.blocks < s.used + (c.blocks + (ceiling k.sent p + n) + 1))
            (λ q. omega (arith, q, unused.blocks)) h.full;
        most = omega (arith, h.most, unused.blocks);
        moves = omega (arith, h.moves, unused.paid, unused.owed);
        later = h.later;
        pays = pays_more h.pays (omega (arith, unused.unstored, fit));
      };
      cause = k.stops.cause;
    }

-- or a list couldn't be taken.
pub group_untaken : {zs : List Span} {s a t : RigState} {c : Chain} {g h : Writers} {e : EmFault} → Sound s
    → CanDeal s zs g → DealsChain zs s a c g h → StopsTaking a t h e → StopsGroup zs s t c e
group_untaken {zs} {s} {a} {t} {c} {g} {h} {e} sound can d k =
    let n = lists_of (length zs) in
    let p = payload_in s in
    let sent = length (sent_all zs d.pieces) in
    let unused = can_unused can in
    let fit = lists_fit can in
    let filled = can_filled s can in
    let f = d.filled_most in
    let pa = payload_kept (source_blocks s c g) s a d.runs.session.touches in
    let most = lists_most sent n p d.runs.session.sound d.is pa (d.len ∙ can_length can)
    (omega (arith, f, filled)) in
    let x = halts_after d.runs.spends k.halts in
    let blocks = most.blocks in
    let paid = most.paid in
    let unstored = most.unstored in
    let held = source_blocks s c g in
    record {
      room = ceiling sent p + n;
      few = record {
        few = λ z.
            let same = ap (λ (xs : List Record). ceiling (length (sent_all zs xs)) p) (d.pieces_is z) in
            omega (arith, same);
      };
      sound = k.sound;
      touches = subst (λ (ks : List ℕ). Touches ks s t) (source_is c can)
          (touches_within s a t held (group_blocks a h) d.runs.session.touches d.runs.session.within k.touches);
      halts = record {
        used = omega (arith, x.used, unused.blocks, blocks);
        full = full_by e
            (t.used + (c.blocks + (group_account g).blocks)
            < s.used + max (c.blocks + (group_account h).blocks) (group_account h).blocks)
            (t.used + c.blocks < s.used + (c.blocks + (ceiling sent p + n) + 1))
            (λ q. omega (arith, q, unused.blocks, blocks)) x.full;
        most = omega (arith, x.most, unused.blocks, blocks);
        moves = omega (arith, x.moves, unused.paid, unused.owed, paid, unstored);
        later = x.later;
        pays = pays_more x.pays (omega (arith, unused.unstored, fit, unstored));
      };
      cause = cause_after held s a t e d.runs.session.touches k.cause;
    }

-- by the result
pub group_err : (zs : List Span) (s t : RigState) (c : Chain) (result : Result Lists EmFault) (e : EmFault)
    → IsErrAnd result (λ f. f ≡ e) → StopsGroup zs s t c e → GroupDealsTo zs s t c result
group_err zs s t c (Ok x) e i k = absurd i
group_err zs s t c (Err f) e i k = subst (λ (v : EmFault). StopsGroup zs s t c v) (sym i) k
