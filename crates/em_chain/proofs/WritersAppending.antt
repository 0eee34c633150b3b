-- A member that is opened, gets a record, and goes back to its place.
use Rattle.std.proofs.Common.{◌≡◌, ℕ, ◌+◌, ◌-◌, ◌*◌, ◌<◌, ◌≤◌, min, inl, inr, List, [], ◌∷◌, ◌++◌, Some, None, length, get_or, set, sym, ap, ◌∙◌, subst, arith, IsTrue, Result, Ok, Err, OnOk}
use Rattle.std.specs.Prelude.{IsErr, IsErrAnd}
use Rattle.std.proofs.lemmas.List.{length-set, get_or-set_same, get_or-set_other, set-set}
use Rattle.em_record.specs.declared.record.Record.{Record}
use Rattle.em_frames.specs.Pool.{HasFrames, SameFrames}
use Rattle.em_space.specs.Held.{Holds, NoneInUse}
use Rattle.em_space.specs.Ledger.{Spends, Halts, Costs, Session}
use Rattle.em_space.specs.Rig.{RigState, Sound, Goes, IfFull}
use Rattle.em_space.specs.declared.fault.EmFault.{EmFault}
use Rattle.em_space.specs.declared.fault.EmFault.TheVariants.{DeviceFault, Full, Damaged}
use Rattle.em_space.proofs.Lists.{flat}
use Rattle.em_space.proofs.Ledgers.{spends_then, spends_wider, halts_after, halts_wider}
use Rattle.em_space.proofs.Sessions.{session_still, session_as, session_trans}
use Rattle.em_space.proofs.Steps.{same_frames_then}
use Rattle.em_chain.specs.Effects.{OnFull}
use Rattle.em_chain.specs.Writers.{Member, group_blocks, AreMembers, HasRack, IsGroup, Opens, MemberAppends, members_in, member_at, no_member, words_in, member_blocks, member_account, account_of, open_account, group_account, blocks_of}
use Rattle.em_chain.specs.Session.{writer_account, one_more}
use Rattle.em_chain.specs.Writer.{writer_blocks}
use Rattle.em_chain.specs.Writes.{Appends, AppendCosts}
use Rattle.em_chain.specs.declared.writers.Writers.{Writers}
use Rattle.em_chain.specs.declared.writer.Writer.{Writer}
use Rattle.em_chain.proofs.Keeps.{has_kept}
use Rattle.em_chain.proofs.WritersMembers.{KeepsFrames, others_stay, members_session, members_step, spends_at, halts_at, members_set}
use Rattle.em_chain.proofs.Withins.{within_grows}
use Rattle.em_chain.proofs.WritersMembers.{member_holds}
use Rattle.em_chain.proofs.WritersOpening.{has_rack_set, place_within, member_within}
use Rattle.std.proofs.Common.{Option}
use Rattle.em_space.specs.Rig.{Cause, BlockCause}
use Rattle.std.specs.Prelude.{IfErr}
use Rattle.em_space.proofs.Within.{goes_wider, goes_within, within_kept, within_same}
use Rattle.em_space.proofs.Steps.{block_cause, cause_after}
use Rattle.em_chain.specs.Writers.{MemberWrote, StopsAppending, group_account, group_blocks}
use Rattle.em_chain.proofs.WritersMembers.{blocks_at, within_member}
use Rattle.em_space.proofs.Lists.{flat}
use Rattle.em_space.specs.declared.fault.EmFault.TheVariants.{DeviceFault, Full, Damaged}
use Rattle.std.specs.Prelude.{◌↔◌}
use Rattle.em_record.specs.Count.{Rose}
use Rattle.em_space.specs.Rig.{SameBlocks}
use Rattle.em_chain.specs.Writer.{NeedsBlock}
use Rattle.em_chain.specs.Writers.{FullIfNeeded}
use Rattle.em_chain.specs.Chain.{payload_in}
use Rattle.em_chain.specs.Writers.{filled_of, member_filled, touched_of}
use Rattle.em_chain.proofs.Keeps.{payload_kept}
use Rattle.em_chain.proofs.WritersMembers.{filled_at, touched_at}

-- What an append costs a member whose last block is in its frame.
pub open_spends : {T : Type 0} (t u : RigState) (w v : Writer) (x : T)
    → AppendCosts {T = T} t u w v (Ok x)
    → Spends (one_more t w) (writer_account w) (writer_account v) t u
    → Spends v.blocks (open_account w) (open_account v) t u
open_spends t u w v x k c = record {
  held = omega arith;
  used = c.used;
  most = omega (arith, k.most, k.used);
  moves = omega (arith, c.moves, k.used, k.used_low);
  later = c.later;
  pays = record { is = c.pays.is };
}

full_if : (e : EmFault) (P Q : Type 0) → (P → Q) → OnFull e P → IfFull e (λ _. Q)
full_if DeviceFault P Q f h = tt
full_if (Full n) P Q f h = f h
full_if (Damaged k) P Q f h = tt

pub open_halts : {T : Type 0} (t u : RigState) (w v : Writer) (e : EmFault)
    → AppendCosts {T = T} t u w v (Err e)
    → Halts (one_more t w) (2 * one_more t w) (min w.blocks 1) (writer_account w) t u e
    → Halts (w.blocks + 1) ((open_account w).paid + 2) (min w.blocks 1) (open_account w) t u e
open_halts t u w v e k c = record {
  used = omega (arith, k.used_err);
  full = full_if e (u.used ≡ t.used) (u.used + w.blocks < t.used + (w.blocks + 1))
      (λ x. omega (arith, x)) k.full;
  most = omega (arith, k.most, k.used_err);
  moves = omega (arith, k.moves_err);
  later = c.later;
  pays = record { is = c.pays.is };
}

-- A session of the member alone.
pub member_session : (s t u : RigState) (x : Member) (w v : Writer) (item : Record)
    → (IsTrue s.device.told → Holds s (member_blocks s x)) → Goes [] s t → Opens s t x w
    → Goes (writer_blocks t w) t u → Appends t u w v item
    → Session (member_blocks s x) s u (writer_blocks u v)
member_session s t u x w v item n a o b p =
    session_trans
    (session_as (writer_blocks t w) (session_still (member_blocks s x) a.sound a.touches n) o.blocks)
    (record {
      sound = b.sound;
      touches = b.touches;
      within = within_grows t (writer_blocks t w) (writer_blocks u v) p.grown;
      holds = λ z. (p.is.told (b.touches.told ∙ z)).holds;
    })

none_before : (s t : RigState) (ks : List ℕ) → Goes [] s t → IsTrue s.device.told → NoneInUse t ks
    → NoneInUse s ks
none_before s t [] a z n = tt
none_before s t (k ∷ ks) a z n =
    ((λ u. n.0 (a.touches.others z k u tt).in_use), none_before s t ks a z n.1)

-- A member was opened, was appended to, and came back to its place.
pub record Written (s t u : RigState) (g h : Writers) (i : ℕ) (w v : Writer) : Type 0 where
  pub sound : Sound s
  pub is : IsGroup s g
  pub within : i < length g.words.items
  pub opens : Opens s t (member_at g i) w
  pub first : Goes [] s t
  pub goes : Goes (writer_blocks t w) t u
  pub frame : HasFrames 1 (length v.frame) u.pool
  pub rack : h.rack ≡ set (set g.rack i None) i (Some v.frame)
  pub members : h.words.items ≡ set g.words.items i (words_in v)

pub written_of : {s t u : RigState} {g m h : Writers} {i : ℕ} {w v : Writer} → Sound s → IsGroup s g
    → i < length g.words.items → Opens s t (member_at g i) w → Goes [] s t
    → m.rack ≡ set g.rack i None → m.words ≡ g.words → Goes (writer_blocks t w) t u
    → HasFrames 1 (length v.frame) u.pool → h.rack ≡ set m.rack i (Some v.frame)
    → h.words.items ≡ set m.words.items i (words_in v) → Written s t u g h i w v
written_of {s} {t} {u} {g} {m} {h} {i} {w} {v} sound is within opens first er em goes frame hr hm =
    record {
      sound = sound;
      is = is;
      within = within;
      opens = opens;
      first = first;
      goes = goes;
      frame = frame;
      rack = hr ∙ ap (λ (ps : List (Option (List Record))). set ps i (Some v.frame)) er;
      members = hm ∙ ap (λ ms. set ms.items i (words_in v)) em;
    }

written_frames : {s t u : RigState} {g h : Writers} {i : ℕ} {w v : Writer}
    → Written s t u g h i w v → SameFrames s.pool u.pool
written_frames {s} {t} {u} k = same_frames_then s.pool t.pool u.pool k.first.frames k.goes.frames

pub written_rack : {s t u : RigState} {g h : Writers} {i : ℕ} {w v : Writer}
    → Written s t u g h i w v → HasRack u h
written_rack {s} {t} {u} {g} {h} {i} {w} {v} k =
    let f = written_frames k in
    has_rack_set s u g h i (words_in v) v.frame k.is.has f k.within
    (k.frame.len_is ∙ ap (λ x. x.block) f.shape) k.members
    (k.rack ∙ set-set g.rack i None (Some v.frame))

written_members : {s t u : RigState} {g h : Writers} {i : ℕ} {w v : Writer}
    → Written s t u g h i w v → members_in h ≡ set (members_in g) i (inr v)
written_members {s} {t} {u} {g} {h} {i} {w} {v} k =
    let r : h.rack ≡ set g.rack i (Some v.frame) = k.rack ∙ set-set g.rack i None (Some v.frame) in
    rw (k.members, r) (members_set g.words.items g.rack i (words_in v) v.frame
    (place_within s g i k.is.has k.within))

written_member : {s t u : RigState} {g h : Writers} {i : ℕ} {w v : Writer}
    → Written s t u g h i w v → member_at h i ≡ inr v
written_member {s} {t} {u} {g} {h} {i} {w} {v} k =
    ap (λ (xs : List Member). get_or xs i no_member) (written_members k)
    ∙ get_or-set_same (members_in g) i (inr v) no_member (member_within g i k.within)

-- Only the member's blocks may have changed.
written_goes : {s t u : RigState} {g h : Writers} {i : ℕ} {w v : Writer}
    → Written s t u g h i w v → Goes (member_blocks s (member_at g i)) s u
written_goes {s} {t} {u} {g} {h} {i} {w} {v} k =
    let ks = member_blocks s (member_at g i) in
    goes_within ks (writer_blocks t w) s t u
    (goes_wider ks [] s t (record { off = λ z j y o. tt }) k.first)
    (within_kept s ks ks (writer_blocks t w) (within_same s ks) k.opens.blocks) k.goes

written_spends : {T : Type 0} {s t u : RigState} {g h : Writers} {i : ℕ} {w v : Writer} (x : T)
    → Written s t u g h i w v → AppendCosts t u w v (Ok x)
    → Spends (one_more t w) (writer_account w) (writer_account v) t u
    → Spends (group_account h).blocks (group_account g) (group_account h) s u
written_spends {T} {s} {t} {u} {g} {h} {i} {w} {v} x k a c =
    let lt = member_within g i k.within in
    let xs = members_in g in
    let b = k.opens.blocks_is in
    let used : u.used + w.blocks ≡ t.used + v.blocks = a.used in
    let low : t.used ≤ u.used = a.used_low in
    let one : Spends ((member_account (member_at g i)).blocks + (v.blocks - w.blocks))
    (member_account (member_at g i)) (open_account v) s u =
    spends_wider (omega arith) (spends_then k.opens.spends (open_spends t u w v x a c)) in
    let all : (account_of (set xs i (inr v))).blocks + (member_account (member_at g i)).blocks
    ≡ (account_of xs).blocks + v.blocks = blocks_at xs i (inr v) lt in
    subst (λ (ys : List Member). Spends (account_of ys).blocks (account_of xs) (account_of ys) s u)
    (sym (written_members k))
    (spends_wider (omega arith) (spends_at s u xs i (v.blocks - w.blocks) (inr v) lt one))

written_wrote : {s t u : RigState} {g h : Writers} {i : ℕ} {w v : Writer} (item : Record)
    → Written s t u g h i w v → Appends t u w v item → v.blocks ≤ w.blocks + 1
    → MemberWrote s u (member_at g i) (member_at h i) (item ∷ [])
written_wrote {s} {t} {u} {g} {h} {i} {w} {v} item k p more =
    let told = k.first.touches.told in
    let x = member_at g i in
    let o = k.opens in
    let wrote : MemberWrote s u x (inr v) (item ∷ []) = record {
      items = λ z. p.items (told ∙ z) ∙ ap (λ (l : List Record). l ++ item ∷ []) (o.items z);
      packed = λ z q. p.packed (told ∙ z) (o.packed z q);
      tight = λ z q. p.tight (told ∙ z) (o.tight z q);
      skip_is = λ z. p.skip_is ∙ o.skip_is z;
      count_is = λ z. p.count_is ∙ ap (λ (n : ℕ). n + 1) (o.count_is z);
      count_most = let q = o.count_most in let n = p.count_is in omega arith;
      blocks_most = let q = o.blocks_is in omega arith;
      filled_most = let q = o.filled_most in let n = p.filled_is in omega arith;
    } in
    subst (λ (y : Member). MemberWrote s u x y (item ∷ [])) (sym (written_member k)) wrote

pub written_is : {T : Type 0} {s t u : RigState} {g h : Writers} {i : ℕ} {w v : Writer}
    (item : Record) (x : T) → Written s t u g h i w v → Appends t u w v item
    → AppendCosts t u w v (Ok x)
    → Spends (one_more t w) (writer_account w) (writer_account v) t u
    → MemberAppends s u g h i item
written_is {T} {s} {t} {u} {g} {h} {i} {w} {v} item x k p a c =
    let lt = member_within g i k.within in
    let f = written_frames k in
    let keeps : 1 < length (members_in g) → KeepsFrames s u = λ m n x. has_kept 1 n s.pool u.pool f x in
    let told = k.first.touches.told in
    let ses = member_session s t u (member_at g i) w v item
    (member_holds s (member_at g i) (k.is.members_are.each i lt)) k.first k.opens k.goes p in
    let es = written_members k in
    let sp = written_spends x k a c in
    record {
      runs = record {
        session = subst (λ (xs : List Member). Session (group_blocks s g) s u (flat (blocks_of u xs)))
            (sym es)
            (members_session s u (members_in g) i (inr v) lt k.sound k.is.members_are keeps ses);
        frames = f;
        spends = sp;
      };
      is = record {
        has = written_rack k;
        members_are = subst (λ (xs : List Member). AreMembers u xs) (sym es)
            (members_step s u (members_in g) i (inr v) lt k.sound k.is.members_are keeps ses p.is);
      };
      len = rw k.members (length-set g.words.items i (words_in v));
      wrote = written_wrote item k p a.more;
      grown = λ z. let q = p.grown (told ∙ z) in
          record {
            more = q.more;
            is = ap (λ (y : Member). member_blocks u y) (written_member k) ∙ q.is
                ∙ ap (λ (l : List ℕ). l ++ q.more) (k.opens.blocks z);
            fresh = none_before s t q.more k.first z q.fresh;
          };
      grows =
          let n = sp.used in
          let b = k.opens.spends.used in
          let m = k.opens.blocks_is in
          let y = a.used_low in
          omega arith;
      filled_most =
          let wr = written_wrote item k p a.more in
          let m : member_filled u (inr v) ≤ member_filled s (member_at g i) + 1 =
          subst (λ (y : Member). member_filled u y ≤ member_filled s (member_at g i) + 1)
          (written_member k) wr.filled_most in
          let e : payload_in u ≡ payload_in s =
          payload_kept (member_blocks s (member_at g i)) s u ses.touches in
          let q = filled_at s u (members_in g) i (inr v) e lt in
          subst (λ (xs : List Member). filled_of u xs ≤ filled_of s (members_in g) + 1) (sym es)
          (omega arith);
      touched_most =
          let q = touched_at (members_in g) i (inr v) lt in
          subst (λ (xs : List Member). touched_of xs ≤ touched_of (members_in g) + 1) (sym es)
          (omega arith);
      others = λ j n. ap (λ (xs : List Member). get_or xs j no_member) es
          ∙ get_or-set_other (members_in g) i j (inr v) no_member n;
      others_stay = λ j n l. others_stay s u (members_in g) i lt k.is.members_are keeps ses.touches j n
          (member_within g j l);
    }

paid_least : (x : Member) → 2 * (member_account x).blocks ≤ (member_account x).paid
paid_least (inl c) = omega arith
paid_least (inr w) = omega arith

-- The append was refused,
pub written_stops : {T : Type 0} {s t u : RigState} {g h : Writers} {i : ℕ} {w v : Writer}
    (result : Result T EmFault) → Written s t u g h i w v → AppendCosts t u w v result
    → Costs (one_more t w) (2 * one_more t w) (min w.blocks 1) (writer_account w)
    (writer_account v) t u result → IfErr result (Cause t u) → IfErr result (StopsAppending s u g)
written_stops {T} {s} {t} {u} {g} {h} {i} {w} {v} (Ok x) k a c d = tt
written_stops {T} {s} {t} {u} {g} {h} {i} {w} {v} (Err e) k a c d =
    let o = k.opens in
    let b = o.blocks_is in
    let l = paid_least (member_at g i) in
    let lt = member_within g i k.within in
    record {
      goes = goes_wider (group_blocks s g) (member_blocks s (member_at g i)) s u
          (within_member s (members_in g) i lt) (written_goes k);
      halts = halts_at s u (members_in g) i 1 3 1 e lt
          (halts_wider (omega arith) (omega arith) (omega arith)
          (halts_after o.spends (open_halts t u w v e a c)));
      cause = cause_after [] s t u e k.first.touches d;
    }

-- or the member's last block wasn't loaded.
pub opening_stops : {T : Type 0} {s t : RigState} (g : Writers) (i : ℕ) (result : Result T EmFault)
    (e : EmFault) → IsErr result → IsErrAnd result (λ f. f ≡ e) → i < length g.words.items
    → Goes [] s t
    → Halts (member_account (member_at g i)).blocks ((member_account (member_at g i)).paid + 1)
    (member_account (member_at g i)).unstored (member_account (member_at g i)) s t e
    → BlockCause s t e → IfErr result (StopsAppending s t g)
opening_stops {T} {s} {t} g i (Ok x) e n d lt w k c = tt
opening_stops {T} {s} {t} g i (Err f) e n d lt w k c =
    let all : StopsAppending s t g e = record {
      goes = goes_wider (group_blocks s g) [] s t (record { off = λ z j y o. tt }) w;
      halts = halts_at s t (members_in g) i 1 3 1 e (member_within g i lt)
          (halts_wider (omega arith) (omega arith) (omega arith) k);
      cause = block_cause s t e c;
    } in
    subst (λ (v : EmFault). StopsAppending s t g v) (sym d) all

pub written_ok : {T : Type 0} {s t u : RigState} {g h : Writers} {i : ℕ} {w v : Writer}
    (item : Record) (result : Result T EmFault) → Written s t u g h i w v
    → OnOk result (Appends t u w v item) → AppendCosts t u w v result
    → Costs (one_more t w) (2 * one_more t w) (min w.blocks 1) (writer_account w)
    (writer_account v) t u result → OnOk result (MemberAppends s u g h i item)
written_ok item (Ok x) k p a c = written_is item x k p a c
written_ok item (Err e) k p a c = tt

-- It is full exactly if the member needs a block.
pub written_full : {T : Type 0} {s t u : RigState} {g h : Writers} {i : ℕ} {w v : Writer}
    (result : Result T EmFault) → Written s t u g h i w v → SameBlocks s t
    → ((result ≡ Err (Full t.used)) ↔ (NeedsBlock t w × (t.used ≡ t.blocks)))
    → FullIfNeeded s u (member_at g i) result
written_full {T} {s} {t} {u} {g} {h} {i} {w} {v} result k same full =
    let o = k.opens in
    let used : t.used ≡ s.used = same.used in
    let blocks : t.blocks ≡ s.blocks = k.first.touches.blocks in
    record {
      only = λ q e.
          let r = full.0 (subst (λ (n : ℕ). result ≡ Err (Full n)) (sym used) e) in
          ((o.needs q).0 r.0, sym used ∙ r.1 ∙ blocks);
      comes = λ z q m e n.
          subst (λ (n : ℕ). result ≡ Err (Full n)) used
          (full.1 ((o.needs q).1 m, used ∙ e ∙ sym blocks));
    }

pub opening_full : {T : Type 0} {s t : RigState} (x : Member) (result : Result T EmFault)
    (e : EmFault) → IsErr result → IsErrAnd result (λ f. f ≡ e) → Goes [] s t → BlockCause s t e
    → FullIfNeeded s t x result
opening_full {T} {s} {t} x (Ok y) e n d w c = cc
opening_full {T} {s} {t} x (Err f) e n d w c = record {
  only = λ q p.
      let k : e ≡ Full s.used = cc in
      absurd (subst (λ (v : EmFault). BlockCause s t v) k c);
  comes = λ z q m p r. absurd (no_cause e z c w.touches.told r);
}
  where
    no_cause : (v : EmFault) → IsTrue s.device.told → BlockCause s t v
        → t.device.told ≡ s.device.told → (Rose s.device.faults t.device.faults → ⊥) → ⊥
    no_cause DeviceFault z c k r = r c
    no_cause (Full n) z c k r = c
    no_cause (Damaged b) z c k r =
        let h = c.0 in
        cc
