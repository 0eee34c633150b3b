-- Members that are taken out of a group, from the last one on, and become lists.
use Rattle.std.proofs.Common.{◌≡◌, ℕ, zero, suc, ◌+◌, ◌*◌, ◌^◌, ◌<◌, ◌≤◌, List, [], ◌∷◌, ◌++◌, length, get_or, inl, inr, refl, sym, ap, subst, ◌∙◌, arith, append_assoc, IsTrue, Result, Ok, Err, IsErrAnd}
use Rattle.std.proofs.lemmas.List.{append-nil}
use Rattle.arrayvec.specs.ArrayVec.{ArrayVec}
use Rattle.em_record.specs.declared.record.Record.{Record}
use Rattle.em_frames.specs.Pool.{PoolCounts}
use Rattle.em_space.specs.Held.{Within}
use Rattle.em_space.specs.Ledger.{Account, Halts, both}
use Rattle.em_space.specs.Rig.{DeviceCause, RigState, Sound}
use Rattle.em_space.specs.declared.fault.EmFault.{EmFault}
use Rattle.em_space.proofs.Apart.{off_left}
use Rattle.em_space.proofs.Ledgers.{halts_after, halts_beside, halts_wider, spends_beside, spends_none, spends_then, spends_wider}
use Rattle.em_space.proofs.Sessions.{session_as, session_none, session_others, session_then}
use Rattle.em_space.proofs.Steps.{cause_after, device_cause, touches_wider}
use Rattle.em_space.proofs.Within.{touches_within}
use Rattle.em_chain.specs.Chain.{chain_blocks}
use Rattle.em_chain.specs.Effects.{GivesFrame}
use Rattle.em_chain.specs.Writers.{IsGroup, IsPackedMember, Member, MemberStays, TakeSpends, TakesLast, account_of, group_account, group_blocks, last_of, member_at, member_blocks, member_count, member_items, members_in, no_member}
use Rattle.em_chain.specs.declared.chain.Chain.{Chain}
use Rattle.em_chain.specs.declared.writers.Writers.{Writers}
use Rattle.em_chain.proofs.WritersMembers.{SameAccount, members_len, spends_to, within_member}
use Rattle.em_segment_model.proofs.Places.{at-front}
use Rattle.em_segment_parts.specs.Chains.{chains_blocks, chains_held, chains_in, chains_lists}
use Rattle.em_segment_parts.specs.Deals.{ArePacked, MovesFrames, StopsTaking, TakesLists, TakesListsTo}
use Rattle.em_segment_parts.specs.declared.list.Listed.{Listed}
use Rattle.em_segment_parts.proofs.Chains.{chains_stay}

-- what lists have of which the members had this account: all is stored
abbrev pub taken_of : ℕ → List Member → Account
taken_of held gone = record {
  blocks = held;
  unstored = 0;
  paid = 2 * held + 2 * (account_of gone).unstored;
  owed = 0;
}

member_same : (s : RigState) (g : Writers) → IsGroup s g → (j : ℕ) → j < length g.words.items
    → MemberStays s s (member_at g j)
member_same s g i j l =
    let n = members_len g.words.items g.rack in
    record {
      is = i.members_are.each j (omega (arith, n, l));
      items = λ z. refl;
      blocks = λ z. refl;
      packed = λ z p. p;
      tight = λ z p. p;
    }

-- None yet,
pub takes_none : {s : RigState} {g : Writers} → Sound s → IsGroup s g → TakesLists 0 s s g g []
takes_none {s} {g} h i = record {
  gone = [];
  split = sym (append-nil (members_in g));
  len = refl;
  left = omega arith;
  is = i;
  are = tt;
  items = λ z. refl;
  blocks = refl;
  stay = member_same s g i;
  session = session_as (group_blocks s g ++ [])
      (session_none s (group_blocks s g) h i.members_are.holds)
      (λ z. append-nil (group_blocks s g));
  spends = spends_to (record {
    blocks = omega arith;
    unstored = omega arith;
    paid = omega arith;
    owed = omega arith;
  }) (spends_none (group_account g) s);
}

-- The last member of a group.
pub list_push : (xs ys : List Member) (x : Member) → length ys ≡ length xs + 1
    → ((j : ℕ) → j < length xs → get_or xs j no_member ≡ get_or ys j no_member)
    → get_or ys (length xs) no_member ≡ x → ys ≡ xs ++ (x ∷ [])
list_push [] [] x n h e = absurd (omega (arith, n))
list_push [] (y ∷ []) x n h e = ap (λ (v : Member). v ∷ []) e
list_push [] (y ∷ z ∷ ys) x n h e = absurd (omega (arith, n))
list_push (v ∷ xs) [] x n h e = absurd (omega (arith, n))
list_push (v ∷ xs) (y ∷ ys) x n h e =
    ap (λ (w : Member). w ∷ ys) (sym (h 0 (omega arith)))
    ∙ ap (λ (l : List Member). v ∷ l)
    (list_push xs ys x (omega (arith, n)) (λ j l. h (suc j) (omega (arith, l))) e)

group_split : {t u : RigState} {h k : Writers} {c : Chain}
    → length h.words.items ≡ length k.words.items + 1 → TakesLast t u h k c
    → members_in h ≡ members_in k ++ last_of h k ∷ []
group_split {t} {u} {h} {k} {c} n b =
    let x = members_len h.words.items h.rack in
    let y = members_len k.words.items k.rack in
    list_push (members_in k) (members_in h) (last_of h k) (omega (arith, x, y, n))
    (λ j l. b.others j (omega (arith, l, y)))
    (ap (λ (j : ℕ). get_or (members_in h) j no_member) y)

stays_then : {s t u : RigState} {x : Member} → t.device.told ≡ s.device.told → MemberStays s t x
    → MemberStays t u x → MemberStays s u x
stays_then told a b = record {
  is = b.is;
  items = λ z. b.items (told ∙ z) ∙ a.items z;
  blocks = λ z. b.blocks (told ∙ z) ∙ a.blocks z;
  packed = λ z p. b.packed (told ∙ z) (a.packed z p);
  tight = λ z p. b.tight (told ∙ z) (a.tight z p);
}

pub packed_at : (s : RigState) (xs : List Member) (j : ℕ) → j < length xs → ArePacked s xs
    → (IsTrue s.device.told → IsPackedMember s (get_or xs j no_member))
    × (member_count (get_or xs j no_member) ≤ 2 ^ 40)
packed_at s [] j l p = absurd (omega (arith, l))
packed_at s (x ∷ xs) zero l p = p.0
packed_at s (x ∷ xs) (suc j) l p = packed_at s xs j (omega (arith, l)) p.1

-- one more,
pub takes_more : {n : ℕ} {s t u : RigState} {g h k : Writers} {lists : List Chain} {c : Chain}
    → ArePacked s (members_in g) → TakesLists n s t g h lists
    → length h.words.items ≡ length k.words.items + 1 → TakesLast t u h k c
    → TakeSpends t u h k (Ok c) → TakesLists (n + 1) s u g k (c ∷ lists)
takes_more {n} {s} {t} {u} {g} {h} {k} {lists} {c} packed x one y paid =
    let m = length k.words.items in
    let last = last_of h k in
    let told = x.session.touches.told in
    let held = group_blocks t h in
    let st = chains_stay held t u lists y.session.touches
    (λ z. session_others held (chains_blocks t lists) x.session (sym told ∙ z)) x.are in
    let stays = x.stay m (omega (arith, one)) in
    let ends = y.ends in
    let hl = members_len h.words.items h.rack in
    let gl = members_len g.words.items g.rack in
    let left = x.left in
    let len = x.len in
    let same : member_at g m ≡ last =
    ap (λ (xs : List Member). get_or xs m no_member) x.split
    ∙ at-front (members_in h) x.gone m no_member (omega (arith, hl, one)) in
    let p = rw same at (packed_at s (members_in g) m (omega (arith, gl, left, one)) packed) in
    let most = x.spends.held in
    let blocks = x.blocks in
    record {
      gone = last ∷ x.gone;
      split = x.split ∙ ap (λ (xs : List Member). xs ++ x.gone) (group_split one y)
          ∙ append_assoc (members_in k) (last ∷ []) x.gone;
      len = omega (arith, len);
      left = omega (arith, left, one);
      is = y.is;
      are = (
        record {
          is = ends.is;
          packed = λ d.
              let z : IsTrue t.device.told = sym y.session.touches.told ∙ d in
              let w : IsTrue s.device.told = sym told ∙ z in
              ends.packed z (stays.packed w (p.0 w));
          few = omega (arith, ends.count_is, p.1);
        },
        st.are,
      );
      items = λ w.
          let z : IsTrue t.device.told = told ∙ w in
          ap (λ (r : List Record). r ∷ chains_lists u lists) (ends.items z ∙ stays.items w)
          ∙ ap (λ (l : List (List Record)). member_items s last ∷ l) (st.lists z ∙ x.items w);
      blocks = omega (arith, blocks, ends.blocks_is);
      stay = λ j l.
          rw (y.others j l) (stays_then told (x.stay j (omega (arith, l, one))) (y.others_stay j l));
      session = session_as (group_blocks u k ++ (chain_blocks u c ++ chains_blocks u lists))
          (session_then held (group_blocks u k ++ chain_blocks u c) (chains_blocks t lists) x.session
          y.session)
          (λ w. ap (λ (ks : List ℕ). group_blocks u k ++ (chain_blocks u c ++ ks)) (st.blocks (told ∙ w))
          ∙ sym (append_assoc (group_blocks u k) (chain_blocks u c) (chains_blocks t lists)));
      spends = spends_wider (omega (arith, most)) (spends_to (record {
        blocks = omega arith;
        unstored = omega arith;
        paid = omega arith;
        owed = omega arith;
      }) (spends_then x.spends (spends_beside (taken_of (chains_held lists) x.gone) paid)));
    }

account_append : (xs ys : List Member)
    → SameAccount (account_of (xs ++ ys)) (both (account_of xs) (account_of ys))
account_append [] ys = record {
  blocks = omega arith;
  unstored = omega arith;
  paid = omega arith;
  owed = omega arith;
}
account_append (x ∷ xs) ys =
    let h = account_append xs ys in
    let b = h.blocks in
    let u = h.unstored in
    let p = h.paid in
    let o = h.owed in
    record {
      blocks = omega (arith, b);
      unstored = omega (arith, u);
      paid = omega (arith, p);
      owed = omega (arith, o);
    }

-- each block was paid with two moves, and one more if it isn't stored
pub paid_is : (xs : List Member) → (account_of xs).paid ≡ 2 * (account_of xs).blocks + (account_of xs).unstored
paid_is [] = omega arith
paid_is (inl c ∷ xs) = let h = paid_is xs in omega (arith, h)
paid_is (inr w ∷ xs) = let h = paid_is xs in omega (arith, h)

-- A member couldn't be stored,
pub last_stops : {t u : RigState} {h : Writers} {e : EmFault} (k : Writers)
    → length h.words.items ≡ length k.words.items + 1 → GivesFrame (member_blocks t (last_of h k)) t u
    → Halts (group_account h).blocks ((group_account h).paid + 1) (group_account h).unstored
    (group_account h) t u e → DeviceCause t u e → StopsTaking t u h e
last_stops {t} {u} {h} {e} k one v y d =
    let m = members_len h.words.items h.rack in
    record {
      sound = v.sound;
      touches = touches_wider (group_blocks t h) (member_blocks t (last_of h k)) t u v.touches
          (within_member t (members_in h) (length k.words.items) (omega (arith, m, one))).off;
      halts = halts_wider (omega arith) (omega arith) (omega arith) y;
      cause = device_cause t u e d;
    }

-- the account of members that stay and of those that were taken
pub taken_account : {n : ℕ} {s t : RigState} {g h : Writers} {lists : List Chain}
    → (x : TakesLists n s t g h lists)
    → SameAccount (group_account g) (both (group_account h) (account_of x.gone))
taken_account {g = g} {h = h} x =
    subst (λ (xs : List Member). SameAccount (account_of xs) (both (group_account h) (account_of x.gone)))
    (sym x.split) (account_append (members_in h) x.gone)

-- after others.
pub takes_stop : {n : ℕ} {s t u : RigState} {g h : Writers} {lists : List Chain} {e : EmFault}
    → TakesLists n s t g h lists → StopsTaking t u h e → StopsTaking s u g e
takes_stop {n} {s} {t} {u} {g} {h} {lists} {e} x y =
    let held = group_blocks s g in
    let ks = group_blocks t h in
    let js = chains_blocks t lists in
    let within : Within s held ks = record {
      off = λ z j i o. off_left j ks js (x.session.within.off z j i o);
    } in
    let total = taken_account x in
    let blocks = total.blocks in
    let unstored = total.unstored in
    let paid = total.paid in
    let is = paid_is x.gone in
    let taken = x.blocks in
    record {
      sound = y.sound;
      touches = touches_within s t u held ks x.session.touches within y.touches;
      halts = halts_wider (omega (arith, blocks, taken)) (omega (arith, blocks, unstored, paid, is, taken))
          (omega (arith, unstored))
          (halts_after x.spends (halts_beside (taken_of (chains_held lists) x.gone) y.halts));
      cause = cause_after held s t u e x.session.touches y.cause;
    }

pub takes_err : (n : ℕ) (s t : RigState) (g h : Writers) (result : Result (ArrayVec Listed) EmFault)
    (e : EmFault) → IsErrAnd result (λ f. f ≡ e) → StopsTaking s t g e → TakesListsTo n s t g h result
takes_err n s t g h (Ok x) e i k = absurd i
takes_err n s t g h (Err f) e i k = subst (λ (v : EmFault). StopsTaking s t g v) (sym i) k

-- The frames of members that were taken.
pub moves_none : (n : ℕ) (p : PoolCounts) → MovesFrames n n p p
moves_none n p = record {
  shape = refl;
  free = refl;
  rack = refl;
  free_areas = refl;
  peak = omega arith;
}

pub moves_one : {n m k : ℕ} {held : List ℕ} {p : PoolCounts} {t u : RigState} → MovesFrames n m p t.pool
    → m ≡ k + 1 → GivesFrame held t u → MovesFrames n k p u.pool
moves_one a e v =
    let f = v.frames in
    let x = a.free in
    let y = f.free in
    let p = a.peak in
    let q = f.peak in
    record {
      shape = f.shape ∙ a.shape;
      free = omega (arith, x, y, e);
      rack = f.rack ∙ a.rack;
      free_areas = f.free_areas ∙ a.free_areas;
      peak = omega (arith, p, q);
    }

-- Lists so far, with the frames of their members.
pub record TakenSoFar (n : ℕ) (s t : RigState) (g h : Writers) (lists : List Listed) : Type 0 where
  pub takes : TakesLists n s t g h (chains_in lists)
  pub frames : MovesFrames (length g.words.items) (length h.words.items) s.pool t.pool

pub taken_none : {s : RigState} {g : Writers} {lists : List Listed} → Sound s → IsGroup s g → lists ≡ []
    → TakenSoFar 0 s s g g lists
taken_none {s} {g} {lists} h i e =
    subst (λ (ls : List Listed). TakenSoFar 0 s s g g ls) (sym e)
    (record { takes = takes_none h i; frames = moves_none (length g.words.items) s.pool })

pub taken_more : {n : ℕ} {held : List ℕ} {s t u : RigState} {g h k : Writers} {lists new : List Listed}
    {c : Chain} → ArePacked s (members_in g) → TakenSoFar n s t g h lists
    → length h.words.items ≡ length k.words.items + 1 → GivesFrame held t u → TakesLast t u h k c
    → TakeSpends t u h k (Ok c) → new ≡ record { chain = c } ∷ lists
    → TakenSoFar (n + 1) s u g k new
taken_more {n} {held} {s} {t} {u} {g} {h} {k} {lists} {new} {c} packed x one v y paid e =
    subst (λ (ls : List Listed). TakenSoFar (n + 1) s u g k ls) (sym e)
    (record { takes = takes_more packed x.takes one y paid; frames = moves_one x.frames one v })
