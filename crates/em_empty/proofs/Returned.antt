-- Members of a group that went back into the buffers of a node's entries, one after another.
use Rattle.std.proofs.Common.{◌≡◌, ℕ, zero, suc, ◌+◌, ◌<◌, ◌≤◌, List, [], ◌∷◌, ◌++◌, length, get_or, set, take, drop, refl, sym, ap, ◌∙◌, subst, arith, append_assoc, IsTrue, Result, Ok, Err, IsErrAnd}
use Rattle.std.proofs.lemmas.List.{append-nil, length-append, length-take-le}
use Rattle.std.proofs.Math.Seq.{drop-cons}
use Rattle.em_record.specs.declared.record.Record.{Record}
use Rattle.em_frames.specs.Pool.{PoolCounts}
use Rattle.em_space.specs.Held.{Apart, Within}
use Rattle.em_space.specs.Ledger.{Account, Halts, Spends, both}
use Rattle.em_space.specs.Rig.{RigState, Sound, Touches, DeviceCause}
use Rattle.em_space.specs.declared.fault.EmFault.{EmFault}
use Rattle.em_space.proofs.Apart.{off_left}
use Rattle.em_space.proofs.Ledgers.{halts_after, halts_beside, halts_wider, spends_beside, spends_none, spends_then, spends_wider}
use Rattle.em_space.proofs.Lists.{apart_left, apart_right}
use Rattle.em_space.proofs.Sessions.{session_as, session_none, session_others, session_then}
use Rattle.em_space.proofs.Steps.{cause_after, device_cause, touches_wider}
use Rattle.em_space.proofs.Within.{touches_within}
use Rattle.em_chain.specs.Chain.{chain_blocks}
use Rattle.em_chain.specs.Effects.{GivesFrame}
use Rattle.em_chain.specs.Writers.{IsGroup, Member, MemberEnds, MemberStays, TakeSpends, TakesLast, account_of, group_account, group_blocks, last_of, member_account, member_at, member_blocks, members_in, no_member}
use Rattle.em_chain.specs.declared.chain.Chain.{Chain}
use Rattle.em_chain.specs.declared.writers.Writers.{Writers}
use Rattle.em_chain.proofs.Laws.{chain_stays}
use Rattle.em_chain.proofs.WritersMembers.{SameAccount, members_len, spends_to, within_member}
use Rattle.em_node.specs.declared.entry.Entry.{Entry}
use Rattle.em_node.specs.Node.{Is, IsNode, entries_of, level_of, no_entry}
use Rattle.em_node.proofs.Seams.{entries_is, level_is, node_is}
use Rattle.em_tree_blocks.specs.Node.{buffer_of}
use Rattle.em_empty.specs.Node.{SameLinks, buffer_blocks, with_buffer}
use Rattle.em_empty.specs.Returned.{TurnInto, TurnsInto, MovesFrames, Returned, ReturnsLast, ReturnsOne, ReturnsTo, StopsReturning, ended_account}
use Rattle.em_empty.proofs.Groups.{account_is, list_push}

-- A member couldn't be stored.
stopped_last : {s t : RigState} {g : Writers} {fault : EmFault} (h : Writers)
    → length g.words.items ≡ length h.words.items + 1
    → GivesFrame (member_blocks s (last_of g h)) s t
    → Halts (group_account g).blocks ((group_account g).paid + 1) (group_account g).unstored
    (group_account g) s t fault → DeviceCause s t fault → StopsReturning s t g fault
stopped_last {s} {t} {g} {fault} h n v k c =
    let m = members_len g.words.items g.rack in
    record {
      sound = v.sound;
      touches = touches_wider (group_blocks s g) (member_blocks s (last_of g h)) s t v.touches
          (within_member s (members_in g) (length h.words.items) (omega arith)).off;
      halts = halts_wider (omega arith) (omega arith) (omega arith) k;
      cause = device_cause s t fault c;
    }

pub returns_refused : {T : Type 0} (s t : RigState) (g h : Writers) (b d : List Record)
    (result : Result T EmFault) (fault : EmFault) → IsErrAnd result (λ f. f ≡ fault)
    → length g.words.items ≡ length h.words.items + 1
    → GivesFrame (member_blocks s (last_of g h)) s t
    → Halts (group_account g).blocks ((group_account g).paid + 1) (group_account g).unstored
    (group_account g) s t fault → DeviceCause s t fault → ReturnsOne s t g h b d result
returns_refused s t g h b d (Ok x) fault e n v k c = absurd e
returns_refused s t g h b d (Err f) fault e n v k c =
    subst (λ (y : EmFault). StopsReturning s t g y) (sym e) (stopped_last h n v k c)

-- None yet.
take_none : (es : List Entry) (n : ℕ) → n ≡ length es → take n es ++ [] ≡ es
take_none [] zero e = refl
take_none [] (suc n) e = absurd (omega arith)
take_none (x ∷ es) zero e = absurd (omega arith)
take_none (x ∷ es) (suc n) e = ap (λ (l : List Entry). x ∷ l) (take_none es n (omega arith))

links_none : (es : List Entry) (n : ℕ) → n ≡ length es → SameLinks (drop n es) []
links_none [] zero e = tt
links_none [] (suc n) e = absurd (omega arith)
links_none (x ∷ es) zero e = absurd (omega arith)
links_none (x ∷ es) (suc n) e = links_none es n (omega arith)

member_same : (s : RigState) (g : Writers) → IsGroup s g → (j : ℕ) → j < length g.words.items
    → MemberStays s s (member_at g j)
member_same s g i j l =
    let n = members_len g.words.items g.rack in
    record {
      is = i.members_are.each j (omega arith);
      items = λ z. refl;
      blocks = λ z. refl;
      packed = λ z p. p;
      tight = λ z p. p;
    }

pub returned_none : {s : RigState} {g : Writers} {b : List Record} → Sound s → IsGroup s g
    → Is b (level_of b) (entries_of b) → length g.words.items ≡ length (entries_of b)
    → Returned s s g g b b
returned_none {s} {g} {b} h i k n = record {
  done = [];
  gone = [];
  split = sym (append-nil (members_in g));
  is = i;
  node = rw (take_none (entries_of b) (length g.words.items) n) k;
  len = refl;
  links = links_none (entries_of b) (length g.words.items) n;
  ends = tt;
  stay = member_same s g i;
  session = session_as (group_blocks s g ++ [])
      (session_none s (group_blocks s g) h i.members_are.holds)
      (λ z. append-nil (group_blocks s g));
  spends = spends_to (record {
    blocks = omega arith;
    unstored = omega arith;
    paid = omega arith;
    owed = omega arith;
  }) (spends_none (group_account g) s);
}

-- One more: its entry,
set_here : (es done : List Entry) (n : ℕ) (v : Entry) → n < length es
    → set (take (suc n) es ++ done) n v ≡ take n es ++ v ∷ done
set_here [] done n v l = absurd (omega arith)
set_here (x ∷ es) done zero v l = refl
set_here (x ∷ es) done (suc n) v l =
    ap (λ (fs : List Entry). x ∷ fs) (set_here es done n v (omega arith))

get_here : (es done : List Entry) (n : ℕ) → n < length es
    → get_or (take (suc n) es ++ done) n no_entry ≡ get_or es n no_entry
get_here [] done n l = absurd (omega arith)
get_here (x ∷ es) done zero l = refl
get_here (x ∷ es) done (suc n) l = get_here es done n (omega arith)

node_then : {c d : List Record} (b : List Record) (done : List Entry) (n m : ℕ) (chain : Chain)
    → m ≡ suc n
    → n < length (entries_of b) → Is c (level_of b) (take m (entries_of b) ++ done)
    → Is d (level_of c) (set (entries_of c) n (with_buffer (get_or
    (entries_of c) n no_entry) chain))
    → Is d (level_of b)
    (take n (entries_of b) ++ with_buffer (get_or (entries_of b) n no_entry) chain ∷ done)
node_then {c} {d} b done n m chain e lt i k =
    let es = entries_of b in
    let i2 : Is c (level_of b) (take (suc n) es ++ done) =
    subst (λ (x : ℕ). Is c (level_of b) (take x es ++ done)) e i in
    let same = entries_is c (level_of b) (take (suc n) es ++ done) i2 in
    let level = level_is c (level_of b) (take (suc n) es ++ done) i2 in
    let k2 : Is d (level_of b) (set (take (suc n) es ++ done) n
    (with_buffer (get_or (take (suc n) es ++ done) n no_entry) chain)) =
    rw (level, same) at k in
    let k3 : Is d (level_of b) (set (take (suc n) es ++ done) n
    (with_buffer (get_or es n no_entry) chain)) = rw (get_here es done n lt) at k2 in
    rw (set_here es done n (with_buffer (get_or es n no_entry) chain) lt) at k3

links_then : (es done : List Entry) (n m : ℕ) (chain : Chain) → m ≡ suc n → n < length es
    → SameLinks (drop m es) done
    → SameLinks (drop n es) (with_buffer (get_or es n no_entry) chain ∷ done)
links_then es done n m chain e lt h =
    let h2 : SameLinks (drop (suc n) es) done = subst (λ (x : ℕ). SameLinks (drop x es) done) e h in
    rw (drop-cons es n no_entry lt) (refl, refl, h2)

-- the chains that came before, over the call,
ends_stay : {t u : RigState} (s : RigState) (held : List ℕ) (xs : List Member) (fs : List Entry)
    → t.device.told ≡ s.device.told → Touches held t u
    → (IsTrue t.device.told → Apart (buffer_blocks t fs) held) → TurnInto s t xs fs
    → TurnInto s u xs fs
ends_stay s held [] [] told h a e = tt
ends_stay s held [] (f ∷ fs) told h a e = absurd e
ends_stay s held (x ∷ xs) [] told h a e = absurd e
ends_stay {t} {u} s held (x ∷ xs) (f ∷ fs) told h a e =
    let c = buffer_of f in
    let k = chain_stays held t u c h
    (λ z. apart_left (chain_blocks t c) (buffer_blocks t fs) held (a z)) e.0.is in (
      record {
        is = k.is;
        blocks = e.0.blocks;
        items = λ z. k.items (told ∙ z) ∙ e.0.items z;
        packed = λ z p. k.packed (told ∙ z) (e.0.packed z p);
        tight = λ z p. k.tight (told ∙ z) (e.0.tight z p);
      },
      ends_stay s held xs fs told h
          (λ z. apart_right (chain_blocks t c) (buffer_blocks t fs) held (a z)) e.1,
    )

blocks_stay : {t u : RigState} (s : RigState) (held : List ℕ) (xs : List Member) (fs : List Entry)
    → Touches held t u → IsTrue t.device.told → Apart (buffer_blocks t fs) held → TurnInto s t xs fs
    → buffer_blocks u fs ≡ buffer_blocks t fs
blocks_stay s held [] [] h z a e = refl
blocks_stay s held [] (f ∷ fs) h z a e = absurd e
blocks_stay s held (x ∷ xs) [] h z a e = absurd e
blocks_stay {t} {u} s held (x ∷ xs) (f ∷ fs) h z a e =
    let c = buffer_of f in
    let k = chain_stays held t u c h
    (λ y. apart_left (chain_blocks t c) (buffer_blocks t fs) held a) e.0.is in
    rw (
      k.blocks z,
      blocks_stay s held xs fs h z
          (apart_right (chain_blocks t c) (buffer_blocks t fs) held a) e.1,
    ) refl

-- and its own chain.
ends_new : {s t u : RigState} {x : Member} {c : Chain} → t.device.told ≡ s.device.told
    → MemberStays s t x → MemberEnds t u x c → TurnsInto s u x c
ends_new told a b = record {
  is = b.is;
  blocks = b.blocks_is;
  items = λ z. b.items (told ∙ z) ∙ a.items z;
  packed = λ z p. b.packed (told ∙ z) (a.packed z p);
  tight = λ z p. b.tight (told ∙ z) (a.tight z p);
}

stays_then : {s t u : RigState} {x : Member} → t.device.told ≡ s.device.told → MemberStays s t x
    → MemberStays t u x → MemberStays s u x
stays_then told a b = record {
  is = b.is;
  items = λ z. b.items (told ∙ z) ∙ a.items z;
  blocks = λ z. b.blocks (told ∙ z) ∙ a.blocks z;
  packed = λ z p. b.packed (told ∙ z) (a.packed z p);
  tight = λ z p. b.tight (told ∙ z) (a.tight z p);
}

-- The last member of a group.
group_split : {t u : RigState} {h k : Writers} {c : Chain}
    → length h.words.items ≡ length k.words.items + 1 → TakesLast t u h k c
    → members_in h ≡ members_in k ++ last_of h k ∷ []
group_split {t} {u} {h} {k} {c} n b =
    let x = members_len h.words.items h.rack in
    let y = members_len k.words.items k.rack in
    list_push (members_in k) (members_in h) (last_of h k) (omega arith)
    (λ j l. sym (b.others j (omega arith))) (ap (λ (j : ℕ). get_or (members_in h) j no_member) y)

spends_last : {s t u : RigState} {a : Account} (h k : Writers) (c : Chain) (gone : List Member)
    (p : ℕ)
    → Spends p a (both (group_account h) (ended_account (account_of gone))) s t
    → (group_account h).blocks + (account_of gone).blocks ≤ p
    → c.blocks ≡ (member_account (last_of h k)).blocks → TakeSpends t u h k (Ok c)
    → Spends p a (both (group_account k) (ended_account (account_of (last_of h k ∷ gone)))) s u
spends_last {s} {t} {u} {a} h k c gone p x most e y =
    let o = ended_account (account_of gone) in
    spends_wider (omega arith) (spends_to (record {
      blocks = omega arith;
      unstored = omega arith;
      paid = omega arith;
      owed = omega arith;
    }) (spends_then x (spends_beside o y)))

pub returned_then : {s t u : RigState} {g h k : Writers} {b c d : List Record}
    → Returned s t g h b c
    → length h.words.items ≤ length (entries_of b)
    → length d ≡ length c → ReturnsLast t u h k c d → Returned s u g k b d
returned_then {s} {t} {u} {g} {h} {k} {b} {c} {d} x few same y =
    let n = y.len in
    let told = x.session.touches.told in
    let m = length k.words.items in
    let last = last_of h k in
    let q : length h.words.items ≡ suc m = omega arith in
    let es = entries_of b in
    let f = with_buffer (get_or es m no_entry) y.chain in
    let held = group_blocks t h in
    let g2 = y.takes.session in
    let apart = λ (z : IsTrue t.device.told).
    session_others held (buffer_blocks t x.done) x.session (sym told ∙ z) in
    let most = x.spends.held in
    record {
      done = f ∷ x.done;
      gone = last ∷ x.gone;
      split = x.split
          ∙ (ap (λ (l : List Member). l ++ x.gone) (group_split n y.takes)
          ∙ append_assoc (members_in k) (last ∷ []) x.gone);
      is = y.takes.is;
      node = node_then b x.done m (length h.words.items) y.chain q (omega arith) x.node y.node;
      len = same ∙ x.len;
      links = links_then es x.done m (length h.words.items) y.chain q (omega arith) x.links;
      ends = (
        ends_new told (x.stay m (omega arith)) y.takes.ends,
        ends_stay s held x.gone x.done told g2.touches apart x.ends,
      );
      stay = λ j l.
          rw (y.takes.others j l)
          (stays_then told (x.stay j (omega arith)) (y.takes.others_stay j l));
      session = session_as (group_blocks u k ++ (chain_blocks u y.chain ++ buffer_blocks u x.done))
          (session_then held (group_blocks u k ++ chain_blocks u y.chain) (buffer_blocks t x.done)
          x.session g2)
          (λ z. rw (blocks_stay s held x.gone x.done g2.touches (told ∙ z) (apart (told
          ∙ z)) x.ends)
          (sym (append_assoc (group_blocks u k) (chain_blocks u y.chain)
          (buffer_blocks t x.done))));
      spends = spends_last h k y.chain x.gone (group_account g).blocks x.spends (omega arith)
          y.takes.ends.blocks_is y.spends;
    }

account_append : (xs ys : List Member)
    → SameAccount (account_of (xs ++ ys)) (both (account_of xs) (account_of ys))
account_append [] ys = record {
  blocks = omega arith;
  unstored = omega arith;
  paid = omega arith;
  owed = omega arith;
}
account_append (x ∷ xs) ys =
    let h = account_append xs ys in
    let b = h.blocks in
    let u = h.unstored in
    let p = h.paid in
    let o = h.owed in
    record {
      blocks = omega arith;
      unstored = omega arith;
      paid = omega arith;
      owed = omega arith;
    }

-- A call gave up after some members went back.
pub stopped_then : {s t u : RigState} {g h : Writers} {b c : List Record} {fault : EmFault}
    → Returned s t g h b c → StopsReturning t u h fault → StopsReturning s u g fault
stopped_then {s} {t} {u} {g} {h} {b} {c} {fault} x y =
    let held = group_blocks s g in
    let ks = group_blocks t h in
    let js = buffer_blocks t x.done in
    let within : Within s held ks = record {
      off = λ z j i o. off_left j ks js (x.session.within.off z j i o);
    } in
    let total : SameAccount (group_account g) (both (group_account h) (account_of x.gone)) =
    rw x.split (account_append (members_in h) x.gone) in
    let blocks = total.blocks in
    let unstored = total.unstored in
    let paid = total.paid in
    let is = account_is x.gone in
    record {
      sound = y.sound;
      touches = touches_within s t u held ks x.session.touches within y.touches;
      halts = halts_wider (omega arith) (omega arith) (omega arith)
          (halts_after x.spends (halts_beside (ended_account (account_of x.gone)) y.halts));
      cause = cause_after held s t u fault x.session.touches y.cause;
    }

pub returns_failed : {T : Type 0} {s t : RigState} {g h : Writers} {b c : List Record}
    {fault : EmFault} (u : RigState) (k : Writers) (d : List Record) (n : ℕ)
    (result : Result T EmFault) → IsErrAnd result (λ f. f ≡ fault) → Returned s t g h b c
    → StopsReturning t u h fault → ReturnsTo n s u g k b d result
returns_failed u k d n (Ok x) e a y = absurd e
returns_failed {T} {s} {t} {g} {h} {b} {c} {fault} u k d n (Err f) e a y =
    subst (λ (z : EmFault). StopsReturning s u g z) (sym e) (stopped_then a y)

-- The frames of members that went back.
pub moved_none : (n : ℕ) (p : PoolCounts) → MovesFrames n n p p
moved_none n p = record {
  shape = refl;
  free = refl;
  rack = refl;
  free_areas = refl;
  peak = omega arith;
}

pub moved_then : {n m k : ℕ} {p q r : PoolCounts} → MovesFrames n m p q → MovesFrames m k q r
    → MovesFrames n k p r
moved_then a b =
    let x = a.free in
    let y = b.free in
    let z = a.peak in
    let w = b.peak in
    record {
      shape = b.shape ∙ a.shape;
      free = omega arith;
      rack = b.rack ∙ a.rack;
      free_areas = b.free_areas ∙ a.free_areas;
      peak = omega arith;
    }

-- The node between two steps.
pub returned_node : {s t : RigState} {g h : Writers} {b c : List Record} → Returned s t g h b c
    → IsNode c
returned_node {s} {t} {g} {h} {b} {c} x =
    node_is c (level_of b) (take (length h.words.items) (entries_of b) ++ x.done) x.node

pub returned_len : {s t : RigState} {g h : Writers} {b c : List Record} → Returned s t g h b c
    → length h.words.items ≤ length (entries_of b)
    → length h.words.items ≤ length (entries_of c)
returned_len {s} {t} {g} {h} {b} {c} x few =
    let n = length h.words.items in
    let es = entries_of b in
    let same = entries_is c (level_of b) (take n es ++ x.done) x.node in
    let k = length-append (take n es) x.done in
    let l = length-take-le n es few in
    let e : length (entries_of c) ≡ length (take n es ++ x.done) =
    ap (λ (fs : List Entry). length fs) same in
    omega arith
