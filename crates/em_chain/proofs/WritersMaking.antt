-- A group that is made, gets members, and gives its frames back.
use Rattle.std.proofs.Common.{◌≡◌, ℕ, ◌+◌, ◌<◌, ◌≤◌, inl, List, [], ◌∷◌, ◌++◌, Some, None, length, get_or, set, refl, sym, ap, ◌∙◌, subst, arith, IsTrue}
use Rattle.std.proofs.lemmas.List.{nil_from_length, length-replicate, length_push, length-set}
use Rattle.em_record.specs.declared.record.Record.{Record}
use Rattle.em_frames.specs.Rack.{empty_rack}
use Rattle.em_frames.specs.Pool.{singles_of, places_in, given, lent, lent_rack}
use Rattle.em_space.specs.Held.{Apart, Holds}
use Rattle.em_space.specs.Ledger.{both, Spends}
use Rattle.em_space.specs.Rig.{RigState, Sound, Touches}
use Rattle.em_space.proofs.Held.{apart_none, holds_kept}
use Rattle.em_space.proofs.Lists.{flat, apart_sym, in_use_append, distinct_join}
use Rattle.em_space.proofs.Ledgers.{spends_still, spends_wider}
use Rattle.em_space.proofs.Steps.{goes_nothing, touches_then, touches_pool}
use Rattle.em_chain.specs.Chain.{IsChain, chain_blocks}
use Rattle.em_chain.specs.Effects.{Unmoved}
use Rattle.em_chain.specs.Writers.{Member, Emptying, BeginsGroup, GivesLast, Adds, AreFilled, group_blocks, member_by, MemberStays, AreMembers, HasRack, IsGroup, IsMember, members_in, member_at, no_member, account_of, blocks_of}
use Rattle.em_chain.specs.Session.{chain_account}
use Rattle.em_chain.specs.declared.chain.Chain.{Chain}
use Rattle.em_chain.specs.declared.member.MemberWords.{MemberWords}
use Rattle.em_chain.specs.declared.writers.Writers.{Writers}
use Rattle.em_chain.proofs.WritersMembers.{member_stays, blocks_same, every, same_account, members_join, filled_add, rack_is_empty, empty_is_filled, flat_push, get_last, get_front, account_push, spends_to, KeepsFrames, members_len}
use Rattle.em_chain.specs.Writers.{Lifts}
use Rattle.em_chain.proofs.WritersTaking.{gives_frame, lifts_rack, lifts_len}

-- A group with no member,
pub begins_group : (s t : RigState) (g : Writers) → Sound t
    → t ≡ record s { pool = lent_rack s.pool }
    → g.rack ≡ empty_rack (places_in s.pool.shape) → g.words.items ≡ [] → BeginsGroup s t g
begins_group s t g h e r n =
    let shape : t.pool.shape ≡ s.pool.shape = ap (λ (x : RigState). x.pool.shape) e in
    let none : members_in g ≡ [] = rw n refl in
    record {
      is = record {
        has = record {
          places = rw (r, shape) (length-replicate (places_in s.pool.shape) None);
          filled_by = rw (r, n) (empty_is_filled t.pool.shape.block (places_in s.pool.shape));
          out = let f = h.singles in rw n (omega arith);
          rack_out = ap (λ (x : RigState). x.pool.rack_out) e;
        };
        members_are = subst (λ (xs : List Member). AreMembers t xs) (sym none) (record {
          each = λ j l. absurd (omega arith);
          holds = λ z. record { in_use = tt; distinct = λ y. tt };
        });
      };
      none = n;
    }

-- one of which only the rack is left,
pub rack_back : (s : RigState) (g : Writers) → HasRack s g → length g.words.items ≡ 0
    → g.rack ≡ empty_rack (places_in s.pool.shape)
rack_back s g h n =
    let none : g.words.items ≡ [] = nil_from_length g.words.items n in
    let filled : AreFilled s.pool.shape.block [] g.rack =
    subst (λ (ms : List MemberWords). AreFilled s.pool.shape.block ms g.rack) none h.filled_by in
    rack_is_empty s.pool.shape.block g.rack filled
    ∙ ap (λ (k : ℕ). empty_rack k) h.places

-- and one with a member more.
pub record Joined (s t : RigState) (g h : Writers) (c : Chain) (m : MemberWords) (f : List Record)
    : Type 0 where
  pub is : IsGroup s g
  pub chain : IsChain s c
  pub apart : IsTrue s.device.told → Apart (chain_blocks s c) (group_blocks s g)
  pub free : 0 < s.pool.free
  pub most : s.pool.free ≤ singles_of s.pool.shape
  pub room : length g.words.items < places_in s.pool.shape
  pub lent_is : t ≡ record s { pool = lent s.pool }
  pub len : length f ≡ s.pool.shape.block
  pub seat : member_by m.touched m f ≡ inl c
  pub members : h.words.items ≡ g.words.items ++ m ∷ []
  pub rack : h.rack ≡ set g.rack (length g.words.items) (Some f)

joined_rack : {s t : RigState} {g h : Writers} {c : Chain} {m : MemberWords} {f : List Record}
    → Joined s t g h c m f → HasRack t h
joined_rack {s} {t} {g} {h} {c} {m} {f} k =
    let x : RigState = record s { pool = lent s.pool } in
    let l : length g.words.items < length g.rack = rw k.is.has.places k.room in
    let n : length (g.words.items ++ m ∷ []) ≡ length g.words.items + 1 =
    length_push g.words.items m in
    let o = k.is.has.out in
    let free = k.free in
    let most = k.most in
    subst (λ (y : RigState). HasRack y h) (sym k.lent_is) (record {
      places = rw k.rack (length-set g.rack (length g.words.items) (Some f) ∙ k.is.has.places);
      filled_by = rw (k.rack, k.members)
          (filled_add s.pool.shape.block g.words.items m g.rack f k.is.has.filled_by l k.len);
      out = rw (k.members, n) (omega arith);
      rack_out = k.is.has.rack_out;
    })

pub joined_is : {s t : RigState} {g h : Writers} {c : Chain} {m : MemberWords} {f : List Record}
    → Joined s t g h c m f → Adds s t g h c
joined_is {s} {t} {g} {h} {c} {m} {f} k =
    let xs = members_in g in
    let l : length g.words.items < length g.rack = rw k.is.has.places k.room in
    let es : members_in h ≡ xs ++ inl c ∷ [] =
    subst (λ (y : Member). members_in h ≡ xs ++ y ∷ []) k.seat
    (rw (k.members, k.rack) (members_join g.words.items m g.rack f l)) in
    let len : length h.words.items ≡ length g.words.items + 1 =
    rw k.members (length_push g.words.items m) in
    let gn : length xs ≡ length g.words.items = members_len g.words.items g.rack in
    let touches : Touches [] s t =
    subst (λ (x : RigState). Touches [] s x) (sym k.lent_is)
    (touches_pool s (lent s.pool) refl) in
    let keeps : KeepsFrames s t =
    subst (λ (x : RigState). KeepsFrames s x) (sym k.lent_is)
    (λ n y. record { len_is = y.len_is; out = omega (arith, y.out, k.free) }) in
    let stay : (x : Member) → IsMember s x → MemberStays s t x =
    λ x i. member_stays [] s t x touches keeps (λ z. apart_none _) i in
    let old : (j : ℕ) → j < length xs → MemberStays s t (get_or xs j no_member) =
    λ j lt. stay (get_or xs j no_member) (k.is.members_are.each j lt) in
    let new : MemberStays s t (inl c) = stay (inl c) k.chain in
    let at_end : member_at h (length g.words.items) ≡ inl c =
    ap (λ (ys : List Member). get_or ys (length g.words.items) no_member) es
    ∙ ap (λ (n : ℕ). get_or (xs ++ inl c ∷ []) n no_member) (sym gn) ∙ get_last xs (inl c) in
    let front : (j : ℕ) → j < length xs → member_at h j ≡ get_or xs j no_member = λ j lt.
    ap (λ (ys : List Member). get_or ys j no_member) es ∙ get_front xs (inl c) j lt in
    let same : IsTrue s.device.told → flat (blocks_of t (xs ++ inl c ∷ []))
    ≡ flat (blocks_of s xs) ++ chain_blocks s c = λ z.
    flat_push t xs (inl c)
    ∙ ap (λ (ls : List (List ℕ)). flat ls ++ chain_blocks t c)
    (blocks_same s t xs (λ j lt. (old j lt).blocks z))
    ∙ ap (λ (ks : List ℕ). flat (blocks_of s xs) ++ ks) (new.blocks z) in
    let each : (j : ℕ) → j < length (xs ++ inl c ∷ [])
    → MemberStays s t (get_or (xs ++ inl c ∷ []) j no_member) =
    λ j lt. every xs (inl c) (λ x. MemberStays s t x) old new j lt in
    let a = account_push xs (inl c) in
    let b = a.blocks in
    record {
      is = record {
        has = joined_rack k;
        members_are = subst (λ (ys : List Member). AreMembers t ys) (sym es) (record {
          each = λ j lt. (each j lt).is;
          holds = λ y. let z : IsTrue s.device.told = sym touches.told ∙ y in
              let p = k.is.members_are.holds z in
              let q = (k.chain.told z).holds in
              let u : Holds s (flat (blocks_of s xs) ++ chain_blocks s c) = record {
                in_use = in_use_append s (flat (blocks_of s xs)) (chain_blocks s c) p.in_use q.in_use;
                distinct = λ v. distinct_join (flat (blocks_of s xs)) (chain_blocks s c)
                    (p.distinct v) (q.distinct v)
                    (apart_sym (chain_blocks s c) (flat (blocks_of s xs)) (k.apart v));
              } in
              rw (same z) (holds_kept [] s t (flat (blocks_of s xs) ++ chain_blocks s c) touches
              (λ _. apart_none _) u);
        });
      };
      len = len;
      last = at_end;
      others = λ j lt. front j (omega arith);
      stay = λ j lt. subst (λ (ys : List Member). MemberStays s t (get_or ys j no_member)) (sym es)
          (each j (rw (length_push xs (inl c)) (omega arith)));
      blocks = λ z. ap (λ (ys : List Member). flat (blocks_of t ys)) es ∙ same z;
      spends = subst (λ (ys : List Member). Spends (account_of ys).blocks
          (both (account_of xs) (chain_account 0 c)) (account_of ys) s t) (sym es)
          (spends_wider (omega arith) (spends_to (same_account a)
          (spends_still (both (account_of xs) (chain_account 0 c))
          (ap (λ (x : RigState). x.used) k.lent_is) (ap (λ (x : RigState). x.most) k.lent_is)
          (ap (λ (x : RigState). x.moves) k.lent_is))));
    }

-- The frame of the last member, which may be of any list.
pub gives_last : {s t : RigState} {g h : Writers} {m : MemberWords} {f : List Record} → HasRack s g
    → t ≡ record s { pool = given s.pool } → Sound t → Lifts g h m f → GivesLast s t g h
gives_last {s} {t} {g} {h} {m} {f} r e sd k =
    let gives = gives_frame [] s t e sd in
    record {
      gives = gives;
      unmoved = subst (λ (x : RigState). Unmoved s x) (sym e) (record {
        device = refl;
        spare = refl;
        same = record { head = refl; used = refl; most = refl };
        moves = refl;
      });
      has = lifts_rack r k gives.frames;
      len = lifts_len k;
    }

pub emptying_none : {s : RigState} {g : Writers} → Sound s → HasRack s g → Emptying s s g g
emptying_none {s} {g} h k = record {
  sound = h;
  touches = (goes_nothing s h).touches;
  unmoved =
      record {
        device = refl;
        spare = refl;
        same = record { head = refl; used = refl; most = refl };
        moves = refl;
      };
  has = k;
  shape = refl;
  free = refl;
  free_areas = refl;
  peak = omega arith;
}

pub emptying_then : {s t u : RigState} {g h k : Writers} → Emptying s t g h → GivesLast t u h k
    → Emptying s u g k
emptying_then {s} {t} {u} {g} {h} {k} a b =
    let x = a.unmoved in
    let y = b.unmoved in
    record {
      sound = b.gives.sound;
      touches = touches_then [] s t u a.touches b.gives.touches;
      unmoved = record {
        device = y.device ∙ x.device;
        spare = y.spare ∙ x.spare;
        same = record {
          head = y.same.head ∙ x.same.head;
          used = y.same.used ∙ x.same.used;
          most = y.same.most ∙ x.same.most;
        };
        moves = y.moves ∙ x.moves;
      };
      has = b.has;
      shape = b.gives.frames.shape ∙ a.shape;
      free = omega (arith, a.free, b.gives.frames.free, b.len);
      free_areas = b.gives.frames.free_areas ∙ a.free_areas;
      peak = omega (arith, a.peak, b.gives.frames.peak);
    }
