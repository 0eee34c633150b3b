-- The last member, as it is taken out.
use Rattle.std.proofs.Common.{◌≡◌, ℕ, ◌+◌, ◌-◌, ◌<◌, inl, List, [], ◌∷◌, ◌++◌, None, false, Bool, length, get_or, set, refl, sym, ap, ◌∙◌, subst, arith, IsTrue, Result, Ok, Err}
use Rattle.std.specs.Prelude.{IfOk}
use Rattle.std.proofs.lemmas.List.{length_push, length-set}
use Rattle.em_record.specs.Shape.{ShapeNumbers}
use Rattle.em_record.specs.declared.record.Record.{Record}
use Rattle.em_frames.specs.Pool.{HasFrames, given}
use Rattle.em_space.specs.Held.{Holds}
use Rattle.em_space.specs.Ledger.{Halts, Session}
use Rattle.em_space.specs.Rig.{RigState, Sound}
use Rattle.em_space.specs.declared.fault.EmFault.{EmFault}
use Rattle.em_space.proofs.Held.{apart_none}
use Rattle.em_space.proofs.Lists.{flat}
use Rattle.em_space.proofs.Ledgers.{spends_still, spends_behind, spends_wider, halts_wider}
use Rattle.em_space.proofs.Steps.{touches_pool}
use Rattle.em_space.proofs.Within.{within_kept, within_same}
use Rattle.em_chain.specs.Chain.{IsChain, chain_blocks}
use Rattle.em_chain.specs.Effects.{GivesFrame}
use Rattle.em_chain.specs.Writers.{Member, MemberEnds, TakesLast, TakeSpends, AreFilled, last_of, member_by, chain_in, MemberStays, AreMembers, HasRack, IsGroup, IsMember, members_in, member_at, no_member, member_blocks, member_account, account_of, blocks_of}
use Rattle.em_chain.specs.Session.{chain_account}
use Rattle.em_chain.specs.declared.chain.Chain.{Chain}
use Rattle.em_chain.specs.declared.member.MemberWords.{MemberWords}
use Rattle.em_chain.specs.declared.writers.Writers.{Writers}
use Rattle.em_chain.proofs.Keeps.{touches_none}
use Rattle.em_chain.proofs.Laws.{chain_stays}
use Rattle.em_chain.proofs.WritersMembers.{members_split, filled_drop, flat_push, set_last, get_last, get_front, members_front, account_push, spends_from, KeepsFrames, others_stay, members_session, members_step, halts_at, members_len, filled_get}
use Rattle.em_frames.specs.Rack.{IsHeldAt}
use Rattle.em_frames.specs.Pool.{GivenFrames}
use Rattle.em_chain.specs.Writers.{EndsMember, Lifts}
use Rattle.em_chain.proofs.WritersMembers.{member_holds}
use Rattle.em_chain.proofs.WritersOpening.{frame_len}

-- A member to which nothing was appended.
pub ends_added : (s t : RigState) (c : Chain) → t ≡ record s { pool = given s.pool }
    → IsChain s c → MemberEnds s t (inl c) c
ends_added s t c e i =
    let m = record s { pool = given s.pool } in
    let k = chain_stays [] s m c (touches_pool s (given s.pool) refl) (λ z. apart_none _) i in
    let r : MemberEnds s m (inl c) c = record {
      is = k.is;
      items = k.items;
      blocks = k.blocks;
      packed = k.packed;
      tight = k.tight;
      skip_is = refl;
      count_is = refl;
      blocks_is = refl;
      spends = spends_still (chain_account 0 c) refl refl refl;
    } in
    subst (λ (x : RigState). MemberEnds s x (inl c) c) (sym e) r

pub gives_frame : (ks : List ℕ) (s t : RigState) → t ≡ record s { pool = given s.pool } → Sound t
    → GivesFrame ks s t
gives_frame ks s t e h =
    let m = record s { pool = given s.pool } in
    subst (λ (x : RigState). GivesFrame ks s x) (sym e) (record {
      sound = subst (λ (x : RigState). Sound x) e h;
      touches = touches_none ks s m (touches_pool s (given s.pool) refl);
      frames = record {
        shape = refl;
        free = refl;
        rack = refl;
        free_areas = refl;
        peak = omega arith;
      };
    })

pub given_ends : {s t : RigState} {c : Chain} (m : MemberWords) (f : List Record)
    → m.touched ≡ false → c ≡ chain_in m → t ≡ record s { pool = given s.pool }
    → IsMember s (member_by m.touched m f) → MemberEnds s t (member_by m.touched m f) c
given_ends {s} {t} {c} m f e q g k =
    let by : inl c ≡ member_by m.touched m f =
    ap (λ (d : Chain). inl d) q ∙ sym (ap (λ (b : Bool). member_by b m f) e) in
    subst (λ (x : Member). MemberEnds s t x c) by
    (ends_added s t c g (subst (λ (x : Member). IsMember s x) (sym by) k))

-- The last member was lifted out.
pub last_held : {s : RigState} {g : Writers} → HasRack s g → 0 < length g.words.items
    → IsHeldAt g.rack (length g.words.items - 1)
last_held {s} {g} h some =
    let k = filled_get s.pool.shape.block g.words.items g.rack (length g.words.items - 1)
    h.filled_by (omega arith) in
    (k.frame, k.is)

pub lifts_len : {g h : Writers} {m : MemberWords} {f : List Record} → Lifts g h m f
    → length g.words.items ≡ length h.words.items + 1
lifts_len {g} {h} {m} {f} k = rw k.words (length_push h.words.items m)

pub lifts_frame : {s : RigState} {g h : Writers} {m : MemberWords} {f : List Record} → HasRack s g
    → Lifts g h m f → HasFrames 1 (length f) s.pool
lifts_frame {s} {g} {h} {m} {f} r k =
    let n = lifts_len k in
    let o = r.out in
    record {
      len_is = frame_len s g (length h.words.items) f r (omega arith) k.frame;
      out = omega arith;
    }

lifts_members : {g h : Writers} {m : MemberWords} {f : List Record} → Lifts g h m f
    → members_in g ≡ members_in h ++ member_by m.touched m f ∷ []
lifts_members {g} {h} {m} {f} k =
    rw (k.words, k.rack) (members_split h.words.items m g.rack f k.frame)

pub lifts_is : {s : RigState} {g h : Writers} {m : MemberWords} {f : List Record} → IsGroup s g
    → Lifts g h m f → IsMember s (member_by m.touched m f)
lifts_is {s} {g} {h} {m} {f} i k =
    let x = member_by m.touched m f in
    let n : length (members_in h ++ x ∷ []) ≡ length (members_in h) + 1 =
    length_push (members_in h) x in
    let all : AreMembers s (members_in h ++ x ∷ []) =
    subst (λ (ys : List Member). AreMembers s ys) (lifts_members k) i.members_are in
    subst (λ (y : Member). IsMember s y) (get_last (members_in h) x)
    (all.each (length (members_in h)) (omega arith))

-- The rack without its frame.
pub lifts_rack : {s t : RigState} {g h : Writers} {m : MemberWords} {f : List Record} → HasRack s g
    → Lifts g h m f → GivenFrames 1 s.pool t.pool → HasRack t h
lifts_rack {s} {t} {g} {h} {m} {f} r k b =
    let n = lifts_len k in
    let o = r.out in
    let filled : AreFilled s.pool.shape.block (h.words.items ++ m ∷ []) g.rack =
    subst (λ (ms : List MemberWords). AreFilled s.pool.shape.block ms g.rack) k.words r.filled_by in
    record {
      places = rw (k.rack, b.shape) (length-set g.rack (length h.words.items) None ∙ r.places);
      filled_by = rw (k.rack, b.shape)
          (filled_drop s.pool.shape.block h.words.items m g.rack filled);
      out = rw (b.shape, b.free) (omega arith);
      rack_out = b.rack ∙ r.rack_out;
    }

-- The last member was lifted out, and its frame is back.
pub record Taken (s t : RigState) (g h : Writers) (m : MemberWords) (f : List Record) : Type 0 where
  pub sound : Sound s
  pub is : IsGroup s g
  pub lifts : Lifts g h m f
  pub gives : GivesFrame (member_blocks s (member_by m.touched m f)) s t

taken_last : {s t : RigState} {g h : Writers} {m : MemberWords} {f : List Record}
    → Taken s t g h m f → last_of g h ≡ member_by m.touched m f
taken_last {s} {t} {g} {h} {m} {f} k =
    let x = member_by m.touched m f in
    ap (λ (xs : List Member). get_or xs (length h.words.items) no_member) (lifts_members k.lifts)
    ∙ ap (λ (n : ℕ). get_or (members_in h ++ x ∷ []) n no_member)
    (sym (members_len h.words.items h.rack))
    ∙ get_last (members_in h) x

pub taken_gives : {s t : RigState} {g h : Writers} {m : MemberWords} {f : List Record}
    → Taken s t g h m f → GivesFrame (member_blocks s (last_of g h)) s t
taken_gives {s} {t} {g} {h} {m} {f} k =
    subst (λ (x : Member). GivesFrame (member_blocks s x) s t) (sym (taken_last k)) k.gives

-- other frames are still out
taken_keeps : {s t : RigState} {g h : Writers} {m : MemberWords} {f : List Record}
    → Taken s t g h m f → 1 < length g.words.items → KeepsFrames s t
taken_keeps {s} {t} {g} {h} {m} {f} k two n y =
    let b = k.gives.frames in
    let o = k.is.has.out in
    record {
      len_is = y.len_is ∙ ap (λ (q : ShapeNumbers). q.block) (sym b.shape);
      out = rw (b.shape, b.free) (omega arith);
    }

pub taken_is : {s t : RigState} {g h : Writers} {m : MemberWords} {f : List Record}
    (c : Chain) → Taken s t g h m f → MemberEnds s t (member_by m.touched m f) c → TakesLast s t g h c
taken_is {s} {t} {g} {h} {m} {f} c k e =
    let x = member_by m.touched m f in
    let xs = members_in h in
    let es = lifts_members k.lifts in
    let n : length (xs ++ x ∷ []) ≡ length xs + 1 = length_push xs x in
    let gn : length (members_in g) ≡ length g.words.items = members_len g.words.items g.rack in
    let hn : length (members_in h) ≡ length h.words.items = members_len h.words.items h.rack in
    let all : AreMembers s (xs ++ x ∷ []) =
    subst (λ (ys : List Member). AreMembers s ys) es k.is.members_are in
    let lt : length xs < length (xs ++ x ∷ []) = omega arith in
    let here : get_or (xs ++ x ∷ []) (length xs) no_member ≡ x = get_last xs x in
    let le : length (xs ++ x ∷ []) ≡ length g.words.items =
    ap (λ (ys : List Member). length ys) (sym es) ∙ gn in
    let keeps : 1 < length (xs ++ x ∷ []) → KeepsFrames s t =
    λ two. taken_keeps k (omega arith) in
    let hold : IsTrue s.device.told → Holds s (member_blocks s x) = member_holds s x
    (subst (λ (y : Member). IsMember s y) here (all.each (length xs) lt)) in
    let ses : Session (member_blocks s x) s t (chain_blocks t c) = record {
      sound = k.gives.sound;
      touches = k.gives.touches;
      within = within_kept s (member_blocks s x) (member_blocks s x) (chain_blocks t c)
          (within_same s (member_blocks s x)) e.blocks;
      holds = λ z. (e.is.told (k.gives.touches.told ∙ z)).holds;
    } in
    let after : AreMembers t (xs ++ inl c ∷ []) =
    subst (λ (ys : List Member). AreMembers t ys) (set_last xs x (inl c))
    (members_step s t (xs ++ x ∷ []) (length xs) (inl c) lt k.sound all keeps
    (rw here ses) e.is) in
    let same : (j : ℕ) → j < length h.words.items → member_at g j ≡ member_at h j = λ j l.
    ap (λ (ys : List Member). get_or ys j no_member) es ∙ get_front xs x j (omega arith) in
    record {
      is =
          record {
            has =
                lifts_rack k.is.has k.lifts k.gives.frames;
            members_are = members_front t xs (inl c) after;
          };
      ends = subst (λ (y : Member). MemberEnds s t y c) (sym (taken_last k)) e;
      session =
          let w : Session (flat (blocks_of s (xs ++ x ∷ []))) s t
          (flat (blocks_of t (set (xs ++ x ∷ []) (length xs) (inl c)))) =
          members_session s t (xs ++ x ∷ []) (length xs) (inl c) lt k.sound all keeps (rw here ses) in
          let v : Session (flat (blocks_of s (xs ++ x ∷ []))) s t
          (flat (blocks_of t xs) ++ chain_blocks t c) =
          subst (λ (ks : List ℕ). Session (flat (blocks_of s (xs ++ x ∷ []))) s t ks)
          (ap (λ (ys : List Member). flat (blocks_of t ys)) (set_last xs x (inl c))
          ∙ flat_push t xs (inl c)) w in
          subst (λ (ys : List Member). Session (flat (blocks_of s ys)) s t
          (flat (blocks_of t xs) ++ chain_blocks t c)) (sym es) v;
      others = λ j l. sym (same j l);
      others_stay = λ j l.
          subst (λ (y : Member). MemberStays s t y)
          (ap (λ (ys : List Member). get_or ys j no_member) (sym es))
          (others_stay s t (xs ++ x ∷ []) (length xs) lt all keeps (rw here k.gives.touches) j
          (λ q. absurd (omega arith)) (omega arith));
    }

pub taken_spends : {s t : RigState} {g h : Writers} {m : MemberWords} {f : List Record}
    (c : Chain) → Taken s t g h m f → MemberEnds s t (member_by m.touched m f) c
    → TakeSpends s t g h (Ok c)
taken_spends {s} {t} {g} {h} {m} {f} c k e =
    let x = member_by m.touched m f in
    let p = account_push (members_in h) x in
    let b = p.blocks in
    let q = e.blocks_is in
    rw (taken_last k, lifts_members k.lifts)
    (spends_wider (omega arith) (spends_from p (spends_behind (account_of (members_in h)) e.spends)))

taken_halts : {s t : RigState} {g h : Writers} {m : MemberWords} {f : List Record} (fault : EmFault)
    → Taken s t g h m f → EndsMember s t (member_by m.touched m f) (Err fault)
    → TakeSpends s t g h (Err fault)
taken_halts {s} {t} {g} {h} {m} {f} fault k e =
    let x = member_by m.touched m f in
    let xs = members_in h ++ x ∷ [] in
    let n = length_push (members_in h) x in
    let a = account_of xs in
    let b = member_account x in
    let one : Halts (b.blocks + 0) (b.paid + 1) (b.unstored + 0) b s t fault =
    halts_wider (omega arith) (omega arith) (omega arith) e in
    let all : Halts (a.blocks + 0) (a.paid + 1) (a.unstored + 0) a s t fault =
    halts_at s t xs (length (members_in h)) 0 1 0 fault (omega arith)
    (rw (get_last (members_in h) x) one) in
    rw (lifts_members k.lifts) (halts_wider (omega arith) (omega arith) (omega arith) all)

pub taken_takes : {s t : RigState} {g h : Writers} {m : MemberWords} {f : List Record}
    (result : Result Chain EmFault) → Taken s t g h m f
    → EndsMember s t (member_by m.touched m f) result → IfOk result (λ c. TakesLast s t g h c)
taken_takes (Ok c) k e = taken_is c k e
taken_takes (Err fault) k e = tt

pub taken_costs : {s t : RigState} {g h : Writers} {m : MemberWords} {f : List Record}
    (result : Result Chain EmFault) → Taken s t g h m f
    → EndsMember s t (member_by m.touched m f) result → TakeSpends s t g h result
taken_costs (Ok c) k e = taken_spends c k e
taken_costs (Err fault) k e = taken_halts fault k e
