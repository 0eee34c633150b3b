-- Records that are dealt to the members of a group, one after another.
use Rattle.std.proofs.Common.{◌≡◌, ℕ, zero, suc, ◌+◌, ◌%◌, ◌<◌, ◌≤◌, ◌^◌, List, [], ◌∷◌, ◌++◌, length, get_or, take, refl, sym, ap, ◌∙◌, subst, arith, ◌⊎◌, inl, inr, ⊎_elim, Result, Ok, Err, OnOk}
use Rattle.std.proofs.lemmas.List.{map-append, take_more}
use Rattle.em_record.specs.declared.record.Record.{Record}
use Rattle.em_space.specs.Rig.{RigState, Goes}
use Rattle.em_space.specs.Held.{Apart}
use Rattle.em_space.proofs.Held.{apart_none}
use Rattle.em_space.proofs.Steps.{touches_then}
use Rattle.em_space.specs.Rig.{Touches}
use Rattle.em_frames.specs.Pool.{lent_rack}
use Rattle.em_chain.specs.Effects.{LendsFrame}
use Rattle.em_chain.specs.Chain.{empty_chain}
use Rattle.em_space.proofs.Lists.{apart_sym, flat}
use Rattle.em_space.proofs.Sessions.{session_others}
use Rattle.em_chain.specs.Chain.{chain_blocks}
use Rattle.em_chain.specs.declared.chain.Chain.{Chain}
use Rattle.em_chain.specs.declared.member.MemberWords.{MemberWords}
use Rattle.em_chain.specs.Writers.{Adds, BeginsGroup, HasRack, IsGroup, MemberAppends, MemberCanGrow, TakesLast, blocks_of, group_blocks, member_at, members_of}
use Rattle.em_chain.specs.WritersSession.{GroupWrote}
use Rattle.em_chain.specs.declared.writers.Writers.{Writers}
use Rattle.em_chain.proofs.WritersSession.{can_grow, group_stays, group_then, rack_kept, sent_few}
use Rattle.em_list_tests.specs.Dealt.{HasFew, HoldsThree, dealt, dealt_one}

dealt_few : (n i : ℕ) (xs : List Record) → length (dealt n (take i xs)) ≤ i
dealt_few n zero [] = omega arith
dealt_few n zero (x ∷ xs) = omega arith
dealt_few n (suc i) [] = omega arith
dealt_few n (suc i) (x ∷ xs) = let h = dealt_few n i xs in omega arith

-- One more is dealt.
pub dealt_then : {s t u : RigState} {g h k : Writers} (n : ℕ) (xs : List Record) (i at_is : ℕ)
    (d : Record)
    → i < length xs → at_is ≡ (get_or xs i d).a % n → GroupWrote s t g h (dealt n (take i xs))
    → MemberAppends t u h k at_is (get_or xs i d) → GroupWrote s u g k (dealt n (take (i + 1) xs))
dealt_then {s} {t} {u} {g} {h} {k} n xs i at_is d lt e a b =
    let x = get_or xs i d in
    let b2 : MemberAppends t u h k (x.a % n) x =
    subst (λ (m : ℕ). MemberAppends t u h k m x) e b in
    let more : dealt n (take (i + 1) xs) ≡ dealt n (take i xs) ++ dealt_one n x ∷ [] =
    ap (λ (l : List Record). dealt n l) (take_more xs i d lt)
    ∙ map-append (dealt_one n) (take i xs) (x ∷ []) in
    subst (λ ys. GroupWrote s u g k ys) (sym more) (group_then (x.a % n) x a b2)

-- There is room for it.
pub dealt_room : {s t : RigState} {g h : Writers} (n i j : ℕ) (xs : List Record)
    → GroupWrote s t g h (dealt n (take i xs)) → HasFew (2 ^ 20) g → i < length xs
    → length xs ≤ 2 ^ 20 → j < length g.words.items → MemberCanGrow (member_at h j)
dealt_room {s} {t} {g} {h} n i j xs a few lt most l =
    let m = a.members j l in
    let c = m.count_most in
    let b = m.blocks_most in
    let y = sent_few j (dealt n (take i xs)) in
    let z = dealt_few n i xs in
    let p = few.count j l in
    let q = few.blocks j l in
    can_grow (member_at h j) (omega arith) (omega arith)

-- A group with no member has few records,
pub few_none : {s t : RigState} {g : Writers} (most : ℕ) → BeginsGroup s t g → HasFew most g
few_none {s} {t} {g} most b =
    let n : length g.words.items ≡ 0 = ap (λ (ms : List MemberWords). length ms) b.none in
    record { count = λ j l. absurd (omega arith); blocks = λ j l. absurd (omega arith) }

-- and one to which a short chain was added.
pub few_added : {s t : RigState} {g h : Writers} {c : Chain} {most : ℕ} → HasFew most g
    → Adds s t g h c → c.count ≤ most → c.blocks ≤ most → HasFew most h
few_added {s} {t} {g} {h} {c} {most} f a x y =
    let n = a.len in
    record {
      count = λ j l. ⊎_elim
          (λ (q : j < length g.words.items). rw (a.others j q) (f.count j q))
          (λ (q : j ≡ length g.words.items). rw (q, a.last) x)
          (below_or j (length g.words.items) (omega arith));
      blocks = λ j l. ⊎_elim
          (λ (q : j < length g.words.items). rw (a.others j q) (f.blocks j q))
          (λ (q : j ≡ length g.words.items). rw (q, a.last) y)
          (below_or j (length g.words.items) (omega arith));
    }
  where
    below_or : (j n : ℕ) → j < n + 1 → (j < n) ⊎ (j ≡ n)
    below_or zero zero l = inr refl
    below_or zero (suc n) l = inl (omega arith)
    below_or (suc j) zero l = absurd (omega arith)
    below_or (suc j) (suc n) l =
        ⊎_elim (λ (q : j < n). inl (omega arith)) (λ (q : j ≡ n). inr (ap suc q))
        (below_or j n (omega arith))

-- A group beside a list that was taken out of it and read.
pub taken_stays : {s t u : RigState} {g h : Writers} {c : Chain} → TakesLast s t g h c
    → Goes (chain_blocks t c) t u → IsGroup u h
taken_stays {s} {t} {u} {g} {h} {c} a b =
    let e = b.frames.free in
    (group_stays (chain_blocks t c) t u h b.touches
    (λ z. apart_sym (chain_blocks t c) (group_blocks t h)
    (session_others (group_blocks t h) (chain_blocks t c) a.session (sym a.session.touches.told ∙ z)))
    (rack_kept a.is.has b.frames.shape b.frames.rack (omega arith)) a.is).is

pub rack_beside : {s t : RigState} {g : Writers} (ks : List ℕ) → HasRack s g → Goes ks s t → HasRack t g
rack_beside {s} {t} {g} ks r b =
    let e = b.frames.free in
    rack_kept r b.frames.shape b.frames.rack (omega arith)

-- A group over a look at it.
pub looked_stays : {s t : RigState} {g : Writers} → IsGroup s g → Goes [] s t → IsGroup t g
looked_stays {s} {t} {g} i b =
    let e = b.frames.free in
    (group_stays [] s t g b.touches (λ z. apart_none _)
    (rack_kept i.has b.frames.shape b.frames.rack (omega arith)) i).is

-- A group with no member holds no block.
pub no_blocks : {s t : RigState} {g : Writers} → BeginsGroup s t g → group_blocks t g ≡ []
no_blocks {s} {t} {g} b =
    ap (λ (ms : List MemberWords). flat (blocks_of t (members_of ms g.rack))) b.none

pub begins_apart : {s t : RigState} {g : Writers} (ks : List ℕ) → BeginsGroup s t g
    → Apart ks (group_blocks t g)
begins_apart {s} {t} {g} ks b = rw (no_blocks b) (apart_none ks)

-- Three chains were added, of which two have no record.
pub holds_three : {s a b d e : RigState} {g h k l : Writers} {c x y : Chain}
    → a ≡ record s { pool = lent_rack s.pool } → Touches [] s a → BeginsGroup s a g
    → LendsFrame a b → Adds a b g h c → LendsFrame b d → Adds b d h k x → LendsFrame d e
    → Adds d e k l y → c.count ≤ 2 ^ 20 → c.blocks ≤ 2 ^ 20 → x ≡ empty_chain → y ≡ empty_chain
    → HoldsThree s e l
holds_three {s} {a} {b} {d} {e} {g} {h} {k} {l} {c} {x}
    {y} lent touches begins p i q j r m few short ex ey =
    let n : length g.words.items ≡ 0 = ap (λ (ms : List MemberWords). length ms) begins.none in
    let free : a.pool.free ≡ s.pool.free = ap (λ (z : RigState). z.pool.free) lent in
    let areas : a.pool.free_areas ≡ s.pool.free_areas =
    ap (λ (z : RigState). z.pool.free_areas) lent in
    let peak : a.pool.peak ≡ s.pool.peak = ap (λ (z : RigState). z.pool.peak) lent in
    let f1 : HasFew (2 ^ 20) h = few_added (few_none (2 ^ 20) begins) i few short in
    let f2 : HasFew (2 ^ 20) k = few_added f1 j (rw ex (omega arith)) (rw ex (omega arith)) in
    let f3 : HasFew (2 ^ 20) l = few_added f2 m (rw ey (omega arith)) (rw ey (omega arith)) in
    record {
      sound = r.sound;
      touches = touches_then [] s d e
          (touches_then [] s b d (touches_then [] s a b touches p.touches) q.touches) r.touches;
      is = m.is;
      few = f3;
      len = omega (arith, n, i.len, j.len, m.len);
      free = omega (arith, free, p.frames.free, q.frames.free, r.frames.free);
      rack = m.is.has.rack_out;
      free_areas = r.frames.free_areas ∙ q.frames.free_areas ∙ p.frames.free_areas ∙ areas;
      peak = omega (arith, peak, p.frames.peak, q.frames.peak, r.frames.peak);
    }

pub on_any : {T : Type 0} {E : Type 0} (r : Result T E) (P : Type 0) → P → OnOk r P
on_any (Ok x) P p = p
on_any (Err e) P p = tt
