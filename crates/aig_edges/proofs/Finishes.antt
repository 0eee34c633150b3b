-- Lists are ended and finished, one after another: each call gives frames back.
use Rattle.std.proofs.Common.{◌≡◌, ℕ, ◌+◌, ◌*◌, ◌≤◌, ◌<◌, max, min, List, [], ◌++◌, IsTrue, refl, ap, sym, ◌∙◌, arith}
use Rattle.std.proofs.lemmas.List.{append-nil}
use Rattle.em_frames.specs.Pool.{GivenFrames, PoolCounts, singles_of}
use Rattle.em_space.specs.Held.{Holds}
use Rattle.em_space.specs.Ledger.{Account, both, Halts, Session, Spends}
use Rattle.em_space.specs.Rig.{RigState, Sound, Touches, Cause, BlockCause, DeviceCause}
use Rattle.em_space.specs.declared.fault.EmFault.{EmFault}
use Rattle.em_space.proofs.Ledgers.{full_by, halts_after, halts_beside, halts_behind, halts_wider, spends_beside, spends_behind, spends_then, spends_wider}
use Rattle.em_space.proofs.Paying.{pays_kept, pays_more, pays_then}
use Rattle.em_space.proofs.Lists.{apart_sym, distinct_apart}
use Rattle.em_space.proofs.Sessions.{session_as, session_beside, session_trans}
use Rattle.em_space.proofs.Steps.{block_cause, cause_after, device_cause, touches_then, touches_wider}
use Rattle.em_space.proofs.Within.{touches_within, within_kept, within_left, within_right, within_same}
use Rattle.em_chain.specs.Chain.{chain_blocks}
use Rattle.em_chain.specs.Effects.{GivesFrame, Unmoved}
use Rattle.em_chain.specs.Session.{chain_account, writer_account}
use Rattle.em_chain.specs.Writer.{IsPackedSoFar, IsWriter, writer_blocks, writer_items}
use Rattle.em_chain.specs.Writes.{Finishes}
use Rattle.em_chain.specs.declared.chain.Chain.{Chain}
use Rattle.em_chain.specs.declared.writer.Writer.{Writer}
use Rattle.em_chain.proofs.Laws.{chain_stays, writer_stays}
use Rattle.em_chain.proofs.Writings.{cause_still}
use Rattle.em_weave.specs.Effects.{GivesTwo}
use Rattle.em_weave.specs.State.{weave_account, weave_blocks, weave_held}
use Rattle.em_weave.proofs.Endings.{ends_session}
use Rattle.aig_edges.specs.Comparison.{AreLists, Finished, IsFinished, Unfinished, lists_account, lists_blocks, lists_held}
use Rattle.aig_edges.specs.declared.comparing.Comparison.{Comparison}
use Rattle.aig_edges.proofs.Advances.{are_apart}
use Rattle.aig_edges.proofs.Opened.{has_out}

-- A session with its ledger, in which frames may have come back.
pub record Part (peak : ℕ) (held ks : List ℕ) (a b : Account) (s t : RigState) : Type 0 where
  pub session : Session held s t ks
  pub spends : Spends peak a b s t

-- Such calls, of which the last one gave up.
pub record PartStops (peak limit unstored : ℕ) (held : List ℕ) (a : Account) (s t : RigState)
    (e : EmFault) : Type 0 where
  pub sound : Sound t
  pub touches : Touches held s t
  pub halts : Halts peak limit unstored a s t e
  pub cause : Cause s t e

pub part_as : {p : ℕ} {ks js : List ℕ} {a b : Account} {s t : RigState} (ls : List ℕ)
    → Part p ks js a b s t → (IsTrue s.device.told → ls ≡ js) → Part p ks ls a b s t
part_as ls h e = record { session = session_as ls h.session e; spends = h.spends }

pub part_then : {p q : ℕ} {held ks js : List ℕ} {a b c : Account} {s t u : RigState}
    → Part p held ks a b s t → Part q ks js b c t u → Part (max p q) held js a c s u
part_then h g = record {
  session = session_trans h.session g.session;
  spends = spends_then h.spends g.spends;
}

pub part_first : {p : ℕ} {ks js : List ℕ} {a b : Account} {s t : RigState} (ys : List ℕ)
    (x : Account) → (IsTrue s.device.told → Holds s (ks ++ ys)) → Part p ks js a b s t
    → Part (p + x.blocks) (ks ++ ys) (js ++ ys) (both a x) (both b x) s t
part_first {ks = ks} {js = js} ys x n h = record {
  session = session_beside [] ks js ys n h.session;
  spends = spends_beside x h.spends;
}

pub part_second : {p : ℕ} {ks js : List ℕ} {a b : Account} {s t : RigState} (xs : List ℕ)
    (x : Account) → (IsTrue s.device.told → Holds s (xs ++ ks)) → Part p ks js a b s t
    → Part (x.blocks + p) (xs ++ ks) (xs ++ js) (both x a) (both x b) s t
part_second {ks = ks} {js = js} {s = s} {t = t} xs x n h = record {
  session =
      let m : IsTrue s.device.told → Holds s (xs ++ (ks ++ [])) = λ z. rw (append-nil ks) (n z) in
      let g : Session (xs ++ (ks ++ [])) s t (xs ++ (js ++ [])) =
      session_beside xs ks js [] m h.session in
      rw (append-nil ks, append-nil js) at g;
  spends = spends_behind x h.spends;
}

pub part_stops_after : {p q l f : ℕ} {held ks : List ℕ} {a b : Account} {s t u : RigState}
    {e : EmFault} → Part p held ks a b s t → PartStops q l f ks b t u e
    → PartStops (max p q) l f held a s u e
part_stops_after {held = held} {ks = ks} {s = s} {t = t} {u = u} {e = e} h g = record {
  sound = g.sound;
  touches = touches_within s t u held ks h.session.touches h.session.within g.touches;
  halts = halts_after h.spends g.halts;
  cause = cause_after held s t u e h.session.touches g.cause;
}

pub part_stops_first : {p l f : ℕ} {ks : List ℕ} {a : Account} {s t : RigState} {e : EmFault}
    (ys : List ℕ) (x : Account) → PartStops p l f ks a s t e
    → PartStops (p + x.blocks) (l + x.paid) (f + x.unstored) (ks ++ ys) (both a x) s t e
part_stops_first {ks = ks} {s = s} {t = t} ys x h = record {
  sound = h.sound;
  touches = touches_wider (ks ++ ys) ks s t h.touches (within_left s ks ys).off;
  halts = halts_beside x h.halts;
  cause = h.cause;
}

pub part_stops_second : {p l f : ℕ} {ks : List ℕ} {a : Account} {s t : RigState} {e : EmFault}
    (xs : List ℕ) (x : Account) → PartStops p l f ks a s t e
    → PartStops (x.blocks + p) (x.paid + l) (x.unstored + f) (xs ++ ks) (both x a) s t e
part_stops_second {ks = ks} {s = s} {t = t} xs x h = record {
  sound = h.sound;
  touches = touches_wider (xs ++ ks) ks s t h.touches (within_right s xs ks).off;
  halts = halts_behind x h.halts;
  cause = h.cause;
}

pub part_stops_wider : {p q l m f g : ℕ} {ks : List ℕ} {a : Account} {s t : RigState} {e : EmFault}
    → p ≤ q → l ≤ m → f ≤ g → PartStops p l f ks a s t e → PartStops q m g ks a s t e
part_stops_wider w x y h = record {
  sound = h.sound;
  touches = h.touches;
  halts = halts_wider w x y h.halts;
  cause = h.cause;
}

-- Then nothing was moved.
pub part_stops_still : {p l f : ℕ} {ks : List ℕ} {a : Account} {s t u : RigState} {e : EmFault}
    → Sound u → Touches [] t u → Unmoved t u → PartStops p l f ks a s t e
    → PartStops p l f ks a s u e
part_stops_still {p} {l} {f} {ks} {a} {s} {t} {u} {e} so o n h =
    let k = h.halts in
    let used = n.same.used in
    let most = n.same.most in
    let moves = n.moves in
    record {
      sound = so;
      touches = touches_then ks s t u h.touches o;
      halts = record {
        used = omega (arith, k.used, used);
        full = full_by e (t.used + a.blocks < s.used + p) (u.used + a.blocks < s.used + p)
            (λ q. omega (arith, q, used)) k.full;
        most = omega (arith, k.most, most);
        moves = omega (arith, k.moves, moves);
        later = omega (arith, k.later, moves);
        pays = pays_then k.pays (pays_kept f (omega (arith, used)) (omega (arith, moves)))
            (omega (arith, moves));
      };
      cause = cause_still s t u e n o h.cause;
    }

-- A list that was written was finished,
pub finish_part : {s t : RigState} {w : Writer} {c : Chain} → GivesFrame (writer_blocks s w) s t
    → Finishes s t w c → Spends w.blocks (writer_account w) (chain_account (min w.blocks 1) c) s t
    → Part w.blocks (writer_blocks s w) (chain_blocks t c) (writer_account w)
    (chain_account (min w.blocks 1) c) s t
finish_part {s} {t} {w} {c} x f k = record {
  session = record {
    sound = x.sound;
    touches = x.touches;
    within = within_kept s (writer_blocks s w) (writer_blocks s w) (chain_blocks t c)
        (within_same s (writer_blocks s w)) f.blocks;
    holds = λ z. (f.is.told (x.touches.told ∙ z)).holds;
  };
  spends = k;
}

-- or it wasn't.
pub finish_stops : {s t : RigState} {e : EmFault} (w : Writer) → GivesFrame (writer_blocks s w) s t
    → Halts w.blocks (2 * w.blocks + min w.blocks 1) (min w.blocks 1) (writer_account w) s t e
    → DeviceCause s t e
    → PartStops w.blocks (2 * w.blocks + min w.blocks 1) (min w.blocks 1) (writer_blocks s w)
    (writer_account w) s t e
finish_stops {s} {t} {e} w x k c = record {
  sound = x.sound;
  touches = x.touches;
  halts = k;
  cause = device_cause s t e c;
}

-- nothing
abbrev no_account : Account
no_account = record { blocks = 0; unstored = 0; paid = 0; owed = 0 }

-- A list that is written, after calls on others.
pub record StillWritten (s t : RigState) (w : Writer) : Type 0 where
  pub is : IsWriter t w
  pub items : IsTrue s.device.told → writer_items t w ≡ writer_items s w
  pub packed : IsTrue s.device.told → IsPackedSoFar s w → IsPackedSoFar t w

-- The lists that were compared were ended.
pub record Ended (s a : RigState) (k : Comparison) : Type 0 where
  pub part : Part (lists_held k) (lists_blocks s k)
      (writer_blocks a k.sources ++ writer_blocks a k.edges) (lists_account k)
      (both no_account (both (writer_account k.sources) (writer_account k.edges))) s a
  pub sources : StillWritten s a k.sources
  pub edges : StillWritten s a k.edges
  pub given : GivenFrames 2 s.pool a.pool

pub lists_ended : {s a : RigState} {k : Comparison} → AreLists s k
    → s.pool.free + 4 ≤ singles_of s.pool.shape → GivesTwo (weave_blocks s k.weave) s a
    → Spends (weave_held k.weave) (weave_account k.weave) no_account s a → Ended s a k
lists_ended {s} {a} {k} i out g h =
    let ws = weave_blocks s k.weave in
    let os = writer_blocks s k.sources in
    let bs = writer_blocks s k.edges in
    let shape = g.frames.shape in
    let singles = ap singles_of shape in
    let free = g.frames.free in
    let sa = writer_stays ws s a k.sources g.touches (λ z. apart_sym ws os (are_apart i z).sources)
    (has_out i.sources.frame shape (omega (arith, singles, free, out))) i.sources in
    let sb = writer_stays ws s a k.edges g.touches (λ z. apart_sym ws bs (are_apart i z).edges)
    (has_out i.edges.frame shape (omega (arith, singles, free, out))) i.edges in
    let end : Part (weave_held k.weave) ws [] (weave_account k.weave) no_account s a =
    record { session = ends_session g; spends = h } in
    record {
      part = part_as (writer_blocks a k.sources ++ writer_blocks a k.edges)
          (part_first (os ++ bs) (both (writer_account k.sources) (writer_account k.edges)) i.holds end)
          (λ z. both_as (sa.blocks z) (sb.blocks z));
      sources = record { is = sa.is; items = sa.items; packed = sa.packed };
      edges = record { is = sb.is; items = sb.items; packed = sb.packed };
      given = g.frames;
    }
  where
    both_as : {ks js ls ms : List ℕ} → ks ≡ ls → js ≡ ms → ks ++ js ≡ ls ++ ms
    both_as d e = rw (d, e) refl

-- The first list that was written was finished.
pub record Sourced (s b : RigState) (k : Comparison) (c : Chain) : Type 0 where
  pub part : Part (lists_held k) (lists_blocks s k) (chain_blocks b c ++ writer_blocks b k.edges)
      (lists_account k) (both no_account
      (both (chain_account (min k.sources.blocks 1) c) (writer_account k.edges))) s b
  pub edges : StillWritten s b k.edges
  pub first : IsFinished s b k.sources c
  pub given : GivenFrames 3 s.pool b.pool

pub lists_sourced : {s a b : RigState} {k : Comparison} {c : Chain}
    → s.pool.free + 4 ≤ singles_of s.pool.shape → Ended s a k
    → GivesFrame (writer_blocks a k.sources) a b → Finishes a b k.sources c
    → Spends k.sources.blocks (writer_account k.sources) (chain_account (min k.sources.blocks 1) c) a b
    → Sourced s b k c
lists_sourced {s} {a} {b} {k} {c} out d g f h =
    let os = writer_blocks a k.sources in
    let bs = writer_blocks a k.edges in
    let told = d.part.session.touches.told in
    let holds : IsTrue a.device.told → Holds a (os ++ bs) =
    λ y. d.part.session.holds (sym told ∙ y) in
    let shape = g.frames.shape in
    let singles = ap singles_of (shape ∙ d.given.shape) in
    let free = g.frames.free in
    let two = d.given.free in
    let sb = writer_stays os a b k.edges g.touches
    (λ y. apart_sym os bs (distinct_apart os bs ((holds y).distinct y)))
    (has_out d.edges.is.frame shape (omega (arith, singles, free, two, out))) d.edges.is in
    let x = f.blocks_is in
    let next = part_second [] no_account holds
    (part_as (chain_blocks b c ++ writer_blocks b k.edges)
    (part_first bs (writer_account k.edges) holds (finish_part g f h))
    (λ y. ap (λ (ks : List ℕ). chain_blocks b c ++ ks) (sb.blocks y))) in
    let all = part_then d.part next in
    record {
      part = record { session = all.session; spends = spends_wider (omega (arith)) all.spends };
      edges = record {
        is = sb.is;
        items = λ z. sb.items (told ∙ z) ∙ d.edges.items z;
        packed = λ z p. sb.packed (told ∙ z) (d.edges.packed z p);
      };
      first = record {
        is = f.is;
        items = λ z. f.items (told ∙ z) ∙ d.sources.items z;
        packed = λ z p. f.packed (told ∙ z) (d.sources.packed z p);
        count_is = f.count_is;
        blocks_is = f.blocks_is;
      };
      given = record {
        shape = shape ∙ d.given.shape;
        free = omega (arith, free, two);
        rack = g.frames.rack ∙ d.given.rack;
        free_areas = g.frames.free_areas ∙ d.given.free_areas;
        peak = let p = g.frames.peak in let q = d.given.peak in omega (arith, p, q);
      };
    }

-- Both were finished.
pub lists_finished : {s b t : RigState} {k : Comparison} {c e : Chain} → Sourced s b k c
    → GivesFrame (writer_blocks b k.edges) b t → Finishes b t k.edges e
    → Spends k.edges.blocks (writer_account k.edges) (chain_account (min k.edges.blocks 1) e) b t
    → Finished s t k (record { sources = c; edges = e })
lists_finished {s} {b} {t} {k} {c} {e} d g f h =
    let cs = chain_blocks b c in
    let bs = writer_blocks b k.edges in
    let told = d.part.session.touches.told in
    let holds : IsTrue b.device.told → Holds b (cs ++ bs) =
    λ y. d.part.session.holds (sym told ∙ y) in
    let st = chain_stays bs b t c g.touches (λ y. distinct_apart cs bs ((holds y).distinct y))
    d.first.is in
    let next = part_second [] no_account holds
    (part_as (chain_blocks t c ++ chain_blocks t e)
    (part_second cs (chain_account (min k.sources.blocks 1) c) holds (finish_part g f h))
    (λ y. ap (λ (ks : List ℕ). ks ++ chain_blocks t e) (st.blocks y))) in
    let all = part_then d.part next in
    let x = all.spends in
    let m = d.first.blocks_is in
    let n = f.blocks_is in
    let free = g.frames.free in
    let three = d.given.free in
    record {
      frames = record {
        shape = g.frames.shape ∙ d.given.shape;
        free = omega (arith, free, three);
        rack = g.frames.rack ∙ d.given.rack;
        free_areas = g.frames.free_areas ∙ d.given.free_areas;
        peak = let p = g.frames.peak in let q = d.given.peak in omega (arith, p, q);
      };
      session = all.session;
      spends = record {
        held = omega (arith, m, n);
        used = omega (arith, x.used, m, n);
        most = omega (arith, x.most, m, n);
        moves = omega (arith, x.moves, m, n);
        later = x.later;
        pays = pays_more x.pays (omega arith);
      };
      sources = record {
        is = st.is;
        items = λ z. st.items (told ∙ z) ∙ d.first.items z;
        packed = λ z p. st.packed (told ∙ z) (d.first.packed z p);
        count_is = d.first.count_is;
        blocks_is = d.first.blocks_is;
      };
      edges = record {
        is = f.is;
        items = λ z. f.items (told ∙ z) ∙ d.edges.items z;
        packed = λ z p. f.packed (told ∙ z) (d.edges.packed z p);
        count_is = f.count_is;
        blocks_is = f.blocks_is;
      };
    }

given_then : {m n : ℕ} {p q r : PoolCounts} → GivenFrames m p q → GivenFrames n q r
    → GivenFrames (m + n) p r
given_then h g = record {
  shape = g.shape ∙ h.shape;
  free = let x = h.free in let y = g.free in omega (arith, x, y);
  rack = g.rack ∙ h.rack;
  free_areas = g.free_areas ∙ h.free_areas;
  peak = let x = h.peak in let y = g.peak in omega (arith, x, y);
}

unfinished_of : {s t : RigState} {k : Comparison} {e : EmFault} → GivenFrames 4 s.pool t.pool
    → PartStops (lists_held k) (2 * (k.sources.blocks + k.edges.blocks) + 2) 2 (lists_blocks s k)
    (lists_account k) s t e
    → Unfinished s t k e
unfinished_of f h = record {
  gives = record { sound = h.sound; touches = h.touches; frames = f };
  halts = h.halts;
  cause = h.cause;
}

-- The lists that were compared weren't ended,
pub unfinished_end : {s a b t : RigState} {e : EmFault} (k : Comparison)
    → GivesTwo (weave_blocks s k.weave) s a
    → Halts (weave_held k.weave) 0 0 (weave_account k.weave) s a e → BlockCause s a e
    → GivesFrame [] a b → Unmoved a b → GivesFrame [] b t → Unmoved b t → Unfinished s t k e
unfinished_end {s} {a} {b} {t} {e} k g h c x u y v =
    let first = part_stops_first (writer_blocks s k.sources ++ writer_blocks s k.edges)
    (both (writer_account k.sources) (writer_account k.edges))
    (record { sound = g.sound; touches = g.touches; halts = h; cause = block_cause s a e c }) in
    unfinished_of (given_then {m = 3} (given_then {m = 2} g.frames x.frames) y.frames)
    (part_stops_wider (omega arith) (omega arith) (omega arith)
    (part_stops_still y.sound y.touches v (part_stops_still x.sound x.touches u first)))

-- the first list that was written wasn't finished,
pub unfinished_first : {s a b t : RigState} {e : EmFault} (k : Comparison) → Ended s a k
    → GivesFrame (writer_blocks a k.sources) a b
    → Halts k.sources.blocks (2 * k.sources.blocks + min k.sources.blocks 1)
    (min k.sources.blocks 1) (writer_account k.sources) a b e
    → DeviceCause a b e → GivesFrame [] b t → Unmoved b t → Unfinished s t k e
unfinished_first {s} {a} {b} {t} {e} k d g h c x u =
    let stops = part_stops_after d.part (part_stops_second [] no_account
    (part_stops_first (writer_blocks a k.edges) (writer_account k.edges)
    (finish_stops k.sources g h c))) in
    unfinished_of (given_then {m = 3} (given_then {m = 2} d.given g.frames) x.frames)
    (part_stops_wider (omega arith) (omega arith) (omega arith)
    (part_stops_still x.sound x.touches u stops))

-- or the second one wasn't.
pub unfinished_last : {s b t : RigState} {e : EmFault} {c : Chain} (k : Comparison)
    → Sourced s b k c → GivesFrame (writer_blocks b k.edges) b t
    → Halts k.edges.blocks (2 * k.edges.blocks + min k.edges.blocks 1) (min k.edges.blocks 1)
    (writer_account k.edges) b t e
    → DeviceCause b t e → Unfinished s t k e
unfinished_last {s} {b} {t} {e} {c} k d g h x =
    let m = d.first.blocks_is in
    let stops = part_stops_after d.part (part_stops_second [] no_account
    (part_stops_second (chain_blocks b c) (chain_account (min k.sources.blocks 1) c)
    (finish_stops k.edges g h x))) in
    unfinished_of (given_then {m = 3} d.given g.frames)
    (part_stops_wider (omega (arith, m)) (omega (arith, m)) (omega arith) stops)
