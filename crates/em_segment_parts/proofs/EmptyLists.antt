-- A group of empty lists, and what the calls on it leave of the rig.
use Rattle.std.proofs.Common.{◌≡◌, ℕ, zero, suc, ◌+◌, ◌*◌, ◌≤◌, List, [], ◌∷◌, ◌++◌, length, get_or, inl, refl, sym, ap, subst, ◌∙◌, arith}
use Rattle.std.proofs.Math.Nat.{mul-le-mul}
use Rattle.em_record.specs.Shape.{fan_of, wide_of}
use Rattle.em_frames.specs.Pool.{PoolCounts, SameFrames, lent_rack}
use Rattle.em_space.specs.Held.{Apart}
use Rattle.em_space.specs.Rig.{RigState, Sound, Touches}
use Rattle.em_space.proofs.Steps.{touches_then}
use Rattle.em_chain.specs.Chain.{IsChain, chain_blocks, empty_chain}
use Rattle.em_chain.specs.Effects.{LendsFrame, Unmoved}
use Rattle.em_chain.specs.Writers.{Adds, BeginsGroup, Member, members_in, members_of, no_member}
use Rattle.em_chain.specs.declared.chain.Chain.{Chain}
use Rattle.em_chain.specs.declared.member.MemberWords.{MemberWords}
use Rattle.em_chain.specs.declared.writers.Writers.{Writers}
use Rattle.em_chain.proofs.WritersMembers.{members_len}
use Rattle.em_tree_cost.proofs.Levels.{fan_wide}
use Rattle.em_segment_model.specs.Sizes.{fan_root}
use Rattle.em_segment_model.specs.declared.strip.Span.{Span}
use Rattle.em_segment_model.proofs.Places.{members_fit, slabs_from-length}
use Rattle.em_segment_model.proofs.Roots.{fan_root_is, shape_sized}
use Rattle.em_segment_parts.specs.Deals.{CanDeal, MovesFrames, OpensGroup, empty_members, lists_of}
use Rattle.em_segment_parts.proofs.ListsTaken.{list_push}

pub empty_is : (s : RigState) (c : Chain) → c ≡ empty_chain → IsChain s c
empty_is s c e = subst (IsChain s) (sym e) (record {
  count_most = omega arith;
  blocks_most = omega arith;
  told = λ z. record {
    holds = record { in_use = tt; distinct = λ y. tt };
    list = record { run = refl; blocks_is = refl; tail_is = refl; count_is = refl; skip_fits = refl };
  };
})

-- No list yet,
pub opens_none : {s t : RigState} {g : Writers} → Sound t → Touches [] s t
    → t ≡ record s { pool = lent_rack s.pool } → BeginsGroup s t g → OpensGroup 0 s t g
opens_none {s} {t} {g} sound touches e b =
    let pool : t.pool ≡ lent_rack s.pool = ap (λ (r : RigState). r.pool) e in
    let free = ap (λ (p : PoolCounts). p.free) pool in
    let peak = ap (λ (p : PoolCounts). p.peak) pool in
    record {
      sound = sound;
      touches = touches;
      unmoved = record {
        device = ap (λ (r : RigState). r.device) e;
        spare = ap (λ (r : RigState). r.spare) e;
        same = record {
          head = ap (λ (r : RigState). r.head) e;
          used = ap (λ (r : RigState). r.used) e;
          most = ap (λ (r : RigState). r.most) e;
        };
        moves = ap (λ (r : RigState). r.moves) e;
      };
      free = omega (arith, free);
      free_areas = ap (λ (p : PoolCounts). p.free_areas) pool;
      peak = omega (arith, peak);
      is = b.is;
      members = ap (λ (ms : List MemberWords). members_of ms g.rack) b.none;
      len = ap (λ (ms : List MemberWords). length ms) b.none;
    }

empty_push : (n : ℕ) → empty_members n ++ (inl empty_chain ∷ []) ≡ empty_members (suc n)
empty_push zero = refl
empty_push (suc n) = ap (λ (xs : List Member). inl empty_chain ∷ xs) (empty_push n)

-- one more.
pub opens_more : {n : ℕ} {s t u : RigState} {g h : Writers} {c : Chain} → c ≡ empty_chain
    → OpensGroup n s t g → LendsFrame t u → Unmoved t u → Adds t u g h c → OpensGroup (n + 1) s u h
opens_more {n} {s} {t} {u} {g} {h} {c} e a l m b =
    let gl = members_len g.words.items g.rack in
    let hl = members_len h.words.items h.rack in
    let len = b.len in
    let first = a.len in
    let free = l.frames.free in
    let before = a.free in
    let peak = l.frames.peak in
    let low = a.peak in
    let last : get_or (members_in h) (length (members_in g)) no_member ≡ inl empty_chain =
    ap (λ (j : ℕ). get_or (members_in h) j no_member) gl ∙ (b.last ∙ ap (λ (d : Chain). inl d) e) in
    let pushed : members_in h ≡ members_in g ++ (inl empty_chain ∷ []) =
    list_push (members_in g) (members_in h) (inl empty_chain) (omega (arith, gl, hl, len))
    (λ j k. sym (b.others j (omega (arith, k, gl)))) last in
    let q : suc n ≡ n + 1 = omega arith in
    record {
      sound = l.sound;
      touches = touches_then [] s t u a.touches l.touches;
      unmoved = record {
        device = m.device ∙ a.unmoved.device;
        spare = m.spare ∙ a.unmoved.spare;
        same = record {
          head = m.same.head ∙ a.unmoved.same.head;
          used = m.same.used ∙ a.unmoved.same.used;
          most = m.same.most ∙ a.unmoved.same.most;
        };
        moves = m.moves ∙ a.unmoved.moves;
      };
      free = omega (arith, free, before);
      free_areas = l.frames.free_areas ∙ a.free_areas;
      peak = omega (arith, peak, low);
      is = b.is;
      members = pushed ∙ ap (λ (xs : List Member). xs ++ (inl empty_chain ∷ [])) a.members
          ∙ empty_push n ∙ ap empty_members q;
      len = omega (arith, len, first);
    }

-- The lists of a node fit a rack.
pub strips_few : {s : RigState} (n : ℕ) → Sound s → n ≤ fan_root s.pool.shape → n ≤ 16
strips_few {s} n sound l = let h = (shape_sized s.pool.shape sound.shape).s_high in omega (arith, h, l)

pub lists_few : {s : RigState} (n : ℕ) → Sound s → n ≤ fan_root s.pool.shape
    → lists_of n ≤ 2 * fan_of s.pool.shape
lists_few {s} n sound l =
    let k = fan_root s.pool.shape in
    let sized = shape_sized s.pool.shape sound.shape in
    let root = fan_root_is s.pool.shape sound.shape in
    let fits = members_fit k (wide_of s.pool.shape) root (omega (arith, sized.s_low)) in
    let wide = fan_wide s.pool.shape sound.shape in
    let t = slabs_from-length 0 n in
    let m : n * (n + 1) ≤ k * (k + 1) =
    mul-le-mul {n₁ = n} {m₁ = n + 1} {n₂ = k} {m₂ = k + 1} l (omega (arith, l)) in
    omega (arith, fits, wide, t, m, l)

-- A group with as many empty lists as a node has can be dealt to.
pub opened_can : {m : ℕ} {s t : RigState} {zs : List Span} {g : Writers} → Sound s
    → length zs ≤ fan_root s.pool.shape → m ≡ lists_of (length zs) → OpensGroup m s t g → CanDeal t zs g
opened_can {m} {s} {t} {zs} {g} sound l e a = record {
  group = a.is;
  strips = strips_few (length zs) sound l;
  members = a.members ∙ ap empty_members e;
}

-- Frames over several calls.
pub moves_then : {n m k : ℕ} {p q r : PoolCounts} → MovesFrames n m p q → MovesFrames m k q r
    → MovesFrames n k p r
moves_then a b =
    let x = a.free in
    let y = b.free in
    let z = a.peak in
    let w = b.peak in
    record {
      shape = b.shape ∙ a.shape;
      free = omega (arith, x, y);
      rack = b.rack ∙ a.rack;
      free_areas = b.free_areas ∙ a.free_areas;
      peak = omega (arith, z, w);
    }

pub moves_same : {n m : ℕ} {p q : PoolCounts} → SameFrames p q → m ≡ n → MovesFrames n m p q
moves_same a e =
    let x = a.free in
    let z = a.peak in
    record {
      shape = a.shape;
      free = omega (arith, x, e);
      rack = a.rack;
      free_areas = a.free_areas;
      peak = omega (arith, z);
    }

pub empty_apart : (s : RigState) (c : Chain) (ks : List ℕ) → c ≡ empty_chain → Apart (chain_blocks s c) ks
empty_apart s c ks e = subst (λ (d : Chain). Apart (chain_blocks s d) ks) (sym e) tt

-- a list for each strip, and one for each multislab
pub lists_are : (n m : ℕ) → 2 * m ≡ n * (n + 1) → n + m ≡ lists_of n
lists_are n m e = let t = slabs_from-length 0 n in omega (arith, t, e)
