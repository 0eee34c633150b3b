-- Records that were taken out of a leaf: what is left of it, in whole blocks.
use Rattle.std.proofs.Common.{◌≡◌, ℕ, suc, ◌+◌, ◌-◌, ◌*◌, ◌%◌, ◌/◌, ◌<◌, ◌≤◌, nat_le, List, [], ◌∷◌, ◌++◌, drop, length, take, true, false, sym, ap, ◌∙◌, subst, arith, ⊎_elim, IsTrue, Result, Ok, Err, IsErrAnd}
use Rattle.std.proofs.Math.Nat.{div-add-mod, mul-add, mul-le-mul_left, mul-suc}
use Rattle.std.proofs.lemmas.Bool.{cases_Bool, cases_lt, cond-false, cond-true, leb-false, leb-true}
use Rattle.em_record.specs.Shape.{ShapeNumbers}
use Rattle.em_record.specs.declared.record.Record.{Record}
use Rattle.em_space.specs.Free.{Off, linked_from}
use Rattle.em_space.specs.Held.{Apart, contents_of}
use Rattle.em_space.specs.Ledger.{Session}
use Rattle.em_space.specs.Queue.{Pays}
use Rattle.em_space.specs.Rig.{RigState, Sound, InUse}
use Rattle.em_space.specs.declared.fault.EmFault.{EmFault}
use Rattle.em_space.proofs.Held.{in_use_kept}
use Rattle.em_space.proofs.Lists.{apart_sym}
use Rattle.em_space.proofs.Paying.{pays_kept, pays_then}
use Rattle.em_space.proofs.Sessions.{session_as, session_last, session_none, session_then}
use Rattle.em_space.proofs.Steps.{same_frames_then}
use Rattle.em_space.proofs.Within.{goes_wider, goes_within, within_left, within_same}
use Rattle.em_chain.specs.Chain.{IsChain, IsPacked, IsTight, chain_blocks, chain_items, payload_in}
use Rattle.em_chain.specs.List.{SkipFits}
use Rattle.em_chain.specs.declared.chain.Chain.{Chain}
use Rattle.em_chain.proofs.Counts.{packed_blocks}
use Rattle.em_chain.proofs.Keeps.{payload_kept}
use Rattle.em_chain.proofs.Laws.{chain_stays}
use Rattle.em_chain.proofs.Readers.{none_left}
use Rattle.em_chain.proofs.Views.{view_of}
use Rattle.em_tree_blocks.specs.Reading.{stored_chain, tree_blocks}
use Rattle.em_tree_load.specs.AreaFills.{FilledFrom, StopsFillFrom}
use Rattle.em_tree_load.specs.LeafTakes.{CanTakeLeaf, StopsTakingLeaf, TakesLeaf, TookLeaf, taken_count}
use Rattle.em_tree_load.specs.Leaves.{StopsLeaf, StoredLeaf}
use Rattle.em_tree_load.specs.Peaks.{Peaks}
use Rattle.em_tree_load.proofs.AreaReads.{skip_below}
use Rattle.em_tree_walk.proofs.Losses.{chain_length}
use Rattle.em_tree_walk.proofs.Readings.{cause_then}

-- How many are taken: no more than there are, and than may be,
pub taken_few : (p most n : ℕ) → (taken_count p most n ≤ n) × (taken_count p most n ≤ most)
taken_few p most n = ⊎_elim
    (λ (t : nat_le n most ≡ true).
    let h = leb-true n most t in
    let e : taken_count p most n ≡ n = cond-true _ _ _ t in
    (omega (arith, e), omega (arith, h, e)))
    (λ (f : nat_le n most ≡ false).
    let h = leb-false n most f in
    let e : taken_count p most n ≡ most - most % p = cond-false _ _ _ f in
    (omega (arith, h, e), omega (arith, e)))
    (cases_Bool (nat_le n most))

-- and whole blocks, if not all.
pub taken_whole : (p most n : ℕ) → taken_count p most n < n
    → taken_count p most n ≡ p * (most / p)
taken_whole p most n less = ⊎_elim
    (λ (t : nat_le n most ≡ true).
    let e : taken_count p most n ≡ n = cond-true _ _ _ t in
    absurd (omega (arith, less, e)))
    (λ (f : nat_le n most ≡ false).
    let e : taken_count p most n ≡ most - most % p = cond-false _ _ _ f in
    let d = div-add-mod most p in
    omega (arith, e, d))
    (cases_Bool (nat_le n most))

-- Two multiples that differ by less than one block are the same.
pub same_multiple : (p a d r : ℕ) → r < p → r + p * a ≡ p * d → r ≡ 0
same_multiple p a d r h e = ⊎_elim
    (λ (l : a < d).
    let m : p * suc a ≤ p * d = mul-le-mul_left p (omega (arith, l)) in
    let n = mul-suc p a in
    absurd (omega (arith, h, e, m, n)))
    (λ (l : d ≤ a).
    let m : p * d ≤ p * a = mul-le-mul_left p l in
    omega (arith, e, m))
    (cases_lt a d)

-- What is left of a packed chain is packed, if whole blocks were taken or all.
module _ {s u : RigState} {c : Chain} {old new : List Record} {from n : ℕ} {rest : Chain} (most : ℕ)
    (low : 128 ≤ s.pool.shape.block) (z : IsTrue s.device.told) (is : IsChain s c)
    (packed : IsPacked s c) (count : n ≡ taken_count (payload_in s) most c.count)
    (f : FilledFrom s u c old new from n rest) where
  tight_first : IsTight s c
  tight_first = record { full = packed.is.full }

  told_after : IsTrue u.device.told
  told_after = f.filled.runs.session.touches.told ∙ z

  same_payload : payload_in u ≡ payload_in s
  same_payload = payload_kept (chain_blocks s c) s u f.filled.runs.session.touches

  -- with no record left, no block is,
  none_after : rest.count ≡ 0 → rest.skip ≡ 0
  none_after e =
      let blocks = none_left u rest (view_of u rest f.filled.chain) told_after e in
      let P : ℕ → Type 0 = λ k.
      SkipFits rest.skip (contents_of u (linked_from k u.device.contents rest.head)) in
      subst P blocks ((f.filled.chain.told told_after).list.skip_fits)

  -- else the first one is whole.
  whole_after : 0 < rest.count → rest.skip ≡ 0
  whole_after some =
      let p = payload_in s in
      let place = f.place z tight_first some in
      let skip = packed.is.skip_is in
      let left = f.filled.count in
      let fits : rest.skip < p =
      subst (λ (k : ℕ). rest.skip < k) same_payload (skip_below u rest f.filled.chain told_after some) in
      let less : taken_count p most c.count < c.count = omega (arith, count, left, some) in
      let whole = taken_whole p most c.count less in
      let sum = mul-add p (most / p) rest.blocks in
      same_multiple p c.blocks (most / p + rest.blocks) rest.skip fits
      (omega (arith, place, skip, count, whole, sum))

  pub skip_after : rest.skip ≡ 0
  skip_after = ⊎_elim
      (λ (l : rest.count < 1). none_after (omega (arith, l)))
      (λ (l : 1 ≤ rest.count). whole_after (omega (arith, l)))
      (cases_lt rest.count 1)

  pub packed_after : IsPacked u rest
  packed_after = record {
    is = record { skip_is = skip_after; full = (f.filled.tight z tight_first).full };
  }

-- a block that is as long as before
low_after : {p q : ShapeNumbers} → q ≡ p → 128 ≤ p.block → 128 ≤ q.block
low_after e low = subst (λ (r : ShapeNumbers). 128 ≤ r.block) (sym e) low

-- Nobody else holds the leaf's block.
off_leaf : {s : RigState} {leaf : ℕ} {stored : Chain} → CanTakeLeaf s leaf stored
    → IsTrue s.device.told → Off leaf (chain_blocks s stored)
off_leaf {s} {leaf} {stored} can z =
    let o = can.told z in
    let P : Chain → Type 0 = λ d. Off leaf (chain_blocks s d) in
    subst P (sym o.stored_is) (o.holds.distinct z).0

-- The leaf's block beside the chain's, over a call on the chain,
filled_session : {s u : RigState} {leaf : ℕ} {stored rest : Chain} {old new : List Record}
    {from n : ℕ} → Sound s → CanTakeLeaf s leaf stored → FilledFrom s u stored old new from n rest
    → Session (tree_blocks 0 s leaf) s u (leaf ∷ chain_blocks u rest)
filled_session {s} {u} {leaf} {stored} {rest} sound can f =
    session_last (leaf ∷ []) (chain_blocks s stored) (chain_blocks u rest)
    (session_as (leaf ∷ chain_blocks s stored)
    (session_none s (tree_blocks 0 s leaf) sound (λ z. (can.told z).holds))
    (λ z. ap (λ (d : Chain). leaf ∷ chain_blocks s d) (can.told z).stored_is))
    f.filled.runs.session

pub leaf_in_use : {s u : RigState} {leaf : ℕ} {stored rest : Chain} {old new : List Record}
    {from n : ℕ} → CanTakeLeaf s leaf stored → FilledFrom s u stored old new from n rest
    → InUse u leaf
leaf_in_use {s} {u} {leaf} {stored} can f =
    in_use_kept (chain_blocks s stored) s u leaf f.filled.runs.session.touches (off_leaf can) can.in_use

-- and then the leaf's block was stored,
pub took_leaf : {s u t : RigState} {leaf : ℕ} {stored rest : Chain} {old new : List Record}
    {from most n : ℕ} → Peaks 0 s t → Sound s → CanTakeLeaf s leaf stored
    → n ≡ taken_count (payload_in s) most stored.count → FilledFrom s u stored old new from n rest
    → StoredLeaf u t leaf rest → TookLeaf s t leaf stored old new from most n
took_leaf {s} {u} {t} {leaf} {stored} {rest} {old} {new} {from} {most} {n} peaks sound can count f x =
    let g = x.moves.goes in
    let h = f.filled.runs.session.touches in
    let low = sound.shape.block_low in
    let first = filled_session sound can f in
    let on : IsTrue s.device.told → IsTrue u.device.told = λ z. h.told ∙ z in
    let one : Session (leaf ∷ []) u t (leaf ∷ []) = record {
      sound = g.sound;
      touches = g.touches;
      within = within_same u (leaf ∷ []);
      holds = λ z. record { in_use = (x.in_use, tt); distinct = λ y. (tt, tt) };
    } in
    let packed : IsTrue s.device.told → IsPacked u rest = λ z.
    packed_after most low z can.chain.chain (can.chain.packed z) count f in
    let is : IsTrue s.device.told → stored_chain t leaf ≡ rest = λ z.
    x.is (on z) (packed_blocks u rest (low_after h.shape low) f.filled.chain (on z) (packed z)) in
    let apart : IsTrue u.device.told → Apart (chain_blocks u rest) (leaf ∷ []) = λ y.
    apart_sym (leaf ∷ []) (chain_blocks u rest)
    (((first.holds (sym h.told ∙ y)).distinct y).0, tt) in
    let still = chain_stays (leaf ∷ []) u t rest g.touches apart f.filled.chain in
    let B : Chain → Type 0 = λ d. chain_blocks t d ≡ chain_blocks u rest in
    let blocks : IsTrue s.device.told
    → tree_blocks 0 t leaf ≡ leaf ∷ chain_blocks u rest = λ z.
    ap (λ (ks : List ℕ). leaf ∷ ks) (subst B (sym (is z)) (still.blocks (on z))) in
    let used = x.moves.same.used in
    let moves = x.moves.moves in
    let before = f.most in
    let spent = f.used in
    let later = g.touches.moves in
    let last : Pays 0 0 u t = pays_kept 0 (omega (arith, used)) later in
    record {
      count = count;
      session = session_as (tree_blocks 0 t leaf)
          (session_then (leaf ∷ []) (leaf ∷ []) (chain_blocks u rest) first one) blocks;
      frames = same_frames_then s.pool u.pool t.pool f.filled.runs.frames g.frames;
      pays = pays_then f.filled.runs.pays last later;
      loses = λ z.
          let a = ap (λ (ks : List ℕ). length ks) (blocks z) in
          let b = chain_length f.filled.chain (on z) in
          let o = can.told z in
          let d = ap (λ (e : Chain). length (chain_blocks s e)) o.stored_is in
          let e = chain_length can.chain.chain z in
          omega (arith, a, b, d, e, used, spent);
      kept = f.kept;
      moves = omega (arith, moves, before);
      peaks = peaks;
      told = λ z.
          let o = can.told z in
          let S : Chain → Type 0 = IsChain t in
          let P : Chain → Type 0 = IsPacked t in
          let most_moves = f.filled.moves z (record { full = (can.chain.packed z).is.full }) in
          let left = f.filled.count in
          let n1 = ap (λ (d : Chain). d.count) (is z) in
          let n2 = ap (λ (d : Chain). d.count) o.stored_is in
          record {
            at_leaf = record {
              in_use = x.in_use;
              head = x.head (on z);
              stored = subst S (sym (is z)) still.is;
              packed = λ y. subst P (sym (is z)) (still.packed (on z) (packed z));
            };
            items = ap (λ (d : Chain). chain_items s d) (sym o.stored_is)
                ∙ (f.filled.items z
                ∙ ap (λ (xs : List Record). take n (drop from new) ++ xs)
                (sym (ap (λ (d : Chain). chain_items t d) (is z) ∙ still.items (on z))));
            count = omega (arith, n1, n2, left);
            moves = omega (arith, moves, most_moves);
          };
    }

-- or couldn't be.
pub unstored_leaf : {s u t : RigState} {leaf : ℕ} {stored rest : Chain} {old new : List Record}
    {from n : ℕ} {fault : EmFault} → Peaks 0 s t → Sound s → CanTakeLeaf s leaf stored
    → FilledFrom s u stored old new from n rest → StopsLeaf u t leaf fault
    → StopsTakingLeaf s t leaf stored fault
unstored_leaf {s} {u} {t} {leaf} {stored} {rest} {fault = fault} peaks sound can f x =
    let g = x.moves.goes in
    let first = filled_session sound can f in
    let ks = chain_blocks u rest in
    let used = x.moves.same.used in
    let moves = x.moves.moves in
    let before = f.most in
    let later = g.touches.moves in
    let last : Pays 0 0 u t = pays_kept 0 (omega (arith, used)) later in
    record {
      goes = goes_within (tree_blocks 0 s leaf) (leaf ∷ ks) s u t
          (record {
            sound = first.sound;
            touches = first.touches;
            frames = f.filled.runs.frames;
          }) first.within
          (goes_wider (leaf ∷ ks) (leaf ∷ []) u t (within_left u (leaf ∷ []) ks) g);
      pays = pays_then f.filled.runs.pays last later;
      moves = omega (arith, moves, before);
      peaks = peaks;
      cause = cause_then s u t fault first.touches.faults x.cause;
    }

-- The records couldn't be read.
pub unread_leaf : {s t : RigState} {leaf : ℕ} {stored : Chain} {fault : EmFault}
    → Peaks 0 s t → CanTakeLeaf s leaf stored → StopsFillFrom s t stored fault
    → StopsTakingLeaf s t leaf stored fault
unread_leaf {s} {t} {leaf} {stored} peaks can x =
    let held = tree_blocks 0 s leaf in
    let moves = x.fill.moves in
    record {
      goes = goes_wider held (chain_blocks s stored) s t
          (record {
            off = λ z j i o.
                let P : Chain → Type 0 = λ d. Off j (chain_blocks s d) in
                subst P (sym (can.told z).stored_is) o.1;
          }) x.fill.stops.goes;
      pays = x.fill.stops.pays;
      moves = omega (arith, moves);
      peaks = peaks;
      cause = x.cause;
    }

-- A fault that is handed on.
pub takes_leaf_of : (s t : RigState) (leaf : ℕ) (stored : Chain) (old new : List Record)
    (from most : ℕ) (result : Result ℕ EmFault) (e : EmFault) → IsErrAnd result (λ m. m ≡ e)
    → StopsTakingLeaf s t leaf stored e → TakesLeaf s t leaf stored old new from most result
takes_leaf_of s t leaf stored old new from most (Ok p) e h x = absurd h
takes_leaf_of s t leaf stored old new from most (Err m) e h x =
    subst (λ (f : EmFault). StopsTakingLeaf s t leaf stored f) (sym h) x
