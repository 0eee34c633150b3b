-- Two lists are opened to be made one; the list that is written is finished, or all are let go.
use Rattle.std.proofs.Common.{◌≡◌, ℕ, ◌+◌, ◌*◌, ◌≤◌, List, [], ◌∷◌, ◌++◌, length, map, min, IsTrue, Result, Ok, Err, IfOk, IfErr, refl, ap, ap₂, sym, ◌∙◌, subst, arith}
use Rattle.std.proofs.lemmas.List.{append-nil}
use Rattle.em_record.specs.declared.record.Record.{Record}
use Rattle.em_frames.specs.Pool.{GivenFrames, LentFrames, PoolCounts, SameFrames, singles_of}
use Rattle.em_space.specs.Held.{Holds}
use Rattle.em_space.specs.Ledger.{Account, both, Halts, Spends}
use Rattle.em_space.specs.Rig.{RigState, BlockCause, DeviceCause}
use Rattle.em_space.specs.declared.fault.EmFault.{EmFault}
use Rattle.em_space.proofs.Held.{apart_none}
use Rattle.em_space.proofs.Ledgers.{spends_wider}
use Rattle.em_space.proofs.Lists.{apart_sym}
use Rattle.em_space.proofs.Paying.{pays_kept, pays_more}
use Rattle.em_space.proofs.Sessions.{session_as, session_still}
use Rattle.em_space.proofs.Steps.{block_cause, touches_then}
use Rattle.em_chain.specs.Chain.{chain_blocks, chain_items, payload_in}
use Rattle.em_chain.specs.Counts.{ceiling}
use Rattle.em_chain.specs.Effects.{GivesFrame, LendsFrame, Unmoved}
use Rattle.em_chain.specs.Session.{FinishSpends, chain_account, writer_account}
use Rattle.em_chain.specs.Writer.{writer_blocks, writer_items}
use Rattle.em_chain.specs.Writes.{Begins, Finishes}
use Rattle.em_chain.specs.declared.chain.Chain.{Chain}
use Rattle.em_chain.specs.declared.writer.Writer.{Writer}
use Rattle.em_chain.proofs.Counts.{writer_blocks_are}
use Rattle.em_chain.proofs.Keeps.{payload_kept}
use Rattle.em_chain.proofs.Laws.{writer_stays}
use Rattle.em_weave.specs.Effects.{GivesTwo, LendsTwo}
use Rattle.em_weave.specs.State.{IsWeave, left_items, right_items, weave_account, weave_blocks, weave_count, weave_held, weave_items}
use Rattle.em_weave.specs.Weaves.{OpensBoth}
use Rattle.em_weave.specs.Woven.{woven}
use Rattle.em_weave.specs.declared.side.Side.{Side}
use Rattle.em_weave.specs.declared.weave.Weave.{Weave}
use Rattle.em_weave.proofs.Endings.{ends_session}
use Rattle.em_weave.proofs.Weavings.{peek_length, weave_holds, weave_stays}
use Rattle.aig_defs.specs.declared.circuit.Header.{Header}
use Rattle.aig_edges.specs.Accounts.{stored_account}
use Rattle.aig_edges.proofs.Finishes.{Part, PartStops, StillWritten, finish_part, finish_stops, part_as, part_first, part_second, part_stops_after, part_stops_first, part_stops_second, part_stops_still, part_stops_wider, part_then}
use Rattle.aig_edges.proofs.Opened.{has_out, unmoved_then}
use Rattle.aig_edges.proofs.Besides.{stops_by}
use Rattle.aig_order.specs.declared.merging.Merge.{Merge}
use Rattle.aig_order.specs.Merges.{AreMerged, CanMerge, MergesAll, MergesLists, MergesTwo, StopsMerging, lists_moves, merge_account, merge_blocks, merge_count, merged_side}
use Rattle.aig_order.proofs.Merged.{merge_apart, merges_count, still_merged}

-- the blocks of two lists
abbrev two_blocks : RigState → Chain → Chain → List ℕ
two_blocks s left right = chain_blocks s left ++ chain_blocks s right

-- what two lists have that are to be read and released
abbrev two_account : Chain → Chain → Account
two_account left right =
    stored_account (left.blocks + right.blocks) (2 * (left.blocks + right.blocks) + 2)

-- the blocks of all their records in a packed list
abbrev two_room : RigState → Chain → Chain → ℕ
two_room s left right = ceiling (left.count + right.count) (payload_in s)

-- Two lists were opened, and one was begun: three frames were lent.
pub record OpensMerge (s t : RigState) (left right : Chain) (w : Weave) (v : Writer) : Type 0 where
  pub are : AreMerged t w v
  pub frames : LentFrames 3 s.pool t.pool
  pub out : t.pool.free + 3 ≤ singles_of t.pool.shape
  pub payload_is : payload_in t ≡ payload_in s
  pub told : t.device.told ≡ s.device.told
  pub sides : IsTrue s.device.told
      → weave_items t w ≡ woven (chain_items s left) (chain_items s right)
  pub none : writer_items t v ≡ []
  pub begun : v.count ≡ 0
  pub count_is : weave_count w ≡ left.count + right.count
  pub held_is : weave_held w ≡ left.blocks + right.blocks
  pub part : Part (left.blocks + right.blocks) (two_blocks s left right) (merge_blocks t w v)
      (two_account left right) (merge_account w v) s t

begun_blocks : {ws vs : List ℕ} → vs ≡ [] → ws ++ vs ≡ ws
begun_blocks {ws} e = rw e (append-nil ws)

both_sides : {ls ms rs qs : List Record} → ls ≡ ms → rs ≡ qs → woven ls rs ≡ woven ms qs
both_sides d e = rw (d, e) refl

pub opens_merge : {s a t : RigState} {left right : Chain} {w : Weave} {v : Writer}
    → CanMerge s left right → LendsTwo s a → Unmoved s a → OpensBoth s a left right w
    → LendsFrame a t → Unmoved a t → Begins t v → OpensMerge s t left right w v
opens_merge {s} {a} {t} {left} {right} {w} {v} c l u o m n b =
    let shape = m.frames.shape in
    let now = ap singles_of shape in
    let first = ap singles_of l.frames.shape in
    let within = l.within in
    let two = l.frames.free in
    let one = m.frames.free in
    let many = c.free in
    let few = c.few in
    let st = weave_stays [] a t w m.touches (λ z. apart_none (weave_blocks a w)) (record {
      left = has_out o.is.frames.left shape (omega (arith, now, first, within, two, one));
      right = has_out o.is.frames.right shape (omega (arith, now, first, within, two, one));
    }) o.is in
    let touches = touches_then [] s a t l.touches m.touches in
    let all = unmoved_then u n in
    let used = all.same.used in
    let most = all.same.most in
    let moves = all.moves in
    let held = o.held_is in
    let owed = o.owed_is in
    let blocks = b.blocks in
    let count = b.count in
    let filled_is = b.filled_is in
    let lc = o.left_count in
    let rc = o.right_count in
    let told = l.touches.told in
    record {
      are = record {
        sound = m.sound;
        free = omega (arith, many, two, one);
        weave = st.is;
        writer = b.is;
        holds = λ z. subst (λ (ks : List ℕ). Holds t ks) (sym (begun_blocks b.held))
            (weave_holds st.is z);
        filled_is = omega (arith, filled_is, count);
        few = omega (arith, count, lc, rc, few);
      };
      frames = record {
        shape = shape ∙ l.frames.shape;
        free = omega (arith, two, one);
        rack = m.frames.rack ∙ l.frames.rack;
        free_areas = m.frames.free_areas ∙ l.frames.free_areas;
        peak = let p = l.frames.peak in let q = m.frames.peak in omega (arith, p, q);
      };
      out = omega (arith, now, first, within, two, one);
      payload_is = payload_kept [] s t touches;
      told = touches.told;
      sides = λ z. both_sides (st.left (told ∙ z) ∙ o.left_items z)
          (st.right (told ∙ z) ∙ o.right_items z);
      none = b.items;
      begun = count;
      count_is = omega (arith, lc, rc);
      held_is = held;
      part = record {
        session = session_as (merge_blocks t w v)
            (session_still (two_blocks s left right) m.sound touches c.holds)
            (λ z. begun_blocks b.held ∙ st.blocks (told ∙ z) ∙ o.blocks z);
        spends = record {
          held = omega (arith, held, blocks);
          used = omega (arith, held, blocks, used);
          most = omega (arith, most);
          moves = omega (arith, owed, blocks, moves);
          later = omega (arith, moves);
          pays = pays_more (pays_kept 0 (omega (arith, used)) (omega (arith, moves)))
              (omega (arith, blocks));
        };
      };
    }

-- frames that were lent came back
frames_back : {p q r o : PoolCounts} → LentFrames 3 p q → GivenFrames 2 q r → GivenFrames 1 r o
    → SameFrames p o
frames_back l g h = record {
  shape = h.shape ∙ g.shape ∙ l.shape;
  free = let a = l.free in let b = g.free in let c = h.free in omega (arith, a, b, c);
  rack = h.rack ∙ g.rack ∙ l.rack;
  free_areas = h.free_areas ∙ g.free_areas ∙ l.free_areas;
  peak = let a = l.peak in let b = g.peak in let c = h.peak in omega (arith, a, b, c);
}

still_lent : {p q r : PoolCounts} → LentFrames 3 p q → SameFrames q r → LentFrames 3 p r
still_lent l g = record {
  shape = g.shape ∙ l.shape;
  free = let a = l.free in let b = g.free in omega (arith, a, b);
  rack = g.rack ∙ l.rack;
  free_areas = g.free_areas ∙ l.free_areas;
  peak = let a = l.peak in let b = g.peak in omega (arith, a, b);
}

-- Calls gave up, within what making one list of two may take.
stops_two : (h : Header) (merge : Merge) {s t : RigState} (left right : Chain) {e : EmFault}
    {p m f : ℕ} → PartStops p m f (two_blocks s left right) (two_account left right) s t e
    → p ≤ left.blocks + right.blocks + two_room s left right → m ≤ 2 * two_room s left right + 1
    → f ≤ 1 → SameFrames s.pool t.pool → MergesTwo h merge s t left right (Err e)
stops_two h merge {s} {t} left right {e} {p} {m} {f} x high most low frames =
    let y = part_stops_wider high most low x in
    stops_by (stored_account (left.blocks + right.blocks)
    (lists_moves (left.blocks + right.blocks) (two_room s left right)))
    (omega arith) (omega arith) (omega arith) (omega arith)
    (record {
      goes = record { sound = y.sound; touches = y.touches; frames = frames };
      halts = y.halts;
      cause = y.cause;
    })

-- A record wasn't given or not written, and the lists were let go.
pub merge_stops : (h : Header) (merge : Merge) {s b c d t : RigState} {left right : Chain} {w : Weave}
    {v : Writer} {e : EmFault} → OpensMerge s b left right w v
    → StopsMerging (merge_count w v) b c w v e → GivesTwo [] c d → Unmoved c d
    → GivesFrame [] d t → Unmoved d t → MergesTwo h merge s t left right (Err e)
merge_stops h merge {s} {b} {c} {d} {t} {left} {right} {w} {v} {e} o x g u f n =
    let count = o.count_is in
    let begun = o.begun in
    let held = o.held_is in
    let room : ceiling (merge_count w v) (payload_in b) ≡ two_room s left right =
    ap₂ ceiling (omega (arith, count, begun)) o.payload_is in
    let y = part_stops_after o.part (record {
      sound = x.goes.sound;
      touches = x.goes.touches;
      halts = x.halts;
      cause = x.cause;
    }) in
    stops_two h merge left right
    (part_stops_still f.sound f.touches n (part_stops_still g.sound g.touches u y))
    (omega (arith, held, room)) (omega (arith, room)) (omega arith)
    (frames_back (still_lent o.frames x.goes.frames) g.frames f.frames)

-- All records were written.
pub record MergesWhole (h : Header) (merge : Merge) (s c : RigState) (left right : Chain) (k : Weave)
    (j : Writer) : Type 0 where
  pub are : AreMerged c k j
  pub frames : LentFrames 3 s.pool c.pool
  pub out : c.pool.free + 3 ≤ singles_of c.pool.shape
  pub told : c.device.told ≡ s.device.told
  pub items : IsTrue s.device.told → writer_items c j
      ≡ map (merged_side h merge) (woven (chain_items s left) (chain_items s right))
  pub count_is : j.count ≡ left.count + right.count
  pub blocks_is : j.blocks ≡ two_room s left right
  pub held : weave_held k ≤ left.blocks + right.blocks
  pub part : Part (left.blocks + right.blocks + two_room s left right) (two_blocks s left right)
      (merge_blocks c k j) (two_account left right) (merge_account k j) s c

none_by : {T : Type 0} (xs : List T) → length xs ≡ 0 → xs ≡ []
none_by [] e = refl
none_by (x ∷ xs) e = absurd (omega arith)

none_left : {s : RigState} {w : Weave} → IsWeave s w → IsTrue s.device.told → weave_count w ≡ 0
    → weave_items s w ≡ []
none_left {s} {w} i z e =
    let x = peek_length s w.left i.left z in
    let y = peek_length s w.right i.right z in
    both_sides (none_by (left_items s w) (omega (arith, x, e)))
    (none_by (right_items s w) (omega (arith, y, e)))

pub merges_whole : {h : Header} {merge : Merge} {s b c : RigState} {left right : Chain} {w k : Weave}
    {v j : Writer} → OpensMerge s b left right w v → MergesAll h merge b c w k v j
    → MergesWhole h merge s c left right k j
merges_whole {h} {merge} {s} {b} {c} {left} {right} {w} {k} {v} {j} o m =
    let g = m.merges in
    let i = still_merged h merge o.are g in
    let frames = g.runs.frames in
    let free = frames.free in
    let singles = ap singles_of frames.shape in
    let out = o.out in
    let told = o.told in
    let now = g.runs.session.touches.told in
    let n = merges_count h merge g in
    let none = m.none in
    let begun = o.begun in
    let total = o.count_is in
    let held = o.held_is in
    let fewer = g.wove.fewer in
    let count : j.count ≡ left.count + right.count = omega (arith, n, none, begun, total) in
    let payload : payload_in c ≡ payload_in s =
    payload_kept (merge_blocks b w v) b c g.runs.session.touches ∙ o.payload_is in
    let blocks : j.blocks ≡ two_room s left right =
    writer_blocks_are c j i.sound.shape.block_low i.writer
    ∙ ap₂ ceiling (i.filled_is ∙ count) payload in
    let p = part_then o.part (record { session = g.runs.session; spends = g.runs.spends }) in
    record {
      are = i;
      frames = still_lent o.frames frames;
      out = omega (arith, free, singles, out);
      told = now ∙ told;
      items = λ z.
          let y : IsTrue b.device.told = told ∙ z in
          let sides : g.sides ≡ woven (chain_items s left) (chain_items s right) =
          sym (append-nil g.sides)
          ∙ ap (λ (ds : List Side). g.sides ++ ds) (sym (none_left i.weave (now ∙ y) none))
          ∙ sym (g.wove.items y) ∙ o.sides z in
          g.wrote.items y ∙ ap (λ (rs : List Record). rs ++ map (merged_side h merge) g.sides) o.none
          ∙ ap (λ (ds : List Side). map (merged_side h merge) ds) sides;
      count_is = count;
      blocks_is = blocks;
      held = omega (arith, fewer, held);
      part = record {
        session = p.session;
        spends = spends_wider (omega (arith, held, blocks)) p.spends;
      };
    }

-- The lists that were read weren't ended,
pub merge_unended : {h : Header} {merge : Merge} {s c d t : RigState} {left right : Chain} {k : Weave}
    {j : Writer} {e : EmFault} → MergesWhole h merge s c left right k j
    → GivesTwo (weave_blocks c k) c d → Halts (weave_held k) 0 0 (weave_account k) c d e
    → BlockCause c d e → GivesFrame [] d t → Unmoved d t → MergesTwo h merge s t left right (Err e)
merge_unended {h} {merge} {s} {c} {d} {t} {left} {right} {k} {j} {e} o g x y f n =
    let held = o.held in
    let blocks = o.blocks_is in
    let z = part_stops_after o.part (part_stops_first (writer_blocks c j) (writer_account j)
    (record { sound = g.sound; touches = g.touches; halts = x; cause = block_cause c d e y })) in
    stops_two h merge left right (part_stops_still f.sound f.touches n z)
    (omega (arith, held, blocks)) (omega (arith, blocks)) (omega arith)
    (frames_back o.frames g.frames f.frames)

-- or they were,
pub record EndsMerge (s a : RigState) (w : Weave) (v : Writer) : Type 0 where
  pub part : Part (weave_held w + v.blocks) (merge_blocks s w v) (writer_blocks a v)
      (merge_account w v) (both (stored_account 0 0) (writer_account v)) s a
  pub writer : StillWritten s a v
  pub frames : GivenFrames 2 s.pool a.pool

pub ends_merge : {s a : RigState} {w : Weave} {v : Writer} → AreMerged s w v
    → s.pool.free + 3 ≤ singles_of s.pool.shape → GivesTwo (weave_blocks s w) s a
    → Spends (weave_held w) (weave_account w) (stored_account 0 0) s a → EndsMerge s a w v
ends_merge {s} {a} {w} {v} i out g h =
    let ws = weave_blocks s w in
    let vs = writer_blocks s v in
    let shape = g.frames.shape in
    let singles = ap singles_of shape in
    let free = g.frames.free in
    let sv = writer_stays ws s a v g.touches (λ z. apart_sym ws vs (merge_apart i z))
    (has_out i.writer.frame shape (omega (arith, singles, free, out))) i.writer in
    let end : Part (weave_held w) ws [] (weave_account w) (stored_account 0 0) s a =
    record { session = ends_session g; spends = h } in
    record {
      part = part_as (writer_blocks a v) (part_first vs (writer_account v) i.holds end)
          (λ z. sv.blocks z);
      writer = record { is = sv.is; items = sv.items; packed = sv.packed };
      frames = g.frames;
    }

-- and the list that was written wasn't finished,
pub merge_unfinished : {h : Header} {merge : Merge} {s c d t : RigState} {left right : Chain}
    {k : Weave} {j : Writer} {e : EmFault} → MergesWhole h merge s c left right k j
    → EndsMerge c d k j → GivesFrame (writer_blocks d j) d t
    → Halts j.blocks (2 * j.blocks + min j.blocks 1) (min j.blocks 1) (writer_account j) d t e
    → DeviceCause d t e → MergesTwo h merge s t left right (Err e)
merge_unfinished {h} {merge} {left = left} {right} {j = j} o x g y f =
    let held = o.held in
    let blocks = o.blocks_is in
    stops_two h merge left right (part_stops_after o.part (part_stops_after x.part
    (part_stops_second [] (stored_account 0 0) (finish_stops j g y f))))
    (omega (arith, held, blocks)) (omega (arith, blocks)) (omega arith)
    (frames_back o.frames x.frames g.frames)

-- or it was.
pub merge_finished : {h : Header} {merge : Merge} {s c d t : RigState} {left right l : Chain}
    {k : Weave} {j : Writer} → MergesWhole h merge s c left right k j → EndsMerge c d k j
    → GivesFrame (writer_blocks d j) d t → Finishes d t j l
    → Spends j.blocks (writer_account j) (chain_account (min j.blocks 1) l) d t
    → MergesLists h merge s t left right l
merge_finished {h} {merge} {s} {c} {d} {t} {left} {right} {l} {k} {j} o x g f y =
    let ended = x.part.session.touches.told in
    let held = o.held in
    let blocks = o.blocks_is in
    let same = f.blocks_is in
    let last = part_second [] (stored_account 0 0) (λ z. x.part.session.holds (sym ended ∙ z))
    (finish_part g f y) in
    let all = part_then (part_then o.part x.part) last in
    let z = all.spends in
    record {
      is = f.is;
      count_is = f.count_is ∙ o.count_is;
      blocks_is = f.blocks_is ∙ o.blocks_is;
      items = λ u.
          let v : IsTrue c.device.told = o.told ∙ u in
          f.items (ended ∙ v) ∙ x.writer.items v ∙ o.items u;
      runs = record {
        session = all.session;
        frames = frames_back o.frames x.frames g.frames;
        spends = record {
          held = omega arith;
          used = omega (arith, z.used);
          most = omega (arith, z.most, held, blocks, same);
          moves = omega (arith, z.moves, same);
          later = z.later;
          pays = pays_more z.pays (omega arith);
        };
      };
    }

-- what making one list did, by the result of finishing it
pub merge_ends : {h : Header} {merge : Merge} {s c d : RigState} (t : RigState) {left right : Chain}
    {k : Weave} {j : Writer} (r : Result Chain EmFault) → MergesWhole h merge s c left right k j
    → EndsMerge c d k j → GivesFrame (writer_blocks d j) d t → IfOk r (λ l. Finishes d t j l)
    → FinishSpends d t j r → IfErr r (DeviceCause d t) → MergesTwo h merge s t left right r
merge_ends t (Ok l) o x g f y z = merge_finished o x g f y
merge_ends t (Err e) o x g f y z = merge_unfinished o x g y z
