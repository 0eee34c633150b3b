-- The lists of a node: a group was opened, pieces were dealt to it, and it was closed.
use Rattle.std.proofs.Common.{◌≡◌, ℕ, ◌+◌, ◌*◌, false, List, [], length, refl, sym, ap, subst, ◌∙◌, arith, IsTrue}
use Rattle.em_record.specs.Shape.{ShapeNumbers, fan_of}
use Rattle.em_record.specs.declared.record.Record.{Record}
use Rattle.em_frames.specs.Pool.{PoolCounts, given_rack}
use Rattle.em_space.specs.Held.{Apart}
use Rattle.em_space.specs.Ledger.{Halts}
use Rattle.em_space.specs.Rig.{RigState, Sound, Touches}
use Rattle.em_space.specs.declared.fault.EmFault.{EmFault}
use Rattle.em_space.proofs.Held.{apart_none}
use Rattle.em_space.proofs.Paying.{pays_kept, pays_then}
use Rattle.em_space.proofs.Sessions.{session_as, session_still, session_trans}
use Rattle.em_space.proofs.Steps.{cause_after, touches_then, touches_trans, touches_wider}
use Rattle.em_chain.specs.Chain.{ChainStays, chain_blocks, chain_items, payload_in}
use Rattle.em_chain.specs.Counts.{ceiling}
use Rattle.em_chain.specs.Effects.{Unmoved}
use Rattle.em_chain.specs.Writers.{GivenRack, group_blocks}
use Rattle.em_chain.specs.declared.chain.Chain.{Chain}
use Rattle.em_chain.specs.declared.writers.Writers.{Writers}
use Rattle.em_chain.proofs.Keeps.{payload_kept}
use Rattle.em_chain.proofs.Laws.{chain_stays}
use Rattle.em_chain.proofs.Writings.{cause_still, halts_between}
use Rattle.em_segment_model.specs.Reports.{slab_lists}
use Rattle.em_segment_model.specs.Spans.{down_lists}
use Rattle.em_segment_model.specs.declared.strip.Span.{Span}
use Rattle.em_segment_parts.specs.Accounts.{stored}
use Rattle.em_segment_parts.specs.Chains.{IsPackedChain, chains_blocks}
use Rattle.em_segment_parts.specs.Deals.{CanDeal, Deals, GroupDeals, HasLists, MovesFrames, OpensGroup, StopsDeals, StopsGroup, down_in, lists_blocks, lists_of, sent_all, slabs_in}
use Rattle.em_segment_parts.specs.declared.dealing.Lists.{Lists}
use Rattle.em_segment_parts.proofs.Chains.{chains_stay}
use Rattle.em_segment_parts.proofs.GroupDealt.{group_empty}

-- The pieces stay as a group is opened,
pub pieces_stay : {n : ℕ} {s a : RigState} {g : Writers} {c : Chain} → IsPackedChain s c
    → OpensGroup n s a g → ChainStays s a c
pieces_stay {n} {s} {a} {g} {c} is o =
    chain_stays [] s a c o.touches (λ z. apart_none (chain_blocks s c)) is.is

pub pieces_are : {n : ℕ} {s a : RigState} {g : Writers} {c : Chain} → IsPackedChain s c
    → OpensGroup n s a g → IsPackedChain a c
pieces_are {n} {s} {a} {g} {c} is o =
    let st = pieces_stay is o in
    record {
      is = st.is;
      packed = λ y.
          let z : IsTrue s.device.told = sym o.touches.told ∙ y in st.packed z (is.packed z);
      few = is.few;
    }

-- and have no block in common with it.
pub pieces_apart : {a : RigState} {zs : List Span} {g : Writers} (c : Chain) → CanDeal a zs g
    → Apart (chain_blocks a c) (group_blocks a g)
pieces_apart {a} {zs} {g} c can =
    subst (λ (ks : List ℕ). Apart (chain_blocks a c) ks) (sym (group_empty can))
    (apart_none (chain_blocks a c))

-- The lists stay as the group is closed.
lists_kept : {zs : List Span} {s a b t : RigState} {c : Chain} {lists : Lists} → ChainStays s a c
    → a.device.told ≡ s.device.told → b.device.told ≡ a.device.told → Touches [] b t
    → HasLists zs a b c lists → HasLists zs s t c lists
lists_kept {zs} {s} {a} {b} {t} {c} {lists} st told more touches h =
    let down = chains_stay [] b t (down_in lists) touches (λ z. apart_none (chains_blocks b (down_in lists)))
    h.down_are in
    let slabs = chains_stay [] b t (slabs_in lists) touches (λ z. apart_none (chains_blocks b (slabs_in lists)))
    h.slabs_are in
    record {
      down_are = down.are;
      slabs_are = slabs.are;
      down_len = h.down_len;
      slabs_len = h.slabs_len;
      down_is = λ z. down.lists (more ∙ told ∙ z) ∙ h.down_is (told ∙ z)
          ∙ ap (down_lists zs) (st.items z);
      slabs_is = λ z. slabs.lists (more ∙ told ∙ z) ∙ h.slabs_is (told ∙ z)
          ∙ ap (slab_lists zs) (st.items z);
    }

-- All went well: the group was closed,
node_dealt : {zs : List Span} {s a b t : RigState} {c : Chain} {g : Writers} {lists : Lists}
    {left : ℕ} → IsPackedChain s c → s.pool.rack_out ≡ false → OpensGroup (lists_of (length zs)) s a g
    → CanDeal a zs g → length g.words.items ≡ lists_of (length zs) → GroupDeals zs a b c lists
    → MovesFrames (length g.words.items) (left) a.pool b.pool
    → left ≡ 0 → Sound t → Touches [] b t → t ≡ record b { pool = given_rack b.pool }
    → Deals zs s t c lists
node_dealt {zs} {s} {a} {b} {t} {c} {g} {lists} is out o can len d frames none sound touches e =
    let st = pieces_stay is o in
    let to_a = o.touches.told in
    let to_b = d.session.touches.told in
    let down = chains_stay [] b t (down_in lists) touches (λ z. apart_none (chains_blocks b (down_in lists)))
    d.has.down_are in
    let slabs = chains_stay [] b t (slabs_in lists) touches (λ z. apart_none (chains_blocks b (slabs_in lists)))
    d.has.slabs_are in
    let pool : t.pool ≡ given_rack b.pool = ap (λ (r : RigState). r.pool) e in
    let k = d.spends in
    let u = o.unmoved in
    let used = ap (λ (r : RigState). r.used) e in
    let most = ap (λ (r : RigState). r.most) e in
    let moves = ap (λ (r : RigState). r.moves) e in
    let free = ap (λ (p : PoolCounts). p.free) pool in
    let peak = ap (λ (p : PoolCounts). p.peak) pool in
    let opened = o.free in
    let low = o.peak in
    let moved_free = frames.free in
    let moved_peak = frames.peak in
    record {
      has = lists_kept st to_a to_b touches d.has;
      shifts = record {
        session = session_trans (session_as (chain_blocks a c)
            (session_still (chain_blocks s c) o.sound o.touches (λ z. (is.is.told z).holds)) st.blocks)
            (session_trans d.session (session_as (lists_blocks t lists)
            (session_still (lists_blocks b lists) sound touches (λ z. d.session.holds (sym to_b ∙ z)))
            (λ z. rw (down.blocks z, slabs.blocks z) refl)));
        frames = record {
          shape = ap (λ (p : PoolCounts). p.shape) pool ∙ (frames.shape ∙ o.touches.shape);
          free = omega (arith, free, moved_free, none, opened, len);
          rack = ap (λ (p : PoolCounts). p.rack_out) pool ∙ sym out;
          free_areas = ap (λ (p : PoolCounts). p.free_areas) pool ∙ (frames.free_areas ∙ o.free_areas);
          peak = omega (arith, peak, moved_peak, low);
        };
        spends = record {
          held = k.held;
          used = omega (arith, k.used, used, u.same.used);
          most = omega (arith, k.most, most, u.same.most, u.same.used);
          moves = omega (arith, k.moves, moves, u.moves);
          later = omega (arith, k.later, moves, u.moves);
          pays = pays_then (pays_kept 0 (omega (arith, u.same.used)) (omega (arith, u.moves)))
              (pays_then k.pays (pays_kept 0 (omega (arith, used)) (omega (arith, moves)))
              (omega (arith, moves))) (omega (arith, k.later, moves));
        };
      };
    }

-- or given up.
node_stopped : {zs : List Span} {s a b t : RigState} {c : Chain} {g : Writers} {e : EmFault}
    {left : ℕ} → IsPackedChain s c → s.pool.rack_out ≡ false → OpensGroup (lists_of (length zs)) s a g
    → length g.words.items ≡ lists_of (length zs) → StopsGroup zs a b c e
    → MovesFrames (length g.words.items) (left) a.pool b.pool → Sound t → Touches [] b t
    → GivenRack (left) b.pool t.pool → Unmoved b t → StopsDeals zs s t c e
node_stopped {zs} {s} {a} {b} {t} {c} {g} {e} is out o len k frames sound touches given v =
    let st = pieces_stay is o in
    let ks = chain_blocks s c in
    let pa = payload_kept [] s a o.touches in
    let x = halts_between o.unmoved k.halts v in
    let opened = o.free in
    let low = o.peak in
    let moved_free = frames.free in
    let moved_peak = frames.peak in
    let gave = given.free in
    let peak = given.peak in
    let un = ap (λ (h : ShapeNumbers). 2 * fan_of h + 1) o.touches.shape in
    record {
      room = k.room;
      few = record {
        few = λ z.
            let f = k.few.few (o.touches.told ∙ z) in
            let items = ap (λ (xs : List Record). ceiling (length (sent_all zs xs)) (payload_in a)) (st.items z) in
            let same = ap (λ (p : ℕ). ceiling (length (sent_all zs (chain_items s c))) p) pa in
            omega (arith, f, items, same);
      };
      stops = record {
        stops = record {
          goes = record {
            sound = sound;
            touches = touches_then ks s b t (touches_trans ks (chain_blocks a c) s a b
                (touches_wider ks [] s a o.touches (λ z j i f. tt)) k.touches
                (λ z j i f. rw (st.blocks z) f)) touches;
            frames = record {
              shape = given.shape ∙ (frames.shape ∙ o.touches.shape);
              free = omega (arith, gave, moved_free, opened, len);
              rack = given.rack ∙ sym out;
              free_areas = given.free_areas ∙ (frames.free_areas ∙ o.free_areas);
              peak = omega (arith, peak, moved_peak, low);
            };
          };
          halts = subst (λ (n : ℕ). Halts (c.blocks + k.room + 1)
              (2 * c.blocks + 2 * k.room + 2 * lists_of (length zs) + 4) n (stored c.blocks) s t e) un x;
          cause = cause_still s b t e v touches (cause_after [] s a b e o.touches k.cause);
        };
      };
    }

pub node_deals : {zs : List Span} {s a b t : RigState} {c : Chain} {g : Writers} {lists : Lists}
    {m left : ℕ} → IsPackedChain s c → s.pool.rack_out ≡ false → m ≡ lists_of (length zs)
    → OpensGroup m s a g → CanDeal a zs g → GroupDeals zs a b c lists
    → MovesFrames (length g.words.items) (left) a.pool b.pool
    → left ≡ 0 → Sound t → Touches [] b t → t ≡ record b { pool = given_rack b.pool }
    → Deals zs s t c lists
node_deals {zs} {s} {a} {g = g} is out e o can d frames none sound touches f =
    let o2 = subst (λ (n : ℕ). OpensGroup n s a g) e o in
    node_dealt is out o2 can o2.len d frames none sound touches f

pub node_stops : {zs : List Span} {s a b t : RigState} {c : Chain} {g : Writers} {fault : EmFault}
    {m left : ℕ} → IsPackedChain s c → s.pool.rack_out ≡ false → m ≡ lists_of (length zs)
    → OpensGroup m s a g → StopsGroup zs a b c fault
    → MovesFrames (length g.words.items) (left) a.pool b.pool → Sound t → Touches [] b t
    → GivenRack (left) b.pool t.pool → Unmoved b t → StopsDeals zs s t c fault
node_stops {zs} {s} {a} {g = g} is out n o k frames sound touches given v =
    let o2 = subst (λ (n : ℕ). OpensGroup n s a g) n o in
    node_stopped is out o2 o2.len k frames sound touches given v
