-- What sharing out did, beside the rack and the frames of its group.
use Rattle.std.proofs.Common.{◌≡◌, ℕ, ◌+◌, ◌*◌, min, List, [], ◌∷◌, length, refl, sym, ap, ◌∙◌, arith, IsTrue, false}
use Rattle.em_record.specs.declared.record.Record.{Record}
use Rattle.em_frames.specs.Pool.{PoolCounts, given_rack}
use Rattle.em_space.specs.Held.{Apart, Holds}
use Rattle.em_space.specs.Ledger.{Session, Stops}
use Rattle.em_space.specs.Rig.{RigState, Sound, Touches}
use Rattle.em_space.specs.declared.fault.EmFault.{EmFault}
use Rattle.em_space.proofs.Held.{apart_none}
use Rattle.em_space.proofs.Lists.{apart_left, apart_right, distinct_apart, distinct_right, in_use_right}
use Rattle.em_space.proofs.Sessions.{session_as, session_still, session_trans}
use Rattle.em_space.proofs.Steps.{touches_then, touches_trans, touches_wider}
use Rattle.em_chain.specs.Chain.{IsChain, chain_blocks, chain_items}
use Rattle.em_chain.specs.Counts.{ceiling}
use Rattle.em_chain.specs.Effects.{Unmoved}
use Rattle.em_chain.specs.Writers.{GivenRack, group_blocks}
use Rattle.em_chain.specs.declared.chain.Chain.{Chain}
use Rattle.em_chain.specs.declared.writers.Writers.{Writers}
use Rattle.em_chain.proofs.Keeps.{payload_kept}
use Rattle.em_chain.proofs.Laws.{chain_stays}
use Rattle.em_chain.proofs.WritersMembers.{SameAccount}
use Rattle.em_node.specs.declared.entry.Entry.{Entry}
use Rattle.em_node.specs.Node.{entries_of}
use Rattle.em_tree_model.specs.Pouring.{given_out}
use Rattle.em_tree_blocks.specs.Node.{buffer_of}
use Rattle.em_tree_blocks.specs.Reading.{buffer_items}
use Rattle.em_empty.specs.Node.{AreBuffers, KeepForms, buffer_blocks}
use Rattle.em_empty.specs.Dealt.{AwaitsRecords, Gathers, op_place}
use Rattle.em_empty.specs.Returned.{MovesFrames}
use Rattle.em_empty.specs.Shared.{CanShare, FillsBuffers, SharedOut, SharedTo, StopsSharing, shared_account, sharing_account, sharing_blocks, sharing_peak}
use Rattle.em_empty.proofs.Around.{cause_around, halts_around, spends_around}
use Rattle.em_empty.proofs.Entries.{gathered_blocks}

-- Buffers over a call that leaves their blocks alone.
pub buffers_stay : {s t : RigState} (held : List ℕ) (es : List Entry) → Touches held s t
    → (IsTrue s.device.told → Apart (buffer_blocks s es) held) → AreBuffers s es → AreBuffers t es
buffers_stay held [] h a b = tt
buffers_stay {s} {t} held (e ∷ es) h a b =
    let c = buffer_of e in (
      (chain_stays held s t c h
          (λ z. apart_left (chain_blocks s c) (buffer_blocks s es) held (a z)) b.0).is,
      buffers_stay held es h (λ z. apart_right (chain_blocks s c) (buffer_blocks s es) held
          (a z)) b.1,
    )

pub items_stay : {s t : RigState} (held : List ℕ) (es : List Entry) → Touches held s t
    → IsTrue s.device.told → Apart (buffer_blocks s es) held → AreBuffers s es
    → buffer_items t es ≡ buffer_items s es
items_stay held [] h z a b = refl
items_stay {s} {t} held (e ∷ es) h z a b =
    let c = buffer_of e in
    rw (
      (chain_stays held s t c h
          (λ y. apart_left (chain_blocks s c) (buffer_blocks s es) held a) b.0).items z,
      items_stay held es h z (apart_right (chain_blocks s c) (buffer_blocks s es) held a) b.1,
    ) refl

pub lists_stay : {s t : RigState} (held : List ℕ) (es : List Entry) → Touches held s t
    → IsTrue s.device.told → Apart (buffer_blocks s es) held → AreBuffers s es
    → buffer_blocks t es ≡ buffer_blocks s es
lists_stay held [] h z a b = refl
lists_stay {s} {t} held (e ∷ es) h z a b =
    let c = buffer_of e in
    rw (
      (chain_stays held s t c h
          (λ y. apart_left (chain_blocks s c) (buffer_blocks s es) held a) b.0).blocks z,
      lists_stay held es h z (apart_right (chain_blocks s c) (buffer_blocks s es) held a) b.1,
    ) refl

-- Their forms, over calls before and after.
pub forms_around : {s a b t : RigState} (held : List ℕ) (es fs : List Entry)
    → b.device.told ≡ a.device.told → Touches [] s a → Touches held b t
    → (IsTrue b.device.told → Apart (buffer_blocks b fs) held) → AreBuffers s es → AreBuffers b fs
    → KeepForms a b es fs → KeepForms s t es fs
forms_around held [] fs told h g q i j k = tt
forms_around held (e ∷ es) [] told h g q i j k = absurd k
forms_around {s} {a} {b} {t} held (e ∷ es) (f ∷ fs) told h g q i j k =
    let c = buffer_of e in
    let d = buffer_of f in
    let x = chain_stays [] s a c h (λ z. apart_none (chain_blocks s c)) i.0 in
    let y = chain_stays held b t d g
    (λ z. apart_left (chain_blocks b d) (buffer_blocks b fs) held (q z)) j.0 in (
      record {
        packed = λ z p. y.packed (told ∙ (h.told ∙ z)) (k.0.packed (h.told ∙ z) (x.packed z p));
        tight = λ z p. y.tight (told ∙ (h.told ∙ z)) (k.0.tight (h.told ∙ z) (x.tight z p));
      },
      forms_around held es fs told h g
          (λ z. apart_right (chain_blocks b d) (buffer_blocks b fs) held (q z)) i.1 j.1 k.1,
    )

-- What was filled, over calls before and after that change no block of it.
pub fills_around : {key : Record → Record} {s a b t : RigState} {c : Chain} {x y : List Record}
    (held : List ℕ) → IsChain s c → AreBuffers s (entries_of x) → Touches [] s a
    → b.device.told ≡ a.device.told → Touches held b t
    → (IsTrue b.device.told → Apart (buffer_blocks b (entries_of y)) held)
    → FillsBuffers key a b c x y → FillsBuffers key s t c x y
fills_around {key} {s} {a} {b} {t} {c} {x} {y} held i j h told g q f =
    let es = entries_of x in
    let fs = entries_of y in
    let place = op_place key es in
    let none = λ (ks : List ℕ). apart_none ks in
    record {
      node = f.node;
      level = f.level;
      links = f.links;
      buffers = buffers_stay held fs g q f.buffers;
      items = λ z.
          let w : IsTrue a.device.told = h.told ∙ z in
          let v : IsTrue b.device.told = told ∙ w in
          items_stay held fs g v (q v) f.buffers
          ∙ (f.items w
          ∙ (ap (λ (bs : List (List Record)). given_out place bs (chain_items a c))
          (items_stay [] es h z (none (buffer_blocks s es)) j)
          ∙ ap (λ (ops : List Record). given_out place (buffer_items s es) ops)
          ((chain_stays [] s a c h (λ _. none (chain_blocks s c)) i).items z)));
      forms = forms_around held es fs told h g q j f.buffers f.forms;
    }

-- the same account before
sharing_same : {s a : RigState} (c : Chain) (es : List Entry) → Touches [] s a
    → SameAccount (sharing_account s c es) (sharing_account a c es)
sharing_same {s} {a} c es h =
    let e = payload_kept [] s a h in
    record {
      blocks = refl;
      unstored = refl;
      paid = refl;
      owed = sym (ap (λ (p : ℕ). 2 * c.blocks + 2 * ceiling c.count p + 4 * min c.count
          (length es)) e);
    }

same_account : (x : List Entry) → SameAccount (shared_account x) (shared_account x)
same_account x = record { blocks = refl; unstored = refl; paid = refl; owed = refl }

-- the blocks before
sharing_lists : {s a : RigState} {c : Chain} (x : List Record) → IsChain s c
    → AreBuffers s (entries_of x) → Touches [] s a → IsTrue s.device.told
    → sharing_blocks a c x ≡ sharing_blocks s c x
sharing_lists {s} {a} {c} x i j h z =
    rw (
      (chain_stays [] s a c h (λ y. apart_none (chain_blocks s c)) i).blocks z,
      lists_stay [] (entries_of x) h z (apart_none (buffer_blocks s (entries_of x))) j,
    ) refl

unmoved_given : {s t : RigState} (p : PoolCounts) → t ≡ record s { pool = p } → Unmoved s t
unmoved_given {s} {t} p e = record {
  device = ap (λ (r : RigState). r.device) e;
  spare = ap (λ (r : RigState). r.spare) e;
  same = record {
    head = ap (λ (r : RigState). r.head) e;
    used = ap (λ (r : RigState). r.used) e;
    most = ap (λ (r : RigState). r.most) e;
  };
  moves = ap (λ (r : RigState). r.moves) e;
}

-- A group of the buffers can take the records.
pub group_awaits : {s a : RigState} {c : Chain} {b : List Record} {g : Writers} → CanShare s c b
    → Gathers s a g (entries_of b) → AwaitsRecords c.count g (entries_of b)
group_awaits i w = record { members = w.members; places = i.places; some = i.some }

pub group_chain : {s a : RigState} {c : Chain} {b : List Record} {g : Writers} → CanShare s c b
    → Gathers s a g (entries_of b) → IsChain a c
group_chain {s} {a} {c} i w =
    (chain_stays [] s a c w.touches (λ z. apart_none (chain_blocks s c)) i.chain).is

pub group_apart : {s a : RigState} {c : Chain} {b : List Record} {g : Writers} → CanShare s c b
    → Gathers s a g (entries_of b) → IsTrue a.device.told
    → Apart (chain_blocks a c) (group_blocks a g)
group_apart {s} {a} {c} {b} {g} i w y =
    let z : IsTrue s.device.told = sym w.touches.told ∙ y in
    rw (
      (chain_stays [] s a c w.touches (λ _. apart_none (chain_blocks s c)) i.chain).blocks z,
      gathered_blocks w,
    )
    (distinct_apart (chain_blocks s c) (buffer_blocks s (entries_of b)) ((i.holds z).distinct z))

-- the buffers hold their blocks
pub buffers_hold : {s : RigState} {c : Chain} {b : List Record} → CanShare s c b
    → IsTrue s.device.told → Holds s (buffer_blocks s (entries_of b))
buffers_hold {s} {c} {b} i z = record {
  in_use = in_use_right s (chain_blocks s c) (buffer_blocks s (entries_of b)) (i.holds z).in_use;
  distinct = λ y. distinct_right (chain_blocks s c) (buffer_blocks s (entries_of b))
      ((i.holds z).distinct y);
}

-- All went well,
pub shared_out : {key : Record → Record} {s a b t : RigState} {c : Chain} {g : Writers}
    {x y : List Record} (k : Writers) → CanShare s c x → s.pool.rack_out ≡ false → Gathers s a g
    (entries_of x)
    → MovesFrames (length g.words.items) (length k.words.items) a.pool b.pool
    → length g.words.items ≡ length (entries_of x) → length k.words.items ≡ 0
    → SharedTo key a b c x y → Sound t → Touches [] b t
    → t ≡ record b { pool = given_rack b.pool } → SharedOut key s t c x y
shared_out {key} {s} {a} {b} {t} {c} {g} {x} {y} k i rack w m len none d sound g2 e =
    let fs = entries_of y in
    let h = w.touches in
    let told = d.session.touches.told in
    let f1 = w.free in
    let f2 = m.free in
    let f3 = w.peak in
    let f4 = m.peak in
    let u = unmoved_given (given_rack b.pool) e in
    let pool : t.pool ≡ given_rack b.pool = ap (λ (r : RigState). r.pool) e in
    let first : Session (sharing_blocks s c x) s a (sharing_blocks a c x) =
    session_as (sharing_blocks a c x) (session_still (sharing_blocks s c x) w.sound h i.holds)
    (λ z. sharing_lists x i.chain i.buffers h z) in
    let last : Session (buffer_blocks b fs) b t (buffer_blocks t fs) =
    session_as (buffer_blocks t fs)
    (session_still (buffer_blocks b fs) sound g2 (λ z. d.session.holds (sym told ∙ z)))
    (λ z. lists_stay [] fs g2 z (apart_none (buffer_blocks b fs)) d.fills.buffers) in
    let held = d.spends.held in
    record {
      fills = fills_around [] i.chain i.buffers h told g2 (λ z. apart_none
          (buffer_blocks b fs)) d.fills;
      runs = record {
        session = session_trans (session_trans first d.session) last;
        frames = rw pool (record {
          shape = m.shape ∙ h.shape;
          free = omega arith;
          rack = sym rack;
          free_areas = m.free_areas ∙ w.free_areas;
          peak = omega arith;
        });
        spends = spends_around w.unmoved u (sharing_same c (entries_of x) h) (same_account fs)
            (omega arith) d.spends;
      };
    }

-- or a call gave up.
pub shared_stopped : {s a b t : RigState} {c : Chain} {g : Writers} {x : List Record}
    {fault : EmFault} (k : Writers) → CanShare s c x → s.pool.rack_out ≡ false → Gathers s a g
    (entries_of x)
    → MovesFrames (length g.words.items) (length k.words.items) a.pool b.pool
    → length g.words.items ≡ length (entries_of x) → StopsSharing a b c x fault → Sound t
    → Touches [] b t → GivenRack (length k.words.items) b.pool t.pool → Unmoved b t
    → Stops (sharing_peak c (entries_of x) + 1) 1 (min c.count (length (entries_of x)) + 1)
    (sharing_blocks s c x) (sharing_account s c (entries_of x)) s t fault
shared_stopped {s} {a} {b} {t} {c} {g} {x} {fault} k i rack w m len d sound g2 v u =
    let h = w.touches in
    let ks = sharing_blocks s c x in
    let f1 = w.free in
    let f2 = m.free in
    let f3 = w.peak in
    let f4 = m.peak in
    let f5 = v.free in
    let f6 = v.peak in
    let all : Touches ks s b =
    touches_trans ks (sharing_blocks a c x) s a b (touches_wider ks [] s a h
    (λ z j p f. tt)) d.touches
    (λ z j p f. rw (sharing_lists x i.chain i.buffers h z) f) in
    record {
      goes = record {
        sound = sound;
        touches = touches_then ks s b t all g2;
        frames = record {
          shape = v.shape ∙ (m.shape ∙ h.shape);
          free = omega arith;
          rack = v.rack ∙ sym rack;
          free_areas = v.free_areas ∙ (m.free_areas ∙ w.free_areas);
          peak = omega arith;
        };
      };
      halts = halts_around w.unmoved u (sharing_same c (entries_of x) h) (omega arith) d.halts;
      cause = cause_around fault w.unmoved g2 u d.cause;
    }
