-- All records of a chain were dealt: what that did, beside the frame of its reader.
use Rattle.std.proofs.Common.{◌≡◌, ℕ, ◌+◌, ◌*◌, zero, suc, min, true, List, [], ◌++◌, length, drop, refl, sym, ap, ◌∙◌, subst, arith, IsTrue, Result, Ok, Err}
use Rattle.std.proofs.lemmas.List.{append-nil}
use Rattle.em_record.specs.declared.record.Record.{Record}
use Rattle.em_frames.specs.Pool.{SameFrames}
use Rattle.em_space.specs.Held.{Apart, Holds}
use Rattle.em_space.specs.Ledger.{Session, Stops}
use Rattle.em_space.specs.Rig.{RigState, Touches}
use Rattle.em_space.specs.declared.fault.EmFault.{EmFault}
use Rattle.em_space.proofs.Held.{apart_none}
use Rattle.em_space.proofs.Lists.{distinct_join, in_use_append}
use Rattle.em_space.proofs.Sessions.{session_as, session_still, session_trans}
use Rattle.em_space.proofs.Ledgers.{halts_wider}
use Rattle.em_space.proofs.Steps.{touches_then, touches_trans, touches_wider}
use Rattle.em_chain.specs.Chain.{IsChain, chain_blocks, chain_items}
use Rattle.em_chain.specs.Counts.{ceiling}
use Rattle.em_chain.specs.Effects.{GivesFrame, LendsFrame, Unmoved}
use Rattle.em_chain.specs.Reader.{rest_of}
use Rattle.em_chain.specs.Reads.{Opens}
use Rattle.em_chain.specs.Writers.{GroupStays, HasRack, IsGroup, Member, MemberStays, group_account, group_blocks, member_items, members_in}
use Rattle.em_chain.specs.declared.chain.Chain.{Chain}
use Rattle.em_chain.specs.declared.reader.Reader.{Reader}
use Rattle.em_chain.specs.declared.writers.Writers.{Writers}
use Rattle.em_chain.proofs.Keeps.{payload_kept}
use Rattle.em_chain.proofs.Sessions.{owed_most}
use Rattle.em_chain.proofs.WritersMembers.{SameAccount, members_len}
use Rattle.em_chain.proofs.WritersSession.{group_stays, rack_kept}
use Rattle.em_node.specs.declared.entry.Entry.{Entry}
use Rattle.em_tree_model.specs.Pouring.{given_out}
use Rattle.em_empty.specs.Dealt.{AreBoth, Dealt, DealtAll, DealsAll, DealsTo, Grew, both_account, both_blocks, dealing_moves, member_lists, op_place, source_account, source_blocks}
use Rattle.em_empty.proofs.Around.{cause_around, halts_around, spends_around}
use Rattle.em_empty.proofs.Groups.{filled_all, seen_same}

-- A chain with no block has no record.
pub no_items : (s : RigState) (c : Chain) → c.blocks ≡ 0 → chain_blocks s c ≡ []
no_items s c e = rw e refl

-- The group after its reader was made,
pub group_lent : {s t : RigState} {g : Writers} → LendsFrame s t → IsGroup s g → GroupStays s t g
group_lent {s} {t} {g} l i =
    let e = l.frames.free in
    group_stays [] s t g l.touches (λ z. apart_none (group_blocks s g))
    (rack_kept i.has l.frames.shape l.frames.rack (omega arith)) i

-- with which it has no block in common,
pub both_opened : {s t : RigState} {c : Chain} {r : Reader} {g : Writers} → LendsFrame s t
    → Opens s t c true r → IsGroup s g
    → (IsTrue s.device.told → Apart (chain_blocks s c) (group_blocks s g)) → AreBoth t r g
both_opened {s} {t} {c} {r} {g} l o i a =
    let st = group_lent l i in
    record {
      reader = o.is;
      taking = o.taking_is;
      group = st.is;
      apart = λ y. let z : IsTrue s.device.told = sym l.touches.told ∙ y in
          rw (o.blocks z, st.blocks z) (a z);
    }

-- The rack after the frame came back.
pub rack_given : {s a b t : RigState} {g h : Writers} → HasRack s g → LendsFrame s a
    → SameFrames a.pool b.pool → GivesFrame [] b t → length h.words.items ≡ length g.words.items
    → HasRack b h → HasRack t h
rack_given {s} {a} {b} {t} {g} {h} r l e v len k =
    let x = l.frames.free in
    let y = e.free in
    let z = v.frames.free in
    let o = r.out in
    let shape = l.frames.shape in
    let shape2 = e.shape in
    let same = v.frames.shape ∙ (e.shape ∙ l.frames.shape) in
    record {
      places = rw v.frames.shape k.places;
      filled_by = rw v.frames.shape k.filled_by;
      out = rw (same, len) (omega arith);
      rack_out = v.frames.rack ∙ k.rack_out;
    }

frames_around : {s a b t : RigState} → LendsFrame s a → SameFrames a.pool b.pool → GivesFrame [] b t
    → SameFrames s.pool t.pool
frames_around l e v =
    let x = l.frames.free in
    let y = e.free in
    let z = v.frames.free in
    let p = l.frames.peak in
    let q = e.peak in
    let r = v.frames.peak in
    record {
      shape = v.frames.shape ∙ (e.shape ∙ l.frames.shape);
      free = omega arith;
      rack = v.frames.rack ∙ (e.rack ∙ l.frames.rack);
      free_areas = v.frames.free_areas ∙ (e.free_areas ∙ l.frames.free_areas);
      peak = omega arith;
    }

source_holds : {s : RigState} {c : Chain} {g : Writers} → IsChain s c → IsGroup s g
    → (IsTrue s.device.told → Apart (chain_blocks s c) (group_blocks s g)) → IsTrue s.device.told
    → Holds s (source_blocks s c g)
source_holds {s} {c} {g} i k a z =
    let x = (i.told z).holds in
    let y = k.members_are.holds z in
    record {
      in_use = in_use_append s (chain_blocks s c) (group_blocks s g) x.in_use y.in_use;
      distinct = λ d. distinct_join (chain_blocks s c) (group_blocks s g) (x.distinct d)
          (y.distinct d)
          (a z);
    }

none_dropped : (n : ℕ) → (let xs : List Record = [] in drop n xs) ≡ []
none_dropped zero = refl
none_dropped (suc n) = refl

items_gone : (s : RigState) (c : Chain) → c.blocks ≡ 0 → chain_items s c ≡ []
items_gone s c e = rw e (none_dropped c.skip)

-- the account of a chain and a group is that of its reader and the group
source_same : {s : RigState} {a : RigState} {c : Chain} {r : Reader} (g : Writers)
    → Opens s a c true r
    → SameAccount (source_account c g) (both_account r g)
source_same {s} {a} {c} {r} g o =
    let b : r.blocks ≡ c.blocks = ap (λ (x : Chain). x.blocks) o.words in
    let w = o.owed_is in
    record {
      blocks = omega arith;
      unstored = omega arith;
      paid = omega arith;
      owed = omega arith;
    }

-- The lists of a group's members, if the members stay.
members_stay : {s t : RigState} {g : Writers} → GroupStays s t g → IsTrue s.device.told
    → member_lists t g ≡ member_lists s g
members_stay {s} {t} {g} h z =
    let n = members_len g.words.items g.rack in
    seen_same (member_items s) (member_items t) (members_in g) (members_in g) refl
    (λ j l. (h.members j (omega arith)).items z)

grew_around : {n : ℕ} {s a b t : RigState} {x y : Member} → a.device.told ≡ s.device.told
    → b.device.told ≡ a.device.told → MemberStays s a x → Grew n a b x y → MemberStays b t y
    → Grew n s t x y
grew_around e f h k m = record {
  packed = λ z p. m.packed (f ∙ (e ∙ z)) (k.packed (e ∙ z) (h.packed z p));
  tight = λ z p. m.tight (f ∙ (e ∙ z)) (k.tight (e ∙ z) (h.tight z p));
  count_most = k.count_most;
  blocks_most = k.blocks_most;
}

-- All went well,
all_dealt : {s a b t : RigState} {c : Chain} {r q : Reader} {g h : Writers} (key : Record → Record)
    (es : List Entry) → LendsFrame s a → Unmoved s a → Opens s a c true r → IsChain s c
    → IsGroup s g
    → (IsTrue s.device.told → Apart (chain_blocks s c) (group_blocks s g))
    → (c.count ≡ 0 → c.blocks ≡ 0)
    → Dealt (r.blocks + (group_account g).blocks + min c.count
    (length es)) c.count key es a b r q g h
    → GivesFrame [] b t → Unmoved b t → HasRack t h → DealtAll key es s t c g h
all_dealt {s} {a} {b} {t} {c} {r} {q} {g} {h} key es l u o i k ap_is whole d v w rack =
    let gs = group_lent l k in
    let gt = group_stays [] b t h v.touches (λ z. apart_none (group_blocks b h)) rack d.is in
    let eb : r.blocks ≡ c.blocks = ap (λ (x : Chain). x.blocks) o.words in
    let ec : r.count ≡ c.count = ap (λ (x : Chain). x.count) o.words in
    let n = d.ops_len in
    let left = d.took.left_is in
    let qc : q.count ≡ 0 = omega arith in
    let qb : q.blocks ≡ 0 = d.took.none_left (λ z. eb ∙ whole (sym ec ∙ z)) qc in
    let e = l.touches.told in
    let f = d.took.told in
    let x : Session (source_blocks s c g) s a (both_blocks a r g) =
    session_as (both_blocks a r g)
    (session_still (source_blocks s c g) l.sound l.touches (source_holds i k ap_is))
    (λ z. rw (o.blocks z, gs.blocks z) refl) in
    let y = d.runs.session in
    let m : Session (both_blocks b q h) b t (group_blocks t h) =
    session_as (group_blocks t h)
    (session_still (both_blocks b q h) v.sound v.touches (λ z. y.holds (sym f ∙ z)))
    (λ z. gt.blocks z
    ∙ sym (ap (λ (ks : List ℕ). ks ++ group_blocks b h) (no_items b (rest_of q) qb))) in
    let ow = owed_most q (d.took.taking ∙ o.taking_is) in
    let last : SameAccount (both_account q h) (group_account h) = record {
      blocks = omega arith;
      unstored = omega arith;
      paid = omega arith;
      owed = omega arith;
    } in
    let pa = payload_kept [] s a l.touches in
    let pb = payload_kept [] b t v.touches in
    let fa = filled_all s a (members_in g) pa in
    let fb = filled_all b t (members_in h) pb in
    let held = d.runs.spends.held in
    record {
      runs = record {
        session = session_trans (session_trans x y) m;
        frames = frames_around l d.runs.frames v;
        spends = rw eb at (spends_around u w (source_same g o) last (omega arith) d.runs.spends);
      };
      is = gt.is;
      len = d.len;
      items = λ z.
          let ops : d.ops ≡ chain_items s c =
          sym (append-nil d.ops)
          ∙ (ap (λ (xs : List Record). d.ops ++ xs) (sym (items_gone b (rest_of q) qb))
          ∙ (sym (d.took.items (e ∙ z)) ∙ o.items z)) in
          members_stay gt (f ∙ (e ∙ z))
          ∙ (d.items (e ∙ z)
          ∙ (ap (λ (bs : List (List Record)). given_out (op_place key es) bs d.ops)
          (members_stay gs z)
          ∙ ap (λ (xs : List Record). given_out (op_place key es) (member_lists s g) xs) ops));
      grew = λ j p. grew_around e f (gs.members j p) (d.grew j p)
          (gt.members j (let y = d.len in omega arith));
      filled_most = let y = d.filled_most in omega arith;
      touched_most = d.touched_most;
    }

-- or a call gave up.
dealing_stopped : {s a b t : RigState} {c : Chain} {r : Reader} {g : Writers} {fault : EmFault}
    (e : ℕ)
    → LendsFrame s a → Unmoved s a → Opens s a c true r → IsGroup s g
    → Stops (r.blocks + (group_account g).blocks + min c.count e + 1)
    ((group_account g).paid + dealing_moves a c.count e) (min c.count e + 1) (both_blocks a r g)
    (both_account r g) a b fault → GivesFrame [] b t → Unmoved b t
    → Stops (c.blocks + (group_account g).blocks + min c.count e + 1)
    ((group_account g).paid + dealing_moves s c.count e) (min c.count e + 1) (source_blocks s c g)
    (source_account c g) s t fault
dealing_stopped {s} {a} {b} {t} {c} {r} {g} {fault} e l u o k d v w =
    let gs = group_lent l k in
    let eb : r.blocks ≡ c.blocks = ap (λ (x : Chain). x.blocks) o.words in
    let pa = payload_kept [] s a l.touches in
    let moves : dealing_moves a c.count e ≡ dealing_moves s c.count e =
    ap (λ (p : ℕ). 2 * ceiling c.count p + 4 * min c.count e + 1) pa in
    let all : Touches (source_blocks s c g) s b =
    touches_trans (source_blocks s c g) (both_blocks a r g) s a b
    (touches_wider (source_blocks s c g) [] s a l.touches (λ z j i f. tt)) d.goes.touches
    (λ z j i f. rw (o.blocks z, gs.blocks z) f) in
    record {
      goes = record {
        sound = v.sound;
        touches = touches_then (source_blocks s c g) s b t all v.touches;
        frames = frames_around l d.goes.frames v;
      };
      halts = halts_wider (omega arith) (omega arith) (omega arith)
          (halts_around u w (source_same g o) (omega arith) d.halts);
      cause = cause_around fault u v.touches w d.cause;
    }

pub deals_all : {T : Type 0} {s a b t : RigState} {c : Chain} {r : Reader} {g h : Writers} {n : ℕ}
    (q : Reader) (key : Record → Record) (es : List Entry) (result : Result T EmFault)
    → n ≡ c.count → LendsFrame s a → Unmoved s a → Opens s a c true r → IsChain s c → IsGroup s g
    → (IsTrue s.device.told → Apart (chain_blocks s c) (group_blocks s g))
    → (c.count ≡ 0 → c.blocks ≡ 0) → DealsTo n key es a b r q g h result → GivesFrame [] b t
    → Unmoved b t → HasRack t h → DealsAll key es s t c g h result
deals_all {T} {s} {a} {b} {t} {c} {r} {g} {h} q key es result e l u o i k ap_is whole d v w rack =
    by_result result (subst (λ (m : ℕ). DealsTo m key es a b r q g h result) e d)
  where
    by_result : (y : Result T EmFault) → DealsTo c.count key es a b r q g h y
        → DealsAll key es s t c g h y
    by_result (Ok x) d = all_dealt key es l u o i k ap_is whole d v w rack
    by_result (Err fault) d = dealing_stopped (length es) l u o k d v w

-- As many frames are free before the reader's one comes back.
pub deals_frames : {T : Type 0} (n : ℕ) (key : Record → Record) (es : List Entry) (a b : RigState)
    (r q : Reader) (g h : Writers) (result : Result T EmFault)
    → DealsTo n key es a b r q g h result → SameFrames a.pool b.pool
deals_frames n key es a b r q g h (Ok x) d = d.runs.frames
deals_frames n key es a b r q g h (Err fault) d = d.goes.frames
