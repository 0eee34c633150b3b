-- A node was loaded, the records of a chain were shared out over it, and it was stored.
use Rattle.std.proofs.Common.{◌≡◌, ℕ, zero, suc, ◌+◌, ◌-◌, ◌*◌, ◌<◌, ◌≤◌, ◌^◌, min, List, [], ◌∷◌, ◌++◌, length, get_or, set, refl, sym, ap, ◌∙◌, subst, arith, IsTrue, Bool, true, false, inl, inr, ⊎_elim, Result, Ok, Err, IsErrAnd, Option}
use Rattle.std.proofs.lemmas.List.{get_or-set_same}
use Rattle.em_record.specs.Shape.{ShapeNumbers, fan_of}
use Rattle.em_record.specs.declared.record.Record.{Record}
use Rattle.em_frames.specs.Device.{block_at}
use Rattle.em_space.specs.Free.{Off}
use Rattle.em_space.specs.Held.{Holds}
use Rattle.em_space.specs.Ledger.{Session, Stops}
use Rattle.em_space.specs.Queue.{Pays}
use Rattle.em_space.specs.Rig.{RigState, Sound, Touches, Goes, InUse, Cause, BlockCause, DeviceCause, SameBlocks, Transfers, IfFull}
use Rattle.em_space.specs.declared.fault.EmFault.{EmFault}
use Rattle.em_space.specs.declared.fault.EmFault.TheVariants.{DeviceFault, Full, Damaged}
use Rattle.em_space.proofs.Held.{apart_none, holds_kept, in_use_kept, in_use_below}
use Rattle.em_space.proofs.Ledgers.{full_never}
use Rattle.em_space.proofs.Paying.{pays_more}
use Rattle.em_space.proofs.Sessions.{session_as, session_last, session_others, session_still, session_then}
use Rattle.em_space.proofs.Within.{goes_within, within_same}
use Rattle.em_space.specs.Held.{Within}
use Rattle.em_space.proofs.Steps.{block_cause, cause_after, device_block_cause, device_cause, same_frames_then, touches_wider}
use Rattle.em_chain.specs.Chain.{IsChain, chain_blocks, chain_contents, chain_items, payload_in}
use Rattle.em_chain.specs.Counts.{ceiling}
use Rattle.em_chain.specs.declared.chain.Chain.{Chain}
use Rattle.em_chain.proofs.Keeps.{payload_kept}
use Rattle.em_chain.specs.List.{last_link}
use Rattle.em_chain.proofs.Laws.{chain_stays, link_within, tail_within}
use Rattle.em_node.specs.declared.entry.Entry.{Entry}
use Rattle.em_node.specs.Node.{AreLimited, AreLinked, IsNodeBlock, entries_of, level_of}
use Rattle.em_tree_model.specs.Pouring.{given_out}
use Rattle.em_tree_blocks.specs.Node.{buffer_of}
use Rattle.em_empty.specs.Dealt.{op_place}
use Rattle.em_tree_blocks.specs.Reading.{buffer_items, entries_at}
use Rattle.em_empty.specs.Node.{AreBuffers, CanEmpty, KeepForms, SameLinks, buffer_blocks, buffer_count, given_blocks, node_blocks}
use Rattle.em_empty.specs.Effects.{EmptiedAt, EmptiesNode, Receives, StopsEmptying, emptying_moves, entries_most, reached}
use Rattle.em_empty.specs.FirstFull.{IsFirstFull, full_count}
use Rattle.em_empty.specs.Loaded.{LoadsNode}
use Rattle.em_empty.specs.Shared.{CanShare, FillsBuffers, SharedOut, sharing_account, sharing_blocks, sharing_moves, sharing_peak}
use Rattle.em_empty.proofs.Grouped.{buffers_stay, fills_around, lists_stay}

-- The buffers of a node that was tested are chains, if those that are told of are.
pub buffers_by : (s : RigState) (es : List Entry) → AreLimited es → (IsTrue s.device.told
    → AreBuffers s es)
    → AreBuffers s es
buffers_by s [] l h = tt
buffers_by s (e ∷ es) l h = (
  record {
    count_most = l.0.count;
    blocks_most = l.0.blocks;
    told = λ y. (h y).0.told y;
  },
  buffers_by s es l.1 (λ y. (h y).1),
)

-- what is read of the loaded block
same_entries : {s a : RigState} {node : ℕ} {c : Chain} {b : List Record} → LoadsNode s a node c b
    → IsTrue s.device.told → entries_of b ≡ entries_at s node
same_entries l z = ap (λ (x : List Record). entries_of x) (l.loaded z)

-- A loaded node can take the records.
pub can_share : {s a : RigState} {node : ℕ} {c : Chain} {b : List Record} → CanEmpty s node c
    → Goes [] s a → LoadsNode s a node c b → CanShare a c b
can_share {s} {a} {node} {c} {b} i g l =
    let h = g.touches in
    let ck = chain_stays [] s a c h (λ z. apart_none (chain_blocks s c)) i.chain in
    let told = λ (y : IsTrue a.device.told). (let z : IsTrue s.device.told = sym h.told ∙ y in z) in
    let old : (y : IsTrue a.device.told) → AreBuffers s (entries_of b) = λ y.
    rw (same_entries l (told y)) (i.told (told y)).buffers in
    record {
      node = l.is.node.node;
      chain = ck.is;
      buffers = buffers_by a (entries_of b) l.is.node.node.is.limited
          (λ y. buffers_stay [] (entries_of b) h (λ z. apart_none (buffer_blocks s
          (entries_of b))) (old y));
      holds = λ y.
          let o = (i.told (told y)).holds in
          let ks = chain_blocks s c ++ buffer_blocks s (entries_of b) in
          let held : Holds s ks = rw (same_entries l (told y)) (record {
            in_use = o.in_use.1;
            distinct = λ z. (o.distinct z).1;
          }) in
          rw (
            ck.blocks (told y),
            lists_stay [] (entries_of b) h (told y) (apart_none (buffer_blocks s
                (entries_of b))) (old y),
          )
          (holds_kept [] s a ks h (λ _. apart_none ks) held);
      places = l.is.places;
      some = l.is.some;
      whole = l.is.whole;
    }

-- The node's block is none of the others,
pub node_off : {s a : RigState} {node : ℕ} {c : Chain} {b : List Record} → CanEmpty s node c
    → Goes [] s a → LoadsNode s a node c b → IsTrue a.device.told → Off node (sharing_blocks a c b)
node_off {s} {a} {node} {c} {b} i g l y =
    let h = g.touches in
    let z : IsTrue s.device.told = sym h.told ∙ y in
    let ck = chain_stays [] s a c h (λ _. apart_none (chain_blocks s c)) i.chain in
    let old : AreBuffers s (entries_of b) = rw (same_entries l z) (i.told z).buffers in
    let off : Off node (chain_blocks s c ++ buffer_blocks s (entries_of b)) =
    rw (same_entries l z) ((i.told z).holds.distinct z).0 in
    rw (
      ck.blocks z,
      lists_stay [] (entries_of b) h z (apart_none (buffer_blocks s
          (entries_of b))) old,
    )
    off

-- and stays in use.
pub node_in_use : {s a t : RigState} {node : ℕ} {c : Chain} {b : List Record} → CanEmpty s node c
    → Goes [] s a → LoadsNode s a node c b → Touches (sharing_blocks a c b) a t → InUse t node
node_in_use {s} {a} {t} {node} {c} {b} i g l h =
    in_use_kept (sharing_blocks a c b) a t node h (node_off i g l)
    (in_use_kept [] s a node g.touches (λ z. tt) i.in_use)

-- As many entries as were found, at most.
entries_by : (s : RigState) (node n : ℕ) (z : Bool) → s.device.told ≡ z
    → (s.device.told ≡ true → n ≡ length (entries_at s node)) → n ≤ 2 * fan_of s.pool.shape
    → n ≤ entries_most s node
entries_by s node n true e h few = let k = h e in rw e (omega arith)
entries_by s node n false e h few = rw e few

few_entries : {s a : RigState} {node : ℕ} {c : Chain} {b : List Record} → LoadsNode s a node c b
    → length (entries_of b) ≤ entries_most s node
few_entries {s} {a} {node} {c} {b} l =
    entries_by s node (length (entries_of b)) s.device.told refl
    (λ z. ap (λ (es : List Entry). length es) (same_entries l z)) l.is.node.few

-- Numbers before and after calls.
pub pays_around : {m n : ℕ} {s a b t : RigState} → a.used ≡ s.used → s.moves ≤ a.moves
    → t.used ≡ b.used → b.moves ≤ t.moves → Pays m n a b → Pays m n s t
pays_around {m} {n} {s} {a} {b} {t} e f g h x = record {
  is = ⊎_elim (λ (u : 2 ^ 64 - 1 ≤ b.moves). inl (omega arith))
      (λ (u : b.used + a.moves + m ≤ a.used + b.moves + n). inr (omega arith)) x.is;
}

-- The blocks that were given, as the call found them.
given_off : {s a : RigState} {node : ℕ} {c : Chain} {b : List Record} → CanEmpty s node c
    → Goes [] s a → LoadsNode s a node c b → IsTrue s.device.told
    → node ∷ sharing_blocks a c b ≡ given_blocks s node c
given_off {s} {a} {node} {c} {b} i g l z =
    let h = g.touches in
    let ck = chain_stays [] s a c h (λ _. apart_none (chain_blocks s c)) i.chain in
    let old : AreBuffers s (entries_of b) = rw (same_entries l z) (i.told z).buffers in
    ap (λ (ks : List ℕ). node ∷ ks)
    (rw (
      ck.blocks z,
      lists_stay [] (entries_of b) h z (apart_none (buffer_blocks s (entries_of b))) old,
      same_entries l z,
    ) refl)

-- A fault of the load,
pub stopped_loading : {s a : RigState} {node : ℕ} {c : Chain} {fault : EmFault} → Goes [] s a
    → SameBlocks s a → a.moves ≤ s.moves + 1 → BlockCause s a fault → StopsEmptying s a node c fault
stopped_loading {s} {a} {node} {c} {fault} g e m k =
    let later = g.touches.moves in
    let used = e.used in
    let most = e.most in
    record {
      goes = record {
        sound = g.sound;
        touches = touches_wider (given_blocks s node c) [] s a g.touches (λ z j i o. tt);
        frames = g.frames;
      };
      costs = record {
        moves = omega arith;
        used = omega arith;
        most = omega arith;
        pays = record { is = inr (omega arith) };
      };
      cause = block_cause s a fault k;
      room = full_never s a fault (s.blocks < s.used + reached s node c + 1) k;
    }

-- the session up to the load, and up to the sharing out
loaded_session : {s a : RigState} {node : ℕ} {c : Chain} {b : List Record} → CanEmpty s node c
    → Goes [] s a → LoadsNode s a node c b
    → Session (given_blocks s node c) s a (node ∷ sharing_blocks a c b)
loaded_session {s} {a} {node} {c} {b} i g l =
    session_as (node ∷ sharing_blocks a c b)
    (session_still (given_blocks s node c) g.sound g.touches (λ z. (i.told z).holds))
    (λ z. given_off i g l z)

shared_session : {key : Record → Record} {s a t : RigState} {node : ℕ} {c : Chain}
    {b d : List Record} → CanEmpty s node c → Goes [] s a → LoadsNode s a node c b
    → SharedOut key a t c b d
    → Session (given_blocks s node c) s t ((node ∷ []) ++ buffer_blocks t (entries_of d))
shared_session {key} {s} {a} {t} {node} {c} {b} {d} i g l x =
    session_last (node ∷ []) (sharing_blocks a c b) (buffer_blocks t (entries_of d))
    (loaded_session i g l) x.runs.session

-- the moves of sharing out, by what is known before the load
moves_before : {s a : RigState} {node : ℕ} {c : Chain} {b : List Record} → Goes [] s a
    → LoadsNode s a node c b
    → sharing_moves a c (length (entries_of b)) + 2 ≤ emptying_moves s node c
moves_before {s} {a} {node} {c} {b} g l =
    let e = payload_kept [] s a g.touches in
    let k : ceiling c.count (payload_in a) ≡ ceiling c.count (payload_in s) =
    ap (λ (p : ℕ). ceiling c.count p) e in
    let few = few_entries l in
    omega arith

-- A fault of sharing out,
pub stopped_sharing : {s a t : RigState} {node : ℕ} {c : Chain} {b : List Record} {fault : EmFault}
    → CanEmpty s node c → Goes [] s a → SameBlocks s a → a.moves ≤ s.moves + 1
    → LoadsNode s a node c b
    → Stops (sharing_peak c (entries_of b) + 1) 1 (min c.count (length (entries_of b)) + 1)
    (sharing_blocks a c b) (sharing_account a c (entries_of b)) a t fault
    → StopsEmptying s t node c fault
stopped_sharing {s} {a} {t} {node} {c} {b} {fault} i g e m l x =
    let held = given_blocks s node c in
    let ses = loaded_session i g l in
    let first : Goes held s a = record {
      sound = g.sound;
      touches = ses.touches;
      frames = g.frames;
    } in
    let within : Within s held (sharing_blocks a c b) = record {
      off = λ z j u o. (ses.within.off z j u o).1;
    } in
    let h = x.halts in
    let h1 = h.used in
    let h2 = h.most in
    let h3 = h.moves in
    let used = e.used in
    let most = e.most in
    let later = g.touches.moves in
    let few = few_entries l in
    let moves = moves_before g l in
    record {
      goes = goes_within held (sharing_blocks a c b) s a t first within x.goes;
      costs = record {
        moves = omega arith;
        used = omega arith;
        most = omega arith;
        pays = pays_more (pays_around used later refl (omega arith) h.pays) (omega arith);
      };
      cause = cause_after [] s a t fault g.touches x.cause;
      room = room_by fault x.cause h.full;
    }
  where
    room_by : (f : EmFault) → Cause a t f
        → IfFull f (λ _. t.used + (c.blocks + buffer_count (entries_of b))
        < a.used + (sharing_peak c (entries_of b) + 1))
        → IfFull f (λ _. s.blocks < s.used + reached s node c + 1)
    room_by DeviceFault k q = tt
    room_by (Full n) k q =
        let all = k.1 in
        let same = x.goes.touches.blocks in
        let same2 = g.touches.blocks in
        let used = e.used in
        let few = few_entries l in
        omega arith
    room_by (Damaged n) k q = tt

-- and of the store.
pub stopped_storing : {key : Record → Record} {s a u t : RigState} {node : ℕ} {c : Chain}
    {b d : List Record} {fault : EmFault} → CanEmpty s node c → Goes [] s a → SameBlocks s a
    → a.moves ≤ s.moves + 1 → LoadsNode s a node c b → SharedOut key a u c b d → Goes
    (node ∷ []) u t
    → Transfers u t → DeviceCause u t fault → StopsEmptying s t node c fault
stopped_storing {key} {s} {a} {u} {t} {node} {c} {b} {d} {fault} i g e m l x go tr k =
    let held = given_blocks s node c in
    let ses = shared_session i g l x in
    let first : Goes held s u = record {
      sound = x.runs.session.sound;
      touches = ses.touches;
      frames = same_frames_then s.pool a.pool u.pool g.frames x.runs.frames;
    } in
    let within : Within s held (node ∷ []) = record {
      off = λ z j p o. let q = ses.within.off z j p o in (q.0, tt);
    } in
    let sp = x.runs.spends in
    let s1 = sp.used in
    let s2 = sp.most in
    let s3 = sp.moves in
    let s4 = sp.held in
    let used = e.used in
    let most = e.most in
    let later = g.touches.moves in
    let later2 = go.touches.moves in
    let few = few_entries l in
    let moves = moves_before g l in
    let last = tr.moves in
    let most2 = tr.blocks.most in
    let used2 = tr.used in
    record {
      goes = goes_within held (node ∷ []) s u t first within go;
      costs = record {
        moves = omega arith;
        used = omega arith;
        most = omega arith;
        pays = pays_more (pays_around used later used2 later2 sp.pays) (omega arith);
      };
      cause = cause_after held s u t fault ses.touches (device_cause u t fault k);
      room = full_never u t fault (s.blocks < s.used + reached s node c + 1)
          (device_block_cause u t fault k);
    }

-- By the result.
pub empties_refused : (key : Record → Record) (s t : RigState) (node : ℕ) (c : Chain)
    (result : Result (Option ℕ) EmFault) (fault : EmFault) → IsErrAnd result (λ f. f ≡ fault)
    → StopsEmptying s t node c fault → EmptiesNode key s t node c result
empties_refused key s t node c (Ok x) fault e k = absurd e
empties_refused key s t node c (Err f) fault e k =
    subst (λ (y : EmFault). StopsEmptying s t node c y) (sym e) k

-- The entries lead to the same children.
pub links_len : (es fs : List Entry) → SameLinks es fs → length fs ≡ length es
links_len [] [] h = refl
links_len [] (f ∷ fs) h = absurd h
links_len (e ∷ es) [] h = absurd h
links_len (e ∷ es) (f ∷ fs) h = ap suc (links_len es fs h.2)

tail_by : (s : RigState) (c : Chain) (n : ℕ) → c.blocks ≡ n → Sound s → IsTrue s.device.told
    → IsChain s c → c.tail ≤ s.blocks
tail_by s c zero e h z i =
    let t : last_link (chain_blocks s c) ≡ c.tail = (i.told z).list.tail_is in
    let none : chain_blocks s c ≡ [] = rw e refl in
    let t2 : 0 ≡ c.tail = sym (ap last_link none) ∙ t in
    omega arith
tail_by s c (suc n) e h z i = (tail_within s c h i z (omega arith)).1

linked_by : (t : RigState) (n : ℕ) (es fs : List Entry) → n ≡ t.blocks → Sound t
    → IsTrue t.device.told
    → AreLinked n es → SameLinks es fs → AreBuffers t fs → AreLinked t.blocks fs
linked_by t n [] [] e h z l k b = tt
linked_by t n [] (f ∷ fs) e h z l k b = absurd k
linked_by t n (x ∷ es) [] e h z l k b = absurd k
linked_by t n (x ∷ es) (f ∷ fs) e h z l k b =
    let c = buffer_of f in
    let u = b.0.told z in
    let p = l.0.child_some in
    let q = l.0.child_most in
    let r = k.1 in (
      record {
        child_some = omega arith;
        child_most = omega arith;
        head_most = link_within t (payload_in t) c.head (chain_blocks t c)
            (chain_contents t c) h u.list.run
            u.holds.in_use;
        tail_most = tail_by t c c.blocks refl h z b.0;
      },
      linked_by t n es fs e h z l.1 k.2 b.1,
    )

-- The block that was stored.
stored_at : {s : RigState} {node : ℕ} {d : List Record} (t : RigState) → Sound s
    → IsTrue s.device.told
    → InUse s node → t.device.contents ≡ set s.device.contents node d → block_at t.device node ≡ d
stored_at {s} {node} {d} t h z u e =
    let n = (h.told z).length_is in
    let l = in_use_below s node h u in
    ap (λ (cs : List (List Record)). get_or cs node []) e
    ∙ get_or-set_same s.device.contents node d [] (omega arith)

store_session : {s t : RigState} {node : ℕ} → Goes (node ∷ []) s t → InUse t node
    → Session (node ∷ []) s t (node ∷ [])
store_session {s} {t} {node} g u = record {
  sound = g.sound;
  touches = g.touches;
  within = within_same s (node ∷ []);
  holds = λ z. record { in_use = (u, tt); distinct = λ y. (tt, tt) };
}

-- What is read of the node's block before and after.
receives_by : {key : Record → Record} {s t : RigState} {node : ℕ} {c : Chain} {b d : List Record}
    → b ≡ block_at s.device node → block_at t.device node ≡ d → IsTrue s.device.told
    → IsNodeBlock (2 * fan_of t.pool.shape) t.blocks d → FillsBuffers key s t c b d
    → Receives key s t node c
receives_by {key} {s} {t} {node} {c} {b} {d} e f z is k =
    let old : entries_of b ≡ entries_at s node = ap (λ (x : List Record). entries_of x) e in
    let new : entries_of d ≡ entries_at t node = ap (λ (x : List Record). entries_of x) (sym f) in
    record {
      block = subst (λ (x : List Record). IsNodeBlock (2 * fan_of t.pool.shape) t.blocks x)
          (sym f) is;
      level = ap (λ (x : List Record). level_of x) f
          ∙ (k.level ∙ ap (λ (x : List Record). level_of x) e);
      links = subst (λ (x : List Entry). SameLinks x (entries_at t node)) old
          (subst (λ (y : List Entry). SameLinks (entries_of b) y) new k.links);
      buffers = subst (λ (y : List Entry). AreBuffers t y) new k.buffers;
      items = subst (λ (x : List Entry). buffer_items t (entries_at t node)
          ≡ given_out (op_place key x) (buffer_items s x) (chain_items s c)) old
          (subst (λ (y : List Entry). buffer_items t y
          ≡ given_out (op_place key (entries_of b)) (buffer_items s (entries_of b))
          (chain_items s c)) new
          (k.items z));
      forms = subst (λ (x : List Entry). KeepForms s t x (entries_at t node)) old
          (subst (λ (y : List Entry). KeepForms s t (entries_of b) y) new k.forms);
    }

first_by : {es : List Entry} {n : ℕ} (fs : List Entry) (m : ℕ) (least : Option ℕ) → es ≡ fs → n ≡ m
    → IsFirstFull n es least → IsFirstFull m fs least
first_by {es} {n} fs m least e f h =
    subst (λ (k : ℕ). IsFirstFull k fs least) f
    (subst (λ (gs : List Entry). IsFirstFull n gs least) e h)

-- All went well.
pub emptied_at : {key : Record → Record} {s a u t : RigState} {node : ℕ} {c : Chain}
    {b d : List Record} {least : Option ℕ} (limit : ℕ) → Sound s → CanEmpty s node c → Goes [] s a
    → SameBlocks s a → a.moves ≤ s.moves + 1 → LoadsNode s a node c b → SharedOut key a u c b d
    → Goes (node ∷ []) u t → Transfers u t → t.device.contents ≡ set u.device.contents node d
    → InUse t node → limit ≡ full_count s.pool.shape → IsFirstFull limit (entries_of d) least
    → EmptiedAt key s t node c least
emptied_at {key} {s} {a} {u} {t} {node} {c} {b} {d} {least} limit sound i g e m l x go tr st own q f =
    let es = entries_of b in
    let fs = entries_of d in
    let ses = shared_session i g l x in
    let h = g.touches in
    let told1 = h.told in
    let told2 = x.runs.session.touches.told in
    let told3 = go.touches.told in
    let apart = λ (y : IsTrue u.device.told).
    session_others (node ∷ []) (buffer_blocks u fs) ses (sym told1 ∙ (sym told2 ∙ y)) in
    let up = λ (z : IsTrue s.device.told). (let y : IsTrue u.device.told = told2 ∙ (told1 ∙ z) in
    y) in
    let in_use = node_in_use i g l x.runs.session.touches in
    let block : IsTrue s.device.told → block_at t.device node ≡ d = λ z.
    stored_at t x.runs.session.sound (up z) in_use st in
    let new : IsTrue s.device.told → entries_at t node ≡ fs = λ z.
    ap (λ (y : List Record). entries_of y) (block z) in
    let blocks = h.blocks in
    let blocks2 = x.runs.session.touches.blocks in
    let blocks3 = go.touches.blocks in
    let shape : t.pool.shape ≡ s.pool.shape =
    go.touches.shape ∙ (x.runs.session.touches.shape ∙ h.shape) in
    let sp = x.runs.spends in
    let s1 = sp.used in
    let s2 = sp.most in
    let s3 = sp.moves in
    let s4 = sp.held in
    let used = e.used in
    let most = e.most in
    let later = h.moves in
    let later2 = go.touches.moves in
    let few = few_entries l in
    let moves = moves_before g l in
    let last = tr.moves in
    let most2 = tr.blocks.most in
    let used2 = tr.used in
    record {
      emptied = λ z.
          let old : AreBuffers s es = rw (same_entries l z) (i.told z).buffers in
          let fill : FillsBuffers key s t c b d =
          fills_around (node ∷ []) i.chain old h told2 go.touches apart x.fills in
          let n = links_len es fs fill.links in
          let k = l.is.node.few in
          let bl : s.blocks ≡ t.blocks = omega arith in
          let is : IsNodeBlock (2 * fan_of t.pool.shape) t.blocks d = record {
            node = fill.node;
            few = rw shape (omega arith);
            linked = linked_by t s.blocks es fs bl go.sound (told3
                ∙ up z) l.is.node.linked fill.links
                fill.buffers;
          } in
          record {
            receives = receives_by (l.loaded z) (block z) z is fill;
            first_is = first_by (entries_at t node) (full_count s.pool.shape) least (sym
                (new z)) q f;
          };
      session = session_as (node_blocks t node)
          (session_then (node ∷ []) (node ∷ []) (buffer_blocks u fs) ses (store_session go own))
          (λ z. ap (λ (ks : List ℕ). node ∷ ks)
          (ap (λ (gs : List Entry). buffer_blocks t gs) (new z)
          ∙ lists_stay (node ∷ []) fs go.touches (up z) (apart (up z)) x.fills.buffers));
      frames = same_frames_then s.pool a.pool t.pool g.frames
          (same_frames_then a.pool u.pool t.pool x.runs.frames go.frames);
      costs = record {
        moves = omega arith;
        used = omega arith;
        most = omega arith;
        pays = pays_more (pays_around used later used2 later2 sp.pays) (omega arith);
      };
      frees = record {
        used = λ z.
            let c1 = ap buffer_count (same_entries l z) in
            let c2 = ap buffer_count (new z) in
            omega arith;
        pays = pays_around used later used2 later2 sp.pays;
      };
    }

-- A node has few entries.
pub few_enough : {s a u : RigState} {key : Record
    → Record} {node : ℕ} {c : Chain} {b d : List Record}
    → Sound s → LoadsNode s a node c b → SharedOut key a u c b d → length (entries_of d) < 2 ^ 32
few_enough {s} {a} {u} {key} {node} {c} {b} {d} h l x =
    let n = links_len (entries_of b) (entries_of d) x.fills.links in
    let k = l.is.node.few in
    let high = h.shape.frames_high in
    omega arith

pub limit_is : (s t : RigState) (fan block : ℕ) (shape : ShapeNumbers)
    → fan ≡ fan_of shape → block ≡ shape.block → shape ≡ t.pool.shape → t.pool.shape ≡ s.pool.shape
    → fan * block ≡ full_count s.pool.shape
limit_is s t fan block shape e f g h =
    rw (e, f) (ap full_count (g ∙ h))
