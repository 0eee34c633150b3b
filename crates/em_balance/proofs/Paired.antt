-- Two children of a node that were loaded, dealt anew and stored.
use Rattle.std.proofs.Common.{◌≡◌, true, false, ℕ, zero, suc, ◌+◌, ◌-◌, ◌/◌, ◌<◌, ◌≤◌, List, [], ◌∷◌, ◌++◌, get_or, set, length, length-append, take, drop, refl, sym, ap, ◌∙◌, subst, arith, inl, inr, IsTrue, Some, Result, Ok, Err, IsErrAnd}
use Rattle.std.specs.Prelude.{remove}
use Rattle.std.proofs.lemmas.List.{length-drop, length-set, length-take-le}
use Rattle.em_record.specs.Shape.{fan_of}
use Rattle.em_record.specs.declared.record.Record.{Record}
use Rattle.em_frames.specs.Device.{block_at}
use Rattle.em_space.specs.Free.{Off}
use Rattle.em_space.specs.Held.{Holds}
use Rattle.em_space.specs.Ledger.{Account, Runs, Stops}
use Rattle.em_space.specs.Rig.{RigState, BlockCause, Goes, InUse, SameBlocks, Sound, Touches}
use Rattle.em_space.specs.declared.fault.EmFault.{EmFault}
use Rattle.em_space.specs.declared.fault.EmFault.TheVariants.{Damaged}
use Rattle.em_space.proofs.Held.{in_use_below, in_use_kept}
use Rattle.em_space.proofs.Ledgers.{full_never}
use Rattle.em_space.proofs.Paying.{pays_kept}
use Rattle.em_space.proofs.Runs.{runs_then, runs_wider, stops_after, stops_wider}
use Rattle.em_space.proofs.Sessions.{session_still}
use Rattle.em_space.proofs.Steps.{block_cause, goes_both, touches_wider, untold_by}
use Rattle.em_node.specs.declared.entry.Entry.{Entry}
use Rattle.em_node.specs.Node.{AreLinked, IsNodeBlock, entries_of, level_of, no_entry}
use Rattle.em_node.proofs.Checks.{linked_at}
use Rattle.em_tree_blocks.specs.Node.{linked_block}
use Rattle.em_tree_blocks.specs.Reading.{entries_at}
use Rattle.em_balance.specs.Effects.{owing}
use Rattle.em_balance.specs.Fusing.{AreNeighbours, AreTogether, CanFusePair, DealsFrames, FusesFrames, FusesOrShares, FusesPair, IsOverPair, PutsFused, PutsShared, SharesFrames, SharesPair, StopsFusing, from_low, high_child, joined_entries, low_child, lowered_to, owed_three, neighbour_blocks, pair_entries, parted_entry}
use Rattle.em_balance.specs.Loaded.{PassesTest, ReadsBlock}
use Rattle.em_balance.specs.Node.{level_at}
use Rattle.em_balance.proofs.Nodes.{entries_read, linked_drop, linked_take, node_at}
use Rattle.em_balance.proofs.Putting.{block_after}

-- Blocks were read, by k moves at most, and none was changed.
pub record ReadsMany (k : ℕ) (s t : RigState) : Type 0 where
  pub goes : Goes [] s t
  pub same : SameBlocks s t
  pub moves : t.moves ≤ s.moves + k

pub reads_one : {s t : RigState} → ReadsBlock s t → ReadsMany 1 s t
reads_one r = record { goes = r.goes; same = r.same; moves = r.moves }

pub reads_next : {k : ℕ} {s t u : RigState} (j : ℕ) → j ≡ k + 1 → ReadsMany k s t → ReadsBlock t u → ReadsMany j s u
reads_next {k} {s} {t} {u} j e r h =
    let a = r.moves in
    let b = h.moves in
    record {
      goes = goes_both [] s t u r.goes h.goes;
      same = record {
        head = h.same.head ∙ r.same.head;
        used = h.same.used ∙ r.same.used;
        most = h.same.most ∙ r.same.most;
      };
      moves = omega arith;
    }

-- They were read beside three stored blocks,
pub many_runs : {k : ℕ} {s t : RigState} (ks : List ℕ) (m n : ℕ) → n ≡ m + k → ReadsMany k s t
    → (IsTrue s.device.told → Holds s ks) → Runs 3 ks ks (owing 3 n) (owing 3 m) s t
many_runs {k} {s} {t} ks m n e r h =
    let used = r.same.used in
    let most = r.same.most in
    let moves = r.moves in
    let later = r.goes.touches.moves in
    record {
      session = session_still ks r.goes.sound r.goes.touches h;
      frames = r.goes.frames;
      spends = record {
        held = omega arith;
        used = omega arith;
        most = omega arith;
        moves = omega arith;
        later = later;
        pays = pays_kept 0 (omega arith) later;
      };
    }

-- or couldn't be.
pub many_stops : {k : ℕ} {s t : RigState} {e : EmFault} (ks : List ℕ) (n : ℕ) → k ≤ n → ReadsMany k s t
    → BlockCause s t e → Stops 3 0 0 ks (owing 3 n) s t e
many_stops {k} {s} {t} {e} ks n few r c =
    let used = r.same.used in
    let most = r.same.most in
    let moves = r.moves in
    let later = r.goes.touches.moves in
    record {
      goes = record {
        sound = r.goes.sound;
        touches = touches_wider ks [] s t r.goes.touches (λ z k u o. tt);
        frames = r.goes.frames;
      };
      halts = record {
        used = omega arith;
        full = full_never s t e (t.used + 3 < s.used + 3) c;
        most = omega arith;
        moves = omega arith;
        later = later;
        pays = pays_kept 0 (omega arith) later;
      };
      cause = block_cause s t e c;
    }

-- lists of blocks that are the same if the device tells
touches_named : {s t : RigState} {ks js : List ℕ} → (IsTrue s.device.told → ks ≡ js) → Touches ks s t → Touches js s t
touches_named {s} {t} {ks} {js} e h = record {
  name = h.name;
  told = h.told;
  blocks = h.blocks;
  shape = h.shape;
  faults = h.faults;
  most = h.most;
  moves = h.moves;
  others = λ z k u o. let P : List ℕ → Type 0 = Off k in h.others z k u (subst P (sym (e z)) o);
}

pub runs_named : {p : ℕ} {ks js : List ℕ} {a b : Account} {s t : RigState} (xs ys : List ℕ)
    → (IsTrue s.device.told → ks ≡ xs) → (IsTrue s.device.told → js ≡ ys) → Runs p ks js a b s t
    → Runs p xs ys a b s t
runs_named {p} {ks} {js} {a} {b} {s} {t} xs ys e f h = record {
  session = record {
    sound = h.session.sound;
    touches = touches_named e h.session.touches;
    within = record {
      off = λ z k u o.
          let P : List ℕ → Type 0 = Off k in
          subst P (f z) (h.session.within.off z k u (subst P (sym (e z)) o));
    };
    holds = λ z. let P : List ℕ → Type 0 = Holds t in subst P (f z) (h.session.holds z);
  };
  frames = h.frames;
  spends = h.spends;
}

pub stops_named : {p l f : ℕ} {ks : List ℕ} {a : Account} {s t : RigState} {e : EmFault} (xs : List ℕ)
    → (IsTrue s.device.told → ks ≡ xs) → Stops p l f ks a s t e → Stops p l f xs a s t e
stops_named xs e h = record {
  goes = record { sound = h.goes.sound; touches = touches_named e h.goes.touches; frames = h.goes.frames };
  halts = h.halts;
  cause = h.cause;
}

-- The children's blocks are in use: of a device that doesn't tell, within its range.
pub child_in_use : {s t : RigState} {most blocks : ℕ} {p : List Record} (node i : ℕ) → blocks ≡ s.blocks
    → ReadsBlock s t → IsNodeBlock most blocks p → (IsTrue s.device.told → p ≡ block_at s.device node)
    → i < length (entries_of p)
    → (IsTrue s.device.told → InUse s (linked_block (get_or (entries_at s node) i no_entry).child))
    → InUse t ((get_or (entries_of p) i no_entry).child - 1)
child_in_use {s} {t} {most} {blocks} {p} node i b r n e one used =
    let l = linked_at blocks (entries_of p) i one n.linked in
    let x = l.child_some in
    let y = l.child_most in
    let same = λ (z : IsTrue s.device.told).
    ap (λ (q : List Record). (get_or (entries_of q) i no_entry).child - 1) (e z) in
    in_use_kept [] s t _ r.goes.touches (λ z. tt) (record {
      told = λ z.
          let P : ℕ → Type 0 = InUse s in
          (subst P (sym (same z)) (used z)).told z;
      untold = λ z. omega arith;
    })

linked_both : (blocks : ℕ) (xs ys : List Entry) → AreLinked blocks xs → AreLinked blocks ys
    → AreLinked blocks (xs ++ ys)
linked_both blocks [] ys a b = b
linked_both blocks (x ∷ xs) ys a b = (a.0, linked_both blocks xs ys a.1 b)

linked_from : (blocks : ℕ) (key : Record) (ys : List Entry) → AreLinked blocks ys
    → AreLinked blocks (from_low key ys)
linked_from blocks key [] a = tt
linked_from blocks key (y ∷ ys) a = (
  record {
    child_some = a.0.child_some;
    child_most = a.0.child_most;
    head_most = a.0.head_most;
    tail_most = a.0.tail_most;
  },
  a.1,
)

linked_set : (blocks : ℕ) (ps : List Entry) (i : ℕ) (key : Record) → AreLinked blocks ps → i < length ps
    → AreLinked blocks (set ps i (lowered_to key (get_or ps i no_entry)))
linked_set blocks [] i key a l = absurd (omega arith)
linked_set blocks (p ∷ ps) zero key a l = (
  record {
    child_some = a.0.child_some;
    child_most = a.0.child_most;
    head_most = a.0.head_most;
    tail_most = a.0.tail_most;
  },
  a.1,
)
linked_set blocks (p ∷ ps) (suc i) key a l = (a.0, linked_set blocks ps i key a.1 (omega arith))

fewer : (ps : List Entry) (i : ℕ) → i < length ps → length (remove ps i) ≤ length ps
fewer ps i l =
    let a = length-append (take i ps) (drop (suc i) ps) in
    let b = length-take-le i ps (omega arith) in
    let c = length-drop (suc i) ps in
    omega arith

all_linked : {s : RigState} {node at : ℕ} → AreNeighbours s node at → AreLinked s.blocks (pair_entries s node at)
all_linked {s} {node} {at} n =
    let xs = entries_at s (low_child s node at) in
    let ys = entries_at s (high_child s node at) in
    linked_both s.blocks xs _ n.low_is.block.linked
    (linked_from s.blocks (get_or (entries_at s node) (at + 1) no_entry).low ys n.high_is.block.linked)

-- What stands in the blocks of two children that were fused,
pub fused_told : {s t : RigState} {node at : ℕ} {parent low : List Record} → AreNeighbours s node at
    → t.blocks ≡ s.blocks → t.pool.shape ≡ s.pool.shape → InUse t node → InUse t (low_child s node at)
    → block_at t.device node ≡ parent → block_at t.device (low_child s node at) ≡ low
    → FusesFrames (fan_of s.pool.shape) (entries_at s node) at (pair_entries s node at) (level_at s node)
    (level_at s (low_child s node at)) parent low → FusesPair s t node at
fused_told {s} {t} {node} {at} {parent} {low} n blocks shape u w a b f =
    let ps = entries_at s node in
    let few = n.node_is.block.few in
    let less = fewer ps (at + 1) n.two in
    let small = f.few in
    record {
      few = f.few;
      node_is = node_at s t blocks shape u a f.parent_is (omega arith)
          (linked_both s.blocks (take (at + 1) ps) (drop (suc (at + 1)) ps)
          (linked_take s.blocks (at + 1) ps n.node_is.block.linked)
          (linked_drop s.blocks (suc (at + 1)) ps n.node_is.block.linked));
      entries = entries_read t node a f.parent_is;
      low_is = node_at s t blocks shape w b f.low_is (omega arith) (all_linked n);
      all = entries_read t (low_child s node at) b f.low_is;
    }

-- and of two that share their entries.
pub shared_told : {s t : RigState} {node at : ℕ} {parent low high : List Record} → AreNeighbours s node at
    → t.blocks ≡ s.blocks → t.pool.shape ≡ s.pool.shape → InUse t node → InUse t (low_child s node at)
    → InUse t (high_child s node at)
    → block_at t.device node ≡ parent → block_at t.device (low_child s node at) ≡ low
    → block_at t.device (high_child s node at) ≡ high
    → SharesFrames (fan_of s.pool.shape) (entries_at s node) at (pair_entries s node at) (level_at s node)
    (level_at s (low_child s node at)) (level_at s (high_child s node at)) parent low high → SharesPair s t node at
shared_told {s} {t} {node} {at} {parent} {low} {high} n blocks shape u w v a b d f =
    let ps = entries_at s node in
    let all = pair_entries s node at in
    let half = length all / 2 in
    let few = n.node_is.block.few in
    let ls = length-set ps (at + 1) (parted_entry ps at all half) in
    let most = f.most in
    let lt = length-take-le half all (omega arith) in
    let ld = length-drop half all in
    record {
      many = f.many;
      most = f.most;
      node_is = node_at s t blocks shape u a f.parent_is (omega arith)
          (linked_set s.blocks ps (at + 1) (get_or all half no_entry).low n.node_is.block.linked n.two);
      entries = entries_read t node a f.parent_is;
      low_is = node_at s t blocks shape w b f.low_is (omega arith) (linked_take s.blocks half all (all_linked n));
      lower = entries_read t (low_child s node at) b f.low_is;
      high_is = node_at s t blocks shape v d f.high_is (omega arith) (linked_drop s.blocks half all (all_linked n));
      upper = entries_read t (high_child s node at) d f.high_is;
    }

-- three blocks that are held
pub pair_held : {s : RigState} {node at : ℕ} → AreNeighbours s node at → Holds s (neighbour_blocks s node at)
pair_held n = record {
  in_use = (n.node_is.in_use, (n.low_is.in_use, (n.high_is.in_use, tt)));
  distinct = λ d. ((n.low_other, (n.high_other, tt)), ((n.apart, tt), (tt, tt)));
}

-- All three nodes were loaded, into these frames.
pub record LoadsPair (s t : RigState) (node at first second fan : ℕ) (p l h : List Record) : Type 0 where
  pub reads : ReadsMany 3 s t
  pub fan_is : fan ≡ fan_of s.pool.shape
  pub first_is : IsTrue s.device.told → first ≡ low_child s node at
  pub second_is : IsTrue s.device.told → second ≡ high_child s node at
  pub node_is : IsTrue s.device.told → p ≡ block_at s.device node
  pub low_is : IsTrue s.device.told → l ≡ block_at s.device (low_child s node at)
  pub high_is : IsTrue s.device.told → h ≡ block_at s.device (high_child s node at)

pub loads_pair : {s a b c : RigState} {node at first second : ℕ} {p l h : List Record} {most blocks m2 b2 m3 b3 : ℕ}
    (fan : ℕ) → CanFusePair s node at → PassesTest (IsOverPair most blocks at) s a node p
    → PassesTest (IsNodeBlock m2 b2) a b first l → PassesTest (IsNodeBlock m3 b3) b c second h
    → first ≡ (get_or (entries_of p) at no_entry).child - 1
    → second ≡ (get_or (entries_of p) (at + 1) no_entry).child - 1 → fan ≡ fan_of s.pool.shape
    → LoadsPair s c node at first second fan p l h
loads_pair {s} {a} {b} {c} {node} {at} {first} {second} {p} {l} {h} fan can x y w e f g =
    let first_is = λ (z : IsTrue s.device.told).
    let o : first ≡ low_child s node at = e ∙ ap (λ (q : List Record). (get_or (entries_of q) at no_entry).child - 1)
    (x.loaded z) in o in
    let second_is = λ (z : IsTrue s.device.told).
    let o : second ≡ high_child s node at = f
    ∙ ap (λ (q : List Record). (get_or (entries_of q) (at + 1) no_entry).child - 1) (x.loaded z) in o in
    let Q : ℕ → Type 0 = InUse s in
    record {
      reads = reads_next 3 (omega arith) (reads_next 2 (omega arith) (reads_one x.reads) y.reads) w.reads;
      fan_is = g;
      first_is = first_is;
      second_is = second_is;
      node_is = x.loaded;
      low_is = λ z.
          let n = can.told z in
          let za : IsTrue a.device.told = x.reads.goes.touches.told ∙ z in
          let i = x.reads.goes.touches.others z (low_child s node at) n.low_is.in_use tt in
          y.loaded za ∙ (ap (block_at a.device) (first_is z) ∙ i.contents);
      high_is = λ z.
          let n = can.told z in
          let za : IsTrue a.device.told = x.reads.goes.touches.told ∙ z in
          let zb : IsTrue b.device.told = y.reads.goes.touches.told ∙ za in
          let i = x.reads.goes.touches.others z (high_child s node at) n.high_is.in_use tt in
          let j = y.reads.goes.touches.others za (high_child s node at) i.in_use tt in
          w.loaded zb ∙ (ap (block_at b.device) (second_is z) ∙ (j.contents ∙ i.contents));
    }

-- The blocks as they are called, and as they were read.
same_three : {s t : RigState} {node at first second fan : ℕ} {p l h : List Record}
    → LoadsPair s t node at first second fan p l h → IsTrue s.device.told
    → node ∷ first ∷ second ∷ [] ≡ neighbour_blocks s node at
same_three {s} {t} {node} {at} {first} {second} d z =
    ap (λ (k : ℕ). node ∷ k ∷ second ∷ []) (d.first_is z)
    ∙ ap (λ (k : ℕ). node ∷ low_child s node at ∷ k ∷ []) (d.second_is z)

pub pair_holds : {s t : RigState} {node at first second fan : ℕ} {p l h : List Record} → CanFusePair s node at
    → LoadsPair s t node at first second fan p l h → IsTrue t.device.told
    → Holds t (node ∷ first ∷ second ∷ [])
pair_holds {s} {t} {node} {at} can d y =
    let z : IsTrue s.device.told = sym d.reads.goes.touches.told ∙ y in
    let P : List ℕ → Type 0 = Holds t in
    subst P (sym (same_three d z)) ((session_still (neighbour_blocks s node at) d.reads.goes.sound d.reads.goes.touches
    (λ q. pair_held (can.told q))).holds z)

before_puts : {s t : RigState} {node at first second fan : ℕ} {p l h : List Record} → CanFusePair s node at
    → LoadsPair s t node at first second fan p l h
    → Runs 3 (neighbour_blocks s node at) (neighbour_blocks s node at) (owing 3 6) owed_three s t
before_puts {s} {t} {node} {at} can d =
    many_runs (neighbour_blocks s node at) 3 6 (omega arith) d.reads (λ z. pair_held (can.told z))

put_stops : {s t u : RigState} {node at first second fan : ℕ} {p l h : List Record} {e : EmFault}
    → CanFusePair s node at → LoadsPair s t node at first second fan p l h
    → Stops 3 0 0 (node ∷ first ∷ second ∷ []) owed_three t u e → BlockCause t u e → StopsFusing s u node at e
put_stops {s} {t} {u} {node} {at} {e = e} can d x c =
    let r = before_puts can d in
    let back = λ (y : IsTrue t.device.told). same_three d (sym d.reads.goes.touches.told ∙ y) in
    record {
      stops = stops_wider (omega arith) (omega arith) (omega arith)
          (stops_after r (stops_named (neighbour_blocks s node at) back x));
      cause = block_after s t u e d.reads.goes.touches.faults c;
    }

-- The end of a call that fused both,
pub ends_fused : {s t : RigState} {node at first second fan : ℕ} {p l h : List Record} (u : RigState) {T : Type 0}
    (result : Result T EmFault) (parent low high : List Record) → CanFusePair s node at
    → LoadsPair s t node at first second fan p l h → DealsFrames fan at p l h parent low high (Some true)
    → PutsFused t u node first second parent low result → FusesOrShares s u node at result
ends_fused u (Err e) parent low high can d f x = put_stops can d x.0 x.1
ends_fused {s} {t} {node} {at} {first} {second} {fan} {p} {l} {h} u (Ok a) parent low high can d f x =
    let r = before_puts can d in
    let back = λ (y : IsTrue t.device.told). same_three d (sym d.reads.goes.touches.told ∙ y) in
    let two = λ (y : IsTrue t.device.told).
    ap (λ (k : ℕ). node ∷ k ∷ []) (d.first_is (sym d.reads.goes.touches.told ∙ y)) in
    let q = runs_named (neighbour_blocks s node at) (node ∷ low_child s node at ∷ []) back two x.0 in
    let ks = d.reads.goes.touches in
    let vs = q.session.touches in
    inl (record {
      fuses = λ z.
          let zt : IsTrue t.device.told = ks.told ∙ z in
          let i = q.session.holds zt in
          let b = x.1 zt in
          let F : ℕ → List Record → List Record → List Record → Type 0 = λ g pp ll hh.
          FusesFrames g (entries_of pp) at (joined_entries (entries_of pp) at (entries_of ll) (entries_of hh))
          (level_of pp) (level_of ll) parent low in
          let frames : FusesFrames (fan_of s.pool.shape) (entries_at s node) at (pair_entries s node at)
          (level_at s node) (level_at s (low_child s node at)) parent low =
          subst (λ hh. F (fan_of s.pool.shape) (block_at s.device node) (block_at s.device (low_child s node at)) hh)
          (d.high_is z) (subst (λ ll. F (fan_of s.pool.shape) (block_at s.device node) ll h) (d.low_is z)
          (subst (λ pp. F (fan_of s.pool.shape) pp l h) (d.node_is z) (subst (λ g. F g p l h) d.fan_is f))) in
          fused_told (can.told z) (vs.blocks ∙ ks.blocks) (vs.shape ∙ ks.shape) i.in_use.0 i.in_use.1.0 b.0
          (ap (block_at u.device) (sym (d.first_is z)) ∙ b.1) frames;
      runs = runs_wider (omega arith) (runs_then r q);
    })

-- or shared their entries.
pub ends_shared : {s t : RigState} {node at first second fan : ℕ} {p l h : List Record} (u : RigState) {T : Type 0}
    (result : Result T EmFault) (parent low high : List Record) → CanFusePair s node at
    → LoadsPair s t node at first second fan p l h → DealsFrames fan at p l h parent low high (Some false)
    → PutsShared t u node first second parent low high result → FusesOrShares s u node at result
ends_shared u (Err e) parent low high can d f x = put_stops can d x.0 x.1
ends_shared {s} {t} {node} {at} {first} {second} {fan} {p} {l} {h} u (Ok a) parent low high can d f x =
    let r = before_puts can d in
    let back = λ (y : IsTrue t.device.told). same_three d (sym d.reads.goes.touches.told ∙ y) in
    let q = runs_named (neighbour_blocks s node at) (neighbour_blocks s node at) back back x.0 in
    let ks = d.reads.goes.touches in
    let vs = q.session.touches in
    inr (record {
      shares = λ z.
          let zt : IsTrue t.device.told = ks.told ∙ z in
          let i = q.session.holds zt in
          let b = x.1 zt in
          let F : ℕ → List Record → List Record → List Record → Type 0 = λ g pp ll hh.
          SharesFrames g (entries_of pp) at (joined_entries (entries_of pp) at (entries_of ll) (entries_of hh))
          (level_of pp) (level_of ll) (level_of hh) parent low high in
          let frames : SharesFrames (fan_of s.pool.shape) (entries_at s node) at (pair_entries s node at)
          (level_at s node) (level_at s (low_child s node at)) (level_at s (high_child s node at)) parent low high =
          subst (λ hh. F (fan_of s.pool.shape) (block_at s.device node) (block_at s.device (low_child s node at)) hh)
          (d.high_is z) (subst (λ ll. F (fan_of s.pool.shape) (block_at s.device node) ll h) (d.low_is z)
          (subst (λ pp. F (fan_of s.pool.shape) pp l h) (d.node_is z) (subst (λ g. F g p l h) d.fan_is f))) in
          shared_told (can.told z) (vs.blocks ∙ ks.blocks) (vs.shape ∙ ks.shape) i.in_use.0 i.in_use.1.0 i.in_use.1.1.0
          b.0 (ap (block_at u.device) (sym (d.first_is z)) ∙ b.1) (ap (block_at u.device) (sym (d.second_is z)) ∙ b.2)
          frames;
      runs = runs_wider (omega arith) (runs_then r q);
    })

-- A node couldn't be read, after k blocks,
pub pair_unread : {s t u : RigState} {k : ℕ} (node at : ℕ) (e : EmFault) → k + 1 ≤ 6 → ReadsMany k s t → ReadsBlock t u
    → BlockCause t u e → StopsFusing s u node at e
pair_unread {s} {t} {u} {k} node at e few r h c = record {
  stops = many_stops (neighbour_blocks s node at) 6 few (reads_next (k + 1) refl r h)
      (block_after s t u e r.goes.touches.faults c);
  cause = block_after s t u e r.goes.touches.faults c;
}

-- or the nodes don't stand together, which a device that tells doesn't show.
pub pair_damaged : {s t : RigState} {node at first second fan : ℕ} {p l h : List Record} → Sound s
    → CanFusePair s node at → LoadsPair s t node at first second fan p l h
    → (AreTogether fan (entries_of p) at (entries_of l) (entries_of h) → ⊥) → StopsFusing s t node at (Damaged node)
pair_damaged {s} {t} {node} {at} {fan = fan} {p} {l} {h} so can d fails =
    let ks = d.reads.goes.touches in
    let below = in_use_below s node so can.in_use in
    let blocks = ks.blocks in
    let cause : BlockCause s t (Damaged node) = (
      untold_by t.device.told (λ y.
          let z : IsTrue s.device.told = sym ks.told ∙ y in
          let F : ℕ → List Record → List Record → List Record → Type 0 = λ g pp ll hh.
          AreTogether g (entries_of pp) at (entries_of ll) (entries_of hh) in
          fails (subst (λ g. F g p l h) (sym d.fan_is) (subst (λ pp. F (fan_of s.pool.shape) pp l h) (sym (d.node_is z))
          (subst (λ ll. F (fan_of s.pool.shape) (block_at s.device node) ll h) (sym (d.low_is z))
          (subst (λ hh. F (fan_of s.pool.shape) (block_at s.device node) (block_at s.device (low_child s node at)) hh)
          (sym (d.high_is z)) (can.told z).together))))),
      omega arith,
    ) in
    record { stops = many_stops (neighbour_blocks s node at) 6 (omega arith) d.reads cause; cause = cause }

-- the result of a refused call
pub pair_refused : {s t : RigState} {node at : ℕ} {T : Type 0} (result : Result T EmFault) (e : EmFault)
    → IsErrAnd result (λ f. f ≡ e) → StopsFusing s t node at e → FusesOrShares s t node at result
pair_refused (Ok x) e i h = absurd i
pair_refused {s} {t} {node} {at} (Err f) e i h =
    subst (λ (y : EmFault). StopsFusing s t node at y) (sym i) h
