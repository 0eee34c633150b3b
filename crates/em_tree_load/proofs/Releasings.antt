-- The blocks of a tree, released one after another.
use Rattle.std.proofs.Common.{◌≡◌, ℕ, zero, suc, ◌+◌, ◌-◌, ◌*◌, ◌<◌, ◌≤◌, List, [], ◌∷◌, ◌++◌, length, drop, get_or, refl, sym, ap, ◌∙◌, subst, arith, length-append, IsTrue, Result, Ok, Err, IsErrAnd, OnOk, OnErr, IfErr}
use Rattle.std.proofs.Math.Seq.{drop-cons}
use Rattle.em_record.specs.Shape.{ShapeNumbers}
use Rattle.em_record.specs.declared.record.Record.{Record}
use Rattle.em_frames.specs.Device.{block_at}
use Rattle.em_frames.specs.Pool.{given, lent}
use Rattle.em_space.specs.Free.{Off}
use Rattle.em_space.specs.Held.{Apart, Holds}
use Rattle.em_space.specs.Ledger.{Session}
use Rattle.em_space.specs.Rig.{RigState, Sound, BlockCause, Goes, InUse, MovesToRelease, Releases, SameBlocks, Touches}
use Rattle.em_space.specs.declared.fault.EmFault.{EmFault}
use Rattle.em_space.proofs.Apart.{off_left}
use Rattle.em_space.proofs.Held.{apart_none, holds_kept, in_use_below}
use Rattle.em_space.proofs.Lists.{apart_left, apart_right, apart_sym, distinct_apart, distinct_left, in_use_left}
use Rattle.em_space.proofs.Sessions.{session_as, session_mid, session_releases, session_still, session_trans}
use Rattle.em_space.proofs.Steps.{goes_with_frame, release_moves, same_frames_then, touches_pool, touches_trans, touches_wider}
use Rattle.em_chain.specs.Chain.{chain_blocks, payload_in}
use Rattle.em_chain.specs.Row.{Frees}
use Rattle.em_chain.specs.declared.chain.Chain.{Chain}
use Rattle.em_chain.proofs.Keeps.{payload_kept}
use Rattle.em_chain.proofs.Laws.{chain_stays}
use Rattle.em_leaf.specs.Leaf.{leaf_most}
use Rattle.em_node.specs.declared.entry.Entry.{Entry}
use Rattle.em_node.specs.Node.{AreLinked, entries_of, no_entry}
use Rattle.em_tree_blocks.specs.Node.{buffer_of, leaf_chain, linked_block}
use Rattle.em_tree_blocks.specs.Paths.{child_at}
use Rattle.em_tree_blocks.specs.Reading.{AreStored, IsTreeAt, entries_at, row_blocks, stored_chain, tree_blocks}
use Rattle.em_tree_blocks.proofs.Frames.{block_same, rows_stay, tree_stays}
use Rattle.em_tree_load.specs.Leaves.{LeadsToLeaf, ReadLeaf}
use Rattle.em_tree_load.specs.Releases.{CanRelease, FreesUpTo, HoldNone, IsUnbuffered, LeafLeft, ReleasedTree, ReleasesTree, Releasing, RowLeft, StopsReleasing}
use Rattle.em_tree_walk.proofs.Kept.{stands_left}
use Rattle.em_tree_walk.specs.Reads.{ReadsPassing, StopsReading}
use Rattle.em_tree_walk.specs.Stands.{EachChild, HasRows, IsNodeOf}
use Rattle.em_tree_walk.proofs.Readings.{cause_framed, cause_then}
use Rattle.em_tree_walk.proofs.Standing.{child_below, first_in_use, leads_kept}

stored_of : (l : ℕ) (s : RigState) (es : List Entry) → RowLeft l s es → AreStored (IsTreeAt l s) s es
stored_of l s [] r = tt
stored_of l s (e ∷ es) r = (r.0.chain, r.0.child.is, stored_of l s es r.1)

row_by : (l : ℕ) (s : RigState) (es : List Entry) → AreStored (IsTreeAt l s) s es
    → EachChild (HasRows l s.device.contents) es → HoldNone s (IsUnbuffered l s) es
    → RowLeft l s es
row_by l s [] a r n = tt
row_by l s (e ∷ es) a r n = (
  record {
    chain = a.0;
    empty = n.0;
    child = record { is = a.1; rows = r.0 };
    none = n.1;
  },
  row_by l s es a.2 r.1 n.2,
)

module _ (held : List ℕ) (s t : RigState) (h : Touches held s t) (told : IsTrue s.device.told) where
  none_stay : (l : ℕ) → ((k : ℕ) → Apart (tree_blocks l s k) held → IsTreeAt l s k
      → IsUnbuffered l s k → IsUnbuffered l t k) → (es : List Entry)
      → Apart (row_blocks (tree_blocks l s) s es) held → AreStored (IsTreeAt l s) s es
      → HoldNone s (IsUnbuffered l s) es → HoldNone t (IsUnbuffered l t) es
  none_stay l child [] a i n = tt
  none_stay l child (e ∷ es) a i n =
      let c = linked_block e.child in
      let own = chain_blocks s (buffer_of e) in
      let rest = row_blocks (tree_blocks l s) s es in
      let inner = apart_right own (tree_blocks l s c ++ rest) held a in
      let x = chain_stays held s t (buffer_of e) h
      (λ z. apart_left own (tree_blocks l s c ++ rest) held a) i.0 in (
        x.blocks told ∙ n.0,
        child c (apart_left (tree_blocks l s c) rest held inner) i.1 n.1,
        none_stay l child es (apart_right (tree_blocks l s c) rest held inner) i.2 n.2,
      )

  unbuffered_stays : (l k : ℕ) → Apart (tree_blocks l s k) held → IsTreeAt l s k
      → IsUnbuffered l s k → IsUnbuffered l t k
  unbuffered_stays zero k a i u =
      let same : stored_chain t k ≡ stored_chain s k =
      ap (λ p. leaf_chain p (block_at t.device k)) (payload_kept held s t h)
      ∙ ap (leaf_chain (payload_in s)) (block_same held s t h told k i.in_use a.0) in
      let P : Chain → Type 0 = λ c. c.count ≤ leaf_most t.pool.shape in
      let Q : ShapeNumbers → Type 0 = λ p. (stored_chain s k).count ≤ leaf_most p in
      subst P (sym same) (subst Q (sym h.shape) u)
  unbuffered_stays (suc l) k a i u =
      let P : List Entry → Type 0 = HoldNone t (IsUnbuffered l t) in
      subst P (sym (ap entries_of (block_same held s t h told k i.0.in_use a.0)))
      (none_stay l (unbuffered_stays l) (entries_at s k) a.1 i.1 u)

  -- A row of which all is left, over a call that leaves its blocks alone.
  row_stays : (l : ℕ) (es : List Entry) → Apart (row_blocks (tree_blocks l s) s es) held
      → RowLeft l s es → RowLeft l t es
  row_stays l [] a r = tt
  row_stays l (e ∷ es) a r =
      let c = linked_block e.child in
      let own = chain_blocks s (buffer_of e) in
      let rest = row_blocks (tree_blocks l s) s es in
      let inner = apart_right own (tree_blocks l s c ++ rest) held a in
      let under = apart_left (tree_blocks l s c) rest held inner in
      let x = chain_stays held s t (buffer_of e) h
      (λ z. apart_left own (tree_blocks l s c ++ rest) held a) r.0.chain in (
        record {
          chain = x.is;
          empty = x.blocks told ∙ r.0.empty;
          child = stands_left held s t h told l c under r.0.child;
          none = unbuffered_stays l c under r.0.child.is r.0.none;
        },
        row_stays l es (apart_right (tree_blocks l s c) rest held inner) r.1,
      )

  row_same : (l : ℕ) (es : List Entry) → Apart (row_blocks (tree_blocks l s) s es) held
      → RowLeft l s es → row_blocks (tree_blocks l t) t es ≡ row_blocks (tree_blocks l s) s es
  row_same l es a r = (rows_stay held s t h told l es a (stored_of l s es r)).blocks

-- A tree that can be released, over calls that change no block.
pub can_kept : {s t : RigState} {l k : ℕ} → Touches [] s t → t.device.contents ≡ s.device.contents
    → CanRelease s l k → CanRelease t l k
can_kept {s} {t} {l} {k} h kept i = record {
  leads = leads_kept h kept i.leads;
  told = λ y.
      let z : IsTrue s.device.told = sym h.told ∙ y in
      let o = (i.leads.told z).is in
      let a = apart_none (tree_blocks l s k) in
      let same = (tree_stays [] s t h z l k a o).blocks in
      let n = (i.told z).holds in
      let P : List ℕ → Type 0 = λ ks. Holds t ks in
      record {
        none = unbuffered_stays [] s t h z l k a o (i.told z).none;
        holds = subst P (sym same) (holds_kept [] s t (tree_blocks l s k) h (λ w. a) n);
      };
}

pub can_lent : {s a : RigState} {l k : ℕ} → a ≡ record s { pool = lent s.pool } → CanRelease s l k
    → CanRelease a l k
can_lent {s} {a} {l} {k} e i =
    subst (λ (w : RigState). CanRelease w l k) (sym e)
    (can_kept (touches_pool s (lent s.pool) refl) refl i)

-- What a release leaves, from what it changed.
released_by : {s t : RigState} (level k : ℕ) → Goes (tree_blocks level s k) s t
    → FreesUpTo (tree_blocks level s k) s t
    → (IsTrue s.device.told → t.used + length (tree_blocks level s k) ≡ s.used)
    → ReleasedTree s t level k
released_by level k g f a = record {
  session = record {
    sound = g.sound;
    touches = g.touches;
    within = record { off = λ z j u o. tt };
    holds = λ z. record { in_use = tt; distinct = λ y. tt };
  };
  frames = g.frames;
  frees = f;
  all = a;
}

-- The same with a frame that was lent and given back.
released_back : (s t : RigState) (level k : ℕ) (result : Result Unit EmFault) → Sound s
    → 0 < s.pool.free
    → (IsTrue s.device.told
    → tree_blocks level (record s { pool = lent s.pool }) k ≡ tree_blocks level s k)
    → ReleasesTree (record s { pool = lent s.pool }) t level k result
    → ReleasesTree s (record t { pool = given t.pool }) level k result
released_back s t level k (Ok v) sound free same x =
    let a = record s { pool = lent s.pool } in
    let ks = tree_blocks level s k in
    let js = tree_blocks level a k in
    let g : Goes ks a t = record {
      sound = x.session.sound;
      touches = touches_wider ks js a t x.session.touches
          (λ z j u o. subst (λ (ls : List ℕ). Off j ls) (sym (same z)) o);
      frames = x.frames;
    } in
    released_by level k (goes_with_frame ks s t sound free g)
    (record {
      used = x.frees.used;
      most = x.frees.most;
      moves = λ z. subst (λ (ls : List ℕ). t.moves ≤ s.moves + 2 * length ls) (same z)
          (x.frees.moves z);
    })
    (λ z. subst (λ (ls : List ℕ). t.used + length ls ≡ s.used) (same z) (x.all z))
released_back s t level k (Err fault) sound free same x =
    let a = record s { pool = lent s.pool } in
    let ks = tree_blocks level s k in
    let js = tree_blocks level a k in
    let g : Goes ks a t = record {
      sound = x.goes.sound;
      touches = touches_wider ks js a t x.goes.touches
          (λ z j u o. subst (λ (ls : List ℕ). Off j ls) (sym (same z)) o);
      frames = x.goes.frames;
    } in
    record {
      goes = goes_with_frame ks s t sound free g;
      frees = record {
        used = x.frees.used;
        most = x.frees.most;
        moves = λ z. subst (λ (ls : List ℕ). t.moves ≤ s.moves + 2 * length ls) (same z)
            (x.frees.moves z);
      };
      cause = cause_framed s t fault x.cause;
    }

pub releases_framed : {s a u : RigState} (level k : ℕ) (t : RigState) (result : Result Unit EmFault)
    → Sound s → 0 < s.pool.free → CanRelease s level k → a ≡ record s { pool = lent s.pool }
    → ReleasesTree a t level k result → u ≡ record t { pool = given t.pool }
    → ReleasesTree s u level k result
releases_framed {s} {a} {u} level k t result sound free i e x f =
    let b = record s { pool = lent s.pool } in
    let same : IsTrue s.device.told → tree_blocks level b k ≡ tree_blocks level s k = λ z.
    (tree_stays [] s b (touches_pool s (lent s.pool) refl) z level k
    (apart_none (tree_blocks level s k)) (i.leads.told z).is).blocks in
    subst (λ (w : RigState). ReleasesTree s w level k result) (sym f)
    (released_back s t level k result sound free same
    (subst (λ (w : RigState). ReleasesTree w t level k result) e x))

-- A fault that is handed on.
pub releases_of : (s t : RigState) (level k : ℕ) (result : Result Unit EmFault) (e : EmFault)
    → IsErrAnd result (λ m. m ≡ e) → StopsReleasing s t level k e → ReleasesTree s t level k result
releases_of s t level k (Ok p) e h x = absurd h
releases_of s t level k (Err m) e h x =
    subst (λ (f : EmFault). StopsReleasing s t level k f) (sym h) x

-- The first block of a tree, and none, as it stands at a fault of reading it.
pub unread_release : {s t : RigState} {e : EmFault} (level k : ℕ) → StopsReading 1 s t e
    → StopsReleasing s t level k e
unread_release {s} {t} {e} level k x =
    let ks = tree_blocks level s k in
    let moves = x.reads.moves in
    let used = x.reads.same.used in
    record {
      goes = record {
        sound = x.reads.goes.sound;
        touches = touches_wider ks [] s t x.reads.goes.touches (λ z j u o. tt);
        frames = x.reads.goes.frames;
      };
      frees = record {
        used = omega arith;
        most = x.reads.same.most;
        moves = λ z. let some = some_blocks level s k in omega arith;
      };
      cause = x.cause;
    }
  where
    some_blocks : (l : ℕ) (w : RigState) (j : ℕ) → 0 < length (tree_blocks l w j)
    some_blocks zero w j = omega arith
    some_blocks (suc l) w j = omega arith

-- A node was read, and all its entries are left.
pub releasing_begins : {s a : RigState} {b : List Record} (l k : ℕ) → CanRelease s (suc l) k
    → ReadsPassing (IsNodeOf (suc l) s.pool.shape s.blocks) s a k b
    → Releasing s a l k (entries_of b)
releasing_begins {s} {a} {b} l k i x =
    let es = entries_of b in
    let h = x.reads.goes.touches in
    let none : Apart (row_blocks (tree_blocks l s) s es) [] =
    apart_none (row_blocks (tree_blocks l s) s es) in
    let same : IsTrue s.device.told → entries_at s k ≡ es =
    λ z. sym (ap entries_of (x.loaded z)) in
    let left : IsTrue s.device.told → RowLeft l s es = λ z.
    let o = i.leads.told z in
    subst (λ (fs : List Entry). RowLeft l s fs) (same z)
    (row_by l s (entries_at s k) o.is.1 o.rows.1 (i.told z).none) in
    let blocks : IsTrue s.device.told → row_blocks (tree_blocks l a) a es
    ≡ row_blocks (tree_blocks l s) s (entries_at s k) = λ z.
    row_same [] s a h z l es none (left z)
    ∙ ap (row_blocks (tree_blocks l s) s) (sym (same z)) in
    let moves = x.reads.moves in
    let used = x.reads.same.used in
    record {
      session = session_as (k ∷ row_blocks (tree_blocks l a) a es)
          (session_still (tree_blocks (suc l) s k) x.reads.goes.sound h (λ z. (i.told z).holds))
          (λ z. ap (λ ks. k ∷ ks) (blocks z));
      frames = x.reads.goes.frames;
      used = omega arith;
      most = x.reads.same.most;
      moves = λ z. let e = ap length (blocks z) in omega arith;
      all = λ z. let e = ap length (blocks z) in omega arith;
      left = λ z. row_stays [] s a h z l es none (left z);
    }

-- The blocks of a node of which the first entry's child is released next.
row_first : (l : ℕ) (t : RigState) (e : Entry) (es : List Entry) → RowLeft l t (e ∷ es)
    → row_blocks (tree_blocks l t) t (e ∷ es)
    ≡ tree_blocks l t (linked_block e.child) ++ row_blocks (tree_blocks l t) t es
row_first l t e es r = ap (λ ks. ks
    ++ (tree_blocks l t (linked_block e.child) ++ row_blocks (tree_blocks l t) t es)) r.0.empty

whole_first : {s t : RigState} (l k : ℕ) (e : Entry) (es : List Entry) → Releasing s t l k (e ∷ es)
    → Session (tree_blocks (suc l) s k) s t
    (k ∷ (tree_blocks l t (linked_block e.child) ++ row_blocks (tree_blocks l t) t es))
whole_first {s} {t} l k e es w =
    session_as (k ∷ (tree_blocks l t (linked_block e.child) ++ row_blocks (tree_blocks l t) t es))
    w.session (λ z. ap (λ ks. k ∷ ks) (sym (row_first l t e es (w.left z))))

-- That child can be released,
pub child_left : {s t : RigState} (l k : ℕ) (e : Entry) (es : List Entry)
    → linked_block e.child < t.blocks → Releasing s t l k (e ∷ es)
    → CanRelease t l (linked_block e.child)
child_left {s} {t} l k e es below w =
    let c = linked_block e.child in
    let back : IsTrue t.device.told → IsTrue s.device.told = λ y. sym w.session.touches.told ∙ y in
    record {
      leads = record {
        in_use = record {
          told = λ y. (first_in_use l (w.left (back y)).0.child).told y;
          untold = λ f. below;
        };
        told = λ y. (w.left (back y)).0.child;
      };
      told = λ y.
          let n = (whole_first l k e es w).holds (back y) in
          record {
            none = (w.left (back y)).0.none;
            holds = record {
              in_use = in_use_left t (tree_blocks l t c) (row_blocks (tree_blocks l t) t es)
                  n.in_use.1;
              distinct = λ x. distinct_left (tree_blocks l t c)
                  (row_blocks (tree_blocks l t) t es) (n.distinct x).1;
            };
          };
    }

-- and then the other entries are left.
pub releasing_next : {s t u : RigState} (l k : ℕ) (e : Entry) (es : List Entry)
    → Releasing s t l k (e ∷ es) → ReleasedTree t u l (linked_block e.child)
    → Releasing s u l k es
releasing_next {s} {t} {u} l k e es w r =
    let own = tree_blocks l t (linked_block e.child) in
    let rest = row_blocks (tree_blocks l t) t es in
    let on : IsTrue s.device.told → IsTrue t.device.told = λ z. w.session.touches.told ∙ z in
    let whole = whole_first l k e es w in
    let apart : IsTrue s.device.told → Apart rest own = λ z.
    apart_sym own rest (distinct_apart own rest ((whole.holds z).distinct (on z)).1) in
    let h = r.session.touches in
    let same : IsTrue s.device.told → row_blocks (tree_blocks l u) u es ≡ rest = λ z.
    row_same own t u h (on z) l es (apart z) (w.left z).1 in
    let size : IsTrue s.device.told
    → length (row_blocks (tree_blocks l t) t (e ∷ es)) ≡ length own + length rest = λ z.
    ap length (row_first l t e es (w.left z)) ∙ length-append own rest in
    let a = r.frees.used in
    let b = w.used in
    record {
      session = session_as (k ∷ row_blocks (tree_blocks l u) u es)
          (session_mid (k ∷ []) own [] rest whole r.session)
          (λ z. ap (λ ks. k ∷ ks) (same z));
      frames = same_frames_then s.pool t.pool u.pool w.frames r.frames;
      used = omega arith;
      most = r.frees.most ∙ w.most;
      moves = λ z.
          let x = size z in
          let y = ap length (same z) in
          let c = w.moves z in
          let d = r.frees.moves (on z) in
          omega arith;
      all = λ z.
          let x = size z in
          let y = ap length (same z) in
          let c = w.all z in
          let d = r.all (on z) in
          omega arith;
      left = λ z. row_stays own t u h (on z) l es (apart z) (w.left z).1;
    }

-- A child that couldn't be released ends it,
pub releasing_stops : {s t u : RigState} {f : EmFault} (l k : ℕ) (e : Entry) (es : List Entry)
    → Releasing s t l k (e ∷ es) → StopsReleasing t u l (linked_block e.child) f
    → StopsReleasing s u (suc l) k f
releasing_stops {s} {t} {u} {f} l k e es w r =
    let own = tree_blocks l t (linked_block e.child) in
    let rest = row_blocks (tree_blocks l t) t es in
    let on : IsTrue s.device.told → IsTrue t.device.told = λ z. w.session.touches.told ∙ z in
    let whole = whole_first l k e es w in
    let size : IsTrue s.device.told
    → length (row_blocks (tree_blocks l t) t (e ∷ es)) ≡ length own + length rest = λ z.
    ap length (row_first l t e es (w.left z)) ∙ length-append own rest in
    let a = r.frees.used in
    let b = w.used in
    record {
      goes = record {
        sound = r.goes.sound;
        touches = touches_trans (tree_blocks (suc l) s k) own s t u w.session.touches
            r.goes.touches (λ z j i o. off_left j own rest (whole.within.off z j i o).1);
        frames = same_frames_then s.pool t.pool u.pool w.frames r.goes.frames;
      };
      frees = record {
        used = omega arith;
        most = r.frees.most ∙ w.most;
        moves = λ z.
            let x = size z in
            let c = w.moves z in
            let d = r.frees.moves (on z) in
            omega arith;
      };
      cause = cause_then s t u f w.session.touches.faults r.cause;
    }

-- and so does the node's block, at last.
pub releasing_ends : {s t u : RigState} (l k : ℕ) (result : Result Unit EmFault)
    → Releasing s t l k [] → Goes (k ∷ []) t u → OnOk result (Releases t u k)
    → OnErr result (SameBlocks t u) → u.most ≡ t.most → MovesToRelease t u
    → IfErr result (BlockCause t u) → ReleasesTree s u (suc l) k result
releasing_ends {s} {t} {u} l k (Ok v) w g d b most m c =
    let used = d.used in
    let before = w.used in
    let one = release_moves t u m in
    record {
      session = session_trans w.session (session_releases k g);
      frames = same_frames_then s.pool t.pool u.pool w.frames g.frames;
      frees = record {
        used = omega arith;
        most = most ∙ w.most;
        moves = λ z. let n = w.moves z in omega arith;
      };
      all = λ z. let n = w.all z in omega arith;
    }
releasing_ends {s} {t} {u} l k (Err f) w g d b most m c =
    let used = b.used in
    let before = w.used in
    let one = release_moves t u m in
    record {
      goes = record {
        sound = g.sound;
        touches = touches_trans (tree_blocks (suc l) s k) (k ∷ []) s t u w.session.touches g.touches
            (λ z j i o. w.session.within.off z j i o);
        frames = same_frames_then s.pool t.pool u.pool w.frames g.frames;
      };
      frees = record {
        used = omega arith;
        most = most ∙ w.most;
        moves = λ z. let n = w.moves z in omega arith;
      };
      cause = cause_then s t u f w.session.touches.faults c;
    }

-- A leaf that can be released can be read.
pub leaf_leads : {s : RigState} {k : ℕ} → CanRelease s 0 k → LeadsToLeaf s k
leaf_leads {s} {k} i = record {
  in_use = i.leads.in_use;
  told = λ z. record { is = (i.leads.told z).is; few = (i.told z).none };
}

-- Its block was released,
pub leaf_left : {s a b : RigState} (k : ℕ) (stored : Chain) → CanRelease s 0 k
    → ReadLeaf s a k stored → Goes (k ∷ []) a b → Releases a b k → b.most ≡ a.most
    → MovesToRelease a b → LeafLeft s b k stored
leaf_left {s} {a} {b} k stored i x g d most m =
    let h = x.reads.goes.touches in
    let mine = stored_chain s k in
    let same : IsTrue s.device.told → chain_blocks a stored ≡ chain_blocks s mine = λ z.
    ap (chain_blocks a) (x.is z)
    ∙ (chain_stays [] s a mine h (λ y. apart_none (chain_blocks s mine))
    (i.leads.told z).is.stored).blocks z in
    let back : IsTrue a.device.told → IsTrue s.device.told = λ y. sym h.told ∙ y in
    let on : IsTrue s.device.told → IsTrue a.device.told = λ z. h.told ∙ z in
    let off : IsTrue s.device.told → Off k (chain_blocks a stored) = λ z.
    subst (λ (ks : List ℕ). Off k ks) (sym (same z)) ((i.told z).holds.distinct z).0 in
    let apart : IsTrue a.device.told → Apart (chain_blocks a stored) (k ∷ []) = λ y.
    apart_sym (k ∷ []) (chain_blocks a stored) (off (back y), tt) in
    let y = chain_stays (k ∷ []) a b stored g.touches apart x.chain.chain in
    let whole : Session (tree_blocks 0 s k) s a (k ∷ chain_blocks a stored) =
    session_as (k ∷ chain_blocks a stored)
    (session_still (tree_blocks 0 s k) x.reads.goes.sound h (λ z. (i.told z).holds))
    (λ z. ap (λ ks. k ∷ ks) (same z)) in
    let used = d.used in
    let one = release_moves a b m in
    let first = x.reads.moves in
    let before = x.reads.same.used in
    record {
      session = session_as (chain_blocks b stored)
          (session_mid [] (k ∷ []) [] (chain_blocks a stored) whole (session_releases k g))
          (λ z. y.blocks (on z));
      frames = same_frames_then s.pool a.pool b.pool x.reads.goes.frames g.frames;
      chain = y.is;
      used = omega arith;
      most = most ∙ x.reads.same.most;
      moves = omega arith;
      all = λ z. ap suc (sym (ap length (same z)) ∙ ((x.chain.chain.told (on z)).list).blocks_is);
    }

-- or couldn't be,
pub leaf_stays : {s a b : RigState} {e : EmFault} (k : ℕ) (stored : Chain)
    → ReadLeaf s a k stored → Goes (k ∷ []) a b → SameBlocks a b → b.most ≡ a.most
    → MovesToRelease a b → BlockCause a b e → StopsReleasing s b 0 k e
leaf_stays {s} {a} {b} {e} k stored x g d most m c =
    let h = x.reads.goes.touches in
    let used = d.used in
    let one = release_moves a b m in
    let first = x.reads.moves in
    let before = x.reads.same.used in
    record {
      goes = record {
        sound = g.sound;
        touches = touches_trans (tree_blocks 0 s k) (k ∷ []) s a b
            (touches_wider (tree_blocks 0 s k) [] s a h (λ z j i o. tt)) g.touches
            (λ z j i o. (o.0, tt));
        frames = same_frames_then s.pool a.pool b.pool x.reads.goes.frames g.frames;
      };
      frees = record {
        used = omega arith;
        most = most ∙ x.reads.same.most;
        moves = λ z. omega arith;
      };
      cause = cause_then s a b e h.faults c;
    }

leaf_goes : {s b u : RigState} (k : ℕ) (stored : Chain) → LeafLeft s b k stored
    → Goes (chain_blocks b stored) b u → Goes (tree_blocks 0 s k) s u
leaf_goes {s} {b} {u} k stored w g = record {
  sound = g.sound;
  touches = touches_trans (tree_blocks 0 s k) (chain_blocks b stored) s b u w.session.touches
      g.touches (λ z j i o. w.session.within.off z j i o);
  frames = same_frames_then s.pool b.pool u.pool w.frames g.frames;
}

-- and then its chain.
pub leaf_ends : {s b u : RigState} (k : ℕ) (stored : Chain) (result : Result Unit EmFault)
    → LeafLeft s b k stored → Goes (chain_blocks b stored) b u → Frees stored.blocks b u result
    → IfErr result (BlockCause b u) → ReleasesTree s u 0 k result
leaf_ends {s} {b} {u} k stored (Ok v) w g d c =
    let used = d.used in
    let before = w.used in
    let moves = d.moves in
    let first = w.moves in
    released_by 0 k (leaf_goes k stored w g)
    (record {
      used = omega arith;
      most = d.most ∙ w.most;
      moves = λ z. let n = w.all z in omega arith;
    })
    (λ z. let n = w.all z in omega arith)
leaf_ends {s} {b} {u} k stored (Err f) w g d c =
    let used = d.used_most in
    let before = w.used in
    let moves = d.moves in
    let first = w.moves in
    record {
      goes = leaf_goes k stored w g;
      frees = record {
        used = omega arith;
        most = d.most ∙ w.most;
        moves = λ z. let n = w.all z in omega arith;
      };
      cause = cause_then s b u f w.session.touches.faults c;
    }

-- The same by a node's level, and by the place of the entry whose child is next.
one_below : (l : ℕ) → l ≡ suc l - 1
one_below l = omega arith

at_entry : {s t : RigState} {l k : ℕ} (es : List Entry) (i : ℕ) → i < length es
    → Releasing s t l k (drop i es)
    → Releasing s t l k (get_or es i no_entry ∷ drop (suc i) es)
at_entry {s} {t} {l} {k} es i h w =
    subst (λ (fs : List Entry). Releasing s t l k fs) (drop-cons es i no_entry h) w

pub node_begins : {s a : RigState} {b : List Record} (level k : ℕ) → 0 < level
    → CanRelease s level k → ReadsPassing (IsNodeOf level s.pool.shape s.blocks) s a k b
    → Releasing s a (level - 1) k (entries_of b)
node_begins zero k h i x = absurd (omega arith)
node_begins {s} {a} {b} (suc l) k h i x =
    subst (λ (n : ℕ). Releasing s a n k (entries_of b)) (one_below l) (releasing_begins l k i x)

pub node_child : {s t : RigState} {l k : ℕ} (es : List Entry) (i child : ℕ) → i < length es
    → AreLinked s.blocks es → child ≡ child_at i es → Releasing s t l k (drop i es)
    → CanRelease t l child
node_child {s} {t} {l} {k} es i child one linked e w =
    let below : child_at i es < t.blocks = subst (λ (n : ℕ). child_at i es < n)
    (sym w.session.touches.blocks) (child_below s.blocks es i one linked) in
    subst (λ (c : ℕ). CanRelease t l c) (sym e)
    (child_left l k (get_or es i no_entry) (drop (suc i) es) below (at_entry es i one w))

pub node_next : {s t u : RigState} {l k : ℕ} (es : List Entry) (i child : ℕ) → i < length es
    → child ≡ child_at i es → Releasing s t l k (drop i es) → ReleasedTree t u l child
    → Releasing s u l k (drop (i + 1) es)
node_next {s} {t} {u} {l} {k} es i child one e w r =
    subst (λ (n : ℕ). Releasing s u l k (drop n es)) (next_is i)
    (releasing_next l k (get_or es i no_entry) (drop (suc i) es) (at_entry es i one w)
    (subst (λ (c : ℕ). ReleasedTree t u l c) e r))
  where
    next_is : (n : ℕ) → suc n ≡ n + 1
    next_is n = omega arith

pub node_stops : {s t u : RigState} {f : EmFault} (level k : ℕ) (es : List Entry) (i child : ℕ)
    → 0 < level → i < length es → child ≡ child_at i es
    → Releasing s t (level - 1) k (drop i es) → StopsReleasing t u (level - 1) child f
    → StopsReleasing s u level k f
node_stops zero k es i child h one e w x = absurd (omega arith)
node_stops {s} {t} {u} {f} (suc l) k es i child h one e w x =
    let back = sym (one_below l) in
    releasing_stops l k (get_or es i no_entry) (drop (suc i) es)
    (at_entry es i one (subst (λ (n : ℕ). Releasing s t n k (drop i es)) back w))
    (subst (λ (c : ℕ). StopsReleasing t u l c f) e
    (subst (λ (n : ℕ). StopsReleasing t u n child f) back x))

-- The node's block is still in use.
pub node_in_use : {s t : RigState} {l k : ℕ} {es : List Entry} → Sound s → Releasing s t l k es
    → InUse s k → InUse t k
node_in_use {s} {t} {l} {k} {es} sound w u =
    let below : k < t.blocks = subst (λ (n : ℕ). k < n) (sym w.session.touches.blocks)
    (in_use_below s k sound u) in
    record {
      told = λ y. (w.session.holds (sym w.session.touches.told ∙ y)).in_use.0.told y;
      untold = λ f. below;
    }

none_after : (es : List Entry) (n : ℕ) → length es ≤ n → drop n es ≡ []
none_after [] zero h = refl
none_after [] (suc n) h = refl
none_after (e ∷ es) zero h = absurd (omega arith)
none_after (e ∷ es) (suc n) h = none_after es n (omega arith)

pub node_ends : {s t u : RigState} (level k : ℕ) (es : List Entry) (n : ℕ)
    (result : Result Unit EmFault) → 0 < level → length es ≤ n
    → Releasing s t (level - 1) k (drop n es) → Goes (k ∷ []) t u
    → OnOk result (Releases t u k) → OnErr result (SameBlocks t u) → u.most ≡ t.most
    → MovesToRelease t u → IfErr result (BlockCause t u) → ReleasesTree s u level k result
node_ends zero k es n result h all w g d b most m c = absurd (omega arith)
node_ends {s} {t} {u} (suc l) k es n result h all w g d b most m c =
    let v = subst (λ (m : ℕ). Releasing s t m k (drop n es)) (sym (one_below l)) w in
    releasing_ends l k result
    (subst (λ (fs : List Entry). Releasing s t l k fs) (none_after es n all) v) g d b most m c
