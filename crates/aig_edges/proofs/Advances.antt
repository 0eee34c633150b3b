-- Calls on the lists that are compared and written, one after another.
use Rattle.std.proofs.Common.{◌≡◌, ℕ, ◌+◌, ◌*◌, ◌<◌, ◌≤◌, min, List, [], ◌∷◌, ◌++◌, length, IsTrue, Ok, refl, ap, ◌∙◌, arith}
use Rattle.em_record.specs.declared.record.Record.{Record}
use Rattle.em_frames.specs.Pool.{SameFrames}
use Rattle.em_space.specs.Free.{AreDistinct}
use Rattle.em_space.specs.Held.{Apart, Holds}
use Rattle.em_space.specs.Ledger.{both, Halts, Runs, Spends}
use Rattle.em_space.specs.Rig.{RigState, Sound, Goes, Cause}
use Rattle.em_space.specs.declared.fault.EmFault.{EmFault}
use Rattle.em_space.proofs.Lists.{apart_sym, apart_left, apart_right, distinct_apart, distinct_right, in_use_right}
use Rattle.em_space.proofs.Runs.{runs_none, runs_of, runs_as, runs_wider, runs_then, runs_first, runs_second, stops_after, stops_wider, stops_first, stops_second}
use Rattle.em_chain.specs.Chain.{payload_in}
use Rattle.em_chain.specs.Counts.{ceiling}
use Rattle.em_chain.specs.Session.{Wrote, one_more, writer_account}
use Rattle.em_chain.specs.Writer.{IsWriter, filled, writer_blocks}
use Rattle.em_chain.specs.Writes.{Appends, AppendCosts}
use Rattle.em_chain.specs.declared.writer.Writer.{Writer}
use Rattle.em_chain.proofs.Counts.{writer_blocks_are}
use Rattle.em_chain.proofs.Keeps.{has_kept, payload_kept}
use Rattle.em_chain.proofs.Laws.{writer_stays}
use Rattle.em_chain.proofs.Sessions.{ceiling_rises, wrote_none, wrote_one, wrote_stays, wrote_then}
use Rattle.em_chain.proofs.Withins.{within_grows}
use Rattle.em_weave.specs.State.{weave_account, weave_blocks}
use Rattle.em_weave.specs.Weaves.{StopsWeaving, Weaves}
use Rattle.em_weave.specs.declared.side.Side.{Side}
use Rattle.em_weave.specs.declared.weave.Weave.{Weave}
use Rattle.em_weave.proofs.Weavings.{frames_kept, weave_stays, wove_none, wove_stays, wove_then}
use Rattle.aig_edges.specs.Comparison.{Advances, AreLists, HasFramesOf, StopsLists, lists_account, lists_blocks}
use Rattle.aig_edges.specs.declared.comparing.Comparison.{Comparison}

-- The blocks of each list are apart from those of the others.
pub record ListsApart (ws os bs : List ℕ) : Type 0 where
  pub weave : Apart ws (os ++ bs)
  pub sources : Apart ws os
  pub edges : Apart ws bs
  pub written : Apart os bs

lists_apart : (ws os bs : List ℕ) → AreDistinct (ws ++ (os ++ bs)) → ListsApart ws os bs
lists_apart ws os bs d =
    let w = distinct_apart ws (os ++ bs) d in
    let v = apart_sym ws (os ++ bs) w in
    record {
      weave = w;
      sources = apart_sym os ws (apart_left os bs ws v);
      edges = apart_sym bs ws (apart_right os bs ws v);
      written = distinct_apart os bs (distinct_right ws (os ++ bs) d);
    }

pub are_apart : {s : RigState} {k : Comparison} → AreLists s k → IsTrue s.device.told
    → ListsApart (weave_blocks s k.weave) (writer_blocks s k.sources) (writer_blocks s k.edges)
are_apart {s} {k} i z = lists_apart (weave_blocks s k.weave) (writer_blocks s k.sources)
    (writer_blocks s k.edges) ((i.holds z).distinct z)

-- Of the lists' frames all are out after a call on one of them.
pub lists_frames : {s t : RigState} (k : Comparison) → SameFrames s.pool t.pool → AreLists s k
    → HasFramesOf t k
lists_frames {s} {t} k f i = record {
  weave = frames_kept s t k.weave f i.weave.frames;
  sources = has_kept 1 (length k.sources.frame) s.pool t.pool f i.sources.frame;
  edges = has_kept 1 (length k.edges.frame) s.pool t.pool f i.edges.frame;
}

three_blocks : {ws os bs xs ys zs : List ℕ} → xs ≡ ws → ys ≡ os → zs ≡ bs
    → xs ++ (ys ++ zs) ≡ ws ++ (os ++ bs)
three_blocks d e f = rw (d, e, f) refl

-- A definition or an edge was given,
pub advances_weave : {s t : RigState} {k : Comparison} {v : Weave} {p : Record}
    (xs : List Side) → AreLists s k → Weaves s t k.weave v xs
    → Advances s t k (record { weave = v; sources = k.sources; edges = k.edges; last = p })
    xs [] []
advances_weave {s} {t} {k} {v} xs i h =
    let ws = weave_blocks s k.weave in
    let os = writer_blocks s k.sources in
    let bs = writer_blocks s k.edges in
    let g = h.runs.session.touches in
    let f = lists_frames {t = t} k h.runs.frames i in
    let sa = writer_stays ws s t k.sources g (λ z. apart_sym ws os (are_apart i z).sources) f.sources
    i.sources in
    let sb = writer_stays ws s t k.edges g (λ z. apart_sym ws bs (are_apart i z).edges) f.edges
    i.edges in
    record {
      runs = runs_as (weave_blocks t v ++ (writer_blocks t k.sources ++ writer_blocks t k.edges))
          (runs_first (os ++ bs) (both (writer_account k.sources) (writer_account k.edges)) i.holds
          h.runs) (λ z. three_blocks refl (sa.blocks z) (sb.blocks z));
      wove = h.wove;
      sources = wrote_stays g.told sa;
      edges = wrote_stays g.told sb;
      sources_grow = omega arith;
      edges_grow = omega arith;
    }

-- One record was written.
pub record WritesItem (s t : RigState) (w v : Writer) (x : Record) : Type 0 where
  pub runs : Runs v.blocks (writer_blocks s w) (writer_blocks t v) (writer_account w)
      (writer_account v) s t
  pub wrote : Wrote s t w v (x ∷ [])
  pub grows : w.blocks ≤ v.blocks

pub writes_item : {T : Type 0} {s t : RigState} {w v : Writer} {x : Record} (y : T)
    → Goes (writer_blocks s w) s t → Appends s t w v x → AppendCosts s t w v (Ok y)
    → Spends (one_more s w) (writer_account w) (writer_account v) s t → WritesItem s t w v x
writes_item {s = s} {t = t} {w = w} {v = v} {x = x} y g a k h = record {
  runs = runs_of (writer_blocks s w) (writer_blocks t v) g
      (within_grows s (writer_blocks s w) (writer_blocks t v) a.grown) (λ z. (a.is.told z).holds)
      (record {
        held = omega arith;
        used = h.used;
        most = omega (arith, k.most, k.used);
        moves = h.moves;
        later = h.later;
        pays = h.pays;
      });
  wrote = wrote_one g.touches.told a;
  grows = omega (arith, k.used, k.used_low);
}

-- a source was written,
pub advances_source : {s t : RigState} {k : Comparison} {a : Writer} {x p : Record}
    → AreLists s k → WritesItem s t k.sources a x
    → Advances s t k (record { weave = k.weave; sources = a; edges = k.edges; last = p })
    [] (x ∷ []) []
advances_source {s} {t} {k} {a} {x} i h =
    let ws = weave_blocks s k.weave in
    let os = writer_blocks s k.sources in
    let bs = writer_blocks s k.edges in
    let g = h.runs.session.touches in
    let f = lists_frames {t = t} k h.runs.frames i in
    let sw = weave_stays os s t k.weave g (λ z. (are_apart i z).sources) f.weave i.weave in
    let sb = writer_stays os s t k.edges g (λ z. apart_sym os bs (are_apart i z).written) f.edges
    i.edges in
    let held : IsTrue s.device.told → Holds s (os ++ bs) = λ z. record {
      in_use = in_use_right s ws (os ++ bs) (i.holds z).in_use;
      distinct = λ y. distinct_right ws (os ++ bs) ((i.holds z).distinct y);
    } in
    record {
      runs = runs_as (weave_blocks t k.weave ++ (writer_blocks t a ++ writer_blocks t k.edges))
          (runs_second ws (weave_account k.weave) i.holds
          (runs_first bs (writer_account k.edges) held h.runs))
          (λ z. three_blocks (sw.blocks z) refl (sb.blocks z));
      wove = wove_stays g.told sw;
      sources = h.wrote;
      edges = wrote_stays g.told sb;
      sources_grow = h.grows;
      edges_grow = omega arith;
    }

-- an edge was written,
pub advances_edge : {s t : RigState} {k : Comparison} {b : Writer} {x p : Record}
    → AreLists s k → WritesItem s t k.edges b x
    → Advances s t k (record { weave = k.weave; sources = k.sources; edges = b; last = p })
    [] [] (x ∷ [])
advances_edge {s} {t} {k} {b} {x} i h =
    let ws = weave_blocks s k.weave in
    let os = writer_blocks s k.sources in
    let bs = writer_blocks s k.edges in
    let g = h.runs.session.touches in
    let f = lists_frames {t = t} k h.runs.frames i in
    let sw = weave_stays bs s t k.weave g (λ z. (are_apart i z).edges) f.weave i.weave in
    let sa = writer_stays bs s t k.sources g (λ z. (are_apart i z).written) f.sources i.sources in
    let held : IsTrue s.device.told → Holds s (os ++ bs) = λ z. record {
      in_use = in_use_right s ws (os ++ bs) (i.holds z).in_use;
      distinct = λ y. distinct_right ws (os ++ bs) ((i.holds z).distinct y);
    } in
    record {
      runs = runs_as (weave_blocks t k.weave ++ (writer_blocks t k.sources ++ writer_blocks t b))
          (runs_second ws (weave_account k.weave) i.holds
          (runs_second os (writer_account k.sources) held h.runs))
          (λ z. three_blocks (sw.blocks z) (sa.blocks z) refl);
      wove = wove_stays g.told sw;
      sources = wrote_stays g.told sa;
      edges = h.wrote;
      sources_grow = omega arith;
      edges_grow = h.grows;
    }

-- nothing was done,
pub advances_none : {s : RigState} {k : Comparison} {p : Record} → AreLists s k
    → Advances s s k (record {
      weave = k.weave;
      sources = k.sources;
      edges = k.edges;
      last = p;
    }) [] [] []
advances_none {s} {k} i = record {
  runs = runs_none s (lists_blocks s k) (lists_account k) i.sound i.holds;
  wove = wove_none i.weave;
  sources = wrote_none i.sources;
  edges = wrote_none i.edges;
  sources_grow = omega arith;
  edges_grow = omega arith;
}

-- and more of it.
pub advances_then : {s t u : RigState} {k j i : Comparison} {xs ws : List Side}
    {ys os zs bs : List Record} → Advances s t k j xs ys zs → Advances t u j i ws os bs
    → Advances s u k i (xs ++ ws) (ys ++ os) (zs ++ bs)
advances_then {xs = xs} {ws = ws} {ys = ys} {os = os} {zs = zs} {bs = bs} h g = record {
  runs = runs_wider (let l = h.wove.fewer in let a = g.sources_grow in let b = g.edges_grow in
      omega arith) (runs_then h.runs g.runs);
  wove = wove_then xs ws h.wove g.wove;
  sources = wrote_then ys os h.sources g.sources;
  edges = wrote_then zs bs h.edges g.edges;
  sources_grow = let a = h.sources_grow in let b = g.sources_grow in omega arith;
  edges_grow = let a = h.edges_grow in let b = g.edges_grow in omega arith;
}

-- what the blocks of a list are that is written
list_blocks : {s : RigState} (w : Writer) → Sound s → IsWriter s w → filled s w ≡ w.count
    → w.blocks ≡ ceiling w.count (payload_in s)
list_blocks {s} w h i f =
    writer_blocks_are s w h.shape.block_low i ∙ ap (λ (n : ℕ). ceiling n (payload_in s)) f

-- and they are no more than those of n records
pub list_room : {s : RigState} (n : ℕ) (w : Writer) → Sound s → IsWriter s w → filled s w ≡ w.count
    → w.count ≤ n → w.blocks ≤ ceiling n (payload_in s)
list_room {s} n w h i f m =
    let e = list_blocks w h i f in
    let low = h.shape.block_low in
    let r = ceiling_rises w.count n (payload_in s) (omega arith) m in
    omega arith

more_room : {s : RigState} (n : ℕ) (w : Writer) → Sound s → filled s w ≡ w.count
    → w.count < n → one_more s w ≤ ceiling n (payload_in s)
more_room {s} n w h f m =
    let low = h.shape.block_low in
    ceiling_rises (filled s w + 1) n (payload_in s) (omega arith) (omega arith)

-- A source wasn't written,
pub stops_source : {s t : RigState} {k : Comparison} {e : EmFault} (n : ℕ) → AreLists s k
    → k.sources.count < n → Goes (writer_blocks s k.sources) s t
    → Halts (one_more s k.sources) (2 * one_more s k.sources) (min k.sources.blocks 1)
    (writer_account k.sources) s t e
    → Cause s t e → StopsLists n k.edges.count s t k e
stops_source {s} {t} {k} {e} n i m g h c =
    let a = more_room n k.sources i.sound i.sources_filled m in
    let b = list_room k.edges.count k.edges i.sound i.edges i.edges_filled (omega arith) in
    stops_wider (omega arith) (omega arith) (omega arith)
    (stops_second (weave_blocks s k.weave) (weave_account k.weave)
    (stops_first (writer_blocks s k.edges) (writer_account k.edges)
    (record { goes = g; halts = h; cause = c })))

-- an edge wasn't,
pub stops_edge : {s t : RigState} {k : Comparison} {e : EmFault} → AreLists s k
    → Goes (writer_blocks s k.edges) s t
    → Halts (one_more s k.edges) (2 * one_more s k.edges) (min k.edges.blocks 1)
    (writer_account k.edges) s t e
    → Cause s t e → StopsLists k.sources.count (k.edges.count + 1) s t k e
stops_edge {s} {t} {k} {e} i g h c =
    let a = more_room (k.edges.count + 1) k.edges i.sound i.edges_filled (omega arith) in
    let b = list_room k.sources.count k.sources i.sound i.sources i.sources_filled (omega arith) in
    stops_wider (omega arith) (omega arith) (omega arith)
    (stops_second (weave_blocks s k.weave) (weave_account k.weave)
    (stops_second (writer_blocks s k.sources) (writer_account k.sources)
    (record { goes = g; halts = h; cause = c })))

-- or none was given.
pub stops_weave : {s t : RigState} {k : Comparison} {e : EmFault} (n m : ℕ) → AreLists s k
    → k.sources.count ≤ n → k.edges.count ≤ m → StopsWeaving s t k.weave e → StopsLists n m s t k e
stops_weave {s} {t} {k} {e} n m i l r h =
    let a = list_room n k.sources i.sound i.sources i.sources_filled l in
    let b = list_room m k.edges i.sound i.edges i.edges_filled r in
    stops_wider (omega arith) (omega arith) (omega arith)
    (stops_first (writer_blocks s k.sources ++ writer_blocks s k.edges)
    (both (writer_account k.sources) (writer_account k.edges)) h)

-- A call gave up after others.
pub stops_lists : {s t u : RigState} {k j : Comparison} {xs : List Side} {ys zs : List Record}
    {e : EmFault} (n m p q : ℕ) → p ≤ n → q ≤ m → Sound s → AreLists t j
    → Advances s t k j xs ys zs → j.sources.count ≤ p → j.edges.count ≤ q
    → StopsLists p q t u j e → StopsLists n m s u k e
stops_lists {s} {t} {u} {k} {j} n m p q f g so i h l r x =
    let low = so.shape.block_low in
    let pt : payload_in t ≡ payload_in s =
    payload_kept (lists_blocks s k) s t h.runs.session.touches in
    let o = rw pt at x in
    let a = rw pt at (list_room p j.sources i.sound i.sources i.sources_filled l) in
    let b = rw pt at (list_room q j.edges i.sound i.edges i.edges_filled r) in
    let c = ceiling_rises p n (payload_in s) (omega arith) f in
    let d = ceiling_rises q m (payload_in s) (omega arith) g in
    let w = h.wove.fewer in
    stops_wider (omega arith) (omega arith) (omega arith) (stops_after h.runs o)
