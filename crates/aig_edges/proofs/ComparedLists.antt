-- Lists were opened, compared, and finished or let go.
use Rattle.std.proofs.Common.{◌≡◌, ℕ, ◌+◌, ◌*◌, ◌≤◌, List, [], ◌∷◌, ◌++◌, length, filter, IsTrue, Err, refl, ap, sym, ◌∙◌, arith, subst}
use Rattle.std.proofs.lemmas.List.{append-nil, length-append}
use Rattle.em_record.specs.declared.record.Record.{Record}
use Rattle.em_record.proofs.Order.{length_order}
use Rattle.em_frames.specs.Pool.{GivenFrames, LentFrames, PoolCounts, SameFrames}
use Rattle.em_space.specs.Held.{Holds}
use Rattle.em_space.specs.Ledger.{Account, Stops}
use Rattle.em_space.specs.Rig.{RigState}
use Rattle.em_space.specs.declared.fault.EmFault.{EmFault}
use Rattle.em_space.proofs.Paying.{pays_kept, pays_more, pays_then}
use Rattle.em_space.proofs.Sessions.{session_as, session_still}
use Rattle.em_chain.specs.Chain.{chain_blocks, chain_items, payload_in}
use Rattle.em_chain.proofs.Keeps.{payload_kept}
use Rattle.em_chain.specs.Effects.{Unmoved}
use Rattle.em_chain.specs.Writer.{filled}
use Rattle.em_chain.specs.declared.chain.Chain.{Chain}
use Rattle.em_weave.specs.State.{left_items, right_items, weave_items}
use Rattle.em_weave.specs.declared.side.Side.{Side}
use Rattle.em_weave.proofs.Weavings.{peek_length, weave_holds}
use Rattle.aig_defs.specs.Chains.{input_def, latch_def, numbered}
use Rattle.aig_defs.specs.Circuit.{Circuit}
use Rattle.aig_defs.specs.Graph.{graph_sources}
use Rattle.aig_defs.specs.Sorted.{is_source, sorted_defs}
use Rattle.aig_defs.proofs.Chains.{length_numbered}
use Rattle.aig_defs.proofs.Sorted.{sorted_sources}
use Rattle.aig_edges.specs.Comparing.{AreSortedOf, CanCompare, ComparesTo, IsCompared, IsFaulty, compare_moves, compare_peak, written_room}
use Rattle.aig_edges.specs.Comparison.{CanStep, GivesFour, OpensLists, StopsLists, edges_due, lists_account, lists_blocks, Advances, AllTo, ComparesAll, Finished, FindsUnmet, Unfinished, sources_in}
use Rattle.aig_edges.specs.Accounts.{stored_account}
use Rattle.aig_edges.specs.declared.comparing.Comparison.{Comparison}
use Rattle.aig_edges.proofs.Besides.{stops_by}
use Rattle.aig_edges.proofs.AllCompared.{can_on, sources_length}
use Rattle.aig_edges.proofs.Finishes.{Part, part_stops_after, part_stops_still, part_then}
use Rattle.em_space.proofs.Ledgers.{spends_wider}
use Rattle.em_space.proofs.Steps.{touches_then, untold_by}
use Rattle.em_space.specs.declared.fault.EmFault.TheVariants.{Damaged}
use Rattle.aig_defs.specs.declared.fault.AigKind.{AigKind}
use Rattle.aig_text.specs.declared.stop.AigStop.{AigStop}
use Rattle.aig_text.specs.declared.stop.AigStop.TheVariants as stop
use Rattle.aig_edges.specs.Compared.{ComparesSome}
use Rattle.aig_edges.proofs.Advances.{list_room}
use Rattle.aig_edges.proofs.Compared.{compares_all, compares_none, compared_edges, compared_sources}
use Rattle.em_weave.specs.Woven.{lefts, rights}
use Rattle.em_chain.proofs.Counts.{writer_blocks_are}
use Rattle.aig_edges.specs.declared.comparing.Compared.{Compared}

-- how many sources a circuit has
sources_count : {s : RigState} {defs edges : Chain} {n : ℕ} (c : Circuit) → AreSortedOf s defs edges n c
    → length (filter is_source (chain_items s defs)) ≡ n
sources_count {s} {defs} {edges} {n} c a =
    let p = numbered input_def 0 c.inputs in
    let q = numbered latch_def 0 c.latches in
    let e = ap (λ (ds : List Record). length (filter is_source ds)) a.defs_are in
    let f = sources_length (sorted_defs c) in
    let g = ap (λ (rs : List Record). length rs) (sorted_sources c a.once) in
    let l : length (graph_sources c) ≡ length p + length q = length_order (p ++ q) ∙ length-append p q in
    let u = length_numbered input_def 0 c.inputs in
    let v = length_numbered latch_def 0 c.latches in
    let b = a.is.lengths.inputs in
    let d = a.is.lengths.latches in
    let w = a.count in
    omega (arith, e, f, g, l, u, v, b, d, w)

-- Lists that were opened can be compared.
pub can_start : {n : ℕ} {s t : RigState} {defs edges : Chain} {k : Comparison}
    → CanCompare s defs edges n → OpensLists s t defs edges k → CanStep n t k
can_start {n} {s} {t} {defs} {edges} {k} c o =
    let told = o.touches.told in
    let free = o.frames.free in
    let many = c.free in
    let x = o.sources_begun in
    let y = o.edges_begun in
    let xc = x.count in
    let yc = y.count in
    let xf = x.filled_is in
    let yf = y.filled_is in
    let lc = o.left_count in
    let rc = o.right_count in
    let df = c.defs_few in
    let ef = c.edges_few in
    record {
      are = record {
        sound = o.sound;
        free = omega (arith, free, many);
        weave = o.weave;
        sources = x.is;
        edges = y.is;
        holds = λ z. subst (λ (ks : List ℕ). Holds t ks)
            (sym (lists_begun (x.held z) (y.held z))) (weave_holds o.weave z);
        sources_filled = omega (arith, xc, xf);
        edges_filled = omega (arith, yc, yf);
        sources_few = omega (arith, xc);
        edges_few = omega (arith, yc);
      };
      most = omega (arith, xc);
      defs_few = omega (arith, xc, lc, df);
      edges_few = omega (arith, yc, rc, ef);
      left = λ z.
          let u = sym told ∙ z in
          let m = c.stands u in
          let e = ap (λ (ds : List Record). length (filter is_source ds)) (o.defs_are u) in
          let w = sources_count m.circuit m.are in
          omega (arith, xc, e, w);
    }
  where
    lists_begun : {ws os bs : List ℕ} → os ≡ [] → bs ≡ [] → ws ++ (os ++ bs) ≡ ws
    lists_begun {ws} e f = rw (e, f) (append-nil ws)

-- frames that were lent came back
same_again : {p q r o : PoolCounts} → LentFrames 4 p q → SameFrames q r → GivenFrames 4 r o
    → SameFrames p o
same_again l h g = record {
  shape = g.shape ∙ h.shape ∙ l.shape;
  free = omega (arith, g.free, h.free, l.free);
  rack = g.rack ∙ h.rack ∙ l.rack;
  free_areas = g.free_areas ∙ h.free_areas ∙ l.free_areas;
  peak = omega (arith, g.peak, h.peak, l.peak);
}

-- what two lists have before they are compared
abbrev pub open_account : Chain → Chain → Account
open_account defs edges =
    stored_account (defs.blocks + edges.blocks) (2 * defs.blocks + 2 * edges.blocks + 2)

-- What opening them is.
pub opened_part : {s t : RigState} {defs edges : Chain} {k : Comparison}
    → (IsTrue s.device.told → Holds s (chain_blocks s defs ++ chain_blocks s edges))
    → OpensLists s t defs edges k
    → Part (defs.blocks + edges.blocks) (chain_blocks s defs ++ chain_blocks s edges)
    (lists_blocks t k) (open_account defs edges) (lists_account k) s t
opened_part {s} {t} {defs} {edges} {k} n o =
    let x = o.sources_begun in
    let y = o.edges_begun in
    let xb = x.blocks in
    let yb = y.blocks in
    let held = o.held_is in
    let owed = o.owed_is in
    let used = o.unmoved.same.used in
    let most = o.unmoved.same.most in
    let moves = o.unmoved.moves in
    record {
      session = session_as (lists_blocks t k)
          (session_still (chain_blocks s defs ++ chain_blocks s edges) o.sound o.touches n)
          (λ z.
          let u : IsTrue t.device.told = o.touches.told ∙ z in
          lists_begun (x.held u) (y.held u) ∙ o.blocks z);
      spends = record {
        held = omega (arith, held, xb, yb);
        used = omega (arith, held, xb, yb, used);
        most = omega (arith, most);
        moves = omega (arith, owed, xb, yb, moves);
        later = omega (arith, moves);
        pays = pays_more (pays_kept 0 (omega (arith, used)) (omega (arith, moves)))
            (omega (arith, xb, yb));
      };
    }
  where
    lists_begun : {ws os bs : List ℕ} → os ≡ [] → bs ≡ [] → ws ++ (os ++ bs) ≡ ws
    lists_begun {ws} e f = rw (e, f) (append-nil ws)

-- A call gave up while they were compared, and they were let go.
pub compare_stops : {n : ℕ} {s a b t : RigState} {defs edges : Chain} {k : Comparison} {e : EmFault}
    → CanCompare s defs edges n → OpensLists s a defs edges k
    → StopsLists n (edges_due k) a b k e → GivesFour [] b t → Unmoved b t
    → Stops (compare_peak s defs edges n) 0 2 (chain_blocks s defs ++ chain_blocks s edges)
    (stored_account (defs.blocks + edges.blocks) (compare_moves s defs edges n)) s t e
compare_stops {n} {s} {a} {b} {t} {defs} {edges} {k} {e} c o x g u =
    let pa : payload_in a ≡ payload_in s = payload_kept [] s a o.touches in
    let yc = o.edges_begun.count in
    let rc = o.right_count in
    let due : edges_due k ≡ edges.count = omega (arith, yc, rc) in
    let y = rw (pa, due) at x in
    let held = o.held_is in
    let p = part_stops_still g.sound g.touches u (part_stops_after (opened_part c.holds o)
    (record { sound = y.goes.sound; touches = y.goes.touches; halts = y.halts; cause = y.cause })) in
    stops_by (stored_account (defs.blocks + edges.blocks) (compare_moves s defs edges n))
    (omega (arith, held)) (omega arith) (omega arith) (omega arith)
    (record {
      goes = record {
        sound = p.sound;
        touches = p.touches;
        frames = same_again o.frames y.goes.frames g.frames;
      };
      halts = p.halts;
      cause = p.cause;
    })

-- What was done until some were compared, and what was written.
pub record ComparedPart (n : ℕ) (s b : RigState) (defs edges : Chain) (j : Comparison) : Type 0 where
  pub part : Part (compare_peak s defs edges n) (chain_blocks s defs ++ chain_blocks s edges)
      (lists_blocks b j) (open_account defs edges) (lists_account j) s b
  pub room : j.sources.blocks + j.edges.blocks ≤ written_room s n edges

pub compared_part : {n : ℕ} {s a b : RigState} {defs edges : Chain} {k j : Comparison}
    {xs : List Side} {ys zs : List Record} → CanCompare s defs edges n → OpensLists s a defs edges k
    → Advances a b k j xs ys zs → j.sources.count ≤ n → j.edges.count ≤ edges_due k
    → ComparedPart n s b defs edges j
compared_part {n} {s} {a} {b} {defs} {edges} {k} {j} c o h l m =
    let pa : payload_in a ≡ payload_in s = payload_kept [] s a o.touches in
    let pb : payload_in b ≡ payload_in a = payload_kept (lists_blocks a k) a b h.runs.session.touches in
    let x = o.sources_begun in
    let y = o.edges_begun in
    let yc = y.count in
    let rc = o.right_count in
    let due : edges_due k ≡ edges.count = omega (arith, yc, rc) in
    let few : j.edges.count ≤ edges.count = omega (arith, due, m) in
    let so = h.runs.session.sound in
    let u = rw (pb, pa) at (list_room n j.sources so h.sources.is (omega (
      arith,
      h.sources.filled_is,
      h.sources.count_is,
      x.filled_is,
      x.count,
    )) l) in
    let v = rw (pb, pa) at (list_room edges.count j.edges so h.edges.is (omega (
      arith,
      h.edges.filled_is,
      h.edges.count_is,
      y.filled_is,
      y.count,
    )) few) in
    let held = o.held_is in
    let p = part_then (opened_part c.holds o) (record { session = h.runs.session; spends = h.runs.spends })
    in
    record {
      part = record {
        session = p.session;
        spends = spends_wider (omega (arith, held, u, v)) p.spends;
      };
      room = omega (arith, u, v);
    }

-- Nothing was compared at first.
pub compare_started : {n : ℕ} {s a : RigState} {defs edges : Chain} {k : Comparison} (c : Circuit)
    → OpensLists s a defs edges k → IsTrue s.device.told → AreSortedOf s defs edges n c
    → ComparesSome c [] (weave_items a k.weave) k.last
compare_started {s = s} {a = a} {k = k} c o z r =
    rw (o.defs_are z, o.edges_are z, r.defs_are, r.edges_are, o.last_is) (compares_none c)

-- The next edge came from a variable that isn't defined, and the lists were let go.
pub compare_unmet : {n place : ℕ} {s a b t : RigState} {defs edges : Chain} {k j : Comparison}
    {fault : AigKind} → CanCompare s defs edges n → OpensLists s a defs edges k
    → FindsUnmet n a b k j fault place → GivesFour [] b t → Unmoved b t
    → IsFaulty s t defs edges n fault place
compare_unmet {n} {place} {s} {a} {b} {t} {defs} {edges} {k} {j} c o f g u =
    let q = compared_part c o f.advances f.most f.edges_most in
    let p = q.part in
    let x = p.spends in
    let written = q.room in
    let used = u.same.used in
    let most = u.same.most in
    let moves = u.moves in
    let room = x.held in
    record {
      kind_is = f.kind_is;
      found = λ z d r. f.found (o.touches.told ∙ z) d [] r.once (compare_started d o z r);
      goes = record {
        sound = g.sound;
        touches = touches_then (chain_blocks s defs ++ chain_blocks s edges) s b t p.session.touches
            g.touches;
        frames = same_again o.frames f.advances.runs.frames g.frames;
      };
      used = omega (arith, x.used, room, used);
      most = omega (arith, x.most, most);
      moves = omega (arith, x.moves, written, moves);
      pays = pays_then (pays_more x.pays (omega arith)) (pays_kept 2 (omega (arith, used))
          (omega (arith, moves))) (omega (arith, moves));
    }

pub compare_stopped : {n : ℕ} {s a b t : RigState} {defs edges : Chain} {k : Comparison}
    (j : Comparison) (e : AigStop) → CanCompare s defs edges n → OpensLists s a defs edges k
    → AllTo n a b k j (Err e) → GivesFour [] b t → Unmoved b t
    → ComparesTo s t defs edges n (Err e)
compare_stopped j (stop.Fault fault place) c o f g u = compare_unmet c o f g u
compare_stopped j stop.Read c o f g u = f
compare_stopped j (stop.Em fault) c o f g u = compare_stops c o f g u

-- All were compared: what was done.
pub all_part : {n : ℕ} {s a b : RigState} {defs edges : Chain} {k j : Comparison}
    → CanCompare s defs edges n → OpensLists s a defs edges k → ComparesAll n a b k j
    → ComparedPart n s b defs edges j
all_part c o h =
    let e = h.compares.advances.edges.count_is in
    let r = h.compares.advances.wove.right_count in
    compared_part c o h.compares.advances h.compares.most (omega (arith, e, r))

-- The lists weren't finished.
pub compare_unfinished : {n : ℕ} {s a b t : RigState} {defs edges : Chain} {k j : Comparison}
    {e : EmFault} → CanCompare s defs edges n → OpensLists s a defs edges k
    → ComparesAll n a b k j → Unfinished b t j e
    → Stops (compare_peak s defs edges n) 0 2 (chain_blocks s defs ++ chain_blocks s edges)
    (stored_account (defs.blocks + edges.blocks) (compare_moves s defs edges n)) s t e
compare_unfinished {n} {s} {a} {b} {t} {defs} {edges} {k} {j} {e} c o h f =
    let q = all_part c o h in
    let held = q.part.spends.held in
    let room = q.room in
    let p = part_stops_after q.part (record {
      sound = f.gives.sound;
      touches = f.gives.touches;
      halts = f.halts;
      cause = f.cause;
    }) in
    stops_by (stored_account (defs.blocks + edges.blocks) (compare_moves s defs edges n))
    (omega (arith, held)) (omega arith) (omega arith) (omega (arith, room))
    (record {
      goes = record {
        sound = p.sound;
        touches = p.touches;
        frames = same_again o.frames h.compares.advances.runs.frames f.gives.frames;
      };
      halts = p.halts;
      cause = p.cause;
    })

none_by : {T : Type 0} (xs : List T) → length xs ≡ 0 → xs ≡ []
none_by [] e = refl
none_by (x ∷ xs) e = absurd (omega arith)

-- At the end no record is left.
pub all_compared : {n : ℕ} {s a b : RigState} {defs edges : Chain} {k j : Comparison} (c : Circuit)
    → OpensLists s a defs edges k → (h : ComparesAll n a b k j) → IsTrue s.device.told
    → AreSortedOf s defs edges n c → ComparesSome c h.compares.sides [] j.last
all_compared {n} {s} {a} {b} {defs} {edges} {k} {j} c o h z r =
    let i = h.compares.advances.wove.is in
    let u : IsTrue a.device.told = o.touches.told ∙ z in
    let v : IsTrue b.device.told = h.compares.advances.wove.told ∙ u in
    let none = h.none in
    let x = peek_length b j.weave.left i.left v in
    let y = peek_length b j.weave.right i.right v in
    let l = none_by (left_items b j.weave) (omega (arith, x, none)) in
    let m = none_by (right_items b j.weave) (omega (arith, y, none)) in
    let e : weave_items b j.weave ≡ [] = rw (l, m) refl in
    subst (λ (ds : List Side). ComparesSome c h.compares.sides ds j.last) e
    (h.compares.follows u c [] (compare_started c o z r))

-- Another number of sources comes only of a device that doesn't tell.
pub compare_damaged : {n : ℕ} {s a b t : RigState} {defs edges : Chain} {k j : Comparison}
    → CanCompare s defs edges n → OpensLists s a defs edges k → ComparesAll n a b k j
    → (j.sources.count ≡ n → ⊥) → GivesFour [] b t → Unmoved b t
    → Stops (compare_peak s defs edges n) 0 2 (chain_blocks s defs ++ chain_blocks s edges)
    (stored_account (defs.blocks + edges.blocks) (compare_moves s defs edges n)) s t (Damaged 0)
compare_damaged {n} {s} {a} {b} {t} {defs} {edges} {k} {j} c o h w g u =
    let q = all_part c o h in
    let p = q.part in
    let x = p.spends in
    let written = q.room in
    let used = u.same.used in
    let most = u.same.most in
    let moves = u.moves in
    let room = x.held in
    record {
      goes = record {
        sound = g.sound;
        touches = touches_then (chain_blocks s defs ++ chain_blocks s edges) s b t p.session.touches
            g.touches;
        frames = same_again o.frames h.compares.advances.runs.frames g.frames;
      };
      halts = record {
        used = omega (arith, x.used, room, used);
        full = tt;
        most = omega (arith, x.most, most);
        moves = omega (arith, x.moves, written, moves);
        later = omega (arith, x.later, moves);
        pays = pays_then (pays_more x.pays (omega arith)) (pays_kept 2 (omega (arith, used))
            (omega (arith, moves))) (omega (arith, moves));
      };
      cause = (
        untold_by t.device.told (λ y.
            let v : IsTrue b.device.told = sym g.touches.told ∙ y in
            let i = h.compares.advances.wove.is in
            let none = h.none in
            let l = none_by (left_items b j.weave)
            (omega (arith, peek_length b j.weave.left i.left v, none)) in
            let z = ap (λ (ds : List Record). length (filter is_source ds)) l in
            let m = (can_on (can_start c o) h.compares).left v in
            w (omega (arith, z, m))),
        g.sound.numbers.blocks_low,
      );
    }

-- No fault was found, and the lists were finished.
pub compare_is : {n : ℕ} {s a b t : RigState} {defs edges : Chain} {k j : Comparison} {r : Compared}
    → CanCompare s defs edges n → OpensLists s a defs edges k → ComparesAll n a b k j
    → j.sources.count ≡ n → Finished b t j r → IsCompared s t defs edges n r
compare_is {n} {s} {a} {b} {t} {defs} {edges} {k} {j} {r} c o h w f =
    let q = all_part c o h in
    let v = h.compares.advances in
    let x = o.sources_begun in
    let y = o.edges_begun in
    let pa : payload_in a ≡ payload_in s = payload_kept [] s a o.touches in
    let pb : payload_in b ≡ payload_in a = payload_kept (lists_blocks a k) a b v.runs.session.touches in
    let so = v.runs.session.sound in
    let low = so.shape.block_low in
    let zero = h.none in
    let rc = o.right_count in
    let wc = v.wove.right_count in
    let sf : filled b j.sources ≡ n = omega (
      arith,
      v.sources.filled_is,
      v.sources.count_is,
      x.filled_is,
      x.count,
      w,
    ) in
    let ec : j.edges.count ≡ edges.count = omega (arith, v.edges.count_is, y.count, rc, wc, zero) in
    let ef : filled b j.edges ≡ edges.count = omega (
      arith,
      v.edges.filled_is,
      v.edges.count_is,
      y.filled_is,
      y.count,
      ec,
    ) in
    let sb = rw (sf, pb, pa) at (writer_blocks_are b j.sources low v.sources.is) in
    let eb = rw (ef, pb, pa) at (writer_blocks_are b j.edges low v.edges.is) in
    let fs = f.sources.blocks_is in
    let fe = f.edges.blocks_is in
    let all = part_then q.part (record { session = f.session; spends = f.spends }) in
    let e = all.spends in
    let held = q.part.spends.held in
    let room = q.room in
    let last = λ (z : IsTrue s.device.told) (d : Circuit) (m : AreSortedOf s defs edges n d).
    all_compared d o h z m in
    record {
      sources_is = f.sources.is;
      edges_is = f.edges.is;
      sources_packed = λ z.
          let u : IsTrue a.device.told = o.touches.told ∙ z in
          f.sources.packed (v.wove.told ∙ u) (v.sources.packed u (x.packed u));
      edges_packed = λ z.
          let u : IsTrue a.device.told = o.touches.told ∙ z in
          f.edges.packed (v.wove.told ∙ u) (v.edges.packed u (y.packed u));
      sources_count = f.sources.count_is ∙ w;
      edges_count = f.edges.count_is ∙ ec;
      sources_blocks = fs ∙ sb;
      edges_blocks = fe ∙ eb;
      defined = λ z d m. compares_all d h.compares.sides j.last m.once (last z d m);
      sources_are = λ z d m.
          let u : IsTrue a.device.told = o.touches.told ∙ z in
          f.sources.items (v.wove.told ∙ u) ∙ v.sources.items u
          ∙ ap (λ (rs : List Record). rs ++ sources_in (lefts h.compares.sides)) (x.items u)
          ∙ compared_sources d h.compares.sides m.once (last z d m).whole;
      edges_are = λ z d m.
          let u : IsTrue a.device.told = o.touches.told ∙ z in
          f.edges.items (v.wove.told ∙ u) ∙ v.edges.items u
          ∙ ap (λ (rs : List Record). rs ++ rights h.compares.sides) (y.items u)
          ∙ compared_edges d h.compares.sides (last z d m).whole;
      runs = record {
        session = all.session;
        frames = same_again o.frames v.runs.frames f.frames;
        spends = record {
          held = omega (arith, fs, fe, sb, eb);
          used = omega (arith, e.used);
          most = omega (arith, e.most, held);
          moves = omega (arith, e.moves, fs, fe, sb, eb);
          later = e.later;
          pays = e.pays;
        };
      };
    }
