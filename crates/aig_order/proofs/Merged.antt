-- Calls on two lists that are read as one and on the list that is written, one after another.
use Rattle.std.proofs.Common.{◌≡◌, ℕ, ◌+◌, ◌*◌, ◌<◌, ◌≤◌, ◌^◌, min, List, [], ◌∷◌, ◌++◌, length, map, IsTrue, Result, Ok, Err, OnOk, IfErr, ap, ap₂, sym, ◌∙◌, subst, arith}
use Rattle.std.proofs.lemmas.List.{length-map, map-append}
use Rattle.em_record.specs.declared.record.Record.{Record}
use Rattle.em_space.specs.Held.{Apart}
use Rattle.em_space.specs.Ledger.{Costs, Halts}
use Rattle.em_space.specs.Rig.{RigState, Goes, Cause}
use Rattle.em_space.specs.declared.fault.EmFault.{EmFault}
use Rattle.em_space.proofs.Lists.{apart_sym, distinct_apart}
use Rattle.em_space.proofs.Runs.{runs_none, runs_as, runs_wider, runs_then, runs_first, runs_second, stops_after, stops_wider, stops_first, stops_second}
use Rattle.em_chain.specs.Chain.{payload_in}
use Rattle.em_chain.specs.Counts.{ceiling}
use Rattle.em_chain.specs.Session.{Wrote, one_more, writer_account}
use Rattle.em_chain.specs.Writer.{filled, writer_blocks}
use Rattle.em_chain.specs.Writes.{Appends, AppendCosts}
use Rattle.em_chain.specs.declared.writer.Writer.{Writer}
use Rattle.em_chain.proofs.Keeps.{payload_kept}
use Rattle.em_chain.proofs.Laws.{writer_stays}
use Rattle.em_chain.proofs.Sessions.{ceiling_rises, wrote_none, wrote_stays, wrote_then}
use Rattle.em_weave.specs.State.{weave_account, weave_blocks}
use Rattle.em_weave.specs.Weaves.{AtBothEnds, StopsWeaving, Weaves}
use Rattle.em_weave.specs.declared.side.Side.{Side}
use Rattle.em_weave.specs.declared.weave.Weave.{Weave}
use Rattle.em_weave.proofs.Weavings.{frames_kept, weave_stays, wove_count, wove_none, wove_stays, wove_then}
use Rattle.em_chain.proofs.Keeps.{has_kept}
use Rattle.aig_defs.specs.declared.circuit.Header.{Header}
use Rattle.aig_edges.proofs.Advances.{WritesItem, list_room, writes_item}
use Rattle.aig_order.specs.declared.merging.Merge.{Merge}
use Rattle.aig_order.specs.Merges.{AreMerged, MergesFor, MergesNext, MergesOn, MergesOne, StopsMerging, merge_account, merge_blocks, merge_count, merged_side}

-- the writer has no block of the lists that are read
pub merge_apart : {s : RigState} {w : Weave} {v : Writer} → AreMerged s w v → IsTrue s.device.told
    → Apart (weave_blocks s w) (writer_blocks s v)
merge_apart {s} {w} {v} i z =
    distinct_apart (weave_blocks s w) (writer_blocks s v) ((i.holds z).distinct z)

-- Nothing was done,
pub merges_none : (h : Header) (merge : Merge) {s : RigState} {w : Weave} {v : Writer}
    → AreMerged s w v → MergesOn h merge s s w w v v
merges_none h merge {s} {w} {v} i = record {
  sides = [];
  runs = runs_wider (omega arith)
      (runs_none s (merge_blocks s w v) (merge_account w v) i.sound i.holds);
  wove = wove_none i.weave;
  wrote = wrote_none i.writer;
  grows = omega arith;
}

-- a record was given and not written yet,
given : {s t : RigState} {w k : Weave} {v : Writer} (xs : List Side) → AreMerged s w v
    → Weaves s t w k xs → merge_count k v < 2 ^ 44 → AreMerged t k v
given {s} {t} {w} {k} {v} xs i g few =
    let ws = weave_blocks s w in
    let vs = writer_blocks s v in
    let touches = g.runs.session.touches in
    let f = has_kept 1 (length v.frame) s.pool t.pool g.runs.frames i.writer.frame in
    let sv = writer_stays ws s t v touches (λ z. apart_sym ws vs (merge_apart i z)) f i.writer in
    let runs = runs_as (weave_blocks t k ++ writer_blocks t v)
    (runs_first vs (writer_account v) i.holds g.runs)
    (λ z. ap (λ l. weave_blocks t k ++ l) (sv.blocks z)) in
    record {
      sound = g.runs.session.sound;
      free = rw (g.runs.frames.free) (i.free);
      weave = g.wove.is;
      writer = sv.is;
      holds = λ z. runs.session.holds (sym touches.told ∙ z);
      filled_is = (wrote_stays touches.told sv).filled_is ∙ (let e = i.filled_is in omega (arith, e));
      few = few;
    }

-- and one was, and then written.
step_runs : (h : Header) (merge : Merge) {s t u : RigState} {w k : Weave} {v j : Writer} (d : Side)
    → AreMerged s w v → AreMerged t k v → Weaves s t w k (d ∷ [])
    → WritesItem t u v j (merged_side h merge d) → MergesOn h merge s u w k v j
step_runs h merge {s} {t} {u} {w} {k} {v} {j} d i o g p =
    let ws = weave_blocks s w in
    let vs = writer_blocks s v in
    let first = g.runs.session.touches in
    let f = has_kept 1 (length v.frame) s.pool t.pool g.runs.frames i.writer.frame in
    let sv = writer_stays ws s t v first (λ z. apart_sym ws vs (merge_apart i z)) f i.writer in
    let one = runs_as (weave_blocks t k ++ writer_blocks t v)
    (runs_first vs (writer_account v) i.holds g.runs)
    (λ z. ap (λ l. weave_blocks t k ++ l) (sv.blocks z)) in
    let second = p.runs.session.touches in
    let sw = weave_stays (writer_blocks t v) t u k second (λ z. merge_apart o z)
    (frames_kept t u k p.runs.frames o.weave.frames) o.weave in
    let two = runs_as (weave_blocks u k ++ writer_blocks u j)
    (runs_second (weave_blocks t k) (weave_account k) o.holds p.runs)
    (λ z. ap (λ l. l ++ writer_blocks u j) (sw.blocks z)) in
    record {
      sides = d ∷ [];
      runs = runs_wider (let a = g.wove.fewer in let b = p.grows in omega (arith, a, b))
          (runs_then one two);
      wove = wove_then (d ∷ []) [] g.wove (wove_stays second.told sw);
      wrote = wrote_then [] (merged_side h merge d ∷ []) (wrote_stays first.told sv) p.wrote;
      grows = p.grows;
    }

-- More is done after it.
pub merges_then : (h : Header) (merge : Merge) {s t u : RigState} {w k l : Weave} {v j i : Writer}
    → MergesOn h merge s t w k v j → MergesOn h merge t u k l j i → MergesOn h merge s u w l v i
merges_then h merge {s} {u = u} {v = v} {i = i} a b = record {
  sides = a.sides ++ b.sides;
  runs = runs_wider
      (let x = a.wove.fewer in let y = a.grows in let z = b.grows in omega (arith, x, y, z))
      (runs_then a.runs b.runs);
  wove = wove_then a.sides b.sides a.wove b.wove;
  wrote = subst (λ xs. Wrote s u v i xs) (sym (map-append (merged_side h merge) a.sides b.sides))
      (wrote_then (map (merged_side h merge) a.sides) (map (merged_side h merge) b.sides) a.wrote
      b.wrote);
  grows = (let y = a.grows in let z = b.grows in omega (arith, y, z));
}

-- The lists stand as they did, with as many records in all.
pub merges_count : (h : Header) (merge : Merge) {s t : RigState} {w k : Weave} {v j : Writer}
    → MergesOn h merge s t w k v j → merge_count k j ≡ merge_count w v
merges_count h merge m =
    let given = wove_count m.sides m.wove in
    let written = m.wrote.count_is in
    let same = length-map m.sides (merged_side h merge) in
    omega (arith, given, written, same)

pub still_merged : (h : Header) (merge : Merge) {s t : RigState} {w k : Weave} {v j : Writer}
    → AreMerged s w v → MergesOn h merge s t w k v j → AreMerged t k j
still_merged h merge {s} {t} i m =
    let told = m.runs.session.touches.told in
    record {
      sound = m.runs.session.sound;
      free = rw (m.runs.frames.free) (i.free);
      weave = m.wove.is;
      writer = m.wrote.is;
      holds = λ z. m.runs.session.holds (sym told ∙ z);
      filled_is = (let e = i.filled_is in let f = m.wrote.filled_is in let c = m.wrote.count_is in
          omega (arith, e, f, c));
      few = (let e = merges_count h merge m in let l = i.few in omega (arith, e, l));
    }

-- A record wasn't given,
pub stops_given : {s t : RigState} {w : Weave} {v : Writer} {e : EmFault} → AreMerged s w v
    → StopsWeaving s t w e → StopsMerging (merge_count w v) s t w v e
stops_given {s} {w = w} {v = v} i h =
    let a = list_room (merge_count w v) v i.sound i.writer i.filled_is (omega arith) in
    stops_wider (omega (arith, a)) (omega (arith, a)) (omega arith)
    (stops_first (writer_blocks s v) (writer_account v) h)

-- or not written,
pub stops_written : {s t u : RigState} {w k : Weave} {v : Writer} {e : EmFault} (d : Side)
    → AreMerged s w v → AreMerged t k v → Weaves s t w k (d ∷ []) → Goes (writer_blocks t v) t u
    → Halts (one_more t v) (2 * one_more t v) (min v.blocks 1) (writer_account v) t u e
    → Cause t u e → StopsMerging (merge_count w v) s u w v e
stops_written {s} {t} {u} {w} {k} {v} d i o g goes halts cause =
    let ws = weave_blocks s w in
    let vs = writer_blocks s v in
    let first = g.runs.session.touches in
    let f = has_kept 1 (length v.frame) s.pool t.pool g.runs.frames i.writer.frame in
    let sv = writer_stays ws s t v first (λ z. apart_sym ws vs (merge_apart i z)) f i.writer in
    let one = runs_as (weave_blocks t k ++ writer_blocks t v)
    (runs_first vs (writer_account v) i.holds g.runs)
    (λ z. ap (λ l. weave_blocks t k ++ l) (sv.blocks z)) in
    let n = merge_count w v in
    let low = i.sound.shape.block_low in
    let pt : payload_in t ≡ payload_in s = payload_kept ws s t first in
    let a = list_room n v i.sound i.writer i.filled_is (omega arith) in
    let given = wove_count (d ∷ []) g.wove in
    let filled_is = o.filled_is in
    let size : one_more t v ≤ ceiling n (payload_in s) =
    subst (λ (p : ℕ). one_more t v ≤ ceiling n p) pt (ceiling_rises (filled t v + 1) n (payload_in t)
    (let l = o.sound.shape.block_low in omega (arith, l)) (omega (arith, given, filled_is))) in
    let fewer = g.wove.fewer in
    stops_wider (omega (arith, a, size, fewer)) (omega (arith, size)) (omega arith)
    (stops_after one (stops_second (weave_blocks t k) (weave_account k)
    (record { goes = goes; halts = halts; cause = cause })))

-- or the call came after others.
pub stops_rest : (h : Header) (merge : Merge) {s t u : RigState} {w k : Weave} {v j : Writer}
    {e : EmFault} → AreMerged s w v → MergesOn h merge s t w k v j
    → StopsMerging (merge_count k j) t u k j e → StopsMerging (merge_count w v) s u w v e
stops_rest h merge {s} {t} {w = w} {k} {v} {j} i m x =
    let pt : payload_in t ≡ payload_in s =
    payload_kept (merge_blocks s w v) s t m.runs.session.touches in
    let same : ceiling (merge_count k j) (payload_in t) ≡ ceiling (merge_count w v) (payload_in s) =
    ap₂ ceiling (merges_count h merge m) pt in
    let o = still_merged h merge i m in
    let a = list_room (merge_count k j) j o.sound o.writer o.filled_is (omega arith) in
    let fewer = m.wove.fewer in
    stops_wider (omega (arith, same, a, fewer)) (omega (arith, same)) (omega arith)
    (stops_after m.runs x)

-- What the next record did, by what was given and by the result of writing it.
pub next_none : (h : Header) (merge : Merge) {s t : RigState} {w k : Weave} {v : Writer}
    → AreMerged s w v → AtBothEnds s t w k → MergesOne h merge s t w k v v
next_none h merge {s} {w = w} {k} {v} i e =
    subst (λ (t : RigState). MergesOne h merge s t w k v v) (sym e.rig)
    (subst (λ (k : Weave). MergesOne h merge s s w k v v) (sym e.same) (record {
      merges = merges_none h merge i;
      fewer = (let n = e.count in omega (arith, n));
    }))

pub next_given : {s t : RigState} {w k : Weave} {v : Writer} (d : Side) → AreMerged s w v
    → Weaves s t w k (d ∷ []) → AreMerged t k v
next_given {w = w} {k} {v} d i g =
    let n = wove_count (d ∷ []) g.wove in
    let few = i.few in
    given (d ∷ []) i g (omega (arith, n, few))

pub next_to : (h : Header) (merge : Merge) {s t : RigState} (u : RigState) {w k : Weave} {v : Writer}
    (j : Writer) (d : Side) (x : Record) (r : Result (Unit {0}) EmFault) → AreMerged s w v
    → Weaves s t w k (d ∷ []) → x ≡ merged_side h merge d → Goes (writer_blocks t v) t u
    → OnOk r (Appends t u v j x) → AppendCosts t u v j r
    → Costs (one_more t v) (2 * one_more t v) (min v.blocks 1) (writer_account v) (writer_account j)
    t u r
    → IfErr r (Cause t u) → MergesNext h merge s u w k v j r
next_to h merge {t = t} u {v = v} j d x (Ok y) i g e goes appends costs spends cause = record {
  merges = step_runs h merge d i (next_given d i g) g
      (subst (λ (z : Record). WritesItem t u v j z) e (writes_item y goes appends costs spends));
  fewer = (let n = wove_count (d ∷ []) g.wove in omega (arith, n));
}
next_to h merge u j d x (Err fault) i g e goes appends costs spends cause =
    stops_written d i (next_given d i g) g goes spends cause

-- One step more in a loop.
pub for_more : (h : Header) (merge : Merge) {i total : ℕ} {s t u : RigState} {w k l : Weave}
    {v j o : Writer} → i < total → MergesFor i total h merge s t w k v j
    → MergesOne h merge t u k l j o → MergesFor (i + 1) total h merge s u w l v o
for_more h merge low a b = record {
  merges = merges_then h merge a.merges b.merges;
  left = (let x = a.left in let y = b.fewer in omega (arith, x, y, low));
}
