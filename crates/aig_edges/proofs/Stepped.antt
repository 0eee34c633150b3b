-- Definitions and edges are compared one after another.
use Rattle.std.proofs.Common.{◌≡◌, ℕ, ◌+◌, ◌*◌, ◌^◌, ◌<◌, ◌≤◌, min, true, false, List, [], ◌∷◌, length, filter, IsTrue, Option, None, Some, Result, Ok, Err, OnOk, IfErr, refl, ap, sym, ◌∙◌, arith, subst}
use Rattle.std.specs.Prelude.{option_to_list}
use Rattle.std.proofs.lemmas.List.{append-nil}
use Rattle.em_record.specs.declared.record.Record.{Record}
use Rattle.em_space.specs.Ledger.{Account, Costs, Runs, Stops}
use Rattle.em_space.specs.Rig.{RigState, Goes, Cause}
use Rattle.em_space.specs.declared.fault.EmFault.{EmFault}
use Rattle.em_space.specs.declared.fault.EmFault.TheVariants.{Damaged}
use Rattle.em_space.proofs.Paying.{pays_more}
use Rattle.em_space.proofs.Runs.{runs_goes, runs_none, stops_wider}
use Rattle.em_space.proofs.Steps.{untold_by}
use Rattle.em_chain.specs.Session.{one_more, writer_account}
use Rattle.em_chain.specs.Writer.{writer_blocks}
use Rattle.em_chain.specs.Writes.{Appends, AppendCosts}
use Rattle.em_chain.specs.declared.writer.Writer.{Writer}
use Rattle.em_weave.specs.State.{left_items, weave_items}
use Rattle.em_weave.specs.Weaves.{AtBothEnds, Weaves}
use Rattle.em_weave.specs.declared.side.Side.{Side}
use Rattle.em_weave.specs.declared.side.Side.TheVariants.{Left, Right}
use Rattle.em_weave.specs.declared.weave.Weave.{Weave}
use Rattle.em_weave.proofs.Weavings.{wove_count, wove_left}
use Rattle.aig_defs.specs.Sorted.{is_source, plain_def}
use Rattle.aig_text.specs.declared.stop.AigStop.{AigStop}
use Rattle.aig_text.specs.declared.stop.AigStop.TheVariants as stop
use Rattle.aig_edges.specs.Compared.{ComparesSome}
use Rattle.aig_edges.specs.Comparison.{Advances, AreLists, CanStep, Keeps, KeepsDef, MeetsEdge, StepsOne, StepsTo, StopsLists, edges_due, lists_account, lists_blocks, sources_in}
use Rattle.aig_edges.specs.declared.comparing.Comparison.{Comparison}
use Rattle.aig_edges.proofs.Advances.{advances_none, advances_source, advances_then, advances_weave, list_room, stops_lists, stops_source, writes_item}
use Rattle.aig_edges.proofs.Compared.{compares_left, compares_right, compares_unmet}

source_none : (d : Record) → is_source d ≡ false → sources_in (d ∷ []) ≡ []
source_none d e = rw e refl

source_one : (d : Record) → is_source d ≡ true → sources_in (d ∷ []) ≡ plain_def d ∷ []
source_one d e = rw e refl

-- A device that doesn't tell gave what it can't be.
pub stops_damaged : {p l u : ℕ} {held ks : List ℕ} {a b : Account} {s t : RigState}
    → b.paid ≤ l → b.unstored ≤ u → Runs p held ks a b s t → (IsTrue t.device.told → ⊥)
    → Stops p l u held a s t (Damaged 0)
stops_damaged {t = t} x y r n =
    let k = r.spends in
    record {
      goes = runs_goes r;
      halts = record {
        used = omega (arith, k.used, k.held);
        full = tt;
        most = omega (arith, k.most);
        moves = omega (arith, k.moves, x);
        later = k.later;
        pays = pays_more k.pays (omega (arith, y));
      };
      cause = (untold_by t.device.told n, r.session.sound.numbers.blocks_low);
    }

-- A gate's definition was kept,
pub keeps_gate : {s : RigState} {k : Comparison} (n : ℕ) (d : Record) → AreLists s k
    → k.sources.count ≤ n → is_source d ≡ false
    → Keeps n s s k (record {
      weave = k.weave;
      sources = k.sources;
      edges = k.edges;
      last = d;
    }) d
keeps_gate {s} {k} n d i l e = record {
  advances = rw (source_none d e) (advances_none {p = d} i);
  most = l;
  weave_is = refl;
  last_is = refl;
}

-- one source too many was given,
pub keeps_damaged : {s : RigState} {k : Comparison} (n : ℕ) → AreLists s k → k.sources.count ≤ n
    → (IsTrue s.device.told → ⊥) → StopsLists n k.edges.count s s k (Damaged 0)
keeps_damaged {s} {k} n i l u =
    let a = list_room n k.sources i.sound i.sources i.sources_filled l in
    let b = list_room k.edges.count k.edges i.sound i.edges i.edges_filled (omega arith) in
    stops_wider (omega arith) (omega arith) (omega arith)
    (stops_damaged {l = 2 * k.sources.blocks + 2 * k.edges.blocks} {u = 2} (omega arith) (omega arith)
    (runs_none s (lists_blocks s k) (lists_account k) i.sound i.holds) u)

-- or a source's definition was.
pub keeps_by : {s t : RigState} {k : Comparison} {a : Writer} (n : ℕ) (d x : Record)
    (r : Result (Unit {0}) EmFault) → AreLists s k → k.sources.count < n → is_source d ≡ true
    → x ≡ plain_def d → Goes (writer_blocks s k.sources) s t → OnOk r (Appends s t k.sources a x)
    → AppendCosts s t k.sources a r
    → Costs (one_more s k.sources) (2 * one_more s k.sources) (min k.sources.blocks 1)
    (writer_account k.sources) (writer_account a) s t r
    → IfErr r (Cause s t)
    → KeepsDef n s t k (record {
      weave = k.weave;
      sources = a;
      edges = k.edges;
      last = d;
    }) d r
keeps_by {k = k} n d x (Ok y) i l e w g p c h f = record {
  advances = rw (source_one d e, sym w) (advances_source {p = d} i (writes_item y g p c h));
  most = let m = p.count_is in omega arith;
  weave_is = refl;
  last_is = refl;
}
keeps_by n d x (Err fault) i l e w g p c h f = stops_source n i l g h f

-- The lists are lists after calls on them.
pub lists_more : {s t : RigState} {k j : Comparison} {xs : List Side} {ys zs : List Record}
    → AreLists s k → Advances s t k j xs ys zs → j.sources.count < 2 ^ 44
    → j.edges.count < 2 ^ 44 → AreLists t j
lists_more {s} {t} {k} {j} i h a b =
    let told = h.runs.session.touches.told in
    record {
      sound = h.runs.session.sound;
      free = rw (h.runs.frames.free) (i.free);
      weave = h.wove.is;
      sources = h.sources.is;
      edges = h.edges.is;
      holds = λ z. h.runs.session.holds (sym told ∙ z);
      sources_filled = omega (arith, h.sources.filled_is, h.sources.count_is, i.sources_filled);
      edges_filled = omega (arith, h.edges.filled_is, h.edges.count_is, i.edges_filled);
      sources_few = a;
      edges_few = b;
    }

-- the lists with another weave
abbrev with_weave : Comparison → Weave → Comparison
with_weave k v = record {
  weave = v;
  sources = k.sources;
  edges = k.edges;
  last = k.last;
}

pub lists_woven : {s t : RigState} {k : Comparison} {v : Weave} (xs : List Side) → AreLists s k
    → Weaves s t k.weave v xs → AreLists t (with_weave k v)
lists_woven {k = k} xs i h =
    lists_more i (advances_weave {p = k.last} xs i h) i.sources_few i.edges_few

filter_first : (d : Record) (ds : List Record) → is_source d ≡ true
    → length (filter is_source (d ∷ ds)) ≡ length (filter is_source ds) + 1
filter_first d ds e = rw e (omega arith)

-- what was given, by its side
pub given_side : {s t : RigState} {w v : Weave} {o : Option Side} {x : Side} (d : Side)
    → o ≡ Some x → x ≡ d → Weaves s t w v (option_to_list o) → Weaves s t w v (d ∷ [])
given_side d e f h = rw (e, f) at h

pub given_none : {s t : RigState} {w v : Weave} {o : Option Side} → o ≡ None
    → Weaves s t w v (option_to_list o) → Weaves s t w v []
given_none e h = rw e at h

-- There is room for the source that was given, if the device tells.
pub room_left : {n : ℕ} {s t : RigState} {k : Comparison} {v : Weave} (d : Record)
    → CanStep n s k → Weaves s t k.weave v (Left d ∷ []) → IsTrue t.device.told
    → is_source d ≡ true → k.sources.count < n
room_left {t = t} {v = v} d i h y b =
    let z = sym h.runs.session.touches.told ∙ y in
    let e = wove_left (Left d ∷ []) h.wove z in
    let f = ap (λ (ls : List Record). length (filter is_source ls)) e
    ∙ filter_first d (left_items t v) b in
    let m = i.left z in
    omega (arith, f, m)

-- A definition was given and kept,
pub step_left : {n : ℕ} {s t u : RigState} {k j : Comparison} {v : Weave} (d : Record)
    → CanStep n s k → Weaves s t k.weave v (Left d ∷ []) → Keeps n t u (with_weave k v) j d
    → StepsOne n s u k j
step_left {n} {s} {t} {u} {k} {j} {v} d i h g =
    let a = advances_then (advances_weave {p = k.last} (Left d ∷ []) i.are h)
    g.advances in
    let w = wove_count (Left d ∷ []) a.wove in
    record {
      compares = record {
        sides = Left d ∷ [];
        advances = a;
        most = g.most;
        follows = λ z c before x.
            let m : ComparesSome c before (Left d ∷ weave_items u j.weave) k.last =
            subst (λ (ds : List Side). ComparesSome c before ds k.last) (a.wove.items z) x in
            rw (g.last_is)
            (compares_left c before (weave_items u j.weave) d k.last m);
      };
      fewer = omega (arith, w);
    }

-- or it wasn't.
pub stop_left : {n : ℕ} {s t u : RigState} {k : Comparison} {v : Weave} {e : EmFault} (d : Record)
    → CanStep n s k → Weaves s t k.weave v (Left d ∷ [])
    → StopsLists n k.edges.count t u (with_weave k v) e → StopsLists n (edges_due k) s u k e
stop_left {n} {s} {t} {u} {k} {v} d i h x =
    stops_lists n (edges_due k) n k.edges.count (omega arith) (omega arith) i.are.sound
    (lists_woven (Left d ∷ []) i.are h)
    (advances_weave {p = k.last} (Left d ∷ []) i.are h) i.most (omega arith) x

-- An edge was given, and written or not.
pub step_right : {n : ℕ} {s t : RigState} {k : Comparison} {v : Weave} (u : RigState)
    (j : Comparison) (e : Record) (r : Result (Unit {0}) AigStop) → CanStep n s k → Weaves s t k.weave v (Right e ∷ [])
    → MeetsEdge t u (with_weave k v) j e r → StepsTo n s u k j r
step_right {n} {s} {t} {k} {v} u j e (Ok y) i h g =
    let a = advances_then (advances_weave {p = k.last} (Right e ∷ []) i.are h)
    g.advances in
    let w = wove_count (Right e ∷ []) a.wove in
    record {
      compares = record {
        sides = Right e ∷ [];
        advances = a;
        most = let l = i.most in let b = g.advances.sources.count_is in omega (arith, l, b);
        follows = λ z c before x.
            let m : ComparesSome c before (Right e ∷ weave_items u j.weave) k.last =
            subst (λ (ds : List Side). ComparesSome c before ds k.last) (a.wove.items z) x in
            rw (g.last_is)
            (compares_right c before (weave_items u j.weave) e k.last m g.met);
      };
      fewer = omega (arith, w);
    }
step_right {n} {s} {t} {k} {v} u j e (Err (stop.Fault fault place)) i h g =
    let a = advances_weave {p = k.last} (Right e ∷ []) i.are h in
    record {
      sides = Right e ∷ [];
      ys = [];
      zs = [];
      advances = rw (g.rig, g.same) a;
      most = rw (g.same) (i.most);
      edges_most = rw (g.same) (omega arith);
      kind_is = g.kind_is;
      found = λ z c before twice x.
          let m : ComparesSome c before (Right e ∷ weave_items t v) k.last =
          subst (λ (ds : List Side). ComparesSome c before ds k.last) (a.wove.items z) x in
          rw (g.kind_is, g.place_is)
          (compares_unmet c before (weave_items t v) e k.last twice m g.unmet);
    }
step_right u j e (Err stop.Read) i h g = g
step_right {n} {s} {t} {k} {v} u j e (Err (stop.Em fault)) i h g =
    let a = advances_weave {p = k.last} (Right e ∷ []) i.are h in
    let w = a.wove.right_count in
    stops_lists n (edges_due k) k.sources.count (k.edges.count + 1) i.most (omega (arith, w))
    i.are.sound (lists_woven (Right e ∷ []) i.are h) a (omega arith) (omega arith) g

-- None was left.
pub step_none : {n : ℕ} {s t : RigState} {k : Comparison} {v : Weave} → CanStep n s k
    → Weaves s t k.weave v [] → AtBothEnds s t k.weave v → StepsOne n s t k (with_weave k v)
step_none {n} {s} {t} {k} {v} i h e =
    let a = advances_weave {p = k.last} [] i.are h in
    let w = wove_count [] a.wove in
    let c = e.count in
    record {
      compares = record {
        sides = [];
        advances = a;
        most = i.most;
        follows = λ z c before x.
            rw (append-nil before) (subst (λ (ds : List Side). ComparesSome c before ds k.last)
            (a.wove.items z) x);
      };
      fewer = omega (arith, w, c);
    }
