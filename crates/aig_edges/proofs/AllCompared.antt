-- All definitions and edges are compared.
use Rattle.std.proofs.Common.{inl, inr, ◌≡◌, ℕ, ◌+◌, ◌<◌, ◌≤◌, List, [], ◌∷◌, ◌++◌, length, filter, map, Err, refl, ap, sym, ◌∙◌, arith, append_assoc}
use Rattle.std.proofs.lemmas.List.{append-nil, length-append, map-append}
use Rattle.std.proofs.lemmas.List.Elements.{filter-append}
use Rattle.std.proofs.lemmas.Bool.{cases_Bool}
use Rattle.em_record.specs.declared.record.Record.{Record}
use Rattle.em_space.specs.Rig.{RigState}
use Rattle.em_space.specs.declared.fault.EmFault.{EmFault}
use Rattle.em_weave.specs.State.{left_items}
use Rattle.em_weave.specs.Woven.{lefts, rights}
use Rattle.em_weave.specs.declared.side.Side.{Side}
use Rattle.em_weave.proofs.Laws.{lefts_append, rights_append}
use Rattle.em_weave.proofs.Weavings.{wove_left}
use Rattle.aig_defs.specs.Sorted.{is_source, plain_def}
use Rattle.aig_defs.specs.declared.fault.AigKind.{AigKind}
use Rattle.aig_text.specs.declared.stop.AigStop.{AigStop}
use Rattle.aig_text.specs.declared.stop.AigStop.TheVariants as stop
use Rattle.aig_edges.specs.Comparison.{AreLists, CanStep, AllTo, ComparesFor, ComparesOn, FindsUnmet, HasFramesOf, StepsOne, StepsTo, StopsLists, edges_due, sources_in}
use Rattle.aig_edges.specs.declared.comparing.Comparison.{Comparison}
use Rattle.aig_edges.proofs.Advances.{advances_none, advances_then, stops_lists}
use Rattle.aig_edges.proofs.Stepped.{lists_more}

-- how many sources there are among definitions
pub sources_length : (ds : List Record) → length (sources_in ds) ≡ length (filter is_source ds)
sources_length ds = mapped (filter is_source ds)
  where
    mapped : (rs : List Record) → length (map plain_def rs) ≡ length rs
    mapped [] = refl
    mapped (r ∷ rs) = omega (arith, mapped rs)

sources_most : (ds : List Record) → length (filter is_source ds) ≤ length ds
sources_most [] = omega arith
sources_most (d ∷ ds) =
    let h = sources_most ds in
    elim (cases_Bool (is_source d)) [
      | inl t ↦ rw t (omega (arith, h))
      | inr f ↦ rw f (omega (arith, h))
    ]

-- the sources among some definitions and more
sources_more : (xs ys : List Side)
    → sources_in (lefts xs) ++ sources_in (lefts ys) ≡ sources_in (lefts (xs ++ ys))
sources_more xs ys =
    sym (ap (λ (ds : List Record). map plain_def (filter is_source ds)) (lefts_append xs ys)
    ∙ ap (map plain_def) (filter-append is_source (lefts xs) (lefts ys))
    ∙ map-append plain_def (filter is_source (lefts xs)) (filter is_source (lefts ys)))

sources_split : (ds es : List Record)
    → length (filter is_source (ds ++ es))
    ≡ length (filter is_source ds) + length (filter is_source es)
sources_split ds es =
    ap (λ (rs : List Record). length rs) (filter-append is_source ds es)
    ∙ length-append (filter is_source ds) (filter is_source es)

pub step_frames : {s : RigState} {k : Comparison} → AreLists s k → HasFramesOf s k
step_frames i = record {
  weave = i.weave.frames;
  sources = i.sources.frame;
  edges = i.edges.frame;
}

-- Nothing was compared yet.
pub on_none : {n : ℕ} {s : RigState} {k : Comparison} → CanStep n s k → ComparesOn n s s k k
on_none {n} {s} {k} i = record {
  sides = [];
  advances = advances_none {p = k.last} i.are;
  most = i.most;
  follows = λ z c before x. rw (append-nil before) x;
}

-- the edges in all
due_same : {n : ℕ} {s t : RigState} {k j : Comparison} → ComparesOn n s t k j
    → edges_due j ≡ edges_due k
due_same h =
    let e = h.advances.edges.count_is in
    let r = h.advances.wove.right_count in
    omega (arith, e, r)

-- There is a next step,
pub can_on : {n : ℕ} {s t : RigState} {k j : Comparison} → CanStep n s k → ComparesOn n s t k j
    → CanStep n t j
can_on {n} {s} {t} {k} {j} i h =
    let a = h.advances in
    let due = due_same h in
    let l = a.wove.left_count in
    let c = a.sources.count_is in
    let e = sources_length (lefts h.sides) in
    let m = sources_most (lefts h.sides) in
    let few = i.defs_few in
    let most = i.edges_few in
    record {
      are = lists_more i.are a (omega (arith, l, c, e, m, few)) (omega (arith, due, most));
      most = h.most;
      defs_few = omega (arith, l, c, e, m, few);
      edges_few = omega (arith, due, most);
      left = λ y.
          let z = sym a.runs.session.touches.told ∙ y in
          let w = ap (λ (ls : List Record). length (filter is_source ls)) (wove_left h.sides a.wove z)
          ∙ sources_split (lefts h.sides) (left_items t j.weave) in
          let x = i.left z in
          omega (arith, w, x, c, e);
    }

-- one step more,
pub on_then : {n : ℕ} {s t u : RigState} {k j i : Comparison} → ComparesOn n s t k j
    → ComparesOn n t u j i → ComparesOn n s u k i
on_then {n} {s} {t} {u} {k} {j} {i} h g =
    let told = h.advances.runs.session.touches.told in
    record {
      sides = h.sides ++ g.sides;
      advances =
          let a = advances_then h.advances g.advances in
          rw (sources_more h.sides g.sides, sym (rights_append h.sides g.sides)) at a;
      most = g.most;
      follows = λ z c before x.
          rw (append_assoc before h.sides g.sides) at
          (g.follows (told ∙ z) c (before ++ h.sides) (h.follows z c before x));
    }

-- an edge that isn't met,
pub on_unmet : {n place : ℕ} {s t u : RigState} {k j i : Comparison} {fault : AigKind}
    → ComparesOn n s t k j → FindsUnmet n t u j i fault place → FindsUnmet n s u k i fault place
on_unmet h g =
    let told = h.advances.runs.session.touches.told in
    let due = due_same h in
    let most = g.edges_most in
    record {
      sides = h.sides ++ g.sides;
      ys = sources_in (lefts h.sides) ++ g.ys;
      zs = rights h.sides ++ g.zs;
      advances = advances_then h.advances g.advances;
      most = g.most;
      edges_most = omega (arith, due, most);
      kind_is = g.kind_is;
      found = λ z c before n x. g.found (told ∙ z) c (before ++ h.sides) n (h.follows z c before x);
    }

-- and a call that gave up.
pub on_stops : {n : ℕ} {s t u : RigState} {k j : Comparison} {e : EmFault} → CanStep n s k
    → ComparesOn n s t k j → StopsLists n (edges_due j) t u j e
    → StopsLists n (edges_due k) s u k e
on_stops {n} {s} {t} {u} {k} {j} i h x =
    let due = due_same h in
    stops_lists n (edges_due k) n (edges_due j) (omega arith) (omega (arith, due)) i.are.sound
    (can_on i h).are h.advances h.most (omega arith) x

-- In each step of a loop one more was compared, if there was one.
pub for_more : {i total n : ℕ} {s t u : RigState} {k j l : Comparison} → i < total
    → ComparesFor i total n s t k j → StepsOne n t u j l → ComparesFor (i + 1) total n s u k l
for_more lt h g =
    let f = g.fewer in
    let a = h.left in
    record { compares = on_then h.compares g.compares; left = omega (arith, f, a, lt) }

-- A step stopped after others.
pub stopped_by : {n : ℕ} {s t : RigState} {k j : Comparison} (u : RigState) (i : Comparison)
    (e : AigStop) → CanStep n s k → ComparesOn n s t k j → StepsTo n t u j i (Err e)
    → AllTo n s u k i (Err e)
stopped_by u i (stop.Fault fault place) c h g = on_unmet h g
stopped_by u i stop.Read c h g = g
stopped_by u i (stop.Em fault) c h g = on_stops c h g
