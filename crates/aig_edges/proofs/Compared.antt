-- Of sorted definitions and edges side by side each edge stands after the definition of its variable.
use Rattle.std.proofs.Common.{inl, inr, ◌≡◌, cond, leb, List, [], ◌∷◌, ◌++◌, map, filter, append_assoc, append-nil, refl, subst, sym, ap, ◌∙◌}
use Rattle.std.proofs.lemmas.Bool.{cases_Bool, leb-true, le-leb}
use Rattle.em_record.specs.declared.record.Record.{Record}
use Rattle.em_weave.specs.Woven.{woven, lefts, rights, NoneBefore, AscendsByA}
use Rattle.em_weave.specs.declared.side.Side.{Side}
use Rattle.em_weave.specs.declared.side.Side.TheVariants.{Left, Right}
use Rattle.em_weave.proofs.Laws.{ascends_by_a, none_before_less, lefts_woven, rights_woven}
use Rattle.em_record.proofs.Order.{order_ascends}
use Rattle.aig_defs.specs.Circuit.{Circuit}
use Rattle.aig_defs.specs.Faults.{IsDefined, IsFaultOf, IsTwice, Nowhere}
use Rattle.aig_defs.specs.Graph.{edges_in_text, graph_edges, graph_sources}
use Rattle.aig_defs.specs.Sorted.{sorted_defs, constant_def, last_to, AllMet, plain_def, is_source, def_to}
use Rattle.aig_defs.specs.declared.fault.AigKind.TheVariants.{Undefined}
use Rattle.aig_defs.proofs.Beside.{undefined_none, undefined_found}
use Rattle.aig_defs.proofs.Sorted.{sorted_climbs, sorted_sources}
use Rattle.aig_edges.specs.Compared.{paired, last_left, AllPairsMet, ComparesSome}

-- each record with the last one of the left up to it
abbrev with_last : Record → List Record → List Record → List (Record × Record)
with_last before ls rs = map (λ (r : Record). (last_to before r.a ls, r)) rs

none_left : (before : Record) (rs : List Record)
    → paired before (map (λ r. Right r) rs) ≡ with_last before [] rs
none_left before [] = refl
none_left before (r ∷ rs) = ap (λ ps. (before, r) ∷ ps) (none_left before rs)

-- a left record that is up to all right ones comes before them
past_left : (before l : Record) (ls rs : List Record) → NoneBefore l.a rs
    → with_last before (l ∷ ls) rs ≡ with_last l ls rs
past_left before l ls [] h = refl
past_left before l ls (r ∷ rs) h =
    ap (λ b. (cond b (last_to l r.a ls) before, r) ∷ with_last before (l ∷ ls) rs)
    (le-leb l.a r.a h.0)
    ∙ ap (λ ps. (last_to l r.a ls, r) ∷ ps) (past_left before l ls rs h.1)

paired_left : (before l : Record) (ls rs : List Record) → AscendsByA rs
    → ((ts : List Record) → AscendsByA ts → paired l (woven ls ts) ≡ with_last l ls ts)
    → paired before (woven (l ∷ ls) rs) ≡ with_last before (l ∷ ls) rs
paired_left before l ls [] a f = f [] tt
paired_left before l ls (r ∷ rs) a f = elim (cases_Bool (leb l.a r.a)) [
  | inl t ↦
      let low = leb-true l.a r.a t in
      let first = woven ls (r ∷ rs) in
      ap (λ b. paired before (cond b (Left l ∷ first) (Right r ∷ woven (l ∷ ls) rs))) t
      ∙ f (r ∷ rs) a
      ∙ sym (past_left before l ls (r ∷ rs) (low, none_before_less l.a r.a rs low a.0))
  | inr n ↦
      let first = woven ls (r ∷ rs) in
      ap (λ b. paired before (cond b (Left l ∷ first) (Right r ∷ woven (l ∷ ls) rs))) n
      ∙ ap (λ ps. (before, r) ∷ ps) (paired_left before l ls rs a.1 f)
      ∙ sym (ap (λ b. (cond b (last_to l r.a ls) before, r) ∷ with_last before (l ∷ ls) rs) n)
]

-- Each record of an ascending right list stands after the last left one whose word a is at most its
-- own.
pub paired_is : (before : Record) (ls rs : List Record) → AscendsByA rs
    → paired before (woven ls rs) ≡ with_last before ls rs
paired_is before [] rs a = none_left before rs
paired_is before (l ∷ ls) rs a =
    paired_left before l ls rs a (λ ts h. paired_is l ls ts h)

-- So it is with the definitions and the edges of a circuit.
pub circuit_paired : (c : Circuit)
    → paired constant_def (woven (sorted_defs c) (graph_edges c))
    ≡ with_last constant_def (sorted_defs c) (graph_edges c)
circuit_paired c = paired_is constant_def (sorted_defs c) (graph_edges c)
    (ascends_by_a (graph_edges c) (order_ascends (edges_in_text c)))

-- all edges are met if all pairs are
pub met_pairs : (defs edges : List Record)
    → AllPairsMet (with_last constant_def defs edges) → AllMet defs edges
met_pairs defs [] h = tt
met_pairs defs (e ∷ edges) h = (h.0, met_pairs defs edges h.1)

-- pairs of some sides and then others
pub paired_append : (before : Record) (xs ys : List Side)
    → paired before (xs ++ ys) ≡ paired before xs ++ paired (last_left before xs) ys
paired_append before [] ys = refl
paired_append before (Left l ∷ xs) ys = paired_append l xs ys
paired_append before (Right r ∷ xs) ys = ap (λ ps. (before, r) ∷ ps) (paired_append before xs ys)

-- one definition more
pub last_more : (before l : Record) (xs : List Side) → last_left before (xs ++ Left l ∷ []) ≡ l
last_more before l [] = refl
last_more before l (Left k ∷ xs) = last_more k l xs
last_more before l (Right r ∷ xs) = last_more before l xs

last_same : (before r : Record) (xs : List Side)
    → last_left before (xs ++ Right r ∷ []) ≡ last_left before xs
last_same before r [] = refl
last_same before r (Left k ∷ xs) = last_same k r xs
last_same before r (Right q ∷ xs) = last_same before r xs

met_append : (ps qs : List (Record × Record)) → AllPairsMet ps → AllPairsMet qs
    → AllPairsMet (ps ++ qs)
met_append [] qs h k = k
met_append ((d, e) ∷ ps) qs h k = (h.0, met_append ps qs h.1 k)

met_first : (ps qs : List (Record × Record)) → AllPairsMet (ps ++ qs) → AllPairsMet ps
met_first [] qs h = tt
met_first ((d, e) ∷ ps) qs h = (h.0, met_first ps qs h.1)

-- Nothing was compared at first.
pub compares_none : (c : Circuit)
    → ComparesSome c [] (woven (sorted_defs c) (graph_edges c)) constant_def
compares_none c = record { whole = refl; met = tt; last_is = refl }

-- The next is a definition,
pub compares_left : (c : Circuit) (before after : List Side) (l last : Record)
    → ComparesSome c before (Left l ∷ after) last → ComparesSome c (before ++ Left l ∷ []) after l
compares_left c before after l last h =
    let same = paired_append constant_def before (Left l ∷ []) ∙ append-nil _ in
    record {
      whole = h.whole ∙ sym (append_assoc before (Left l ∷ []) after);
      met = subst AllPairsMet (sym same) h.met;
      last_is = sym (last_more constant_def l before);
    }

-- or an edge that is met,
pub compares_right : (c : Circuit) (before after : List Side) (e last : Record)
    → ComparesSome c before (Right e ∷ after) last → last.a ≡ e.a
    → ComparesSome c (before ++ Right e ∷ []) after last
compares_right c before after e last h m =
    let own = last_left constant_def before in
    let same = paired_append constant_def before (Right e ∷ []) in
    let met = ap (λ (r : Record). r.a) (sym h.last_is) ∙ m in
    record {
      whole = h.whole ∙ sym (append_assoc before (Right e ∷ []) after);
      met = subst AllPairsMet (sym same) (met_append (paired constant_def before) ((own, e) ∷ [])
          h.met (met, tt));
      last_is = h.last_is ∙ sym (last_same constant_def e before);
    }

-- the edges of pairs
pair_edges : (before : Record) (xs : List Side)
    → map (λ (p : Record × Record). p.1) (paired before xs) ≡ rights xs
pair_edges before [] = refl
pair_edges before (Left l ∷ xs) = pair_edges l xs
pair_edges before (Right r ∷ xs) = ap (λ rs. r ∷ rs) (pair_edges before xs)

-- A front of some edges whose pairs are these, and the edge after it.
record FrontOf (defs edges : List Record) (ps : List (Record × Record)) (d e : Record) : Type 0 where
  front : List Record
  rest : List Record
  whole : edges ≡ front ++ e ∷ rest
  met : AllPairsMet ps → AllMet defs front
  def_is : d ≡ def_to e.a defs

-- pairs that are a front of those of some edges are those of a front of the edges
front_pairs : (defs edges : List Record) (ps : List (Record × Record)) (d e : Record)
    (qs : List (Record × Record)) → with_last constant_def defs edges ≡ ps ++ (d, e) ∷ qs
    → FrontOf defs edges ps d e
front_pairs defs [] [] d e qs h = cc
front_pairs defs [] (p ∷ ps) d e qs h = cc
front_pairs defs (x ∷ edges) [] d e qs h =
    let first : ◌≡◌ {A = Record × Record} (def_to x.a defs, x) (d, e) = cc in
    let own = ap (λ (p : Record × Record). p.1) first in
    record {
      front = [];
      rest = edges;
      whole = ap (λ r. r ∷ edges) own;
      met = λ m. tt;
      def_is = sym (ap (λ (p : Record × Record). p.0) first) ∙ ap (λ r. def_to r.a defs) own;
    }
front_pairs defs (x ∷ edges) (p ∷ ps) d e qs h =
    let first : ◌≡◌ {A = Record × Record} (def_to x.a defs, x) p = cc in
    let others : with_last constant_def defs edges ≡ ps ++ (d, e) ∷ qs = cc in
    let f = front_pairs defs edges ps d e qs others in
    record {
      front = x ∷ f.front;
      rest = f.rest;
      whole = ap (λ rs. x ∷ rs) f.whole;
      met = λ m.
          let here = subst (λ (z : Record × Record). AllPairsMet (z ∷ ps)) (sym first) m in
          (here.0, f.met here.1);
      def_is = f.def_is;
    }

-- or one that isn't met: then its variable is the least that is used and not defined.
pub compares_unmet : (c : Circuit) (before after : List Side) (e last : Record)
    → Nowhere (IsTwice c) → ComparesSome c before (Right e ∷ after) last
    → (last.a ≡ e.a → ⊥) → IsFaultOf c Undefined e.a
compares_unmet c before after e last n h unmet =
    let own = last_left constant_def before in
    let whole = sym (circuit_paired c) ∙ ap (paired constant_def) h.whole
    ∙ paired_append constant_def before (Right e ∷ after) in
    let f = front_pairs (sorted_defs c) (graph_edges c) (paired constant_def before) own e
    (paired own after) whole in (
      n,
      undefined_found c f.front e f.rest (sorted_climbs c n) f.whole (f.met h.met) (λ m.
          unmet (ap (λ (r : Record). r.a) (h.last_is ∙ f.def_is) ∙ m)),
    )

-- At the end all edges were met, so that all that is used is defined.
pub compares_all : (c : Circuit) (before : List Side) (last : Record)
    → Nowhere (IsTwice c) → ComparesSome c before [] last → IsDefined c
compares_all c before last n h =
    let all = h.whole ∙ append-nil before in
    let pairs = sym (circuit_paired c) ∙ ap (paired constant_def) all in
    let met = met_pairs (sorted_defs c) (graph_edges c) (subst AllPairsMet (sym pairs) h.met) in
    record { twice = n; undefined = undefined_none c met }

-- The definitions that were compared have the sources, and the edges are those of the graph.
pub compared_sources : (c : Circuit) (before : List Side) → Nowhere (IsTwice c)
    → woven (sorted_defs c) (graph_edges c) ≡ before ++ []
    → map plain_def (filter is_source (lefts before)) ≡ graph_sources c
compared_sources c before n e =
    ap (λ ds. map plain_def (filter is_source (lefts ds))) (sym (e ∙ append-nil before))
    ∙ ap (λ rs. map plain_def (filter is_source rs)) (lefts_woven (sorted_defs c) (graph_edges c))
    ∙ sorted_sources c n

pub compared_edges : (c : Circuit) (before : List Side)
    → woven (sorted_defs c) (graph_edges c) ≡ before ++ [] → rights before ≡ graph_edges c
compared_edges c before e =
    ap rights (sym (e ∙ append-nil before)) ∙ rights_woven (sorted_defs c) (graph_edges c)
