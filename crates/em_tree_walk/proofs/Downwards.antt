-- The way of a key down, level by level.
use Rattle.std.proofs.Common.{◌≡◌, ℕ, suc, ◌+◌, ◌-◌, ◌<◌, ◌≤◌, List, length, refl, sym, ap, ◌∙◌, subst, arith, IsTrue, Result, Ok, Err, IsErrAnd}
use Rattle.em_record.specs.declared.record.Record.{Record}
use Rattle.em_frames.specs.Pool.{given, lent}
use Rattle.em_space.specs.Rig.{RigState, Sound}
use Rattle.em_space.specs.declared.fault.EmFault.{EmFault}
use Rattle.em_node.specs.declared.entry.Entry.{Entry}
use Rattle.em_node.specs.Node.{entries_of, place_of}
use Rattle.em_empty.proofs.Dealt.{place_within}
use Rattle.em_tree_blocks.specs.Paths.{child_at}
use Rattle.em_tree_blocks.specs.Reading.{entries_at}
use Rattle.em_tree_walk.specs.Reads.{ReadsOnly, ReadsPassing, StopsReading}
use Rattle.em_tree_walk.specs.Stands.{IsNodeOf, LeadsToTree, StandsAt, entries_in}
use Rattle.em_tree_walk.specs.Descents.{Descended, Descends, OnTheWay, down_to, from_root, levels_down}
use Rattle.em_tree_walk.specs.declared.descending.Descent.{Descent}
use Rattle.em_tree_walk.proofs.Readings.{reads_framed, reads_more, reads_nothing, reads_stop, reads_then, stops_framed, stops_more}
use Rattle.em_tree_walk.proofs.Standing.{child_below, child_stands, first_in_use, leads_after, leads_given}

-- One level down from a node that was read.
pub child_reached : {s t : RigState} {b : List Record} {node : ℕ} (l i : ℕ) → 0 < l
    → LeadsToTree s l node → ReadsPassing (IsNodeOf l s.pool.shape s.blocks) s t node b
    → i < length (entries_of b) → LeadsToTree t (l - 1) (child_at i (entries_of b))
child_reached {s} {t} {b} {node} l i some h r one =
    let es = entries_of b in
    let k = child_at i es in
    let below = child_below s.blocks es i one r.is.node.linked in
    let P : List Entry → Type 0 = λ fs. StandsAt s (l - 1) (child_at i fs) in
    let F : List Entry → Type 0 = λ fs. i < length fs in
    let stands : IsTrue s.device.told → StandsAt s (l - 1) k = λ z.
    let same : es ≡ entries_at s node = ap (λ (x : List Record). entries_of x) (r.loaded z) in
    subst P (sym same) (child_stands l i some (h.told z) (subst F same one)) in
    let here : LeadsToTree s (l - 1) k = record {
      in_use = record {
        told = λ z. (first_in_use (l - 1) (stands z)).told z;
        untold = λ u. below;
      };
      told = stands;
    } in
    leads_after r.reads here

down_read : {s t : RigState} {b : List Record} (key : Record) (l : ℕ) (from : Descent) → 0 < l
    → LeadsToTree s l from.node
    → ReadsPassing (IsNodeOf l s.pool.shape s.blocks) s t from.node b
    → Descended key s t 1 (l - 1) from (down_to key (entries_of b) from)
down_read {s} {t} {b} key l from some i r =
    let es = entries_of b in
    record {
      reads = r.reads;
      leads = child_reached l (place_of key es) some i r (place_within key es r.is.some);
      is = λ z. ap (λ (xs : List Entry). down_to key xs from)
          (ap (λ (x : List Record). entries_of x) (r.loaded z));
    }

pub down_one : {s t : RigState} {b : List Record} {d : Descent} (key : Record) (l : ℕ)
    (from : Descent) → 0 < l → LeadsToTree s l from.node
    → ReadsPassing (IsNodeOf l s.pool.shape s.blocks) s t from.node b
    → d ≡ down_to key (entries_of b) from → Descended key s t 1 (l - 1) from d
down_one {s} {t} {b} {d} key l from some i r e =
    subst (λ (x : Descent). Descended key s t 1 (l - 1) from x) (sym e) (down_read key l from some i r)

-- The way begins at a root,
pub way_begins : {s : RigState} (key : Record) (top to root : ℕ) → Sound s → to ≤ top
    → LeadsToTree s top root → OnTheWay key s s top to top (from_root root) (from_root root)
way_begins {s} key top to root h l i = record {
  reads = reads_more 0 (top - top) (omega arith) (reads_nothing h);
  above = l;
  below = omega arith;
  leads = i;
  way = λ z. refl;
}

one_less : (m n : ℕ) → n < m → m - n ≡ suc ((m - 1) - n)
one_less m n l = omega arith

-- goes on level by level,
pub way_on : {s t u : RigState} {key : Record} {top to l : ℕ} {from d e : Descent} → to < l
    → OnTheWay key s t top to l from d → Descended key t u 1 (l - 1) d e
    → OnTheWay key s u top to (l - 1) from e
way_on {s} {t} {u} {key} {top} {to} {l} {from} {d} {e} less w x =
    let n = (l - 1) - to in
    let below = w.below in
    record {
      reads = reads_more ((top - l) + 1) (top - (l - 1)) (omega arith)
          (reads_then (top - l) 1 w.reads x.reads);
      above = omega arith;
      below = omega arith;
      leads = x.leads;
      way = λ z.
          let y : IsTrue t.device.told = w.reads.goes.touches.told ∙ z in
          let P : List (List Record) → Type 0 = λ cs. e ≡ down_to key (entries_in cs d.node) d in
          let first : e ≡ down_to key (entries_in s.device.contents d.node) d =
          subst P w.reads.kept (x.is y) in
          ap (levels_down key n s.device.contents) first
          ∙ (ap (λ (m : ℕ). levels_down key m s.device.contents d) (sym (one_less l to less))
          ∙ w.way z);
    }

none_left : (m n : ℕ) → n ≤ m → m ≤ n → m - n ≡ 0
none_left m n l h = omega (arith, l, h)

same_level : (m n : ℕ) → n ≤ m → m ≤ n → m ≡ n
same_level m n l h = omega (arith, l, h)

-- and ends at the level that was wanted.
pub way_ends : {s t : RigState} {key : Record} {top to l : ℕ} {from d : Descent} → l ≤ to
    → OnTheWay key s t top to l from d → Descended key s t (top - to) to from d
way_ends {s} {t} {key} {top} {to} {l} {from} {d} done w =
    let e = same_level l to w.above done in
    let P : ℕ → Type 0 = λ n. ReadsOnly (top - n) s t in
    let Q : ℕ → Type 0 = λ n. LeadsToTree t n d.node in
    record {
      reads = subst P e w.reads;
      leads = subst Q e w.leads;
      is = λ z. ap (λ (m : ℕ). levels_down key m s.device.contents d)
          (sym (none_left l to w.above done)) ∙ w.way z;
    }

-- A level that couldn't be passed ends it.
pub way_stops : {s t u : RigState} {key : Record} {top to l : ℕ} {from d : Descent} {e : EmFault}
    → to < l → OnTheWay key s t top to l from d → StopsReading 1 t u e
    → StopsReading (top - to) s u e
way_stops {s} {t} {u} {key} {top} {to} {l} less w x =
    let below = w.below in
    stops_more ((top - l) + 1) (top - to) (omega arith) (reads_stop (top - l) 1 w.reads x)

-- a fault that is handed on
pub descends_of : (key : Record) (s t : RigState) (n level : ℕ) (from : Descent)
    (result : Result Descent EmFault) (e : EmFault) → IsErrAnd result (λ m. m ≡ e)
    → StopsReading n s t e → Descends key s t n level from result
descends_of key s t n level from (Ok d) e h x = absurd h
descends_of key s t n level from (Err m) e h x =
    subst (λ (f : EmFault). StopsReading n s t f) (sym h) x

-- A descent with a frame that was lent and given back.
pub descends_framed : {s a u : RigState} (key : Record) (n level : ℕ) (from : Descent)
    (t : RigState) (result : Result Descent EmFault) → Sound s → 0 < s.pool.free
    → a ≡ record s { pool = lent s.pool } → Descends key a t n level from result
    → u ≡ record t { pool = given t.pool } → Descends key s u n level from result
descends_framed {s} {a} {u} key n level from t result sound free e x f =
    subst (λ (w : RigState). Descends key s w n level from result) (sym f)
    (by_result result (subst (λ (w : RigState). Descends key w t n level from result) e x))
  where
    by_result : (y : Result Descent EmFault)
        → Descends key (record s { pool = lent s.pool }) t n level from y
        → Descends key s (record t { pool = given t.pool }) n level from y
    by_result (Ok d) k = record {
      reads = reads_framed sound free k.reads;
      leads = leads_given k.leads;
      is = k.is;
    }
    by_result (Err fault) k = stops_framed sound free k
