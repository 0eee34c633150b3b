-- What both calls did, beside the frames that were lent to them.
use Rattle.std.proofs.Common.{◌≡◌, ℕ, ◌-◌, ◌<◌, sym, ap, subst, arith, Result, Ok, Err}
use Rattle.em_frames.specs.Pool.{given, lent}
use Rattle.em_space.specs.Rig.{RigState, Sound}
use Rattle.em_space.specs.declared.fault.EmFault.{EmFault}
use Rattle.em_space.proofs.Framed.{in_use_given, in_use_lent, runs_framed, stops_framed}
use Rattle.em_node.specs.declared.entry.Entry.{Entry}
use Rattle.em_tree_blocks.specs.Reading.{IsNodeAt}
use Rattle.em_balance.specs.Node.{CanGrowUp, CanSplit}
use Rattle.em_balance.specs.Effects.{GrowsInto, HalvesNode, SplitsInto}

pub node_lent : {s : RigState} {l k : ℕ} → IsNodeAt s l k
    → IsNodeAt (record s { pool = lent s.pool }) l k
node_lent i = record { in_use = in_use_lent i.in_use; block = i.block; level = i.level }

pub node_given : {s : RigState} {l k : ℕ} → IsNodeAt s l k
    → IsNodeAt (record s { pool = given s.pool }) l k
node_given i = record { in_use = in_use_given i.in_use; block = i.block; level = i.level }

-- A node that can be split, and a root that can be grown over, after a frame was lent.
pub split_lent : {s a : RigState} {node : ℕ} → a ≡ record s { pool = lent s.pool }
    → CanSplit s node → CanSplit a node
split_lent {s} {a} {node} e i =
    subst (λ (w : RigState). CanSplit w node) (sym e)
    (record { in_use = in_use_lent i.in_use; told = i.told })

pub grow_lent : {s a : RigState} {root : ℕ} {upper : Entry}
    → a ≡ record s { pool = lent s.pool } → CanGrowUp s root upper → CanGrowUp a root upper
grow_lent {s} {a} {root} {upper} e i =
    subst (λ (w : RigState). CanGrowUp w root upper) (sym e) (record {
      in_use = in_use_lent i.in_use;
      limited = i.limited;
      told = λ z. let o = i.told z in record {
        node = node_lent o.node;
        some = o.some;
        not_last = o.not_last;
        below = o.below;
        linked = o.linked;
        child = node_lent o.child;
        other = o.other;
      };
    })

halves_framed : {s t : RigState} {node : ℕ} {upper : Entry}
    → HalvesNode (record s { pool = lent s.pool }) t node upper
    → HalvesNode s (record t { pool = given t.pool }) node upper
halves_framed h = record {
  unused = λ u. h.unused (in_use_lent u);
  lower_is = node_given h.lower_is;
  kept = h.kept;
  upper_is = node_given h.upper_is;
  moved = h.moved;
  low_is = h.low_is;
}

split_by : (s t : RigState) (node : ℕ) (result : Result Entry EmFault) → Sound s
    → 0 < s.pool.free → SplitsInto (record s { pool = lent s.pool }) t node result
    → SplitsInto s (record t { pool = given t.pool }) node result
split_by s t node (Ok upper) sound free x = record {
  halves = λ z. halves_framed (x.halves z);
  entry = x.entry;
  runs = runs_framed sound free x.runs;
}
split_by s t node (Err fault) sound free x = record {
  stops = stops_framed sound free x.stops;
  damaged = x.damaged;
}

grown_by : (s t : RigState) (root : ℕ) (upper : Entry) (result : Result ℕ EmFault) → Sound s
    → 0 < s.pool.free → GrowsInto (record s { pool = lent s.pool }) t root upper result
    → GrowsInto s (record t { pool = given t.pool }) root upper result
grown_by s t root upper (Ok new) sound free x = record {
  grows = λ z. let g = x.grows z in record {
    unused = λ u. g.unused (in_use_lent u);
    is = g.is;
    node = λ l. node_given (g.node l);
  };
  in_use = in_use_given x.in_use;
  runs = runs_framed sound free x.runs;
}
grown_by s t root upper (Err fault) sound free x = record {
  stops = stops_framed sound free x.stops;
  damaged = x.damaged;
}

pub splits_framed : {s a u : RigState} (t : RigState) (node : ℕ) (result : Result Entry EmFault)
    → Sound s → 0 < s.pool.free → a ≡ record s { pool = lent s.pool }
    → SplitsInto a t node result → u ≡ record t { pool = given t.pool }
    → SplitsInto s u node result
splits_framed {s} {a} {u} t node result sound free e x f =
    subst (λ (w : RigState). SplitsInto s w node result) (sym f)
    (split_by s t node result sound free (subst (λ (w : RigState). SplitsInto w t node result) e x))

-- of two frames, one in the other
pub splits_framed_twice : {s a b v w : RigState} (t : RigState) (node : ℕ)
    (result : Result Entry EmFault) → Sound s → 1 < s.pool.free → Sound a
    → a ≡ record s { pool = lent s.pool } → b ≡ record a { pool = lent a.pool }
    → SplitsInto b t node result → v ≡ record t { pool = given t.pool }
    → w ≡ record v { pool = given v.pool } → SplitsInto s w node result
splits_framed_twice {s} {a} {b} {v} {w} t node result sound free sound_a e f x given_b given_a =
    let left : a.pool.free ≡ s.pool.free - 1 = ap (λ (r : RigState). r.pool.free) e in
    splits_framed v node result sound (omega arith) e
    (splits_framed t node result sound_a (omega arith) f x given_b) given_a

pub grows_framed : {s a u : RigState} (t : RigState) (root : ℕ) (upper : Entry)
    (result : Result ℕ EmFault) → Sound s → 0 < s.pool.free
    → a ≡ record s { pool = lent s.pool } → GrowsInto a t root upper result
    → u ≡ record t { pool = given t.pool } → GrowsInto s u root upper result
grows_framed {s} {a} {u} t root upper result sound free e x f =
    subst (λ (w : RigState). GrowsInto s w root upper result) (sym f)
    (grown_by s t root upper result sound free
    (subst (λ (w : RigState). GrowsInto w t root upper result) e x))
