-- The entry of a node that a key's path takes.
use Rattle.std.proofs.Common.{◌≡◌, ℕ, ◌<◌, List, sym, ap, subst, Result, Ok, Err}
use Rattle.em_record.specs.declared.record.Record.{Record}
use Rattle.em_frames.specs.Pool.{given, lent}
use Rattle.em_space.specs.Rig.{RigState, Sound}
use Rattle.em_space.specs.declared.fault.EmFault.{EmFault}
use Rattle.em_node.specs.declared.entry.Entry.{Entry}
use Rattle.em_node.specs.Node.{entries_of, place_of}
use Rattle.em_empty.proofs.Dealt.{place_within}
use Rattle.em_tree_walk.specs.Reads.{ReadsPassing}
use Rattle.em_tree_walk.specs.Stands.{IsNodeOf, LeadsToTree}
use Rattle.em_tree_walk.specs.Turns.{ReadTurn, ReadsTurn, turn_in}
use Rattle.em_tree_walk.specs.declared.splitting.Turn.{Turn}
use Rattle.em_tree_walk.proofs.Downwards.{child_reached}
use Rattle.em_tree_walk.proofs.Readings.{reads_framed, stops_framed}
use Rattle.em_tree_walk.proofs.Standing.{leads_given}

-- It was read.
pub turn_read : {s t : RigState} {b : List Record} {x : Turn} (key : Record) (l node : ℕ) → 0 < l
    → LeadsToTree s l node → ReadsPassing (IsNodeOf l s.pool.shape s.blocks) s t node b
    → x ≡ turn_in (entries_of b) key → ReadTurn key s t l node x
turn_read {s} {t} {b} key l node some i r e =
    let es = entries_of b in
    subst (λ (y : Turn). ReadTurn key s t l node y) (sym e) (record {
      reads = r.reads;
      leads = child_reached l (place_of key es) some i r (place_within key es r.is.some);
      few = r.is.node.few;
      is = λ z. ap (λ (xs : List Entry). turn_in xs key)
          (ap (λ (v : List Record). entries_of v) (r.loaded z));
    })

-- The same with a frame that was lent and given back.
pub turn_framed : {s a u : RigState} (key : Record) (level node : ℕ) (t : RigState)
    (result : Result Turn EmFault) → Sound s → 0 < s.pool.free
    → a ≡ record s { pool = lent s.pool } → ReadsTurn key a t level node result
    → u ≡ record t { pool = given t.pool } → ReadsTurn key s u level node result
turn_framed {s} {a} {u} key level node t result sound free e x f =
    subst (λ (w : RigState). ReadsTurn key s w level node result) (sym f)
    (by_result result (subst (λ (w : RigState). ReadsTurn key w t level node result) e x))
  where
    by_result : (y : Result Turn EmFault)
        → ReadsTurn key (record s { pool = lent s.pool }) t level node y
        → ReadsTurn key s (record t { pool = given t.pool }) level node y
    by_result (Ok turn) k = record {
      reads = reads_framed sound free k.reads;
      leads = leads_given k.leads;
      few = k.few;
      is = k.is;
    }
    by_result (Err fault) k = stops_framed sound free k
