-- What emptying did, beside the frame that was lent for the node.
use Rattle.std.proofs.Common.{◌≡◌, ℕ, ◌+◌, ◌<◌, [], refl, sym, subst, IsTrue, Result, Ok, Err, IfOk, IfErr, Option}
use Rattle.em_record.specs.declared.record.Record.{Record}
use Rattle.em_frames.specs.Pool.{given, lent}
use Rattle.em_space.specs.Rig.{RigState, Sound, Touches, Goes, IfFull}
use Rattle.em_space.specs.declared.fault.EmFault.{EmFault}
use Rattle.em_space.proofs.Held.{apart_none, holds_kept, in_use_kept}
use Rattle.em_space.proofs.Steps.{goes_with_frame, touches_pool}
use Rattle.em_chain.specs.Chain.{chain_blocks}
use Rattle.em_chain.proofs.Laws.{chain_stays}
use Rattle.em_chain.specs.declared.chain.Chain.{Chain}
use Rattle.em_tree_blocks.specs.Reading.{entries_at}
use Rattle.em_empty.specs.Node.{CanEmpty, buffer_blocks, given_blocks, node_blocks}
use Rattle.em_empty.specs.Effects.{Emptied, EmptiedAt, EmptiesNode, LeavesNode, StopsEmptying, reached}
use Rattle.em_empty.proofs.Grouped.{buffers_stay, forms_around}

emptied_framed : {key : Record → Record} {s t : RigState} {node : ℕ} {c : Chain} {least : Option ℕ}
    → Sound s → 0 < s.pool.free → CanEmpty s node c
    → EmptiedAt key (record s { pool = lent s.pool }) t node c least
    → EmptiedAt key s (record t { pool = given t.pool }) node c least
emptied_framed {key} {s} {t} {node} {c} {least} sound free i x =
    let a = record s { pool = lent s.pool } in
    let u = record t { pool = given t.pool } in
    let held = given_blocks s node c in
    let inner : Goes held a t = record {
      sound = x.session.sound;
      touches = x.session.touches;
      frames = x.frames;
    } in
    let g = goes_with_frame held s t sound free inner in
    let h1 : Touches [] s a = touches_pool s (lent s.pool) refl in
    let h2 : Touches [] t u = touches_pool t (given t.pool) refl in
    let told = x.session.touches.told in
    record {
      emptied = λ z.
          let e = x.emptied z in
          let r = e.receives in
          let fs = entries_at t node in
          let none = λ (y : IsTrue t.device.told). apart_none (buffer_blocks t fs) in
          record {
            receives = record {
              block = r.block;
              level = r.level;
              links = r.links;
              buffers = buffers_stay [] fs h2 none r.buffers;
              items = r.items;
              forms = forms_around [] (entries_at s node) fs told h1 h2 none
                  (i.told z).buffers r.buffers
                  r.forms;
            };
            first_is = e.first_is;
          };
      session = record {
        sound = g.sound;
        touches = g.touches;
        within = record {
          off = λ z j k o. x.session.within.off z j (in_use_kept [] s a j h1 (λ y. tt) k) o;
        };
        holds = λ z. holds_kept [] t u (node_blocks t node) h2 (λ y. apart_none
            (node_blocks t node))
            (x.session.holds z);
      };
      frames = g.frames;
      costs = record {
        moves = x.costs.moves;
        used = x.costs.used;
        most = x.costs.most;
        pays = record { is = x.costs.pays.is };
      };
      frees = record { used = x.frees.used; pays = record { is = x.frees.pays.is } };
    }

stopped_framed : {s t : RigState} {node : ℕ} {c : Chain} {fault : EmFault} → Sound s
    → 0 < s.pool.free → StopsEmptying (record s { pool = lent s.pool }) t node c fault
    → StopsEmptying s (record t { pool = given t.pool }) node c fault
stopped_framed {s} {t} {node} {c} {fault} sound free x = record {
  goes = goes_with_frame (given_blocks s node c) s t sound free x.goes;
  costs = record {
    moves = x.costs.moves;
    used = x.costs.used;
    most = x.costs.most;
    pays = record { is = x.costs.pays.is };
  };
  cause = x.cause;
  room = x.room;
}

pub empties_framed : {s a u : RigState} {node : ℕ} {c : Chain} (key : Record → Record)
    (t : RigState)
    (result : Result (Option ℕ) EmFault) → Sound s → 0 < s.pool.free → CanEmpty s node c
    → a ≡ record s { pool = lent s.pool } → EmptiesNode key a t node c result
    → u ≡ record t { pool = given t.pool } → EmptiesNode key s u node c result
empties_framed {s} {a} {u} {node} {c} key t result sound free i e x f =
    subst (λ (w : RigState). EmptiesNode key s w node c result) (sym f)
    (by_result result (subst (λ (w : RigState). EmptiesNode key w t node c result) e x))
  where
    by_result : (y : Result (Option ℕ) EmFault)
        → EmptiesNode key (record s { pool = lent s.pool }) t node c y
        → EmptiesNode key s (record t { pool = given t.pool }) node c y
    by_result (Ok least) k = emptied_framed sound free i k
    by_result (Err fault) k = stopped_framed sound free k

-- What two of the clauses say of it.
pub says_emptied : (key : Record → Record) (s t : RigState) (node : ℕ) (c : Chain)
    (result : Result (Option ℕ) EmFault) → EmptiesNode key s t node c result
    → IfOk result (λ least. IsTrue s.device.told → Emptied key s t node c least)
says_emptied key s t node c (Ok least) x = x.emptied
says_emptied key s t node c (Err fault) x = tt

pub says_leaves : (key : Record → Record) (s t : RigState) (node : ℕ) (c : Chain)
    (result : Result (Option ℕ) EmFault) → EmptiesNode key s t node c result
    → LeavesNode s t node c result
says_leaves key s t node c (Ok least) x = (x.session, x.frames)
says_leaves key s t node c (Err fault) x = x.goes

pub says_full : (key : Record → Record) (s t : RigState) (node : ℕ) (c : Chain)
    (result : Result (Option ℕ) EmFault) → EmptiesNode key s t node c result
    → IfErr result (λ fault. IfFull fault (λ _. s.blocks < s.used + reached s node c + 1))
says_full key s t node c (Ok least) x = tt
says_full key s t node c (Err fault) x = x.room

-- The node and the chain after the frame was lent.
pub can_lent : {s a : RigState} {node : ℕ} {c : Chain} → Touches [] s a
    → a ≡ record s { pool = lent s.pool } → CanEmpty s node c → CanEmpty a node c
can_lent {s} {a} {node} {c} h e i =
    subst (λ (w : RigState). CanEmpty w node c) (sym e) (record {
      in_use = in_use_kept [] s (record s { pool = lent s.pool }) node g (λ z. tt) i.in_use;
      chain = (chain_stays [] s (record s { pool = lent s.pool }) c g
          (λ z. apart_none (chain_blocks s c)) i.chain).is;
      told = λ z.
          let o = i.told z in
          record {
            block = o.block;
            some = o.some;
            buffers = buffers_stay [] (entries_at s node) g
                (λ y. apart_none (buffer_blocks s (entries_at s node))) o.buffers;
            holds = holds_kept [] s (record s { pool = lent s.pool }) (given_blocks s node c) g
                (λ y. apart_none (given_blocks s node c)) o.holds;
          };
    })
  where
    g : Touches [] s (record s { pool = lent s.pool })
    g = touches_pool s (lent s.pool) refl
