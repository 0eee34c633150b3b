-- A node over the subtrees of a list, stored in a new block.
use Rattle.std.proofs.Common.{◌≡◌, ℕ, ◌+◌, ◌*◌, ◌<◌, max, List, [], ◌∷◌, ◌++◌, get_or, length, refl, sym, ap, ◌∙◌, subst, arith, IsTrue, Result, Ok, Err}
use Rattle.em_record.specs.Shape.{fan_of}
use Rattle.em_record.specs.declared.record.Record.{Record}
use Rattle.em_frames.specs.Pool.{HasFrames, given, lent, singles_of}
use Rattle.em_space.specs.Ledger.{Runs, both}
use Rattle.em_space.specs.Rig.{RigState, Sound, Touches}
use Rattle.em_space.specs.declared.fault.EmFault.{EmFault}
use Rattle.em_space.proofs.Framed.{runs_framed, stops_framed}
use Rattle.em_space.proofs.Held.{apart_none}
use Rattle.em_space.proofs.Ledgers.{full_by}
use Rattle.em_space.proofs.Paying.{pays_more}
use Rattle.em_space.proofs.Runs.{runs_first, runs_second, runs_then, stops_after, stops_first}
use Rattle.em_space.proofs.Sessions.{session_as}
use Rattle.em_space.proofs.Steps.{touches_pool}
use Rattle.em_chain.specs.Chain.{chain_blocks}
use Rattle.em_chain.specs.Reader.{IsReader, ReaderStays, rest_of}
use Rattle.em_chain.specs.Session.{taking_account}
use Rattle.em_chain.specs.declared.reader.Reader.{Reader}
use Rattle.em_chain.proofs.Keeps.{has_kept}
use Rattle.em_chain.proofs.Readers.{reader_stays}
use Rattle.em_chain.proofs.Sessions.{took_stays, took_then}
use Rattle.em_node.specs.declared.entry.Entry.{Entry}
use Rattle.em_node.specs.Node.{AreLinked, entries_of, no_entry}
use Rattle.em_tree_blocks.specs.Node.{linked_block}
use Rattle.em_tree_blocks.specs.Reading.{IsNodeAt, entries_at}
use Rattle.em_balance.specs.Effects.{owing}
use Rattle.em_balance.specs.Node.{entry_to}
use Rattle.em_balance.specs.Stored.{StopsStoring, StoresFrame}
use Rattle.em_balance.proofs.Framed.{node_given}
use Rattle.em_balance.proofs.Nodes.{entries_read, fresh_entry, fresh_links, linked_back, node_at}
use Rattle.em_tree_raise.specs.Nodes.{BuildsNode, BuiltNode, IsBuiltNode, StopsNode, nodes_account}
use Rattle.em_tree_raise.specs.Raising.{AreFreshEntries}
use Rattle.em_tree_raise.specs.Subtrees.{FilledNode, LeavesSubtrees, TakesFirstOf}

pub fresh_linked : (blocks : ℕ) (es : List Entry) → AreFreshEntries blocks es → AreLinked blocks es
fresh_linked blocks [] a = tt
fresh_linked blocks (e ∷ es) a = (fresh_links a.0, fresh_linked blocks es a.1)

-- What is left to a reader stays, over calls that leave its blocks alone.
pub leaves_stay : {s t : RigState} {r : Reader} {es : List Entry} → ReaderStays s t r
    → t.blocks ≡ s.blocks → IsTrue s.device.told → LeavesSubtrees s r es → LeavesSubtrees t r es
leaves_stay {es = es} h blocks z l = record {
  items = h.items z ∙ l.items;
  fresh = subst (λ (n : ℕ). AreFreshEntries n es) (sym blocks) l.fresh;
}

-- A frame that was filled with n subtrees
module _ {s u : RigState} {r q : Reader} {level n : ℕ} {frame : List Record} (reads : IsReader s r)
    (h : FilledNode s u r q level n frame) where
  -- with the moves for a block that is to come
  filled_runs : Runs r.blocks (chain_blocks s (rest_of r)) (chain_blocks u (rest_of q))
      (both (owing 0 2) (taking_account r)) (both (owing 0 2) (taking_account q)) s u
  filled_runs =
      let x : Runs (0 + r.blocks) (chain_blocks s (rest_of r)) (chain_blocks u (rest_of q))
      (both (owing 0 2) (taking_account r)) (both (owing 0 2) (taking_account q)) s u =
      runs_second [] (owing 0 2) (λ z. (reads.chain.told z).holds) h.read.read.runs in
      let e : 0 + r.blocks ≡ r.blocks = omega arith in
      subst (λ (p : ℕ). Runs p (chain_blocks s (rest_of r)) (chain_blocks u (rest_of q))
      (both (owing 0 2) (taking_account r)) (both (owing 0 2) (taking_account q)) s u) e x

  filled_reader : IsReader u q
  filled_reader = h.read.read.took.is

  -- was stored,
  module _ {t : RigState} {block : ℕ} (few : n < 2 * fan_of s.pool.shape) (k : StoresFrame u t frame block) where
    reader_left : ReaderStays u t q
    reader_left = reader_stays [] u t q k.runs.session.touches (λ z. apart_none (chain_blocks u (rest_of q)))
        (has_kept 1 (length q.frame) u.pool t.pool k.runs.frames filled_reader.frame) filled_reader

    told_then : IsTrue s.device.told → IsTrue u.device.told
    told_then z = h.read.read.took.told ∙ z

    blocks_then : t.blocks ≡ s.blocks
    blocks_then = k.runs.session.touches.blocks ∙ h.read.read.runs.session.touches.blocks

    entries_then : IsTrue s.device.told → entries_at t (linked_block (block + 1)) ≡ entries_of frame
    entries_then z = ap (λ (j : ℕ). entries_at t j) (linked_back block)
        ∙ entries_read t block (k.stored (told_then z)) h.is

    built_runs : Runs (r.blocks + 1) (chain_blocks s (rest_of r))
        (linked_block (block + 1) ∷ chain_blocks t (rest_of q)) (taking_account r)
        (both (nodes_account 1) (taking_account q)) s t
    built_runs =
        let x = runs_then filled_runs (runs_first (chain_blocks u (rest_of q)) (taking_account q)
        (λ z. (filled_reader.chain.told z).holds) k.runs) in
        let c = x.spends in
        let few_left = h.read.read.took.fewer in
        record {
          session = session_as (linked_block (block + 1) ∷ chain_blocks t (rest_of q)) x.session
              (λ z. ap (λ (j : ℕ). j ∷ chain_blocks t (rest_of q)) (linked_back block)
              ∙ ap (λ (ks : List ℕ). block ∷ ks) (reader_left.blocks (told_then z)));
          frames = x.frames;
          spends = record {
            held = omega (arith, few_left);
            used = omega (arith, c.used);
            most = omega (arith, c.most, few_left);
            moves = omega (arith, c.moves);
            later = c.later;
            pays = pays_more c.pays (omega arith);
          };
        }

    node_built : (low : Record) → low ≡ (get_or (entries_of frame) 0 no_entry).low → IsTrue s.device.told
        → IsBuiltNode t level n (entry_to low block)
    node_built low e z =
        let es = entries_of frame in
        let z1 = told_then z in
        let g = k.runs.session.touches in
        let f = h.read.read.runs.session.touches in
        let size = h.size in
        let shape = ap fan_of f.shape in
        let fresh_u = subst (λ (m : ℕ). AreFreshEntries m es) (sym f.blocks) h.read.fresh in
        let node : IsNodeAt t level block =
        node_at u t g.blocks g.shape (k.runs.session.holds z1).in_use.0 (k.stored z1) h.is
        (omega (arith, few, size, shape)) (fresh_linked u.blocks es fresh_u) in
        let d = sym (entries_then z) in
        record {
          node_is = subst (λ (j : ℕ). IsNodeAt t level j) (sym (linked_back block)) node;
          fresh = subst (λ (fs : List Entry). AreFreshEntries t.blocks fs) d
              (subst (λ (m : ℕ). AreFreshEntries m es) (sym blocks_then) h.read.fresh);
          low_is = e ∙ ap (λ (fs : List Entry). (get_or fs 0 no_entry).low) d;
          size = ap (λ (fs : List Entry). length fs) (sym d) ∙ h.size;
        }

    node_takes : (fs : List Entry) → IsTrue s.device.told → LeavesSubtrees s r fs
        → TakesFirstOf t q (entries_at t (linked_block (block + 1))) fs
    node_takes fs z l =
        let o = h.read.takes z fs l in
        record {
          rest = o.rest;
          is = subst (λ (es : List Entry). fs ≡ es ++ o.rest) (sym (entries_then z)) o.is;
          leaves = leaves_stay reader_left k.runs.session.touches.blocks (told_then z) o.leaves;
        }

    pub built_node : BuiltNode s t r q level n (entry_to (get_or (entries_of frame) 0 no_entry).low block)
    built_node =
        let low = (get_or (entries_of frame) 0 no_entry).low in
        let below = k.below in
        let same = h.read.read.runs.session.touches.blocks in
        record {
          runs = built_runs;
          records = h.read.records ++ [];
          took = took_then h.read.records [] h.read.read.took (took_stays [] k.runs.session.touches reader_left);
          fresh = fresh_entry low block s.blocks (omega (arith, below, same));
          node = λ z. node_built low refl z;
          takes = λ z fs l. node_takes fs z l;
        }

  -- or couldn't be.
  pub unstored_node : {t : RigState} {e : EmFault} → StopsStoring u t e → StopsNode s t r e
  unstored_node {t} {e} k =
      let x = stops_after filled_runs (stops_first (chain_blocks u (rest_of q)) (taking_account q) k.stops) in
      let c = x.halts in
      let few_left = h.read.read.took.fewer in
      record {
        goes = x.goes;
        halts = record {
          used = omega (arith, c.used, few_left);
          full = full_by e (t.used + (0 + r.blocks) < s.used + max r.blocks (1 + q.blocks))
              (t.used + r.blocks < s.used + (r.blocks + 1)) (λ l. omega (arith, l, few_left)) c.full;
          most = omega (arith, c.most, few_left);
          moves = omega (arith, c.moves);
          later = c.later;
          pays = pays_more c.pays (omega arith);
        };
        cause = x.cause;
      }

-- A reader after a frame was lent
reader_lent : {s : RigState} {r : Reader} → Sound s → 0 < s.pool.free → IsReader s r
    → ReaderStays s (record s { pool = lent s.pool }) r
reader_lent {s} {r} h free i =
    let out = i.frame.out in
    reader_stays [] s (record s { pool = lent s.pool }) r (touches_pool s (lent s.pool) refl)
    (λ z. apart_none (chain_blocks s (rest_of r)))
    (record { len_is = i.frame.len_is; out = omega (arith, out, free) }) i

pub reader_frame_lent : {s a : RigState} {r : Reader} → Sound s → 0 < s.pool.free
    → a ≡ record s { pool = lent s.pool } → IsReader s r → IsReader a r
reader_frame_lent {s} {a} {r} h free e i =
    subst (λ (w : RigState). IsReader w r) (sym e) (reader_lent h free i).is

-- A node was built with a frame that was lent and given back.
module _ {s : RigState} {r : Reader} (c : RigState) (q : Reader) (level n : ℕ) (sound : Sound s)
    (free : 0 < s.pool.free) (reads : IsReader s r) where
  built_framed : {e : Entry} → BuiltNode (record s { pool = lent s.pool }) c r q level n e
      → BuiltNode s (record c { pool = given c.pool }) r q level n e
  built_framed {e} h =
      let t = record c { pool = given c.pool } in
      let runs = runs_framed sound free h.runs in
      let st = reader_lent sound free reads in
      let g : Touches [] c t = touches_pool c (given c.pool) refl in
      let has : HasFrames 1 (length q.frame) t.pool = record {
        len_is = h.took.is.frame.len_is;
        out =
            let shape = ap singles_of h.runs.frames.shape in
            let left = h.runs.frames.free in
            let out = reads.frame.out in
            omega (arith, shape, left, out, free);
      } in
      let ts = reader_stays [] c t q g (λ z. apart_none (chain_blocks c (rest_of q))) has h.took.is in
      record {
        runs = runs;
        records = h.records ++ [];
        took = took_then [] (h.records ++ []) (took_stays [] (touches_pool s (lent s.pool) refl) st)
            (took_then h.records [] h.took (took_stays [] g ts));
        fresh = h.fresh;
        node = λ z. let o = h.node z in record {
          node_is = node_given o.node_is;
          fresh = o.fresh;
          low_is = o.low_is;
          size = o.size;
        };
        takes = λ z fs l.
            let o = h.takes z fs (record { items = l.items; fresh = l.fresh }) in
            record {
              rest = o.rest;
              is = o.is;
              leaves = record { items = o.leaves.items; fresh = o.leaves.fresh };
            };
      }

  builds_given : (result : Result Entry EmFault) → BuildsNode (record s { pool = lent s.pool }) c r q level n result
      → BuildsNode s (record c { pool = given c.pool }) r q level n result
  builds_given (Ok e) x = built_framed x
  builds_given (Err f) x = stops_framed sound free x

  pub builds_framed : {a t : RigState} (result : Result Entry EmFault) → a ≡ record s { pool = lent s.pool }
      → BuildsNode a c r q level n result → t ≡ record c { pool = given c.pool }
      → BuildsNode s t r q level n result
  builds_framed {a} {t} result e x f =
      subst (λ (w : RigState). BuildsNode s w r q level n result) (sym f)
      (builds_given result (subst (λ (w : RigState). BuildsNode w c r q level n result) e x))
