-- Nodes that are stored one after another, and listed by a writer.
use Rattle.std.proofs.Common.{◌≡◌, ℕ, ◌+◌, ◌*◌, ◌<◌, ◌≤◌, max, List, [], ◌∷◌, ◌++◌, length, sym, ap, ◌∙◌, subst, arith, IsTrue, Result, Ok, Err}
use Rattle.std.proofs.lemmas.List.{append-nil}
use Rattle.em_record.specs.Shape.{fan_of}
use Rattle.em_space.specs.Held.{Apart, Holds}
use Rattle.em_space.specs.Ledger.{Halts, Runs, Spends, Stops, both}
use Rattle.em_space.specs.Rig.{RigState, Sound}
use Rattle.em_space.specs.declared.fault.EmFault.{EmFault}
use Rattle.em_space.proofs.Lists.{apart_sym, distinct_apart, distinct_join, in_use_append}
use Rattle.em_space.proofs.Paying.{pays_more}
use Rattle.em_space.proofs.Runs.{runs_as, runs_first, runs_second, runs_then, stops_after, stops_first, stops_second, stops_wider}
use Rattle.em_chain.specs.Chain.{chain_blocks, payload_in}
use Rattle.em_chain.specs.Parts.{IsPair}
use Rattle.em_chain.specs.Reader.{ReaderStays, rest_of}
use Rattle.em_chain.specs.Session.{StopsWriting, Writes, taking_account, writer_account}
use Rattle.em_chain.specs.Writer.{IsWriter, WriterStays, filled, writer_blocks}
use Rattle.em_chain.specs.declared.reader.Reader.{Reader}
use Rattle.em_chain.specs.declared.writer.Writer.{Writer}
use Rattle.em_chain.proofs.Keeps.{has_kept}
use Rattle.em_chain.proofs.Laws.{writer_stays}
use Rattle.em_chain.proofs.Pairs.{blocks_least}
use Rattle.em_chain.proofs.Readers.{reader_stays}
use Rattle.em_chain.proofs.Sessions.{took_stays, took_then, wrote_stays, wrote_then}
use Rattle.em_leaf.proofs.Numbers.{ceiling_few}
use Rattle.em_node.specs.declared.entry.Entry.{Entry}
use Rattle.em_tree_blocks.specs.Node.{linked_block}
use Rattle.em_tree_blocks.specs.Reading.{entries_at}
use Rattle.em_balance.specs.Node.{IsFreshEntry}
use Rattle.em_tree_raise.specs.Listing.{ListingCosts, ListsSubtree, listed, two_more}
use Rattle.em_tree_raise.specs.Nodes.{BuiltNode, ListsNode, ListsNodes, StandOverNext, StopsNode, StopsNodes, level_blocks, nodes_account}
use Rattle.em_tree_raise.proofs.Stands.{over_stays}

-- A writer has no more blocks than places that it went through,
pub blocks_low : (s : RigState) (w : Writer) → 128 ≤ s.pool.shape.block → IsWriter s w → w.blocks ≤ filled s w
blocks_low s w low i =
    blocks_least (payload_in s) w.blocks w.fill (omega arith) (λ e. i.last.fill_low (i.last.some e))

-- also with two records more.
two_low : (s : RigState) (w : Writer) → 128 ≤ s.pool.shape.block → two_more s w ≤ filled s w + 2
two_low s w low = ceiling_few (filled s w + 2) (payload_in s) (omega arith)

pub level_holds : {s : RigState} {r : Reader} {w : Writer} → IsPair s r w → IsTrue s.device.told
    → Holds s (level_blocks s r w)
level_holds {s} {r} {w} i z =
    let ws = writer_blocks s w in
    let rs = chain_blocks s (rest_of r) in
    let a = (i.writer.told z).holds in
    let b = (i.reader.chain.told z).holds in
    record {
      in_use = in_use_append s rs ws b.in_use a.in_use;
      distinct = λ y. distinct_join rs ws (b.distinct y) (a.distinct y) (apart_sym ws rs (i.apart z));
    }

-- A node with its entries stands over them.
pub built_over : {s u : RigState} {r q : Reader} {level n : ℕ} {e : Entry} → BuiltNode s u r q level n e
    → fan_of s.pool.shape ≤ n → n < 2 * fan_of s.pool.shape → IsTrue s.device.told
    → StandOverNext s u r q level n (e ∷ [])
built_over {s} {u} {r} {q} {level} {n} {e} h many few z =
    let o = h.node z in
    let es = entries_at u (linked_block e.child) in
    let size = o.size in
    let shape = ap fan_of h.runs.session.touches.shape in
    let all : es ≡ es ++ [] = sym (append-nil es) in
    record {
      leads = (
        record {
          node_is = o.node_is;
          fresh = o.fresh;
          low_is = o.low_is;
          many = omega (arith, size, shape, many);
          few = omega (arith, size, shape, few);
        },
        tt,
      );
      size = ap (λ (xs : List Entry). length xs) (sym all) ∙ size;
      takes = λ fs l.
          let x = h.takes z fs l in
          record {
            rest = x.rest;
            is = subst (λ (xs : List Entry). fs ≡ xs ++ x.rest) all x.is;
            leaves = x.leaves;
          };
    }

-- It couldn't be built.
pub unbuilt_node : {s u : RigState} {r : Reader} {w : Writer} {f : EmFault} → Sound s → IsPair s r w
    → StopsNode s u r f → StopsNodes s u r w 1 f
unbuilt_node {s} {u} {r} {w} sound pair h =
    let low = blocks_low s w sound.shape.block_low pair.writer in
    stops_wider (omega (arith, low)) (omega (arith, low)) (omega arith)
    (stops_first (writer_blocks s w) (writer_account w) h)

-- A node was built,
module _ {s u : RigState} {r q : Reader} {w : Writer} {level n : ℕ} {e : Entry} (sound : Sound s)
    (pair : IsPair s r w) (h : BuiltNode s u r q level n e) where
  pub built_writer : WriterStays s u w
  built_writer = writer_stays (chain_blocks s (rest_of r)) s u w h.runs.session.touches pair.apart
      (has_kept 1 (length w.frame) s.pool u.pool h.runs.frames pair.writer.frame) pair.writer

  built_beside : Runs ((r.blocks + 1) + w.blocks) (level_blocks s r w)
      ((linked_block e.child ∷ chain_blocks u (rest_of q)) ++ writer_blocks u w)
      (both (taking_account r) (writer_account w))
      (both (both (nodes_account 1) (taking_account q)) (writer_account w)) s u
  built_beside =
      let ks = linked_block e.child ∷ chain_blocks u (rest_of q) in
      runs_as (ks ++ writer_blocks u w)
      (runs_first (writer_blocks s w) (writer_account w) (level_holds pair) h.runs)
      (λ z. ap (λ (js : List ℕ). ks ++ js) (built_writer.blocks z))

  built_holds : IsTrue u.device.told
      → Holds u ((linked_block e.child ∷ chain_blocks u (rest_of q)) ++ writer_blocks u w)
  built_holds y = built_beside.session.holds (sym h.took.told ∙ y)

  built_apart : IsTrue u.device.told
      → Apart (linked_block e.child ∷ chain_blocks u (rest_of q)) (writer_blocks u w)
  built_apart y =
      distinct_apart (linked_block e.child ∷ chain_blocks u (rest_of q)) (writer_blocks u w)
      ((built_holds y).distinct y)

  -- and listed,
  module _ {t : RigState} {v : Writer} (x : Writes u t w v (listed (e ∷ [])))
      (cost : Spends (two_more u w) (writer_account w) (writer_account v) u t) where
    listed_runs : Runs (two_more u w) (writer_blocks u w) (writer_blocks t v) (writer_account w) (writer_account v) u t
    listed_runs = record { session = x.runs.session; frames = x.runs.frames; spends = cost }

    listed_reader : ReaderStays u t q
    listed_reader = reader_stays (writer_blocks u w) u t q x.runs.session.touches (λ y. (built_apart y).1)
        (has_kept 1 (length q.frame) u.pool t.pool x.runs.frames h.took.is.frame) h.took.is

    listed_whole : Runs (max ((r.blocks + 1) + w.blocks) ((1 + q.blocks) + two_more u w)) (level_blocks s r w)
        ((linked_block e.child ∷ chain_blocks t (rest_of q)) ++ writer_blocks t v)
        (both (taking_account r) (writer_account w))
        (both (both (nodes_account 1) (taking_account q)) (writer_account v)) s t
    listed_whole =
        let k = linked_block e.child in
        runs_then built_beside
        (runs_as ((k ∷ chain_blocks t (rest_of q)) ++ writer_blocks t v)
        (runs_second (k ∷ chain_blocks u (rest_of q)) (both (nodes_account 1) (taking_account q)) built_holds
        listed_runs)
        (λ y. ap (λ (ks : List ℕ). (k ∷ ks) ++ writer_blocks t v) (listed_reader.blocks y)))

    pub listed_node : fan_of s.pool.shape ≤ n → n < 2 * fan_of s.pool.shape
        → ListsNodes s t r q w v level n (e ∷ [])
    listed_node many few =
        let c = listed_whole.spends in
        let fewer = h.took.fewer in
        let low = blocks_low s w sound.shape.block_low pair.writer in
        let two = two_low u w h.runs.session.sound.shape.block_low in
        let same = built_writer.filled_is in
        let g = x.runs.session.touches in
        let f = h.runs.session.touches in
        record {
          runs = record {
            session = listed_whole.session;
            frames = listed_whole.frames;
            spends = record {
              held = omega (arith, c.held, fewer, low, two, same);
              used = omega (arith, c.used);
              most = omega (arith, c.most, fewer, low, two, same);
              moves = omega (arith, c.moves);
              later = c.later;
              pays = pays_more c.pays (omega arith);
            };
          };
          records = h.records ++ [];
          took = took_then h.records [] h.took (took_stays (writer_blocks u w) g listed_reader);
          wrote = wrote_then [] (listed (e ∷ [])) (wrote_stays f.told built_writer) x.wrote;
          fresh = (subst (λ (m : ℕ). IsFreshEntry m e) (sym (g.blocks ∙ f.blocks)) h.fresh, tt);
          told = λ z.
              let y = h.took.told ∙ z in
              over_stays (writer_blocks u w) (built_over h many few z) g y ((built_apart y).0, tt) listed_reader;
        }

  -- or couldn't be.
  pub unlisted_node : {t : RigState} {f : EmFault} → StopsWriting u t w 2 f
      → Halts (two_more u w) (2 * two_more u w) 1 (writer_account w) u t f → StopsNodes s t r w 1 f
  unlisted_node {t} {f} x cost =
      let fewer = h.took.fewer in
      let low = blocks_low s w sound.shape.block_low pair.writer in
      let two = two_low u w h.runs.session.sound.shape.block_low in
      let same = built_writer.filled_is in
      let k : Stops (two_more u w) (2 * two_more u w) 1 (writer_blocks u w) (writer_account w) u t f =
      record { goes = x.stops.goes; halts = cost; cause = x.stops.cause } in
      stops_wider (omega (arith, fewer, low, two, same)) (omega (arith, two, same)) (omega arith)
      (stops_after built_beside
      (stops_second (linked_block e.child ∷ chain_blocks u (rest_of q))
      (both (nodes_account 1) (taking_account q)) k))

  pub lists_node : {T : Type 0} (t : RigState) (v : Writer) (result : Result T EmFault)
      → fan_of s.pool.shape ≤ n → n < 2 * fan_of s.pool.shape
      → ListsSubtree u t w v e.low (linked_block e.child) result → ListingCosts u t w v result
      → ListsNode s t r q w v level n result
  lists_node t v (Ok y) many few x cost = record { node = e; lists = listed_node x cost many few }
  lists_node t v (Err f) many few x cost = unlisted_node x cost
