-- The nodes of a level, one after another, beside the writer that lists them.
use Rattle.std.proofs.Common.{◌≡◌, true, inl, inr, ⊎_elim, ℕ, ◌+◌, ◌-◌, ◌*◌, ◌^◌, ◌<◌, ◌≤◌, max, List, [], ◌∷◌, ◌++◌, length, sym, ap, ◌∙◌, subst, arith, append_assoc, IsTrue}
use Rattle.std.proofs.lemmas.List.{length-append}
use Rattle.em_record.specs.Shape.{IsShape, ShapeNumbers, fan_of}
use Rattle.em_record.specs.declared.record.Record.{Record}
use Rattle.em_space.specs.Ledger.{Account, Runs, both}
use Rattle.em_space.specs.Rig.{RigState, Sound}
use Rattle.em_space.specs.declared.fault.EmFault.{EmFault}
use Rattle.em_space.proofs.Lists.{apart_sym, distinct_apart, distinct_right}
use Rattle.em_space.proofs.Paying.{pays_more}
use Rattle.em_space.proofs.Runs.{runs_none, runs_second, runs_then, runs_wider, stops_after, stops_second, stops_wider}
use Rattle.em_space.proofs.Sessions.{session_as}
use Rattle.em_chain.specs.Chain.{chain_blocks}
use Rattle.em_chain.specs.Parts.{IsPair}
use Rattle.em_chain.specs.Reader.{rest_of}
use Rattle.em_chain.specs.Session.{Wrote, taking_account, writer_account}
use Rattle.em_chain.specs.Writer.{filled, writer_blocks}
use Rattle.em_chain.specs.declared.reader.Reader.{Reader}
use Rattle.em_chain.specs.declared.writer.Writer.{Writer}
use Rattle.em_chain.proofs.Sessions.{took_nothing, took_then, wrote_none, wrote_then}
use Rattle.em_node.specs.declared.entry.Entry.{Entry}
use Rattle.em_tree_raise.specs.Listing.{listed}
use Rattle.em_tree_raise.specs.Nodes.{ListedNode, ListsNodes, NodeSize, RaisingNodes, StopsNodes, level_account, level_blocks, level_peak, nodes_account}
use Rattle.em_tree_raise.specs.Raising.{AreFreshEntries, blocks_under}
use Rattle.em_tree_raise.specs.Subtrees.{HasLeft}
use Rattle.em_tree_raise.proofs.FilledNodes.{left_after, left_alone, left_fewer}
use Rattle.em_tree_raise.proofs.ListedNodes.{blocks_low, level_holds}
use Rattle.em_tree_raise.proofs.Listings.{listed_append, listed_length}
use Rattle.em_tree_raise.proofs.ReadSubtrees.{fresh_append}
use Rattle.em_tree_raise.proofs.Stands.{over_none, over_then, under_append}

-- an account by its numbers
account_is : (a b : Account) → a.blocks ≡ b.blocks → a.unstored ≡ b.unstored → a.paid ≡ b.paid
    → a.owed ≡ b.owed → a ≡ b
account_is a b p q x y = λ i. record { blocks = p i; unstored = q i; paid = x i; owed = y i }

both_none : (a : Account) → a ≡ both (nodes_account 0) a
both_none a = account_is a (both (nodes_account 0) a) (omega arith) (omega arith) (omega arith) (omega arith)

-- No node yet,
pub lists_none : {s : RigState} {r : Reader} {w : Writer} (level : ℕ) → Sound s → IsPair s r w
    → ListsNodes s s r r w w level 0 []
lists_none {s} {r} {w} level h i =
    let a = both (taking_account r) (writer_account w) in
    let ks = level_blocks s r w in
    let low = blocks_low s w h.shape.block_low i.writer in
    let x : Runs (level_peak s r w 0) ks ks a a s s =
    runs_wider (omega (arith, low)) (runs_none s ks a h (level_holds i)) in
    record {
      runs = subst (λ (b : Account). Runs (level_peak s r w 0) ks ks a b s s) (both_none a) x;
      records = [];
      took = took_nothing i.reader;
      wrote = wrote_none i.writer;
      fresh = tt;
      told = λ z. over_none s r level;
    }

-- and more of them.
module _ {s t u : RigState} {r q p : Reader} {w v x : Writer} {level m n : ℕ} {ns ms : List Entry}
    (h : ListsNodes s t r q w v level m ns) (g : ListsNodes t u q p v x level n ms) where
  lists_whole : Runs (max (level_peak s r w (length ns)) (length ns + level_peak t q v (length ms)))
      (level_blocks s r w) (blocks_under ns ++ (blocks_under ms ++ level_blocks u p x))
      (both (taking_account r) (writer_account w))
      (both (nodes_account (length ns)) (level_account (length ms) p x)) s u
  lists_whole =
      let held = λ (y : IsTrue t.device.told). h.runs.session.holds (sym h.took.told ∙ y) in
      runs_then h.runs (runs_second (blocks_under ns) (nodes_account (length ns)) held g.runs)

  lists_runs : Runs (level_peak s r w (length (ns ++ ms))) (level_blocks s r w)
      (blocks_under (ns ++ ms) ++ level_blocks u p x) (both (taking_account r) (writer_account w))
      (level_account (length (ns ++ ms)) p x) s u
  lists_runs =
      let c = lists_whole.spends in
      let len = length-append ns ms in
      let few = h.took.fewer in
      let fill = h.wrote.filled_is in
      let two = listed_length ns in
      let ls = level_blocks u p x in
      record {
        session = session_as (blocks_under (ns ++ ms) ++ ls) lists_whole.session
            (λ z. ap (λ (ks : List ℕ). ks ++ ls) (under_append ns ms)
            ∙ append_assoc (blocks_under ns) (blocks_under ms) ls);
        frames = lists_whole.frames;
        spends = record {
          held = omega (arith, c.held, len, few, fill, two);
          used = omega (arith, c.used, len);
          most = omega (arith, c.most, len, few, fill, two);
          moves = omega (arith, c.moves, len);
          later = c.later;
          pays = pays_more c.pays (omega arith);
        };
      }

  pub lists_then : ListsNodes s u r p w x level (m + n) (ns ++ ms)
  lists_then =
      let told = h.took.told in
      let blocks = g.runs.session.touches.blocks in
      record {
        runs = lists_runs;
        records = h.records ++ g.records;
        took = took_then h.records g.records h.took g.took;
        wrote = subst (λ (xs : List Record). Wrote s u w x xs) (sym (listed_append ns ms))
            (wrote_then (listed ns) (listed ms) h.wrote g.wrote);
        fresh = fresh_append u.blocks ns ms
            (subst (λ (k : ℕ). AreFreshEntries k ns) (sym blocks) h.fresh) g.fresh;
        told = λ z.
            let y = told ∙ z in
            over_then (level_blocks t q v) (h.told z) (g.told y) g.runs.session.touches y
            (distinct_apart (blocks_under ns) (level_blocks t q v) ((h.runs.session.holds z).distinct y));
      }

-- A later call gave up.
lists_stops : {s t u : RigState} {r q : Reader} {w v : Writer} {level m : ℕ} {ns : List Entry} {e : EmFault}
    (n : ℕ) → ListsNodes s t r q w v level m ns → StopsNodes t u q v n e → StopsNodes s u r w (length ns + n) e
lists_stops {ns = ns} n h g =
    let few = h.took.fewer in
    let fill = h.wrote.filled_is in
    let two = listed_length ns in
    stops_wider (omega (arith, few, fill, two)) (omega (arith, fill, two)) (omega arith)
    (stops_after h.runs (stops_second (blocks_under ns) (nodes_account (length ns)) g))

-- Reader and writer are a pair again.
lists_pair : {s t : RigState} {r q : Reader} {w v : Writer} {level m : ℕ} {ns : List Entry}
    → r.taking ≡ true → ListsNodes s t r q w v level m ns → IsPair t q v
lists_pair {s} {t} {r} {q} {w} {v} {ns = ns} e h = record {
  reader = h.took.is;
  writer = h.wrote.is;
  taking = h.took.taking ∙ e;
  apart = λ y.
      let rs = chain_blocks t (rest_of q) in
      let ws = writer_blocks t v in
      let d = (h.runs.session.holds (sym h.took.told ∙ y)).distinct y in
      apart_sym rs ws (distinct_apart rs ws (distinct_right (blocks_under ns) (rs ++ ws) d));
}

-- The loop over a level: at its start,
pub raising_begins : {s : RigState} {r : Reader} {w : Writer} (level count : ℕ) → Sound s → IsPair s r w
    → fan_of s.pool.shape ≤ count → RaisingNodes s s r r w w level count count
raising_begins level count h i many = record {
  nodes = [];
  taken = 0;
  lists = lists_none level h i;
  all = omega arith;
  many = omega arith;
  some = inr many;
}

-- after one node more,
pub raising_next : {s t u : RigState} {r q p : Reader} {w v x : Writer} {level count left : ℕ} (size : ℕ)
    → RaisingNodes s t r q w v level count left → ListedNode t u q p v x level size
    → NodeSize (fan_of s.pool.shape) left size → 16 ≤ fan_of s.pool.shape
    → RaisingNodes s u r p w x level count (left - size)
raising_next {s} {left = left} size h g k fan =
    let len = length-append h.nodes (g.node ∷ []) in
    let all = h.all in
    let many = h.many in
    let size_many = k.many in
    let within = k.within in
    record {
      nodes = h.nodes ++ g.node ∷ [];
      taken = h.taken + size;
      lists = lists_then h.lists g.lists;
      all = omega (arith, all, within);
      many = omega (arith, many, len, size_many, fan);
      some = ⊎_elim (λ (e : size ≡ left). inl (omega (arith, e)))
          (λ (l : fan_of s.pool.shape + size ≤ left). inr (omega (arith, l))) k.rest;
    }

-- or where a node gave up.
pub raising_stops : {s t u : RigState} {r q : Reader} {w v : Writer} {level count left : ℕ} {e : EmFault}
    → RaisingNodes s t r q w v level count left → 16 ≤ left → StopsNodes t u q v 1 e
    → (n : ℕ) × (16 * n ≤ count) × StopsNodes s u r w n e
raising_stops h some g =
    let all = h.all in
    let many = h.many in
    (length h.nodes + 1, omega (arith, all, many, some), lists_stops 1 h.lists g)

-- f subtrees or more are left, if any are.
pub raising_some : {s t : RigState} {r q : Reader} {w v : Writer} {level count left : ℕ}
    → RaisingNodes s t r q w v level count left → 0 < left → fan_of s.pool.shape ≤ left
raising_some {s} {left = left} h some = ⊎_elim (λ (e : left ≡ 0). absurd (omega (arith, e, some)))
    (λ (l : fan_of s.pool.shape ≤ left). l) h.some

-- What the next node finds: reader and writer,
pub raising_pair : {s t : RigState} {r q : Reader} {w v : Writer} {level count left : ℕ}
    → r.taking ≡ true → RaisingNodes s t r q w v level count left → IsPair t q v
raising_pair e h = lists_pair e h.lists

-- its subtrees,
pub raising_left : {s t : RigState} {r q : Reader} {w v : Writer} {level count left : ℕ} (m : ℕ) → m ≤ left
    → RaisingNodes s t r q w v level count left → (IsTrue s.device.told → HasLeft s r [] count)
    → IsTrue t.device.told → HasLeft t q [] m
raising_left {s} {r = r} {left = left} m few h has y =
    let z = sym h.lists.took.told ∙ y in
    let x = h.lists.told z in
    let b : HasLeft s r [] (h.taken + left) = subst (λ (n : ℕ). HasLeft s r [] n) (sym h.all) (has z) in
    left_fewer m few (left_alone (left_after h.taken left b (x.takes b.entries b.leaves) x.size))

-- and room in the list.
pub raising_count : {s t : RigState} {r q : Reader} {w v : Writer} {level count left : ℕ}
    → RaisingNodes s t r q w v level count left → 16 ≤ left → w.count + count ≤ 2 ^ 56 → v.count + 2 ≤ 2 ^ 56
raising_count h some room =
    let all = h.all in
    let many = h.many in
    let is = h.lists.wrote.count_is in
    let two = listed_length h.nodes in
    omega (arith, all, many, some, is, two, room)

pub raising_blocks : {s t : RigState} {r q : Reader} {w v : Writer} {level count left : ℕ}
    → RaisingNodes s t r q w v level count left → 16 ≤ left → filled s w + count ≤ 2 ^ 56
    → v.blocks + 2 ≤ 2 ^ 56
raising_blocks {t = t} {v = v} h some room =
    let all = h.all in
    let many = h.many in
    let is = h.lists.wrote.filled_is in
    let two = listed_length h.nodes in
    let low = blocks_low t v h.lists.runs.session.sound.shape.block_low h.lists.wrote.is in
    omega (arith, all, many, some, is, two, room, low)

-- f is 16 or more.
pub fan_low : (shape : ShapeNumbers) → IsShape shape → 16 ≤ fan_of shape
fan_low shape h = let low = h.frames_low in omega (arith, low)

pub raising_many : {s t : RigState} {r q : Reader} {w v : Writer} {level count left : ℕ} → Sound s
    → RaisingNodes s t r q w v level count left → 0 < left → 16 ≤ left
raising_many {s} so h some =
    let many = raising_some h some in let low = fan_low s.pool.shape so.shape in omega (arith, many, low)
