-- A level over a list, from the reader's start to its end.
use Rattle.std.proofs.Common.{◌≡◌, true, ℕ, ◌+◌, ◌*◌, ◌/◌, ◌<◌, ◌≤◌, List, [], ◌++◌, length, sym, ap, ◌∙◌, subst, arith, IsTrue, Result, Ok, Err}
use Rattle.std.proofs.lemmas.List.{length-append}
use Rattle.em_record.specs.Shape.{fan_of}
use Rattle.em_space.specs.Rig.{RigState, Sound}
use Rattle.em_space.specs.declared.fault.EmFault.{EmFault}
use Rattle.em_space.proofs.Held.{apart_none}
use Rattle.em_space.proofs.Paying.{pays_more}
use Rattle.em_space.proofs.Sessions.{session_as}
use Rattle.em_chain.specs.Chain.{ChainStays, chain_blocks}
use Rattle.em_chain.specs.Effects.{GivesFrame, LendsFrame, Unmoved}
use Rattle.em_chain.specs.Reader.{rest_of}
use Rattle.em_chain.specs.Reads.{Opens}
use Rattle.em_chain.specs.declared.chain.Chain.{Chain}
use Rattle.em_chain.specs.declared.reader.Reader.{Reader}
use Rattle.em_chain.proofs.Laws.{chain_stays}
use Rattle.em_node.specs.declared.entry.Entry.{Entry}
use Rattle.em_node.specs.Node.{LowsRise}
use Rattle.em_tree_walk.specs.SplitPaths.{TakesUpTo}
use Rattle.em_tree_walk.proofs.Losses.{chain_length}
use Rattle.em_tree_raise.specs.Levels.{RaisedLevel, RaisesLevel, WritesLevel, WrittenLevel}
use Rattle.em_tree_raise.specs.Raising.{AreFreshEntries, CanRaise, IsListing, LeadToNodes, blocks_under, entries_below}
use Rattle.em_tree_raise.specs.Subtrees.{LeavesSubtrees}
use Rattle.em_tree_raise.proofs.Opened.{all_first, around_frames, around_pays, around_session, around_stops, listing_half, none_held_of, none_left_of, opened_leaves}
use Rattle.em_tree_raise.proofs.RaisedNodes.{fan_low}
use Rattle.em_tree_raise.proofs.Stands.{below_stays, nodes_lead, nodes_rise, several_nodes, under_length}

module _ {s a b t : RigState} {list : Chain} {r q : Reader} {level count : ℕ} {c : Chain} (sound : Sound s)
    (can : CanRaise s list) (all : count ≡ list.count / 2) (l : LendsFrame s a) (m : Unmoved s a)
    (o : Opens s a list true r) (h : WrittenLevel a b r q level count c) (g : GivesFrame [] b t)
    (v : Unmoved b t) where
  told_a : IsTrue s.device.told → IsTrue a.device.told
  told_a z = l.touches.told ∙ z

  told_b : IsTrue s.device.told → IsTrue b.device.told
  told_b z = h.session.touches.told ∙ told_a z

  -- all subtrees of the list are under the nodes
  level_all : {es : List Entry} → IsTrue s.device.told → IsListing s list es
      → (entries_below b h.nodes ≡ es) × LeavesSubtrees b q []
  level_all {es} z x =
      let k = h.told (told_a z) in
      let half = listing_half can.chain x z in
      let size = k.size in
      all_first (k.takes es (opened_leaves l m o x z)) (omega (arith, size, all, half))

  level_read : IsTrue s.device.told → q.blocks ≡ 0
  level_read z = none_left_of h.reader (told_b z) (level_all z (can.told z).is).1

  level_chain : ChainStays b t c
  level_chain = chain_stays [] b t c g.touches (λ y. apart_none (chain_blocks b c)) h.chain

  level_blocks_are : IsTrue s.device.told → blocks_under h.nodes ++ chain_blocks t c
      ≡ blocks_under h.nodes ++ (chain_blocks b (rest_of q) ++ chain_blocks b c)
  level_blocks_are z =
      let bs = blocks_under h.nodes in
      ap (λ (ks : List ℕ). bs ++ ks) (level_chain.blocks (told_b z))
      ∙ ap (λ (ks : List ℕ). bs ++ (ks ++ chain_blocks b c)) (sym (none_held_of b q (level_read z)))

  level_takes : TakesUpTo (3 * length h.nodes) (2 * list.blocks + 2 * length h.nodes + 2 * c.blocks + 1)
      (chain_blocks s list) (blocks_under h.nodes ++ chain_blocks t c) s t
  level_takes =
      let x = h.spends in
      let used = m.same.used in
      let after = v.same.used in
      let most = m.same.most in
      let last = v.same.most in
      let moves = m.moves in
      let ending = v.moves in
      let owed = o.owed_is in
      let words = ap (λ (d : Chain). d.blocks) o.words in
      record {
        session = session_as (blocks_under h.nodes ++ chain_blocks t c)
            (around_session l m o g v can.chain h.session) level_blocks_are;
        frames = around_frames l m o g v h.frames;
        used = omega (arith, x.used, x.held, used, after);
        most = omega (arith, x.most, used, most, last);
        moves = omega (arith, x.moves, moves, ending, owed);
        pays = around_pays l m o g v (pays_more x.pays (omega arith)) x.later;
        loses = λ z.
            let none = level_read z in
            let n = chain_length can.chain z in
            let k = chain_length level_chain.is (g.touches.told ∙ told_b z) in
            let j = under_length h.nodes in
            let i = length-append (blocks_under h.nodes) (chain_blocks t c) in
            omega (arith, x.used, used, after, none, n, k, j, i, words);
      }

  level_leads : IsTrue s.device.told → LeadToNodes t level h.nodes
  level_leads z = nodes_lead [] b t g.touches (told_b z) level h.nodes (apart_none (blocks_under h.nodes))
      (h.told (told_a z)).leads

  level_over : {es : List Entry} → IsTrue s.device.told → IsListing s list es → entries_below t h.nodes ≡ es
  level_over z x = below_stays [] b t g.touches (told_b z) level h.nodes (apart_none (blocks_under h.nodes))
      (h.told (told_a z)).leads ∙ (level_all z x).0

  level_several : IsTrue s.device.told → 2 * fan_of s.pool.shape ≤ count → 1 < length h.nodes
  level_several z many =
      let low = fan_low s.pool.shape sound.shape in
      let k = h.told (told_a z) in
      let size = k.size in
      let shape = ap fan_of (h.session.touches.shape ∙ l.touches.shape) in
      several_nodes b level h.nodes (omega (arith, low, shape)) k.leads (omega (arith, size, many, shape))

  pub raised_level : 2 * fan_of s.pool.shape ≤ count → RaisedLevel s t list level c
  raised_level many =
      let low = fan_low s.pool.shape sound.shape in
      let more = h.many in
      record {
        nodes = h.nodes;
        takes = level_takes;
        chain = level_chain.is;
        count_is = h.count_is;
        blocks_most = h.blocks_most;
        many = omega (arith, more, all);
        told = λ z es x.
            let leads = level_leads z in
            let over = level_over z x in
            let several = level_several z many in
            let shape = ap fan_of level_takes.session.touches.shape in
            record {
              leads = leads;
              over = over;
              listing = record {
                some = omega (arith, several);
                items = level_chain.items (told_b z) ∙ h.items (told_a z);
                fresh = subst (λ (n : ℕ). AreFreshEntries n h.nodes) (sym g.touches.blocks) h.fresh;
                rises = nodes_rise t level h.nodes (omega (arith, low, shape)) leads
                    (subst (λ (xs : List Entry). LowsRise xs) (sym over) x.rises);
              };
            };
      }

pub raises_level : {s a b t : RigState} {list : Chain} {r : Reader} {count : ℕ} (level : ℕ) (q : Reader)
    (result : Result Chain EmFault) → Sound s → CanRaise s list → count ≡ list.count / 2 → LendsFrame s a
    → Unmoved s a → Opens s a list true r → WritesLevel a b r q level count result → GivesFrame [] b t
    → Unmoved b t → 2 * fan_of s.pool.shape ≤ count → RaisesLevel s t list level result
raises_level level q (Ok c) sound can all l m o h g v many = raised_level sound can all l m o h g v many
raises_level {list = list} level q (Err e) sound can all l m o h g v many =
    let few = h.1 in
    around_stops l m o g v (3 * h.0) (6 * h.0 + 1) (omega (arith, few, all)) (omega (arith, few, all)) h.2
