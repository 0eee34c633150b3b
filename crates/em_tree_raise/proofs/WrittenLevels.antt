-- The nodes of a level, with the writer of their list from its start to its end.
use Rattle.std.proofs.Common.{◌≡◌, true, ℕ, ◌+◌, ◌*◌, ◌<◌, ◌≤◌, min, List, [], ◌++◌, length, sym, ap, ◌∙◌, subst, arith, append_assoc, IsTrue, Result, Ok, Err}
use Rattle.std.specs.Prelude.{IfErr, IfOk}
use Rattle.std.proofs.lemmas.List.{append-nil}
use Rattle.em_record.specs.Shape.{ShapeNumbers}
use Rattle.em_record.specs.declared.record.Record.{Record}
use Rattle.em_frames.specs.Pool.{HasFrames, PoolCounts, SameFrames, singles_of}
use Rattle.em_space.specs.Free.{Off}
use Rattle.em_space.specs.Held.{Apart}
use Rattle.em_space.specs.Ledger.{Halts, Session, Spends}
use Rattle.em_space.specs.Queue.{Pays}
use Rattle.em_space.specs.Rig.{DeviceCause, RigState}
use Rattle.em_space.specs.declared.fault.EmFault.{EmFault}
use Rattle.em_space.proofs.Apart.{off_right}
use Rattle.em_space.proofs.Held.{apart_none}
use Rattle.em_space.proofs.Ledgers.{full_by, full_never}
use Rattle.em_space.proofs.Lists.{apart_right, apart_sym, distinct_apart}
use Rattle.em_space.proofs.Paying.{pays_more, pays_then}
use Rattle.em_space.proofs.Sessions.{session_as, session_last, session_still, session_trans}
use Rattle.em_space.proofs.Steps.{cause_after, device_block_cause, device_cause, touches_then, touches_trans}
use Rattle.em_space.proofs.Within.{within_kept, within_same}
use Rattle.em_chain.specs.Chain.{chain_blocks}
use Rattle.em_chain.specs.Effects.{GivesFrame, LendsFrame, Unmoved}
use Rattle.em_chain.specs.Parts.{IsPair}
use Rattle.em_chain.specs.Reader.{IsReader, ReaderStays, rest_of}
use Rattle.em_chain.specs.Session.{FinishSpends, chain_account, writer_account}
use Rattle.em_chain.specs.Writer.{filled, writer_blocks}
use Rattle.em_chain.specs.Writes.{Begins, Finishes}
use Rattle.em_chain.specs.declared.chain.Chain.{Chain}
use Rattle.em_chain.specs.declared.reader.Reader.{Reader}
use Rattle.em_chain.specs.declared.writer.Writer.{Writer}
use Rattle.em_chain.proofs.Keeps.{lent_given, lent_same, touches_none}
use Rattle.em_chain.proofs.Parts.{has_lent}
use Rattle.em_chain.proofs.Paying.{pays_unmoved}
use Rattle.em_chain.proofs.Readers.{reader_stays}
use Rattle.em_chain.proofs.Writings.{cause_still, halts_between}
use Rattle.em_tree_raise.specs.Levels.{StopsLevel, WritesLevel, WrittenLevel}
use Rattle.em_tree_raise.specs.Listing.{listed}
use Rattle.em_tree_raise.specs.Nodes.{RaisingNodes, StandOverNext, StopsNodes, level_blocks}
use Rattle.em_tree_raise.specs.Raising.{AreFreshEntries, blocks_under}
use Rattle.em_tree_raise.specs.Subtrees.{HasLeft}
use Rattle.em_tree_raise.proofs.BuiltNodes.{leaves_stay}
use Rattle.em_tree_raise.proofs.ListedNodes.{blocks_low}
use Rattle.em_tree_raise.proofs.Listings.{listed_length}
use Rattle.em_tree_raise.proofs.RaisedNodes.{raising_pair}
use Rattle.em_tree_raise.proofs.Stands.{over_stays}

-- A frame of a reader is out after others came back.
reader_out : {p m n : PoolCounts} (r q : Reader) → HasFrames 1 (length r.frame) p → SameFrames p n
    → HasFrames 1 (length q.frame) m → m.shape ≡ p.shape → HasFrames 1 (length q.frame) n
reader_out r q h e k shape =
    let size = ap singles_of e.shape in
    let free = e.free in
    let out = h.out in
    record {
      len_is = k.len_is ∙ (ap (λ (n : ShapeNumbers). n.block) shape
          ∙ sym (ap (λ (n : ShapeNumbers). n.block) e.shape));
      out = omega (arith, size, free, out);
    }

-- A writer was made beside a reader.
module _ {s a : RigState} {r : Reader} {w : Writer} (reads : IsReader s r) (l : LendsFrame s a) (b : Begins a w)
  where
    pub begins_reader : ReaderStays s a r
    begins_reader = reader_stays [] s a r l.touches (λ z. apart_none (chain_blocks s (rest_of r)))
        (has_lent 1 (length r.frame) s.pool a.pool l.frames reads.frame) reads

    pub begins_pair : r.taking ≡ true → IsPair a r w
    begins_pair taking = record {
      reader = begins_reader.is;
      writer = b.is;
      taking = taking;
      apart = λ y. subst (λ (ks : List ℕ). Apart ks (chain_blocks a (rest_of r))) (sym b.held) tt;
    }

    pub begins_left : {n : ℕ} → (IsTrue s.device.told → HasLeft s r [] n) → IsTrue a.device.told
        → HasLeft a r [] n
    begins_left h y =
        let z = sym l.touches.told ∙ y in
        let x = h z in
        record {
          entries = x.entries;
          leaves = leaves_stay begins_reader l.touches.blocks z x.leaves;
          rises = x.rises;
          many = x.many;
        }

    begins_blocks : IsTrue s.device.told → level_blocks a r w ≡ chain_blocks s (rest_of r)
    begins_blocks z = ap (λ (ks : List ℕ). chain_blocks a (rest_of r) ++ ks) b.held
        ∙ (append-nil (chain_blocks a (rest_of r)) ∙ begins_reader.blocks z)

    -- No node could be raised any more, and the writer was abandoned.
    pub level_stops : {c t : RigState} {e : EmFault} (n : ℕ) → Unmoved s a → StopsNodes a c r w n e
        → GivesFrame [] c t → Unmoved c t → StopsLevel s t r n e
    level_stops {c} {t} {e} n m h g v =
        let k = halts_between m h.halts v in
        let none = b.blocks in
        let fill = b.filled_is in
        record {
          goes = record {
            sound = g.sound;
            touches = touches_then (chain_blocks s (rest_of r)) s c t
                (touches_trans (chain_blocks s (rest_of r)) (level_blocks a r w) s a c
                (touches_none (chain_blocks s (rest_of r)) s a l.touches) h.goes.touches
                (λ z j i o. subst (λ (ks : List ℕ). Off j ks) (sym (begins_blocks z)) o)) g.touches;
            frames = lent_given s.pool c.pool t.pool
                (lent_same 1 s.pool a.pool c.pool l.frames h.goes.frames) g.frames;
          };
          halts = record {
            used = omega (arith, k.used, none, fill);
            full = full_by e (t.used + (r.blocks + w.blocks) < s.used + (r.blocks + (filled a w + 3 * n)))
                (t.used + r.blocks < s.used + (r.blocks + 3 * n)) (λ o. omega (arith, o, none, fill)) k.full;
            most = omega (arith, k.most, none, fill);
            moves = omega (arith, k.moves, none, fill);
            later = k.later;
            pays = pays_more k.pays (omega (arith, none));
          };
          cause = cause_still s c t e v g.touches (cause_after [] s a c e l.touches h.cause);
        }

    -- All were raised,
    module _ {c : RigState} {q : Reader} {v : Writer} {level count : ℕ} (m : Unmoved s a)
        (h : RaisingNodes a c r q w v level count 0) where
      level_session : Session (chain_blocks s (rest_of r)) s c
          ((blocks_under h.nodes ++ chain_blocks c (rest_of q)) ++ writer_blocks c v)
      level_session =
          let held = chain_blocks s (rest_of r) in
          let x = session_as (level_blocks a r w)
          (session_still held l.sound l.touches (λ z. (reads.chain.told z).holds)) begins_blocks in
          session_as ((blocks_under h.nodes ++ chain_blocks c (rest_of q)) ++ writer_blocks c v)
          (session_trans x h.lists.runs.session)
          (λ z. append_assoc (blocks_under h.nodes) (chain_blocks c (rest_of q)) (writer_blocks c v))

      level_filled : v.blocks ≤ 2 * length h.nodes
      level_filled =
          let low = blocks_low c v h.lists.runs.session.sound.shape.block_low h.lists.wrote.is in
          let fill = h.lists.wrote.filled_is in
          let none = b.filled_is in
          let two = listed_length h.nodes in
          omega (arith, low, fill, none, two)

      level_pays : Pays 0 (min v.blocks 1) s c
      level_pays =
          let none = b.blocks in
          let later = h.lists.runs.spends.later in
          pays_then (pays_unmoved 0 m) (pays_more h.lists.runs.spends.pays (omega (arith, none))) later

      level_many : 16 * length h.nodes ≤ count
      level_many = let all = h.all in let many = h.many in omega (arith, all, many)

      -- and the writer was finished,
      module _ {t : RigState} (taking : r.taking ≡ true) (g : GivesFrame (writer_blocks c v) c t) where
        level_frames : SameFrames s.pool t.pool
        level_frames = lent_given s.pool c.pool t.pool
            (lent_same 1 s.pool a.pool c.pool l.frames h.lists.runs.frames) g.frames

        level_out : HasFrames 1 (length q.frame) t.pool
        level_out = reader_out r q reads.frame level_frames h.lists.took.is.frame
            (h.lists.runs.session.touches.shape ∙ l.touches.shape)

        level_reader : ReaderStays c t q
        level_reader =
            let pair = raising_pair taking h in
            reader_stays (writer_blocks c v) c t q g.touches
            (λ y. apart_sym (writer_blocks c v) (chain_blocks c (rest_of q)) (pair.apart y)) level_out pair.reader

        level_told : IsTrue s.device.told → IsTrue c.device.told
        level_told z = h.lists.took.told ∙ (l.touches.told ∙ z)

        level_over : IsTrue s.device.told → StandOverNext s t r q level count h.nodes
        level_over z =
            let y = level_told z in
            let all : h.taken ≡ count = let e = h.all in omega (arith, e) in
            let rs = chain_blocks c (rest_of q) in
            let ws = writer_blocks c v in
            let bs = blocks_under h.nodes in
            let za = l.touches.told ∙ z in
            let d = distinct_apart bs (rs ++ ws) ((h.lists.runs.session.holds za).distinct y) in
            let apart : Apart bs ws = apart_sym ws bs (apart_right rs ws bs (apart_sym bs (rs ++ ws) d)) in
            let x = over_stays ws (h.lists.told za) g.touches y apart level_reader in
            subst (λ (n : ℕ). StandOverNext s t r q level n h.nodes) all (record {
              leads = x.leads;
              size = x.size;
              takes = λ fs o. x.takes fs (leaves_stay begins_reader l.touches.blocks z o);
            })

        -- which gave the list,
        pub written_level : (o : Chain) → Finishes c t v o
            → Spends v.blocks (writer_account v) (chain_account (min v.blocks 1) o) c t
            → WrittenLevel s t r q level count o
        written_level o f k =
            let bs = blocks_under h.nodes in
            let rs = chain_blocks c (rest_of q) in
            let ws = writer_blocks c v in
            let ks = chain_blocks t o in
            let x = h.lists.runs.spends in
            let none = b.blocks in
            let fill = b.filled_is in
            let zero_count = b.count in
            let few = h.lists.took.fewer in
            let low = level_filled in
            let blocks = f.blocks_is in
            let used = m.same.used in
            let most = m.same.most in
            let moves = m.moves in
            let two = listed_length h.nodes in
            let count_v = h.lists.wrote.count_is in
            let count_o = f.count_is in
            let last : Session ws c t ks = record {
              sound = g.sound;
              touches = g.touches;
              within = within_kept c ws ws ks (within_same c ws) f.blocks;
              holds = λ y. (f.is.told (g.touches.told ∙ y)).holds;
            } in
            record {
              nodes = h.nodes;
              session = session_as (bs ++ (chain_blocks t (rest_of q) ++ ks))
                  (session_last (bs ++ rs) ws ks level_session last)
                  (λ z. ap (λ (js : List ℕ). bs ++ (js ++ ks)) (level_reader.blocks (level_told z))
                  ∙ sym (append_assoc bs rs ks));
              frames = level_frames;
              spends = record {
                held = omega (arith, few, low, blocks);
                used = omega (arith, x.used, k.used, used, none);
                most = omega (arith, x.most, x.used, k.most, most, used, none, fill, few, low);
                moves = omega (arith, x.moves, k.moves, moves, none);
                later = omega (arith, x.later, k.later, moves);
                pays = pays_then level_pays k.pays k.later;
              };
              reader = level_reader.is;
              chain = f.is;
              count_is = omega (arith, count_o, count_v, zero_count, two);
              blocks_most = omega (arith, blocks, low);
              many = level_many;
              fresh = subst (λ (n : ℕ). AreFreshEntries n h.nodes) (sym g.touches.blocks) h.lists.fresh;
              items = λ z. f.items (level_told z) ∙ (h.lists.wrote.items (l.touches.told ∙ z)
                  ∙ ap (λ (xs : List Record). xs ++ listed h.nodes) b.items);
              told = level_over;
            }

        -- or couldn't be.
        pub unfinished_level : {e : EmFault}
            → Halts v.blocks (2 * v.blocks + min v.blocks 1) (min v.blocks 1) (writer_account v) c t e
            → DeviceCause c t e → StopsLevel s t r (length h.nodes) e
        unfinished_level {e} k cause =
            let held = chain_blocks s (rest_of r) in
            let bs = blocks_under h.nodes in
            let rs = chain_blocks c (rest_of q) in
            let ws = writer_blocks c v in
            let x = h.lists.runs.spends in
            let none = b.blocks in
            let fill = b.filled_is in
            let few = h.lists.took.fewer in
            let low = level_filled in
            let used = m.same.used in
            let most = m.same.most in
            let moves = m.moves in
            record {
              goes = record {
                sound = g.sound;
                touches = touches_trans held ws s c t level_session.touches g.touches
                    (λ z j i o. off_right j (bs ++ rs) ws (level_session.within.off z j i o));
                frames = level_frames;
              };
              halts = record {
                used = omega (arith, x.used, k.used, used, none, few, low);
                full = full_never c t e (t.used + r.blocks < s.used + (r.blocks + 3 * length h.nodes))
                    (device_block_cause c t e cause);
                most = omega (arith, x.most, x.used, k.most, most, used, none, fill, few, low);
                moves = omega (arith, x.moves, k.moves, moves, none, low);
                later = omega (arith, x.later, k.later, moves);
                pays = pays_then level_pays (pays_more k.pays (omega arith)) k.later;
              };
              cause = cause_after held s c t e level_session.touches (device_cause c t e cause);
            }

        pub writes_level : (result : Result Chain EmFault) → IfOk result (λ o. Finishes c t v o)
            → FinishSpends c t v result → IfErr result (DeviceCause c t) → WritesLevel s t r q level count result
        writes_level (Ok o) f k x = written_level o f k
        writes_level (Err e) f k x = (length h.nodes, level_many, unfinished_level k x)
