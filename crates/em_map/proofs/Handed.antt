-- A tree that was settled, whose answers were then handed out and discarded.
use Rattle.std.specs.Prelude.{◌≡◌, ℕ, ◌+◌, ◌*◌, ◌≤◌, List, [], ◌++◌, length, IsTrue, Result, Ok, Err, IfErr}
use Rattle.std.proofs.Common.{sym, ap, subst, ◌∙◌, arith}
use Rattle.std.proofs.lemmas.List.{length-append}
use Rattle.std.proofs.lemmas.List.Sorted.{length_permutation}
use Rattle.em_record.specs.Cost.{room}
use Rattle.em_record.specs.Shape.{ShapeNumbers, payload_of}
use Rattle.em_model.specs.Map.{Combiner}
use Rattle.em_settle.specs.Add.{IsAddOp, add_step_of}
use Rattle.em_settle.specs.Map.{IsMapKept, map_key_of}
use Rattle.em_frames.specs.Pool.{singles_of}
use Rattle.em_space.specs.Ledger.{Session}
use Rattle.em_space.specs.Rig.{BlockCause, Goes, RigState}
use Rattle.em_space.specs.declared.fault.EmFault.{EmFault}
use Rattle.em_space.proofs.Ledgers.{full_by, full_never}
use Rattle.em_space.proofs.Paying.{pays_kept, pays_more, pays_then}
use Rattle.em_space.proofs.Sessions.{session_as, session_others, session_then, session_trans}
use Rattle.em_space.proofs.Steps.{block_cause, cause_after, same_frames_then}
use Rattle.em_space.proofs.Within.{goes_within, within_left, within_then}
use Rattle.em_chain.specs.Chain.{chain_blocks}
use Rattle.em_chain.specs.Counts.{ceiling}
use Rattle.em_chain.specs.Row.{Frees}
use Rattle.em_chain.specs.declared.chain.Chain.{Chain}
use Rattle.em_tree_cost.specs.Books.{TreeCounts, count_settle}
use Rattle.em_tree_model.specs.Meaning.{tree_contents}
use Rattle.em_tree_model.specs.Tree.{Tree, stored_in, waiting_in}
use Rattle.em_tree_outline.specs.Outline.{outline_of}
use Rattle.em_tree_trim.specs.Trim.{IsTrim}
use Rattle.em_tree.specs.Calls.{CountsCall, FullIfUntrim, KeepsShare, SettledTrunk}
use Rattle.em_tree.specs.Handing.{HandedAnswers, StopsHanding}
use Rattle.em_trunk.specs.Room.{FullOverRoom, WithinRoom}
use Rattle.em_trunk.specs.Trunk.{TrunkHasFrames, counts_of, model_of, root_of, trunk_blocks, trunk_unstored}
use Rattle.em_trunk.specs.declared.trunk.Trunk.{Trunk}
use Rattle.em_trunk.proofs.Rooms.{answers_blocks}
use Rattle.em_trunk.proofs.Stays.{TrunkStays, trunk_stays}
use Rattle.em_map.specs.Handing.{CountsKeeping, DiscardedAnswers, DiscardsAnswers, KeepsPairs, KeptPairs, StopsDiscarding}
use Rattle.em_map.specs.Loading.{answers_in}
use Rattle.em_map.proofs.Pushing.{given_count, stops_after}

-- The blocks of a chain were released.
discarded : {s t : RigState} (c : Chain) → Goes (chain_blocks s c) s t → Session (chain_blocks s c) s t []
discarded c g = record {
  sound = g.sound;
  touches = g.touches;
  within = record { off = λ z j u o. tt };
  holds = λ z. record { in_use = tt; distinct = λ y. tt };
}

-- The answers of a tree couldn't be handed out.
pub unhanded_answers : (s t : RigState) (v w : Trunk) (e : EmFault) → StopsHanding s t v w e → StopsDiscarding s t v w e
unhanded_answers s t v w e g = record {
  stops = g.stops;
  full = full_never s t e ⊥ g.cause;
  most = g.same.most;
  counts = g.counts;
  moves = omega (arith, g.moves);
}

-- They were, in a chain of which all blocks were released, or some.
module _ (s u : RigState) (v w : Trunk) (c : Chain) (g : HandedAnswers map_key_of IsAddOp IsMapKept s u v w c) (t : RigState)
    (d : Goes (chain_blocks u c) u t) where
  told_u : IsTrue s.device.told → IsTrue u.device.told
  told_u z = g.session.touches.told ∙ z

  frames_out : TrunkHasFrames t w
  frames_out =
      let out = g.is.running.frames in
      let singles = ap singles_of d.touches.shape in
      record {
        buffer = out.buffer ∙ sym (ap (λ (p : ShapeNumbers). p.block) d.touches.shape);
        answers = out.answers ∙ sym (ap (λ (p : ShapeNumbers). p.block) d.touches.shape);
        out = omega (arith, out.out, d.frames.free, singles);
      }

  stays : TrunkStays map_key_of IsAddOp IsMapKept u t w
  stays = trunk_stays map_key_of IsAddOp IsMapKept (chain_blocks u c) u t w d.touches frames_out g.is
      (λ z. session_others (chain_blocks u c) (trunk_blocks u w) g.session (sym g.session.touches.told ∙ z))

  discarded_answers : t.moves ≤ u.moves + 2 * c.blocks → t.used + c.blocks ≡ u.used → t.most ≡ u.most
      → DiscardedAnswers s t v w
  discarded_answers moves used most = record {
    only = g.only;
    is = stays.is;
    session = session_as (trunk_blocks t w)
        (session_then (chain_blocks u c) [] (trunk_blocks u w) g.session (discarded c d))
        (λ z. (stays.reads (told_u z)).blocks);
    frames = same_frames_then s.pool u.pool t.pool g.frames d.frames;
    pays = pays_then g.pays (pays_kept (trunk_unstored w) (omega (arith, used)) d.touches.moves) d.touches.moves;
    loses = λ z.
        let lost = g.loses z in
        let blocks = (g.chain.told (told_u z)).list.blocks_is in
        let same = ap (λ (ks : List ℕ). length ks) (stays.reads (told_u z)).blocks in
        omega (arith, lost, length-append (chain_blocks u c) (trunk_blocks u w), blocks, same, used);
    released = omega (arith, used, g.blocks, g.same.used);
    most = most ∙ g.same.most;
    model = λ z. (stays.reads (told_u z)).model ∙ g.model z;
    given = λ z. (stays.reads (told_u z)).given ∙ g.none z;
    no_block = g.no_block;
    counts = g.counts;
    moves = omega (arith, moves, g.moves, g.blocks);
  }

  undiscarded : t.moves ≤ u.moves + 2 * c.blocks → t.used ≤ u.used → t.most ≡ u.most → (e : EmFault) → BlockCause u t e
      → StopsDiscarding s t v w e
  undiscarded moves used most e cause = record {
    stops = record {
      goes = goes_within (trunk_blocks s v) (chain_blocks u c) s u t
          (record { sound = g.session.sound; touches = g.session.touches; frames = g.frames })
          (within_then s u (trunk_blocks s v) (chain_blocks u c ++ trunk_blocks u w) (chain_blocks u c) g.session.touches
          g.session.within (within_left u (chain_blocks u c) (trunk_blocks u w))) d;
      frames = frames_out;
      pays = pays_more (pays_then g.pays (pays_kept (trunk_unstored w) used d.touches.moves) d.touches.moves)
          (let low = g.session.sound.shape.frames_low in
          let same = ap (λ (p : ShapeNumbers). p.frames) g.session.touches.shape in omega (arith, low, same));
      cause = cause_after (trunk_blocks s v) s u t e g.session.touches (block_cause u t e cause);
    };
    full = full_never u t e ⊥ cause;
    most = most ∙ g.same.most;
    counts = g.counts;
    moves = omega (arith, moves, g.moves, g.blocks);
  }

  -- by the result
  pub discards_by : {T : Type 0} (r : Result T EmFault) → Frees c.blocks u t r → IfErr r (BlockCause u t)
      → DiscardsAnswers s t v w r
  discards_by (Ok x) f cause = let moves = f.moves in discarded_answers (omega (arith, moves)) f.used f.most
  discards_by (Err e) f cause = let moves = f.moves in undiscarded (omega (arith, moves)) f.used_most f.most e cause

-- A tree was settled: all its answers are given. Then they were discarded.
module _ (apply : Combiner) (s m : RigState) (v x : Trunk)
    (f : SettledTrunk map_key_of (add_step_of apply) IsAddOp IsMapKept s m v x) where
  told_m : IsTrue s.device.told → IsTrue m.device.told
  told_m z = f.changes.session.touches.told ∙ z

  given_blocks : IsTrue s.device.told → x.answers.blocks ≡ ceiling (answers_in apply s v) (payload_of s.pool.shape)
  given_blocks z =
      let count = given_count m x f.changes.is (told_m z) in
      let all = length_permutation _ _ (f.settled z).answers in
      answers_blocks f.changes.is.running f.changes.session.sound.shape (told_m z)
      ∙ ap (λ n. ceiling n (payload_of m.pool.shape)) (sym count ∙ all)
      ∙ ap (λ p. ceiling (answers_in apply s v) (payload_of p)) f.changes.session.touches.shape

  module _ (t : RigState) (w : Trunk) where
    trim_kept : DiscardedAnswers m t x w → IsTrue s.device.told → IsTrim t.pool.shape w.level (outline_of (root_of t w))
    trim_kept d z =
        let model = d.model (told_m z) in
        let root : root_of t w ≡ root_of m x = cc in
        let level : w.level ≡ x.level = ap (λ (k : Trunk). k.level) d.only in
        subst (λ (q : ShapeNumbers). IsTrim q w.level (outline_of (root_of t w))) (sym d.session.touches.shape)
        (subst (λ (y : Tree). IsTrim m.pool.shape w.level (outline_of y)) (sym root)
        (subst (λ (l : ℕ). IsTrim m.pool.shape l (outline_of (root_of m x))) (sym level) (f.trim z)))

    held_kept : DiscardedAnswers m t x w → IsTrue s.device.told
        → length (trunk_blocks t w) ≤ room t.pool.shape (length (stored_in (model_of t w)))
    held_kept d z =
        let most = f.held z in
        let lost = d.loses (told_m z) in
        let R : ShapeNumbers → Tree → Type 0 = λ q y. length (trunk_blocks t w) ≤ room q (length (stored_in y)) in
        let few : R m.pool.shape (model_of m x) = omega (arith, most, lost, d.released) in
        subst (λ (q : ShapeNumbers). R q (model_of t w)) (sym d.session.touches.shape)
        (subst (R m.pool.shape) (sym (d.model (told_m z))) few)

    kept : DiscardedAnswers m t x w → KeptPairs apply s t v w
    kept d = record {
      is = d.is;
      session = session_trans f.changes.session d.session;
      frames = same_frames_then s.pool m.pool t.pool f.changes.frames d.frames;
      pays = pays_then f.changes.pays d.pays d.session.touches.moves;
      loses = λ z. let a = f.changes.loses z in let e = d.loses (told_m z) in omega (arith, a, e);
      contents = λ z q. ap (λ (y : Tree). tree_contents map_key_of (add_step_of apply) y q) (d.model (told_m z))
          ∙ (f.changes.meaning z).contents q;
      waiting = λ z. ap waiting_in (d.model (told_m z)) ∙ (f.settled z).waiting;
      given = λ z. d.given (told_m z);
      no_block = d.no_block;
      trim = trim_kept d;
      held = held_kept d;
    }

    -- the numbers
    counts_kept : CountsCall (count_settle 0) s m v x → counts_of w ≡ counts_of x → m.moves ≤ t.moves
        → t.moves ≤ m.moves + 1 + 2 * x.answers.blocks → CountsKeeping apply s t v w
    counts_kept c same later few =
        let spent : w.spent ≡ x.spent = ap (λ (n : TreeCounts). n.spent) same in
        record {
          counts = same ∙ c.counts ∙ ap (λ n. count_settle 0 (record (counts_of v) { spent = n })) (sym spent);
          later = omega (arith, later, f.changes.session.touches.moves);
          share = λ z. subst (λ (n : TreeCounts). KeepsShare s.pool.shape n) (sym same) (c.share z);
          moves = λ z. omega (arith, few, given_blocks z, spent, c.spent);
        }

    -- by the result of discarding
    pub keeps_by : {T : Type 0} (r : Result T EmFault) → DiscardsAnswers m t x w r → KeepsPairs apply s t v w r
    keeps_by (Ok y) d = kept d
    keeps_by (Err e) d = stops_after map_key_of (add_step_of apply) IsAddOp IsMapKept [] s m t v x w e f.changes d.stops

    pub counts_by : {T : Type 0} (r : Result T EmFault) → DiscardsAnswers m t x w r → CountsCall (count_settle 0) s m v x
        → CountsKeeping apply s t v w
    counts_by (Ok y) d c = counts_kept c d.counts d.session.touches.moves d.moves
    counts_by (Err e) d c = counts_kept c d.counts d.stops.goes.touches.moves d.moves

module _ (s m t : RigState) (v x w : Trunk) where
  -- Discarding needs no block.
  pub needs_by : {T : Type 0} (r : Result T EmFault) → DiscardsAnswers m t x w r → IfErr r (FullIfUntrim s v)
  needs_by (Ok y) d = tt
  needs_by (Err e) d = full_by e ⊥ _ (λ b. absurd b) d.full

  pub room_by : {T : Type 0} (k : ℕ) (r : Result T EmFault) → DiscardsAnswers m t x w r → WithinRoom k s m v
      → WithinRoom k s t v
  room_by k (Ok y) d h = record { most = omega (arith, h.most, d.most) }
  room_by k (Err e) d h = record { most = omega (arith, h.most, d.most) }

  pub over_by : {T : Type 0} (k : ℕ) (r : Result T EmFault) → DiscardsAnswers m t x w r
      → IfErr r (λ fault. IsTrue s.device.told → FullOverRoom k s v fault)
  over_by k (Ok y) d = tt
  over_by k (Err e) d = λ z. record { full = full_by e ⊥ _ (λ b. absurd b) d.full }
