-- Operations that were pushed into a tree one after another: meaning, blocks and numbers.
use Rattle.std.specs.Prelude.{◌≡◌, ℕ, suc, ◌+◌, ◌<◌, ◌≤◌, max, List, [], ◌∷◌, ◌++◌, length, take, drop, get_or, IsTrue, Option, Some, None, option_to_list}
use Rattle.std.proofs.Common.{sym, ap, subst, ◌∙◌, refl, arith, append_assoc, take-suc}
use Rattle.std.proofs.Math.Seq.{drop-cons}
use Rattle.std.specs.List.Sorted.{IsPermutation}
use Rattle.std.proofs.lemmas.List.{append-nil, length-append, length-drop}
use Rattle.std.proofs.lemmas.List.Sorted.{IsPermutation-append_left, IsPermutation-refl, IsPermutation-trans, length_permutation}
use Rattle.em_record.specs.Shape.{IsShape, ShapeNumbers, payload_of}
use Rattle.em_record.specs.declared.record.Record.{Record}
use Rattle.em_model.specs.Map.{Combiner}
use Rattle.em_settle.specs.Add.{IsAddOp, add_step_of}
use Rattle.em_settle.specs.Map.{IsMapKept, map_key_of}
use Rattle.em_settle.specs.States.{Stored, answers_to, with_op, with_ops}
use Rattle.em_settle.specs.declared.step.Step.{Step}
use Rattle.em_settle.proofs.States.{answers_append, answers_same, left_append, same_after}
use Rattle.em_frames.specs.Device.{zero_record}
use Rattle.em_space.specs.Queue.{Pays}
use Rattle.em_space.specs.Rig.{RigState, Sound}
use Rattle.em_space.specs.declared.fault.EmFault.{EmFault}
use Rattle.em_space.proofs.Ledgers.{full_by}
use Rattle.em_space.proofs.Paying.{pays_kept, pays_then}
use Rattle.em_space.proofs.Sessions.{session_none, session_trans}
use Rattle.em_space.proofs.Steps.{cause_after, same_frames, same_frames_then}
use Rattle.em_space.proofs.Within.{goes_within}
use Rattle.em_chain.specs.Counts.{ceiling}
use Rattle.em_chain.specs.List.{items_in}
use Rattle.em_chain.specs.Writer.{writer_contents}
use Rattle.em_chain.proofs.Sessions.{ceiling_rises}
use Rattle.em_tree_cost.specs.Books.{TreeCounts, count_push}
use Rattle.em_tree_cost.specs.Shares.{tree_room}
use Rattle.em_tree_cost.proofs.Books.{books_share}
use Rattle.em_tree_cost.proofs.Rising.{tree_room_rises}
use Rattle.em_tree_model.specs.Meaning.{tree_answers, tree_contents}
use Rattle.em_tree_model.specs.Owed.{owed}
use Rattle.em_tree_model.specs.Tree.{Tree, waiting_at}
use Rattle.em_tree_model.proofs.Advances.{advances_then}
use Rattle.em_tree.specs.Calls.{ChangesTrunk, CountsCall, KeepsShare, StopsTrunk}
use Rattle.em_trunk.specs.Meaning.{LeavesMeaning}
use Rattle.em_trunk.specs.Room.{FullOverRoom, WithinRoom}
use Rattle.em_trunk.specs.Trunk.{IsTrunk, counts_of, given_by, model_of, trunk_blocks, trunk_unstored}
use Rattle.em_trunk.specs.declared.trunk.Trunk.{Trunk}
use Rattle.em_trunk.proofs.Rooms.{answers_blocks}
use Rattle.em_map.specs.Loading.{CountsPushes, LoadOver, LoadWithin, answers_in}

-- the first operations of a list with the next one, and those from that one on
pub next_taken : (ops : List Record) (n : ℕ) → n < length ops
    → take (n + 1) ops ≡ take n ops ++ get_or ops n zero_record ∷ []
next_taken ops n h =
    let e : n + 1 ≡ suc n = omega arith in
    ap (λ (i : ℕ). take i ops) e ∙ take-suc ops n zero_record h

pub next_dropped : (ops : List Record) (n : ℕ) → n < length ops
    → drop n ops ≡ get_or ops n zero_record ∷ drop (n + 1) ops
next_dropped ops n h =
    let e : suc n ≡ n + 1 = omega arith in
    drop-cons ops n zero_record h ∙ ap (λ (i : ℕ). get_or ops n zero_record ∷ drop i ops) e

module _ (key : Record → Record) (step : Option Record → Record → Step) where
  -- what is left of a tree's meaning by no call,
  meaning_none : (given : List Record) (t : Tree) → LeavesMeaning key step [] given t given t
  meaning_none given t = record {
    contents = λ q. refl;
    answers = subst (λ (zs : List Record). IsPermutation zs (tree_answers key step given t))
        (sym (append-nil (tree_answers key step given t))) (IsPermutation-refl (tree_answers key step given t));
    advances = λ q. record { first = []; parts = append-nil (waiting_at key t q); left = refl };
  }

  -- and by two calls, one after the other
  meaning_then : (xs ys given gave told : List Record) (t u v : Tree) → LeavesMeaning key step xs given t gave u
      → LeavesMeaning key step ys gave u told v → LeavesMeaning key step (xs ++ ys) given t told v
  meaning_then xs ys given gave told t u v a b =
      let old = tree_contents key step t in
      let mid = tree_contents key step u in
      let all = tree_answers key step given t in
      let first = answers_to key step old xs in
      let last = answers_to key step mid ys in
      let whole : (all ++ first) ++ last ≡ all ++ answers_to key step old (xs ++ ys) =
      append_assoc all first last ∙ ap (λ (zs : List Record). all ++ zs)
      (ap (λ (zs : List Record). first ++ zs) (answers_same key step mid (with_ops key step old xs) ys a.contents)
      ∙ sym (answers_append key step old xs ys)) in
      record {
        contents = λ q. b.contents q ∙ (same_after key step mid (with_ops key step old xs) ys a.contents q
            ∙ sym (ap (λ (m : Stored). m q) (left_append key step old xs ys)));
        answers = subst (λ (zs : List Record). IsPermutation zs (tree_answers key step told v)) whole
            (IsPermutation-trans ((all ++ first) ++ last) (tree_answers key step gave u ++ last)
            (tree_answers key step told v)
            (IsPermutation-append_left last (all ++ first) (tree_answers key step gave u) a.answers) b.answers);
        advances = λ q. advances_then key step t u v xs ys q (a.advances q) (b.advances q);
      }

  module _ (IsOp IsKept : Record → Type 0) where
    -- No operation was pushed,
    pub changes_none : (s : RigState) (v : Trunk) → Sound s → IsTrunk key IsOp IsKept s v
        → ChangesTrunk key step IsOp IsKept [] s s v v
    changes_none s v sound is = record {
      is = is;
      session = session_none s (trunk_blocks s v) sound (λ told. (is.running.stands told).holds);
      frames = same_frames s.pool;
      pays = pays_kept (trunk_unstored v) (omega arith) (omega arith);
      loses = λ told. refl;
      meaning = λ told. meaning_none (given_by s v) (model_of s v);
    }

    -- or some were, and then others.
    pub changes_then : (xs ys : List Record) (s m t : RigState) (v x w : Trunk)
        → ChangesTrunk key step IsOp IsKept xs s m v x → ChangesTrunk key step IsOp IsKept ys m t x w
        → ChangesTrunk key step IsOp IsKept (xs ++ ys) s t v w
    changes_then xs ys s m t v x w a b = record {
      is = b.is;
      session = session_trans a.session b.session;
      frames = same_frames_then s.pool m.pool t.pool a.frames b.frames;
      pays = pays_then a.pays b.pays b.session.touches.moves;
      loses = λ told.
          let p = a.loses told in
          let q = b.loses (a.session.touches.told ∙ told) in
          omega (arith, p, q);
      meaning = λ told. meaning_then xs ys (given_by s v) (given_by m x) (given_by t w) (model_of s v)
          (model_of m x) (model_of t w) (a.meaning told) (b.meaning (a.session.touches.told ∙ told));
    }

    -- The call after them gave up.
    pub stops_after : (xs : List Record) (s m t : RigState) (v x w : Trunk) (fault : EmFault)
        → ChangesTrunk key step IsOp IsKept xs s m v x → StopsTrunk m t x w fault → StopsTrunk s t v w fault
    stops_after xs s m t v x w fault a b = record {
      goes = goes_within (trunk_blocks s v) (trunk_blocks m x) s m t
          (record { sound = a.session.sound; touches = a.session.touches; frames = a.frames })
          a.session.within b.goes;
      frames = b.frames;
      pays = pays_then a.pays
          (subst (λ (n : ℕ). Pays (trunk_unstored x) n m t)
          (ap (λ (p : ShapeNumbers). p.frames) a.session.touches.shape) b.pays) b.goes.touches.moves;
      cause = cause_after (trunk_blocks s v) s m t fault a.session.touches b.cause;
    }

-- The numbers of a tree after no push,
pub counts_none : (s : RigState) (v : Trunk) → Sound s → IsTrunk map_key_of IsAddOp IsMapKept s v
    → CountsPushes 0 s s v v
counts_none s v sound is = record {
  pushed = omega arith;
  longest = omega arith;
  resets = refl;
  settled = refl;
  adopted = refl;
  counted = refl;
  spent = refl;
  share = λ told. record { within = books_share sound.shape (is.books told) };
}

-- after one push more,
pub counts_then : (n : ℕ) (s m t : RigState) (v x w : Trunk) → x.since ≡ v.since + n
    → m.pool.shape ≡ s.pool.shape → m.device.told ≡ s.device.told → CountsPushes n s m v x
    → CountsCall (count_push 0) m t x w → CountsPushes (n + 1) s t v w
counts_then n s m t v x w since shape same a c =
    let pushed : w.pushed ≡ x.pushed + 1 = ap (λ (z : TreeCounts). z.n) c.counts in
    let longest : w.longest ≡ max x.longest (x.since + 1) = ap (λ (z : TreeCounts). z.k) c.counts in
    record {
      pushed = omega (arith, pushed, a.pushed);
      longest = omega (arith, longest, a.longest, since);
      resets = ap (λ (z : TreeCounts). z.z) c.counts ∙ a.resets;
      settled = ap (λ (z : TreeCounts). z.y) c.counts ∙ a.settled;
      adopted = ap (λ (z : TreeCounts). z.adopted) c.counts ∙ a.adopted;
      counted = ap (λ (z : TreeCounts). z.counted) c.counts ∙ a.counted;
      spent = omega (arith, a.spent, c.spent);
      share = λ told. subst (λ (g : ShapeNumbers). KeepsShare g (counts_of w)) shape (c.share (same ∙ told));
    }

-- and of a tree into which more may have been pushed.
pub counts_wider : (n l : ℕ) (s t : RigState) (v w : Trunk) → n ≤ l → CountsPushes n s t v w
    → CountsPushes l s t v w
counts_wider n l s t v w h a = record {
  pushed = omega (arith, h, a.pushed);
  longest = omega (arith, h, a.longest);
  resets = a.resets;
  settled = a.settled;
  adopted = a.adopted;
  counted = a.counted;
  spent = a.spent;
  share = a.share;
}

-- an option is one record at most
option_few : (o : Option Record) → length (option_to_list o) ≤ 1
option_few None = omega arith
option_few (Some x) = omega arith

-- each operation answers once at most
pub answers_most : (key : Record → Record) (step : Option Record → Record → Step) (m : Stored) (ops : List Record)
    → length (answers_to key step m ops) ≤ length ops
answers_most key step m [] = omega arith
answers_most key step m (op ∷ ops) =
    let o = (step (m (key op)) op).answer in
    let rest = answers_to key step (with_op key step m op) ops in
    let one = option_few o in
    let more = answers_most key step (with_op key step m op) ops in
    let sum = length-append (option_to_list o) rest in
    omega (arith, one, more, sum)

-- the answers that a tree gave are those in its list
pub given_count : (s : RigState) (v : Trunk) → IsTrunk map_key_of IsAddOp IsMapKept s v → IsTrue s.device.told
    → length (given_by s v) ≡ v.answers.count
given_count s v is told =
    let w = v.answers in
    let count = (is.running.answers.told told).list.count_is in
    let n = length-drop w.skip (items_in (writer_contents s w)) in
    omega (arith, count, n)

-- After some pushes a tree gave no more answers than it gave or owed before, and one to each operation.
pub given_most : (apply : Combiner) (ops : List Record) (s m : RigState) (v x : Trunk) → IsTrue s.device.told
    → ChangesTrunk map_key_of (add_step_of apply) IsAddOp IsMapKept ops s m v x
    → x.answers.blocks ≤ ceiling (answers_in apply s v + length ops) (payload_of m.pool.shape)
given_most apply ops s m v x told a =
    let here : IsTrue m.device.told = a.session.touches.told ∙ told in
    let step = add_step_of apply in
    let old = tree_answers map_key_of step (given_by s v) (model_of s v) in
    let came = answers_to map_key_of step (tree_contents map_key_of step (model_of s v)) ops in
    let owes = owed map_key_of step (model_of m x) in
    let all = length_permutation (old ++ came) (given_by m x ++ owes) (a.meaning told).answers in
    let before = length-append old came in
    let after = length-append (given_by m x) owes in
    let few = answers_most map_key_of step (tree_contents map_key_of step (model_of s v)) ops in
    let count = given_count m x a.is here in
    let is = a.session.sound.shape in
    let low = is.block_low in
    let blocks = answers_blocks a.is.running is here in
    let rises = ceiling_rises x.answers.count (answers_in apply s v + length ops) (payload_of m.pool.shape)
    (omega (arith, low)) (omega (arith, all, before, after, few, count)) in
    omega (arith, blocks, rises)

-- The room of some pushes, and of the next one.
module _ (k j l g h : ℕ) (s m t : RigState) (v x : Trunk) (is : IsShape s.pool.shape)
    (same : m.pool.shape ≡ s.pool.shape) (loses : m.used + length (trunk_blocks s v) ≡ s.used + length (trunk_blocks m x))
    (few : x.answers.blocks ≤ ceiling h (payload_of s.pool.shape)) (next : j ≤ l) where
  here : tree_room m.pool.shape j ≡ tree_room s.pool.shape j
  here = ap (λ (z : ShapeNumbers). tree_room z j) same

  pub within_then : k ≤ l → g ≤ h → LoadWithin k g s m v → WithinRoom j m t x → LoadWithin l h s t v
  within_then first more a b =
      let p = a.most in
      let q = b.most in
      let low = is.block_low in
      let old = tree_room_rises s.pool.shape k l first in
      let new = tree_room_rises s.pool.shape j l next in
      let rises = ceiling_rises g h (payload_of s.pool.shape) (omega (arith, low)) more in
      let e = here in
      record { most = omega (arith, p, q, old, new, rises, e, few, loses) }

  -- one that was full
  pub over_then : m.blocks ≡ s.blocks → (fault : EmFault) → FullOverRoom j m x fault → LoadOver l h s v fault
  over_then blocks fault o =
      let new = tree_room_rises s.pool.shape j l next in
      let e = here in
      let shape = s.pool.shape in
      record {
        full = full_by fault
            (m.blocks + length (trunk_blocks m x) < m.used + (tree_room m.pool.shape j + x.answers.blocks))
            (s.blocks + length (trunk_blocks s v)
            < s.used + (tree_room shape l + ceiling h (payload_of shape)))
            (λ f. omega (arith, f, new, e, few, loses, blocks)) o.full;
      }

-- More operations and answers have no less room,
pub room_wider : (k l g h : ℕ) (s t : RigState) (v : Trunk) → IsShape s.pool.shape → k ≤ l → g ≤ h
    → LoadWithin k g s t v → LoadWithin l h s t v
room_wider k l g h s t v is first more a =
    let p = a.most in
    let low = is.block_low in
    let old = tree_room_rises s.pool.shape k l first in
    let rises = ceiling_rises g h (payload_of s.pool.shape) (omega (arith, low)) more in
    record { most = omega (arith, p, old, rises) }

-- also for a call that was full.
pub over_wider : (k l g h : ℕ) (s : RigState) (v : Trunk) (fault : EmFault) → IsShape s.pool.shape → k ≤ l → g ≤ h
    → LoadOver k g s v fault → LoadOver l h s v fault
over_wider k l g h s v fault is first more a =
    let low = is.block_low in
    let shape = s.pool.shape in
    let held = length (trunk_blocks s v) in
    let old = tree_room_rises shape k l first in
    let rises = ceiling_rises g h (payload_of shape) (omega (arith, low)) more in
    record {
      full = full_by fault (s.blocks + held < s.used + (tree_room shape k + ceiling g (payload_of shape)))
          (s.blocks + held < s.used + (tree_room shape l + ceiling h (payload_of shape)))
          (λ f. omega (arith, f, old, rises)) a.full;
    }
