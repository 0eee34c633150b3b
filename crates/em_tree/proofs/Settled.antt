-- A tree in which nothing waits any more: all answers were given, and it can be finished.
use Rattle.std.proofs.Common.{◌≡◌, ℕ, ◌-◌, List, [], ◌++◌, refl, sym, ap, ◌∙◌, subst, arith, IsTrue}
use Rattle.std.specs.Prelude.{Option}
use Rattle.std.specs.List.Sorted.{IsPermutation}
use Rattle.em_record.specs.declared.record.Record.{Record}
use Rattle.em_space.specs.Rig.{RigState}
use Rattle.em_space.proofs.Paying.{pays_then}
use Rattle.em_space.proofs.Sessions.{session_trans}
use Rattle.em_space.proofs.Steps.{same_frames_then}
use Rattle.em_chain.specs.Writer.{writer_items}
use Rattle.em_chain.specs.declared.chain.Chain.{Chain}
use Rattle.em_settle.specs.declared.step.Step.{Step}
use Rattle.em_tree_model.specs.Meaning.{tree_answers}
use Rattle.em_tree_model.specs.Tree.{Tree, waiting_in}
use Rattle.em_tree_model.specs.Tree.Tree.{end, entry, leaf}
use Rattle.em_tree_walk.proofs.Losses.{chain_length}
use Rattle.em_trunk.specs.Buffers.{NoneFrom}
use Rattle.em_tree.specs.Calls.{FinishedTrunk}
use Rattle.em_trunk.specs.Spots.{EachRead}
use Rattle.em_trunk.specs.Entries.{EachEntry}
use Rattle.em_tree.specs.Finishing.{ReleasedTrunk}
use Rattle.em_trunk.specs.Meaning.{IsSettled}
use Rattle.em_trunk.specs.Trunk.{IsRunning, given_by, model_of, root_of}
use Rattle.em_trunk.specs.Works.{Works, IsDrained}
use Rattle.em_trunk.specs.declared.trunk.Trunk.{Trunk}
use Rattle.em_trunk.proofs.Meaning.{settled_all}
use Rattle.em_trunk.specs.Lists.{GivenAnswers}
use Rattle.em_trunk.proofs.TrunkLists.{no_items}

-- a tree whose buffers are empty
pub none_waiting : (t : Tree) (m : ℕ) (lo : Record) (hi : Option Record) → EachEntry (NoneFrom 0) m lo hi t
    → waiting_in t ≡ []
none_waiting (leaf xs) m lo hi e = refl
none_waiting end m lo hi e = refl
none_waiting (entry low b c r) m lo hi e =
    let own : b ≡ [] = e.0 (omega arith) in
    ap (λ xs. (xs ++ b) ++ waiting_in r) (none_waiting c _ _ _ e.1)
    ∙ (ap (λ xs. xs ++ waiting_in r) own ∙ none_waiting r _ _ _ e.2)

module _ {key : Record → Record} {step : Option Record → Record → Step}
    {IsOp IsKept : Record → Type 0} {p q d n : ℕ} {s m : RigState} {v w : Trunk}
    (run : IsRunning key IsOp IsKept s v) (works : Works key step IsOp IsKept p q d n s m v w)
    (none : IsTrue s.device.told → EachRead (NoneFrom 0) m w) (drained : IsDrained w) where
  -- After steps that left nothing waiting, all answers were given.
  pub trunk_settled : IsTrue s.device.told
      → IsSettled key step (given_by s v) (model_of s v) (given_by m w) (model_of m w)
  trunk_settled told =
      let st = run.stands told in
      let below = none_waiting (root_of m w) _ _ _ (none told) in
      let own = no_items m w.buffer works.running.buffer drained.unwritten in
      let all : waiting_in (model_of m w) ≡ [] =
      ap (λ xs. (xs ++ writer_items m w.buffer) ++ []) below ∙ ap (λ xs. xs ++ []) own in
      settled_all key step IsOp IsKept (given_by s v) (given_by m w) (model_of s v) (model_of m w)
      st.is st.turn (works.continues told) all

  -- Then its nodes and leaves were released, and its answers became a chain.
  pub trunk_finished : {u t : RigState} {c : Chain} → ReleasedTrunk m u w → GivenAnswers u t w c
      → FinishedTrunk key step s t v c
  trunk_finished {u = u} {t = t} {c = c} r g =
      let first = works.session.touches in
      let over = λ (z : IsTrue s.device.told). (let y : IsTrue m.device.told = first.told ∙ z in y) in
      let last = λ (z : IsTrue s.device.told).
      (let y : IsTrue u.device.told = r.session.touches.told ∙ over z in y) in
      let f = same_frames_then s.pool m.pool u.pool works.frames r.same_frames in
      record {
        chain = g.chain.is;
        packed = λ z. g.chain.packed (last z) (r.packed (over z));
        session = session_trans (session_trans works.session r.session) g.session;
        frames = record {
          shape = g.frames.shape ∙ f.shape;
          free = omega (arith, f.free, g.frames.free);
          rack = g.frames.rack ∙ f.rack;
          free_areas = g.frames.free_areas ∙ f.free_areas;
          peak = omega (arith, f.peak, g.frames.peak);
        };
        pays = pays_then works.pays
            (pays_then r.pays g.pays g.session.touches.moves)
            (omega (arith, r.session.touches.moves, g.session.touches.moves));
        loses = λ z.
            let steps = works.loses z in
            let released = r.used (over z) in
            let given = g.used in
            let blocks = g.chain.blocks_is in
            let n = chain_length g.chain.is (g.session.touches.told ∙ last z) in
            omega (arith, steps, released, given, blocks, n);
        answers = λ z.
            let P : List Record → Type 0 = IsPermutation
            (tree_answers key step (given_by s v) (model_of s v)) in
            subst P (sym (g.chain.items (last z) ∙ r.given (over z))) (trunk_settled z).answers;
      }
