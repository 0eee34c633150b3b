-- How many blocks the load of a leaf takes.
use Rattle.std.proofs.Common.{◌≡◌, ℕ, ◌+◌, ◌-◌, ◌*◌, ◌<◌, ◌≤◌, min, List, [], ◌++◌, length, take, sym, ap, ◌∙◌, subst, arith, IsTrue, Option, Result, Ok, Err, IsErrAnd}
use Rattle.std.proofs.lemmas.List.{length-take-le}
use Rattle.std.proofs.Math.Seq.{take-append_seam}
use Rattle.em_record.specs.Order.{in_order}
use Rattle.em_record.specs.Shape.{ShapeNumbers, payload_of}
use Rattle.em_record.specs.declared.record.Record.{Record}
use Rattle.em_frames.specs.Pool.{load_of}
use Rattle.em_space.specs.Rig.{IfFull, RigState, Sound, Touches}
use Rattle.em_space.specs.declared.fault.EmFault.{EmFault}
use Rattle.em_space.specs.declared.fault.EmFault.TheVariants.{DeviceFault, Full, Damaged}
use Rattle.em_space.proofs.Ledgers.{full_by}
use Rattle.em_chain.specs.Chain.{chain_items}
use Rattle.em_chain.specs.Counts.{ceiling}
use Rattle.em_chain.specs.Effects.{Unmoved}
use Rattle.em_chain.specs.Writer.{IsWriter}
use Rattle.em_chain.specs.declared.chain.Chain.{Chain}
use Rattle.em_chain.specs.declared.reader.Reader.{Reader}
use Rattle.em_chain.specs.declared.writer.Writer.{Writer}
use Rattle.em_settle.specs.Keys.{record_at}
use Rattle.em_settle.specs.Lists.{list_with_ops}
use Rattle.em_settle.specs.States.{answers_to}
use Rattle.em_settle.specs.declared.step.Step.{Step}
use Rattle.em_leaf.specs.Effects.{AnswersLoad, RunsLoad, SettlesLeaf, loading_room}
use Rattle.em_leaf.specs.Leaf.{AreLeafChains, leaf_most, low_count}
use Rattle.em_leaf.specs.Needs.{LacksBlocks}
use Rattle.em_leaf.specs.declared.change.LeafChange.{LeafChange}
use Rattle.em_leaf.proofs.Needs.{given_fit, own_fit, parts_fit}
use Rattle.em_tree_load.specs.AreaFills.{FilledArea, ReadFirst}
use Rattle.em_tree_load.specs.LeafSettles.{CanSettleOver, load_count}
use Rattle.em_tree_load.specs.LoadRoom.{Takes, TakesSettling, settling_need}
use Rattle.em_tree_load.proofs.FirstSettles.{after_chain}

-- what was taken until a fault, of the result that hands it on
pub takes_of : {T : Type 0} (had need : ℕ) (s t : RigState) (result : Result T EmFault) (e : EmFault)
    → IsErrAnd result (λ m. m ≡ e) → IfFull e (λ _. s.blocks + had < s.used + need)
    → Takes had need s t result
takes_of had need s t (Ok x) e h k = absurd h
takes_of had need s t (Err m) e h k =
    subst (λ (f : EmFault). IfFull f (λ _. s.blocks + had < s.used + need)) (sym h) k

-- the same from a state before, in which as many blocks were in use
pub takes_from : {T : Type 0} (had need also : ℕ) (s r t : RigState) (result : Result T EmFault)
    → r.used ≡ s.used → r.blocks ≡ s.blocks → need ≡ also → Takes had need r t result
    → Takes had also s t result
takes_from had need also s r t (Ok x) u b e h = omega (arith, u, e, h)
takes_from had need also s r t (Err f) u b e h =
    full_by f (r.blocks + had < r.used + need) (s.blocks + had < s.used + also)
    (λ k. omega (arith, u, b, e, k)) h

-- An area was filled: some of the chain's blocks may be released.
pub filled_takes : {s a t u : RigState} {r q : Reader} {old new : List Record} {n : ℕ}
    → Unmoved s a → ReadFirst a t r q old new n → Unmoved t u → u.used + 0 ≤ s.used + 0
filled_takes m h v =
    let used = h.read.runs.spends.used in
    let held = h.read.runs.spends.held in
    let before = m.same.used in
    let after = v.same.used in
    omega (arith, used, held, before, after)

-- what a load needs, by a shape and the lists
abbrev pub need_by : (Record → Record) → (Option Record → Record → Step) → ShapeNumbers → List Record
    → List Record → Writer → ℕ
need_by key step sh xs ops w =
    ceiling (payload_of sh * (w.blocks - 1) + w.fill
    + length (answers_to key step (record_at key xs) ops)) (payload_of sh)
    + (let n = length (list_with_ops key step xs ops) in
    let low = low_count (leaf_most sh) n in
    ceiling low (payload_of sh) + ceiling (n - low) (payload_of sh))

pub need_same : (key : Record → Record) (step : Option Record → Record → Step) {a b : ShapeNumbers}
    {xs ys ops more : List Record} (w : Writer) → a ≡ b → xs ≡ ys → ops ≡ more
    → need_by key step a xs ops w ≡ need_by key step b ys more w
need_same key step {a} {b} {xs} {ys} {ops} {more} w e f g =
    ap (λ (sh : ShapeNumbers). need_by key step sh xs ops w) e
    ∙ (ap (λ (zs : List Record). need_by key step b zs ops w) f
    ∙ ap (λ (zs : List Record). need_by key step b ys zs w) g)

-- the first records of a list, of those that begin it
pub first_same : (n : ℕ) (xs ys all : List Record) → length xs ≡ n → all ≡ xs ++ ys → xs ≡ take n all
first_same n xs ys all l e =
    sym (ap (take n) e ∙ (ap (λ (m : ℕ). take m (xs ++ ys)) (sym l) ∙ take-append_seam xs ys))

module _ (key : Record → Record) (step : Option Record → Record → Step) where
  -- Settling over a state after some reads, of the state before them.
  pub settling_from : {T : Type 0} (s r t : RigState) (q stored buffer : Chain) (w : Writer)
      (result : Result T EmFault) → r.used ≡ s.used → Touches [] s r
      → (IsTrue s.device.told → chain_items r stored ≡ chain_items s q)
      → (IsTrue s.device.told → chain_items r buffer ≡ chain_items s buffer)
      → TakesSettling key step r t stored buffer w result
      → TakesSettling key step s t q buffer w result
  settling_from s r t q stored buffer w result u h xs bs x =
      let count : load_count r buffer ≡ load_count s buffer =
      ap (λ (sh : ShapeNumbers). min buffer.count (load_of sh)) h.shape in
      let room : loading_room r (load_count r buffer) ≡ loading_room s (load_count s buffer) =
      ap (λ (sh : ShapeNumbers). 2 * ceiling (min buffer.count (load_of sh)) (payload_of sh) + 3)
      h.shape in
      record {
        room = takes_from 0 (loading_room r (load_count r buffer))
            (loading_room s (load_count s buffer)) s r t result u h.blocks room x.room;
        needs = λ z.
            let ops = ap (λ (zs : List Record). in_order (take (load_count r buffer) zs)) (bs z)
            ∙ ap (λ (n : ℕ). in_order (take n (chain_items s buffer))) count in
            takes_from w.blocks (settling_need key step r (chain_items r stored)
            (chain_items r buffer) (load_count r buffer) w) (settling_need key step s
            (chain_items s q) (chain_items s buffer) (load_count s buffer) w) s r t result u
            h.blocks (need_same key step w h.shape (xs z) ops) (x.needs (h.told ∙ z));
      }

  -- A fault of settling that isn't for want of a block.
  pub settling_never : {T : Type 0} (s t : RigState) (stored buffer : Chain) (w : Writer)
      (result : Result T EmFault) (e : EmFault) → IsErrAnd result (λ m. m ≡ e) → Sound s
      → IsWriter s w → IfFull e (λ _. s.blocks + 0 < s.used + 0)
      → TakesSettling key step s t stored buffer w result
  settling_never s t stored buffer w result e h so i f =
      let ops = in_order (take (load_count s buffer) (chain_items s buffer)) in
      let n = length (answers_to key step (record_at key (chain_items s stored)) ops) in
      let fit = own_fit s w n so.shape.block_low i in
      let most = so.numbers.used_most in
      let high = so.numbers.most_high in
      record {
        room = takes_of 0 (loading_room s (load_count s buffer)) s t result e h
            (full_by e (s.blocks + 0 < s.used + 0)
            (s.blocks + 0 < s.used + loading_room s (load_count s buffer)) (λ k. omega (arith, k)) f);
        needs = λ z.
            let need = settling_need key step s (chain_items s stored) (chain_items s buffer)
            (load_count s buffer) w in
            takes_of w.blocks need s t result e h
            (full_by e (s.blocks + 0 < s.used + 0) (s.blocks + w.blocks < s.used + need)
            (λ k. omega (arith, k, fit)) f);
      }

  module _ {s t : RigState} {stored buffer rest : Chain} {w : Writer} {area : List Record} {n : ℕ}
      (so : Sound s) (can : CanSettleOver key s stored buffer w)
      (f : FilledArea s t buffer area n rest) (few : t.used + 0 ≤ s.used + 0)
      (count : n ≡ load_count s buffer) (within : n ≤ length area) where
    -- the operations that are in the area
    same_ops : IsTrue s.device.told → in_order (take n area)
        ≡ in_order (take (load_count s buffer) (chain_items s buffer))
    same_ops z = ap in_order (first_same n (take n area) (chain_items t rest) (chain_items s buffer)
        (length-take-le n area within) (f.items z))
        ∙ ap (λ (m : ℕ). in_order (take m (chain_items s buffer))) count

    same_need : IsTrue s.device.told
        → need_by key step t.pool.shape (chain_items t stored) (in_order (take n area)) w
        ≡ settling_need key step s (chain_items s stored) (chain_items s buffer)
        (load_count s buffer) w
    same_need z = need_same key step w f.runs.session.touches.shape ((after_chain can f).items z)
        (same_ops z)

    same_room : loading_room t n ≡ loading_room s (load_count s buffer)
    same_room =
        ap (λ (sh : ShapeNumbers). 2 * ceiling n (payload_of sh) + 3) f.runs.session.touches.shape
        ∙ ap (λ (m : ℕ). loading_room s m) count

    -- A load gave up,
    pub applied_stops : {T : Type 0} {u : RigState} (v : Writer) (result : Result T EmFault)
        (e : EmFault) → IsErrAnd result (λ m. m ≡ e) → RunsLoad t u stored n w v (Err e)
        → LacksBlocks key step t stored (in_order (take n area)) w e
        → TakesSettling key step s u stored buffer w result
    applied_stops {T} {u} v result e h runs lacks = record {
      room = takes_of 0 (loading_room s (load_count s buffer)) s u result e h (by_room e runs);
      needs = λ z. takes_of w.blocks (settling_need key step s (chain_items s stored)
          (chain_items s buffer) (load_count s buffer) w) s u result e h (by_need z e lacks);
    }
      where
        by_room : (e : EmFault) → RunsLoad t u stored n w v (Err e)
            → IfFull e (λ _. s.blocks + 0 < s.used + loading_room s (load_count s buffer))
        by_room DeviceFault runs = tt
        by_room (Damaged k) runs = tt
        by_room (Full k) runs =
            let full = runs.halts.full in
            let used = runs.cause.1 in
            let a = runs.goes.touches.blocks in
            let b = f.runs.session.touches.blocks in
            let room = same_room in
            omega (arith, full, used, a, b, room, few)

        by_need : IsTrue s.device.told → (e : EmFault)
            → LacksBlocks key step t stored (in_order (take n area)) w e
            → IfFull e (λ _. s.blocks + w.blocks < s.used + settling_need key step s
            (chain_items s stored) (chain_items s buffer) (load_count s buffer) w)
        by_need z DeviceFault lacks = tt
        by_need z (Damaged k) lacks = tt
        by_need z (Full k) lacks =
            let need = same_need z in
            let b = f.runs.session.touches.blocks in
            let l = lacks (f.runs.session.touches.told ∙ z) in
            omega (arith, l, need, b, few)

    -- or went well.
    pub applied_takes : {T : Type 0} {u : RigState} {v : Writer} (change : LeafChange) (x : T)
        → RunsLoad t u stored n w v (Ok change)
        → (IsTrue t.device.told → SettlesLeaf key step t u stored (in_order (take n area)) change)
        → AreLeafChains u change
        → AnswersLoad key step t u stored (in_order (take n area)) w v
        → TakesSettling key step s u stored buffer w (Ok x)
    applied_takes {T} {u} {v} change x runs settles chains answers =
        let used = runs.spends.used in
        let held = runs.spends.held in
        let room = same_room in
        record {
          room = omega (arith, used, held, room, few);
          needs = λ z.
              let y : IsTrue t.device.told = f.runs.session.touches.told ∙ z in
              let need = same_need z in
              let parts = parts_fit runs.session.sound (runs.session.touches.told ∙ y)
              runs.session.touches.shape (settles y) chains in
              let given = given_fit runs.session.sound y runs.session.touches.shape answers in
              omega (arith, used, need, few, parts, given);
        }
