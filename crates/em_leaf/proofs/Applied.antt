-- The operations of a load, in order, and what is asked of them.
use Rattle.std.proofs.Common.{◌≡◌, ℕ, ◌+◌, ◌≤◌, List, ◌++◌, length, take, drop, sym, ap, ◌∙◌, arith, subst, IsTrue}
use Rattle.std.proofs.Math.Seq.{take-append_seam}
use Rattle.std.proofs.lemmas.List.{length-append, length-take-le, take-append-drop}
use Rattle.em_record.specs.declared.record.Record.{Record}
use Rattle.em_record.specs.Order.{IsAscending, in_order}
use Rattle.em_record.proofs.Order.{length_order, order_ascends}
use Rattle.std.specs.Prelude.{IfOk, OnOk, Option, Result, Ok, Err}
use Rattle.em_space.specs.Rig.{RigState, Sound}
use Rattle.em_space.specs.declared.fault.EmFault.{EmFault}
use Rattle.em_chain.specs.Chain.{payload_in}
use Rattle.em_chain.specs.Counts.{ceiling}
use Rattle.em_chain.specs.Effects.{Completes}
use Rattle.em_chain.specs.Writer.{IsWriter}
use Rattle.em_chain.proofs.Keeps.{payload_kept}
use Rattle.em_settle.specs.declared.step.Step.{Step}
use Rattle.em_chain.specs.declared.chain.Chain.{Chain}
use Rattle.em_chain.specs.declared.writer.Writer.{Writer}
use Rattle.em_leaf.specs.Leaf.{CanLoad, ops_of}
use Rattle.em_leaf.specs.Effects.{AnswersLoad, RunsLoad, SettlesLeaf, load_moves_most, loading_blocks, loading_room}
use Rattle.em_leaf.specs.Settling.{CanSettle, SettlesOpsTo}
use Rattle.em_leaf.specs.declared.change.LeafChange.{LeafChange}
use Rattle.em_leaf.proofs.Settling.{answers_fit, load_completes, load_moves}

-- a load has as many operations as it says
pub ops_len : (load : List Record) (n : ℕ) → n ≤ length load → length (ops_of load n) ≡ n
ops_len load n h = length_order (take n load) ∙ length-take-le n load h

-- they are the first records of the area, after the sort
pub ops_are : (load now : List Record) (n : ℕ) → n ≤ length load
    → now ≡ in_order (take n load) ++ drop n load → take n now ≡ ops_of load n
ops_are load now n h e =
    ap (take n) e
    ∙ (ap (λ m. take m (ops_of load n ++ drop n load)) (sym (ops_len load n h))
    ∙ take-append_seam (ops_of load n) (drop n load))

-- which leaves as many records there
pub area_len : (load now : List Record) (n : ℕ) → now ≡ in_order (take n load) ++ drop n load
    → length now ≡ length load
area_len load now n e =
    let a = length-append (in_order (take n load)) (drop n load) in
    let b = length_order (take n load) in
    let c = ap length (take-append-drop n load) in
    let d = length-append (take n load) (drop n load) in
    let f = ap length e in
    omega arith

-- they are in order
pub ops_ascend : (load ops : List Record) (n : ℕ) → ops ≡ ops_of load n → IsAscending ops
ops_ascend load ops n e =
    let P : List Record → Type 0 = IsAscending in subst P (sym e) (order_ascends (take n load))

-- a load has all its operations in the area
load_within : {key : Record → Record} {s : RigState} {c : Chain} {w : Writer} (load : List Record)
    (n : ℕ) → CanLoad key s c load n w → n ≤ length load
load_within load n h =
    let few = h.few in
    let area = h.area in
    omega arith

-- as many as it says
pub load_count : {key : Record → Record} {s : RigState} {c : Chain} {w : Writer}
    (load ops : List Record) (n : ℕ) → CanLoad key s c load n w → ops ≡ ops_of load n
    → length ops ≡ n
load_count load ops n h e = ap length e ∙ ops_len load n (load_within load n h)

-- What a load asks is what settling its operations asks.
pub can_settle : {key : Record → Record} {s : RigState} {c : Chain} {w : Writer}
    (load ops : List Record) (n : ℕ) → CanLoad key s c load n w → ops ≡ ops_of load n
    → CanSettle key s c (length ops) w
can_settle {key} {s} {c} {w} load ops n h e =
    let m : length ops ≡ n = load_count load ops n h e in
    let P : ℕ → Type 0 = λ k. CanSettle key s c k w in
    subst P (sym m) (record {
      chain = h.chain;
      most = omega (arith, h.most, h.few);
      rises = λ z. (h.list z).rises;
      few = h.few;
      writer = h.writer;
      grow = h.grow;
      apart = h.apart;
    })

-- the clauses of a load, of the operations that it has
module _ (key : Record → Record) (step : Option Record → Record → Step) (s t : RigState) (c : Chain)
    (w v : Writer) where
  pub settles_of : (ops all : List Record) (result : Result LeafChange EmFault) → ops ≡ all
      → SettlesOpsTo key step s t c ops w v result
      → IfOk result (λ change. IsTrue s.device.told → SettlesLeaf key step s t c all change)
  settles_of ops all (Ok x) e h =
      let P : List Record → Type 0 = λ zs. IsTrue s.device.told → SettlesLeaf key step s t c zs x in
      subst P e h.settles
  settles_of ops all (Err f) e h = tt

  pub answers_of : (ops all : List Record) (result : Result LeafChange EmFault) → ops ≡ all
      → SettlesOpsTo key step s t c ops w v result
      → OnOk result (AnswersLoad key step s t c all w v)
  answers_of ops all (Ok x) e h =
      let P : List Record → Type 0 = λ zs. AnswersLoad key step s t c zs w v in subst P e h.answers
  answers_of ops all (Err f) e h = tt

  -- what it did to blocks
  pub runs_of_load : (load ops : List Record) (n : ℕ) (result : Result LeafChange EmFault)
      → CanLoad key s c load n w → ops ≡ ops_of load n → RunsLoad s t c (length ops) w v result
      → RunsLoad s t c n w v result
  runs_of_load load ops n result h e r =
      let P : ℕ → Type 0 = λ m. RunsLoad s t c m w v result in
      subst P (load_count load ops n h e) r

  -- the answers' blocks
  answers_bound : (ops : List Record) (n : ℕ) (result : Result LeafChange EmFault)
      → length ops ≡ n → Sound s → IsWriter s w → RunsLoad s t c n w v result
      → SettlesOpsTo key step s t c ops w v result
      → OnOk result (v.blocks ≤ w.blocks + ceiling n (payload_in s))
  answers_bound ops n (Ok x) e so i h k =
      let P : ℕ → Type 0 = λ m. v.blocks ≤ w.blocks + ceiling m (payload_in s) in
      subst P e (answers_fit so h.session.sound i
      (payload_kept (loading_blocks s c w) s t h.session.touches) k.answers)
  answers_bound ops n (Err f) e so i h k = tt

  -- its moves
  pub moves_of_load : (load ops : List Record) (n : ℕ) (result : Result LeafChange EmFault)
      → Sound s → CanLoad key s c load n w → ops ≡ ops_of load n
      → RunsLoad s t c (length ops) w v result → SettlesOpsTo key step s t c ops w v result
      → t.moves ≤ s.moves + load_moves_most s c n
  moves_of_load load ops n result so h e r k =
      let runs = runs_of_load load ops n result h e r in
      load_moves t c v n result so h.writer
      (answers_bound ops n result (load_count load ops n h e) so h.writer runs k) runs

  -- with so much room it isn't refused as full
  pub completes_load : (load ops : List Record) (n : ℕ) (result : Result LeafChange EmFault)
      → Sound s → CanLoad key s c load n w → ops ≡ ops_of load n
      → RunsLoad s t c (length ops) w v result → s.used + loading_room s n ≤ s.blocks
      → Completes s t result
  completes_load load ops n result so h e r =
      load_completes t c w v n result so (runs_of_load load ops n result h e r)
