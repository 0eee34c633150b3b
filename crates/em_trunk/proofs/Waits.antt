-- Operations that wait, and a call that was full: it had one.
use Rattle.std.proofs.Common.{◌≡◌, ℕ, suc, ◌<◌, ◌≤◌, List, [], ◌∷◌, ◌++◌, length, refl, sym, ap, ◌∙◌, arith, length-append, IsTrue}
use Rattle.std.proofs.lemmas.List.{nil_from_length}
use Rattle.std.specs.Prelude.{None, Option, Some}
use Rattle.em_record.specs.declared.record.Record.{Record}
use Rattle.em_chain.specs.Writer.{writer_items}
use Rattle.em_settle.specs.Keys.{of_key, record_at}
use Rattle.em_settle.specs.declared.step.Step.{Step}
use Rattle.em_settle.proofs.Keys.{first_of_key, own_key}
use Rattle.em_space.specs.Rig.{BlockCause, RigState}
use Rattle.em_space.specs.declared.fault.EmFault.{EmFault}
use Rattle.em_space.specs.declared.fault.EmFault.TheVariants.{Damaged, DeviceFault, Full}
use Rattle.em_space.proofs.Ledgers.{full_by, full_never}
use Rattle.em_tree_blocks.specs.Effects.{entry_at_place, entry_on, row_from}
use Rattle.em_tree_blocks.specs.Node.{linked_block}
use Rattle.em_tree_blocks.specs.Paths.{node_on}
use Rattle.em_tree_blocks.specs.Reading.{tree_at}
use Rattle.em_tree_blocks.proofs.Whole.{entry_reads}
use Rattle.em_tree_model.specs.Meaning.{Advances, InTurn, tree_answers, tree_contents}
use Rattle.em_tree_model.specs.Places.{put_at}
use Rattle.em_tree_model.specs.Ranges.{IsTree, least_record}
use Rattle.em_tree_model.specs.Taking.{TakesFirst}
use Rattle.em_tree_model.specs.Tree.{Tree, waiting_at, waiting_in}
use Rattle.em_tree_model.specs.Tree.Tree.{entry}
use Rattle.em_tree_model.proofs.Paths.{on_path}
use Rattle.em_tree_model.proofs.Places.{waiting_before, waiting_past, waiting_put}
use Rattle.em_tree_model.proofs.RowPlaces.{all_keys}
use Rattle.em_trunk.specs.Events.{Continues}
use Rattle.em_trunk.specs.Trunk.{model_of, root_of}
use Rattle.em_trunk.specs.Works.{FullIfWaits}
use Rattle.em_trunk.specs.declared.trunk.Trunk.{Trunk}
use Rattle.em_trunk.proofs.Meaning.{represents_itself}
use Rattle.em_trunk.specs.Spots.{IsSpot, spot_ops}

-- A call whose fault comes of one block is never full.
pub waits_never : (s a b : RigState) (v : Trunk) (fault : EmFault) → BlockCause a b fault → FullIfWaits s v fault
waits_never s a b v fault c = full_never a b fault (IsTrue s.device.told → waiting_in (model_of s v) ≡ [] → ⊥) c

-- One before which something waited may be.
pub waits_some : (s : RigState) (v : Trunk) (fault : EmFault)
    → (IsTrue s.device.told → waiting_in (model_of s v) ≡ [] → ⊥) → FullIfWaits s v fault
waits_some s v DeviceFault h = tt
waits_some s v (Full used) h = h
waits_some s v (Damaged block) h = tt

-- After a step: if nothing waited, nothing does.
pub waits_after : (s t : RigState) (v w : Trunk) (fault : EmFault) → t.device.told ≡ s.device.told
    → (IsTrue s.device.told → waiting_in (model_of s v) ≡ [] → waiting_in (model_of t w) ≡ [])
    → FullIfWaits t w fault → FullIfWaits s v fault
waits_after s t v w fault same still h =
    full_by fault (IsTrue t.device.told → waiting_in (model_of t w) ≡ [] → ⊥)
    (IsTrue s.device.told → waiting_in (model_of s v) ≡ [] → ⊥)
    (λ never told none. never (same ∙ told) (still told none)) h

-- An operation in the root's buffer waits,
pub buffer_waits : (s : RigState) (v : Trunk) → 0 < length (writer_items s v.buffer)
    → waiting_in (model_of s v) ≡ [] → ⊥
buffer_waits s v some none =
    let a = ap length none in
    let b = length-append (waiting_in (root_of s v)) (writer_items s v.buffer) in
    let c = length-append (waiting_in (root_of s v) ++ writer_items s v.buffer) [] in
    omega (arith, some, a, b, c)

-- and one in the buffer of an entry.
pub spot_waits : {l node at : ℕ} {s : RigState} {v : Trunk} {path : List ℕ} → IsSpot l node at s v path
    → 1 ≤ length (spot_ops at s v path) → waiting_in (model_of s v) ≡ [] → ⊥
spot_waits {l} {node} {at} {s} {v} {path} spot some none =
    let e = entry_on v.level s v.root path at in
    let p = entry_at_place v.level s v.root path l at in
    let r = row_from l s (node_on path v.level s v.root) (suc at) in
    let c = tree_at l s (linked_block e.child) in
    let ops = spot_ops at s v path in
    let x = entry e.low ops c r in
    let reads : root_of s v ≡ put_at p x = entry_reads v.level s v.root path l at spot.on in
    let put = ap (λ t. length (waiting_in t)) reads ∙ ap length (waiting_put p x) in
    let a = length-append (waiting_before p) (waiting_in x ++ waiting_past p) in
    let b = length-append (waiting_in x) (waiting_past p) in
    let d = length-append (waiting_in c ++ ops) (waiting_in r) in
    let f = length-append (waiting_in c) ops in
    let g = ap length none in
    let h = length-append (waiting_in (root_of s v)) (writer_items s v.buffer) in
    let i = length-append (waiting_in (root_of s v) ++ writer_items s v.buffer) [] in
    omega (arith, some, put, a, b, d, f, g, h, i)

-- a list with no record of any key is empty
none_by : (key : Record → Record) (xs : List Record) → ((q : Record) → of_key key q xs ≡ []) → xs ≡ []
none_by key [] h = refl
none_by key (x ∷ xs) h =
    let own = first_of_key key (key x) x xs (own_key key x) in
    let n = ap length own in
    let z = ap length (h (key x)) in
    absurd (omega (arith, n, z))

-- where nothing waits, nothing waits for a key
none_at : (key : Record → Record) (t : Tree) → IsTree key t least_record None → waiting_in t ≡ [] → (q : Record)
    → waiting_at key t q ≡ []
none_at key t is none q = sym (on_path key t least_record None q is (all_keys q)) ∙ ap (of_key key q) none

-- a key for which nothing waited
none_advanced : (key : Record → Record) (step : Option Record → Record → Step) (t u : Tree) (q : Record)
    → IsTree key t least_record None → IsTree key u least_record None → waiting_in t ≡ []
    → Advances key step t u [] q → of_key key q (waiting_in u) ≡ []
none_advanced key step t u q is then none a =
    let parts = ap length a.parts in
    let before = ap length (none_at key t is none q) in
    let l = length-append (waiting_at key t q) [] in
    let m = length-append a.first (waiting_at key u q) in
    on_path key u least_record None q then (all_keys q)
    ∙ nil_from_length (waiting_at key u q) (omega (arith, parts, before, l, m))

-- Events that push nothing leave nothing waiting where nothing waited,
pub none_on : (key : Record → Record) (step : Option Record → Record → Step) (IsOp IsKept : Record → Type 0)
    {given told : List Record} {t u : Tree} → IsTree key t least_record None → InTurn key IsOp IsKept t
    → Continues key step IsOp IsKept given t told u → waiting_in t ≡ [] → waiting_in u ≡ []
none_on key step IsOp IsKept {given} {told} {t} {u} is turn c none =
    let contents = tree_contents key step t in
    let answers = tree_answers key step given t in
    let own = represents_itself key step IsOp IsKept given t is turn in
    none_by key (waiting_in u) (λ q. none_advanced key step t u q is (c.represents contents answers own).is none
    (c.advances contents answers own q))

-- by whether a record of the key was taken
taken_at : (key : Record → Record) (ys : List Record) (u : Tree) (q : Record)
    → (record_at key ys q ≡ None → of_key key q (waiting_in u) ≡ [])
    → ((y : Record) → record_at key ys q ≡ Some y → of_key key q (waiting_in u) ≡ [])
    → (o : Option Record) → record_at key ys q ≡ o → of_key key q (waiting_in u) ≡ []
taken_at key ys u q f g None e = f e
taken_at key ys u q f g (Some y) e = g y e

-- also if records are taken out.
pub none_taken_on : (key : Record → Record) (step : Option Record → Record → Step) (IsOp IsKept : Record → Type 0)
    {given ys told : List Record} {t u : Tree} → IsTree key t least_record None → InTurn key IsOp IsKept t
    → TakesFirst key step IsOp IsKept given t ys told u → waiting_in t ≡ [] → waiting_in u ≡ []
none_taken_on key step IsOp IsKept {given} {ys} {told} {t} {u} is turn c none =
    let contents = tree_contents key step t in
    let answers = tree_answers key step given t in
    let own = represents_itself key step IsOp IsKept given t is turn in
    let each : (q : Record) (o : Option Record) → record_at key ys q ≡ o → of_key key q (waiting_in u) ≡ [] =
    λ q o e. taken_at key ys u q (λ none2. none_advanced key step t u q is (c.represents contents answers own).is
    none (c.advances contents answers own q none2)) (λ y some. (c.out contents answers own).clear q y some) o e in
    none_by key (waiting_in u) (λ q. each q (record_at key ys q) refl)
