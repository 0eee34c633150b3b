-- Calls one after another, and beside other blocks, over which no block is lost.
use Rattle.std.proofs.Common.{◌≡◌, ℕ, ◌+◌, List, [], ◌∷◌, ◌++◌, length, refl, ap, ◌∙◌, arith, IsTrue, Option}
use Rattle.std.proofs.lemmas.List.{length-append}
use Rattle.em_record.specs.declared.record.Record.{Record}
use Rattle.em_space.specs.Ledger.{Account, Runs}
use Rattle.em_space.specs.Rig.{RigState}
use Rattle.em_chain.specs.Chain.{IsChain, chain_blocks}
use Rattle.em_chain.specs.Writer.{IsWriter, writer_blocks}
use Rattle.em_chain.specs.declared.chain.Chain.{Chain}
use Rattle.em_chain.specs.declared.writer.Writer.{Writer}
use Rattle.em_node.specs.declared.entry.Entry.{Entry}
use Rattle.em_tree_blocks.specs.Node.{buffer_of}
use Rattle.em_tree_blocks.specs.Reading.{entries_at}
use Rattle.em_empty.specs.Effects.{EmptiedAt}
use Rattle.em_empty.specs.Node.{AreBuffers, buffer_blocks, buffer_count, given_blocks, node_blocks}
use Rattle.em_tree_walk.specs.Paid.{LosesNone}
use Rattle.em_tree_walk.proofs.Regions.{SameTally, tally_length}

-- As many blocks are in use, and the same are held.
pub loses_still : (ks : List ℕ) (s t : RigState) → t.used ≡ s.used → LosesNone ks ks s t
loses_still ks s t e z = omega (arith, e)

-- One call after another.
pub loses_then : (held ks js : List ℕ) (s t u : RigState) → t.device.told ≡ s.device.told
    → LosesNone held ks s t → LosesNone ks js t u → LosesNone held js s u
loses_then held ks js s t u told a b z =
    let x = a z in
    let y = b (told ∙ z) in
    omega (arith, x, y)

-- A call on one of several values.
pub loses_beside : (xs ks js ys : List ℕ) (s t : RigState) → LosesNone ks js s t
    → LosesNone (xs ++ (ks ++ ys)) (xs ++ (js ++ ys)) s t
loses_beside xs ks js ys s t a z =
    let x = a z in
    let e1 = length-append xs (ks ++ ys) in
    let e2 = length-append ks ys in
    let e3 = length-append xs (js ++ ys) in
    let e4 = length-append js ys in
    omega (arith, x, e1, e2, e3, e4)

-- the same blocks after it, and before it,
pub loses_as : (held ks js : List ℕ) (s t : RigState) → LosesNone held ks s t
    → (IsTrue s.device.told → js ≡ ks) → LosesNone held js s t
loses_as held ks js s t a e z =
    let x = a z in
    let n = ap (λ (is : List ℕ). length is) (e z) in
    omega (arith, x, n)

pub loses_from : (held hs ks : List ℕ) (s t : RigState) → LosesNone held ks s t
    → (IsTrue s.device.told → hs ≡ held) → LosesNone hs ks s t
loses_from held hs ks s t a e z =
    let x = a z in
    let n = ap (λ (is : List ℕ). length is) (e z) in
    omega (arith, x, n)

-- or in another order
pub loses_same : (held ks js : List ℕ) (s t : RigState) → LosesNone held ks s t
    → (IsTrue s.device.told → SameTally ks js) → LosesNone held js s t
loses_same held ks js s t a e z =
    let x = a z in
    let n = tally_length ks js (e z) in
    omega (arith, x, n)

pub loses_whole : (held gs ks : List ℕ) (s t : RigState) → LosesNone held ks s t
    → (IsTrue s.device.told → SameTally gs held) → LosesNone gs ks s t
loses_whole held gs ks s t a e z =
    let x = a z in
    let n = tally_length gs held (e z) in
    omega (arith, x, n)

-- What a ledger says, where the accounts have as many blocks as are held.
pub loses_runs : {peak : ℕ} {held ks : List ℕ} {a b : Account} {s t : RigState}
    → Runs peak held ks a b s t → (IsTrue s.device.told → length held ≡ a.blocks)
    → (IsTrue s.device.told → length ks ≡ b.blocks) → LosesNone held ks s t
loses_runs r before after z =
    let u = r.spends.used in
    let x = before z in
    let y = after z in
    omega (arith, u, x, y)

-- how many blocks a chain has,
pub chain_length : {s : RigState} {c : Chain} → IsChain s c → IsTrue s.device.told
    → length (chain_blocks s c) ≡ c.blocks
chain_length i z = (i.told z).list.blocks_is

-- a writer,
pub writer_length : {s : RigState} {w : Writer} → IsWriter s w → IsTrue s.device.told
    → length (writer_blocks s w) ≡ w.blocks
writer_length i z = (i.told z).list.blocks_is

-- the buffers of some entries,
pub buffers_length : (s : RigState) (es : List Entry) → AreBuffers s es → IsTrue s.device.told
    → length (buffer_blocks s es) ≡ buffer_count es
buffers_length s [] a z = refl
buffers_length s (e ∷ es) a z =
    let n = length-append (chain_blocks s (buffer_of e)) (buffer_blocks s es) in
    let c = chain_length a.0 z in
    let r = buffers_length s es a.1 z in
    omega (arith, n, c, r)

-- Emptying a chain into a node loses none.
pub frees_length : {key : Record → Record} {s t : RigState} {node : ℕ} {c : Chain} {least : Option ℕ}
    → EmptiedAt key s t node c least → IsChain s c
    → (IsTrue s.device.told → AreBuffers s (entries_at s node))
    → LosesNone (given_blocks s node c) (node_blocks t node) s t
frees_length {s = s} {t = t} {node = node} {c = c} done chain before z =
    let es = entries_at s node in
    let fs = entries_at t node in
    let a = done.frees.used z in
    let n = length-append (chain_blocks s c) (buffer_blocks s es) in
    let b = chain_length chain z in
    let d = buffers_length s es (before z) z in
    let e = buffers_length t fs (done.emptied z).receives.buffers (done.session.touches.told ∙ z) in
    omega (arith, a, n, b, d, e)
