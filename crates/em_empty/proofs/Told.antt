-- Over a device that tells, a node into which a chain is emptied passes the test, and its buffers
-- have places for all records: a device has at most 2^40 blocks of at most 2^16 records.
use Rattle.std.proofs.Common.{◌≡◌, ℕ, ◌+◌, ◌*◌, ◌<◌, ◌≤◌, ◌^◌, List, [], ◌∷◌, length, sym, ap, ◌∙◌, subst, arith, IsTrue, IsFalse, length-append}
use Rattle.std.proofs.Math.Nat.{mul-add, mul-suc, mul-le-mul_right}
use Rattle.em_record.specs.declared.record.Record.{Record}
use Rattle.em_frames.specs.Device.{block_at}
use Rattle.em_space.specs.Rig.{RigState, Sound, Goes}
use Rattle.em_space.proofs.Held.{in_use_below}
use Rattle.em_space.proofs.Steps.{untold_by}
use Rattle.em_space.proofs.Most.{held_most}
use Rattle.em_chain.specs.Chain.{IsChain, chain_blocks, chain_contents, payload_in}
use Rattle.em_chain.specs.List.{IsRun, items_in, payload}
use Rattle.em_chain.specs.declared.chain.Chain.{Chain}
use Rattle.em_chain.proofs.Readers.{length_payload, none_left}
use Rattle.em_chain.proofs.Views.{view_of}
use Rattle.em_node.specs.declared.entry.Entry.{Entry}
use Rattle.em_tree_blocks.specs.Node.{buffer_of}
use Rattle.em_tree_blocks.specs.Reading.{entries_at}
use Rattle.em_empty.specs.Node.{AreBuffers, CanEmpty, HavePlaces, buffer_blocks, given_blocks}
use Rattle.em_empty.specs.Loaded.{IsReceiver}

items_few : (p link : ℕ) (ks : List ℕ) (cs : List (List Record)) → IsRun p link ks cs
    → length (items_in cs) ≤ p * length ks
items_few p link [] [] r = omega arith
items_few p link [] (c ∷ cs) r = absurd r
items_few p link (k ∷ ks) [] r = absurd r
items_few p link (k ∷ ks) (c ∷ cs) r =
    let h = items_few p _ ks cs r.2 in
    let n = length_payload p c r.1 in
    let m = r.1.most in
    let l = length-append (payload c) (items_in cs) in
    let s = mul-suc p (length ks) in
    omega arith

-- A chain has at most as many records as its blocks have places.
chain_few : (s : RigState) (c : Chain) → IsTrue s.device.told → IsChain s c
    → (c.count ≤ payload_in s * c.blocks) × (length (chain_blocks s c) ≡ c.blocks)
chain_few s c z i =
    let u = (i.told z).list in
    let h = items_few (payload_in s) c.head (chain_blocks s c) (chain_contents s c) u.run in
    let n = u.count_is in
    let b = u.blocks_is in
    let k = ap (λ (m : ℕ). payload_in s * m) b in (omega arith, b)

-- Two chains that fit into a device have no more records together than a chain may have.
both_fit : (p a b m n : ℕ) → 1 ≤ p → p ≤ 65536 → m ≤ p * a → n ≤ p * b → a + b ≤ 2 ^ 40
    → (m + n ≤ 2 ^ 56) × (a + n ≤ 2 ^ 56)
both_fit p a b m n one most h k few =
    let s = mul-add p a b in
    let x = mul-le-mul_right (a + b) one in
    let y = mul-le-mul_right (a + b) most in
    let z = mul-le-mul_right a one in (omega arith, omega arith)

places_told : (s : RigState) (c : Chain) (es : List Entry) → Sound s → IsTrue s.device.told
    → IsChain s c → AreBuffers s es → c.blocks + length (buffer_blocks s es) ≤ 2 ^ 40
    → HavePlaces c.count es
places_told s c [] h z i a few = tt
places_told s c (e ∷ es) h z i a few =
    let low = h.shape.block_low in
    let high = h.shape.block_high in
    let x = chain_few s c z i in
    let y = chain_few s (buffer_of e) z a.0 in
    let l = length-append (chain_blocks s (buffer_of e)) (buffer_blocks s es) in
    let m = y.1 in
    let fit = both_fit (payload_in s) (buffer_of e).blocks c.blocks (buffer_of e).count c.count
    (omega arith)
    (omega arith) y.0 x.0 (omega arith) in (
      record { count = fit.0; blocks = fit.1 },
      places_told s c es h z i a.1 (omega arith),
    )

receives_told : {s : RigState} {node : ℕ} {c : Chain} {b : List Record} → Sound s
    → IsTrue s.device.told → CanEmpty s node c → b ≡ block_at s.device node
    → IsReceiver s.pool.shape s.blocks c b
receives_told {s} {node} {c} {b} h z i e =
    let o = i.told z in
    let n = held_most s (given_blocks s node c) h z o.holds in
    let l = length-append (chain_blocks s c) (buffer_blocks s (entries_at s node)) in
    let m = (chain_few s c z i.chain).1 in
    let most = h.numbers.used_most in
    let high = h.numbers.most_high in
    let all = h.numbers.blocks_high in
    subst (λ (x : List Record). IsReceiver s.pool.shape s.blocks c x) (sym e) (record {
      node = o.block;
      some = o.some;
      places = places_told s c (entries_at s node) h z i.chain o.buffers (omega arith);
      whole = λ k. none_left s c (view_of s c i.chain) z k;
    })

-- So a node that doesn't pass isn't told of.
pub untold_by_test : {s t : RigState} {node : ℕ} {c : Chain} {b : List Record} → Sound s
    → CanEmpty s node c → Goes [] s t → (IsTrue s.device.told → b ≡ block_at s.device node)
    → (IsReceiver s.pool.shape s.blocks c b → ⊥) → IsFalse t.device.told × (node < t.blocks)
untold_by_test {s} {t} {node} {c} {b} h i g e n =
    let l = in_use_below s node h i.in_use in (
      untold_by t.device.told (λ y.
          let z : IsTrue s.device.told = sym g.touches.told ∙ y in n (receives_told h z i (e z))),
      rw g.touches.blocks l,
    )
