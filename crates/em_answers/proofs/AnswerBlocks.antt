-- The list of a service's answers: how many blocks it takes.
use Rattle.std.proofs.Common.{◌≡◌, ℕ, ◌++◌, ◌≤◌, List, length, ap, arith, IsTrue}
use Rattle.em_record.specs.Shape.{IsShape, ShapeNumbers, payload_of}
use Rattle.em_model.specs.Map.{Combiner}
use Rattle.em_model.specs.Sync.{since_sync, up_to_sync}
use Rattle.em_model.specs.declared.command.Command.{Command}
use Rattle.em_space.specs.Rig.{RigState}
use Rattle.em_chain.specs.Chain.{IsChain, IsPacked, chain_items, payload_in}
use Rattle.em_chain.specs.Counts.{ceiling}
use Rattle.em_chain.specs.declared.chain.Chain.{Chain}
use Rattle.em_chain.proofs.Counts.{packed_blocks}
use Rattle.em_chain.proofs.Readers.{length_items}
use Rattle.em_chain.proofs.Sessions.{ceiling_rises}
use Rattle.em_lines.specs.CommandLine.{good_commands}
use Rattle.em_lines.specs.RunSize.{commands_taken}
use Rattle.em_lines.specs.declared.text.FileKind.{FileKind}
use Rattle.em_services.specs.Service.{records_for}
use Rattle.em_answers.specs.Limits.{taken_commands}
use Rattle.em_answers.proofs.Sizes.{size_of_all}

-- The answers are packed, and not more than the service's size of the commands of the file, all of which were taken.
pub records_blocks : (apply : Combiner) (size now : ShapeNumbers → List Command → ℕ) (kind : FileKind)
    (text left : List ℕ) (s u t : RigState) (c : Chain) → IsShape s.pool.shape → u.pool.shape ≡ s.pool.shape
    → t.pool.shape ≡ s.pool.shape → IsChain t c → IsTrue t.device.told → IsPacked t c → chain_items t c
    ≡ records_for apply kind (up_to_sync (good_commands kind text)) (since_sync (good_commands kind text))
    → now ≡ size
    → length (records_for apply kind (up_to_sync (good_commands kind text)) (since_sync (good_commands kind text)))
    ≤ now u.pool.shape (up_to_sync (good_commands kind text) ++ since_sync (good_commands kind text))
    → length (good_commands kind text) ≤ commands_taken kind text left
    → c.blocks ≤ ceiling (size s.pool.shape (taken_commands kind text left)) (payload_in s)
records_blocks apply size now kind text left s u t c is before shape chain told packed items sized few taken =
    let low : 128 ≤ t.pool.shape.block = rw shape is.block_low in
    let blocks = packed_blocks t c low chain told packed in
    let count = length_items t c chain told in
    let same = ap length items in
    let whole = size_of_all size now u.pool.shape s.pool.shape kind text left sized before taken in
    let more = ceiling_rises c.count (size s.pool.shape (taken_commands kind text left)) (payload_in s)
    (let b = is.block_low in omega (arith, b)) (omega (arith, count, same, few, whole)) in
    let payload = ap payload_of shape in
    let e = ap (λ (p : ℕ). ceiling c.count p) payload in
    omega (arith, blocks, e, more)
