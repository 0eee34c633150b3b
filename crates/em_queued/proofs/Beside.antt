-- Readers and writers over calls that leave their blocks alone, with what they had done before.
use Rattle.std.proofs.Common.{ℕ, List, [], length, IsTrue}
use Rattle.std.proofs.lemmas.List.{append-nil}
use Rattle.em_record.specs.declared.record.Record.{Record}
use Rattle.em_frames.specs.Pool.{SameFrames}
use Rattle.em_space.specs.Held.{Apart}
use Rattle.em_space.specs.Rig.{RigState, Touches}
use Rattle.em_chain.specs.Chain.{chain_blocks}
use Rattle.em_chain.specs.Reader.{rest_of}
use Rattle.em_chain.specs.Session.{Took, Wrote}
use Rattle.em_chain.specs.Writer.{writer_blocks}
use Rattle.em_chain.specs.declared.reader.Reader.{Reader}
use Rattle.em_chain.specs.declared.writer.Writer.{Writer}
use Rattle.em_chain.proofs.Keeps.{has_kept}
use Rattle.em_chain.proofs.Laws.{writer_stays}
use Rattle.em_chain.proofs.Readers.{reader_stays}
use Rattle.em_chain.proofs.Sessions.{took_stays, took_then, wrote_stays, wrote_then}

-- What a reader had read, over or taking a chain,
pub took_beside : {held : List ℕ} {s t u : RigState} {r q : Reader} (xs : List Record)
    → Took s t r q xs → Touches held t u
    → (IsTrue t.device.told → Apart (chain_blocks t (rest_of q)) held)
    → SameFrames t.pool u.pool → Took s u r q xs
took_beside {held} {s} {t} {u} {r} {q} xs h g a f =
    let frame = has_kept 1 (length q.frame) t.pool u.pool f h.is.frame in
    let st = reader_stays held t u q g a frame h.is in
    rw (append-nil xs) at (took_then xs [] h (took_stays held g st))

-- and what a writer had written.
pub wrote_beside : {held : List ℕ} {s t u : RigState} {w v : Writer} (xs : List Record)
    → Wrote s t w v xs → Touches held t u
    → (IsTrue t.device.told → Apart (writer_blocks t v) held)
    → SameFrames t.pool u.pool → Wrote s u w v xs
wrote_beside {held} {s} {t} {u} {w} {v} xs h g a f =
    let frame = has_kept 1 (length v.frame) t.pool u.pool f h.is.frame in
    let st = writer_stays held t u v g a frame h.is in
    rw (append-nil xs) at (wrote_then xs [] h (wrote_stays g.told st))
