use Rattle.std.proofs.Common.{arith}
use Rattle.em_node.specs.Node.{entries_of}
use Rattle.em_empty.proofs.Entries.{gathered_apart, gathered_chain, gathered_room, gathers_then, words_buffer, words_most}
use Rattle.em_empty.proofs.gathering.gather.Goals as goal

pub from_words-requires-clause-count : goal.from_words-requires-clause-count
from_words-requires-clause-count g c =
    (words_most c.args.frame.now c.loop-at.at _ c.requires.node
    (omega (arith, c.loop-at-test.true, c.count-at-end.ensures)) c.entry_at-entry.ensures).0

pub from_words-requires-clause-blocks : goal.from_words-requires-clause-blocks
from_words-requires-clause-blocks g c =
    (words_most c.args.frame.now c.loop-at.at _ c.requires.node
    (omega (arith, c.loop-at-test.true, c.count-at-end.ensures)) c.entry_at-entry.ensures).1

pub add-requires-clause-chain : goal.add-requires-clause-chain
add-requires-clause-chain g c =
    gathered_chain (entries_of c.args.frame.now) c.loop-at.at
    (omega (arith, c.loop-at-test.true, c.count-at-end.ensures)) c.requires.buffers c.loop-at.invariant _
    (words_buffer _ _ _ c.entry_at-entry.ensures c.from_words.ensures)

pub add-requires-clause-apart : goal.add-requires-clause-apart
add-requires-clause-apart g c =
    gathered_apart (entries_of c.args.frame.now) c.loop-at.at
    (omega (arith, c.loop-at-test.true, c.count-at-end.ensures)) c.requires.buffers c.requires.holds
    c.loop-at.invariant _ (words_buffer _ _ _ c.entry_at-entry.ensures c.from_words.ensures)

pub add-requires-clause-room : goal.add-requires-clause-room
add-requires-clause-room g c =
    gathered_room (entries_of c.args.frame.now) c.loop-at.at
    (omega (arith, c.loop-at-test.true, c.count-at-end.ensures)) c.requires.room c.loop-at.invariant

pub loop-at-preserved : goal.loop-at-preserved
loop-at-preserved g c =
    gathers_then (entries_of c.args.frame.now) c.loop-at.at _
    (omega (arith, c.loop-at-test.true, c.count-at-end.ensures))
    (words_buffer _ _ _ c.entry_at-entry.ensures c.from_words.ensures) c.loop-at.invariant
    c.add.ensures.lends c.add.ensures.unmoved c.add.ensures.adds
