-- Accounts of what a segment tree holds beside the pairs that it writes.
use Rattle.std.specs.Prelude.{ℕ, if◌then◌else◌}
use Rattle.em_space.specs.Ledger.{Account, both}
use Rattle.em_chain.specs.Reader.{owed}
use Rattle.em_chain.specs.Session.{writer_account}
use Rattle.em_chain.specs.declared.reader.Reader.{Reader}
use Rattle.em_chain.specs.declared.writer.Writer.{Writer}

-- this many blocks, all of which are stored: the moves of calls on them are counted apart
abbrev pub stored : ℕ → Account
stored n = record { blocks = n; unstored = 0; paid = 0; owed = 0 }

-- such blocks beside those of the pairs
abbrev pub beside_pairs : ℕ → Writer → Account
beside_pairs n w = both (stored n) (writer_account w)

-- a reader: it has no block of its own if it leaves them to a chain
abbrev pub reader_account : Reader → Account
reader_account r = record {
  blocks = if r.taking then r.blocks else 0;
  unstored = 0;
  paid = 0;
  owed = owed r;
}
