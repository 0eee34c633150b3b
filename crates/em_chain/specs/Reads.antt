-- What the calls of a reader do.
use Rattle.std.specs.Prelude.{◌≡◌, ◌+◌, ◌*◌, ◌<◌, ◌≤◌, Bool, if◌then◌else◌, ◌∷◌, drop, IsTrue, true, false, Result, OnOk, OnErr}
use Rattle.em_record.specs.declared.record.Record.{Record}
use Rattle.em_space.specs.Rig.{RigState}
use Rattle.em_space.specs.declared.fault.EmFault.{EmFault}
use Rattle.em_chain.specs.Chain.{payload_in, IsChain, IsTight, chain_blocks, chain_items}
use Rattle.em_chain.specs.Within.{Ends}
use Rattle.em_chain.specs.Reader.{IsReader, rest_of, reader_items, owed}
use Rattle.em_chain.specs.declared.reader.Reader.{Reader}
use Rattle.em_chain.specs.declared.chain.Chain.{Chain}

-- A reader of a chain or a view, from its first record, that takes the blocks or leaves them.
pub record Opens (s t : RigState) (c : Chain) (taking : Bool) (r : Reader) : Type 0 where
  pub is : IsReader t r
  pub items : IsTrue s.device.told → reader_items t r ≡ chain_items s c
  pub blocks : IsTrue s.device.told → chain_blocks t (rest_of r) ≡ chain_blocks s c
  pub tight : IsTrue s.device.told → IsTight s c → IsTight t (rest_of r)
  pub closed : IsChain s c → IsChain t (rest_of r)
  pub words : rest_of r ≡ c
  pub taking_is : r.taking ≡ taking
  pub owed_is : owed r ≡ (if taking then 2 * c.blocks else c.blocks)

-- One record was read, and what is left begins a place further on, or in the next block: exactly a
-- place if every block but the last is full. With no record left no block is left.
pub record Reads (s t : RigState) (r q : Reader) (x : Record) : Type 0 where
  pub is : IsReader t q
  pub items : IsTrue s.device.told → reader_items s r ≡ x ∷ reader_items t q
  pub blocks : IsTrue s.device.told → Ends (chain_blocks s (rest_of r)) (chain_blocks t (rest_of q))
  pub tight : IsTrue s.device.told → IsTight s (rest_of r) → IsTight t (rest_of q)
  pub closed : IsChain s (rest_of r) → IsChain t (rest_of q)
  pub count : q.count + 1 ≡ r.count
  pub fewer : q.blocks ≤ r.blocks
  pub place : r.skip + 1 + payload_in s * q.blocks ≤ q.skip + payload_in s * r.blocks
  pub place_is : IsTrue s.device.told → IsTight s (rest_of r) → 0 < q.count
      → q.skip + payload_in s * r.blocks ≡ r.skip + 1 + payload_in s * q.blocks
  pub skip_fits : q.skip < payload_in s
  pub none_left : q.count ≡ 0 → q.blocks ≡ 0
  pub taking : q.taking ≡ r.taking

-- Nothing is left, and nothing was done.
pub record AtEnd (s t : RigState) (r q : Reader) : Type 0 where
  pub count : r.count ≡ 0
  pub same : q ≡ r
  pub rig : t ≡ s

-- The moves stay within what was owed, and each block that was left was released where the reader
-- takes them.
pub record ReadCosts {T : Type 0} (old new : RigState) (r q : Reader) (result : Result T EmFault)
    : Type 0 where
  pub moves : OnOk result (new.moves + owed q ≤ old.moves + owed r)
  pub moves_err : OnErr result (new.moves ≤ old.moves + owed r)
  pub used_taking : OnOk result (r.taking ≡ true → new.used + r.blocks ≡ old.used + q.blocks)
  pub used_over : r.taking ≡ false → new.used ≡ old.used
  pub used_err : OnErr result (new.used ≡ old.used)
  pub most : new.most ≡ old.most

-- The first block is in the frame.
pub record Fetches (s t : RigState) (r q : Reader) : Type 0 where
  pub ready : IsReader t q
  pub items : IsTrue s.device.told → reader_items t q ≡ reader_items s r
  pub blocks : IsTrue s.device.told → chain_blocks t (rest_of q) ≡ chain_blocks s (rest_of r)
  pub tight : IsTrue s.device.told → IsTight s (rest_of r) → IsTight t (rest_of q)
  pub closed : IsChain s (rest_of r) → IsChain t (rest_of q)
  pub rest : rest_of q ≡ rest_of r
  pub taking : q.taking ≡ r.taking
  pub loaded : q.loaded ≡ true

-- A block was released where it is taken, by at most one move; else nothing was done.
pub record LetsGo {T : Type 0} (old new : RigState) (taking : Bool) (result : Result T EmFault)
    : Type 0 where
  pub over : taking ≡ false → new ≡ old
  pub used : OnOk result (taking ≡ true → new.used + 1 ≡ old.used)
  pub used_err : OnErr result (new.used ≡ old.used)
  pub most : new.most ≡ old.most
  pub moves : new.moves ≤ old.moves + 1

-- The next record is seen, and not taken yet.
pub record Peeks (s t : RigState) (r q : Reader) (x : Record) : Type 0 where
  pub fetches : Fetches s t r q
  pub next : IsTrue s.device.told → reader_items t q ≡ x ∷ drop 1 (reader_items t q)
