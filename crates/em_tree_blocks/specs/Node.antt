-- What the entries of a node lead to, and what a leaf block leads to: a chain block with the words
-- of one chain.
use Rattle.std.specs.Prelude.{ℕ, ◌-◌, List, [], ◌∷◌, get_or}
use Rattle.em_record.specs.declared.record.Record.{Record}
use Rattle.em_frames.specs.Device.{zero_record}
use Rattle.em_chain.specs.Counts.{ceiling}
use Rattle.em_chain.specs.declared.chain.Chain.{Chain}
use Rattle.em_node.specs.declared.entry.Entry.{Entry}

-- the chain of these five words
abbrev pub chain_of : List ℕ → Chain
chain_of ws = record {
  head = get_or ws 0 0;
  skip = get_or ws 1 0;
  tail = get_or ws 2 0;
  count = get_or ws 3 0;
  blocks = get_or ws 4 0;
}

-- the buffer of an entry
abbrev pub buffer_of : Entry → Chain
buffer_of e = chain_of e.buffer

-- the chain of a leaf's stored records, which is packed: its blocks follow from its count
abbrev pub leaf_chain : ℕ → List Record → Chain
leaf_chain p block = let r = get_or block 1 zero_record in
    chain_of (r.a ∷ r.b ∷ r.c ∷ r.d ∷ ceiling r.d p ∷ [])

-- the block to which a link leads
abbrev pub linked_block : ℕ → ℕ
linked_block link = link - 1
