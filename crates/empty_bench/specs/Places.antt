-- The places of the node, and what is counted there.
use Rattle.std.specs.Prelude.{ℕ, zero, suc, ◌+◌, ◌*◌, ◌/◌, ◌^◌, min, List, [], ◌∷◌}
use Rattle.em_record.specs.declared.record.Record.{Record}
use Rattle.em_node.specs.declared.entry.Entry.{Entry}
use Rattle.em_tree_blocks.specs.Node.{buffer_of}
use Rattle.bench_runs.specs.Numbered.{numbered}

-- the least key of a place: each place has the keys of 2 ^ 58 first words
abbrev pub low_of : ℕ → Record
low_of place = record { a = place * 2 ^ 58; b = 0; c = 0; d = 0 }

-- the place of a record among the 64
abbrev pub place_in_node : Record → ℕ
place_in_node x = min (x.a / 2 ^ 58) 63

-- the entry of a place, with this child and nothing in its buffer
abbrev pub bare_entry : ℕ → ℕ → Entry
bare_entry child place =
    record { low = low_of place; child = child; buffer = 0 ∷ 0 ∷ 0 ∷ 0 ∷ 0 ∷ [] }

-- such entries of n places, from one on
abbrev pub bare_entries : ℕ → ℕ → ℕ → List Entry
bare_entries child place zero = []
bare_entries child place (suc n) = bare_entry child place ∷ bare_entries child (place + 1) n

-- the records in the buffers, each counted as the number of its entry, from n on
abbrev pub weight_from : ℕ → List Entry → ℕ
weight_from n [] = 0
weight_from n (e ∷ es) = n * (buffer_of e).count + weight_from (n + 1) es

-- the places of the records of the numbers below one, each place counted from 1
abbrev pub place_sum : ℕ → ℕ
place_sum zero = 0
place_sum (suc n) = place_sum n + (place_in_node (numbered n) + 1)
