-- What is written of a circuit that is read: records for four lists.
use Rattle.std.specs.Prelude.{◌≡◌, ℕ, ◌+◌, List, [], ◌++◌, length}
use Rattle.em_record.specs.declared.record.Record.{Record}
use Rattle.aig_defs.specs.Chains.{defs_of, gates_of, uses_of, resets_of}
use Rattle.aig_defs.specs.Circuit.{Circuit}

-- definitions, gates, uses of literals that aren't those of gates, and resets
pub record Listing : Type 0 where
  pub defs : List Record
  pub gates : List Record
  pub uses : List Record
  pub resets : List Record

-- no record
abbrev pub no_records : Listing
no_records = record { defs = []; gates = []; uses = []; resets = [] }

-- each of the first lists, with the second one after it
abbrev pub appended : Listing → Listing → Listing
appended a b = record {
  defs = a.defs ++ b.defs;
  gates = a.gates ++ b.gates;
  uses = a.uses ++ b.uses;
  resets = a.resets ++ b.resets;
}

-- how many records there are
abbrev pub record_count : Listing → ℕ
record_count a = length a.defs + length a.gates + length a.uses + length a.resets

-- all that is written of a circuit
abbrev pub listing_of : Circuit → Listing
listing_of c = record {
  defs = defs_of c;
  gates = gates_of c;
  uses = uses_of c;
  resets = resets_of c;
}

-- the lists are this long
pub record HasCounts (a : Listing) (d g u r : ℕ) : Type 0 where
  pub defs : length a.defs ≡ d
  pub gates : length a.gates ≡ g
  pub uses : length a.uses ≡ u
  pub resets : length a.resets ≡ r
