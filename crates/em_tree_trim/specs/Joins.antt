-- Leaves that are joined from left to right. n is w · B, and p the records of a block.
use Rattle.std.specs.Prelude.{◌≡◌, ◌⊎◌, ℕ, ◌+◌, ◌-◌, ◌*◌, ◌<◌, ◌≤◌, List, ◌∷◌, ◌++◌, length, None}
use Rattle.em_record.specs.declared.record.Record.{Record}
use Rattle.em_chain.specs.Counts.{ceiling}
use Rattle.em_tree_model.specs.Ranges.{AllIn, least_record}
use Rattle.em_tree_trim.specs.Rows.{AreInRanges, EachFrom, EachUpTo, LeadUpTo, chains_of, excess_in, first_low, records_in, rows_in}

-- Two leaves, of which one was short, became one.
pub record WholeRow (n : ℕ) (xs ys all : List Record) : Type 0 where
  pub all_are : all ≡ xs ++ ys
  pub short : (length xs < n) ⊎ (length ys < n)

-- Of two leaves two are left, neither of which is short. The second one's keys begin at k, that of its first record.
pub record TwoRows (key : Record → Record) (n p : ℕ) (xs ys low : List Record) (k : Record) (high : List Record)
    : Type 0 where
  pub all_are : low ++ high ≡ xs ++ ys
  pub first : Record
  pub others : List Record
  pub high_is : high ≡ first ∷ others
  pub key_is : k ≡ key first
  pub low_least : n ≤ length low
  pub high_least : n ≤ length high
  pub excess : (length low - 2 * n) + (length high - 2 * n) ≤ (length xs - 2 * n) + (length ys - 2 * n)
  pub blocks : ceiling (length low) p + ceiling (length high) p ≤ ceiling (length xs) p + ceiling (length ys) p + 1

-- Of the leaves of a tree i were taken out. Those of `ps` were listed, from their low keys on, and the next one, whose keys
-- begin at `low`, is held. The others are left.
pub record Joining (key : Record → Record) (n p : ℕ) (rows : List (List Record)) (i : ℕ)
    (ps : List (Record × List Record)) (low : Record) (held : List Record) (left : List (List Record)) : Type 0 where
  pub records : records_in (rows_in ps) ++ (held ++ records_in left) ≡ records_in rows
  pub ranges : LeadUpTo key low ps
  pub first : first_low low ps ≡ least_record
  pub above : AllIn key low None (held ++ records_in left)
  pub least : EachFrom n (rows_in ps)
  pub held_least : 0 < length ps → n ≤ length held
  pub most : EachUpTo (4 * n) (rows_in ps)
  pub taken : i + length left ≡ length rows
  pub fewer : length ps + 1 ≤ i
  pub excess : excess_in (2 * n) (rows_in ps) + (length held - 2 * n) + excess_in (2 * n) left
      ≤ excess_in (2 * n) rows + n * (i - (length ps + 1))
  pub blocks : chains_of p (rows_in ps) + ceiling (length held) p + chains_of p left + 1 ≤ chains_of p rows + i

-- All leaves of a tree were joined: those that are listed have n records or more, unless there is one alone.
pub record Joined (key : Record → Record) (n p : ℕ) (rows : List (List Record)) (ps : List (Record × List Record))
    : Type 0 where
  pub some : 0 < length ps
  pub records : records_in (rows_in ps) ≡ records_in rows
  pub ranges : AreInRanges key ps
  pub first : first_low least_record ps ≡ least_record
  pub least : (length ps ≡ 1) ⊎ EachFrom n (rows_in ps)
  pub most : EachUpTo (4 * n) (rows_in ps)
  pub fewer : length ps ≤ length rows
  pub excess : excess_in (2 * n) (rows_in ps) ≤ excess_in (2 * n) rows + n * (length rows - length ps)
  pub blocks : chains_of p (rows_in ps) + 1 ≤ chains_of p rows + length rows
