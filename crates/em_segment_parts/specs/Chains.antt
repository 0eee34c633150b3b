-- Several chains.
use Rattle.std.specs.Prelude.{◌≡◌, ℕ, ◌+◌, ◌≤◌, ◌^◌, List, [], ◌∷◌, ◌++◌, map, IsTrue}
use Rattle.em_record.specs.declared.record.Record.{Record}
use Rattle.em_space.specs.Rig.{RigState}
use Rattle.em_chain.specs.Chain.{IsChain, IsPacked, chain_blocks, chain_items}
use Rattle.em_chain.specs.declared.chain.Chain.{Chain}
use Rattle.em_segment_parts.specs.declared.list.Listed.{Listed}

-- A chain of at most 2^40 records, all of whose blocks but the last are full.
pub record IsPackedChain (s : RigState) (c : Chain) : Type 0 where
  pub is : IsChain s c
  pub packed : IsTrue s.device.told → IsPacked s c
  pub few : c.count ≤ 2 ^ 40

abbrev pub AreChains : RigState → List Chain → Type 0
AreChains s [] = Unit {0}
AreChains s (c ∷ cs) = IsPackedChain s c × AreChains s cs

-- the chains of such a list of the code's
abbrev pub chains_in : List Listed → List Chain
chains_in ls = map (λ (l : Listed). l.chain) ls

-- their blocks, those of one chain after those of another
abbrev pub chains_blocks : RigState → List Chain → List ℕ
chains_blocks s [] = []
chains_blocks s (c ∷ cs) = chain_blocks s c ++ chains_blocks s cs

-- how many these are, and how many records they have
abbrev pub chains_held : List Chain → ℕ
chains_held [] = 0
chains_held (c ∷ cs) = c.blocks + chains_held cs

abbrev pub chains_count : List Chain → ℕ
chains_count [] = 0
chains_count (c ∷ cs) = c.count + chains_count cs

-- the records of each
abbrev pub chains_lists : RigState → List Chain → List (List Record)
chains_lists s cs = map (chain_items s) cs

-- Calls left the blocks of some chains alone.
pub record ChainsStay (s t : RigState) (cs : List Chain) : Type 0 where
  pub are : AreChains t cs
  pub lists : IsTrue s.device.told → chains_lists t cs ≡ chains_lists s cs
  pub blocks : IsTrue s.device.told → chains_blocks t cs ≡ chains_blocks s cs
