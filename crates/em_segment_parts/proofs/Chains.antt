-- Several chains, over calls that leave their blocks alone.
use Rattle.std.proofs.Common.{◌≡◌, ℕ, zero, suc, ◌+◌, ◌<◌, ◌≤◌, List, [], ◌∷◌, ◌++◌, length, get_or, refl, sym, ap, ◌∙◌, arith, IsTrue, append_assoc}
use Rattle.em_record.specs.declared.record.Record.{Record}
use Rattle.em_space.specs.Held.{Apart}
use Rattle.em_space.specs.Rig.{RigState, Touches}
use Rattle.em_space.proofs.Lists.{apart_left, apart_right}
use Rattle.em_chain.specs.Chain.{chain_blocks, chain_items, empty_chain}
use Rattle.em_chain.specs.declared.chain.Chain.{Chain}
use Rattle.em_chain.proofs.Laws.{chain_stays}
use Rattle.em_segment_parts.specs.Chains.{AreChains, ChainsStay, IsPackedChain, chains_blocks, chains_count, chains_held, chains_in, chains_lists}
use Rattle.em_segment_parts.specs.declared.list.Listed.{Listed}

-- Chains whose blocks no call may change stay.
pub chains_stay : (held : List ℕ) (s t : RigState) (cs : List Chain) → Touches held s t
    → (IsTrue s.device.told → Apart (chains_blocks s cs) held) → AreChains s cs → ChainsStay s t cs
chains_stay held s t [] h a i = record { are = tt; lists = λ z. refl; blocks = λ z. refl }
chains_stay held s t (c ∷ cs) h a (one, rest) =
    let st = chain_stays held s t c h
    (λ z. apart_left (chain_blocks s c) (chains_blocks s cs) held (a z)) one.is in
    let more = chains_stay held s t cs h
    (λ z. apart_right (chain_blocks s c) (chains_blocks s cs) held (a z)) rest in
    record {
      are = (
        record {
          is = st.is;
          packed = λ y.
              let z : IsTrue s.device.told = sym h.told ∙ y in st.packed z (one.packed z);
          few = one.few;
        },
        more.are,
      );
      lists = λ z. rw (st.items z, more.lists z) refl;
      blocks = λ z. rw (st.blocks z, more.blocks z) refl;
    }

-- One of several chains,
pub chain_at : (s : RigState) (cs : List Chain) (k : ℕ) → k < length cs → AreChains s cs
    → IsPackedChain s (get_or cs k empty_chain)
chain_at s [] k l i = absurd (omega (arith, l))
chain_at s (c ∷ cs) zero l (one, rest) = one
chain_at s (c ∷ cs) (suc k) l (one, rest) = chain_at s cs k (omega (arith, l)) rest

-- and its blocks are some of all.
pub apart_at : (s : RigState) (cs : List Chain) (k : ℕ) (held : List ℕ) → k < length cs
    → Apart (chains_blocks s cs) held → Apart (chain_blocks s (get_or cs k empty_chain)) held
apart_at s [] k held l a = absurd (omega (arith, l))
apart_at s (c ∷ cs) zero held l a = apart_left (chain_blocks s c) (chains_blocks s cs) held a
apart_at s (c ∷ cs) (suc k) held l a =
    apart_at s cs k held (omega (arith, l)) (apart_right (chain_blocks s c) (chains_blocks s cs) held a)

pub list_at : (s : RigState) (cs : List Chain) (k : ℕ) → k < length cs
    → get_or (chains_lists s cs) k [] ≡ chain_items s (get_or cs k empty_chain)
list_at s [] k l = absurd (omega (arith, l))
list_at s (c ∷ cs) zero l = refl
list_at s (c ∷ cs) (suc k) l = list_at s cs k (omega (arith, l))

pub held_at : (cs : List Chain) (k : ℕ) → k < length cs
    → (get_or cs k empty_chain).blocks ≤ chains_held cs
held_at [] k l = absurd (omega (arith, l))
held_at (c ∷ cs) zero l = omega arith
held_at (c ∷ cs) (suc k) l = let h = held_at cs k (omega (arith, l)) in omega (arith, h)

-- the chains of a list of the code's
pub chains_length : (ls : List Listed) → length (chains_in ls) ≡ length ls
chains_length [] = refl
chains_length (l ∷ ls) = ap suc (chains_length ls)

pub chains_get : (ls : List Listed) (k : ℕ) (d : Listed) → k < length ls
    → get_or (chains_in ls) k empty_chain ≡ (get_or ls k d).chain
chains_get [] k d l = absurd (omega (arith, l))
chains_get (x ∷ ls) zero d l = refl
chains_get (x ∷ ls) (suc k) d l = chains_get ls k d (omega (arith, l))

-- blocks of some chains and of others
pub blocks_append : (s : RigState) (cs ds : List Chain)
    → chains_blocks s (cs ++ ds) ≡ chains_blocks s cs ++ chains_blocks s ds
blocks_append s [] ds = refl
blocks_append s (c ∷ cs) ds =
    ap (λ (ks : List ℕ). chain_blocks s c ++ ks) (blocks_append s cs ds)
    ∙ sym (append_assoc (chain_blocks s c) (chains_blocks s cs) (chains_blocks s ds))

pub held_append : (cs ds : List Chain) → chains_held (cs ++ ds) ≡ chains_held cs + chains_held ds
held_append [] ds = omega arith
held_append (c ∷ cs) ds = let h = held_append cs ds in omega (arith, h)

pub count_append : (cs ds : List Chain) → chains_count (cs ++ ds) ≡ chains_count cs + chains_count ds
count_append [] ds = omega arith
count_append (c ∷ cs) ds = let h = count_append cs ds in omega (arith, h)

pub lists_append : (s : RigState) (cs ds : List Chain)
    → chains_lists s (cs ++ ds) ≡ chains_lists s cs ++ chains_lists s ds
lists_append s [] ds = refl
lists_append s (c ∷ cs) ds =
    ap (λ (xss : List (List Record)). chain_items s c ∷ xss) (lists_append s cs ds)

pub chains_append : (s : RigState) (cs ds : List Chain) → AreChains s cs → AreChains s ds
    → AreChains s (cs ++ ds)
chains_append s [] ds h i = i
chains_append s (c ∷ cs) ds (one, rest) i = (one, chains_append s cs ds rest i)
