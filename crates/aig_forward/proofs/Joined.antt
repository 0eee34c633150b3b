-- The bits of inputs and latches become one list.
use Rattle.std.proofs.Common.{◌≡◌, ℕ, ◌+◌, ◌*◌, ◌<◌, ◌≤◌, List, ◌++◌, length, sym, ap, ◌∙◌, subst, arith, IsTrue, Result, Ok, Err}
use Rattle.std.proofs.lemmas.List.{length-append}
use Rattle.std.specs.Result.{IsErrAnd}
use Rattle.em_record.specs.declared.record.Record.{Record}
use Rattle.em_space.specs.Ledger.{Stops}
use Rattle.em_space.specs.Rig.{RigState, Goes, BlockCause, Cause}
use Rattle.em_space.specs.declared.fault.EmFault.{EmFault}
use Rattle.em_space.specs.declared.fault.EmFault.TheVariants.{Damaged}
use Rattle.em_space.proofs.Ledgers.{full_never}
use Rattle.em_space.proofs.Paying.{pays_kept}
use Rattle.em_space.proofs.Steps.{untold_by}
use Rattle.em_space.proofs.Within.{within_kept, within_same}
use Rattle.em_chain.specs.Chain.{IsChain, chain_blocks, chain_items}
use Rattle.em_chain.specs.Effects.{OnlyMoves}
use Rattle.em_chain.specs.Joins.{Joins}
use Rattle.em_chain.specs.declared.chain.Chain.{Chain}
use Rattle.em_chain.proofs.Readers.{length_items}
use Rattle.aig_sweep.specs.Lists.{lists_account}
use Rattle.aig_forward.specs.Lists.{JoinsBits, JoinsTo}

-- the length of a chain's list
pub chain_length : {s : RigState} {c : Chain} → IsChain s c → IsTrue s.device.told
    → length (chain_items s c) ≡ c.count
chain_length {s} {c} i z = length_items s c i z

module _ {s t : RigState} {f g : Chain} (n : ℕ) (few : n ≤ 1) (fi : IsChain s f) (gi : IsChain s g)
    (goes : Goes (chain_blocks s f ++ chain_blocks s g) s t) (moves : OnlyMoves (2 + 2 * n) s t)
  where
    -- No block was taken or freed, and a call gave up.
    pub unjoined : {e : EmFault} → BlockCause s t e → Cause s t e
        → Stops (f.blocks + g.blocks) 0 0 (chain_blocks s f ++ chain_blocks s g)
        (lists_account (f.blocks + g.blocks) 4) s t e
    unjoined {e} k c = record {
      goes = goes;
      halts = record {
        used = omega (arith, moves.same.used);
        full = full_never s t e (t.used + (f.blocks + g.blocks) < s.used + (f.blocks + g.blocks)) k;
        most = omega (arith, moves.same.most);
        moves = omega (arith, moves.moves, few);
        later = goes.touches.moves;
        pays = pays_kept 0 (omega (arith, moves.same.used)) goes.touches.moves;
      };
      cause = c;
    }

    module _ {c : Chain} (joins : Joins s t f g c) where
      -- Over a device that tells it has all records.
      joined_count : IsTrue s.device.told → c.count ≡ f.count + g.count
      joined_count z =
          sym (chain_length joins.is (goes.touches.told ∙ z))
          ∙ ap (λ (l : List Record). length l) (joins.items z)
          ∙ length-append (chain_items s f) (chain_items s g)
          ∙ ap (λ (m : ℕ). m + length (chain_items s g)) (chain_length fi z)
          ∙ ap (λ (m : ℕ). f.count + m) (chain_length gi z)

      -- It has fewer only over one that doesn't,
      pub miscounted : (count : ℕ) → f.count + g.count ≡ count → (c.count ≡ count → ⊥)
          → Stops (f.blocks + g.blocks) 0 0 (chain_blocks s f ++ chain_blocks s g)
          (lists_account (f.blocks + g.blocks) 4) s t (Damaged 0)
      miscounted count e h =
          let told : IsTrue t.device.told → ⊥ =
          λ z. h (joined_count (sym goes.touches.told ∙ z) ∙ e) in
          let cause : Cause s t (Damaged 0) =
          (untold_by t.device.told told, goes.sound.numbers.blocks_low) in
          unjoined cause cause

      -- else all.
      pub joined : f.count + g.count ≡ c.count → JoinsBits s t f g c
      joined e = record {
        is = joins.is;
        items = joins.items;
        count_is = sym e;
        blocks_are = joins.blocks_is;
        runs = record {
          session = record {
            sound = goes.sound;
            touches = goes.touches;
            within = within_kept s (chain_blocks s f ++ chain_blocks s g)
                (chain_blocks s f ++ chain_blocks s g) (chain_blocks t c)
                (within_same s (chain_blocks s f ++ chain_blocks s g)) joins.blocks;
            holds = λ z. (joins.is.told (goes.touches.told ∙ z)).holds;
          };
          frames = goes.frames;
          spends = record {
            held = omega (arith, joins.blocks_is);
            used = omega (arith, moves.same.used, joins.blocks_is);
            most = omega (arith, moves.same.most);
            moves = omega (arith, moves.moves, few);
            later = goes.touches.moves;
            pays = pays_kept 0 (omega (arith, moves.same.used)) goes.touches.moves;
          };
        };
      }

-- the same by the result
pub joins_err : (s t : RigState) (f g : Chain) (r : Result Chain EmFault) (e : EmFault)
    → IsErrAnd r (λ k. k ≡ e)
    → Stops (f.blocks + g.blocks) 0 0 (chain_blocks s f ++ chain_blocks s g)
    (lists_account (f.blocks + g.blocks) 4) s t e → JoinsTo s t f g r
joins_err s t f g (Ok x) e h k = absurd h
joins_err s t f g (Err d) e h k = subst (λ (x : EmFault). Stops (f.blocks + g.blocks) 0 0
    (chain_blocks s f ++ chain_blocks s g) (lists_account (f.blocks + g.blocks) 4) s t x) (sym h) k
