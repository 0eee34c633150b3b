-- The blocks of several chains are released, from the last chain on.
use Rattle.std.proofs.Common.{◌≡◌, ℕ, ◌+◌, ◌-◌, ◌*◌, ◌≤◌, List, [], ◌∷◌, ◌++◌, sym, ap, subst, ◌∙◌, arith, IsTrue, IsErrAnd, Result, Ok, Err}
use Rattle.std.proofs.lemmas.List.{append-nil, map-append}
use Rattle.em_space.specs.Held.{Holds}
use Rattle.em_space.specs.Rig.{BlockCause, Goes, RigState, Sound}
use Rattle.em_space.specs.declared.fault.EmFault.{EmFault}
use Rattle.em_space.proofs.Ledgers.{full_never}
use Rattle.em_space.proofs.Lists.{distinct_apart}
use Rattle.em_space.proofs.Paying.{pays_kept, pays_more}
use Rattle.em_space.proofs.Runs.{runs_none, runs_of}
use Rattle.em_space.proofs.Steps.{block_cause}
use Rattle.em_chain.specs.Chain.{IsChain, chain_blocks}
use Rattle.em_chain.specs.Row.{Frees}
use Rattle.em_chain.specs.declared.chain.Chain.{Chain}
use Rattle.em_segment_parts.specs.Accounts.{stored}
use Rattle.em_segment_parts.specs.Chains.{AreChains, chains_blocks, chains_held, chains_in}
use Rattle.em_segment_parts.specs.Reports.{DropsTo, Shifts, StopsShifting}
use Rattle.em_segment_parts.specs.declared.list.Listed.{Listed}
use Rattle.em_segment_parts.proofs.Chains.{blocks_append, chains_stay, held_append}
use Rattle.em_segment_parts.proofs.Parts.{shift_right, shift_right_stops, shifting_wider, shifts_stop, shifts_then, shifts_wider}

-- A chain was released,
pub discards : {T : Type 0} {s t : RigState} (c : Chain) (x : T) → Goes (chain_blocks s c) s t
    → Frees c.blocks s t (Ok x)
    → Shifts c.blocks (2 * c.blocks) (chain_blocks s c) [] c.blocks 0 s t
discards {s = s} {t = t} c x g f =
    let used = f.used in
    let most = f.most in
    let moves = f.moves in
    runs_of (chain_blocks s c) [] g (record { off = λ z j u o. tt })
    (λ z. record { in_use = tt; distinct = λ y. tt })
    (record {
      held = omega arith;
      used = omega (arith, used);
      most = omega (arith, most);
      moves = omega (arith, moves);
      later = g.touches.moves;
      pays = pays_kept 0 (omega (arith, used)) g.touches.moves;
    })

-- or wasn't.
pub discard_stops : {T : Type 0} {s t : RigState} {e : EmFault} (c : Chain)
    → Goes (chain_blocks s c) s t → Frees {T = T} c.blocks s t (Err e) → BlockCause s t e
    → StopsShifting c.blocks (2 * c.blocks) (chain_blocks s c) c.blocks s t e
discard_stops {s = s} {t = t} {e = e} c g f b =
    let used = f.used_most in
    let most = f.most in
    let moves = f.moves in
    record {
      stops = record {
        goes = g;
        halts = record {
          used = omega (arith, used);
          full = full_never s t e _ b;
          most = omega (arith, most);
          moves = omega (arith, moves);
          later = g.touches.moves;
          pays = pays_more (pays_kept 0 (omega (arith, used)) g.touches.moves) (omega arith);
        };
        cause = block_cause s t e b;
      };
    }

-- Of these chains the last ones were released, and the first ones are left.
pub record DropsSome (s t : RigState) (all left : List Listed) : Type 0 where
  pub are : AreChains t (chains_in left)
  pub few : chains_held (chains_in left) ≤ chains_held (chains_in all)
  pub shifts : Shifts (chains_held (chains_in all))
      (2 * (chains_held (chains_in all) - chains_held (chains_in left))) (chains_blocks s (chains_in all))
      (chains_blocks t (chains_in left)) (chains_held (chains_in all)) (chains_held (chains_in left)) s t

pub drops_none : {s : RigState} (all : List Listed) → Sound s → AreChains s (chains_in all)
    → (IsTrue s.device.told → Holds s (chains_blocks s (chains_in all))) → DropsSome s s all all
drops_none {s} all h i n = record {
  are = i;
  few = omega arith;
  shifts = shifts_wider 0 _ (omega arith) (omega arith)
      (runs_none s (chains_blocks s (chains_in all)) (stored (chains_held (chains_in all))) h n);
}

-- the last of some chains
last_of : (left rest : List Listed) (c : Chain) → left ≡ rest ++ record { chain = c } ∷ []
    → chains_in left ≡ chains_in rest ++ c ∷ []
last_of left rest c e =
    ap chains_in e ∙ map-append (λ (l : Listed). l.chain) rest (record { chain = c } ∷ [])

last_blocks : (t : RigState) (left rest : List Listed) (c : Chain)
    → left ≡ rest ++ record { chain = c } ∷ []
    → chains_blocks t (chains_in left) ≡ chains_blocks t (chains_in rest) ++ chain_blocks t c
last_blocks t left rest c e =
    ap (chains_blocks t) (last_of left rest c e) ∙ (blocks_append t (chains_in rest) (c ∷ [])
    ∙ ap (λ (ks : List ℕ). chains_blocks t (chains_in rest) ++ ks) (append-nil (chain_blocks t c)))

last_held : (left rest : List Listed) (c : Chain) → left ≡ rest ++ record { chain = c } ∷ []
    → chains_held (chains_in left) ≡ chains_held (chains_in rest) + c.blocks
last_held left rest c e =
    let a = ap chains_held (last_of left rest c e) in
    let b = held_append (chains_in rest) (c ∷ []) in
    omega (arith, a, b)

last_are : {t : RigState} (left rest : List Listed) (c : Chain)
    → left ≡ rest ++ record { chain = c } ∷ [] → AreChains t (chains_in left)
    → AreChains t (chains_in rest) × AreChains t (c ∷ [])
last_are {t} left rest c e i =
    split (chains_in rest) (subst (AreChains t) (last_of left rest c e) i)
  where
    split : (cs : List Chain) → AreChains t (cs ++ c ∷ []) → AreChains t cs × AreChains t (c ∷ [])
    split [] i = (tt, i)
    split (d ∷ cs) (one, rest) = let r = split cs rest in ((one, r.0), r.1)

pub drops_next : {s t u : RigState} {all left : List Listed} (rest : List Listed) (c : Chain)
    → left ≡ rest ++ record { chain = c } ∷ [] → DropsSome s t all left
    → Shifts c.blocks (2 * c.blocks) (chain_blocks t c) [] c.blocks 0 t u → DropsSome s u all rest
drops_next {s} {t} {u} {all} {left} rest c e h g =
    let is = last_are left rest c e h.are in
    let blocks = last_blocks t left rest c e in
    let held = last_held left rest c e in
    let few = h.few in
    let gone = 2 * (chains_held (chains_in all) - chains_held (chains_in left)) in
    let xs = chains_blocks t (chains_in rest) in
    let n : IsTrue t.device.told → Holds t (xs ++ chain_blocks t c) =
    λ y.
    let z : IsTrue s.device.told = sym h.shifts.session.touches.told ∙ y in
    rw blocks at (h.shifts.session.holds z) in
    let st = chains_stay (chain_blocks t c) t u (chains_in rest) g.session.touches
    (λ y. distinct_apart xs (chain_blocks t c) ((n y).distinct y)) is.0 in
    let next = shift_right (2 * c.blocks) xs (chains_blocks u (chains_in rest)) (chains_held (chains_in rest)) n
    st.blocks g in
    let nil = append-nil (chains_blocks u (chains_in rest)) in
    let none : chains_held (chains_in rest) + 0 ≡ chains_held (chains_in rest) = omega arith in
    let step = rw (nil, none, ← blocks, ← held) at next in
    record {
      are = st.are;
      few = omega (arith, few, held);
      shifts = shifts_wider (gone + 2 * c.blocks) _ (omega (arith, few, held)) (omega (arith, few, held))
          (shifts_then gone (2 * c.blocks) h.shifts step);
    }

pub drops_stop : {s t u : RigState} {all left : List Listed} {fault : EmFault} (rest : List Listed)
    (c : Chain) → left ≡ rest ++ record { chain = c } ∷ [] → DropsSome s t all left
    → StopsShifting c.blocks (2 * c.blocks) (chain_blocks t c) c.blocks t u fault
    → StopsShifting (chains_held (chains_in all)) (2 * chains_held (chains_in all))
    (chains_blocks s (chains_in all)) (chains_held (chains_in all)) s u fault
drops_stop {s} {t} {u} {all} {left} rest c e h g =
    let blocks = last_blocks t left rest c e in
    let held = last_held left rest c e in
    let few = h.few in
    let gone = 2 * (chains_held (chains_in all) - chains_held (chains_in left)) in
    let next = shift_right_stops (chains_blocks t (chains_in rest)) (chains_held (chains_in rest)) g in
    let step = rw (← blocks, ← held) at next in
    shifting_wider (omega (arith, few, held)) (omega (arith, few, held)) (shifts_stop gone h.shifts step)

pub drops_all : {s t : RigState} {all left : List Listed} → left ≡ [] → DropsSome s t all left
    → Shifts (chains_held (chains_in all)) (2 * chains_held (chains_in all))
    (chains_blocks s (chains_in all)) [] (chains_held (chains_in all)) 0 s t
drops_all {s} {t} {all} {left} e h =
    let k = rw e at h.shifts in
    shifts_wider (2 * (chains_held (chains_in all) - 0)) _ (omega arith) (omega arith) k

pub drops_err : {T : Type 0} (s t : RigState) (cs : List Chain) (result : Result T EmFault) (e : EmFault)
    → IsErrAnd result (λ f. f ≡ e)
    → StopsShifting (chains_held cs) (2 * chains_held cs) (chains_blocks s cs) (chains_held cs) s t e
    → DropsTo s t cs result
drops_err s t cs (Ok x) e h k = absurd h
drops_err s t cs (Err f) e h k =
    subst (λ (n : EmFault). StopsShifting (chains_held cs) (2 * chains_held cs) (chains_blocks s cs)
    (chains_held cs) s t n) (sym h) k

-- the next one is a chain
pub drops_chain : {s t : RigState} {all left : List Listed} (rest : List Listed) (c : Chain)
    → left ≡ rest ++ record { chain = c } ∷ [] → DropsSome s t all left → IsChain t c
drops_chain {s} {t} {all} {left} rest c e h = (last_are left rest c e h.are).1.0.is
