-- An area that is filled from a place on.
use Rattle.std.proofs.Common.{◌≡◌, IsFalse, ℕ, zero, suc, ◌+◌, ◌<◌, List, [], ◌∷◌, drop, length, set, take, refl, sym, ap, ◌∙◌, subst, arith, true, Result, Ok, Err}
use Rattle.em_record.specs.Count.{Rose}
use Rattle.em_record.specs.declared.record.Record.{Record}
use Rattle.em_frames.specs.Device.{DeviceState}
use Rattle.em_space.specs.Queue.{Pays}
use Rattle.em_space.specs.Rig.{RigState, Sound, BlockCause, Cause, IfFull}
use Rattle.em_space.specs.declared.fault.EmFault.{EmFault}
use Rattle.em_space.specs.declared.fault.EmFault.TheVariants.{DeviceFault, Full, Damaged}
use Rattle.em_space.proofs.Paying.{pays_kept, pays_then}
use Rattle.em_space.proofs.Steps.{block_cause, touches_then, touches_trans, touches_wider}
use Rattle.em_chain.specs.Chain.{ChainStays, IsChain, chain_blocks, payload_in}
use Rattle.em_chain.specs.Effects.{GivesFrame, LendsFrame, Unmoved}
use Rattle.em_chain.specs.Reader.{rest_of}
use Rattle.em_chain.specs.Reads.{Opens}
use Rattle.em_chain.specs.declared.chain.Chain.{Chain}
use Rattle.em_chain.specs.declared.reader.Reader.{Reader}
use Rattle.em_chain.proofs.Keeps.{lent_given, lent_same, payload_kept}
use Rattle.em_chain.proofs.Loops.{taking_cost}
use Rattle.em_space.specs.Free.{Off}
use Rattle.em_tree_load.specs.AreaFills.{FilledFrom, FillsArea, FillsFrom, ReadFirst, StopsFillFrom, StopsTaken}
use Rattle.em_tree_load.proofs.AreaReads.{filled_area, read_length}

-- a place of a list, counted from another one
place_set : (from n i : ℕ) (xs : List Record) (x : Record) → i ≡ from + n
    → drop from (set xs i x) ≡ set (drop from xs) n x
place_set zero n i xs x e =
    let same : i ≡ n = omega (arith, e) in ap (λ (k : ℕ). set xs k x) same
place_set (suc from) n i [] x e = refl
place_set (suc from) n zero (y ∷ ys) x e = absurd (omega (arith, e))
place_set (suc from) n (suc i) (y ∷ ys) x e = place_set from n i ys x (omega (arith, e))

pub drop_set : (from n : ℕ) (xs : List Record) (x : Record)
    → drop from (set xs (from + n) x) ≡ set (drop from xs) n x
drop_set from n xs x = place_set from n (from + n) xs x refl

place_before : (from n i : ℕ) (xs : List Record) (x : Record) → i ≡ from + n
    → take from (set xs i x) ≡ take from xs
place_before zero n i xs x e = refl
place_before (suc from) n i [] x e = refl
place_before (suc from) n zero (y ∷ ys) x e = absurd (omega (arith, e))
place_before (suc from) n (suc i) (y ∷ ys) x e =
    ap (λ (zs : List Record). y ∷ zs) (place_before from n i ys x (omega (arith, e)))

pub take_before : (from n : ℕ) (xs : List Record) (x : Record)
    → take from (set xs (from + n) x) ≡ take from xs
take_before from n xs x = place_before from n (from + n) xs x refl

-- there are as many places from a place on
pub drop_room : (from n : ℕ) (xs : List Record) → from + n < length xs → n < length (drop from xs)
drop_room zero n xs h = omega (arith, h)
drop_room (suc from) n [] h = absurd (omega (arith, h))
drop_room (suc from) n (y ∷ ys) h = drop_room from n ys (omega (arith, h))

-- The area was filled, and the reader ended.
pub filled_from : {s a t u : RigState} {c : Chain} {r q : Reader} {old new : List Record}
    (from n : ℕ) (rest : Chain) → Sound s → IsChain s c → LendsFrame s a → Unmoved s a
    → Opens s a c true r → ReadFirst a t r q (drop from old) (drop from new) n
    → take from new ≡ take from old → GivesFrame [] t u → Unmoved t u → rest ≡ rest_of q
    → (IsChain t (rest_of q) → ChainStays t u (rest_of q)) → FilledFrom s u c old new from n rest
filled_from {s} {a} {t} {u} {c} {r} {q} {old} {new} from n rest sound is l m o h kept g v words stays =
    let used = v.same.used in
    let lent = m.same.used in
    let spent = h.read.runs.spends.used in
    let blocks = ap (λ (d : Chain). d.blocks) o.words in
    let skip = ap (λ (d : Chain). d.skip) o.words in
    let len = read_length {old = drop from old} sound is l m o h in
    let all = taking_cost r q m o h.read.runs.spends in
    let moves = v.moves in
    let P : Chain → Type 0 = FilledFrom s u c old new from n in
    subst P (sym words) (record {
      filled = filled_area sound is l m o h (rest_of q) g v refl stays;
      kept = kept;
      used = omega (arith, used, lent, spent, blocks);
      place = λ z y some.
          let pa : payload_in a ≡ payload_in s = payload_kept [] s a l.touches in
          let p = h.read.took.place_is (l.touches.told ∙ z) (o.tight z y) some in
          rw (pa, len, skip, blocks) at p;
      most = omega (arith, all, moves);
    })

-- What fills it from its start.
pub area_of : (s t : RigState) (c : Chain) (old new : List Record) (n : ℕ)
    (result : Result Chain EmFault) → FillsFrom s t c old new 0 n result
    → FillsArea s t c new n result
area_of s t c old new n (Ok rest) x = x.filled
area_of s t c old new n (Err fault) x = x.fill

-- A call that releases blocks alone isn't full.
block_by : (a t : RigState) (f : EmFault) (n : ℕ) → Sound a → t.blocks ≡ a.blocks → Cause a t f
    → IfFull f (λ _. t.used + n < a.used + n) → BlockCause a t f
block_by a t DeviceFault n h e c l = c
block_by a t (Full used) n h e c l =
    let most = h.numbers.used_most in
    let high = h.numbers.most_high in
    let is = c.1 in
    omega (arith, most, high, is, e, l)
block_by a t (Damaged block) n h e c l = c

-- the same cause in states with the same devices
cause_of_devices : (s a t u : RigState) (f : EmFault) → a.device ≡ s.device → u.device ≡ t.device
    → u.blocks ≡ t.blocks → BlockCause a t f → BlockCause s u f
cause_of_devices s a t u DeviceFault d e b c =
    let P : DeviceState → Type 0 = λ x. Rose x.faults u.device.faults in
    let Q : DeviceState → Type 0 = λ x. Rose a.device.faults x.faults in
    subst P d (subst Q (sym e) c)
cause_of_devices s a t u (Full used) d e b c = c
cause_of_devices s a t u (Damaged block) d e b c =
    let P : DeviceState → Type 0 = λ x. IsFalse x.told in
    let N : ℕ → Type 0 = λ n. block < n in
    (subst P (sym e) c.0, subst N (sym b) c.1)

-- It couldn't be filled.
pub stops_fill : {s a t u : RigState} {c : Chain} {r : Reader} {f : EmFault} → IsChain s c
    → LendsFrame s a → Unmoved s a → Opens s a c true r → StopsTaken a t r f → GivesFrame [] t u
    → Unmoved t u → StopsFillFrom s u c f
stops_fill {s} {a} {t} {u} {c} {r} {f} is l m o h g v =
    let held = chain_blocks s c in
    let used = v.same.used in
    let lent = m.same.used in
    let moves = v.moves in
    let before = m.moves in
    let spent = h.halts.moves in
    let owed_is = o.owed_is in
    let cause = cause_of_devices s a t u f m.device v.device g.touches.blocks
    (block_by a t f r.blocks l.sound h.goes.touches.blocks h.cause h.halts.full) in
    let first : Pays 0 0 s a = pays_kept 0 (omega (arith, lent)) (omega (arith, before)) in
    let last : Pays 0 0 t u = pays_kept 0 (omega (arith, used)) (omega (arith, moves)) in
    record {
      fill = record {
        stops = record {
          goes = record {
            sound = g.sound;
            touches = touches_then held s t u
                (touches_trans held (chain_blocks a (rest_of r)) s a t
                (touches_wider held [] s a l.touches (λ z j i x. tt)) h.goes.touches
                (λ z j i x. subst (λ (ks : List ℕ). Off j ks) (sym (o.blocks z)) x)) g.touches;
            frames = lent_given s.pool t.pool u.pool
                (lent_same 1 s.pool a.pool t.pool l.frames h.goes.frames) g.frames;
          };
          pays = pays_then (pays_then first h.halts.pays h.halts.later) last g.touches.moves;
          cause = block_cause s u f cause;
        };
        moves = omega (arith, moves, before, spent, owed_is);
      };
      cause = cause;
    }
