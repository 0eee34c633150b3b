-- No more blocks are held than are in use.
use Rattle.std.proofs.Common.{ℕ, ◌≤◌, List, [], ◌∷◌, ◌++◌, length, length-append, arith, IsTrue}
use Rattle.std.proofs.lemmas.Map.Steps.{length-le_from_distinct_below}
use Rattle.em_record.specs.declared.record.Record.{Record}
use Rattle.em_space.specs.Free.{AreBelow, AreDistinct, AreTaken, free_blocks}
use Rattle.em_space.specs.Held.{Apart, AllInUse, Holds}
use Rattle.em_space.specs.Rig.{RigState, Sound, unlinked}
use Rattle.em_space.proofs.Free.{distinct-std, below-any}
use Rattle.em_space.proofs.Apart.{off_append}
use Rattle.em_space.proofs.Lists.{below_append, distinct_join}

abbrev free_of : RigState → List ℕ
free_of s = s.spare ++ free_blocks s.device.contents s.most (unlinked s) s.head

taken_apart : (bs : List (List Record)) (most used head : ℕ) (ks : List ℕ)
    → AreTaken bs most used head ks → AreBelow most ks × Apart ks (free_blocks bs most used head)
taken_apart bs most used head [] a = (tt, tt)
taken_apart bs most used head (k ∷ ks) a =
    let b = taken_apart bs most used head ks a.1 in ((a.0.0, b.0), (a.0.1, b.1))

all_taken : (s : RigState) (ks : List ℕ) → IsTrue s.device.told → AllInUse s ks
    → AreBelow s.most ks × Apart ks (free_of s)
all_taken s [] z u = (tt, tt)
all_taken s (k ∷ ks) z u =
    let a = u.0.told z in
    let b = all_taken s ks z u.1 in
    ((a.0.0, b.0), (off_append k s.spare _ a.1 a.0.1, b.1))

-- Over a device that tells, a value holds no more blocks than are in use.
pub held_most : (s : RigState) (ks : List ℕ) → Sound s → IsTrue s.device.told → Holds s ks
    → length ks ≤ s.used
held_most s ks h z n =
    let f = h.free z in
    let p = h.spare z in
    let t = taken_apart s.device.contents s.most (unlinked s) s.head s.spare p.taken in
    let fd : AreDistinct (free_of s) = distinct_join s.spare _ p.distinct f.distinct t.1 in
    let fb : AreBelow s.most (free_of s) = below_append s.most s.spare _ t.0 f.below in
    let a = all_taken s ks z n.in_use in
    let l : length (ks ++ free_of s) ≤ s.most =
    length-le_from_distinct_below (ks ++ free_of s) s.most
    (distinct-std (ks ++ free_of s) (distinct_join ks (free_of s) (n.distinct z) fd a.1))
    (λ q y. below-any s.most (ks ++ free_of s) q (below_append s.most ks (free_of s) a.0 fb) y)
    in
    let c = f.count in
    let u = h.numbers.spare_most in
    let e2 = length-append s.spare (free_blocks s.device.contents s.most (unlinked s) s.head) in
    let e = length-append ks (free_of s) in
    omega arith
