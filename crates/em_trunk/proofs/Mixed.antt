-- Lists of blocks that are parts of one list, one block now from the first and now from the other.
use Rattle.std.proofs.Common.{◌≡◌, ℕ, ◌+◌, List, [], ◌∷◌, ◌++◌, length, refl, arith, IsTrue}
use Rattle.em_space.specs.Free.{AreDistinct, Off}
use Rattle.em_space.specs.Held.{AllInUse, Apart, Holds}
use Rattle.em_space.specs.Ledger.{Session}
use Rattle.em_space.specs.Rig.{RigState}
use Rattle.em_space.proofs.Apart.{off_append, off_left, off_right}
use Rattle.em_space.proofs.Lists.{apart_sym, distinct_apart, distinct_join, distinct_left, distinct_right, in_use_append, in_use_left, in_use_right}
use Rattle.em_space.proofs.Sessions.{session_beside}
use Rattle.em_space.proofs.Steps.{touches_wider}
use Rattle.em_chain.specs.Chain.{chain_blocks}
use Rattle.em_node.specs.declared.entry.Entry.{Entry}
use Rattle.em_empty.specs.Node.{buffer_blocks}
use Rattle.em_tree_blocks.specs.Node.{buffer_of, linked_block}
use Rattle.em_tree_blocks.specs.Reading.{row_blocks}
use Rattle.em_tree_walk.specs.Paid.{LosesNone}

-- The blocks of two lists make a third one, in which each of the two has its order.
pub data Mixes : List ℕ → List ℕ → List ℕ → Type 0 where
  none : Mixes [] [] []
  left : {xs ys zs : List ℕ} (k : ℕ) → Mixes xs ys zs → Mixes (k ∷ xs) ys (k ∷ zs)
  right : {xs ys zs : List ℕ} (k : ℕ) → Mixes xs ys zs → Mixes xs (k ∷ ys) (k ∷ zs)

pub all_left : (xs : List ℕ) → Mixes xs [] xs
all_left [] = none
all_left (x ∷ xs) = left x (all_left xs)

pub all_right : (xs : List ℕ) → Mixes [] xs xs
all_right [] = none
all_right (x ∷ xs) = right x (all_right xs)

pub mixes_append : {a b c d e f : List ℕ} → Mixes a b c → Mixes d e f
    → Mixes (a ++ d) (b ++ e) (c ++ f)
mixes_append none n = n
mixes_append (left k m) n = left k (mixes_append m n)
mixes_append (right k m) n = right k (mixes_append m n)

pub mixes_off : {xs ys zs : List ℕ} (j : ℕ) → Mixes xs ys zs → Off j xs → Off j ys → Off j zs
mixes_off j none o p = tt
mixes_off j (left k m) o p = (o.0, mixes_off j m o.1 p)
mixes_off j (right k m) o p = (p.0, mixes_off j m o p.1)

pub mixes_off_left : {xs ys zs : List ℕ} (j : ℕ) → Mixes xs ys zs → Off j zs → Off j xs
mixes_off_left j none o = tt
mixes_off_left j (left k m) o = (o.0, mixes_off_left j m o.1)
mixes_off_left j (right k m) o = mixes_off_left j m o.1

pub mixes_off_right : {xs ys zs : List ℕ} (j : ℕ) → Mixes xs ys zs → Off j zs → Off j ys
mixes_off_right j none o = tt
mixes_off_right j (left k m) o = mixes_off_right j m o.1
mixes_off_right j (right k m) o = (o.0, mixes_off_right j m o.1)

in_use_mixed : {xs ys zs : List ℕ} (s : RigState) → Mixes xs ys zs → AllInUse s xs → AllInUse s ys
    → AllInUse s zs
in_use_mixed s none u v = tt
in_use_mixed s (left k m) u v = (u.0, in_use_mixed s m u.1 v)
in_use_mixed s (right k m) u v = (v.0, in_use_mixed s m u v.1)

in_use_first : {xs ys zs : List ℕ} (s : RigState) → Mixes xs ys zs → AllInUse s zs → AllInUse s xs
in_use_first s none u = tt
in_use_first s (left k m) u = (u.0, in_use_first s m u.1)
in_use_first s (right k m) u = in_use_first s m u.1

in_use_second : {xs ys zs : List ℕ} (s : RigState) → Mixes xs ys zs → AllInUse s zs → AllInUse s ys
in_use_second s none u = tt
in_use_second s (left k m) u = in_use_second s m u.1
in_use_second s (right k m) u = (u.0, in_use_second s m u.1)

distinct_mixed : {xs ys zs : List ℕ} → Mixes xs ys zs → AreDistinct xs → AreDistinct ys → Apart xs ys
    → AreDistinct zs
distinct_mixed none d e a = tt
distinct_mixed (left k m) d e a = (mixes_off k m d.0 a.0, distinct_mixed m d.1 e a.1)
distinct_mixed (right {xs = xs} {ys = ys} k m) d e a =
    let b = apart_sym xs (k ∷ ys) a in
    (mixes_off k m b.0 e.0, distinct_mixed m d e.1 (apart_sym ys xs b.1))

distinct_first : {xs ys zs : List ℕ} → Mixes xs ys zs → AreDistinct zs → AreDistinct xs
distinct_first none d = tt
distinct_first (left k m) d = (mixes_off_left k m d.0, distinct_first m d.1)
distinct_first (right k m) d = distinct_first m d.1

distinct_second : {xs ys zs : List ℕ} → Mixes xs ys zs → AreDistinct zs → AreDistinct ys
distinct_second none d = tt
distinct_second (left k m) d = distinct_second m d.1
distinct_second (right k m) d = (mixes_off_right k m d.0, distinct_second m d.1)

pub mixes_apart : {xs ys zs : List ℕ} → Mixes xs ys zs → AreDistinct zs → Apart xs ys
mixes_apart none d = tt
mixes_apart (left k m) d = (mixes_off_right k m d.0, mixes_apart m d.1)
mixes_apart (right {xs = xs} {ys = ys} k m) d =
    apart_sym (k ∷ ys) xs (mixes_off_left k m d.0, apart_sym xs ys (mixes_apart m d.1))

mixes_length : {xs ys zs : List ℕ} → Mixes xs ys zs → length zs ≡ length xs + length ys
mixes_length none = refl
mixes_length (left k m) = let h = mixes_length m in omega (arith, h)
mixes_length (right k m) = let h = mixes_length m in omega (arith, h)

-- What both hold is held, one after the other or mixed.
pub holds_mixed : {xs ys zs : List ℕ} {s : RigState} → Mixes xs ys zs → Holds s (xs ++ ys) → Holds s zs
holds_mixed {xs = xs} {ys = ys} {s = s} m h = record {
  in_use = in_use_mixed s m (in_use_left s xs ys h.in_use) (in_use_right s xs ys h.in_use);
  distinct = λ z. distinct_mixed m (distinct_left xs ys (h.distinct z))
      (distinct_right xs ys (h.distinct z)) (distinct_apart xs ys (h.distinct z));
}

pub holds_parts : {xs ys zs : List ℕ} {s : RigState} → Mixes xs ys zs → Holds s zs → Holds s (xs ++ ys)
holds_parts {xs = xs} {ys = ys} {s = s} m h = record {
  in_use = in_use_append s xs ys (in_use_first s m h.in_use) (in_use_second s m h.in_use);
  distinct = λ z. distinct_join xs ys (distinct_first m (h.distinct z))
      (distinct_second m (h.distinct z)) (mixes_apart m (h.distinct z));
}

-- a call on one part, as a call on all
pub session_mixed : {s t : RigState} {xs js ys zs ws : List ℕ} → Mixes xs ys zs → Mixes js ys ws
    → (IsTrue s.device.told → Holds s zs) → Session xs s t js → Session zs s t ws
session_mixed {s = s} {t = t} {xs = xs} {js = js} {ys = ys} {zs = zs} {ws = ws} m n h g =
    let b = session_beside [] xs js ys (λ z. holds_parts m (h z)) g in
    record {
      sound = b.sound;
      touches = touches_wider zs (xs ++ ys) s t b.touches (λ z j i o.
          off_append j xs ys (mixes_off_left j m o) (mixes_off_right j m o));
      within = record {
        off = λ z j i o.
            let p = b.within.off z j i
            (off_append j xs ys (mixes_off_left j m o) (mixes_off_right j m o)) in
            mixes_off j n (off_left j js ys p) (off_right j js ys p);
      };
      holds = λ z. holds_mixed n (b.holds z);
    }

pub loses_mixed : {xs js ys zs ws : List ℕ} (s t : RigState) → Mixes xs ys zs → Mixes js ys ws
    → LosesNone xs js s t → LosesNone zs ws s t
loses_mixed s t m n a z =
    let x = a z in
    let p = mixes_length m in
    let q = mixes_length n in
    omega (arith, x, p, q)

-- the same blocks in another order
pub session_held : {s t : RigState} {xs ys zs ws ks : List ℕ} → Mixes xs ys zs → Mixes xs ys ws
    → Session zs s t ks → Session ws s t ks
session_held {s = s} {t = t} {zs = zs} {ws = ws} m n g = record {
  sound = g.sound;
  touches = touches_wider ws zs s t g.touches (λ z j i o.
      mixes_off j m (mixes_off_left j n o) (mixes_off_right j n o));
  within = record {
    off = λ z j i o. g.within.off z j i (mixes_off j m (mixes_off_left j n o) (mixes_off_right j n o));
  };
  holds = g.holds;
}

pub loses_held : {xs ys zs ws : List ℕ} (ks : List ℕ) (s t : RigState) → Mixes xs ys zs → Mixes xs ys ws
    → LosesNone zs ks s t → LosesNone ws ks s t
loses_held ks s t m n a z =
    let x = a z in
    let p = mixes_length m in
    let q = mixes_length n in
    omega (arith, x, p, q)

-- the blocks of these entries' children
abbrev pub children_blocks : (ℕ → List ℕ) → List Entry → List ℕ
children_blocks child [] = []
children_blocks child (e ∷ es) = child (linked_block e.child) ++ children_blocks child es

-- The blocks of a row are those of its buffers and those of its children.
pub row_mixes : (child : ℕ → List ℕ) (s : RigState) (es : List Entry)
    → Mixes (buffer_blocks s es) (children_blocks child es) (row_blocks child s es)
row_mixes child s [] = none
row_mixes child s (e ∷ es) = mixes_append (all_left (chain_blocks s (buffer_of e)))
    (mixes_append (all_right (child (linked_block e.child))) (row_mixes child s es))
