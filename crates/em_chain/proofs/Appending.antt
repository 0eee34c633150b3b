-- Steps of a writer.
use Rattle.std.proofs.Common.{◌≡◌, ℕ, zero, suc, ◌+◌, ◌-◌, ◌*◌, ◌<◌, ◌≤◌, ◌^◌, List, [], ◌∷◌, ◌++◌, length, refl, sym, ap, ◌∙◌, subst, arith, add-one, IsTrue}
use Rattle.std.proofs.Math.Nat.{mul-suc}
use Rattle.std.proofs.lemmas.List.{append-nil, length-set, length-map}
use Rattle.em_record.specs.Shape.{ShapeNumbers}
use Rattle.em_record.specs.declared.record.Record.{Record}
use Rattle.em_frames.specs.Device.{block_at}
use Rattle.em_frames.specs.Pool.{SameFrames, GivenFrames}
use Rattle.em_space.specs.Free.{header, linked_from, Off}
use Rattle.em_space.specs.Rig.{RigState, Sound, InUse, Touches, Goes}
use Rattle.em_space.specs.Held.{AllInUse, contents_of}
use Rattle.em_space.proofs.Held.{in_use_kept, contents_kept, all_kept}
use Rattle.em_chain.proofs.Keeps.{payload_kept}
use Rattle.em_chain.specs.List.{with_link, block_header}
use Rattle.em_chain.specs.Chain.{payload_in}
use Rattle.em_chain.specs.Effects.{GivesFrame}
use Rattle.em_chain.specs.Within.{Grows}
use Rattle.em_chain.specs.Writer.{HasLast, IsWriter, IsWritten, IsPackedSoFar, IsTightSoFar, front, linked, pending, writer_words, writer_blocks, writer_contents, writer_items}
use Rattle.em_chain.specs.Writes.{Appends}
use Rattle.em_chain.specs.declared.writer.Writer.{Writer}
use Rattle.em_space.proofs.Apart.{off_right}
use Rattle.em_space.proofs.Lists.{in_use_append, in_use_left}
use Rattle.em_space.proofs.Steps.{same_frames_then, touches_after, touches_then, touches_wider}
use Rattle.em_chain.proofs.Blocks.{distinct_push, distinct_last, fresh_off, contents_append}
use Rattle.em_chain.proofs.Lists.{follow, with_record, length_with_record, payload_with_record, list_put, list_next, list_first, header_put}

pub linked_at : (j : ℕ) → linked (j + 1) ≡ j ∷ []
linked_at j = rw add-one refl

pub pending_at : (j : ℕ) (b : List Record) → pending (j + 1) b ≡ b ∷ []
pending_at j b = rw add-one refl

-- packed is tight with nothing passed over
pub packs_so_far : {s t : RigState} {w v : Writer} → v.skip ≡ w.skip
    → (IsTightSoFar s w → IsTightSoFar t v) → IsPackedSoFar s w → IsPackedSoFar t v
packs_so_far e f g = record {
  is = record { skip_is = e ∙ g.is.skip_is; full = (f (record { full = g.is.full })).full };
}

-- A block was taken into use, and another stored.
pub record Took (s t : RigState) (l j : ℕ) (b : List Record) : Type 0 where
  pub touches : Touches (l ∷ []) s t
  pub frames : SameFrames s.pool t.pool
  pub stored : IsTrue s.device.told → block_at t.device l ≡ b
  pub fresh : IsTrue s.device.told → InUse s j → ⊥
  pub in_use : InUse t j
  pub last : InUse t l

-- the writer after the last block was full
abbrev pub after_next : Writer → ℕ → Record → Writer
after_next w j x = record w {
  tail = j + 1;
  count = w.count + 1;
  blocks = w.blocks + 1;
  fill =
      1;
  frame = with_record 0 x (with_link (j + 1) w.fill w.frame);
}

pub record Told (s t : RigState) (w v : Writer) (x : Record) : Type 0 where
  pub is : IsWritten t v
  pub items : writer_items t v ≡ writer_items s w ++ x ∷ []
  pub grown : Grows s (writer_blocks s w) (writer_blocks t v)
  pub tight : IsTightSoFar s w → IsTightSoFar t v

next_told : (s t : RigState) (w : Writer) (l j : ℕ) (x : Record) → 128 ≤ s.pool.shape.block
    → IsWriter s (record w { tail = suc l }) → w.fill ≡ payload_in s
    → Took s t l j (with_link (j + 1) w.fill w.frame) → IsTrue s.device.told
    → Told s t (record w { tail = suc l }) (after_next w j x) x
next_told s t w l j x low h full k z =
    let u = h.told z in
    let ks = front s w in
    let cs = contents_of s ks in
    let e : length ks ≡ length cs = sym (length-map ks (λ (i : ℕ). block_at s.device i)) in
    let fl = h.frame.len_is in
    let b2 = with_link (j + 1) w.fill w.frame in
    let q = list_next (payload_in s) w.fill l j x (writer_words (record w { tail = suc l })) ks cs
    w.frame b2 e full (omega arith) (h.last.fill_is (omega arith))
    (length-set w.frame 0 (block_header (j + 1) w.fill) ∙ omega arith) u.list in
    let apart = distinct_last ks l (u.holds.distinct z) in
    let ck : contents_of t ks ≡ cs = contents_kept (l ∷ []) s t ks k.touches z apart
    (in_use_left s ks (l ∷ []) u.holds.in_use) in
    let ca : contents_of t (ks ++ l ∷ []) ≡ cs ++ b2 ∷ [] = contents_append t ks (l ∷ [])
    ∙ rw (ck, k.stored z) refl in
    let e0 : w.blocks ≡ length (ks ++ l ∷ []) = sym u.list.blocks_is in
    let run = rw (← ca) at q.list.run in
    let fo : linked_from (length (ks ++ l ∷ [])) t.device.contents w.head ≡ ks ++ l ∷ [] =
    follow (payload_in s) t.device.contents w.head (ks ++ l ∷ []) (j ∷ [])
    (with_record 0 x b2 ∷ []) run in
    let bm : w.blocks + 1 - 1 ≡ length (ks ++ l ∷ []) = omega arith in
    let fr : front t (after_next w j x) ≡ ks ++ l ∷ [] = rw bm fo in
    let bl : writer_blocks t (after_next w j x) ≡ (ks ++ l ∷ []) ++ j ∷ [] =
    rw (fr, linked_at j) refl in
    let ct : writer_contents t (after_next w j x) ≡ (cs ++ b2 ∷ []) ++ with_record 0 x b2 ∷ [] =
    rw (fr, ca, pending_at j (with_record 0 x b2)) refl in
    let pt : payload_in t ≡ payload_in s = payload_kept (l ∷ []) s t k.touches in
    let nj : Off j (ks ++ l ∷ []) = fresh_off s (ks ++ l ∷ []) j u.holds.in_use (k.fresh z) in
    record {
      is = record {
        holds = record {
          in_use = rw bl (in_use_append t (ks ++ l ∷ []) (j ∷ [])
              (in_use_append t ks (l ∷ []) (all_kept (l ∷ []) s t ks k.touches (λ _. apart)
              (in_use_left s ks (l ∷ []) u.holds.in_use)) (k.last, tt))
              (k.in_use, tt));
          distinct = λ y. rw bl (distinct_push (ks ++ l ∷ []) j (u.holds.distinct z) nj);
        };
        list = rw (pt, bl, ct) q.list;
      };
      items = rw ct q.items;
      grown = record { more = j ∷ []; is = bl; fresh = (k.fresh z, tt) };
      tight = λ g. record { full = rw (pt, ct) (q.full g.full) };
    }

filled_step : (p b : ℕ) → 0 < b → p * (b + 1 - 1) ≡ p * (b - 1) + p
filled_step p zero h = absurd (omega arith)
filled_step p (suc b) h = let e : suc b + 1 - 1 ≡ suc b = omega arith in let f : suc b - 1 ≡ b =
    omega arith in rw (e, f) (mul-suc p b)

pub pos_of : (b : ℕ) → (b ≡ 0 → ⊥) → 0 < b
pos_of zero h = absurd (h refl)
pos_of (suc b) h = omega arith

-- a block that has its first record
last_new : (t : RigState) (w : Writer) (j : ℕ) → 128 ≤ t.pool.shape.block → InUse t j
    → header w.frame ≡ block_header 0 1
    → HasLast t (record w { tail = j + 1; blocks = w.blocks + 1; fill = 1 })
last_new t w j low u hd = record {
  none = λ y. absurd (omega arith);
  none_count = λ y. absurd (omega arith);
  none_skip = λ y. absurd (omega arith);
  some = λ y. omega arith;
  in_use = rw (linked_at j) (u, tt);
  fill_is = λ y. ap (λ (r : Record). r.b) hd;
  fill_low = λ y. omega arith;
  fill_none = λ y. absurd (omega arith);
  fill_most = omega arith;
  last = λ y. hd;
}

-- the last block is full
pub next_is : (s t : RigState) (w : Writer) (l j : ℕ) (x : Record) → 128 ≤ s.pool.shape.block
    → w.tail ≡ l + 1 → w.count < 2 ^ 56 → w.blocks < 2 ^ 56
    → IsWriter s w → w.fill ≡ payload_in s → Took s t l j (with_link (j + 1) w.fill w.frame)
    → Appends s t w (after_next w j x) x
next_is s t w l j x low e cm bm h full k =
    let e2 : w.tail ≡ suc l = e ∙ add-one l in
    let h2 : IsWriter s (record w { tail = suc l }) =
    subst (λ (n : ℕ). IsWriter s (record w { tail = n })) e2 h in
    let v = after_next w j x in
    let told = λ (z : IsTrue s.device.told). subst (λ (n : ℕ). Told s t (record w { tail = n }) v x)
    (sym e2) (next_told s t w l j x low h2 full k z) in
    let pt : payload_in t ≡ payload_in s = payload_kept (l ∷ []) s t k.touches in
    let pb = h.last.some in
    let fl = h.frame.len_is in
    let fr = k.frames in
    let hd : header (with_record 0 x (with_link (j + 1) w.fill w.frame)) ≡ block_header 0 1 =
    header_put (with_link (j + 1) w.fill w.frame) (block_header 0 1) x 0
    (rw length-set (omega arith)) in
    let lt : 128 ≤ t.pool.shape.block = rw (ap (λ (x : ShapeNumbers). x.block) fr.shape) low in
    record {
      is = record {
        count_most = omega arith;
        blocks_most = omega arith;
        frame = record {
          len_is = length_with_record 0 x (with_link (j + 1) w.fill w.frame)
              ∙ length-set w.frame 0 (block_header (j + 1) w.fill) ∙ fl
              ∙ sym (ap (λ (x : ShapeNumbers). x.block) fr.shape);
          out = rw (fr.shape, fr.free) h.frame.out;
        };
        last = last_new t (record v { blocks = w.blocks }) j lt k.in_use hd;
        told = λ y. (told (sym k.touches.told ∙ y)).is;
      };
      items = λ z. (told z).items;
      grown = λ z. (told z).grown;
      packed = λ z. packs_so_far refl (told z).tight;
      tight = λ z. (told z).tight;
      skip_is = refl;
      filled_is = let b0 : 0 < w.blocks = pos_of w.blocks (λ q. let y =
          h.last.none q in absurd (omega arith)) in rw (pt)
          (ap (λ (n : ℕ). n + 1) (filled_step (payload_in s) w.blocks b0) ∙ omega arith);
      count_is = refl;
    }

-- the writer with one more record in its last block
abbrev pub after_put : Writer → Record → Writer
after_put w x = record w {
  count = w.count + 1;
  fill = w.fill + 1;
  frame =
      with_record w.fill x w.frame;
}

put_told : (s : RigState) (w : Writer) (l : ℕ) (x : Record) → 128 ≤ s.pool.shape.block
    → IsWriter s (record w { tail = suc l }) → w.fill < payload_in s
    → IsTrue s.device.told → Told s s (record w { tail = suc l }) (record (after_put w x) {
      tail =
          suc l;
    }) x
put_told s w l x low h lt z =
    let u = h.told z in
    let ks = front s w in
    let cs = contents_of s ks in
    let e : length ks ≡ length cs = sym (length-map ks (λ (i : ℕ). block_at s.device i)) in
    let q = list_put (payload_in s) w.fill l x (writer_words (record w { tail = suc l })) ks cs
    w.frame e lt (h.last.fill_is (omega arith)) u.list in
    record {
      is = record {
        holds = record { in_use = u.holds.in_use; distinct = u.holds.distinct };
        list =
            q.list;
      };
      items = q.items;
      grown = record { more = []; is = sym (append-nil (ks ++ l ∷ [])); fresh = tt };
      tight = λ g. record { full = q.full g.full };
    }

pub put_is : (s : RigState) (w : Writer) (x : Record) → 128 ≤ s.pool.shape.block → 0 < w.tail
    → w.count < 2 ^ 56
    → IsWriter s w → w.fill < payload_in s → Appends s s w (after_put w x) x
put_is s w x low pos cm h lt =
    let e2 : w.tail ≡ suc (w.tail - 1) = omega arith in
    let h2 : IsWriter s (record w { tail = suc (w.tail - 1) }) =
    subst (λ (n : ℕ). IsWriter s (record w { tail = n })) e2 h in
    let v = after_put w x in
    let told = λ (z : IsTrue s.device.told). subst (λ (n : ℕ). Told s s (record w { tail = n })
    (record v { tail = n }) x) (sym e2) (put_told s w (w.tail - 1) x low h2 lt z) in
    let fl = h.frame.len_is in
    let hd : header (with_record w.fill x w.frame) ≡ block_header 0 (w.fill + 1) =
    header_put w.frame (block_header 0 (w.fill + 1)) x w.fill (omega arith) in
    record {
      is = record {
        count_most = omega arith;
        blocks_most = h.blocks_most;
        frame = record { len_is = length_with_record w.fill x w.frame ∙ fl; out = h.frame.out };
        last = record {
          none = h.last.none;
          none_count = λ y. let q = h.last.none y in absurd (omega arith);
          none_skip = h.last.none_skip;
          some = h.last.some;
          in_use = h.last.in_use;
          fill_is = λ y. ap (λ (r : Record). r.b) hd;
          fill_low = λ y. omega arith;
          fill_none = λ y. absurd (omega arith);
          fill_most = omega arith;
          last = λ y. hd;
        };
        told = λ y. (told y).is;
      };
      items = λ z. (told z).items;
      grown = λ z. (told z).grown;
      packed = λ z. packs_so_far refl (told z).tight;
      tight = λ z. (told z).tight;
      skip_is = refl;
      filled_is = omega arith;
      count_is = refl;
    }

-- the writer with its first block
abbrev pub after_first : Writer → ℕ → Record → Writer
after_first w j x = record w {
  head = j + 1;
  skip = 0;
  tail = j + 1;
  count = 1;
  blocks = 1;
  fill =
      1;
  frame = with_record 0 x w.frame;
}

pub record TookFirst (s t : RigState) (j : ℕ) : Type 0 where
  pub touches : Touches [] s t
  pub frames : SameFrames s.pool t.pool
  pub fresh : IsTrue s.device.told → InUse s j → ⊥
  pub in_use : InUse t j

first_told : (s t : RigState) (w : Writer) (j : ℕ) (x : Record) → 128 ≤ s.pool.shape.block
    → IsWriter s (record w { tail = 0; blocks = 0 })
    → TookFirst s t j → IsTrue s.device.told
    → Told s t (record w { tail = 0; blocks = 0 }) (after_first w j x) x
first_told s t w j x low h k z =
    let u = h.told z in
    let fl = h.frame.len_is in
    let q = list_first (payload_in s) j x w.frame (omega arith) (omega arith) in
    let pt : payload_in t ≡ payload_in s = payload_kept [] s t k.touches in
    let sk : w.skip ≡ 0 = u.list.skip_fits in
    let bl : writer_blocks t (after_first w j x) ≡ j ∷ [] = linked_at j in
    let ct : writer_contents t (after_first w j x) ≡ with_record 0 x w.frame ∷ [] =
    pending_at j (with_record 0 x w.frame) in
    let ci = q.count_is in
    record {
      is = record {
        holds = record { in_use = rw bl (k.in_use, tt); distinct = λ y. rw bl (tt, tt) };
        list = rw (pt, bl, ct) q;
      };
      items = rw (ct, payload_with_record 0 x w.frame (omega arith), sk) refl;
      grown = record { more = j ∷ []; is = bl; fresh = (k.fresh z, tt) };
      tight = λ g. record { full = rw (pt, ct) tt };
    }

pub first_is : (s t : RigState) (w : Writer) (j : ℕ) (x : Record) → 128 ≤ s.pool.shape.block
    → w.blocks ≡ 0
    → IsWriter s w → TookFirst s t j → Appends s t w (after_first w j x) x
first_is s t w j x low e h k =
    let e1 : w.tail ≡ 0 = h.last.none e in
    let h1 : IsWriter s (record w { tail = 0 }) =
    subst (λ (n : ℕ). IsWriter s (record w { tail = n })) e1 h in
    let h2 : IsWriter s (record w { tail = 0; blocks = 0 }) =
    subst (λ (n : ℕ). IsWriter s (record w { tail = 0; blocks = n })) e h1 in
    let v = after_first w j x in
    let told = λ (z : IsTrue s.device.told). subst (λ (n : ℕ). Told s t (record w { tail = n }) v x)
    (sym e1)
    (subst (λ (n : ℕ). Told s t (record w { tail = 0; blocks = n }) v x) (sym e)
    (first_told s t w j x low h2 k z)) in
    let pt : payload_in t ≡ payload_in s = payload_kept [] s t k.touches in
    let fl = h.frame.len_is in
    let fr = k.frames in
    let c0 : w.count ≡ 0 = h.last.none_count e in
    let sk : 0 ≡ w.skip = sym (h.last.none_skip e) in
    let f0 : w.fill ≡ 0 = h.last.fill_none e1 in
    let hd : header (with_record 0 x w.frame) ≡ block_header 0 1 =
    header_put w.frame (block_header 0 1) x 0 (omega arith) in
    let lt : 128 ≤ t.pool.shape.block = rw (ap (λ (x : ShapeNumbers). x.block) fr.shape) low in
    record {
      is = record {
        count_most = omega arith;
        blocks_most = omega arith;
        frame = record {
          len_is = length_with_record 0 x w.frame ∙ fl
              ∙ sym (ap (λ (x : ShapeNumbers). x.block) fr.shape);
          out =
              rw (fr.shape, fr.free) h.frame.out;
        };
        last = last_new t (record v { blocks = 0 }) j lt k.in_use hd;
        told = λ y. (told (sym k.touches.told ∙ y)).is;
      };
      items = λ z. (told z).items;
      grown = λ z. (told z).grown;
      packed = λ z. packs_so_far sk (told z).tight;
      tight = λ z. (told z).tight;
      skip_is = sk;
      filled_is = rw (e, f0) (grind arith);
      count_is = rw c0 refl;
    }

-- the last block is in use
pub last_used : (s : RigState) (w : Writer) → IsWriter s w → 0 < w.tail → InUse s (w.tail - 1)
last_used s w h pos =
    let e : w.tail ≡ (w.tail - 1) + 1 = omega arith in
    let u : AllInUse s ((w.tail - 1) ∷ []) =
    rw linked_at at (subst (λ (n : ℕ). AllInUse s (linked n)) e h.last.in_use) in
    u.0

pub last_in_use : (s t : RigState) (w : Writer) → IsWriter s w → 0 < w.tail → Touches [] s t
    → InUse t (w.tail - 1)
last_in_use s t w h pos k = in_use_kept [] s t (w.tail - 1) k (λ _. tt) (last_used s w h pos)

-- a block that was new stays in use when the last one is stored
pub new_in_use : (s m t : RigState) (w : Writer) (j : ℕ) → IsWriter s w → 0 < w.tail
    → Touches [] s m → Touches ((w.tail - 1) ∷ []) m t
    → (IsTrue s.device.told → InUse s j → ⊥) → InUse m j → InUse t j
new_in_use s m t w j h pos x y f u =
    in_use_kept ((w.tail - 1) ∷ []) m t j y
    (λ z. (
      (λ e. f (sym x.told
          ∙ z) (subst (λ (n : ℕ). InUse s n) (sym e) (last_used s w h pos))),
      tt,
    )) u

-- a call that may change the last block alone
touches_last : (s t : RigState) (w : Writer) → 0 < w.tail
    → Touches ((w.tail - 1) ∷ []) s t → Touches (writer_blocks s w) s t
touches_last s t w pos k =
    let e : w.tail ≡ (w.tail - 1) + 1 = omega arith in
    touches_wider (writer_blocks s w) ((w.tail - 1) ∷ []) s t k
    (λ z j u o. rw linked_at at (subst (λ (n : ℕ). Off j (linked n)) e
    (off_right j (front s w) (linked w.tail) o)))

pub goes_last : {s m t : RigState} (w : Writer) → 0 < w.tail → Goes [] s m
    → Goes ((w.tail - 1) ∷ []) m t → Goes (writer_blocks s w) s t
goes_last {s} {m} {t} w pos g h = record {
  sound = h.sound;
  touches = touches_last s t w pos
      (touches_after ((w.tail - 1) ∷ []) s m t g.touches h.touches);
  frames = same_frames_then s.pool m.pool t.pool g.frames h.frames;
}

pub gives_last : {s m t : RigState} (w : Writer) → 0 < w.tail → Touches ((w.tail - 1) ∷ []) s m
    → Touches [] m t → Sound t → GivenFrames 1 s.pool t.pool → GivesFrame (writer_blocks s w) s t
gives_last {s} {m} {t} w pos g h sound frames = record {
  sound = sound;
  touches = touches_last s t w pos (touches_then ((w.tail - 1) ∷ []) s m t g h);
  frames = frames;
}
