-- What the steps of a rig's calls leave of its state.
use Rattle.std.proofs.Common.{◌≡◌, ◌≢◌, ◌↔◌, ℕ, zero, suc, ◌+◌, ◌-◌, ◌<◌, ◌≤◌, List, [], ◌∷◌, ◌++◌, length, length-append, get_or, refl, sym, ap, ◌∙◌, arith, IsTrue, IsFalse, add-one, inl, inr, ⊎_elim, Result}
use Rattle.std.proofs.lemmas.Bool.{cases_eq}
use Rattle.std.proofs.lemmas.List.{get_or-set_other}
use Rattle.em_record.specs.Count.{next_count}
use Rattle.em_record.specs.declared.record.Record.{Record}
use Rattle.em_frames.specs.Device.{DeviceState, IsMove, ChangesOnly, block_at}
use Rattle.em_frames.specs.Pool.{SameFrames}
use Rattle.em_space.specs.Free.{Off, AreBelow, AreSpare, header, link_at, IsTaken}
use Rattle.em_space.specs.Inner.{Reads, WritesLink, IsFreeHeader}
use Rattle.em_space.specs.Rig.{RigState, Sound, InUse, Goes, SameBlocks, NoneNew, Allocates, Releases, unlinked}
use Rattle.em_space.proofs.Free.{laid_out-set, free_list-set, taken-set, taken-before, free_list-first, IsFirst, first-is, taken-first, taken-unless, first-untaken, Frees, free_list-freed, taken-freed, untaken-freed, freed-untaken, free_list-next, taken-next, taken-none_freed, spare-by, spare-off, taken-left, taken-right, taken-join, off-none}
use Rattle.em_space.proofs.Held.{in_use_below}
use Rattle.em_space.proofs.Apart.{off_append, off_left, off_right}
use Rattle.em_space.proofs.Lists.{apart_sym, below_append, distinct_apart, distinct_join, distinct_left}
use Rattle.em_space.proofs.Most.{held_most}
use Rattle.em_space.proofs.Steps.{both_told, same_frames, touches_again, untold_by}

-- A block in use is written.
pub record Writes {T E : Type 0} (s : RigState) (d : DeviceState) (m k n : ℕ) (r : Result T E)
    : Type 0 where
  pub sound : Sound s
  pub in_use : InUse s k
  pub others : ChangesOnly k n s.device d
  pub len : n ≡ s.pool.shape.block
  pub moved : IsMove s.device d r
  pub moves : m ≡ next_count s.moves
  pub later : s.moves ≤ m

pub sound_written : {T E : Type 0} (s : RigState) (d : DeviceState) (m k n : ℕ) (r : Result T E)
    → Writes s d m k n r → Sound (record s { device = d; moves = m })
sound_written s d m k n r w =
    let h = w.sound in
    let left = w.others.left in
    let len : length left ≡ s.pool.shape.block = w.others.length_is ∙ w.len in
    record {
      blocks_is = w.moved.blocks ∙ h.blocks_is;
      block_is = w.moved.block ∙ h.block_is;
      moves_is = w.moved.moves ∙ ap next_count h.moves_is ∙ sym w.moves;
      shape = h.shape;
      singles = h.singles;
      areas = h.areas;
      numbers = h.numbers;
      told = λ t. let y : IsTrue s.device.told = sym w.moved.told ∙ t in
          rw w.others.is
          (laid_out-set s.device.contents s.blocks s.pool.shape.block k left len (h.told y));
      free = λ t. let y : IsTrue s.device.told = sym w.moved.told ∙ t in
          rw w.others.is
          (free_list-set s.device.contents s.most (unlinked s) s.head k left (w.in_use.told y).0.1
          (h.free y));
      spare_below = h.spare_below;
      spare = λ t. let y : IsTrue s.device.told = sym w.moved.told ∙ t in
          rw w.others.is
          (record {
            taken = spare-by _ _ _ _ _ _ _ _ s.spare
                (taken-set s.device.contents s.most (unlinked s) s.head k left (w.in_use.told y).0.1)
                (h.spare y).taken;
            distinct = (h.spare y).distinct;
          });
    }

pub in_use_written : {T E : Type 0} (s : RigState) (d : DeviceState) (m k n : ℕ) (r : Result T E)
    → Writes s d m k n r → (j : ℕ) → InUse s j → InUse (record s { device = d; moves = m }) j
in_use_written s d m k n r w j v = record {
  told = λ t. let y : IsTrue s.device.told = sym w.moved.told ∙ t in
      rw w.others.is (
        taken-set s.device.contents s.most (unlinked s) s.head k w.others.left (w.in_use.told y).0.1 j
            (v.told y).0,
        (v.told y).1,
      );
  untold = λ t. v.untold (sym w.moved.told ∙ t);
}

pub none_new_written : {T E : Type 0} (s : RigState) (d : DeviceState) (m k n : ℕ) (r : Result T E)
    → Writes s d m k n r → NoneNew s (record s { device = d; moves = m })
none_new_written s d m k n r w = record {
  is = λ y j u. record {
    told = λ z. (
      taken-before s.device.contents s.most (unlinked s) s.head k w.others.left
          (w.in_use.told z).0.1 j (rw w.others.is at (u.told (w.moved.told ∙ z)).0),
      (u.told (w.moved.told ∙ z)).1,
    );
    untold = λ z. absurd (both_told s.device.told y z);
  };
}

pub goes_written : {T E : Type 0} (s : RigState) (d : DeviceState) (m k n : ℕ) (r : Result T E)
    → Writes s d m k n r → Goes (k ∷ []) s (record s { device = d; moves = m })
goes_written s d m k n r w = record {
  sound = sound_written s d m k n r w;
  touches = record {
    name = refl;
    told = w.moved.told;
    blocks = refl;
    shape = refl;
    faults = w.moved.faults;
    most = omega arith;
    moves = w.later;
    others = λ y j v o. record {
      in_use = in_use_written s d m k n r w j v;
      contents = rw w.others.is (get_or-set_other s.device.contents k j w.others.left [] o.0);
    };
  };
  frames = same_frames s.pool;
}

-- a block was read
pub goes_read : (s t : RigState) → Sound t → Reads s t → SameFrames s.pool t.pool → Goes [] s t
goes_read s t g r f = record {
  sound = g;
  touches = record {
    name = r.name;
    told = r.told;
    blocks = r.blocks;
    shape = f.shape;
    faults = r.faults;
    most = omega (arith, r.same.most);
    moves = r.later;
    others = λ y j u o. record {
      in_use = record {
        told = λ z. rw (r.contents, r.same.most, r.same.used, r.same.head, r.spare) (u.told y);
        untold = λ z. rw r.blocks (u.untold (sym r.told ∙ z));
      };
      contents = ap (λ (bs : List (List Record)). get_or bs j []) r.contents;
    };
  };
  frames = f;
}

pub none_new_read : (s t : RigState) → Reads s t → NoneNew s t
none_new_read s t r = record {
  is = λ y j u. record {
    told = λ z.
        rw (← r.contents, ← r.same.most, ← r.same.used, ← r.same.head, ← r.spare) (u.told (r.told ∙ z));
    untold = λ z. absurd (both_told s.device.told y z);
  };
}

-- The first of the free blocks comes into use: its header was read.
pub record HasFirst (s : RigState) (k link : ℕ) : Type 0 where
  pub sound : Sound s
  pub none : length s.spare ≡ 0
  pub head : s.head ≡ k + 1
  pub link_is : IsTrue s.device.told → link ≡ link_at s.device.contents k
  pub within : link ≤ s.blocks
  pub last : (link ≡ 0) ↔ (s.most - s.used ≤ 1)

abbrev pub with_first : RigState → ℕ → RigState
with_first s link = record s { head = link; used = s.used + 1 }

more_left : (link count : ℕ) → (count ≤ 1 → link ≡ 0) → 0 < link → 1 < count
more_left link zero last some = let none = last (omega arith) in absurd (omega arith)
more_left link (suc zero) last some = let none = last (omega arith) in absurd (omega arith)
more_left link (suc (suc n)) last some = omega arith

goes_first-sound : (s : RigState) (k link : ℕ) → HasFirst s k link → Sound (with_first s link)
goes_first-sound s k link f =
    let x = f.sound.numbers in
    let head = f.head in
    let none = f.none in
    let some : unlinked s < s.most = x.some_freed (omega arith) in
    let e : s.used + 1 + length s.spare ≡ unlinked s + 1 = omega arith in
    record {
      blocks_is = f.sound.blocks_is;
      block_is = f.sound.block_is;
      moves_is = f.sound.moves_is;
      shape = f.sound.shape;
      singles = f.sound.singles;
      areas = f.sound.areas;
      numbers = record {
        blocks_low = x.blocks_low;
        blocks_high = x.blocks_high;
        used_most = omega arith;
        most_high = x.most_high;
        head_high = f.within;
        spare_most = omega arith;
        none_freed = λ z. let y = f.last.0 z in omega arith;
        some_freed = λ z. let y = more_left link _ f.last.1 z in omega arith;
      };
      told = f.sound.told;
      free = λ y.
          rw (f.link_is y, e) (free_list-first s.device.contents s.most (unlinked s) k some
          (rw (head, add-one) at f.sound.free y));
      spare_below = f.sound.spare_below;
      spare = λ y. record {
        taken = spare-by s.device.contents s.device.contents s.most s.most (unlinked s)
            (s.used + 1 + length s.spare) s.head link s.spare
            (λ j u. rw (f.link_is y, e) (taken-first s.device.contents s.most (unlinked s) k some j
            (rw (head, add-one) at u))) (f.sound.spare y).taken;
        distinct = (f.sound.spare y).distinct;
      };
    }

pub goes_first : (s : RigState) (k link : ℕ) → HasFirst s k link → Goes [] s (with_first s link)
goes_first s k link f =
    let x = f.sound.numbers in
    let head = f.head in
    let some : unlinked s < s.most = x.some_freed (omega arith) in
    let e : s.used + 1 + length s.spare ≡ unlinked s + 1 = omega arith in
    record {
      sound = goes_first-sound s k link f;
      touches = touches_again s s.pool link (s.used + 1) s.spare refl (λ j y u. (
        rw (f.link_is y, e) (taken-first s.device.contents s.most (unlinked s) k some j
            (rw (head, add-one) at u.0)),
        u.1,
      ));
      frames = same_frames s.pool;
    }

-- what is known of the first free block, if the device tells
pub first_told : (s : RigState) (k : ℕ) → Sound s → s.head ≡ k + 1 → IsTrue s.device.told
    → IsFirst s.device.contents s.most (unlinked s) k
first_told s k h head y =
    first-is s.device.contents s.most (unlinked s) k (h.numbers.some_freed (omega arith))
    (rw (head, add-one) at h.free y)

pub allocates_first : (s : RigState) (k link : ℕ) → HasFirst s k link
    → Allocates s (with_first s link) k
allocates_first s k link f =
    let head = f.head in
    let some : unlinked s < s.most = f.sound.numbers.some_freed (omega arith) in
    let e1 : s.used + 1 + length s.spare ≡ unlinked s + 1 = omega arith in
    let below : k < s.blocks = omega (arith, f.sound.numbers.head_high) in
    record {
      fresh = λ t u. first-untaken s.device.contents s.most (unlinked s) k some
          (rw (head, add-one) at (u.told t).0);
      in_use = record {
        told = λ y. let first = first_told s k f.sound head y in
            rw (f.link_is y, e1) ((first.below, first.off), off-none k s.spare f.none);
        untold = λ z. below;
      };
      others = λ t j u. ⊎_elim (λ (e : j ≡ k). inl e)
          (λ (v : IsTaken s.device.contents s.most (unlinked s) (suc k) j).
          inr (record {
            told = λ z. (rw (head, add-one) v, (u.told t).1);
            untold = λ z. absurd (both_told s.device.told t z);
          }))
          (taken-unless s.device.contents s.most (unlinked s) k some j
          (rw (f.link_is t, e1) at (u.told t).0));
      below = below;
      used = refl;
    }

one_left : (bs : List (List Record)) (most used k : ℕ) → IsFirst bs most used k
    → (link : ℕ) → link ≡ link_at bs k → most - used ≤ 1 → link ≡ 0
one_left bs most used k f zero e h = refl
one_left bs most used k f (suc n) e h = let y = f.more (omega arith) in absurd (omega arith)

-- a header that isn't that of a free block was read, so the device doesn't tell
pub untold_first : (s : RigState) (k : ℕ) (first : Record) → Sound s → s.head ≡ k + 1
    → (IsTrue s.device.told → first ≡ header (block_at s.device k))
    → length s.spare ≡ 0 → (IsFreeHeader first s.blocks (s.most - s.used) → ⊥) → IsFalse s.device.told
untold_first s k first h head is none other = untold_by s.device.told (λ y.
    let e = is y in
    let f = first_told s k h head y in
    let a : first.a ≡ link_at s.device.contents k = ap (λ (r : Record). r.a) e in
    let most = h.numbers.most_high in
    other (record {
      is = rw e f.is;
      within = omega (arith, f.link);
      last = (
        λ z. let z2 = f.last (sym a ∙ z) in omega arith,
        λ z. one_left s.device.contents s.most (unlinked s) k f first.a a (omega arith),
      );
    }))

-- the header of the first free block was read, and then the block came into use
pub allocates_read : (s t : RigState) (k link : ℕ) → Sound t → Reads s t
    → SameFrames s.pool t.pool → HasFirst t k link → Allocates s (with_first t link) k
allocates_read s t k link sound reads frames f =
    let x = allocates_first t k link f in
    let goes = goes_read s t sound reads frames in
    record {
      fresh = λ y u. x.fresh (reads.told ∙ y) (goes.touches.others y k u tt).in_use;
      in_use = x.in_use;
      others = λ y j u. ⊎_elim (λ (e : j ≡ k). inl e)
          (λ (v : InUse t j). inr ((none_new_read s t reads).is y j v))
          (x.others (reads.told ∙ y) j u);
      below = x.below;
      used = ap (λ n. n + 1) reads.same.used;
    }

-- A block in use has been written as a free one, and now becomes the first of these.
pub record FreesBlock (s t : RigState) (k : ℕ) : Type 0 where
  pub sound : Sound s
  pub in_use : InUse s k
  pub goes : Goes (k ∷ []) s t
  pub same : SameBlocks s t
  pub spare : t.spare ≡ s.spare
  pub link : WritesLink k s t
  pub some : 0 < s.used

abbrev pub with_freed : RigState → ℕ → RigState
with_freed t k = record t { head = k + 1; used = t.used - 1 }

module _ (s t : RigState) (k : ℕ) (f : FreesBlock s t k) where
  frees : IsTrue s.device.told
      → Frees s.device.contents s.most (unlinked s) s.head k f.link.left
  frees y = record {
    some = omega (arith, f.some);
    least = f.sound.numbers.spare_most;
    in_range =
        let below = in_use_below s k f.sound f.in_use in
        omega (arith, (f.sound.told y).length_is);
    header_is = f.link.header_is;
    taken = (f.in_use.told y).0;
  }

  fewer_unlinked : s.used - 1 + length s.spare ≡ unlinked s - 1
  fewer_unlinked = let some = f.some in omega arith

  kept_spare : IsTrue s.device.told → (j : ℕ) → Off j (k ∷ []) → InUse s j
      → IsTaken (with_freed t k).device.contents t.most (unlinked (with_freed t k)) (k + 1) j
  kept_spare y j o u =
      rw (f.link.is, f.same.most, f.same.used, f.spare, fewer_unlinked, add-one)
      (taken-freed s.device.contents s.most (unlinked s) s.head k f.link.left (frees y) j o.0
      (u.told y).0)

  back : IsTrue t.device.told → IsTrue s.device.told
  back y = sym f.goes.touches.told ∙ y

  freed-sound : Sound (with_freed t k)
  freed-sound =
      let x = f.sound.numbers in
      let g = f.goes.sound in
      let below = in_use_below s k f.sound f.in_use in
      let blocks = f.goes.touches.blocks in
      let used = f.same.used in
      let most = f.same.most in
      let some = f.some in
      record {
        blocks_is = g.blocks_is;
        block_is = g.block_is;
        moves_is = g.moves_is;
        shape = g.shape;
        singles = g.singles;
        areas = g.areas;
        numbers = record {
          blocks_low = g.numbers.blocks_low;
          blocks_high = g.numbers.blocks_high;
          used_most = omega (arith, g.numbers.used_most);
          most_high = g.numbers.most_high;
          head_high = omega arith;
          spare_most = omega (arith, x.spare_most, f.spare, ap length f.spare);
          none_freed = λ z. absurd (omega arith);
          some_freed = λ z. omega (arith, x.spare_most, ap length f.spare);
        };
        told = g.told;
        free = λ y.
            rw (f.link.is, most, used, f.spare, fewer_unlinked, add-one)
            (free_list-freed s.device.contents s.most (unlinked s) s.head k f.link.left
            (frees (back y)) (f.sound.free (back y)));
        spare_below = rw (f.spare, blocks) f.sound.spare_below;
        spare = λ y. let p = f.sound.spare (back y) in
            rw (f.link.is, most, used, f.spare, fewer_unlinked, add-one)
            (record {
              taken = spare-off _ _ _ _ _ _ _ _ k s.spare
                  (taken-freed s.device.contents s.most (unlinked s) s.head k f.link.left
                  (frees (back y))) (f.in_use.told (back y)).1 p.taken;
              distinct = p.distinct;
            });
      }

  pub goes_freed : Goes (k ∷ []) s (with_freed t k)
  goes_freed =
      let touches = f.goes.touches in
      record {
        sound = freed-sound;
        touches = record {
          name = touches.name;
          told = touches.told;
          blocks = touches.blocks;
          shape = touches.shape;
          faults = touches.faults;
          most = touches.most;
          moves = touches.moves;
          others = λ y j u o. record {
            in_use = record {
              told = λ z. (kept_spare y j o u, rw f.spare (u.told y).1);
              untold = λ z. rw touches.blocks (u.untold (sym touches.told ∙ z));
            };
            contents = (touches.others y j u o).contents;
          };
        };
        frames = f.goes.frames;
      }

  pub releases_freed : Releases s (with_freed t k) k
  releases_freed = record {
    gone = λ y u.
        let v : IsTaken t.device.contents t.most (t.used - 1 + length t.spare) (k + 1) k =
        (u.told (f.goes.touches.told ∙ y)).0 in
        freed-untaken s.device.contents s.most (unlinked s) s.head k f.link.left (frees y)
        (rw (f.link.is, f.same.most, f.same.used, f.spare, fewer_unlinked, add-one) at v);
    used = omega (arith, f.same.used, f.some);
  }

  pub none_new_freed : NoneNew s (with_freed t k)
  none_new_freed = record {
    is = λ y j u. record {
      told = λ z.
          let v : IsTaken t.device.contents t.most (t.used - 1 + length t.spare) (k + 1) j =
          (u.told (f.goes.touches.told ∙ z)).0 in (
            untaken-freed s.device.contents s.most (unlinked s) s.head k f.link.left (frees y) j
                (rw (f.link.is, f.same.most, f.same.used, f.spare, fewer_unlinked, add-one) at v),
            rw f.spare at (u.told (f.goes.touches.told ∙ z)).1,
          );
      untold = λ z. absurd (both_told s.device.told y z);
    };
  }

-- with no block in use, a block counts as in use only if the device doesn't tell
pub none_used : (s : RigState) (k : ℕ) → Sound s → InUse s k → s.used ≡ 0 → IsFalse s.device.told
none_used s k h u e = untold_by s.device.told (λ y.
    let p = held_most s (k ∷ []) h y (record { in_use = (u, tt); distinct = λ z. (tt, tt) }) in
    absurd (omega arith))

-- A number that was kept comes into use.
pub record TakesSpare (s : RigState) (left : List ℕ) (k : ℕ) : Type 0 where
  pub sound : Sound s
  pub is : s.spare ≡ left ++ k ∷ []

abbrev pub without_spare : RigState → List ℕ → RigState
without_spare s left = record s { spare = left; used = s.used + 1 }

below-left : (n : ℕ) (ks js : List ℕ) → AreBelow n (ks ++ js) → AreBelow n ks × AreBelow n js
below-left n [] js h = (tt, h)
below-left n (k ∷ ks) js h = let y = below-left n ks js h.1 in ((h.0, y.0), y.1)

module _ (s : RigState) (left : List ℕ) (k : ℕ) (f : TakesSpare s left k) where
  more_used : s.used + 1 + length left ≡ unlinked s
  more_used =
      let a : length s.spare ≡ length (left ++ k ∷ []) = ap length f.is in
      let b = length-append left (k ∷ []) in omega arith

  few_used : s.used + 1 ≤ s.most
  few_used = let m = f.sound.numbers.spare_most in let e = more_used in omega arith

  spare_were : IsTrue s.device.told
      → AreSpare s.device.contents s.most (unlinked s) s.head (left ++ k ∷ [])
  spare_were y = rw (← f.is) (f.sound.spare y)

  belows : AreBelow s.blocks left × AreBelow s.blocks (k ∷ [])
  belows = let h : AreBelow s.blocks (left ++ k ∷ []) = rw (← f.is) f.sound.spare_below in
      below-left s.blocks left (k ∷ []) h

  taken_spare : (j : ℕ) → IsTaken s.device.contents s.most (unlinked s) s.head j
      → IsTaken s.device.contents s.most (s.used + 1 + length left) s.head j
  taken_spare j u = rw more_used u

  takes-sound : Sound (without_spare s left)
  takes-sound =
      let h = f.sound in
      let x = h.numbers in
      let e = more_used in
      record {
        blocks_is = h.blocks_is;
        block_is = h.block_is;
        moves_is = h.moves_is;
        shape = h.shape;
        singles = h.singles;
        areas = h.areas;
        numbers = record {
          blocks_low = x.blocks_low;
          blocks_high = x.blocks_high;
          used_most = few_used;
          most_high = x.most_high;
          head_high = x.head_high;
          spare_most = omega (arith, x.spare_most);
          none_freed = λ z. omega (arith, x.none_freed z);
          some_freed = λ z. omega (arith, x.some_freed z);
        };
        told = h.told;
        free = λ y. rw e (h.free y);
        spare_below = belows.0;
        spare = λ y. let p = spare_were y in rw e (record {
          taken = taken-left _ _ _ _ left (k ∷ []) p.taken;
          distinct = distinct_left left (k ∷ []) p.distinct;
        });
      }

  pub goes_taken : Goes [] s (without_spare s left)
  goes_taken = record {
    sound = takes-sound;
    touches = touches_again s s.pool s.head (s.used + 1) left refl (λ j y u.
        let o : Off j (left ++ k ∷ []) = rw (← f.is) u.1 in
        (taken_spare j u.0, off_left j left (k ∷ []) o));
    frames = same_frames s.pool;
  }

  pub allocates_taken : Allocates s (without_spare s left) k
  allocates_taken = record {
    fresh = λ y u.
        let o : Off k (left ++ k ∷ []) = rw (← f.is) (u.told y).1 in
        (off_right k left (k ∷ []) o).0 refl;
    in_use = record {
      told = λ y. let p = spare_were y in (
        taken_spare k (taken-right _ _ _ _ left (k ∷ []) p.taken).0,
        (apart_sym left (k ∷ []) (distinct_apart left (k ∷ []) p.distinct)).0,
      );
      untold = λ z. belows.1.0;
    };
    others = λ y j u. ⊎_elim (λ (e : j ≡ k). inl e)
        (λ (ne : j ≢ k). inr (record {
          told = λ z. let o = off_append j left (k ∷ []) (u.told y).1 (ne, tt) in
              let t : IsTaken s.device.contents s.most (s.used + 1 + length left) s.head j =
              (u.told y).0 in
              (rw more_used at t, rw f.is o);
          untold = λ z. absurd (both_told s.device.told y z);
        }))
        (cases_eq j k);
    below = belows.1.0;
    used = refl;
  }

  pub room_taken : s.used < s.blocks
  room_taken = let m = few_used in let h = f.sound.numbers.most_high in omega arith

-- The number of a block in use is kept.
pub record KeepsSpare (s : RigState) (k : ℕ) : Type 0 where
  pub sound : Sound s
  pub in_use : InUse s k
  pub some : 0 < s.used

abbrev pub with_spare : RigState → ℕ → RigState
with_spare s k = record s { spare = s.spare ++ k ∷ []; used = s.used - 1 }

module _ (s : RigState) (k : ℕ) (f : KeepsSpare s k) where
  as_many : s.used - 1 + length (s.spare ++ k ∷ []) ≡ unlinked s
  as_many =
      let b = length-append s.spare (k ∷ []) in let some = f.some in omega arith

  kept-sound : Sound (with_spare s k)
  kept-sound =
      let h = f.sound in
      let x = h.numbers in
      let e = as_many in
      record {
        blocks_is = h.blocks_is;
        block_is = h.block_is;
        moves_is = h.moves_is;
        shape = h.shape;
        singles = h.singles;
        areas = h.areas;
        numbers = record {
          blocks_low = x.blocks_low;
          blocks_high = x.blocks_high;
          used_most = omega (arith, x.used_most);
          most_high = x.most_high;
          head_high = x.head_high;
          spare_most = omega (arith, x.spare_most);
          none_freed = λ z. omega (arith, x.none_freed z);
          some_freed = λ z. omega (arith, x.some_freed z);
        };
        told = h.told;
        free = λ y. rw e (h.free y);
        spare_below =
            below_append s.blocks s.spare (k ∷ []) h.spare_below (in_use_below s k h f.in_use, tt);
        spare = λ y. let p = h.spare y in let u = f.in_use.told y in rw e (record {
          taken = taken-join _ _ _ _ s.spare (k ∷ []) p.taken (u.0, tt);
          distinct = distinct_join s.spare (k ∷ []) p.distinct (tt, tt)
              (apart_sym (k ∷ []) s.spare (u.1, tt));
        });
      }

  pub goes_kept : Goes (k ∷ []) s (with_spare s k)
  goes_kept = record {
    sound = kept-sound;
    touches = record {
      name = refl;
      told = refl;
      blocks = refl;
      shape = refl;
      faults = omega arith;
      most = omega arith;
      moves = omega arith;
      others = λ y j u o. record {
        in_use = record {
          told = λ z. (rw as_many (u.told y).0, off_append j s.spare (k ∷ []) (u.told y).1 o);
          untold = u.untold;
        };
        contents = refl;
      };
    };
    frames = same_frames s.pool;
  }

  pub releases_kept : Releases s (with_spare s k) k
  releases_kept = record {
    gone = λ y u. (off_right k s.spare (k ∷ []) (u.told y).1).0 refl;
    used = let some = f.some in omega arith;
  }

  pub none_new_kept : NoneNew s (with_spare s k)
  none_new_kept = record {
    is = λ y j u. record {
      told = λ z.
          let t : IsTaken s.device.contents s.most (s.used - 1 + length (s.spare ++ k ∷ [])) s.head j =
          (u.told z).0 in
          (rw as_many at t, off_left j s.spare (k ∷ []) (u.told z).1);
      untold = λ z. absurd (both_told s.device.told y z);
    };
  }

-- A block comes into use that never was.
pub record TakesNew (s : RigState) : Type 0 where
  pub sound : Sound s
  pub none : s.head ≡ 0
  pub spare : length s.spare ≡ 0
  pub room : s.most < s.blocks

abbrev pub with_new : RigState → RigState
with_new s = record s { most = s.most + 1; used = s.used + 1 }

module _ (s : RigState) (f : TakesNew s) where
  all_used : unlinked s ≡ s.most
  all_used = f.sound.numbers.none_freed f.none

  one_more : s.used + 1 + length s.spare ≡ unlinked s + 1
  one_more = omega arith

  new_taken : (j : ℕ) → j < s.most + 1
      → IsTaken s.device.contents (s.most + 1) (s.used + 1 + length s.spare) s.head j
  new_taken j lt = rw (one_more, f.none) (taken-next s.device.contents s.most (unlinked s) j lt)

  new-sound : Sound (with_new s)
  new-sound =
      let h = f.sound in
      let x = h.numbers in
      let e = one_more in
      let a = all_used in
      record {
        blocks_is = h.blocks_is;
        block_is = h.block_is;
        moves_is = h.moves_is;
        shape = h.shape;
        singles = h.singles;
        areas = h.areas;
        numbers = record {
          blocks_low = x.blocks_low;
          blocks_high = x.blocks_high;
          used_most = omega (arith, x.used_most);
          most_high = omega (arith, f.room);
          head_high = x.head_high;
          spare_most = omega arith;
          none_freed = λ z. omega arith;
          some_freed = λ z. absurd (let n = f.none in omega arith);
        };
        told = h.told;
        free = λ y. rw (e, f.none) (free_list-next s.device.contents s.most (unlinked s) a);
        spare_below = h.spare_below;
        spare = λ y. record {
          taken = spare-by s.device.contents s.device.contents s.most (s.most + 1) (unlinked s)
              (s.used + 1 + length s.spare) s.head s.head s.spare
              (λ j u. new_taken j (let l = u.0 in omega arith)) (h.spare y).taken;
          distinct = (h.spare y).distinct;
        };
      }

  pub goes_new : Goes [] s (with_new s)
  goes_new = record {
    sound = new-sound;
    touches = record {
      name = refl;
      told = refl;
      blocks = refl;
      shape = refl;
      faults = omega arith;
      most = omega arith;
      moves = omega arith;
      others = λ y j u o. record {
        in_use = record {
          told = λ z. (new_taken j (let l = (u.told y).0.0 in omega arith), (u.told y).1);
          untold = u.untold;
        };
        contents = refl;
      };
    };
    frames = same_frames s.pool;
  }

  pub allocates_new : Allocates s (with_new s) s.most
  allocates_new = record {
    fresh = λ y u. let l = (u.told y).0.0 in absurd (omega arith);
    in_use = record {
      told = λ y. (new_taken s.most (omega arith), off-none s.most s.spare f.spare);
      untold = λ z. f.room;
    };
    others = λ y j u. ⊎_elim (λ (e : j ≡ s.most). inl e)
        (λ (ne : j ≢ s.most). inr (record {
          told = λ z. (
            rw f.none (taken-none_freed s.device.contents s.most (unlinked s) j
                (let l = (u.told y).0.0 in omega (arith, ne))),
            (u.told y).1,
          );
          untold = λ z. absurd (both_told s.device.told y z);
        }))
        (cases_eq j s.most);
    below = f.room;
    used = refl;
  }
