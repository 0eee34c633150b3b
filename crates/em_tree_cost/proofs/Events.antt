-- The events of a tree whose moves are paid for. In each m is the most moves of the part that the
-- event pays for; k stays, and so do the levels.
use Rattle.std.proofs.Common.{◌≡◌, ℕ, ◌+◌, ◌*◌, ◌^◌, ◌≤◌, refl, arith, ◌⊎◌, inl, inr, ⊎_elim}
use Rattle.std.proofs.Math.Nat.{mul-le-mul_left}
use Rattle.em_record.specs.Shape.{ShapeNumbers, IsShape, wide_of, payload_of}
use Rattle.em_tree_cost.specs.Counters.{Counters, Sums, fresh_sums, parts_since}
use Rattle.em_tree_cost.specs.Effects.{SameRoot, SumsFall, SumsGrow, SumsLoad, SumsLower, SumsRemove, SumsSplit, SumsTake, after_draining, after_loading, after_lowering, after_owning, after_removing, after_settling, after_splitting, after_taking}
use Rattle.em_tree_cost.specs.Fusing.{split_fee}
use Rattle.em_tree_cost.specs.Paid.{PaidFor, settle_toll, toll_of}
use Rattle.em_tree_cost.specs.Parts.{filled_debt, full_moves, leave_debt, load_moves, split_moves, thin_debt, thin_moves, visit_debt}
use Rattle.em_tree_cost.specs.Shares.{levels_of}
use Rattle.em_tree_cost.specs.Sizes.{IsCeil}
use Rattle.em_tree_cost.proofs.Fees.{covers_debt, covers_draining, covers_loading, covers_owning, covers_settling, covers_taking}
use Rattle.em_tree_cost.proofs.Fitting.{fits_draining, fits_fall, fits_growing, fits_loading, fits_lowering, fits_owning, fits_removing, fits_settling, fits_splitting, fits_taking}
use Rattle.em_tree_cost.proofs.Levels.{size_is}
use Rattle.em_tree_cost.proofs.Paid.{levels_within}
use Rattle.em_tree_cost.proofs.Parts.{covers_full, covers_full_root, covers_leaf_split, covers_leave, covers_leave_filled, covers_load, covers_thin, covers_thin_root, covers_visit}

module _ {shape : ShapeNumbers} {spent more : ℕ} {cs : Counters} {t : Sums} (m : ℕ) (u : Sums)
    (is : IsShape shape) (a : PaidFor shape spent more cs t) where
  same_ceil : SameRoot t u → IsCeil u.blocks (payload_of shape) u.root
  same_ceil r = rw (r.root, r.blocks) a.root

  no_ceil : u.root ≡ 0 → u.blocks ≡ 0 → IsCeil u.blocks (payload_of shape) u.root
  no_ceil r b = rw (r, b) (record { holds = omega arith; tight = omega (arith, is.block_low) })

  -- moves that are owed, and sums that fall
  pub paid_debt : (next : ℕ) → SumsFall t u → SameRoot t u → shape.block * m + more ≤ next
      → PaidFor shape (spent + m) next cs u
  paid_debt next c r h = record {
    fits = fits_fall u a.fits c;
    covers = covers_debt m next u a.covers r h;
    root = same_ceil r;
  }

  -- a full buffer of x operations in d blocks, other than the root's
  pub paid_full : (x d : ℕ) → cs.k ≤ 2 ^ 103 → SumsLower x t u → SameRoot t u
      → IsCeil d (payload_of shape) x → 2 * wide_of shape * shape.block ≤ x
      → m ≤ full_moves (wide_of shape) (levels_of shape cs.k) d
      → PaidFor shape (spent + m) more (after_lowering x cs) u
  paid_full x d top c r i h k = record {
    fits = fits_lowering u a.fits x c;
    covers = covers_full m u (size_is shape is) a.covers x d i
        (levels_within shape cs.k is top).most h k r;
    root = same_ceil r;
  }

  -- the root's full buffer
  pub paid_full_root : cs.k ≤ 2 ^ 103 → SumsLower t.root t u → u.root ≡ 0 → u.blocks ≡ 0
      → 2 * wide_of shape * shape.block ≤ t.root
      → m ≤ full_moves (wide_of shape) (levels_of shape cs.k) t.blocks
      → PaidFor shape (spent + m) more (after_lowering t.root cs) u
  paid_full_root top c r b h k = record {
    fits = fits_lowering u a.fits t.root c;
    covers = covers_full_root m u (size_is shape is) a.covers a.root
        (levels_within shape cs.k is top).most h k r b;
    root = no_ceil r b;
  }

  -- a buffer of any length, other than the root's
  pub paid_thin : (x d : ℕ) → SumsLower x t u → SameRoot t u → IsCeil d (payload_of shape) x
      → m ≤ thin_moves (wide_of shape) d
      → PaidFor shape (spent + m) (more + shape.block * thin_debt (wide_of shape))
      (after_lowering x cs) u
  paid_thin x d c r i k = record {
    fits = fits_lowering u a.fits x c;
    covers = covers_thin m u (size_is shape is) a.covers x d i k r;
    root = same_ceil r;
  }

  -- The root's buffer of any length, with e moves for the root and its children: 2 more for the
  -- buffer's last block, and 4 for the last blocks that are read and written.
  pub paid_thin_root : (e : ℕ) → SumsLower t.root t u → u.root ≡ 0 → u.blocks ≡ 0
      → m ≤ 4 * t.blocks + e
      → PaidFor shape (spent + m) (more + shape.block * (e + 6)) (after_lowering t.root cs) u
  paid_thin_root e c r b k = record {
    fits = fits_lowering u a.fits t.root c;
    covers = covers_thin_root m u (size_is shape is) a.covers e a.root k r b;
    root = no_ceil r b;
  }

  -- a full load, in d blocks, into a leaf of e blocks
  pub paid_load : (d e : ℕ) → cs.k ≤ 2 ^ 103 → SumsLoad (wide_of shape * shape.block) t u
      → SameRoot t u
      → IsCeil d (payload_of shape) (wide_of shape * shape.block) → e ≤ 4 * wide_of shape + 1
      → m ≤ load_moves (levels_of shape cs.k) d e
      → PaidFor shape (spent + m) more (after_loading (wide_of shape * shape.block) cs) u
  paid_load d e top c r i h k = record {
    fits = fits_loading u a.fits (wide_of shape * shape.block) c;
    covers = covers_load m u (size_is shape is) a.covers d e i h
        (levels_within shape cs.k is top).most k r;
    root = same_ceil r;
  }

  -- a load of y operations that owes its moves but for 36 for each operation
  pub paid_load_some : (y next : ℕ) → SumsLoad y t u → SameRoot t u
      → shape.block * m + more ≤ 36 * y + next
      → PaidFor shape (spent + m) next (after_loading y cs) u
  paid_load_some y next c r h = record {
    fits = fits_loading u a.fits y c;
    covers = covers_loading m next u a.covers y r h;
    root = same_ceil r;
  }

  -- a leaf's split, with all that follows
  pub paid_split : (d : ℕ) → cs.k ≤ 2 ^ 103 → SumsSplit (wide_of shape) shape.block t u
      → SameRoot t u
      → IsCeil d (payload_of shape) ((2 * levels_of shape cs.k + 1) * wide_of shape * shape.block)
      → m ≤ split_moves (wide_of shape) (levels_of shape cs.k) d
      → PaidFor shape (spent + m) more (after_splitting cs) u
  paid_split d top c r i k = record {
    fits = fits_splitting u a.fits c;
    covers = covers_leaf_split m u (size_is shape is) a.covers d i
        (levels_within shape cs.k is top) k r;
    root = same_ceil r;
  }

  -- records handed out, with what is owed afterwards
  pub paid_take : (g next : ℕ) → SumsTake g t u → SameRoot t u
      → shape.block * m + more ≤ 18 * g + next
      → PaidFor shape (spent + m) next (after_taking g 0 cs) u
  paid_take g next c r h = record {
    fits = fits_taking u a.fits g 0 (omega (arith, a.fits.sums.left_most)) (inl refl) c;
    covers = covers_taking m next u a.covers g 0 r (omega (arith, h));
    root = same_ceil r;
  }

  -- the end of a leaf's visit, after which the leaf is taken away
  pub paid_visit : cs.k ≤ 2 ^ 103 → SumsRemove t u → SameRoot t u
      → shape.block * m + more ≤ shape.block * visit_debt (wide_of shape) (levels_of shape cs.k)
      → PaidFor shape (spent + m) 0 (after_removing cs) u
  paid_visit top c r h = record {
    fits = fits_removing u a.fits c;
    covers = covers_visit m u (size_is shape is) a.covers (levels_within shape cs.k is top) h r;
    root = same_ceil r;
  }

  -- the end of a call that leaves some: h are all that it took, half of an area or more, and g the
  -- last of them
  pub paid_leave : (g h : ℕ) → cs.k ≤ 2 ^ 103 → cs.left + h ≤ cs.taken + g → h ≤ cs.taken_since + g
      → wide_of shape * shape.block ≤ 2 * h → SumsTake g t u → SameRoot t u
      → (shape.block * m + more
      ≤ shape.block * leave_debt (wide_of shape) (levels_of shape cs.k) + 18 * g)
      → PaidFor shape (spent + m) 0 (after_taking g h cs) u
  paid_leave g h top le since half c r o = record {
    fits = fits_taking u a.fits g h le (inr (half, since)) c;
    covers = covers_leave m u (size_is shape is) a.covers g h
        (levels_within shape cs.k is top) half o r;
    root = same_ceil r;
  }

  -- the same with a full area, after which the rest of a leaf is written anew
  pub paid_leave_filled : (g h : ℕ) → cs.k ≤ 2 ^ 103 → cs.left + h ≤ cs.taken + g
      → h ≤ cs.taken_since + g
      → wide_of shape * shape.block ≤ h → SumsTake g t u → SameRoot t u
      → (shape.block * m + more
      ≤ shape.block * filled_debt (wide_of shape) (levels_of shape cs.k) + 18 * g)
      → PaidFor shape (spent + m) 0 (after_taking g h cs) u
  paid_leave_filled g h top le since whole c r o = record {
    fits = fits_taking u a.fits g h le (inr (omega (arith, whole), since)) c;
    covers = covers_leave_filled m u (size_is shape is) a.covers g h
        (levels_within shape cs.k is top) whole o r;
    root = same_ceil r;
  }

  -- The end of `settle_all` or `finish`, or of one that was refused: d are the moves that no operation or load pays for. It
  -- pays for the splits since the reset too.
  pub paid_settle : (d : ℕ) → SameRoot t u → SumsFall t u → shape.block * m + more ≤ shape.block * d
      → d + cs.splits_since * split_fee (wide_of shape) (levels_of shape cs.k) ≤ settle_toll shape cs.k
      → PaidFor shape (spent + m) 0 (after_settling (after_owning cs)) u
  paid_settle d r c o h =
      let k : shape.block * (d + cs.splits_since * split_fee (wide_of shape) (levels_of shape cs.k))
      ≤ shape.block * settle_toll shape cs.k = mul-le-mul_left shape.block h in
      record {
        fits = fits_settling (fits_owning (fits_fall u a.fits c));
        covers = covers_settling m 0 u (covers_owning a.covers a.fits.sums.splits_most) r (omega (arith, k, o));
        root = same_ceil r;
      }

module _ {shape : ShapeNumbers} {spent more : ℕ} {cs : Counters} {t : Sums}
    (a : PaidFor shape spent more cs t) where
  -- a new root, whose moves the split paid for
  pub paid_grow : (u : Sums) → IsShape shape
      → (2 * wide_of shape) ^ t.level + 1 ≤ t.leaves
      → SumsGrow t u → SameRoot t u → PaidFor shape spent more cs u
  paid_grow u is some c r = record {
    fits = fits_growing u a.fits (omega (arith, is.frames_low)) some c;
    covers = record { covered = rw (r.root, r.blocks) a.covers.covered };
    root = rw (r.root, r.blocks) a.root;
  }

  -- The end of a call that leaves nothing, on a tree whose root's buffer is empty: with one leaf,
  -- or with more, of which all but the last were visited.
  pub paid_drain : (m : ℕ) → IsShape shape → t.root ≡ 0 → t.blocks ≡ 0
      → (shape.block * m + more ≤ toll_of shape cs.k)
      ⊎ (2 ≤ parts_since cs) × (shape.block * m + more
      ≤ toll_of shape cs.k + shape.block * (wide_of shape * (20 * levels_of shape cs.k + 31)))
      → PaidFor shape (spent + m) 0 (after_draining cs) fresh_sums
  paid_drain m is r b h = record {
    fits = fits_draining a.fits;
    covers = covers_draining m 0 fresh_sums a.covers refl r b
        (omega (arith, a.fits.sums.leaves_are, a.fits.sums.leaves_some))
        (⊎_elim
        (λ (x : shape.block * m + more ≤ toll_of shape cs.k). inl (omega (arith, x)))
        (λ (x : (2 ≤ parts_since cs) × (shape.block * m + more
        ≤ toll_of shape cs.k + shape.block * (wide_of shape * (20 * levels_of shape cs.k + 31)))).
        inr (omega (arith, a.fits.sums.leaves_are, a.fits.sums.leaves_some, x.0), omega (arith, x.1)))
        h);
    root = record { holds = omega arith; tight = omega (arith, is.block_low) };
  }
