-- A builder that begins, and one that is given up.
use Rattle.std.proofs.Common.{◌≡◌, ℕ, ◌+◌, ◌*◌, ◌/◌, List, [], ◌++◌, refl, sym, ap, ◌∙◌, subst, arith, inl, IsTrue, None}
use Rattle.em_record.specs.Shape.{payload_of}
use Rattle.em_settle.specs.Map.{map_key_of}
use Rattle.em_chain.specs.Counts.{ceiling}
use Rattle.em_tree_model.specs.Ranges.{least_record}
use Rattle.em_record.specs.declared.record.Record.{Record}
use Rattle.em_frames.specs.Pool.{singles_of}
use Rattle.em_space.specs.Held.{Holds}
use Rattle.em_space.specs.Rig.{RigState}
use Rattle.em_space.proofs.Steps.{touches_then}
use Rattle.em_chain.specs.Effects.{GivesFrame, LendsFrame, Unmoved}
use Rattle.em_chain.specs.Writer.{WriterStays, writer_blocks, writer_items}
use Rattle.em_chain.specs.Writes.{Begins}
use Rattle.em_chain.specs.declared.writer.Writer.{Writer}
use Rattle.em_chain.proofs.Writings.{writer_lent}
use Rattle.em_tree.proofs.Adopted.{unmoved_then}
use Rattle.em_tree_trim.specs.Leaves.{LeadToLeaves, leaf_blocks}
use Rattle.em_tree_trim.specs.Rows.{EachFrom, EachUpTo, LeadUpTo, first_low, parts_at, records_in, rows_in}
use Rattle.em_tree_raise.specs.Listing.{listed}
use Rattle.em_bulk.specs.Building.{BeginsBuilder, HoldsPairs, IsOpen, LeavesBuilder, builder_blocks}
use Rattle.em_bulk.specs.Full.{AreListed, entries_in, full_blocks, full_parts}
use Rattle.em_bulk.specs.Pairs.{IsRun, key_record, lot_of}
use Rattle.em_bulk.specs.declared.builder.Builder.{Builder}
use Rattle.em_bulk.specs.declared.keeping.Leaves.{Leaves}
use Rattle.em_bulk.proofs.Keys.{run_none}

-- Both frames came back.
pub leaves_builder : {s a t : RigState} → GivesFrame [] s a → Unmoved s a → GivesFrame [] a t → Unmoved a t
    → LeavesBuilder s t
leaves_builder {s} {a} {t} g u h v =
    let f1 = g.frames.free in
    let f2 = h.frames.free in
    let p1 = g.frames.peak in
    let p2 = h.frames.peak in
    record {
      sound = h.sound;
      touches = touches_then [] s a t g.touches h.touches;
      frames = record {
        shape = h.frames.shape ∙ g.frames.shape;
        free = omega (arith, f1, f2);
        rack = h.frames.rack ∙ g.frames.rack;
        free_areas = h.frames.free_areas ∙ g.frames.free_areas;
        peak = omega (arith, p1, p2);
      };
      unmoved = unmoved_then u v;
    }

module _ {s a t : RigState} {leaf list : Writer} (l : LendsFrame s a) (u : Unmoved s a) (b : Begins a leaf)
    (m : LendsFrame a t) (v : Unmoved a t) (n : Begins t list) where
  abbrev h : Leaves
  h = record { held = None; list = list }

  abbrev d : Builder
  d = record { full = h; leaf = leaf; low = 0; last = 0; count = 0 }

  leaf_stays : WriterStays a t leaf
  leaf_stays = writer_lent b.is m

  none_full : full_blocks t h ≡ []
  none_full = ap (λ (xs : List Record). leaf_blocks t (entries_in xs) ++ ([] ++ writer_blocks t list)) n.items ∙ n.held

  none_parts : full_parts t h ≡ []
  none_parts = ap (λ (xs : List Record). parts_at t (entries_in xs) ++ []) n.items

  told_leaf : IsTrue t.device.told → IsTrue a.device.told
  told_leaf y = sym m.touches.told ∙ y

  none_blocks : IsTrue t.device.told → builder_blocks t d ≡ []
  none_blocks y = ap (λ (ks : List ℕ). ks ++ writer_blocks t leaf) none_full ∙ (leaf_stays.blocks (told_leaf y) ∙ b.held)

  leaf_none : IsTrue t.device.told → writer_items t leaf ≡ []
  leaf_none y = leaf_stays.items (told_leaf y) ∙ b.items

  none_listed : AreListed t h
  none_listed =
      let I : List Record → Type 0 = λ xs. xs ≡ listed (entries_in xs) in
      let L : List Record → Type 0 = λ xs. LeadToLeaves t (entries_in xs) in
      let F : List Record → Type 0 = λ xs. EachFrom (lot_of t.pool.shape) (rows_in (parts_at t (entries_in xs))) in
      let U : List Record → Type 0 = λ xs. EachUpTo (lot_of t.pool.shape) (rows_in (parts_at t (entries_in xs))) in
      let H : List ℕ → Type 0 = Holds t in
      record {
        items = subst I (sym n.items) refl;
        none = λ e. ap entries_in n.items;
        leads = subst L (sym n.items) tt;
        least = subst F (sym n.items) tt;
        most = subst U (sym n.items) tt;
        holds = subst H (sym none_full) (record { in_use = tt; distinct = λ y. tt });
      }

  begun_pairs : IsTrue t.device.told → HoldsPairs t d 1
  begun_pairs y =
      let H : List ℕ → Type 0 = Holds t in
      let T : List (Record × List Record) → Type 0 = LeadUpTo map_key_of (key_record 0) in
      let O : List (Record × List Record) → Type 0 = λ ps. first_low (key_record 0) ps ≡ least_record in
      let R : List Record → Type 0 = λ xs. IsRun 0 1 xs in
      record {
        holds = subst H (sym (none_blocks y)) (record { in_use = tt; distinct = λ w. tt });
        packed = leaf_stays.packed (told_leaf y) b.packed;
        lead = subst T (sym none_parts) tt;
        first = subst O (sym none_parts) refl;
        run = subst R (sym (leaf_none y)) (run_none 0 1);
      }

  begun_open : IsOpen t d 1
  begun_open =
      let zero = n.count in
      let none = b.count in
      let fill = b.filled_is in
      let more = leaf_stays.filled_is in
      let lf = l.frames.free in
      let mf = m.frames.free in
      let singles = ap singles_of m.frames.shape in
      let within = l.within in
      let same = ap singles_of l.frames.shape in
      let z : lot_of t.pool.shape * 0 ≡ 0 = omega arith in
      let q : list.count / 2 + 0 ≡ 0 = omega (arith, zero) in
      let p = ap (λ (k : ℕ). lot_of t.pool.shape * k) q in
      record {
        full = record {
          list = n.is;
          held = zero;
          filled_is = n.filled_is ∙ sym zero;
          even = omega (arith, zero);
          told = λ y. none_listed;
        };
        leaf = leaf_stays.is;
        frames = record {
          leaf = leaf_stays.is.frame.len_is;
          list = n.is.frame.len_is;
          out = omega (arith, lf, mf, singles, within, same);
        };
        filled_is = omega (arith, more, fill, none);
        size = omega (arith, none);
        count = omega (arith, none, z, p);
        most = omega arith;
        low = omega arith;
        told = λ y. begun_pairs y;
      }

  pub begins : BeginsBuilder s t d
  begins =
      let zero = n.count in
      let blocks = b.blocks in
      let lf = l.frames.free in
      let mf = m.frames.free in
      let lp = l.frames.peak in
      let mp = m.frames.peak in
      let told : IsTrue s.device.told → IsTrue t.device.told = λ z. m.touches.told ∙ (l.touches.told ∙ z) in
      record {
        sound = m.sound;
        touches = touches_then [] s a t l.touches m.touches;
        frames = record {
          shape = m.frames.shape ∙ l.frames.shape;
          free = omega (arith, lf, mf);
          rack = m.frames.rack ∙ l.frames.rack;
          free_areas = m.frames.free_areas ∙ l.frames.free_areas;
          peak = omega (arith, lp, mp);
        };
        unmoved = unmoved_then u v;
        is = record { below = begun_open; some = inl (refl, refl); none = λ e y. leaf_none y };
        none = refl;
        pairs = λ z. ap (λ (ps : List (Record × List Record)). records_in (rows_in ps) ++ writer_items t leaf) none_parts
            ∙ leaf_none (told z);
        blocks = λ z. none_blocks (told z);
        spent =
            let q : list.count / 2 ≡ 0 = omega (arith, zero) in
            let p = ap (λ (k : ℕ). (2 * ceiling (lot_of t.pool.shape) (payload_of t.pool.shape) + 5) * k) q in
            omega (arith, p, blocks);
      }
