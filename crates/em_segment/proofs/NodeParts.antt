-- The parts of a node: points are split, pieces dealt, pairs reported, and the multislabs' lists dropped.
-- What each leaves alone stays.
use Rattle.std.proofs.Common.{◌≡◌, ℕ, ◌+◌, ◌*◌, ◌^◌, List, [], ◌∷◌, ◌++◌, length, map, refl, sym, subst, arith, IsTrue}
use Rattle.std.proofs.lemmas.List.{append-nil}
use Rattle.std.specs.Prelude.{filter}
use Rattle.em_record.specs.declared.record.Record.{Record}
use Rattle.em_model.specs.Ascending.{Ascend}
use Rattle.em_model.specs.Stab.{NumberedInterval}
use Rattle.em_space.specs.Held.{Apart, Holds}
use Rattle.em_space.specs.Rig.{RigState}
use Rattle.em_space.proofs.Lists.{apart_left, apart_right, apart_sym, distinct_apart}
use Rattle.em_chain.specs.Chain.{ChainStays, chain_blocks}
use Rattle.em_chain.specs.Writer.{writer_blocks}
use Rattle.em_chain.specs.declared.chain.Chain.{Chain}
use Rattle.em_chain.specs.declared.writer.Writer.{Writer}
use Rattle.em_segment_model.specs.Points.{interval_in}
use Rattle.em_segment_model.specs.Reports.{is_listed, slab_lists}
use Rattle.em_segment_model.specs.Slabs.{Slab, slabs_from}
use Rattle.em_segment_model.specs.declared.strip.Span.{Span}
use Rattle.em_segment_model.proofs.Nodes.{listed_in_order}
use Rattle.em_segment.specs.Answers.{IsCall, call_blocks}
use Rattle.em_segment_parts.specs.Chains.{AreChains, ChainsStay, IsPackedChain, chains_blocks, chains_held, chains_lists}
use Rattle.em_segment_parts.specs.Deals.{Deals, dealing_moves, down_in, lists_blocks, lists_held, slabs_in}
use Rattle.em_segment_parts.specs.Pairs.{IsPairs, WritesPairs}
use Rattle.em_segment_parts.specs.Reports.{Reports, Shifts}
use Rattle.em_segment_parts.specs.Splits.{Splits, strips_in}
use Rattle.em_segment_parts.specs.Strips.{AreNumbered, CanReportStrips}
use Rattle.em_segment_parts.specs.declared.dealing.Lists.{Lists}
use Rattle.em_segment_parts.specs.declared.splitting.Strips.{Strips}
use Rattle.em_segment.proofs.BelowLists.{packed_stays}
use Rattle.em_segment_parts.proofs.Chains.{chains_stay}
use Rattle.em_segment.proofs.Discards.{pieces_stay}
use Rattle.em_segment_parts.proofs.Parts.{shift_left, shift_reports, shift_right, writes_reports}
use Rattle.em_segment_parts.proofs.Regrouping.{holds_first, holds_second}

-- Of two lists that are held neither has a block of the other.
pub held_apart : {s : RigState} (xs ys : List ℕ) → IsTrue s.device.told → Holds s (xs ++ ys)
    → Apart xs ys
held_apart xs ys z h = distinct_apart xs ys (h.distinct z)

-- Points were split, while the pieces stayed.
module _ {s t : RigState} {points pieces : Chain} {w : Writer} {most : ℕ} {z : Strips}
    (call : IsCall s points pieces w) (sp : Splits most s t points z) where
  pub pieces_kept : ChainStays s t pieces
  pieces_kept = pieces_stay points pieces call.pieces_are.is
      (λ y. holds_first (call_blocks s points pieces) (writer_blocks s w) (call.blocks y))
      sp.shifts.session.touches

  pub pieces_packed : IsPackedChain t pieces
  pieces_packed = packed_stays call.pieces_are sp.shifts.session.touches pieces_kept

  pub split_part : Reports (points.blocks + chains_held (strips_in z) + pieces.blocks)
      (2 * points.blocks + 2 * chains_held (strips_in z) + length z.points.items)
      (call_blocks s points pieces) (chains_blocks t (strips_in z) ++ chain_blocks t pieces)
      (points.blocks + pieces.blocks) (chains_held (strips_in z) + pieces.blocks) s t w w []
  split_part = shift_reports call.pairs call.blocks (shift_left
      (2 * points.blocks + 2 * chains_held (strips_in z) + length z.points.items)
      (chain_blocks s pieces) (chain_blocks t pieces) pieces.blocks
      (λ y. holds_first (call_blocks s points pieces) (writer_blocks s w) (call.blocks y))
      pieces_kept.blocks sp.shifts)

-- Pieces were dealt, while the strips stayed.
module _ {t u : RigState} {pieces : Chain} {w : Writer} {zs : List Span} {l : Lists}
    (strips : List Chain) (pairs : IsPairs t w) (are : AreChains t strips)
    (holds : IsTrue t.device.told
    → Holds t ((chains_blocks t strips ++ chain_blocks t pieces) ++ writer_blocks t w))
    (de : Deals zs t u pieces l) where
  pub strips_kept : ChainsStay t u strips
  strips_kept = chains_stay (chain_blocks t pieces) t u strips de.shifts.session.touches
      (λ y. held_apart (chains_blocks t strips) (chain_blocks t pieces) y
      (holds_first (chains_blocks t strips ++ chain_blocks t pieces) (writer_blocks t w) (holds y))) are

  pub deal_part : Reports (chains_held strips + (pieces.blocks + lists_held l))
      (dealing_moves zs pieces l) (chains_blocks t strips ++ chain_blocks t pieces)
      (chains_blocks u strips ++ lists_blocks u l) (chains_held strips + pieces.blocks)
      (chains_held strips + lists_held l) t u w w []
  deal_part = shift_reports pairs holds (shift_right (dealing_moves zs pieces l) (chains_blocks t strips)
      (chains_blocks u strips)
      (chains_held strips)
      (λ y. holds_first (chains_blocks t strips ++ chain_blocks t pieces) (writer_blocks t w) (holds y))
      strips_kept.blocks de.shifts)

-- the lists of multislabs are in the order of their numbers
listed_numbered : (zs : List Span) (ts : List Slab) (pieces : List Record)
    → Ascend (λ (i : NumberedInterval). i.number) 0 (map interval_in pieces) (2 ^ 40)
    → AreNumbered (map (map interval_in) (map (λ t. filter (is_listed zs t) pieces) ts))
listed_numbered zs [] pieces a = tt
listed_numbered zs (t ∷ ts) pieces a =
    (listed_in_order zs t 0 pieces (2 ^ 40) a, listed_numbered zs ts pieces a)

-- Strips and the lists of a node may be reported.
module _ {u : RigState} {w : Writer} (strips : List Chain) (l : Lists) (pairs : IsPairs u w)
    (are : AreChains u strips) (slabs_are : AreChains u (slabs_in l))
    (holds : IsTrue u.device.told
    → Holds u ((chains_blocks u strips ++ lists_blocks u l) ++ writer_blocks u w)) where
  -- the blocks of the strips, of the lists and of the pairs
  strips_off : IsTrue u.device.told → Apart (chains_blocks u strips) (writer_blocks u w)
  strips_off y = apart_left (chains_blocks u strips) (lists_blocks u l) (writer_blocks u w)
      (held_apart (chains_blocks u strips ++ lists_blocks u l) (writer_blocks u w) y (holds y))

  lists_off : IsTrue u.device.told → Apart (lists_blocks u l) (writer_blocks u w)
  lists_off y = apart_right (chains_blocks u strips) (lists_blocks u l) (writer_blocks u w)
      (held_apart (chains_blocks u strips ++ lists_blocks u l) (writer_blocks u w) y (holds y))

  down_off : IsTrue u.device.told → Apart (chains_blocks u (down_in l)) (writer_blocks u w)
  down_off y = apart_left (chains_blocks u (down_in l)) (chains_blocks u (slabs_in l))
      (writer_blocks u w) (lists_off y)

  slabs_off : IsTrue u.device.told → Apart (chains_blocks u (slabs_in l)) (writer_blocks u w)
  slabs_off y = apart_right (chains_blocks u (down_in l)) (chains_blocks u (slabs_in l))
      (writer_blocks u w) (lists_off y)

  pub strips_reportable : (zs : List Span) (items : List Record)
      → (IsTrue u.device.told → chains_lists u (slabs_in l) ≡ slab_lists zs items)
      → (IsTrue u.device.told
      → Ascend (λ (i : NumberedInterval). i.number) 0 (map interval_in items) (2 ^ 40))
      → CanReportStrips u strips (slabs_in l) w
  strips_reportable zs items d a = record {
    strips_are = are;
    strips_apart = strips_off;
    lists_can = record {
      are = slabs_are;
      pairs = pairs;
      apart = slabs_off;
      numbered = λ y.
          subst (λ (xss : List (List Record)). AreNumbered (map (map interval_in) xss)) (sym (d y))
          (listed_numbered zs (slabs_from 0 (length zs)) items (a y));
    };
  }

  -- Pairs were written, while strips and lists stayed.
  pub report_part : {e : ℕ} {v : RigState} {k : Writer} {xs : List Record} (n : ℕ)
      → AreChains u (down_in l) → WritesPairs e u v w k xs
      → Reports n e (chains_blocks u strips ++ lists_blocks u l)
      (chains_blocks v strips ++ lists_blocks v l) n n u v w k xs
  report_part {v = v} n down_are h =
      let a = chains_stay (writer_blocks u w) u v strips h.runs.session.touches strips_off are in
      let b = chains_stay (writer_blocks u w) u v (down_in l) h.runs.session.touches down_off down_are in
      let c = chains_stay (writer_blocks u w) u v (slabs_in l) h.runs.session.touches slabs_off slabs_are in
      writes_reports n (chains_blocks u strips ++ lists_blocks u l)
      (chains_blocks v strips ++ lists_blocks v l) holds
      (λ y. rw (a.blocks y, b.blocks y, c.blocks y) refl) h

  pub strips_stay_on : {e : ℕ} {v : RigState} {k : Writer} {xs : List Record}
      → WritesPairs e u v w k xs → ChainsStay u v strips
  strips_stay_on {v = v} h =
      chains_stay (writer_blocks u w) u v strips h.runs.session.touches strips_off are

  pub down_stay_on : {e : ℕ} {v : RigState} {k : Writer} {xs : List Record}
      → AreChains u (down_in l) → WritesPairs e u v w k xs → ChainsStay u v (down_in l)
  down_stay_on {v = v} down_are h =
      chains_stay (writer_blocks u w) u v (down_in l) h.runs.session.touches down_off down_are

  pub slabs_stay_on : {e : ℕ} {v : RigState} {k : Writer} {xs : List Record}
      → WritesPairs e u v w k xs → ChainsStay u v (slabs_in l)
  slabs_stay_on {v = v} h =
      chains_stay (writer_blocks u w) u v (slabs_in l) h.runs.session.touches slabs_off slabs_are

-- The lists of multislabs were dropped, while the strips and the lists of what goes down stayed.
module _ {v x : RigState} {p m : ℕ} {w : Writer} (e : ℕ) (strips down slabs : List Chain)
    (pairs : IsPairs v w) (are : AreChains v strips) (down_are : AreChains v down)
    (holds : IsTrue v.device.told → Holds v ((chains_blocks v strips
    ++ (chains_blocks v down ++ chains_blocks v slabs)) ++ writer_blocks v w))
    (h : Shifts p e (chains_blocks v slabs) [] m 0 v x) where
  all_held : IsTrue v.device.told
      → Holds v (chains_blocks v strips ++ (chains_blocks v down ++ chains_blocks v slabs))
  all_held y = holds_first (chains_blocks v strips ++ (chains_blocks v down ++ chains_blocks v slabs))
      (writer_blocks v w) (holds y)

  strips_gone : IsTrue v.device.told → Apart (chains_blocks v strips) (chains_blocks v slabs)
  strips_gone y = apart_sym (chains_blocks v slabs) (chains_blocks v strips)
      (apart_right (chains_blocks v down) (chains_blocks v slabs) (chains_blocks v strips)
      (apart_sym (chains_blocks v strips) (chains_blocks v down ++ chains_blocks v slabs)
      (held_apart (chains_blocks v strips) (chains_blocks v down ++ chains_blocks v slabs) y
      (all_held y))))

  down_gone : IsTrue v.device.told → Apart (chains_blocks v down) (chains_blocks v slabs)
  down_gone y = held_apart (chains_blocks v down) (chains_blocks v slabs) y
      (holds_second (chains_blocks v strips) (chains_blocks v down ++ chains_blocks v slabs) (all_held y))

  pub strips_left : ChainsStay v x strips
  strips_left = chains_stay (chains_blocks v slabs) v x strips h.session.touches strips_gone are

  pub down_left : ChainsStay v x down
  down_left = chains_stay (chains_blocks v slabs) v x down h.session.touches down_gone down_are

  pub drop_part : (n k : ℕ) → Reports (n + (k + p)) e
      (chains_blocks v strips ++ (chains_blocks v down ++ chains_blocks v slabs))
      (chains_blocks x strips ++ chains_blocks x down) (n + (k + m)) (n + k) v x w w []
  drop_part n k =
      let one = shift_right e (chains_blocks v down) (chains_blocks x down) k
      (λ y. holds_second (chains_blocks v strips) (chains_blocks v down ++ chains_blocks v slabs)
      (all_held y)) down_left.blocks h in
      let all = shift_right e (chains_blocks v strips) (chains_blocks x strips) n all_held
      strips_left.blocks one in
      let none : k + 0 ≡ k = omega arith in
      rw (append-nil (chains_blocks x down), none) at (shift_reports pairs holds all)
