-- The chains of a node between its parts: its strips, and its lists.
use Rattle.std.proofs.Common.{◌≡◌, ℕ, ◌+◌, ◌*◌, ◌≤◌, List, length, map, sym, ap, subst, ◌∙◌, arith, IsTrue, length-append}
use Rattle.std.proofs.lemmas.List.{length-map}
use Rattle.std.specs.List.{sum_by}
use Rattle.em_record.specs.Order.{IsAscending}
use Rattle.em_record.specs.Shape.{payload_of}
use Rattle.em_record.specs.declared.record.Record.{Record}
use Rattle.em_space.specs.Rig.{RigState, Sound}
use Rattle.em_chain.specs.Chain.{ChainStays, chain_items, payload_in}
use Rattle.em_chain.specs.declared.chain.Chain.{Chain}
use Rattle.em_chain.specs.declared.writer.Writer.{Writer}
use Rattle.em_segment_model.specs.Points.{asked_in, interval_in, joined, pairs_below, pairs_due}
use Rattle.em_segment_model.specs.Reports.{reported_here, slab_lists, strips_pairs}
use Rattle.em_segment_model.specs.Sizes.{fan_root}
use Rattle.em_segment_model.specs.Slabs.{slabs_from}
use Rattle.em_segment_model.specs.Spans.{AllSome, down_lists, ends_of, value_span}
use Rattle.em_segment_model.specs.declared.strip.Span.{Span}
use Rattle.em_segment_model.proofs.Cost.{StripBlocks}
use Rattle.em_segment_model.proofs.Nodes.{node_law}
use Rattle.em_segment.specs.Answers.{IsCall, due, weight}
use Rattle.em_segment_parts.specs.Chains.{AreChains, ChainsStay, chains_count, chains_held, chains_lists}
use Rattle.em_segment_parts.specs.Deals.{Deals, down_in, lists_held, lists_of, slabs_in}
use Rattle.em_segment_parts.specs.Splits.{AreCut, Splits, strips_in}
use Rattle.em_segment_parts.specs.Strips.{strips_due}
use Rattle.em_segment_parts.specs.declared.dealing.Lists.{Lists}
use Rattle.em_segment_parts.specs.declared.splitting.Strips.{Strips}
use Rattle.em_segment_parts.proofs.Alikes.{alike_length, alike_same}
use Rattle.em_segment_parts.proofs.Chains.{chains_length}
use Rattle.em_segment.proofs.NodeSizes.{cut_some, lists_full, strip_blocks}

-- Strips and lists of a node: what they are, and what they hold if the device tells.
pub record NodeStands (most : ℕ) (s u : RigState) (points pieces : Chain) (strips : List Chain)
    (l : Lists) : Type 0 where
  pub sound : Sound u
  pub told_is : u.device.told ≡ s.device.told
  pub shape_is : u.pool.shape ≡ s.pool.shape
  pub are : AreChains u strips
  pub down_are : AreChains u (down_in l)
  pub slabs_are : AreChains u (slabs_in l)
  pub cut : AreCut most strips
  pub few : length strips ≤ fan_root s.pool.shape
  pub count_is : chains_count strips ≡ points.count
  pub down_len : length (down_in l) ≡ length strips
  pub slabs_len : length (slabs_in l) ≡ length (slabs_from 0 (length strips))
  pub points_is : IsTrue s.device.told → joined (chains_lists u strips) ≡ chain_items s points
  pub down_is : IsTrue s.device.told → chains_lists u (down_in l)
      ≡ down_lists (map value_span (chains_lists u strips)) (chain_items s pieces)
  pub slabs_is : IsTrue s.device.told → chains_lists u (slabs_in l)
      ≡ slab_lists (map value_span (chains_lists u strips)) (chain_items s pieces)

-- So it is after pieces were dealt,
pub stands_dealt : {most : ℕ} {s t u : RigState} {points pieces : Chain} {z : Strips} {l : Lists} → Sound u → Splits most s t points z → length (strips_in z) ≤ fan_root s.pool.shape
    → ChainStays s t pieces → Deals z.spans.items t u pieces l → ChainsStay t u (strips_in z)
    → NodeStands most s u points pieces (strips_in z) l
stands_dealt {most} {s} {t} {u} {points} {pieces} {z} {l} sound sp few ps de st =
    let told_t = sp.shifts.session.touches.told in
    let has = de.has in
    let strips = chains_length z.points.items in
    let long : length z.spans.items ≡ length (strips_in z) = sp.len ∙ sym strips in
    let spans : IsTrue s.device.told
    → z.spans.items ≡ map value_span (chains_lists u (strips_in z)) =
    λ y. sp.spans y ∙ ap (map value_span) (sym (st.lists (told_t ∙ y))) in
    record {
      sound = sound;
      told_is = de.shifts.session.touches.told ∙ told_t;
      shape_is = de.shifts.session.touches.shape ∙ sp.shifts.session.touches.shape;
      are = st.are;
      down_are = has.down_are;
      slabs_are = has.slabs_are;
      cut = sp.cut;
      few = few;
      count_is = sp.count_is;
      down_len = chains_length l.down.items ∙ (has.down_len ∙ long);
      slabs_len = chains_length l.slabs.items
          ∙ (has.slabs_len ∙ ap (λ (n : ℕ). length (slabs_from 0 n)) long);
      points_is = λ y. ap joined (st.lists (told_t ∙ y)) ∙ sp.lists y;
      down_is = λ y. has.down_is (told_t ∙ y) ∙ (ap (λ (zs : List Span). down_lists zs
          (chain_items t pieces)) (spans y)
          ∙ ap (down_lists (map value_span (chains_lists u (strips_in z)))) (ps.items y));
      slabs_is = λ y. has.slabs_is (told_t ∙ y) ∙ (ap (λ (zs : List Span). slab_lists zs
          (chain_items t pieces)) (spans y)
          ∙ ap (slab_lists (map value_span (chains_lists u (strips_in z)))) (ps.items y));
    }

-- and after calls that leave all of them alone.
pub stands_on : {most : ℕ} {s u v : RigState} {points pieces : Chain} {strips : List Chain} {l : Lists}
    → NodeStands most s u points pieces strips l → Sound v → v.device.told ≡ u.device.told
    → v.pool.shape ≡ u.pool.shape → ChainsStay u v strips → ChainsStay u v (down_in l)
    → ChainsStay u v (slabs_in l) → NodeStands most s v points pieces strips l
stands_on {s = s} {pieces = pieces} h sound told shape a b c = record {
  sound = sound;
  told_is = told ∙ h.told_is;
  shape_is = shape ∙ h.shape_is;
  are = a.are;
  down_are = b.are;
  slabs_are = c.are;
  cut = h.cut;
  few = h.few;
  count_is = h.count_is;
  down_len = h.down_len;
  slabs_len = h.slabs_len;
  points_is = λ y. ap joined (a.lists (h.told_is ∙ y)) ∙ h.points_is y;
  down_is = λ y. b.lists (h.told_is ∙ y) ∙ (h.down_is y
      ∙ ap (λ (pss : List (List Record)). down_lists (map value_span pss) (chain_items s pieces))
      (sym (a.lists (h.told_is ∙ y))));
  slabs_is = λ y. c.lists (h.told_is ∙ y) ∙ (h.slabs_is y
      ∙ ap (λ (pss : List (List Record)). slab_lists (map value_span pss) (chain_items s pieces))
      (sym (a.lists (h.told_is ∙ y))));
}

-- how many pieces go down, once for each strip that they go down into
abbrev pub down_of : RigState → RigState → List Chain → Chain → ℕ
down_of s u strips pieces = sum_by (λ (xs : List Record). length xs)
    (down_lists (map value_span (chains_lists u strips)) (chain_items s pieces))

-- What a node has if the device tells.
module _ {most : ℕ} {s u : RigState} {points pieces : Chain} {w : Writer} {strips : List Chain}
    {l : Lists} (call : IsCall s points pieces w)
    (h : NodeStands most s u points pieces strips l) (y : IsTrue s.device.told) where
  here : IsTrue u.device.told
  here = h.told_is ∙ y

  pub same_payload : payload_in u ≡ payload_in s
  same_payload = ap payload_of h.shape_is

  pub stands_some : AllSome (chains_lists u strips)
  stands_some = cut_some most u strips here h.are h.cut

  pub stands_ascends : IsAscending (joined (chains_lists u strips))
  stands_ascends = subst IsAscending (sym (h.points_is y)) (call.ordered y)

  pub stands_strips : StripBlocks (fan_root s.pool.shape) (payload_in s) points.count points.blocks
      (chains_held strips) (length strips)
  stands_strips = strip_blocks s u points strips call.sound h.sound same_payload y here
      call.points_are h.are h.count_is h.few

  -- the lists fill no more than their records, and a block for each
  pub stands_full : lists_held l * payload_in s
      ≤ pieces.count + down_of s u strips pieces + lists_of (length strips) * payload_in s
  stands_full = lists_full s u pieces (chains_lists u strips) (down_in l) (slabs_in l) (length strips)
      call.sound h.sound same_payload y here call.pieces_are h.down_are h.slabs_are (h.down_is y)
      (h.slabs_is y) h.down_len h.slabs_len

  pub same_weight : ends_of (joined (chains_lists u strips)) (chain_items s pieces)
      ≡ weight s points pieces
  same_weight = ap (λ (xs : List Record). ends_of xs (chain_items s pieces)) (h.points_is y)

  -- what the node owes is due of the call
  pub stands_here : strips_due (slabs_from 0 (length strips)) 0 u strips (slabs_in l)
      ≡ reported_here (map value_span (chains_lists u strips)) (chains_lists u strips)
      (chain_items s pieces)
  stands_here =
      let pss = chains_lists u strips in
      let long : length strips ≡ length (map value_span pss) =
      sym (length-map pss value_span ∙ length-map strips (chain_items u)) in
      ap (λ (n : ℕ). strips_pairs (slabs_from 0 n)
      (map (map interval_in) (chains_lists u (slabs_in l))) 0 (map (map asked_in) pss)) long
      ∙ ap (λ (xss : List (List Record)). strips_pairs (slabs_from 0 (length (map value_span pss)))
      (map (map interval_in) xss) 0 (map (map asked_in) pss)) (h.slabs_is y)

  pub stands_due : length (strips_due (slabs_from 0 (length strips)) 0 u strips (slabs_in l))
      ≤ length (due s points pieces)
  stands_due =
      let pss = chains_lists u strips in
      let items = chain_items s pieces in
      let first = reported_here (map value_span pss) pss items in
      let rest = pairs_below pss (down_lists (map value_span pss) items) in
      let law = alike_length (node_law pss items first rest stands_some stands_ascends
      (alike_same first) (alike_same rest)) in
      let both = length-append first rest in
      let e = ap (λ (xs : List Record). length xs) stands_here in
      let d = ap (λ (xs : List Record). length (pairs_due xs items)) (h.points_is y) in
      omega (arith, law, both, e, d)
