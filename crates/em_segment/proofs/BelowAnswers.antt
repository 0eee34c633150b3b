-- The last of several strips that wait for their calls, and those before it.
use Rattle.std.proofs.Common.{◌≡◌, ℕ, ◌+◌, ◌*◌, ◌<◌, ◌≤◌, ◌^◌, List, [], ◌∷◌, ◌++◌, length, map, refl, sym, ap, ◌∙◌, arith, IsTrue}
use Rattle.std.proofs.lemmas.List.{length-append, length-map}
use Rattle.em_record.specs.Order.{IsAscending}
use Rattle.em_record.specs.declared.record.Record.{Record}
use Rattle.em_model.specs.Ascending.{Ascend}
use Rattle.em_model.specs.Stab.{NumberedInterval}
use Rattle.em_space.specs.Held.{Holds}
use Rattle.em_space.specs.Rig.{RigState}
use Rattle.em_space.specs.declared.fault.EmFault.{EmFault}
use Rattle.em_space.proofs.Lists.{apart_sym, distinct_apart}
use Rattle.em_chain.specs.Chain.{chain_items, payload_in}
use Rattle.em_chain.specs.Writer.{writer_blocks}
use Rattle.em_chain.specs.declared.chain.Chain.{Chain}
use Rattle.em_chain.specs.declared.writer.Writer.{Writer}
use Rattle.em_segment_model.specs.Points.{interval_in, pairs_below}
use Rattle.em_segment_model.specs.Spans.{ends_below}
use Rattle.em_segment.specs.Answers.{CanAnswer, call_blocks, due, weight}
use Rattle.em_segment.specs.Belows.{AreBelow, AreCalls, AreSorted, CanAnswerBelow, below_due, below_weight, pieces_of, points_of, strips_blocks, strips_held}
use Rattle.em_segment_parts.specs.Chains.{chains_count, chains_lists}
use Rattle.em_segment_parts.specs.Reports.{Reports, StopsReporting}
use Rattle.em_segment.specs.declared.node.Below.{Below}
use Rattle.em_segment.proofs.BelowLists.{IsCallOf, StripsStay, blocks_last, calls_last, calls_length, count_last, due_last, held_last, lists_last, sorted_last, strips_filled, strips_stay, weight_last}
use Rattle.em_segment_parts.proofs.Parting.{reports_beside, reports_as, stops_beside, stops_as}
use Rattle.em_segment_parts.proofs.Parts.{reports_pairs}
use Rattle.em_segment_parts.proofs.Regrouping.{SameTally, holds_first, holds_same, tally, tally_append, tally_beside, tally_is, tally_last}

-- A strip was taken off the end.
pub record TakesLast (b d : Below) (p q : Chain) : Type 0 where
  pub points : points_of b ≡ points_of d ++ p ∷ []
  pub pieces : pieces_of b ≡ pieces_of d ++ q ∷ []

takes_lengths : {most : ℕ} {s : RigState} {b d : Below} {p q : Chain} → AreBelow most s b
    → TakesLast b d p q → length (points_of d) ≡ length (pieces_of d)
takes_lengths {most} {s} {b} {d} {p} {q} i h =
    let n = calls_length most s (points_of b) (pieces_of b) i.calls in
    let x = ap (λ (cs : List Chain). length cs) h.points in
    let y = ap (λ (cs : List Chain). length cs) h.pieces in
    let k = length-append (points_of d) (p ∷ []) in
    let l = length-append (pieces_of d) (q ∷ []) in
    omega (arith, n, x, y, k, l)

module _ {most : ℕ} {t : RigState} {b d : Below} {p q : Chain} {w : Writer}
    (can : CanAnswerBelow most t b w) (h : TakesLast b d p q) where
  same_length : length (points_of d) ≡ length (pieces_of d)
  same_length = takes_lengths can.are h

  calls_here : AreCalls most t (points_of d) (pieces_of d) × IsCallOf most t p q
  calls_here =
      calls_last (points_of d) (pieces_of d) p q same_length
      (rw (h.points, h.pieces) at can.are.calls)

  lists_length : length (chains_lists t (points_of d)) ≡ length (chains_lists t (pieces_of d))
  lists_length =
      length-map (points_of d) (chain_items t) ∙ (same_length ∙ sym (length-map (pieces_of d) (chain_items t)))

  points_lists : chains_lists t (points_of b) ≡ chains_lists t (points_of d) ++ chain_items t p ∷ []
  points_lists = ap (chains_lists t) h.points ∙ lists_last t (points_of d) p

  pieces_lists : chains_lists t (pieces_of b) ≡ chains_lists t (pieces_of d) ++ chain_items t q ∷ []
  pieces_lists = ap (chains_lists t) h.pieces ∙ lists_last t (pieces_of d) q

  sorted_here : IsTrue t.device.told
      → AreSorted (chains_lists t (points_of d)) (chains_lists t (pieces_of d))
      × (IsAscending (chain_items t p)
      × Ascend (λ (i : NumberedInterval). i.number) 0 (map interval_in (chain_items t q)) (2 ^ 40))
  sorted_here z =
      sorted_last (chains_lists t (points_of d)) (chains_lists t (pieces_of d)) (chain_items t p)
      (chain_items t q) lists_length (rw (points_lists, pieces_lists) at (can.are.sorted z))

  -- the blocks of the last strip and those of the others
  abbrev pub others : List ℕ
  others = strips_blocks t (points_of d) (pieces_of d)

  blocks_here : strips_blocks t (points_of b) (pieces_of b) ≡ others ++ call_blocks t p q
  blocks_here =
      ap (λ (ps : List Chain). strips_blocks t ps (pieces_of b)) h.points
      ∙ (ap (λ (qs : List Chain). strips_blocks t (points_of d ++ p ∷ []) qs) h.pieces
      ∙ blocks_last t (points_of d) (pieces_of d) p q same_length)

  pub held_here : strips_held (points_of b) (pieces_of b)
      ≡ strips_held (points_of d) (pieces_of d) + (p.blocks + q.blocks)
  held_here =
      ap (λ (ps : List Chain). strips_held ps (pieces_of b)) h.points
      ∙ (ap (λ (qs : List Chain). strips_held (points_of d ++ p ∷ []) qs) h.pieces
      ∙ held_last (points_of d) (pieces_of d) p q same_length)

  tally_here : SameTally (strips_blocks t (points_of b) (pieces_of b)) (call_blocks t p q ++ others)
  tally_here j =
      let a = ap (tally j) blocks_here in
      let b = tally_append j others (call_blocks t p q) in
      let c = tally_append j (call_blocks t p q) others in
      omega (arith, a, b, c)

  -- all that is held, with the call's blocks first
  pub all_held : IsTrue t.device.told → Holds t ((call_blocks t p q ++ others) ++ writer_blocks t w)
  all_held z =
      holds_same (strips_blocks t (points_of b) (pieces_of b) ++ writer_blocks t w)
      ((call_blocks t p q ++ others) ++ writer_blocks t w)
      (tally_beside (strips_blocks t (points_of b) (pieces_of b)) (call_blocks t p q ++ others)
      (writer_blocks t w) tally_here) (can.blocks z)

  -- The last strip is a call,
  pub last_call : CanAnswer t p q w
  last_call = record {
    call = record {
      sound = can.sound;
      points_are = calls_here.1.points;
      pieces_are = calls_here.1.pieces;
      pairs = can.pairs;
      blocks = λ z. holds_first (call_blocks t p q ++ writer_blocks t w) others
          (holds_same ((call_blocks t p q ++ others) ++ writer_blocks t w)
          ((call_blocks t p q ++ writer_blocks t w) ++ others)
          (tally_last (call_blocks t p q) others (writer_blocks t w)) (all_held z));
      ordered = λ z. (sorted_here z).1.0;
      numbered = λ z. (sorted_here z).1.1;
    };
    singles = can.singles;
    areas = can.areas;
    rack = can.rack;
  }

  pub last_count : chains_count (points_of b) ≡ chains_count (points_of d) + p.count
  last_count = ap chains_count h.points ∙ count_last (points_of d) p

  pub last_some : (0 < p.count) × (p.count ≤ most)
  last_some = (calls_here.1.some, calls_here.1.few)

  pub last_length : length (points_of b) ≡ length (points_of d) + 1
  last_length =
      ap (λ (cs : List Chain). length cs) h.points ∙ length-append (points_of d) (p ∷ [])

  pub last_due : below_due t b ≡ below_due t d ++ due t p q
  last_due =
      ap (λ (pss : List (List Record)). pairs_below pss (chains_lists t (pieces_of b))) points_lists
      ∙ (ap (λ (qss : List (List Record)).
      pairs_below (chains_lists t (points_of d) ++ chain_items t p ∷ []) qss) pieces_lists
      ∙ due_last (chains_lists t (points_of d)) (chains_lists t (pieces_of d)) (chain_items t p)
      (chain_items t q) lists_length)

  pub last_weight : below_weight t b ≡ below_weight t d + weight t p q
  last_weight =
      ap (λ (pss : List (List Record)). ends_below pss (chains_lists t (pieces_of b))) points_lists
      ∙ (ap (λ (qss : List (List Record)).
      ends_below (chains_lists t (points_of d) ++ chain_items t p ∷ []) qss) pieces_lists
      ∙ weight_last (chains_lists t (points_of d)) (chains_lists t (pieces_of d)) (chain_items t p)
      (chain_items t q) lists_length)

  -- the others' blocks are within what their records fill
  pub others_filled : IsTrue t.device.told
      → strips_held (points_of d) (pieces_of d) * payload_in t
      ≤ chains_count (points_of d) + below_weight t d + 2 * length (points_of d) * payload_in t
  others_filled z = strips_filled most t (points_of d) (pieces_of d) can.sound calls_here.0 z

  module _ {u : RigState} {v : Writer} {peak extra : ℕ} {xs : List Record}
      (g : Reports peak extra (call_blocks t p q) [] (p.blocks + q.blocks) 0 t u w v xs) where
    others_stay : StripsStay most t u (points_of d) (pieces_of d)
    others_stay =
        strips_stay (call_blocks t p q ++ writer_blocks t w) t u (points_of d) (pieces_of d)
        g.runs.session.touches
        (λ z. apart_sym (call_blocks t p q ++ writer_blocks t w) others
        (distinct_apart (call_blocks t p q ++ writer_blocks t w) others
        ((holds_same ((call_blocks t p q ++ others) ++ writer_blocks t w)
        ((call_blocks t p q ++ writer_blocks t w) ++ others)
        (tally_last (call_blocks t p q) others (writer_blocks t w)) (all_held z)).distinct z)))
        calls_here.0

    -- what the call did, beside the other strips
    pub last_reports : Reports (peak + strips_held (points_of d) (pieces_of d)) extra
        (strips_blocks t (points_of b) (pieces_of b)) (strips_blocks u (points_of d) (pieces_of d))
        (strips_held (points_of b) (pieces_of b)) (strips_held (points_of d) (pieces_of d)) t u w v xs
    last_reports =
        reports_as (strips_blocks t (points_of b) (pieces_of b))
        (strips_blocks u (points_of d) (pieces_of d)) (omega arith) (omega arith)
        (let e = held_here in omega (arith, e)) (omega arith) (λ z. tally_here)
        (λ z. tally_is (sym (others_stay.blocks z)))
        (reports_beside others (strips_held (points_of d) (pieces_of d)) all_held g)

    -- The others may be answered.
    pub others_can : CanAnswerBelow most u d v
    others_can =
        let r = last_reports in
        let f = r.runs.frames in
        let back : IsTrue u.device.told → IsTrue t.device.told = λ y. sym r.runs.session.touches.told ∙ y in
        record {
          sound = r.runs.session.sound;
          are = record {
            calls = others_stay.calls;
            sorted = λ y.
                let z = back y in
                rw (others_stay.points z, others_stay.pieces z) ((sorted_here z).0);
          };
          pairs = reports_pairs can.pairs r;
          singles = rw (f.shape, f.free) can.singles;
          areas = rw (f.free_areas) can.areas;
          rack = f.rack ∙ can.rack;
          blocks = λ y. r.runs.session.holds (back y);
        }

    pub others_due : IsTrue t.device.told → below_due u d ≡ below_due t d
    others_due z = rw (others_stay.points z, others_stay.pieces z) refl

    pub others_weight : IsTrue t.device.told → below_weight u d ≡ below_weight t d
    others_weight z = rw (others_stay.points z, others_stay.pieces z) refl

  -- what a call did that gave up
  pub last_stops : {u : RigState} {peak extra tried : ℕ} {f : EmFault}
      → StopsReporting peak extra tried (call_blocks t p q) (p.blocks + q.blocks) t u w f
      → StopsReporting (peak + strips_held (points_of d) (pieces_of d)) extra tried
      (strips_blocks t (points_of b) (pieces_of b)) (strips_held (points_of b) (pieces_of b)) t u w f
  last_stops k =
      stops_as (strips_blocks t (points_of b) (pieces_of b)) can.sound (omega arith) (omega arith)
      (omega arith) (let e = held_here in omega (arith, e)) (λ z. tally_here)
      (stops_beside others (strips_held (points_of d) (pieces_of d)) k)
