-- A leaf is full, and another one begins.
use Rattle.std.proofs.Common.{◌≡◌, ℕ, ◌+◌, ◌-◌, ◌*◌, ◌/◌, ◌<◌, ◌≤◌, min, List, [], ◌∷◌, ◌++◌, length, refl, sym, ap, ◌∙◌, subst, arith, IsTrue, Option, Some, None, Result, Ok, Err, IsErrAnd}
use Rattle.std.proofs.lemmas.List.{append-nil}
use Rattle.em_record.specs.declared.record.Record.{Record}
use Rattle.em_settle.specs.Map.{map_key_of}
use Rattle.em_space.specs.Held.{Apart}
use Rattle.em_space.specs.Rig.{RigState, Sound}
use Rattle.em_space.specs.declared.fault.EmFault.{EmFault}
use Rattle.em_space.proofs.Ledgers.{full_by}
use Rattle.em_chain.specs.Chain.{chain_blocks, chain_items, payload_in}
use Rattle.em_chain.specs.Counts.{ceiling}
use Rattle.em_chain.specs.Writer.{WriterStays, writer_blocks, writer_items}
use Rattle.em_chain.specs.declared.chain.Chain.{Chain}
use Rattle.em_chain.specs.declared.writer.Writer.{Writer}
use Rattle.em_chain.proofs.Keeps.{has_kept}
use Rattle.em_chain.proofs.Laws.{writer_stays}
use Rattle.em_tree_model.specs.Ranges.{least_record}
use Rattle.em_tree_load.proofs.Payments.{paid_then, paid_then_stops, stops_paid_more}
use Rattle.em_tree_walk.specs.Paid.{RunsPaid}
use Rattle.em_tree_trim.specs.Rows.{LeadUpTo, first_low, records_in, rows_in}
use Rattle.em_tree_trim.proofs.JoinKeys.{first_next, lead_next}
use Rattle.em_tree_trim.proofs.Runs.{paid_as, paid_count}
use Rattle.em_bulk.specs.Building.{BuilderHasFrames, HoldsPairs, IsOpen, StopsTurning, Turned, Turns, builder_blocks, builder_unstored, held_spent}
use Rattle.em_bulk.specs.Full.{CanKeep, IsHeld, KeepsLeaf, KeptLeaf, StopsKeeping, full_blocks, full_parts, held_count}
use Rattle.em_bulk.specs.Pairs.{IsRun, key_record, lot_of}
use Rattle.em_bulk.specs.Taken.{StopsTakingList, TookList}
use Rattle.em_bulk.specs.declared.builder.Builder.{Builder}
use Rattle.em_bulk.specs.declared.keeping.Leaves.{Leaves}
use Rattle.em_bulk.proofs.Keys.{key_below, records_more, run_none, within_upto}
use Rattle.em_bulk.proofs.LeafTaken.{frames_over, taken_exact, taken_frames, taken_full, taken_runs, taken_stops}

-- one leaf more is full
full_more : (l n c q r h : ℕ) → c ≡ l + n * (q / 2 + h) → l ≡ n → q ≡ 2 * (q / 2) → r ≡ q + 2 * h → c ≡ 0 + n * (r / 2 + 1)
full_more l n c q r h e f even more =
    let k : r / 2 + 1 ≡ q / 2 + h + 1 = omega (arith, even, more) in
    let p = ap (λ (m : ℕ). n * m) k in
    omega (arith, e, f, p)

-- the leaf that is held has this many blocks, if one is
abbrev IsFullOf : ℕ → Option (Record × Chain) → Type 0
IsFullOf e None = Unit {0}
IsFullOf e (Some p) = p.1.blocks ≡ e

full_of : (s : RigState) (n : ℕ) (o : Option (Record × Chain)) → IsHeld s n o
    → IsFullOf (ceiling (lot_of s.pool.shape) (payload_in s)) o
full_of s n None i = tt
full_of s n (Some p) i = i.0.exact ∙ ap (λ (k : ℕ). ceiling k (payload_in s)) i.1

count_few : (o : Option (Record × Chain)) → held_count o ≤ 1
count_few None = omega arith
count_few (Some p) = omega arith

-- what was spent for it
spent_more : (o : Option (Record × Chain)) (e q r c l m : ℕ) → IsFullOf e o → q ≡ 2 * (q / 2) → r ≡ q + 2 * held_count o
    → c ≡ l → m ≤ 4 * held_count o + min l 1
    → m + ((2 * e + 5) * (q / 2) + held_spent o + 2 * l) ≤ (2 * e + 5) * (r / 2) + (2 * c + 1) + 2 * 0
spent_more None e q r c l m full even more same few =
    let r0 : r ≡ q = let a : r ≡ q + 2 * 0 = more in omega (arith, a) in
    let f : m ≤ 4 * 0 + min l 1 = few in
    let k = ap (λ (n : ℕ). (2 * e + 5) * (n / 2)) r0 in
    omega (arith, k, same, f)
spent_more (Some p) e q r c l m full even more same few =
    let a : r ≡ q + 2 * 1 = more in
    let f : m ≤ 4 * 1 + min l 1 = few in
    let b : p.1.blocks ≡ e = full in
    let k : r / 2 ≡ q / 2 + 1 = omega (arith, even, a) in
    let j = ap (λ (n : ℕ). (2 * e + 5) * n) k in
    omega (arith, j, same, f, b)

module _ {s a : RigState} {b : Builder} {v : Writer} {c : Chain} (key : ℕ) (sound : Sound s)
    (i : IsOpen s b key) (size : b.leaf.count ≡ lot_of s.pool.shape) (above : b.low < key)
    (x : TookList s a b.leaf v c) where
  -- The leaf can be held.
  pub turn_can : CanKeep a b.full c
  turn_can = record {
    is = (taken_full sound i x).is;
    leaf = taken_exact sound i x;
    size = x.finishes.count_is ∙ (size ∙ ap lot_of (sym x.runs.session.touches.shape));
    holds = λ y. (taken_runs sound i x).session.holds (sym x.runs.session.touches.told ∙ y);
  }

  told_taken : IsTrue s.device.told → IsTrue a.device.told
  told_taken z = x.runs.session.touches.told ∙ z

  -- It is held,
  module _ {t : RigState} {g : Leaves} (k : KeptLeaf a t b.full g (key_record b.low) c) where
    abbrev pub d : Builder
    d = record { full = g; leaf = v; low = key; last = b.last; count = b.count }

    fresh_stays : WriterStays a t v
    fresh_stays = writer_stays (full_blocks a b.full ++ chain_blocks a c) a t v k.runs.session.touches
        (λ y. let P : List ℕ → Type 0 = λ ks. Apart ks (full_blocks a b.full ++ chain_blocks a c) in
        subst P (sym (x.fresh.held y)) tt)
        (has_kept 1 (length v.frame) a.pool t.pool k.runs.frames x.fresh.is.frame) x.fresh.is

    fresh_none : IsTrue s.device.told → writer_blocks t v ≡ []
    fresh_none z = fresh_stays.blocks (told_taken z) ∙ x.fresh.held (told_taken z)

    fresh_empty : IsTrue s.device.told → writer_items t v ≡ []
    fresh_empty z = fresh_stays.items (told_taken z) ∙ x.fresh.items (told_taken z)

    turn_runs : RunsPaid (builder_blocks s b) (builder_blocks t d) (builder_unstored b) (builder_unstored d) s t
    turn_runs =
        let none = x.fresh.blocks in
        let m = builder_unstored b in
        let n = min g.list.blocks 1 in
        let e : n ≡ builder_unstored d = omega (arith, none) in
        paid_as (builder_blocks t d)
        (paid_count m n m (builder_unstored d) refl e
        (paid_then (full_blocks a b.full ++ chain_blocks a c) (taken_runs sound i x) (λ z j. refl) k.runs))
        (λ z. ap (λ (ks : List ℕ). full_blocks t g ++ ks) (fresh_none z) ∙ append-nil (full_blocks t g))

    turn_parts : IsTrue s.device.told
        → full_parts t g ≡ full_parts s b.full ++ (key_record b.low, writer_items s b.leaf) ∷ []
    turn_parts z =
        let P : List Record → List (Record × List Record) = λ xs. full_parts s b.full ++ (key_record b.low, xs) ∷ [] in
        k.parts (told_taken z)
        ∙ (ap (λ (ps : List (Record × List Record)). ps ++ (key_record b.low, chain_items a c) ∷ []) ((taken_full sound i x).parts z)
        ∙ ap P (x.finishes.items z))

    turn_pairs : IsTrue s.device.told → HoldsPairs t d key
    turn_pairs z =
        let p = i.told z in
        let ps = full_parts s b.full in
        let xs = writer_items s b.leaf in
        let L : List (Record × List Record) → Type 0 = LeadUpTo map_key_of (key_record key) in
        let O : List (Record × List Record) → Type 0 = λ qs. first_low (key_record key) qs ≡ least_record in
        let R : List Record → Type 0 = λ ys. IsRun key key ys in
        record {
          holds = turn_runs.session.holds z;
          packed = fresh_stays.packed (told_taken z) (x.fresh.packed (told_taken z));
          lead = subst L (sym (turn_parts z)) (lead_next map_key_of (key_record b.low) (key_record key) ps xs p.lead
              (key_below b.low key above) (within_upto b.low key xs p.run.within) p.run.rises);
          first = subst O (sym (turn_parts z)) (first_next (key_record b.low) (key_record key) ps xs ∙ p.first);
          run = subst R (sym (fresh_empty z)) (run_none key key);
        }

    turn_frames : BuilderHasFrames t d
    turn_frames =
        let f = frames_over a t (record b { leaf = v }) v k.runs.frames fresh_stays.is.frame (taken_frames sound i x) in
        record { leaf = f.leaf; list = k.is.list.frame.len_is; out = f.out }

    turned : Turned s t b d key
    turned =
        let shape = k.runs.session.touches.shape ∙ x.runs.session.touches.shape in
        let none = x.fresh.count in
        let no_block = x.fresh.blocks in
        let zero = x.filled_is in
        let fill = fresh_stays.filled_is in
        let am = x.bounds.moves in
        let bm = k.moves in
        let au = x.bounds.used in
        let ao = x.bounds.most in
        let ku = k.peaks.used in
        let ko = k.peaks.most in
        let most = i.most in
        let E = ceiling (lot_of s.pool.shape) (payload_in s) in
        let held = ap held_spent k.held in
        let hc = ap held_count k.held in
        let held_few = count_few b.full.held in
        let spent = spent_more b.full.held E b.full.list.count g.list.count c.blocks b.leaf.blocks (t.moves - s.moves)
        (full_of s b.full.list.count b.full.held i.full.held) i.full.even k.count x.finishes.blocks_is
        (omega (arith, am, bm)) in
        let more = full_more b.leaf.count (lot_of s.pool.shape) b.count b.full.list.count g.list.count
        (held_count b.full.held) i.count size i.full.even k.count in
        let l = ap lot_of shape in
        let lm = ap (λ (n : ℕ). n * (g.list.count / 2 + 1)) l in
        let hm = ap (λ (n : ℕ). lot_of t.pool.shape * (g.list.count / 2 + n)) hc in
        record {
          runs = turn_runs;
          is = record {
            full = k.is;
            leaf = fresh_stays.is;
            frames = turn_frames;
            filled_is = omega (arith, fill, zero, none);
            size = omega (arith, none);
            count = omega (arith, more, none, lm, hm);
            most = most;
            low = omega arith;
            told = λ y. turn_pairs (sym turn_runs.session.touches.told ∙ y);
          };
          none = none;
          count = refl;
          pairs = λ z. ap (λ (ps : List (Record × List Record)). records_in (rows_in ps) ++ writer_items t v) (turn_parts z)
              ∙ (ap (λ (ys : List Record). records_in (rows_in (full_parts s b.full ++ (key_record b.low, writer_items s b.leaf) ∷ [])) ++ ys) (fresh_empty z)
              ∙ (append-nil (records_in (rows_in (full_parts s b.full ++ (key_record b.low, writer_items s b.leaf) ∷ [])))
              ∙ records_more (full_parts s b.full) (key_record b.low) (writer_items s b.leaf)));
          moves = omega (arith, spent, held, no_block, am, bm);
          few = omega (arith, am, bm, held_few);
          peaks = record { used = omega (arith, au, ku); most = omega (arith, au, ao, ku, ko) };
        }

  -- or the one before it couldn't be listed.
  unkept : {t : RigState} {e : EmFault} → StopsKeeping a t b.full c e → StopsTurning s t b e
  unkept {t} {e} k =
      let am = x.bounds.moves in
      let bm = k.moves in
      let au = x.bounds.used in
      let ao = x.bounds.most in
      let ku = k.peaks.used in
      let ko = k.peaks.most in
      let blocks = x.runs.session.touches.blocks in
      record {
        stops = stops_paid_more (builder_blocks s b) 3 (omega arith)
            (paid_then_stops (full_blocks a b.full ++ chain_blocks a c) (taken_runs sound i x) (λ z j. refl) k.stops)
            (λ z j. refl);
        full = full_by e (a.blocks < a.used + 2) (s.blocks < s.used + 2) (λ h. omega (arith, h, au, blocks)) k.full;
        moves = omega (arith, am, bm);
        peaks = record { used = omega (arith, au, ku); most = omega (arith, au, ao, ku, ko) };
      }

  pub turns : (t : RigState) (g : Leaves) (next : ℕ) (low : Record) (result : Result Unit EmFault) → next ≡ key
      → low ≡ key_record b.low
      → KeepsLeaf a t b.full g low c result
      → Turns s t b (record { full = g; leaf = v; low = next; last = b.last; count = b.count }) key result
  turns t g next low (Ok o) n e k =
      let P : Record → Type 0 = λ r. KeptLeaf a t b.full g r c in
      let Q : ℕ → Type 0 = λ m. Turned s t b (record { full = g; leaf = v; low = m; last = b.last; count = b.count }) key in
      subst Q (sym n) (turned (subst P e k))
  turns t g next low (Err f) n e k = unkept k

-- The leaf couldn't be taken.
pub unturned : {s a : RigState} {b : Builder} {v : Writer} (d : Builder) (key : ℕ) (sound : Sound s) → IsOpen s b key
    → (result : Result Unit EmFault) (e : EmFault) → IsErrAnd result (λ m. m ≡ e) → StopsTakingList s a b.leaf v e
    → Turns s a b d key result
unturned d key sound i (Ok o) e h x = absurd h
unturned {s} {a} {b} d key sound i (Err m) e h x =
    let P : EmFault → Type 0 = λ f. StopsTurning s a b f in
    let am = x.bounds.moves in
    let au = x.bounds.used in
    let ao = x.bounds.most in
    subst P (sym h) (record {
      stops = stops_paid_more (builder_blocks s b) 3 (omega arith) (taken_stops sound i x) (λ z j. refl);
      full = full_by e ⊥ (s.blocks < s.used + 2) (λ k. absurd k) x.full;
      moves = omega (arith, am);
      peaks = record { used = omega (arith, au); most = omega (arith, au, ao) };
    })
