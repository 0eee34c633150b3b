-- What a settled load leaves.
use Rattle.std.proofs.Common.{◌≡◌, ℕ, ◌+◌, ◌-◌, ◌*◌, ◌/◌, ◌<◌, ◌≤◌, ◌⊎◌, min, List, [], ◌∷◌, ◌++◌, length, refl, sym, ap, ◌∙◌, arith, subst, IsTrue, inl, inr, ⊎_elim, Option, Some, None, Result, Ok, Err, IsErrAnd, OnOk}
use Rattle.std.proofs.lemmas.Bool.{cond-false, cond-true, le-leb, lt-leb}
use Rattle.std.proofs.Math.Nat.{mul_assoc}
use Rattle.std.proofs.lemmas.List.{append-nil, length-append}
use Rattle.em_record.specs.Shape.{ShapeNumbers, wide_of}
use Rattle.em_record.specs.declared.record.Record.{Record}
use Rattle.em_frames.specs.Pool.{load_of}
use Rattle.em_space.specs.Rig.{RigState, Sound}
use Rattle.em_space.specs.declared.fault.EmFault.{EmFault}
use Rattle.em_space.specs.declared.fault.EmFault.TheVariants.{DeviceFault, Full, Damaged}
use Rattle.em_space.proofs.Held.{apart_none}
use Rattle.em_space.proofs.Paying.{pays_kept, pays_more, pays_then}
use Rattle.em_space.proofs.Sessions.{session_as, session_still, session_trans}
use Rattle.em_space.proofs.Steps.{both_told}
use Rattle.em_chain.specs.Chain.{chain_blocks, chain_items, payload_in}
use Rattle.em_chain.specs.Counts.{ceiling}
use Rattle.em_chain.specs.Effects.{Completes, GivesFrame, Unmoved}
use Rattle.em_chain.specs.Reader.{rest_of}
use Rattle.em_chain.specs.Session.{pair_blocks}
use Rattle.em_chain.specs.Writer.{IsWriter, filled, writer_blocks}
use Rattle.em_chain.specs.declared.chain.Chain.{Chain}
use Rattle.em_chain.specs.declared.reader.Reader.{Reader}
use Rattle.em_chain.specs.declared.writer.Writer.{Writer}
use Rattle.em_chain.proofs.Counts.{ceiling_more, ceiling_sum, ceiling_two, filled_most, lt_or_le, writer_blocks_are}
use Rattle.em_chain.proofs.Keeps.{lent_given, lent_same, payload_kept}
use Rattle.em_chain.proofs.Laws.{chain_stays, writer_stays}
use Rattle.em_chain.proofs.Sessions.{owed_most, room_read, wrote_stays, wrote_then}
use Rattle.em_settle.specs.Keys.{record_at}
use Rattle.em_settle.specs.Lists.{list_with_ops}
use Rattle.em_settle.specs.Rising.{RisesByKey}
use Rattle.em_settle.specs.States.{answers_to}
use Rattle.em_settle.specs.declared.step.Step.{Step}
use Rattle.em_leaf.specs.Counting.{LimitsLow, low_limit_of}
use Rattle.em_leaf.specs.Effects.{AnswersLoad, IsSplit, RunsLoad, load_moves_most, loaded_blocks, loading_room}
use Rattle.em_leaf.specs.Leaf.{IsHighChain, high_blocks, high_count, high_items, leaf_most, low_count}
use Rattle.em_leaf.specs.Settling.{CanSettle, SettlesOpsTo, SettlesOps}
use Rattle.em_leaf.specs.Writing.{IsHighPart, WritesLeaf, WritesParts, high_account}
use Rattle.em_leaf.specs.declared.change.LeafChange.{LeafChange}
use Rattle.em_leaf.proofs.Counted.{limit_low, limit_more}
use Rattle.em_leaf.proofs.Finishing.{frame_back}
use Rattle.em_leaf.proofs.Loading.{Begun, high_fields, limit_most, load_some, no_row, write_stops}
use Rattle.em_leaf.proofs.Numbers.{ceiling_add}

-- the low part has as many records as it may
pub low_is : (n l h limit most : ℕ) → limit ≡ low_limit_of most n → 1 ≤ most → n ≡ l + h → l ≤ limit
    → (l ≡ limit) ⊎ (h ≡ 0) → l ≡ low_count most n
low_is n l h limit most e some s few full = ⊎_elim
    (λ (m : most < n).
    let a = limit_more most n m in
    let b : low_count most n ≡ n - n / 2 = cond-false _ _ _ (lt-leb n most m) in
    ⊎_elim (λ (x : l ≡ limit). omega arith) (λ (x : h ≡ 0). omega arith) full)
    (λ (m : n ≤ most).
    let a = limit_low most n m in
    let b : low_count most n ≡ n = cond-true _ _ _ (le-leb n most m) in
    ⊎_elim (λ (x : l ≡ limit). omega arith) (λ (x : h ≡ 0). omega arith) full)
    (lt_or_le most n)

-- a list that isn't empty, or is
not_none : (xs : List Record) → length xs ≡ 0 → xs ≡ []
not_none [] e = refl
not_none (x ∷ xs) e = absurd (omega arith)

-- The blocks of the parts, at most.
pub blocks_fit : (l h n x b c p : ℕ) → 0 < p → l + h ≤ x + n → ceiling (x + 1) p + b ≤ c + 1
    → ceiling l p + ceiling h p ≤ ceiling n p + c + 2
blocks_fit l h n x b c p pos few room =
    let k = ceiling_two l h p pos in
    let j = ceiling_more (l + h) (n + (x + 1)) p pos (omega arith) in
    let i = ceiling_add n (x + 1) p pos in
    omega arith

module _ (key : Record → Record) (step : Option Record → Record → Step) (ops : List Record) where
  pub high_blocks_are : (t : RigState) (o : Option (Record × Chain)) (items : List Record)
      → 128 ≤ t.pool.shape.block → IsHighPart key t o items
      → high_count o ≤ ceiling (length items) (payload_in t)
  high_blocks_are t None items low h = omega arith
  high_blocks_are t (Some p) items low h = let e = h.0.blocks_are in omega arith

  high_items_are : (t : RigState) (o : Option (Record × Chain)) (items : List Record)
      → IsTrue t.device.told → IsHighPart key t o items → high_items t o ≡ items
  high_items_are t None items z h = sym h
  high_items_are t (Some p) items z h = h.0.items_are z

  -- the high part over a frame that came back
  pub high_stays : (b t : RigState) (o : Option (Record × Chain)) (items : List Record)
      → GivesFrame [] b t → IsHighPart key b o items
      → IsHighPart key t o items × (IsTrue b.device.told → high_blocks t o ≡ high_blocks b o)
  high_stays b t None items x h = (h, λ z. refl)
  high_stays b t (Some p) items x h =
      let st = chain_stays [] b t p.1 x.touches (λ z. apart_none (chain_blocks b p.1)) h.0.chain in
      let back = λ (z : IsTrue t.device.told). sym x.touches.told ∙ z in (
        (
          record {
            chain = st.is;
            packed = λ z. st.packed (back z) (h.0.packed (back z));
            items_are = λ z. st.items (back z) ∙ h.0.items_are (back z);
            count_is = h.0.count_is;
            blocks_are = h.0.blocks_are ∙ ap (λ (n : ℕ). ceiling (length items) n)
                (sym (payload_kept [] b t x.touches));
          },
          h.1,
        ),
        st.blocks,
      )

  high_chain : (t : RigState) (o : Option (Record × Chain)) (items : List Record) (most : ℕ)
      → most ≡ leaf_most t.pool.shape → length items ≤ most → IsHighPart key t o items
      → IsHighChain t o
  high_chain t None items most e l h = tt
  high_chain t (Some p) items most e l h =
      let n = h.0.count_is in
      record { chain = h.0.chain; packed = h.0.packed; most = omega arith }

  high_split : (t : RigState) (o : Option (Record × Chain)) (c : Chain)
      (all lows highs : List Record) (limit most : ℕ) → IsTrue t.device.told
      → most ≡ leaf_most t.pool.shape → 1 ≤ most
      → limit ≡ low_limit_of most (length all) → length all ≡ length lows + length highs
      → length lows ≤ limit → (length lows ≡ limit) ⊎ (highs ≡ []) → chain_items t c ≡ lows
      → IsHighPart key t o highs → IsSplit key t all c o
  high_split t None c all lows highs limit most z e some l n few full i h =
      let m = ap length h in ⊎_elim
      (λ (x : most < length all). absurd (let a = limit_more most (length all) x in omega arith))
      (λ (x : length all ≤ most). omega arith) (lt_or_le most (length all))
  high_split t (Some p) c all lows highs limit most z e some l n few full i h =
      let m = ap length h.1.2 in
      let li = ap length i in
      let hi = ap length (h.0.items_are z) in ⊎_elim
      (λ (x : most < length all).
      let a = limit_more most (length all) x in
      let full_is : length lows ≡ limit = ⊎_elim (λ (y : length lows ≡ limit). y)
      (λ (y : highs ≡ []). absurd (let w = ap length y in omega arith)) full in (
        omega arith,
        record {
          first = h.1.0;
          others = h.1.1;
          high_is = h.0.items_are z ∙ h.1.2;
          key_is = h.1.3;
          low_least = omega arith;
          high_least = omega arith;
        },
      ))
      (λ (x : length all ≤ most). absurd (let a = limit_low most (length all) x in
      ⊎_elim (λ (y : length lows ≡ limit). let q : ⊥ = absurd (omega arith) in q)
      (λ (y : highs ≡ []). let q : ⊥ = absurd (let w = ap length y in omega arith) in q) full))
      (lt_or_le most (length all))

  -- The blocks and the moves of a load that went well.
  pub runs_load : {s a b t : RigState} {c : Chain} {r q : Reader} {w v : Writer}
      {change : LeafChange} (limit most : ℕ) → (c.count ≡ 0 → c.blocks ≡ 0)
      → Begun s a c r w (length ops)
      → WritesParts limit most key step ops a b r q w v change → GivesFrame [] b t → Unmoved b t
      → IsWriter s w
      → RunsLoad s t c (length ops) w v (Ok change)
  runs_load {s} {a} {b} {t} {c} {r} {q} {w} {v} {change} limit most whole d h x y is =
      let low = h.runs.session.sound.shape.block_low in
      let cc = ap (λ (k : Chain). k.count) d.words in
      let cb = ap (λ (k : Chain). k.blocks) d.words in
      let none : q.blocks ≡ 0 = h.took.none_left (λ e. cb ∙ whole (sym cc ∙ e)) h.all_read in
      let frames = lent_given s.pool b.pool t.pool
      (lent_same 1 s.pool a.pool b.pool d.frames h.runs.frames) x.frames in
      let st = chain_stays [] b t change.low x.touches (λ z. apart_none (chain_blocks b change.low))
      h.low.chain in
      let hs = high_stays b t change.high h.highs x h.high in
      let ws = writer_stays [] b t v x.touches (λ z. apart_none (writer_blocks b v))
      (frame_back s.pool b.pool t.pool _ _ frames is.frame x.frames h.answered.is.frame)
      h.answered.is in
      let told = h.took.told ∙ d.told in
      let ks = chain_blocks b change.low ++ (high_blocks b change.high ++ pair_blocks b q v) in
      let first = session_trans d.session h.runs.session in
      let still = session_still ks x.sound x.touches (λ z. first.holds (sym told ∙ z)) in
      let same = λ (z : IsTrue s.device.told).
      let p = no_row b (rest_of q) none in
      let e : loaded_blocks t change v ≡ ks =
      rw (
        st.blocks (told ∙ z),
        hs.1 (told ∙ z),
        ws.blocks (told ∙ z),
        p,
        append-nil
            (writer_blocks b v),
      ) refl
      in e in
      let k = h.runs.spends in
      let hf = high_fields change.high in
      let hb = high_blocks_are b change.high h.highs low h.high in
      let lb = h.low.blocks_are in
      let left = h.took.left_is in
      let n0 = h.all_read in
      let count = h.count in
      let pb : payload_in b ≡ payload_in s = h.took.payload_is ∙ d.payload_is in
      let pa = d.payload_is in
      let room = room_read h.xs (length h.xs) (omega arith) h.took (omega arith) in
      let fit = blocks_fit (length h.lows) (length h.highs) (length ops)
      (length h.xs) q.blocks r.blocks
      (payload_in a) (omega arith) (omega arith) room in
      let f1 = ap (λ (p : ℕ). ceiling (length h.lows) p) h.took.payload_is in
      let f2 = ap (λ (p : ℕ). ceiling (length h.highs) p) h.took.payload_is in
      let f3 = ap (λ (p : ℕ). ceiling (length ops) p) pa in
      let m1 = d.moves in
      let m2 = d.later in
      let m3 = d.used in
      let m4 = d.most in
      let m6 = d.peak in
      let om = owed_most r d.can.pair.taking in
      let y1 = y.same.used in
      let y2 = y.same.most in
      let y3 = y.moves in
      record {
        session = session_as (loaded_blocks t change v) (session_trans first still) same;
        frames = frames;
        spends = record {
          held = omega (arith, k.held);
          used = omega (arith, k.used);
          most = omega (arith, k.most);
          moves = omega (arith, k.moves);
          later = omega (arith, k.later);
          pays = pays_more (pays_then (pays_kept (min w.blocks 1 + 0) (omega arith) (omega arith))
              (pays_then k.pays (pays_kept (0 + ((high_account change.high).unstored
              + (min v.blocks 1 + 0))) (omega arith) (omega arith)) (omega arith))
              (omega (arith, k.later))) (omega arith);
        };
      }

  -- What came out of it.
  pub settled_load : {s l a b t : RigState} {c : Chain} {r q : Reader} {w v : Writer}
      {change : LeafChange} (limit most : ℕ) → Sound s → CanSettle key s c (length ops) w
      → most ≡ leaf_most s.pool.shape → LimitsLow most key step ops s l c limit
      → Begun s a c r w (length ops)
      → WritesParts limit most key step ops a b r q w v change → GivesFrame [] b t → Unmoved b t
      → SettlesOps key step s t c ops w v change
  settled_load {s} {l} {a} {b} {t} {c} {r} {q} {w} {v} {change} limit most so can e lim d h x y =
      let frames = lent_given s.pool b.pool t.pool
      (lent_same 1 s.pool a.pool b.pool d.frames h.runs.frames) x.frames in
      let shape = frames.shape in
      let st = chain_stays [] b t change.low x.touches (λ z. apart_none (chain_blocks b change.low))
      h.low.chain in
      let hs = high_stays b t change.high h.highs x h.high in
      let ws = writer_stays [] b t v x.touches (λ z. apart_none (writer_blocks b v))
      (frame_back s.pool b.pool t.pool _ _ frames can.writer.frame x.frames h.answered.is.frame)
      h.answered.is in
      let told = h.took.told ∙ d.told in
      let back = λ (z : IsTrue t.device.told). sym x.touches.told ∙ z in
      let most_t : most ≡ leaf_most t.pool.shape = e ∙ ap leaf_most (sym shape) in
      let some = load_some s.pool.shape so.shape in
      let cm = can.most in
      let lm = limit_most lim.total c.count (length ops) most (load_of s.pool.shape) e (omega arith)
      lim.few in
      let li = lim.limit_is in
      let lw = h.low_most in
      let lc = h.low.count_is in
      let answered = wrote_then h.ys [] (wrote_then [] h.ys d.answered h.answered)
      (wrote_stays x.touches.told ws) in
      let P : List Record → Type 0 = RisesByKey key in
      let settles = λ (z : IsTrue s.device.told).
      let o = h.settles (d.told ∙ z) (subst P (sym (d.items z)) (can.rises z)) in o in
      let all = list_with_ops key step (chain_items s c) ops in
      let list = λ (z : IsTrue s.device.told).
      let o : all ≡ h.lows ++ h.highs = ap (λ zs. list_with_ops key step zs ops) (sym (d.items z))
      ∙ ((settles z).list ∙ append-nil (h.lows ++ h.highs)) in o in
      let lows = λ (z : IsTrue s.device.told).
      let o : chain_items t change.low ≡ h.lows = st.items (told ∙ z) ∙ h.low.items_are
      (told ∙ z) in o
      in
      let few : (length h.lows ≡ limit) ⊎ (length h.highs ≡ 0) = ⊎_elim
      (λ (m : length h.lows ≡ limit). inl m)
      (λ (m : h.highs ≡ []). inr (ap length m)) h.full in
      record {
        settles = λ z.
            let n = ap length (list z) in
            let la = length-append h.lows h.highs in
            let ex = lim.exact z (can.rises z) in
            let ll = ap length (lows z) in
            let tt_told = x.touches.told ∙ (told ∙ z) in
            let li2 = low_is (length all) (length h.lows) (length h.highs) limit most ex
            (omega arith)
            (omega arith) lw few in
            let lt = ap (λ m. low_count m (length all)) most_t in
            record {
              items = ap (λ zs. zs ++ high_items t change.high) (lows z)
                  ∙ (ap (λ zs. h.lows ++ zs)
                  (high_items_are t change.high h.highs tt_told hs.0) ∙ sym (list z));
              low_len = ll ∙ (li2 ∙ lt);
              split = high_split t change.high change.low all h.lows h.highs limit most tt_told
                  most_t
                  (omega arith) ex (omega arith) lw h.full (lows z) hs.0;
            };
        leaves = record {
          low = record {
            chain = st.is;
            packed = λ z. st.packed (back z) (h.low.packed (back z));
            most = omega arith;
          };
          high = high_chain t change.high h.highs most most_t h.high_most hs.0;
        };
        answers = record {
          given = h.ys;
          wrote = rw (append-nil h.ys) at answered;
          few = h.few;
          given_is = λ z. sym (append-nil h.ys) ∙ (sym (settles z).answered
              ∙ ap (λ zs. answers_to key step (record_at key zs) ops) (d.items z));
        };
      }

  -- both by the result of the writing
  pub leaf_runs : {s a b t : RigState} {c : Chain} {r : Reader} {w : Writer} (q : Reader)
      (v : Writer) (limit most : ℕ) (result : Result LeafChange EmFault) →
      (c.count ≡ 0 → c.blocks ≡ 0)
      → Begun s a c r w (length ops) → WritesLeaf limit most key step ops a b r q w v result
      → GivesFrame [] b t → Unmoved b t → IsWriter s w → RunsLoad s t c (length ops) w v result
  leaf_runs q v limit most (Ok change) whole d h x y i = runs_load limit most whole d h x y i
  leaf_runs q v limit most (Err e) whole d h x y i = write_stops d h x y

  pub leaf_settled : {s l a b t : RigState} {c : Chain} {r : Reader} {w : Writer} (q : Reader)
      (v : Writer) (limit most : ℕ) (result : Result LeafChange EmFault) → Sound s
      → CanSettle key s c (length ops) w → most ≡ leaf_most s.pool.shape
      → LimitsLow most key step ops s l c limit → Begun s a c r w (length ops)
      → WritesLeaf limit most key step ops a b r q w v result → GivesFrame [] b t → Unmoved b t
      → SettlesOpsTo key step s t c ops w v result
  leaf_settled q v limit most (Ok change) so can e lim d h x y =
      settled_load limit most so can e lim d h x y
  leaf_settled q v limit most (Err e) so can f lim d h x y = tt

-- what a refusal left
pub loads_of : (s t : RigState) (c : Chain) (n : ℕ) (w v : Writer)
    (result : Result LeafChange EmFault)
    (e : EmFault) → IsErrAnd result (λ m. m ≡ e) → RunsLoad s t c n w v (Err e)
    → RunsLoad s t c n w v result
loads_of s t c n w v (Ok x) e h k = absurd h
loads_of s t c n w v (Err m) e h k =
    subst (λ (f : EmFault). RunsLoad s t c n w v (Err f)) (sym h) k

-- the most records of a leaf, as they are computed
pub most_is : (shape sh : ShapeNumbers) (w b : ℕ) → sh ≡ shape → w ≡ wide_of sh → b ≡ sh.block
    → 4 * w * b ≡ leaf_most shape
most_is shape sh w b e f g =
    let i : w ≡ wide_of shape = f ∙ ap wide_of e in
    let j : b ≡ shape.block = g ∙ ap (λ (z : ShapeNumbers). z.block) e in
    let assoc = mul_assoc 4 (wide_of shape) shape.block in
    ap (λ (m : ℕ). 4 * m * b) i ∙ (ap (λ (m : ℕ). 4 * wide_of shape * m) j ∙ assoc)

-- The moves of a load, the answers' blocks among them,
pub load_moves : {s : RigState} {w : Writer} (t : RigState) (c : Chain) (v : Writer) (n : ℕ)
    (result : Result LeafChange EmFault) → Sound s → IsWriter s w
    → (OnOk result (v.blocks ≤ w.blocks + ceiling n (payload_in s))) → RunsLoad s t c n w v result
    → t.moves ≤ s.moves + load_moves_most s c n
load_moves {s} {w} t c v n (Ok x) so i l h = let k = h.spends.moves in omega arith
load_moves {s} {w} t c v n (Err e) so i l h = let k = h.halts.moves in omega arith

pub answers_fit : {s t : RigState} {key : Record → Record} {step : Option Record → Record → Step}
    {c : Chain} {ops : List Record} {w v : Writer} → Sound s → Sound t → IsWriter s w
    → payload_in t ≡ payload_in s → AnswersLoad key step s t c ops w v
    → v.blocks ≤ w.blocks + ceiling (length ops) (payload_in s)
answers_fit {s} {t} {key} {step} {c} {ops} {w} {v} so to i pt h =
    let e = writer_blocks_are t v to.shape.block_low h.wrote.is in
    let low = so.shape.block_low in
    let m = ceiling_sum (payload_in s) w.blocks (filled s w) (length h.given) (omega arith)
    (filled_most s w i) in
    let k = ceiling_more (length h.given) (length ops) (payload_in s) (omega arith) h.few in
    let n = ap (λ (k : ℕ). ceiling k (payload_in t)) h.wrote.filled_is in
    let o = ap (λ (p : ℕ). ceiling (filled s w + length h.given) p) pt in
    omega arith

-- and that it goes well if there is room.
pub load_completes : {s : RigState} (t : RigState) (c : Chain) (w v : Writer) (n : ℕ)
    (result : Result LeafChange EmFault) → Sound s → RunsLoad s t c n w v result
    → s.used + loading_room s n ≤ s.blocks → Completes s t result
load_completes t c w v n (Ok x) so h l = λ z r. refl
load_completes {s} t c w v n (Err DeviceFault) so h l = λ z r. absurd (r h.cause)
load_completes {s} t c w v n (Err (Full k)) so h l = λ z r.
    let f = h.halts.full in
    let b = h.goes.touches.blocks in
    let u = h.cause.1 in
    absurd (omega arith)
load_completes {s} t c w v n (Err (Damaged k)) so h l = λ z r.
    absurd (both_told t.device.told (h.goes.touches.told ∙ z) h.cause.0)
