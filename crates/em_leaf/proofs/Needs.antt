-- Where a load stops since all blocks are in use: what results and the answers need more.
use Rattle.std.proofs.Common.{◌≡◌, ℕ, ◌+◌, ◌-◌, ◌*◌, ◌^◌, ◌<◌, ◌≤◌, ◌⊎◌, min, List, [], ◌∷◌, length, refl, sym, ap, ◌∙◌, arith, subst, IsTrue, true, inl, inr, ⊎_elim, Option, Some, None, Result, Ok, Err, IsErrAnd}
use Rattle.std.specs.Prelude.{option_to_list, IfErr}
use Rattle.std.proofs.lemmas.List.{length-append}
use Rattle.em_record.specs.Shape.{ShapeNumbers, payload_of}
use Rattle.em_record.specs.declared.record.Record.{Record}
use Rattle.em_space.specs.Ledger.{Stops}
use Rattle.em_space.specs.Rig.{RigState, Sound, DeviceCause}
use Rattle.em_space.specs.declared.fault.EmFault.{EmFault}
use Rattle.em_space.specs.declared.fault.EmFault.TheVariants.{DeviceFault, Full, Damaged}
use Rattle.em_space.proofs.Ledgers.{full_by, full_never}
use Rattle.em_space.proofs.Steps.{device_block_cause}
use Rattle.em_chain.specs.Chain.{chain_items, payload_in}
use Rattle.em_chain.specs.Counts.{ceiling}
use Rattle.em_chain.specs.Effects.{LendsFrame, Unmoved}
use Rattle.em_chain.specs.Reader.{IsReader, reader_items}
use Rattle.em_chain.specs.Session.{Wrote, one_more, writer_account}
use Rattle.em_chain.specs.Writer.{IsWriter, filled, writer_blocks}
use Rattle.em_chain.specs.Writes.{Begins}
use Rattle.em_chain.specs.declared.chain.Chain.{Chain}
use Rattle.em_chain.specs.declared.reader.Reader.{Reader}
use Rattle.em_chain.specs.declared.writer.Writer.{Writer}
use Rattle.em_chain.proofs.Counts.{ceiling_more, lt_or_le, packed_blocks, writer_blocks_are}
use Rattle.em_chain.proofs.Keeps.{payload_kept}
use Rattle.em_chain.proofs.Readers.{length_items}
use Rattle.em_chain.proofs.Sessions.{wrote_stays}
use Rattle.em_settle.specs.Keys.{record_at}
use Rattle.em_settle.specs.Lists.{list_with_ops}
use Rattle.em_settle.specs.Rising.{RisesByKey}
use Rattle.em_settle.specs.States.{answers_to}
use Rattle.em_settle.specs.declared.step.Step.{Step}
use Rattle.em_leaf.specs.Counting.{LimitsLow, counting_account, low_limit_of}
use Rattle.em_leaf.specs.Front.{IsFront, MovesOn, fresh_front, most_left, ops_left}
use Rattle.em_leaf.specs.Effects.{AnswersLoad, SettlesLeaf}
use Rattle.em_leaf.specs.Leaf.{AreLeafChains, IsHighChain, high_count, high_items, leaf_most, low_count}
use Rattle.em_leaf.specs.Needs.{LacksAnswers, LacksBlocks, LacksItems, LacksLeaf, LacksPart, answers_due, items_due, parts_blocks}
use Rattle.em_leaf.specs.Passing.{CanPass, GivesAnswer, Passing, answers_most}
use Rattle.em_leaf.specs.Settling.{CanSettle}
use Rattle.em_leaf.specs.Steps.{StopsConsuming, Stepped}
use Rattle.em_leaf.specs.Writing.{CanWriteItems, Writing, WritesLeaf, WritesPart}
use Rattle.em_leaf.specs.declared.change.LeafChange.{LeafChange}
use Rattle.em_leaf.specs.declared.front.Finding.TheVariants.{Answer}
use Rattle.em_leaf.specs.declared.front.Front.{Front}
use Rattle.em_leaf.proofs.Finishing.{lent_by}
use Rattle.em_leaf.proofs.Halves.{left_none}
use Rattle.em_leaf.proofs.Loading.{Begun, load_some}
use Rattle.em_leaf.proofs.Numbers.{ceiling_few}
use Rattle.em_leaf.proofs.Passes.{none_read, step_reads}
use Rattle.em_leaf.proofs.Settling.{low_is}
use Rattle.em_leaf.proofs.Written.{one_same}

-- what is so of a fault is so of the result that hands it on
pub err_by : {A : Type 0} (P : EmFault → Type 0) (result : Result A EmFault) (e : EmFault)
    → IsErrAnd result (λ m. m ≡ e) → P e → IfErr result P
err_by P (Ok x) e h k = absurd h
err_by P (Err m) e h k = subst P (sym h) k

-- What is so anyhow is so where a call gave up.
pub always : {A E : Type 0} (P : Type 0) (result : Result A E) → P → IfErr result (λ _. P)
always P (Ok x) h = tt
always P (Err e) h = h

-- no more blocks for no more records
plain_fit : (a b p q : ℕ) → 0 < q → p ≡ q → a ≤ b → ceiling a p ≤ ceiling b q
plain_fit a b p q pos e l = let c = ceiling_more a b q pos l in rw e c

-- A list of more records: with so many to come it has no more blocks than with as many in all.
fits_more : (m n : ℕ) {s t : RigState} {w v : Writer} {ys : List Record}
    → 128 ≤ t.pool.shape.block → payload_in t ≡ payload_in s → Wrote s t w v ys
    → length ys + m ≤ n
    → ceiling (filled t v + m) (payload_in t) ≤ ceiling (filled s w + n) (payload_in s)
fits_more m n {s} {t} {w} {v} {ys} low pt h l =
    let f = h.filled_is in
    plain_fit (filled t v + m) (filled s w + n) (payload_in t) (payload_in s) (omega arith) pt
    (omega arith)

-- So are its blocks.
blocks_fit : (n : ℕ) {s t : RigState} {w v : Writer} {ys : List Record}
    → 128 ≤ t.pool.shape.block → payload_in t ≡ payload_in s → Wrote s t w v ys → length ys ≤ n
    → v.blocks ≤ ceiling (filled s w + n) (payload_in s)
blocks_fit n {s} {t} {w} {v} {ys} low pt h l =
    let b = writer_blocks_are t v low h.is in
    let f = h.filled_is in
    let d = plain_fit (filled t v) (filled s w + n) (payload_in t) (payload_in s) (omega arith) pt
    (omega arith) in
    omega arith

-- the blocks of a list are no more than with some records more
pub own_fit : (s : RigState) (w : Writer) (n : ℕ) → 128 ≤ s.pool.shape.block → IsWriter s w
    → w.blocks ≤ ceiling (filled s w + n) (payload_in s)
own_fit s w n low i =
    let b = writer_blocks_are s w low i in
    let c = ceiling_more (filled s w) (filled s w + n) (payload_in s) (omega arith) (omega arith) in
    omega arith

-- The first part has as many records as it may, and the second one the others.
parts_are : (l h n limit : ℕ) → n ≡ l + h → l ≤ limit → (l ≡ limit) ⊎ (h ≡ 0)
    → (l ≡ min limit n) × (h ≡ n - min limit n)
parts_are l h n limit e few full = ⊎_elim
    (λ (x : l ≡ limit). (omega arith, omega arith))
    (λ (x : h ≡ 0). (omega arith, omega arith)) full

-- So are their blocks.
second_fit : (l h n limit most blocks p q : ℕ) → 0 < q → p ≡ q → blocks ≡ ceiling l p
    → l ≡ min limit n → h ≡ n - min limit n
    → blocks + ceiling (min most h) p
    ≤ ceiling (min limit n) q + ceiling (n - min limit n) q
second_fit l h n limit most blocks p q pos e b le he =
    let x : ceiling l p ≡ ceiling (min limit n) q = ap (λ k. ceiling l k) e
    ∙ ap (λ k. ceiling k q) le in
    let y = plain_fit (min most h) (n - min limit n) p q pos e (omega arith) in
    omega arith

parts_fit_to : (m n limit low p q : ℕ) → m ≡ n → min limit n ≡ low → p ≡ q
    → ceiling (min limit m) p + ceiling (m - min limit m) p ≡ ceiling low q + ceiling (n - low) q
parts_fit_to m n limit low p q e l f = rw (e, l, f) refl

-- how many records the low part has, by its limit
low_of : (n limit most : ℕ) → limit ≡ low_limit_of most n → 1 ≤ most
    → min limit n ≡ low_count most n
low_of n limit most e some = ⊎_elim
    (λ (x : limit < n). low_is n (min limit n) (n - min limit n) limit most e some (omega arith)
    (omega arith) (inl (omega arith)))
    (λ (x : n ≤ limit). low_is n (min limit n) (n - min limit n) limit most e some (omega arith)
    (omega arith) (inr (omega arith)))
    (lt_or_le limit n)

module _ (key : Record → Record) (step : Option Record → Record → Step) (ops : List Record) where
  -- The answers and the records that are due: those that came, and those that still are.
  answers_by : (f g : Front) (rest left items ys : List Record)
      → MovesOn key step ops f g rest left items ys
      → length (answers_due key step ops f rest)
      ≡ length ys + length (answers_due key step ops g left)
  answers_by f g rest left items ys m =
      ap length m.settles.answered ∙ length-append ys (answers_due key step ops g left)

  items_by : (f g : Front) (rest left items ys : List Record)
      → MovesOn key step ops f g rest left items ys
      → length (items_due key step ops f rest)
      ≡ length items + length (items_due key step ops g left)
  items_by f g rest left items ys m =
      ap length m.settles.list ∙ length-append items (items_due key step ops g left)

  -- A step of a pass gave up, which asks for no block,
  pub lacks_step : {p : ℕ} {s t u : RigState} {r q : Reader} {w v : Writer} {f g : Front}
      {e : EmFault} → r.taking ≡ true → Passing p key step ops s t r q w v f g []
      → StopsConsuming t u q e → LacksAnswers key step ops s u r w f e
  lacks_step {p} {s} {t} {u} {r} {q} {w} {v} {f} {g} {e} tk h d = λ z i.
      let n = length (answers_due key step ops f (reader_items s r)) in
      let m = answers_by f g (reader_items s r) (reader_items t q) [] h.ys (h.moves_on z i) in
      let low = h.pairs.runs.session.sound.shape.block_low in
      let b = blocks_fit n low h.pairs.took.payload_is h.pairs.wrote (omega arith) in
      let used = h.pairs.runs.spends.used in
      let fewer = h.pairs.took.fewer in
      full_by e (u.used + q.blocks < t.used + q.blocks)
      (u.used + w.blocks < s.used + answers_most s w n) (λ x. omega arith)
      (d.taking (h.pairs.took.taking ∙ tk)).halts.full

  -- or an answer had no place.
  pub lacks_answer : {p : ℕ} {s t u y : RigState} {r q k : Reader} {w v : Writer}
      {f g j : Front} (x : Writer) (o : Option Record) {e : EmFault} → r.taking ≡ true
      → 0 < length (option_to_list o)
      → Passing p key step ops s t r q w v f g [] → Stepped key step ops t u q k g j (Answer o)
      → GivesAnswer {T = Unit {0}} u y v x o (Err e) → LacksAnswers key step ops s y r w f e
  lacks_answer {p} {s} {t} {u} {y} {r} {q} {k} {w} {v} {f} {g} {j} x o {e} tk some h d m = λ z i.
      let n = length (answers_due key step ops f (reader_items s r)) in
      let told = h.pairs.took.told in
      let a = h.moves_on z i in
      let na = answers_by f g (reader_items s r) (reader_items t q) [] h.ys a in
      let nb = answers_by g j (reader_items t q) (reader_items u k) [] (option_to_list o)
      (d.moves_on (told ∙ z) a.front) in
      let c = step_reads key step ops tk h d in
      let low = c.runs.session.sound.shape.block_low in
      let pt : payload_in u ≡ payload_in s = c.took.payload_is ∙ h.pairs.took.payload_is in
      let f1 = c.wrote.filled_is in
      let f2 = h.pairs.wrote.filled_is in
      let one = plain_fit (filled u v + 1) (filled s w + n) (payload_in u) (payload_in s)
      (omega arith) pt (omega arith) in
      let used = h.pairs.runs.spends.used in
      let then = c.runs.spends.used in
      let fewer = h.pairs.took.fewer in
      let less = c.took.fewer in
      full_by e (y.used + v.blocks < u.used + one_more u v)
      (y.used + w.blocks < s.used + answers_most s w n) (λ b. omega arith) m.halts.full

  -- The search for a record gave up, beside a list of records,
  pub lacks_found : {s : RigState} {r : Reader} {w out : Writer} {f : Front} (t : RigState)
      (e : EmFault) → Sound s → CanWriteItems s r w out f (length ops) → LacksAnswers key step ops s t r w f e
      → LacksItems 1 key step ops s t r w out f e
  lacks_found {s} {r} {w} {out} {f} t e so c h = λ z i.
      let n = answers_most s w (length (answers_due key step ops f (reader_items s r))) in
      let l = min 1 (length (items_due key step ops f (reader_items s r))) in
      let b = own_fit s out l so.shape.block_low c.out_is in
      full_by e (t.used + w.blocks < s.used + n)
      (t.used + (out.blocks + w.blocks) < s.used + (n + ceiling (filled s out + l) (payload_in s)))
      (λ x. omega arith) (h z i)

  -- or the record that was found had no place.
  pub lacks_append : {p : ℕ} {s t u : RigState} {r q : Reader} {w v out : Writer} {f g : Front}
      {x : Record} {e : EmFault} → CanWriteItems s r w out f (length ops)
      → Passing p key step ops s t r q w v f g (x ∷ [])
      → Stops (one_more t out) (2 * one_more t out) (min out.blocks 1) (writer_blocks t out)
      (writer_account out) t u e
      → LacksItems 1 key step ops s u r w out f e
  lacks_append {p} {s} {t} {u} {r} {q} {w} {v} {out} {f} {g} {x} {e} c h k = λ z i.
      let n = length (answers_due key step ops f (reader_items s r)) in
      let l = length (items_due key step ops f (reader_items s r)) in
      let m = h.moves_on z i in
      let na = answers_by f g (reader_items s r) (reader_items t q) (x ∷ []) h.ys m in
      let nb = items_by f g (reader_items s r) (reader_items t q) (x ∷ []) h.ys m in
      let low = h.pairs.runs.session.sound.shape.block_low in
      let pt = h.pairs.took.payload_is in
      let b = blocks_fit n low pt h.pairs.wrote (omega arith) in
      let same = one_same key step ops c h in
      let d = ceiling_more (filled s out + 1) (filled s out + min 1 l) (payload_in s) (omega arith)
      (omega arith) in
      let used = h.pairs.runs.spends.used in
      let fewer = h.pairs.took.fewer in
      full_by e (u.used + out.blocks < t.used + one_more t out)
      (u.used + (out.blocks + w.blocks)
      < s.used + (answers_most s w n + ceiling (filled s out + min 1 l) (payload_in s)))
      (λ y. omega arith) k.halts.full

  -- Some records were written before one had no place.
  pub lacks_records : {p limit : ℕ} {s t : RigState} {r q : Reader} {w v out new : Writer}
      {f g : Front} (u : RigState) (e : EmFault) (items : List Record) → length items < limit
      → Writing p key step ops s t r q w v out new f g items
      → LacksItems 1 key step ops t u q v new g e
      → LacksItems limit key step ops s u r w out f e
  lacks_records {p} {limit} {s} {t} {r} {q} {w} {v} {out} {new} {f} {g} u e items some h k =
      λ z i.
      let n = length (answers_due key step ops f (reader_items s r)) in
      let l = length (items_due key step ops f (reader_items s r)) in
      let a = length (answers_due key step ops g (reader_items t q)) in
      let b = min 1 (length (items_due key step ops g (reader_items t q))) in
      let m = h.moves_on z i in
      let na = answers_by f g (reader_items s r) (reader_items t q) items h.ys m in
      let nb = items_by f g (reader_items s r) (reader_items t q) items h.ys m in
      let low = h.runs.session.sound.shape.block_low in
      let pt = h.took.payload_is in
      let x = fits_more a n low pt h.answered (omega arith) in
      let y = fits_more b (min limit l) low pt h.wrote (omega arith) in
      let used = h.runs.spends.used in
      let fewer = h.took.fewer in
      full_by e (u.used + (new.blocks + v.blocks)
      < t.used + (answers_most t v a + ceiling (filled t new + b) (payload_in t)))
      (u.used + (out.blocks + w.blocks)
      < s.used + (answers_most s w n + ceiling (filled s out + min limit l) (payload_in s)))
      (λ j. omega arith) (k (h.took.told ∙ z) m.front)

  -- A list was begun, records were written to it, and it was abandoned.
  pub lacks_part : {s a b t : RigState} {r : Reader} {w out : Writer} {f : Front} (limit : ℕ)
      (e : EmFault) → CanPass s r w f (length ops) → LendsFrame s a → Unmoved s a → Begins a out
      → most_left f r.count (length ops) ≤ 2 ^ 56 → Unmoved b t
      → LacksItems limit key step ops a b r w out f e → LacksPart limit key step ops s t r w f e
  lacks_part {s} {a} {b} {t} {r} {w} {out} {f} limit e c l u n room y h = λ z i.
      let d = lent_by c l u n room in
      let told = l.touches.told in
      let same = d.reader.items z in
      let P : List Record → Type 0 = λ zs. IsFront key ops f zs in
      let m = length (answers_due key step ops f (reader_items s r)) in
      let k = length (items_due key step ops f (reader_items s r)) in
      let ma = length (answers_due key step ops f (reader_items a r)) in
      let ka = length (items_due key step ops f (reader_items a r)) in
      let me : ma ≡ m = ap (λ zs. length (answers_due key step ops f zs)) same in
      let ke : ka ≡ k = ap (λ zs. length (items_due key step ops f zs)) same in
      let low = l.sound.shape.block_low in
      let pa : payload_in a ≡ payload_in s = payload_kept [] s a l.touches in
      let x = fits_more ma m low pa (wrote_stays told d.writer) (omega arith) in
      let none = n.filled_is in
      let o = plain_fit (filled a out + min limit ka) (min limit k) (payload_in a) (payload_in s)
      (omega arith) pa (omega arith) in
      let nb = n.blocks in
      let used = u.same.used in
      let still = y.same.used in
      full_by e (b.used + (out.blocks + w.blocks)
      < a.used + (answers_most a w ma + ceiling (filled a out + min limit ka) (payload_in a)))
      (t.used + w.blocks
      < s.used + (answers_most s w m + ceiling (min limit k) (payload_in s)))
      (λ j. omega arith) (h (told ∙ z) (subst P (sym same) i))

  -- The list couldn't be finished, which asks for no block.
  pub lacks_finish : {b t : RigState} {e : EmFault} (limit : ℕ) (s : RigState) (r : Reader)
      (w : Writer) (f : Front) → DeviceCause b t e → LacksPart limit key step ops s t r w f e
  lacks_finish {b} {t} {e} limit s r w f c = λ z i. full_never b t e
      (t.used + w.blocks
      < s.used + (answers_most s w (length (answers_due key step ops f (reader_items s r)))
      + ceiling (min limit (length (items_due key step ops f (reader_items s r)))) (payload_in s)))
      (device_block_cause b t e c)

  -- The first part had no place,
  pub lacks_first : (limit : ℕ) (s t : RigState) (r : Reader) (w : Writer) (e : EmFault)
      → LacksPart limit key step ops s t r w fresh_front e → LacksLeaf limit key step ops s t r w e
  lacks_first limit s t r w e h = λ z rises.
      let m = answers_most s w (length (answers_to key step (record_at key (reader_items s r)) ops)) in
      let n = length (list_with_ops key step (reader_items s r) ops) in
      full_by e (t.used + w.blocks < s.used + (m + ceiling (min limit n) (payload_in s)))
      (t.used + w.blocks
      < s.used + (m + (ceiling (min limit n) (payload_in s)
      + ceiling (n - min limit n) (payload_in s))))
      (λ x. omega arith) (h z (record { rises = rises; upto = tt }))

  -- nothing results of nothing that is left
  none_due : {s : RigState} {r : Reader} (g : Front) → IsReader s r → IsTrue s.device.told
      → most_left g r.count (length ops) ≡ 0
      → length (items_due key step ops g (reader_items s r)) ≡ 0
  none_due {s} {r} g i z e =
      let h = left_none ops g r.count (reader_items s r) e (none_read i z (omega arith)) in
      ap (λ zs. length (list_with_ops key step zs (ops_left g ops))) h.0
      ∙ ap (λ zs. length (list_with_ops key step [] zs)) h.1

  -- or the second one.
  pub lacks_second : {limit : ℕ} {s t : RigState} {r q : Reader} {w v : Writer} {g : Front}
      {first : Option Record} {c : Chain} (most : ℕ) (u : RigState) (e : EmFault)
      → WritesPart limit key step ops s t r q w v fresh_front g first c
      → LacksPart most key step ops t u q v g e → LacksLeaf limit key step ops s u r w e
  lacks_second {limit} {s} {t} {r} {q} {w} {v} {g} {first} {c} most u e h k = λ z rises.
      let m = length (answers_to key step (record_at key (reader_items s r)) ops) in
      let n = length (list_with_ops key step (reader_items s r) ops) in
      let mt = length (answers_due key step ops g (reader_items t q)) in
      let nt = length (items_due key step ops g (reader_items t q)) in
      let b = h.moves_on z (record { rises = rises; upto = tt }) in
      let na : m ≡ length h.ys + mt = answers_by fresh_front g (reader_items s r) (reader_items t q)
      h.items h.ys b in
      let nb : n ≡ length h.items + nt = items_by fresh_front g (reader_items s r)
      (reader_items t q) h.items h.ys b in
      let low = h.runs.session.sound.shape.block_low in
      let pt = h.took.payload_is in
      let x = fits_more mt m low pt h.answered (omega arith) in
      let l = parts_are (length h.items) nt n limit nb h.ends_at.most
      (⊎_elim (λ (y : length h.items ≡ limit). inl y)
      (λ (y : most_left g q.count (length ops) ≡ 0).
      inr (none_due g h.took.is (h.took.told ∙ z) y)) h.ends_at.done) in
      let y = second_fit (length h.items) nt n limit most c.blocks (payload_in t) (payload_in s)
      (omega arith) pt h.part.blocks_are l.0 l.1 in
      let used = h.runs.spends.used in
      let fewer = h.took.fewer in
      full_by e (u.used + v.blocks < t.used + (answers_most t v mt
      + ceiling (min most nt) (payload_in t)))
      (u.used + w.blocks
      < s.used + (answers_most s w m + (ceiling (min limit n) (payload_in s)
      + ceiling (n - min limit n) (payload_in s))))
      (λ j. omega arith) (k (h.took.told ∙ z) b.front)

  -- The count gave up, which asks for no block,
  pub lacks_count : {s t : RigState} (c : Chain) (w : Writer) (e : EmFault) → Sound s
      → Stops 0 0 0 [] (counting_account c) s t e → LacksBlocks key step s c ops w e
  lacks_count c w DeviceFault so h = tt
  lacks_count {s} {t} c w (Full k) so h =
      let u = h.cause.1 in
      let b = h.goes.touches.blocks in
      let m = so.numbers.used_most in
      let n = so.numbers.most_high in
      let f = h.halts.full in
      absurd (omega arith)
  lacks_count c w (Damaged k) so h = tt

  -- or the writing.
  pub lacks_leaf : {s l a : RigState} {c : Chain} {r : Reader} {w : Writer} (b : RigState)
      (limit most : ℕ) (q : Reader) (v : Writer) (result : Result LeafChange EmFault) → Sound s
      → CanSettle key s c (length ops) w → most ≡ leaf_most s.pool.shape
      → LimitsLow most key step ops s l c limit → Begun s a c r w (length ops)
      → WritesLeaf limit most key step ops a b r q w v result
      → IfErr result (LacksLeaf limit key step ops a b r w)
      → IfErr result (LacksBlocks key step s c ops w)
  lacks_leaf b limit most q v (Ok x) so can ms lim d h k = tt
  lacks_leaf b limit most q v (Err DeviceFault) so can ms lim d h k = tt
  lacks_leaf b limit most q v (Err (Damaged j)) so can ms lim d h k = tt
  lacks_leaf {s} {l} {a} {c} {r} {w} b limit most q v (Err (Full j)) so can ms lim d h k = λ z.
      let rises = can.rises z in
      let same = d.items z in
      let P : List Record → Type 0 = RisesByKey key in
      let m = length (answers_to key step (record_at key (chain_items s c)) ops) in
      let n = length (list_with_ops key step (chain_items s c) ops) in
      let ma = length (answers_to key step (record_at key (reader_items a r)) ops) in
      let na = length (list_with_ops key step (reader_items a r) ops) in
      let me : ma ≡ m = ap (λ zs. length (answers_to key step (record_at key zs) ops)) same in
      let ne : na ≡ n = ap (λ zs. length (list_with_ops key step zs ops)) same in
      let some = load_some s.pool.shape so.shape in
      let ex = lim.exact z rises in
      let lo = low_of n limit most ex (omega arith) in
      let le : min limit n ≡ low_count (leaf_most s.pool.shape) n
      = lo ∙ ap (λ p. low_count p n) ms in
      let low = so.shape.block_low in
      let pa = d.payload_is in
      let x = fits_more ma m (rw d.frames.shape low) pa d.answered (omega arith) in
      let y = parts_fit_to na n limit (low_count (leaf_most s.pool.shape) n) (payload_in a)
      (payload_in s) ne le pa in
      let u = h.cause.1 in
      let ab = d.session.touches.blocks in
      let bb = h.goes.touches.blocks in
      let used = d.used in
      let f = k (d.told ∙ z) (subst P (sym same) rises) in
      omega arith

-- the same of the operations that a load has
pub needs_of : (key : Record → Record) (step : Option Record → Record → Step) (s : RigState)
    (c : Chain) (w : Writer) (ops all : List Record) (result : Result LeafChange EmFault)
    → ops ≡ all → IfErr result (LacksBlocks key step s c ops w)
    → IfErr result (LacksBlocks key step s c all w)
needs_of key step s c w ops all result e h =
    let P : List Record → Type 0 = λ zs. IfErr result (LacksBlocks key step s c zs w) in subst P e h

-- the blocks of a high part with this many records
high_fit : (t : RigState) (o : Option (Record × Chain)) → Sound t → IsTrue t.device.told
    → IsHighChain t o → high_count o ≡ ceiling (length (high_items t o)) (payload_in t)
high_fit t None so z h =
    let low = so.shape.block_low in
    let c = ceiling_few 0 (payload_in t) (omega arith) in
    omega arith
high_fit t (Some p) so z h =
    packed_blocks t p.1 so.shape.block_low h.chain z (h.packed z)
    ∙ ap (λ (n : ℕ). ceiling n (payload_in t)) (sym (length_items t p.1 h.chain z))

sum_fit : (a b l h n low p q : ℕ) → a ≡ ceiling l p → b ≡ ceiling h p → p ≡ q → l ≡ low
    → n ≡ l + h → a + b ≡ ceiling low q + ceiling (n - low) q
sum_fit a b l h n low p q x y e f g =
    let k : h ≡ n - low = omega arith in
    let u = x ∙ (ap (λ m. ceiling m p) f ∙ ap (λ m. ceiling low m) e) in
    let v = y ∙ (ap (λ m. ceiling m p) k ∙ ap (λ m. ceiling (n - low) m) e) in
    omega (arith, u, v)

-- The parts that a load leaves have as many blocks as what results needs,
pub parts_fit : {key : Record → Record} {step : Option Record → Record → Step} {s t : RigState}
    {c : Chain} {ops : List Record} {change : LeafChange} → Sound t → IsTrue t.device.told
    → t.pool.shape ≡ s.pool.shape → SettlesLeaf key step s t c ops change
    → AreLeafChains t change
    → change.low.blocks + high_count change.high
    ≡ parts_blocks s (length (list_with_ops key step (chain_items s c) ops))
parts_fit {key} {step} {s} {t} {c} {ops} {change} so z e h a =
    let n = length (list_with_ops key step (chain_items s c) ops) in
    let count = length_items t change.low a.low.chain z in
    let l = packed_blocks t change.low so.shape.block_low a.low.chain z (a.low.packed z)
    ∙ ap (λ (k : ℕ). ceiling k (payload_in t)) (sym count) in
    let sum = length-append (chain_items t change.low) (high_items t change.high) in
    let all = ap length h.items in
    sum_fit change.low.blocks (high_count change.high) (length (chain_items t change.low))
    (length (high_items t change.high)) n (low_count (leaf_most s.pool.shape) n) (payload_in t)
    (payload_in s) l (high_fit t change.high so z a.high) (ap payload_of e)
    (h.low_len ∙ ap (λ (sh : ShapeNumbers). low_count (leaf_most sh) n) e) (omega arith)

-- and the answers' writer no more than these need.
pub given_fit : {key : Record → Record} {step : Option Record → Record → Step} {s t : RigState}
    {c : Chain} {ops : List Record} {w v : Writer} → Sound t → IsTrue s.device.told
    → t.pool.shape ≡ s.pool.shape → AnswersLoad key step s t c ops w v
    → v.blocks ≤ answers_most s w
    (length (answers_to key step (record_at key (chain_items s c)) ops))
given_fit {key} {step} {s} {t} {c} {ops} {w} {v} so z e h =
    let n = length (answers_to key step (record_at key (chain_items s c)) ops) in
    let l = ap length (h.given_is z) in
    blocks_fit n so.shape.block_low (ap payload_of e) h.wrote (omega arith)
