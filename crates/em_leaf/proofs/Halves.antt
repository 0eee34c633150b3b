-- Both parts of what results, one after the other.
use Rattle.std.proofs.Common.{◌≡◌, ℕ, ◌+◌, ◌-◌, ◌*◌, ◌≤◌, List, [], ◌∷◌, ◌++◌, length, refl, sym, ap, ◌∙◌, arith, subst, inl, inr, ⊎_elim, Option, Some, None, Result, Ok, Err, IsErrAnd}
use Rattle.std.specs.Prelude.{option_to_list}
use Rattle.std.proofs.lemmas.List.{length-append}
use Rattle.em_record.specs.declared.record.Record.{Record}
use Rattle.em_space.specs.Ledger.{Runs, Session, Stops, both}
use Rattle.em_space.specs.Rig.{RigState}
use Rattle.em_space.specs.declared.fault.EmFault.{EmFault}
use Rattle.em_space.proofs.Lists.{distinct_apart, distinct_right}
use Rattle.em_space.proofs.Runs.{runs_as, runs_second, runs_then, runs_wider, stops_after, stops_second, stops_wider}
use Rattle.em_chain.specs.Chain.{ChainStays, chain_blocks, payload_in}
use Rattle.em_chain.specs.Counts.{ceiling}
use Rattle.em_chain.specs.Reader.{reader_items, rest_of}
use Rattle.em_chain.specs.Session.{pair_account, pair_blocks}
use Rattle.em_chain.specs.Writer.{filled, writer_blocks}
use Rattle.em_chain.specs.declared.chain.Chain.{Chain}
use Rattle.em_chain.specs.declared.reader.Reader.{Reader}
use Rattle.em_chain.specs.declared.writer.Writer.{Writer}
use Rattle.em_chain.proofs.Counts.{ceiling_more}
use Rattle.em_chain.proofs.Laws.{chain_stays}
use Rattle.em_chain.proofs.Sessions.{room_read, took_then, wrote_then}
use Rattle.em_settle.specs.declared.step.Step.{Step}
use Rattle.em_leaf.specs.Front.{SettlesOn, fresh_front, in_hand, items_left, most_left, ops_left, some_count}
use Rattle.em_leaf.specs.Leaf.{high_blocks}
use Rattle.em_leaf.specs.Passing.{CanPass, answers_most}
use Rattle.em_leaf.specs.Writing.{IsHighOf, IsHighPart, IsPart, WritesLeaf, WritesPart, WritesParts, head_of, high_account, leaf_peak, part_account, part_peak}
use Rattle.em_leaf.specs.declared.change.LeafChange.{LeafChange}
use Rattle.em_leaf.specs.declared.front.Front.{Front}
use Rattle.em_leaf.proofs.Fronts.{drop_all, moves_then}
use Rattle.em_leaf.proofs.Numbers.{ceiling_few, room_parts}
use Rattle.em_leaf.proofs.Passes.{blocks_more, none_read}

some_none : (o : Option Record) → some_count o ≡ 0 → o ≡ None
some_none None e = refl
some_none (Some x) e = absurd (omega arith)

none_by : (xs : List Record) → length xs ≤ 0 → xs ≡ []
none_by [] e = refl
none_by (x ∷ xs) e = absurd (omega arith)

-- nothing is left of a list that has no first item, and the first item of another
head_none : (xs : List Record) → head_of xs ≡ None → xs ≡ []
head_none [] e = refl
head_none (x ∷ xs) e = cc

head_some : (key : Record → Record) (xs : List Record) (x : Record) → head_of xs ≡ Some x
    → (y : Record) × (ys : List Record) × (xs ≡ y ∷ ys) × (key x ≡ key y)
head_some key [] x e = cc
head_some key (z ∷ xs) x e = (z, xs, refl, (let same : z ≡ x = cc in ap key (sym same)))

-- nothing results where nothing is left
pub left_none : (ops : List Record) (g : Front) (left : ℕ) (rest : List Record)
    → most_left g left (length ops) ≡ 0 → rest ≡ []
    → (items_left g rest ≡ []) × (ops_left g ops ≡ [])
left_none ops g left rest e n =
    let h = some_none g.hand (omega arith) in
    let a = some_none g.ahead (omega arith) in (
      ap (λ o. option_to_list o ++ (option_to_list g.ahead ++ rest)) h
          ∙ (ap (λ o. option_to_list o ++ rest) a ∙ n),
      drop_all ops g.settled (omega arith),
    )

module _ (key : Record → Record) (step : Option Record → Record → Step) (ops : List Record) where
  -- After the first part another can be written.
  pub can_more : {limit : ℕ} {s t : RigState} {r q : Reader} {w v : Writer} {f g : Front}
      {first : Option Record} {c : Chain} → CanPass s r w f (length ops)
      → WritesPart limit key step ops s t r q w v f g first c → CanPass t q v g (length ops)
  can_more {limit} {s} {t} {r} {q} {w} {v} {f} {g} {first} {c} can h =
      let low = h.runs.session.sound.shape.block_low in
      let wc = h.answered.count_is in
      let wb = blocks_more low h.took.payload_is can.pair.writer h.answered in
      let a = h.few in
      let b = h.within in
      let g1 = can.grow.count in
      let g2 = can.grow.blocks in
      record {
        pair = record {
          reader = h.took.is;
          writer = h.answered.is;
          taking = h.took.taking ∙ can.pair.taking;
          apart = λ z. distinct_apart (writer_blocks t v) (chain_blocks t (rest_of q))
              (distinct_right (chain_blocks t c) (pair_blocks t q v)
              ((h.runs.session.holds (sym h.took.told ∙ z)).distinct z));
        };
        within = h.within;
        grow = record { count = omega arith; blocks = omega arith };
      }

  -- and as many records fit
  pub room_more : {limit n : ℕ} {s t : RigState} {r q : Reader} {w v : Writer} {f g : Front}
      {first : Option Record} {c : Chain} → most_left f r.count (length ops) ≤ n
      → WritesPart limit key step ops s t r q w v f g first c
      → most_left g q.count (length ops) ≤ n
  room_more l h = let m = h.count in omega arith

  -- the low part over the writing of the high one
  low_stays : {limit : ℕ} {s t u : RigState} {r q : Reader} {w v : Writer} {f g : Front}
      {first : Option Record} {c : Chain} {js : List ℕ}
      → WritesPart limit key step ops s t r q w v f g first c → Session (pair_blocks t q v) t u js
      → ChainStays t u c
  low_stays {limit} {s} {t} {u} {r} {q} {w} {v} {f} {g} {first} {c} h b =
      chain_stays (pair_blocks t q v) t u c b.touches
      (λ z. distinct_apart (chain_blocks t c) (pair_blocks t q v)
      ((h.runs.session.holds (sym h.took.told ∙ z)).distinct z)) h.part.chain

  -- how many blocks the first part may need,
  pub first_fits : (s : RigState) (r : Reader) (w : Writer)
      → part_peak s r w fresh_front (length ops) ≤ leaf_peak s r w (length ops)
  first_fits s r w =
      let e : length ops - 0 ≡ length ops = omega arith in
      let d : 0 + 0 + (length ops - 0) ≡ length ops = omega arith in
      let same : part_peak s r w fresh_front (length ops)
      ≡ answers_most s w (length ops) + (ceiling (length ops) (payload_in s) + r.blocks + 1) =
      ap (λ (n : ℕ). answers_most s w n
      + (ceiling (0 + 0 + (length ops - 0)) (payload_in s) + r.blocks + 1)) e
      ∙ ap (λ (n : ℕ). answers_most s w (length ops) +
      (ceiling n (payload_in s) + r.blocks + 1)) d in
      omega arith

  -- and with it the second one
  pub second_fits : {limit : ℕ} {s t : RigState} {r q : Reader} {w v : Writer} {g : Front}
      {first : Option Record} {c : Chain}
      → WritesPart limit key step ops s t r q w v fresh_front g first c
      → c.blocks + part_peak t q v g (length ops) ≤ leaf_peak s r w (length ops)
  second_fits {limit} {s} {t} {r} {q} {w} {v} {g} {first} {c} h =
      let low = h.runs.session.sound.shape.block_low in
      let pt = h.took.payload_is in
      let few = h.few in
      let within = h.within in
      let count = h.count in
      let left = h.took.left_is in
      let wf = h.answered.filled_is in
      let m : ceiling (filled t v + (length ops - g.settled)) (payload_in s)
      ≤ answers_most s w (length ops) =
      ceiling_more (filled t v + (length ops - g.settled)) (filled s w + length ops) (payload_in s)
      (omega arith) (omega arith) in
      let two : answers_most t v (length ops - g.settled)
      ≡ ceiling (filled t v + (length ops - g.settled)) (payload_in s) =
      ap (λ (n : ℕ). ceiling (filled t v + (length ops - g.settled)) n) pt in
      let three : ceiling (in_hand g + (length ops - g.settled)) (payload_in t)
      ≡ ceiling (in_hand g + (length ops - g.settled)) (payload_in s) =
      ap (λ (n : ℕ). ceiling (in_hand g + (length ops - g.settled)) n) pt in
      let one : c.blocks ≡ ceiling (length h.items) (payload_in s) =
      h.part.blocks_are ∙ ap (λ (n : ℕ). ceiling (length h.items) n) pt in
      let room = room_read h.xs (length h.xs) (omega arith) h.took (omega arith) in
      let k = room_parts (length h.items) (in_hand g) (length ops) (length ops - g.settled)
      (length h.xs) q.blocks r.blocks (payload_in s) (omega arith) (omega arith) room in
      omega arith

  -- nothing is left after both
  both_left : {limit most : ℕ} {s t u : RigState} {r q k : Reader} {w v x : Writer} {f g : Front}
      {first second : Option Record} {c d : Chain} → r.count + length ops ≤ limit + most
      → WritesPart limit key step ops s t r q w v fresh_front f first c
      → WritesPart most key step ops t u q k v x f g second d → most_left g k.count (length ops) ≡ 0
  both_left {limit} {most} {s} {t} {u} {r} {q} {k} {w} {v} {x} {f} {g} l a b =
      let m = a.count in
      let n = b.count in
      ⊎_elim (λ (e : length b.items ≡ most). ⊎_elim
      (λ (h : length a.items ≡ limit). omega arith)
      (λ (h : most_left f q.count (length ops) ≡ 0). omega arith) a.ends_at.done)
      (λ (e : most_left g k.count (length ops) ≡ 0). e) b.ends_at.done

  -- a chain without a record has no block
  no_blocks : (u : RigState) (c : Chain) → 128 ≤ u.pool.shape.block → IsPart u c [] → c.blocks ≡ 0
  no_blocks u c low h =
      let e = h.blocks_are in
      let n = ceiling_few 0 (payload_in u) (omega arith) in
      omega arith

  high_by : (u : RigState) (second : Option Record) (d : Chain) (o : Option (Record × Chain))
      (items : List Record) → IsHighOf key second d o → second ≡ head_of items → IsPart u d items
      → IsHighPart key u o items
  high_by u None d o items h e i =
      let P : Option (Record × Chain) → Type 0 = λ z. IsHighPart key u z items in
      subst P (sym h) (head_none items (sym e))
  high_by u (Some y) d o items h e i =
      let P : Option (Record × Chain) → Type 0 = λ z. IsHighPart key u z items in
      subst P (sym h) (i, head_some key items y (sym e))

  runs_high : {p : ℕ} {s u : RigState} {held : List ℕ} (k : Reader) (x : Writer) (c : Chain)
      (w : Writer) (r : Reader) (second : Option Record) (d : Chain) (o : Option (Record × Chain))
      (items : List Record) → IsHighOf key second d o → second ≡ head_of items → IsPart u d items
      → Runs p held (chain_blocks u c ++ (chain_blocks u d ++ pair_blocks u k x)) (pair_account r w)
      (both (part_account c) (both (part_account d) (pair_account k x))) s u
      → Runs p held (chain_blocks u c ++ (high_blocks u o ++ pair_blocks u k x)) (pair_account r w)
      (both (part_account c) (both (high_account o) (pair_account k x))) s u
  runs_high {p} {s} {u} {held} k x c w r None d o items h e i b =
      let P : Option (Record × Chain) → Type 0 =
      λ z. Runs p held (chain_blocks u c ++ (high_blocks u z ++ pair_blocks u k x))
      (pair_account r w)
      (both (part_account c) (both (high_account z) (pair_account k x))) s u in
      let Q : List Record → Type 0 = λ xs. IsPart u d xs in
      let z = no_blocks u d b.session.sound.shape.block_low (subst Q (head_none items (sym e)) i) in
      let m = b.spends in
      subst P (sym h) (runs_as (chain_blocks u c ++ pair_blocks u k x)
      (record {
        session = b.session;
        frames = b.frames;
        spends = record {
          held = omega (arith, m.held);
          used = omega (arith, m.used);
          most = omega (arith, m.most);
          moves = omega (arith, m.moves);
          later = m.later;
          pays = m.pays;
        };
      }) (λ y. rw z refl))
  runs_high {p} {s} {u} {held} k x c w r (Some y) d o items h e i b =
      let P : Option (Record × Chain) → Type 0 =
      λ z. Runs p held (chain_blocks u c ++ (high_blocks u z ++ pair_blocks u k x))
      (pair_account r w)
      (both (part_account c) (both (high_account z) (pair_account k x))) s u in
      subst P (sym h) b

  -- Both parts were written.
  pub parts_done : {limit most : ℕ} {s t u : RigState} {r q k : Reader} {w v x : Writer}
      {f g : Front} {first second : Option Record} {c d : Chain} (high : Option (Record × Chain))
      → r.count + length ops ≤ limit + most
      → WritesPart limit key step ops s t r q w v fresh_front f first c
      → WritesPart most key step ops t u q k v x f g second d → IsHighOf key second d high
      → WritesParts limit most key step ops s u r k w x (record { low = c; high = high })
  parts_done {limit} {most} {s} {t} {u} {r} {q} {k} {w} {v} {x} {f} {g} {first} {second} {c}
      {d} high
      l a b i =
      let told = a.took.told in
      let st = low_stays a b.runs.session in
      let none = both_left l a b in
      let m = a.count in
      let n = b.count in
      let fa = a.few in
      let fb = b.few in
      let wb = b.within in
      let one = first_fits s r w in
      let two = second_fits a in
      let la = length-append a.items b.items in
      let ly = length-append a.ys b.ys in
      let lows = chain_blocks t c in
      let second_runs = runs_as (chain_blocks u c ++ (chain_blocks u d ++ pair_blocks u k x))
      (runs_second lows (part_account c) (λ z. a.runs.session.holds (sym told ∙ z)) b.runs)
      (λ z. rw (st.blocks z) refl) in
      record {
        lows = a.items;
        highs = b.items;
        xs = a.xs ++ b.xs;
        ys = a.ys ++ b.ys;
        low = record {
          chain = st.is;
          packed = λ z.
              let y = sym b.took.told ∙ z in st.packed y (a.part.packed y);
          items_are = λ z.
              let y = sym b.took.told ∙ z in st.items y ∙ a.part.items_are y;
          count_is = a.part.count_is;
          blocks_are = a.part.blocks_are
              ∙ ap (λ (p : ℕ). ceiling (length a.items) p) (sym b.took.payload_is);
        };
        high = high_by u second d high b.items i b.first_is b.part;
        runs = runs_wider (omega arith)
            (runs_high k x c w r second d high b.items i b.first_is b.part
            (runs_then a.runs second_runs));
        took = took_then a.xs b.xs a.took b.took;
        answered = wrote_then a.ys b.ys a.answered b.answered;
        few = omega arith;
        settles = λ z rises.
            let first_moves = a.moves_on z (record { rises = rises; upto = tt }) in
            let both_moves = moves_then key step ops fresh_front f g (reader_items s r)
            (reader_items t q) (reader_items u k) a.items b.items a.ys b.ys first_moves
            (b.moves_on (told ∙ z) first_moves.front) in
            let read = none_read b.took.is (b.took.told ∙ (told ∙ z)) (omega arith) in
            let e = left_none ops g k.count (reader_items u k) none read in
            let P : List Record → Type 0 = λ zs. SettlesOn key step (reader_items s r) ops zs
            (ops_left g ops) (a.items ++ b.items) (a.ys ++ b.ys) in
            let Q : List Record → Type 0 = λ zs. SettlesOn key step (reader_items s r) ops [] zs
            (a.items ++ b.items) (a.ys ++ b.ys) in
            subst Q e.1 (subst P e.0 both_moves.settles);
        count = omega arith;
        low_most = a.ends_at.most;
        high_most = b.ends_at.most;
        full = ⊎_elim (λ (h : length a.items ≡ limit). inl h)
            (λ (h : most_left f q.count (length ops) ≡ 0). inr (none_by b.items (omega arith)))
            a.ends_at.done;
        all_read = omega arith;
      }

  -- The first part couldn't be written,
  pub first_stops : {s t : RigState} (r : Reader) (w : Writer) {e : EmFault}
      → Stops (part_peak s r w fresh_front (length ops))
      (2 * part_peak s r w fresh_front (length ops) + 1) 2 (pair_blocks s r w)
      (pair_account r w) s t e
      → Stops (leaf_peak s r w (length ops)) (2 * leaf_peak s r w (length ops) + 2) 2
      (pair_blocks s r w) (pair_account r w) s t e
  first_stops {s} {t} r w {e} h =
      let l = first_fits s r w in stops_wider l (omega arith) (omega arith) h

  -- or the second one.
  pub second_stops : {limit : ℕ} {s t u : RigState} {r q : Reader} {w v : Writer} {g : Front}
      {first : Option Record} {c : Chain} {e : EmFault}
      → WritesPart limit key step ops s t r q w v fresh_front g first c
      → Stops (part_peak t q v g (length ops)) (2 * part_peak t q v g (length ops) + 1) 2
      (pair_blocks t q v) (pair_account q v) t u e
      → Stops (leaf_peak s r w (length ops)) (2 * leaf_peak s r w (length ops) + 2) 2
      (pair_blocks s r w) (pair_account r w) s u e
  second_stops {limit} {s} {t} {u} {r} {q} {w} {v} {g} {first} {c} {e} h k =
      let one = first_fits s r w in
      let two = second_fits h in
      stops_wider (omega arith) (omega arith) (omega arith)
      (stops_after h.runs (stops_second (chain_blocks t c) (part_account c) k))

-- what a refusal left
pub leaf_of : (limit most : ℕ) (s t : RigState) (r q : Reader) (w v : Writer)
    (key : Record → Record)
    (step : Option Record → Record → Step) (ops : List Record) (result : Result LeafChange EmFault)
    (e : EmFault) → IsErrAnd result (λ n. n ≡ e)
    → WritesLeaf limit most key step ops s t r q w v (Err e)
    → WritesLeaf limit most key step ops s t r q w v result
leaf_of limit most s t r q w v key step ops (Ok x) e h k = absurd h
leaf_of limit most s t r q w v key step ops (Err n) e h k =
    subst (λ (m : EmFault). WritesLeaf limit most key step ops s t r q w v (Err m)) (sym h) k
