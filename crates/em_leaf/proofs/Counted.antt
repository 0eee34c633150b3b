-- How many records result of a load, and how many of them the low part may take.
use Rattle.std.proofs.Common.{◌≡◌, ℕ, ◌+◌, ◌-◌, ◌/◌, ◌<◌, ◌≤◌, List, [], ◌∷◌, length, refl, sym, ap, ◌∙◌, arith, subst, IsTrue, true, false, ⊎_elim, Option, Some, None, Result, Ok, Err, IsErrAnd}
use Rattle.std.specs.Prelude.{nat_le, option_to_list}
use Rattle.std.proofs.lemmas.Bool.{cases_Bool, cond-true, cond-false, leb-true, leb-false}
use Rattle.std.proofs.lemmas.List.{length-append}
use Rattle.em_record.specs.declared.record.Record.{Record}
use Rattle.em_record.specs.Order.{is_below}
use Rattle.em_space.specs.Ledger.{Runs, Stops}
use Rattle.em_space.specs.Rig.{RigState, Sound}
use Rattle.em_space.specs.declared.fault.EmFault.{EmFault}
use Rattle.em_space.proofs.Paying.{pays_kept}
use Rattle.em_space.proofs.Runs.{runs_none, runs_then, runs_wider, stops_after, stops_wider}
use Rattle.em_space.proofs.Steps.{cause_after, touches_then}
use Rattle.em_space.proofs.Within.{within_none}
use Rattle.em_chain.specs.Chain.{IsChain, chain_items}
use Rattle.em_chain.specs.Effects.{GivesFrame, LendsFrame, Unmoved}
use Rattle.em_chain.specs.Reader.{IsReader, reader_items}
use Rattle.em_chain.specs.Reads.{Opens}
use Rattle.em_chain.specs.Session.{over_account}
use Rattle.em_chain.specs.declared.chain.Chain.{Chain}
use Rattle.em_chain.specs.declared.reader.Reader.{Reader}
use Rattle.em_chain.proofs.Keeps.{lent_given, lent_same}
use Rattle.em_chain.proofs.Readers.{length_items}
use Rattle.em_chain.proofs.Writings.{cause_still, halts_between}
use Rattle.em_settle.specs.Keys.{has_key}
use Rattle.em_settle.specs.Lists.{list_with_op, list_with_ops}
use Rattle.em_settle.specs.Rising.{RisesByKey}
use Rattle.em_settle.specs.declared.step.Step.{Step}
use Rattle.em_leaf.specs.Counting.{CountsItems, CountsItemsTo, LimitsLow, counted_account, counting_account, low_limit_of}
use Rattle.em_leaf.specs.Front.{IsFront, finding_items, fresh_front, items_left, most_left, ops_left}
use Rattle.em_leaf.specs.Steps.{StopsConsuming, Stepped}
use Rattle.em_leaf.specs.declared.front.Finding.{Finding}
use Rattle.em_leaf.specs.declared.front.Finding.TheVariants.{End}
use Rattle.em_leaf.specs.declared.front.Front.{Front}
use Rattle.em_leaf.proofs.Halves.{left_none}
use Rattle.em_leaf.proofs.Passes.{holds_none, none_read}

-- no more than may stand in the low part
pub limit_low : (most n : ℕ) → n ≤ most → low_limit_of most n ≡ most
limit_low most n l = ⊎_elim (λ (t : nat_le n most ≡ true). cond-true _ _ _ t)
    (λ (f : nat_le n most ≡ false). absurd (let m = leb-false n most f in omega arith))
    (cases_Bool (nat_le n most))

-- more than that
pub limit_more : (most n : ℕ) → most < n → low_limit_of most n ≡ n - n / 2
limit_more most n l = ⊎_elim
    (λ (t : nat_le n most ≡ true). absurd (let m = leb-true n most t in omega arith))
    (λ (f : nat_le n most ≡ false). cond-false _ _ _ f)
    (cases_Bool (nat_le n most))

option_few : (o : Option Record) → length (option_to_list o) ≤ 1
option_few None = omega arith
option_few (Some x) = omega arith

module _ (key : Record → Record) (step : Option Record → Record → Step) where
  -- an operation leaves one record more at most,
  length_one : (xs : List Record) (op : Record)
      → length (list_with_op key step xs op) ≤ length xs + 1
  length_one [] op = let n = option_few (step None op).stored in omega arith
  length_one (x ∷ xs) op =
      let P : List Record → Type 0 = λ zs. length zs ≤ length (x ∷ xs) + 1 in ⊎_elim
      (λ (t : is_below (key x) (key op) ≡ true).
      subst P (sym (cond-true _ _ _ t)) (let n = length_one xs op in omega arith))
      (λ (f : is_below (key x) (key op) ≡ false).
      subst P (sym (cond-false _ _ _ f)) (⊎_elim
      (λ (t : has_key key (key op) x ≡ true). subst P (sym (cond-true _ _ _ t))
      (let n = option_few (step (Some x) op).stored in
      let l = length-append (option_to_list (step (Some x) op).stored) xs in omega arith))
      (λ (g : has_key key (key op) x ≡ false). subst P (sym (cond-false _ _ _ g))
      (let n = option_few (step None op).stored in
      let l = length-append (option_to_list (step None op).stored) (x ∷ xs) in omega arith))
      (cases_Bool (has_key key (key op) x))))
      (cases_Bool (is_below (key x) (key op)))

  -- and operations as many as they are.
  pub length_after : (xs ops : List Record)
      → length (list_with_ops key step xs ops) ≤ length xs + length ops
  length_after xs [] = omega arith
  length_after xs (op ∷ ops) =
      let n = length_after (list_with_op key step xs op) ops in
      let m = length_one xs op in omega arith

  module _ (ops : List Record) where
    -- So many records resulted up to this front.
    pub record Counting (s t : RigState) (r q : Reader) (f : Front) (n : ℕ) : Type 0 where
      pub runs : Runs 0 [] [] (over_account r) (over_account q) s t
      pub told : t.device.told ≡ s.device.told
      pub is : IsReader t q
      pub over : q.taking ≡ false
      pub count : n + most_left f q.count (length ops) ≤ r.count + length ops
      pub within : f.settled ≤ length ops
      pub front : IsTrue s.device.told → RisesByKey key (reader_items s r)
          → IsFront key ops f (reader_items t q)
      pub length_is : IsTrue s.device.told → RisesByKey key (reader_items s r)
          → length (list_with_ops key step (reader_items s r) ops)
          ≡ n + length (list_with_ops key step (items_left f (reader_items t q)) (ops_left f ops))

    -- None yet,
    pub counting_none : {s : RigState} {r : Reader} (f : Front) → f ≡ fresh_front → Sound s
        → IsReader s r → r.taking ≡ false → Counting s s r r f 0
    counting_none {s} {r} f e h i o =
        let P : Front → Type 0 = λ g. Counting s s r r g 0 in
        subst P (sym e) (record {
          runs = runs_none s [] (over_account r) h (λ z. holds_none s);
          told = refl;
          is = i;
          over = o;
          count = omega arith;
          within = omega arith;
          front = λ z y. record { rises = y; upto = tt };
          length_is = λ z y. omega arith;
        })

    -- and one step more.
    pub counting_then : {s t u : RigState} {r q k : Reader} {f g : Front} {n : ℕ} (e : Finding)
        → Counting s t r q f n → Stepped key step ops t u q k f g e
        → Counting s u r k g (n + length (finding_items e))
    counting_then {s} {t} {u} {r} {q} {k} {f} {g} {n} e h d =
        let m = h.count in
        let l = d.count in
        record {
          runs = runs_wider (omega arith) (runs_then h.runs (d.read.over h.over));
          told = d.read.took.told ∙ h.told;
          is = d.read.took.is;
          over = d.read.took.taking ∙ h.over;
          count = omega arith;
          within = d.within;
          front = λ z y. (d.moves_on (h.told ∙ z) (h.front z y)).front;
          length_is = λ z y.
              let a = h.length_is z y in
              let b = ap length (d.moves_on (h.told ∙ z) (h.front z y)).settles.list in
              let c = length-append (finding_items e)
              (list_with_ops key step (items_left g (reader_items u k)) (ops_left g ops)) in
              omega arith;
        }

    -- All are counted at the end.
    pub counting_done : {s t u : RigState} {r q k : Reader} {f g : Front} {n : ℕ}
        → Counting s t r q f n → Stepped key step ops t u q k f g End
        → CountsItems key step ops s u r k n
    counting_done {s} {t} {u} {r} {q} {k} {f} {g} {n} h d =
        let c = counting_then End h d in
        let m = c.count in
        record {
          runs = c.runs;
          few = omega arith;
          count_is = λ z y.
              let l = c.length_is z y in
              let read = none_read c.is (c.told ∙ z) (let w = d.nears in omega arith) in
              let e = left_none ops g k.count (reader_items u k) d.nears read in
              let a = ap (λ zs. length (list_with_ops key step zs (ops_left g ops))) e.0 in
              let b = ap (λ zs. length (list_with_ops key step [] zs)) e.1 in
              omega arith;
        }

    -- A step gave up.
    pub counting_stops : {s t u : RigState} {r q : Reader} {f : Front} {n : ℕ} {e : EmFault}
        → Counting s t r q f n → StopsConsuming t u q e → Stops 0 0 0 [] (over_account r) s u e
    counting_stops h d = stops_wider (omega arith) (omega arith) (omega arith)
        (stops_after h.runs (d.over h.over))

    -- If all that may result fit, nothing has to be counted.
    pub limits_all : {s : RigState} (c : Chain) (most : ℕ) → Sound s → IsChain s c
        → c.count + length ops ≤ most → LimitsLow most key step ops s s c most
    limits_all {s} c most h i l =
        let n = runs_none s [] counted_account h (λ z. holds_none s) in
        let k = n.spends in
        record {
          total = 0;
          runs = record {
            session = n.session;
            frames = n.frames;
            spends = record {
              held = omega arith;
              used = omega arith;
              most = omega arith;
              moves = omega arith;
              later = omega arith;
              pays = k.pays;
            };
          };
          few = omega arith;
          limit_is = sym (limit_low most 0 (omega arith));
          exact = λ z y.
              let a = length_after (chain_items s c) ops in
              let b = length_items s c i z in
              sym (limit_low most (length (list_with_ops key step (chain_items s c) ops))
              (omega arith));
        }

    -- Else they were counted, with a reader that came back.
    pub limits_counted : {s a b t : RigState} {r q : Reader} {c : Chain} {n : ℕ} (most limit : ℕ)
        → LendsFrame s a → Unmoved s a → Opens s a c false r → CountsItems key step ops a b r q n
        → GivesFrame [] b t → Unmoved b t → limit ≡ low_limit_of most n
        → LimitsLow most key step ops s t c limit
    limits_counted {s} {a} {b} {t} {r} {q} {c} {n} most limit l u o h x y e =
        let k = h.runs.spends in
        let words = ap (λ (d : Chain). d.count) o.words in
        let few = h.few in
        let owes = o.owed_is in
        let u1 = u.same.used in
        let u2 = u.same.most in
        let u3 = u.moves in
        let v1 = y.same.used in
        let v2 = y.same.most in
        let v3 = y.moves in
        record {
          total = n;
          runs = record {
            session = record {
              sound = x.sound;
              touches = touches_then [] s b t
                  (touches_then [] s a b l.touches h.runs.session.touches)
                  x.touches;
              within = within_none s [] [] (λ z. refl);
              holds = λ z. holds_none t;
            };
            frames = lent_given s.pool b.pool t.pool
                (lent_same 1 s.pool a.pool b.pool l.frames h.runs.frames) x.frames;
            spends = record {
              held = omega arith;
              used = omega (arith, k.used);
              most = omega (arith, k.most);
              moves = omega (arith, k.moves);
              later = omega (arith, k.later);
              pays = pays_kept 0 (omega (arith, k.used)) (omega (arith, k.later));
            };
          };
          few = omega arith;
          limit_is = e;
          exact = λ z rises.
              let P : List Record → Type 0 = RisesByKey key in
              let items = o.items z in
              let m = h.count_is (l.touches.told ∙ z) (subst P (sym items) rises) in
              e ∙ ap (low_limit_of most)
              (m ∙ ap (λ zs. length (list_with_ops key step zs ops)) items);
        }

    pub limits_stop : {s a b t : RigState} {r : Reader} {c : Chain} {e : EmFault} → LendsFrame s a
        → Unmoved s a → Opens s a c false r → Stops 0 0 0 [] (over_account r) a b e
        → GivesFrame [] b t → Unmoved b t → Stops 0 0 0 [] (counting_account c) s t e
    limits_stop {s} {a} {b} {t} {r} {c} {e} l u o h x y =
        let k = halts_between u h.halts y in
        let owes = o.owed_is in
        record {
          goes = record {
            sound = x.sound;
            touches = touches_then [] s b t
                (touches_then [] s a b l.touches h.goes.touches) x.touches;
            frames = lent_given s.pool b.pool t.pool
                (lent_same 1 s.pool a.pool b.pool l.frames h.goes.frames) x.frames;
          };
          halts = record {
            used = k.used;
            full = k.full;
            most = k.most;
            moves = omega (arith, k.moves);
            later = k.later;
            pays = k.pays;
          };
          cause = cause_still s b t e y x.touches (cause_after [] s a b e l.touches h.cause);
        }

-- what a refusal left
pub counts_of : (s t : RigState) (r q : Reader) (key : Record → Record)
    (step : Option Record → Record → Step) (ops : List Record) (result : Result ℕ EmFault)
    (e : EmFault) → IsErrAnd result (λ n. n ≡ e) → Stops 0 0 0 [] (over_account r) s t e
    → CountsItemsTo key step ops s t r q result
counts_of s t r q key step ops (Ok x) e h k = absurd h
counts_of s t r q key step ops (Err n) e h k =
    subst (λ (m : EmFault). Stops 0 0 0 [] (over_account r) s t m) (sym h) k
