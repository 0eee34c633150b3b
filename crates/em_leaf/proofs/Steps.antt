-- One step of a pass: what is read for it, and what it comes to.
use Rattle.std.proofs.Common.{◌≡◌, ℕ, ◌+◌, ◌≤◌, List, [], ◌∷◌, ◌++◌, length, refl, sym, ap, ◌∙◌, arith, subst, true, Option, Some, None, IfSome, Result, Ok, Err, IsErrAnd}
use Rattle.std.specs.Prelude.{option_to_list}
use Rattle.em_record.specs.declared.record.Record.{Record}
use Rattle.em_space.specs.Ledger.{Spends}
use Rattle.em_space.specs.Rig.{RigState, Sound, Goes}
use Rattle.em_space.specs.declared.fault.EmFault.{EmFault}
use Rattle.em_chain.specs.Reader.{IsReader, reader_blocks, reader_items}
use Rattle.em_chain.specs.Reads.{AtEnd, ReadCosts, Reads}
use Rattle.em_chain.specs.Session.{taking_account}
use Rattle.em_chain.specs.declared.reader.Reader.{Reader}
use Rattle.em_settle.specs.Rising.{RisesByKey}
use Rattle.em_settle.specs.Lists.{list_with_ops}
use Rattle.em_settle.specs.States.{answers_to}
use Rattle.em_settle.specs.Keys.{record_at}
use Rattle.em_settle.specs.declared.step.Step.{Step}
use Rattle.em_leaf.specs.Front.{CountsFinding, IsFront, KeysFrom, MovesOn, finding_answers, finding_items, in_hand, items_left, most_left, ops_left, some_count}
use Rattle.em_leaf.specs.Steps.{HasFirst, NearsEnd, Stepped, StopsConsuming, TakesStep}
use Rattle.em_leaf.specs.declared.front.Finding.{Finding}
use Rattle.em_leaf.specs.declared.front.Finding.TheVariants.{End, Item, Answer}
use Rattle.em_leaf.specs.declared.front.Front.{Front}
use Rattle.em_leaf.proofs.Fronts.{some_most}
use Rattle.em_leaf.proofs.Passes.{consumes_none, consumes_one, none_read}

-- Nothing is in hand
pub hand_none : (f : Front) → f.hand ≡ None → f.ahead ≡ None → in_hand f ≡ 0
hand_none f h a = let p = ap some_count h in let q = ap some_count a in omega arith

-- and a record is read, or none is left.
pub reads_ahead : {s t : RigState} {r q : Reader} (f : Front) (o : Option Record) → Sound s
    → IsReader s r → f.hand ≡ None → f.ahead ≡ None → Goes (reader_blocks s r) s t
    → IfSome o (λ x. Reads s t r q x) → (◌≡◌ {A = Result (Option Record) EmFault} (Ok o) (Ok None)
    → AtEnd s t r q)
    → ReadCosts s t r q (Ok o)
    → (r.taking ≡ true → Spends r.blocks (taking_account r) (taking_account q) s t)
    → HasFirst s t r q f (record { hand = f.hand; ahead = o; settled = f.settled })
reads_ahead {s} {t} {r} {q} f None so i h a g rd e k spends =
    let d = e refl in
    let P : Reader → Type 0 =
    λ p. HasFirst s t r p f (record { hand = f.hand; ahead = None; settled = f.settled }) in
    let Q : RigState → Type 0 =
    λ u. HasFirst s u r r f (record { hand = f.hand; ahead = None; settled = f.settled }) in
    let n = hand_none f h a in
    subst P (sym d.same) (subst Q (sym d.rig) (record {
      xs = [];
      read = consumes_none so i;
      items = λ z. ap (λ o. option_to_list f.hand ++ (option_to_list o ++ reader_items s r))
          (sym a);
      hand = refl;
      settled = refl;
      count = let p = ap some_count a in omega arith;
      none = λ y. d.count;
    }))
reads_ahead {s} {t} {r} {q} f (Some x) so i h a g rd e k spends = record {
  xs = x ∷ [];
  read = consumes_one (Some x) g rd k spends;
  items = λ z.
      ap (λ zs. option_to_list f.hand ++ zs) (sym (rd.items z))
      ∙ ap (λ o. option_to_list f.hand ++ (option_to_list o ++ reader_items s r)) (sym a);
  hand = refl;
  settled = refl;
  count = let p = ap some_count a in let c = rd.count in omega arith;
  none = λ y. absurd (omega arith);
}

-- The front keeps what holds of it over a read.
front_read : (key : Record → Record) (ops : List Record) (f h : Front) (xs ys : List Record)
    → items_left h ys ≡ items_left f xs → h.hand ≡ f.hand → h.settled ≡ f.settled
    → IsFront key ops f xs → IsFront key ops h ys
front_read key ops f h xs ys e k l i =
    let P : List Record → Type 0 = RisesByKey key in
    let U : Option Record → Type 0 = λ o. IfSome o (λ r. KeysFrom key (key r) (ops_left f ops)) in
    let V : ℕ → Type 0 = λ n. IfSome h.hand (λ r. KeysFrom key (key r) (ops_left (record {
      hand = None;
      ahead = None;
      settled = n;
    }) ops)) in
    record {
      rises = subst P (sym e) i.rises;
      upto = subst V (sym l) (subst U (sym k) i.upto);
    }

moves_read : (key : Record → Record) (step : Option Record → Record → Step) (ops : List Record)
    (f h g : Front) (xs ys zs items answers : List Record) → items_left h ys ≡ items_left f xs
    → h.settled ≡ f.settled → MovesOn key step ops h g ys zs items answers
    → MovesOn key step ops f g xs zs items answers
moves_read key step ops f h g xs ys zs items answers e l m =
    let o : ops_left f ops ≡ ops_left h ops = ap (λ n. ops_left (record {
      hand = None;
      ahead = None;
      settled = n;
    }) ops) (sym l) in
    record {
      front = m.front;
      settles = record {
        list = ap (list_with_ops key step (items_left f xs)) o
            ∙ (ap (λ l2. list_with_ops key step l2 (ops_left h ops)) (sym e) ∙ m.settles.list);
        answered = ap (answers_to key step (record_at key (items_left f xs))) o
            ∙ (ap (λ l2. answers_to key step (record_at key l2) (ops_left h ops)) (sym e)
            ∙ m.settles.answered);
      };
    }

counts_event : (f h g : Front) (left more n : ℕ) (e : Finding) → h.hand ≡ f.hand
    → h.settled ≡ f.settled → some_count h.ahead + more ≡ some_count f.ahead + left
    → h.settled ≤ n → g.settled ≤ n → CountsFinding h g n e
    → (most_left g more n + length (finding_items e) ≤ most_left f left n)
    × (f.settled + length (finding_answers e) ≤ g.settled)
counts_event f h g left more n End k l c w v d =
    let P : Front → Type 0 = λ j. (most_left j more n + 0 ≤ most_left f left n)
    × (f.settled + 0 ≤ j.settled) in
    let a = ap some_count k in
    subst P (sym d.0) (omega (arith, a, l, c), omega (arith, l))
counts_event f h g left more n (Item x) k l c w v d =
    let a = ap some_count k in (omega (arith, a, l, c, d.0, d.2), omega (arith, l, d.2))
counts_event f h g left more n (Answer None) k l c w v d =
    let a = ap some_count k in (omega (arith, a, l, c, d.0, d.2, w, v), omega (arith, l, d.2))
counts_event f h g left more n (Answer (Some x)) k l c w v d =
    let a = ap some_count k in (omega (arith, a, l, c, d.0, d.2, w, v), omega (arith, l, d.2))

nears_finding : (f h g : Front) (left more n : ℕ) (e : Finding) → h.hand ≡ f.hand
    → h.settled ≡ f.settled → some_count h.ahead + more ≡ some_count f.ahead + left
    → (in_hand h ≡ 0 → more ≡ 0) → g.settled ≤ n → CountsFinding h g n e
    → NearsEnd f g left more n e
nears_finding f h g left more n End k l c none v d =
    let P : Front → Type 0 = λ j. most_left j more n ≡ 0 in
    let z = d.1 in
    let y = none (omega arith) in
    subst P (sym d.0) (omega (arith, z, y))
nears_finding f h g left more n (Item x) k l c none v d =
    let a = ap some_count k in omega (arith, a, l, c, d.0, d.1, d.2)
nears_finding f h g left more n (Answer o) k l c none v d =
    let a = ap some_count k in
    let m = some_most g.hand in
    (omega (arith, a, l, c, d.1, d.2, m, v), omega (arith, l, d.2))

-- A step is what was read for it and what it came to.
pub stepped : {s t : RigState} {r q : Reader} {f h : Front} (key : Record → Record)
    (step : Option Record → Record → Step) (ops : List Record) (g : Front) (e : Finding)
    → f.settled ≤ length ops → HasFirst s t r q f h → CountsFinding h g (length ops) e
    → g.settled ≤ length ops
    → ((rest : List Record) → (in_hand h ≡ 0 → rest ≡ []) → IsFront key ops h rest
    → MovesOn key step ops h g rest rest (finding_items e) (finding_answers e))
    → Stepped key step ops s t r q f g e
stepped {s} {t} {r} {q} {f} {h} key step ops g e w a d v m =
    let c = counts_event f h g r.count q.count (length ops) e a.hand a.settled a.count
    (let l = a.settled in omega arith) v d in
    record {
      xs = a.xs;
      read = a.read;
      moves_on = λ z i.
          let told = a.read.took.told in
          let n = a.items z in
          moves_read key step ops f h g (reader_items s r) (reader_items t q) (reader_items t q)
          (finding_items e) (finding_answers e) n a.settled
          (m (reader_items t q) (λ y. none_read a.read.took.is (told ∙ z) (a.none y))
          (front_read key ops f h (reader_items s r) (reader_items t q) n a.hand a.settled i));
      count = c.0;
      few = c.1;
      within = v;
      nears = nears_finding f h g r.count q.count (length ops) e a.hand a.settled a.count a.none v d;
    }

-- what a read left that gave up
pub takes_of : (s t : RigState) (r q : Reader) (f g : Front) (key : Record → Record)
    (step : Option Record → Record → Step) (ops : List Record) (result : Result Finding EmFault)
    (e : EmFault) → IsErrAnd result (λ n. n ≡ e) → StopsConsuming s t r e
    → TakesStep key step ops s t r q f g result
takes_of s t r q f g key step ops (Ok x) e h k = absurd h
takes_of s t r q f g key step ops (Err n) e h k =
    subst (λ (m : EmFault). StopsConsuming s t r m) (sym h) k
