-- Records that a reader of either kind gets, one after another.
use Rattle.std.proofs.Common.{◌≡◌, ℕ, zero, suc, ◌+◌, ◌*◌, ◌<◌, ◌≤◌, Bool, true, false, true≢false, List, [], ◌∷◌, ◌++◌, length, take, set, refl, sym, ap, subst, ◌∙◌, arith, IsTrue, Result, Ok, Err, IsErrAnd}
use Rattle.std.proofs.lemmas.List.{append-nil, length-set}
use Rattle.std.specs.Prelude.{if◌then◌else◌}
use Rattle.em_record.specs.declared.record.Record.{Record}
use Rattle.em_space.specs.Free.{linked_from}
use Rattle.em_space.specs.Held.{Holds, Within}
use Rattle.em_space.specs.Ledger.{Stops}
use Rattle.em_space.specs.Rig.{BlockCause, Goes, RigState, Sound}
use Rattle.em_space.specs.declared.fault.EmFault.{EmFault}
use Rattle.em_space.proofs.Ledgers.{full_by, full_never}
use Rattle.em_space.proofs.Paying.{pays_kept, pays_then}
use Rattle.em_space.proofs.Runs.{runs_none, runs_of, runs_then, runs_wider, stops_after, stops_wider}
use Rattle.em_space.proofs.Sessions.{session_as, session_still, session_trans}
use Rattle.em_space.proofs.Steps.{block_cause, cause_after, touches_then, touches_trans}
use Rattle.em_space.proofs.Within.{within_same}
use Rattle.em_chain.specs.Chain.{IsChain, chain_blocks}
use Rattle.em_chain.specs.Effects.{GivesFrame, LendsFrame, Unmoved}
use Rattle.em_chain.specs.Reader.{IsReader, reader_blocks, reader_items, rest_of}
use Rattle.em_chain.specs.Reads.{Opens, ReadCosts, Reads}
use Rattle.em_chain.specs.declared.chain.Chain.{Chain}
use Rattle.em_chain.specs.declared.reader.Reader.{Reader}
use Rattle.em_chain.proofs.Keeps.{lent_given, lent_same, touches_none}
use Rattle.em_chain.proofs.Readers.{length_left}
use Rattle.em_chain.proofs.Sessions.{took_nothing, took_one, took_then}
use Rattle.em_chain.proofs.Withins.{within_ends}
use Rattle.em_chain.proofs.Writings.{cause_still, halts_between}
use Rattle.em_segment_parts.specs.Accounts.{reader_account, stored}
use Rattle.em_segment_parts.specs.Loads.{PutPoint, PutsTo, ReadsLoad, ReadsLoadTo, ReadsSome, StopsSome, TakesLoad, TakesLoadTo}

-- what holds of both lists holds of them, or of none, if a reader takes its chain or leaves it
within_if : {s : RigState} {ks js : List ℕ} (a b : Bool) → b ≡ a → Within s ks js
    → Within s (if a then ks else []) (if b then js else [])
within_if true true e h = h
within_if true false e h = absurd (true≢false (sym e))
within_if false true e h = absurd (true≢false e)
within_if {s} false false e h = within_same s []

holds_if : {s : RigState} {ks : List ℕ} (a : Bool) → Holds s ks → Holds s (if a then ks else [])
holds_if true h = h
holds_if false h = record { in_use = tt; distinct = λ y. tt }

fewer_if : {m n : ℕ} (a b : Bool) → b ≡ a → n ≤ m → (if b then n else 0) ≤ (if a then m else 0)
fewer_if true true e l = l
fewer_if true false e l = absurd (true≢false (sym e))
fewer_if false true e l = absurd (true≢false e)
fewer_if false false e l = omega arith

-- the blocks in use after a read, by whether the reader takes its chain
used_if : {u v : ℕ} (m n : ℕ) (a b : Bool) → b ≡ a → (a ≡ true → u + m ≡ v + n)
    → (a ≡ false → u ≡ v) → u + (if a then m else 0) ≡ v + (if b then n else 0)
used_if m n true true e f g = f refl
used_if m n true false e f g = absurd (true≢false (sym e))
used_if m n false true e f g = absurd (true≢false e)
used_if {u} {v} m n false false e f g = let z = g refl in omega (arith, z)

-- None yet,
pub gets_none : {s : RigState} {r : Reader} → Sound s → IsReader s r → ReadsSome s s r r []
gets_none {s} {r} h i = record {
  took = took_nothing i;
  runs = runs_none s (reader_blocks s r) (reader_account r) h
      (λ z. holds_if r.taking (i.chain.told z).holds);
}

-- one,
pub gets_one : {T : Type 0} {s t : RigState} {r q : Reader} {x : Record} (y : T)
    → Goes (reader_blocks s r) s t → Reads s t r q x → ReadCosts s t r q (Ok y)
    → ReadsSome s t r q (x ∷ [])
gets_one {s = s} {t = t} {r = r} {q = q} y g h c =
    let used = used_if r.blocks q.blocks r.taking q.taking h.taking c.used_taking c.used_over in
    let fewer = fewer_if r.taking q.taking h.taking h.fewer in
    record {
      took = took_one (reader_blocks s r) g.touches h;
      runs = runs_of (reader_blocks s r) (reader_blocks t q) g
          (within_if r.taking q.taking h.taking (within_ends s (chain_blocks s (rest_of r))
          (chain_blocks t (rest_of q)) h.blocks))
          (λ z. holds_if q.taking (h.is.chain.told z).holds)
          (record {
            held = fewer;
            used = used;
            most = let z = c.most in omega (arith, z);
            moves = let z = c.moves in omega (arith, z);
            later = g.touches.moves;
            pays = pays_kept 0 (omega (arith, used, fewer)) g.touches.moves;
          });
    }

-- and more.
pub gets_then : {s t u : RigState} {r q p : Reader} (xs ys : List Record) → ReadsSome s t r q xs
    → ReadsSome t u q p ys → ReadsSome s u r p (xs ++ ys)
gets_then {r = r} {q = q} xs ys h g =
    let few = fewer_if r.taking q.taking h.took.taking h.took.fewer in
    record {
      took = took_then xs ys h.took g.took;
      runs = runs_wider (omega (arith, few)) (runs_then h.runs g.runs);
    }

-- A read gave up,
pub gets_refused : {T : Type 0} {s t : RigState} {r q : Reader} {e : EmFault}
    → Goes (reader_blocks s r) s t → ReadCosts {T = T} s t r q (Err e) → BlockCause s t e
    → StopsSome s t r e
gets_refused {s = s} {t = t} {r = r} {e = e} g c b = record {
  stops = record {
    goes = g;
    halts = record {
      used = let z = c.used_err in omega (arith, z);
      full = full_never s t e _ b;
      most = let z = c.most in omega (arith, z);
      moves = let z = c.moves_err in omega (arith, z);
      later = g.touches.moves;
      pays = let z = c.used_err in pays_kept 0 (omega (arith, z)) g.touches.moves;
    };
    cause = block_cause s t e b;
  };
}

-- after others.
pub gets_stop : {s t u : RigState} {r q : Reader} {xs : List Record} {e : EmFault}
    → ReadsSome s t r q xs → StopsSome t u q e → StopsSome s u r e
gets_stop {r = r} {q = q} h g =
    let few = fewer_if r.taking q.taking h.took.taking h.took.fewer in
    record {
      stops = stops_wider (omega (arith, few)) (omega arith) (omega arith) (stops_after h.runs g.stops);
    }

-- One point was put into an area, by the result.
pub put_err : {T : Type 0} (place : ℕ) (s t : RigState) (r q : Reader) (old new : List Record)
    (result : Result T EmFault) (e : EmFault) → IsErrAnd result (λ f. f ≡ e) → StopsSome s t r e
    → PutsTo place s t r q old new result
put_err place s t r q old new (Ok x) e h k = absurd h
put_err place s t r q old new (Err f) e h k =
    subst (λ (n : EmFault). StopsSome s t r n) (sym h) k

-- the first places of a list with an item put after them
take_set : (n : ℕ) (xs : List Record) (x : Record) → n < length xs
    → take (suc n) (set xs n x) ≡ take n xs ++ (x ∷ [])
take_set n [] x h = absurd (omega arith)
take_set zero (y ∷ xs) x h = refl
take_set (suc n) (y ∷ xs) x h =
    ap (λ (zs : List Record). y ∷ zs) (take_set n xs x (omega arith))

-- The first places of an area: none was filled,
pub load_begins : {s : RigState} {r : Reader} (area : List Record) → Sound s → IsReader s r
    → ReadsLoad 0 s s r r area area
load_begins area h i = record { reads = gets_none h i; len = refl; left = omega arith }

-- one more was,
pub load_next : {s t u : RigState} {r q p : Reader} {old mid new : List Record} (n : ℕ)
    → n < length mid → ReadsLoad n s t r q old mid → PutPoint n t u q p mid new
    → ReadsLoad (n + 1) s u r p old new
load_next {s} {t} {u} {r} {q} {p} {old} {mid} {new} n l h g =
    let e : n + 1 ≡ suc n = omega arith in
    let w : take (suc n) new ≡ take n mid ++ (g.point ∷ []) =
    ap (λ (xs : List Record). take (suc n) xs) g.put ∙ take_set n mid g.point l in
    let one = g.reads.took.left_is in
    let before = h.left in
    record {
      reads = subst (λ (m : ℕ). ReadsSome s u r p (take m new)) (sym e)
          (subst (ReadsSome s u r p) (sym w) (gets_then (take n mid) (g.point ∷ []) h.reads g.reads));
      len = ap length g.put ∙ (length-set mid n g.point ∙ h.len);
      left = omega (arith, one, before);
    }

-- or couldn't be.
pub load_err : {T : Type 0} (n : ℕ) (s t : RigState) (r q : Reader) (old new : List Record)
    (result : Result T EmFault) (e : EmFault) → IsErrAnd result (λ f. f ≡ e) → StopsSome s t r e
    → ReadsLoadTo n s t r q old new result
load_err n s t r q old new (Ok x) e h k = absurd h
load_err n s t r q old new (Err f) e h k =
    subst (λ (m : EmFault). StopsSome s t r m) (sym h) k

pub nil_of : (xs : List Record) → length xs ≡ 0 → xs ≡ []
nil_of [] e = refl
nil_of (x ∷ xs) e = absurd (omega (arith, e))

-- with no block none is held
if_gone : (b : Bool) (ks : List ℕ) → ks ≡ [] → (if b then ks else []) ≡ []
if_gone true ks e = e
if_gone false ks e = refl

reader_gone : (u : RigState) (q : Reader) → q.blocks ≡ 0 → reader_blocks u q ≡ []
reader_gone u q e = if_gone q.taking (chain_blocks u (rest_of q))
    (ap (λ (n : ℕ). linked_from n u.device.contents q.head) e)

-- a reader that takes a chain has its account and its blocks
if_taking : {A : Type 0} (b : Bool) (x y : A) → b ≡ true → (if b then x else y) ≡ x
if_taking true x y e = refl
if_taking false x y e = absurd (true≢false (sym e))

taken_account : {s a : RigState} {c : Chain} {r : Reader} → Opens s a c true r
    → (reader_account r).blocks ≡ c.blocks
taken_account {r = r} o =
    if_taking r.taking r.blocks 0 o.taking_is ∙ ap (λ (d : Chain). d.blocks) o.words

taken_blocks : {s a : RigState} {c : Chain} {r : Reader} → Opens s a c true r → IsTrue s.device.told
    → reader_blocks a r ≡ chain_blocks s c
taken_blocks {a = a} {r = r} o z =
    if_taking r.taking (chain_blocks a (rest_of r)) [] o.taking_is ∙ o.blocks z

no_blocks : (b : Bool) (n : ℕ) → n ≡ 0 → (if b then n else 0) ≡ 0
no_blocks true n e = e
no_blocks false n e = refl

-- All points of a chain were taken, while a frame was lent,
pub all_taken : {s a b t : RigState} {c : Chain} {r q : Reader} {area : List Record} → IsChain s c
    → 0 < c.count → LendsFrame s a → Unmoved s a → Opens s a c true r
    → ReadsLoad c.count a b r q area area → GivesFrame [] b t → Unmoved b t → TakesLoad s t c area
all_taken {s} {a} {b} {t} {c} {r} {q} {area} is some l m o h g v =
    let count = ap (λ (d : Chain). d.count) o.words in
    let took = h.reads.took in
    let none : q.count ≡ 0 = let n = h.left in omega (arith, n, count) in
    let gone : q.blocks ≡ 0 = took.none_left (λ e. absurd (omega (arith, e, some, count))) none in
    let fewer = no_blocks q.taking q.blocks gone in
    let account = taken_account o in
    let owed_is = o.owed_is in
    let e = h.reads.runs.spends in
    let used_l = m.same.used in
    let used_g = v.same.used in
    let most_l = m.same.most in
    let most_g = v.same.most in
    record {
      items = λ z.
          let y : IsTrue a.device.told = l.touches.told ∙ z in
          let rest = nil_of (reader_items b q) (length_left b q took.is (took.told ∙ y) ∙ none) in
          sym (o.items z) ∙ (took.items y
          ∙ (ap (λ (xs : List Record). take c.count area ++ xs) rest
          ∙ append-nil (take c.count area)));
      runs = record {
        session = session_trans (session_as (reader_blocks a r)
            (session_still (chain_blocks s c) l.sound l.touches (λ z. (is.told z).holds))
            (taken_blocks o)) (session_trans h.reads.runs.session
            (session_as [] (session_still (reader_blocks b q) g.sound g.touches
            (λ z. h.reads.runs.session.holds (sym took.told ∙ z)))
            (λ z. sym (reader_gone b q gone))));
        frames = lent_given s.pool b.pool t.pool
            (lent_same 1 s.pool a.pool b.pool l.frames h.reads.runs.frames) g.frames;
        spends = record {
          held = omega arith;
          used = omega (arith, e.used, account, fewer);
          most = omega (arith, e.most, account);
          moves = omega (arith, e.moves, m.moves, v.moves);
          later = omega (arith, e.later, m.moves, v.moves);
          pays = pays_then (pays_kept 0 (omega arith) (omega (arith, m.moves)))
              (pays_then e.pays (pays_kept 0 (omega arith) (omega (arith, v.moves)))
              (omega (arith, v.moves))) (omega (arith, e.later, v.moves));
        };
      };
    }

-- or not all of them.
pub not_taken : {s a b t : RigState} {c : Chain} {r : Reader} {e : EmFault} → LendsFrame s a
    → Unmoved s a → Opens s a c true r → StopsSome a b r e → GivesFrame [] b t → Unmoved b t
    → Stops c.blocks (2 * c.blocks) 0 (chain_blocks s c) (stored c.blocks) s t e
not_taken {s} {a} {b} {t} {c} {r} {e} l m o h g v =
    let k = h.stops in
    let account = taken_account o in
    let owed_is = o.owed_is in
    let d = halts_between m k.halts v in
    record {
      goes = record {
        sound = g.sound;
        touches = touches_then (chain_blocks s c) s b t (touches_trans (chain_blocks s c)
            (reader_blocks a r) s a b (touches_none (chain_blocks s c) s a l.touches) k.goes.touches
            (λ z p i u. rw (taken_blocks o z) u)) g.touches;
        frames = lent_given s.pool b.pool t.pool
            (lent_same 1 s.pool a.pool b.pool l.frames k.goes.frames) g.frames;
      };
      halts = record {
        used = omega (arith, d.used, account);
        full = full_by e (t.used + (reader_account r).blocks < s.used + (reader_account r).blocks)
            (t.used + c.blocks < s.used + c.blocks) (λ p. omega (arith, p, account)) d.full;
        most = omega (arith, d.most, account);
        moves = omega (arith, d.moves);
        later = d.later;
        pays = d.pays;
      };
      cause = cause_still s b t e v g.touches (cause_after [] s a b e l.touches k.cause);
    }

-- by the result
pub takes_load : {T : Type 0} {s a b t : RigState} {c : Chain} {r : Reader} (q : Reader)
    (old area : List Record) (result : Result T EmFault) → IsChain s c → 0 < c.count → LendsFrame s a
    → Unmoved s a → Opens s a c true r → ReadsLoadTo c.count a b r q old area result
    → GivesFrame [] b t → Unmoved b t → TakesLoadTo s t c area result
takes_load q old area (Ok x) is some l m o h g v =
    all_taken is some l m o (record { reads = h.reads; len = refl; left = h.left }) g v
takes_load q old area (Err e) is some l m o h g v = not_taken l m o h g v
