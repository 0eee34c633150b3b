-- The first records of a buffer, read into an area.
use Rattle.std.proofs.lemmas.List.{length-set}
use Rattle.std.proofs.Common.{◌≡◌, IsTrue, ⊎_elim, ℕ, zero, suc, ◌+◌, ◌*◌, ◌<◌, ◌≤◌, List, [], ◌∷◌, ◌++◌, length, set, take, refl, sym, ap, ◌∙◌, subst, arith, true, Option, Result, Ok, Err, IsErrAnd}
use Rattle.std.proofs.lemmas.Bool.{cases_lt}
use Rattle.em_record.specs.declared.record.Record.{Record}
use Rattle.em_space.specs.Ledger.{Session, Spends}
use Rattle.em_space.specs.Queue.{Pays}
use Rattle.em_space.specs.Rig.{RigState, Sound, Goes}
use Rattle.em_space.specs.declared.fault.EmFault.{EmFault}
use Rattle.em_space.proofs.Runs.{runs_then, runs_wider, stops_after, stops_wider}
use Rattle.em_space.proofs.Paying.{pays_kept, pays_then}
use Rattle.em_space.proofs.Sessions.{session_as, session_still, session_trans}
use Rattle.em_chain.specs.Chain.{ChainStays, IsChain, IsTight, chain_blocks, payload_in}
use Rattle.em_chain.specs.Counts.{ceiling}
use Rattle.em_chain.specs.Effects.{GivesFrame, LendsFrame, Unmoved}
use Rattle.em_chain.specs.Reader.{IsReader, reader_blocks, rest_of}
use Rattle.em_chain.specs.Reads.{Opens, ReadCosts, Reads}
use Rattle.em_chain.specs.Session.{taking_account}
use Rattle.em_chain.specs.declared.chain.Chain.{Chain}
use Rattle.em_chain.specs.declared.reader.Reader.{Reader}
use Rattle.em_chain.proofs.Counts.{ceiling_sum, tight_blocks}
use Rattle.em_chain.proofs.Keeps.{lent_given, lent_same}
use Rattle.em_chain.proofs.Loops.{part_left, taking_cost}
use Rattle.em_chain.proofs.Readers.{head_is, none_left}
use Rattle.em_chain.proofs.Sessions.{took_then}
use Rattle.em_chain.proofs.Views.{view_of}
use Rattle.em_leaf.proofs.Passes.{consumes_none, consumes_one}
use Rattle.em_tree_load.specs.AreaFills.{FilledArea, PutRead, ReadFirst, ReadsIntoArea, StopsTaken, TakesRead}
use Rattle.em_tree_walk.specs.Paid.{LosesNone}
use Rattle.em_tree_walk.proofs.Losses.{chain_length}

-- One record was read,
pub read_one : {s t : RigState} {r q : Reader} (x : Record) (o : Option Record) → r.taking ≡ true
    → Goes (reader_blocks s r) s t → Reads s t r q x → ReadCosts s t r q (Ok o)
    → (r.taking ≡ true → Spends r.blocks (taking_account r) (taking_account q) s t)
    → TakesRead s t r q (x ∷ [])
read_one x o e g h k spends =
    let c = consumes_one o g h k spends in
    record { took = c.took; runs = c.taking e }

-- none was,
pub read_none : {s : RigState} {r : Reader} → r.taking ≡ true → Sound s → IsReader s r
    → TakesRead s s r r []
read_none e h i = let c = consumes_none h i in record { took = c.took; runs = c.taking e }

-- some after others.
pub read_then : {s t u : RigState} {r q p : Reader} (xs ys : List Record) → TakesRead s t r q xs
    → TakesRead t u q p ys → TakesRead s u r p (xs ++ ys)
read_then {r = r} {q = q} xs ys h g =
    let few = h.took.fewer in
    record {
      took = took_then xs ys h.took g.took;
      runs = runs_wider (omega (arith, few)) (runs_then h.runs g.runs);
    }

-- the first places of a list with an item put after them
pub take_set : (n : ℕ) (xs : List Record) (x : Record) → n < length xs
    → take (suc n) (set xs n x) ≡ take n xs ++ (x ∷ [])
take_set n [] x h = absurd (omega arith)
take_set zero (y ∷ xs) x h = refl
take_set (suc n) (y ∷ xs) x h = ap (λ (zs : List Record). y ∷ zs) (take_set n xs x (omega arith))

-- The next place of an area was filled,
pub read_next : {s t u : RigState} {r q p : Reader} {old mid new : List Record} (n : ℕ)
    → ReadFirst s t r q old mid n → PutRead t u q p mid new n → n < length mid
    → ReadFirst s u r p old new (n + 1)
read_next {s} {t} {u} {r} {q} {p} {old} {mid} {new} n h g lt =
    let e : n + 1 ≡ suc n = omega arith in
    let w : take (suc n) new ≡ take n mid ++ (g.item ∷ []) =
    ap (λ (xs : List Record). take (suc n) xs) g.put ∙ take_set n mid g.item lt in
    let P : List Record → Type 0 = TakesRead s u r p in
    let N : ℕ → Type 0 = λ m. TakesRead s u r p (take m new) in
    let one = g.read.took.left_is in
    let before = h.left in
    record {
      read = subst N (sym e) (subst P (sym w) (read_then (take n mid) (g.item ∷ []) h.read g.read));
      len = ap length g.put ∙ (length-set mid n g.item ∙ h.len);
      left = omega (arith, one, before);
      taking = g.read.took.taking ∙ h.taking;
    }

pub read_first : {s : RigState} {r : Reader} (area : List Record) → r.taking ≡ true → Sound s
    → IsReader s r → ReadFirst s s r r area area 0
read_first area e h i = record {
  read = read_none e h i;
  len = refl;
  left = omega arith;
  taking = e;
}

-- or couldn't be.
pub read_stops : {s t u : RigState} {r q : Reader} {old mid : List Record} {n : ℕ} {e : EmFault}
    → ReadFirst s t r q old mid n → StopsTaken t u q e → StopsTaken s u r e
read_stops h g =
    let few = h.read.took.fewer in
    stops_wider (omega (arith, few)) (omega arith) (omega arith) (stops_after h.read.runs g)

pub reads_of : {T : Type 0} (s u : RigState) (r p : Reader) (old new : List Record) (n : ℕ)
    (result : Result T EmFault) (e : EmFault) → IsErrAnd result (λ m. m ≡ e) → StopsTaken s u r e
    → ReadsIntoArea s u r p old new n result
reads_of s u r p old new n (Ok x) e h g = absurd h
reads_of s u r p old new n (Err m) e h g = subst (λ (f : EmFault). StopsTaken s u r f) (sym h) g

-- A list with records passes over fewer than a block.
pub skip_below : (s : RigState) (c : Chain) → IsChain s c → IsTrue s.device.told → 0 < c.count
    → c.skip < payload_in s
skip_below s c i z pos =
    let h = head_is s c (view_of s c i) z pos in
    omega (arith, h.skip, h.block.most)

-- A tight chain has at most one block more than its records need.
pub tight_most : (s : RigState) (c : Chain) → 128 ≤ s.pool.shape.block → IsChain s c
    → IsTrue s.device.told → IsTight s c → c.blocks ≤ ceiling c.count (payload_in s) + 1
tight_most s c low i z q = ⊎_elim
    (λ (l : c.count < 1).
    let e = none_left s c (view_of s c i) z (omega arith) in
    omega (arith, e))
    (λ (l : 1 ≤ c.count).
    let e = tight_blocks s c low (view_of s c i) z q in
    let k = skip_below s c i z (omega arith) in
    let m : c.skip ≤ payload_in s * 1 = omega (arith, k) in
    let w = ceiling_sum (payload_in s) 1 c.skip c.count (omega (arith, low)) m in
    omega (arith, e, w))
    (cases_lt c.count 1)

module _ {s a t : RigState} {c : Chain} {r q : Reader} {old area : List Record} {n : ℕ}
    (sound : Sound s) (is : IsChain s c) (l : LendsFrame s a) (m : Unmoved s a)
    (o : Opens s a c true r) (h : ReadFirst a t r q old area n) where
  -- what the reader held at first was the chain's
  opened_session : Session (chain_blocks s c) s t (chain_blocks t (rest_of q))
  opened_session =
      let still = session_still (chain_blocks s c) l.sound l.touches (λ z. (is.told z).holds) in
      session_trans (session_as (chain_blocks a (rest_of r)) still o.blocks) h.read.runs.session

  pub read_length : length (take n area) ≡ n
  read_length = let x = h.read.took.left_is in let y = h.left in omega (arith, x, y)

  opened_pays : Pays 0 0 s t
  opened_pays =
      let used = m.same.used in
      let moves = m.moves in
      let before : Pays 0 0 s a = pays_kept 0 (omega (arith, used)) (omega (arith, moves)) in
      pays_then before h.read.runs.spends.pays h.read.runs.spends.later

  -- the moves that it took
  opened_moves : IsTrue s.device.told → IsTight s c
      → t.moves ≤ s.moves + 2 * ceiling n (payload_in s) + 2
  opened_moves z tight =
      let low = sound.shape.block_low in
      let count = ap (λ (d : Chain). d.count) o.words in
      let k = h.left in
      let len = read_length in
      ⊎_elim
      (λ (none : q.count < 1).
      let all = taking_cost r q m o h.read.runs.spends in
      let most = tight_most s c low is z tight in
      let e : c.count ≡ n = omega (arith, none, k, count) in
      let w : c.blocks ≤ ceiling n (payload_in s) + 1 = rw e at most in
      omega (arith, all, w))
      (λ (some : 1 ≤ q.count).
      let fits = skip_below s c is z (omega (arith, some, k, count)) in
      let p = (part_left low l m o h.read.took h.read.runs.spends z tight fits (omega (arith, some))).1 in
      let w : t.moves ≤ s.moves + 2 * ceiling n (payload_in s) + 1 = rw len at p in
      omega (arith, w))
      (cases_lt q.count 1)

  -- as many blocks came to be free as the reader left behind
  opened_loses : {u : RigState} → u.used ≡ t.used → u.device.told ≡ s.device.told
      → IsChain u (rest_of q) → LosesNone (chain_blocks s c) (chain_blocks u (rest_of q)) s u
  opened_loses {u} after told left z =
      let lent = m.same.used in
      let spent = h.read.runs.spends.used in
      let words = ap (λ (d : Chain). d.blocks) o.words in
      let first = chain_length is z in
      let last = chain_length left (told ∙ z) in
      omega (arith, after, lent, spent, words, first, last)

  -- The area was filled, and the reader ended.
  pub filled_area : {u : RigState} (rest : Chain) → GivesFrame [] t u → Unmoved t u → rest ≡ rest_of q
      → (IsChain t (rest_of q) → ChainStays t u (rest_of q)) → FilledArea s u c area n rest
  filled_area {u} rest g v words stays =
      let closed : IsChain t (rest_of q) = h.read.took.closed (o.closed is) in
      let st = stays closed in
      let told_t : IsTrue s.device.told → IsTrue t.device.told =
      λ z. h.read.took.told ∙ (l.touches.told ∙ z) in
      let S = opened_session in
      let P : Chain → Type 0 = FilledArea s u c area n in
      let k = h.left in
      let count = ap (λ (d : Chain). d.count) o.words in
      let used = v.same.used in
      let moves = v.moves in
      let after : Pays 0 0 t u = pays_kept 0 (omega (arith, used)) (omega (arith, moves)) in
      let end_still = session_still (chain_blocks t (rest_of q)) g.sound g.touches
      (λ z. h.read.runs.session.holds (sym h.read.took.told ∙ z)) in
      subst P (sym words) (record {
        runs = record {
          session = session_trans S (session_as (chain_blocks u (rest_of q)) end_still st.blocks);
          frames = lent_given s.pool t.pool u.pool (lent_same 1 s.pool a.pool t.pool l.frames
              h.read.runs.frames) g.frames;
          pays = pays_then opened_pays after g.touches.moves;
          loses = opened_loses {u = u} used (g.touches.told
              ∙ (h.read.took.told ∙ l.touches.told)) st.is;
        };
        chain = st.is;
        count = omega (arith, k, count);
        items = λ z. sym (o.items z) ∙ (h.read.took.items (l.touches.told ∙ z)
            ∙ ap (λ (xs : List Record). take n area ++ xs) (sym (st.items (told_t z))));
        tight = λ z q. st.tight (told_t z) (h.read.took.tight (l.touches.told ∙ z) (o.tight z q));
        moves = λ z q. let w = opened_moves z q in omega (arith, w, moves);
      })
