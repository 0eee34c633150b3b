-- Calls by a reader that takes a whole list, from where it was made to where it was abandoned.
use Rattle.std.proofs.Common.{◌≡◌, true, ℕ, ◌+◌, ◌*◌, ◌/◌, ◌<◌, ◌≤◌, List, [], ◌∷◌, ◌++◌, length, refl, sym, ap, ◌∙◌, subst, arith, IsTrue}
use Rattle.std.proofs.lemmas.List.{append-nil, length-append}
use Rattle.em_record.specs.declared.record.Record.{Record}
use Rattle.em_frames.specs.Pool.{SameFrames}
use Rattle.em_space.specs.Free.{Off, header, linked_from}
use Rattle.em_space.specs.Ledger.{Session, Stops}
use Rattle.em_space.specs.Queue.{Pays}
use Rattle.em_space.specs.Rig.{Cause, IfFull, InUse, RigState}
use Rattle.em_space.specs.declared.fault.EmFault.{EmFault}
use Rattle.em_space.specs.declared.fault.EmFault.TheVariants.{Damaged, DeviceFault, Full}
use Rattle.em_space.proofs.Paying.{pays_then}
use Rattle.em_space.proofs.Sessions.{session_as, session_still, session_trans}
use Rattle.em_space.proofs.Steps.{cause_after, touches_then, touches_trans}
use Rattle.em_chain.specs.Chain.{IsChain, chain_blocks, payload_in}
use Rattle.em_chain.specs.Effects.{GivesFrame, LendsFrame, Unmoved}
use Rattle.em_chain.specs.List.{IsOpenList, IsRunOpen, Words, items_in, payload}
use Rattle.em_chain.specs.Reader.{IsReader, rest_of}
use Rattle.em_chain.specs.Reads.{Opens}
use Rattle.em_chain.specs.Session.{taking_account}
use Rattle.em_chain.specs.declared.chain.Chain.{Chain}
use Rattle.em_chain.specs.declared.reader.Reader.{Reader}
use Rattle.em_chain.proofs.Keeps.{lent_given, lent_same, touches_none}
use Rattle.em_chain.proofs.Paying.{pays_unmoved}
use Rattle.em_chain.proofs.Readers.{length_items, length_left, length_payload, none_left}
use Rattle.em_chain.proofs.Views.{view_of}
use Rattle.em_chain.proofs.Writings.{cause_still}
use Rattle.em_node.specs.declared.entry.Entry.{Entry}
use Rattle.em_tree_raise.specs.Levels.{StopsWithin, raise_most, raise_room}
use Rattle.em_tree_raise.specs.Raising.{AreFreshEntries, CanRaise, IsListing}
use Rattle.em_tree_raise.specs.Subtrees.{HasLeft, LeavesSubtrees, TakesFirstOf}
use Rattle.em_tree_raise.proofs.Listings.{listed_length}

none_of : (es : List Entry) → length es ≡ 0 → es ≡ []
none_of [] e = refl
none_of (x ∷ es) e = absurd (omega (arith, e))

-- All subtrees of a list were taken.
pub all_first : {t : RigState} {q : Reader} {es fs : List Entry} → TakesFirstOf t q es fs
    → length es ≡ length fs → (es ≡ fs) × LeavesSubtrees t q []
all_first {t} {q} {es} {fs} h e =
    let a = ap (λ (xs : List Entry). length xs) h.is in
    let b = length-append es h.rest in
    let none : h.rest ≡ [] = none_of h.rest (omega (arith, a, b, e)) in (
      sym (h.is ∙ (ap (λ (xs : List Entry). es ++ xs) none ∙ append-nil es)),
      subst (λ (xs : List Entry). LeavesSubtrees t q xs) none h.leaves,
    )

-- Then no block is left,
pub none_left_of : {t : RigState} {q : Reader} → IsReader t q → IsTrue t.device.told → LeavesSubtrees t q []
    → q.blocks ≡ 0
none_left_of {t} {q} i z l =
    let n = length_left t q i z in
    let m = ap (λ (xs : List Record). length xs) l.items in
    none_left t (rest_of q) i.chain z (omega (arith, n, m))

pub none_held_of : (t : RigState) (q : Reader) → q.blocks ≡ 0 → chain_blocks t (rest_of q) ≡ []
none_held_of t q e = ap (λ (n : ℕ). linked_from n t.device.contents q.head) e

-- the subtrees of a list are half of its records
pub listing_half : {s : RigState} {list : Chain} {es : List Entry} → IsChain s list → IsListing s list es
    → IsTrue s.device.told → list.count ≡ 2 * length es
listing_half {s} {list} {es} i h z =
    let n = length_items s list i z in
    let m = ap (λ (xs : List Record). length xs) h.items in
    let k = listed_length es in
    omega (arith, n, m, k)

run_low : (p link : ℕ) (ks : List ℕ) (cs : List (List Record)) → IsRunOpen p link ks cs
    → length ks ≤ length (items_in cs)
run_low p link [] cs r = omega arith
run_low p link (k ∷ ks) [] r = absurd r
run_low p link (k ∷ ks) (c ∷ cs) r =
    let h = run_low p (header c).a ks cs r.2 in
    let lp = length_payload p c r.1 in
    let la = length-append (payload c) (items_in cs) in
    let some = r.1.some in
    omega (arith, h, lp, la, some)

list_low : (p : ℕ) (w : Words) (ks : List ℕ) (cs : List (List Record)) → IsOpenList p w ks cs
    → w.blocks ≤ w.count
list_low p w [] cs l = let n = l.blocks_is in omega (arith, n)
list_low p w (k ∷ ks) [] l = absurd l.run
list_low p w (k ∷ ks) (c ∷ cs) l =
    let h = run_low p (header c).a ks cs l.run.2 in
    let lp = length_payload p c l.run.1 in
    let la = length-append (payload c) (items_in cs) in
    let n = l.blocks_is in
    let m = l.count_is in
    let fits = l.skip_fits in
    omega (arith, h, lp, la, n, m, fits)

-- A list has no more blocks than records.
pub chain_low : {s : RigState} {c : Chain} → IsChain s c → IsTrue s.device.told → c.blocks ≤ c.count
chain_low {s} {c} i z = list_low (payload_in s) _ (chain_blocks s c) _ ((view_of s c i).told z).list

-- A block is in use, also of a device that doesn't tell.
pub in_use_by : {t : RigState} {k : ℕ} → (IsTrue t.device.told → InUse t k) → k < t.blocks → InUse t k
in_use_by f l = record { told = λ z. (f z).told z; untold = λ z. l }

-- A call that was full
pub full_room : (s t : RigState) (e : EmFault) (n m k : ℕ) → t.blocks ≡ s.blocks → Cause s t e
    → IfFull e (λ _. t.used + n < s.used + m) → m ≤ n + k → IfFull e (λ _. s.blocks < s.used + k)
full_room s t DeviceFault n m k b c h l = tt
full_room s t (Full used) n m k b c h l = let u = c.1 in omega (arith, b, u, h, l)
full_room s t (Damaged block) n m k b c h l = tt

-- A reader was made,
module _ {s a : RigState} {list : Chain} {r : Reader} (l : LendsFrame s a) (m : Unmoved s a)
    (o : Opens s a list true r) where
  -- with the subtrees of its list,
  pub opened_leaves : {es : List Entry} → IsListing s list es → IsTrue s.device.told → LeavesSubtrees a r es
  opened_leaves {es} h z = record {
    items = o.items z ∙ h.items;
    fresh = subst (λ (n : ℕ). AreFreshEntries n es) (sym l.touches.blocks) h.fresh;
  }

  pub opened_left : (n : ℕ) → CanRaise s list → n ≡ list.count / 2 → IsTrue a.device.told → HasLeft a r [] n
  opened_left n can e y =
      let z = sym l.touches.told ∙ y in
      let x = can.told z in
      let half = listing_half can.chain x.is z in
      record {
        entries = x.entries;
        leaves = opened_leaves x.is z;
        rises = x.is.rises;
        many = omega (arith, half, e);
      }

  -- and abandoned after some calls:
  module _ {b t : RigState} (g : GivesFrame [] b t) (v : Unmoved b t) where
    pub around_session : {ks : List ℕ} → IsChain s list → Session (chain_blocks a (rest_of r)) a b ks
        → Session (chain_blocks s list) s t ks
    around_session {ks} is h =
        let held = chain_blocks s list in
        let first = session_as (chain_blocks a (rest_of r))
        (session_still held l.sound l.touches (λ z. (is.told z).holds)) o.blocks in
        let two = session_trans first h in
        session_trans two (session_still ks g.sound g.touches (λ y. two.holds (sym two.touches.told ∙ y)))

    pub around_frames : SameFrames a.pool b.pool → SameFrames s.pool t.pool
    around_frames f =
        lent_given s.pool b.pool t.pool (lent_same 1 s.pool a.pool b.pool l.frames f) g.frames

    pub around_pays : {j k : ℕ} → Pays j k a b → a.moves ≤ b.moves → Pays j k s t
    around_pays {j} {k} p later =
        let last = v.moves in
        pays_then (pays_unmoved j m) (pays_then p (pays_unmoved k v) (omega (arith, last))) (omega (arith, later, last))

    -- they gave up.
    pub around_stops : {e : EmFault} (p n : ℕ) → p ≤ raise_room list → n ≤ list.count + 2
        → Stops (r.blocks + p) n 2 (chain_blocks a (rest_of r)) (taking_account r) a b e
        → StopsWithin (raise_room list) (raise_most list) (chain_blocks s list) s t e
    around_stops {e} p n room few h =
        let held = chain_blocks s list in
        let k = h.halts in
        let used = m.same.used in
        let after = v.same.used in
        let most = m.same.most in
        let last = v.same.most in
        let moves = m.moves in
        let ending = v.moves in
        let owed = o.owed_is in
        let later = h.goes.touches.moves in
        let cause = cause_still s b t e v g.touches (cause_after [] s a b e l.touches h.cause) in
        let touches = touches_then held s b t
        (touches_trans held (chain_blocks a (rest_of r)) s a b (touches_none held s a l.touches) h.goes.touches
        (λ z j i x. subst (λ (ks : List ℕ). Off j ks) (sym (o.blocks z)) x)) g.touches in
        record {
          goes = record {
            sound = g.sound;
            touches = touches;
            frames = around_frames h.goes.frames;
          };
          used = omega (arith, k.used, used, after, room);
          most = omega (arith, k.most, most, last, used, room);
          moves = omega (arith, k.moves, moves, ending, owed, few);
          pays = around_pays k.pays later;
          full = full_room s t e r.blocks (r.blocks + raise_room list) (raise_room list) touches.blocks cause
              (full_step e k.full) (omega arith);
          cause = cause;
        }
      where
        full_step : (f : EmFault) → IfFull f (λ _. b.used + r.blocks < a.used + (r.blocks + p))
            → IfFull f (λ _. t.used + r.blocks < s.used + (r.blocks + raise_room list))
        full_step DeviceFault x = tt
        full_step (Full u) x =
            let used = m.same.used in let after = v.same.used in omega (arith, x, used, after, room)
        full_step (Damaged d) x = tt
