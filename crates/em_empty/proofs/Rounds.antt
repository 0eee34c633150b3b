-- Steps one after another: what they did together, and the blocks and moves that they needed.
use Rattle.std.proofs.Common.{◌≡◌, ℕ, zero, suc, ◌+◌, ◌-◌, ◌*◌, ◌<◌, ◌≤◌, min, max, List, [], ◌∷◌, ◌++◌, length, get_or, refl, sym, ap, ◌∙◌, subst, arith, ⊎_elim, inl, Result, Ok, Err, IsErrAnd, true}
use Rattle.std.proofs.Math.Nat.{mul-add}
use Rattle.std.proofs.lemmas.List.{length-append}
use Rattle.em_record.specs.declared.record.Record.{Record}
use Rattle.em_space.specs.Ledger.{Stops}
use Rattle.em_space.specs.Rig.{RigState, Sound}
use Rattle.em_space.specs.declared.fault.EmFault.{EmFault}
use Rattle.em_space.proofs.Lists.{distinct_apart}
use Rattle.em_space.proofs.Runs.{runs_none, runs_then, runs_wider, stops_after, stops_wider}
use Rattle.em_chain.specs.Chain.{chain_blocks, payload_in}
use Rattle.em_chain.specs.Reader.{rest_of}
use Rattle.em_chain.specs.Writers.{Member, group_account, group_blocks, member_at, members_in, no_member, touched_of}
use Rattle.em_chain.specs.declared.reader.Reader.{Reader}
use Rattle.em_chain.specs.declared.writers.Writers.{Writers}
use Rattle.em_chain.proofs.Counts.{lt_or_le, more_by}
use Rattle.em_chain.proofs.Sessions.{took_nothing, took_then}
use Rattle.em_chain.proofs.WritersMembers.{members_len}
use Rattle.em_chain.proofs.WritersSession.{can_grow, filled_untouched, group_none, group_room}
use Rattle.em_node.specs.declared.entry.Entry.{Entry}
use Rattle.em_node.specs.Node.{no_entry}
use Rattle.em_tree_model.specs.Pouring.{add_at, given_out}
use Rattle.em_tree_blocks.specs.Node.{buffer_of}
use Rattle.em_empty.specs.Node.{HasPlaces, HavePlaces}
use Rattle.em_empty.specs.Dealt.{AreBoth, AwaitsRecords, CanTake, Dealt, DealsTo, Grew, both_account, both_blocks, chain_members, dealing_moves, member_lists, op_place}
use Rattle.em_empty.proofs.Dealt.{both_holds}
use Rattle.em_empty.proofs.Groups.{account_is, chains_len, chains_untouched, touched_few, unstored_few}

given_append : (place : Record → ℕ) (bs : List (List Record)) (xs ys : List Record)
    → given_out place bs (xs ++ ys) ≡ given_out place (given_out place bs xs) ys
given_append place bs [] ys = refl
given_append place bs (x ∷ xs) ys = given_append place (add_at bs (place x) x) xs ys

-- No step yet,
pub dealt_none : {s : RigState} {r : Reader} {g : Writers} (key : Record → Record) (es : List Entry)
    → Sound s → AreBoth s r g
    → Dealt (r.blocks + (group_account g).blocks) 0 key es s s r r g g
dealt_none {s} {r} {g} key es h i = record {
  ops = [];
  ops_len = refl;
  runs = runs_none s (both_blocks s r g) (both_account r g) h (both_holds i);
  took = took_nothing i.reader;
  is = i.group;
  len = refl;
  items = λ z. refl;
  grew = λ j l. record {
    packed = λ z p. p;
    tight = λ z p. p;
    count_most = omega arith;
    blocks_most = omega arith;
  };
  filled_most = omega arith;
  touched_most = omega arith;
}

grew_then : {m n : ℕ} {s t u : RigState} {x y v : Member} → t.device.told ≡ s.device.told
    → Grew m s t x y → Grew n t u y v → Grew (m + n) s u x v
grew_then told a b = record {
  packed = λ z p. b.packed (told ∙ z) (a.packed z p);
  tight = λ z p. b.tight (told ∙ z) (a.tight z p);
  count_most = let p = a.count_most in let q = b.count_most in omega arith;
  blocks_most = let p = a.blocks_most in let q = b.blocks_most in omega arith;
}

-- and others after some.
pub dealt_then : {p q m n : ℕ} {key : Record → Record} {es : List Entry} {s t u : RigState}
    {r o w : Reader} {g h k : Writers} → Dealt p m key es s t r o g h → Dealt q n key es t u o w h k
    → Dealt (max p q) (m + n) key es s u r w g k
dealt_then {p} {q} {m} {n} {key} {es} {s} {t} {u} {r} {o} {w} {g} {h} {k} a b =
    let told = a.took.told in
    record {
      ops = a.ops ++ b.ops;
      ops_len =
          let x = length-append a.ops b.ops in
          let y = a.ops_len in
          let z = b.ops_len in
          omega arith;
      runs = runs_then a.runs b.runs;
      took = took_then a.ops b.ops a.took b.took;
      is = b.is;
      len = b.len ∙ a.len;
      items = λ z. b.items (told ∙ z)
          ∙ (ap (λ (bs : List (List Record)). given_out (op_place key es) bs b.ops) (a.items z)
          ∙ sym (given_append (op_place key es) (member_lists s g) a.ops b.ops));
      grew = λ j l. grew_then told (a.grew j l) (b.grew j (rw a.len l));
      filled_most = let x = a.filled_most in let y = b.filled_most in omega arith;
      touched_most = let x = a.touched_most in let y = b.touched_most in omega arith;
    }

pub dealt_wider : {p q n : ℕ} {key : Record → Record} {es : List Entry} {s t : RigState}
    {r o : Reader} {g h : Writers} → p ≤ q → Dealt p n key es s t r o g h
    → Dealt q n key es s t r o g h
dealt_wider l a = record {
  ops = a.ops;
  ops_len = a.ops_len;
  runs = runs_wider l a.runs;
  took = a.took;
  is = a.is;
  len = a.len;
  items = a.items;
  grew = a.grew;
  filled_most = a.filled_most;
  touched_most = a.touched_most;
}

-- Both after some steps.
pub dealt_both : {p n : ℕ} {key : Record → Record} {es : List Entry} {s t : RigState}
    {r q : Reader} {g h : Writers} → r.taking ≡ true → Dealt p n key es s t r q g h → AreBoth t q h
dealt_both {p} {n} {key} {es} {s} {t} {r} {q} {g} {h} e a = record {
  reader = a.took.is;
  taking = a.took.taking ∙ e;
  group = a.is;
  apart = λ y. distinct_apart (chain_blocks t (rest_of q)) (group_blocks t h)
      ((a.runs.session.holds (sym a.took.told ∙ y)).distinct y);
}

-- A product that is below the next one.
below_next : (p a b : ℕ) → 0 < p → p * a < p * b + p → a ≤ b
below_next p a b pos lt = ⊎_elim
    (λ (l : b < a).
    let d = a - (b + 1) in
    let e : a ≡ (b + 1) + d = omega arith in
    let m = mul-add p (b + 1) d in
    let k = mul-add p b 1 in
    let q : p * ((b + 1) + d) < p * b + p = rw e at lt in
    absurd (omega arith))
    (λ (l : a ≤ b). l) (lt_or_le b a)

-- How many blocks both have after n steps over members to which nothing had been appended: their
-- first ones, and one more for each member that was.
pub record Room (n : ℕ) (s : RigState) (r q : Reader) (g h : Writers) : Type 0 where
  pub both : q.blocks + (group_account h).blocks
      ≤ r.blocks + (group_account g).blocks + touched_of (members_in h)
  pub group : payload_in s * (group_account h).blocks
      ≤ payload_in s * ((group_account g).blocks + touched_of (members_in h)) + n
  pub few : touched_of (members_in h) ≤ n

pub room_of : {p n : ℕ} {key : Record → Record} {es : List Entry} {s t : RigState} {r q : Reader}
    {g h : Writers} → Sound s → touched_of (members_in g) ≡ 0 → Dealt p n key es s t r q g h
    → Room n s r q g h
room_of {p} {n} {key} {es} {s} {t} {r} {q} {g} {h} sound none a =
    let b = payload_in s in
    let low = sound.shape.block_low in
    let pos : 0 < b = omega arith in
    let e : payload_in t ≡ b = a.took.payload_is in
    let room = rw e at (group_room (group_none a.runs.session.sound a.is)) in
    let full = filled_untouched s (members_in g) none in
    let most = a.filled_most in
    let gb = (group_account g).blocks in
    let hb = (group_account h).blocks in
    let c = touched_of (members_in h) in
    let x = mul-add b gb c in
    let place = a.took.place in
    let count = a.ops_len in
    let y = mul-add b q.blocks hb in
    let z = mul-add b r.blocks (gb + c) in
    let few : c ≤ n = let k = a.touched_most in omega arith in
    record {
      both = below_next b (q.blocks + hb) (r.blocks + gb + c) pos
          (⊎_elim (λ (l : q.skip < b). omega arith) (λ (l : q.skip ≡ r.skip). omega arith)
          a.took.skip_is);
      group = omega arith;
      few = few;
    }

-- As many members are touched as records came, at most, and as there are.
touched_most : {p n : ℕ} {key : Record → Record} {es : List Entry} {s t : RigState} {r q : Reader}
    {g h : Writers} → Sound s → touched_of (members_in g) ≡ 0
    → length g.words.items ≡ length es → Dealt p n key es s t r q g h
    → touched_of (members_in h) ≤ min n (length es)
touched_most {p} {n} {key} {es} {s} {t} {r} {q} {g} {h} sound none len a =
    let x = a.touched_most in
    let y = touched_few (members_in h) in
    let z = members_len h.words.items h.rack in
    let w = a.len in
    omega arith

-- The peak is as many blocks as both had, and one for each member that may be touched.
pub dealt_next : {i : ℕ} {key : Record → Record} {es : List Entry} {s t u : RigState}
    {r q w : Reader} {g h k : Writers} → Sound s → touched_of (members_in g) ≡ 0
    → length g.words.items ≡ length es
    → Dealt (r.blocks + (group_account g).blocks + min i (length es)) i key es s t r q g h
    → Dealt (max (q.blocks + (group_account h).blocks) (w.blocks +
    (group_account k).blocks)) 1 key es
    t u q w h k
    → Dealt (r.blocks + (group_account g).blocks + min (i + 1) (length es))
    (i + 1) key es s u r w g k
dealt_next {i} {key} {es} {s} {t} {u} {r} {q} {w} {g} {h} {k} sound none len a b =
    let c = dealt_then a b in
    let x = (room_of sound none a).both in
    let y = (room_of sound none c).both in
    let z = touched_most sound none len a in
    let v = touched_most sound none len c in
    dealt_wider (omega arith) c

-- A step gave up.
pub deals_failed : {T : Type 0} {i : ℕ} {s t : RigState} {q : Reader} {h : Writers} {fault : EmFault} (u : RigState) (r w : Reader)
    (g k : Writers) (key : Record → Record) (es : List Entry) (n : ℕ) (result : Result T EmFault)
    → IsErrAnd result (λ f. f ≡ fault) → Sound s → touched_of (members_in g) ≡ 0
    → length g.words.items ≡ length es → i < n
    → Dealt (r.blocks + (group_account g).blocks + min i (length es)) i key es s t r q g h
    → Stops (q.blocks + (group_account h).blocks + 1) ((group_account h).paid + 3)
    ((group_account h).unstored + 1) (both_blocks t q h) (both_account q h) t u fault
    → DealsTo n key es s u r w g k result
deals_failed u r w g k key es n (Ok x) e sound none len lt a b = absurd e
deals_failed {T} {i} {s} {t} {q} {h} {fault} u r w g k key es n (Err f) e sound none len lt a b =
    let p = payload_in s in
    let low = sound.shape.block_low in
    let room = room_of sound none a in
    let x = room.both in
    let z = touched_most sound none len a in
    let y = account_is (members_in g) in
    let v = account_is (members_in h) in
    let o = unstored_few (members_in h) in
    let c = touched_of (members_in h) in
    let more = more_by p ((group_account g).blocks + c) (group_account h).blocks n (omega arith)
    (let m = room.group in omega arith) in
    subst (λ (y : EmFault). Stops (r.blocks + (group_account g).blocks + min n (length es) + 1)
    ((group_account g).paid + dealing_moves s n (length es)) (min n (length es) + 1)
    (both_blocks s r g) (both_account r g) s u y) (sym e)
    (stops_wider (omega arith) (omega arith) (omega arith) (stops_after a.runs b))

-- The members of a group to which nothing was appended.
chains_get : (es : List Entry) (j : ℕ) → j < length es
    → get_or (chain_members es) j no_member ≡ inl (buffer_of (get_or es j no_entry))
chains_get [] j l = absurd (omega arith)
chains_get (e ∷ es) zero l = refl
chains_get (e ∷ es) (suc j) l = chains_get es j (omega arith)

pub places_get : (n : ℕ) (es : List Entry) (j : ℕ) → j < length es → HavePlaces n es
    → HasPlaces n (buffer_of (get_or es j no_entry))
places_get n [] j l h = absurd (omega arith)
places_get n (e ∷ es) zero l h = h.0
places_get n (e ∷ es) (suc j) l h = places_get n es j (omega arith) h.1

pub awaits_len : {n : ℕ} {g : Writers} {es : List Entry} → AwaitsRecords n g es
    → length g.words.items ≡ length es
awaits_len {n} {g} {es} a = sym (members_len g.words.items g.rack)
    ∙ (ap (λ (xs : List Member). length xs) a.members ∙ chains_len es)

pub awaits_none : {n : ℕ} {g : Writers} {es : List Entry} → AwaitsRecords n g es
    → touched_of (members_in g) ≡ 0
awaits_none {n} {g} {es} a = ap touched_of a.members ∙ chains_untouched es

-- They can take one more after fewer steps than they have places for.
pub can_take : {p i n : ℕ} {key : Record → Record} {es : List Entry} {s t : RigState}
    {r q : Reader} {g h : Writers} → AwaitsRecords n g es → i < n → Dealt p i key es s t r q g h
    → CanTake h es
can_take {p} {i} {n} {key} {es} {s} {t} {r} {q} {g} {h} a lt d =
    let len = awaits_len a in
    record {
      len = d.len ∙ len;
      some = a.some;
      grow = λ j l.
          let c = buffer_of (get_or es j no_entry) in
          let places = places_get n es j l a.places in
          let is : member_at g j ≡ inl c =
          ap (λ (xs : List Member). get_or xs j no_member) a.members ∙ chains_get es j l in
          let grew : Grew i s t (inl c) (member_at h j) =
          rw is at (d.grew j (omega arith)) in
          let x = grew.count_most in
          let y = grew.blocks_most in
          let z = places.count in
          let w = places.blocks in
          can_grow (member_at h j) (omega arith) (omega arith);
    }

-- The first step.
pub dealt_begins : {s : RigState} {r : Reader} {g : Writers} (key : Record → Record)
    (es : List Entry)
    → Sound s → AreBoth s r g
    → Dealt (r.blocks + (group_account g).blocks + min 0 (length es)) 0 key es s s r r g g
dealt_begins key es h i = dealt_wider (omega arith) (dealt_none key es h i)
