-- Records that are read from a chain and appended to the members of a group, one after another.
use Rattle.std.proofs.Common.{◌≡◌, ℕ, ◌+◌, ◌<◌, max, Bool, true, false, List, [], ◌∷◌, ◌++◌, length, refl, sym, ap, ◌∙◌, subst, arith, IsTrue, ⊎_elim, if◌then◌else◌, Result, Ok, Err, OnOk, IfErr, IsErrAnd, cond}
use Rattle.std.specs.Prelude.{◌≢◌}
use Rattle.std.proofs.lemmas.Bool.{cases_eq}
use Rattle.em_record.specs.declared.record.Record.{Record}
use Rattle.em_space.specs.Held.{Holds}
use Rattle.em_space.specs.Ledger.{Halts, Runs, Spends, Stops}
use Rattle.em_space.specs.Rig.{RigState, Goes, BlockCause}
use Rattle.em_space.specs.declared.fault.EmFault.{EmFault}
use Rattle.em_space.proofs.Lists.{apart_sym, distinct_apart, distinct_join, in_use_append}
use Rattle.em_space.proofs.Runs.{runs_as, runs_first, runs_of, runs_second, runs_then, stops_after, stops_first, stops_second, stops_wider}
use Rattle.em_space.proofs.Steps.{block_cause}
use Rattle.em_chain.specs.Chain.{chain_blocks}
use Rattle.em_chain.specs.Reader.{reader_blocks, rest_of}
use Rattle.em_chain.specs.Reads.{Reads}
use Rattle.em_chain.specs.Session.{Took, taking_account}
use Rattle.em_chain.specs.Writers.{GroupStays, IsGroup, MemberAppends, MemberStays, MemberWrote, Member, StopsAppending, group_account, group_blocks, member_items, members_in}
use Rattle.em_chain.specs.declared.reader.Reader.{Reader}
use Rattle.em_chain.specs.declared.writers.Writers.{Writers}
use Rattle.em_chain.proofs.Keeps.{has_kept, payload_kept}
use Rattle.em_chain.proofs.Readers.{reader_stays}
use Rattle.em_chain.proofs.Sessions.{took_one, took_stays, took_then}
use Rattle.em_chain.proofs.Withins.{within_ends}
use Rattle.em_chain.proofs.WritersMembers.{members_len}
use Rattle.em_chain.proofs.WritersSession.{group_stays, rack_kept}
use Rattle.em_record.specs.Order.{is_below}
use Rattle.em_node.specs.Node.{place_of}
use Rattle.em_node.specs.declared.entry.Entry.{Entry}
use Rattle.em_tree_model.specs.Pouring.{add_at}
use Rattle.em_empty.specs.Dealt.{AreBoth, Dealt, DealsOne, Grew, both_account, both_blocks, member_lists, op_place}
use Rattle.em_empty.proofs.Groups.{filled_all, lists_add}

-- Both hold their blocks.
pub both_holds : {s : RigState} {r : Reader} {g : Writers} → AreBoth s r g → IsTrue s.device.told
    → Holds s (both_blocks s r g)
both_holds {s} {r} {g} i z =
    let a = (i.reader.chain.told z).holds in
    let b = i.group.members_are.holds z in
    record {
      in_use = in_use_append s (chain_blocks s (rest_of r)) (group_blocks s g) a.in_use b.in_use;
      distinct = λ y. distinct_join (chain_blocks s (rest_of r)) (group_blocks s g) (a.distinct y)
          (b.distinct y) (i.apart z);
    }

taking_goes : {s t : RigState} (r : Reader) → r.taking ≡ true → Goes (reader_blocks s r) s t
    → Goes (chain_blocks s (rest_of r)) s t
taking_goes {s} {t} r e g = subst (λ (b : Bool).
    Goes (if b then chain_blocks s (rest_of r) else []) s t) e g

-- The group over a call on the reader,
group_beside : {s t : RigState} {r : Reader} {g : Writers} → AreBoth s r g
    → Goes (chain_blocks s (rest_of r)) s t → GroupStays s t g
group_beside {s} {t} {r} {g} i d =
    let e = d.frames.free in
    group_stays (chain_blocks s (rest_of r)) s t g d.touches
    (λ z. apart_sym (chain_blocks s (rest_of r)) (group_blocks s g) (i.apart z))
    (rack_kept i.group.has d.frames.shape d.frames.rack (omega arith)) i.group

-- and both after it.
record AfterRead (s t : RigState) (r q : Reader) (g : Writers) (x : Record) : Type 0 where
  runs : Runs (r.blocks + (group_account g).blocks) (both_blocks s r g) (both_blocks t q g)
      (both_account r g) (both_account q g) s t
  took : Took s t r q (x ∷ [])
  stays : GroupStays s t g
  are : AreBoth t q g

after_read : {s t : RigState} {r q : Reader} {g : Writers} {x : Record} → AreBoth s r g
    → Goes (reader_blocks s r) s t → Reads s t r q x
    → Spends r.blocks (taking_account r) (taking_account q) s t → AfterRead s t r q g x
after_read {s} {t} {r} {q} {g} {x} i go h k =
    let ks = chain_blocks s (rest_of r) in
    let js = chain_blocks t (rest_of q) in
    let d = taking_goes r i.taking go in
    let o = took_one ks d.touches h in
    let one = runs_of ks js d (within_ends s ks js o.blocks) (λ z. (o.is.chain.told z).holds) k in
    let st = group_beside i d in
    let runs : Runs (r.blocks + (group_account g).blocks) (both_blocks s r g) (both_blocks t q g)
    (both_account r g) (both_account q g) s t =
    runs_as (both_blocks t q g) (runs_first (group_blocks s g) (group_account g) (both_holds i) one)
    (λ z. ap (λ (l : List ℕ). js ++ l) (st.blocks z)) in
    record {
      runs = runs;
      took = o;
      stays = st;
      are = record {
        reader = o.is;
        taking = h.taking ∙ i.taking;
        group = st.is;
        apart = λ y. distinct_apart js (group_blocks t g)
            ((runs.session.holds (sym o.told ∙ y)).distinct y);
      };
    }

-- A member that got one record, and one that got none.
grew_here : {s t u : RigState} {x y : Member} {v : Record} → t.device.told ≡ s.device.told
    → MemberStays s t x → MemberWrote t u x y (v ∷ []) → Grew 1 s u x y
grew_here told a b = record {
  packed = λ z p. b.packed (told ∙ z) (a.packed z p);
  tight = λ z p. b.tight (told ∙ z) (a.tight z p);
  count_most = let c = b.count_most in omega arith;
  blocks_most = let c = b.blocks_most in omega arith;
}

grew_past : {s t u : RigState} {x : Member} → t.device.told ≡ s.device.told → MemberStays s t x
    → MemberStays t u x → Grew 1 s u x x
grew_past told a b = record {
  packed = λ z p. b.packed (told ∙ z) (a.packed z p);
  tight = λ z p. b.tight (told ∙ z) (a.tight z p);
  count_most = omega arith;
  blocks_most = omega arith;
}

-- One record was read, and appended to the member of its place.
pub dealt_one : {s t u : RigState} {r q : Reader} {g h : Writers} {x : Record} (key : Record
    → Record)
    (es : List Entry) (i : ℕ) → AreBoth s r g → Goes (reader_blocks s r) s t → Reads s t r q x
    → Spends r.blocks (taking_account r) (taking_account q) s t → i ≡ op_place key es x
    → i < length g.words.items → MemberAppends t u g h i x
    → Dealt (max (r.blocks + (group_account g).blocks) (q.blocks +
    (group_account h).blocks)) 1 key es
    s u r q g h
dealt_one {s} {t} {u} {r} {q} {g} {h} {x} key es i is go rd k e lt b =
    let a = after_read is go rd k in
    let told = a.took.told in
    let b2 = b.runs in
    let st = reader_stays (group_blocks t g) t u q b2.session.touches a.are.apart
    (has_kept 1 (length q.frame) t.pool u.pool b2.frames a.are.reader.frame) a.are.reader in
    let js = chain_blocks t (rest_of q) in
    let two : Runs (q.blocks + (group_account h).blocks) (both_blocks t q g) (both_blocks u q h)
    (both_account q g) (both_account q h) t u =
    runs_as (both_blocks u q h) (runs_second js (taking_account q) (both_holds a.are) b2)
    (λ z. ap (λ (l : List ℕ). l ++ group_blocks u h) (st.blocks z)) in
    let n : length (members_in g) ≡ length g.words.items = members_len g.words.items g.rack in
    let m : length (members_in h) ≡ length h.words.items = members_len h.words.items h.rack in
    let same = b.len in
    let p = payload_kept (both_blocks s r g) s t a.runs.session.touches in
    let f = filled_all s t (members_in g) p in
    record {
      ops = x ∷ [];
      ops_len = refl;
      runs = runs_then a.runs two;
      took = took_then (x ∷ []) [] a.took (took_stays (group_blocks t g) b2.session.touches st);
      is = b.is;
      len = b.len;
      items = λ z.
          lists_add (member_items s) (member_items u) (members_in g) (members_in h) i x
          (omega arith)
          (omega arith)
          (b.wrote.items (told ∙ z)
          ∙ ap (λ (l : List Record). l ++ x ∷ []) ((a.stays.members i lt).items z))
          (λ j y l. ap (λ (v : Member). member_items u v) (b.others j y)
          ∙ ((b.others_stay j y (omega arith)).items (told ∙ z)
          ∙ (a.stays.members j (omega arith)).items z))
          ∙ ap (λ (j : ℕ). add_at (member_lists s g) j x) e;
      grew = λ j l. ⊎_elim
          (λ (y : j ≡ i). rw y (grew_here told (a.stays.members i lt) b.wrote))
          (λ (y : j ≢ i). rw (b.others j y)
          (grew_past told (a.stays.members j l) (b.others_stay j y l)))
          (cases_eq j i);
      filled_most = let w = b.filled_most in omega arith;
      touched_most = b.touched_most;
    }

-- A read that gave up,
pub stops_reading : {s t : RigState} {r : Reader} {g : Writers} {fault : EmFault} → AreBoth s r g
    → Goes (reader_blocks s r) s t → Halts r.blocks 0 0 (taking_account r) s t fault
    → BlockCause s t fault
    → Stops (r.blocks + (group_account g).blocks + 1) ((group_account g).paid + 3)
    ((group_account g).unstored + 1) (both_blocks s r g) (both_account r g) s t fault
stops_reading {s} {t} {r} {g} {fault} i go h c =
    stops_wider (omega arith) (omega arith) (omega arith)
    (stops_first (group_blocks s g) (group_account g)
    (record { goes = taking_goes r i.taking go; halts = h; cause = block_cause s t fault c }))

-- and an append after one.
pub stops_appending : {s t u : RigState} {r q : Reader} {g : Writers} {x : Record} {fault : EmFault}
    → AreBoth s r g → Goes (reader_blocks s r) s t → Reads s t r q x
    → Spends r.blocks (taking_account r) (taking_account q) s t → StopsAppending t u g fault
    → Stops (r.blocks + (group_account g).blocks + 1) ((group_account g).paid + 3)
    ((group_account g).unstored + 1) (both_blocks s r g) (both_account r g) s u fault
stops_appending {s} {t} {u} {r} {q} {g} {x} {fault} i go rd k b =
    let a = after_read i go rd k in
    let f = rd.fewer in
    stops_wider (omega arith) (omega arith) (omega arith)
    (stops_after a.runs (stops_second (chain_blocks t (rest_of q)) (taking_account q) b))

-- What a step says, by its result.
pub deals_refused : {T : Type 0} (s t : RigState) (r q : Reader) (g h : Writers)
    (key : Record → Record) (es : List Entry) (result : Result T EmFault) (fault : EmFault)
    → IsErrAnd result (λ f. f ≡ fault)
    → Stops (r.blocks + (group_account g).blocks + 1) ((group_account g).paid + 3)
    ((group_account g).unstored + 1) (both_blocks s r g) (both_account r g) s t fault
    → DealsOne key es s t r q g h result
deals_refused s t r q g h key es (Ok x) fault e k = absurd e
deals_refused s t r q g h key es (Err f) fault e k =
    subst (λ (y : EmFault). Stops (r.blocks + (group_account g).blocks + 1)
    ((group_account g).paid + 3) ((group_account g).unstored + 1) (both_blocks s r g)
    (both_account r g) s t y) (sym e) k

pub deals_by : {T : Type 0} {s t : RigState} {r q : Reader} {g : Writers} {x : Record}
    (u : RigState)
    (h : Writers) (key : Record → Record) (es : List Entry) (i : ℕ) (result : Result T EmFault)
    → AreBoth s r g
    → Goes (reader_blocks s r) s t → Reads s t r q x
    → Spends r.blocks (taking_account r) (taking_account q) s t → i ≡ op_place key es x
    → i < length g.words.items → OnOk result (MemberAppends t u g h i x)
    → IfErr result (StopsAppending t u g) → DealsOne key es s u r q g h result
deals_by u h key es i (Ok y) is go rd k e lt a b = dealt_one key es i is go rd k e lt a
deals_by u h key es i (Err fault) is go rd k e lt a b = stops_appending is go rd k b

-- The group after a read.
pub group_after : {s t : RigState} {r : Reader} {g : Writers} → AreBoth s r g
    → Goes (reader_blocks s r) s t → IsGroup t g
group_after {s} {t} {r} {g} i go = (group_beside i (taking_goes r i.taking go)).is

-- The place of a key is one of the entries.
place_by : (z : Bool) (m n : ℕ) → m < n → cond z 0 (1 + m) < 1 + n
place_by true m n h = omega arith
place_by false m n h = omega arith

pub place_within : (q : Record) (es : List Entry) → 0 < length es → place_of q es < length es
place_within q [] h = absurd (omega arith)
place_within q (e ∷ []) h = omega arith
place_within q (e ∷ f ∷ fs) h =
    let k = place_by (is_below q f.low) (place_of q (f ∷ fs)) (length (f ∷ fs))
    (place_within q (f ∷ fs) (omega arith)) in
    omega arith
