-- The records of a chain, shared out over a node in a frame by a group of its buffers.
use Rattle.std.proofs.Common.{◌≡◌, ℕ, zero, suc, ◌+◌, ◌-◌, ◌*◌, ◌<◌, ◌≤◌, min, max, List, [], ◌∷◌, ◌++◌, length, map, get_or, drop, take, refl, sym, ap, ◌∙◌, subst, arith, IsTrue, Result, Ok, Err, IsErrAnd, OnOk}
use Rattle.std.proofs.Math.Nat.{mul-add}
use Rattle.std.proofs.lemmas.Nat.{le-div}
use Rattle.em_record.specs.declared.record.Record.{Record}
use Rattle.em_space.specs.Held.{Within}
use Rattle.em_space.specs.Ledger.{Session, Spends, Stops}
use Rattle.em_space.specs.Rig.{RigState, Sound, Touches}
use Rattle.em_space.specs.declared.fault.EmFault.{EmFault}
use Rattle.em_space.proofs.Ledgers.{full_by, halts_after, spends_then}
use Rattle.em_space.proofs.Lists.{flat}
use Rattle.em_space.proofs.Paying.{pays_more}
use Rattle.em_space.proofs.Sessions.{session_trans}
use Rattle.em_space.proofs.Steps.{cause_after}
use Rattle.em_space.proofs.Within.{touches_within}
use Rattle.em_chain.specs.Chain.{chain_blocks, chain_items, payload_in}
use Rattle.em_chain.specs.Counts.{ceiling}
use Rattle.em_chain.specs.Writers.{Member, account_of, blocks_of, group_account, group_blocks, member_at, member_items, members_in, no_member, touched_of}
use Rattle.em_chain.specs.declared.chain.Chain.{Chain}
use Rattle.em_chain.specs.declared.writers.Writers.{Writers}
use Rattle.em_chain.proofs.Counts.{ceiling_sum}
use Rattle.em_chain.proofs.Keeps.{payload_kept}
use Rattle.em_chain.proofs.WritersMembers.{members_len}
use Rattle.em_chain.proofs.WritersSession.{filled_untouched, group_none, group_room}
use Rattle.em_node.specs.declared.entry.Entry.{Entry}
use Rattle.em_node.specs.Node.{Is, entries_of, level_of}
use Rattle.em_node.proofs.Seams.{entries_is, level_is, node_is}
use Rattle.em_tree_model.specs.Pouring.{given_out}
use Rattle.em_tree_blocks.specs.Node.{buffer_of}
use Rattle.em_tree_blocks.specs.Reading.{buffer_items}
use Rattle.em_empty.specs.Node.{AreBuffers, KeepForms, SameLinks, buffer_blocks, buffer_count}
use Rattle.em_empty.specs.Dealt.{AwaitsRecords, DealtAll, Grew, chain_members, dealing_moves, op_place, source_account, source_blocks}
use Rattle.em_empty.specs.Returned.{TurnInto, Returned, ReturnsTo, StopsReturning}
use Rattle.em_empty.specs.Shared.{SharedTo, SharesTo, StopsSharing, shared_account, sharing_account, sharing_blocks, sharing_peak}
use Rattle.em_empty.proofs.Groups.{account_is, chains_count, chains_flat, chains_unstored, owed_none, touched_few, unstored_few}
use Rattle.em_empty.proofs.Rounds.{awaits_len, awaits_none}

-- The buffers that members became.
ends_buffers : (s t : RigState) (xs : List Member) (fs : List Entry) → TurnInto s t xs fs
    → AreBuffers t fs
ends_buffers s t [] [] e = tt
ends_buffers s t [] (f ∷ fs) e = absurd e
ends_buffers s t (x ∷ xs) [] e = absurd e
ends_buffers s t (x ∷ xs) (f ∷ fs) e = (e.0.is, ends_buffers s t xs fs e.1)

ends_items : (s t : RigState) (xs : List Member) (fs : List Entry) → IsTrue s.device.told
    → TurnInto s t xs fs → buffer_items t fs ≡ map (member_items s) xs
ends_items s t [] [] z e = refl
ends_items s t [] (f ∷ fs) z e = absurd e
ends_items s t (x ∷ xs) [] z e = absurd e
ends_items s t (x ∷ xs) (f ∷ fs) z e = rw (e.0.items z, ends_items s t xs fs z e.1) refl

ends_count : (s t : RigState) (xs : List Member) (fs : List Entry) → TurnInto s t xs fs
    → buffer_count fs ≡ (account_of xs).blocks
ends_count s t [] [] e = refl
ends_count s t [] (f ∷ fs) e = absurd e
ends_count s t (x ∷ xs) [] e = absurd e
ends_count s t (x ∷ xs) (f ∷ fs) e =
    let h = ends_count s t xs fs e.1 in
    let b = e.0.blocks in
    omega arith

ends_forms : {n : ℕ} {s a : RigState} (t : RigState) (es : List Entry) (xs : List Member)
    (fs : List Entry)
    → a.device.told ≡ s.device.told → length xs ≡ length es
    → ((j : ℕ) → j < length es
    → Grew n s a (get_or (chain_members es) j no_member) (get_or xs j no_member))
    → TurnInto a t xs fs → KeepForms s t es fs
ends_forms t [] xs fs told l g e = tt
ends_forms t (x ∷ es) [] fs told l g e = absurd (omega arith)
ends_forms t (x ∷ es) (y ∷ xs) [] told l g e = absurd e
ends_forms t (x ∷ es) (y ∷ xs) (f ∷ fs) told l g e =
    let h = g zero (omega arith) in (
      record {
        packed = λ z p. e.0.packed (told ∙ z) (h.packed z p);
        tight = λ z p. e.0.tight (told ∙ z) (h.tight z p);
      },
      ends_forms t es xs fs told (omega arith) (λ j k. g (suc j) (omega arith)) e.1,
    )

chains_items : (s : RigState) (es : List Entry) → map (member_items s)
    (chain_members es) ≡ buffer_items s es
chains_items s [] = refl
chains_items s (e ∷ es) =
    ap (λ (l : List (List Record)). chain_items s (buffer_of e) ∷ l) (chains_items s es)

-- The group of a node's buffers, by its members.
start_blocks : {n : ℕ} {g : Writers} {es : List Entry} (s : RigState) → AwaitsRecords n g es
    → group_blocks s g ≡ buffer_blocks s es
start_blocks {n} {g} {es} s a =
    ap (λ (xs : List Member). flat (blocks_of s xs)) a.members ∙ chains_flat s es

record Starts (g : Writers) (es : List Entry) : Type 0 where
  blocks : (group_account g).blocks ≡ buffer_count es
  unstored : (group_account g).unstored ≡ 0
  paid : (group_account g).paid ≡ 2 * buffer_count es
  owed : (group_account g).owed ≡ 0

starts : {n : ℕ} {g : Writers} {es : List Entry} → AwaitsRecords n g es → Starts g es
starts {n} {g} {es} a =
    let b = ap (λ (xs : List Member). (account_of xs).blocks) a.members ∙ chains_count es in
    let u = ap (λ (xs : List Member). (account_of xs).unstored) a.members ∙ chains_unstored es in
    let p = account_is (members_in g) in
    record { blocks = b; unstored = u; paid = omega arith; owed = owed_none (members_in g) }

-- How many blocks the group has in the end, and how many of its members were appended to.
record Ends (n e : ℕ) (s : RigState) (es : List Entry) (h : Writers) : Type 0 where
  blocks : (group_account h).blocks
      ≤ buffer_count es + touched_of (members_in h) + ceiling n (payload_in s)
  touched : touched_of (members_in h) ≤ min n e
  unstored : (group_account h).unstored ≤ touched_of (members_in h)
  paid : (group_account h).paid ≡ 2 * (group_account h).blocks + (group_account h).unstored
  owed : (group_account h).owed ≡ 0

ends : {key : Record → Record} {es : List Entry} {s t : RigState} {c : Chain} {g h : Writers}
    → Sound s → AwaitsRecords c.count g es → DealtAll key es s t c g h → Ends c.count
    (length es) s es h
ends {key} {es} {s} {t} {c} {g} {h} sound w a =
    let p = payload_in s in
    let low = sound.shape.block_low in
    let pos : 0 < p = omega arith in
    let e : payload_in t ≡ p = payload_kept (source_blocks s c g) s t a.runs.session.touches in
    let room = rw e at (group_room (group_none a.runs.session.sound a.is)) in
    let full = filled_untouched s (members_in g) (awaits_none w) in
    let most = a.filled_most in
    let few = a.touched_most in
    let none = awaits_none w in
    let k = touched_of (members_in h) in
    let hb = (group_account h).blocks in
    let gb = (group_account g).blocks in
    let first = (starts w).blocks in
    let x = mul-add p gb k in
    let len = touched_few (members_in h) in
    let len2 = members_len h.words.items h.rack in
    let len3 = a.len in
    let len4 = awaits_len w in
    let c1 = ceiling_sum p (gb + k) (p * (gb + k)) c.count pos (omega arith) in
    let c2 = le-div hb (p * (gb + k) + c.count + p - 1) p pos (omega arith) in
    record {
      blocks = omega arith;
      touched = omega arith;
      unstored = unstored_few (members_in h);
      paid = account_is (members_in h);
      owed = owed_none (members_in h);
    }

none_left : {s t : RigState} {g h : Writers} {b c : List Record} → Returned s t g h b c
    → length h.words.items ≡ 0 → members_in h ≡ []
none_left {s} {t} {g} {h} r e = no_list (members_in h) (members_len h.words.items h.rack ∙ e)
  where
    no_list : (xs : List Member) → length xs ≡ 0 → xs ≡ []
    no_list [] e = refl
    no_list (x ∷ xs) e = absurd (omega arith)

-- All went well,
shared_to : {key : Record → Record} {s a t : RigState} {c : Chain} {g h k : Writers}
    {b d : List Record} → Sound s → AwaitsRecords c.count g (entries_of b)
    → DealtAll key (entries_of b) s a c g h → Returned a t h k b d → length k.words.items ≡ 0
    → SharedTo key s t c b d
shared_to {key} {s} {a} {t} {c} {g} {h} {k} {b} {d} sound w x r none =
    let es = entries_of b in
    let fs = r.done in
    let told = x.runs.session.touches.told in
    let is : Is d (level_of b) fs =
    subst (λ (n : ℕ). Is d (level_of b) (take n es ++ fs)) none r.node in
    let same : entries_of d ≡ fs = entries_is d (level_of b) fs is in
    let gone : members_in h ≡ r.gone =
    r.split ∙ ap (λ (xs : List Member). xs ++ r.gone) (none_left r none) in
    let all : TurnInto a t (members_in h) fs =
    subst (λ (xs : List Member). TurnInto a t xs fs) (sym gone) r.ends in
    let links : SameLinks es fs =
    subst (λ (n : ℕ). SameLinks (drop n es) fs) none r.links in
    let m = members_len h.words.items h.rack in
    let lh = x.len in
    let lg = awaits_len w in
    let forms : KeepForms s t es fs = ends_forms t es (members_in h) fs told (omega arith)
    (λ j l. subst (λ (xs : List Member). Grew c.count s a (get_or xs j no_member) (member_at h j))
    w.members (x.grew j (omega arith))) all in
    let gb = start_blocks s w in
    let one : Session (sharing_blocks s c b) s a (group_blocks a h) =
    subst (λ (ks : List ℕ). Session (chain_blocks s c ++ ks) s a
    (group_blocks a h)) gb x.runs.session in
    let two : Session (group_blocks a h) a t (buffer_blocks t fs) =
    subst (λ (xs : List Member). Session (group_blocks a h) a t (flat
    (blocks_of t xs) ++ buffer_blocks t fs))
    (none_left r none) r.session in
    let session = session_trans one two in
    let f = starts w in
    let f1 = f.blocks in
    let f2 = f.unstored in
    let f3 = f.paid in
    let f4 = f.owed in
    let o = ends sound w x in
    let o1 = o.blocks in
    let o2 = o.touched in
    let o3 = o.unstored in
    let count = ends_count a t (members_in h) fs all in
    let held = x.runs.spends.held in
    let q1 = ap (λ (xs : List Member). (account_of xs).blocks) gone in
    let q2 = ap (λ (xs : List Member). (account_of xs).unstored) gone in
    let z1 = ap (λ (xs : List Member). (account_of xs).blocks) (none_left r none) in
    let z2 = ap (λ (xs : List Member). (account_of xs).unstored) (none_left r none) in
    let z3 = ap (λ (xs : List Member). (account_of xs).paid) (none_left r none) in
    let sp = spends_then x.runs.spends r.spends in
    let s1 = sp.used in
    let s2 = sp.most in
    let s3 = sp.moves in
    let spends : Spends (sharing_peak c es) (sharing_account s c es) (shared_account fs) s t =
    record {
      held = omega arith;
      used = omega arith;
      most = omega arith;
      moves = omega arith;
      later = sp.later;
      pays = pays_more sp.pays (omega arith);
    } in
    record {
      fills = record {
        node = node_is d (level_of b) fs is;
        level = level_is d (level_of b) fs is;
        links = rw same links;
        buffers = rw same (ends_buffers a t (members_in h) fs all);
        items = λ z. ap (λ (gs : List Entry). buffer_items t gs) same
            ∙ (ends_items a t (members_in h) fs (told ∙ z) all
            ∙ (x.items z
            ∙ ap (λ (bs : List (List Record)). given_out (op_place key es) bs (chain_items s c))
            (ap (λ (xs : List Member). map (member_items s) xs) w.members ∙ chains_items s es)));
        forms = rw same forms;
      };
      session = rw same session;
      spends = rw same spends;
    }

-- or a call gave up.
stopped_dealing : {s t : RigState} {c : Chain} {g : Writers} {b : List Record} {fault : EmFault}
    → AwaitsRecords c.count g (entries_of b)
    → Stops (c.blocks + (group_account g).blocks + min c.count (length (entries_of b)) + 1)
    ((group_account g).paid + dealing_moves s c.count (length (entries_of b)))
    (min c.count (length (entries_of b)) + 1) (source_blocks s c g) (source_account c g) s t fault
    → StopsSharing s t c b fault
stopped_dealing {s} {t} {c} {g} {b} {fault} w x =
    let es = entries_of b in
    let f = starts w in
    let f1 = f.blocks in
    let f2 = f.unstored in
    let f3 = f.paid in
    let f4 = f.owed in
    let h = x.halts in
    let h1 = h.used in
    let h2 = h.most in
    let h3 = h.moves in
    record {
      sound = x.goes.sound;
      touches = subst (λ (ks : List ℕ). Touches (chain_blocks s c ++ ks) s t) (start_blocks s w)
          x.goes.touches;
      halts = record {
        used = omega arith;
        full = full_by fault
            (t.used + (c.blocks + (group_account g).blocks)
            < s.used + (c.blocks + (group_account g).blocks + min c.count (length es) + 1))
            (t.used + (c.blocks + buffer_count es) < s.used + (sharing_peak c es + 1))
            (λ q. omega arith) h.full;
        most = omega arith;
        moves = omega arith;
        later = h.later;
        pays = pays_more h.pays (omega arith);
      };
      cause = x.cause;
    }

stopped_returning : {key : Record → Record} {s a t : RigState} {c : Chain} {g h : Writers}
    {b : List Record} {fault : EmFault} → Sound s → AwaitsRecords c.count g (entries_of b)
    → DealtAll key (entries_of b) s a c g h → StopsReturning a t h fault
    → StopsSharing s t c b fault
stopped_returning {key} {s} {a} {t} {c} {g} {h} {b} {fault} sound w x r =
    let es = entries_of b in
    let f = starts w in
    let f1 = f.blocks in
    let f2 = f.unstored in
    let f3 = f.paid in
    let f4 = f.owed in
    let o = ends sound w x in
    let o1 = o.blocks in
    let o2 = o.touched in
    let o3 = o.unstored in
    let o4 = o.paid in
    let held = x.runs.spends.held in
    let k = halts_after x.runs.spends r.halts in
    let h1 = k.used in
    let h2 = k.most in
    let h3 = k.moves in
    let n = c.blocks + (group_account g).blocks + min c.count (length es) in
    record {
      sound = r.sound;
      touches = touches_within s a t (sharing_blocks s c b) (group_blocks a h)
          (subst (λ (ks : List ℕ). Touches (chain_blocks s c ++ ks) s a) (start_blocks s w)
          x.runs.session.touches)
          (subst (λ (ks : List ℕ). Within s (chain_blocks s c ++ ks) (group_blocks a h))
          (start_blocks s w) x.runs.session.within) r.touches;
      halts = record {
        used = omega arith;
        full = full_by fault
            (t.used + (c.blocks + (group_account g).blocks) < s.used + max n
            (group_account h).blocks)
            (t.used + (c.blocks + buffer_count es) < s.used + (sharing_peak c es + 1))
            (λ q. omega arith) k.full;
        most = omega arith;
        moves = omega arith;
        later = k.later;
        pays = pays_more k.pays (omega arith);
      };
      cause = cause_after (source_blocks s c g) s a t fault x.runs.session.touches r.cause;
    }

-- By the result.
pub shares_stopped : {T : Type 0} {s : RigState} {g : Writers} {fault : EmFault}
    (key : Record → Record) (c : Chain) (b : List Record) (t : RigState) (d : List Record)
    (result : Result T EmFault)
    → IsErrAnd result (λ f. f ≡ fault) → AwaitsRecords c.count g (entries_of b)
    → Stops (c.blocks + (group_account g).blocks + min c.count (length (entries_of b)) + 1)
    ((group_account g).paid + dealing_moves s c.count (length (entries_of b)))
    (min c.count (length (entries_of b)) + 1) (source_blocks s c g) (source_account c g) s t fault
    → SharesTo key s t c b d result
shares_stopped key c b t d (Ok x) e w y = absurd e
shares_stopped {T} {s} {g} key c b t d (Err f) e w y =
    subst (λ (z : EmFault). StopsSharing s t c b z) (sym e) (stopped_dealing w y)

pub shares_by : {T : Type 0} {key : Record → Record} {s a : RigState} {c : Chain}
    {g h : Writers} (b : List Record) (n : ℕ) (t : RigState) (k : Writers) (d : List Record)
    (result : Result T EmFault) → Sound s → AwaitsRecords c.count g (entries_of b)
    → DealtAll key (entries_of b) s a c g h → n ≡ length (entries_of b)
    → ReturnsTo n a t h k b d result → SharesTo key s t c b d result
shares_by {T} {key} {s} {a} {c} {g} {h} b n t k d (Ok x) sound w y e r =
    let l = r.1 in
    let m = y.len in
    let j = awaits_len w in
    shared_to sound w y r.0 (omega arith)
shares_by b n t k d (Err fault) sound w y e r = stopped_returning sound w y r

pub shares_none : {T : Type 0} (a t : RigState) (h k : Writers) (b d : List Record) (n : ℕ)
    (result : Result T EmFault) → length h.words.items ≡ n → ReturnsTo n a t h k b d result
    → OnOk result (length k.words.items ≡ 0)
shares_none a t h k b d n (Ok x) e r = let l = r.1 in omega arith
shares_none a t h k b d n (Err fault) e r = tt
