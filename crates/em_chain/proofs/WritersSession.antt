-- Appends to members of a group, one after another.
use Rattle.std.proofs.Common.{◌≡◌, ℕ, ◌+◌, ◌≤◌, ◌<◌, suc, ◌^◌, inl, inr, ⊎_elim, Bool, true, false, List, length, IsTrue, [], ◌∷◌, ◌++◌, refl, sym, ap, ◌∙◌, subst, arith, append_assoc, get_or}
use Rattle.std.specs.Prelude.{◌≢◌}
use Rattle.std.proofs.Math.Dec.{eqb}
use Rattle.std.proofs.lemmas.Bool.{cases_eq}
use Rattle.std.proofs.lemmas.Bool.Decides.{eqb_tells}
use Rattle.std.proofs.lemmas.List.{append-nil, length-append}
use Rattle.em_record.specs.declared.record.Record.{Record}
use Rattle.em_space.specs.Ledger.{Stops}
use Rattle.em_space.specs.Rig.{RigState, Sound, Touches}
use Rattle.em_space.specs.Held.{Apart}
use Rattle.em_space.proofs.Held.{holds_kept}
use Rattle.em_space.proofs.Lists.{flat}
use Rattle.em_record.specs.Shape.{ShapeNumbers}
use Rattle.em_chain.proofs.WritersMembers.{KeepsFrames, blocks_same, member_apart, member_stays, members_len}
use Rattle.em_space.specs.declared.fault.EmFault.{EmFault}
use Rattle.em_space.proofs.Runs.{runs_none, runs_then, runs_wider, stops_after, stops_wider}
use Rattle.em_chain.specs.Chain.{payload_in}
use Rattle.em_chain.specs.Writers.{GroupStays, HasRack, blocks_of, members_in, no_member, IsGroup, Member, MemberAppends, MemberCanGrow, MemberEnds, MemberStays, MemberWrote, StopsAppending, group_account, group_blocks, member_account, member_at, member_count, member_filled}
use Rattle.em_chain.specs.WritersSession.{GroupWrote, Sent, sent_if, sent_to}
use Rattle.em_chain.specs.declared.writers.Writers.{Writers}
use Rattle.em_chain.proofs.Keeps.{payload_kept}
use Rattle.std.proofs.Common.{◌*◌, min}
use Rattle.em_chain.specs.Counts.{ceiling}
use Rattle.em_chain.specs.Writer.{IsWriter, filled}
use Rattle.em_chain.proofs.Counts.{ceiling_more, ceiling_sum, writer_blocks_are}
use Rattle.em_chain.specs.declared.chain.Chain.{Chain}
use Rattle.em_chain.specs.declared.writer.Writer.{Writer}
use Rattle.std.proofs.Common.{zero, ◌-◌}
use Rattle.std.proofs.Math.Nat.{mul-add, mul-suc}
use Rattle.std.proofs.lemmas.List.{length_push}
use Rattle.em_chain.specs.Writers.{account_of, filled_of, touched_of, touched_one}
use Rattle.em_chain.proofs.WritersMembers.{filled_same}

-- What one more record is for a member.
sent_here : (i j : ℕ) (x : Record) (xs : List Sent) → j ≡ i
    → sent_to j (xs ++ record { to = i; item = x } ∷ []) ≡ sent_to j xs ++ x ∷ []
sent_here i j x [] e =
    ⊎_elim (λ (k : (eqb j i ≡ true) × (j ≡ i)). ap (λ (b : Bool). sent_if b x []) k.0)
    (λ (k : (eqb j i ≡ false) × (j ≢ i)). absurd (k.1 e)) (eqb_tells j i)
sent_here i j x (y ∷ ys) e =
    ap (λ (l : List Record). sent_if (eqb j y.to) y.item l) (sent_here i j x ys e)
    ∙ front (eqb j y.to) y.item (sent_to j ys) (x ∷ [])
  where
    front : (b : Bool) (z : Record) (l k : List Record) → sent_if b z (l ++ k) ≡ sent_if b z l ++ k
    front true z l k = refl
    front false z l k = refl

sent_past : (i j : ℕ) (x : Record) (xs : List Sent) → j ≢ i
    → sent_to j (xs ++ record { to = i; item = x } ∷ []) ≡ sent_to j xs
sent_past i j x [] n =
    ⊎_elim (λ (k : (eqb j i ≡ true) × (j ≡ i)). absurd (n k.1))
    (λ (k : (eqb j i ≡ false) × (j ≢ i)). ap (λ (b : Bool). sent_if b x []) k.0) (eqb_tells j i)
sent_past i j x (y ∷ ys) n =
    ap (λ (l : List Record). sent_if (eqb j y.to) y.item l) (sent_past i j x ys n)

pub sent_few : (j : ℕ) (xs : List Sent) → length (sent_to j xs) ≤ length xs
sent_few j [] = omega arith
sent_few j (y ∷ ys) =
    let h = sent_few j ys in
    most (eqb j y.to) y.item (sent_to j ys) (length ys) h
  where
    most : (b : Bool) (z : Record) (l : List Record) (n : ℕ) → length l ≤ n
        → length (sent_if b z l) ≤ suc n
    most true z l n h = omega arith
    most false z l n h = omega arith

-- No record for a member yet,
member_none : {s : RigState} (x : Member) → MemberWrote s s x x []
member_none {s} x = record {
  items = λ z. sym (append-nil _);
  packed = λ z p. p;
  tight = λ z p. p;
  skip_is = λ z. refl;
  count_is = λ z. omega arith;
  count_most = omega arith;
  blocks_most = omega arith;
  filled_most = omega arith;
}

-- one for another member,
member_kept : {s t u : RigState} {x y : Member} {xs : List Record} → t.device.told ≡ s.device.told
    → payload_in u ≡ payload_in t → MemberWrote s t x y xs → MemberStays t u y
    → MemberWrote s u x y xs
member_kept {s} {t} {u} {x} {y} {xs} told e a b = record {
  items = λ z. b.items (told ∙ z) ∙ a.items z;
  packed = λ z p. b.packed (told ∙ z) (a.packed z p);
  tight = λ z p. b.tight (told ∙ z) (a.tight z p);
  skip_is = a.skip_is;
  count_is = a.count_is;
  count_most = a.count_most;
  blocks_most = a.blocks_most;
  filled_most = rw (filled_same t u y e) a.filled_most;
}

-- and one more.
member_more : {s t u : RigState} {x y v : Member} {xs ys : List Record}
    → t.device.told ≡ s.device.told → MemberWrote s t x y xs → MemberWrote t u y v ys
    → MemberWrote s u x v (xs ++ ys)
member_more {s} {t} {u} {x} {y} {v} {xs} {ys} told a b =
    let n = length-append xs ys in
    record {
      items = λ z. b.items (told ∙ z) ∙ ap (λ (l : List Record). l ++ ys) (a.items z)
          ∙ append_assoc _ xs ys;
      packed = λ z p. b.packed (told ∙ z) (a.packed z p);
      tight = λ z p. b.tight (told ∙ z) (a.tight z p);
      skip_is = λ z. b.skip_is (told ∙ z) ∙ a.skip_is z;
      count_is = λ z. let p = a.count_is z in let q = b.count_is (told ∙ z) in omega arith;
      count_most = let p = a.count_most in let q = b.count_most in omega arith;
      blocks_most = let p = a.blocks_most in let q = b.blocks_most in omega arith;
      filled_most = let p = a.filled_most in let q = b.filled_most in omega arith;
    }

-- No append to a group yet,
pub group_none : {s : RigState} {g : Writers} → Sound s → IsGroup s g → GroupWrote s s g g []
group_none {s} {g} h k = record {
  runs = runs_none s (group_blocks s g) (group_account g) h k.members_are.holds;
  is = k;
  len = refl;
  members = λ j l. member_none (member_at g j);
  grows = omega arith;
  filled_most = omega arith;
  touched_most = omega arith;
}

-- one more,
pub group_then : {s t u : RigState} {g h k : Writers} {xs : List Sent} (i : ℕ) (x : Record)
    → GroupWrote s t g h xs → MemberAppends t u h k i x
    → GroupWrote s u g k (xs ++ record { to = i; item = x } ∷ [])
group_then {s} {t} {u} {g} {h} {k} {xs} i x a b =
    let told = a.runs.session.touches.told in
    let up = b.grows in
    let low = a.grows in
    let e : payload_in u ≡ payload_in t =
    payload_kept (group_blocks t h) t u b.runs.session.touches in
    record {
      runs = runs_wider (omega arith) (runs_then a.runs b.runs);
      is = b.is;
      len = b.len ∙ a.len;
      members = λ j l. ⊎_elim
          (λ (q : j ≡ i).
          let m : MemberWrote t u (member_at h j) (member_at k j) (x ∷ []) = rw q b.wrote in
          subst (λ (ys : List Record). MemberWrote s u (member_at g j) (member_at k j) ys)
          (sym (sent_here i j x xs q)) (member_more told (a.members j l) m))
          (λ (q : j ≢ i).
          let m : MemberWrote s u (member_at g j) (member_at h j) (sent_to j xs) =
          member_kept told e (a.members j l) (b.others_stay j q (rw a.len l)) in
          subst (λ (ys : List Record). MemberWrote s u (member_at g j) (member_at k j) ys)
          (sym (sent_past i j x xs q))
          (subst (λ (y : Member). MemberWrote s u (member_at g j) y (sent_to j xs))
          (sym (b.others j q)) m))
          (cases_eq j i);
      grows = omega arith;
      filled_most =
          let n = length_push xs (record { to = i; item = x }) in
          let p = a.filled_most in
          let q = b.filled_most in
          omega arith;
      touched_most =
          let n = length_push xs (record { to = i; item = x }) in
          let p = a.touched_most in
          let q = b.touched_most in
          omega arith;
    }

-- and one that was refused.
pub group_stops : {s t u : RigState} {g h : Writers} {xs : List Sent} {fault : EmFault}
    → GroupWrote s t g h xs → StopsAppending t u h fault
    → Stops ((group_account h).blocks + 1) ((group_account h).paid + 3)
    ((group_account h).unstored + 1) (group_blocks s g) (group_account g) s u fault
group_stops a b = stops_wider (omega arith) (omega arith) (omega arith) (stops_after a.runs b)

-- A member that has few records and blocks can grow.
pub can_grow : (x : Member) → member_count x < 2 ^ 56 → (member_account x).blocks < 2 ^ 56
    → MemberCanGrow x
can_grow (inl c) p q = (p, q)
can_grow (inr w) p q = (p, q)

-- The rack is the group's after calls that leave as many frames free, or fewer.
pub rack_kept : {s t : RigState} {g : Writers} → HasRack s g → t.pool.shape ≡ s.pool.shape
    → t.pool.rack_out ≡ s.pool.rack_out → t.pool.free ≤ s.pool.free → HasRack t g
rack_kept {s} {t} {g} r e out less = record {
  places = rw e r.places;
  filled_by = rw e r.filled_by;
  out = let o = r.out in rw e (omega arith);
  rack_out = out ∙ r.rack_out;
}

-- A group over a call that leaves its blocks alone.
pub group_stays : (held : List ℕ) (s t : RigState) (g : Writers) → Touches held s t
    → (IsTrue s.device.told → Apart (group_blocks s g) held) → HasRack t g → IsGroup s g
    → GroupStays s t g
group_stays held s t g h a r i =
    let xs = members_in g in
    let n : length xs ≡ length g.words.items = members_len g.words.items g.rack in
    let keeps : 0 < length xs → KeepsFrames s t = λ some m f.
    let o = r.out in
    record {
      len_is = f.len_is ∙ ap (λ (x : ShapeNumbers). x.block) (sym h.shape);
      out = omega arith;
    } in
    let stay : (j : ℕ) → j < length xs → MemberStays s t (get_or xs j no_member) = λ j lt.
    member_stays held s t (get_or xs j no_member) h (keeps (omega arith))
    (λ z. member_apart s xs held j lt (a z)) (i.members_are.each j lt) in
    let same : IsTrue s.device.told → flat (blocks_of t xs) ≡ flat (blocks_of s xs) = λ z.
    ap (λ (ls : List (List ℕ)). flat ls) (blocks_same s t xs (λ j lt. (stay j lt).blocks z)) in
    record {
      is = record {
        has = r;
        members_are = record {
          each = λ j lt. (stay j lt).is;
          holds = λ y. let z : IsTrue s.device.told = sym h.told ∙ y in
              rw (same z)
              (holds_kept held s t (flat (blocks_of s xs)) h a (i.members_are.holds z));
        };
      };
      members = λ j lt. stay j (omega arith);
      blocks = same;
    }

-- The blocks of a member that was added as a chain, after appends,
pub member_blocks_most : {s t : RigState} {c : Chain} {w : Writer} {xs : List Record}
    → 128 ≤ t.pool.shape.block → payload_in t ≡ payload_in s → IsWriter t w
    → MemberWrote s t (inl c) (inr w) xs → w.blocks ≤ c.blocks + ceiling (length xs) (payload_in s)
member_blocks_most {s} {t} {c} {w} {xs} low e i m =
    let p = payload_in s in
    let pos : 0 < p = rw (← e) (omega arith) in
    let b : w.blocks ≡ ceiling (filled t w) p = rw (← e) (writer_blocks_are t w low i) in
    let f : filled t w ≤ p * c.blocks + length xs = m.filled_most in
    let r = ceiling_more (filled t w) (p * c.blocks + length xs) p pos f in
    let q = ceiling_sum p c.blocks (p * c.blocks) (length xs) pos (omega arith) in
    omega arith

-- and its share of the moves, from when it was added until it is taken out: none with no append.
pub member_share : {s t u : RigState} {c d : Chain} {w : Writer} {xs : List Record}
    → 128 ≤ t.pool.shape.block → payload_in t ≡ payload_in s → IsWriter t w
    → MemberWrote s t (inl c) (inr w) xs → MemberEnds t u (inr w) d
    → 2 * d.blocks + 2 * min w.blocks 1 ≤ 2 * c.blocks + (2 + 2 * ceiling (length xs) (payload_in s))
member_share {s} {t} {u} {c} {d} {w} {xs} low e i m h =
    let n : d.blocks ≡ w.blocks = h.blocks_is in
    let b = member_blocks_most low e i m in
    omega arith

pub member_share_none : {t u : RigState} {c d : Chain} → MemberEnds t u (inl c) d
    → 2 * d.blocks + 2 * (member_account (inl c)).unstored ≡ 2 * c.blocks
member_share_none {t} {u} {c} {d} h =
    let n : d.blocks ≡ c.blocks = h.blocks_is in
    omega arith

-- The places of a list's blocks: those that it went through, and less than a block of the last one.
room_one : (s : RigState) (x : Member) → payload_in s * (member_account x).blocks
    ≤ member_filled s x + payload_in s * touched_one x
room_one s (inl c) = omega arith
room_one s (inr w) = last (payload_in s) w.blocks w.fill
  where
    last : (p b fill : ℕ) → p * b ≤ p * (b - 1) + fill + p * 1
    last p zero fill = omega arith
    last p (suc b) fill =
        let k : suc b - 1 ≡ b = omega arith in
        rw (k, mul-suc) (omega arith)

room_of : (s : RigState) (xs : List Member) → payload_in s * (account_of xs).blocks
    ≤ filled_of s xs + payload_in s * touched_of xs
room_of s [] = omega arith
room_of s (x ∷ xs) =
    let p = payload_in s in
    let h = room_of s xs in
    let k = room_one s x in
    let m = mul-add p (member_account x).blocks (account_of xs).blocks in
    let n = mul-add p (touched_one x) (touched_of xs) in
    omega arith

-- The blocks of a group after appends, by all records and by the members that are touched,
pub group_room : {s t : RigState} {g h : Writers} {xs : List Sent} → GroupWrote s t g h xs
    → payload_in s * (group_account h).blocks
    ≤ filled_of s (members_in g) + length xs + payload_in s * touched_of (members_in h)
group_room {s} {t} {g} {h} {xs} a =
    let e : payload_in t ≡ payload_in s =
    payload_kept (group_blocks s g) s t a.runs.session.touches in
    let r = rw e at (room_of t (members_in h)) in
    let f = a.filled_most in
    omega arith

-- the moves that are paid into them,
pub paid_most : (xs : List Member)
    → (account_of xs).paid ≤ 2 * (account_of xs).blocks + touched_of xs
paid_most [] = omega arith
paid_most (inl c ∷ xs) = let h = paid_most xs in omega arith
paid_most (inr w ∷ xs) = let h = paid_most xs in omega arith

-- and what an untouched group went through: all places of its blocks.
pub filled_untouched : (s : RigState) (xs : List Member) → touched_of xs ≡ 0
    → filled_of s xs ≡ payload_in s * (account_of xs).blocks
filled_untouched s [] e = omega arith
filled_untouched s (inl c ∷ xs) e =
    let h = filled_untouched s xs (omega arith) in
    let m = mul-add (payload_in s) c.blocks (account_of xs).blocks in
    omega arith
filled_untouched s (inr w ∷ xs) e = absurd (omega arith)
