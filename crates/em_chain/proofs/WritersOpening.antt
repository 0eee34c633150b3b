-- A member that is opened: it becomes a writer.
use Rattle.std.proofs.Common.{◌≡◌, ℕ, zero, suc, ◌+◌, ◌-◌, ◌*◌, ◌<◌, ◌≤◌, ◌^◌, inl, inr, ⊎_elim, List, [], Some, None, true, false, Bool, length, get_or, set, refl, sym, ap, ◌∙◌, subst, arith, Ok, Err}
use Rattle.std.specs.Prelude.{slice_get}
use Rattle.std.proofs.lemmas.List.{length-set, set-get_or, set-set}
use Rattle.std.proofs.Math.Nat.{mul-suc}
use Rattle.em_record.specs.Shape.{ShapeNumbers, payload_of}
use Rattle.em_record.specs.declared.record.Record.{Record}
use Rattle.em_frames.specs.Pool.{SameFrames, given, lent}
use Rattle.em_space.specs.Ledger.{Halts}
use Rattle.em_space.specs.Rig.{RigState}
use Rattle.em_space.specs.declared.fault.EmFault.{EmFault}
use Rattle.em_space.proofs.Held.{apart_none}
use Rattle.em_space.proofs.Ledgers.{spends_none, full_by}
use Rattle.em_space.proofs.Steps.{touches_pool}
use Rattle.em_chain.specs.Chain.{IsChain, payload_in}
use Rattle.em_chain.specs.Writers.{Member, member_by, chain_in, writer_in, HasRack, IsGroup, IsMember, Opens, members_in, member_at, member_account, open_account}
use Rattle.em_chain.specs.Session.{ResumeSpends}
use Rattle.em_chain.specs.Writer.{IsWriter}
use Rattle.em_chain.specs.Writes.{Resumes}
use Rattle.em_chain.specs.declared.chain.Chain.{Chain}
use Rattle.em_chain.specs.declared.member.MemberWords.{MemberWords}
use Rattle.em_chain.specs.declared.writers.Writers.{Writers}
use Rattle.em_chain.specs.declared.writer.Writer.{Writer}
use Rattle.em_chain.proofs.Laws.{chain_stays}
use Rattle.em_chain.proofs.WritersMembers.{members_len, member_is, filled_set, filled_get}
use Rattle.em_chain.specs.Writer.{filled}
use Rattle.em_chain.specs.Chain.{payload_in}
use Rattle.em_chain.proofs.Tight.{tight_filled}
use Rattle.std.proofs.Common.{◌⊎◌, IsTrue}

-- A member that was touched before,
pub opens_same : (s : RigState) (w : Writer) → IsWriter s w → Opens s s (inr w) w
opens_same s w i = record {
  is = i;
  items = λ z. refl;
  blocks = λ z. refl;
  packed = λ z p. p;
  tight = λ z p. p;
  skip_is = λ z. refl;
  count_is = λ z. refl;
  count_most = omega arith;
  blocks_is = refl;
  filled_most = omega arith;
  needs = λ k. (λ n. n, λ n. n);
  spends = spends_none (open_account w) s;
}

-- a chain is one of a rig to which a frame came back,
pub chain_given : (s t : RigState) (c : Chain) → t ≡ record s { pool = given s.pool }
    → IsChain s c → IsChain t c
chain_given s t c e i =
    subst (λ (x : RigState). IsChain x c) (sym e)
    (chain_stays [] s (record s { pool = given s.pool }) c
    (touches_pool s (given s.pool) refl) (λ z. apart_none _) i).is

filled_full : (p b fill : ℕ) → fill ≤ p → (b ≡ 0 → fill ≡ 0) → p * (b - 1) + fill ≤ p * b
filled_full p zero fill l e = let z = e refl in omega arith
filled_full p (suc b) fill l e =
    let k : suc b - 1 ≡ b = omega arith in
    rw (k, mul-suc) (omega arith)

-- a list that went through n places, and whether it has none left,
no_place : (p b fill n : ℕ) → p * (b - 1) + fill ≡ n → (b ≡ 0 → fill ≡ 0)
    → (b ≡ 0) ⊎ (fill ≡ p) → n ≡ p * b
no_place p zero fill n e z h = let y = z refl in omega arith
no_place p (suc b) fill n e z (inl h) = absurd (omega arith)
no_place p (suc b) fill n e z (inr h) =
    let k : suc b - 1 ≡ b = omega arith in
    let f : p * b + fill ≡ n = rw k at e in
    rw mul-suc (omega arith)

place_none : (p b fill n : ℕ) → p * (b - 1) + fill ≡ n → n ≡ p * b → (b ≡ 0) ⊎ (fill ≡ p)
place_none p zero fill n e h = inl refl
place_none p (suc b) fill n e h =
    let k : suc b - 1 ≡ b = omega arith in
    let f : p * b + fill ≡ n = rw k at e in
    let g = rw mul-suc at h in
    inr (omega arith)

-- and one whose last block was loaded.
pub opens_resumed : (s m t : RigState) (c : Chain) (w : Writer) → t.pool.shape ≡ s.pool.shape
    → t.device.told ≡ s.device.told → m ≡ record s { pool = given s.pool } → Resumes m t c w
    → ResumeSpends m t c (Ok w)
    → Opens s t (inl c) w
opens_resumed s m t c w es te e r h =
    let k : Resumes (record s { pool = given s.pool }) t c w =
    subst (λ (x : RigState). Resumes x t c w) e r in
    let g : ResumeSpends (record s { pool = given s.pool }) t c (Ok w) =
    subst (λ (x : RigState). ResumeSpends x t c (Ok w)) e h in
    let b = k.blocks_is in
    record {
      is = k.is;
      items = k.items;
      blocks = k.blocks;
      packed = λ z p. k.packed z (record { is = p.is });
      tight = λ z p. k.tight z (record { full = p.full });
      skip_is = k.skip_is;
      count_is = k.count_is;
      count_most = k.count_most;
      blocks_is = k.blocks_is;
      filled_most = rw (es, ← b)
          (filled_full (payload_in s) w.blocks w.fill
          (subst (λ (x : ShapeNumbers). w.fill ≤ payload_of x) es k.is.last.fill_most)
          (λ n. k.is.last.fill_none (k.is.last.none n)));
      needs = λ q.
          let z = q.0 in
          let told : IsTrue t.device.told = te ∙ z in
          let full : filled t w ≡ w.skip + w.count =
          tight_filled t w k.is told (k.tight z (record { full = (q.1).full })) in
          let es1 = k.skip_is z in
          let ec = k.count_is z in
          let n : payload_in t * (w.blocks - 1) + w.fill ≡ c.skip + c.count = omega arith in
          let pe : payload_in t ≡ payload_in s = ap (λ (x : ShapeNumbers). payload_of x) es in
          rw (← pe, ← b) (
            λ m. no_place (payload_in t) w.blocks w.fill (c.skip + c.count) n
                (λ e. k.is.last.fill_none (k.is.last.none e)) m,
            λ m. place_none (payload_in t) w.blocks w.fill (c.skip + c.count) n m,
          );
      spends = record {
        held = omega arith;
        used = g.used;
        most = omega (arith, g.most, b);
        moves = omega (arith, g.moves, b);
        later = g.later;
        pays = record { is = g.pays.is };
      };
    }

-- The last block wasn't loaded.
pub halts_resumed : (s m t u : RigState) (c : Chain) (fault : EmFault)
    → m ≡ record s { pool = given s.pool } → u.used ≡ t.used → u.most ≡ t.most
    → u.moves ≡ t.moves → ResumeSpends m t c (Err fault)
    → Halts (member_account (inl c)).blocks ((member_account (inl c)).paid + 1)
    (member_account (inl c)).unstored (member_account (inl c)) s u fault
halts_resumed s m t u c fault e eu em ev h =
    let g : ResumeSpends (record s { pool = given s.pool }) t c (Err fault) =
    subst (λ (x : RigState). ResumeSpends x t c (Err fault)) e h in
    let full = g.full in
    record {
      used = omega (arith, g.used);
      full = full_by fault (t.used + c.blocks < s.used + c.blocks)
          (u.used + c.blocks < s.used + c.blocks) (λ k. omega (arith, k, eu)) full;
      most = omega (arith, g.most);
      moves = omega (arith, g.moves);
      later = omega (arith, g.later);
      pays = record {
        is = ⊎_elim (λ (x : 2 ^ 64 - 1 ≤ t.moves). inl (omega arith))
            (λ (x : t.used + s.moves + 0 ≤ s.used + t.moves + 0). inr (omega arith)) g.pays.is;
      };
    }

-- A member's frame came back into its place.
pub has_rack_set : (s t : RigState) (g h : Writers) (i : ℕ) (m : MemberWords) (b : List Record)
    → HasRack s g → SameFrames s.pool t.pool → i < length g.words.items
    → length b ≡ s.pool.shape.block → h.words.items ≡ set g.words.items i m
    → h.rack ≡ set g.rack i (Some b) → HasRack t h
has_rack_set s t g h i m b k f lt l em er = record {
  places = rw (er, f.shape) (length-set g.rack i (Some b) ∙ k.places);
  filled_by = rw (er, em, f.shape)
      (filled_set s.pool.shape.block g.words.items g.rack i m b k.filled_by lt l);
  out = rw (em, length-set g.words.items i m, f.shape, f.free) k.out;
  rack_out = f.rack ∙ k.rack_out;
}

pub has_rack_back : (s t : RigState) (g h : Writers) (i : ℕ) (b : List Record)
    → HasRack s g → SameFrames s.pool t.pool → i < length g.words.items
    → length b ≡ s.pool.shape.block → h.words ≡ g.words
    → h.rack ≡ set (set g.rack i None) i (Some b) → HasRack t h
has_rack_back s t g h i b k f lt l em er =
    let m : MemberWords = get_or g.words.items i (no_words) in
    has_rack_set s t g h i m b k f lt l
    (ap (λ v. v.items) em ∙ sym (set-get_or g.words.items i no_words))
    (er ∙ set-set g.rack i None (Some b))
  where
    no_words : MemberWords
    no_words = record { head = 0; skip = 0; tail = 0; count = 0; blocks = 0; fill = 0; touched = false }

-- A frame that stands in the rack is the pool's.
pub frame_len : (s : RigState) (g : Writers) (i : ℕ) (f : List Record) → HasRack s g
    → i < length g.words.items → slice_get g.rack i ≡ Some (Some f)
    → length f ≡ s.pool.shape.block
frame_len s g i f h lt e =
    let k = filled_get s.pool.shape.block g.words.items g.rack i h.filled_by lt in
    let m = k.is in
    let same : k.frame ≡ f = cc in
    sym (ap (λ (b : List Record). length b) same) ∙ k.len

pub place_within : (s : RigState) (g : Writers) (i : ℕ) → HasRack s g
    → i < length g.words.items → i < length g.rack
place_within s g i h lt =
    (filled_get s.pool.shape.block g.words.items g.rack i h.filled_by lt).within

pub member_within : (g : Writers) (i : ℕ) → i < length g.words.items → i < length (members_in g)
member_within g i lt = rw (members_len g.words.items g.rack) lt

-- The words of a member, as they are read.
pub record Reads (g : Writers) (i : ℕ) (d : MemberWords) (items : List MemberWords) (f : List Record)
    : Type 0 where
  pub within : i < length g.words.items
  pub same : items ≡ g.words.items
  pub frame : slice_get g.rack i ≡ Some (Some f)

pub member_read : {g : Writers} {i : ℕ} {d : MemberWords} {items : List MemberWords} {f : List Record}
    → Reads g i d items f
    → member_at g i ≡ member_by (get_or items i d).touched (get_or items i d) f
member_read {g} {i} {d} {items} {f} r =
    rw r.same (member_is g.words.items g.rack i d f r.within r.frame)

pub member_touched : {g : Writers} {i : ℕ} {d : MemberWords} {items : List MemberWords}
    {f : List Record}
    → Reads g i d items f → (get_or items i d).touched ≡ true
    → member_at g i ≡ inr (writer_in (get_or items i d) f)
member_touched {g} {i} {d} {items} {f} r e =
    member_read r ∙ ap (λ (b : Bool). member_by b (get_or items i d) f) e

pub member_added : {g : Writers} {i : ℕ} {d : MemberWords} {items : List MemberWords} {f : List Record}
    → Reads g i d items f → (get_or items i d).touched ≡ false
    → member_at g i ≡ inl (chain_in (get_or items i d))
member_added {g} {i} {d} {items} {f} r e =
    member_read r ∙ ap (λ (b : Bool). member_by b (get_or items i d) f) e

pub opens_touched : {s : RigState} {g : Writers} {i : ℕ} {w : Writer} (v : Writer)
    → member_at g i ≡ inr v → w ≡ v → i < length g.words.items → IsGroup s g
    → Opens s s (member_at g i) w
opens_touched {s} {g} {i} {w} v e f lt h =
    let k : IsMember s (inr v) = subst (λ (x : Member). IsMember s x) e
    (h.members_are.each i (member_within g i lt)) in
    subst (λ (x : Member). Opens s s x w) (sym e)
    (subst (λ (y : Writer). Opens s s (inr v) y) (sym f) (opens_same s v k))

pub added_chain : {s t : RigState} {g : Writers} {i : ℕ} (c d : Chain)
    → member_at g i ≡ inl c → d ≡ c → i < length g.words.items → IsGroup s g
    → t ≡ record s { pool = given s.pool } → IsChain t d
added_chain {s} {t} {g} {i} c d e f lt h m =
    let k : IsMember s (inl c) = subst (λ (x : Member). IsMember s x) e
    (h.members_are.each i (member_within g i lt)) in
    subst (λ (x : Chain). IsChain t x) (sym f) (chain_given s t c m k)

pub opens_loaded : {s m t : RigState} {w : Writer} (x : Member) (c d : Chain)
    → x ≡ inl c → d ≡ c → t.pool.shape ≡ s.pool.shape → t.device.told ≡ s.device.told
    → m ≡ record s { pool = given s.pool } → Resumes m t d w → ResumeSpends m t d (Ok w) → Opens s t x w
opens_loaded {s} {m} {t} {w} x c d e f es te k r h =
    subst (λ (x : Member). Opens s t x w) (sym e)
    (subst (λ (x : Chain). Opens s t (inl x) w) f (opens_resumed s m t d w es te k r h))

pub halts_loaded : {s m t u : RigState} {fault : EmFault} (x : Member) (c d : Chain)
    → x ≡ inl c → d ≡ c → m ≡ record s { pool = given s.pool } → u.used ≡ t.used
    → u.most ≡ t.most → u.moves ≡ t.moves → ResumeSpends m t d (Err fault)
    → Halts (member_account x).blocks ((member_account x).paid + 1)
    (member_account x).unstored (member_account x) s u fault
halts_loaded {s} {m} {t} {u} {fault} q c d e f k x y z h =
    subst (λ (v : Member). Halts (member_account v).blocks ((member_account v).paid + 1)
    (member_account v).unstored (member_account v) s u fault) (sym (e ∙ ap (λ (n : Chain). inl n)
    (sym f)))
    (halts_resumed s m t u d fault k x y z h)

-- A frame went to the pool and one came from it.
pub frames_back : (s m t u : RigState) → m ≡ record s { pool = given s.pool }
    → SameFrames m.pool t.pool → u ≡ record t { pool = lent t.pool } → SameFrames s.pool u.pool
frames_back s m t u e f d =
    let k : SameFrames (given s.pool) t.pool =
    subst (λ (x : RigState). SameFrames x.pool t.pool) e f in
    subst (λ (x : RigState). SameFrames s.pool x.pool) (sym d) (record {
      shape = k.shape;
      free = omega (arith, k.free);
      rack = k.rack;
      free_areas = k.free_areas;
      peak = omega (arith, k.peak);
    })
