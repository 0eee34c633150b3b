-- Members of a group: a call on one of them, and what it leaves of the others.
use Rattle.std.proofs.Common.{◌≡◌, ℕ, zero, suc, ◌+◌, ◌<◌, ◌⊎◌, inl, inr, ⊎_elim, List, [], ◌∷◌, ◌++◌, Option, Some, None, length, get_or, set, refl, sym, ap, ◌∙◌, subst, arith, IsTrue, replicate, append_assoc}
use Rattle.std.specs.Prelude.{◌≢◌, slice_get}
use Rattle.std.proofs.lemmas.Bool.{cases_eq}
use Rattle.std.proofs.lemmas.List.{append-nil, length_push, length-set, get_or-set_same, get_or-set_other}
use Rattle.em_record.specs.declared.record.Record.{Record}
use Rattle.em_frames.specs.Pool.{HasFrames}
use Rattle.em_space.specs.Free.{AreDistinct, Off}
use Rattle.em_space.specs.Held.{Apart, Holds, Within}
use Rattle.em_space.specs.Ledger.{Account, both, Spends, Halts, Session}
use Rattle.em_space.specs.Rig.{RigState, Sound, Touches}
use Rattle.em_space.specs.declared.fault.EmFault.{EmFault}
use Rattle.em_space.proofs.Apart.{off_left, off_right}
use Rattle.em_space.proofs.Paying.{pays_more}
use Rattle.em_space.proofs.Ledgers.{spends_beside, spends_behind, spends_wider, halts_beside, halts_behind, halts_wider}
use Rattle.em_space.proofs.Lists.{flat, apart_sym, apart_left, apart_right, distinct_left, distinct_right, distinct_apart, in_use_left}
use Rattle.em_space.proofs.Sessions.{session_none, session_as, session_at}
use Rattle.em_chain.specs.Chain.{payload_in}
use Rattle.em_chain.specs.Writers.{filled_of, member_filled, touched_of, touched_one, Member, MemberStays, AreMembers, IsMember, AreFilled, member_by, frame_in, members_of, no_member, member_blocks, member_account, account_of, blocks_of}
use Rattle.em_chain.specs.declared.member.MemberWords.{MemberWords}
use Rattle.em_chain.proofs.Laws.{chain_stays, writer_stays}

-- A frame of one pool is one of another.
abbrev pub KeepsFrames : RigState → RigState → Type 0
KeepsFrames s t = (n : ℕ) → HasFrames 1 n s.pool → HasFrames 1 n t.pool

pub member_stays : (held : List ℕ) (s t : RigState) (x : Member) → Touches held s t → KeepsFrames s t
    → (IsTrue s.device.told → Apart (member_blocks s x) held) → IsMember s x → MemberStays s t x
member_stays held s t (inl c) h f a i =
    let k = chain_stays held s t c h a i in
    record { is = k.is; items = k.items; blocks = k.blocks; packed = k.packed; tight = k.tight }
member_stays held s t (inr w) h f a i =
    let k = writer_stays held s t w h a (f (length w.frame) i.frame) i in
    record { is = k.is; items = k.items; blocks = k.blocks; packed = k.packed; tight = k.tight }

apart_get : (ls : List (List ℕ)) (j : ℕ) (ks : List ℕ) → Apart (flat ls) ks
    → Apart (get_or ls j []) ks
apart_get [] j ks a = tt
apart_get (x ∷ ls) zero ks a = apart_left x (flat ls) ks a
apart_get (x ∷ ls) (suc j) ks a = apart_get ls j ks (apart_right x (flat ls) ks a)

-- Two of several lists in which no number stands twice.
pub apart_at : (ls : List (List ℕ)) (i j : ℕ) → j ≢ i → AreDistinct (flat ls)
    → Apart (get_or ls j []) (get_or ls i [])
apart_at [] i j n d = tt
apart_at (x ∷ ls) zero zero n d = absurd (n refl)
apart_at (x ∷ ls) zero (suc j) n d =
    apart_get ls j x (apart_sym x (flat ls) (distinct_apart x (flat ls) d))
apart_at (x ∷ ls) (suc i) zero n d =
    apart_sym (get_or ls i []) x
    (apart_get ls i x (apart_sym x (flat ls) (distinct_apart x (flat ls) d)))
apart_at (x ∷ ls) (suc i) (suc j) n d =
    apart_at ls i j (λ e. n (ap suc e)) (distinct_right x (flat ls) d)

pub blocks_get : (s : RigState) (xs : List Member) (j : ℕ) → j < length xs
    → get_or (blocks_of s xs) j [] ≡ member_blocks s (get_or xs j no_member)
blocks_get s [] j l = absurd (omega arith)
blocks_get s (x ∷ xs) zero l = refl
blocks_get s (x ∷ xs) (suc j) l = blocks_get s xs j (omega arith)

-- What is apart from all is apart from one.
pub member_apart : (s : RigState) (xs : List Member) (held : List ℕ) (j : ℕ) → j < length xs
    → Apart (flat (blocks_of s xs)) held → Apart (member_blocks s (get_or xs j no_member)) held
member_apart s xs held j lt a =
    subst (λ (ks : List ℕ). Apart ks held) (blocks_get s xs j lt)
    (apart_get (blocks_of s xs) j held a)

pub blocks_same : (s t : RigState) (xs : List Member) → ((j : ℕ) → j < length xs
    → member_blocks t (get_or xs j no_member) ≡ member_blocks s (get_or xs j no_member))
    → blocks_of t xs ≡ blocks_of s xs
blocks_same s t [] f = refl
blocks_same s t (x ∷ xs) f =
    ap (λ (k : List ℕ). k ∷ blocks_of t xs) (f zero (omega arith))
    ∙ ap (λ (l : List (List ℕ)). member_blocks s x ∷ l)
    (blocks_same s t xs (λ j l. f (suc j) (omega arith)))

blocks_set : (s t : RigState) (xs : List Member) (i : ℕ) (y : Member) → ((j : ℕ) → j ≢ i
    → j < length xs → member_blocks t (get_or xs j no_member) ≡ member_blocks s (get_or xs j no_member))
    → blocks_of t (set xs i y) ≡ set (blocks_of s xs) i (member_blocks t y)
blocks_set s t [] i y f = refl
blocks_set s t (x ∷ xs) zero y f =
    ap (λ (l : List (List ℕ)). member_blocks t y ∷ l)
    (blocks_same s t xs (λ j l. f (suc j) (λ e. absurd (omega arith)) (omega arith)))
blocks_set s t (x ∷ xs) (suc i) y f =
    ap (λ (k : List ℕ). k ∷ blocks_of t (set xs i y))
    (f zero (λ e. absurd (omega arith)) (omega arith))
    ∙ ap (λ (l : List (List ℕ)). member_blocks s x ∷ l)
    (blocks_set s t xs i y (λ j n l. f (suc j) (λ e. n (omega arith)) (omega arith)))

-- The members that weren't called.
pub others_stay : (s t : RigState) (xs : List Member) (i : ℕ) → i < length xs → AreMembers s xs
    → (1 < length xs → KeepsFrames s t) → Touches (member_blocks s (get_or xs i no_member)) s t
    → (j : ℕ) → j ≢ i
    → j < length xs → MemberStays s t (get_or xs j no_member)
others_stay s t xs i lt h f g j n l =
    let held = member_blocks s (get_or xs i no_member) in
    let a = λ (z : IsTrue s.device.told).
    subst (λ (k : List ℕ). Apart (member_blocks s (get_or xs j no_member)) k) (blocks_get s xs i lt)
    (subst (λ (k : List ℕ). Apart k (get_or (blocks_of s xs) i [])) (blocks_get s xs j l)
    (apart_at (blocks_of s xs) i j n ((h.holds z).distinct z))) in
    member_stays held s t (get_or xs j no_member) g (f (two_of i j (length xs) n lt l)) a (h.each j l)
  where
    two_of : (i j n : ℕ) → j ≢ i → i < n → j < n → 1 < n
    two_of i j n d a b = omega (arith, other i j d)
      where
        other : (i j : ℕ) → j ≢ i → (j < i) ⊎ (i < j)
        other zero zero d = absurd (d refl)
        other zero (suc j) d = inr (omega arith)
        other (suc i) zero d = inl (omega arith)
        other (suc i) (suc j) d =
            ⊎_elim (λ (k : j < i). inl (omega arith)) (λ (k : i < j). inr (omega arith))
            (other i j (λ e. d (ap suc e)))

length_blocks : (s : RigState) (xs : List Member) → length (blocks_of s xs) ≡ length xs
length_blocks s [] = refl
length_blocks s (x ∷ xs) = ap suc (length_blocks s xs)

-- A session of all of them, by a call on one.
pub members_session : (s t : RigState) (xs : List Member) (i : ℕ) (y : Member) → i < length xs → Sound s
    → AreMembers s xs → (1 < length xs → KeepsFrames s t)
    → Session (member_blocks s (get_or xs i no_member)) s t (member_blocks t y)
    → Session (flat (blocks_of s xs)) s t (flat (blocks_of t (set xs i y)))
members_session s t xs i y lt sd h f g =
    let stays = others_stay s t xs i lt h f g.touches in
    let m : Session (get_or (blocks_of s xs) i []) s t (member_blocks t y) =
    rw (blocks_get s xs i lt) g in
    session_as (flat (blocks_of t (set xs i y)))
    (session_at (blocks_of s xs) i (member_blocks t y)
    (subst (λ (n : ℕ). i < n) (sym (length_blocks s xs)) lt)
    (session_none s (flat (blocks_of s xs)) sd h.holds) m)
    (λ z. ap (λ (ls : List (List ℕ)). flat ls)
    (blocks_set s t xs i y (λ j n l. (stays j n l).blocks z)))

-- All of them, after a call on one.
pub members_step : (s t : RigState) (xs : List Member) (i : ℕ) (y : Member) → i < length xs → Sound s
    → AreMembers s xs → (1 < length xs → KeepsFrames s t)
    → Session (member_blocks s (get_or xs i no_member)) s t (member_blocks t y) → IsMember t y
    → AreMembers t (set xs i y)
members_step s t xs i y lt sd h f g k =
    let stays = others_stay s t xs i lt h f g.touches in
    let long : length (set xs i y) ≡ length xs = length-set xs i y in
    record {
      each = λ j l. ⊎_elim
          (λ (e : j ≡ i). rw (e, get_or-set_same xs i y no_member lt) k)
          (λ (n : j ≢ i). rw (get_or-set_other xs i j y no_member n) (stays j n (omega arith)).is)
          (cases_eq j i);
      holds = λ told.
          (members_session s t xs i y lt sd h f g).holds (sym g.touches.told ∙ told);
    }

-- The account of all, after a call on one.
pub spends_at : (s t : RigState) (xs : List Member) (i n : ℕ) (y : Member) → i < length xs
    → Spends ((member_account (get_or xs i no_member)).blocks + n) (member_account
    (get_or xs i no_member))
    (member_account y) s t
    → Spends ((account_of xs).blocks + n) (account_of xs) (account_of (set xs i y)) s t
spends_at s t [] i n y lt h = absurd (omega arith)
spends_at s t (x ∷ xs) zero n y lt h =
    spends_wider (omega arith) (spends_beside (account_of xs) h)
spends_at s t (x ∷ xs) (suc i) n y lt h =
    spends_wider (omega arith)
    (spends_behind (member_account x) (spends_at s t xs i n y (omega arith) h))

pub halts_at : (s t : RigState) (xs : List Member) (i n l f : ℕ) (e : EmFault) → i < length xs
    → Halts ((member_account (get_or xs i no_member)).blocks + n)
    ((member_account (get_or xs i no_member)).paid + l)
    ((member_account (get_or xs i no_member)).unstored + f) (member_account
    (get_or xs i no_member)) s t e
    → Halts ((account_of xs).blocks + n) ((account_of xs).paid + l) ((account_of xs).unstored + f)
    (account_of xs) s t e
halts_at s t [] i n l f e lt h = absurd (omega arith)
halts_at s t (x ∷ xs) zero n l f e lt h =
    halts_wider (omega arith) (omega arith) (omega arith) (halts_beside (account_of xs) h)
halts_at s t (x ∷ xs) (suc i) n l f e lt h =
    halts_wider (omega arith) (omega arith) (omega arith)
    (halts_behind (member_account x) (halts_at s t xs i n l f e (omega arith) h))

-- The blocks of all, after a call on one.
pub blocks_at : (xs : List Member) (i : ℕ) (y : Member) → i < length xs
    → (account_of (set xs i y)).blocks + (member_account (get_or xs i no_member)).blocks
    ≡ (account_of xs).blocks + (member_account y).blocks
blocks_at [] i y lt = absurd (omega arith)
blocks_at (x ∷ xs) zero y lt = omega arith
blocks_at (x ∷ xs) (suc i) y lt = let h = blocks_at xs i y (omega arith) in omega arith

-- The places that all went through, and how many are touched.
pub filled_same : (s t : RigState) (x : Member) → payload_in t ≡ payload_in s
    → member_filled t x ≡ member_filled s x
filled_same s t (inl c) e = rw e refl
filled_same s t (inr w) e = rw e refl

filled_all : (s t : RigState) (xs : List Member) → payload_in t ≡ payload_in s
    → filled_of t xs ≡ filled_of s xs
filled_all s t [] e = refl
filled_all s t (x ∷ xs) e =
    let h = filled_all s t xs e in
    let k = filled_same s t x e in
    omega arith

pub filled_at : (s t : RigState) (xs : List Member) (i : ℕ) (y : Member)
    → payload_in t ≡ payload_in s → i < length xs
    → filled_of t (set xs i y) + member_filled s (get_or xs i no_member)
    ≡ filled_of s xs + member_filled t y
filled_at s t [] i y e lt = absurd (omega arith)
filled_at s t (x ∷ xs) zero y e lt = let h = filled_all s t xs e in omega arith
filled_at s t (x ∷ xs) (suc i) y e lt =
    let h = filled_at s t xs i y e (omega arith) in
    let k = filled_same s t x e in
    omega arith

pub touched_at : (xs : List Member) (i : ℕ) (y : Member) → i < length xs
    → touched_of (set xs i y) + touched_one (get_or xs i no_member)
    ≡ touched_of xs + touched_one y
touched_at [] i y lt = absurd (omega arith)
touched_at (x ∷ xs) zero y lt = omega arith
touched_at (x ∷ xs) (suc i) y lt = let h = touched_at xs i y (omega arith) in omega arith

-- Members by their words and frames.
pub members_len : (ms : List MemberWords) (ps : List (Option (List Record)))
    → length (members_of ms ps) ≡ length ms
members_len [] ps = refl
members_len (m ∷ ms) [] = ap suc (members_len ms [])
members_len (m ∷ ms) (p ∷ ps) = ap suc (members_len ms ps)

pub members_set : (ms : List MemberWords) (ps : List (Option (List Record))) (i : ℕ) (m : MemberWords)
    (b : List Record) → i < length ps
    → members_of (set ms i m) (set ps i (Some b)) ≡ set (members_of ms ps) i (member_by m.touched m b)
members_set [] ps i m b l = refl
members_set (k ∷ ms) [] i m b l = absurd (omega arith)
members_set (k ∷ ms) (p ∷ ps) zero m b l = refl
members_set (k ∷ ms) (p ∷ ps) (suc i) m b l =
    ap (λ (xs : List Member). member_by k.touched k (frame_in p) ∷ xs)
    (members_set ms ps i m b (omega arith))

pub member_is : (ms : List MemberWords) (ps : List (Option (List Record))) (i : ℕ) (d : MemberWords)
    (b : List Record) → i < length ms → slice_get ps i ≡ Some (Some b)
    → get_or (members_of ms ps) i no_member ≡ member_by (get_or ms i d).touched (get_or ms i d) b
member_is [] ps i d b l f = absurd (omega arith)
member_is (k ∷ ms) [] i d b l f = cc
member_is (k ∷ ms) (p ∷ ps) zero d b l f =
    let g : p ≡ Some b = cc in
    rw g refl
member_is (k ∷ ms) (p ∷ ps) (suc i) d b l f = member_is ms ps i d b (omega arith) f

pub get_set_here : {X : Type 0} (xs : List X) (i : ℕ) (v : X) → i < length xs
    → slice_get (set xs i v) i ≡ Some v
get_set_here [] i v h = absurd (omega arith)
get_set_here (x ∷ xs) zero v h = refl
get_set_here (x ∷ xs) (suc i) v h = get_set_here xs i v (omega arith)

-- the frame of a member
pub record Stands (n i : ℕ) (ps : List (Option (List Record))) : Type 0 where
  pub frame : List Record
  pub is : slice_get ps i ≡ Some (Some frame)
  pub len : length frame ≡ n
  pub within : i < length ps

pub filled_get : (n : ℕ) (ms : List MemberWords) (ps : List (Option (List Record))) (i : ℕ)
    → AreFilled n ms ps → i < length ms → Stands n i ps
filled_get n [] ps i h l = absurd (omega arith)
filled_get n (m ∷ ms) [] i h l = absurd h
filled_get n (m ∷ ms) (None ∷ ps) i h l = absurd h
filled_get n (m ∷ ms) (Some f ∷ ps) zero h l =
    record { frame = f; is = refl; len = h.0; within = omega arith }
filled_get n (m ∷ ms) (Some f ∷ ps) (suc i) h l =
    let k = filled_get n ms ps i h.1 (omega arith) in
    let w = k.within in
    record { frame = k.frame; is = k.is; len = k.len; within = omega arith }

pub filled_set : (n : ℕ) (ms : List MemberWords) (ps : List (Option (List Record))) (i : ℕ)
    (m : MemberWords)
    (b : List Record) → AreFilled n ms ps → i < length ms → length b ≡ n
    → AreFilled n (set ms i m) (set ps i (Some b))
filled_set n [] ps i m b h l e = absurd (omega arith)
filled_set n (k ∷ ms) [] i m b h l e = absurd h
filled_set n (k ∷ ms) (None ∷ ps) i m b h l e = absurd h
filled_set n (k ∷ ms) (Some f ∷ ps) zero m b h l e = (e, h.1)
filled_set n (k ∷ ms) (Some f ∷ ps) (suc i) m b h l e =
    (h.0, filled_set n ms ps i m b h.1 (omega arith) e)

-- The last member,
pub members_split : (ms : List MemberWords) (m : MemberWords) (ps : List (Option (List Record)))
    (f : List Record) → slice_get ps (length ms) ≡ Some (Some f)
    → members_of (ms ++ m ∷ []) ps
    ≡ members_of ms (set ps (length ms) None) ++ member_by m.touched m f ∷ []
members_split [] m [] f e = cc
members_split [] m (p ∷ ps) f e = let g : p ≡ Some f = cc in rw g refl
members_split (k ∷ ms) m [] f e = cc
members_split (k ∷ ms) m (p ∷ ps) f e =
    ap (λ (xs : List Member). member_by k.touched k (frame_in p) ∷ xs) (members_split ms m ps f e)

pub filled_drop : (n : ℕ) (ms : List MemberWords) (m : MemberWords) (ps : List (Option (List Record)))
    → AreFilled n (ms ++ m ∷ []) ps → AreFilled n ms (set ps (length ms) None)
filled_drop n [] m [] h = absurd h
filled_drop n [] m (None ∷ ps) h = absurd h
filled_drop n [] m (Some f ∷ ps) h = h.1
filled_drop n (k ∷ ms) m [] h = absurd h
filled_drop n (k ∷ ms) m (None ∷ ps) h = absurd h
filled_drop n (k ∷ ms) m (Some f ∷ ps) h = (h.0, filled_drop n ms m ps h.1)

-- and one more.
pub members_join : (ms : List MemberWords) (m : MemberWords) (ps : List (Option (List Record)))
    (f : List Record) → length ms < length ps
    → members_of (ms ++ m ∷ []) (set ps (length ms) (Some f))
    ≡ members_of ms ps ++ member_by m.touched m f ∷ []
members_join [] m [] f l = absurd (omega arith)
members_join [] m (p ∷ ps) f l = refl
members_join (k ∷ ms) m [] f l = absurd (omega arith)
members_join (k ∷ ms) m (p ∷ ps) f l =
    ap (λ (xs : List Member). member_by k.touched k (frame_in p) ∷ xs)
    (members_join ms m ps f (omega arith))

pub filled_add : (n : ℕ) (ms : List MemberWords) (m : MemberWords) (ps : List (Option (List Record)))
    (f : List Record) → AreFilled n ms ps → length ms < length ps → length f ≡ n
    → AreFilled n (ms ++ m ∷ []) (set ps (length ms) (Some f))
filled_add n [] m [] f h l e = absurd (omega arith)
filled_add n [] m (None ∷ ps) f h l e = (e, h)
filled_add n [] m (Some b ∷ ps) f h l e = absurd h
filled_add n (k ∷ ms) m [] f h l e = absurd h
filled_add n (k ∷ ms) m (None ∷ ps) f h l e = absurd h
filled_add n (k ∷ ms) m (Some b ∷ ps) f h l e = (h.0, filled_add n ms m ps f h.1 (omega arith) e)

pub place_empty : (n : ℕ) (ms : List MemberWords) (ps : List (Option (List Record)))
    → AreFilled n ms ps → length ms < length ps → slice_get ps (length ms) ≡ Some None
place_empty n [] [] h l = absurd (omega arith)
place_empty n [] (None ∷ ps) h l = refl
place_empty n [] (Some b ∷ ps) h l = absurd h
place_empty n (k ∷ ms) [] h l = absurd h
place_empty n (k ∷ ms) (None ∷ ps) h l = absurd h
place_empty n (k ∷ ms) (Some b ∷ ps) h l = place_empty n ms ps h.1 (omega arith)

pub rack_is_empty : (n : ℕ) (ps : List (Option (List Record))) → AreFilled n [] ps
    → ps ≡ replicate (length ps) None
rack_is_empty n [] h = refl
rack_is_empty n (None ∷ ps) h =
    ap (λ (qs : List (Option (List Record))). None ∷ qs) (rack_is_empty n ps h)
rack_is_empty n (Some b ∷ ps) h = absurd h

pub empty_is_filled : (n k : ℕ) → AreFilled n [] (replicate k None)
empty_is_filled n zero = tt
empty_is_filled n (suc k) = empty_is_filled n k

pub flat_push : (s : RigState) (xs : List Member) (x : Member)
    → flat (blocks_of s (xs ++ x ∷ [])) ≡ flat (blocks_of s xs) ++ member_blocks s x
flat_push s [] x = append-nil (member_blocks s x)
flat_push s (y ∷ xs) x =
    ap (λ (ks : List ℕ). member_blocks s y ++ ks) (flat_push s xs x)
    ∙ sym (append_assoc (member_blocks s y) (flat (blocks_of s xs)) (member_blocks s x))

pub set_last : (xs : List Member) (x y : Member) → set (xs ++ x ∷ []) (length xs) y ≡ xs ++ y ∷ []
set_last [] x y = refl
set_last (z ∷ xs) x y = ap (λ (l : List Member). z ∷ l) (set_last xs x y)

pub get_last : (xs : List Member) (x : Member) → get_or (xs ++ x ∷ []) (length xs) no_member ≡ x
get_last [] x = refl
get_last (z ∷ xs) x = get_last xs x

pub get_front : (xs : List Member) (x : Member) (j : ℕ) → j < length xs
    → get_or (xs ++ x ∷ []) j no_member ≡ get_or xs j no_member
get_front [] x j l = absurd (omega arith)
get_front (z ∷ xs) x zero l = refl
get_front (z ∷ xs) x (suc j) l = get_front xs x j (omega arith)

-- Without the last one.
pub members_front : (s : RigState) (xs : List Member) (x : Member) → AreMembers s (xs ++ x ∷ [])
    → AreMembers s xs
members_front s xs x h =
    let n : length (xs ++ x ∷ []) ≡ length xs + 1 = length_push xs x in
    record {
      each = λ j l. rw (get_front xs x j l) at (h.each j (omega arith));
      holds = λ z.
          let k : Holds s (flat (blocks_of s xs) ++ member_blocks s x) =
          rw (flat_push s xs x) at (h.holds z) in
          record {
            in_use = in_use_left s (flat (blocks_of s xs)) (member_blocks s x) k.in_use;
            distinct = λ y. distinct_left (flat (blocks_of s xs)) (member_blocks s x) (k.distinct y);
          };
    }

-- The same account.
pub record SameAccount (a b : Account) : Type 0 where
  pub blocks : a.blocks ≡ b.blocks
  pub unstored : a.unstored ≡ b.unstored
  pub paid : a.paid ≡ b.paid
  pub owed : a.owed ≡ b.owed

pub account_push : (xs : List Member) (x : Member)
    → SameAccount (account_of (xs ++ x ∷ [])) (both (account_of xs) (member_account x))
account_push [] x = record {
  blocks = omega arith;
  unstored = omega arith;
  paid = omega arith;
  owed = omega arith;
}
account_push (y ∷ xs) x =
    let k = account_push xs x in
    record {
      blocks = omega (arith, k.blocks);
      unstored = omega (arith, k.unstored);
      paid = omega (arith, k.paid);
      owed = omega (arith, k.owed);
    }

pub spends_from : {p : ℕ} {a b c : Account} {s t : RigState} → SameAccount a b → Spends p b c s t
    → Spends p a c s t
spends_from {p} {a} {b} {c} {s} {t} e h = record {
  held = h.held;
  used = omega (arith, h.used, e.blocks);
  most = omega (arith, h.most, e.blocks);
  moves = omega (arith, h.moves, e.paid, e.owed);
  later = h.later;
  pays = pays_more h.pays (omega (arith, e.unstored));
}

pub spends_to : {p : ℕ} {a b c : Account} {s t : RigState} → SameAccount b c → Spends p a b s t
    → Spends p a c s t
spends_to {p} {a} {b} {c} {s} {t} e h = record {
  held = omega (arith, h.held, e.blocks);
  used = omega (arith, h.used, e.blocks);
  most = h.most;
  moves = omega (arith, h.moves, e.paid, e.owed);
  later = h.later;
  pays = pays_more h.pays (omega (arith, e.unstored));
}

pub same_account : {a b : Account} → SameAccount a b → SameAccount b a
same_account e = record {
  blocks = sym e.blocks;
  unstored = sym e.unstored;
  paid = sym e.paid;
  owed = sym e.owed;
}

-- What holds of each, and of one more.
pub every : (xs : List Member) (x : Member) (P : Member → Type 0)
    → ((j : ℕ) → j < length xs → P (get_or xs j no_member)) → P x → (j : ℕ)
    → j < length (xs ++ x ∷ []) → P (get_or (xs ++ x ∷ []) j no_member)
every [] x P f h zero l = h
every [] x P f h (suc j) l = absurd (omega arith)
every (y ∷ xs) x P f h zero l = f zero (omega arith)
every (y ∷ xs) x P f h (suc j) l = every xs x P (λ i k. f (suc i) (omega arith)) h j (omega arith)

-- The blocks of one are among those of all.
pub within_member : (s : RigState) (xs : List Member) (i : ℕ) → i < length xs
    → Within s (flat (blocks_of s xs)) (member_blocks s (get_or xs i no_member))
within_member s xs i lt = record { off = λ z j u o. off_member s xs i j lt o }
  where
    off_member : (s : RigState) (xs : List Member) (i j : ℕ) → i < length xs
        → Off j (flat (blocks_of s xs)) → Off j (member_blocks s (get_or xs i no_member))
    off_member s [] i j lt o = absurd (omega arith)
    off_member s (x ∷ xs) zero j lt o = off_left j (member_blocks s x) (flat (blocks_of s xs)) o
    off_member s (x ∷ xs) (suc i) j lt o =
        off_member s xs i j (omega arith) (off_right j (member_blocks s x) (flat (blocks_of s xs)) o)

pub member_holds : (s : RigState) (x : Member) → IsMember s x → IsTrue s.device.told
    → Holds s (member_blocks s x)
member_holds s (inl c) i z = (i.told z).holds
member_holds s (inr w) i z = (i.told z).holds
