-- An entry of a tree, and what follows of all others from how they stand to it.
use Rattle.std.specs.Prelude.{◌≡◌, ℕ, suc, ◌+◌, ◌-◌, ◌<◌, ◌≤◌, List, [], Option, None}
use Rattle.std.proofs.Common.{refl, sym, ap, ◌∙◌, arith, ⊎_elim, subst}
use Rattle.std.proofs.lemmas.Bool.{cases_lt, false≢true}
use Rattle.em_record.specs.declared.record.Record.{Record}
use Rattle.em_space.specs.Rig.{RigState}
use Rattle.em_chain.specs.Chain.{chain_items}
use Rattle.em_tree_model.specs.Places.{Place, SameStart, put_at}
use Rattle.em_tree_model.specs.Places.Place.{here, past, under}
use Rattle.em_tree_model.specs.Pouring.{pour}
use Rattle.em_tree_model.specs.Ranges.{InRange, IsTree, least_record, low_of, next_low}
use Rattle.em_tree_model.specs.Tree.{Tree}
use Rattle.em_tree_model.specs.Tree.Tree.{entry}
use Rattle.em_tree_model.proofs.Events.{placed}
use Rattle.em_tree_model.proofs.Places.{low_same, start_put}
use Rattle.em_tree_blocks.specs.Effects.{entry_at_place, entry_on, row_from}
use Rattle.em_tree_blocks.specs.Node.{buffer_of, linked_block}
use Rattle.em_tree_blocks.specs.Paths.{node_on}
use Rattle.em_tree_blocks.specs.Reading.{tree_at}
use Rattle.em_tree_blocks.proofs.Whole.{entry_reads}
use Rattle.em_tree_walk.specs.Ways.{range_end}
use Rattle.em_trunk.specs.Buffers.{ClearOver, OnOneSide}
use Rattle.em_tree_buffers.specs.Emptying.{LowersEntry}
use Rattle.em_trunk.specs.Entries.{EachEntry, place_level}
use Rattle.em_trunk.specs.Starts.{is_inside, starts_of}
use Rattle.em_trunk.specs.Trunk.{root_of}
use Rattle.em_trunk.specs.declared.trunk.Trunk.{Trunk}
use Rattle.em_trunk.proofs.Clear.{ClearAt, clear_own}
use Rattle.em_trunk.proofs.Entries.{each_both, each_map}
use Rattle.em_trunk.proofs.Faces.{Faces, faces_at, own_start, under_less}
use Rattle.em_trunk.proofs.Faces.Faces.{ahead, among, around, beyond}
use Rattle.em_trunk.proofs.Spots.{placed_high, placed_low, spot_end, spot_level, spot_start, start_at}
use Rattle.em_trunk.proofs.StartCounts.{starts_own}
use Rattle.em_trunk.specs.Spots.{IsSpot, spot_high, spot_low, spot_ops}

-- An entry with this buffer stands in a tree, in a node of level n: its keys begin at `low`, and end
-- at `high`.
pub record Sits (n : ℕ) (low : Record) (high : Option Record) (b : List Record) (level : ℕ) (t : Tree)
    : Type 0 where
  pub place : Place
  pub first : Record
  pub child : Tree
  pub rest : Tree
  pub is : t ≡ put_at place (entry first b child rest)
  pub start : start_at least_record place (entry first b child rest) ≡ low
  pub stop : next_low (range_end None place) rest ≡ high
  pub level_is : place_level place level ≡ n

-- what holds of each entry holds of the one at a place
each_pick : (key : Record → Record) (P : ℕ → Record → Option Record → List Record → Type 0) (p : Place)
    (low : Record) (b : List Record) (c r : Tree) (level : ℕ) (lo : Record) (hi : Option Record)
    → (i : IsTree key (put_at p (entry low b c r)) lo hi)
    → EachEntry P level lo hi (put_at p (entry low b c r))
    → (let at = placed key p (entry low b c r) lo hi i in
    P (place_level p level) at.low (next_low at.high r) b)
each_pick key P here low b c r level lo hi i h = h.0
each_pick key P (under first b2 rest p) low b c r level lo hi i h =
    each_pick key P p low b c r (level - 1) lo (next_low hi rest) i.2 h.1
each_pick key P (past first b2 child p) low b c r level lo hi i h =
    each_pick key P p low b c r level (low_of lo (put_at p (entry low b c r))) hi i.4 h.2

-- a place begins where it did, if the low key stays
pub start_same : (p : Place) (t u : Tree) → SameStart t u → (lo : Record)
    → start_at lo p t ≡ start_at lo p u
start_same here t u s lo = refl
start_same (under first b rest p) t u s lo = start_same p t u s lo
start_same (past first b child p) t u s lo =
    ap (λ (k : Record). start_at k p t) (low_same lo (put_at p t) (put_at p u) (start_put p t u s))
    ∙ start_same p t u s (low_of lo (put_at p u))

-- nothing waits over a level, seen from an entry whose first key is among the keys
clear_seen : (n : ℕ) (low : Record) (high : Option Record) (from : Record) (until : Option Record)
    (l : ℕ) (k : Record) (top : Option Record) (b : List Record) → InRange low high low
    → InRange from until low → Faces n low high l k top → ClearOver n from until l k top b
    → ClearOver n low high l k top b
clear_seen n low high from until l k top b own inside (ahead f) h over q x y =
    absurd (false≢true (sym x.low ∙ f q y))
clear_seen n low high from until l k top b own inside (beyond f) h over q x y = absurd (f q y x.high)
clear_seen n low high from until l k top b own inside (around a f) h over q x y =
    h over low inside (f low own)
clear_seen n low high from until l k top b own inside (among a e f) h over q x y =
    absurd (omega (arith, a, over))

-- an entry of the level below an entry is on one side of its end
side_seen : (n m limit : ℕ) (low : Record) (high : Option Record) (l : ℕ) (k : Record)
    (top : Option Record) (b : List Record) → m + 1 ≡ n → InRange low high low
    → Faces n low high l k top → OnOneSide m limit high l k top b
side_seen n m limit low high l k top b one own (ahead f) e full q z x y w =
    under_less high low z own.high (f z y)
side_seen n m limit low high l k top b one own (beyond f) e full q z x y w = absurd (f q x w)
side_seen n m limit low high l k top b one own (around a f) e full q z x y w =
    absurd (omega (arith, a, e, one))
side_seen n m limit low high l k top b one own (among a g f) e full q z x y w = (f z y).high

-- over a level, and at it
over_both : (m : ℕ) (low : Record) (high : Option Record) (l : ℕ) (k : Record) (top : Option Record)
    (b : List Record) → ClearAt (suc m) low high l k top b → ClearOver (suc m) low high l k top b
    → ClearOver m low high l k top b
over_both m low high l k top b own above over q x y = ⊎_elim
    (λ (h : suc m < l). above h q x y)
    (λ (h : l ≤ suc m). let e : l ≡ suc m = omega (arith, h, over) in own e q x y)
    (cases_lt (suc m) l)

module _ (key : Record → Record) {n : ℕ} {low : Record} {high : Option Record} {b : List Record}
    {level : ℕ} {t : Tree} (h : Sits n low high b level t) (i : IsTree key t least_record None)
  where
    pub sits_is : IsTree key (put_at h.place (entry h.first b h.child h.rest)) least_record None
    sits_is = let T : Tree → Type 0 = λ x. IsTree key x least_record None in subst T h.is i

    pub sits_low : (placed key h.place (entry h.first b h.child h.rest) least_record None sits_is).low ≡ low
    sits_low = placed_low key h.place (entry h.first b h.child h.rest) least_record None sits_is ∙ h.start

    pub sits_high : next_low (placed key h.place (entry h.first b h.child h.rest) least_record None
        sits_is).high h.rest ≡ high
    sits_high = ap (λ (z : Option Record). next_low z h.rest)
        (placed_high key h.place (entry h.first b h.child h.rest) least_record None sits_is) ∙ h.stop

    -- what holds of each entry
    pub sits_each : (P : ℕ → Record → Option Record → List Record → Type 0)
        → EachEntry P level least_record None t → P n low high b
    sits_each P each =
        let E : Tree → Type 0 = EachEntry P level least_record None in
        let x = placed key h.place (entry h.first b h.child h.rest) least_record None sits_is in
        let L : ℕ → Type 0 = λ m. P m x.low (next_low x.high h.rest) b in
        let K : Record → Type 0 = λ k. P n k (next_low x.high h.rest) b in
        let H : Option Record → Type 0 = λ z. P n low z b in
        subst H sits_high (subst K sits_low (subst L h.level_is
        (each_pick key P h.place h.first b h.child h.rest level least_record None sits_is
        (subst E h.is each))))

    -- how the others stand to it
    pub sits_faces : 1 ≤ n
        → EachEntry (λ l k top x. Faces n low high l k top) level least_record None t
    sits_faces some =
        let x = placed key h.place (entry h.first b h.child h.rest) least_record None sits_is in
        let E : Tree → Type 0 = EachEntry (λ l k top x. Faces n low high l k top) level least_record None in
        let w = put_at h.place (entry h.first b h.child h.rest) in
        let L : ℕ → Type 0 =
        λ m. EachEntry (λ l k top y. Faces m x.low (next_low x.high h.rest) l k top) level least_record None w in
        let K : Record → Type 0 =
        λ z. EachEntry (λ l k top y. Faces n z (next_low x.high h.rest) l k top) level least_record None w in
        let H : Option Record → Type 0 =
        λ z. EachEntry (λ l k top y. Faces n low z l k top) level least_record None w in
        let e = h.level_is in
        subst E (sym h.is) (subst H sits_high (subst K sits_low (subst L h.level_is
        (faces_at key h.place h.first b h.child h.rest level least_record None (omega (arith, e, some))
        sits_is tt))))

    -- its range has its first key
    pub sits_own : InRange low high low
    sits_own =
        let x = placed key h.place (entry h.first b h.child h.rest) least_record None sits_is in
        let K : Record → Type 0 = λ z. InRange z (next_low x.high h.rest) z in
        let H : Option Record → Type 0 = λ z. InRange low z low in
        subst H sits_high (subst K sits_low
        (own_start key h.place h.first b h.child h.rest least_record None sits_is tt))

    -- No node below begins inside it.
    pub sits_starts : 1 ≤ n → starts_of (is_inside low high) n level least_record t ≡ 0
    sits_starts some =
        let x = placed key h.place (entry h.first b h.child h.rest) least_record None sits_is in
        let w = put_at h.place (entry h.first b h.child h.rest) in
        let E : Tree → Type 0 = λ z. starts_of (is_inside low high) n level least_record z ≡ 0 in
        let L : ℕ → Type 0 =
        λ m. starts_of (is_inside x.low (next_low x.high h.rest)) m level least_record w ≡ 0 in
        let K : Record → Type 0 =
        λ z. starts_of (is_inside z (next_low x.high h.rest)) n level least_record w ≡ 0 in
        let H : Option Record → Type 0 = λ z. starts_of (is_inside low z) n level least_record w ≡ 0 in
        let e = h.level_is in
        subst E (sym h.is) (subst H sits_high (subst K sits_low (subst L h.level_is
        (starts_own key h.place h.first b h.child h.rest level least_record None
        (omega (arith, e, some)) sits_is tt))))

    -- If nothing waits over its level where it begins, nothing does on the paths of its keys.
    pub clear_spot : (from : Record) (until : Option Record) → 1 ≤ n → InRange from until low
        → EachEntry (ClearOver n from until) level least_record None t
        → EachEntry (ClearOver n low high) level least_record None t
    clear_spot from until some inside clear =
        let F : ℕ → Record → Option Record → List Record → Type 0 = λ l k top x. Faces n low high l k top in
        each_map (λ l k top x. F l k top x × ClearOver n from until l k top x) (ClearOver n low high)
        (λ l k top x g. clear_seen n low high from until l k top x sits_own inside g.0 g.1) level
        least_record None t
        (each_both F (ClearOver n from until) level least_record None t (sits_faces some) clear)

    -- Entries of the level below are on one side of its end.
    pub sides_spot : (limit m : ℕ) → m + 1 ≡ n
        → EachEntry (OnOneSide m limit high) level least_record None t
    sides_spot limit m one =
        each_map (λ l k top x. Faces n low high l k top) (OnOneSide m limit high)
        (λ l k top x g. side_seen n m limit low high l k top x one sits_own g) level least_record None t
        (sits_faces (omega (arith, one)))

-- If it has nothing in its buffer either, nothing waits over the level below.
pub clear_below : (key : Record → Record) (m : ℕ) {low : Record} {high : Option Record} {level : ℕ}
    {t : Tree} → (h : Sits (suc m) low high [] level t) → IsTree key t least_record None
    → EachEntry (ClearOver (suc m) low high) level least_record None t
    → EachEntry (ClearOver m low high) level least_record None t
clear_below key m {low = low} {high = high} {level = level} {t = t} h i clear =
    let is = sits_is key h i in
    let x = placed key h.place (entry h.first [] h.child h.rest) least_record None is in
    let w = put_at h.place (entry h.first [] h.child h.rest) in
    let E : Tree → Type 0 = EachEntry (ClearAt (suc m) low high) level least_record None in
    let L : ℕ → Type 0 =
    λ n. EachEntry (ClearAt n x.low (next_low x.high h.rest)) level least_record None w in
    let K : Record → Type 0 =
    λ z. EachEntry (ClearAt (suc m) z (next_low x.high h.rest)) level least_record None w in
    let H : Option Record → Type 0 =
    λ z. EachEntry (ClearAt (suc m) low z) level least_record None w in
    let e = h.level_is in
    let own = subst E (sym h.is) (subst H (sits_high key h i) (subst K (sits_low key h i)
    (subst L h.level_is (clear_own key h.place h.first h.child h.rest level least_record None
    (omega (arith, e)) is)))) in
    each_map (λ l k top b. ClearAt (suc m) low high l k top b × ClearOver (suc m) low high l k top b)
    (ClearOver m low high) (λ l k top b g. over_both m low high l k top b g.0 g.1) level least_record
    None t (each_both (ClearAt (suc m) low high) (ClearOver (suc m) low high) level least_record None t
    own clear)

-- a spot
pub spot_sits : {l node at : ℕ} {s : RigState} {v : Trunk} (path : List ℕ)
    → IsSpot l node at s v path
    → Sits (suc l) (spot_low at s v path) (spot_high at s v path) (spot_ops at s v path) v.level
    (root_of s v)
spot_sits {l = l} {at = at} {s = s} {v = v} path sp =
    let e = entry_on v.level s v.root path at in
    let b = chain_items s (buffer_of e) in
    let c = tree_at l s (linked_block e.child) in
    let r = row_from l s (node_on path v.level s v.root) (suc at) in
    record {
      place = entry_at_place v.level s v.root path l at;
      first = e.low;
      child = c;
      rest = r;
      is = entry_reads v.level s v.root path l at sp.on;
      start = spot_start v.level s v.root path l at least_record b c r sp.on;
      stop = spot_end v.level s v.root path l at None;
      level_is = spot_level v.level s v.root path l at sp.on;
    }

-- the same after its buffer was emptied
pub lowered_sits : (key : Record → Record) {l node at : ℕ} {s t : RigState} {v w : Trunk}
    (path : List ℕ) → IsSpot l node at s v path → LowersEntry key l at s t v w path
    → Sits (suc l) (spot_low at s v path) (spot_high at s v path) [] w.level (root_of t w)
lowered_sits key {l = l} {at = at} {s = s} {v = v} {w = w} path sp h =
    let e = entry_on v.level s v.root path at in
    let b = chain_items s (buffer_of e) in
    let c = tree_at l s (linked_block e.child) in
    let r = row_from l s (node_on path v.level s v.root) (suc at) in
    let p = entry_at_place v.level s v.root path l at in
    let old = entry e.low b c r in
    let new = entry e.low [] (pour key c b) r in
    let N : ℕ → Type 0 = λ m. place_level p m ≡ suc l in
    record {
      place = p;
      first = e.low;
      child = pour key c b;
      rest = r;
      is = h.new;
      start = sym (start_same p old new refl least_record)
          ∙ spot_start v.level s v.root path l at least_record b c r sp.on;
      stop = spot_end v.level s v.root path l at None;
      level_is = subst N (sym h.level) (spot_level v.level s v.root path l at sp.on);
    }
