-- Where the keys of an entry begin and end, at its place in the tree that is read.
use Rattle.std.proofs.Common.{◌≡◌, ℕ, zero, suc, ◌-◌, ◌<◌, List, [], ◌∷◌, length, drop, take, refl, sym, ap, ◌∙◌, arith}
use Rattle.std.specs.Prelude.{Option}
use Rattle.std.proofs.Math.Seq.{drop-cons}
use Rattle.em_record.specs.declared.record.Record.{Record}
use Rattle.em_space.specs.Rig.{RigState}
use Rattle.em_node.specs.declared.entry.Entry.{Entry}
use Rattle.em_node.specs.Node.{no_entry}
use Rattle.em_tree_model.specs.Places.{Place, place_in, put_at}
use Rattle.em_tree_model.specs.Places.Place.{here, past, under}
use Rattle.em_tree_model.specs.Ranges.{IsTree, low_of, next_low}
use Rattle.em_tree_model.specs.Tree.{Tree}
use Rattle.em_tree_model.specs.Tree.Tree.{entry}
use Rattle.em_tree_model.proofs.Events.{placed}
use Rattle.em_tree_model.proofs.RowPlaces.{put_in}
use Rattle.em_tree_blocks.specs.Effects.{IsEntryAt, entry_at_place, entry_on, entry_place, row_from}
use Rattle.em_tree_blocks.specs.Paths.{IsPath, child_at, level_on, node_on, place_on, row_place}
use Rattle.em_tree_blocks.specs.Reading.{entries_at, past_entries, row_of, tree_at}
use Rattle.em_tree_walk.specs.Descents.{end_at, end_before}
use Rattle.em_tree_walk.specs.Ways.{entry_start, range_end, range_start}
use Rattle.em_trunk.specs.Entries.{place_level}

-- where the keys of what stands at a place begin
abbrev pub start_at : Record → Place → Tree → Record
start_at lo here t = lo
start_at lo (under low b r p) t = start_at lo p t
start_at lo (past low b c p) t = start_at (low_of lo (put_at p t)) p t

pub placed_low : (key : Record → Record) (p : Place) (t : Tree) (lo : Record) (hi : Option Record)
    (i : IsTree key (put_at p t) lo hi) → (placed key p t lo hi i).low ≡ start_at lo p t
placed_low key here t lo hi i = refl
placed_low key (under low b r p) t lo hi i = placed_low key p t lo (next_low hi r) i.2
placed_low key (past low b c p) t lo hi i = placed_low key p t (low_of lo (put_at p t)) hi i.4

pub placed_high : (key : Record → Record) (p : Place) (t : Tree) (lo : Record) (hi : Option Record)
    (i : IsTree key (put_at p t) lo hi) → (placed key p t lo hi i).high ≡ range_end hi p
placed_high key here t lo hi i = refl
placed_high key (under low b r p) t lo hi i = placed_high key p t lo (next_low hi r) i.2
placed_high key (past low b c p) t lo hi i = placed_high key p t (low_of lo (put_at p t)) hi i.4

-- a place in what stands at another
start_in : (o q : Place) (lo : Record) (t : Tree)
    → start_at lo (place_in o q) t ≡ start_at (start_at lo o (put_at q t)) q t
start_in here q lo t = refl
start_in (under low b r p) q lo t = start_in p q lo t
start_in (past low b c p) q lo t =
    ap (λ (x : Tree). start_at (low_of lo x) (place_in p q) t) (put_in p q t)
    ∙ start_in p q (low_of lo (put_at p (put_at q t))) t

end_in : (o q : Place) (hi : Option Record) → range_end hi (place_in o q) ≡ range_end (range_end hi o) q
end_in here q hi = refl
end_in (under low b r p) q hi = end_in p q (next_low hi r)
end_in (past low b c p) q hi = end_in p q hi

-- a place in a child of a row
start_row : (child : ℕ → Tree) (s : RigState) (es : List Entry) (i : ℕ) (p : Place) (lo : Record)
    (t : Tree) → i < length es
    → start_at lo (row_place child s es i p) t ≡ start_at (entry_start lo es i) p t
start_row child s [] i p lo t h = absurd (omega (arith, h))
start_row child s (e ∷ es) zero p lo t h = refl
start_row child s (e ∷ []) (suc i) p lo t h = absurd (omega (arith, h))
start_row child s (e ∷ f ∷ fs) (suc zero) p lo t h = start_row child s (f ∷ fs) zero p f.low t (omega (arith, h))
start_row child s (e ∷ f ∷ fs) (suc (suc i)) p lo t h =
    start_row child s (f ∷ fs) (suc i) p f.low t (omega (arith, h))

way_row : (child : ℕ → Tree) (s : RigState) (es : List Entry) (i : ℕ) (p : Place) (lo : Record)
    → i < length es → range_start lo (row_place child s es i p) ≡ range_start (entry_start lo es i) p
way_row child s [] i p lo h = absurd (omega (arith, h))
way_row child s (e ∷ es) zero p lo h = refl
way_row child s (e ∷ []) (suc i) p lo h = absurd (omega (arith, h))
way_row child s (e ∷ f ∷ fs) (suc zero) p lo h = way_row child s (f ∷ fs) zero p f.low (omega (arith, h))
way_row child s (e ∷ f ∷ fs) (suc (suc i)) p lo h =
    way_row child s (f ∷ fs) (suc i) p f.low (omega (arith, h))

-- the node at the end of a path
start_path : (is : List ℕ) (l : ℕ) (s : RigState) (k : ℕ) (lo : Record) (t : Tree) → IsPath is l s k
    → start_at lo (place_on is l s k) t ≡ range_start lo (place_on is l s k)
start_path [] l s k lo t n = refl
start_path (i ∷ is) zero s k lo t n = absurd n
start_path (i ∷ is) (suc l) s k lo t n =
    let c = child_at i (entries_at s k) in
    let es = entries_at s k in
    let p = place_on is l s c in
    start_row (tree_at l s) s es i p lo t n.0
    ∙ (start_path is l s c (entry_start lo es i) t n.1 ∙ sym (way_row (tree_at l s) s es i p lo n.0))

-- an entry of a row
start_entry : (child : ℕ → Tree) (s : RigState) (es : List Entry) (i : ℕ) (lo low : Record)
    (b : List Record) (c r : Tree) → i < length es → (f : Entry) (fs : List Entry)
    → drop i es ≡ f ∷ fs → low ≡ f.low
    → start_at lo (past_entries child s (take i es) here) (entry low b c r) ≡ entry_start lo es i
start_entry child s [] i lo low b c r h f fs d e = absurd (omega (arith, h))
start_entry child s (g ∷ gs) zero lo low b c r h f fs d e = refl
start_entry child s (g ∷ []) (suc i) lo low b c r h f fs d e = absurd (omega (arith, h))
start_entry child s (g ∷ k ∷ ks) (suc zero) lo low b c r h f fs d e =
    e ∙ ap (λ (x : List Entry). first_low low x) (sym d)
  where
    first_low : Record → List Entry → Record
    first_low z [] = z
    first_low z (x ∷ xs) = x.low
start_entry child s (g ∷ k ∷ ks) (suc (suc i)) lo low b c r h f fs d e =
    start_entry child s (k ∷ ks) (suc i) k.low low b c r (omega (arith, h)) f fs d e

-- where its keys begin
pub spot_start : (top : ℕ) (s : RigState) (root : ℕ) (path : List ℕ) (l i : ℕ) (lo : Record)
    (b : List Record) (c r : Tree) → IsEntryAt top s root path l i
    → start_at lo (entry_at_place top s root path l i) (entry (entry_on top s root path i).low b c r)
    ≡ entry_start (range_start lo (place_on path top s root)) (entries_at s (node_on path top s root)) i
spot_start top s root path l i lo b c r a =
    let o = place_on path top s root in
    let j = node_on path top s root in
    let es = entries_at s j in
    let e = entry_on top s root path i in
    let q = entry_place l s j i in
    let t = entry e.low b c r in
    start_in o q lo t
    ∙ (ap (λ (x : Record). start_at x q t) (start_path path top s root lo (put_at q t) a.on_path)
    ∙ start_entry (tree_at l s) s es i (range_start lo o) e.low b c r a.one e (drop (suc i) es)
    (drop-cons es i no_entry a.one) refl)

end_past : (child : ℕ → Tree) (s : RigState) (es : List Entry) (hi : Option Record)
    → range_end hi (past_entries child s es here) ≡ hi
end_past child s [] hi = refl
end_past child s (e ∷ es) hi = end_past child s es hi

end_row : (child : ℕ → Tree) (s : RigState) (es : List Entry) (hi : Option Record)
    → next_low hi (row_of child s es) ≡ end_before hi es
end_row child s [] hi = refl
end_row child s (e ∷ es) hi = refl

-- and where they end
pub spot_end : (top : ℕ) (s : RigState) (root : ℕ) (path : List ℕ) (l i : ℕ) (hi : Option Record)
    → next_low (range_end hi (entry_at_place top s root path l i))
    (row_from l s (node_on path top s root) (suc i))
    ≡ end_at (entries_at s (node_on path top s root)) i (range_end hi (place_on path top s root))
spot_end top s root path l i hi =
    let o = place_on path top s root in
    let j = node_on path top s root in
    let es = entries_at s j in
    let q = entry_place l s j i in
    let r = row_from l s j (suc i) in
    ap (λ (x : Option Record). next_low x r)
    (end_in o q hi ∙ end_past (tree_at l s) s (take i es) (range_end hi o))
    ∙ end_row (tree_at l s) s (drop (suc i) es) (range_end hi o)

-- its level
place_level_in : (o q : Place) (n : ℕ) → place_level (place_in o q) n ≡ place_level q (place_level o n)
place_level_in here q n = refl
place_level_in (under low b r p) q n = place_level_in p q (n - 1)
place_level_in (past low b c p) q n = place_level_in p q n

level_past : (child : ℕ → Tree) (s : RigState) (es : List Entry) (n : ℕ)
    → place_level (past_entries child s es here) n ≡ n
level_past child s [] n = refl
level_past child s (e ∷ es) n = level_past child s es n

level_row : (child : ℕ → Tree) (s : RigState) (es : List Entry) (i : ℕ) (p : Place) (n : ℕ)
    → i < length es → place_level (row_place child s es i p) n ≡ place_level p (n - 1)
level_row child s [] i p n h = absurd (omega (arith, h))
level_row child s (e ∷ es) zero p n h = refl
level_row child s (e ∷ es) (suc i) p n h = level_row child s es i p n (omega (arith, h))

level_path : (path : List ℕ) (top : ℕ) (s : RigState) (root : ℕ) → IsPath path top s root
    → place_level (place_on path top s root) top ≡ level_on path top
level_path [] top s root h = refl
level_path (i ∷ is) zero s root h = absurd h
level_path (i ∷ is) (suc l) s root h =
    let k = child_at i (entries_at s root) in
    let p = place_on is l s k in
    let down : suc l - 1 ≡ l = omega arith in
    level_row (tree_at l s) s (entries_at s root) i p (suc l) h.0
    ∙ (ap (place_level p) down ∙ level_path is l s k h.1)

pub spot_level : (top : ℕ) (s : RigState) (root : ℕ) (path : List ℕ) (l i : ℕ)
    → IsEntryAt top s root path l i → place_level (entry_at_place top s root path l i) top ≡ suc l
spot_level top s root path l i a =
    let o = place_on path top s root in
    let j = node_on path top s root in
    let q = entry_place l s j i in
    place_level_in o q top
    ∙ (ap (place_level q) (level_path path top s root a.on_path)
    ∙ (level_past (tree_at l s) s (take i (entries_at s j)) (level_on path top) ∙ a.level))
