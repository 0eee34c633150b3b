-- A tree, one of whose entries was emptied into its child: sizes, lengths of buffers and first low
-- keys stay within their limits.
use Rattle.std.specs.Prelude.{◌≡◌, ℕ, ◌+◌, ◌-◌, ◌*◌, ◌<◌, ◌≤◌, List, [], length, Option}
use Rattle.std.proofs.Common.{refl, sym, subst, arith}
use Rattle.em_record.specs.Shape.{ShapeNumbers, fan_of}
use Rattle.em_record.specs.declared.record.Record.{Record}
use Rattle.em_settle.proofs.Keys.{below_itself}
use Rattle.em_tree_model.specs.Places.{Place, put_at}
use Rattle.em_tree_model.specs.Pouring.{pour}
use Rattle.em_tree_model.specs.Ranges.{InRange, IsTree, Under, low_of, next_low}
use Rattle.em_tree_model.specs.Tree.{HasEntry, IsRow, Tree}
use Rattle.em_tree_model.specs.Tree.Tree.{end, entry, leaf}
use Rattle.em_tree_model.proofs.Events.{placed}
use Rattle.em_tree_cost.specs.Outline.{Outline, count_of}
use Rattle.em_tree_cost.specs.Outline.Outline.{end as none, entry as part}
use Rattle.em_tree_cost.specs.Spots.Spot.{under as below}
use Rattle.em_tree_outline.specs.Outline.{outline_of, spot_of}
use Rattle.em_tree_outline.proofs.Pouring.{outline_pours}
use Rattle.em_tree_walk.specs.Lows.{LowsKeep}
use Rattle.em_trunk.specs.Buffers.{IsBounded, IsThin}
use Rattle.em_trunk.specs.Entries.{EachEntry, place_level}
use Rattle.em_trunk.specs.Sized.{IsSized, leaf_limit}
use Rattle.em_trunk.proofs.Buffers.{bounded_poured}
use Rattle.em_trunk.proofs.Clear.{each_within}
use Rattle.em_trunk.proofs.Entries.{each_at, each_both, each_level, each_map, under_first, under_low, under_placed}
use Rattle.em_trunk.proofs.Events.{outline_at}
use Rattle.em_trunk.proofs.Lows.{lows_pour, lows_put}
use Rattle.em_trunk.proofs.Sized.{count_pour, fat_emptied, leaves_pour, leaves_put, nodes_pour, nodes_put}

-- no range of an entry is empty
pub each_some : (key : Record → Record) (level : ℕ) (lo : Record) (hi : Option Record) (t : Tree)
    → Under hi lo → IsTree key t lo hi → EachEntry (λ l k top b. Under top k) level lo hi t
each_some key level lo hi (leaf xs) u i = tt
each_some key level lo hi end u i = tt
each_some key level lo hi (entry low b c r) u i =
    let first = under_first lo hi r u i.3 in (
      first,
      each_some key (level - 1) lo (next_low hi r) c first i.2,
      each_some key level (low_of lo r) hi r (under_low lo hi r u i.3) i.4,
    )

-- the entries of a tree begin in its range
pub each_starts : (key : Record → Record) (level : ℕ) (lo : Record) (hi : Option Record) (t : Tree)
    → Under hi lo → IsTree key t lo hi → EachEntry (λ l k top b. InRange lo hi k) level lo hi t
each_starts key level lo hi t u i =
    let A : ℕ → Record → Option Record → List Record → Type 0 =
    λ l k top b. (q : Record) → InRange k top q → InRange lo hi q in
    let B : ℕ → Record → Option Record → List Record → Type 0 = λ l k top b. Under top k in
    each_map (λ l k top b. A l k top b × B l k top b) (λ l k top b. InRange lo hi k)
    (λ l k top b h. h.0 k (record { low = below_itself k; high = h.1 })) level lo hi t
    (each_both A B level lo hi t (each_within key level lo hi t i) (each_some key level lo hi t u i))

module _ (key : Record → Record) (p : Place) (low : Record) (b : List Record) (c r root next : Tree)
    (old : root ≡ put_at p (entry low b c r)) (new : next ≡ put_at p (entry low [] (pour key c b) r))
  where
    pub lows_lowered : (lo : Record) → LowsKeep lo root → LowsKeep lo next
    lows_lowered lo h =
        let P : Tree → Type 0 = LowsKeep lo in
        subst P (sym new) (lows_put p (entry low b c r) (entry low [] (pour key c b) r) refl
        (λ k x. (x.0, lows_pour key c b k x.1, x.2)) lo (subst P old h))

    pub sized_lowered : (shape : ShapeNumbers) (first : Record) (ops : List Record) → IsRow c → HasEntry c
        → IsSized shape (outline_of (entry first ops root end))
        → (more : List Record) → IsSized shape (outline_of (entry first more next end))
    sized_lowered shape first ops row some h more =
        let q = spot_of p in
        let t = part (length b) (outline_of c) (outline_of r) in
        let u = part 0 (outline_of (pour key c b)) (outline_of r) in
        let pours = outline_pours key c b row some in
        let n = 2 * fan_of shape in
        let m = leaf_limit shape in
        let same : count_of (outline_of (pour key c b)) ≡ count_of (outline_of c) =
        count_pour (length b) (outline_of c) (outline_of (pour key c b)) pours in
        let before = outline_at root p (entry low b c r) old in
        let after = outline_at next p (entry low [] (pour key c b) r) new in
        let S : Outline → Type 0 = λ o. IsSized shape (part (length ops) o none) in
        let T : Outline → Type 0 = λ o. IsSized shape (part (length more) o none) in
        let g = subst S before h in
        let over = below (length ops) none q in
        let leaves = leaves_put m over t u
        (λ x. (leaves_pour m (length b) (outline_of c) (outline_of (pour key c b)) pours x.0, x.1)) g.leaves in
        let nodes = nodes_put n over t u (omega arith) (λ x. (
          omega (arith, x.0, same),
          nodes_pour n (length b) (outline_of c) (outline_of (pour key c b)) pours x.1,
          x.2,
        )) g.nodes in
        let fat = fat_emptied (fan_of shape) (length b) (length b) over (outline_of c)
        (outline_of (pour key c b)) (outline_of r) pours g.fat in
        subst T (sym after) (record {
          leaves = (leaves.0, leaves.1);
          nodes = (nodes.0, nodes.1, nodes.2);
          fat = (fat.0, fat.1);
        })

    pub bounded_lowered : (top limit level : ℕ) (lo : Record) (hi : Option Record) (n : ℕ)
        → place_level p level ≡ n → 2 ≤ n → n ≤ top → Under hi lo
        → (i : IsTree key (put_at p (entry low b c r)) lo hi)
        → EachEntry (λ l k z x. l < n → InRange (placed key p (entry low b c r) lo hi i).low
        (next_low (placed key p (entry low b c r) lo hi i).high r) k → length x < limit) level lo hi root
        → EachEntry (IsBounded top limit) level lo hi root
        → EachEntry (IsBounded top limit) level lo hi next
    bounded_lowered top limit level lo hi n at two most u i thin h =
        let t = entry low b c r in
        let x = placed key p t lo hi i in
        let high = next_low x.high r in
        let A : ℕ → Record → Option Record → List Record → Type 0 =
        λ l k z y. l < n → InRange x.low high k → length y < limit in
        let B : ℕ → Record → Option Record → List Record → Type 0 = IsBounded top limit in
        let Both : ℕ → Record → Option Record → List Record → Type 0 = λ l k z y. A l k z y × B l k z y in
        let P : Tree → Type 0 = EachEntry Both level lo hi in
        let Q : Tree → Type 0 = EachEntry B level lo hi in
        let m = place_level p level in
        subst Q (sym new) (each_at key Both B (λ l k z y g. g.1) p t (entry low [] (pour key c b) r) refl
        level lo hi i
        (λ g.
        let v = under_first x.low x.high r (under_placed key p t lo hi i u) x.is.3 in
        let C : ℕ → Record → Option Record → List Record → Type 0 =
        λ l k z y. (l ≤ m - 1) × InRange x.low high k in
        let inside = each_both (λ l k z y. l ≤ m - 1) (λ l k z y. InRange x.low high k) (m - 1) x.low high c
        (each_level (m - 1) x.low high c) (each_starts key (m - 1) x.low high c v x.is.2) in
        let few : EachEntry (IsThin limit) (m - 1) x.low high c =
        each_map (λ l k z y. C l k z y × Both l k z y) (IsThin limit)
        (λ l k z y d. let e = d.0.0 in d.1.0 (omega (arith, e, at, two)) d.0.1) (m - 1) x.low high c
        (each_both C Both (m - 1) x.low high c inside g.1) in
        let gap : top + 1 - (m - 1) ≡ top + 2 - m = omega (arith, at, two, most) in
        let own = g.0.1 in
        let short : length b < (top + 1 - (m - 1)) * limit = rw gap own in
        let none_left : 0 < (top + 2 - m) * limit = omega (arith, own) in (
          none_left,
          bounded_poured key top limit c b (m - 1) x.low high (omega (arith, at, two))
              (omega (arith, at, two, most)) short few,
          each_map Both B (λ l k z y d. d.1) m (low_of x.low r) x.high r g.2,
        ))
        (subst P old (each_both A B level lo hi root thin h)))
