-- What a search found, in terms of the tree's entries.
use Rattle.std.specs.Prelude.{◌≡◌, ◌⊎◌, Bool, true, false, ℕ, zero, suc, ◌-◌, ◌<◌, ◌≤◌, ◌==◌, if◌then◌else◌, List, [], ◌∷◌, get_or, length, IsTrue, Option, Some, None}
use Rattle.std.proofs.Common.{refl, sym, ap, subst, ◌∙◌, arith, inl, inr, ⊎_elim}
use Rattle.std.proofs.lemmas.Bool.{cases_Bool, eq-eqb, eqb-true, false≢true}
use Rattle.em_record.specs.Order.{is_below}
use Rattle.em_record.specs.declared.record.Record.{Record}
use Rattle.em_record.proofs.OrderLaws.{below_itself}
use Rattle.em_space.specs.Rig.{RigState}
use Rattle.em_chain.proofs.Readers.{length_items}
use Rattle.em_node.specs.Node.{no_entry, place_of}
use Rattle.em_node.specs.declared.entry.Entry.{Entry}
use Rattle.em_tree_model.specs.Places.{put_at}
use Rattle.em_tree_model.specs.Ranges.{InRange, IsTree, Under, least_record}
use Rattle.em_tree_model.specs.Tree.{HasEntry, Tree}
use Rattle.em_tree_model.proofs.Events.{placed}
use Rattle.em_tree_model.proofs.Ranges.{below_not, from_above}
use Rattle.em_tree_blocks.specs.Node.{buffer_of}
use Rattle.em_tree_blocks.specs.Paths.{IsPath, child_at, level_on, node_on, place_on}
use Rattle.em_tree_blocks.specs.Reading.{AreStored, IsTreeAt, entries_at, row_of, tree_at}
use Rattle.em_tree_blocks.proofs.Paths.{tree_on}
use Rattle.em_empty.proofs.Dealt.{place_within}
use Rattle.em_tree_walk.specs.Descents.{end_at, from_root, levels_down, places_down}
use Rattle.em_tree_walk.specs.Searches.{AreThinFrom, Finds, HasKeys, IsAmong, IsNextFull, Searched, searched_node}
use Rattle.em_tree_walk.specs.Stands.{LeadsToTree, StandsAt, entries_in}
use Rattle.em_tree_walk.specs.Ways.{entry_start, range_end, range_start}
use Rattle.em_tree_walk.specs.declared.descending.Descent.{Descent}
use Rattle.em_tree_walk.specs.declared.searching.Finding.{Finding}
use Rattle.em_tree_walk.specs.declared.searching.Finding.TheVariants.{Found, Next, Nothing}
use Rattle.em_tree_walk.specs.declared.searching.Range.{Range}
use Rattle.em_tree_walk.proofs.Standing.{child_of_node}
use Rattle.em_tree_walk.proofs.Ways.{IsWayDown, key_in_row, way_down}
use Rattle.em_trunk.specs.Entries.{EachEntry, place_level}
use Rattle.em_tree_buffers.specs.Findings.{FindsSpot, FoundNext, FoundSpot, ThinBetween}
use Rattle.em_trunk.specs.Trunk.{IsRunning, IsStanding, root_of}
use Rattle.em_trunk.specs.declared.trunk.Trunk.{Trunk}
use Rattle.em_tree_buffers.proofs.Around.{thin_around, under_less}
use Rattle.em_trunk.proofs.Beginnings.{apart_or, begins_next, least_below}
use Rattle.em_tree_buffers.proofs.Lowered.{buffer_stored}
use Rattle.em_trunk.proofs.PathRanges.{level_path, start_path}
use Rattle.em_trunk.proofs.Spots.{placed_high, placed_low}
use Rattle.em_tree_buffers.proofs.ThinRows.{entry_some, entry_under, row_thin, start_later, start_low}
use Rattle.em_trunk.specs.Spots.{EachRead, IsSpot, spot_ops}

-- the node at the end of a path
stands_on : (path : List ℕ) (top : ℕ) (s : RigState) (k : ℕ) → IsPath path top s k → StandsAt s top k
    → StandsAt s (level_on path top) (node_on path top s k)
stands_on [] top s k h o = o
stands_on (i ∷ is) zero s k h o = absurd h
stands_on (i ∷ is) (suc l) s k h o =
    stands_on is l s (child_at i (entries_at s k)) h.1 (child_of_node i o h.0)

has_row : (child : ℕ → Tree) (s : RigState) (es : List Entry) → 0 < length es
    → HasEntry (row_of child s es)
has_row child s [] h = absurd (omega (arith, h))
has_row child s (e ∷ es) h = tt

-- a key below an end that another isn't under is below that one
past_until : (until : Option Record) (low q : Record) → (Under until low → ⊥) → Under until q
    → is_below q low ≡ true
past_until None low q f u = absurd (f tt)
past_until (Some x) low q f u = ⊎_elim
    (λ (t : is_below low x ≡ true). absurd (f t))
    (λ (g : is_below low x ≡ false). from_above q x low u g)
    (cases_Bool (is_below low x))

-- and so under the end of a node that isn't before it
past_end : (hi until : Option Record) → ((low : Record) → hi ≡ Some low → Under until low → ⊥)
    → (q : Record) → Under until q → Under hi q
past_end None until f q u = tt
past_end (Some low) until f q u = past_until until low q (f low refl) u

-- the first key of what was found
begins_case : (b : Bool) (at first : ℕ) (from low is : Record) → (at == first) ≡ b
    → is ≡ (if b then from else low) → first ≤ at
    → ((at ≡ first) × (is ≡ from)) ⊎ ((first < at) × (is ≡ low))
begins_case true at first from low is e h less = inl (eqb-true at first e, h)
begins_case false at first from low is e h less = ⊎_elim
    (λ (d : at ≡ first). absurd (false≢true (sym e ∙ eq-eqb at first d)))
    (λ (d : first < at). inr (d, h))
    (apart_or first at less)

module _ (key : Record → Record) (IsOp IsKept : Record → Type 0) (limit l : ℕ) (keys : Range)
    (s : RigState) (v : Trunk) (down : suc l ≤ v.level) (told : IsTrue s.device.told)
    (st : IsStanding key IsOp IsKept s v) (stands : StandsAt s v.level v.root) where
  abbrev pub way_to : List ℕ
  way_to = places_down keys.from (v.level - suc l) s.device.contents v.root

  abbrev pub node_to : ℕ
  node_to = node_on way_to v.level s v.root

  abbrev pub descent_to : Descent
  descent_to = searched_node s v.root v.level (suc l) keys

  abbrev pub low_to : Record
  low_to = range_start least_record (place_on way_to v.level s v.root)

  abbrev pub high_to : Option Record
  high_to = range_end None (place_on way_to v.level s v.root)

  way : IsWayDown keys.from (v.level - suc l) v.level s (from_root v.root)
  way = way_down keys.from (v.level - suc l) v.level s (from_root v.root) (omega arith) stands

  level_is : level_on way_to v.level ≡ suc l
  level_is = let h = way.level in omega (arith, h, down)

  reads_to : root_of s v ≡ put_at (place_on way_to v.level s v.root) (tree_at (suc l) s node_to)
  reads_to = tree_on way_to v.level s v.root way.path
      ∙ ap (λ n. put_at (place_on way_to v.level s v.root) (tree_at n s node_to)) level_is

  put_is : IsTree key (put_at (place_on way_to v.level s v.root) (tree_at (suc l) s node_to))
      least_record None
  put_is =
      let P : Tree → Type 0 = λ x. IsTree key x least_record None in
      subst P reads_to st.is.2

  low_is : (placed key (place_on way_to v.level s v.root) (tree_at (suc l) s node_to) least_record None
      put_is).low ≡ low_to
  low_is =
      let o = place_on way_to v.level s v.root in
      let t = tree_at (suc l) s node_to in
      placed_low key o t least_record None put_is
      ∙ start_path way_to v.level s v.root least_record t way.path

  high_is : (placed key (place_on way_to v.level s v.root) (tree_at (suc l) s node_to) least_record None
      put_is).high ≡ high_to
  high_is = placed_high key (place_on way_to v.level s v.root) (tree_at (suc l) s node_to) least_record
      None put_is

  row_is : IsTree key (tree_at (suc l) s node_to) low_to high_to
  row_is =
      let t = tree_at (suc l) s node_to in
      let x = placed key (place_on way_to v.level s v.root) t least_record None put_is in
      let P : Record → Type 0 = λ a. IsTree key t a x.high in
      let Q : Option Record → Type 0 = λ b. IsTree key t low_to b in
      subst Q high_is (subst P low_is x.is)

  node_stands : StandsAt s (suc l) node_to
  node_stands =
      let P : ℕ → Type 0 = λ n. StandsAt s n node_to in
      subst P level_is (stands_on way_to v.level s v.root way.path stands)

  some_to : 0 < length (entries_at s node_to)
  some_to = node_stands.rows.0

  stored_to : AreStored (IsTreeAt l s) s (entries_at s node_to)
  stored_to = node_stands.is.1

  from_in : InRange low_to high_to keys.from
  from_in = way.key_in least_record (record { low = least_below keys.from; high = tt })

  begins_under : Under high_to low_to
  begins_under = under_less high_to keys.from low_to from_in.low from_in.high

  abbrev pub first_to : ℕ
  first_to = place_of keys.from (entries_at s node_to)

  first_one : first_to < length (entries_at s node_to)
  first_one = place_within keys.from (entries_at s node_to) some_to

  first_in : InRange (entry_start low_to (entries_at s node_to) first_to)
      (end_at (entries_at s node_to) first_to high_to) keys.from
  first_in = key_in_row keys.from (entries_at s node_to) low_to high_to some_to from_in

  -- the buffers that were passed are thin
  thin_up : (until : Option Record) (n : ℕ) → ((q : Record) → Under until q → Under high_to q)
      → AreThinFrom limit (entries_at s node_to) first_to n
      → (n < length (entries_at s node_to) → Under until (entry_start low_to (entries_at s node_to) n) → ⊥)
      → first_to ≤ n → EachRead (ThinBetween limit (suc l) keys.from until) s v
  thin_up until n wide thin late less =
      let o = place_on way_to v.level s v.root in
      let t = tree_at (suc l) s node_to in
      let x = placed key o t least_record None put_is in
      let T : ℕ → Record → Option Record → List Record → Type 0 =
      ThinBetween limit (suc l) keys.from until in
      let level : place_level o v.level ≡ suc l = level_path way_to v.level s v.root way.path ∙ level_is in
      let row = row_thin key (tree_at l s) s limit l keys.from until told (IsTreeAt l s)
      (entries_at s node_to) first_to n low_to high_to row_is stored_to first_one first_in.low thin late
      less in
      let A : Record → Type 0 = λ a. EachEntry T (suc l) a high_to t in
      let B : Option Record → Type 0 = λ b. EachEntry T (suc l) x.low b t in
      let C : ℕ → Type 0 = λ m. EachEntry T m x.low x.high t in
      let here = subst C (sym level) (subst B (sym high_is) (subst A (sym low_is) row)) in
      let L : Record → Type 0 = λ a. is_below keys.from a ≡ false in
      let H : Option Record → Type 0 = λ b. (q : Record) → Under until q → Under b q in
      let R : Tree → Type 0 = λ y. EachEntry T v.level least_record None y in
      subst R (sym reads_to) (thin_around key limit (suc l) keys.from until (omega arith) o t v.level
      least_record None put_is (omega (arith, level)) (has_row (tree_at l s) s (entries_at s node_to) some_to)
      (subst L (sym low_is) from_in.low) (subst H (sym high_is) wide) here)

  -- where an entry begins is in the node's range
  start_wide : (i : ℕ) (q : Record)
      → is_below q (entry_start low_to (entries_at s node_to) i) ≡ true → Under high_to q
  start_wide i q h =
      let a = entry_start low_to (entries_at s node_to) i in
      under_less high_to a q (below_not q a h)
      (entry_under key (tree_at l s) s (entries_at s node_to) i low_to high_to row_is begins_under)

  end_is : descent_to.end ≡ high_to
  end_is = way.end

  module _ (z : ℕ) (next : IsNextFull limit (entries_at s node_to) first_to z) where
    ops_full : limit ≤ length (spot_ops z s v way_to)
    ops_full =
        let e = get_or (entries_at s node_to) z no_entry in
        let count = length_items s (buffer_of e)
        (buffer_stored (IsTreeAt l s) s (entries_at s node_to) z next.one stored_to) told in
        let full = next.full in
        omega (arith, full, count)

    -- an entry was found
    found_at : (inner : Range) → HasKeys (entries_at s node_to) descent_to.end keys z inner
        → FoundSpot limit l z keys inner s v way_to
    found_at inner h =
        let es = entries_at s node_to in
        let a = entry_start low_to es z in
        let low = (get_or es z no_entry).low in
        let after = next.after in
        let one = next.one in
        let begins = begins_case (z == first_to) z first_to keys.from low inner.from refl h.from_is after in
        let low_here = λ (d : first_to < z). start_low low_to es z (omega (arith, d)) one in
        let past = λ (d : first_to < z).
        start_later key (tree_at l s) s es first_to z low_to high_to keys.from row_is d one first_in.high in
        let B : Record → Type 0 = λ q. is_below q keys.from ≡ false in
        let U : Record → Type 0 = λ q. Under keys.until q in
        let I : Record → Type 0 = λ q. InRange a (end_at es z high_to) q in
        let J : ℕ → Type 0 = λ n. InRange (entry_start low_to es n) (end_at es n high_to) keys.from in
        record {
          full = ops_full;
          until_is = h.until_is ∙ ap (end_at es z) end_is;
          from_in = ⊎_elim
              (λ (c : (z ≡ first_to) × (inner.from ≡ keys.from)). subst I (sym c.1) (subst J (sym c.0) first_in))
              (λ (c : (first_to < z) × (inner.from ≡ low)). subst I (low_here c.0 ∙ sym c.1) (record {
                low = below_itself a;
                high = entry_some key (tree_at l s) s es z low_to high_to row_is begins_under one;
              }))
              begins;
          from_after = ⊎_elim
              (λ (c : (z ≡ first_to) × (inner.from ≡ keys.from)). subst B (sym c.1) (below_itself keys.from))
              (λ (c : (first_to < z) × (inner.from ≡ low)). subst B (low_here c.0 ∙ sym c.1)
              (below_not keys.from a (past c.0)))
              begins;
          from_is = ⊎_elim
              (λ (c : (z ≡ first_to) × (inner.from ≡ keys.from)). inl c.1)
              (λ (c : (first_to < z) × (inner.from ≡ low)). inr (c.1 ∙ sym (low_here c.0)))
              begins;
          among = λ u. ⊎_elim
              (λ (c : (z ≡ first_to) × (inner.from ≡ keys.from)). subst U (sym c.1) u)
              (λ (c : (first_to < z) × (inner.from ≡ low)). ⊎_elim
              (λ (d : z ≡ first_to). absurd (let e = c.0 in omega (arith, d, e)))
              (λ (d : Under keys.until low). subst U (sym c.1) d) h.among)
              begins;
          thin = thin_up (Some a) z (λ q u. start_wide z q u) next.thin
              (λ x u. false≢true (sym (below_itself a) ∙ u)) after;
        }

    -- or none, since it begins past the keys
    none_at : (IsAmong (entries_at s node_to) first_to z keys.until → ⊥)
        → EachRead (ThinBetween limit (suc l) keys.from keys.until) s v
    none_at out =
        let es = entries_at s node_to in
        let a = entry_start low_to es z in
        let after = next.after in
        let one = next.one in
        let differs : z ≡ first_to → ⊥ = λ e. out (inl e) in
        let later : first_to < z = ⊎_elim (λ (e : z ≡ first_to). absurd (differs e))
        (λ (d : first_to < z). d) (apart_or first_to z after) in
        let same = start_low low_to es z (omega (arith, later)) one in
        let U : Record → Type 0 = λ q. Under keys.until q in
        let late : Under keys.until a → ⊥ = λ u. out (inr (subst U same u)) in
        thin_up keys.until z (λ q u. start_wide z q (past_until keys.until a q late u)) next.thin
        (λ x u. late u) after

  -- No entry of the node was found.
  passed : AreThinFrom limit (entries_at s node_to) first_to (length (entries_at s node_to))
      → (until : Option Record) → ((q : Record) → Under until q → Under high_to q)
      → EachRead (ThinBetween limit (suc l) keys.from until) s v
  passed thin until wide =
      let n = length (entries_at s node_to) in
      let one = first_one in
      thin_up until n wide thin (λ x u. absurd (omega (arith, x))) (omega (arith, one))

  next_at : AreThinFrom limit (entries_at s node_to) first_to (length (entries_at s node_to))
      → (low : Record) → high_to ≡ Some low → Under keys.until low → FoundNext limit l keys low s v
  next_at thin low e u =
      let H : Option Record → Type 0 = λ b. Under b keys.from in
      let W : Option Record → Type 0 = λ b. (q : Record) → Under (Some low) q → Under b q in
      record {
        above = subst H e from_in.high;
        among = u;
        begins = λ p q more no yes. begins_next key l low p q more no yes v.level s v.root way_to way.path
            level_is st.is.2 e;
        thin = passed thin (Some low) (subst W (sym e) (λ q w. w));
      }

  -- the entries that were searched, of the node that the path leads to
  finds_here : (f : Finding) → Finds limit (entries_at s descent_to.node) descent_to keys f
      → Finds limit (entries_at s node_to) descent_to keys f
  finds_here f h =
      let P : ℕ → Type 0 = λ n. Finds limit (entries_at s n) descent_to keys f in
      subst P way.node h

  pub spot_found : (node at : ℕ) (inner : Range)
      → Finds limit (entries_at s descent_to.node) descent_to keys (Found node at inner)
      → IsSpot l node at s v way_to × FoundSpot limit l at keys inner s v way_to
  spot_found node at inner h = spot_found_by (finds_here (Found node at inner) h)
    where
      spot_found_by : Finds limit (entries_at s node_to) descent_to keys (Found node at inner)
          → IsSpot l node at s v way_to × FoundSpot limit l at keys inner s v way_to
      spot_found_by (inl x) = absurd x.1
      spot_found_by (inr x) =
          let next = x.1 in
          let place = x.2 in
          let P : ℕ → Type 0 = λ i. FoundSpot limit l i keys inner s v way_to in
          let Q : ℕ → Type 0 = λ i. i < length (entries_at s node_to) in (
            record {
              on = record { on_path = way.path; level = level_is; one = subst Q (sym place.1) next.one };
              node_is = sym (place.0 ∙ way.node);
            },
            subst P (sym place.1) (found_at x.0 next inner place.2),
          )

  pub next_found : (low : Record) → Finds limit (entries_at s descent_to.node) descent_to keys (Next low)
      → FoundNext limit l keys low s v
  next_found low h = next_found_by (finds_here (Next low) h)
    where
      next_found_by : Finds limit (entries_at s node_to) descent_to keys (Next low)
          → FoundNext limit l keys low s v
      next_found_by (inl x) = let h = x.1 in next_at x.0 low (sym end_is ∙ h.0) h.1
      next_found_by (inr x) = absurd x.2

  pub none_found : Finds limit (entries_at s descent_to.node) descent_to keys Nothing
      → EachRead (ThinBetween limit (suc l) keys.from keys.until) s v
  none_found h = none_found_by (finds_here Nothing h)
    where
      none_found_by : Finds limit (entries_at s node_to) descent_to keys Nothing
          → EachRead (ThinBetween limit (suc l) keys.from keys.until) s v
      none_found_by (inl x) = passed x.0 keys.until
          (past_end high_to keys.until (λ low e u. (let h = x.1 in h low (end_is ∙ e) u)))
      none_found_by (inr x) = none_at x.0 x.1 x.2

-- The same of a search, after it.
module _ (key : Record → Record) (IsOp IsKept : Record → Type 0) (limit l : ℕ) (keys : Range)
    (s t : RigState) (v : Trunk) (down : suc l ≤ v.level) (i : IsRunning key IsOp IsKept t v)
    (leads : LeadsToTree t v.level v.root) where
  searched_after : (f : Finding) → Searched s t v.root v.level (suc l) limit keys f
      → IsTrue t.device.told
      → (let d = searched_node t v.root v.level (suc l) keys in Finds limit (entries_at t d.node) d keys f)
  searched_after f h told =
      let first : IsTrue s.device.told = sym h.reads.goes.touches.told ∙ told in
      let P : List (List Record) → Type 0 = λ cs.
      (let d = levels_down keys.from (v.level - suc l) cs (from_root v.root) in
      Finds limit (entries_in cs d.node) d keys f) in
      subst P (sym h.reads.kept) (h.finds first)

  pub finds_spot : (f : Finding) → Searched s t v.root v.level (suc l) limit keys f
      → FindsSpot limit l keys f t v
  finds_spot (Found node at inner) h =
      let found = λ (z : IsTrue t.device.told). spot_found key IsOp IsKept limit l keys t v down z
      (i.stands z) (leads.told z) node at inner (searched_after (Found node at inner) h z) in (
        record {
          leads = h.leads;
          path = places_down keys.from (v.level - suc l) t.device.contents v.root;
          told = λ z. (found z).0;
        },
        λ z. (found z).1,
      )
  finds_spot (Next low) h = λ z. next_found key IsOp IsKept limit l keys t v down z (i.stands z)
      (leads.told z) low (searched_after (Next low) h z)
  finds_spot Nothing h = λ z. none_found key IsOp IsKept limit l keys t v down z (i.stands z)
      (leads.told z) (searched_after Nothing h z)
