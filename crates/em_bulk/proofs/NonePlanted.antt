-- A tree with no pair.
use Rattle.std.proofs.Common.{◌≡◌, ℕ, ◌+◌, ◌*◌, ◌/◌, ◌<◌, ◌≤◌, List, [], ◌∷◌, ◌++◌, length, refl, sym, ap, ◌∙◌, subst, arith, inl, IsTrue, Option, Some, None, Result, Ok, Err, IsErrAnd}
use Rattle.std.proofs.lemmas.List.{length-append}
use Rattle.em_record.specs.Shape.{fan_of, payload_of}
use Rattle.em_record.specs.declared.record.Record.{Record}
use Rattle.em_settle.specs.Map.{map_key_of}
use Rattle.em_space.specs.Queue.{Pays}
use Rattle.em_space.specs.Rig.{RigState, Sound}
use Rattle.em_space.specs.declared.fault.EmFault.{EmFault}
use Rattle.em_space.proofs.Ledgers.{full_by}
use Rattle.em_space.proofs.Paying.{pays_kept, pays_more, pays_then}
use Rattle.em_space.proofs.Steps.{cause_after, touches_then, touches_wider}
use Rattle.em_chain.specs.Chain.{chain_blocks, chain_items}
use Rattle.em_chain.specs.Counts.{ceiling}
use Rattle.em_chain.specs.Writer.{writer_blocks, writer_items}
use Rattle.em_chain.specs.declared.chain.Chain.{Chain}
use Rattle.em_chain.proofs.Counts.{writer_blocks_are}
use Rattle.em_chain.proofs.Readers.{length_items}
use Rattle.em_node.specs.declared.entry.Entry.{Entry}
use Rattle.em_tree_model.specs.Tree.{Tree}
use Rattle.em_tree_model.specs.Tree.Tree.{entry, leaf}
use Rattle.em_tree_model.specs.Ranges.{IsTree, least_record}
use Rattle.em_tree_blocks.specs.Node.{buffer_of, linked_block}
use Rattle.em_tree_blocks.specs.Reading.{AreStored, IsTreeAt, entries_at, row_blocks, row_of, stored_chain, tree_at, tree_blocks}
use Rattle.em_tree_load.specs.Releases.{HoldNone, IsUnbuffered}
use Rattle.em_tree_walk.specs.declared.splitting.Root.{Root}
use Rattle.em_tree_walk.proofs.Losses.{writer_length}
use Rattle.em_trunk.specs.Planting.{Planted, StopsPlanting, fresh_root}
use Rattle.em_tree_trim.specs.Rows.{records_in, rows_in}
use Rattle.em_bulk.specs.Building.{Builds, BuildsTree, BuiltTree, IsBuilder, LeavesBuilder, StopsBuilding, builder_blocks, builder_unstored, finish_room, pairs_in}
use Rattle.std.proofs.Math.Nat.{mul-le-mul_right}
use Rattle.em_chain.specs.Chain.{payload_in}
use Rattle.em_chain.specs.Writer.{filled}
use Rattle.em_leaf.specs.Leaf.{high_blocks}
use Rattle.em_tree_cost.specs.Outline.{count_of}
use Rattle.em_tree_model.specs.Tree.{stored_in}
use Rattle.em_tree_outline.specs.Outline.{outline_of}
use Rattle.em_tree_trim.specs.Leaves.{leaf_blocks}
use Rattle.em_tree_trim.specs.Rows.{parts_at}
use Rattle.em_tree_trim.specs.Trim.{IsTrim}
use Rattle.em_tree_trim.proofs.JoinsOver.{load_some}
use Rattle.em_tree_trim.proofs.Sizes.{ceiling_fits}
use Rattle.em_tree_walk.specs.Lows.{LowsKeep}
use Rattle.em_tree_walk.specs.Stands.{EachChild, HasRows, StandsAt}
use Rattle.em_trunk.specs.Sized.{NodesUnder}
use Rattle.em_bulk.specs.Building.{held_spent, spent_by}
use Rattle.em_bulk.specs.Full.{full_count, held_count, held_parts}
use Rattle.em_bulk.specs.Pairs.{lot_of}
use Rattle.em_bulk.proofs.Raised.{given_same}
use Rattle.em_bulk.specs.declared.builder.Builder.{Builder}
use Rattle.em_bulk.specs.declared.builder.Built.{Built}

-- The tree couldn't be built.
pub unbuilt : {s t : RigState} {b : Builder} (result : Result Built EmFault) (e : EmFault) → IsErrAnd result (λ m. m ≡ e)
    → StopsBuilding s t b e → Builds s t b result
unbuilt (Ok r) e h c = absurd h
unbuilt {s} {t} {b} (Err m) e h c =
    let P : EmFault → Type 0 = λ f. StopsBuilding s t b f in
    subst P (sym h) c

none_of : (ks : List ℕ) → length ks ≡ 0 → ks ≡ []
none_of [] e = refl
none_of (k ∷ ks) e = absurd (omega (arith, e))

-- The row of a new tree's root has one entry, with nothing in its buffer, and its leaf has no record.
none_row : (t : RigState) (es : List Entry) → IsTrue t.device.told → row_of (tree_at 0 t) t es ≡ fresh_root
    → 1 + length (row_blocks (tree_blocks 0 t) t es) ≡ 2 → AreStored (IsTreeAt 0 t) t es
    → HoldNone t (IsUnbuffered 0 t) es
none_row t [] z e n a = tt
none_row t (x ∷ []) z e n a =
    let k = linked_block x.child in
    let buffer = chain_blocks t (buffer_of x) in
    let own = chain_blocks t (stored_chain t k) in
    let m = length-append buffer ((k ∷ own) ++ []) in
    let o = length-append (k ∷ own) [] in
    let items : chain_items t (stored_chain t k) ≡ [] = ap first_items e in
    let c = length_items t (stored_chain t k) a.1.stored z in
    let l = ap length items in
    (none_of buffer (omega (arith, n, m, o)), omega (arith, c, l), tt)
  where
    first_items : Tree → List Record
    first_items (entry low b (leaf xs) r) = xs
    first_items t = []
none_row t (x ∷ y ∷ es) z e n a = absurd (two_entries e)
  where
    two_entries : {T : Tree} → entry x.low (chain_items t (buffer_of x)) T
        (row_of (tree_at 0 t) t (y ∷ es)) ≡ fresh_root → ⊥
    two_entries e = cc

none_held : (o : Option (Record × Chain)) → held_count o ≡ 0 → o ≡ None
none_held None e = refl
none_held (Some p) e = absurd (omega (arith, e))

module _ {s m : RigState} {b : Builder} (sound : Sound s) (i : IsBuilder s b) (none : b.count ≡ 0)
    (l : LeavesBuilder s m) where
  no_full : full_count b.full ≡ 0
  no_full =
      let n = i.below.count in
      let one = load_some s.pool.shape sound.shape in
      let k : 1 * full_count b.full ≤ lot_of s.pool.shape * full_count b.full =
      mul-le-mul_right (full_count b.full) (omega (arith, one)) in
      omega (arith, n, none, k)

  no_list : b.full.list.count ≡ 0
  no_list = let e = i.below.full.even in let f = no_full in omega (arith, e, f)

  no_leaf : b.leaf.count ≡ 0
  no_leaf = let n = i.below.count in omega (arith, n, none)

  no_held : b.full.held ≡ None
  no_held = let f = no_full in none_held b.full.held (omega (arith, f))

  no_blocks : (f : ℕ) → f ≡ 0 → ceiling f (payload_in s) ≡ 0
  no_blocks f e =
      let low = sound.shape.block_low in
      let h = ceiling_fits 0 0 (payload_in s) (omega (arith, low)) (omega arith) in
      let same = ap (λ (k : ℕ). ceiling k (payload_in s)) e in
      omega (arith, h, same)

  leaf_blocks_none : b.leaf.blocks ≡ 0
  leaf_blocks_none =
      writer_blocks_are s b.leaf sound.shape.block_low i.below.leaf
      ∙ no_blocks (filled s b.leaf) (i.below.filled_is ∙ no_leaf)

  list_blocks_none : b.full.list.blocks ≡ 0
  list_blocks_none =
      writer_blocks_are s b.full.list sound.shape.block_low i.below.full.list
      ∙ no_blocks (filled s b.full.list) (i.below.full.filled_is ∙ no_list)

  held_nothing : IsTrue s.device.told → builder_blocks s b ≡ []
  held_nothing z =
      let e = ap (λ (es : List Entry). leaf_blocks s es) ((i.below.full.told z).none no_list) in
      let h = ap (high_blocks s) no_held in
      let w = none_of (writer_blocks s b.full.list) (writer_length i.below.full.list z ∙ list_blocks_none) in
      let v = none_of (writer_blocks s b.leaf) (writer_length i.below.leaf z ∙ leaf_blocks_none) in
      ap (λ (ks : List ℕ). (ks ++ (high_blocks s b.full.held ++ writer_blocks s b.full.list)) ++ writer_blocks s b.leaf) e
      ∙ (ap (λ (ks : List ℕ). (ks ++ writer_blocks s b.full.list) ++ writer_blocks s b.leaf) h
      ∙ (ap (λ (ks : List ℕ). ks ++ writer_blocks s b.leaf) w ∙ v))

  no_pairs : IsTrue s.device.told → pairs_in s b ≡ []
  no_pairs z =
      let e = ap (λ (es : List Entry). parts_at s es) ((i.below.full.told z).none no_list) in
      let h = ap (held_parts s) no_held in
      ap (λ (ps : List (Record × List Record)). records_in (rows_in (ps ++ held_parts s b.full.held)) ++ writer_items s b.leaf) e
      ∙ (ap (λ (ps : List (Record × List Record)). records_in (rows_in ps) ++ writer_items s b.leaf) h ∙ i.none none z)

  pub unspent : spent_by s.pool.shape b ≡ 0
  unspent =
      let q : b.full.list.count / 2 ≡ 0 = let n = no_list in omega (arith, n) in
      let p = ap (λ (k : ℕ). (2 * ceiling (lot_of s.pool.shape) (payload_of s.pool.shape) + 5) * k) q in
      let h = ap held_spent no_held in
      let v = leaf_blocks_none in
      omega (arith, p, h, v)

  -- It was planted,
  pub none_planted : {t : RigState} {root : ℕ} → Planted m t root
      → BuiltTree s t b (record { block = root; level = 1 })
  none_planted {t} {root} x =
      let ks = tree_blocks 1 t root in
      let told : IsTrue s.device.told → IsTrue m.device.told = λ z. l.touches.told ∙ z in
      let none1 = leaf_blocks_none in
      let none2 = list_blocks_none in
      let u = l.unmoved.same.used in
      let o = l.unmoved.same.most in
      let v = l.unmoved.moves in
      let xu = x.used in
      let xo = x.most in
      let xm = x.moves in
      let sp = unspent in
      let first : Pays 0 0 s m = pays_kept 0 (omega (arith, u)) (omega (arith, v)) in
      let zero : builder_unstored b ≡ 0 = omega (arith, none1, none2) in
      let P : ℕ → Type 0 = λ n. Pays n 0 s t in
      let fan = x.session.sound.shape.frames_low in
      let S : Tree → Type 0 = λ r. stored_in r ≡ pairs_in s b in
      let T : Tree → Type 0 = λ r. IsTree map_key_of r least_record None in
      let K : Tree → Type 0 = LowsKeep least_record in
      let M : Tree → Type 0 = λ r. IsTrim t.pool.shape 1 (outline_of r) in
      let C : Tree → Type 0 = λ r. count_of (outline_of r) < 2 * fan_of t.pool.shape in
      let U : Tree → Type 0 = λ r. NodesUnder (2 * fan_of t.pool.shape) (outline_of r) in
      record {
        session = record {
          sound = x.session.sound;
          touches = touches_wider (builder_blocks s b) [] s t (touches_then [] s m t l.touches x.session.touches)
              (λ z j w q. tt);
          within = record { off = λ z j w q. x.session.within.off (told z) j (l.touches.others z j w tt).in_use tt };
          holds = λ z. x.session.holds (told z);
        };
        frames = given_same l.frames x.frames;
        pays = subst P (sym zero) (pays_then first x.pays x.session.touches.moves);
        loses = λ z. let n = x.loses (told z) in let e = ap length (held_nothing z) in omega (arith, n, e, u);
        leads = record { in_use = x.in_use; told = λ y. stands x y };
        level_some = omega arith;
        level_most = omega arith;
        told = λ z.
            let y = told z in
            let r = x.reads y in
            record {
              can = record {
                formed = x.formed y;
                none = none_row t (entries_at t root) (x.session.touches.told ∙ y) r
                    (let n = x.loses y in omega (arith, n, xu)) (x.stored y).1;
                holds = x.session.holds y;
              };
              stored = subst S (sym r) (sym (no_pairs z));
              is = subst T (sym r) (tt, tt, (tt, tt), tt, tt);
              lows = subst K (sym r) (refl, tt, tt);
              trim = subst M (sym r) (inl (refl, refl));
              few = subst C (sym r) (omega (arith, fan));
              nodes = subst U (sym r) (omega (arith, fan), tt, tt);
            };
        moves = λ z. omega (arith, xm, v, sp);
        most = λ z. omega (arith, xo, u, o);
      }
    where
      each_one : (t : RigState) (es : List Entry) → EachChild (HasRows 0 t.device.contents) es
      each_one t [] = tt
      each_one t (x ∷ es) = (tt, each_one t es)

      some_rows : (t : RigState) (es : List Entry) → row_of (tree_at 0 t) t es ≡ fresh_root
          → (0 < length es) × EachChild (HasRows 0 t.device.contents) es
      some_rows t [] e = absurd (cc)
      some_rows t (x ∷ es) e = (omega arith, each_one t (x ∷ es))

      stands : {t : RigState} {root : ℕ} → Planted m t root → IsTrue t.device.told → StandsAt t 1 root
      stands {t} {root} x y =
          let z : IsTrue m.device.told = sym x.session.touches.told ∙ y in
          record { is = x.stored z; rows = some_rows t (entries_at t root) (x.reads z) }

  -- or it wasn't.
  pub none_unplanted : {t : RigState} (result : Result Root EmFault) (e : EmFault) → IsErrAnd result (λ f. f ≡ e)
      → StopsPlanting m t e → BuildsTree s t b result
  none_unplanted (Ok r) e h x = absurd h
  none_unplanted {t} (Err f) e h x =
      let P : EmFault → Type 0 = λ f. StopsBuilding s t b f in
      let none1 = leaf_blocks_none in
      let none2 = list_blocks_none in
      let u = l.unmoved.same.used in
      let o = l.unmoved.same.most in
      let v = l.unmoved.moves in
      let xo = x.most in
      let xm = x.moves in
      let sp = unspent in
      let blocks = l.touches.blocks in
      let first : Pays 0 0 s m = pays_kept 0 (omega (arith, u)) (omega (arith, v)) in
      subst P (sym h) (record {
        sound = x.goes.sound;
        touches = touches_wider (builder_blocks s b) [] s t (touches_then [] s m t l.touches x.goes.touches)
            (λ z j w q. tt);
        frames = given_same l.frames x.goes.frames;
        pays = pays_more (pays_then first x.pays x.goes.touches.moves) (omega (arith, none1, none2));
        cause = cause_after [] s m t e l.touches x.cause;
        moves = λ z. omega (arith, xm, v, sp);
        most = λ z. omega (arith, xo, u, o);
        full = λ z. full_by e (m.blocks < m.used + 2) (s.blocks < s.used + finish_room b)
            (λ k. omega (arith, k, u, blocks)) x.full;
      })
