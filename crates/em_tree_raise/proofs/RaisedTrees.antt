-- The nodes of one level and those above it, and of all levels from the first one on.
use Rattle.std.proofs.Common.{◌≡◌, inl, inr, ⊎_elim, ℕ, suc, ◌+◌, ◌-◌, ◌*◌, ◌/◌, ◌<◌, ◌≤◌, List, [], ◌∷◌, ◌++◌, length, sym, ap, ◌∙◌, subst, arith, IsTrue, Result, Ok, Err}
use Rattle.std.proofs.lemmas.List.{append-nil}
use Rattle.em_record.specs.Shape.{fan_of}
use Rattle.em_space.specs.Held.{Apart, Holds}
use Rattle.em_space.specs.Ledger.{Session}
use Rattle.em_space.specs.Rig.{RigState, Sound}
use Rattle.em_space.specs.declared.fault.EmFault.{EmFault}
use Rattle.em_space.proofs.Apart.{off_right}
use Rattle.em_space.proofs.Ledgers.{full_by}
use Rattle.em_space.proofs.Lists.{distinct_apart}
use Rattle.em_space.proofs.Paying.{pays_then}
use Rattle.em_space.proofs.Steps.{cause_after, goes_trans}
use Rattle.em_chain.specs.Chain.{chain_blocks}
use Rattle.em_chain.specs.declared.chain.Chain.{Chain}
use Rattle.em_node.specs.declared.entry.Entry.{Entry}
use Rattle.em_tree_blocks.specs.Reading.{entries_at}
use Rattle.em_tree_walk.specs.Paid.{LosesNone}
use Rattle.em_tree_walk.specs.SplitPaths.{TakesUpTo}
use Rattle.em_tree_walk.specs.declared.splitting.Root.{Root}
use Rattle.em_tree_walk.proofs.Losses.{loses_same}
use Rattle.em_tree_walk.proofs.Regions.{SameTally, session_same, tally_append}
use Rattle.em_tree_walk.proofs.Takes.{takes_as, takes_beside, takes_from, takes_then, takes_wider}
use Rattle.em_tree_raise.specs.Levels.{CanLevel, IsRaisedAbove, RaisedFrom, RaisedLevel, RaisesFrom, StandAbove, StopsWithin, raise_most, raise_room}
use Rattle.em_tree_raise.specs.Raising.{CanRaise, IsListing, RaisedOver, Raises, StandOver, StopsRaising, blocks_under, nodes_under}
use Rattle.em_tree_raise.proofs.Levels.{level_next}
use Rattle.em_tree_raise.proofs.Opened.{chain_low, listing_half}
use Rattle.em_tree_raise.proofs.RaisedNodes.{fan_low}
use Rattle.em_tree_raise.proofs.Stands.{below_stays, nodes_lead, several_nodes, stands_down, stands_over, under_split}

-- What is held is held in any order.
takes_same : {n m : ℕ} {held ks : List ℕ} {s t : RigState} (js : List ℕ) → TakesUpTo n m held ks s t
    → (IsTrue s.device.told → SameTally ks js) → TakesUpTo n m held js s t
takes_same {held = held} {ks = ks} {s = s} {t = t} js x e = record {
  session = session_same js x.session e;
  frames = x.frames;
  used = x.used;
  most = x.most;
  moves = x.moves;
  pays = x.pays;
  loses = loses_same held ks js s t x.loses e;
}

-- a root and what is under it, after other blocks or before them
root_first : (k : ℕ) (bs us : List ℕ) → SameTally (bs ++ (k ∷ us)) (k ∷ (us ++ bs))
root_first k bs us j =
    let a = tally_append j bs (k ∷ us) in let b = tally_append j us bs in omega (arith, a, b)

-- A call on the last one of some values.
takes_last : {n m : ℕ} {s t : RigState} (xs ks js : List ℕ) → (IsTrue s.device.told → Holds s (xs ++ ks))
    → TakesUpTo n m ks js s t → TakesUpTo n m (xs ++ ks) (xs ++ js) s t
takes_last {s = s} xs ks js h x =
    let e : xs ++ ks ≡ xs ++ (ks ++ []) = ap (λ (ls : List ℕ). xs ++ ls) (sym (append-nil ks)) in
    let f : xs ++ js ≡ xs ++ (js ++ []) = ap (λ (ls : List ℕ). xs ++ ls) (sym (append-nil js)) in
    takes_as (xs ++ js) (takes_from (xs ++ ks) (takes_beside xs ks js []
    (λ z. subst (λ (ls : List ℕ). Holds s ls) e (h z)) x) (λ z. e)) (λ z. f)

-- A level was raised over a long list.
module _ {s u : RigState} {list c : Chain} {level : ℕ} (sound : Sound s) (can : CanRaise s list)
    (h : RaisedLevel s u list level c) (many : 2 * fan_of s.pool.shape ≤ list.count / 2) where
  long : 64 ≤ list.count
  long = let low = fan_low s.pool.shape sound.shape in omega (arith, low, many)

  -- The list of its nodes can be raised, to the next level,
  pub can_next : CanRaise u c
  can_next = record {
    chain = h.chain;
    told = λ y.
        let z = sym h.takes.session.touches.told ∙ y in
        let x = can.told z in
        record { entries = h.nodes; is = (h.told z x.entries x.is).listing };
  }

  pub can_level : CanLevel level list.count → CanLevel (level + 1) c.count
  can_level x =
      let n = h.count_is in
      let few = h.many in
      let more = long in
      level_next c.count x (omega (arith, n, few, more))

  -- and is shorter.
  pub shorter : c.count < list.count
  shorter =
      let n = h.count_is in
      let few = h.many in
      let more = long in
      omega (arith, n, few, more)

  -- The levels above were raised too,
  module _ {t : RigState} {root : Root} (x : RaisedFrom u t c (level + 1) root) where
    abbrev upper : List ℕ
    upper = nodes_under x.above t (entries_at t root.block)

    level_apart : IsTrue s.device.told → Apart (blocks_under h.nodes) (chain_blocks u c)
    level_apart z =
        let y = h.takes.session.touches.told ∙ z in
        distinct_apart (blocks_under h.nodes) (chain_blocks u c) ((h.takes.session.holds z).distinct y)

    above_all : {es : List Entry} → IsTrue s.device.told → IsListing s list es
        → IsRaisedAbove t (level + 1) x.above h.nodes root
    above_all {es} z i =
        x.told (h.takes.session.touches.told ∙ z) h.nodes (h.told z es i).listing

    above_several : {es : List Entry} → IsTrue s.device.told → IsListing s list es
        → 1 < length (entries_at t root.block)
    above_several {es} z i =
        let st = h.told z es i in
        let r = above_all z i in
        let half = listing_half can.chain i z in
        let size = ap (λ (fs : List Entry). length fs) st.over in
        let shape = ap fan_of h.takes.session.touches.shape in
        let low = fan_low s.pool.shape sound.shape in
        let two : 1 < length h.nodes =
        several_nodes u level h.nodes (omega (arith, low, shape)) st.leads
        (omega (arith, many, half, size, shape)) in
        ⊎_elim (λ (e : x.above ≡ 0).
        let same : entries_at t root.block ≡ h.nodes =
        subst (λ (d : ℕ). StandAbove (level + 1) d t (entries_at t root.block) h.nodes) e r.over in
        let len = ap (λ (fs : List Entry). length fs) same in
        omega (arith, two, len))
        (λ (more : 1 < length (entries_at t root.block)). more) r.several

    above_split : {es : List Entry} → IsTrue s.device.told → IsListing s list es
        → nodes_under (suc x.above) t (entries_at t root.block) ≡ upper ++ blocks_under h.nodes
    above_split z i =
        under_split (level + 1) x.above t (entries_at t root.block) h.nodes (above_all z i).over

    above_takes : TakesUpTo (raise_room list) (raise_most list) (chain_blocks s list)
        (root.block ∷ nodes_under (suc x.above) t (entries_at t root.block)) s t
    above_takes =
        let bs = blocks_under h.nodes in
        let ks = chain_blocks u c in
        let k = root.block in
        let n = h.count_is in
        let few = h.many in
        let more = long in
        let low = h.blocks_most in
        let held = λ (y : IsTrue u.device.told). h.takes.session.holds (sym h.takes.session.touches.told ∙ y) in
        let whole = takes_then h.takes (takes_last bs ks (k ∷ upper) held x.takes) in
        takes_same (k ∷ nodes_under (suc x.above) t (entries_at t root.block))
        (takes_wider (raise_room list) (raise_most list) (omega (arith, n, few, more))
        (omega (arith, n, few, more, low)) whole)
        (λ z. subst (λ (js : List ℕ). SameTally (bs ++ (k ∷ upper)) (k ∷ js)) (sym (above_split z (can.told z).is))
        (root_first k bs upper))

    pub raised_on : RaisedFrom s t list level root
    raised_on =
        let is = x.level_is in
        record {
          above = suc x.above;
          level_is = omega (arith, is);
          level_most = x.level_most;
          takes = above_takes;
          in_use = x.in_use;
          told = λ z es i.
              let st = h.told z es i in
              let r = above_all z i in
              let y = h.takes.session.touches.told ∙ z in
              let g = x.takes.session.touches in
              let ks = chain_blocks u c in
              let apart = level_apart z in
              record {
                node_is = r.node_is;
                fresh = r.fresh;
                some = r.some;
                few = r.few;
                several = inr (above_several z i);
                over = stands_down level x.above t (entries_at t root.block) h.nodes es r.over
                    (nodes_lead ks u t g y level h.nodes apart st.leads)
                    (below_stays ks u t g y level h.nodes apart st.leads ∙ st.over);
              };
        }

  -- or couldn't be.
  pub unraised_on : {t : RigState} {e : EmFault}
      → StopsWithin (raise_room c) (raise_most c) (chain_blocks u c) u t e
      → StopsWithin (raise_room list) (raise_most list) (chain_blocks s list) s t e
  unraised_on {t} {e} x =
      let held = chain_blocks s list in
      let bs = blocks_under h.nodes in
      let ks = chain_blocks u c in
      let n = h.count_is in
      let few = h.many in
      let more = long in
      let low = h.blocks_most in
      let a = h.takes.used in
      let b = h.takes.most in
      let d = h.takes.moves in
      let f = x.used in
      let g = x.most in
      let i = x.moves in
      let blocks = h.takes.session.touches.blocks in
      record {
        goes = goes_trans held ks s u t
            (record {
              sound = h.takes.session.sound;
              touches = h.takes.session.touches;
              frames = h.takes.frames;
            }) x.goes
            (λ z j y o. off_right j bs ks (h.takes.session.within.off z j y o));
        used = omega (arith, a, f, n, few, more);
        most = omega (arith, a, b, g, n, few, more);
        moves = omega (arith, d, i, n, few, more, low);
        pays = pays_then h.takes.pays x.pays x.goes.touches.moves;
        full = full_by e (u.blocks < u.used + raise_room c) (s.blocks < s.used + raise_room list)
            (λ l. omega (arith, l, blocks, a, n, few, more)) x.full;
        cause = cause_after held s u t e h.takes.session.touches x.cause;
      }

  pub raises_on : (t : RigState) (result : Result Root EmFault) → RaisesFrom u t c (level + 1) result
      → RaisesFrom s t list level result
  raises_on t (Ok root) x = raised_on x
  raises_on t (Err e) x = unraised_on x

-- From level 1 on all nodes of a tree were raised.
records_some : {s : RigState} {list : Chain} → CanRaise s list → IsTrue s.device.told → 1 ≤ list.count
records_some can z =
    let x = can.told z in
    let half = listing_half can.chain x.is z in
    let some = x.is.some in
    omega (arith, half, some)

module _ {s : RigState} {list : Chain} (t : RigState) (can : CanRaise s list) where
  raised_over : (root : Root) → RaisedFrom s t list 1 root → RaisedOver s t list root
  raised_over root x =
      let is = x.level_is in
      let e : x.above ≡ root.level - 1 = omega (arith, is) in
      let es = entries_at t root.block in
      let c = x.takes in
      let moves = c.moves in
      let most = c.most in
      let held = chain_blocks s list in
      record {
        session = subst (λ (d : ℕ). Session held s t (root.block ∷ nodes_under d t es)) e c.session;
        frames = c.frames;
        pays = c.pays;
        loses = subst (λ (d : ℕ). LosesNone held (root.block ∷ nodes_under d t es) s t) e c.loses;
        in_use = x.in_use;
        level_some = omega (arith, is);
        level_most = x.level_most;
        told = λ z fs i.
            let r = x.told z fs i in
            record {
              node_is = r.node_is;
              fresh = r.fresh;
              some = r.some;
              few = r.few;
              several = ⊎_elim (λ (none : x.above ≡ 0). inl (omega (arith, is, none)))
                  (λ (more : 1 < length es). inr more) r.several;
              over = subst (λ (d : ℕ). StandOver d t es fs) e (stands_over x.above t es fs r.over);
            };
        moves = λ z. let low = chain_low can.chain z in omega (arith, moves, low);
        most = λ z. let some = records_some can z in omega (arith, most, some);
      }

  stops_raising : (e : EmFault) → StopsWithin (raise_room list) (raise_most list) (chain_blocks s list) s t e
      → StopsRaising s t list e
  stops_raising e x =
      let moves = x.moves in
      let most = x.most in
      record {
        goes = x.goes;
        pays = x.pays;
        cause = x.cause;
        moves = λ z. let low = chain_low can.chain z in omega (arith, moves, low);
        most = λ z. let some = records_some can z in omega (arith, most, some);
        full = λ z.
            let some = records_some can z in
            full_by e (s.blocks < s.used + raise_room list) (s.blocks < s.used + list.count)
            (λ l. omega (arith, l, some)) x.full;
      }

  pub raises_all : (result : Result Root EmFault) → RaisesFrom s t list 1 result → Raises s t list result
  raises_all (Ok root) x = raised_over root x
  raises_all (Err e) x = stops_raising e x
