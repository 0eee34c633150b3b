-- A call on the blocks from one on the way to the first leaf on, as a call on those of the whole tree.
use Rattle.std.proofs.Common.{◌≡◌, ℕ, ◌-◌, ◌<◌, List, ◌++◌, sym, ap, ◌∙◌, subst, arith, IsTrue}
use Rattle.em_space.specs.Held.{Holds}
use Rattle.em_space.specs.Ledger.{Session}
use Rattle.em_space.specs.Rig.{InUse, RigState, Sound, Touches}
use Rattle.em_space.proofs.Sessions.{session_beside}
use Rattle.em_tree_model.specs.Places.{put_at}
use Rattle.em_tree_blocks.specs.Paths.{blocks_with, first_path, level_on, node_on, place_on}
use Rattle.em_tree_blocks.specs.Reading.{IsTreeAt, tree_at, tree_blocks}
use Rattle.em_tree_blocks.proofs.Paths.{around, blocks_on, changed_on, others_apart, path_stays}
use Rattle.em_tree_load.specs.FirstLeaves.{IsOnFirstWay}
use Rattle.em_tree_walk.specs.Paid.{LosesNone}
use Rattle.em_tree_walk.specs.Stands.{LeadsToTree, StandsAt}
use Rattle.em_tree_walk.proofs.Losses.{loses_beside, loses_from, loses_same}
use Rattle.em_tree_walk.proofs.Regions.{SameTally, session_same, tally, tally_append}
use Rattle.em_tree_walk.proofs.Standing.{first_in_use}
use Rattle.em_tree_unload.proofs.OnWay.{of_way, to_way}

-- A call of which the blocks that it touched are told of a device that tells alone.
pub touches_by : {xs held : List ℕ} {s t : RigState} → Touches xs s t
    → (IsTrue s.device.told → Touches held s t) → Touches held s t
touches_by h f = record {
  name = h.name;
  told = h.told;
  blocks = h.blocks;
  shape = h.shape;
  faults = h.faults;
  most = h.most;
  moves = h.moves;
  others = λ z. (f z).others z;
}

-- so with its session
pub session_by : {xs held ls : List ℕ} {s t : RigState} → Sound t → Touches xs s t
    → (IsTrue s.device.told → Session held s t ls) → Session held s t ls
session_by sound h f = record {
  sound = sound;
  touches = touches_by h (λ z. (f z).touches);
  within = record { off = λ z. (f z).within.off z };
  holds = λ z. (f z).holds z;
}

-- A tree that stands after a call can be read, whose first block was in use before.
pub leads_by : {ks : List ℕ} {s t : RigState} {level k : ℕ} → Touches ks s t → InUse s k
    → (IsTrue s.device.told → StandsAt t level k) → LeadsToTree t level k
leads_by {ks} {s} {t} {level} {k} h u f = record {
  in_use = record {
    told = λ y.
        let z : IsTrue s.device.told = sym h.told ∙ y in
        (first_in_use level (f z)).told y;
    untold = λ e.
        let B : ℕ → Type 0 = λ n. k < n in
        subst B (sym h.blocks) (u.untold (sym h.told ∙ e));
  };
  told = λ y. f (sym h.told ∙ y);
}

-- Of blocks between others, some were kept apart: these come first then.
kept_first : (front kept new back whole : List ℕ) → whole ≡ front ++ (new ++ back)
    → SameTally (front ++ ((kept ++ new) ++ back)) (kept ++ whole)
kept_first front kept new back whole e = λ j.
    let a = tally_append j front ((kept ++ new) ++ back) in
    let b = tally_append j (kept ++ new) back in
    let c = tally_append j kept new in
    let d = tally_append j kept whole in
    let f = ap (tally j) e in
    let g = tally_append j front (new ++ back) in
    let h = tally_append j new back in
    omega (arith, a, b, c, d, f, g, h)

-- A call changed blocks from a node on alone, and kept some of them: what is left of the whole tree.
pub record TreeLeft (s t : RigState) (top root l node : ℕ) (kept : List ℕ) : Type 0 where
  pub session : Session (tree_blocks top s root) s t (kept ++ tree_blocks top t root)
  pub loses : LosesNone (tree_blocks top s root) (kept ++ tree_blocks top t root) s t
  pub is : IsTreeAt top t root
  pub on : IsOnFirstWay t top root l node
  pub reads : tree_at top t root ≡ put_at (place_on (first_path (top - l)) top s root) (tree_at l t node)

pub tree_left : {s t : RigState} {top root l node : ℕ} (kept : List ℕ) → IsTrue s.device.told
    → IsOnFirstWay s top root l node → IsTreeAt top s root → Holds s (tree_blocks top s root)
    → Session (tree_blocks l s node) s t (kept ++ tree_blocks l t node)
    → LosesNone (tree_blocks l s node) (kept ++ tree_blocks l t node) s t → IsTreeAt l t node
    → TreeLeft s t top root l node kept
tree_left {s} {t} {top} {root} {l} {node} kept told on i holds g none at_node =
    let path = first_path (top - l) in
    let k = node_on path top s root in
    let m = level_on path top in
    let old = tree_blocks m s k in
    let new = tree_blocks m t k in
    let session = to_way on (λ a b. Session (tree_blocks a s b) s t (kept ++ tree_blocks a t b)) g in
    let loses = to_way on (λ a b. LosesNone (tree_blocks a s b) (kept ++ tree_blocks a t b) s t) none in
    let is = to_way on (λ a b. IsTreeAt a t b) at_node in
    let h = session.touches in
    let apart = others_apart path top s root on.path (holds.distinct told) in
    let p = path_stays old s t h told path top root on.path i apart in
    let r = around path top s root in
    let before : tree_blocks top s root ≡ r.front ++ (old ++ r.back) =
    blocks_on path top s root on.path ∙ r.all old in
    let after : tree_blocks top t root ≡ r.front ++ (new ++ r.back) =
    blocks_on path top t root p.path
    ∙ (ap (λ b. blocks_with path top t root (tree_blocks m t b)) p.node ∙ (p.blocks new ∙ r.all new)) in
    let H : List ℕ → Type 0 = Holds s in
    let S : List ℕ → Type 0 = λ ks. Session ks s t (r.front ++ ((kept ++ new) ++ r.back)) in
    let beside = session_beside r.front old (kept ++ new) r.back (λ z. subst H before holds) session in
    let order = kept_first r.front kept new r.back (tree_blocks top t root) after in
    let all = r.front ++ ((kept ++ new) ++ r.back) in
    record {
      session = session_same (kept ++ tree_blocks top t root) (subst S (sym before) beside) (λ z. order);
      loses = loses_same (tree_blocks top s root) all (kept ++ tree_blocks top t root) s t
          (loses_from (r.front ++ (old ++ r.back)) (tree_blocks top s root) all s t
          (loses_beside r.front old (kept ++ new) r.back s t loses) (λ z. before)) (λ z. order);
      is = p.stored is;
      on = record { below = on.below; path = p.path; node_is = on.node_is ∙ sym p.node };
      reads = of_way on (λ a b. tree_at top t root ≡ put_at (place_on path top s root) (tree_at a t b))
          (changed_on old s t h told path top root on.path i apart);
    }
