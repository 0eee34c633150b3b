-- After a root was split, a new one can be made over both parts.
use Rattle.std.proofs.Common.{◌≡◌, ℕ, zero, suc, true, ◌<◌, List, [], ◌∷◌, get_or, length, take, refl, sym, ap, ◌∙◌, subst, arith, IsTrue, Ok}
use Rattle.std.proofs.lemmas.List.{length-take}
use Rattle.em_record.specs.Shape.{fan_of}
use Rattle.em_record.specs.Order.{is_below}
use Rattle.em_record.specs.declared.record.Record.{Record}
use Rattle.em_space.specs.Rig.{RigState, Sound, InUse}
use Rattle.em_node.specs.declared.entry.Entry.{Entry}
use Rattle.em_node.specs.Node.{LowsAbove, LowsRise, no_entry}
use Rattle.em_tree_blocks.specs.Node.{linked_block}
use Rattle.em_tree_blocks.specs.Reading.{entries_at}
use Rattle.em_balance.specs.Node.{CanGrowUp, CanSplit, IsFreshEntry, IsSplitRoot, LowsBelow, level_at}
use Rattle.em_balance.specs.Effects.{HalvesNode, RunsSplit}
use Rattle.em_balance.proofs.Nodes.{fresh_limits}

-- the low key of one entry, and those of the entries before it
above_one : (low : Record) (es : List Entry) (n : ℕ) → n < length es → LowsAbove low es
    → is_below low (get_or es n no_entry).low ≡ true
above_one low [] n h a = absurd (omega arith)
above_one low (e ∷ es) zero h a = a.0
above_one low (e ∷ es) (suc n) h a = above_one low es n (omega arith) a.1

lows_below : (n : ℕ) (es : List Entry) → n < length es → LowsRise es
    → LowsBelow (take n es) (get_or es n no_entry).low
lows_below zero es h r = tt
lows_below (suc n) [] h r = absurd (omega arith)
lows_below (suc n) (e ∷ es) h r =
    (above_one e.low es n (omega arith) r.0, lows_below n es (omega arith) r.1)

split_root : {s t : RigState} {root : ℕ} {upper : Entry} → Sound s → IsTrue s.device.told
    → CanSplit s root → HalvesNode s t root upper → IsFreshEntry s.blocks upper
    → level_at s root < 63 → IsSplitRoot t root upper
split_root {s} {t} {root} {upper} sound z i h fresh low =
    let f = fan_of s.pool.shape in
    let es = entries_at s root in
    let wide = sound.shape.frames_low in
    let o = i.told z in
    let full = o.full in
    let same : level_at t root ≡ level_at s root = h.lower_is.level in
    let len = ap (λ (fs : List Entry). length fs) h.kept in
    let taken = length-take f es in
    let below : LowsBelow (take f es) (get_or es f no_entry).low =
    lows_below f es (omega arith) o.node.node.is.rises in
    let P : List Entry → Type 0 = λ fs. LowsBelow fs (get_or es f no_entry).low in
    let Q : Record → Type 0 = λ key. LowsBelow (entries_at t root) key in
    record {
      node = record { in_use = h.lower_is.in_use; block = h.lower_is.block; level = refl };
      some = omega arith;
      not_last = omega arith;
      below = subst Q (sym h.low_is) (subst P (sym h.kept) below);
      linked = fresh.child_some;
      child = record {
        in_use = h.upper_is.in_use;
        block = h.upper_is.block;
        level = h.upper_is.level ∙ sym same;
      };
      other = λ e. h.unused (subst (λ (k : ℕ). InUse s k) (sym e) i.in_use);
    }

-- Both blocks are in use, also of a device that doesn't tell.
pub lower_in_use : {s t : RigState} {node : ℕ} {upper : Entry} → CanSplit s node
    → RunsSplit s t node (Ok upper) → (IsTrue s.device.told → HalvesNode s t node upper)
    → InUse t node
lower_in_use {s} {t} {node} {upper} i r h =
    let g = r.session.touches in
    record {
      told = λ y. (h (sym g.told ∙ y)).lower_is.in_use.told y;
      untold = λ n. rw (g.blocks) (i.in_use.untold (sym g.told ∙ n));
    }

pub upper_in_use : {s t : RigState} {node : ℕ} {upper : Entry}
    → RunsSplit s t node (Ok upper) → (IsTrue s.device.told → HalvesNode s t node upper)
    → IsFreshEntry s.blocks upper → InUse t (linked_block upper.child)
upper_in_use {s} {t} {node} {upper} r h fresh =
    let g = r.session.touches in
    let some = fresh.child_some in
    let most = fresh.child_most in
    let below : linked_block upper.child < s.blocks = omega arith in
    record {
      told = λ y. (h (sym g.told ∙ y)).upper_is.in_use.told y;
      untold = λ n. rw (g.blocks) below;
    }

pub can_grow_up : {s t : RigState} {root : ℕ} {upper : Entry} → Sound s → CanSplit s root
    → RunsSplit s t root (Ok upper) → (IsTrue s.device.told → HalvesNode s t root upper)
    → IsFreshEntry s.blocks upper → (IsTrue s.device.told → level_at s root < 63)
    → CanGrowUp t root upper
can_grow_up {s} {t} {root} {upper} sound i r h fresh low =
    let g = r.session.touches in
    let told = λ (y : IsTrue t.device.told). (let z : IsTrue s.device.told = sym g.told ∙ y in z) in
    record {
      in_use = lower_in_use i r h;
      limited = fresh_limits fresh;
      told = λ y. split_root sound (told y) i (h (told y)) fresh (low (told y));
    }
