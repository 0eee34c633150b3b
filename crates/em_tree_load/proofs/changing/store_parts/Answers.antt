use Rattle.std.proofs.Common.{◌≡◌, ◌+◌, ◌<◌, ap, arith, refl, sym, ◌∙◌}
use Rattle.em_space.specs.Seen.{seen}
use Rattle.em_space.proofs.Ledgers.{full_by, full_never}
use Rattle.em_tree_load.proofs.LoadRooms.{takes_of}
use Rattle.std.proofs.lemmas.Bool.{false≢true}
use Rattle.em_record.specs.Shape.{ShapeNumbers}
use Rattle.em_tree_load.proofs.Alterations.{room_later}
use Rattle.em_tree_load.proofs.Changed.{changes_of, last_unstored, leaf_in_use_after, new_unstored, node_in_use, node_later, parted_leaf, two_unstored, unfollowed}
use Rattle.em_tree_load.proofs.Peaks.{peaks_same, peaks_then}
use Rattle.em_tree_load.proofs.changing.store_parts.Goals as goal

pub store_two-requires-clause-sound : goal.store_two-requires-clause-sound
store_two-requires-clause-sound g c = c.in_ok-block.ensures.runs.session.sound

pub store_two-requires-clause-in_use : goal.store_two-requires-clause-in_use
store_two-requires-clause-in_use g c =
    node_in_use c.requires.sound c.requires.leaf_in_use c.requires.in_use c.requires.can
    c.in_ok-block.ensures

pub store_two-requires-clause-len : goal.store_two-requires-clause-len
store_two-requires-clause-len g c =
    c.requires.len
    ∙ ap (λ (sh : ShapeNumbers). sh.block) (sym c.in_ok-block.ensures.runs.session.touches.shape)

pub store_two-requires-clause-node : goal.store_two-requires-clause-node
store_two-requires-clause-node g c =
    node_later _ c.in_ok-block.ensures.runs.session.touches c.requires.node

pub store_two-requires-clause-room : goal.store_two-requires-clause-room
store_two-requires-clause-room g c =
    room_later _ _ _ (sym c.in_ok-block.ensures.runs.session.touches.shape) c.requires.room

pub store_two-requires-clause-follow : goal.store_two-requires-clause-follow
store_two-requires-clause-follow g c = c.can_follow.ensures.0 c.if-not-can_follow.false

pub store_two-requires-clause-below : goal.store_two-requires-clause-below
store_two-requires-clause-below g c =
    let e = c.in_ok-block.ensures.runs.session.touches.blocks in
    let b = c.in_ok-block.ensures.below in
    omega (arith, b, e)

pub store_leaf-requires-clause-sound : goal.store_leaf-requires-clause-sound
store_leaf-requires-clause-sound g c = c.in_ok-store_two.ensures.stores.moves.goes.sound

pub store_leaf-requires-clause-in_use : goal.store_leaf-requires-clause-in_use
store_leaf-requires-clause-in_use g c =
    leaf_in_use_after c.requires.sound c.requires.leaf_in_use c.requires.in_use c.requires.can
    c.in_ok-block.ensures c.in_ok-store_two.ensures.stores

pub store_leaf-requires-clause-free : goal.store_leaf-requires-clause-free
store_leaf-requires-clause-free g c =
    omega (
      arith,
      c.in_ok-store_two.ensures.stores.moves.goes.frames.free,
      c.in_ok-block.ensures.runs.frames.free,
      c.requires.free,
    )

pub returns-then-not-can_follow-clause-changes : goal.returns-then-not-can_follow-clause-changes
returns-then-not-can_follow-clause-changes g c =
    unfollowed c.requires.sound c.requires.leaf_in_use c.requires.in_use c.requires.can refl
    (λ q. false≢true (sym c.if-not-can_follow.true ∙ c.can_follow.ensures.1 q))

pub returns-in_err-block-clause-changes : goal.returns-in_err-block-clause-changes
returns-in_err-block-clause-changes g c =
    changes_of _ _ _ _ _ _ _ _ _ c.from_residual.result _ c.from_residual.ensures.1
    (new_unstored c.requires.sound c.requires.leaf_in_use c.requires.in_use c.requires.can
    c.in_err-block.ensures)

pub returns-in_err-store_two-clause-changes : goal.returns-in_err-store_two-clause-changes
returns-in_err-store_two-clause-changes g c =
    changes_of _ _ _ _ _ _ _ _ _ c.from_residual-in_err-store_two.result _
    c.from_residual-in_err-store_two.ensures.1
    (two_unstored c.requires.sound c.requires.leaf_in_use c.requires.in_use c.requires.can
    c.in_ok-block.ensures c.in_err-store_two.ensures.stores)

pub returns-in_err-store_leaf-clause-changes : goal.returns-in_err-store_leaf-clause-changes
returns-in_err-store_leaf-clause-changes g c =
    changes_of _ _ _ _ _ _ _ _ _ c.from_residual-in_err-store_leaf.result _
    c.from_residual-in_err-store_leaf.ensures.1
    (last_unstored c.requires.sound c.requires.leaf_in_use c.requires.in_use c.requires.can
    c.in_ok-block.ensures c.in_ok-store_two.ensures.stores c.in_err-store_leaf.ensures)

pub returns-clause-changes : goal.returns-clause-changes
returns-clause-changes g c =
    parted_leaf c.requires.sound c.requires.leaf_in_use c.requires.in_use c.requires.can
    c.in_ok-block.ensures refl c.in_ok-store_two.ensures.stores c.in_ok-store_leaf.ensures

pub returns-in_err-block-clause-takes : goal.returns-in_err-block-clause-takes
returns-in_err-block-clause-takes g c =
    let s = seen g.D.Device.state c.args.rig.now in
    let t = seen g.D.Device.state c.store_new_leaf.new.rig in
    takes_of 0 1 s t c.from_residual.result _ c.from_residual.ensures.1
    (full_by _ (s.blocks ≡ s.used) (s.blocks + 0 < s.used + 1) (λ e. omega (arith, e))
    c.in_err-block.ensures.full)

pub returns-in_err-store_two-clause-takes : goal.returns-in_err-store_two-clause-takes
returns-in_err-store_two-clause-takes g c =
    let s = seen g.D.Device.state c.args.rig.now in
    let m = seen g.D.Device.state c.store_new_leaf.new.rig in
    let t = seen g.D.Device.state c.store_two.new.rig in
    takes_of 0 1 s t c.from_residual-in_err-store_two.result _
    c.from_residual-in_err-store_two.ensures.1
    (full_never m t _ (s.blocks + 0 < s.used + 1) c.in_err-store_two.ensures.stores.cause)

pub returns-in_err-store_leaf-clause-takes : goal.returns-in_err-store_leaf-clause-takes
returns-in_err-store_leaf-clause-takes g c =
    let s = seen g.D.Device.state c.args.rig.now in
    let m = seen g.D.Device.state c.store_two.new.rig in
    let t = seen g.D.Device.state c.store_leaf.new.rig in
    takes_of 0 1 s t c.from_residual-in_err-store_leaf.result _
    c.from_residual-in_err-store_leaf.ensures.1
    (full_never m t _ (s.blocks + 0 < s.used + 1) c.in_err-store_leaf.ensures.cause)

pub returns-clause-takes : goal.returns-clause-takes
returns-clause-takes g c =
    let a = c.in_ok-block.ensures.used in
    let b = c.in_ok-store_two.ensures.stores.moves.same.used in
    let d = c.in_ok-store_leaf.ensures.moves.same.used in
    omega (arith, a, b, d)

pub returns-then-not-can_follow-clause-peaks : goal.returns-then-not-can_follow-clause-peaks
returns-then-not-can_follow-clause-peaks g c =
    record { used = omega arith; most = omega arith }

pub returns-in_err-block-clause-peaks : goal.returns-in_err-block-clause-peaks
returns-in_err-block-clause-peaks g c = c.in_err-block.ensures.peaks

pub returns-in_err-store_two-clause-peaks : goal.returns-in_err-store_two-clause-peaks
returns-in_err-store_two-clause-peaks g c =
    peaks_then 1 c.in_ok-block.ensures.peaks
    (peaks_same 0 c.in_err-store_two.ensures.stores.moves.same) (omega arith)

pub returns-in_err-store_leaf-clause-peaks : goal.returns-in_err-store_leaf-clause-peaks
returns-in_err-store_leaf-clause-peaks g c =
    peaks_then 1 (peaks_then 1 c.in_ok-block.ensures.peaks
    (peaks_same 0 c.in_ok-store_two.ensures.stores.moves.same) (omega arith))
    (peaks_same 0 c.in_err-store_leaf.ensures.moves.same) (omega arith)

pub returns-clause-peaks : goal.returns-clause-peaks
returns-clause-peaks g c =
    peaks_then 1 (peaks_then 1 c.in_ok-block.ensures.peaks
    (peaks_same 0 c.in_ok-store_two.ensures.stores.moves.same) (omega arith))
    (peaks_same 0 c.in_ok-store_leaf.ensures.moves.same) (omega arith)
