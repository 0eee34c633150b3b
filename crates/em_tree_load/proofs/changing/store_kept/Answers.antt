use Rattle.std.proofs.Common.{◌+◌, ◌<◌, arith, refl}
use Rattle.em_space.specs.Seen.{seen}
use Rattle.em_space.proofs.Ledgers.{full_never}
use Rattle.em_tree_load.proofs.LoadRooms.{takes_of}
use Rattle.em_tree_load.proofs.Changed.{changes_of, kept_leaf, leaf_in_use, leaf_unstored, node_unstored}
use Rattle.em_tree_load.proofs.Peaks.{peaks_same, peaks_then}
use Rattle.em_tree_load.proofs.changing.store_kept.Goals as goal

pub store_leaf-requires-clause-sound : goal.store_leaf-requires-clause-sound
store_leaf-requires-clause-sound g c = c.in_ok-store_rest.ensures.stores.moves.goes.sound

pub store_leaf-requires-clause-in_use : goal.store_leaf-requires-clause-in_use
store_leaf-requires-clause-in_use g c =
    leaf_in_use c.requires.sound c.requires.leaf_in_use c.requires.in_use c.requires.can
    c.in_ok-store_rest.ensures.stores.moves.goes.touches

pub store_leaf-requires-clause-free : goal.store_leaf-requires-clause-free
store_leaf-requires-clause-free g c =
    omega (arith, c.in_ok-store_rest.ensures.stores.moves.goes.frames.free, c.requires.free)

pub returns-in_err-store_rest-clause-changes : goal.returns-in_err-store_rest-clause-changes
returns-in_err-store_rest-clause-changes g c =
    changes_of _ _ _ _ _ _ _ _ _ c.from_residual.result _ c.from_residual.ensures.1
    (node_unstored c.requires.sound c.requires.leaf_in_use c.requires.in_use c.requires.can
    c.in_err-store_rest.ensures.stores)

pub returns-in_err-store_leaf-clause-changes : goal.returns-in_err-store_leaf-clause-changes
returns-in_err-store_leaf-clause-changes g c =
    changes_of _ _ _ _ _ _ _ _ _ c.from_residual-in_err-store_leaf.result _
    c.from_residual-in_err-store_leaf.ensures.1
    (leaf_unstored c.requires.sound c.requires.leaf_in_use c.requires.in_use c.requires.can
    c.in_ok-store_rest.ensures.stores c.in_err-store_leaf.ensures)

pub returns-clause-changes : goal.returns-clause-changes
returns-clause-changes g c =
    kept_leaf c.requires.sound c.requires.leaf_in_use c.requires.in_use c.requires.can refl
    c.in_ok-store_rest.ensures.stores c.in_ok-store_leaf.ensures

pub returns-in_err-store_rest-clause-takes : goal.returns-in_err-store_rest-clause-takes
returns-in_err-store_rest-clause-takes g c =
    let s = seen g.D.Device.state c.args.rig.now in
    let t = seen g.D.Device.state c.store_rest.new.rig in
    takes_of 0 0 s t c.from_residual.result _ c.from_residual.ensures.1
    (full_never s t _ (s.blocks + 0 < s.used + 0) c.in_err-store_rest.ensures.stores.cause)

pub returns-in_err-store_leaf-clause-takes : goal.returns-in_err-store_leaf-clause-takes
returns-in_err-store_leaf-clause-takes g c =
    let s = seen g.D.Device.state c.args.rig.now in
    let m = seen g.D.Device.state c.store_rest.new.rig in
    let t = seen g.D.Device.state c.store_leaf.new.rig in
    takes_of 0 0 s t c.from_residual-in_err-store_leaf.result _
    c.from_residual-in_err-store_leaf.ensures.1
    (full_never m t _ (s.blocks + 0 < s.used + 0) c.in_err-store_leaf.ensures.cause)

pub returns-clause-takes : goal.returns-clause-takes
returns-clause-takes g c =
    let a = c.in_ok-store_rest.ensures.stores.moves.same.used in
    let b = c.in_ok-store_leaf.ensures.moves.same.used in
    omega (arith, a, b)

pub returns-in_err-store_rest-clause-peaks : goal.returns-in_err-store_rest-clause-peaks
returns-in_err-store_rest-clause-peaks g c =
    peaks_same 1 c.in_err-store_rest.ensures.stores.moves.same

pub returns-in_err-store_leaf-clause-peaks : goal.returns-in_err-store_leaf-clause-peaks
returns-in_err-store_leaf-clause-peaks g c =
    peaks_then 1 (peaks_same 0 c.in_ok-store_rest.ensures.stores.moves.same)
    (peaks_same 1 c.in_err-store_leaf.ensures.moves.same) (omega arith)

pub returns-clause-peaks : goal.returns-clause-peaks
returns-clause-peaks g c =
    peaks_then 1 (peaks_same 0 c.in_ok-store_rest.ensures.stores.moves.same)
    (peaks_same 1 c.in_ok-store_leaf.ensures.moves.same) (omega arith)
