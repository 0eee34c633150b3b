use Rattle.std.proofs.Common.{◌≡◌, suc, ◌-◌, Ok, Option, arith, subst}
use Rattle.em_node.specs.declared.entry.Entry.{Entry}
use Rattle.em_space.specs.Seen.{seen}
use Rattle.em_tree_walk.specs.SplitPaths.{SplitsPath}
use Rattle.em_tree_walk.proofs.PathEnds.{low_ends, path_added, path_adds, path_child, path_ends, path_kept, path_stopped, path_unadded, splits_of}
use Rattle.em_tree_walk.proofs.splitting.+split_path.Goals as goal

pub returns-then-level-eq1 : goal.returns-then-level-eq1
returns-then-level-eq1 g t c =
    let one = c.if-level-eq1.true in
    low_ends (seen g.D.Device.state c.split_full.new.rig) c.split_full.result (omega (arith, one))
    c.requires.can c.in_ok-turn.ensures c.split_full.ensures

pub split_path-requires : goal.split_path-requires
split_path-requires g t c κs within =
    let some = c.requires.above in
    let more = c.if-level-eq1.false in
    let up : c.args.level ≡ suc (suc (c.args.level - 2)) = omega (arith, some, more) in
    let down : c.args.level - 1 ≡ suc (c.args.level - 2) = omega (arith, some, more) in
    let reads = c.in_ok-turn.ensures.reads in
    let free = reads.goes.frames.free in
    let before = c.requires.free in (
      omega (arith, c.decreases, some),
      (
        within,
        (
          reads.goes.sound,
          (
            path_child (c.args.level - 2) up down c.requires.can c.in_ok-turn.ensures,
            (omega (arith, some, more), omega (arith, free, before)),
          ),
        ),
      ),
    )

pub returns-in_err-split_path : goal.returns-in_err-split_path
returns-in_err-split_path g t c =
    let some = c.requires.above in
    let more = c.if-level-eq1.false in
    let up : c.args.level ≡ suc (suc (c.args.level - 2)) = omega (arith, some, more) in
    let down : c.args.level - 1 ≡ suc (c.args.level - 2) = omega (arith, some, more) in
    splits_of c.args.node c.args.key c.from_residual-in_err-split_path.result
    c.in_err-split_path.field-0.0 c.from_residual-in_err-split_path.ensures.1
    (path_stopped (seen g.D.Device.state c.split_path.new.rig) (c.args.level - 2)
    c.in_err-split_path.field-0.0 up down c.requires.can c.in_ok-turn.ensures
    c.in_err-split_path.ensures)

pub add_entry-requires-clause-can : goal.add_entry-requires-clause-can
add_entry-requires-clause-can g t c =
    let some = c.requires.above in
    let more = c.if-level-eq1.false in
    let up : c.args.level ≡ suc (suc (c.args.level - 2)) = omega (arith, some, more) in
    let down : c.args.level - 1 ≡ suc (c.args.level - 2) = omega (arith, some, more) in
    let P : Option Entry → Type 0 = λ o. SplitsPath (seen g.D.Device.state c.turn_at.new.rig)
    (seen g.D.Device.state c.split_path.new.rig) (c.args.level - 1) c.in_ok-turn.turn.child
    c.args.key (Ok o) in
    path_adds (c.args.level - 2) up down c.requires.can c.in_ok-turn.ensures
    (subst P c.in-Some.is c.in_ok-split_path.ensures)

pub returns-in_err-add_entry-in-Some : goal.returns-in_err-add_entry-in-Some
returns-in_err-add_entry-in-Some g t c =
    let some = c.requires.above in
    let more = c.if-level-eq1.false in
    let up : c.args.level ≡ suc (suc (c.args.level - 2)) = omega (arith, some, more) in
    let down : c.args.level - 1 ≡ suc (c.args.level - 2) = omega (arith, some, more) in
    let P : Option Entry → Type 0 = λ o. SplitsPath (seen g.D.Device.state c.turn_at.new.rig)
    (seen g.D.Device.state c.split_path.new.rig) (c.args.level - 1) c.in_ok-turn.turn.child
    c.args.key (Ok o) in
    splits_of c.args.node c.args.key c.from_residual-in_err-add_entry-in-Some.result
    c.in_err-add_entry-in-Some.field-0.0 c.from_residual-in_err-add_entry-in-Some.ensures.1
    (path_unadded (seen g.D.Device.state c.add_entry.new.rig) (c.args.level - 2)
    c.in_err-add_entry-in-Some.field-0.0 up down c.requires.can c.in_ok-turn.ensures
    (subst P c.in-Some.is c.in_ok-split_path.ensures) c.in_err-add_entry-in-Some.ensures)

pub split_full-requires-in-Some-clause-count : goal.split_full-requires-in-Some-clause-count
split_full-requires-in-Some-clause-count g t c =
    let some = c.requires.above in
    let more = c.if-level-eq1.false in
    let up : c.args.level ≡ suc (suc (c.args.level - 2)) = omega (arith, some, more) in
    let down : c.args.level - 1 ≡ suc (c.args.level - 2) = omega (arith, some, more) in
    let P : Option Entry → Type 0 = λ o. SplitsPath (seen g.D.Device.state c.turn_at.new.rig)
    (seen g.D.Device.state c.split_path.new.rig) (c.args.level - 1) c.in_ok-turn.turn.child
    c.args.key (Ok o) in
    (path_added (c.args.level - 2) up down c.requires.can c.in_ok-turn.ensures
    (subst P c.in-Some.is c.in_ok-split_path.ensures) c.in_ok-add_entry-in-Some.ensures).count

pub returns-in-None : goal.returns-in-None
returns-in-None g t c =
    let some = c.requires.above in
    let more = c.if-level-eq1.false in
    let up : c.args.level ≡ suc (suc (c.args.level - 2)) = omega (arith, some, more) in
    let down : c.args.level - 1 ≡ suc (c.args.level - 2) = omega (arith, some, more) in
    let P : Option Entry → Type 0 = λ o. SplitsPath (seen g.D.Device.state c.turn_at.new.rig)
    (seen g.D.Device.state c.split_path.new.rig) (c.args.level - 1) c.in_ok-turn.turn.child
    c.args.key (Ok o) in
    path_kept (seen g.D.Device.state c.split_path.new.rig) (c.args.level - 2) up down
    c.requires.can c.in_ok-turn.ensures (subst P c.in-None.is c.in_ok-split_path.ensures)

pub returns-in_ok-add_entry-in-Some : goal.returns-in_ok-add_entry-in-Some
returns-in_ok-add_entry-in-Some g t c =
    let some = c.requires.above in
    let more = c.if-level-eq1.false in
    let up : c.args.level ≡ suc (suc (c.args.level - 2)) = omega (arith, some, more) in
    let down : c.args.level - 1 ≡ suc (c.args.level - 2) = omega (arith, some, more) in
    let P : Option Entry → Type 0 = λ o. SplitsPath (seen g.D.Device.state c.turn_at.new.rig)
    (seen g.D.Device.state c.split_path.new.rig) (c.args.level - 1) c.in_ok-turn.turn.child
    c.args.key (Ok o) in
    path_ends (seen g.D.Device.state c.split_full-in-Some.new.rig) (c.args.level - 2)
    c.split_full-in-Some.result up
    (path_added (c.args.level - 2) up down c.requires.can c.in_ok-turn.ensures
    (subst P c.in-Some.is c.in_ok-split_path.ensures) c.in_ok-add_entry-in-Some.ensures)
    c.split_full-in-Some.ensures
