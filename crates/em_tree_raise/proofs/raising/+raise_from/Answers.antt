use Rattle.std.proofs.Common.{◌≡◌, ◌*◌, ◌/◌, ◌≤◌, ◌∙◌, ap, arith}
use Rattle.em_record.specs.Shape.{fan_of}
use Rattle.em_space.specs.Seen.{seen}
use Rattle.em_tree_raise.proofs.Levels.{level_few}
use Rattle.em_tree_raise.proofs.RaisedTrees.{can_level, can_next, raises_on, shorter}
use Rattle.em_tree_raise.proofs.raising.+raise_from.Goals as goal

pub raise_level-requires-clause-level : goal.raise_level-requires-clause-level
raise_level-requires-clause-level g t c = let few = level_few c.requires.level in omega (arith, few)

pub overflow_add-level : goal.overflow_add-level
overflow_add-level g t c = let few = level_few c.requires.level in omega (arith, few)

pub raise_from-requires : goal.raise_from-requires
raise_from-requires g t c κs within =
    let s = seen g.D.Device.state c.args.rig.now in
    let fan : c.fan.result ≡ fan_of s.pool.shape = c.fan.ensures.value ∙ ap fan_of c.shape.ensures in
    let len = c.len-count.ensures in
    let past = c.if-count-fan.false in
    let many : 2 * fan_of s.pool.shape ≤ c.args.list.count / 2 = omega (arith, fan, len, past) in
    let x = c.in_ok-upper.ensures in
    let short = shorter c.requires.sound c.requires.can x many in
    let frames = x.takes.frames.free in
    let free = c.requires.free in (
      omega (arith, c.decreases, short),
      (
        within,
        (
          x.takes.session.sound,
          (
            can_next c.requires.sound c.requires.can x many,
            (can_level c.requires.sound c.requires.can x many c.requires.level, omega (arith, frames, free)),
          ),
        ),
      ),
    )

pub returns : goal.returns
returns g t c =
    let s = seen g.D.Device.state c.args.rig.now in
    let fan : c.fan.result ≡ fan_of s.pool.shape = c.fan.ensures.value ∙ ap fan_of c.shape.ensures in
    let len = c.len-count.ensures in
    let past = c.if-count-fan.false in
    let many : 2 * fan_of s.pool.shape ≤ c.args.list.count / 2 = omega (arith, fan, len, past) in
    raises_on c.requires.sound c.requires.can c.in_ok-upper.ensures many _ c.raise_from.result
    c.raise_from.ensures
