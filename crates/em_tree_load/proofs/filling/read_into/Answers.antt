use Rattle.std.proofs.Common.{arith, drop, refl, ◌∙◌}
use Rattle.em_tree_load.proofs.AreaFroms.{drop_room}
use Rattle.em_tree_load.proofs.AreaReads.{read_first, read_next, read_stops, reads_of}
use Rattle.em_tree_load.proofs.filling.read_into.Goals as goal

pub loop-place-init : goal.loop-place-init
loop-place-init g c = (
  read_first (drop c.args.from c.args.area.now) c.requires.taking c.requires.sound c.requires.is,
  refl,
  refl,
)

pub returns-in_err-read_to-clause-reads : goal.returns-in_err-read_to-clause-reads
returns-in_err-read_to-clause-reads g c =
    reads_of _ _ _ _ _ _ _ c.from_residual.result _ c.from_residual.ensures.1
    (read_stops c.loop-place.invariant.0 c.in_err-read_to.ensures.puts)

pub loop-place-preserved : goal.loop-place-preserved
loop-place-preserved g c =
    let i = c.loop-place.invariant in
    let e = c.in_ok-read_to.ensures in
    let len = i.2 in (
      read_next c.loop-place.place i.0 e.puts
          (drop_room c.args.from c.loop-place.place c.loop-place.area
          (omega (arith, c.loop-place-test.true, c.requires.room, len))),
      e.kept ∙ i.1,
      e.len ∙ i.2,
    )
