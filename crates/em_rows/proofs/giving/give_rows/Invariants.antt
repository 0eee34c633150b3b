use Rattle.std.proofs.Common.{◌≡◌, ℕ, ◌+◌, ◌-◌, ◌*◌, ◌≤◌, ◌^◌, ◌++◌, List, length, IsTrue}
use Rattle.em_io.specs.Feed.{rest}
use Rattle.em_model.specs.declared.command.Command.{Command}
use Rattle.em_space.specs.Held.{Within}
use Rattle.em_space.specs.Seen.{seen}
use Rattle.em_lines.specs.Reads.{Reads}
use Rattle.em_map.specs.Areas.{KeepsAreas}
use Rattle.em_services.specs.Service.{CanTake}
use Rattle.em_rows.specs.Moves.{MovesOwn}
use Rattle.em_rows.proofs.RowLaws.{RowsGiven}
use Rattle.em_rows.proofs.giving.give_rows.Given as goal

abbrev pub invariant-loop-next : goal.invariant-loop-next
invariant-loop-next g l =
    let first = seen g.D.Device.state l.fn.rig in
    let now = seen g.D.Device.state l.rig in
    let text = rest l.fn.feed (g.H.Shelf.stand l.fn.shelf) in
    let left = rest l.feed (g.H.Shelf.stand l.shelf) in
    let had = g.S.Service.counts l.fn.service in
    let counts = g.S.Service.counts l.service in
    let held = g.S.Service.blocks l.fn.service first in
    record {
      goes : KeepsAreas (g.S.Service.areas l.fn.service) (g.S.Service.areas l.service) held first now;
      free : CanTake (g.S.Service.areas l.service) now.pool;
      joins : g.S.Service.combiner l.service ≡ g.S.Service.combiner l.fn.service;
      bounds : g.S.Service.most l.service ≡ g.S.Service.most l.fn.service;
      sizes : g.S.Service.size l.service ≡ g.S.Service.size l.fn.service;
      is : g.S.Service.IsService l.service now;
      within : Within first held (g.S.Service.blocks l.service now);
      given : List Command;
      has : (before cs : List Command) → g.S.Service.Has l.fn.service first before cs
          → g.S.Service.Has l.service now before (cs ++ given);
      number : l.number ≡ length given + 1;
      counted : counts.n ≡ had.n + length given;
      few : l.number ≤ 2 ^ 39 + 1;
      place : l.feed.place ≤ 43 * length given;
      reads : Reads g.H.Shelf.tells l.fn.feed (g.H.Shelf.stand l.fn.shelf)
          l.feed (g.H.Shelf.stand l.shelf);
      later : g.H.Shelf.faults l.fn.shelf ≤ g.H.Shelf.faults l.shelf;
      rows : IsTrue g.H.Shelf.tells → RowsGiven l.fn.kind l.number text left given;
      since : (start : ℕ) (before cs : List Command) → g.S.Service.Has l.fn.service first before cs
          → MovesOwn g.S.Service start (before ++ cs) l.fn.service first
          → MovesOwn g.S.Service start (before ++ (cs ++ given)) l.service now;
    }

abbrev pub decreases-loop-next : goal.decreases-loop-next
decreases-loop-next g l = 2 ^ 39 + 1 - l.number
