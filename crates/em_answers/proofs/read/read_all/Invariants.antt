use Rattle.std.proofs.Common.{◌≡◌, ◌+◌, ◌-◌, ◌*◌, ◌≤◌, ◌^◌, ◌++◌, List, length, IsTrue}
use Rattle.em_io.specs.Feed.{rest}
use Rattle.em_model.specs.Stab.{stab_answers}
use Rattle.em_model.specs.Sync.{since_sync, up_to_sync}
use Rattle.em_model.specs.declared.command.Command.{Command}
use Rattle.em_space.specs.Held.{Within}
use Rattle.em_space.specs.Seen.{seen}
use Rattle.em_lines.specs.CommandLine.{parsed_from, first_fault, good_commands}
use Rattle.em_lines.specs.Lines.{lines_of}
use Rattle.em_lines.specs.Reads.{Reads}
use Rattle.em_lines.proofs.ReadLaws.{Counted}
use Rattle.em_map.specs.Areas.{KeepsAreas}
use Rattle.em_services.specs.Service.{CanSync}
use Rattle.em_answers.specs.Answer.{synced_text}
use Rattle.em_answers.specs.Reading.{StandsAlone}
use Rattle.em_answers.proofs.read.read_all.Given as goal

abbrev pub invariant-loop-next : goal.invariant-loop-next
invariant-loop-next g l =
    let kind = g.S.Service.KIND in
    let first = seen g.D.Device.state l.fn.rig in
    let now = seen g.D.Device.state l.rig in
    let text = rest l.fn.feed (g.H.Shelf.stand l.fn.shelf) in
    let left = rest l.feed (g.H.Shelf.stand l.shelf) in
    let size = g.S.Service.size l.fn.service first.pool.shape in
    let held = g.S.Service.blocks l.fn.service first in
    record {
      goes : KeepsAreas (g.S.Service.areas l.fn.service) (g.S.Service.areas l.service) held first now;
      free : CanSync (g.S.Service.areas l.service) now.pool;
      joins : g.S.Service.combiner l.service ≡ g.S.Service.combiner l.fn.service;
      sizes : g.S.Service.size l.service ≡ g.S.Service.size l.fn.service;
      is : g.S.Service.IsService l.service now;
      within : Within first held (g.S.Service.blocks l.service now);
      bounds : g.S.Service.most l.service ≡ g.S.Service.most l.fn.service;
      taken : List Command;
      alone : StandsAlone g.S.Service.allowance g.S.Service.room (size (g.base ++ taken))
          (g.S.Service.blocks l.service now) (g.S.Service.counts l.service) now;
      has : g.S.Service.Has l.service now (up_to_sync (g.base ++ taken)) (since_sync (g.base ++ taken));
      printed : IsTrue first.device.told → g.W.Sink.state l.out
          ≡ g.W.Sink.took (g.W.Sink.state l.fn.out) (synced_text (g.S.Service.combiner l.fn.service) kind (g.base ++ taken));
      write_later : g.W.Sink.faults l.fn.out ≤ g.W.Sink.faults l.out;
      n : (g.S.Service.counts l.service).n ≡ length taken + length g.base;
      number : l.number ≡ length taken + 1;
      few : length taken ≤ 2 ^ 40;
      place : l.feed.place ≤ 48 * length taken;
      reads : Reads g.H.Shelf.tells l.fn.feed (g.H.Shelf.stand l.fn.shelf)
          l.feed (g.H.Shelf.stand l.shelf);
      later : g.H.Shelf.faults l.fn.shelf ≤ g.H.Shelf.faults l.shelf;
      stabs_most : l.stabs ≤ length taken;
      good : IsTrue g.H.Shelf.tells
          → good_commands kind text ≡ taken ++ (parsed_from kind (length taken + 1) (lines_of left)).good;
      fault : IsTrue g.H.Shelf.tells
          → first_fault kind text ≡ (parsed_from kind (length taken + 1) (lines_of left)).fault;
      counted : IsTrue g.H.Shelf.tells → Counted kind text left (length taken);
      stabs : IsTrue g.H.Shelf.tells → length (stab_answers (good_commands kind text)) ≡ l.stabs
          + length (stab_answers (parsed_from kind (length taken + 1) (lines_of left)).good);
    }

abbrev pub decreases-loop-next : goal.decreases-loop-next
decreases-loop-next g l = 2 ^ 40 + 1 - l.number
