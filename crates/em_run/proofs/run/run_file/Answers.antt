use Rattle.std.proofs.Common.{rules, Some, refl, arith}
use Rattle.em_io.specs.declared.shelf.Slot.TheVariants.{First}
use Rattle.em_settle.specs.Add.{apply_of}
use Rattle.em_space.specs.Seen.{seen}
use Rattle.em_ends.specs.Opens.{text_in}
use Rattle.em_run.proofs.FileOpens.{ended_as, most_as, opens_file, opens_missing, reads_file, reads_missing, text_opened}
use Rattle.em_ends.proofs.EndLaws.{unmoved_read}
use Rattle.em_run.proofs.run.run_file.Goals as goal

pub returns-in_default-clause-runs : goal.returns-in_default-clause-runs
returns-in_default-clause-runs g c =
    let a = g.H.Shelf.stand c.args.shelf.now in
    let b = g.H.Shelf.stand c.open.new.self in
    let o = c.in_default.ensures in
    let tells = g.H.Shelf.tells in
    let told = (g.D.Device.state c.args.rig.now.device.now).told in
    record {
      ended = unmoved_read g.met.W.Sink.rule _ _ _ _ _ _ (g.met.W.Sink.is_state c.args.out.now) refl
          refl;
      caused = search rules;
      most = λ t d. let none = c.requires.unused.none_ever in omega (arith, none);
      opens = opens_missing tells told c.args.kind c.args.combine c.args.early c.args.name.now a b c.requires.fresh o.leaves o.lost;
      all_read = reads_missing tells told c.args.kind c.args.combine c.args.early c.args.name.now a b c.requires.fresh o.leaves o.lost;
      no_usage = tt;
      no_memory = tt;
    }

pub returns-clause-runs : goal.returns-clause-runs
returns-clause-runs g c =
    let a = g.H.Shelf.stand c.args.shelf.now in
    let b = g.H.Shelf.stand c.open.new.self in
    let last = g.H.Shelf.stand c.run_open.new.shelf in
    let o = c.in-Ok.ensures in
    let r = c.run_open.ensures.runs in
    let kind = c.args.kind in
    let combine = c.args.combine in
    let early = c.args.early in
    let name = c.args.name.now in
    let fresh = c.requires.fresh in
    let tells = g.H.Shelf.tells in
    let told = (g.D.Device.state c.args.rig.now.device.now).told in
    let same = text_opened tells told kind combine early name a b fresh o.leaves o.lost last o.whole r.reads in
    record {
      ended = ended_as (apply_of combine) early tells kind (b.slot First).left (text_in a First (Some name)) _ _ _ _ _
          c.run_open.result refl refl same r.ended;
      caused = search rules;
      most = most_as (apply_of combine) early tells kind (b.slot First).left (text_in a First (Some name))
          (seen g.D.Device.state c.args.rig.now) (seen g.D.Device.state c.run_open.new.rig) last.slot
          c.run_open.ensures.goes.touches same r.most;
      opens = opens_file tells told kind combine early name a b fresh o.leaves o.lost last o.whole r.reads
          c.run_open.result;
      all_read = reads_file tells told kind combine early name a b fresh o.leaves o.lost last o.whole r.reads
          c.run_open.result r.all_read;
      no_usage = r.no_usage;
      no_memory = r.no_memory;
    }
