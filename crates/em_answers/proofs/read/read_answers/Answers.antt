use Rattle.std.proofs.Common.{◌∙◌, List, [], length, ap, subst, arith}
use Rattle.em_io.specs.Feed.{rest}
use Rattle.em_model.specs.declared.command.Command.{Command}
use Rattle.em_model.proofs.SyncLaws.{sync_parts}
use Rattle.em_space.specs.Seen.{seen}
use Rattle.em_lines.specs.CommandLine.{good_commands}
use Rattle.em_services.specs.Service.{FullOverRoom, size_of}
use Rattle.em_answers.specs.Answer.{synced_text}
use Rattle.em_answers.proofs.AnswerBlocks.{records_blocks}
use Rattle.em_answers.proofs.Due.{unprinted}
use Rattle.em_answers.proofs.Listing.{alone_unused, no_counts}
use Rattle.em_answers.proofs.ReadingStops.{stops_answers, stops_around, stops_new, stops_none}
use Rattle.em_answers.proofs.Rooms.{answers_keep, call_keeps, keeps_none, same_keeps}
use Rattle.em_answers.proofs.ServiceMoves.{all_reads, new_reads, reads_around}
use Rattle.em_answers.proofs.read.read_answers.Goals as goal

pub returns-in-Err-clause-stop : goal.returns-in-Err-clause-stop
returns-in-Err-clause-stop g c =
    let e = c.in-Err.ensures in
    let s = seen g.D.Device.state c.args.rig.now in
    let u = seen g.D.Device.state c.new.new.rig in
    stops_new g.H.Shelf g.W.Sink g.S.Service.allowance g.S.Service.room g.S.Service.KIND c.args.feed.now
    c.args.shelf.now c.args.out.now s u c.in-Err.fault g.met.S.Service.rising_room c.requires.unused
    c.requires.none_moved e.goes e.full e.owes e.cause

pub returns-in-Err-clause-synced : goal.returns-in-Err-clause-synced
returns-in-Err-clause-synced g c = λ t d.
    unprinted g.met.W.Sink.rule (g.met.W.Sink.is_state c.args.out.now)
    (synced_text (g.S.Service.combiner_of c.args.rule) g.S.Service.KIND (good_commands g.S.Service.KIND
    (rest c.args.feed.now (g.H.Shelf.stand c.args.shelf.now)))) c.in-Err.fault

pub returns-in-Err-clause-moves : goal.returns-in-Err-clause-moves
returns-in-Err-clause-moves g c = λ t.
    new_reads g.S.Service.allowance (g.S.Service.size_by c.args.rule) g.S.Service.KIND _ _ (seen g.D.Device.state c.args.rig.now)
    (seen g.D.Device.state c.new.new.rig) g.met.S.Service.rising c.requires.unused.sound.shape
    c.requires.none_moved c.in-Err.ensures.moves

pub returns-in-Err-clause-most : goal.returns-in-Err-clause-most
returns-in-Err-clause-most g c =
    let e = c.in-Err.ensures in
    let s = seen g.D.Device.state c.args.rig.now in
    keeps_none g.S.Service.room g.H.Shelf.tells g.S.Service.KIND _ _ (seen g.D.Device.state c.new.new.rig)
    (call_keeps 0 g.S.Service.allowance g.S.Service.room g.H.Shelf.tells g.S.Service.KIND _ _ [] [] 0 no_counts s
    (seen g.D.Device.state c.new.new.rig) g.met.S.Service.rising_room c.requires.unused.sound.shape e.goes.touches
    (alone_unused g.S.Service.allowance g.S.Service.room s c.requires.unused c.requires.none_moved) (λ t. e.room)
    (λ t. omega arith) (λ t. omega arith))

pub returns-in-Ok-answers-clause-records : goal.returns-in-Ok-answers-clause-records
returns-in-Ok-answers-clause-records g c = λ t d.
    let r = c.in-Ok-read_all.ensures in
    let made = c.in-Ok.ensures.makes in
    rw (r.joins ∙ c.in-Ok.ensures.joins) at
    (c.in-Ok-answers.ensures.items (r.goes.touches.told ∙ made.touches.told ∙ d) _ _ (r.has t))

pub returns-in-Ok-answers-clause-blocks : goal.returns-in-Ok-answers-clause-blocks
returns-in-Ok-answers-clause-blocks g c = λ t d.
    let kind = g.S.Service.KIND in
    let text = rest c.args.feed.now (g.H.Shelf.stand c.args.shelf.now) in
    let left = ((g.H.Shelf.stand c.read_all.new.shelf).slot c.args.feed.now.slot).left in
    let good = good_commands kind text in
    let s = seen g.D.Device.state c.args.rig.now in
    let u = seen g.D.Device.state c.read_all.new.rig in
    let v = seen g.D.Device.state c.answers.new.rig in
    let made = c.in-Ok.ensures.makes in
    let r = c.in-Ok-read_all.ensures in
    let a = c.in-Ok-answers.ensures in
    let here = r.goes.touches.told ∙ made.touches.told ∙ d in
    let taken = r.taken t in
    let service = c.read_all.new.service in
    let joins = r.joins ∙ c.in-Ok.ensures.joins in
    let len = g.met.S.Service.n_is service u _ _ (r.has t)
    ∙ ap (λ (cs : List Command). length cs) (sync_parts good) in
    records_blocks (g.S.Service.combiner_of c.args.rule) (g.S.Service.size_by c.args.rule) (g.S.Service.size service) kind
    text left s u v c.in-Ok-answers.records c.requires.unused.sound.shape (r.goes.touches.shape ∙ made.touches.shape)
    (a.gives.touches.shape ∙ r.goes.touches.shape ∙ made.touches.shape) a.leaves.is
    (a.gives.touches.told ∙ here) (a.leaves.packed here) (rw joins at (a.items here _ _ (r.has t)))
    (r.sizes ∙ c.in-Ok.ensures.sizes) (rw joins at (g.met.S.Service.answers_few service u _ _ (r.has t)))
    (omega (arith, taken, len))

pub returns-in-Ok-answers-clause-synced : goal.returns-in-Ok-answers-clause-synced
returns-in-Ok-answers-clause-synced g c = λ t d.
    let made = c.in-Ok.ensures in
    let p = rw made.joins at (c.in-Ok-read_all.ensures.synced t (made.makes.touches.told ∙ d)) in
    record { all = p.all; fault = tt; part = p.part }

pub returns-in-Ok-answers-clause-moves : goal.returns-in-Ok-answers-clause-moves
returns-in-Ok-answers-clause-moves g c = λ t.
    let made = c.in-Ok.ensures.makes in
    let r = c.in-Ok-read_all.ensures in
    let service = c.read_all.new.service in
    let u = seen g.D.Device.state c.read_all.new.rig in
    let laws = g.met.S.Service in
    all_reads g.S.Service.allowance g.S.Service.room (g.S.Service.size_by c.args.rule) (g.S.Service.size service)
    g.S.Service.KIND _ _ (g.S.Service.blocks service u) (g.S.Service.counts service)
    (seen g.D.Device.state c.args.rig.now) u (seen g.D.Device.state c.answers.new.rig) laws.rising
    (r.sizes ∙ c.in-Ok.ensures.sizes) r.goes.sound.shape (r.goes.touches.told ∙ made.touches.told)
    (r.goes.touches.shape ∙ made.touches.shape) r.alone.alone (c.in-Ok-answers.ensures.moves _ _ (r.has t)) (let few = r.taken t in omega (arith, few)) (laws.n_is service u _ _ (r.has t))
    (laws.syncs_few service u _ _ (r.has t))

pub returns-in-Ok-answers-clause-most : goal.returns-in-Ok-answers-clause-most
returns-in-Ok-answers-clause-most g c =
    let u = seen g.D.Device.state c.read_all.new.rig in
    let service = c.read_all.new.service in
    let laws = g.met.S.Service in
    let r = c.in-Ok-read_all.ensures in
    let a = c.in-Ok-answers.ensures in
    keeps_none g.S.Service.room g.H.Shelf.tells g.S.Service.KIND _ _ (seen g.D.Device.state c.answers.new.rig)
    (answers_keep [] g.S.Service.allowance g.S.Service.room g.H.Shelf.tells g.S.Service.KIND _ _ _
    (g.S.Service.blocks service u) (g.S.Service.counts service) u (seen g.D.Device.state c.answers.new.rig)
    laws.rising_room r.goes.sound.shape a.gives.touches r.alone.alone tt (λ t. a.room _ _ (r.has t)) r.taken
    (λ t. laws.n_is service u _ _ (r.has t)))

pub returns-in-Err-answers-clause-synced : goal.returns-in-Err-answers-clause-synced
returns-in-Err-answers-clause-synced g c = λ t d.
    let made = c.in-Ok.ensures in
    let p = rw made.joins at (c.in-Ok-read_all.ensures.synced t (made.makes.touches.told ∙ d)) in
    record { all = tt; fault = tt; part = p.part }

pub returns-in-Err-answers-clause-moves : goal.returns-in-Err-answers-clause-moves
returns-in-Err-answers-clause-moves g c = λ t.
    let made = c.in-Ok.ensures.makes in
    let r = c.in-Ok-read_all.ensures in
    let service = c.read_all.new.service in
    let u = seen g.D.Device.state c.read_all.new.rig in
    let laws = g.met.S.Service in
    all_reads g.S.Service.allowance g.S.Service.room (g.S.Service.size_by c.args.rule) (g.S.Service.size service)
    g.S.Service.KIND _ _ (g.S.Service.blocks service u) (g.S.Service.counts service)
    (seen g.D.Device.state c.args.rig.now) u (seen g.D.Device.state c.answers.new.rig) laws.rising
    (r.sizes ∙ c.in-Ok.ensures.sizes) r.goes.sound.shape (r.goes.touches.told ∙ made.touches.told)
    (r.goes.touches.shape ∙ made.touches.shape) r.alone.alone (c.in-Err-answers.ensures.moves _ _ (r.has t)) (let few = r.taken t in omega (arith, few)) (laws.n_is service u _ _ (r.has t))
    (laws.syncs_few service u _ _ (r.has t))

pub returns-in-Err-answers-clause-stop : goal.returns-in-Err-answers-clause-stop
returns-in-Err-answers-clause-stop g c =
    let kind = g.S.Service.KIND in
    let text = rest c.args.feed.now (g.H.Shelf.stand c.args.shelf.now) in
    let good = good_commands kind text in
    let s = seen g.D.Device.state c.args.rig.now in
    let m = seen g.D.Device.state c.new.new.rig in
    let u = seen g.D.Device.state c.read_all.new.rig in
    let v = seen g.D.Device.state c.answers.new.rig in
    let made = c.in-Ok.ensures.makes in
    let r = c.in-Ok-read_all.ensures in
    let a = c.in-Err-answers.ensures in
    let service = c.read_all.new.service in
    let now = g.S.Service.blocks service u in
    stops_none g.H.Shelf g.W.Sink _ g.S.Service.KIND _ _ _ _ _ _ _ _ (stops_answers [] g.H.Shelf g.W.Sink g.S.Service.allowance g.S.Service.room kind c.args.feed.now
    c.args.shelf.now c.read_all.new.shelf c.args.out.now c.read_all.new.out _
    (g.S.Service.blocks c.in-Ok.service m) now (g.S.Service.counts service) s m u v c.in-Err-answers.fault
    g.met.S.Service.rising_room made.touches made.within r.goes r.alone.alone a.gives a.owes a.cause r.taken tt
    (λ t. g.met.S.Service.n_is service u _ _ (r.has t) ∙ ap (λ (cs : List Command). length cs) (sync_parts good))
    (λ t. subst (λ (cs : List Command). FullOverRoom g.S.Service.room (size_of kind cs) now u
    c.in-Err-answers.fault) (sync_parts good) (a.full _ _ (r.has t))))

pub returns-in-Err-answers-clause-most : goal.returns-in-Err-answers-clause-most
returns-in-Err-answers-clause-most g c =
    let u = seen g.D.Device.state c.read_all.new.rig in
    let service = c.read_all.new.service in
    let laws = g.met.S.Service in
    let r = c.in-Ok-read_all.ensures in
    let a = c.in-Err-answers.ensures in
    keeps_none g.S.Service.room g.H.Shelf.tells g.S.Service.KIND _ _ (seen g.D.Device.state c.answers.new.rig)
    (answers_keep [] g.S.Service.allowance g.S.Service.room g.H.Shelf.tells g.S.Service.KIND _ _ _
    (g.S.Service.blocks service u) (g.S.Service.counts service) u (seen g.D.Device.state c.answers.new.rig)
    laws.rising_room r.goes.sound.shape a.gives.touches r.alone.alone tt (λ t. a.room _ _ (r.has t)) r.taken
    (λ t. laws.n_is service u _ _ (r.has t)))

pub returns-in-Err-read_all-clause-stop : goal.returns-in-Err-read_all-clause-stop
returns-in-Err-read_all-clause-stop g c =
    let m = seen g.D.Device.state c.new.new.rig in
    stops_around _ g.H.Shelf g.W.Sink g.S.Service.allowance g.S.Service.room g.S.Service.KIND c.args.feed.now
    c.args.shelf.now c.read_all.new.shelf c.args.out.now c.read_all.new.out []
    (seen g.D.Device.state c.args.rig.now) m
    (seen g.D.Device.state c.read_all.new.rig) (seen g.D.Device.state c.abandon.new.rig)
    c.in-Err-read_all.stop c.in-Ok.ensures.makes.touches c.abandon.ensures.gives.touches
    c.abandon.ensures.unmoved
    (stops_none g.H.Shelf g.W.Sink _ g.S.Service.KIND _ _ _ _ _ _ _ _ c.in-Err-read_all.ensures.stop)

pub returns-in-Err-read_all-clause-synced : goal.returns-in-Err-read_all-clause-synced
returns-in-Err-read_all-clause-synced g c = λ t d.
    let made = c.in-Ok.ensures in
    let p = rw made.joins at (c.in-Err-read_all.ensures.synced t (made.makes.touches.told ∙ d)) in
    record { all = tt; fault = p.fault; part = p.part }

pub returns-in-Err-read_all-clause-moves : goal.returns-in-Err-read_all-clause-moves
returns-in-Err-read_all-clause-moves g c = λ t.
    let made = c.in-Ok.ensures.makes in
    reads_around g.S.Service.allowance (g.S.Service.size_by c.args.rule) g.S.Service.KIND _ _ (seen g.D.Device.state c.args.rig.now)
    (seen g.D.Device.state c.new.new.rig) (seen g.D.Device.state c.read_all.new.rig)
    (seen g.D.Device.state c.abandon.new.rig) made.touches.told made.touches.shape
    c.abandon.ensures.unmoved.moves (rw (c.in-Ok.ensures.sizes) at (c.in-Err-read_all.ensures.moves t))

pub returns-in-Err-read_all-clause-most : goal.returns-in-Err-read_all-clause-most
returns-in-Err-read_all-clause-most g c =
    let touches = c.abandon.ensures.gives.touches in
    same_keeps g.S.Service.room g.H.Shelf.tells _ (seen g.D.Device.state c.read_all.new.rig)
    (seen g.D.Device.state c.abandon.new.rig) touches.shape touches.told c.abandon.ensures.unmoved.same.most
    (keeps_none g.S.Service.room g.H.Shelf.tells g.S.Service.KIND _ _ (seen g.D.Device.state c.read_all.new.rig)
    c.in-Err-read_all.ensures.most)
