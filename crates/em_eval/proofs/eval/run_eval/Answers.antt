use Rattle.std.proofs.Common.{rules, ◌≡◌, ◌∙◌, [], ap, refl, true, Some, arith, IsTrue}
use Rattle.em_record.specs.Count.{Rose}
use Rattle.em_io.specs.declared.shelf.Slot.TheVariants.{First, Second}
use Rattle.em_space.specs.Seen.{seen}
use Rattle.em_space.proofs.Steps.{same_frames_then}
use Rattle.em_space.proofs.Within.{touches_within}
use Rattle.aig_defs.specs.declared.fault.AigKind.TheVariants.{Latched}
use Rattle.aig_order.specs.ByPass.{by_pass}
use Rattle.em_eval.specs.EvalRun.{asked_of_eval, start_of}
use Rattle.em_ends.specs.Opens.{text_in}
use Rattle.em_ends.specs.Stop.{fault_counts}
use Rattle.em_ends.specs.declared.status.Malform.TheVariants.{Aig}
use Rattle.em_ends.specs.declared.status.Status.TheVariants.{Done, Malformed, ReadFault}
use Rattle.em_ends.proofs.EndLaws.{ended_read, ended_stop}
use Rattle.em_eval.proofs.Evaluated.{circuit_cause, circuit_few, circuit_keeps, circuit_most, circuit_stopped, device_keeps, done_caused, ended_latched, eval_fills, malformed_caused, none_first, none_more, none_taken, steps_cause, steps_caused, steps_done, steps_few, steps_keep, steps_most, steps_stopped, still_there, still_unopened, unopened_caused}
use Rattle.em_ends.proofs.Opening.{lost_opened, not_done, on_end, text_left, text_some}
use Rattle.em_eval.proofs.EvalOpens.{opens_eval, reads_both}
use Rattle.em_eval.proofs.eval.run_eval.Goals as goal

-- the circuit isn't there, or the shelf failed
pub returns-in_default-clause-runs : goal.returns-in_default-clause-runs
returns-in_default-clause-runs g c =
    let a = g.H.Shelf.stand c.args.shelf.now in
    let b = g.H.Shelf.stand c.open.new.self in
    let o = c.in_default.ensures in
    let tells = g.H.Shelf.tells in
    let told = (g.D.Device.state c.args.rig.now.device.now).told in
    let circuit = c.args.circuit.now in
    let stimulus = c.args.stimulus.now in
    let fresh = c.requires.fresh in
    let second = o.leaves.others Second (λ e. cc) in
    record {
      ended = ended_read g.met.W.Sink.rule _ _ _ _ _ _ (g.met.W.Sink.is_state c.args.out.now) refl
          (λ t d. none_more _ _);
      caused = search rules;
      most = λ t d. let none = c.requires.unused.none_ever in omega (arith, none);
      opens = opens_eval c.args.uninit c.args.wide tells told circuit stimulus a b ReadFault o.leaves.text
          (λ t l. lost_opened (a.slot First) (b.slot First) (b.slot First) (a.text First circuit)
          fresh.first.lost (o.lost t) refl l)
          (λ t l. absurd (still_there (b.slot Second) (a.slot Second) second fresh.second l))
          (λ t. tt) (λ t. tt)
          (λ t d x. absurd (still_unopened (b.slot Second) (a.slot Second) second fresh.second x));
      all_read = reads_both tells circuit stimulus b ReadFault tt tt;
      no_usage = tt;
      no_memory = tt;
    }

-- the circuit has a fault, or its reading stopped
pub returns-in-Err-clause-runs : goal.returns-in-Err-clause-runs
returns-in-Err-clause-runs g c =
    let a = g.H.Shelf.stand c.args.shelf.now in
    let b = g.H.Shelf.stand c.open.new.self in
    let last = g.H.Shelf.stand c.read_circuit.new.shelf in
    let s = seen g.D.Device.state c.args.rig.now in
    let t = seen g.D.Device.state c.read_circuit.new.rig in
    let o = c.in-Ok.ensures in
    let r = c.in-Err.ensures in
    let says = rw c.start_of.ensures.is at r.reads in
    let stop = c.in-Err.stop in
    let tells = g.H.Shelf.tells in
    let told = s.device.told in
    let circuit = c.args.circuit.now in
    let stimulus = c.args.stimulus.now in
    let fresh = c.requires.fresh in
    let x = (b.slot First).left in
    let y = text_in a First (Some circuit) in
    let w = text_in a Second (Some stimulus) in
    let same : IsTrue tells → x ≡ y = λ z. text_left (a.text First circuit) x (o.whole z) in
    let faults = fault_counts (g.H.Shelf.faults c.open.new.self) 0 in
    let later = fault_counts (g.H.Shelf.faults c.read_circuit.new.shelf) 0 in
    let reads = says.reads in
    let second = reads.leaves.others Second (λ e. cc) ∙ o.leaves.others Second (λ e. cc) in
    let own = says.answers in
    let sound = c.requires.unused.sound in
    let keeps = circuit_keeps c.args.wide (start_of c.args.uninit) tells x y w same last.slot s t sound.shape says.moves in
    record {
      ended = rw (c.status_of.ensures.is)
          (ended_stop tells (asked_of_eval c.args.wide (start_of c.args.uninit) y w) _ _ s t r.goes.touches r.goes.sound refl refl
          (λ z d. device_keeps _ sound r.goes.sound (keeps z d)) stop
          faults later (circuit_cause c.args.wide (start_of c.args.uninit) tells x y w same faults later s t stop own.cause)
          (eval_fills c.args.wide (start_of c.args.uninit) tells y w last.slot t stop own.full
          (circuit_few c.args.wide (start_of c.args.uninit) tells x y w same last.slot s t stop r.goes.touches own.room))
          (circuit_stopped c.args.wide (start_of c.args.uninit) tells x y w same g.met.W.Sink.rule _ _
          (g.met.W.Sink.is_state c.args.out.now) refl faults later s t stop refl own.cause));
      caused = search rules;
      most = circuit_most c.args.wide (start_of c.args.uninit) tells x y w same last.slot s t says.most;
      opens = rw (c.status_of.ensures.is) (opens_eval c.args.uninit c.args.wide tells told circuit stimulus a last _
          (reads.leaves.text ∙ o.leaves.text)
          (λ z l. lost_opened (a.slot First) (b.slot First) (last.slot First) (a.text First circuit)
          fresh.first.lost (o.lost z) (reads.lost z) l)
          (λ z l. absurd (still_there (last.slot Second) (a.slot Second) second fresh.second l))
          (λ z. on_end _ _ (text_some (a.text First circuit) x (o.whole z)))
          (λ z. not_done stop _)
          (λ z d u. absurd (still_unopened (last.slot Second) (a.slot Second) second fresh.second u)));
      all_read = rw (c.status_of.ensures.is)
          (reads_both tells circuit stimulus last _ (not_done stop _) (not_done stop _));
      no_usage = search rules;
      no_memory = search rules;
    }

-- the circuit has latches, and many steps are to be taken at once
pub returns-then-ordered-ne0-clause-runs : goal.returns-then-ordered-ne0-clause-runs
returns-then-ordered-ne0-clause-runs g c =
    let a = g.H.Shelf.stand c.args.shelf.now in
    let b = g.H.Shelf.stand c.open.new.self in
    let last = g.H.Shelf.stand c.read_circuit.new.shelf in
    let s = seen g.D.Device.state c.args.rig.now in
    let t = seen g.D.Device.state c.read_circuit.new.rig in
    let o = c.in-Ok.ensures in
    let r = c.in-Ok-read_circuit.ensures in
    let says = rw c.start_of.ensures.is at r.reads in
    let tells = g.H.Shelf.tells in
    let told = s.device.told in
    let circuit = c.args.circuit.now in
    let stimulus = c.args.stimulus.now in
    let fresh = c.requires.fresh in
    let x = (b.slot First).left in
    let y = text_in a First (Some circuit) in
    let w = text_in a Second (Some stimulus) in
    let same : IsTrue tells → x ≡ y = λ z. text_left (a.text First circuit) x (o.whole z) in
    let reads = says.reads in
    let second = reads.leaves.others Second (λ e. cc) ∙ o.leaves.others Second (λ e. cc) in
    let sound = c.requires.unused.sound in
    let keeps = circuit_keeps c.args.wide (start_of c.args.uninit) tells x y w same last.slot s t sound.shape
    says.moves in
    let latched = Malformed (Aig Latched) 0 in
    record {
      ended = ended_latched c.args.wide tells told x y w t c.in-Ok-read_circuit.ordered same
          says.answers.spells c.if-wide.true c.if-ordered-ne0.true g.met.W.Sink.rule _ _
          (g.met.W.Sink.is_state c.args.out.now) refl refl
          (λ z d. device_keeps _ sound r.goes.sound (keeps z d));
      caused = malformed_caused _ _ _ _ (record {
        told = r.goes.touches.told;
        read = omega (arith, o.cause.later, says.later);
        write = omega arith;
        device = r.goes.touches.faults;
      });
      most = circuit_most c.args.wide (start_of c.args.uninit) tells x y w same last.slot s t says.most;
      opens = opens_eval c.args.uninit c.args.wide tells told circuit stimulus a last latched
          (reads.leaves.text ∙ o.leaves.text)
          (λ z l. lost_opened (a.slot First) (b.slot First) (last.slot First) (a.text First circuit)
          fresh.first.lost (o.lost z) (reads.lost z) l)
          (λ z l. absurd (still_there (last.slot Second) (a.slot Second) second fresh.second l))
          (λ z. text_some (a.text First circuit) x (o.whole z))
          (λ z. tt)
          (λ z d u. absurd (still_unopened (last.slot Second) (a.slot Second) second fresh.second u));
      all_read = reads_both tells circuit stimulus last latched tt tt;
      no_usage = tt;
      no_memory = tt;
    }

-- the stimulus isn't there, or the shelf failed
pub returns-in_default-open-clause-runs : goal.returns-in_default-open-clause-runs
returns-in_default-open-clause-runs g c =
    let a = g.H.Shelf.stand c.args.shelf.now in
    let b = g.H.Shelf.stand c.open.new.self in
    let mid = g.H.Shelf.stand c.read_circuit.new.shelf in
    let last = g.H.Shelf.stand c.open-2.new.self in
    let s = seen g.D.Device.state c.args.rig.now in
    let t = seen g.D.Device.state c.read_circuit.new.rig in
    let o = c.in-Ok.ensures in
    let r = c.in-Ok-read_circuit.ensures in
    let says = rw c.start_of.ensures.is at r.reads in
    let p = c.in_default-open.ensures in
    let few : c.args.wide ≡ true → c.in-Ok-read_circuit.ordered.header.latches ≡ 0 =
    none_taken c.else-wide.either in
    let tells = g.H.Shelf.tells in
    let told = s.device.told in
    let circuit = c.args.circuit.now in
    let stimulus = c.args.stimulus.now in
    let fresh = c.requires.fresh in
    let x = (b.slot First).left in
    let y = text_in a First (Some circuit) in
    let w = text_in a Second (Some stimulus) in
    let same : IsTrue tells → x ≡ y = λ z. text_left (a.text First circuit) x (o.whole z) in
    let reads = says.reads in
    let first = p.leaves.others First (λ e. cc) in
    let unopened = reads.leaves.others Second (λ e. cc) ∙ o.leaves.others Second (λ e. cc) in
    let text = reads.leaves.text ∙ o.leaves.text in
    let rose : Rose (g.H.Shelf.faults c.read_circuit.new.shelf) (g.H.Shelf.faults c.open-2.new.self) =
    search (rules, p.cause) in
    let sound = c.requires.unused.sound in
    let keeps = circuit_keeps c.args.wide (start_of c.args.uninit) tells x y w same last.slot s t sound.shape
    (λ z d. rw first (says.moves z d)) in
    record {
      ended = ended_read g.met.W.Sink.rule _ _ _ _ _ _ (g.met.W.Sink.is_state c.args.out.now) refl
          (λ z d. device_keeps _ sound r.goes.sound (keeps z d));
      caused = unopened_caused _ _ (record {
        told = r.goes.touches.told;
        read = omega (arith, o.cause.later, says.later, p.cause.later);
        write = omega (arith);
        device = r.goes.touches.faults;
      }) (omega (arith, o.cause.later, says.later, rose));
      most = circuit_most c.args.wide (start_of c.args.uninit) tells x y w same last.slot s t
          (λ e h. rw first (says.most e h));
      opens = opens_eval c.args.uninit c.args.wide tells told circuit stimulus a last ReadFault (p.leaves.text ∙ text)
          (λ z l. lost_opened (a.slot First) (b.slot First) (last.slot First) (a.text First circuit)
          fresh.first.lost (o.lost z) (ap (λ v. v.lost) first ∙ reads.lost z) l)
          (λ z l. lost_opened (a.slot Second) (last.slot Second) (last.slot Second)
          (a.text Second stimulus) fresh.second.lost (rw (← text, ← unopened) (p.lost z)) refl l)
          (λ z. tt) (λ z. tt)
          (λ z d u. none_first c.args.wide tells told x y w w t c.in-Ok-read_circuit.ordered same (λ v. refl)
          says.answers.spells few z d);
      all_read = reads_both tells circuit stimulus last ReadFault tt tt;
      no_usage = tt;
      no_memory = tt;
    }

-- all steps were made
pub returns-in-Ok-evaluate_either-clause-runs : goal.returns-in-Ok-evaluate_either-clause-runs
returns-in-Ok-evaluate_either-clause-runs g c =
    let a = g.H.Shelf.stand c.args.shelf.now in
    let b = g.H.Shelf.stand c.open.new.self in
    let d = g.H.Shelf.stand c.open-2.new.self in
    let last = g.H.Shelf.stand c.evaluate_either.new.shelf in
    let s = seen g.D.Device.state c.args.rig.now in
    let t = seen g.D.Device.state c.read_circuit.new.rig in
    let u = seen g.D.Device.state c.evaluate_either.new.rig in
    let o = c.in-Ok.ensures in
    let r = c.in-Ok-read_circuit.ensures in
    let says = rw c.start_of.ensures.is at r.reads in
    let p = c.in-Ok-open.ensures in
    let few : c.args.wide ≡ true → c.in-Ok-read_circuit.ordered.header.latches ≡ 0 =
    none_taken c.else-wide.either in
    let v = c.in-Ok-evaluate_either.ensures.runs in
    let edges = c.in-Ok-read_circuit.ordered in
    let tells = g.H.Shelf.tells in
    let told = s.device.told in
    let circuit = c.args.circuit.now in
    let stimulus = c.args.stimulus.now in
    let fresh = c.requires.fresh in
    let reads = says.reads in
    let text = reads.leaves.text ∙ o.leaves.text in
    let unopened = reads.leaves.others Second (λ e. cc) ∙ o.leaves.others Second (λ e. cc) in
    let first = v.reads.leaves.others First (λ e. cc) ∙ p.leaves.others First (λ e. cc) in
    let x = (b.slot First).left in
    let y = text_in a First (Some circuit) in
    let z = (d.slot Second).left in
    let w = text_in a Second (Some stimulus) in
    let same : IsTrue tells → x ≡ y = λ e. text_left (a.text First circuit) x (o.whole e) in
    let there : IsTrue tells → a.text Second stimulus ≡ Some z = λ e. rw (← text) (p.whole e) in
    let given : IsTrue tells → z ≡ w = λ e. text_left (a.text Second stimulus) z (there e) in
    let own = says.answers in
    let spells = own.spells in
    let sound = c.requires.unused.sound in
    let keeps = steps_keep c.args.wide tells told x y z w t edges same given spells few last.slot s u sound
    r.goes.touches (λ e. rw first (own.size e)) (λ e h. rw first (says.moves e h)) v.moves in
    record {
      ended = steps_done c.args.wide tells told x y z w t edges same given spells few _ _ refl
          (λ e h. v.prints e (r.goes.touches.told ∙ h) (spells e).circuit (by_pass (spells e).circuit)
          ((spells e).orders h).is) v.ends
          (λ e h. device_keeps _ sound v.goes.sound (keeps e h));
      caused = done_caused _ _ (record {
        told = v.goes.touches.told ∙ r.goes.touches.told;
        read = omega (arith, o.cause.later, says.later, p.cause.later, v.read_later);
        write = v.write_later;
        device = omega (arith, r.goes.touches.faults, v.goes.touches.faults);
      });
      most = steps_most c.args.wide tells told x y z w t edges same given spells few last.slot s u r.goes.touches
          (λ e. rw first (own.size e)) (λ e h. rw first (says.most e h)) v.most;
      opens = opens_eval c.args.uninit c.args.wide tells told circuit stimulus a last Done
          (v.reads.leaves.text ∙ p.leaves.text ∙ text)
          (λ e l. lost_opened (a.slot First) (b.slot First) (last.slot First) (a.text First circuit)
          fresh.first.lost (o.lost e) (ap (λ k. k.lost) first ∙ reads.lost e) l)
          (λ e l. lost_opened (a.slot Second) (d.slot Second) (last.slot Second)
          (a.text Second stimulus) fresh.second.lost (rw (← text, ← unopened) (p.lost e))
          (v.reads.lost e) l)
          (λ e. text_some (a.text First circuit) x (o.whole e))
          (λ e. text_some (a.text Second stimulus) z (there e))
          (λ e h u. none_first c.args.wide tells told x y z w t edges same given spells few e h);
      all_read = reads_both tells circuit stimulus last Done
          (rw first says.answers.all_read) v.end;
      no_usage = tt;
      no_memory = tt;
    }

pub returns-in-Ok-evaluate_either-clause-goes : goal.returns-in-Ok-evaluate_either-clause-goes
returns-in-Ok-evaluate_either-clause-goes g c =
    let r = c.in-Ok-read_circuit.ensures in
    let v = c.in-Ok-evaluate_either.ensures.runs in
    let s = seen g.D.Device.state c.args.rig.now in
    let t = seen g.D.Device.state c.read_circuit.new.rig in
    let u = seen g.D.Device.state c.evaluate_either.new.rig in
    let says = rw c.start_of.ensures.is at r.reads in
    record {
      touches = touches_within s t u [] _ r.goes.touches says.answers.blocks.within v.goes.touches;
      sound = v.goes.sound;
      frames = same_frames_then s.pool t.pool u.pool r.goes.frames v.goes.frames;
    }

-- the stimulus has a fault, or the steps stopped
pub returns-in-Err-evaluate_either-clause-runs : goal.returns-in-Err-evaluate_either-clause-runs
returns-in-Err-evaluate_either-clause-runs g c =
    let a = g.H.Shelf.stand c.args.shelf.now in
    let b = g.H.Shelf.stand c.open.new.self in
    let d = g.H.Shelf.stand c.open-2.new.self in
    let last = g.H.Shelf.stand c.evaluate_either.new.shelf in
    let s = seen g.D.Device.state c.args.rig.now in
    let t = seen g.D.Device.state c.read_circuit.new.rig in
    let u = seen g.D.Device.state c.evaluate_either.new.rig in
    let o = c.in-Ok.ensures in
    let r = c.in-Ok-read_circuit.ensures in
    let says = rw c.start_of.ensures.is at r.reads in
    let p = c.in-Ok-open.ensures in
    let few : c.args.wide ≡ true → c.in-Ok-read_circuit.ordered.header.latches ≡ 0 =
    none_taken c.else-wide.either in
    let v = c.in-Err-evaluate_either.ensures.runs in
    let edges = c.in-Ok-read_circuit.ordered in
    let stop = c.in-Err-evaluate_either.stop in
    let tells = g.H.Shelf.tells in
    let told = s.device.told in
    let circuit = c.args.circuit.now in
    let stimulus = c.args.stimulus.now in
    let fresh = c.requires.fresh in
    let reads = says.reads in
    let own = says.answers in
    let text = reads.leaves.text ∙ o.leaves.text in
    let unopened = reads.leaves.others Second (λ e. cc) ∙ o.leaves.others Second (λ e. cc) in
    let first = v.reads.leaves.others First (λ e. cc) ∙ p.leaves.others First (λ e. cc) in
    let x = (b.slot First).left in
    let y = text_in a First (Some circuit) in
    let z = (d.slot Second).left in
    let w = text_in a Second (Some stimulus) in
    let same : IsTrue tells → x ≡ y = λ e. text_left (a.text First circuit) x (o.whole e) in
    let there : IsTrue tells → a.text Second stimulus ≡ Some z = λ e. rw (← text) (p.whole e) in
    let given : IsTrue tells → z ≡ w = λ e. text_left (a.text Second stimulus) z (there e) in
    let spells = own.spells in
    let faults = fault_counts (g.H.Shelf.faults c.open-2.new.self) (g.W.Sink.faults c.args.out.now) in
    let later = fault_counts (g.H.Shelf.faults c.evaluate_either.new.shelf)
    (g.W.Sink.faults c.evaluate_either.new.out) in
    let sound = c.requires.unused.sound in
    let keeps = steps_keep c.args.wide tells told x y z w t edges same given spells few last.slot s u sound
    r.goes.touches (λ e. rw first (own.size e)) (λ e h. rw first (says.moves e h)) v.moves in
    let touches = touches_within s t u [] _ r.goes.touches own.blocks.within v.goes.touches in
    record {
      ended = rw (c.status_of-in-Err-evaluate_either.ensures.is)
          (ended_stop tells (asked_of_eval c.args.wide (start_of c.args.uninit) y w) _ _ s u touches v.goes.sound refl refl
          (λ e h. device_keeps _ sound v.goes.sound (keeps e h)) stop faults later
          (steps_cause c.args.wide tells told x y z w t edges same given spells few faults later s u stop refl
          r.goes.touches v.ends v.cause)
          (eval_fills c.args.wide (start_of c.args.uninit) tells y w last.slot u stop v.full
          (steps_few c.args.wide tells told x y z w t edges same given spells few last.slot u stop v.goes.touches
          (λ e. rw first (own.size e)) v.room))
          (steps_stopped c.args.wide tells told x y z w t edges same given spells few _ _ refl stop
          (λ e h. v.prints e (r.goes.touches.told ∙ h) (spells e).circuit (by_pass (spells e).circuit)
          ((spells e).orders h).is)));
      caused = rw (c.status_of-in-Err-evaluate_either.ensures.is)
          (steps_caused _ _ (g.H.Shelf.faults c.open-2.new.self) (g.W.Sink.faults c.args.out.now) t u
          stop (search rules) (search rules) (search rules) (search rules) refl v.cause);
      most = steps_most c.args.wide tells told x y z w t edges same given spells few last.slot s u r.goes.touches
          (λ e. rw first (own.size e)) (λ e h. rw first (says.most e h)) v.most;
      opens = rw (c.status_of-in-Err-evaluate_either.ensures.is) (opens_eval c.args.uninit c.args.wide tells told circuit stimulus a last _
          (v.reads.leaves.text ∙ p.leaves.text ∙ text)
          (λ e l. lost_opened (a.slot First) (b.slot First) (last.slot First) (a.text First circuit)
          fresh.first.lost (o.lost e) (ap (λ k. k.lost) first ∙ reads.lost e) l)
          (λ e l. lost_opened (a.slot Second) (d.slot Second) (last.slot Second)
          (a.text Second stimulus) fresh.second.lost (rw (← text, ← unopened) (p.lost e))
          (v.reads.lost e) l)
          (λ e. on_end _ _ (text_some (a.text First circuit) x (o.whole e)))
          (λ e. not_done stop _)
          (λ e h q. none_first c.args.wide tells told x y z w t edges same given spells few e h));
      all_read = rw (c.status_of-in-Err-evaluate_either.ensures.is)
          (reads_both tells circuit stimulus last _ (not_done stop _) (not_done stop _));
      no_usage = search rules;
      no_memory = search rules;
    }

pub returns-in-Err-evaluate_either-clause-goes : goal.returns-in-Err-evaluate_either-clause-goes
returns-in-Err-evaluate_either-clause-goes g c =
    let r = c.in-Ok-read_circuit.ensures in
    let v = c.in-Err-evaluate_either.ensures.runs in
    let s = seen g.D.Device.state c.args.rig.now in
    let t = seen g.D.Device.state c.read_circuit.new.rig in
    let u = seen g.D.Device.state c.evaluate_either.new.rig in
    let says = rw c.start_of.ensures.is at r.reads in
    record {
      touches = touches_within s t u [] _ r.goes.touches says.answers.blocks.within v.goes.touches;
      sound = v.goes.sound;
      frames = same_frames_then s.pool t.pool u.pool r.goes.frames v.goes.frames;
    }
