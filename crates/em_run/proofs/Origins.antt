-- A run on texts of either origin, and that of an evaluation.
use Rattle.std.proofs.Common.{◌≡◌, ℕ, Bool, List, Option, None, IsSome, IfSome, IsTrue, is_none, refl, subst, sym, true}
use Rattle.em_io.specs.Shelf.{Stand, by_slot}
use Rattle.em_io.specs.declared.shelf.Shelf.{Ghosts as ShelfGhosts}
use Rattle.em_io.specs.declared.shelf.Slot.{Slot}
use Rattle.em_io.specs.declared.shelf.Slot.TheVariants.{First, Second}
use Rattle.em_io.specs.declared.sink.Sink.{Ghosts as SinkGhosts}
use Rattle.em_space.specs.Rig.{RigState}
use Rattle.em_run.specs.Due.{names_on}
use Rattle.em_eval.specs.EvalRun.{RunsEval}
use Rattle.em_run.specs.Tasks.{OpensNamed, RunsTask, names_of}
use Rattle.em_ends.specs.Opens.{ReadsNamed}
use Rattle.em_run.specs.Runs.{RunsMade, RunsOn}
use Rattle.em_ends.specs.Status.{OnDone}
use Rattle.em_words.specs.declared.job.Origin.{Origin}
use Rattle.em_words.specs.declared.job.Origin.TheVariants.{Files, Made}
use Rattle.em_words.specs.declared.job.Task.{Task}
use Rattle.em_words.specs.declared.job.Task.TheVariants.{Eval}
use Rattle.em_ends.specs.declared.status.Status.{Status}

-- no slot has a name
abbrev unnamed : Slot → Option (List ℕ)
unnamed = by_slot None None

-- so a shelf that stays as it is meets all that is said of names
pub opens_unnamed : (task : Task) (tells told : Bool) (a : Stand) (s : Status) → OpensNamed task tells told unnamed a a s
opens_unnamed task tells told a s = record {
  texts = refl;
  others = λ slot n. refl;
  lost = lost;
  there = there;
  first = λ t. tt;
  second = λ t d o. tt;
}
  where
    lost : (slot : Slot) → IsTrue tells → (a.slot slot).lost ≡ true
        → IfSome (unnamed slot) (λ n. is_none (a.text slot n) ≡ true)
    lost First t l = tt
    lost Second t l = tt

    there : (slot : Slot) → IsTrue tells
        → IfSome (unnamed slot) (λ n. OnDone s (IsSome (a.text slot n)))
    there First t = tt
    there Second t = tt

pub reads_unnamed : (tells : Bool) (a : Stand) (s : Status) → ReadsNamed tells unnamed a s
reads_unnamed tells a s First = tt
reads_unnamed tells a s Second = tt

-- an evaluation is the run of its task
pub runs_eval : {H W : Type 0} {h : ShelfGhosts H} {w : SinkGhosts W} {s t : RigState} {shelf : H} {out : W}
    {shelf_after : H} {out_after : W} {status : Status} (task : Task) (uninit : Option Bool) (wide : Bool)
    (first second : List ℕ) → task ≡ Eval uninit wide
    → RunsEval h w uninit wide first second s t shelf out shelf_after out_after status
    → RunsTask h w task (names_of task first second) s t shelf out shelf_after out_after status
runs_eval {h = h} {w = w} {s = s} {t = t} {shelf = shelf} {out = out} {shelf_after = shelf_after}
    {out_after = out_after} {status = status} task uninit wide first second e r =
    subst (λ (k : Task). RunsTask h w k (names_of k first second) s t shelf out shelf_after out_after status)
    (sym e) r

-- a run over files
pub runs_files : {H W : Type 0} {h : ShelfGhosts H} {w : SinkGhosts W} {task : Task}
    {names : Slot → Option (List ℕ)} {s t : RigState} {shelf : H} {out : W} {shelf_after : H}
    {out_after : W} {status : Status}
    → RunsTask h w task names s t shelf out shelf_after out_after status
    → RunsOn h w task Files names s t shelf out shelf_after out_after status
runs_files r = record {
  ended = r.ended;
  caused = r.caused;
  most = r.most;
  opens = r.opens;
  all_read = r.all_read;
  leaves = tt;
  no_usage = r.no_usage;
  no_memory = r.no_memory;
}

-- a run on made texts, which leaves the shelf,
runs_made : {H W : Type 0} {h : ShelfGhosts H} {w : SinkGhosts W} {task : Task}
    {start count : ℕ} {s t : RigState} {shelf : H} {out out_after : W} {status : Status}
    → RunsMade w task start count s t out out_after status
    → RunsOn h w task (Made start count) unnamed s t shelf out shelf out_after status
runs_made {h = h} {task = task} {s = s} {shelf = shelf} {status = status} r = record {
  ended = r.ended (h.stand shelf) (h.faults shelf);
  caused = r.caused (h.stand shelf) (h.faults shelf);
  most = r.most (h.stand shelf).slot;
  opens = opens_unnamed task true s.device.told (h.stand shelf) status;
  all_read = reads_unnamed true (h.stand shelf) status;
  leaves = record { stays = refl; no_read = r.no_read; prints = r.prints };
  no_usage = r.no_usage;
  no_memory = r.no_memory;
}

-- whose job has this origin
pub runs_on_made : {H W : Type 0} {h : ShelfGhosts H} {w : SinkGhosts W} {task : Task}
    {start count : ℕ} {s t : RigState} {shelf : H} {out out_after : W} {status : Status}
    (origin : Origin) (first second : List ℕ) → origin ≡ Made start count
    → RunsMade w task start count s t out out_after status
    → RunsOn h w task origin (names_on origin task first second) s t shelf out shelf out_after status
runs_on_made {h = h} {w = w} {task = task} {s = s} {t = t} {shelf = shelf} {out = out}
    {out_after = out_after} {status = status} origin first second e r =
    subst (λ (o : Origin). RunsOn h w task o (names_on o task first second) s t shelf out shelf
    out_after status) (sym e) (runs_made r)
