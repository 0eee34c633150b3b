-- What the words ask of a run over a shelf.
use Rattle.std.specs.Prelude.{ℕ, ◌+◌, List, Option, None, Result, Ok, Err}
use Rattle.em_io.specs.Shelf.{Stand, by_slot}
use Rattle.em_io.specs.declared.shelf.Slot.{Slot}
use Rattle.em_ends.specs.Asked.{Asked}
use Rattle.em_words.specs.Job.{job_of, name_at}
use Rattle.em_run.specs.Made.{made_texts}
use Rattle.em_run.specs.Origin.{asked_on}
use Rattle.em_words.specs.declared.job.Job.{Job}
use Rattle.em_words.specs.declared.job.Origin.{Origin}
use Rattle.em_words.specs.declared.job.Origin.TheVariants.{Files, Made}
use Rattle.em_words.specs.declared.job.Task.{Task}
use Rattle.em_ends.specs.declared.status.Usage.{Usage}
use Rattle.em_run.specs.Tasks.{names_of}
use Rattle.em_ends.specs.Opens.{texts_in}

-- the same by where the texts come from: made ones have no name
abbrev pub names_on : Origin → Task → List ℕ → List ℕ → Slot → Option (List ℕ)
names_on Files task first second = names_of task first second
names_on (Made start count) task first second = by_slot None None

-- the text of each slot: that of its file, or a made one
abbrev pub texts_on : Origin → Task → Stand → (Slot → Option (List ℕ)) → Slot → List ℕ
texts_on Files task stand names = texts_in stand names
texts_on (Made start count) task stand names = made_texts task start count

-- What words and shelf ask of a run: the job; the name of each slot's file, if the job opens the
-- slot, and the slot's text; and what the job's task asks over these texts.
pub record Due : Type 0 where
  pub job : Job
  pub names : Slot → Option (List ℕ)
  pub texts : Slot → List ℕ
  pub asked : Asked

-- what a job asks, of the files of these names or of made texts
abbrev pub due_by : Stand → Job → (Slot → Option (List ℕ)) → Due
due_by stand job names = record {
  job = job;
  names = names;
  texts = texts_on job.origin job.task stand names;
  asked = asked_on job.origin job.task (texts_on job.origin job.task stand names);
}

-- the names of the files of a job that stands in these words
abbrev pub job_names : List (List ℕ) → Job → Slot → Option (List ℕ)
job_names words job =
    names_on job.origin job.task (name_at words job.file) (name_at words (job.file + 1))

-- what the job of some words asks, if they name one
abbrev pub due_for : List (List ℕ) → Stand → Result Job Usage → Result Due Usage
due_for words stand (Ok job) = Ok (due_by stand job (job_names words job))
due_for words stand (Err usage) = Err usage

-- what is due for these words over this shelf, or the refusal of the words
abbrev pub due_of : List (List ℕ) → Stand → Result Due Usage
due_of words stand = due_for words stand (job_of words)
