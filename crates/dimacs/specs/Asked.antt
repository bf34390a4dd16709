-- What the words of a call ask for, by the matches of `clap`.
use Rattle.std.specs.Prelude.{◌≡◌, ℕ, List, Option, Some, None, codes}
use Rattle.clap.specs.Walk.{Row, first_of}
use Rattle.dimacs.specs.declared.words.Job.{Job}
use Rattle.dimacs.specs.declared.words.Job.TheVariants as job
use Rattle.dimacs.specs.declared.words.Asked.{Asked}

-- `--check LOG` asks to check that log; else the formula is solved, and with `--log LOG` the log is kept there
abbrev pub IsJob : Option (List ℕ) → Option (List ℕ) → Job → Type 0
IsJob log check job.Solve = (log ≡ None) × (check ≡ None)
IsJob log check (job.Keep to) = (log ≡ Some to.now) × (check ≡ None)
IsJob log check (job.Check from) = check ≡ Some from.now

-- the first word is the file
pub record IsAsked (rows : List Row) (asked : Asked) : Type 0 where
  pub file : first_of (codes "file") rows ≡ Some asked.file.now
  pub job : IsJob (first_of (codes "log") rows) (first_of (codes "check") rows) asked.job
