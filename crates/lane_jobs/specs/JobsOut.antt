-- The jobs that are out, by lane.
use Rattle.std.specs.Prelude.{ℕ, Bool, false, bytes_eq, List, [], replicate, Option, Some, None, option_map}
use Rattle.std.specs.List.{list_any}
use Rattle.acq_base.specs.declared.uri.ListName.{ListName}
use Rattle.host_queues.specs.Lanes.{changed_at}
use Rattle.job_fetch.specs.declared.intake.Intake.{Intake}
use Rattle.job_fetch.specs.declared.intake.Intake.TheVariants.{Held, Unopened, Filling}
use Rattle.lane_jobs.specs.declared.transfers.Transfer.{Transfer}

-- By lane of the board the job that is out from it, with what has come of it; and whether no worker is used any more.
pub record JobsOut : Type 0 where
  pub rows : List (Option Transfer)
  pub alone : Bool

-- so many lanes, and no job out
abbrev pub none_out : ℕ → JobsOut
none_out lanes = record { rows = replicate lanes None; alone = false }

abbrev pub with_row : ℕ → Option Transfer → JobsOut → JobsOut
with_row lane row jobs = record { rows = changed_at lane (λ was. row) jobs.rows; alone = jobs.alone }

-- the number of the item whose job it is
abbrev pub number_of : Option Transfer → Option ℕ
number_of row = option_map (λ (t : Transfer). t.job.no) row

-- what has come of a job before its first word: nothing, in memory or for a list's file
abbrev pub nothing_yet : Option ListName → Intake
nothing_yet None = Held []
nothing_yet (Some name) = Unopened name

-- whether pieces have gone into the file of this list
abbrev pub fills_file : Intake → List ℕ → Bool
fills_file (Held bytes) name = false
fills_file (Unopened list) name = false
fills_file (Filling filling) name = bytes_eq filling.part.name name

abbrev pub fills : List ℕ → Option Transfer → Bool
fills name None = false
fills name (Some t) = fills_file t.intake name

-- whether a list's file is being filled
abbrev pub is_filled : JobsOut → List ℕ → Bool
is_filled jobs name = list_any (fills name) jobs.rows
