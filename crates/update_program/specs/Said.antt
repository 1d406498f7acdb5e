-- What a call writes, and its status.
use Rattle.std.specs.Prelude.{◌≡◌, ◌≢◌, ◌≤◌, ◌⊎◌, ℕ, Bool, true, false, if◌then◌else◌, List, Option, Some, None, IsNone}
use Rattle.std.specs.List.{list_any}
use Rattle.acq_base.specs.declared.plan.Plan.{Plan}
use Rattle.acq_outside.specs.Count.{Rose, one_more}
use Rattle.acq_outside.specs.Sink.{Wrote, WrotePart}
use Rattle.report_text.specs.Faults.{fault_text}
use Rattle.report_text.specs.Report.{IsReport}
use Rattle.report_text.specs.declared.fault.FaultLine.{FaultLine}
use Rattle.report_text.specs.declared.fault.FaultLine.TheVariants.{Words, Conf, Clash, TooMany, LongName, Journal, Disk, Memory, Held, Etc, Download, Port}
use Rattle.update_model.specs.declared.log.RunLog.{RunLog}
use Rattle.update_model.specs.declared.settled.Verdict2.{Verdict2}
use Rattle.update_model.specs.declared.settled.Verdict2.TheVariants.{Installed, Hit, Older, Kept}
use Rattle.update_program.specs.Objects.{Output}

-- the text was written whole and the status is this one, or the output failed within the text and the status is 105
abbrev pub Writes : Output → Output → List ℕ → ℕ → ℕ → Type 0
Writes before after text status result =
    ((result ≡ status) × Wrote before.written text after.written)
    ⊎ ((result ≡ 105) × Rose before.faults after.faults × WrotePart before.written text after.written)

-- The frame of a call that writes: status 105 comes only where the output failed within the call, and any other status only
-- where it did not.
pub record BlamesOutput (before after status : ℕ) : Type 0 where
  pub count : before ≤ after
  pub fault : status ≡ 105 → Rose before after
  pub quiet : status ≢ 105 → after ≡ before

-- ---- lines of faults

-- the status beside the line of a fault
abbrev pub fault_status : FaultLine → ℕ
fault_status Words = 100
fault_status (Conf file number line) = 100
fault_status (Clash first first_line second second_line) = 100
fault_status TooMany = 100
fault_status (LongName name) = 100
fault_status (Journal at) = 100
fault_status Disk = 102
fault_status Memory = 103
fault_status Held = 104
fault_status Etc = 106
fault_status (Download number name version) = 100
fault_status Port = 108

-- whether the line has nothing to name
abbrev pub is_bare : FaultLine → Bool
is_bare Words = true
is_bare (Conf file number line) = false
is_bare (Clash first first_line second second_line) = false
is_bare TooMany = true
is_bare (LongName name) = false
is_bare (Journal at) = false
is_bare Disk = true
is_bare Memory = true
is_bare Held = true
is_bare Etc = true
is_bare (Download number name version) = false
is_bare Port = true

abbrev pub WritesLine : Output → Output → FaultLine → ℕ → Type 0
WritesLine before after fault result = Writes before after (fault_text fault) (fault_status fault) result

-- or memory for the line ran out
abbrev pub WritesFault : Output → Output → FaultLine → ℕ → Type 0
WritesFault before after fault result = WritesLine before after fault result ⊎ WritesLine before after Memory result

-- ---- reports

abbrev pub is_kept : Verdict2 → Bool
is_kept (Installed held) = false
is_kept (Hit held) = false
is_kept (Older date) = false
is_kept (Kept cause) = true

-- the status beside a report: 100 where a source keeps its set for a cause
abbrev pub status_of_verdicts : List Verdict2 → ℕ
status_of_verdicts verdicts = if list_any is_kept verdicts then 100 else 0

pub record WritesReport (before after : Output) (plan : Plan) (log : RunLog) (result : ℕ) : Type 0 where
  pub text : List ℕ
  pub is : IsReport plan log text
  pub said : Writes before after text (status_of_verdicts log.verdicts) result

-- or memory for the report ran out
abbrev pub WritesReportOrMemory : Output → Output → Plan → RunLog → ℕ → Type 0
WritesReportOrMemory before after plan log result = WritesReport before after plan log result ⊎ WritesLine before after Memory result

-- ---- statuses and moments

-- which statuses stand beside a log, and which beside none
abbrev pub IsStatus : Option RunLog → ℕ → Type 0
IsStatus (Some log) status = (status ≡ 0) ⊎ ((status ≡ 100) ⊎ ((status ≡ 103) ⊎ (status ≡ 105)))
IsStatus None status = (status ≡ 100) ⊎ ((status ≡ 102) ⊎ ((status ≡ 103) ⊎ ((status ≡ 104) ⊎ ((status ≡ 105) ⊎ (status ≡ 106)))))

-- a moment is read once, or not at all where there is no log
abbrev pub ReadsOnce : ℕ → ℕ → Option RunLog → Type 0
ReadsOnce before after log = (after ≡ one_more before) ⊎ (IsNone log × (after ≡ before))
