-- The plan of entries, or the first of its three refusals.
use Rattle.std.specs.Prelude.{◌≡◌, ◌⊎◌, nat_lt, if◌then◌else◌, List, [], ◌∷◌, ◌++◌, length, map, bytes_eq, Option, Some, None, Result, Ok, Err}
use Rattle.std.specs.Global.{Vec}
use Rattle.acq_base.specs.declared.plan.Plan.{Plan}
use Rattle.acq_base.specs.declared.uri.ListName.{ListName}
use Rattle.acq_base.specs.declared.settings.Pick.{Pick}
use Rattle.acq_base.specs.declared.settings.Settings.{Settings}
use Rattle.source_lists.specs.declared.entry.Entry.{Entry}
use Rattle.target_plan.specs.declared.draft.Draft.{Draft}
use Rattle.target_plan.specs.declared.checks.File.{File}
use Rattle.target_plan.specs.declared.error.PlanError.{PlanError}
use Rattle.target_plan.specs.declared.error.PlanError.TheVariants.{LongName, Clash, TooMany, NoMemory}
use Rattle.target_plan.specs.Drafts.{drafts_of, files_of, files_in, finished}

abbrev pub or_else : Option PlanError → Option PlanError → Option PlanError
or_else None later = later
or_else (Some refusal) later = Some refusal

abbrev pub name_refusal : ListName → Option PlanError
name_refusal name = if nat_lt 240 (length name.0) then Some (LongName name) else None

-- the first of these files whose name has more than 240 bytes
unfoldable pub long_name : List File → Option PlanError
long_name [] = None
long_name (file ∷ files) = or_else (name_refusal file.name) (long_name files)

abbrev pub clash_of : File → File → PlanError
clash_of first second = Clash first.origin second.origin

-- the first of the earlier files that has the name of a file
unfoldable pub clash_with : List File → File → Option PlanError
clash_with [] file = None
clash_with (earlier ∷ files) file = if bytes_eq earlier.name.0 file.name.0 then Some (clash_of earlier file) else clash_with files file

-- the first of the files behind some earlier ones that has the name of an earlier one
unfoldable pub clash_behind : List File → List File → Option PlanError
clash_behind earlier [] = None
clash_behind earlier (file ∷ files) = or_else (clash_with earlier file) (clash_behind (earlier ++ file ∷ []) files)

abbrev pub clash : List File → Option PlanError
clash files = clash_behind [] files

unfoldable pub too_many : List File → Option PlanError
too_many files = if nat_lt 4096 (length files) then Some TooMany else None

-- the first that holds: a name too long, two files of one name, too many files
unfoldable pub refusal_of : List File → Option PlanError
refusal_of files = or_else (long_name files) (or_else (clash files) (too_many files))

abbrev pub unless : Option PlanError → Plan → Result Plan PlanError
unless None plan = Ok plan
unless (Some refusal) plan = Err refusal

-- the plan of these entries, of targets of the kinds that are picked
unfoldable pub plan_of : Pick → Settings → List Entry → Result Plan PlanError
plan_of pick settings entries =
    let drafts = drafts_of pick settings entries in unless (refusal_of (files_in drafts)) (record { sources = map finished drafts })

-- ---- how functions answer that may run out of memory

-- the answer is this value, unless there is this refusal
abbrev pub Gives : {X : Type 0} → X → Option PlanError → Result X PlanError → Type 0
Gives value refusal (Ok given) = (given ≡ value) × (refusal ≡ None)
Gives value refusal (Err error) = (error ≡ NoMemory) ⊎ (refusal ≡ Some error)

-- the answer is this refusal, or none where there is none
abbrev pub AnswersRefusal : {X : Type 0} → Option PlanError → Result X PlanError → Type 0
AnswersRefusal refusal (Ok done) = refusal ≡ None
AnswersRefusal refusal (Err error) = (error ≡ NoMemory) ⊎ (refusal ≡ Some error)

-- the answer is this draft, unless a name of its files is too long
abbrev pub GivesDraft : Draft → Result Draft PlanError → Type 0
GivesDraft draft result = Gives draft (long_name (files_of draft)) result

abbrev pub GivesDrafts : List Draft → Result (Vec Draft) PlanError → Type 0
GivesDrafts drafts (Ok given) = (given.items ≡ drafts) × (long_name (files_in drafts) ≡ None)
GivesDrafts drafts (Err error) = (error ≡ NoMemory) ⊎ (long_name (files_in drafts) ≡ Some error)
