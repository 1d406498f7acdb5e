-- What comes of a package file that is asked for.
use Rattle.std.specs.Prelude.{◌≡◌, ◌⊎◌, ℕ, List, [], ◌∷◌, Option, Some, None, Result, Ok, Err, IfOk, IfErr, IsTrue}
use Rattle.std.specs.Global.{Vec}
use Rattle.acq_base.specs.declared.plan.Plan.{Plan}
use Rattle.acq_base.specs.declared.settings.Settings.{Settings}
use Rattle.acq_outside.specs.Etc.{EtcFiles}
use Rattle.acq_outside.specs.Fetches.{Fetches}
use Rattle.acq_outside.specs.States.{IsNow, Since}
use Rattle.acq_outside.specs.Stays.{ReadsCounting, StaysCounting}
use Rattle.acq_outside.specs.declared.disk.Disk as disks
use Rattle.acq_outside.specs.declared.method.Method as methods
use Rattle.acq_outside.specs.declared.sink.Sink as sinks
use Rattle.commit_journal.specs.Opening.{Opens}
use Rattle.commit_journal.specs.declared.error.JournalError.{JournalError}
use Rattle.commit_journal.specs.declared.error.JournalError.TheVariants as journals
use Rattle.commit_journal.specs.declared.opening.Journal.{Journal}
use Rattle.configuration.specs.declared.configuring.Configured.{Configured}
use Rattle.configuration.specs.declared.error.ConfigurationError.{ConfigurationError}
use Rattle.deb_fetch.specs.Causes.{HasFailed, IsAnswerOf, IsEndOfRoute, IsMethod}
use Rattle.deb_fetch.specs.Filenames.{IsDebName}
use Rattle.deb_fetch.specs.Landing.{KeepsOthers, LandsWholeSince, LeavesWhole}
use Rattle.deb_fetch.specs.Stanzas.{IsNamedBy, IsRefusedBy, stanzas}
use Rattle.deb_fetch.specs.declared.deb.Deb.{Deb}
use Rattle.deb_fetch.specs.declared.error.DebError.{DebError}
use Rattle.deb_fetch.specs.declared.error.DebError.TheVariants as debs
use Rattle.report_text.specs.Packages.{fail_text, got_text}
use Rattle.report_text.specs.Refused.{line_of}
use Rattle.report_text.specs.declared.fault.FaultLine.{FaultLine}
use Rattle.report_text.specs.declared.fault.FaultLine.TheVariants.{Download as DownloadLine, Journal as JournalLine, Disk, Etc, Held, Memory}
use Rattle.update_model.specs.declared.cause.Cause.{Cause}
use Rattle.update_program.specs.Asked.{GivesConfiguration}
use Rattle.update_program.specs.Objects.{Output, output}
use Rattle.update_program.specs.Said.{Writes, WritesFault, WritesLine}
use Rattle.update_program.specs.declared.ran.Ran.{Ran}

-- the text was written with this status, or memory for it ran out
abbrev pub WritesOrMemory : Output → Output → List ℕ → ℕ → ℕ → Type 0
WritesOrMemory before after text status result = Writes before after text status result ⊎ WritesLine before after Memory result

-- ---- the fetch

-- `Got` and 0 just where there is no cause, else `Fail` and 100; or the folder failed, or memory ran out
abbrev pub SaysFetched : Output → Output → List ℕ → List ℕ → Deb → Result (Option Cause) DebError → ℕ → Type 0
SaysFetched before after name version deb (Ok None) status = WritesOrMemory before after (got_text deb.file deb.sum) 0 status
SaysFetched before after name version deb (Ok (Some cause)) status = WritesOrMemory before after (fail_text name version cause) 100 status
SaysFetched before after name version deb (Err debs.DiskFault) status = WritesLine before after Disk status
SaysFetched before after name version deb (Err error) status = WritesLine before after Memory status

-- The file was fetched into the folder, or this is why not. At every moment a crash leaves the file as it might have left it
-- before, or whole, and all others but the one on its way as it might have left them before; where there is no cause it is there,
-- whole and lasting. Where folder and method tell, the answer is the mirror's, or the method, which failed once more than an ask
-- may be repeated.
pub record FetchesDeb {Q M : Type 0} (q : disks.Ghosts Q) (m : methods.Ghosts M) (settings : Settings) (deb : Deb)
    (place place' : Q) (method method' : M) (end : Result (Option Cause) DebError) : Type 0 where
  pub frame : StaysCounting debs.DiskFault q place place' end
  pub fetches : Fetches m method method'
  pub moments : Since (q.trace place) (q.trace place') (LandsWholeSince deb.file.0 deb.sum (q.trace place))
  pub others : KeepsOthers deb.file.0 (q.trace place) (q.trace place')
  pub whole : IfOk end (λ cause. cause ≡ None → IsNow (LeavesWhole deb.file.0 deb.sum) (q.trace place'))
  pub answer : IsTrue (q.tells place) → IfOk end (IsAnswerOf (m.world method) (q.files place deb.file.0) deb)
  pub failed : IfOk end (λ cause. IsMethod cause → HasFailed settings.retries (m.faults method) (m.faults method') deb cause)
  pub route : IfOk end (IsEndOfRoute settings.retries deb)

pub record TellsFetch {Q M : Type 0} (q : disks.Ghosts Q) (m : methods.Ghosts M) (settings : Settings) (name version : List ℕ) (deb : Deb)
    (place place' : Q) (method method' : M) (out out' : Output) (status : ℕ) : Type 0 where
  pub end : Result (Option Cause) DebError
  pub fetches : FetchesDeb q m settings deb place place' method method' end
  pub said : SaysFetched out out' name version deb end status

-- ---- the lists

-- the line of what isn't found: 34 where no list has it, 35 where lists have two of different sums
abbrev pub not_found : ℕ → List ℕ → List ℕ → FaultLine
not_found number name version = DownloadLine number name version

abbrev pub SaysUnfound : Output → Output → List ℕ → List ℕ → DebError → ℕ → Type 0
SaysUnfound before after name version (debs.NotListed of) status = WritesFault before after (not_found 34 name version) status
SaysUnfound before after name version (debs.Several of) status = WritesFault before after (not_found 35 name version) status
SaysUnfound before after name version debs.DiskFault status = WritesLine before after Disk status
SaysUnfound before after name version debs.NoMemory status = WritesLine before after Memory status

-- the file as the installed lists of the plan name it, or why they name none
pub record FindsDeb {D : Type 0} (d : disks.Ghosts D) (plan : Plan) (name version : List ℕ) (disk disk' : D) (found : Result Deb DebError) : Type 0 where
  pub frame : ReadsCounting debs.DiskFault d disk disk' found
  pub named : IsTrue (d.tells disk) → IfOk found (IsNamedBy (stanzas (d.files disk) name version plan))
  pub refused : IsTrue (d.tells disk) → IfErr found (IsRefusedBy (stanzas (d.files disk) name version plan) name)
  pub sound : IfOk found (λ deb. IsDebName deb.file.0)

-- nothing was fetched: folder and method are as they were
pub record FetchesNothing {Q M : Type 0} (place place' : Q) (method method' : M) : Type 0 where
  pub place_is : place' ≡ place
  pub method_is : method' ≡ method

-- it was found and fetched, or not found
abbrev pub GoesOnFound : {Q M : Type 0} → disks.Ghosts Q → methods.Ghosts M → Settings → List ℕ → List ℕ → Result Deb DebError → Q → Q → M → M → Output → Output → ℕ → Type 0
GoesOnFound q m settings name version (Ok deb) place place' method method' out out' status = TellsFetch q m settings name version deb place place' method method' out out' status
GoesOnFound q m settings name version (Err error) place place' method method' out out' status =
    FetchesNothing place place' method method' × SaysUnfound out out' name version error status

pub record Finds {D Q M : Type 0} (d : disks.Ghosts D) (q : disks.Ghosts Q) (m : methods.Ghosts M) (it : Configured) (name version : List ℕ)
    (disk disk' : D) (place place' : Q) (method method' : M) (out out' : Output) (status : ℕ) : Type 0 where
  pub found : Result Deb DebError
  pub finds : FindsDeb d it.plan name version disk disk' found
  pub goes_on : GoesOnFound q m it.settings name version found place place' method method' out out' status

-- ---- the journal

abbrev pub SaysUnopened : Output → Output → JournalError → ℕ → Type 0
SaysUnopened before after journals.DiskFault status = WritesLine before after Disk status
SaysUnopened before after (journals.BadJournal at) status = WritesFault before after (JournalLine at) status
SaysUnopened before after journals.NoMemory status = WritesLine before after Memory status

-- the lists were looked into, or the journal wasn't opened
abbrev pub GoesOnOpened : {D Q M : Type 0} → disks.Ghosts D → disks.Ghosts Q → methods.Ghosts M → Configured → List ℕ → List ℕ → Result Journal JournalError → D → D → Q → Q → M → M → Output → Output → ℕ → Type 0
GoesOnOpened d q m it name version (Ok journal) disk disk' place place' method method' out out' status = Finds d q m it name version disk disk' place place' method method' out out' status
GoesOnOpened d q m it name version (Err error) disk disk' place place' method method' out out' status =
    (disk' ≡ disk) × FetchesNothing place place' method method' × SaysUnopened out out' error status

-- the journal of the lists was opened, as an update opens it
pub record OpensLists {D Q M : Type 0} (d : disks.Ghosts D) (q : disks.Ghosts Q) (m : methods.Ghosts M) (it : Configured) (name version : List ℕ)
    (disk disk' : D) (place place' : Q) (method method' : M) (out out' : Output) (status : ℕ) : Type 0 where
  pub mid : D
  pub opened : Result Journal JournalError
  pub frame : StaysCounting journals.DiskFault d disk mid opened
  pub opens : Opens d disk mid opened
  pub goes_on : GoesOnOpened d q m it name version opened mid disk' place place' method method' out out' status

-- ---- the hold

-- another process held the lists folder, or it failed
pub record IsNotHeld {D Q M : Type 0} (d : disks.Ghosts D) (disk disk' : D) (place place' : Q) (method method' : M) (out out' : Output) (status : ℕ) : Type 0 where
  pub files : d.files disk' ≡ d.files disk
  pub still : d.trace disk' ≡ d.trace disk
  pub nothing : FetchesNothing place place' method method'
  pub said : WritesLine out out' Held status ⊎ WritesLine out out' Disk status

-- the lists folder was held, neither failed nor was found held by another process, and was then looked into
pub record HoldsLists {D Q M : Type 0} (d : disks.Ghosts D) (q : disks.Ghosts Q) (m : methods.Ghosts M) (it : Configured) (name version : List ℕ)
    (disk disk' : D) (place place' : Q) (method method' : M) (out out' : Output) (status : ℕ) : Type 0 where
  pub held : D
  pub files : d.files held ≡ d.files disk
  pub still : d.trace held ≡ d.trace disk
  pub telling : d.tells held ≡ d.tells disk
  pub quiet : d.faults held ≡ d.faults disk
  pub free : d.held held ≡ d.held disk
  pub opens : OpensLists d q m it name version held disk' place place' method method' out out' status

abbrev pub LooksIntoLists : {D Q M : Type 0} → disks.Ghosts D → disks.Ghosts Q → methods.Ghosts M → Configured → List ℕ → List ℕ → D → D → Q → Q → M → M → Output → Output → ℕ → Type 0
LooksIntoLists d q m it name version disk disk' place place' method method' out out' status =
    HoldsLists d q m it name version disk disk' place place' method method' out out' status ⊎ IsNotHeld d disk disk' place place' method method' out out' status

-- ---- the configuration

-- there is no configuration: it is refused, its folder failed, or memory ran out; and nothing else was touched
pub record IsUnconfigured {D Q M : Type 0} (told : Option EtcFiles) (disk disk' : D) (place place' : Q) (method method' : M) (out out' : Output) (status : ℕ) : Type 0 where
  pub disk_is : disk' ≡ disk
  pub nothing : FetchesNothing place place' method method'
  pub said : ((refusal : ConfigurationError) × GivesConfiguration told [] (Err refusal) × WritesFault out out' (line_of refusal) status)
      ⊎ (WritesLine out out' Etc status ⊎ WritesLine out out' Memory status)

-- The file of this version of this package is asked for: what is configured says where to look, the first step that fails ends the
-- call, and what it says is told.
pub record Downloads {D Q M : Type 0} (d : disks.Ghosts D) (q : disks.Ghosts Q) (m : methods.Ghosts M) (told : Option EtcFiles)
    (name version : List ℕ) (disk disk' : D) (place place' : Q) (method method' : M) (out out' : Output) (status : ℕ) : Type 0 where
  pub way : ((it : Configured) × GivesConfiguration told [] (Ok it) × LooksIntoLists d q m it name version disk disk' place place' method method' out out' status)
      ⊎ IsUnconfigured told disk disk' place place' method method' out out' status

-- the first of the methods is asked, and the others stay
pub record DownloadsByFirst {D Q M S : Type 0} (d : disks.Ghosts D) (q : disks.Ghosts Q) (m : methods.Ghosts M) (s : sinks.Ghosts S) (told : Option EtcFiles)
    (disk disk' : D) (place place' : Q) (methods methods' : Vec M) (out out' : S) (ran : Ran) (name version : List ℕ) : Type 0 where
  pub method : M
  pub method' : M
  pub others : List M
  pub before : methods.items ≡ method ∷ others
  pub after : methods'.items ≡ method' ∷ others
  pub downloads : Downloads d q m told name version disk disk' place place' method method' (output s out) (output s out') ran.status.0
