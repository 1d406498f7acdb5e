-- A job of which nothing has come.
use Rattle.std.proofs.Common.{◌≡◌, ◌∙◌, ℕ, false, List, [], take, Option, Some, None, refl, sym, ap, subst}
use Rattle.std.specs.Prelude.{option_map, slice_get}
use Rattle.acq_base.specs.Mirror.{MirrorMap}
use Rattle.acq_base.specs.declared.fetch.Job.{Job}
use Rattle.acq_base.specs.declared.installed.Old.{Old}
use Rattle.acq_base.specs.declared.uri.ListName.{ListName}
use Rattle.acq_outside.specs.Crash.{State}
use Rattle.acq_outside.specs.Word.{CanBegin, begun as begun_fetch}
use Rattle.board_bounds.specs.Fetching.{LeadSoundly, MayBeFetched}
use Rattle.board_model.proofs.Askers.{asker-asks}
use Rattle.board_model.specs.Agreeing.{part_at}
use Rattle.board_model.specs.Boards.{Asker, Board, asker_of, job_for, lane_with, name_staged, staged_name}
use Rattle.board_model.specs.Keys.{name_at}
use Rattle.board_model.specs.Reached.{Reached}
use Rattle.board_model.specs.Runs.{Note}
use Rattle.board_model.specs.Slots.{Setup}
use Rattle.board_model.specs.Uses.{wanted_part}
use Rattle.job_fetch.proofs.Hears.{first_came}
use Rattle.job_fetch.specs.Hearing.{CanHear, HasComeIn, at_of, fetch_of, name_of}
use Rattle.journal_model.specs.Rest.{part_bytes}
use Rattle.run_jobs.proofs.Keeping.{front_is, keep_of}
use Rattle.run_jobs.proofs.OneJob.{IsStagedAs, Laws, kind_of}
use Rattle.run_jobs.specs.Coupling.{HasWantedParts}
use Rattle.run_jobs.specs.Running.{IsSoundBegun, IsUnderWay, RunStart}
use Rattle.lane_jobs.specs.Going.{IsPast, IsTransfer}
use Rattle.lane_jobs.specs.JobsOut.{fills_file, nothing_yet}
use Rattle.lane_jobs.specs.declared.transfers.Transfer.{Transfer}

-- ---- the item that asks

pub may_be : {olds : List Old} → Laws → (begun : RunStart) (notes : List Note) (b : Board) (n : ℕ) (a : Asker) → IsSoundBegun begun → LeadSoundly notes → Reached begun.config olds notes b → asker_of b n ≡ Some a → MayBeFetched a.ask
may_be {olds = olds} laws begun notes b n a sound leads reached asks = laws.fetched begun.config olds notes b n a sound.planned leads reached asks

pub staged_as : {olds : List Old} → Laws → (begun : RunStart) (notes : List Note) (b : Board) (n : ℕ) (a : Asker) → IsSoundBegun begun → b.config ≡ begun.config → LeadSoundly notes → Reached begun.config olds notes b → asker_of b n ≡ Some a
    → IsStagedAs b a (name_staged a)
staged_as laws begun notes b n a sound config leads reached asks = kind_of laws begun b n a notes sound config reached asks (may_be laws begun notes b n a sound leads reached asks)

-- the list whose file its job fetches
pub staged_name_is : (b : Board) (n from : ℕ) (a : Asker) → lane_with b.out n ≡ Some from → asker_of b n ≡ Some a → staged_name b n ≡ name_staged a
staged_name_is b n from a lane asks = rw lane (rw asks refl)

-- the bytes that its partial file had at first
pub part_named : (begun : RunStart) (b : Board) (n : ℕ) (a : Asker) (name : ListName) → b.config ≡ begun.config → asker_of b n ≡ Some a → name_at a.source a.key.place ≡ Some name → part_at begun.parts begun.config.sources a.key ≡ begun.parts name.0
part_named begun b n a name config asks named =
    let source_is : slice_get begun.config.sources a.key.source ≡ Some a.source = subst (λ (c : Setup). slice_get c.sources a.key.source ≡ Some a.source) config (asker-asks b n a asks).source_is in
    rw source_is (rw named refl)

-- ---- nothing has come

pub nothing_named : (staged : Option ListName) → name_of (nothing_yet staged) ≡ option_map (λ (name : ListName). name.0) staged
nothing_named None = refl
nothing_named (Some name) = refl

pub nothing_fills : (staged : Option ListName) (name : List ℕ) → fills_file (nothing_yet staged) name ≡ false
nothing_fills None name = refl
nothing_fills (Some list) name = refl

nothing_past : (job : Job) (staged : Option ListName) → IsPast job (nothing_yet staged)
nothing_past job None = tt
nothing_past job (Some name) = tt

pub nothing_can : (begun : RunStart) (b : Board) (a : Asker) (staged : Option ListName) (job : Job) (now : List State) → IsStagedAs b a staged → job.from ≡ a.ask.from → HasWantedParts (wanted_part b) begun.parts now → CanHear job now (nothing_yet staged)
nothing_can begun b a None job now kind from uses = from ∙ kind.1
nothing_can begun b a (Some name) job now kind from uses =
    record { named = kind.2; keep = λ told. rw from (keep_of a.ask.from (wanted_part b) name.0 begun.parts now kind.3 uses told) }

pub nothing_at : (b : Board) (a : Asker) (staged : Option ListName) (job : Job) → IsStagedAs b a staged → job.from ≡ a.ask.from → at_of job (nothing_yet staged) ≡ job.from
nothing_at b a None job kind from = sym (from ∙ kind.1)
nothing_at b a (Some name) job kind from = refl

-- a worker that was handed the job begins where nothing has come
pub nothing_begun : (b : Board) (a : Asker) (staged : Option ListName) (job : Job) → IsStagedAs b a staged → job.from ≡ a.ask.from → begun_fetch job ≡ fetch_of job (nothing_yet staged)
nothing_begun b a staged job kind from = ap (λ (n : ℕ). record { job = job; at = n }) (sym (nothing_at b a staged job kind from))

pub nothing_come : (begun : RunStart) (b : Board) (n : ℕ) (a : Asker) (staged : Option ListName) (world : Option MirrorMap) (job : Job) (now : List State) → IsStagedAs b a staged → b.config ≡ begun.config → asker_of b n ≡ Some a
    → job.from ≡ a.ask.from → HasWantedParts (wanted_part b) begun.parts now → HasComeIn world (part_at begun.parts begun.config.sources a.key) job now (nothing_yet staged)
nothing_come begun b n a None world job now kind config asks from uses =
    let none : job.from ≡ 0 = from ∙ kind.1 in
    first_came world (part_at begun.parts begun.config.sources a.key) job 0 [] (sym none) (sym (ap (λ (k : ℕ). take k (part_at begun.parts begun.config.sources a.key)) none))
nothing_come begun b n a (Some name) world job now kind config asks from uses = λ told.
    let here : take job.from (part_bytes now name.0) ≡ take job.from (begun.parts name.0) = rw from (front_is a.ask.from (wanted_part b) name.0 begun.parts now kind.3 uses told) in
    here ∙ ap (λ (l : List ℕ). take job.from l) (sym (part_named begun b n a name config asks kind.1))

-- the job, with what comes of it from its beginning
abbrev pub fresh_job : ℕ → Asker → Transfer
fresh_job n a = record { job = job_for n a.ask; intake = nothing_yet (name_staged a) }

pub fresh_transfer : Laws → (begun : RunStart) (notes : List Note) (b : Board) (now : List State) (world : Option MirrorMap) (n : ℕ) (a : Asker) → IsSoundBegun begun → IsUnderWay begun notes b now → asker_of b n ≡ Some a
    → IsTransfer begun b now world (fresh_job n a)
fresh_transfer laws begun notes b now world n a sound under asks =
    let kind = staged_as laws begun notes b n a sound under.heard.config under.heard.sound under.heard.reached asks in
    record {
      a = a;
      asks = asks;
      job_is = refl;
      list = nothing_named (name_staged a);
      can = nothing_can begun b a (name_staged a) (job_for n a.ask) now kind refl under.uses;
      past = nothing_past (job_for n a.ask) (name_staged a);
      come = nothing_come begun b n a (name_staged a) world (job_for n a.ask) now kind under.heard.config asks refl under.uses;
    }

-- a job may be handed to a method
pub sound_job : (n : ℕ) (a : Asker) (job : Job) → job ≡ job_for n a.ask → MayBeFetched a.ask → CanBegin job
sound_job n a job is may = rw is may.begin
