-- One word after another.
use Rattle.std.proofs.Common.{◌≡◌, ℕ, ◌+◌, ◌<◌, ◌≤◌, List, length, refl, sym, ◌∙◌, subst, Option, Some, IfSome, arith}
use Rattle.acq_base.specs.Mirror.{MirrorMap}
use Rattle.acq_base.specs.declared.fetch.Job.{Job}
use Rattle.acq_base.specs.declared.uri.ListName.{ListName}
use Rattle.acq_outside.specs.Crash.{State}
use Rattle.acq_outside.specs.Fetches.{Fetches}
use Rattle.acq_outside.specs.Word.{IsSoundWord, IsWithinLimit, IsWord, after_word, begun}
use Rattle.acq_outside.specs.declared.method.Method as methods
use Rattle.acq_outside.specs.declared.word.Fetch.{Fetch}
use Rattle.acq_outside.specs.declared.word.Word.{Word}
use Rattle.acq_outside.specs.declared.word.Word.TheVariants.{Piece, Done, Not, NoMemory}
use Rattle.journal_model.specs.Rest.{part_bytes}
use Rattle.job_fetch.specs.Hearing.{CanHear, CanOpen, HasComeIn, Hears, LeadsTo, at_of, fetch_of}
use Rattle.job_fetch.specs.declared.intake.Heard.TheVariants.{More}
use Rattle.job_fetch.specs.declared.intake.Intake.{Intake}
use Rattle.job_fetch.specs.declared.intake.Intake.TheVariants.{Held, Unopened, Filling}

-- what holds before each word of a fetch
pub record IsComing {M : Type 0} (m : methods.Ghosts M) (job : Job) (part : List ℕ) (asked now : M) (disk : List State) (intake : Intake) (word : Word) : Type 0 where
  pub method : Fetches m asked now
  pub sound : IsSoundWord word
  pub says : IsWord (m.faults asked) (m.faults now) (m.world asked) (fetch_of job intake) (m.under now) word
  pub can : CanHear job disk intake
  pub come : HasComeIn (m.world asked) part job disk intake

pub within_limit : (before after : ℕ) (world : Option MirrorMap) (fetch : Fetch) (under : Option Fetch) (word : Word) → IsWord before after world fetch under word → IsWithinLimit fetch word
within_limit before after world fetch under (Piece place bytes) piece = piece.within
within_limit before after world fetch under (Done size) done = tt
within_limit before after world fetch under (Not end) other = tt
within_limit before after world fetch under NoMemory other = tt

-- a word behind which the fetch goes on
pub record LeadsOn (before after : ℕ) (fetch next : Fetch) (under : Option Fetch) : Type 0 where
  pub quiet : after ≡ before
  pub under_way : under ≡ Some next
  pub further : fetch.at < next.at
  pub within : next.at ≤ fetch.job.max

pub leads_on : (before after : ℕ) (world : Option MirrorMap) (fetch next : Fetch) (under : Option Fetch) (word : Word)
    → IsWord before after world fetch under word → after_word fetch word ≡ Some next → LeadsOn before after fetch next under
leads_on before after world fetch next under (Piece place bytes) piece goes =
    let at : next.at ≡ fetch.at + length bytes = cc in
    record { quiet = piece.quiet; under_way = piece.under_way ∙ goes; further = omega (arith, at, piece.nonempty); within = omega (arith, at, piece.within) }
leads_on before after world fetch next under (Done size) done goes = absurd cc
leads_on before after world fetch next under (Not end) other goes = absurd cc
leads_on before after world fetch next under NoMemory other goes = absurd cc

pub next_word : (before mid after : ℕ) (world same : Option MirrorMap) (fetch next : Fetch) (under later : Option Fetch) (word : Word)
    → LeadsOn before mid fetch next under → same ≡ world → IfSome under (λ f. IsWord mid after same f later word) → IsWord before after world next later word
next_word before mid after world same fetch next under later word leads e is =
    let now : IsWord mid after same next later word = rw leads.under_way at is in
    subst (λ b. IsWord b after world next later word) leads.quiet (subst (λ w. IsWord mid after w next later word) e now)

-- the next word, once what came before it is heard
pub coming_on : {M : Type 0} (m : methods.Ghosts M) (job : Job) (part : List ℕ) (asked now later : M) (old new : List State) (intake next : Intake) (word said : Word)
    → IsComing m job part asked now old intake word → LeadsTo job intake word new (More next) → Hears (m.world asked) part job intake new (More next)
    → Fetches m now later → IsSoundWord said → IfSome (m.under now) (λ f. IsWord (m.faults now) (m.faults later) (m.world now) f (m.under later) said) → IsComing m job part asked later new next said
coming_on m job part asked now later old new intake next word said coming leads hears frame sound says =
    let on = leads_on (m.faults asked) (m.faults now) (m.world asked) (fetch_of job intake) (fetch_of job next) (m.under now) word coming.says leads.1 in
    record {
      method = record { count = omega (arith, coming.method.count, frame.count); same = frame.same ∙ coming.method.same };
      sound = sound;
      says = next_word (m.faults asked) (m.faults now) (m.faults later) (m.world asked) (m.world now) (fetch_of job intake) (fetch_of job next) (m.under now) (m.under later) said on coming.method.same says;
      can = leads.2;
      come = hears;
    }

-- before the first word, into a list's file
pub file_coming : {M : Type 0} (m : methods.Ghosts M) (job : Job) (name list : ListName) (now : M) (disk : List State) (word : Word) → list ≡ name → CanOpen job disk name.0 → IsSoundWord word
    → IsWord (m.faults now) (m.faults now) (m.world now) (begun job) (m.under now) word → IsComing m job (part_bytes disk name.0) now now disk (Unopened list) word
file_coming m job name list now disk word same can sound says = subst (λ l. IsComing m job (part_bytes disk name.0) now now disk (Unopened l) word) (sym same) record {
  method = record { count = omega arith; same = refl };
  sound = sound;
  says = says;
  can = can;
  come = λ told. refl;
}

pub past_front : (job : Job) (intake : Intake) (now : List State) → CanHear job now intake → job.from ≤ at_of job intake
past_front job (Held bytes) now can = omega (arith, can)
past_front job (Unopened name) now can = omega arith
past_front job (Filling filling) now can = can.past
