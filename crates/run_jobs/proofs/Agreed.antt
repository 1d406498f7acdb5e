-- What a run has heard of a mirror, while the disk's states go on.
use Rattle.std.proofs.Common.{List, [], ◌∷◌, Option, subst}
use Rattle.acq_base.specs.Mirror.{MirrorMap}
use Rattle.acq_base.specs.declared.installed.Old.{Old}
use Rattle.acq_base.specs.declared.plan.Source.{Source}
use Rattle.acq_outside.specs.Crash.{State}
use Rattle.acq_outside.specs.States.{IsTold}
use Rattle.board_model.specs.Agreeing.{Agrees}
use Rattle.board_model.specs.Boards.{Board}
use Rattle.board_model.specs.Reached.{Reached}
use Rattle.board_model.specs.Runs.{Note}
use Rattle.update_model.specs.Outcomes.{PartFiles}
use Rattle.update_model.specs.declared.ask.Body.TheVariants as bodies
use Rattle.update_model.specs.declared.ask.Closed.{Closed}
use Rattle.update_model.specs.declared.ask.Closed.TheVariants as closings
use Rattle.run_jobs.specs.Mirrors.{ForMirror}
use Rattle.run_jobs.specs.Running.{AgreesWhereKnown, IsKnownOver, RunHasHeard, RunStart}
use Rattle.run_jobs.proofs.Rising.{for_mirror}

-- what is known where a disk tells is known so while it tells
known_back : (old now : List State) (closed : Closed) → (IsTold now → IsTold old) → IsKnownOver now closed → IsKnownOver old closed
known_back old now (closings.Served (bodies.Bytes bytes)) back known = tt
known_back old now (closings.Served (bodies.Staged sum)) back known = back known
known_back old now (closings.Not end) back known = tt

pub agrees_on : (old now : List State) (mirror : MirrorMap) (parts : PartFiles) (sources : List Source) (notes : List Note) → (IsTold now → IsTold old) → AgreesWhereKnown old mirror parts sources notes → AgreesWhereKnown now mirror parts sources notes
agrees_on old now mirror parts sources [] back agrees = tt
agrees_on old now mirror parts sources (note ∷ notes) back agrees = (λ known. agrees.0 (known_back old now note.told.closed back known), agrees_on old now mirror parts sources notes back agrees.1)

pub heard_on : (old now : List State) (mirrors : List (Option MirrorMap)) (parts : PartFiles) (sources : List Source) (notes : List Note) → (IsTold now → IsTold old) → ForMirror mirrors (λ m. AgreesWhereKnown old m parts sources notes)
    → ForMirror mirrors (λ m. AgreesWhereKnown now m parts sources notes)
heard_on old now mirrors parts sources notes back agrees = for_mirror mirrors (λ (m : MirrorMap). AgreesWhereKnown old m parts sources notes) (λ (m : MirrorMap). AgreesWhereKnown now m parts sources notes) (λ mirror. agrees_on old now mirror parts sources notes back) agrees

-- where the disk tells, all is known
known_told : (now : List State) (closed : Closed) → IsTold now → IsKnownOver now closed
known_told now (closings.Served (bodies.Bytes bytes)) told = tt
known_told now (closings.Served (bodies.Staged sum)) told = told
known_told now (closings.Not end) told = tt

pub agrees_told : (now : List State) (mirror : MirrorMap) (parts : PartFiles) (sources : List Source) (notes : List Note) → IsTold now → AgreesWhereKnown now mirror parts sources notes → Agrees mirror parts sources notes
agrees_told now mirror parts sources [] told agrees = tt
agrees_told now mirror parts sources (note ∷ notes) told agrees = (agrees.0 (known_told now note.told.closed told), agrees_told now mirror parts sources notes told agrees.1)

pub heard_told : (now : List State) (mirrors : List (Option MirrorMap)) (parts : PartFiles) (sources : List Source) (notes : List Note) → IsTold now → ForMirror mirrors (λ m. AgreesWhereKnown now m parts sources notes)
    → ForMirror mirrors (λ m. Agrees m parts sources notes)
heard_told now mirrors parts sources notes told agrees = for_mirror mirrors (λ (m : MirrorMap). AgreesWhereKnown now m parts sources notes) (λ (m : MirrorMap). Agrees m parts sources notes) (λ mirror. agrees_told now mirror parts sources notes told) agrees

pub run_agrees : (start : RunStart) (notes : List Note) {b : _} (now : List State) → RunHasHeard start notes b now → IsTold now → ForMirror start.mirrors (λ m. Agrees m start.parts start.config.sources notes)
run_agrees start notes now heard told = heard_told now start.mirrors start.parts start.config.sources notes told heard.answers

-- ---- boards to which the run's calls led

-- where the disk tells, they led there beside what the run began with
pub reached_told : (begun : RunStart) (notes : List Note) (b : Board) (now : List State) → RunHasHeard begun notes b now → IsTold now → Reached begun.config begun.olds notes b
reached_told begun notes b now heard told = subst (λ (olds : List Old). Reached begun.config olds notes b) (heard.same told) heard.reached

-- what was heard is so while the disk goes on
pub heard_still : (begun : RunStart) (notes : List Note) (b : Board) (old now : List State) → (IsTold now → IsTold old) → RunHasHeard begun notes b old → RunHasHeard begun notes b now
heard_still begun notes b old now back heard = record {
  config = heard.config;
  olds = heard.olds;
  same = λ told. heard.same (back told);
  reached = heard.reached;
  sound = heard.sound;
  answers = heard_on old now begun.mirrors begun.parts begun.config.sources notes back heard.answers;
}
