-- Jobs that are out, while words of others come.
use Rattle.std.proofs.Common.{◌≡◌, ◌∙◌, ◌≤◌, ◌+◌, ℕ, zero, suc, true, false, Bool, List, [], ◌∷◌, length, take, Option, Some, IfSome, refl, sym, ap, subst, arith}
use Rattle.std.specs.Prelude.{◌==◌, slice_get, is_some}
use Rattle.std.proofs.lemmas.Bool.Decides.{nat_tests}
use Rattle.acq_base.specs.Mirror.{MirrorMap}
use Rattle.acq_base.specs.declared.fetch.Job.{Job}
use Rattle.acq_outside.specs.Crash.{State}
use Rattle.acq_outside.specs.States.{IsTold, IsNow}
use Rattle.board_model.specs.Agreeing.{part_at}
use Rattle.board_model.specs.Boards.{Board, asker_of, is_out_as, lane_with}
use Rattle.board_model.specs.CallLaws.{JobsAlwaysStand}
use Rattle.board_model.specs.Jobs.{JobsStand, one_if, times_out}
use Rattle.board_model.specs.Reached.{Reached}
use Rattle.board_model.specs.Runs.{Note}
use Rattle.board_model.specs.Slots.{Setup}
use Rattle.job_fetch.specs.Hearing.{CanHear, HasCome, HasComeIn, name_of}
use Rattle.job_fetch.specs.Pieces.{IsFilling}
use Rattle.job_fetch.specs.declared.filling.Filling.{Filling as ListFile}
use Rattle.job_fetch.specs.declared.intake.Intake.{Intake}
use Rattle.job_fetch.specs.declared.intake.Intake.TheVariants.{Held, Unopened, Filling}
use Rattle.hash_gate.specs.Pieces.{HasSummed}
use Rattle.journal_model.specs.Rest.{IsPartThere, bytes_in, part_bytes, part_file}
use Rattle.acq_base.specs.declared.installed.Old.{Old}
use Rattle.run_jobs.specs.Running.{RunStart}
use Rattle.lane_jobs.specs.Going.{IsTransfer}
use Rattle.lane_jobs.specs.declared.transfers.Transfer.{Transfer}

-- ---- one lane for a number

pub jobs_stand : JobsAlwaysStand → (config : Setup) (olds : List Old) (notes : List Note) (b : Board) → (r : Reached config olds notes b) → JobsStand (record { board = b; jobs = r.jobs; queue = []; notes = notes })
jobs_stand law config olds notes b r = subst JobsStand r.leads (law config olds r.lanes r.events r.each r.some)

one_at_most : (c : Bool) → one_if c ≤ 1
one_at_most true = omega arith
one_at_most false = omega arith

-- a number is out at most once
pub out_once : JobsAlwaysStand → (config : Setup) (olds : List Old) (notes : List Note) (b : Board) (n : ℕ) → Reached config olds notes b → times_out n b.out ≤ 1
out_once law config olds notes b n r =
    let once = (jobs_stand law config olds notes b r).once n in
    let most = one_at_most (is_some (asker_of b n)) in
    omega (arith, once, most)

same_number : (n : ℕ) → (n == n) ≡ true
same_number n = grind (arith, nat_tests)

times_there : (out : List (Option ℕ)) (lane n : ℕ) → slice_get out lane ≡ Some (Some n) → 1 ≤ times_out n out
times_there [] lane n at = absurd (cc)
times_there (o ∷ out) zero n at = let same : o ≡ Some n = cc in rw same (rw (same_number n) (omega arith))
times_there (o ∷ out) (suc lane) n at = let more = times_there out lane n at in omega (arith, more)

-- it is out from the first lane that has it
pub lane_at : (out : List (Option ℕ)) (lane n : ℕ) → slice_get out lane ≡ Some (Some n) → times_out n out ≤ 1 → lane_with out n ≡ Some lane
lane_at [] lane n at once = absurd (cc)
lane_at (o ∷ out) zero n at once = let same : o ≡ Some n = cc in rw same (rw (same_number n) refl)
lane_at (o ∷ out) (suc lane) n at once = by (is_out_as n o) refl (λ fewer. lane_at out lane n at fewer)
  where
    by : (c : Bool) → is_out_as n o ≡ c → (times_out n out ≤ 1 → lane_with out n ≡ Some lane) → lane_with (o ∷ out) n ≡ Some (suc lane)
    by true is later =
        let more = times_there out lane n at in
        let two : one_if (is_out_as n o) + times_out n out ≤ 1 = once in
        let here : one_if (is_out_as n o) ≡ 1 = ap one_if is in
        absurd (omega (arith, more, two, here))
    by false is later =
        let here : one_if (is_out_as n o) ≡ 0 = ap one_if is in
        let fewer : times_out n out ≤ 1 = omega (arith, once, here) in
        rw is (rw (later fewer) (ap (λ (k : ℕ). Some k) (omega arith)))

-- ---- a list's file that stays

there_still : (name : List ℕ) (old now : List State) → (IsTold now → IsTold old) → part_file now name ≡ part_file old name → IsNow (IsPartThere name) old → IsNow (IsPartThere name) now
there_still name old [] back same there = tt
there_still name [] (s ∷ past) back same there = absurd (back tt)
there_still name (o ∷ before) (s ∷ past) back same there = record { file = there.file; is = same ∙ there.is }

bytes_same : (name : List ℕ) (old now : List State) → part_file now name ≡ part_file old name → part_bytes now name ≡ part_bytes old name
bytes_same name old now same = ap bytes_in same

filling_still : (filling : ListFile) (old now : List State) → (IsTold now → IsTold old) → part_file now filling.part.name ≡ part_file old filling.part.name → IsFilling old filling → IsFilling now filling
filling_still filling old now back same is =
    let bytes = bytes_same filling.part.name old now same in
    record {
      there = there_still filling.part.name old now back same is.there;
      len = λ told. ap length bytes ∙ is.len (back told);
      small = is.small;
      summed = λ told. subst (λ (l : List ℕ). HasSummed filling.total l) (sym bytes) (is.summed (back told));
    }

-- the file of what has come of a job stays
abbrev pub StaysFor : Option (List ℕ) → List State → List State → Type 0
StaysFor into old now = IfSome into (λ name. part_file now name ≡ part_file old name)

can_still : (job : Job) (intake : Intake) (old now : List State) → (IsTold now → IsTold old) → StaysFor (name_of intake) old now → CanHear job old intake → CanHear job now intake
can_still job (Held bytes) old now back same can = can
can_still job (Unopened name) old now back same can =
    record { named = can.named; keep = λ told. subst (λ (l : List ℕ). job.from ≤ length l) (sym (bytes_same name.0 old now same)) (can.keep (back told)) }
can_still job (Filling filling) old now back same can = record { fills = filling_still filling old now back same can.fills; past = can.past }

come_still : (world : Option MirrorMap) (part : List ℕ) (job : Job) (intake : Intake) (old now : List State) → (IsTold now → IsTold old) → StaysFor (name_of intake) old now → HasComeIn world part job old intake → HasComeIn world part job now intake
come_still world part job (Held bytes) old now back same come = come
come_still world part job (Unopened name) old now back same come = λ told. ap (λ (l : List ℕ). take job.from l) (bytes_same name.0 old now same) ∙ come (back told)
come_still world part job (Filling filling) old now back same come = λ told.
    subst (λ (l : List ℕ). HasCome world part job filling.part.len l) (sym (bytes_same filling.part.name old now same)) (come (back told))

-- a job whose file stays, and whose item asks the same
pub transfer_still : (begun : RunStart) (b c : Board) (old now : List State) (world : Option MirrorMap) (t : Transfer) → (is : IsTransfer begun b old world t) → asker_of c t.job.no ≡ Some is.a → (IsTold now → IsTold old)
    → StaysFor (name_of t.intake) old now → IsTransfer begun c now world t
transfer_still begun b c old now world t is asks back same = record {
  a = is.a;
  asks = asks;
  job_is = is.job_is;
  list = is.list;
  can = can_still t.job t.intake old now back same is.can;
  past = is.past;
  come = come_still world (part_at begun.parts begun.config.sources is.a.key) t.job t.intake old now back same is.come;
}
