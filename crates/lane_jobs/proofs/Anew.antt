-- An answer comes in on a board that may know the files of one source anew.
use Rattle.std.proofs.Common.{◌≡◌, ◌∙◌, ◌<◌, ℕ, suc, Bool, List, [], ◌∷◌, length, Option, Some, None, refl, sym, ap, subst}
use Rattle.std.specs.Prelude.{slice_get, slice_index_or}
use Rattle.acq_base.specs.Mirror.{MirrorMap}
use Rattle.acq_base.specs.declared.installed.Old.{Old}
use Rattle.acq_outside.specs.Crash.{IsShown, State}
use Rattle.acq_outside.specs.Disk.{Files}
use Rattle.acq_outside.specs.States.{IsTold, Since}
use Rattle.board_model.specs.Agreeing.{part_at}
use Rattle.board_model.specs.Boards.{Asker, Board, absorbed, asker_of, lane_with, took_from}
use Rattle.board_model.specs.CallLaws.{JobsAlwaysStand}
use Rattle.board_model.specs.ReadAnew.{IsReadAnew, KeepsRelease, StandsOn, with_old}
use Rattle.board_model.specs.Runs.{Note}
use Rattle.board_model.specs.Uses.{WantedPart}
use Rattle.job_fetch.specs.Hearing.{ChangesFile, name_of}
use Rattle.journal_model.specs.Rest.{KeptAtRestSince}
use Rattle.lists_dir.specs.Installed.{installed_of}
use Rattle.run_jobs.proofs.Keeping.{told_back, told_on}
use Rattle.run_jobs.proofs.Lists.{HasLists, lists_changed}
use Rattle.run_jobs.proofs.OneJob.{Laws}
use Rattle.run_jobs.proofs.Rising.{IsCountedOn}
use Rattle.run_jobs.specs.Coupling.{HasWantedPart}
use Rattle.run_jobs.specs.Running.{HasCounted, IsSoundBegun, IsUnderWay, RunHasHeard, RunStart, SameBoard}
use Rattle.update_core.specs.TakenIn.{TakesIn}
use Rattle.update_model.specs.Trails.{LaneAnswer}
use Rattle.update_model.specs.declared.ask.Closed.{Closed}
use Rattle.lane_jobs.proofs.Answered.{HasTakenIn, IsOutAt, answer_comes, own_of}
use Rattle.lane_jobs.proofs.Changes.{change_moments}
use Rattle.lane_jobs.specs.Answering.{IsAnswered}
use Rattle.lane_jobs.specs.Going.{IsTransfer}
use Rattle.lane_jobs.specs.JobsOut.{JobsOut, with_row}
use Rattle.lane_jobs.specs.declared.transfers.Transfer.{Transfer}

-- ---- before the answer

-- where the disk tells nothing, the same calls would have led there beside other files
heard_anew : Laws → (begun : RunStart) (notes : List Note) (n : ℕ) (files : Old) (b : Board) (now : List State) → KeepsRelease n files b → (IsTold now → with_old n files b ≡ b) → RunHasHeard begun notes b now → RunHasHeard begun notes (with_old n files b) now
heard_anew laws begun notes n files b [] keeps same heard =
    let others = laws.lists.anew begun.config heard.olds notes b (with_old n files b) heard.reached (record { n = n; old = files; release = keeps; is = refl }) in
    record { config = heard.config; olds = others.olds; same = λ told. absurd told; reached = others.reached; sound = heard.sound; answers = heard.answers }
heard_anew laws begun notes n files b (s ∷ past) keeps same heard = subst (λ (x : Board). RunHasHeard begun notes x (s ∷ past)) (sym (same tt)) heard

lists_anew : (n : ℕ) (files : Old) (b : Board) (now : List State) → (IsTold now → with_old n files b ≡ b) → HasLists b now → HasLists (with_old n files b) now
lists_anew n files b [] same has = tt
lists_anew n files b (s ∷ past) same has = subst (λ (x : Board). HasLists x (s ∷ past)) (sym (same tt)) has

under_anew : Laws → (begun : RunStart) (notes : List Note) (n : ℕ) (files : Old) (b : Board) (now : List State) → KeepsRelease n files b → (IsTold now → with_old n files b ≡ b) → IsUnderWay begun notes b now → IsUnderWay begun notes (with_old n files b) now
under_anew laws begun notes n files b now keeps same under = record {
  heard = heard_anew laws begun notes n files b now keeps same under.heard;
  uses = record { each = λ name told. subst (λ (w : WantedPart). HasWantedPart w name (begun.parts name) now) (sym (laws.lists.wanted n files b name)) (under.uses.each name told) };
  lists = lists_anew n files b now same under.lists;
}

-- the items ask the same
transfer_anew : Laws → (begun : RunStart) (n : ℕ) (files : Old) (b : Board) (now : List State) (world : Option MirrorMap) (t : Transfer) → IsTransfer begun b now world t → IsTransfer begun (with_old n files b) now world t
transfer_anew laws begun n files b now world t is = record {
  a = is.a;
  asks = laws.lists.asker n files b t.job.no ∙ is.asks;
  job_is = is.job_is;
  list = is.list;
  can = is.can;
  past = is.past;
  come = is.come;
}

out_anew : Laws → (begun : RunStart) (notes : List Note) (n : ℕ) (files : Old) (b : Board) (jobs : JobsOut) (now : List State) (k : ℕ) (t : Transfer) → KeepsRelease n files b → (IsTold now → with_old n files b ≡ b) → IsOutAt begun notes b jobs now k t
    → IsOutAt begun notes (with_old n files b) jobs now k t
out_anew laws begun notes n files b jobs now k t keeps same p = record {
  sound = p.sound;
  under = under_anew laws begun notes n files b now keeps same p.under;
  numbers = p.numbers;
  each = λ lane x at. transfer_anew laws begun n files b now (slice_index_or begun.mirrors (suc lane) None) x (p.each lane x at);
  at = p.at;
}

same_asker : Laws → (begun : RunStart) (notes : List Note) (n : ℕ) (files : Old) (b : Board) (jobs : JobsOut) (now : List State) (k : ℕ) (t : Transfer) → (p : IsOutAt begun notes b jobs now k t) → (q : IsOutAt begun notes (with_old n files b) jobs now k t)
    → (own_of p).a ≡ (own_of q).a
same_asker laws begun notes n files b jobs now k t p q =
    let own = own_of p in
    let anew = own_of q in
    let both : Some own.a ≡ Some anew.a = sym own.asks ∙ (sym (laws.lists.asker n files b t.job.no) ∙ anew.asks) in
    cc

-- ---- the answer

-- a disk that tells has what the board knows, so that this stays
pub takes_told : Laws → (begun : RunStart) (tells : Bool) (files : Files) (b c : Board) (method number : ℕ) (closed : Closed) (into : Option (List ℕ)) (old now : List State) → IsSoundBegun begun → b.config ≡ begun.config → IsShown tells files now
    → ChangesFile into old now → HasLists b old → (takes : TakesIn tells files b method number closed c) → IsTold old → takes.between ≡ b
takes_told laws begun tells files b c method number closed into old now sound config shown changes has takes told =
    by now shown (told_on (KeptAtRestSince old) old now moments told) (lists_changed laws.lists begun b into old now sound config (told_back (KeptAtRestSince old) old now moments) changes has)
  where
    moments : Since old now (KeptAtRestSince old)
    moments = change_moments into old now changes

    by : (now : List State) → IsShown tells files now → IsTold now → HasLists b now → takes.between ≡ b
    by [] shown still has = absurd still
    by (s ∷ past) shown still has = takes.same shown.0 (subst (λ (f : Files). StandsOn (installed_of f) b) (sym shown.1) has)

-- what a run is once the answer is taken in by a board that may know one source's files anew
pub answer_anew : Laws → JobsAlwaysStand → (begun : RunStart) (notes : List Note) (b c : Board) (jobs : JobsOut) (old now : List State) (k : ℕ) (t : Transfer) (method before after : ℕ) (counts later : List ℕ) (world : Option MirrorMap) (closed : Closed)
    → IsReadAnew b c → (IsTold old → c ≡ b)
    → (p : IsOutAt begun notes b jobs old k t) → slice_get begun.mirrors method ≡ Some world → method < length begun.counts → length later ≡ length begun.counts → HasCounted begun counts b → IsCountedOn counts later method before after closed
    → IsAnswered world (part_at begun.parts begun.config.sources (own_of p).a.key) t.job (name_of t.intake) before after old now closed
    → HasTakenIn begun notes later jobs (with_row k None jobs) (absorbed c method t.job.no closed) old now
answer_anew laws stand begun notes b c jobs old now k t method before after counts later world closed anew same p mirror few sized counted on given =
    let q = out_anew laws begun notes anew.n anew.old b jobs old k t anew.release (λ told. sym anew.is ∙ same told) p in
    let own = same_asker laws begun notes anew.n anew.old b jobs old k t p q in
    subst (λ (x : Board). HasTakenIn begun notes later jobs (with_row k None jobs) (absorbed x method t.job.no closed) old now) (sym anew.is)
    (answer_comes laws stand begun notes (with_old anew.n anew.old b) jobs old now k t method before after counts later world closed q mirror few sized
    (record { sized = counted.sized; faults = counted.faults }) on
    (subst (λ (a : Asker). IsAnswered world (part_at begun.parts begun.config.sources a.key) t.job (name_of t.intake) before after old now closed) own given))

-- ---- what stays of the board

same_from : (b : Board) (number : ℕ) (told : LaneAnswer) (from : Option ℕ) (a : Option Asker) → SameBoard b (took_from b number told from a)
same_from b number told (Some from) (Some a) = record { config = refl; settled = refl; verdicts = refl }
same_from b number told (Some from) None = record { config = refl; settled = refl; verdicts = refl }
same_from b number told None a = record { config = refl; settled = refl; verdicts = refl }

-- the board that takes it in
pub takes_as : (tells : Bool) (files : Files) (b c : Board) (method number : ℕ) (closed : Closed) → (takes : TakesIn tells files b method number closed c) → c ≡ absorbed (with_old takes.anew.n takes.anew.old b) method number closed
takes_as tells files b c method number closed takes = takes.is ∙ ap (λ (x : Board). absorbed x method number closed) takes.anew.is

pub same_taken : (tells : Bool) (files : Files) (b c : Board) (method number : ℕ) (closed : Closed) → TakesIn tells files b method number closed c → SameBoard b c
same_taken tells files b c method number closed takes =
    let before = with_old takes.anew.n takes.anew.old b in
    let same = same_from before number (record { lane = method; closed = closed }) (lane_with before.out number) (asker_of before number) in
    subst (λ (x : Board). SameBoard b x) (sym (takes_as tells files b c method number closed takes)) (record { config = same.config; settled = same.settled; verdicts = same.verdicts })
